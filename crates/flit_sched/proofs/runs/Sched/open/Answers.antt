use Rattle.std.proofs.Common.{◌≡◌, ap, sym, ◌∙◌, subst, arith, vec_capacity, map, ◌+◌}
use Rattle.std.specs.FinMap as map_of
use Rattle.flit_words.specs.Layouts.{Accepted, words_of}
use Rattle.flit_model.specs.States.{state_from}
use Rattle.flit_structure.specs.Moments.{first_moment}
use Rattle.flit_sched.specs.Openings.{content_of, item_count, opening_at}
use Rattle.flit_sched.proofs.OpenKept.{held_opened, seen_opened}
use Rattle.flit_sched.proofs.runs.Sched.open.Goals as goal

pub words-requires : goal.words-requires
words-requires g c =
    let meaning = g.S.Structure.meaning c.args.structure in
    let laws = g.met.S.Structure.lawful c.args.structure in
    subst Accepted (sym c.layout.ensures)
    (laws.sized (first_moment meaning.layout (opening_at c.args.start.now)) (laws.opens (opening_at c.args.start.now) c.requires.opens).2).accepted

pub invariant_of-result-2 : goal.invariant_of-result-2
invariant_of-result-2 g c =
    held_opened (g.S.Structure.meaning c.args.structure) (g.met.S.Structure.lawful c.args.structure) c.args.start.now c.args.work.items
    c.in_ok-hire.field-0.items
    c.requires.opens c.requires.right c.in_ok-hire.ensures c.in_ok-from_slice.field-0.items c.in_ok-from_slice-2.field-0.items _
    c.in_ok-with_capacity.field-0.items c.in_ok-with_capacity-2.field-0.items
    (c.in_ok-from_slice.ensures.items ∙ c.deref-6.ensures.value) (c.in_ok-from_slice-2.ensures.items ∙ c.deref-7.ensures.value)
    (c.machine.view_is ∙ c.in_ok-machine.ensures ∙ ap (λ l. state_from l c.as_slice-words.result.now) c.layout.ensures
    ∙ ap (λ ws. state_from (g.S.Structure.meaning c.args.structure).layout ws) c.as_slice-words.ensures.value)
    c.in_ok-with_capacity.ensures.items c.in_ok-with_capacity-2.ensures.items
    c.in_ok-keys.keys.items c.in_ok-values.values.items c.in_ok-vec.field-0.items (vec_capacity c.in_ok-with_capacity.field-0)
    (vec_capacity c.in_ok-with_capacity-2.field-0)
    c.in_ok-keys.ensures.rising (rw c.deref-2.ensures.value at c.in_ok-keys.ensures.has)
    (let v : map (λ k. map_of.get (content_of c.deref-3.result.now c.deref-4.result.now) k) c.deref-5.result.now ≡ c.in_ok-values.values.items =
    c.in_ok-values.ensures in
    ap (λ ks. map (λ k. map_of.get (content_of ks c.args.start.now.values.items) k) c.in_ok-keys.keys.items) (sym c.deref-3.ensures.value)
    ∙ ap (λ vs. map (λ k. map_of.get (content_of c.deref-3.result.now vs) k) c.in_ok-keys.keys.items) (sym c.deref-4.ensures.value)
    ∙ ap (λ ks. map (λ k. map_of.get (content_of c.deref-3.result.now c.deref-4.result.now) k) ks) (sym c.deref-5.ensures.value) ∙ v)
    (rw c.as_slice-words.ensures.value at c.are_raw.ensures)
    (let e : vec_capacity c.in_ok-with_capacity.field-0 ≡ c.count_items-items.result + c.len.result = c.in_ok-with_capacity.ensures.exact in
    let n = c.count_items-items.ensures ∙ ap item_count c.deref.ensures.value in
    let k = c.len.ensures in
    let o = c.args.work.ok in
    omega (arith, e, n, k, o.0))
    (let e = c.in_ok-with_capacity-2.ensures.exact in let n = c.count_items-items.ensures ∙ ap item_count c.deref.ensures.value in omega (arith, e, n))
    (let n = c.in_ok-vec.ensures.len in let o = c.in_ok-vec.field-0.ok in let w = c.words.ensures in let l = ap words_of c.layout.ensures in
    omega (arith, n, o.0, w, l))

pub returns-clause-run : goal.returns-clause-run
returns-clause-run g c =
    seen_opened (g.S.Structure.meaning c.args.structure) (g.met.S.Structure.lawful c.args.structure) c.args.start.now c.args.work.items
    c.in_ok-hire.field-0.items
    c.requires.opens c.requires.right c.in_ok-hire.ensures c.in_ok-from_slice.field-0.items c.in_ok-from_slice-2.field-0.items _
    c.in_ok-with_capacity.field-0.items c.in_ok-with_capacity-2.field-0.items
    (c.in_ok-from_slice.ensures.items ∙ c.deref-6.ensures.value) (c.in_ok-from_slice-2.ensures.items ∙ c.deref-7.ensures.value)
    (c.machine.view_is ∙ c.in_ok-machine.ensures ∙ ap (λ l. state_from l c.as_slice-words.result.now) c.layout.ensures
    ∙ ap (λ ws. state_from (g.S.Structure.meaning c.args.structure).layout ws) c.as_slice-words.ensures.value)
    c.in_ok-with_capacity.ensures.items c.in_ok-with_capacity-2.ensures.items
