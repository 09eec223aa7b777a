use Rattle.std.proofs.Common.{rules, ◌≡◌, List, ℕ, [], ◌∷◌, ◌++◌, replicate, refl, sym, subst}
use Rattle.flit_table.specs.Moves.{EntersUnqueued}
use Rattle.flit_table.specs.Views.{opening_at, new_post}
use Rattle.flit_table.proofs.OpenGoals.{open_asked, open_unqueued, table_of}
use Rattle.flit_table.proofs.running.Running.open.Goals as goal

pub of_words-requires : goal.of_words-requires
of_words-requires g c =
    let M = g.S.Structure.meaning in
    let words : List ℕ = c.args.start.image.words.items in
    let laid : c.as_slice.result.now ≡ 0 ∷ (words ++ (words ++ (replicate (M c.args.structure).layout.slots 0 ++ 0 ∷ []))) = search rules in
    open_asked M g.met.S.Structure.lawful (record { structure = c.of.result; start = c.of-2.result }) c.args.structure c.args.start c.of.ensures
    c.of-2.ensures c.requires c.as_slice.result.now laid

pub invariant_of-result : goal.invariant_of-result
invariant_of-result g c =
    let M = g.S.Structure.meaning in
    let words : List ℕ = c.args.start.image.words.items in
    let laid : c.as_slice.result.now ≡ 0 ∷ (words ++ (words ++ (replicate (M c.args.structure).layout.slots 0 ++ 0 ∷ []))) = search rules in
    table_of M g.met.S.Structure.lawful c.args.structure c.args.start c.requires c.as_slice.result.now laid c.in_ok-table.table.shared.key
    c.in_ok-table.table.shared.table_id (search rules) (search rules) (search rules)

pub returns-clause-pass : goal.returns-clause-pass
returns-clause-pass g c =
    let M = g.S.Structure.meaning in
    let key = c.in_ok-table.table.shared.key in
    let structure : key.structure.value ≡ c.args.structure = search rules in
    let start : key.start.value ≡ c.args.start = search rules in
    let post : c.in_ok-table.seat.me.0.post ≡ new_post 1 = search rules in
    record {
      belongs = search rules;
      name = search rules;
      names = search rules;
      worker = search rules;
      least = search rules;
      most = search rules;
      at = search rules;
      queued = λ one. subst (EntersUnqueued (M key.structure.value)) (sym post)
          (open_unqueued M g.met.S.Structure.lawful key key.structure.value c.args.start refl start
          (subst (λ x. (M x).opens (opening_at c.args.start)) (sym structure) c.requires) one);
    }
