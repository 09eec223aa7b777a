use Rattle.std.proofs.Common.{rules, ◌≡◌, Some, sym, ap, ◌∙◌, subst}
use Rattle.std.specs.Mem.Slots.{slots_items}
use Rattle.flit_words.specs.Layouts.{words_of}
use Rattle.flit_table.specs.Closing.{Closes, picks_of, image_in}
use Rattle.flit_table.proofs.CloseLaws.{closes}
use Rattle.flit_table.proofs.running.Running.close.Goals as goal

same_some : {A : Type 0} (x y : A) → Some x ≡ Some y → x ≡ y
same_some x y e = cc

pub returns-clause-closes : goal.returns-clause-closes
returns-clause-closes g c = λ home is.
    let M = g.S.Structure.meaning in
    let key = c.inside.inside.table.shared.key in
    let picks = picks_of c.args.ahead.now in
    let xs = slots_items c.close_with-closed.result.words in
    let v = c.args.pass.held.seat.me.0 in
    let final = c.close_with-closed.ensures.values.2 in
    let t = closes (M key.structure.value) (g.met.S.Structure.lawful key.structure.value) key final.0 _ v picks xs final.1.0 final.1.1 final.2 in
    let count : c.words-count.result ≡ words_of (M key.structure.value).layout = c.words-count.ensures
    ∙ ap words_of (c.layout.ensures ∙ ap (λ z. (M z).layout) (sym c.inside.invariant.structure)) in
    let image : c.in_ok-words.field-0.items ≡ image_in picks (words_of (M key.structure.value).layout) xs = c.in_ok-words.ensures
    ∙ ap (λ n. image_in picks n xs) count in
    let found : c.args.running.now ≡ Some c.in-Some.inside = search rules in
    let same : key ≡ home.origin = ap (λ h. h.origin) c.inside.view_is ∙ ap (λ h. h.origin) (same_some c.in-Some.inside home (sym found ∙ is)) in
    subst (λ o. Closes (M o.structure.value) o v picks c.in_ok-words.field-0.items) same (subst (Closes (M key.structure.value) key v picks) (sym image) t)
