use Rattle.std.proofs.Common.{◌+◌, ◌++◌, ◌∷◌, ◌∙◌, [], ℕ, List, ap, arith, false, map, sym}
use Rattle.std.specs.List.{range_with_len}
use Rattle.std.proofs.lemmas.List.FromFn.{map-range_with_len_more}
use Rattle.std.specs.Mem.Slots.{slots_items}
use Rattle.flit_table.specs.Closing.{word_in}
use Rattle.flit_table.proofs.CloseLaws.{elem_found}
use Rattle.flit_table.proofs.closing.image_of_shadows.Goals as goal

pub loop-word-preserved : goal.loop-word-preserved
loop-word-preserved c =
    let xs = slots_items c.args.closed.now.words in
    let word = c.loop-word.word in
    let kept : ℕ → ℕ = λ i. word_in xs c.args.count false i in
    let pushed = c.push_reserved.ensures in (
      (let was = c.loop-word.invariant.0 in let more = pushed.len in omega (arith, was, more)),
      (let was = c.loop-word.invariant.1 in let same = pushed.capacity in omega (arith, was, same)),
      pushed.items
          ∙ ap (λ (l : List ℕ). l ++ c.word-shadow.result ∷ []) c.loop-word.invariant.2
          ∙ ap (λ (w : ℕ). map kept (range_with_len 0 word) ++ w ∷ []) (sym (elem_found xs (c.args.count + (word + 1)) c.word-shadow.result c.word-shadow.ensures))
          ∙ sym (map-range_with_len_more kept 0 word word (omega arith)),
    )
