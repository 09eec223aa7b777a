use Rattle.std.proofs.Common.{◌≡◌, ◌==◌, take, nat_cmp}
use Rattle.std.specs.List.{list_any}
use Rattle.std.specs.FinMap.{FinMap, entries, retain_keys}
use Rattle.flit_model.specs.declared.calls.Entry.{Entry}
use Rattle.flit_sched.proofs.histories.waiting_at_words.Given as goal

abbrev pub invariant-loop-word : goal.invariant-loop-word
invariant-loop-word l = (m : FinMap nat_cmp Entry) → l.updates.entries ≡ entries m →
    l.taken.entries ≡ entries (retain_keys m (λ word. list_any (λ w. w == word) (take l.word-index l.words)))
