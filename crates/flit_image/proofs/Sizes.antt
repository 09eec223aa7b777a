-- How many words a layout has at most.
use Rattle.std.proofs.Common.{ℕ, ◌+◌, ◌-◌, ◌*◌, ◌<◌, ◌≤◌, ◌^◌, Bool, true, false, arith, if◌then◌else◌}
use Rattle.flit_words.specs.declared.layouts.Kind.{Kind}
use Rattle.flit_words.specs.declared.layouts.Kind.TheVariants.{List as List_kind, Hash, Tree}
use Rattle.flit_words.specs.declared.layouts.Layout.{Layout}
use Rattle.flit_words.specs.Layouts.{Accepted, words_of, last_row_of, most_buckets, parts_of, first_row_of}

chosen_le : (b : Bool) (n : ℕ) → (if b then n else 0) ≤ n
chosen_le true n = omega arith
chosen_le false n = omega arith

sum_below : (k : Kind) (b r v : ℕ) → b ≤ most_buckets k → r ≤ 1048575 → v ≤ r + (first_row_of k - 1) → b + parts_of k * (r + (first_row_of k - 1)) + v < 2 ^ 24
sum_below List_kind b r v few most rows = omega arith
sum_below Hash b r v few most rows = omega arith
sum_below Tree b r v few most rows = omega arith

pub words_of-below : (l : Layout) → Accepted l → words_of l < 2 ^ 24
words_of-below l a =
    sum_below l.kind l.buckets l.rows (if l.values then last_row_of l else 0) a.most_bucket a.most_row (chosen_le l.values (last_row_of l))
