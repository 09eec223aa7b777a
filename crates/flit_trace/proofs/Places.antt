-- A trace's layout has at most 4194320 slots.
use Rattle.std.proofs.Common.{ℕ, ◌+◌, ◌-◌, ◌*◌, ◌≤◌, Bool, true, false, if◌then◌else◌, lit≤, arith}
use Rattle.flit_words.specs.declared.layouts.Kind.{Kind}
use Rattle.flit_words.specs.declared.layouts.Kind.TheVariants.{List as List_kind, Hash, Tree}
use Rattle.flit_words.specs.declared.layouts.Layout.{Layout}
use Rattle.flit_words.specs.Layouts.{Accepted, words_of, last_row_of, most_buckets, parts_of, first_row_of}
use Rattle.flit_trace.specs.declared.heads.Place.{Place}
use Rattle.flit_trace.specs.declared.heads.Place.TheVariants.{Adjacent, Hashed, Packed, Lines}
use Rattle.flit_trace.specs.declared.drafts.Draft.{Draft}
use Rattle.flit_trace.specs.Contents.{slots_of, head_of}
use Rattle.flit_trace.specs.Drafts.{IsPlace, IsSound}

chosen_le : (b : Bool) (n : ℕ) → (if b then n else 0) ≤ n
chosen_le true n = omega arith
chosen_le false n = omega arith

sum_few : (k : Kind) (b r v : ℕ) → b ≤ most_buckets k → r ≤ 1048575 → v ≤ r + (first_row_of k - 1) → b + parts_of k * (r + (first_row_of k - 1)) + v ≤ 4194320
sum_few List_kind b r v few most rows = omega arith
sum_few Hash b r v few most rows = omega arith
sum_few Tree b r v few most rows = omega arith

pub words_few : (l : Layout) → Accepted l → words_of l ≤ 4194320
words_few l a =
    sum_few l.kind l.buckets l.rows (if l.values then last_row_of l else 0) a.most_bucket a.most_row (chosen_le l.values (last_row_of l))

slots_few : (p : Place) (words : ℕ) → IsPlace p → words ≤ 4194320 → slots_of p words ≤ 4194320
slots_few Adjacent words is few = few
slots_few (Hashed n) words is few = let most = is.1 in omega arith
slots_few Packed words is few = lit≤ tt
slots_few Lines words is few = omega arith

pub head_accepted : (d : Draft) → IsSound d → Accepted (head_of d).layout
head_accepted d s =
    let a = s.accepted in
    record {
      least_bucket = a.least_bucket;
      most_bucket = a.most_bucket;
      least_row = a.least_row;
      most_row = a.most_row;
      most_slot = slots_few d.place (words_of d.layout) s.place (words_few d.layout a);
      least_worker = a.least_worker;
      most_worker = a.most_worker;
      least_limit = a.least_limit;
      most_limit = a.most_limit;
    }
