-- A history made from the front, of the settled updates and of reads in order.
use Rattle.std.proofs.Common.{◌≡◌, ℕ, suc, ◌+◌, ◌<◌, ◌≤◌, List, [], ◌∷◌, ◌++◌, length, drop, slice_index_or, append_assoc, refl, sym, ap, subst, ◌∙◌, arith}
use Rattle.std.proofs.lemmas.List.{drop_more}
use Rattle.std.proofs.Math.ListN.{drop_of_length-le}
use Rattle.flit_model.specs.declared.calls.Entry.{Entry}
use Rattle.flit_model.specs.declared.calls.Placed.{Placed}
use Rattle.flit_model.specs.Histories.{reads_at, history_from}
use Rattle.flit_sched.specs.Histories.{placed_before, placed_in_order, front_at, behind_front}
use Rattle.flit_sched.proofs.StableOrders.{up_sorted}
use Rattle.flit_sched.proofs.ReadOrders.{placed_order, those_at, sorted_at, AreFrom, IsLeft, front_of}

all_from : (rs : List Placed) → AreFrom 0 rs
all_from [] = tt
all_from (r ∷ rs) = (omega arith, all_from rs)

pub left_start : (reads sorted : List Placed) → sorted ≡ placed_in_order reads → IsLeft 0 sorted (drop 0 sorted)
left_start reads sorted e = subst (λ rs. IsLeft 0 rs rs) (sym e) (record {
  up = up_sorted placed_before placed_order reads;
  from =
      all_from (placed_in_order reads);
  same = λ m l. refl;
})

module _ (n : ℕ) (ys rest : List Placed) (left : IsLeft n ys rest) where
  pub left_front : front_at n rest ≡ those_at n ys
  left_front = (front_of n rest left.up left.from).front ∙ left.same n (omega arith)

  pub left_on : (next : ℕ) (later : List Placed) → next ≡ n + 1 → later ≡ behind_front n rest → IsLeft next ys later
  left_on next later above e =
      let f : IsLeft (suc n) rest (behind_front n rest) = (front_of n rest left.up left.from).left in
      let here : IsLeft (suc n) ys (behind_front n rest) = record { up = f.up; from = f.from; same = λ m l. f.same m l ∙ left.same m (omega arith) } in
      let k : suc n ≡ next = omega arith in
      subst (λ rs. IsLeft next ys rs) (sym e) (subst (λ m. IsLeft m ys (behind_front n rest)) k here)

module _ (settled : List Entry) (reads sorted rest : List Placed) (i : ℕ) (is : sorted ≡ placed_in_order reads) (left : IsLeft i sorted rest) where
  front_is : front_at i rest ≡ reads_at i reads
  front_is = left_front i sorted rest left ∙ ap (those_at i) is ∙ sorted_at i reads

  pub merge_more : (now mid later whole : List Entry) (next : ℕ) (d : Entry) → i < length settled → next ≡ i + 1 → mid ≡ now ++ front_at i rest →
      later ≡ mid ++ slice_index_or settled i d ∷ []
      → now ++ history_from i (drop i settled) reads ≡ whole → later ++ history_from next (drop next settled) reads ≡ whole
  merge_more now mid later whole next d below above e f so_far =
      let u = slice_index_or settled i d in
      let behind = history_from next (drop next settled) reads in
      let tail : drop i settled ≡ u ∷ drop next settled = drop_more settled i d below ∙ ap (λ k. u ∷ drop k settled) (sym above) in
      let after : next ≡ suc i = omega arith in
      ap (λ es. es ++ behind) (f ∙ ap (λ es. es ++ u ∷ []) (e ∙ ap (λ es. now ++ es) front_is))
      ∙ append_assoc (now ++ reads_at i reads) (u ∷ []) behind
      ∙ append_assoc now (reads_at i reads) (u ∷ behind)
      ∙ ap (λ k. now ++ (reads_at i reads ++ u ∷ history_from k (drop next settled) reads)) after
      ∙ sym (ap (λ us. now ++ history_from i us reads) tail)
      ∙ so_far

  pub merge_end : (now later whole : List Entry) → length settled ≤ i → later ≡ now ++ front_at i rest → now ++ history_from i (drop i settled) reads ≡ whole →
      later ≡ whole
  merge_end now later whole past e so_far =
      e ∙ ap (λ es. now ++ es) front_is ∙ sym (ap (λ us. now ++ history_from i us reads) (drop_of_length-le settled past)) ∙ so_far
