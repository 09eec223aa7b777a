-- What recovery finds opens the tree of that layout, over the free rows that it finds.
use Rattle.std.proofs.Common.{◌≡◌, ℕ, zero, suc, ◌<◌, true, List, sym, subst, arith}
use Rattle.flit_words.specs.declared.layouts.Layout.{Layout}
use Rattle.flit_words.specs.Layouts.{words_of}
use Rattle.flit_place.specs.Tags.{Place, IsSlot, IsPlacement}
use Rattle.flit_model.specs.declared.found.Recovered.{Recovered}
use Rattle.flit_structure.specs.Lawful.{IsOpening}
use Rattle.flit_sched.specs.Openings.{opening_at}
use Rattle.flit_tree_limits.specs.TreeLimits.{Opens}

module _ (l : Layout) (p : Place) (start : Recovered) (opening : IsOpening l (opening_at start))
    (slots : (word : ℕ) → word < words_of l → IsSlot p.counted l.slots (p.slot word)) where
  pub tree_opens : (m : Layout) (q : Place) (free : List ℕ) → m ≡ l → q ≡ p → free ≡ start.free.items → Opens m q free (opening_at start)
  tree_opens m q free layout_is place_is free_is =
      subst (λ x. Opens x q free (opening_at start)) (sym layout_is)
      (subst (λ x. Opens l x free (opening_at start)) (sym place_is)
      (record { lawful = opening; pool = free_is; slots = slots }))

-- a layout that has the placement's number of slots has a slot for each word, or the placement counts in none
module _ (p : Place) (slots_for : ℕ → ℕ) (h : IsPlacement p slots_for) (words word : ℕ) (below : word < words) where
  by_slots : (n : ℕ) → slots_for words ≡ n → IsSlot p.counted n (p.slot word)
  by_slots zero none =
      let without = h.slotless words word below none in
      subst (λ b. IsSlot b 0 (p.slot word)) (sym without.0) without.1
  by_slots (suc n) some =
      let with_some = h.slotted words word below (λ none. absurd (omega (arith, some, none))) in
      subst (λ b. IsSlot b (suc n) (p.slot word)) (sym with_some.0) (subst (λ k. IsSlot true k (p.slot word)) some with_some.1)

  pub slots_fit : (slots : ℕ) → slots ≡ slots_for words → IsSlot p.counted slots (p.slot word)
  slots_fit slots is = by_slots slots (sym is)
