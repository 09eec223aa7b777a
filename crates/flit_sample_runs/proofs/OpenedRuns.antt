-- What recovery finds opens the sample of that layout, over the free rows that it finds.
use Rattle.std.proofs.Common.{◌≡◌, ℕ, zero, suc, ◌+◌, ◌<◌, ◌≤◌, false, true, List, slice_index, sym, ◌∙◌, subst, arith, Result, Ok, Err, IfOk}
use Rattle.flit_words.specs.declared.layouts.Kind.{Kind}
use Rattle.flit_words.specs.declared.layouts.Kind.TheVariants.{List as List_kind}
use Rattle.flit_words.specs.declared.layouts.Layout.{Layout}
use Rattle.flit_words.specs.Layouts.{words_of, least_buckets, most_buckets}
use Rattle.flit_model.specs.Lists.{link_in}
use Rattle.flit_place.specs.Tags.{Place, IsSlot, IsPlacement}
use Rattle.flit_model.specs.declared.found.Image.{Image}
use Rattle.flit_model.specs.Recovery.{layout_of}
use Rattle.flit_model.specs.declared.found.Recovered.{Recovered}
use Rattle.flit_model.specs.Recovery.{IsRecovery}
use Rattle.flit_structure.specs.Lawful.{IsOpening}
use Rattle.flit_one_key.specs.Steps.{IsSmall, key_word, links_none}
use Rattle.flit_one_key.specs.OneKey.{Opens}
use Rattle.flit_sched.specs.Openings.{opening_at}
use Rattle.flit_sched.proofs.ShapeLaws.{same_shape_recovery}

module _ (l : Layout) (p : Place) (start : Recovered) (opening : IsOpening l (opening_at start))
    (unmarked : links_none (slice_index start.image.words.items 0) ≡ false → (link_in start.image.words.items (key_word l + 1)).mark ≡ false)
    (slots : (word : ℕ) → word < words_of l → IsSlot p.counted l.slots (p.slot word)) where
  pub sample_opens : (m : Layout) (q : Place) (free : List ℕ) → m ≡ l → q ≡ p → free ≡ start.free.items → Opens m q free (opening_at start)
  sample_opens m q free layout_is place_is free_is =
      subst (λ x. Opens x q free (opening_at start)) (sym layout_is)
      (subst (λ x. Opens l x free (opening_at start)) (sym place_is)
      (record { lawful = opening; pool = free_is; unmarked = unmarked; slots = slots }))

-- what recovery finds in an image of one row with values is found for each small layout with values
one_bucket : (k : Kind) (n : ℕ) → k ≡ List_kind → least_buckets k ≤ n → n ≤ most_buckets k → n ≡ 1
one_bucket k n is low high = exact (subst (λ x. least_buckets x ≤ n) is low) (subst (λ x. n ≤ most_buckets x) is high)
  where
    exact : 1 ≤ n → n ≤ 1 → n ≡ 1
    exact a b = omega (arith, a, b)

pub small_recovery : (i : Image) (l : Layout) (image keys vals free : List ℕ) → i.kind ≡ List_kind → i.buckets ≡ 1 → i.rows ≡ 1 → i.values ≡ true → IsSmall l →
    l.values ≡ true →
    IsRecovery (layout_of i) image keys vals free → IsRecovery l image keys vals free
small_recovery i l image keys vals free kind buckets rows values small valued h = same_shape_recovery (layout_of i) l image keys vals free (record {
  kind = kind ∙ sym small.list;
  buckets = buckets ∙ sym (one_bucket l.kind l.buckets small.list small.accepted.least_bucket small.accepted.most_bucket);
  rows = rows ∙ sym small.row;
  values = values ∙ sym valued;
}) h

-- a layout that has the placement's number of slots has a slot for each word, or the placement counts in none
module _ (p : Place) (slots_for : ℕ → ℕ) (h : IsPlacement p slots_for) (words word : ℕ) (below : word < words) where
  by_slots : (n : ℕ) → slots_for words ≡ n → IsSlot p.counted n (p.slot word)
  by_slots zero none =
      let without = h.slotless words word below none in
      subst (λ b. IsSlot b 0 (p.slot word)) (sym without.0) without.1
  by_slots (suc n) some =
      let with_some = h.slotted words word below (λ none. absurd (omega (arith, some, none))) in
      subst (λ b. IsSlot b (suc n) (p.slot word)) (sym with_some.0) (subst (λ k. IsSlot true k (p.slot word)) some with_some.1)

  pub slots_fit : (slots : ℕ) → slots ≡ slots_for words → IsSlot p.counted slots (p.slot word)
  slots_fit slots is = by_slots slots (sym is)

pub weaker_if_ok : {X E : Type 0} (o : Result X E) (P Q : X → Type 0) → ((x : X) → P x → Q x) → IfOk o P → IfOk o Q
weaker_if_ok (Ok x) P Q w h = w x h
weaker_if_ok (Err e) P Q w h = tt
