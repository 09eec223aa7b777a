-- A search goes on by one edge, and comes to its end.
use Rattle.std.proofs.Common.{◌≡◌, ℕ, ◌<◌, ◌++◌, true, false, List, [], ◌∷◌, refl, sym, ap, subst, ◌∙◌, inl, inr}
use Rattle.std.proofs.lemmas.Bool.{cases_Bool, false≢true}
use Rattle.flit_words.specs.declared.layouts.Layout.{Layout}
use Rattle.flit_words.specs.Layouts.{above_keys}
use Rattle.flit_words.specs.Words.{version_of}
use Rattle.flit_runs.specs.Workings.{Dependency}
use Rattle.flit_runs.specs.Soundness.{Needs}
use Rattle.flit_crew.specs.Heaps.{at_word}
use Rattle.flit_tree_heap.specs.Edges.{row_of, flag_of, frozen_of, IsPlain, Follows}
use Rattle.flit_tree_heap.specs.Views.{TreeHeap, IsInnerRow, IsLed}
use Rattle.flit_tree_heap.specs.Kept.{IsKept}
use Rattle.flit_tree_heap.specs.Exchanges.{side_now, IsTrail}
use Rattle.flit_tree_heap.specs.Searches.{HasLoaded}
use Rattle.flit_tree_heap.proofs.Rows.{leaf_or_inner}
use Rattle.flit_tree_heap.proofs.Searching.{flag_follows, trail_more}
use Rattle.flit_tree_knowing.specs.Spots.{IsSpot, IsWay, IsTopOrWay}
use Rattle.flit_tree_knowing.proofs.Loading.{top_plain, top_side}

-- what was frozen is the word still
pub frozen_same : (q b : ℕ) → Follows q b → frozen_of q ≡ true → q ≡ b
frozen_same q b (inl e) f = e
frozen_same q b (inr y) f = absurd (false≢true (sym y.1 ∙ f))

module _ (l : Layout) (free : List ℕ) (h : TreeHeap) (K : IsKept l free h) (needs : List Dependency) (key : ℕ) (below : key < above_keys 1) where
  -- an edge to an inner row has no flag, and had none
  pub inner_unflagged : (edge x : ℕ) → HasLoaded l h needs edge x → IsInnerRow l h (row_of x) → flag_of x ≡ false
  inner_unflagged edge x loaded inner = elim (cases_Bool (flag_of x)) [
    | inr e ↦ e
    | inl e ↦
        let now = flag_follows x (at_word h edge) loaded.past.0 e in
        absurd (leaf_or_inner l free h K (row_of x)
        (subst (Rattle.flit_tree_heap.specs.Views.IsLeafRow h) now.0 ((K.bits edge loaded.at).flagged now.1).leaf) inner)
  ]

  module _ (edge x : ℕ) (s : IsSpot l free h needs key edge x) where
    -- at the first edge there is no bit
    top_no_bit : s.row ≡ 2 → IsPlain (at_word h edge)
    top_no_bit e = subst (λ w. IsPlain (at_word h w)) (sym (top_side l free h K key below) ∙ ap (side_now l h key) (sym e) ∙ s.side) (top_plain l free h K)

    pub top_unfrozen : s.row ≡ 2 → frozen_of x ≡ true → ⊥
    top_unfrozen e f = false≢true (sym (top_no_bit e).unfrozen ∙ ap frozen_of (sym (frozen_same x (at_word h edge) s.loaded.past.0 f)) ∙ f)

    pub top_unflagged : s.row ≡ 2 → flag_of x ≡ true → ⊥
    top_unflagged e f = false≢true (sym (top_no_bit e).unflagged ∙ (flag_follows x (at_word h edge) s.loaded.past.0 f).1)

    -- so where the edge has a bit there is a way
    pub frozen_way : (ancestor a : ℕ) → frozen_of x ≡ true → IsTopOrWay l free h needs key ancestor a edge x s.row → IsWay l free h needs key ancestor a s.row
    frozen_way ancestor a f t = elim t [ inl y ↦ absurd (top_unfrozen y.0 f) | inr w ↦ w ]

    pub flagged_way : (ancestor a : ℕ) → flag_of x ≡ true → IsTopOrWay l free h needs key ancestor a edge x s.row → IsWay l free h needs key ancestor a s.row
    flagged_way ancestor a f t = elim t [ inl y ↦ absurd (top_unflagged y.0 f) | inr w ↦ w ]

    -- the search goes on by an inner row
    module _ (inner : IsInnerRow l h (row_of x)) (led : IsLed l free h needs key (row_of x)) where
      abbrev pub spot_next : (q : ℕ) → HasLoaded l h needs (side_now l h key (row_of x)) q → IsSpot l free h needs key (side_now l h key (row_of x)) q
      spot_next q loaded = record { row = row_of x; linked = s.loaded.linked; inner = inner; side = refl; led = led; loaded = loaded }

      -- over an edge that isn't frozen: the way begins anew
      pub way_anew : frozen_of x ≡ false → IsWay l free h needs key edge x (row_of x)
      way_anew unfrozen =
          record { spot = s; plain = record { unflagged = inner_unflagged edge x s.loaded inner; unfrozen = unfrozen }; rows = []; trail = refl }

      -- over a frozen edge
      pub way_further : (ancestor a : ℕ) → frozen_of x ≡ true → IsTopOrWay l free h needs key ancestor a edge x s.row →
          IsWay l free h needs key ancestor a (row_of x)
      way_further ancestor a f t =
          let w : IsWay l free h needs key ancestor a s.row = frozen_way ancestor a f t in
          let same : x ≡ at_word h edge = frozen_same x (at_word h edge) s.loaded.past.0 f in
          let one : IsTrail l h needs key s.row (row_of x ∷ []) (row_of x) = (
            s.linked,
            s.inner,
            ap (λ e. row_of (at_word h e)) s.side ∙ ap row_of (sym same),
            ap (λ e. frozen_of (at_word h e)) s.side ∙ ap frozen_of (sym same) ∙ f,
            subst (λ e. Needs needs e (version_of (at_word h e))) (sym s.side) (subst (λ q. Needs needs edge (version_of q)) same s.loaded.needed),
            refl,
          ) in record {
            spot = w.spot;
            plain = w.plain;
            rows = w.rows ++ row_of x ∷ [];
            trail = trail_more l h needs key (row_of a) w.rows s.row (row_of x) w.trail one;
          }
