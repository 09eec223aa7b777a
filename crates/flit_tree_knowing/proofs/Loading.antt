-- What a load of an edge gives.
use Rattle.std.proofs.Common.{◌≡◌, ℕ, ◌<◌, ◌≤◌, cond, List, length, slice_index, slice_set, refl, sym, ap, subst, ◌∙◌, arith, inl, inr}
use Rattle.std.proofs.lemmas.Bool.{cases_lt, lt-ltb, le-ltb}
use Rattle.std.proofs.lemmas.List.{get_or-set_same}
use Rattle.flit_words.specs.declared.layouts.Layout.{Layout}
use Rattle.flit_words.specs.Layouts.{above_keys}
use Rattle.flit_words.specs.Words.{value_of, version_of}
use Rattle.flit_runs.specs.Workings.{Dependency}
use Rattle.flit_runs.specs.Soundness.{Needs}
use Rattle.flit_crew.specs.Heaps.{at_word, IsOpen}
use Rattle.flit_tree_heap.specs.Edges.{left, right, row_of, flag_of, frozen_of, IsPlain}
use Rattle.flit_tree_heap.specs.Routes.{reading}
use Rattle.flit_tree_heap.specs.Views.{TreeHeap, IsLinked, IsLeafRow, IsInnerRow, IsView, IsLed}
use Rattle.flit_tree_heap.specs.Kept.{IsKept}
use Rattle.flit_tree_heap.specs.Exchanges.{key_now, side_now}
use Rattle.flit_tree_heap.specs.Searches.{HasLoaded}
use Rattle.flit_tree_heap.proofs.Answering.{answered}
use Rattle.flit_tree_heap.proofs.Images.{lawful_to}
use Rattle.flit_tree_heap.proofs.Leading.{left_two, led_next}
use Rattle.flit_tree_heap.proofs.Rows.{left_open}
use Rattle.flit_tree_heap.proofs.Sameness.{edge_on, side_edge}
use Rattle.flit_tree_heap.proofs.Steps.{top-plain}
use Rattle.flit_tree_heap.proofs.Viewing.{view_set, shadows_view}
use Rattle.flit_tree_heap.proofs.Winning.{two_key}
use Rattle.flit_tree_knowing.specs.Spots.{Reached}
use Rattle.flit_tree_knowing.proofs.Positions.{tells_now}

module _ (l : Layout) (free : List ℕ) (h : TreeHeap) (K : IsKept l free h) where
  pub top_open : IsOpen l free h 4
  top_open = subst (IsOpen l free h) left_two (left_open l free h K 2 (inl refl))

  -- word 4 has no bits: some view has it
  pub top_plain : IsPlain (at_word h 4)
  top_plain =
      let image : List ℕ = slice_set h.shadows 4 (at_word h 4) in
      let v : IsView l free h image = view_set l free h h.shadows (shadows_view l free h K) 4 (at_word h 4) top_open.within (K.bare 4 top_open) (inl refl) in
      let i = K.images image v in
      let lawful = lawful_to l K.layout.accepted K.layout.kind image i.0 i.1 in
      let same : slice_index image 4 ≡ at_word h 4 =
      get_or-set_same h.shadows 4 (at_word h 4) 0 (subst (λ n. 4 < n) (sym K.shadows) top_open.within) in record {
        unflagged = ap flag_of (sym same) ∙ top-plain (reading l image) i.0 lawful;
        unfrozen = ap frozen_of (sym same) ∙ lawful.top;
      }

  -- the edge of row 2 for each key of a call is word 4
  pub top_side : (key : ℕ) → key < above_keys 1 → side_now l h key 2 ≡ 4
  top_side key below = ap (λ b. cond b (left 2) (right 2)) (lt-ltb key (key_now l h 2) (subst (λ n. key < n) (sym (two_key l free h K)) below)) ∙ left_two

  -- the edges of a leaf
  pub leaf_side : (key row : ℕ) → IsLeafRow h row → value_of (at_word h (side_now l h key row)) ≡ 0
  leaf_side key row f = elim (cases_lt key (key_now l h row)) [
    | inl c ↦ ap (λ b. value_of (at_word h (cond b (left row) (right row)))) (lt-ltb key (key_now l h row) c) ∙ f.no_left
    | inr c ↦ ap (λ b. value_of (at_word h (cond b (left row) (right row)))) (le-ltb key (key_now l h row) c) ∙ f.no_right
  ]

  above : (key : ℕ) → key < above_keys 0 → key < above_keys 1
  above key b = omega (arith, b)

  module _ (needs : List Dependency) (first key row : ℕ) (below : key < above_keys 0) (early : first ≤ length h.progress.settled) (linked : IsLinked l h row)
      (inner : IsInnerRow l h row) (led : IsLed l free h needs key row) where
    abbrev edge : ℕ
    edge = side_now l h key row

    abbrev now : ℕ
    now = at_word h edge

    next_linked : IsLinked l h (row_of now)
    next_linked = (edge_on l h edge (side_edge l h key row linked inner)).word

    loaded_now : Needs needs edge (version_of now) → HasLoaded l h needs edge now
    loaded_now needed = record { at = side_edge l h key row linked inner; past = (inl refl, inl refl); needed = needed; linked = next_linked }

    reached_now : Needs needs edge (version_of now) → Reached l free h needs first key now
    reached_now needed = elim (K.linked (row_of now) next_linked).kind [
      | inl leaf ↦ inl (
        leaf,
        λ plain. tells_now l h needs first key (row_of now) early (answered l free h K needs key row (record {
          linked = linked;
          inner = inner;
          led = led;
          needed = needed;
          plain = plain;
          leaf = leaf;
          below = below;
        })),
      )
      | inr f ↦ inr (f, led_next l free h needs key row (row_of now) K linked inner led needed refl next_linked f)
    ]

  pub edge_loaded : (needs : List Dependency) (first key row q : ℕ) → key < above_keys 0 → first ≤ length h.progress.settled → IsLinked l h row →
      IsInnerRow l h row → IsLed l free h needs key row → q ≡ at_word h (side_now l h key row) → Needs needs (side_now l h key row) (version_of q) →
      HasLoaded l h needs (side_now l h key row) q × Reached l free h needs first key q
  edge_loaded needs first key row q below early linked inner led same needed =
      let now : Needs needs (side_now l h key row) (version_of (at_word h (side_now l h key row))) =
      subst (λ x. Needs needs (side_now l h key row) (version_of x)) same needed in
      subst (λ x. HasLoaded l h needs (side_now l h key row) x × Reached l free h needs first key x) (sym same) (
        loaded_now needs first key row below early linked inner led now,
        reached_now needs first key row below early linked inner led now,
      )
