-- The four exchanges of the tree, each from what is known of the words.
use Rattle.std.proofs.Common.{◌≡◌, ◌≢◌, ◌⊎◌, ℕ, ◌+◌, ◌%◌, ◌==◌, ◌≤◌, true, false, cond, nat_lt, List, [], ◌∷◌, slice_index, Option, Some, None, is_some, refl, sym, ap, subst, ◌∙◌, arith, inl, inr}
use Rattle.std.proofs.lemmas.Bool.{cases_lt, false≢true, lt-ltb, le-ltb}
use Rattle.flit_words.specs.declared.layouts.Layout.{Layout}
use Rattle.flit_words.specs.Layouts.{row_word_of}
use Rattle.flit_words.specs.Words.{value_of, version_of}
use Rattle.flit_model.specs.declared.calls.Call.TheVariants.{Remove}
use Rattle.flit_model.specs.declared.calls.Entry.{Entry}
use Rattle.flit_model.specs.Maps.{key_of}
use Rattle.flit_model.specs.Trees.{Tree, IsLawfulTree}
use Rattle.flit_model.proofs.Membership.{contains_none}
use Rattle.flit_model.proofs.FixedRows.{fixed_value, fixed_key}
use Rattle.flit_runs.specs.Workings.{Dependency}
use Rattle.flit_runs.specs.Soundness.{Needs}
use Rattle.flit_structure.specs.Moments.{update_of}
use Rattle.flit_crew.specs.Heaps.{at_word, at_shadow, IsOpen, AreResting}
use Rattle.flit_tree_heap.specs.Edges.{left, right, other, row_of, flag_of, frozen_of}
use Rattle.flit_tree_heap.specs.Routes.{Reading, IsOnRoute, Leads, here, ends, on, reading, side, key_at}
use Rattle.flit_tree_heap.specs.Views.{TreeHeap, IsLinked, IsAtRest, IsLeafRow, IsEdge, IsView, Takes}
use Rattle.flit_tree_heap.specs.Kept.{MayBeFlagged, IsKept}
use Rattle.flit_tree_heap.specs.Exchanges.{key_now, side_now, HasComeTo, IsFlag, IsFreeze, IsTrail, IsSwing, IsWon}
use Rattle.flit_tree_heap.proofs.Growths.{said, found, Writes, Flags, Freezes, Swings, Trail}
use Rattle.flit_tree_heap.specs.Walks.{inners}
use Rattle.flit_tree_heap.proofs.Unique.{lawful-unique}
use Rattle.flit_tree_heap.proofs.Ways.{Remains, becomes_turns, remains_turns, IsGone}
use Rattle.flit_tree_heap.proofs.Words.{other-left, other-right}
use Rattle.flit_tree_heap.proofs.Bits.{said-some}
use Rattle.flit_tree_heap.proofs.Steps.{on-last, top-plain, flag-step, freeze-step, swing-step}
use Rattle.flit_tree_heap.proofs.Images.{nowhere, lawful_to}
use Rattle.flit_tree_heap.proofs.Maps.{same_entry, gives}
use Rattle.flit_tree_heap.proofs.Rows.{row_range, edge_parts, edge_open, key_open, left_open, writes_from, left_fixed, right_fixed}
use Rattle.flit_tree_heap.proofs.Viewing.{view_rest, shadows_view}
use Rattle.flit_tree_heap.proofs.Sameness.{edge_on, edge_other, side_edge}
use Rattle.flit_tree_heap.proofs.Exchanging.{IsMade, IsChanged, Changed, Turned, IsExchange, exchange_kept, exchange_later}

-- who is led to a row is on its edge where that edge is plain
pub led_plain : (V : Reading) (t : Tree) (key row : ℕ) → Leads V t key row → V.flag (side V key row) ≡ false → V.frozen (side V key row) ≡ false →
    IsOnRoute V key (side V key row) 4 t
led_plain V t key row (here _ o) f z = o
led_plain V t key row (ends _ (inl b) e) f z = absurd (false≢true (sym f ∙ b))
led_plain V t key row (ends _ (inr b) e) f z = absurd (false≢true (sym z ∙ b))
led_plain V t key row (on _ s (inl b) e i) f z = absurd (false≢true (sym f ∙ b))
led_plain V t key row (on _ s (inr b) e i) f z = absurd (false≢true (sym z ∙ b))

no_entry : (e : Entry) → None ≡ Some e → ⊥
no_entry e h = cc

pub none_resting : (l : Layout) (free : List ℕ) (h : TreeHeap) → AreResting l free h []
none_resting l free h = record {
  pool = λ row c. absurd (contains_none row c);
  unlinked = λ row c. absurd (contains_none row c);
  words = λ row w c. absurd (contains_none row c);
}

pub won_both : (l : Layout) (free : List ℕ) (h : TreeHeap) (K : IsKept l free h) (name w to : ℕ) (effect : Option Entry) (rows : List ℕ) →
    IsExchange l free h w to effect rows → IsWon l free h name w to effect rows
won_both l free h K name w to effect rows X = record {
  kept = exchange_kept l free h K w to effect rows X;
  later = exchange_later l free h K w to effect rows X (Some name);
}

-- ---- keys and leaves, as views have them

module _ (l : Layout) (free : List ℕ) (h : TreeHeap) (K : IsKept l free h) where
  pub key_seen : (U : List ℕ) → IsView l free h U → (row : ℕ) → IsLinked l h row → key_at l U row ≡ key_now l h row
  unfolding key_at
  key_seen U v row i = ap value_of (view_rest l free h U v (row_word_of l row 0) (key_open l free h K row i) (K.linked row i).key)

  pub side_seen : (U : List ℕ) → IsView l free h U → (key row : ℕ) → IsLinked l h row → side (reading l U) key row ≡ side_now l h key row
  side_seen U v key row i = ap (λ x. cond (nat_lt key x) (left row) (right row)) (key_seen U v row i)

  pub two_key : key_now l h 2 ≡ 4294967294
  two_key =
      let i = K.images h.shadows (shadows_view l free h K) in
      sym (key_seen h.shadows (shadows_view l free h K) 2 (inl refl)) ∙ (lawful_to l K.layout.accepted K.layout.kind h.shadows i.0 i.1).two

  pub three_key : IsLinked l h 3 → key_now l h 3 ≡ 4294967293
  unfolding key_at
  three_key linked =
      let i = K.images h.shadows (shadows_view l free h K) in
      sym (key_seen h.shadows (shadows_view l free h K) 3 linked) ∙ fixed_key l K.layout.accepted K.layout.kind h.shadows i.0 i.1 3 (omega arith)

  -- an edge, seen in a view
  module _ (edge to : ℕ) (E : IsEdge l h edge) (rest : IsAtRest h edge) (U : List ℕ) (v : IsView l free h U) where
    pub edge_seen : slice_index U edge ≡ at_word h edge
    edge_seen = view_rest l free h U v edge (edge_open l free h K edge E) rest

    pub some_seen : 1 ≤ row_of (slice_index U edge)
    some_seen = rw edge_seen (omega (arith, (row_range l free h K (row_of (at_word h edge)) (edge_on l h edge E).word).0))

    pub written_so : (V rows : List ℕ) → IsChanged l h edge to rows U V → Writes (reading l U) (reading l V) edge
    written_so V rows c = writes_from l free h K edge E U V c.off some_seen

    -- it leads to a leaf
    pub leaf_seen : IsLeafRow h (row_of (at_word h edge)) → row_of (slice_index U (left (row_of (slice_index U edge)))) ≡ 0
    leaf_seen f =
        let r = row_of (at_word h edge) in
        ap (λ x. row_of (slice_index U (left (row_of x)))) edge_seen
        ∙ ap row_of (view_rest l free h U v (left r) (left_open l free h K r (edge_on l h edge E).word) f.left_rest)
        ∙ (nowhere (at_word h (left r)) f.no_left).0

    pub row_key_seen : key_at l U (row_of (slice_index U edge)) ≡ key_now l h (row_of (at_word h edge))
    row_key_seen = ap (λ x. key_at l U (row_of x)) edge_seen ∙ key_seen U v (row_of (at_word h edge)) (edge_on l h edge E).word

  -- ---- where a search has come to

  module _ (needs : List Dependency) (key row edge : ℕ) (A : HasComeTo l free h needs key row edge) (rest : IsAtRest h edge) where
    pub needed_rest : (w : ℕ) → IsOpen l free h w → Needs needs w (version_of (at_word h w)) → IsAtRest h w
    needed_rest w o n = elim (K.gap w o) [
      | inl r ↦ r
      | inr a ↦ absurd (omega (arith, a, A.persistent w (version_of (at_word h w)) n))
    ]

    pub takes_all : (U : List ℕ) → IsView l free h U → Takes l free h needs U
    takes_all U v w o n = view_rest l free h U v w o (needed_rest w o n)

    side_is : (edge ≡ left row) ⊎ (edge ≡ right row)
    side_is = elim (cases_lt key (key_now l h row)) [
      | inl c ↦ inl (sym A.side ∙ ap (λ b. cond b (left row) (right row)) (lt-ltb key (key_now l h row) c))
      | inr c ↦ inr (sym A.side ∙ ap (λ b. cond b (left row) (right row)) (le-ltb key (key_now l h row) c))
    ]

    pub come_edge : IsEdge l h edge
    come_edge = record { row = row; linked = A.linked; inner = A.inner; side = side_is }

    pub route : (U : List ℕ) (t : Tree) → IsView l free h U → IsLawfulTree l U t → IsOnRoute (reading l U) key edge 4 t
    route U t v m =
        let e : side (reading l U) key row ≡ edge = side_seen U v key row A.linked ∙ A.side in
        let x : slice_index U edge ≡ at_word h edge = edge_seen edge edge come_edge rest U v in
        subst (λ w. IsOnRoute (reading l U) key w 4 t) e (led_plain (reading l U) t key row (A.led U t v (takes_all U v) m)
        (ap (λ w. flag_of (slice_index U w)) e ∙ ap flag_of x ∙ A.plain.unflagged)
        (ap (λ w. frozen_of (slice_index U w)) e ∙ ap frozen_of x ∙ A.plain.unfrozen))

    -- the edge isn't the right one of row 2, as the key is below that of row 2
    pub not_five : edge ≢ 5
    not_five e = elim (cases_lt key (key_now l h row)) [
      | inl c ↦ left_fixed row (sym (ap (λ b. cond b (left row) (right row)) (lt-ltb key (key_now l h row) c)) ∙ A.side ∙ e)
      | inr c ↦
          let two : row ≡ 2 = right_fixed row (sym (ap (λ b. cond b (left row) (right row)) (le-ltb key (key_now l h row) c)) ∙ A.side ∙ e) in
          omega (arith, c, ap (key_now l h) two, two_key, A.below)
    ]

-- ---- a flag

module _ (l : Layout) (free : List ℕ) (h : TreeHeap) (needs : List Dependency) (key row edge to name number : ℕ) (K : IsKept l free h)
    (F : IsFlag l free h needs key row edge to) where
  flag_edge : IsEdge l h edge
  flag_edge = come_edge l free h K needs key row edge F.at F.may.rest

  flag_apart : row_of (at_word h edge) ≢ 3
  flag_apart e =
      let linked : IsLinked l h 3 = subst (IsLinked l h) e (edge_on l h edge flag_edge).word in
      omega (arith, three_key l free h K linked, ap (key_now l h) e, F.has_key, F.at.below)

  flag_route : (U : List ℕ) (t : Tree) → IsView l free h U → IsLawfulTree l U t → IsOnRoute (reading l U) key edge 4 t
  flag_route = route l free h K needs key row edge F.at F.may.rest

  flag_seen : (U V : List ℕ) (v : IsView l free h U) → IsChanged l h edge to [] U V → Flags (reading l U) (reading l V) edge
  flag_seen U V v c =
      let x : slice_index U edge ≡ at_word h edge = edge_seen l free h K edge to flag_edge F.may.rest U v in
      record {
        writes = written_so l free h K edge to flag_edge F.may.rest U v V [] c;
        row = ap row_of c.now ∙ F.same_row ∙ ap row_of (sym x);
        flagged = ap flag_of c.now ∙ F.flagged;
        frozen = ap frozen_of c.now ∙ F.unfrozen ∙ sym F.at.plain.unfrozen ∙ ap frozen_of (sym x);
        was_plain = ap flag_of x ∙ F.at.plain.unflagged;
        into_leaf = leaf_seen l free h K edge to flag_edge F.may.rest U v F.leaf;
        not_three = λ e. flag_apart (sym (ap row_of x) ∙ e);
      }

  flag_turned : (U V : List ℕ) (t : Tree) → IsView l free h U → IsLawfulTree l U t → IsChanged l h edge to [] U V →
      Turned l h edge to (Some (update_of name number (Remove key))) [] U V t
  flag_turned U V t v m c =
      let B = (flag-step (reading l U) (reading l V) edge key t (flag_seen U V v c) (lawful_to l K.layout.accepted K.layout.kind U t m) (flag_route U t v m)
      (row_key_seen l free h K edge to flag_edge F.may.rest U v ∙ F.has_key)).1 in
      record {
        to_tree = becomes_turns B (Changed (Some (update_of name number (Remove key)))) (λ j n e. n (update_of name number (Remove key), refl, e))
            (IsGone (reading l U) (IsAtRest h));
        joins = λ r i. absurd (contains_none r i);
        gives_now = λ e p. subst (λ (d : Entry). found (reading l V) (key_of d.call) 4 B.tree ≡ gives d.call)
            (same_entry (update_of name number (Remove key)) e p) B.now;
      }

  flag_made : IsMade l free h edge to (update_of name number (Remove key))
  flag_made = record {
    update = refl;
    reply = refl;
    below = F.at.below;
    plain = F.at.plain.unflagged;
    unfrozen = F.unfrozen;
    flagged = λ e. F.flagged;
    route = flag_route;
    before = λ U t v m.
        let x : slice_index U edge ≡ at_word h edge = edge_seen l free h K edge to flag_edge F.may.rest U v in
        ap (λ w. is_some (said (reading l U) key w)) (on-last (reading l U) key edge 4 0 4294967294 t
        (lawful_to l K.layout.accepted K.layout.kind U t m).is (flag_route U t v m) (leaf_seen l free h K edge to flag_edge F.may.rest U v F.leaf))
        ∙ ap is_some (said-some (reading l U) key edge (row_key_seen l free h K edge to flag_edge F.may.rest U v ∙ F.has_key)
        (ap flag_of x ∙ F.at.plain.unflagged));
  }

  flag_exchange : IsExchange l free h edge to (Some (update_of name number (Remove key))) []
  flag_exchange = record {
    edge = flag_edge;
    movable = not_five l free h K needs key row edge F.at F.may.rest;
    rest = F.may.rest;
    unfrozen = F.at.plain.unfrozen;
    bare = F.may.bare;
    next = F.may.next;
    none = F.may.none;
    keeps = λ f. absurd (false≢true (sym F.at.plain.unflagged ∙ f));
    target = subst (IsLinked l h) (sym F.same_row) (edge_on l h edge flag_edge).word;
    flagged = λ _. subst (MayBeFlagged l h) (sym F.same_row) (record { leaf = F.leaf; below = omega (arith, F.has_key, F.at.below); not_three = flag_apart });
    frozen = λ f. absurd (false≢true (sym F.unfrozen ∙ f));
    resting = none_resting l free h;
    new_rows = λ r i. absurd (contains_none r i);
    new_plain = λ r w i. absurd (contains_none r i);
    turned = flag_turned;
    made = λ e p. subst (IsMade l free h edge to) (same_entry (update_of name number (Remove key)) e p) flag_made;
  }

  pub flag_won : IsWon l free h name edge to (Some (update_of name number (Remove key))) []
  flag_won = won_both l free h K name edge to (Some (update_of name number (Remove key))) [] flag_exchange

-- ---- a freeze

module _ (l : Layout) (free : List ℕ) (h : TreeHeap) (edge to name : ℕ) (K : IsKept l free h) (F : IsFreeze l h edge to) where
  other_open : IsOpen l free h (other edge)
  other_open = edge_open l free h K (other edge) (edge_other l free h K edge F.at)

  other_flagged : (U : List ℕ) → IsView l free h U → flag_of (slice_index U (other edge)) ≡ true
  other_flagged U v = elim (v.places (other edge) other_open) [ inl x ↦ ap flag_of x ∙ F.sibling | inr x ↦ ap flag_of x ∙ F.sibling_kept ]

  -- beside a flagged edge stands neither word 4 nor word 5
  flagged_five : (t : Tree) → IsLawfulTree l h.shadows t → flag_of (at_shadow h 5) ≡ true → ⊥
  unfolding flag_of
  flagged_five t m f = let z = fixed_value l K.layout.accepted K.layout.kind h.shadows t m 5 (omega arith) (λ e. omega (arith, e)) in
      false≢true (sym (ap (λ x. x % 2 == 1) z) ∙ f)

  not_top : edge ≢ 4
  unfolding left right
  not_top e =
      let i = K.images h.shadows (shadows_view l free h K) in
      flagged_five i.0 i.1 (subst (λ w. flag_of (at_shadow h w) ≡ true) (ap other e ∙ other-left 2 (omega arith)) F.sibling_kept)

  not_right : edge ≢ 5
  unfolding left right
  not_right e =
      let i = K.images h.shadows (shadows_view l free h K) in
      false≢true (sym (top-plain (reading l h.shadows) i.0 (lawful_to l K.layout.accepted K.layout.kind h.shadows i.0 i.1))
      ∙ subst (λ w. flag_of (at_shadow h w) ≡ true) (ap other e ∙ other-right 2 (omega arith)) F.sibling_kept)

  freeze_seen : (U V : List ℕ) (v : IsView l free h U) → IsChanged l h edge to [] U V → Freezes (reading l U) (reading l V) edge
  freeze_seen U V v c =
      let x : slice_index U edge ≡ at_word h edge = edge_seen l free h K edge to F.at F.may.rest U v in
      record {
        writes = written_so l free h K edge to F.at F.may.rest U v V [] c;
        row = ap row_of c.now ∙ F.same_row ∙ ap row_of (sym x);
        flag = ap flag_of c.now ∙ F.same_flag ∙ ap flag_of (sym x);
        frozen = ap frozen_of c.now ∙ F.frozen;
        not_top = not_top;
        inner = omega (arith, (edge_parts l free h K edge F.at).0, (row_range l free h K F.at.row F.at.linked).0);
        sibling = other_flagged U v;
      }

  freeze_remains : (U V : List ℕ) (t : Tree) → IsView l free h U → IsLawfulTree l U t → IsChanged l h edge to [] U V →
      Remains (reading l U) (reading l V) (IsAtRest h) t 0
  freeze_remains U V t v m c =
      freeze-step (reading l U) (reading l V) (IsAtRest h) edge t (freeze_seen U V v c) (lawful_to l K.layout.accepted K.layout.kind U t m)

  -- no view's tree gets more inner rows
  pub freeze_fewer : (U V : List ℕ) (t u : Tree) → IsView l free h U → IsLawfulTree l U t → IsLawfulTree l V u →
      ((w : ℕ) → w ≢ edge → slice_index V w ≡ slice_index U w) → slice_index V edge ≡ to → inners u ≤ inners t
  freeze_fewer U V t u v m n off now =
      let R = freeze_remains U V t v m (record { off = off; now = now; linked = λ r w i. absurd (contains_none r i) }) in
      let e = lawful-unique (reading l V) R.tree u R.lawful (lawful_to l K.layout.accepted K.layout.kind V u n) in
      omega (arith, R.count, ap inners e)

  freeze_exchange : IsExchange l free h edge to None []
  freeze_exchange = record {
    edge = F.at;
    movable = not_right;
    rest = F.may.rest;
    unfrozen = F.was_unfrozen;
    bare = F.may.bare;
    next = F.may.next;
    none = F.may.none;
    keeps = λ f. (F.same_row, F.same_flag ∙ f);
    target = subst (IsLinked l h) (sym F.same_row) (edge_on l h edge F.at).word;
    flagged = λ f. subst (MayBeFlagged l h) (sym F.same_row) ((K.bits edge F.at).flagged (sym F.same_flag ∙ f));
    frozen = λ _. F.sibling_kept;
    resting = none_resting l free h;
    new_rows = λ r i. absurd (contains_none r i);
    new_plain = λ r w i. absurd (contains_none r i);
    turned = λ U V t v m c. record {
      to_tree = remains_turns (freeze_remains U V t v m c) (Changed None);
      joins = λ r i. absurd (contains_none r i);
      gives_now = λ e p. absurd (no_entry e p);
    };
    made = λ e p. absurd (no_entry e p);
  }

  pub freeze_won : IsWon l free h name edge to None []
  freeze_won = won_both l free h K name edge to None [] freeze_exchange

-- ---- a swing

module _ (l : Layout) (free : List ℕ) (h : TreeHeap) (needs : List Dependency) (key row edge to end kept : ℕ) (rows : List ℕ) (name : ℕ) (K : IsKept l free h)
    (S : IsSwing l free h needs key row edge to end kept rows) where
  swing_edge : IsEdge l h edge
  swing_edge = come_edge l free h K needs key row edge S.at S.may.rest

  kept_edge : IsEdge l h kept
  kept_edge = record { row = end; linked = S.linked; inner = S.inner; side = S.side }

  kept_rest : IsAtRest h kept
  kept_rest = needed_rest l free h K needs key row edge S.at S.may.rest kept (edge_open l free h K kept kept_edge) S.needed

  trail_seen : (U : List ℕ) → IsView l free h U → (r : ℕ) (rs : List ℕ) → IsTrail l h needs key r rs end → Trail (reading l U) (IsAtRest h) key kept r rs
  trail_seen U v r [] e =
      let x = edge_seen l free h K kept to kept_edge kept_rest U v in (
        subst (λ q. (kept ≡ left q) ⊎ (kept ≡ right q)) (sym e) S.side,
        ap frozen_of x ∙ S.frozen,
        some_seen l free h K kept to kept_edge kept_rest U v,
        kept_rest,
      )
  trail_seen U v r (s ∷ rs) t =
      let E = side_edge l h key r t.0 t.1 in
      let rest = needed_rest l free h K needs key row edge S.at S.may.rest (side_now l h key r) (edge_open l free h K (side_now l h key r) E) t.4 in
      let x = edge_seen l free h K (side_now l h key r) to E rest U v in
      let y = side_seen l free h K U v key r t.0 in (
        ap (λ w. row_of (slice_index U w)) y ∙ ap row_of x ∙ t.2,
        subst (λ q. 1 ≤ q) t.2 (omega (arith, (row_range l free h K (row_of (at_word h (side_now l h key r))) (edge_on l h (side_now l h key r) E).word).0)),
        ap (λ w. frozen_of (slice_index U w)) y ∙ ap frozen_of x ∙ t.3,
        subst (IsAtRest h) (sym y) rest,
        trail_seen U v s rs t.5,
      )

  swing_seen : (U V : List ℕ) (v : IsView l free h U) → IsChanged l h edge to [] U V → Swings (reading l U) (reading l V) (IsAtRest h) edge key kept rows
  swing_seen U V v c =
      let x : slice_index U edge ≡ at_word h edge = edge_seen l free h K edge to swing_edge S.may.rest U v in
      let y : slice_index U kept ≡ at_word h kept = edge_seen l free h K kept to kept_edge kept_rest U v in
      record {
        writes = written_so l free h K edge to swing_edge S.may.rest U v V [] c;
        row = ap row_of c.now ∙ S.same_row ∙ ap row_of (sym y);
        flag = ap flag_of c.now ∙ S.same_flag ∙ ap flag_of (sym y);
        unfrozen = ap frozen_of c.now ∙ S.unfrozen;
        was_unflagged = ap flag_of x ∙ S.at.plain.unflagged;
        was_unfrozen = ap frozen_of x ∙ S.at.plain.unfrozen;
        trail = trail_seen U v (row_of (slice_index U edge)) rows (subst (λ q. IsTrail l h needs key (row_of q) rows end) (sym x) S.trail);
      }

  swing_remains : (U V : List ℕ) (t : Tree) → IsView l free h U → IsLawfulTree l U t → IsChanged l h edge to [] U V →
      Remains (reading l U) (reading l V) (IsAtRest h) t 1
  swing_remains U V t v m c =
      swing-step (reading l U) (reading l V) (IsAtRest h) edge key kept rows (swing_seen U V v c) t (lawful_to l K.layout.accepted K.layout.kind U t m)
      (omega (arith, S.at.below)) (route l free h K needs key row edge S.at S.may.rest U t v m)

  -- each view's tree gets fewer inner rows
  pub swing_fewer : (U V : List ℕ) (t u : Tree) → IsView l free h U → IsLawfulTree l U t → IsLawfulTree l V u →
      ((w : ℕ) → w ≢ edge → slice_index V w ≡ slice_index U w) → slice_index V edge ≡ to → inners u + 1 ≤ inners t
  swing_fewer U V t u v m n off now =
      let R = swing_remains U V t v m (record { off = off; now = now; linked = λ r w i. absurd (contains_none r i) }) in
      let e = lawful-unique (reading l V) R.tree u R.lawful (lawful_to l K.layout.accepted K.layout.kind V u n) in
      omega (arith, R.count, ap inners e)

  swing_exchange : IsExchange l free h edge to None []
  swing_exchange = record {
    edge = swing_edge;
    movable = not_five l free h K needs key row edge S.at S.may.rest;
    rest = S.may.rest;
    unfrozen = S.at.plain.unfrozen;
    bare = S.may.bare;
    next = S.may.next;
    none = S.may.none;
    keeps = λ f. absurd (false≢true (sym S.at.plain.unflagged ∙ f));
    target = subst (IsLinked l h) (sym S.same_row) (edge_on l h kept kept_edge).word;
    flagged = λ f. subst (MayBeFlagged l h) (sym S.same_row) ((K.bits kept kept_edge).flagged (sym S.same_flag ∙ f));
    frozen = λ f. absurd (false≢true (sym S.unfrozen ∙ f));
    resting = none_resting l free h;
    new_rows = λ r i. absurd (contains_none r i);
    new_plain = λ r w i. absurd (contains_none r i);
    turned = λ U V t v m c. record {
      to_tree = remains_turns (swing_remains U V t v m c) (Changed None);
      joins = λ r i. absurd (contains_none r i);
      gives_now = λ e p. absurd (no_entry e p);
    };
    made = λ e p. absurd (no_entry e p);
  }

  pub swing_won : IsWon l free h name edge to None []
  swing_won = won_both l free h K name edge to None [] swing_exchange
