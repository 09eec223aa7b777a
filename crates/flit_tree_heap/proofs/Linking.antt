-- A link: two stored rows are linked over the leaf that stands at an edge.
use Rattle.std.proofs.Common.{◌≡◌, ◌≢◌, ◌⊎◌, ℕ, ◌+◌, ◌<◌, ◌≤◌, Bool, true, false, cond, List, slice_index, Contains, Some, is_some, refl, sym, ap, subst, ◌∙◌, arith, inl, inr}
use Rattle.std.proofs.lemmas.Bool.{false≢true}
use Rattle.std.proofs.lemmas.List.{get_or-set_other}
use Rattle.std.proofs.lemmas.List.Elements.{Contains-append_left, Contains-append_right, Contains-append_cases}
use Rattle.flit_words.specs.declared.layouts.Layout.{Layout}
use Rattle.flit_words.specs.Layouts.{row_word_of, value_word_of}
use Rattle.flit_words.specs.Words.{value_of}
use Rattle.flit_model.specs.declared.calls.Call.TheVariants.{Insert}
use Rattle.flit_model.specs.declared.calls.Entry.{Entry}
use Rattle.flit_model.specs.Maps.{key_of}
use Rattle.flit_model.specs.Trees.{Tree, IsLawfulTree}
use Rattle.flit_runs.specs.Workings.{Dependency}
use Rattle.flit_structure.specs.Moments.{update_of}
use Rattle.flit_crew.specs.Heaps.{at_word, won, IsWordOf}
use Rattle.flit_tree_heap.specs.Edges.{left, right, own, row_of, flag_of, frozen_of}
use Rattle.flit_tree_heap.specs.Routes.{IsOnRoute, reading, key_at, value_at, rows_at}
use Rattle.flit_tree_heap.specs.Views.{TreeHeap, IsLinked, IsAtRest, IsLeafRow, LeadsOn, IsInnerRow, IsEdge, IsView}
use Rattle.flit_tree_heap.specs.Kept.{IsSettledRow, IsKept}
use Rattle.flit_tree_heap.specs.Exchanges.{key_now, IsLink, IsWon}
use Rattle.flit_tree_heap.proofs.Growths.{IsRow, said, found, Links}
use Rattle.flit_tree_heap.proofs.Ways.{becomes_turns, IsGone}
use Rattle.flit_tree_heap.proofs.Bits.{said-other}
use Rattle.flit_tree_heap.proofs.Steps.{on-last, link-step}
use Rattle.flit_tree_heap.proofs.Images.{nowhere, lawful_to}
use Rattle.flit_tree_heap.proofs.Maps.{same_entry, gives}
use Rattle.flit_tree_heap.proofs.Rows.{row_range, pool_range, linked_given, edge_parts, edge_word, one_row, last_row, left_of_row, right_of_row, key_of_row}
use Rattle.flit_tree_heap.proofs.Sameness.{edge_on}
use Rattle.flit_tree_heap.proofs.Exchanging.{inner_row, IsMade, IsChanged, Changed, Turned, IsExchange}
use Rattle.flit_tree_heap.proofs.Winning.{won_both, edge_seen, written_so, leaf_seen, row_key_seen, come_edge, route, not_five}

module _ (l : Layout) (free : List ℕ) (h : TreeHeap) (needs : List Dependency) (key value row edge to inner leaf : ℕ) (rows : List ℕ) (name number : ℕ)
    (K : IsKept l free h) (L : IsLink l free h needs key value row edge to inner leaf rows) where
  abbrev update : Entry
  update = update_of name number (Insert key value)

  abbrev k : TreeHeap
  k = won h edge to (Some update) rows tt

  link_edge : IsEdge l h edge
  link_edge = come_edge l free h K needs key row edge L.at L.may.rest

  old : ℕ
  old = row_of (at_word h edge)

  -- ---- the new rows

  new_range : (r : ℕ) → Contains rows r → (6 ≤ r) × (r ≤ l.rows + 5)
  new_range r c = pool_range l free h K r (L.resting.pool r c)

  unlinked : (r : ℕ) → Contains rows r → IsLinked l h r → ⊥
  unlinked r c i = L.resting.unlinked r c (linked_given l free h K r i (L.resting.pool r c))

  new_apart : (r w : ℕ) → Contains rows r → IsWordOf l r w → w ≢ edge
  new_apart r w c o e =
      let n = new_range r c in
      let m = row_range l free h K link_edge.row link_edge.linked in
      let same : r ≡ link_edge.row = one_row l K.layout r link_edge.row edge (omega (arith, n.0)) n.1 (omega (arith, m.0)) m.1 (subst (IsWordOf l r) e o)
      (edge_word l free h K edge link_edge) in
      unlinked r c (subst (IsLinked l h) (sym same) link_edge.linked)

  left_word_of : (r : ℕ) → Contains rows r → IsWordOf l r (left r)
  left_word_of r c = left_of_row l K.layout r (omega (arith, (new_range r c).0))

  right_word_of : (r : ℕ) → Contains rows r → IsWordOf l r (right r)
  right_word_of r c = right_of_row l K.layout r (omega (arith, (new_range r c).0))

  new_rest : (r w : ℕ) → Contains rows r → IsWordOf l r w → IsAtRest h w
  new_rest r w c o = L.resting.words r w c o

  new_off : (r w : ℕ) → Contains rows r → IsWordOf l r w → at_word k w ≡ at_word h w
  new_off r w c o = get_or-set_other h.words edge w to 0 (new_apart r w c o)

  now_rest : (r w : ℕ) → Contains rows r → IsWordOf l r w → IsAtRest k w
  now_rest r w c o = new_off r w c o ∙ new_rest r w c o

  linked_up : (r : ℕ) → IsLinked l h r → IsLinked l k r
  linked_up r (inl e) = inl e
  linked_up r (inr (inl e)) = inr (inl e)
  linked_up r (inr (inr (inl e))) = inr (inr (inl e))
  linked_up r (inr (inr (inr g))) = inr (inr (inr (Contains-append_right rows h.given r g)))

  linked_new : (r : ℕ) → Contains rows r → IsLinked l k r
  linked_new r c = inr (inr (inr (Contains-append_left rows h.given r c)))

  none_linked : IsLinked l k 0 → ⊥
  none_linked (inl e) = omega (arith, e)
  none_linked (inr (inl e)) = omega (arith, e)
  none_linked (inr (inr (inl e))) = omega (arith, (row_range l free h K 0 (inr (inr (inl e)))).0)
  none_linked (inr (inr (inr g))) = elim (Contains-append_cases rows h.given 0 g) [
    | inl c ↦ omega (arith, (new_range 0 c).0)
    | inr c ↦ omega (arith, (row_range l free h K 0 (inr (inr (inr c)))).0)
  ]

  leaf_not_inner : IsInnerRow l k leaf → ⊥
  leaf_not_inner i =
      let e : row_of (at_word k (left leaf)) ≡ 0 = ap row_of (new_off leaf (left leaf) L.has_leaf (left_word_of leaf L.has_leaf))
      ∙ (nowhere (at_word h (left leaf)) L.leaf_left).0 in
      none_linked (subst (IsLinked l k) e i.left_on.word)

  old_linked : IsLinked l h old
  unfolding old
  old_linked = (edge_on l h edge link_edge).word

  -- both edges of the new inner row lead on
  left_leads : IsLinked l k (row_of (at_word h (left inner)))
  unfolding old
  left_leads = elim L.pair.order [
    | inl o ↦ subst (IsLinked l k) (sym o.2) (linked_new leaf L.has_leaf)
    | inr o ↦ subst (IsLinked l k) (sym o.2) (linked_up old old_linked)
  ]

  right_leads : IsLinked l k (row_of (at_word h (right inner)))
  unfolding old
  right_leads = elim L.pair.order [
    | inl o ↦ subst (IsLinked l k) (sym o.3) (linked_up old old_linked)
    | inr o ↦ subst (IsLinked l k) (sym o.3) (linked_new leaf L.has_leaf)
  ]

  leads_now : (w : ℕ) → IsWordOf l inner w → IsLinked l k (row_of (at_word h w)) → LeadsOn l k w
  leads_now w o i = record {
    word = subst (λ x. IsLinked l k (row_of x)) (sym (new_off inner w L.has_inner o)) i;
    shadow = subst (λ x. IsLinked l k (row_of x)) (new_rest inner w L.has_inner o) i;
  }

  new_inner : IsInnerRow l k inner
  new_inner = record {
    left_on = leads_now (left inner) (left_word_of inner L.has_inner) left_leads;
    right_on = leads_now (right inner) (right_word_of inner L.has_inner) right_leads;
  }

  new_leaf : IsLeafRow k leaf
  new_leaf = record {
    left_rest = now_rest leaf (left leaf) L.has_leaf (left_word_of leaf L.has_leaf);
    right_rest = now_rest leaf (right leaf) L.has_leaf (right_word_of leaf L.has_leaf);
    no_left = ap value_of (new_off leaf (left leaf) L.has_leaf (left_word_of leaf L.has_leaf)) ∙ L.leaf_left;
    no_right = ap value_of (new_off leaf (right leaf) L.has_leaf (right_word_of leaf L.has_leaf)) ∙ L.leaf_right;
  }

  new_kind : (r : ℕ) → (r ≡ inner) ⊎ (r ≡ leaf) → IsLeafRow k r ⊎ IsInnerRow l k r
  new_kind r (inl e) = inr (subst (IsInnerRow l k) (sym e) new_inner)
  new_kind r (inr e) = inl (subst (IsLeafRow k) (sym e) new_leaf)

  new_settled : (r : ℕ) → Contains rows r → IsSettledRow l k r
  new_settled r c = record {
    key = now_rest r (row_word_of l r 0) c (key_of_row l K.layout r);
    value = λ e. now_rest r (value_word_of l r) c (inr (e, refl));
    kind = new_kind r (L.only r c);
  }

  plain_words : (r w : ℕ) → (r ≡ inner) ⊎ (r ≡ leaf) → (w ≡ left r) ⊎ (w ≡ right r) → (flag_of (at_word h w) ≡ false) × (frozen_of (at_word h w) ≡ false)
  plain_words r w (inl e) (inl x) = rw (x, e) (L.pair.left_plain.unflagged, L.pair.left_plain.unfrozen)
  plain_words r w (inl e) (inr x) = rw (x, e) (L.pair.right_plain.unflagged, L.pair.right_plain.unfrozen)
  plain_words r w (inr e) (inl x) = let n = nowhere (at_word h (left leaf)) L.leaf_left in rw (x, e) (n.1, n.2)
  plain_words r w (inr e) (inr x) = let n = nowhere (at_word h (right leaf)) L.leaf_right in rw (x, e) (n.1, n.2)

  new_plain : (r w : ℕ) → Contains rows r → (w ≡ left r) ⊎ (w ≡ right r) → IsAtRest h w × (flag_of (at_word h w) ≡ false) × (frozen_of (at_word h w) ≡ false)
  new_plain r w c s = (
    elim s [
      | inl x ↦ subst (IsAtRest h) (sym x) (new_rest r (left r) c (left_word_of r c))
      | inr x ↦ subst (IsAtRest h) (sym x) (new_rest r (right r) c (right_word_of r c))
    ],
    (plain_words r w (L.only r c) s).0,
    (plain_words r w (L.only r c) s).1,
  )

  -- ---- views

  link_route : (U : List ℕ) (t : Tree) → IsView l free h U → IsLawfulTree l U t → IsOnRoute (reading l U) key edge 4 t
  link_route = route l free h K needs key row edge L.at L.may.rest

  -- a word of a new row, in a view beside which stands one with the new rows
  new_seen : (U V : List ℕ) → IsChanged l h edge to rows U V → (r w : ℕ) → Contains rows r → IsWordOf l r w → slice_index U w ≡ at_word h w
  new_seen U V c r w i o = sym (c.off w (new_apart r w i o)) ∙ c.linked r w i o

  key_seen_new : (U V : List ℕ) → IsChanged l h edge to rows U V → (r : ℕ) → Contains rows r → key_at l U r ≡ key_now l h r
  unfolding key_at
  key_seen_new U V c r i = ap value_of (new_seen U V c r (row_word_of l r 0) i (key_of_row l K.layout r))

  value_case : (U V : List ℕ) → IsChanged l h edge to rows U V → (b : Bool) → l.values ≡ b → cond b (value_of (slice_index U (value_word_of l leaf))) 0 ≡ value
  value_case U V c true e = ap value_of (new_seen U V c leaf (value_word_of l leaf) L.has_leaf (inr (e, refl))) ∙ L.leaf_value e
  value_case U V c false e = sym (L.no_value e)

  value_seen_new : (U V : List ℕ) → IsChanged l h edge to rows U V → value_at l U leaf ≡ value
  unfolding value_at
  value_seen_new U V c = value_case U V c l.values refl

  inside : (r : ℕ) → Contains rows r → r ≤ rows_at l
  unfolding rows_at
  inside r i = omega (arith, (new_range r i).1, last_row l K.layout)

  own_apart : own edge ≢ inner
  own_apart e = unlinked inner L.has_inner (subst (IsLinked l h) (sym (edge_parts l free h K edge link_edge).0 ∙ e) link_edge.linked)

  link_seen : (U V : List ℕ) (v : IsView l free h U) → IsChanged l h edge to rows U V → Links (reading l U) (reading l V) edge key inner leaf
  unfolding old
  link_seen U V v c =
      let x : slice_index U edge ≡ at_word h edge = edge_seen l free h K edge to link_edge L.may.rest U v in
      let bl = new_seen U V c inner (left inner) L.has_inner (left_word_of inner L.has_inner) in
      let br = new_seen U V c inner (right inner) L.has_inner (right_word_of inner L.has_inner) in
      let al = new_seen U V c leaf (left leaf) L.has_leaf (left_word_of leaf L.has_leaf) in
      let ar = new_seen U V c leaf (right leaf) L.has_leaf (right_word_of leaf L.has_leaf) in
      let el = nowhere (at_word h (left leaf)) L.leaf_left in
      let er = nowhere (at_word h (right leaf)) L.leaf_right in
      let kb = key_seen_new U V c inner L.has_inner in
      let ko = row_key_seen l free h K edge to link_edge L.may.rest U v in
      let ro = ap row_of x in
      record {
        writes = written_so l free h K edge to link_edge L.may.rest U v V rows c;
        named = ap row_of c.now ∙ L.leads;
        unflagged = ap flag_of c.now ∙ L.plain.unflagged;
        unfrozen = ap frozen_of c.now ∙ L.plain.unfrozen;
        was_unflagged = ap flag_of x ∙ L.at.plain.unflagged;
        was_unfrozen = ap frozen_of x ∙ L.at.plain.unfrozen;
        into_leaf = leaf_seen l free h K edge to link_edge L.may.rest U v L.old_leaf;
        apart = own_apart;
        b_row = omega (arith, (new_range inner L.has_inner).0);
        a_row = omega (arith, (new_range leaf L.has_leaf).0);
        b_inside = inside inner L.has_inner;
        a_inside = inside leaf L.has_leaf;
        left_unflagged = ap flag_of bl ∙ L.pair.left_plain.unflagged;
        right_unflagged = ap flag_of br ∙ L.pair.right_plain.unflagged;
        left_unfrozen = ap frozen_of bl ∙ L.pair.left_plain.unfrozen;
        right_unfrozen = ap frozen_of br ∙ L.pair.right_plain.unfrozen;
        a_key = key_seen_new U V c leaf L.has_leaf ∙ L.leaf_key;
        a_left = ap row_of al ∙ el.0;
        a_right = ap row_of ar ∙ er.0;
        a_left_plain = (ap flag_of al ∙ el.1, ap frozen_of al ∙ el.2);
        a_right_plain = (ap flag_of ar ∙ er.1, ap frozen_of ar ∙ er.2);
        below = L.at.below;
        order = elim L.pair.order [
          | inl o ↦ inl (subst (λ q. key < q) (sym ko) o.0, kb ∙ o.1 ∙ sym ko, ap row_of bl ∙ o.2, ap row_of br ∙ o.3 ∙ sym ro)
          | inr o ↦ inr (subst (λ q. q < key) (sym ko) o.0, kb ∙ o.1, ap row_of bl ∙ o.2 ∙ sym ro, ap row_of br ∙ o.3)
        ];
      }

  link_turned : (U V : List ℕ) (t : Tree) → IsView l free h U → IsLawfulTree l U t → IsChanged l h edge to rows U V →
      Turned l h edge to (Some update) rows U V t
  link_turned U V t v m c =
      let S = (link-step (reading l U) (reading l V) edge key inner leaf (link_seen U V v c) t (lawful_to l K.layout.accepted K.layout.kind U t m)
      (link_route U t v m)).1 in
      record {
        to_tree = becomes_turns S.0 (Changed (Some update)) (λ j n e. n (update, refl, e)) (IsGone (reading l U) (IsAtRest h));
        joins = λ r i f. elim (L.only r i) [
          | inl e ↦ subst (λ q. IsRow q S.0.tree) (sym e) (inner_row inner S.0.tree S.1)
          | inr e ↦ absurd (leaf_not_inner (subst (IsInnerRow l k) e f))
        ];
        gives_now = λ e p. subst (λ (d : Entry). found (reading l V) (key_of d.call) 4 S.0.tree ≡ gives d.call) (same_entry update e p)
            (S.0.now ∙ ap Some (value_seen_new U V c));
      }

  other_key : key_now l h (row_of (at_word h edge)) ≢ key
  other_key e = elim L.pair.order [ inl o ↦ omega (arith, o.0, e) | inr o ↦ omega (arith, o.0, e) ]

  link_made : IsMade l free h edge to update
  link_made = record {
    update = refl;
    reply = refl;
    below = L.at.below;
    plain = L.at.plain.unflagged;
    unfrozen = L.plain.unfrozen;
    flagged = λ e. absurd (false≢true (sym e));
    route = link_route;
    before = λ U t v m.
        ap (λ w. is_some (said (reading l U) key w)) (on-last (reading l U) key edge 4 0 4294967294 t
        (lawful_to l K.layout.accepted K.layout.kind U t m).is (link_route U t v m) (leaf_seen l free h K edge to link_edge L.may.rest U v L.old_leaf))
        ∙ ap is_some (said-other (reading l U) key edge (λ e. other_key (sym (row_key_seen l free h K edge to link_edge L.may.rest U v) ∙ e)));
  }

  link_exchange : IsExchange l free h edge to (Some update) rows
  link_exchange = record {
    edge = link_edge;
    movable = not_five l free h K needs key row edge L.at L.may.rest;
    rest = L.may.rest;
    unfrozen = L.at.plain.unfrozen;
    bare = L.may.bare;
    next = L.may.next;
    none = L.may.none;
    keeps = λ f. absurd (false≢true (sym L.at.plain.unflagged ∙ f));
    target = subst (IsLinked l k) (sym L.leads) (linked_new inner L.has_inner);
    flagged = λ f. absurd (false≢true (sym L.plain.unflagged ∙ f));
    frozen = λ f. absurd (false≢true (sym L.plain.unfrozen ∙ f));
    resting = L.resting;
    new_rows = new_settled;
    new_plain = new_plain;
    turned = link_turned;
    made = λ e p. subst (IsMade l free h edge to) (same_entry update e p) link_made;
  }

  pub link_won : IsWon l free h name edge to (Some update) rows
  link_won = won_both l free h K name edge to (Some update) rows link_exchange
