-- A won exchange of an edge at rest keeps the heap, and leads to a later one, where it turns each view's tree into another
-- one as the steps of one image do.
use Rattle.std.proofs.Common.{◌≡◌, ◌≢◌, ◌⊎◌, ℕ, ◌+◌, ◌*◌, ◌%◌, ◌<◌, ◌≤◌, Bool, true, false, not, List, [], length, slice_index, slice_set, Contains, Option, Some, None, is_some, refl, sym, ap, subst, ◌∙◌, arith, inl, inr}
use Rattle.std.proofs.lemmas.Bool.{cases_eq, cases_lt, false≢true}
use Rattle.std.proofs.lemmas.List.{length-set, get_or-set_same, get_or-set_other, append-nil}
use Rattle.std.proofs.lemmas.List.Elements.{Contains-append_left, Contains-append_right, Contains-append_cases}
use Rattle.std.specs.FinMap as fin
use Rattle.flit_words.specs.declared.layouts.Layout.{Layout}
use Rattle.flit_words.specs.Layouts.{last_row_of, row_word_of, value_word_of, initial_of, fixed_words}
use Rattle.flit_words.specs.Words.{is_tagged, value_of, version_of}
use Rattle.flit_model.specs.declared.calls.Entry.{Entry}
use Rattle.flit_model.specs.declared.calls.Reply.TheVariants.{Yes}
use Rattle.flit_model.specs.Lists.{value_in}
use Rattle.flit_model.specs.Maps.{IsLegal, map_after, map_after_all, reply_of, key_of}
use Rattle.flit_model.specs.Histories.{is_update, is_update_by}
use Rattle.flit_model.specs.Trees.{Tree, Leaf, Inner, IsLawfulTree, IsFixed, rows_in_tree, tree_map}
use Rattle.flit_model.proofs.FixedRows.{fixed_value}
use Rattle.flit_model.specs.Settling.{takes_effect}
use Rattle.flit_runs.specs.Workings.{Dependency}
use Rattle.flit_runs.specs.Soundness.{Needs}
use Rattle.flit_structure.specs.Lawful.{is_insert}
use Rattle.flit_crew.specs.Heaps.{at_word, at_shadow, waits_at, won, IsOpen, IsAhead, IsWordOf, AreResting}
use Rattle.flit_tree_heap.specs.Edges.{left, right, own, other, row_of, flag_of, frozen_of}
use Rattle.flit_tree_heap.specs.Routes.{Reading, IsOnRoute, Leads, reading}
use Rattle.flit_tree_heap.specs.Views.{TreeHeap, settled_map, IsLinked, IsAtRest, IsLeafRow, LeadsOn, IsInnerRow, IsEdge, IsView, IsLed}
use Rattle.flit_tree_heap.specs.Kept.{IsSettledRow, MayBeFlagged, HasRightBits, IsCutBetween, IsCutOff, HasTaken, IsWaiting, HasWords, IsKept}
use Rattle.flit_tree_heap.specs.Later.{EdgeGoesOn, IsLater}
use Rattle.flit_tree_heap.proofs.Growths.{IsTree, IsRow, found, InTree}
use Rattle.flit_tree_heap.proofs.Ways.{IsCut, IsGone, Turns}
use Rattle.flit_tree_heap.proofs.Words.{other-left, other-right, other-apart}
use Rattle.flit_tree_heap.proofs.Unique.{cut-law}
use Rattle.flit_tree_heap.proofs.Steps.{top-plain}
use Rattle.flit_tree_heap.proofs.Images.{nowhere, lawful_to, lawful_back, map_get, map_above, row_contains, contains_row}
use Rattle.flit_tree_heap.proofs.Maps.{gives, had_before, has_after, gives_some, says_yes, settled_stays, waits_cases, waits_on, waits_now}
use Rattle.flit_tree_heap.proofs.Rows.{row_range, pool_range, foreign_row, edge_word, one_row, word_within, last_row, linked_given, edge_number, edge_parts, edge_open, left_open, right_open, leaf_apart, value_word_at}
use Rattle.flit_tree_heap.proofs.Recovering.{shadows_get}
use Rattle.flit_tree_heap.proofs.Viewing.{lawful_one, shadows_view, view_set}

-- an inner row of a tree is one of its rows
pub inner_row : (r : ℕ) (t : Tree) → InTree r t → IsRow r t
inner_row r (Leaf q) i = absurd i
inner_row r (Inner q a b) (inl e) = inl e
inner_row r (Inner q a b) (inr (inl i)) = inr (inl (inner_row r a i))
inner_row r (Inner q a b) (inr (inr i)) = inr (inr (inner_row r b i))

-- what comes to wait by an exchange
pub record IsMade (l : Layout) (free : List ℕ) (h : TreeHeap) (w0 to : ℕ) (e : Entry) : Type 0 where
  pub update : is_update_by e.call Yes ≡ true
  pub reply : e.reply ≡ Yes
  pub below : key_of e.call < 4294967293
  pub plain : flag_of (at_word h w0) ≡ false
  pub unfrozen : frozen_of to ≡ false
  pub flagged : is_insert e.call ≡ false → flag_of to ≡ true
  pub route : (U : List ℕ) (t : Tree) → IsView l free h U → IsLawfulTree l U t → IsOnRoute (reading l U) (key_of e.call) w0 4 t
  pub before : (U : List ℕ) (t : Tree) → IsView l free h U → IsLawfulTree l U t → is_some (found (reading l U) (key_of e.call) 4 t) ≡ not (is_insert e.call)

-- an image that differs from a view at one word, and has the words of the rows that are linked
pub record IsChanged (l : Layout) (h : TreeHeap) (w0 to : ℕ) (rows U V : List ℕ) : Type 0 where
  pub off : (w : ℕ) → w ≢ w0 → slice_index V w ≡ slice_index U w
  pub now : slice_index V w0 ≡ to
  pub linked : (row w : ℕ) → Contains rows row → IsWordOf l row w → slice_index V w ≡ at_word h w

abbrev pub Changed : Option Entry → ℕ → Type 0
Changed effect key = (e : Entry) × (effect ≡ Some e) × (key ≡ key_of e.call)

-- a view's tree is turned into another one, which has the new rows and the update
pub record Turned (l : Layout) (h : TreeHeap) (w0 to : ℕ) (effect : Option Entry) (rows U V : List ℕ) (t : Tree) : Type 0 where
  pub to_tree : Turns (reading l U) (reading l V) t (Changed effect) (IsGone (reading l U) (IsAtRest h))
  pub joins : (row : ℕ) → Contains rows row → IsInnerRow l (won h w0 to effect rows tt) row → IsRow row to_tree.tree
  pub gives_now : (e : Entry) → effect ≡ Some e → found (reading l V) (key_of e.call) 4 to_tree.tree ≡ gives e.call

pub record IsExchange (l : Layout) (free : List ℕ) (h : TreeHeap) (w0 to : ℕ) (effect : Option Entry) (rows : List ℕ) : Type 0 where
  pub edge : IsEdge l h w0
  pub movable : w0 ≢ 5
  pub rest : IsAtRest h w0
  pub unfrozen : frozen_of (at_word h w0) ≡ false
  pub bare : is_tagged to ≡ false
  pub next : version_of to ≡ version_of (at_word h w0) + 1
  pub none : waits_at h w0 ≡ None
  pub keeps : flag_of (at_word h w0) ≡ true → (row_of to ≡ row_of (at_word h w0)) × (flag_of to ≡ true)
  -- what it leads to
  pub target : IsLinked l (won h w0 to effect rows tt) (row_of to)
  pub flagged : flag_of to ≡ true → MayBeFlagged l h (row_of to)
  pub frozen : frozen_of to ≡ true → flag_of (at_shadow h (other w0)) ≡ true
  -- the rows that it links
  pub resting : AreResting l free h rows
  pub new_rows : (row : ℕ) → Contains rows row → IsSettledRow l (won h w0 to effect rows tt) row
  pub new_plain : (row w : ℕ) → Contains rows row → (w ≡ left row) ⊎ (w ≡ right row) →
      IsAtRest h w × (flag_of (at_word h w) ≡ false) × (frozen_of (at_word h w) ≡ false)
  -- each view's tree
  pub turned : (U V : List ℕ) (t : Tree) → IsView l free h U → IsLawfulTree l U t → IsChanged l h w0 to rows U V → Turned l h w0 to effect rows U V t
  -- the update
  pub made : (e : Entry) → effect ≡ Some e → IsMade l free h w0 to e

-- ---- numbers

edge_between : (w row n : ℕ) → (w ≡ left row) ⊎ (w ≡ right row) → 2 ≤ row → row ≤ n → (4 ≤ w) × (w < 3 * n) × (w % 3 ≢ 0)
unfolding left right
edge_between w row n (inl e) a b = (omega arith, omega arith, (λ x. omega (arith, e, x)))
edge_between w row n (inr e) a b = (omega arith, omega arith, (λ x. omega (arith, e, x)))

-- the edges of the fixed rows but row 2 lead nowhere
fixed_zero : (w : ℕ) → w < 15 → 4 ≤ w → w % 3 ≢ 0 → (w ≡ 4) ⊎ ((w ≡ 5) ⊎ (slice_index fixed_words w ≡ 0))
fixed_zero w a b c = elim (cases_eq w 4) [
  | inl e ↦ inl e
  | inr n4 ↦ inr (elim (cases_eq w 5) [
    | inl e ↦ inl e
    | inr n5 ↦ inr (elim (cases_eq w 7) [
      | inl e ↦ rw e refl
      | inr n7 ↦ elim (cases_eq w 8) [
        | inl e ↦ rw e refl
        | inr n8 ↦ elim (cases_eq w 10) [
          | inl e ↦ rw e refl
          | inr n10 ↦ elim (cases_eq w 11) [
            | inl e ↦ rw e refl
            | inr n11 ↦ elim (cases_eq w 13) [
              | inl e ↦ rw e refl
              | inr n13 ↦ let e : w ≡ 14 = omega (arith, a, b, c, n4, n5, n7, n8, n10, n11, n13) in rw e refl
            ]
          ]
        ]
      ]
    ])
  ])
]

never : (b : Bool) → b ≡ not b → ⊥
never true e = false≢true (sym e)
never false e = false≢true e

-- a row of a tree whose left edge leads on is an inner one
row-inner : (V : Reading) (r w lo hi : ℕ) (t : Tree) → IsTree V w lo hi t → IsRow r t → 1 ≤ V.row (left r) → InTree r t
row-inner V r w lo hi (Leaf q) g i s = absurd (omega (arith, s, rw i at g.no_left))
row-inner V r w lo hi (Inner q a b) g (inl e) s = inl e
row-inner V r w lo hi (Inner q a b) g (inr (inl i)) s = inr (inl (row-inner V r (left q) lo (V.key q) a g.1 i s))
row-inner V r w lo hi (Inner q a b) g (inr (inr i)) s = inr (inr (row-inner V r (right q) (V.key q) hi b g.2 i s))

module _ (l : Layout) (free : List ℕ) (h : TreeHeap) (K : IsKept l free h) (w0 to : ℕ) (effect : Option Entry) (rows : List ℕ)
    (X : IsExchange l free h w0 to effect rows) where
  abbrev k : TreeHeap
  k = won h w0 to effect rows tt

  -- ---- words

  open_here : IsOpen l free h w0
  open_here = edge_open l free h K w0 X.edge

  word_off : (w : ℕ) → w ≢ w0 → at_word k w ≡ at_word h w
  word_off w d = get_or-set_other h.words w0 w to 0 d

  word_on : at_word k w0 ≡ to
  word_on = get_or-set_same h.words w0 to 0 (subst (λ n. w0 < n) (sym K.words) open_here.within)

  old_bare : is_tagged (at_word h w0) ≡ false
  old_bare = K.bare w0 open_here

  key_off : (r : ℕ) → at_word k (row_word_of l r 0) ≡ at_word h (row_word_of l r 0)
  key_off r = word_off (row_word_of l r 0) ((edge_parts l free h K w0 X.edge).1 r)

  value_off : (r : ℕ) → at_word k (value_word_of l r) ≡ at_word h (value_word_of l r)
  value_off r = word_off (value_word_of l r) ((edge_parts l free h K w0 X.edge).2 r)

  open_up : (w : ℕ) → IsOpen l free h w → IsOpen l free k w
  open_up w o = record { within = o.within; given = λ r c x. Contains-append_right rows h.given r (o.given r c x); ours = o.ours }

  linked_up : (r : ℕ) → IsLinked l h r → IsLinked l k r
  linked_up r (inl e) = inl e
  linked_up r (inr (inl e)) = inr (inl e)
  linked_up r (inr (inr (inl e))) = inr (inr (inl e))
  linked_up r (inr (inr (inr g))) = inr (inr (inr (Contains-append_right rows h.given r g)))

  linked_cases : (r : ℕ) → IsLinked l k r → IsLinked l h r ⊎ Contains rows r
  linked_cases r (inl e) = inl (inl e)
  linked_cases r (inr (inl e)) = inl (inr (inl e))
  linked_cases r (inr (inr (inl e))) = inl (inr (inr (inl e)))
  linked_cases r (inr (inr (inr g))) = elim (Contains-append_cases rows h.given r g) [ inl a ↦ inr a | inr a ↦ inl (inr (inr (inr a))) ]

  -- ---- rows

  leaf_stays : (r : ℕ) → IsLeafRow h r → IsLeafRow k r
  leaf_stays r f =
      let d = leaf_apart l free h K w0 X.edge r f in
      record {
        left_rest = word_off (left r) d.0 ∙ f.left_rest;
        right_rest = word_off (right r) d.1 ∙ f.right_rest;
        no_left = ap value_of (word_off (left r) d.0) ∙ f.no_left;
        no_right = ap value_of (word_off (right r) d.1) ∙ f.no_right;
      }

  leads_on : (w : ℕ) → LeadsOn l h w → LeadsOn l k w
  leads_on w o = record {
    word = elim (cases_eq w w0) [
      | inl e ↦ subst (λ x. IsLinked l k (row_of x)) (sym (ap (at_word k) e ∙ word_on)) X.target
      | inr d ↦ subst (λ x. IsLinked l k (row_of x)) (sym (word_off w d)) (linked_up (row_of (at_word h w)) o.word)
    ];
    shadow = linked_up (row_of (at_shadow h w)) o.shadow;
  }

  inner_stays : (r : ℕ) → IsInnerRow l h r → IsInnerRow l k r
  inner_stays r i = record { left_on = leads_on (left r) i.left_on; right_on = leads_on (right r) i.right_on }

  row_stays : (r : ℕ) → IsLinked l h r → IsSettledRow l k r
  row_stays r i = let s = K.linked r i in record {
    key = key_off r ∙ s.key;
    value = λ e. value_off r ∙ s.value e;
    kind = elim s.kind [ inl f ↦ inl (leaf_stays r f) | inr f ↦ inr (inner_stays r f) ];
  }

  rows_kept : (r : ℕ) → IsLinked l k r → IsSettledRow l k r
  rows_kept r i = elim (linked_cases r i) [ inl a ↦ row_stays r a | inr a ↦ X.new_rows r a ]

  -- linked rows are rows from 2 on, so what leads to one isn't 0
  some_row : (r : ℕ) → IsLinked l k r → 2 ≤ r
  some_row r i = elim (linked_cases r i) [
    | inl a ↦ (row_range l free h K r a).0
    | inr a ↦ omega (arith, pool_least r a)
  ]
    where
      pool_least : (r : ℕ) → Contains rows r → 6 ≤ r
      pool_least r a = let p = K.pool r (X.resting.pool r a) in omega (arith, rw K.layout.kind at p.least)

  leaf_inner : (r : ℕ) → IsLeafRow h r → IsInnerRow l k r → ⊥
  leaf_inner r f i =
      let d = leaf_apart l free h K w0 X.edge r f in
      let e : row_of (at_word k (left r)) ≡ 0 = (nowhere (at_word k (left r)) (ap value_of (word_off (left r) d.0) ∙ f.no_left)).0 in
      omega (arith, some_row (row_of (at_word k (left r))) i.left_on.word, e)

  inner_back : (r : ℕ) → IsLinked l h r → IsInnerRow l k r → IsInnerRow l h r
  inner_back r i f = elim (K.linked r i).kind [ inl a ↦ absurd (leaf_inner r a f) | inr a ↦ a ]

  flag_up : (r : ℕ) → MayBeFlagged l h r → MayBeFlagged l k r
  flag_up r m = record {
    leaf = leaf_stays r m.leaf;
    below = subst (λ x. value_of x < 4294967293) (sym (key_off r)) m.below;
    not_three = m.not_three;
  }

  old_edge : (w : ℕ) (e : IsEdge l k w) → IsLinked l h e.row → IsEdge l h w
  old_edge w e i = record { row = e.row; linked = i; inner = inner_back e.row i e.inner; side = e.side }

  bits_old : (w : ℕ) → IsEdge l h w → HasRightBits l k w
  bits_old w e = let b = K.bits w e in elim (cases_eq w w0) [
    | inl x ↦ subst (HasRightBits l k) (sym x) (record {
      follows = rw (word_on, ← X.rest) (inr (omega (arith, X.next), X.unfrozen, X.keeps));
      flagged = rw word_on (λ f. flag_up (row_of to) (X.flagged f));
      frozen = rw word_on X.frozen;
    })
    | inr d ↦ record {
      follows = rw (word_off w d) b.follows;
      flagged = rw (word_off w d) (λ f. flag_up (row_of (at_word h w)) (b.flagged f));
      frozen = rw (word_off w d) b.frozen;
    }
  ]

  row_off : (row w : ℕ) → Contains rows row → (w ≡ left row) ⊎ (w ≡ right row) → w ≢ w0
  row_off row w c s x =
      let p = K.pool row (X.resting.pool row c) in
      let n = edge_number l K.layout row (omega (arith, rw K.layout.kind at p.least)) (omega (arith, p.most, rows_last)) w s in
      let same : row ≡ X.edge.row = sym n.0 ∙ ap own x ∙ (edge_parts l free h K w0 X.edge).0 in
      unlinked (subst (IsLinked l h) (sym same) X.edge.linked)
    where
      unlinked : IsLinked l h row → ⊥
      unlinked i = X.resting.unlinked row c (linked_given l free h K row i (X.resting.pool row c))

      rows_last : last_row_of l ≡ l.rows + 5
      rows_last = last_row l K.layout

  bits_kept : (w : ℕ) → IsEdge l k w → HasRightBits l k w
  bits_kept w e = elim (linked_cases e.row e.linked) [
    | inl i ↦ bits_old w (old_edge w e i)
    | inr c ↦
        let n = X.new_plain e.row w c e.side in
        let off = word_off w (row_off e.row w c e.side) in
        record {
          follows = rw off (inl (sym n.0));
          flagged = rw off (λ f. absurd (false≢true (sym n.1 ∙ f)));
          frozen = rw off (λ f. absurd (false≢true (sym n.2 ∙ f)));
        }
  ]

  -- ---- views

  back : List ℕ → List ℕ
  back V = slice_set V w0 (at_word h w0)

  place : (V : List ℕ) → IsView l free k V → w0 < length V
  place V v = subst (λ n. w0 < n) (sym v.whole) open_here.within

  back_off : (V : List ℕ) (w : ℕ) → w ≢ w0 → slice_index (back V) w ≡ slice_index V w
  unfolding back
  back_off V w d = get_or-set_other V w0 w (at_word h w0) 0 d

  back_on : (V : List ℕ) → IsView l free k V → slice_index (back V) w0 ≡ at_word h w0
  unfolding back
  back_on V v = get_or-set_same V w0 (at_word h w0) 0 (place V v)

  back_view : (V : List ℕ) → IsView l free k V → IsView l free h (back V)
  unfolding back
  back_view V v = record {
    whole = length-set V w0 (at_word h w0) ∙ v.whole;
    untagged = λ w b. elim (cases_eq w w0) [
      | inl e ↦ rw (e, get_or-set_same V w0 (at_word h w0) 0 (place V v)) old_bare
      | inr d ↦ rw (get_or-set_other V w0 w (at_word h w0) 0 d) (v.untagged w b)
    ];
    places = λ w o. elim (cases_eq w w0) [
      | inl e ↦ rw (e, get_or-set_same V w0 (at_word h w0) 0 (place V v)) (inl refl)
      | inr d ↦ rw (get_or-set_other V w0 w (at_word h w0) 0 d) (elim (v.places w (open_up w o)) [ inl x ↦ inl (x ∙ word_off w d) | inr x ↦ inr x ])
    ];
  }

  -- the words of the rows that are linked are open now
  new_open : (row w : ℕ) → Contains rows row → IsWordOf l row w → IsOpen l free k w
  new_open row w c o =
      let n = pool_range l free h K row (X.resting.pool row c) in
      record {
        within = word_within l K.layout row w (omega (arith, n.0)) n.1 o;
        given = λ r d x.
            let m = pool_range l free h K r d in
            let same : row ≡ r = one_row l K.layout row r w (omega (arith, n.0)) n.1 (omega (arith, m.0)) m.1 o x in
            Contains-append_left rows h.given r (subst (Contains rows) same c);
        ours = λ r f x.
            let m = foreign_row l K.layout free h.opening r f in
            let same : row ≡ r = one_row l K.layout row r w (omega (arith, n.0)) n.1 (omega (arith, m.0)) m.1 o x in
            f.outside (subst (Contains free) same (X.resting.pool row c));
      }

  new_word : (row w : ℕ) → Contains rows row → IsWordOf l row w → w ≢ w0
  new_word row w c o e =
      let i = X.edge.linked in
      let n = pool_range l free h K row (X.resting.pool row c) in
      let m = row_range l free h K X.edge.row i in
      let here : IsWordOf l X.edge.row w0 = edge_word l free h K w0 X.edge in
      let same : row ≡ X.edge.row = one_row l K.layout row X.edge.row w0 (omega (arith, n.0)) n.1 (omega (arith, m.0)) m.1 (subst (IsWordOf l row) e o) here in
      X.resting.unlinked row c (linked_given l free h K row (subst (IsLinked l h) (sym same) i) (X.resting.pool row c))

  back_changed : (V : List ℕ) → IsView l free k V → slice_index V w0 ≡ to → IsChanged l h w0 to rows (back V) V
  back_changed V v e = record {
    off = λ w d. sym (back_off V w d);
    now = e;
    linked = λ row w c o. elim (v.places w (new_open row w c o)) [
      | inl x ↦ x ∙ word_off w (new_word row w c o)
      | inr x ↦ x ∙ sym (X.resting.words row w c o)
    ];
  }

  old_view : (V : List ℕ) → IsView l free k V → slice_index V w0 ≡ at_shadow h w0 → IsView l free h V
  old_view V v e = record {
    whole = v.whole;
    untagged = v.untagged;
    places = λ w o. elim (cases_eq w w0) [
      | inl x ↦ inr (rw x e)
      | inr d ↦ elim (v.places w (open_up w o)) [ inl x ↦ inl (x ∙ word_off w d) | inr x ↦ inr x ]
    ];
  }

  choice : (V : List ℕ) → IsView l free k V → (slice_index V w0 ≡ to) ⊎ (slice_index V w0 ≡ at_shadow h w0)
  choice V v = elim (v.places w0 (open_up w0 open_here)) [ inl x ↦ inl (x ∙ word_on) | inr x ↦ inr x ]

  -- the edge isn't a word of a row that never changes
  edge_bounds : (4 ≤ w0) × (w0 < 3 * (l.rows + 5)) × (w0 % 3 ≢ 0)
  edge_bounds = let n = row_range l free h K X.edge.row X.edge.linked in edge_between w0 X.edge.row (l.rows + 5) X.edge.side n.0 n.1

  shadow_on : IsLinked l h (row_of (at_shadow h w0))
  shadow_on = elim X.edge.side [
    | inl x ↦ subst (λ w. IsLinked l h (row_of (at_shadow h w))) (sym x) X.edge.inner.left_on.shadow
    | inr x ↦ subst (λ w. IsLinked l h (row_of (at_shadow h w))) (sym x) X.edge.inner.right_on.shadow
  ]

  leads_nowhere : (t : Tree) → IsLawfulTree l h.shadows t → w0 < 15 → w0 ≢ 4 → slice_index fixed_words w0 ≡ 0 → ⊥
  leads_nowhere t m small other z =
      let zero : value_of (at_shadow h w0) ≡ 0 = fixed_value l K.layout.accepted K.layout.kind h.shadows t m w0 small other ∙ z in
      omega (arith, (row_range l free h K (row_of (at_shadow h w0)) shadow_on).0, (nowhere (at_shadow h w0) zero).0)

  free_word : IsFixed l w0 → ⊥
  free_word (inl f) = elim (fixed_zero w0 f.0 edge_bounds.0 edge_bounds.2) [
    | inl e ↦ f.1 e
    | inr e ↦ elim e [
      | inl x ↦ X.movable x
      | inr x ↦ let i = K.images h.shadows (shadows_view l free h K) in leads_nowhere i.0 i.1 f.0 f.1 x
    ]
  ]
  free_word (inr f) = omega (arith, f.1, value_word_at l K.layout 1, edge_bounds.1)

  fixed_view : (V : List ℕ) → IsView l free k V → (w : ℕ) → IsFixed l w → value_in V w ≡ initial_of l.kind w
  fixed_view V v w f =
      let i = K.images (back V) (back_view V v) in
      ap value_of (sym (back_off V w (λ e. free_word (subst (IsFixed l) e f)))) ∙ i.1.fixed w f

  -- ---- the trees of views that take the new word

  abbrev old_tree : (V : List ℕ) → IsView l free k V → (t : Tree) × IsLawfulTree l (back V) t
  old_tree V v = K.images (back V) (back_view V v)

  abbrev turn : (V : List ℕ) (v : IsView l free k V) → slice_index V w0 ≡ to → Turned l h w0 to effect rows (back V) V (old_tree V v).0
  turn V v e = X.turned (back V) V (old_tree V v).0 (back_view V v) (old_tree V v).1 (back_changed V v e)

  abbrev step : (V : List ℕ) (v : IsView l free k V) → slice_index V w0 ≡ to →
      Turns (reading l (back V)) (reading l V) (old_tree V v).0 (Changed effect) (IsGone (reading l (back V)) (IsAtRest h))
  step V v e = (turn V v e).to_tree

  new_lawful : (V : List ℕ) (v : IsView l free k V) (e : slice_index V w0 ≡ to) → IsLawfulTree l V (step V v e).tree
  new_lawful V v e = lawful_back l K.layout.accepted K.layout.kind V (step V v e).tree v.whole v.untagged (fixed_view V v) (step V v e).lawful

  new_one : (V : List ℕ) (v : IsView l free k V) (e : slice_index V w0 ≡ to) (t : Tree) → IsLawfulTree l V t → (step V v e).tree ≡ t
  new_one V v e t m = lawful_one l V (step V v e).tree t (new_lawful V v e) m

  images_kept : (V : List ℕ) → IsView l free k V → (t : Tree) × IsLawfulTree l V t
  images_kept V v = elim (choice V v) [
    | inl e ↦ ((step V v e).tree, new_lawful V v e)
    | inr e ↦ K.images V (old_view V v e)
  ]

  -- ---- maps

  map_same : settled_map k ≡ settled_map h
  map_same = ap (map_after_all h.opening.content) (settled_stays h.progress w0 effect)

  get_same : (key : ℕ) → fin.get (settled_map k) key ≡ fin.get (settled_map h) key
  get_same key = ap (λ m. fin.get m key) map_same

  after_equal : (d : Entry) → fin.get (map_after (settled_map k) d.call) (key_of d.call) ≡ fin.get (map_after (settled_map h) d.call) (key_of d.call)
  after_equal d = ap (λ m. fin.get (map_after m d.call) (key_of d.call)) map_same

  step_get : (V : List ℕ) (v : IsView l free k V) (e : slice_index V w0 ≡ to) (key : ℕ) → (Changed effect key → ⊥) →
      fin.get (tree_map l V (step V v e).tree) key ≡ fin.get (tree_map l (back V) (old_tree V v).0) key
  step_get V v e key n = elim (cases_lt key 4294967293) [
    | inl b ↦
        map_get l K.layout.accepted K.layout.kind V (step V v e).tree (new_lawful V v e) key b ∙ (step V v e).others key (omega arith) n
        ∙ sym (map_get l K.layout.accepted K.layout.kind (back V) (old_tree V v).0 (old_tree V v).1 key b)
    | inr a ↦
        map_above l K.layout.accepted K.layout.kind V (step V v e).tree key a
        ∙ sym (map_above l K.layout.accepted K.layout.kind (back V) (old_tree V v).0 key a)
  ]

  waits_apart : (w : ℕ) (d : Entry) → waits_at h w ≡ Some d → w ≢ w0
  waits_apart w d b e = let c : None ≡ Some d = sym X.none ∙ ap (fin.get h.progress.waiting) (sym e) ∙ b in cc

  waits_up : (w : ℕ) (d : Entry) → waits_at h w ≡ Some d → waits_at k w ≡ Some d
  waits_up w d b = waits_on h.progress w0 effect w (waits_apart w d b) ∙ b

  waits_new : (d : Entry) → effect ≡ Some d → waits_at k w0 ≡ Some d
  waits_new d p = ap (λ o. fin.get (takes_effect h.progress w0 o).waiting w0) p ∙ waits_now h.progress w0 d

  shadows_found : (e : Entry) → effect ≡ Some e → is_some (fin.get (settled_map h) (key_of e.call)) ≡ not (is_insert e.call)
  shadows_found e p =
      let i = K.images h.shadows (shadows_view l free h K) in
      let M = X.made e p in
      ap is_some (sym (shadows_get l free h K (key_of e.call) i.0 i.1) ∙ map_get l K.layout.accepted K.layout.kind h.shadows i.0 i.1 (key_of e.call) M.below)
      ∙ M.before h.shadows i.0 (shadows_view l free h K) i.1

  is_update_now : (e : Entry) → effect ≡ Some e → is_update e ≡ true
  is_update_now e p = let M = X.made e p in ap (is_update_by e.call) M.reply ∙ M.update

  legal_now : (e : Entry) → effect ≡ Some e → e.reply ≡ reply_of (settled_map h) e.call
  legal_now e p = let M = X.made e p in M.reply ∙ says_yes (settled_map h) e.call M.update (shadows_found e p)

  -- no other update of its key waits
  new_key : (w : ℕ) (d : Entry) → waits_at h w ≡ Some d → (e : Entry) → effect ≡ Some e → key_of d.call ≡ key_of e.call → ⊥
  new_key w d b e p same =
      let W = K.waits w d b in
      let o = edge_open l free h K w W.edge in
      let U = slice_set h.shadows w (at_word h w) in
      let u : IsView l free h U = view_set l free h h.shadows (shadows_view l free h K) w (at_word h w) o.within (K.bare w o) (inl refl) in
      let i = K.images U u in
      let has : slice_index U w ≡ at_word h w = get_or-set_same h.shadows w (at_word h w) 0 (subst (λ n. w < n) (sym K.shadows) o.within) in
      let taken : fin.get (tree_map l U i.0) (key_of d.call) ≡ gives d.call =
      (K.maps U i.0 u i.1).taken w d b has ∙ has_after (settled_map h) d.call d.reply W.update W.legal in
      let now : is_some (gives d.call) ≡ not (is_insert e.call) =
      ap is_some (sym taken ∙ map_get l K.layout.accepted K.layout.kind U i.0 i.1 (key_of d.call) W.below)
      ∙ ap (λ key. is_some (found (reading l U) key 4 i.0)) same ∙ (X.made e p).before U i.0 u i.1 in
      let before : is_some (fin.get (settled_map h) (key_of d.call)) ≡ not (is_insert e.call) =
      ap (λ key. is_some (fin.get (settled_map h) key)) same ∙ shadows_found e p in
      never (is_insert d.call) (sym (gives_some d.call d.reply W.update) ∙ now ∙ sym before ∙ had_before (settled_map h) d.call d.reply W.update W.legal)

  other_word : to ≢ at_word h w0
  other_word e = omega (arith, X.next, ap version_of e)

  taken_old : (V : List ℕ) (v : IsView l free k V) (e : slice_index V w0 ≡ at_shadow h w0) (t : Tree) → IsLawfulTree l V t → HasTaken k V (tree_map l V t)
  taken_old V v e t m = let O = K.maps V t (old_view V v e) m in record {
    taken = λ w d a x. elim (waits_cases h.progress w0 effect w d X.none a) [
      | inl c ↦ absurd (other_word (sym word_on ∙ ap (at_word k) (sym c.0) ∙ sym x ∙ ap (slice_index V) c.0 ∙ e ∙ sym X.rest))
      | inr c ↦ O.taken w d c.1 (x ∙ word_off w c.0) ∙ sym (after_equal d)
    ];
    others = λ key hyp. O.others key (λ w d b x. hyp w d (waits_up w d b) (x ∙ sym (word_off w (waits_apart w d b)))) ∙ sym (get_same key);
  }

  taken_new : (V : List ℕ) (v : IsView l free k V) (e : slice_index V w0 ≡ to) → HasTaken k V (tree_map l V (step V v e).tree)
  taken_new V v e = let O = K.maps (back V) (old_tree V v).0 (back_view V v) (old_tree V v).1 in record {
    taken = λ w d a x. elim (waits_cases h.progress w0 effect w d X.none a) [
      | inl c ↦
          map_get l K.layout.accepted K.layout.kind V (step V v e).tree (new_lawful V v e) (key_of d.call) (X.made d c.1).below
          ∙ (turn V v e).gives_now d c.1
          ∙ sym (has_after (settled_map h) d.call d.reply (is_update_now d c.1) (legal_now d c.1)) ∙ sym (after_equal d)
      | inr c ↦
          step_get V v e (key_of d.call) (λ z. new_key w d c.1 z.0 z.1 z.2)
          ∙ O.taken w d c.1 (back_off V w c.0 ∙ x ∙ word_off w c.0) ∙ sym (after_equal d)
    ];
    others = λ key hyp.
        step_get V v e key (λ z. hyp w0 z.0 (waits_new z.0 z.1) (e ∙ sym word_on) (sym z.2))
        ∙ O.others key (λ w d b x. hyp w d (waits_up w d b)
        (sym (back_off V w (waits_apart w d b)) ∙ x ∙ sym (word_off w (waits_apart w d b)))) ∙ sym (get_same key);
  }

  maps_kept : (V : List ℕ) (t : Tree) → IsView l free k V → IsLawfulTree l V t → HasTaken k V (tree_map l V t)
  maps_kept V t v m = elim (choice V v) [
    | inl e ↦ subst (λ u. HasTaken k V (tree_map l V u)) (new_one V v e t m) (taken_new V v e)
    | inr e ↦ taken_old V v e t m
  ]

  -- ---- what waits

  edge_up : (w : ℕ) → IsEdge l h w → IsEdge l k w
  edge_up w e = record { row = e.row; linked = linked_up e.row e.linked; inner = inner_stays e.row e.inner; side = e.side }

  uncut : (U : List ℕ) (t : Tree) → IsView l free h U → IsLawfulTree l U t → (w : ℕ) (d : Entry) → waits_at h w ≡ Some d → IsCut (reading l U) w → ⊥
  uncut U t u m w d b (inl f) = let W = K.waits w d b in elim (u.places w (edge_open l free h K w W.edge)) [
    | inl x ↦ false≢true (sym W.unfrozen ∙ ap frozen_of (sym x) ∙ f)
    | inr x ↦ false≢true (sym W.plain.unfrozen ∙ ap frozen_of (sym x) ∙ f)
  ]
  uncut U t u m w d b (inr f) =
      let W = K.waits w d b in
      let o = edge_open l free h K w W.edge in
      let v : IsView l free h (slice_set U w (at_shadow h w)) = view_set l free h U u w (at_shadow h w) o.within (K.untagged w o.within) (inr refl) in
      let i = K.images (slice_set U w (at_shadow h w)) v in
      let apart : other w ≢ w = other-apart w (omega (arith, (edge_parts l free h K w W.edge).0, (row_range l free h K W.edge.row W.edge.linked).0)) in
      let here : slice_index (slice_set U w (at_shadow h w)) w ≡ at_shadow h w =
      get_or-set_same U w (at_shadow h w) 0 (subst (λ n. w < n) (sym u.whole) o.within) in
      let fz : frozen_of (slice_index (slice_set U w (at_shadow h w)) (other w)) ≡ true = ap frozen_of (get_or-set_other U w (other w) (at_shadow h w) 0 apart)
      ∙ f.1 in
      elim (cut-law (reading l (slice_set U w (at_shadow h w))) (key_of d.call) w 4 0 4294967294 i.0
      (lawful_to l K.layout.accepted K.layout.kind (slice_set U w (at_shadow h w)) i.0 i.1).is (W.routes (slice_set U w (at_shadow h w)) i.0 v i.1) fz) [
        | inl x ↦ false≢true (sym (top-plain (reading l U) t (lawful_to l K.layout.accepted K.layout.kind U t m)) ∙ ap (λ q. flag_of (slice_index U q)) x ∙ f.0)
        | inr x ↦ false≢true (sym W.plain.unflagged ∙ ap flag_of (sym here) ∙ x)
      ]

  waiting_old : (w : ℕ) (d : Entry) → w ≢ w0 → waits_at h w ≡ Some d → IsWaiting l free k w d
  waiting_old w d n b = let W = K.waits w d b in record {
    edge = edge_up w W.edge;
    ahead = ap version_of (word_off w n) ∙ W.ahead;
    plain = W.plain;
    unfrozen = ap frozen_of (word_off w n) ∙ W.unfrozen;
    flagged = λ i. ap flag_of (word_off w n) ∙ W.flagged i;
    update = W.update;
    legal = W.legal ∙ sym (ap (λ m. reply_of m d.call) map_same);
    below = W.below;
    routes = λ V t v m. elim (choice V v) [
      | inl e ↦ subst (λ u. IsOnRoute (reading l V) (key_of d.call) w 4 u) (new_one V v e t m)
          (elim ((step V v e).routes (key_of d.call) w (omega (arith, W.below)) (W.routes (back V) (old_tree V v).0 (back_view V v) (old_tree V v).1)) [
            | inl o ↦ o
            | inr c ↦ absurd (uncut (back V) (old_tree V v).0 (back_view V v) (old_tree V v).1 w d b c)
          ])
      | inr e ↦ W.routes V t (old_view V v e) m
    ];
  }

  uncut_here : (V : List ℕ) (v : IsView l free k V) → flag_of (at_word h w0) ≡ false → IsCut (reading l (back V)) w0 → ⊥
  uncut_here V v plain (inl f) = false≢true (sym X.unfrozen ∙ ap frozen_of (sym (back_on V v)) ∙ f)
  uncut_here V v plain (inr f) = false≢true (sym plain ∙ ap flag_of (sym (back_on V v)) ∙ f.0)

  waiting_new : (d : Entry) → effect ≡ Some d → IsWaiting l free k w0 d
  waiting_new d p = let M = X.made d p in record {
    edge = edge_up w0 X.edge;
    ahead = ap version_of word_on ∙ X.next ∙ ap (λ x. version_of x + 1) X.rest;
    plain = record { unflagged = ap flag_of (sym X.rest) ∙ M.plain; unfrozen = ap frozen_of (sym X.rest) ∙ X.unfrozen };
    unfrozen = ap frozen_of word_on ∙ M.unfrozen;
    flagged = λ i. ap flag_of word_on ∙ M.flagged i;
    update = is_update_now d p;
    legal = legal_now d p ∙ sym (ap (λ m. reply_of m d.call) map_same);
    below = M.below;
    routes = λ V t v m. elim (choice V v) [
      | inl e ↦ subst (λ u. IsOnRoute (reading l V) (key_of d.call) w0 4 u) (new_one V v e t m)
          (elim ((step V v e).routes (key_of d.call) w0 (omega (arith, M.below)) (M.route (back V) (old_tree V v).0 (back_view V v) (old_tree V v).1)) [
            | inl o ↦ o
            | inr c ↦ absurd (uncut_here V v M.plain c)
          ])
      | inr e ↦ M.route V t (old_view V v e) m
    ];
  }

  waits_kept : (w : ℕ) (d : Entry) → waits_at k w ≡ Some d → IsWaiting l free k w d
  waits_kept w d a = elim (waits_cases h.progress w0 effect w d X.none a) [
    | inl c ↦ subst (λ v. IsWaiting l free k v d) (sym c.0) (waiting_new d c.1)
    | inr c ↦ waiting_old w d c.0 c.1
  ]

  apart_kept : (w v : ℕ) (d e : Entry) → waits_at k w ≡ Some d → waits_at k v ≡ Some e → key_of d.call ≡ key_of e.call → w ≡ v
  apart_kept w v d e a b same = elim (waits_cases h.progress w0 effect w d X.none a) [
    | inl x ↦ elim (waits_cases h.progress w0 effect v e X.none b) [
      | inl y ↦ x.0 ∙ sym y.0
      | inr y ↦ absurd (new_key v e y.1 d x.1 (sym same))
    ]
    | inr x ↦ elim (waits_cases h.progress w0 effect v e X.none b) [
      | inl y ↦ absurd (new_key w d x.1 e y.1 same)
      | inr y ↦ K.apart w v d e x.1 y.1 same
    ]
  ]

  -- ---- rows that were cut off

  cut_up : (a b : ℕ) → IsCutBetween h a b → IsCutBetween k a b
  cut_up a b c = record {
    frozen_word = ap frozen_of (word_off a (λ e. false≢true (sym X.unfrozen ∙ ap (λ w. frozen_of (at_word h w)) (sym e) ∙ c.frozen_word))) ∙ c.frozen_word;
    frozen_shadow = c.frozen_shadow;
    flagged_word = elim (cases_eq b w0) [
      | inl e ↦ ap (λ w. flag_of (at_word k w)) e ∙ ap flag_of word_on ∙ (X.keeps (ap (λ w. flag_of (at_word h w)) (sym e) ∙ c.flagged_word)).1
      | inr d ↦ ap flag_of (word_off b d) ∙ c.flagged_word
    ];
    flagged_shadow = c.flagged_shadow;
  }

  back_words : (V : List ℕ) (v : IsView l free k V) → HasWords l free k V → HasWords l free h (back V)
  back_words V v has w o = elim (cases_eq w w0) [
    | inl e ↦ rw e (back_on V v)
    | inr d ↦ back_off V w d ∙ has w (open_up w o) ∙ word_off w d
  ]

  gone_cut : (V : List ℕ) (v : IsView l free k V) → HasWords l free k V → (row : ℕ) → IsLinked l h row → IsInnerRow l h row →
      IsGone (reading l (back V)) (IsAtRest h) row → IsCutOff k row
  gone_cut V v has row i f (inl g) =
      let a = back_words V v has (left row) (left_open l free h K row i) in
      let b = back_words V v has (right row) (right_open l free h K row i) in
      let fz : frozen_of (at_word h (left row)) ≡ true = ap frozen_of (sym a) ∙ g.0 in
      let bits = K.bits (left row) (record { row = row; linked = i; inner = f; side = inl refl }) in
      inl (cut_up (left row) (right row) (record {
        frozen_word = fz;
        frozen_shadow = ap frozen_of (sym g.2) ∙ fz;
        flagged_word = ap flag_of (sym b) ∙ g.1;
        flagged_shadow = subst (λ w. flag_of (at_shadow h w) ≡ true) (other-left row (omega (arith, (row_range l free h K row i).0))) (bits.frozen fz);
      }))
  gone_cut V v has row i f (inr g) =
      let a = back_words V v has (left row) (left_open l free h K row i) in
      let b = back_words V v has (right row) (right_open l free h K row i) in
      let fz : frozen_of (at_word h (right row)) ≡ true = ap frozen_of (sym b) ∙ g.0 in
      let bits = K.bits (right row) (record { row = row; linked = i; inner = f; side = inr refl }) in
      inr (cut_up (right row) (left row) (record {
        frozen_word = fz;
        frozen_shadow = ap frozen_of (sym g.2) ∙ fz;
        flagged_word = ap flag_of (sym a) ∙ g.1;
        flagged_shadow = subst (λ w. flag_of (at_shadow h w) ≡ true) (other-right row (omega (arith, (row_range l free h K row i).0))) (bits.frozen fz);
      }))

  cut_off_up : (row : ℕ) → IsCutOff h row → IsCutOff k row
  cut_off_up row (inl c) = inl (cut_up (left row) (right row) c)
  cut_off_up row (inr c) = inr (cut_up (right row) (left row) c)

  leads_some : (V : List ℕ) (v : IsView l free k V) (row : ℕ) → IsLinked l h row → IsInnerRow l h row → 1 ≤ row_of (slice_index (back V) (left row))
  leads_some V v row i f = elim ((back_view V v).places (left row) (left_open l free h K row i)) [
    | inl x ↦ rw x (omega (arith, (row_range l free h K (row_of (at_word h (left row))) f.left_on.word).0))
    | inr x ↦ rw x (omega (arith, (row_range l free h K (row_of (at_shadow h (left row))) f.left_on.shadow).0))
  ]

  gone_old : (V : List ℕ) (v : IsView l free k V) → HasWords l free k V → (e : slice_index V w0 ≡ to) (row : ℕ) → IsLinked l h row → IsInnerRow l h row →
      row ≢ 2 →
      Contains (rows_in_tree (step V v e).tree) row ⊎ IsCutOff k row
  gone_old V v has e row i f n = elim (K.gone row i f n (back V) (old_tree V v).0 (back_view V v) (back_words V v has) (old_tree V v).1) [
    | inl c ↦
        let is = (lawful_to l K.layout.accepted K.layout.kind (back V) (old_tree V v).0 (old_tree V v).1).is in
        let stands : InTree row (old_tree V v).0 = row-inner (reading l (back V)) row 4 0 4294967294 (old_tree V v).0 is
        (contains_row l K.layout.accepted K.layout.kind (old_tree V v).0 row c) (leads_some V v row i f) in
        elim ((step V v e).rows row stands) [
          | inl x ↦ inl (row_contains l K.layout.accepted K.layout.kind (step V v e).tree row (inner_row row (step V v e).tree x))
          | inr x ↦ inr (gone_cut V v has row i f x)
        ]
    | inr c ↦ inr (cut_off_up row c)
  ]

  gone_kept : (row : ℕ) → IsLinked l k row → IsInnerRow l k row → row ≢ 2 → (V : List ℕ) (t : Tree) → IsView l free k V → HasWords l free k V →
      IsLawfulTree l V t →
      Contains (rows_in_tree t) row ⊎ IsCutOff k row
  gone_kept row i f n V t v has m =
      let e : slice_index V w0 ≡ to = has w0 (open_up w0 open_here) ∙ word_on in
      subst (λ u. Contains (rows_in_tree u) row ⊎ IsCutOff k row) (new_one V v e t m) (elim (linked_cases row i) [
        | inl a ↦ gone_old V v has e row a (inner_back row a f) n
        | inr c ↦ inl (row_contains l K.layout.accepted K.layout.kind (step V v e).tree row ((turn V v e).joins row c f))
      ])

  -- ---- all of it

  open_back : (w : ℕ) → IsOpen l free k w → at_word h w ≢ at_shadow h w → IsOpen l free h w
  open_back w o d = record {
    within = o.within;
    given = λ r c x. elim (Contains-append_cases rows h.given r (o.given r c x)) [ inl a ↦ absurd (d (X.resting.words r w a x)) | inr a ↦ a ];
    ours = o.ours;
  }

  bare_kept : (w : ℕ) → IsOpen l free k w → is_tagged (at_word k w) ≡ false
  bare_kept w o = elim (cases_eq w w0) [
    | inl e ↦ ap (λ v. is_tagged (at_word k v)) e ∙ ap is_tagged word_on ∙ X.bare
    | inr n ↦ ap is_tagged (word_off w n) ∙ elim (cases_eq (at_word h w) (at_shadow h w)) [
      | inl e ↦ ap is_tagged e ∙ K.untagged w o.within
      | inr d ↦ K.bare w (open_back w o d)
    ]
  ]

  gap_kept : (w : ℕ) → IsOpen l free k w → IsAtRest k w ⊎ IsAhead k w
  gap_kept w o = elim (cases_eq w w0) [
    | inl e ↦ subst (λ v. IsAtRest k v ⊎ IsAhead k v) (sym e) (inr (ap version_of word_on ∙ X.next ∙ ap (λ x. version_of x + 1) X.rest))
    | inr n ↦ elim (cases_eq (at_word h w) (at_shadow h w)) [
      | inl e ↦ inl (word_off w n ∙ e)
      | inr d ↦ elim (K.gap w (open_back w o d)) [ inl x ↦ inl (word_off w n ∙ x) | inr x ↦ inr (ap version_of (word_off w n) ∙ x) ]
    ]
  ]

  pub exchange_kept : IsKept l free k
  exchange_kept = record {
    layout = K.layout;
    words = length-set h.words w0 to ∙ K.words;
    shadows = K.shadows;
    untagged = K.untagged;
    bare = bare_kept;
    gap = gap_kept;
    pool = λ row c. let p = K.pool row c in record { least = p.least; most = p.most; unreached = p.unreached };
    given = λ row c. elim (Contains-append_cases rows h.given row c) [ inl a ↦ X.resting.pool row a | inr a ↦ K.given row a ];
    linked = rows_kept;
    bits = bits_kept;
    images = images_kept;
    maps = maps_kept;
    waits = waits_kept;
    apart = apart_kept;
    settled = subst (IsLegal h.opening.content) (sym (settled_stays h.progress w0 effect)) K.settled;
    gone = gone_kept;
  }

  led_kept : (needs : List Dependency) (key row : ℕ) → key < 4294967294 → IsLed l free h needs key row → IsLed l free k needs key row
  led_kept needs key row below L V t v takes m = elim (choice V v) [
    | inl e ↦ subst (λ u. Leads (reading l V) u key row) (new_one V v e t m)
        ((step V v e).leads key row below (L (back V) (old_tree V v).0 (back_view V v) (λ w o n. elim (cases_eq w w0) [
          | inl x ↦ rw x (back_on V v)
          | inr d ↦ back_off V w d ∙ takes w (open_up w o) (subst (λ y. Needs needs w (version_of y)) (sym (word_off w d)) n) ∙ word_off w d
        ]) (old_tree V v).1))
    | inr e ↦ L V t (old_view V v e) (λ w o n. elim (cases_eq w w0) [
      | inl x ↦ ap (slice_index V) x ∙ e ∙ sym X.rest ∙ ap (at_word h) (sym x)
      | inr d ↦ takes w (open_up w o) (subst (λ y. Needs needs w (version_of y)) (sym (word_off w d)) n) ∙ word_off w d
    ]) m
  ]

  pub exchange_later : (who : Option ℕ) → IsLater l free who h k
  exchange_later who = record {
    opening = refl;
    given = λ row c. Contains-append_right rows h.given row c;
    rows = λ row i. record { key = key_off row; value = λ e. value_off row; leaf = leaf_stays row };
    edges = λ w e. elim (cases_eq w w0) [
      | inl x ↦ subst (EdgeGoesOn h k) (sym x) (inr (X.rest, refl, rw word_on (inr (omega (arith, X.next), X.unfrozen, X.keeps))))
      | inr d ↦ inl (word_off w d, inl refl)
    ];
    settled = ([], settled_stays h.progress w0 effect ∙ sym (append-nil h.progress.settled));
    waits = λ w d b. inl (waits_up w d b, word_off w (waits_apart w d b));
    led = led_kept;
  }
