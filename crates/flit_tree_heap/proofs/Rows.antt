-- Linked rows: which words they have, that these are their own, and that everybody may reach them.
use Rattle.std.proofs.Common.{◌≡◌, ◌≢◌, ◌⊎◌, ℕ, ◌+◌, ◌-◌, ◌*◌, ◌<◌, ◌≤◌, true, cond, List, slice_index, Contains, refl, sym, ap, subst, ◌∙◌, arith, inl, inr}
use Rattle.flit_words.specs.declared.layouts.Layout.{Layout}
use Rattle.flit_words.specs.Layouts.{words_of, last_row_of, parts_of, row_word_of, value_word_of}
use Rattle.flit_words.specs.Words.{value_of}
use Rattle.flit_model.specs.Images.{Grown}
use Rattle.flit_model.proofs.Shapes.{shapes_agree, reached_rows_given, free_rows-contains}
use Rattle.flit_model.proofs.FixedRows.{tree_buckets, tree_last_row, tree_row_word}
use Rattle.flit_structure.specs.Moments.{Opening}
use Rattle.flit_crew.specs.Heaps.{at_word, IsOpen, IsForeign, IsWordOf}
use Rattle.flit_tree_heap.specs.Edges.{left, right, own, other, row_of}
use Rattle.flit_tree_heap.specs.Routes.{reading, key_at, value_at}
use Rattle.flit_tree_heap.specs.Views.{TreeHeap, IsTreeLayout, Reaches, IsLinked, IsLeafRow, IsInnerRow, IsEdge}
use Rattle.flit_tree_heap.specs.Kept.{IsKept}
use Rattle.flit_tree_heap.proofs.Growths.{Writes}
use Rattle.flit_tree_heap.proofs.Images.{left_at, right_at, nowhere}
use Rattle.flit_tree_heap.proofs.Words.{own-left, own-right}

-- ---- the words of a tree's layout

module _ (l : Layout) (layout : IsTreeLayout l) where
  pub value_word_at : (row : ℕ) → value_word_of l row ≡ 3 * (l.rows + 5) + (row - 1)
  value_word_at row = rw (layout.kind, tree_buckets l layout.accepted layout.kind) (omega arith)

  pub words_with_values : l.values ≡ true → words_of l ≡ 3 * (l.rows + 5) + (l.rows + 5)
  words_with_values e = rw (e, layout.kind, tree_buckets l layout.accepted layout.kind) (omega arith)

  pub words_least : 3 * (l.rows + 5) ≤ words_of l
  words_least = rw (layout.kind, tree_buckets l layout.accepted layout.kind) (omega arith)

  pub last_row : last_row_of l ≡ l.rows + 5
  last_row = tree_last_row l layout.accepted layout.kind

  pub row_word : (row part : ℕ) → row_word_of l row part ≡ 3 * (row - 1) + part
  row_word = tree_row_word l layout.accepted layout.kind

  three_parts : (part : ℕ) → part < parts_of l.kind → part < 3
  three_parts part h = rw layout.kind at h

  -- a word of two rows: the rows are one
  pub one_row : (row other w : ℕ) → 1 ≤ row → row ≤ l.rows + 5 → 1 ≤ other → other ≤ l.rows + 5 → IsWordOf l row w → IsWordOf l other w → row ≡ other
  one_row row other w a b c d (inl x) (inl y) =
      omega (arith, x.2, y.2, three_parts x.0 x.1, three_parts y.0 y.1, row_word row x.0, row_word other y.0)
  one_row row other w a b c d (inl x) (inr y) = absurd (omega (arith, x.2, y.1, three_parts x.0 x.1, row_word row x.0, value_word_at other))
  one_row row other w a b c d (inr x) (inl y) = absurd (omega (arith, x.1, y.2, three_parts y.0 y.1, row_word other y.0, value_word_at row))
  one_row row other w a b c d (inr x) (inr y) = omega (arith, x.1, y.1, value_word_at row, value_word_at other)

  pub word_within : (row w : ℕ) → 1 ≤ row → row ≤ l.rows + 5 → IsWordOf l row w → w < words_of l
  word_within row w a b (inl x) = omega (arith, x.2, three_parts x.0 x.1, row_word row x.0, words_least)
  word_within row w a b (inr x) = omega (arith, x.1, value_word_at row, words_with_values x.0)

  pub key_of_row : (row : ℕ) → IsWordOf l row (row_word_of l row 0)
  key_of_row row = inl (0, rw layout.kind (omega arith), refl)

  pub left_of_row : (row : ℕ) → 1 ≤ row → IsWordOf l row (left row)
  left_of_row row some = inl (1, rw layout.kind (omega arith), sym (left_at l layout.accepted layout.kind row some))

  pub right_of_row : (row : ℕ) → 1 ≤ row → IsWordOf l row (right row)
  right_of_row row some = inl (2, rw layout.kind (omega arith), sym (right_at l layout.accepted layout.kind row some))

  -- an edge word of a row is none of the key words and value words
  pub edge_number : (row : ℕ) → 1 ≤ row → row ≤ l.rows + 5 → (w : ℕ) → (w ≡ left row) ⊎ (w ≡ right row) →
      (own w ≡ row) × ((r : ℕ) → row_word_of l r 0 ≢ w) × ((r : ℕ) → value_word_of l r ≢ w)
  unfolding left right
  edge_number row some most w (inl e) = (
    ap own e ∙ own-left row,
    (λ r x. omega (arith, e, row_word r 0, x)),
    (λ r x. omega (arith, e, value_word_at r, x)),
  )
  edge_number row some most w (inr e) = (
    ap own e ∙ own-right row,
    (λ r x. omega (arith, e, row_word r 0, x)),
    (λ r x. omega (arith, e, value_word_at r, x)),
  )

  -- a foreign row stands behind the fixed ones, and the start image doesn't reach it
  pub foreign_row : (free : List ℕ) (o : Opening) (row : ℕ) → IsForeign l free o row →
      (6 ≤ row) × (row ≤ l.rows + 5) × (Reaches l o.words row → ⊥)
  foreign_row free o row f =
      let p = (free_rows-contains l f.recovers.shape row).0 (subst (λ rows. Contains rows row) f.recovers.free_rows f.unreached) in (
        rw layout.kind at p.0,
        omega (arith, p.1, last_row),
        (λ r. p.2 (subst (λ rows. Contains rows row)
            (shapes_agree l o.words (Grown r.0) f.recovers.shape (layout.kind, r.1) f.recovers.lawful).1 r.2)),
      )

-- ---- the rows of a heap

module _ (l : Layout) (free : List ℕ) (h : TreeHeap) (K : IsKept l free h) where
  pub row_range : (row : ℕ) → IsLinked l h row → (2 ≤ row) × (row ≤ l.rows + 5)
  row_range row (inl e) = (omega arith, omega (arith, K.layout.accepted.least_row))
  row_range row (inr (inl e)) = (omega arith, omega (arith, K.layout.accepted.least_row))
  row_range row (inr (inr (inl r))) = elim (reached_rows_given l h.opening.words (Grown r.0) row K.layout.accepted (K.layout.kind, r.1) r.2) [
    | inl x ↦ (omega (arith, rw K.layout.kind at x.0), omega (arith, x.1, last_row l K.layout))
    | inr x ↦ (omega (arith, x.1), omega (arith, x.1))
  ]
  row_range row (inr (inr (inr g))) =
      let p = K.pool row (K.given row g) in
      (omega (arith, rw K.layout.kind at p.least), omega (arith, p.most, last_row l K.layout))

  pub pool_range : (row : ℕ) → Contains free row → (6 ≤ row) × (row ≤ l.rows + 5)
  pool_range row c = let p = K.pool row c in (omega (arith, rw K.layout.kind at p.least), omega (arith, p.most, last_row l K.layout))

  -- a linked row of the pool was linked since the opening
  pub linked_given : (row : ℕ) → IsLinked l h row → Contains free row → Contains h.given row
  linked_given row (inl e) c = absurd (omega (arith, e, (pool_range row c).0))
  linked_given row (inr (inl e)) c = absurd (omega (arith, e, (pool_range row c).0))
  linked_given row (inr (inr (inl r))) c = absurd ((K.pool row c).unreached r)
  linked_given row (inr (inr (inr g))) c = g

  -- a linked row isn't foreign
  linked_ours : (row : ℕ) → IsLinked l h row → IsForeign l free h.opening row → ⊥
  linked_ours row (inl e) f = omega (arith, e, (foreign_row l K.layout free h.opening row f).0)
  linked_ours row (inr (inl e)) f = omega (arith, e, (foreign_row l K.layout free h.opening row f).0)
  linked_ours row (inr (inr (inl r))) f = (foreign_row l K.layout free h.opening row f).2 r
  linked_ours row (inr (inr (inr g))) f = f.outside (K.given row g)

  pub word_open : (row : ℕ) → IsLinked l h row → (w : ℕ) → IsWordOf l row w → IsOpen l free h w
  word_open row i w o = let n = row_range row i in record {
    within = word_within l K.layout row w (omega (arith, n.0)) n.1 o;
    given = λ r c x.
        let m = pool_range r c in
        let e : row ≡ r = one_row l K.layout row r w (omega (arith, n.0)) n.1 (omega (arith, m.0)) m.1 o x in
        linked_given r (subst (IsLinked l h) e i) c;
    ours = λ r f x.
        let m = foreign_row l K.layout free h.opening r f in
        let e : row ≡ r = one_row l K.layout row r w (omega (arith, n.0)) n.1 (omega (arith, m.0)) m.1 o x in
        linked_ours r (subst (IsLinked l h) e i) f;
  }

  pub key_open : (row : ℕ) → IsLinked l h row → IsOpen l free h (row_word_of l row 0)
  key_open row i = word_open row i (row_word_of l row 0) (key_of_row l K.layout row)

  pub value_open : (row : ℕ) → IsLinked l h row → l.values ≡ true → IsOpen l free h (value_word_of l row)
  value_open row i e = word_open row i (value_word_of l row) (inr (e, refl))

  pub left_open : (row : ℕ) → IsLinked l h row → IsOpen l free h (left row)
  left_open row i = word_open row i (left row) (left_of_row l K.layout row (omega (arith, (row_range row i).0)))

  pub right_open : (row : ℕ) → IsLinked l h row → IsOpen l free h (right row)
  right_open row i = word_open row i (right row) (right_of_row l K.layout row (omega (arith, (row_range row i).0)))

  pub edge_open : (w : ℕ) → IsEdge l h w → IsOpen l free h w
  edge_open w e = elim e.side [
    | inl x ↦ subst (IsOpen l free h) (sym x) (left_open e.row e.linked)
    | inr x ↦ subst (IsOpen l free h) (sym x) (right_open e.row e.linked)
  ]

  -- a row isn't a leaf and an inner row at once
  pub leaf_or_inner : (row : ℕ) → IsLeafRow h row → IsInnerRow l h row → ⊥
  leaf_or_inner row f i =
      let e : row_of (at_word h (left row)) ≡ 0 = (nowhere (at_word h (left row)) f.no_left).0 in
      omega (arith, (row_range (row_of (at_word h (left row))) i.left_on.word).0, e)

  pub edge_parts : (w : ℕ) (e : IsEdge l h w) → (own w ≡ e.row) × ((r : ℕ) → row_word_of l r 0 ≢ w) × ((r : ℕ) → value_word_of l r ≢ w)
  edge_parts w e = edge_number l K.layout e.row (omega (arith, (row_range e.row e.linked).0)) (row_range e.row e.linked).1 w e.side

  -- an edge of an inner row isn't one of a leaf
  pub leaf_apart : (w : ℕ) → IsEdge l h w → (row : ℕ) → IsLeafRow h row → (left row ≢ w) × (right row ≢ w)
  leaf_apart w e row f =
      let same : row ≡ own w → ⊥ = λ x. leaf_or_inner row f (subst (IsInnerRow l h) (sym (x ∙ (edge_parts w e).0)) e.inner) in
      ((λ x. same (sym (own-left row) ∙ ap own x)), (λ x. same (sym (own-right row) ∙ ap own x)))

  -- a write to an edge, said of what images say
  pub writes_from : (w0 : ℕ) → IsEdge l h w0 → (U V : List ℕ) → ((w : ℕ) → w ≢ w0 → slice_index V w ≡ slice_index U w) → 1 ≤ row_of (slice_index U w0) →
      Writes (reading l U) (reading l V) w0
  unfolding key_at value_at
  writes_from w0 e U V same some = record {
    row = λ w d. ap row_of (same w d);
    flag = λ w d. rw (same w d) refl;
    frozen = λ w d. rw (same w d) refl;
    key = λ r. ap value_of (same (row_word_of l r 0) ((edge_parts w0 e).1 r));
    value = λ r. ap (λ x. cond l.values (value_of x) 0) (same (value_word_of l r) ((edge_parts w0 e).2 r));
    rows = refl;
    edge = some;
  }

  pub edge_word : (w : ℕ) (e : IsEdge l h w) → IsWordOf l e.row w
  edge_word w e =
      let some : 1 ≤ e.row = omega (arith, (row_range e.row e.linked).0) in
      elim e.side [
        | inl x ↦ subst (IsWordOf l e.row) (sym x) (left_of_row l K.layout e.row some)
        | inr x ↦ subst (IsWordOf l e.row) (sym x) (right_of_row l K.layout e.row some)
      ]

-- word 5 is the right edge of row 2
pub left_fixed : (row : ℕ) → left row ≡ 5 → ⊥
unfolding left
left_fixed row e = omega (arith, e)

pub right_fixed : (row : ℕ) → right row ≡ 5 → row ≡ 2
unfolding right
right_fixed row e = omega (arith, e)
