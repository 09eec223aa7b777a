-- A lawful image, persistent as a whole, is kept.
use Rattle.std.proofs.Common.{◌≡◌, ◌≢◌, ◌⊎◌, ℕ, ◌+◌, ◌-◌, ◌*◌, ◌/◌, ◌%◌, ◌<◌, ◌≤◌, ◌==◌, ◌&&◌, Bool, true, false, not, cond, nat_lt, List, [], ◌∷◌, ◌++◌, slice_index, Contains, Some, None, nat_cmp, refl, sym, ap, subst, ◌∙◌, arith, inl, inr}
use Rattle.std.specs.List.{AllByRecursion, range_with_len}
use Rattle.std.proofs.lemmas.Bool.{cases_lt, false≢true}
use Rattle.std.proofs.lemmas.List.{get_or_past, length-map}
use Rattle.std.proofs.Math.ListN.{get_or-map}
use Rattle.std.specs.FinMap as fin
use Rattle.std.specs.FinMap.{get-empty}
use Rattle.flit_words.specs.declared.layouts.Layout.{Layout}
use Rattle.flit_words.specs.Layouts.{first_row_of, words_of, parts_of, row_word_of, value_word_of, fixed_words, above_keys}
use Rattle.flit_words.specs.Words.{is_tagged, value_of, bare_of}
use Rattle.flit_words.specs.Links.{link_of}
use Rattle.flit_model.specs.declared.calls.Entry.{Entry}
use Rattle.flit_model.specs.Lists.{value_in, link_in, key_in, row_value_in, pair_in}
use Rattle.flit_model.specs.Images.{Shape, Grown, Chains, IsLawfulAs, map_in, free_rows}
use Rattle.flit_model.specs.Trees.{Tree, Leaf, Inner, IsLawfulTree, IsFixed, left_word, right_word, rows_in_tree, is_in_map, tree_pairs, tree_map}
use Rattle.flit_model.proofs.Rising.{rising-lower, rising-range}
use Rattle.flit_model.proofs.FreshImages.{fresh_recovers}
use Rattle.flit_model.proofs.Agreeing.{RowAgrees, tree_same}
use Rattle.flit_model.proofs.Elements.{all_front, all_behind}
use Rattle.flit_model.proofs.Membership.{contains_first, contains_later, contains_none}
use Rattle.flit_model.proofs.Shapes.{free_rows-contains, reached_rows_given}
use Rattle.flit_model.proofs.FixedRows.{fixed_value}
use Rattle.flit_place.proofs.WordTags.{bare-untagged}
use Rattle.flit_structure.specs.Moments.{Opening}
use Rattle.flit_structure.specs.Lawful.{IsOpening, AreAmong}
use Rattle.flit_crew.specs.Heaps.{at_word, waits_at, IsOpen, IsForeign, IsWordOf}
use Rattle.flit_tree_heap.specs.Edges.{left, right, other, row_of, flag_of, frozen_of}
use Rattle.flit_tree_heap.specs.Routes.{reading, key_at}
use Rattle.flit_tree_heap.specs.Views.{TreeHeap, IsTreeLayout, IsLinked, IsLeafRow, LeadsOn, IsInnerRow, IsEdge, IsView}
use Rattle.flit_tree_heap.specs.Kept.{IsSettledRow, MayBeFlagged, HasRightBits, IsCutOff, HasWords, IsKept}
use Rattle.flit_tree_heap.specs.Opened.{first_heap, fresh_opening}
use Rattle.flit_tree_heap.proofs.Growths.{IsLeaf, IsTree, IsRow}
use Rattle.flit_tree_heap.proofs.Words.{other-left, other-right}
use Rattle.flit_tree_heap.proofs.Images.{nowhere, value_zero, lawful_to, row_contains, contains_row}
use Rattle.flit_tree_heap.proofs.Rows.{value_word_at, row_word, last_row, one_row, word_within, foreign_row}
use Rattle.flit_tree_heap.proofs.Viewing.{lawful_one}

all_contained_by : (P : ℕ → Type 0) (xs : List ℕ) → ((x : ℕ) → Contains xs x → P x) → AllByRecursion P xs
all_contained_by P [] f = tt
all_contained_by P (x ∷ xs) f = (f x (contains_first x xs), all_contained_by P xs (λ y c. f y (contains_later x xs y c)))

-- ---- maps of images that agree on the rows of a tree

record PairAgrees (l : Layout) (image other : List ℕ) (row : ℕ) : Type 0 where
  same : RowAgrees l image other row
  value : row_value_in l other row ≡ row_value_in l image row

module _ (l : Layout) (image other : List ℕ) where
  leaf_pairs : (b c : Bool) (p q : ℕ × ℕ) → b ≡ c → p ≡ q → cond b (p ∷ []) [] ≡ cond c (q ∷ []) []
  leaf_pairs b c p q e f = rw (e, f) refl

  pairs_same : (edge : ℕ) (t : Tree) → value_in other edge ≡ value_in image edge → AllByRecursion (PairAgrees l image other) (rows_in_tree t) →
      tree_pairs l other edge t ≡ tree_pairs l image edge t
  pairs_same edge (Leaf r) e a = leaf_pairs (is_in_map l other edge r) (is_in_map l image edge r) (pair_in l other r) (pair_in l image r)
      (ap (λ v. not (link_of v).mark && nat_lt (key_in l other r) (above_keys 0)) e
      ∙ ap (λ n. not (link_in image edge).mark && nat_lt n (above_keys 0)) a.0.same.key)
      (ap (λ n. (n, row_value_in l other r)) a.0.same.key ∙ ap (λ n. (key_in l image r, n)) a.0.value)
  pairs_same edge (Inner r p q) e a =
      let lefts = pairs_same (left_word l r) p a.0.same.left (all_front (PairAgrees l image other) (rows_in_tree p) (rows_in_tree q) a.1) in
      let rights = pairs_same (right_word l r) q a.0.same.right (all_behind (PairAgrees l image other) (rows_in_tree p) (rows_in_tree q) a.1) in
      ap (λ xs. xs ++ tree_pairs l other (right_word l r) q) lefts ∙ ap (λ ys. tree_pairs l image (left_word l r) p ++ ys) rights

module _ (l : Layout) (o : Opening) (layout : IsTreeLayout l) (t : Tree) (m : IsLawfulTree l o.words t) (content : o.content ≡ tree_map l o.words t)
    (among : AreAmong o.free (free_rows l (Grown t))) where
  abbrev h : TreeHeap
  h = first_heap o

  -- ---- words

  pub word_is : (w : ℕ) → at_word h w ≡ slice_index o.words w
  word_is w = get_or-map bare_of o.words w 0 ∙ elim (cases_lt w (words_of l)) [
    | inl below ↦ bare-untagged (slice_index o.words w) (m.untagged w below)
    | inr past ↦ ap bare_of (get_or_past o.words w 0 (subst (λ n. n ≤ w) (sym m.whole) past))
        ∙ sym (get_or_past o.words w 0 (subst (λ n. n ≤ w) (sym m.whole) past))
  ]

  pool_row : (row : ℕ) → Contains o.free row → (6 ≤ row) × (row ≤ l.rows + 5) × (Contains (rows_in_tree t) row → ⊥)
  pool_row row c =
      let p = (free_rows-contains l (Grown t) row).0 (among row c) in
      (rw layout.kind at p.0, omega (arith, p.1, last_row l layout), p.2)

  -- the words of a row that isn't in the pool and isn't foreign are open
  row_open : (r : ℕ) → 1 ≤ r → r ≤ l.rows + 5 → (Contains o.free r → ⊥) → (IsForeign l o.free o r → ⊥) → (w : ℕ) → IsWordOf l r w → IsOpen l o.free h w
  row_open r a b n ours w i = record {
    within = word_within l layout r w a b i;
    given = λ q c x.
        let p = pool_row q c in
        let e : q ≡ r = one_row l layout q r w (omega (arith, p.0)) p.1 a b x i in
        absurd (n (subst (Contains o.free) e c));
    ours = λ q f x.
        let p = foreign_row l layout o.free o q f in
        let e : q ≡ r = one_row l layout q r w (omega (arith, p.0)) p.1 a b x i in
        ours (subst (IsForeign l o.free o) e f);
  }

  fixed_row_open : (r : ℕ) → 1 ≤ r → r ≤ 5 → (w : ℕ) → IsWordOf l r w → IsOpen l o.free h w
  fixed_row_open r a b w i =
      row_open r a (omega arith) (λ c. omega (arith, (pool_row r c).0)) (λ f. omega (arith, (foreign_row l layout o.free o r f).0)) w i

  three : (n : ℕ) → n < 3 → n < parts_of l.kind
  three n b = rw layout.kind b

  fixed_open : (w : ℕ) → IsFixed l w → IsOpen l o.free h w
  fixed_open w (inl f) = fixed_row_open (w / 3 + 1) (omega arith) (omega (arith, f.0)) w
      (inl (w % 3, three (w % 3) (omega arith), omega (arith, row_word l layout (w / 3 + 1) (w % 3))))
  fixed_open w (inr f) = fixed_row_open (w - 3 * (l.rows + 5) + 1) (omega arith) (omega (arith, f.2, value_word_at l layout 5)) w
      (inr (f.0, omega (arith, f.1, value_word_at l layout 1, value_word_at l layout (w - 3 * (l.rows + 5) + 1))))

  four_open : IsOpen l o.free h 4
  four_open = fixed_row_open 2 (omega arith) (omega arith) 4 (inl (1, three 1 (omega arith), omega (arith, row_word l layout 2 1)))

  tree_row : (r : ℕ) → IsRow r t → (2 ≤ r) × (r ≤ l.rows + 5)
  tree_row r i = linked_range r (row_contains l layout.accepted layout.kind t r i)
    where
      linked_range : (r : ℕ) → Contains (rows_in_tree t) r → (2 ≤ r) × (r ≤ l.rows + 5)
      linked_range r c = elim (reached_rows_given l o.words (Grown t) r layout.accepted (layout.kind, m) c) [
        | inl x ↦ (omega (arith, rw layout.kind at x.0), omega (arith, x.1, last_row l layout))
        | inr x ↦ (omega (arith, x.1), omega (arith, x.1))
      ]

  tree_open : (r : ℕ) → IsRow r t → (w : ℕ) → IsWordOf l r w → IsOpen l o.free h w
  tree_open r i w x =
      let n = tree_row r i in
      let reached = row_contains l layout.accepted layout.kind t r i in
      row_open r (omega (arith, n.0)) n.1 (λ c. (pool_row r c).2 reached) (λ f. (foreign_row l layout o.free o r f).2 (t, m, reached)) w x

  -- ---- rows

  tree_linked : (r : ℕ) → IsRow r t → IsLinked l h r
  tree_linked r i = inr (inr (inl (t, m, row_contains l layout.accepted layout.kind t r i)))

  linked_cases : (r : ℕ) → IsLinked l h r → (r ≡ 2) ⊎ ((r ≡ 4) ⊎ IsRow r t)
  linked_cases r (inl e) = inl e
  linked_cases r (inr (inl e)) = inr (inl e)
  linked_cases r (inr (inr (inl (u, n, c)))) =
      inr (inr (contains_row l layout.accepted layout.kind t r (subst (λ v. Contains (rows_in_tree v) r) (lawful_one l o.words u t n m) c)))
  linked_cases r (inr (inr (inr g))) = absurd (contains_none r g)

  linked_some : (r : ℕ) → IsLinked l h r → 2 ≤ r
  linked_some r i = elim (linked_cases r i) [ inl e ↦ omega (arith, e) | inr x ↦ elim x [ inl e ↦ omega (arith, e) | inr e ↦ (tree_row r e).0 ] ]

  leaf_from : (r : ℕ) → value_of (slice_index o.words (left r)) ≡ 0 → value_of (slice_index o.words (right r)) ≡ 0 → IsLeafRow h r
  leaf_from r a b = record {
    left_rest = word_is (left r);
    right_rest = word_is (right r);
    no_left = ap value_of (word_is (left r)) ∙ a;
    no_right = ap value_of (word_is (right r)) ∙ b;
  }

  leaf_row : (w lo hi r : ℕ) → IsLeaf (reading l o.words) w lo hi r → IsLeafRow h r
  leaf_row w lo hi r f = leaf_from r (value_zero (slice_index o.words (left r)) f.no_left f.left_plain.0 f.left_plain.1)
      (value_zero (slice_index o.words (right r)) f.no_right f.right_plain.0 f.right_plain.1)

  -- what is known of an edge by the tree below it
  record Child (w : ℕ) : Type 0 where
    linked : IsLinked l h (row_of (slice_index o.words w))
    flagged : flag_of (slice_index o.words w) ≡ true → MayBeFlagged l h (row_of (slice_index o.words w))

  record InnerBy (r : ℕ) : Type 0 where
    left_child : Child (left r)
    right_child : Child (right r)
    left_frozen : frozen_of (slice_index o.words (left r)) ≡ true → flag_of (slice_index o.words (right r)) ≡ true
    right_frozen : frozen_of (slice_index o.words (right r)) ≡ true → flag_of (slice_index o.words (left r)) ≡ true

  child : (w lo hi : ℕ) (s : Tree) → IsTree (reading l o.words) w lo hi s → ((x : ℕ) → IsRow x s → IsRow x t) → Child w
  unfolding key_at
  child w lo hi (Leaf q) g sub = record {
    linked = subst (IsLinked l h) (sym g.named) (tree_linked q (sub q refl));
    flagged = λ f. subst (MayBeFlagged l h) (sym g.named) (record {
      leaf = leaf_row w lo hi q g;
      below = elim g.below [
        | inl e ↦ absurd (g.stays f e)
        | inr b ↦ subst (λ n. n < 4294967293) (sym (ap value_of (word_is (row_word_of l q 0)))) b
      ];
      not_three = g.stays f;
    });
  }
  child w lo hi (Inner q a b) g sub = record {
    linked = subst (IsLinked l h) (sym g.0.named) (tree_linked q (sub q (inl refl)));
    flagged = λ f. absurd (false≢true (sym g.0.unflagged ∙ f));
  }

  kind_in : (w lo hi : ℕ) (s : Tree) → IsTree (reading l o.words) w lo hi s → ((x : ℕ) → IsRow x s → IsRow x t) → (r : ℕ) → IsRow r s →
      IsLeafRow h r ⊎ InnerBy r
  kind_in w lo hi (Leaf q) g sub r i = inl (subst (IsLeafRow h) i (leaf_row w lo hi q g))
  kind_in w lo hi (Inner q a b) g sub r (inl e) = inr (subst InnerBy e (record {
    left_child = child (left q) lo ((reading l o.words).key q) a g.1 (λ x i. sub x (inr (inl i)));
    right_child = child (right q) ((reading l o.words).key q) hi b g.2 (λ x i. sub x (inr (inr i)));
    left_frozen = g.0.left_frozen;
    right_frozen = g.0.right_frozen;
  }))
  kind_in w lo hi (Inner q a b) g sub r (inr (inl i)) = kind_in (left q) lo ((reading l o.words).key q) a g.1 (λ x j. sub x (inr (inl j))) r i
  kind_in w lo hi (Inner q a b) g sub r (inr (inr i)) = kind_in (right q) ((reading l o.words).key q) hi b g.2 (λ x j. sub x (inr (inr j))) r i

  fixed_is : (w n : ℕ) → w < 15 → w ≢ 4 → slice_index fixed_words w ≡ n → value_of (slice_index o.words w) ≡ n
  fixed_is w n a b e = fixed_value l layout.accepted layout.kind o.words t m w a b ∙ e

  -- word 4 and word 5, the edges of row 2
  four_child : Child 4
  four_child = child 4 0 4294967294 t (lawful_to l layout.accepted layout.kind o.words t m).is (λ x i. i)

  five_is : value_of (slice_index o.words 5) ≡ 16
  five_is = fixed_is 5 16 (omega arith) (λ e. omega (arith, e)) refl

  five_row : row_of (slice_index o.words 5) ≡ 4
  unfolding row_of
  five_row = ap (λ v. v / 4) five_is

  five_plain : (flag_of (slice_index o.words 5) ≡ false) × (frozen_of (slice_index o.words 5) ≡ false)
  unfolding flag_of frozen_of
  five_plain = (ap (λ v. v % 2 == 1) five_is, ap (λ v. v / 2 % 2 == 1) five_is)

  five_child : Child 5
  five_child = record {
    linked = subst (IsLinked l h) (sym five_row) (inr (inl refl));
    flagged = λ f. absurd (false≢true (sym five_plain.0 ∙ f));
  }

  four_unfrozen : frozen_of (slice_index o.words 4) ≡ false
  unfolding frozen_of
  four_unfrozen = m.top.1

  two_inner : InnerBy 2
  unfolding left right
  two_inner = record {
    left_child = four_child;
    right_child = five_child;
    left_frozen = λ f. absurd (false≢true (sym four_unfrozen ∙ f));
    right_frozen = λ f. absurd (false≢true (sym five_plain.1 ∙ f));
  }

  four_leaf : IsLeafRow h 4
  unfolding left right
  four_leaf = leaf_from 4 (fixed_is 10 0 (omega arith) (λ e. omega (arith, e)) refl) (fixed_is 11 0 (omega arith) (λ e. omega (arith, e)) refl)

  kind_of : (r : ℕ) → IsLinked l h r → IsLeafRow h r ⊎ InnerBy r
  kind_of r i = elim (linked_cases r i) [
    | inl e ↦ inr (subst InnerBy (sym e) two_inner)
    | inr x ↦ elim x [
      | inl e ↦ inl (subst (IsLeafRow h) (sym e) four_leaf)
      | inr j ↦ kind_in 4 0 4294967294 t (lawful_to l layout.accepted layout.kind o.words t m).is (λ y c. c) r j
    ]
  ]

  leads_by : (w : ℕ) → Child w → LeadsOn l h w
  leads_by w c = record { word = subst (λ x. IsLinked l h (row_of x)) (sym (word_is w)) c.linked; shadow = c.linked }

  inner_by : (r : ℕ) → InnerBy r → IsInnerRow l h r
  inner_by r b = record { left_on = leads_by (left r) b.left_child; right_on = leads_by (right r) b.right_child }

  inner_parts : (r : ℕ) → IsLinked l h r → IsInnerRow l h r → InnerBy r
  inner_parts r i f = elim (kind_of r i) [
    | inl leaf ↦ absurd (omega (arith, linked_some (row_of (at_word h (left r))) f.left_on.word, (nowhere (at_word h (left r)) leaf.no_left).0))
    | inr b ↦ b
  ]

  rows_kept : (r : ℕ) → IsLinked l h r → IsSettledRow l h r
  rows_kept r i = record {
    key = word_is (row_word_of l r 0);
    value = λ e. word_is (value_word_of l r);
    kind = elim (kind_of r i) [ inl f ↦ inl f | inr b ↦ inr (inner_by r b) ];
  }

  bits_by : (w v : ℕ) → Child w → (frozen_of (slice_index o.words w) ≡ true → flag_of (slice_index o.words v) ≡ true) → other w ≡ v → HasRightBits l h w
  bits_by w v c f e = record {
    follows = inl (sym (word_is w));
    flagged = λ x. subst (λ y. MayBeFlagged l h (row_of y)) (sym (word_is w)) (c.flagged (ap flag_of (sym (word_is w)) ∙ x));
    frozen = λ x. ap (λ y. flag_of (slice_index o.words y)) e ∙ f (ap frozen_of (sym (word_is w)) ∙ x);
  }

  bits_kept : (w : ℕ) → IsEdge l h w → HasRightBits l h w
  bits_kept w e =
      let b = inner_parts e.row e.linked e.inner in
      let some : 1 ≤ e.row = omega (arith, linked_some e.row e.linked) in
      elim e.side [
        | inl x ↦ subst (HasRightBits l h) (sym x) (bits_by (left e.row) (right e.row) b.left_child b.left_frozen (other-left e.row some))
        | inr x ↦ subst (HasRightBits l h) (sym x) (bits_by (right e.row) (left e.row) b.right_child b.right_frozen (other-right e.row some))
      ]

  -- ---- views

  seen : (V : List ℕ) → IsView l o.free h V → (w : ℕ) → IsOpen l o.free h w → value_in V w ≡ value_in o.words w
  seen V v w x = elim (v.places w x) [ inl e ↦ ap value_of (e ∙ word_is w) | inr e ↦ ap value_of e ]

  row_agrees : (V : List ℕ) → IsView l o.free h V → (r : ℕ) → IsRow r t → RowAgrees l o.words V r
  row_agrees V v r i = record {
    key = seen V v (row_word_of l r 0) (tree_open r i (row_word_of l r 0) (inl (0, three 0 (omega arith), refl)));
    left = seen V v (left_word l r) (tree_open r i (left_word l r) (inl (1, three 1 (omega arith), refl)));
    right = seen V v (right_word l r) (tree_open r i (right_word l r) (inl (2, three 2 (omega arith), refl)));
  }

  value_agrees : (V : List ℕ) → IsView l o.free h V → (r : ℕ) → IsRow r t → (b : Bool) → l.values ≡ b →
      cond b (value_in V (value_word_of l r)) 0 ≡ cond b (value_in o.words (value_word_of l r)) 0
  value_agrees V v r i true e = seen V v (value_word_of l r) (tree_open r i (value_word_of l r) (inr (e, refl)))
  value_agrees V v r i false e = refl

  rows_agree : (V : List ℕ) → IsView l o.free h V → AllByRecursion (RowAgrees l o.words V) (rows_in_tree t)
  rows_agree V v = all_contained_by (RowAgrees l o.words V) (rows_in_tree t) (λ r c. row_agrees V v r (contains_row l layout.accepted layout.kind t r c))

  pairs_agree : (V : List ℕ) → IsView l o.free h V → AllByRecursion (PairAgrees l o.words V) (rows_in_tree t)
  pairs_agree V v = all_contained_by (PairAgrees l o.words V) (rows_in_tree t) (λ r c.
      let i = contains_row l layout.accepted layout.kind t r c in
      record { same = row_agrees V v r i; value = value_agrees V v r i l.values refl })

  lawful_view : (V : List ℕ) → IsView l o.free h V → IsLawfulTree l V t
  lawful_view V v =
      let four = seen V v 4 four_open in
      record {
        whole = v.whole;
        untagged = v.untagged;
        fixed = λ w f. seen V v w (fixed_open w f) ∙ m.fixed w f;
        top = (ap (λ x. (link_of x).mark) four ∙ m.top.0, ap (λ x. (link_of x).frozen) four ∙ m.top.1);
        tree = tree_same l o.words V 4 0 (above_keys 1) t four (rows_agree V v) m.tree;
        last = m.last;
      }

  none_waits : (w : ℕ) (e : Entry) → waits_at h w ≡ Some e → ⊥
  none_waits w e b = let c : None ≡ Some e = sym (get-empty nat_cmp w) ∙ b in absurd cc

  map_is : (V : List ℕ) (u : Tree) → IsView l o.free h V → IsLawfulTree l V u → tree_map l V u ≡ o.content
  map_is V u v n =
      ap (tree_map l V) (lawful_one l V u t n (lawful_view V v)) ∙ ap fin.from_entries (pairs_same l o.words V 4 t (seen V v 4 four_open) (pairs_agree V v))
      ∙ sym content

  gone_kept : (r : ℕ) → IsLinked l h r → IsInnerRow l h r → r ≢ 2 → (V : List ℕ) (u : Tree) → IsView l o.free h V → HasWords l o.free h V → IsLawfulTree l V u →
      Contains (rows_in_tree u) r ⊎ IsCutOff h r
  gone_kept r i f n V u v has x = elim (linked_cases r i) [
    | inl e ↦ absurd (n e)
    | inr y ↦ elim y [
      | inl e ↦ absurd (omega (
        arith,
        linked_some (row_of (at_word h (left r))) f.left_on.word,
        (nowhere (at_word h (left r)) (subst (IsLeafRow h) (sym e) four_leaf).no_left).0,
      ))
      | inr j ↦ inl (subst (λ s. Contains (rows_in_tree s) r) (lawful_one l V t u (lawful_view V v) x) (row_contains l layout.accepted layout.kind t r j))
    ]
  ]

  pub opened : IsKept l o.free h
  opened = record {
    layout = layout;
    words = length-map o.words bare_of ∙ m.whole;
    shadows = m.whole;
    untagged = m.untagged;
    bare = λ w x. ap is_tagged (word_is w) ∙ m.untagged w x.within;
    gap = λ w x. inl (word_is w);
    pool = λ r c. let p = pool_row r c in record {
      least = rw layout.kind p.0;
      most = omega (arith, p.1, last_row l layout);
      unreached = λ x. p.2 (subst (λ v. Contains (rows_in_tree v) r) (lawful_one l o.words x.0 t x.1 m) x.2);
    };
    given = λ r c. absurd (contains_none r c);
    linked = rows_kept;
    bits = bits_kept;
    images = λ V v. (t, lawful_view V v);
    maps = λ V u v n. record {
      taken = λ w e b. absurd (none_waits w e b);
      others = λ key hyp. ap (λ c. fin.get c key) (map_is V u v n);
    };
    waits = λ w e b. absurd (none_waits w e b);
    apart = λ w v d e b. absurd (none_waits w d b);
    settled = tt;
    gone = gone_kept;
  }

pub opens : (l : Layout) (o : Opening) → IsTreeLayout l → IsOpening l o → IsKept l o.free (first_heap o)
opens l o layout p = by_shape p.recovers.shape refl where
  by_shape : (s : Shape) → p.recovers.shape ≡ s → IsKept l o.free (first_heap o)
  by_shape (Chains c) e = let x = subst (λ s. IsLawfulAs l o.words s) e p.recovers.lawful in absurd (x.0 layout.kind)
  by_shape (Grown t) e =
      let x = subst (λ s. IsLawfulAs l o.words s) e p.recovers.lawful in
      opened l o layout t x.1 (p.recovers.map ∙ ap (map_in l o.words) e)
      (λ r c. subst (λ rows. Contains rows r) (p.recovers.free_rows ∙ ap (free_rows l) e) (p.among r c))

pub fresh_kept : (l : Layout) → IsTreeLayout l → IsKept l (range_with_len (first_row_of l.kind) l.rows) (first_heap (fresh_opening l))
fresh_kept l layout = opens l (fresh_opening l) layout (record {
  free = range_with_len (first_row_of l.kind) l.rows;
  recovers = fresh_recovers l layout.accepted;
  rising = rising-lower (first_row_of l.kind) 0 (range_with_len (first_row_of l.kind) l.rows) (omega arith) (rising-range (first_row_of l.kind) l.rows);
  among = λ r c. c;
})
