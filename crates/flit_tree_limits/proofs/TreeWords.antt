-- The inner rows that the words reach, and those on a key's route, by the tree that stands in the words.
use Rattle.std.proofs.Common.{◌≡◌, ℕ, zero, suc, ◌+◌, ◌/◌, ◌<◌, ◌≤◌, max, List, [], slice_index, map, refl, sym, ◌∙◌, ap, subst, arith, inl, inr}
use Rattle.std.proofs.lemmas.Bool.{cases_lt, eq-eqb, ne_eqb, lt-ltb, le-ltb}
use Rattle.flit_words.specs.declared.layouts.Layout.{Layout}
use Rattle.flit_words.specs.Layouts.{row_word_of}
use Rattle.flit_words.specs.Words.{bare_of, value_of, is_tagged}
use Rattle.flit_place.proofs.WordTags.{is_tagged-bare}
use Rattle.flit_model.specs.Trees.{Tree, Leaf, Inner, IsLawfulTree}
use Rattle.flit_runs.specs.Workings.{Dependency}
use Rattle.flit_crew.specs.Heaps.{at_word}
use Rattle.flit_crew.proofs.WritingBack.{word_bare}
use Rattle.flit_tree_heap.specs.Edges.{left, right, row_of}
use Rattle.flit_tree_heap.specs.Routes.{Reading, side, reading, key_at}
use Rattle.flit_tree_heap.specs.Views.{TreeHeap, IsView, IsLinked, IsInnerRow, IsLeafRow, IsLed}
use Rattle.flit_tree_heap.specs.Kept.{IsKept}
use Rattle.flit_tree_heap.specs.Exchanges.{side_now}
use Rattle.flit_tree_heap.specs.Walks.{inners, Walks, ended, step, walk}
use Rattle.flit_tree_heap.proofs.Growths.{IsTree}
use Rattle.flit_tree_heap.proofs.Moving.{root-row}
use Rattle.flit_tree_heap.proofs.Images.{nowhere, lawful_to}
use Rattle.flit_tree_heap.proofs.Leading.{left_two, two_inner, led_top}
use Rattle.flit_tree_heap.proofs.Rows.{row_range}
use Rattle.flit_tree_heap.proofs.Walking.{walks-one, walks-walk, led_walks, top_walks}
use Rattle.flit_tree_laws.proofs.Raws.{value_bare}
use Rattle.flit_tree_limits.specs.TreeLimits.{inners_from, most_way, all_inners, way_from}

-- ---- readings that say the same of edges and keys

record IsSame (V U : Reading) : Type 0 where
  row : (w : ℕ) → U.row w ≡ V.row w
  key : (r : ℕ) → U.key r ≡ V.key r

pub inners_same : (V U : Reading) → ((w : ℕ) → U.row w ≡ V.row w) → (most row : ℕ) → inners_from U most row ≡ inners_from V most row
inners_same V U e zero row = refl
inners_same V U e (suc most) row = rw (
  e (left row),
  e (right row),
  inners_same V U e most (V.row (left row)),
  inners_same V U e most (V.row (right row)),
) refl

walk_same : (V U : Reading) → IsSame V U → (key most row : ℕ) → walk U key most row ≡ walk V key most row
walk_same V U e key zero row = refl
walk_same V U e key (suc most) row = rw (e.row (left row), e.key row, e.row (side V key row), walk_same V U e key most (V.row (side V key row))) refl

-- the words with their tags say the same
bare_row : (ws : List ℕ) (w : ℕ) → row_of (slice_index (map bare_of ws) w) ≡ row_of (slice_index ws w)
unfolding row_of
bare_row ws w = ap (λ x. x / 4) (ap value_of (word_bare ws w) ∙ value_bare (slice_index ws w))

bare_key : (l : Layout) (ws : List ℕ) (r : ℕ) → key_at l (map bare_of ws) r ≡ key_at l ws r
unfolding key_at
bare_key l ws r = ap value_of (word_bare ws (row_word_of l r 0)) ∙ value_bare (slice_index ws (row_word_of l r 0))

bare_same : (l : Layout) (ws : List ℕ) → IsSame (reading l ws) (reading l (map bare_of ws))
bare_same l ws = record { row = λ w. bare_row ws w; key = λ r. bare_key l ws r }

-- ---- all inner rows of a tree

-- the longest way
abbrev deep : Tree → ℕ
deep (Leaf r) = 0
deep (Inner r a b) = suc (max (deep a) (deep b))

less_max : (a b : ℕ) → a < b → b ≡ max a b
less_max a b h = omega (arith, h)

most_max : (a b : ℕ) → b ≤ a → a ≡ max a b
most_max a b h = omega (arith, h)

under : (a b c : ℕ) → a < b → b < c → a < c
under a b c h i = omega (arith, h, i)

over : (a b c : ℕ) → a < b → b ≤ c → a ≤ c
over a b c h i = omega (arith, h, i)

same_le : (a : ℕ) → a ≤ a
same_le a = omega arith

-- a key of the tree's range goes it
record GoesDeep (V : Reading) (w lo hi : ℕ) (t : Tree) : Type 0 where
  key : ℕ
  low : lo ≤ key
  high : key < hi
  walks : Walks V key (V.row w) (deep t)

goes_deep : (V : Reading) (w lo hi : ℕ) (t : Tree) → IsTree V w lo hi t → lo < hi → GoesDeep V w lo hi t
goes_deep V w lo hi (Leaf r) h some = record { key = lo; low = same_le lo; high = some; walks = rw h.named (ended r h.no_left) }
goes_deep V w lo hi (Inner r a b) h some = elim (cases_lt (deep a) (deep b)) [
  | inl less ↦
      let g = goes_deep V (right r) (V.key r) hi b h.2 h.0.high in
      let x : Walks V g.key r (suc (deep b)) = step r (deep b) (root-row V (left r) lo (V.key r) a h.1) (rw (le-ltb g.key (V.key r) g.low) g.walks) in
      record {
        key = g.key;
        low = over lo (V.key r) g.key h.0.low g.low;
        high = g.high;
        walks = rw h.0.named (subst (λ d. Walks V g.key r (suc d)) (less_max (deep a) (deep b) less) x);
      }
  | inr most ↦
      let g = goes_deep V (left r) lo (V.key r) a h.1 h.0.low in
      let x : Walks V g.key r (suc (deep a)) = step r (deep a) (root-row V (left r) lo (V.key r) a h.1) (rw (lt-ltb g.key (V.key r) g.high) g.walks) in
      record {
        key = g.key;
        low = g.low;
        high = under g.key (V.key r) hi g.high h.0.high;
        walks = rw h.0.named (subst (λ d. Walks V g.key r (suc d)) (most_max (deep a) (deep b) most) x);
      }
]

within_left : (a b m : ℕ) → suc (max a b) ≤ suc m → a ≤ m
within_left a b m h = omega (arith, h)

within_right : (a b m : ℕ) → suc (max a b) ≤ suc m → b ≤ m
within_right a b m h = omega (arith, h)

not_none : (n : ℕ) → 1 ≤ n → n ≡ 0 → ⊥
not_none n h e = omega (arith, h, e)

one_more : (n : ℕ) → suc n ≡ 1 + n
one_more n = omega arith

-- so many steps suffice to count
counted : (V : Reading) (w lo hi : ℕ) (t : Tree) → IsTree V w lo hi t → (most : ℕ) → deep t ≤ most → inners_from V most (V.row w) ≡ inners t
counted V w lo hi (Leaf r) h zero d = refl
counted V w lo hi (Leaf r) h (suc most) d = rw (h.named, eq-eqb (V.row (left r)) 0 h.no_left) refl
counted V w lo hi (Inner r a b) h zero d = absurd (omega (arith, d))
counted V w lo hi (Inner r a b) h (suc most) d = rw (
  h.0.named,
  ne_eqb (V.row (left r)) 0 (not_none (V.row (left r)) (root-row V (left r) lo (V.key r) a h.1)),
  counted V (left r) lo (V.key r) a h.1 most (within_left (deep a) (deep b) most d),
  counted V (right r) (V.key r) hi b h.2 most (within_right (deep a) (deep b) most d),
) (one_more (inners a + inners b))

-- ---- a kept heap's words

module _ (l : Layout) (free : List ℕ) (h : TreeHeap) (K : IsKept l free h) (ws : List ℕ) (same : h.words ≡ map bare_of ws) where
  abbrev V : Reading
  V = reading l ws

  abbrev U : Reading
  U = reading l h.words

  pub row_same : (w : ℕ) → U.row w ≡ V.row w
  row_same w = ap (λ xs. row_of (slice_index xs w)) same ∙ bare_row ws w

  words_same : IsSame V U
  words_same = record { row = row_same; key = λ r. ap (λ xs. key_at l xs r) same ∙ bare_key l ws r }

  pub words_view : IsView l free h h.words
  words_view = record {
    whole = K.words;
    untagged = λ w b. ap (λ xs. is_tagged (slice_index xs w)) same ∙ ap is_tagged (word_bare ws w) ∙ is_tagged-bare (slice_index ws w);
    places = λ w o. inl refl;
  }

  below_top : (k : ℕ) → k < 4294967294 → U.key 2 ≡ 4294967294 → k < U.key 2
  below_top k b e = omega (arith, b, e)

  module _ (t : Tree) (m : IsLawfulTree l h.words t) where
    is_tree : IsTree U 4 0 4294967294 t
    is_tree = (lawful_to l K.layout.accepted K.layout.kind h.words t m).is

    key_two : U.key 2 ≡ 4294967294
    key_two = (lawful_to l K.layout.accepted K.layout.kind h.words t m).two

    -- a walk from word 4 is one from row 2 but for its first step
    from_two : (k d : ℕ) → k < 4294967294 → Walks U k (U.row 4) d → Walks U k 2 (suc d)
    from_two k d b x = step 2 d (subst (λ w. 1 ≤ U.row w) (sym left_two) (root-row U 4 0 4294967294 t is_tree))
        (rw (lt-ltb k (U.key 2) (below_top k b key_two), left_two) x)

    top_most : (k d : ℕ) → k < 4294967294 → Walks U k (U.row 4) d → d ≤ most_way l
    top_most k d b x =
        let f = led_walks l free h K h.words words_view [] k 2 (inl refl) (two_inner l free h K) (led_top l free h [] k K b) (λ w o n. refl) in
        lower f.0 d (l.rows + 6) (walks-one U k 2 f.0 (suc d) f.1 (from_two k d b x)) f.2
      where
        lower : (n d most : ℕ) → n ≡ suc d → n ≤ most → d ≤ most
        lower n d most e i = omega (arith, e, i)

    pub all_inners_is : all_inners l ws ≡ inners t
    unfolding all_inners
    all_inners_is =
        let g = goes_deep U 4 0 4294967294 t is_tree (omega arith) in
        sym (inners_same V U row_same (most_way l) (V.row 4)) ∙ ap (λ r. inners_from U (most_way l) r) (sym (row_same 4))
        ∙ counted U 4 0 4294967294 t is_tree (most_way l) (top_most g.key (deep t) g.high g.walks)

  -- ---- ways

  way_is : (k row d : ℕ) → Walks U k row d → d ≤ most_way l → way_from l ws k row ≡ d
  unfolding way_from
  way_is k row d x b = sym (walk_same V U words_same k (most_way l) row) ∙ walks-walk U k (most_way l) row d x b

  -- a new seek comes to a leaf over no more inner rows than there are
  pub way_top : (k : ℕ) → k < 4294967294 → way_from l ws k (row_of (slice_index ws 4)) ≤ all_inners l ws
  way_top k b =
      let i = K.images h.words words_view in
      let f = top_walks l free h K h.words words_view i.0 i.1 k in
      let at : way_from l ws k (row_of (slice_index ws 4)) ≡ f.0 =
      ap (λ r. way_from l ws k r) (sym (row_same 4)) ∙ way_is k (U.row 4) f.0 f.1 (top_most i.0 i.1 k f.0 b f.1) in
      both (way_from l ws k (row_of (slice_index ws 4))) f.0 (inners i.0) (all_inners l ws) at f.2 (all_inners_is i.0 i.1)
    where
      both : (a b c d : ℕ) → a ≡ b → b ≤ c → d ≡ c → a ≤ d
      both a b c d e i f = omega (arith, e, i, f)

  -- a leaf has no way below it
  pub way_leaf : (k row : ℕ) → IsLeafRow h row → way_from l ws k row ≡ 0
  way_leaf k row f = way_is k row 0 (ended row (nowhere (at_word h (left row)) f.no_left).0) (omega arith)

  side_is : (k row : ℕ) → side U k row ≡ side_now l h k row
  unfolding key_at
  side_is k row = refl

  -- who is led to an inner row goes one step to the next
  pub way_on : (needs : List Dependency) (k row : ℕ) → IsLinked l h row → IsInnerRow l h row → IsLed l free h needs k row →
      way_from l ws k row ≡ suc (way_from l ws k (row_of (at_word h (side_now l h k row))))
  way_on needs k row linked inner led =
      let f = led_walks l free h K h.words words_view needs k row linked inner led (λ w o n. refl) in
      by_walk f.0 f.1 f.2
    where
      some : 1 ≤ U.row (left row)
      some = at_least (row_of (at_word h (left row))) (row_range l free h K (row_of (at_word h (left row))) inner.left_on.word).0
        where
          at_least : (n : ℕ) → 2 ≤ n → 1 ≤ n
          at_least n i = omega (arith, i)

      by_walk : (d : ℕ) → Walks U k row d → d ≤ l.rows + 6 → way_from l ws k row ≡ suc (way_from l ws k (row_of (at_word h (side_now l h k row))))
      by_walk zero (ended _ z) b = absurd (not_none (U.row (left row)) some z)
      by_walk (suc d) (step _ _ i x) b =
          way_is k row (suc d) (step row d i x) b
          ∙ ap suc (sym (way_is k (row_of (at_word h (side_now l h k row))) d (subst (λ w. Walks U k (U.row w) d) (side_is k row) x) (less d (l.rows + 6) b)))
        where
          less : (a n : ℕ) → suc a ≤ n → a ≤ n
          less a n j = omega (arith, j)

  -- ---- other words, in which the edges of linked rows lead to the same rows

  pub record LeadSo (xs : List ℕ) : Type 0 where
    pub left_so : (r : ℕ) → IsLinked l h r → row_of (slice_index xs (left r)) ≡ row_of (at_word h (left r))
    pub right_so : (r : ℕ) → IsLinked l h r → row_of (slice_index xs (right r)) ≡ row_of (at_word h (right r))

  module _ (xs : List ℕ) (so : LeadSo xs) where
    from_linked : (most row : ℕ) → IsLinked l h row → inners_from (reading l xs) most row ≡ inners_from U most row
    from_linked zero row i = refl
    from_linked (suc most) row i = elim (K.linked row i).kind [
      | inl f ↦ let z : U.row (left row) ≡ 0 = (nowhere (at_word h (left row)) f.no_left).0 in rw (so.left_so row i, z) refl
      | inr f ↦ rw (
        so.left_so row i,
        so.right_so row i,
        from_linked most (row_of (at_word h (left row))) f.left_on.word,
        from_linked most (row_of (at_word h (right row))) f.right_on.word,
      ) refl
    ]

    -- there are as many
    pub inners_kept : all_inners l xs ≡ all_inners l ws
    unfolding all_inners
    inners_kept =
        let four : row_of (slice_index xs 4) ≡ U.row 4 = subst (λ w. row_of (slice_index xs w) ≡ U.row w) left_two (so.left_so 2 (inl refl)) in
        let linked : IsLinked l h (U.row 4) = subst (λ w. IsLinked l h (row_of (at_word h w))) left_two (two_inner l free h K).left_on.word in
        ap (λ r. inners_from (reading l xs) (most_way l) r) four ∙ from_linked (most_way l) (U.row 4) linked
        ∙ ap (λ r. inners_from U (most_way l) r) (row_same 4) ∙ inners_same V U row_same (most_way l) (V.row 4)
