-- The loop over the stack of edges: its state, what a step makes of it, and that the rows that aren't reached get fewer.
use Rattle.std.proofs.Common.{◌≡◌, ℕ, suc, ◌+◌, ◌<◌, ◌≤◌, ◌==◌, Bool, true, false, not, List, [], ◌∷◌, ◌++◌, length, slice_index, slice_index_or, reverse, count_by, Contains, None, Some, refl, sym, ap, ◌∙◌, subst, inl, inr, arith, eq-eqb}
use Rattle.std.specs.List.{range_with_len}
use Rattle.std.proofs.lemmas.Bool.{cases_Bool, both_ways, not_from_true, not_from_false, or_left, or_right}
use Rattle.std.proofs.lemmas.List.{reverse-append, nil_from_length, get_or_default}
use Rattle.flit_words.specs.declared.layouts.Layout.{Layout}
use Rattle.flit_words.specs.declared.layouts.Kind.TheVariants.{Tree as Tree_kind}
use Rattle.flit_words.specs.Layouts.{Accepted, last_row_of, words_of, initial_of, above_keys}
use Rattle.flit_words.specs.Words.{is_tagged}
use Rattle.flit_model.specs.Lists.{value_in, link_in}
use Rattle.flit_model.specs.Trees.{Tree, IsFixed, left_word, right_word, rows_in_tree}
use Rattle.flit_model.proofs.Counting.{count_by-cons_yes, count_by-cons_no, count_by-le}
use Rattle.flit_model.proofs.Membership.{contains_none, contains_cases, contains-range}
use Rattle.flit_model.proofs.FixedRows.{tree_row_word, tree_last_row, tree_words}
use Rattle.flit_recover.specs.declared.found.Damage.{Damage}
use Rattle.flit_recover.specs.declared.tree_walk.Pending.{Pending}
use Rattle.flit_recover.specs.Marks.{AreMarks}
use Rattle.flit_recover.specs.ListWalks.{stands_in}
use Rattle.flit_recover.specs.TreeWalks.{Reaches, edge_damage, is_leaf, reached_at_start}
use Rattle.flit_recover.specs.TreeFinds.{FindsTree, FindsDamage, IsTreeReached, IsEdgeWord, GoesOn, left_below, right_below}
use Rattle.flit_recover.proofs.TreeEdges.{reaches_parts, other_of_left, other_of_right}
use Rattle.flit_recover.proofs.TreeLaws.{stands-append, sound_lawful}
use Rattle.flit_recover.proofs.TreeWork.{IsUnderway, underway-leaf, underway-inner, underway_damaged, underway_first, underway_last}

-- of two tests that differ at an element the one that passes less counts less
pub count_by-lt : {X : Type 0} (p q : X → Bool) → ((x : X) → p x ≡ true → q x ≡ true) → (xs : List X) (x : X) → Contains xs x → p x ≡ false → q x ≡ true →
    count_by p xs < count_by q xs
count_by-lt p q more [] x c off on = absurd (contains_none x c)
count_by-lt {X} p q more (z ∷ xs) x c off on = elim (contains_cases z xs x c) [
  | inl e ↦
      let here : p z ≡ false = rw e off in
      let there : q z ≡ true = rw e on in
      omega (arith, count_by-cons_no p z xs here, count_by-cons_yes q z xs there, count_by-le p q more xs)
  | inr later ↦
      let rest = count_by-lt p q more xs x later off on in
      elim (cases_Bool (p z)) [
        | inl y ↦ omega (arith, count_by-cons_yes p z xs y, count_by-cons_yes q z xs (more z y), rest)
        | inr n ↦ elim (cases_Bool (q z)) [
          | inl y ↦ omega (arith, count_by-cons_no p z xs n, count_by-cons_yes q z xs y, rest)
          | inr m ↦ omega (arith, count_by-cons_no p z xs n, count_by-cons_no q z xs m, rest)
        ]
      ]
]

-- how many rows up to the last aren't among these
unfoldable pub unreached : ℕ → List ℕ → ℕ
unreached last rows = count_by (λ q. not (stands_in rows q)) (range_with_len 0 (suc last))

pub unreached_falls : (last : ℕ) (rows : List ℕ) (row : ℕ) → row ≤ last → stands_in rows row ≡ false → unreached last (rows ++ row ∷ []) < unreached last rows
unfolding unreached
unreached_falls last rows row most apart = count_by-lt (λ q. not (stands_in (rows ++ row ∷ []) q)) (λ q. not (stands_in rows q))
    (λ q out. fewer q out)
    (range_with_len 0 (suc last)) row (contains-range 0 (suc last) row (omega arith) (omega arith))
    (not_from_true (stands_in (rows ++ row ∷ []) row) (stands-append rows (row ∷ []) row
    ∙ or_right (stands_in rows row) (stands_in (row ∷ []) row) (or_left (row == row) false (eq-eqb row row refl))))
    (not_from_false (stands_in rows row) apart)
  where
    fewer : (q : ℕ) → not (stands_in (rows ++ row ∷ []) q) ≡ true → not (stands_in rows q) ≡ true
    fewer q out = elim (cases_Bool (stands_in rows q)) [
      | inl y ↦ absurd (both_ways (not (stands_in (rows ++ row ∷ []) q)) (not_from_true (stands_in (rows ++ row ∷ []) q) (stands-append rows (row ∷ []) q
          ∙ or_left (stands_in rows q) (stands_in (row ∷ []) q) y)) out)
      | inr n ↦ not_from_false (stands_in rows q) n
    ]

module _ (l : Layout) (accepted : Accepted l) (kind : l.kind ≡ Tree_kind) (image : List ℕ) where
  pub left_is_edge : (row : ℕ) → 1 ≤ row → row ≤ last_row_of l → IsEdgeWord l (left_word l row)
  left_is_edge row least most =
      let left = tree_row_word l accepted kind row 1 in
      let right = tree_row_word l accepted kind row 2 in
      let last = tree_last_row l accepted kind in
      let words = tree_words l accepted kind in
      let below : row ≤ l.rows + 5 = rw (← last) most in
      record {
        least = omega (arith, left);
        most = omega (arith, left, below, accepted.most_row);
        within = omega (arith, left, below, words);
        other_within = rw (other_of_left l kind image accepted row) (omega (arith, right, below, words));
      }

  pub right_is_edge : (row : ℕ) → 1 ≤ row → row ≤ last_row_of l → IsEdgeWord l (right_word l row)
  right_is_edge row least most =
      let left = tree_row_word l accepted kind row 1 in
      let right = tree_row_word l accepted kind row 2 in
      let last = tree_last_row l accepted kind in
      let words = tree_words l accepted kind in
      let below : row ≤ l.rows + 5 = rw (← last) most in
      record {
        least = omega (arith, right);
        most = omega (arith, right, below, accepted.most_row);
        within = omega (arith, right, below, words);
        other_within = rw (other_of_right l kind image accepted row) (omega (arith, left, below, words));
      }

  pub top_is_edge : IsEdgeWord l 4
  top_is_edge =
      let words = tree_words l accepted kind in
      record { least = omega arith; most = omega arith; within = omega (arith, words); other_within = omega (arith, words) }

  -- ---- the loop, whose stack has the edge that is walked next at its end

  -- the last edge of the stack comes first
  last_first : (stack : List Pending) (p : Pending) → reverse (stack ++ p ∷ []) ≡ p ∷ reverse stack
  last_first stack p = reverse-append stack (p ∷ [])

  pub state_at_start : (rows : List ℕ) (pairs : List (ℕ × ℕ)) (stack : List Pending) → rows ≡ reached_at_start → pairs ≡ [] →
      stack ≡ record { edge = 4; low = 0; high = above_keys 1 } ∷ [] → IsUnderway l image rows pairs (reverse stack)
  state_at_start rows pairs stack e f g = rw (e, f, g) (underway_first l image top_is_edge)

  module _ (rows : List ℕ) (pairs : List (ℕ × ℕ)) (before stack : List Pending) (p : Pending) (popped : before ≡ stack ++ p ∷ [])
      (u : IsUnderway l image rows pairs (reverse before)) where
    at_edge : IsUnderway l image rows pairs (p ∷ reverse stack)
    at_edge = subst (IsUnderway l image rows pairs) (ap reverse popped ∙ last_first stack p) u

    pub state_edge : IsEdgeWord l p.edge
    state_edge = at_edge.edges.0

    pub state_damaged : (d : Damage) → edge_damage l image p.edge p.low p.high rows ≡ Some d → FindsDamage l image d
    state_damaged d e = underway_damaged l image p (reverse stack) rows pairs d e at_edge

    module _ (row : ℕ) (sound : edge_damage l image p.edge p.low p.high rows ≡ None) (named : row ≡ (link_in image p.edge).row) where
      reaches : Reaches l image p.edge p.low p.high rows row
      reaches = record { sound = sound; named = sym named }

      pub state_apart : stands_in rows row ≡ false
      state_apart = (reaches_parts l image p.edge p.low p.high rows row reaches).apart

      pub state_next : (more : List (ℕ × ℕ)) (after : List ℕ) (left : List Pending) → 1 ≤ row → row ≤ last_row_of l → after ≡ rows ++ row ∷ [] →
          GoesOn l image p row pairs more stack left → IsUnderway l image after more (reverse left)
      state_next more after left least most pushed goes = elim (cases_Bool (is_leaf l image row)) [
        | inl leaf ↦ rw (pushed, goes.leaf_pair leaf, goes.leaf_edges leaf) (underway-leaf l image p rows row reaches pairs (reverse stack) leaf at_edge)
        | inr inner ↦
            let turned : reverse (stack ++ right_below l image p row ∷ left_below l image p row ∷ [])
            ≡ left_below l image p row ∷ right_below l image p row ∷ reverse stack = reverse-append stack
            (right_below l image p row ∷ left_below l image p row ∷ []) in
            let next = underway-inner l image p rows row reaches pairs (reverse stack) inner (left_is_edge row least most) (right_is_edge row least most)
            at_edge in
            rw (pushed, goes.inner_pair inner, goes.inner_edges inner) (subst (IsUnderway l image (rows ++ row ∷ []) pairs) (sym turned) next)
      ]

  pub state_at_end : (rows : List ℕ) (pairs : List (ℕ × ℕ)) (stack : List Pending) → length stack ≡ 0 → IsUnderway l image rows pairs (reverse stack) →
      FindsTree l image rows pairs
  state_at_end rows pairs stack none u = underway_last l image rows pairs
      (subst (λ ps. IsUnderway l image rows pairs (reverse ps)) (nil_from_length stack none) u)

  -- ---- the whole image

  -- whether row 3 was reached, by the marks
  marked_three : (marks : List Bool) (rows : List ℕ) (t : Tree) → AreMarks (last_row_of l) marks rows → rows ≡ reached_at_start ++ rows_in_tree t →
      (three : Bool) → three ≡ slice_index_or marks 3 three → three ≡ stands_in (rows_in_tree t) 3
  marked_three marks rows t are e three read =
      let last = tree_last_row l accepted kind in
      let within : 3 < length marks = omega (arith, last, are.long) in
      read ∙ get_or_default marks 3 three false within ∙ are.each 3 (omega (arith, last)) ∙ ap (λ rs. stands_in rs 3) e

  module _ (fixed : (w : ℕ) → IsFixed l w → value_in image w ≡ initial_of l.kind w) (marks : List Bool) (rows : List ℕ) (pairs : List (ℕ
      × ℕ)) (are : AreMarks (last_row_of l) marks rows) (found : FindsTree l image rows pairs) where
    pub tree_reached : length image ≡ words_of l → ((w : ℕ) → w < words_of l → is_tagged (slice_index image w) ≡ false) → (three : Bool) →
        three ≡ slice_index_or marks 3 three → three ≡ true → IsTreeReached l image rows pairs
    tree_reached whole untagged three read is = record {
      tree = found.tree;
      lawful = sound_lawful l accepted kind image found.tree whole untagged fixed found.sound
          (sym (marked_three marks rows found.tree are found.rows_are three read) ∙ is);
      rows_are = found.rows_are;
      pairs_are = found.pairs_are;
    }
