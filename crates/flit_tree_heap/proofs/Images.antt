-- The model's lawful trees and their maps, said of what an image says of edges and rows.
use Rattle.std.proofs.Common.{◌≡◌, ◌≢◌, ℕ, ◌/◌, ◌%◌, ◌<◌, ◌≤◌, ◌==◌, ◌&&◌, if◌then◌else◌, Bool, true, false, not, List, [], ◌∷◌, ◌++◌, length, slice_index, Contains, Some, None, nat_cmp, refl, sym, ap, subst, ◌∙◌, arith, inl, inr, eq-eqb, ne_eqb}
use Rattle.std.specs.Cmp.{unsigned_tied}
use Rattle.std.specs.FinMap.{find, get}
use Rattle.std.proofs.lemmas.Bool.{cases_eq, cases_lt, lt-ltb, le-ltb}
use Rattle.std.proofs.lemmas.List.Elements.{Contains-append_left, Contains-append_right, Contains-append_cases}
use Rattle.flit_words.specs.declared.layouts.Layout.{Layout}
use Rattle.flit_words.specs.declared.layouts.Kind.TheVariants.{Tree as Tree_kind}
use Rattle.flit_words.specs.Layouts.{Accepted, words_of, last_row_of, initial_of, above_keys}
use Rattle.flit_words.specs.Words.{is_tagged, value_of}
use Rattle.flit_model.specs.Lists.{value_in, link_in, key_in, row_value_in}
use Rattle.flit_model.specs.Trees as model
use Rattle.flit_model.specs.Trees.{Tree, Leaf, Inner, IsLawfulTree, IsEdgeTo, IsFixed, left_word, right_word, rows_in_tree, is_in_map, tree_pairs, tree_map}
use Rattle.flit_model.proofs.Membership.{contains_first, contains_later, contains_none, contains_cases, contains-list_any, list_any-contains}
use Rattle.flit_model.proofs.FixedRows.{tree_last_row, tree_row_word, fixed_value, fixed_key}
use Rattle.flit_model.proofs.LookUps.{find-tree_left, find-tree_right, tree_map-get, find-append_front}
use Rattle.flit_tree_heap.specs.Edges.{left, right, row_of, flag_of, frozen_of}
use Rattle.flit_tree_heap.specs.Routes.{reading, key_at, value_at, rows_at}
use Rattle.flit_tree_heap.proofs.Growths.{IsTree, IsRow, said, found, IsLawful}
use Rattle.flit_tree_heap.proofs.Moving.{last-left, last-right}
use Rattle.flit_tree_heap.proofs.Steps.{top-plain}
use Rattle.flit_tree_heap.proofs.Once.{lawful-from, lawful-three}

-- ---- numbers

row_small : (v : ℕ) → v / 16777216 ≡ 0 → v / 4 % 4194304 ≡ v / 4
row_small v e = omega (arith, e)

none_by : (v : ℕ) → v / 4 ≤ 4194303 → v / 16777216 ≡ 0
none_by v h = omega (arith, h)

bit_zero : (v : ℕ) → (v == 1) ≡ false → v ≢ 1
bit_zero v e one = let t = eq-eqb v 1 one in absurd cc

all_zero : (v : ℕ) → v / 4 ≡ 0 → (v % 2 == 1) ≡ false → (v / 2 % 2 == 1) ≡ false → v ≡ 0
all_zero v row flag frozen = omega (arith, row, bit_zero (v % 2) flag, bit_zero (v / 2 % 2) frozen)

-- a word of value 0 leads nowhere and has no bit
pub nowhere : (word : ℕ) → value_of word ≡ 0 → (row_of word ≡ 0) × (flag_of word ≡ false) × (frozen_of word ≡ false)
unfolding row_of flag_of frozen_of
nowhere word e = rw e (refl, refl, refl)

pub value_zero : (word : ℕ) → row_of word ≡ 0 → flag_of word ≡ false → frozen_of word ≡ false → value_of word ≡ 0
unfolding row_of flag_of frozen_of
value_zero word row flag frozen = all_zero (value_of word) row flag frozen

module _ (l : Layout) (accepted : Accepted l) (kind : l.kind ≡ Tree_kind) where
  pub left_at : (row : ℕ) → 1 ≤ row → left_word l row ≡ left row
  unfolding left
  left_at row some = omega (arith, tree_row_word l accepted kind row 1)

  pub right_at : (row : ℕ) → 1 ≤ row → right_word l row ≡ right row
  unfolding right
  right_at row some = omega (arith, tree_row_word l accepted kind row 2)

  pub rows_small : last_row_of l ≤ 4194303
  rows_small = omega (arith, tree_last_row l accepted kind, accepted.most_row)

  -- ---- edges

  pub edge_row : (image : List ℕ) (edge row : ℕ) → IsEdgeTo l image edge row → row_of (slice_index image edge) ≡ row
  unfolding row_of
  edge_row image edge row h = elim h.remover.named [
    | inl none ↦ sym (row_small (value_in image edge) none) ∙ h.named
    | inr some ↦ absurd (some.1 kind)
  ]

  pub edge_from : (image : List ℕ) (edge row : ℕ) → row_of (slice_index image edge) ≡ row → 1 ≤ row → row ≤ last_row_of l → IsEdgeTo l image edge row
  unfolding row_of
  edge_from image edge row named least most =
      let by : value_in image edge / 16777216 ≡ 0 = none_by (value_in image edge) (omega (arith, named, most, rows_small)) in
      record {
        named = row_small (value_in image edge) by ∙ named;
        least = least;
        most = most;
        remover = record { most = omega (arith, by); named = inl by };
      }

  -- ---- trees

  pub tree_to : (image : List ℕ) (w lo hi : ℕ) (t : Tree) → model.IsTree l image w lo hi t → IsTree (reading l image) w lo hi t
  unfolding key_at rows_at flag_of frozen_of
  tree_to image w lo hi (Leaf r) h =
      let a = nowhere (slice_index image (left r)) (subst (λ v. value_in image v ≡ 0) (left_at r h.reached.least) h.no_left) in
      let b = nowhere (slice_index image (right r)) (subst (λ v. value_in image v ≡ 0) (right_at r h.reached.least) h.no_right) in
      record {
        named = edge_row image w r h.reached;
        row = h.reached.least;
        inside = h.reached.most;
        low = h.low;
        high = h.high;
        no_left = a.0;
        no_right = b.0;
        left_plain = (a.1, a.2);
        right_plain = (b.1, b.2);
        below = h.below;
        stays = h.stays;
      }
  tree_to image w lo hi (Inner r a b) h =
      let el = left_at r h.0.reached.least in
      let er = right_at r h.0.reached.least in (
        record {
          named = edge_row image w r h.0.reached;
          row = h.0.reached.least;
          inside = h.0.reached.most;
          low = h.0.low;
          high = h.0.high;
          unflagged = h.0.unflagged;
          left_frozen = subst (λ v. (link_in image (left r)).frozen ≡ true → (link_in image v).mark ≡ true) er
              (subst (λ v. (link_in image v).frozen ≡ true → (link_in image (right_word l r)).mark ≡ true) el h.0.left_frozen);
          right_frozen = subst (λ v. (link_in image v).frozen ≡ true → (link_in image (left r)).mark ≡ true) er
              (subst (λ v. (link_in image (right_word l r)).frozen ≡ true → (link_in image v).mark ≡ true) el h.0.right_frozen);
        },
        tree_to image (left r) lo (key_in l image r) a (subst (λ v. model.IsTree l image v lo (key_in l image r) a) el h.1),
        tree_to image (right r) (key_in l image r) hi b (subst (λ v. model.IsTree l image v (key_in l image r) hi b) er h.2),
      )

  pub tree_from : (image : List ℕ) (w lo hi : ℕ) (t : Tree) → IsTree (reading l image) w lo hi t → model.IsTree l image w lo hi t
  unfolding key_at rows_at flag_of frozen_of
  tree_from image w lo hi (Leaf r) h = record {
    reached = edge_from image w r h.named h.row h.inside;
    no_left = subst (λ v. value_in image v ≡ 0) (sym (left_at r h.row)) (value_zero (slice_index image (left r)) h.no_left h.left_plain.0 h.left_plain.1);
    no_right = subst (λ v. value_in image v ≡ 0) (sym (right_at r h.row)) (value_zero (slice_index image (right r)) h.no_right h.right_plain.0 h.right_plain.1);
    low = h.low;
    high = h.high;
    below = h.below;
    stays = h.stays;
  }
  tree_from image w lo hi (Inner r a b) h =
      let el = sym (left_at r h.0.row) in
      let er = sym (right_at r h.0.row) in (
        record {
          reached = edge_from image w r h.0.named h.0.row h.0.inside;
          low = h.0.low;
          high = h.0.high;
          unflagged = h.0.unflagged;
          left_frozen = subst (λ v. (link_in image (left_word l r)).frozen ≡ true → (link_in image v).mark ≡ true) er
              (subst (λ v. (link_in image v).frozen ≡ true → (link_in image (right r)).mark ≡ true) el h.0.left_frozen);
          right_frozen = subst (λ v. (link_in image v).frozen ≡ true → (link_in image (left_word l r)).mark ≡ true) er
              (subst (λ v. (link_in image (right r)).frozen ≡ true → (link_in image v).mark ≡ true) el h.0.right_frozen);
        },
        subst (λ v. model.IsTree l image v lo (key_in l image r) a) el (tree_from image (left r) lo (key_in l image r) a h.1),
        subst (λ v. model.IsTree l image v (key_in l image r) hi b) er (tree_from image (right r) (key_in l image r) hi b h.2),
      )

  -- ---- rows

  pub row_contains : (t : Tree) (r : ℕ) → IsRow r t → Contains (rows_in_tree t) r
  row_contains (Leaf q) r e = rw (← e) (contains_first q [])
  row_contains (Inner q a b) r (inl e) = rw (← e) (contains_first q (rows_in_tree a ++ rows_in_tree b))
  row_contains (Inner q a b) r (inr (inl i)) =
      contains_later q (rows_in_tree a ++ rows_in_tree b) r (Contains-append_left (rows_in_tree a) (rows_in_tree b) r (row_contains a r i))
  row_contains (Inner q a b) r (inr (inr i)) =
      contains_later q (rows_in_tree a ++ rows_in_tree b) r (Contains-append_right (rows_in_tree a) (rows_in_tree b) r (row_contains b r i))

  pub contains_row : (t : Tree) (r : ℕ) → Contains (rows_in_tree t) r → IsRow r t
  contains_row (Leaf q) r c = elim (contains_cases q [] r c) [ inl e ↦ e | inr none ↦ absurd (contains_none r none) ]
  contains_row (Inner q a b) r c = elim (contains_cases q (rows_in_tree a ++ rows_in_tree b) r c) [
    | inl e ↦ inl e
    | inr i ↦ elim (Contains-append_cases (rows_in_tree a) (rows_in_tree b) r i) [
      | inl x ↦ inr (inl (contains_row a r x))
      | inr x ↦ inr (inr (contains_row b r x))
    ]
  ]

  -- ---- lawful images

  pub lawful_to : (image : List ℕ) (t : Tree) → IsLawfulTree l image t → IsLawful (reading l image) t
  unfolding key_at flag_of frozen_of left
  lawful_to image t h = lawful-from (reading l image) t (tree_to image 4 0 (above_keys 1) t h.tree) (fixed_key l accepted kind image t h 2 (omega arith))
      h.top.1 (fixed_key l accepted kind image t h 3 (omega arith))
      (nowhere (slice_index image 7) (fixed_value l accepted kind image t h 7 (omega arith) (λ e. omega (arith, e)))).0
      (contains_row t 3 (list_any-contains 3 (rows_in_tree t) h.last))

  pub lawful_back : (image : List ℕ) (t : Tree) → length image ≡ words_of l → ((w : ℕ) → w < words_of l → is_tagged (slice_index image w) ≡ false) →
      ((w : ℕ) → IsFixed l w → value_in image w ≡ initial_of l.kind w) → IsLawful (reading l image) t → IsLawfulTree l image t
  unfolding flag_of frozen_of
  lawful_back image t whole untagged fixed h = record {
    whole = whole;
    untagged = untagged;
    fixed = fixed;
    top = (top-plain (reading l image) t h, h.top);
    tree = tree_from image 4 0 (above_keys 1) t h.is;
    last = contains-list_any 3 (rows_in_tree t) (row_contains t 3 (lawful-three (reading l image) t h));
  }

  -- ---- maps

  find_one : (key other value : ℕ) (b : Bool) → find nat_cmp key (if b then (other, value) ∷ [] else []) ≡ (if b && (other == key) then Some value else None)
  find_one key other value false = refl
  find_one key other value true = elim (cases_eq other key) [
    | inl e ↦ rw (unsigned_tied key other, eq-eqb key other (sym e), eq-eqb other key e) refl
    | inr n ↦ rw (unsigned_tied key other, ne_eqb key other (λ e. n (sym e)), ne_eqb other key n) refl
  ]

  pub found_at : (image : List ℕ) (w lo hi : ℕ) (t : Tree) → model.IsTree l image w lo hi t → (key : ℕ) → key < 4294967293 →
      find nat_cmp key (tree_pairs l image w t) ≡ found (reading l image) key w t
  unfolding said key_at value_at flag_of
  found_at image w lo hi (Leaf r) h key below =
      let named = edge_row image w r h.reached in
      find_one key (key_in l image r) (row_value_in l image r) (is_in_map l image w r) ∙ rw named (elim (cases_eq (key_in l image r) key) [
        | inl e ↦ rw (eq-eqb (key_in l image r) key e, lt-ltb (key_in l image r) 4294967293 (omega arith))
            (by_mark (link_in image w).mark (row_value_in l image r))
        | inr n ↦ rw (ne_eqb (key_in l image r) key n) (never (is_in_map l image w r) (row_value_in l image r))
      ])
    where
      by_mark : (b : Bool) (value : ℕ) → (if (not b && true) && true then Some value else None) ≡ (if true && not b then Some value else None)
      by_mark true value = refl
      by_mark false value = refl

      never : (b : Bool) (value : ℕ) → (if b && false then Some value else None) ≡ None
      never true value = refl
      never false value = refl
  found_at image w lo hi (Inner r a b) h key below = elim (cases_lt key (key_in l image r)) [
    | inl c ↦
        find-tree_left l image w lo hi r a b key h c ∙ found_at image (left_word l r) lo (key_in l image r) a h.1 key below
        ∙ ap (λ v. found (reading l image) key v a) (left_at r h.0.reached.least) ∙ sym (last_left c)
    | inr c ↦
        find-tree_right l image w lo hi r a b key h c ∙ found_at image (right_word l r) (key_in l image r) hi b h.2 key below
        ∙ ap (λ v. found (reading l image) key v b) (right_at r h.0.reached.least) ∙ sym (last_right c)
  ]
    where
      last_left : key < key_in l image r → found (reading l image) key w (Inner r a b) ≡ found (reading l image) key (left r) a
      last_left c = ap (said (reading l image) key) (last-left (reading l image) key w r a b c)

      last_right : key_in l image r ≤ key → found (reading l image) key w (Inner r a b) ≡ found (reading l image) key (right r) b
      last_right c = ap (said (reading l image) key) (last-right (reading l image) key w r a b c)

  -- the map of an image has at a key of a call what the key's route finds, and at no other key anything
  pub map_get : (image : List ℕ) (t : Tree) → IsLawfulTree l image t → (key : ℕ) → key < 4294967293 →
      get (tree_map l image t) key ≡ found (reading l image) key 4 t
  map_get image t h key below = tree_map-get l image t key ∙ found_at image 4 0 (above_keys 1) t h.tree key below

  find_above : (image : List ℕ) (w : ℕ) (t : Tree) (key : ℕ) → 4294967293 ≤ key → find nat_cmp key (tree_pairs l image w t) ≡ None
  find_above image w (Leaf r) key above = find_one key (key_in l image r) (row_value_in l image r) (is_in_map l image w r)
      ∙ elim (cases_eq (key_in l image r) key) [
        | inl e ↦ rw (le-ltb (key_in l image r) 4294967293 (omega arith)) (off (link_in image w).mark (key_in l image r == key) (row_value_in l image r))
        | inr n ↦ rw (ne_eqb (key_in l image r) key n) (never (is_in_map l image w r) (row_value_in l image r))
      ]
    where
      off : (b c : Bool) (value : ℕ) → (if (not b && false) && c then Some value else None) ≡ None
      off true c value = refl
      off false c value = refl

      never : (b : Bool) (value : ℕ) → (if b && false then Some value else None) ≡ None
      never true value = refl
      never false value = refl
  find_above image w (Inner r a b) key above =
      find-append_front key (tree_pairs l image (left_word l r) a) (tree_pairs l image (right_word l r) b) (find_above image (right_word l r) b key above)
      ∙ find_above image (left_word l r) a key above

  pub map_above : (image : List ℕ) (t : Tree) (key : ℕ) → 4294967293 ≤ key → get (tree_map l image t) key ≡ None
  map_above image t key above = tree_map-get l image t key ∙ find_above image 4 t key above
