-- The walk over a tree image as work that is left: a stack of edges, each with its range, of which the first is walked next.
-- What is found below them, one after the other, makes what is found below word 4.
use Rattle.std.proofs.Common.{◌≡◌, ℕ, Bool, true, false, ◌||◌, List, [], ◌∷◌, ◌++◌, Some, ◌⊎◌, refl, sym, ap, ◌∙◌, subst, inl, inr, append_assoc, append-nil}
use Rattle.std.specs.List.{AllByRecursion}
use Rattle.flit_words.specs.declared.layouts.Layout.{Layout}
use Rattle.flit_words.specs.Layouts.{above_keys}
use Rattle.flit_model.specs.Lists.{link_in, key_in}
use Rattle.flit_model.specs.Trees.{Tree, Leaf, Inner, left_word, right_word, rows_in_tree, tree_pairs}
use Rattle.flit_recover.specs.declared.found.Damage.{Damage}
use Rattle.flit_recover.specs.declared.tree_walk.Pending.{Pending}
use Rattle.flit_recover.specs.ListWalks.{stands_in}
use Rattle.flit_recover.specs.TreeWalks.{IsSoundTree, IsDamagedTree, Reaches, edge_damage, Way, Here, ToLeft, ToRight, reached_at_start, is_leaf}
use Rattle.flit_recover.specs.TreeFinds.{FindsTree, FindsDamage, IsEdgeWord, left_below, right_below}
use Rattle.flit_recover.proofs.TreeLaws.{stands-append}

-- ---- the order in which rows were reached doesn't matter

abbrev pub AreSame : List ℕ → List ℕ → Type 0
AreSame xs ys = (row : ℕ) → stands_in xs row ≡ stands_in ys row

same_front : (zs xs ys : List ℕ) → AreSame xs ys → AreSame (zs ++ xs) (zs ++ ys)
same_front zs xs ys same row = stands-append zs xs row ∙ ap (λ b. stands_in zs row || b) (same row) ∙ sym (stands-append zs ys row)

same_behind : (zs xs ys : List ℕ) → AreSame xs ys → AreSame (xs ++ zs) (ys ++ zs)
same_behind zs xs ys same row = stands-append xs zs row ∙ ap (λ b. b || stands_in zs row) (same row) ∙ sym (stands-append ys zs row)

or_swapped : (a b : Bool) → (a || b) ≡ (b || a)
or_swapped true true = refl
or_swapped true false = refl
or_swapped false true = refl
or_swapped false false = refl

same_swapped : (xs ys : List ℕ) → AreSame (xs ++ ys) (ys ++ xs)
same_swapped xs ys row = stands-append xs ys row ∙ or_swapped (stands_in xs row) (stands_in ys row) ∙ sym (stands-append ys xs row)

module _ (l : Layout) (image : List ℕ) where
  same_reaches : (edge lo hi : ℕ) (xs ys : List ℕ) (row : ℕ) → AreSame xs ys → Reaches l image edge lo hi xs row → Reaches l image edge lo hi ys row
  same_reaches edge lo hi xs ys row same h = record { sound = rw (← same (link_in image edge).row) h.sound; named = h.named }

  same_sound : (edge lo hi : ℕ) (xs ys : List ℕ) (t : Tree) → AreSame xs ys → IsSoundTree l image edge lo hi xs t → IsSoundTree l image edge lo hi ys t
  same_sound edge lo hi xs ys (Leaf r) same h = (same_reaches edge lo hi xs ys r same h.0, h.1)
  same_sound edge lo hi xs ys (Inner r a b) same h =
      let more : AreSame (r ∷ xs) (r ∷ ys) = same_front (r ∷ []) xs ys same in (
        same_reaches edge lo hi xs ys r same h.0,
        h.1,
        same_sound (left_word l r) lo (key_in l image r) (r ∷ xs) (r ∷ ys) a more h.2,
        same_sound (right_word l r) (key_in l image r) hi (rows_in_tree a ++ r ∷ xs) (rows_in_tree a ++ r ∷ ys) b
            (same_front (rows_in_tree a) (r ∷ xs) (r ∷ ys) more) h.3,
      )

  same_damaged : (edge lo hi : ℕ) (xs ys : List ℕ) (way : Way) (d : Damage) → AreSame xs ys → IsDamagedTree l image edge lo hi xs way d →
      IsDamagedTree l image edge lo hi ys way d
  same_damaged edge lo hi xs ys Here d same h = rw (← same (link_in image edge).row) h
  same_damaged edge lo hi xs ys (ToLeft r way) d same h = (
    same_reaches edge lo hi xs ys r same h.0,
    h.1,
    same_damaged (left_word l r) lo (key_in l image r) (r ∷ xs) (r ∷ ys) way d (same_front (r ∷ []) xs ys same) h.2,
  )
  same_damaged edge lo hi xs ys (ToRight r a way) d same h =
      let more : AreSame (r ∷ xs) (r ∷ ys) = same_front (r ∷ []) xs ys same in (
        same_reaches edge lo hi xs ys r same h.0,
        h.1,
        same_sound (left_word l r) lo (key_in l image r) (r ∷ xs) (r ∷ ys) a more h.2,
        same_damaged (right_word l r) (key_in l image r) hi (rows_in_tree a ++ r ∷ xs) (rows_in_tree a ++ r ∷ ys) way d
            (same_front (rows_in_tree a) (r ∷ xs) (r ∷ ys) more) h.3,
      )

  -- ---- below each edge of a stack

  -- the walks below the edges, one after the other, find these trees with nothing wrong
  abbrev pub AreSound : List ℕ → List Pending → List Tree → Type 0
  AreSound reached [] [] = Unit {0}
  AreSound reached [] (t ∷ ts) = ⊥
  AreSound reached (p ∷ ps) [] = ⊥
  AreSound reached (p ∷ ps) (t ∷ ts) = IsSoundTree l image p.edge p.low p.high reached t × AreSound (reached ++ rows_in_tree t) ps ts

  -- or they find this damage first
  abbrev pub AreDamaged : List ℕ → List Pending → Damage → Type 0
  AreDamaged reached [] d = ⊥
  AreDamaged reached (p ∷ ps) d =
      ((way : Way) × IsDamagedTree l image p.edge p.low p.high reached way d)
      ⊎ ((t : Tree) × IsSoundTree l image p.edge p.low p.high reached t × AreDamaged (reached ++ rows_in_tree t) ps d)

  abbrev pub rows_of_all : List Tree → List ℕ
  rows_of_all [] = []
  rows_of_all (t ∷ ts) = rows_in_tree t ++ rows_of_all ts

  abbrev pub pairs_of_all : List Pending → List Tree → List (ℕ × ℕ)
  pairs_of_all [] ts = []
  pairs_of_all (p ∷ ps) [] = []
  pairs_of_all (p ∷ ps) (t ∷ ts) = tree_pairs l image p.edge t ++ pairs_of_all ps ts

  -- the state of the walk: what is found below the edges that are left makes what is found below word 4
  pub record IsUnderway (rows : List ℕ) (pairs : List (ℕ × ℕ)) (stack : List Pending) : Type 0 where
    pub edges : AllByRecursion (λ p. IsEdgeWord l p.edge) stack
    pub finish : (ts : List Tree) → AreSound rows stack ts → FindsTree l image (rows ++ rows_of_all ts) (pairs ++ pairs_of_all stack ts)
    pub damage : (d : Damage) → AreDamaged rows stack d → FindsDamage l image d

  -- ---- one edge is walked

  -- the walk below an inner row is the walk below its left edge and then below its right one
  same_left : (r : ℕ) (reached : List ℕ) → AreSame (reached ++ r ∷ []) (r ∷ reached)
  same_left r reached = same_swapped reached (r ∷ [])

  same_right : (r : ℕ) (reached lefts : List ℕ) → AreSame ((reached ++ r ∷ []) ++ lefts) (lefts ++ r ∷ reached)
  same_right r reached lefts row = same_behind lefts (reached ++ r ∷ []) (r ∷ reached) (same_left r reached) row ∙ same_swapped (r ∷ reached) lefts row

  joined_rows : (r : ℕ) (reached lefts rights : List ℕ) → ((reached ++ r ∷ []) ++ lefts) ++ rights ≡ reached ++ (r ∷ lefts ++ rights)
  joined_rows r reached lefts rights = append_assoc (reached ++ r ∷ []) lefts rights ∙ append_assoc reached (r ∷ []) (lefts ++ rights)

  module _ (p : Pending) (reached : List ℕ) (row : ℕ) (h : Reaches l image p.edge p.low p.high reached row) where
    module _ (inner : is_leaf l image row ≡ false) (ps : List Pending) where
      sound_inner : (a b : Tree) (ts : List Tree) → AreSound (reached ++ row ∷ []) (left_below l image p row ∷ right_below l image p row ∷ ps) (a ∷ b ∷ ts) →
          AreSound reached (p ∷ ps) (Inner row a b ∷ ts)
      sound_inner a b ts w = (
        (
          h,
          inner,
          same_sound (left_word l row) p.low (key_in l image row) (reached ++ row ∷ []) (row ∷ reached) a (same_left row reached) w.0,
          same_sound (right_word l row) (key_in l image row) p.high ((reached ++ row ∷ []) ++ rows_in_tree a) (rows_in_tree a ++ row ∷ reached) b
              (same_right row reached (rows_in_tree a)) w.1.0,
        ),
        subst (λ rows. AreSound rows ps ts) (joined_rows row reached (rows_in_tree a) (rows_in_tree b)) w.1.1,
      )

      damaged_inner : (d : Damage) → AreDamaged (reached ++ row ∷ []) (left_below l image p row ∷ right_below l image p row ∷ ps) d →
          AreDamaged reached (p ∷ ps) d
      damaged_inner d (inl w) = inl (
        ToLeft row w.0,
        (
          h,
          inner,
          same_damaged (left_word l row) p.low (key_in l image row) (reached ++ row ∷ []) (row ∷ reached) w.0 d (same_left row reached) w.1,
        ),
      )
      damaged_inner d (inr (a, left, inl w)) = inl (
        ToRight row a w.0,
        (
          h,
          inner,
          same_sound (left_word l row) p.low (key_in l image row) (reached ++ row ∷ []) (row ∷ reached) a (same_left row reached) left,
          same_damaged (right_word l row) (key_in l image row) p.high ((reached ++ row ∷ []) ++ rows_in_tree a) (rows_in_tree a ++ row ∷ reached) w.0 d
              (same_right row reached (rows_in_tree a)) w.1,
        ),
      )
      damaged_inner d (inr (a, left, inr (b, right, rest))) = inr (
        Inner row a b,
        (
          h,
          inner,
          same_sound (left_word l row) p.low (key_in l image row) (reached ++ row ∷ []) (row ∷ reached) a (same_left row reached) left,
          same_sound (right_word l row) (key_in l image row) p.high ((reached ++ row ∷ []) ++ rows_in_tree a) (rows_in_tree a ++ row ∷ reached) b
              (same_right row reached (rows_in_tree a)) right,
        ),
        subst (λ rows. AreDamaged rows ps d) (joined_rows row reached (rows_in_tree a) (rows_in_tree b)) rest,
      )

    -- the state after a leaf
    pub underway-leaf : (pairs : List (ℕ × ℕ)) (ps : List Pending) → is_leaf l image row ≡ true → IsUnderway reached pairs (p ∷ ps) →
        IsUnderway (reached ++ row ∷ []) (pairs ++ tree_pairs l image p.edge (Leaf row)) ps
    underway-leaf pairs ps leaf u = record {
      edges = u.edges.1;
      finish = λ ts w.
          subst (λ rows. FindsTree l image rows ((pairs ++ tree_pairs l image p.edge (Leaf row)) ++ pairs_of_all ps ts))
          (sym (append_assoc reached (row ∷ []) (rows_of_all ts)))
          (subst (λ found. FindsTree l image (reached ++ (row ∷ rows_of_all ts)) found)
          (sym (append_assoc pairs (tree_pairs l image p.edge (Leaf row)) (pairs_of_all ps ts)))
          (u.finish (Leaf row ∷ ts) ((h, leaf), w)));
      damage = λ d w. u.damage d (inr (Leaf row, (h, leaf), w));
    }

    -- the state after an inner row, whose edges are walked next
    pub underway-inner : (pairs : List (ℕ × ℕ)) (ps : List Pending) → is_leaf l image row ≡ false → IsEdgeWord l (left_word l row) →
        IsEdgeWord l (right_word l row) → IsUnderway reached pairs (p ∷ ps) →
        IsUnderway (reached ++ row ∷ []) pairs (left_below l image p row ∷ right_below l image p row ∷ ps)
    underway-inner pairs ps inner left right u = record {
      edges = (left, (right, u.edges.1));
      finish = λ ts w. after ts w;
      damage = λ d w. u.damage d (damaged_inner inner ps d w);
    }
      where
        after : (ts : List Tree) → AreSound (reached ++ row ∷ []) (left_below l image p row ∷ right_below l image p row ∷ ps) ts →
            FindsTree l image ((reached ++ row ∷ []) ++ rows_of_all ts) (pairs ++ pairs_of_all (left_below l image p row ∷ right_below l image p row ∷ ps) ts)
        after [] w = absurd w
        after (a ∷ []) w = absurd w.1
        after (a ∷ b ∷ ts) w =
            let lefts = rows_in_tree a in
            let rights = rows_in_tree b in
            let found_left = tree_pairs l image (left_word l row) a in
            let found_right = tree_pairs l image (right_word l row) b in
            let rows : reached ++ ((row ∷ rows_in_tree a ++ rows_in_tree b) ++ rows_of_all ts) ≡ (reached ++ row ∷ [])
            ++ (rows_in_tree a ++ (rows_in_tree b ++ rows_of_all ts)) =
            ap (λ rest. reached ++ (row ∷ rest)) (append_assoc lefts rights (rows_of_all ts))
            ∙ sym (append_assoc reached (row ∷ []) (lefts ++ (rights ++ rows_of_all ts)))
            in
            let found : pairs ++ ((tree_pairs l image (left_word l row) a ++ tree_pairs l image (right_word l row) b) ++ pairs_of_all ps ts) ≡ pairs
            ++ (tree_pairs l image (left_word l row) a ++ (tree_pairs l image (right_word l row) b ++ pairs_of_all ps ts)) =
            ap (λ rest. pairs ++ rest) (append_assoc found_left found_right (pairs_of_all ps ts))
            in
            subst (λ rs. FindsTree l image rs (pairs ++ (tree_pairs l image (left_word l row) a
            ++ (tree_pairs l image (right_word l row) b ++ pairs_of_all ps ts)))) rows
            (subst (λ fs. FindsTree l image (reached ++ ((row ∷ rows_in_tree a ++ rows_in_tree b) ++ rows_of_all ts)) fs) found
            (u.finish (Inner row a b ∷ ts) (sound_inner inner ps a b ts w)))

  -- an edge with damage is the first damage
  pub underway_damaged : (p : Pending) (ps : List Pending) (reached : List ℕ) (pairs : List (ℕ × ℕ)) (d : Damage) →
      edge_damage l image p.edge p.low p.high reached ≡ Some d → IsUnderway reached pairs (p ∷ ps) → FindsDamage l image d
  underway_damaged p ps reached pairs d e u = u.damage d (inl (Here, e))

  -- the walk begins at word 4, and ends where no edge is left
  pub underway_first : IsEdgeWord l 4 → IsUnderway reached_at_start [] (record { edge = 4; low = 0; high = above_keys 1 } ∷ [])
  underway_first top = record {
    edges = (top, tt);
    finish = λ ts w. first ts w;
    damage = λ d w. elim w [ inl found ↦ found | inr (t, s, none) ↦ absurd none ];
  }
    where
      first : (ts : List Tree) → AreSound reached_at_start (record { edge = 4; low = 0; high = above_keys 1 } ∷ []) ts →
          FindsTree l image (reached_at_start ++ rows_of_all ts) (pairs_of_all (record { edge = 4; low = 0; high = above_keys 1 } ∷ []) ts)
      first [] w = absurd w
      first (t ∷ []) w = record {
        tree = t;
        sound = w.0;
        rows_are = ap (λ rows. reached_at_start ++ rows) (append-nil (rows_in_tree t));
        pairs_are = append-nil (tree_pairs l image 4 t);
      }
      first (t ∷ u ∷ ts) w = absurd w.1

  pub underway_last : (reached : List ℕ) (pairs : List (ℕ × ℕ)) → IsUnderway reached pairs [] → FindsTree l image reached pairs
  underway_last reached pairs u =
      subst (λ rows. FindsTree l image rows pairs) (append-nil reached)
      (subst (λ found. FindsTree l image (reached ++ []) found) (append-nil pairs) (u.finish [] tt))
