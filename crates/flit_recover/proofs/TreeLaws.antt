-- The walk over a tree image finds no damage exactly where the image is lawful, and it finds one tree or one damage.
use Rattle.std.proofs.Common.{◌≡◌, ◌≢◌, ◌⊎◌, ℕ, ◌<◌, ◌≤◌, ◌==◌, true, false, ◌||◌, List, [], ◌∷◌, ◌++◌, length, slice_index, refl, sym, ap, ◌∙◌, subst, inl, inr, arith, ne_eqb}
use Rattle.std.specs.List.{AllByRecursion}
use Rattle.std.proofs.lemmas.Bool.{both_ways, or_from, cases_order}
use Rattle.std.proofs.lemmas.List.Folds.{list_any-append}
use Rattle.flit_words.specs.declared.layouts.Layout.{Layout}
use Rattle.flit_words.specs.declared.layouts.Kind.TheVariants.{Tree as Tree_kind}
use Rattle.flit_words.specs.Layouts.{Accepted, words_of, initial_of, above_keys}
use Rattle.flit_words.specs.Words.{is_tagged}
use Rattle.flit_model.specs.Lists.{value_in, link_in, key_in}
use Rattle.flit_model.specs.Trees.{Tree, Leaf, Inner, IsTree, IsLawfulTree, IsFixed, left_word, right_word, rows_in_tree}
use Rattle.flit_model.proofs.Elements.{all_front, all_behind, all_weaker, all_zip}
use Rattle.flit_model.proofs.TreeShapes.{IsBetween, tree_between, tree_unique, edge_leads as tree_leads}
use Rattle.flit_model.proofs.FixedRows.{fixed_rows_apart}
use Rattle.flit_recover.specs.declared.found.Damage.{Damage}
use Rattle.flit_recover.specs.declared.found.Damage.TheVariants.{BadEdge}
use Rattle.flit_recover.specs.ListWalks.{stands_in}
use Rattle.flit_recover.specs.TreeWalks.{IsSoundTree, IsDamagedTree, IsTreeDamage, IsFixedDamage, Way, Here, ToLeft, ToRight, reached_at_start, is_leaf, other_edge}
use Rattle.flit_recover.proofs.TreeEdges.{IsFineEdge, reaches_parts, reaches_from, frozen_flagged, top_bare, sound_leaf, sound_inner, leaf_sound, inner_sound, leaf_is_leaf, inner_is_inner, other_of_left, other_of_right, left_below_top, right_below_top}

-- a row that none of the rows is
pub none_stands : (row : ℕ) (rows : List ℕ) → AllByRecursion (λ r. r ≢ row) rows → stands_in rows row ≡ false
none_stands row [] h = refl
none_stands row (r ∷ rows) h = or_from (r == row) (stands_in rows row) (ne_eqb r row h.0) (none_stands row rows h.1)

pub stands-append : (xs ys : List ℕ) (row : ℕ) → stands_in (xs ++ ys) row ≡ (stands_in xs row || stands_in ys row)
stands-append xs ys row = list_any-append (λ r. r == row) xs ys

module _ (l : Layout) (accepted : Accepted l) (kind : l.kind ≡ Tree_kind) (image : List ℕ) where
  -- where the edge above a sound tree is frozen the other edge is flagged
  root_frozen : (edge lo hi : ℕ) (reached : List ℕ) (t : Tree) → IsSoundTree l image edge lo hi reached t → (link_in image edge).frozen ≡ true →
      (link_in image (other_edge edge)).mark ≡ true
  root_frozen edge lo hi reached (Leaf r) h f = frozen_flagged l image edge lo hi reached r (reaches_parts l image edge lo hi reached r h.0) f
  root_frozen edge lo hi reached (Inner r a b) h f = frozen_flagged l image edge lo hi reached r (reaches_parts l image edge lo hi reached r h.0) f

  root_bare : (edge lo hi : ℕ) (reached : List ℕ) (t : Tree) → IsSoundTree l image edge lo hi reached t → edge ≡ 4 →
      ((link_in image edge).mark ≡ false) × ((link_in image edge).frozen ≡ false)
  root_bare edge lo hi reached (Leaf r) h e = top_bare l image edge lo hi reached r (reaches_parts l image edge lo hi reached r h.0) e
  root_bare edge lo hi reached (Inner r a b) h e = top_bare l image edge lo hi reached r (reaches_parts l image edge lo hi reached r h.0) e

  -- a tree that the walk finds with nothing wrong is one of the image
  pub sound_tree : (edge lo hi : ℕ) (reached : List ℕ) (t : Tree) → IsSoundTree l image edge lo hi reached t → IsTree l image edge lo hi t
  sound_tree edge lo hi reached (Leaf r) h = sound_leaf l image edge lo hi reached r (reaches_parts l image edge lo hi reached r h.0) h.1
  sound_tree edge lo hi reached (Inner r a b) h = (
    sound_inner l image edge lo hi reached r (reaches_parts l image edge lo hi reached r h.0) h.1
        (λ f. subst (λ w. (link_in image w).mark ≡ true) (other_of_left l kind image accepted r)
        (root_frozen (left_word l r) lo (key_in l image r) (r ∷ reached) a h.2 f))
        (λ f. subst (λ w. (link_in image w).mark ≡ true) (other_of_right l kind image accepted r)
        (root_frozen (right_word l r) (key_in l image r) hi (rows_in_tree a ++ r ∷ reached) b h.3 f)),
    sound_tree (left_word l r) lo (key_in l image r) (r ∷ reached) a h.2,
    sound_tree (right_word l r) (key_in l image r) hi (rows_in_tree a ++ r ∷ reached) b h.3,
  )

  -- and the other way round where none of its rows was reached before
  tree_sound : (edge lo hi : ℕ) (reached : List ℕ) (t : Tree) → IsFineEdge image edge → AllByRecursion (λ q. stands_in reached q ≡ false) (rows_in_tree t) →
      AllByRecursion (λ q. q ≢ 2) (rows_in_tree t) → IsTree l image edge lo hi t → IsSoundTree l image edge lo hi reached t
  tree_sound edge lo hi reached (Leaf r) fine apart other h = (
    reaches_from l image edge lo hi reached r (leaf_sound l kind image edge lo hi reached r fine apart.0 h),
    leaf_is_leaf l kind image edge lo hi r h,
  )
  tree_sound edge lo hi reached (Inner r a b) fine apart other h =
      let lefts = rows_in_tree a in
      let rights = rows_in_tree b in
      let key : ℕ = key_in l image r in
      let leads = tree_leads l image (left_word l r) lo (key_in l image r) a h.1 in
      let leads_right = tree_leads l image (right_word l r) (key_in l image r) hi b h.2 in
      let between_left = tree_between l image (left_word l r) lo (key_in l image r) a h.1 in
      let between_right = tree_between l image (right_word l r) (key_in l image r) hi b h.2 in
      let apart_left : AllByRecursion (λ q. stands_in (r ∷ reached) q ≡ false) (rows_in_tree a) =
      all_zip (λ q. stands_in reached q ≡ false) (IsBetween l image lo (key_in l image r)) (λ q. stands_in (r ∷ reached) q ≡ false)
      (λ q out between. or_from (r == q) (stands_in reached q) (ne_eqb r q (λ e. let below = between.high in omega (arith, ap (key_in l image) e, below))) out)
      lefts (all_front (λ q. stands_in reached q ≡ false) lefts rights apart.1) between_left
      in
      let apart_right : AllByRecursion (λ q. stands_in (rows_in_tree a ++ r ∷ reached) q ≡ false) (rows_in_tree b) =
      all_zip (λ q. stands_in reached q ≡ false) (IsBetween l image (key_in l image r) hi) (λ q. stands_in (rows_in_tree a ++ r ∷ reached) q ≡ false)
      (λ q out between.
      stands-append lefts (r ∷ reached) q
      ∙ or_from (stands_in lefts q) (stands_in (r ∷ reached) q)
      (none_stands q lefts (all_weaker (IsBetween l image lo (key_in l image r)) (λ z. z ≢ q)
      (λ z within e. omega (arith, ap (key_in l image) e, within.high, between.low)) lefts between_left))
      (or_from (r == q) (stands_in reached q) (ne_eqb r q (λ e. omega (
        arith,
        ap (key_in l image) e,
        between.above
            (subst (λ z. 1 ≤ (link_in image (left_word l z)).row) e leads),
      ))) out))
      rights (all_behind (λ q. stands_in reached q ≡ false) lefts rights apart.1) between_right
      in
      let fine_left : IsFineEdge image (left_word l r) = record {
        top = λ e. absurd (left_below_top l kind image accepted r h.0.reached.least other.0 e);
        frozen = λ f. subst (λ w. (link_in image w).mark ≡ true) (sym (other_of_left l kind image accepted r)) (h.0.left_frozen f);
      } in
      let fine_right : IsFineEdge image (right_word l r) = record {
        top = λ e. absurd (right_below_top l kind image accepted r e);
        frozen = λ f. subst (λ w. (link_in image w).mark ≡ true) (sym (other_of_right l kind image accepted r)) (h.0.right_frozen f);
      } in (
        reaches_from l image edge lo hi reached r (inner_sound l kind image edge lo hi reached r fine apart.0 leads leads_right h.0),
        inner_is_inner l kind image r leads,
        tree_sound (left_word l r) lo (key_in l image r) (r ∷ reached) a fine_left apart_left (all_front (λ q. q ≢ 2) lefts rights other.1) h.1,
        tree_sound (right_word l r) (key_in l image r) hi (rows_in_tree a ++ r ∷ reached) b fine_right apart_right
            (all_behind (λ q. q ≢ 2) lefts rights other.1) h.2,
      )

  not_at_start : (q : ℕ) → (q ≡ 3) ⊎ (6 ≤ q) → stands_in reached_at_start q ≡ false
  not_at_start q h =
      let apart : (1 ≢ q) × (2 ≢ q) × (4 ≢ q) × (5 ≢ q) = elim h [
        | inl e ↦ (omega arith, omega arith, omega arith, omega arith)
        | inr
            six ↦ (omega arith, omega arith, omega arith, omega arith)
      ] in
      none_stands q reached_at_start (apart.0, (apart.1, (apart.2, (apart.3, tt))))

  -- the walk finds nothing wrong below word 4 of a lawful image
  pub lawful_sound : (t : Tree) → IsLawfulTree l image t → IsSoundTree l image 4 0 (above_keys 1) reached_at_start t
  lawful_sound t h =
      let rows = fixed_rows_apart l accepted kind image t h in
      let fine : IsFineEdge image 4 = record {
        top = λ e. or_from (link_in image 4).mark (link_in image 4).frozen h.top.0 h.top.1;
        frozen = λ f. absurd (both_ways (link_in image 4).frozen h.top.1 f);
      } in
      tree_sound 4 0 (above_keys 1) reached_at_start t fine
      (all_weaker (λ r. (r ≡ 3) ⊎ (6 ≤ r)) (λ q. stands_in reached_at_start q ≡ false) not_at_start (rows_in_tree t) rows)
      (all_weaker (λ r. (r ≡ 3) ⊎ (6 ≤ r)) (λ q. q ≢ 2) (λ q k. elim k [ inl e ↦ omega arith | inr six ↦ omega arith ]) (rows_in_tree t) rows)
      h.tree

  -- an image whose walk finds nothing wrong and reaches row 3 is lawful
  pub sound_lawful : (t : Tree) → length image ≡ words_of l → ((w : ℕ) → w < words_of l → is_tagged (slice_index image w) ≡ false) →
      ((w : ℕ) → IsFixed l w → value_in image w ≡ initial_of l.kind w) → IsSoundTree l image 4 0 (above_keys 1) reached_at_start t →
      stands_in (rows_in_tree t) 3 ≡ true → IsLawfulTree l image t
  sound_lawful t whole untagged fixed sound last = record {
    whole = whole;
    untagged = untagged;
    fixed = fixed;
    top = root_bare 4 0 (above_keys 1) reached_at_start t sound refl;
    tree = sound_tree 4 0 (above_keys 1) reached_at_start t sound;
    last = last;
  }

  -- ---- one tree or one damage

  pub sound_unique : (edge lo hi : ℕ) (reached : List ℕ) (t u : Tree) → IsSoundTree l image edge lo hi reached t → IsSoundTree l image edge lo hi reached u →
      t ≡ u
  sound_unique edge lo hi reached t u h i = tree_unique l image edge lo hi lo hi t u (sound_tree edge lo hi reached t h) (sound_tree edge lo hi reached u i)

  never_both : (edge lo hi : ℕ) (reached : List ℕ) (t : Tree) (way : Way) (d : Damage) → IsSoundTree l image edge lo hi reached t →
      IsDamagedTree l image edge lo hi reached way d → ⊥
  never_both edge lo hi reached (Leaf r) Here d h i = let sound = h.0.sound in cc
  never_both edge lo hi reached (Leaf r) (ToLeft s way) d h i =
      let e : s ≡ r = sym i.0.named ∙ h.0.named in both_ways (is_leaf l image r) (rw e at i.1) h.1
  never_both edge lo hi reached (Leaf r) (ToRight s c way) d h i =
      let e : s ≡ r = sym i.0.named ∙ h.0.named in both_ways (is_leaf l image r) (rw e at i.1) h.1
  never_both edge lo hi reached (Inner r a b) Here d h i = let sound = h.0.sound in cc
  never_both edge lo hi reached (Inner r a b) (ToLeft s way) d h i =
      let e : s ≡ r = sym i.0.named ∙ h.0.named in
      never_both (left_word l r) lo (key_in l image r) (r ∷ reached) a way d h.2 (rw e at i.2)
  never_both edge lo hi reached (Inner r a b) (ToRight s c way) d h i =
      let e : s ≡ r = sym i.0.named ∙ h.0.named in
      let same : c ≡ a = sound_unique (left_word l r) lo (key_in l image r) (r ∷ reached) c a (rw e at i.2) h.2 in
      never_both (right_word l r) (key_in l image r) hi (rows_in_tree a ++ r ∷ reached) b way d h.3 (rw (e, same) at i.3)

  damage_unique : (edge lo hi : ℕ) (reached : List ℕ) (way other : Way) (d e : Damage) → IsDamagedTree l image edge lo hi reached way d →
      IsDamagedTree l image edge lo hi reached other e → d ≡ e
  damage_unique edge lo hi reached Here Here d e h i = let same = sym h ∙ i in cc
  damage_unique edge lo hi reached Here (ToLeft s way) d e h i = let sound = i.0.sound in cc
  damage_unique edge lo hi reached Here (ToRight s c way) d e h i = let sound = i.0.sound in cc
  damage_unique edge lo hi reached (ToLeft r way) Here d e h i = let sound = h.0.sound in cc
  damage_unique edge lo hi reached (ToRight r a way) Here d e h i = let sound = h.0.sound in cc
  damage_unique edge lo hi reached (ToLeft r way) (ToLeft s other) d e h i =
      let same : s ≡ r = sym i.0.named ∙ h.0.named in
      damage_unique (left_word l r) lo (key_in l image r) (r ∷ reached) way other d e h.2 (rw same at i.2)
  damage_unique edge lo hi reached (ToLeft r way) (ToRight s c other) d e h i =
      let same : s ≡ r = sym i.0.named ∙ h.0.named in
      absurd (never_both (left_word l r) lo (key_in l image r) (r ∷ reached) c way d (rw same at i.2) h.2)
  damage_unique edge lo hi reached (ToRight r a way) (ToLeft s other) d e h i =
      let same : s ≡ r = sym i.0.named ∙ h.0.named in
      absurd (never_both (left_word l r) lo (key_in l image r) (r ∷ reached) a other e h.2 (rw same at i.2))
  damage_unique edge lo hi reached (ToRight r a way) (ToRight s c other) d e h i =
      let same : s ≡ r = sym i.0.named ∙ h.0.named in
      let lefts : c ≡ a = sound_unique (left_word l r) lo (key_in l image r) (r ∷ reached) c a (rw same at i.2) h.2 in
      damage_unique (right_word l r) (key_in l image r) hi (rows_in_tree a ++ r ∷ reached) way other d e h.3 (rw (same, lefts) at i.3)

  fixed_unique : (d e : Damage) → IsFixedDamage l image d → IsFixedDamage l image e → d ≡ e
  fixed_unique d e h i = elim (cases_order h.word i.word) [
    | inl same ↦ h.is ∙ ap BadEdge same ∙ sym i.is
    | inr apart ↦ elim apart [
      | inl before ↦ absurd (h.changed (i.first h.word before h.fixed))
      | inr after ↦ absurd (i.changed (h.first i.word after i.fixed))
    ]
  ]

  fixed_apart : {D : Type 0} (d : Damage) → IsFixedDamage l image d → ((w : ℕ) → IsFixed l w → value_in image w ≡ initial_of l.kind w) → D
  fixed_apart d h fixed = absurd (h.changed (fixed h.word h.fixed))

  -- two damages of an image are the same
  pub tree_damage_unique : (d e : Damage) → IsTreeDamage l image d → IsTreeDamage l image e → d ≡ e
  tree_damage_unique d e (inl h) (inl i) = fixed_unique d e h i
  tree_damage_unique d e (inl h) (inr (inl i)) = fixed_apart d h i.0
  tree_damage_unique d e (inl h) (inr (inr i)) = fixed_apart d h i.0
  tree_damage_unique d e (inr (inl h)) (inl i) = fixed_apart e i h.0
  tree_damage_unique d e (inr (inl h)) (inr (inl i)) = damage_unique 4 0 (above_keys 1) reached_at_start h.1.0 i.1.0 d e h.1.1 i.1.1
  tree_damage_unique d e (inr (inl h)) (inr (inr i)) = absurd (never_both 4 0 (above_keys 1) reached_at_start i.1.0 h.1.0 d i.1.1 h.1.1)
  tree_damage_unique d e (inr (inr h)) (inl i) = fixed_apart e i h.0
  tree_damage_unique d e (inr (inr h)) (inr (inl i)) = absurd (never_both 4 0 (above_keys 1) reached_at_start h.1.0 i.1.0 e h.1.1 i.1.1)
  tree_damage_unique d e (inr (inr h)) (inr (inr i)) = h.2 ∙ sym i.2

  -- a lawful image has no damage
  pub lawful_undamaged : (t : Tree) (d : Damage) → IsLawfulTree l image t → IsTreeDamage l image d → ⊥
  lawful_undamaged t d h (inl i) = fixed_apart d i h.fixed
  lawful_undamaged t d h (inr (inl i)) = never_both 4 0 (above_keys 1) reached_at_start t i.1.0 d (lawful_sound t h) i.1.1
  lawful_undamaged t d h (inr (inr i)) =
      let same = sound_unique 4 0 (above_keys 1) reached_at_start i.1.0 t i.1.1 (lawful_sound t h) in
      both_ways (stands_in (rows_in_tree i.1.0) 3) i.1.2 (rw same h.last)
