-- Walks down a tree: what is below an edge, by the row that the edge leads to.
use Rattle.std.proofs.Common.{◌≡◌, ◌≢◌, ℕ, ◌<◌, ◌==◌, Bool, true, false, ◌||◌, List, [], ◌∷◌, ◌++◌, append_assoc, length, slice_index, Option, Some, None, IfNone, IfSome, unwrap_or, ◌↔◌, refl, sym, ap, subst, ◌∙◌, arith}
use Rattle.std.proofs.lemmas.Bool.{false≢true}
use Rattle.std.specs.List.{list_any}
use Rattle.flit_words.specs.declared.layouts.Layout.{Layout}
use Rattle.flit_words.specs.Words.{is_tagged}
use Rattle.flit_words.specs.Layouts.{words_of, initial_of, above_keys}
use Rattle.flit_model.specs.Lists.{value_in, link_in, key_in}
use Rattle.flit_model.specs.Trees.{Tree, Leaf, Inner, IsTree, IsEdgeTo, IsLeafAt, IsInnerAt, IsFixed, IsLawfulTree, left_word, right_word, rows_in_tree, tree_pairs}
use Rattle.flit_model.proofs.TreeShapes.{edge_leads, tree_unique}
use Rattle.flit_plain.specs.declared.reached.Reached.{Reached}
use Rattle.flit_plain.specs.Branches.{HasNoLinks, IsBranchAt, HasNoTree, HasTree}
use Rattle.flit_plain.specs.Reaching.{Adds}

module _ (l : Layout) (image : List ℕ) where
  tree_edge : (edge lo hi : ℕ) (t : Tree) → IsTree l image edge lo hi t → IsEdgeTo l image edge (link_in image edge).row
  tree_edge edge lo hi (Leaf r) h = rw h.reached.named h.reached
  tree_edge edge lo hi (Inner r a b) h = rw h.0.reached.named h.0.reached

  -- an edge that leads to no row has no tree below it
  pub no_tree_at : (edge lo hi row : ℕ) → row ≡ (link_in image edge).row → ¬ (IsEdgeTo l image edge row) → (t : Tree) → ¬ (IsTree l image edge lo hi t)
  no_tree_at edge lo hi row e none t h = none (rw e (tree_edge edge lo hi t h))

  -- a subtree's edge has a value
  edge_valued : (edge lo hi : ℕ) (t : Tree) → IsTree l image edge lo hi t → value_in image edge ≢ 0
  edge_valued edge lo hi t h none = let leads = edge_leads l image edge lo hi t h in absurd (omega (arith, rw none at leads))

  -- below an edge that leads to a row without links stands that leaf, or nothing
  pub no_leaf_at : (edge lo hi row : ℕ) → IsEdgeTo l image edge row → HasNoLinks l image row → ¬ (IsLeafAt l image edge lo hi row) → (t : Tree) →
      ¬ (IsTree l image edge lo hi t)
  no_leaf_at edge lo hi row leads bare none (Leaf r) h =
      let e : r ≡ row = sym h.reached.named ∙ leads.named in
      none (rw e at h)
  no_leaf_at edge lo hi row leads bare none (Inner r a b) h =
      let e : r ≡ row = sym h.0.reached.named ∙ leads.named in
      edge_valued (left_word l row) lo (key_in l image row) a (rw e at h.1) bare.no_left

  leaf_bare : (edge lo hi r row : ℕ) → r ≡ row → IsLeafAt l image edge lo hi r → HasNoLinks l image row
  leaf_bare edge lo hi r row e h = record { no_left = rw e at h.no_left; no_right = rw e at h.no_right }

  -- below an edge that leads to a row with a link stands that inner row, or nothing
  pub no_inner_at : (edge lo hi row : ℕ) → IsEdgeTo l image edge row → ¬ (HasNoLinks l image row) → ¬ (IsInnerAt l image edge lo hi row) → (t : Tree) →
      ¬ (IsTree l image edge lo hi t)
  no_inner_at edge lo hi row leads linked none (Leaf r) h =
      let e : r ≡ row = sym h.reached.named ∙ leads.named in
      linked (leaf_bare edge lo hi r row e h)
  no_inner_at edge lo hi row leads linked none (Inner r a b) h =
      let e : r ≡ row = sym h.0.reached.named ∙ leads.named in
      none (rw e at h.0)

  -- a tree whose first row is an inner one
  pub record HasBranches (edge lo hi row : ℕ) (t : Tree) : Type 0 where
    pub left : Tree
    pub right : Tree
    pub is : t ≡ Inner row left right
    pub left_tree : IsTree l image (left_word l row) lo (key_in l image row) left
    pub right_tree : IsTree l image (right_word l row) (key_in l image row) hi right

  pub branches_at : (edge lo hi row : ℕ) → IsBranchAt l image edge lo hi row → (t : Tree) → IsTree l image edge lo hi t → HasBranches edge lo hi row t
  branches_at edge lo hi row branch (Leaf r) h =
      let e : r ≡ row = sym h.reached.named ∙ branch.inner.reached.named in
      absurd (branch.linked (leaf_bare edge lo hi r row e h))
  branches_at edge lo hi row branch (Inner r a b) h =
      let e : r ≡ row = sym h.0.reached.named ∙ branch.inner.reached.named in
      record { left = a; right = b; is = ap (λ q. Inner q a b) e; left_tree = rw e at h.1; right_tree = rw e at h.2 }

-- an element of joined lists
pub list_any-append : {X : Type 0} (p : X → Bool) (xs ys : List X) → list_any p (xs ++ ys) ≡ (list_any p xs || list_any p ys)
list_any-append p [] ys = refl
list_any-append p (x ∷ xs) ys = elim (p x) as (λ b. (b || list_any p (xs ++ ys))
    ≡ ((b || list_any p xs) || list_any p ys)) [ true ↦ refl | false ↦ list_any-append p xs ys ]

or_regrouped : (a b c : Bool) → (a || (b || c)) ≡ ((a || b) || c)
or_regrouped true b c = refl
or_regrouped false b c = refl

or_none : (b : Bool) → (b || false) ≡ b
or_none true = refl
or_none false = refl

module _ (l : Layout) (image : List ℕ) where
  pub tree_of_leaf : (edge lo hi row : ℕ) → IsLeafAt l image edge lo hi row → HasTree l image edge lo hi (row == 3)
  tree_of_leaf edge lo hi row leaf = record { tree = Leaf row; lawful = leaf; last_row = or_none (row == 3) }

  module _ (edge lo hi row : ℕ) (branch : IsBranchAt l image edge lo hi row) where
    pub tree_of_branches : (in_left in_right : Bool) → HasTree l image (left_word l row) lo (key_in l image row) in_left →
        HasTree l image (right_word l row) (key_in l image row) hi in_right → HasTree l image edge lo hi (((row == 3) || in_left) || in_right)
    tree_of_branches in_left in_right left right = record {
      tree = Inner row left.tree right.tree;
      lawful = (branch.inner, left.lawful, right.lawful);
      last_row = ap (λ b. (row == 3) || b)
          (list_any-append (λ r. r == 3) (rows_in_tree left.tree) (rows_in_tree right.tree)
          ∙ ap (λ b. b || list_any (λ r. r == 3) (rows_in_tree right.tree)) left.last_row
          ∙ ap (λ b. in_left || b) right.last_row)
          ∙ or_regrouped (row == 3) in_left in_right;
    }

    pub no_tree_left : HasNoTree l image (left_word l row) lo (key_in l image row) → HasNoTree l image edge lo hi
    no_tree_left none t h = let parts = branches_at l image edge lo hi row branch t h in none parts.left parts.left_tree

    pub no_tree_right : HasNoTree l image (right_word l row) (key_in l image row) hi → HasNoTree l image edge lo hi
    no_tree_right none t h = let parts = branches_at l image edge lo hi row branch t h in none parts.right parts.right_tree

    -- a walk that adds the inner row, then the tree on its left, and then the one on its right, adds the whole tree
    pub adds_branches : (start at_row at_left at_right : Reached) → at_row.rows.items ≡ start.rows.items ++ row ∷ [] → at_row.pairs.items ≡ start.pairs.items
        → ((t : Tree) → IsTree l image (left_word l row) lo (key_in l image row) t →
        Adds at_row at_left (rows_in_tree t) (tree_pairs l image (left_word l row) t))
        → ((t : Tree) → IsTree l image (right_word l row) (key_in l image row) hi t →
        Adds at_left at_right (rows_in_tree t) (tree_pairs l image (right_word l row) t))
        → (t : Tree) → IsTree l image edge lo hi t → Adds start at_right (rows_in_tree t) (tree_pairs l image edge t)
    adds_branches start at_row at_left at_right row_added no_pair left right t h =
        let parts = branches_at l image edge lo hi row branch t h in
        let a = rows_in_tree parts.left in
        let b = rows_in_tree parts.right in
        let ps = tree_pairs l image (left_word l row) parts.left in
        let qs = tree_pairs l image (right_word l row) parts.right in
        let first = left parts.left parts.left_tree in
        let second = right parts.right parts.right_tree in
        rw parts.is (record {
          rows = second.rows ∙ ap (λ rs. rs ++ b) (first.rows ∙ ap (λ rs. rs ++ a) row_added) ∙ append_assoc (start.rows.items ++ row ∷ []) a b
              ∙ append_assoc start.rows.items (row ∷ []) (a ++ b);
          pairs = second.pairs ∙ ap (λ rs. rs ++ qs) (first.pairs ∙ ap (λ rs. rs ++ ps) no_pair) ∙ append_assoc start.pairs.items ps qs;
        })

  -- a walk that adds the leaf adds the whole tree
  pub adds_leaf : (edge lo hi row : ℕ) (start now : Reached) → IsLeafAt l image edge lo hi row →
      Adds start now (row ∷ []) (tree_pairs l image edge (Leaf row)) → (t : Tree) → IsTree l image edge lo hi t →
      Adds start now (rows_in_tree t) (tree_pairs l image edge t)
  adds_leaf edge lo hi row start now leaf adds t h =
      let same : Leaf row ≡ t = tree_unique l image edge lo hi lo hi (Leaf row) t leaf h in
      subst (λ u. Adds start now (rows_in_tree u) (tree_pairs l image edge u)) same adds

  -- ---- the whole tree

  module _ (whole : length image ≡ words_of l) (untagged : (w : ℕ) → w < length image → is_tagged (slice_index image w) ≡ false) (fixed : (w : ℕ) →
      IsFixed l w → value_in image w ≡ initial_of l.kind w) (unmarked : (link_in image 4).mark ≡ false) (unfrozen : (link_in image 4).frozen ≡ false) where
    lawful_tree : (t : Tree) → IsTree l image 4 0 (above_keys 1) t → list_any (λ r. r == 3) (rows_in_tree t) ≡ true → IsLawfulTree l image t
    lawful_tree t h last = record {
      whole = whole;
      untagged = λ w below. untagged w
          (omega arith);
      fixed = fixed;
      top = (unmarked, unfrozen);
      tree = h;
      last = last;
    }

    pub lawful_tree_if : (o : Option Bool) → IfNone o (HasNoTree l image 4 0 (above_keys 1)) → IfSome o (HasTree l image 4 0 (above_keys 1)) →
        (unwrap_or o false ≡ true) ↔ ((t : Tree) × IsLawfulTree l image t)
    lawful_tree_if None none some = (λ e. absurd (false≢true e), λ w. absurd (none w.0 w.1.tree))
    lawful_tree_if (Some last) none some = (
      (λ e. (some.tree, lawful_tree some.tree some.lawful (some.last_row ∙ e))),
      (λ w. sym some.last_row
          ∙ ap (λ t. list_any (λ r. r == 3) (rows_in_tree t)) (tree_unique l image 4 0 (above_keys 1) 0 (above_keys 1) some.tree w.0 some.lawful w.1.tree)
          ∙ w.1.last),
    )
