-- What one step down an edge of a tree tells.
use Rattle.std.specs.Prelude.{◌≡◌, ℕ, Bool, List}
use Rattle.flit_words.specs.declared.layouts.Layout.{Layout}
use Rattle.flit_model.specs.Lists.{value_in, stands_in}
use Rattle.flit_model.specs.Trees.{Tree, IsTree, IsLeafAt, IsInnerAt, left_word, right_word, rows_in_tree}
use Rattle.flit_plain.specs.declared.trees.Below.{Below}
use Rattle.flit_plain.specs.declared.trees.Below.TheVariants.{Broken, Leaf, Inner}

-- a row whose own links are 0
pub record HasNoLinks (l : Layout) (image : List ℕ) (row : ℕ) : Type 0 where
  pub no_left : value_in image (left_word l row) ≡ 0
  pub no_right : value_in image (right_word l row) ≡ 0

-- an inner row may stand at the edge, and it has a link
pub record IsBranchAt (l : Layout) (image : List ℕ) (edge lo hi row : ℕ) : Type 0 where
  pub inner : IsInnerAt l image edge lo hi row
  pub linked : ¬ (HasNoLinks l image row)

-- no lawful tree is below the edge
abbrev pub HasNoTree : Layout → List ℕ → ℕ → ℕ → ℕ → Type 0
HasNoTree l image edge lo hi = (t : Tree) → ¬ (IsTree l image edge lo hi t)

-- one is, and this tells whether row 3 is in it
pub record HasTree (l : Layout) (image : List ℕ) (edge lo hi : ℕ) (last : Bool) : Type 0 where
  pub tree : Tree
  pub lawful : IsTree l image edge lo hi tree
  pub last_row : stands_in (rows_in_tree tree) 3 ≡ last

-- no tree is below the edge, or a leaf is, or one may be whose first row is this inner row
abbrev pub IsBelow : Layout → List ℕ → ℕ → ℕ → ℕ → Below → Type 0
IsBelow l image edge lo hi Broken = HasNoTree l image edge lo hi
IsBelow l image edge lo hi (Leaf row) = IsLeafAt l image edge lo hi row
IsBelow l image edge lo hi (Inner row) = IsBranchAt l image edge lo hi row
