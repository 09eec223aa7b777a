-- The tree that is searched, over hashed slots: how many keys it has room for, and what recovery finds in its fresh words.
use Rattle.std.specs.Prelude.{◌≡◌, ℕ, ◌*◌, false}
use Rattle.flit_words.specs.declared.limits.TheConstants.{GREATEST_VERSION}
use Rattle.flit_words.specs.declared.layouts.Layout.{Layout}
use Rattle.flit_words.specs.declared.layouts.Kind.TheVariants.{Tree as Tree_kind}
use Rattle.flit_model.specs.States.{fresh_words}
use Rattle.flit_model.specs.declared.found.Recovered.{Recovered}
use Rattle.flit_structure.specs.Meanings.{Meaning}
use Rattle.flit_tree_steps.specs.Operations.{HeldOp}
use Rattle.flit_tree_structure.specs.TreeStructure.{trees}
use Rattle.flit_tree.specs.declared.trees.Tree.{Tree}
use Rattle.flit_hashed.specs.declared.Hashed.{Hashed}
use Rattle.flit_sched.specs.Openings.{opening_at}
use Rattle.flit_speed.specs.Benches.{hashed}

-- a tree for so many keys without values, for one worker: each key has a leaf and an inner row
abbrev pub deep_tree : ℕ → Layout
deep_tree keys = record { kind = Tree_kind; buckets = 0; rows = 2 * keys; slots = 8; workers = 1; limit = GREATEST_VERSION; values = false }

abbrev pub searched_tree : Tree Hashed → Meaning HeldOp
searched_tree s = trees s.layout (hashed s.place.slots) s.pool

-- the tree may be opened at what recovery found in its fresh words
pub record IsTreeStart (keys : ℕ) (s : Tree Hashed) (start : Recovered) : Type 0 where
  pub layout : s.layout ≡ deep_tree keys
  pub words : start.image.words.items ≡ fresh_words (deep_tree keys)
  pub opens : (searched_tree s).opens (opening_at start)
