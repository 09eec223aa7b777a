-- The tree on the crew: what is kept true of its heap, what others' events leave, and what a call knows, by where it is.
use Rattle.std.specs.Prelude.{◌≡◌, ℕ, ◌≤◌, true, List, [], length}
use Rattle.flit_words.specs.declared.layouts.Layout.{Layout}
use Rattle.flit_model.specs.declared.calls.Call.TheVariants.{Remove, Get}
use Rattle.flit_model.specs.declared.calls.Reply.{Reply}
use Rattle.flit_place.specs.Tags.{Place}
use Rattle.flit_structure.specs.Meanings.{IsServed, key_of}
use Rattle.flit_structure.specs.Lawful.{is_insert}
use Rattle.flit_crew.specs.Machines.{Part, ToRead, HasRead, ToWin, HasWon, HasWritten, HasLost, Other, exchange_part}
use Rattle.flit_crew.specs.Crews.{Crew, Who}
use Rattle.flit_tree_heap.specs.Views.{TreeHeap}
use Rattle.flit_tree_heap.specs.Kept.{IsKept}
use Rattle.flit_tree_heap.specs.Later.{IsLater}
use Rattle.flit_tree_steps.specs.declared.operations.Path.{Path}
use Rattle.flit_tree_steps.specs.declared.operations.CleanUp.{CleanUp}
use Rattle.flit_tree_steps.specs.declared.operations.CleanUp.TheVariants.{Own, Help}
use Rattle.flit_tree_steps.specs.Operations.{At, Root, Key, Edge, Rows, LeafWords, LeafValue, InnerWords, Link, Flag, Sibling, Freeze, Swing, Value, Ends, Rests, HeldOp}
use Rattle.flit_tree_laws.specs.Knowing.{IfTried, IsAlone, KnowsRoot, KnowsKey, KnowsEdge, KnowsRows, KnowsLeaf, KnowsLeafValue, KnowsInner, LinksTo, FlagsTo, Flagged, KnowsSibling, FreezesTo, Frozen, SwingsTo, KnowsValue, Says}
use Rattle.flit_tree_laws.specs.TreeAnatomy.{tree_anatomy}

-- the rows of its own of whose words it knows what they hold
abbrev pub rows_if : Part → List ℕ → List ℕ
rows_if (ToRead word) rows = []
rows_if (HasRead word raw) rows = []
rows_if ToWin rows = rows
rows_if HasWon rows = []
rows_if HasWritten rows = []
rows_if (HasLost found) rows = []
rows_if Other rows = []

module _ (l : Layout) (free : List ℕ) (h : TreeHeap) (me : Who) where
  -- an exchange that is lost leaves nothing private
  abbrev pub IsAloneIf : Part → Type 0
  IsAloneIf (ToRead word) = Unit {0}
  IsAloneIf (HasRead word raw) = Unit {0}
  IsAloneIf ToWin = Unit {0}
  IsAloneIf HasWon = Unit {0}
  IsAloneIf HasWritten = Unit {0}
  IsAloneIf (HasLost found) = IsAlone l free h me
  IsAloneIf Other = Unit {0}

  abbrev pub IsRemove : Type 0
  IsRemove = me.call ≡ Remove (key_of me.call)

  -- a clean-up of the own kind is that of a remove
  abbrev pub IsFor : CleanUp → Type 0
  IsFor Own = IsRemove
  IsFor Help = Unit {0}

  abbrev pub KnowsAt : Reply → Path → At → Type 0
  KnowsAt reply path (Root m) = KnowsRoot l free h me m
  KnowsAt reply path (Key m) = KnowsKey l free h me path m
  KnowsAt reply path (Edge m) = KnowsEdge l free h me path m
  KnowsAt reply path (Rows m) = KnowsRows l free h me path
  KnowsAt reply path (LeafWords m) = KnowsLeaf l free h me path m
  KnowsAt reply path (LeafValue m) = KnowsLeafValue l free h me path m
  KnowsAt reply path (InnerWords m) = KnowsInner l free h me path m
  KnowsAt reply path (Link m) = (is_insert me.call ≡ true) × IsAloneIf (exchange_part m.at) × IfTried (LinksTo l free h me path m) (Unit {0})
      (exchange_part m.at)
  KnowsAt reply path (Flag m) =
      IsRemove × IsAlone l free h me × IfTried (FlagsTo l free h me path m) (Flagged l free h me path m) (exchange_part m.at)
  KnowsAt reply path (Sibling c m) = IsFor c × KnowsSibling l free h me path m
  KnowsAt reply path (Freeze c m) =
      IsFor c × IsAlone l free h me × IfTried (FreezesTo l free h me path m) (Frozen l free h me path m) (exchange_part m.at)
  KnowsAt reply path (Swing c m) = IsFor c × IsAlone l free h me × IfTried (SwingsTo l free h me path m) (Unit {0}) (exchange_part m.at)
  KnowsAt reply path (Value m) = (me.call ≡ Get (key_of me.call)) × KnowsValue l free h me path m
  KnowsAt reply path (Ends m) = Says l free h me reply
  KnowsAt reply path (Rests hand) = ⊥

  -- its call is one of the layout's, and its first event wasn't before some update that isn't settled yet
  pub record Knows (op : HeldOp) : Type 0 where
    pub first : me.first ≤ length h.progress.settled
    pub served : IsServed l me.call
    pub at : KnowsAt op.reply op.path op.at

-- ---- the structure

abbrev pub tree_crew : Layout → Place → List ℕ → Crew (Unit {0}) HeldOp
tree_crew l p free = record {
  anatomy = tree_anatomy l p free;
  kept = λ h. IsKept l free h;
  later = λ who h k. IsLater l free who h k;
  knows = λ h me op. Knows l free h me op;
}
