-- A list or a hash table on the crew: what is kept true of its heap, what others' events leave, and what a call knows, by
-- where it is.
use Rattle.std.specs.Prelude.{◌≡◌, ℕ, ◌≤◌, Bool, true, false, List, [], length, Option, Some, None}
use Rattle.flit_words.specs.declared.layouts.Layout.{Layout}
use Rattle.flit_words.specs.declared.layouts.Kind.TheVariants.{Tree as Tree_kind}
use Rattle.flit_words.specs.Layouts.{Accepted}
use Rattle.flit_model.specs.declared.calls.Call.TheVariants.{Remove, Get}
use Rattle.flit_model.specs.declared.calls.Reply.{Reply}
use Rattle.flit_place.specs.Tags.{Place}
use Rattle.flit_pv.specs.Confirms.{HeldConfirm}
use Rattle.flit_structure.specs.Meanings.{IsServed, key_of}
use Rattle.flit_structure.specs.Lawful.{is_insert}
use Rattle.flit_crew.specs.Machines.{Part, ToRead, HasRead, ToWin, HasWon, HasWritten, HasLost, Other, exchange_part}
use Rattle.flit_crew.specs.Crews.{Crew, Who}
use Rattle.flit_list_steps.specs.declared.operations.LinkWord.{LinkWord as PathWord}
use Rattle.flit_list_steps.specs.declared.operations.Path.{Path}
use Rattle.flit_list_steps.specs.declared.operations.Goal.{Goal as Aim}
use Rattle.flit_list_steps.specs.declared.operations.Goal.TheVariants.{Help as To_help, Found as To_found, Absent as To_absent}
use Rattle.flit_list_steps.specs.declared.operations.Which.{Which}
use Rattle.flit_list_steps.specs.declared.operations.Which.TheVariants.{Back as The_back, Pred as The_pred, Next as The_next}
use Rattle.flit_list_steps.specs.Operations.{At, Head, Next, Key, Confirming, Help, Row, Words, RowValue, Link, Mark, Tidy, Value, Ends, Rests, HeldOp}
use Rattle.flit_list_heap.specs.Links.{place_of}
use Rattle.flit_list_heap.specs.Keeping.{ListHeap, Kept, Later}
use Rattle.flit_list_laws.specs.Walks.{Loaded, Walk, Goal, Helps, Finds, Passes}
use Rattle.flit_list_laws.specs.Knowing.{IsAlone, IsBackSure, Stands, KnowsHead, KnowsNext, KnowsKey, HasGoal, HelpAt, LinkAt, MarkAt, TidyAt, KnowsTake, KnowsWords, KnowsValue, KnowsGet, Says}
use Rattle.flit_list_laws.specs.ListAnatomy.{list_anatomy}

-- ---- a call's path, by the names of its link words

-- a word of the path is this link
pub record Is (l : Layout) (x : PathWord) (q : Loaded) : Type 0 where
  pub word : x.word ≡ place_of l q.word
  pub raw : x.raw ≡ q.raw
  pub sure : x.confirmed ≡ q.sure

abbrev pub IsBack : Layout → Option PathWord → Option Loaded → Type 0
IsBack l None None = Unit {0}
IsBack l None (Some q) = ⊥
IsBack l (Some x) None = ⊥
IsBack l (Some x) (Some q) = Is l x q

-- the path has come as far as this walk
pub record Follows (l : Layout) (path : Path) (w : Walk) : Type 0 where
  pub back : IsBack l path.back w.back
  pub link : Is l path.pred w.link

-- and its next word is this link
pub record FollowsTo (l : Layout) (path : Path) (w : Walk) (n : Loaded) : Type 0 where
  pub walk : Follows l path w
  pub next : Is l path.next n

-- what it confirms for
abbrev pub goal_with : Aim → Loaded → Goal
goal_with To_help n = Helps n
goal_with To_found n = Finds n
goal_with To_absent n = Passes

abbrev pub FollowsFor : Layout → Aim → Path → Walk → Loaded → Type 0
FollowsFor l To_help path w n = FollowsTo l path w n
FollowsFor l To_found path w n = FollowsTo l path w n
FollowsFor l To_absent path w n = Follows l path w

-- it confirms this link
pub record IsOf (l : Layout) (m : HeldConfirm) (q : Loaded) : Type 0 where
  pub word : m.word ≡ place_of l q.word
  pub raw : m.raw ≡ q.raw

abbrev pub IsOfBack : Layout → HeldConfirm → Option Loaded → Type 0
IsOfBack l m None = ⊥
IsOfBack l m (Some q) = IsOf l m q

-- the rows of its own of whose words it knows what they hold
abbrev pub rows_if : Part → List ℕ → List ℕ
rows_if (ToRead word) rows = []
rows_if (HasRead word raw) rows = []
rows_if ToWin rows = rows
rows_if HasWon rows = []
rows_if HasWritten rows = []
rows_if (HasLost found) rows = []
rows_if Other rows = []

module _ (l : Layout) (h : ListHeap) (me : Who) where
  -- those that come before are confirmed
  abbrev pub ConfirmsOne : Walk → Loaded → HeldConfirm → Which → Type 0
  ConfirmsOne w n m The_back = IsOfBack l m w.back
  ConfirmsOne w n m The_pred = IsBackSure l me w.back × IsOf l m w.link
  ConfirmsOne w n m The_next = IsBackSure l me w.back × (w.link.sure ≡ true) × IsOf l m n

  pub record KnowsConfirming (path : Path) (w : Walk) (n : Loaded) (goal : Aim) (which : Which) (m : HeldConfirm) : Type 0 where
    pub alone : IsAlone l me
    pub follows : FollowsFor l goal path w n
    pub stands : Stands l h me w
    pub goal_known : HasGoal l h me w (goal_with goal n)
    pub one : ConfirmsOne w n m which

  -- an exchange that is lost leaves nothing private
  abbrev pub IsAloneIf : Part → Type 0
  IsAloneIf (ToRead word) = Unit {0}
  IsAloneIf (HasRead word raw) = Unit {0}
  IsAloneIf ToWin = Unit {0}
  IsAloneIf HasWon = Unit {0}
  IsAloneIf HasWritten = Unit {0}
  IsAloneIf (HasLost found) = IsAlone l me
  IsAloneIf Other = Unit {0}

  abbrev pub IsRemove : Type 0
  IsRemove = me.call ≡ Remove (key_of me.call)

  abbrev pub KnowsAt : Reply → Path → Walk → Loaded → At → Type 0
  KnowsAt reply path w n (Head m) = KnowsHead l h me m
  KnowsAt reply path w n (Next m) = Follows l path w × KnowsNext l h me w m
  KnowsAt reply path w n (Key m) = FollowsTo l path w n × KnowsKey l h me w n m
  KnowsAt reply path w n (Confirming goal which m) = KnowsConfirming path w n goal which m
  KnowsAt reply path w n (Help m) = FollowsTo l path w n × IsAlone l me × HelpAt l h me w n m (exchange_part m.at)
  KnowsAt reply path w n (Row m) = Follows l path w × KnowsTake l h me w
  KnowsAt reply path w n (Words m) = Follows l path w × KnowsWords l h me w m
  KnowsAt reply path w n (RowValue m) = Follows l path w × KnowsValue l h me w m
  KnowsAt reply path w n (Link m) = (is_insert me.call ≡ true) × IsAloneIf (exchange_part m.at) × LinkAt l h me w m (exchange_part m.at)
  KnowsAt reply path w n (Mark m) = FollowsTo l path w n × IsRemove × IsAlone l me × MarkAt l h me w n m (exchange_part m.at)
  KnowsAt reply path w n (Tidy m) = IsRemove × TidyAt l h me w n m (exchange_part m.at)
  KnowsAt reply path w n (Value m) = (me.call ≡ Get (key_of me.call)) × KnowsGet l h me w m
  KnowsAt reply path w n (Ends m) = Says l h me reply w
  KnowsAt reply path w n (Rests hand) = ⊥

  -- its call is one of the layout's, and its first event wasn't before some update that isn't settled yet; the walk and the next link are what its path names
  pub record Knows (op : HeldOp) : Type 0 where
    pub first : me.first ≤ length h.progress.settled
    pub served : IsServed l me.call
    pub walk : Walk
    pub next : Loaded
    pub at : KnowsAt op.reply op.path walk next op.at

-- ---- the structure

abbrev pub list_crew : Layout → Place → List ℕ → Crew (ℕ → Bool) HeldOp
list_crew l p free = record {
  anatomy = list_anatomy l p free;
  kept = λ h. Kept l free h;
  later = λ who h k. Later l who h k;
  knows = λ h me op. Knows l h me op;
}

-- a layout of a list or a hash table
pub record IsOfLists (l : Layout) : Type 0 where
  pub accepted : Accepted l
  pub kind : l.kind ≡ Tree_kind → ⊥
