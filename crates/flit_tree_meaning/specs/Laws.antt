-- That the code of the tree means what the crew makes of its machines.
use Rattle.std.specs.Prelude.{◌≡◌, ℕ, ◌&&◌, false, List, ◌∷◌, ◌++◌, Option}
use Rattle.flit_words.specs.declared.layouts.Layout.{Layout}
use Rattle.flit_model.specs.declared.calls.Call.{Call}
use Rattle.flit_place.specs.Tags.{Place}
use Rattle.flit_pv.specs.declared.hands.Hand.{Hand}
use Rattle.flit_runs.specs.Workings.{writing_at as working_writes}
use Rattle.flit_structure.specs.declared.workers.Worker.{Worker}
use Rattle.flit_structure.specs.Moments.{Moment, with_workers, busy}
use Rattle.flit_structure.specs.Lawful.{is_insert}
use Rattle.flit_crew.specs.Machines.{machine_asks, machine_takes, machine_exchanges, working_in, hand_in, deed_of, has_linked}
use Rattle.flit_crew.specs.Anatomies.{Anatomy, op_taken as crew_taken}
use Rattle.flit_crew.specs.Crews.{Holds}
use Rattle.flit_tree_steps.specs.Operations.{HeldOp}
use Rattle.flit_tree_steps.specs.Steps.{op_begun, op_asked, op_taken, op_effect, hand_at, writing_at, after_at, FitsLink}
use Rattle.flit_tree_laws.specs.TreeAnatomy.{tree_anatomy}
use Rattle.flit_tree_laws.specs.TreeCrew.{tree_crew}

-- Of each operation, whatever it is at: what its machine asks is what the code asks, and what the crew makes of an answer is
-- what the code makes of it; so are the exchange that is its update, the hand in it, its exchange under way, and the hand in
-- its machine after an answer.
pub record MeansSo (l : Layout) (p : Place) (free : List ℕ) (A : Anatomy HeldOp) : Type 0 where
  pub begins : (hand : Hand) (call : Call) → A.begun hand call ≡ op_begun hand call
  pub asks : (op : HeldOp) → machine_asks p (A.machine op) ≡ op_asked p op
  pub takes : (op : HeldOp) (told : ℕ) → crew_taken A p free op told ≡ op_taken l p free op told
  pub exchanges : (op : HeldOp) → (A.effects op && machine_exchanges p (A.machine op)) ≡ op_effect p op
  pub hand : (op : HeldOp) → hand_in (A.machine op) ≡ hand_at op.at
  pub writes : (op : HeldOp) → working_writes (working_in (A.machine op)) ≡ writing_at op.at
  pub leaves : (op : HeldOp) (told : ℕ) → hand_in (machine_takes p free (A.machine op) told) ≡ hand_at (after_at p free op.at told)

abbrev pub TreeMeans : Type 0
TreeMeans = (l : Layout) (p : Place) (free : List ℕ) → MeansSo l p free (tree_anatomy l p free)

-- an insert has not linked its rows
abbrev pub IsUnlinked : Anatomy HeldOp → HeldOp → Type 0
IsUnlinked A op = (A.effects op && (is_insert (A.call op) && has_linked (deed_of (A.machine op)))) ≡ false

-- Of an operation under way at a moment that holds: after any answer its hand's spare rows fit into links, until they are
-- linked. Of rows that were just linked nothing here says so.
abbrev pub HandsFit : Type 0
HandsFit = (l : Layout) (p : Place) (free : List ℕ) (M : Moment HeldOp) (a : List (Worker HeldOp)) (name number : ℕ) (op : HeldOp) (call : Call)
    (begun : Option ℕ) (b : List (Worker HeldOp)) (told : ℕ) →
    Holds (tree_crew l p free) l p free (with_workers M (a ++ busy name number op call begun ∷ b)) →
    IsUnlinked (tree_anatomy l p free) op → FitsLink (hand_at (after_at p free op.at told))
