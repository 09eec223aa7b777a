-- The calls among the items of a worker, by their numbers, and the entries that are theirs.
use Rattle.std.specs.Prelude.{◌≡◌, ℕ, ◌+◌, ◌==◌, ◌&&◌, ◌||◌, Bool, List, [], ◌∷◌, count_by, Option, Some, slice_get, take, if◌then◌else◌}
use Rattle.flit_model.specs.Histories.{is_yes, is_update_by, is_read_by}
use Rattle.flit_model.specs.declared.calls.Call.{Call}
use Rattle.flit_model.specs.declared.calls.Entry.{Entry}
use Rattle.flit_model.specs.declared.calls.Item.{Item}
use Rattle.flit_model.specs.declared.calls.Item.TheVariants.{Call as Call_item, Evict as Evict_item}
use Rattle.flit_model.specs.declared.calls.Reply.{Reply}
use Rattle.flit_structure.specs.Lawful.{is_insert}
use Rattle.flit_structure.specs.declared.workers.Doing.TheVariants.{Busy}
use Rattle.flit_sched.specs.Runs.{Part, Run, IsPart}

-- how many of some items are calls
abbrev pub one_if_call : Item → ℕ
one_if_call (Call_item call) = 1
one_if_call (Evict_item word) = 0

abbrev pub calls_in : List Item → ℕ
calls_in [] = 0
calls_in (i ∷ is) = one_if_call i + calls_in is

-- the item at a place is this call; its number counts the calls up to it, itself too
pub record IsCallAt (items : List Item) (k : ℕ) (call : Call) (number : ℕ) : Type 0 where
  pub is : slice_get items k ≡ Some (Call_item call)
  pub counts : number ≡ calls_in (take (k + 1) items)

-- an entry has this name and number
abbrev pub is_of : ℕ → ℕ → Entry → Bool
is_of name number e = (e.worker == name) && (e.number == number)

-- how many inserts with reply Yes a history has
abbrev pub inserts_in : List Entry → ℕ
inserts_in history = count_by (λ e. is_insert e.call && is_yes e.reply) history

-- what a history has of a call that has its reply: an update or a completed read has one entry, a call that was refused
-- has none
abbrev pub entries_of : ℕ → ℕ → Call → Reply → List Entry
entries_of name number call reply = if is_update_by call reply || is_read_by call reply then
    record { worker = name; number = number; call = call; reply = reply } ∷ [] else []

module _ {Op : Type 0} where
  -- the worker of this number in the run has this call at this place among its items
  pub record IsCallIn (r : Run Op) (worker : ℕ) (p : Part Op) (k : ℕ) (call : Call) (number : ℕ) : Type 0 where
    pub before : List (Part Op)
    pub behind : List (Part Op)
    pub is : IsPart r worker before p behind
    pub call_at : IsCallAt p.items k call number

  -- an entry is of a call among the items of the worker that it names
  pub record IsOfCall (r : Run Op) (e : Entry) : Type 0 where
    pub part : Part Op
    pub item : ℕ
    pub is : IsCallIn r e.worker part item e.call e.number

module _ {Op : Type 0} where
  -- a worker is at the call that stands at this place
  pub record IsUnderWayAt (p : Part Op) (k : ℕ) (call : Call) : Type 0 where
    pub op : Op
    pub begun : Option ℕ
    pub next : k ≡ p.over
    pub busy : p.worker.doing ≡ Busy op call begun
