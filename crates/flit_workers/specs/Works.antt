-- What a worker makes of its Work: its items from the front, each as `mine` of its pass has it, with their replies.
use Rattle.std.specs.Prelude.{◌≡◌, ℕ, zero, suc, ◌+◌, ◌<◌, ◌≤◌, List, [], ◌∷◌, ◌++◌, map, take, drop, length, replicate, Option, Some, None}
use Rattle.std.specs.List.{AllByRecursion}
use Rattle.flit_words.specs.declared.layouts.Layout.{Layout}
use Rattle.flit_words.specs.Layouts.{words_of}
use Rattle.flit_model.specs.declared.calls.Call.{Call}
use Rattle.flit_model.specs.declared.calls.Entry.{Entry}
use Rattle.flit_model.specs.declared.calls.Item.{Item}
use Rattle.flit_model.specs.declared.calls.Item.TheVariants.{Call as Call_item, Evict as Evict_item}
use Rattle.flit_model.specs.declared.calls.Outcome.{Outcome}
use Rattle.flit_model.specs.declared.calls.Outcome.TheVariants.{Replied, Stopped as Stopped_outcome}
use Rattle.flit_model.specs.declared.calls.Reply.{Reply}
use Rattle.flit_structure.specs.Meanings.{Meaning, IsServed}
use Rattle.flit_table.specs.declared.views.Made.{Made as Made_item}
use Rattle.flit_table.specs.declared.views.Made.TheVariants.{Answered, Evicted}
use Rattle.flit_table.specs.declared.views.Origin.{Origin}
use Rattle.flit_table.specs.declared.views.Start.TheVariants.{Go}
use Rattle.flit_table.specs.declared.views.View.{View}
use Rattle.flit_table.specs.declared.passes.Pass.{Pass}
use Rattle.flit_table.specs.Calls.{IsSamePass, Runs, Sweeps}
use Rattle.flit_table.specs.Passes.{view_of, own_name, own_calls, waits_to, IsFree, IsStopped}
use Rattle.flit_table.specs.Logs.{Continues}
use Rattle.flit_table.specs.Orders.{AreInOrder}
use Rattle.flit_table.specs.Views.{name_of, answered}
use Rattle.flit_workers.specs.declared.items.Came.{Came}
use Rattle.flit_workers.specs.declared.items.Came.TheVariants.{Made, Stopped}

-- the item that was made; and the calls among some items
abbrev pub item_of : Made_item → Item
item_of (Answered e) = Call_item e.call
item_of (Evicted name word) = Evict_item word

abbrev pub calls_in : List Item → List Call
calls_in [] = []
calls_in (Call_item call ∷ items) = call ∷ calls_in items
calls_in (Evict_item word ∷ items) = calls_in items

-- the calls are numbered on from a number
abbrev pub AreNumberedFrom : ℕ → List Entry → Type 0
AreNumberedFrom number [] = Unit {0}
AreNumberedFrom number (e ∷ es) = (e.number ≡ number + 1) × AreNumberedFrom (number + 1) es

-- the outcomes of a Work's calls: the replies of those that were made, and Stopped for the rest
abbrev pub outcomes_of : List Made_item → List Item → List Outcome
outcomes_of made rest = map (λ e. Replied e.reply) (answered made) ++ replicate (length (calls_in rest)) Stopped_outcome

-- where a worker ends: behind its last item, or with items left where it has made as many events as its stop says
abbrev pub EndsAt : Option ℕ → ℕ → List Item → Type 0
EndsAt None events rest = rest ≡ []
EndsAt (Some stop) events rest = (events ≤ stop) × (events < stop → rest ≡ [])

-- an item that a layout serves
abbrev pub IsRightItem : Layout → Item → Type 0
IsRightItem l (Call_item call) = IsServed l call
IsRightItem l (Evict_item word) = word < words_of l

-- the reply of an item, where it is a call
abbrev pub reply_of : Made_item → Option Reply
reply_of (Answered e) = Some e.reply
reply_of (Evicted name word) = None

module _ {S Op : Type 0} where
  -- how a view stands behind another after so many events or joins: with none it is the same, and else the calls of each
  -- name stand in order in what it has seen
  abbrev pub IsInOrderAfter : ℕ → View S Op → View S Op → Type 0
  IsInOrderAfter zero v w = w ≡ v
  IsInOrderAfter (suc n) v w = AreInOrder w

  -- between two views of a pass these items were made, the calls numbered on from a number, all by so many events, and
  -- all under one name
  pub record Grows (name number : ℕ) (made : List Made_item) (count : ℕ) (v w : View S Op) : Type 0 where
    pub same : IsSamePass v w
    pub log : Continues v.log w.log
    pub mine : w.mine ≡ v.mine ++ made
    pub named : AllByRecursion (λ x. name_of x ≡ name) made
    pub numbered : AreNumberedFrom number (answered made)
    pub events : w.events ≡ replicate count name ++ v.events

  -- an item has its reply, where it is a call, and the pass its hand; and in what the pass has seen all stands in order
  pub record IsMade (item : Item) (reply : Option Reply) (count : ℕ) (g h : Pass S Op) : Type 0 where
    pub free : IsFree h
    pub made : Made_item
    pub is : item_of made ≡ item
    pub replied : reply_of made ≡ reply
    pub calls : own_calls h ≡ own_calls g + length (answered (made ∷ []))
    pub grows : Grows (own_name g) (own_calls g) (made ∷ []) count (view_of g) (view_of h)
    pub some : 0 < count
    pub order : AreInOrder (view_of h)

  -- a worker has made so many of its items
  pub record HasMade (items : List Item) (at : ℕ) (outcomes : List Outcome) (replied count : ℕ) (g h : Pass S Op) : Type 0 where
    pub made : List Made_item
    pub grows : Grows (own_name g) (own_calls g) made count (view_of g) (view_of h)
    pub order : IsInOrderAfter count (view_of g) (view_of h)
    pub front : map item_of made ≡ take at items
    pub are : outcomes ≡ outcomes_of made (drop at items)
    pub counted : replied ≡ length (answered made)
    pub calls : own_calls h ≡ own_calls g + replied

module _ {S Op : Type 0} (meaning : Meaning Op) (o : Origin S) where
  -- a pass that had the view v and had begun so many calls is at this item, and has made so many events of it: it has begun
  -- the call, and keeps its operation; or it has made the load of an evict of this word
  abbrev pub IsInItem : Item → ℕ → ℕ → View S Op → Pass S Op → Type 0
  IsInItem (Call_item call) steps calls v h = (own_calls h ≡ calls + 1) × ((op : Op) × Runs meaning o call v (view_of h) op steps)
  IsInItem (Evict_item word) steps calls v h = (own_calls h ≡ calls) × (steps ≡ 1) × ((found : ℕ) × Sweeps meaning o word v (view_of h) found)

  -- an item came out so, which may make so many events; where it may make one and is not over, the pass is stopped in it
  pub record IsCutWithin (item : Item) (steps : ℕ) (g h : Pass S Op) : Type 0 where
    pub grows : Grows (own_name g) (own_calls g) [] steps (view_of g) (view_of h)
    pub stopped : IsStopped h
    pub waits : 0 < steps → waits_to h ≡ Go
    pub inside : 0 < steps → IsInItem item steps (own_calls g) (view_of g) h

  abbrev pub IsMadeWithin : Item → ℕ → Pass S Op → Pass S Op → Came → Type 0
  IsMadeWithin item steps g h (Made reply count) = (count ≤ steps) × IsMade item reply count g h
  IsMadeWithin item steps g h Stopped = IsCutWithin item steps g h

  -- where the worker of a pass stands that has these items left, has begun so many calls for those before them, and had the
  -- view v then. With no further event it stands between its items, and has its hand; else it is stopped in the first of
  -- those that are left, and has made so many events of it
  abbrev pub StandsAt : ℕ → List Item → ℕ → View S Op → Pass S Op → Type 0
  StandsAt zero rest calls v h = IsFree h × (view_of h ≡ v) × (own_calls h ≡ calls)
  StandsAt (suc n) [] calls v h = ⊥
  StandsAt (suc n) (item ∷ rest) calls v h = IsStopped h × (waits_to h ≡ Go) × IsInItem item (suc n) calls v h

  -- a worker has made its items from the front, in order, and has gone on to its end; of its calls, the first is behind
  -- this number. Its last events are of the first item that is left
  pub record IsWorked (items : List Item) (stop : Option ℕ) (outcomes : List Outcome) (name number : ℕ) (v : View S Op) (h : Pass S Op) : Type 0 where
    pub made : List Made_item
    pub count : ℕ
    pub grows : Grows name number made count v (view_of h)
    pub order : IsInOrderAfter count v (view_of h)
    pub rest : List Item
    pub front : items ≡ map item_of made ++ rest
    pub ends : EndsAt stop count rest
    pub are : outcomes ≡ outcomes_of made rest
    pub before : ℕ
    pub further : ℕ
    pub counted : count ≡ before + further
    pub between : View S Op
    pub over : Grows name number made before v between
    pub stands : StandsAt further rest (number + length (answered made)) between h
