-- All that is promised of Works that threads made on one running structure, by what its close has told.
use Rattle.std.specs.Prelude.{◌≡◌, ℕ, ◌+◌, ◌≤◌, ◌==◌, true, List, [], ◌∷◌, ◌++◌, map, length, count_by}
use Rattle.std.specs.List.{AllByRecursion}
use Rattle.flit_model.specs.Maps.{IsLegal, map_after_all}
use Rattle.flit_model.specs.Histories.{is_update, IsRightAt, history_of}
use Rattle.flit_model.specs.States.{state_from}
use Rattle.flit_model.specs.Recovery.{IsImageOf, IsWhole, layout_of}
use Rattle.flit_model.specs.declared.calls.Ahead.{Ahead}
use Rattle.flit_model.specs.declared.calls.Ahead.TheVariants.{None as No_ahead}
use Rattle.flit_model.specs.declared.calls.Entry.{Entry}
use Rattle.flit_model.specs.declared.calls.Item.{Item}
use Rattle.flit_model.specs.declared.calls.Item.TheVariants.{Call as Call_item, Evict as Evict_item}
use Rattle.flit_model.specs.declared.calls.Outcome.{Outcome}
use Rattle.flit_model.specs.declared.calls.Work.{Work}
use Rattle.flit_model.specs.declared.found.Image.{Image}
use Rattle.flit_structure.specs.Moments.{update_of}
use Rattle.flit_structure.specs.Meanings.{Meaning}
use Rattle.flit_structure.specs.Lawful.{HasMap, IsBounded}
use Rattle.flit_table.specs.declared.passes.Pass.{Pass}
use Rattle.flit_table.specs.declared.told.Known.{Known}
use Rattle.flit_table.specs.declared.views.Made.{Made}
use Rattle.flit_table.specs.declared.views.Origin.{Origin}
use Rattle.flit_table.specs.Closing.{Closes, TellsAllNames, picks_of, known_in}
use Rattle.flit_table.specs.Moves.{HasNoneQueued}
use Rattle.flit_table.specs.Orders.{entries_in, AreInOrder}
use Rattle.flit_table.specs.Passes.{view_of, waiting_view}
use Rattle.flit_table.specs.Rule.{first_view}
use Rattle.flit_table.specs.Steps.{Home, meaning_of}
use Rattle.flit_table.specs.Views.{content_of, answered, made_by, entries_of, posts_of}
use Rattle.flit_workers.specs.declared.ends.End.{End}
use Rattle.flit_workers.specs.Ends.{AllInOrder, HaveEnded}
use Rattle.flit_workers.specs.Gathered.{HasGathered}
use Rattle.flit_workers.specs.Works.{item_of, AreNumberedFrom, outcomes_of, EndsAt}

-- the history that is told: the updates that the pass has seen, with its reads in their places
abbrev pub history_told : Known → List Entry
history_told t = history_of t.updates t.placed

-- how many events were made under a name
abbrev pub events_told : ℕ → Known → ℕ
events_told name t = count_by (λ n. n == name) t.events

-- the first of these items is a call, and the entry is its update, under this number
abbrev pub IsUpdateOfFirst : ℕ → ℕ → List Item → Entry → Type 0
IsUpdateOfFirst name number [] e = ⊥
IsUpdateOfFirst name number (Call_item call ∷ rest) e = (e ≡ update_of name number call) × (is_update e ≡ true)
IsUpdateOfFirst name number (Evict_item word ∷ rest) e = ⊥

-- at most one entry, the update of the call that comes first
abbrev pub IsUnfinishedUpdate : ℕ → ℕ → List Item → List Entry → Type 0
IsUnfinishedUpdate name number rest [] = Unit {0}
IsUnfinishedUpdate name number rest (e ∷ []) = IsUpdateOfFirst name number rest e
IsUnfinishedUpdate name number rest (e ∷ (d ∷ ds)) = ⊥

-- what is told of the worker of a name that was given this Work and has these outcomes, in a history
pub record IsToldOf (t : Known) (history : List Entry) (name : ℕ) (w : Work) (outcomes : List Outcome) : Type 0 where
  -- it has made its items from the front, in order, and no others are told under its name; and all of them, but where it
  -- has made as many events as its stop says
  pub made : List Made
  pub rest : List Item
  pub items : w.items.items ≡ map item_of made ++ rest
  pub told : made_by name t.mine ≡ made
  pub ends : EndsAt w.stop (events_told name t) rest
  -- its calls are numbered from 1 on, and its outcomes are their replies, and then Stopped
  pub numbered : AreNumberedFrom 0 (answered made)
  pub outcomes_are : outcomes ≡ outcomes_of made rest
  -- its entries in the history are the completed calls, each once and in order, and at most one more: the update of its
  -- first call without a reply
  pub more : List Entry
  pub entries : entries_of name history ≡ entries_in made ++ more
  pub unfinished : IsUnfinishedUpdate name (length (answered made) + 1) rest more

module _ {S Op : Type 0} (meaning : Meaning Op) (o : Origin S) where
  -- what is told of all of these Works, of which the first is that of name 1
  pub record KeepsPromises (works : List Work) (outcomes : List (List Outcome)) (t : Known) : Type 0 where
    -- it is told of a structure of this layout, and of all its names
    pub layout : t.layout ≡ meaning.layout
    pub names : TellsAllNames t
    -- one legal history of one map: behind what is told stand the updates of the values ahead that the image takes, and
    -- none where it takes none. Recovery finds its map in the image, which is whole and lawful for its own layout: so
    -- recovery of it is Ok
    pub taken : List Entry
    pub none_taken : t.ahead ≡ No_ahead → taken ≡ []
    pub legal : IsLegal (content_of o) (history_told t ++ taken)
    pub shape : IsImageOf meaning.layout t.image
    pub image : HasMap meaning.layout t.image.words.items (map_after_all (content_of o) (history_told t ++ taken))
    pub whole : IsWhole t.image
    pub found : HasMap (layout_of t.image) t.image.words.items (map_after_all (content_of o) (history_told t ++ taken))
    -- each worker's calls stand in it, and no entry is of another name; each read is right at its position
    pub workers : AllInOrder (λ name w os. IsToldOf t (history_told t ++ taken) name w os) 1 works outcomes
    pub named : AllByRecursion (λ e. (1 ≤ e.worker) × (e.worker ≤ meaning.layout.workers)) (history_told t ++ taken)
    pub updates : AllByRecursion (λ e. is_update e ≡ true) t.updates
    pub reads : AllByRecursion (IsRightAt (content_of o) t.updates) t.placed
    -- a call that was answered Full or Worn has its bound, by the updates and the image that are told
    pub bounds : AllByRecursion (λ e. IsBounded meaning.layout meaning.room (state_from meaning.layout t.image.words.items) t.updates e.reply) (answered t.mine)

module _ {S Op : Type 0} (meanings : S → Meaning Op) where
  -- workers that began as the structure was opened have ended; one pass has gathered theirs, and was closed with this image
  pub record HaveRun (home : Home S) (works : List Work) (ends : List (End S Op)) (pass : Pass S Op) (ahead : Ahead) (image : Image) : Type 0 where
    pub each : length works ≡ (meaning_of meanings home).layout.workers
    pub ended : HaveEnded meanings home (first_view (meaning_of meanings home) home.origin) works ends
    pub gathered : HasGathered (meaning_of meanings home) (map (λ e. e.pass) ends) pass
    pub closed : Closes (meaning_of meanings home) home.origin (view_of pass) (picks_of ahead) image.words.items
    pub shape : IsImageOf (meaning_of meanings home).layout image

  -- What is told then keeps all promises.
  abbrev pub ThreadsKeepPromises : Type 0
  ThreadsKeepPromises = (home : Home S) (works : List Work) (ends : List (End S Op)) (pass : Pass S Op) (ahead : Ahead) (image : Image) →
      HaveRun home works ends pass ahead image →
      KeepsPromises (meaning_of meanings home) home.origin works (map (λ e. e.outcomes.items) ends)
      (known_in (meaning_of meanings home).layout ahead image (view_of pass))

  -- Workers that began as the structure was opened: at their ends the completed calls of each name of their passes stand in
  -- order in what these have seen, also of those that have made no event.
  abbrev pub EndsInOrder : Type 0
  EndsInOrder = (home : Home S) (works : List Work) (ends : List (End S Op)) →
      HaveEnded meanings home (first_view (meaning_of meanings home) home.origin) works ends → AllByRecursion (λ e. AreInOrder (view_of e.pass)) ends

  -- With one worker nothing was queued, where workers that began as the structure was opened have ended, one pass has gathered
  -- theirs and was closed: not by a worker, with what it waits to begin where it was stopped before its call's first event;
  -- nor by a worker that the closed pass has.
  abbrev pub OneWorkerQueuesNothing : Type 0
  OneWorkerQueuesNothing = (home : Home S) (works : List Work) (ends : List (End S Op)) (pass : Pass S Op) (ahead : Ahead) (image : Image) →
      HaveRun home works ends pass ahead image → (meaning_of meanings home).layout.workers ≡ 1 →
      AllByRecursion (λ e. HasNoneQueued (meaning_of meanings home) (waiting_view (meaning_of meanings home) e.pass).post) ends
      × AllByRecursion (HasNoneQueued (meaning_of meanings home)) (posts_of (view_of pass))
