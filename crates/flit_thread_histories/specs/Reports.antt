-- What a report of Works that were run on threads says, where the image takes no value ahead: each sentence apart, from what
-- is told.
use Rattle.std.specs.Prelude.{◌≡◌, ◌⊎◌, ℕ, ◌+◌, ◌*◌, ◌<◌, ◌≤◌, List, map, slice_index, Some, None}
use Rattle.std.specs.List.{AllByRecursion}
use Rattle.flit_words.specs.declared.layouts.Layout.{Layout}
use Rattle.flit_words.specs.Words.{version_of}
use Rattle.flit_model.specs.Maps.{IsLegal, map_after_all}
use Rattle.flit_model.specs.Recovery.{layout_of}
use Rattle.flit_model.specs.declared.calls.Ahead.TheVariants.{None as No_ahead}
use Rattle.flit_model.specs.declared.calls.Outcome.{Outcome}
use Rattle.flit_model.specs.declared.calls.Outcome.TheVariants.{Replied}
use Rattle.flit_model.specs.declared.calls.Reply.{Reply}
use Rattle.flit_model.specs.declared.calls.Reply.TheVariants.{Yes, No, Found, Full, Worn}
use Rattle.flit_model.specs.declared.calls.Work.{Work}
use Rattle.flit_structure.specs.Meanings.{Meaning}
use Rattle.flit_structure.specs.Lawful.{HasMap, rows_needed}
use Rattle.flit_histories.specs.Calls.{inserts_in}
use Rattle.flit_table.specs.declared.told.Known.{Known}
use Rattle.flit_table.specs.declared.views.Origin.{Origin}
use Rattle.flit_table.specs.Closing.{TellsAllNames}
use Rattle.flit_table.specs.Views.{content_of, answered, made_by}
use Rattle.flit_workers.specs.Ends.{AllInOrder}
use Rattle.flit_workers.specs.Works.{item_of}
use Rattle.flit_thread_histories.specs.Promises.{history_told, events_told, IsToldOf, KeepsPromises}

-- none of these calls was stopped
abbrev pub AllReplied : List Outcome → Type 0
AllReplied outcomes = AllByRecursion (λ o. (reply : Reply) × (o ≡ Replied reply)) outcomes

-- a worker has made all its items, and none of its calls was stopped
abbrev pub HasMadeAll : Known → ℕ → Work → List Outcome → Type 0
HasMadeAll t name w outcomes = AllReplied outcomes × (w.items.items ≡ map item_of (made_by name t.mine))

-- how a worker ended: without a stop it has made all; with a stop it has made just as many events as its stop says, or fewer
-- and all then
pub record EndsByStop (t : Known) (name : ℕ) (w : Work) (outcomes : List Outcome) : Type 0 where
  pub without : w.stop ≡ None → HasMadeAll t name w outcomes
  pub with_stop : (stop : ℕ) → w.stop ≡ Some stop → (events_told name t ≡ stop) ⊎ ((events_told name t < stop) × HasMadeAll t name w outcomes)

-- a call was answered Full or Worn only within its bound, by the history and the image that are told
abbrev pub IsWithinTold : Layout → ℕ → Known → Reply → Type 0
IsWithinTold l room t Yes = Unit {0}
IsWithinTold l room t No = Unit {0}
IsWithinTold l room t (Found value) = Unit {0}
IsWithinTold l room t (Full ticket) = (room ≤ ticket) × (room < rows_needed l.kind * (inserts_in (history_told t) + l.workers))
IsWithinTold l room t (Worn word version) = (l.limit ≤ version) × (version ≤ version_of (slice_index t.image.words.items word))

module _ {S Op : Type 0} (meaning : Meaning Op) (o : Origin S) where
  pub record TellsRun (works : List Work) (outcomes : List (List Outcome)) (t : Known) : Type 0 where
    -- it is told of this layout, of all names, and of the image that takes no value ahead
    pub layout : t.layout ≡ meaning.layout
    pub ahead : t.ahead ≡ No_ahead
    pub names : TellsAllNames t
    -- the history is legal, and recovery finds the map after it in the image
    pub legal : IsLegal (content_of o) (history_told t)
    pub map : HasMap (layout_of t.image) t.image.words.items (map_after_all (content_of o) (history_told t))
    -- each worker's items, outcomes and entries are told, and it ended by its stop
    pub workers : AllInOrder (λ name w os. IsToldOf t (history_told t) name w os × EndsByStop t name w os) 1 works outcomes
    pub bounds : AllByRecursion (λ e. IsWithinTold meaning.layout meaning.room t e.reply) (answered t.mine)

  -- What keeps all promises, with an image that takes no value ahead, tells this.
  abbrev pub PromisesTellRuns : Type 0
  PromisesTellRuns = (works : List Work) (outcomes : List (List Outcome)) (t : Known) → t.ahead ≡ No_ahead → KeepsPromises meaning o works outcomes t →
      TellsRun works outcomes t
