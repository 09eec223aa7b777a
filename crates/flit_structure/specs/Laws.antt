-- What follows from the laws of a structure, for those who run it.
use Rattle.std.specs.Prelude.{◌≡◌, ◌≢◌, ◌⊎◌, ℕ, ◌≤◌, ◌<◌, ◌∷◌, [], ◌++◌, List, Option, Some, None, length, Bool, true}
use Rattle.std.specs.List.{AllByRecursion}
use Rattle.std.specs.FinMap as map_of
use Rattle.flit_words.specs.Layouts.{words_of}
use Rattle.flit_words.specs.Words.{bare_of}
use Rattle.flit_model.specs.Maps.{Map}
use Rattle.flit_model.specs.States.{State, shadow_at}
use Rattle.flit_model.specs.Effects.{Location, after, answer, location_of}
use Rattle.flit_model.specs.Effects.{WordLocation, ShadowLocation}
use Rattle.flit_model.specs.Histories.{IsRightAt}
use Rattle.flit_model.specs.Settling.{Progress, progress_after, taken_updates}
use Rattle.flit_model.specs.declared.events.Event.{Event}
use Rattle.flit_model.specs.declared.events.Event.TheVariants.{Load, Persist}
use Rattle.flit_model.specs.declared.calls.Entry.{Entry}
use Rattle.flit_model.specs.declared.calls.Placed.{Placed}
use Rattle.flit_structure.specs.declared.workers.Worker.{Worker}
use Rattle.flit_structure.specs.Moments.{Moment, IsAmong}
use Rattle.flit_structure.specs.Meanings.{Meaning, MayBeWrittenBack, asked_by, moment_after, Leads, key_of}
use Rattle.flit_structure.specs.Lawful.{HoldsWith, StandsFrom, IsPlacedFrom, IsRecoverable, IsUnfinished}

-- one list of entries begins another
abbrev pub IsContinued : List Entry → List Entry → Type 0
IsContinued old now = (more : List Entry) × (now ≡ old ++ more)

-- an update that waits at a word
abbrev pub WaitsAt : Progress → ℕ → Entry → Type 0
WaitsAt p word e = map_of.get p.waiting word ≡ Some e

module _ {Op : Type 0} (meaning : Meaning Op) where
  -- Where one thing happens after another, by any workers in any order, `holds` lasts; the opening stays, and settled
  -- updates stay settled, in their order.
  pub record MomentsLast : Type 0 where
    pub holds : (M N : Moment Op) → Leads meaning M N → meaning.holds M → meaning.holds N
    pub opening : (M N : Moment Op) → Leads meaning M N → N.opening ≡ M.opening
    pub settled : (M N : Moment Op) → Leads meaning M N → IsContinued M.progress.settled N.progress.settled

  -- Anybody may write a word back at any time, with what it holds or with what it has held since: then all goes on
  -- holding. What may be written back may be written back after each event, too.
  pub record WriteBacksKeep : Type 0 where
    pub holds : (M : Moment Op) (word kept : ℕ) → word < words_of meaning.layout → MayBeWrittenBack M.state word kept → meaning.holds M →
        meaning.holds (record M { state = after M.state (Persist word kept); progress = progress_after M.progress M.state (Persist word kept) None })
    pub lasts : (M : Moment Op) (a : List (Worker Op)) (u : Worker Op) (b : List (Worker Op)) (e : Event) (word kept : ℕ) →
        asked_by meaning u ≡ Some e → HoldsWith meaning M a u b → word < words_of meaning.layout →
        MayBeWrittenBack M.state word kept → MayBeWrittenBack (after M.state e) word kept

  -- The shadows are a lawful image, with the map after the settled updates, which are legal.
  abbrev pub ShadowsRecover : Type 0
  ShadowsRecover = (M : Moment Op) → meaning.holds M → IsRecoverable meaning.layout M.opening.content M.state.shadows M.progress.settled

  -- An update that waits is of a call that has no reply. A name has at most one, and no two are of one key. By an event
  -- of anybody it goes on waiting or is settled, as the last.
  pub record UpdatesWait : Type 0 where
    pub unfinished : (M : Moment Op) (word : ℕ) (e : Entry) → meaning.holds M → WaitsAt M.progress word e → IsUnfinished meaning M.workers e
    pub one_each : (M : Moment Op) (v w : ℕ) (d e : Entry) → meaning.holds M → WaitsAt M.progress v d → WaitsAt M.progress w e → d.worker ≡ e.worker → v ≡ w
    pub different_keys : (M : Moment Op) (v w : ℕ) (d e : Entry) → meaning.holds M → v ≢ w → WaitsAt M.progress v d → WaitsAt M.progress w e →
        key_of d.call ≢ key_of e.call
    pub goes_on : (M : Moment Op) (a : List (Worker Op)) (u : Worker Op) (b : List (Worker Op)) (e : Event) (word : ℕ) (x : Entry) →
        HoldsWith meaning M a u b → asked_by meaning u ≡ Some e → WaitsAt M.progress word x →
        let N = moment_after meaning M e a u b in WaitsAt N.progress word x ⊎ (N.progress.settled ≡ M.progress.settled ++ x ∷ [])

  -- At a moment that holds a name tells its worker.
  abbrev pub NamesTell : Type 0
  NamesTell = (M : Moment Op) (u v : Worker Op) → meaning.holds M → IsAmong M.workers u → IsAmong M.workers v → u.name ≡ v.name → u ≡ v

-- An event settles at most one update, that which waits at the word of its write-back, and leaves what waits at other
-- words.
pub record OneSettles : Type 0 where
  pub one : (p : Progress) (m : State) (e : Event) (effect : Option Entry) → (more : List Entry) × ((progress_after p m e effect).settled ≡ p.settled ++ more)
      × (length more ≤ 1)
  pub waited : (p : Progress) (m : State) (e : Event) (effect : Option Entry) → let q = progress_after p m e effect in
      (q.settled ≡ p.settled) ⊎ ((word : ℕ) × (kept : ℕ) × (x : Entry) × (e ≡ Persist word kept) × WaitsAt p word x × (q.settled ≡ p.settled ++ x ∷ []))
  pub others : (p : Progress) (m : State) (e : Event) (effect : Option Entry) (word : ℕ) → location_of e ≢ WordLocation word →
      location_of e ≢ ShadowLocation word →
      map_of.get (progress_after p m e effect).waiting word ≡ map_of.get p.waiting word

-- What an Evict reads may be written back; the write-back of what is persistent already changes nothing; and no event
-- lowers a shadow.
pub record EvictsAreHarmless : Type 0 where
  pub found : (m : State) (word : ℕ) → MayBeWrittenBack m word (bare_of (answer m (Load word)))
  pub reads : (p : Progress) (m : State) (word : ℕ) → (after m (Load word) ≡ m) × (progress_after p m (Load word) None ≡ p)
  pub stays : (p : Progress) (m : State) (word kept : ℕ) → kept ≤ shadow_at m word → (after m (Persist word kept) ≡ m)
      × (progress_after p m (Persist word kept) None ≡ p)
  pub rises : (m : State) (e : Event) (word : ℕ) → shadow_at m word ≤ shadow_at (after m e) word

-- Where an update stands and where a read is right stays so when more updates are settled, at the same position.
pub record PositionsLast : Type 0 where
  pub right : (before : Map) (updates more : List Entry) (r : Placed) → IsRightAt before updates r → IsRightAt before (updates ++ more) r
  pub placed : (n : ℕ) (before : Map) (updates more : List Entry) (read : Entry) → IsPlacedFrom n before updates read →
      IsPlacedFrom n before (updates ++ more) read
  pub stands : (n : ℕ) (updates more : List Entry) (e : Entry) → StandsFrom n updates e → StandsFrom n (updates ++ more) e

-- The updates that a crash image takes are updates that wait, at words that it picks.
abbrev pub TakenUpdatesWait : Type 0
TakenUpdatesWait = (p : Progress) (picks : ℕ → Bool) → AllByRecursion (λ e. (word : ℕ) × (picks word ≡ true) × WaitsAt p word e) (taken_updates p picks)
