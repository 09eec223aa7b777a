-- Wrong instructions. Each differs from the right ones in a step of one kind of machine, and a run by it breaks the P-V
-- rule.
use Rattle.std.specs.Prelude.{◌≡◌, ◌≢◌, ℕ, ◌+◌, ◌==◌, ◌<◌, Bool, true, List, [], ◌∷◌, ◌++◌, length, count_by, Option, Some, None, if◌then◌else◌}
use Rattle.std.specs.List.{AllByRecursion}
use Rattle.flit_words.specs.Words.{version_of}
use Rattle.flit_model.specs.States.{State, count_at}
use Rattle.flit_model.specs.Effects.{after, answer}
use Rattle.flit_model.specs.declared.events.Event.{Event}
use Rattle.flit_model.specs.declared.events.Event.TheVariants.{Load, ReadTag, Raise, Lower}
use Rattle.flit_place.specs.Tags.{Place}
use Rattle.flit_place.specs.Covers.{holds_up}
use Rattle.flit_pv.specs.declared.loads.Loading.{Loading}
use Rattle.flit_pv.specs.declared.loads.Loading.TheVariants.{Reads, Asks}
use Rattle.flit_pv.specs.declared.exchanges.Exchanging.{Exchanging}
use Rattle.flit_pv.specs.declared.exchanges.Exchanging.TheVariants.{Ready, Tries, WritesBack, Withdraws, Lowers, Ended}
use Rattle.flit_pv.specs.declared.exchanges.Exchanged.TheVariants.{Won}
use Rattle.flit_pv.specs.Hands.{with_persist}
use Rattle.flit_pv.specs.Loads.{HeldLoad, load_asks, load_omits, load_judges, load_takes}
use Rattle.flit_pv.specs.Exchanges.{HeldExchange, exchange_at, exchange_asks, exchange_takes}
use Rattle.flit_runs.specs.Workings.{Dependency, dependency, Working, Loads, Exchanges, Completes, asks, takes, gains, Task}
use Rattle.flit_runs.specs.Worlds.{Actor, World, world_of, begun, writings, MayStart, IsFreshWorld}
use Rattle.flit_runs.specs.Rules.{IsDurable, MustBeDurableBy}

-- ---- runs by any instructions

-- the event that a machine asks for, what the answer makes of it, and what its worker comes to depend on by it
pub record Instructions : Type 0 where
  pub asked : Working → Option Event
  pub taken : Working → ℕ → Working
  pub gained : Working → ℕ → List Dependency

-- those of the P-V Interface
abbrev pub right_ones : Place → Instructions
right_ones p = record { asked = asks p; taken = takes p; gained = gains p }

-- the worker after its event
abbrev pub went_on : Instructions → State → Event → Actor → Actor
went_on by s e me = record me { at = by.taken me.at (answer s e); needs = by.gained me.at (answer s e) ++ me.needs }

-- one turn: a worker makes the event that its machine asks for, or starts its next machine where it may
pub data TurnBy (by : Instructions) (vs : ℕ → Bool) : World → World → Type 0 where
  goes : (s : State) (before : List Actor) (me : Actor) (behind : List Actor) (e : Event) →
      by.asked me.at ≡ Some e →
      TurnBy by vs (world_of s before me behind) (world_of (after s e) before (went_on by s e me) behind)
  starts : (s : State) (before : List Actor) (me : Actor) (behind : List Actor) (task : Task) →
      by.asked me.at ≡ None → MayStart vs s (before ++ behind) me task →
      TurnBy by vs (world_of s before me behind) (world_of s before (begun task me) behind)

pub data RunBy (by : Instructions) (vs : ℕ → Bool) (first : World) : World → Type 0 where
  begins : RunBy by vs first first
  further : {w v : World} → RunBy by vs first w → TurnBy by vs w v → RunBy by vs first v

-- the P-V rule, by what the instructions ask for
abbrev pub KeepsRuleBy : Instructions → State → Actor → Type 0
KeepsRuleBy by s me = MustBeDurableBy by.asked me.at → IsDurable s me.needs

-- a run from a fresh world, after which not all workers keep the rule
pub record BreaksRule (p : Place) (by : Instructions) : Type 0 where
  pub volatile : ℕ → Bool
  pub first : World
  pub last : World
  pub fresh : IsFreshWorld p first
  pub run : RunBy by volatile first last
  pub broken : AllByRecursion (KeepsRuleBy by last.state) last.workers → ⊥

-- no run by the right instructions breaks the rule
abbrev pub RightOnesKeepRule : Type 0
RightOnesKeepRule = (p : Place) → BreaksRule p (right_ones p) → ⊥

-- a slot beside each word
abbrev pub beside : Place
beside = record { counted = true; slot = Some }

-- ---- wrong instructions, of words with a slot beside each: the right ones, but for one kind of machine

abbrev pub asks_loads : (HeldLoad → Option Event) → Working → Option Event
asks_loads asked (Loads m) = asked m
asks_loads asked at = asks beside at

abbrev pub takes_loads : (HeldLoad → ℕ → HeldLoad) → Working → ℕ → Working
takes_loads taken (Loads m) told = Loads (taken m told)
takes_loads taken at told = takes beside at told

abbrev pub gains_loads : (HeldLoad → ℕ → List Dependency) → Working → ℕ → List Dependency
gains_loads gained (Loads m) told = gained m told
gains_loads gained at told = gains beside at told

abbrev pub asks_exchanges : (HeldExchange → Option Event) → Working → Option Event
asks_exchanges asked (Exchanges m) = asked m
asks_exchanges asked at = asks beside at

abbrev pub takes_exchanges : (HeldExchange → ℕ → HeldExchange) → Working → ℕ → Working
takes_exchanges taken (Exchanges m) told = Exchanges (taken m told)
takes_exchanges taken at told = takes beside at told

abbrev pub asks_no_completes : Working → Option Event
asks_no_completes (Completes m) = None
asks_no_completes at = asks beside at

-- the slot is lowered once the exchange is won, and the new word is written back only then
abbrev pub lowers_early : Exchanging → HeldExchange → ℕ → HeldExchange
lowers_early (Tries slot) m told = exchange_at m (if told == m.from then Withdraws else Lowers slot told)
lowers_early Withdraws m told = exchange_at m WritesBack
lowers_early WritesBack m told = record m { at = Ended Won; hand = with_persist m.hand }
lowers_early at m told = exchange_takes beside at m told

abbrev pub early_lower : Instructions
early_lower = record (right_ones beside) { taken = takes_exchanges (λ m. lowers_early m.at m) }

-- a call ends with its queue not written back
abbrev pub no_fence_at_completion : Instructions
no_fence_at_completion = record (right_ones beside) { asked = asks_no_completes }

-- a load queues nothing, whatever its slot's count
abbrev pub omits_always : Loading → HeldLoad → ℕ → HeldLoad
omits_always (Asks raw slot) m told = load_omits m raw
omits_always at m told = load_takes beside at m told

abbrev pub always_omits : Instructions
always_omits = record (right_ones beside) { taken = takes_loads (λ m. omits_always m.at m) }

-- a load reads its slot's count first, and then the word; in between it is at Asks, with the count where else the word is
abbrev pub asks_tag_first : Loading → HeldLoad → Option Event
asks_tag_first Reads m = Some (ReadTag m.word)
asks_tag_first (Asks count slot) m = Some (Load m.word)
asks_tag_first at m = load_asks at m

abbrev pub takes_tag_first : Loading → HeldLoad → ℕ → HeldLoad
takes_tag_first Reads m told = record m { at = Asks told m.word }
takes_tag_first (Asks count slot) m told = load_judges beside m told (Some count)
takes_tag_first at m told = load_takes beside at m told

abbrev pub gains_tag_first : Loading → HeldLoad → ℕ → List Dependency
gains_tag_first (Asks count slot) m told = dependency m.word (version_of told) ∷ []
gains_tag_first at m told = []

abbrev pub tag_before_word : Instructions
tag_before_word = record {
  asked = asks_loads (λ m. asks_tag_first m.at m);
  taken = takes_loads (λ m. takes_tag_first m.at m);
  gained = gains_loads (λ m. gains_tag_first m.at m);
}

-- an exchange raises its slot with its worker's queue not written back
abbrev pub asks_unfenced : Exchanging → HeldExchange → Option Event
asks_unfenced Ready m = Some (Raise m.word)
asks_unfenced at m = exchange_asks beside at m

abbrev pub takes_unfenced : Exchanging → HeldExchange → ℕ → HeldExchange
takes_unfenced Ready m told = exchange_at m (Tries m.word)
takes_unfenced at m told = exchange_takes beside at m told

abbrev pub no_fence_before_exchange : Instructions
no_fence_before_exchange = record (right_ones beside) {
  asked = asks_exchanges (λ m. asks_unfenced m.at m);
  taken = takes_exchanges (λ m. takes_unfenced m.at m);
}

-- an exchange raises its word's slot, and lowers the next one
abbrev pub lowers_next : Exchanging → HeldExchange → Option Event
lowers_next Withdraws m = Some (Lower (m.word + 1))
lowers_next at m = exchange_asks beside at m

abbrev pub two_slots : Instructions
two_slots = record (right_ones beside) { asked = asks_exchanges (λ m. lowers_next m.at m) }

-- a run from a fresh world, after which the count of a slot isn't the number of the exchanges that hold it up
pub record BreaksCounts (p : Place) (by : Instructions) : Type 0 where
  pub volatile : ℕ → Bool
  pub first : World
  pub last : World
  pub fresh : IsFreshWorld p first
  pub run : RunBy by volatile first last
  pub slot : ℕ
  pub within : slot < length last.state.slots
  pub astray : count_at last.state slot ≢ count_by (holds_up p.slot slot) (writings last.workers)
