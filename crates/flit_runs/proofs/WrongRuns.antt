-- Runs by wrong instructions, of one word with a slot beside it: the first worker writes the word, and the second loads it.
use Rattle.std.proofs.Common.{◌≡◌, ℕ, zero, suc, slice_index, length, ◌<◌, List, [], ◌∷◌, ◌++◌, Bool, false, Some, None, refl, arith, inl, inr}
use Rattle.flit_words.specs.Words.{untagged}
use Rattle.flit_model.specs.States.{State}
use Rattle.flit_model.specs.Effects.{after, after_all}
use Rattle.flit_model.specs.declared.events.Event.{Event}
use Rattle.flit_model.specs.declared.events.Event.TheVariants.{Load, ReadTag, Raise, Lower, Exchange, Persist}
use Rattle.flit_place.specs.Tags.{Place}
use Rattle.flit_pv.specs.declared.queues.Noted.{Noted}
use Rattle.flit_runs.specs.Workings.{Task, ToLoad, ToExchange, ToComplete}
use Rattle.flit_runs.specs.Worlds.{Actor, World, world_of, begun, MayStart, MayExchange, IsShared, IsAway, Step, event, start, Execution, here, next, IsFreshWorld}
use Rattle.flit_runs.specs.Witnesses.{Instructions, right_ones, went_on, TurnBy, goes, starts, RunBy, begins, further, BreaksRule, BreaksCounts, beside, early_lower, no_fence_at_completion, always_omits, tag_before_word, no_fence_before_exchange, two_slots}
use Rattle.flit_runs.proofs.OwingRuns.{start_state, idle, fresh, fresh_worker}
use Rattle.flit_runs.proofs.Opening.{runs-sound}
use Rattle.flit_runs.proofs.RuleLaws.{rule}

-- ---- the right instructions

turn-is-step : (p : Place) (vs : ℕ → Bool) (w v : World) → TurnBy (right_ones p) vs w v → Step p vs w v
turn-is-step p vs w v (goes s before me behind e asked) = event s before me behind e [] asked tt
turn-is-step p vs w v (starts s before me behind task ended may) = start s before me behind task ended may

run-is-execution : (p : Place) (vs : ℕ → Bool) (first last : World) → RunBy (right_ones p) vs first last → Execution p vs first last
run-is-execution p vs first last begins = here
run-is-execution p vs first last (further {w} run turn) = next (run-is-execution p vs first w run) (turn-is-step p vs w last turn)

pub right-ones-keep : (p : Place) → BreaksRule p (right_ones p) → ⊥
right-ones-keep p b = b.broken (rule p b.volatile b.last (runs-sound p b.volatile b.first b.last b.fresh (run-is-execution p b.volatile b.first b.last b.run)))

-- ---- a call of one worker in a run: its start, and some events

abbrev plain : ℕ → Bool
plain word = false

-- the worker after these events, one after the other, and that it asks for them
abbrev acted : Instructions → State → List Event → Actor → Actor
acted by s [] me = me
acted by s (e ∷ es) me = acted by (after s e) es (went_on by s e me)

abbrev AsksAll : Instructions → State → List Event → Actor → Type 0
AsksAll by s [] me = Unit {0}
AsksAll by s (e ∷ es) me = (by.asked me.at ≡ Some e) × AsksAll by (after s e) es (went_on by s e me)

acts : {by : Instructions} {first : World} (es : List Event) (s : State) (before : List Actor) (me : Actor) (behind : List Actor) → AsksAll by s es me →
    RunBy by plain first (world_of s before me behind) → RunBy by plain first (world_of (after_all s es) before (acted by s es me) behind)
acts [] s before me behind asks run = run
acts {by} (e ∷ es) s before me behind asks run =
    acts es (after s e) before (went_on by s e me) behind asks.1 (further run (goes s before me behind e asks.0))

calls : {by : Instructions} {first : World} (task : Task) (es : List Event) (s : State) (before : List Actor) (me : Actor) (behind : List Actor) →
    by.asked me.at ≡ None → MayStart plain s (before ++ behind) me task → AsksAll by s es (begun task me) →
    RunBy by plain first (world_of s before me behind) → RunBy by plain first (world_of (after_all s es) before (acted by s es (begun task me)) behind)
calls task es s before me behind ended may asks run =
    acts es s before (begun task me) behind asks (further run (starts s before me behind task ended may))

-- of two workers without private words either may load a word, or exchange it from its first value
is_shared : (s : State) (me other : Actor) (word : ℕ) → word < length s.words → IsAway me.private word → IsAway other.private word →
    IsShared plain s (me ∷ other ∷ []) word
is_shared s me other word within mine others = record { within = within; plain = refl; reached = (mine, (others, tt)) }

may_write : (s : State) (me other : Actor) (queue : List Noted) (word : ℕ) → word < length s.words → IsAway me.private word → IsAway other.private word →
    MayExchange plain s (me ∷ other ∷ []) queue word 0 5 10
may_write s me other queue word within mine others =
    record { shared = is_shared s me other word within mine others; small = omega arith; limited = omega arith; owed = inl (omega arith) }

-- ---- one word and two workers: the first writes it, and the second loads it and ends its call

abbrev new_word : ℕ
new_word = untagged 1 5

abbrev both : State → Actor → Actor → World
both s writer reader = world_of s [] writer (reader ∷ [])

abbrev first_world : World
first_world = both start_state (idle 1) (idle 2)

abbrev write : Task
write = ToExchange 0 0 5 10

-- the events of a write, and of a load that finds a slot
abbrev written : List Event
written = Raise 0 ∷ Exchange 0 0 new_word ∷ []

abbrev read : List Event
read = Load 0 ∷ ReadTag 0 ∷ []

-- the state after a write by these events, its writer, and its reader after the load
abbrev later : List Event → State
later es = after_all start_state es

abbrev writer : Instructions → List Event → Actor
writer by es = acted by start_state es (begun write (idle 1))

abbrev reader : Instructions → List Event → Actor
reader by es = acted by (later es) read (begun (ToLoad 0) (idle 2))

-- the write and then the load, where each may start
writes-and-reads : (by : Instructions) (es : List Event) → by.asked (idle 1).at ≡ None → by.asked (idle 2).at ≡ None →
    MayStart plain start_state (idle 2 ∷ []) (idle 1) write → AsksAll by start_state es (begun write (idle 1)) →
    MayStart plain (later es) (writer by es ∷ []) (idle 2) (ToLoad 0) → AsksAll by (later es) read (begun (ToLoad 0) (idle 2)) →
    RunBy by plain first_world (both (later es) (writer by es) (reader by es))
writes-and-reads by es idle_1 idle_2 may asks_write may' asks_read =
    calls (ToLoad 0) read (later es) (writer by es ∷ []) (idle 2) [] idle_2 may' asks_read
    (calls write es start_state [] (idle 1) (idle 2 ∷ []) idle_1 may asks_write begins)

abbrev lowered : List Event
lowered = Raise 0 ∷ Exchange 0 0 new_word ∷ Lower 0 ∷ []

pub early-lower : BreaksRule beside early_lower
early-lower = record {
  volatile = plain;
  first = first_world;
  last = both (later lowered) (writer early_lower lowered) (begun ToComplete (reader early_lower lowered));
  fresh = fresh;
  run = calls ToComplete [] (later lowered) (writer early_lower lowered ∷ []) (reader early_lower lowered) [] refl tt tt
      (writes-and-reads early_lower lowered refl
      refl (may_write _ _ _ _ _ (omega arith) tt tt) (refl, (refl, (refl, tt))) (is_shared _ _ _ _ (omega arith) tt tt) (refl, (refl, tt)));
  broken = λ kept. omega (arith, (kept.1.0 refl).0);
}

pub no-fence-at-completion : BreaksRule beside no_fence_at_completion
no-fence-at-completion = record {
  volatile = plain;
  first = first_world;
  last = both (later written) (writer no_fence_at_completion written) (begun ToComplete (reader no_fence_at_completion written));
  fresh = fresh;
  run = calls ToComplete [] (later written) (writer no_fence_at_completion written ∷ []) (reader no_fence_at_completion written) [] refl tt tt
      (writes-and-reads no_fence_at_completion written refl
      refl (may_write _ _ _ _ _ (omega arith) tt tt) (refl, (refl, tt)) (is_shared _ _ _ _ (omega arith) tt tt) (refl, (refl, tt)));
  broken = λ kept. omega (arith, (kept.1.0 refl).0);
}

pub always-omits : BreaksRule beside always_omits
always-omits = record {
  volatile = plain;
  first = first_world;
  last = both (later written) (writer always_omits written) (begun ToComplete (reader always_omits written));
  fresh = fresh;
  run = calls ToComplete [] (later written) (writer always_omits written ∷ []) (reader always_omits written) [] refl tt tt
      (writes-and-reads always_omits written refl
      refl (may_write _ _ _ _ _ (omega arith) tt tt) (refl, (refl, tt)) (is_shared _ _ _ _ (omega arith) tt tt) (refl, (refl, tt)));
  broken = λ kept. omega (arith, (kept.1.0 refl).0);
}

-- the reader goes on to exchange the word that it has loaded
abbrev rewrite : Task
rewrite = ToExchange 0 new_word 7 10

abbrev rewriter : Actor
rewriter = acted no_fence_before_exchange (later written) (Raise 0 ∷ []) (begun rewrite (reader no_fence_before_exchange written))

pub no-fence-before-exchange : BreaksRule beside no_fence_before_exchange
no-fence-before-exchange = record {
  volatile = plain;
  first = first_world;
  last = both (after (later written) (Raise 0)) (writer no_fence_before_exchange written) rewriter;
  fresh = fresh;
  run = calls rewrite (Raise 0 ∷ []) (later written) (writer no_fence_before_exchange written ∷ []) (reader no_fence_before_exchange written) [] refl
      (record { shared = is_shared _ _ _ _ (omega arith) tt tt; small = omega arith; limited = omega arith; owed = inr (inl (refl, omega arith)) }) (refl, tt)
      (writes-and-reads no_fence_before_exchange written refl
      refl (may_write _ _ _ _ _ (omega arith) tt tt) (refl, (refl, tt)) (is_shared _ _ _ _ (omega arith) tt tt) (refl, (refl, tt)));
  broken = λ kept. omega (arith, (kept.1.0 refl).0);
}

-- the reader reads the count, then the writer writes, and then the reader loads the word
abbrev counted_first : Actor
counted_first = acted tag_before_word start_state (ReadTag 0 ∷ []) (begun (ToLoad 0) (idle 2))

abbrev loaded_last : Actor
loaded_last = acted tag_before_word (later written) (Load 0 ∷ []) counted_first

pub tag-before-word : BreaksRule beside tag_before_word
tag-before-word = record {
  volatile = plain;
  first = first_world;
  last = both (later written) (writer tag_before_word written) (begun ToComplete loaded_last);
  fresh = fresh;
  run = calls ToComplete [] (later written) (writer tag_before_word written ∷ []) loaded_last [] refl tt tt
      (acts (Load 0 ∷ []) (later written) (writer tag_before_word written ∷ []) counted_first [] (refl, tt)
      (calls write written start_state [] (idle 1) (counted_first ∷ []) refl (may_write _ _ _ _ _ (omega arith) tt tt) (refl, (refl, tt))
      (calls (ToLoad 0) (ReadTag 0 ∷ []) start_state (idle 1 ∷ []) (idle 2) [] refl (is_shared _ _ _ _ (omega arith) tt tt) (refl, tt) begins)));
  broken = λ kept. omega (arith, (kept.1.0 refl).0);
}

-- ---- two words: the second worker is in the midst of writing the second word; the first one writes the first word and
-- loads the second

abbrev two_words : State
two_words = record { words = 0 ∷ 0 ∷ []; shadows = 0 ∷ 0 ∷ []; slots = 0 ∷ 0 ∷ []; counter = 0 }

zeros_at : (j : ℕ) → slice_index (0 ∷ 0 ∷ []) j ≡ 0
zeros_at zero = refl
zeros_at (suc zero) = refl
zeros_at (suc (suc j)) = refl

fresh_two : IsFreshWorld beside (both two_words (idle 1) (idle 2))
fresh_two = record {
  suits = record { whole = refl; slots = λ word below. (word, refl, below) };
  persistent = refl;
  untagged = λ word. rw (zeros_at word) refl;
  lowered = λ slot. zeros_at slot;
  few = omega arith;
  workers = (fresh_worker 1, (fresh_worker 2, tt));
}

abbrev second_write : List Event
second_write = Raise 1 ∷ Exchange 1 0 new_word ∷ []

abbrev first_write : List Event
first_write = Raise 0 ∷ Exchange 0 0 new_word ∷ Persist 0 new_word ∷ Lower 1 ∷ []

abbrev second_read : List Event
second_read = Load 1 ∷ ReadTag 1 ∷ []

abbrev half_written : State
half_written = after_all two_words second_write

abbrev both_written : State
both_written = after_all half_written first_write

abbrev second_writer : Actor
second_writer = acted two_slots two_words second_write (begun (ToExchange 1 0 5 10) (idle 2))

abbrev first_writer : Actor
first_writer = acted two_slots half_written first_write (begun write (idle 1))

abbrev second_reader : Actor
second_reader = acted two_slots both_written second_read (begun (ToLoad 1) first_writer)

two-writes : RunBy two_slots plain (both two_words (idle 1) (idle 2)) (both both_written first_writer second_writer)
two-writes =
    calls write first_write half_written [] (idle 1) (second_writer ∷ []) refl (may_write _ _ _ _ _ (omega arith) tt tt) (refl, (refl, (refl, (refl, tt))))
    (calls (ToExchange 1 0 5 10) second_write two_words (idle 1 ∷ []) (idle 2) [] refl (may_write _ _ _ _ _ (omega arith) tt tt) (refl, (refl, tt)) begins)

pub two-slots : BreaksRule beside two_slots
two-slots = record {
  volatile = plain;
  first = both two_words (idle 1) (idle 2);
  last = both both_written (begun ToComplete second_reader) second_writer;
  fresh = fresh_two;
  run = calls ToComplete [] both_written [] second_reader (second_writer ∷ []) refl tt tt
      (calls (ToLoad 1) second_read both_written [] first_writer (second_writer ∷ [])
      refl (is_shared _ _ _ _ (omega arith) tt tt) (refl, (refl, tt)) two-writes);
  broken = λ kept. omega (arith, (kept.0 refl).0);
}

pub two-slots-astray : BreaksCounts beside two_slots
two-slots-astray = record {
  volatile = plain;
  first = both two_words (idle 1) (idle 2);
  last = both both_written first_writer second_writer;
  fresh = fresh_two;
  run = two-writes;
  slot = 1;
  within = omega arith;
  astray = λ same. omega (arith, same);
}
