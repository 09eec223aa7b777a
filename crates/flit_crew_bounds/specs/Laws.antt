-- What stands of the bounds with no structure in it: how many events a machine has to go, and when its exchange is won.
use Rattle.std.specs.Prelude.{◌≡◌, ℕ, ◌<◌, ◌≤◌, true, false, List, length, slice_index, Some}
use Rattle.std.specs.List.{AllByRecursion}
use Rattle.flit_model.specs.States.{State}
use Rattle.flit_model.specs.Effects.{after, answer}
use Rattle.flit_model.specs.declared.events.Event.{Event}
use Rattle.flit_words.specs.Words.{is_tagged}
use Rattle.flit_place.specs.Tags.{Place, IsSlot, dressed}
use Rattle.flit_pv.specs.declared.exchanges.Exchanging.TheVariants.{Withdraws}
use Rattle.flit_pv.specs.Exchanges.{HeldExchange, exchange_asked, exchange_taken}
use Rattle.flit_crew.specs.Machines.{Machine, machine_asks, machine_takes, hand_in, has_ended, exchange_part, ToWin, HasWon, HasLost}
use Rattle.flit_crew_bounds.specs.Left.{machine_left}
use Rattle.flit_crew_bounds.specs.Winning.{wins_now, would_win}

-- Each event of a machine leaves fewer to go, whatever it is told; and one that has ended has the pairs of its hand's queue
-- left. No row is 0.
pub record MachinesFall : Type 0 where
  pub falls : (p : Place) (free : List ℕ) (m : Machine) (e : Event) (told : ℕ) → AllByRecursion (λ row. 1 ≤ row) free → machine_asks p m ≡ Some e →
      machine_left (machine_takes p free m told) < machine_left m
  pub ended : (p : Place) (free : List ℕ) (m : Machine) (e : Event) (told : ℕ) → machine_asks p m ≡ Some e →
      has_ended p (machine_takes p free m told) ≡ true →
      machine_left (machine_takes p free m told) ≡ length (hand_in (machine_takes p free m told)).queue

-- An exchange that an event loses was not to be won; and by an event after which it is still to be won, that it will be
-- stays as it was.
pub record WinsTell : Type 0 where
  pub lost : (p : Place) (s : State) (m : HeldExchange) (e : Event) (found : ℕ) → exchange_asked p m ≡ Some e → exchange_part m.at ≡ ToWin →
      exchange_part (exchange_taken p m (answer s e)).at ≡ HasLost found → wins_now p s.words m ≡ false
  pub stays : (p : Place) (s : State) (m : HeldExchange) (e : Event) → exchange_asked p m ≡ Some e → exchange_part m.at ≡ ToWin →
      exchange_part (exchange_taken p m (answer s e)).at ≡ ToWin → wins_now p (after s e).words (exchange_taken p m (answer s e)) ≡ wins_now p s.words m

-- An exchange that has won by an event finds its word as it wrote it, with a tag where tags are bits. And where the word is
-- still such that an exchange from that would win, one from the bare word will win once the tag is withdrawn.
pub record WrittenTell : Type 0 where
  pub won : (p : Place) (s : State) (m : HeldExchange) (e : Event) → exchange_asked p m ≡ Some e → exchange_part m.at ≡ ToWin →
      exchange_part (exchange_taken p m (answer s e)).at ≡ HasWon → m.word < length s.words →
      slice_index (after s e).words m.word ≡ dressed p.counted m.to
  pub cleared : (p : Place) (s : State) (m : HeldExchange) (e : Event) (slots : ℕ) → exchange_asked p m ≡ Some e → m.at ≡ Withdraws →
      IsSlot p.counted slots (p.slot m.word) → is_tagged m.to ≡ false → m.word < length s.words →
      would_win p s.words m.word (dressed p.counted m.to) ≡ true → would_win p (after s e).words m.word m.to ≡ true
