-- What the machine of each phase asks and has in hand is what the code asks and has in hand there.
use Rattle.std.proofs.Common.{◌≡◌, ℕ, ◌&&◌, List, refl}
use Rattle.flit_place.specs.Tags.{Place}
use Rattle.flit_pv.specs.Exchanges.{HeldExchange}
use Rattle.flit_pv.specs.declared.exchanges.Exchanging.{Exchanging}
use Rattle.flit_pv.specs.declared.exchanges.Exchanging.TheVariants.{Ready, Tries, TriesBare, WritesBack, Withdraws, Lowers, Ended}
use Rattle.flit_runs.specs.Workings.{writing_at as working_writes}
use Rattle.flit_crew.specs.Machines.{machine_asks, machine_takes, machine_exchanges, working_in, hand_in, exchanges_now as crew_exchanges}
use Rattle.flit_list_steps.specs.Operations.{At, Head, Next, Key, Confirming, Help, Row, Words, RowValue, Link, Mark, Tidy, Value, Ends, Rests}
use Rattle.flit_list_steps.specs.Steps.{asked_at, exchanges_now, effect_at, hand_at, writing_at, after_at}
use Rattle.flit_list_laws.specs.ListAnatomy.{machine_at, effects_at}

pub asks_at : (p : Place) (at : At) → machine_asks p (machine_at at) ≡ asked_at p at
asks_at p (Head m) = refl
asks_at p (Next m) = refl
asks_at p (Key m) = refl
asks_at p (Confirming goal which m) = refl
asks_at p (Help m) = refl
asks_at p (Row m) = refl
asks_at p (Words m) = refl
asks_at p (RowValue m) = refl
asks_at p (Link m) = refl
asks_at p (Mark m) = refl
asks_at p (Tidy m) = refl
asks_at p (Value m) = refl
asks_at p (Ends m) = refl
asks_at p (Rests hand) = refl

pub has_hand : (at : At) → hand_in (machine_at at) ≡ hand_at at
has_hand (Head m) = refl
has_hand (Next m) = refl
has_hand (Key m) = refl
has_hand (Confirming goal which m) = refl
has_hand (Help m) = refl
has_hand (Row m) = refl
has_hand (Words m) = refl
has_hand (RowValue m) = refl
has_hand (Link m) = refl
has_hand (Mark m) = refl
has_hand (Tidy m) = refl
has_hand (Value m) = refl
has_hand (Ends m) = refl
has_hand (Rests hand) = refl

pub writes_at : (at : At) → working_writes (working_in (machine_at at)) ≡ writing_at at
writes_at (Head m) = refl
writes_at (Next m) = refl
writes_at (Key m) = refl
writes_at (Confirming goal which m) = refl
writes_at (Help m) = refl
writes_at (Row m) = refl
writes_at (Words m) = refl
writes_at (RowValue m) = refl
writes_at (Link m) = refl
writes_at (Mark m) = refl
writes_at (Tidy m) = refl
writes_at (Value m) = refl
writes_at (Ends m) = refl
writes_at (Rests hand) = refl

pub leaves_at : (p : Place) (free : List ℕ) (at : At) (told : ℕ) →
    hand_in (machine_takes p free (machine_at at) told) ≡ hand_at (after_at p free at told)
leaves_at p free (Head m) told = refl
leaves_at p free (Next m) told = refl
leaves_at p free (Key m) told = refl
leaves_at p free (Confirming goal which m) told = refl
leaves_at p free (Help m) told = refl
leaves_at p free (Row m) told = refl
leaves_at p free (Words m) told = refl
leaves_at p free (RowValue m) told = refl
leaves_at p free (Link m) told = refl
leaves_at p free (Mark m) told = refl
leaves_at p free (Tidy m) told = refl
leaves_at p free (Value m) told = refl
leaves_at p free (Ends m) told = refl
leaves_at p free (Rests hand) told = refl

-- the word is exchanged by the same events
same_exchange : (p : Place) (at : Exchanging) (m : HeldExchange) → crew_exchanges p at m ≡ exchanges_now p at m
same_exchange p Ready m = refl
same_exchange p (Tries slot) m = refl
same_exchange p TriesBare m = refl
same_exchange p WritesBack m = refl
same_exchange p Withdraws m = refl
same_exchange p (Lowers slot found) m = refl
same_exchange p (Ended how) m = refl

pub exchanges_at : (p : Place) (at : At) → (effects_at at && machine_exchanges p (machine_at at)) ≡ effect_at p at
exchanges_at p (Head m) = refl
exchanges_at p (Next m) = refl
exchanges_at p (Key m) = refl
exchanges_at p (Confirming goal which m) = refl
exchanges_at p (Help m) = refl
exchanges_at p (Row m) = refl
exchanges_at p (Words m) = refl
exchanges_at p (RowValue m) = refl
exchanges_at p (Link m) = same_exchange p m.at m
exchanges_at p (Mark m) = same_exchange p m.at m
exchanges_at p (Tidy m) = refl
exchanges_at p (Value m) = refl
exchanges_at p (Ends m) = refl
exchanges_at p (Rests hand) = refl
