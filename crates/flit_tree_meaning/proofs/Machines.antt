-- What the machine of each phase asks and has in hand is what the code asks and has in hand there.
use Rattle.std.proofs.Common.{◌≡◌, ℕ, ◌&&◌, List, refl}
use Rattle.flit_place.specs.Tags.{Place}
use Rattle.flit_pv.specs.Exchanges.{HeldExchange}
use Rattle.flit_pv.specs.declared.exchanges.Exchanging.{Exchanging}
use Rattle.flit_pv.specs.declared.exchanges.Exchanging.TheVariants.{Ready, Tries, TriesBare, WritesBack, Withdraws, Lowers, Ended}
use Rattle.flit_runs.specs.Workings.{writing_at as working_writes}
use Rattle.flit_crew.specs.Machines.{machine_asks, machine_takes, machine_exchanges, working_in, hand_in, exchanges_now as crew_exchanges}
use Rattle.flit_tree_steps.specs.Operations.{At, Root, Key, Edge, Rows, LeafWords, LeafValue, InnerWords, Link, Flag, Sibling, Freeze, Swing, Value, Ends, Rests}
use Rattle.flit_tree_steps.specs.Steps.{asked_at, exchanges_now, effect_at, hand_at, writing_at, after_at}
use Rattle.flit_tree_laws.specs.TreeAnatomy.{machine_at, effects_at}

pub asks_at : (p : Place) (at : At) → machine_asks p (machine_at at) ≡ asked_at p at
asks_at p (Root m) = refl
asks_at p (Key m) = refl
asks_at p (Edge m) = refl
asks_at p (Rows m) = refl
asks_at p (LeafWords m) = refl
asks_at p (LeafValue m) = refl
asks_at p (InnerWords m) = refl
asks_at p (Link m) = refl
asks_at p (Flag m) = refl
asks_at p (Sibling clean_up m) = refl
asks_at p (Freeze clean_up m) = refl
asks_at p (Swing clean_up m) = refl
asks_at p (Value m) = refl
asks_at p (Ends m) = refl
asks_at p (Rests hand) = refl

pub has_hand : (at : At) → hand_in (machine_at at) ≡ hand_at at
has_hand (Root m) = refl
has_hand (Key m) = refl
has_hand (Edge m) = refl
has_hand (Rows m) = refl
has_hand (LeafWords m) = refl
has_hand (LeafValue m) = refl
has_hand (InnerWords m) = refl
has_hand (Link m) = refl
has_hand (Flag m) = refl
has_hand (Sibling clean_up m) = refl
has_hand (Freeze clean_up m) = refl
has_hand (Swing clean_up m) = refl
has_hand (Value m) = refl
has_hand (Ends m) = refl
has_hand (Rests hand) = refl

pub writes_at : (at : At) → working_writes (working_in (machine_at at)) ≡ writing_at at
writes_at (Root m) = refl
writes_at (Key m) = refl
writes_at (Edge m) = refl
writes_at (Rows m) = refl
writes_at (LeafWords m) = refl
writes_at (LeafValue m) = refl
writes_at (InnerWords m) = refl
writes_at (Link m) = refl
writes_at (Flag m) = refl
writes_at (Sibling clean_up m) = refl
writes_at (Freeze clean_up m) = refl
writes_at (Swing clean_up m) = refl
writes_at (Value m) = refl
writes_at (Ends m) = refl
writes_at (Rests hand) = refl

pub leaves_at : (p : Place) (free : List ℕ) (at : At) (told : ℕ) →
    hand_in (machine_takes p free (machine_at at) told) ≡ hand_at (after_at p free at told)
leaves_at p free (Root m) told = refl
leaves_at p free (Key m) told = refl
leaves_at p free (Edge m) told = refl
leaves_at p free (Rows m) told = refl
leaves_at p free (LeafWords m) told = refl
leaves_at p free (LeafValue m) told = refl
leaves_at p free (InnerWords m) told = refl
leaves_at p free (Link m) told = refl
leaves_at p free (Flag m) told = refl
leaves_at p free (Sibling clean_up m) told = refl
leaves_at p free (Freeze clean_up m) told = refl
leaves_at p free (Swing clean_up m) told = refl
leaves_at p free (Value m) told = refl
leaves_at p free (Ends m) told = refl
leaves_at p free (Rests hand) told = refl

-- the word is exchanged by the same events
same_exchange : (p : Place) (at : Exchanging) (m : HeldExchange) → crew_exchanges p at m ≡ exchanges_now p at m
same_exchange p Ready m = refl
same_exchange p (Tries slot) m = refl
same_exchange p TriesBare m = refl
same_exchange p WritesBack m = refl
same_exchange p Withdraws m = refl
same_exchange p (Lowers slot found) m = refl
same_exchange p (Ended how) m = refl

pub exchanges_at : (p : Place) (at : At) → (effects_at at && machine_exchanges p (machine_at at)) ≡ effect_at p at
exchanges_at p (Root m) = refl
exchanges_at p (Key m) = refl
exchanges_at p (Edge m) = refl
exchanges_at p (Rows m) = refl
exchanges_at p (LeafWords m) = refl
exchanges_at p (LeafValue m) = refl
exchanges_at p (InnerWords m) = refl
exchanges_at p (Link m) = same_exchange p m.at m
exchanges_at p (Flag m) = same_exchange p m.at m
exchanges_at p (Sibling clean_up m) = refl
exchanges_at p (Freeze clean_up m) = refl
exchanges_at p (Swing clean_up m) = refl
exchanges_at p (Value m) = refl
exchanges_at p (Ends m) = refl
exchanges_at p (Rests hand) = refl
