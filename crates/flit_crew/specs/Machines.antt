-- The machine that an operation is in: one of the P-V Interface, or a TakeRow. What it asks, what an answer makes of it,
-- the hand in it, and how far it is, as a structure looks at it.
use Rattle.std.specs.Prelude.{◌≡◌, ◌≢◌, ℕ, ◌&&◌, Bool, true, false, not, List, [], ◌∷◌, Option, None, is_none}
use Rattle.flit_words.specs.Words.{is_tagged}
use Rattle.flit_model.specs.declared.events.Event.{Event}
use Rattle.flit_place.specs.Tags.{Place}
use Rattle.flit_pv.specs.declared.hands.Hand.{Hand}
use Rattle.flit_pv.specs.declared.loads.Loading.{Loading}
use Rattle.flit_pv.specs.declared.loads.Loading.TheVariants.{Reads as Load_reads, Asks, MakesRoom as Load_makes_room, Has}
use Rattle.flit_pv.specs.declared.v_loads.VLoading.{VLoading}
use Rattle.flit_pv.specs.declared.v_loads.VLoading.TheVariants.{Reads as V_reads, Has as V_has}
use Rattle.flit_pv.specs.Confirms.{HeldConfirm}
use Rattle.flit_pv.specs.declared.confirms.Confirming.{Confirming}
use Rattle.flit_pv.specs.declared.confirms.Confirming.TheVariants.{Begins, MakesRoom as Confirm_makes_room, Done}
use Rattle.flit_pv.specs.Exchanges.{HeldExchange}
use Rattle.flit_pv.specs.declared.exchanges.Exchanging.{Exchanging}
use Rattle.flit_pv.specs.declared.exchanges.Exchanging.TheVariants.{Ready, Tries, TriesBare, WritesBack, Withdraws, Lowers, Ended}
use Rattle.flit_pv.specs.declared.exchanges.Exchanged.{Exchanged}
use Rattle.flit_pv.specs.declared.exchanges.Exchanged.TheVariants.{Won as Exchange_won, Lost, Worn}
use Rattle.flit_pv.specs.Queues.{is_nil}
use Rattle.flit_rows.specs.Taking.{HeldTake}
use Rattle.flit_rows.specs.Taking.{take_asked, take_taken}
use Rattle.flit_runs.specs.Workings.{Working, Idles, Loads, VLoads, Confirms, Exchanges, VExchanges, Stores, Fences, Completes, Evicts, asks, takes}

pub data Machine : Type 0 where
  Works : Working → Machine
  Takes : HeldTake → Machine

abbrev pub machine_asks : Place → Machine → Option Event
machine_asks p (Works w) = asks p w
machine_asks p (Takes m) = take_asked m

abbrev pub machine_takes : Place → List ℕ → Machine → ℕ → Machine
machine_takes p free (Works w) told = Works (takes p w told)
machine_takes p free (Takes m) told = Takes (take_taken free m told)

-- as the world of machines sees it: who draws a row is at rest there
abbrev pub working_in : Machine → Working
working_in (Works w) = w
working_in (Takes m) = Idles m.hand

-- the hand in it
abbrev pub hand_of : Working → Hand
hand_of (Idles hand) = hand
hand_of (Loads m) = m.hand
hand_of (VLoads m) = m.hand
hand_of (Confirms m) = m.hand
hand_of (Exchanges m) = m.hand
hand_of (VExchanges m) = m.hand
hand_of (Stores m) = m.hand
hand_of (Fences m) = m.hand
hand_of (Completes m) = m.fence.hand
hand_of (Evicts m) = m.hand

abbrev pub hand_in : Machine → Hand
hand_in m = hand_of (working_in m)

-- a Complete is a call's last machine: it stays where it has ended
abbrev pub is_complete : Working → Bool
is_complete (Idles hand) = false
is_complete (Loads m) = false
is_complete (VLoads m) = false
is_complete (Confirms m) = false
is_complete (Exchanges m) = false
is_complete (VExchanges m) = false
is_complete (Stores m) = false
is_complete (Fences m) = false
is_complete (Completes m) = true
is_complete (Evicts m) = false

abbrev pub has_ended : Place → Machine → Bool
has_ended p m = is_none (machine_asks p m) && not (is_complete (working_in m))

-- the word that a VLoad is to load
abbrev pub v_reads_for : VLoading → ℕ → List ℕ
v_reads_for V_reads word = word ∷ []
v_reads_for (V_has raw) word = []

abbrev pub reads_for : Working → List ℕ
reads_for (Idles hand) = []
reads_for (Loads m) = []
reads_for (VLoads m) = v_reads_for m.at m.word
reads_for (Confirms m) = []
reads_for (Exchanges m) = []
reads_for (VExchanges m) = []
reads_for (Stores m) = []
reads_for (Fences m) = []
reads_for (Completes m) = []
reads_for (Evicts m) = []

-- ---- how far it is, as a structure looks at it: what a structure knows changes only where this does

pub data Part : Type 0 where
  -- its word is not yet loaded; or it was loaded so, and only its tag and the queue are still to be dealt with
  ToRead : (word : ℕ) → Part
  HasRead : (word raw : ℕ) → Part
  -- its word is not yet exchanged; it was, and isn't written back; it is written back; it was lost
  ToWin : Part
  HasWon : Part
  HasWritten : Part
  HasLost : ℕ → Part
  -- no fact of a structure's hangs on how far it is
  Other : Part

abbrev pub load_part : Loading → ℕ → Part
load_part Load_reads word = ToRead word
load_part (Asks raw slot) word = HasRead word raw
load_part (Load_makes_room raw first) word = HasRead word raw
load_part (Has raw) word = HasRead word raw

abbrev pub v_load_part : VLoading → ℕ → Part
v_load_part V_reads word = ToRead word
v_load_part (V_has raw) word = HasRead word raw

abbrev pub ended_part : Exchanged → Part
ended_part Exchange_won = HasWritten
ended_part (Lost found) = HasLost found
ended_part (Worn word version) = ToWin

abbrev pub exchange_part : Exchanging → Part
exchange_part Ready = ToWin
exchange_part (Tries slot) = ToWin
exchange_part TriesBare = ToWin
exchange_part WritesBack = HasWon
exchange_part Withdraws = HasWritten
exchange_part (Lowers slot found) = HasLost found
exchange_part (Ended how) = ended_part how

abbrev pub working_part : Working → Part
working_part (Idles hand) = Other
working_part (Loads m) = load_part m.at m.word
working_part (VLoads m) = v_load_part m.at m.word
working_part (Confirms m) = Other
working_part (Exchanges m) = exchange_part m.at
working_part (VExchanges m) = Other
working_part (Stores m) = Other
working_part (Fences m) = Other
working_part (Completes m) = Other
working_part (Evicts m) = Other

abbrev pub part_of : Machine → Part
part_of (Works w) = working_part w
part_of (Takes m) = Other

-- ---- what it was started for, which no event changes

pub data Aim : Type 0 where
  AimsToLoad : (word : ℕ) → Aim
  AimsToConfirm : (word raw : ℕ) → Aim
  AimsToExchange : (word from to : ℕ) → Aim
  Aimless : Aim

abbrev pub working_aim : Working → Aim
working_aim (Idles hand) = Aimless
working_aim (Loads m) = AimsToLoad m.word
working_aim (VLoads m) = AimsToLoad m.word
working_aim (Confirms m) = AimsToConfirm m.word m.raw
working_aim (Exchanges m) = AimsToExchange m.word m.from m.to
working_aim (VExchanges m) = AimsToExchange m.word m.from m.to
working_aim (Stores m) = Aimless
working_aim (Fences m) = Aimless
working_aim (Completes m) = Aimless
working_aim (Evicts m) = AimsToLoad m.word

abbrev pub aim_of : Machine → Aim
aim_of (Works w) = working_aim w
aim_of (Takes m) = Aimless

-- ---- by the event asked its word is exchanged

abbrev pub exchanges_now : Place → Exchanging → HeldExchange → Bool
exchanges_now p Ready m = is_nil m.hand.queue && is_none (p.slot m.word)
exchanges_now p (Tries slot) m = true
exchanges_now p TriesBare m = true
exchanges_now p WritesBack m = false
exchanges_now p Withdraws m = false
exchanges_now p (Lowers slot found) m = false
exchanges_now p (Ended how) m = false

abbrev pub working_exchanges : Place → Working → Bool
working_exchanges p (Idles hand) = false
working_exchanges p (Loads m) = false
working_exchanges p (VLoads m) = false
working_exchanges p (Confirms m) = false
working_exchanges p (Exchanges m) = exchanges_now p m.at m
working_exchanges p (VExchanges m) = false
working_exchanges p (Stores m) = false
working_exchanges p (Fences m) = false
working_exchanges p (Completes m) = false
working_exchanges p (Evicts m) = false

abbrev pub machine_exchanges : Place → Machine → Bool
machine_exchanges p (Works w) = working_exchanges p w
machine_exchanges p (Takes m) = false

-- ---- how far a call's update is, where its exchange makes one

-- it isn't made; a word that its worker has exchanged holds it; that word is written back
pub data Deed : Type 0 where
  Fresh : Deed
  Making : (word to : ℕ) → Deed
  Made : Deed

abbrev pub ended_deed : Exchanged → Deed
ended_deed Exchange_won = Made
ended_deed (Lost found) = Fresh
ended_deed (Worn word version) = Fresh

abbrev pub exchange_deed : Exchanging → HeldExchange → Deed
exchange_deed Ready m = Fresh
exchange_deed (Tries slot) m = Fresh
exchange_deed TriesBare m = Fresh
exchange_deed WritesBack m = Making m.word m.to
exchange_deed Withdraws m = Made
exchange_deed (Lowers slot found) m = Fresh
exchange_deed (Ended how) m = ended_deed how

abbrev pub working_deed : Working → Deed
working_deed (Idles hand) = Fresh
working_deed (Loads m) = Fresh
working_deed (VLoads m) = Fresh
working_deed (Confirms m) = Fresh
working_deed (Exchanges m) = exchange_deed m.at m
working_deed (VExchanges m) = Fresh
working_deed (Stores m) = Fresh
working_deed (Fences m) = Fresh
working_deed (Completes m) = Fresh
working_deed (Evicts m) = Fresh

abbrev pub deed_of : Machine → Deed
deed_of (Works w) = working_deed w
deed_of (Takes m) = Fresh

-- its rows are linked then
abbrev pub has_linked : Deed → Bool
has_linked Fresh = false
has_linked (Making word to) = true
has_linked Made = true

-- it waits at this word, as long as nobody has written it back
abbrev pub MakesAt : Deed → ℕ → Type 0
MakesAt Fresh word = ⊥
MakesAt (Making x to) word = x ≡ word
MakesAt Made word = ⊥

-- ---- tags

-- an exchange under way has written this bare word, and not yet cleared its tag
abbrev pub ExchangeTags : ℕ → ℕ → Exchanging → HeldExchange → Type 0
ExchangeTags word bare Ready m = ⊥
ExchangeTags word bare (Tries slot) m = ⊥
ExchangeTags word bare TriesBare m = ⊥
ExchangeTags word bare WritesBack m = (m.word ≡ word) × (m.to ≡ bare)
ExchangeTags word bare Withdraws m = (m.word ≡ word) × (m.to ≡ bare)
ExchangeTags word bare (Lowers slot found) m = ⊥
ExchangeTags word bare (Ended how) m = ⊥

abbrev pub Tags : ℕ → ℕ → Working → Type 0
Tags word bare (Idles hand) = ⊥
Tags word bare (Loads m) = ⊥
Tags word bare (VLoads m) = ⊥
Tags word bare (Confirms m) = ⊥
Tags word bare (Exchanges m) = ExchangeTags word bare m.at m
Tags word bare (VExchanges m) = ⊥
Tags word bare (Stores m) = ⊥
Tags word bare (Fences m) = ⊥
Tags word bare (Completes m) = ⊥
Tags word bare (Evicts m) = ⊥

-- no tag has shown to it, nor will one of the word that it confirms: so it queues no word
abbrev pub IsUnroomed : Loading → Type 0
IsUnroomed Load_reads = Unit {0}
IsUnroomed (Asks raw slot) = Unit {0}
IsUnroomed (Load_makes_room raw first) = ⊥
IsUnroomed (Has raw) = Unit {0}

abbrev pub ConfirmsUntagged : Place → Confirming → HeldConfirm → Type 0
ConfirmsUntagged p Begins m = (p.counted ≡ false → is_tagged m.raw ≡ false) × (p.counted ≡ true → p.slot m.word ≢ None)
ConfirmsUntagged p (Confirm_makes_room first) m = ⊥
ConfirmsUntagged p Done m = Unit {0}

abbrev pub SeesNoTag : Place → Working → Type 0
SeesNoTag p (Idles hand) = Unit {0}
SeesNoTag p (Loads m) = IsUnroomed m.at
SeesNoTag p (VLoads m) = Unit {0}
SeesNoTag p (Confirms m) = ConfirmsUntagged p m.at m
SeesNoTag p (Exchanges m) = Unit {0}
SeesNoTag p (VExchanges m) = Unit {0}
SeesNoTag p (Stores m) = Unit {0}
SeesNoTag p (Fences m) = Unit {0}
SeesNoTag p (Completes m) = Unit {0}
SeesNoTag p (Evicts m) = Unit {0}
