-- What a machine was started for stays, whatever it is told.
use Rattle.std.proofs.Common.{◌≡◌, ℕ, ◌==◌, ◌&&◌, Bool, true, false, List, [], ◌∷◌, Option, Some, None, refl, sym, ◌∙◌, ap, if◌then◌else◌}
use Rattle.flit_words.specs.Words.{is_tagged, bare_of}
use Rattle.flit_place.specs.Tags.{Place, shown}
use Rattle.flit_pv.specs.declared.queues.Noted.{Noted}
use Rattle.flit_pv.specs.Queues.{is_full}
use Rattle.flit_pv.specs.Hands.{with_persist, fenced_one}
use Rattle.flit_pv.specs.declared.loads.Loading.{Loading}
use Rattle.flit_pv.specs.declared.loads.Loading.TheVariants.{Reads as Load_reads, Asks, MakesRoom as Load_makes_room, Has}
use Rattle.flit_pv.specs.Loads.{HeldLoad, load_takes, load_reads, load_notes, load_omits, load_queues, load_room}
use Rattle.flit_pv.specs.declared.v_loads.VLoading.{VLoading}
use Rattle.flit_pv.specs.declared.v_loads.VLoading.TheVariants.{Reads as V_reads, Has as V_has}
use Rattle.flit_pv.specs.VLoads.{HeldVLoad, v_load_takes}
use Rattle.flit_pv.specs.declared.confirms.Confirming.{Confirming}
use Rattle.flit_pv.specs.declared.confirms.Confirming.TheVariants.{Begins, MakesRoom as Confirm_makes_room, Done as Confirm_done}
use Rattle.flit_pv.specs.Confirms.{HeldConfirm, confirm_takes, confirm_begun, confirm_notes, confirm_omits, confirm_queues, confirm_room}
use Rattle.flit_pv.specs.declared.exchanges.Exchanging.{Exchanging}
use Rattle.flit_pv.specs.declared.exchanges.Exchanging.TheVariants.{Ready, Tries, TriesBare, WritesBack, Withdraws, Lowers, Ended}
use Rattle.flit_pv.specs.Exchanges.{HeldExchange, exchange_takes, ready_takes, exchange_at, exchange_loses}
use Rattle.flit_pv.specs.declared.v_exchanges.VExchanging.{VExchanging}
use Rattle.flit_pv.specs.declared.v_exchanges.VExchanging.TheVariants.{Tries as V_tries, Ended as V_ended}
use Rattle.flit_pv.specs.VExchanges.{HeldVExchange, v_exchange_takes}
use Rattle.flit_pv.specs.declared.evicts.Evict.{Evict}
use Rattle.flit_pv.specs.declared.evicts.Evicting.{Evicting}
use Rattle.flit_pv.specs.declared.evicts.Evicting.TheVariants.{Reads as Evict_reads, WritesBack as Evict_writes_back, Done as Evict_done}
use Rattle.flit_pv.specs.Evicts.{evict_takes}
use Rattle.flit_runs.specs.Workings.{Working, Idles, Loads, VLoads, Confirms, Exchanges, VExchanges, Stores, Fences, Completes, Evicts, takes}
use Rattle.flit_crew.specs.Machines.{Machine, Works, Takes, Aim, AimsToLoad, working_aim, aim_of, machine_takes}

-- ---- loads and confirms

room_word : (m : HeldLoad) (raw : ℕ) (queue : List Noted) → (load_room m raw queue).word ≡ m.word
room_word m raw [] = refl
room_word m raw (n ∷ ns) = refl

notes_word : (m : HeldLoad) (raw : ℕ) (full : Bool) → (if full then load_room m raw m.hand.queue else load_queues m raw).word ≡ m.word
notes_word m raw true = room_word m raw m.hand.queue
notes_word m raw false = refl

judged_word : (m : HeldLoad) (raw : ℕ) (shows : Bool) → (if shows then load_notes m raw else load_omits m raw).word ≡ m.word
judged_word m raw true = notes_word m raw (is_full m.hand.queue)
judged_word m raw false = refl

read_word : (p : Place) (m : HeldLoad) (told : ℕ) (slot : Option ℕ) → (load_reads p m told slot).word ≡ m.word
read_word p m told None = judged_word m told (shown p.counted told None)
read_word p m told (Some slot) = refl

load_word : (p : Place) (m : HeldLoad) (t : Loading) (told : ℕ) → (load_takes p t m told).word ≡ m.word
load_word p m Load_reads told = read_word p m told (p.slot m.word)
load_word p m (Asks raw slot) told = judged_word m raw (shown p.counted raw (Some told))
load_word p m (Load_makes_room raw first) told = room_word (record m { hand = with_persist m.hand }) raw m.hand.queue
load_word p m (Has raw) told = refl

v_load_word : (m : HeldVLoad) (t : VLoading) (told : ℕ) → (v_load_takes t m told).word ≡ m.word
v_load_word m V_reads told = refl
v_load_word m (V_has raw) told = refl

abbrev confirm_aim : HeldConfirm → Aim
confirm_aim m = working_aim (Confirms m)

confirm_roomed : (m : HeldConfirm) (queue : List Noted) → confirm_aim (confirm_room m queue) ≡ confirm_aim m
confirm_roomed m [] = refl
confirm_roomed m (n ∷ ns) = refl

confirm_noted : (m : HeldConfirm) (full : Bool) → confirm_aim (if full then confirm_room m m.hand.queue else confirm_queues m) ≡ confirm_aim m
confirm_noted m true = confirm_roomed m m.hand.queue
confirm_noted m false = refl

confirm_judged : (m : HeldConfirm) (shows : Bool) → confirm_aim (if shows then confirm_notes m else confirm_omits m) ≡ confirm_aim m
confirm_judged m true = confirm_noted m (is_full m.hand.queue)
confirm_judged m false = refl

confirm_first : (p : Place) (m : HeldConfirm) (told : ℕ) (slot : Option ℕ) → confirm_aim (confirm_begun p m told slot) ≡ confirm_aim m
confirm_first p m told None = confirm_roomed (record m { hand = fenced_one m.hand m.hand.queue }) (fenced_one m.hand m.hand.queue).queue
confirm_first p m told (Some slot) = confirm_judged m (shown p.counted m.raw (Some told))

confirm_stays : (p : Place) (m : HeldConfirm) (t : Confirming) (told : ℕ) → confirm_aim (confirm_takes p t m told) ≡ confirm_aim m
confirm_stays p m Begins told = confirm_first p m told (p.slot m.word)
confirm_stays p m (Confirm_makes_room first) told = confirm_roomed (record m { hand = with_persist m.hand }) m.hand.queue
confirm_stays p m Confirm_done told = refl

-- ---- exchanges

abbrev exchange_aim : HeldExchange → Aim
exchange_aim m = working_aim (Exchanges m)

exchange_ready : (m : HeldExchange) (told : ℕ) (queue : List Noted) (slot : Option ℕ) → exchange_aim (ready_takes m told queue slot) ≡ exchange_aim m
exchange_ready m told (n ∷ ns) slot = refl
exchange_ready m told [] (Some slot) = refl
exchange_ready m told [] None = by_test (told == m.from) (is_tagged m.from && (told == bare_of m.from))
  where
    by_test : (t r : Bool) →
        exchange_aim (if t then exchange_at m WritesBack else (if r then exchange_at m TriesBare else exchange_loses m told)) ≡ exchange_aim m
    by_test true r = refl
    by_test false true = refl
    by_test false false = refl

exchange_stays : (p : Place) (m : HeldExchange) (t : Exchanging) (told : ℕ) → exchange_aim (exchange_takes p t m told) ≡ exchange_aim m
exchange_stays p m Ready told = exchange_ready m told m.hand.queue (p.slot m.word)
exchange_stays p m (Tries slot) told = refl
exchange_stays p m TriesBare told = by_test (told == bare_of m.from)
  where
    by_test : (t : Bool) → exchange_aim (if t then exchange_at m WritesBack else exchange_loses m told) ≡ exchange_aim m
    by_test true = refl
    by_test false = refl
exchange_stays p m WritesBack told = refl
exchange_stays p m Withdraws told = refl
exchange_stays p m (Lowers slot found) told = refl
exchange_stays p m (Ended how) told = refl

v_exchange_stays : (m : HeldVExchange) (t : VExchanging) (told : ℕ) → working_aim (VExchanges (v_exchange_takes t m told)) ≡ working_aim (VExchanges m)
v_exchange_stays m V_tries told = refl
v_exchange_stays m (V_ended how) told = refl

evict_word : (m : Evict) (t : Evicting) (told : ℕ) → (evict_takes t m told).word ≡ m.word
evict_word m Evict_reads told = refl
evict_word m (Evict_writes_back raw) told = refl
evict_word m Evict_done told = refl

-- ---- any machine

working_stays : (p : Place) (w : Working) (told : ℕ) → working_aim (takes p w told) ≡ working_aim w
working_stays p (Idles hand) told = refl
working_stays p (Loads m) told = ap AimsToLoad (load_word p m m.at told)
working_stays p (VLoads m) told = ap AimsToLoad (v_load_word m m.at told)
working_stays p (Confirms m) told = confirm_stays p m m.at told
working_stays p (Exchanges m) told = exchange_stays p m m.at told
working_stays p (VExchanges m) told = v_exchange_stays m m.at told
working_stays p (Stores m) told = refl
working_stays p (Fences m) told = refl
working_stays p (Completes m) told = refl
working_stays p (Evicts m) told = ap AimsToLoad (evict_word m m.at told)

pub aim_stays : (p : Place) (free : List ℕ) (m : Machine) (told : ℕ) → aim_of (machine_takes p free m told) ≡ aim_of m
aim_stays p free (Works w) told = working_stays p w told
aim_stays p free (Takes m) told = refl
