-- What one event of a machine makes of the counts of its hand: a write-back is counted, and no other event counts one; and
-- each load that is counted has queued its word or not.
use Rattle.std.proofs.Common.{◌≡◌, ℕ, eqb, ◌&&◌, Bool, true, false, List, [], ◌∷◌, Option, Some, None, refl, sym, subst, if◌then◌else◌}
use Rattle.std.proofs.lemmas.Option.{none-some, same_Some}
use Rattle.flit_words.specs.Words.{is_tagged, bare_of, version_of}
use Rattle.flit_model.specs.declared.events.Event.{Event}
use Rattle.flit_model.specs.declared.events.Event.TheVariants.{Load, ReadTag, Raise, Lower, Exchange, Persist, Store, Draw}
use Rattle.flit_model.specs.declared.calls.Tally.{Tally}
use Rattle.flit_place.specs.Tags.{Place, shown}
use Rattle.flit_pv.specs.declared.queues.Noted.{Noted}
use Rattle.flit_pv.specs.declared.hands.Hand.{Hand}
use Rattle.flit_pv.specs.declared.loads.Loading.{Loading}
use Rattle.flit_pv.specs.declared.loads.Loading.TheVariants.{Reads as Load_reads, Asks, MakesRoom as Load_makes_room, Has}
use Rattle.flit_pv.specs.declared.v_loads.VLoading.{VLoading}
use Rattle.flit_pv.specs.declared.v_loads.VLoading.TheVariants.{Reads as V_reads, Has as V_has}
use Rattle.flit_pv.specs.declared.confirms.Confirming.{Confirming}
use Rattle.flit_pv.specs.declared.confirms.Confirming.TheVariants.{Begins, MakesRoom as Confirm_makes_room, Done}
use Rattle.flit_pv.specs.declared.exchanges.Exchanging.{Exchanging}
use Rattle.flit_pv.specs.declared.exchanges.Exchanging.TheVariants.{Ready, Tries, TriesBare, WritesBack, Withdraws, Lowers, Ended}
use Rattle.flit_pv.specs.declared.v_exchanges.VExchanging.{VExchanging}
use Rattle.flit_pv.specs.declared.v_exchanges.VExchanging.TheVariants.{Tries as V_tries, Ended as V_ended}
use Rattle.flit_pv.specs.declared.stores.Storing.{Storing}
use Rattle.flit_pv.specs.declared.stores.Storing.TheVariants.{Reads as Store_reads, MakesRoom as Store_makes_room, Writes, Ended as Store_ended}
use Rattle.flit_pv.specs.declared.evicts.Evict.{Evict}
use Rattle.flit_pv.specs.declared.evicts.Evicting.{Evicting}
use Rattle.flit_pv.specs.declared.evicts.Evicting.TheVariants.{Reads as Evict_reads, WritesBack as Evict_writes_back, Done as Evict_done}
use Rattle.flit_pv.specs.Queues.{is_full, first_persist, persist_of}
use Rattle.flit_pv.specs.Hands.{more, with_persist, with_omitted, with_pair, with_queued, with_queue, with_failed, fenced_one}
use Rattle.flit_pv.specs.Loads.{HeldLoad, load_asks, load_takes, load_room, load_notes, load_omits, load_queues, load_reads}
use Rattle.flit_pv.specs.VLoads.{HeldVLoad, v_load_asks, v_load_takes}
use Rattle.flit_pv.specs.Confirms.{HeldConfirm, confirm_begins, confirm_asks, confirm_takes, confirm_begun, confirm_room, confirm_notes, confirm_omits, confirm_queues}
use Rattle.flit_pv.specs.Exchanges.{HeldExchange, exchange_asks, exchange_takes, exchange_loses, exchange_at, exchange_from, tries_again, ready_asks, ready_takes, withdraw_asks}
use Rattle.flit_pv.specs.VExchanges.{HeldVExchange, v_exchange_asks, v_exchange_takes}
use Rattle.flit_pv.specs.Drafts.{DraftWords, draft_read, is_worn}
use Rattle.flit_pv.specs.Stores.{HeldStore, store_asks, store_takes, store_room, store_next, store_goes_on, worn_at}
use Rattle.flit_pv.specs.Evicts.{evict_asks, evict_takes}
use Rattle.flit_pv.proofs.OneEvent.{store_goes_hand}
use Rattle.flit_rows.specs.declared.take_row.Taking.{Taking}
use Rattle.flit_rows.specs.declared.take_row.Taking.TheVariants.{Draws, Ended as Take_ended}
use Rattle.flit_rows.specs.Taking.{HeldTake, take_asks, take_takes}
use Rattle.flit_runs.specs.Workings as run
use Rattle.flit_runs.specs.Workings.{Working, Idles, Loads, VLoads, Confirms, Exchanges, VExchanges, Stores, Fences, Completes, Evicts}
use Rattle.flit_structure.specs.Lawful.{is_persist, AreLoadsSplit}
use Rattle.flit_crew.specs.Machines.{Machine, Works, Takes, machine_asks, machine_takes, hand_of, hand_in}
use Rattle.flit_crew_bounds.proofs.Splitting.{splits_left, splits_right}

-- one write-back is counted, or none; and loads that were split are
pub record Adds (back : Bool) (was now : Tally) : Type 0 where
  pub persists : now.persists ≡ (if back then more was.persists else was.persists)
  pub split : AreLoadsSplit was → AreLoadsSplit now

-- by the event that is asked
by_event : (was now : Tally) (x e : Event) → Some x ≡ Some e → Adds (is_persist x) was now → Adds (is_persist e) was now
by_event was now x e q k = subst (λ y. Adds (is_persist y) was now) (same_Some x e q) k

-- ---- hands

module _ (h : Hand) where
  stays : (queue : List Noted) → Adds false h.tally (with_queue h queue).tally
  stays queue = record { persists = refl; split = λ k. k }

  same : Adds false h.tally h.tally
  same = record { persists = refl; split = λ k. k }

  omits : Adds false h.tally (with_omitted h).tally
  omits = record { persists = refl; split = splits_left h.tally.loads h.tally.omitted h.tally.queued }

  queues : (word raw : ℕ) → Adds false h.tally (with_queued h word raw).tally
  queues word raw = record { persists = refl; split = splits_right h.tally.loads h.tally.omitted h.tally.queued }

  fails : Adds false h.tally (with_failed h).tally
  fails = record { persists = refl; split = λ k. k }

  pairs : (n : Noted) → Adds false h.tally (with_pair h n).tally
  pairs n = record { persists = refl; split = λ k. k }

  -- a pair was written back, and the queue is this now
  writes : (queue : List Noted) → Adds true h.tally (with_queue (with_persist h) queue).tally
  writes queue = record { persists = refl; split = λ k. k }

  -- and a word was queued then
  writes_queues : (queue : List Noted) (word raw : ℕ) → Adds true h.tally (with_queued (with_queue (with_persist h) queue) word raw).tally
  writes_queues queue word raw = record { persists = refl; split = splits_right h.tally.loads h.tally.omitted h.tally.queued }

  fences : (queue : List Noted) (e : Event) → first_persist queue ≡ Some e → Adds (is_persist e) h.tally (fenced_one h queue).tally
  fences [] e q = absurd (none-some e q)
  fences (n ∷ ns) e q = by_event _ _ (persist_of n) e q (writes ns)

-- ---- loads

load_room_adds : (h : Hand) (word raw : ℕ) (at : Loading) (queue : List Noted) →
    Adds false h.tally (load_room (record { hand = h; word = word; at = at }) raw queue).hand.tally
load_room_adds h word raw at [] = queues h word raw
load_room_adds h word raw at (n ∷ ns) = stays h ns

load_written_adds : (h : Hand) (word raw : ℕ) (at : Loading) (queue : List Noted) →
    Adds true h.tally (load_room (record { hand = with_persist h; word = word; at = at }) raw queue).hand.tally
load_written_adds h word raw at [] = writes_queues h h.queue word raw
load_written_adds h word raw at (n ∷ ns) = writes h ns

load_noted_adds : (h : Hand) (word raw : ℕ) (at : Loading) (full : Bool) → let m : HeldLoad = record { hand = h; word = word; at = at } in
    Adds false h.tally (if full then load_room m raw h.queue else load_queues m raw).hand.tally
load_noted_adds h word raw at true = load_room_adds h word raw at h.queue
load_noted_adds h word raw at false = queues h word raw

load_judged_adds : (h : Hand) (word raw : ℕ) (at : Loading) (shows : Bool) → let m : HeldLoad = record { hand = h; word = word; at = at } in
    Adds false h.tally (if shows then load_notes m raw else load_omits m raw).hand.tally
load_judged_adds h word raw at true = load_noted_adds h word raw at (is_full h.queue)
load_judged_adds h word raw at false = omits h

load_read_adds : (p : Place) (h : Hand) (word raw : ℕ) (at : Loading) (slot : Option ℕ) →
    Adds false h.tally (load_reads p (record { hand = h; word = word; at = at }) raw slot).hand.tally
load_read_adds p h word raw at None = load_judged_adds h word raw at (shown p.counted raw None)
load_read_adds p h word raw at (Some slot) = same h

load_adds : (p : Place) (h : Hand) (word told : ℕ) (at : Loading) (e : Event) → load_asks at (record { hand = h; word = word; at = at }) ≡ Some e →
    Adds (is_persist e) h.tally (load_takes p at (record { hand = h; word = word; at = at }) told).hand.tally
load_adds p h word told Load_reads e q = by_event _ _ (Load word) e q (load_read_adds p h word told Load_reads (p.slot word))
load_adds p h word told (Asks raw slot) e q = by_event _ _ (ReadTag slot) e q
    (load_judged_adds h word raw (Asks raw slot) (shown p.counted raw (Some told)))
load_adds p h word told (Load_makes_room raw first) e q = by_event _ _ (persist_of first) e q
    (load_written_adds h word raw (Load_makes_room raw first) h.queue)
load_adds p h word told (Has raw) e q = absurd (none-some e q)

v_load_adds : (m : HeldVLoad) (told : ℕ) (at : VLoading) (e : Event) → v_load_asks at m ≡ Some e →
    Adds (is_persist e) m.hand.tally (v_load_takes at m told).hand.tally
v_load_adds m told V_reads e q = by_event _ _ (Load m.word) e q (same m.hand)
v_load_adds m told (V_has raw) e q = absurd (none-some e q)

-- ---- a confirmation

confirm_room_adds : (h : Hand) (word raw : ℕ) (at : Confirming) (queue : List Noted) →
    Adds false h.tally (confirm_room (record { hand = h; word = word; raw = raw; at = at }) queue).hand.tally
confirm_room_adds h word raw at [] = queues h word raw
confirm_room_adds h word raw at (n ∷ ns) = stays h ns

confirm_written_adds : (h : Hand) (word raw : ℕ) (at : Confirming) (front queue : List Noted) →
    Adds true h.tally (confirm_room (record { hand = with_queue (with_persist h) front; word = word; raw = raw; at = at }) queue).hand.tally
confirm_written_adds h word raw at front [] = writes_queues h front word raw
confirm_written_adds h word raw at front (n ∷ ns) = writes h ns

confirm_noted_adds : (h : Hand) (word raw : ℕ) (at : Confirming) (full : Bool) →
    let m : HeldConfirm = record { hand = h; word = word; raw = raw; at = at } in
    Adds false h.tally (if full then confirm_room m h.queue else confirm_queues m).hand.tally
confirm_noted_adds h word raw at true = confirm_room_adds h word raw at h.queue
confirm_noted_adds h word raw at false = queues h word raw

confirm_judged_adds : (h : Hand) (word raw : ℕ) (at : Confirming) (shows : Bool) →
    let m : HeldConfirm = record { hand = h; word = word; raw = raw; at = at } in
    Adds false h.tally (if shows then confirm_notes m else confirm_omits m).hand.tally
confirm_judged_adds h word raw at true = confirm_noted_adds h word raw at (is_full h.queue)
confirm_judged_adds h word raw at false = omits h

-- without a slot its first event is the write-back of the first pair of a full queue
confirm_fenced_adds : (h : Hand) (word raw : ℕ) (at : Confirming) (queue : List Noted) (full : Bool) (e : Event) →
    (if full then first_persist queue else None) ≡ Some e →
    Adds (is_persist e) h.tally (let hand = fenced_one h queue in confirm_room (record { hand = hand; word = word; raw = raw; at = at }) hand.queue).hand.tally
confirm_fenced_adds h word raw at queue false e q = absurd (none-some e q)
confirm_fenced_adds h word raw at [] true e q = absurd (none-some e q)
confirm_fenced_adds h word raw at (n ∷ ns) true e q = by_event _ _ (persist_of n) e q (confirm_written_adds h word raw at ns ns)

confirm_begun_adds : (p : Place) (h : Hand) (word raw told : ℕ) (at : Confirming) (slot : Option ℕ) (e : Event) →
    confirm_begins p (record { hand = h; word = word; raw = raw; at = at }) slot ≡ Some e →
    Adds (is_persist e) h.tally (confirm_begun p (record { hand = h; word = word; raw = raw; at = at }) told slot).hand.tally
confirm_begun_adds p h word raw told at None e q = confirm_fenced_adds h word raw at h.queue (shown p.counted raw None && is_full h.queue) e q
confirm_begun_adds p h word raw told at (Some slot) e q = by_event _ _ (ReadTag slot) e q
    (confirm_judged_adds h word raw at (shown p.counted raw (Some told)))

confirm_adds : (p : Place) (h : Hand) (word raw told : ℕ) (at : Confirming) (e : Event) →
    confirm_asks p at (record { hand = h; word = word; raw = raw; at = at }) ≡ Some e →
    Adds (is_persist e) h.tally (confirm_takes p at (record { hand = h; word = word; raw = raw; at = at }) told).hand.tally
confirm_adds p h word raw told Begins e q = confirm_begun_adds p h word raw told Begins (p.slot word) e q
confirm_adds p h word raw told (Confirm_makes_room first) e q = by_event _ _ (persist_of first) e q
    (confirm_written_adds h word raw (Confirm_makes_room first) h.queue h.queue)
confirm_adds p h word raw told Done e q = absurd (none-some e q)

-- ---- exchanges

exchange_again_adds : (m : HeldExchange) (found : ℕ) (again : Bool) →
    Adds false m.hand.tally (if again then exchange_at m TriesBare else exchange_loses m found).hand.tally
exchange_again_adds m found true = same m.hand
exchange_again_adds m found false = fails m.hand

exchange_tried_adds : (m : HeldExchange) (told : ℕ) (won : Bool) →
    Adds false m.hand.tally (if won then exchange_at m WritesBack else tries_again m told).hand.tally
exchange_tried_adds m told true = same m.hand
exchange_tried_adds m told false = exchange_again_adds m told (is_tagged m.from && eqb told (bare_of m.from))

exchange_bare_adds : (m : HeldExchange) (told : ℕ) (won : Bool) →
    Adds false m.hand.tally (if won then exchange_at m WritesBack else exchange_loses m told).hand.tally
exchange_bare_adds m told true = same m.hand
exchange_bare_adds m told false = fails m.hand

ready_adds : (p : Place) (m : HeldExchange) (told : ℕ) (queue : List Noted) (slot : Option ℕ) (e : Event) → Some (ready_asks p m queue slot) ≡ Some e →
    Adds (is_persist e) m.hand.tally (ready_takes m told queue slot).hand.tally
ready_adds p m told (n ∷ ns) slot e q = by_event _ _ (persist_of n) e q (writes m.hand ns)
ready_adds p m told [] (Some slot) e q = by_event _ _ (Raise slot) e q (same m.hand)
ready_adds p m told [] None e q = by_event _ _ (exchange_from p m m.from) e q (exchange_tried_adds m told (eqb told m.from))

withdrawn_adds : (p : Place) (m : HeldExchange) (slot : Option ℕ) (e : Event) → Some (withdraw_asks p m slot) ≡ Some e →
    Adds (is_persist e) m.hand.tally m.hand.tally
withdrawn_adds p m (Some slot) e q = by_event _ _ (Lower slot) e q (same m.hand)
withdrawn_adds p m None e q = by_event _ _ (withdraw_asks p m None) e q (same m.hand)

exchange_adds : (p : Place) (m : HeldExchange) (told : ℕ) (at : Exchanging) (e : Event) → exchange_asks p at m ≡ Some e →
    Adds (is_persist e) m.hand.tally (exchange_takes p at m told).hand.tally
exchange_adds p m told Ready e q = ready_adds p m told m.hand.queue (p.slot m.word) e q
exchange_adds p m told (Tries slot) e q = by_event _ _ (exchange_from p m m.from) e q (same m.hand)
exchange_adds p m told TriesBare e q = by_event _ _ (exchange_from p m (bare_of m.from)) e q (exchange_bare_adds m told (eqb told (bare_of m.from)))
exchange_adds p m told WritesBack e q = by_event _ _ (Persist m.word m.to) e q (writes m.hand m.hand.queue)
exchange_adds p m told Withdraws e q = withdrawn_adds p m (p.slot m.word) e q
exchange_adds p m told (Lowers slot found) e q = by_event _ _ (Lower slot) e q (fails m.hand)
exchange_adds p m told (Ended how) e q = absurd (none-some e q)

v_exchange_adds : (m : HeldVExchange) (told : ℕ) (at : VExchanging) (e : Event) → v_exchange_asks at m ≡ Some e →
    Adds (is_persist e) m.hand.tally (v_exchange_takes at m told).hand.tally
v_exchange_adds m told V_tries e q = by_event _ _ (Exchange m.word m.from m.to) e q (same m.hand)
v_exchange_adds m told (V_ended how) e q = absurd (none-some e q)

-- ---- stores

by_hand : (back : Bool) (h : Hand) (m : HeldStore) (x : Hand) → m.hand ≡ x → Adds back h.tally x.tally → Adds back h.tally m.hand.tally
by_hand back h m x e k = subst (λ y. Adds back h.tally y.tally) (sym e) k

next_hand : (m : HeldStore) (ready : List Noted) → (store_next m ready).hand ≡ m.hand
next_hand m [] = refl
next_hand m (n ∷ ns) = refl

store_room_adds : (h : Hand) (d : DraftWords) (at : Storing) (next : Noted) (front queue : List Noted) →
    Adds true h.tally (store_room (record { hand = with_queue (with_persist h) front; drafts = d; at = at }) next queue).hand.tally
store_room_adds h d at next front [] = writes h front
store_room_adds h d at next front (n ∷ ns) = writes h ns

store_full_adds : (h : Hand) (d : DraftWords) (next : Noted) (queue : List Noted) (e : Event) → first_persist queue ≡ Some e →
    Adds (is_persist e) h.tally
    (let hand = fenced_one h queue in store_room (record { hand = hand; drafts = d; at = Writes next }) next hand.queue).hand.tally
store_full_adds h d next [] e q = absurd (none-some e q)
store_full_adds h d next (n ∷ ns) e q = by_event _ _ (persist_of n) e q (store_room_adds h d (Writes next) next ns ns)

store_written_adds : (h : Hand) (d : DraftWords) (next : Noted) (full : Bool) (e : Event) →
    let m : HeldStore = record { hand = h; drafts = d; at = Writes next } in
    (if full then first_persist h.queue else Some (Store next.word next.kept)) ≡ Some e →
    Adds (is_persist e) h.tally (if full then (let hand = fenced_one h h.queue in store_room (record m { hand = hand }) next hand.queue)
    else store_next (record m { hand = with_pair h next }) d.ready).hand.tally
store_written_adds h d next true e q = store_full_adds h d next h.queue e q
store_written_adds h d next false e q =
    let m : HeldStore = record { hand = with_pair h next; drafts = d; at = Writes next } in
    by_event _ _ (Store next.word next.kept) e q (by_hand false h (store_next m d.ready) (with_pair h next) (next_hand m d.ready) (pairs h next))

store_adds : (h : Hand) (d : DraftWords) (told : ℕ) (at : Storing) (e : Event) → store_asks at (record { hand = h; drafts = d; at = at }) ≡ Some e →
    Adds (is_persist e) h.tally (store_takes at (record { hand = h; drafts = d; at = at }) told).hand.tally
store_adds h d told (Store_reads how) e q =
    let drafts = draft_read d told d.values in
    let m : HeldStore = record { hand = h; drafts = drafts; at = Store_reads how } in
    let now = if is_worn d told then worn_at how d.word (version_of told) else how in
    by_event _ _ (Load d.word) e q (by_hand false h (store_goes_on m now drafts.values) h (store_goes_hand m now drafts.values) (same h))
store_adds h d told (Writes next) e q = store_written_adds h d next (is_full h.queue) e q
store_adds h d told (Store_makes_room next first) e q = by_event _ _ (persist_of first) e q
    (store_room_adds h d (Store_makes_room next first) next h.queue h.queue)
store_adds h d told (Store_ended how) e q = absurd (none-some e q)

-- ---- evicts, and all machines

evict_adds : (m : Evict) (told : ℕ) (at : Evicting) (e : Event) → evict_asks at m ≡ Some e →
    Adds (is_persist e) m.hand.tally (evict_takes at m told).hand.tally
evict_adds m told Evict_reads e q = by_event _ _ (Load m.word) e q (same m.hand)
evict_adds m told (Evict_writes_back raw) e q = by_event _ _ (Persist m.word (bare_of raw)) e q (writes m.hand m.hand.queue)
evict_adds m told Evict_done e q = absurd (none-some e q)

take_adds : (free : List ℕ) (m : HeldTake) (told : ℕ) (at : Taking) (e : Event) → take_asks at ≡ Some e →
    Adds (is_persist e) m.hand.tally (take_takes free at m told).hand.tally
take_adds free m told Draws e q = by_event _ _ Draw e q (same m.hand)
take_adds free m told (Take_ended took) e q = absurd (none-some e q)

working_adds : (p : Place) (w : Working) (told : ℕ) (e : Event) → run.asks p w ≡ Some e →
    Adds (is_persist e) (hand_of w).tally (hand_of (run.takes p w told)).tally
working_adds p (Idles hand) told e q = absurd (none-some e q)
working_adds p (Loads m) told e q = load_adds p m.hand m.word told m.at e q
working_adds p (VLoads m) told e q = v_load_adds m told m.at e q
working_adds p (Confirms m) told e q = confirm_adds p m.hand m.word m.raw told m.at e q
working_adds p (Exchanges m) told e q = exchange_adds p m told m.at e q
working_adds p (VExchanges m) told e q = v_exchange_adds m told m.at e q
working_adds p (Stores m) told e q = store_adds m.hand m.drafts told m.at e q
working_adds p (Fences m) told e q = fences m.hand m.hand.queue e q
working_adds p (Completes m) told e q = fences m.fence.hand m.fence.hand.queue e q
working_adds p (Evicts m) told e q = evict_adds m told m.at e q

pub machine_adds : (p : Place) (free : List ℕ) (m : Machine) (told : ℕ) (e : Event) → machine_asks p m ≡ Some e →
    Adds (is_persist e) (hand_in m).tally (hand_in (machine_takes p free m told)).tally
machine_adds p free (Works w) told e q = working_adds p w told e q
machine_adds p free (Takes m) told e q = take_adds free m told m.at e q
