-- What one event of each instruction makes of the hand.
use Rattle.std.proofs.Common.{◌≡◌, inl, inr, ℕ, ◌+◌, ◌-◌, ◌^◌, ◌≤◌, ⊎_elim, min, eqb, ◌&&◌, Bool, true, false, List, [], ◌∷◌, ◌++◌, Option, Some, None, refl, ap, arith, if◌then◌else◌}
use Rattle.flit_words.specs.Words.{is_tagged, bare_of, version_of}
use Rattle.flit_model.specs.declared.calls.Tally.{Tally}
use Rattle.flit_place.specs.Tags.{Place, shown}
use Rattle.flit_pv.specs.declared.queues.Noted.{Noted}
use Rattle.flit_pv.specs.declared.hands.Hand.{Hand}
use Rattle.flit_pv.specs.declared.loads.Loading.{Loading}
use Rattle.flit_pv.specs.declared.loads.Loading.TheVariants.{Reads as Load_reads, Asks, MakesRoom as Load_makes_room, Has}
use Rattle.flit_pv.specs.declared.v_loads.VLoading.{VLoading}
use Rattle.flit_pv.specs.declared.v_loads.VLoading.TheVariants.{Reads as V_reads, Has as V_has}
use Rattle.flit_pv.specs.declared.confirms.Confirming.{Confirming}
use Rattle.flit_pv.specs.declared.confirms.Confirming.TheVariants.{Begins, MakesRoom as Confirm_makes_room, Done}
use Rattle.flit_pv.specs.declared.exchanges.Exchanging.{Exchanging}
use Rattle.flit_pv.specs.declared.exchanges.Exchanging.TheVariants.{Ready, Tries, TriesBare, WritesBack, Withdraws, Lowers, Ended}
use Rattle.flit_pv.specs.declared.v_exchanges.VExchanging.{VExchanging}
use Rattle.flit_pv.specs.declared.v_exchanges.VExchanging.TheVariants.{Tries as V_tries, Ended as V_ended}
use Rattle.flit_pv.specs.declared.stores.Storing.{Storing}
use Rattle.flit_pv.specs.declared.stores.Storing.TheVariants.{Reads as Store_reads, MakesRoom as Store_makes_room, Writes, Ended as Store_ended}
use Rattle.flit_pv.specs.declared.stores.Stored.{Stored}
use Rattle.flit_pv.specs.declared.stores.Stored.TheVariants.{Stored as All_stored, Worn as Store_worn}
use Rattle.flit_pv.specs.declared.evicts.Evict.{Evict}
use Rattle.flit_pv.specs.declared.evicts.Evicting.{Evicting}
use Rattle.flit_pv.specs.declared.evicts.Evicting.TheVariants.{Reads as Evict_reads, WritesBack as Evict_writes_back, Done as Evict_done}
use Rattle.flit_pv.specs.Queues.{is_full, noted}
use Rattle.flit_pv.specs.Hands.{more, with_persist, with_omitted, with_pair, with_queued, with_queue, with_failed, fenced_one}
use Rattle.flit_pv.specs.Tallies.{IsTally, Counts, Tallies, GoesOn}
use Rattle.flit_pv.specs.Loads.{HeldLoad, load_takes, load_taken, load_room, load_notes, load_omits, load_queues, load_judges, load_reads}
use Rattle.flit_pv.specs.VLoads.{HeldVLoad, v_load_takes, v_load_taken}
use Rattle.flit_pv.specs.Confirms.{HeldConfirm, confirm_takes, confirm_taken, confirm_begun, confirm_room, confirm_notes, confirm_omits, confirm_queues, confirm_judges, confirm_leaves, confirm_left}
use Rattle.flit_pv.specs.Exchanges.{HeldExchange, exchange_takes, exchange_taken, exchange_loses, exchange_at, tries_again, ready_takes}
use Rattle.flit_pv.specs.VExchanges.{HeldVExchange, v_exchange_takes, v_exchange_taken}
use Rattle.flit_pv.specs.Drafts.{DraftWords, draft_read, is_worn}
use Rattle.flit_pv.specs.Stores.{HeldStore, store_takes, store_taken, store_reads, store_room, store_next, store_written, store_decides, store_goes_on, worn_at}
use Rattle.flit_pv.specs.Fences.{HeldFence, HeldComplete, fence_taken, complete_taken}
use Rattle.flit_pv.specs.Evicts.{evict_takes, evict_taken}

-- ---- counts

-- a count that stays or counts one more doesn't fall, rises by one at most, and doesn't pass its top
pub counts_up : (was now : ℕ) → was ≤ 2 ^ 64 - 1 → Counts was now → (was ≤ now) × (now ≤ was + 1)
counts_up was now top h = ⊎_elim (λ e. (omega (arith, e), omega (arith, e))) (λ e. (omega (arith, top, e), omega (arith, e))) h

pub counts_within : (was now : ℕ) → was ≤ 2 ^ 64 - 1 → Counts was now → now ≤ 2 ^ 64 - 1
counts_within was now top h = ⊎_elim (λ e. omega (arith, top, e)) (λ e. omega (arith, e)) h

pub tallies_same : (t : Tally) → Tallies t t
tallies_same t = record { loads = inl refl; omitted = inl refl; queued = inl refl; persists = inl refl; failed = inl refl; helped = inl refl; tries = inl refl }

pub tallies_within : (was now : Tally) → IsTally was → Tallies was now → IsTally now
tallies_within was now t h = record {
  loads = counts_within was.loads now.loads t.loads h.loads;
  omitted = counts_within was.omitted now.omitted t.omitted h.omitted;
  queued = counts_within was.queued now.queued t.queued h.queued;
  persists = counts_within was.persists now.persists t.persists h.persists;
  failed = counts_within was.failed now.failed t.failed h.failed;
  helped = counts_within was.helped now.helped t.helped h.helped;
  tries = counts_within was.tries now.tries t.tries h.tries;
}

-- ---- hands

-- a hand with another queue, and these counts
module _ (h : Hand) where
  stays : (queue : List Noted) → GoesOn h (with_queue h queue)
  stays queue = record { name = refl; number = refl; ticket = refl; spare = refl; tally = tallies_same h.tally; helped = refl; tries = refl }

  pub goes_same : GoesOn h h
  goes_same = stays h.queue

  goes_paired : (n : Noted) → GoesOn h (with_pair h n)
  goes_paired n = stays (h.queue ++ n ∷ [])

  goes_omitted : GoesOn h (with_omitted h)
  goes_omitted = record {
    name = refl;
    number = refl;
    ticket = refl;
    spare = refl;
    helped = refl;
    tries = refl;
    tally =
        record { loads = inr refl; omitted = inr refl; queued = inl refl; persists = inl refl; failed = inl refl; helped = inl refl; tries = inl refl };
  }

  goes_queued : (word raw : ℕ) → GoesOn h (with_queued h word raw)
  goes_queued word raw = record {
    name = refl;
    number = refl;
    ticket = refl;
    spare = refl;
    helped = refl;
    tries = refl;
    tally =
        record { loads = inr refl; omitted = inl refl; queued = inr refl; persists = inl refl; failed = inl refl; helped = inl refl; tries = inl refl };
  }

  goes_failed : GoesOn h (with_failed h)
  goes_failed = record {
    name = refl;
    number = refl;
    ticket = refl;
    spare = refl;
    helped = refl;
    tries = refl;
    tally =
        record { loads = inl refl; omitted = inl refl; queued = inl refl; persists = inl refl; failed = inr refl; helped = inl refl; tries = inl refl };
  }

  -- a pair was written back, and the queue is this now
  goes_written : (queue : List Noted) → GoesOn h (with_queue (with_persist h) queue)
  goes_written queue = record {
    name = refl;
    number = refl;
    ticket = refl;
    spare = refl;
    helped = refl;
    tries = refl;
    tally =
        record { loads = inl refl; omitted = inl refl; queued = inl refl; persists = inr refl; failed = inl refl; helped = inl refl; tries = inl refl };
  }

  -- and a word was queued then
  goes_written_queued : (queue : List Noted) (word raw : ℕ) → GoesOn h (with_queued (with_queue (with_persist h) queue) word raw)
  goes_written_queued queue word raw = record {
    name = refl;
    number = refl;
    ticket = refl;
    spare = refl;
    helped = refl;
    tries = refl;
    tally =
        record { loads = inr refl; omitted = inl refl; queued = inr refl; persists = inr refl; failed = inl refl; helped = inl refl; tries = inl refl };
  }

  pub goes_fenced : (queue : List Noted) → GoesOn h (fenced_one h queue)
  goes_fenced [] = goes_same
  goes_fenced (n ∷ ns) = goes_written ns

-- ---- loads

load_room_goes : (h : Hand) (word raw : ℕ) (at : Loading) (queue : List Noted) → GoesOn h (load_room (record { hand = h; word = word; at = at }) raw queue).hand
load_room_goes h word raw at [] = goes_queued h word raw
load_room_goes h word raw at (n ∷ ns) = stays h ns

load_written_goes : (h : Hand) (word raw : ℕ) (at : Loading) (queue : List Noted) →
    GoesOn h (load_room (record { hand = with_persist h; word = word; at = at }) raw queue).hand
load_written_goes h word raw at [] = goes_written_queued h h.queue word raw
load_written_goes h word raw at (n ∷ ns) = goes_written h ns

load_noted_goes : (h : Hand) (word raw : ℕ) (at : Loading) (full : Bool) → let m : HeldLoad = record { hand = h; word = word; at = at } in
    GoesOn h (if full then load_room m raw h.queue else load_queues m raw).hand
load_noted_goes h word raw at true = load_room_goes h word raw at h.queue
load_noted_goes h word raw at false = goes_queued h word raw

load_judged_goes : (h : Hand) (word raw : ℕ) (at : Loading) (shows : Bool) → let m : HeldLoad = record { hand = h; word = word; at = at } in
    GoesOn h (if shows then load_notes m raw else load_omits m raw).hand
load_judged_goes h word raw at true = load_noted_goes h word raw at (is_full h.queue)
load_judged_goes h word raw at false = goes_omitted h

load_read_goes : (p : Place) (h : Hand) (word raw : ℕ) (at : Loading) (slot : Option ℕ) →
    GoesOn h (load_reads p (record { hand = h; word = word; at = at }) raw slot).hand
load_read_goes p h word raw at None = load_judged_goes h word raw at (shown p.counted raw None)
load_read_goes p h word raw at (Some slot) = goes_same h

load_goes : (p : Place) (h : Hand) (word told : ℕ) (at : Loading) → GoesOn h (load_takes p at (record { hand = h; word = word; at = at }) told).hand
load_goes p h word told Load_reads = load_read_goes p h word told Load_reads (p.slot word)
load_goes p h word told (Asks raw slot) = load_judged_goes h word raw (Asks raw slot) (shown p.counted raw (Some told))
load_goes p h word told (Load_makes_room raw first) = load_written_goes h word raw (Load_makes_room raw first) h.queue
load_goes p h word told (Has raw) = goes_same h

pub load_goes_on : (p : Place) (m : HeldLoad) (told : ℕ) → GoesOn m.hand (load_taken p m told).hand
load_goes_on p m told = load_goes p m.hand m.word told m.at

v_load_goes : (h : Hand) (word told : ℕ) (at : VLoading) → GoesOn h (v_load_takes at (record { hand = h; word = word; at = at }) told).hand
v_load_goes h word told V_reads = goes_same h
v_load_goes h word told (V_has raw) = goes_same h

pub v_load_goes_on : (m : HeldVLoad) (told : ℕ) → GoesOn m.hand (v_load_taken m told).hand
v_load_goes_on m told = v_load_goes m.hand m.word told m.at

-- ---- a confirmation

confirm_room_goes : (h : Hand) (word raw : ℕ) (at : Confirming) (queue : List Noted) →
    GoesOn h (confirm_room (record { hand = h; word = word; raw = raw; at = at }) queue).hand
confirm_room_goes h word raw at [] = goes_queued h word raw
confirm_room_goes h word raw at (n ∷ ns) = stays h ns

confirm_written_goes : (h : Hand) (word raw : ℕ) (at : Confirming) (front queue : List Noted) →
    GoesOn h (confirm_room (record { hand = with_queue (with_persist h) front; word = word; raw = raw; at = at }) queue).hand
confirm_written_goes h word raw at front [] = goes_written_queued h front word raw
confirm_written_goes h word raw at front (n ∷ ns) = goes_written h ns

confirm_noted_goes : (h : Hand) (word raw : ℕ) (at : Confirming) (full : Bool) → let m : HeldConfirm = record { hand = h; word = word; raw = raw; at = at } in
    GoesOn h (if full then confirm_room m h.queue else confirm_queues m).hand
confirm_noted_goes h word raw at true = confirm_room_goes h word raw at h.queue
confirm_noted_goes h word raw at false = goes_queued h word raw

confirm_judged_goes : (h : Hand) (word raw : ℕ) (at : Confirming) (shows : Bool) → let m : HeldConfirm = record { hand = h; word = word; raw = raw; at = at } in
    GoesOn h (if shows then confirm_notes m else confirm_omits m).hand
confirm_judged_goes h word raw at true = confirm_noted_goes h word raw at (is_full h.queue)
confirm_judged_goes h word raw at false = goes_omitted h

confirm_fenced_goes : (h : Hand) (word raw : ℕ) (at : Confirming) (queue : List Noted) →
    GoesOn h (let hand = fenced_one h queue in confirm_room (record { hand = hand; word = word; raw = raw; at = at }) hand.queue).hand
confirm_fenced_goes h word raw at [] = confirm_room_goes h word raw at h.queue
confirm_fenced_goes h word raw at (n ∷ ns) = confirm_written_goes h word raw at ns ns

confirm_begun_goes : (p : Place) (h : Hand) (word raw told : ℕ) (at : Confirming) (slot : Option ℕ) →
    GoesOn h (confirm_begun p (record { hand = h; word = word; raw = raw; at = at }) told slot).hand
confirm_begun_goes p h word raw told at None = confirm_fenced_goes h word raw at h.queue
confirm_begun_goes p h word raw told at (Some slot) = confirm_judged_goes h word raw at (shown p.counted raw (Some told))

confirm_goes : (p : Place) (h : Hand) (word raw told : ℕ) (at : Confirming) →
    GoesOn h (confirm_takes p at (record { hand = h; word = word; raw = raw; at = at }) told).hand
confirm_goes p h word raw told Begins = confirm_begun_goes p h word raw told Begins (p.slot word)
confirm_goes p h word raw told (Confirm_makes_room first) = confirm_written_goes h word raw (Confirm_makes_room first) h.queue h.queue
confirm_goes p h word raw told Done = goes_same h

pub confirm_goes_on : (p : Place) (m : HeldConfirm) (told : ℕ) → GoesOn m.hand (confirm_taken p m told).hand
confirm_goes_on p m told = confirm_goes p m.hand m.word m.raw told m.at

-- as it ends with no event
confirm_tagged_goes : (h : Hand) (word raw : ℕ) (tagged : Bool) → GoesOn h (if tagged then with_queued h word raw else with_omitted h)
confirm_tagged_goes h word raw true = goes_queued h word raw
confirm_tagged_goes h word raw false = goes_omitted h

confirm_end_goes : (m : HeldConfirm) (at : Confirming) → GoesOn m.hand (confirm_leaves at m)
confirm_end_goes m Begins = confirm_tagged_goes m.hand m.word m.raw (is_tagged m.raw)
confirm_end_goes m (Confirm_makes_room first) = goes_same m.hand
confirm_end_goes m Done = goes_same m.hand

pub confirm_leaves_on : (m : HeldConfirm) → GoesOn m.hand (confirm_left m)
confirm_leaves_on m = confirm_end_goes m m.at

-- ---- exchanges

exchange_again_goes : (m : HeldExchange) (found : ℕ) (again : Bool) → GoesOn m.hand (if again then exchange_at m TriesBare else exchange_loses m found).hand
exchange_again_goes m found true = goes_same m.hand
exchange_again_goes m found false = goes_failed m.hand

exchange_tried_goes : (m : HeldExchange) (told : ℕ) (won : Bool) → GoesOn m.hand (if won then exchange_at m WritesBack else tries_again m told).hand
exchange_tried_goes m told true = goes_same m.hand
exchange_tried_goes m told false = exchange_again_goes m told (is_tagged m.from && eqb told (bare_of m.from))

exchange_bare_goes : (m : HeldExchange) (told : ℕ) (won : Bool) → GoesOn m.hand (if won then exchange_at m WritesBack else exchange_loses m told).hand
exchange_bare_goes m told true = goes_same m.hand
exchange_bare_goes m told false = goes_failed m.hand

ready_goes : (m : HeldExchange) (told : ℕ) (queue : List Noted) (slot : Option ℕ) → GoesOn m.hand (ready_takes m told queue slot).hand
ready_goes m told (n ∷ ns) slot = goes_written m.hand ns
ready_goes m told [] (Some slot) = goes_same m.hand
ready_goes m told [] None = exchange_tried_goes m told (eqb told m.from)

exchange_goes : (p : Place) (m : HeldExchange) (told : ℕ) (at : Exchanging) → GoesOn m.hand (exchange_takes p at m told).hand
exchange_goes p m told Ready = ready_goes m told m.hand.queue (p.slot m.word)
exchange_goes p m told (Tries slot) = goes_same m.hand
exchange_goes p m told TriesBare = exchange_bare_goes m told (eqb told (bare_of m.from))
exchange_goes p m told WritesBack = goes_written m.hand m.hand.queue
exchange_goes p m told Withdraws = goes_same m.hand
exchange_goes p m told (Lowers slot found) = goes_failed m.hand
exchange_goes p m told (Ended how) = goes_same m.hand

pub exchange_goes_on : (p : Place) (m : HeldExchange) (told : ℕ) → GoesOn m.hand (exchange_taken p m told).hand
exchange_goes_on p m told = exchange_goes p m told m.at

v_exchange_goes : (m : HeldVExchange) (told : ℕ) (at : VExchanging) → GoesOn m.hand (v_exchange_takes at m told).hand
v_exchange_goes m told V_tries = goes_same m.hand
v_exchange_goes m told (V_ended how) = goes_same m.hand

pub v_exchange_goes_on : (m : HeldVExchange) (told : ℕ) → GoesOn m.hand (v_exchange_taken m told).hand
v_exchange_goes_on m told = v_exchange_goes m told m.at

-- ---- stores

next_hand : (m : HeldStore) (ready : List Noted) → (store_next m ready).hand ≡ m.hand
next_hand m [] = refl
next_hand m (n ∷ ns) = refl

decides_hand : (m : HeldStore) (how : Stored) → (store_decides m how).hand ≡ m.hand
decides_hand m All_stored = next_hand m m.drafts.ready
decides_hand m (Store_worn word version) = refl

pub store_goes_hand : (m : HeldStore) (how : Stored) (values : List ℕ) → (store_goes_on m how values).hand ≡ m.hand
store_goes_hand m how [] = decides_hand m how
store_goes_hand m how (v ∷ vs) = refl

by_hand : (h : Hand) (m : HeldStore) (x : Hand) → m.hand ≡ x → GoesOn h x → GoesOn h m.hand
by_hand h m x e k = rw e k

store_room_goes : (h : Hand) (m : HeldStore) (next : Noted) (front queue : List Noted) → m.hand ≡ with_queue (with_persist h) front →
    GoesOn h (store_room m next queue).hand
store_room_goes h m next front [] e = rw e (goes_written h front)
store_room_goes h m next front (n ∷ ns) e = rw (ap (λ x. with_queue x ns) e) (goes_written h ns)

store_full_goes : (h : Hand) (d : DraftWords) (next : Noted) (queue : List Noted) →
    GoesOn h (let hand = fenced_one h queue in store_room (record { hand = hand; drafts = d; at = Writes next }) next hand.queue).hand
store_full_goes h d next [] = plain h.queue
  where
    plain : (queue : List Noted) → GoesOn h (store_room (record { hand = h; drafts = d; at = Writes next }) next queue).hand
    plain [] = goes_same h
    plain (n ∷ ns) = stays h ns
store_full_goes h d next (n ∷ ns) = store_room_goes h (record { hand = with_queue (with_persist h) ns; drafts = d; at = Writes next }) next ns ns refl

store_written_goes : (h : Hand) (d : DraftWords) (next : Noted) (full : Bool) → let m : HeldStore = record { hand = h; drafts = d; at = Writes next } in
    GoesOn h (if full then (let hand = fenced_one h h.queue in store_room (record m { hand = hand }) next hand.queue)
    else store_next (record m { hand = with_pair h next }) d.ready).hand
store_written_goes h d next true = store_full_goes h d next h.queue
store_written_goes h d next false =
    by_hand h (store_next (record { hand = with_pair h next; drafts = d; at = Writes next }) d.ready) (with_pair h next)
    (next_hand (record { hand = with_pair h next; drafts = d; at = Writes next }) d.ready) (goes_paired h next)

store_goes : (h : Hand) (d : DraftWords) (told : ℕ) (at : Storing) → GoesOn h (store_takes at (record { hand = h; drafts = d; at = at }) told).hand
store_goes h d told (Store_reads how) =
    let drafts = draft_read d told d.values in
    let m : HeldStore = record { hand = h; drafts = drafts; at = Store_reads how } in
    let now = if is_worn d told then worn_at how d.word (version_of told) else how in
    by_hand h (store_goes_on m now drafts.values) h (store_goes_hand m now drafts.values) (goes_same h)
store_goes h d told (Writes next) = store_written_goes h d next (is_full h.queue)
store_goes h d told (Store_makes_room next first) = store_room_goes h (record { hand = with_persist h; drafts = d; at = Store_makes_room next first }) next
    h.queue h.queue refl
store_goes h d told (Store_ended how) = goes_same h

pub store_goes_further : (m : HeldStore) (told : ℕ) → GoesOn m.hand (store_taken m told).hand
store_goes_further m told = store_goes m.hand m.drafts told m.at

-- ---- fences and Evicts

pub fence_goes_on : (m : HeldFence) (told : ℕ) → GoesOn m.hand (fence_taken m told).hand
fence_goes_on m told = goes_fenced m.hand m.hand.queue

pub complete_goes_on : (m : HeldComplete) (told : ℕ) → GoesOn m.fence.hand (complete_taken m told).fence.hand
complete_goes_on m told = goes_fenced m.fence.hand m.fence.hand.queue

evict_goes : (m : Evict) (told : ℕ) (at : Evicting) → GoesOn m.hand (evict_takes at m told).hand
evict_goes m told Evict_reads = goes_same m.hand
evict_goes m told (Evict_writes_back raw) = goes_written m.hand m.hand.queue
evict_goes m told Evict_done = goes_same m.hand

pub evict_goes_on : (m : Evict) (told : ℕ) → GoesOn m.hand (evict_taken m told).hand
evict_goes_on m told = evict_goes m told m.at
