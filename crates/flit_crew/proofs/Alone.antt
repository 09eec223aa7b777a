-- A worker that is the only one sees no tag, and so queues no word: each event of each machine leaves that so.
use Rattle.std.proofs.Common.{◌≡◌, ℕ, ◌<◌, ◌==◌, ◌&&◌, not, Bool, true, false, List, [], ◌∷◌, length, Option, Some, None, refl, sym, ◌∙◌, ap, subst, if◌then◌else◌}
use Rattle.std.proofs.lemmas.Option.{same_Some, none-some}
use Rattle.std.specs.List.{AllByRecursion}
use Rattle.flit_words.specs.Words.{bare_of, is_tagged, version_of}
use Rattle.flit_model.specs.States.{State, word_at, count_at}
use Rattle.flit_model.specs.Effects.{answer}
use Rattle.flit_model.specs.declared.events.Event.{Event}
use Rattle.flit_model.specs.declared.events.Event.TheVariants.{Load, ReadTag}
use Rattle.flit_place.specs.declared.writings.Writing.{Writing}
use Rattle.flit_place.specs.Tags.{Place, shown, is_zero, IsSlot}
use Rattle.flit_pv.specs.declared.queues.Noted.{Noted}
use Rattle.flit_pv.specs.declared.hands.Hand.{Hand}
use Rattle.flit_pv.specs.Queues.{first_persist, is_full}
use Rattle.flit_pv.specs.Hands.{with_persist, with_pair, with_queued, with_omitted, fenced_one}
use Rattle.flit_pv.specs.declared.loads.Loading.{Loading}
use Rattle.flit_pv.specs.declared.loads.Loading.TheVariants.{Reads as Load_reads, Asks, MakesRoom as Load_makes_room, Has}
use Rattle.flit_pv.specs.Loads.{HeldLoad, load_asks, load_takes, load_reads, load_notes, load_omits}
use Rattle.flit_pv.specs.declared.v_loads.VLoading.{VLoading}
use Rattle.flit_pv.specs.declared.v_loads.VLoading.TheVariants.{Reads as V_reads, Has as V_has}
use Rattle.flit_pv.specs.VLoads.{HeldVLoad, v_load_takes}
use Rattle.flit_pv.specs.declared.confirms.Confirming.{Confirming}
use Rattle.flit_pv.specs.declared.confirms.Confirming.TheVariants.{Begins, MakesRoom as Confirm_makes_room, Done as Confirm_done}
use Rattle.flit_pv.specs.Confirms.{HeldConfirm, confirm_asks, confirm_begins, confirm_takes, confirm_begun, confirm_notes, confirm_omits, confirm_leaves}
use Rattle.flit_pv.specs.declared.exchanges.Exchanging.{Exchanging}
use Rattle.flit_pv.specs.declared.exchanges.Exchanging.TheVariants.{Ready, Tries, TriesBare, WritesBack, Withdraws, Lowers, Ended}
use Rattle.flit_pv.specs.Exchanges.{HeldExchange, writing_in, exchange_takes, ready_takes, exchange_at, exchange_loses}
use Rattle.flit_pv.specs.declared.v_exchanges.VExchanging.{VExchanging}
use Rattle.flit_pv.specs.declared.v_exchanges.VExchanging.TheVariants.{Tries as V_tries, Ended as V_ended}
use Rattle.flit_pv.specs.VExchanges.{HeldVExchange, v_exchange_takes}
use Rattle.flit_pv.specs.declared.stores.Storing.{Storing}
use Rattle.flit_pv.specs.declared.stores.Storing.TheVariants.{Reads as Store_reads, MakesRoom as Store_makes_room, Writes, Ended as Store_ended}
use Rattle.flit_pv.specs.declared.stores.Stored.{Stored}
use Rattle.flit_pv.specs.declared.stores.Stored.TheVariants.{Stored as All_stored, Worn}
use Rattle.flit_pv.specs.Drafts.{draft_read, is_worn}
use Rattle.flit_pv.specs.Stores.{HeldStore, store_next, store_decides, store_goes_on, store_room, store_takes, worn_at}
use Rattle.flit_pv.specs.declared.evicts.Evict.{Evict}
use Rattle.flit_pv.specs.declared.evicts.Evicting.{Evicting}
use Rattle.flit_pv.specs.declared.evicts.Evicting.TheVariants.{Reads as Evict_reads, WritesBack as Evict_writes_back, Done as Evict_done}
use Rattle.flit_pv.specs.Evicts.{evict_takes}
use Rattle.flit_runs.specs.Workings.{Working, Idles, Loads, VLoads, Confirms, Exchanges, VExchanges, Stores, Fences, Completes, Evicts, asks, takes, leaves, writing_at}
use Rattle.flit_runs.specs.Worlds.{Actor, Seen, Sees, LoadSees, VLoadSees, ExchangeSees}
use Rattle.flit_runs.specs.Soundness.{Knows, LoadKnows, ExchangeKnows, MayWriteBack, owed, load_owed, confirm_owed}
use Rattle.flit_crew.specs.Machines.{Tags, ExchangeTags, SeesNoTag, IsUnroomed, ConfirmsUntagged, hand_of}

-- how many words its loads have queued
abbrev pub queued_by : Hand → ℕ
queued_by hand = hand.tally.queued

-- ---- machines that never queue

fenced_queued : (hand : Hand) (queue : List Noted) → queued_by (fenced_one hand queue) ≡ queued_by hand
fenced_queued hand [] = refl
fenced_queued hand (n ∷ ns) = refl

v_load_queued : (m : HeldVLoad) (t : VLoading) (told : ℕ) → queued_by (v_load_takes t m told).hand ≡ queued_by m.hand
v_load_queued m V_reads told = refl
v_load_queued m (V_has raw) told = refl

ready_queued : (m : HeldExchange) (told : ℕ) (queue : List Noted) (slot : Option ℕ) → queued_by (ready_takes m told queue slot).hand ≡ queued_by m.hand
ready_queued m told (n ∷ ns) slot = refl
ready_queued m told [] (Some slot) = refl
ready_queued m told [] None = by_test (told == m.from) (is_tagged m.from && (told == bare_of m.from))
  where
    by_test : (t r : Bool) →
        queued_by (if t then exchange_at m WritesBack else (if r then exchange_at m TriesBare else exchange_loses m told)).hand ≡ queued_by m.hand
    by_test true r = refl
    by_test false true = refl
    by_test false false = refl

exchange_queued : (p : Place) (m : HeldExchange) (t : Exchanging) (told : ℕ) → queued_by (exchange_takes p t m told).hand ≡ queued_by m.hand
exchange_queued p m Ready told = ready_queued m told m.hand.queue (p.slot m.word)
exchange_queued p m (Tries slot) told = refl
exchange_queued p m TriesBare told = by_test (told == bare_of m.from)
  where
    by_test : (t : Bool) → queued_by (if t then exchange_at m WritesBack else exchange_loses m told).hand ≡ queued_by m.hand
    by_test true = refl
    by_test false = refl
exchange_queued p m WritesBack told = refl
exchange_queued p m Withdraws told = refl
exchange_queued p m (Lowers slot found) told = refl
exchange_queued p m (Ended how) told = refl

v_exchange_queued : (m : HeldVExchange) (t : VExchanging) (told : ℕ) → queued_by (v_exchange_takes t m told).hand ≡ queued_by m.hand
v_exchange_queued m V_tries told = refl
v_exchange_queued m (V_ended how) told = refl

evict_queued : (m : Evict) (t : Evicting) (told : ℕ) → queued_by (evict_takes t m told).hand ≡ queued_by m.hand
evict_queued m Evict_reads told = refl
evict_queued m (Evict_writes_back raw) told = refl
evict_queued m Evict_done told = refl

next_queued : (m : HeldStore) (ready : List Noted) → queued_by (store_next m ready).hand ≡ queued_by m.hand
next_queued m [] = refl
next_queued m (n ∷ ns) = refl

decides_queued : (m : HeldStore) (how : Stored) → queued_by (store_decides m how).hand ≡ queued_by m.hand
decides_queued m All_stored = next_queued m m.drafts.ready
decides_queued m (Worn word version) = refl

on_queued : (m : HeldStore) (how : Stored) (values : List ℕ) → queued_by (store_goes_on m how values).hand ≡ queued_by m.hand
on_queued m how [] = decides_queued m how
on_queued m how (v ∷ vs) = refl

read_queued : (m : HeldStore) (how : Stored) (told : ℕ) (values : List ℕ) →
    queued_by (store_goes_on (record m { drafts = draft_read m.drafts told values }) how (draft_read m.drafts told values).values).hand ≡ queued_by m.hand
read_queued m how told [] = on_queued m how m.drafts.values
read_queued m how told (v ∷ vs) = on_queued (record m { drafts = draft_read m.drafts told (v ∷ vs) }) how vs

room_queued : (m : HeldStore) (next : Noted) (queue : List Noted) → queued_by (store_room m next queue).hand ≡ queued_by m.hand
room_queued m next [] = refl
room_queued m next (n ∷ ns) = refl

written_queued : (m : HeldStore) (next : Noted) (full : Bool) →
    queued_by (if full then (let hand = fenced_one m.hand m.hand.queue in store_room (record m { hand = hand }) next hand.queue)
    else store_next (record m { hand = with_pair m.hand next }) m.drafts.ready).hand ≡ queued_by m.hand
written_queued m next true = room_queued (record m { hand = fenced_one m.hand m.hand.queue }) next (fenced_one m.hand m.hand.queue).queue
    ∙ fenced_queued m.hand m.hand.queue
written_queued m next false = next_queued (record m { hand = with_pair m.hand next }) m.drafts.ready

store_queued : (m : HeldStore) (t : Storing) (told : ℕ) → queued_by (store_takes t m told).hand ≡ queued_by m.hand
store_queued m (Store_reads how) told = read_queued m (if is_worn m.drafts told then worn_at how m.drafts.word (version_of told) else how) told m.drafts.values
store_queued m (Writes next) told = written_queued m next (is_full m.hand.queue)
store_queued m (Store_makes_room next first) told = room_queued (record m { hand = with_persist m.hand }) next m.hand.queue
store_queued m (Store_ended how) told = refl

-- ---- no tag shows

shows_none : (counted : Bool) (slots : ℕ) (slot : Option ℕ) (raw : ℕ) → IsSlot counted slots slot → slot ≡ None → (counted ≡ false → is_tagged raw ≡ false) →
    shown counted raw None ≡ false
shows_none true slots slot raw is none bare = absurd (none-some is.0 (sym none ∙ is.1))
shows_none false slots slot raw is none bare = bare refl

count_none : (counted : Bool) (slots : ℕ) (at : Option ℕ) (raw slot count : ℕ) → IsSlot counted slots at → at ≡ Some slot → count ≡ 0 →
    shown counted raw (Some count) ≡ false
count_none true slots at raw slot count is some none = ap (λ n. not (is_zero (Some n))) none
count_none false slots at raw slot count is some none = absurd (none-some slot (sym is ∙ some))

load_judged : (m : HeldLoad) (raw : ℕ) (t : Bool) → t ≡ false → IsUnroomed (if t then load_notes m raw else load_omits m raw).at
    × (queued_by (if t then load_notes m raw else load_omits m raw).hand ≡ queued_by m.hand)
load_judged m raw true e = absurd (cc)
load_judged m raw false e = (tt, refl)

confirm_judged : (p : Place) (m : HeldConfirm) (t : Bool) → t ≡ false →
    ConfirmsUntagged p (if t then confirm_notes m else confirm_omits m).at (if t then confirm_notes m else confirm_omits m)
    × (queued_by (if t then confirm_notes m else confirm_omits m).hand ≡ queued_by m.hand)
confirm_judged p m true e = absurd (cc)
confirm_judged p m false e = (tt, refl)

module _ (p : Place) (s : State) (slotted : (v : ℕ) → v < length s.words → IsSlot p.counted (length s.slots) (p.slot v)) (zero_count : (slot : ℕ) →
    count_at s slot ≡ 0)
    (bare : p.counted ≡ false → (v : ℕ) → is_tagged (word_at s v) ≡ false) where
  load_alone : (m : HeldLoad) (t : Loading) → m.at ≡ t → AllByRecursion (MayWriteBack (λ x. false) s) (load_owed t m) →
      (ws : List Writing) → LoadKnows p (λ x. false) s ws t m → IsUnroomed t → (e : Event) →
      load_asks t m ≡ Some e → IsUnroomed (load_takes p t m (answer s e)).at × (queued_by (load_takes p t m (answer s e)).hand ≡ queued_by m.hand)
  load_alone m Load_reads at pairs ws k calm e q = subst (λ d. IsUnroomed (load_takes p Load_reads m (answer s d)).at
      × (queued_by (load_takes p Load_reads m (answer s d)).hand ≡ queued_by m.hand)) (same_Some (Load m.word) e q) (by_slot (p.slot m.word) refl)
    where
      by_slot : (slot : Option ℕ) → p.slot m.word ≡ slot → IsUnroomed (load_reads p m (word_at s m.word) slot).at
          × (queued_by (load_reads p m (word_at s m.word) slot).hand ≡ queued_by m.hand)
      by_slot None has = load_judged m (word_at s m.word) (shown p.counted (word_at s m.word) None)
          (shows_none p.counted (length s.slots) (p.slot m.word) (word_at s m.word) (slotted m.word k.0) has (λ counted. bare counted m.word))
      by_slot (Some slot) has = (tt, refl)
  load_alone m (Asks raw slot) at pairs ws k calm e q = subst (λ d. IsUnroomed (load_takes p (Asks raw slot) m (answer s d)).at
      × (queued_by (load_takes p (Asks raw slot) m (answer s d)).hand ≡ queued_by m.hand)) (same_Some (ReadTag slot) e q)
      (load_judged m raw (shown p.counted raw (Some (count_at s slot)))
      (count_none p.counted (length s.slots) (p.slot m.word) raw slot (count_at s slot) (slotted m.word pairs.0.plain.0) k.0 (zero_count slot)))
  load_alone m (Load_makes_room raw first) at pairs ws k calm e q = absurd calm
  load_alone m (Has raw) at pairs ws k calm e q = absurd (none-some e q)

  confirm_alone : (m : HeldConfirm) (t : Confirming) → m.at ≡ t → AllByRecursion (MayWriteBack (λ x. false) s) (confirm_owed t m) → ConfirmsUntagged p t m →
      (e : Event) → confirm_asks p t m ≡ Some e → ConfirmsUntagged p (confirm_takes p t m (answer s e)).at (confirm_takes p t m (answer s e))
      × (queued_by (confirm_takes p t m (answer s e)).hand ≡ queued_by m.hand)
  confirm_alone m Begins at pairs calm e q = by_slot (p.slot m.word) refl q
    where
      Goal : Event → Option ℕ → Type 0
      Goal d slot = ConfirmsUntagged p (confirm_begun p m (answer s d) slot).at (confirm_begun p m (answer s d) slot)
          × (queued_by (confirm_begun p m (answer s d) slot).hand ≡ queued_by m.hand)

      by_room : (b : Bool) → b ≡ false → (if b && is_full m.hand.queue then first_persist m.hand.queue else None) ≡ Some e → ⊥
      by_room true n i = cc
      by_room false n i = none-some e i

      by_slot : (slot : Option ℕ) → p.slot m.word ≡ slot → confirm_begins p m (p.slot m.word) ≡ Some e → Goal e (p.slot m.word)
      by_slot (Some slot) has i = subst (Goal e) (sym has) (subst (λ d. Goal d (Some slot)) (same_Some (ReadTag slot) e (sym (ap (confirm_begins p m) has) ∙ i))
          (confirm_judged p m (shown p.counted m.raw (Some (count_at s slot)))
          (count_none p.counted (length s.slots) (p.slot m.word) m.raw slot (count_at s slot) (slotted m.word pairs.0.plain.0) has (zero_count slot))))
      by_slot None has i = absurd (by_room (shown p.counted m.raw None)
          (shows_none p.counted (length s.slots) (p.slot m.word) m.raw (slotted m.word pairs.0.plain.0) has calm.0) (sym (ap (confirm_begins p m) has) ∙ i))
  confirm_alone m (Confirm_makes_room first) at pairs calm e q = absurd calm
  confirm_alone m Confirm_done at pairs calm e q = absurd (none-some e q)

-- an event of any machine, while no exchange is under way but its own
pub alone_event : (p : Place) (s : State) → ((v : ℕ) → v < length s.words → IsSlot p.counted (length s.slots) (p.slot v)) → (private : List ℕ)
    (ws : List Writing) (w : Working) → (writing_at w ≡ None → (slot : ℕ) → count_at s slot ≡ 0) →
    (writing_at w ≡ None → p.counted ≡ false → (v : ℕ) → is_tagged (word_at s v) ≡ false) →
    AllByRecursion (MayWriteBack (λ x. false) s) (owed w) → Knows p (λ x. false) s ws private w → SeesNoTag p w → (e : Event) → asks p w ≡ Some e →
    SeesNoTag p (takes p w (answer s e)) × (queued_by (hand_of (takes p w (answer s e))) ≡ queued_by (hand_of w))
alone_event p s slotted private ws (Idles hand) zero_count bare pairs k calm e q = absurd (none-some e q)
alone_event p s slotted private ws (Loads m) zero_count bare pairs k calm e q =
    load_alone p s slotted (zero_count refl) (bare refl) m m.at refl pairs ws k calm e q
alone_event p s slotted private ws (VLoads m) zero_count bare pairs k calm e q = (tt, v_load_queued m m.at (answer s e))
alone_event p s slotted private ws (Confirms m) zero_count bare pairs k calm e q =
    confirm_alone p s slotted (zero_count refl) (bare refl) m m.at refl pairs calm e q
alone_event p s slotted private ws (Exchanges m) zero_count bare pairs k calm e q = (tt, exchange_queued p m m.at (answer s e))
alone_event p s slotted private ws (VExchanges m) zero_count bare pairs k calm e q = (tt, v_exchange_queued m m.at (answer s e))
alone_event p s slotted private ws (Stores m) zero_count bare pairs k calm e q = (tt, store_queued m m.at (answer s e))
alone_event p s slotted private ws (Fences m) zero_count bare pairs k calm e q = (tt, fenced_queued m.hand m.hand.queue)
alone_event p s slotted private ws (Completes m) zero_count bare pairs k calm e q = (tt, fenced_queued m.fence.hand m.fence.hand.queue)
alone_event p s slotted private ws (Evicts m) zero_count bare pairs k calm e q = (tt, evict_queued m m.at (answer s e))

-- and what it has seen by it
load_sees : (s : State) (t : Loading) (word : ℕ) (n : Seen) → ((v : ℕ) → is_tagged (word_at s v) ≡ false) → LoadSees s t word n → is_tagged n.raw ≡ false
load_sees s Load_reads word n bare h = ap is_tagged h.1 ∙ bare word
load_sees s (Asks raw slot) word n bare h = absurd h
load_sees s (Load_makes_room raw first) word n bare h = absurd h
load_sees s (Has raw) word n bare h = absurd h

v_load_sees : (s : State) (gs : List Actor) (t : VLoading) (word : ℕ) (n : Seen) → ((v : ℕ) → is_tagged (word_at s v) ≡ false) →
    VLoadSees (λ x. false) s gs t word n → is_tagged n.raw ≡ false
v_load_sees s gs V_reads word n bare h = ap is_tagged h.2 ∙ bare word
v_load_sees s gs (V_has raw) word n bare h = absurd h

exchange_sees : (p : Place) (s : State) (m : HeldExchange) (t : Exchanging) (n : Seen) → ExchangeKnows p (λ x. false) s t m → ExchangeSees t m n →
    is_tagged n.raw ≡ false
exchange_sees p s m Ready n k h = absurd h
exchange_sees p s m (Tries slot) n k h = absurd h
exchange_sees p s m TriesBare n k h = absurd h
exchange_sees p s m WritesBack n k h = ap is_tagged h.1 ∙ k.2
exchange_sees p s m Withdraws n k h = absurd h
exchange_sees p s m (Lowers slot found) n k h = absurd h
exchange_sees p s m (Ended how) n k h = absurd h

pub alone_sees : (p : Place) (s : State) (gs : List Actor) (private : List ℕ) (ws : List Writing) (w : Working) →
    Knows p (λ x. false) s ws private w → (writing_at w ≡ None → (v : ℕ) → is_tagged (word_at s v) ≡ false) → (n : Seen) → Sees (λ x. false) s gs w n →
    is_tagged n.raw ≡ false
alone_sees p s gs private ws (Idles hand) k bare n h = absurd h
alone_sees p s gs private ws (Loads m) k bare n h = load_sees s m.at m.word n (bare refl) h
alone_sees p s gs private ws (VLoads m) k bare n h = v_load_sees s gs m.at m.word n (bare refl) h
alone_sees p s gs private ws (Confirms m) k bare n h = absurd h
alone_sees p s gs private ws (Exchanges m) k bare n h = exchange_sees p s m m.at n k h
alone_sees p s gs private ws (VExchanges m) k bare n h = absurd h
alone_sees p s gs private ws (Stores m) k bare n h = absurd h
alone_sees p s gs private ws (Fences m) k bare n h = absurd h
alone_sees p s gs private ws (Completes m) k bare n h = absurd h
alone_sees p s gs private ws (Evicts m) k bare n h = absurd h

-- a machine that is at no exchange tags nothing
pub unwritten_tags : (w : Working) → writing_at w ≡ None → (x bare : ℕ) → Tags x bare w → ⊥
unwritten_tags (Idles hand) q x bare i = i
unwritten_tags (Loads m) q x bare i = i
unwritten_tags (VLoads m) q x bare i = i
unwritten_tags (Confirms m) q x bare i = i
unwritten_tags (Exchanges m) q x bare i = by_stage m.at q i
  where
    some_none : (w : Writing) → Some w ≡ None → ⊥
    some_none w e = cc

    by_stage : (t : Exchanging) → writing_in t m ≡ None → ExchangeTags x bare t m → ⊥
    by_stage Ready e i = i
    by_stage (Tries slot) e i = i
    by_stage TriesBare e i = i
    by_stage WritesBack e i = some_none _ e
    by_stage Withdraws e i = some_none _ e
    by_stage (Lowers slot found) e i = i
    by_stage (Ended how) e i = i
unwritten_tags (VExchanges m) q x bare i = i
unwritten_tags (Stores m) q x bare i = i
unwritten_tags (Fences m) q x bare i = i
unwritten_tags (Completes m) q x bare i = i
unwritten_tags (Evicts m) q x bare i = i

-- ---- a machine that has ended leaves a hand that has queued no more

left_confirm : (p : Place) (m : HeldConfirm) (t : Confirming) → confirm_asks p t m ≡ None → ConfirmsUntagged p t m →
    queued_by (confirm_leaves t m) ≡ queued_by m.hand
left_confirm p m Begins q calm = by_slot (p.slot m.word) refl q
  where
    some_none : (e : Event) → Some e ≡ None → ⊥
    some_none e i = cc

    by_tag : (t : Bool) → t ≡ false → queued_by (if t then with_queued m.hand m.word m.raw else with_omitted m.hand) ≡ queued_by m.hand
    by_tag true e = absurd (cc)
    by_tag false e = refl

    by_counted : (b : Bool) → p.counted ≡ b → p.slot m.word ≡ None → is_tagged m.raw ≡ false
    by_counted true c has = absurd (calm.1 c has)
    by_counted false c has = calm.0 c

    by_slot : (slot : Option ℕ) → p.slot m.word ≡ slot → confirm_begins p m (p.slot m.word) ≡ None → queued_by (confirm_leaves Begins m) ≡ queued_by m.hand
    by_slot (Some slot) has i = absurd (some_none (ReadTag slot) (sym (ap (confirm_begins p m) has) ∙ i))
    by_slot None has i = by_tag (is_tagged m.raw) (by_counted p.counted refl has)
left_confirm p m (Confirm_makes_room first) q calm = refl
left_confirm p m Confirm_done q calm = refl

pub left_queued : (p : Place) (w : Working) → asks p w ≡ None → SeesNoTag p w → queued_by (leaves w) ≡ queued_by (hand_of w)
left_queued p (Idles hand) q calm = refl
left_queued p (Loads m) q calm = refl
left_queued p (VLoads m) q calm = refl
left_queued p (Confirms m) q calm = left_confirm p m m.at q calm
left_queued p (Exchanges m) q calm = refl
left_queued p (VExchanges m) q calm = refl
left_queued p (Stores m) q calm = refl
left_queued p (Fences m) q calm = refl
left_queued p (Completes m) q calm = refl
left_queued p (Evicts m) q calm = refl
