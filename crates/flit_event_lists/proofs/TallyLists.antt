-- The tally of a machine at any moment before its end: that of its start, and the write-backs so far.
use Rattle.std.proofs.Common.{◌≡◌, ℕ, ◌==◌, ◌&&◌, nat_le, List, [], ◌∷◌, ◌++◌, Bool, true, false, cond, Option, Some, None, IsSome, refl, sym, ap, ◌∙◌, ◌⊎◌, inl, inr}
use Rattle.flit_words.specs.Words.{bare_of, is_tagged, version_of}
use Rattle.flit_model.specs.declared.events.Event.{Event}
use Rattle.flit_model.specs.declared.events.Event.TheVariants.{Load, ReadTag, Raise, Exchange, Persist, Store}
use Rattle.flit_model.specs.declared.calls.Tally.{Tally}
use Rattle.flit_place.specs.Tags.{Place, shown, dressed}
use Rattle.flit_pv.specs.declared.queues.Noted.{Noted}
use Rattle.flit_pv.specs.declared.hands.Hand.{Hand}
use Rattle.flit_pv.specs.Loads.{HeldLoad}
use Rattle.flit_pv.specs.declared.loads.Loading.{Loading}
use Rattle.flit_pv.specs.declared.loads.Loading.TheVariants.{Reads, Asks, MakesRoom, Has}
use Rattle.flit_pv.specs.VLoads.{HeldVLoad}
use Rattle.flit_pv.specs.declared.v_loads.VLoading.{VLoading}
use Rattle.flit_pv.specs.declared.v_loads.VLoading.TheVariants.{Reads as V_reads, Has as V_has}
use Rattle.flit_pv.specs.Confirms.{HeldConfirm}
use Rattle.flit_pv.specs.declared.confirms.Confirming.{Confirming}
use Rattle.flit_pv.specs.declared.confirms.Confirming.TheVariants.{Begins, MakesRoom as Confirm_room, Done}
use Rattle.flit_pv.specs.Exchanges.{HeldExchange}
use Rattle.flit_pv.specs.declared.exchanges.Exchanging.{Exchanging}
use Rattle.flit_pv.specs.declared.exchanges.Exchanging.TheVariants.{Ready, Tries, TriesBare, WritesBack, Withdraws, Lowers, Ended}
use Rattle.flit_pv.specs.VExchanges.{HeldVExchange}
use Rattle.flit_pv.specs.declared.v_exchanges.VExchanging.{VExchanging}
use Rattle.flit_pv.specs.declared.v_exchanges.VExchanging.TheVariants.{Tries as V_tries, Ended as V_ended}
use Rattle.flit_pv.specs.Stores.{HeldStore}
use Rattle.flit_pv.specs.declared.stores.Storing.{Storing}
use Rattle.flit_pv.specs.declared.stores.Storing.TheVariants.{Reads as Store_reads, MakesRoom as Store_room, Writes, Ended as Store_ended}
use Rattle.flit_pv.specs.declared.stores.Stored.{Stored}
use Rattle.flit_pv.specs.declared.stores.Stored.TheVariants.{Stored as All_stored, Worn}
use Rattle.flit_pv.specs.Fences.{HeldFence}
use Rattle.flit_pv.specs.Fences.{HeldComplete}
use Rattle.flit_pv.specs.declared.evicts.Evict.{Evict}
use Rattle.flit_pv.specs.declared.evicts.Evicting.{Evicting}
use Rattle.flit_pv.specs.declared.evicts.Evicting.TheVariants.{Reads as Evict_reads, WritesBack as Evict_writes, Done as Evict_done}
use Rattle.flit_pv.specs.Queues.{persist_of, is_full, first_persist}
use Rattle.flit_pv.specs.Hands.{with_persist}
use Rattle.flit_pv.specs.Drafts.{DraftWords, drafts_from, draft_read, is_worn}
use Rattle.flit_pv.specs.Loads.{load_asked, load_taken, load_room, load_notes, load_omits, load_queues, load_reads}
use Rattle.flit_pv.specs.VLoads.{v_load_asked, v_load_taken}
use Rattle.flit_pv.specs.Confirms.{confirm_asked, confirm_taken, confirm_room, confirm_notes, confirm_omits, confirm_queues, confirm_begins, confirm_begun}
use Rattle.flit_pv.specs.Exchanges.{exchange_asked, exchange_taken, ready_asks, ready_takes, withdraw_asks, exchange_at, exchange_loses, exchange_started}
use Rattle.flit_pv.specs.VExchanges.{v_exchange_asked, v_exchange_taken, v_exchange_started}
use Rattle.flit_pv.specs.Stores.{store_asked, store_taken, store_room, store_next, store_written, store_decides, store_goes_on, store_started, worn_at}
use Rattle.flit_pv.specs.Fences.{fence_asked, fence_taken, complete_asked, complete_taken}
use Rattle.flit_pv.specs.Evicts.{evict_asked, evict_taken}
use Rattle.flit_pv.specs.Played.{AnsweredEvent, answered_event}
use Rattle.flit_event_lists.specs.EventLists.{raised, is_persist, counted}
use Rattle.flit_event_lists.specs.Plays.{LoadComes, VLoadComes, ConfirmComes, ExchangeComes, VExchangeComes, StoreComes, FenceComes, CompleteComes, EvictComes}
use Rattle.flit_event_lists.proofs.PlayedLists.{tally-so-far, persists-other, persists-one}

-- an event that is no write-back leaves a tally, and one that is counts
other : (t : Tally) (e : Event) (a : ℕ) → is_persist e ≡ false → t ≡ counted t (answered_event e a ∷ [])
other t e a is = ap (λ k. record t { persists = raised t.persists k }) (sym (persists-other (answered_event e a) [] is))

wrote : (h : Hand) (e : Event) (a : ℕ) → is_persist e ≡ true → (with_persist h).tally ≡ counted h.tally (answered_event e a ∷ [])
wrote h e a is = ap (λ k. record h.tally { persists = raised h.tally.persists k }) (sym (persists-one (answered_event e a) [] is))

-- after an event it has ended, or its tally counts the event
abbrev Counts : {M : Type 0} → (M → Option Event) → (M → Tally) → Tally → Event → ℕ → M → Type 0
Counts asked tally before e a next = (asked next ≡ None) ⊎ (tally next ≡ counted before (answered_event e a ∷ []))

-- it has ended, or its tally is this
abbrev Keeps : {M : Type 0} → (M → Option Event) → (M → Tally) → Tally → M → Type 0
Keeps asked tally before next = (asked next ≡ None) ⊎ (tally next ≡ before)

counts-other : {M : Type 0} (asked : M → Option Event) (tally : M → Tally) (before : Tally) (e : Event) (a : ℕ) (next : M) → is_persist e ≡ false →
    Keeps asked tally before next → Counts asked tally before e a next
counts-other asked tally before e a next is (inl ended) = inl ended
counts-other asked tally before e a next is (inr same) = inr (same ∙ other before e a is)

counts-wrote : {M : Type 0} (asked : M → Option Event) (tally : M → Tally) (h : Hand) (e : Event) (a : ℕ) (next : M) → is_persist e ≡ true →
    Keeps asked tally (with_persist h).tally next → Counts asked tally h.tally e a next
counts-wrote asked tally h e a next is (inl ended) = inl ended
counts-wrote asked tally h e a next is (inr same) = inr (same ∙ wrote h e a is)

-- ---- PLoad

abbrev load_tally : HeldLoad → Tally
load_tally m = m.hand.tally

load-room-keeps : (m : HeldLoad) (raw : ℕ) (queue : List Noted) → Keeps load_asked load_tally m.hand.tally (load_room m raw queue)
load-room-keeps m raw [] = inl refl
load-room-keeps m raw (n ∷ ns) = inr refl

load-notes-keeps : (m : HeldLoad) (raw : ℕ) (full : Bool) → Keeps load_asked load_tally m.hand.tally
    (cond full (load_room m raw m.hand.queue) (load_queues m raw))
load-notes-keeps m raw true = load-room-keeps m raw m.hand.queue
load-notes-keeps m raw false = inl refl

load-judges-keeps : (m : HeldLoad) (raw : ℕ) (shows : Bool) → Keeps load_asked load_tally m.hand.tally (cond shows (load_notes m raw) (load_omits m raw))
load-judges-keeps m raw true = load-notes-keeps m raw (is_full m.hand.queue)
load-judges-keeps m raw false = inl refl

load-reads-keeps : (p : Place) (m : HeldLoad) (raw : ℕ) (slot : Option ℕ) → Keeps load_asked load_tally m.hand.tally (load_reads p m raw slot)
load-reads-keeps p m raw None = load-judges-keeps m raw (shown p.counted raw None)
load-reads-keeps p m raw (Some slot) = inr refl

load-step : (p : Place) (h : Hand) (word : ℕ) (at : Loading) (e : Event) (a : ℕ) → load_asked (record { hand = h; word = word; at = at }) ≡ Some e →
    Counts load_asked load_tally h.tally e a (load_taken p (record { hand = h; word = word; at = at }) a)
load-step p h word Reads e a is =
    let e_is : Load word ≡ e = cc in
    counts-other load_asked load_tally h.tally e a _ (rw (← e_is) refl) (load-reads-keeps p (record { hand = h; word = word; at = Reads }) a (p.slot word))
load-step p h word (Asks raw slot) e a is =
    let e_is : ReadTag slot ≡ e = cc in
    counts-other load_asked load_tally h.tally e a _ (rw (← e_is) refl) (load-judges-keeps (record { hand = h; word = word; at = Asks raw slot }) raw
    (shown p.counted raw (Some a)))
load-step p h word (MakesRoom raw n) e a is =
    let e_is : persist_of n ≡ e = cc in
    counts-wrote load_asked load_tally h e a _ (rw (← e_is) refl) (load-room-keeps (record { hand = with_persist h; word = word; at = MakesRoom raw n }) raw
    h.queue)
load-step p h word (Has raw) e a is = absurd (cc)

pub load-so-far : (p : Place) (hand : Hand) (word : ℕ) (list : List AnsweredEvent) (m : HeldLoad) → LoadComes p hand word list m → IsSome (load_asked m) →
    m.hand.tally ≡ counted hand.tally list
load-so-far p hand word list m comes more =
    tally-so-far load_asked (load_taken p) load_tally (λ m e a is. load-step p m.hand m.word m.at e a is) list (record { hand = hand; word = word; at = Reads })
    m comes more

-- ---- VLoad

pub v-load-so-far : (hand : Hand) (word : ℕ) (list : List AnsweredEvent) (m : HeldVLoad) → VLoadComes hand word list m → IsSome (v_load_asked m) →
    m.hand.tally ≡ counted hand.tally list
v-load-so-far hand word list m comes more =
    tally-so-far v_load_asked v_load_taken (λ m. m.hand.tally) (λ m e a is. step m.hand m.word m.at e a is) list
    (record { hand = hand; word = word; at = V_reads }) m comes more
  where
    step : (h : Hand) (word : ℕ) (at : VLoading) (e : Event) (a : ℕ) → v_load_asked (record { hand = h; word = word; at = at }) ≡ Some e →
        Counts v_load_asked (λ m. m.hand.tally) h.tally e a (v_load_taken (record { hand = h; word = word; at = at }) a)
    step h word V_reads e a is = inl refl
    step h word (V_has raw) e a is = absurd (cc)

-- ---- Confirm

abbrev confirm_tally : HeldConfirm → Tally
confirm_tally m = m.hand.tally

confirm-room-keeps : (p : Place) (m : HeldConfirm) (queue : List Noted) → Keeps (confirm_asked p) confirm_tally m.hand.tally (confirm_room m queue)
confirm-room-keeps p m [] = inl refl
confirm-room-keeps p m (n ∷ ns) = inr refl

confirm-notes-keeps : (p : Place) (m : HeldConfirm) (full : Bool) → Keeps (confirm_asked p) confirm_tally m.hand.tally
    (cond full (confirm_room m m.hand.queue) (confirm_queues m))
confirm-notes-keeps p m true = confirm-room-keeps p m m.hand.queue
confirm-notes-keeps p m false = inl refl

confirm-judges-keeps : (p : Place) (m : HeldConfirm) (shows : Bool) → Keeps (confirm_asked p) confirm_tally m.hand.tally
    (cond shows (confirm_notes m) (confirm_omits m))
confirm-judges-keeps p m true = confirm-notes-keeps p m (is_full m.hand.queue)
confirm-judges-keeps p m false = inl refl

abbrev begun : Hand → ℕ → ℕ → HeldConfirm
begun h word raw = record { hand = h; word = word; raw = raw; at = Begins }

-- the first write-back of a full queue, where the word has no slot
first-persist-step : (p : Place) (h : Hand) (word raw : ℕ) (queue : List Noted) (b : Bool) (e : Event) (a : ℕ) → cond b (first_persist queue) None ≡ Some e →
    Counts (confirm_asked p) confirm_tally h.tally e a (confirm_begun p (begun (record h { queue = queue }) word raw) a None)
first-persist-step p h word raw queue false e a is = absurd (cc)
first-persist-step p h word raw [] true e a is = absurd (cc)
first-persist-step p h word raw (n ∷ ns) true e a is =
    let e_is : persist_of n ≡ e = cc in
    counts-wrote (confirm_asked p) confirm_tally h e a _ (rw (← e_is) refl)
    (confirm-room-keeps p (record { hand = record (with_persist h) { queue = ns }; word = word; raw = raw; at = Begins }) ns)

confirm-begins-step : (p : Place) (h : Hand) (word raw : ℕ) (slot : Option ℕ) (e : Event) (a : ℕ) → confirm_begins p (begun h word raw) slot ≡ Some e →
    Counts (confirm_asked p) confirm_tally h.tally e a (confirm_begun p (begun h word raw) a slot)
confirm-begins-step p h word raw None e a is = first-persist-step p h word raw h.queue (shown p.counted raw None && is_full h.queue) e a is
confirm-begins-step p h word raw (Some slot) e a is =
    let e_is : ReadTag slot ≡ e = cc in
    counts-other (confirm_asked p) confirm_tally h.tally e a _ (rw (← e_is) refl) (confirm-judges-keeps p (begun h word raw) (shown p.counted raw (Some a)))

confirm-step : (p : Place) (h : Hand) (word raw : ℕ) (at : Confirming) (e : Event) (a : ℕ) →
    confirm_asked p (record { hand = h; word = word; raw = raw; at = at }) ≡ Some e →
    Counts (confirm_asked p) confirm_tally h.tally e a (confirm_taken p (record { hand = h; word = word; raw = raw; at = at }) a)
confirm-step p h word raw Begins e a is = confirm-begins-step p h word raw (p.slot word) e a is
confirm-step p h word raw (Confirm_room n) e a is =
    let e_is : persist_of n ≡ e = cc in
    counts-wrote (confirm_asked p) confirm_tally h e a _ (rw (← e_is) refl)
    (confirm-room-keeps p (record { hand = with_persist h; word = word; raw = raw; at = Confirm_room n }) h.queue)
confirm-step p h word raw Done e a is = absurd (cc)

pub confirm-so-far : (p : Place) (hand : Hand) (word raw : ℕ) (list : List AnsweredEvent) (m : HeldConfirm) → ConfirmComes p hand word raw list m →
    IsSome (confirm_asked p m) → m.hand.tally ≡ counted hand.tally list
confirm-so-far p hand word raw list m comes more =
    tally-so-far (confirm_asked p) (confirm_taken p) confirm_tally (λ m e a is. confirm-step p m.hand m.word m.raw m.at e a is) list (begun hand word raw) m
    comes more

-- ---- Fence and Complete

fence-step : (h : Hand) (queue : List Noted) (e : Event) (a : ℕ) → fence_asked (record { hand = record h { queue = queue } }) ≡ Some e →
    Counts fence_asked (λ m. m.hand.tally) h.tally e a (fence_taken (record { hand = record h { queue = queue } }) a)
fence-step h [] e a is = absurd (cc)
fence-step h (n ∷ ns) e a is =
    let e_is : persist_of n ≡ e = cc in
    inr (wrote h e a (rw (← e_is) refl))

pub fence-so-far : (hand : Hand) (list : List AnsweredEvent) (m : HeldFence) → FenceComes hand list m → IsSome (fence_asked m) →
    m.hand.tally ≡ counted hand.tally list
fence-so-far hand list m comes more =
    tally-so-far fence_asked fence_taken (λ m. m.hand.tally) (λ m e a is. fence-step m.hand m.hand.queue e a is) list (record { hand = hand }) m comes more

complete-step : (h : Hand) (queue : List Noted) (e : Event) (a : ℕ) → complete_asked (record { fence = record { hand = record h { queue = queue } } }) ≡ Some e
    →
    Counts complete_asked (λ m. m.fence.hand.tally) h.tally e a (complete_taken (record { fence = record { hand = record h { queue = queue } } }) a)
complete-step h [] e a is = absurd (cc)
complete-step h (n ∷ ns) e a is =
    let e_is : persist_of n ≡ e = cc in
    inr (wrote h e a (rw (← e_is) refl))

pub complete-so-far : (hand : Hand) (list : List AnsweredEvent) (m : HeldComplete) → CompleteComes hand list m → IsSome (complete_asked m) →
    m.fence.hand.tally ≡ counted hand.tally list
complete-so-far hand list m comes more =
    tally-so-far complete_asked complete_taken (λ m. m.fence.hand.tally) (λ m e a is. complete-step m.fence.hand m.fence.hand.queue e a is) list
    (record { fence = record { hand = hand } }) m comes more

-- ---- Evict

pub evict-so-far : (hand : Hand) (word : ℕ) (list : List AnsweredEvent) (m : Evict) → EvictComes hand word list m → IsSome (evict_asked m) →
    m.hand.tally ≡ counted hand.tally list
evict-so-far hand word list m comes more =
    tally-so-far evict_asked evict_taken (λ m. m.hand.tally) (λ m e a is. step m.hand m.word m.at e a is) list
    (record { hand = hand; word = word; at = Evict_reads }) m comes more
  where
    step : (h : Hand) (word : ℕ) (at : Evicting) (e : Event) (a : ℕ) → evict_asked (record { hand = h; word = word; at = at }) ≡ Some e →
        Counts evict_asked (λ m. m.hand.tally) h.tally e a (evict_taken (record { hand = h; word = word; at = at }) a)
    step h word Evict_reads e a is = let e_is : Load word ≡ e = cc in inr (other h.tally e a (rw (← e_is) refl))
    step h word (Evict_writes raw) e a is = inl refl
    step h word Evict_done e a is = absurd (cc)

-- ---- PExchange

module _ (p : Place) (word from to : ℕ) where
  abbrev exchange_tally : HeldExchange → Tally
  exchange_tally m = m.hand.tally

  abbrev at_phase : Hand → Exchanging → HeldExchange
  at_phase h at = record { hand = h; word = word; from = from; to = to; at = at }

  -- it goes on, or has ended
  abbrev KeepsIt : Hand → HeldExchange → Type 0
  KeepsIt h next = Keeps (exchange_asked p) exchange_tally h.tally next

  goes-keeps : (h : Hand) (won : Bool) (one two : Exchanging) → KeepsIt h (at_phase h (cond won one two))
  goes-keeps h won one two = inr refl

  again-keeps : (m : HeldExchange) (found : ℕ) (again : Bool) → Keeps (exchange_asked p) exchange_tally m.hand.tally
      (cond again (exchange_at m TriesBare) (exchange_loses m found))
  again-keeps m found true = inr refl
  again-keeps m found false = inl refl

  decides-keeps : (m : HeldExchange) (found : ℕ) (won again : Bool) → Keeps (exchange_asked p) exchange_tally m.hand.tally
      (cond won (exchange_at m WritesBack) (cond again (exchange_at m TriesBare) (exchange_loses m found)))
  decides-keeps m found true again = inr refl
  decides-keeps m found false again = again-keeps m found again

  bare-keeps : (m : HeldExchange) (found : ℕ) (won : Bool) → Keeps (exchange_asked p) exchange_tally m.hand.tally
      (cond won (exchange_at m WritesBack) (exchange_loses m found))
  bare-keeps m found true = inr refl
  bare-keeps m found false = inl refl

  withdrawn : (h : Hand) (slot : Option ℕ) → is_persist (withdraw_asks p (at_phase h Withdraws) slot) ≡ false
  withdrawn h None = refl
  withdrawn h (Some slot) = refl

  ready-step : (h : Hand) (queue : List Noted) (slot : Option ℕ) (e : Event) (a : ℕ) → h.queue ≡ queue →
      Some (ready_asks p (at_phase h Ready) queue slot) ≡ Some e →
      Counts (exchange_asked p) exchange_tally h.tally e a (ready_takes (at_phase h Ready) a queue slot)
  ready-step h (n ∷ ns) slot e a q is = let e_is : persist_of n ≡ e = cc in inr (wrote h e a (rw (← e_is) refl))
  ready-step h [] (Some slot) e a q is = let e_is : Raise slot ≡ e = cc in inr (other h.tally e a (rw (← e_is) refl))
  ready-step h [] None e a q is =
      let e_is : Exchange word from (dressed p.counted to) ≡ e = cc in
      counts-other (exchange_asked p) exchange_tally h.tally e a _ (rw (← e_is) refl)
      (decides-keeps (at_phase h Ready) a (a == from) (is_tagged from && a == bare_of from))

  exchange-step : (h : Hand) (at : Exchanging) (e : Event) (a : ℕ) → exchange_asked p (at_phase h at) ≡ Some e →
      Counts (exchange_asked p) exchange_tally h.tally e a (exchange_taken p (at_phase h at) a)
  exchange-step h Ready e a is = ready-step h h.queue (p.slot word) e a refl is
  exchange-step h (Tries slot) e a is = let e_is : Exchange word from (dressed p.counted to) ≡ e = cc in inr (other h.tally e a (rw (← e_is) refl))
  exchange-step h TriesBare e a is =
      let e_is : Exchange word (bare_of from) (dressed p.counted to) ≡ e = cc in
      counts-other (exchange_asked p) exchange_tally h.tally e a _ (rw (← e_is) refl) (bare-keeps (at_phase h TriesBare) a (a == bare_of from))
  exchange-step h WritesBack e a is = let e_is : Persist word to ≡ e = cc in inr (wrote h e a (rw (← e_is) refl))
  exchange-step h Withdraws e a is = inl refl
  exchange-step h (Lowers slot found) e a is = inl refl
  exchange-step h (Ended how) e a is = absurd (cc)

started-tally : (h : Hand) (worn : Bool) (x y : HeldExchange) → x.hand ≡ h → y.hand ≡ h → (cond worn x y).hand.tally ≡ h.tally
started-tally h true x y is_x is_y = ap (λ k. k.tally) is_x
started-tally h false x y is_x is_y = ap (λ k. k.tally) is_y

pub exchange-so-far : (p : Place) (hand : Hand) (word old value limit : ℕ) (list : List AnsweredEvent) (m : HeldExchange) →
    ExchangeComes p hand word old value limit list m → IsSome (exchange_asked p m) → m.hand.tally ≡ counted hand.tally list
exchange-so-far p hand word old value limit list m comes more =
    tally-so-far (exchange_asked p) (exchange_taken p) (λ m. m.hand.tally) (λ m e a is. exchange-step p m.word m.from m.to m.hand m.at e a is) list
    (exchange_started hand word old value limit) m comes more
    ∙ ap (λ t. counted t list) (started-tally hand (nat_le limit (version_of old)) _ _ refl refl)

-- ---- VExchange

v-started-tally : (h : Hand) (worn : Bool) (x y : HeldVExchange) → x.hand ≡ h → y.hand ≡ h → (cond worn x y).hand.tally ≡ h.tally
v-started-tally h true x y is_x is_y = ap (λ k. k.tally) is_x
v-started-tally h false x y is_x is_y = ap (λ k. k.tally) is_y

pub v-exchange-so-far : (hand : Hand) (word old value limit : ℕ) (list : List AnsweredEvent) (m : HeldVExchange) →
    VExchangeComes hand word old value limit list m → IsSome (v_exchange_asked m) → m.hand.tally ≡ counted hand.tally list
v-exchange-so-far hand word old value limit list m comes more =
    tally-so-far v_exchange_asked v_exchange_taken (λ m. m.hand.tally) (λ m e a is. step m.hand m.word m.from m.to m.at e a is) list
    (v_exchange_started hand word old value limit) m comes more
    ∙ ap (λ t. counted t list) (v-started-tally hand (nat_le limit (version_of old)) _ _ refl refl)
  where
    step : (h : Hand) (word from to : ℕ) (at : VExchanging) (e : Event) (a : ℕ) →
        v_exchange_asked (record { hand = h; word = word; from = from; to = to; at = at }) ≡ Some e →
        Counts v_exchange_asked (λ m. m.hand.tally) h.tally e a (v_exchange_taken (record { hand = h; word = word; from = from; to = to; at = at }) a)
    step h word from to V_tries e a is = inl refl
    step h word from to (V_ended how) e a is = absurd (cc)

-- ---- PrivateStore

abbrev store_tally : HeldStore → Tally
store_tally m = m.hand.tally

next-keeps : (m : HeldStore) (ready : List Noted) → store_tally (store_next m ready) ≡ m.hand.tally
next-keeps m [] = refl
next-keeps m (n ∷ ns) = refl

decides-store-keeps : (m : HeldStore) (how : Stored) → store_tally (store_decides m how) ≡ m.hand.tally
decides-store-keeps m All_stored = next-keeps m m.drafts.ready
decides-store-keeps m (Worn word version) = refl

goes-store-keeps : (m : HeldStore) (how : Stored) (values : List ℕ) → store_tally (store_goes_on m how values) ≡ m.hand.tally
goes-store-keeps m how [] = decides-store-keeps m how
goes-store-keeps m how (v ∷ vs) = refl

room-store-keeps : (m : HeldStore) (next : Noted) (queue : List Noted) → store_tally (store_room m next queue) ≡ m.hand.tally
room-store-keeps m next [] = refl
room-store-keeps m next (n ∷ ns) = refl

written-step : (h : Hand) (d : DraftWords) (next : Noted) (queue : List Noted) (full : Bool) (e : Event) (a : ℕ) → is_full queue ≡ full →
    cond full (first_persist queue) (Some (Store next.word next.kept)) ≡ Some e →
    Counts store_asked store_tally h.tally e a (store_written (record { hand = record h { queue = queue }; drafts = d; at = Writes next }) next)
written-step h d next [] true e a full is = absurd (cc)
written-step h d next (n ∷ ns) true e a full is =
    let e_is : persist_of n ≡ e = cc in
    rw full (inr (room-store-keeps (record { hand = record (with_persist h) { queue = ns }; drafts = d; at = Writes next }) next ns
    ∙ wrote h e a (rw (← e_is) refl)))
written-step h d next queue false e a full is =
    let e_is : Store next.word next.kept ≡ e = cc in
    rw full (inr (next-keeps (record { hand = record h { queue = queue ++ next ∷ [] }; drafts = d; at = Writes next }) d.ready
    ∙ other h.tally e a (rw (← e_is) refl)))

store-step : (h : Hand) (d : DraftWords) (at : Storing) (e : Event) (a : ℕ) → store_asked (record { hand = h; drafts = d; at = at }) ≡ Some e →
    Counts store_asked store_tally h.tally e a (store_taken (record { hand = h; drafts = d; at = at }) a)
store-step h d (Store_reads how) e a is =
    let e_is : Load d.word ≡ e = cc in
    let drafts = draft_read d a d.values in
    inr (goes-store-keeps (record { hand = h; drafts = drafts; at = Store_reads how }) (cond (is_worn d a) (worn_at how d.word (version_of a)) how)
    drafts.values ∙ other h.tally e a (rw (← e_is) refl))
store-step h d (Writes next) e a is = written-step h d next h.queue (is_full h.queue) e a refl is
store-step h d (Store_room next n) e a is =
    let e_is : persist_of n ≡ e = cc in
    inr (room-store-keeps (record { hand = with_persist h; drafts = d; at = Store_room next n }) next h.queue ∙ wrote h e a (rw (← e_is) refl))
store-step h d (Store_ended how) e a is = absurd (cc)

pub store-so-far : (hand : Hand) (first : ℕ) (values : List ℕ) (limit : ℕ) (list : List AnsweredEvent) (m : HeldStore) →
    StoreComes hand first values limit list m → IsSome (store_asked m) → m.hand.tally ≡ counted hand.tally list
store-so-far hand first values limit list m comes more =
    tally-so-far store_asked store_taken store_tally (λ m e a is. store-step m.hand m.drafts m.at e a is) list (store_started hand first values limit) m comes
    more
    ∙ ap (λ t. counted t list) (goes-store-keeps (record { hand = hand; drafts = drafts_from first values limit; at = Store_ended All_stored }) All_stored
    values)
