-- Each event of a machine leaves fewer to go.
use Rattle.std.proofs.Common.{◌≡◌, ℕ, suc, ◌+◌, ◌*◌, ◌<◌, ◌≤◌, ◌==◌, ◌&&◌, Bool, true, false, List, [], ◌∷◌, ◌++◌, length, length-append, Option, Some, None, refl, sym, subst, arith, if◌then◌else◌}
use Rattle.std.proofs.lemmas.Option.{none-some}
use Rattle.flit_words.specs.Words.{is_tagged, bare_of, version_of}
use Rattle.flit_model.specs.declared.events.Event.{Event}
use Rattle.flit_model.specs.declared.events.Event.TheVariants.{Store}
use Rattle.flit_place.specs.Tags.{Place, shown}
use Rattle.flit_pv.specs.declared.queues.Noted.{Noted}
use Rattle.flit_pv.specs.declared.hands.Hand.{Hand}
use Rattle.flit_pv.specs.declared.loads.Loading.{Loading}
use Rattle.flit_pv.specs.declared.loads.Loading.TheVariants.{Reads as Load_reads, Asks, MakesRoom as Load_makes_room, Has}
use Rattle.flit_pv.specs.declared.v_loads.VLoading.{VLoading}
use Rattle.flit_pv.specs.declared.v_loads.VLoading.TheVariants.{Reads as V_reads, Has as V_has}
use Rattle.flit_pv.specs.declared.confirms.Confirming.{Confirming}
use Rattle.flit_pv.specs.declared.confirms.Confirming.TheVariants.{Begins, MakesRoom as Confirm_makes_room, Done as Confirm_done}
use Rattle.flit_pv.specs.declared.exchanges.Exchanging.{Exchanging}
use Rattle.flit_pv.specs.declared.exchanges.Exchanging.TheVariants.{Ready, Tries, TriesBare, WritesBack, Withdraws, Lowers, Ended}
use Rattle.flit_pv.specs.declared.v_exchanges.VExchanging.{VExchanging}
use Rattle.flit_pv.specs.declared.v_exchanges.VExchanging.TheVariants.{Tries as V_tries, Ended as V_ended}
use Rattle.flit_pv.specs.declared.stores.Storing.{Storing}
use Rattle.flit_pv.specs.declared.stores.Storing.TheVariants.{Reads as Store_reads, MakesRoom as Store_makes_room, Writes, Ended as Store_ended}
use Rattle.flit_pv.specs.declared.stores.Stored.{Stored}
use Rattle.flit_pv.specs.declared.stores.Stored.TheVariants.{Stored as All_stored, Worn as Store_worn}
use Rattle.flit_pv.specs.declared.evicts.Evict.{Evict}
use Rattle.flit_pv.specs.declared.evicts.Evicting.{Evicting}
use Rattle.flit_pv.specs.declared.evicts.Evicting.TheVariants.{Reads as Evict_reads, WritesBack as Evict_writes_back, Done as Evict_done}
use Rattle.flit_pv.specs.Queues.{is_full, noted, first_persist}
use Rattle.flit_pv.specs.Hands.{with_persist, with_pair, fenced_one}
use Rattle.flit_pv.specs.Loads.{HeldLoad, load_asks, load_takes, load_room, load_notes, load_omits, load_queues, load_judges, load_reads}
use Rattle.flit_pv.specs.VLoads.{HeldVLoad, v_load_asks, v_load_takes}
use Rattle.flit_pv.specs.Confirms.{HeldConfirm, confirm_asks, confirm_takes, confirm_begun, confirm_room, confirm_notes, confirm_omits, confirm_queues}
use Rattle.flit_pv.specs.Exchanges.{HeldExchange, exchange_asks, exchange_takes, exchange_loses, exchange_at, tries_again, ready_takes}
use Rattle.flit_pv.specs.VExchanges.{HeldVExchange, v_exchange_asks, v_exchange_takes}
use Rattle.flit_pv.specs.Drafts.{DraftWords, draft_read, is_worn, next_bare}
use Rattle.flit_pv.specs.Stores.{HeldStore, store_asks, store_takes, store_room, store_next, store_decides, store_goes_on, worn_at}
use Rattle.flit_pv.specs.Evicts.{evict_asks, evict_takes}
use Rattle.flit_crew_bounds.specs.Left.{load_left, v_load_left, confirm_left, exchange_left, v_exchange_left, drafts_left, store_left, evict_left}

-- ---- queues

pub fenced_shorter : (h : Hand) (queue : List Noted) (e : Event) → h.queue ≡ queue → first_persist queue ≡ Some e →
    length (fenced_one h queue).queue < length h.queue
fenced_shorter h [] e is q = absurd (none-some e q)
fenced_shorter h (n ∷ ns) e is q = subst (λ xs. length ns < length xs) (sym is) (omega arith)

fenced_least : (h : Hand) (queue : List Noted) → h.queue ≡ queue → length (fenced_one h queue).queue ≤ length h.queue
fenced_least h [] is = omega arith
fenced_least h (n ∷ ns) is = subst (λ xs. length ns ≤ length xs) (sym is) (omega arith)

-- ---- loads

abbrev load_total : HeldLoad → ℕ
load_total m = load_left m.at + length m.hand.queue

load_queued : (m : HeldLoad) (raw : ℕ) → load_total (load_queues m raw) ≡ 1 + length m.hand.queue
load_queued m raw = turned (length m.hand.queue) (length (m.hand.queue ++ noted m.word (bare_of raw) ∷ []))
    (length-append m.hand.queue (noted m.word (bare_of raw) ∷ []))
  where
    turned : (q r : ℕ) → r ≡ q + 1 → 0 + r ≡ 1 + q
    turned q r e = omega (arith, e)

load_roomed : (m : HeldLoad) (raw : ℕ) (queue : List Noted) → m.hand.queue ≡ queue → load_total (load_room m raw queue) ≤ 1 + length m.hand.queue
load_roomed m raw [] is = omega (arith, load_queued m raw)
load_roomed m raw (n ∷ ns) is = subst (λ xs. 2 + length ns ≤ 1 + length xs) (sym is) (omega arith)

load_judged : (m : HeldLoad) (raw : ℕ) (b : Bool) → load_total (if b then load_notes m raw else load_omits m raw) ≤ 1 + length m.hand.queue
load_judged m raw true = by_room (is_full m.hand.queue)
  where
    by_room : (b : Bool) → load_total (if b then load_room m raw m.hand.queue else load_queues m raw) ≤ 1 + length m.hand.queue
    by_room true = load_roomed m raw m.hand.queue refl
    by_room false = omega (arith, load_queued m raw)
load_judged m raw false = omega arith

load_first : (p : Place) (m : HeldLoad) (raw : ℕ) (slot : Option ℕ) → load_total (load_reads p m raw slot) ≤ 2 + length m.hand.queue
load_first p m raw None = more (load_total (load_judges p m raw None)) (length m.hand.queue) (load_judged m raw (shown p.counted raw None))
  where
    more : (a b : ℕ) → a ≤ 1 + b → a ≤ 2 + b
    more a b h = omega (arith, h)
load_first p m raw (Some slot) = omega arith

less_one : (a b : ℕ) → a ≤ 1 + b → a < 2 + b
less_one a b h = omega (arith, h)

less_two : (a b : ℕ) → a ≤ 2 + b → a < 3 + b
less_two a b h = omega (arith, h)

pub load_falls : (p : Place) (m : HeldLoad) (told : ℕ) (at : Loading) (e : Event) → load_asks at m ≡ Some e →
    load_total (load_takes p at m told) < load_left at + length m.hand.queue
load_falls p m told Load_reads e q = less_two (load_total (load_reads p m told (p.slot m.word))) (length m.hand.queue) (load_first p m told (p.slot m.word))
load_falls p m told (Asks raw slot) e q = less_one (load_total (load_judges p m raw (Some told))) (length m.hand.queue)
    (load_judged m raw (shown p.counted raw (Some told)))
load_falls p m told (Load_makes_room raw first) e q =
    less_one (load_total (load_room (record m { hand = with_persist m.hand }) raw m.hand.queue)) (length m.hand.queue)
    (load_roomed (record m { hand = with_persist m.hand }) raw m.hand.queue refl)
load_falls p m told (Has raw) e q = absurd (none-some e q)

pub v_load_falls : (m : HeldVLoad) (told : ℕ) (at : VLoading) (e : Event) → v_load_asks at m ≡ Some e →
    v_load_left (v_load_takes at m told).at + length (v_load_takes at m told).hand.queue < v_load_left at + length m.hand.queue
v_load_falls m told V_reads e q = omega arith
v_load_falls m told (V_has raw) e q = absurd (none-some e q)

-- ---- a confirmation

abbrev confirm_total : HeldConfirm → ℕ
confirm_total m = confirm_left m.at + length m.hand.queue

confirm_queued : (m : HeldConfirm) → confirm_total (confirm_queues m) ≡ 1 + length m.hand.queue
confirm_queued m = turned (length m.hand.queue) (length (m.hand.queue ++ noted m.word (bare_of m.raw) ∷ []))
    (length-append m.hand.queue (noted m.word (bare_of m.raw) ∷ []))
  where
    turned : (q r : ℕ) → r ≡ q + 1 → 0 + r ≡ 1 + q
    turned q r e = omega (arith, e)

confirm_roomed : (m : HeldConfirm) (queue : List Noted) → m.hand.queue ≡ queue → confirm_total (confirm_room m queue) ≤ 1 + length m.hand.queue
confirm_roomed m [] is = omega (arith, confirm_queued m)
confirm_roomed m (n ∷ ns) is = subst (λ xs. 2 + length ns ≤ 1 + length xs) (sym is) (omega arith)

confirm_judged : (m : HeldConfirm) (b : Bool) → confirm_total (if b then confirm_notes m else confirm_omits m) ≤ 1 + length m.hand.queue
confirm_judged m true = by_room (is_full m.hand.queue)
  where
    by_room : (b : Bool) → confirm_total (if b then confirm_room m m.hand.queue else confirm_queues m) ≤ 1 + length m.hand.queue
    by_room true = confirm_roomed m m.hand.queue refl
    by_room false = omega (arith, confirm_queued m)
confirm_judged m false = omega arith

confirm_first : (p : Place) (m : HeldConfirm) (told : ℕ) (slot : Option ℕ) → confirm_total (confirm_begun p m told slot) ≤ 1 + length m.hand.queue
confirm_first p m told None =
    let hand : Hand = fenced_one m.hand m.hand.queue in
    through (confirm_total (confirm_room (record m { hand = hand }) hand.queue)) (length hand.queue) (length m.hand.queue)
    (confirm_roomed (record m { hand = hand }) hand.queue refl) (fenced_least m.hand m.hand.queue refl)
  where
    through : (a b d : ℕ) → a ≤ 1 + b → b ≤ d → a ≤ 1 + d
    through a b d h i = omega (arith, h, i)
confirm_first p m told (Some slot) = confirm_judged m (shown p.counted m.raw (Some told))

pub confirm_falls : (p : Place) (m : HeldConfirm) (told : ℕ) (at : Confirming) (e : Event) → confirm_asks p at m ≡ Some e →
    confirm_total (confirm_takes p at m told) < confirm_left at + length m.hand.queue
confirm_falls p m told Begins e q = less_one (confirm_total (confirm_begun p m told (p.slot m.word))) (length m.hand.queue)
    (confirm_first p m told (p.slot m.word))
confirm_falls p m told (Confirm_makes_room first) e q =
    less_one (confirm_total (confirm_room (record m { hand = with_persist m.hand }) m.hand.queue)) (length m.hand.queue)
    (confirm_roomed (record m { hand = with_persist m.hand }) m.hand.queue refl)
confirm_falls p m told Confirm_done e q = absurd (none-some e q)

-- ---- exchanges

abbrev exchange_total : HeldExchange → ℕ
exchange_total m = exchange_left m.at + length m.hand.queue

tried_again : (m : HeldExchange) (found : ℕ) (b : Bool) →
    exchange_total (if b then exchange_at m TriesBare else exchange_loses m found) < 4 + length m.hand.queue
tried_again m found true = omega arith
tried_again m found false = omega arith

ready_falls : (m : HeldExchange) (told : ℕ) (queue : List Noted) (slot : Option ℕ) → m.at ≡ Ready → m.hand.queue ≡ queue →
    exchange_total (ready_takes m told queue slot) < 4 + length m.hand.queue
ready_falls m told (n ∷ ns) slot at is = subst (λ x. exchange_left x + length ns < 4 + length m.hand.queue) (sym at)
    (subst (λ xs. 4 + length ns < 4 + length xs) (sym is) (omega arith))
ready_falls m told [] (Some slot) at is = omega arith
ready_falls m told [] None at is = by_test (told == m.from)
  where
    by_test : (b : Bool) → exchange_total (if b then exchange_at m WritesBack else tries_again m told) < 4 + length m.hand.queue
    by_test true = omega arith
    by_test false = tried_again m told (is_tagged m.from && (told == bare_of m.from))

tries_fall : (m : HeldExchange) (told slot : ℕ) (b : Bool) →
    exchange_total (exchange_at m (if b then WritesBack else Lowers slot told)) < 3 + length m.hand.queue
tries_fall m told slot true = omega arith
tries_fall m told slot false = omega arith

bare_falls : (m : HeldExchange) (told : ℕ) (b : Bool) → exchange_total (if b then exchange_at m WritesBack else exchange_loses m told) < 3 + length m.hand.queue
bare_falls m told true = omega arith
bare_falls m told false = omega arith

pub exchange_falls : (p : Place) (m : HeldExchange) (told : ℕ) (at : Exchanging) (e : Event) → m.at ≡ at → exchange_asks p at m ≡ Some e →
    exchange_total (exchange_takes p at m told) < exchange_left at + length m.hand.queue
exchange_falls p m told Ready e is q = ready_falls m told m.hand.queue (p.slot m.word) is refl
exchange_falls p m told (Tries slot) e is q = tries_fall m told slot (told == m.from)
exchange_falls p m told TriesBare e is q = bare_falls m told (told == bare_of m.from)
exchange_falls p m told WritesBack e is q = omega arith
exchange_falls p m told Withdraws e is q = omega arith
exchange_falls p m told (Lowers slot found) e is q = omega arith
exchange_falls p m told (Ended how) e is q = absurd (none-some e q)

pub v_exchange_falls : (m : HeldVExchange) (told : ℕ) (at : VExchanging) (e : Event) → v_exchange_asks at m ≡ Some e →
    v_exchange_left (v_exchange_takes at m told).at + length (v_exchange_takes at m told).hand.queue < v_exchange_left at + length m.hand.queue
v_exchange_falls m told V_tries e q = omega arith
v_exchange_falls m told (V_ended how) e q = absurd (none-some e q)

pub evict_falls : (m : Evict) (told : ℕ) (at : Evicting) (e : Event) → evict_asks at m ≡ Some e →
    evict_left (evict_takes at m told).at + length (evict_takes at m told).hand.queue < evict_left at + length m.hand.queue
evict_falls m told Evict_reads e q = omega arith
evict_falls m told (Evict_writes_back raw) e q = omega arith
evict_falls m told Evict_done e q = absurd (none-some e q)

-- ---- stores

abbrev store_total : HeldStore → ℕ
store_total m = store_left m.at m.drafts + length m.hand.queue

next_left : (m : HeldStore) (ready : List Noted) → store_total (store_next m ready) ≤ 2 * length ready + length m.hand.queue
next_left m [] = omega arith
next_left m (x ∷ xs) = omega arith

decides_left : (m : HeldStore) (how : Stored) → store_total (store_decides m how) ≤ 2 * length m.drafts.ready + length m.hand.queue
decides_left m All_stored = next_left m m.drafts.ready
decides_left m (Store_worn word version) = omega arith

goes_on_left : (m : HeldStore) (how : Stored) (values : List ℕ) → m.drafts.values ≡ values →
    store_total (store_goes_on m how values) ≤ 3 * length values + 2 * length m.drafts.ready + length m.hand.queue
goes_on_left m how [] is = omega (arith, decides_left m how)
goes_on_left m how (v ∷ vs) is = subst (λ xs. drafts_left xs + 2 * length m.drafts.ready + length m.hand.queue
    ≤ 3 * length (v ∷ vs) + 2 * length m.drafts.ready + length m.hand.queue) (sym is) (omega arith)

ready_more : (b : Bool) (ready : List Noted) (x : Noted) → length (if b then ready else ready ++ x ∷ []) ≤ length ready + 1
ready_more true ready x = omega arith
ready_more false ready x = omega (arith, length-append ready (x ∷ []))

-- a word is loaded
reads_fall : (m : HeldStore) (how : Stored) (told : ℕ) (values : List ℕ) → m.drafts.values ≡ values →
    store_total (store_goes_on (record m { drafts = draft_read m.drafts told values }) how (draft_read m.drafts told values).values)
    < drafts_left values + 2 * length m.drafts.ready + length m.hand.queue
reads_fall m how told [] is = subst (λ xs. store_total (store_goes_on m how xs) < 1 + 2 * length m.drafts.ready + length m.hand.queue) (sym is)
    (less (store_total (store_goes_on m how [])) (2 * length m.drafts.ready) (length m.hand.queue) (goes_on_left m how [] is))
  where
    less : (a r q : ℕ) → a ≤ 3 * 0 + r + q → a < 1 + r + q
    less a r q h = omega (arith, h)
reads_fall m how told (v ∷ vs) is =
    let drafts : DraftWords = draft_read m.drafts told (v ∷ vs) in
    less (store_total (store_goes_on (record m { drafts = drafts }) how vs)) (length vs) (length drafts.ready) (length m.drafts.ready) (length m.hand.queue)
    (goes_on_left (record m { drafts = drafts }) how vs refl)
    (ready_more (is_worn m.drafts told) m.drafts.ready (noted m.drafts.word (next_bare told v)))
  where
    less : (a n r s q : ℕ) → a ≤ 3 * n + 2 * r + q → r ≤ s + 1 → a < 3 * suc n + 2 * s + q
    less a n r s q h i = omega (arith, h, i)

-- a pair is written back to make room
room_left : (m : HeldStore) (next : Noted) (queue : List Noted) → m.hand.queue ≡ queue →
    store_total (store_room m next queue) ≤ 2 + 2 * length m.drafts.ready + length m.hand.queue
room_left m next [] is = omega arith
room_left m next (x ∷ xs) is = subst (λ ys. 3 + 2 * length m.drafts.ready + length xs ≤ 2 + 2 * length m.drafts.ready + length ys) (sym is) (omega arith)

-- the first pair of a full queue is written back, or a word is stored
written_falls : (m : HeldStore) (next : Noted) (queue : List Noted) (b : Bool) (e : Event) → m.hand.queue ≡ queue →
    (if b then first_persist queue else Some (Store next.word next.kept)) ≡ Some e →
    store_total (if b then (let hand = fenced_one m.hand queue in store_room (record m { hand = hand }) next hand.queue)
    else store_next (record m { hand = with_pair m.hand next }) m.drafts.ready) < 2 + 2 * length m.drafts.ready + length m.hand.queue
written_falls m next queue true e is q =
    let hand : Hand = fenced_one m.hand queue in
    less (store_total (store_room (record m { hand = hand }) next hand.queue)) (2 * length m.drafts.ready) (length hand.queue) (length m.hand.queue)
    (room_left (record m { hand = hand }) next hand.queue refl) (fenced_shorter m.hand queue e is q)
  where
    less : (a r h q : ℕ) → a ≤ 2 + r + h → h < q → a < 2 + r + q
    less a r h q i j = omega (arith, i, j)
written_falls m next queue false e is q =
    less (store_total (store_next (record m { hand = with_pair m.hand next }) m.drafts.ready)) (2 * length m.drafts.ready)
    (length (m.hand.queue ++ next ∷ [])) (length m.hand.queue)
    (next_left (record m { hand = with_pair m.hand next }) m.drafts.ready) (length-append m.hand.queue (next ∷ []))
  where
    less : (a r h q : ℕ) → a ≤ r + h → h ≡ q + 1 → a < 2 + r + q
    less a r h q i j = omega (arith, i, j)

pub store_falls : (m : HeldStore) (told : ℕ) (at : Storing) (e : Event) → store_asks at m ≡ Some e →
    store_total (store_takes at m told) < store_left at m.drafts + length m.hand.queue
store_falls m told (Store_reads how) e q =
    reads_fall m (if is_worn m.drafts told then worn_at how m.drafts.word (version_of told) else how) told m.drafts.values refl
store_falls m told (Writes next) e q = written_falls m next m.hand.queue (is_full m.hand.queue) e refl q
store_falls m told (Store_makes_room next first) e q =
    less (store_total (store_room (record m { hand = with_persist m.hand }) next m.hand.queue)) (2 * length m.drafts.ready) (length m.hand.queue)
    (room_left (record m { hand = with_persist m.hand }) next m.hand.queue refl)
  where
    less : (a r q : ℕ) → a ≤ 2 + r + q → a < 3 + r + q
    less a r q h = omega (arith, h)
store_falls m told (Store_ended how) e q = absurd (none-some e q)
