-- Each event of a machine leaves fewer to go: a TakeRow, and all machines.
use Rattle.std.proofs.Common.{◌≡◌, ◌≢◌, ℕ, zero, suc, ◌+◌, ◌<◌, ◌≤◌, ◌==◌, ◌&&◌, not, max, Bool, true, false, cond, List, [], ◌∷◌, length, Option, Some, None, is_none, refl, sym, ◌∙◌, ap, arith, slice_get}
use Rattle.std.proofs.lemmas.Bool.{false≢true}
use Rattle.std.proofs.lemmas.Option.{none-some}
use Rattle.std.specs.List.{AllByRecursion}
use Rattle.flit_model.specs.declared.events.Event.{Event}
use Rattle.flit_model.specs.declared.events.Event.TheVariants.{Store}
use Rattle.flit_place.specs.Tags.{Place, shown}
use Rattle.flit_pv.specs.declared.queues.Noted.{Noted}
use Rattle.flit_pv.specs.declared.hands.Hand.{Hand}
use Rattle.flit_pv.specs.declared.loads.Loading.{Loading}
use Rattle.flit_pv.specs.declared.loads.Loading.TheVariants.{Reads as Load_reads, Asks, MakesRoom as Load_makes_room, Has}
use Rattle.flit_pv.specs.declared.v_loads.VLoading.{VLoading}
use Rattle.flit_pv.specs.declared.v_loads.VLoading.TheVariants.{Reads as V_reads, Has as V_has}
use Rattle.flit_pv.specs.declared.confirms.Confirming.{Confirming}
use Rattle.flit_pv.specs.declared.confirms.Confirming.TheVariants.{Begins, MakesRoom as Confirm_makes_room, Done as Confirm_done}
use Rattle.flit_pv.specs.declared.exchanges.Exchanging.{Exchanging}
use Rattle.flit_pv.specs.declared.exchanges.Exchanging.TheVariants.{Ready, Tries, TriesBare, WritesBack, Withdraws, Lowers, Ended}
use Rattle.flit_pv.specs.declared.v_exchanges.VExchanging.{VExchanging}
use Rattle.flit_pv.specs.declared.v_exchanges.VExchanging.TheVariants.{Tries as V_tries, Ended as V_ended}
use Rattle.flit_pv.specs.declared.stores.Storing.{Storing}
use Rattle.flit_pv.specs.declared.stores.Storing.TheVariants.{Reads as Store_reads, MakesRoom as Store_makes_room, Writes, Ended as Store_ended}
use Rattle.flit_pv.specs.declared.evicts.Evict.{Evict}
use Rattle.flit_pv.specs.declared.evicts.Evicting.{Evicting}
use Rattle.flit_pv.specs.declared.evicts.Evicting.TheVariants.{Reads as Evict_reads, WritesBack as Evict_writes_back, Done as Evict_done}
use Rattle.flit_pv.specs.Queues.{is_full, first_persist}
use Rattle.flit_pv.specs.Hands.{fenced_one, with_persist}
use Rattle.flit_pv.specs.Loads.{HeldLoad, load_asks, load_taken}
use Rattle.flit_pv.specs.VLoads.{v_load_asks, HeldVLoad, v_load_taken}
use Rattle.flit_pv.specs.Confirms.{HeldConfirm, confirm_asks, confirm_takes, confirm_begun, confirm_room, confirm_notes, confirm_omits, confirm_queues, confirm_taken}
use Rattle.flit_pv.specs.Exchanges.{HeldExchange, exchange_asks, exchange_taken}
use Rattle.flit_pv.specs.VExchanges.{HeldVExchange, v_exchange_asks, v_exchange_taken}
use Rattle.flit_pv.specs.Stores.{HeldStore, store_asks, store_taken}
use Rattle.flit_pv.specs.Evicts.{evict_asks, evict_taken}
use Rattle.flit_rows.specs.declared.take_row.Taking.{Taking}
use Rattle.flit_rows.specs.declared.take_row.Taking.TheVariants.{Draws, Ended as Take_ended}
use Rattle.flit_rows.specs.Taking.{HeldTake, take_asks, take_takes, judged, lacks, is_past, filled, with_row}
use Rattle.flit_rows.proofs.TakeLaws.{past_lt, past_none, from_one}
use Rattle.flit_runs.specs.Workings as run
use Rattle.flit_runs.specs.Workings.{Working, Idles, Loads, VLoads, Confirms, Exchanges, VExchanges, Stores, Fences, Completes, Evicts}
use Rattle.flit_crew.specs.Machines.{Machine, Works, Takes, machine_asks, machine_takes, hand_of, hand_in, has_ended, is_complete}
use Rattle.flit_crew_bounds.specs.Left.{missing, take_left, working_left, steps_left, machine_left, load_left, v_load_left, confirm_left, exchange_left, v_exchange_left, store_left, evict_left}
use Rattle.flit_crew_bounds.proofs.MachineLeft.{fenced_shorter, load_falls, v_load_falls, confirm_falls, exchange_falls, v_exchange_falls, store_falls, evict_falls}

-- ---- a row that is put in is one missing fewer

fewer_one : (n row r : ℕ) (rs : List ℕ) (b : Bool) → (r == 0) ≡ b → (row == 0) ≡ false → lacks (suc n) (r ∷ rs) ≡ true →
    (lacks n rs ≡ true → suc (missing n (filled row rs)) ≤ missing n rs) → suc (missing (suc n) (filled row (r ∷ rs))) ≤ missing (suc n) (r ∷ rs)
fewer_one n row r rs true e ne l rec = rw (e, ne) (omega arith)
fewer_one n row r rs false e ne l rec =
    let l' : lacks n rs ≡ true = rw e at l in
    rw (e, e) (rec l')

fewer : (n row : ℕ) (spare : List ℕ) → (row == 0) ≡ false → lacks n spare ≡ true → suc (missing n (filled row spare)) ≤ missing n spare
fewer zero row spare ne l = absurd (false≢true l)
fewer (suc n) row [] ne l = absurd (false≢true l)
fewer (suc n) row (r ∷ rs) ne l = fewer_one n row r rs (r == 0) refl ne l (fewer n row rs ne)

some_one : (n r : ℕ) (rs : List ℕ) (b : Bool) → (r == 0) ≡ b → lacks (suc n) (r ∷ rs) ≡ true → (lacks n rs ≡ true → 1 ≤ missing n rs) →
    1 ≤ missing (suc n) (r ∷ rs)
some_one n r rs true e l rec = rw e (omega arith)
some_one n r rs false e l rec = let l' : lacks n rs ≡ true = rw e at l in rw e (rec l')

some_missing : (n : ℕ) (spare : List ℕ) → lacks n spare ≡ true → 1 ≤ missing n spare
some_missing zero spare l = absurd (false≢true l)
some_missing (suc n) [] l = absurd (false≢true l)
some_missing (suc n) (r ∷ rs) l = some_one n r rs (r == 0) refl l (some_missing n rs)

-- where none is missing, none is missing then
full_one : (n row r : ℕ) (rs : List ℕ) (b : Bool) → (r == 0) ≡ b → lacks (suc n) (r ∷ rs) ≡ false → (lacks n rs ≡ false → lacks n (filled row rs) ≡ false) →
    lacks (suc n) (filled row (r ∷ rs)) ≡ false
full_one n row r rs true e l rec = let l' : true ≡ false = rw e at l in absurd (false≢true (sym l'))
full_one n row r rs false e l rec = let l' : lacks n rs ≡ false = rw e at l in rw (e, e) (rec l')

full : (n row : ℕ) (spare : List ℕ) → lacks n spare ≡ false → lacks n (filled row spare) ≡ false
full zero row spare l = refl
full (suc n) row [] l = refl
full (suc n) row (r ∷ rs) l = full_one n row r rs (r == 0) refl l (full n row rs)

judged_falls : (m : HeldTake) (told row : ℕ) → (row == 0) ≡ false → (lack past : Bool) → lacks m.need (filled row m.hand.spare) ≡ lack →
    take_left (judged lack past told) m.need (filled row m.hand.spare) < max 1 (missing m.need m.hand.spare)
judged_falls m told row ne false past l = omega arith
judged_falls m told row ne true true l = omega arith
judged_falls m told row ne true false l = by_lack (lacks m.need m.hand.spare) refl
  where
    less : (a b : ℕ) → suc a ≤ b → 1 ≤ a → max 1 a < max 1 b
    less a b h i = omega (arith, h, i)

    by_lack : (b : Bool) → lacks m.need m.hand.spare ≡ b → max 1 (missing m.need (filled row m.hand.spare)) < max 1 (missing m.need m.hand.spare)
    by_lack true e = less (missing m.need (filled row m.hand.spare)) (missing m.need m.hand.spare) (fewer m.need row m.hand.spare ne e)
        (some_missing m.need (filled row m.hand.spare) l)
    by_lack false e = absurd (false≢true (sym (full m.need row m.hand.spare e) ∙ l))

drawn_falls : (free : List ℕ) (m : HeldTake) (told : ℕ) → AllByRecursion (λ row. 1 ≤ row) free → (o : Option ℕ) → slice_get free told ≡ o →
    take_left (judged (lacks m.need (with_row o m.hand.spare)) (is_past free told) told) m.need (with_row o m.hand.spare) < max 1 (missing m.need m.hand.spare)
drawn_falls free m told ones None q = by_past (lacks m.need m.hand.spare) (is_past free told) refl
  where
    by_past : (l b : Bool) → is_past free told ≡ b → take_left (judged l b told) m.need m.hand.spare < max 1 (missing m.need m.hand.spare)
    by_past false b e = omega arith
    by_past true true e = omega arith
    by_past true false e = absurd (omega (arith, past_lt free told e, past_none free told q))
drawn_falls free m told ones (Some row) q =
    judged_falls m told row (from_one free told row ones q) (lacks m.need (filled row m.hand.spare)) (is_past free told) refl

take_falls : (free : List ℕ) (m : HeldTake) (told : ℕ) (at : Taking) (e : Event) → AllByRecursion (λ row. 1 ≤ row) free → take_asks at ≡ Some e →
    take_left (take_takes free at m told).at (take_takes free at m told).need (take_takes free at m told).hand.spare
    + length (take_takes free at m told).hand.queue
    < take_left at m.need m.hand.spare + length m.hand.queue
take_falls free m told Draws e ones q = plus (take_left (take_takes free Draws m told).at m.need (with_row (slice_get free told) m.hand.spare))
    (max 1 (missing m.need m.hand.spare)) (length m.hand.queue) (drawn_falls free m told ones (slice_get free told) refl)
  where
    plus : (a b q : ℕ) → a < b → a + q < b + q
    plus a b q h = omega (arith, h)
take_falls free m told (Take_ended took) e ones q = absurd (none-some e q)

-- ---- all machines

queue_falls : (h : Hand) (e : Event) → first_persist h.queue ≡ Some e → 0 + length (fenced_one h h.queue).queue < 0 + length h.queue
queue_falls h e q = plus (length (fenced_one h h.queue).queue) (length h.queue) (fenced_shorter h h.queue e refl q)
  where
    plus : (a b : ℕ) → a < b → 0 + a < 0 + b
    plus a b h = omega (arith, h)

working_falls : (p : Place) (w : Working) (told : ℕ) (e : Event) → run.asks p w ≡ Some e →
    working_left (run.takes p w told) + length (hand_of (run.takes p w told)).queue < working_left w + length (hand_of w).queue
working_falls p (Idles hand) told e q = absurd (none-some e q)
working_falls p (Loads m) told e q = load_falls p m told m.at e q
working_falls p (VLoads m) told e q = v_load_falls m told m.at e q
working_falls p (Confirms m) told e q = confirm_falls p m told m.at e q
working_falls p (Exchanges m) told e q = exchange_falls p m told m.at e refl q
working_falls p (VExchanges m) told e q = v_exchange_falls m told m.at e q
working_falls p (Stores m) told e q = store_falls m told m.at e q
working_falls p (Fences m) told e q = queue_falls m.hand e q
working_falls p (Completes m) told e q = queue_falls m.fence.hand e q
working_falls p (Evicts m) told e q = evict_falls m told m.at e q

pub machine_falls : (p : Place) (free : List ℕ) (m : Machine) (e : Event) (told : ℕ) → AllByRecursion (λ row. 1 ≤ row) free → machine_asks p m ≡ Some e →
    machine_left (machine_takes p free m told) < machine_left m
machine_falls p free (Works w) e told ones q = working_falls p w told e q
machine_falls p free (Takes m) e told ones q = take_falls free m told m.at e ones q

-- one that asks for an event has one left
pub asks_some : (p : Place) (m : Machine) (e : Event) → machine_asks p m ≡ Some e → 1 ≤ machine_left m
asks_some p m e q = some (machine_left (machine_takes p [] m 0)) (machine_left m) (machine_falls p [] m e 0 tt q)
  where
    some : (a b : ℕ) → a < b → 1 ≤ b
    some a b h = omega (arith, h)

-- ---- one that has ended has its queue left

load_ended : (at : Loading) (m : HeldLoad) → is_none (load_asks at m) ≡ true → load_left at ≡ 0
load_ended Load_reads m q = absurd (false≢true q)
load_ended (Asks raw slot) m q = absurd (false≢true q)
load_ended (Load_makes_room raw first) m q = absurd (false≢true q)
load_ended (Has raw) m q = refl

confirm_ended : (p : Place) (m n : HeldConfirm) (at : Confirming) → at ≢ Begins → is_none (confirm_asks p at n) ≡ true → confirm_left at ≡ 0
confirm_ended p m n Begins other q = absurd (other refl)
confirm_ended p m n (Confirm_makes_room first) other q = absurd (false≢true q)
confirm_ended p m n Confirm_done other q = refl

room_goes : (m : HeldConfirm) (queue : List Noted) → (confirm_room m queue).at ≢ Begins
room_goes m [] e = absurd (cc)
room_goes m (n ∷ ns) e = absurd (cc)

judged_goes : (m : HeldConfirm) (b : Bool) → (cond b (confirm_notes m) (confirm_omits m)).at ≢ Begins
judged_goes m true e = by_room (is_full m.hand.queue) e
  where
    by_room : (b : Bool) → (cond b (confirm_room m m.hand.queue) (confirm_queues m)).at ≢ Begins
    by_room true i = room_goes m m.hand.queue i
    by_room false i = absurd (cc)
judged_goes m false e = absurd (cc)

begun_goes : (p : Place) (m : HeldConfirm) (told : ℕ) (slot : Option ℕ) → (confirm_begun p m told slot).at ≢ Begins
begun_goes p m told None = room_goes (record m { hand = fenced_one m.hand m.hand.queue }) (fenced_one m.hand m.hand.queue).queue
begun_goes p m told (Some slot) = judged_goes m (shown p.counted m.raw (Some told))

taken_goes : (p : Place) (m : HeldConfirm) (told : ℕ) (at : Confirming) (e : Event) → confirm_asks p at m ≡ Some e → (confirm_takes p at m told).at ≢ Begins
taken_goes p m told Begins e q = begun_goes p m told (p.slot m.word)
taken_goes p m told (Confirm_makes_room first) e q = room_goes (record m { hand = with_persist m.hand }) m.hand.queue
taken_goes p m told Confirm_done e q = absurd (none-some e q)

exchange_ended : (p : Place) (at : Exchanging) (m : HeldExchange) → is_none (exchange_asks p at m) ≡ true → exchange_left at ≡ 0
exchange_ended p Ready m q = absurd (false≢true q)
exchange_ended p (Tries slot) m q = absurd (false≢true q)
exchange_ended p TriesBare m q = absurd (false≢true q)
exchange_ended p WritesBack m q = absurd (false≢true q)
exchange_ended p Withdraws m q = absurd (false≢true q)
exchange_ended p (Lowers slot found) m q = absurd (false≢true q)
exchange_ended p (Ended how) m q = refl

write_asks : (m : HeldStore) (next : Noted) (queue : List Noted) → m.hand.queue ≡ queue → is_none (store_asks (Writes next) m) ≡ true → ⊥
write_asks m next [] is q = false≢true (rw is at q)
write_asks m next (n ∷ ns) is q = by_full (is_full (n ∷ ns)) (rw is at q)
  where
    by_full : (b : Bool) → is_none (cond b (first_persist (n ∷ ns)) (Some (Store next.word next.kept)))
        ≡ true → ⊥
    by_full true q = false≢true q
    by_full false q = false≢true q

store_ended : (at : Storing) (m : HeldStore) → is_none (store_asks at m) ≡ true → store_left at m.drafts ≡ 0
store_ended (Store_reads how) m q = absurd (false≢true q)
store_ended (Writes next) m q = absurd (write_asks m next m.hand.queue refl q)
store_ended (Store_makes_room next first) m q = absurd (false≢true q)
store_ended (Store_ended how) m q = refl

swap_ended : (at : VExchanging) (m : HeldVExchange) → is_none (v_exchange_asks at m) ≡ true → v_exchange_left at ≡ 0
swap_ended V_tries m q = absurd (false≢true q)
swap_ended (V_ended how) m q = refl

evict_ended : (at : Evicting) (m : Evict) → is_none (evict_asks at m) ≡ true → evict_left at ≡ 0
evict_ended Evict_reads m q = absurd (false≢true q)
evict_ended (Evict_writes_back raw) m q = absurd (false≢true q)
evict_ended Evict_done m q = refl

v_load_ended : (at : VLoading) (m : HeldVLoad) → is_none (v_load_asks at m) ≡ true → v_load_left at ≡ 0
v_load_ended V_reads m q = absurd (false≢true q)
v_load_ended (V_has raw) m q = refl

take_ended : (at : Taking) (need : ℕ) (spare : List ℕ) → is_none (take_asks at) ≡ true → take_left at need spare ≡ 0
take_ended Draws need spare q = absurd (false≢true q)
take_ended (Take_ended took) need spare q = refl

working_ended : (p : Place) (w : Working) (told : ℕ) (e : Event) → run.asks p w ≡ Some e → is_none (run.asks p (run.takes p w told)) ≡ true →
    working_left (run.takes p w told) ≡ 0
working_ended p (Idles hand) told e q none = refl
working_ended p (Loads m) told e q none = load_ended (load_taken p m told).at (load_taken p m told) none
working_ended p (VLoads m) told e q none = v_load_ended (v_load_taken m told).at (v_load_taken m told)
    none
working_ended p (Confirms m) told e q none = confirm_ended p m (confirm_taken p m told)
    (confirm_taken p m told).at (taken_goes p m told m.at e q) none
working_ended p (Exchanges m) told e q none = exchange_ended p (exchange_taken p m told).at
    (exchange_taken p m told) none
working_ended p (VExchanges m) told e q none = swap_ended (v_exchange_taken m told).at
    (v_exchange_taken m told) none
working_ended p (Stores m) told e q none = store_ended (store_taken m told).at (store_taken m told) none
working_ended p (Fences m) told e q none = refl
working_ended p (Completes m) told e q none = refl
working_ended p (Evicts m) told e q none = evict_ended (evict_taken m told).at (evict_taken m told) none

pub and_first : (a b : Bool) → (a && b) ≡ true → a ≡ true
and_first true b q = refl
and_first false b q = q

machine_ended_at : (p : Place) (free : List ℕ) (m : Machine) (e : Event) (told : ℕ) → machine_asks p m ≡ Some e →
    has_ended p (machine_takes p free m told) ≡ true → steps_left (machine_takes p free m told) ≡ 0
machine_ended_at p free (Works w) e told q ended = working_ended p w told e q (and_first (is_none (run.asks p (run.takes p w told)))
    (not (is_complete (run.takes p w told))) ended)
machine_ended_at p free (Takes m) e told q ended =
    take_ended (take_takes free m.at m told).at (take_takes free m.at m told).need (take_takes free m.at m told).hand.spare
    (and_first (is_none (take_asks (take_takes free m.at m told).at)) true ended)

pub machine_ended : (p : Place) (free : List ℕ) (m : Machine) (e : Event) (told : ℕ) → machine_asks p m ≡ Some e →
    has_ended p (machine_takes p free m told) ≡ true →
    machine_left (machine_takes p free m told) ≡ length (hand_in (machine_takes p free m told)).queue
machine_ended p free m e told q ended = ap (λ n. n + length (hand_in (machine_takes p free m told)).queue) (machine_ended_at p free m e told q ended)
    ∙ zero_plus (length (hand_in (machine_takes p free m told)).queue)
  where
    zero_plus : (n : ℕ) → 0 + n ≡ n
    zero_plus n = omega arith
