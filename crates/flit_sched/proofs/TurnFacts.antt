-- The facts of a turn, as they come, and what follows from them at each step of it.
use Rattle.std.proofs.Common.{◌≡◌, ◌≢◌, ℕ, ◌+◌, ◌-◌, ◌<◌, ◌≤◌, ◌^◌, Bool, true, false, cond, eqb, nat_lt, List, [], ◌∷◌, ◌++◌, length, get_or, map, take, refl, sym, ◌∙◌, ap, subst, arith, Option, Some, None, IsSome, slice_get, append-nil}
use Rattle.std.proofs.Math.ListN.{set, length-set}
use Rattle.std.proofs.lemmas.Bool.{false≢true}
use Rattle.std.specs.List.{AllByRecursion, Contains}
use Rattle.std.specs.FinMap as fin
use Rattle.flit_words.specs.Layouts.{words_of}
use Rattle.flit_model.specs.Maps.{Map, map_after_all}
use Rattle.flit_model.specs.Histories.{IsRightAt, is_read_by}
use Rattle.flit_model.specs.States.{State}
use Rattle.flit_model.specs.Effects.{after, answer, IsAllowed}
use Rattle.flit_model.specs.declared.calls.Call.{Call}
use Rattle.flit_model.specs.declared.calls.Entry.{Entry}
use Rattle.flit_model.specs.declared.calls.Placed.{Placed}
use Rattle.flit_model.specs.declared.calls.Reply.{Reply}
use Rattle.flit_model.specs.declared.events.Event.{Event}
use Rattle.flit_model.specs.declared.events.Event.TheVariants.{Load, ReadTag, Raise, Lower, Exchange, Persist, Store, Draw}
use Rattle.flit_structure.specs.declared.workers.Doing.{Doing}
use Rattle.flit_structure.specs.declared.workers.Doing.TheVariants.{Busy}
use Rattle.flit_structure.specs.declared.workers.Worker.{Worker}
use Rattle.flit_structure.specs.Meanings.{Meaning, MayTake, asked_by, effect_by, goes_on, key_of}
use Rattle.flit_structure.specs.Lawful.{Lawful, IsPlacedFrom}
use Rattle.flit_sched.specs.declared.players.Player.{Player}
use Rattle.flit_sched.specs.declared.seats.Seat.{Seat}
use Rattle.flit_sched.specs.Runs.{moment_of}
use Rattle.flit_sched.specs.Reads.{IsLeastPlace}
use Rattle.flit_sched.specs.Starting.{MayBegin, IsNoted}
use Rattle.flit_sched.specs.Settled.{Settles, raised, waits_after, waiters_after, waiters_won, AreLastFrom}
use Rattle.flit_sched.specs.Turns.{IsOut, entered, part_after, read_in, AreReadsIn, Turned, StaysOut}
use Rattle.flit_sched.specs.Kept.{IsKept, IsKeptPlayer, AreKeptFrom, IsRawEvent, run_of, part_of, waiting_of}
use Rattle.flit_sched.specs.Seats.{seated, doing_of, played, HasEnded, IsHeld, run_by}
use Rattle.flit_sched.proofs.SplitLists.{SplitsAt, splits_at, one_there}
use Rattle.flit_sched.proofs.PlayerLaws.{kept_at}
use Rattle.flit_sched.proofs.ProgressLaws.{IsFreshFor}
use Rattle.flit_sched.proofs.ReadLaws.{HasRead}
use Rattle.flit_sched.proofs.SeatLaws.{map_long, at_mapped, set_mapped, all_set, all_at_place, waiting_played, settles_played}
use Rattle.flit_sched.proofs.LastLaws.{last_settled, last_same, last_after, all_settled}
use Rattle.flit_sched.proofs.BeforeLaws as before
use Rattle.flit_sched.proofs.TurnSteps as steps

abbrev pub worker_at : {Op : Type 0} (meaning : Meaning Op) → Player (Seat Op) → Worker Op
worker_at meaning y = entered meaning (part_of (played meaning y))

abbrev pub doing_at : {Op : Type 0} (meaning : Meaning Op) → State → List Entry → Player (Seat Op) → Event → Doing Op
doing_at meaning m settled y e = goes_on meaning (length settled) (worker_at meaning y).doing (answer m e)

no_some : {X : Type 0} (x : X) → None ≡ Some x → ⊥
no_some x e = cc

module _ {Op : Type 0} (meaning : Meaning Op) (content : Map) (m : State) (settled : List Entry) (placed : List Placed) (players : List (Player (Seat Op)))
    (keys : List ℕ)
    (values : List (Option ℕ)) (waiters : List ℕ) (entries reads i : ℕ) (y : Player (Seat Op)) where
  -- a worker that isn't out has its turn
  pub record Turning : Type 0 where
    pub laws : Lawful meaning
    pub held : IsHeld meaning content m settled placed players keys values waiters entries reads
    pub within : i < length players
    pub is : y ≡ get_or players i y
    pub on : ¬ (IsOut (part_of (played meaning y)))

  -- it is at an item, which it has begun where it was at none, and asks for this event
  pub record Starting (n : Player (Seat Op)) (e : Event) : Type 0 where
    pub turning : Turning
    pub begun : played meaning n ≡ record (played meaning y) { worker = entered meaning (part_of (played meaning y)); noted = n.noted }
    pub ended : HasEnded meaning n.worker.at
    pub raw : IsRawEvent e
    pub asks : asked_by meaning (seated meaning n.worker) ≡ Some e
    pub noted : IsNoted keys values (seated meaning y.worker).doing (slice_get y.work.items.items y.over) y.noted n.noted

  -- the event is made and answered, and its update waits where it has one
  pub record Making (n : Player (Seat Op)) (e : Event) (told : ℕ) (p : Player (Seat Op)) (last : List ℕ) : Type 0 where
    pub starting : Starting n e
    pub told_is : told ≡ answer m e
    pub waits : p ≡ record n { waiting = waits_after e told (effect_by meaning (seated meaning n.worker)) n.waiting }
    pub last_is : last ≡ waiters_after e told (effect_by meaning (seated meaning n.worker)) n.worker.name waiters

  -- what the event settles is settled
  pub record Settling (n : Player (Seat Op)) (e : Event) (told : ℕ) (p : Player (Seat Op)) (last : List ℕ) (later : List (Player (Seat Op)))
      (grown : List Entry) (changed : List (Option ℕ)) : Type 0 where
    pub making : Making n e told p last
    pub settles : Settles keys (raised e told) (set players i p) settled values later grown changed

  -- the worker is given the answer
  pub record Ending (n : Player (Seat Op)) (e : Event) (told : ℕ) (p : Player (Seat Op)) (last : List ℕ) (later : List (Player (Seat Op))) (grown : List Entry)
      (changed : List (Option ℕ))
      (count : ℕ) (x q : Player (Seat Op)) (read : Option (Call × ℕ × Reply)) : Type 0 where
    pub settling : Settling n e told p last later grown changed
    pub there : x ≡ get_or later i x
    pub count_is : count ≡ length settled
    pub part : part_of (played meaning q) ≡ part_after meaning (part_of (played meaning x)) (seated meaning x.worker)
        (goes_on meaning count (seated meaning x.worker).doing told)
    pub same : (q.work ≡ x.work) × (q.waiting ≡ x.waiting) × (q.noted ≡ x.noted)
    pub read_is : read ≡ read_in meaning (goes_on meaning count (seated meaning x.worker).doing told)
    pub ended : HasEnded meaning q.worker.at

module _ {Op : Type 0} {meaning : Meaning Op} {content : Map} {m : State} {settled : List Entry} {placed : List Placed} {players : List (Player (Seat Op))}
    {keys : List ℕ}
    {values : List (Option ℕ)} {waiters : List ℕ} {entries reads i : ℕ} {y : Player (Seat Op)} where
  within_played : Turning meaning content m settled placed players keys values waiters entries reads i y → i < length (map (played meaning) players)
  within_played t = let n = map_long (played meaning) players in let k = t.within in omega (arith, n, k)

  there : Turning meaning content m settled placed players keys values waiters entries reads i y →
      played meaning y ≡ get_or (map (played meaning) players) i (played meaning y)
  there t = at_mapped (played meaning) players i y t.is

  own : (t : Turning meaning content m settled placed players keys values waiters entries reads i y) →
      SplitsAt (map (played meaning) players) i (played meaning y)
  own t = splits_at (map (played meaning) players) i (played meaning y) (within_played t) (there t)

  kept_own : (t : Turning meaning content m settled placed players keys values waiters entries reads i y) →
      IsKeptPlayer meaning content settled keys (1 + i) (played meaning y)
  kept_own t =
      let r = own t in
      subst (λ n. IsKeptPlayer meaning content settled keys (1 + n) (played meaning y)) r.long
      (kept_at meaning content settled keys 1 r.before r.behind (played meaning y)
      (subst (λ ps. AreKeptFrom meaning content settled keys 1 ps) r.is t.held.kept.each)).here

  pub named : (t : Turning meaning content m settled placed players keys values waiters entries reads i y) → y.worker.name ≡ 1 + i
  named t = (kept_own t).named

  pub name_low : (t : Turning meaning content m settled placed players keys values waiters entries reads i y) → 1 ≤ y.worker.name
  name_low t = let n = named t in omega (arith, n)

  name_high : (t : Turning meaning content m settled placed players keys values waiters entries reads i y) → y.worker.name ≤ 64
  name_high t =
      let n = named t in
      let k = t.within in
      let w = t.held.kept.workers in
      let j = map_long (played meaning) players in
      let s = (t.laws.sized (moment_of (run_by meaning content m settled placed players) t.held.kept.words t.held.kept.free)
      t.held.kept.holds).accepted.most_worker in
      omega (arith, n, k, w, j, s)

  pub ended_own : (t : Turning meaning content m settled placed players keys values waiters entries reads i y) → HasEnded meaning y.worker.at
  ended_own t = subst (λ z. HasEnded meaning z.worker.at) (sym t.is) (all_at_place (λ z. HasEnded meaning z.worker.at) players i y t.within t.held.ended)

  pub over_own : (t : Turning meaning content m settled placed players keys values waiters entries reads i y) → y.over < length y.work.items.items
  over_own t = before.has_item (played meaning y) t.on

  pub may : (t : Turning meaning content m settled placed players keys values waiters entries reads i y) →
      MayBegin meaning keys (seated meaning y.worker) (slice_get y.work.items.items y.over)
  may t =
      steps.may meaning t.laws content m settled placed (map (played meaning) players) keys values entries reads t.held.kept i (played meaning y)
      (within_played t) (there t) t.on

  pub asks : (t : Turning meaning content m settled placed players keys values waiters entries reads i y) → (e : Event)
      × (asked_by meaning (entered meaning (part_of (played meaning y))) ≡ Some e)
  asks t =
      steps.asks meaning t.laws content m settled placed (map (played meaning) players) keys values entries reads t.held.kept i (played meaning y)
      (within_played t) (there t) t.on

  pub place_room : (t : Turning meaning content m settled placed players keys values waiters entries reads i y) → length placed < reads
  place_room t =
      steps.place_room meaning t.laws content m settled placed (map (played meaning) players) keys values entries reads t.held.kept i (played meaning y)
      (within_played t) (there t) t.on

  module _ {n : Player (Seat Op)} {e : Event} where
    pub allowed : (s : Starting meaning content m settled placed players keys values waiters entries reads i y n e) → IsAllowed m e
    allowed s =
        steps.allowed meaning s.turning.laws content m settled placed (map (played meaning) players) keys values entries reads s.turning.held.kept i
        (played meaning y) (within_played s.turning) (there s.turning) s.turning.on
        (played meaning n) s.begun s.noted e s.asks

    pub name_started : (s : Starting meaning content m settled placed players keys values waiters entries reads i y n e) → n.worker.name ≡ y.worker.name
    name_started s =
        ap (λ z. z.worker.name) s.begun
        ∙ before.enters_name meaning s.turning.laws (seated meaning y.worker) (seated meaning y.worker).doing (slice_get y.work.items.items y.over)

    pub small : (s : Starting meaning content m settled placed players keys values waiters entries reads i y n e) → n.worker.name ≤ 64
    small s = let k = name_started s in let h = name_high s.turning in omega (arith, k, h)

    sized : (s : Starting meaning content m settled placed players keys values waiters entries reads i y n e) → length m.words ≡ words_of meaning.layout
    sized s =
        let k = s.turning.held.kept in
        (s.turning.laws.sized (moment_of (run_by meaning content m settled placed players) k.words k.free) k.holds).words

    pub exchanged : (s : Starting meaning content m settled placed players keys values waiters entries reads i y n e) (word from to : ℕ) →
        e ≡ Exchange word from to → word < length waiters
    exchanged s word from to is =
        let a : word < length m.words = subst (IsAllowed m) is (allowed s) in
        let z = sized s in
        let k = s.turning.held.long in
        omega (arith, a, z, k)

    pub raised_within : (s : Starting meaning content m settled placed players keys values waiters entries reads i y n e) (told word : ℕ) →
        raised e told ≡ Some word → word < length waiters
    raised_within s told word is = by_event e is (allowed s)
      where
        by_test : (t : Bool) (v w : ℕ) → v < length m.words → cond t (Some v) None ≡ Some w → w < length waiters
        by_test true v w a is =
            let same : v ≡ w = cc in
            let z = sized s in
            let k = s.turning.held.long in
            omega (arith, a, z, k, same)
        by_test false v w a is = absurd (no_some w is)

        by_event : (x : Event) → raised x told ≡ Some word → IsAllowed m x → word < length waiters
        by_event (Load w) is a = absurd (no_some word is)
        by_event (ReadTag w) is a = absurd (no_some word is)
        by_event (Raise w) is a = absurd (no_some word is)
        by_event (Lower w) is a = absurd (no_some word is)
        by_event (Exchange w from to) is a = absurd (no_some word is)
        by_event (Persist w kept) is a = by_test (nat_lt told kept) w word a.0 is
        by_event (Store w to) is a = absurd (no_some word is)
        by_event Draw is a = absurd (no_some word is)

    module _ {told : ℕ} {p : Player (Seat Op)} {last : List ℕ} where
      pub making_of : Starting meaning content m settled placed players keys values waiters entries reads i y n e → told ≡ answer m e →
          p ≡ record n { waiting = waits_after e told (effect_by meaning (seated meaning n.worker)) n.waiting } →
          last ≡ waiters_after e told (effect_by meaning (seated meaning n.worker)) n.worker.name waiters →
          Making meaning content m settled placed players keys values waiters entries reads i y n e told p last
      making_of s told_is waits last_is = record { starting = s; told_is = told_is; waits = waits; last_is = last_is }

      -- the same place in the players as they are kept
      place : (k : Making meaning content m settled placed players keys values waiters entries reads i y n e told p last) → SplitsAt players i y
      place k = splits_at players i y k.starting.turning.within k.starting.turning.is

      fresh : (k : Making meaning content m settled placed players keys values waiters entries reads i y n e told p last) →
          IsFreshFor m e (effect_by meaning (seated meaning n.worker)) ((place k).before ++ y ∷ (place k).behind) y
      fresh k word from to x is won some =
          let t = k.starting.turning in
          let r = own t in
          let f = before.fresh meaning t.laws content m settled placed keys values entries reads r.before r.behind (played meaning y)
          (subst (λ ps. IsKept meaning (run_of content m settled placed ps) ps keys values entries reads) r.is t.held.kept) (over_own t) e (asks_entered k)
          word from to x is won (effect_entered k ∙ some) in
          (subst (λ vs. AllByRecursion (λ v. v.0 ≢ word) vs) (ap waiting_of (sym r.is) ∙ waiting_played meaning players ∙ ap waiting_of (place k).is) f.0, f.1)
        where
          asks_entered : (k : Making meaning content m settled placed players keys values waiters entries reads i y n e told p last) →
              asked_by meaning (entered meaning (part_of (played meaning y))) ≡ Some e
          asks_entered k = sym (ap (λ z. asked_by meaning z.worker) k.starting.begun) ∙ k.starting.asks

          effect_entered : (k : Making meaning content m settled placed players keys values waiters entries reads i y n e told p last) →
              effect_by meaning (entered meaning (part_of (played meaning y))) ≡ effect_by meaning (seated meaning n.worker)
          effect_entered k = sym (ap (λ z. effect_by meaning z.worker) k.starting.begun)

      pub last_made : (k : Making meaning content m settled placed players keys values waiters entries reads i y n e told p last) →
          AreLastFrom last 1 (set players i p)
      last_made k =
          let r = place k in
          let s = k.starting in
          let old : n.waiting ≡ y.waiting = ap (λ z. z.waiting) s.begun in
          let w : p.waiting ≡ waits_after e (answer m e) (effect_by meaning (seated meaning n.worker)) y.waiting =
          ap (λ z. z.waiting) k.waits ∙ ap (λ v. waits_after e told (effect_by meaning (seated meaning n.worker)) v) old
          ∙ ap (λ v. waits_after e v (effect_by meaning (seated meaning n.worker)) y.waiting) k.told_is in
          let name : n.worker.name ≡ 1 + length r.before = name_started s ∙ named s.turning ∙ ap (λ v. 1 + v) (sym r.long) in
          subst (λ ps. AreLastFrom last 1 ps) (sym (r.put p))
          (subst (λ ws. AreLastFrom ws 1 (r.before ++ p ∷ r.behind))
          (sym (k.last_is ∙ ap (λ v. waiters_after e v (effect_by meaning (seated meaning n.worker)) n.worker.name waiters) k.told_is))
          (last_after waiters m e (effect_by meaning (seated meaning n.worker)) r.before r.behind y p n.worker.name name w (fresh k) (exchanged s)
          (subst (AreLastFrom waiters 1) r.is s.turning.held.last)))

      pub last_long : (k : Making meaning content m settled placed players keys values waiters entries reads i y n e told p last) → length last ≡ length waiters
      last_long k = ap length k.last_is ∙ long e
        where
          by_test : (t : Bool) (word name : ℕ) → length (cond t (set waiters word name) waiters) ≡ length waiters
          by_test true word name = length-set waiters word name
          by_test false word name = refl

          by_effect : (o : Option Entry) (word from : ℕ) → length (waiters_won word from told o n.worker.name waiters) ≡ length waiters
          by_effect None word from = refl
          by_effect (Some x) word from = by_test (eqb told from) word n.worker.name

          long : (x : Event) → length (waiters_after x told (effect_by meaning (seated meaning n.worker)) n.worker.name waiters) ≡ length waiters
          long (Load w) = refl
          long (ReadTag w) = refl
          long (Raise w) = refl
          long (Lower w) = refl
          long (Exchange w from to) = by_effect (effect_by meaning (seated meaning n.worker)) w from
          long (Persist w kept) = refl
          long (Store w to) = refl
          long Draw = refl

      set_is : (k : Making meaning content m settled placed players keys values waiters entries reads i y n e told p last) →
          waiting_of (set players i p) ≡ waiting_of (set (map (played meaning) players) i (played meaning p))
      set_is k = sym (waiting_played meaning (set players i p)) ∙ ap waiting_of (set_mapped (played meaning) players i p)

      pub has : (k : Making meaning content m settled placed players keys values waiters entries reads i y n e told p last) →
          AllByRecursion (λ w. Contains keys (key_of w.1.call)) (waiting_of (set players i p))
      has k =
          subst (AllByRecursion (λ w. Contains keys (key_of w.1.call))) (sym (set_is k))
          (steps.has meaning k.starting.turning.laws content m settled placed (map (played meaning) players) keys values entries reads
          k.starting.turning.held.kept i (played meaning y) (within_played k.starting.turning) (there k.starting.turning) k.starting.turning.on
          (played meaning n) k.starting.begun k.starting.noted e k.starting.asks told k.told_is (effect_by meaning (seated meaning n.worker)) refl
          (played meaning p) (ap (played meaning) k.waits))

      pub room : (k : Making meaning content m settled placed players keys values waiters entries reads i y n e told p last) → (raised e told ≡ None → ⊥) →
          (waiting_of (set players i p) ≡ [] → ⊥) → length settled < entries
      room k up some =
          steps.room meaning k.starting.turning.laws content m settled placed (map (played meaning) players) keys values entries reads
          k.starting.turning.held.kept i (played meaning y) (within_played k.starting.turning) (there k.starting.turning) k.starting.turning.on
          (played meaning n) k.starting.begun k.starting.noted e k.starting.asks told k.told_is (effect_by meaning (seated meaning n.worker)) refl
          (played meaning p) (ap (played meaning) k.waits) up
          (λ none. some (set_is k ∙ none))

      module _ {later : List (Player (Seat Op))} {grown : List Entry} {changed : List (Option ℕ)} where
        pub settling_of : Making meaning content m settled placed players keys values waiters entries reads i y n e told p last →
            Settles keys (raised e told) (set players i p) settled values later grown changed →
            Settling meaning content m settled placed players keys values waiters entries reads i y n e told p last later grown changed
        settling_of k settles = record { making = k; settles = settles }

        settles_here : (s : Settling meaning content m settled placed players keys values waiters entries reads i y n e told p last later grown changed) →
            Settles keys (raised e told) (set (map (played meaning) players) i (played meaning p)) settled values (map (played meaning) later) grown changed
        settles_here s =
            subst (λ ps. Settles keys (raised e told) ps settled values (map (played meaning) later) grown changed) (set_mapped (played meaning) players i p)
            (settles_played meaning keys (raised e told) (set players i p) settled values later grown changed s.settles)

        pub within_later : (s : Settling meaning content m settled placed players keys values waiters entries reads i y n e told p last later grown changed) →
            i < length later
        within_later s =
            let k = steps.within meaning s.making.starting.turning.laws content m settled placed (map (played meaning) players) keys values entries reads
            s.making.starting.turning.held.kept i (played meaning y) (within_played s.making.starting.turning) (there s.making.starting.turning)
            s.making.starting.turning.on
            (played meaning n) s.making.starting.begun s.making.starting.noted e s.making.starting.asks told s.making.told_is
            (effect_by meaning (seated meaning n.worker)) refl (played meaning p) (ap (played meaning) s.making.waits)
            (map (played meaning) later) grown changed (settles_here s) in
            let j = map_long (played meaning) later in
            omega (arith, k, j)

        module _ {x : Player (Seat Op)} (s : Settling meaning content m settled placed players keys values waiters entries reads i y n e told p last later grown
            changed) (at : x ≡ get_or later i x) where
          pub asks_later : IsSome (asked_by meaning (seated meaning x.worker))
          asks_later =
              steps.asks2 meaning s.making.starting.turning.laws content m settled placed (map (played meaning) players) keys values entries reads
              s.making.starting.turning.held.kept i (played meaning y) (within_played s.making.starting.turning) (there s.making.starting.turning)
              s.making.starting.turning.on
              (played meaning n) s.making.starting.begun s.making.starting.noted e s.making.starting.asks told s.making.told_is
              (effect_by meaning (seated meaning n.worker)) refl (played meaning p) (ap (played meaning) s.making.waits)
              (map (played meaning) later) grown changed (settles_here s) (played meaning x) (at_mapped (played meaning) later i x at)

          pub told_later : (op : Op) (call : Call) (begun : Option ℕ) → doing_of meaning x.worker.name x.worker.at ≡ Busy op call begun →
              MayTake meaning op told
          told_later =
              steps.told2 meaning s.making.starting.turning.laws content m settled placed (map (played meaning) players) keys values entries reads
              s.making.starting.turning.held.kept i (played meaning y) (within_played s.making.starting.turning) (there s.making.starting.turning)
              s.making.starting.turning.on
              (played meaning n) s.making.starting.begun s.making.starting.noted e s.making.starting.asks told s.making.told_is
              (effect_by meaning (seated meaning n.worker)) refl (played meaning p) (ap (played meaning) s.making.waits)
              (map (played meaning) later) grown changed (settles_here s) (played meaning x) (at_mapped (played meaning) later i x at)

          pub over_later : x.over < length x.work.items.items
          over_later =
              steps.within2 meaning s.making.starting.turning.laws content m settled placed (map (played meaning) players) keys values entries reads
              s.making.starting.turning.held.kept i (played meaning y) (within_played s.making.starting.turning) (there s.making.starting.turning)
              s.making.starting.turning.on
              (played meaning n) s.making.starting.begun s.making.starting.noted e s.making.starting.asks told s.making.told_is
              (effect_by meaning (seated meaning n.worker)) refl (played meaning p) (ap (played meaning) s.making.waits)
              (map (played meaning) later) grown changed (settles_here s) (played meaning x) (at_mapped (played meaning) later i x at)

          pub outcomes_later : length x.outcomes.items ≡ length x.work.items.items
          outcomes_later =
              steps.outcomes2 meaning s.making.starting.turning.laws content m settled placed (map (played meaning) players) keys values entries reads
              s.making.starting.turning.held.kept i (played meaning y) (within_played s.making.starting.turning) (there s.making.starting.turning)
              s.making.starting.turning.on
              (played meaning n) s.making.starting.begun s.making.starting.noted e s.making.starting.asks told s.making.told_is
              (effect_by meaning (seated meaning n.worker)) refl (played meaning p) (ap (played meaning) s.making.waits)
              (map (played meaning) later) grown changed (settles_here s) (played meaning x) (at_mapped (played meaning) later i x at)

        pub ending_of : {count : ℕ} {x : Player (Seat Op)} {read : Option (Call × ℕ × Reply)} (q : Player (Seat Op)) →
            Settling meaning content m settled placed players keys values waiters entries reads i y n e told p last later grown changed →
            x ≡ get_or later i x → count ≡ length settled →
            part_of (played meaning q) ≡ part_after meaning (part_of (played meaning x)) (seated meaning x.worker)
            (goes_on meaning count (seated meaning x.worker).doing told) →
            (q.work ≡ x.work) × (q.waiting ≡ x.waiting) × (q.noted ≡ x.noted) →
            read ≡ read_in meaning (goes_on meaning count (seated meaning x.worker).doing told) → HasEnded meaning q.worker.at →
            Ending meaning content m settled placed players keys values waiters entries reads i y n e told p last later grown changed count x q read
        ending_of q w there count_is part same read_is ended = record {
          settling = w;
          there = there;
          count_is = count_is;
          part = part;
          same = same;
          read_is =
              read_is;
          ended = ended;
        }

        module _ {count : ℕ} {x q : Player (Seat Op)} {read : Option (Call × ℕ × Reply)} where
          full : (E : Ending meaning content m settled placed players keys values waiters entries reads i y n e told p last later grown changed count x q read)
              → (entries2 reads2 : ℕ) (placed2 new : List Placed) → entries ≤ entries2 → reads ≤ reads2 → length placed2 + y.over ≤ length placed + q.over →
              placed2 ≡ placed ++ new → AllByRecursion (IsRightAt content grown) new →
              IsHeld meaning content (after m e) grown placed2 (set later i q) keys changed last entries2 reads2
          full E entries2 reads2 placed2 new more1 more2 fits joined right = record {
            kept =
                subst (λ ps. IsKept meaning (run_of content (after m e) grown placed2 ps) ps keys changed entries2 reads2)
                (sym (set_mapped (played meaning) later i q))
                (steps.kept meaning E.settling.making.starting.turning.laws content m settled placed (map (played meaning) players) keys values entries reads
                E.settling.making.starting.turning.held.kept i (played meaning y) (within_played E.settling.making.starting.turning)
                (there E.settling.making.starting.turning) E.settling.making.starting.turning.on
                (played meaning n) E.settling.making.starting.begun E.settling.making.starting.noted e E.settling.making.starting.asks told
                E.settling.making.told_is (effect_by meaning (seated meaning n.worker)) refl (played meaning p)
                (ap (played meaning) E.settling.making.waits)
                (map (played meaning) later) grown changed (settles_here E.settling) (played meaning x) (at_mapped (played meaning) later i x E.there)
                count E.count_is (played meaning q) E.part E.same.0 E.same.1 E.same.2
                placed2 entries2 reads2 E.settling.making.starting.raw more1 more2 fits new joined right);
            ended =
                all_set (λ z. HasEnded meaning z.worker.at) later i q E.ended
                (all_settled (λ w. HasEnded meaning w.at) keys (raised e told) (set players i p) settled values later grown changed E.settling.settles
                (all_set (λ z. HasEnded meaning z.worker.at) players i p
                (subst (λ z. HasEnded meaning z.worker.at) (sym E.settling.making.waits) E.settling.making.starting.ended)
                E.settling.making.starting.turning.held.ended));
            last =
                let r : SplitsAt later i x = splits_at later i x (within_later E.settling) E.there in
                subst (λ ps. AreLastFrom last 1 ps) (sym (r.put q))
                (last_same last r.before r.behind x q E.same.1
                (subst (λ ps. AreLastFrom last 1 ps) r.is
                (last_settled last 1 keys (raised e told) (set players i p) settled values later grown changed E.settling.settles
                (last_made E.settling.making))));
            long = last_long E.settling.making ∙ E.settling.making.starting.turning.held.long;
          }

          turned : (E : Ending meaning content m settled placed players keys values waiters entries reads i y n e told p last later grown changed count x q
              read) (worker : ℕ) → i ≡ worker - 1 → 1 ≤ worker → (placed2 new : List Placed) → placed2 ≡ placed ++ new →
              AreReadsIn meaning content grown (worker_at meaning y).name (worker_at meaning y).number (doing_at meaning m settled y e) new →
              Turned meaning (run_by meaning content m settled placed players) worker e told (run_by meaning content (after m e) grown placed2 (set later i q))
          turned E worker here low placed2 new joined right =
              subst (λ ps. Turned meaning (run_by meaning content m settled placed players) worker e told (run_of content (after m e) grown placed2 ps))
              (sym (set_mapped (played meaning) later i q))
              (steps.turned meaning E.settling.making.starting.turning.laws content m settled placed (map (played meaning) players) keys values entries reads
              E.settling.making.starting.turning.held.kept i (played meaning y) (within_played E.settling.making.starting.turning)
              (there E.settling.making.starting.turning) E.settling.making.starting.turning.on
              (played meaning n) E.settling.making.starting.begun E.settling.making.starting.noted e E.settling.making.starting.asks told
              E.settling.making.told_is (effect_by meaning (seated meaning n.worker)) refl (played meaning p) (ap (played meaning) E.settling.making.waits)
              (map (played meaning) later) grown changed (settles_here E.settling) (played meaning x) (at_mapped (played meaning) later i x E.there)
              count E.count_is (played meaning q) E.part E.same.0 E.same.1 E.same.2
              worker here low new placed2 joined right)

          -- where no read is completed
          pub held_still : Ending meaning content m settled placed players keys values waiters entries reads i y n e told p last later grown changed count x q
              read → (entries2 reads2 : ℕ) → entries ≤ entries2 → reads ≤ reads2 →
              IsHeld meaning content (after m e) grown placed (set later i q) keys changed last entries2 reads2
          held_still E entries2 reads2 more1 more2 =
              full E entries2 reads2 placed [] more1 more2
              (steps.fits_none meaning E.settling.making.starting.turning.laws content m settled placed (map (played meaning) players) keys values entries reads
              E.settling.making.starting.turning.held.kept i (played meaning y) (within_played E.settling.making.starting.turning)
              (there E.settling.making.starting.turning) E.settling.making.starting.turning.on
              (played meaning n) E.settling.making.starting.begun E.settling.making.starting.noted e E.settling.making.starting.asks told
              E.settling.making.told_is (effect_by meaning (seated meaning n.worker)) refl (played meaning p) (ap (played meaning) E.settling.making.waits)
              (map (played meaning) later) grown changed (settles_here E.settling) (played meaning x) (at_mapped (played meaning) later i x E.there)
              count E.count_is (played meaning q) E.part E.same.0 E.same.1 E.same.2) (sym (append-nil placed)) tt

          pub turned_still : Ending meaning content m settled placed players keys values waiters entries reads i y n e told p last later grown changed count x q
              read → (worker : ℕ) → i ≡ worker - 1 → 1 ≤ worker → ((v : Call × ℕ × Reply) → read ≡ Some v → ⊥) →
              Turned meaning (run_by meaning content m settled placed players) worker e told (run_by meaning content (after m e) grown placed (set later i q))
          turned_still E worker here low never =
              turned E worker here low placed [] (sym (append-nil placed))
              (steps.reads_none meaning E.settling.making.starting.turning.laws content m settled placed (map (played meaning) players) keys values entries
              reads E.settling.making.starting.turning.held.kept i (played meaning y) (within_played E.settling.making.starting.turning)
              (there E.settling.making.starting.turning) E.settling.making.starting.turning.on
              (played meaning n) E.settling.making.starting.begun E.settling.making.starting.noted e E.settling.making.starting.asks told
              E.settling.making.told_is (effect_by meaning (seated meaning n.worker)) refl (played meaning p) (ap (played meaning) E.settling.making.waits)
              (map (played meaning) later) grown changed (settles_here E.settling) (played meaning x) (at_mapped (played meaning) later i x E.there)
              count E.count_is (played meaning q) E.part E.same.0 E.same.1 E.same.2
              read E.read_is never)

          pub small_grown : Ending meaning content m settled placed players keys values waiters entries reads i y n e told p last later grown changed count x q
              read → length grown < 2 ^ 32
          small_grown E =
              let h = held_still E entries reads (omega arith) (omega arith) in
              steps.settled_small meaning E.settling.making.starting.turning.laws (run_by meaning content (after m e) grown placed (set later i q))
              (map (played meaning) (set later i q))
              keys changed entries reads refl h.kept

          -- where this read is completed
          module _ {call : Call} {first : ℕ} {reply : Reply} (E : Ending meaning content m settled placed players keys values waiters entries reads i y n e told
              p last later grown changed count x q read) (some : read ≡ Some (call, first, reply)) where
            has_read : HasRead meaning (doing_at meaning m settled y e) call first reply
            has_read =
                steps.reads_some meaning E.settling.making.starting.turning.laws content m settled placed (map (played meaning) players) keys values entries
                reads E.settling.making.starting.turning.held.kept i (played meaning y) (within_played E.settling.making.starting.turning)
                (there E.settling.making.starting.turning) E.settling.making.starting.turning.on
                (played meaning n) E.settling.making.starting.begun E.settling.making.starting.noted e E.settling.making.starting.asks told
                E.settling.making.told_is (effect_by meaning (seated meaning n.worker)) refl (played meaning p)
                (ap (played meaning) E.settling.making.waits)
                (map (played meaning) later) grown changed (settles_here E.settling) (played meaning x) (at_mapped (played meaning) later i x E.there)
                count E.count_is (played meaning q) E.part E.same.0 E.same.1 E.same.2
                read call first reply E.read_is some

            pub is_read : is_read_by call reply ≡ true
            is_read = (has_read).read

            pub first_in : first ≤ length grown
            first_in =
                steps.first_in meaning E.settling.making.starting.turning.laws content m settled placed (map (played meaning) players) keys values entries reads
                E.settling.making.starting.turning.held.kept i (played meaning y) (within_played E.settling.making.starting.turning)
                (there E.settling.making.starting.turning) E.settling.making.starting.turning.on
                (played meaning n) E.settling.making.starting.begun E.settling.making.starting.noted e E.settling.making.starting.asks told
                E.settling.making.told_is (effect_by meaning (seated meaning n.worker)) refl (played meaning p)
                (ap (played meaning) E.settling.making.waits)
                (map (played meaning) later) grown changed (settles_here E.settling) (played meaning x) (at_mapped (played meaning) later i x E.there)
                count E.count_is (played meaning q) E.part E.same.0 E.same.1 E.same.2
                call first reply has_read

            pub noted_is : q.noted ≡ fin.get (map_after_all content (take first grown)) (key_of call)
            noted_is =
                steps.noted_is3 meaning E.settling.making.starting.turning.laws content m settled placed (map (played meaning) players) keys values entries
                reads E.settling.making.starting.turning.held.kept i (played meaning y) (within_played E.settling.making.starting.turning)
                (there E.settling.making.starting.turning) E.settling.making.starting.turning.on
                (played meaning n) E.settling.making.starting.begun E.settling.making.starting.noted e E.settling.making.starting.asks told
                E.settling.making.told_is (effect_by meaning (seated meaning n.worker)) refl (played meaning p)
                (ap (played meaning) E.settling.making.waits)
                (map (played meaning) later) grown changed (settles_here E.settling) (played meaning x) (at_mapped (played meaning) later i x E.there)
                count E.count_is (played meaning q) E.part E.same.0 E.same.1 E.same.2
                call first reply has_read

            module _ (worker : ℕ) (here : i ≡ worker - 1) (low : 1 ≤ worker) where
              abbrev entry : Entry
              entry = record { worker = worker; number = q.worker.number; call = call; reply = reply }

              pub placed_from : IsPlacedFrom first content grown (record { worker = worker; number = q.worker.number; call = call; reply = reply })
              placed_from =
                  steps.placed_from meaning E.settling.making.starting.turning.laws content m settled placed (map (played meaning) players) keys values entries
                  reads E.settling.making.starting.turning.held.kept i (played meaning y) (within_played E.settling.making.starting.turning)
                  (there E.settling.making.starting.turning) E.settling.making.starting.turning.on
                  (played meaning n) E.settling.making.starting.begun E.settling.making.starting.noted e E.settling.making.starting.asks told
                  E.settling.making.told_is (effect_by meaning (seated meaning n.worker)) refl (played meaning p)
                  (ap (played meaning) E.settling.making.waits)
                  (map (played meaning) later) grown changed (settles_here E.settling) (played meaning x) (at_mapped (played meaning) later i x E.there)
                  count E.count_is (played meaning q) E.part E.same.0 E.same.1 E.same.2
                  call first reply has_read worker here low

              -- the place that was found for it
              module _ (placed2 : List Placed) (place_is : (position : ℕ) × (placed2 ≡ placed ++ record { position = position; entry = entry } ∷ [])
                  × IsLeastPlace content grown first (record { position = position; entry = entry })) where
                pub held_read : (entries2 reads2 : ℕ) → entries ≤ entries2 → reads ≤ reads2 →
                    IsHeld meaning content (after m e) grown placed2 (set later i q) keys changed last entries2 reads2
                held_read entries2 reads2 more1 more2 =
                    full E entries2 reads2 placed2 (record { position = place_is.0; entry = entry } ∷ []) more1 more2
                    (subst (λ ps. length ps + y.over ≤ length placed + q.over) (sym place_is.1)
                    (steps.fits_some meaning E.settling.making.starting.turning.laws content m settled placed (map (played meaning) players) keys values entries
                    reads E.settling.making.starting.turning.held.kept i (played meaning y) (within_played E.settling.making.starting.turning)
                    (there E.settling.making.starting.turning) E.settling.making.starting.turning.on
                    (played meaning n) E.settling.making.starting.begun E.settling.making.starting.noted e E.settling.making.starting.asks told
                    E.settling.making.told_is (effect_by meaning (seated meaning n.worker)) refl (played meaning p)
                    (ap (played meaning) E.settling.making.waits)
                    (map (played meaning) later) grown changed (settles_here E.settling) (played meaning x) (at_mapped (played meaning) later i x E.there)
                    count E.count_is (played meaning q) E.part E.same.0 E.same.1 E.same.2
                    call first reply has_read (record { position = place_is.0; entry = entry })))
                    place_is.1 (place_is.2.right, tt)

                pub turned_read : Turned meaning (run_by meaning content m settled placed players) worker e told
                    (run_by meaning content (after m e) grown placed2 (set later i q))
                turned_read =
                    turned E worker here low placed2 (record { position = place_is.0; entry = entry } ∷ []) place_is.1
                    (steps.reads_placed meaning E.settling.making.starting.turning.laws content m settled placed (map (played meaning) players) keys values
                    entries reads E.settling.making.starting.turning.held.kept i (played meaning y) (within_played E.settling.making.starting.turning)
                    (there E.settling.making.starting.turning) E.settling.making.starting.turning.on
                    (played meaning n) E.settling.making.starting.begun E.settling.making.starting.noted e E.settling.making.starting.asks told
                    E.settling.making.told_is (effect_by meaning (seated meaning n.worker)) refl (played meaning p)
                    (ap (played meaning) E.settling.making.waits)
                    (map (played meaning) later) grown changed (settles_here E.settling) (played meaning x) (at_mapped (played meaning) later i x E.there)
                    count E.count_is (played meaning q) E.part E.same.0 E.same.1 E.same.2
                    call first reply has_read worker here low place_is.0 place_is.2)

  pub stays_out : Lawful meaning → IsHeld meaning content m settled placed players keys values waiters entries reads → i < length players →
      y ≡ get_or players i y →
      (worker : ℕ) → i ≡ worker - 1 → 1 ≤ worker → IsOut (part_of (played meaning y)) →
      StaysOut meaning (run_by meaning content m settled placed players) worker (run_by meaning content m settled placed players)
  stays_out laws held lt is worker here low out =
      steps.stays_out meaning laws content m settled placed (map (played meaning) players) keys values entries reads held.kept i (played meaning y)
      (let n = map_long (played meaning) players in omega (arith, n, lt)) (at_mapped (played meaning) players i y is) worker here low out

-- each step, from what the calls on the way to it say
pub turning_of : {Op : Type 0} {meaning : Meaning Op} {content : Map} {m : State} {settled : List Entry} {placed : List Placed}
    {players : List (Player (Seat Op))} {keys : List ℕ}
    {values : List (Option ℕ)} {waiters : List ℕ} {entries reads : ℕ} (i : ℕ) {z y : Player (Seat Op)} → Lawful meaning →
    IsHeld meaning content m settled placed players keys values waiters entries reads →
    i < length players → z ≡ get_or players i z → y ≡ get_or players i y → (b : Bool) → b ≡ false → (IsOut (part_of (played meaning z)) → b ≡ true) →
    Turning meaning content m settled placed players keys values waiters entries reads i y
turning_of {meaning} {players = players} i {z = z} {y = y} laws held lt e f b is says = record {
  laws = laws;
  held = held;
  within = lt;
  is = f;
  on = λ out. false≢true (sym is ∙ says (subst (λ v. IsOut (part_of (played meaning v))) (sym (one_there players i z y lt e f)) out));
}

module _ {Op : Type 0} {meaning : Meaning Op} {content : Map} {m : State} {settled : List Entry} {placed : List Placed} {players : List (Player (Seat Op))}
    {keys : List ℕ}
    {values : List (Option ℕ)} {waiters : List ℕ} {entries reads i : ℕ} {y : Player (Seat Op)}
    (t : Turning meaning content m settled placed players keys values waiters entries reads i y) where
  pub starting_of : (n : Player (Seat Op)) (e : Event) →
      played meaning n ≡ record (played meaning y) { worker = entered meaning (part_of (played meaning y)); noted = n.noted } → HasEnded meaning n.worker.at →
      IsRawEvent e →
      asked_by meaning (seated meaning n.worker) ≡ Some e → IsNoted keys values (seated meaning y.worker).doing (slice_get y.work.items.items y.over) y.noted
      n.noted →
      Starting meaning content m settled placed players keys values waiters entries reads i y n e
  starting_of n e begun ended raw asks noted = record { turning = t; begun = begun; ended = ended; raw = raw; asks = asks; noted = noted }
