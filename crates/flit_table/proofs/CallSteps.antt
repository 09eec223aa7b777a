-- A call, event by event.
use Rattle.std.proofs.Common.{◌≡◌, ℕ, ◌+◌, ◌≤◌, List, [], ◌∷◌, ◌++◌, Option, Some, None, ◌<◌, length, map, replicate, refl, sym, ap, ◌∙◌, subst, arith, append-nil, le_refl, add-one}
use Rattle.std.proofs.lemmas.List.{length-append}
use Rattle.std.specs.List.{AllByRecursion}
use Rattle.flit_model.proofs.HistoryLaws.{all_weaker, legal_from, right_from_start}
use Rattle.flit_model.specs.States.{State}
use Rattle.flit_model.specs.declared.calls.Call.{Call}
use Rattle.flit_model.specs.declared.calls.Entry.{Entry}
use Rattle.flit_model.specs.declared.calls.Placed.{Placed}
use Rattle.flit_model.specs.declared.calls.Reply.{Reply}
use Rattle.flit_model.specs.declared.events.Event.{Event}
use Rattle.flit_structure.specs.declared.workers.Doing.TheVariants.{Busy}
use Rattle.flit_structure.specs.declared.workers.Worker.{Worker}
use Rattle.flit_structure.specs.Moments.{busy, update_of}
use Rattle.flit_structure.specs.Meanings.{Meaning, MayTake, MayStart, first_at, asked_by, goes_on, hand_in, hand_of, reply_at, replied, tally}
use Rattle.flit_structure.specs.Lawful.{Lawful, StandsFrom, IsWithin, IsReplied, IsBounded, IsBelowTop, AreSearchesBounded, IsTryBounded, events_of_try}
use Rattle.flit_structure.proofs.Names.{all_map}
use Rattle.flit_table.specs.declared.views.Origin.{Origin}
use Rattle.flit_table.specs.declared.views.Start.{Start}
use Rattle.flit_table.specs.declared.views.Start.TheVariants.{Go, Begin}
use Rattle.flit_table.specs.declared.views.View.{View}
use Rattle.flit_table.specs.Logs.{progress_of, settled_in, Continues, logged_by}
use Rattle.flit_table.specs.Views.{content_of, reads_in, updates_seen}
use Rattle.flit_table.specs.Moves.{tried_after, first_in, call_over, rests_after_call, over, over_at, rests, tally_in, MayEnter, EntersUnqueued, entering}
use Rattle.flit_table.specs.Steps.{IsTold, IsRepliedIn, IsTrying, Stepped, After, Belongs, Home}
use Rattle.atomic_table.specs.declared.shared.Seat.{Seat}
use Rattle.flit_table.specs.Calls.{Comes, at_first, further, IsSamePass, Runs, Ends, IsUnderWayAt}
use Rattle.flit_table.proofs.LogLaws.{continues_same, continues_on, seen_grows}

longer : (xs ys : List Entry) → (more : List Entry) × (ys ≡ xs ++ more) → length xs ≤ length ys
longer xs ys h = at_most (length xs) (length h.0) (length ys) (ap length h.1 ∙ length-append xs h.0)
  where
    at_most : (a b c : ℕ) → c ≡ a + b → a ≤ c
    at_most a b c e = omega arith

more_events : (name k : ℕ) (xs ys zs : List ℕ) → zs ≡ name ∷ ys → ys ≡ replicate k name ++ xs → zs ≡ replicate (k + 1) name ++ xs
more_events name k xs ys zs p q = rw add-one (p ∙ ap (λ (l : List ℕ). name ∷ l) q)

-- an event that is asked leaves no reply, and a reply leaves nothing asked
pub asks_still : (a : Option Event) (said : Reply) (e : Event) → a ≡ Some e → reply_at a said ≡ None
asks_still a said e is = ap (λ x. reply_at x said) is

asks_nothing : (a : Option Event) (said reply : Reply) → reply_at a said ≡ Some reply → a ≡ None
asks_nothing None said reply is = refl
asks_nothing (Some e) said reply is = absurd (cc)

module _ {S Op : Type 0} (meaning : Meaning Op) (laws : Lawful meaning) (o : Origin S) where
  -- the view as the call begins
  pub begins_runs : (call : Call) (v : View S Op) → MayEnter meaning (Begin call) v.post → (meaning.layout.workers ≡ 1 → EntersUnqueued meaning v.post) →
      Runs meaning o call v (entering meaning (Begin call) v) (meaning.begun (hand_of meaning v.post.worker) call) 0
  begins_runs call v may unqueued =
      let hand = hand_of meaning v.post.worker in
      let same : may.0 ≡ hand = sym (ap (hand_in meaning) may.1) in
      let first = laws.awake hand call (subst (λ h. MayStart meaning.layout h call) same may.2) in
      record {
        begun = None;
        comes = at_first;
        same = record { origin = refl; name = refl; names = refl; gone = refl; note = refl };
        worker = refl;
        start = refl;
        log = continues_same v.log;
        mine = refl;
        placed = refl;
        events = refl;
        late = le_refl _;
        order = λ some. absurd (omega (arith, some));
        unreplied = asks_still (meaning.asked (meaning.begun hand call)) (meaning.reply (meaning.begun hand call)) first.0 first.1;
        queued = λ one. unqueued one (Begin call) may;
        within = λ e asked. subst (IsWithin meaning.layout) (same_some first.0 e (sym first.1 ∙ asked)) first.2;
      }
    where
      same_some : (d e : Event) → Some d ≡ Some e → d ≡ e
      same_some d e q = cc

  -- v is the view as the call began, y before an event and w after it
  module _ (call : Call) (v y w : View S Op) (op : Op) (e : Event) (n k : ℕ) (r : Runs meaning o call v y op k) (asked : meaning.asked op ≡ Some e)
      (st : Stepped meaning o y e n w) where
    abbrev name : ℕ
    name = v.post.worker.name

    abbrev number : ℕ
    number = v.post.worker.number + 1

    abbrev next : Op
    next = meaning.taken op n

    abbrev count : ℕ
    count = length (settled_in (y.log ++ st.between))

    abbrev begun : ℕ
    begun = first_at count r.begun

    pub is_told : MayTake meaning op n
    is_told = subst (λ (u : Worker Op). IsTold meaning u.doing n) r.worker st.tells

    tried_now : events_of_try y.post.tried (tally meaning op) (tally meaning next) ≡ w.post.tried
    tried_now =
        sym (ap (λ z. z.post.tried) st.rests ∙ ap (λ z. z.post.tried) st.moves ∙ ap (λ (u : Worker Op). tried_after meaning y.post.tried u.doing n) r.worker)

    comes_now : Comes meaning (meaning.begun (hand_of meaning v.post.worker) call) next (k + 1) w.post.tried
    comes_now = subst (λ z. Comes meaning (meaning.begun (hand_of meaning v.post.worker) call) next (k + 1) z) tried_now (further e n r.comes asked is_told)

    moved_worker : st.moved.post.worker ≡ busy name number next call (Some begun)
    moved_worker = ap (λ z. z.post.worker) st.moves ∙ ap (λ (u : Worker Op). record u { doing = goes_on meaning count u.doing n }) r.worker

    log_is : w.log ≡ st.moved.log
    log_is = ap (λ z. z.log) st.rests

    log_before : Continues v.log (y.log ++ st.between)
    log_before = continues_on v.log y.log (y.log ++ st.between) r.log (st.between, refl)

    log_now : Continues v.log w.log
    log_now = continues_on v.log (y.log ++ st.between) w.log log_before (logged_by e n _, log_is ∙ ap (λ z. z.log) st.moves)

    count_late : length (updates_seen v) ≤ count
    count_late = longer (updates_seen v) (settled_in (y.log ++ st.between)) (seen_grows v.log (y.log ++ st.between) log_before)

    late_of : (b : Option ℕ) → length (updates_seen v) ≤ first_at (length (updates_seen v)) b → length (updates_seen v) ≤ first_at count b
    late_of None h = count_late
    late_of (Some j) h = h

    same_now : IsSamePass v w
    same_now = record {
      origin = ap (λ z. z.origin) st.rests ∙ ap (λ z. z.origin) st.moves ∙ r.same.origin;
      name = ap (λ z. z.name) st.rests ∙ ap (λ z. z.name) st.moves ∙ r.same.name;
      names = ap (λ z. z.names) st.rests ∙ ap (λ z. z.names) st.moves ∙ r.same.names;
      gone = ap (λ z. z.gone) st.rests ∙ ap (λ z. z.gone) st.moves ∙ r.same.gone;
      note = ap (λ z. z.note) st.rests ∙ ap (λ z. z.note) st.moves ∙ r.same.note;
    }

    events_now : w.events ≡ replicate (k + 1) name ++ v.events
    events_now = more_events name k v.events y.events w.events (ap (λ z. z.events) st.rests ∙ ap (λ z. z.events) st.moves
        ∙ ap (λ (u : Worker Op). u.name ∷ y.events) r.worker) r.events

    start_now : st.moved.post.start ≡ (hand_of meaning v.post.worker).tally
    start_now = ap (λ z. z.post.start) st.moves ∙ r.start

    rested_worker : (a : Option Reply) → replied meaning next ≡ a → w.post.worker ≡ record {
      name = name;
      number = number;
      doing =
          rests_after_call (Busy next call (Some begun)) (meaning.finished next) a;
    }
    rested_worker a is =
        ap (λ z. z.post.worker) st.rests ∙ ap (λ (u : Worker Op). record u { doing = rests meaning u.doing }) moved_worker
        ∙ ap (λ x. record { name = name; number = number; doing = rests_after_call (Busy next call (Some begun)) (meaning.finished next) x }) is

    over_now : (a : Option Reply) → replied meaning next ≡ a → over_at meaning st.moved.post ≡ call_over name number call a
    over_now a is = ap (λ (u : Worker Op). over meaning u.name u.number u.doing) moved_worker ∙ ap (call_over name number call) is

    mine_now : (a : Option Reply) → replied meaning next ≡ a → w.mine ≡ v.mine ++ call_over name number call a
    mine_now a is =
        ap (λ z. z.mine) st.rests ∙ ap (λ z. z ++ over_at meaning st.moved.post) (ap (λ z. z.mine) st.moves ∙ r.mine) ∙ ap (λ z. v.mine ++ z) (over_now a is)

    placed_now : w.placed ≡ v.placed ++ st.reads
    placed_now = ap (λ z. z.placed) st.rests ∙ ap (λ z. z ++ st.reads) (ap (λ z. z.placed) st.moves ∙ r.placed)

    no_reads : (reads : List Placed) → map (λ z. z.entry) reads ≡ [] → reads ≡ []
    no_reads [] h = refl
    no_reads (x ∷ reads) h = absurd (cc)

    queued_now : meaning.layout.workers ≡ 1 → (tally meaning next).queued ≡ 0
    queued_now one = subst (λ (u : Worker Op). (tally_in meaning u.doing).queued ≡ 0) moved_worker (st.queued one).0

    pub goes_further : replied meaning next ≡ None → Runs meaning o call v w next (k + 1)
    goes_further none = record {
      begun = Some begun;
      comes = comes_now;
      same = same_now;
      worker = rested_worker None none;
      start = ap (λ z. z.post.start) st.rests ∙ start_now;
      log = log_now;
      mine = mine_now None none ∙ append-nil v.mine;
      placed = placed_now ∙ ap (λ z. v.placed ++ z) (no_reads st.reads (st.are ∙ ap reads_in (over_now None none))) ∙ append-nil v.placed;
      events = events_now;
      late = late_of r.begun r.late;
      order = λ some. st.order;
      unreplied = none;
      queued = queued_now;
      within = λ d asks. st.within d (ap (λ (u : Worker Op). asked_by meaning u) moved_worker ∙ asks);
    }

    stands_from : (es : List Entry) (i j : ℕ) (x : Entry) → i ≤ j → StandsFrom j es x → StandsFrom i es x
    stands_from es i j x l h = (h.0, h.1, h.2, through i j (length h.0) l h.3)
      where
        through : (a b c : ℕ) → a ≤ b → b ≤ c → a ≤ c
        through a b c l m = omega arith

    replied_at : (reply : Reply) → replied meaning next ≡ Some reply → (m : State)
        × IsReplied meaning.layout meaning.room (content_of o) m (progress_of st.moved.log) name number call begun reply
    replied_at reply is = subst (λ (u : Worker Op). IsRepliedIn meaning o st.moved.log u.name u.number u.doing) moved_worker st.replied reply is

    trying_at : (reply : Reply) → replied meaning next ≡ Some reply → IsBelowTop (tally meaning next) →
        AreSearchesBounded meaning.layout.kind (hand_of meaning v.post.worker).tally (tally meaning next) × IsTryBounded meaning.bound w.post.tried None
    trying_at reply is below =
        let x = subst (λ (u : Worker Op). IsTrying meaning st.moved.post u.doing) moved_worker st.trying below in (
          subst (λ t. AreSearchesBounded meaning.layout.kind t (tally meaning next)) start_now x.0,
          subst (λ z. IsTryBounded meaning.bound z None) (sym (ap (λ z. z.post.tried) st.rests))
              (subst (λ a. IsTryBounded meaning.bound st.moved.post.tried a) (asks_nothing (meaning.asked next) (meaning.reply next) reply is) x.1),
        )

    pub comes_back : (reply : Reply) → replied meaning next ≡ Some reply → Ends meaning o call v w next reply (k + 1)
    comes_back reply is =
        let rep = replied_at reply is in
        let late = late_of r.begun r.late in
        let seen : settled_in st.moved.log ≡ updates_seen w = ap settled_in (sym log_is) in
        record {
          comes = comes_now;
          replied = is;
          same = same_now;
          worker = rested_worker (Some reply) is;
          hand = (
            subst (λ (u : Worker Op). (hand_of meaning u).name ≡ u.name) (rested_worker (Some reply) is) st.hand.0,
            subst (λ (u : Worker Op). (hand_of meaning u).number ≡ u.number) (rested_worker (Some reply) is) st.hand.1,
          );
          log = log_now;
          sees = seen_grows v.log w.log log_now;
          mine = mine_now (Some reply) is;
          events = events_now;
          update = λ yes_is. stands_from (updates_seen w) (length (updates_seen v)) begun (update_of name number call) late
              (subst (λ es. StandsFrom begun es (update_of name number call)) seen (rep.1.update yes_is));
          reads = st.reads;
          placed = placed_now;
          are = st.are ∙ ap reads_in (over_now (Some reply) is);
          late = all_map (λ z. begun ≤ z.position) (λ z. length (updates_seen v) ≤ z.position)
              (λ z h. through (length (updates_seen v)) begun z.position late h) st.reads
              (subst (λ (u : Worker Op). AllByRecursion (λ z. first_in u.doing ≤ z.position) st.reads) moved_worker st.late);
          right = st.right;
          legal = st.legal;
          order = st.order;
          some = omega arith;
          history = legal_from (content_of o) 0 (updates_seen w) w.placed st.legal
              (all_weaker _ _ w.placed (right_from_start (content_of o) (updates_seen w)) st.right);
          state = rep.0;
          bounded = subst (λ es. IsBounded meaning.layout meaning.room rep.0 es reply) seen rep.1.bounded;
          trying = trying_at reply is;
          queued = queued_now;
          next = λ one. (st.queued one).1;
        }
      where
        through : (a b c : ℕ) → a ≤ b → b ≤ c → a ≤ c
        through a b c l m = omega arith

  -- a call at which an event is asked may make it
  pub record MayGoOn (start : Start) (call : Call) (v y : View S Op) (op : Op) (e : Event) (k : ℕ) : Type 0 where
    pub may : MayEnter meaning start y.post
    pub asked : asked_by meaning (entering meaning start y).post.worker ≡ Some e
    pub within : IsWithin meaning.layout e
    pub runs : Runs meaning o call v (entering meaning start y) op k

  pub may_go_on : (start : Start) (call : Call) (v y : View S Op) (op : Op) (e : Event) (k : ℕ) → meaning.asked op ≡ Some e →
      IsUnderWayAt meaning o start call v y op k (replied meaning op) → MayGoOn start call v y op e k
  may_go_on start call v y op e k here h =
      let x = subst (IsUnderWayAt meaning o start call v y op k) (asks_still (meaning.asked op) (meaning.reply op) e here) h in
      record { may = x.0; asked = ap (λ (u : Worker Op). asked_by meaning u) x.1.worker ∙ here; within = x.1.within e here; runs = x.1 }

  -- after an event of the call's operation, told its answer, where the pass has begun what it waited to begin
  module _ (start : Start) (call : Call) (v y w : View S Op) (op : Op) (e : Event) (n k : ℕ) (r : Runs meaning o call v (entering meaning start y) op k)
      (asked : meaning.asked op ≡ Some e)
      (told : After meaning o (entering meaning start y) n w) where
    pub stepped : Stepped meaning o (entering meaning start y) e n w
    stepped = told e (ap (λ (u : Worker Op). asked_by meaning u) r.worker ∙ asked)

    pub told_now : MayTake meaning op n
    told_now = is_told call v (entering meaning start y) w op e n k r asked stepped

    at_once : (a : Option Reply) → replied meaning (meaning.taken op n) ≡ a → IsUnderWayAt meaning o Go call v w (meaning.taken op n) (k + 1) a
    at_once None is = (tt, goes_further call v (entering meaning start y) w op e n k r asked stepped is, λ less. refl)
    at_once (Some reply) is = comes_back call v (entering meaning start y) w op e n k r asked stepped reply is

    pub goes_at_call : IsUnderWayAt meaning o Go call v w (meaning.taken op n) (k + 1) (replied meaning (meaning.taken op n))
    goes_at_call = at_once (replied meaning (meaning.taken op n)) refl

  -- the pass stays at its table
  pub still_belongs : (home : Home S) → home.origin ≡ o → (before seat : Seat ℕ (View S Op)) (y : View S Op) (e : Event) (n : ℕ) → Belongs home before →
      seat.table_id ≡ before.table_id → seat.me.1 ≡ before.me.1 →
      y.origin ≡ before.me.0.origin → y.names ≡ before.me.0.names → Stepped meaning o y e n seat.me.0 → Belongs home seat
  still_belongs home is before seat y e n b table slots origin names st = record {
    table = table ∙ b.table;
    origin = ap (λ z. z.origin) st.rests ∙ ap (λ z. z.origin) st.moves ∙ origin ∙ b.origin;
    slots = slots ∙ b.slots;
    names = subst (λ k. 0 < k) (sym (ap (λ z. z.names) st.rests ∙ ap (λ z. z.names) st.moves ∙ names)) b.names;
  }
