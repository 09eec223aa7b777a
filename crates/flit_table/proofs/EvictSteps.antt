-- An evict, event by event.
use Rattle.std.proofs.Common.{◌≡◌, ℕ, List, [], ◌∷◌, ◌++◌, length, map, refl, sym, ap, ◌∙◌, append-nil}
use Rattle.flit_words.specs.Words.{bare_of}
use Rattle.flit_model.specs.declared.calls.Placed.{Placed}
use Rattle.flit_model.specs.declared.events.Event.{Event}
use Rattle.flit_model.specs.declared.events.Event.TheVariants.{Load, Persist}
use Rattle.flit_pv.specs.declared.evicts.Evict.{Evict}
use Rattle.flit_pv.specs.declared.evicts.Evicting.TheVariants.{WritesBack}
use Rattle.flit_pv.specs.Evicts.{evict_started, evict_taken}
use Rattle.flit_structure.specs.declared.workers.Worker.{Worker}
use Rattle.flit_structure.specs.Moments.{sweeper}
use Rattle.flit_structure.specs.Meanings.{Meaning, goes_on, asked_by, hand_of}
use Rattle.flit_structure.specs.Lawful.{Lawful}
use Rattle.flit_table.specs.declared.views.Made.TheVariants.{Evicted}
use Rattle.flit_table.specs.declared.views.Origin.{Origin}
use Rattle.flit_table.specs.declared.views.Start.TheVariants.{Sweep}
use Rattle.flit_table.specs.declared.views.View.{View}
use Rattle.flit_table.specs.Logs.{settled_in, logged_by, Continues}
use Rattle.flit_table.specs.Views.{reads_in}
use Rattle.flit_table.specs.Moves.{over, over_at, rests, entering}
use Rattle.flit_table.specs.Steps.{Stepped, After}
use Rattle.flit_table.specs.Calls.{IsSamePass, Sweeps, Evicts}
use Rattle.flit_table.proofs.LogLaws.{continues_on, seen_grows}

no_reads : (reads : List Placed) → map (λ z. z.entry) reads ≡ [] → reads ≡ []
no_reads [] h = refl
no_reads (x ∷ reads) h = absurd (cc)

module _ {S Op : Type 0} (meaning : Meaning Op) (laws : Lawful meaning) (o : Origin S) where
  -- an event of a worker at an evict, of the view y that began as v
  module _ (v y w : View S Op) (evict : Evict) (e : Event) (n : ℕ) (same : IsSamePass v y)
      (worker : y.post.worker ≡ sweeper v.post.worker.name v.post.worker.number evict) (log : Continues v.log y.log) (st : Stepped meaning o y e n w) where
    abbrev name : ℕ
    name = v.post.worker.name

    abbrev number : ℕ
    number = v.post.worker.number

    moved_worker : st.moved.post.worker ≡ sweeper name number (evict_taken evict n)
    moved_worker = ap (λ z. z.post.worker) st.moves ∙ ap (λ (u : Worker Op). record u
        { doing = goes_on meaning (length (settled_in (y.log ++ st.between))) u.doing n }) worker

    pub rested_worker : w.post.worker ≡ record {
      name = name;
      number = number;
      doing =
          rests meaning (sweeper {Op = Op} name number (evict_taken evict n)).doing;
    }
    rested_worker = ap (λ z. z.post.worker) st.rests ∙ ap (λ (u : Worker Op). record u { doing = rests meaning u.doing }) moved_worker

    over_now : over_at meaning st.moved.post ≡ over meaning name number (sweeper {Op = Op} name number (evict_taken evict n)).doing
    over_now = ap (λ (u : Worker Op). over meaning u.name u.number u.doing) moved_worker

    pub mine_now : w.mine ≡ y.mine ++ over meaning name number (sweeper {Op = Op} name number (evict_taken evict n)).doing
    mine_now = ap (λ z. z.mine) st.rests ∙ ap (λ z. z ++ over_at meaning st.moved.post) (ap (λ z. z.mine) st.moves) ∙ ap (λ z. y.mine ++ z) over_now

    pub placed_now : reads_in (over meaning name number (sweeper {Op = Op} name number (evict_taken evict n)).doing) ≡ [] → w.placed ≡ y.placed
    placed_now none =
        ap (λ z. z.placed) st.rests ∙ ap (λ z. z ++ st.reads) (ap (λ z. z.placed) st.moves)
        ∙ ap (λ z. y.placed ++ z) (no_reads st.reads (st.are ∙ ap reads_in over_now ∙ none)) ∙ append-nil y.placed

    pub log_now : Continues v.log w.log
    log_now =
        continues_on v.log (y.log ++ st.between) w.log (continues_on v.log y.log (y.log ++ st.between) log (st.between, refl))
        (logged_by e n _, ap (λ z. z.log) st.rests ∙ ap (λ z. z.log) st.moves)

    pub same_now : IsSamePass v w
    same_now = record {
      origin = ap (λ z. z.origin) st.rests ∙ ap (λ z. z.origin) st.moves ∙ same.origin;
      name = ap (λ z. z.name) st.rests ∙ ap (λ z. z.name) st.moves ∙ same.name;
      names = ap (λ z. z.names) st.rests ∙ ap (λ z. z.names) st.moves ∙ same.names;
      gone = ap (λ z. z.gone) st.rests ∙ ap (λ z. z.gone) st.moves ∙ same.gone;
      note = ap (λ z. z.note) st.rests ∙ ap (λ z. z.note) st.moves ∙ same.note;
    }

    pub events_now : w.events ≡ name ∷ y.events
    events_now = ap (λ z. z.events) st.rests ∙ ap (λ z. z.events) st.moves ∙ ap (λ (u : Worker Op). u.name ∷ y.events) worker

  -- the first event
  module _ (word n : ℕ) (v w : View S Op) (told : After meaning o (entering meaning (Sweep word) v) n w) where
    abbrev y : View S Op
    y = entering meaning (Sweep word) v

    abbrev evict : Evict
    evict = evict_started (hand_of meaning v.post.worker) word

    pub first_stepped : Stepped meaning o y (Load word) n w
    first_stepped = told (Load word) refl

    same : IsSamePass v y
    same = record { origin = refl; name = refl; names = refl; gone = refl; note = refl }

    log : Continues v.log y.log
    log = ([], sym (append-nil v.log))

    pub sweeps : Sweeps meaning o word v w n
    sweeps = record {
      same = same_now v y w evict (Load word) n same refl log first_stepped;
      worker = rested_worker v y w evict (Load word) n same refl log first_stepped;
      log = log_now v y w evict (Load word) n same refl log first_stepped;
      mine = mine_now v y w evict (Load word) n same refl log first_stepped ∙ append-nil v.mine;
      placed = placed_now v y w evict (Load word) n same refl log first_stepped refl;
      events = events_now v y w evict (Load word) n same refl log first_stepped;
      order = first_stepped.order;
      queued = λ one. (first_stepped.queued one).1;
    }

  -- the second
  module _ (word found n : ℕ) (v y w : View S Op) (r : Sweeps meaning o word v y found) (told : After meaning o y n w) where
    abbrev halfway : Evict
    halfway = record { hand = hand_of meaning v.post.worker; word = word; at = WritesBack found }

    pub second_stepped : Stepped meaning o y (Persist word (bare_of found)) n w
    second_stepped = told (Persist word (bare_of found)) (ap (λ (u : Worker Op). asked_by meaning u) r.worker)

    pub evicts : Evicts meaning o word v w
    evicts = record {
      same = same_now v y w halfway (Persist word (bare_of found)) n r.same r.worker r.log second_stepped;
      worker = rested_worker v y w halfway (Persist word (bare_of found)) n r.same r.worker r.log second_stepped;
      log = log_now v y w halfway (Persist word (bare_of found)) n r.same r.worker r.log second_stepped;
      sees = seen_grows v.log w.log (log_now v y w halfway (Persist word (bare_of found)) n r.same r.worker r.log second_stepped);
      mine = mine_now v y w halfway (Persist word (bare_of found)) n r.same r.worker r.log second_stepped
          ∙ ap (λ z. z ++ Evicted v.post.worker.name word ∷ []) r.mine;
      placed = placed_now v y w halfway (Persist word (bare_of found)) n r.same r.worker r.log second_stepped refl ∙ r.placed;
      events = events_now v y w halfway (Persist word (bare_of found)) n r.same r.worker r.log second_stepped ∙ ap (λ z. v.post.worker.name ∷ z) r.events;
      order = second_stepped.order;
      right = second_stepped.right;
      legal = second_stepped.legal;
      queued = λ one. (second_stepped.queued one).1;
    }
