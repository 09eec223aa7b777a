-- A call goes on by its own event: its machine is further on, or has ended with the event, and then the next one starts in
-- the heap after it.
use Rattle.std.proofs.Common.{◌≡◌, ℕ, ◌≤◌, Bool, true, false, List, ◌∷◌, ◌++◌, length, Option, Some, None, refl, sym, ◌∙◌, ap, subst, arith}
use Rattle.std.specs.Prelude.{Contains}
use Rattle.std.specs.List.{AllByRecursion}
use Rattle.flit_words.specs.declared.layouts.Layout.{Layout}
use Rattle.flit_words.specs.Layouts.{words_of}
use Rattle.flit_model.specs.States.{State}
use Rattle.flit_model.specs.Settling.{Progress}
use Rattle.flit_model.specs.declared.calls.Call.{Call}
use Rattle.flit_place.specs.Tags.{Place}
use Rattle.flit_pv.specs.declared.hands.Hand.{Hand}
use Rattle.flit_runs.specs.Workings as run
use Rattle.flit_runs.specs.Workings.{Idles, leaves, confirms, goes_for}
use Rattle.flit_runs.specs.Worlds.{Actor, IsAway, world_of, writings}
use Rattle.flit_runs.proofs.Turns.{safe}
use Rattle.flit_runs.proofs.ExchangeSteps.{around}
use Rattle.flit_runs.specs.Soundness.{IsSound}
use Rattle.flit_structure.specs.declared.workers.Worker.{Worker}
use Rattle.flit_structure.specs.Moments.{Moment, with_workers, busy}
use Rattle.flit_structure.specs.Meanings.{first_at}
use Rattle.flit_place.proofs.Splits.{all_middle}
use Rattle.flit_structure.proofs.Names.{all_both}
use Rattle.flit_crew.specs.Machines.{Machine, SeesNoTag, MakesAt, working_in, hand_in, hand_of, has_ended, reads_for}
use Rattle.flit_crew.specs.Heaps.{Heap, heap_of, IsOpen, IsWordOf, IsHidden, IsMine, AreOld}
use Rattle.flit_crew.specs.Anatomies.{own, own_in, deed, gone_on, gone_by}
use Rattle.flit_crew.specs.Accounts.{HasUpdate, Rows, History, IsSteady, IsTight, AreTight}
use Rattle.flit_crew.specs.Crews.{Crew, Who, AllAct, Holds, IsAlone, Facts, OwnsRows, left, stranger_of}
use Rattle.flit_crew.specs.Obligations.{Keeps, IsAfter}
use Rattle.flit_runs.proofs.Changes.{sound_leaves}
use Rattle.flit_crew.proofs.Outside.{outside_hidden, outside_away}
use Rattle.flit_crew.proofs.Tagging.{TagsGo, tags_over, ended_tags}
use Rattle.flit_crew.proofs.Alone.{left_queued}
use Rattle.flit_crew.proofs.Placing.{pool_fit}
use Rattle.flit_crew.proofs.Knowing.{facts_more}
use Rattle.flit_crew.proofs.Publishing.{Published, published_now, all_published, further_published}
use Rattle.flit_structure.proofs.Names.{others_new}
use Rattle.flit_crew.proofs.Acting.{Split, Moves, AllStay, through, all_last, all_stay}
use Rattle.flit_crew.proofs.Updating.{settled_longer}
use Rattle.flit_crew.proofs.Accounting.{rows_steady, history_steady}
use Rattle.flit_crew.proofs.Owning.{old_needs, IsOwn, own_row, own_once, own_away, lower}
use Rattle.flit_crew.proofs.Moving.{moved, still_moves, old_left, old_right}
use Rattle.flit_crew.proofs.Arriving.{arrives, Arrived, resting}
use Rattle.flit_crew.proofs.Going.{alone_same, r, heap, me_now, busy_now, since, leaves_same, ended_asks, all_hidden, Went, Gone}

module _ {G Op : Type 0} (c : Crew G Op) (l : Layout) (p : Place) (free : List ℕ) where
  module _ (keeps : Keeps c l p free) (M : Moment Op) (a : List (Worker Op)) (name number : ℕ) (op : Op) (call : Call) (begun : Option ℕ) (b : List (Worker Op))
      (holds : Holds c l p free (with_workers M (a ++ busy name number op call begun ∷ b))) (n : ℕ) (settled : n ≤ length M.progress.settled)
      (s : State) (q : Progress) (given : List ℕ) (ghost : G) where
    abbrev mine : Split c l p free (heap c l p free keeps M a name number op call begun b holds n settled) a (busy name number op call begun) b holds.actors
    mine = r c l p free keeps M a name number op call begun b holds n settled

    -- those before it in the world
    abbrev front : List Actor
    front = stranger_of holds.stranger ∷ mine.before

    abbrev here : Heap G
    here = heap c l p free keeps M a name number op call begun b holds n settled

    abbrev pub N : Moment Op
    N = record M { state = s; progress = q }

    abbrev pub k : Heap G
    k = heap_of N given ghost

    abbrev pub now : Option ℕ
    now = Some (first_at n begun)

    abbrev pub me_as : Actor → Who
    me_as g = me_now c l p free keeps M a name number op call begun b holds n settled g

    abbrev pub GoneTo : Op → Type 0
    GoneTo next = Holds c l p free (with_workers N (a ++ busy name number next call now ∷ b))

    pub record WentTo (g : Actor) (m : Machine) : Type 0 where
      pub after_it : IsAfter c l p free op m
      pub words : length s.words ≡ words_of l
      pub slots : length s.slots ≡ l.slots
      pub moves : Moves c l p free (Some name) here k
      pub before : AllStay c l p free (Some name) here k a mine.before
      pub behind : AllStay c l p free (Some name) here k b mine.behind
      pub sound : IsSound p (λ word. false) (world_of s front g mine.behind)
      pub at : g.at ≡ working_in m
      pub name_same : (hand_of g.at).name ≡ name
      pub number_same : (hand_of g.at).number ≡ number
      pub reached : AllByRecursion (IsOpen l free k) (goes_for g.at)
      pub reading : AllByRecursion (IsOpen l free k) (reads_for g.at)
      pub mine_now : AllByRecursion (IsMine l free k (own c.anatomy (c.anatomy.with_machine op m))) g.private
      pub facts : Facts c l p free k (me_as g) (c.anatomy.with_machine op m) m
      pub tags : TagsGo p M.state s mine.actor.at g.at
      pub alone : l.workers ≡ 1 → IsAlone c l p free g
      pub update : HasUpdate k name number call (first_at n begun) (deed c.anatomy (c.anatomy.with_machine op m))
      pub rows : Rows c.anatomy l free s.counter k (a ++ busy name number (c.anatomy.with_machine op m) call now ∷ b)
      pub history : History c.anatomy l free k (a ++ busy name number (c.anatomy.with_machine op m) call now ∷ b)
      pub knows : c.knows k (me_as g) (c.anatomy.with_machine op m)

    some_none : (x : ℕ) → ◌≡◌ {A = Option ℕ} (Some x) None → ⊥
    some_none x e = cc

    since_now : (g : Actor) (m : Machine) → WentTo g m → first_at n begun ≤ length k.progress.settled
    since_now g m w = through (first_at n begun) (length M.progress.settled) (length q.settled)
        (since c l p free keeps M a name number op call begun b holds n settled) (settled_longer (Some name) here k w.moves.follows)

    still_going : (g : Actor) (m : Machine) → WentTo g m → has_ended p m ≡ false → GoneTo (c.anatomy.with_machine op m)
    still_going g m w going = moved c l p free keeps M a (busy name number op call begun) b holds s q given ghost
        (busy name number (c.anatomy.with_machine op m) call now) (published g w).actor refl w.words w.slots (published g w).sound
        (subst (TagsGo p M.state s mine.actor.at) (sym (published g w).at) w.tags) w.moves w.before w.behind
        (record {
          at = (published g w).at ∙ w.at ∙ ap working_in (sym (keeps.put op m w.after_it));
          name = ap (λ y. (hand_of y).name) (published g w).at ∙ w.name_same;
          number = ap (λ y. (hand_of y).number) (published g w).at ∙ w.number_same;
          least = mine.mine.least;
          most = mine.mine.most;
          reached = subst (λ y. AllByRecursion (IsOpen l free k) (goes_for y)) (sym (published g w).at) w.reached;
          reading = subst (λ y. AllByRecursion (IsOpen l free k) (reads_for y)) (sym (published g w).at) w.reading;
          mine = all_published p s front g mine.behind (IsMine l free k (own c.anatomy (c.anatomy.with_machine op m))) (published g w) w.mine_now;
          published = (published g w).published;
          alone = λ one. alone_same c l p free g (published g w).actor (published g w).at (published g w).seen (w.alone one);
          doing = record {
            same_call = keeps.put_call op m w.after_it ∙ (busy_now c l p free keeps M a name number op call begun b holds n settled).same_call;
            served = (busy_now c l p free keeps M a name number op call begun b holds n settled).served;
            first = since_now g m w;
            waits = λ e. absurd (some_none (first_at n begun) e);
            facts = subst (Facts c l p free k (me_as (published g w).actor) (c.anatomy.with_machine op m)) (sym (keeps.put op m w.after_it))
                (facts_more c l p free k (me_as g) (me_as (published g w).actor) (c.anatomy.with_machine op m) refl
                (further_published p s front g mine.behind name number call now (published g w)).needs m w.facts);
            going = ap (has_ended p) (keeps.put op m w.after_it) ∙ going;
            update = w.update;
            knows = keeps.more k (me_as g) (me_as (published g w).actor) (c.anatomy.with_machine op m) w.moves.is
                (further_published p s front g mine.behind name number call now (published g w)) w.knows;
          };
        }) w.rows w.history
      where
        published : (y : Actor) → WentTo y m → Published p s front y mine.behind
        published y v = published_now p s front y mine.behind v.sound

    goes_over : (g : Actor) (m : Machine) → WentTo g m → has_ended p m ≡ true → GoneTo (c.anatomy.resumed op m)
    goes_over g m w ended =
        let me : Who = left c l p free (me_as g) (working_in m) in
        let hand : Hand = leaves (working_in m) in
        let with : Op = c.anatomy.with_machine op m in
        let over : Op = c.anatomy.resumed op m in
        let asks : run.asks p g.at ≡ None = ap (run.asks p) w.at ∙ ended_asks p m ended in
        let rests : IsSound p (λ word. false) (world_of s front (resting me hand) mine.behind) =
        subst (λ x. let v : Actor = record { at = Idles (leaves x); needs = confirms x ++ g.needs; seen = g.seen; private = g.private } in
        IsSound p (λ word. false) (world_of s front v mine.behind)) w.at
        (sound_leaves p (λ word. false) s front g mine.behind asks w.sound) in
        let alone : l.workers ≡ 1 → IsAlone c l p free (resting me hand) = λ one. record {
          machine = tt;
          queued = left_queued p (working_in m) (ended_asks p m ended) (subst (SeesNoTag p) w.at (w.alone one).machine)
              ∙ ap (λ x. (hand_of x).tally.queued) (sym w.at) ∙ (w.alone one).queued;
          seen = (w.alone one).seen;
        } in
        let known = busy_now c l p free keeps M a name number op call begun b holds n settled in
        let old : AreOld k g.needs = old_needs p (λ word. false) s (around (writings front) (run.writing_at g.at) (writings mine.behind)) k g
        w.sound.words refl (safe p (λ word. false) s front g mine.behind w.sound) in
        let own_with : (row : ℕ) → Contains (own c.anatomy with) row → IsOwn (λ v. own_in c.anatomy v.doing) free given a b row =
        λ row k. own_row (λ v. own_in c.anatomy v.doing) free s.counter given a (busy name number with call now) b row (lower free holds.pool.rising)
        w.rows.dealt k in
        let owns : OwnsRows c l p free k with m = record {
          pool = λ row k. (own_with row k).pool;
          fit = λ row k. pool_fit l free holds.pool row (own_with row k).pool;
          unlinked = λ row k. (own_with row k).unlinked;
          once = own_once (λ v. own_in c.anatomy v.doing) free s.counter given a (busy name number with call now) b (lower free holds.pool.rising) w.rows.dealt;
          tight = subst (λ x. AreTight l (hand_in x).spare) (keeps.put op m w.after_it)
              (all_middle (IsTight c.anatomy l) a (busy name number with call now) b w.rows.tight);
        } in
        let goes = keeps.resumes k (me_as g) op m w.after_it w.moves.is known.served mine.mine.most
        ((leaves_same (working_in m)).name ∙ ap (λ y. (hand_of y).name) (sym w.at) ∙ w.name_same)
        (since_now g m w) old known.same_call ended w.facts owns w.knows in
        let coherent = keeps.coherent k (me_as g) op m w.after_it w.moves.is known.same_call ended owns w.knows in
        let names = leaves_same (working_in m) in
        let left_now : AllAct c l p free k a mine.before = all_last c l p free keeps (Some name) here k w.moves a mine.before w.before mine.left in
        let right_now : AllAct c l p free k b mine.behind = all_last c l p free keeps (Some name) here k w.moves b mine.behind w.behind mine.right in
        let others = all_both (λ o. AllByRecursion (IsHidden l free k) o.private) front mine.behind
        (outside_hidden l free k holds.opening holds.stranger holds.outside, all_hidden c l p free k a mine.before left_now)
        (all_hidden c l p free k b mine.behind right_now) in
        let own_is : (row : ℕ) → Contains (own c.anatomy over) row → IsOwn (λ v. own_in c.anatomy v.doing) free given a b row =
        λ row has. own_row (λ v. own_in c.anatomy v.doing) free s.counter given a (busy name number with call now) b row (lower free holds.pool.rising)
        w.rows.dealt (subst (λ rows. Contains rows row) coherent.own has) in
        let unreached : (row v : ℕ) → Contains (own c.anatomy over) row → IsWordOf l row v →
        AllByRecursion (λ o. IsAway o.private v × IsAway (goes_for o.at) v) (front ++ mine.behind) = λ row v has of. (
          (outside_away l free k holds.pool holds.opening holds.stranger holds.outside row v (own_is row has).pool of, tt),
          own_away c l p free k holds.pool a b mine.before mine.behind left_now right_now row v (own_is row has) of,
        ) in
        let x : Arrived c l p free k holds.accepted s w.words refl front mine.behind others over
        (λ row has. ((own_is row has).pool, (own_is row has).unlinked)) unreached me hand =
        arrives c l p free k holds.accepted s w.words refl front mine.behind others over (λ row has. ((own_is row has).pool, (own_is row has).unlinked))
        unreached me hand
        (subst (λ rows. AllByRecursion (IsMine l free k rows) g.private) (sym coherent.own) w.mine_now) rests alone goes in
        let y : Published p s front x.actor mine.behind = published_now p s front x.actor mine.behind x.sound in
        let steady : IsSteady c.anatomy l k (busy name number with call now) (busy name number over call now) = record {
          own = coherent.own;
          ticket = ap (λ y. (hand_of y).ticket) (sym x.at) ∙ x.ticket ∙ names.ticket ∙ ap (λ y. (hand_in y).ticket) (sym (keeps.put op m w.after_it));
          tight = coherent.tight;
          makes = λ word e is d. (subst (λ y. MakesAt y word) (sym coherent.deed) d.0, d.1);
        } in
        moved c l p free keeps M a (busy name number op call begun) b holds s q given ghost (busy name number over call now) y.actor refl w.words w.slots
        y.sound (tags_over p M.state s mine.actor.at g.at y.actor.at (ended_tags p g.at asks) w.tags) w.moves w.before w.behind
        (record {
          at = y.at ∙ x.at;
          name = ap (λ z. (hand_of z).name) y.at ∙ x.name ∙ names.name ∙ ap (λ y. (hand_of y).name) (sym w.at) ∙ w.name_same;
          number = ap (λ z. (hand_of z).number) y.at ∙ x.number ∙ names.number ∙ ap (λ y. (hand_of y).number) (sym w.at) ∙ w.number_same;
          least = mine.mine.least;
          most = mine.mine.most;
          reached = subst (λ z. AllByRecursion (IsOpen l free k) (goes_for z)) (sym y.at) x.reached;
          reading = subst (λ z. AllByRecursion (IsOpen l free k) (reads_for z)) (sym y.at) x.reading;
          mine = all_published p s front x.actor mine.behind (IsMine l free k (own c.anatomy over)) y x.mine;
          published = y.published;
          alone = λ one. alone_same c l p free x.actor y.actor y.at y.seen (x.alone one);
          doing = record {
            same_call = x.same_call;
            served = known.served;
            first = since_now g m w;
            waits = λ e. absurd (some_none (first_at n begun) e);
            facts = facts_more c l p free k (me_as x.actor) (me_as y.actor) over refl
                (further_published p s front x.actor mine.behind name number call now y).needs (c.anatomy.machine over) x.facts;
            going = x.going;
            update = subst (λ d. HasUpdate k name number call (first_at n begun) d) (sym coherent.deed) w.update;
            knows = keeps.more k (me_as x.actor) (me_as y.actor) over w.moves.is (further_published p s front x.actor mine.behind name number call now y)
                x.knows;
          };
        })
        (rows_steady c.anatomy l free s.counter k a (busy name number with call now) (busy name number over call now) b steady w.rows)
        (history_steady c.anatomy l free k a (busy name number with call now) (busy name number over call now) b refl (same_le number) steady.makes w.history)
      where
        same_le : (x : ℕ) → x ≤ x
        same_le x = omega arith

    pub went_to : (g : Actor) (m : Machine) → WentTo g m → GoneTo (gone_on c.anatomy p op m)
    went_to g m w = by_end (has_ended p m) refl
      where
        by_end : (t : Bool) → has_ended p m ≡ t → GoneTo (gone_by c.anatomy t op m)
        by_end true e = goes_over g m w e
        by_end false e = still_going g m w e

  -- where the event leaves the heap as it was
  module _ (keeps : Keeps c l p free) (M : Moment Op) (a : List (Worker Op)) (name number : ℕ) (op : Op) (call : Call) (begun : Option ℕ) (b : List (Worker Op))
      (holds : Holds c l p free (with_workers M (a ++ busy name number op call begun ∷ b))) (n : ℕ) (settled : n ≤ length M.progress.settled) where
    pub went : (s : State) (g : Actor) (m : Machine) → Went c l p free keeps M a name number op call begun b holds n settled s g m →
        Gone c l p free keeps M a name number op call begun b holds n settled s (gone_on c.anatomy p op m)
    went s g m w =
        let u : Worker Op = busy name number op call begun in
        let v : Worker Op = busy name number (c.anatomy.with_machine op m) call (Some (first_at n begun)) in
        let h : Heap G = heap c l p free keeps M a name number op call begun b holds n settled in
        let x = r c l p free keeps M a name number op call begun b holds n settled in
        let new = others_new a b u holds.different in
        let me = me_now c l p free keeps M a name number op call begun b holds n settled g in
        went_to keeps M a name number op call begun b holds n settled s M.progress holds.given holds.ghost g m (record {
          after_it = w.after_it;
          words = w.words;
          slots = w.slots;
          moves = subst (Moves c l p free (Some name) h) w.same (still_moves c l p free keeps M a u b holds);
          before = subst (λ k. AllStay c l p free (Some name) h k a x.before) w.same
              (all_stay c l p free h name a x.before new.0 (old_left c l p free keeps M a u b holds) x.left);
          behind = subst (λ k. AllStay c l p free (Some name) h k b x.behind) w.same
              (all_stay c l p free h name b x.behind new.1 (old_right c l p free keeps M a u b holds) x.right);
          sound = w.sound;
          at = w.at;
          name_same = w.name_same;
          number_same = w.number_same;
          reached = subst (λ k. AllByRecursion (IsOpen l free k) (goes_for g.at)) w.same w.reached;
          reading = subst (λ k. AllByRecursion (IsOpen l free k) (reads_for g.at)) w.same w.reading;
          mine_now = subst (λ k. AllByRecursion (IsMine l free k (own c.anatomy (c.anatomy.with_machine op m))) g.private) w.same w.mine;
          facts = subst (λ k. Facts c l p free k me (c.anatomy.with_machine op m) m) w.same w.facts;
          tags = w.tags;
          alone = w.alone;
          update = subst (λ k. HasUpdate k name number call (first_at n begun) (deed c.anatomy (c.anatomy.with_machine op m))) w.same w.update;
          rows = subst (λ k. Rows c.anatomy l free s.counter k (a ++ v ∷ b)) w.same w.rows;
          history = subst (λ k. History c.anatomy l free k (a ++ v ∷ b)) w.same w.history;
          knows = subst (λ k. c.knows k me (c.anatomy.with_machine op m)) w.same w.knows;
        })
