-- The Draw of a call's TakeRow.
use Rattle.std.proofs.Common.{◌≡◌, ℕ, suc, ◌+◌, ◌-◌, ◌^◌, ◌<◌, ◌≤◌, true, false, List, ◌∷◌, ◌++◌, length, count_by, slice_get, Option, Some, None, refl, sym, ◌∙◌, ap, subst, arith}
use Rattle.std.specs.Prelude.{Contains}
use Rattle.flit_words.specs.declared.layouts.Layout.{Layout}
use Rattle.flit_words.specs.Layouts.{last_row_of}
use Rattle.flit_model.proofs.Elements.{all_weaker}
use Rattle.flit_model.specs.Effects.{after}
use Rattle.flit_model.specs.declared.events.Event.TheVariants.{Draw}
use Rattle.flit_model.specs.declared.calls.Call.{Call}
use Rattle.flit_place.specs.Tags.{Place}
use Rattle.flit_rows.specs.Taking.{HeldTake}
use Rattle.flit_rows.specs.declared.take_row.Taking.TheVariants.{Draws}
use Rattle.flit_rows.specs.Taking.{take_taken, take_takes, lacks, is_past, with_row, IsRightAt}
use Rattle.flit_rows.specs.Shares.{rows_in}
use Rattle.flit_rows.proofs.TakeLaws.{right_taken}
use Rattle.flit_structure.specs.Lawful.{rows_needed}
use Rattle.flit_runs.specs.Workings.{Idles, writing_at}
use Rattle.flit_runs.specs.Worlds.{Actor, world_of, draws}
use Rattle.flit_runs.specs.Soundness.{IsSound, owed}
use Rattle.flit_runs.proofs.Turns.{sound-turn}
use Rattle.flit_structure.specs.declared.workers.Worker.{Worker}
use Rattle.flit_structure.specs.Moments.{Moment, with_workers, busy}
use Rattle.flit_structure.specs.Meanings.{first_at}
use Rattle.flit_crew.specs.Machines.{Takes, Tags, MakesAt, deed_of, working_in, machine_takes, hand_in, hand_of}
use Rattle.flit_crew.specs.Heaps.{Heap, IsMine}
use Rattle.flit_crew.specs.Anatomies.{own, hand_at, op_taken, gone_on}
use Rattle.flit_crew.specs.Accounts.{HasUpdate, Rows}
use Rattle.flit_crew.specs.Crews.{Crew, Holds, Facts, stranger_of}
use Rattle.flit_crew.specs.Obligations.{Keeps, IsAfter}
use Rattle.flit_crew.proofs.Tagging.{tags_none}
use Rattle.flit_runs.proofs.Changes.{sound_rests}
use Rattle.flit_crew.proofs.Acting.{Split}
use Rattle.flit_crew.proofs.Going.{r, heap, me_now, sound_now, facts_now, knows_now, update_now}
use Rattle.flit_crew.proofs.GoingTo.{went}
use Rattle.flit_crew.proofs.Accounting.{history_steady}
use Rattle.flit_crew.proofs.Dealing.{rows_drawn, filled_keeps, from_pool}
use Rattle.flit_crew.proofs.Standing.{deed_same, own_fresh}
use Rattle.flit_crew.proofs.Counting.{count_few, pool_few, workers_few, names_within, last_row_small}
use Rattle.flit_crew.proofs.Trying.{same_le}

module _ {G Op : Type 0} (c : Crew G Op) (l : Layout) (p : Place) (free : List ℕ) (keeps : Keeps c l p free) (M : Moment Op) (a : List (Worker Op))
    (name number : ℕ) (op : Op) (call : Call) (begun : Option ℕ) (b : List (Worker Op))
    (holds : Holds c l p free (with_workers M (a ++ busy name number op call begun ∷ b))) (m : HeldTake) (is : c.anatomy.machine op ≡ Takes m)
    (at : m.at ≡ Draws) where
  abbrev K : ℕ
  K = length M.progress.settled

  abbrev mine : Split c l p free (heap c l p free keeps M a name number op call begun b holds K (same_le K)) a (busy name number op call begun) b holds.actors
  mine = r c l p free keeps M a name number op call begun b holds K (same_le K)

  -- those before it in the world
  abbrev front : List Actor
  front = stranger_of holds.stranger ∷ mine.before

  abbrev told : ℕ
  told = M.state.counter

  abbrev then_at : HeldTake
  then_at = take_taken free m told

  abbrev g : Actor
  g = record mine.actor { at = Idles then_at.hand }

  taken : take_taken free m told ≡ take_takes free Draws m told
  taken = ap (λ x. take_takes free x m told) at

  at_rest : mine.actor.at ≡ Idles m.hand
  at_rest = mine.mine.at ∙ ap working_in is

  abbrev here : Heap G
  here = heap c l p free keeps M a name number op call begun b holds K (same_le K)

  abbrev next_op : Op
  next_op = c.anatomy.with_machine op (Takes then_at)

  abbrev next : Worker Op
  next = busy name number next_op call (Some (first_at K begun))

  after_it : IsAfter c l p free op (Takes then_at)
  after_it = (told, ap (λ x. machine_takes p free x told) (sym is))

  stands : Facts c l p free here (me_now c l p free keeps M a name number op call begun b holds K (same_le K) mine.actor) op (Takes m)
  stands = subst (Facts c l p free here (me_now c l p free keeps M a name number op call begun b holds K (same_le K) mine.actor) op) is
      (facts_now c l p free keeps M a name number op call begun b holds K (same_le K))

  judged : IsRightAt free m Draws
  judged = subst (IsRightAt free m) at stands.0

  missing : lacks (rows_needed l.kind) m.hand.spare ≡ true
  missing = subst (λ n. lacks n m.hand.spare ≡ true) stands.1 judged.0

  same_deed : deed_of (Takes then_at) ≡ deed_of (c.anatomy.machine op)
  same_deed = sym (ap deed_of is)

  spare_now : (hand_at c.anatomy next.doing).spare ≡ with_row (slice_get free told) m.hand.spare
  spare_now = ap (λ x. (hand_in x).spare) (keeps.put op (Takes then_at) after_it) ∙ ap (λ x. x.hand.spare) taken

  own_was : own c.anatomy op ≡ rows_in m.hand.spare
  own_was = own_fresh c.anatomy op (ap deed_of is) ∙ ap (λ x. rows_in (hand_in x).spare) is

  own_now : own c.anatomy next_op ≡ rows_in (hand_at c.anatomy next.doing).spare
  own_now = own_fresh c.anatomy next_op (ap deed_of (keeps.put op (Takes then_at) after_it))

  -- what it has it keeps
  own_more : (row : ℕ) → Contains (own c.anatomy op) row → Contains (own c.anatomy next_op) row
  own_more row has = subst (λ rows. Contains rows row) (sym (own_now ∙ ap rows_in spare_now))
      (by_row (slice_get free told) refl (subst (λ rows. Contains rows row) own_was has))
    where
      by_row : (o : Option ℕ) → slice_get free told ≡ o → Contains (rows_in m.hand.spare) row → Contains (rows_in (with_row o m.hand.spare)) row
      by_row None q k = k
      by_row (Some r) q k = filled_keeps (rows_needed l.kind) r row m.hand.spare (from_pool free told r holds.pool.rising q) missing k

  -- the counter is far from its top
  pub few : told < 2 ^ 64 - 1
  few = small told (length free) (count_by (λ u. is_past free (hand_at c.anatomy u.doing).ticket) (a ++ busy name number op call begun ∷ b))
      (length (a ++ busy name number op call begun ∷ b)) (last_row_of l) l.workers
      holds.rows.within (count_few (λ u. is_past free (hand_at c.anatomy u.doing).ticket) (a ++ busy name number op call begun ∷ b))
      (pool_few l free holds.pool)
      (workers_few l.workers (a ++ busy name number op call begun ∷ b) holds.different
      (names_within c l p free here (a ++ busy name number op call begun ∷ b) holds.actors holds.acts)) (last_row_small l holds.accepted)
      holds.accepted.most_worker
    where
      small : (t f past us last w : ℕ) → t ≤ f + past → past ≤ us → f ≤ last → us ≤ w → last ≤ 1048580 → w ≤ 64 → t < 2 ^ 64 - 1
      small t f past us last w i j k m n o = omega (arith, i, j, k, m, n, o)

  rows_now : Rows c.anatomy l free (told + 1) here (a ++ next ∷ b)
  rows_now = subst (λ n. Rows c.anatomy l free n here (a ++ next ∷ b)) (plus told)
      (rows_drawn c.anatomy l free told here a (busy name number op call begun) next b holds.pool
      (subst (λ h. lacks (rows_needed l.kind) h.spare ≡ true) (sym hand_was) missing) (subst (λ h. is_past free h.ticket ≡ false) (sym hand_was) judged.1)
      (own_was ∙ ap (λ h. rows_in h.spare) (sym hand_was)) own_now (spare_now ∙ ap (λ h. with_row (slice_get free told) h.spare) (sym hand_was))
      (ap (λ x. (hand_in x).ticket) (keeps.put op (Takes then_at) after_it) ∙ ap (λ x. x.hand.ticket) taken) holds.rows)
    where
      plus : (n : ℕ) → suc n ≡ n + 1
      plus n = omega arith

      hand_was : hand_at c.anatomy (busy name number op call begun).doing ≡ m.hand
      hand_was = ap hand_in is

  pub draw_step : Holds c l p free (record M {
    state = after M.state Draw;
    workers =
        a ++ busy name number (op_taken c.anatomy p free op told) call (Some (first_at K begun)) ∷ b;
  })
  draw_step =
      let sound : IsSound p (λ x. false) (world_of (after M.state Draw) front mine.actor mine.behind) =
      sound-turn p (λ x. false) (world_of M.state front mine.actor mine.behind) (world_of (after M.state Draw) front mine.actor mine.behind)
      (draws M.state (front ++ mine.actor ∷ mine.behind) few)
      (sound_now c l p free keeps M a name number op call begun b holds K (same_le K)) in
      let queue : m.hand.queue ≡ then_at.hand.queue = sym (ap (λ x. x.hand.queue) taken) in
      let deeds = deed_same c l p free keeps op (Takes then_at) after_it same_deed in
      subst (λ x. Holds c l p free (record M {
        state = after M.state Draw;
        workers =
            a ++ busy name number (gone_on c.anatomy p op x) call (Some (first_at K begun)) ∷ b;
      })) (ap (λ x. machine_takes p free x told) (sym is))
      (went c l p free keeps M a name number op call begun b holds K (same_le K) (after M.state Draw) g (Takes then_at) (record {
        after_it = after_it;
        words = holds.words;
        slots = holds.slots;
        same = refl;
        sound = sound_rests p (λ x. false) (after M.state Draw) front mine.actor mine.behind then_at.hand (ap writing_at at_rest)
            (ap owed at_rest ∙ queue) sound;
        at = refl;
        name_same = ap (λ x. x.hand.name) taken ∙ ap (λ x. (hand_of x).name) (sym at_rest) ∙ mine.mine.name;
        number_same = ap (λ x. x.hand.number) taken ∙ ap (λ x. (hand_of x).number) (sym at_rest) ∙ mine.mine.number;
        reached = tt;
        reading = tt;
        mine = all_weaker (IsMine l free here (own c.anatomy op)) (IsMine l free here (own c.anatomy next_op))
            (λ w k. record { shut = k.shut; own = own_more k.shut.row k.own }) mine.actor.private mine.mine.mine;
        tags = tags_none p M.state (after M.state Draw) mine.actor.at (Idles then_at.hand) refl (subst (λ x. (y bare : ℕ) → Tags y bare x → ⊥) (sym at_rest)
            (λ y bare i. i));
        alone = λ one. record {
          machine = tt;
          queued = ap (λ x. x.hand.tally.queued) taken ∙ ap (λ x. (hand_of x).tally.queued) (sym at_rest) ∙ (mine.mine.alone one).queued;
          seen = (mine.mine.alone one).seen;
        };
        facts = (right_taken free m told stands.0, ap (λ x. x.need) taken ∙ stands.1);
        update = subst (HasUpdate here name number call (first_at K begun)) (sym deeds)
            (update_now c l p free keeps M a name number op call begun b holds K (same_le K));
        rows = rows_now;
        history = history_steady c.anatomy l free here a (busy name number op call begun) next b refl (same_le number)
            (λ word e waits makes. (subst (λ d. MakesAt d word) (sym deeds) makes.0, makes.1)) holds.history;
        knows = keeps.draws _ (me_now c l p free keeps M a name number op call begun b holds K (same_le K) mine.actor) op m told holds.kept
            is at (knows_now c l p free keeps M a name number op call begun b holds K (same_le K));
      }))
