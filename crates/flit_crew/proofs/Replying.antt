-- What a reply says.
use Rattle.std.proofs.Common.{◌≡◌, ◌⊎◌, inl, inr, ⊎_elim, ℕ, ◌+◌, ◌*◌, ◌<◌, ◌≤◌, nat_le, min, true, false, List, [], ◌∷◌, ◌++◌, length, drop, count_by, Option, Some, None, refl, sym, ◌∙◌, ap, subst, arith}
use Rattle.std.proofs.lemmas.Bool.Decides.{nat_tests}
use Rattle.std.specs.List.{AllByRecursion}
use Rattle.std.specs.FinMap as fin
use Rattle.flit_words.specs.declared.layouts.Layout.{Layout}
use Rattle.flit_model.specs.Histories.{is_update_by}
use Rattle.flit_model.specs.declared.calls.Call.{Call}
use Rattle.flit_model.specs.declared.calls.Entry.{Entry}
use Rattle.flit_model.specs.declared.calls.Reply.{Reply}
use Rattle.flit_model.specs.declared.calls.Reply.TheVariants.{Yes, No, Found, Full, Worn}
use Rattle.flit_model.specs.declared.events.Event.{Event}
use Rattle.flit_model.proofs.Counting.{count_by-append}
use Rattle.flit_model.proofs.Elements.{all_weaker, all_front, all_behind}
use Rattle.flit_place.specs.Tags.{Place}
use Rattle.flit_place.proofs.Splits.{all_middle}
use Rattle.flit_pv.specs.Fences.{HeldComplete}
use Rattle.flit_pv.specs.Queues.{first_persist}
use Rattle.flit_rows.specs.Taking.{lacks, IsDecided}
use Rattle.flit_rows.specs.declared.take_row.Took.TheVariants.{None as NoRow}
use Rattle.flit_rows.specs.Shares.{rows_in}
use Rattle.flit_runs.specs.Workings.{Completes}
use Rattle.flit_runs.specs.Worlds.{Actor, world_of}
use Rattle.flit_runs.specs.Rules.{KeepsRule, IsDurable, MustBeDurable}
use Rattle.flit_runs.proofs.RuleLaws.{rule}
use Rattle.flit_structure.specs.declared.workers.Doing.{Doing}
use Rattle.flit_structure.specs.declared.workers.Doing.TheVariants.{Idle, Busy, Evicting}
use Rattle.flit_structure.specs.declared.workers.Worker.{Worker}
use Rattle.flit_structure.specs.Moments.{Moment, with_workers, busy, made, HaveDifferentNames}
use Rattle.flit_structure.specs.Meanings.{first_at, reply_at}
use Rattle.flit_structure.specs.Lawful.{IsReplied, IsBounded, is_insert, rows_needed}
use Rattle.flit_crew.specs.Machines.{Works, machine_asks, deed_of, hand_in, working_in}
use Rattle.flit_crew.specs.Heaps.{Heap}
use Rattle.flit_crew.specs.Rows.{own_many}
use Rattle.flit_crew.specs.Anatomies.{own, own_in, hand_at}
use Rattle.flit_crew.specs.Accounts.{IsAny, HasNumber, History, HasUpdate, IsTight, inserts_in}
use Rattle.flit_crew.specs.Crews.{Crew, AllAct, Acts, Holds, Facts, IsDoing, IsLimited, MayReply, deed_if, who_of, stranger_of}
use Rattle.flit_crew.specs.Obligations.{Keeps}
use Rattle.flit_crew.proofs.Acting.{Split}
use Rattle.flit_crew.proofs.Moving.{is_sound}
use Rattle.flit_crew.proofs.Updating.{any_weaker}
use Rattle.flit_crew.proofs.Standing.{own_fresh}
use Rattle.flit_crew.proofs.Counting.{workers_few, names_within}
use Rattle.flit_crew.proofs.Winning.{needed_durable}
use Rattle.flit_crew.proofs.Beginning.{there, q, known, is_complete_now}
use Rattle.flit_crew.proofs.Limiting.{all_placed, rows_few, rows_lack, need_small, all_by, somebodys, IsAtCall, own_few, term, Few, one_fewer, inserts_by, none_waits}

asks_none : (o : Option Event) (x y : Reply) → reply_at o x ≡ Some y → o ≡ None
asks_none None x y e = refl
asks_none (Some e) x y q = absurd (cc)

reply_is : (o : Option Event) (x y : Reply) → reply_at o x ≡ Some y → x ≡ y
reply_is None x y e = same x y e
  where
    same : (a b : Reply) → Some a ≡ Some b → a ≡ b
    same a b e = cc
reply_is (Some e) x y q = absurd (cc)

past_least : (n ticket : ℕ) → nat_le n ticket ≡ true → n ≤ ticket
past_least n ticket e = grind (arith, nat_tests)

module _ {G Op : Type 0} (c : Crew G Op) (l : Layout) (p : Place) (free : List ℕ) (keeps : Keeps c l p free) (M : Moment Op) (a : List (Worker Op))
    (name number : ℕ) (op : Op) (call : Call) (begun : Option ℕ) (b : List (Worker Op))
    (holds : Holds c l p free (with_workers M (a ++ busy name number op call begun ∷ b))) (none : machine_asks p (c.anatomy.machine op) ≡ None) where
  abbrev here : Heap G
  here = there c l p free keeps M a b name number op call begun holds none

  abbrev mine : Split c l p free here a (busy name number op call begun) b holds.actors
  mine = q c l p free keeps M a b name number op call begun holds none

  -- those before it in the world
  abbrev front : List Actor
  front = stranger_of holds.stranger ∷ mine.before

  abbrev over : (m : HeldComplete) × (c.anatomy.machine op ≡ Works (Completes m)) × (m.fence.hand.queue ≡ [])
  over = is_complete_now c l p free keeps M a b name number op call begun holds none

  abbrev m : HeldComplete
  m = over.0

  may : MayReply c l p free here (who_of name number call begun mine.actor) m.fence.hand op
  may = subst (Facts c l p free here (who_of name number call begun mine.actor) op) over.1
      (known c l p free keeps M a b name number op call begun holds none).facts

  -- all that it depends on is persistent
  durable : IsDurable M.state mine.actor.needs
  durable =
      let rules : KeepsRule p M.state mine.actor = all_middle (KeepsRule p M.state) front mine.actor mine.behind
      (rule p (λ x. false) (world_of M.state front mine.actor mine.behind) (is_sound c l p free keeps M a (busy name number op call begun) b holds)) in
      rules (subst (MustBeDurable p) (sym (mine.mine.at ∙ ap working_in over.1)) (ap first_persist over.2))

  update : HasUpdate here name number call (first_at 0 begun) (deed_if c l p free (is_update_by call (c.anatomy.reply op)))
  update = subst (HasUpdate here name number call (first_at 0 begun)) may.made
      (known c l p free keeps M a b name number op call begun holds none).update

  -- ---- the bound on Full

  abbrev us : List (Worker Op)
  us = a ++ busy name number op call begun ∷ b

  at_calls : (xs : List (Worker Op)) (gs : List Actor) → AllAct c l p free here xs gs → AllByRecursion (λ u. IsAtCall c.anatomy u.doing) xs
  at_calls [] [] k = tt
  at_calls [] (g ∷ gs) k = absurd k
  at_calls (u ∷ xs) [] k = absurd k
  at_calls (u ∷ xs) (g ∷ gs) k = (by_doing u g k.0, at_calls xs gs k.1)
    where
      by_doing : (u : Worker Op) (g : Actor) → Acts c l p free here u g → IsAtCall c.anatomy u.doing
      by_doing u g k = at_doing u.doing k.doing
        where
          at_doing : (d : Doing Op) → IsDoing c l p free here g u.name u.number d → IsAtCall c.anatomy d
          at_doing (Idle hand) x = tt
          at_doing (Busy o d begun) x = x.same_call
          at_doing (Evicting e) x = tt

  abbrev need : ℕ
  need = rows_needed l.kind

  abbrev waiting : List Entry
  waiting = fin.values M.progress.waiting

  each_few : AllByRecursion (Few c.anatomy l free here need (need_small l.kind)) us
  each_few = all_placed (Few c.anatomy l free here need (need_small l.kind)) us (λ x u y e.
      term c.anatomy l free here need (need_small l.kind) x u y (subst HaveDifferentNames e holds.different)
      (subst (History c.anatomy l free here) e holds.history)
      (all_middle (λ v. IsAtCall c.anatomy v.doing) x u y (subst (AllByRecursion (λ v. IsAtCall c.anatomy v.doing)) e (at_calls us holds.actors holds.acts)))
      (own_few c.anatomy u.doing need (rows_few need (hand_at c.anatomy u.doing).spare
      (all_middle (IsTight c.anatomy l) x u y (subst (AllByRecursion (IsTight c.anatomy l)) e holds.rows.tight)).1)))

  -- it lacks a row, and its call has made no insert
  lacking : lacks need m.fence.hand.spare ≡ true → length (own c.anatomy op) < need
  lacking k = subst (λ xs. length xs < need) (sym (own_fresh c.anatomy op (ap deed_of over.1) ∙ ap (λ x. rows_in (hand_in x).spare) over.1))
      (rows_lack need m.fence.hand.spare (ap (λ x. rows_in (drop need (hand_in x).spare)) (sym over.1)
      ∙ (all_middle (IsTight c.anatomy l) a (busy name number op call begun) b holds.rows.tight).1) k)

  full_says : (ticket : ℕ) → IsDecided free need m.fence.hand (NoRow ticket) → (length free ≤ ticket)
      × (length free < need * (count_by (λ e. is_insert e.call) M.progress.settled + l.workers))
  full_says ticket k =
      let past : length free ≤ m.fence.hand.ticket = past_least (length free) m.fence.hand.ticket k.1 in
      let few : length us ≤ l.workers = workers_few l.workers us holds.different (names_within c l p free here us holds.actors holds.acts) in
      let named : AllByRecursion (λ e. IsAny (λ u. u.name ≡ e.worker) us) waiting =
      all_weaker (λ e. IsAny (HasNumber c.anatomy e) us) (λ e. IsAny (λ u. u.name ≡ e.worker) us)
      (λ e i. any_weaker (HasNumber c.anatomy e) (λ u. u.name ≡ e.worker) (λ u x. x.0) us i) waiting
      (all_behind (λ e. IsAny (HasNumber c.anatomy e) us) M.progress.settled waiting holds.history.numbered) in (
        subst (λ n. length free ≤ n) (sym k.2) past,
        total need (need_small l.kind) (length free) M.state.counter (own_many (λ u. own_in c.anatomy u.doing) us) (length holds.given)
            (inserts_in (made M.progress)) (count_by (λ e. is_insert e.call) M.progress.settled) (inserts_in waiting) (all_by c.anatomy waiting us) (length us)
            l.workers
            holds.rows.dealt.many holds.rows.linked
            (all_middle (λ u. length free ≤ (hand_at c.anatomy u.doing).ticket → length free ≤ M.state.counter) a (busy name number op call begun) b
            holds.rows.past (subst (λ x. length free ≤ (hand_in x).ticket) (sym over.1) past))
            (count_by-append (λ e. is_insert e.call) M.progress.settled waiting) (somebodys c.anatomy waiting us named)
            (one_fewer c.anatomy l free here need (need_small l.kind) a (busy name number op call begun) b
            (all_front (Few c.anatomy l free here need (need_small l.kind)) a (busy name number op call begun ∷ b) each_few)
            (less (lacking k.0)) (all_behind (Few c.anatomy l free here need (need_small l.kind)) a (busy name number op call begun ∷ b) each_few).1)
            few,
      )
    where
      -- its own rows are fewer, and none of its inserts waits
      less : length (own c.anatomy op) < need → length (own c.anatomy op) + need * inserts_by c.anatomy waiting
          (busy name number op call begun) < need
      less lt = none_waits c.anatomy l free here need (need_small l.kind) a name number op call begun b holds.different
          holds.history (ap deed_of over.1) lt

      total : (n : ℕ) → (n ≡ 1) ⊎ (n ≡ 2) → (room counter own given inserts settled waits by us workers : ℕ) → own + given ≡ min counter room →
          given ≡ n * inserts → room ≤ counter → inserts ≡ settled + waits → waits ≤ by → own + n * by < n * us → us ≤ workers → room < n * (settled + workers)
      total n (inl e) room counter own given inserts settled waits by us workers h g le i w lt few = subst (λ x. room < x * (settled + workers)) (sym e)
          (omega (arith, h, subst (λ x. given ≡ x * inserts) e g, le, i, w, subst (λ x. own + x * by < x * us) e lt, few))
      total n (inr e) room counter own given inserts settled waits by us workers h g le i w lt few = subst (λ x. room < x * (settled + workers)) (sym e)
          (omega (arith, h, subst (λ x. given ≡ x * inserts) e g, le, i, w, subst (λ x. own + x * by < x * us) e lt, few))

  bounded : (r : Reply) → IsLimited c l p free here (who_of name number call begun mine.actor) m.fence.hand r →
      IsBounded l (length free) M.state M.progress.settled r
  bounded Yes x = tt
  bounded No x = tt
  bounded (Found value) x = tt
  bounded (Full ticket) x = full_says ticket x
  bounded (Worn word version) x = (x.0, ⊎_elim (λ i. i) (λ n. needed_durable M.state mine.actor.needs word version durable n) x.1)

  says : IsReplied l (length free) M.opening.content M.state M.progress name number call (first_at 0 begun) (c.anatomy.reply op)
  says = record {
    fits = may.fits;
    update = λ e. subst (λ t. HasUpdate here name number call (first_at 0 begun) (deed_if c l p free t)) e update;
    none = λ e. subst (λ t. HasUpdate here name number call (first_at 0 begun) (deed_if c l p free t)) e update;
    read = λ e. keeps.answers here (who_of name number call begun mine.actor) op m holds.kept
        (known c l p free keeps M a b name number op call begun holds none).first
        (known c l p free keeps M a b name number op call begun holds none).same_call over.1
        (λ w v n. needed_durable M.state mine.actor.needs w v durable n) e (known c l p free keeps M a b name number op call begun holds none).knows;
    bounded = bounded (c.anatomy.reply op) may.limited;
  }

-- what a reply says, where it stands
pub replies : {G Op : Type 0} (c : Crew G Op) (l : Layout) (p : Place) (free : List ℕ) (keeps : Keeps c l p free) (M : Moment Op) (a : List (Worker Op))
    (name number : ℕ) (op : Op) (call : Call) (begun : Option ℕ) (reply : Reply) (b : List (Worker Op)) →
    reply_at (machine_asks p (c.anatomy.machine op)) (c.anatomy.reply op) ≡ Some reply →
    Holds c l p free (with_workers M (a ++ busy name number op call begun ∷ b)) →
    IsReplied l (length free) M.opening.content M.state M.progress name number call (first_at 0 begun) reply
replies c l p free keeps M a name number op call begun reply b is holds =
    subst (IsReplied l (length free) M.opening.content M.state M.progress name number call (first_at 0 begun))
    (reply_is (machine_asks p (c.anatomy.machine op)) (c.anatomy.reply op) reply is)
    (says c l p free keeps M a name number op call begun b holds (asks_none (machine_asks p (c.anatomy.machine op)) (c.anatomy.reply op) reply is))
