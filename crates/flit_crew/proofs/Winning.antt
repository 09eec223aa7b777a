-- An Exchange of a call's PExchange that is won.
use Rattle.std.proofs.Common.{◌≡◌, ◌≢◌, ◌⊎◌, inl, inr, ⊎_elim, ℕ, suc, ◌+◌, ◌<◌, ◌≤◌, ◌&&◌, Bool, true, false, cond, List, [], ◌∷◌, ◌++◌, length, map, slice_set, Option, Some, None, refl, sym, ◌∙◌, ap, subst, arith, if◌then◌else◌}
use Rattle.std.proofs.lemmas.Bool.{eq-eqb}
use Rattle.std.proofs.lemmas.List.{length-set, length-map, map-set}
use Rattle.std.proofs.lemmas.List.Elements.{Contains-append_right, Contains-append_cases}
use Rattle.std.specs.Prelude.{Contains}
use Rattle.std.specs.List.{AllByRecursion}
use Rattle.std.specs.FinMap as fin
use Rattle.flit_words.specs.declared.layouts.Layout.{Layout}
use Rattle.flit_words.specs.Words.{bare_of, version_of}
use Rattle.flit_model.specs.States.{State, word_at, shadow_at, IsPersistent}
use Rattle.flit_model.specs.Effects.{after, answer, with_word}
use Rattle.flit_model.specs.Settling.{progress_after, takes_effect}
use Rattle.flit_model.specs.declared.events.Event.{Event}
use Rattle.flit_model.specs.declared.events.Event.TheVariants.{Exchange}
use Rattle.flit_model.specs.declared.calls.Call.{Call}
use Rattle.flit_model.specs.declared.calls.Entry.{Entry}
use Rattle.flit_model.specs.declared.calls.Reply.TheVariants.{Yes}
use Rattle.flit_model.specs.Histories.{is_update_by}
use Rattle.flit_model.proofs.Elements.{all_front, all_behind, all_weaker}
use Rattle.flit_place.proofs.CoverSteps.{index-set}
use Rattle.flit_rows.specs.Shares.{rows_in}
use Rattle.flit_place.specs.Tags.{Place, dressed}
use Rattle.flit_place.proofs.WordTags.{bare-untagged, bare-dressed, version-bare}
use Rattle.flit_place.proofs.Splits.{all_middle, all_with}
use Rattle.flit_pv.specs.Exchanges.{HeldExchange}
use Rattle.flit_pv.specs.declared.exchanges.Exchanging.TheVariants.{WritesBack}
use Rattle.flit_pv.specs.Exchanges.{exchange_asked, exchange_takes, exchange_at}
use Rattle.flit_runs.specs.Workings as run
use Rattle.flit_runs.specs.Workings.{Dependency, Working, Exchanges, gains, goes_for}
use Rattle.flit_runs.specs.Worlds.{Actor, world_of, IsAway, IsNotStoring, gone_on as actor_gone, event, publishes}
use Rattle.flit_runs.specs.Soundness.{IsSound, Needs, IsNext}
use Rattle.flit_runs.specs.Rules.{KeepsRule, KeepsWords, MustBeDurable, IsDurable, is_exchange}
use Rattle.flit_runs.proofs.RuleLaws.{rule, words_rule}
use Rattle.flit_runs.proofs.Turns.{sound-turn}
use Rattle.flit_structure.specs.declared.workers.Worker.{Worker}
use Rattle.flit_structure.specs.Moments.{Moment, with_workers, busy, made, update_of}
use Rattle.flit_structure.specs.Lawful.{StandsFrom, is_insert}
use Rattle.flit_structure.proofs.Names.{others_new}
use Rattle.flit_structure.proofs.Growing.{get_put}
use Rattle.flit_structure.specs.Meanings.{first_at}
use Rattle.flit_crew.specs.Machines.{Works, Fresh, Making, MakesAt, deed_of, has_linked, machine_takes, working_in, hand_in, hand_of, reads_for, has_ended, exchange_part, ToWin}
use Rattle.flit_crew.specs.Heaps.{Heap, heap_of, IsOpen, IsWordOf, IsAhead, AreResting, at_word, at_shadow, waits_at, won}
use Rattle.flit_crew.specs.Anatomies.{own, own_in, hand_at, rows_but, deed, deed_by, gone_on, op_taken}
use Rattle.flit_crew.specs.Accounts.{HasUpdate, IsUnmade, Rows, History, IsSteady, IsTight, AreTight, inserts_in}
use Rattle.flit_crew.specs.Crews.{Crew, Who, Acts, Holds, IsFurther, Facts, who_of, effect_if, effect_of, links_of, stranger_of}
use Rattle.flit_crew.specs.Obligations.{Keeps, WonSo, IsAfter}
use Rattle.flit_crew.proofs.Outside.{outside_away}
use Rattle.flit_crew.proofs.Acting.{Split, Moves, AllStay}
use Rattle.flit_crew.proofs.Tagging.{TagsGo}
use Rattle.flit_crew.proofs.Moving.{moved, old_left, old_right}
use Rattle.flit_crew.proofs.Updating.{Follows, follows_won, settled_longer}
use Rattle.flit_crew.proofs.Accounting.{rows_steady, rows_same, inserts_won, history_steady, history_words}
use Rattle.flit_crew.proofs.Recording.{history_won}
use Rattle.flit_crew.proofs.Dealing.{rows_linked}
use Rattle.flit_crew.proofs.Owning.{IsOwn, own_row, own_away, rests_now, lower}
use Rattle.flit_crew.proofs.Others.{IsDrawn, IsUntouched, all_drawn, all_untouched, new_others}
use Rattle.flit_crew.proofs.Standing.{fresh_to_win, deed_with}
use Rattle.flit_crew.proofs.WritingBack.{word_bare}
use Rattle.flit_crew.proofs.Going.{r, heap, me_now, sound_now, busy_now, knows_now, update_now, since, tags_now, alone_now}
use Rattle.flit_crew.proofs.Reading.{needs_more, at_it}

pub needed_durable : (s : State) (needs : List Dependency) (w v : ℕ) → IsDurable s needs → Needs needs w v → v ≤ version_of (shadow_at s w)
needed_durable s [] w v h n = absurd n
needed_durable s (d ∷ ds) w v h (inl e) = subst (λ x. v ≤ version_of (shadow_at s x)) e.0 (subst (λ x. x ≤ version_of (shadow_at s d.word)) e.1 h.0)
needed_durable s (d ∷ ds) w v h (inr n) = needed_durable s ds w v h.1 n

module _ {G Op : Type 0} (c : Crew G Op) (l : Layout) (p : Place) (free : List ℕ) (keeps : Keeps c l p free) (M : Moment Op) (a : List (Worker Op))
    (name number : ℕ) (op : Op) (call : Call) (begun : Option ℕ) (b : List (Worker Op))
    (holds : Holds c l p free (with_workers M (a ++ busy name number op call begun ∷ b))) (k : ℕ) (settled : k ≤ length M.progress.settled) (m : HeldExchange)
    (is : c.anatomy.machine op ≡ Works (Exchanges m)) where
  abbrev mine : Split c l p free (heap c l p free keeps M a name number op call begun b holds k settled) a (busy name number op call begun) b holds.actors
  mine = r c l p free keeps M a name number op call begun b holds k settled

  -- those before it in the world
  abbrev front : List Actor
  front = stranger_of holds.stranger ∷ mine.before

  abbrev here : Heap G
  here = heap c l p free keeps M a name number op call begun b holds k settled

  abbrev now : Option ℕ
  now = Some (first_at k begun)

  abbrev at_exchange : mine.actor.at ≡ Exchanges m
  at_exchange = at_it c l p free keeps M a name number op call begun b holds k settled (Exchanges m) is

  -- with its words published, as all of them are persistent where it exchanges
  abbrev pub open_actor : Actor
  open_actor = record mine.actor { private = [] }

  pub opened : is_exchange (exchange_asked p m) ≡ true → IsSound p (λ x. false) (world_of M.state front open_actor mine.behind)
  opened e =
      let sound = sound_now c l p free keeps M a name number op call begun b holds k settled in
      let words : KeepsWords p M.state mine.actor = all_middle (KeepsWords p M.state) front mine.actor mine.behind
      (words_rule p (λ x. false) (world_of M.state front mine.actor mine.behind) sound) in
      sound-turn p (λ x. false) (world_of M.state front mine.actor mine.behind) (world_of M.state front open_actor mine.behind)
      (publishes M.state front mine.actor mine.behind (subst IsNotStoring (sym at_exchange) tt) (words (subst (MustBeDurable p) (sym at_exchange) e)))
      sound

  durable : is_exchange (exchange_asked p m) ≡ true → IsDurable M.state mine.actor.needs
  durable e =
      let rules : KeepsRule p M.state mine.actor = all_middle (KeepsRule p M.state) front mine.actor mine.behind
      (rule p (λ x. false) (world_of M.state front mine.actor mine.behind)
      (sound_now c l p free keeps M a name number op call begun b holds k settled)) in
      rules (subst (MustBeDurable p) (sym at_exchange) e)

  -- it exchanges from what it has read, or from that without its tag bit, and what it finds is that
  pub record Wins (old : ℕ) : Type 0 where
    pub asks : exchange_asked p m ≡ Some (Exchange m.word old (dressed p.counted m.to))
    pub part : exchange_part m.at ≡ ToWin
    pub next : IsNext m
    pub persistent : IsPersistent M.state m.word (version_of m.from)
    pub bare : bare_of old ≡ bare_of m.from
    pub same_version : version_of old ≡ version_of m.from
    pub reached : IsOpen l free here m.word
    pub found : word_at M.state m.word ≡ old
    pub takes : exchange_takes p m.at m old ≡ exchange_at m WritesBack

  module _ (old : ℕ) (x : Wins old) where
    abbrev e : Event
    e = Exchange m.word old (dressed p.counted m.to)

    abbrev told : ℕ
    told = answer M.state e

    abbrev pub won_actor : Actor
    won_actor = actor_gone p M.state e [] open_actor

    abbrev me : Who
    me = who_of name number call now open_actor

    abbrev you : Who
    you = who_of name number call now won_actor

    abbrev update : Option Entry
    update = effect_of c.anatomy op me

    abbrev pub next_op : Op
    next_op = c.anatomy.with_machine op (Works (Exchanges (exchange_at m WritesBack)))

    changes_word : is_exchange (exchange_asked p m) ≡ true
    changes_word = ap is_exchange x.asks

    word_is : at_word here m.word ≡ bare_of m.from
    word_is = word_bare M.state.words m.word ∙ ap bare_of x.found ∙ x.bare

    shadow_is : at_shadow here m.word ≡ bare_of m.from
    shadow_is = ⊎_elim (λ same. sym same ∙ ap bare_of x.found ∙ x.bare)
        (λ ahead. absurd (behind (version_of m.from) (version_of (shadow_at M.state m.word)) (version_of (word_at M.state m.word)) x.persistent
        (ap version_of x.found ∙ x.same_version) ahead)) ((holds.sound.words m.word).close refl)
      where
        behind : (f s w : ℕ) → f ≤ s → w ≡ f → w ≡ s + 1 → ⊥
        behind f s w i e d = omega (arith, i, e, d)

    call_is : c.anatomy.call op ≡ call
    call_is = (busy_now c l p free keeps M a name number op call begun b holds k settled).same_call

    fresh : deed_of (c.anatomy.machine op) ≡ Fresh
    fresh = ap deed_of is ∙ fresh_to_win m.at m x.part

    -- until then its own rows are those of its hand
    own_is : own c.anatomy op ≡ rows_in m.hand.spare
    own_is = ap (λ y. rows_but c.anatomy (c.anatomy.effects op && (is_insert (c.anatomy.call op) && has_linked y)) (hand_in (c.anatomy.machine op)).spare) fresh
        ∙ by_test (c.anatomy.effects op) (is_insert (c.anatomy.call op)) ∙ ap (λ y. rows_in (hand_in y).spare) is
      where
        by_test : (t i : Bool) → rows_but c.anatomy (t && (i && false)) (hand_in (c.anatomy.machine op)).spare ≡ rows_in (hand_in (c.anatomy.machine op)).spare
        by_test true true = refl
        by_test true false = refl
        by_test false i = refl

    links_own : (row : ℕ) → Contains (links_of c.anatomy op) row → Contains (own c.anatomy op) row
    links_own row = by_test (c.anatomy.effects op && is_insert (c.anatomy.call op))
      where
        by_test : (t : Bool) → Contains (if t then rows_in (hand_in (c.anatomy.machine op)).spare else []) row → Contains (own c.anatomy op) row
        by_test true k = subst (λ rows. Contains rows row) (sym (own_is ∙ ap (λ y. rows_in (hand_in y).spare) (sym is))) k
        by_test false k = none k.1
          where
            none : {i : ℕ} → i < 0 → Contains (own c.anatomy op) row
            none {i} lt = absurd (clash i lt)
              where
                clash : (i : ℕ) → i < 0 → ⊥
                clash i lt = omega (arith, lt)

    own_row_is : (row : ℕ) → Contains (own c.anatomy op) row → IsOwn (λ v. own_in c.anatomy v.doing) free holds.given a b row
    own_row_is row k = own_row (λ v. own_in c.anatomy v.doing) free M.state.counter holds.given a (busy name number op call begun) b row
        (lower free holds.pool.rising) holds.rows.dealt k

    -- an own word isn't the word that is exchanged
    not_own : (row w : ℕ) → Contains free row → (Contains here.given row → ⊥) → IsWordOf l row w → w ≢ m.word
    not_own row w pool unlinked word same = unlinked (x.reached.given row pool (subst (λ y. IsWordOf l row y) same word))

    none_waits : waits_at here m.word ≡ None
    none_waits = by_case (waits_at here m.word) refl
      where
        ahead : (y : ℕ) → y ≡ y + 1 → ⊥
        ahead y e = omega (arith, e)

        by_case : (o : Option Entry) → waits_at here m.word ≡ o → waits_at here m.word ≡ None
        by_case None q = q
        by_case (Some e) q = absurd (ahead (version_of (bare_of m.from)) (ap version_of (sym word_is) ∙ (holds.history.waits m.word e q).1
            ∙ ap (λ y. version_of y + 1) shadow_is))

    resting : AreResting l free here (links_of c.anatomy op)
    resting = record {
      pool = λ row k. (own_row_is row (links_own row k)).pool;
      unlinked = λ row k. (own_row_is row (links_own row k)).unlinked;
      words = λ row w k of.
          let o = own_row_is row (links_own row k) in
          let away : AllByRecursion (λ g. IsAway g.private w × IsAway (goes_for g.at) w) (front ++ mine.behind) = (
            (outside_away l free here holds.pool holds.opening holds.stranger holds.outside row w o.pool of, tt),
            own_away c l p free here holds.pool a b mine.before mine.behind mine.left mine.right row w o of,
          ) in
          (rests_now p M.state (front ++ open_actor ∷ mine.behind) here w refl (opened changes_word)
          (all_with (λ g. IsAway g.private w) front open_actor mine.behind tt
          (all_weaker (λ g. IsAway g.private w × IsAway (goes_for g.at) w) (λ g. IsAway g.private w) (λ g q. q.0) (front ++ mine.behind) away))
          (all_with (λ g. IsAway (goes_for g.at) w) front open_actor mine.behind
          (all_weaker (IsOpen l free here) (λ y. y ≢ w) (λ y q e. o.unlinked (q.given row o.pool (subst (λ z. IsWordOf l row z) (sym e) of)))
          (goes_for mine.actor.at) mine.mine.reached)
          (all_weaker (λ g. IsAway g.private w × IsAway (goes_for g.at) w) (λ g. IsAway (goes_for g.at) w) (λ g q. q.1) (front ++ mine.behind) away))).1;
    }

    taken : run.takes p mine.actor.at told ≡ Exchanges (exchange_at m WritesBack)
    taken = ap (λ y. run.takes p y told) at_exchange ∙ ap (λ y. Exchanges (exchange_takes p m.at m y)) x.found ∙ ap Exchanges x.takes

    gained : Needs you.needs m.word (version_of m.to)
    gained = subst (λ ds. Needs (ds ++ mine.actor.needs) m.word (version_of m.to))
        (sym (ap (λ y. gains p y told) at_exchange ∙ ap (λ y. let z = exchange_takes p m.at m y in run.exchange_gains z.at z) x.found
        ∙ ap (λ z. run.exchange_gains z.at z) x.takes)) (inl (refl, refl))

    further : IsFurther me you
    further = record {
      name = refl;
      number = refl;
      call = refl;
      first = refl;
      needs = λ w v h. needs_more (gains p mine.actor.at told) mine.actor.needs w v h;
      seen = λ w raw h. h;
      private = λ w h. h;
    }

    -- what it knows while nothing is private
    knows_open : c.knows here me op
    knows_open = keeps.more here (me_now c l p free keeps M a name number op call begun b holds k settled mine.actor) me op holds.kept
        (record { name = refl; number = refl; call = refl; first = refl; needs = λ w v h. h; seen = λ w raw h. h; private = λ w h. tt })
        (knows_now c l p free keeps M a name number op call begun b holds k settled)

    after_it : IsAfter c l p free op (Works (Exchanges (exchange_at m WritesBack)))
    after_it = (old, ap (λ y. Works (Exchanges y)) (sym x.takes) ∙ ap (λ y. machine_takes p free y old) (sym is))

    pub wins : (ghost : G) × WonSo c l p free here me you op m (won here m.word m.to update (links_of c.anatomy op) ghost)
    wins = keeps.wins here me you op m holds.kept (since c l p free keeps M a name number op call begun b holds k settled) further call_is is x.part
        (λ w v h. needed_durable M.state mine.actor.needs w v (durable changes_word) h) refl x.reached none_waits word_is shadow_is x.next gained resting
        knows_open

    abbrev pub after_heap : Heap G
    after_heap = won here m.word m.to update (links_of c.anatomy op) wins.0

    abbrev pub N : Moment Op
    N = record M { state = with_word M.state m.word (dressed p.counted m.to); progress = takes_effect M.progress m.word update }

    heap_is : after_heap ≡ heap_of N (links_of c.anatomy op ++ holds.given) wins.0
    heap_is = ap (λ ws. record here {
      words = ws;
      progress = takes_effect M.progress m.word update;
      given = links_of c.anatomy op ++ holds.given;
      ghost =
          wins.0;
    })
        (sym (map-set bare_of M.state.words m.word (dressed p.counted m.to) ∙ ap (λ y. slice_set (map bare_of M.state.words) m.word y)
        (bare-dressed p.counted m.to ∙ bare-untagged m.to x.next.bare)))

    state_is : after M.state e ≡ N.state
    state_is = ap (λ t. if t then with_word M.state m.word (dressed p.counted m.to) else M.state) (eq-eqb (word_at M.state m.word) old x.found)

    progress_is : (o : Option Entry) → o ≡ update → progress_after M.progress M.state e o ≡ N.progress
    progress_is o same = ap (λ y. progress_after M.progress M.state e y) same
        ∙ ap (λ t. if t then takes_effect M.progress m.word update else M.progress) (eq-eqb (word_at M.state m.word) old x.found)

    asked_now : run.asks p mine.actor.at ≡ Some e
    asked_now = ap (run.asks p) at_exchange ∙ x.asks

    sound : IsSound p (λ y. false) (world_of (after M.state e) front won_actor mine.behind)
    sound = sound-turn p (λ y. false) (world_of M.state front open_actor mine.behind) (world_of (after M.state e) front won_actor mine.behind)
        (event M.state front open_actor mine.behind e [] (ap (run.asks p) at_exchange ∙ x.asks) tt) (opened changes_word)

    given_more : (row : ℕ) → Contains here.given row → Contains (links_of c.anatomy op ++ holds.given) row
    given_more row h = Contains-append_right (links_of c.anatomy op) holds.given row h

    below_words : m.word < length here.words
    below_words = subst (λ n. m.word < n) (sym (length-map M.state.words bare_of ∙ holds.words)) x.reached.within

    other_word : (w : ℕ) → w ≢ m.word → at_word after_heap w ≡ at_word here w
    other_word w ne = ⊎_elim (λ q. absurd (ne q.0)) (λ q. q.1) (index-set here.words m.word m.to w below_words)

    new_word : at_word after_heap m.word ≡ m.to
    new_word = ⊎_elim (λ q. q.1) (λ q. absurd (q.0 refl)) (index-set here.words m.word m.to m.word below_words)

    own_update : (e : Entry) → update ≡ Some e → e.worker ≡ name
    own_update e q = by_test (c.anatomy.effects op) q
      where
        same_entry : (y z : Entry) → Some y ≡ Some z → y ≡ z
        same_entry y z i = cc

        by_test : (t : Bool) → (if t then Some (update_of name number call) else None) ≡ Some e → e.worker ≡ name
        by_test true i = ap (λ y. y.worker) (sym (same_entry (update_of name number call) e i))
        by_test false i = absurd (none_some e i)
          where
            none_some : (y : Entry) → None ≡ Some y → ⊥
            none_some y q = cc

    follows : Follows (Some name) here after_heap
    follows = follows_won name here after_heap m.word update refl none_waits own_update other_word

    moves : Moves c l p free (Some name) here after_heap
    moves = record {
      was = holds.kept;
      is = wins.1.kept;
      opening = refl;
      later = wins.1.later;
      follows = follows;
      given = given_more;
      risen =
          λ w. same_le (version_of (at_shadow here w));
    }
      where
        same_le : (n : ℕ) → n ≤ n
        same_le n = omega arith

    -- ---- the others

    given_parts : (row : ℕ) → Contains after_heap.given row → Contains here.given row ⊎ Contains (links_of c.anatomy op) row
    given_parts row has = ⊎_elim (λ q. inr q) (λ q. inl q) (Contains-append_cases (links_of c.anatomy op) holds.given row has)

    untouched : (us : List (Worker Op)) → AllByRecursion (IsDrawn (λ v. own_in c.anatomy v.doing) free holds.given) us →
        ((row : ℕ) → Contains (links_of c.anatomy op) row → AllByRecursion (λ v. Contains (own_in c.anatomy v.doing) row → ⊥) us) →
        AllByRecursion (IsUntouched c l p free (Some name) here after_heap m.word (links_of c.anatomy op) other_word given_parts) us
    untouched [] drawn apart = tt
    untouched (v ∷ us) drawn apart = (
      λ row has. (λ linked. (apart row linked).0 has, λ w of. not_own row w (drawn.0 row has).0 (drawn.0 row has).1 of),
      untouched us drawn.1 (λ row linked. (apart row linked).1),
    )

    drawn_now : AllByRecursion (IsDrawn (λ v. own_in c.anatomy v.doing) free holds.given) (a ++ busy name number op call begun ∷ b)
    drawn_now = all_drawn (λ v. own_in c.anatomy v.doing) free M.state.counter holds.given (a ++ busy name number op call begun ∷ b)
        (lower free holds.pool.rising) holds.rows.dealt

    left : AllStay c l p free (Some name) here after_heap a mine.before
    left = all_untouched c l p free (Some name) here after_heap m.word (links_of c.anatomy op) other_word given_parts a mine.before
        (new_others name a (others_new a b (busy name number op call begun) holds.different).0)
        (untouched a (all_front (IsDrawn (λ v. own_in c.anatomy v.doing) free holds.given) a (busy name number op call begun ∷ b) drawn_now)
        (λ row k. (own_row_is row (links_own row k)).left))
        (old_left c l p free keeps M a (busy name number op call begun) b holds) mine.left

    right : AllStay c l p free (Some name) here after_heap b mine.behind
    right = all_untouched c l p free (Some name) here after_heap m.word (links_of c.anatomy op) other_word given_parts b mine.behind
        (new_others name b (others_new a b (busy name number op call begun) holds.different).1)
        (untouched b (all_behind (IsDrawn (λ v. own_in c.anatomy v.doing) free holds.given) a (busy name number op call begun ∷ b) drawn_now).1
        (λ row k. (own_row_is row (links_own row k)).right))
        (old_right c l p free keeps M a (busy name number op call begun) b holds) mine.right

    -- ---- its own accounts

    abbrev next_worker : Worker Op
    next_worker = busy name number next_op call now

    deed_now : deed c.anatomy next_op ≡ deed_by c.anatomy (c.anatomy.effects op) (c.anatomy.past op) (Making m.word m.to)
    deed_now = deed_with c l p free keeps op (Works (Exchanges (exchange_at m WritesBack))) after_it

    deed_was : deed c.anatomy op ≡ deed_by c.anatomy (c.anatomy.effects op) (c.anatomy.past op) Fresh
    deed_was = ap (deed_by c.anatomy (c.anatomy.effects op) (c.anatomy.past op)) fresh

    own_now : own c.anatomy next_op ≡ rows_but c.anatomy (c.anatomy.effects op && (is_insert (c.anatomy.call op) && true)) m.hand.spare
    own_now =
        ap (λ y. rows_but c.anatomy (y && (is_insert (c.anatomy.call next_op) && has_linked (deed_of (c.anatomy.machine next_op))))
        (hand_in (c.anatomy.machine next_op)).spare) (keeps.put_effects op (Works (Exchanges (exchange_at m WritesBack))) after_it)
        ∙ ap (λ y. rows_but c.anatomy (c.anatomy.effects op && (is_insert y && has_linked (deed_of (c.anatomy.machine next_op))))
        (hand_in (c.anatomy.machine next_op)).spare) (keeps.put_call op (Works (Exchanges (exchange_at m WritesBack))) after_it)
        ∙ ap (λ y. rows_but c.anatomy (c.anatomy.effects op && (is_insert (c.anatomy.call op) && has_linked (deed_of y))) (hand_in y).spare)
        (keeps.put op (Works (Exchanges (exchange_at m WritesBack))) after_it)

    hand_now : hand_at c.anatomy next_worker.doing ≡ m.hand
    hand_now = ap hand_in (keeps.put op (Works (Exchanges (exchange_at m WritesBack))) after_it)

    hand_was : hand_at c.anatomy (busy name number op call begun).doing ≡ m.hand
    hand_was = ap hand_in is

    update_was : HasUpdate here name number call (first_at k begun) (deed_by c.anatomy (c.anatomy.effects op) (c.anatomy.past op) Fresh)
    update_was = subst (HasUpdate here name number call (first_at k begun)) deed_was
        (update_now c l p free keeps M a name number op call begun b holds k settled)

    -- its exchange makes no update
    no_update : (t : Bool) → c.anatomy.effects op ≡ t → t ≡ false → effect_if c.anatomy t me ≡ None
    no_update true q e = absurd (cc)
    no_update false q e = refl

    abbrev Accounts : Type 0
    Accounts = HasUpdate after_heap name number call (first_at k begun) (deed c.anatomy next_op)
        × Rows c.anatomy l free M.state.counter after_heap (a ++ next_worker ∷ b) × History c.anatomy l free after_heap (a ++ next_worker ∷ b)

    opened_still : (w : ℕ) → IsOpen l free here w → IsOpen l free after_heap w
    opened_still w o = record { within = o.within; given = λ row pool word. given_more row (o.given row pool word); ours = o.ours }

    ahead_still : (w : ℕ) (e : Entry) → waits_at here w ≡ Some e → IsAhead after_heap w
    ahead_still w e q = ap version_of (other_word w (λ same. some_none e (sym q ∙ ap (λ y. waits_at here y) same ∙ none_waits))) ∙ (holds.history.waits w e q).1
      where
        some_none : (e : Entry) → Some e ≡ None → ⊥
        some_none e q = cc

    tight_still : IsTight c.anatomy l (busy name number op call begun) → IsTight c.anatomy l next_worker
    tight_still t = subst (λ y. AreTight l y.spare) (hand_was ∙ sym hand_now) t

    plainly : c.anatomy.effects op ≡ false → Accounts
    plainly q =
        let none : update ≡ None = no_update (c.anatomy.effects op) refl q in
        let same_progress : after_heap.progress ≡ here.progress = ap (takes_effect here.progress m.word) none in
        let none_linked : links_of c.anatomy op ≡ [] = ap (λ t. if t && is_insert (c.anatomy.call op) then rows_in (hand_in (c.anatomy.machine op)).spare
        else []) q in
        let steady : IsSteady c.anatomy l here (busy name number op call begun) next_worker = record {
          own = own_now ∙ ap (λ t. rows_but c.anatomy (t && (is_insert (c.anatomy.call op) && true)) m.hand.spare) q ∙ sym own_is;
          ticket = ap (λ y. y.ticket) (hand_now ∙ sym hand_was);
          tight = tight_still;
          makes = λ word e waits makes. absurd (idle (c.anatomy.past op) word
              (subst (λ d. MakesAt d word) (deed_was ∙ ap (λ t. deed_by c.anatomy t (c.anatomy.past op) Fresh) q) makes.0));
        } in (
          subst (HasUpdate after_heap name number call (first_at k begun)) (sym
              (deed_now ∙ ap (λ t. deed_by c.anatomy t (c.anatomy.past op) (Making m.word m.to)) q))
              (by_past (c.anatomy.past op) same_progress (subst (HasUpdate here name number call (first_at k begun))
              (ap (λ t. deed_by c.anatomy t (c.anatomy.past op) Fresh) q) update_was)),
          rows_same c.anatomy l free M.state.counter here after_heap (a ++ next_worker ∷ b) (ap (λ xs. xs ++ holds.given) none_linked)
              (ap (λ y. inserts_in (made y)) same_progress)
              (rows_steady c.anatomy l free M.state.counter here a (busy name number op call begun) next_worker b steady holds.rows),
          history_words c.anatomy l free here after_heap (a ++ next_worker ∷ b) same_progress opened_still ahead_still
              (history_steady c.anatomy l free here a (busy name number op call begun) next_worker b refl (same_le number) steady.makes holds.history),
        )
      where
        same_le : (y : ℕ) → y ≤ y
        same_le y = omega arith

        idle : (past : Bool) (word : ℕ) → MakesAt (deed_by c.anatomy false past Fresh) word → ⊥
        idle true word y = y
        idle false word y = y

        by_past : (past : Bool) → after_heap.progress ≡ here.progress → HasUpdate here name number call (first_at k begun) (deed_by c.anatomy false past Fresh)
            → HasUpdate after_heap name number call (first_at k begun) (deed_by c.anatomy false past (Making m.word m.to))
        by_past true same y = subst (λ y. StandsFrom (first_at k begun) y.settled (update_of name number call)) (sym same) y
        by_past false same y = subst (λ y. IsUnmade y name number) (sym same) y

    with_update : c.anatomy.effects op ≡ true → Accounts
    with_update q =
        let e : Entry = update_of name number call in
        let some : update ≡ Some e = ap (λ t. effect_if c.anatomy t me) q in
        let progress : after_heap.progress ≡ takes_effect here.progress m.word (Some e) = ap (takes_effect here.progress m.word) some in
        let making : deed c.anatomy next_op ≡ Making m.word m.to = deed_now ∙ ap (λ t. deed_by c.anatomy t (c.anatomy.past op) (Making m.word m.to)) q in
        let was : deed c.anatomy op ≡ Fresh = deed_was ∙ ap (λ t. deed_by c.anatomy t (c.anatomy.past op) Fresh) q in
        let unmade : IsUnmade here.progress name number = subst (HasUpdate here name number call (first_at k begun)) was
        (update_now c l p free keeps M a name number op call begun b holds k settled) in
        let waits : waits_at after_heap m.word ≡ Some e = ap (λ y. fin.get y.waiting m.word) progress ∙ get_put here.progress.waiting m.word e m.word
        ∙ ap (λ t. cond t (Some e) (fin.get here.progress.waiting m.word)) (eq-eqb m.word m.word refl) in
        let inserts : inserts_in (made after_heap.progress) ≡ cond (is_insert call) 1 0 + inserts_in (made here.progress) =
        ap (λ y. inserts_in (made y)) progress ∙ inserts_won here.progress m.word e none_waits in (
          subst (HasUpdate after_heap name number call (first_at k begun)) (sym making) (inl (waits, new_word)),
          by_insert (is_insert (c.anatomy.call op)) refl q inserts,
          history_won c.anatomy l free here after_heap m.word a (busy name number op call begun) next_worker b e holds.different refl refl progress none_waits
              refl refl
              (subst (λ y. is_update_by y Yes ≡ true) call_is (wins.1.update q)) unmade opened_still ahead_still (opened_still m.word x.reached)
              (ap version_of new_word ∙ x.next.next ∙ ap (λ y. y + 1) (sym (version-bare m.from)) ∙ ap (λ y. version_of y + 1) (sym shadow_is))
              (subst (λ d. MakesAt d m.word) (sym making) refl, refl) (λ w d makes. subst (λ y. MakesAt y w) was makes.0) holds.history,
        )
      where
        one_plus : (n : ℕ) → 1 + n ≡ suc n
        one_plus n = omega arith

        zero_plus : (n : ℕ) → 0 + n ≡ n
        zero_plus n = omega arith

        by_insert : (i : Bool) → is_insert (c.anatomy.call op) ≡ i → c.anatomy.effects op ≡ true →
            inserts_in (made after_heap.progress) ≡ cond (is_insert call) 1 0 + inserts_in (made here.progress) →
            Rows c.anatomy l free M.state.counter after_heap (a ++ next_worker ∷ b)
        by_insert true i q inserts =
            let links : links_of c.anatomy op ≡ rows_in m.hand.spare = ap (λ t. if t && is_insert (c.anatomy.call op) then
            rows_in (hand_in (c.anatomy.machine op)).spare else []) q
            ∙ ap (λ t. if t then rows_in (hand_in (c.anatomy.machine op)).spare else []) i ∙ ap (λ y. rows_in (hand_in y).spare) is in
            rows_linked c.anatomy l free M.state.counter here after_heap a (busy name number op call begun) next_worker b
            (own_now ∙ ap (λ t. rows_but c.anatomy (t && (is_insert (c.anatomy.call op) && true)) m.hand.spare) q
            ∙ ap (λ t. rows_but c.anatomy (t && true) m.hand.spare) i)
            (ap (λ xs. xs ++ holds.given) (links ∙ sym own_is)) (ap length own_is ∙ wins.1.linked q i)
            (inserts ∙ ap (λ y. cond (is_insert y) 1 0 + inserts_in (made here.progress)) (sym call_is)
            ∙ ap (λ t. cond t 1 0 + inserts_in (made here.progress)) i ∙ one_plus (inserts_in (made here.progress)))
            (ap (λ y. y.ticket) (hand_now ∙ sym hand_was)) tight_still holds.rows
        by_insert false i q inserts =
            let steady : IsSteady c.anatomy l after_heap (busy name number op call begun) next_worker = record {
              own = own_now ∙ ap (λ t. rows_but c.anatomy (c.anatomy.effects op && (t && true)) m.hand.spare) i
                  ∙ ap (λ t. rows_but c.anatomy (t && false) m.hand.spare) q ∙ sym own_is;
              ticket = ap (λ y. y.ticket) (hand_now ∙ sym hand_was);
              tight = tight_still;
              makes = λ word e waits makes. absurd (subst (λ y. MakesAt y word) (deed_was ∙ ap (λ t. deed_by c.anatomy t (c.anatomy.past op) Fresh) q) makes.0);
            } in
            rows_steady c.anatomy l free M.state.counter after_heap a (busy name number op call begun) next_worker b steady
            (rows_same c.anatomy l free M.state.counter here after_heap (a ++ busy name number op call begun ∷ b)
            (ap (λ xs. xs ++ holds.given) (ap (λ t. if t && is_insert (c.anatomy.call op) then rows_in (hand_in (c.anatomy.machine op)).spare else []) q
            ∙ ap (λ t. if t then rows_in (hand_in (c.anatomy.machine op)).spare else []) i))
            (inserts ∙ ap (λ y. cond (is_insert y) 1 0 + inserts_in (made here.progress)) (sym call_is)
            ∙ ap (λ t. cond t 1 0 + inserts_in (made here.progress)) i ∙ zero_plus (inserts_in (made here.progress))) holds.rows)

    accounts : Accounts
    accounts = by_test (c.anatomy.effects op) refl
      where
        by_test : (t : Bool) → c.anatomy.effects op ≡ t → Accounts
        by_test true q = with_update q
        by_test false q = plainly q

    pub wins_event : (effect : Option Entry) → effect ≡ update →
        Holds c l p free (record M {
          state = after M.state e;
          progress = progress_after M.progress M.state e effect;
          workers =
              a ++ busy name number (op_taken c.anatomy p free op told) call now ∷ b;
        })
    wins_event effect same =
        let w : Worker Op = busy name number next_op call now in
        let acts : Acts c l p free after_heap w won_actor = record {
          at = taken ∙ ap working_in (sym (keeps.put op (Works (Exchanges (exchange_at m WritesBack))) after_it));
          name = ap (λ y. (hand_of y).name) taken ∙ ap (λ y. (hand_of y).name) (sym at_exchange) ∙ mine.mine.name;
          number = ap (λ y. (hand_of y).number) taken ∙ ap (λ y. (hand_of y).number) (sym at_exchange) ∙ mine.mine.number;
          least = mine.mine.least;
          most = mine.mine.most;
          reached = subst (λ y. AllByRecursion (IsOpen l free after_heap) (goes_for y)) (sym taken)
              (record { within = x.reached.within; given = λ row pool word. given_more row (x.reached.given row pool word); ours = x.reached.ours }, tt);
          reading = subst (λ y. AllByRecursion (IsOpen l free after_heap) (reads_for y)) (sym taken) tt;
          mine = tt;
          published = λ q t. refl;
          alone = λ one. let x = alone_now c l p free keeps M a name number op call begun b holds k settled e [] asked_now tt one in
              record { machine = x.machine; queued = x.queued; seen = x.seen };
          doing = record {
            same_call = keeps.put_call op (Works (Exchanges (exchange_at m WritesBack))) after_it
                ∙ (busy_now c l p free keeps M a name number op call begun b holds k settled).same_call;
            served = (busy_now c l p free keeps M a name number op call begun b holds k settled).served;
            first = through (first_at k begun) (length M.progress.settled) (length after_heap.progress.settled)
                (since c l p free keeps M a name number op call begun b holds k settled) (settled_longer (Some name) here after_heap follows);
            waits = λ y. absurd (some_none (first_at k begun) y);
            facts = subst (Facts c l p free after_heap you next_op) (sym (keeps.put op (Works (Exchanges (exchange_at m WritesBack))) after_it)) tt;
            going = ap (has_ended p) (keeps.put op (Works (Exchanges (exchange_at m WritesBack))) after_it);
            update = accounts.0;
            knows = wins.1.knows;
          };
        } in
        subst (λ s. Holds c l p free (record M {
          state = s;
          progress = progress_after M.progress M.state e effect;
          workers =
              a ++ busy name number (op_taken c.anatomy p free op told) call now ∷ b;
        })) (sym state_is)
        (subst (λ q. Holds c l p free (record N { progress = q; workers = a ++ busy name number (op_taken c.anatomy p free op told) call now ∷ b }))
        (sym (progress_is effect same))
        (subst (λ o. Holds c l p free (record N { workers = a ++ busy name number o call now ∷ b })) (sym op_is)
        (moved c l p free keeps M a (busy name number op call begun) b holds N.state N.progress (links_of c.anatomy op ++ holds.given) wins.0 w won_actor refl
        (length-set M.state.words m.word (dressed p.counted m.to) ∙ holds.words) holds.slots
        (subst (λ s. IsSound p (λ y. false) (world_of s front won_actor mine.behind)) state_is sound)
        (subst (λ s. TagsGo p M.state s mine.actor.at won_actor.at) state_is
        (tags_now c l p free keeps M a name number op call begun b holds k settled e asked_now))
        (subst (λ h. Moves c l p free (Some name) here h) heap_is moves)
        (subst (λ h. AllStay c l p free (Some name) here h a mine.before) heap_is left)
        (subst (λ h. AllStay c l p free (Some name) here h b mine.behind) heap_is right)
        (subst (λ h. Acts c l p free h w won_actor) heap_is acts)
        (subst (λ h. Rows c.anatomy l free M.state.counter h (a ++ w ∷ b)) heap_is accounts.1)
        (subst (λ h. History c.anatomy l free h (a ++ w ∷ b)) heap_is accounts.2))))
      where
        through : (a b c : ℕ) → a ≤ b → b ≤ c → a ≤ c
        through a b c i j = omega (arith, i, j)

        some_none : (n : ℕ) → ◌≡◌ {A = Option ℕ} (Some n) None → ⊥
        some_none n y = cc

        op_is : op_taken c.anatomy p free op told ≡ next_op
        op_is = ap (λ y. gone_on c.anatomy p op (machine_takes p free y told)) is
            ∙ ap (λ y. gone_on c.anatomy p op (Works (Exchanges (exchange_takes p m.at m y)))) x.found
            ∙ ap (λ y. gone_on c.anatomy p op (Works (Exchanges y))) x.takes
