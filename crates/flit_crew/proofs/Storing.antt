-- The Store of a call's PrivateStore.
use Rattle.std.proofs.Common.{◌≡◌, ◌≢◌, ◌⊎◌, inl, ⊎_elim, ℕ, ◌+◌, ◌<◌, ◌≤◌, Bool, true, false, List, [], ◌∷◌, ◌++◌, length, map, slice_set, Option, Some, refl, sym, ◌∙◌, ap, subst, if◌then◌else◌, arith}
use Rattle.std.proofs.lemmas.List.{length-set, length-map, map-set}
use Rattle.std.specs.Prelude.{Contains}
use Rattle.std.specs.List.{AllByRecursion}
use Rattle.flit_model.proofs.Elements.{all_weaker, all_front, all_behind}
use Rattle.flit_words.specs.declared.layouts.Layout.{Layout}
use Rattle.flit_words.specs.Words.{bare_of, version_of}
use Rattle.flit_model.specs.declared.calls.Entry.{Entry}
use Rattle.flit_place.proofs.CoverSteps.{index-set}
use Rattle.flit_model.specs.Effects.{after}
use Rattle.flit_model.specs.declared.events.Event.{Event}
use Rattle.flit_model.specs.declared.events.Event.TheVariants.{Store}
use Rattle.flit_model.specs.declared.calls.Call.{Call}
use Rattle.flit_place.specs.Tags.{Place}
use Rattle.flit_place.proofs.WordTags.{bare-untagged}
use Rattle.flit_pv.specs.declared.queues.Noted.{Noted}
use Rattle.flit_pv.specs.Stores.{HeldStore}
use Rattle.flit_pv.specs.declared.stores.Storing.TheVariants.{Writes}
use Rattle.flit_pv.specs.Queues.{is_full, first_persist}
use Rattle.flit_pv.specs.Hands.{with_pair, fenced_one}
use Rattle.flit_pv.specs.Stores.{store_asks, store_takes, store_next, store_room}
use Rattle.flit_runs.specs.Workings as run
use Rattle.flit_runs.specs.Workings.{Stores, gains, goes_for}
use Rattle.flit_runs.specs.Worlds.{Actor, world_of, gone_on as actor_gone}
use Rattle.flit_runs.specs.Soundness.{Knows, StoreKnows, IsPWord}
use Rattle.flit_runs.proofs.Lists.{all_among}
use Rattle.flit_runs.proofs.ExchangeSteps.{around}
use Rattle.flit_runs.proofs.Turns.{safe}
use Rattle.flit_runs.specs.Worlds as world
use Rattle.flit_structure.specs.declared.workers.Worker.{Worker}
use Rattle.flit_structure.specs.Moments.{Moment, with_workers, busy}
use Rattle.flit_structure.proofs.Names.{others_new}
use Rattle.flit_structure.specs.Meanings.{first_at}
use Rattle.flit_crew.specs.Machines.{Works, Fresh, MakesAt, deed_of, has_linked, machine_takes, hand_in, hand_of, reads_for}
use Rattle.flit_crew.specs.Heaps.{Heap, heap_of, at_word, at_shadow, waits_at, stored, IsOpen, IsWordOf, IsShut, IsMine, AreAlike}
use Rattle.flit_crew.specs.Anatomies.{own, own_in, deed, deed_by, op_taken, gone_on}
use Rattle.flit_crew.specs.Accounts.{HasUpdate, Rows, History, IsSteady}
use Rattle.flit_crew.specs.Fillings.{AreStoring, FillsAt}
use Rattle.flit_crew.specs.Crews.{Crew, Holds, Facts, Fills, stranger_of}
use Rattle.flit_crew.specs.Obligations.{Keeps, IsAfter}
use Rattle.flit_crew.proofs.Acting.{Split, Moves, AllStay}
use Rattle.flit_crew.proofs.Moving.{old_left, old_right}
use Rattle.flit_crew.proofs.Updating.{follows_same}
use Rattle.flit_crew.proofs.Accounting.{rows_steady, rows_same, history_steady, history_words}
use Rattle.flit_crew.proofs.Owning.{IsOwn, own_row, one_row, lower}
use Rattle.flit_crew.proofs.Others.{IsDrawn, IsUntouched, all_drawn, all_untouched, new_others}
use Rattle.flit_crew.proofs.Standing.{deed_same, steady_with}
use Rattle.flit_crew.proofs.Filling.{fills_stored, stored_within, limit_stays}
use Rattle.flit_crew.proofs.FactsGoing.{fills_go}
use Rattle.flit_crew.proofs.Going.{r, heap, me_now, sound_now, facts_now, knows_now, update_now, turned, tags_now, alone_now}
use Rattle.flit_crew.proofs.GoingTo.{went_to}
use Rattle.flit_crew.proofs.Reading.{at_it, further, gone}
use Rattle.flit_crew.proofs.Stepping.{IsOn}
use Rattle.flit_crew.proofs.Trying.{same_le}

pub next_on : (m : HeldStore) (ready : List Noted) → IsOn m.hand (store_next m ready).hand
next_on m [] = record { name = refl; number = refl; spare = refl; ticket = refl }
next_on m (n ∷ ns) = record { name = refl; number = refl; spare = refl; ticket = refl }

next_goes : (P : ℕ → Type 0) (m : HeldStore) (ready : List Noted) → AllByRecursion P (goes_for (Stores (store_next m ready)))
next_goes P m ready = tt

module _ {G Op : Type 0} (c : Crew G Op) (l : Layout) (p : Place) (free : List ℕ) (keeps : Keeps c l p free) (M : Moment Op) (a : List (Worker Op))
    (name number : ℕ) (op : Op) (call : Call) (begun : Option ℕ) (b : List (Worker Op))
    (holds : Holds c l p free (with_workers M (a ++ busy name number op call begun ∷ b))) (m : HeldStore) (is : c.anatomy.machine op ≡ Works (Stores m))
    (n : Noted) (at : m.at ≡ Writes n) (room : is_full m.hand.queue ≡ false) where
  abbrev K : ℕ
  K = length M.progress.settled

  abbrev mine : Split c l p free (heap c l p free keeps M a name number op call begun b holds K (same_le K)) a (busy name number op call begun) b holds.actors
  mine = r c l p free keeps M a name number op call begun b holds K (same_le K)

  -- those before it in the world
  abbrev front : List Actor
  front = stranger_of holds.stranger ∷ mine.before

  abbrev here : Heap G
  here = heap c l p free keeps M a name number op call begun b holds K (same_le K)

  abbrev e : Event
  e = Store n.word n.kept

  abbrev at_store : mine.actor.at ≡ Stores m
  at_store = at_it c l p free keeps M a name number op call begun b holds K (same_le K) (Stores m) is

  store_knows : StoreKnows M.state mine.actor.private (Writes n) m
  store_knows = subst (λ x. StoreKnows M.state mine.actor.private x m) at
      (subst (Knows p (λ x. false) M.state (around (world.writings front) (run.writing_at mine.actor.at) (world.writings mine.behind)) mine.actor.private)
      at_store
      (safe p (λ x. false) M.state front mine.actor mine.behind (sound_now c l p free keeps M a name number op call begun b holds K (same_le K))).knows)

  among : Contains mine.actor.private n.word
  among = store_knows.each.0.mine

  its : IsMine l free here (own c.anatomy op) n.word
  its = all_among (IsMine l free here (own c.anatomy op)) mine.actor.private n.word mine.mine.mine among

  abbrev shut : IsShut l free here n.word
  shut = its.shut

  abbrev pub after_store : Heap G
  after_store = stored here n.word n.kept

  heap_is : after_store ≡ (let N : Moment Op = record M { state = after M.state e } in heap_of N holds.given holds.ghost)
  heap_is = ap (λ ws. record here { words = ws }) (sym (map-set bare_of M.state.words n.word n.kept
      ∙ ap (λ y. slice_set (map bare_of M.state.words) n.word y) (bare-untagged n.kept store_knows.each.0.bare)))

  abbrev g : Actor
  g = gone c l p free keeps M a name number op call begun b holds K (same_le K) e []

  taken : (told : ℕ) → run.takes p (Stores m) told ≡ Stores (store_next (record m { hand = with_pair m.hand n }) m.drafts.ready)
  taken told = ap (λ x. Stores (store_takes x m told)) at ∙ ap (λ t. Stores
      (if t then store_room (record m { hand = fenced_one m.hand m.hand.queue }) n (fenced_one m.hand m.hand.queue).queue
      else store_next (record m { hand = with_pair m.hand n }) m.drafts.ready)) room

  given_same : (row : ℕ) → Contains here.given row → Contains here.given row
  given_same row h = h

  below_words : n.word < length here.words
  below_words = subst (λ x. n.word < x) (sym (length-map M.state.words bare_of))
      (all_among (IsPWord (λ x. false) M.state) mine.actor.private n.word (safe p (λ x. false) M.state front mine.actor mine.behind
      (sound_now c l p free keeps M a name number op call begun b holds K (same_le K))).plain among).0

  other_word : (w : ℕ) → w ≢ n.word → at_word after_store w ≡ at_word here w
  other_word w ne = ⊎_elim (λ q. absurd (ne q.0)) (λ q. q.1) (index-set here.words n.word n.kept w below_words)

  -- what everybody may reach is another word
  open_other : (w : ℕ) → IsOpen l free here w → w ≢ n.word
  open_other w o same = shut.unlinked (o.given shut.row shut.pool (subst (λ x. IsWordOf l shut.row x) (sym same) shut.word))

  waits_other : (w : ℕ) (x : Entry) → waits_at here w ≡ Some x → w ≢ n.word
  waits_other w x q = open_other w (holds.history.waits w x q).0

  alike : AreAlike l free here after_store
  alike = record {
    opening = refl;
    progress = refl;
    given = refl;
    ghost = refl;
    words = λ w o. other_word w (open_other w o);
    shadows = λ w o. refl;
    number = length-set here.words n.word n.kept;
    shadows_number = refl;
    untagged = λ w lt. (holds.sound.words w).bare;
  }

  -- ---- the others

  given_parts : (row : ℕ) → Contains after_store.given row → Contains here.given row ⊎ Contains [] row
  given_parts row has = inl has

  none_linked : (row : ℕ) → Contains [] row → ⊥
  none_linked row has = none has.1
    where
      none : {i : ℕ} → i < 0 → ⊥
      none {i} lt = clash i lt
        where
          clash : (i : ℕ) → i < 0 → ⊥
          clash i lt = omega (arith, lt)

  own_its : IsOwn (λ v. own_in c.anatomy v.doing) free holds.given a b shut.row
  own_its = own_row (λ v. own_in c.anatomy v.doing) free M.state.counter holds.given a (busy name number op call begun) b shut.row
      (lower free holds.pool.rising) holds.rows.dealt its.own

  drawn_now : AllByRecursion (IsDrawn (λ v. own_in c.anatomy v.doing) free holds.given) (a ++ busy name number op call begun ∷ b)
  drawn_now = all_drawn (λ v. own_in c.anatomy v.doing) free M.state.counter holds.given (a ++ busy name number op call begun ∷ b)
      (lower free holds.pool.rising) holds.rows.dealt

  untouched : (us : List (Worker Op)) → AllByRecursion (IsDrawn (λ v. own_in c.anatomy v.doing) free holds.given) us →
      AllByRecursion (λ v. Contains (own_in c.anatomy v.doing) shut.row → ⊥) us →
      AllByRecursion (IsUntouched c l p free (Some name) here after_store n.word [] other_word given_parts) us
  untouched [] drawn apart = tt
  untouched (v ∷ us) drawn apart = (
    λ row has. (
      none_linked row,
      λ w of same. apart.0 (subst (Contains (own_in c.anatomy v.doing))
          (one_row l free holds.pool row shut.row n.word (drawn.0 row has).0 shut.pool (subst (λ x. IsWordOf l row x) same of) shut.word) has),
    ),
    untouched us drawn.1 apart.1,
  )

  left : AllStay c l p free (Some name) here after_store a mine.before
  left = all_untouched c l p free (Some name) here after_store n.word [] other_word given_parts a mine.before
      (new_others name a (others_new a b (busy name number op call begun) holds.different).0)
      (untouched a (all_front (IsDrawn (λ v. own_in c.anatomy v.doing) free holds.given) a (busy name number op call begun ∷ b) drawn_now) own_its.left)
      (old_left c l p free keeps M a (busy name number op call begun) b holds) mine.left

  right : AllStay c l p free (Some name) here after_store b mine.behind
  right = all_untouched c l p free (Some name) here after_store n.word [] other_word given_parts b mine.behind
      (new_others name b (others_new a b (busy name number op call begun) holds.different).1)
      (untouched b (all_behind (IsDrawn (λ v. own_in c.anatomy v.doing) free holds.given) a (busy name number op call begun ∷ b) drawn_now).1 own_its.right)
      (old_right c l p free keeps M a (busy name number op call begun) b holds) mine.right

  -- ---- its own accounts

  abbrev then_at : HeldStore
  then_at = store_next (record m { hand = with_pair m.hand n }) m.drafts.ready

  abbrev next : Worker Op
  next = busy name number (c.anatomy.with_machine op (Works (Stores then_at))) call (Some (first_at K begun))

  after_it : IsAfter c l p free op (Works (Stores then_at))
  after_it = (0, ap Works (sym (taken 0)) ∙ ap (λ x. machine_takes p free x 0) (sym is))

  hand : IsOn m.hand then_at.hand
  hand = let h = next_on (record m { hand = with_pair m.hand n }) m.drafts.ready in
      record { name = h.name; number = h.number; spare = h.spare; ticket = h.ticket }

  deeds : deed c.anatomy (c.anatomy.with_machine op (Works (Stores then_at))) ≡ deed c.anatomy op
  deeds = deed_same c l p free keeps op (Works (Stores then_at)) after_it (sym (ap deed_of is))

  steady : IsSteady c.anatomy l here (busy name number op call begun) next
  steady = steady_with c l p free keeps op (Works (Stores then_at)) after_it here name number call begun (Some (first_at K begun))
      (sym (ap (λ x. has_linked (deed_of x)) is))
      (hand.spare ∙ ap (λ x. (hand_in x).spare) (sym is)) (hand.ticket ∙ ap (λ x. (hand_in x).ticket) (sym is))
      (λ word e waits mine makes. subst (λ d. MakesAt d word) (sym deeds) makes)

  -- an update that isn't in a word stays where it is
  update_stored : HasUpdate after_store name number call (first_at K begun) (deed c.anatomy op)
  update_stored = subst (HasUpdate after_store name number call (first_at K begun)) (sym deed_is)
      (by_kind (c.anatomy.effects op) (c.anatomy.past op) (subst (HasUpdate here name number call (first_at K begun)) deed_is
      (update_now c l p free keeps M a name number op call begun b holds K (same_le K))))
    where
      deed_is : deed c.anatomy op ≡ deed_by c.anatomy (c.anatomy.effects op) (c.anatomy.past op) Fresh
      deed_is = ap (λ x. deed_by c.anatomy (c.anatomy.effects op) (c.anatomy.past op) (deed_of x)) is

      by_kind : (t past : Bool) → HasUpdate here name number call (first_at K begun) (deed_by c.anatomy t past Fresh) →
          HasUpdate after_store name number call (first_at K begun) (deed_by c.anatomy t past Fresh)
      by_kind true past x = x
      by_kind false true x = x
      by_kind false false x = x

  -- ---- what is filled

  filled : Fills c l p free here op m
  filled = subst (Facts c l p free here (me_now c l p free keeps M a name number op call begun b holds K (same_le K) mine.actor) op) is
      (facts_now c l p free keeps M a name number op call begun b holds K (same_le K))

  storing_it : AreStoring here (c.anatomy.storing op) (n ∷ m.drafts.ready)
  storing_it = subst (λ x. FillsAt l here (c.anatomy.storing op) x m) at filled.filled

  filling_word : ((c.anatomy.storing op).first ≤ n.word) × (n.word < (c.anatomy.storing op).first + length (c.anatomy.storing op).values)
  filling_word = stored_within here (c.anatomy.storing op) n m.drafts.ready storing_it

  new_word : at_word after_store n.word ≡ n.kept
  new_word = ⊎_elim (λ q. q.1) (λ q. absurd (q.0 refl)) (index-set here.words n.word n.kept n.word below_words)

  fills_now : Fills c l p free after_store (c.anatomy.with_machine op (Works (Stores then_at))) then_at
  fills_now =
      fills_go c l p free keeps op m then_at after_it is hand.spare (limit_stays (record m { hand = with_pair m.hand n }) m.drafts.ready) here after_store
      (fills_stored l here after_store (c.anatomy.storing op) n new_word other_word (record m { hand = with_pair m.hand n }) m.drafts.ready storing_it) filled

  asked_now : run.asks p mine.actor.at ≡ Some e
  asked_now = ap (run.asks p) at_store ∙ ap (λ x. store_asks x m) at ∙ ap (λ t. if t then first_persist m.hand.queue else Some e) room

  pub store_step : Holds c l p free (record M {
    state = after M.state e;
    workers =
        a ++ busy name number (op_taken c.anatomy p free op 0) call (Some (first_at K begun)) ∷ b;
  })
  store_step =
      let after_at : g.at ≡ Stores then_at = ap (λ x. run.takes p x 0) at_store ∙ taken 0 in
      let blind = keeps.blind here after_store (Some name) holds.kept alike in
      let me = me_now c l p free keeps M a name number op call begun b holds K (same_le K) mine.actor in
      let you = me_now c l p free keeps M a name number op call begun b holds K (same_le K) g in
      let moves : Moves c l p free (Some name) here after_store = record {
        was = holds.kept;
        is = blind.0;
        opening = refl;
        later = blind.1;
        follows =
            follows_same (Some name) here after_store refl (λ w x q. other_word w (waits_other w x q));
        given = given_same;
        risen = λ w. same_le (version_of (at_shadow here w));
      } in
      let mine_stored : AllByRecursion (IsMine l free after_store (own c.anatomy (c.anatomy.with_machine op (Works (Stores then_at))))) g.private =
      subst (λ rows. AllByRecursion (IsMine l free after_store rows) g.private) (sym steady.own)
      (all_weaker (IsMine l free here (own c.anatomy op)) (IsMine l free after_store (own c.anatomy op))
      (λ w k. record { shut = record { row = k.shut.row; pool = k.shut.pool; word = k.shut.word; unlinked = k.shut.unlinked }; own = k.own })
      mine.actor.private mine.mine.mine) in
      let knows = keeps.stores here me you op (Works (Stores then_at)) n.word n.kept after_it holds.kept
      (further c l p free keeps M a name number op call begun b holds K (same_le K) e []) among its filling_word.0 filling_word.1
      (knows_now c l p free keeps M a name number op call begun b holds K (same_le K)) in
      let rows : Rows c.anatomy l free M.state.counter after_store (a ++ next ∷ b) =
      rows_same c.anatomy l free M.state.counter here after_store (a ++ next ∷ b) refl refl
      (rows_steady c.anatomy l free M.state.counter here a (busy name number op call begun) next b steady holds.rows) in
      let history : History c.anatomy l free after_store (a ++ next ∷ b) =
      history_words c.anatomy l free here after_store (a ++ next ∷ b) refl (λ w o. record { within = o.within; given = o.given; ours = o.ours })
      (λ w x q. ap version_of (other_word w (waits_other w x q)) ∙ (holds.history.waits w x q).1)
      (history_steady c.anatomy l free here a (busy name number op call begun) next b refl (same_le number) steady.makes holds.history) in
      subst (λ x. Holds c l p free (record M {
        state = after M.state e;
        workers =
            a ++ busy name number (gone_on c.anatomy p op x) call (Some (first_at K begun)) ∷ b;
      })) (ap Works (sym (taken 0))
      ∙ ap (λ x. machine_takes p free x 0) (sym is))
      (went_to c l p free keeps M a name number op call begun b holds K (same_le K) (after M.state e) M.progress holds.given holds.ghost g
      (Works (Stores then_at)) (record {
        after_it = after_it;
        words = length-set M.state.words n.word n.kept ∙ holds.words;
        slots = holds.slots;
        moves = subst (λ k. Moves c l p free (Some name) here k) heap_is moves;
        before = subst (λ k. AllStay c l p free (Some name) here k a mine.before) heap_is left;
        behind = subst (λ k. AllStay c l p free (Some name) here k b mine.behind) heap_is right;
        sound = turned c l p free keeps M a name number op call begun b holds K (same_le K) e [] (ap (run.asks p) at_store
            ∙ ap (λ x. store_asks x m) at ∙ ap (λ t. if t then first_persist m.hand.queue else Some e) room) tt;
        at = after_at;
        name_same = ap (λ x. (hand_of x).name) after_at ∙ hand.name ∙ ap (λ x. (hand_of x).name) (sym at_store) ∙ mine.mine.name;
        number_same = ap (λ x. (hand_of x).number) after_at ∙ hand.number ∙ ap (λ x. (hand_of x).number) (sym at_store) ∙ mine.mine.number;
        reached = subst (λ x. AllByRecursion (IsOpen l free (let N : Moment Op = record M { state = after M.state e } in heap_of N holds.given holds.ghost))
            (goes_for x)) (sym after_at) tt;
        reading = subst (λ x. AllByRecursion (IsOpen l free (let N : Moment Op = record M { state = after M.state e } in heap_of N holds.given holds.ghost))
            (reads_for x)) (sym after_at) tt;
        mine_now = subst (λ k. AllByRecursion (IsMine l free k (own c.anatomy (c.anatomy.with_machine op (Works (Stores then_at))))) g.private) heap_is
            mine_stored;
        tags = tags_now c l p free keeps M a name number op call begun b holds K (same_le K) e asked_now;
        alone = alone_now c l p free keeps M a name number op call begun b holds K (same_le K) e [] asked_now tt;
        facts = subst (λ k. Facts c l p free k you (c.anatomy.with_machine op (Works (Stores then_at))) (Works (Stores then_at))) heap_is fills_now;
        update = subst (HasUpdate (let N : Moment Op = record M { state = after M.state e } in heap_of N holds.given holds.ghost) name number call
            (first_at K begun)) (sym deeds)
            (subst (λ k. HasUpdate k name number call (first_at K begun) (deed c.anatomy op)) heap_is update_stored);
        rows = subst (λ k. Rows c.anatomy l free M.state.counter k (a ++ next ∷ b)) heap_is rows;
        history = subst (λ k. History c.anatomy l free k (a ++ next ∷ b)) heap_is history;
        knows = subst (λ k. c.knows k you (c.anatomy.with_machine op (Works (Stores then_at)))) heap_is knows;
      }))
