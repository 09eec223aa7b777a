-- A run after a turn is kept, and is what the turn makes of it.
use Rattle.std.proofs.Common.{◌≡◌, ◌⊎◌, inl, inr, ℕ, ◌+◌, ◌<◌, ◌≤◌, ◌==◌, Bool, true, false, cond, List, ◌∷◌, ◌++◌, length, map, refl, sym, ◌∙◌, ap, subst, arith, Option, Some, None, slice_get, is_some, length-append}
use Rattle.std.proofs.Math.ListN.{length-set}
use Rattle.std.specs.List.{AllByRecursion, Contains}
use Rattle.std.specs.FinMap as fin
use Rattle.flit_model.specs.Maps.{Map, map_after_all}
use Rattle.flit_model.specs.Histories.{IsRightAt}
use Rattle.flit_model.specs.States.{State}
use Rattle.flit_model.specs.Effects.{after, answer}
use Rattle.flit_model.specs.Settling.{progress_after}
use Rattle.flit_model.specs.declared.calls.Call.{Call}
use Rattle.flit_model.specs.declared.calls.Entry.{Entry}
use Rattle.flit_model.specs.declared.calls.Placed.{Placed}
use Rattle.flit_model.specs.declared.calls.Item.{Item}
use Rattle.flit_model.specs.declared.calls.Item.TheVariants.{Call as Call_item, Evict as Evict_item}
use Rattle.flit_model.specs.declared.calls.Outcome.{Outcome}
use Rattle.flit_model.specs.declared.calls.Reply.{Reply}
use Rattle.flit_model.specs.declared.events.Event.{Event}
use Rattle.flit_model.specs.declared.events.Event.TheVariants.{Load, ReadTag, Raise, Lower, Exchange, Persist, Store, Draw}
use Rattle.flit_pv.specs.declared.hands.Hand.{Hand}
use Rattle.flit_structure.specs.declared.workers.Doing.{Doing}
use Rattle.flit_structure.specs.declared.workers.Doing.TheVariants.{Idle, Busy, Evicting}
use Rattle.flit_structure.specs.declared.workers.Worker.{Worker}
use Rattle.flit_structure.specs.Moments.{update_of}
use Rattle.flit_structure.specs.Meanings.{Meaning, asked_by, effect_in, effect_by, goes_on, key_of, moment_after}
use Rattle.flit_structure.specs.Lawful.{Lawful}
use Rattle.flit_sched.specs.declared.players.Player.{Player}
use Rattle.flit_sched.specs.declared.players.Waiting.{Waiting}
use Rattle.flit_sched.specs.Runs.{workers_of, moment_of}
use Rattle.flit_sched.specs.Turns.{enters, entered, rests, rested, hand_over, over_after, outcomes_after, part_after, reply_in}
use Rattle.flit_sched.specs.Openings.{IsRightItem, is_call}
use Rattle.flit_sched.specs.Starting.{IsNoted}
use Rattle.flit_sched.specs.Settled.{Settles, raised, waits_after}
use Rattle.flit_sched.specs.Kept.{IsKept, IsRawEvent, IsKeptPlayer, AreKeptFrom, IsAtItem, IsKeyed, AreApart, run_of, part_of, progress_of, items_of, one_if_busy, pairs_waiting}
use Rattle.flit_sched.proofs.StepLaws.{at, leave_holds}
use Rattle.flit_sched.proofs.PlayerLaws.{ws, ws_joined, parts_joined, kept_at, kept_put, kept_lasts, alike_at, AlikeSplit, alike_parts, alike_length, settles_alike}
use Rattle.flit_sched.proofs.KeptLaws.{get_there, all_get, at_item, IsNotedFor}
use Rattle.flit_sched.proofs.WaitingLaws.{no_some}
use Rattle.flit_sched.proofs.ProgressLaws.{Waited, waited, settled_progress, settled_once, same_progress, same_waits}
use Rattle.flit_sched.proofs.GrowLaws.{settles_book, raw_after, alike_items, alike_over, items_joined, over_joined, player_lasts}
use Rattle.flit_sched.proofs.KindLaws.{kinds_after, replied_call}
use Rattle.flit_sched.proofs.ReadLaws.{NotedIn, noted_in}
use Rattle.flit_sched.proofs.BeforeLaws as before

-- what waits of a worker after its event, where the new entry is right
pub waits_right : (P : ℕ × Entry → Type 0) (e : Event) (told : ℕ) (effect : Option Entry) (w : Option Waiting) → AllByRecursion P (pairs_waiting w) →
    ((word : ℕ) (x : Entry) → effect ≡ Some x → P (word, x)) →
    AllByRecursion P (pairs_waiting (waits_after e told effect w))
waits_right P (Load word) told effect w h new = h
waits_right P (ReadTag word) told effect w h new = h
waits_right P (Raise word) told effect w h new = h
waits_right P (Lower word) told effect w h new = h
waits_right P (Persist word kept) told effect w h new = h
waits_right P (Store word to) told effect w h new = h
waits_right P Draw told effect w h new = h
waits_right P (Exchange word from to) told None w h new = h
waits_right P (Exchange word from to) told (Some x) w h new = by_test (told == from)
  where
    by_test : (t : Bool) → AllByRecursion P (pairs_waiting (cond t (Some (record { word = word; entry = x })) w))
    by_test true = (new word x refl, tt)
    by_test false = h

module _ {Op : Type 0} (meaning : Meaning Op) where
  effect_busy : (keys : List ℕ) (name number : ℕ) (op : Op) (call : Call) (x : Entry) → Contains keys (key_of call) → (t : Bool) →
      cond t (Some (update_of name number call)) None ≡ Some x →
      (x.worker ≡ name) × Contains keys (key_of x.call)
  effect_busy keys name number op call x has true e =
      let same : update_of name number call ≡ x = cc in
      (sym (ap (λ y. y.worker) same), subst (λ y. Contains keys (key_of y.call)) same has)
  effect_busy keys name number op call x has false e = absurd (no_some x e)

  -- the update that takes effect is of the worker, and its key is among the keys
  effect_keyed : (content : Map) (settled : List Entry) (keys : List ℕ) (noted : Option ℕ) (name number : ℕ) (doing : Doing Op) (item : Item) (x : Entry) →
      IsKeyed keys item →
      IsAtItem meaning content settled (Some item) noted doing →
      effect_in meaning (enters meaning (at name number doing) doing (Some item)).name (enters meaning (at name number doing) doing (Some item)).number
      (enters meaning (at name number doing) doing (Some item)).doing ≡ Some x →
      (x.worker ≡ name) × Contains keys (key_of x.call)
  effect_keyed content settled keys noted name number (Idle hand) (Call_item call) x has k e =
      effect_busy keys name (number + 1) (meaning.begun hand call) call x has (meaning.effect (meaning.begun hand call)) e
  effect_keyed content settled keys noted name number (Idle hand) (Evict_item word) x has k e = absurd (no_some x e)
  effect_keyed content settled keys noted name number (Busy op call None) item x has k e = absurd k
  effect_keyed content settled keys noted name number (Busy op call (Some n)) item x has k e =
      let same : item ≡ Call_item call = (let q = k.0 in cc) in
      effect_busy keys name number op call x (subst (IsKeyed keys) same has) (meaning.effect op) e
  effect_keyed content settled keys noted name number (Evicting evict) item x has k e = absurd (no_some x e)

  noted_for : (content : Map) (settled : List Entry) (keys : List ℕ) (values : List (Option ℕ)) (doing : Doing Op) (item : Item) (was noted : Option ℕ) →
      map (λ k. fin.get (map_after_all content settled) k) keys ≡ values → IsNoted keys values doing (Some item) was noted →
      IsNotedFor meaning content settled (Some item) was noted doing
  noted_for content settled keys values (Idle hand) (Call_item call) was noted b h = h (map_after_all content settled) b
  noted_for content settled keys values (Idle hand) (Evict_item word) was noted b h = tt
  noted_for content settled keys values (Busy op call begun) item was noted b h = h
  noted_for content settled keys values (Evicting evict) item was noted b h = h

  over_fits : (over : ℕ) (o : Option Hand) (n : ℕ) → over < n → over_after meaning over o ≤ n
  over_fits over None n h = omega arith
  over_fits over (Some hand) n h = omega arith

  outcomes_long : (outcomes : List (Option Outcome)) (over : ℕ) (o : Option Reply) → length (outcomes_after meaning outcomes over o) ≡ length outcomes
  outcomes_long outcomes over None = refl
  outcomes_long outcomes over (Some reply) = length-set outcomes over _

  move_item : (content : Map) (settled : List Entry) (items : List Item) (noted : Option ℕ) (over : ℕ) (doing : Doing Op) (o : Option Hand) →
      IsAtItem meaning content settled (slice_get items over) noted (rests meaning doing o) →
      IsAtItem meaning content settled (slice_get items (over_after meaning over o)) noted (rests meaning doing o)
  move_item content settled items noted over doing None h = h
  move_item content settled items noted over doing (Some hand) h = tt

module _ {Op : Type 0} (meaning : Meaning Op) (l : Lawful meaning) (content : Map) (m : State) (settled : List Entry) (placed : List Placed) (keys : List ℕ)
    (values : List (Option ℕ)) (entries reads : ℕ) (a b : List (Player (Worker Op))) (p : Player (Worker Op))
    (K : IsKept meaning (run_of content m settled placed (a ++ p ∷ b)) (a ++ p ∷ b) keys values entries reads) (over : p.over < length p.work.items.items)
    (e : Event) (asks_e : asked_by meaning (entered meaning (part_of p)) ≡ Some e) where
  abbrev u : Worker Op
  u = entered meaning (part_of p)

  abbrev d : Doing Op
  d = goes_on meaning (length settled) u.doing (answer m e)

  here : IsKeptPlayer meaning content settled keys (1 + length a) p
  here = before.here meaning l content m settled placed keys values entries reads a b p K

  abbrev item : (i : Item) × (slice_get p.work.items.items p.over ≡ Some i)
  item = get_there p.work.items.items p.over over

  u_is : u ≡ enters meaning p.worker p.worker.doing (Some (item).0)
  u_is = ap (λ o. enters meaning p.worker p.worker.doing o) (item).1

  at_now : IsAtItem meaning content settled (Some (item).0) p.noted p.worker.doing
  at_now = subst (λ o. IsAtItem meaning content settled o p.noted p.worker.doing) (item).1 (here).at

  abbrev pub IsOwn : ℕ × Entry → Type 0
  IsOwn w = (w.1.worker ≡ 1 + length a) × Contains keys (key_of w.1.call)

  pub own_effect : (word : ℕ) (x : Entry) → effect_by meaning u ≡ Some x → IsOwn (word, x)
  own_effect word x is =
      let r = effect_keyed meaning content settled keys p.noted p.worker.name p.worker.number p.worker.doing (item).0 x
      (all_get (IsKeyed keys) p.work.items.items p.over (item).0 (here).keyed (item).1) at_now
      (subst (λ w. effect_in meaning w.name w.number w.doing ≡ Some x) u_is is) in
      (r.0 ∙ (here).named, r.1)

  -- the player p1 whose worker has begun its item and of which an entry may wait, and the player q3 at the end
  module _ (more : List Entry) (noted : Option ℕ) (q3 : Player (Worker Op))
      (is_noted : IsNoted keys values p.worker.doing (slice_get p.work.items.items p.over) p.noted noted)
      (work3 : q3.work ≡ p.work) (noted3 : q3.noted ≡ noted)
      (part3 : part_of q3 ≡ part_after meaning (part_of p) u d)
      (waits3 : (q3.waiting ≡ waits_after e (answer m e) (effect_by meaning u) p.waiting) ⊎ (q3.waiting ≡ None)) where
    went_on : (IsAtItem meaning content (settled ++ more) (Some (item).0) noted (rests meaning d (hand_over meaning d)))
        × (u.number ≤ over_after meaning p.over (hand_over meaning d) + one_if_busy (rests meaning d (hand_over meaning d)))
    went_on =
        subst
        (λ (w : Worker Op). let x = goes_on meaning (length settled) w.doing (answer m e) in
        (IsAtItem meaning content (settled ++ more) (Some (item).0) noted (rests meaning x (hand_over meaning x)))
        × (w.number ≤ over_after meaning p.over (hand_over meaning x) + one_if_busy (rests meaning x (hand_over meaning x))))
        (sym u_is)
        (at_item meaning content settled more (item).0 p.noted noted p.worker.name p.worker.number p.over (answer m e) p.worker.doing at_now
        (noted_for meaning content settled keys values p.worker.doing (item).0 p.noted noted K.book.is
        (subst (λ o. IsNoted keys values p.worker.doing o p.noted noted) (item).1 is_noted))
        (here).number)

    pub noted_now : NotedIn meaning content (settled ++ more) noted d
    noted_now =
        subst (λ (w : Worker Op). NotedIn meaning content (settled ++ more) noted (goes_on meaning (length settled) w.doing (answer m e))) (sym u_is)
        (noted_in meaning content settled more (item).0 p.noted noted p.worker.name p.worker.number (answer m e) p.worker.doing at_now
        (noted_for meaning content settled keys values p.worker.doing (item).0 p.noted noted K.book.is
        (subst (λ o. IsNoted keys values p.worker.doing o p.noted noted) (item).1 is_noted)))

    own_waits : AllByRecursion IsOwn (pairs_waiting q3.waiting)
    own_waits = by_case waits3
      where
        by_case : (q3.waiting ≡ waits_after e (answer m e) (effect_by meaning (entered meaning (part_of p))) p.waiting) ⊎ (q3.waiting ≡ None) →
            AllByRecursion IsOwn (pairs_waiting q3.waiting)
        by_case (inl is) = subst (λ o. AllByRecursion IsOwn (pairs_waiting o)) (sym is)
            (waits_right IsOwn e (answer m e) (effect_by meaning (entered meaning (part_of p))) p.waiting (here).waits own_effect)
        by_case (inr is) = subst (λ o. AllByRecursion IsOwn (pairs_waiting o)) (sym is) tt

    pub own_kept : IsKeptPlayer meaning content (settled ++ more) keys (1 + length a) q3
    own_kept = record {
      named = ap (λ x. x.worker.name) part3 ∙ before.enters_name meaning l p.worker p.worker.doing (slice_get p.work.items.items p.over) ∙ (here).named;
      items = subst (λ w. AllByRecursion (IsRightItem meaning.layout) w.items.items) (sym work3) (here).items;
      keyed = subst (λ w. AllByRecursion (IsKeyed keys) w.items.items) (sym work3) (here).keyed;
      over = subst (λ w. q3.over ≤ length w.items.items) (sym work3) (subst (λ n. n ≤ length p.work.items.items) (sym (ap (λ x. x.over) part3))
          (over_fits meaning p.over (hand_over meaning d) (length p.work.items.items) over));
      outcomes = ap (λ x. length x.outcomes) part3 ∙ outcomes_long meaning p.outcomes.items p.over (reply_in meaning d) ∙ (here).outcomes
          ∙ ap (λ w. length w.items.items) (sym work3);
      kinds =
          ap (λ x. map is_some x.outcomes) part3
          ∙ kinds_after meaning p.outcomes.items p.work.items.items p.over (item).0 (item).1 (here).kinds (reply_in meaning d)
          (subst (λ (w : Worker Op). (r : Reply) → reply_in meaning (goes_on meaning (length settled) w.doing (answer m e)) ≡ Some r → is_call (item).0 ≡ true)
          (sym u_is)
          (replied_call meaning content settled (item).0 p.noted p.worker.name p.worker.number (answer m e) p.worker.doing at_now))
          ∙ ap (λ w. map is_call w.items.items) (sym work3);
      number = subst (λ x. x.worker.number ≤ x.over + one_if_busy x.worker.doing) (sym part3) went_on.1;
      waits = own_waits;
      at = subst (λ w. IsAtItem meaning content (settled ++ more) (slice_get w.items.items q3.over) q3.noted q3.worker.doing) (sym work3)
          (subst (λ o. IsAtItem meaning content (settled ++ more) (slice_get p.work.items.items q3.over) o q3.worker.doing) (sym noted3)
          (subst (λ x. IsAtItem meaning content (settled ++ more) (slice_get p.work.items.items x.over) noted x.worker.doing) (sym part3)
          (move_item meaning content (settled ++ more) p.work.items.items noted p.over d (hand_over meaning d)
          (subst (λ o. IsAtItem meaning content (settled ++ more) o noted (rests meaning d (hand_over meaning d))) (sym (item).1) went_on.0))));
    }

    -- all players, when the others are as before
    module _ (p1 q : Player (Worker Op)) (a2 b2 : List (Player (Worker Op))) (grown : List Entry) (changed : List (Option ℕ))
        (waiting1 : p1.waiting ≡ waits_after e (answer m e) (effect_by meaning u) p.waiting)
        (settles : Settles keys (raised e (answer m e)) (a ++ p1 ∷ b) settled values (a2 ++ q ∷ b2) grown changed)
        (long2 : length a2 ≡ length a)
        (waiting3 : q3.waiting ≡ q.waiting)
        (grows : grown ≡ settled ++ more) where
      alike : AlikeSplit a b a2 b2 p1 q
      alike = alike_at a b a2 b2 p1 q (sym long2) (settles_alike keys (raised e (answer m e)) (a ++ p1 ∷ b) settled values (a2 ++ q ∷ b2) grown changed settles)

      waited_now : Waited m e (effect_by meaning u) settled (a ++ p ∷ b) (a ++ p1 ∷ b)
      waited_now = waited m e (effect_by meaning u) settled a b p p1 waiting1 K.apart
          (before.fresh meaning l content m settled placed keys values entries reads a b p K over e asks_e)

      pub progress_now : progress_of grown (a2 ++ q3 ∷ b2) ≡ progress_after (progress_of settled (a ++ p ∷ b)) m e (effect_by meaning u)
      progress_now =
          same_progress grown a2 b2 q q3 waiting3
          ∙ settled_progress keys (raised e (answer m e)) (a ++ p1 ∷ b) settled values (a2 ++ q ∷ b2) grown changed (waited_now).once settles
          ∙ (waited_now).progress

      workers_now : ws (a2 ++ q3 ∷ b2) ≡ ws a ++ rested meaning u d ∷ ws b
      workers_now =
          ws_joined a2 b2 q3
          ∙ ap (λ ps. workers_of ps ++ q3.worker ∷ ws b2) (alike_parts a a2 (alike).front)
          ∙ ap (λ ps. ws a ++ q3.worker ∷ workers_of ps) (alike_parts b b2 (alike).back)
          ∙ ap (λ x. ws a ++ x.worker ∷ ws b) part3

      pub parts_now : map part_of (a2 ++ q3 ∷ b2) ≡ map part_of a ++ part_after meaning (part_of p) u d ∷ map part_of b
      parts_now =
          parts_joined a2 b2 q3
          ∙ ap (λ ps. ps ++ part_of q3 ∷ map part_of b2) (alike_parts a a2 (alike).front)
          ∙ ap (λ ps. map part_of a ++ part_of q3 ∷ ps) (alike_parts b b2 (alike).back)
          ∙ ap (λ x. map part_of a ++ x ∷ map part_of b) part3

      holds_now : (placed2 : List Placed) → meaning.holds (moment_of (run_of content (after m e) grown placed2 (a2 ++ q3 ∷ b2)) K.words K.free)
      holds_now placed2 =
          subst (λ P. meaning.holds (record {
            opening = record { words = K.words; content = content; free = K.free };
            state = after m e;
            progress = P;
            workers =
                ws (a2 ++ q3 ∷ b2);
          })) (sym progress_now)
          (subst (λ us. meaning.holds (record {
            opening = record { words = K.words; content = content; free = K.free };
            state = after m e;
            progress =
                progress_after (progress_of settled (a ++ p ∷ b)) m e (effect_by meaning u);
            workers = us;
          })) (sym workers_now)
          (leave_holds meaning l (moment_after meaning (before.M meaning l content m settled placed keys values entries reads a b p K) e (ws a) u (ws b)) (ws a)
          (ws b) u.name u.number d
          (before.holds_after meaning l content m settled placed keys values entries reads a b p K over e asks_e)))

      each_now : AreKeptFrom meaning content (settled ++ more) keys 1 (a2 ++ q3 ∷ b2)
      each_now =
          let k = kept_at meaning content settled keys 1 a b p K.each in
          kept_put meaning content (settled ++ more) keys 1 a2 b2 q3 (record {
            front = kept_lasts meaning content settled (settled ++ more) keys (player_lasts meaning content settled more keys) 1 a a2 (alike).front k.front;
            here = subst (λ n. IsKeptPlayer meaning content (settled ++ more) keys (1 + n) q3) (sym long2) own_kept;
            back = subst (λ n. AreKeptFrom meaning content (settled ++ more) keys (1 + n + 1) b2) (sym long2)
                (kept_lasts meaning content settled (settled ++ more) keys (player_lasts meaning content settled more keys) (1 + length a + 1) b b2 (alike).back
                k.back);
          })

      items_now : items_of (a2 ++ q3 ∷ b2) ≡ items_of (a ++ p ∷ b)
      items_now =
          let i = items_joined a2 b2 q3 in
          let j = items_joined a b p in
          let f = alike_items a a2 (alike).front in
          let g = alike_items b b2 (alike).back in
          let w = ap (λ x. length x.items.items) work3 in
          omega (arith, i, j, f, g, w)

      length_now : length (a2 ++ q3 ∷ b2) ≡ length (a ++ p ∷ b)
      length_now =
          let f = alike_length b b2 (alike).back in
          omega (arith, f, long2, length-append a2 (q3 ∷ b2), length-append a (p ∷ b))

      pub kept_now : (placed2 : List Placed) (entries2 reads2 : ℕ) → IsRawEvent e → entries ≤ entries2 → reads ≤ reads2 →
          length placed2 + p.over ≤ length placed + q3.over →
          AllByRecursion (IsRightAt content grown) placed2 → IsKept meaning (run_of content (after m e) grown placed2 (a2 ++ q3 ∷ b2)) (a2 ++ q3 ∷ b2) keys
          changed entries2 reads2
      kept_now placed2 entries2 reads2 raw entries_grow reads_grow placed_fits all_right = record {
        words = K.words;
        free = K.free;
        holds = holds_now placed2;
        workers = length_now ∙ K.workers;
        each = subst (λ es. AreKeptFrom meaning content es keys 1 (a2 ++ q3 ∷ b2)) (sym grows) each_now;
        apart = subst AreApart (sym (same_waits a2 b2 q q3 waiting3)) (settled_once keys (raised e (answer m e)) (a ++ p1 ∷ b) settled values (a2 ++ q ∷ b2)
            grown changed (waited_now).once settles);
        words_raw = (raw_after m e raw K.words_raw K.shadows_raw).0;
        shadows_raw = (raw_after m e raw K.words_raw K.shadows_raw).1;
        book = settles_book content keys (raised e (answer m e)) (a ++ p1 ∷ b) settled values (a2 ++ q ∷ b2) grown changed settles K.book;
        most = (let i = items_now in let k = K.most in omega (arith, i, k));
        entries_room = (let i = items_now in let n = length_now in let k = K.entries_room in omega (arith, i, n, k));
        reads_room = (let i = items_now in let k = K.reads_room in omega (arith, i, k));
        placed = (
            let i = over_joined a2 b2 q3 in
            let j = over_joined a b p in
            let f = alike_over a a2 (alike).front in
            let g = alike_over b b2 (alike).back in
            let k = K.placed in
            omega (arith, i, j, f, g, k, placed_fits)
            );
        right = all_right;
      }
