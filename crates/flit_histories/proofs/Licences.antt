-- A worker's call is licensed at each moment of a run, from the count of its turns.
use Rattle.std.proofs.Common.{◌≡◌, ◌≢◌, ℕ, ◌+◌, ◌<◌, List, ◌∷◌, ◌++◌, length, refl, sym, ◌∙◌, ap, subst, arith, Option, Some, None, slice_get}
use Rattle.std.proofs.lemmas.Option.{none-some}
use Rattle.flit_words.specs.declared.layouts.Kind.{Kind}
use Rattle.flit_words.specs.declared.layouts.Kind.TheVariants.{List as List_kind, Hash, Tree}
use Rattle.flit_model.specs.Effects.{answer}
use Rattle.flit_model.specs.declared.calls.Call.{Call}
use Rattle.flit_model.specs.declared.calls.Item.{Item}
use Rattle.flit_model.specs.declared.calls.Item.TheVariants.{Call as Call_item, Evict as Evict_item}
use Rattle.flit_model.specs.declared.calls.Placed.{Placed}
use Rattle.flit_model.specs.declared.calls.Reply.{Reply}
use Rattle.flit_model.specs.declared.calls.Tally.{Tally}
use Rattle.flit_model.specs.declared.events.Event.{Event}
use Rattle.flit_pv.specs.declared.hands.Hand.{Hand}
use Rattle.flit_pv.specs.declared.evicts.Evict.{Evict}
use Rattle.flit_pv.specs.declared.evicts.Evicting.{Evicting as Evict_at}
use Rattle.flit_pv.specs.declared.evicts.Evicting.TheVariants.{Reads, WritesBack, Done}
use Rattle.flit_pv.specs.Evicts.{evict_started, evict_asked, evict_takes}
use Rattle.flit_structure.specs.declared.workers.Doing.{Doing}
use Rattle.flit_structure.specs.declared.workers.Doing.TheVariants.{Idle, Busy, Evicting}
use Rattle.flit_structure.specs.declared.workers.Worker.{Worker}
use Rattle.flit_structure.specs.Moments.{Moment, IsAmong, with_workers, idle, busy, sweeper}
use Rattle.flit_structure.specs.Meanings.{Meaning, asks, goes_on, moment_after, replied, reply_at, beginning, evicting, making, finishing, evicted}
use Rattle.flit_structure.specs.Lawful.{Lawful, AreSearchesBounded, IsBelowTop, IsTryBounded}
use Rattle.flit_sched.specs.Runs.{Part, Run, IsPart, moment_of, workers_of}
use Rattle.flit_sched.specs.Openings.{IsRightItem}
use Rattle.flit_sched.specs.Turns.{enters, entered, rests, hand_over, hand_replied, hand_evicted, tally_in}
use Rattle.flit_sched.specs.Views.{OfWorker}
use Rattle.flit_sched.proofs.StepLaws.{at, may_start}
use Rattle.flit_sched.proofs.KeptLaws.{all_get}
use Rattle.flit_sched.proofs.SplitLists.{same_split}
use Rattle.flit_histories.specs.Counts.{Count, count_at, made_after, count_made, IsWithinBounds}
use Rattle.flit_histories.proofs.PartLists.{AllFrom, all_from_at, workers_joined}
use Rattle.flit_histories.proofs.TurnedRuns.{Makes, turned_run, part_made, doing_made}
use Rattle.flit_histories.proofs.SoundRuns as sound
use Rattle.flit_histories.proofs.SoundRuns.{IsSound, IsSoundPart}
use Rattle.flit_histories.proofs.LedParts.{elsewhere}

-- two tallies agree in what bounds the searches
pub record AreAlikeIn (s t : Tally) : Type 0 where
  pub tries : t.tries ≡ s.tries
  pub failed : t.failed ≡ s.failed
  pub helped : t.helped ≡ s.helped

pub alike_bounded : (k : Kind) (s t : Tally) → AreAlikeIn s t → AreSearchesBounded k s t
alike_bounded List_kind s t h = let x = h.tries in let y = h.failed in omega (arith, x, y)
alike_bounded Hash s t h = let x = h.tries in let y = h.failed in omega (arith, x, y)
alike_bounded Tree s t h = let x = h.tries in let y = h.failed in let z = h.helped in omega (arith, x, y, z)

pub none_tried : (bound : Option ℕ) → IsTryBounded bound 0 None
none_tried None = tt
none_tried (Some n) = omega arith

evict_alike : (s : Tally) (w : Evict_at) (m : Evict) (told : ℕ) → AreAlikeIn s m.hand.tally → AreAlikeIn s (evict_takes w m told).hand.tally
evict_alike s Reads m told h = h
evict_alike s (WritesBack raw) m told h = record { tries = h.tries; failed = h.failed; helped = h.helped }
evict_alike s Done m told h = h

module _ {Op : Type 0} (meaning : Meaning Op) where
  -- as long as no count of the tally is at its top
  abbrev pub IsRestedWithin : Count → Hand → Type 0
  IsRestedWithin c hand = IsBelowTop hand.tally → AreSearchesBounded meaning.layout.kind c.start hand.tally × IsTryBounded meaning.bound c.made None

  abbrev pub IsLicensed : Moment Op → Count → Doing Op → Type 0
  IsLicensed M c (Idle hand) = IsRestedWithin c hand
  IsLicensed M c (Busy op call begun) = meaning.licensed M op c.start c.made
  IsLicensed M c (Evicting evict) = AreAlikeIn c.start evict.hand.tally × (c.made ≡ 0)

  asked_none : (op : Op) (reply : Reply) (o : Option Event) → meaning.asked op ≡ o → reply_at o (meaning.reply op) ≡ Some reply → meaning.asked op ≡ None
  asked_none op reply None is h = is
  asked_none op reply (Some e) is h = absurd (none-some reply h)

  module _ (l : Lawful meaning) where
    -- what it says
    pub within_bounds : (M : Moment Op) (c : Count) (d : Doing Op) → IsLicensed M c d → IsBelowTop (tally_in meaning d) → IsWithinBounds meaning c d
    within_bounds M c (Idle hand) h low = record { searches = (h low).0; events = (h low).1 }
    within_bounds M c (Busy op call begun) h low = let b = l.licensed_means M op c.start c.made h low in record { searches = b.0; events = b.1 }
    within_bounds M c (Evicting evict) h low = record { searches = alike_bounded meaning.layout.kind c.start evict.hand.tally h.0; events = tt }

    -- ---- its own turn: it begins its item, makes its event, and is done with the item

    own_enters : (M : Moment Op) (a b : List (Worker Op)) (name number : ℕ) (doing : Doing Op) (item : Item) (c : Count) →
        IsRightItem meaning.layout item → number < 4294967295 → meaning.holds (with_workers M (a ++ at name number doing ∷ b)) →
        IsLicensed (with_workers M (a ++ at name number doing ∷ b)) c doing →
        let u = enters meaning (at name number doing) doing (Some item) in
        IsLicensed (with_workers M (a ++ u ∷ b)) (count_at doing c) u.doing
    own_enters M a b name number (Idle hand) (Call_item call) c right small holds h =
        l.licensed_first M a name number hand call b (may_start meaning l M a b name number hand call right small holds) holds
    own_enters M a b name number (Idle hand) (Evict_item word) c right small holds h = (record { tries = refl; failed = refl; helped = refl }, refl)
    own_enters M a b name number (Busy op call begun) item c right small holds h = h
    own_enters M a b name number (Evicting evict) item c right small holds h = h

    own_makes : (M : Moment Op) (a b : List (Worker Op)) (name number : ℕ) (doing : Doing Op) (e : Event) (c : Count) → asks meaning doing ≡ Some e →
        meaning.holds (with_workers M (a ++ at name number doing ∷ b)) → IsLicensed (with_workers M (a ++ at name number doing ∷ b)) c doing →
        let d = goes_on meaning (length M.progress.settled) doing (answer M.state e) in
        IsLicensed (moment_after meaning M e a (at name number doing) b) (record { start = c.start; made = made_after meaning doing d c.made }) d
    own_makes M a b name number (Idle hand) e c asks_e holds h = absurd (none-some e asks_e)
    own_makes M a b name number (Busy op call begun) e c asks_e holds h =
        l.licensed_own M a name number op call begun b e c.start c.made asks_e holds h
    own_makes M a b name number (Evicting evict) e c asks_e holds h = (evict_alike c.start evict.at evict (answer M.state e) h.0, h.1)

    own_leaves : (M : Moment Op) (a b : List (Worker Op)) (name number : ℕ) (doing : Doing Op) (c : Count) →
        IsLicensed (with_workers M (a ++ at name number doing ∷ b)) c doing →
        let d = rests meaning doing (hand_over meaning doing) in
        IsLicensed (with_workers M (a ++ at name number d ∷ b)) c d
    own_leaves M a b name number (Idle hand) c h = h
    own_leaves M a b name number (Busy op call begun) c h = by_reply (replied meaning op) refl
      where
        by_reply : (o : Option Reply) → replied meaning op ≡ o →
            let d = rests meaning (Busy op call begun) (hand_replied meaning op o) in
            IsLicensed (with_workers M (a ++ at name number d ∷ b)) c d
        by_reply None is = h
        by_reply (Some reply) is =
            λ low. let m = l.licensed_means (with_workers M (a ++ at name number (Busy op call begun) ∷ b)) op c.start c.made h low in
            (m.0, subst (IsTryBounded meaning.bound c.made) (asked_none op reply (meaning.asked op) refl is) m.1)
    own_leaves M a b name number (Evicting evict) c h = by_event (evict_asked evict)
      where
        by_event : (o : Option Event) → let d = rests meaning (Evicting evict) (hand_evicted meaning evict o) in
            IsLicensed (with_workers M (a ++ at name number d ∷ b)) c d
        by_event None = λ low. (
          alike_bounded meaning.layout.kind c.start evict.hand.tally h.0,
          subst (λ n. IsTryBounded meaning.bound n None) (sym h.1) (none_tried meaning.bound),
        )
        by_event (Some e) = h

    -- ---- the turn of another: the call goes on being licensed

    module _ (other : ℕ) (n : ℕ) (op : Op) (call : Call) (begun : Option ℕ) (s : Tally) (k : ℕ) (a b : List (Worker Op))
        (among : (x : Worker Op) → IsAmong (a ++ x ∷ b) (busy other n op call begun)) (name number : ℕ) (apart : name ≢ other) where
      not_it : Some name ≢ Some other
      not_it e = apart (cc)

      kept_enters : (M : Moment Op) (doing : Doing Op) (item : Item) → IsRightItem meaning.layout item → number < 4294967295 →
          meaning.holds (with_workers M (a ++ at name number doing ∷ b)) → meaning.licensed (with_workers M (a ++ at name number doing ∷ b)) op s k →
          meaning.licensed (with_workers M (a ++ enters meaning (at name number doing) doing (Some item) ∷ b)) op s k
      kept_enters M (Idle hand) (Call_item c) right small holds h =
          l.licensed_kept (with_workers M (a ++ idle name number hand ∷ b)) (with_workers M (a ++ busy name (number + 1) (meaning.begun hand c) c None ∷ b))
          (Some name) other n op call begun s k
          (beginning M a name number hand c b (may_start meaning l M a b name number hand c right small holds)) not_it (among (idle name number hand)) holds h
      kept_enters M (Idle hand) (Evict_item word) right small holds h =
          l.licensed_kept (with_workers M (a ++ idle name number hand ∷ b)) (with_workers M (a ++ sweeper name number (evict_started hand word) ∷ b))
          (Some name) other n op call begun s k
          (evicting M a name number hand word b right) not_it (among (idle name number hand)) holds h
      kept_enters M (Busy o c first) item right small holds h = h
      kept_enters M (Evicting evict) item right small holds h = h

      kept_makes : (M : Moment Op) (doing : Doing Op) (e : Event) → asks meaning doing ≡ Some e →
          meaning.holds (with_workers M (a ++ at name number doing ∷ b)) → meaning.licensed (with_workers M (a ++ at name number doing ∷ b)) op s k →
          meaning.licensed (moment_after meaning M e a (at name number doing) b) op s k
      kept_makes M doing e asks_e holds h =
          l.licensed_kept (with_workers M (a ++ at name number doing ∷ b)) (moment_after meaning M e a (at name number doing) b)
          (Some name) other n op call begun s k
          (making M a (at name number doing) b e asks_e) not_it (among (at name number doing)) holds h

      kept_leaves : (M : Moment Op) (doing : Doing Op) → meaning.holds (with_workers M (a ++ at name number doing ∷ b)) →
          meaning.licensed (with_workers M (a ++ at name number doing ∷ b)) op s k →
          meaning.licensed (with_workers M (a ++ at name number (rests meaning doing (hand_over meaning doing)) ∷ b)) op s k
      kept_leaves M (Idle hand) holds h = h
      kept_leaves M (Busy o c first) holds h = by_reply (replied meaning o) refl
        where
          by_reply : (x : Option Reply) → replied meaning o ≡ x →
              meaning.licensed (with_workers M (a ++ at name number (rests meaning (Busy o c first) (hand_replied meaning o x)) ∷ b)) op s k
          by_reply None is = h
          by_reply (Some reply) is =
              l.licensed_kept (with_workers M (a ++ busy name number o c first ∷ b)) (with_workers M (a ++ idle name number (meaning.finished o) ∷ b))
              (Some name) other n op call begun s k
              (finishing M a name number o c first reply b is) not_it (among (busy name number o c first)) holds h
      kept_leaves M (Evicting evict) holds h = by_event (evict_asked evict)
        where
          by_event : (x : Option Event) →
              meaning.licensed (with_workers M (a ++ at name number (rests meaning (Evicting evict) (hand_evicted meaning evict x)) ∷ b)) op s k
          by_event None =
              l.licensed_kept (with_workers M (a ++ sweeper name number evict ∷ b)) (with_workers M (a ++ idle name number evict.hand ∷ b))
              (Some name) other n op call begun s k
              (evicted M a name number evict b) not_it (among (sweeper name number evict)) holds h
          by_event (Some e) = h

  -- a sound run in which a worker has its licence, by its count
  pub record HasLicence (worker : ℕ) (c : Count) (r : Run Op) : Type 0 where
    pub sound : IsSound meaning r
    pub licence : OfWorker r worker (λ p. IsLicensed (moment_of r sound.words sound.free) c p.worker.doing)

module _ {Op : Type 0} (meaning : Meaning Op) (l : Lawful meaning) (r : Run Op) (a : List (Part Op)) (p : Part Op) (b : List (Part Op)) (e : Event)
    (reads : List Placed)
    (t : Makes meaning r a p b e reads) (K : IsSound meaning r) where
  abbrev M : Moment Op
  M = moment_of r K.words K.free

  abbrev after_it : IsSound meaning (turned_run meaning r a p b e reads)
  after_it = record {
    words = K.words;
    free = K.free;
    holds = sound.holds_after meaning l r a p b e reads t K;
    each = (sound.sound_after meaning l r a p b e reads t K).each;
    right = (sound.sound_after meaning l r a p b e reads t K).right;
  }

  abbrev wa : List (Worker Op)
  wa = workers_of a

  abbrev wb : List (Worker Op)
  wb = workers_of b

  pub it : (i : Item) × (slice_get p.items p.over ≡ Some i)
  it = sound.item meaning l r a p b e reads t K

  own_part : IsSoundPart meaning (1 + length a) p
  own_part = sound.here meaning l r a p b e reads t K

  pub right_item : IsRightItem meaning.layout (it).0
  right_item = all_get (IsRightItem meaning.layout) p.items p.over (it).0 (own_part).items (it).1

  split_is : workers_of r.parts ≡ wa ++ p.worker ∷ wb
  split_is = ap workers_of t.is ∙ workers_joined a b p

  pub holds_here : meaning.holds (with_workers M (wa ++ p.worker ∷ wb))
  holds_here = subst (λ us. meaning.holds (with_workers M us)) split_is K.holds

  abbrev u : Worker Op
  u = entered meaning p

  pub u_is : u ≡ enters meaning p.worker p.worker.doing (Some (it).0)
  u_is = ap (λ o. enters meaning p.worker p.worker.doing o) (it).1

  own_step : (c : Count) → IsLicensed meaning M c p.worker.doing →
      IsLicensed meaning (moment_of (turned_run meaning r a p b e reads) K.words K.free) (count_made meaning r e p c) (part_made meaning r p e).worker.doing
  own_step c h =
      let entered_it : IsLicensed meaning (with_workers M (wa ++ u ∷ wb)) (count_at p.worker.doing c) u.doing =
      subst (λ w. IsLicensed meaning (with_workers M (wa ++ w ∷ wb)) (count_at p.worker.doing c) w.doing) (sym u_is)
      (own_enters meaning l M wa wb p.worker.name p.worker.number p.worker.doing (it).0 c right_item (sound.small meaning l r a p b e reads t K) holds_here
      (subst (λ us. IsLicensed meaning (with_workers M us) c p.worker.doing) split_is h)) in
      let made_it = own_makes meaning l M wa wb u.name u.number u.doing e (count_at p.worker.doing c) t.asks
      (sound.holds_entered meaning l r a p b e reads t K) entered_it in
      subst (λ us. IsLicensed meaning (with_workers (moment_after meaning M e wa u wb) us) (count_made meaning r e p c) (part_made meaning r p e).worker.doing)
      (sym (workers_joined a b (part_made meaning r p e)))
      (own_leaves meaning l (moment_after meaning M e wa u wb) wa wb u.name u.number (doing_made meaning r p e) (count_made meaning r e p c) made_it)

  -- another worker, which has a call under way
  other_step : (other : ℕ) (front : List (Part Op)) (q : Part Op) (back : List (Part Op)) → IsPart r other front q back → other ≢ 1 + length a → (c : Count) →
      (d : Doing Op) → q.worker.doing ≡ d → IsLicensed meaning M c d →
      IsLicensed meaning (moment_of (turned_run meaning r a p b e reads) K.words K.free) c d
  other_step other front q back is apart c (Idle hand) at_d h = h
  other_step other front q back is apart c (Evicting evict) at_d h = h
  other_step other front q back is apart c (Busy op call begun) at_d h =
      subst (λ us. meaning.licensed (with_workers (moment_after meaning M e wa u wb) us) op c.start c.made)
      (sym (workers_joined a b (part_made meaning r p e)))
      (kept_leaves meaning l other q.worker.number op call begun c.start c.made wa wb among u.name u.number u_apart (moment_after meaning M e wa u wb)
      (doing_made meaning r p e) (sound.holds_made meaning l r a p b e reads t K)
      (kept_makes meaning l other q.worker.number op call begun c.start c.made wa wb among u.name u.number u_apart M u.doing e t.asks
      (sound.holds_entered meaning l r a p b e reads t K)
      (subst (λ w. meaning.licensed (with_workers M (wa ++ w ∷ wb)) op c.start c.made) (sym u_is)
      (kept_enters meaning l other q.worker.number op call begun c.start c.made wa wb among p.worker.name p.worker.number p_apart M p.worker.doing (it).0 right_item
      (sound.small meaning l r a p b e reads t K) holds_here
      (subst (λ us. meaning.licensed (with_workers M us) op c.start c.made) split_is h)))))
    where
      far : length front ≢ length a
      far same = let k = is.number in apart (omega (arith, k, same))

      named : q.worker.name ≡ other
      named =
          let m = (all_from_at (IsSoundPart meaning) 1 front back q (subst (AllFrom (IsSoundPart meaning) 1) is.is K.each)).named in
          let k = is.number in
          omega (arith, m, k)

      it_is : q.worker ≡ busy other q.worker.number op call begun
      it_is = ap {B = Worker Op} (λ x. record { name = x; number = q.worker.number; doing = q.worker.doing }) named
          ∙ ap {B = Worker Op} (λ x. record { name = other; number = q.worker.number; doing = x }) at_d

      p_apart : p.worker.name ≢ other
      p_apart same = apart (sym same ∙ (own_part).named)

      u_apart : u.name ≢ other
      u_apart same = apart (sym same ∙ sound.u_named meaning l r a p b e reads t K)

      among : (x : Worker Op) → IsAmong (wa ++ x ∷ wb) (busy other q.worker.number op call begun)
      among x =
          let y = elsewhere front back a b q p (record p { worker = x }) (sym is.is ∙ t.is) far in (
            workers_of y.0,
            workers_of y.1,
            sym (workers_joined a b (record p { worker = x })) ∙ ap workers_of y.2 ∙ workers_joined y.0 y.1 q
                ∙ ap (λ w. workers_of y.0 ++ w ∷ workers_of y.1) it_is,
          )

  pub licence_own : (worker : ℕ) → worker ≡ 1 + length a → (c : Count) → IsLicensed meaning M c p.worker.doing →
      HasLicence meaning worker (count_made meaning r e p c) (turned_run meaning r a p b e reads)
  licence_own worker at_own c h = record { sound = after_it; licence = λ front x back is. here_is front x back is }
    where
      here_is : (front : List (Part Op)) (x : Part Op) (back : List (Part Op)) → IsPart (turned_run meaning r a p b e reads) worker front x back →
          IsLicensed meaning (moment_of (turned_run meaning r a p b e reads) K.words K.free) (count_made meaning r e p c) x.worker.doing
      here_is front x back is =
          let same = (same_split a b front back (part_made meaning r p e) x is.is (let k = is.number in omega (arith, k, at_own))).here in
          subst (λ y. IsLicensed meaning (moment_of (turned_run meaning r a p b e reads) K.words K.free) (count_made meaning r e p c) y.worker.doing) same
          (own_step c h)

  pub licence_other : (worker : ℕ) → worker ≢ 1 + length a → (c : Count) → OfWorker r worker (λ q. IsLicensed meaning M c q.worker.doing) →
      HasLicence meaning worker c (turned_run meaning r a p b e reads)
  licence_other worker apart c h = record { sound = after_it; licence = λ front x back is. here_is front x back is }
    where
      here_is : (front : List (Part Op)) (x : Part Op) (back : List (Part Op)) → IsPart (turned_run meaning r a p b e reads) worker front x back →
          IsLicensed meaning (moment_of (turned_run meaning r a p b e reads) K.words K.free) c x.worker.doing
      here_is front x back is =
          let y = elsewhere front back a b x (part_made meaning r p e) p (sym is.is) (λ same. (let k = is.number in apart (omega (arith, k, same)))) in
          let before_it : IsPart r worker y.0 x y.1 = record { is = t.is ∙ y.2; number = is.number ∙ ap (λ k. k + 1) (sym y.3) } in
          other_step worker y.0 x y.1 before_it apart c x.worker.doing refl (h y.0 x y.1 before_it)
