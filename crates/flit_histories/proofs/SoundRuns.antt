-- A run whose moment holds, and whose parts agree with it; a turn keeps this.
use Rattle.std.proofs.Common.{◌≡◌, ℕ, ◌+◌, ◌<◌, ◌≤◌, List, ◌∷◌, ◌++◌, length, take, refl, sym, ◌∙◌, ap, subst, arith, Option, Some, None, IsSome, is_some, slice_get}
use Rattle.std.specs.List.{AllByRecursion}
use Rattle.flit_model.specs.Effects.{answer}
use Rattle.flit_model.specs.Histories.{IsRightAt}
use Rattle.flit_model.specs.declared.calls.Call.{Call}
use Rattle.flit_model.specs.declared.calls.Item.{Item}
use Rattle.flit_model.specs.declared.calls.Item.TheVariants.{Call as Call_item, Evict as Evict_item}
use Rattle.flit_model.specs.declared.calls.Placed.{Placed}
use Rattle.flit_model.specs.declared.calls.Reply.{Reply}
use Rattle.flit_model.specs.declared.events.Event.{Event}
use Rattle.flit_pv.specs.declared.hands.Hand.{Hand}
use Rattle.flit_pv.specs.declared.evicts.Evict.{Evict}
use Rattle.flit_pv.specs.Evicts.{evict_asked, evict_taken, evict_started}
use Rattle.flit_structure.specs.declared.workers.Doing.{Doing}
use Rattle.flit_structure.specs.declared.workers.Doing.TheVariants.{Idle, Busy, Evicting}
use Rattle.flit_structure.specs.declared.workers.Worker.{Worker}
use Rattle.flit_structure.specs.Moments.{Moment, with_workers}
use Rattle.flit_structure.specs.Meanings.{Meaning, effect_by, goes_on, moment_after, replied}
use Rattle.flit_structure.specs.Lawful.{Lawful}
use Rattle.flit_structure.proofs.Names.{all_both, all_map}
use Rattle.flit_structure.proofs.Growing.{settles_one, gains_one, Gains}
use Rattle.flit_structure.proofs.Positions.{right_later}
use Rattle.flit_sched.specs.Runs.{Part, Run, workers_of, moment_of}
use Rattle.flit_sched.specs.Turns.{enters, entered, rests, hand_over, hand_replied, hand_evicted, over_after}
use Rattle.flit_sched.specs.Openings.{IsRightItem}
use Rattle.flit_sched.specs.Kept.{one_if_busy}
use Rattle.flit_sched.proofs.StepLaws.{at, makes as makes_event, enter_holds, leave_holds}
use Rattle.flit_sched.proofs.BeforeLaws.{enters_name}
use Rattle.flit_sched.proofs.KeptLaws.{get_there, all_get}
use Rattle.flit_histories.specs.Calls.{calls_in}
use Rattle.flit_histories.proofs.Numbers.{calls_next, calls_short}
use Rattle.flit_histories.proofs.PartLists.{AllFrom, all_from_at, all_from_put, workers_joined}
use Rattle.flit_histories.proofs.TurnedRuns.{Makes, ReadNow, reads_now, turned_run, part_made, doing_made, progress_made}

module _ {Op : Type 0} (meaning : Meaning Op) where
  -- a worker that isn't idle is at its next item, and has something to do
  abbrev pub IsAtWork : Option Item → Doing Op → Type 0
  IsAtWork item (Idle hand) = Unit {0}
  IsAtWork item (Busy op call None) = ⊥
  IsAtWork item (Busy op call (Some n)) = (item ≡ Some (Call_item call)) × (replied meaning op ≡ None)
  IsAtWork item (Evicting evict) = (word : ℕ) × (item ≡ Some (Evict_item word)) × IsSome (evict_asked evict)

  pub record IsSoundPart (name : ℕ) (p : Part Op) : Type 0 where
    pub named : p.worker.name ≡ name
    pub items : AllByRecursion (IsRightItem meaning.layout) p.items
    pub most : length p.items ≤ 1048576
    pub fits : p.over ≤ length p.items
    pub number : p.worker.number ≡ calls_in (take p.over p.items) + one_if_busy p.worker.doing
    pub at_work : IsAtWork (slice_get p.items p.over) p.worker.doing

  -- what is true of a worker at its item when its item may be over
  abbrev pub IsAfter : List Item → ℕ → ℕ → Doing Op → Option Hand → Type 0
  IsAfter items over number d o =
      (IsAtWork (slice_get items (over_after meaning over o)) (rests meaning d o))
      × (number ≡ calls_in (take (over_after meaning over o) items) + one_if_busy (rests meaning d o))

  busy_on : (items : List Item) (over number : ℕ) (op : Op) (call : Call) (n : ℕ) → slice_get items over ≡ Some (Call_item call) →
      number ≡ calls_in (take over items) + 1 →
      (o : Option Reply) → replied meaning op ≡ o → IsAfter items over number (Busy op call (Some n)) (hand_replied meaning op o)
  busy_on items over number op call n is count None r = ((is, r), count)
  busy_on items over number op call n is count (Some reply) r = (tt, (let c = calls_next items over (Call_item call) is in omega (arith, c, count)))

  evict_on : (items : List Item) (over number : ℕ) (evict : Evict) (word : ℕ) → slice_get items over ≡ Some (Evict_item word) →
      number ≡ calls_in (take over items) →
      (o : Option Event) → evict_asked evict ≡ o → IsAfter items over number (Evicting evict) (hand_evicted meaning evict o)
  evict_on items over number evict word is count None r = (tt, (let c = calls_next items over (Evict_item word) is in omega (arith, c, count)))
  evict_on items over number evict word is count (Some e) r = ((word, is, ap is_some r), omega (arith, count))

  pub moves : (items : List Item) (over : ℕ) (i : Item) (name number settled told : ℕ) (doing : Doing Op) → slice_get items over ≡ Some i →
      IsAtWork (Some i) doing → number ≡ calls_in (take over items) + one_if_busy doing →
      let u = enters meaning (at name number doing) doing (Some i) in
      let d = goes_on meaning settled u.doing told in
      IsAfter items over u.number d (hand_over meaning d)
  moves items over (Call_item call) name number settled told (Idle hand) is h count =
      busy_on items over (number + 1) (meaning.taken (meaning.begun hand call) told) call settled is (omega (arith, count))
      (replied meaning (meaning.taken (meaning.begun hand call) told)) refl
  moves items over (Evict_item word) name number settled told (Idle hand) is h count =
      evict_on items over number (evict_taken (evict_started hand word) told) word is (omega (arith, count))
      (evict_asked (evict_taken (evict_started hand word) told)) refl
  moves items over i name number settled told (Busy op call None) is h count = absurd h
  moves items over i name number settled told (Busy op call (Some n)) is h count =
      busy_on items over number (meaning.taken op told) call n (is ∙ h.0) count (replied meaning (meaning.taken op told)) refl
  moves items over i name number settled told (Evicting evict) is h count =
      evict_on items over number (evict_taken evict told) h.0 (is ∙ h.1) (omega (arith, count)) (evict_asked (evict_taken evict told)) refl

  -- a worker that has a call under way when its turn begins is at its next item
  pub at_call : (items : List Item) (over : ℕ) (i : Item) (name number : ℕ) (doing : Doing Op) (op : Op) (call : Call) (begun : Option ℕ) →
      slice_get items over ≡ Some i → IsAtWork (Some i) doing → number ≡ calls_in (take over items) + one_if_busy doing →
      let u = enters meaning (at name number doing) doing (Some i) in
      u.doing ≡ Busy op call begun → (slice_get items over ≡ Some (Call_item call)) × (u.number ≡ calls_in (take over items) + 1)
  at_call items over (Call_item c) name number (Idle hand) op call begun is h count e = let same : c ≡ call = cc in
      (is ∙ ap (λ x. Some (Call_item x)) same, omega (arith, count))
  at_call items over (Evict_item word) name number (Idle hand) op call begun is h count e = absurd (cc)
  at_call items over i name number (Busy x c None) op call begun is h count e = absurd h
  at_call items over i name number (Busy x c (Some n)) op call begun is h count e = let same : c ≡ call = cc in
      (is ∙ h.0 ∙ ap (λ x. Some (Call_item x)) same, count)
  at_call items over i name number (Evicting evict) op call begun is h count e = absurd (cc)

  -- one that is at an Evict is at no call
  pub at_evict : (items : List Item) (over : ℕ) (i : Item) (name number : ℕ) (doing : Doing Op) (evict : Evict) (call : Call) → slice_get items over ≡ Some i →
      IsAtWork (Some i) doing →
      (enters meaning (at name number doing) doing (Some i)).doing ≡ Evicting evict → slice_get items over ≡ Some (Call_item call) → ⊥
  at_evict items over (Call_item c) name number (Idle hand) evict call is h e also = absurd (cc)
  at_evict items over (Evict_item word) name number (Idle hand) evict call is h e also = absurd (cc)
  at_evict items over i name number (Busy x c None) evict call is h e also = absurd h
  at_evict items over i name number (Busy x c (Some n)) evict call is h e also = absurd (cc)
  at_evict items over i name number (Evicting x) evict call is h e also = let q = h.1 in absurd (cc)

  pub over_fits : (over : ℕ) (o : Option Hand) (n : ℕ) → over < n → over_after meaning over o ≤ n
  over_fits over None n h = omega arith
  over_fits over (Some hand) n h = omega arith

module _ {Op : Type 0} (meaning : Meaning Op) where
  pub record IsSound (r : Run Op) : Type 0 where
    pub words : List ℕ
    pub free : List ℕ
    pub holds : meaning.holds (moment_of r words free)
    pub each : AllFrom (IsSoundPart meaning) 1 r.parts
    pub right : AllByRecursion (IsRightAt r.content r.progress.settled) r.placed

module _ {Op : Type 0} (meaning : Meaning Op) (l : Lawful meaning) (r : Run Op) (a : List (Part Op)) (p : Part Op) (b : List (Part Op)) (e : Event)
    (reads : List Placed)
    (t : Makes meaning r a p b e reads) (K : IsSound meaning r) where
  abbrev pub u : Worker Op
  u = entered meaning p

  abbrev pub d : Doing Op
  d = doing_made meaning r p e

  abbrev pub M : Moment Op
  M = moment_of r K.words K.free

  pub here : IsSoundPart meaning (1 + length a) p
  here = all_from_at (IsSoundPart meaning) 1 a b p (subst (AllFrom (IsSoundPart meaning) 1) t.is K.each)

  abbrev pub item : (i : Item) × (slice_get p.items p.over ≡ Some i)
  item = get_there p.items p.over t.more

  u_is : u ≡ enters meaning p.worker p.worker.doing (Some (item).0)
  u_is = ap (λ o. enters meaning p.worker p.worker.doing o) (item).1

  work_now : IsAtWork meaning (Some (item).0) p.worker.doing
  work_now = subst (λ o. IsAtWork meaning o p.worker.doing) (item).1 (here).at_work

  busy_most : (x : Doing Op) → one_if_busy x ≤ 1
  busy_most (Idle hand) = omega arith
  busy_most (Busy op call begun) = omega arith
  busy_most (Evicting evict) = omega arith

  pub small : p.worker.number < 4294967295
  small = let n = (here).number in let m = (here).most in let c = calls_short p.items p.over in let o = busy_most p.worker.doing in omega (arith, n, m, c, o)

  pub holds_entered : meaning.holds (with_workers M (workers_of a ++ u ∷ workers_of b))
  holds_entered =
      subst (λ w. meaning.holds (with_workers M (workers_of a ++ w ∷ workers_of b))) (sym u_is)
      (enter_holds meaning l M (workers_of a) (workers_of b) p.worker.name p.worker.number p.worker.doing (item).0
      (all_get (IsRightItem meaning.layout) p.items p.over (item).0 (here).items (item).1) small
      (subst (λ us. meaning.holds (with_workers M us)) (ap workers_of t.is ∙ workers_joined a b p) K.holds))

  pub holds_made : meaning.holds (moment_after meaning M e (workers_of a) u (workers_of b))
  holds_made = makes_event meaning l M (workers_of a) u (workers_of b) e t.asks holds_entered

  pub u_named : u.name ≡ 1 + length a
  u_named = enters_name meaning l p.worker p.worker.doing (slice_get p.items p.over) ∙ (here).named

  -- the call that a worker has under way at its turn
  pub u_call : (op : Op) (call : Call) (begun : Option ℕ) → u.doing ≡ Busy op call begun → (slice_get p.items p.over ≡ Some (Call_item call))
      × (u.number ≡ calls_in (take p.over p.items) + 1)
  u_call op call begun is =
      subst (λ w. w.doing ≡ Busy op call begun → (slice_get p.items p.over ≡ Some (Call_item call)) × (w.number ≡ calls_in (take p.over p.items) + 1))
      (sym u_is)
      (at_call meaning p.items p.over (item).0 p.worker.name p.worker.number p.worker.doing op call begun (item).1 work_now (here).number) is

  went_on : (x : Doing Op) (settled told : ℕ) (op : Op) (call : Call) (begun : Option ℕ) → goes_on meaning settled x told ≡ Busy op call begun → (o : Op)
      × (first : Option ℕ) × (x ≡ Busy o call first)
  went_on (Idle hand) settled told op call begun is = absurd (cc)
  went_on (Busy o c first) settled told op call begun is = let same : c ≡ call = cc in (o, first, ap (λ y. Busy o y first) same)
  went_on (Evicting evict) settled told op call begun is = absurd (cc)

  -- the call that it has after its event
  pub d_call : (op : Op) (call : Call) (begun : Option ℕ) → d ≡ Busy op call begun → (slice_get p.items p.over ≡ Some (Call_item call))
      × (u.number ≡ calls_in (take p.over p.items) + 1)
  d_call op call begun is = let w = went_on u.doing (length r.progress.settled) (answer r.state e) op call begun is in u_call w.0 call w.1 w.2

  pub d_no_call : (evict : Evict) (call : Call) → d ≡ Evicting evict → slice_get p.items p.over ≡ Some (Call_item call) → ⊥
  d_no_call evict call is = by_doing u.doing refl is
    where
      by_doing : (x : Doing Op) → u.doing ≡ x → goes_on meaning (length r.progress.settled) x (answer r.state e) ≡ Evicting evict →
          slice_get p.items p.over ≡ Some (Call_item call) → ⊥
      by_doing (Idle hand) at_x h = absurd (cc)
      by_doing (Busy op c begun) at_x h = absurd (cc)
      by_doing (Evicting v) at_x h =
          subst (λ w. w.doing ≡ Evicting v → slice_get p.items p.over ≡ Some (Call_item call) → ⊥) (sym u_is)
          (λ at_w also. at_evict meaning p.items p.over (item).0 p.worker.name p.worker.number p.worker.doing v call (item).1 work_now at_w also) at_x

  own_sound : IsSoundPart meaning (1 + length a) (part_made meaning r p e)
  own_sound =
      let m = subst (λ w. IsAfter meaning p.items p.over w.number (goes_on meaning (length r.progress.settled) w.doing (answer r.state e))
      (hand_over meaning (goes_on meaning (length r.progress.settled) w.doing (answer r.state e)))) (sym u_is)
      (moves meaning p.items p.over (item).0 p.worker.name p.worker.number (length r.progress.settled) (answer r.state e) p.worker.doing (item).1 work_now
      (here).number) in
      record {
        named = u_named;
        items = (here).items;
        most = (here).most;
        fits = over_fits meaning p.over (hand_over meaning d) (length p.items) t.more;
        number = m.1;
        at_work = m.0;
      }

  pub grows : Gains r.progress.settled (progress_made meaning r p e).settled
  grows = gains_one r.progress (progress_made meaning r p e) e (settles_one r.progress r.state e (effect_by meaning u))

  pub new_reads : AllByRecursion (ReadNow meaning r.content (progress_made meaning r p e).settled u.name u.number d) reads
  new_reads = reads_now meaning r.content (progress_made meaning r p e).settled u.name u.number d reads t.reads_are

  right_all : AllByRecursion (IsRightAt r.content (progress_made meaning r p e).settled) (r.placed ++ reads)
  right_all =
      all_both (IsRightAt r.content (progress_made meaning r p e).settled) r.placed reads
      (subst (λ es. AllByRecursion (IsRightAt r.content es) r.placed) (sym (grows).1)
      (all_map (IsRightAt r.content r.progress.settled) (IsRightAt r.content (r.progress.settled ++ (grows).0))
      (right_later r.content r.progress.settled (grows).0) r.placed K.right))
      (all_map (ReadNow meaning r.content (progress_made meaning r p e).settled u.name u.number d) (IsRightAt r.content (progress_made meaning r p e).settled)
      (λ q k. k.placed.right) reads new_reads)

  pub holds_after : meaning.holds (moment_of (turned_run meaning r a p b e reads) K.words K.free)
  holds_after =
      subst (λ us. meaning.holds (with_workers (moment_after meaning M e (workers_of a) u (workers_of b)) us))
      (sym (workers_joined a b (part_made meaning r p e)))
      (leave_holds meaning l (moment_after meaning M e (workers_of a) u (workers_of b)) (workers_of a) (workers_of b) u.name u.number d holds_made)

  pub sound_after : IsSound meaning (turned_run meaning r a p b e reads)
  sound_after = record {
    words = K.words;
    free = K.free;
    holds = holds_after;
    each = all_from_put (IsSoundPart meaning) (IsSoundPart meaning) 1 a b p (part_made meaning r p e) (λ n x apart h. h) own_sound
        (subst (AllFrom (IsSoundPart meaning) 1) t.is K.each);
    right = right_all;
  }
