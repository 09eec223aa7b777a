-- What a run that others lead to keeps of one of these: of a call that was over there nothing comes, and of a call that
-- had not begun there all comes behind the updates that were settled.
use Rattle.std.proofs.Common.{◌≡◌, ℕ, ◌+◌, ◌≤◌, List, [], ◌++◌, length, take, refl, sym, ◌∙◌, ap, subst, arith, append_assoc, append-nil, length-append, Option, Some, None, slice_get}
use Rattle.std.specs.List.{AllByRecursion}
use Rattle.flit_model.specs.Effects.{answer}
use Rattle.flit_model.specs.declared.calls.Call.{Call}
use Rattle.flit_model.specs.declared.calls.Entry.{Entry}
use Rattle.flit_model.specs.declared.calls.Item.{Item}
use Rattle.flit_model.specs.declared.calls.Item.TheVariants.{Call as Call_item, Evict as Evict_item}
use Rattle.flit_model.specs.declared.calls.Placed.{Placed}
use Rattle.flit_model.specs.declared.events.Event.{Event}
use Rattle.flit_pv.specs.declared.hands.Hand.{Hand}
use Rattle.flit_structure.specs.declared.workers.Doing.{Doing}
use Rattle.flit_structure.specs.declared.workers.Doing.TheVariants.{Idle, Busy, Evicting}
use Rattle.flit_structure.specs.Moments.{made}
use Rattle.flit_structure.specs.Meanings.{Meaning, effect_by, goes_on, first_at}
use Rattle.flit_structure.specs.Lawful.{Lawful}
use Rattle.flit_structure.proofs.Names.{all_both, all_map}
use Rattle.flit_sched.specs.Runs.{Part, Run}
use Rattle.flit_sched.specs.Turns.{Turned, enters, rests, hand_over, over_after}
use Rattle.flit_sched.proofs.StepLaws.{at}
use Rattle.flit_histories.specs.Reached.{Leads, here, turn}
use Rattle.flit_histories.specs.Calls.{calls_in}
use Rattle.flit_histories.proofs.Numbers.{calls_rise}
use Rattle.flit_histories.proofs.LedParts.{over_up}
use Rattle.flit_histories.proofs.PartLists.{AllFrom, all_from_at, all_from_put}
use Rattle.flit_histories.proofs.MadeLaws.{made_after}
use Rattle.flit_histories.proofs.TurnedRuns.{Makes, ReadNow, turned_run, turned_is, makes, part_made, doing_made, progress_made}
use Rattle.flit_histories.proofs.SoundRuns as sound
use Rattle.flit_histories.proofs.ToldCalls as told
use Rattle.flit_histories.proofs.ToldCalls.{NotOf, IsTold}
use Rattle.flit_histories.proofs.ReachedRuns.{sound_led}
use Rattle.flit_histories.proofs.ToldRuns.{told_led}

-- a call under way was begun when at least so many updates were settled
abbrev pub IsBegunFrom : {Op : Type 0} → ℕ → Doing Op → Type 0
IsBegunFrom low (Idle hand) = Unit {0}
IsBegunFrom low (Busy op call None) = Unit {0}
IsBegunFrom low (Busy op call (Some first)) = low ≤ first
IsBegunFrom low (Evicting evict) = Unit {0}

abbrev pub IsPastIn : {Op : Type 0} → ℕ → ℕ → ℕ → Part Op → Type 0
IsPastIn w n name p = name ≡ w → n ≤ calls_in (take p.over p.items)

abbrev pub IsBegunIn : {Op : Type 0} → ℕ → ℕ → ℕ → ℕ → Part Op → Type 0
IsBegunIn low w n name p = name ≡ w → p.worker.number ≡ n → IsBegunFrom low p.worker.doing

-- nothing has come of the call since
pub record IsPast {Op : Type 0} (r : Run Op) (w n : ℕ) (q : Run Op) : Type 0 where
  pub past : AllFrom (IsPastIn w n) 1 q.parts
  pub none : AllByRecursion (NotOf w n) (made r.progress) → AllByRecursion (NotOf w n) (made q.progress)
  pub more : List Placed
  pub placed : q.placed ≡ r.placed ++ more
  pub new : AllByRecursion (λ x. NotOf w n x.entry) more

-- what came of the call since came behind
pub record IsBehind {Op : Type 0} (r : Run Op) (w n : ℕ) (q : Run Op) : Type 0 where
  pub begun : AllFrom (IsBegunIn (length r.progress.settled) w n) 1 q.parts
  pub reads : AllByRecursion (λ x. x.entry.worker ≡ w → x.entry.number ≡ n → length r.progress.settled ≤ x.position) q.placed

module _ {Op : Type 0} (meaning : Meaning Op) where
  rests_from : (low : ℕ) (d : Doing Op) (o : Option Hand) → IsBegunFrom low d → IsBegunFrom low (rests meaning d o)
  rests_from low d None h = h
  rests_from low d (Some hand) h = tt

  begun_some : (low first : ℕ) (begun : Option ℕ) → Some first ≡ begun → low ≤ first → low ≤ first_at 0 begun
  begun_some low first begun e h = subst (λ o. low ≤ first_at 0 o) e h

  from_begun : (low settled name number told n : ℕ) (doing : Doing Op) (item : Option Item) (op : Op) (call : Call) (begun : Option ℕ) → low ≤ settled →
      (number ≡ n → IsBegunFrom low doing) →
      goes_on meaning settled (enters meaning (at name number doing) doing item).doing told ≡ Busy op call begun →
      (enters meaning (at name number doing) doing item).number ≡ n → low ≤ first_at 0 begun
  from_begun low settled name number told n (Idle hand) None op call begun le h e same = absurd (cc)
  from_begun low settled name number told n (Idle hand) (Some (Call_item c)) op call begun le h e same = begun_some low settled begun (cc) le
  from_begun low settled name number told n (Idle hand) (Some (Evict_item word)) op call begun le h e same = absurd (cc)
  from_begun low settled name number told n (Busy o c None) item op call begun le h e same = begun_some low settled begun (cc) le
  from_begun low settled name number told n (Busy o c (Some m)) item op call begun le h e same = begun_some low m begun (cc) (h same)
  from_begun low settled name number told n (Evicting evict) item op call begun le h e same = absurd (cc)

module _ {Op : Type 0} (meaning : Meaning Op) (l : Lawful meaning) (r : Run Op) (w n : ℕ) (q : Run Op) (a : List (Part Op)) (p : Part Op) (b : List (Part Op))
    (e : Event) (reads : List Placed)
    (t : Makes meaning q a p b e reads) (K : sound.IsSound meaning q) (T : IsTold q) where
  abbrev number : ℕ
  number = (sound.u meaning l q a p b e reads t K).number

  abbrev d : Doing Op
  d = doing_made meaning q p e

  abbrev low : ℕ
  low = length r.progress.settled

  named : (sound.u meaning l q a p b e reads t K).name ≡ 1 + length a
  named = sound.u_named meaning l q a p b e reads t K

  past_after : IsPast r w n q → IsPast r w n (turned_run meaning q a p b e reads)
  past_after h = record {
    past = all_from_put (IsPastIn w n) (IsPastIn w n) 1 a b p (part_made meaning q p e) (λ m x apart k. k)
        (λ is. (let k = own is in let rise = calls_rise p.items p.over (over_after meaning p.over (hand_over meaning d))
        (over_up meaning p.over (hand_over meaning d)) in omega (arith, k, rise)))
        (subst (AllFrom (IsPastIn w n) 1) t.is h.past);
    none = λ k. made_after (NotOf w n) q.progress (h.none k) q.state e (effect_by meaning (sound.u meaning l q a p b e reads t K))
        (λ word from to x is found effect. not_next x (told.next_effects meaning l q a p b e reads t K T word from to x is found effect));
    more = h.more ++ reads;
    placed = ap (λ xs. xs ++ reads) h.placed ∙ append_assoc r.placed h.more reads;
    new = all_both (λ x. NotOf w n x.entry) h.more reads h.new
        (all_map (λ x. told.IsNext meaning l q a p b e reads t K T x.entry) (λ x. NotOf w n x.entry) (λ x k. not_next x.entry k) reads
        (told.next_reads meaning l q a p b e reads t K T));
  }
    where
      own : 1 + length a ≡ w → n ≤ calls_in (take p.over p.items)
      own = all_from_at (IsPastIn w n) 1 a b p (subst (AllFrom (IsPastIn w n) 1) t.is h.past)

      not_next : (x : Entry) → told.IsNext meaning l q a p b e reads t K T x → NotOf w n x
      not_next x k hw hn = let le = own (sym named ∙ sym k.worker ∙ hw) in let i = k.number_is in let c = k.counts in omega (arith, le, i, c, hn)

  behind_after : length r.progress.settled ≤ length q.progress.settled → IsBehind r w n q → IsBehind r w n (turned_run meaning q a p b e reads)
  behind_after grown h = record {
    begun = all_from_put (IsBegunIn low w n) (IsBegunIn low w n) 1 a b p (part_made meaning q p e) (λ m x apart k. k)
        (λ is same. rests_from meaning low d (hand_over meaning d) (by_doing is same d refl))
        (subst (AllFrom (IsBegunIn low w n) 1) t.is h.begun);
    reads = all_both (λ x. x.entry.worker ≡ w → x.entry.number ≡ n → low ≤ x.position) q.placed reads h.reads
        (all_map (ReadNow meaning q.content (progress_made meaning q p e).settled (sound.u meaning l q a p b e reads t K).name number d)
        (λ x. x.entry.worker ≡ w → x.entry.number ≡ n → low ≤ x.position)
        (λ x k hw hn. (let f = k.placed.from in
        let g = d_from (sym named ∙ sym (ap (λ y. y.worker) k.entry) ∙ hw) (sym (ap (λ y. y.number) k.entry) ∙ hn) k.op k.call k.begun k.doing in
        omega (arith, f, g)))
        reads (sound.new_reads meaning l q a p b e reads t K));
  }
    where
      d_from : 1 + length a ≡ w → number ≡ n → (op : Op) (call : Call) (begun : Option ℕ) → d ≡ Busy op call begun → low ≤ first_at 0 begun
      d_from is same op call begun doing =
          from_begun meaning low (length q.progress.settled) p.worker.name p.worker.number (answer q.state e) n p.worker.doing (slice_get p.items p.over) op
          call begun grown
          (all_from_at (IsBegunIn low w n) 1 a b p (subst (AllFrom (IsBegunIn low w n) 1) t.is h.begun) is) doing same

      by_doing : 1 + length a ≡ w → number ≡ n → (x : Doing Op) → d ≡ x → IsBegunFrom low x
      by_doing is same (Idle hand) k = tt
      by_doing is same (Busy op call None) k = tt
      by_doing is same (Busy op call (Some first)) k = d_from is same op call (Some first) k
      by_doing is same (Evicting evict) k = tt

module _ {Op : Type 0} (meaning : Meaning Op) (l : Lawful meaning) (r : Run Op) (K : sound.IsSound meaning r) (T : IsTold r) where
  -- the updates that are settled stay settled
  settled_turned : (q next : Run Op) (worker : ℕ) (e : Event) (told_it : ℕ) → Turned meaning q worker e told_it next → sound.IsSound meaning q →
      (more : List Entry) × (next.progress.settled ≡ q.progress.settled ++ more)
  settled_turned q next worker e told_it t Kq =
      let g = sound.grows meaning l q t.before t.part t.behind e t.reads (makes meaning q next worker e told_it t) Kq in
      (g.0, ap (λ x. x.settled) t.progress ∙ g.1)

  pub settled_led : (q : Run Op) → Leads meaning r q → (more : List Entry) × (q.progress.settled ≡ r.progress.settled ++ more)
  settled_led q here = ([], sym (append-nil r.progress.settled))
  settled_led q (turn {q = x} {worker = worker} {e = e} {told = told_it} h t) =
      let old = settled_led x h in
      let new = settled_turned x q worker e told_it t (sound_led meaning l r x h K) in
      (old.0 ++ new.0, new.1 ∙ ap (λ xs. xs ++ new.0) old.1 ∙ append_assoc r.progress.settled old.0 new.0)

  grown_led : (q : Run Op) → Leads meaning r q → length r.progress.settled ≤ length q.progress.settled
  grown_led q h = let g = settled_led q h in let e = ap length g.1 in let f = length-append r.progress.settled g.0 in omega (arith, e, f)

  pub past_led : (w n : ℕ) (q : Run Op) → Leads meaning r q → IsPast r w n r → IsPast r w n q
  past_led w n q here h = h
  past_led w n q (turn {q = x} {worker = worker} {e = e} {told = told_it} led t) h =
      subst (IsPast r w n) (sym (turned_is meaning x q worker e told_it t))
      (past_after meaning l r w n x t.before t.part t.behind e t.reads (makes meaning x q worker e told_it t) (sound_led meaning l r x led K)
      (told_led meaning l r x led K T) (past_led w n x led h))

  pub behind_led : (w n : ℕ) (q : Run Op) → Leads meaning r q → IsBehind r w n r → IsBehind r w n q
  behind_led w n q here h = h
  behind_led w n q (turn {q = x} {worker = worker} {e = e} {told = told_it} led t) h =
      subst (IsBehind r w n) (sym (turned_is meaning x q worker e told_it t))
      (behind_after meaning l r w n x t.before t.part t.behind e t.reads (makes meaning x q worker e told_it t) (sound_led meaning l r x led K)
      (told_led meaning l r x led K T) (grown_led x led) (behind_led w n x led h))
