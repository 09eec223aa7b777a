-- What a run tells of each call: what its outcome says stands among the updates and reads; a turn keeps this.
use Rattle.std.proofs.Common.{◌≡◌, ◌≢◌, ◌⊎◌, inl, inr, ℕ, zero, suc, ◌+◌, ◌<◌, ◌≤◌, Bool, true, false, cond, List, [], ◌∷◌, ◌++◌, length, take, refl, sym, ◌∙◌, ap, subst, arith, append_assoc, Option, Some, None, slice_get, slice_set}
use Rattle.std.proofs.lemmas.Bool.{cases_lt}
use Rattle.std.proofs.lemmas.Option.{none-some}
use Rattle.std.specs.List.{AllByRecursion}
use Rattle.flit_model.specs.States.{word_at}
use Rattle.flit_model.specs.Histories.{is_update_by, is_read_by}
use Rattle.flit_model.specs.Settling.{Progress}
use Rattle.flit_model.specs.declared.calls.Call.{Call}
use Rattle.flit_model.specs.declared.calls.Entry.{Entry}
use Rattle.flit_model.specs.declared.calls.Item.{Item}
use Rattle.flit_model.specs.declared.calls.Item.TheVariants.{Call as Call_item, Evict as Evict_item}
use Rattle.flit_model.specs.declared.calls.Outcome.{Outcome}
use Rattle.flit_model.specs.declared.calls.Outcome.TheVariants.{Replied, Stopped}
use Rattle.flit_model.specs.declared.calls.Placed.{Placed}
use Rattle.flit_model.specs.declared.calls.Reply.{Reply}
use Rattle.flit_model.specs.declared.events.Event.{Event}
use Rattle.flit_model.specs.declared.events.Event.TheVariants.{Exchange}
use Rattle.flit_pv.specs.declared.evicts.Evict.{Evict}
use Rattle.flit_pv.specs.Evicts.{evict_asked}
use Rattle.flit_structure.specs.declared.workers.Doing.{Doing}
use Rattle.flit_structure.specs.declared.workers.Doing.TheVariants.{Idle, Busy, Evicting}
use Rattle.flit_structure.specs.Moments.{Moment, made, update_of, with_workers}
use Rattle.flit_structure.specs.Meanings.{Meaning, effect_by, effect_in, first_at, moment_after, replied}
use Rattle.flit_structure.specs.Lawful.{Lawful, IsReplied, StandsFrom}
use Rattle.flit_structure.proofs.Names.{all_both, all_map}
use Rattle.flit_structure.proofs.Positions.{stands_later}
use Rattle.flit_sched.specs.Runs.{Part, Run, workers_of}
use Rattle.flit_sched.specs.Turns.{hand_over, hand_replied, hand_evicted, over_after, outcomes_after, reply_in, AreReadsIn}
use Rattle.flit_sched.proofs.StepLaws.{at}
use Rattle.flit_histories.specs.Calls.{calls_in, IsCallAt}
use Rattle.flit_histories.proofs.Numbers.{calls_next, calls_rise, calls_past, call_at}
use Rattle.flit_histories.proofs.PartLists.{AllFrom, HasFrom, all_from_at, all_from_put, has_here, has_put}
use Rattle.flit_histories.proofs.MadeLaws.{made_after}
use Rattle.flit_histories.proofs.TurnedRuns.{Makes, ReadNow, one_read, no_read, turned_run, part_made, doing_made, progress_made}
use Rattle.flit_histories.proofs.SoundRuns as sound

-- an entry has not this name and number
abbrev pub NotOf : ℕ → ℕ → Entry → Type 0
NotOf name number e = e.worker ≡ name → e.number ≡ number → ⊥

-- one read is this entry, and no other has the name and number
pub record IsReadOnce (name number : ℕ) (e : Entry) (placed : List Placed) : Type 0 where
  pub before : List Placed
  pub read : Placed
  pub behind : List Placed
  pub is : placed ≡ before ++ read ∷ behind
  pub entry : read.entry ≡ e
  pub front : AllByRecursion (λ q. NotOf name number q.entry) before
  pub back : AllByRecursion (λ q. NotOf name number q.entry) behind

-- what is told of a call that has this reply
pub record IsToldAs (g : Progress) (placed : List Placed) (name number : ℕ) (call : Call) (reply : Reply) : Type 0 where
  pub update : is_update_by call reply ≡ true → StandsFrom 0 g.settled (update_of name number call)
  pub unmade : is_update_by call reply ≡ false → AllByRecursion (NotOf name number) (made g)
  pub read : is_read_by call reply ≡ true → IsReadOnce name number (record { worker = name; number = number; call = call; reply = reply }) placed
  pub unread : is_read_by call reply ≡ false → AllByRecursion (λ q. NotOf name number q.entry) placed

-- what is told of the calls of one worker
pub record IsToldIn (g : Progress) (placed : List Placed) (name : ℕ) (items : List Item) (over : ℕ) (outcomes : List (Option Outcome)) : Type 0 where
  pub done : (k : ℕ) (call : Call) → k < over → slice_get items k ≡ Some (Call_item call) →
      (reply : Reply) × (slice_get outcomes k ≡ Some (Some (Replied reply))) × IsToldAs g placed name (calls_in (take k items) + 1) call reply
  pub waits : (k : ℕ) (call : Call) → over ≤ k → slice_get items k ≡ Some (Call_item call) → slice_get outcomes k ≡ Some (Some Stopped)
  pub swept : (k word : ℕ) → slice_get items k ≡ Some (Evict_item word) → slice_get outcomes k ≡ Some None
  pub low : AllByRecursion (λ q. q.entry.worker ≡ name → q.entry.number ≤ calls_in (take over items)) placed

abbrev pub IsToldPart : {Op : Type 0} → Progress → List Placed → ℕ → Part Op → Type 0
IsToldPart g placed name p = IsToldIn g placed name p.items p.over p.outcomes

abbrev pub HasCall : {Op : Type 0} → Entry → ℕ → Part Op → Type 0
HasCall e name p = (e.worker ≡ name) × ((k : ℕ) × IsCallAt p.items k e.call e.number)

pub record IsTold {Op : Type 0} (r : Run Op) : Type 0 where
  pub made_by : AllByRecursion (λ e. HasFrom (HasCall e) 1 r.parts) (made r.progress)
  pub read_by : AllByRecursion (λ q. HasFrom (HasCall q.entry) 1 r.parts) r.placed
  pub each : AllFrom (IsToldPart r.progress r.placed) 1 r.parts

pub set_here : {X : Type 0} (xs : List X) (k : ℕ) (x y : X) → slice_get xs k ≡ Some y → slice_get (slice_set xs k x) k ≡ Some x
set_here [] k x y e = absurd (none-some y e)
set_here (z ∷ xs) zero x y e = refl
set_here (z ∷ xs) (suc k) x y e = set_here xs k x y e

pub set_other : {X : Type 0} (xs : List X) (k j : ℕ) (x : X) → k ≢ j → slice_get (slice_set xs k x) j ≡ slice_get xs j
set_other [] k j x h = refl
set_other (z ∷ xs) zero zero x h = absurd (h refl)
set_other (z ∷ xs) zero (suc j) x h = refl
set_other (z ∷ xs) (suc k) zero x h = refl
set_other (z ∷ xs) (suc k) (suc j) x h = set_other xs k j x (λ e. h (ap suc e))

module _ {Op : Type 0} (meaning : Meaning Op) where
  effect_is : (name number : ℕ) (d : Doing Op) (x : Entry) → effect_in meaning name number d ≡ Some x → (op : Op) × (call : Call) × (begun : Option ℕ)
      × (d ≡ Busy op call begun) × (x ≡ update_of name number call)
  effect_is name number (Idle hand) x h = absurd (none-some x h)
  effect_is name number (Busy op call begun) x h = by_test (meaning.effect op) h
    where
      by_test : (t : Bool) → cond t (Some (update_of name number call)) None ≡ Some x → (o : Op) × (c : Call) × (first : Option ℕ)
          × (◌≡◌ {A = Doing Op} (Busy op call begun) (Busy o c first)) × (x ≡ update_of name number c)
      by_test true k = let same : update_of name number call ≡ x = cc in (op, call, begun, refl, sym same)
      by_test false k = absurd (none-some x k)
  effect_is name number (Evicting evict) x h = absurd (none-some x h)

module _ {Op : Type 0} (meaning : Meaning Op) (l : Lawful meaning) (r : Run Op) (a : List (Part Op)) (p : Part Op) (b : List (Part Op)) (e : Event)
    (reads : List Placed)
    (t : Makes meaning r a p b e reads) (K : sound.IsSound meaning r) (h : IsTold r) where
  abbrev name : ℕ
  name = (sound.u meaning l r a p b e reads t K).name

  abbrev number : ℕ
  number = (sound.u meaning l r a p b e reads t K).number

  abbrev d : Doing Op
  d = doing_made meaning r p e

  abbrev g : Progress
  g = progress_made meaning r p e

  abbrev before_it : ℕ
  before_it = calls_in (take p.over p.items)

  named : name ≡ 1 + length a
  named = sound.u_named meaning l r a p b e reads t K

  -- an update that takes effect is of the next call
  pub record IsNext (x : Entry) : Type 0 where
    pub worker : x.worker ≡ name
    pub number_is : x.number ≡ number
    pub call_is : slice_get p.items p.over ≡ Some (Call_item x.call)
    pub counts : number ≡ before_it + 1

  effect_next : (x : Entry) → effect_by meaning (sound.u meaning l r a p b e reads t K) ≡ Some x → IsNext x
  effect_next x is =
      let w = effect_is meaning name number (sound.u meaning l r a p b e reads t K).doing x is in
      let c = sound.u_call meaning l r a p b e reads t K w.0 w.1 w.2 w.3 in
      record { worker = ap (λ y. y.worker) w.4; number_is = ap (λ y. y.number) w.4; call_is = c.0 ∙ ap (λ y. Some (Call_item y.call)) (sym w.4); counts = c.1 }

  read_next : (q : Placed) → ReadNow meaning r.content g.settled name number d q → IsNext q.entry
  read_next q k =
      let c = sound.d_call meaning l r a p b e reads t K k.op k.call k.begun k.doing in
      record {
        worker = ap (λ y. y.worker) k.entry;
        number_is = ap (λ y. y.number) k.entry;
        call_is = c.0 ∙ ap (λ y. Some (Call_item y.call)) (sym k.entry);
        counts = c.1;
      }

  pub next_effects : (word from to : ℕ) (x : Entry) → e ≡ Exchange word from to → word_at r.state word ≡ from →
      effect_by meaning (sound.u meaning l r a p b e reads t K) ≡ Some x → IsNext x
  next_effects word from to x is found effect = effect_next x effect

  pub next_reads : AllByRecursion (λ q. IsNext q.entry) reads
  next_reads = all_map (ReadNow meaning r.content g.settled name number d) (λ q. IsNext q.entry) read_next reads (sound.new_reads meaning l r a p b e reads t K)

  -- what is told of another call than the next stays
  told_lasts : (n k : ℕ) (call : Call) (reply : Reply) → (name ≡ n → number ≡ k → number ≡ before_it + 1 → ⊥) → IsToldAs r.progress r.placed n k call reply →
      IsToldAs g (r.placed ++ reads) n k call reply
  told_lasts n k call reply apart was = record {
    update = λ kind. subst (λ es. StandsFrom 0 es (update_of n k call)) (sym (sound.grows meaning l r a p b e reads t K).1)
        (stands_later 0 r.progress.settled (sound.grows meaning l r a p b e reads t K).0 (update_of n k call) (was.update kind));
    unmade = λ kind. made_after (NotOf n k) r.progress (was.unmade kind) r.state e (effect_by meaning (sound.u meaning l r a p b e reads t K))
        (λ word from to x is found effect. not_next x (effect_next x effect));
    read = λ kind. (
        let o = was.read kind in
        record {
          before = o.before;
          read = o.read;
          behind = o.behind ++ reads;
          is = ap (λ qs. qs ++ reads) o.is ∙ append_assoc o.before (o.read ∷ o.behind) reads;
          entry = o.entry;
          front = o.front;
          back = all_both (λ q. NotOf n k q.entry) o.behind reads o.back no_reads;
        }
        );
    unread = λ kind. all_both (λ q. NotOf n k q.entry) r.placed reads (was.unread kind) no_reads;
  }
    where
      not_next : (x : Entry) → IsNext x → NotOf n k x
      not_next x y w m = apart (sym y.worker ∙ w) (sym y.number_is ∙ m) y.counts

      no_reads : AllByRecursion (λ q. NotOf n k q.entry) reads
      no_reads = all_map (λ q. IsNext q.entry) (λ q. NotOf n k q.entry) (λ q y. not_next q.entry y) reads next_reads

  -- the other workers
  others : (n : ℕ) (x : Part Op) → n ≢ 1 + length a → IsToldPart r.progress r.placed n x → IsToldPart g (r.placed ++ reads) n x
  others n x apart was = record {
    done = λ k call less is. (let o = was.done k call less is in (
      o.0,
      o.1,
      told_lasts n (calls_in (take k x.items) + 1) call o.0
          (λ i j c. apart (sym i ∙ named)) o.2,
    ));
    waits = was.waits;
    swept = was.swept;
    low = all_both (λ q. q.entry.worker ≡ n → q.entry.number ≤ calls_in (take x.over x.items)) r.placed reads was.low
        (all_map (λ q. IsNext q.entry) (λ q. q.entry.worker ≡ n → q.entry.number ≤ calls_in (take x.over x.items))
        (λ q y w. absurd (apart (sym w ∙ y.worker ∙ named))) reads next_reads);
  }

  own : IsToldPart r.progress r.placed (1 + length a) p
  own = all_from_at (IsToldPart r.progress r.placed) 1 a b p (subst (AllFrom (IsToldPart r.progress r.placed) 1) t.is h.each)

  own_done : (k : ℕ) (call : Call) → k < p.over → slice_get p.items k ≡ Some (Call_item call) →
      (reply : Reply) × (slice_get p.outcomes k ≡ Some (Some (Replied reply)))
      × IsToldAs g (r.placed ++ reads) (1 + length a) (calls_in (take k p.items) + 1) call reply
  own_done k call less is =
      let o = (own).done k call less is in
      let past = calls_past p.items k p.over call is less in
      (o.0, o.1, told_lasts (1 + length a) (calls_in (take k p.items) + 1) call o.0 (λ i j c. omega (arith, past, j, c)) o.2)

  own_low : (over : ℕ) → p.over ≤ over → AllByRecursion (λ q. IsNext q.entry → calls_in (take p.over p.items) + 1 ≤ calls_in (take over p.items)) reads →
      AllByRecursion (λ q. q.entry.worker ≡ 1 + length a → q.entry.number ≤ calls_in (take over p.items)) (r.placed ++ reads)
  own_low over le new =
      all_both (λ q. q.entry.worker ≡ 1 + length a → q.entry.number ≤ calls_in (take over p.items)) r.placed reads
      (all_map (λ q. q.entry.worker ≡ 1 + length a → q.entry.number ≤ calls_in (take p.over p.items)) (λ q. q.entry.worker ≡ 1 + length a →
      q.entry.number ≤ calls_in (take over p.items))
      (λ q k w. let x = k w in let y = calls_rise p.items p.over over le in omega (arith, x, y)) r.placed (own).low)
      (fits reads next_reads new)
    where
      fits : (qs : List Placed) → AllByRecursion (λ q. IsNext q.entry) qs →
          AllByRecursion (λ q. IsNext q.entry → calls_in (take p.over p.items) + 1 ≤ calls_in (take over p.items)) qs →
          AllByRecursion (λ q. q.entry.worker ≡ 1 + length a → q.entry.number ≤ calls_in (take over p.items)) qs
      fits [] x y = tt
      fits (q ∷ qs) x y = ((λ w. let k = x.0.number_is in let c = x.0.counts in let m = y.0 x.0 in omega (arith, k, c, m)), fits qs x.1 y.1)

  -- no read comes where no reply does
  no_reply : reply_in meaning d ≡ None → (over : ℕ) → AllByRecursion (λ q. IsNext q.entry → calls_in (take p.over p.items) + 1 ≤ calls_in (take over p.items))
      reads
  no_reply none over =
      all_map (ReadNow meaning r.content g.settled name number d) (λ q. IsNext q.entry → calls_in (take p.over p.items) + 1 ≤ calls_in (take over p.items))
      (λ q k y. absurd (none-some k.reply (sym none ∙ ap (reply_in meaning) k.doing ∙ k.answered))) reads (sound.new_reads meaning l r a p b e reads t K)

  goes_on_told : reply_in meaning d ≡ None → IsToldIn g (r.placed ++ reads) (1 + length a) p.items p.over p.outcomes
  goes_on_told none = record { done = own_done; waits = (own).waits; swept = (own).swept; low = own_low p.over (omega arith) (no_reply none p.over) }

  swept_told : reply_in meaning d ≡ None → ((call : Call) → slice_get p.items p.over ≡ Some (Call_item call) → ⊥) →
      IsToldIn g (r.placed ++ reads) (1 + length a) p.items (p.over + 1) p.outcomes
  swept_told none other = record {
    done = λ k call less is. by_place k call less is (cases_lt k p.over);
    waits = λ k call le is. (own).waits k call (omega arith) is;
    swept = (own).swept;
    low = own_low (p.over + 1) (omega arith) (no_reply none (p.over + 1));
  }
    where
      by_place : (k : ℕ) (call : Call) → k < p.over + 1 → slice_get p.items k ≡ Some (Call_item call) → (k < p.over) ⊎ (p.over ≤ k) →
          (reply : Reply) × (slice_get p.outcomes k ≡ Some (Some (Replied reply)))
          × IsToldAs g (r.placed ++ reads) (1 + length a) (calls_in (take k p.items) + 1) call reply
      by_place k call less is (inl before) = own_done k call before is
      by_place k call less is (inr le) = let same : k ≡ p.over = omega (arith, le, less) in absurd (other call (ap (slice_get p.items) (sym same) ∙ is))

  module _ (op : Op) (call : Call) (begun : Option ℕ) (reply : Reply) (doing : d ≡ Busy op call begun) (is_replied : replied meaning op ≡ Some reply) where
    at_it : (slice_get p.items p.over ≡ Some (Call_item call)) × (number ≡ before_it + 1)
    at_it = sound.d_call meaning l r a p b e reads t K op call begun doing

    abbrev N : Moment Op
    N = moment_after meaning (sound.M meaning l r a p b e reads t K) e (workers_of a) (sound.u meaning l r a p b e reads t K) (workers_of b)

    pub says : IsReplied meaning.layout meaning.room r.content (N).state g name number call (first_at 0 begun) reply
    says =
        l.replies N (workers_of a) name number op call begun reply (workers_of b) is_replied
        (subst (λ x. meaning.holds (with_workers N (workers_of a ++ at name number x ∷ workers_of b))) doing (sound.holds_made meaning l r a p b e reads t K))

    none_before : AllByRecursion (λ q. NotOf name number q.entry) r.placed
    none_before =
        all_map (λ q. q.entry.worker ≡ 1 + length a → q.entry.number ≤ before_it) (λ q. NotOf name number q.entry)
        (λ q low w m. let x = low (w ∙ named) in let c = (at_it).1 in omega (arith, x, c, m)) r.placed (own).low

    reads_in : AreReadsIn meaning r.content g.settled name number (Busy op call begun) reads
    reads_in = subst (λ x. AreReadsIn meaning r.content g.settled name number x reads) doing t.reads_are

    told_now : IsToldAs g (r.placed ++ reads) name number call reply
    told_now = record {
      update = λ kind. (let x = (says).update kind in (x.0, x.1, x.2, omega arith));
      unmade = λ kind. (says).none kind;
      read = λ kind. (
          let one = one_read meaning r.content g.settled name number op call begun reply reads is_replied reads_in kind in
          record { before = r.placed; read = one.0; behind = []; is = ap (λ qs. r.placed ++ qs) one.1; entry = one.2; front = none_before; back = tt }
          );
      unread = λ kind. subst (λ qs. AllByRecursion (λ q. NotOf name number q.entry) (r.placed ++ qs))
          (sym (no_read meaning r.content g.settled name number op call begun reply reads is_replied reads_in kind))
          (all_both (λ q. NotOf name number q.entry) r.placed [] none_before tt);
    }

    told_over : IsToldAs g (r.placed ++ reads) (1 + length a) (before_it + 1) call reply
    told_over = subst (λ n. IsToldAs g (r.placed ++ reads) (1 + length a) n call reply) (at_it).1
        (subst (λ n. IsToldAs g (r.placed ++ reads) n number call reply) named told_now)

    over_told : IsToldIn g (r.placed ++ reads) (1 + length a) p.items (p.over + 1) (slice_set p.outcomes p.over (Some (Replied reply)))
    over_told = record {
      done = λ k c less is. by_place k c less is (cases_lt k p.over);
      waits = λ k c le is. set_other p.outcomes p.over k (Some (Replied reply)) (λ q. omega (arith, le, q)) ∙ (own).waits k c (omega arith) is;
      swept = λ k word is. set_other p.outcomes p.over k (Some (Replied reply)) (λ q. no_evict word (ap (slice_get p.items) q ∙ is)) ∙ (own).swept k word is;
      low = own_low (p.over + 1) (omega arith) (all_map (λ q. IsNext q.entry)
          (λ q. IsNext q.entry → calls_in (take p.over p.items) + 1 ≤ calls_in (take (p.over + 1) p.items))
          (λ q y z. let c = calls_next p.items p.over (Call_item call) (at_it).0 in omega (arith, c)) reads next_reads);
    }
      where
        no_evict : (word : ℕ) → slice_get p.items p.over ≡ Some (Evict_item word) → ⊥
        no_evict word also = let q = sym (at_it).0 ∙ also in absurd (cc)

        by_place : (k : ℕ) (c : Call) → k < p.over + 1 → slice_get p.items k ≡ Some (Call_item c) → (k < p.over) ⊎ (p.over ≤ k) →
            (y : Reply) × (slice_get (slice_set p.outcomes p.over (Some (Replied reply))) k ≡ Some (Some (Replied y)))
            × IsToldAs g (r.placed ++ reads) (1 + length a) (calls_in (take k p.items) + 1) c y
        by_place k c less is (inl before) =
            let o = own_done k c before is in
            (o.0, set_other p.outcomes p.over k (Some (Replied reply)) (λ q. omega (arith, before, q)) ∙ o.1, o.2)
        by_place k c less is (inr le) =
            let same : p.over ≡ k = omega (arith, le, less) in
            let at_k : slice_get p.items k ≡ Some (Call_item call) = ap (slice_get p.items) (sym same) ∙ (at_it).0 in
            let alike : call ≡ c = one_call call c (sym at_k ∙ is) in (
              reply,
              ap (slice_get (slice_set p.outcomes p.over (Some (Replied reply)))) (sym same)
                  ∙ set_here p.outcomes p.over (Some (Replied reply)) (Some Stopped) ((own).waits p.over call (omega arith) (at_it).0),
              subst (λ x. IsToldAs g (r.placed ++ reads) (1 + length a) (calls_in (take k p.items) + 1) x reply) alike
                  (subst (λ n. IsToldAs g (r.placed ++ reads) (1 + length a) (calls_in (take n p.items) + 1) call reply) same told_over),
            )
          where
            one_call : (x y : Call) → Some (Call_item x) ≡ Some (Call_item y) → x ≡ y
            one_call x y q = cc

  abbrev IsToldAfter : Doing Op → Type 0
  IsToldAfter x = IsToldIn g (r.placed ++ reads) (1 + length a) p.items (over_after meaning p.over (hand_over meaning x))
      (outcomes_after meaning p.outcomes p.over (reply_in meaning x))

  own_told : IsToldAfter d
  own_told = by_doing d refl
    where
      by_reply : (op : Op) (call : Call) (begun : Option ℕ) → d ≡ Busy op call begun → (o : Option Reply) → replied meaning op ≡ o →
          IsToldIn g (r.placed ++ reads) (1 + length a) p.items (over_after meaning p.over (hand_replied meaning op o))
          (outcomes_after meaning p.outcomes p.over o)
      by_reply op call begun is None none = goes_on_told (ap (reply_in meaning) is ∙ none)
      by_reply op call begun is (Some reply) some = over_told op call begun reply is some

      by_event : (evict : Evict) → d ≡ Evicting evict → (o : Option Event) →
          IsToldIn g (r.placed ++ reads) (1 + length a) p.items (over_after meaning p.over (hand_evicted meaning evict o)) p.outcomes
      by_event evict is None = swept_told (ap (reply_in meaning) is) (λ call. sound.d_no_call meaning l r a p b e reads t K evict call is)
      by_event evict is (Some event) = goes_on_told (ap (reply_in meaning) is)

      by_doing : (x : Doing Op) → d ≡ x → IsToldAfter x
      by_doing (Idle hand) is = goes_on_told (ap (reply_in meaning) is)
      by_doing (Busy op call begun) is = by_reply op call begun is (replied meaning op) refl
      by_doing (Evicting evict) is = by_event evict is (evict_asked evict)

  has_next : (x : Entry) → IsNext x → HasFrom (HasCall x) 1 (a ++ part_made meaning r p e ∷ b)
  has_next x y = has_here (HasCall x) 1 a b (part_made meaning r p e) (
    y.worker
        ∙ named,
    (p.over, call_at p.items p.over x.call x.number y.call_is (y.number_is ∙ y.counts)),
  )

  still_has : (x : Entry) → HasFrom (HasCall x) 1 r.parts → HasFrom (HasCall x) 1 (a ++ part_made meaning r p e ∷ b)
  still_has x k = has_put (HasCall x) 1 a b p (part_made meaning r p e) (λ n y. y) (subst (HasFrom (HasCall x) 1) t.is k)

  pub told_after : IsTold (turned_run meaning r a p b e reads)
  told_after = record {
    made_by = made_after (λ x. HasFrom (HasCall x) 1 (a ++ part_made meaning r p e ∷ b)) r.progress
        (all_map (λ x. HasFrom (HasCall x) 1 r.parts) (λ x. HasFrom (HasCall x) 1 (a ++ part_made meaning r p e ∷ b)) still_has (made r.progress) h.made_by)
        r.state e (effect_by meaning (sound.u meaning l r a p b e reads t K)) (λ word from to x is found effect. has_next x (effect_next x effect));
    read_by = all_both (λ q. HasFrom (HasCall q.entry) 1 (a ++ part_made meaning r p e ∷ b)) r.placed reads
        (all_map (λ q. HasFrom (HasCall q.entry) 1 r.parts) (λ q. HasFrom (HasCall q.entry) 1 (a ++ part_made meaning r p e ∷ b)) (λ q. still_has q.entry)
        r.placed h.read_by)
        (all_map (λ q. IsNext q.entry) (λ q. HasFrom (HasCall q.entry) 1 (a ++ part_made meaning r p e ∷ b)) (λ q. has_next q.entry) reads next_reads);
    each = all_from_put (IsToldPart r.progress r.placed) (IsToldPart g (r.placed ++ reads)) 1 a b p (part_made meaning r p e) others own_told
        (subst (AllFrom (IsToldPart r.progress r.placed) 1) t.is h.each);
  }
