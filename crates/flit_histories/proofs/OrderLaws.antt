-- A call that was over before another began stands before it.
use Rattle.std.proofs.Common.{◌≡◌, ◌≢◌, ◌⊎◌, inl, inr, ℕ, suc, ◌+◌, ◌<◌, ◌≤◌, Bool, true, false, List, [], ◌∷◌, ◌++◌, length, take, refl, sym, ◌∙◌, ap, subst, arith, append_assoc, append-nil, Some}
use Rattle.std.proofs.lemmas.Bool.{cases_lt}
use Rattle.std.specs.List.{AllByRecursion}
use Rattle.std.specs.FinMap as fin
use Rattle.flit_model.specs.Histories.{is_update_by, reads_at, history_of, history_from, IsRightAt}
use Rattle.flit_model.specs.Settling.{taken_updates}
use Rattle.flit_model.specs.declared.calls.Entry.{Entry}
use Rattle.flit_model.specs.declared.calls.Placed.{Placed}
use Rattle.flit_model.specs.declared.calls.Reply.{Reply}
use Rattle.flit_structure.specs.Moments.{made, waiting_updates, update_of, numbers_of}
use Rattle.flit_structure.specs.Meanings.{Meaning}
use Rattle.flit_structure.specs.Lawful.{Lawful, IsOfHand}
use Rattle.flit_structure.proofs.Names.{all_both, all_left, all_right, all_map, same_worker}
use Rattle.flit_structure.proofs.Ahead.{greater_behind, all_waiting}
use Rattle.flit_structure.proofs.Taken.{all_taken}
use Rattle.flit_model.specs.Lists.{IsRisingFrom}
use Rattle.flit_sched.specs.Runs.{Part, Run, IsPart, moment_of, workers_of}
use Rattle.flit_sched.specs.Views.{history_with}
use Rattle.flit_histories.specs.Reached.{Leads}
use Rattle.flit_histories.specs.Calls.{calls_in}
use Rattle.flit_histories.specs.Orders.{IsOver, IsYetToBegin, IsIn, StandsBefore, AreReadsOfOne}
use Rattle.flit_histories.proofs.Numbers.{number_at, calls_past}
use Rattle.flit_histories.proofs.PartLists.{AllFrom, all_from_at, all_from_put, workers_joined}
use Rattle.flit_histories.proofs.SoundRuns.{IsSound, IsSoundPart}
use Rattle.flit_histories.proofs.ReachedRuns.{sound_led}
use Rattle.flit_histories.proofs.ToldCalls.{NotOf, IsToldAs, IsToldPart, IsTold}
use Rattle.flit_histories.proofs.SinceRuns.{IsPast, IsPastIn, IsBehind, IsBegunIn, settled_led, past_led, behind_led}
use Rattle.flit_histories.proofs.HistoryOrders.{upto, behind_reads, history_cut, history_first, all_upto, all_behind, in_either, in_both, stands_in_back, all_in, in_front, in_behind, reads_placed}

from_zero : (n : ℕ) → 0 + n ≡ n
from_zero n = omega arith

all_trivial : {Op : Type 0} (name : ℕ) (ps : List (Part Op)) → AllFrom (λ n p. Unit {0}) name ps
all_trivial name [] = tt
all_trivial name (p ∷ ps) = (tt, all_trivial (name + 1) ps)

module _ {Op : Type 0} (meaning : Meaning Op) (l : Lawful meaning) (r : Run Op) (K : IsSound meaning r) (T : IsTold r) (next : Run Op)
    (led : Leads meaning r next) where
  Kn : IsSound meaning next
  Kn = sound_led meaning l r next led K

  abbrev more : List Entry
  more = (settled_led meaning l r K T next led).0

  grown : next.progress.settled ≡ r.progress.settled ++ more
  grown = (settled_led meaning l r K T next led).1

  -- of one part alone something is to be shown
  from_one : (P : ℕ → Part Op → Type 0) (w : ℕ) (a : List (Part Op)) (p : Part Op) (b : List (Part Op)) → IsPart r w a p b →
      ((m : ℕ) (x : Part Op) → m ≢ w → P m x) → P (1 + length a) p → AllFrom P 1 r.parts
  from_one P w a p b is others own =
      subst (AllFrom P 1) (sym is.is)
      (all_from_put (λ m x. Unit {0}) P 1 a b p p (λ m x apart u. others m x (λ e. apart (e ∙ named))) own (all_trivial 1 (a ++ p ∷ b)))
    where
      named : w ≡ 1 + length a
      named = let k = is.number in omega (arith, k)

  module _ (w : ℕ) (a : List (Part Op)) (p : Part Op) (b : List (Part Op)) (part : IsPart r w a p b) where
    named : 1 + length a ≡ w
    named = let k = part.number in omega (arith, k)

    told_part : IsToldPart r.progress r.placed w p
    told_part = subst (λ m. IsToldPart r.progress r.placed m p) named (all_from_at (IsToldPart r.progress r.placed) 1 a b p
        (subst (AllFrom (IsToldPart r.progress r.placed) 1) part.is T.each))

    sound_part : IsSoundPart meaning w p
    sound_part = subst (λ m. IsSoundPart meaning m p) named (all_from_at (IsSoundPart meaning) 1 a b p (subst (AllFrom (IsSoundPart meaning) 1) part.is K.each))

    -- an entry that is made has no greater number than its worker
    pub made_low : AllByRecursion (λ x. x.worker ≡ w → x.number ≤ p.worker.number) (made r.progress)
    made_low =
        all_map (IsOfHand (workers_of r.parts)) (λ x. x.worker ≡ w → x.number ≤ p.worker.number)
        (λ x h is. (let same = same_worker (workers_of r.parts) h.1.0 h.1.1 (workers_of a) (workers_of b) h.0 p.worker h.1.2
        (ap workers_of part.is ∙ workers_joined a b p) (l.named (moment_of r K.words K.free) K.holds).different
        (h.2 ∙ is ∙ sym (sound_part).named) in
        let le = h.3 in
        let e = ap (λ u. u.number) same in
        omega (arith, le, e)))
        (made r.progress) (l.entries (moment_of r K.words K.free) K.holds).numbered

    -- nor has a read
    pub reads_numbered : AllByRecursion (λ q. q.entry.worker ≡ w → q.entry.number ≤ p.worker.number) r.placed
    reads_numbered =
        all_map (λ q. q.entry.worker ≡ w → q.entry.number ≤ calls_in (take p.over p.items)) (λ q. q.entry.worker ≡ w → q.entry.number ≤ p.worker.number)
        (λ q h is. (let k = h is in let n = (sound_part).number in omega (arith, k, n))) r.placed (told_part).low

  -- ---- a call that was over

  module _ (w n : ℕ) (over : IsOver r w n) where
    first_past : IsPast r w n r
    first_past = record {
      past = from_one (IsPastIn w n) w over.is.before over.part over.is.behind over.is.is (λ m x apart is. absurd (apart is))
          (λ is. (let k = number_at over.part.items over.item over.call n over.is.call_at in let m =
          calls_past over.part.items over.item over.part.over over.call over.is.call_at.is over.over in omega (arith, k, m)));
      none = λ k. k;
      more = [];
      placed = sym (append-nil r.placed);
      new = tt;
    }

    since : IsPast r w n next
    since = past_led meaning l r K T w n next led first_past

    told_it : (reply : Reply) × IsToldAs r.progress r.placed w n over.call reply
    told_it =
        let o = (told_part w over.is.before over.part over.is.behind over.is.is).done over.item over.call over.over over.is.call_at.is in
        (o.0, subst (λ m. IsToldAs r.progress r.placed w m over.call o.0) (sym (number_at over.part.items over.item over.call n over.is.call_at)) o.2)

    none_late : AllByRecursion (NotOf w n) (more ++ waiting_updates next.progress)
    none_late = by_kind (told_it).0 (told_it).1 (is_update_by over.call (told_it).0) refl
      where
        whole : made next.progress ≡ r.progress.settled ++ (more ++ waiting_updates next.progress)
        whole = ap (λ xs. xs ++ waiting_updates next.progress) grown ∙ append_assoc r.progress.settled more (waiting_updates next.progress)

        by_kind : (reply : Reply) → IsToldAs r.progress r.placed w n over.call reply → (t : Bool) → is_update_by over.call reply ≡ t →
            AllByRecursion (NotOf w n) (more ++ waiting_updates next.progress)
        by_kind reply told false is =
            all_right (NotOf w n) r.progress.settled (more ++ waiting_updates next.progress)
            (subst (AllByRecursion (NotOf w n)) whole ((since).none (told.unmade is)))
        by_kind reply told true is =
            let st = told.update is in
            let split : made next.progress ≡ st.0 ++ update_of w n over.call ∷ (st.1 ++ (more ++ waiting_updates next.progress)) =
            whole ∙ ap (λ xs. xs ++ (more ++ waiting_updates next.progress)) st.2
            ∙ append_assoc st.0 (update_of w n over.call ∷ st.1) (more ++ waiting_updates next.progress) in
            all_right (NotOf w n) st.1 (more ++ waiting_updates next.progress)
            (all_map (λ x. x.worker ≡ w → suc n ≤ x.number) (NotOf w n) (λ x g hw hn. (let k = g hw in omega (arith, k, hn)))
            (st.1 ++ (more ++ waiting_updates next.progress))
            (greater_behind 0 st.0 (update_of w n over.call) (st.1 ++ (more ++ waiting_updates next.progress))
            (subst (λ xs. IsRisingFrom 0 (numbers_of w xs)) split ((l.entries (moment_of next (Kn).words (Kn).free) (Kn).holds).rises w))))

    none_more : AllByRecursion (NotOf w n) more
    none_more = all_left (NotOf w n) more (waiting_updates next.progress) none_late

    none_waiting : AllByRecursion (NotOf w n) (waiting_updates next.progress)
    none_waiting = all_right (NotOf w n) more (waiting_updates next.progress) none_late

    reads_low : AllByRecursion (λ q. q.entry.worker ≡ w → q.entry.number ≡ n → q.position ≤ length r.progress.settled) next.placed
    reads_low =
        subst (AllByRecursion (λ q. q.entry.worker ≡ w → q.entry.number ≡ n → q.position ≤ length r.progress.settled)) (sym (since).placed)
        (all_both (λ q. q.entry.worker ≡ w → q.entry.number ≡ n → q.position ≤ length r.progress.settled) r.placed (since).more
        (all_map (IsRightAt r.content r.progress.settled) (λ q. q.entry.worker ≡ w → q.entry.number ≡ n → q.position ≤ length r.progress.settled)
        (λ q h i j. h.within) r.placed K.right)
        (all_map (λ q. NotOf w n q.entry) (λ q. q.entry.worker ≡ w → q.entry.number ≡ n → q.position ≤ length r.progress.settled) (λ q h i j. absurd (h i j))
        (since).more (since).new))

  -- ---- a call that had not begun

  module _ (w n : ℕ) (ahead : IsYetToBegin r w n) where
    none_made : AllByRecursion (NotOf w n) (made r.progress)
    none_made =
        all_map (λ x. x.worker ≡ w → x.number ≤ ahead.part.worker.number) (NotOf w n)
        (λ x h i j. (let k = h i in let m = ahead.above in omega (arith, k, m, j))) (made r.progress)
        (made_low w ahead.before ahead.part ahead.behind ahead.is)

    none_settled : AllByRecursion (NotOf w n) r.progress.settled
    none_settled = all_left (NotOf w n) r.progress.settled (waiting_updates r.progress) none_made

    first_behind : IsBehind r w n r
    first_behind = record {
      begun = from_one (IsBegunIn (length r.progress.settled) w n) w ahead.before ahead.part ahead.behind ahead.is (λ m x apart is. absurd (apart is))
          (λ is same. absurd (let m = ahead.above in omega (arith, m, same)));
      reads = all_map (λ q. q.entry.worker ≡ w → q.entry.number ≤ calls_in (take ahead.part.over ahead.part.items)) (λ q. q.entry.worker ≡ w →
          q.entry.number ≡ n → length r.progress.settled ≤ q.position)
          (λ q h i j. absurd (let k = h i in let m = ahead.above in let c = (sound_part w ahead.before ahead.part ahead.behind ahead.is).number in
          omega (arith, k, m, c, j)))
          r.placed (told_part w ahead.before ahead.part ahead.behind ahead.is).low;
    }

    reads_high : AllByRecursion (λ q. q.entry.worker ≡ w → q.entry.number ≡ n → length r.progress.settled ≤ q.position) next.placed
    reads_high = (behind_led meaning l r K T w n next led first_behind).reads

  -- ---- where updates and reads stand

  pub updates_over : (front : List Entry) (x : Entry) (back : List Entry) → IsOver r x.worker x.number → next.progress.settled ≡ front ++ x ∷ back →
      length front < length r.progress.settled
  updates_over front x back over is = by_place (cases_lt (length front) (length r.progress.settled))
    where
      by_place : (length front < length r.progress.settled) ⊎ (length r.progress.settled ≤ length front) → length front < length r.progress.settled
      by_place (inl less) = less
      by_place (inr le) = absurd (all_in (NotOf x.worker x.number) more x (none_more x.worker x.number over)
          (in_behind r.progress.settled more front back x (sym grown ∙ is) le) refl refl)

  pub none_waits : (word : ℕ) (x : Entry) → IsOver r x.worker x.number → fin.get next.progress.waiting word ≡ Some x → ⊥
  none_waits word x over is = all_waiting (NotOf x.worker x.number) next.progress word x is (none_waiting x.worker x.number over) refl refl

  pub reads_over : (q : Placed) → IsOver r q.entry.worker q.entry.number → IsIn next.placed q → q.position ≤ length r.progress.settled
  reads_over q over is = all_in (λ x. x.entry.worker ≡ q.entry.worker → x.entry.number ≡ q.entry.number → x.position ≤ length r.progress.settled) next.placed q
      (reads_low q.entry.worker q.entry.number over) is refl refl

  pub updates_later : (front : List Entry) (x : Entry) (back : List Entry) → IsYetToBegin r x.worker x.number → next.progress.settled ≡ front ++ x ∷ back →
      length r.progress.settled ≤ length front
  updates_later front x back ahead is = by_place (cases_lt (length front) (length r.progress.settled))
    where
      by_place : (length front < length r.progress.settled) ⊎ (length r.progress.settled ≤ length front) → length r.progress.settled ≤ length front
      by_place (inl less) = absurd (all_in (NotOf x.worker x.number) r.progress.settled x (none_settled x.worker x.number ahead)
          (in_front r.progress.settled more front back x (sym grown ∙ is) less) refl refl)
      by_place (inr le) = le

  pub reads_later : (q : Placed) → IsYetToBegin r q.entry.worker q.entry.number → IsIn next.placed q → length r.progress.settled ≤ q.position
  reads_later q ahead is = all_in (λ x. x.entry.worker ≡ q.entry.worker → x.entry.number ≡ q.entry.number → length r.progress.settled ≤ x.position) next.placed
      q (reads_high q.entry.worker q.entry.number ahead) is refl refl

  -- ---- the history

  module _ (picks : ℕ → Bool) (d e : Entry) (over : IsOver r d.worker d.number) (ahead : IsYetToBegin r e.worker e.number) where
    abbrev low : ℕ
    low = length r.progress.settled

    abbrev first_part : List Entry
    first_part = upto 0 r.progress.settled next.placed

    abbrev last_part : List Entry
    last_part = behind_reads low more next.placed ++ taken_updates next.progress picks

    cut : history_with next picks ≡ first_part ++ (reads_at low next.placed ++ last_part)
    cut =
        ap (λ xs. history_of xs next.placed ++ taken_updates next.progress picks) grown
        ∙ ap (λ xs. xs ++ taken_updates next.progress picks) (history_cut 0 r.progress.settled more next.placed
        ∙ ap (λ k. first_part ++ history_from k more next.placed) (from_zero low) ∙ ap (λ xs. first_part ++ xs) (history_first low more next.placed))
        ∙ append_assoc first_part (reads_at low next.placed ++ behind_reads low more next.placed) (taken_updates next.progress picks)
        ∙ ap (λ xs. first_part ++ xs) (append_assoc (reads_at low next.placed) (behind_reads low more next.placed) (taken_updates next.progress picks))

    not_first : AllByRecursion (NotOf e.worker e.number) first_part
    not_first =
        all_upto (NotOf e.worker e.number) 0 r.progress.settled next.placed (none_settled e.worker e.number ahead)
        (all_map (λ q. q.entry.worker ≡ e.worker → q.entry.number ≡ e.number → low ≤ q.position) (λ q. q.position < 0 + low → NotOf e.worker e.number q.entry)
        (λ q h less i j. (let k = h i j in omega (arith, k, less))) next.placed (reads_high e.worker e.number ahead))

    not_last : AllByRecursion (NotOf d.worker d.number) last_part
    not_last =
        all_both (NotOf d.worker d.number) (behind_reads low more next.placed) (taken_updates next.progress picks)
        (all_behind (NotOf d.worker d.number) low more next.placed (none_more d.worker d.number over)
        (all_map (λ q. q.entry.worker ≡ d.worker → q.entry.number ≡ d.number → q.position ≤ low) (λ q. low < q.position → NotOf d.worker d.number q.entry)
        (λ q h less i j. (let k = h i j in omega (arith, k, less))) next.placed (reads_low d.worker d.number over)))
        (all_taken (NotOf d.worker d.number) next.progress picks (none_waiting d.worker d.number over))

    abbrev Ordered : List Entry → Type 0
    Ordered xs = StandsBefore xs d e ⊎ AreReadsOfOne next.placed d e

    pub ordered : IsIn (history_with next picks) d → IsIn (history_with next picks) e → Ordered (history_with next picks)
    ordered hd he =
        subst Ordered (sym cut)
        (by_second (in_either first_part (reads_at low next.placed ++ last_part) e (subst (λ xs. IsIn xs e) cut he))
        (in_either first_part (reads_at low next.placed ++ last_part) d (subst (λ xs. IsIn xs d) cut hd)))
      where
        by_middle : IsIn (reads_at low next.placed) d ⊎ IsIn last_part d → IsIn (reads_at low next.placed) e ⊎ IsIn last_part e →
            Ordered (first_part ++ (reads_at low next.placed ++ last_part))
        by_middle (inr x) y = absurd (all_in (NotOf d.worker d.number) last_part d not_last x refl refl)
        by_middle (inl x) (inl y) = inr (
          low,
          all_in (λ z. IsIn next.placed (record { position = low; entry = z })) (reads_at low next.placed) d
              (reads_placed low next.placed) x,
          all_in (λ z. IsIn next.placed (record { position = low; entry = z })) (reads_at low next.placed) e
              (reads_placed low next.placed) y,
        )
        by_middle (inl x) (inr y) = inl (stands_in_back first_part (reads_at low next.placed ++ last_part) d e
            (in_both (reads_at low next.placed) last_part d e x y))

        by_second : IsIn first_part e ⊎ IsIn (reads_at low next.placed ++ last_part) e → IsIn first_part d ⊎ IsIn (reads_at low next.placed ++ last_part) d →
            Ordered (first_part ++ (reads_at low next.placed ++ last_part))
        by_second (inl y) x = absurd (all_in (NotOf e.worker e.number) first_part e not_first y refl refl)
        by_second (inr y) (inl x) = inl (in_both first_part (reads_at low next.placed ++ last_part) d e x y)
        by_second (inr y) (inr x) = by_middle (in_either (reads_at low next.placed) last_part d x) (in_either (reads_at low next.placed) last_part e y)
