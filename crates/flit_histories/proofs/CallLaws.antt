-- What a history has of each call.
use Rattle.std.proofs.Common.{◌≡◌, ◌⊎◌, inl, inr, ℕ, suc, ◌+◌, ◌<◌, ◌≤◌, ◌||◌, Bool, true, false, cond, List, [], ◌∷◌, ◌++◌, length, filter, take, refl, sym, ◌∙◌, ap, subst, arith, append_assoc, append-nil, Option, Some, None, slice_get}
use Rattle.std.proofs.lemmas.Bool.{false≢true, cases_lt}
use Rattle.std.proofs.lemmas.List.Elements.{filter-append}
use Rattle.std.specs.List.{AllByRecursion}
use Rattle.flit_model.specs.Histories.{is_update_by, is_read_by, is_update, history_of, history_from, reads_at, IsRightAt}
use Rattle.flit_model.specs.Settling.{taken_updates}
use Rattle.flit_model.specs.declared.calls.Call.{Call}
use Rattle.flit_model.specs.declared.calls.Call.TheVariants.{Insert, Remove, Contains, Get}
use Rattle.flit_model.specs.declared.calls.Entry.{Entry}
use Rattle.flit_model.specs.declared.calls.Item.{Item}
use Rattle.flit_model.specs.declared.calls.Item.TheVariants.{Call as Call_item, Evict as Evict_item}
use Rattle.flit_model.specs.declared.calls.Outcome.{Outcome}
use Rattle.flit_model.specs.declared.calls.Outcome.TheVariants.{Replied, Stopped}
use Rattle.flit_model.specs.declared.calls.Placed.{Placed}
use Rattle.flit_model.specs.declared.calls.Reply.{Reply}
use Rattle.flit_model.specs.declared.calls.Reply.TheVariants.{Yes, No, Found, Full, Worn}
use Rattle.flit_model.proofs.HistoryLaws.{filter_none, all-reads_at, update_is_no_read}
use Rattle.flit_structure.specs.declared.workers.Doing.{Doing}
use Rattle.flit_structure.specs.declared.workers.Doing.TheVariants.{Idle, Busy, Evicting}
use Rattle.flit_structure.specs.Moments.{Moment, made, waiting_updates, update_of}
use Rattle.flit_structure.specs.Meanings.{Meaning}
use Rattle.flit_structure.specs.Lawful.{Lawful, IsOfHand}
use Rattle.flit_structure.proofs.Names.{all_both, all_left, all_right, all_at, all_map, same_worker}
use Rattle.flit_structure.proofs.Taken.{all_taken}
use Rattle.flit_sched.specs.Runs.{Part, Run, IsPart, moment_of, workers_of}
use Rattle.flit_sched.specs.Kept.{one_if_busy}
use Rattle.flit_sched.specs.Views.{history_with}
use Rattle.flit_histories.specs.Calls.{calls_in, IsCallAt, is_of, entries_of, IsOfCall, IsUnderWayAt}
use Rattle.flit_histories.proofs.Numbers.{number_at, calls_rise, calls_past}
use Rattle.flit_histories.proofs.PartLists.{AllFrom, HasFrom, all_from_at, has_at, has_found, workers_joined}
use Rattle.flit_histories.proofs.SoundRuns.{IsSound, IsSoundPart, IsAtWork}
use Rattle.flit_histories.proofs.ToldCalls.{NotOf, IsToldAs, IsToldPart, HasCall, IsTold}
use Rattle.flit_histories.proofs.HistoryFilters.{filter_split, filter_only, filter_updates, filter_read}
use Rattle.flit_histories.proofs.OneEach.{is_of_both, is_of_it, not_of, none_of, made_once}

update_yes : (call : Call) (reply : Reply) → is_update_by call reply ≡ true → reply ≡ Yes
update_yes (Insert k v) Yes h = refl
update_yes (Insert k v) No h = absurd (false≢true h)
update_yes (Insert k v) (Found x) h = absurd (false≢true h)
update_yes (Insert k v) (Full t) h = absurd (false≢true h)
update_yes (Insert k v) (Worn w x) h = absurd (false≢true h)
update_yes (Remove k) Yes h = refl
update_yes (Remove k) No h = absurd (false≢true h)
update_yes (Remove k) (Found x) h = absurd (false≢true h)
update_yes (Remove k) (Full t) h = absurd (false≢true h)
update_yes (Remove k) (Worn w x) h = absurd (false≢true h)
update_yes (Contains k) reply h = absurd (false≢true h)
update_yes (Get k) reply h = absurd (false≢true h)

pub full_none : (worker number : ℕ) (call : Call) (ticket : ℕ) → entries_of worker number call (Full ticket) ≡ []
full_none worker number (Insert k v) ticket = refl
full_none worker number (Remove k) ticket = refl
full_none worker number (Contains k) ticket = refl
full_none worker number (Get k) ticket = refl

pub worn_none : (worker number : ℕ) (call : Call) (word version : ℕ) → entries_of worker number call (Worn word version) ≡ []
worn_none worker number (Insert k v) word version = refl
worn_none worker number (Remove k) word version = refl
worn_none worker number (Contains k) word version = refl
worn_none worker number (Get k) word version = refl

pub all_history : (P : Entry → Type 0) (n : ℕ) (us : List Entry) (reads : List Placed) → AllByRecursion P us → AllByRecursion (λ q. P q.entry) reads →
    AllByRecursion P (history_from n us reads)
all_history P n [] reads h k = all-reads_at P n reads (all_map (λ q. P q.entry) (λ q. q.position ≡ n → P q.entry) (λ q x e. x) reads k)
all_history P n (u ∷ us) reads h k =
    all_both P (reads_at n reads) (u ∷ history_from (suc n) us reads) (all-reads_at P n reads
    (all_map (λ q. P q.entry) (λ q. q.position ≡ n → P q.entry) (λ q x e. x) reads k))
    (h.0, all_history P (suc n) us reads h.1 k)

same_update : (x : Entry) (worker number : ℕ) (call : Call) → x.worker ≡ worker → x.number ≡ number → x.call ≡ call → x.reply ≡ Yes →
    x ≡ update_of worker number call
same_update x worker number call hw hn hc hr =
    ap {B = Entry} (λ w. record { worker = w; number = x.number; call = x.call; reply = x.reply }) hw
    ∙ ap {B = Entry} (λ n. record { worker = worker; number = n; call = x.call; reply = x.reply }) hn
    ∙ ap {B = Entry} (λ c. record { worker = worker; number = number; call = c; reply = x.reply }) hc
    ∙ ap {B = Entry} (λ y. record { worker = worker; number = number; call = call; reply = y }) hr

one_place : (items : List Item) (j k : ℕ) (c call : Call) (n : ℕ) → IsCallAt items j c n → IsCallAt items k call n → c ≡ call
one_place items j k c call n h i = by_place (cases_lt j k) (cases_lt k j)
  where
    by_place : (j < k) ⊎ (k ≤ j) → (k < j) ⊎ (j ≤ k) → c ≡ call
    by_place (inl less) y = let a = number_at items j c n h in let b = number_at items k call n i in let past = calls_past items j k c h.is less in
        absurd (omega (arith, a, b, past))
    by_place (inr le) (inl less) = let a = number_at items j c n h in let b = number_at items k call n i in let past = calls_past items k j call i.is less in
        absurd (omega (arith, a, b, past))
    by_place (inr le) (inr ge) = let same : j ≡ k = omega (arith, le, ge) in one_call c call (sym h.is ∙ ap (slice_get items) same ∙ i.is)
      where
        one_call : (x y : Call) → Some (Call_item x) ≡ Some (Call_item y) → x ≡ y
        one_call x y q = cc

module _ {Op : Type 0} (meaning : Meaning Op) (l : Lawful meaning) (r : Run Op) (K : IsSound meaning r) (T : IsTold r) (picks : ℕ → Bool) where
  abbrev M : Moment Op
  M = moment_of r K.words K.free

  abbrev taken : List Entry
  taken = taken_updates r.progress picks

  all_updates : (P : Entry → Type 0) → AllByRecursion P (made r.progress) → AllByRecursion P (r.progress.settled ++ taken)
  all_updates P h =
      all_both P r.progress.settled taken (all_left P r.progress.settled (waiting_updates r.progress) h)
      (all_taken P r.progress picks (all_right P r.progress.settled (waiting_updates r.progress) h))

  module _ (worker number : ℕ) where
    abbrev p_of : Entry → Bool
    p_of = is_of worker number

    no_reads : AllByRecursion (λ q. NotOf worker number q.entry) r.placed → filter p_of (history_with r picks) ≡ filter p_of (r.progress.settled ++ taken)
    no_reads none =
        filter-append p_of (history_of r.progress.settled r.placed) taken
        ∙ ap (λ xs. xs ++ filter p_of taken) (filter_updates p_of 0 r.progress.settled r.placed
        (all_map (λ q. NotOf worker number q.entry) (λ q. p_of q.entry ≡ false) (λ q k. not_of worker number q.entry k) r.placed none))
        ∙ sym (filter-append p_of r.progress.settled taken)

    once : length (filter p_of (r.progress.settled ++ taken)) ≤ 1
    once = made_once meaning l M K.holds worker number picks

    module _ (call : Call) (reply : Reply) (told : IsToldAs r.progress r.placed worker number call reply) where
      abbrev it : Entry
      it = record { worker = worker; number = number; call = call; reply = reply }

      abbrev entries_if : Bool → Bool → List Entry
      entries_if b c = cond (b || c) (it ∷ []) []

      as_update : is_update_by call reply ≡ true → filter p_of (history_with r picks) ≡ it ∷ []
      as_update kind =
          let st = told.update kind in
          let split : r.progress.settled ++ taken ≡ st.0 ++ update_of worker number call ∷ (st.1 ++ taken) = ap (λ xs. xs ++ taken) st.2
          ∙ append_assoc st.0 (update_of worker number call ∷ st.1) taken in
          no_reads (told.unread (update_is_no_read it kind)) ∙ ap (filter p_of) split
          ∙ filter_only p_of st.0 (st.1 ++ taken) (update_of worker number call) (is_of_it worker number (update_of worker number call) refl refl)
          (subst (λ xs. length (filter p_of xs) ≤ 1) split once)
          ∙ ap {B = List Entry} (λ y. record { worker = worker; number = number; call = call; reply = y } ∷ []) (sym (update_yes call reply kind))

      as_read : is_update_by call reply ≡ false → is_read_by call reply ≡ true → filter p_of (history_with r picks) ≡ it ∷ []
      as_read other kind =
          let o = told.read kind in
          let none = told.unmade other in
          let f = λ (qs : List Placed) (h : AllByRecursion (λ q. NotOf worker number q.entry) qs). all_map (λ q. NotOf worker number q.entry)
          (λ q. p_of q.entry ≡ false) (λ q k. not_of worker number q.entry k) qs h in
          let low : o.read.position ≤ length r.progress.settled = (all_at (IsRightAt r.content r.progress.settled) o.before o.behind o.read
          (subst (AllByRecursion (IsRightAt r.content r.progress.settled)) o.is K.right)).within in
          filter-append p_of (history_of r.progress.settled r.placed) taken
          ∙ ap (λ xs. filter p_of (history_of r.progress.settled r.placed) ++ xs)
          (filter_none p_of taken (none_of worker number taken (all_taken (NotOf worker number) r.progress picks
          (all_right (NotOf worker number) r.progress.settled (waiting_updates r.progress) none))))
          ∙ append-nil (filter p_of (history_of r.progress.settled r.placed))
          ∙ ap (λ qs. filter p_of (history_of r.progress.settled qs)) o.is
          ∙ filter_read p_of o.before o.behind o.read (is_of_it worker number o.read.entry (ap (λ y. y.worker) o.entry) (ap (λ y. y.number) o.entry))
          (f o.before o.front) (f o.behind o.back) 0 r.progress.settled (omega arith) (omega (arith, low))
          (none_of worker number r.progress.settled (all_left (NotOf worker number) r.progress.settled (waiting_updates r.progress) none))
          ∙ ap (λ y. y ∷ []) o.entry

      as_none : is_update_by call reply ≡ false → is_read_by call reply ≡ false → filter p_of (history_with r picks) ≡ []
      as_none other kind = no_reads (told.unread kind) ∙ filter_none p_of (r.progress.settled ++ taken)
          (none_of worker number (r.progress.settled ++ taken) (all_updates (NotOf worker number) (told.unmade other)))

      told_entries : filter p_of (history_with r picks) ≡ entries_of worker number call reply
      told_entries = by_kind (is_update_by call reply) (is_read_by call reply) refl refl
        where
          by_kind : (b c : Bool) → is_update_by call reply ≡ b → is_read_by call reply ≡ c → filter p_of (history_with r picks) ≡ entries_if b c
          by_kind true c u v = as_update u
          by_kind false true u v = as_read u v
          by_kind false false u v = as_none u v

  module _ (worker : ℕ) (a : List (Part Op)) (p : Part Op) (b : List (Part Op)) (part : IsPart r worker a p b) where
    named : 1 + length a ≡ worker
    named = let n = part.number in omega (arith, n)

    told_part : IsToldPart r.progress r.placed worker p
    told_part = subst (λ n. IsToldPart r.progress r.placed n p) named (all_from_at (IsToldPart r.progress r.placed) 1 a b p
        (subst (AllFrom (IsToldPart r.progress r.placed) 1) part.is T.each))

    sound_part : IsSoundPart meaning worker p
    sound_part = subst (λ n. IsSoundPart meaning n p) named (all_from_at (IsSoundPart meaning) 1 a b p (subst (AllFrom (IsSoundPart meaning) 1) part.is K.each))

    pub evict_outcome : (k word : ℕ) → slice_get p.items k ≡ Some (Evict_item word) → slice_get p.outcomes k ≡ Some None
    evict_outcome k word is = (told_part).swept k word is

    module _ (k : ℕ) (call : Call) (number : ℕ) (c : IsCallAt p.items k call number) where
      pub over_outcome : k < p.over → (reply : Reply) × (slice_get p.outcomes k ≡ Some (Some (Replied reply)))
      over_outcome less = let o = (told_part).done k call less c.is in (o.0, o.1)

      pub rest_outcome : p.over ≤ k → slice_get p.outcomes k ≡ Some (Some Stopped)
      rest_outcome le = (told_part).waits k call le c.is

      pub has_outcome : (outcome : Outcome) × (slice_get p.outcomes k ≡ Some (Some outcome))
      has_outcome = by_place (cases_lt k p.over)
        where
          by_place : (k < p.over) ⊎ (p.over ≤ k) → (outcome : Outcome) × (slice_get p.outcomes k ≡ Some (Some outcome))
          by_place (inl less) = let o = (told_part).done k call less c.is in (Replied o.0, o.1)
          by_place (inr le) = (Stopped, (told_part).waits k call le c.is)

      not_both : (reply : Reply) → slice_get p.outcomes k ≡ Some (Some (Replied reply)) → slice_get p.outcomes k ≡ Some (Some Stopped) → ⊥
      not_both reply x y = let e = sym x ∙ y in absurd (cc)

      one_reply : (x y : Reply) → slice_get p.outcomes k ≡ Some (Some (Replied x)) → slice_get p.outcomes k ≡ Some (Some (Replied y)) → x ≡ y
      one_reply x y e f = let q = sym e ∙ f in cc

      pub replied_entries : (reply : Reply) → slice_get p.outcomes k ≡ Some (Some (Replied reply)) →
          filter (is_of worker number) (history_with r picks) ≡ entries_of worker number call reply
      replied_entries reply is = by_place (cases_lt k p.over)
        where
          by_place : (k < p.over) ⊎ (p.over ≤ k) → filter (is_of worker number) (history_with r picks) ≡ entries_of worker number call reply
          by_place (inr le) = absurd (not_both reply is ((told_part).waits k call le c.is))
          by_place (inl less) =
              let o = (told_part).done k call less c.is in
              told_entries worker number call reply
              (subst (λ n. IsToldAs r.progress r.placed worker n call reply) (sym (number_at p.items k call number c))
              (subst (λ y. IsToldAs r.progress r.placed worker (calls_in (take k p.items) + 1) call y) (one_reply o.0 reply o.1 is) o.2))

      -- an update of the call is this one
      is_its_update : (x : Entry) → is_update x ≡ true → HasFrom (HasCall x) 1 r.parts → is_of worker number x ≡ true → x ≡ update_of worker number call
      is_its_update x update has is =
          let both = is_of_both worker number x is in
          let at = has_at (HasCall x) 1 a b p (λ n y h. sym h.0 ∙ both.0 ∙ sym named) (subst (HasFrom (HasCall x) 1) part.is has) in
          same_update x worker number call both.0 both.1 (one_place p.items at.1.0 k x.call call number (subst (IsCallAt p.items at.1.0 x.call) both.1 at.1.1)
          c) (update_yes x.call x.reply update)

      -- a call that has an update and no reply is that which the worker is at
      under_way : p.over ≤ k → (x : Entry) → IsOfHand (workers_of r.parts) x → is_of worker number x ≡ true → IsUnderWayAt p k call
      under_way le x hand is = by_doing p.worker.doing refl (sound_part).at_work (ap one_if_busy refl)
        where
          both : (x.worker ≡ worker) × (x.number ≡ number)
          both = is_of_both worker number x is

          same : hand.0 ≡ p.worker
          same = same_worker (workers_of r.parts) hand.1.0 hand.1.1 (workers_of a) (workers_of b) hand.0 p.worker hand.1.2
              (ap workers_of part.is ∙ workers_joined a b p) (l.named M K.holds).different
              (hand.2 ∙ (both).0 ∙ sym (sound_part).named)

          low : number ≤ calls_in (take p.over p.items) + one_if_busy p.worker.doing
          low = let h = hand.3 in let e = ap (λ w. w.number) same in let n = (sound_part).number in let m = (both).1 in omega (arith, h, e, n, m)

          above : calls_in (take p.over p.items) + 1 ≤ number
          above = let n = number_at p.items k call number c in let rise = calls_rise p.items p.over k le in omega (arith, n, rise)

          by_call : (o : Op) (d : Call) (begun : Option ℕ) → p.worker.doing ≡ Busy o d begun → slice_get p.items p.over ≡ Some (Call_item d) → (p.over < k)
              ⊎ (k ≤ p.over) → IsUnderWayAt p k call
          by_call o d begun at_d item (inl less) =
              let past = calls_past p.items p.over k d item less in
              let n = number_at p.items k call number c in
              let busy = ap one_if_busy at_d in
              let lo = low in
              absurd (omega (arith, past, n, busy, lo))
          by_call o d begun at_d item (inr ge) =
              let equal : k ≡ p.over = omega (arith, le, ge) in
              record {
                op = o;
                begun = begun;
                next = equal;
                busy = at_d ∙ ap (λ y. Busy o y begun)
                    (one_call d call (sym item ∙ ap (slice_get p.items) (sym equal) ∙ c.is));
              }
            where
              one_call : (x y : Call) → Some (Call_item x) ≡ Some (Call_item y) → x ≡ y
              one_call x y q = cc

          by_doing : (d : Doing Op) → p.worker.doing ≡ d → IsAtWork meaning (slice_get p.items p.over) d → one_if_busy d ≡ one_if_busy d → IsUnderWayAt p k call
          by_doing (Idle hand) at_d work e = let lo = low in let up = above in let idle = ap one_if_busy at_d in absurd (omega (arith, lo, up, idle))
          by_doing (Busy o d None) at_d work e = absurd work
          by_doing (Busy o d (Some n)) at_d work e = by_call o d (Some n) at_d work.0 (cases_lt p.over k)
          by_doing (Evicting evict) at_d work e = let lo = low in let up = above in let idle = ap one_if_busy at_d in absurd (omega (arith, lo, up, idle))

      none_read : p.over ≤ k → AllByRecursion (λ q. NotOf worker number q.entry) r.placed
      none_read le =
          all_map (λ q. q.entry.worker ≡ worker → q.entry.number ≤ calls_in (take p.over p.items)) (λ q. NotOf worker number q.entry)
          (λ q low w m. (let x = low w in let n = number_at p.items k call number c in let rise = calls_rise p.items p.over k le in
          omega (arith, x, n, rise, m))) r.placed (told_part).low

      abbrev IsIts : Entry → Type 0
      IsIts x = is_of worker number x ≡ true → (x ≡ update_of worker number call) × (p.over ≤ k → IsUnderWayAt p k call)

      its_updates : AllByRecursion IsIts (r.progress.settled ++ taken)
      its_updates = all_updates IsIts (three (made r.progress) (l.entries M K.holds).updates T.made_by (l.entries M K.holds).numbered)
        where
          three : (xs : List Entry) → AllByRecursion (λ e. is_update e ≡ true) xs → AllByRecursion (λ e. HasFrom (HasCall e) 1 r.parts) xs →
              AllByRecursion (IsOfHand (workers_of r.parts)) xs → AllByRecursion IsIts xs
          three [] u v w = tt
          three (x ∷ xs) u v w = ((λ is. (is_its_update x u.0 v.0 is, λ le. under_way le x w.0 is)), three xs u.1 v.1 w.1)

      abbrev AtMostIts : List Entry → Type 0
      AtMostIts xs = (xs ≡ []) ⊎ ((xs ≡ update_of worker number call ∷ []) × IsUnderWayAt p k call)

      pub stopped_entries : slice_get p.outcomes k ≡ Some (Some Stopped) → AtMostIts (filter (is_of worker number) (history_with r picks))
      stopped_entries is = by_place (cases_lt k p.over)
        where
          by_made : p.over ≤ k → (xs : List Entry) → filter (is_of worker number) (r.progress.settled ++ taken) ≡ xs → AtMostIts xs
          by_made le [] e = inl refl
          by_made le (x ∷ []) e =
              let w = filter_split (is_of worker number) (r.progress.settled ++ taken) x [] e in
              let its = all_at IsIts w.0 w.1 x (subst (AllByRecursion IsIts) w.2 its_updates) w.3 in
              inr (ap (λ y. y ∷ []) its.0, its.1 le)
          by_made le (x ∷ y ∷ xs) e = let m = subst (λ ys. length ys ≤ 1) e (once worker number) in absurd (omega (arith, m))

          by_place : (k < p.over) ⊎ (p.over ≤ k) → AtMostIts (filter (is_of worker number) (history_with r picks))
          by_place (inl less) = let o = (told_part).done k call less c.is in absurd (not_both o.0 o.1 is)
          by_place (inr le) = subst AtMostIts (sym (no_reads worker number (none_read le)))
              (by_made le (filter (is_of worker number) (r.progress.settled ++ taken)) refl)

  of_call : (x : Entry) → HasFrom (HasCall x) 1 r.parts → IsOfCall r x
  of_call x h =
      let f = has_found (HasCall x) 1 r.parts h in
      record {
        part = f.part;
        item = f.has.1.0;
        is = record { before = f.before; behind = f.behind; is = record { is = f.is; number = (let n = f.has.0 in omega (arith, n)) }; call_at = f.has.1.1 };
      }

  pub all_of_calls : AllByRecursion (IsOfCall r) (history_with r picks)
  all_of_calls =
      let each = all_map (λ x. HasFrom (HasCall x) 1 r.parts) (IsOfCall r) of_call (made r.progress) T.made_by in
      all_both (IsOfCall r) (history_of r.progress.settled r.placed) taken
      (all_history (IsOfCall r) 0 r.progress.settled r.placed (all_left (IsOfCall r) r.progress.settled (waiting_updates r.progress) each)
      (all_map (λ q. HasFrom (HasCall q.entry) 1 r.parts) (λ q. IsOfCall r q.entry) (λ q. of_call q.entry) r.placed T.read_by))
      (all_taken (IsOfCall r) r.progress picks (all_right (IsOfCall r) r.progress.settled (waiting_updates r.progress) each))
