-- Two entries of one worker stand in the history in the order of their numbers.
use Rattle.std.proofs.Common.{◌≡◌, ◌⊎◌, inl, inr, ℕ, zero, suc, ◌+◌, ◌<◌, ◌≤◌, ◌==◌, ◌&&◌, ◌||◌, nat_le, Bool, true, false, cond, List, [], ◌∷◌, ◌++◌, length, map, filter, take, refl, sym, ◌∙◌, ap, subst, arith, append_assoc}
use Rattle.std.proofs.lemmas.Bool.{cases_lt, false≢true, eq-eqb, le-ltb, leb-true, le-leb}
use Rattle.std.proofs.lemmas.Bool.Decides.{leb_tells}
use Rattle.std.proofs.lemmas.List.Elements.{filter-append}
use Rattle.std.specs.List.{AllByRecursion}
use Rattle.flit_model.specs.Histories.{stands_before, put_in_order, in_order, reads_at, history_of, history_from, IsRightAt}
use Rattle.flit_model.specs.Settling.{taken_updates}
use Rattle.flit_model.specs.declared.calls.Entry.{Entry}
use Rattle.flit_model.specs.declared.calls.Placed.{Placed}
use Rattle.flit_pv.specs.declared.hands.Hand.{Hand}
use Rattle.flit_structure.specs.declared.workers.Doing.TheVariants.{Idle}
use Rattle.flit_structure.specs.Moments.{waiting_updates}
use Rattle.flit_structure.specs.Meanings.{Meaning}
use Rattle.flit_structure.specs.Lawful.{Lawful}
use Rattle.flit_structure.proofs.Names.{all_both, all_left, all_right}
use Rattle.flit_structure.proofs.Taken.{all_taken}
use Rattle.flit_sched.specs.Runs.{Part, Run, IsPart}
use Rattle.flit_sched.specs.Histories.{put_by, in_order_by}
use Rattle.flit_sched.specs.Kept.{one_if_busy}
use Rattle.flit_sched.specs.Views.{history_with}
use Rattle.flit_sched.proofs.StableOrders.{IsOrder, Below, Up, up_sorted}
use Rattle.flit_sched.proofs.ReadOrders.{total_then, on_then, own_then}
use Rattle.flit_sched.proofs.SeatLaws.{map_joined}
use Rattle.flit_histories.specs.Calls.{calls_in, IsCallAt, IsOfCall}
use Rattle.flit_histories.specs.Orders.{IsOver, IsYetToBegin, IsIn, StandsBefore, AreReadsOfOne}
use Rattle.flit_histories.specs.Reached.{Leads, here, turn}
use Rattle.flit_histories.specs.TurnLaws.{IsLater}
use Rattle.flit_histories.proofs.Numbers.{number_at, calls_rise}
use Rattle.flit_histories.proofs.PartLists.{AllFrom, all_from_at}
use Rattle.flit_histories.proofs.SoundRuns.{IsSound, IsSoundPart}
use Rattle.flit_histories.proofs.ReachedRuns.{sound_led}
use Rattle.flit_histories.proofs.ToldCalls.{IsTold}
use Rattle.flit_histories.proofs.ToldRuns.{told_led}
use Rattle.flit_histories.proofs.CallLaws.{all_of_calls, all_history}
use Rattle.flit_histories.proofs.HistoryOrders.{upto, behind_reads, history_cut, history_first, stands_in_back, all_in}
use Rattle.flit_histories.proofs.LedParts.{HasPart, IsNext, part_before, later_joined}
use Rattle.flit_histories.proofs.OrderLaws.{ordered, made_low, reads_numbered}

-- ---- reads of one position

total_le : (a b : ℕ) → nat_le a b ≡ false → nat_le b a ≡ true
total_le a b f = by_test (leb_tells a b)
  where
    by_test : ((nat_le a b ≡ true) × (a ≤ b)) ⊎ ((nat_le a b ≡ false) × (b < a)) → nat_le b a ≡ true
    by_test (inl t) = absurd (false≢true (sym f ∙ t.0))
    by_test (inr t) = let k = t.1 in le-leb b a (omega (arith, k))

on_le : (a b c : ℕ) → nat_le a b ≡ true → nat_le b c ≡ true → nat_le a c ≡ true
on_le a b c e f = let k = leb-true a b e in let m = leb-true b c f in le-leb a c (omega (arith, k, m))

-- reads of one position stand by worker and then by number
stands_order : IsOrder stands_before
stands_order = record {
  total = λ d e. total_then d.worker e.worker _ _ (total_le d.number e.number);
  on = λ d e f. on_then d.worker e.worker f.worker _ _ _ (on_le d.number e.number f.number);
  own = λ e. own_then e.worker _ (le-leb e.number e.number (omega arith));
}

-- of one worker the greater number doesn't stand before the lesser
numbers_stand : (d e : Entry) → d.worker ≡ e.worker → d.number < e.number → stands_before e d ≡ false
numbers_stand d e same less =
    ap (λ t. t || ((e.worker == d.worker) && nat_le e.number d.number)) (le-ltb e.worker d.worker (omega (arith, same)))
    ∙ ap (λ t. t && nat_le e.number d.number) (eq-eqb e.worker d.worker (sym same)) ∙ above (leb_tells e.number d.number)
  where
    above : ((nat_le e.number d.number ≡ true) × (e.number ≤ d.number)) ⊎ ((nat_le e.number d.number ≡ false) × (d.number < e.number)) →
        nat_le e.number d.number ≡ false
    above (inl t) = let k = t.1 in absurd (omega (arith, k, less))
    above (inr t) = t.0

in_more : {X : Type 0} (y : X) (xs : List X) (x : X) → IsIn xs x → IsIn (y ∷ xs) x
in_more y xs x h = (y ∷ h.0, h.1, ap (λ zs. y ∷ zs) h.2)

in_first : {X : Type 0} (xs : List X) (x : X) → IsIn (x ∷ xs) x
in_first xs x = ([], xs, refl)

in_head : {X : Type 0} (y : X) (xs : List X) (x : X) → IsIn (y ∷ xs) x → (y ≡ x) ⊎ IsIn xs x
in_head y xs x ([], g, e) = let same : y ≡ x = cc in inl same
in_head y xs x (z ∷ f, g, e) = let rest : xs ≡ f ++ x ∷ g = cc in inr (f, g, rest)

in_put_own : (e : Entry) (ds : List Entry) → IsIn (put_in_order e ds) e
in_put_own e [] = in_first [] e
in_put_own e (d ∷ ds) = by_test (stands_before e d) (in_put_own e ds)
  where
    by_test : (b : Bool) → IsIn (put_in_order e ds) e → IsIn (cond b (e ∷ d ∷ ds) (d ∷ put_in_order e ds)) e
    by_test true h = in_first (d ∷ ds) e
    by_test false h = in_more d (put_in_order e ds) e h

in_put : (e : Entry) (ds : List Entry) (x : Entry) → IsIn ds x → IsIn (put_in_order e ds) x
in_put e [] x h = in_more e [] x h
in_put e (d ∷ ds) x h = by_test (in_put e ds x) (stands_before e d) (in_head d ds x h)
  where
    by_test : (IsIn ds x → IsIn (put_in_order e ds) x) → (b : Bool) → (d ≡ x) ⊎ IsIn ds x → IsIn (cond b (e ∷ d ∷ ds) (d ∷ put_in_order e ds)) x
    by_test rest true k = in_more e (d ∷ ds) x h
    by_test rest false (inl same) = subst (IsIn (d ∷ put_in_order e ds)) same (in_first (put_in_order e ds) d)
    by_test rest false (inr k) = in_more d (put_in_order e ds) x (rest k)

in_sorted : (es : List Entry) (x : Entry) → IsIn es x → IsIn (in_order es) x
in_sorted [] x h = h
in_sorted (e ∷ es) x h = by_place (in_sorted es x) (in_head e es x h)
  where
    by_place : (IsIn es x → IsIn (in_order es) x) → (e ≡ x) ⊎ IsIn es x → IsIn (put_in_order e (in_order es)) x
    by_place rest (inl same) = subst (IsIn (put_in_order e (in_order es))) same (in_put_own e (in_order es))
    by_place rest (inr k) = in_put e (in_order es) x (rest k)

same_put : (e : Entry) (ds : List Entry) → put_in_order e ds ≡ put_by stands_before e ds
same_put e [] = refl
same_put e (d ∷ ds) = ap (λ xs. cond (stands_before e d) (e ∷ d ∷ ds) (d ∷ xs)) (same_put e ds)

same_order : (es : List Entry) → in_order es ≡ in_order_by stands_before es
same_order [] = refl
same_order (e ∷ es) = same_put e (in_order es) ∙ ap (put_by stands_before e) (same_order es)

below_in : (x : Entry) (xs : List Entry) (y : Entry) → Below stands_before x xs → IsIn xs y → stands_before x y ≡ true
below_in x xs y h k = at k.0 xs h k.2
  where
    at : (f zs : List Entry) → Below stands_before x zs → zs ≡ f ++ y ∷ k.1 → stands_before x y ≡ true
    at [] [] b e = absurd (cc)
    at [] (z ∷ zs) b e = let same : z ≡ y = cc in subst (λ v. stands_before x v ≡ true) same b.0
    at (v ∷ f) [] b e = absurd (cc)
    at (v ∷ f) (z ∷ zs) b e = let rest : zs ≡ f ++ y ∷ k.1 = cc in at f zs b.1 rest

-- of two in a list in order, that which may not stand before the other stands behind it
two_in : (xs : List Entry) (d e : Entry) → Up stands_before xs → stands_before e d ≡ false → IsIn xs d → IsIn xs e → StandsBefore xs d e
two_in [] d e up never h k = absurd (none h.0 h.2)
  where
    none : (f : List Entry) → [] ≡ f ++ d ∷ h.1 → ⊥
    none [] q = cc
    none (z ∷ f) q = cc
two_in (x ∷ xs) d e up never h k = by_place (two_in xs d e up.1 never) (in_head x xs d h) (in_head x xs e k)
  where
    by_place : (IsIn xs d → IsIn xs e → StandsBefore xs d e) → (x ≡ d) ⊎ IsIn xs d → (x ≡ e) ⊎ IsIn xs e → StandsBefore (x ∷ xs) d e
    by_place rest (inl i) (inl j) = absurd (false≢true (sym never ∙ subst (λ v. stands_before e v ≡ true) (sym j ∙ i) (stands_order.own e)))
    by_place rest (inl i) (inr j) = ([], j.0, j.1, ap (λ v. v ∷ xs) i ∙ ap (λ zs. d ∷ zs) j.2)
    by_place rest (inr i) (inl j) = absurd (false≢true (sym never ∙ subst (λ v. stands_before v d ≡ true) j (below_in x xs d up.0 i)))
    by_place rest (inr i) (inr j) = let r = rest i j in (x ∷ r.0, r.1, r.2, ap (λ zs. x ∷ zs) r.3)

in_reads : (n : ℕ) (reads : List Placed) (x : Entry) → IsIn reads (record { position = n; entry = x }) → IsIn (reads_at n reads) x
in_reads n reads x h =
    in_sorted (map (λ r. r.entry) (filter (λ r. r.position == n) reads)) x (
      map (λ r. r.entry) (filter (λ r. r.position == n) h.0),
      map (λ r. r.entry) (filter (λ r. r.position == n) h.1),
      ap (λ rs. map (λ r. r.entry) (filter (λ r. r.position == n) rs)) h.2
          ∙ ap (map (λ r. r.entry)) (filter-append (λ r. r.position == n) h.0 (record { position = n; entry = x } ∷ h.1)
          ∙ ap (λ b. filter (λ r. r.position == n) h.0 ++ cond b (record { position = n; entry = x } ∷ filter (λ r. r.position == n) h.1)
          (filter (λ r. r.position == n) h.1)) (eq-eqb n n refl))
          ∙ map_joined (λ (r : Placed). r.entry) (filter (λ r. r.position == n) h.0) (filter (λ r. r.position == n) h.1) (record { position = n; entry = x }),
    )

reads_stand : (n : ℕ) (reads : List Placed) (d e : Entry) → d.worker ≡ e.worker → d.number < e.number → IsIn reads (record { position = n; entry = d }) →
    IsIn reads (record { position = n; entry = e }) → StandsBefore (reads_at n reads) d e
reads_stand n reads d e same less h k =
    two_in (reads_at n reads) d e
    (subst (Up stands_before) (sym (same_order (map (λ r. r.entry) (filter (λ r. r.position == n) reads))))
    (up_sorted stands_before stands_order (map (λ r. r.entry) (filter (λ r. r.position == n) reads))))
    (numbers_stand d e same less) (in_reads n reads d h) (in_reads n reads e k)

stands_in_front : {X : Type 0} (xs zs : List X) (x y : X) → StandsBefore xs x y → StandsBefore (xs ++ zs) x y
stands_in_front xs zs x y h = (
  h.0,
  h.1,
  h.2 ++ zs,
  ap (λ v. v ++ zs) h.3 ∙ append_assoc h.0 (x ∷ (h.1 ++ y ∷ h.2)) zs ∙ ap (λ v. h.0 ++ x ∷ v) (append_assoc h.1 (y ∷ h.2) zs),
)

parted_at : {X : Type 0} (n : ℕ) (xs : List X) → n ≤ length xs → (us : List X) × (vs : List X) × (xs ≡ us ++ vs) × (length us ≡ n)
parted_at zero xs h = ([], xs, refl, refl)
parted_at (suc n) [] h = absurd (omega (arith, h))
parted_at (suc n) (x ∷ xs) h = let r = parted_at n xs (omega (arith, h)) in (x ∷ r.0, r.1, ap (λ v. x ∷ v) r.2, ap suc r.3)

reads_in_history : (n : ℕ) (settled : List Entry) (reads : List Placed) (taken : List Entry) (d e : Entry) → n ≤ length settled →
    StandsBefore (reads_at n reads) d e → StandsBefore (history_of settled reads ++ taken) d e
reads_in_history n settled reads taken d e within h =
    let s = parted_at n settled within in
    stands_in_front (history_of settled reads) taken d e
    (subst (λ xs. StandsBefore xs d e)
    (sym (ap (λ us. history_from 0 us reads) s.2 ∙ history_cut 0 s.0 s.1 reads ∙ ap (λ k. upto 0 s.0 reads ++ history_from k s.1 reads) (from_zero (length s.0) ∙ s.3)
    ∙ ap (λ xs. upto 0 s.0 reads ++ xs) (history_first n s.1 reads)))
    (stands_in_back (upto 0 s.0 reads) (reads_at n reads ++ behind_reads n s.1 reads) d e
    (stands_in_front (reads_at n reads) (behind_reads n s.1 reads) d e h)))
  where
    from_zero : (k : ℕ) → 0 + k ≡ k
    from_zero k = omega arith

-- ---- between two calls of one worker

module _ {Op : Type 0} (meaning : Meaning Op) (l : Lawful meaning) (first : Run Op) (K : IsSound meaning first) (T : IsTold first)
    (none : AllFrom (λ m x. x.worker.number ≡ 0) 1 first.parts) where
  -- on the way the worker was at rest and had begun just so many calls
  pub record WasAtRest (r : Run Op) (w : ℕ) (n : ℕ) (p : Part Op) : Type 0 where
    pub was : Run Op
    pub led : Leads meaning first was
    pub leads : Leads meaning was r
    pub before : List (Part Op)
    pub part : Part Op
    pub behind : List (Part Op)
    pub is : IsPart was w before part behind
    pub begun : part.worker.number ≡ n
    pub over : n ≡ calls_in (take part.over part.items)
    pub later : IsLater part p

  at_rest : (q : Run Op) → Leads meaning first q → (w : ℕ) (a : List (Part Op)) (p : Part Op) (b : List (Part Op)) (hand : Hand) → IsPart q w a p b →
      p.worker.doing ≡ Idle hand → p.worker.number ≡ calls_in (take p.over p.items)
  at_rest q led w a p b hand is idle =
      let s = all_from_at (IsSoundPart meaning) 1 a b p (subst (AllFrom (IsSoundPart meaning) 1) is.is (sound_led meaning l first q led K).each) in
      let n = s.number in
      let z = ap one_if_busy idle in
      omega (arith, n, z)

  pub was_at_rest : (r : Run Op) → Leads meaning first r → (w : ℕ) (a : List (Part Op)) (p : Part Op) (b : List (Part Op)) → IsPart r w a p b → (n : ℕ) →
      n < p.worker.number → WasAtRest r w n p
  was_at_rest r here w a p b is n less =
      let z = all_from_at (λ m x. x.worker.number ≡ 0) 1 a b p (subst (AllFrom (λ m x. x.worker.number ≡ 0) 1) is.is none) in
      absurd (omega (arith, z, less))
  was_at_rest r (turn {q = q} {worker = v} {e = e} {told = told} h t) w a p b is n less =
      let x = part_before meaning q r v e told t w a p b is in
      by_number x (was_at_rest q h w x.before x.part x.behind x.is n) (cases_lt n x.part.worker.number)
    where
      by_number : (x : HasPart q w (λ y. IsNext y p)) → (n < x.part.worker.number → WasAtRest q w n x.part) →
          (n < x.part.worker.number) ⊎ (x.part.worker.number ≤ n) → WasAtRest r w n p
      by_number x earlier (inl lt) =
          let o = earlier lt in
          record {
            was = o.was;
            led = o.led;
            leads = turn o.leads t;
            before = o.before;
            part = o.part;
            behind = o.behind;
            is = o.is;
            begun = o.begun;
            over = o.over;
            later = later_joined o.part x.part p o.later x.so.later;
          }
      by_number x earlier (inr le) = by_rise x.so.rises
        where
          by_rise : (p.worker.number ≡ x.part.worker.number) ⊎ ((p.worker.number ≡ x.part.worker.number + 1) × ((hand : Hand) × (x.part.worker.doing ≡ Idle hand))) →
              WasAtRest r w n p
          by_rise (inl same) = absurd (omega (arith, same, le, less))
          by_rise (inr up) =
              let one = up.0 in
              let equal : x.part.worker.number ≡ n = omega (arith, one, le, less) in
              record {
                was = q;
                led = h;
                leads = turn here t;
                before = x.before;
                part = x.part;
                behind = x.behind;
                is = x.is;
                begun = equal;
                over = sym equal ∙ at_rest q h w x.before x.part x.behind up.1.0 x.is up.1.1;
                later = x.so.later;
              }

  module _ (r : Run Op) (led : Leads meaning first r) (picks : ℕ → Bool) where
    abbrev Kr : IsSound meaning r
    Kr = sound_led meaning l first r led K

    abbrev Tr : IsTold r
    Tr = told_led meaning l first r led K T

    -- an entry of the history has no greater number than its worker
    numbered : (w : ℕ) (a : List (Part Op)) (p : Part Op) (b : List (Part Op)) → IsPart r w a p b →
        AllByRecursion (λ x. x.worker ≡ w → x.number ≤ p.worker.number) (history_with r picks)
    numbered w a p b is =
        let low = made_low meaning l r Kr Tr r here w a p b is in
        all_both (λ x. x.worker ≡ w → x.number ≤ p.worker.number) (history_of r.progress.settled r.placed) (taken_updates r.progress picks)
        (all_history (λ x. x.worker ≡ w → x.number ≤ p.worker.number) 0 r.progress.settled r.placed
        (all_left (λ x. x.worker ≡ w → x.number ≤ p.worker.number) r.progress.settled (waiting_updates r.progress) low)
        (reads_numbered meaning l r Kr Tr r here w a p b is))
        (all_taken (λ x. x.worker ≡ w → x.number ≤ p.worker.number) r.progress picks
        (all_right (λ x. x.worker ≡ w → x.number ≤ p.worker.number) r.progress.settled (waiting_updates r.progress) low))

    pub numbers_in_order : (d e : Entry) → IsIn (history_with r picks) d → IsIn (history_with r picks) e → d.worker ≡ e.worker → d.number < e.number →
        StandsBefore (history_with r picks) d e
    numbers_in_order d e hd he same less =
        let c = all_in (IsOfCall r) (history_with r picks) d (all_of_calls meaning l r Kr Tr picks) hd in
        let high = all_in (λ x. x.worker ≡ d.worker → x.number ≤ c.part.worker.number) (history_with r picks) e
        (numbered d.worker c.is.before c.part c.is.behind c.is.is) he (sym same) in
        let o = was_at_rest r led d.worker c.is.before c.part c.is.behind c.is.is d.number (omega (arith, high, less)) in
        let at : IsCallAt o.part.items c.item d.call d.number = subst (λ items. IsCallAt items c.item d.call d.number) o.later.items c.is.call_at in
        let over : IsOver o.was d.worker d.number = record {
          part = o.part;
          item = c.item;
          call = d.call;
          is = record { before = o.before; behind = o.behind; is = o.is; call_at = at };
          over = (by_place o.part c.item at o.over (cases_lt c.item o.part.over));
        } in
        let ahead : IsYetToBegin o.was e.worker e.number = record {
          before = o.before;
          part = o.part;
          behind = o.behind;
          is = subst (λ w. IsPart o.was w o.before o.part o.behind) same o.is;
          above = (let k = o.begun in omega (arith, k, less));
        } in
        by_kind (ordered meaning l o.was (sound_led meaning l first o.was o.led K) (told_led meaning l first o.was o.led K T) r o.leads picks d e over ahead hd he)
      where
        by_place : (p : Part Op) (k : ℕ) → IsCallAt p.items k d.call d.number → d.number ≡ calls_in (take p.over p.items) → (k < p.over) ⊎ (p.over ≤ k) →
            k < p.over
        by_place p k at n (inl lt) = lt
        by_place p k at n (inr le) =
            let m = number_at p.items k d.call d.number at in
            let rise = calls_rise p.items p.over k le in
            absurd (omega (arith, n, m, rise))

        by_kind : StandsBefore (history_with r picks) d e ⊎ AreReadsOfOne r.placed d e → StandsBefore (history_with r picks) d e
        by_kind (inl h) = h
        by_kind (inr h) =
            reads_in_history h.0 r.progress.settled r.placed (taken_updates r.progress picks) d e
            (all_in (IsRightAt r.content r.progress.settled) r.placed (record { position = h.0; entry = d }) (Kr).right h.1).within
            (reads_stand h.0 r.placed d e same less h.1 h.2)
