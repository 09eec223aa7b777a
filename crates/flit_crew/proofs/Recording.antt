-- The history of the updates while one is settled and while one comes to wait.
use Rattle.std.proofs.Common.{◌≡◌, ◌≢◌, ◌⊎◌, inl, inr, ⊎_elim, ℕ, suc, ◌+◌, ◌<◌, ◌≤◌, ◌==◌, eqb, Bool, true, false, cond, List, [], ◌∷◌, ◌++◌, Option, Some, None, refl, sym, ◌∙◌, ap, subst, arith}
use Rattle.std.proofs.lemmas.Bool.{eqb-true, eq-eqb}
use Rattle.std.specs.List.{AllByRecursion}
use Rattle.std.specs.Ordering.{nat_cmp}
use Rattle.std.specs.Cmp.{nat_cmp_total}
use Rattle.std.specs.FinMap as fin
use Rattle.std.specs.FinMap.{FinMap, get-retain_keys, same_map, nat_cmp-IsAntisymmetric}
use Rattle.std.specs.Prelude.{slice_index}
use Rattle.flit_words.specs.declared.layouts.Layout.{Layout}
use Rattle.flit_model.specs.Lists.{IsRisingFrom}
use Rattle.flit_model.specs.Settling.{Progress, settles, takes_effect}
use Rattle.flit_model.specs.Histories.{is_update}
use Rattle.flit_model.specs.declared.calls.Entry.{Entry}
use Rattle.flit_model.proofs.Elements.{all-append, all_front, all_behind, all_weaker}
use Rattle.flit_structure.specs.declared.workers.Doing.{Doing}
use Rattle.flit_structure.specs.declared.workers.Doing.TheVariants.{Idle, Busy, Evicting}
use Rattle.flit_structure.specs.declared.workers.Worker.{Worker}
use Rattle.flit_structure.specs.Moments.{made, numbers_of, IsNew, HaveDifferentNames}
use Rattle.flit_structure.proofs.Growing.{get_put, get_gone}
use Rattle.flit_structure.proofs.Names.{others_new}
use Rattle.flit_structure.proofs.Taken.{taken_wait, WaitsPicked}
use Rattle.flit_crew.specs.Machines.{Deed, Fresh, Making, Made, MakesAt}
use Rattle.flit_crew.specs.Heaps.{Heap, at_shadow, waits_at, IsOpen, IsAhead, IsForeign, IsWordOf}
use Rattle.flit_crew.specs.Anatomies.{Anatomy, deed}
use Rattle.flit_crew.specs.Accounts.{IsAny, IsUnmade, HasNumber, IsMaker, Makes, History}
use Rattle.flit_crew.proofs.Numbering.{IsOther, Between, numbers_skip, numbers_take, numbers-append, won_rises, settled_same}
use Rattle.flit_crew.proofs.Updating.{Follows, any_put, any_none, all_from, gone_between, waits_between}
use Rattle.flit_crew.proofs.Accounting.{own_number}

-- each that waits is found at a word
pub all_found : (m : FinMap nat_cmp Entry) → AllByRecursion (λ e. (word : ℕ) × (fin.get m word ≡ Some e)) (fin.values m)
all_found m =
    let q : Progress = record { settled = []; waiting = m } in
    let same : fin.retain_keys m (λ w. true) ≡ m = same_map nat_cmp_total nat_cmp-IsAntisymmetric (fin.retain_keys m (λ w. true)) m
    (λ x. get-retain_keys m (λ w. true) x (λ y s. refl)) in
    subst (λ n. AllByRecursion (λ e. (word : ℕ) × (fin.get m word ≡ Some e)) (fin.values n)) same
    (all_weaker (WaitsPicked q (λ w. true)) (λ e. (word : ℕ) × (fin.get m word ≡ Some e)) (λ e k. (k.0, k.2)) (fin.values (fin.retain_keys m (λ w. true)))
    (taken_wait q (λ w. true)))

some_none : (e : Entry) → Some e ≡ None → ⊥
some_none e q = cc

-- the numbers of a name in some entries
numbers_all : (P : ℕ → Type 0) (name : ℕ) (es : List Entry) → AllByRecursion (λ e. e.worker ≡ name → P e.number) es → AllByRecursion P (numbers_of name es)
numbers_all P name [] h = tt
numbers_all P name (e ∷ es) h = by_test (numbers_all P name es h.1) (e.worker == name) refl
  where
    clash : (b : Bool) → b ≡ true → b ≡ false → ⊥
    clash b s f = cc

    by_test : AllByRecursion P (numbers_of name es) → (t : Bool) → (e.worker == name) ≡ t → AllByRecursion P (numbers_of name (e ∷ es))
    by_test rest true q = let same = eqb-true e.worker name q in subst (AllByRecursion P) (sym (numbers_take name e es same)) (h.0 same, rest)
    by_test rest false q = subst (AllByRecursion P) (sym (numbers_skip name e es (λ s. clash (e.worker == name) (eq-eqb e.worker name s) q))) rest

rising_front : (low : ℕ) (xs ys : List ℕ) → IsRisingFrom low (xs ++ ys) → IsRisingFrom low xs
rising_front low [] ys h = tt
rising_front low (x ∷ xs) ys h = (h.0, rising_front (suc x) xs ys h.1)

module _ {Op : Type 0} (A : Anatomy Op) where
  -- who has made an entry that waits, has its name
  maker_name : (word : ℕ) (e : Entry) (u : Worker Op) → IsMaker A word e u → e.worker ≡ u.name
  maker_name word e u h = by_doing u.doing h
    where
      by_doing : (d : Doing Op) → Makes A word e u.name u.number d → e.worker ≡ u.name
      by_doing (Idle hand) k = absurd k
      by_doing (Busy op call begun) k = ap (λ x. x.worker) k.1
      by_doing (Evicting m) k = absurd k

  made_at : (d : Deed) (x w : ℕ) → MakesAt d x → MakesAt d w → x ≡ w
  made_at Fresh x w h k = absurd h
  made_at (Making y to) x w h k = sym h ∙ k
  made_at Made x w h k = absurd h

  one_word : (x w : ℕ) (d e : Entry) (u : Worker Op) → IsMaker A x d u → IsMaker A w e u → x ≡ w
  one_word x w d e u h k = by_doing u.doing h k
    where
      by_doing : (y : Doing Op) → Makes A x d u.name u.number y → Makes A w e u.name u.number y → x ≡ w
      by_doing (Idle hand) h k = absurd h
      by_doing (Busy op call begun) h k = made_at (deed A op) x w h.0 k.0
      by_doing (Evicting m) h k = absurd h

  new_none : (x : ℕ) (d : Entry) (name : ℕ) (us : List (Worker Op)) → IsNew name us → d.worker ≡ name → IsAny (IsMaker A x d) us → ⊥
  new_none x d name us new same k = any_none (IsMaker A x d) us (all_weaker (λ u. u.name ≢ name) (λ u. IsMaker A x d u → ⊥)
      (λ u ne m. ne (sym (maker_name x d u m) ∙ same)) us new) k

  -- a name has one worker, and that makes one update at a time
  pub one_maker : (x w : ℕ) (d e : Entry) (us : List (Worker Op)) → HaveDifferentNames us → d.worker ≡ e.worker → IsAny (IsMaker A x d) us →
      IsAny (IsMaker A w e) us → x ≡ w
  one_maker x w d e [] different same h k = absurd h
  one_maker x w d e (u ∷ us) different same (inl h) (inl k) = one_word x w d e u h k
  one_maker x w d e (u ∷ us) different same (inl h) (inr k) = absurd (new_none w e u.name us different.0 (sym same ∙ maker_name x d u h) k)
  one_maker x w d e (u ∷ us) different same (inr h) (inl k) = absurd (new_none x d u.name us different.0 (same ∙ maker_name w e u k) h)
  one_maker x w d e (u ∷ us) different same (inr h) (inr k) = one_maker x w d e us different.1 same h k

  -- and of the workers only that of a name makes its updates
  pub maker_is : (x : ℕ) (d : Entry) (a : List (Worker Op)) (u : Worker Op) (b : List (Worker Op)) → HaveDifferentNames (a ++ u ∷ b) → d.worker ≡ u.name →
      IsAny (IsMaker A x d) (a ++ u ∷ b) → IsMaker A x d u
  maker_is x d a u b different same k = by_place a k (others_new a b u different).0
    where
      by_place : (y : List (Worker Op)) → IsAny (IsMaker A x d) (y ++ u ∷ b) → IsNew u.name y → IsMaker A x d u
      by_place [] (inl m) new = m
      by_place [] (inr m) new = absurd (new_none x d u.name b (others_new a b u different).1 same m)
      by_place (v ∷ y) (inl m) new = absurd (new.0 (sym (maker_name x d v m) ∙ same))
      by_place (v ∷ y) (inr m) new = by_place y m new.1

  -- ---- an update is settled

  module _ {G : Type 0} (l : Layout) (free : List ℕ) where
    pub others_wait : (h : Heap G) (w : ℕ) (e : Entry) (us : List (Worker Op)) → HaveDifferentNames us → History A l free h us → waits_at h w ≡ Some e →
        AllByRecursion (IsOther e.worker) (fin.values (fin.remove h.progress.waiting w))
    others_wait h w e us different r is = all_weaker (λ d. (x : ℕ) × (fin.get (fin.remove h.progress.waiting w) x ≡ Some d)) (IsOther e.worker)
        (λ d k same. by_word k.0 d (eqb k.0 w) refl k.1 same) (fin.values (fin.remove h.progress.waiting w)) (all_found (fin.remove h.progress.waiting w))
      where
        clash : (x : ℕ) → x ≡ w → eqb x w ≡ false → ⊥
        clash x s f = both (eqb x w) (eq-eqb x w s) f
          where
            both : (b : Bool) → b ≡ true → b ≡ false → ⊥
            both b t f = cc

        by_word : (x : ℕ) (d : Entry) (t : Bool) → eqb x w ≡ t → fin.get (fin.remove h.progress.waiting w) x ≡ Some d → d.worker ≡ e.worker → ⊥
        by_word x d true s i same = some_none d (sym i ∙ get_gone h.progress.waiting w x ∙ ap (λ b. cond b None (fin.get h.progress.waiting x)) s)
        by_word x d false s i same =
            let j : waits_at h x ≡ Some d = sym (get_gone h.progress.waiting w x ∙ ap (λ b. cond b None (fin.get h.progress.waiting x)) s) ∙ i in
            clash x (one_maker x w d e us different same (r.waits x d j).2 (r.waits w e is).2) s

    pub history_settled : (h k : Heap G) (w : ℕ) (us : List (Worker Op)) → HaveDifferentNames us → Follows None h k →
        k.progress ≡ settles h.progress w (waits_at h w) → k.words ≡ h.words → k.given ≡ h.given → k.opening ≡ h.opening →
        ((x : ℕ) → x ≢ w → at_shadow k x ≡ at_shadow h x) → History A l free h us → History A l free k us
    history_settled h k w us different f same words given opening shadows r = record {
      updates = from_old (λ e. is_update e ≡ true) r.updates;
      rises = λ name. subst (IsRisingFrom 0) (sym (numbers name)) (r.rises name);
      numbered = from_old (λ e. IsAny (HasNumber A e) us) r.numbered;
      waits = λ x e is. let i = elsewhere x e (sym (ap (λ q. fin.get q.waiting x) same) ∙ is) in let z = r.waits x e i.1 in (
        record {
          within = z.0.within;
          given = λ row pool word. subst (λ rows. Rattle.std.specs.Prelude.Contains rows row) (sym given) (z.0.given row pool word);
          ours = subst (λ o. (row : ℕ) → IsForeign l free o row → IsWordOf l row x → ⊥) (sym opening) z.0.ours;
        },
        ahead x i.0 z.1,
        z.2,
      );
    }
      where
        from_old : (P : Entry → Type 0) → AllByRecursion P (made h.progress) → AllByRecursion P (made k.progress)
        from_old P all = all_weaker (λ e. IsAny (λ d. e ≡ d) (made h.progress) ⊎ (Some e.worker ≡ None)) P
            (λ e s. ⊎_elim (λ was. all_from P (made h.progress) e all was) (λ n. absurd (none n)) s) (made k.progress) f.entries
          where
            none : {n : ℕ} → Some n ≡ None → ⊥
            none q = cc

        ahead : (x : ℕ) → x ≢ w → IsAhead h x → IsAhead k x
        ahead x ne a = ap (λ ws. Rattle.flit_words.specs.Words.version_of (slice_index ws x)) words ∙ a
            ∙ ap (λ y. Rattle.flit_words.specs.Words.version_of y + 1) (sym (shadows x ne))

        elsewhere : (x : ℕ) (e : Entry) → fin.get (settles h.progress w (waits_at h w)).waiting x ≡ Some e → (x ≢ w) × (waits_at h x ≡ Some e)
        elsewhere x e is = by_case (waits_at h w) refl is
          where
            by_case : (o : Option Entry) → waits_at h w ≡ o → fin.get (settles h.progress w o).waiting x ≡ Some e → (x ≢ w) × (waits_at h x ≡ Some e)
            by_case None q i = (λ s. some_none e (sym i ∙ ap (λ y. waits_at h y) s ∙ q), i)
            by_case (Some d) q i = by_test (eqb x w) refl
              where
                both : (b : Bool) → b ≡ true → b ≡ false → ⊥
                both b t f = cc

                by_test : (t : Bool) → eqb x w ≡ t → (x ≢ w) × (waits_at h x ≡ Some e)
                by_test true s = absurd (some_none e (sym i ∙ get_gone h.progress.waiting w x ∙ ap (λ b. cond b None (fin.get h.progress.waiting x)) s))
                by_test false s = (
                  λ z. both (eqb x w) (eq-eqb x w z) s,
                  sym (get_gone h.progress.waiting w x
                      ∙ ap (λ b. cond b None (fin.get h.progress.waiting x)) s) ∙ i,
                )

        numbers : (name : ℕ) → numbers_of name (made k.progress) ≡ numbers_of name (made h.progress)
        numbers name = ap (λ q. numbers_of name (made q)) same ∙ by_case (waits_at h w) refl
          where
            by_case : (o : Option Entry) → waits_at h w ≡ o → numbers_of name (made (settles h.progress w o)) ≡ numbers_of name (made h.progress)
            by_case None q = refl
            by_case (Some e) q =
                let s = gone_between h.progress.waiting w e q in
                let others = subst (AllByRecursion (IsOther e.worker)) s.was (others_wait h w e us different r q) in
                ap (λ xs. numbers_of name ((h.progress.settled ++ e ∷ []) ++ xs)) s.was
                ∙ settled_same name h.progress.settled s.front s.back e (all_front (IsOther e.worker) s.front s.back others)
                (all_behind (IsOther e.worker) s.front s.back others)
                ∙ ap (λ xs. numbers_of name (h.progress.settled ++ xs)) (sym s.is)

    -- ---- an update comes to wait

    pub history_won : (h k : Heap G) (w : ℕ) (a : List (Worker Op)) (u v : Worker Op) (b : List (Worker Op)) (e : Entry) → HaveDifferentNames (a ++ u ∷ b) →
        v.name ≡ u.name → v.number ≡ u.number →
        k.progress ≡ takes_effect h.progress w (Some e) → waits_at h w ≡ None → e.worker ≡ u.name → e.number ≡ u.number → is_update e ≡ true →
        IsUnmade h.progress u.name u.number →
        ((x : ℕ) → IsOpen l free h x → IsOpen l free k x) → ((x : ℕ) (d : Entry) → waits_at h x ≡ Some d → IsAhead k x) → IsOpen l free k w → IsAhead k w →
        IsMaker A w e v → ((x : ℕ) (d : Entry) → IsMaker A x d u → ⊥) →
        History A l free h (a ++ u ∷ b) → History A l free k (a ++ v ∷ b)
    history_won h k w a u v b e different vname vnumber same none ename enumber update unmade opened ahead open_now ahead_now maker idle r = record {
      updates = subst (AllByRecursion (λ d. is_update d ≡ true)) (sym made_is) (put (λ d. is_update d ≡ true) update r.updates);
      rises = λ name. subst (λ es. IsRisingFrom 0 (numbers_of name es)) (sym made_is)
          (won_rises name h.progress.settled s.front s.back e others.0 others.1 below own
          (subst (λ es. IsRisingFrom 0 (numbers_of name (h.progress.settled ++ es))) s.was (r.rises name)));
      numbered = subst (AllByRecursion (λ d. IsAny (HasNumber A d) (a ++ v ∷ b))) (sym made_is) (put (λ d. IsAny (HasNumber A d) (a ++ v ∷ b)) (any_number a)
          (all_weaker (λ d. IsAny (HasNumber A d) (a ++ u ∷ b)) (λ d. IsAny (HasNumber A d) (a ++ v ∷ b))
          (λ d q. any_put (HasNumber A d) a b u v (λ y. (vname ∙ y.0, subst (λ n. d.number ≤ n) (sym vnumber) y.1)) q) (made h.progress) r.numbered));
      waits = λ x d is. by_word x d (eqb x w) refl (sym (ap (λ q. fin.get q.waiting x) same ∙ get_put h.progress.waiting w e x) ∙ is);
    }
      where
        s : Between (fin.entries h.progress.waiting) (fin.entries (fin.insert h.progress.waiting w e)) e
        s = waits_between h.progress.waiting w e none

        made_is : made k.progress ≡ h.progress.settled ++ (s.front ++ e ∷ s.back)
        made_is = ap made same ∙ ap (λ xs. h.progress.settled ++ xs) s.is

        put : (P : Entry → Type 0) → P e → AllByRecursion P (made h.progress) → AllByRecursion P (h.progress.settled ++ (s.front ++ e ∷ s.back))
        put P mine all =
            let waited : AllByRecursion P (s.front ++ s.back) = subst (AllByRecursion P) s.was
            (all_behind P h.progress.settled (fin.values h.progress.waiting) all) in
            all-append P h.progress.settled (s.front ++ e ∷ s.back) (all_front P h.progress.settled (fin.values h.progress.waiting) all)
            (all-append P s.front (e ∷ s.back) (all_front P s.front s.back waited) (mine, all_behind P s.front s.back waited))

        all_others : AllByRecursion (IsOther e.worker) (fin.values h.progress.waiting)
        all_others = all_weaker (λ d. (x : ℕ) × (fin.get h.progress.waiting x ≡ Some d)) (IsOther e.worker)
            (λ d q eq. idle q.0 d (maker_is q.0 d a u b different (eq ∙ ename) (r.waits q.0 d q.1).2)) (fin.values h.progress.waiting)
            (all_found h.progress.waiting)

        others : AllByRecursion (IsOther e.worker) s.front × AllByRecursion (IsOther e.worker) s.back
        others = let q = subst (AllByRecursion (IsOther e.worker)) s.was all_others in
            (all_front (IsOther e.worker) s.front s.back q, all_behind (IsOther e.worker) s.front s.back q)

        below : AllByRecursion (λ m. m < e.number) (numbers_of e.worker h.progress.settled)
        below = numbers_all (λ m. m < e.number) e.worker h.progress.settled (all_zip_below h.progress.settled
            (all_front (λ d. IsAny (HasNumber A d) (a ++ u ∷ b)) h.progress.settled (fin.values h.progress.waiting) r.numbered)
            (all_front (λ d. d.worker ≡ u.name → d.number ≡ u.number → ⊥) h.progress.settled (fin.values h.progress.waiting) unmade))
          where
            less : (x y z : ℕ) → x ≤ y → (x ≡ y → ⊥) → z ≡ y → x < z
            less x y z le ne q = omega (arith, le, ne, q)

            all_zip_below : (es : List Entry) → AllByRecursion (λ d. IsAny (HasNumber A d) (a ++ u ∷ b)) es →
                AllByRecursion (λ d. d.worker ≡ u.name → d.number ≡ u.number → ⊥) es → AllByRecursion (λ d. d.worker ≡ e.worker → d.number < e.number) es
            all_zip_below [] p q = tt
            all_zip_below (d ∷ es) p q = (
              λ eq. less d.number u.number e.number (own_number A l free a u b d different p.0 (eq ∙ ename)) (q.0 (eq ∙ ename))
                  enumber,
              all_zip_below es p.1 q.1,
            )

        own : IsRisingFrom 0 (numbers_of e.worker h.progress.settled)
        own = rising_front 0 (numbers_of e.worker h.progress.settled) (numbers_of e.worker (fin.values h.progress.waiting))
            (subst (IsRisingFrom 0) (numbers-append e.worker h.progress.settled (fin.values h.progress.waiting)) (r.rises e.worker))

        any_number : (x : List (Worker Op)) → IsAny (HasNumber A e) (x ++ v ∷ b)
        any_number [] = inl (vname ∙ sym ename, equal e.number v.number (enumber ∙ sym vnumber))
          where
            equal : (x y : ℕ) → x ≡ y → x ≤ y
            equal x y q = omega (arith, q)
        any_number (y ∷ x) = inr (any_number x)

        any_maker : (x : List (Worker Op)) → IsAny (IsMaker A w e) (x ++ v ∷ b)
        any_maker [] = inl maker
        any_maker (y ∷ x) = inr (any_maker x)

        same_entry : (x y : Entry) → Some x ≡ Some y → x ≡ y
        same_entry x y i = cc

        by_word : (x : ℕ) (d : Entry) (t : Bool) → eqb x w ≡ t → cond (eqb x w) (Some e) (fin.get h.progress.waiting x) ≡ Some d → IsOpen l free k x
            × IsAhead k x × IsAny (IsMaker A x d) (a ++ v ∷ b)
        by_word x d true q is =
            let eq : w ≡ x = sym (eqb-true x w q) in
            let ee : e ≡ d = same_entry e d (sym (ap (λ t. cond t (Some e) (fin.get h.progress.waiting x)) q) ∙ is) in
            subst (λ y. IsOpen l free k y × IsAhead k y × IsAny (IsMaker A y d) (a ++ v ∷ b)) eq
            (open_now, ahead_now, subst (λ y. IsAny (IsMaker A w y) (a ++ v ∷ b)) ee (any_maker a))
        by_word x d false q is =
            let i : waits_at h x ≡ Some d = sym (ap (λ t. cond t (Some e) (fin.get h.progress.waiting x)) q) ∙ is in
            let z = r.waits x d i in
            (opened x z.0, ahead x d i, any_put (IsMaker A x d) a b u v (λ m. absurd (idle x d m)) z.2)
