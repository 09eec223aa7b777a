-- The updates that were made are no more than the numbers of the workers allow.
use Rattle.std.proofs.Common.{◌≡◌, ℕ, suc, ◌+◌, ◌≤◌, ◌==◌, Bool, true, false, cond, List, [], ◌∷◌, ◌++◌, length, map, filter, refl, sym, ◌∙◌, ap, subst, arith, Some, length-append}
use Rattle.std.proofs.lemmas.Bool.{eqb-true, eq-eqb}
use Rattle.flit_sched.proofs.WaitingLaws.{no_some}
use Rattle.std.specs.List.{AllByRecursion}
use Rattle.std.specs.Ordering.{nat_cmp}
use Rattle.std.specs.FinMap as fin
use Rattle.std.specs.FinMap.{find, get-entries}
use Rattle.flit_model.specs.Lists.{IsRisingFrom}
use Rattle.flit_model.specs.declared.calls.Entry.{Entry}
use Rattle.flit_structure.specs.declared.workers.Worker.{Worker}
use Rattle.flit_structure.specs.Moments.{Moment, made, waiting_updates, numbers_of, IsAmong, HaveDifferentNames}
use Rattle.flit_structure.specs.Meanings.{Meaning}
use Rattle.flit_structure.specs.Lawful.{Lawful, IsOfHand}
use Rattle.flit_structure.proofs.Names.{same_worker}

-- a sum of which one part is greater
abbrev pub total : {X : Type 0} → (X → ℕ) → List X → ℕ
total f [] = 0
total f (x ∷ xs) = f x + total f xs

total_rises : {X : Type 0} (f g : X → ℕ) (xs : List X) → ((x : X) → f x ≤ g x) → total f xs ≤ total g xs
total_rises f g [] h = omega arith
total_rises f g (x ∷ xs) h = let r = total_rises f g xs h in let k = h x in omega arith

total_bumps : {X : Type 0} (f g : X → ℕ) (a : List X) (x : X) (b : List X) → ((y : X) → f y ≤ g y) → suc (f x) ≤ g x →
    suc (total f (a ++ x ∷ b)) ≤ total g (a ++ x ∷ b)
total_bumps f g [] x b h k = let r = total_rises f g b h in omega arith
total_bumps f g (y ∷ a) x b h k = let r = total_bumps f g a x b h k in let q = h y in omega arith

rising_short : (low top : ℕ) (ks : List ℕ) → IsRisingFrom low ks → AllByRecursion (λ k. k ≤ top) ks → low ≤ suc top → length ks + low ≤ suc top
rising_short low top [] r h k = omega arith
rising_short low top (x ∷ ks) r h k = let q = rising_short (suc x) top ks r.1 h.1 (let y = h.0 in omega arith) in let y = r.0 in omega arith

one_more : (e : Entry) (es : List Entry) (name : ℕ) → length (numbers_of name (e ∷ es)) ≡ cond (e.worker == name) (suc (length (numbers_of name es)))
    (length (numbers_of name es))
one_more e es name = by_test (e.worker == name)
  where
    by_test : (t : Bool) → length (map (λ x. x.number) (cond t (e ∷ filter (λ x. x.worker == name) es) (filter (λ x. x.worker == name) es))) ≡ cond t
        (suc (length (numbers_of name es))) (length (numbers_of name es))
    by_test true = refl
    by_test false = refl

some_waits : (es : List (ℕ × Entry)) (q : ℕ) (y : Entry) → find nat_cmp q es ≡ Some y → 1 ≤ length (map (λ e. e.1) es)
some_waits [] q y h = absurd (no_some y h)
some_waits (e ∷ es) q y h = omega arith

module _ {Op : Type 0} where
  abbrev count_of : List Entry → Worker Op → ℕ
  count_of es u = length (numbers_of u.name es)

  counted : (us : List (Worker Op)) (es : List Entry) → AllByRecursion (IsOfHand us) es → length es ≤ total (count_of es) us
  counted us [] h = omega arith
  counted us (e ∷ es) h = let r = counted us es h.1 in let q = bumped in omega (arith, r, q)
    where
      grows : (u : Worker Op) → count_of es u ≤ count_of (e ∷ es) u
      grows u = subst (λ n. length (numbers_of u.name es) ≤ n) (sym (one_more e es u.name)) (by_test (e.worker == u.name))
        where
          by_test : (t : Bool) → length (numbers_of u.name es) ≤ cond t (suc (length (numbers_of u.name es))) (length (numbers_of u.name es))
          by_test true = omega arith
          by_test false = omega arith

      here : suc (count_of es h.0.0) ≤ count_of (e ∷ es) h.0.0
      here = subst (λ n. suc (length (numbers_of h.0.0.name es)) ≤ n) (sym (one_more e es h.0.0.name
          ∙ ap (λ t. cond t (suc (length (numbers_of h.0.0.name es))) (length (numbers_of h.0.0.name es))) (eq-eqb e.worker h.0.0.name (sym h.0.2))))
          (omega arith)

      bumped : suc (total (count_of es) us) ≤ total (count_of (e ∷ es)) us
      bumped = subst (λ vs. suc (total (count_of es) vs) ≤ total (count_of (e ∷ es)) vs) (sym h.0.1.2)
          (total_bumps (count_of es) (count_of (e ∷ es)) h.0.1.0 h.0.0 h.0.1.1 grows here)

  numbers_below : (us : List (Worker Op)) (u : Worker Op) (es : List Entry) → HaveDifferentNames us → IsAmong us u → AllByRecursion (IsOfHand us) es →
      AllByRecursion (λ n. n ≤ u.number) (numbers_of u.name es)
  numbers_below us u [] distinct among h = tt
  numbers_below us u (e ∷ es) distinct among h = by_test (numbers_below us u es distinct among h.1) (e.worker == u.name) refl
    where
      by_test : AllByRecursion (λ n. n ≤ u.number) (numbers_of u.name es) → (t : Bool) → (e.worker == u.name) ≡ t →
          AllByRecursion (λ n. n ≤ u.number) (map (λ x. x.number) (cond t (e ∷ filter (λ x. x.worker == u.name) es) (filter (λ x. x.worker == u.name) es)))
      by_test rest true is =
          let v = h.0 in
          let same : v.0 ≡ u = same_worker us v.1.0 v.1.1 among.0 among.1 v.0 u v.1.2 among.2 distinct (v.2 ∙ eqb-true e.worker u.name is) in
          (subst (λ w. e.number ≤ w.number) same v.3, rest)
      by_test rest false is = rest

  all_counts : (us vs : List (Worker Op)) (es : List Entry) → HaveDifferentNames us → AllByRecursion (IsOfHand us) es →
      ((name : ℕ) → IsRisingFrom 0 (numbers_of name es)) →
      ((u : Worker Op) → IsAmong vs u → IsAmong us u) → total (count_of es) vs ≤ total (λ u. suc u.number) vs
  all_counts us [] es distinct h up among = omega arith
  all_counts us (v ∷ vs) es distinct h up among =
      let one = rising_short 0 v.number (numbers_of v.name es) (up v.name) (numbers_below us v es distinct (among v ([], vs, refl)) h) (omega arith) in
      let rest = all_counts us vs es distinct h up (λ u a. among u (v ∷ a.0, a.1, ap (λ ws. v ∷ ws) a.2)) in
      omega (arith, one, rest)

module _ {Op : Type 0} (meaning : Meaning Op) (l : Lawful meaning) where
  -- where an entry waits there is room for it
  pub room : (M : Moment Op) (word : ℕ) (y : Entry) → meaning.holds M → fin.get M.progress.waiting word ≡ Some y →
      suc (length M.progress.settled) ≤ total (λ u. suc u.number) M.workers
  room M word y h w =
      let all = counted M.workers (made M.progress) (l.entries M h).numbered in
      let each = all_counts M.workers M.workers (made M.progress) (l.named M h).different (l.entries M h).numbered (l.entries M h).rises (λ u a. a) in
      let one = some_waits (fin.entries M.progress.waiting) word y (sym (get-entries M.progress.waiting word) ∙ w) in
      let long = length-append M.progress.settled (waiting_updates M.progress) in
      omega (arith, all, each, one, long)

  -- the settled updates are no more than that
  pub room_any : (M : Moment Op) → meaning.holds M → length M.progress.settled ≤ total (λ u. suc u.number) M.workers
  room_any M h =
      let all = counted M.workers (made M.progress) (l.entries M h).numbered in
      let each = all_counts M.workers M.workers (made M.progress) (l.named M h).different (l.entries M h).numbered (l.entries M h).rises (λ u a. a) in
      let long = length-append M.progress.settled (waiting_updates M.progress) in
      omega (arith, all, each, long)
