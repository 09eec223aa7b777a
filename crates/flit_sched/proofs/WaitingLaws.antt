-- The values ahead that have an entry, as pairs in the order of their workers and as a map from words.
use Rattle.std.proofs.Common.{◌≡◌, ◌≢◌, ℕ, eqb, Bool, true, false, cond, List, [], ◌∷◌, ◌++◌, refl, sym, ◌∙◌, ap, subst, Some, None, append_assoc}
use Rattle.std.proofs.lemmas.Bool.{false≢true, eqb-true, eq-eqb}
use Rattle.std.specs.List.{AllByRecursion}
use Rattle.std.specs.Ordering.{nat_cmp, eq_by_cmp}
use Rattle.std.specs.Cmp.{nat_cmp_total, unsigned_tied}
use Rattle.std.specs.FinMap as fin
use Rattle.std.specs.FinMap.{find, get-insert, get-remove, get-from_entries, same_map, nat_cmp-IsAntisymmetric}
use Rattle.flit_model.specs.declared.calls.Entry.{Entry}
use Rattle.flit_structure.proofs.Names.{all_left, all_right, all_both, all_at}
use Rattle.flit_sched.specs.declared.players.Player.{Player}
use Rattle.flit_sched.specs.Kept.{waiting_of, pairs_waiting, AreApart}

pub no_some : {X : Type 0} (x : X) → None ≡ Some x → ⊥
no_some x e = cc

abbrev pub NoneIn : ℕ → List (ℕ × Entry) → Type 0
NoneIn q ws = AllByRecursion (λ v. v.0 ≢ q) ws

not_tied : (q w : ℕ) → q ≢ w → eq_by_cmp nat_cmp q w ≡ false
not_tied q w h = by_test (eqb q w) refl
  where
    by_test : (b : Bool) → eqb q w ≡ b → eq_by_cmp nat_cmp q w ≡ false
    by_test true e = absurd (h (eqb-true q w e))
    by_test false e = unsigned_tied q w ∙ e

tied : (q w : ℕ) → q ≡ w → eq_by_cmp nat_cmp q w ≡ true
tied q w h = unsigned_tied q w ∙ eq-eqb q w h

pub find_none : (q : ℕ) (ws : List (ℕ × Entry)) → NoneIn q ws → find nat_cmp q ws ≡ None
find_none q [] h = refl
find_none q (w ∷ ws) h = ap (λ b. cond b (Some w.1) (find nat_cmp q ws)) (not_tied q w.0 (λ e. h.0 (sym e))) ∙ find_none q ws h.1

pub find_skip : (q : ℕ) (vs ws : List (ℕ × Entry)) → NoneIn q vs → find nat_cmp q (vs ++ ws) ≡ find nat_cmp q ws
find_skip q [] ws h = refl
find_skip q (v ∷ vs) ws h = ap (λ b. cond b (Some v.1) (find nat_cmp q (vs ++ ws))) (not_tied q v.0 (λ e. h.0 (sym e))) ∙ find_skip q vs ws h.1

pub find_here : (q : ℕ) (w : ℕ) (e : Entry) (ws : List (ℕ × Entry)) → q ≡ w → find nat_cmp q ((w, e) ∷ ws) ≡ Some e
find_here q w e ws h = ap (λ b. cond b (Some e) (find nat_cmp q ws)) (tied q w h)

pub find_other : (q w : ℕ) (e : Entry) (vs ws : List (ℕ × Entry)) → q ≢ w → find nat_cmp q (vs ++ (w, e) ∷ ws) ≡ find nat_cmp q (vs ++ ws)
find_other q w e [] ws h = ap (λ b. cond b (Some e) (find nat_cmp q ws)) (not_tied q w h)
find_other q w e (v ∷ vs) ws h = ap (λ o. cond (eq_by_cmp nat_cmp q v.0) (Some v.1) o) (find_other q w e vs ws h)

pub get_made : (ws : List (ℕ × Entry)) (q : ℕ) → fin.get (fin.from_entries {R = nat_cmp} ws) q ≡ find nat_cmp q ws
get_made ws q = get-from_entries nat_cmp_total ws q

-- an entry that comes in between, at a word that has none
pub comes : (w : ℕ) (e : Entry) (vs ws : List (ℕ × Entry)) → NoneIn w vs →
    fin.from_entries {R = nat_cmp} (vs ++ (w, e) ∷ ws) ≡ fin.insert (fin.from_entries {R = nat_cmp} (vs ++ ws)) w e
comes w e vs ws h = same_map nat_cmp_total nat_cmp-IsAntisymmetric _ _ (λ q. by_test q (eqb q w) refl)
  where
    by_test : (q : ℕ) (b : Bool) → eqb q w ≡ b →
        fin.get (fin.from_entries {R = nat_cmp} (vs ++ (w, e) ∷ ws)) q ≡ fin.get (fin.insert (fin.from_entries {R = nat_cmp} (vs ++ ws)) w e) q
    by_test q true is =
        let same : q ≡ w = eqb-true q w is in
        get_made (vs ++ (w, e) ∷ ws) q
        ∙ find_skip q vs ((w, e) ∷ ws) (subst (λ x. NoneIn x vs) (sym same) h)
        ∙ find_here q w e ws same
        ∙ sym (get-insert nat_cmp_total (fin.from_entries {R = nat_cmp} (vs ++ ws)) w e q
        ∙ ap (λ b. cond b (Some e) (fin.get (fin.from_entries {R = nat_cmp} (vs ++ ws)) q)) (tied q w same))
    by_test q false is =
        let apart : q ≢ w = λ x. false≢true (sym is ∙ eq-eqb q w x) in
        get_made (vs ++ (w, e) ∷ ws) q
        ∙ find_other q w e vs ws apart
        ∙ sym (get_made (vs ++ ws) q)
        ∙ sym (get-insert nat_cmp_total (fin.from_entries {R = nat_cmp} (vs ++ ws)) w e q
        ∙ ap (λ b. cond b (Some e) (fin.get (fin.from_entries {R = nat_cmp} (vs ++ ws)) q)) (not_tied q w apart))

-- an entry that goes, at a word that has it alone
pub goes : (w : ℕ) (e : Entry) (vs ws : List (ℕ × Entry)) → NoneIn w vs → NoneIn w ws →
    fin.from_entries {R = nat_cmp} (vs ++ ws) ≡ fin.remove (fin.from_entries {R = nat_cmp} (vs ++ (w, e) ∷ ws)) w
goes w e vs ws h k = same_map nat_cmp_total nat_cmp-IsAntisymmetric _ _ (λ q. by_test q (eqb q w) refl)
  where
    by_test : (q : ℕ) (b : Bool) → eqb q w ≡ b →
        fin.get (fin.from_entries {R = nat_cmp} (vs ++ ws)) q ≡ fin.get (fin.remove (fin.from_entries {R = nat_cmp} (vs ++ (w, e) ∷ ws)) w) q
    by_test q true is =
        let same : q ≡ w = eqb-true q w is in
        get_made (vs ++ ws) q
        ∙ find_none q (vs ++ ws) (subst (λ x. NoneIn x (vs ++ ws)) (sym same) (all_both (λ v. v.0 ≢ w) vs ws h k))
        ∙ sym (get-remove nat_cmp_total (fin.from_entries {R = nat_cmp} (vs ++ (w, e) ∷ ws)) w q
        ∙ ap (λ b. cond b None (fin.get (fin.from_entries {R = nat_cmp} (vs ++ (w, e) ∷ ws)) q)) (tied q w same))
    by_test q false is =
        let apart : q ≢ w = λ x. false≢true (sym is ∙ eq-eqb q w x) in
        get_made (vs ++ ws) q
        ∙ sym (find_other q w e vs ws apart)
        ∙ sym (get_made (vs ++ (w, e) ∷ ws) q)
        ∙ sym (get-remove nat_cmp_total (fin.from_entries {R = nat_cmp} (vs ++ (w, e) ∷ ws)) w q
        ∙ ap (λ b. cond b None (fin.get (fin.from_entries {R = nat_cmp} (vs ++ (w, e) ∷ ws)) q)) (not_tied q w apart))

-- what waits of some workers and then of others
pub waiting_joined : {W : Type 0} (a b : List (Player W)) → waiting_of (a ++ b) ≡ waiting_of a ++ waiting_of b
waiting_joined [] b = refl
waiting_joined (p ∷ a) b = ap (λ ws. pairs_waiting p.waiting ++ ws) (waiting_joined a b)
    ∙ sym (append_assoc (pairs_waiting p.waiting) (waiting_of a) (waiting_of b))

-- a word that stands once in a list stands nowhere else
pub once_here : (vs ws : List (ℕ × Entry)) (v : ℕ × Entry) → AreApart (vs ++ v ∷ ws) → NoneIn v.0 vs × NoneIn v.0 ws
once_here [] ws v h = (tt, h.0)
once_here (x ∷ vs) ws v h =
    let r = once_here vs ws v h.1 in
    ((λ e. all_at (λ y. y.0 ≢ x.0) vs ws v h.0 (sym e), r.0), r.1)

pub once_without : (vs ws : List (ℕ × Entry)) (v : ℕ × Entry) → AreApart (vs ++ v ∷ ws) → AreApart (vs ++ ws)
once_without [] ws v h = h.1
once_without (x ∷ vs) ws v h =
    (all_both (λ y. y.0 ≢ x.0) vs ws (all_left (λ y. y.0 ≢ x.0) vs (v ∷ ws) h.0) (all_right (λ y. y.0 ≢ x.0) vs (v ∷ ws) h.0).1, once_without vs ws v h.1)

pub once_with : (vs ws : List (ℕ × Entry)) (v : ℕ × Entry) → NoneIn v.0 vs → NoneIn v.0 ws → AreApart (vs ++ ws) → AreApart (vs ++ v ∷ ws)
once_with [] ws v h k once = (k, once)
once_with (x ∷ vs) ws v h k once = (
  all_both (λ y. y.0 ≢ x.0) vs (v ∷ ws) (all_left (λ y. y.0 ≢ x.0) vs ws once.0) ((λ e. h.0 (sym e)), all_right (λ y. y.0 ≢ x.0) vs ws once.0),
  once_with vs
      ws v h.1 k once.1,
)
