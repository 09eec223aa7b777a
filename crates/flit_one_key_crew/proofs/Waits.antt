-- What waits, waits at the head.
use Rattle.std.proofs.Common.{◌≡◌, ⊎_elim, ℕ, ◌+◌, eqb, Bool, true, false, cond, List, [], ◌∷◌, ◌++◌, length, map, Some, None, refl, sym, ◌∙◌, ap, subst, arith, append-nil}
use Rattle.std.proofs.lemmas.Option.{none-some}
use Rattle.std.specs.Ordering.{nat_cmp}
use Rattle.std.specs.Cmp.{nat_cmp_total, unsigned_tied}
use Rattle.std.specs.FinMap as fin
use Rattle.std.specs.FinMap.{get-empty, get-remove, entries-insert, len-entries, len-empty, put, same_map, nat_cmp-IsAntisymmetric}
use Rattle.flit_model.specs.Settling.{Progress, settles, takes_effect}
use Rattle.flit_model.specs.declared.calls.Entry.{Entry}
use Rattle.flit_structure.specs.Moments.{made}
use Rattle.flit_one_key_crew.specs.OneKeyCrew.{MayWait}
use Rattle.flit_one_key_crew.proofs.Stories.{get_single}

abbrev Waiting : Type 0
Waiting = fin.FinMap nat_cmp Entry

no_entries : fin.entries {K = ℕ} {X = Entry} {R = nat_cmp} fin.empty ≡ []
no_entries = nothing _ (sym (len-entries fin.empty) ∙ len-empty nat_cmp Entry)
  where
    nothing : (es : List (ℕ × Entry)) → length es ≡ 0 → es ≡ []
    nothing [] e = refl
    nothing (x ∷ es) e = absurd (omega arith)

no_values : fin.values {K = ℕ} {X = Entry} {R = nat_cmp} fin.empty ≡ []
no_values = ap (map (λ p. p.1)) no_entries

one_value : (e : Entry) → fin.values (fin.insert {K = ℕ} {X = Entry} {R = nat_cmp} fin.empty 0 e) ≡ e ∷ []
one_value e = ap (map (λ p. p.1)) (entries-insert nat_cmp_total fin.empty 0 e ∙ ap (λ es. put nat_cmp 0 e es) no_entries)

pub made_none : (p : Progress) → p.waiting ≡ fin.empty → made p ≡ p.settled
made_none p e = ap (λ m. p.settled ++ fin.values m) e ∙ ap (λ xs. p.settled ++ xs) no_values ∙ append-nil p.settled

pub made_one : (p : Progress) (e : Entry) → p.waiting ≡ fin.insert fin.empty 0 e → made p ≡ p.settled ++ e ∷ []
made_one p e is = ap (λ m. p.settled ++ fin.values m) is ∙ ap (λ xs. p.settled ++ xs) (one_value e)

pub length_one : (xs : List Entry) (e : Entry) → length (xs ++ e ∷ []) ≡ length xs + 1
length_one [] e = refl
length_one (x ∷ xs) e = let h = length_one xs e in omega (arith, h)

pub get_here : (e : Entry) → fin.get (fin.insert {K = ℕ} {X = Entry} {R = nat_cmp} fin.empty 0 e) 0 ≡ Some e
get_here e = get_single 0 e 0

gone : (e : Entry) → fin.remove (fin.insert {K = ℕ} {X = Entry} {R = nat_cmp} fin.empty 0 e) 0 ≡ fin.empty
gone e = same_map nat_cmp_total nat_cmp-IsAntisymmetric _ _ (λ q.
    get-remove nat_cmp_total _ 0 q ∙ ap (λ b. cond b None (fin.get (fin.insert {K = ℕ} {X = Entry} {R = nat_cmp} fin.empty 0 e) q)) (unsigned_tied q 0)
    ∙ ap (λ o. cond (eqb q 0) None o) (get_single 0 e q) ∙ either (eqb q 0) ∙ sym (get-empty nat_cmp q))
  where
    either : (b : Bool) → cond b None (cond b (Some e) None) ≡ None
    either true = refl
    either false = refl

-- what waits at the head is settled
pub record IsSettled (p q : Progress) : Type 0 where
  pub same : made q ≡ made p
  pub all : q.settled ≡ made q
  pub none : q.waiting ≡ fin.empty

pub settled_here : (p : Progress) (e : Entry) → p.waiting ≡ fin.insert fin.empty 0 e → IsSettled p (settles p 0 (fin.get p.waiting 0))
settled_here p e is = subst (λ o. IsSettled p (settles p 0 o)) (sym (ap (λ m. fin.get m 0) is ∙ get_here e)) (record {
  same = after ∙ sym (made_one p e is);
  all = sym after;
  none = gone_now;
})
  where
    gone_now : fin.remove p.waiting 0 ≡ fin.empty
    gone_now = ap (λ m. fin.remove m 0) is ∙ gone e

    after : made (settles p 0 (Some e)) ≡ p.settled ++ e ∷ []
    after = made_none (settles p 0 (Some e)) gone_now

-- nothing waits at the head
pub none_waits : (p : Progress) → MayWait p → fin.get p.waiting 0 ≡ None → p.waiting ≡ fin.empty
none_waits p may none = ⊎_elim (λ e. e) (λ k. absurd (none-some k.0 (sym none ∙ ap (λ m. fin.get m 0) k.1 ∙ get_here k.0))) may

-- an update comes to wait there
pub record ComesToWait (p q : Progress) (e : Entry) : Type 0 where
  pub made_is : made q ≡ made p ++ e ∷ []
  pub waiting : q.waiting ≡ fin.insert fin.empty 0 e

pub comes_to_wait : (p : Progress) (e : Entry) → p.waiting ≡ fin.empty → ComesToWait p (takes_effect p 0 (Some e)) e
comes_to_wait p e none = record {
  made_is = made_one (takes_effect p 0 (Some e)) e now ∙ ap (λ es. es ++ e ∷ []) (sym (made_none p none));
  waiting = now;
}
  where
    now : fin.insert p.waiting 0 e ≡ fin.insert fin.empty 0 e
    now = ap (λ m. fin.insert m 0 e) none
