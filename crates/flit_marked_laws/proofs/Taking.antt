-- Which updates a crash image has: an update that waits at a word is among them exactly where the word is picked.
use Rattle.std.proofs.Common.{◌≡◌, inl, inr, ⊎_elim, ℕ, suc, ◌≤◌, Bool, true, cond, List, [], ◌∷◌, ◌++◌, Some, None, refl, sym, ◌∙◌, ap, subst, arith}
use Rattle.std.proofs.lemmas.List.Elements.{Contains-append_right, Contains-append_cases}
use Rattle.std.specs.Prelude.{Contains}
use Rattle.std.specs.FinMap as fin
use Rattle.std.specs.FinMap.{get-retain_keys, nat_cmp-IsAntisymmetric}
use Rattle.flit_model.specs.Settling.{Progress, taken_updates}
use Rattle.flit_model.specs.declared.calls.Entry.{Entry}
use Rattle.flit_model.proofs.Elements.{all_contained}
use Rattle.flit_model.proofs.Membership.{contains_first, contains_later, contains_cases, contains_none}
use Rattle.flit_structure.specs.Moments.{Moment}
use Rattle.flit_structure.specs.Meanings.{Meaning}
use Rattle.flit_structure.specs.Lawful.{Lawful}
use Rattle.flit_structure.proofs.Ahead.{settled_below}
use Rattle.flit_structure.proofs.Taken.{WaitsPicked, taken_wait}
use Rattle.flit_structure.proofs.Waiting.{one_each}
use Rattle.flit_crew.specs.Accounts.{IsAny}
use Rattle.flit_crew.proofs.Updating.{any_waiting}

any_contained : (e : Entry) (es : List Entry) → IsAny (λ d. e ≡ d) es → Contains es e
any_contained e [] k = absurd k
any_contained e (d ∷ es) (inl same) = subst (λ x. Contains (d ∷ es) x) (sym same) (contains_first d es)
any_contained e (d ∷ es) (inr k) = contains_later d es e (any_contained e es k)

-- an element parts its list
parted : (es : List Entry) (e : Entry) → Contains es e → (front : List Entry) × (back : List Entry) × (es ≡ front ++ e ∷ back)
parted [] e k = absurd (contains_none e k)
parted (d ∷ es) e k = ⊎_elim (λ same. ([], es, ap (λ x. x ∷ es) same))
    (λ later. let r = parted es e later in (d ∷ r.0, r.1, ap (λ xs. d ∷ xs) r.2)) (contains_cases d es e k)

pub taken_has : (p : Progress) (picks : ℕ → Bool) (w : ℕ) (e : Entry) → fin.get p.waiting w ≡ Some e → picks w ≡ true →
    Contains (p.settled ++ taken_updates p picks) e
taken_has p picks w e is picked = Contains-append_right p.settled (taken_updates p picks) e (any_contained e (taken_updates p picks)
    (any_waiting (fin.retain_keys p.waiting picks) w e
    (get-retain_keys p.waiting picks w (λ x s. ap picks (sym (nat_cmp-IsAntisymmetric w x s))) ∙ ap (λ b. cond b (fin.get p.waiting w) None) picked ∙ is)))

module _ {Op : Type 0} (meaning : Meaning Op) (laws : Lawful meaning) (M : Moment Op) (holds : meaning.holds M) (w : ℕ) (e : Entry)
    (waits : fin.get M.progress.waiting w ≡ Some e) where
  -- what waits isn't settled
  pub unsettled : Contains M.progress.settled e → ⊥
  unsettled k = let r = parted M.progress.settled e k in
      none_below e.number (settled_below M.progress r.0 r.1 e w e r.2 waits refl ((laws.entries M holds).rises e.worker))
    where
      none_below : (n : ℕ) → suc n ≤ n → ⊥
      none_below n i = omega (arith, i)

  pub picked_so : (picks : ℕ → Bool) → Contains (M.progress.settled ++ taken_updates M.progress picks) e → picks w ≡ true
  picked_so picks k = ⊎_elim (λ s. absurd (unsettled s))
      (λ t. let x = all_contained (WaitsPicked M.progress picks) (taken_updates M.progress picks) e (taken_wait M.progress picks) t in
      ap picks (sym (one_each meaning laws M holds x.0 w e e x.2 waits refl)) ∙ x.1)
      (Contains-append_cases M.progress.settled (taken_updates M.progress picks) e k)
