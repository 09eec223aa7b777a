-- Facts of each part of a run, or of one of them, with the part's name.
use Rattle.std.proofs.Common.{◌≡◌, ◌≢◌, ◌⊎◌, inl, inr, ℕ, suc, ◌+◌, ◌≤◌, List, [], ◌∷◌, ◌++◌, length, refl, sym, ◌∙◌, ap, subst, arith}
use Rattle.flit_sched.specs.Runs.{Part, workers_of}

first_name : (n : ℕ) → n ≡ n + 0
first_name n = omega arith

next_name : (n k : ℕ) → n + 1 + k ≡ n + suc k
next_name n k = omega arith

module _ {Op : Type 0} where
  abbrev pub AllFrom : (ℕ → Part Op → Type 0) → ℕ → List (Part Op) → Type 0
  AllFrom P name [] = Unit {0}
  AllFrom P name (p ∷ ps) = P name p × AllFrom P (name + 1) ps

  abbrev pub HasFrom : (ℕ → Part Op → Type 0) → ℕ → List (Part Op) → Type 0
  HasFrom P name [] = ⊥
  HasFrom P name (p ∷ ps) = P name p ⊎ HasFrom P (name + 1) ps

  pub all_from_at : (P : ℕ → Part Op → Type 0) (name : ℕ) (a b : List (Part Op)) (p : Part Op) → AllFrom P name (a ++ p ∷ b) → P (name + length a) p
  all_from_at P name [] b p h = subst (λ n. P n p) (first_name name) h.0
  all_from_at P name (q ∷ a) b p h = subst (λ n. P n p) (next_name name (length a)) (all_from_at P (name + 1) a b p h.1)

  pub all_from_map : (P Q : ℕ → Part Op → Type 0) (name : ℕ) (ps : List (Part Op)) → ((n : ℕ) (x : Part Op) → name ≤ n → P n x → Q n x) → AllFrom P name ps →
      AllFrom Q name ps
  all_from_map P Q name [] f h = tt
  all_from_map P Q name (p ∷ ps) f h = (f name p (omega arith) h.0, all_from_map P Q (name + 1) ps (λ n x le. f n x (omega (arith, le))) h.1)

  -- another part in the place of one
  pub all_from_put : (P Q : ℕ → Part Op → Type 0) (name : ℕ) (a b : List (Part Op)) (p q : Part Op) →
      ((n : ℕ) (x : Part Op) → n ≢ name + length a → P n x → Q n x) → Q (name + length a) q →
      AllFrom P name (a ++ p ∷ b) → AllFrom Q name (a ++ q ∷ b)
  all_from_put P Q name [] b p q f own h =
      (subst (λ n. Q n q) (sym (first_name name)) own, all_from_map P Q (name + 1) b (λ n x le. f n x (λ e. omega (arith, le, e))) h.1)
  all_from_put P Q name (y ∷ a) b p q f own h = (
    f name y (λ e. omega (arith, e)) h.0,
    all_from_put P Q (name + 1) a b p q (λ n x apart. f n x (λ e. apart (e ∙ sym (next_name name (length a)))))
        (subst (λ n. Q n q) (sym (next_name name (length a))) own) h.1,
  )

  pub has_here : (P : ℕ → Part Op → Type 0) (name : ℕ) (a b : List (Part Op)) (p : Part Op) → P (name + length a) p → HasFrom P name (a ++ p ∷ b)
  has_here P name [] b p h = inl (subst (λ n. P n p) (sym (first_name name)) h)
  has_here P name (q ∷ a) b p h = inr (has_here P (name + 1) a b p (subst (λ n. P n p) (sym (next_name name (length a))) h))

  pub has_put : (P : ℕ → Part Op → Type 0) (name : ℕ) (a b : List (Part Op)) (p q : Part Op) → ((n : ℕ) → P n p → P n q) → HasFrom P name (a ++ p ∷ b) →
      HasFrom P name (a ++ q ∷ b)
  has_put P name [] b p q f (inl h) = inl (f name h)
  has_put P name [] b p q f (inr h) = inr h
  has_put P name (x ∷ a) b p q f (inl h) = inl h
  has_put P name (x ∷ a) b p q f (inr h) = inr (has_put P (name + 1) a b p q f h)

  -- where the one that has it stands
  pub record Found (P : ℕ → Part Op → Type 0) (name : ℕ) (ps : List (Part Op)) : Type 0 where
    pub before : List (Part Op)
    pub part : Part Op
    pub behind : List (Part Op)
    pub is : ps ≡ before ++ part ∷ behind
    pub has : P (name + length before) part

  pub has_found : (P : ℕ → Part Op → Type 0) (name : ℕ) (ps : List (Part Op)) → HasFrom P name ps → Found P name ps
  has_found P name [] h = absurd h
  has_found P name (p ∷ ps) (inl h) = record { before = []; part = p; behind = ps; is = refl; has = subst (λ n. P n p) (first_name name) h }
  has_found P name (p ∷ ps) (inr h) =
      let r = has_found P (name + 1) ps h in
      record {
        before = p ∷ r.before;
        part = r.part;
        behind = r.behind;
        is = ap (λ qs. p ∷ qs) r.is;
        has = subst (λ n. P n r.part) (next_name name (length r.before)) r.has;
      }

  has_above : (P : ℕ → Part Op → Type 0) (name : ℕ) (ps : List (Part Op)) → HasFrom P name ps → (n : ℕ) × (x : Part Op) × (P n x) × (name ≤ n)
  has_above P name [] h = absurd h
  has_above P name (p ∷ ps) (inl h) = (name, p, h, omega arith)
  has_above P name (p ∷ ps) (inr h) = let r = has_above P (name + 1) ps h in (r.0, r.1, r.2, (let le = r.3 in omega (arith, le)))

  -- where it tells the name, the part of this name has it
  pub has_at : (P : ℕ → Part Op → Type 0) (name : ℕ) (a b : List (Part Op)) (p : Part Op) → ((n : ℕ) (x : Part Op) → P n x → n ≡ name + length a) →
      HasFrom P name (a ++ p ∷ b) → P (name + length a) p
  has_at P name [] b p f (inl h) = subst (λ n. P n p) (first_name name) h
  has_at P name [] b p f (inr h) = let r = has_above P (name + 1) b h in let e = f r.0 r.1 r.2 in let le = r.3 in absurd (omega (arith, e, le))
  has_at P name (x ∷ a) b p f (inl h) = let e = f name x h in absurd (omega (arith, e))
  has_at P name (x ∷ a) b p f (inr h) = subst (λ n. P n p) (next_name name (length a))
      (has_at P (name + 1) a b p (λ n y k. f n y k ∙ sym (next_name name (length a))) h)

  pub workers_joined : (a b : List (Part Op)) (p : Part Op) → workers_of (a ++ p ∷ b) ≡ workers_of a ++ p.worker ∷ workers_of b
  workers_joined [] b p = refl
  workers_joined (q ∷ a) b p = ap (λ us. q.worker ∷ us) (workers_joined a b p)
