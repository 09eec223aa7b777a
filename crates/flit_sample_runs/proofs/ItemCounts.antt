-- How many items the workers have: a turn leaves the counts, and they tell how many parts a run has.
use Rattle.std.proofs.Common.{◌≡◌, ◌⊎◌, inl, inr, ℕ, zero, suc, ◌<◌, List, [], ◌∷◌, ◌++◌, length, map, refl, sym, ap, ◌∙◌, arith}
use Rattle.flit_sched.specs.declared.runs.Turn.{Turn}
use Rattle.flit_sched.specs.declared.runs.Turn.TheVariants.{Event as Event_turn, Idle as Idle_turn}
use Rattle.flit_structure.specs.Meanings.{Meaning}
use Rattle.flit_sched.specs.Runs.{Part, Run, IsPart}
use Rattle.flit_sched.specs.Turns.{IsTurn, Alone, no_turn, one_more}
use Rattle.flit_sample_runs.specs.Opened.{counts_of}
use Rattle.flit_sample_runs.specs.InOrder.{InOrder}

one_changed : {Op : Type 0} (before : List (Part Op)) (p q : Part Op) (behind : List (Part Op)) → length p.items ≡ length q.items →
    map (λ x. length x.items) (before ++ p ∷ behind) ≡ map (λ x. length x.items) (before ++ q ∷ behind)
one_changed [] p q behind same = ap (λ n. n ∷ map (λ x. length x.items) behind) same
one_changed (b ∷ before) p q behind same = ap (λ ns. length b.items ∷ ns) (one_changed before p q behind same)

pub turns_keep_counts : {Op : Type 0} (meaning : Meaning Op) (r : Run Op) (worker : ℕ) (t : Turn) (next : Run Op) → IsTurn meaning r worker t next →
    counts_of next ≡ counts_of r
turns_keep_counts meaning r worker (Event_turn e told) next h =
    ap (λ ps. map (λ x. length x.items) ps) h.parts
    ∙ one_changed h.before _ h.part h.behind refl
    ∙ ap (λ ps. map (λ x. length x.items) ps) (sym h.is.is)
turns_keep_counts meaning r worker Idle_turn next h = ap counts_of h.same

counted_long : {Op : Type 0} (ps : List (Part Op)) → length (map (λ x. length x.items) ps) ≡ length ps
counted_long [] = refl
counted_long (p ∷ ps) = ap suc (counted_long ps)

pub two_parts : {Op : Type 0} (r : Run Op) (a b : ℕ) → counts_of r ≡ a ∷ b ∷ [] → length r.parts ≡ 2
two_parts r a b h = sym (counted_long r.parts) ∙ ap length h

first_count : (x y : ℕ) (xs ys : List ℕ) → x ∷ xs ≡ y ∷ ys → x ≡ y
first_count x y xs ys h = cc

counts_behind : (x y : ℕ) (xs ys : List ℕ) → x ∷ xs ≡ y ∷ ys → xs ≡ ys
counts_behind x y xs ys h = cc

some_count : {Op : Type 0} (before : List (Part Op)) (p : Part Op) (behind : List (Part Op)) → ¬ (map (λ x. length x.items) (before ++ p ∷ behind) ≡ [])
some_count [] p behind h = absurd (cc)
some_count (q ∷ before) p behind h = absurd (cc)

-- the count of the part that stands behind so many others
part_count : {Op : Type 0} (before : List (Part Op)) (p : Part Op) (behind : List (Part Op)) (a b : ℕ) →
    map (λ x. length x.items) (before ++ p ∷ behind) ≡ a ∷ b ∷ [] →
    ((length before ≡ 0) × (length p.items ≡ a)) ⊎ ((length before ≡ 1) × (length p.items ≡ b))
part_count [] p behind a b h = inl (refl, first_count (length p.items) a (map (λ x. length x.items) behind) (b ∷ []) h)
part_count (q ∷ []) p behind a b h = inr (refl, first_count (length p.items) b (map (λ x. length x.items) behind) [] (counts_behind (length q.items) a _ _ h))
part_count (q ∷ x ∷ before) p behind a b h = absurd (some_count before p behind (counts_behind (length x.items) b _ _ (counts_behind (length q.items) a _ _ h)))

pub item_within : {Op : Type 0} (r : Run Op) (worker : ℕ) (before : List (Part Op)) (p : Part Op) (behind : List (Part Op)) (a b item : ℕ) →
    counts_of r ≡ a ∷ b ∷ [] → IsPart r worker before p behind →
    ((worker ≡ 1) × (item < a)) ⊎ ((worker ≡ 2) × (item < b)) → item < length p.items
item_within r worker before p behind a b item counts part within = by_place within
    (part_count before p behind a b (ap (λ ps. map (λ x. length x.items) ps) (sym part.is) ∙ counts))
  where
    by_place : ((worker ≡ 1) × (item < a)) ⊎ ((worker ≡ 2) × (item < b)) → ((length before ≡ 0) × (length p.items ≡ a))
        ⊎ ((length before ≡ 1) × (length p.items ≡ b)) → item < length p.items
    by_place (inl w) (inl c) = omega (arith, w.1, c.1)
    by_place (inl w) (inr c) = absurd (omega (arith, w.0, c.0, part.number))
    by_place (inr w) (inl c) = absurd (omega (arith, w.0, c.0, part.number))
    by_place (inr w) (inr c) = omega (arith, w.1, c.1)

module _ {Op : Type 0} (meaning : Meaning Op) where
  alone_keeps_counts : (worker : ℕ) (r next : Run Op) → Alone meaning worker r next → counts_of next ≡ counts_of r
  alone_keeps_counts worker r next no_turn = refl
  alone_keeps_counts worker r next (one_more {n} {o} e told before turned) = turns_keep_counts meaning n worker (Event_turn e told) next turned
      ∙ alone_keeps_counts worker r n before

  pub in_order_keeps_counts : (workers : ℕ) (r next : Run Op) → InOrder meaning workers r next → counts_of next ≡ counts_of r
  in_order_keeps_counts zero r next h = ap counts_of h
  in_order_keeps_counts (suc n) r next h = alone_keeps_counts (suc n) h.0 next h.2 ∙ in_order_keeps_counts n r h.0 h.1
