-- Where a history is cut: the updates before a place and the reads before it, the reads at the place, and the others.
use Rattle.std.proofs.Common.{◌≡◌, ◌⊎◌, inl, inr, ℕ, suc, ◌+◌, ◌<◌, ◌≤◌, List, [], ◌∷◌, ◌++◌, length, refl, sym, ◌∙◌, ap, subst, arith, append_assoc, append-nil}
use Rattle.std.specs.List.{AllByRecursion}
use Rattle.flit_model.specs.Histories.{reads_at, history_from}
use Rattle.flit_model.specs.declared.calls.Entry.{Entry}
use Rattle.flit_model.specs.declared.calls.Placed.{Placed}
use Rattle.flit_model.proofs.HistoryLaws.{all-reads_at}
use Rattle.flit_structure.proofs.Names.{all_both, all_map}
use Rattle.flit_histories.specs.Orders.{IsIn, StandsBefore}

abbrev pub upto : ℕ → List Entry → List Placed → List Entry
upto n [] reads = []
upto n (u ∷ us) reads = reads_at n reads ++ u ∷ upto (suc n) us reads

abbrev pub behind_reads : ℕ → List Entry → List Placed → List Entry
behind_reads n [] reads = []
behind_reads n (u ∷ us) reads = u ∷ history_from (suc n) us reads

no_more : (n : ℕ) → n ≡ n + 0
no_more n = omega arith

one_more : (n k : ℕ) → suc n + k ≡ n + suc k
one_more n k = omega arith

pub history_cut : (n : ℕ) (us vs : List Entry) (reads : List Placed) → history_from n (us ++ vs) reads ≡ upto n us reads ++ history_from (n + length us) vs
    reads
history_cut n [] vs reads = ap (λ k. history_from k vs reads) (no_more n)
history_cut n (u ∷ us) vs reads =
    ap (λ xs. reads_at n reads ++ u ∷ xs) (history_cut (suc n) us vs reads
    ∙ ap (λ k. upto (suc n) us reads ++ history_from k vs reads) (one_more n (length us)))
    ∙ sym (append_assoc (reads_at n reads) (u ∷ upto (suc n) us reads) (history_from (n + suc (length us)) vs reads))

pub history_first : (n : ℕ) (us : List Entry) (reads : List Placed) → history_from n us reads ≡ reads_at n reads ++ behind_reads n us reads
history_first n [] reads = sym (append-nil (reads_at n reads))
history_first n (u ∷ us) reads = refl

-- what is true of the updates before a place and of the reads of lower positions
pub all_upto : (P : Entry → Type 0) (n : ℕ) (us : List Entry) (reads : List Placed) → AllByRecursion P us →
    AllByRecursion (λ q. q.position < n + length us → P q.entry) reads → AllByRecursion P (upto n us reads)
all_upto P n [] reads h k = tt
all_upto P n (u ∷ us) reads h k =
    all_both P (reads_at n reads) (u ∷ upto (suc n) us reads)
    (all-reads_at P n reads (all_map (λ q. q.position < n + suc (length us) → P q.entry) (λ q. q.position ≡ n → P q.entry) (λ q f e. f (omega (arith, e))) reads
    k)) (
      h.0,
      all_upto P (suc n) us reads h.1 (all_map (λ q. q.position < n + suc (length us) → P q.entry) (λ q. q.position < suc n + length us → P q.entry)
          (λ q f e. f (omega (arith, e))) reads k),
    )

all_from : (P : Entry → Type 0) (n : ℕ) (us : List Entry) (reads : List Placed) → AllByRecursion P us → AllByRecursion (λ q. n ≤ q.position → P q.entry) reads →
    AllByRecursion P (history_from n us reads)
all_from P n [] reads h k = all-reads_at P n reads (all_map (λ q. n ≤ q.position → P q.entry) (λ q. q.position ≡ n → P q.entry) (λ q f e. f (omega (arith, e)))
    reads k)
all_from P n (u ∷ us) reads h k =
    all_both P (reads_at n reads) (u ∷ history_from (suc n) us reads)
    (all-reads_at P n reads (all_map (λ q. n ≤ q.position → P q.entry) (λ q. q.position ≡ n → P q.entry) (λ q f e. f (omega (arith, e))) reads k)) (
      h.0,
      all_from P (suc n) us reads h.1 (all_map (λ q. n ≤ q.position → P q.entry) (λ q. suc n ≤ q.position → P q.entry) (λ q f e. f (omega (arith, e))) reads
          k),
    )

-- and of those behind the reads of the place
pub all_behind : (P : Entry → Type 0) (n : ℕ) (us : List Entry) (reads : List Placed) → AllByRecursion P us →
    AllByRecursion (λ q. n < q.position → P q.entry) reads → AllByRecursion P (behind_reads n us reads)
all_behind P n [] reads h k = tt
all_behind P n (u ∷ us) reads h k = (
  h.0,
  all_from P (suc n) us reads h.1
      (all_map (λ q. n < q.position → P q.entry) (λ q. suc n ≤ q.position → P q.entry) (λ q f e. f (omega (arith, e))) reads k),
)

module _ {X : Type 0} where
  in_more : (y : X) (xs : List X) (x : X) → IsIn xs x → IsIn (y ∷ xs) x
  in_more y xs x h = (y ∷ h.0, h.1, ap (λ zs. y ∷ zs) h.2)

  -- one of two lists in a row is in the one or in the other
  pub in_either : (xs ys : List X) (x : X) → IsIn (xs ++ ys) x → IsIn xs x ⊎ IsIn ys x
  in_either [] ys x h = inr h
  in_either (z ∷ xs) ys x ([], g, e) = let same : z ≡ x = cc in inl ([], xs, ap (λ y. y ∷ xs) same)
  in_either (z ∷ xs) ys x (y ∷ f, g, e) =
      let same : z ≡ y = cc in
      let rest : xs ++ ys ≡ f ++ x ∷ g = cc in
      by_rest (in_either xs ys x (f, g, rest))
    where
      by_rest : IsIn xs x ⊎ IsIn ys x → IsIn (z ∷ xs) x ⊎ IsIn ys x
      by_rest (inl k) = inl (in_more z xs x k)
      by_rest (inr k) = inr k

  -- one of the first and one of the second
  pub in_both : (xs ys : List X) (x y : X) → IsIn xs x → IsIn ys y → StandsBefore (xs ++ ys) x y
  in_both xs ys x y h k = (
    h.0,
    h.1 ++ k.0,
    k.1,
    ap (λ zs. zs ++ ys) h.2 ∙ append_assoc h.0 (x ∷ h.1) ys ∙ ap (λ zs. h.0 ++ x ∷ (h.1 ++ zs)) k.2
        ∙ ap (λ zs. h.0 ++ x ∷ zs) (sym (append_assoc h.1 k.0 (y ∷ k.1))),
  )

  -- with more in front
  pub stands_in_back : (zs xs : List X) (x y : X) → StandsBefore xs x y → StandsBefore (zs ++ xs) x y
  stands_in_back zs xs x y h = (zs ++ h.0, h.1, h.2, ap (λ ys. zs ++ ys) h.3 ∙ sym (append_assoc zs h.0 (x ∷ (h.1 ++ y ∷ h.2))))

  pub all_in : (P : X → Type 0) (xs : List X) (x : X) → AllByRecursion P xs → IsIn xs x → P x
  all_in P xs x h k = here k.0 k.1 (subst (AllByRecursion P) k.2 h)
    where
      here : (f g : List X) → AllByRecursion P (f ++ x ∷ g) → P x
      here [] g a = a.0
      here (y ∷ f) g a = here f g a.1

  -- where one stands, by the length of what is before it
  pub in_front : (us vs f g : List X) (x : X) → us ++ vs ≡ f ++ x ∷ g → length f < length us → IsIn us x
  in_front [] vs f g x e h = absurd (omega (arith, h))
  in_front (u ∷ us) vs [] g x e h = let same : u ≡ x = cc in ([], us, ap (λ y. y ∷ us) same)
  in_front (u ∷ us) vs (y ∷ f) g x e h = let rest : us ++ vs ≡ f ++ x ∷ g = cc in in_more u us x (in_front us vs f g x rest (omega (arith, h)))

  pub in_behind : (us vs f g : List X) (x : X) → us ++ vs ≡ f ++ x ∷ g → length us ≤ length f → IsIn vs x
  in_behind [] vs f g x e h = (f, g, e)
  in_behind (u ∷ us) vs [] g x e h = absurd (omega (arith, h))
  in_behind (u ∷ us) vs (y ∷ f) g x e h = let rest : us ++ vs ≡ f ++ x ∷ g = cc in in_behind us vs f g x rest (omega (arith, h))

-- each read at a place is one of the placed ones, with this position
pub reads_placed : (n : ℕ) (reads : List Placed) → AllByRecursion (λ x. IsIn reads (record { position = n; entry = x })) (reads_at n reads)
reads_placed n reads = all-reads_at (λ x. IsIn reads (record { position = n; entry = x })) n reads (each [] reads refl)
  where
    each : (f g : List Placed) → reads ≡ f ++ g → AllByRecursion (λ q. q.position ≡ n → IsIn reads (record { position = n; entry = q.entry })) g
    each f [] e = tt
    each f (q ∷ g) e = (
      (λ is. (f, g, e ∙ ap {B = List Placed} (λ k. f ++ record { position = k; entry = q.entry } ∷ g) is)),
      each (f ++ q ∷ []) g (e ∙ sym (append_assoc f (q ∷ []) g)),
    )
