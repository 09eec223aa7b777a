-- Updates that wait, kept in a tree map by their words.
use Rattle.std.proofs.Common.{◌≡◌, ℕ, ◌+◌, ◌<◌, ◌==◌, ◌||◌, ◌⊎◌, inl, inr, Bool, true, false, cond, List, [], ◌∷◌, ◌++◌, map, drop, take, length, slice_index_or, Option, Some, None, Ordering, nat_cmp, refl, sym, ap, ◌∙◌, ne_eqb, arith}
use Rattle.std.specs.declared.cmp.Ordering.TheVariants.{Less, Equal, Greater}
use Rattle.std.specs.Ordering.{match_ordering, eq_by_cmp, is_eq}
use Rattle.std.specs.Cmp.{nat_cmp_is}
use Rattle.std.specs.List.{list_any}
use Rattle.std.specs.Map.{lookup}
use Rattle.std.specs.BTreeMap.{insert_entry, is_at}
use Rattle.std.specs.FinMap.{FinMap, entries, from_entries, empty, get, insert, retain_keys, find, put, entries-insert, len-entries, len-empty, get-empty, get-entries, get-insert, get-retain_keys, same_map, nat_cmp-IsAntisymmetric}
use Rattle.std.specs.FinMap.Entries.{by_order}
use Rattle.std.proofs.lemmas.Bool.{cases_order, eq-eqb}
use Rattle.std.proofs.lemmas.Cmp.{nat_cmp_total}
use Rattle.std.proofs.lemmas.List.{drop_more, take_more}
use Rattle.std.proofs.Math.Seq.{drop-length}
use Rattle.flit_model.specs.declared.calls.Entry.{Entry}
use Rattle.flit_sched.specs.declared.players.Player.{Player}
use Rattle.flit_sched.specs.declared.players.Waiting.{Waiting}
use Rattle.flit_sched.specs.Kept.{pairs_waiting, waiting_of}

by_order_is : {A : Type 0} (o : Ordering) (a b c d : A) → c ≡ d → match_ordering o a b c ≡ by_order o a b d
by_order_is Less a b c d e = refl
by_order_is Equal a b c d e = refl
by_order_is Greater a b c d e = e

no_length : {Y : Type 0} (xs : List Y) → length xs ≡ 0 → xs ≡ []
no_length [] e = refl
no_length (x ∷ xs) e = absurd (omega (arith, e))

-- ---- the words of an image, one after another

abbrev pub is_in : List ℕ → ℕ → Bool
is_in words word = list_any (λ w. w == word) words

is_in_more : (words : List ℕ) (w q : ℕ) → is_in (words ++ w ∷ []) q ≡ is_in words q || (w == q)
is_in_more [] w q = or_none (w == q)
  where
    or_none : (b : Bool) → b || false ≡ b
    or_none true = refl
    or_none false = refl
is_in_more (v ∷ words) w q = ap (λ b. (v == q) || b) (is_in_more words w q) ∙ or_or (v == q) (is_in words q) (w == q)
  where
    or_or : (a b c : Bool) → a || (b || c) ≡ (a || b) || c
    or_or true b c = refl
    or_or false b c = refl

same_word : (q w : ℕ) → ((q ≡ w) × (eq_by_cmp nat_cmp q w ≡ true) × ((w == q) ≡ true)) ⊎ ((eq_by_cmp nat_cmp q w ≡ false) × ((w == q) ≡ false))
same_word q w = elim (cases_order q w) [
  | inl e ↦ inl (e, ap is_eq (sym (nat_cmp_is q w Equal e)), eq-eqb w q (sym e))
  | inr o ↦ elim o [
    | inl l ↦ inr (ap is_eq (sym (nat_cmp_is q w Less l)), ne_eqb w q (λ e. absurd (omega arith)))
    | inr l ↦ inr (ap is_eq (sym (nat_cmp_is q w Greater l)), ne_eqb w q (λ e. absurd (omega arith)))
  ]
]

or_true : (b : Bool) → b || true ≡ true
or_true true = refl
or_true false = refl

or_false : (b : Bool) → b || false ≡ b
or_false true = refl
or_false false = refl

module _ {X : Type 0} where
  insert_entry-put : (es : List (ℕ × X)) (k : ℕ) (v : X) → insert_entry nat_cmp es k v ≡ put nat_cmp k v es
  insert_entry-put [] k v = refl
  insert_entry-put (e ∷ es) k v = by_order_is (nat_cmp k e.0) _ _ _ _ (ap (λ xs. e ∷ xs) (insert_entry-put es k v))

  -- a tree map with the entries of a map, and one entry more
  pub entries_put : (m : FinMap nat_cmp X) (made later : List (ℕ × X)) (k : ℕ) (v : X) → made ≡ entries m → later ≡ insert_entry nat_cmp made k v →
      later ≡ entries (insert m k v)
  entries_put m made later k v same e = e ∙ insert_entry-put made k v ∙ ap (put nat_cmp k v) same ∙ sym (entries-insert nat_cmp_total m k v)

  pub entries-empty : entries (empty {X = X} {R = nat_cmp}) ≡ []
  entries-empty = no_length _ (sym (len-entries (empty {X = X} {R = nat_cmp})) ∙ len-empty nat_cmp X)

  lookup-find : (q : ℕ) (es : List (ℕ × X)) → lookup (is_at (nat_cmp q)) es ≡ find nat_cmp q es
  lookup-find q [] = refl
  lookup-find q (e ∷ es) = ap (cond (eq_by_cmp nat_cmp q e.0) (Some e.1)) (lookup-find q es)

  pub lookup-get : (m : FinMap nat_cmp X) (q : ℕ) (es : List (ℕ × X)) → es ≡ entries m → lookup (is_at (nat_cmp q)) es ≡ get m q
  lookup-get m q es e = lookup-find q es ∙ ap (find nat_cmp q) e ∙ sym (get-entries m q)

  same : (m n : FinMap nat_cmp X) → ((q : ℕ) → get m q ≡ get n q) → m ≡ n
  same = same_map nat_cmp_total nat_cmp-IsAntisymmetric

  kept : (m : FinMap nat_cmp X) (p : ℕ → Bool) (q : ℕ) → get (retain_keys m p) q ≡ cond (p q) (get m q) None
  kept m p q = get-retain_keys m p q (λ x t. ap p (sym (nat_cmp-IsAntisymmetric q x t)))

  pub retain_none : (m : FinMap nat_cmp X) → retain_keys m (λ w. false) ≡ empty
  retain_none m = same _ _ (λ q. kept m (λ w. false) q ∙ sym (get-empty nat_cmp q))

  pub retain_all : (m : FinMap nat_cmp X) → retain_keys m (λ w. true) ≡ m
  retain_all m = same _ _ (λ q. kept m (λ w. true) q)

  module _ (m : FinMap nat_cmp X) (words : List ℕ) (w : ℕ) where
    later_at : (q : ℕ) (b : Bool) → (w == q) ≡ b → get (retain_keys m (is_in (words ++ w ∷ []))) q ≡ cond (is_in words q || b) (get m q) None
    later_at q b e = kept m (is_in (words ++ w ∷ [])) q ∙ ap (λ c. cond c (get m q) None) (is_in_more words w q ∙ ap (λ c. is_in words q || c) e)

    here_at : (q : ℕ) → (w == q) ≡ true → get (retain_keys m (is_in (words ++ w ∷ []))) q ≡ get m q
    here_at q e = later_at q true e ∙ ap (λ c. cond c (get m q) None) (or_true (is_in words q))

    else_at : (q : ℕ) → (w == q) ≡ false → get (retain_keys m (is_in (words ++ w ∷ []))) q ≡ get (retain_keys m (is_in words)) q
    else_at q e = later_at q false e ∙ ap (λ c. cond c (get m q) None) (or_false (is_in words q)) ∙ sym (kept m (is_in words) q)

    pub retain_more : (v : X) → get m w ≡ Some v → insert (retain_keys m (is_in words)) w v ≡ retain_keys m (is_in (words ++ w ∷ []))
    retain_more v has = same _ _ (λ q. get-insert nat_cmp_total (retain_keys m (is_in words)) w v q
        ∙ elim (same_word q w) as (λ r. cond (eq_by_cmp nat_cmp q w) (Some v) (get (retain_keys m (is_in words)) q) ≡ get
        (retain_keys m (is_in (words ++ w ∷ []))) q) [
          | inl e ↦ ap (λ b. cond b (Some v) (get (retain_keys m (is_in words)) q)) e.1 ∙ sym (here_at q e.2 ∙ ap (get m) e.0 ∙ has)
          | inr e ↦ ap (λ b. cond b (Some v) (get (retain_keys m (is_in words)) q)) e.0 ∙ sym (else_at q e.1)
        ])

    none_if : {Y : Type 0} (b : Bool) (o : Option Y) → o ≡ None → cond b o None ≡ o
    none_if true o e = refl
    none_if false o e = sym e

    pub retain_same : get m w ≡ None → retain_keys m (is_in words) ≡ retain_keys m (is_in (words ++ w ∷ []))
    retain_same none = same _ _ (λ q. elim (same_word q w) as (λ r. get (retain_keys m (is_in words)) q ≡ get (retain_keys m (is_in (words ++ w ∷ []))) q) [
      | inl e ↦ kept m (is_in words) q ∙ none_if (is_in words q) (get m q) (ap (get m) e.0 ∙ none) ∙ sym (here_at q e.2)
      | inr e ↦ sym (else_at q e.1)
    ])

  pub taken_start : (m : FinMap nat_cmp X) (made : List (ℕ × X)) → made ≡ [] → made ≡ entries (retain_keys m (is_in []))
  taken_start m made e = e ∙ sym (ap entries (retain_none m) ∙ entries-empty)

  pub values_none : (m : FinMap nat_cmp X) (made : List (ℕ × X)) → made ≡ [] → map (λ e. e.1) made ≡ map (λ e. e.1) (entries (retain_keys m (λ w. false)))
  values_none m made e = ap (map (λ e. e.1)) (e ∙ sym (ap entries (retain_none m) ∙ entries-empty))

  pub values_all : (m : FinMap nat_cmp X) (made : List (ℕ × X)) → made ≡ entries m → map (λ e. e.1) made ≡ map (λ e. e.1) (entries (retain_keys m (λ w. true)))
  values_all m made e = ap (map (λ e. e.1)) (e ∙ sym (ap entries (retain_all m)))

  module _ (m : FinMap nat_cmp X) (waiting made : List (ℕ × X)) (words : List ℕ) (i : ℕ) (d : ℕ) (e : waiting ≡ entries m) (below : i < length words)
      (so_far : made ≡ entries (retain_keys m (is_in (take i words)))) where
    longer : (next : ℕ) → next ≡ i + 1 → take i words ++ slice_index_or words i d ∷ [] ≡ take next words
    longer next above = sym (ap (λ n. take n words) above ∙ take_more words i d below)

    pub taken_more : (later : List (ℕ × X)) (next : ℕ) (v : X) → next ≡ i + 1 → Some v ≡ lookup (is_at (nat_cmp (slice_index_or words i d))) waiting
        → later ≡ insert_entry nat_cmp made (slice_index_or words i d) v → later ≡ entries (retain_keys m (is_in (take next words)))
    taken_more later next v above has is =
        entries_put (retain_keys m (is_in (take i words))) made later (slice_index_or words i d) v so_far is
        ∙ ap entries (retain_more m (take i words) (slice_index_or words i d) v (sym (has ∙ lookup-get m (slice_index_or words i d) waiting e)))
        ∙ ap (λ ws. entries (retain_keys m (is_in ws))) (longer next above)

    pub taken_same : (next : ℕ) → next ≡ i + 1 → None ≡ lookup (is_at (nat_cmp (slice_index_or words i d))) waiting →
        made ≡ entries (retain_keys m (is_in (take next words)))
    taken_same next above none =
        so_far
        ∙ ap entries (retain_same m (take i words) (slice_index_or words i d) (sym (none ∙ lookup-get m (slice_index_or words i d) waiting e)))
        ∙ ap (λ ws. entries (retain_keys m (is_in ws))) (longer next above)

-- ---- the players, from the last to the first

pub waiting_start : {O : Type 0} (players : List (Player O)) (made : List (ℕ × Entry)) → made ≡ [] →
    made ≡ entries (from_entries {R = nat_cmp} (waiting_of (drop (length players) players)))
waiting_start players made e = e ∙ sym (ap (λ ps. entries (from_entries {R = nat_cmp} (waiting_of ps))) (drop-length players) ∙ entries-empty)

pub waiting_step : {O : Type 0} (players : List (Player O)) (made later : List (ℕ × Entry)) (i next : ℕ) (d : Player O) (w : Waiting) → i < length players →
    next ≡ i + 1
    → (slice_index_or players i d).waiting ≡ Some w
    → made ≡ entries (from_entries {R = nat_cmp} (waiting_of (drop next players)))
    → later ≡ insert_entry nat_cmp made w.word w.entry
    → later ≡ entries (from_entries {R = nat_cmp} (waiting_of (drop i players)))
waiting_step players made later i next d w below above has so_far is =
    let rest = drop next players in
    let split : drop i players ≡ slice_index_or players i d ∷ rest = drop_more players i d below
    ∙ ap (λ n. slice_index_or players i d ∷ drop n players) (sym above) in
    entries_put (from_entries {R = nat_cmp} (waiting_of rest)) made later w.word w.entry so_far is
    ∙ sym (ap (λ ps. entries (from_entries {R = nat_cmp} (waiting_of ps))) split
    ∙ ap (λ o. entries (from_entries {R = nat_cmp} (pairs_waiting o ++ waiting_of rest))) has)
