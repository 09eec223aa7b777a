-- Where the link words, keys and values of a list or a hash table stand, and whether a word is one of them.
use Rattle.std.proofs.Common.{◌≡◌, ◌≢◌, ℕ, ◌+◌, ◌<◌, ◌≤◌, ◌-◌, ◌*◌, ◌/◌, ◌%◌, ◌==◌, true, List, Contains, refl, sym, ap, ◌∙◌, inl, inr, ◌⊎◌, arith, subst, if◌then◌else◌}
use Rattle.std.specs.List.{AllByRecursion, list_any}
use Rattle.std.proofs.lemmas.Bool.{cases_lt, cases_eq, cases_Bool, both_ways}
use Rattle.std.proofs.lemmas.List.{map-id}
use Rattle.flit_words.specs.declared.layouts.Layout.{Layout}
use Rattle.flit_words.specs.declared.layouts.Kind.{Kind}
use Rattle.flit_words.specs.declared.layouts.Kind.TheVariants.{List as List_kind, Hash, Tree as Tree_kind}
use Rattle.flit_words.specs.Layouts.{parts_of, first_row_of, last_row_of, words_of, row_word_of, value_word_of}
use Rattle.flit_model.specs.Lists.{IsRisingFrom, next_word, rows_on_chains}
use Rattle.flit_model.specs.Images.{Chains}
use Rattle.flit_model.proofs.Elements.{all_contained}
use Rattle.flit_model.proofs.Rising.{rising_each}
use Rattle.flit_model.proofs.Membership.{contains-list_any, list_any-contains}
use Rattle.flit_model.proofs.Chains.{chains_unique, chains_within}
use Rattle.flit_model.proofs.Shapes.{shapes_agree, free_rows-contains}
use Rattle.flit_crew.specs.Heaps.{IsOpen, IsForeign, IsWordOf}
use Rattle.flit_crew.proofs.Placing.{same_row}
use Rattle.flit_crew.proofs.Outside.{foreign_fits}
use Rattle.flit_list_heap.specs.Links.{LinkWord, Head, Next, place_of}
use Rattle.flit_list_heap.specs.Keeping.{ListHeap, IsReached, IsLinked, IsLinkAt, Kept}

-- ---- arithmetic

parts : (k : Kind) → k ≢ Tree_kind → parts_of k ≡ 2
parts List_kind other = refl
parts Hash other = refl
parts Tree_kind other = absurd (other refl)

first : (k : Kind) → k ≢ Tree_kind → first_row_of k ≡ 1
first List_kind other = refl
first Hash other = refl
first Tree_kind other = absurd (other refl)

plus_zero : (n : ℕ) → n + 0 ≡ n
plus_zero n = omega arith

less_one : (n : ℕ) → n + (1 - 1) ≡ n
less_one n = omega arith

module _ (l : Layout) (other : l.kind ≢ Tree_kind) where
  pub last-row : last_row_of l ≡ l.rows
  last-row = ap (λ f. l.rows + (f - 1)) (first l.kind other) ∙ less_one l.rows

  pub next-place : (r : ℕ) → next_word l r ≡ l.buckets + 2 * (r - 1) + 1
  next-place r = ap (λ p. l.buckets + p * (r - 1) + 1) (parts l.kind other)

  pub key-place : (r : ℕ) → row_word_of l r 0 ≡ l.buckets + 2 * (r - 1)
  key-place r = ap (λ p. l.buckets + p * (r - 1) + 0) (parts l.kind other) ∙ plus_zero (l.buckets + 2 * (r - 1))

  pub value-place : (r : ℕ) → value_word_of l r ≡ l.buckets + 2 * l.rows + (r - 1)
  value-place r = ap (λ p. l.buckets + p * last_row_of l + (r - 1)) (parts l.kind other) ∙ ap (λ n. l.buckets + 2 * n + (r - 1)) last-row

  pub all-words : words_of l ≡ l.buckets + 2 * l.rows + (if l.values then l.rows else 0)
  all-words = ap (λ p. l.buckets + p * last_row_of l + (if l.values then last_row_of l else 0)) (parts l.kind other)
      ∙ ap (λ n. l.buckets + 2 * n + (if l.values then n else 0)) last-row

head_next : (b a q : ℕ) → a < b → a ≡ b + 2 * (q - 1) + 1 → ⊥
head_next b a q l e = omega (arith, l, e)

head_key : (b a q : ℕ) → a < b → b + 2 * (q - 1) ≡ a → ⊥
head_key b a q l e = omega (arith, l, e)

head_value : (b n a q : ℕ) → a < b → b + 2 * n + (q - 1) ≡ a → ⊥
head_value b n a q l e = omega (arith, l, e)

next_next : (b r q : ℕ) → 1 ≤ r → 1 ≤ q → b + 2 * (r - 1) + 1 ≡ b + 2 * (q - 1) + 1 → r ≡ q
next_next b r q i j e = omega (arith, i, j, e)

key_next : (b r q : ℕ) → b + 2 * (r - 1) ≡ b + 2 * (q - 1) + 1 → ⊥
key_next b r q e = omega (arith, e)

value_next : (b n r q : ℕ) → 1 ≤ q → q ≤ n → b + 2 * n + (r - 1) ≡ b + 2 * (q - 1) + 1 → ⊥
value_next b n r q i j e = omega (arith, i, j, e)

next_within : (b n r : ℕ) → 1 ≤ r → r ≤ n → b + 2 * (r - 1) + 1 < b + 2 * n
next_within b n r i j = omega (arith, i, j)

key_within : (b n r : ℕ) → 1 ≤ r → r ≤ n → b + 2 * (r - 1) < b + 2 * n
key_within b n r i j = omega (arith, i, j)

value_within : (b n r : ℕ) → 1 ≤ r → r ≤ n → b + 2 * n + (r - 1) < b + 2 * n + n
value_within b n r i j = omega (arith, i, j)

below_more : (w a b : ℕ) → w < a → w < a + b
below_more w a b l = omega (arith, l)

below_head : (w a b c : ℕ) → w < a → w < a + 2 * b + c
below_head w a b c l = omega (arith, l)

half : (b w : ℕ) → b ≤ w → 1 ≤ (w - b) / 2 + 1
half b w l = omega arith

odd_place : (b w : ℕ) → b ≤ w → (w - b) % 2 ≡ 1 → w ≡ b + 2 * ((w - b) / 2 + 1 - 1) + 1
odd_place b w l e = omega (arith, l, e)

even_place : (b w : ℕ) → b ≤ w → (w - b) % 2 ≢ 1 → w ≡ b + 2 * ((w - b) / 2 + 1 - 1)
even_place b w l ne = omega (arith, l)

-- ---- whether a list has a row

pub contains_or : (rows : List ℕ) (r : ℕ) → Contains rows r ⊎ (Contains rows r → ⊥)
contains_or rows r = elim (cases_Bool (list_any (λ k. k == r) rows)) [
  | inl y ↦ inl (list_any-contains r rows y)
  | inr n ↦ inr (λ c. both_ways (list_any (λ k. k == r) rows) n (contains-list_any r rows c))
]

-- a chain has the rows that are reached
pub on_chain : (l : Layout) (image : List ℕ) (chain : ℕ → List ℕ) (h : Rattle.flit_model.specs.Lists.IsLawfulList l image chain) (r : ℕ) → IsReached l image r →
    Contains (rows_on_chains l chain) r
on_chain l image chain h r k = subst (λ rows. Contains rows r) (chains_unique l image k.chain chain k.lawful h) k.on

-- the rows of the pool
pub pool_from : (free : List ℕ) → IsRisingFrom 1 free → AllByRecursion (λ row. 1 ≤ row) free
pool_from free rising = rising_each (λ row. row) 1 free (subst (IsRisingFrom 1) (sym (map-id free)) rising)

module _ (l : Layout) (free : List ℕ) (h : ListHeap) (kept : Kept l free h) where
  abbrev other : l.kind ≢ Tree_kind
  other = kept.chained.kind

  pub linked_or : (r : ℕ) → IsLinked l h r ⊎ (IsLinked l h r → ⊥)
  linked_or r = elim (contains_or (rows_on_chains l kept.opened.0) r) [
    | inl on ↦ inl (inl (record { chain = kept.opened.0; lawful = kept.opened.1; on = on }))
    | inr off ↦ elim (contains_or h.given r) [
      | inl c ↦ inl (inr c)
      | inr n ↦ inr (λ k. elim k [ inl a ↦ off (on_chain l h.opening.words kept.opened.0 kept.opened.1 r a) | inr b ↦ n b ])
    ]
  ]

  -- linked rows are rows of the layout
  pub row_fits : (r : ℕ) → IsLinked l h r → (1 ≤ r) × (r ≤ last_row_of l)
  row_fits r (inl k) = all_contained (λ r. (1 ≤ r) × (r ≤ last_row_of l)) (rows_on_chains l k.chain) r (chains_within l h.opening.words k.chain k.lawful) k.on
  row_fits r (inr c) = (
    all_contained (λ row. 1 ≤ row) free r (pool_from free kept.pool.rising) (kept.given r c),
    all_contained (λ row. row ≤ last_row_of l) free r kept.pool.fit (kept.given r c),
  )

  pub row_most : (r : ℕ) → IsLinked l h r → r ≤ l.rows
  row_most r k = subst (λ n. r ≤ n) (last-row l other) (row_fits r k).1

  pub next_below : (r : ℕ) → IsLinked l h r → next_word l r < words_of l
  next_below r k = subst (λ w. w < words_of l) (sym (next-place l other r)) (subst (λ n. l.buckets + 2 * (r - 1) + 1 < n) (sym (all-words l other))
      (below_more (l.buckets + 2 * (r - 1) + 1) (l.buckets + 2 * l.rows) (if l.values then l.rows else 0)
      (next_within l.buckets l.rows r (row_fits r k).0 (row_most r k))))

  pub key_below : (r : ℕ) → IsLinked l h r → row_word_of l r 0 < words_of l
  key_below r k = subst (λ w. w < words_of l) (sym (key-place l other r)) (subst (λ n. l.buckets + 2 * (r - 1) < n) (sym (all-words l other))
      (below_more (l.buckets + 2 * (r - 1)) (l.buckets + 2 * l.rows) (if l.values then l.rows else 0)
      (key_within l.buckets l.rows r (row_fits r k).0 (row_most r k))))

  pub value_below : (r : ℕ) → l.values ≡ true → IsLinked l h r → value_word_of l r < words_of l
  value_below r v k = subst (λ w. w < words_of l) (sym (value-place l other r)) (subst (λ n. l.buckets + 2 * l.rows + (r - 1) < n)
      (sym (all-words l other ∙ ap (λ b. l.buckets + 2 * l.rows + (if b then l.rows else 0)) v))
      (value_within l.buckets l.rows r (row_fits r k).0 (row_most r k)))

  pub place_below : (x : LinkWord) → IsLinkAt l h x → place_of l x < words_of l
  place_below (Head g) k = subst (λ n. g < n) (sym (all-words l other)) (below_head g l.buckets l.rows (if l.values then l.rows else 0) k)
  place_below (Next r) k = next_below r k

  -- link words are words of their own
  pub place_one : (x y : LinkWord) → IsLinkAt l h x → IsLinkAt l h y → place_of l x ≡ place_of l y → x ≡ y
  place_one (Head a) (Head b) k m e = ap Head e
  place_one (Head a) (Next q) k m e = absurd (head_next l.buckets a q k (e ∙ next-place l other q))
  place_one (Next r) (Head b) k m e = absurd (head_next l.buckets b r m (sym e ∙ next-place l other r))
  place_one (Next r) (Next q) k m e =
      ap Next (next_next l.buckets r q (row_fits r k).0 (row_fits q m).0 (sym (next-place l other r) ∙ e ∙ next-place l other q))

  pub key_apart : (r : ℕ) (x : LinkWord) → IsLinkAt l h x → row_word_of l r 0 ≢ place_of l x
  key_apart r (Head a) k e = head_key l.buckets a r k (sym (key-place l other r) ∙ e)
  key_apart r (Next q) k e = key_next l.buckets r q (sym (key-place l other r) ∙ e ∙ next-place l other q)

  pub value_apart : (r : ℕ) (x : LinkWord) → IsLinkAt l h x → value_word_of l r ≢ place_of l x
  value_apart r (Head a) k e = head_value l.buckets l.rows a r k (sym (value-place l other r) ∙ e)
  value_apart r (Next q) k e = value_next l.buckets l.rows r q (row_fits q k).0 (row_most q k) (sym (value-place l other r) ∙ e ∙ next-place l other q)

  -- ---- a word is a link word, or not

  pub record At (w : ℕ) : Type 0 where
    pub node : LinkWord
    pub link : IsLinkAt l h node
    pub here : place_of l node ≡ w

  abbrev IsNone : ℕ → Type 0
  IsNone w = (x : LinkWord) → IsLinkAt l h x → place_of l x ≡ w → ⊥

  even_none : (w r : ℕ) → l.buckets ≤ w → w ≡ l.buckets + 2 * (r - 1) → IsNone w
  even_none w r b e (Head a) k z = head_key l.buckets a r k (sym e ∙ sym z)
  even_none w r b e (Next q) k z = key_next l.buckets r q (sym e ∙ sym z ∙ next-place l other q)

  odd_at : (w r : ℕ) → l.buckets ≤ w → 1 ≤ r → w ≡ l.buckets + 2 * (r - 1) + 1 → At w ⊎ IsNone w
  odd_at w r b o e = elim (linked_or r) [
    | inl k ↦ inl (record { node = Next r; link = k; here = next-place l other r ∙ sym e })
    | inr n ↦ inr (none n)
  ]
    where
      far : (a b : ℕ) → a < b → b ≤ a → ⊥
      far a b i j = omega (arith, i, j)

      none : (IsLinked l h r → ⊥) → IsNone w
      none n (Head a) k z = far a l.buckets k (subst (λ v. l.buckets ≤ v) (sym z) b)
      none n (Next q) k z = n (subst (IsLinked l h) (next_next l.buckets q r (row_fits q k).0 o (sym (next-place l other q) ∙ z ∙ e)) k)

  pub at_word_or : (w : ℕ) → At w ⊎ IsNone w
  at_word_or w = elim (cases_lt w l.buckets) [
    | inl b ↦ inl (record { node = Head w; link = b; here = refl })
    | inr b ↦ elim (cases_eq ((w - l.buckets) % 2) 1) [
      | inl o ↦ odd_at w ((w - l.buckets) / 2 + 1) b (half l.buckets w b) (odd_place l.buckets w b o)
      | inr z ↦ inr (even_none w ((w - l.buckets) / 2 + 1) b (even_place l.buckets w b z))
    ]
  ]

  -- ---- everybody may reach the words of linked rows

  -- a foreign row is not linked
  foreign_unlinked : (row : ℕ) → IsForeign l free h.opening row → IsLinked l h row → ⊥
  foreign_unlinked row f (inl a) =
      let reached = (shapes_agree l h.opening.words f.recovers.shape (Chains a.chain) f.recovers.lawful (other, a.lawful)).1 in
      let unreached = ((free_rows-contains l f.recovers.shape row).0 (subst (λ rows. Contains rows row) f.recovers.free_rows f.unreached)).2 in
      unreached (subst (λ rows. Contains rows row) (sym reached) a.on)
  foreign_unlinked row f (inr c) = f.outside (kept.given row c)

  word_open : (r w : ℕ) → IsLinked l h r → w < words_of l → IsWordOf l r w → IsOpen l free h w
  word_open r w k below word = record {
    within = below;
    given = λ row pool mine. of_row row pool mine k;
    ours = λ row f mine. foreign_unlinked row f (subst (IsLinked l h) (sym (one_row row f mine)) k);
  }
    where
      one_row : (row : ℕ) → IsForeign l free h.opening row → IsWordOf l row w → row ≡ r
      one_row row f mine =
          let fit = foreign_fits l free h.opening row f in same_row l row r w fit.0 fit.1 (row_fits r k).0 (row_fits r k).1 mine word

      of_row : (row : ℕ) → Contains free row → IsWordOf l row w → IsLinked l h r → Contains h.given row
      of_row row pool mine k =
          let same : row ≡ r = same_row l row r w (all_contained (λ q. 1 ≤ q) free row (pool_from free kept.pool.rising) pool)
          (all_contained (λ q. q ≤ last_row_of l) free row kept.pool.fit pool) (row_fits r k).0 (row_fits r k).1 mine word in
          elim k [ inl a ↦ absurd (kept.apart row pool (subst (IsReached l h.opening.words) (sym same) a)) | inr c ↦ subst (Contains h.given) (sym same) c ]

  one_of_two : (k : Kind) → k ≢ Tree_kind → 1 < parts_of k
  one_of_two k o = subst (λ p. 1 < p) (sym (parts k o)) (omega arith)

  none_of_two : (k : Kind) → k ≢ Tree_kind → 0 < parts_of k
  none_of_two k o = subst (λ p. 0 < p) (sym (parts k o)) (omega arith)

  pub key_open : (r : ℕ) → IsLinked l h r → IsOpen l free h (row_word_of l r 0)
  key_open r k = word_open r (row_word_of l r 0) k (key_below r k) (inl (0, none_of_two l.kind other, refl))

  pub value_open : (r : ℕ) → l.values ≡ true → IsLinked l h r → IsOpen l free h (value_word_of l r)
  value_open r v k = word_open r (value_word_of l r) k (value_below r v k) (inr (v, refl))

  pub next_open : (r : ℕ) → IsLinked l h r → IsOpen l free h (next_word l r)
  next_open r k = word_open r (next_word l r) k (next_below r k) (inl (1, one_of_two l.kind other, refl))

  -- no row has a head among its words
  head_open : (a : ℕ) → a < l.buckets → IsOpen l free h a
  head_open a b = record {
    within = place_below (Head a) b;
    given = λ row pool word. absurd (of_none row word);
    ours = λ row f word. of_none row word;
  }
    where
      more : (b a n : ℕ) → a < b → a < b + n
      more b a n i = omega (arith, i)

      far : (a b p : ℕ) → a < b → a ≡ b + p → ⊥
      far a b p i e = omega (arith, i, e)

      of_none : (row : ℕ) → IsWordOf l row a → ⊥
      of_none row (inl p) = far a (l.buckets + parts_of l.kind * (row - 1)) p.0 (more l.buckets a (parts_of l.kind * (row - 1)) b) p.2
      of_none row (inr v) = head_value l.buckets l.rows a row b (sym (value-place l other row) ∙ sym v.1)

  pub link_open : (x : LinkWord) → IsLinkAt l h x → IsOpen l free h (place_of l x)
  link_open (Head a) k = head_open a k
  link_open (Next r) k = next_open r k
