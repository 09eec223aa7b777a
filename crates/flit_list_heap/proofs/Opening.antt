-- A lawful image, all of it persistent, is kept: its chains are linked and settled.
use Rattle.std.proofs.Common.{◌≡◌, ◌≢◌, ℕ, zero, suc, ◌+◌, ◌<◌, ◌≤◌, slice_index, length, Bool, true, false, List, [], ◌∷◌, map, flat_map, Contains, refl, sym, ap, ◌∙◌, inl, inr, ◌⊎◌, arith, subst}
use Rattle.std.specs.FinMap as fin
use Rattle.std.specs.FinMap.{get-empty}
use Rattle.std.specs.Ordering.{nat_cmp}
use Rattle.std.specs.List.{AllByRecursion, range_with_len}
use Rattle.std.proofs.lemmas.Bool.{cases_eq, both_ways}
use Rattle.std.proofs.lemmas.List.{ext_get_or, length-map}
use Rattle.std.proofs.lemmas.List.Elements.{Contains-append_left, Contains-append_right, Contains-append_cases}
use Rattle.std.proofs.Math.ListN.{get_or-map}
use Rattle.flit_words.specs.declared.layouts.Layout.{Layout}
use Rattle.flit_words.specs.declared.layouts.Kind.{Kind}
use Rattle.flit_words.specs.declared.layouts.Kind.TheVariants.{List as List_kind, Hash, Tree as Tree_kind}
use Rattle.flit_words.specs.declared.limits.TheConstants.{GREATEST_KEY}
use Rattle.flit_words.specs.Layouts.{Accepted, words_of, first_row_of, last_row_of, head_of_key, least_buckets}
use Rattle.flit_words.specs.Words.{is_tagged, bare_of}
use Rattle.flit_model.specs.Settling.{nothing_made}
use Rattle.flit_model.specs.Lists.{IsChain, IsListLink, IsRisingFrom, IsLawfulList, key_in, row_value_in, link_in, next_word, is_removed, list_map, rows_on_chains, stands_in}
use Rattle.flit_model.specs.Images.{Shape, Chains, Grown, IsLawfulAs, map_in, reached_rows, free_rows}
use Rattle.flit_model.proofs.Elements.{all_contained, all_mapped}
use Rattle.flit_model.proofs.Membership.{contains-list_any, contains_none, contains_first, contains_later, list_any-contains}
use Rattle.flit_model.proofs.Chains.{chains_within}
use Rattle.flit_model.proofs.Shapes.{free_rows-contains}
use Rattle.flit_model.proofs.LookUps.{list_map-get}
use Rattle.flit_place.proofs.WordTags.{bare-untagged}
use Rattle.flit_structure.specs.Moments.{Opening, Moment, first_moment}
use Rattle.flit_structure.specs.Lawful.{IsOpening}
use Rattle.flit_crew.specs.Heaps.{heap_of}
use Rattle.flit_crew.specs.Accounts.{IsPool}
use Rattle.flit_list_heap.specs.Links.{LinkWord, Head, Next, Rows, low, bucket_of, place_of, row_of, is_marked}
use Rattle.flit_list_heap.specs.Paths.{Follows, Path, found, marks}
use Rattle.flit_list_heap.specs.Chained.{IsHead, is_put, Form, Solid, Bucket}
use Rattle.flit_list_heap.specs.Keeping.{ListHeap, IsLinked, IsLinkAt, rows_at, word_in, Kept}
use Rattle.flit_list_heap.proofs.PathLaws.{Cut, cut}
use Rattle.flit_list_heap.proofs.MapLaws.{found-same, found-rows}
use Rattle.flit_list_heap.proofs.Places.{on_chain}
use Rattle.flit_list_heap.proofs.Recovering.{of_image, row_is, mark_is, find_pairs}

-- ---- rows of chains

record IsOn (chain : ℕ → List ℕ) (n r : ℕ) : Type 0 where
  head : ℕ
  below : head < n
  has : Contains (chain head) r

on_of : (chain : ℕ → List ℕ) (first n r : ℕ) → Contains (flat_map chain (range_with_len first n)) r → IsOn chain (first + n) r
on_of chain first zero r c = absurd (contains_none r c)
on_of chain first (suc n) r c = elim (Contains-append_cases (chain first) (flat_map chain (range_with_len (first + 1) n)) r c) [
  | inl a ↦ record { head = first; below = omega arith; has = a }
  | inr b ↦ let o : IsOn chain (first + 1 + n) r = on_of chain (first + 1) n r b in record { head = o.head; below = omega (arith, o.below); has = o.has }
]

of_on : (chain : ℕ → List ℕ) (first n g r : ℕ) → first ≤ g → g < first + n → Contains (chain g) r → Contains (flat_map chain (range_with_len first n)) r
of_on chain first zero g r a b c = absurd (omega (arith, a, b))
of_on chain first (suc n) g r a b c = elim (cases_eq first g) [
  | inl e ↦ Contains-append_left (chain first) (flat_map chain (range_with_len (first + 1) n)) r (subst (λ z. Contains (chain z) r) (sym e) c)
  | inr ne ↦ Contains-append_right (chain first) (flat_map chain (range_with_len (first + 1) n)) r
      (of_on chain (first + 1) n g r (omega (arith, a, ne)) (omega (arith, b)) c)
]

all_from : (P : ℕ → Type 0) (p : List ℕ) → ((r : ℕ) → Contains p r → P r) → AllByRecursion P p
all_from P [] f = tt
all_from P (r ∷ p) f = (f r (contains_first r p), all_from P p (λ q i. f q (contains_later r p q i)))

leads_of : (c : Rows) (img : LinkWord → ℕ) (z : LinkWord) (p : List ℕ) → Path c img z p → (row_of (img z) ≡ 0) ⊎ Follows c z (row_of (img z))
leads_of c img z [] h = inl h
leads_of c img z (r ∷ p) h = inr (subst (Follows c z) (sym h.0) h.1)

head_below : (l : Layout) (k : ℕ) → 1 ≤ l.buckets → head_of_key l k < l.buckets
head_below l k some = omega arith

least : (k : Kind) (b : ℕ) → k ≢ Tree_kind → least_buckets k ≤ b → 1 ≤ b
least List_kind b o h = h
least Hash b o h = h
least Tree_kind b o h = absurd (o refl)

-- ---- the image of an opening

module _ (l : Layout) (accepted : Accepted l) (kind : l.kind ≢ Tree_kind) (o : Opening) (pool : IsPool l o.free) (chain : ℕ → List ℕ)
    (lawful : IsLawfulList l o.words chain) (content : o.content ≡ list_map l o.words chain)
    (apart : (row : ℕ) → Contains o.free row → Contains (rows_on_chains l chain) row → ⊥) where
  abbrev image : List ℕ
  image = o.words

  abbrev ghost : ℕ → Bool
  ghost r = stands_in (rows_on_chains l chain) r

  abbrev h : ListHeap
  h = record { opening = o; words = image; shadows = image; progress = nothing_made; given = []; ghost = ghost }

  abbrev c : Rows
  c = rows_at l h

  some : 1 ≤ l.buckets
  some = least l.kind l.buckets kind accepted.least_bucket

  reached : (r : ℕ) → Contains (rows_on_chains l chain) r → IsLinked l h r
  reached r i = inl (record { chain = chain; lawful = lawful; on = i })

  on : (r : ℕ) → IsLinked l h r → Contains (rows_on_chains l chain) r
  on r (inl a) = on_chain l image chain lawful r a
  on r (inr b) = absurd (contains_none r b)

  on_head : (r : ℕ) → IsLinked l h r → IsOn chain l.buckets r
  on_head r m = let i : IsOn chain (0 + l.buckets) r = on_of chain 0 l.buckets r (on r m) in record
      { head = i.head; below = omega (arith, i.below); has = i.has }

  within : (r : ℕ) → IsLinked l h r → (1 ≤ r) × (r ≤ last_row_of l)
  within r m = all_contained (λ r. (1 ≤ r) × (r ≤ last_row_of l)) (rows_on_chains l chain) r (chains_within l image chain lawful) (on r m)

  abbrev IsGood : ℕ → ℕ → Type 0
  IsGood g r = IsLinked l h r × (head_of_key l (key_in l image r) ≡ g)

  good : (g : ℕ) → g < l.buckets → AllByRecursion (IsGood g) (chain g)
  good g b = all_from (IsGood g) (chain g) (λ r i. (
    reached r (of_on chain 0 l.buckets g r (omega arith) (omega (arith, b)) i),
    all_contained (λ r. head_of_key l (key_in l image r) ≡ g) (chain g) r (lawful.chains g b).bucket i,
  ))

  -- a chain whose keys rise and that stays in a bucket is a path
  path_of : (g : ℕ) (x : LinkWord) (p : List ℕ) → bucket_of c x ≡ g → IsChain l image (place_of l x) p → AllByRecursion (IsGood g) p →
      IsRisingFrom (low c x) (map (λ r. key_in l image r) p) → Path c (word_in l h) x p
  path_of g x [] b k a s = sym (row_is (word_in l h x)) ∙ k
  path_of g x (r ∷ p) b k a s =
      let e : suc (key_in l image r) ≡ key_in l image r + 1 = omega arith in (
        sym (row_is (word_in l h x)) ∙ k.0,
        record { real = k.1; linked = a.0.0; above = s.0; bucket = a.0.1 ∙ sym b },
        path_of g (Next r) p a.0.1 k.3 a.1 (subst (λ n. IsRisingFrom n (map (λ q. key_in l image q) p)) e s.1),
      )

  path_at : (g : ℕ) → g < l.buckets → Path c (word_in l h) (Head g) (chain g)
  path_at g b = path_of g (Head g) (chain g) refl (lawful.chains g b).chain (good g b) (lawful.chains g b).rising

  leads : (x : LinkWord) → IsLinkAt l h x → (row_of (word_in l h x) ≡ 0) ⊎ Follows c x (row_of (word_in l h x))
  leads (Head g) m = leads_of c (word_in l h) (Head g) (chain g) (path_at g m)
  leads (Next r) m =
      let i : IsOn chain l.buckets r = on_head r m in
      let k : Cut c (word_in l h) (word_in l h) (Head i.head) (Next r) (chain i.head) =
      cut c (word_in l h) (word_in l h) (word_in l h (Next r)) (Head i.head) (Next r) (chain i.head) (record { here = refl; off = λ x ne. refl })
      (path_at i.head i.below) (inr (r, refl, i.has)) in
      leads_of c (word_in l h) (Next r) k.rest k.tail

  fits : (x : LinkWord) → IsLinkAt l h x → IsListLink l (link_in image (place_of l x))
  fits (Head g) m = (lawful.chains g m).links.0
  fits (Next r) m =
      let i : IsOn chain l.buckets r = on_head r m in
      all_contained (λ q. IsListLink l (link_in image (next_word l q))) (chain i.head) r
      (all_mapped (λ w. IsListLink l (link_in image w)) (next_word l) (chain i.head) (lawful.chains i.head i.below).links.1) i.has

  headed : (x : LinkWord) → IsLinkAt l h x → IsHead x → is_marked (word_in l h x) ≡ false
  headed (Head g) m i = sym (mark_is (word_in l h (Head g))) ∙ (lawful.chains g m).unmarked
  headed (Next r) m i = elim i [ ]

  form : (x : LinkWord) → IsLinkAt l h x → Form c x (word_in l h x)
  form x m = record { leads = leads x m; fit = fits x m; headed = headed x m }

  is_settled : (r : ℕ) → IsLinked l h r → ghost r ≡ true
  is_settled r m = contains-list_any r (rows_on_chains l chain) (on r m)

  of_bucket : (r g : ℕ) → IsLinked l h r → head_of_key l (key_in l image r) ≡ g → Contains (chain g) r
  of_bucket r g m b =
      let i : IsOn chain l.buckets r = on_head r m in
      let e : head_of_key l (key_in l image r) ≡ i.head =
      all_contained (λ r. head_of_key l (key_in l image r) ≡ i.head) (chain i.head) r (lawful.chains i.head i.below).bucket i.has in
      subst (λ z. Contains (chain z) r) (sym e ∙ b) i.has

  bucket : (g : ℕ) → g < l.buckets → Bucket c ghost (word_in l h) o.content g
  bucket g b = record {
    rows = chain g;
    path = path_at g b;
    whole = λ r s e u. of_bucket r g (reached r (list_any-contains r (rows_on_chains l chain) s)) e;
    mapped = λ k e. ap (λ m. fin.get m k) content ∙ list_map-get l image chain k some lawful ∙ find_pairs l image (chain (head_of_key l k)) k
        ∙ ap (λ z. found (of_image l image) (λ r. is_removed l image r) (chain z) k) e
        ∙ found-same (of_image l image) (marks (word_in l h)) (λ r. is_removed l image r) k (chain g)
        (all_from (λ r. is_removed l image r ≡ marks (word_in l h) r) (chain g) (λ r i. mark_is (word_in l h (Next r))))
        ∙ found-rows c (of_image l image) (marks (word_in l h)) k (chain g)
        (all_from (λ r. (key_in l image r ≡ key_in l image r) × (row_value_in l image r ≡ row_value_in l image r)) (chain g) (λ r i. (refl, refl)));
  }

  pub kept_opened : Kept l o.free h
  kept_opened = record {
    accepted = accepted;
    pool = pool;
    words = lawful.whole;
    shadows = lawful.whole;
    opened = (chain, lawful);
    apart = λ row f a. apart row f (on_chain l image chain lawful row a);
    given = λ row g. absurd (contains_none row g);
    bare = λ v r. lawful.untagged v r.within;
    untagged = lawful.untagged;
    keys = λ r m. refl;
    values = λ r m v. refl;
    small = λ r m. all_contained (λ r. key_in l image r ≤ GREATEST_KEY) (chain (on_head r m).head) r
        (lawful.chains (on_head r m).head (on_head r m).below).within
        (on_head r m).has;
    stays = λ r a. refl;
    grown = λ r g. absurd (contains_none r g);
    elsewhere = λ w a. get-empty nat_cmp w;
    legal = tt;
    chained = record {
      kind = kind;
      buckets = λ k. head_below l k some;
      settled_linked = λ r s. reached r (list_any-contains r (rows_on_chains l chain) s);
      real = λ r m. (within r m).0;
      shadow_form = form;
      word_form = form;
      shadow_links = λ x m. elim (leads x m) [ inl z ↦ inl z | inr f ↦ inr (is_settled (row_of (word_in l h x)) f.linked) ];
      shapes = λ x m. Solid refl (get-empty nat_cmp (place_of l x));
      known = λ r m. inl (is_settled r m);
      one_link = λ x z mx mz px pz e. absurd (both_ways false refl (sym (ap is_put (get-empty nat_cmp (place_of l x))) ∙ px));
      reach = bucket;
    };
  }

-- ---- a lawful opening

first_least : (k : Kind) (r : ℕ) → first_row_of k ≤ r → 1 ≤ r
first_least List_kind r h = omega (arith, h)
first_least Hash r h = omega (arith, h)
first_least Tree_kind r h = omega (arith, h)

from_one : (free : List ℕ) → IsRisingFrom 0 free → AllByRecursion (λ r. 1 ≤ r) free → IsRisingFrom 1 free
from_one [] h a = tt
from_one (r ∷ free) h a = (a.0, h.1)

module _ (l : Layout) (accepted : Accepted l) (kind : l.kind ≢ Tree_kind) (o : Opening) (opening : IsOpening l o) where
  -- the words are untagged, so they are as without their tags
  bare_same : (whole : length o.words ≡ words_of l) → ((w : ℕ) → w < words_of l → is_tagged (slice_index o.words w) ≡ false) → map bare_of o.words ≡ o.words
  bare_same whole un = ext_get_or 0 (map bare_of o.words) o.words (length-map o.words bare_of) (λ i b.
      get_or-map bare_of o.words i 0
      ∙ bare-untagged (slice_index o.words i) (un i (less i (length (map bare_of o.words)) (words_of l) b (length-map o.words bare_of ∙ whole))))
    where
      less : (i a b : ℕ) → i < a → a ≡ b → i < b
      less i a b h e = subst (λ n. i < n) e h

  module _ (s : Shape) (shaped : IsLawfulAs l o.words s) (map_is : o.content ≡ map_in l o.words s) (rows : opening.free ≡ free_rows l s) where
    free_row : (row : ℕ) → Contains o.free row → (first_row_of l.kind ≤ row) × (row ≤ last_row_of l) × (Contains (reached_rows l s) row → ⊥)
    free_row row c = (free_rows-contains l s row).0 (subst (λ f. Contains f row) rows (opening.among row c))

    is_pool : IsPool l o.free
    is_pool = record {
      rising = from_one o.free opening.rising (all_from (λ r. 1 ≤ r) o.free (λ r c. first_least l.kind r (free_row r c).0));
      fit = all_from (λ r. r ≤ last_row_of l) o.free (λ r c. (free_row r c).1);
    }

  by_shape : (s : Shape) (shaped : IsLawfulAs l o.words s) → o.content ≡ map_in l o.words s → opening.free ≡ free_rows l s →
      (ghost : ℕ → Bool) × Kept l o.free
      (record { opening = o; words = map bare_of o.words; shadows = o.words; progress = nothing_made; given = []; ghost = ghost })
  by_shape (Grown t) shaped map_is rows = absurd (kind shaped.0)
  by_shape (Chains chain) shaped map_is rows = (
    (λ r. stands_in (rows_on_chains l chain) r),
    subst (λ ws. Kept l o.free (record {
      opening = o;
      words = ws;
      shadows = o.words;
      progress = nothing_made;
      given = [];
      ghost = λ r. stands_in (rows_on_chains l chain) r;
    })) (sym (bare_same shaped.1.whole shaped.1.untagged))
        (kept_opened l accepted kind o (is_pool (Chains chain) shaped map_is rows) chain shaped.1 map_is
        (λ row f c. (free_row (Chains chain) shaped map_is rows row f).2 c)),
  )

  pub opens : let M : Moment ℕ = first_moment l o in (ghost : ℕ → Bool) × Kept l o.free (heap_of M [] ghost)
  opens = by_shape opening.recovers.shape opening.recovers.lawful opening.recovers.map opening.recovers.free_rows
