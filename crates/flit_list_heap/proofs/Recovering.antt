-- The shadows are a lawful image, with the map after the settled updates.
use Rattle.std.proofs.Common.{◌≡◌, ℕ, suc, ◌+◌, ◌<◌, ◌≤◌, Bool, not, cond, List, [], ◌∷◌, map, filter, Some, nat_cmp, refl, sym, ap, ◌∙◌, inl, inr, ◌⊎◌, arith, subst}
use Rattle.std.specs.FinMap as fin
use Rattle.std.specs.FinMap.{find, same_map, nat_cmp-IsAntisymmetric}
use Rattle.std.specs.Ordering.{eq_by_cmp}
use Rattle.std.specs.Cmp.{unsigned_tied}
use Rattle.std.specs.List.{AllByRecursion}
use Rattle.std.proofs.lemmas.Bool.{cases_lt, cases_eq, cases_Bool, eq-eqb, ne_eqb}
use Rattle.std.proofs.lemmas.Cmp.{nat_cmp_total}
use Rattle.flit_words.specs.declared.layouts.Layout.{Layout}
use Rattle.flit_words.specs.declared.limits.TheConstants.{GREATEST_KEY}
use Rattle.flit_words.specs.Layouts.{value_word_of, head_of_key}
use Rattle.flit_words.specs.Words.{value_of}
use Rattle.flit_model.specs.Lists.{IsChain, IsListLink, IsRisingFrom, IsLawfulChain, IsLawfulList, key_in, row_value_in, link_in, next_word, is_removed, list_pairs, list_map}
use Rattle.flit_model.specs.Images.{Chains, free_rows}
use Rattle.flit_model.proofs.Elements.{all-map}
use Rattle.flit_model.proofs.LookUps.{list_map-get}
use Rattle.flit_structure.specs.Lawful.{IsRecoverable}
use Rattle.flit_crew.specs.Heaps.{at_word, at_shadow}
use Rattle.flit_list_heap.specs.Links.{LinkWord, Head, Next, Rows, low, place_of, row_of, is_marked, link_held}
use Rattle.flit_list_heap.specs.Paths.{Path, found, marks}
use Rattle.flit_list_heap.specs.Chained.{Bucket}
use Rattle.flit_list_heap.specs.Keeping.{ListHeap, IsLinked, rows_at, shadow_in, content_of, Kept}
use Rattle.flit_list_heap.proofs.Parts.{value_with}
use Rattle.flit_list_heap.proofs.PathLaws.{all-rows, path-follows}
use Rattle.flit_list_heap.proofs.MapLaws.{found-same, found-rows, found-marked, found-past}
use Rattle.flit_list_heap.proofs.Places.{row_fits}

pub row_is : (raw : ℕ) → (link_held raw).row ≡ row_of raw
unfolding row_of
row_is raw = refl

pub mark_is : (raw : ℕ) → (link_held raw).mark ≡ is_marked raw
unfolding is_marked
mark_is raw = refl

-- the value of a key on a list of rows is that of the key in their pairs
find_filtered : (c : Rows) (marked : ℕ → Bool) (rows : List ℕ) (k : ℕ) →
    find nat_cmp k (map (λ r. (c.key r, c.value r)) (filter (λ r. not (marked r)) rows)) ≡ found c marked rows k
find_filtered c marked [] k = refl
find_filtered c marked (r ∷ rows) k = elim (cases_Bool (marked r)) [
  | inl y ↦
      let e : find nat_cmp k (map (λ q. (c.key q, c.value q)) (filter (λ q. not (marked q)) (r ∷ rows)))
      ≡ find nat_cmp k (map (λ q. (c.key q, c.value q)) (filter (λ q. not (marked q)) rows)) = rw y refl in
      e ∙ find_filtered c marked rows k ∙ sym (found-marked c marked r rows k y)
  | inr n ↦
      let e : find nat_cmp k (map (λ q. (c.key q, c.value q)) (filter (λ q. not (marked q)) (r ∷ rows)))
      ≡ cond (eq_by_cmp nat_cmp k (c.key r)) (Some (c.value r)) (find nat_cmp k (map (λ q. (c.key q, c.value q)) (filter (λ q. not (marked q)) rows))) =
      rw n refl in
      elim (cases_eq (c.key r) k) [
        | inl s ↦
            let here : found c marked (r ∷ rows) k ≡ Some (c.value r) = rw (eq-eqb (c.key r) k s, n) refl in
            e ∙ rw (unsigned_tied k (c.key r), eq-eqb k (c.key r) (sym s)) refl ∙ sym here
        | inr ne ↦
            e ∙ rw (unsigned_tied k (c.key r), ne_eqb k (c.key r) (λ z. ne (sym z))) refl
            ∙ find_filtered c marked rows k ∙ sym (found-past c marked r rows k ne)
      ]
]

-- the rows of an image by themselves
abbrev pub of_image : Layout → List ℕ → Rows
of_image l image = record { layout = l; bucket = head_of_key l; key = λ r. key_in l image r; value = λ r. row_value_in l image r; linked = λ r. Unit {0} }

pub find_pairs : (l : Layout) (image : List ℕ) (rows : List ℕ) (k : ℕ) →
    find nat_cmp k (list_pairs l image rows) ≡ found (of_image l image) (λ r. is_removed l image r) rows k
find_pairs l image rows k = find_filtered (of_image l image) (λ r. is_removed l image r) rows k

-- the keys along a path rise
rising_path : (c : Rows) (img : LinkWord → ℕ) (x : LinkWord) (p : List ℕ) → Path c img x p → IsRisingFrom (low c x) (map c.key p)
rising_path c img x [] h = tt
rising_path c img x (r ∷ p) h =
    let e : c.key r + 1 ≡ suc (c.key r) = omega arith in
    (h.1.above, subst (λ n. IsRisingFrom n (map c.key p)) e (rising_path c img (Next r) p h.2))

map_same : (f g : ℕ → ℕ) (p : List ℕ) → AllByRecursion (λ r. g r ≡ f r) p → map g p ≡ map f p
map_same f g [] h = refl
map_same f g (r ∷ p) h = let e : map g p ≡ map f p = map_same f g p h.1 in let k : g r ≡ f r = h.0 in cc

module _ (l : Layout) (free : List ℕ) (h : ListHeap) (kept : Kept l free h) where
  abbrev c : Rows
  c = rows_at l h

  abbrev image : List ℕ
  image = h.shadows

  key_same : (r : ℕ) → IsLinked l h r → key_in l image r ≡ key_in l h.words r
  key_same r m = sym (ap value_of (kept.keys r m))

  value_same : (r : ℕ) → IsLinked l h r → row_value_in l image r ≡ row_value_in l h.words r
  value_same r m = value_with l.values (at_shadow h (value_word_of l r)) (at_word h (value_word_of l r)) (λ v. sym (kept.values r m v))

  chain_of : (x : LinkWord) (p : List ℕ) → Path c (shadow_in l h) x p → IsChain l image (place_of l x) p
  chain_of x [] k = row_is (shadow_in l h x) ∙ k
  chain_of x (r ∷ p) k = (row_is (shadow_in l h x) ∙ k.0, k.1.real, (row_fits l free h kept r k.1.linked).1, chain_of (Next r) p k.2)

  abbrev IsOnPath : ℕ → ℕ → Type 0
  IsOnPath g r = (1 ≤ r) × IsLinked l h r × (head_of_key l (key_in l h.words r) ≡ g)

  record HeadLaws (g : ℕ) (rows : List ℕ) : Type 0 where
    chain : IsLawfulChain l image g rows
    mapped : (k : ℕ) → head_of_key l k ≡ g → fin.get (content_of h) k ≡ find nat_cmp k (list_pairs l image rows)

  head_laws : (g : ℕ) → g < l.buckets → (b : Bucket c h.ghost (shadow_in l h) (content_of h) g) → HeadLaws g b.rows
  head_laws g m b =
      let on : AllByRecursion (λ r. IsOnPath g r) b.rows = path-follows c (shadow_in l h) (Head g) b.rows b.path in
      record {
        chain = record {
          chain = chain_of (Head g) b.rows b.path;
          links = (
            (kept.chained.shadow_form (Head g) m).fit,
            all-map (λ w. IsListLink l (link_in image w)) (next_word l) b.rows
                (all-rows (λ r. IsOnPath g r) (λ r. IsListLink l (link_in image (next_word l r))) (λ r q. (kept.chained.shadow_form (Next r) q.1).fit) b.rows
                on),
          );
          unmarked = mark_is (shadow_in l h (Head g)) ∙ (kept.chained.shadow_form (Head g) m).headed tt;
          rising = subst (IsRisingFrom 0)
              (sym (map_same c.key (λ r. key_in l image r) b.rows (all-rows (λ r. IsOnPath g r) (λ r. key_in l image r ≡ c.key r) (λ r q. key_same r q.1)
              b.rows on)))
              (rising_path c (shadow_in l h) (Head g) b.rows b.path);
          within = all-rows (λ r. IsOnPath g r) (λ r. key_in l image r ≤ GREATEST_KEY)
              (λ r q. subst (λ n. n ≤ GREATEST_KEY) (sym (key_same r q.1)) (kept.small r q.1)) b.rows on;
          bucket = all-rows (λ r. IsOnPath g r) (λ r. head_of_key l (key_in l image r) ≡ g) (λ r q. ap (head_of_key l) (key_same r q.1) ∙ q.2) b.rows on;
        };
        mapped = λ k e. b.mapped k e
            ∙ sym (found-rows c (of_image l image) (marks (shadow_in l h)) k b.rows
            (all-rows (λ r. IsOnPath g r) (λ r. (key_in l image r ≡ key_in l h.words r) × (row_value_in l image r ≡ row_value_in l h.words r))
            (λ r q. (key_same r q.1, value_same r q.1)) b.rows on))
            ∙ found-same (of_image l image) (λ r. is_removed l image r) (marks (shadow_in l h)) k b.rows
            (all-rows (λ r. IsOnPath g r) (λ r. marks (shadow_in l h) r ≡ is_removed l image r) (λ r q. sym (mark_is (shadow_in l h (Next r)))) b.rows on)
            ∙ sym (find_pairs l image b.rows k);
      }

  abbrev rows_by : (g : ℕ) → (g < l.buckets) ⊎ (l.buckets ≤ g) → List ℕ
  rows_by g (inl m) = (kept.chained.reach g m).rows
  rows_by g (inr n) = []

  laws_by : (g : ℕ) (w : (g < l.buckets) ⊎ (l.buckets ≤ g)) → g < l.buckets → HeadLaws g (rows_by g w)
  laws_by g (inl m) b = head_laws g m (kept.chained.reach g m)
  laws_by g (inr n) b = absurd (omega (arith, n, b))

  abbrev chain_at : ℕ → List ℕ
  chain_at g = rows_by g (cases_lt g l.buckets)

  laws : (g : ℕ) → g < l.buckets → HeadLaws g (chain_at g)
  laws g m = laws_by g (cases_lt g l.buckets) m

  lawful : IsLawfulList l image chain_at
  lawful = record { whole = kept.shadows; untagged = kept.untagged; chains = λ g m. (laws g m).chain }

  some : 1 ≤ l.buckets
  some = positive (head_of_key l 0) l.buckets (kept.chained.buckets 0)
    where
      positive : (a b : ℕ) → a < b → 1 ≤ b
      positive a b i = omega (arith, i)

  map_is : content_of h ≡ list_map l image chain_at
  map_is = same_map nat_cmp_total nat_cmp-IsAntisymmetric (content_of h) (list_map l image chain_at) (λ k.
      (laws (head_of_key l k) (kept.chained.buckets k)).mapped k refl ∙ sym (list_map-get l image chain_at k some lawful))

  pub recovers : IsRecoverable l h.opening.content h.shadows h.progress.settled
  recovers = record {
    legal = kept.legal;
    content = (free_rows l (Chains chain_at), record { shape = Chains chain_at; lawful = (kept.chained.kind, lawful); map = map_is; free_rows = refl });
  }
