-- The first heap of the sample, over a lawful image of its layout.
use Rattle.std.proofs.Common.{◌≡◌, ◌≢◌, ◌⊎◌, inl, inr, ⊎_elim, ℕ, suc, ◌+◌, ◌*◌, ◌/◌, ◌%◌, ◌^◌, ◌<◌, ◌≤◌, ◌==◌, not, Bool, true, false, cond, List, [], ◌∷◌, length, map, flat_map, slice_index, refl, sym, ◌∙◌, ap, subst, arith, if◌then◌else◌, append-nil, Contains}
use Rattle.std.proofs.lemmas.Bool.{false≢true, eq-eqb}
use Rattle.std.proofs.lemmas.List.{length-map}
use Rattle.std.specs.List.{range_with_len}
use Rattle.std.specs.FinMap as fin
use Rattle.flit_words.specs.declared.layouts.Layout.{Layout}
use Rattle.flit_words.specs.declared.layouts.Kind.TheVariants.{List as List_kind, Tree as Tree_kind}
use Rattle.flit_words.specs.Layouts.{words_of, first_row_of}
use Rattle.flit_words.specs.Words.{version_of, value_of, bare_of, is_tagged}
use Rattle.flit_words.specs.Links.{link_of}
use Rattle.flit_model.specs.Lists.{IsListLink, IsLawfulChain, IsLawfulList, IsRisingFrom, value_in, link_in, key_in, row_value_in, next_word, list_pairs, list_map, rows_on_chains, pair_in}
use Rattle.flit_model.specs.Images.{Shape, Chains, Grown, IsLawfulAs, map_in, free_rows}
use Rattle.flit_model.proofs.Shapes.{recovered_rows, free_rows-contains}
use Rattle.flit_model.proofs.Membership.{contains_first, contains_later}
use Rattle.flit_place.specs.Tags.{Place}
use Rattle.flit_place.proofs.WordTags.{bare-untagged}
use Rattle.flit_structure.specs.Moments.{Opening, first_moment}
use Rattle.flit_crew.specs.Heaps.{heap_of, at_word}
use Rattle.flit_crew.specs.Obligations.{OpensSo}
use Rattle.flit_crew.proofs.WritingBack.{word_bare}
use Rattle.flit_one_key.specs.Operations.{HeldOp}
use Rattle.flit_one_key.specs.Steps.{IsSmall, key_word, value_word}
use Rattle.flit_one_key.specs.OneKey.{Opens}
use Rattle.flit_one_key_crew.specs.OneKeyCrew.{map_if, link_to}
use Rattle.flit_one_key_crew.specs.OneKeyCrew.{Words_of, row_key, row_value, linked_first, updates, IsStory, HasLinked, IsHead, IsOut, Kept, one_key_crew}
use Rattle.flit_one_key_crew.proofs.RowWords.{one_bucket, last_row, below}
use Rattle.flit_one_key_crew.proofs.Stories.{link_told}
use Rattle.flit_one_key_crew.proofs.Waits.{made_none}
use Rattle.flit_one_key_crew.proofs.Knowing.{value_bare}
use Rattle.flit_one_key_crew.proofs.Images.{next_at}

-- ---- a link without bits

no_test : (a b : ℕ) → (a == b) ≡ false → a ≢ b
no_test a b e q = false≢true (sym e ∙ eq-eqb a b q)

link_is : (v row : ℕ) → v / 4 % 2 ^ 22 ≡ row → (v % 2 == 1) ≡ false → (v / 2 % 2 == 1) ≡ false → v / 2 ^ 24 ≡ 0 → v ≡ 4 * row
link_is v row r m f b = plain v row r (no_test (v % 2) 1 m) (no_test (v / 2 % 2) 1 f) b
  where
    plain : (v row : ℕ) → v / 4 % 2 ^ 22 ≡ row → v % 2 ≢ 1 → v / 2 % 2 ≢ 1 → v / 2 ^ 24 ≡ 0 → v ≡ 4 * row
    plain v row r m f b = omega (arith, r, m, f, b)

plain_value : (l : Layout) (v row : ℕ) → IsListLink l (link_of v) → (link_of v).mark ≡ false → (link_of v).row ≡ row → v ≡ 4 * row
plain_value l v row k unmarked r = link_is v row r unmarked k.unfrozen (⊎_elim (λ z. z) (λ m. absurd (false≢true (sym unmarked ∙ m.2))) k.remover.named)

-- ---- the chain of the head has row 1 or none

record OneRow (rows : List ℕ) : Type 0 where
  linked : Bool
  rows_are : rows ≡ (if linked then 1 ∷ [] else [])

one_row : (l : Layout) (image : List ℕ) (rows : List ℕ) → Rattle.flit_words.specs.Layouts.last_row_of l ≡ 1 → IsLawfulChain l image 0 rows → OneRow rows
one_row l image [] last h = record { linked = false; rows_are = refl }
one_row l image (r ∷ []) last h = record {
  linked = true;
  rows_are = ap (λ x. x ∷ [])
      (only r (Rattle.flit_words.specs.Layouts.last_row_of l) h.chain.1 h.chain.2 last);
}
  where
    only : (r n : ℕ) → 1 ≤ r → r ≤ n → n ≡ 1 → r ≡ 1
    only r n i j e = omega (arith, i, j, e)
one_row l image (r ∷ q ∷ rows) last h =
    absurd (twice (key_in l image r) (key_in l image q)
    (ap (key_in l image) (same r q (Rattle.flit_words.specs.Layouts.last_row_of l) h.chain.1 h.chain.2 h.chain.3.1 h.chain.3.2 last)) h.rising.1.0)
  where
    same : (r q n : ℕ) → 1 ≤ r → r ≤ n → 1 ≤ q → q ≤ n → n ≡ 1 → r ≡ q
    same r q n i j k m e = omega (arith, i, j, k, m, e)

    twice : (a b : ℕ) → a ≡ b → suc a ≤ b → ⊥
    twice a b e i = omega (arith, e, i)

free_shape : (xs : List ℕ) → IsRisingFrom 0 xs → ((row : ℕ) → Contains xs row → (1 ≤ row) × (row ≤ 1)) → (xs ≡ []) ⊎ (xs ≡ 1 ∷ [])
free_shape [] rising within = inl refl
free_shape (r ∷ []) rising within = let k = within r (contains_first r []) in inr (ap (λ x. x ∷ []) (only r k.0 k.1))
  where
    only : (r : ℕ) → 1 ≤ r → r ≤ 1 → r ≡ 1
    only r i j = omega (arith, i, j)
free_shape (r ∷ q ∷ xs) rising within =
    let k = within r (contains_first r (q ∷ xs)) in
    let m = within q (contains_later r (q ∷ xs) q (contains_first q xs)) in
    absurd (twice r q k.0 m.1 rising.1.0)
  where
    twice : (r q : ℕ) → 1 ≤ r → q ≤ 1 → suc r ≤ q → ⊥
    twice r q i j k = omega (arith, i, j, k)

module _ (l : Layout) (p : Place) (free : List ℕ) (o : Opening) (opens : Opens l p free o) (small : IsSmall l) where
  abbrev h : Words_of
  h = heap_of (first_moment {Op = HeldOp} l o) [] tt

  nothing : updates h ≡ []
  nothing = made_none h.progress refl

  value_here : (w : ℕ) → value_of (at_word h w) ≡ value_in o.words w
  value_here w = ap value_of (word_bare o.words w) ∙ value_bare (slice_index o.words w)

  value_row : (b : Bool) → l.values ≡ b → row_value_in l o.words 1 ≡ row_value l h
  value_row true v = ap (λ b. if b then value_in o.words (value_word l) else 0) v ∙ sym (value_here (value_word l))
      ∙ sym (ap (λ b. if b then value_of (at_word h (value_word l)) else 0) v)
  value_row false v = ap (λ b. if b then value_in o.words (value_word l) else 0) v
      ∙ sym (ap (λ b. if b then value_of (at_word h (value_word l)) else 0) v)

  -- the first heap, from what the image says of its head, its row and its free rows
  built : (linked : Bool) → length o.words ≡ words_of l → ((w : ℕ) → w < words_of l → is_tagged (slice_index o.words w) ≡ false) →
      value_in o.words 0 ≡ link_to linked → o.content ≡ map_if linked (value_in o.words (key_word l)) (row_value_in l o.words 1) →
      (linked ≡ true → (value_in o.words (key_word l) ≤ 4294967292) × (value_in o.words (key_word l + 1) ≡ 0)) →
      (free ≡ []) ⊎ (free ≡ 1 ∷ []) → (linked ≡ true → IsOut l free h) → Kept l free h
  built linked whole untagged head content sealed one out = record {
    words = length-map o.words bare_of ∙ whole;
    shadows = whole;
    untagged = untagged;
    bare = ap is_tagged (same_word 0 (below l small 0 (omega arith))) ∙ untagged 0 (below l small 0 (omega arith));
    story = subst (IsStory (row_key l h) (row_value l h) (linked_first h)) (sym nothing) tt;
    content = content ∙ ap (λ b. map_if b (value_in o.words (key_word l)) (row_value_in l o.words 1)) first
        ∙ ap (λ k. map_if (linked_first h) k (row_value_in l o.words 1)) (sym (value_here (key_word l)))
        ∙ ap (map_if (linked_first h) (row_key l h)) (value_row l.values refl);
    head = subst (λ n. IsHead h (at_word h 0) n) (sym (ap length nothing)) (record {
      counts = ap version_of (same_word 0 (below l small 0 (omega arith))) ∙ plus (version_of (slice_index o.words 0));
      links = value_here 0 ∙ head ∙ ap link_to first;
    });
    shadow = record { counts = plus (version_of (slice_index o.words 0)); links = head ∙ ap link_to first };
    waits = inl refl;
    pool = one;
    out = λ q. out (has q);
    sealed = λ q. let s = sealed (has q) in
        (subst (λ k. k ≤ 4294967292) (sym (value_here (key_word l))) s.0, value_here (key_word l + 1) ∙ s.1);
    rest = λ q w lt other. same_word w lt;
  }
    where
      same_word : (w : ℕ) → w < words_of l → at_word h w ≡ slice_index o.words w
      same_word w lt = word_bare o.words w ∙ bare-untagged (slice_index o.words w) (untagged w lt)

      twice : (b : Bool) → b ≡ not (not b)
      twice true = refl
      twice false = refl

      first : linked ≡ linked_first h
      first = twice linked ∙ ap not (sym (link_told linked (value_in o.words 0) head))

      plus : (v : ℕ) → v ≡ v + 0
      plus v = omega arith

      not_some : (n : ℕ) → n ≡ 0 → 1 ≤ n → ⊥
      not_some n e i = omega (arith, e, i)

      has : HasLinked h → linked ≡ true
      has q = ⊎_elim (λ e. first ∙ e) (λ m. absurd (not_some (length (updates h)) (ap length nothing) m)) q

  module _ (chain : ℕ → List ℕ) (k : IsLawfulList l o.words chain) (content : o.content ≡ list_map l o.words chain)
      (rows : opens.lawful.free ≡ free_rows l (Chains chain)) where
    on_chain : rows_on_chains l chain ≡ chain 0
    on_chain = ap (λ n. flat_map chain (range_with_len 0 n)) (one_bucket l small) ∙ append-nil (chain 0)

    free_row : (row : ℕ) → Contains o.free row → Contains (free_rows l (Chains chain)) row
    free_row row c = subst (λ xs. Contains xs row) rows (opens.lawful.among row c)

    one_free : (free ≡ []) ⊎ (free ≡ 1 ∷ [])
    one_free = subst (λ xs. (xs ≡ []) ⊎ (xs ≡ 1 ∷ [])) (sym opens.pool) (free_shape o.free opens.lawful.rising (λ row c.
        let r = (free_rows-contains l (Chains chain) row).0 (free_row row c) in
        (subst (λ x. first_row_of x ≤ row) small.list r.0, subst (λ n. row ≤ n) (last_row l small) r.1)))

    -- a row on the chain is none of those that no link leads to
    reached : chain 0 ≡ 1 ∷ [] → Contains (free_rows l (Chains chain)) 1 → ⊥
    reached is has = ((free_rows-contains l (Chains chain) 1).0 has).2 (subst (λ xs. Contains xs 1) (sym (on_chain ∙ is)) (contains_first 1 []))

    out_first : chain 0 ≡ 1 ∷ [] → IsOut l free h
    out_first is = (
      λ pool. absurd (reached is (free_row 1 (subst (λ xs. Contains xs 1) opens.pool pool))),
      λ f. reached is (subst (λ xs. Contains xs 1)
          (recovered_rows l o.words o.content o.content f.rows opens.lawful.free f.recovers opens.lawful.recovers ∙ rows) f.unreached),
    )

    chained : IsLawfulChain l o.words 0 (chain 0)
    chained = k.chains 0 (subst (λ n. 0 < n) (sym (one_bucket l small)) (omega arith))

    by_link : (b : Bool) → chain 0 ≡ (if b then 1 ∷ [] else []) → Kept l free h
    by_link false is =
        let c : IsLawfulChain l o.words 0 [] = subst (IsLawfulChain l o.words 0) is chained in
        built false k.whole k.untagged (plain_value l (value_in o.words 0) 0 c.links.0 c.unmarked c.chain)
        (content ∙ ap (λ rs. fin.from_entries (list_pairs l o.words rs)) (on_chain ∙ is)) (λ q. absurd (false≢true q)) one_free (λ q. absurd (false≢true q))
    by_link true is =
        let c : IsLawfulChain l o.words 0 (1 ∷ []) = subst (IsLawfulChain l o.words 0) is chained in
        let unmarked : (link_in o.words (next_word l 1)).mark ≡ false = subst (λ w. (link_in o.words w).mark ≡ false) (sym (next_at l))
        (opens.unmarked (ap (λ (r : ℕ). r == 0) c.chain.0)) in
        let next : value_in o.words (next_word l 1) ≡ 4 * 0 = plain_value l (value_in o.words (next_word l 1)) 0 c.links.1.0 unmarked c.chain.3 in
        built true k.whole k.untagged (plain_value l (value_in o.words 0) 1 c.links.0 c.unmarked c.chain.0)
        (content ∙ ap (λ rs. fin.from_entries (list_pairs l o.words rs)) (on_chain ∙ is)
        ∙ ap (λ b. fin.from_entries (map (pair_in l o.words) (cond (not b) (1 ∷ []) []))) unmarked)
        (λ q. (c.within.0, sym (ap (value_in o.words) (next_at l)) ∙ next)) one_free (λ q. out_first is)

    opened : Kept l free h
    opened = let r = one_row l o.words (chain 0) (last_row l small) chained in by_link r.linked r.rows_are

  by_shape : (s : Shape) → IsLawfulAs l o.words s → o.content ≡ map_in l o.words s → opens.lawful.free ≡ free_rows l s → Kept l free h
  by_shape (Chains chain) k content rows = opened chain k.1 content rows
  by_shape (Grown t) k content rows = absurd (other (sym small.list ∙ k.0))
    where
      other : List_kind ≡ Tree_kind → ⊥
      other q = cc

  pub opens_so : OpensSo (one_key_crew l free) l p free o
  opens_so = let r = opens.lawful.recovers in record {
    opening = opens.lawful;
    accepted = small.accepted;
    pool = opens.pool;
    slots = opens.slots;
    ghost = tt;
    kept = by_shape r.shape r.lawful r.map r.free_rows;
  }
