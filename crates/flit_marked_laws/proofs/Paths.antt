-- Rows to which links lead from a head, in words that are each a link word's shadow or what it holds: all of them are linked.
use Rattle.std.proofs.Common.{◌≡◌, ◌⊎◌, ⊎_elim, ℕ, ◌+◌, ◌<◌, ◌≤◌, List, [], ◌∷◌, sym, ◌∙◌, subst, arith}
use Rattle.std.specs.List.{AllByRecursion}
use Rattle.std.specs.Prelude.{Contains}
use Rattle.flit_words.specs.declared.layouts.Layout.{Layout}
use Rattle.flit_model.specs.Lists.{IsChain, link_in, rows_on_chains}
use Rattle.flit_model.proofs.Elements.{all_contained, all-flat_map}
use Rattle.flit_list_heap.specs.Links.{LinkWord, Head, Next, place_of, row_of}
use Rattle.flit_list_heap.specs.Paths.{Path, Follows}
use Rattle.flit_list_heap.specs.Keeping.{ListHeap, IsReached, IsLinked, IsLinkAt, rows_at, word_in, shadow_in, Kept}

-- from a link word on the links lead to these rows
abbrev pub Leads : (LinkWord → ℕ) → LinkWord → List ℕ → Type 0
Leads f y [] = Unit {0}
Leads f y (r ∷ rs) = (f y ≡ r) × (1 ≤ r) × Leads f (Next r) rs

module _ (l : Layout) (free : List ℕ) (h : ListHeap) (kept : Kept l free h) (f : LinkWord → ℕ)
    (either : (y : LinkWord) → IsLinkAt l h y → (f y ≡ row_of (shadow_in l h y)) ⊎ (f y ≡ row_of (word_in l h y))) where
  none : (r n : ℕ) → 1 ≤ r → r ≡ n → n ≡ 0 → ⊥
  none r n i e z = omega (arith, i, e, z)

  leads_linked : (y : LinkWord) (r : ℕ) → IsLinkAt l h y → f y ≡ r → 1 ≤ r → IsLinked l h r
  leads_linked y r link leads real = ⊎_elim
      (λ e. ⊎_elim (λ z. absurd (none r (row_of (shadow_in l h y)) real (sym leads ∙ e) z))
      (λ s. subst (IsLinked l h) (sym e ∙ leads) (kept.chained.settled_linked (row_of (shadow_in l h y)) s)) (kept.chained.shadow_links y link))
      (λ e. ⊎_elim (λ z. absurd (none r (row_of (word_in l h y)) real (sym leads ∙ e) z))
      (λ (g : Follows (rows_at l h) y (row_of (word_in l h y))). subst (IsLinked l h) (sym e ∙ leads) g.linked) (kept.chained.word_form y link).leads)
      (either y link)

  pub all_linked : (y : LinkWord) (rows : List ℕ) → IsLinkAt l h y → Leads f y rows → AllByRecursion (IsLinked l h) rows
  all_linked y [] link leads = tt
  all_linked y (r ∷ rs) link leads =
      let linked : IsLinked l h r = leads_linked y r link leads.0 leads.1 in (linked, all_linked (Next r) rs linked leads.2)

  -- along a path
  path_leads : (k : ListHeap) (y : LinkWord) (rows : List ℕ) → ((x : LinkWord) → f x ≡ row_of (shadow_in l k x)) → Path (rows_at l k) (shadow_in l k) y rows →
      Leads f y rows
  path_leads k y [] same path = tt
  path_leads k y (r ∷ rs) same path = (same y ∙ path.0, path.1.real, path_leads k (Next r) rs same path.2)

  pub path_linked : (k : ListHeap) (y : LinkWord) (rows : List ℕ) → ((x : LinkWord) → f x ≡ row_of (shadow_in l k x)) → IsLinkAt l h y →
      Path (rows_at l k) (shadow_in l k) y rows → (row : ℕ) → Contains rows row → IsLinked l h row
  path_linked k y rows same link path row has = all_contained (IsLinked l h) rows row (all_linked y rows link (path_leads k y rows same path)) has

  -- along the chains of an image
  chain_leads : (image : List ℕ) (y : LinkWord) (rows : List ℕ) → ((x : LinkWord) → IsLinkAt l h x → f x ≡ (link_in image (place_of l x)).row) →
      IsLinkAt l h y →
      IsChain l image (place_of l y) rows → AllByRecursion (IsLinked l h) rows
  chain_leads image y [] same link chain = tt
  chain_leads image y (r ∷ rs) same link chain =
      let linked : IsLinked l h r = leads_linked y r link (same y link ∙ chain.0) chain.1 in
      (linked, chain_leads image (Next r) rs same linked chain.3)

  pub reached_linked : (image : List ℕ) → ((x : LinkWord) → IsLinkAt l h x → f x ≡ (link_in image (place_of l x)).row) → (row : ℕ) → IsReached l image row →
      IsLinked l h row
  reached_linked image same row r = all_contained (IsLinked l h) (rows_on_chains l r.chain) row
      (all-flat_map (IsLinked l h) r.chain 0 l.buckets (λ g least most. chain_leads image (Head g) (r.chain g) same (below g l.buckets most)
      (r.lawful.chains g (below g l.buckets most)).chain)) r.on
    where
      below : (g n : ℕ) → g < 0 + n → g < n
      below g n i = omega (arith, i)
