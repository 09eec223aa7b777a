-- Whole images: a chain for each head, and lawful images of each kind.
use Rattle.std.proofs.Common.{◌≡◌, ◌≢◌, ◌⊎◌, ◌↔◌, ℕ, ◌<◌, ◌≤◌, List, [], length, slice_index, false, sym, ◌∙◌, arith, inl, inr}
use Rattle.std.proofs.lemmas.Bool.{cases_lt}
use Rattle.flit_words.specs.declared.layouts.Layout.{Layout}
use Rattle.flit_words.specs.declared.layouts.Kind.{Kind}
use Rattle.flit_words.specs.declared.layouts.Kind.TheVariants.{List as List_kind, Hash, Tree as Tree_kind}
use Rattle.flit_words.specs.Words.{is_tagged}
use Rattle.flit_words.specs.Layouts.{words_of}
use Rattle.flit_model.specs.Lists.{IsLawfulChain, IsLawfulList}
use Rattle.flit_model.specs.Trees.{Tree, IsLawfulTree}
use Rattle.flit_model.specs.Images.{Shape, Chains, Grown, IsLawful, IsLawfulAs}

-- a list for each number below a bound, as a function
module _ (P : ℕ → List ℕ → Type 0) (n : ℕ) (each : (h : ℕ) → h < n → (xs : List ℕ) × P h xs) where
  chosen_by : (h : ℕ) → (h < n) ⊎ (n ≤ h) → List ℕ
  chosen_by h (inl below) = (each h below).0
  chosen_by h (inr above) = []

  pub chosen : ℕ → List ℕ
  chosen h = chosen_by h (cases_lt h n)

  chosen_by_is : (h : ℕ) (c : (h < n) ⊎ (n ≤ h)) → h < n → P h (chosen_by h c)
  unfolding chosen_by
  chosen_by_is h (inl below) b = (each h below).1
  chosen_by_is h (inr above) b = absurd (omega (arith, above, b))

  pub chosen_is : (h : ℕ) → h < n → P h (chosen h)
  unfolding chosen
  chosen_is h b = chosen_by_is h (cases_lt h n) b

pub chained_kind : (k : Kind) → (k ≡ List_kind) ⊎ (k ≡ Hash) → k ≢ Tree_kind
chained_kind k (inl e) tree = absurd (let apart : List_kind ≡ Tree_kind = sym e ∙ tree in cc)
chained_kind k (inr e) tree = absurd (let apart : Hash ≡ Tree_kind = sym e ∙ tree in cc)

module _ (l : Layout) (image : List ℕ) where
  module _ (whole : length image ≡ words_of l) (untagged : (w : ℕ) → w < length image → is_tagged (slice_index image w) ≡ false) where
    pub lawful_list : ((h : ℕ) → h < l.buckets → (rows : List ℕ) × IsLawfulChain l image h rows) → (chain : ℕ → List ℕ) × IsLawfulList l image chain
    lawful_list each = (
      chosen (IsLawfulChain l image) l.buckets each,
      record {
        whole = whole;
        untagged = λ w below. untagged w
            (omega arith);
        chains = chosen_is (IsLawfulChain l image) l.buckets each;
      },
    )

  pub list_chain : (chain : ℕ → List ℕ) → IsLawfulList l image chain → (h : ℕ) → h < l.buckets → (rows : List ℕ) × IsLawfulChain l image h rows
  list_chain chain lawful h b = (chain h, lawful.chains h b)

  -- an image is lawful as its kind has it
  pub lawful_chained : l.kind ≢ Tree_kind → ((chain : ℕ → List ℕ) × IsLawfulList l image chain) ↔ IsLawful l image
  lawful_chained chained = ((λ w. (Chains w.0, (chained, w.1))), λ s. back s.0 s.1)
    where
      back : (s : Shape) → IsLawfulAs l image s → (chain : ℕ → List ℕ) × IsLawfulList l image chain
      back (Chains chain) h = (chain, h.1)
      back (Grown t) h = absurd (chained h.0)

  pub lawful_grown : l.kind ≡ Tree_kind → ((t : Tree) × IsLawfulTree l image t) ↔ IsLawful l image
  lawful_grown grown = ((λ w. (Grown w.0, (grown, w.1))), λ s. back s.0 s.1)
    where
      back : (s : Shape) → IsLawfulAs l image s → (t : Tree) × IsLawfulTree l image t
      back (Chains chain) h = absurd (h.0 grown)
      back (Grown t) h = (t, h.1)

  pub lawful_whole : IsLawful l image → length image ≡ words_of l
  lawful_whole w = of w.0 w.1
    where
      of : (s : Shape) → IsLawfulAs l image s → length image ≡ words_of l
      of (Chains chain) h = h.1.whole
      of (Grown t) h = h.1.whole

  pub lawful_untagged : IsLawful l image → (w : ℕ) → w < length image → is_tagged (slice_index image w) ≡ false
  lawful_untagged s = of s.0 s.1
    where
      of : (s : Shape) → IsLawfulAs l image s → (w : ℕ) → w < length image → is_tagged (slice_index image w) ≡ false
      of (Chains chain) h w below = let whole = h.1.whole in h.1.untagged w (omega (arith, below, whole))
      of (Grown t) h w below = let whole = h.1.whole in h.1.untagged w (omega (arith, below, whole))
