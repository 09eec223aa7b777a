-- Views: the shadows are one, a place may be chosen anew, and what the trees of two views have in common.
use Rattle.std.proofs.Common.{◌≡◌, ◌⊎◌, ℕ, ◌<◌, false, List, slice_index, slice_set, refl, sym, subst, ◌∙◌, inl, inr}
use Rattle.std.proofs.lemmas.Bool.{cases_eq}
use Rattle.std.proofs.lemmas.List.{length-set, get_or-set_same, get_or-set_other}
use Rattle.flit_words.specs.declared.layouts.Layout.{Layout}
use Rattle.flit_words.specs.Layouts.{words_of, above_keys}
use Rattle.flit_words.specs.Words.{is_tagged}
use Rattle.flit_model.specs.Trees.{Tree, IsLawfulTree}
use Rattle.flit_model.proofs.TreeShapes.{tree_unique}
use Rattle.flit_crew.specs.Heaps.{at_word, at_shadow, IsOpen}
use Rattle.flit_tree_heap.specs.Views.{TreeHeap, IsAtRest, IsView}
use Rattle.flit_tree_heap.specs.Kept.{IsKept}

pub lawful_one : (l : Layout) (image : List ℕ) (t u : Tree) → IsLawfulTree l image t → IsLawfulTree l image u → t ≡ u
lawful_one l image t u a b = tree_unique l image 4 0 (above_keys 1) 0 (above_keys 1) t u a.tree b.tree

module _ (l : Layout) (free : List ℕ) (h : TreeHeap) where
  -- a word at rest is the same in each view
  pub view_rest : (image : List ℕ) → IsView l free h image → (w : ℕ) → IsOpen l free h w → IsAtRest h w → slice_index image w ≡ at_word h w
  view_rest image v w o r = elim (v.places w o) [ inl e ↦ e | inr e ↦ e ∙ sym r ]

  pub shadows_view : IsKept l free h → IsView l free h h.shadows
  shadows_view K = record { whole = K.shadows; untagged = K.untagged; places = λ w o. inr refl }

  -- one place chosen anew
  pub view_set : (image : List ℕ) → IsView l free h image → (w0 x : ℕ) → w0 < words_of l → is_tagged x ≡ false → (x ≡ at_word h w0) ⊎ (x ≡ at_shadow h w0) →
      IsView l free h (slice_set image w0 x)
  view_set image v w0 x within bare is = record {
    whole = length-set image w0 x ∙ v.whole;
    untagged = λ w b. elim (cases_eq w w0) [
      | inl e ↦ rw (e, get_or-set_same image w0 x 0 (subst (λ n. w0 < n) (sym v.whole) within)) bare
      | inr d ↦ rw (get_or-set_other image w0 w x 0 d) (v.untagged w b)
    ];
    places = λ w o. elim (cases_eq w w0) [
      | inl e ↦ rw (e, get_or-set_same image w0 x 0 (subst (λ n. w0 < n) (sym v.whole) within)) is
      | inr d ↦ rw (get_or-set_other image w0 w x 0 d) (v.places w o)
    ];
  }
