-- A lawful tree image has no first damage, and no image of a tree has two.
use Rattle.std.proofs.Common.{◌≡◌, ℕ, List, slice_index, inl, inr}
use Rattle.std.proofs.lemmas.Bool.{both_ways}
use Rattle.flit_words.specs.declared.layouts.Layout.{Layout}
use Rattle.flit_words.specs.declared.layouts.Kind.TheVariants.{Tree as Tree_kind}
use Rattle.flit_words.specs.Words.{is_tagged}
use Rattle.flit_words.specs.Layouts.{Accepted}
use Rattle.flit_model.specs.Trees.{Tree, IsLawfulTree}
use Rattle.flit_recover.specs.declared.found.Damage.{Damage}
use Rattle.flit_recover.specs.Damages.{IsFirstDamage}
use Rattle.flit_recover.proofs.FirstDamages.{tag_once}
use Rattle.flit_recover.proofs.TreeLaws.{lawful_undamaged, tree_damage_unique}

module _ (l : Layout) (image : List ℕ) (accepted : Accepted l) (grown : l.kind ≡ Tree_kind) where
  pub undamaged_if_lawful : (t : Tree) (d : Damage) → IsLawfulTree l image t → IsFirstDamage l image d → ⊥
  undamaged_if_lawful t d lawful (inl g) = both_ways (is_tagged (slice_index image g.word)) (lawful.untagged g.word g.within) g.tagged
  undamaged_if_lawful t d lawful (inr w) = elim w.1 [
    | inl chained ↦ chained.0 grown
    | inr tree ↦ lawful_undamaged l accepted grown image t d lawful tree.1
  ]

  pub first_damage_once : (d e : Damage) → IsFirstDamage l image d → IsFirstDamage l image e → d ≡ e
  first_damage_once d e (inl t) (inl u) = tag_once l image d e t u
  first_damage_once d e (inl t) (inr w) = absurd (both_ways (is_tagged (slice_index image t.word)) (w.0 t.word t.within) t.tagged)
  first_damage_once d e (inr v) (inl u) = absurd (both_ways (is_tagged (slice_index image u.word)) (v.0 u.word u.within) u.tagged)
  first_damage_once d e (inr v) (inr w) = elim v.1 [
    | inl chained ↦ absurd (chained.0 grown)
    | inr tree ↦ elim w.1 [ inl chained ↦ absurd (chained.0 grown) | inr other ↦ tree_damage_unique l accepted grown image d e tree.1 other.1 ]
  ]
