-- Lawful or damaged: one of the two, and one damage.
use Rattle.std.specs.Prelude.{◌≡◌, ◌≢◌, ◌⊎◌, ℕ, List, length}
use Rattle.flit_words.specs.declared.layouts.Layout.{Layout}
use Rattle.flit_words.specs.declared.layouts.Kind.TheVariants.{Tree as Tree_kind}
use Rattle.flit_words.specs.Layouts.{Accepted, words_of}
use Rattle.flit_model.specs.Lists.{IsLawfulList}
use Rattle.flit_model.specs.Trees.{Tree, IsLawfulTree}
use Rattle.flit_recover.specs.declared.found.Damage.{Damage as A_damage}
use Rattle.flit_recover.specs.Damages.{IsFirstDamage}

-- a whole image of a list or a hash table is lawful or has a first damage
abbrev pub ListLawfulOrDamaged : Type 0
ListLawfulOrDamaged =
    (l : Layout) (image : List ℕ) → l.kind ≢ Tree_kind → length image ≡ words_of l →
    ((chain : ℕ → List ℕ) × IsLawfulList l image chain) ⊎ ((d : A_damage) × IsFirstDamage l image d)

-- a lawful list or hash table has no first damage
abbrev pub ListLawfulUndamaged : Type 0
ListLawfulUndamaged =
    (l : Layout) (image : List ℕ) (chain : ℕ → List ℕ) (d : A_damage) → l.kind ≢ Tree_kind →
    IsLawfulList l image chain → ¬ (IsFirstDamage l image d)

-- an image of a list or a hash table has one first damage at most
abbrev pub OneListDamage : Type 0
OneListDamage =
    (l : Layout) (image : List ℕ) (d e : A_damage) → l.kind ≢ Tree_kind → IsFirstDamage l image d →
    IsFirstDamage l image e → d ≡ e

-- a whole image of a tree is lawful or has a first damage
abbrev pub TreeLawfulOrDamaged : Type 0
TreeLawfulOrDamaged =
    (l : Layout) (image : List ℕ) → Accepted l → l.kind ≡ Tree_kind → length image ≡ words_of l →
    ((t : Tree) × IsLawfulTree l image t) ⊎ ((d : A_damage) × IsFirstDamage l image d)

-- a lawful tree has no first damage
abbrev pub TreeLawfulUndamaged : Type 0
TreeLawfulUndamaged =
    (l : Layout) (image : List ℕ) (t : Tree) (d : A_damage) → Accepted l → l.kind ≡ Tree_kind →
    IsLawfulTree l image t → ¬ (IsFirstDamage l image d)

-- an image of a tree has one first damage at most
abbrev pub OneTreeDamage : Type 0
OneTreeDamage =
    (l : Layout) (image : List ℕ) (d e : A_damage) → Accepted l → l.kind ≡ Tree_kind →
    IsFirstDamage l image d → IsFirstDamage l image e → d ≡ e
