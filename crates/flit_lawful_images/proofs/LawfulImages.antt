-- An image that has a map has no damage, and what is found in it are the keys and values of this map.
use Rattle.std.proofs.Common.{◌≡◌, ℕ, List, ◌∙◌, ap}
use Rattle.std.specs.FinMap as map_of_pairs
use Rattle.flit_words.specs.declared.layouts.Layout.{Layout}
use Rattle.flit_words.specs.Layouts.{Accepted}
use Rattle.flit_model.specs.Images.{Shape, Chains, Grown, IsLawfulAs, Recovers}
use Rattle.flit_model.specs.Maps.{Map}
use Rattle.flit_model.proofs.Shapes.{recovered_map}
use Rattle.flit_recover.specs.declared.found.Damage.{Damage}
use Rattle.flit_recover.specs.Damages.{IsFirstDamage}
use Rattle.flit_recover.proofs.FirstDamages as chains
use Rattle.flit_recover.proofs.TreeDamages as trees

lawful_undamaged : (l : Layout) (image : List ℕ) (s : Shape) (d : Damage) → Accepted l → IsLawfulAs l image s → IsFirstDamage l image d → ⊥
lawful_undamaged l image (Chains chain) d accepted h f = chains.undamaged_if_lawful l image chain d h.0 h.1 f
lawful_undamaged l image (Grown t) d accepted h f = trees.undamaged_if_lawful l image accepted h.0 t d h.1 f

pub undamaged : (l : Layout) (image : List ℕ) (m : Map) (free : List ℕ) (d : Damage) → Accepted l → Recovers l image m free → IsFirstDamage l image d → ⊥
undamaged l image m free d accepted r f = lawful_undamaged l image r.shape d accepted r.lawful f

-- it has one map
pub same_keys : (l : Layout) (image : List ℕ) (m n : Map) (free others keys : List ℕ) → Recovers l image m free → Recovers l image n others →
    keys ≡ map_of_pairs.keys m → keys ≡ map_of_pairs.keys n
same_keys l image m n free others keys r s e = e ∙ ap (λ (x : Map). map_of_pairs.keys x) (recovered_map l image m n free others r s)

pub same_values : (l : Layout) (image : List ℕ) (m n : Map) (free others values : List ℕ) → Recovers l image m free → Recovers l image n others →
    values ≡ map_of_pairs.values m → values ≡ map_of_pairs.values n
same_values l image m n free others values r s e = e ∙ ap (λ (x : Map). map_of_pairs.values x) (recovered_map l image m n free others r s)
