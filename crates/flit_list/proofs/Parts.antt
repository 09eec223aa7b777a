-- A row of a list has two words, its key and its link.
use Rattle.std.proofs.Common.{◌≡◌, refl}
use Rattle.flit_words.specs.declared.layouts.Kind.{Kind}
use Rattle.flit_words.specs.declared.layouts.Kind.TheVariants.{List, Hash, Tree}
use Rattle.flit_words.specs.declared.layouts.Layout.{Layout}
use Rattle.flit_words.specs.Layouts.{parts_of}
use Rattle.flit_list_laws.specs.ListCrew.{IsOfLists}

but_for_trees : (kind : Kind) → (kind ≡ Tree → ⊥) → parts_of kind ≡ 2
but_for_trees List others = refl
but_for_trees Hash others = refl
but_for_trees Tree others = absurd (others refl)

pub two_parts : (l : Layout) → IsOfLists l → parts_of l.kind ≡ 2
two_parts l lists = but_for_trees l.kind lists.kind
