-- The structure of each kind keeps the laws of a structure, and a trace is right for it.
use Rattle.std.proofs.Common.{◌≡◌, ◌∙◌, ℕ, List, sym}
use Rattle.flit_words.specs.declared.layouts.Kind.{Kind}
use Rattle.flit_words.specs.declared.layouts.Kind.TheVariants.{List as List_kind, Hash, Tree}
use Rattle.flit_words.specs.declared.layouts.Layout.{Layout}
use Rattle.flit_words.specs.Layouts.{Accepted}
use Rattle.flit_place.specs.Tags.{Place}
use Rattle.flit_structure.specs.Lawful.{Lawful}
use Rattle.flit_list_structure.proofs.Lawfulness.{list_lawful}
use Rattle.flit_tree_structure.proofs.Lawfulness.{tree_lawful}
use Rattle.flit_structures.specs.Structures.{structure_of}

pub kind_lawful : (kind : Kind) (l : Layout) (p : Place) (free : List ℕ) → l.kind ≡ kind → Accepted l → Lawful (structure_of l p kind free).meaning
kind_lawful List_kind l p free is accepted = list_lawful l p free (record { accepted = accepted; kind = λ tree. (let both = sym is ∙ tree in cc) })
kind_lawful Hash l p free is accepted = list_lawful l p free (record { accepted = accepted; kind = λ tree. (let both = sym is ∙ tree in cc) })
kind_lawful Tree l p free is accepted = tree_lawful l p free (record { accepted = accepted; kind = is })
