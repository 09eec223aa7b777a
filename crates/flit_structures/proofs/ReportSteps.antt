-- What is said of a run on a structure that was made is so of the trace's.
use Rattle.std.proofs.Common.{◌≡◌, ℕ, List, sym, subst, Result, IfOk}
use Rattle.flit_words.specs.declared.layouts.Kind.{Kind}
use Rattle.flit_words.specs.declared.layouts.Kind.TheVariants.{List as List_kind, Hash}
use Rattle.flit_words.specs.declared.layouts.Layout.{Layout}
use Rattle.flit_words.specs.declared.memory.NoMemory.{NoMemory}
use Rattle.flit_model.specs.declared.found.Recovered.{Recovered}
use Rattle.flit_place.specs.Tags.{Place}
use Rattle.flit_trace.specs.SeenTraces.{SeenTrace}
use Rattle.flit_list_structure.specs.ListStructure.{lists}
use Rattle.flit_structures.specs.Runs.{IsToldSeen}
use Rattle.flit_structures.specs.Structures.{structure_of}
use Rattle.flit_structures.specs.declared.runs.Wanted.{Wanted}

module _ {X : Type 0} (items : X → List ℕ) (found : Result X NoMemory) (trace : SeenTrace) (wanted : Wanted) (start : Recovered) (l m : Layout)
    (p q : Place) (free rows : List ℕ) where
  at_same : m ≡ l → q ≡ p → rows ≡ free → IfOk found (λ x. IsToldSeen (lists m q rows) trace wanted start (items x)) →
      IfOk found (λ x. IsToldSeen (lists l p free) trace wanted start (items x))
  at_same layout place pool h =
      subst (λ y. IfOk found (λ x. IsToldSeen (lists l p y) trace wanted start (items x))) pool
      (subst (λ y. IfOk found (λ x. IsToldSeen (lists l y rows) trace wanted start (items x))) place
      (subst (λ y. IfOk found (λ x. IsToldSeen (lists y q rows) trace wanted start (items x))) layout h))

  pub on_list : (kind : Kind) → kind ≡ List_kind → m ≡ l → q ≡ p → rows ≡ free →
      IfOk found (λ x. IsToldSeen (lists m q rows) trace wanted start (items x)) →
      IfOk found (λ x. IsToldSeen (structure_of l p kind free).meaning trace wanted start (items x))
  on_list kind is layout place pool h =
      subst (λ k. IfOk found (λ x. IsToldSeen (structure_of l p k free).meaning trace wanted start (items x))) (sym is) (at_same layout place pool h)

  pub on_hash : (kind : Kind) → kind ≡ Hash → m ≡ l → q ≡ p → rows ≡ free →
      IfOk found (λ x. IsToldSeen (lists m q rows) trace wanted start (items x)) →
      IfOk found (λ x. IsToldSeen (structure_of l p kind free).meaning trace wanted start (items x))
  on_hash kind is layout place pool h =
      subst (λ k. IfOk found (λ x. IsToldSeen (structure_of l p k free).meaning trace wanted start (items x))) (sym is) (at_same layout place pool h)
