-- What the table asks of a join, as a running structure meets it.
use Rattle.std.proofs.Common.{◌≡◌, ℕ, ◌<◌, [], subst, arith}
use Rattle.atomic_table.specs.Table as table
use Rattle.atomic_table.specs.Seated.{TableId}
use Rattle.atomic_table.specs.declared.shared.Seat.{Seat}
use Rattle.flit_structure.specs.Meanings.{Meaning}
use Rattle.flit_structure.specs.Lawful.{Lawful}
use Rattle.flit_table.specs.declared.views.Origin.{Origin}
use Rattle.flit_table.specs.declared.views.Start.{Start}
use Rattle.flit_table.specs.declared.views.View.{View}
use Rattle.flit_table.specs.Views.{both, spent}
use Rattle.flit_table.specs.Moves.{MayEnter}
use Rattle.flit_table.specs.Rule.{IsRuled}
use Rattle.flit_table.specs.Steps.{Belongs, Home, IsTableOf, carried}
use Rattle.flit_table.proofs.TableSteps.{joins}

module _ {S Op : Type 0} (meanings : S → Meaning Op) (lawful : (x : S) → Lawful (meanings x)) (key : Origin S) (id : TableId) (s : S)
    (inside : IsTableOf (meanings s).layout s key id) where
  abbrev pub JoinAsked : Seat ℕ (View S Op) → Seat ℕ (View S Op) → Start → Type 0
  JoinAsked seat other start =
      (seat.table_id ≡ id) × (other.table_id ≡ id) × (other.me.1 ≡ []) × (0 < id.words)
      × table.Joins (IsRuled (meanings key.structure.value) key) seat.id seat.me.0 other.id other.me.0 (both seat.me.0 (carried meanings start other.me.0))
      spent

  pub join_asked : (home : Home S) → record { origin = key; table_id = id } ≡ home → (seat other : Seat ℕ (View S Op)) (start : Start) → Belongs home seat →
      Belongs home other → MayEnter (meanings home.origin.structure.value) start other.me.0.post → JoinAsked seat other start
  join_asked home is seat other start =
      subst (λ (h : Home S). Belongs h seat → Belongs h other → MayEnter (meanings h.origin.structure.value) start other.me.0.post → JoinAsked seat other start)
      is
      (λ b d may. (
        b.table,
        d.table,
        d.slots,
        omega (arith, inside.words),
        joins meanings lawful key seat.id other.id seat.me.0 other.me.0 start b.names d.names
            d.origin may,
      ))
