-- Rows that become settled.
use Rattle.std.proofs.Common.{◌≡◌, ℕ, ◌==◌, ◌||◌, Bool, true, false, Option, Some, sym, ap, ◌∙◌, inl, inr, subst}
use Rattle.std.specs.FinMap as fin
use Rattle.flit_structure.specs.Lawful.{is_insert}
use Rattle.flit_model.specs.Maps.{Map}
use Rattle.flit_model.specs.declared.calls.Entry.{Entry}
use Rattle.std.proofs.lemmas.Bool.{eqb-true, both_ways, or_cases}
use Rattle.flit_list_heap.specs.Links.{LinkWord, Rows, IsLink, row_of}
use Rattle.flit_list_heap.specs.Chained.{map_with, joined, settled_after, is_put, Shape, Solid, Linking, Marking, Unlinking, Chained}
use Rattle.flit_list_heap.proofs.Knowing.{arrive}
use Rattle.flit_list_heap.proofs.Settling.{put-of}

module _ (c : Rows) (settled : ℕ → Bool) (words shadows : LinkWord → ℕ) (entries : LinkWord → Option Entry) (m : Map)
    (heap : Chained c settled words shadows entries m) where
  -- a row that becomes settled is that of the link
  joins-by : (y : LinkWord) (e : Option Entry) (r : ℕ) → Shape c settled words shadows y e → settled r ≡ false →
      settled_after settled e (row_of (words y)) r ≡ true → (is_put e ≡ true) × (r ≡ row_of (words y))
  joins-by y e r (Solid s n) f g = absurd (both_ways (settled r) f (subst (λ e. settled_after settled e (row_of (words y)) r ≡ true) n g))
  joins-by y e r (Marking k) f g =
      absurd (both_ways (settled r) f (subst (λ b. joined b settled (row_of (words y)) r ≡ true) (ap is_put k.entry ∙ ap is_insert k.call) g))
  joins-by y e r (Unlinking k) f g = absurd (both_ways (settled r) f (subst (λ e. settled_after settled e (row_of (words y)) r ≡ true) k.entry g))
  joins-by y e r (Linking k) f g =
      let w : (settled r || (r == row_of (words y))) ≡ true = subst (λ b. joined b settled (row_of (words y)) r ≡ true)
      (ap is_put k.entry ∙ ap is_insert k.call) g in (
        put-of e k.update (c.key (row_of (words y))) (c.value (row_of (words y))) k.entry k.call,
        elim (or_cases (settled r) (r == row_of (words y)) w) [ inl s ↦ absurd (both_ways (settled r) f s) | inr i ↦ eqb-true r (row_of (words y)) i ],
      )

  -- and the map has its pair then
  pub joins : (y : LinkWord) → IsLink c y → (r : ℕ) → settled r ≡ false → settled_after settled (entries y) (row_of (words y)) r ≡ true →
      fin.get (map_with m (entries y)) (c.key r) ≡ Some (c.value r)
  joins y l r f g =
      let k : (is_put (entries y) ≡ true) × (r ≡ row_of (words y)) = joins-by y (entries y) r (heap.shapes y l) f g in
      subst (λ q. fin.get (map_with m (entries y)) (c.key q) ≡ Some (c.value q)) (sym k.1) (arrive c settled words shadows entries m heap y l k.0)
