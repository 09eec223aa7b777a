-- A tree map that has what a finite map has at each key, after a call.
use Rattle.std.proofs.Common.{◌≡◌, ℕ, cond, false, [], Some, None, is_some, nat_cmp, sym, ap, ◌∙◌}
use Rattle.std.specs.Ordering.{eq_by_cmp}
use Rattle.std.specs.Cmp.{eq_by_cmp_equiv}
use Rattle.std.specs.BTreeMap.{BTreeMap, get, is_at}
use Rattle.std.specs.FinMap as map
use Rattle.std.specs.Map.{lookup}
use Rattle.std.specs.FinMap.{get-empty, get-insert, get-remove}
use Rattle.std.proofs.lemmas.Cmp.{nat_cmp_total}
use Rattle.flit_model.specs.Maps.{Map, map_after}
use Rattle.flit_model.specs.declared.calls.Call.TheVariants.{Insert, Remove}
use Rattle.flit_plain.specs.Playing.{HasSame}

tied : (k q : ℕ) → is_at (nat_cmp k) q ≡ eq_by_cmp nat_cmp q k
tied k q = (eq_by_cmp_equiv nat_cmp_total).symm k q

module _ (m : Map) (tree later : BTreeMap ℕ ℕ) (k : ℕ) (same : HasSame m tree) where
  pub same_inserted : (v : ℕ) → is_some (get nat_cmp tree k) ≡ false → ((q : ℕ) →
      get nat_cmp later q ≡ cond (is_at (nat_cmp k) q) (Some v) (get nat_cmp tree q)) → HasSame (map_after m (Insert k v)) later
  same_inserted v absent updated q =
      let none : map.contains_key m k ≡ false = sym (ap is_some (same k)) ∙ absent in
      rw none
      (updated q
      ∙ ap (cond (is_at (nat_cmp k) q) (Some v)) (same q)
      ∙ ap (λ b. cond b (Some v) (map.get m q)) (tied k q)
      ∙ sym (get-insert nat_cmp_total m k v q))

  pub same_removed : ((q : ℕ) → get nat_cmp later q ≡ cond (is_at (nat_cmp k) q) None (get nat_cmp tree q)) → HasSame (map_after m (Remove k)) later
  same_removed updated q =
      updated q
      ∙ ap (cond (is_at (nat_cmp k) q) None) (same q)
      ∙ ap (λ b. cond b None (map.get m q)) (tied k q)
      ∙ sym (get-remove nat_cmp_total m k q)

pub same_empty : (tree : BTreeMap ℕ ℕ) → tree.entries ≡ [] → HasSame map.empty tree
same_empty tree none q = ap (lookup (is_at (nat_cmp q))) none ∙ sym (get-empty nat_cmp q)
