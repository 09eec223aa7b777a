-- Pairs of which each key stands once are as many as the keys of their map.
use Rattle.std.proofs.Common.{◌≡◌, ◌≢◌, ℕ, ◌+◌, ◌==◌, false, cond, is_some, List, [], ◌∷◌, length, count_by, None, nat_cmp, refl, sym, ap, ◌∙◌, arith, eq-eqb, ne_eqb, inl, inr}
use Rattle.std.specs.Cmp.{unsigned_tied}
use Rattle.std.specs.FinMap as finite
use Rattle.std.proofs.lemmas.Bool.{cases_Bool, eqb-false}
use Rattle.std.proofs.lemmas.Cmp.{nat_cmp_total}
use Rattle.std.proofs.lemmas.List.{length-map}
use Rattle.flit_words.specs.declared.layouts.Layout.{Layout}
use Rattle.flit_words.specs.declared.layouts.Kind.TheVariants.{Tree as Tree_kind}
use Rattle.flit_model.specs.Lists.{IsLawfulList, list_pairs, list_map, rows_on_chains}
use Rattle.flit_model.specs.Trees.{tree_map}
use Rattle.flit_model.specs.Images.{Chains, Grown, free_rows}
use Rattle.flit_model.proofs.Counting.{count_by-cons, count_by-cons_yes}
use Rattle.flit_model.proofs.Pairs.{list_pairs_once}
use Rattle.flit_recover.specs.TreeFinds.{IsTreeReached}
use Rattle.flit_recover.specs.KeyCounts.{HasKeys}
use Rattle.flit_recover.proofs.SortedPairs.{HasKeysOnce}
use Rattle.flit_recover.proofs.TreeRecoveries.{tree_entries}

-- a key that no pair has isn't found
not_found : (key : ℕ) (es : List (ℕ × ℕ)) → count_by (λ p. p.0 == key) es ≡ 0 → finite.find nat_cmp key es ≡ None
not_found key [] none = refl
not_found key (p ∷ es) none = elim (cases_Bool (p.0 == key)) [
  | inl y ↦ absurd (omega (arith, none, count_by-cons_yes (λ q. q.0 == key) p es y))
  | inr n ↦
      let rest = not_found key es (omega (arith, none, count_by-cons (λ q. q.0 == key) p es)) in
      rw (unsigned_tied key p.0, ne_eqb key p.0 (λ e. eqb-false p.0 key n (sym e))) rest
]

later_once : (e : ℕ × ℕ) (es : List (ℕ × ℕ)) → HasKeysOnce (e ∷ es) → HasKeysOnce es
later_once e es once key = omega (arith, once key, count_by-cons (λ p. p.0 == key) e es)

-- pairs of which each key stands once are as many as the entries of their map
pub as_many : (es : List (ℕ × ℕ)) → HasKeysOnce es → finite.len (finite.from_entries {R = nat_cmp} es) ≡ length es
as_many [] once = finite.len-empty nat_cmp ℕ
as_many (e ∷ es) once =
    let m = finite.from_entries {R = nat_cmp} es in
    let none : count_by (λ p. p.0 == e.0) es ≡ 0 = omega (arith, once e.0, count_by-cons_yes (λ p. p.0 == e.0) e es (eq-eqb e.0 e.0 refl)) in
    let new : finite.contains_key m e.0 ≡ false = ap is_some (finite.get-from_entries nat_cmp_total es e.0 ∙ not_found e.0 es none) in
    let rest = as_many es (later_once e es once) in
    finite.len-insert nat_cmp_total m e.0 e.1 ∙ ap (λ b. cond b (finite.len m) (finite.len m + 1)) new ∙ omega (arith, rest)

-- what is counted on the chains of a list, and in a tree
pub chains_have : (l : Layout) (image : List ℕ) → l.kind ≢ Tree_kind → (chain : ℕ → List ℕ) → IsLawfulList l image chain → (rows : List ℕ) →
    rows ≡ rows_on_chains l chain → (count : ℕ) → count ≡ length (list_pairs l image rows) → HasKeys l image count
chains_have l image chained chain lawful rows rows_are count count_is =
    let m = list_map l image chain in record {
      keys = finite.keys m;
      values = finite.values m;
      free = free_rows l (Chains chain);
      recovery = record {
        map = m;
        recovers = record { shape = Chains chain; lawful = (chained, lawful); map = refl; free_rows = refl };
        keys_are = refl;
        values_are = refl;
      };
      count_is = count_is ∙ ap (λ (rs : List ℕ). length (list_pairs l image rs)) rows_are
          ∙ sym (as_many (list_pairs l image (rows_on_chains l chain)) (λ key. list_pairs_once l image chain key lawful)) ∙ finite.len-entries m
          ∙ sym (length-map (finite.entries m) (λ e. e.0));
    }

pub tree_has : (l : Layout) (image : List ℕ) → l.kind ≡ Tree_kind → (rows : List ℕ) (pairs : List (ℕ × ℕ)) → IsTreeReached l image rows pairs → (count : ℕ) →
    count ≡ length pairs → HasKeys l image count
tree_has l image grown rows pairs h count count_is =
    let m = tree_map l image h.tree in record {
      keys = finite.keys m;
      values = finite.values m;
      free = free_rows l (Grown h.tree);
      recovery = record {
        map = m;
        recovers = record { shape = Grown h.tree; lawful = (grown, h.lawful); map = refl; free_rows = refl };
        keys_are = refl;
        values_are = refl;
      };
      count_is = count_is ∙ sym (ap (λ (es : List (ℕ × ℕ)). length es) (tree_entries l image grown rows pairs h))
          ∙ sym (length-map (finite.entries m) (λ e. e.0));
    }
