-- What recovery answers for a tree, from the rows that the walk reached and the pairs, which rise.
use Rattle.std.proofs.Common.{◌≡◌, ℕ, ◌≤◌, ◌||◌, Bool, cond, not, List, [], ◌∷◌, ◌++◌, map, filter, Result, Ok, Err, IfOk, refl, sym, ap, ◌∙◌, subst, arith}
use Rattle.std.specs.List.{AllByRecursion, range_with_len}
use Rattle.std.specs.FinMap as finite
use Rattle.std.specs.List.Sorted.{IsPermutation}
use Rattle.std.proofs.lemmas.List.Sorted.{IsPermutation-refl}
use Rattle.flit_words.specs.declared.layouts.Layout.{Layout}
use Rattle.flit_words.specs.declared.layouts.Kind.TheVariants.{Tree as Tree_kind}
use Rattle.flit_words.specs.Layouts.{first_row_of}
use Rattle.flit_model.specs.Lists.{IsRisingFrom}
use Rattle.flit_model.specs.Trees.{rows_in_tree, tree_pairs, tree_map}
use Rattle.flit_model.specs.Images.{Grown}
use Rattle.flit_model.proofs.Elements.{all-range}
use Rattle.flit_model.proofs.Pairs.{tree_pairs_rise}
use Rattle.flit_recover.specs.declared.found.Damage.{Damage}
use Rattle.flit_recover.specs.declared.recovery.Holding.{Holding}
use Rattle.flit_recover.specs.ListWalks.{stands_in}
use Rattle.flit_recover.specs.TreeWalks.{reached_at_start}
use Rattle.flit_recover.specs.TreeFinds.{IsTreeReached}
use Rattle.flit_recover.specs.Damages.{IsRecovery}
use Rattle.flit_recover.proofs.SortedPairs.{entries_of_rising}
use Rattle.flit_recover.proofs.TreeLaws.{none_stands, stands-append}

-- two tests that agree at each element keep the same
pub filter-same : {X : Type 0} (p q : X → Bool) (xs : List X) → AllByRecursion (λ x. p x ≡ q x) xs → filter p xs ≡ filter q xs
filter-same p q [] h = refl
filter-same p q (x ∷ xs) h = ap (λ b. cond b (x ∷ filter p xs) (filter p xs)) h.0 ∙ ap (λ rest. cond (q x) (x ∷ rest) rest) (filter-same p q xs h.1)

-- of the rows from 6 on none is reached at the start
start_below : (rows : List ℕ) (row : ℕ) → 6 ≤ row → not (stands_in (reached_at_start ++ rows) row) ≡ not (stands_in rows row)
start_below rows row from =
    let none = none_stands row reached_at_start (omega arith, (omega arith, (omega arith, (omega arith, tt)))) in
    ap not (stands-append reached_at_start rows row ∙ ap (λ b. b || stands_in rows row) none)

module _ (l : Layout) (image : List ℕ) (kind : l.kind ≡ Tree_kind) (rows : List ℕ) (pairs : List (ℕ × ℕ)) (h : IsTreeReached l image rows pairs) where
  -- the pairs are the entries of the map
  pub tree_entries : finite.entries (tree_map l image h.tree) ≡ pairs
  tree_entries = entries_of_rising 0 (tree_pairs l image 4 h.tree) pairs
      (subst (IsPermutation (tree_pairs l image 4 h.tree)) (sym h.pairs_are) (IsPermutation-refl (tree_pairs l image 4 h.tree)))
      (subst (λ (ps : List (ℕ × ℕ)). IsRisingFrom 0 (map (λ p. p.0) ps)) (sym h.pairs_are) (tree_pairs_rise l image h.tree h.lawful))

  -- the rows that weren't reached are the free ones
  tree_free : filter (λ row. not (stands_in rows row)) (range_with_len (first_row_of l.kind) l.rows)
      ≡ filter (λ row. not (stands_in (rows_in_tree h.tree) row)) (range_with_len (first_row_of l.kind) l.rows)
  tree_free =
      let first : first_row_of l.kind ≡ 6 = ap first_row_of kind in
      ap (λ (rs : List ℕ). filter (λ row. not (stands_in rs row)) (range_with_len (first_row_of l.kind) l.rows)) h.rows_are
      ∙ filter-same (λ row. not (stands_in (reached_at_start ++ rows_in_tree h.tree) row)) (λ row. not (stands_in (rows_in_tree h.tree) row))
      (range_with_len (first_row_of l.kind) l.rows)
      (all-range (λ row. not (stands_in (reached_at_start ++ rows_in_tree h.tree) row) ≡ not (stands_in (rows_in_tree h.tree) row)) (first_row_of l.kind) l.rows
      (λ row from below. start_below (rows_in_tree h.tree) row (omega (arith, first, from))))

  tree_recovery : (keys values free : List ℕ) → keys ≡ map (λ p. p.0) pairs → values ≡ map (λ p. p.1) pairs →
      free ≡ filter (λ row. not (stands_in rows row)) (range_with_len (first_row_of l.kind) l.rows) → IsRecovery l image keys values free
  tree_recovery keys values free keys_are values_are free_are = record {
    map = tree_map l image h.tree;
    recovers = record {
      shape = Grown h.tree;
      lawful = (kind, h.lawful);
      map = refl;
      free_rows = free_are ∙ tree_free;
    };
    keys_are = keys_are ∙ sym (ap (map (λ e. e.0)) tree_entries);
    values_are = values_are ∙ sym (ap (map (λ e. e.1)) tree_entries);
  }

  pub if_tree_recovery : (r : Result Holding Damage) → IfOk r (λ x. x.keys.items ≡ map (λ p. p.0) pairs) →
      IfOk r (λ x. x.values.items ≡ map (λ p. p.1) pairs) → IfOk r (λ x. x.free.items
      ≡ filter (λ row. not (stands_in rows row)) (range_with_len (first_row_of l.kind) l.rows)) →
      IfOk r (λ x. IsRecovery l image x.keys.items x.values.items x.free.items)
  if_tree_recovery (Ok x) keys_are values_are free_are = tree_recovery x.keys.items x.values.items x.free.items keys_are values_are free_are
  if_tree_recovery (Err d) keys_are values_are free_are = tt
