-- What recovery answers, from the rows on the chains, the sorted pairs and the free rows; and for fresh words.
use Rattle.std.proofs.Common.{◌≡◌, ◌≢◌, ℕ, List, [], ◌∷◌, length, map, filter, not, nat_cmp, Result, Ok, Err, IfOk, refl, sym, ap, ◌∙◌, subst, arith}
use Rattle.std.specs.List.{range_with_len}
use Rattle.std.specs.FinMap as finite
use Rattle.std.specs.List.Sorted.{IsPermutation, IsNonDecreasingBy}
use Rattle.flit_words.specs.declared.layouts.Layout.{Layout}
use Rattle.flit_words.specs.declared.layouts.Kind.TheVariants.{Tree as Tree_kind}
use Rattle.flit_words.specs.Layouts.{Accepted, first_row_of}
use Rattle.flit_model.specs.States.{fresh_words}
use Rattle.flit_model.specs.Lists.{IsLawfulList, list_pairs, list_map, rows_on_chains}
use Rattle.flit_model.specs.Images.{Chains}
use Rattle.flit_model.proofs.Pairs.{list_pairs_once}
use Rattle.flit_model.proofs.FreshImages.{fresh_recovers}
use Rattle.flit_recover.specs.declared.found.Damage.{Damage}
use Rattle.flit_recover.specs.declared.recovery.Holding.{Holding}
use Rattle.flit_recover.specs.ListWalks.{stands_in}
use Rattle.flit_recover.specs.Damages.{IsRecovery}
use Rattle.flit_recover.proofs.SortedPairs.{entries_of_sorted}

module _ (l : Layout) (image : List ℕ) (chained : l.kind ≢ Tree_kind) (chain : ℕ → List ℕ) (lawful : IsLawfulList l image chain) where
  list_entries : (rows : List ℕ) (pairs sorted : List (ℕ × ℕ)) → rows ≡ rows_on_chains l chain → pairs ≡ list_pairs l image rows → IsPermutation pairs sorted →
      IsNonDecreasingBy (λ p. p.0) sorted → finite.entries (list_map l image chain) ≡ sorted
  list_entries rows pairs sorted rows_are pairs_are moved up =
      let same : pairs ≡ list_pairs l image (rows_on_chains l chain) = pairs_are ∙ ap (list_pairs l image) rows_are in
      entries_of_sorted (list_pairs l image (rows_on_chains l chain)) sorted (λ key. list_pairs_once l image chain key lawful)
      (subst (λ ps. IsPermutation ps sorted) same moved) up

  list_recovery : (rows : List ℕ) (pairs sorted : List (ℕ × ℕ)) (keys values free : List ℕ) → rows ≡ rows_on_chains l chain → pairs ≡ list_pairs l image rows →
      IsPermutation pairs sorted → IsNonDecreasingBy (λ p. p.0) sorted → keys ≡ map (λ p. p.0) sorted → values ≡ map (λ p. p.1) sorted →
      free ≡ filter (λ row. not (stands_in rows row)) (range_with_len (first_row_of l.kind) l.rows) → IsRecovery l image keys values free
  list_recovery rows pairs sorted keys values free rows_are pairs_are moved up keys_are values_are free_are =
      let entries = list_entries rows pairs sorted rows_are pairs_are moved up in
      record {
        map = list_map l image chain;
        recovers = record {
          shape = Chains chain;
          lawful = (chained, lawful);
          map = refl;
          free_rows = free_are ∙ ap (λ (rs : List ℕ). filter (λ row. not (stands_in rs row)) (range_with_len (first_row_of l.kind) l.rows)) rows_are;
        };
        keys_are = keys_are ∙ sym (ap (map (λ e. e.0)) entries);
        values_are = values_are ∙ sym (ap (map (λ e. e.1)) entries);
      }

  pub if_list_recovery : (r : Result Holding Damage) (rows : List ℕ) (pairs sorted : List (ℕ × ℕ)) → rows ≡ rows_on_chains l chain →
      pairs ≡ list_pairs l image rows → IsPermutation pairs sorted → IsNonDecreasingBy (λ p. p.0) sorted → IfOk r (λ x. x.keys.items ≡ map (λ p. p.0) sorted) →
      IfOk r (λ x. x.values.items ≡ map (λ p. p.1) sorted) → IfOk r (λ x. x.free.items
      ≡ filter (λ row. not (stands_in rows row)) (range_with_len (first_row_of l.kind) l.rows)) →
      IfOk r (λ x. IsRecovery l image x.keys.items x.values.items x.free.items)
  if_list_recovery (Ok x) rows pairs sorted rows_are pairs_are moved up keys_are values_are free_are = list_recovery rows pairs sorted x.keys.items
      x.values.items x.free.items rows_are pairs_are moved up keys_are values_are free_are
  if_list_recovery (Err d) rows pairs sorted rows_are pairs_are moved up keys_are values_are free_are = tt

-- ---- fresh words

no_entries : (es : List (ℕ × ℕ)) → length es ≡ 0 → es ≡ []
no_entries [] e = refl
no_entries (x ∷ es) e = absurd (omega arith)

empty_entries : finite.entries (finite.empty {X = ℕ} {R = nat_cmp}) ≡ []
empty_entries = no_entries (finite.entries finite.empty) (sym (finite.len-entries finite.empty) ∙ finite.len-empty nat_cmp ℕ)

pub fresh_recovery : (l : Layout) (keys values free : List ℕ) → Accepted l → keys ≡ [] → values ≡ [] → free ≡ range_with_len (first_row_of l.kind) l.rows →
    IsRecovery l (fresh_words l) keys values free
fresh_recovery l keys values free accepted none nothing all =
    rw (none, nothing, all) (record {
      map = finite.empty;
      recovers = fresh_recovers l accepted;
      keys_are = sym (ap (map (λ e. e.0)) empty_entries);
      values_are = sym (ap (map (λ e. e.1)) empty_entries);
    })
