-- The entries of a finite map and those of a tree map.
use Rattle.std.proofs.Common.{◌≡◌, ℕ, ◌+◌, ◌<◌, List, [], ◌∷◌, drop, length, slice_index_or, refl, sym, ap, ◌∙◌, nat_cmp, Ordering, arith}
use Rattle.std.specs.declared.cmp.Ordering.TheVariants.{Less, Equal, Greater}
use Rattle.std.specs.Ordering.{match_ordering}
use Rattle.std.specs.BTreeMap.{insert_entry}
use Rattle.std.specs.FinMap.{entries, from_entries, entries-insert, len-entries, len-empty, put, empty}
use Rattle.std.specs.FinMap.Entries.{by_order}
use Rattle.std.proofs.lemmas.Cmp.{nat_cmp_total}
use Rattle.std.proofs.lemmas.List.{drop_more}
use Rattle.std.proofs.Math.Seq.{drop-length}

by_order_is : {A : Type 0} (o : Ordering) (a b c d : A) → c ≡ d → match_ordering o a b c ≡ by_order o a b d
by_order_is Less a b c d e = refl
by_order_is Equal a b c d e = refl
by_order_is Greater a b c d e = e

-- an entry goes to the same place
pub insert_entry-put : {X : Type 0} (es : List (ℕ × X)) (k : ℕ) (v : X) → insert_entry nat_cmp es k v ≡ put nat_cmp k v es
insert_entry-put [] k v = refl
insert_entry-put (e ∷ es) k v = by_order_is (nat_cmp k e.0) _ _ _ _ (ap (λ xs. e ∷ xs) (insert_entry-put es k v))

no_length : {X : Type 0} (xs : List X) → length xs ≡ 0 → xs ≡ []
no_length [] e = refl
no_length (x ∷ xs) e = absurd (omega (arith, e))

entries-empty : {X : Type 0} → entries (empty {X = X} {R = nat_cmp}) ≡ []
entries-empty {X} = no_length _ (sym (len-entries (empty {X = X} {R = nat_cmp})) ∙ len-empty nat_cmp X)

-- a tree map that is made of the entries from the last to the first
pub entries_start : {X : Type 0} (es made : List (ℕ × X)) → made ≡ [] → made ≡ entries (from_entries {R = nat_cmp} (drop (length es) es))
entries_start es made e = e ∙ sym (ap (λ xs. entries (from_entries {R = nat_cmp} xs)) (drop-length es) ∙ entries-empty)

pub entries_step : {X : Type 0} (es made later : List (ℕ × X)) (i next : ℕ) (d : ℕ × X) → i < length es → next ≡ i + 1 →
    made ≡ entries (from_entries {R = nat_cmp} (drop next es)) → later ≡ insert_entry nat_cmp made (slice_index_or es i d).0 (slice_index_or es i d).1 →
    later ≡ entries (from_entries {R = nat_cmp} (drop i es))
entries_step es made later i next d below above so_far e =
    let entry = slice_index_or es i d in
    let rest = from_entries {R = nat_cmp} (drop next es) in
    let this : drop i es ≡ entry ∷ drop next es = drop_more es i d below ∙ ap (λ n. entry ∷ drop n es) (sym above) in
    e
    ∙ insert_entry-put made entry.0 entry.1
    ∙ ap (put nat_cmp entry.0 entry.1) so_far
    ∙ sym (entries-insert nat_cmp_total rest entry.0 entry.1)
    ∙ sym (ap (λ xs. entries (from_entries {R = nat_cmp} xs)) this)
