-- What recovery finds is an opening: the pairs of a map's keys and values make the map again, and its keys rise.
use Rattle.std.proofs.Common.{◌≡◌, ℕ, T, ◌&&◌, Bool, true, false, List, [], ◌∷◌, length, map, nat_cmp, refl, sym, ap, ◌∙◌, subst, arith, zip, Ordering, Less, Equal, Greater}
use Rattle.std.specs.Ordering.{is_lt}
use Rattle.std.specs.Cmp.{nat_cmp_total}
use Rattle.std.specs.FinMap as fin
use Rattle.std.specs.FinMap.Entries.{below_all}
use Rattle.std.specs.List.{AllByRecursion}
use Rattle.std.specs.List.Sorted.{IsStrictlyIncreasing, IsStrictlySortedBy}
use Rattle.std.proofs.lemmas.Map.Keys.{IsStrictlyIncreasing-from_sorted}
use Rattle.flit_words.specs.declared.layouts.Layout.{Layout}
use Rattle.flit_words.specs.Layouts.{first_row_of}
use Rattle.flit_model.specs.Maps.{Map}
use Rattle.flit_model.specs.Lists.{IsRisingFrom}
use Rattle.flit_model.specs.Images.{Recovers, free_rows}
use Rattle.flit_model.proofs.Rising.{rising-lower}
use Rattle.flit_model.proofs.Shapes.{free_rows_rise}
use Rattle.flit_model.specs.declared.found.Recovered.{Recovered}
use Rattle.flit_model.specs.Recovery.{IsRecovery}
use Rattle.flit_structure.specs.Lawful.{IsOpening}
use Rattle.flit_sched.specs.Openings.{content_of, opening_at, IsBookOf}

zip_parts : (es : List (ℕ × ℕ)) → zip (map (λ e. e.0) es) (map (λ e. e.1) es) ≡ es
zip_parts [] = refl
zip_parts (e ∷ es) = ap (λ rest. e ∷ rest) (zip_parts es)

parts_long : (es : List (ℕ × ℕ)) → length (map (λ e. e.1) es) ≡ length (map (λ e. e.0) es)
parts_long [] = refl
parts_long (e ∷ es) = omega (arith, parts_long es)

-- a map is that of its entries
map_of_entries : (m : Map) → fin.from_entries {R = nat_cmp} (fin.entries m) ≡ m
map_of_entries m = fin.same_map nat_cmp_total fin.nat_cmp-IsAntisymmetric (fin.from_entries (fin.entries m)) m
    (λ key. fin.get-from_entries nat_cmp_total (fin.entries m) key ∙ sym (fin.get-entries m key))

map_of_parts : (m : Map) → content_of (fin.keys m) (fin.values m) ≡ m
map_of_parts m = ap (λ es. fin.from_entries {R = nat_cmp} es) (zip_parts (fin.entries m)) ∙ map_of_entries m

-- ---- the keys rise

is_less : (o : Ordering) → T (is_lt o) → o ≡ Less
is_less Less h = refl
is_less Equal h = absurd h
is_less Greater h = absurd h

first : (a b : Bool) → T (a && b) → T a
first true b h = tt
first false b h = absurd h

second : (a b : Bool) → T (a && b) → T b
second true b h = h
second false b h = absurd h

all_below : (x : ℕ) (es : List (ℕ × ℕ)) → T (below_all nat_cmp x es) → AllByRecursion (λ y. nat_cmp x y ≡ Less) (map (λ e. e.0) es)
all_below x [] h = tt
all_below x (e ∷ es) h = (
  is_less (nat_cmp x e.0) (first (is_lt (nat_cmp x e.0)) (below_all nat_cmp x es) h),
  all_below x es
      (second (is_lt (nat_cmp x e.0)) (below_all nat_cmp x es) h),
)

keys_sorted : (es : List (ℕ × ℕ)) → T (fin.is_sorted nat_cmp es) → IsStrictlySortedBy nat_cmp (map (λ e. e.0) es)
unfolding IsStrictlySortedBy
keys_sorted [] h = tt
keys_sorted (e ∷ es) h = (
  all_below e.0 es (first (below_all nat_cmp e.0 es) (fin.is_sorted nat_cmp es) h),
  keys_sorted es
      (second (below_all nat_cmp e.0 es) (fin.is_sorted nat_cmp es) h),
)

keys_rise : (m : Map) → IsStrictlyIncreasing (fin.keys m)
keys_rise m = IsStrictlyIncreasing-from_sorted (fin.keys m) (keys_sorted (fin.entries m) (fin.entries_sorted m))

-- ---- what recovery finds

module _ (l : Layout) (r : Recovered) (h : IsRecovery l r.image.words.items r.keys.items r.values.items r.free.items) where
  content_is : content_of r.keys.items r.values.items ≡ h.map
  content_is = ap (λ ks. content_of ks r.values.items) h.keys_are ∙ ap (λ vs. content_of (fin.keys h.map) vs) h.values_are ∙ map_of_parts h.map

  free_rise : IsRisingFrom 0 r.free.items
  free_rise = subst (IsRisingFrom 0) (sym h.recovers.free_rows) (rising-lower (first_row_of l.kind) 0 (free_rows l h.recovers.shape) (omega arith)
      (free_rows_rise l h.recovers.shape))

  pub found_opens : IsOpening l (opening_at r)
  found_opens = record {
    free = r.free.items;
    recovers = subst (λ m. Recovers l r.image.words.items m r.free.items) (sym content_is) h.recovers;
    rising = free_rise;
    among = λ row c. c;
  }

  pub found_book : IsBookOf r
  found_book = record {
    rising = subst IsStrictlyIncreasing (sym h.keys_are) (keys_rise h.map);
    same = ap length h.values_are ∙ parts_long (fin.entries h.map) ∙ sym (ap length h.keys_are);
  }
