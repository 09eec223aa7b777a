-- An image with the numbers of a layout, and the words of a lawful image of it, is whole, and lawful for its own layout.
use Rattle.std.proofs.Common.{◌≡◌, ℕ, ◌≤◌, List, [], ◌∷◌, length, map, zip, nat_cmp, refl, sym, ◌∙◌, ap, subst, arith}
use Rattle.std.specs.Cmp.{nat_cmp_total}
use Rattle.std.specs.FinMap as fin
use Rattle.flit_words.specs.declared.layouts.Layout.{Layout}
use Rattle.flit_words.specs.Layouts.{Accepted, words_of, least_buckets, most_buckets}
use Rattle.flit_model.specs.declared.found.Image.{Image}
use Rattle.flit_model.specs.Images.{Shape, Chains, Grown, IsLawfulAs, Recovers}
use Rattle.flit_model.specs.Maps.{Map}
use Rattle.flit_model.specs.Recovery.{SameShape, IsImageOf, IsWhole, layout_of}
use Rattle.flit_structure.specs.Lawful.{HasMap}
use Rattle.flit_sched.proofs.ShapeLaws.{same_shape_recovery}

zip_parts : (es : List (ℕ × ℕ)) → zip (map (λ e. e.0) es) (map (λ e. e.1) es) ≡ es
zip_parts [] = refl
zip_parts (e ∷ es) = ap (λ rest. e ∷ rest) (zip_parts es)

-- a map is that of its keys and values
map_of_parts : (m : Map) → fin.from_entries {R = nat_cmp} (zip (fin.keys m) (fin.values m)) ≡ m
map_of_parts m = ap (λ es. fin.from_entries {R = nat_cmp} es) (zip_parts (fin.entries m))
    ∙ fin.same_map nat_cmp_total fin.nat_cmp-IsAntisymmetric (fin.from_entries (fin.entries m)) m
    (λ key. fin.get-from_entries nat_cmp_total (fin.entries m) key ∙ sym (fin.get-entries m key))

same_parts : (m n : Map) → fin.keys m ≡ fin.keys n → fin.values m ≡ fin.values n → m ≡ n
same_parts m n h k =
    sym (map_of_parts m) ∙ ap (λ ks. fin.from_entries {R = nat_cmp} (zip ks (fin.values m))) h
    ∙ ap (λ vs. fin.from_entries {R = nat_cmp} (zip (fin.keys n) vs)) k ∙ map_of_parts n

turned_round : (l k : Layout) → SameShape l k → SameShape k l
turned_round l k h = record { kind = sym h.kind; buckets = sym h.buckets; rows = sym h.rows; values = sym h.values }

lawful_long : (l : Layout) (image : List ℕ) (s : Shape) → IsLawfulAs l image s → length image ≡ words_of l
lawful_long l image (Chains chain) h = h.1.whole
lawful_long l image (Grown t) h = h.1.whole

accepted_image : (l : Layout) (i : Image) → IsImageOf l i → Accepted l → Accepted (layout_of i)
accepted_image l i same a = record {
  least_bucket = subst (λ k. least_buckets k ≤ i.buckets) (sym same.kind) (subst (λ n. least_buckets l.kind ≤ n) (sym same.buckets) a.least_bucket);
  most_bucket = subst (λ k. i.buckets ≤ most_buckets k) (sym same.kind) (subst (λ n. n ≤ most_buckets l.kind) (sym same.buckets) a.most_bucket);
  least_row = (let e : i.rows ≡ l.rows = same.rows in let h = a.least_row in omega (arith, e, h));
  most_row = (let e : i.rows ≡ l.rows = same.rows in let h = a.most_row in omega (arith, e, h));
  most_slot = omega arith;
  least_worker = omega arith;
  most_worker = omega arith;
  least_limit = omega arith;
  most_limit = omega arith;
}

pub image_has_map : (l : Layout) (i : Image) (m : Map) → IsImageOf l i → HasMap l i.words.items m → HasMap (layout_of i) i.words.items m
image_has_map l i m same h =
    let own = same_shape_recovery l (layout_of i) i.words.items (fin.keys m) (fin.values m) h.0 (turned_round (layout_of i) l same)
    (record { map = m; recovers = h.1; keys_are = refl; values_are = refl }) in
    (h.0, subst (λ n. Recovers (layout_of i) i.words.items n h.0) (same_parts own.map m (sym own.keys_are) (sym own.values_are)) own.recovers)

pub image_whole : (l : Layout) (i : Image) (m : Map) → Accepted l → IsImageOf l i → HasMap l i.words.items m → IsWhole i
image_whole l i m a same h =
    let k = image_has_map l i m same h in
    record { accepted = accepted_image l i same a; words = lawful_long (layout_of i) i.words.items k.1.shape k.1.lawful }
