-- The parts of a link that is known, and what an insert and a remove make of a map.
use Rattle.std.proofs.Common.{◌≡◌, ℕ, Bool, true, Some, None, refl, ap, arith, inl, inr, if◌then◌else◌}
use Rattle.std.specs.FinMap as fin
use Rattle.std.specs.FinMap.{gets}
use Rattle.std.proofs.lemmas.Grind.{common_steps}
use Rattle.std.proofs.lemmas.Bool.Decides.{nat_tests}
use Rattle.std.proofs.lemmas.Bool.{cases_Bool}
use Rattle.flit_words.specs.Words.{value_of}
use Rattle.flit_words.specs.declared.links.Link.{Link}
use Rattle.flit_model.specs.Maps.{Map, ChangesKey}
use Rattle.flit_model.specs.declared.calls.Call.TheVariants.{Insert, Remove}
use Rattle.flit_list_heap.specs.Links.{link_held, row_of, is_marked, by_of}

pub row-held : (raw : ℕ) (k : Link) → link_held raw ≡ k → row_of raw ≡ k.row
unfolding row_of
row-held raw k e = ap (λ (z : Link). z.row) e

pub mark-held : (raw : ℕ) (k : Link) → link_held raw ≡ k → is_marked raw ≡ k.mark
unfolding is_marked
mark-held raw k e = ap (λ (z : Link). z.mark) e

pub by-held : (raw : ℕ) (k : Link) → link_held raw ≡ k → by_of raw ≡ k.by
unfolding by_of
by-held raw k e = ap (λ (z : Link). z.by) e

-- the value of a row, where rows have values
pub value_with : (b : Bool) (x y : ℕ) → (b ≡ true → x ≡ y) → (if b then value_of x else 0) ≡ (if b then value_of y else 0)
value_with b x y f = elim (cases_Bool b) [ inl e ↦ rw (e, f e) refl | inr e ↦ rw e refl ]

pub inserts : (m : Map) (k v : ℕ) → fin.get m k ≡ None → ChangesKey m (Insert k v) k (Some v)
inserts m k v none = record {
  says = grind (arith, common_steps, gets, nat_tests);
  has = grind (arith, common_steps, gets, nat_tests);
  others = λ q apart. grind (arith, common_steps, gets, nat_tests);
}

pub removes : (m : Map) (k v : ℕ) → fin.get m k ≡ Some v → ChangesKey m (Remove k) k None
removes m k v some = record {
  says = grind (arith, common_steps, gets, nat_tests);
  has = grind (arith, common_steps, gets, nat_tests);
  others = λ q apart. grind (arith, common_steps, gets, nat_tests);
}
