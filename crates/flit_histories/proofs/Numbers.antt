-- How the calls among some items are counted.
use Rattle.std.proofs.Common.{◌≡◌, ℕ, zero, suc, ◌+◌, ◌<◌, ◌≤◌, List, [], ◌∷◌, length, sym, ◌∙◌, ap, arith, Some, take, slice_get}
use Rattle.flit_model.specs.declared.calls.Call.{Call}
use Rattle.flit_model.specs.declared.calls.Item.{Item}
use Rattle.flit_model.specs.declared.calls.Item.TheVariants.{Call as Call_item, Evict as Evict_item}
use Rattle.flit_histories.specs.Calls.{one_if_call, calls_in, IsCallAt}

calls_up : (items : List Item) (k : ℕ) (i : Item) → slice_get items k ≡ Some i → calls_in (take (suc k) items) ≡ calls_in (take k items) + one_if_call i
calls_up [] k i e = absurd (cc)
calls_up (j ∷ is) zero i e = let same : j ≡ i = cc in let q = ap one_if_call same in omega (arith, q)
calls_up (j ∷ is) (suc k) i e = let r = calls_up is k i e in omega (arith, r)

pub calls_next : (items : List Item) (k : ℕ) (i : Item) → slice_get items k ≡ Some i → calls_in (take (k + 1) items) ≡ calls_in (take k items) + one_if_call i
calls_next items k i e = let same : k + 1 ≡ suc k = omega arith in ap (λ n. calls_in (take n items)) same ∙ calls_up items k i e

pub calls_rise : (items : List Item) (j k : ℕ) → j ≤ k → calls_in (take j items) ≤ calls_in (take k items)
calls_rise items zero k h = omega arith
calls_rise items (suc j) zero h = absurd (omega arith)
calls_rise [] (suc j) (suc k) h = omega arith
calls_rise (i ∷ is) (suc j) (suc k) h = let r = calls_rise is j k (omega arith) in omega (arith, r)

one_at_most : (i : Item) → one_if_call i ≤ 1
one_at_most (Call_item call) = omega arith
one_at_most (Evict_item word) = omega arith

pub calls_short : (items : List Item) (k : ℕ) → calls_in (take k items) ≤ length items
calls_short items zero = omega arith
calls_short [] (suc k) = omega arith
calls_short (i ∷ is) (suc k) = let r = calls_short is k in let o = one_at_most i in omega (arith, r, o)

-- a call's number is one more than the calls before it
pub number_at : (items : List Item) (k : ℕ) (call : Call) (n : ℕ) → IsCallAt items k call n → n ≡ calls_in (take k items) + 1
number_at items k call n h = h.counts ∙ calls_next items k (Call_item call) h.is

pub call_at : (items : List Item) (k : ℕ) (call : Call) (n : ℕ) → slice_get items k ≡ Some (Call_item call) → n ≡ calls_in (take k items) + 1 →
    IsCallAt items k call n
call_at items k call n is e = record { is = is; counts = e ∙ sym (calls_next items k (Call_item call) is) }

-- a later place has more calls before it than a call that stands before it
pub calls_past : (items : List Item) (k j : ℕ) (call : Call) → slice_get items k ≡ Some (Call_item call) → k < j →
    calls_in (take k items) + 1 ≤ calls_in (take j items)
calls_past items k j call is h =
    let next = calls_next items k (Call_item call) is in
    let rise = calls_rise items (k + 1) j (omega arith) in
    omega (arith, next, rise)
