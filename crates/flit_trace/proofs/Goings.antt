-- What is so where a line goes on.
use Rattle.std.proofs.Common.{◌≡◌, ℕ, ◌≤◌, ◌==◌, nat_le, Bool, true, false, ◌&&◌, if◌then◌else◌, inl, inr, refl, arith, sym, ◌∙◌}
use Rattle.std.proofs.lemmas.Bool.{leb-true}
use Rattle.std.proofs.lemmas.Bool.Decides.{eqb_tells}
use Rattle.flit_trace.specs.declared.faults.Bound.{Bound}
use Rattle.flit_trace.specs.declared.drafts.Draft.{Draft}
use Rattle.flit_trace.specs.Drafts.{Verdict, Goes, IsBad, IsPast, up_to, only_if}

pub goes_once : (d e : Draft) → Goes d ≡ Goes e → d ≡ e
goes_once d e same = cc

pub only_if-goes : (test : Bool) (v : Verdict) (e : Draft) → only_if test v ≡ Goes e → (test ≡ true) × (v ≡ Goes e)
only_if-goes true v e goes = (refl, goes)
only_if-goes false v e goes = absurd (cc)

-- a test and a draft where both hold
pub record Went (test : Bool) (d e : Draft) : Type 0 where
  pub holds : test ≡ true
  pub is : d ≡ e

pub went : (test : Bool) (d e : Draft) → only_if test (Goes d) ≡ Goes e → Went test d e
went test d e goes = let h = only_if-goes test (Goes d) e goes in record { holds = h.0; is = goes_once d e h.1 }

pub if_else-goes : (test : Bool) (d e : Draft) (bound : Bound) → (if test then Goes d else IsPast bound) ≡ Goes e → Went test d e
if_else-goes true d e bound goes = record { holds = refl; is = goes_once d e goes }
if_else-goes false d e bound goes = absurd (cc)

pub both : (a b : Bool) → (a && b) ≡ true → (a ≡ true) × (b ≡ true)
both true b holds = (refl, holds)
both false b holds = absurd (cc)

pub record IsUpTo (n limit : ℕ) (d e : Draft) : Type 0 where
  pub least : 1 ≤ n
  pub most : n ≤ limit
  pub is : d ≡ e

not_zero : (n : ℕ) (b : Bool) (v : Verdict) (e : Draft) → (n == 0) ≡ b → (if b then IsBad else v) ≡ Goes e → (1 ≤ n) × (v ≡ Goes e)
not_zero n true v e is goes = absurd (cc)
not_zero n false v e is goes =
    (elim (eqb_tells n 0) [ inl zero ↦ absurd (let both = sym zero.0 ∙ is in cc) | inr more ↦ omega (arith, more.1) ], goes)

pub up_to-goes : (n most : ℕ) (bound : Bound) (d e : Draft) → up_to n most bound d ≡ Goes e → IsUpTo n most d e
up_to-goes n most bound d e goes =
    let h = not_zero n (n == 0) (if nat_le n most then Goes d else IsPast bound) e refl goes in
    let w = if_else-goes (nat_le n most) d e bound h.1 in
    record { least = h.0; most = leb-true n most w.holds; is = w.is }
