-- The number of events of each name.
use Rattle.std.proofs.Common.{◌≡◌, ◌≢◌, ℕ, zero, suc, ◌+◌, ◌==◌, eqb, Bool, ◌++◌, count_by, replicate, refl, sym, ◌∙◌, ap, arith, ne_eqb}
use Rattle.std.proofs.lemmas.Bool.{eq-eqb}
use Rattle.std.proofs.lemmas.List.Elements.{filter-append}
use Rattle.flit_model.proofs.Counting.{count_by-cons_yes, count_by-cons_no, count_by-append}
use Rattle.flit_table.specs.declared.views.Made.{Made}
use Rattle.flit_table.specs.declared.views.View.{View}
use Rattle.flit_table.specs.Views.{events_of, name_of, made_by, both}

abbrev is_of : ℕ → ℕ → Bool
is_of name n = n == name

own_events : (name n : ℕ) → count_by (is_of name) (replicate n name) ≡ n
own_events name zero = refl
own_events name (suc n) = count_by-cons_yes (is_of name) name (replicate n name) (eq-eqb name name refl) ∙ ap suc (own_events name n)

other_events : (name other n : ℕ) → other ≢ name → count_by (is_of other) (replicate n name) ≡ 0
other_events name other zero apart = refl
other_events name other (suc n) apart = count_by-cons_no (is_of other) name (replicate n name) (ne_eqb name other (λ e. apart (sym e)))
    ∙ other_events name other n apart

module _ {S Op : Type 0} where
  pub events_rise : (v w : View S Op) (name made : ℕ) → w.events ≡ replicate made name ++ v.events → events_of name w ≡ made + events_of name v
  events_rise v w name made e =
      ap (count_by (is_of name)) e ∙ count_by-append (is_of name) (replicate made name) v.events ∙ ap (λ k. k + events_of name v) (own_events name made)

  pub events_stay : (v w : View S Op) (name made other : ℕ) → w.events ≡ replicate made name ++ v.events → other ≢ name → events_of other w ≡ events_of other v
  events_stay v w name made other e apart =
      let none = other_events name other made apart in
      let all = ap (count_by (is_of other)) e ∙ count_by-append (is_of other) (replicate made name) v.events in
      all ∙ ap (λ k. k + events_of other v) none ∙ nothing_more (events_of other v)
    where
      nothing_more : (k : ℕ) → 0 + k ≡ k
      nothing_more k = omega arith

  pub events_join : (v w : View S Op) (name : ℕ) → events_of name (both v w) ≡ events_of name v + events_of name w
  events_join v w name = count_by-append (is_of name) v.events w.events

  pub items_join : (v w : View S Op) (name : ℕ) → made_by name (both v w).mine ≡ made_by name v.mine ++ made_by name w.mine
  items_join v w name = filter-append (λ (x : Made). eqb (name_of x) name) v.mine w.mine
