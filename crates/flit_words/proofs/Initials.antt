-- Fresh values fit a word.
use Rattle.std.proofs.Common.{◌≡◌, ℕ, ◌^◌, ◌<◌, nat_lt, true, slice_index, refl, arith, inl, inr, ltb-true}
use Rattle.std.proofs.lemmas.Bool.{cases_lt}
use Rattle.std.proofs.lemmas.List.{get_or_past}
use Rattle.std.proofs.lemmas.List.Elements.{All-get_or}
use Rattle.std.proofs.lemmas.List.Sums.{AllPass-from_list_all}
use Rattle.flit_words.specs.declared.layouts.Kind.{Kind}
use Rattle.flit_words.specs.declared.layouts.Kind.TheVariants.{List as List_kind, Hash, Tree}
use Rattle.flit_words.specs.Layouts.{initial_of, fixed_words}

fixed_words_fit : (w : ℕ) → slice_index fixed_words w < 2 ^ 32
fixed_words_fit w = elim (cases_lt w 15) [
  | inl below ↦ ltb-true (slice_index fixed_words w) (2 ^ 32) (All-get_or (λ n. nat_lt n (2 ^ 32) ≡ true) fixed_words w 0 below
      (AllPass-from_list_all (λ n. nat_lt n (2 ^ 32)) fixed_words refl))
  | inr past ↦ rw (get_or_past fixed_words w 0 past) (omega arith)
]

pub initial_of-fits : (k : Kind) (w : ℕ) → initial_of k w < 2 ^ 32
initial_of-fits List_kind w = omega arith
initial_of-fits Hash w = omega arith
initial_of-fits Tree w = fixed_words_fit w
