-- Others than the structure store a word of a foreign row: who was licensed is licensed still.
use Rattle.std.proofs.Common.{◌≡◌, ◌≢◌, ◌⊎◌, inl, inr, ⊎_elim, ℕ, ◌+◌, ◌≤◌, false, List, map, count_by, Option, slice_index, refl, sym, ◌∙◌, ap, arith}
use Rattle.std.specs.Prelude.{Contains}
use Rattle.flit_words.specs.declared.layouts.Layout.{Layout}
use Rattle.flit_words.specs.Words.{bare_of, is_tagged, version_of}
use Rattle.flit_model.specs.States.{word_at, shadow_at, IsPersistent}
use Rattle.flit_model.specs.Effects.{after}
use Rattle.flit_model.specs.declared.calls.Call.{Call}
use Rattle.flit_model.specs.declared.calls.Tally.{Tally}
use Rattle.flit_model.specs.declared.events.Event.TheVariants.{Store}
use Rattle.flit_place.specs.Tags.{Place}
use Rattle.flit_place.proofs.CoverSteps.{index-set}
use Rattle.flit_place.proofs.WordTags.{version-bare}
use Rattle.flit_structure.specs.Moments.{Moment, IsAmong, busy, made}
use Rattle.flit_crew.specs.Heaps.{heap_of}
use Rattle.flit_crew.specs.Crews.{Crew, Holds}
use Rattle.flit_crew.specs.Obligations.{Keeps}
use Rattle.flit_crew.proofs.Foreign.{below, foreign_stored}
use Rattle.flit_crew.proofs.WritingBack.{word_bare}
use Rattle.flit_crew_bounds.specs.BoundedMeanings.{bounds_by}
use Rattle.flit_crew_bounds.specs.Bounding.{Passes, Limits, KeepsLimits, IsLicensed}
use Rattle.flit_crew_bounds.specs.Left.{machine_left}
use Rattle.flit_crew_bounds.proofs.Others.{Placed, placed, still_within}

module _ {G Op : Type 0} (c : Crew G Op) (l : Layout) (p : Place) (free : List ℕ) (limits : Limits Op) (keeps : Keeps c l p free)
    (bounds : KeepsLimits c l p free limits) (M : Moment Op) (holds : Holds c l p free M)
    (w to : ℕ) (among : Contains holds.stranger.private w) (rests : IsPersistent M.state w (version_of (word_at M.state w)))
    (bare : is_tagged to ≡ false) (next : version_of to ≡ version_of (word_at M.state w) + 1) where
  abbrev N : Moment Op
  N = record M { state = after M.state (Store w to) }

  -- the word was at rest, and is ahead now
  passes : (given rows : List ℕ) (ghost now : G) → Passes (heap_of M given ghost) (heap_of N rows now)
  passes given rows ghost now = record {
    opening = refl;
    words = λ x. ⊎_elim (λ q. inr (at_rest x q.0, is_ahead x q.0 q.1)) (λ q. inl (word_bare N.state.words x ∙ ap bare_of q.1 ∙ sym (word_bare M.state.words x)))
        (index-set M.state.words w to x (below c l p free keeps M holds w to among rests bare next));
    made = λ P. same_le (count_by P (made M.progress));
  }
    where
      same_le : (n : ℕ) → n ≤ n
      same_le n = omega arith

      level : (a b : ℕ) → a ≤ b → a ≡ b + 1 → ⊥
      level a b i e = omega (arith, i, e)

      here : bare_of (word_at M.state w) ≡ shadow_at M.state w
      here = ⊎_elim (λ e. e) (λ e. absurd (level (version_of (word_at M.state w)) (version_of (shadow_at M.state w)) rests e))
          ((holds.sound.words w).close refl)

      at_rest : (x : ℕ) → x ≡ w → slice_index (map bare_of M.state.words) x ≡ slice_index M.state.shadows x
      at_rest x same = word_bare M.state.words x ∙ ap (λ y. bare_of (word_at M.state y)) same ∙ here ∙ ap (λ y. shadow_at M.state y) (sym same)

      is_ahead : (x : ℕ) → x ≡ w → slice_index N.state.words x ≡ to →
          version_of (slice_index (map bare_of N.state.words) x) ≡ version_of (slice_index M.state.shadows x) + 1
      is_ahead x same new = ap version_of (word_bare N.state.words x) ∙ version-bare (slice_index N.state.words x) ∙ ap version_of new ∙ next
          ∙ ap (λ n. n + 1) (sym (version-bare (word_at M.state w)) ∙ ap version_of here ∙ ap (λ y. version_of (shadow_at M.state y)) (sym same))

  pub licensed_beside : (name number : ℕ) (op : Op) (call : Call) (begun : Option ℕ) (start : Tally) (n : ℕ) →
      IsAmong M.workers (busy name number op call begun) → IsLicensed c l p free limits M op start n → IsLicensed c l p free limits N op start n
  licensed_beside name number op call begun start n is k =
      let B = bounds_by c l p free limits in
      let was : Placed c l p free B keeps name number op call begun M = placed c l p free B keeps name number op call begun M is holds in
      let now : Placed c l p free B keeps name number op call begun N = placed c l p free B keeps name number op call begun N is
      (foreign_stored c l p free keeps M holds w to among rests bare next) in
      record {
        searches = k.searches;
        events = λ below. still_within c l p free B keeps name number op call begun limits limits.bound bounds.tries M N was now passes
            (n + machine_left (c.anatomy.machine op)) (k.events below);
      }
