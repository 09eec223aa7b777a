-- What is so of each reading of lines.
use Rattle.std.proofs.Common.{◌≡◌, ℕ, suc, true, false, List, [], ◌∷◌, length, inl, inr, subst, sym, refl, lit≤}
use Rattle.flit_words.specs.Layouts.{words_of}
use Rattle.flit_trace.specs.declared.stages.Stage.{Stage}
use Rattle.flit_trace.specs.declared.stages.Stage.TheVariants.{Ended}
use Rattle.flit_trace.specs.Drafts.{blank, is_in_block, is_ended, IsSound}
use Rattle.flit_trace.specs.Grammar.{Reading, beginning, IsLine, IsReadFrom}
use Rattle.flit_trace.proofs.Soundness.{goes-sound}
use Rattle.flit_trace.specs.Counts.{IsCounted}
use Rattle.flit_trace.proofs.Counting.{goes-counts}
use Rattle.flit_trace.proofs.StartBlocks.{IsStartSoFar, goes-start}

pub record IsGood (r : Reading) : Type 0 where
  pub sound : IsSound r.draft
  pub counted : IsCounted r.draft r.told.items
  pub start : IsStartSoFar r.draft r.told.words

-- the least and greatest numbers that a draft begins with are within the limits
pub blank_sound : IsSound blank
blank_sound = record {
  accepted = record {
    least_bucket = lit≤ tt;
    most_bucket = lit≤ tt;
    least_row = lit≤ tt;
    most_row = lit≤ tt;
    most_slot = lit≤ tt;
    least_worker = lit≤ tt;
    most_worker = lit≤ tt;
    least_limit = lit≤ tt;
    most_limit = lit≤ tt;
  };
  place = tt;
  lines = lit≤ tt;
  calls = lit≤ tt;
  told = lit≤ tt;
}

pub beginning_good : IsGood beginning
beginning_good = record {
  sound = blank_sound;
  counted = record { lines = refl; calls = refl };
  start = record {
    early = λ _. refl;
    none = λ _. (refl, refl);
    valued = λ h. absurd (cc);
    within = λ h. absurd (cc);
    whole = λ h _. absurd (cc);
  };
}

pub line_good : (n : ℕ) (r : Reading) (line : List ℕ) (q : Reading) → IsLine n r line q → IsGood r → IsGood q
line_good n r line q step g =
    elim step.1 [
      | inl silent ↦ subst IsGood (sym silent.1) g
      | inr says ↦ record {
        sound = goes-sound r.draft q.draft says.sentence g.sound says.goes;
        counted = rw says.told (goes-counts n r.draft q.draft says.sentence r.told g.counted says.goes);
        start = rw says.told (goes-start n r.draft q.draft says.sentence r.told g.start says.goes);
      }
    ]

pub read_good : (n : ℕ) (r : Reading) (lines : List (List ℕ)) (q : Reading) → IsReadFrom n r lines q → IsGood r → IsGood q
read_good n r [] q read g = subst IsGood (sym read) g
read_good n r (line ∷ lines) q read g = read_good (suc n) read.0 lines q read.2 (line_good n r line read.0 read.1 g)

ended_out : (s : Stage) → is_ended s ≡ true → is_in_block s ≡ false
ended_out Ended h = refl
ended_out _ h = absurd (cc)

-- behind `end` a start image is whole
pub ended_whole : (r : Reading) → IsGood r → is_ended r.draft.stage ≡ true → r.draft.has_start ≡ true → length r.told.words ≡ words_of r.draft.layout
ended_whole r g ended has = g.start.whole has (ended_out r.draft.stage ended)
