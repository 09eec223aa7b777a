-- A run that is opened is sound.
use Rattle.std.proofs.Common.{ℕ, ◌+◌, ◌<◌, ◌≤◌, List, [], ◌∷◌, length, refl, arith, None}
use Rattle.std.specs.List.{AllByRecursion}
use Rattle.flit_model.specs.declared.calls.Work.{Work}
use Rattle.flit_model.specs.declared.found.Recovered.{Recovered}
use Rattle.flit_structure.specs.Moments.{Moment, IsNew, with_workers, hired, first_moment}
use Rattle.flit_structure.specs.Meanings.{Meaning, hiring}
use Rattle.flit_structure.specs.Lawful.{Lawful}
use Rattle.flit_sched.specs.Runs.{workers_of}
use Rattle.flit_sched.specs.Openings.{opening_at, IsRightItem, first_parts, item_count, opened_run}
use Rattle.flit_histories.specs.Reached.{IsStart}
use Rattle.flit_histories.proofs.PartLists.{AllFrom}
use Rattle.flit_histories.proofs.SoundRuns.{IsSound, IsSoundPart}

module _ {Op : Type 0} (meaning : Meaning Op) (l : Lawful meaning) where
  above : (name k : ℕ) (ws : List Work) → name < k → IsNew {Op = Op} name (workers_of (first_parts k ws))
  above name k [] h = tt
  above name k (w ∷ ws) h = ((λ e. omega (arith, e)), above name (k + 1) ws (omega arith))

  hired_holds : (M : Moment Op) (name : ℕ) (ws : List Work) → 1 ≤ name → name + length ws ≤ meaning.layout.workers + 1 → meaning.holds (with_workers M []) →
      meaning.holds (with_workers M (workers_of (first_parts name ws)))
  hired_holds M name [] low high h = h
  hired_holds M name (w ∷ ws) low high h =
      l.keeps None (with_workers M (workers_of (first_parts (name + 1) ws))) (with_workers M (hired name ∷ workers_of (first_parts (name + 1) ws)))
      (hiring (with_workers M (workers_of (first_parts (name + 1) ws))) name low (omega arith) (above name (name + 1) ws (omega arith)))
      (hired_holds M (name + 1) ws (omega arith) (omega arith) h)

  first_sound : (name : ℕ) (ws : List Work) → item_count ws ≤ 1048576 → AllByRecursion (λ w. AllByRecursion (IsRightItem meaning.layout) w.items.items) ws →
      AllFrom (IsSoundPart meaning) name (first_parts {Op = Op} name ws)
  first_sound name [] most right = tt
  first_sound name (w ∷ ws) most right = (
    record { named = refl; items = right.0; most = omega arith; fits = omega arith; number = omega arith; at_work = tt },
    first_sound (name + 1) ws (omega arith) right.1,
  )

  pub opened_sound : (start : Recovered) (works : List Work) → IsStart meaning start works → IsSound meaning (opened_run meaning start works)
  opened_sound start works h = record {
    words = start.image.words.items;
    free = start.free.items;
    holds = (
        let n = h.right.workers in
        hired_holds (first_moment meaning.layout (opening_at start)) 1 works (omega arith) (omega (arith, n)) (l.opens (opening_at start) h.opens).2
        );
    each = first_sound 1 works h.right.most h.right.items;
    right = tt;
  }
