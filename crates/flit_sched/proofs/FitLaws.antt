-- A history is legal where its updates are and each read is right at its position; and it has the updates' map.
use Rattle.std.proofs.Common.{◌≡◌, ℕ, ◌++◌, Bool, List, Option, sym, ◌∙◌, ap, subst}
use Rattle.std.specs.List.{AllByRecursion}
use Rattle.flit_model.specs.Maps.{Map, IsLegal, map_after_all}
use Rattle.flit_model.specs.Histories.{history_of, IsRightAt}
use Rattle.flit_model.specs.declared.calls.Entry.{Entry}
use Rattle.flit_model.specs.declared.calls.Placed.{Placed}
use Rattle.flit_model.specs.CrashImages.{crash_image}
use Rattle.flit_model.specs.Settling.{taken_updates}
use Rattle.flit_model.specs.States.{State}
use Rattle.flit_structure.specs.Meanings.{Meaning}
use Rattle.flit_structure.specs.Lawful.{Lawful, IsRecoverable, HasMap}
use Rattle.flit_structure.specs.declared.workers.Worker.{Worker}
use Rattle.flit_sched.specs.declared.players.Player.{Player}
use Rattle.flit_sched.specs.Runs.{moment_of}
use Rattle.flit_sched.specs.Kept.{IsKept, run_of, progress_of}
use Rattle.flit_model.proofs.Legal.{legal-append, legal_front, legal_behind, map_after_all-append}
use Rattle.flit_model.proofs.HistoryLaws.{all_weaker, legal_from, map_from, right_from_start}

pub history_legal : (m : Map) (settled taken : List Entry) (reads : List Placed) → IsLegal m (settled ++ taken) → AllByRecursion (IsRightAt m settled) reads →
    IsLegal m (history_of settled reads ++ taken)
history_legal m settled taken reads legal right =
    let at = all_weaker _ _ reads (right_from_start m settled) right in
    legal-append m (history_of settled reads) taken (legal_from m 0 settled reads (legal_front m settled taken legal) at)
    (subst (λ n. IsLegal n taken) (sym (map_from m 0 settled reads at)) (legal_behind m settled taken legal))

pub history_map : (m : Map) (settled taken : List Entry) (reads : List Placed) → AllByRecursion (IsRightAt m settled) reads →
    map_after_all m (history_of settled reads ++ taken) ≡ map_after_all m (settled ++ taken)
history_map m settled taken reads right =
    map_after_all-append m (history_of settled reads) taken
    ∙ ap (λ n. map_after_all n taken) (map_from m 0 settled reads (all_weaker _ _ reads (right_from_start m settled) right))
    ∙ sym (map_after_all-append m settled taken)

-- the history of a run with the updates that a crash image takes: it is legal, and its map is found in this image
pub record FitsImage {Op : Type 0} (meaning : Meaning Op) (content : Map) (m : State) (picks : ℕ → Bool) (items : List Entry) : Type 0 where
  pub legal : IsLegal content items
  pub recovers : HasMap meaning.layout (crash_image picks m) (map_after_all content items)

pub history_fits : {Op : Type 0} (meaning : Meaning Op) (l : Lawful meaning) (content : Map) (m : State) (settled : List Entry) (placed : List Placed)
    (players : List (Player (Worker Op))) (keys : List ℕ) (values : List (Option ℕ)) (entries reads : ℕ) →
    IsKept meaning (run_of content m settled placed players) players keys values entries reads →
    (picks : ℕ → Bool) (xs : List Entry) (ys : List Placed) (ps : List (Player (Worker Op))) → xs ≡ settled → ys ≡ placed → ps ≡ players →
    (items : List Entry) → items ≡ history_of xs ys ++ taken_updates (progress_of xs ps) picks → FitsImage meaning content m picks items
history_fits meaning l content m settled placed players keys values entries reads K picks xs ys ps a b c items is = record {
  legal = subst (IsLegal content) (sym all) (history_legal content settled (taken_updates (progress_of settled players) picks) placed crash.legal K.right);
  recovers =
      subst (HasMap meaning.layout (crash_image picks m)) (sym (history_map content settled (taken_updates (progress_of settled players) picks) placed K.right)
      ∙ ap (map_after_all content) (sym all))
      crash.content;
}
  where
    all : items ≡ history_of settled placed ++ taken_updates (progress_of settled players) picks
    all =
        is
        ∙ ap (λ x. history_of x ys ++ taken_updates (progress_of x ps) picks) a
        ∙ ap (λ x. history_of settled x ++ taken_updates (progress_of settled ps) picks) b
        ∙ ap (λ x. history_of settled placed ++ taken_updates (progress_of settled x) picks) c

    crash : IsRecoverable meaning.layout content (crash_image picks m) (settled ++ taken_updates (progress_of settled players) picks)
    crash = l.crash (moment_of (run_of content m settled placed players) K.words K.free) picks K.holds
