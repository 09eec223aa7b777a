-- What a crash leaves of a run, after turns that are given to workers by their numbers.
use Rattle.std.specs.Prelude.{◌≡◌, ℕ, Bool, List, map}
use Rattle.std.specs.FinMap as map_of_pairs
use Rattle.flit_model.specs.Maps.{map_after_all}
use Rattle.flit_model.specs.declared.calls.Entry.{Entry}
use Rattle.flit_model.specs.declared.calls.Work.{Work}
use Rattle.flit_model.specs.declared.found.Recovered.{Recovered}
use Rattle.flit_structure.specs.Meanings.{Meaning}
use Rattle.flit_sched.specs.Runs.{Run}
use Rattle.flit_sched.specs.Openings.{content_of, opened_run}
use Rattle.flit_sched.specs.Views.{history_with}
use Rattle.flit_histories.specs.Following.{Given, Follows}
use Rattle.flit_headline.specs.Sentences.{KeepsHeadline}

module _ {Op : Type 0} (meaning : Meaning Op) where
  -- turns that were given to these workers, one after another, lead from one run to another
  abbrev pub AreTurnsOf : List ℕ → Run Op → Run Op → Type 0
  AreTurnsOf workers r next = (given : List Given) × (map (λ t. t.worker) given ≡ workers) × Follows meaning r given next

  -- the keys and values that recovery finds are those of the map after the history, and the history keeps the headline
  pub record LeavesHeadline (start : Recovered) (works : List Work) (workers : List ℕ) (picks : ℕ → Bool) (history : List Entry)
      (keys values : List ℕ) : Type 0 where
    pub given : List Given
    pub named : map (λ t. t.worker) given ≡ workers
    pub final : Run Op
    pub follows : Follows meaning (opened_run meaning start works) given final
    pub history_is : history ≡ history_with final picks
    pub headline : KeepsHeadline meaning (opened_run meaning start works) given final picks
    pub keys_are : keys ≡ map_of_pairs.keys (map_after_all (content_of start.keys.items start.values.items) history)
    pub values_are : values ≡ map_of_pairs.values (map_after_all (content_of start.keys.items start.values.items) history)
