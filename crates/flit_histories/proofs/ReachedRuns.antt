-- A run that is reached is sound; so its history is legal.
use Rattle.std.proofs.Common.{◌≡◌, ℕ, Bool, List, ◌++◌, sym, ◌∙◌, ap, subst}
use Rattle.std.specs.List.{AllByRecursion}
use Rattle.flit_model.specs.Maps.{Map, IsLegal, map_after_all}
use Rattle.flit_model.specs.Histories.{history_of, IsRightAt}
use Rattle.flit_model.specs.Settling.{taken_updates}
use Rattle.flit_model.specs.CrashImages.{crash_image}
use Rattle.flit_model.specs.declared.calls.Entry.{Entry}
use Rattle.flit_model.specs.declared.calls.Placed.{Placed}
use Rattle.flit_model.specs.declared.events.Event.{Event}
use Rattle.flit_model.proofs.Legal.{legal-append, legal_front, legal_behind, map_after_all-append}
use Rattle.flit_model.proofs.HistoryLaws.{all_weaker, legal_from, map_from, right_from_start}
use Rattle.flit_structure.specs.Meanings.{Meaning}
use Rattle.flit_structure.specs.Lawful.{Lawful, IsRecoverable, HasMap}
use Rattle.flit_structure.proofs.Waiting.{shadows_recover}
use Rattle.flit_sched.specs.Runs.{Run, moment_of}
use Rattle.flit_sched.specs.Openings.{opened_run}
use Rattle.flit_sched.specs.Turns.{Turned}
use Rattle.flit_sched.specs.Views.{IsAtMoment, history_with}
use Rattle.flit_histories.specs.Reached.{Leads, here, turn, IsReached}
use Rattle.flit_histories.proofs.TurnedRuns.{turned_is, makes}
use Rattle.flit_histories.proofs.SoundRuns.{IsSound, sound_after}
use Rattle.flit_histories.proofs.FirstRuns.{opened_sound}

module _ {Op : Type 0} (meaning : Meaning Op) (l : Lawful meaning) where
  pub sound_turned : (r next : Run Op) (worker : ℕ) (e : Event) (told : ℕ) → Turned meaning r worker e told next → IsSound meaning r → IsSound meaning next
  sound_turned r next worker e told t K =
      subst (IsSound meaning) (sym (turned_is meaning r next worker e told t))
      (sound_after meaning l r t.before t.part t.behind e t.reads (makes meaning r next worker e told t) K)

  pub sound_led : (r next : Run Op) → Leads meaning r next → IsSound meaning r → IsSound meaning next
  sound_led r next here K = K
  sound_led r next (turn {q = q} {worker = worker} {e = e} {told = told} h t) K = sound_turned q next worker e told t (sound_led r q h K)

  pub sound : (r : Run Op) → IsReached meaning r → IsSound meaning r
  sound r h = sound_led (opened_run meaning h.start h.works) r h.leads (opened_sound meaning l h.start h.works h.starts)

  -- the history of a legal list of updates, with those that are taken behind it
  history_legal : (m : Map) (settled taken : List Entry) (reads : List Placed) → IsLegal m (settled ++ taken) → AllByRecursion (IsRightAt m settled) reads →
      IsLegal m (history_of settled reads ++ taken)
  history_legal m settled taken reads legal right =
      let placed = all_weaker _ _ reads (right_from_start m settled) right in
      legal-append m (history_of settled reads) taken (legal_from m 0 settled reads (legal_front m settled taken legal) placed)
      (subst (λ n. IsLegal n taken) (sym (map_from m 0 settled reads placed)) (legal_behind m settled taken legal))

  history_map : (m : Map) (settled taken : List Entry) (reads : List Placed) → AllByRecursion (IsRightAt m settled) reads →
      map_after_all m (history_of settled reads ++ taken) ≡ map_after_all m (settled ++ taken)
  history_map m settled taken reads right =
      map_after_all-append m (history_of settled reads) taken
      ∙ ap (λ n. map_after_all n taken) (map_from m 0 settled reads (all_weaker _ _ reads (right_from_start m settled) right))
      ∙ sym (map_after_all-append m settled taken)

  module _ (r : Run Op) (K : IsSound meaning r) where
    pub at_moment : IsAtMoment meaning r
    at_moment = record { words = K.words; free = K.free; holds = K.holds }

    pub settled_legal : IsLegal r.content r.progress.settled
    settled_legal = (shadows_recover meaning l (moment_of r K.words K.free) K.holds).legal

    pub history_recovers : (picks : ℕ → Bool) → IsRecoverable meaning.layout r.content (crash_image picks r.state) (history_with r picks)
    history_recovers picks =
        let c = l.crash (moment_of r K.words K.free) picks K.holds in
        record {
          legal = history_legal r.content r.progress.settled (taken_updates r.progress picks) r.placed c.legal K.right;
          content = subst (HasMap meaning.layout (crash_image picks r.state))
              (sym (history_map r.content r.progress.settled (taken_updates r.progress picks) r.placed K.right)) c.content;
        }
