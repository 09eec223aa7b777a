-- All that a run promises, from what is shown of it apart.
use Rattle.std.proofs.Common.{◌≡◌, ℕ, ◌+◌, ◌<◌, ◌≤◌, Bool, List, length, refl, sym, subst, arith, Some, slice_get}
use Rattle.flit_model.specs.Maps.{map_after_all}
use Rattle.flit_model.specs.declared.calls.Call.{Call}
use Rattle.flit_model.specs.declared.calls.Outcome.TheVariants.{Replied}
use Rattle.flit_model.specs.declared.calls.Reply.{Reply}
use Rattle.flit_model.specs.declared.calls.Work.{Work}
use Rattle.flit_model.specs.declared.found.Recovered.{Recovered}
use Rattle.flit_structure.specs.Meanings.{Meaning}
use Rattle.flit_structure.specs.Lawful.{Lawful, IsBounded, HasMap}
use Rattle.flit_structure.proofs.Waiting.{unfinished, one_each, different_keys}
use Rattle.flit_sched.specs.Runs.{Part, Run, moment_of}
use Rattle.flit_sched.specs.Openings.{opened_run}
use Rattle.flit_histories.specs.Following.{Given, Follows}
use Rattle.flit_sched.specs.Views.{AreAheadOf, history_with}
use Rattle.flit_histories.specs.Calls.{IsCallIn}
use Rattle.flit_histories.specs.Promises.{IsAnswered, IsLeft, KeepsPromises}
use Rattle.flit_histories.specs.Reached.{Leads, here, IsStart}
use Rattle.flit_histories.proofs.PartLists.{AllFrom, all_from_at}
use Rattle.flit_histories.proofs.FirstRuns.{opened_sound}
use Rattle.flit_histories.proofs.SoundRuns.{IsSound}
use Rattle.flit_histories.proofs.ReachedRuns.{sound_led, history_recovers}
use Rattle.flit_histories.proofs.ToldCalls.{IsTold, IsToldPart}
use Rattle.flit_histories.proofs.ToldRuns.{opened_told, told_led, first_waits_all}
use Rattle.flit_histories.proofs.CallLaws.{replied_entries, stopped_entries, evict_outcome, all_of_calls}
use Rattle.flit_histories.proofs.OrderLaws.{ordered}
use Rattle.flit_histories.proofs.CallerOrder.{numbers_in_order}
use Rattle.flit_histories.proofs.LedParts.{follows_led, follows_content}
use Rattle.flit_histories.proofs.CountedRuns.{all_first, bounds_counted}
use Rattle.flit_histories.proofs.WholeImages.{image_whole, image_has_map}
use Rattle.flit_histories.proofs.PersistRuns.{persists_counted, loads_split}
use Rattle.flit_histories.proofs.QueuedRuns.{HasNoneQueued, queued_led, IsBoundedPart, bounded_led}

module _ {Op : Type 0} (meaning : Meaning Op) (l : Lawful meaning) (start : Recovered) (works : List Work) (h : IsStart meaning start works) (turns : List Given)
    (r : Run Op)
    (f : Follows meaning (opened_run meaning start works) turns r) where
  abbrev first : Run Op
  first = opened_run meaning start works

  abbrev first_sound : IsSound meaning first
  first_sound = opened_sound meaning l start works h

  abbrev first_told : IsTold first
  first_told = opened_told meaning l start works

  abbrev led : Leads meaning first r
  led = follows_led meaning first first r turns f here

  abbrev K : IsSound meaning r
  K = sound_led meaning l first r led first_sound

  abbrev T : IsTold r
  T = told_led meaning l first r led first_sound first_told

  pub none_begun : AllFrom (λ m (x : Part Op). x.worker.number ≡ 0) 1 first.parts
  none_begun = all_first meaning l (λ m x. x.worker.number ≡ 0) (λ m w. refl) 1 works

  module _ (worker : ℕ) (p : Part Op) (k : ℕ) (call : Call) (number : ℕ) (c : IsCallIn r worker p k call number) where
    named : 1 + length c.before ≡ worker
    named = let n = c.is.number in omega (arith, n)

    told_part : IsToldPart r.progress r.placed worker p
    told_part = subst (λ n. IsToldPart r.progress r.placed n p) named (all_from_at (IsToldPart r.progress r.placed) 1 c.before c.behind p
        (subst (AllFrom (IsToldPart r.progress r.placed) 1) c.is.is T.each))

    bounded : (reply : Reply) → slice_get p.outcomes k ≡ Some (Some (Replied reply)) → IsBounded meaning.layout meaning.room r.state r.progress.settled reply
    bounded reply is =
        all_from_at (IsBoundedPart meaning r) 1 c.before c.behind p
        (subst (AllFrom (IsBoundedPart meaning r) 1) c.is.is
        (bounded_led meaning l first r led first_sound first_told
        (all_first meaning l (IsBoundedPart meaning first) (λ m w i y at_i. absurd (first_waits_all w.items.items i y at_i)) 1 works)))
        k reply is

    answered : (picks : ℕ → Bool) → k < p.over → IsAnswered meaning r (history_with r picks) worker number p k call
    answered picks less =
        let o = (told_part).done k call less c.call_at.is in
        record {
          reply = o.0;
          outcome = o.1;
          entries = replied_entries meaning l r K T picks worker c.before p c.behind c.is k call number c.call_at o.0 o.1;
          bounded = bounded o.0 o.1;
        }

    is_left : (picks : ℕ → Bool) → p.over ≤ k → IsLeft meaning (history_with r picks) worker number p k call
    is_left picks le =
        let o = (told_part).waits k call le c.call_at.is in
        record { outcome = o; entries = stopped_entries meaning l r K T picks worker c.before p c.behind c.is k call number c.call_at o }

  are_ahead : AreAheadOf meaning r
  are_ahead = record {
    unfinished = unfinished meaning l (moment_of r K.words K.free) K.holds;
    one_each = one_each meaning l (moment_of r K.words K.free) K.holds;
    different_keys = different_keys meaning l (moment_of r K.words K.free) K.holds;
  }

  pub promised : (picks : ℕ → Bool) → KeepsPromises meaning first turns r picks
  promised picks = record {
    content = follows_content meaning first r turns f;
    legal = (history_recovers meaning l r K picks).legal;
    image = (history_recovers meaning l r K picks).content;
    found = λ i shape words. (
        let has = subst (λ ws. HasMap meaning.layout ws (map_after_all r.content (history_with r picks))) (sym words) (history_recovers meaning l r K picks).content in (
          image_whole meaning.layout i (map_after_all r.content (history_with r picks)) (l.sized (moment_of r K.words K.free) K.holds).accepted shape has,
          image_has_map meaning.layout i (map_after_all r.content (history_with r picks)) shape has,
        )
        );
    over = λ worker p k call number c less. answered worker p k call number c picks less;
    left = λ worker p k call number c le. is_left worker p k call number c picks le;
    evicts = λ worker k word a p b part is. evict_outcome meaning l r K T picks worker a p b part k word is;
    calls = all_of_calls meaning l r K T picks;
    ahead = are_ahead;
    callers = λ d e hd he same less. numbers_in_order meaning l first first_sound first_told none_begun r led picks d e hd he same less;
    order = λ q ts us d e to_q to_r over yet hd he. (
        let led_q = follows_led meaning first first q ts to_q here in
        ordered meaning l q (sound_led meaning l first q led_q first_sound) (told_led meaning l first q led_q first_sound first_told) r
        (follows_led meaning q q r us to_r here) picks d e over yet hd he
        );
    reads = K.right;
    bounds = λ worker c counts. bounds_counted meaning l start works turns r worker c h counts;
    queued = λ one worker a p b part. all_from_at (HasNoneQueued meaning) 1 a b p
        (subst (AllFrom (HasNoneQueued meaning) 1) part.is
        (queued_led meaning l one first r led first_sound (all_first meaning l (HasNoneQueued meaning) (λ m w. refl) 1 works)));
    persists = λ worker. persists_counted meaning l start works h turns r f worker;
    split = λ worker. loads_split meaning l start works h turns r f worker;
  }
