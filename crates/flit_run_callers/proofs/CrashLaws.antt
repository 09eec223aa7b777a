-- Turns given one after another; and what recovery of the image that a crash leaves finds.
use Rattle.std.proofs.Common.{◌≡◌, ℕ, suc, ◌+◌, ◌≤◌, Bool, List, [], ◌∷◌, ◌++◌, length, refl, sym, ◌∙◌, ap, subst}
use Rattle.std.proofs.lemmas.List.{map-append}
use Rattle.std.specs.List.{AllByRecursion}
use Rattle.std.specs.FinMap as fin
use Rattle.flit_model.specs.CrashImages.{crash_image}
use Rattle.flit_model.specs.Maps.{Map, map_after_all}
use Rattle.flit_model.specs.declared.calls.Entry.{Entry}
use Rattle.flit_model.specs.declared.calls.Work.{Work}
use Rattle.flit_model.specs.declared.found.Image.{Image}
use Rattle.flit_model.specs.declared.found.Recovered.{Recovered}
use Rattle.flit_model.specs.Recovery.{IsImageOf, IsWhole}
use Rattle.flit_structure.specs.Meanings.{Meaning}
use Rattle.flit_sched.specs.declared.runs.Turn.{Turn}
use Rattle.flit_sched.specs.Runs.{Run}
use Rattle.flit_sched.specs.Openings.{content_of, first_parts, opened_run}
use Rattle.flit_sched.specs.Turns.{IsTurn}
use Rattle.flit_sched.specs.Views.{HasWorker, history_with}
use Rattle.flit_structure.proofs.Names.{all_map}
use Rattle.flit_histories.specs.Following.{Follows}
use Rattle.flit_histories.proofs.LedParts.{follows_joined, follows_long}
use Rattle.flit_histories.specs.Reached.{IsStart}
use Rattle.flit_lawful_images.specs.Maps.{IsMapOf, HasPairsOf}
use Rattle.flit_headline.specs.Sentences.{KeepsHeadline, HeadlineIsKept}
use Rattle.flit_run_callers.specs.Crashes.{AreTurnsOf, LeavesHeadline}

module _ {Op : Type 0} (meaning : Meaning Op) where
  pub one_turn_more : (r n o : Run Op) (workers : List ℕ) (w : ℕ) (t : Turn) → AreTurnsOf meaning workers r n → IsTurn meaning n w t o →
      AreTurnsOf meaning (workers ++ w ∷ []) r o
  one_turn_more r n o workers w t h k = (
    h.0 ++ record { worker = w; turn = t } ∷ [],
    map-append (λ x. x.worker) h.0 (record { worker = w; turn = t } ∷ []) ∙ ap (λ ws. ws ++ w ∷ []) h.1,
    follows_joined meaning r n o h.0 (record { worker = w; turn = t } ∷ []) h.2 (o, k, refl),
  )

  pub turns_long : (r n : Run Op) (workers : List ℕ) → AreTurnsOf meaning workers r n → length n.parts ≡ length r.parts
  turns_long r n workers h = follows_long meaning r n h.0 h.2

  parts_long : (name : ℕ) (works : List Work) → length (first_parts {Op = Op} name works) ≡ length works
  parts_long name [] = refl
  parts_long name (w ∷ ws) = ap suc (parts_long (name + 1) ws)

  pub workers_within : (start : Recovered) (works : List Work) (workers : List ℕ) (r : Run Op) → r ≡ opened_run meaning start works →
      AllByRecursion (λ w. (1 ≤ w) × (w ≤ length works)) workers → AllByRecursion (HasWorker r) workers
  workers_within start works workers r is h =
      subst (λ q. AllByRecursion (HasWorker q) workers) (sym is)
      (all_map (λ w. (1 ≤ w) × (w ≤ length works)) (HasWorker (opened_run meaning start works))
      (λ w k. (k.0, subst (λ n. w ≤ n) (sym (parts_long 1 works)) k.1)) workers h)

-- what the headline says of the run that turns lead to, and of what recovery of its image finds
module _ {Op : Type 0} (meaning : Meaning Op) (kept : HeadlineIsKept meaning) (start : Recovered) (works : List Work) (h : IsStart meaning start works)
    (workers : List ℕ) (first r : Run Op) (is : first ≡ opened_run meaning start works) (t : AreTurnsOf meaning workers first r) (picks : ℕ → Bool) where
  follows : Follows meaning (opened_run meaning start works) t.0 r
  follows = subst (λ f. Follows meaning f t.0 r) is t.2

  headline : KeepsHeadline meaning (opened_run meaning start works) t.0 r picks
  headline = kept start works t.0 r picks h follows

  pub whole_mapped : (i : Image) → IsImageOf meaning.layout i → i.words.items ≡ crash_image picks r.state → IsWhole i × ((m : Map) × IsMapOf i m)
  whole_mapped i shape words =
      let k = (headline).map.image i shape words in
      (k.0, (map_after_all (content_of start.keys.items start.values.items) (history_with r picks), k.1))

  pub leaves : (history : List Entry) → history ≡ history_with r picks → (i : Image) → IsImageOf meaning.layout i →
      i.words.items ≡ crash_image picks r.state → (found : Recovered) → ((m : Map) → IsMapOf i m → HasPairsOf m found) →
      LeavesHeadline meaning start works workers picks history found.keys.items found.values.items
  leaves history same i shape words found pairs =
      let content = content_of start.keys.items start.values.items in
      let k = (headline).map.image i shape words in
      let both = pairs (map_after_all content (history_with r picks)) k.1 in
      record {
        given = t.0;
        named = t.1;
        final = r;
        follows = follows;
        history_is = same;
        headline = headline;
        keys_are = both.keys ∙ ap (λ x. fin.keys (map_after_all content x)) (sym same);
        values_are = both.values ∙ ap (λ x. fin.values (map_after_all content x)) (sym same);
      }
