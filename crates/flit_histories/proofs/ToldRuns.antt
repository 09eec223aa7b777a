-- A run that is reached tells of each call what is right.
use Rattle.std.proofs.Common.{◌≡◌, ℕ, zero, suc, ◌+◌, List, [], ◌∷◌, map, sym, ap, subst, arith, Some, slice_get, None}
use Rattle.std.proofs.lemmas.Option.{none-some}
use Rattle.flit_model.specs.Settling.{Progress}
use Rattle.flit_model.specs.declared.calls.Call.{Call}
use Rattle.flit_model.specs.declared.calls.Item.{Item}
use Rattle.flit_model.specs.declared.calls.Item.TheVariants.{Call as Call_item, Evict as Evict_item}
use Rattle.flit_model.specs.declared.calls.Outcome.TheVariants.{Replied, Stopped}
use Rattle.flit_model.specs.declared.calls.Reply.{Reply}
use Rattle.flit_model.specs.declared.calls.Work.{Work}
use Rattle.flit_model.specs.declared.found.Recovered.{Recovered}
use Rattle.flit_structure.specs.Meanings.{Meaning}
use Rattle.flit_structure.specs.Lawful.{Lawful}
use Rattle.flit_sched.specs.Runs.{Run}
use Rattle.flit_sched.specs.Openings.{first_outcome, first_parts, opened_run}
use Rattle.flit_histories.specs.Reached.{Leads, here, turn, IsReached}
use Rattle.flit_histories.proofs.PartLists.{AllFrom, HasFrom}
use Rattle.flit_histories.proofs.MadeLaws.{nothing_is_made}
use Rattle.flit_histories.proofs.TurnedRuns.{turned_is, makes}
use Rattle.flit_histories.proofs.SoundRuns.{IsSound}
use Rattle.flit_histories.proofs.FirstRuns.{opened_sound}
use Rattle.flit_histories.proofs.ReachedRuns.{sound_led}
use Rattle.flit_histories.proofs.ToldCalls.{IsTold, IsToldPart, HasCall, told_after}

first_waits : (items : List Item) (k : ℕ) (call : Call) → slice_get items k ≡ Some (Call_item call) →
    slice_get (map first_outcome items) k ≡ Some (Some Stopped)
first_waits [] k call is = absurd (none-some (Call_item call) is)
first_waits (i ∷ items) zero call is = let same : i ≡ Call_item call = cc in ap (λ j. Some (first_outcome j)) same
first_waits (i ∷ items) (suc k) call is = first_waits items k call is

-- no outcome of the start is a reply
pub first_waits_all : (items : List Item) (k : ℕ) (reply : Reply) → slice_get (map first_outcome items) k ≡ Some (Some (Replied reply)) → ⊥
first_waits_all [] k reply is = none-some (Some (Replied reply)) is
first_waits_all (Call_item call ∷ items) zero reply is = cc
first_waits_all (Evict_item word ∷ items) zero reply is = cc
first_waits_all (i ∷ items) (suc k) reply is = first_waits_all items k reply is

first_swept : (items : List Item) (k word : ℕ) → slice_get items k ≡ Some (Evict_item word) → slice_get (map first_outcome items) k ≡ Some None
first_swept [] k word is = absurd (none-some (Evict_item word) is)
first_swept (i ∷ items) zero word is = let same : i ≡ Evict_item word = cc in ap (λ j. Some (first_outcome j)) same
first_swept (i ∷ items) (suc k) word is = first_swept items k word is

first_told : (Op : Type 0) (g : Progress) (name : ℕ) (works : List Work) → AllFrom (IsToldPart {Op = Op} g []) name (first_parts {Op = Op} name works)
first_told Op g name [] = tt
first_told Op g name (w ∷ ws) = (
  record {
    done = λ k call less is. absurd (omega (arith, less));
    waits = λ k call le is. first_waits w.items.items k call is;
    swept =
        first_swept w.items.items;
    low = tt;
  },
  first_told Op g (name + 1) ws,
)

module _ {Op : Type 0} (meaning : Meaning Op) (l : Lawful meaning) where
  pub opened_told : (start : Recovered) (works : List Work) → IsTold (opened_run meaning start works)
  opened_told start works = record {
    made_by = nothing_is_made (λ e. HasFrom (HasCall e) 1 (first_parts {Op = Op} 1 works));
    read_by = tt;
    each = first_told Op (opened_run meaning start works).progress 1 works;
  }

  pub told_led : (r next : Run Op) → Leads meaning r next → IsSound meaning r → IsTold r → IsTold next
  told_led r next here K T = T
  told_led r next (turn {q = q} {worker = worker} {e = e} {told = told} h t) K T =
      subst IsTold (sym (turned_is meaning q next worker e told t))
      (told_after meaning l q t.before t.part t.behind e t.reads (makes meaning q next worker e told t) (sound_led meaning l r q h K) (told_led r q h K T))

  pub told_all : (r : Run Op) → IsReached meaning r → IsTold r
  told_all r h = told_led (opened_run meaning h.start h.works) r h.leads (opened_sound meaning l h.start h.works h.starts) (opened_told h.start h.works)
