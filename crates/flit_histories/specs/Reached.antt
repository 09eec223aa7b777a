-- Runs that turns lead to.
use Rattle.std.specs.Prelude.{◌≡◌, ℕ, List, Some}
use Rattle.flit_model.specs.declared.calls.Work.{Work}
use Rattle.flit_model.specs.declared.calls.Entry.{Entry}
use Rattle.flit_model.specs.declared.events.Event.{Event}
use Rattle.flit_model.specs.declared.events.Event.TheVariants.{Exchange}
use Rattle.flit_model.specs.declared.found.Recovered.{Recovered}
use Rattle.flit_structure.specs.Meanings.{Meaning, effect_by}
use Rattle.flit_sched.specs.Runs.{Run}
use Rattle.flit_sched.specs.Openings.{opening_at, IsBookOf, AreRight, opened_run}
use Rattle.flit_sched.specs.Turns.{Turned, entered}

module _ {Op : Type 0} (meaning : Meaning Op) where
  -- one run comes of another by any number of turns
  pub data Leads (r : Run Op) : Run Op → Type 0 where
    here : Leads r r
    turn : {q next : Run Op} {worker : ℕ} {e : Event} {told : ℕ} → Leads r q → Turned meaning q worker e told next → Leads r next

  -- a run of this structure may be opened at what recovery found, with these works
  pub record IsStart (start : Recovered) (works : List Work) : Type 0 where
    pub opens : meaning.opens (opening_at start)
    pub found : IsBookOf start
    pub right : AreRight meaning.layout works

  -- turns lead to it from a run that was opened
  pub record IsReached (r : Run Op) : Type 0 where
    pub start : Recovered
    pub works : List Work
    pub starts : IsStart start works
    pub leads : Leads (opened_run meaning start works) r

  -- on the way from one run to another a turn made the update: it was the effect of an Exchange that found what it
  -- expected
  pub record IsWonBetween (first r : Run Op) (x : Entry) : Type 0 where
    pub was : Run Op
    pub next : Run Op
    pub worker : ℕ
    pub word : ℕ
    pub from : ℕ
    pub to : ℕ
    pub led : Leads first was
    pub turned : Turned meaning was worker (Exchange word from to) from next
    pub effect : effect_by meaning (entered meaning turned.part) ≡ Some x
    pub leads : Leads next r
