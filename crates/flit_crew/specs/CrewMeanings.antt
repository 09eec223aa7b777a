-- What a crew means to its trait: what the operations ask and do is what their machines do, and what holds of a moment is
-- what holds of its workers. How it may be opened, and its bounds, are the structure's own.
use Rattle.std.specs.Prelude.{ℕ, ◌&&◌, List, length, Option}
use Rattle.flit_words.specs.declared.layouts.Layout.{Layout}
use Rattle.flit_model.specs.States.{State}
use Rattle.flit_model.specs.declared.calls.Tally.{Tally}
use Rattle.flit_place.specs.Tags.{Place}
use Rattle.flit_runs.specs.Workings.{writing_at}
use Rattle.flit_structure.specs.Moments.{Opening, Moment}
use Rattle.flit_structure.specs.Meanings.{Meaning}
use Rattle.flit_crew.specs.Machines.{machine_asks, machine_exchanges, working_in, hand_in}
use Rattle.flit_crew.specs.Anatomies.{op_taken}
use Rattle.flit_crew.specs.Crews.{Crew, Holds}

-- a structure's openings, its bounds, and what holds of a moment besides, as that counts are far from their top
pub record Bounds (Op : Type 0) : Type 1 where
  pub opens : Opening → Type 0
  pub to_go : State → Op → ℕ
  pub bound : Option ℕ
  pub licensed : Moment Op → Op → Tally → ℕ → Type 0
  pub besides : Moment Op → Type 0

abbrev pub crew_meaning : {G Op : Type 0} → Crew G Op → Layout → Place → List ℕ → Bounds Op → Meaning Op
crew_meaning c l p free bounds = record {
  layout = l;
  place = p;
  room = length free;
  opens = bounds.opens;
  begun = λ hand call. c.anatomy.begun hand call;
  asked = λ op. machine_asks p (c.anatomy.machine op);
  taken = λ op told. op_taken c.anatomy p free op told;
  effect = λ op. c.anatomy.effects op && machine_exchanges p (c.anatomy.machine op);
  reply = λ op. c.anatomy.reply op;
  finished = λ op. hand_in (c.anatomy.machine op);
  writing = λ op. writing_at (working_in (c.anatomy.machine op));
  to_go = bounds.to_go;
  bound = bounds.bound;
  holds = λ M. Holds c l p free M × bounds.besides M;
  licensed = bounds.licensed;
}
