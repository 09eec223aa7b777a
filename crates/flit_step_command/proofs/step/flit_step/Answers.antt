use Rattle.flit_structures.proofs.CompleteLaws.{completes}
use Rattle.flit_step_command.proofs.StepLaws.{no_detect, wrote_wanted}
use Rattle.flit_step_command.proofs.step.flit_step.Goals as goal

pub returns-clause-usage : goal.returns-clause-usage
returns-clause-usage g c = (
  λ is. absurd (c.answer_input.ensures.runs is),
  λ none. absurd (none c.in-Some.wanted c.in-Some.ensures.some),
)

pub returns-clause-detect : goal.returns-clause-detect
returns-clause-detect g c = λ said. absurd (no_detect _ c.in-Some.wanted c.in-Some.ensures.some said)

pub returns-clause-wrote : goal.returns-clause-wrote
returns-clause-wrote g c = wrote_wanted _ _ c.in-Some.wanted _ _ _ c.in-Some.ensures.some c.answer_input.ensures.wrote

pub returns-clause-completes : goal.returns-clause-completes
returns-clause-completes g c = λ can.
    completes c.right_traces_are_answered.ensures _ _ _ _ _ _ _ can _ (λ is. absurd (c.answer_input.ensures.runs is)) c.answer_input.ensures.blames
    c.answer_input.ensures.read_faults c.answer_input.ensures.write_faults

pub returns-in_default-clause-completes : goal.returns-in_default-clause-completes
returns-in_default-clause-completes g c = λ can. absurd (c.in_default.ensures.none can.wanted can.words_are)
