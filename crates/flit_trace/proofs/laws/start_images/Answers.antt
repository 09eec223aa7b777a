use Rattle.flit_trace.proofs.StartImages.{started, lifted}
use Rattle.flit_trace.proofs.laws.start_images.Goals as goal

pub returns-clause-valued : goal.returns-clause-valued
returns-clause-valued c = λ bytes content words trace is. (started bytes content words trace is).valued

pub returns-clause-whole : goal.returns-clause-whole
returns-clause-whole c = λ bytes content words trace is. (started bytes content words trace is).whole

pub returns-clause-zeros : goal.returns-clause-zeros
returns-clause-zeros c = lifted
