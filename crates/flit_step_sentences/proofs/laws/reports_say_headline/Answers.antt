use Rattle.flit_step_sentences.proofs.Printed.{says}
use Rattle.flit_step_sentences.proofs.laws.reports_say_headline.Goals as goal

pub returns : goal.returns
returns g c = λ s t shows start told ready is.
    says (g.S.Structure.meaning s) (g.met.S.Structure.lawful s) c.one_recovery.ensures.map t shows start told ready is
