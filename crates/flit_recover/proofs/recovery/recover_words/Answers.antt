-- Damage on the walk over an image without tags is its first damage.
use Rattle.std.proofs.Common.{◌≢◌, inr}
use Rattle.std.proofs.lemmas.Result.{IfErr-weaker}
use Rattle.flit_recover.specs.declared.found.Damage.TheVariants.{NoMemory}
use Rattle.flit_recover.specs.Damages.{IsWalkDamage, IsFirstDamage}
use Rattle.flit_recover.proofs.recovery.recover_words.Goals as goal

pub returns-clause-damage : goal.returns-clause-damage
returns-clause-damage c =
    IfErr-weaker c.recover_untagged.result
    (λ d. d ≢ NoMemory → IsWalkDamage c.args.layout.now c.args.words.now d)
    (λ d. d ≢ NoMemory → IsFirstDamage c.args.layout.now c.args.words.now d)
    (λ d walk memory. inr (c.in_ok-check_tags.ensures.untagged, walk memory)) c.recover_untagged.ensures.damage
