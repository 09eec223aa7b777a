use Rattle.std.proofs.Common.{◌∙◌, ap}
use Rattle.flit_generator.proofs.CallLines.{whole}
use Rattle.flit_generator.proofs.texts.generator_text.Goals as goal

pub returns : goal.returns
returns c =
    whole c.args.seed c.args.calls c.args.keys c.args.workers _ _ _ _ c.in_ok-out.ensures.bytes c.in_ok-write_head.ensures c.in_ok-write_calls.ensures
    (ap (λ v. v.items) c.into_bytes.ensures.value ∙ c.in_ok-push_str.ensures.bytes)
