use Rattle.std.proofs.lemmas.Bool.{both_ways}
use Rattle.flit_plain.proofs.ChainWalks.{lawful_refused}
use Rattle.flit_plain.proofs.chains.next_on_chain.Goals as goal

pub returns-else-may_stand : goal.returns-else-may_stand
returns-else-may_stand c = lawful_refused c.args.layout.now c.args.words.now c.args.head c.args.low c.args.word c.link_at-link.result c.link_at-link.ensures
    c.if-link-eq0.false
    (λ here. both_ways c.may_stand.result c.if-may_stand.false (c.may_stand.ensures.1 here))
