use Rattle.std.proofs.Common.{◌≡◌, Some, slice_get, codes, arith, sym, ap, ◌∙◌}
use Rattle.flit_commands.proofs.CommandLaws.{five_words, same_text}
use Rattle.flit_commands.proofs.commands.making_of.Goals as goal

pub returns-clause-some : goal.returns-clause-some
returns-clause-some c =
    let first : slice_get c.args.words.now 0 ≡ Some (codes "make") = sym c.in_ok-name.ensures ∙ ap Some (same_text _ _ _ c.ne.ensures c.if-ne.false) in
    let seed = c.in_ok-number_at.ensures.some in
    let calls = c.in_ok-number_at-2.ensures.some in
    let keys = c.in_ok-number_at-3.ensures.some in
    let workers = c.in_ok-number_at-4.ensures.some in (
      record {
        seed = seed.1;
        least_calls = calls.0;
        most_calls = calls.1;
        least_keys = keys.0;
        most_keys = keys.1;
        least_workers = workers.0;
        most_workers = workers.1;
      },
      five_words _ _ _ _ _ _ (omega arith) first seed.2 calls.2 keys.2 workers.2,
    )
