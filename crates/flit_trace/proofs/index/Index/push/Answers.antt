use Rattle.std.proofs.Common.{◌<◌, ◌-◌, List, ◌++◌, ◌∷◌, [], length, sym, ap, ◌∙◌, arith}
use Rattle.std.proofs.lemmas.List.{map-set, get_or-map, length-map}
use Rattle.flit_trace.specs.declared.entries.Entry.{Entry}
use Rattle.flit_trace.proofs.KeptScripts.{pushed}
use Rattle.flit_trace.proofs.index.Index.push.Goals as goal

pub returns-clause-pushes : goal.returns-clause-pushes
returns-clause-pushes c = λ t keeps.
    let place = c.args.worker - 1 in
    let within : place < length c.args.self.now.scripts.items = omega arith in
    record {
      scripts =
          rw map-set (pushed _ t.items c.args.worker c.args.entry _ c.requires.least (rw length-map (omega arith))
          (c.in_ok-push.ensures.items ∙ ap (λ v. v.items ++ c.args.entry ∷ []) c.index_mut-script.ensures.value
          ∙ ap (λ (xs : List Entry). xs ++ c.args.entry ∷ []) (sym (get_or-map (λ v. v.items) c.args.self.now.scripts.items place
          c.index_mut-script.result.now [] within)))
          keeps.scripts);
      turns = keeps.turns;
      all_ahead = keeps.all_ahead;
      ahead = keeps.ahead;
      words = keeps.words;
    }
