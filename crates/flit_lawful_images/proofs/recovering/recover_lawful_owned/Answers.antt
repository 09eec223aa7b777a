use Rattle.flit_lawful_images.proofs.LawfulImages.{undamaged, same_keys, same_values}
use Rattle.flit_model.specs.Recovery.{layout_of}
use Rattle.flit_lawful_images.proofs.recovering.recover_lawful_owned.Goals as goal

pub memory_alone-requires : goal.memory_alone-requires
memory_alone-requires c = λ other. (
    let i = c.args.image in
    let m = c.requires.lawful in
    undamaged (layout_of i) i.words.items m.0 m.1.0 c.in-Err.damage c.requires.whole.accepted m.1.1 (c.in-Err.ensures.damage other)
    )

pub returns-in-Ok-clause-pairs : goal.returns-in-Ok-clause-pairs
returns-in-Ok-clause-pairs c = λ m is.
    let i = c.args.image in
    let r = c.in-Ok.ensures.recovery in
    record {
      keys = same_keys (layout_of i) i.words.items r.map m c.in-Ok.recovered.free.items is.0 c.in-Ok.recovered.keys.items r.recovers is.1 r.keys_are;
      values = same_values (layout_of i) i.words.items r.map m c.in-Ok.recovered.free.items is.0 c.in-Ok.recovered.values.items r.recovers is.1 r.values_are;
    }
