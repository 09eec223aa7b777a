use Rattle.flit_lawful_images.proofs.LawfulImages.{undamaged, same_keys, same_values}
use Rattle.flit_model.specs.Recovery.{layout_of}
use Rattle.flit_lawful_images.proofs.recovering.count_lawful_keys.Goals as goal

pub memory_alone-requires : goal.memory_alone-requires
memory_alone-requires c = λ other. (
    let i = c.args.image.now in
    let m = c.requires.lawful in
    undamaged (layout_of i) i.words.items m.0 m.1.0 c.in-Err.damage c.requires.whole.accepted m.1.1 (c.in-Err.ensures.damage other)
    )

pub returns-in-Ok : goal.returns-in-Ok
returns-in-Ok c =
    let i = c.args.image.now in
    let has = c.in-Ok.ensures.keys in
    let r = has.recovery in
    record {
      keys = has.keys;
      values = has.values;
      free = has.free;
      recovery = r;
      pairs = λ m is. (
        same_keys (layout_of i) i.words.items r.map m has.free is.0 has.keys r.recovers is.1 r.keys_are,
        same_values (layout_of i) i.words.items r.map m has.free is.0 has.values r.recovers is.1 r.values_are,
      );
      count_is = has.count_is;
    }
