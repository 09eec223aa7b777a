-- The sample as a structure: the map of at most one key, over its layout, its placement and its pool.
use Rattle.flit_place.specs.Tags.{Place}
use Rattle.flit_structure.specs.Meanings.{Meaning}
use Rattle.flit_structure.specs.Lawful.{Lawful, Wrappable}
use Rattle.flit_one_key.specs.Operations.{HeldOp}
use Rattle.flit_one_key_laws.specs.OneKey.{one_key}
use Rattle.flit_one_key_laws.proofs.Lawfulness.{one_key_lawful, one_key_wrappable}
use Rattle.flit_sample.specs.declared.samples.Sample.{Sample}

abbrev pub sample : {P : Type 0} → (P → Place) → Sample P → Meaning HeldOp
sample place_of s = one_key s.layout (place_of s.place) s.pool

pub sample_lawful : {P : Type 0} (place_of : P → Place) (s : Sample P) → Lawful (sample place_of s)
sample_lawful place_of s = one_key_lawful s.layout (place_of s.place) s.pool s.small

pub sample_wrappable : {P : Type 0} (place_of : P → Place) (s : Sample P) → Wrappable (sample place_of s)
sample_wrappable place_of s = one_key_wrappable s.layout (place_of s.place) s.pool s.small
