use Rattle.flit_runs.proofs.Changes.{sound_rests, sound_leaves, sound_stores, sound_hires, sound_swap}
use Rattle.flit_runs.proofs.laws.worlds_stay_sound.Goals as goal

pub returns : goal.returns
returns c = record { rests = sound_rests; leaves = sound_leaves; stores = sound_stores; hires = sound_hires; order = sound_swap }
