use Rattle.flit_recover.proofs.counting.count_keys.Goals as goal

pub returns-clause-damage : goal.returns-clause-damage
returns-clause-damage c = rw (c.layout-layout.ensures, c.as_slice.ensures.value) at c.count_in_words.ensures.damage
