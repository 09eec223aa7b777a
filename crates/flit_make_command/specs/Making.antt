-- What the command `make` writes: the text that the generator makes of the numbers among its words.
use Rattle.std.specs.Prelude.{◌≡◌, ℕ, List, Option}
use Rattle.flit_commands.specs.declared.commands.Making.{Making}
use Rattle.flit_commands.specs.CommandWords.{make_words, IsInRange}
use Rattle.flit_generator.specs.Generator.{generated_text}
use Rattle.flit_statuses.specs.Writing.{WroteAt}
use Rattle.flit_statuses.specs.declared.status.Status.{Status}
use Rattle.flit_statuses.specs.declared.status.Status.TheVariants.{Done, Usage, BadTrace, Limit, BadImage, ReadFault, WriteFault, NoMemory}

-- the words are those of `make`, with numbers in their ranges, and the generator makes this text of them
pub record IsMadeOf (words : List (List ℕ)) (text : List ℕ) : Type 0 where
  pub making : Making
  pub in_range : IsInRange making
  pub said : words ≡ make_words making
  pub text_is : text ≡ generated_text making.seed making.calls making.keys making.workers

-- that text was written: the whole of it at Done, a proper front of it at WriteFault
abbrev pub WroteMade : Status → List (List ℕ) → Option (List ℕ) → Option (List ℕ) → Type 0
WroteMade status words before after = WroteAt status (IsMadeOf words) before after

-- how `make` may end
abbrev pub EndsMake : Status → Type 0
EndsMake Done = Unit {0}
EndsMake Usage = Unit {0}
EndsMake (BadTrace line) = ⊥
EndsMake (Limit line limit) = ⊥
EndsMake (BadImage fault) = ⊥
EndsMake ReadFault = ⊥
EndsMake WriteFault = Unit {0}
EndsMake NoMemory = Unit {0}
