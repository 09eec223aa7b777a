-- The text that is wanted of the trace that some bytes are, of its run on the structure that it names; or why there is none.
use Rattle.std.specs.Prelude.{◌≡◌, ◌≢◌, ℕ, true, false, List}
use Rattle.flit_model.specs.Recovery.{layout_of}
use Rattle.flit_model.specs.declared.found.Image.{Image as An_image}
use Rattle.flit_model.specs.declared.found.Recovered.{Recovered}
use Rattle.flit_image.specs.ImageTexts.{image_text}
use Rattle.flit_recover.specs.Damages.{IsFirstDamage}
use Rattle.flit_recover.specs.declared.found.Damage.{Damage}
use Rattle.flit_recover.specs.declared.found.Damage.TheVariants.{NoMemory as No_walk_memory}
use Rattle.flit_trace.specs.declared.heads.Place.TheVariants.{Lines}
use Rattle.flit_trace.specs.Contents.{Content}
use Rattle.flit_trace.specs.Grammar.{IsTrace, IsTraceFault}
use Rattle.flit_trace.specs.SeenTraces.{SeenTrace, IsReadAs}
use Rattle.flit_step_reports.specs.StepReports.{StartsAt, start_words}
use Rattle.flit_step_sentences.specs.StepTexts.{IsStepText}
use Rattle.flit_structures.specs.Runs.{IsImageOfRun}
use Rattle.flit_structures.specs.Starts.{words_layout}
use Rattle.flit_structures.specs.Structures.{structure_in, IsPlayable}
use Rattle.flit_structures.specs.declared.runs.Wanted.{Wanted}
use Rattle.flit_structures.specs.declared.runs.Wanted.TheVariants.{Report, Events, Summary, Image}
use Rattle.flit_structures.specs.declared.texts.NoText.{NoText}
use Rattle.flit_structures.specs.declared.texts.NoText.TheVariants.{Trace, Unplayable, Start, NoMemory}

-- a text is that of the image which a crash leaves at the end of the run of a trace's own structure, of version 2 where the trace
-- has values
pub record IsStepImage (t : Content) (text : List ℕ) : Type 0 where
  pub start : Recovered
  pub starts : StartsAt t start
  pub image : An_image
  pub is : IsImageOfRun (structure_in t.head start.free.items).meaning t start image
  pub text_is : text ≡ image_text (layout_of image) image.words.items

-- a text is what is wanted of a trace
abbrev pub IsWantedText : Content → Wanted → List ℕ → Type 0
IsWantedText t Report text = IsStepText structure_in t false false text
IsWantedText t Events text = IsStepText structure_in t true false text
IsWantedText t Summary text = IsStepText structure_in t false true text
IsWantedText t Image text = IsStepImage t text

-- the bytes are a trace that is played, and this is the text that is wanted of it
pub record IsTextOf (bytes : List ℕ) (wanted : Wanted) (text : List ℕ) : Type 0 where
  pub content : Content
  pub trace : IsTrace bytes content
  pub playable : IsPlayable content.head
  pub is : IsWantedText content wanted text

-- the bytes are a trace with a slot for each line of eight words
pub record IsUnplayable (bytes : List ℕ) : Type 0 where
  pub content : Content
  pub trace : IsTrace bytes content
  pub lines : content.head.place ≡ Lines

-- the bytes are a trace that is played, and this is the first damage of its start image
pub record HasStartDamage (bytes : List ℕ) (damage : Damage) : Type 0 where
  pub content : Content
  pub trace : IsTrace bytes content
  pub playable : IsPlayable content.head
  pub some : damage ≢ No_walk_memory
  pub first : IsFirstDamage (words_layout content.head.layout) (start_words content) damage

-- why there is no text: the bytes are no trace, or one that isn't played, or its start image isn't lawful; or there was no memory
abbrev pub HasNoText : List ℕ → NoText → Type 0
HasNoText bytes (Trace error) = IsTraceFault bytes error
HasNoText bytes Unplayable = IsUnplayable bytes
HasNoText bytes (Start damage) = HasStartDamage bytes damage
HasNoText bytes NoMemory = Unit {0}

-- from whatever bytes a trace was read, where it is played this is why they have no text
abbrev pub StartRefused : SeenTrace → NoText → Type 0
StartRefused trace error = (bytes : List ℕ) → IsReadAs bytes trace → IsPlayable trace.head → HasNoText bytes error
