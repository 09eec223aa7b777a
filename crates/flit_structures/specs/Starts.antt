-- Where the structure of a trace starts, or what is wrong with its start image.
use Rattle.std.specs.Prelude.{◌≡◌, ℕ, List, None}
use Rattle.flit_words.specs.declared.layouts.Layout.{Layout}
use Rattle.flit_model.specs.Recovery.{image_layout}
use Rattle.flit_model.specs.declared.found.Recovered.{Recovered}
use Rattle.flit_recover.specs.Damages.{IsFirstDamage}
use Rattle.flit_recover.specs.declared.found.Damage.{Damage}
use Rattle.flit_trace.specs.Contents.{Content}
use Rattle.flit_trace.specs.Grammar.{IsTrace}
use Rattle.flit_trace.specs.SeenTraces.{SeenTrace, Shows}
use Rattle.flit_trace.specs.declared.heads.Head.{Head}
use Rattle.flit_step_reports.specs.StepReports.{StartsAt, start_words}

-- the layout of the words of an image of this layout
abbrev pub words_layout : Layout → Layout
words_layout l = image_layout l.kind l.buckets l.rows l.values

-- whatever trace is seen, this is what recovery finds in its words at the start
abbrev pub StartsSeen : SeenTrace → Recovered → Type 0
StartsSeen trace start = (bytes : List ℕ) (t : Content) → IsTrace bytes t → Shows trace t → StartsAt t start

-- whatever trace is seen, this is the first damage of its words at the start
abbrev pub IsStartDamage : SeenTrace → Damage → Type 0
IsStartDamage trace d =
    (bytes : List ℕ) (t : Content) → IsTrace bytes t → Shows trace t → IsFirstDamage (words_layout t.head.layout) (start_words t) d

-- this is what recovery finds where each trace of this head starts that has no start image
abbrev pub StartsFresh : Head → Recovered → Type 0
StartsFresh head start = (trace : SeenTrace) → trace.head ≡ head → trace.start ≡ None → StartsSeen trace start
