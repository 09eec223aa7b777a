-- What a trace is as a whole.
use Rattle.std.specs.Prelude.{◌≡◌, ◌≤◌, ◌↔◌, ◌++◌, ℕ, true, false, List, length, replicate, Contains, Some}
use Rattle.std.specs.List.{AllByRecursion}
use Rattle.flit_words.specs.declared.layouts.Layout.{Layout}
use Rattle.flit_words.specs.Layouts.{Accepted, words_of, last_row_of}
use Rattle.flit_words.specs.declared.limits.TheConstants.{MOST_CALLS}
use Rattle.flit_model.specs.Lists.{IsRisingFrom}
use Rattle.flit_model.specs.declared.calls.Item.{Item}
use Rattle.flit_trace.specs.declared.faults.TraceError.{TraceError}
use Rattle.flit_trace.specs.Contents.{Content, ItemLine, filled, script_of}
use Rattle.flit_trace.specs.Grammar.{IsTrace, IsTraceFault}
use Rattle.flit_trace.specs.Rights.{IsRightLine, IsRightTurn, lines_of_items, lines_of_script}
use Rattle.flit_trace.specs.declared.faults.TraceError.TheVariants.{Limit}
use Rattle.flit_trace.specs.declared.faults.Bound.TheVariants.{Events}

-- a text has one fault at most
abbrev pub OneFault : Type 0
OneFault =
    (bytes : List ℕ) (e f : TraceError) → IsTraceFault bytes e → IsTraceFault bytes f → e ≡ f

-- a trace has no fault
abbrev pub TraceWithoutFault : Type 0
TraceWithoutFault =
    (bytes : List ℕ) (c : Content) (e : TraceError) → IsTrace bytes c → ¬ IsTraceFault bytes e

-- no fault has the bound on events
abbrev pub NoEventsFault : Type 0
NoEventsFault =
    (bytes : List ℕ) (line : ℕ) → ¬ IsTraceFault bytes (Limit line Events)

-- the numbers of a trace are within the limits: those of its layout, and of its lines
abbrev pub LayoutAccepted : Type 0
LayoutAccepted =
    (bytes : List ℕ) (c : Content) → IsTrace bytes c → Accepted c.head.layout

abbrev pub FewLines : Type 0
FewLines =
    (bytes : List ℕ) (c : Content) → IsTrace bytes c → length c.items ≤ MOST_CALLS

-- each call or evict line is right for its layout and workers
abbrev pub LinesRight : Type 0
LinesRight =
    (bytes : List ℕ) (c : Content) → IsTrace bytes c →
    AllByRecursion (IsRightLine c.head.layout) c.items

-- each turn line names one of its workers
abbrev pub TurnsRight : Type 0
TurnsRight =
    (bytes : List ℕ) (c : Content) → IsTrace bytes c →
    AllByRecursion (IsRightTurn c.head.layout) c.turns

-- the line numbers of the call and evict lines rise
abbrev pub LinesRise : Type 0
LinesRise =
    (bytes : List ℕ) (c : Content) → IsTrace bytes c → IsRisingFrom 1 (lines_of_items c.items)

-- the line numbers rise in each script too
abbrev pub ScriptLinesRise : Type 0
ScriptLinesRise =
    (bytes : List ℕ) (c : Content) (worker : ℕ) → IsTrace bytes c →
    IsRisingFrom 1 (lines_of_script (script_of c.items worker))

-- a line stands in the script of its worker alone
abbrev pub InScriptOfWorker : Type 0
InScriptOfWorker =
    (items : List ItemLine) (worker line : ℕ) (i : Item) →
    Contains (script_of items worker) (line, i)
    ↔ Contains items (record { line = line; worker = worker; item = i })

-- a start image stands in version 2 alone
abbrev pub StartIsValued : Type 0
StartIsValued =
    (bytes : List ℕ) (c : Content) (words : List ℕ) → IsTrace bytes c → c.start ≡ Some words →
    c.head.layout.values ≡ true

-- a start image has a word for each word of the trace's layout
abbrev pub StartIsWhole : Type 0
StartIsWhole =
    (bytes : List ℕ) (c : Content) (words : List ℕ) → IsTrace bytes c → c.start ≡ Some words →
    length words ≡ words_of c.head.layout

-- a block of version 1, whose words are those of the layout without values, is filled with value 0 for each row
abbrev pub FilledWithZeros : Type 0
FilledWithZeros =
    (l : Layout) (words : List ℕ) → l.values ≡ true →
    length words ≤ words_of (record l { values = false }) →
    filled l.kind (words_of l) words
    ≡ filled l.kind (words_of (record l { values = false })) words ++ replicate (last_row_of l) 0
