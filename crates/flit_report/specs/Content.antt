-- The text of a report.
use Rattle.std.specs.Prelude.{ℕ, List, [], ◌++◌, Bool, true, false, if◌then◌else◌, ◌==◌, length, count_by, codes}
use Rattle.std.specs.List.{flat_map, enumerate_from}
use Rattle.flit_model.specs.declared.calls.Reply.TheVariants.{Yes, No, Found, Full, Worn}
use Rattle.flit_model.specs.declared.calls.Outcome.{Outcome}
use Rattle.flit_model.specs.declared.calls.Outcome.TheVariants.{Replied, Stopped}
use Rattle.flit_model.specs.declared.calls.Entry.{Entry}
use Rattle.flit_model.specs.declared.calls.Tally.{Tally}
use Rattle.flit_report.specs.declared.content.Line.{Line}
use Rattle.flit_report.specs.declared.content.Shown.{Shown}
use Rattle.flit_report.specs.Lines.{event_line, call_line, history_line, tally_line, numbers_line, number_line}

-- what a report tells
pub record Content : Type 0 where
  pub summary : Bool
  pub version : ℕ
  pub events : List Shown
  pub lines : List Line
  pub history : List Entry
  pub tallies : List Tally
  pub keys : List ℕ
  pub values : List ℕ
  pub free : ℕ

-- the outcomes that a summary counts
abbrev pub is_done : Outcome → Bool
is_done (Replied Yes) = true
is_done (Replied No) = true
is_done (Replied (Found value)) = true
is_done _ = false

abbrev pub is_stopped : Outcome → Bool
is_stopped Stopped = true
is_stopped _ = false

abbrev pub is_full : Outcome → Bool
is_full (Replied (Full ticket)) = true
is_full _ = false

abbrev pub is_worn : Outcome → Bool
is_worn (Replied (Worn word version)) = true
is_worn _ = false

-- a summary: six counts
unfoldable pub summary_text : Content → List ℕ
summary_text c =
    number_line (codes "calls") (length c.lines)
    ++ number_line (codes "done") (count_by (λ l. is_done l.outcome) c.lines)
    ++ number_line (codes "stopped") (count_by (λ l. is_stopped l.outcome) c.lines)
    ++ number_line (codes "full") (count_by (λ l. is_full l.outcome) c.lines)
    ++ number_line (codes "worn") (count_by (λ l. is_worn l.outcome) c.lines)
    ++ number_line (codes "keys") (length c.keys)

-- the workers' counts, the first worker being 1
unfoldable pub tallies_text : List Tally → List ℕ
tallies_text tallies = flat_map (λ p. tally_line p.0 p.1) (enumerate_from 1 tallies)

-- a whole report; the values show in version 2 alone
unfoldable pub whole_text : Content → List ℕ
whole_text c =
    flat_map event_line c.events
    ++ flat_map (call_line c.version) c.lines
    ++ flat_map (history_line c.version) c.history
    ++ tallies_text c.tallies
    ++ numbers_line (codes "keys") c.keys
    ++ (if c.version == 2 then numbers_line (codes "values") c.values else [])
    ++ number_line (codes "free") c.free

-- the text of a report
unfoldable pub text_of : Content → List ℕ
text_of c = if c.summary then summary_text c else whole_text c

-- the text of a recovery; the values show for an image with values alone
unfoldable pub recovery_lines : Bool → List ℕ → List ℕ → List ℕ → List ℕ
recovery_lines valued keys values unreached =
    numbers_line (codes "keys") keys
    ++ (if valued then numbers_line (codes "values") values else [])
    ++ numbers_line (codes "unreached") unreached
