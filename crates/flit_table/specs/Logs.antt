-- The log: one line for each exchange that takes effect, and one for each shadow that rises, in the order of these steps.
-- What is settled and what waits is read from it.
use Rattle.std.specs.Prelude.{◌≡◌, ℕ, ◌==◌, nat_lt, List, [], ◌∷◌, ◌++◌, length, Option, Some, None, if◌then◌else◌}
use Rattle.std.specs.FinMap as map
use Rattle.flit_model.specs.Settling.{Progress, nothing_made, takes_effect, settles}
use Rattle.flit_model.specs.declared.events.Event.{Event}
use Rattle.flit_model.specs.declared.events.Event.TheVariants.{Load, ReadTag, Raise, Lower, Exchange, Persist, Store, Draw}
use Rattle.flit_model.specs.declared.calls.Entry.{Entry}
use Rattle.flit_table.specs.declared.views.Logged.{Logged}

-- a word with an entry waits from now on; a word alone settles the entry that waits there, where there is one
abbrev pub noted : Progress → ℕ → Option Entry → Progress
noted p word None = settles p word (map.get p.waiting word)
noted p word (Some e) = takes_effect p word (Some e)

abbrev pub progress_from : Progress → List Logged → Progress
progress_from p [] = p
progress_from p (x ∷ xs) = progress_from (noted p x.word x.entry) xs

abbrev pub progress_of : List Logged → Progress
progress_of log = progress_from nothing_made log

-- the settled updates
abbrev pub settled_in : List Logged → List Entry
settled_in log = (progress_of log).settled

-- the second log begins with the first
abbrev pub Continues : List Logged → List Logged → Type 0
Continues log longer = (more : List Logged) × (longer ≡ log ++ more)

-- of two logs the longer, and the shorter
abbrev pub longer_log : List Logged → List Logged → List Logged
longer_log a b = if nat_lt (length a) (length b) then b else a

abbrev pub shorter_log : List Logged → List Logged → List Logged
shorter_log a b = if nat_lt (length a) (length b) then a else b

abbrev pub line : ℕ → Option Entry → Logged
line word entry = record { word = word; entry = entry }

-- what an event appends, by its answer and the entry of the call that takes effect by it, where it is won: a won
-- Exchange that takes effect its word with the entry, a Persist that raises a shadow its word alone, the others nothing
abbrev pub line_of_effect : ℕ → Option Entry → List Logged
line_of_effect word None = []
line_of_effect word (Some e) = line word (Some e) ∷ []

abbrev pub logged_by : Event → ℕ → Option Entry → List Logged
logged_by (Exchange word from to) told effect = if told == from then line_of_effect word effect else []
logged_by (Persist word kept) told effect = if nat_lt told kept then line word None ∷ [] else []
logged_by (Load word) told effect = []
logged_by (ReadTag slot) told effect = []
logged_by (Raise slot) told effect = []
logged_by (Lower slot) told effect = []
logged_by (Store word to) told effect = []
logged_by Draw told effect = []
