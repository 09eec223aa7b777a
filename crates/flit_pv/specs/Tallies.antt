-- How a worker's hand changes by one event.
use Rattle.std.specs.Prelude.{◌≡◌, ◌⊎◌, ℕ, ◌-◌, ◌^◌, ◌≤◌}
use Rattle.flit_model.specs.declared.calls.Tally.{Tally}
use Rattle.flit_pv.specs.declared.hands.Hand.{Hand}
use Rattle.flit_pv.specs.Hands.{more}

-- no count is past 2^64 - 1, where it stays
pub record IsTally (t : Tally) : Type 0 where
  pub loads : t.loads ≤ 2 ^ 64 - 1
  pub omitted : t.omitted ≤ 2 ^ 64 - 1
  pub queued : t.queued ≤ 2 ^ 64 - 1
  pub persists : t.persists ≤ 2 ^ 64 - 1
  pub failed : t.failed ≤ 2 ^ 64 - 1
  pub helped : t.helped ≤ 2 ^ 64 - 1
  pub tries : t.tries ≤ 2 ^ 64 - 1

-- a count stays or counts one more
abbrev pub Counts : ℕ → ℕ → Type 0
Counts was now = (now ≡ was) ⊎ (now ≡ more was)

-- each count does
pub record Tallies (was now : Tally) : Type 0 where
  pub loads : Counts was.loads now.loads
  pub omitted : Counts was.omitted now.omitted
  pub queued : Counts was.queued now.queued
  pub persists : Counts was.persists now.persists
  pub failed : Counts was.failed now.failed
  pub helped : Counts was.helped now.helped
  pub tries : Counts was.tries now.tries

-- an event of an instruction leaves all but the queue and the counts, and of these it leaves helps and searches
pub record GoesOn (was now : Hand) : Type 0 where
  pub name : now.name ≡ was.name
  pub number : now.number ≡ was.number
  pub ticket : now.ticket ≡ was.ticket
  pub spare : now.spare ≡ was.spare
  pub tally : Tallies was.tally now.tally
  pub helped : now.tally.helped ≡ was.tally.helped
  pub tries : now.tally.tries ≡ was.tally.tries
