-- Whether an exchange is still won, as the words stand now. Words are compared with their tag bits.
use Rattle.std.specs.Prelude.{ℕ, ◌==◌, ◌&&◌, Bool, true, false, List, Option, is_none, slice_index, if◌then◌else◌}
use Rattle.flit_words.specs.Words.{is_tagged, bare_of}
use Rattle.flit_place.specs.Tags.{Place}
use Rattle.flit_pv.specs.Exchanges.{HeldExchange}
use Rattle.flit_pv.specs.declared.exchanges.Exchanging.{Exchanging}
use Rattle.flit_pv.specs.declared.exchanges.Exchanging.TheVariants.{Ready, Tries, TriesBare, WritesBack, Withdraws, Lowers, Ended}
use Rattle.flit_pv.specs.declared.exchanges.Exchanged.{Exchanged}
use Rattle.flit_pv.specs.declared.exchanges.Exchanged.TheVariants.{Won, Lost, Worn}

-- an exchange from `old` that starts now: the word is as it was read; or its place has no slot, and it was read with a tag
-- that is withdrawn now, which the second try finds
abbrev pub would_win_at : Option ℕ → ℕ → ℕ → Bool
would_win_at slot now old = if now == old then true else (is_none slot && (is_tagged old && (now == bare_of old)))

abbrev pub would_win : Place → List ℕ → ℕ → ℕ → Bool
would_win p words word old = would_win_at (p.slot word) (slice_index words word) old

abbrev pub ended_won : Exchanged → Bool
ended_won Won = true
ended_won (Lost found) = false
ended_won (Worn word version) = false

-- one that runs: it is won already, or will be where its word stays
abbrev pub wins_at : Place → List ℕ → Exchanging → HeldExchange → Bool
wins_at p words Ready m = would_win p words m.word m.from
wins_at p words (Tries slot) m = slice_index words m.word == m.from
wins_at p words TriesBare m = slice_index words m.word == bare_of m.from
wins_at p words WritesBack m = true
wins_at p words Withdraws m = true
wins_at p words (Lowers slot found) m = false
wins_at p words (Ended how) m = ended_won how

abbrev pub wins_now : Place → List ℕ → HeldExchange → Bool
wins_now p words m = wins_at p words m.at m
