-- How many events a machine makes at most, the write-backs of its hand's queue among them. No full queue is a case of its
-- own: what makes room in it takes pairs out.
use Rattle.std.specs.Prelude.{ℕ, zero, suc, ◌+◌, ◌*◌, ◌==◌, cond, max, List, [], ◌∷◌, length}
use Rattle.flit_pv.specs.declared.loads.Loading.{Loading}
use Rattle.flit_pv.specs.declared.loads.Loading.TheVariants.{Reads as Load_reads, Asks, MakesRoom as Load_makes_room, Has}
use Rattle.flit_pv.specs.declared.v_loads.VLoading.{VLoading}
use Rattle.flit_pv.specs.declared.v_loads.VLoading.TheVariants.{Reads as V_reads, Has as V_has}
use Rattle.flit_pv.specs.declared.confirms.Confirming.{Confirming}
use Rattle.flit_pv.specs.declared.confirms.Confirming.TheVariants.{Begins, MakesRoom as Confirm_makes_room, Done as Confirm_done}
use Rattle.flit_pv.specs.declared.exchanges.Exchanging.{Exchanging}
use Rattle.flit_pv.specs.declared.exchanges.Exchanging.TheVariants.{Ready, Tries, TriesBare, WritesBack, Withdraws, Lowers, Ended}
use Rattle.flit_pv.specs.declared.v_exchanges.VExchanging.{VExchanging}
use Rattle.flit_pv.specs.declared.v_exchanges.VExchanging.TheVariants.{Tries as V_tries, Ended as V_ended}
use Rattle.flit_pv.specs.Drafts.{DraftWords}
use Rattle.flit_pv.specs.declared.stores.Storing.{Storing}
use Rattle.flit_pv.specs.declared.stores.Storing.TheVariants.{Reads as Store_reads, MakesRoom as Store_makes_room, Writes, Ended as Store_ended}
use Rattle.flit_pv.specs.declared.evicts.Evicting.{Evicting}
use Rattle.flit_pv.specs.declared.evicts.Evicting.TheVariants.{Reads as Evict_reads, WritesBack as Evict_writes_back, Done as Evict_done}
use Rattle.flit_rows.specs.declared.take_row.Taking.{Taking}
use Rattle.flit_rows.specs.declared.take_row.Taking.TheVariants.{Draws, Ended as Take_ended}
use Rattle.flit_runs.specs.Workings.{Working, Idles, Loads, VLoads, Confirms, Exchanges, VExchanges, Stores, Fences, Completes, Evicts}
use Rattle.flit_crew.specs.Machines.{Machine, Works, Takes, hand_in}

-- the steps of each machine that are left, and beside them the pairs that it may queue
abbrev pub load_left : Loading → ℕ
load_left Load_reads = 3
load_left (Asks raw slot) = 2
load_left (Load_makes_room raw first) = 2
load_left (Has raw) = 0

abbrev pub v_load_left : VLoading → ℕ
v_load_left V_reads = 1
v_load_left (V_has raw) = 0

abbrev pub confirm_left : Confirming → ℕ
confirm_left Begins = 2
confirm_left (Confirm_makes_room first) = 2
confirm_left Confirm_done = 0

abbrev pub exchange_left : Exchanging → ℕ
exchange_left Ready = 4
exchange_left (Tries slot) = 3
exchange_left TriesBare = 3
exchange_left WritesBack = 2
exchange_left Withdraws = 1
exchange_left (Lowers slot found) = 1
exchange_left (Ended how) = 0

abbrev pub v_exchange_left : VExchanging → ℕ
v_exchange_left V_tries = 1
v_exchange_left (V_ended how) = 0

-- each word to be loaded costs three, its load, its store and its write-back, and each that is ready two
abbrev pub drafts_left : List ℕ → ℕ
drafts_left [] = 1
drafts_left (v ∷ vs) = 3 * length (v ∷ vs)

abbrev pub store_left : Storing → DraftWords → ℕ
store_left (Store_reads how) drafts = drafts_left drafts.values + 2 * length drafts.ready
store_left (Writes next) drafts = 2 + 2 * length drafts.ready
store_left (Store_makes_room next first) drafts = 3 + 2 * length drafts.ready
store_left (Store_ended how) drafts = 0

abbrev pub evict_left : Evicting → ℕ
evict_left Evict_reads = 2
evict_left (Evict_writes_back raw) = 1
evict_left Evict_done = 0

-- how many of the first places have no row: a TakeRow makes one event for each
abbrev pub missing : ℕ → List ℕ → ℕ
missing zero spare = 0
missing (suc n) [] = 0
missing (suc n) (r ∷ rs) = cond (r == 0) (suc (missing n rs)) (missing n rs)

abbrev pub take_left : Taking → ℕ → List ℕ → ℕ
take_left Draws need spare = max 1 (missing need spare)
take_left (Take_ended took) need spare = 0

abbrev pub working_left : Working → ℕ
working_left (Idles hand) = 0
working_left (Loads m) = load_left m.at
working_left (VLoads m) = v_load_left m.at
working_left (Confirms m) = confirm_left m.at
working_left (Exchanges m) = exchange_left m.at
working_left (VExchanges m) = v_exchange_left m.at
working_left (Stores m) = store_left m.at m.drafts
working_left (Fences m) = 0
working_left (Completes m) = 0
working_left (Evicts m) = evict_left m.at

abbrev pub steps_left : Machine → ℕ
steps_left (Works w) = working_left w
steps_left (Takes m) = take_left m.at m.need m.hand.spare

-- a machine that has ended has the length of its hand's queue
abbrev pub machine_left : Machine → ℕ
machine_left m = steps_left m + length (hand_in m).queue
