-- How many events a call of a list or a hash table has to go: the rest of its search, by the keys that it may still come
-- upon, and one more search where a link isn't what the call has loaded.
use Rattle.std.specs.Prelude.{◌≡◌, ℕ, ◌+◌, ◌-◌, ◌*◌, ◌^◌, ◌<◌, ◌==◌, ◌&&◌, Bool, true, false, List, Option, Some, None, if◌then◌else◌}
use Rattle.flit_words.specs.declared.layouts.Layout.{Layout}
use Rattle.flit_words.specs.Layouts.{words_of}
use Rattle.flit_model.specs.Lists.{key_in}
use Rattle.flit_place.specs.Tags.{Place, IsSlot, dressed}
use Rattle.flit_pv.specs.Exchanges.{HeldExchange}
use Rattle.flit_crew.specs.Machines.{Part, ToRead, HasRead, ToWin, HasWon, HasWritten, HasLost, Other, exchange_part}
use Rattle.flit_structure.specs.Moments.{Opening}
use Rattle.flit_structure.specs.Lawful.{IsOpening}
use Rattle.flit_crew_bounds.specs.Bounding.{View, Limits}
use Rattle.flit_crew_bounds.specs.Winning.{would_win, wins_now}
use Rattle.flit_list_steps.specs.declared.operations.LinkWord.{LinkWord}
use Rattle.flit_list_steps.specs.declared.operations.Path.{Path}
use Rattle.flit_list_steps.specs.declared.operations.Goal.{Goal}
use Rattle.flit_list_steps.specs.declared.operations.Goal.TheVariants.{Help as To_help, Found as To_found, Absent as To_absent}
use Rattle.flit_list_steps.specs.Operations.{At, Head, Next, Key, Confirming, Help, Row, Words, RowValue, Link, Mark, Tidy, Value, Ends, Rests, HeldOp}
use Rattle.flit_list_steps.specs.Steps.{row_at, path_confirmed}

-- one search has at most so many events: each row that it comes upon has a greater key, and costs seven
abbrev pub most_search : ℕ
most_search = 7 * 2 ^ 32 + 18

-- how many keys there are from that of this row on
abbrev pub keys_from : Layout → List ℕ → ℕ → ℕ
keys_from l words row = if row == 0 then 0 else 2 ^ 32 - key_in l words row

abbrev pub keys_ahead : Layout → List ℕ → Path → ℕ
keys_ahead l words path = keys_from l words (row_at path)

-- what it costs to confirm a link, those behind which the search stands, and the next one too
abbrev pub cost : Bool → ℕ
cost true = 0
cost false = 2

abbrev pub back_cost : Option LinkWord → ℕ
back_cost None = 0
back_cost (Some x) = cost x.confirmed

abbrev pub path_cost : Path → ℕ
path_cost path = back_cost path.back + cost path.pred.confirmed

abbrev pub next_cost : Path → ℕ
next_cost path = path_cost path + cost path.next.confirmed

-- the events of this search that may follow the machine; `ahead` says of a row how many the search may come upon from it
-- on, and `most` how many there may be
abbrev pub confirming_by : (ℕ → ℕ) → Path → Goal → ℕ
confirming_by ahead path To_help = 7 * ahead (row_at path) + next_cost path + 10
confirming_by ahead path To_found = next_cost path + 12
confirming_by ahead path To_absent = path_cost path + 12

-- a link that is being confirmed costs no more once it is
abbrev pub rest_by : ℕ → (ℕ → ℕ) → Path → At → ℕ
rest_by most ahead path (Head m) = 7 * most + 17
rest_by most ahead path (Next m) = 7 * ahead (row_at path) + path_cost path + 14
rest_by most ahead path (Key m) = 7 * ahead (row_at path) + next_cost path + 11
rest_by most ahead path (Confirming goal which m) = confirming_by ahead (path_confirmed path which) goal + 2
rest_by most ahead path (Help m) = 7 * ahead (row_at path) + 8
rest_by most ahead path (Row m) = 13
rest_by most ahead path (Words m) = 7
rest_by most ahead path (RowValue m) = 4
rest_by most ahead path (Link m) = 0
rest_by most ahead path (Mark m) = 4
rest_by most ahead path (Tidy m) = 0
rest_by most ahead path (Value m) = 0
rest_by most ahead path (Ends m) = 0
rest_by most ahead path (Rests hand) = 0

-- by the keys that there are
abbrev pub confirming_rest : Layout → List ℕ → Path → Goal → ℕ
confirming_rest l words path goal = confirming_by (keys_from l words) path goal

abbrev pub rest_at : Layout → List ℕ → Path → At → ℕ
rest_at l words path at = rest_by (2 ^ 32) (keys_from l words) path at

-- one more search is to come where an exchange from a link that was loaded, or the exchange that runs, isn't won any more
abbrev pub unless : Bool → ℕ
unless true = 0
unless false = most_search

abbrev pub still : Place → List ℕ → LinkWord → Bool
still p words x = would_win p words x.word x.raw

abbrev pub confirming_again : Place → List ℕ → Path → Goal → ℕ
confirming_again p words path To_help = unless (still p words path.pred)
confirming_again p words path To_found = unless (still p words path.next)
confirming_again p words path To_absent = unless (still p words path.pred)

-- the search goes on from the link that the exchange wrote
abbrev pub help_again : Place → List ℕ → HeldExchange → Part → ℕ
help_again p words m (ToRead word) = 0
help_again p words m (HasRead word raw) = 0
help_again p words m ToWin = unless (wins_now p words m)
help_again p words m HasWon = unless (would_win p words m.word (dressed p.counted m.to))
help_again p words m HasWritten = unless (would_win p words m.word (dressed p.counted m.to))
help_again p words m (HasLost found) = most_search
help_again p words m Other = 0

abbrev pub again_at : Place → List ℕ → Path → At → ℕ
again_at p words path (Head m) = 0
again_at p words path (Next m) = unless (still p words path.pred)
again_at p words path (Key m) = unless (still p words path.pred && still p words path.next)
again_at p words path (Confirming goal which m) = confirming_again p words path goal
again_at p words path (Help m) = help_again p words m (exchange_part m.at)
again_at p words path (Row m) = unless (still p words path.pred)
again_at p words path (Words m) = unless (still p words path.pred)
again_at p words path (RowValue m) = unless (still p words path.pred)
again_at p words path (Link m) = unless (wins_now p words m)
again_at p words path (Mark m) = unless (wins_now p words m)
again_at p words path (Tidy m) = 0
again_at p words path (Value m) = 0
again_at p words path (Ends m) = 0
again_at p words path (Rests hand) = 0

-- the most that may follow the machine of a call, as the words with their tag bits stand now
abbrev pub list_behind : Layout → Place → List ℕ → HeldOp → ℕ
list_behind l p words op = rest_at l words op.path op.at + again_at p words op.path op.at

-- it opens at each lawful image, with free rows of it as its pool; each word has one of the layout's slots
pub record Opens (l : Layout) (p : Place) (free : List ℕ) (o : Opening) : Type 0 where
  pub lawful : IsOpening l o
  pub pool : free ≡ o.free
  pub slots : (word : ℕ) → word < words_of l → IsSlot p.counted l.slots (p.slot word)

-- the bounds of a list or a hash table, with this bound of a try and what is allowed of it
abbrev pub limits_with : Layout → Place → List ℕ → Option ℕ → (View → HeldOp → ℕ) → Limits HeldOp
limits_with l p free bound allowed = record {
  opens = λ o. Opens l p free o;
  behind = λ words op. list_behind l p words op;
  bound = bound;
  allowed = allowed;
}
