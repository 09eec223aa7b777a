-- How many events a try of a call of a list or a hash table may have made when its machine has ended: what a whole search
-- over the keys that are known may make, less what is left of it.
use Rattle.std.specs.Prelude.{ℕ, ◌+◌, ◌-◌, ◌*◌, ◌==◌, ◌&&◌, ◌||◌, nat_lt, not, Bool, true, false, List, filter, count_by, Some}
use Rattle.std.specs.List.{range_with_len}
use Rattle.flit_words.specs.declared.layouts.Layout.{Layout}
use Rattle.flit_model.specs.Maps.{key_of}
use Rattle.flit_model.specs.Lists.{key_in, stands_in}
use Rattle.flit_model.specs.declared.calls.Entry.{Entry}
use Rattle.flit_place.specs.Tags.{Place}
use Rattle.flit_structure.specs.Moments.{made}
use Rattle.flit_structure.specs.Lawful.{is_insert}
use Rattle.flit_crew.specs.Machines.{Part, ToRead, HasRead, ToWin, HasWon, HasWritten, HasLost, Other, exchange_part}
use Rattle.flit_crew_bounds.specs.Bounding.{View, Limits}
use Rattle.flit_list_steps.specs.declared.operations.Path.{Path}
use Rattle.flit_list_steps.specs.Operations.{At, Head, Next, Key, Confirming, Help, Row, Words, RowValue, Link, Mark, Tidy, Value, Ends, Rests, HeldOp}
use Rattle.flit_list_steps.specs.Steps.{row_at}
use Rattle.flit_list_limits.specs.ListLimits.{rest_by, limits_with}

-- the rows that aren't of the pool: every row that the start image reaches is one of them
unfoldable pub rows_beside : Layout → List ℕ → List ℕ
rows_beside l free = filter (λ row. not (stands_in free row)) (range_with_len 1 l.rows)

-- an insert of such a key
abbrev pub is_insert_of : (ℕ → Bool) → Entry → Bool
is_insert_of test e = is_insert e.call && test (key_of e.call)

-- the key is before this row's, or there is no row
unfoldable pub is_before : Layout → List ℕ → ℕ → ℕ → Bool
is_before l words row key = (row == 0) || nat_lt key (key_in l words row)

-- an exchange that is lost says nothing of its row any more
abbrev pub is_over : Part → Bool
is_over (ToRead word) = true
is_over (HasRead word raw) = true
is_over ToWin = false
is_over HasWon = false
is_over HasWritten = false
is_over (HasLost found) = true
is_over Other = true

module _ (l : Layout) (free : List ℕ) (v : View) where
  -- how many such keys are known: those of the rows beside the pool, as the start image has them, and those of the inserts
  -- that were made. Each linked row has a key of these, and none of them goes away
  unfoldable pub keys_known : (ℕ → Bool) → ℕ
  keys_known test = count_by (λ row. test (key_in l v.opening.words row)) (rows_beside l free) + count_by (is_insert_of test) (made v.progress)

  abbrev pub all_known : ℕ
  all_known = keys_known (λ key. true)

  -- and how many of them aren't before this row's
  abbrev pub keys_left : ℕ → ℕ
  keys_left row = all_known - keys_known (is_before l v.words row)

  abbrev pub help_left : Bool → Path → ℕ
  help_left true path = 8
  help_left false path = 7 * keys_left (row_at path) + 8

  -- what is left of a try behind the machine
  abbrev pub try_left : Path → At → ℕ
  try_left path (Head m) = rest_by all_known keys_left path (Head m)
  try_left path (Next m) = rest_by all_known keys_left path (Next m)
  try_left path (Key m) = rest_by all_known keys_left path (Key m)
  try_left path (Confirming goal which m) = rest_by all_known keys_left path (Confirming goal which m)
  try_left path (Help m) = help_left (is_over (exchange_part m.at)) path
  try_left path (Row m) = rest_by all_known keys_left path (Row m)
  try_left path (Words m) = rest_by all_known keys_left path (Words m)
  try_left path (RowValue m) = rest_by all_known keys_left path (RowValue m)
  try_left path (Link m) = rest_by all_known keys_left path (Link m)
  try_left path (Mark m) = rest_by all_known keys_left path (Mark m)
  try_left path (Tidy m) = rest_by all_known keys_left path (Tidy m)
  try_left path (Value m) = rest_by all_known keys_left path (Value m)
  try_left path (Ends m) = rest_by all_known keys_left path (Ends m)
  try_left path (Rests hand) = rest_by all_known keys_left path (Rests hand)

  abbrev pub whole_try : ℕ
  whole_try = 7 * all_known + 20

  -- how many events a try may have made when its machine has ended
  abbrev pub list_allowed : HeldOp → ℕ
  list_allowed op = whole_try - try_left op.path op.at

-- the bounds of a list or a hash table: a try makes at most ten events for each row of the layout, and forty
abbrev pub list_limits : Layout → Place → List ℕ → Limits HeldOp
list_limits l p free = limits_with l p free (Some (10 * l.rows + 40)) (λ v op. list_allowed l free v op)
