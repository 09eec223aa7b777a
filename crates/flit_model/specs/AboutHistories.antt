-- What placed reads leave of a list of updates.
use Rattle.std.specs.Prelude.{◌≡◌, ◌≤◌, List, map, filter, length, true}
use Rattle.std.specs.List.{AllByRecursion}
use Rattle.std.specs.List.Sorted.{IsPermutation}
use Rattle.flit_model.specs.Maps.{Map, IsLegal, map_after_all}
use Rattle.flit_model.specs.Histories.{is_update, is_read, history_of, IsRightAt}
use Rattle.flit_model.specs.declared.calls.Entry.{Entry}
use Rattle.flit_model.specs.declared.calls.Placed.{Placed}

-- reads that are put where their replies are right leave a legal list legal
abbrev pub ReadsLeaveLegal : Type 0
ReadsLeaveLegal =
    (m : Map) (updates : List Entry) (reads : List Placed) → IsLegal m updates →
    AllByRecursion (IsRightAt m updates) reads → IsLegal m (history_of updates reads)

-- they leave the map after the list as it was
abbrev pub ReadsLeaveMap : Type 0
ReadsLeaveMap =
    (m : Map) (updates : List Entry) (reads : List Placed) →
    AllByRecursion (IsRightAt m updates) reads →
    map_after_all m (history_of updates reads) ≡ map_after_all m updates

-- a history has the updates in their order
abbrev pub HasUpdatesInOrder : Type 0
HasUpdatesInOrder =
    (updates : List Entry) (reads : List Placed) →
    AllByRecursion (λ u. is_update u ≡ true) updates →
    AllByRecursion (λ r. is_read r.entry ≡ true) reads →
    filter is_update (history_of updates reads) ≡ updates

-- a history has each placed read once
abbrev pub HasReadsOnce : Type 0
HasReadsOnce =
    (updates : List Entry) (reads : List Placed) →
    AllByRecursion (λ u. is_update u ≡ true) updates →
    AllByRecursion (λ r. is_read r.entry ≡ true) reads →
    AllByRecursion (λ r. r.position ≤ length updates) reads →
    IsPermutation (map (λ r. r.entry) reads) (filter is_read (history_of updates reads))
