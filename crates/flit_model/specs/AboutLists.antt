-- Lists of entries one behind the other.
use Rattle.std.specs.Prelude.{◌≡◌, ◌++◌, ◌↔◌, List}
use Rattle.flit_model.specs.Maps.{Map, IsLegal, map_after_all}
use Rattle.flit_model.specs.declared.calls.Entry.{Entry}

-- a joined list of entries is legal exactly where its parts are, in turn
abbrev pub JoinedIsLegal : Type 0
JoinedIsLegal =
    (m : Map) (xs ys : List Entry) →
    IsLegal m (xs ++ ys) ↔ (IsLegal m xs × IsLegal (map_after_all m xs) ys)

-- it leaves the map that the second part leaves behind the first
abbrev pub JoinedLeavesMap : Type 0
JoinedLeavesMap =
    (m : Map) (xs ys : List Entry) →
    map_after_all m (xs ++ ys) ≡ map_after_all (map_after_all m xs) ys
