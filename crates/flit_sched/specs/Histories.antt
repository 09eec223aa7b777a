-- Reads put in order: one way to sort them, and how a history takes up the reads of a position from the front.
use Rattle.std.specs.Prelude.{ℕ, ◌==◌, ◌&&◌, ◌||◌, Bool, nat_lt, List, [], ◌∷◌, if◌then◌else◌}
use Rattle.flit_model.specs.Histories.{stands_before}
use Rattle.flit_model.specs.declared.calls.Entry.{Entry}
use Rattle.flit_model.specs.declared.calls.Placed.{Placed}

-- reads stand by position, then by worker and number
abbrev pub placed_before : Placed → Placed → Bool
placed_before q r = nat_lt q.position r.position || ((q.position == r.position) && stands_before q.entry r.entry)

-- a list put in order one by one, from its last element to its first
abbrev pub put_by : {X : Type 0} → (X → X → Bool) → X → List X → List X
put_by le x [] = x ∷ []
put_by le x (y ∷ ys) = if le x y then x ∷ y ∷ ys else y ∷ put_by le x ys

abbrev pub in_order_by : {X : Type 0} → (X → X → Bool) → List X → List X
in_order_by le [] = []
in_order_by le (x ∷ xs) = put_by le x (in_order_by le xs)

abbrev pub placed_in_order : List Placed → List Placed
placed_in_order rs = in_order_by placed_before rs

-- the entries of the reads of a position at the front, and the reads behind these
abbrev pub front_at : ℕ → List Placed → List Entry
front_at n [] = []
front_at n (r ∷ rs) = if r.position == n then r.entry ∷ front_at n rs else []

abbrev pub behind_front : ℕ → List Placed → List Placed
behind_front n [] = []
behind_front n (r ∷ rs) = if r.position == n then behind_front n rs else r ∷ rs
