-- Edge words and their rows.
use Rattle.std.proofs.Common.{◌≡◌, ◌≢◌, ℕ, ◌≤◌, arith}
use Rattle.std.proofs.lemmas.Grind.{common_steps}
use Rattle.flit_tree_heap.specs.Edges.{left, right, own, other}

pub own-left : (r : ℕ) → own (left r) ≡ r
unfolding own left
own-left r = omega arith

pub own-right : (r : ℕ) → own (right r) ≡ r
unfolding own right
own-right r = omega arith

pub sides-apart : (r : ℕ) → 1 ≤ r → left r ≢ right r
unfolding left right
sides-apart r h e = omega arith

pub other-left : (r : ℕ) → 1 ≤ r → other (left r) ≡ right r
unfolding left right other
other-left r h = grind (arith, common_steps)

pub other-right : (r : ℕ) → 1 ≤ r → other (right r) ≡ left r
unfolding left right other
other-right r h = grind (arith, common_steps)

pub other-apart : (w : ℕ) → 1 ≤ own w → other w ≢ w
unfolding own other
other-apart w h e = grind (arith, common_steps)

pub own-four : own 4 ≡ 2
unfolding own
own-four = omega arith
