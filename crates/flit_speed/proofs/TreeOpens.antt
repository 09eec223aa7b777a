-- The tree that is searched may be opened on fresh words.
use Rattle.std.proofs.Common.{◌≡◌, ◌∙◌, ℕ, List, refl, sym, ap, subst, arith}
use Rattle.flit_words.specs.declared.layouts.Layout.{Layout}
use Rattle.flit_model.specs.States.{State, fresh_state, state_from}
use Rattle.flit_model.specs.declared.found.Recovered.{Recovered}
use Rattle.flit_hashed.specs.Slots.{slot_in_table, in_table}
use Rattle.flit_hashed.specs.declared.Hashed.{Hashed}
use Rattle.flit_structure.specs.Lawful.{IsOpening}
use Rattle.flit_tree_limits.specs.TreeLimits.{Opens}
use Rattle.flit_tree.specs.declared.trees.Tree.{Tree as A_tree}
use Rattle.flit_sched.specs.Openings.{opening_at}
use Rattle.flit_speed.specs.Benches.{MayOpen, hashed}
use Rattle.flit_speed.specs.TreeSearches.{IsTreeStart, deep_tree, searched_tree}

pub tree_opens : (keys : ℕ) (l : Layout) (slots : ℕ) (free : List ℕ) (start : Recovered) → l ≡ deep_tree keys → slots ≡ 8 → free ≡ start.free.items →
    IsOpening (deep_tree keys) (opening_at start) → Opens l (hashed slots) free (opening_at start)
tree_opens keys l slots free start layout place pool lawful =
    subst (λ x. Opens x (hashed slots) free (opening_at start)) (sym layout)
    (subst (λ x. Opens (deep_tree keys) (hashed x) free (opening_at start)) (sym place)
    (record { lawful = lawful; pool = pool; slots = λ word below. (slot_in_table 8 word, refl, in_table 8 word (omega arith)) }))

-- a machine of fresh words stands where it may be opened
pub tree_may_open : (keys : ℕ) (s : A_tree Hashed) (start : Recovered) (m : State) → IsTreeStart keys s start → m ≡ fresh_state (deep_tree keys) →
    MayOpen (searched_tree s) m
tree_may_open keys s start m is state =
    (opening_at start, is.opens, state ∙ ap (state_from (deep_tree keys)) (sym is.words) ∙ ap (λ l. state_from l start.image.words.items) (sym is.layout))
