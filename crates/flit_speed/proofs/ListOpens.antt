-- The list that is searched may be opened on fresh words.
use Rattle.std.proofs.Common.{◌≡◌, ◌∙◌, ℕ, List, refl, sym, ap, subst, arith}
use Rattle.flit_words.specs.declared.layouts.Layout.{Layout}
use Rattle.flit_model.specs.States.{State, fresh_state, state_from}
use Rattle.flit_model.specs.declared.found.Recovered.{Recovered}
use Rattle.flit_hashed.specs.Slots.{slot_in_table, in_table}
use Rattle.flit_hashed.specs.declared.Hashed.{Hashed}
use Rattle.flit_structure.specs.Lawful.{IsOpening}
use Rattle.flit_list_limits.specs.ListLimits.{Opens}
use Rattle.flit_list.specs.declared.lists.List.{List as A_list}
use Rattle.flit_sched.specs.Openings.{opening_at}
use Rattle.flit_speed.specs.Benches.{MayOpen, hashed}
use Rattle.flit_speed.specs.Searches.{IsListStart, long_list, searched}

pub list_opens : (rows : ℕ) (l : Layout) (slots : ℕ) (free : List ℕ) (start : Recovered) → l ≡ long_list rows → slots ≡ 8 → free ≡ start.free.items →
    IsOpening (long_list rows) (opening_at start) → Opens l (hashed slots) free (opening_at start)
list_opens rows l slots free start layout place pool lawful =
    subst (λ x. Opens x (hashed slots) free (opening_at start)) (sym layout)
    (subst (λ x. Opens (long_list rows) (hashed x) free (opening_at start)) (sym place)
    (record { lawful = lawful; pool = pool; slots = λ word below. (slot_in_table 8 word, refl, in_table 8 word (omega arith)) }))

-- a machine of fresh words stands where it may be opened
pub list_may_open : (rows : ℕ) (s : A_list Hashed) (start : Recovered) (m : State) → IsListStart rows s start → m ≡ fresh_state (long_list rows) →
    MayOpen (searched s) m
list_may_open rows s start m is state =
    (opening_at start, is.opens, state ∙ ap (state_from (long_list rows)) (sym is.words) ∙ ap (λ l. state_from l start.image.words.items) (sym is.layout))
