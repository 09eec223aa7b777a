-- What a call has to go where its search has come upon something, by the keys that there are.
use Rattle.std.proofs.Common.{ℕ, ◌+◌, ◌-◌, ◌*◌, ◌^◌, ◌==◌, ◌≤◌, Bool, true, false, List, length, arith, if◌then◌else◌}
use Rattle.flit_words.specs.declared.layouts.Layout.{Layout}
use Rattle.flit_model.specs.Lists.{key_in}
use Rattle.flit_place.specs.Tags.{Place}
use Rattle.flit_pv.specs.declared.hands.Hand.{Hand}
use Rattle.flit_pv.specs.VLoads.{v_load_started}
use Rattle.flit_crew_bounds.specs.Left.{machine_left}
use Rattle.flit_list_steps.specs.declared.operations.Goal.{Goal}
use Rattle.flit_list_steps.specs.declared.operations.Goal.TheVariants.{Help as To_help}
use Rattle.flit_list_steps.specs.declared.operations.Which.{Which}
use Rattle.flit_list_steps.specs.Operations.{Key, HeldOp}
use Rattle.flit_list_steps.specs.Steps.{Carried, stands, key_word, row_at, tidies, links, stores_value, stores, path_confirmed, confirms, confirmed, from_head, with_next, looks}
use Rattle.flit_list_laws.specs.ListAnatomy.{machine_at}
use Rattle.flit_list_limits.specs.ListLimits.{keys_from, keys_ahead, path_cost, confirming_rest, rest_at}
use Rattle.flit_list_limits.proofs.Paying as paying

-- no row has more keys from it on than there are
keys_most : (l : Layout) (words : List ℕ) (row : ℕ) → keys_from l words row ≤ 2 ^ 32
keys_most l words row = by_none (row == 0)
  where
    by_none : (b : Bool) → (if b then 0 else 2 ^ 32 - key_in l words row) ≤ 2 ^ 32
    by_none true = omega arith
    by_none false = omega arith

module _ (l : Layout) (p : Place) (free : List ℕ) (words : List ℕ) where
  -- a machine, and what may follow it in this search
  abbrev pub total : HeldOp → ℕ
  total next = machine_left (machine_at next.at) + rest_at l words next.path next.at

  -- it is within the hand's queue and n more
  abbrev pub Arrives : Hand → ℕ → HeldOp → Type 0
  Arrives hand n next = total next ≤ length hand.queue + n

  pub to_link : (op : Carried) (hand : Hand) → Arrives hand 4 (links l op hand)
  to_link op hand = paying.to_link l p free (2 ^ 32) (keys_from l words) op hand

  pub to_tidy : (op : Carried) (hand : Hand) → Arrives hand 4 (tidies l op hand)
  to_tidy op hand = paying.to_tidy l p free (2 ^ 32) (keys_from l words) op hand

  pub to_stored : (op : Carried) (hand : Hand) (value : ℕ) (b : Bool) → Arrives hand 7 (if b then stores_value l op hand value else links l op hand)
  to_stored op hand value b = paying.to_stored l p free (2 ^ 32) (keys_from l words) op hand value b

  pub to_stores : (op : Carried) (hand : Hand) → Arrives hand 13 (stores l op hand)
  to_stores op hand = paying.to_stores l p free (2 ^ 32) (keys_from l words) op hand

  -- ---- confirmations

  pub to_confirms : (op : Carried) (hand : Hand) (goal : Goal) → Arrives hand (confirming_rest l words op.path goal + 2) (confirms l p free op hand goal)
  to_confirms op hand goal = paying.to_confirms l p free (2 ^ 32) (keys_from l words) op hand goal

  -- one of the links has been confirmed
  pub to_confirmed : (op : Carried) (hand : Hand) (goal : Goal) (which : Which) →
      Arrives hand (confirming_rest l words (path_confirmed op.path which) goal + 2) (confirmed l p free op hand goal which)
  to_confirmed op hand goal which = paying.to_confirmed l p free (2 ^ 32) (keys_from l words) op hand goal which

  -- ---- loads

  pub to_looks : (op : Carried) (hand : Hand) → Arrives hand (7 * keys_ahead l words op.path + path_cost op.path + 15) (looks l p free op hand)
  to_looks op hand = paying.to_looks l p free (2 ^ 32) (keys_from l words) op hand

  -- a head was loaded
  pub to_head : (op : Carried) (hand : Hand) (word raw : ℕ) →
      Arrives hand (7 * 2 ^ 32 + 17) (looks l p free (record op { path = from_head op.path word raw }) hand)
  to_head op hand word raw = paying.to_head l p free (2 ^ 32) (keys_from l words) op hand word raw (keys_most l words)

  -- a row's link was loaded
  pub to_link_got : (op : Carried) (hand : Hand) (word raw : ℕ) (b : Bool) → Arrives hand (7 * keys_ahead l words op.path + path_cost op.path + 14) (if b
      then confirms l p free (record op { path = with_next op.path word raw }) hand To_help
      else stands (record op { path = with_next op.path word raw }) (Key (v_load_started hand (key_word l (row_at op.path)))))
  to_link_got op hand word raw b = paying.to_link_got l p free (2 ^ 32) (keys_from l words) op hand word raw b
