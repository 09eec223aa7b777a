-- Whether one more search is to come: where a call goes on without an event of a word, no more than before.
use Rattle.std.proofs.Common.{◌≡◌, ℕ, ◌==◌, ◌≤◌, ◌&&◌, nat_le, not, Bool, true, false, List, Option, Some, None, is_none, refl, arith, if◌then◌else◌}
use Rattle.flit_words.specs.declared.layouts.Layout.{Layout}
use Rattle.flit_words.specs.Layouts.{value_word_of}
use Rattle.flit_words.specs.Words.{version_of}
use Rattle.flit_model.specs.declared.calls.Call.{Call}
use Rattle.flit_model.specs.declared.calls.Call.TheVariants.{Insert, Remove, Contains, Get}
use Rattle.flit_model.specs.declared.calls.Reply.TheVariants.{Found}
use Rattle.flit_place.specs.Tags.{Place}
use Rattle.flit_pv.specs.declared.hands.Hand.{Hand}
use Rattle.flit_pv.specs.VLoads.{v_load_started}
use Rattle.flit_pv.specs.Confirms.{HeldConfirm, confirm_started, confirm_asked, confirm_left}
use Rattle.flit_rows.specs.declared.take_row.Took.TheVariants.{Taken, None as NoRow}
use Rattle.flit_rows.specs.declared.take_row.Taking.{Taking}
use Rattle.flit_rows.specs.declared.take_row.Taking.TheVariants.{Draws, Ended as Take_ended}
use Rattle.flit_rows.specs.Taking.{HeldTake, take_started}
use Rattle.flit_list_steps.specs.declared.operations.LinkWord.{LinkWord}
use Rattle.flit_list_steps.specs.declared.operations.Path.{Path}
use Rattle.flit_list_steps.specs.declared.operations.Goal.{Goal}
use Rattle.flit_list_steps.specs.declared.operations.Goal.TheVariants.{Help as To_help, Found as To_found, Absent as To_absent}
use Rattle.flit_list_steps.specs.declared.operations.Which.{Which}
use Rattle.flit_list_steps.specs.declared.operations.Which.TheVariants.{Back as The_back, Pred as The_pred, Next as The_next}
use Rattle.flit_list_steps.specs.Operations.{Next, Confirming, HeldOp}
use Rattle.flit_list_steps.specs.Steps.{Carried, stands, row_of, to_row, remover, to_row_marked, link_word, own_row, row_at, answers, tidy_next, tidies, mark_next, marks, link_next, links, stores_value, row_by, takes_row, value_next, found, absent, help_starts, helps, reached, path_confirmed, with_confirmed, confirms_by, wants_next, next_confirmed, confirms_next, pred_confirmed, confirms_pred, back_is_confirmed, confirms_back, confirms, confirmed, looks}
use Rattle.flit_list_limits.specs.ListLimits.{unless, still, confirming_again, again_at}
use Rattle.flit_list_limits.proofs.Carrying.{worn_one, fresh_one}

pub nothing : (n : ℕ) → 0 ≤ n
nothing n = omega arith

pub same_le : (a b : ℕ) → a ≡ b → a ≤ b
same_le a b e = omega (arith, e)

module _ (l : Layout) (p : Place) (free : List ℕ) (words : List ℕ) where
  -- one more search may follow a machine
  abbrev pub again : HeldOp → ℕ
  again next = again_at p words next.path next.at

  -- that a link isn't as it was loaded
  abbrev pub moved : LinkWord → ℕ
  moved x = unless (still p words x)

  -- ---- exchanges, which may be worn at once

  link_either : (op : Carried) (hand : Hand) (value : ℕ) (b : Bool) → let pred = op.path.pred in
      again (link_next l op (if b then worn_one hand pred.word pred.raw else fresh_one hand pred.word pred.raw value)) ≤ moved pred
  link_either op hand value true = nothing (moved op.path.pred)
  link_either op hand value false = same_le (moved op.path.pred) (moved op.path.pred) refl

  pub link_again : (op : Carried) (hand : Hand) → again (links l op hand) ≤ moved op.path.pred
  link_again op hand = link_either op hand (to_row (own_row hand)) (nat_le l.limit (version_of op.path.pred.raw))

  mark_either : (op : Carried) (hand : Hand) (value : ℕ) (b : Bool) → let next = op.path.next in
      again (mark_next l op (if b then worn_one hand next.word next.raw else fresh_one hand next.word next.raw value)) ≤ moved next
  mark_either op hand value true = nothing (moved op.path.next)
  mark_either op hand value false = same_le (moved op.path.next) (moved op.path.next) refl

  pub mark_again : (op : Carried) (hand : Hand) → again (marks l op hand) ≤ moved op.path.next
  mark_again op hand = mark_either op hand (to_row_marked (row_of op.path.next.raw) (remover l hand)) (nat_le l.limit (version_of op.path.next.raw))

  tidy_either : (op : Carried) (hand : Hand) (word old value n : ℕ) (b : Bool) →
      again (tidy_next op (if b then worn_one hand word old else fresh_one hand word old value)) ≤ n
  tidy_either op hand word old value n true = nothing n
  tidy_either op hand word old value n false = nothing n

  pub tidy_again : (op : Carried) (hand : Hand) (n : ℕ) → again (tidies l op hand) ≤ n
  tidy_again op hand n =
      tidy_either op hand op.path.pred.word op.path.pred.raw (to_row (row_of op.path.next.raw)) n (nat_le l.limit (version_of op.path.pred.raw))

  help_either : (op : Carried) (hand : Hand) (value : ℕ) (b : Bool) → let pred = op.path.pred in
      again (let m = (if b then worn_one hand pred.word pred.raw else fresh_one hand pred.word pred.raw value) in help_starts op m m.at) ≤ moved pred
  help_either op hand value true = nothing (moved op.path.pred)
  help_either op hand value false = same_le (moved op.path.pred) (moved op.path.pred) refl

  pub help_again : (op : Carried) (hand : Hand) → again (helps l op hand) ≤ moved op.path.pred
  help_again op hand = help_either op hand (to_row (row_of op.path.next.raw)) (nat_le l.limit (version_of op.path.pred.raw))

  -- ---- a row

  pub stored_again : (op : Carried) (hand : Hand) (value : ℕ) (b : Bool) →
      again (if b then stores_value l op hand value else links l op hand) ≤ moved op.path.pred
  stored_again op hand value true = same_le (moved op.path.pred) (moved op.path.pred) refl
  stored_again op hand value false = link_again op hand

  take_at : (op : Carried) (hand : Hand) (at : Taking) → again (row_by l op (record { hand = hand; need = 1; at = at }) at) ≤ moved op.path.pred
  take_at op hand Draws = same_le (moved op.path.pred) (moved op.path.pred) refl
  take_at op hand (Take_ended Taken) = same_le (moved op.path.pred) (moved op.path.pred) refl
  take_at op hand (Take_ended (NoRow ticket)) = nothing (moved op.path.pred)

  pub take_again : (op : Carried) (hand : Hand) → again (takes_row l free op hand) ≤ moved op.path.pred
  take_again op hand = let m : HeldTake = take_started free hand 1 in take_at op hand m.at

  -- ---- the end of a search

  get_either : (op : Carried) (hand : Hand) (word n : ℕ) (b : Bool) →
      again (if b then value_next op (v_load_started hand word) else answers op hand (Found 0)) ≤ n
  get_either op hand word n true = nothing n
  get_either op hand word n false = nothing n

  found_again : (op : Carried) (hand : Hand) (c : Call) → again (found l op hand c) ≤ moved op.path.next
  found_again op hand (Insert k v) = nothing (moved op.path.next)
  found_again op hand (Remove k) = mark_again op hand
  found_again op hand (Contains k) = nothing (moved op.path.next)
  found_again op hand (Get k) = get_either op hand (value_word_of l (row_at op.path)) (moved op.path.next) l.values

  absent_again : (op : Carried) (hand : Hand) (c : Call) → again (absent l free op hand c) ≤ moved op.path.pred
  absent_again op hand (Insert k v) = take_again op hand
  absent_again op hand (Remove k) = nothing (moved op.path.pred)
  absent_again op hand (Contains k) = nothing (moved op.path.pred)
  absent_again op hand (Get k) = nothing (moved op.path.pred)

  -- it goes on from links that it confirms for this goal
  abbrev pub Again : Path → Goal → HeldOp → Type 0
  Again path goal next = again next ≤ confirming_again p words path goal

  reached_again : (op : Carried) (hand : Hand) (goal : Goal) → Again op.path goal (reached l free op hand goal)
  unfolding reached
  reached_again op hand To_help = help_again op hand
  reached_again op hand To_found = found_again op hand op.call
  reached_again op hand To_absent = absent_again op hand op.call

  -- ---- confirmations

  confirm_either : (op : Carried) (goal : Goal) (which : Which) (m : HeldConfirm) (next : HeldOp) → Again op.path goal next → (t : Bool) →
      Again op.path goal (if t then next else stands op (Confirming goal which m))
  confirm_either op goal which m next a true = a
  confirm_either op goal which m next a false = same_le (confirming_again p words op.path goal) (confirming_again p words op.path goal) refl

  -- that a link is confirmed changes neither its word nor what it has held
  same_again : (path : Path) (goal : Goal) (which : Which) → confirming_again p words (path_confirmed path which) goal ≡ confirming_again p words path goal
  same_again path To_help The_back = refl
  same_again path To_help The_pred = refl
  same_again path To_help The_next = refl
  same_again path To_found The_back = refl
  same_again path To_found The_pred = refl
  same_again path To_found The_next = refl
  same_again path To_absent The_back = refl
  same_again path To_absent The_pred = refl
  same_again path To_absent The_next = refl

  as_before : (path : Path) (goal : Goal) (which : Which) (next : HeldOp) → Again (path_confirmed path which) goal next → Again path goal next
  as_before path goal which next a = up (again next) (confirming_again p words (path_confirmed path which) goal) (confirming_again p words path goal) a
      (same_again path goal which)
    where
      up : (a b c : ℕ) → a ≤ b → b ≡ c → a ≤ c
      up a b c h e = omega (arith, h, e)

  next_again : (op : Carried) (hand : Hand) (goal : Goal) → Again op.path goal (next_confirmed l free op hand goal)
  next_again op hand goal = as_before op.path goal The_next (next_confirmed l free op hand goal) (reached_again (with_confirmed op The_next) hand goal)

  next_either : (op : Carried) (hand : Hand) (goal : Goal) (b : Bool) → Again op.path goal (if b
      then (let m = confirm_started hand op.path.next.word op.path.next.raw in
      confirms_by p op goal The_next m (next_confirmed l free op (confirm_left m) goal))
      else reached l free op hand goal)
  next_either op hand goal true =
      let m : HeldConfirm = confirm_started hand op.path.next.word op.path.next.raw in
      confirm_either op goal The_next m (next_confirmed l free op (confirm_left m) goal) (next_again op (confirm_left m) goal) (is_none (confirm_asked p m))
  next_either op hand goal false = reached_again op hand goal

  confirms_next_again : (op : Carried) (hand : Hand) (goal : Goal) → Again op.path goal (confirms_next l p free op hand goal)
  unfolding confirms_next
  confirms_next_again op hand goal = next_either op hand goal (wants_next goal && not op.path.next.confirmed)

  pred_again : (op : Carried) (hand : Hand) (goal : Goal) → Again op.path goal (pred_confirmed l p free op hand goal)
  pred_again op hand goal = as_before op.path goal The_pred (pred_confirmed l p free op hand goal) (confirms_next_again (with_confirmed op The_pred) hand goal)

  pred_either : (op : Carried) (hand : Hand) (goal : Goal) (b : Bool) → Again op.path goal (if b
      then confirms_next l p free op hand goal
      else (let m = confirm_started hand op.path.pred.word op.path.pred.raw in
      confirms_by p op goal The_pred m (pred_confirmed l p free op (confirm_left m) goal)))
  pred_either op hand goal true = confirms_next_again op hand goal
  pred_either op hand goal false =
      let m : HeldConfirm = confirm_started hand op.path.pred.word op.path.pred.raw in
      confirm_either op goal The_pred m (pred_confirmed l p free op (confirm_left m) goal) (pred_again op (confirm_left m) goal) (is_none (confirm_asked p m))

  confirms_pred_again : (op : Carried) (hand : Hand) (goal : Goal) → Again op.path goal (confirms_pred l p free op hand goal)
  unfolding confirms_pred
  confirms_pred_again op hand goal = pred_either op hand goal op.path.pred.confirmed

  back_again : (op : Carried) (hand : Hand) (goal : Goal) → Again op.path goal (back_is_confirmed l p free op hand goal)
  back_again op hand goal = as_before op.path goal The_back (back_is_confirmed l p free op hand goal)
      (confirms_pred_again (with_confirmed op The_back) hand goal)

  back_either : (op : Carried) (hand : Hand) (goal : Goal) (back : LinkWord) (b : Bool) → Again op.path goal (if b
      then confirms_pred l p free op hand goal
      else (let m = confirm_started hand back.word back.raw in
      confirms_by p op goal The_back m (back_is_confirmed l p free op (confirm_left m) goal)))
  back_either op hand goal back true = confirms_pred_again op hand goal
  back_either op hand goal back false =
      let m : HeldConfirm = confirm_started hand back.word back.raw in
      confirm_either op goal The_back m (back_is_confirmed l p free op (confirm_left m) goal) (back_again op (confirm_left m) goal)
      (is_none (confirm_asked p m))

  confirms_back_again : (op : Carried) (hand : Hand) (goal : Goal) (o : Option LinkWord) → Again op.path goal (confirms_back l p free op hand goal o)
  confirms_back_again op hand goal None = confirms_pred_again op hand goal
  confirms_back_again op hand goal (Some back) = back_either op hand goal back back.confirmed

  pub confirms_again : (op : Carried) (hand : Hand) (goal : Goal) → Again op.path goal (confirms l p free op hand goal)
  unfolding confirms
  confirms_again op hand goal = confirms_back_again op hand goal op.path.back

  -- one of them has ended
  pub confirmed_again : (op : Carried) (hand : Hand) (goal : Goal) (which : Which) → Again op.path goal (confirmed l p free op hand goal which)
  confirmed_again op hand goal The_back = back_again op hand goal
  confirmed_again op hand goal The_pred = pred_again op hand goal
  confirmed_again op hand goal The_next = next_again op hand goal

  -- ---- the search

  looks_either : (op : Carried) (hand : Hand) (b : Bool) →
      again (if b then confirms l p free op hand To_absent else stands op (Next (v_load_started hand (link_word l (row_at op.path))))) ≤ moved op.path.pred
  looks_either op hand true = confirms_again op hand To_absent
  looks_either op hand false = same_le (moved op.path.pred) (moved op.path.pred) refl

  pub looks_again : (op : Carried) (hand : Hand) → again (looks l p free op hand) ≤ moved op.path.pred
  unfolding looks
  looks_again op hand = looks_either op hand (row_at op.path == 0)
