-- What a call has to go where its search has come upon something, by any measure of the rows that it may come upon: each
-- machine with what may follow it in this search is within what may follow the one before.
use Rattle.std.proofs.Common.{◌≡◌, ℕ, suc, ◌+◌, ◌*◌, ◌==◌, ◌≤◌, ◌&&◌, cond, max, nat_le, not, Bool, true, false, List, [], ◌∷◌, length, length-append, Option, Some, None, is_none, refl, ◌∙◌, ap, arith, if◌then◌else◌}
use Rattle.std.proofs.lemmas.Bool.{false≢true}
use Rattle.flit_words.specs.declared.layouts.Layout.{Layout}
use Rattle.flit_words.specs.Layouts.{value_word_of}
use Rattle.flit_words.specs.Words.{version_of, is_tagged, bare_of}
use Rattle.flit_model.specs.declared.calls.Call.{Call}
use Rattle.flit_model.specs.declared.calls.Call.TheVariants.{Insert, Remove, Contains, Get}
use Rattle.flit_model.specs.declared.calls.Reply.{Reply}
use Rattle.flit_model.specs.declared.calls.Reply.TheVariants.{Yes, No, Found, Full, Worn}
use Rattle.flit_place.specs.Tags.{Place}
use Rattle.flit_pv.specs.declared.hands.Hand.{Hand}
use Rattle.flit_pv.specs.Queues.{noted}
use Rattle.flit_pv.specs.Hands.{with_queued, with_omitted}
use Rattle.flit_pv.specs.VLoads.{v_load_started}
use Rattle.flit_pv.specs.Confirms.{HeldConfirm, confirm_started, confirm_asked, confirm_left}
use Rattle.flit_rows.specs.declared.take_row.Took.TheVariants.{Taken, None as NoRow}
use Rattle.flit_rows.specs.declared.take_row.Taking.{Taking}
use Rattle.flit_rows.specs.declared.take_row.Taking.TheVariants.{Draws, Ended as Take_ended}
use Rattle.flit_rows.specs.Taking.{take_started}
use Rattle.flit_crew_bounds.specs.Left.{machine_left, missing}
use Rattle.flit_list_steps.specs.declared.operations.LinkWord.{LinkWord}
use Rattle.flit_list_steps.specs.declared.operations.Path.{Path}
use Rattle.flit_list_steps.specs.declared.operations.Goal.{Goal}
use Rattle.flit_list_steps.specs.declared.operations.Goal.TheVariants.{Help as To_help, Found as To_found, Absent as To_absent}
use Rattle.flit_list_steps.specs.declared.operations.Which.{Which}
use Rattle.flit_list_steps.specs.declared.operations.Which.TheVariants.{Back as The_back, Pred as The_pred, Next as The_next}
use Rattle.flit_list_steps.specs.Operations.{Next, Key, Confirming, HeldOp}
use Rattle.flit_list_steps.specs.Steps.{Carried, stands, row_of, to_row, remover, to_row_marked, key_word, link_word, with_helped, own_row, row_at, answers, tidy_next, tidies, mark_next, marks, link_next, links, stores_value, stores, row_by, takes_row, value_next, found, absent, help_starts, helps, reached, back_confirmed, path_confirmed, with_confirmed, confirms_by, wants_next, next_confirmed, confirms_next, pred_confirmed, confirms_pred, back_is_confirmed, confirms_back, confirms, confirmed, looks, from_head, with_next, further, unlinked}
use Rattle.flit_list_laws.specs.ListAnatomy.{machine_at}
use Rattle.flit_list_limits.specs.ListLimits.{cost, back_cost, path_cost, next_cost, confirming_by, rest_by}
use Rattle.flit_list_limits.proofs.Carrying.{worn_one, fresh_one}

one_missing : (spare : List ℕ) → missing 1 spare ≤ 1
one_missing [] = omega arith
one_missing (r ∷ rs) = by_test (r == 0)
  where
    by_test : (b : Bool) → cond b (suc (missing 0 rs)) (missing 0 rs) ≤ 1
    by_test true = omega arith
    by_test false = omega arith

through : (a b c : ℕ) → a ≤ b → b ≤ c → a ≤ c
through a b c i j = omega (arith, i, j)

-- a confirmation that ends as it starts queues one word at most
started_left : (hand : Hand) (word raw : ℕ) → length (confirm_left (confirm_started hand word raw)).queue ≤ length hand.queue + 2
started_left hand word raw = by_tag (is_tagged raw)
  where
    by_tag : (b : Bool) → length (if b then with_queued hand word raw else with_omitted hand).queue ≤ length hand.queue + 2
    by_tag true = omega (arith, length-append hand.queue (noted word (bare_of raw) ∷ []))
    by_tag false = omega arith

and_first : (a b : Bool) → (a && b) ≡ true → a ≡ true
and_first true b q = refl
and_first false b q = q

and_not : (a b : Bool) → (a && not b) ≡ true → b ≡ false
and_not true true q = absurd (false≢true q)
and_not true false q = refl
and_not false b q = absurd (false≢true q)

module _ (l : Layout) (p : Place) (free : List ℕ) (most : ℕ) (ahead : ℕ → ℕ) where
  -- a machine, and what may follow it in this search
  abbrev pub total : HeldOp → ℕ
  total next = machine_left (machine_at next.at) + rest_by most ahead next.path next.at

  -- it is within the hand's queue and n more
  abbrev pub Arrives : Hand → ℕ → HeldOp → Type 0
  Arrives hand n next = total next ≤ length hand.queue + n

  within : (hand : Hand) (a b : ℕ) (next : HeldOp) → a ≤ b → Arrives hand a next → Arrives hand b next
  within hand a b next le h = up (total next) (length hand.queue) a b le h
    where
      up : (t q a b : ℕ) → a ≤ b → t ≤ q + a → t ≤ q + b
      up t q a b i j = omega (arith, i, j)

  pub to_answer : (op : Carried) (hand : Hand) (reply : Reply) (n : ℕ) → Arrives hand n (answers op hand reply)
  to_answer op hand reply n = ends_left (length hand.queue) n
    where
      ends_left : (q n : ℕ) → 0 + q + 0 ≤ q + n
      ends_left q n = omega arith

  -- an exchange starts, and n follow
  starts : (q n : ℕ) → 4 + q + n ≤ q + (4 + n)
  starts q n = omega arith

  link_either : (op : Carried) (hand : Hand) (word old value : ℕ) (b : Bool) →
      Arrives hand 4 (link_next l op (if b then worn_one hand word old else fresh_one hand word old value))
  link_either op hand word old value true = to_answer op hand (Worn word (version_of old)) 4
  link_either op hand word old value false = starts (length hand.queue) 0

  pub to_link : (op : Carried) (hand : Hand) → Arrives hand 4 (links l op hand)
  to_link op hand = link_either op hand op.path.pred.word op.path.pred.raw (to_row (own_row hand)) (nat_le l.limit (version_of op.path.pred.raw))

  mark_either : (op : Carried) (hand : Hand) (word old value : ℕ) (b : Bool) →
      Arrives hand 8 (mark_next l op (if b then worn_one hand word old else fresh_one hand word old value))
  mark_either op hand word old value true = to_answer op hand (Worn word (version_of old)) 8
  mark_either op hand word old value false = starts (length hand.queue) 4

  pub to_mark : (op : Carried) (hand : Hand) → Arrives hand 8 (marks l op hand)
  to_mark op hand = mark_either op hand op.path.next.word op.path.next.raw (to_row_marked (row_of op.path.next.raw) (remover l hand))
      (nat_le l.limit (version_of op.path.next.raw))

  tidy_either : (op : Carried) (hand : Hand) (word old value : ℕ) (b : Bool) →
      Arrives hand 4 (tidy_next op (if b then worn_one hand word old else fresh_one hand word old value))
  tidy_either op hand word old value true = to_answer op hand Yes 4
  tidy_either op hand word old value false = starts (length hand.queue) 0

  pub to_tidy : (op : Carried) (hand : Hand) → Arrives hand 4 (tidies l op hand)
  to_tidy op hand = tidy_either op hand op.path.pred.word op.path.pred.raw (to_row (row_of op.path.next.raw)) (nat_le l.limit (version_of op.path.pred.raw))

  help_either : (op : Carried) (hand : Hand) (word old value : ℕ) (b : Bool) → Arrives hand (4 + (7 * ahead (row_at op.path) + 8))
      (let m = (if b then worn_one hand word old else fresh_one hand word old value) in help_starts op m m.at)
  help_either op hand word old value true = to_answer op hand (Worn word (version_of old)) (4 + (7 * ahead (row_at op.path) + 8))
  help_either op hand word old value false = starts (length hand.queue) (7 * ahead (row_at op.path) + 8)

  pub to_help : (op : Carried) (hand : Hand) → Arrives hand (4 + (7 * ahead (row_at op.path) + 8)) (helps l op hand)
  to_help op hand = help_either op hand op.path.pred.word op.path.pred.raw (to_row (row_of op.path.next.raw)) (nat_le l.limit (version_of op.path.pred.raw))

  -- ---- a row

  pub to_value : (op : Carried) (hand : Hand) (value : ℕ) → Arrives hand 7 (stores_value l op hand value)
  to_value op hand value = value_left (length hand.queue)
    where
      value_left : (q : ℕ) → 3 * 1 + 2 * 0 + q + 4 ≤ q + 7
      value_left q = omega arith

  pub to_stored : (op : Carried) (hand : Hand) (value : ℕ) (b : Bool) → Arrives hand 7 (if b then stores_value l op hand value else links l op hand)
  to_stored op hand value true = to_value op hand value
  to_stored op hand value false = within hand 4 7 (links l op hand) (omega arith) (to_link op hand)

  pub to_stores : (op : Carried) (hand : Hand) → Arrives hand 13 (stores l op hand)
  to_stores op hand = words_left (length hand.queue)
    where
      words_left : (q : ℕ) → 3 * 2 + 2 * 0 + q + 7 ≤ q + 13
      words_left q = omega arith

  take_at : (op : Carried) (hand : Hand) (at : Taking) → Arrives hand 14 (row_by l op (record { hand = hand; need = 1; at = at }) at)
  take_at op hand Draws = draws (missing 1 hand.spare) (length hand.queue) (one_missing hand.spare)
    where
      draws : (m q : ℕ) → m ≤ 1 → max 1 m + q + 13 ≤ q + 14
      draws m q h = omega (arith, h)
  take_at op hand (Take_ended Taken) = within hand 13 14 (stores l op hand) (omega arith) (to_stores op hand)
  take_at op hand (Take_ended (NoRow ticket)) = to_answer op hand (Full ticket) 14

  pub to_take : (op : Carried) (hand : Hand) → Arrives hand 14 (takes_row l free op hand)
  to_take op hand = let m = take_started free hand 1 in take_at op hand m.at

  -- ---- the end of a search

  get_either : (op : Carried) (hand : Hand) (word : ℕ) (b : Bool) →
      Arrives hand 14 (if b then value_next op (v_load_started hand word) else answers op hand (Found 0))
  get_either op hand word true = loads (length hand.queue)
    where
      loads : (q : ℕ) → 1 + q + 0 ≤ q + 14
      loads q = omega arith
  get_either op hand word false = to_answer op hand (Found 0) 14

  pub to_found : (op : Carried) (hand : Hand) (c : Call) → Arrives hand 14 (found l op hand c)
  to_found op hand (Insert k v) = to_answer op hand No 14
  to_found op hand (Remove k) = within hand 8 14 (marks l op hand) (omega arith) (to_mark op hand)
  to_found op hand (Contains k) = to_answer op hand Yes 14
  to_found op hand (Get k) = get_either op hand (value_word_of l (row_at op.path)) l.values

  pub to_absent : (op : Carried) (hand : Hand) (c : Call) → Arrives hand 14 (absent l free op hand c)
  to_absent op hand (Insert k v) = to_take op hand
  to_absent op hand (Remove k) = to_answer op hand No 14
  to_absent op hand (Contains k) = to_answer op hand No 14
  to_absent op hand (Get k) = to_answer op hand No 14

  -- all is confirmed
  abbrev pub goal_left : Path → Goal → ℕ
  goal_left path To_help = 4 + (7 * ahead (row_at path) + 8)
  goal_left path To_found = 14
  goal_left path To_absent = 14

  pub to_reached : (op : Carried) (hand : Hand) (goal : Goal) → Arrives hand (goal_left op.path goal) (reached l free op hand goal)
  unfolding reached
  to_reached op hand To_help = to_help op hand
  to_reached op hand To_found = to_found op hand op.call
  to_reached op hand To_absent = to_absent op hand op.call

  -- ---- confirmations, each paid by the link that it confirms

  -- what may follow where these links are confirmed for this goal
  abbrev rest : Path → Goal → ℕ
  rest path goal = confirming_by ahead path goal + 2

  confirm_either : (op : Carried) (goal : Goal) (which : Which) (hand : Hand) (word raw : ℕ) (next : HeldOp) →
      Arrives (confirm_left (confirm_started hand word raw)) (rest (path_confirmed op.path which) goal) next →
      rest (path_confirmed op.path which) goal + 2 ≤ rest op.path goal → (t : Bool) →
      Arrives hand (rest op.path goal) (if t then next else stands op (Confirming goal which (confirm_started hand word raw)))
  confirm_either op goal which hand word raw next near less true =
      up (total next) (length (confirm_left (confirm_started hand word raw)).queue) (length hand.queue)
      (rest (path_confirmed op.path which) goal) (rest op.path goal) near (started_left hand word raw) less
    where
      up : (t x q a b : ℕ) → t ≤ x + a → x ≤ q + 2 → a + 2 ≤ b → t ≤ q + b
      up t x q a b i j k = omega (arith, i, j, k)
  confirm_either op goal which hand word raw next near less false = here (length hand.queue) (rest (path_confirmed op.path which) goal) (rest op.path goal) less
    where
      here : (q r b : ℕ) → r + 2 ≤ b → 2 + q + r ≤ q + b
      here q r b h = omega (arith, h)

  -- ---- the next link

  none_less : (path : Path) (goal : Goal) → goal_left path goal ≤ rest path goal
  none_less path To_help = help (ahead (row_at path)) (back_cost path.back + cost path.pred.confirmed + cost path.next.confirmed)
    where
      help : (k n : ℕ) → 4 + (7 * k + 8) ≤ 7 * k + n + 10 + 2
      help k n = omega arith
  none_less path To_found = found_so (back_cost path.back + cost path.pred.confirmed + cost path.next.confirmed)
    where
      found_so : (n : ℕ) → 14 ≤ n + 12 + 2
      found_so n = omega arith
  none_less path To_absent = absent_so (back_cost path.back + cost path.pred.confirmed)
    where
      absent_so : (n : ℕ) → 14 ≤ n + 12 + 2
      absent_so n = omega arith

  next_less : (path : Path) (goal : Goal) → wants_next goal ≡ true → path.next.confirmed ≡ false → rest (path_confirmed path The_next) goal + 2 ≤ rest path goal
  next_less path To_help wants e = help (ahead (row_at path)) (back_cost path.back + cost path.pred.confirmed) (cost path.next.confirmed) (ap cost e)
    where
      help : (k n c : ℕ) → c ≡ 2 → 7 * k + (n + 0) + 10 + 2 + 2 ≤ 7 * k + (n + c) + 10 + 2
      help k n c e = omega (arith, e)
  next_less path To_found wants e = found_so (back_cost path.back + cost path.pred.confirmed) (cost path.next.confirmed) (ap cost e)
    where
      found_so : (n c : ℕ) → c ≡ 2 → n + 0 + 12 + 2 + 2 ≤ n + c + 12 + 2
      found_so n c e = omega (arith, e)
  next_less path To_absent wants e = absurd (false≢true wants)

  all_reached : (op : Carried) (hand : Hand) (goal : Goal) → Arrives hand (rest op.path goal) (reached l free op hand goal)
  all_reached op hand goal = up (total (reached l free op hand goal)) (length hand.queue) (goal_left op.path goal)
      (rest op.path goal) (to_reached op hand goal) (none_less op.path goal)
    where
      up : (t q a b : ℕ) → t ≤ q + a → a ≤ b → t ≤ q + b
      up t q a b i j = omega (arith, i, j)

  next_either : (op : Carried) (hand : Hand) (goal : Goal) (b : Bool) → (wants_next goal && not op.path.next.confirmed) ≡ b →
      Arrives hand (rest op.path goal) (if b
      then (let m = confirm_started hand op.path.next.word op.path.next.raw in
      confirms_by p op goal The_next m (next_confirmed l free op (confirm_left m) goal))
      else reached l free op hand goal)
  next_either op hand goal true e =
      let m : HeldConfirm = confirm_started hand op.path.next.word op.path.next.raw in
      confirm_either op goal The_next hand op.path.next.word op.path.next.raw (next_confirmed l free op (confirm_left m) goal)
      (all_reached (with_confirmed op The_next) (confirm_left m) goal)
      (next_less op.path goal (and_first (wants_next goal) (not op.path.next.confirmed) e) (and_not (wants_next goal) op.path.next.confirmed e))
      (is_none (confirm_asked p m))
  next_either op hand goal false e = all_reached op hand goal

  pub to_next : (op : Carried) (hand : Hand) (goal : Goal) → Arrives hand (rest op.path goal) (confirms_next l p free op hand goal)
  unfolding confirms_next
  to_next op hand goal = next_either op hand goal (wants_next goal && not op.path.next.confirmed) refl

  -- ---- the link behind which the key belongs

  pred_less : (path : Path) (goal : Goal) → path.pred.confirmed ≡ false → rest (path_confirmed path The_pred) goal + 2 ≤ rest path goal
  pred_less path To_help e = help (ahead (row_at path)) (back_cost path.back) (cost path.pred.confirmed) (cost path.next.confirmed) (ap cost e)
    where
      help : (k b c n : ℕ) → c ≡ 2 → 7 * k + (b + 0 + n) + 10 + 2 + 2 ≤ 7 * k + (b + c + n) + 10 + 2
      help k b c n e = omega (arith, e)
  pred_less path To_found e = found_so (back_cost path.back) (cost path.pred.confirmed) (cost path.next.confirmed) (ap cost e)
    where
      found_so : (b c n : ℕ) → c ≡ 2 → b + 0 + n + 12 + 2 + 2 ≤ b + c + n + 12 + 2
      found_so b c n e = omega (arith, e)
  pred_less path To_absent e = absent_so (back_cost path.back) (cost path.pred.confirmed) (ap cost e)
    where
      absent_so : (b c : ℕ) → c ≡ 2 → b + 0 + 12 + 2 + 2 ≤ b + c + 12 + 2
      absent_so b c e = omega (arith, e)

  pred_either : (op : Carried) (hand : Hand) (goal : Goal) (b : Bool) → op.path.pred.confirmed ≡ b → Arrives hand (rest op.path goal) (if b
      then confirms_next l p free op hand goal
      else (let m = confirm_started hand op.path.pred.word op.path.pred.raw in
      confirms_by p op goal The_pred m (pred_confirmed l p free op (confirm_left m) goal)))
  pred_either op hand goal true e = to_next op hand goal
  pred_either op hand goal false e =
      let m : HeldConfirm = confirm_started hand op.path.pred.word op.path.pred.raw in
      confirm_either op goal The_pred hand op.path.pred.word op.path.pred.raw (pred_confirmed l p free op (confirm_left m) goal)
      (to_next (with_confirmed op The_pred) (confirm_left m) goal) (pred_less op.path goal e)
      (is_none (confirm_asked p m))

  pub to_pred : (op : Carried) (hand : Hand) (goal : Goal) → Arrives hand (rest op.path goal) (confirms_pred l p free op hand goal)
  unfolding confirms_pred
  to_pred op hand goal = pred_either op hand goal op.path.pred.confirmed refl

  -- ---- the link that led to its row

  back_less : (path : Path) (goal : Goal) → back_cost path.back ≡ 2 → back_cost (back_confirmed path.back) ≡ 0 →
      rest (path_confirmed path The_back) goal + 2 ≤ rest path goal
  back_less path To_help e z = help (ahead (row_at path)) (back_cost path.back) (back_cost (back_confirmed path.back)) (cost path.pred.confirmed)
      (cost path.next.confirmed) e z
    where
      help : (k b z c n : ℕ) → b ≡ 2 → z ≡ 0 → 7 * k + (z + c + n) + 10 + 2 + 2 ≤ 7 * k + (b + c + n) + 10 + 2
      help k b z c n e f = omega (arith, e, f)
  back_less path To_found e z = found_so (back_cost path.back) (back_cost (back_confirmed path.back)) (cost path.pred.confirmed) (cost path.next.confirmed) e z
    where
      found_so : (b z c n : ℕ) → b ≡ 2 → z ≡ 0 → z + c + n + 12 + 2 + 2 ≤ b + c + n + 12 + 2
      found_so b z c n e f = omega (arith, e, f)
  back_less path To_absent e z = absent_so (back_cost path.back) (back_cost (back_confirmed path.back)) (cost path.pred.confirmed) e z
    where
      absent_so : (b z c : ℕ) → b ≡ 2 → z ≡ 0 → z + c + 12 + 2 + 2 ≤ b + c + 12 + 2
      absent_so b z c e f = omega (arith, e, f)

  back_either : (op : Carried) (hand : Hand) (goal : Goal) (back : LinkWord) → op.path.back ≡ Some back → (b : Bool) → back.confirmed ≡ b →
      Arrives hand (rest op.path goal) (if b
      then confirms_pred l p free op hand goal
      else (let m = confirm_started hand back.word back.raw in
      confirms_by p op goal The_back m (back_is_confirmed l p free op (confirm_left m) goal)))
  back_either op hand goal back is true e = to_pred op hand goal
  back_either op hand goal back is false e =
      let m : HeldConfirm = confirm_started hand back.word back.raw in
      confirm_either op goal The_back hand back.word back.raw (back_is_confirmed l p free op (confirm_left m) goal)
      (to_pred (with_confirmed op The_back) (confirm_left m) goal)
      (back_less op.path goal (ap back_cost is ∙ ap cost e) (ap (λ o. back_cost (back_confirmed o)) is)) (is_none (confirm_asked p m))

  to_back : (op : Carried) (hand : Hand) (goal : Goal) (o : Option LinkWord) → op.path.back ≡ o →
      Arrives hand (rest op.path goal) (confirms_back l p free op hand goal o)
  to_back op hand goal None is = to_pred op hand goal
  to_back op hand goal (Some back) is = back_either op hand goal back is back.confirmed refl

  pub to_confirms : (op : Carried) (hand : Hand) (goal : Goal) → Arrives hand (rest op.path goal) (confirms l p free op hand goal)
  unfolding confirms
  to_confirms op hand goal = to_back op hand goal op.path.back refl

  -- one of them has ended
  pub to_confirmed : (op : Carried) (hand : Hand) (goal : Goal) (which : Which) →
      Arrives hand (rest (path_confirmed op.path which) goal) (confirmed l p free op hand goal which)
  to_confirmed op hand goal The_back = to_pred (with_confirmed op The_back) hand goal
  to_confirmed op hand goal The_pred = to_next (with_confirmed op The_pred) hand goal
  to_confirmed op hand goal The_next = all_reached (with_confirmed op The_next) hand goal

  -- ---- loads

  -- the row that a link leads to is looked at, or there is none
  looks_either : (op : Carried) (hand : Hand) (b : Bool) → Arrives hand (7 * ahead (row_at op.path) + path_cost op.path + 15)
      (if b then confirms l p free op hand To_absent else stands op (Next (v_load_started hand (link_word l (row_at op.path)))))
  looks_either op hand true = up (total (confirms l p free op hand To_absent)) (length hand.queue) (ahead (row_at op.path)) (path_cost op.path)
      (to_confirms op hand To_absent)
    where
      up : (t q k c : ℕ) → t ≤ q + (c + 12 + 2) → t ≤ q + (7 * k + c + 15)
      up t q k c h = omega (arith, h)
  looks_either op hand false = here (length hand.queue) (ahead (row_at op.path)) (path_cost op.path)
    where
      here : (q k c : ℕ) → 1 + q + (7 * k + c + 14) ≤ q + (7 * k + c + 15)
      here q k c = omega arith

  pub to_looks : (op : Carried) (hand : Hand) → Arrives hand (7 * ahead (row_at op.path) + path_cost op.path + 15) (looks l p free op hand)
  unfolding looks
  to_looks op hand = looks_either op hand (row_at op.path == 0)

  -- a head was loaded: what is left is within what may follow its load
  pub to_head : (op : Carried) (hand : Hand) (word raw : ℕ) → ((row : ℕ) → ahead row ≤ most) →
      Arrives hand (7 * most + 17) (looks l p free (record op { path = from_head op.path word raw }) hand)
  to_head op hand word raw few = up (total (looks l p free (record op { path = from_head op.path word raw }) hand)) (length hand.queue)
      (ahead (row_at (from_head op.path word raw))) most (few (row_at (from_head op.path word raw)))
      (to_looks (record op { path = from_head op.path word raw }) hand)
    where
      up : (t q k n : ℕ) → k ≤ n → t ≤ q + (7 * k + (0 + 2) + 15) → t ≤ q + (7 * n + 17)
      up t q k n i h = omega (arith, i, h)

  -- a row's link was loaded: it is marked, and the row is to be unlinked, or its key comes next
  pub to_link_got : (op : Carried) (hand : Hand) (word raw : ℕ) (b : Bool) →
      Arrives hand (7 * ahead (row_at op.path) + path_cost op.path + 14) (if b
      then confirms l p free (record op { path = with_next op.path word raw }) hand To_help
      else stands (record op { path = with_next op.path word raw }) (Key (v_load_started hand (key_word l (row_at op.path)))))
  to_link_got op hand word raw true =
      up (total (confirms l p free (record op { path = with_next op.path word raw }) hand To_help)) (length hand.queue)
      (ahead (row_at op.path)) (path_cost op.path)
      (to_confirms (record op { path = with_next op.path word raw }) hand To_help)
    where
      up : (t q k c : ℕ) → t ≤ q + (7 * k + (c + 2) + 10 + 2) → t ≤ q + (7 * k + c + 14)
      up t q k c h = omega (arith, h)
  to_link_got op hand word raw false = here (length hand.queue) (ahead (row_at op.path)) (path_cost op.path)
    where
      here : (q k c : ℕ) → 1 + q + (7 * k + (c + 2) + 11) ≤ q + (7 * k + c + 14)
      here q k c = omega arith

  -- ---- a row is passed, or unlinked

  -- its key was loaded: each row behind it has fewer ahead
  pub to_key_got : (op : Carried) (hand : Hand) (b less : Bool) → ahead (row_of op.path.next.raw) + 1 ≤ ahead (row_at op.path) →
      Arrives hand (7 * ahead (row_at op.path) + next_cost op.path + 11) (if b
      then confirms l p free op hand To_found
      else (if less then confirms l p free op hand To_absent else looks l p free (record op { path = further op.path }) hand))
  to_key_got op hand true less falls = up (total (confirms l p free op hand To_found)) (length hand.queue) (ahead (row_of op.path.next.raw))
      (ahead (row_at op.path)) (next_cost op.path) falls (to_confirms op hand To_found)
    where
      up : (t q b a c : ℕ) → b + 1 ≤ a → t ≤ q + (c + 12 + 2) → t ≤ q + (7 * a + c + 11)
      up t q b a c i h = omega (arith, i, h)
  to_key_got op hand false true falls = up (total (confirms l p free op hand To_absent)) (length hand.queue) (ahead (row_of op.path.next.raw))
      (ahead (row_at op.path)) (path_cost op.path) (cost op.path.next.confirmed) falls (to_confirms op hand To_absent)
    where
      up : (t q b a c n : ℕ) → b + 1 ≤ a → t ≤ q + (c + 12 + 2) → t ≤ q + (7 * a + (c + n) + 11)
      up t q b a c n i h = omega (arith, i, h)
  to_key_got op hand false false falls = up (total (looks l p free (record op { path = further op.path }) hand)) (length hand.queue)
      (ahead (row_of op.path.next.raw)) (ahead (row_at op.path)) (back_cost op.path.back) (cost op.path.pred.confirmed) (cost op.path.next.confirmed) falls
      (to_looks (record op { path = further op.path }) hand)
    where
      up : (t q b a x c n : ℕ) → b + 1 ≤ a → t ≤ q + (7 * b + (c + n) + 15) → t ≤ q + (7 * a + (x + c + n) + 11)
      up t q b a x c n i h = omega (arith, i, h)

  -- a marked row was unlinked: the link leads to one that has fewer ahead
  pub to_helped : (op : Carried) (hand : Hand) (to : ℕ) → back_cost op.path.back ≡ 0 → ahead (row_of to) + 1 ≤ ahead (row_at op.path) →
      Arrives hand (7 * ahead (row_at op.path) + 8) (looks l p free (record op { path = unlinked op.path to }) (with_helped hand))
  to_helped op hand to none falls = up (total (looks l p free (record op { path = unlinked op.path to }) (with_helped hand))) (length hand.queue)
      (ahead (row_of to)) (ahead (row_at op.path)) (back_cost op.path.back) none falls (to_looks (record op { path = unlinked op.path to }) (with_helped hand))
    where
      up : (t q b a x : ℕ) → x ≡ 0 → b + 1 ≤ a → t ≤ q + (7 * b + (x + 0) + 15) → t ≤ q + (7 * a + 8)
      up t q b a x e i h = omega (arith, e, i, h)
