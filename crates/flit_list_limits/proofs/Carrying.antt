-- The hand of a call as it goes on from its ended machine: that of the machine, but for loads that end without an event.
use Rattle.std.proofs.Common.{◌≡◌, ℕ, ◌-◌, ◌^◌, ◌==◌, ◌≤◌, ◌&&◌, nat_le, nat_lt, not, Bool, true, false, List, Option, Some, None, is_none, refl, ◌∙◌, arith, if◌then◌else◌}
use Rattle.flit_words.specs.declared.layouts.Layout.{Layout}
use Rattle.flit_words.specs.Layouts.{value_word_of}
use Rattle.flit_words.specs.Words.{version_of, value_of, is_tagged}
use Rattle.flit_model.specs.declared.calls.Call.{Call}
use Rattle.flit_model.specs.declared.calls.Call.TheVariants.{Insert, Remove, Contains, Get}
use Rattle.flit_model.specs.declared.calls.Reply.{Reply}
use Rattle.flit_model.specs.declared.calls.Reply.TheVariants.{Found}
use Rattle.flit_place.specs.Tags.{Place}
use Rattle.flit_pv.specs.declared.hands.Hand.{Hand}
use Rattle.flit_pv.specs.Hands.{with_queued, with_omitted, more}
use Rattle.flit_pv.specs.Tallies.{IsTally}
use Rattle.flit_pv.specs.VLoads.{HeldVLoad, v_load_started}
use Rattle.flit_pv.specs.declared.v_loads.VLoading.{VLoading}
use Rattle.flit_pv.specs.declared.v_loads.VLoading.TheVariants.{Reads as V_reads, Has as V_has}
use Rattle.flit_pv.specs.declared.confirms.Confirming.{Confirming as Confirming_phase}
use Rattle.flit_pv.specs.declared.confirms.Confirming.TheVariants.{Begins, MakesRoom, Done}
use Rattle.flit_pv.specs.Confirms.{HeldConfirm, confirm_started, confirm_asked, confirm_leaves, confirm_left}
use Rattle.flit_pv.specs.Exchanges.{HeldExchange}
use Rattle.flit_pv.specs.declared.exchanges.Exchanging.{Exchanging}
use Rattle.flit_pv.specs.declared.exchanges.Exchanging.TheVariants.{Ready, Tries, TriesBare, WritesBack, Withdraws, Lowers, Ended}
use Rattle.flit_pv.specs.declared.exchanges.Exchanged.TheVariants.{Worn as Exchange_worn}
use Rattle.flit_pv.specs.Drafts.{next_bare}
use Rattle.flit_pv.specs.Stores.{HeldStore}
use Rattle.flit_pv.specs.declared.stores.Storing.{Storing}
use Rattle.flit_pv.specs.declared.stores.Storing.TheVariants.{Reads as Store_reads, MakesRoom as Store_makes_room, Writes, Ended as Store_ended}
use Rattle.flit_pv.specs.declared.stores.Stored.TheVariants.{Stored as All_stored, Worn as Store_worn}
use Rattle.flit_rows.specs.declared.take_row.Took.TheVariants.{Taken, None as NoRow}
use Rattle.flit_rows.specs.declared.take_row.Taking.{Taking}
use Rattle.flit_rows.specs.declared.take_row.Taking.TheVariants.{Draws, Ended as Take_ended}
use Rattle.flit_rows.specs.Taking.{HeldTake, take_started}
use Rattle.flit_structure.specs.Meanings.{key_of}
use Rattle.flit_structure.specs.Lawful.{AreLoadsSplit}
use Rattle.flit_crew_bounds.proofs.Splitting.{splits_left, splits_right}
use Rattle.flit_list_steps.specs.declared.operations.LinkWord.{LinkWord}
use Rattle.flit_list_steps.specs.declared.operations.Goal.{Goal}
use Rattle.flit_list_steps.specs.declared.operations.Goal.TheVariants.{Help as To_help, Found as To_found, Absent as To_absent}
use Rattle.flit_list_steps.specs.declared.operations.Which.{Which}
use Rattle.flit_list_steps.specs.declared.operations.Which.TheVariants.{Back as The_back, Pred as The_pred, Next as The_next}
use Rattle.flit_list_steps.specs.Operations.{Next, Key, Confirming, HeldOp}
use Rattle.flit_list_steps.specs.Steps.{Carried, stands, row_of, is_marked, to_row, remover, to_row_marked, key_word, link_word, own_row, row_at, answers, tidy_by, tidy_next, tidies, mark_next, marks, link_next, links, row_value_by, stores_value, words_by, row_by, takes_row, value_by, value_next, found, absent, help_starts, helps, reached, confirms_by, wants_next, confirms_next, confirms_pred, confirms_back, confirms, next_confirmed, pred_confirmed, back_is_confirmed, with_confirmed, confirmed, confirming_next, looks, key_by, next_by, head_by, further, with_next, from_head, hand_at}

-- a hand as a call goes on with it: loads may be counted, and nothing else
pub record Quiet (hand now : Hand) : Type 0 where
  pub within : IsTally hand.tally → IsTally now.tally
  pub loads : IsTally hand.tally → hand.tally.loads ≤ now.tally.loads
  pub omitted : IsTally hand.tally → hand.tally.omitted ≤ now.tally.omitted
  pub queued : IsTally hand.tally → hand.tally.queued ≤ now.tally.queued
  pub split : AreLoadsSplit hand.tally → AreLoadsSplit now.tally
  pub persists : now.tally.persists ≡ hand.tally.persists
  pub failed : now.tally.failed ≡ hand.tally.failed
  pub helped : now.tally.helped ≡ hand.tally.helped
  pub tries : now.tally.tries ≡ hand.tally.tries
  pub spare : now.spare ≡ hand.spare

same_le : (n : ℕ) → n ≤ n
same_le n = omega arith

pub quiet_same : (hand : Hand) → Quiet hand hand
quiet_same hand = record {
  within = λ t. t;
  loads = λ t. same_le hand.tally.loads;
  omitted = λ t. same_le hand.tally.omitted;
  queued = λ t. same_le hand.tally.queued;
  split = λ s. s;
  persists = refl;
  failed = refl;
  helped = refl;
  tries = refl;
  spare = refl;
}

pub quiet_then : (a b c : Hand) → Quiet a b → Quiet b c → Quiet a c
quiet_then a b c f g = record {
  within = λ t. g.within (f.within t);
  loads = λ t. le a.tally.loads b.tally.loads c.tally.loads (f.loads t) (g.loads (f.within t));
  omitted = λ t. le a.tally.omitted b.tally.omitted c.tally.omitted (f.omitted t) (g.omitted (f.within t));
  queued = λ t. le a.tally.queued b.tally.queued c.tally.queued (f.queued t) (g.queued (f.within t));
  split = λ s. g.split (f.split s);
  persists = g.persists ∙ f.persists;
  failed = g.failed ∙ f.failed;
  helped = g.helped ∙ f.helped;
  tries = g.tries ∙ f.tries;
  spare = g.spare ∙ f.spare;
}
  where
    le : (x y z : ℕ) → x ≤ y → y ≤ z → x ≤ z
    le x y z p q = omega (arith, p, q)

pub top : (n : ℕ) → more n ≤ 2 ^ 64 - 1
top n = omega arith

-- what a count within its top gains
pub rises : (n : ℕ) → n ≤ 2 ^ 64 - 1 → n ≤ more n
rises n h = omega (arith, h)

-- ---- a confirmation that ends

module _ (m : HeldConfirm) where
  queued_so : Quiet m.hand (with_queued m.hand m.word m.raw)
  queued_so = record {
    within = λ u. record {
      loads = top m.hand.tally.loads;
      omitted = u.omitted;
      queued = top m.hand.tally.queued;
      persists = u.persists;
      failed = u.failed;
      helped = u.helped;
      tries = u.tries;
    };
    loads = λ t. rises m.hand.tally.loads t.loads;
    omitted = λ t. same_le m.hand.tally.omitted;
    queued = λ t. rises m.hand.tally.queued t.queued;
    split = splits_right m.hand.tally.loads m.hand.tally.omitted m.hand.tally.queued;
    persists = refl;
    failed = refl;
    helped = refl;
    tries = refl;
    spare = refl;
  }

  omitted_so : Quiet m.hand (with_omitted m.hand)
  omitted_so = record {
    within = λ u. record {
      loads = top m.hand.tally.loads;
      omitted = top m.hand.tally.omitted;
      queued = u.queued;
      persists = u.persists;
      failed = u.failed;
      helped = u.helped;
      tries = u.tries;
    };
    loads = λ t. rises m.hand.tally.loads t.loads;
    omitted = λ t. rises m.hand.tally.omitted t.omitted;
    queued = λ t. same_le m.hand.tally.queued;
    split = splits_left m.hand.tally.loads m.hand.tally.omitted m.hand.tally.queued;
    persists = refl;
    failed = refl;
    helped = refl;
    tries = refl;
    spare = refl;
  }

  left_quiet : Quiet m.hand (confirm_left m)
  left_quiet = by_phase m.at
    where
      by_tag : (b : Bool) → Quiet m.hand (if b then with_queued m.hand m.word m.raw else with_omitted m.hand)
      by_tag true = queued_so
      by_tag false = omitted_so

      by_phase : (at : Confirming_phase) → Quiet m.hand (confirm_leaves at m)
      by_phase Begins = by_tag (is_tagged m.raw)
      by_phase (MakesRoom first) = quiet_same m.hand
      by_phase Done = quiet_same m.hand

-- an exchange as it starts: worn at once, or not
abbrev pub worn_one : Hand → ℕ → ℕ → HeldExchange
worn_one hand word old = record { hand = hand; word = word; from = old; to = 0; at = Ended (Exchange_worn word (version_of old)) }

abbrev pub fresh_one : Hand → ℕ → ℕ → ℕ → HeldExchange
fresh_one hand word old value = record { hand = hand; word = word; from = old; to = next_bare old value; at = Ready }

module _ (l : Layout) (p : Place) (free : List ℕ) where
  -- a call goes on so from a hand
  abbrev pub Carries : Hand → HeldOp → Type 0
  Carries hand next = Quiet hand (hand_at next.at)

  pub to_answer : (op : Carried) (hand : Hand) (reply : Reply) → Carries hand (answers op hand reply)
  to_answer op hand reply = quiet_same hand

  -- ---- exchanges, which may be worn at once

  link_either : (op : Carried) (hand : Hand) (word old value : ℕ) (b : Bool) →
      Carries hand (link_next l op (if b then worn_one hand word old else fresh_one hand word old value))
  link_either op hand word old value true = quiet_same hand
  link_either op hand word old value false = quiet_same hand

  to_link : (op : Carried) (hand : Hand) → Carries hand (links l op hand)
  to_link op hand = link_either op hand op.path.pred.word op.path.pred.raw (to_row (own_row hand)) (nat_le l.limit (version_of op.path.pred.raw))

  mark_either : (op : Carried) (hand : Hand) (word old value : ℕ) (b : Bool) →
      Carries hand (mark_next l op (if b then worn_one hand word old else fresh_one hand word old value))
  mark_either op hand word old value true = quiet_same hand
  mark_either op hand word old value false = quiet_same hand

  to_mark : (op : Carried) (hand : Hand) → Carries hand (marks l op hand)
  to_mark op hand = mark_either op hand op.path.next.word op.path.next.raw (to_row_marked (row_of op.path.next.raw) (remover l hand))
      (nat_le l.limit (version_of op.path.next.raw))

  tidy_either : (op : Carried) (hand : Hand) (word old value : ℕ) (b : Bool) →
      Carries hand (tidy_next op (if b then worn_one hand word old else fresh_one hand word old value))
  tidy_either op hand word old value true = quiet_same hand
  tidy_either op hand word old value false = quiet_same hand

  pub to_tidy : (op : Carried) (hand : Hand) → Carries hand (tidies l op hand)
  to_tidy op hand = tidy_either op hand op.path.pred.word op.path.pred.raw (to_row (row_of op.path.next.raw)) (nat_le l.limit (version_of op.path.pred.raw))

  pub tidied : (op : Carried) (m : HeldExchange) (at : Exchanging) → Carries m.hand (tidy_by op m at)
  tidied op m Ready = quiet_same m.hand
  tidied op m (Tries slot) = quiet_same m.hand
  tidied op m TriesBare = quiet_same m.hand
  tidied op m WritesBack = quiet_same m.hand
  tidied op m Withdraws = quiet_same m.hand
  tidied op m (Lowers slot found) = quiet_same m.hand
  tidied op m (Ended how) = quiet_same m.hand

  help_either : (op : Carried) (hand : Hand) (word old value : ℕ) (b : Bool) →
      Carries hand (let m = (if b then worn_one hand word old else fresh_one hand word old value) in help_starts op m m.at)
  help_either op hand word old value true = quiet_same hand
  help_either op hand word old value false = quiet_same hand

  to_help : (op : Carried) (hand : Hand) → Carries hand (helps l op hand)
  to_help op hand = help_either op hand op.path.pred.word op.path.pred.raw (to_row (row_of op.path.next.raw)) (nat_le l.limit (version_of op.path.pred.raw))

  -- ---- a row

  value_either : (op : Carried) (hand : Hand) (value : ℕ) (b : Bool) → Carries hand (if b then stores_value l op hand value else links l op hand)
  value_either op hand value true = quiet_same hand
  value_either op hand value false = to_link op hand

  pub words_stored : (op : Carried) (value : ℕ) (m : HeldStore) (at : Storing) → Carries m.hand (words_by l op value m at)
  words_stored op value m (Store_reads how) = quiet_same m.hand
  words_stored op value m (Writes next) = quiet_same m.hand
  words_stored op value m (Store_makes_room next first) = quiet_same m.hand
  words_stored op value m (Store_ended All_stored) = value_either op m.hand value l.values
  words_stored op value m (Store_ended (Store_worn word version)) = quiet_same m.hand

  pub value_stored : (op : Carried) (m : HeldStore) (at : Storing) → Carries m.hand (row_value_by l op m at)
  value_stored op m (Store_reads how) = quiet_same m.hand
  value_stored op m (Writes next) = quiet_same m.hand
  value_stored op m (Store_makes_room next first) = quiet_same m.hand
  value_stored op m (Store_ended All_stored) = to_link op m.hand
  value_stored op m (Store_ended (Store_worn word version)) = quiet_same m.hand

  pub row_taken : (op : Carried) (m : HeldTake) (at : Taking) → Carries m.hand (row_by l op m at)
  row_taken op m Draws = quiet_same m.hand
  row_taken op m (Take_ended Taken) = quiet_same m.hand
  row_taken op m (Take_ended (NoRow ticket)) = quiet_same m.hand

  to_take : (op : Carried) (hand : Hand) → Carries hand (takes_row l free op hand)
  to_take op hand = let m = take_started free hand 1 in row_taken op m m.at

  -- ---- the end of a search

  pub value_loaded : (op : Carried) (m : HeldVLoad) (at : VLoading) → Carries m.hand (value_by op m at)
  value_loaded op m V_reads = quiet_same m.hand
  value_loaded op m (V_has raw) = quiet_same m.hand

  get_either : (op : Carried) (hand : Hand) (word : ℕ) (b : Bool) →
      Carries hand (if b then value_next op (v_load_started hand word) else answers op hand (Found 0))
  get_either op hand word true = quiet_same hand
  get_either op hand word false = quiet_same hand

  to_found : (op : Carried) (hand : Hand) (c : Call) → Carries hand (found l op hand c)
  to_found op hand (Insert k v) = quiet_same hand
  to_found op hand (Remove k) = to_mark op hand
  to_found op hand (Contains k) = quiet_same hand
  to_found op hand (Get k) = get_either op hand (value_word_of l (row_at op.path)) l.values

  to_absent : (op : Carried) (hand : Hand) (c : Call) → Carries hand (absent l free op hand c)
  to_absent op hand (Insert k v) = to_take op hand
  to_absent op hand (Remove k) = quiet_same hand
  to_absent op hand (Contains k) = quiet_same hand
  to_absent op hand (Get k) = quiet_same hand

  to_reached : (op : Carried) (hand : Hand) (goal : Goal) → Carries hand (reached l free op hand goal)
  unfolding reached
  to_reached op hand To_help = to_help op hand
  to_reached op hand To_found = to_found op hand op.call
  to_reached op hand To_absent = to_absent op hand op.call

  -- ---- confirmations, which may end without an event

  confirm_either : (op : Carried) (goal : Goal) (which : Which) (m : HeldConfirm) (next : HeldOp) → Carries (confirm_left m) next → (b : Bool) →
      Carries m.hand (if b then next else stands op (Confirming goal which m))
  confirm_either op goal which m next s true = quiet_then m.hand (confirm_left m) (hand_at next.at) (left_quiet m) s
  confirm_either op goal which m next s false = quiet_same m.hand

  to_confirm : (op : Carried) (goal : Goal) (which : Which) (m : HeldConfirm) (next : HeldOp) → Carries (confirm_left m) next →
      Carries m.hand (confirms_by p op goal which m next)
  to_confirm op goal which m next s = confirm_either op goal which m next s (is_none (confirm_asked p m))

  next_either : (op : Carried) (hand : Hand) (goal : Goal) (b : Bool) → Carries hand (if b
      then (let m = confirm_started hand op.path.next.word op.path.next.raw in
      confirms_by p op goal The_next m (next_confirmed l free op (confirm_left m) goal))
      else reached l free op hand goal)
  next_either op hand goal true =
      let m = confirm_started hand op.path.next.word op.path.next.raw in
      to_confirm op goal The_next m (next_confirmed l free op (confirm_left m) goal) (to_reached (with_confirmed op The_next) (confirm_left m) goal)
  next_either op hand goal false = to_reached op hand goal

  to_next : (op : Carried) (hand : Hand) (goal : Goal) → Carries hand (confirms_next l p free op hand goal)
  unfolding confirms_next
  to_next op hand goal = next_either op hand goal (wants_next goal && not op.path.next.confirmed)

  pred_either : (op : Carried) (hand : Hand) (goal : Goal) (b : Bool) → Carries hand (if b
      then confirms_next l p free op hand goal
      else (let m = confirm_started hand op.path.pred.word op.path.pred.raw in
      confirms_by p op goal The_pred m (pred_confirmed l p free op (confirm_left m) goal)))
  pred_either op hand goal true = to_next op hand goal
  pred_either op hand goal false =
      let m = confirm_started hand op.path.pred.word op.path.pred.raw in
      to_confirm op goal The_pred m (pred_confirmed l p free op (confirm_left m) goal) (to_next (with_confirmed op The_pred) (confirm_left m) goal)

  to_pred : (op : Carried) (hand : Hand) (goal : Goal) → Carries hand (confirms_pred l p free op hand goal)
  unfolding confirms_pred
  to_pred op hand goal = pred_either op hand goal op.path.pred.confirmed

  back_either : (op : Carried) (hand : Hand) (goal : Goal) (back : LinkWord) (b : Bool) → Carries hand (if b
      then confirms_pred l p free op hand goal
      else (let m = confirm_started hand back.word back.raw in
      confirms_by p op goal The_back m (back_is_confirmed l p free op (confirm_left m) goal)))
  back_either op hand goal back true = to_pred op hand goal
  back_either op hand goal back false =
      let m = confirm_started hand back.word back.raw in
      to_confirm op goal The_back m (back_is_confirmed l p free op (confirm_left m) goal) (to_pred (with_confirmed op The_back) (confirm_left m) goal)

  to_back : (op : Carried) (hand : Hand) (goal : Goal) (back : Option LinkWord) → Carries hand (confirms_back l p free op hand goal back)
  to_back op hand goal None = to_pred op hand goal
  to_back op hand goal (Some back) = back_either op hand goal back back.confirmed

  to_confirms : (op : Carried) (hand : Hand) (goal : Goal) → Carries hand (confirms l p free op hand goal)
  unfolding confirms
  to_confirms op hand goal = to_back op hand goal op.path.back

  to_confirmed : (op : Carried) (goal : Goal) (which : Which) (m : HeldConfirm) →
      Carries (confirm_left m) (confirmed l p free op (confirm_left m) goal which)
  to_confirmed op goal The_back m = to_pred (with_confirmed op The_back) (confirm_left m) goal
  to_confirmed op goal The_pred m = to_next (with_confirmed op The_pred) (confirm_left m) goal
  to_confirmed op goal The_next m = to_reached (with_confirmed op The_next) (confirm_left m) goal

  pub confirmed_so : (op : Carried) (goal : Goal) (which : Which) (m : HeldConfirm) → Carries m.hand (confirming_next l p free op goal which m)
  confirmed_so op goal which m = to_confirm op goal which m (confirmed l p free op (confirm_left m) goal which) (to_confirmed op goal which m)

  -- ---- the search

  looks_either : (op : Carried) (hand : Hand) (b : Bool) →
      Carries hand (if b then confirms l p free op hand To_absent else stands op (Next (v_load_started hand (link_word l (row_at op.path)))))
  looks_either op hand true = to_confirms op hand To_absent
  looks_either op hand false = quiet_same hand

  pub to_looks : (op : Carried) (hand : Hand) → Carries hand (looks l p free op hand)
  unfolding looks
  to_looks op hand = looks_either op hand (row_at op.path == 0)

  greater_either : (op : Carried) (hand : Hand) (b : Bool) →
      Carries hand (if b then confirms l p free op hand To_absent else looks l p free (record op { path = further op.path }) hand)
  greater_either op hand true = to_confirms op hand To_absent
  greater_either op hand false = to_looks (record op { path = further op.path }) hand

  key_either : (op : Carried) (hand : Hand) (key : ℕ) (b : Bool) → Carries hand (if b
      then confirms l p free op hand To_found
      else (if nat_lt (key_of op.call) key then confirms l p free op hand To_absent else looks l p free (record op { path = further op.path }) hand))
  key_either op hand key true = to_confirms op hand To_found
  key_either op hand key false = greater_either op hand (nat_lt (key_of op.call) key)

  pub key_loaded : (op : Carried) (m : HeldVLoad) (at : VLoading) → Carries m.hand (key_by l p free op m at)
  key_loaded op m V_reads = quiet_same m.hand
  key_loaded op m (V_has raw) = key_either op m.hand (value_of raw) (value_of raw == key_of op.call)

  link_got_either : (op : Carried) (hand : Hand) (b : Bool) →
      Carries hand (if b then confirms l p free op hand To_help else stands op (Key (v_load_started hand (key_word l (row_at op.path)))))
  link_got_either op hand true = to_confirms op hand To_help
  link_got_either op hand false = quiet_same hand

  pub next_loaded : (op : Carried) (m : HeldVLoad) (at : VLoading) → Carries m.hand (next_by l p free op m at)
  next_loaded op m V_reads = quiet_same m.hand
  next_loaded op m (V_has raw) = link_got_either (record op { path = with_next op.path m.word raw }) m.hand (is_marked raw)

  pub head_loaded : (op : Carried) (m : HeldVLoad) (at : VLoading) → Carries m.hand (head_by l p free op m at)
  head_loaded op m V_reads = quiet_same m.hand
  head_loaded op m (V_has raw) = to_looks (record op { path = from_head op.path m.word raw }) m.hand
