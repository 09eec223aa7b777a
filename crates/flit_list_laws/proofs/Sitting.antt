-- Between two machines of a call no row changes its owner, and no update its place.
use Rattle.std.proofs.Common.{◌≡◌, ◌≢◌, ℕ, ◌==◌, ◌≤◌, ◌&&◌, nat_le, nat_lt, not, Bool, true, false, List, [], ◌∷◌, length, drop, slice_set, Option, Some, None, is_none, refl, sym, ◌∙◌, ap, subst, if◌then◌else◌}
use Rattle.flit_words.specs.declared.layouts.Layout.{Layout}
use Rattle.flit_words.specs.Layouts.{value_word_of}
use Rattle.flit_words.specs.Words.{version_of, value_of, is_tagged}
use Rattle.flit_model.specs.Histories.{is_update_by}
use Rattle.flit_model.specs.declared.calls.Call.{Call}
use Rattle.flit_model.specs.declared.calls.Call.TheVariants.{Insert, Remove, Contains, Get}
use Rattle.flit_model.specs.declared.calls.Reply.{Reply}
use Rattle.flit_model.specs.declared.calls.Reply.TheVariants.{Yes, No, Found, Full, Worn}
use Rattle.flit_place.specs.Tags.{Place}
use Rattle.flit_pv.specs.declared.hands.Hand.{Hand}
use Rattle.flit_pv.specs.Hands.{with_queued, with_omitted}
use Rattle.flit_pv.specs.VLoads.{HeldVLoad, v_load_started}
use Rattle.flit_pv.specs.declared.v_loads.VLoading.{VLoading}
use Rattle.flit_pv.specs.declared.v_loads.VLoading.TheVariants.{Reads as V_reads, Has as V_has}
use Rattle.flit_pv.specs.declared.confirms.Confirming.{Confirming as Confirming_phase}
use Rattle.flit_pv.specs.declared.confirms.Confirming.TheVariants.{Begins, MakesRoom, Done}
use Rattle.flit_pv.specs.Confirms.{HeldConfirm, confirm_started, confirm_asked, confirm_leaves, confirm_left}
use Rattle.flit_pv.specs.Exchanges.{HeldExchange}
use Rattle.flit_pv.specs.declared.exchanges.Exchanging.{Exchanging}
use Rattle.flit_pv.specs.declared.exchanges.Exchanging.TheVariants.{Ready, Tries, TriesBare, WritesBack, Withdraws, Lowers, Ended}
use Rattle.flit_pv.specs.declared.exchanges.Exchanged.{Exchanged}
use Rattle.flit_pv.specs.declared.exchanges.Exchanged.TheVariants.{Won, Lost, Worn as Exchange_worn}
use Rattle.flit_pv.specs.Drafts.{next_bare}
use Rattle.flit_pv.specs.Stores.{HeldStore}
use Rattle.flit_pv.specs.declared.stores.Storing.{Storing}
use Rattle.flit_pv.specs.declared.stores.Storing.TheVariants.{Reads as Store_reads, MakesRoom as Store_makes_room, Writes, Ended as Store_ended}
use Rattle.flit_pv.specs.declared.stores.Stored.{Stored}
use Rattle.flit_pv.specs.declared.stores.Stored.TheVariants.{Stored as All_stored, Worn as Store_worn}
use Rattle.flit_rows.specs.Shares.{rows_in}
use Rattle.flit_rows.specs.declared.take_row.Took.{Took}
use Rattle.flit_rows.specs.declared.take_row.Took.TheVariants.{Taken, None as NoRow}
use Rattle.flit_rows.specs.declared.take_row.Taking.{Taking}
use Rattle.flit_rows.specs.declared.take_row.Taking.TheVariants.{Draws, Ended as Take_ended}
use Rattle.flit_rows.specs.Taking.{HeldTake, take_started, lacks, is_past, judged}
use Rattle.flit_structure.specs.Meanings.{key_of, value_put}
use Rattle.flit_structure.specs.Lawful.{is_insert, rows_needed}
use Rattle.flit_crew.specs.Machines.{Deed, Fresh, Made, hand_in, deed_of, exchange_deed, has_linked}
use Rattle.flit_crew.specs.Accounts.{AreTight}
use Rattle.flit_crew.specs.Anatomies.{own, deed, deed_by, rows_but}
use Rattle.flit_list_steps.specs.declared.operations.Path.{Path}
use Rattle.flit_list_steps.specs.declared.operations.LinkWord.{LinkWord}
use Rattle.flit_list_steps.specs.declared.operations.Goal.{Goal}
use Rattle.flit_list_steps.specs.declared.operations.Goal.TheVariants.{Help as To_help, Found as To_found, Absent as To_absent}
use Rattle.flit_list_steps.specs.declared.operations.Which.{Which}
use Rattle.flit_list_steps.specs.declared.operations.Which.TheVariants.{Back as The_back, Pred as The_pred, Next as The_next}
use Rattle.flit_list_steps.specs.Operations.{At, Head, Next, Key, Confirming, Help, Row, Words, RowValue, Link, Mark, Tidy, Value, Ends, Rests, HeldOp}
use Rattle.flit_list_steps.specs.Steps.{Carried, stands, row_of, is_marked, to_row, remover, to_row_marked, key_word, link_word, with_search, with_helped, with_row_used, own_row, row_at, answers, searches, tidy_by, tidy_next, unlinking, tidies, marked_so, mark_by, mark_next, marks, linked_so, link_by, link_next, links, row_value_so, row_value_by, stores_value, words_so, words_by, stores, row_so, row_by, takes_row, value_by, value_next, found, absent, help_starts, helps, reached, confirms_by, wants_next, confirms_next, confirms_pred, confirms_back, confirms, next_confirmed, pred_confirmed, back_is_confirmed, with_confirmed, confirmed, confirming_next, looks, helped_so, help_by, key_got, key_by, link_got, next_by, head_by, further, unlinked, with_next, from_head}
use Rattle.flit_list_laws.specs.ListAnatomy.{machine_at, list_anatomy}
use Rattle.flit_list_laws.proofs.Others.{and_false}

pub no_updates : (call : Call) → is_update_by call No ≡ false
no_updates (Insert k v) = refl
no_updates (Remove k) = refl
no_updates (Contains k) = refl
no_updates (Get k) = refl

pub found_updates : (call : Call) (value : ℕ) → is_update_by call (Found value) ≡ false
found_updates (Insert k v) value = refl
found_updates (Remove k) value = refl
found_updates (Contains k) value = refl
found_updates (Get k) value = refl

pub full_updates : (call : Call) (ticket : ℕ) → is_update_by call (Full ticket) ≡ false
full_updates (Insert k v) ticket = refl
full_updates (Remove k) ticket = refl
full_updates (Contains k) ticket = refl
full_updates (Get k) ticket = refl

pub worn_updates : (call : Call) (word version : ℕ) → is_update_by call (Worn word version) ≡ false
worn_updates (Insert k v) word version = refl
worn_updates (Remove k) word version = refl
worn_updates (Contains k) word version = refl
worn_updates (Get k) word version = refl

pub insert_updates : (call : Call) → is_insert call ≡ true → is_update_by call Yes ≡ true
insert_updates (Insert k v) e = refl
insert_updates (Remove k) e = absurd (cc)
insert_updates (Contains k) e = absurd (cc)
insert_updates (Get k) e = absurd (cc)

left_spare : (m : HeldConfirm) → (confirm_left m).spare ≡ m.hand.spare
left_spare m = by_phase m.at
  where
    by_tag : (b : Bool) → (if b then with_queued m.hand m.word m.raw else with_omitted m.hand).spare ≡ m.hand.spare
    by_tag true = refl
    by_tag false = refl

    by_phase : (at : Confirming_phase) → (confirm_leaves at m).spare ≡ m.hand.spare
    by_phase Begins = by_tag (is_tagged m.raw)
    by_phase (MakesRoom first) = refl
    by_phase Done = refl

module _ (l : Layout) (p : Place) (free : List ℕ) where
  -- the call goes on with the rows of this hand, and with its update where it was
  pub record Sits (hand : Hand) (d : Deed) (next : HeldOp) : Type 0 where
    pub own : own (list_anatomy l p free) next ≡ rows_in hand.spare
    pub deed : deed (list_anatomy l p free) next ≡ d
    pub spare : (hand_in (machine_at next.at)).spare ≡ hand.spare

  moved : (hand now : Hand) (d : Deed) (next : HeldOp) → now.spare ≡ hand.spare → Sits now d next → Sits hand d next
  moved hand now d next e s = record { own = s.own ∙ ap rows_in e; deed = s.deed; spare = s.spare ∙ e }

  pub sits_search : (op : Carried) (hand : Hand) → Sits hand Fresh (searches l op hand)
  sits_search op hand = record { own = refl; deed = refl; spare = refl }

  sits_answer : (op : Carried) (hand : Hand) (reply : Reply) → is_update_by op.call reply ≡ false → Sits hand Fresh (answers op hand reply)
  sits_answer op hand reply none = record { own = refl; deed = ap (λ b. deed_by (list_anatomy l p free) false b Fresh) none; spare = refl }

  pub sits_yes : (op : Carried) (hand : Hand) → is_update_by op.call Yes ≡ true → Sits hand Made (answers op hand Yes)
  sits_yes op hand made_so = record { own = refl; deed = ap (λ b. deed_by (list_anatomy l p free) false b Fresh) made_so; spare = refl }

  sits_no : (op : Carried) (hand : Hand) → Sits hand Fresh (answers op hand No)
  sits_no op hand = sits_answer op hand No (no_updates op.call)

  pub sits_worn : (op : Carried) (hand : Hand) (word version : ℕ) → Sits hand Fresh (answers op hand (Worn word version))
  sits_worn op hand word version = sits_answer op hand (Worn word version) (worn_updates op.call word version)

  -- ---- exchanges, which may be worn at once

  abbrev worn_one : Hand → ℕ → ℕ → HeldExchange
  worn_one hand word old = record { hand = hand; word = word; from = old; to = 0; at = Ended (Exchange_worn word (version_of old)) }

  abbrev fresh_one : Hand → ℕ → ℕ → ℕ → HeldExchange
  fresh_one hand word old value = record { hand = hand; word = word; from = old; to = next_bare old value; at = Ready }

  link_either : (op : Carried) (hand : Hand) (word old value : ℕ) (b : Bool) →
      Sits hand Fresh (link_next l op (if b then worn_one hand word old else fresh_one hand word old value))
  link_either op hand word old value true = sits_worn op hand word (version_of old)
  link_either op hand word old value false =
      record { own = ap (λ b. rows_but (list_anatomy l p free) b hand.spare) (and_false (is_insert op.call)); deed = refl; spare = refl }

  sits_link : (op : Carried) (hand : Hand) → Sits hand Fresh (links l op hand)
  sits_link op hand = link_either op hand op.path.pred.word op.path.pred.raw (to_row (own_row hand)) (nat_le l.limit (version_of op.path.pred.raw))

  mark_either : (op : Carried) (hand : Hand) (word old value : ℕ) (b : Bool) →
      Sits hand Fresh (mark_next l op (if b then worn_one hand word old else fresh_one hand word old value))
  mark_either op hand word old value true = sits_worn op hand word (version_of old)
  mark_either op hand word old value false =
      record { own = ap (λ b. rows_but (list_anatomy l p free) b hand.spare) (and_false (is_insert op.call)); deed = refl; spare = refl }

  sits_mark : (op : Carried) (hand : Hand) → Sits hand Fresh (marks l op hand)
  sits_mark op hand = mark_either op hand op.path.next.word op.path.next.raw (to_row_marked (row_of op.path.next.raw) (remover l hand))
      (nat_le l.limit (version_of op.path.next.raw))

  tidy_either : (op : Carried) (hand : Hand) (word old value : ℕ) → is_update_by op.call Yes ≡ true → (b : Bool) →
      Sits hand Made (tidy_next op (if b then worn_one hand word old else fresh_one hand word old value))
  tidy_either op hand word old value made_so true = sits_yes op hand made_so
  tidy_either op hand word old value made_so false = record { own = refl; deed = refl; spare = refl }

  pub sits_tidy : (op : Carried) (hand : Hand) → is_update_by op.call Yes ≡ true → Sits hand Made (tidies l op hand)
  sits_tidy op hand made_so = tidy_either op hand op.path.pred.word op.path.pred.raw (to_row (row_of op.path.next.raw)) made_so
      (nat_le l.limit (version_of op.path.pred.raw))

  help_either : (op : Carried) (hand : Hand) (word old value : ℕ) (b : Bool) →
      Sits hand Fresh (let m = (if b then worn_one hand word old else fresh_one hand word old value) in help_starts op m m.at)
  help_either op hand word old value true = sits_worn op hand word (version_of old)
  help_either op hand word old value false = record { own = refl; deed = refl; spare = refl }

  sits_help : (op : Carried) (hand : Hand) → Sits hand Fresh (helps l op hand)
  sits_help op hand = help_either op hand op.path.pred.word op.path.pred.raw (to_row (row_of op.path.next.raw)) (nat_le l.limit (version_of op.path.pred.raw))

  -- ---- a row

  value_either : (op : Carried) (hand : Hand) (value : ℕ) (b : Bool) → Sits hand Fresh (if b then stores_value l op hand value else links l op hand)
  value_either op hand value true = record { own = refl; deed = refl; spare = refl }
  value_either op hand value false = sits_link op hand

  pub sits_words : (op : Carried) (m : HeldStore) (value : ℕ) (at : Storing) → Sits m.hand Fresh (words_by l op value m at)
  sits_words op m value (Store_reads how) = record { own = refl; deed = refl; spare = refl }
  sits_words op m value (Writes next) = record { own = refl; deed = refl; spare = refl }
  sits_words op m value (Store_makes_room next first) = record { own = refl; deed = refl; spare = refl }
  sits_words op m value (Store_ended All_stored) = value_either op m.hand value l.values
  sits_words op m value (Store_ended (Store_worn word version)) = sits_worn op m.hand word version

  pub sits_row_value : (op : Carried) (m : HeldStore) (at : Storing) → Sits m.hand Fresh (row_value_by l op m at)
  sits_row_value op m (Store_reads how) = record { own = refl; deed = refl; spare = refl }
  sits_row_value op m (Writes next) = record { own = refl; deed = refl; spare = refl }
  sits_row_value op m (Store_makes_room next first) = record { own = refl; deed = refl; spare = refl }
  sits_row_value op m (Store_ended All_stored) = sits_link op m.hand
  sits_row_value op m (Store_ended (Store_worn word version)) = sits_worn op m.hand word version

  pub sits_row : (op : Carried) (m : HeldTake) (at : Taking) → Sits m.hand Fresh (row_by l op m at)
  sits_row op m Draws = record { own = refl; deed = refl; spare = refl }
  sits_row op m (Take_ended Taken) = record { own = refl; deed = refl; spare = refl }
  sits_row op m (Take_ended (NoRow ticket)) = sits_answer op m.hand (Full ticket) (full_updates op.call ticket)

  sits_take : (op : Carried) (hand : Hand) → Sits hand Fresh (takes_row l free op hand)
  sits_take op hand = sits_row op (take_started free hand 1) (judged (lacks 1 hand.spare) (is_past free hand.ticket) hand.ticket)

  -- ---- the end of a search

  get_either : (op : Carried) (hand : Hand) (word : ℕ) (b : Bool) →
      Sits hand Fresh (if b then value_next op (v_load_started hand word) else answers op hand (Found 0))
  get_either op hand word true = record { own = refl; deed = refl; spare = refl }
  get_either op hand word false = sits_answer op hand (Found 0) (found_updates op.call 0)

  sits_found : (op : Carried) (hand : Hand) (c : Call) → op.call ≡ c → Sits hand Fresh (found l op hand c)
  sits_found op hand (Insert k v) e = sits_no op hand
  sits_found op hand (Remove k) e = sits_mark op hand
  sits_found op hand (Contains k) e = sits_answer op hand Yes (ap (λ c. is_update_by c Yes) e)
  sits_found op hand (Get k) e = get_either op hand (value_word_of l (row_at op.path)) l.values

  sits_absent : (op : Carried) (hand : Hand) (c : Call) → Sits hand Fresh (absent l free op hand c)
  sits_absent op hand (Insert k v) = sits_take op hand
  sits_absent op hand (Remove k) = sits_no op hand
  sits_absent op hand (Contains k) = sits_no op hand
  sits_absent op hand (Get k) = sits_no op hand

  sits_reached : (op : Carried) (hand : Hand) (goal : Goal) → Sits hand Fresh (reached l free op hand goal)
  unfolding reached
  sits_reached op hand To_help = sits_help op hand
  sits_reached op hand To_found = sits_found op hand op.call refl
  sits_reached op hand To_absent = sits_absent op hand op.call

  confirm_either : (op : Carried) (goal : Goal) (which : Which) (m : HeldConfirm) (next : HeldOp) → Sits (confirm_left m) Fresh next → (b : Bool) →
      Sits m.hand Fresh (if b then next else stands op (Confirming goal which m))
  confirm_either op goal which m next s true = moved m.hand (confirm_left m) Fresh next (left_spare m) s
  confirm_either op goal which m next s false = record { own = refl; deed = refl; spare = refl }

  sits_confirm : (op : Carried) (goal : Goal) (which : Which) (m : HeldConfirm) (next : HeldOp) → Sits (confirm_left m) Fresh next →
      Sits m.hand Fresh (confirms_by p op goal which m next)
  sits_confirm op goal which m next s = confirm_either op goal which m next s (is_none (confirm_asked p m))

  next_either : (op : Carried) (hand : Hand) (goal : Goal) (b : Bool) → Sits hand Fresh (if b
      then (let m = confirm_started hand op.path.next.word op.path.next.raw in
      confirms_by p op goal The_next m (next_confirmed l free op (confirm_left m) goal))
      else reached l free op hand goal)
  next_either op hand goal true =
      let m = confirm_started hand op.path.next.word op.path.next.raw in
      sits_confirm op goal The_next m (next_confirmed l free op (confirm_left m) goal) (sits_reached (with_confirmed op The_next) (confirm_left m) goal)
  next_either op hand goal false = sits_reached op hand goal

  sits_next : (op : Carried) (hand : Hand) (goal : Goal) → Sits hand Fresh (confirms_next l p free op hand goal)
  unfolding confirms_next
  sits_next op hand goal = next_either op hand goal (wants_next goal && not op.path.next.confirmed)

  pred_either : (op : Carried) (hand : Hand) (goal : Goal) (b : Bool) → Sits hand Fresh (if b
      then confirms_next l p free op hand goal
      else (let m = confirm_started hand op.path.pred.word op.path.pred.raw in
      confirms_by p op goal The_pred m (pred_confirmed l p free op (confirm_left m) goal)))
  pred_either op hand goal true = sits_next op hand goal
  pred_either op hand goal false =
      let m = confirm_started hand op.path.pred.word op.path.pred.raw in
      sits_confirm op goal The_pred m (pred_confirmed l p free op (confirm_left m) goal) (sits_next (with_confirmed op The_pred) (confirm_left m) goal)

  sits_pred : (op : Carried) (hand : Hand) (goal : Goal) → Sits hand Fresh (confirms_pred l p free op hand goal)
  unfolding confirms_pred
  sits_pred op hand goal = pred_either op hand goal op.path.pred.confirmed

  back_either : (op : Carried) (hand : Hand) (goal : Goal) (back : LinkWord) (b : Bool) → Sits hand Fresh (if b
      then confirms_pred l p free op hand goal
      else (let m = confirm_started hand back.word back.raw in
      confirms_by p op goal The_back m (back_is_confirmed l p free op (confirm_left m) goal)))
  back_either op hand goal back true = sits_pred op hand goal
  back_either op hand goal back false =
      let m = confirm_started hand back.word back.raw in
      sits_confirm op goal The_back m (back_is_confirmed l p free op (confirm_left m) goal) (sits_pred (with_confirmed op The_back) (confirm_left m) goal)

  sits_back : (op : Carried) (hand : Hand) (goal : Goal) (back : Option LinkWord) → Sits hand Fresh (confirms_back l p free op hand goal back)
  sits_back op hand goal None = sits_pred op hand goal
  sits_back op hand goal (Some back) = back_either op hand goal back back.confirmed

  sits_confirms : (op : Carried) (hand : Hand) (goal : Goal) → Sits hand Fresh (confirms l p free op hand goal)
  unfolding confirms
  sits_confirms op hand goal = sits_back op hand goal op.path.back

  sits_confirmed : (op : Carried) (goal : Goal) (which : Which) (m : HeldConfirm) →
      Sits (confirm_left m) Fresh (confirmed l p free op (confirm_left m) goal which)
  sits_confirmed op goal The_back m = sits_pred (with_confirmed op The_back) (confirm_left m) goal
  sits_confirmed op goal The_pred m = sits_next (with_confirmed op The_pred) (confirm_left m) goal
  sits_confirmed op goal The_next m = sits_reached (with_confirmed op The_next) (confirm_left m) goal

  pub sits_confirming : (op : Carried) (goal : Goal) (which : Which) (m : HeldConfirm) → Sits m.hand Fresh (confirming_next l p free op goal which m)
  sits_confirming op goal which m = sits_confirm op goal which m (confirmed l p free op (confirm_left m) goal which) (sits_confirmed op goal which m)

  -- ---- the search

  looks_either : (op : Carried) (hand : Hand) (b : Bool) →
      Sits hand Fresh (if b then confirms l p free op hand To_absent else stands op (Next (v_load_started hand (link_word l (row_at op.path)))))
  looks_either op hand true = sits_confirms op hand To_absent
  looks_either op hand false = record { own = refl; deed = refl; spare = refl }

  sits_looks : (op : Carried) (hand : Hand) → Sits hand Fresh (looks l p free op hand)
  unfolding looks
  sits_looks op hand = looks_either op hand (row_at op.path == 0)

  pub sits_help_at : (op : Carried) (m : HeldExchange) (at : Exchanging) → Sits m.hand Fresh (help_by l p free op m at)
  sits_help_at op m Ready = record { own = refl; deed = refl; spare = refl }
  sits_help_at op m (Tries slot) = record { own = refl; deed = refl; spare = refl }
  sits_help_at op m TriesBare = record { own = refl; deed = refl; spare = refl }
  sits_help_at op m WritesBack = record { own = refl; deed = refl; spare = refl }
  sits_help_at op m Withdraws = record { own = refl; deed = refl; spare = refl }
  sits_help_at op m (Lowers slot found) = record { own = refl; deed = refl; spare = refl }
  sits_help_at op m (Ended Won) =
      moved m.hand (with_helped m.hand) Fresh (helped_so l p free op m.to m.hand Won) refl
      (sits_looks (record op { path = unlinked op.path m.to }) (with_helped m.hand))
  sits_help_at op m (Ended (Lost found)) = sits_search op m.hand
  sits_help_at op m (Ended (Exchange_worn word version)) = sits_worn op m.hand word version

  greater_either : (op : Carried) (hand : Hand) (b : Bool) →
      Sits hand Fresh (if b then confirms l p free op hand To_absent else looks l p free (record op { path = further op.path }) hand)
  greater_either op hand true = sits_confirms op hand To_absent
  greater_either op hand false = sits_looks (record op { path = further op.path }) hand

  key_either : (op : Carried) (hand : Hand) (key : ℕ) (b : Bool) → Sits hand Fresh (if b
      then confirms l p free op hand To_found
      else (if nat_lt (key_of op.call) key then confirms l p free op hand To_absent else looks l p free (record op { path = further op.path }) hand))
  key_either op hand key true = sits_confirms op hand To_found
  key_either op hand key false = greater_either op hand (nat_lt (key_of op.call) key)

  pub sits_key : (op : Carried) (m : HeldVLoad) (at : VLoading) → Sits m.hand Fresh (key_by l p free op m at)
  sits_key op m V_reads = record { own = refl; deed = refl; spare = refl }
  sits_key op m (V_has raw) = key_either op m.hand (value_of raw) (value_of raw == key_of op.call)

  link_got_either : (op : Carried) (hand : Hand) (b : Bool) →
      Sits hand Fresh (if b then confirms l p free op hand To_help else stands op (Key (v_load_started hand (key_word l (row_at op.path)))))
  link_got_either op hand true = sits_confirms op hand To_help
  link_got_either op hand false = record { own = refl; deed = refl; spare = refl }

  pub sits_next_at : (op : Carried) (m : HeldVLoad) (at : VLoading) → Sits m.hand Fresh (next_by l p free op m at)
  sits_next_at op m V_reads = record { own = refl; deed = refl; spare = refl }
  sits_next_at op m (V_has raw) = link_got_either (record op { path = with_next op.path m.word raw }) m.hand (is_marked raw)

  pub sits_head : (op : Carried) (m : HeldVLoad) (at : VLoading) → Sits m.hand Fresh (head_by l p free op m at)
  sits_head op m V_reads = record { own = refl; deed = refl; spare = refl }
  sits_head op m (V_has raw) = sits_looks (record op { path = from_head op.path m.word raw }) m.hand

  pub sits_value : (op : Carried) (m : HeldVLoad) (at : VLoading) → Sits m.hand Fresh (value_by op m at)
  sits_value op m V_reads = record { own = refl; deed = refl; spare = refl }
  sits_value op m (V_has raw) = sits_answer op m.hand (Found (value_of raw)) (found_updates op.call (value_of raw))
