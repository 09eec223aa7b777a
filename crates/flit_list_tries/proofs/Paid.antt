-- Where the machine of a call has ended: what comes next and what is left of the try behind it are within what was left
-- before; or an exchange was lost, and a search begins.
use Rattle.std.proofs.Common.{ℕ, ◌+◌, ◌*◌, ◌≤◌, ◌==◌, nat_lt, Bool, true, false, List, [], ◌∷◌, length, length-append, is_none, arith, if◌then◌else◌}
use Rattle.flit_words.specs.declared.layouts.Layout.{Layout}
use Rattle.flit_words.specs.Words.{is_tagged, bare_of, value_of}
use Rattle.flit_place.specs.Tags.{Place}
use Rattle.flit_pv.specs.declared.hands.Hand.{Hand}
use Rattle.flit_pv.specs.Queues.{noted}
use Rattle.flit_pv.specs.Hands.{with_queued, with_omitted}
use Rattle.flit_pv.specs.declared.v_loads.VLoading.{VLoading}
use Rattle.flit_pv.specs.declared.v_loads.VLoading.TheVariants.{Reads as V_reads, Has as V_has}
use Rattle.flit_pv.specs.declared.confirms.Confirming.{Confirming as Confirming_phase}
use Rattle.flit_pv.specs.declared.confirms.Confirming.TheVariants.{Begins, MakesRoom, Done}
use Rattle.flit_pv.specs.Confirms.{HeldConfirm, confirm_asked, confirm_leaves, confirm_left}
use Rattle.flit_pv.specs.Drafts.{DraftWords}
use Rattle.flit_pv.specs.declared.stores.Storing.{Storing}
use Rattle.flit_pv.specs.declared.stores.Storing.TheVariants.{Reads as Store_reads, MakesRoom as Store_makes_room, Writes, Ended as Store_ended}
use Rattle.flit_pv.specs.declared.stores.Stored.TheVariants.{Stored as All_stored, Worn as Store_worn}
use Rattle.flit_pv.specs.declared.exchanges.Exchanging.{Exchanging}
use Rattle.flit_pv.specs.declared.exchanges.Exchanging.TheVariants.{Ready, Tries, TriesBare, WritesBack, Withdraws, Lowers, Ended}
use Rattle.flit_rows.specs.declared.take_row.Taking.{Taking}
use Rattle.flit_rows.specs.declared.take_row.Taking.TheVariants.{Draws, Ended as Take_ended}
use Rattle.flit_rows.specs.declared.take_row.Took.TheVariants.{Taken, None as NoRow}
use Rattle.flit_structure.specs.Meanings.{key_of}
use Rattle.flit_model.specs.declared.calls.Reply.TheVariants.{Full, Worn}
use Rattle.flit_crew_bounds.specs.Left.{v_load_left, confirm_left as confirm_steps, exchange_left, store_left, take_left}
use Rattle.flit_list_steps.specs.declared.operations.Goal.{Goal}
use Rattle.flit_list_steps.specs.declared.operations.Which.{Which}
use Rattle.flit_list_steps.specs.Operations.{Confirming, HeldOp}
use Rattle.flit_list_steps.specs.Steps.{Carried, stands, row_of, is_marked, row_at, head_by, next_by, key_by, value_by, confirming_next, confirmed, row_by, words_by, row_value_by, tidy_by, path_confirmed}
use Rattle.flit_list_limits.specs.ListLimits.{path_cost, next_cost, confirming_by}
use Rattle.flit_list_limits.proofs.Paying.{total, to_answer, to_link, to_stored, to_stores, to_confirmed, to_head, to_link_got, to_key_got}

module _ (l : Layout) (p : Place) (free : List ℕ) (most : ℕ) (ahead : ℕ → ℕ) where
  abbrev pub worth : HeldOp → ℕ
  worth next = total l p free most ahead next

  same_le : (n : ℕ) → n ≤ n
  same_le n = omega arith

  -- what comes next is within a machine's steps, its queue and its rest
  up : (t s q r : ℕ) → t ≤ q + r → t ≤ s + q + r
  up t s q r h = omega (arith, h)

  -- ---- loads

  pub head_paid : ((row : ℕ) → ahead row ≤ most) → (op : Carried) (hand : Hand) (word : ℕ) (at : VLoading) →
      worth (head_by l p free op (record { hand = hand; word = word; at = at }) at) ≤ v_load_left at + length hand.queue + (7 * most + 17)
  head_paid few op hand word V_reads = same_le _
  head_paid few op hand word (V_has raw) = up _ 0 (length hand.queue) (7 * most + 17) (to_head l p free most ahead op hand word raw few)

  pub next_paid : (op : Carried) (hand : Hand) (word : ℕ) (at : VLoading) → worth (next_by l p free op (record { hand = hand; word = word; at = at }) at)
      ≤ v_load_left at + length hand.queue + (7 * ahead (row_at op.path) + path_cost op.path + 14)
  next_paid op hand word V_reads = same_le _
  next_paid op hand word (V_has raw) = up _ 0 (length hand.queue) (7 * ahead (row_at op.path) + path_cost op.path + 14)
      (to_link_got l p free most ahead op hand word raw (is_marked raw))

  pub key_paid : (op : Carried) → ahead (row_of op.path.next.raw) + 1 ≤ ahead (row_at op.path) → (hand : Hand) (word : ℕ) (at : VLoading) →
      worth (key_by l p free op (record { hand = hand; word = word; at = at }) at)
      ≤ v_load_left at + length hand.queue + (7 * ahead (row_at op.path) + next_cost op.path + 11)
  key_paid op falls hand word V_reads = same_le _
  key_paid op falls hand word (V_has raw) = up _ 0 (length hand.queue) (7 * ahead (row_at op.path) + next_cost op.path + 11)
      (to_key_got l p free most ahead op hand (value_of raw == key_of op.call) (nat_lt (key_of op.call) (value_of raw)) falls)

  pub value_paid : (op : Carried) (hand : Hand) (word : ℕ) (at : VLoading) →
      worth (value_by op (record { hand = hand; word = word; at = at }) at) ≤ v_load_left at + length hand.queue + 0
  value_paid op hand word V_reads = same_le _
  value_paid op hand word (V_has raw) = same_le _

  -- ---- a confirmation

  queue_left : (m : HeldConfirm) (at : Confirming_phase) → length (confirm_leaves at m).queue ≤ confirm_steps at + length m.hand.queue
  queue_left m Begins = by_tag (is_tagged m.raw)
    where
      by_tag : (b : Bool) → length (if b then with_queued m.hand m.word m.raw else with_omitted m.hand).queue ≤ 2 + length m.hand.queue
      by_tag true = omega (arith, length-append m.hand.queue (noted m.word (bare_of m.raw) ∷ []))
      by_tag false = omega arith
  queue_left m (MakesRoom first) = omega arith
  queue_left m Done = omega arith

  pub confirm_paid : (op : Carried) (goal : Goal) (which : Which) (m : HeldConfirm) → worth (confirming_next l p free op goal which m)
      ≤ confirm_steps m.at + length m.hand.queue + (confirming_by ahead (path_confirmed op.path which) goal + 2)
  confirm_paid op goal which m = by_event (is_none (confirm_asked p m))
    where
      through : (t x s q r : ℕ) → t ≤ x + r → x ≤ s + q → t ≤ s + q + r
      through t x s q r h i = omega (arith, h, i)

      by_event : (b : Bool) → worth (if b then confirmed l p free op (confirm_left m) goal which else stands op (Confirming goal which m))
          ≤ confirm_steps m.at + length m.hand.queue + (confirming_by ahead (path_confirmed op.path which) goal + 2)
      by_event true = through _ (length (confirm_left m).queue) (confirm_steps m.at) (length m.hand.queue) _
          (to_confirmed l p free most ahead op (confirm_left m) goal which) (queue_left m m.at)
      by_event false = same_le _

  -- ---- an insert's row

  pub row_paid : (op : Carried) (hand : Hand) (need : ℕ) (at : Taking) → worth (row_by l op (record { hand = hand; need = need; at = at }) at)
      ≤ take_left at need hand.spare + length hand.queue + 13
  row_paid op hand need Draws = same_le _
  row_paid op hand need (Take_ended Taken) = up _ 0 (length hand.queue) 13 (to_stores l p free most ahead op hand)
  row_paid op hand need (Take_ended (NoRow ticket)) = up _ 0 (length hand.queue) 13 (to_answer l p free most ahead op hand (Full ticket) 13)

  pub words_paid : (op : Carried) (value : ℕ) (hand : Hand) (drafts : DraftWords) (at : Storing) →
      worth (words_by l op value (record { hand = hand; drafts = drafts; at = at }) at) ≤ store_left at drafts + length hand.queue + 7
  words_paid op value hand drafts (Store_reads how) = same_le _
  words_paid op value hand drafts (Writes next) = same_le _
  words_paid op value hand drafts (Store_makes_room next first) = same_le _
  words_paid op value hand drafts (Store_ended All_stored) = up _ 0 (length hand.queue) 7 (to_stored l p free most ahead op hand value l.values)
  words_paid op value hand drafts (Store_ended (Store_worn word version)) = up _ 0 (length hand.queue) 7
      (to_answer l p free most ahead op hand (Worn word version) 7)

  pub row_value_paid : (op : Carried) (hand : Hand) (drafts : DraftWords) (at : Storing) →
      worth (row_value_by l op (record { hand = hand; drafts = drafts; at = at }) at) ≤ store_left at drafts + length hand.queue + 4
  row_value_paid op hand drafts (Store_reads how) = same_le _
  row_value_paid op hand drafts (Writes next) = same_le _
  row_value_paid op hand drafts (Store_makes_room next first) = same_le _
  row_value_paid op hand drafts (Store_ended All_stored) = up _ 0 (length hand.queue) 4 (to_link l p free most ahead op hand)
  row_value_paid op hand drafts (Store_ended (Store_worn word version)) = up _ 0 (length hand.queue) 4
      (to_answer l p free most ahead op hand (Worn word version) 4)

  -- ---- exchanges

  pub tidy_paid : (op : Carried) (hand : Hand) (word from to : ℕ) (at : Exchanging) →
      worth (tidy_by op (record { hand = hand; word = word; from = from; to = to; at = at }) at) ≤ exchange_left at + length hand.queue + 0
  tidy_paid op hand word from to Ready = same_le _
  tidy_paid op hand word from to (Tries slot) = same_le _
  tidy_paid op hand word from to TriesBare = same_le _
  tidy_paid op hand word from to WritesBack = same_le _
  tidy_paid op hand word from to Withdraws = same_le _
  tidy_paid op hand word from to (Lowers slot found) = same_le _
  tidy_paid op hand word from to (Ended how) = same_le _
