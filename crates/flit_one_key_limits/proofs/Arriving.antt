-- Where a call comes to with a hand, once it has loaded a head: its counts stay, and few events are left.
use Rattle.std.proofs.Common.{◌≡◌, ◌≢◌, ℕ, suc, ◌+◌, ◌*◌, ◌≤◌, ◌==◌, cond, max, nat_le, Bool, true, false, List, [], ◌∷◌, length, refl, arith, if◌then◌else◌}
use Rattle.flit_words.specs.declared.layouts.Layout.{Layout}
use Rattle.flit_words.specs.Words.{version_of}
use Rattle.flit_model.specs.declared.calls.Call.{Call}
use Rattle.flit_model.specs.declared.calls.Call.TheVariants.{Insert, Remove, Contains, Get}
use Rattle.flit_model.specs.declared.calls.Reply.{Reply}
use Rattle.flit_model.specs.declared.calls.Reply.TheVariants.{Yes, No, Found, Full, Worn}
use Rattle.flit_pv.specs.declared.hands.Hand.{Hand}
use Rattle.flit_pv.specs.declared.exchanges.Exchanging.TheVariants.{Ready, Ended}
use Rattle.flit_pv.specs.declared.exchanges.Exchanged.TheVariants.{Worn as Exchange_worn}
use Rattle.flit_pv.specs.Stores.{HeldStore, store_started}
use Rattle.flit_pv.specs.declared.stores.Storing.{Storing}
use Rattle.flit_pv.specs.declared.stores.Storing.TheVariants.{Reads as Store_reads, MakesRoom as Store_makes_room, Writes, Ended as Store_ended}
use Rattle.flit_pv.specs.declared.stores.Stored.TheVariants.{Stored as All_stored, Worn as Store_worn}
use Rattle.flit_pv.specs.Drafts.{DraftWords, next_bare}
use Rattle.flit_pv.specs.VLoads.{v_load_started}
use Rattle.flit_rows.specs.declared.take_row.Took.TheVariants.{Taken, None as NoRow}
use Rattle.flit_rows.specs.declared.take_row.Taking.{Taking}
use Rattle.flit_rows.specs.declared.take_row.Taking.TheVariants.{Draws, Ended as Take_ended}
use Rattle.flit_rows.specs.Taking.{judged, lacks, is_past}
use Rattle.flit_structure.specs.Meanings.{key_of, value_put}
use Rattle.flit_one_key.specs.Operations.{At, Words, RowValue, HeldOp}
use Rattle.flit_one_key.specs.Steps.{answers, links, link_next, stores, stores_value, row_value_by, row_value_next, words_by, words_next, row_by, takes_row, value_next, key_is, key_isnt, head_none, head_so, key_next, links_none, key_word, value_word, to_row, hand_at, searches}
use Rattle.flit_crew_bounds.specs.Left.{machine_left, missing}
use Rattle.flit_one_key_crew.specs.OneKeyAnatomy.{machine_at}
use Rattle.flit_one_key_limits.specs.OneKeyLimits.{rest_at, again_at, differs}

-- what a call's machine may make still, and what of its try may follow
abbrev pub total : At → ℕ
total at = machine_left (machine_at at) + rest_at at

pub record Arrives (head : ℕ) (hand : Hand) (most : ℕ) (at : At) : Type 0 where
  pub tries : (hand_at at).tally.tries ≡ hand.tally.tries
  pub left : total at ≤ most
  pub again : (words : List ℕ) → again_at words at ≤ differs words head

pub later : (head : ℕ) (hand : Hand) (n m : ℕ) (at : At) → n ≤ m → Arrives head hand n at → Arrives head hand m at
later head hand n m at le h = record { tries = h.tries; left = through (total at) n m h.left le; again = h.again }
  where
    through : (a b c : ℕ) → a ≤ b → b ≤ c → a ≤ c
    through a b c i j = omega (arith, i, j)

same : (n : ℕ) → n ≤ n
same n = omega arith

least : (n : ℕ) → 0 ≤ n
least n = omega arith

more : (k n : ℕ) → n ≤ k + n
more k n = omega arith

one_missing : (spare : List ℕ) → missing 1 spare ≤ 1
one_missing [] = omega arith
one_missing (r ∷ rs) = by_test (r == 0)
  where
    by_test : (b : Bool) → cond b (suc (missing 0 rs)) (missing 0 rs) ≤ 1
    by_test true = omega arith
    by_test false = omega arith

module _ (l : Layout) (free : List ℕ) (op : HeldOp) (head : ℕ) where
  pub to_answer : (hand : Hand) (reply : Reply) (n : ℕ) → length hand.queue ≤ n → Arrives head hand n (answers op hand reply).at
  to_answer hand reply n le = record { tries = refl; left = ends_left (length hand.queue) n le; again = λ words. least (differs words head) }
    where
      ends_left : (q n : ℕ) → q ≤ n → 0 + q + 0 ≤ n
      ends_left q n h = omega (arith, h)

  exchange_case : (hand : Hand) (value : ℕ) (b : Bool) → Arrives head hand (4 + length hand.queue) (link_next op
      (if b then record { hand = hand; word = 0; from = head; to = 0; at = Ended (Exchange_worn 0 (version_of head)) }
      else record { hand = hand; word = 0; from = head; to = next_bare head value; at = Ready })).at
  exchange_case hand value true = to_answer hand (Worn 0 (version_of head)) (4 + length hand.queue) (more 4 (length hand.queue))
  exchange_case hand value false = record { tries = refl; left = omega arith; again = λ words. same (differs words head) }

  pub to_exchange : (hand : Hand) (value : ℕ) → Arrives head hand (4 + length hand.queue) (links l op hand head value).at
  to_exchange hand value = exchange_case hand value (nat_le l.limit (version_of head))

  row_value_at : (hand : Hand) (drafts : DraftWords) (at : Storing) →
      Arrives head hand (total (RowValue head (record { hand = hand; drafts = drafts; at = at })))
      (row_value_by l op head (record { hand = hand; drafts = drafts; at = at }) at).at
  row_value_at hand drafts (Store_reads how) = record { tries = refl; left = same _; again = λ words. same (differs words head) }
  row_value_at hand drafts (Writes next) = record { tries = refl; left = same _; again = λ words. same (differs words head) }
  row_value_at hand drafts (Store_makes_room next first) = record { tries = refl; left = same _; again = λ words. same (differs words head) }
  row_value_at hand drafts (Store_ended All_stored) = later head hand (4 + length hand.queue) (0 + length hand.queue + 4) (links l op hand head to_row).at
      (turned (length hand.queue)) (to_exchange hand to_row)
    where
      turned : (q : ℕ) → 4 + q ≤ 0 + q + 4
      turned q = omega arith
  row_value_at hand drafts (Store_ended (Store_worn word version)) = to_answer hand (Worn word version) (0 + length hand.queue + 4) (beyond (length hand.queue))
    where
      beyond : (q : ℕ) → q ≤ 0 + q + 4
      beyond q = omega arith

  pub to_row_value : (m : HeldStore) → Arrives head m.hand (total (RowValue head m)) (row_value_next l op head m).at
  to_row_value m = row_value_at m.hand m.drafts m.at

  words_stored : (hand : Hand) (b : Bool) → Arrives head hand (7 + length hand.queue) (if b then stores_value l op hand head (value_put op.call)
      else links l op hand head to_row).at
  words_stored hand true = later head hand (3 * 1 + 2 * 0 + length hand.queue + 4) (7 + length hand.queue)
      (stores_value l op hand head (value_put op.call)).at (up (length hand.queue))
      (to_row_value (store_started hand (value_word l) (value_put op.call ∷ []) l.limit))
    where
      up : (q : ℕ) → 3 * 1 + 2 * 0 + q + 4 ≤ 7 + q
      up q = omega arith
  words_stored hand false = later head hand (4 + length hand.queue) (7 + length hand.queue) (links l op hand head to_row).at (up (length hand.queue))
      (to_exchange hand to_row)
    where
      up : (n : ℕ) → 4 + n ≤ 7 + n
      up n = omega arith

  words_at : (hand : Hand) (drafts : DraftWords) (at : Storing) → Arrives head hand (total (Words head (record { hand = hand; drafts = drafts; at = at })))
      (words_by l op head (value_put op.call) (record { hand = hand; drafts = drafts; at = at }) at).at
  words_at hand drafts (Store_reads how) = record { tries = refl; left = same _; again = λ words. same (differs words head) }
  words_at hand drafts (Writes next) = record { tries = refl; left = same _; again = λ words. same (differs words head) }
  words_at hand drafts (Store_makes_room next first) = record { tries = refl; left = same _; again = λ words. same (differs words head) }
  words_at hand drafts (Store_ended All_stored) = later head hand (7 + length hand.queue) (0 + length hand.queue + 7)
      (if l.values then stores_value l op hand head (value_put op.call) else links l op hand head to_row).at (turned (length hand.queue))
      (words_stored hand l.values)
    where
      turned : (q : ℕ) → 7 + q ≤ 0 + q + 7
      turned q = omega arith
  words_at hand drafts (Store_ended (Store_worn word version)) = to_answer hand (Worn word version) (0 + length hand.queue + 7) (beyond (length hand.queue))
    where
      beyond : (q : ℕ) → q ≤ 0 + q + 7
      beyond q = omega arith

  pub to_words : (m : HeldStore) → Arrives head m.hand (total (Words head m)) (words_next l op head m).at
  to_words m = words_at m.hand m.drafts m.at

  pub to_stores : (hand : Hand) → Arrives head hand (13 + length hand.queue) (stores l op hand head).at
  to_stores hand = later head hand (3 * 2 + 2 * 0 + length hand.queue + 7) (13 + length hand.queue) (stores l op hand head).at (up (length hand.queue))
      (to_words (store_started hand (key_word l) (key_of op.call ∷ 0 ∷ []) l.limit))
    where
      up : (n : ℕ) → 3 * 2 + 2 * 0 + n + 7 ≤ 13 + n
      up n = omega arith

  taken_case : (hand : Hand) (b : Bool) → b ≡ true → Arrives head hand (13 + length hand.queue) (if b then stores l op hand head
      else searches op hand).at
  taken_case hand true e = to_stores hand
  taken_case hand false e = absurd (cc)

  -- a row was taken or there is none
  pub to_taken : (hand : Hand) (need : ℕ) (at : Taking) → at ≢ Draws → (at ≡ Take_ended Taken → links_none head ≡ true) →
      Arrives head hand (13 + length hand.queue) (row_by l op head (record { hand = hand; need = need; at = at }) at).at
  to_taken hand need Draws other none = absurd (other refl)
  to_taken hand need (Take_ended Taken) other none = taken_case hand (links_none head) (none refl)
  to_taken hand need (Take_ended (NoRow ticket)) other none = to_answer hand (Full ticket) (13 + length hand.queue) (more 13 (length hand.queue))

  to_take : (hand : Hand) (at : Taking) → (at ≡ Take_ended Taken → links_none head ≡ true) →
      Arrives head hand (14 + length hand.queue) (row_by l op head (record { hand = hand; need = 1; at = at }) at).at
  to_take hand Draws none = record {
    tries = refl;
    left = draws_left (missing 1 hand.spare) (length hand.queue) (one_missing hand.spare);
    again = λ words. same (differs words head);
  }
    where
      draws_left : (m q : ℕ) → m ≤ 1 → max 1 m + q + 13 ≤ 14 + q
      draws_left m q h = omega (arith, h)
  to_take hand (Take_ended took) none = later head hand (13 + length hand.queue) (14 + length hand.queue)
      (row_by l op head (record { hand = hand; need = 1; at = Take_ended took }) (Take_ended took)).at (up (length hand.queue))
      (to_taken hand 1 (Take_ended took) (λ q. absurd (cc)) none)
    where
      up : (n : ℕ) → 13 + n ≤ 14 + n
      up n = omega arith

  pub judged_taken : (lacking past : Bool) (ticket : ℕ) → judged lacking past ticket ≡ Take_ended Taken → lacking ≡ false
  judged_taken false past ticket q = refl
  judged_taken true true ticket q = absurd (cc)
  judged_taken true false ticket q = absurd (cc)

  pub to_row_taken : (hand : Hand) → (lacks 1 hand.spare ≡ false → links_none head ≡ true) →
      Arrives head hand (14 + length hand.queue) (takes_row l free op hand head).at
  to_row_taken hand none = to_take hand (judged (lacks 1 hand.spare) (is_past free hand.ticket) hand.ticket)
      (λ q. none (judged_taken (lacks 1 hand.spare) (is_past free hand.ticket) hand.ticket q))

  few : (n : ℕ) → 4 + n ≤ 14 + n
  few n = omega arith

  get_case : (hand : Hand) (b : Bool) → Arrives head hand (14 + length hand.queue) (if b then value_next op (v_load_started hand (value_word l))
      else answers op hand (Found 0)).at
  get_case hand true = record { tries = refl; left = omega arith; again = λ words. least (differs words head) }
  get_case hand false = to_answer hand (Found 0) (14 + length hand.queue) (more 14 (length hand.queue))

  to_key_is : (hand : Hand) (call : Call) → Arrives head hand (14 + length hand.queue) (key_is l op hand head call).at
  to_key_is hand (Insert k v) = to_answer hand No (14 + length hand.queue) (more 14 (length hand.queue))
  to_key_is hand (Remove k) = later head hand (4 + length hand.queue) (14 + length hand.queue) (links l op hand head 0).at (few (length hand.queue))
      (to_exchange hand 0)
  to_key_is hand (Contains k) = to_answer hand Yes (14 + length hand.queue) (more 14 (length hand.queue))
  to_key_is hand (Get k) = get_case hand l.values

  to_key_isnt : (hand : Hand) (call : Call) → (lacks 1 hand.spare ≡ false → links_none head ≡ true) →
      Arrives head hand (14 + length hand.queue) (key_isnt l free op hand head call).at
  to_key_isnt hand (Insert k v) none = to_row_taken hand none
  to_key_isnt hand (Remove k) none = to_answer hand No (14 + length hand.queue) (more 14 (length hand.queue))
  to_key_isnt hand (Contains k) none = to_answer hand No (14 + length hand.queue) (more 14 (length hand.queue))
  to_key_isnt hand (Get k) none = to_answer hand No (14 + length hand.queue) (more 14 (length hand.queue))

  -- the row's key was loaded
  pub to_key : (hand : Hand) (b : Bool) → (lacks 1 hand.spare ≡ false → links_none head ≡ true) →
      Arrives head hand (14 + length hand.queue) (if b then key_is l op hand head op.call else key_isnt l free op hand head op.call).at
  to_key hand true none = to_key_is hand op.call
  to_key hand false none = to_key_isnt hand op.call none

  to_head_none : (hand : Hand) (call : Call) → links_none head ≡ true → Arrives head hand (14 + length hand.queue) (head_none l free op hand head call).at
  to_head_none hand (Insert k v) none = to_row_taken hand (λ q. none)
  to_head_none hand (Remove k) none = to_answer hand No (14 + length hand.queue) (more 14 (length hand.queue))
  to_head_none hand (Contains k) none = to_answer hand No (14 + length hand.queue) (more 14 (length hand.queue))
  to_head_none hand (Get k) none = to_answer hand No (14 + length hand.queue) (more 14 (length hand.queue))

  -- the head was loaded
  head_case : (hand : Hand) (b : Bool) → links_none head ≡ b → Arrives head hand (15 + length hand.queue) (if b then head_none l free op hand head op.call
      else key_next l free op head (v_load_started hand (key_word l))).at
  head_case hand true e = later head hand (14 + length hand.queue) (15 + length hand.queue) (head_none l free op hand head op.call).at (up (length hand.queue))
      (to_head_none hand op.call e)
    where
      up : (n : ℕ) → 14 + n ≤ 15 + n
      up n = omega arith
  head_case hand false e = record { tries = refl; left = omega arith; again = λ words. same (differs words head) }

  pub to_head : (hand : Hand) → Arrives head hand (15 + length hand.queue) (head_so l free op hand head).at
  to_head hand = head_case hand (links_none head) refl
