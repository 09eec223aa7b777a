-- An ended machine of a call, by what it is; and what stays between it and the call's next one.
use Rattle.std.proofs.Common.{◌≡◌, ℕ, ◌==◌, nat_le, Bool, true, false, List, refl, ap, if◌then◌else◌}
use Rattle.flit_words.specs.declared.layouts.Layout.{Layout}
use Rattle.flit_words.specs.Words.{version_of, value_of}
use Rattle.flit_model.specs.Histories.{is_update_by}
use Rattle.flit_model.specs.declared.calls.Call.{Call}
use Rattle.flit_model.specs.declared.calls.Call.TheVariants.{Insert, Remove, Contains, Get}
use Rattle.flit_model.specs.declared.calls.Reply.{Reply}
use Rattle.flit_model.specs.declared.calls.Reply.TheVariants.{Yes, No, Found, Full, Worn}
use Rattle.flit_pv.specs.declared.hands.Hand.{Hand}
use Rattle.flit_pv.specs.VLoads.{v_load_started}
use Rattle.flit_pv.specs.declared.exchanges.Exchanging.TheVariants.{Ready, Ended}
use Rattle.flit_pv.specs.declared.exchanges.Exchanged.TheVariants.{Lost, Worn as Exchange_worn}
use Rattle.flit_pv.specs.Drafts.{next_bare}
use Rattle.flit_pv.specs.declared.stores.Stored.{Stored}
use Rattle.flit_pv.specs.declared.stores.Stored.TheVariants.{Stored as All_stored, Worn as Store_worn}
use Rattle.flit_rows.specs.Shares.{rows_in}
use Rattle.flit_rows.specs.declared.take_row.Took.{Took}
use Rattle.flit_rows.specs.declared.take_row.Took.TheVariants.{Taken, None as NoRow}
use Rattle.flit_rows.specs.Taking.{lacks, is_past, judged}
use Rattle.flit_structure.specs.Meanings.{key_of, value_put}
use Rattle.flit_structure.specs.Lawful.{is_insert}
use Rattle.flit_crew.specs.Machines.{Fresh, hand_in}
use Rattle.flit_crew.specs.Anatomies.{own, deed, deed_by, rows_but}
use Rattle.flit_one_key.specs.Operations.{HeldOp}
use Rattle.flit_one_key.specs.Steps.{key_word, value_word, to_row, links_none, searches, answers, linked_so, link_next, links, stores, stores_value, words_so, row_value_so, row_taken, row_so, takes_row, row_by, value_next, key_is, key_isnt, key_got, head_none, head_so, key_next}
use Rattle.flit_one_key_crew.specs.OneKeyAnatomy.{machine_at, one_key_anatomy}
use Rattle.flit_one_key_crew.proofs.Knowing.{and_false}

module _ (l : Layout) (free : List ℕ) (op : HeldOp) where
  -- the call goes on with the rows of this hand, and with no update yet
  pub record Sits (hand : Hand) (next : HeldOp) : Type 0 where
    pub own : own (one_key_anatomy l free) next ≡ rows_in hand.spare
    pub deed : deed (one_key_anatomy l free) next ≡ Fresh
    pub spare : (hand_in (machine_at next.at)).spare ≡ hand.spare

  sits_search : (hand : Hand) → Sits hand (searches op hand)
  sits_search hand = record { own = refl; deed = refl; spare = refl }

  sits_answer : (hand : Hand) (reply : Reply) → is_update_by op.call reply ≡ false → Sits hand (answers op hand reply)
  sits_answer hand reply none = record { own = refl; deed = ap (λ b. deed_by (one_key_anatomy l free) false b Fresh) none; spare = refl }

  no_updates : (call : Call) → is_update_by call No ≡ false
  no_updates (Insert k v) = refl
  no_updates (Remove k) = refl
  no_updates (Contains k) = refl
  no_updates (Get k) = refl

  found_updates : (call : Call) (value : ℕ) → is_update_by call (Found value) ≡ false
  found_updates (Insert k v) value = refl
  found_updates (Remove k) value = refl
  found_updates (Contains k) value = refl
  found_updates (Get k) value = refl

  full_updates : (call : Call) (ticket : ℕ) → is_update_by call (Full ticket) ≡ false
  full_updates (Insert k v) ticket = refl
  full_updates (Remove k) ticket = refl
  full_updates (Contains k) ticket = refl
  full_updates (Get k) ticket = refl

  worn_updates : (call : Call) (word version : ℕ) → is_update_by call (Worn word version) ≡ false
  worn_updates (Insert k v) word version = refl
  worn_updates (Remove k) word version = refl
  worn_updates (Contains k) word version = refl
  worn_updates (Get k) word version = refl

  sits_no : (hand : Hand) → Sits hand (answers op hand No)
  sits_no hand = sits_answer hand No (no_updates op.call)

  sits_worn : (hand : Hand) (word version : ℕ) → Sits hand (answers op hand (Worn word version))
  sits_worn hand word version = sits_answer hand (Worn word version) (worn_updates op.call word version)

  sits_link : (hand : Hand) (head value : ℕ) → Sits hand (links l op hand head value)
  sits_link hand head value = by_limit (nat_le l.limit (version_of head))
    where
      by_limit : (worn : Bool) → Sits hand (link_next op (if worn
          then record { hand = hand; word = 0; from = head; to = 0; at = Ended (Exchange_worn 0 (version_of head)) }
          else record { hand = hand; word = 0; from = head; to = next_bare head value; at = Ready }))
      by_limit true = sits_worn hand 0 (version_of head)
      by_limit false = record { own = ap (λ b. rows_but (one_key_anatomy l free) b hand.spare) (and_false (is_insert op.call)); deed = refl; spare = refl }

  sits_value : (hand : Hand) (head value : ℕ) (b : Bool) → Sits hand (if b then stores_value l op hand head value else links l op hand head to_row)
  sits_value hand head value true = record { own = refl; deed = refl; spare = refl }
  sits_value hand head value false = sits_link hand head to_row

  pub sits_words : (hand : Hand) (head : ℕ) (how : Stored) → Sits hand (words_so l op head (value_put op.call) hand how)
  sits_words hand head All_stored = sits_value hand head (value_put op.call) l.values
  sits_words hand head (Store_worn word version) = sits_worn hand word version

  pub sits_row_value : (hand : Hand) (head : ℕ) (how : Stored) → Sits hand (row_value_so l op head hand how)
  sits_row_value hand head All_stored = sits_link hand head to_row
  sits_row_value hand head (Store_worn word version) = sits_worn hand word version

  sits_taken : (hand : Hand) (head : ℕ) → Sits hand (row_taken l op head hand)
  sits_taken hand head = by_link (links_none head)
    where
      by_link : (b : Bool) → Sits hand (if b then stores l op hand head else searches op hand)
      by_link true = record { own = refl; deed = refl; spare = refl }
      by_link false = sits_search hand

  pub sits_row : (hand : Hand) (head : ℕ) (took : Took) → Sits hand (row_so l op head hand took)
  sits_row hand head Taken = sits_taken hand head
  sits_row hand head (NoRow ticket) = sits_answer hand (Full ticket) (full_updates op.call ticket)

  sits_take : (hand : Hand) (head : ℕ) → Sits hand (takes_row l free op hand head)
  sits_take hand head = by_test (lacks 1 hand.spare) (is_past free hand.ticket)
    where
      by_test : (lack past : Bool) →
          Sits hand (row_by l op head (record { hand = hand; need = 1; at = judged (lacks 1 hand.spare) (is_past free hand.ticket) hand.ticket })
          (judged lack past hand.ticket))
      by_test false past = sits_row hand head Taken
      by_test true true = sits_row hand head (NoRow hand.ticket)
      by_test true false = record { own = refl; deed = refl; spare = refl }

  sits_is : (hand : Hand) (head : ℕ) (c : Call) → op.call ≡ c → Sits hand (key_is l op hand head c)
  sits_is hand head (Insert k v) e = sits_no hand
  sits_is hand head (Remove k) e = sits_link hand head 0
  sits_is hand head (Contains k) e = sits_answer hand Yes (ap (λ c. is_update_by c Yes) e)
  sits_is hand head (Get k) e = by_values l.values
    where
      by_values : (b : Bool) → Sits hand (if b then value_next op (v_load_started hand (value_word l)) else answers op hand (Found 0))
      by_values true = record { own = refl; deed = refl; spare = refl }
      by_values false = sits_answer hand (Found 0) (found_updates op.call 0)

  sits_isnt : (hand : Hand) (head : ℕ) (c : Call) → Sits hand (key_isnt l free op hand head c)
  sits_isnt hand head (Insert k v) = sits_take hand head
  sits_isnt hand head (Remove k) = sits_no hand
  sits_isnt hand head (Contains k) = sits_no hand
  sits_isnt hand head (Get k) = sits_no hand

  pub sits_got : (hand : Hand) (head raw : ℕ) → Sits hand (key_got l free op hand head raw)
  sits_got hand head raw = by_test (value_of raw == key_of op.call)
    where
      by_test : (b : Bool) → Sits hand (if b then key_is l op hand head op.call else key_isnt l free op hand head op.call)
      by_test true = sits_is hand head op.call refl
      by_test false = sits_isnt hand head op.call

  sits_none : (hand : Hand) (head : ℕ) (c : Call) → Sits hand (head_none l free op hand head c)
  sits_none hand head (Insert k v) = sits_take hand head
  sits_none hand head (Remove k) = sits_no hand
  sits_none hand head (Contains k) = sits_no hand
  sits_none hand head (Get k) = sits_no hand

  pub sits_head : (hand : Hand) (head : ℕ) → Sits hand (head_so l free op hand head)
  sits_head hand head = by_link (links_none head)
    where
      by_link : (b : Bool) → Sits hand (if b then head_none l free op hand head op.call else key_next l free op head (v_load_started hand (key_word l)))
      by_link true = sits_none hand head op.call
      by_link false = record { own = refl; deed = refl; spare = refl }

  pub sits_found : (hand : Hand) (raw : ℕ) → Sits hand (answers op hand (Found (value_of raw)))
  sits_found hand raw = sits_answer hand (Found (value_of raw)) (found_updates op.call (value_of raw))

  pub sits_lost : (hand : Hand) (found : ℕ) → Sits hand (linked_so op hand (Lost found))
  sits_lost hand found = sits_search hand

  pub sits_worn_out : (hand : Hand) (word version : ℕ) → Sits hand (linked_so op hand (Exchange_worn word version))
  sits_worn_out hand word version = sits_worn hand word version
