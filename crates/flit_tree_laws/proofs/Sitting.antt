-- Between two machines of a call no row changes its owner, and no update its place.
use Rattle.std.proofs.Common.{◌≡◌, ℕ, ◌==◌, nat_le, Bool, true, false, List, refl, ap, if◌then◌else◌}
use Rattle.flit_words.specs.declared.layouts.Layout.{Layout}
use Rattle.flit_words.specs.Layouts.{value_word_of}
use Rattle.flit_words.specs.Words.{version_of, value_of}
use Rattle.flit_model.specs.Histories.{is_update_by}
use Rattle.flit_model.specs.declared.calls.Call.{Call}
use Rattle.flit_model.specs.declared.calls.Call.TheVariants.{Insert, Remove, Contains, Get}
use Rattle.flit_model.specs.declared.calls.Reply.{Reply}
use Rattle.flit_model.specs.declared.calls.Reply.TheVariants.{Yes, No, Found, Full, Worn}
use Rattle.flit_place.specs.Tags.{Place}
use Rattle.flit_pv.specs.declared.hands.Hand.{Hand}
use Rattle.flit_pv.specs.Loads.{HeldLoad, load_started}
use Rattle.flit_pv.specs.declared.loads.Loading.{Loading}
use Rattle.flit_pv.specs.declared.loads.Loading.TheVariants.{Reads as Load_reads, Asks as Load_asks, MakesRoom as Load_makes_room, Has as Load_has}
use Rattle.flit_pv.specs.VLoads.{HeldVLoad, v_load_started}
use Rattle.flit_pv.specs.declared.v_loads.VLoading.{VLoading}
use Rattle.flit_pv.specs.declared.v_loads.VLoading.TheVariants.{Reads as V_reads, Has as V_has}
use Rattle.flit_pv.specs.Exchanges.{HeldExchange}
use Rattle.flit_pv.specs.declared.exchanges.Exchanging.{Exchanging}
use Rattle.flit_pv.specs.declared.exchanges.Exchanging.TheVariants.{Ready, Tries, TriesBare, WritesBack, Withdraws, Lowers, Ended}
use Rattle.flit_pv.specs.declared.exchanges.Exchanged.{Exchanged}
use Rattle.flit_pv.specs.declared.exchanges.Exchanged.TheVariants.{Won, Lost, Worn as Exchange_worn}
use Rattle.flit_pv.specs.Drafts.{next_bare}
use Rattle.flit_pv.specs.Stores.{HeldStore}
use Rattle.flit_pv.specs.declared.stores.Storing.{Storing}
use Rattle.flit_pv.specs.declared.stores.Storing.TheVariants.{Reads as Store_reads, MakesRoom as Store_makes_room, Writes, Ended as Store_ended}
use Rattle.flit_pv.specs.declared.stores.Stored.{Stored}
use Rattle.flit_pv.specs.declared.stores.Stored.TheVariants.{Stored as All_stored, Worn as Store_worn}
use Rattle.flit_rows.specs.Shares.{rows_in}
use Rattle.flit_rows.specs.declared.take_row.Took.TheVariants.{Taken, None as NoRow}
use Rattle.flit_rows.specs.declared.take_row.Taking.{Taking}
use Rattle.flit_rows.specs.declared.take_row.Taking.TheVariants.{Draws, Ended as Take_ended}
use Rattle.flit_rows.specs.Taking.{HeldTake, take_started, lacks, is_past, judged}
use Rattle.flit_structure.specs.Meanings.{key_of}
use Rattle.flit_structure.specs.Lawful.{is_insert}
use Rattle.flit_crew.specs.Machines.{Deed, Fresh, Made, hand_in}
use Rattle.flit_crew.specs.Anatomies.{own, deed, deed_by, rows_but}
use Rattle.flit_tree_steps.specs.declared.operations.CleanUp.{CleanUp}
use Rattle.flit_tree_steps.specs.declared.operations.CleanUp.TheVariants.{Own, Help}
use Rattle.flit_tree_steps.specs.Operations.{Key, Sibling, Freeze, Swing, HeldOp}
use Rattle.flit_tree_steps.specs.Steps.{Carried, stands, row_of, is_flagged, is_frozen, is_plain, to_row, to_row_flagged, frozen_link, thawed_link, key_word, other_word, inner_row, row_at, with_sibling, further, answers, seeks, cleaned_so, swing_by, swing_next, swings, frozen_so, freeze_by, freeze_next, freezes, sibling_got, sibling_by, cleans, flag_next, flags, link_next, links, inner_by, stores_inner, leaf_value_by, stores_value, leaf_so, leaf_by, rows_by, takes_rows, value_by, value_next, found, absent, sought, edge_got, edge_by, key_by, root_by}
use Rattle.flit_tree_laws.specs.TreeAnatomy.{machine_at, tree_anatomy}
use Rattle.flit_tree_laws.proofs.Parts.{and_false}

pub no_updates : (call : Call) → is_update_by call No ≡ false
no_updates (Insert k v) = refl
no_updates (Remove k) = refl
no_updates (Contains k) = refl
no_updates (Get k) = refl

found_updates : (call : Call) (value : ℕ) → is_update_by call (Found value) ≡ false
found_updates (Insert k v) value = refl
found_updates (Remove k) value = refl
found_updates (Contains k) value = refl
found_updates (Get k) value = refl

full_updates : (call : Call) (ticket : ℕ) → is_update_by call (Full ticket) ≡ false
full_updates (Insert k v) ticket = refl
full_updates (Remove k) ticket = refl
full_updates (Contains k) ticket = refl
full_updates (Get k) ticket = refl

worn_updates : (call : Call) (word version : ℕ) → is_update_by call (Worn word version) ≡ false
worn_updates (Insert k v) word version = refl
worn_updates (Remove k) word version = refl
worn_updates (Contains k) word version = refl
worn_updates (Get k) word version = refl

pub insert_updates : (call : Call) → is_insert call ≡ true → is_update_by call Yes ≡ true
insert_updates (Insert k v) e = refl
insert_updates (Remove k) e = absurd (cc)
insert_updates (Contains k) e = absurd (cc)
insert_updates (Get k) e = absurd (cc)

-- where a call's update is in a clean-up: made, in its own
abbrev pub clean_deed : CleanUp → Deed
clean_deed Own = Made
clean_deed Help = Fresh

abbrev pub MadeIf : CleanUp → Call → Type 0
MadeIf Own call = is_update_by call Yes ≡ true
MadeIf Help call = Unit {0}

module _ (l : Layout) (p : Place) (free : List ℕ) where
  -- the call goes on with the rows of this hand, and with its update where it was
  pub record Sits (hand : Hand) (d : Deed) (next : HeldOp) : Type 0 where
    pub own : own (tree_anatomy l p free) next ≡ rows_in hand.spare
    pub deed : deed (tree_anatomy l p free) next ≡ d
    pub spare : (hand_in (machine_at next.at)).spare ≡ hand.spare

  pub sits_seek : (op : Carried) (hand : Hand) → Sits hand Fresh (seeks op hand)
  sits_seek op hand = record { own = refl; deed = refl; spare = refl }

  sits_answer : (op : Carried) (hand : Hand) (reply : Reply) → is_update_by op.call reply ≡ false → Sits hand Fresh (answers op hand reply)
  sits_answer op hand reply none = record { own = refl; deed = ap (λ b. deed_by (tree_anatomy l p free) false b Fresh) none; spare = refl }

  pub sits_yes : (op : Carried) (hand : Hand) → is_update_by op.call Yes ≡ true → Sits hand Made (answers op hand Yes)
  sits_yes op hand made_so = record { own = refl; deed = ap (λ b. deed_by (tree_anatomy l p free) false b Fresh) made_so; spare = refl }

  sits_no : (op : Carried) (hand : Hand) → Sits hand Fresh (answers op hand No)
  sits_no op hand = sits_answer op hand No (no_updates op.call)

  pub sits_worn : (op : Carried) (hand : Hand) (word version : ℕ) → Sits hand Fresh (answers op hand (Worn word version))
  sits_worn op hand word version = sits_answer op hand (Worn word version) (worn_updates op.call word version)

  -- ---- exchanges, which may be worn at once

  abbrev worn_one : Hand → ℕ → ℕ → HeldExchange
  worn_one hand word old = record { hand = hand; word = word; from = old; to = 0; at = Ended (Exchange_worn word (version_of old)) }

  abbrev fresh_one : Hand → ℕ → ℕ → ℕ → HeldExchange
  fresh_one hand word old value = record { hand = hand; word = word; from = old; to = next_bare old value; at = Ready }

  -- ---- clean-ups

  sits_cleaned : (c : CleanUp) (op : Carried) (hand : Hand) (how : Exchanged) → MadeIf c op.call → Sits hand (clean_deed c) (cleaned_so c op hand how)
  sits_cleaned Own op hand how made_so = sits_yes op hand made_so
  sits_cleaned Help op hand Won made_so = record { own = refl; deed = refl; spare = refl }
  sits_cleaned Help op hand (Lost found) made_so = sits_seek op hand
  sits_cleaned Help op hand (Exchange_worn word version) made_so = sits_worn op hand word version

  at_swing : (c : CleanUp) (op : Carried) (m : HeldExchange) → Sits m.hand (clean_deed c) (stands op (Swing c m))
  at_swing Own op m = record { own = refl; deed = refl; spare = refl }
  at_swing Help op m = record { own = refl; deed = refl; spare = refl }

  at_freeze : (c : CleanUp) (op : Carried) (m : HeldExchange) → Sits m.hand (clean_deed c) (stands op (Freeze c m))
  at_freeze Own op m = record { own = refl; deed = refl; spare = refl }
  at_freeze Help op m = record { own = refl; deed = refl; spare = refl }

  at_sibling : (c : CleanUp) (op : Carried) (m : HeldLoad) → Sits m.hand (clean_deed c) (stands op (Sibling c m))
  at_sibling Own op m = record { own = refl; deed = refl; spare = refl }
  at_sibling Help op m = record { own = refl; deed = refl; spare = refl }

  pub sits_swing : (c : CleanUp) (op : Carried) (m : HeldExchange) (at : Exchanging) → MadeIf c op.call → Sits m.hand (clean_deed c) (swing_by c op m at)
  sits_swing c op m Ready made_so = at_swing c op m
  sits_swing c op m (Tries slot) made_so = at_swing c op m
  sits_swing c op m TriesBare made_so = at_swing c op m
  sits_swing c op m WritesBack made_so = at_swing c op m
  sits_swing c op m Withdraws made_so = at_swing c op m
  sits_swing c op m (Lowers slot found) made_so = at_swing c op m
  sits_swing c op m (Ended how) made_so = sits_cleaned c op m.hand how made_so

  swing_either : (c : CleanUp) (op : Carried) (hand : Hand) (word old value : ℕ) → MadeIf c op.call → (b : Bool) →
      Sits hand (clean_deed c) (swing_next c op (if b then worn_one hand word old else fresh_one hand word old value))
  swing_either c op hand word old value made_so true = sits_cleaned c op hand (Exchange_worn word (version_of old)) made_so
  swing_either c op hand word old value made_so false = at_swing c op (fresh_one hand word old value)

  sits_swings : (c : CleanUp) (op : Carried) (hand : Hand) → MadeIf c op.call → Sits hand (clean_deed c) (swings l c op hand)
  unfolding swings
  sits_swings c op hand made_so = swing_either c op hand op.path.ancestor.word op.path.ancestor.raw (thawed_link op.path.sibling.raw) made_so
      (nat_le l.limit (version_of op.path.ancestor.raw))

  sits_frozen : (c : CleanUp) (op : Carried) (to : ℕ) (hand : Hand) (how : Exchanged) → MadeIf c op.call →
      Sits hand (clean_deed c) (frozen_so l c op to hand how)
  sits_frozen c op to hand Won made_so = sits_swings c (record op { path = with_sibling op.path op.path.sibling.word to }) hand made_so
  sits_frozen c op to hand (Lost found) made_so = sits_cleaned c op hand (Lost found) made_so
  sits_frozen c op to hand (Exchange_worn word version) made_so = sits_cleaned c op hand (Exchange_worn word version) made_so

  pub sits_freeze : (c : CleanUp) (op : Carried) (m : HeldExchange) (at : Exchanging) → MadeIf c op.call → Sits m.hand (clean_deed c) (freeze_by l c op m at)
  sits_freeze c op m Ready made_so = at_freeze c op m
  sits_freeze c op m (Tries slot) made_so = at_freeze c op m
  sits_freeze c op m TriesBare made_so = at_freeze c op m
  sits_freeze c op m WritesBack made_so = at_freeze c op m
  sits_freeze c op m Withdraws made_so = at_freeze c op m
  sits_freeze c op m (Lowers slot found) made_so = at_freeze c op m
  sits_freeze c op m (Ended how) made_so = sits_frozen c op m.to m.hand how made_so

  freeze_either : (c : CleanUp) (op : Carried) (hand : Hand) (word old value : ℕ) → MadeIf c op.call → (b : Bool) →
      Sits hand (clean_deed c) (freeze_next l c op (if b then worn_one hand word old else fresh_one hand word old value))
  freeze_either c op hand word old value made_so true = sits_cleaned c op hand (Exchange_worn word (version_of old)) made_so
  freeze_either c op hand word old value made_so false = at_freeze c op (fresh_one hand word old value)

  sits_freezes : (c : CleanUp) (op : Carried) (hand : Hand) → MadeIf c op.call → Sits hand (clean_deed c) (freezes l c op hand)
  sits_freezes c op hand made_so = freeze_either c op hand op.path.sibling.word op.path.sibling.raw (frozen_link op.path.sibling.raw) made_so
      (nat_le l.limit (version_of op.path.sibling.raw))

  sibling_either : (c : CleanUp) (op : Carried) (hand : Hand) → MadeIf c op.call → (b : Bool) →
      Sits hand (clean_deed c) (if b then swings l c op hand else freezes l c op hand)
  sibling_either c op hand made_so true = sits_swings c op hand made_so
  sibling_either c op hand made_so false = sits_freezes c op hand made_so

  sits_sibling_got : (c : CleanUp) (op : Carried) (hand : Hand) → MadeIf c op.call → Sits hand (clean_deed c) (sibling_got l c op hand)
  unfolding sibling_got
  sits_sibling_got c op hand made_so = sibling_either c op hand made_so (is_frozen op.path.sibling.raw)

  pub sits_sibling : (c : CleanUp) (op : Carried) (m : HeldLoad) (at : Loading) → MadeIf c op.call → Sits m.hand (clean_deed c) (sibling_by l c op m at)
  sits_sibling c op m Load_reads made_so = at_sibling c op m
  sits_sibling c op m (Load_asks raw slot) made_so = at_sibling c op m
  sits_sibling c op m (Load_makes_room raw first) made_so = at_sibling c op m
  sits_sibling c op m (Load_has raw) made_so = sits_sibling_got c (record op { path = with_sibling op.path m.word raw }) m.hand made_so

  cleans_either : (c : CleanUp) (op : Carried) (hand : Hand) → MadeIf c op.call → (b : Bool) → Sits hand (clean_deed c) (if b
      then stands op (Sibling c (load_started hand (other_word op.path.edge.word)))
      else swings l c (record op { path = with_sibling op.path op.path.edge.word op.path.edge.raw }) hand)
  cleans_either c op hand made_so true = at_sibling c op (load_started hand (other_word op.path.edge.word))
  cleans_either c op hand made_so false = sits_swings c (record op { path = with_sibling op.path op.path.edge.word op.path.edge.raw }) hand made_so

  pub sits_cleans : (c : CleanUp) (op : Carried) (hand : Hand) → MadeIf c op.call → Sits hand (clean_deed c) (cleans l c op hand)
  unfolding cleans
  sits_cleans c op hand made_so = cleans_either c op hand made_so (is_flagged op.path.edge.raw)

  -- ---- updates

  link_either : (op : Carried) (hand : Hand) (word old value : ℕ) (b : Bool) →
      Sits hand Fresh (link_next op (if b then worn_one hand word old else fresh_one hand word old value))
  link_either op hand word old value true = sits_worn op hand word (version_of old)
  link_either op hand word old value false =
      record { own = ap (λ b. rows_but (tree_anatomy l p free) b hand.spare) (and_false (is_insert op.call)); deed = refl; spare = refl }

  sits_links : (op : Carried) (hand : Hand) → Sits hand Fresh (links l op hand)
  sits_links op hand = link_either op hand op.path.edge.word op.path.edge.raw (to_row (inner_row hand)) (nat_le l.limit (version_of op.path.edge.raw))

  flag_either : (op : Carried) (hand : Hand) (word old value : ℕ) (b : Bool) →
      Sits hand Fresh (flag_next l op (if b then worn_one hand word old else fresh_one hand word old value))
  flag_either op hand word old value true = sits_worn op hand word (version_of old)
  flag_either op hand word old value false =
      record { own = ap (λ b. rows_but (tree_anatomy l p free) b hand.spare) (and_false (is_insert op.call)); deed = refl; spare = refl }

  sits_flags : (op : Carried) (hand : Hand) → Sits hand Fresh (flags l op hand)
  sits_flags op hand = flag_either op hand op.path.edge.word op.path.edge.raw (to_row_flagged (row_at op.path)) (nat_le l.limit (version_of op.path.edge.raw))

  -- ---- rows

  pub sits_inner : (op : Carried) (m : HeldStore) (at : Storing) → Sits m.hand Fresh (inner_by l op m at)
  sits_inner op m (Store_reads how) = record { own = refl; deed = refl; spare = refl }
  sits_inner op m (Writes next) = record { own = refl; deed = refl; spare = refl }
  sits_inner op m (Store_makes_room next first) = record { own = refl; deed = refl; spare = refl }
  sits_inner op m (Store_ended All_stored) = sits_links op m.hand
  sits_inner op m (Store_ended (Store_worn word version)) = sits_worn op m.hand word version

  sits_stores_inner : (op : Carried) (hand : Hand) → Sits hand Fresh (stores_inner l op hand)
  unfolding stores_inner
  sits_stores_inner op hand = record { own = refl; deed = refl; spare = refl }

  pub sits_leaf_value : (op : Carried) (m : HeldStore) (at : Storing) → Sits m.hand Fresh (leaf_value_by l op m at)
  sits_leaf_value op m (Store_reads how) = record { own = refl; deed = refl; spare = refl }
  sits_leaf_value op m (Writes next) = record { own = refl; deed = refl; spare = refl }
  sits_leaf_value op m (Store_makes_room next first) = record { own = refl; deed = refl; spare = refl }
  sits_leaf_value op m (Store_ended All_stored) = sits_stores_inner op m.hand
  sits_leaf_value op m (Store_ended (Store_worn word version)) = sits_worn op m.hand word version

  value_either : (op : Carried) (hand : Hand) (b : Bool) → Sits hand Fresh (if b then stores_value l op hand else stores_inner l op hand)
  value_either op hand true = record { own = refl; deed = refl; spare = refl }
  value_either op hand false = sits_stores_inner op hand

  sits_leaf_so : (op : Carried) (hand : Hand) (how : Stored) → Sits hand Fresh (leaf_so l op hand how)
  unfolding leaf_so
  sits_leaf_so op hand All_stored = value_either op hand l.values
  sits_leaf_so op hand (Store_worn word version) = sits_worn op hand word version

  pub sits_leaf : (op : Carried) (m : HeldStore) (at : Storing) → Sits m.hand Fresh (leaf_by l op m at)
  sits_leaf op m (Store_reads how) = record { own = refl; deed = refl; spare = refl }
  sits_leaf op m (Writes next) = record { own = refl; deed = refl; spare = refl }
  sits_leaf op m (Store_makes_room next first) = record { own = refl; deed = refl; spare = refl }
  sits_leaf op m (Store_ended how) = sits_leaf_so op m.hand how

  pub sits_rows : (op : Carried) (m : HeldTake) (at : Taking) → Sits m.hand Fresh (rows_by l op m at)
  sits_rows op m Draws = record { own = refl; deed = refl; spare = refl }
  sits_rows op m (Take_ended Taken) = record { own = refl; deed = refl; spare = refl }
  sits_rows op m (Take_ended (NoRow ticket)) = sits_answer op m.hand (Full ticket) (full_updates op.call ticket)

  sits_takes : (op : Carried) (hand : Hand) → Sits hand Fresh (takes_rows l free op hand)
  sits_takes op hand = sits_rows op (take_started free hand 2) (judged (lacks 2 hand.spare) (is_past free hand.ticket) hand.ticket)

  -- ---- the end of a seek

  get_either : (op : Carried) (hand : Hand) (word : ℕ) (b : Bool) →
      Sits hand Fresh (if b then value_next op (v_load_started hand word) else answers op hand (Found 0))
  get_either op hand word true = record { own = refl; deed = refl; spare = refl }
  get_either op hand word false = sits_answer op hand (Found 0) (found_updates op.call 0)

  sits_found : (op : Carried) (hand : Hand) (c : Call) → op.call ≡ c → Sits hand Fresh (found l op hand c)
  sits_found op hand (Insert k v) e = sits_no op hand
  sits_found op hand (Remove k) e = sits_flags op hand
  sits_found op hand (Contains k) e = sits_answer op hand Yes (ap (λ c. is_update_by c Yes) e)
  sits_found op hand (Get k) e = get_either op hand (value_word_of l (row_at op.path)) l.values

  sits_absent : (op : Carried) (hand : Hand) (c : Call) → Sits hand Fresh (absent l free op hand c)
  sits_absent op hand (Insert k v) = sits_takes op hand
  sits_absent op hand (Remove k) = sits_no op hand
  sits_absent op hand (Contains k) = sits_no op hand
  sits_absent op hand (Get k) = sits_no op hand

  key_either : (op : Carried) (hand : Hand) (b : Bool) →
      Sits hand Fresh (if b then found l op hand op.call else absent l free op hand op.call)
  key_either op hand true = sits_found op hand op.call refl
  key_either op hand false = sits_absent op hand op.call

  plain_either : (op : Carried) (hand : Hand) (b : Bool) → Sits hand Fresh (if b
      then (if op.path.key == key_of op.call then found l op hand op.call else absent l free op hand op.call)
      else cleans l Help op hand)
  plain_either op hand true = key_either op hand (op.path.key == key_of op.call)
  plain_either op hand false = sits_cleans Help op hand tt

  sits_sought : (op : Carried) (hand : Hand) → Sits hand Fresh (sought l free op hand)
  unfolding sought
  sits_sought op hand = plain_either op hand (is_plain op.path.edge.raw)

  -- ---- the seek

  edge_either : (op : Carried) (hand : Hand) (word raw : ℕ) (b : Bool) → Sits hand Fresh (if b
      then sought l free op hand
      else stands (record op { path = further op.path word raw }) (Key (load_started hand (key_word l (row_of raw)))))
  edge_either op hand word raw true = sits_sought op hand
  edge_either op hand word raw false = record { own = refl; deed = refl; spare = refl }

  sits_edge_got : (op : Carried) (hand : Hand) (word raw : ℕ) → Sits hand Fresh (edge_got l free op hand word raw)
  unfolding edge_got
  sits_edge_got op hand word raw = edge_either op hand word raw (row_of raw == 0)

  pub sits_edge : (op : Carried) (m : HeldLoad) (at : Loading) → Sits m.hand Fresh (edge_by l free op m at)
  sits_edge op m Load_reads = record { own = refl; deed = refl; spare = refl }
  sits_edge op m (Load_asks raw slot) = record { own = refl; deed = refl; spare = refl }
  sits_edge op m (Load_makes_room raw first) = record { own = refl; deed = refl; spare = refl }
  sits_edge op m (Load_has raw) = sits_edge_got op m.hand m.word raw

  pub sits_key : (op : Carried) (m : HeldLoad) (at : Loading) → Sits m.hand Fresh (key_by l op m at)
  sits_key op m Load_reads = record { own = refl; deed = refl; spare = refl }
  sits_key op m (Load_asks raw slot) = record { own = refl; deed = refl; spare = refl }
  sits_key op m (Load_makes_room raw first) = record { own = refl; deed = refl; spare = refl }
  sits_key op m (Load_has raw) = record { own = refl; deed = refl; spare = refl }

  pub sits_root : (op : Carried) (m : HeldLoad) (at : Loading) → Sits m.hand Fresh (root_by l op m at)
  sits_root op m Load_reads = record { own = refl; deed = refl; spare = refl }
  sits_root op m (Load_asks raw slot) = record { own = refl; deed = refl; spare = refl }
  sits_root op m (Load_makes_room raw first) = record { own = refl; deed = refl; spare = refl }
  sits_root op m (Load_has raw) = record { own = refl; deed = refl; spare = refl }

  pub sits_value : (op : Carried) (m : HeldVLoad) (at : VLoading) → Sits m.hand Fresh (value_by op m at)
  sits_value op m V_reads = record { own = refl; deed = refl; spare = refl }
  sits_value op m (V_has raw) = sits_answer op m.hand (Found (value_of raw)) (found_updates op.call (value_of raw))
