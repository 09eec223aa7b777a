-- The hand with which a call goes on where its machine has ended: that of the machine; with one search more, where an exchange
-- was lost; with that and one help, where a swing was won for another; and with no spare rows, where they were linked.
use Rattle.std.proofs.Common.{◌≡◌, ℕ, subst, ◌==◌, nat_le, Bool, true, false, List, refl, sym, if◌then◌else◌}
use Rattle.flit_words.specs.declared.layouts.Layout.{Layout}
use Rattle.flit_words.specs.Layouts.{value_word_of}
use Rattle.flit_words.specs.Words.{version_of}
use Rattle.flit_model.specs.declared.calls.Call.{Call}
use Rattle.flit_model.specs.declared.calls.Call.TheVariants.{Insert, Remove, Contains, Get}
use Rattle.flit_pv.specs.declared.hands.Hand.{Hand}
use Rattle.flit_pv.specs.Loads.{HeldLoad, load_started}
use Rattle.flit_pv.specs.declared.loads.Loading.{Loading}
use Rattle.flit_pv.specs.declared.loads.Loading.TheVariants.{Reads as Load_reads, Asks as Load_asks, MakesRoom as Load_makes_room, Has as Load_has}
use Rattle.flit_pv.specs.VLoads.{HeldVLoad, v_load_started}
use Rattle.flit_pv.specs.declared.v_loads.VLoading.{VLoading}
use Rattle.flit_pv.specs.declared.v_loads.VLoading.TheVariants.{Reads as V_reads, Has as V_has}
use Rattle.flit_pv.specs.Exchanges.{HeldExchange}
use Rattle.flit_pv.specs.declared.exchanges.Exchanging.{Exchanging}
use Rattle.flit_pv.specs.declared.exchanges.Exchanging.TheVariants.{Ready, Tries, TriesBare, WritesBack, Withdraws, Lowers, Ended}
use Rattle.flit_pv.specs.declared.exchanges.Exchanged.TheVariants.{Won, Lost, Worn as Exchange_worn}
use Rattle.flit_pv.specs.Drafts.{next_bare}
use Rattle.flit_pv.specs.Stores.{HeldStore}
use Rattle.flit_pv.specs.declared.stores.Storing.{Storing}
use Rattle.flit_pv.specs.declared.stores.Storing.TheVariants.{Reads as Store_reads, MakesRoom as Store_makes_room, Writes, Ended as Store_ended}
use Rattle.flit_pv.specs.declared.stores.Stored.{Stored}
use Rattle.flit_pv.specs.declared.stores.Stored.TheVariants.{Stored as All_stored, Worn as Store_worn}
use Rattle.flit_rows.specs.Taking.{HeldTake, lacks, is_past, judged}
use Rattle.flit_rows.specs.declared.take_row.Took.{Took}
use Rattle.flit_rows.specs.declared.take_row.Took.TheVariants.{Taken, None as NoRow}
use Rattle.flit_rows.specs.declared.take_row.Taking.{Taking}
use Rattle.flit_rows.specs.declared.take_row.Taking.TheVariants.{Draws, Ended as Take_ended}
use Rattle.flit_structure.specs.Meanings.{key_of}
use Rattle.flit_crew.specs.Machines.{Works, hand_in}
use Rattle.flit_runs.specs.Workings.{Exchanges}
use Rattle.flit_tree_steps.specs.declared.operations.CleanUp.{CleanUp}
use Rattle.flit_tree_steps.specs.declared.operations.CleanUp.TheVariants.{Own, Help}
use Rattle.flit_tree_steps.specs.Operations.{At, Root, Key, Edge, Rows, LeafWords, LeafValue, InnerWords, Link, Flag, Sibling, Freeze, Swing, Value, Ends, Rests}
use Rattle.flit_model.specs.declared.calls.Reply.TheVariants.{Found as Found_value}
use Rattle.flit_tree_steps.specs.Steps.{Carried, stands, answers, further, key_word, other_word, value_next, hand_at, row_of, is_flagged, is_frozen, is_plain, to_row, to_row_flagged, frozen_link, thawed_link, inner_row, row_at, with_edge, with_sibling, with_search, with_helped, with_rows_used, swing_next, swing_by, cleaned_so, swings, freeze_by, freeze_next, freezes, sibling_got, sibling_by, cleans, flag_by, flag_next, flags, link_by, link_next, links, inner_so, inner_by, stores_inner, leaf_value_so, leaf_value_by, stores_value, leaf_so, leaf_by, rows_so, rows_by, rows_next, takes_rows, value_by, found, absent, sought, edge_got, edge_by, key_by, root_by}
use Rattle.flit_tree_laws.specs.TreeAnatomy.{machine_at, resumed_at}

pub same_hand : (at : At) → hand_in (machine_at at) ≡ hand_at at
same_hand (Root m) = refl
same_hand (Key m) = refl
same_hand (Edge m) = refl
same_hand (Rows m) = refl
same_hand (LeafWords m) = refl
same_hand (LeafValue m) = refl
same_hand (InnerWords m) = refl
same_hand (Link m) = refl
same_hand (Flag m) = refl
same_hand (Sibling c m) = refl
same_hand (Freeze c m) = refl
same_hand (Swing c m) = refl
same_hand (Value m) = refl
same_hand (Ends m) = refl
same_hand (Rests hand) = refl

-- the machine that has ended is that of this phase
pub data Follows : At → Hand → Type 0 where
  kept : (at : At) → Follows at (hand_at at)
  lost : (at : At) (m : HeldExchange) (found : ℕ) → machine_at at ≡ Works (Exchanges m) → m.at ≡ Ended (Lost found) → Follows at (with_search m.hand)
  helped : (at : At) (m : HeldExchange) → machine_at at ≡ Works (Exchanges m) → m.at ≡ Ended Won → Follows at (with_search (with_helped m.hand))
  used : (m : HeldExchange) → m.at ≡ Ended Won → Follows (Link m) (with_rows_used m.hand)

-- ---- what starts with a hand keeps it

module _ (l : Layout) (op : Carried) (hand : Hand) where
  -- an exchange is worn at once, or is ready
  abbrev pub worn_one : ℕ → ℕ → HeldExchange
  worn_one word old = record { hand = hand; word = word; from = old; to = 0; at = Ended (Exchange_worn word (version_of old)) }

  abbrev pub fresh_one : ℕ → ℕ → ℕ → HeldExchange
  fresh_one word old value = record { hand = hand; word = word; from = old; to = next_bare old value; at = Ready }

  worn_hand : (c : CleanUp) (word version : ℕ) → hand_at (cleaned_so c op hand (Exchange_worn word version)).at ≡ hand
  worn_hand Own word version = refl
  worn_hand Help word version = refl

  swing_hand : (c : CleanUp) (word old value : ℕ) (b : Bool) →
      hand_at (swing_next c op (if b then worn_one word old else fresh_one word old value)).at ≡ hand
  swing_hand c word old value true = worn_hand c word (version_of old)
  swing_hand c word old value false = refl

  freeze_hand : (c : CleanUp) (word old value : ℕ) (b : Bool) →
      hand_at (freeze_next l c op (if b then worn_one word old else fresh_one word old value)).at ≡ hand
  freeze_hand c word old value true = worn_hand c word (version_of old)
  freeze_hand c word old value false = refl

  flag_hand : (word old value : ℕ) (b : Bool) → hand_at (flag_next l op (if b then worn_one word old else fresh_one word old value)).at ≡ hand
  flag_hand word old value true = refl
  flag_hand word old value false = refl

  link_hand : (word old value : ℕ) (b : Bool) → hand_at (link_next op (if b then worn_one word old else fresh_one word old value)).at ≡ hand
  link_hand word old value true = refl
  link_hand word old value false = refl

pub swings_hand : (l : Layout) (c : CleanUp) (op : Carried) (hand : Hand) → hand_at (swings l c op hand).at ≡ hand
unfolding swings
swings_hand l c op hand = swing_hand l op hand c op.path.ancestor.word op.path.ancestor.raw (thawed_link op.path.sibling.raw)
    (nat_le l.limit (version_of op.path.ancestor.raw))

freezes_hand : (l : Layout) (c : CleanUp) (op : Carried) (hand : Hand) → hand_at (freezes l c op hand).at ≡ hand
freezes_hand l c op hand = freeze_hand l op hand c op.path.sibling.word op.path.sibling.raw (frozen_link op.path.sibling.raw)
    (nat_le l.limit (version_of op.path.sibling.raw))

sibling_hand : (l : Layout) (c : CleanUp) (op : Carried) (hand : Hand) → hand_at (sibling_got l c op hand).at ≡ hand
unfolding sibling_got
sibling_hand l c op hand = by_bit (is_frozen op.path.sibling.raw)
  where
    by_bit : (b : Bool) → hand_at (if b then swings l c op hand else freezes l c op hand).at ≡ hand
    by_bit true = swings_hand l c op hand
    by_bit false = freezes_hand l c op hand

cleans_hand : (l : Layout) (c : CleanUp) (op : Carried) (hand : Hand) → hand_at (cleans l c op hand).at ≡ hand
unfolding cleans
cleans_hand l c op hand = by_bit (is_flagged op.path.edge.raw)
  where
    by_bit : (b : Bool) → hand_at (if b then stands op (Sibling c (load_started hand (other_word op.path.edge.word)))
        else swings l c (record op { path = with_sibling op.path op.path.edge.word op.path.edge.raw }) hand).at ≡ hand
    by_bit true = refl
    by_bit false = swings_hand l c (record op { path = with_sibling op.path op.path.edge.word op.path.edge.raw }) hand

flags_hand : (l : Layout) (op : Carried) (hand : Hand) → hand_at (flags l op hand).at ≡ hand
flags_hand l op hand = flag_hand l op hand op.path.edge.word op.path.edge.raw (to_row_flagged (row_at op.path)) (nat_le l.limit (version_of op.path.edge.raw))

links_hand : (l : Layout) (op : Carried) (hand : Hand) → hand_at (links l op hand).at ≡ hand
links_hand l op hand = link_hand l op hand op.path.edge.word op.path.edge.raw (to_row (inner_row hand)) (nat_le l.limit (version_of op.path.edge.raw))

inner_hand : (l : Layout) (op : Carried) (hand : Hand) (how : Stored) → hand_at (inner_so l op hand how).at ≡ hand
inner_hand l op hand All_stored = links_hand l op hand
inner_hand l op hand (Store_worn word version) = refl

stores_inner_hand : (l : Layout) (op : Carried) (hand : Hand) → hand_at (stores_inner l op hand).at ≡ hand
unfolding stores_inner
stores_inner_hand l op hand = refl

leaf_value_hand : (l : Layout) (op : Carried) (hand : Hand) (how : Stored) → hand_at (leaf_value_so l op hand how).at ≡ hand
leaf_value_hand l op hand All_stored = stores_inner_hand l op hand
leaf_value_hand l op hand (Store_worn word version) = refl

leaf_hand : (l : Layout) (op : Carried) (hand : Hand) (how : Stored) → hand_at (leaf_so l op hand how).at ≡ hand
unfolding leaf_so
leaf_hand l op hand (Store_worn word version) = refl
leaf_hand l op hand All_stored = by_values l.values
  where
    by_values : (b : Bool) → hand_at (if b then stores_value l op hand else stores_inner l op hand).at ≡ hand
    by_values true = refl
    by_values false = stores_inner_hand l op hand

rows_hand : (l : Layout) (op : Carried) (hand : Hand) (took : Took) → hand_at (rows_so l op hand took).at ≡ hand
rows_hand l op hand Taken = refl
rows_hand l op hand (NoRow ticket) = refl

takes_hand : (l : Layout) (free : List ℕ) (op : Carried) (hand : Hand) → hand_at (takes_rows l free op hand).at ≡ hand
takes_hand l free op hand = by_rows (lacks 2 hand.spare) (is_past free hand.ticket)
  where
    by_rows : (a b : Bool) → hand_at (rows_next l op (record { hand = hand; need = 2; at = judged a b hand.ticket })).at ≡ hand
    by_rows false b = refl
    by_rows true true = refl
    by_rows true false = refl

found_hand : (l : Layout) (op : Carried) (hand : Hand) (call : Call) → hand_at (found l op hand call).at ≡ hand
found_hand l op hand (Insert k v) = refl
found_hand l op hand (Remove k) = flags_hand l op hand
found_hand l op hand (Contains k) = refl
found_hand l op hand (Get k) = by_values l.values
  where
    by_values : (b : Bool) →
        hand_at (if b then value_next op (v_load_started hand (value_word_of l (row_at op.path))) else answers op hand (Found_value 0)).at ≡ hand
    by_values true = refl
    by_values false = refl

absent_hand : (l : Layout) (free : List ℕ) (op : Carried) (hand : Hand) (call : Call) → hand_at (absent l free op hand call).at ≡ hand
absent_hand l free op hand (Insert k v) = takes_hand l free op hand
absent_hand l free op hand (Remove k) = refl
absent_hand l free op hand (Contains k) = refl
absent_hand l free op hand (Get k) = refl

sought_hand : (l : Layout) (free : List ℕ) (op : Carried) (hand : Hand) → hand_at (sought l free op hand).at ≡ hand
unfolding sought
sought_hand l free op hand = by_both (is_plain op.path.edge.raw) (op.path.key == key_of op.call)
  where
    by_both : (a b : Bool) →
        hand_at (if a then (if b then found l op hand op.call else absent l free op hand op.call) else cleans l Help op hand).at ≡ hand
    by_both true true = found_hand l op hand op.call
    by_both true false = absent_hand l free op hand op.call
    by_both false b = cleans_hand l Help op hand

edge_hand : (l : Layout) (free : List ℕ) (op : Carried) (hand : Hand) (word raw : ℕ) → hand_at (edge_got l free op hand word raw).at ≡ hand
unfolding edge_got
edge_hand l free op hand word raw = by_row (row_of raw == 0)
  where
    by_row : (b : Bool) → hand_at (if b then sought l free op hand
        else stands (record op { path = further op.path word raw }) (Key (load_started hand (key_word l (row_of raw))))).at ≡ hand
    by_row true = sought_hand l free op hand
    by_row false = refl

-- ---- by the phase of the ended machine

module _ (l : Layout) (free : List ℕ) (op : Carried) where
  kept_so : (at : At) (hand : Hand) → hand ≡ hand_at at → Follows at hand
  kept_so at hand e = subst (Follows at) (sym e) (kept at)

  root_goes : (m : HeldLoad) (x : Loading) → hand_at (root_by l op m x).at ≡ m.hand
  root_goes m Load_reads = refl
  root_goes m (Load_asks raw slot) = refl
  root_goes m (Load_makes_room raw first) = refl
  root_goes m (Load_has raw) = refl

  key_goes : (m : HeldLoad) (x : Loading) → hand_at (key_by l op m x).at ≡ m.hand
  key_goes m Load_reads = refl
  key_goes m (Load_asks raw slot) = refl
  key_goes m (Load_makes_room raw first) = refl
  key_goes m (Load_has raw) = refl

  edge_goes : (m : HeldLoad) (x : Loading) → hand_at (edge_by l free op m x).at ≡ m.hand
  edge_goes m Load_reads = refl
  edge_goes m (Load_asks raw slot) = refl
  edge_goes m (Load_makes_room raw first) = refl
  edge_goes m (Load_has raw) = edge_hand l free op m.hand m.word raw

  rows_goes : (m : HeldTake) (x : Taking) → hand_at (rows_by l op m x).at ≡ m.hand
  rows_goes m Draws = refl
  rows_goes m (Take_ended took) = rows_hand l op m.hand took

  leaf_words_goes : (m : HeldStore) (x : Storing) → hand_at (leaf_by l op m x).at ≡ m.hand
  leaf_words_goes m (Store_reads how) = refl
  leaf_words_goes m (Writes next) = refl
  leaf_words_goes m (Store_makes_room next first) = refl
  leaf_words_goes m (Store_ended how) = leaf_hand l op m.hand how

  leaf_value_goes : (m : HeldStore) (x : Storing) → hand_at (leaf_value_by l op m x).at ≡ m.hand
  leaf_value_goes m (Store_reads how) = refl
  leaf_value_goes m (Writes next) = refl
  leaf_value_goes m (Store_makes_room next first) = refl
  leaf_value_goes m (Store_ended how) = leaf_value_hand l op m.hand how

  inner_words_goes : (m : HeldStore) (x : Storing) → hand_at (inner_by l op m x).at ≡ m.hand
  inner_words_goes m (Store_reads how) = refl
  inner_words_goes m (Writes next) = refl
  inner_words_goes m (Store_makes_room next first) = refl
  inner_words_goes m (Store_ended how) = inner_hand l op m.hand how

  sibling_goes : (c : CleanUp) (m : HeldLoad) (x : Loading) → hand_at (sibling_by l c op m x).at ≡ m.hand
  sibling_goes c m Load_reads = refl
  sibling_goes c m (Load_asks raw slot) = refl
  sibling_goes c m (Load_makes_room raw first) = refl
  sibling_goes c m (Load_has raw) = sibling_hand l c (record op { path = with_sibling op.path m.word raw }) m.hand

  value_goes : (m : HeldVLoad) (x : VLoading) → hand_at (value_by op m x).at ≡ m.hand
  value_goes m V_reads = refl
  value_goes m (V_has raw) = refl

  link_follows : (m : HeldExchange) (x : Exchanging) → m.at ≡ x → Follows (Link m) (hand_at (link_by op m x).at)
  link_follows m Ready e = kept (Link m)
  link_follows m (Tries slot) e = kept (Link m)
  link_follows m TriesBare e = kept (Link m)
  link_follows m WritesBack e = kept (Link m)
  link_follows m Withdraws e = kept (Link m)
  link_follows m (Lowers slot found) e = kept (Link m)
  link_follows m (Ended Won) e = used m e
  link_follows m (Ended (Lost found)) e = lost (Link m) m found refl e
  link_follows m (Ended (Exchange_worn word version)) e = kept (Link m)

  flag_follows : (m : HeldExchange) (x : Exchanging) → m.at ≡ x → Follows (Flag m) (hand_at (flag_by l op m x).at)
  flag_follows m Ready e = kept (Flag m)
  flag_follows m (Tries slot) e = kept (Flag m)
  flag_follows m TriesBare e = kept (Flag m)
  flag_follows m WritesBack e = kept (Flag m)
  flag_follows m Withdraws e = kept (Flag m)
  flag_follows m (Lowers slot found) e = kept (Flag m)
  flag_follows m (Ended Won) e =
      kept_so (Flag m) (hand_at (flag_by l op m (Ended Won)).at) (cleans_hand l Own (record op { path = with_edge op.path m.to }) m.hand)
  flag_follows m (Ended (Lost found)) e = lost (Flag m) m found refl e
  flag_follows m (Ended (Exchange_worn word version)) e = kept (Flag m)

  freeze_follows : (c : CleanUp) (m : HeldExchange) (x : Exchanging) → m.at ≡ x → Follows (Freeze c m) (hand_at (freeze_by l c op m x).at)
  freeze_follows c m Ready e = kept (Freeze c m)
  freeze_follows c m (Tries slot) e = kept (Freeze c m)
  freeze_follows c m TriesBare e = kept (Freeze c m)
  freeze_follows c m WritesBack e = kept (Freeze c m)
  freeze_follows c m Withdraws e = kept (Freeze c m)
  freeze_follows c m (Lowers slot found) e = kept (Freeze c m)
  freeze_follows Own m (Ended Won) e = kept_so (Freeze Own m) (hand_at (freeze_by l Own op m (Ended Won)).at)
      (swings_hand l Own (record op { path = with_sibling op.path op.path.sibling.word m.to }) m.hand)
  freeze_follows Own m (Ended (Lost found)) e = kept (Freeze Own m)
  freeze_follows Own m (Ended (Exchange_worn word version)) e = kept (Freeze Own m)
  freeze_follows Help m (Ended Won) e = kept_so (Freeze Help m) (hand_at (freeze_by l Help op m (Ended Won)).at)
      (swings_hand l Help (record op { path = with_sibling op.path op.path.sibling.word m.to }) m.hand)
  freeze_follows Help m (Ended (Lost found)) e = lost (Freeze Help m) m found refl e
  freeze_follows Help m (Ended (Exchange_worn word version)) e = kept (Freeze Help m)

  swing_follows : (c : CleanUp) (m : HeldExchange) (x : Exchanging) → m.at ≡ x → Follows (Swing c m) (hand_at (swing_by c op m x).at)
  swing_follows c m Ready e = kept (Swing c m)
  swing_follows c m (Tries slot) e = kept (Swing c m)
  swing_follows c m TriesBare e = kept (Swing c m)
  swing_follows c m WritesBack e = kept (Swing c m)
  swing_follows c m Withdraws e = kept (Swing c m)
  swing_follows c m (Lowers slot found) e = kept (Swing c m)
  swing_follows Own m (Ended Won) e = kept (Swing Own m)
  swing_follows Own m (Ended (Lost found)) e = kept (Swing Own m)
  swing_follows Own m (Ended (Exchange_worn word version)) e = kept (Swing Own m)
  swing_follows Help m (Ended Won) e = helped (Swing Help m) m refl e
  swing_follows Help m (Ended (Lost found)) e = lost (Swing Help m) m found refl e
  swing_follows Help m (Ended (Exchange_worn word version)) e = kept (Swing Help m)

  pub follows : (at : At) → Follows at (hand_at (resumed_at l free op at).at)
  follows (Root m) = kept_so (Root m) (hand_at (resumed_at l free op (Root m)).at) (root_goes m m.at)
  follows (Key m) = kept_so (Key m) (hand_at (resumed_at l free op (Key m)).at) (key_goes m m.at)
  follows (Edge m) = kept_so (Edge m) (hand_at (resumed_at l free op (Edge m)).at) (edge_goes m m.at)
  follows (Rows m) = kept_so (Rows m) (hand_at (resumed_at l free op (Rows m)).at) (rows_goes m m.at)
  follows (LeafWords m) = kept_so (LeafWords m) (hand_at (resumed_at l free op (LeafWords m)).at) (leaf_words_goes m m.at)
  follows (LeafValue m) = kept_so (LeafValue m) (hand_at (resumed_at l free op (LeafValue m)).at) (leaf_value_goes m m.at)
  follows (InnerWords m) = kept_so (InnerWords m) (hand_at (resumed_at l free op (InnerWords m)).at) (inner_words_goes m m.at)
  follows (Link m) = link_follows m m.at refl
  follows (Flag m) = flag_follows m m.at refl
  follows (Sibling c m) = kept_so (Sibling c m) (hand_at (resumed_at l free op (Sibling c m)).at) (sibling_goes c m m.at)
  follows (Freeze c m) = freeze_follows c m m.at refl
  follows (Swing c m) = swing_follows c m m.at refl
  follows (Value m) = kept_so (Value m) (hand_at (resumed_at l free op (Value m)).at) (value_goes m m.at)
  follows (Ends m) = kept (Ends m)
  follows (Rests hand) = kept (Rests hand)
