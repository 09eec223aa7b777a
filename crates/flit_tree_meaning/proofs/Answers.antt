-- Once its machine was told an answer, a call goes on by the code as the crew says: at its next machine where that one has
-- ended, and else at the same one, further on.
use Rattle.std.proofs.Common.{◌≡◌, ℕ, ◌&&◌, Bool, true, false, List, is_none, refl, sym, if◌then◌else◌}
use Rattle.flit_words.specs.declared.layouts.Layout.{Layout}
use Rattle.flit_model.specs.declared.calls.Call.{Call}
use Rattle.flit_model.specs.declared.calls.Reply.{Reply}
use Rattle.flit_place.specs.Tags.{Place}
use Rattle.flit_pv.specs.Loads.{HeldLoad, load_asks, load_taken}
use Rattle.flit_pv.specs.declared.loads.Loading.{Loading}
use Rattle.flit_pv.specs.declared.loads.Loading.TheVariants.{Reads as Load_reads, Asks as Load_asks, MakesRoom as Load_makes_room, Has as Load_has}
use Rattle.flit_pv.specs.VLoads.{HeldVLoad, v_load_asks, v_load_taken}
use Rattle.flit_pv.specs.declared.v_loads.VLoading.{VLoading}
use Rattle.flit_pv.specs.declared.v_loads.VLoading.TheVariants.{Reads as V_reads, Has as V_has}
use Rattle.flit_pv.specs.Exchanges.{HeldExchange, exchange_asks, exchange_taken}
use Rattle.flit_pv.specs.declared.exchanges.Exchanging.{Exchanging}
use Rattle.flit_pv.specs.declared.exchanges.Exchanging.TheVariants.{Ready, Tries, TriesBare, WritesBack, Withdraws, Lowers, Ended}
use Rattle.flit_pv.specs.Stores.{HeldStore, store_asks, store_taken}
use Rattle.flit_pv.specs.declared.stores.Storing.{Storing}
use Rattle.flit_pv.specs.declared.stores.Storing.TheVariants.{Reads as Store_reads, MakesRoom as Store_makes_room, Writes, Ended as Store_ended}
use Rattle.flit_pv.specs.Fences.{complete_asked, complete_taken}
use Rattle.flit_rows.specs.Taking.{HeldTake, take_asks, take_taken}
use Rattle.flit_rows.specs.declared.take_row.Taking.{Taking}
use Rattle.flit_rows.specs.declared.take_row.Taking.TheVariants.{Draws, Ended as Take_ended}
use Rattle.flit_crew.specs.Anatomies.{op_taken as crew_taken}
use Rattle.flit_tree_steps.specs.declared.operations.Path.{Path}
use Rattle.flit_tree_steps.specs.declared.operations.CleanUp.{CleanUp}
use Rattle.flit_tree_steps.specs.Operations.{At, Root, Key, Edge, Rows, LeafWords, LeafValue, InnerWords, Link, Flag, Sibling, Freeze, Swing, Value, Ends, Rests, HeldOp}
use Rattle.flit_tree_steps.specs.Steps.{Carried, stands, op_taken, root_by, key_by, edge_by, rows_by, leaf_by, leaf_value_by, inner_by, link_by, flag_by, sibling_by, freeze_by, swing_by, value_by}
use Rattle.flit_tree_laws.specs.TreeAnatomy.{tree_anatomy}

-- where the next machine is the same one as long as that hasn't ended, it is next at once
goes_if : (ended : Bool) (on kept : HeldOp) → (ended ≡ false → on ≡ kept) → (if ended && true then on else kept) ≡ on
goes_if true on kept same = refl
goes_if false on kept same = sym (same refl)

same_both : (b : Bool) (x : HeldOp) → (if b then x else x) ≡ x
same_both true x = refl
same_both false x = refl

module _ (l : Layout) (p : Place) (free : List ℕ) (call : Call) (reply : Reply) (path : Path) where
  abbrev op : Carried
  op = record { call = call; reply = reply; path = path }

  -- each machine that asks an event is the next one
  root_stays : (n : HeldLoad) (at : Loading) → is_none (load_asks at n) ≡ false → root_by l op n at ≡ stands op (Root n)
  root_stays n Load_reads e = refl
  root_stays n (Load_asks raw slot) e = refl
  root_stays n (Load_makes_room raw first) e = refl
  root_stays n (Load_has raw) e = absurd (cc)

  key_stays : (n : HeldLoad) (at : Loading) → is_none (load_asks at n) ≡ false → key_by l op n at ≡ stands op (Key n)
  key_stays n Load_reads e = refl
  key_stays n (Load_asks raw slot) e = refl
  key_stays n (Load_makes_room raw first) e = refl
  key_stays n (Load_has raw) e = absurd (cc)

  edge_stays : (n : HeldLoad) (at : Loading) → is_none (load_asks at n) ≡ false → edge_by l free op n at ≡ stands op (Edge n)
  edge_stays n Load_reads e = refl
  edge_stays n (Load_asks raw slot) e = refl
  edge_stays n (Load_makes_room raw first) e = refl
  edge_stays n (Load_has raw) e = absurd (cc)

  rows_stays : (n : HeldTake) (at : Taking) → is_none (take_asks at) ≡ false → rows_by l op n at ≡ stands op (Rows n)
  rows_stays n Draws e = refl
  rows_stays n (Take_ended took) e = absurd (cc)

  leaf_words_stays : (n : HeldStore) (at : Storing) → is_none (store_asks at n) ≡ false → leaf_by l op n at ≡ stands op (LeafWords n)
  leaf_words_stays n (Store_reads how) e = refl
  leaf_words_stays n (Writes next) e = refl
  leaf_words_stays n (Store_makes_room next first) e = refl
  leaf_words_stays n (Store_ended how) e = absurd (cc)

  leaf_value_stays : (n : HeldStore) (at : Storing) → is_none (store_asks at n) ≡ false → leaf_value_by l op n at ≡ stands op (LeafValue n)
  leaf_value_stays n (Store_reads how) e = refl
  leaf_value_stays n (Writes next) e = refl
  leaf_value_stays n (Store_makes_room next first) e = refl
  leaf_value_stays n (Store_ended how) e = absurd (cc)

  inner_words_stays : (n : HeldStore) (at : Storing) → is_none (store_asks at n) ≡ false → inner_by l op n at ≡ stands op (InnerWords n)
  inner_words_stays n (Store_reads how) e = refl
  inner_words_stays n (Writes next) e = refl
  inner_words_stays n (Store_makes_room next first) e = refl
  inner_words_stays n (Store_ended how) e = absurd (cc)

  link_stays : (n : HeldExchange) (at : Exchanging) → is_none (exchange_asks p at n) ≡ false → link_by op n at ≡ stands op (Link n)
  link_stays n Ready e = refl
  link_stays n (Tries slot) e = refl
  link_stays n TriesBare e = refl
  link_stays n WritesBack e = refl
  link_stays n Withdraws e = refl
  link_stays n (Lowers slot found) e = refl
  link_stays n (Ended how) e = absurd (cc)

  flag_stays : (n : HeldExchange) (at : Exchanging) → is_none (exchange_asks p at n) ≡ false → flag_by l op n at ≡ stands op (Flag n)
  flag_stays n Ready e = refl
  flag_stays n (Tries slot) e = refl
  flag_stays n TriesBare e = refl
  flag_stays n WritesBack e = refl
  flag_stays n Withdraws e = refl
  flag_stays n (Lowers slot found) e = refl
  flag_stays n (Ended how) e = absurd (cc)

  sibling_stays : (c : CleanUp) (n : HeldLoad) (at : Loading) → is_none (load_asks at n) ≡ false → sibling_by l c op n at ≡ stands op (Sibling c n)
  sibling_stays c n Load_reads e = refl
  sibling_stays c n (Load_asks raw slot) e = refl
  sibling_stays c n (Load_makes_room raw first) e = refl
  sibling_stays c n (Load_has raw) e = absurd (cc)

  freeze_stays : (c : CleanUp) (n : HeldExchange) (at : Exchanging) → is_none (exchange_asks p at n) ≡ false → freeze_by l c op n at ≡ stands op (Freeze c n)
  freeze_stays c n Ready e = refl
  freeze_stays c n (Tries slot) e = refl
  freeze_stays c n TriesBare e = refl
  freeze_stays c n WritesBack e = refl
  freeze_stays c n Withdraws e = refl
  freeze_stays c n (Lowers slot found) e = refl
  freeze_stays c n (Ended how) e = absurd (cc)

  swing_stays : (c : CleanUp) (n : HeldExchange) (at : Exchanging) → is_none (exchange_asks p at n) ≡ false → swing_by c op n at ≡ stands op (Swing c n)
  swing_stays c n Ready e = refl
  swing_stays c n (Tries slot) e = refl
  swing_stays c n TriesBare e = refl
  swing_stays c n WritesBack e = refl
  swing_stays c n Withdraws e = refl
  swing_stays c n (Lowers slot found) e = refl
  swing_stays c n (Ended how) e = absurd (cc)

  value_stays : (n : HeldVLoad) (at : VLoading) → is_none (v_load_asks at n) ≡ false → value_by op n at ≡ stands op (Value n)
  value_stays n V_reads e = refl
  value_stays n (V_has raw) e = absurd (cc)

  pub takes_at : (at : At) (told : ℕ) → crew_taken (tree_anatomy l p free) p free (stands op at) told ≡ op_taken l p free (stands op at) told
  takes_at (Root m) told = let n = load_taken p m told in
      goes_if (is_none (load_asks n.at n)) (root_by l op n n.at) (stands op (Root n)) (root_stays n n.at)
  takes_at (Key m) told = let n = load_taken p m told in
      goes_if (is_none (load_asks n.at n)) (key_by l op n n.at) (stands op (Key n)) (key_stays n n.at)
  takes_at (Edge m) told = let n = load_taken p m told in
      goes_if (is_none (load_asks n.at n)) (edge_by l free op n n.at) (stands op (Edge n)) (edge_stays n n.at)
  takes_at (Rows m) told = let n = take_taken free m told in
      goes_if (is_none (take_asks n.at)) (rows_by l op n n.at) (stands op (Rows n)) (rows_stays n n.at)
  takes_at (LeafWords m) told = let n = store_taken m told in
      goes_if (is_none (store_asks n.at n)) (leaf_by l op n n.at) (stands op (LeafWords n)) (leaf_words_stays n n.at)
  takes_at (LeafValue m) told = let n = store_taken m told in
      goes_if (is_none (store_asks n.at n)) (leaf_value_by l op n n.at) (stands op (LeafValue n)) (leaf_value_stays n n.at)
  takes_at (InnerWords m) told = let n = store_taken m told in
      goes_if (is_none (store_asks n.at n)) (inner_by l op n n.at) (stands op (InnerWords n)) (inner_words_stays n n.at)
  takes_at (Link m) told = let n = exchange_taken p m told in
      goes_if (is_none (exchange_asks p n.at n)) (link_by op n n.at) (stands op (Link n)) (link_stays n n.at)
  takes_at (Flag m) told = let n = exchange_taken p m told in
      goes_if (is_none (exchange_asks p n.at n)) (flag_by l op n n.at) (stands op (Flag n)) (flag_stays n n.at)
  takes_at (Sibling c m) told = let n = load_taken p m told in
      goes_if (is_none (load_asks n.at n)) (sibling_by l c op n n.at) (stands op (Sibling c n)) (sibling_stays c n n.at)
  takes_at (Freeze c m) told = let n = exchange_taken p m told in
      goes_if (is_none (exchange_asks p n.at n)) (freeze_by l c op n n.at) (stands op (Freeze c n)) (freeze_stays c n n.at)
  takes_at (Swing c m) told = let n = exchange_taken p m told in
      goes_if (is_none (exchange_asks p n.at n)) (swing_by c op n n.at) (stands op (Swing c n)) (swing_stays c n n.at)
  takes_at (Value m) told = let n = v_load_taken m told in
      goes_if (is_none (v_load_asks n.at n)) (value_by op n n.at) (stands op (Value n)) (value_stays n n.at)
  takes_at (Ends m) told = let n = complete_taken m told in same_both (is_none (complete_asked n) && false) (stands op (Ends n))
  takes_at (Rests hand) told = refl
