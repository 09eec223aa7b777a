-- Once its machine was told an answer, a call goes on by the code as the crew says: at its next machine where that one has
-- ended, and else at the same one, further on.
use Rattle.std.proofs.Common.{◌≡◌, ℕ, ◌&&◌, Bool, true, false, List, is_none, refl, sym, ap, if◌then◌else◌}
use Rattle.flit_words.specs.declared.layouts.Layout.{Layout}
use Rattle.flit_model.specs.declared.calls.Call.{Call}
use Rattle.flit_model.specs.declared.calls.Reply.{Reply}
use Rattle.flit_place.specs.Tags.{Place}
use Rattle.flit_pv.specs.VLoads.{HeldVLoad, v_load_asks, v_load_taken}
use Rattle.flit_pv.specs.declared.v_loads.VLoading.{VLoading}
use Rattle.flit_pv.specs.declared.v_loads.VLoading.TheVariants.{Reads as V_reads, Has as V_has}
use Rattle.flit_pv.specs.Confirms.{confirm_asked, confirm_taken, confirm_left}
use Rattle.flit_pv.specs.Exchanges.{HeldExchange, exchange_asks, exchange_taken}
use Rattle.flit_pv.specs.declared.exchanges.Exchanging.{Exchanging}
use Rattle.flit_pv.specs.declared.exchanges.Exchanging.TheVariants.{Ready, Tries, TriesBare, WritesBack, Withdraws, Lowers, Ended}
use Rattle.flit_pv.specs.Stores.{HeldStore, store_asks, store_taken}
use Rattle.flit_pv.specs.declared.stores.Storing.{Storing}
use Rattle.flit_pv.specs.declared.stores.Storing.TheVariants.{Reads as Store_reads, MakesRoom as Store_makes_room, Writes, Ended as Store_ended}
use Rattle.flit_pv.specs.Fences.{complete_asked, complete_taken}
use Rattle.flit_rows.specs.Taking.{HeldTake, take_asks, take_taken}
use Rattle.flit_rows.specs.declared.take_row.Taking.{Taking}
use Rattle.flit_rows.specs.declared.take_row.Taking.TheVariants.{Draws, Ended as Take_ended}
use Rattle.flit_structure.specs.Meanings.{value_put}
use Rattle.flit_crew.specs.Anatomies.{op_taken as crew_taken}
use Rattle.flit_list_steps.specs.declared.operations.Path.{Path}
use Rattle.flit_list_steps.specs.Operations.{At, Head, Next, Key, Confirming, Help, Row, Words, RowValue, Link, Mark, Tidy, Value, Ends, Rests, HeldOp}
use Rattle.flit_list_steps.specs.Steps.{Carried, stands, op_taken, head_by, next_by, key_by, confirmed, help_by, row_by, words_by, row_value_by, link_by, mark_by, tidy_by, value_by}
use Rattle.flit_list_laws.specs.ListAnatomy.{list_anatomy}

-- where the next machine is the same one as long as that hasn't ended, it is next at once
goes_if : (ended : Bool) (on kept : HeldOp) → (ended ≡ false → on ≡ kept) → (if ended && true then on else kept) ≡ on
goes_if true on kept same = refl
goes_if false on kept same = sym (same refl)

same_both : (b : Bool) (x : HeldOp) → (if b then x else x) ≡ x
same_both true x = refl
same_both false x = refl

module _ (l : Layout) (p : Place) (free : List ℕ) (call : Call) (reply : Reply) (path : Path) where
  abbrev op : Carried
  op = record { call = call; reply = reply; path = path }

  -- each machine that asks an event is the next one
  head_stays : (n : HeldVLoad) (at : VLoading) → is_none (v_load_asks at n) ≡ false → head_by l p free op n at ≡ stands op (Head n)
  head_stays n V_reads e = refl
  head_stays n (V_has raw) e = absurd (cc)

  next_stays : (n : HeldVLoad) (at : VLoading) → is_none (v_load_asks at n) ≡ false → next_by l p free op n at ≡ stands op (Next n)
  next_stays n V_reads e = refl
  next_stays n (V_has raw) e = absurd (cc)

  key_stays : (n : HeldVLoad) (at : VLoading) → is_none (v_load_asks at n) ≡ false → key_by l p free op n at ≡ stands op (Key n)
  key_stays n V_reads e = refl
  key_stays n (V_has raw) e = absurd (cc)

  value_stays : (n : HeldVLoad) (at : VLoading) → is_none (v_load_asks at n) ≡ false → value_by op n at ≡ stands op (Value n)
  value_stays n V_reads e = refl
  value_stays n (V_has raw) e = absurd (cc)

  help_stays : (n : HeldExchange) (at : Exchanging) → is_none (exchange_asks p at n) ≡ false → help_by l p free op n at ≡ stands op (Help n)
  help_stays n Ready e = refl
  help_stays n (Tries slot) e = refl
  help_stays n TriesBare e = refl
  help_stays n WritesBack e = refl
  help_stays n Withdraws e = refl
  help_stays n (Lowers slot found) e = refl
  help_stays n (Ended how) e = absurd (cc)

  link_stays : (n : HeldExchange) (at : Exchanging) → is_none (exchange_asks p at n) ≡ false → link_by l op n at ≡ stands op (Link n)
  link_stays n Ready e = refl
  link_stays n (Tries slot) e = refl
  link_stays n TriesBare e = refl
  link_stays n WritesBack e = refl
  link_stays n Withdraws e = refl
  link_stays n (Lowers slot found) e = refl
  link_stays n (Ended how) e = absurd (cc)

  mark_stays : (n : HeldExchange) (at : Exchanging) → is_none (exchange_asks p at n) ≡ false → mark_by l op n at ≡ stands op (Mark n)
  mark_stays n Ready e = refl
  mark_stays n (Tries slot) e = refl
  mark_stays n TriesBare e = refl
  mark_stays n WritesBack e = refl
  mark_stays n Withdraws e = refl
  mark_stays n (Lowers slot found) e = refl
  mark_stays n (Ended how) e = absurd (cc)

  tidy_stays : (n : HeldExchange) (at : Exchanging) → is_none (exchange_asks p at n) ≡ false → tidy_by op n at ≡ stands op (Tidy n)
  tidy_stays n Ready e = refl
  tidy_stays n (Tries slot) e = refl
  tidy_stays n TriesBare e = refl
  tidy_stays n WritesBack e = refl
  tidy_stays n Withdraws e = refl
  tidy_stays n (Lowers slot found) e = refl
  tidy_stays n (Ended how) e = absurd (cc)

  row_stays : (n : HeldTake) (at : Taking) → is_none (take_asks at) ≡ false → row_by l op n at ≡ stands op (Row n)
  row_stays n Draws e = refl
  row_stays n (Take_ended took) e = absurd (cc)

  words_stays : (n : HeldStore) (at : Storing) → is_none (store_asks at n) ≡ false → words_by l op (value_put call) n at ≡ stands op (Words n)
  words_stays n (Store_reads how) e = refl
  words_stays n (Writes next) e = refl
  words_stays n (Store_makes_room next first) e = refl
  words_stays n (Store_ended how) e = absurd (cc)

  row_value_stays : (n : HeldStore) (at : Storing) → is_none (store_asks at n) ≡ false → row_value_by l op n at ≡ stands op (RowValue n)
  row_value_stays n (Store_reads how) e = refl
  row_value_stays n (Writes next) e = refl
  row_value_stays n (Store_makes_room next first) e = refl
  row_value_stays n (Store_ended how) e = absurd (cc)

  pub takes_at : (at : At) (told : ℕ) → crew_taken (list_anatomy l p free) p free (stands op at) told ≡ op_taken l p free (stands op at) told
  takes_at (Head m) told = let n = v_load_taken m told in
      goes_if (is_none (v_load_asks n.at n)) (head_by l p free op n n.at) (stands op (Head n)) (head_stays n n.at)
  takes_at (Next m) told = let n = v_load_taken m told in
      goes_if (is_none (v_load_asks n.at n)) (next_by l p free op n n.at) (stands op (Next n)) (next_stays n n.at)
  takes_at (Key m) told = let n = v_load_taken m told in
      goes_if (is_none (v_load_asks n.at n)) (key_by l p free op n n.at) (stands op (Key n)) (key_stays n n.at)
  takes_at (Confirming goal which m) told = let n = confirm_taken p m told in
      let next = confirmed l p free op (confirm_left n) goal which in
      let kept = stands op (Confirming goal which n) in
      goes_if (is_none (confirm_asked p n)) (if is_none (confirm_asked p n) then next else kept) kept (λ e. ap (λ b. if b then next else kept) e)
  takes_at (Help m) told = let n = exchange_taken p m told in
      goes_if (is_none (exchange_asks p n.at n)) (help_by l p free op n n.at) (stands op (Help n)) (help_stays n n.at)
  takes_at (Row m) told = let n = take_taken free m told in
      goes_if (is_none (take_asks n.at)) (row_by l op n n.at) (stands op (Row n)) (row_stays n n.at)
  takes_at (Words m) told = let n = store_taken m told in
      goes_if (is_none (store_asks n.at n)) (words_by l op (value_put call) n n.at) (stands op (Words n)) (words_stays n n.at)
  takes_at (RowValue m) told = let n = store_taken m told in
      goes_if (is_none (store_asks n.at n)) (row_value_by l op n n.at) (stands op (RowValue n)) (row_value_stays n n.at)
  takes_at (Link m) told = let n = exchange_taken p m told in
      goes_if (is_none (exchange_asks p n.at n)) (link_by l op n n.at) (stands op (Link n)) (link_stays n n.at)
  takes_at (Mark m) told = let n = exchange_taken p m told in
      goes_if (is_none (exchange_asks p n.at n)) (mark_by l op n n.at) (stands op (Mark n)) (mark_stays n n.at)
  takes_at (Tidy m) told = let n = exchange_taken p m told in
      goes_if (is_none (exchange_asks p n.at n)) (tidy_by op n n.at) (stands op (Tidy n)) (tidy_stays n n.at)
  takes_at (Value m) told = let n = v_load_taken m told in
      goes_if (is_none (v_load_asks n.at n)) (value_by op n n.at) (stands op (Value n)) (value_stays n n.at)
  takes_at (Ends m) told = let n = complete_taken m told in same_both (is_none (complete_asked n) && false) (stands op (Ends n))
  takes_at (Rests hand) told = refl
