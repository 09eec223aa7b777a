-- Each machine of a call that has ended: where the call goes on, and that no row and no update changes its place.
use Rattle.std.proofs.Common.{◌≡◌, inl, ℕ, ◌≤◌, ◌&&◌, not, Bool, true, false, List, [], ◌∷◌, length, drop, slice_set, Contains, Some, is_none, refl, sym, ◌∙◌, ap, subst, if◌then◌else◌}
use Rattle.std.proofs.lemmas.Bool.{false≢true}
use Rattle.std.proofs.lemmas.List.{length-set}
use Rattle.flit_words.specs.declared.layouts.Layout.{Layout}
use Rattle.flit_words.specs.Words.{value_of}
use Rattle.flit_model.specs.Histories.{is_read_by, is_update_by}
use Rattle.flit_model.specs.declared.events.Event.{Event}
use Rattle.flit_model.specs.declared.calls.Call.{Call}
use Rattle.flit_model.specs.declared.calls.Call.TheVariants.{Insert, Remove, Contains as Contains_call, Get}
use Rattle.flit_model.specs.declared.calls.Reply.{Reply}
use Rattle.flit_model.specs.declared.calls.Reply.TheVariants.{Yes, Found, Full}
use Rattle.flit_place.specs.Tags.{Place}
use Rattle.flit_pv.specs.declared.hands.Hand.{Hand}
use Rattle.flit_pv.specs.declared.queues.Noted.{Noted}
use Rattle.flit_pv.specs.Queues.{is_full, first_persist}
use Rattle.flit_pv.specs.Loads.{HeldLoad, load_asks}
use Rattle.flit_pv.specs.declared.loads.Loading.{Loading}
use Rattle.flit_pv.specs.declared.loads.Loading.TheVariants.{Reads as Load_reads, Asks, MakesRoom as Load_makes_room, Has}
use Rattle.flit_pv.specs.VLoads.{HeldVLoad, v_load_asks}
use Rattle.flit_pv.specs.declared.v_loads.VLoading.{VLoading}
use Rattle.flit_pv.specs.declared.v_loads.VLoading.TheVariants.{Reads as V_reads, Has as V_has}
use Rattle.flit_pv.specs.Exchanges.{HeldExchange, exchange_asks}
use Rattle.flit_pv.specs.declared.exchanges.Exchanging.{Exchanging}
use Rattle.flit_pv.specs.declared.exchanges.Exchanging.TheVariants.{Ready, Tries, TriesBare, WritesBack, Withdraws, Lowers, Ended}
use Rattle.flit_pv.specs.declared.exchanges.Exchanged.TheVariants.{Won, Lost, Worn as Exchange_worn}
use Rattle.flit_pv.specs.Stores.{HeldStore, store_asks}
use Rattle.flit_pv.specs.declared.stores.Storing.{Storing}
use Rattle.flit_pv.specs.declared.stores.Storing.TheVariants.{Reads as Store_reads, MakesRoom as Store_makes_room, Writes, Ended as Store_ended}
use Rattle.flit_pv.specs.declared.stores.Stored.TheVariants.{Stored as All_stored, Worn as Store_worn}
use Rattle.flit_rows.specs.Shares.{rows_in}
use Rattle.flit_rows.specs.declared.take_row.Taking.{Taking}
use Rattle.flit_rows.specs.declared.take_row.Taking.TheVariants.{Draws, Ended as Take_ended}
use Rattle.flit_rows.specs.declared.take_row.Took.TheVariants.{Taken, None as NoRow}
use Rattle.flit_rows.specs.Taking.{HeldTake, take_asks, lacks, IsRightAt, IsDecided}
use Rattle.flit_structure.specs.Meanings.{value_put, IsServed}
use Rattle.flit_structure.specs.Lawful.{rows_needed, is_get, is_insert}
use Rattle.flit_crew.specs.Machines.{Machine, Works, Takes, has_ended, hand_in, load_part, v_load_part, exchange_part, exchange_deed, has_linked, Fresh}
use Rattle.flit_crew.specs.Heaps.{at_word}
use Rattle.flit_crew.specs.Fillings.{FillsAt}
use Rattle.flit_crew.specs.Accounts.{AreTight}
use Rattle.flit_crew.specs.Anatomies.{own, deed, deed_by, rows_but}
use Rattle.flit_crew.specs.Crews.{Who, Goes, Facts, ExchangesAt, OwnsRows, IsAlike, IsCoherent}
use Rattle.flit_one_key.specs.Operations.{At, Head, Key, Value, Row, Words, RowValue, Link, Ends, Rests, HeldOp}
use Rattle.flit_one_key.specs.Steps.{IsSmall, key_word, value_word, hand_linked, head_by, key_by, value_by, row_by, words_by, row_value_by, link_by, answers}
use Rattle.flit_one_key_crew.specs.OneKeyAnatomy.{machine_at, one_key_anatomy, storing_at, resumed_at}
use Rattle.flit_one_key_crew.specs.OneKeyCrew.{Words_of, row_key, row_value, HeadKnows, WordKnows, LinkKnows, KnowsAt, Kept, one_key_crew}
use Rattle.flit_one_key_crew.proofs.Knowing.{and_false}
use Rattle.flit_one_key_crew.proofs.Stories.{answer_by}
use Rattle.flit_one_key_crew.proofs.Loading.{reads_found}
use Rattle.flit_one_key_crew.proofs.Resuming.{Owns, has_row, go_search, go_answer, go_worn, go_link_row, go_value, go_taken, go_got, go_loaded}
use Rattle.flit_one_key_crew.proofs.Ends.{Sits, sits_head, sits_got, sits_found, sits_row, sits_words, sits_row_value, sits_lost, sits_worn_out}

-- a machine that is to store a word hasn't ended
store_asks_one : (queue : List Noted) (e : Event) → (is_none (if is_full queue then first_persist queue else Some e) && true) ≡ true → ⊥
store_asks_one [] e q = false≢true q
store_asks_one (n ∷ ns) e q = by_full (is_full (n ∷ ns)) q
  where
    by_full : (b : Bool) → (is_none (if b then first_persist (n ∷ ns) else Some e) && true) ≡ true → ⊥
    by_full true q = false≢true q
    by_full false q = false≢true q

update_fits : (call : Call) → is_update_by call Yes ≡ true → not (is_get call) ≡ true
update_fits (Insert k v) e = refl
update_fits (Remove k) e = refl
update_fits (Contains_call k) e = absurd (false≢true e)
update_fits (Get k) e = absurd (false≢true e)

update_reads : (call : Call) → is_update_by call Yes ≡ true → is_read_by call Yes ≡ true → ⊥
update_reads (Insert k v) e q = false≢true q
update_reads (Remove k) e q = false≢true q
update_reads (Contains_call k) e q = false≢true e
update_reads (Get k) e q = false≢true e

module _ (l : Layout) (small : IsSmall l) (p : Place) (free : List ℕ) (h : Words_of) (is : Kept l free h) (me : Who) (call : Call) (reply : Reply)
    (same_call : call ≡ me.call) where
  abbrev with_at : At → HeldOp
  with_at at = record { call = call; reply = reply; at = at }

  abbrev Knows : At → Type 0
  Knows at = KnowsAt l h me call reply at

  -- ---- where it goes on

  module _ (served : IsServed l call) where
    abbrev GoesOn : Hand → HeldOp → Type 0
    GoesOn hand next = Goes (one_key_crew l free) l p free h me hand next

    head_goes : (n : HeldLoad) (t : Loading) → n.at ≡ t → (is_none (load_asks t n) && true) ≡ true → Owns free n.hand → Knows (Head n) →
        GoesOn n.hand (head_by l free (with_at (Head n)) n t)
    head_goes n Load_reads at q o k = absurd (false≢true q)
    head_goes n (Asks raw slot) at q o k = absurd (false≢true q)
    head_goes n (Load_makes_room raw first) at q o k = absurd (false≢true q)
    head_goes n (Has raw) at q o k = go_loaded l small p free h is me call same_call served reply (Head n) n.hand o raw k.0
        (subst (λ t. HeadKnows l h me call (load_part t n.word)) at k.1)

    key_goes : (head : ℕ) (n : HeldVLoad) (t : VLoading) → n.at ≡ t → (is_none (v_load_asks t n) && true) ≡ true → Owns free n.hand → Knows (Key head n) →
        GoesOn n.hand (key_by l free (with_at (Key head n)) head n t)
    key_goes head n V_reads at q o k = absurd (false≢true q)
    key_goes head n (V_has raw) at q o k = go_got l small p free h is me call same_call served reply (Key head n) n.hand o head k.0 k.1 k.2 raw
        (subst (λ t. WordKnows (key_word l) (row_key l h) (v_load_part t n.word)) at k.3)

    value_goes : (n : HeldVLoad) (t : VLoading) → n.at ≡ t → (is_none (v_load_asks t n) && true) ≡ true → Knows (Value n) →
        GoesOn n.hand (value_by (with_at (Value n)) n t)
    value_goes n V_reads at q k = absurd (false≢true q)
    value_goes n (V_has raw) at q k = go_answer l small p free h is me call same_call served reply (Value n) n.hand (Found (value_of raw)) (ap is_get k.2) tt
        (λ r. reads_found l free h is me call k.0.0 k.0.1.saw k.0.1.key k.0.1.linked (Found (value_of raw))
        (ap Found (subst (λ t. WordKnows (value_word l) (row_value l h) (v_load_part t n.word)) at k.3)
        ∙ ap (λ c. answer_by c (Some (row_value l h))) (sym k.2)))

    row_goes : (head : ℕ) (n : HeldTake) (t : Taking) → n.at ≡ t → (is_none (take_asks t) && true) ≡ true → Owns free n.hand → IsRightAt free n t →
        n.need ≡ rows_needed l.kind → Knows (Row head n) → GoesOn n.hand (row_by l (with_at (Row head n)) head n t)
    row_goes head n Draws at q o right need k = absurd (false≢true q)
    row_goes head n (Take_ended Taken) at q o right need k = go_taken l small p free h is me call same_call served reply (Row head n) n.hand head k.0 k.1 k.2
        (has_row l free is.pool h me call n.hand (subst (λ x. lacks x n.hand.spare ≡ false) (need ∙ ap rows_needed small.list) right) o)
    row_goes head n (Take_ended (NoRow ticket)) at q o right need k = go_answer l small p free h is me call same_call served reply (Row head n) n.hand
        (Full ticket) (ap is_insert k.2) (subst (λ x. IsDecided free x n.hand (NoRow ticket)) need right)
        (λ r. absurd (false≢true (sym (Rattle.flit_one_key_crew.proofs.Resuming.full_reads call ticket) ∙ r)))

    words_goes : (head : ℕ) (n : HeldStore) (t : Storing) → (is_none (store_asks t n) && true) ≡ true →
        FillsAt l h (storing_at l call (Words head n)) t n → Knows (Words head n) →
        GoesOn n.hand (words_by l (with_at (Words head n)) head (value_put call) n t)
    words_goes head n (Store_reads how) q f k = absurd (false≢true q)
    words_goes head n (Writes next) q f k = absurd (store_asks_one n.hand.queue _ q)
    words_goes head n (Store_makes_room next first) q f k = absurd (false≢true q)
    words_goes head n (Store_ended All_stored) q f k = go_value l small p free h is me call same_call served reply (Words head n) n.hand head k.0
        (record { key = f.0; link = f.1.0 }) k.1
    words_goes head n (Store_ended (Store_worn word version)) q f k =
        go_worn l small p free h is me call same_call served reply (Words head n) n.hand word version (f.0, inl f.1)

    row_value_goes : (head : ℕ) (n : HeldStore) (t : Storing) → (is_none (store_asks t n) && true) ≡ true →
        FillsAt l h (storing_at l call (RowValue head n)) t n → Knows (RowValue head n) → GoesOn n.hand (row_value_by l (with_at (RowValue head n)) head n t)
    row_value_goes head n (Store_reads how) q f k = absurd (false≢true q)
    row_value_goes head n (Writes next) q f k = absurd (store_asks_one n.hand.queue _ q)
    row_value_goes head n (Store_makes_room next first) q f k = absurd (false≢true q)
    row_value_goes head n (Store_ended All_stored) q f k = go_link_row l small p free h is me call same_call served reply (RowValue head n) n.hand head k.0 k.1
        (ap (λ b. if b then value_of (at_word h (value_word l)) else 0) k.2 ∙ f.0)
    row_value_goes head n (Store_ended (Store_worn word version)) q f k =
        go_worn l small p free h is me call same_call served reply (RowValue head n) n.hand word version (f.0, inl f.1)

    linked_alike : (c : Call) (hand : Hand) → IsAlike (one_key_crew l free) l p free hand (hand_linked c hand)
    linked_alike (Insert k v) hand = record { name = refl; number = refl; queue = refl; ticket = refl; queued = refl }
    linked_alike (Remove k) hand = record { name = refl; number = refl; queue = refl; ticket = refl; queued = refl }
    linked_alike (Contains_call k) hand = record { name = refl; number = refl; queue = refl; ticket = refl; queued = refl }
    linked_alike (Get k) hand = record { name = refl; number = refl; queue = refl; ticket = refl; queued = refl }

    link_goes : (n : HeldExchange) (t : Exchanging) → n.at ≡ t → (is_none (exchange_asks p t n) && true) ≡ true →
        ExchangesAt (one_key_crew l free) l p free t → Knows (Link n) → GoesOn n.hand (link_by (with_at (Link n)) n t)
    link_goes n Ready at q f k = absurd (false≢true q)
    link_goes n (Tries slot) at q f k = absurd (false≢true q)
    link_goes n TriesBare at q f k = absurd (false≢true q)
    link_goes n WritesBack at q f k = absurd (false≢true q)
    link_goes n Withdraws at q f k = absurd (false≢true q)
    link_goes n (Lowers slot found) at q f k = absurd (false≢true q)
    link_goes n (Ended Won) at q f k =
        let update = subst (λ t. LinkKnows l h me call n (exchange_part t)) at k.1 in
        Goes.changes me n.hand (hand_linked call n.hand) (answers (with_at (Link n)) (hand_linked call n.hand) Yes) (linked_alike call n.hand)
        (go_answer l small p free h is me call same_call served reply (Link n) (hand_linked call n.hand) Yes (update_fits call update) tt
        (λ r. absurd (update_reads call update r)))
    link_goes n (Ended (Lost found)) at q f k = go_search l small p free h is me call same_call served reply (Link n) n.hand
        (subst (λ t. LinkKnows l h me call n (exchange_part t)) at k.1)
    link_goes n (Ended (Exchange_worn word version)) at q f k = absurd f

    owns : (n : Hand) (at : At) → own (one_key_anatomy l free) (with_at at) ≡ rows_in n.spare → (m : Machine) → hand_in m ≡ n →
        OwnsRows (one_key_crew l free) l p free h (with_at at) m → Owns free n
    owns n at rows m in_hand o = record {
      places = subst (λ x. 1 ≤ length x.spare) in_hand (subst (λ k. k ≤ length (hand_in m).spare) needed o.tight.0);
      tight = subst (λ x. rows_in (drop 1 x.spare) ≡ []) in_hand (subst (λ k. rows_in (drop k (hand_in m).spare) ≡ []) needed o.tight.1);
      pool = λ row c. o.pool row (subst (λ rs. Contains rs row) (sym rows) c);
    }
      where
        needed : rows_needed l.kind ≡ 1
        needed = ap rows_needed small.list

    -- the machine of the phase has ended
    pub ended_goes : (at : At) → has_ended p (machine_at at) ≡ true → Facts (one_key_crew l free) l p free h me (with_at at) (machine_at at) →
        OwnsRows (one_key_crew l free) l p free h (with_at at) (machine_at at) → Knows at →
        Goes (one_key_crew l free) l p free h me (Rattle.flit_runs.specs.Workings.leaves (Rattle.flit_crew.specs.Machines.working_in (machine_at at)))
        (resumed_at l free (with_at at) at)
    ended_goes (Head n) q f o k = head_goes n n.at refl q (owns n.hand (Head n) refl (machine_at (Head n)) refl o) k
    ended_goes (Key head n) q f o k = key_goes head n n.at refl q (owns n.hand (Key head n) refl (machine_at (Key head n)) refl o) k
    ended_goes (Value n) q f o k = value_goes n n.at refl q k
    ended_goes (Row head n) q f o k = row_goes head n n.at refl q (owns n.hand (Row head n) refl (machine_at (Row head n)) refl o) f.0 f.1 k
    ended_goes (Words head n) q f o k = words_goes head n n.at q f.filled k
    ended_goes (RowValue head n) q f o k = row_value_goes head n n.at q f.filled k
    ended_goes (Link n) q f o k = link_goes n n.at refl q f k
    ended_goes (Ends n) q f o k = absurd (false≢true (sym (and_false (is_none (first_persist n.fence.hand.queue))) ∙ q))
    ended_goes (Rests hand) q f o k = absurd k

  -- ---- what stays

  module _ (at : At) where
    abbrev Stays : HeldOp → Type 0
    Stays next = IsCoherent (one_key_crew l free) l p free (with_at at) next

    stays : (hand : Hand) (next : HeldOp) → own (one_key_anatomy l free) (with_at at) ≡ rows_in hand.spare →
        deed (one_key_anatomy l free) (with_at at) ≡ Fresh → (hand_in (machine_at at)).spare ≡ hand.spare → Sits l free (with_at at) hand next → Stays next
    stays hand next rows fresh spare s = record {
      own = s.own ∙ sym rows;
      deed = s.deed ∙ sym fresh;
      tight = λ t. subst (AreTight l) (spare ∙ sym s.spare) t;
    }

  -- a row that was linked leaves the hand
  linked_rows : (n : HeldExchange) → AreTight l n.hand.spare → (c : Call) → is_update_by c Yes ≡ true →
      rows_in (hand_linked c n.hand).spare ≡ rows_but (one_key_anatomy l free) (is_insert c && true) n.hand.spare
  linked_rows n t (Insert k v) u = by_list n.hand.spare (subst (λ x. rows_in (drop x n.hand.spare) ≡ []) (ap rows_needed small.list) t.1)
    where
      by_list : (spare : List ℕ) → rows_in (drop 1 spare) ≡ [] → rows_in (slice_set spare 0 0) ≡ []
      by_list [] e = refl
      by_list (x ∷ rest) e = e
  linked_rows n t (Remove k) u = refl
  linked_rows n t (Contains_call k) u = refl
  linked_rows n t (Get k) u = refl

  linked_tight : (c : Call) (hand : Hand) → AreTight l hand.spare → AreTight l (hand_linked c hand).spare
  linked_tight (Insert k v) hand t = (
    subst (λ n. rows_needed l.kind ≤ n) (sym (length-set hand.spare 0 0)) t.0,
    subst (λ x. rows_in (drop x (slice_set hand.spare 0 0)) ≡ []) (sym needed)
        (by_list hand.spare (subst (λ x. rows_in (drop x hand.spare) ≡ []) needed t.1)),
  )
    where
      needed : rows_needed l.kind ≡ 1
      needed = ap rows_needed small.list

      by_list : (spare : List ℕ) → rows_in (drop 1 spare) ≡ [] → rows_in (drop 1 (slice_set spare 0 0)) ≡ []
      by_list [] e = refl
      by_list (x ∷ rest) e = e
  linked_tight (Remove k) hand t = t
  linked_tight (Contains_call k) hand t = t
  linked_tight (Get k) hand t = t

  link_stays : (n : HeldExchange) (t : Exchanging) → n.at ≡ t → (is_none (exchange_asks p t n) && true) ≡ true → AreTight l n.hand.spare → Knows (Link n) →
      Stays (Link n) (link_by (with_at (Link n)) n t)
  link_stays n Ready at q t k = absurd (false≢true q)
  link_stays n (Tries slot) at q t k = absurd (false≢true q)
  link_stays n TriesBare at q t k = absurd (false≢true q)
  link_stays n WritesBack at q t k = absurd (false≢true q)
  link_stays n Withdraws at q t k = absurd (false≢true q)
  link_stays n (Lowers slot found) at q t k = absurd (false≢true q)
  link_stays n (Ended Won) at q t k =
      let update = subst (λ t. LinkKnows l h me call n (exchange_part t)) at k.1 in
      record {
        own = linked_rows n t call update
            ∙ sym (ap (λ x. rows_but (one_key_anatomy l free) (is_insert call && has_linked (exchange_deed x n)) n.hand.spare) at);
        deed = ap (λ b. deed_by (one_key_anatomy l free) false b Fresh) update ∙ sym (ap (λ x. exchange_deed x n) at);
        tight = λ u. linked_tight call n.hand u;
      }
  link_stays n (Ended (Lost found)) at q t k = stays (Link n) n.hand (link_by (with_at (Link n)) n (Ended (Lost found)))
      (ap (λ x. rows_but (one_key_anatomy l free) (is_insert call && has_linked (exchange_deed x n)) n.hand.spare) at
      ∙ ap (λ b. rows_but (one_key_anatomy l free) b n.hand.spare) (and_false (is_insert call)))
      (ap (λ x. exchange_deed x n) at) refl (sits_lost l free (with_at (Link n)) n.hand found)
  link_stays n (Ended (Exchange_worn word version)) at q t k = stays (Link n) n.hand (link_by (with_at (Link n)) n (Ended (Exchange_worn word version)))
      (ap (λ x. rows_but (one_key_anatomy l free) (is_insert call && has_linked (exchange_deed x n)) n.hand.spare) at
      ∙ ap (λ b. rows_but (one_key_anatomy l free) b n.hand.spare) (and_false (is_insert call)))
      (ap (λ x. exchange_deed x n) at) refl (sits_worn_out l free (with_at (Link n)) n.hand word version)

  head_stays : (n : HeldLoad) (t : Loading) → (is_none (load_asks t n) && true) ≡ true → Stays (Head n) (head_by l free (with_at (Head n)) n t)
  head_stays n Load_reads q = absurd (false≢true q)
  head_stays n (Asks raw slot) q = absurd (false≢true q)
  head_stays n (Load_makes_room raw first) q = absurd (false≢true q)
  head_stays n (Has raw) q = stays (Head n) n.hand (head_by l free (with_at (Head n)) n (Has raw)) refl refl refl
      (sits_head l free (with_at (Head n)) n.hand raw)

  key_stays : (head : ℕ) (n : HeldVLoad) (t : VLoading) → (is_none (v_load_asks t n) && true) ≡ true →
      Stays (Key head n) (key_by l free (with_at (Key head n)) head n t)
  key_stays head n V_reads q = absurd (false≢true q)
  key_stays head n (V_has raw) q = stays (Key head n) n.hand (key_by l free (with_at (Key head n)) head n (V_has raw)) refl refl refl
      (sits_got l free (with_at (Key head n)) n.hand head raw)

  value_stays : (n : HeldVLoad) (t : VLoading) → (is_none (v_load_asks t n) && true) ≡ true → Stays (Value n) (value_by (with_at (Value n)) n t)
  value_stays n V_reads q = absurd (false≢true q)
  value_stays n (V_has raw) q = stays (Value n) n.hand (value_by (with_at (Value n)) n (V_has raw)) refl refl refl
      (sits_found l free (with_at (Value n)) n.hand raw)

  row_stays : (head : ℕ) (n : HeldTake) (t : Taking) → (is_none (take_asks t) && true) ≡ true → Stays (Row head n) (row_by l (with_at (Row head n)) head n t)
  row_stays head n Draws q = absurd (false≢true q)
  row_stays head n (Take_ended took) q = stays (Row head n) n.hand (row_by l (with_at (Row head n)) head n (Take_ended took)) refl refl refl
      (sits_row l free (with_at (Row head n)) n.hand head took)

  words_stay : (head : ℕ) (n : HeldStore) (t : Storing) → (is_none (store_asks t n) && true) ≡ true →
      Stays (Words head n) (words_by l (with_at (Words head n)) head (value_put call) n t)
  words_stay head n (Store_reads how) q = absurd (false≢true q)
  words_stay head n (Writes next) q = absurd (store_asks_one n.hand.queue _ q)
  words_stay head n (Store_makes_room next first) q = absurd (false≢true q)
  words_stay head n (Store_ended how) q = stays (Words head n) n.hand (words_by l (with_at (Words head n)) head (value_put call) n (Store_ended how))
      refl refl refl (sits_words l free (with_at (Words head n)) n.hand head how)

  row_value_stays : (head : ℕ) (n : HeldStore) (t : Storing) → (is_none (store_asks t n) && true) ≡ true →
      Stays (RowValue head n) (row_value_by l (with_at (RowValue head n)) head n t)
  row_value_stays head n (Store_reads how) q = absurd (false≢true q)
  row_value_stays head n (Writes next) q = absurd (store_asks_one n.hand.queue _ q)
  row_value_stays head n (Store_makes_room next first) q = absurd (false≢true q)
  row_value_stays head n (Store_ended how) q = stays (RowValue head n) n.hand (row_value_by l (with_at (RowValue head n)) head n (Store_ended how))
      refl refl refl (sits_row_value l free (with_at (RowValue head n)) n.hand head how)

  pub ended_stays : (at : At) → has_ended p (machine_at at) ≡ true → OwnsRows (one_key_crew l free) l p free h (with_at at) (machine_at at) → Knows at →
      Stays at (resumed_at l free (with_at at) at)
  ended_stays (Head n) q o k = head_stays n n.at q
  ended_stays (Key head n) q o k = key_stays head n n.at q
  ended_stays (Value n) q o k = value_stays n n.at q
  ended_stays (Row head n) q o k = row_stays head n n.at q
  ended_stays (Words head n) q o k = words_stay head n n.at q
  ended_stays (RowValue head n) q o k = row_value_stays head n n.at q
  ended_stays (Link n) q o k = link_stays n n.at refl q o.tight k
  ended_stays (Ends n) q o k = absurd (false≢true (sym (and_false (is_none (first_persist n.fence.hand.queue))) ∙ q))
  ended_stays (Rests hand) q o k = absurd k
