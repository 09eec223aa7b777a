-- Where a call goes on when its machine has ended, by what it is.
use Rattle.std.proofs.Common.{◌≡◌, ◌≢◌, ℕ, ◌+◌, ◌==◌, ◌≤◌, ◌&&◌, not, Bool, true, false, List, [], ◌∷◌, length, drop, slice_index, Contains, Option, Some, None, is_none, inl, inr, refl, sym, ◌∙◌, ap, subst, arith, if◌then◌else◌}
use Rattle.std.proofs.lemmas.Bool.{false≢true}
use Rattle.flit_words.specs.declared.layouts.Layout.{Layout}
use Rattle.flit_words.specs.Layouts.{row_word_of, value_word_of}
use Rattle.flit_words.specs.Links.{link_value}
use Rattle.flit_words.specs.Words.{version_of, value_of, bare_of, is_tagged}
use Rattle.flit_model.specs.Lists.{next_word}
use Rattle.flit_model.specs.declared.events.Event.{Event}
use Rattle.flit_model.specs.declared.calls.Call.{Call}
use Rattle.flit_model.specs.declared.calls.Reply.{Reply}
use Rattle.flit_model.specs.declared.calls.Reply.TheVariants.{Full}
use Rattle.flit_place.specs.Tags.{Place}
use Rattle.flit_pv.specs.declared.hands.Hand.{Hand}
use Rattle.flit_pv.specs.declared.queues.Noted.{Noted}
use Rattle.flit_pv.specs.Queues.{is_full, first_persist}
use Rattle.flit_pv.specs.Hands.{with_queued, with_omitted}
use Rattle.flit_pv.specs.declared.confirms.Confirming.{Confirming as Confirming_phase}
use Rattle.flit_pv.specs.declared.confirms.Confirming.TheVariants.{Begins, MakesRoom, Done}
use Rattle.flit_pv.specs.Confirms.{HeldConfirm, confirm_asked, confirm_leaves, confirm_left}
use Rattle.flit_pv.specs.Stores.{HeldStore, store_asks}
use Rattle.flit_pv.specs.declared.stores.Storing.{Storing}
use Rattle.flit_pv.specs.declared.stores.Storing.TheVariants.{Reads as Store_reads, MakesRoom as Store_makes_room, Writes, Ended as Store_ended}
use Rattle.flit_pv.specs.declared.stores.Stored.TheVariants.{Stored as All_stored, Worn as Store_worn}
use Rattle.flit_rows.specs.Shares.{rows_in}
use Rattle.flit_rows.specs.Taking.{HeldTake, IsRightAt, IsDecided, lacks, take_asks}
use Rattle.flit_rows.specs.declared.take_row.Took.TheVariants.{Taken, None as NoRow}
use Rattle.flit_rows.specs.declared.take_row.Taking.{Taking}
use Rattle.flit_rows.specs.declared.take_row.Taking.TheVariants.{Draws, Ended as Take_ended}
use Rattle.flit_runs.specs.Workings.{leaves}
use Rattle.flit_runs.specs.Soundness.{Needs}
use Rattle.flit_structure.specs.Meanings.{IsServed, key_of, value_put}
use Rattle.flit_structure.specs.Lawful.{rows_needed}
use Rattle.flit_crew.specs.Machines.{hand_in, has_ended, working_in}
use Rattle.flit_crew.specs.Heaps.{at_word}
use Rattle.flit_crew.specs.Fillings.{FillsAt}
use Rattle.flit_crew.specs.Accounts.{AreTight}
use Rattle.flit_crew.specs.Anatomies.{own}
use Rattle.flit_crew.specs.Crews.{Who, Goes, Facts, OwnsRows, left}
use Rattle.flit_list_steps.specs.declared.operations.Path.{Path}
use Rattle.flit_list_steps.specs.declared.operations.Goal.{Goal as Aim}
use Rattle.flit_list_steps.specs.declared.operations.Which.{Which}
use Rattle.flit_list_steps.specs.declared.operations.Which.TheVariants.{Back as The_back, Pred as The_pred, Next as The_next}
use Rattle.flit_list_steps.specs.Operations.{At, Head, Next, Key, Confirming, Help, Row, Words, RowValue, Link, Mark, Tidy, Value, Ends, Rests, HeldOp}
use Rattle.flit_list_steps.specs.Steps.{Carried, with_confirmed, key_word, own_row, row_at, to_row, links, stores_value, words_by, row_value_by, row_by, confirmed, confirming_next}
use Rattle.flit_list_heap.specs.Links.{place_of, row_of}
use Rattle.flit_list_heap.specs.Moves.{plain_link}
use Rattle.flit_list_heap.specs.Keeping.{ListHeap, Kept}
use Rattle.flit_list_laws.specs.Walks.{Loaded, Walk}
use Rattle.flit_list_laws.specs.Knowing.{row_after, IsBackHeld, IsBackSure, KnowsTake, KnowsWords, KnowsValue}
use Rattle.flit_list_laws.specs.ListAnatomy.{machine_at, storing_at, resumed_at, list_anatomy}
use Rattle.flit_list_laws.specs.ListCrew.{Follows, IsOfBack, KnowsConfirming, KnowsAt, list_crew, IsOfLists}
use Rattle.flit_list_laws.proofs.Raws.{raw_row}
use Rattle.flit_list_laws.proofs.Cohering.{one_row}
use Rattle.flit_list_laws.proofs.Others.{and_false}
use Rattle.flit_list_laws.proofs.Starting.{go_answer, go_worn}
use Rattle.flit_list_laws.proofs.Rowing.{Owns, HasRow, has_row, go_link, go_store, go_value}
use Rattle.flit_list_laws.proofs.Confirmations.{sure_one, sure_link, sure_if, sure_back, Nears, needing, grown, sure_pred, sure_before, sure_next, needed_now, go_all, go_confirms_next}
use Rattle.flit_list_laws.proofs.Searching.{back_on, all_sure, go_confirms_pred}
use Rattle.flit_list_laws.proofs.Resuming.{resumes_head, resumes_next, resumes_key}
use Rattle.flit_list_laws.proofs.Ending.{go_help_at, go_link_at, go_mark_at, go_tidy_at, go_value_at}

store_asks_one : (queue : List Noted) (e : Event) → (is_none (if is_full queue then first_persist queue else Some e) && true) ≡ true → ⊥
store_asks_one [] e q = false≢true q
store_asks_one (n ∷ ns) e q = by_full (is_full (n ∷ ns)) q
  where
    by_full : (b : Bool) → (is_none (if b then first_persist (n ∷ ns) else Some e) && true) ≡ true → ⊥
    by_full true q = false≢true q
    by_full false q = false≢true q

left_name : (m : HeldConfirm) → (confirm_left m).name ≡ m.hand.name
left_name m = by_phase m.at
  where
    by_tag : (b : Bool) → (if b then with_queued m.hand m.word m.raw else with_omitted m.hand).name ≡ m.hand.name
    by_tag true = refl
    by_tag false = refl

    by_phase : (at : Confirming_phase) → (confirm_leaves at m).name ≡ m.hand.name
    by_phase Begins = by_tag (is_tagged m.raw)
    by_phase (MakesRoom first) = refl
    by_phase Done = refl

left_spare : (m : HeldConfirm) → (confirm_left m).spare ≡ m.hand.spare
left_spare m = by_phase m.at
  where
    by_tag : (b : Bool) → (if b then with_queued m.hand m.word m.raw else with_omitted m.hand).spare ≡ m.hand.spare
    by_tag true = refl
    by_tag false = refl

    by_phase : (at : Confirming_phase) → (confirm_leaves at m).spare ≡ m.hand.spare
    by_phase Begins = by_tag (is_tagged m.raw)
    by_phase (MakesRoom first) = refl
    by_phase Done = refl

-- the one row that a hand has stands first
one_first : (spare : List ℕ) (row : ℕ) → 1 ≤ length spare → rows_in (drop 1 spare) ≡ [] → rows_in spare ≡ row ∷ [] → slice_index spare 0 ≡ row
one_first [] row places tight own = absurd (omega (arith, places))
one_first (x ∷ xs) row places tight own = by_first (x == 0) own
  where
    by_first : (b : Bool) → (if not b then x ∷ rows_in xs else rows_in xs) ≡ row ∷ [] → x ≡ row
    by_first true e = absurd (none (sym tight ∙ e))
      where
        none : [] ≡ row ∷ [] → ⊥
        none q = cc
    by_first false e = cc

module _ (l : Layout) (lists : IsOfLists l) (p : Place) (free : List ℕ) (h : ListHeap) (kept : Kept l free h) (me : Who)
    (early : me.first ≤ length h.progress.settled) (served : IsServed l me.call) (most : me.name ≤ l.workers) (call : Call) (reply : Reply) (path : Path)
    (same : call ≡ me.call) (w : Walk) (n : Loaded) where
  abbrev op : Carried
  op = record { call = call; reply = reply; path = path }

  abbrev On : Hand → HeldOp → Type 0
  On hand next = Goes (list_crew l p free) l p free h me hand next

  -- ---- a row was taken

  go_row_at : (m : HeldTake) → Owns free m.hand → Follows l path w → KnowsTake l h me w → m.need ≡ rows_needed l.kind → (at : Taking) → IsRightAt free m at →
      (is_none (take_asks at) && true) ≡ true → On m.hand (row_by l op m at)
  go_row_at m owns follows f need Draws right ended = absurd (false≢true ended)
  go_row_at m owns follows f need (Take_ended Taken) right ended = go_store l lists p free h kept me early served op same w n follows f.sure f.passed f.insert
      m.hand (has_row free m.hand (subst (λ k. lacks k m.hand.spare ≡ false) (need ∙ one_row l.kind lists.kind) right) owns) f.alone
  go_row_at m owns follows f need (Take_ended (NoRow ticket)) right ended = go_answer l p free h kept me early served op same w n m.hand (Full ticket) f.insert
      (subst (λ k. IsDecided free k m.hand (NoRow ticket)) need right) tt

  -- ---- its words were stored

  abbrev row_of_own : (hand : Hand) → Owns free hand → (row : ℕ) → rows_in hand.spare ≡ row ∷ [] → HasRow free hand
  row_of_own hand owns row own = record {
    row = row;
    own = own;
    first = one_first hand.spare row owns.places owns.tight own;
    pool = owns.pool row (subst (λ rows. Contains rows row) (sym own) (Rattle.flit_model.proofs.Membership.contains_first row []));
  }

  row_is : Follows l path w → row_at path ≡ row_after w
  row_is follows = raw_row path.pred.raw ∙ ap (λ r. row_of (bare_of r)) follows.link.raw

  next_at : (r : ℕ) → key_word l r + 1 ≡ next_word l r
  next_at r = plus (row_word_of l r 0) (next_word l r) (Rattle.flit_list_heap.proofs.Places.key-place l lists.kind r)
      (Rattle.flit_list_heap.proofs.Places.next-place l lists.kind r)
    where
      plus : (a b : ℕ) {c : ℕ} → a ≡ c → b ≡ c + 1 → a + 1 ≡ b
      plus a b e q = ap (λ x. x + 1) e ∙ sym q

  go_words_at : (m : HeldStore) → Owns free m.hand → Follows l path w → KnowsWords l h me w m → (at : Storing) →
      FillsAt l h (storing_at l call path (Words m)) at m → (is_none (store_asks at m) && true) ≡ true → On m.hand (words_by l op (value_put call) m at)
  go_words_at m owns follows f (Store_reads how) facts ended = absurd (false≢true ended)
  go_words_at m owns follows f (Writes next) facts ended = absurd (store_asks_one m.hand.queue _ ended)
  go_words_at m owns follows f (Store_makes_room next first) facts ended = absurd (false≢true ended)
  go_words_at m owns follows f (Store_ended (Store_worn word version)) facts ended =
      go_worn l p free h kept me early served op same w n m.hand word version (facts.0, inl facts.1)
  go_words_at m owns follows f (Store_ended All_stored) facts ended = by_values l.values refl
    where
      has : HasRow free m.hand
      has = row_of_own m.hand owns f.row f.own

      key_there : value_of (at_word h (row_word_of l f.row 0)) ≡ key_of me.call
      key_there = ap (λ r. value_of (at_word h (row_word_of l r 0))) (sym has.first) ∙ facts.0 ∙ ap key_of same

      next_there : value_of (at_word h (next_word l f.row)) ≡ link_value (plain_link (row_after w))
      next_there = ap (λ v. value_of (at_word h v)) (sym (next_at f.row)) ∙ ap (λ r. value_of (at_word h (key_word l r + 1))) (sym has.first) ∙ facts.1.0
          ∙ ap to_row (row_is follows)

      by_values : (b : Bool) → l.values ≡ b → On m.hand (if b then stores_value l op m.hand (value_put call) else links l op m.hand)
      by_values true v = go_value l lists p free h kept me early served op same w n follows f.sure f.passed f.insert m.hand has v (value_put call)
          (ap value_put same) key_there next_there f.private
      by_values false v = go_link l lists p free h kept me early served op same w n follows f.sure f.passed f.insert m.hand has key_there next_there
          (λ t. absurd (false≢true (sym v ∙ t)))

  go_row_value_at : (m : HeldStore) → Owns free m.hand → Follows l path w → KnowsValue l h me w m → (at : Storing) →
      FillsAt l h (storing_at l call path (RowValue m)) at m → (is_none (store_asks at m) && true) ≡ true → On m.hand (row_value_by l op m at)
  go_row_value_at m owns follows f (Store_reads how) facts ended = absurd (false≢true ended)
  go_row_value_at m owns follows f (Writes next) facts ended = absurd (store_asks_one m.hand.queue _ ended)
  go_row_value_at m owns follows f (Store_makes_room next first) facts ended = absurd (false≢true ended)
  go_row_value_at m owns follows f (Store_ended (Store_worn word version)) facts ended =
      go_worn l p free h kept me early served op same w n m.hand word version (facts.0, inl facts.1)
  go_row_value_at m owns follows f (Store_ended All_stored) facts ended =
      let has : HasRow free m.hand = row_of_own m.hand owns f.row f.own in
      go_link l lists p free h kept me early served op same w n follows f.sure f.passed f.insert m.hand has f.key f.next
      (λ v. ap (λ r. value_of (at_word h (value_word_of l r))) (sym has.first) ∙ facts.0 ∙ ap value_put same)

  -- ---- a word was confirmed

  abbrev you : HeldConfirm → Who
  you m = needing l lists p free h kept me m.word m.raw

  near : (goal : Aim) (which : Which) (m : HeldConfirm) → m.hand.name ≡ me.name → Owns free m.hand → KnowsConfirming l h me path w n goal which m →
      Nears l lists p free h kept (you m) op (confirm_left m) goal w n
  near goal which m named owns f =
      let g = grown l lists p free h kept me op m.hand goal w n m.word m.raw (record {
        early = early;
        served = served;
        most = most;
        same = same;
        named = named;
        owns = owns;
        alone = f.alone;
        follows = f.follows;
        stands = f.stands;
        known = f.goal_known;
      }) in record {
        early = early;
        served = served;
        most = most;
        same = same;
        named = left_name m ∙ named;
        owns = record {
          places = subst (λ s. 1 ≤ length s) (sym (left_spare m)) owns.places;
          tight = ap (λ s. rows_in (drop 1 s)) (left_spare m) ∙ owns.tight;
          pool = λ row c. owns.pool row (subst (λ s. Contains (rows_in s) row) (left_spare m) c);
        };
        alone = g.alone;
        follows = g.follows;
        stands = g.stands;
        known = g.known;
      }

  back_now : (m : HeldConfirm) (o : Option Loaded) → IsOfBack l m o → IsBackHeld l (you m) (sure_if o)
  back_now m None f = tt
  back_now m (Some q) f = needed_now l lists p free h kept me m.word m.raw (place_of l q.word) q.raw f.word f.raw

  go_confirmed : (goal : Aim) (which : Which) (m : HeldConfirm) → m.hand.name ≡ me.name → Owns free m.hand → KnowsConfirming l h me path w n goal which m →
      Goes (list_crew l p free) l p free h (you m) (confirm_left m) (confirmed l p free op (confirm_left m) goal which)
  go_confirmed goal The_back m named owns f = go_confirms_pred l lists p free h kept (you m) (with_confirmed op The_back) (confirm_left m) goal (sure_back w) n
      (sure_before l lists p free h kept (you m) op (confirm_left m) goal w n (back_now m w.back f.one) (near goal The_back m named owns f))
      (all_sure l lists p free h kept (you m) w.back)
  go_confirmed goal The_pred m named owns f = go_confirms_next l lists p free h kept (you m) (with_confirmed op The_pred) (confirm_left m) goal (sure_link w) n
      (sure_pred l lists p free h kept (you m) op (confirm_left m) goal w n
      (needed_now l lists p free h kept me m.word m.raw (place_of l w.link.word) w.link.raw f.one.1.word f.one.1.raw) (near goal The_pred m named owns f))
      (back_on l lists p free h kept me m.word m.raw w.back f.one.0) refl
  go_confirmed goal The_next m named owns f = go_all l lists p free h kept (you m) (with_confirmed op The_next) (confirm_left m) goal w (sure_one n)
      (sure_next l lists p free h kept (you m) op (confirm_left m) goal w n
      (needed_now l lists p free h kept me m.word m.raw (place_of l n.word) n.raw f.one.2.word f.one.2.raw) (near goal The_next m named owns f))
      (back_on l lists p free h kept me m.word m.raw w.back f.one.0) f.one.1 (λ t. refl)

  and_left : (b : Bool) → (b && true) ≡ true → b ≡ true
  and_left true e = refl
  and_left false e = absurd (cc)

  go_confirming : (goal : Aim) (which : Which) (m : HeldConfirm) → m.hand.name ≡ me.name → Owns free m.hand → KnowsConfirming l h me path w n goal which m →
      (is_none (confirm_asked p m) && true) ≡ true →
      Goes (list_crew l p free) l p free h (you m) (confirm_left m) (confirming_next l p free op goal which m)
  go_confirming goal which m named owns f ended = subst (λ b. Goes (list_crew l p free) l p free h (you m) (confirm_left m)
      (if b then confirmed l p free op (confirm_left m) goal which else record { call = call; reply = reply; path = path; at = Confirming goal which m }))
      (sym (and_left (is_none (confirm_asked p m)) ended)) (go_confirmed goal which m named owns f)

  -- ---- all of them

  abbrev op_at : At → HeldOp
  op_at at = record { call = call; reply = reply; path = path; at = at }

  owns_of : (hand : Hand) → AreTight l hand.spare → ((row : ℕ) → Contains (rows_in hand.spare) row → Contains free row) → Owns free hand
  owns_of hand tight pool =
      let t = subst (λ k. (k ≤ length hand.spare) × (rows_in (drop k hand.spare) ≡ [])) (one_row l.kind lists.kind) tight in
      record { places = t.0; tight = t.1; pool = pool }

  pub goes_at : (at : At) → has_ended p (machine_at at) ≡ true → Facts (list_crew l p free) l p free h me (op_at at) (machine_at at) →
      OwnsRows (list_crew l p free) l p free h (op_at at) (machine_at at) → (hand_in (machine_at at)).name ≡ me.name → KnowsAt l h me reply path w n at →
      Goes (list_crew l p free) l p free h (left (list_crew l p free) l p free me (working_in (machine_at at))) (leaves (working_in (machine_at at)))
      (resumed_at l p free op at)
  goes_at (Head m) ended facts owns named f =
      resumes_head l lists p free h kept me early served most op same m named (owns_of m.hand owns.tight owns.pool) f ended
  goes_at (Next m) ended facts owns named f =
      resumes_next l lists p free h kept me early served most op same w n m named (owns_of m.hand owns.tight owns.pool) f.0 f.1 ended
  goes_at (Key m) ended facts owns named f =
      resumes_key l lists p free h kept me early served most op same w n m named (owns_of m.hand owns.tight owns.pool) f.0 f.1 ended
  goes_at (Confirming goal which m) ended facts owns named f = go_confirming goal which m named (owns_of m.hand owns.tight owns.pool) f ended
  goes_at (Help m) ended facts owns named f = go_help_at l lists p free h kept me early served most op same w n m named
      (owns_of m.hand owns.tight owns.pool) f.0 f.1 m.at f.2 facts ended
  goes_at (Row m) ended facts owns named f = go_row_at m (owns_of m.hand owns.tight owns.pool) f.0 f.1 facts.1 m.at facts.0 ended
  goes_at (Words m) ended facts owns named f = go_words_at m (owns_of m.hand owns.tight owns.pool) f.0 f.1 m.at facts.filled ended
  goes_at (RowValue m) ended facts owns named f = go_row_value_at m (owns_of m.hand owns.tight owns.pool) f.0 f.1 m.at facts.filled ended
  goes_at (Link m) ended facts owns named f = go_link_at l lists p free h kept me early served most op same w n m f.0 m.at f.1 facts ended
  goes_at (Mark m) ended facts owns named f = go_mark_at l lists p free h kept me early served most op same w n m f.1 f.0 f.2 m.at f.3 facts ended
  goes_at (Tidy m) ended facts owns named f = go_tidy_at l lists p free h kept me early served most op same w n m f.0 m.at ended
  goes_at (Value m) ended facts owns named f = go_value_at l lists p free h kept me early served most op same w n m f.0 f.1 m.at f.1.read ended
  goes_at (Ends m) ended facts owns named f = absurd (false≢true (sym (and_false (is_none (first_persist m.fence.hand.queue))) ∙ ended))
  goes_at (Rests hand) ended facts owns named f = absurd f
