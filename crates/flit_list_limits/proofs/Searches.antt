-- A call begins a search only where an exchange was lost.
use Rattle.std.proofs.Common.{◌≡◌, ◌⊎◌, inl, inr, ℕ, true, List, is_none, refl, sym, ◌∙◌, ap, subst}
use Rattle.flit_words.specs.declared.layouts.Layout.{Layout}
use Rattle.flit_model.specs.declared.calls.Tally.{Tally}
use Rattle.flit_place.specs.Tags.{Place}
use Rattle.flit_pv.specs.VLoads.{v_load_taken}
use Rattle.flit_pv.specs.Confirms.{confirm_taken}
use Rattle.flit_pv.specs.Stores.{store_taken}
use Rattle.flit_pv.specs.Exchanges.{HeldExchange, exchange_taken}
use Rattle.flit_pv.specs.Fences.{complete_asked, complete_taken}
use Rattle.flit_pv.specs.declared.exchanges.Exchanging.{Exchanging}
use Rattle.flit_pv.specs.declared.exchanges.Exchanging.TheVariants.{Ready, Tries, TriesBare, WritesBack, Withdraws, Lowers, Ended}
use Rattle.flit_pv.specs.declared.exchanges.Exchanged.TheVariants.{Won, Lost, Worn}
use Rattle.flit_rows.specs.Taking.{take_taken}
use Rattle.flit_structure.specs.Meanings.{value_put}
use Rattle.flit_crew.specs.Machines.{Machine, machine_takes, hand_in, has_ended}
use Rattle.flit_crew_bounds.specs.Counting.{tally_of}
use Rattle.flit_crew_bounds.specs.Bounding.{BeginsSearch}
use Rattle.flit_list_steps.specs.Operations.{At, Head, Next, Key, Confirming, Help, Row, Words, RowValue, Link, Mark, Tidy, Value, Ends, Rests, HeldOp}
use Rattle.flit_list_steps.specs.Steps.{Carried, carried, with_helped, link_by, mark_by, help_by, unlinked, hand_at}
use Rattle.flit_list_laws.specs.ListAnatomy.{machine_at, resumed, list_anatomy}
use Rattle.flit_list_laws.specs.ListCrew.{list_crew}
use Rattle.flit_list_limits.proofs.Carrying.{to_tidy, tidied, words_stored, value_stored, row_taken, value_loaded, confirmed_so, to_looks, key_loaded, next_loaded, head_loaded}
use Rattle.flit_list_limits.proofs.ListCounts.{same_hand, and_false}

module _ (l : Layout) (p : Place) (free : List ℕ) (op : HeldOp) (told : ℕ) where
  abbrev at_it : At → HeldOp
  at_it at = record op { at = at }

  abbrev m_at : At → Machine
  m_at at = machine_takes p free (machine_at at) told

  abbrev next_at : At → At
  next_at at = (resumed l p free (at_it at) (m_at at)).at

  abbrev on : Carried
  on = carried op

  -- the searches stay as many, or one begins
  abbrev Searched : At → Type 0
  Searched at = ((hand_at (next_at at)).tally.tries ≡ (hand_in (m_at at)).tally.tries)
      ⊎ BeginsSearch (list_crew l p free) l p free (m_at at) (hand_in (m_at at)).tally (hand_at (next_at at)).tally

  help_same : (m : HeldExchange) (x : Exchanging) → (exchange_taken p m told).at ≡ x →
      (hand_at (help_by l p free on (exchange_taken p m told) x).at).tally.tries ≡ (exchange_taken p m told).hand.tally.tries → Searched (Help m)
  help_same m x is e = inl (ap (λ y. (hand_at (help_by l p free on (exchange_taken p m told) y).at).tally.tries) is ∙ e)

  help_searched : (m : HeldExchange) (x : Exchanging) → (exchange_taken p m told).at ≡ x → Searched (Help m)
  help_searched m (Ended (Lost found)) is = inr (record {
    exchange = exchange_taken p m told;
    how = Lost found;
    is = refl;
    ended = is;
    tries = ap (λ y. (hand_at (help_by l p free on (exchange_taken p m told) y).at).tally.tries) is;
    excuse = inl refl;
  })
  help_searched m (Ended Won) is = help_same m (Ended Won) is
      (to_looks l p free (record on { path = unlinked op.path (exchange_taken p m told).to }) (with_helped (exchange_taken p m told).hand)).tries
  help_searched m (Ended (Worn word version)) is = help_same m (Ended (Worn word version)) is refl
  help_searched m Ready is = help_same m Ready is refl
  help_searched m (Tries slot) is = help_same m (Tries slot) is refl
  help_searched m TriesBare is = help_same m TriesBare is refl
  help_searched m WritesBack is = help_same m WritesBack is refl
  help_searched m Withdraws is = help_same m Withdraws is refl
  help_searched m (Lowers slot found) is = help_same m (Lowers slot found) is refl

  link_same : (m : HeldExchange) (x : Exchanging) → (exchange_taken p m told).at ≡ x →
      (hand_at (link_by l on (exchange_taken p m told) x).at).tally.tries ≡ (exchange_taken p m told).hand.tally.tries → Searched (Link m)
  link_same m x is e = inl (ap (λ y. (hand_at (link_by l on (exchange_taken p m told) y).at).tally.tries) is ∙ e)

  link_searched : (m : HeldExchange) (x : Exchanging) → (exchange_taken p m told).at ≡ x → Searched (Link m)
  link_searched m (Ended (Lost found)) is = inr (record {
    exchange = exchange_taken p m told;
    how = Lost found;
    is = refl;
    ended = is;
    tries = ap (λ y. (hand_at (link_by l on (exchange_taken p m told) y).at).tally.tries) is;
    excuse = inl refl;
  })
  link_searched m (Ended Won) is = link_same m (Ended Won) is refl
  link_searched m (Ended (Worn word version)) is = link_same m (Ended (Worn word version)) is refl
  link_searched m Ready is = link_same m Ready is refl
  link_searched m (Tries slot) is = link_same m (Tries slot) is refl
  link_searched m TriesBare is = link_same m TriesBare is refl
  link_searched m WritesBack is = link_same m WritesBack is refl
  link_searched m Withdraws is = link_same m Withdraws is refl
  link_searched m (Lowers slot found) is = link_same m (Lowers slot found) is refl

  mark_same : (m : HeldExchange) (x : Exchanging) → (exchange_taken p m told).at ≡ x →
      (hand_at (mark_by l on (exchange_taken p m told) x).at).tally.tries ≡ (exchange_taken p m told).hand.tally.tries → Searched (Mark m)
  mark_same m x is e = inl (ap (λ y. (hand_at (mark_by l on (exchange_taken p m told) y).at).tally.tries) is ∙ e)

  mark_searched : (m : HeldExchange) (x : Exchanging) → (exchange_taken p m told).at ≡ x → Searched (Mark m)
  mark_searched m (Ended (Lost found)) is = inr (record {
    exchange = exchange_taken p m told;
    how = Lost found;
    is = refl;
    ended = is;
    tries = ap (λ y. (hand_at (mark_by l on (exchange_taken p m told) y).at).tally.tries) is;
    excuse = inl refl;
  })
  mark_searched m (Ended Won) is = mark_same m (Ended Won) is (to_tidy l p free on (exchange_taken p m told).hand).tries
  mark_searched m (Ended (Worn word version)) is = mark_same m (Ended (Worn word version)) is refl
  mark_searched m Ready is = mark_same m Ready is refl
  mark_searched m (Tries slot) is = mark_same m (Tries slot) is refl
  mark_searched m TriesBare is = mark_same m TriesBare is refl
  mark_searched m WritesBack is = mark_same m WritesBack is refl
  mark_searched m Withdraws is = mark_same m Withdraws is refl
  mark_searched m (Lowers slot found) is = mark_same m (Lowers slot found) is refl

  searched : (at : At) → has_ended p (m_at at) ≡ true → Searched at
  searched (Head m) ended = let n = v_load_taken m told in inl (head_loaded l p free on n n.at).tries
  searched (Next m) ended = let n = v_load_taken m told in inl (next_loaded l p free on n n.at).tries
  searched (Key m) ended = let n = v_load_taken m told in inl (key_loaded l p free on n n.at).tries
  searched (Confirming goal which m) ended = let n = confirm_taken p m told in inl (confirmed_so l p free on goal which n).tries
  searched (Help m) ended = help_searched m (exchange_taken p m told).at refl
  searched (Row m) ended = let n = take_taken free m told in inl (row_taken l p free on n n.at).tries
  searched (Words m) ended = let n = store_taken m told in inl (words_stored l p free on (value_put op.call) n n.at).tries
  searched (RowValue m) ended = let n = store_taken m told in inl (value_stored l p free on n n.at).tries
  searched (Link m) ended = link_searched m (exchange_taken p m told).at refl
  searched (Mark m) ended = mark_searched m (exchange_taken p m told).at refl
  searched (Tidy m) ended = let n = exchange_taken p m told in inl (tidied l p free on n n.at).tries
  searched (Value m) ended = let n = v_load_taken m told in inl (value_loaded l p free on n n.at).tries
  searched (Ends m) ended = absurd (and_false (is_none (complete_asked (complete_taken m told))) ended)
  searched (Rests hand) ended = inl refl

  abbrev GoesSo : Tally → Type 0
  GoesSo now = (now.tries ≡ (hand_in (m_at op.at)).tally.tries) ⊎ BeginsSearch (list_crew l p free) l p free (m_at op.at) (hand_in (m_at op.at)).tally now

  pub searches_so : has_ended p (m_at op.at) ≡ true → GoesSo (tally_of (list_anatomy l p free) (resumed l p free op (m_at op.at)))
  searches_so ended = subst GoesSo (sym (ap (λ x. x.tally) (same_hand (next_at op.at)))) (searched op.at ended)
