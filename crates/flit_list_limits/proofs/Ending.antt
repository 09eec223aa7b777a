-- A call goes on behind its search, to its answer: the next machine, and all that may follow it, are within what might
-- follow, where a row was taken, words were stored, a value was loaded, and the row that it has marked was unlinked.
use Rattle.std.proofs.Common.{◌≡◌, ℕ, ◌+◌, ◌≤◌, Bool, true, List, length, Some, is_none, refl, sym, ap, subst, arith, if◌then◌else◌}
use Rattle.std.proofs.lemmas.Bool.{false≢true}
use Rattle.std.proofs.lemmas.Option.{none-some, same_Some}
use Rattle.flit_words.specs.declared.layouts.Layout.{Layout}
use Rattle.flit_model.specs.States.{State, word_at}
use Rattle.flit_model.specs.Effects.{after, answer}
use Rattle.flit_model.specs.declared.events.Event.{Event}
use Rattle.flit_model.specs.declared.events.Event.TheVariants.{Draw}
use Rattle.flit_model.specs.declared.calls.Call.{Call}
use Rattle.flit_model.specs.declared.calls.Reply.{Reply}
use Rattle.flit_place.specs.Tags.{Place}
use Rattle.flit_pv.specs.VLoads.{HeldVLoad}
use Rattle.flit_pv.specs.declared.exchanges.Exchanging.{Exchanging}
use Rattle.flit_pv.specs.declared.exchanges.Exchanging.TheVariants.{Ready, Tries, TriesBare, WritesBack, Withdraws, Lowers, Ended}
use Rattle.flit_pv.specs.Exchanges.{HeldExchange, exchange_asks, exchange_asked, exchange_taken}
use Rattle.flit_pv.specs.declared.stores.Storing.{Storing}
use Rattle.flit_pv.specs.declared.stores.Storing.TheVariants.{Reads as Store_reads, MakesRoom as Store_makes_room, Writes, Ended as Store_ended}
use Rattle.flit_pv.specs.declared.stores.Stored.TheVariants.{Stored as All_stored, Worn as Store_worn}
use Rattle.flit_pv.specs.Stores.{HeldStore, store_taken}
use Rattle.flit_pv.specs.Fences.{HeldComplete, complete_asked, complete_taken}
use Rattle.flit_rows.specs.declared.take_row.Took.TheVariants.{Taken, None as NoRow}
use Rattle.flit_rows.specs.declared.take_row.Taking.{Taking}
use Rattle.flit_rows.specs.declared.take_row.Taking.TheVariants.{Draws, Ended as Take_ended}
use Rattle.flit_rows.specs.Taking.{HeldTake, take_asks, take_asked, take_taken}
use Rattle.flit_structure.specs.Meanings.{value_put}
use Rattle.flit_runs.specs.Workings.{Exchanges, Stores}
use Rattle.flit_crew.specs.Machines.{Works, Takes, has_ended}
use Rattle.flit_crew.specs.Crews.{Who}
use Rattle.flit_crew_bounds.specs.Left.{machine_left, exchange_left, take_left, store_left}
use Rattle.flit_crew_bounds.specs.Winning.{would_win_at}
use Rattle.flit_list_steps.specs.declared.operations.Path.{Path}
use Rattle.flit_list_steps.specs.Operations.{At, Row, Words, RowValue, Tidy, Value, Ends, HeldOp}
use Rattle.flit_list_steps.specs.Steps.{Carried, tidy_by, row_by, words_by, row_value_by, value_by, stores, links, stores_value}
use Rattle.flit_list_heap.specs.Keeping.{ListHeap}
use Rattle.flit_list_limits.specs.ListLimits.{unless, still}
use Rattle.flit_list_limits.proofs.Arriving.{total, to_link, to_stored, to_stores}
use Rattle.flit_list_limits.proofs.Again.{again, nothing, same_le, link_again, stored_again}
use Rattle.flit_list_limits.proofs.ListCounts.{and_false}
use Rattle.flit_list_limits.proofs.Resuming.{through, and_left, on, m_at, Own, GoesOn, IsQuiet, load_ends, from_queue}

module _ (l : Layout) (p : Place) (free : List ℕ) (s : State) (e : Event) (h k : ListHeap) (me you : Who) (call : Call) (reply : Reply) (path : Path) where
  abbrev it : Carried
  it = on l p free s e h k me you call reply path

  abbrev Mine : At → Type 0
  Mine at = Own l p free s e h k me you call reply path at

  abbrev Quiet : At → Type 0
  Quiet at = IsQuiet l p free s e h k me you call reply path at

  -- it has ended, and its hand's queue is left
  abbrev Goes : List ℕ → At → ℕ → HeldOp → Type 0
  Goes words at left next = GoesOn l p free s e h k me you call reply path words at left next

  -- it goes on to an answer
  answered : (q b : ℕ) → 0 + q + 0 ≤ 0 + q + b
  answered q b = omega arith

  -- ---- the value is loaded

  pub value_ends : (m : HeldVLoad) → Mine (Value m) → Quiet (Value m)
  value_ends m own = load_ends l p free s e h k me you call reply path (Value m) m
      (λ n. value_by it n n.at) own.asks
      (λ is. record { within = answered (length m.hand.queue) 0; again = nothing 0 })

  -- ---- the marked row is unlinked

  tidy_at : (m n : HeldExchange) (x : Exchanging) → n.at ≡ x → is_none (exchange_asks p x n) ≡ true →
      Goes (after s e).words (Tidy m) (machine_left (Works (Exchanges n))) (tidy_by it n x)
  tidy_at m n Ready is none = absurd (false≢true none)
  tidy_at m n (Tries slot) is none = absurd (false≢true none)
  tidy_at m n TriesBare is none = absurd (false≢true none)
  tidy_at m n WritesBack is none = absurd (false≢true none)
  tidy_at m n Withdraws is none = absurd (false≢true none)
  tidy_at m n (Lowers slot found) is none = absurd (false≢true none)
  tidy_at m n (Ended how) is none = record {
    within = subst (λ x. 0 + length n.hand.queue + 0 ≤ exchange_left x + length n.hand.queue + 0) (sym is) (answered (length n.hand.queue) 0);
    again = nothing 0;
  }

  pub tidy_ends : (m : HeldExchange) → has_ended p (m_at l p free s e h k me you call reply path (Tidy m)) ≡ true → Quiet (Tidy m)
  tidy_ends m ended = let n : HeldExchange = exchange_taken p m (answer s e) in
      tidy_at m n n.at refl (and_left (is_none (exchange_asked p n)) true ended)

  -- ---- a row is taken

  abbrev pred_again : List ℕ → ℕ
  pred_again words = unless (still p words path.pred)

  draws_of : (m : HeldTake) (x : Taking) → m.at ≡ x → take_asks x ≡ Some e → Some Draw ≡ Some e
  draws_of m Draws is q = q
  draws_of m (Take_ended took) is q = absurd (none-some e q)

  row_at_end : (m n : HeldTake) (x : Taking) → n.at ≡ x → is_none (take_asks x) ≡ true →
      Goes s.words (Row m) (machine_left (Takes n)) (row_by l it n x)
  row_at_end m n Draws is none = absurd (false≢true none)
  row_at_end m n (Take_ended Taken) is none = record {
    within = subst (λ x. total l p free s.words (stores l it n.hand)
        ≤ take_left x n.need n.hand.spare + length n.hand.queue + 13) (sym is)
        (from_queue l p free s e h k me you call reply path (total l p free s.words (stores l it n.hand))
        (length n.hand.queue) 13 13 (to_stores l p free s.words it n.hand) (omega arith));
    again = same_le (pred_again s.words) (pred_again s.words) refl;
  }
  row_at_end m n (Take_ended (NoRow ticket)) is none = record {
    within = subst (λ x. 0 + length n.hand.queue + 0 ≤ take_left x n.need n.hand.spare + length n.hand.queue + 13) (sym is)
        (answered (length n.hand.queue) 13);
    again = nothing (pred_again s.words);
  }

  pub row_ends : (m : HeldTake) → Mine (Row m) → has_ended p (m_at l p free s e h k me you call reply path (Row m)) ≡ true → Quiet (Row m)
  row_ends m own ended =
      let n : HeldTake = take_taken free m (answer s e) in
      subst (λ ws. Goes ws (Row m) (machine_left (Takes n)) (row_by l it n n.at))
      (subst (λ y. s.words ≡ (after s y).words) (same_Some Draw e (draws_of m m.at refl own.asks)) refl)
      (row_at_end m n n.at refl (and_left (is_none (take_asked n)) true ended))

  -- ---- its words are stored, and none of them is the link behind which the row belongs

  abbrev PredStays : Type 0
  PredStays = word_at (after s e) path.pred.word ≡ word_at s path.pred.word

  pred_same : PredStays → pred_again (after s e).words ≤ pred_again s.words
  pred_same stays = same_le (pred_again (after s e).words) (pred_again s.words)
      (ap (λ now. unless (would_win_at (p.slot path.pred.word) now path.pred.raw)) stays)

  stays_on : (q b : ℕ) → q + b ≤ q + b
  stays_on q b = omega arith

  words_at : (m n : HeldStore) (x : Storing) → n.at ≡ x → PredStays →
      Goes (after s e).words (Words m) (machine_left (Works (Stores n))) (words_by l it (value_put call) n x)
  words_at m n (Store_reads how) is stays = record { within = stays_on (machine_left (Works (Stores n))) 7; again = pred_same stays }
  words_at m n (Writes next) is stays = record { within = stays_on (machine_left (Works (Stores n))) 7; again = pred_same stays }
  words_at m n (Store_makes_room next first) is stays = record { within = stays_on (machine_left (Works (Stores n))) 7; again = pred_same stays }
  words_at m n (Store_ended All_stored) is stays = by_values l.values
    where
      by_values : (b : Bool) → Goes (after s e).words (Words m) (machine_left (Works (Stores n)))
          (if b then stores_value l it n.hand (value_put call) else links l it n.hand)
      by_values b =
          let next : HeldOp = (if b then stores_value l it n.hand (value_put call) else links l it n.hand) in
          record {
            within = subst (λ x. total l p free (after s e).words next ≤ store_left x n.drafts + length n.hand.queue + 7) (sym is)
                (from_queue l p free s e h k me you call reply path (total l p free (after s e).words next) (length n.hand.queue) 7 7
                (to_stored l p free (after s e).words it n.hand (value_put call) b) (omega arith));
            again = through (again l p free (after s e).words next) (pred_again (after s e).words) (pred_again s.words)
                (stored_again l p free (after s e).words it n.hand (value_put call) b) (pred_same stays);
          }
  words_at m n (Store_ended (Store_worn word version)) is stays = record {
    within = subst (λ x. 0 + length n.hand.queue + 0 ≤ store_left x n.drafts + length n.hand.queue + 7) (sym is) (answered (length n.hand.queue) 7);
    again = nothing (pred_again s.words);
  }

  pub words_end : (m : HeldStore) → PredStays → Quiet (Words m)
  words_end m stays = let n : HeldStore = store_taken m (answer s e) in words_at m n n.at refl stays

  value_at : (m n : HeldStore) (x : Storing) → n.at ≡ x → PredStays →
      Goes (after s e).words (RowValue m) (machine_left (Works (Stores n))) (row_value_by l it n x)
  value_at m n (Store_reads how) is stays = record { within = stays_on (machine_left (Works (Stores n))) 4; again = pred_same stays }
  value_at m n (Writes next) is stays = record { within = stays_on (machine_left (Works (Stores n))) 4; again = pred_same stays }
  value_at m n (Store_makes_room next first) is stays = record { within = stays_on (machine_left (Works (Stores n))) 4; again = pred_same stays }
  value_at m n (Store_ended All_stored) is stays =
      let next : HeldOp = links l it n.hand in
      record {
        within = subst (λ x. total l p free (after s e).words next ≤ store_left x n.drafts + length n.hand.queue + 4) (sym is)
            (from_queue l p free s e h k me you call reply path (total l p free (after s e).words next) (length n.hand.queue) 4 4
            (to_link l p free (after s e).words it n.hand) (omega arith));
        again = through (again l p free (after s e).words next) (pred_again (after s e).words) (pred_again s.words)
            (link_again l p free (after s e).words it n.hand) (pred_same stays);
      }
  value_at m n (Store_ended (Store_worn word version)) is stays = record {
    within = subst (λ x. 0 + length n.hand.queue + 0 ≤ store_left x n.drafts + length n.hand.queue + 4) (sym is) (answered (length n.hand.queue) 4);
    again = nothing (pred_again s.words);
  }

  pub row_value_ends : (m : HeldStore) → PredStays → Quiet (RowValue m)
  row_value_ends m stays = let n : HeldStore = store_taken m (answer s e) in value_at m n n.at refl stays

  -- ---- the last machine stays where it has ended

  pub ends_never : (m : HeldComplete) → has_ended p (m_at l p free s e h k me you call reply path (Ends m)) ≡ true → ⊥
  ends_never m ended = and_false (is_none (complete_asked (complete_taken m (answer s e)))) ended
