-- What one event of a machine makes of its hand: its counts, and its spare rows.
use Rattle.std.proofs.Common.{◌≡◌, ◌≢◌, ◌⊎◌, inl, inr, ⊎_elim, ℕ, ◌==◌, Bool, true, false, List, [], ◌∷◌, Option, Some, None, refl, sym, ◌∙◌, subst, arith, if◌then◌else◌}
use Rattle.std.specs.Prelude.{Contains, slice_get}
use Rattle.std.proofs.lemmas.Bool.{eqb-true}
use Rattle.std.proofs.lemmas.List.Elements.{Contains-append_left, Contains-append_right, Contains-append_cases, Contains-push, Contains-push_cases}
use Rattle.flit_model.specs.declared.calls.Tally.{Tally}
use Rattle.flit_place.specs.Tags.{Place}
use Rattle.flit_pv.specs.Tallies.{Tallies, GoesOn}
use Rattle.flit_pv.proofs.OneEvent.{goes_same, tallies_same, load_goes_on, v_load_goes_on, confirm_goes_on, exchange_goes_on, v_exchange_goes_on, store_goes_further, fence_goes_on, complete_goes_on, evict_goes_on}
use Rattle.flit_rows.specs.declared.take_row.Taking.{Taking}
use Rattle.flit_rows.specs.declared.take_row.Taking.TheVariants.{Draws, Ended as Take_ended}
use Rattle.flit_rows.specs.Taking.{HeldTake, take_takes, filled, with_row}
use Rattle.flit_runs.specs.Workings as run
use Rattle.flit_runs.specs.Workings.{Working, Idles, Loads, VLoads, Confirms, Exchanges, VExchanges, Stores, Fences, Completes, Evicts}
use Rattle.flit_structure.specs.Lawful.{AreSpareIn}
use Rattle.flit_crew.specs.Machines.{Machine, Works, Takes, machine_takes, hand_of, hand_in}

pub working_goes : (p : Place) (w : Working) (told : ℕ) → GoesOn (hand_of w) (hand_of (run.takes p w told))
working_goes p (Idles hand) told = goes_same hand
working_goes p (Loads m) told = load_goes_on p m told
working_goes p (VLoads m) told = v_load_goes_on m told
working_goes p (Confirms m) told = confirm_goes_on p m told
working_goes p (Exchanges m) told = exchange_goes_on p m told
working_goes p (VExchanges m) told = v_exchange_goes_on m told
working_goes p (Stores m) told = store_goes_further m told
working_goes p (Fences m) told = fence_goes_on m told
working_goes p (Completes m) told = complete_goes_on m told
working_goes p (Evicts m) told = evict_goes_on m told

-- what a machine's event makes of a tally: helps and searches are none of its matter
pub record Tallied (was now : Tally) : Type 0 where
  pub counts : Tallies was now
  pub helped : now.helped ≡ was.helped
  pub tries : now.tries ≡ was.tries

drawn_tally : (free : List ℕ) (m : HeldTake) (told : ℕ) (at : Taking) → (take_takes free at m told).hand.tally ≡ m.hand.tally
drawn_tally free m told Draws = refl
drawn_tally free m told (Take_ended took) = refl

pub machine_tallied : (p : Place) (free : List ℕ) (m : Machine) (told : ℕ) → Tallied (hand_in m).tally (hand_in (machine_takes p free m told)).tally
machine_tallied p free (Works w) told =
    let g = working_goes p w told in
    record { counts = g.tally; helped = g.helped; tries = g.tries }
machine_tallied p free (Takes m) told = subst (Tallied m.hand.tally) (sym (drawn_tally free m told m.at))
    (record { counts = tallies_same m.hand.tally; helped = refl; tries = refl })

-- ---- spare rows

head_in : (x : ℕ) (xs : List ℕ) → Contains (x ∷ xs) x
head_in x xs = Contains-append_left (x ∷ []) xs x (Contains-push [] x)

none_in : (x : ℕ) → Contains [] x → ⊥
none_in x h = absurd (omega (arith, h.1))

one_in : (r x : ℕ) → Contains (r ∷ []) x → r ≡ x
one_in r x k = ⊎_elim (λ n. absurd (none_in x n)) (λ e. e) (Contains-push_cases [] r x k)

filled_one : (row x r : ℕ) (rs : List ℕ) (b : Bool) → (r == 0) ≡ b → x ≢ 0 → (Contains rs x → Contains (filled row rs) x) →
    Contains (r ∷ []) x ⊎ Contains rs x → Contains (if b then row ∷ rs else r ∷ filled row rs) x
filled_one row x r rs true e some rec (inl k) = absurd (some (sym (one_in r x k) ∙ eqb-true r 0 e))
filled_one row x r rs true e some rec (inr k) = Contains-append_right (row ∷ []) rs x k
filled_one row x r rs false e some rec (inl k) = subst (λ y. Contains (r ∷ filled row rs) y) (one_in r x k) (head_in r (filled row rs))
filled_one row x r rs false e some rec (inr k) = Contains-append_right (r ∷ []) (filled row rs) x (rec k)

filled_stays : (row x : ℕ) (spare : List ℕ) → x ≢ 0 → Contains spare x → Contains (filled row spare) x
filled_stays row x [] some h = absurd (none_in x h)
filled_stays row x (r ∷ rs) some h = filled_one row x r rs (r == 0) refl some (filled_stays row x rs some) (Contains-append_cases (r ∷ []) rs x h)

with_row_stays : (o : Option ℕ) (x : ℕ) (spare : List ℕ) → x ≢ 0 → Contains spare x → Contains (with_row o spare) x
with_row_stays None x spare some h = h
with_row_stays (Some row) x spare some h = filled_stays row x spare some h

drawn_spare : (free : List ℕ) (m : HeldTake) (told : ℕ) (at : Taking) → AreSpareIn (take_takes free at m told).hand m.hand
drawn_spare free m told Draws row some h = with_row_stays (slice_get free told) row m.hand.spare some h
drawn_spare free m told (Take_ended took) row some h = h

-- no event of a machine takes a row from its hand
pub machine_spare : (p : Place) (free : List ℕ) (m : Machine) (told : ℕ) → AreSpareIn (hand_in (machine_takes p free m told)) (hand_in m)
machine_spare p free (Works w) told row some h = subst (λ xs. Contains xs row) (sym (working_goes p w told).spare) h
machine_spare p free (Takes m) told row some h = drawn_spare free m told m.at row some h
