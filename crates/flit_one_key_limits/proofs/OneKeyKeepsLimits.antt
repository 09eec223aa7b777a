-- The bounds of a call are kept: all that may follow its machines, and the events of each try.
use Rattle.std.proofs.Common.{◌≡◌, ◌⊎◌, inl, inr, ⊎_elim, ℕ, ◌+◌, ◌-◌, ◌≤◌, true, List, length, refl, sym, ◌∙◌, ap, arith}
use Rattle.flit_words.specs.declared.layouts.Layout.{Layout}
use Rattle.flit_model.specs.States.{State}
use Rattle.flit_model.specs.Effects.{after}
use Rattle.flit_model.specs.declared.events.Event.{Event}
use Rattle.flit_place.specs.Tags.{Place}
use Rattle.flit_pv.specs.Hands.{more}
use Rattle.flit_pv.specs.declared.exchanges.Exchanged.TheVariants.{Lost}
use Rattle.flit_crew.specs.Machines.{Machine, hand_in, has_ended}
use Rattle.flit_crew.specs.Heaps.{Heap}
use Rattle.flit_crew.specs.Crews.{Crew, Who}
use Rattle.flit_crew_bounds.specs.Left.{machine_left, exchange_left}
use Rattle.flit_crew_bounds.specs.Counting.{tally_of}
use Rattle.flit_crew_bounds.specs.Bounding.{Limits, OwnEvent, BeginsSearch, KeepsTries, KeepsLimits, taken_by}
use Rattle.flit_one_key.specs.Operations.{At, Head, Key, Value, Row, Words, RowValue, Link, Ends, Rests, HeldOp}
use Rattle.flit_one_key.specs.Steps.{IsSmall, hand_at}
use Rattle.flit_one_key_crew.specs.OneKeyAnatomy.{machine_at, with_machine_at, resumed, one_key_anatomy}
use Rattle.flit_one_key_crew.specs.OneKeyCrew.{one_key_crew}
use Rattle.flit_one_key_limits.specs.OneKeyLimits.{rest_at, again_at, one_key_limits, OneKeyIsBounded}
use Rattle.flit_one_key_limits.proofs.OneKeyCounts.{same_hand, one_key_counts}
use Rattle.flit_one_key_limits.proofs.OneKeyBounds.{IsQuiet, IsLost, outcome, rest_same, again_runs}

rest_most : (at : At) → rest_at at ≤ 18
rest_most (Head m) = omega arith
rest_most (Key head m) = omega arith
rest_most (Value m) = omega arith
rest_most (Row head m) = omega arith
rest_most (Words head m) = omega arith
rest_most (RowValue head m) = omega arith
rest_most (Link m) = omega arith
rest_most (Ends m) = omega arith
rest_most (Rests hand) = omega arith

module _ (l : Layout) (p : Place) (free : List ℕ) (small : IsSmall l) where
  abbrev C : Crew (Unit {0}) HeldOp
  C = one_key_crew l free

  abbrev L : Limits HeldOp
  L = one_key_limits l p free

  module _ (s : State) (e : Event) (h k : Heap (Unit {0})) (me you : Who) (op : HeldOp) (own : OwnEvent C l p free s e h k me you op) where
    abbrev m : Machine
    m = taken_by C l p free s e op

    abbrev next : HeldOp
    next = resumed l free op m

    runs : rest_at (with_machine_at op.at m) + again_at (after s e).words (with_machine_at op.at m) ≤ rest_at op.at + again_at s.words op.at
    runs = both (rest_at (with_machine_at op.at m)) (rest_at op.at) (again_at (after s e).words (with_machine_at op.at m)) (again_at s.words op.at)
        (rest_same l p free small s e h k me you op op.at) (again_runs l p free small s e h k me you op op.at own)
      where
        both : (a b x y : ℕ) → a ≡ b → x ≤ y → a + x ≤ b + y
        both a b x y e h = omega (arith, e, h)

    over : has_ended p m ≡ true → IsQuiet l p free small s e h k me you op op.at ⊎ IsLost l p free small s e h k me you op op.at
    over ended = outcome l p free small s e h k me you op op.at own ended

    -- where an exchange was lost, nothing is queued
    lost_left : (x : IsLost l p free small s e h k me you op op.at) → (machine_left (machine_at next.at) ≡ 3) × (machine_left m ≡ 0)
    lost_left x = (
      ap (λ y. machine_left (machine_at y)) x.next ∙ three (length x.exchange.hand.queue) empty,
      ap machine_left x.is ∙ ap (λ y. exchange_left y + length x.exchange.hand.queue) x.ended ∙ none (length x.exchange.hand.queue) empty,
    )
      where
        empty : length x.exchange.hand.queue ≡ 0
        empty = ap length (own.unqueued x.exchange (Lost x.found) x.is x.ended)

        three : (q : ℕ) → q ≡ 0 → 3 + q ≡ 3
        three q e = omega (arith, e)

        none : (q : ℕ) → q ≡ 0 → 0 + q ≡ 0
        none q e = omega (arith, e)

    resumes : has_ended p m ≡ true → machine_left (machine_at next.at) + (rest_at next.at + again_at (after s e).words next.at)
        ≤ machine_left m + (rest_at op.at + again_at s.words op.at)
    resumes ended = ⊎_elim
        (λ x. quiet (machine_left (machine_at next.at)) (rest_at next.at) (again_at (after s e).words next.at) (machine_left m) (rest_at op.at)
        (again_at s.words op.at) x.left x.again)
        (λ x. lost (machine_left (machine_at next.at)) (rest_at next.at) (again_at (after s e).words next.at) (machine_left m) (rest_at op.at)
        (again_at s.words op.at) (lost_left x).0 (ap rest_at x.next) (ap (again_at (after s e).words) x.next) x.more) (over ended)
      where
        quiet : (a r g m s b : ℕ) → a + r ≤ m + s → g ≤ b → a + (r + g) ≤ m + (s + b)
        quiet a r g m s b h i = omega (arith, h, i)

        lost : (a r g m s b : ℕ) → a ≡ 3 → r ≡ 15 → g ≡ 0 → 18 ≤ b → a + (r + g) ≤ m + (s + b)
        lost a r g m s b e f d h = omega (arith, e, f, d, h)

    tally_is : (tally_of (one_key_anatomy l free) next).tries ≡ (hand_at next.at).tally.tries
    tally_is = ap (λ x. x.tally.tries) (same_hand next.at)

    searches : has_ended p m ≡ true → ((tally_of (one_key_anatomy l free) next).tries ≡ (hand_in m).tally.tries)
        ⊎ BeginsSearch C l p free m (hand_in m).tally (tally_of (one_key_anatomy l free) next)
    searches ended = ⊎_elim (λ x. inl (tally_is ∙ x.tries)) (λ x. inr (record {
      exchange = x.exchange;
      how = Lost x.found;
      is = x.is;
      ended = x.ended;
      tries = begun x;
      excuse = inl refl;
    })) (over ended)
      where
        begun : (x : IsLost l p free small s e h k me you op op.at) → (tally_of (one_key_anatomy l free) next).tries ≡ more (hand_in m).tally.tries
        begun x = ap (λ y. (hand_in (machine_at y)).tally.tries) x.next ∙ sym (ap (λ y. more (hand_in y).tally.tries) x.is)

    tried : has_ended p m ≡ true → (machine_left (machine_at next.at) + (18 - rest_at op.at) ≤ machine_left m + (18 - rest_at next.at))
        ⊎ ((machine_left (machine_at next.at) ≤ 18 - rest_at next.at) × ((tally_of (one_key_anatomy l free) next).tries ≡ more (hand_in m).tally.tries))
    tried ended = ⊎_elim
        (λ x. inl (quiet (machine_left (machine_at next.at)) (rest_at next.at) (machine_left m) (rest_at op.at) x.left (rest_most next.at) (rest_most op.at)))
        (λ x. inr (
          lost (machine_left (machine_at next.at)) (rest_at next.at) (lost_left x).0 (ap rest_at x.next),
          ap (λ y. (hand_in (machine_at y)).tally.tries) x.next ∙ sym (ap (λ y. more (hand_in y).tally.tries) x.is),
        )) (over ended)
      where
        quiet : (a r m s : ℕ) → a + r ≤ m + s → r ≤ 18 → s ≤ 18 → a + (18 - s) ≤ m + (18 - r)
        quiet a r m s h i j = omega (arith, h, i, j)

        lost : (a r : ℕ) → a ≡ 3 → r ≡ 15 → a ≤ 18 - r
        lost a r e f = omega (arith, e, f)

  one_key_tries : KeepsTries C l p free L 18
  one_key_tries = record {
    begins = λ h me hand kept served empty knows. first (length hand.queue) (ap length empty);
    runs = λ s e h k me you op own going. same_le (18 - rest_at op.at) (18 - rest_at (with_machine_at op.at (taken_by C l p free s e op)))
        (ap (λ n. 18 - n) (rest_same l p free small s e h k me you op op.at));
    resumes = λ s e h k me you op own ended. tried s e h k me you op own ended;
    lasts = λ h k me you op x. same_le (18 - rest_at op.at) (18 - rest_at op.at) refl;
    within = λ h me op kept few knows. less (rest_at op.at);
  }
    where
      first : (q : ℕ) → q ≡ 0 → 3 + q ≤ 18 - 15
      first q e = omega (arith, e)

      same_le : (a b : ℕ) → b ≡ a → a ≤ b
      same_le a b e = omega (arith, e)

      less : (n : ℕ) → 18 - n ≤ 18
      less n = omega arith

  pub one_key_bounds : KeepsLimits C l p free L
  one_key_bounds = record {
    runs = λ s e h k me you op own going. runs s e h k me you op own;
    resumes = λ s e h k me you op own ended. resumes s e h k me you op own ended;
    searches = λ s e h k me you op own ended. searches s e h k me you op own ended;
    tries = one_key_tries;
  }

pub one_key_is_bounded : OneKeyIsBounded
one_key_is_bounded = record { counts = one_key_counts; limits = one_key_bounds }
