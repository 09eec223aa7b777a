-- The events of a try are bounded by the keys that are known, and so by the rows of the layout.
use Rattle.std.proofs.Common.{◌≡◌, ◌⊎◌, inl, inr, ⊎_elim, ℕ, ◌+◌, ◌-◌, ◌*◌, ◌≤◌, Bool, true, false, List, [], length, Some, sym, ◌∙◌, ap, subst, arith, if◌then◌else◌}
use Rattle.std.proofs.lemmas.Option.{none-some}
use Rattle.flit_words.specs.declared.layouts.Layout.{Layout}
use Rattle.flit_model.specs.States.{State}
use Rattle.flit_model.specs.Effects.{answer}
use Rattle.flit_model.specs.declared.events.Event.{Event}
use Rattle.flit_place.specs.Tags.{Place}
use Rattle.flit_pv.specs.declared.hands.Hand.{Hand}
use Rattle.flit_pv.specs.Hands.{more}
use Rattle.flit_pv.specs.Exchanges.{HeldExchange, exchange_asks, exchange_taken}
use Rattle.flit_pv.specs.declared.exchanges.Exchanging.{Exchanging}
use Rattle.flit_pv.specs.declared.exchanges.Exchanging.TheVariants.{Ready, Tries, TriesBare, WritesBack, Withdraws, Lowers, Ended}
use Rattle.flit_pv.specs.declared.exchanges.Exchanged.TheVariants.{Lost}
use Rattle.flit_structure.specs.Moments.{made}
use Rattle.flit_structure.specs.Lawful.{rows_needed}
use Rattle.flit_crew.specs.Machines.{Machine, machine_asks, machine_takes, hand_in, has_ended, exchange_part}
use Rattle.flit_crew.specs.Accounts.{inserts_in}
use Rattle.flit_crew.specs.Crews.{Crew, Who}
use Rattle.flit_crew_bounds.specs.Left.{machine_left}
use Rattle.flit_crew_bounds.specs.Counting.{tally_of}
use Rattle.flit_crew_bounds.specs.Bounding.{View, view_of, OwnEvent, OthersEvent, KeepsTries, taken_by}
use Rattle.flit_list_steps.specs.declared.operations.Path.{Path}
use Rattle.flit_list_steps.specs.Operations.{At, Head, Next, Key, Confirming, Help, Row, Words, RowValue, Link, Mark, Tidy, Value, Ends, Rests, HeldOp}
use Rattle.flit_list_heap.specs.Keeping.{ListHeap, Kept}
use Rattle.flit_list_laws.specs.ListAnatomy.{machine_at, with_machine_at, with_machine, resumed}
use Rattle.flit_list_laws.specs.ListCrew.{Knows, list_crew, IsOfLists}
use Rattle.flit_list_limits.specs.ListLimits.{rest_by}
use Rattle.flit_list_limits.proofs.Limiting.{lists_keep_limits}
use Rattle.flit_list_tries.specs.ListTries.{all_known, keys_left, is_over, help_left, try_left, whole_try, list_allowed, list_limits}
use Rattle.flit_list_tries.specs.Laws.{ListsKeepTries, ListsKeepBounds}
use Rattle.flit_list_tries.proofs.Keys.{known_most}
use Rattle.flit_list_tries.proofs.Outcomes.{IsPaid, IsLost, outcome}
use Rattle.flit_list_tries.proofs.Growing.{help_most, left_less, left_most, grows}

-- ---- a machine that runs on: as much is left, or less

module _ (l : Layout) (p : Place) (free : List ℕ) (v : View) (path : Path) (e : Event) (told : ℕ) where
  abbrev over_left : Exchanging → ℕ
  over_left at = help_left l free v (is_over (exchange_part at)) path

  same_le : (n : ℕ) → n ≤ n
  same_le n = omega arith

  -- an exchange that is over stays so
  help_runs : (hand : Hand) (word from to : ℕ) (at : Exchanging) → let m : HeldExchange = record { hand = hand; word = word; from = from; to = to; at = at } in
      exchange_asks p at m ≡ Some e → over_left (exchange_taken p m told).at ≤ over_left at
  help_runs hand word from to Ready asks =
      help_most l free v (is_over (exchange_part (exchange_taken p (record { hand = hand; word = word; from = from; to = to; at = Ready }) told).at)) path
  help_runs hand word from to (Tries slot) asks =
      help_most l free v (is_over (exchange_part (exchange_taken p (record { hand = hand; word = word; from = from; to = to; at = Tries slot }) told).at)) path
  help_runs hand word from to TriesBare asks =
      help_most l free v (is_over (exchange_part (exchange_taken p (record { hand = hand; word = word; from = from; to = to; at = TriesBare }) told).at)) path
  help_runs hand word from to WritesBack asks = same_le _
  help_runs hand word from to Withdraws asks =
      help_most l free v (is_over (exchange_part (exchange_taken p (record { hand = hand; word = word; from = from; to = to; at = Withdraws }) told).at)) path
  help_runs hand word from to (Lowers slot found) asks = same_le _
  help_runs hand word from to (Ended how) asks = absurd (none-some e asks)

  abbrev m_at : At → Machine
  m_at at = machine_takes p free (machine_at at) told

  pub runs_on : (at : At) → machine_asks p (machine_at at) ≡ Some e → try_left l free v path (with_machine_at at (m_at at)) ≤ try_left l free v path at
  runs_on (Head m) asks = same_le _
  runs_on (Next m) asks = same_le _
  runs_on (Key m) asks = same_le _
  runs_on (Confirming goal which m) asks = same_le _
  runs_on (Help m) asks = help_runs m.hand m.word m.from m.to m.at asks
  runs_on (Row m) asks = same_le _
  runs_on (Words m) asks = same_le _
  runs_on (RowValue m) asks = same_le _
  runs_on (Link m) asks = same_le _
  runs_on (Mark m) asks = same_le _
  runs_on (Tidy m) asks = same_le _
  runs_on (Value m) asks = same_le _
  runs_on (Ends m) asks = same_le _
  runs_on (Rests hand) asks = same_le _

-- ---- an event of the call's own

module _ (l : Layout) (p : Place) (free : List ℕ) (lists : IsOfLists l) where
  abbrev C : Crew (ℕ → Bool) HeldOp
  C = list_crew l p free

  abbrev allowed : ListHeap → HeldOp → ℕ
  allowed h op = list_allowed l free (view_of h) op

  through : (a b c : ℕ) → a ≤ b → b ≤ c → a ≤ c
  through a b c i j = omega (arith, i, j)

  lasts : (h k : ListHeap) (me you : Who) (op : HeldOp) → OthersEvent C l p free h k me you op → allowed h op ≤ allowed k op
  lasts h k me you op x = grows l free h k x.kept_now x.passes you op.reply op.path x.knows_now.walk x.knows_now.next op.at x.knows_now.at

  module _ (s : State) (e : Event) (h k : ListHeap) (me you : Who) (op : HeldOp) (own : OwnEvent C l p free s e h k me you op) where
    abbrev m : Machine
    m = taken_by C l p free s e op

    abbrev further : HeldOp
    further = with_machine op m

    abbrev next : HeldOp
    next = resumed l p free op m

    abbrev gone : Bool → HeldOp
    gone b = if b then resumed l p free op m else with_machine op m

    then_grows : (then_op : HeldOp) → Knows l k you then_op → allowed h then_op ≤ allowed k then_op
    then_grows then_op f = grows l free h k own.kept_now own.passes you then_op.reply then_op.path f.walk f.next then_op.at f.at

    runs : has_ended p m ≡ false → allowed h op ≤ allowed k further
    runs going = through (allowed h op) (allowed h further) (allowed k further)
        (less (whole_try l free (view_of h)) (try_left l free (view_of h) op.path further.at) (try_left l free (view_of h) op.path op.at)
        (runs_on l p free (view_of h) op.path e (answer s e) op.at own.asks))
        (then_grows further (subst (λ b. Knows l k you (gone b)) going own.knows_now))
      where
        less : (n a b : ℕ) → a ≤ b → n - b ≤ n - a
        less n a b i = omega (arith, i)

    over : has_ended p m ≡ true → IsPaid l p free lists h own.kept me op e (answer s e) op.at ⊎ IsLost l p free lists h own.kept me op e (answer s e) op.at
    over ended = outcome l p free lists h own.kept me op e (answer s e) own.knows.walk own.knows.next op.at own.asks own.knows.at ended

    paid : has_ended p m ≡ true → IsPaid l p free lists h own.kept me op e (answer s e) op.at →
        machine_left (machine_at next.at) + allowed h op ≤ machine_left m + allowed k next
    paid ended x = sums (machine_left (machine_at next.at)) (rest_by (all_known l free (view_of h)) (keys_left l free (view_of h)) next.path next.at)
        (try_left l free (view_of h) next.path next.at) (machine_left m) (try_left l free (view_of h) op.path op.at) (whole_try l free (view_of h))
        (allowed k next) x (left_less l free (view_of h) next.path next.at) (left_most l free (view_of h) op.path op.at)
        (left_most l free (view_of h) next.path next.at)
        (then_grows next (subst (λ b. Knows l k you (gone b)) ended own.knows_now))
      where
        sums : (a f r q t n y : ℕ) → a + f ≤ q + t → r ≤ f → t ≤ n → r ≤ n → n - r ≤ y → a + (n - t) ≤ q + y
        sums a f r q t n y i j g b z = omega (arith, i, j, g, b, z)

    -- where an exchange was lost, nothing is queued
    abbrev Lost_at : Type 0
    Lost_at = IsLost l p free lists h own.kept me op e (answer s e) op.at

    searched : Lost_at → (machine_left (machine_at next.at) ≤ allowed k next) × ((tally_of C.anatomy next).tries ≡ more (hand_in m).tally.tries)
    searched x = (
      subst (λ y. machine_left (machine_at y.at) ≤ allowed k y) (sym x.next) (first (length x.exchange.hand.queue)
          (all_known l free (view_of k)) (ap length (own.unqueued x.exchange (Lost x.found) x.is x.ended))),
      ap (λ y. (hand_in (machine_at y.at)).tally.tries) x.next ∙ sym (ap (λ y. more (hand_in y).tally.tries) x.is),
    )
      where
        first : (q n : ℕ) → q ≡ 0 → 1 + q ≤ (7 * n + 20) - (7 * n + 17)
        first q n e = omega (arith, e)

    resumes : has_ended p m ≡ true → (machine_left (machine_at next.at) + allowed h op ≤ machine_left m + allowed k next)
        ⊎ ((machine_left (machine_at next.at) ≤ allowed k next) × ((tally_of C.anatomy next).tries ≡ more (hand_in m).tally.tries))
    resumes ended = ⊎_elim (λ x. inl (paid ended x)) (λ x. inr (searched x)) (over ended)

  within : (h : ListHeap) (op : HeldOp) → Kept l free h → rows_needed l.kind * inserts_in (made h.progress) ≤ length free → allowed h op ≤ 10 * l.rows + 40
  within h op kept room = most (all_known l free (view_of h)) (try_left l free (view_of h) op.path op.at) l.rows (known_most l free lists h kept room)
    where
      most : (n t r : ℕ) → n ≤ r → (7 * n + 20) - t ≤ 10 * r + 40
      most n t r i = omega (arith, i)

  begins : (h : ListHeap) (hand : Hand) → hand.queue ≡ [] → 1 + length hand.queue ≤ (7 * all_known l free (view_of h) + 20) - (7 * all_known l free (view_of h) + 17)
  begins h hand empty = first (length hand.queue) (all_known l free (view_of h)) (ap length empty)
    where
      first : (q n : ℕ) → q ≡ 0 → 1 + q ≤ (7 * n + 20) - (7 * n + 17)
      first q n e = omega (arith, e)

  pub tries_kept : KeepsTries C l p free (list_limits l p free) (10 * l.rows + 40)
  tries_kept = record {
    begins = λ h me hand kept served empty knows. begins h hand empty;
    runs = λ s e h k me you op own going. runs s e h k me you op own going;
    resumes = λ s e h k me you op own ended. resumes s e h k me you op own ended;
    lasts = λ h k me you op x. lasts h k me you op x;
    within = λ h me op kept room knows. within h op kept room;
  }

pub lists_keep_tries : ListsKeepTries
lists_keep_tries = record { tries = λ l p free lists. tries_kept l p free lists }

pub lists_keep_bounds : ListsKeepBounds
lists_keep_bounds = record {
  limits = λ l p free lists. lists_keep_limits.limits l p free (Some (10 * l.rows + 40)) (λ v op. list_allowed l free v op) (tries_kept l p free lists);
}
