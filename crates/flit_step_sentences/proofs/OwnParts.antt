-- The workers of a run that has come of a trace's works: their items and their stops.
use Rattle.std.proofs.Common.{◌≡◌, ℕ, zero, suc, ◌+◌, ◌-◌, ◌<◌, ◌≤◌, List, [], ◌∷◌, ◌++◌, map, length, refl, sym, ◌∙◌, ap, arith}
use Rattle.std.proofs.lemmas.List.{map-append, length-map}
use Rattle.std.proofs.lemmas.List.FromFn.{length-map-range_with_len}
use Rattle.std.specs.List.{AllByRecursion, range_with_len}
use Rattle.flit_model.specs.declared.calls.Work.{Work}
use Rattle.flit_model.specs.declared.found.Recovered.{Recovered}
use Rattle.flit_structure.specs.Meanings.{Meaning}
use Rattle.flit_trace.specs.Contents.{Content}
use Rattle.flit_trace.specs.Drafts.{stop_of}
use Rattle.flit_sched.specs.declared.runs.Turn.{Turn}
use Rattle.flit_sched.specs.declared.runs.Turn.TheVariants.{Event as Event_turn, Idle as Idle_turn}
use Rattle.flit_sched.specs.Runs.{Part, Run, IsPart}
use Rattle.flit_sched.specs.Openings.{first_parts, opened_run}
use Rattle.flit_sched.specs.Turns.{IsTurn}
use Rattle.flit_histories.specs.Following.{Given, Follows}
use Rattle.flit_step_reports.specs.StepReports.{AreWorksOf, items_in}

-- what stands at a place, and that there is something
pub there : {X : Type 0} (xs : List X) (i : ℕ) → i < length xs → (a : List X) × (x : X) × (b : List X) × (xs ≡ a ++ x ∷ b) × (length a ≡ i)
there [] i h = absurd (omega (arith, h))
there (x ∷ xs) zero h = ([], x, xs, refl, refl)
there (x ∷ xs) (suc i) h = let r = there xs i (omega (arith, h)) in (x ∷ r.0, r.1, r.2, ap (λ ys. x ∷ ys) r.3, ap suc r.4)

pub all_there : {X : Type 0} (P : X → Type 0) (xs : List X) → ((a : List X) (x : X) (b : List X) → xs ≡ a ++ x ∷ b → P x) → AllByRecursion P xs
all_there P [] h = tt
all_there P (x ∷ xs) h = (h [] x xs refl, all_there P xs (λ a y b is. h (x ∷ a) y b (ap (λ ys. x ∷ ys) is)))

-- a function of the elements that is one of their numbers
pub at_number : {X Y : Type 0} (f : X → Y) (g : ℕ → Y) (n : ℕ) (a b : List X) (x : X) (low : ℕ) → map f (a ++ x ∷ b) ≡ map g (range_with_len low n) →
    (f x ≡ g (low + length a)) × (length a < n)
at_number f g zero [] b x low h = absurd (let none : ⊥ = cc in none)
at_number f g zero (y ∷ a) b x low h = absurd (let none : ⊥ = cc in none)
at_number f g (suc n) [] b x low h = let first : f x ≡ g low = cc in let here : low ≡ low + 0 = omega arith in (first ∙ ap g here, omega arith)
at_number f g (suc n) (y ∷ a) b x low h =
    let rest : map f (a ++ x ∷ b) ≡ map g (range_with_len (low + 1) n) = cc in
    let o = at_number f g n a b x (low + 1) rest in
    let here : (low + 1) + length a ≡ low + suc (length a) = omega arith in
    let less = o.1 in
    (o.0 ∙ ap g here, omega (arith, less))

module _ {Op : Type 0} (meaning : Meaning Op) where
  items_first : (name : ℕ) (works : List Work) → map (λ (p : Part Op). p.items) (first_parts name works) ≡ map (λ w. w.items.items) works
  items_first name [] = refl
  items_first name (w ∷ ws) = ap (λ xs. w.items.items ∷ xs) (items_first (name + 1) ws)

  stops_first : (name : ℕ) (works : List Work) → map (λ (p : Part Op). p.left) (first_parts name works) ≡ map (λ w. w.stop) works
  stops_first name [] = refl
  stops_first name (w ∷ ws) = ap (λ xs. w.stop ∷ xs) (stops_first (name + 1) ws)

  items_turned : (r next : Run Op) (worker : ℕ) (t : Turn) → IsTurn meaning r worker t next → map (λ p. p.items) next.parts ≡ map (λ p. p.items) r.parts
  items_turned r next worker (Event_turn e told) h =
      ap (map (λ (p : Part Op). p.items)) h.parts
      ∙ map-append (λ (p : Part Op). p.items) h.before _
      ∙ sym (map-append (λ (p : Part Op). p.items) h.before (h.part ∷ h.behind))
      ∙ ap (map (λ (p : Part Op). p.items)) (sym h.is.is)
  items_turned r next worker Idle_turn h = ap (λ q. map (λ (p : Part Op). p.items) q.parts) h.same

  items_led : (r next : Run Op) (ts : List Given) → Follows meaning r ts next → map (λ p. p.items) next.parts ≡ map (λ p. p.items) r.parts
  items_led r next [] h = ap (λ q. map (λ (p : Part Op). p.items) q.parts) h
  items_led r next (t ∷ ts) h = items_led h.0 next ts h.2 ∙ items_turned r h.0 t.worker t.turn h.1

  module _ (t : Content) (start : Recovered) (works : List Work) (are : AreWorksOf t works) (final : Run Op) (given : List Given)
      (f : Follows meaning (opened_run meaning start works) given final) where
    all_items : map (λ p. p.items) final.parts ≡ map (items_in t) (range_with_len 1 t.head.layout.workers)
    all_items = items_led (opened_run meaning start works) final given f ∙ items_first 1 works ∙ are.items

    -- there are as many as the trace has workers
    pub parts_long : length final.parts ≡ t.head.layout.workers
    parts_long =
        sym (length-map final.parts (λ (p : Part Op). p.items)) ∙ ap length all_items
        ∙ length-map-range_with_len (items_in t) 1 t.head.layout.workers

    pub part_items : (worker : ℕ) (a : List (Part Op)) (p : Part Op) (b : List (Part Op)) → IsPart final worker a p b → p.items ≡ items_in t worker
    part_items worker a p b at =
        let n = at.number in
        let here : 1 + length a ≡ worker = omega (arith, n) in
        (at_number (λ (q : Part Op). q.items) (items_in t) t.head.layout.workers a b p 1 (ap (map (λ (q : Part Op). q.items)) (sym at.is) ∙ all_items)).0
        ∙ ap (items_in t) here

    pub part_named : (worker : ℕ) (a : List (Part Op)) (p : Part Op) (b : List (Part Op)) → IsPart final worker a p b →
        (1 ≤ worker) × (worker ≤ t.head.layout.workers)
    part_named worker a p b at =
        let n = at.number in
        let o = (at_number (λ (q : Part Op). q.items) (items_in t) t.head.layout.workers a b p 1
        (ap (map (λ (q : Part Op). q.items)) (sym at.is) ∙ all_items)).1 in
        (omega (arith, n), omega (arith, n, o))

    -- each of its workers has a part, and had one at the start, with the stop that the trace says
    pub part_there : (worker : ℕ) → 1 ≤ worker → worker ≤ t.head.layout.workers →
        (a : List (Part Op)) × (p : Part Op) × (b : List (Part Op)) × IsPart final worker a p b
    part_there worker low high =
        let long = parts_long in
        let o = there final.parts (worker - 1) (omega (arith, low, high, long)) in
        let at = o.4 in
        (o.0, o.1, o.2, record { is = o.3; number = omega (arith, at, low) })

    pub first_there : (worker : ℕ) → 1 ≤ worker → worker ≤ t.head.layout.workers →
        (a : List (Part Op)) × (p : Part Op) × (b : List (Part Op)) × IsPart (opened_run meaning start works) worker a p b × (p.left ≡ stop_of t.stops worker)
    first_there worker low high =
        let first = opened_run meaning start works in
        let all : map (λ p. p.left) first.parts ≡ map (stop_of t.stops) (range_with_len 1 t.head.layout.workers) = stops_first 1 works ∙ are.stops in
        let long : length first.parts ≡ t.head.layout.workers =
        sym (length-map first.parts (λ (p : Part Op). p.left)) ∙ ap length all ∙ length-map-range_with_len (stop_of t.stops) 1 t.head.layout.workers in
        let o = there first.parts (worker - 1) (omega (arith, low, high, long)) in
        let at = o.4 in
        let here : 1 + length o.0 ≡ worker = omega (arith, at, low) in (
          o.0,
          o.1,
          o.2,
          record { is = o.3; number = omega (arith, at, low) },
          (at_number (λ (q : Part Op). q.left) (stop_of t.stops) t.head.layout.workers o.0 o.2 o.1 1 (ap (map (λ (q : Part Op). q.left)) (sym o.3) ∙ all)).0
              ∙ ap (stop_of t.stops) here,
        )
