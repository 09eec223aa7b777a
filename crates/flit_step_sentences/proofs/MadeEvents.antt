-- The events of turns: their answers, the machine after them, and how many each worker made.
use Rattle.std.proofs.Common.{◌≡◌, ℕ, ◌+◌, ◌==◌, ◌&&◌, eqb, Bool, true, false, cond, List, [], ◌∷◌, ◌++◌, length, filter, refl, sym, ◌∙◌, ap, subst, arith}
use Rattle.flit_model.specs.States.{State}
use Rattle.flit_model.proofs.Counting.{count_by-cons}
use Rattle.flit_report.specs.declared.content.Shown.{Shown}
use Rattle.flit_structure.specs.Meanings.{Meaning}
use Rattle.flit_structure.specs.Lawful.{is_persist}
use Rattle.flit_sched.specs.declared.runs.Turn.{Turn}
use Rattle.flit_sched.specs.declared.runs.Turn.TheVariants.{Event as Event_turn, Idle as Idle_turn}
use Rattle.flit_sched.specs.Runs.{Run}
use Rattle.flit_sched.specs.Turns.{IsTurn}
use Rattle.flit_histories.specs.Following.{Given, Follows, has_persisted, persists_by}
use Rattle.flit_histories.specs.TurnLaws.{one_if_event, events_by}
use Rattle.flit_turns.specs.Lines.{shown_by, shown_of, shown_if}
use Rattle.flit_step_sentences.specs.Machines.{state_after, AreAnswered, events_made, persists_made}

pub shown_where : (shows : Bool) (ts : List Given) → shown_if shows ts ≡ cond shows (shown_of ts) []
shown_where true ts = refl
shown_where false ts = refl

one_made : (worker v n : ℕ) (x : Turn) (ss : List Shown) → events_made worker ss ≡ n →
    events_made worker (shown_by v x ++ ss) ≡ cond (eqb v worker) (one_if_event x) 0 + n
one_made worker v n (Event_turn e told) ss rest = by_test (eqb v worker)
  where
    by_test : (b : Bool) → length (cond b (record { worker = v; event = e; answer = told } ∷ filter (λ s. s.worker == worker) ss)
        (filter (λ s. s.worker == worker) ss)) ≡ cond b 1 0 + n
    by_test true = omega (arith, rest)
    by_test false = omega (arith, rest)
one_made worker v n Idle_turn ss rest = by_test (eqb v worker)
  where
    by_test : (b : Bool) → events_made worker ss ≡ cond b 0 0 + n
    by_test true = omega (arith, rest)
    by_test false = omega (arith, rest)

pub made_by_turns : (worker : ℕ) (ts : List Given) → events_made worker (shown_of ts) ≡ events_by worker ts
made_by_turns worker [] = refl
made_by_turns worker (t ∷ ts) = one_made worker t.worker (events_by worker ts) t.turn (shown_of ts) (made_by_turns worker ts)

one_persisted : (worker v n : ℕ) (x : Turn) (ss : List Shown) → persists_made worker ss ≡ n →
    persists_made worker (shown_by v x ++ ss) ≡ cond (eqb v worker && has_persisted x) 1 0 + n
one_persisted worker v n (Event_turn e told) ss rest =
    count_by-cons (λ (s : Shown). eqb s.worker worker && is_persist s.event) (record { worker = v; event = e; answer = told }) ss
    ∙ ap (λ k. cond (eqb v worker && is_persist e) 1 0 + k) rest
one_persisted worker v n Idle_turn ss rest = by_test (eqb v worker)
  where
    by_test : (b : Bool) → persists_made worker ss ≡ cond (b && false) 1 0 + n
    by_test true = omega (arith, rest)
    by_test false = omega (arith, rest)

pub persists_by_turns : (worker : ℕ) (ts : List Given) → persists_made worker (shown_of ts) ≡ persists_by worker ts
persists_by_turns worker [] = refl
persists_by_turns worker (t ∷ ts) =
    one_persisted worker t.worker (persists_by worker ts) t.turn (shown_of ts) (persists_by_turns worker ts)
    ∙ sym (count_by-cons (λ (g : Given). eqb g.worker worker && has_persisted g.turn) t ts)

module _ {Op : Type 0} (meaning : Meaning Op) where
  one_state : (r q : Run Op) (worker : ℕ) (x : Turn) (ss : List Shown) (m : State) → IsTurn meaning r worker x q → state_after q.state ss ≡ m →
      state_after r.state (shown_by worker x ++ ss) ≡ m
  one_state r q worker (Event_turn e told) ss m k rest = ap (λ n. state_after n ss) (sym k.state) ∙ rest
  one_state r q worker Idle_turn ss m k rest = ap (λ (p : Run Op). state_after p.state ss) (sym k.same) ∙ rest

  pub state_led : (r next : Run Op) (ts : List Given) → Follows meaning r ts next → state_after r.state (shown_of ts) ≡ next.state
  state_led r next [] h = ap (λ (q : Run Op). q.state) (sym h)
  state_led r next (t ∷ ts) h = one_state r h.0 t.worker t.turn (shown_of ts) next.state h.1 (state_led h.0 next ts h.2)

  one_answered : (r q : Run Op) (worker : ℕ) (x : Turn) (ss : List Shown) → IsTurn meaning r worker x q → AreAnswered q.state ss →
      AreAnswered r.state (shown_by worker x ++ ss)
  one_answered r q worker (Event_turn e told) ss k rest = (k.answers, subst (λ m. AreAnswered m ss) k.state rest)
  one_answered r q worker Idle_turn ss k rest = subst (λ (p : Run Op). AreAnswered p.state ss) k.same rest

  pub answered_led : (r next : Run Op) (ts : List Given) → Follows meaning r ts next → AreAnswered r.state (shown_of ts)
  answered_led r next [] h = tt
  answered_led r next (t ∷ ts) h = one_answered r h.0 t.worker t.turn (shown_of ts) h.1 (answered_led h.0 next ts h.2)
