-- An operation alone on a machine goes on by its events, and then by its worker's next call.
use Rattle.std.proofs.Common.{◌≡◌, ℕ, ◌+◌, ◌<◌, ◌≤◌, [], ◌∷◌, Option, Some, None, IsSome, refl, sym, ap, subst, arith}
use Rattle.std.proofs.lemmas.Bool.{false≢true}
use Rattle.flit_model.specs.States.{State}
use Rattle.flit_model.specs.Effects.{after, answer, IsAllowed}
use Rattle.flit_model.specs.declared.events.Event.{Event}
use Rattle.flit_model.specs.declared.calls.Call.{Call}
use Rattle.flit_pv.specs.Hands.{first_hand}
use Rattle.flit_structure.specs.declared.workers.Worker.{Worker}
use Rattle.flit_structure.specs.Moments.{Moment, with_workers, idle, busy, hired, first_moment}
use Rattle.flit_structure.specs.Meanings.{Meaning, MayStart, MayTake, IsServed, replied, first_at, moment_after, hiring, beginning, finishing, making}
use Rattle.flit_structure.specs.Lawful.{Lawful}
use Rattle.flit_speed.specs.Benches.{IsAlone, HasReply, MayOpen}

-- what stands where something does
got : {X : Type 0} (o : Option X) → IsSome o → (x : X) × (o ≡ Some x)
got None some = absurd (false≢true some)
got (Some x) some = (x, refl)

module _ {Op : Type 0} (meaning : Meaning Op) (l : Lawful meaning) (calls : ℕ) (m : State) (op : Op) (h : IsAlone meaning calls m op) where
  abbrev u : Worker Op
  u = busy 1 calls op h.call h.begun

  module _ (e : Event) (q : meaning.asked op ≡ Some e) where
    pub alone_allowed : IsAllowed m e
    alone_allowed = subst (λ s. IsAllowed s e) h.state (l.allowed h.moment [] u [] e q h.holds)

    pub alone_takes : MayTake meaning op (answer m e)
    alone_takes = record {
      moment = h.moment;
      before = [];
      behind = [];
      name = 1;
      number = calls;
      call = h.call;
      begun = h.begun;
      event = e;
      holds = h.holds;
      asks = q;
      answers = ap (λ s. answer s e) (sym h.state);
    }

    pub alone_after : IsAlone meaning calls (after m e) (meaning.taken op (answer m e))
    alone_after = subst (λ s. IsAlone meaning calls (after s e) (meaning.taken op (answer s e))) h.state (record {
      moment = moment_after meaning h.moment e [] u [];
      call = h.call;
      begun = Some (first_at _ h.begun);
      state = refl;
      holds = l.keeps (Some 1) (with_workers h.moment (u ∷ [])) (moment_after meaning h.moment e [] u []) (making h.moment [] u [] e q) h.holds;
    })

    pub alone_falls : meaning.to_go (after m e) (meaning.taken op (answer m e)) < meaning.to_go m op
    alone_falls = subst (λ s. meaning.to_go (after s e) (meaning.taken op (answer s e)) < meaning.to_go s op) h.state
        (l.falls h.moment [] 1 calls op h.call h.begun [] e q h.holds)

  pub alone_may : (call : Call) → IsServed meaning.layout call → calls < 4294967295 → MayStart meaning.layout (meaning.finished op) call
  alone_may call served below =
      let named = (l.named (with_workers h.moment (u ∷ [])) h.holds).each.0 in
      record {
        served = served;
        least_name = subst (λ n. 1 ≤ n) (sym named.name) named.least;
        most_name = subst (λ n. n ≤ meaning.layout.workers) (sym named.name) named.most;
        number = subst (λ n. n < 4294967295) (sym named.number) below;
      }

  pub alone_again : (call : Call) → HasReply meaning op → MayStart meaning.layout (meaning.finished op) call →
      IsAlone meaning (calls + 1) m (meaning.begun (meaning.finished op) call)
  alone_again call some may =
      let r = got (replied meaning op) some in
      let hand = meaning.finished op in
      let rests = l.keeps (Some 1) (with_workers h.moment (u ∷ [])) (with_workers h.moment (idle 1 calls hand ∷ []))
      (finishing h.moment [] 1 calls op h.call h.begun r.0 [] r.1) h.holds in
      record {
        moment = h.moment;
        call = call;
        begun = None;
        state = h.state;
        holds = l.keeps (Some 1) (with_workers h.moment (idle 1 calls hand ∷ []))
            (with_workers h.moment (busy 1 (calls + 1) (meaning.begun hand call) call None ∷ [])) (beginning h.moment [] 1 calls hand call [] may) rests;
      }

module _ {Op : Type 0} (meaning : Meaning Op) (l : Lawful meaning) (m : State) (h : MayOpen meaning m) where
  abbrev first : Moment Op
  first = first_moment meaning.layout h.0

  one_worker : 1 ≤ meaning.layout.workers
  one_worker = (l.sized first (l.opens h.0 h.1).2).accepted.least_worker

  pub first_may : (call : Call) → IsServed meaning.layout call → MayStart meaning.layout (first_hand 1) call
  first_may call served = record { served = served; least_name = omega arith; most_name = one_worker; number = omega arith }

  pub first_alone : (call : Call) → MayStart meaning.layout (first_hand 1) call → IsAlone meaning 1 m (meaning.begun (first_hand 1) call)
  first_alone call may =
      let hires = l.keeps None first (with_workers first (hired 1 ∷ [])) (hiring first 1 one_le one_worker tt) (l.opens h.0 h.1).2 in
      record {
        moment = first;
        call = call;
        begun = None;
        state = sym h.2;
        holds = l.keeps (Some 1) (with_workers first (hired 1 ∷ [])) (with_workers first (busy 1 1 (meaning.begun (first_hand 1) call) call None ∷ []))
            (beginning first [] 1 0 (first_hand 1) call [] may) hires;
      }
    where
      one_le : 1 ≤ 1
      one_le = omega arith
