-- What keeps `holds` when a worker begins an item, makes its event and is done with its item.
use Rattle.std.proofs.Common.{◌≡◌, ℕ, ◌+◌, ◌<◌, ◌≤◌, List, ◌∷◌, ◌++◌, refl, sym, ◌∙◌, ap, subst, arith, Option, Some, None, IsSome}
use Rattle.std.proofs.lemmas.Bool.{false≢true}
use Rattle.flit_model.specs.Effects.{answer}
use Rattle.flit_model.specs.declared.calls.Call.{Call}
use Rattle.flit_model.specs.declared.calls.Item.{Item}
use Rattle.flit_model.specs.declared.calls.Item.TheVariants.{Call as Call_item, Evict as Evict_item}
use Rattle.flit_model.specs.declared.calls.Reply.{Reply}
use Rattle.flit_model.specs.declared.events.Event.{Event}
use Rattle.flit_model.specs.declared.events.Event.TheVariants.{Load}
use Rattle.flit_pv.specs.declared.hands.Hand.{Hand}
use Rattle.flit_pv.specs.Evicts.{evict_started, evict_asked}
use Rattle.flit_structure.specs.declared.workers.Doing.{Doing}
use Rattle.flit_structure.specs.declared.workers.Doing.TheVariants.{Idle, Busy, Evicting}
use Rattle.flit_structure.specs.declared.workers.Worker.{Worker}
use Rattle.flit_structure.specs.Moments.{Moment, with_workers, idle, busy, sweeper}
use Rattle.flit_structure.specs.Meanings.{Meaning, MayStart, IsServed, MayTake, asked_by, asks, replied, reply_at, moment_after, beginning, finishing, evicting, evicted, making}
use Rattle.flit_structure.specs.Lawful.{Lawful, IsNamed}
use Rattle.flit_structure.proofs.Names.{all_at}
use Rattle.flit_sched.specs.Openings.{IsRightItem}
use Rattle.flit_sched.specs.Turns.{enters, rests, hand_over, hand_replied, hand_evicted}

abbrev pub at : {Op : Type 0} → ℕ → ℕ → Doing Op → Worker Op
at name number doing = record { name = name; number = number; doing = doing }

none_some : {X : Type 0} (x : X) → None ≡ Some x → ⊥
none_some x e = cc

module _ {Op : Type 0} (meaning : Meaning Op) (l : Lawful meaning) where
  pub may_start : (M : Moment Op) (a b : List (Worker Op)) (name number : ℕ) (hand : Hand) (call : Call) →
      IsServed meaning.layout call → number < 4294967295 → meaning.holds (with_workers M (a ++ idle name number hand ∷ b)) → MayStart meaning.layout hand call
  may_start M a b name number hand call served small h =
      let n = all_at (IsNamed meaning) a b (idle name number hand) (l.named (with_workers M (a ++ idle name number hand ∷ b)) h).each in
      let k0 : hand.name ≡ name = n.name in
      let k1 : hand.number ≡ number = n.number in
      let n0 : 1 ≤ name = n.least in
      let n1 : name ≤ meaning.layout.workers = n.most in
      record { served = served; least_name = omega arith; most_name = omega arith; number = omega arith }

  -- a worker that begins its item, where the layout serves it
  pub enter_holds : (M : Moment Op) (a b : List (Worker Op)) (name number : ℕ) (doing : Doing Op) (item : Item) →
      IsRightItem meaning.layout item → number < 4294967295 → meaning.holds (with_workers M (a ++ at name number doing ∷ b)) →
      meaning.holds (with_workers M (a ++ enters meaning (at name number doing) doing (Some item) ∷ b))
  enter_holds M a b name number (Idle hand) (Call_item call) right small h =
      l.keeps (Some name) (with_workers M (a ++ idle name number hand ∷ b))
      (with_workers M (a ++ busy name (number + 1) (meaning.begun hand call) call None ∷ b))
      (beginning M a name number hand call b (may_start M a b name number hand call right small h)) h
  enter_holds M a b name number (Idle hand) (Evict_item word) right small h =
      l.keeps (Some name) (with_workers M (a ++ idle name number hand ∷ b)) (with_workers M (a ++ sweeper name number (evict_started hand word) ∷ b))
      (evicting M a name number hand word b right) h
  enter_holds M a b name number (Busy op call begun) item right small h = h
  enter_holds M a b name number (Evicting evict) item right small h = h

  -- an event that a worker asks for
  pub makes : (M : Moment Op) (a : List (Worker Op)) (u : Worker Op) (b : List (Worker Op)) (e : Event) → asked_by meaning u ≡ Some e →
      meaning.holds (with_workers M (a ++ u ∷ b)) → meaning.holds (moment_after meaning M e a u b)
  makes M a u b e asks_e h = l.keeps (Some u.name) (with_workers M (a ++ u ∷ b)) (moment_after meaning M e a u b) (making M a u b e asks_e) h

  -- what a worker that isn't idle still has to do
  abbrev pub IsAwake : Doing Op → Type 0
  IsAwake (Idle hand) = Unit {0}
  IsAwake (Busy op call begun) = replied meaning op ≡ None
  IsAwake (Evicting evict) = IsSome (evict_asked evict)

  asks_on : (op : Op) → replied meaning op ≡ None → (o : Option Event) → meaning.asked op ≡ o → (e : Event) × (meaning.asked op ≡ Some e)
  asks_on op none None is = absurd (none_some (meaning.reply op) (sym none ∙ ap (λ o. reply_at o (meaning.reply op)) is))
  asks_on op none (Some e) is = (e, is)

  evict_on : (o : Option Event) → IsSome o → (e : Event) × (o ≡ Some e)
  evict_on None h = absurd (false≢true h)
  evict_on (Some e) h = (e, refl)

  pub enter_asks : (M : Moment Op) (a b : List (Worker Op)) (name number : ℕ) (doing : Doing Op) (item : Item) →
      IsRightItem meaning.layout item → number < 4294967295 → IsAwake doing → meaning.holds (with_workers M (a ++ at name number doing ∷ b)) →
      (e : Event) × (asked_by meaning (enters meaning (at name number doing) doing (Some item)) ≡ Some e)
  enter_asks M a b name number (Idle hand) (Call_item call) right small on h =
      let w = l.awake hand call (may_start M a b name number hand call right small h) in (w.0, w.1)
  enter_asks M a b name number (Idle hand) (Evict_item word) right small on h = evict_on (Some (Load word)) refl
  enter_asks M a b name number (Busy op call begun) item right small on h = asks_on op on (meaning.asked op) refl
  enter_asks M a b name number (Evicting evict) item right small on h = evict_on (evict_asked evict) on

  -- a worker that is done with its item
  pub leave_holds : (M : Moment Op) (a b : List (Worker Op)) (name number : ℕ) (doing : Doing Op) →
      meaning.holds (with_workers M (a ++ at name number doing ∷ b)) → meaning.holds
      (with_workers M (a ++ at name number (rests meaning doing (hand_over meaning doing)) ∷ b))
  leave_holds M a b name number (Idle hand) h = h
  leave_holds M a b name number (Busy op call begun) h = by_reply (replied meaning op) refl
    where
      by_reply : (o : Option Reply) → replied meaning op ≡ o → meaning.holds
          (with_workers M (a ++ at name number (rests meaning (Busy op call begun) (hand_replied meaning op o)) ∷ b))
      by_reply None is = h
      by_reply (Some reply) is =
          l.keeps (Some name) (with_workers M (a ++ busy name number op call begun ∷ b)) (with_workers M (a ++ idle name number (meaning.finished op) ∷ b))
          (finishing M a name number op call begun reply b is) h
  leave_holds M a b name number (Evicting evict) h = by_event (evict_asked evict)
    where
      by_event : (o : Option Event) → meaning.holds (with_workers M (a ++ at name number (rests meaning (Evicting evict) (hand_evicted meaning evict o)) ∷ b))
      by_event None =
          l.keeps (Some name) (with_workers M (a ++ sweeper name number evict ∷ b)) (with_workers M (a ++ idle name number evict.hand ∷ b))
          (evicted M a name number evict b) h
      by_event (Some e) = h

  -- the answer that an operation is given is that of a moment
  pub told_at : (M : Moment Op) (a b : List (Worker Op)) (u : Worker Op) (e : Event) (op : Op) (call : Call) (begun : Option ℕ) →
      u.doing ≡ Busy op call begun → asked_by meaning u ≡ Some e → meaning.holds (with_workers M (a ++ u ∷ b)) → MayTake meaning op (answer M.state e)
  told_at M a b u e op call begun is asks_e h = record {
    moment = M;
    before = a;
    behind = b;
    name = u.name;
    number = u.number;
    call = call;
    begun = begun;
    event = e;
    holds = subst (λ d. meaning.holds (with_workers M (a ++ at u.name u.number d ∷ b))) is h;
    asks = subst (λ d. asks meaning d ≡ Some e) is asks_e;
    answers = refl;
  }
