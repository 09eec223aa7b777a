-- What a pass holds, before, in and after its calls.
use Rattle.std.proofs.Common.{◌≡◌, ℕ, ◌+◌, ◌<◌, ◌≤◌, refl, sym, ◌∙◌, ap, subst, arith, false, Some, None, IsSome}
use Rattle.std.proofs.lemmas.Bool.{false≢true}
use Rattle.flit_model.specs.declared.calls.Call.{Call}
use Rattle.flit_model.specs.declared.calls.Reply.{Reply}
use Rattle.flit_model.specs.declared.calls.Tally.{Tally}
use Rattle.flit_pv.specs.declared.hands.Hand.{Hand as A_hand}
use Rattle.flit_structure.specs.declared.workers.Worker.{Worker}
use Rattle.flit_structure.specs.Meanings.{Meaning, MayStart, IsServed, hand_in, hand_of, tally}
use Rattle.flit_structure.specs.Lawful.{Lawful}
use Rattle.flit_table.specs.declared.passes.Holder.{Holder}
use Rattle.flit_table.specs.declared.passes.Rest.{Rest}
use Rattle.flit_table.specs.declared.passes.Rest.TheVariants.{Hand, Ended, Stopped}
use Rattle.flit_table.specs.declared.views.Post.{Post}
use Rattle.flit_table.specs.declared.views.Start.{Start}
use Rattle.flit_table.specs.declared.views.Start.TheVariants.{Go, Begin, Sweep}
use Rattle.flit_table.specs.Moves.{MayEnter, EntersUnqueued, entered, entering, tally_in}
use Rattle.flit_table.specs.Steps.{Home}
use Rattle.flit_table.specs.Calls.{Ends, Runs}
use Rattle.flit_table.specs.Passes.{is_stopped, hand_kept, MayBeginIn, begun_in, IsIdle, IsAt, IsHeld, IsCalling, waits_in}
use Rattle.flit_table.proofs.CallSteps.{begins_runs}
use Rattle.flit_table.proofs.Unqueued.{busy_enters, waits_free}

module _ {Op : Type 0} (meaning : Meaning Op) where
  -- the hand of a pass that isn't stopped
  pub record HasHand (u : Worker Op) (begun : ℕ) (rest : Rest Op) : Type 0 where
    pub hand : A_hand
    pub kept : hand_kept meaning rest ≡ Some hand
    pub idle : IsIdle u begun hand

  has_hand : (p : Post Op) (begun : ℕ) (rest : Rest Op) → is_stopped rest ≡ false → IsAt meaning p begun rest → HasHand p.worker begun rest
  has_hand p begun (Hand hand) free at = record { hand = hand; kept = refl; idle = at }
  has_hand p begun (Ended op) free at = record { hand = meaning.finished op; kept = refl; idle = at.1 }
  has_hand p begun (Stopped so_far start) free at = absurd (false≢true (sym free))

  may_begin_at : (p : Post Op) (begun : ℕ) (rest : Rest Op) (call : Call) → is_stopped rest ≡ false → IsAt meaning p begun rest →
      MayEnter meaning (Begin call) p → MayBeginIn meaning rest call
  may_begin_at p begun (Hand hand) call free at may = subst (λ h. MayStart meaning.layout h call) (ap (hand_in meaning) (sym may.1 ∙ at.doing)) may.2
  may_begin_at p begun (Ended op) call free at may = (at.0, subst (λ h. MayStart meaning.layout h call) (ap (hand_in meaning) (sym may.1 ∙ at.1.doing)) may.2)
  may_begin_at p begun (Stopped so_far start) call free at may = absurd (false≢true (sym free))

  begun_at : (p : Post Op) (begun : ℕ) (rest : Rest Op) (call : Call) → is_stopped rest ≡ false → IsAt meaning p begun rest →
      begun_in meaning rest call ≡ Ended (meaning.begun (hand_of meaning p.worker) call)
  begun_at p begun (Hand hand) call free at = ap (λ d. Ended (meaning.begun (hand_in meaning d) call)) (sym at.doing)
  begun_at p begun (Ended op) call free at = ap (λ d. Ended (meaning.begun (hand_in meaning d) call)) (sym at.1.doing)
  begun_at p begun (Stopped so_far start) call free at = absurd (false≢true (sym free))

module _ {S Op : Type 0} (meaning : Meaning Op) where
  pub hand_held : (home : Home S) (h : Holder S Op) → IsHeld meaning home h → is_stopped h.rest ≡ false → HasHand meaning h.seat.me.0.post.worker h.calls h.rest
  hand_held home h held free = has_hand meaning h.seat.me.0.post h.calls h.rest free held.at

  -- with it a call may begin
  pub may_begin : (home : Home S) (h : Holder S Op) (call : Call) → IsHeld meaning home h → is_stopped h.rest ≡ false → IsServed meaning.layout call →
      h.calls < 4294967295 → MayEnter meaning (Begin call) h.seat.me.0.post
  may_begin home h call held free served count =
      let f = hand_held home h held free in
      let v = h.seat.me.0 in
      let name : f.hand.name ≡ v.name = f.idle.name ∙ held.worker in (
        f.hand,
        f.idle.doing,
        record {
          served = served;
          least_name = subst (λ n. 1 ≤ n) (sym name) held.least;
          most_name = subst (λ n. n ≤ meaning.layout.workers) (sym name) (below v.name v.names meaning.layout.workers held.belongs.names held.most);
          number = subst (λ n. n < 4294967295) (f.idle.calls ∙ sym f.idle.number) count;
        },
      )
    where
      below : (a b c : ℕ) → 0 < b → a + b ≤ c + 1 → a ≤ c
      below a b c h k = omega arith

  pub may_begin_in : (home : Home S) (h : Holder S Op) (call : Call) → IsHeld meaning home h → is_stopped h.rest ≡ false → IsServed meaning.layout call →
      h.calls < 4294967295 → MayBeginIn meaning h.rest call
  may_begin_in home h call held free served count = may_begin_at meaning h.seat.me.0.post h.calls h.rest call free held.at
      (may_begin home h call held free served count)

  -- with one worker nothing is queued then
  pub free_unqueued : (home : Home S) (h : Holder S Op) → IsHeld meaning home h → is_stopped h.rest ≡ false → meaning.layout.workers ≡ 1 →
      EntersUnqueued meaning h.seat.me.0.post
  free_unqueued home h held free one = subst (λ s. EntersUnqueued meaning (entered meaning s h.seat.me.0.post)) (waits_free h.rest free) (held.queued one)

  -- nor is it in a pass that is stopped
  pub stopped_unqueued : (home : Home S) (h : Holder S Op) → IsHeld meaning home h → (so_far : Tally) (start : Start) → h.rest ≡ Stopped so_far start →
      meaning.layout.workers ≡ 1 → so_far.queued ≡ 0
  stopped_unqueued home h held so_far start is one =
      let halted = subst (IsAt meaning h.seat.me.0.post h.calls) is held.at in
      let unqueued = subst (λ z. EntersUnqueued meaning (entered meaning (waits_in z) h.seat.me.0.post)) is (held.queued one) in
      ap (λ t. t.queued) halted.tally ∙ unqueued Go tt

  -- a pass that begins a call
  pub begins_calling : Lawful meaning → (home : Home S) (h : Holder S Op) (call : Call) → IsHeld meaning home h → is_stopped h.rest ≡ false →
      IsServed meaning.layout call → h.calls < 4294967295 →
      (calls : ℕ) (rest : Rest Op) → calls ≡ h.calls + 1 → rest ≡ begun_in meaning h.rest call →
      IsCalling meaning home (Begin call) call h (record { seat = h.seat; name = h.name; names = h.names; calls = calls; rest = rest }) 0 None
  begins_calling laws home h call held free served count calls rest counted is =
      let may = may_begin home h call held free served count in
      record {
        belongs = held.belongs;
        name = refl;
        names = refl;
        calls = counted;
        op = meaning.begun (hand_of meaning h.seat.me.0.post.worker) call;
        is = is ∙ begun_at meaning h.seat.me.0.post h.calls h.rest call free held.at;
        at = (may, begins_runs meaning laws home.origin call h.seat.me.0 may (free_unqueued home h held free), λ less. absurd (omega (arith, less)));
      }

  -- what stays of a pass in its call
  module _ (home : Home S) (h k : Holder S Op) (held : IsHeld meaning home h) (free : is_stopped h.rest ≡ false) (start : Start) (call : Call) (made : ℕ) where
    -- a pass whose call has its reply
    pub held_ended : (reply : Reply) → IsCalling meaning home start call h k made (Some reply) → IsHeld meaning home k
    held_ended reply c =
        let e : Ends meaning home.origin call h.seat.me.0 k.seat.me.0 c.op reply made = c.at in
        let f = hand_held home h held free in
        record {
          belongs = c.belongs;
          name = c.name ∙ held.name ∙ sym e.same.name;
          names = c.names ∙ held.names ∙ sym e.same.names;
          worker = ap (λ (u : Worker Op). u.name) e.worker ∙ held.worker ∙ sym e.same.name;
          least = subst (λ x. 1 ≤ x) (sym e.same.name) held.least;
          most = subst (λ x. x + k.seat.me.0.names ≤ meaning.layout.workers + 1) (sym e.same.name)
              (subst (λ x. h.seat.me.0.name + x ≤ meaning.layout.workers + 1) (sym e.same.names) held.most);
          at = subst (IsAt meaning k.seat.me.0.post k.calls) (sym c.is) (
            subst IsSome (sym e.replied) refl,
            subst (λ u. IsIdle u k.calls (meaning.finished c.op)) (sym e.worker)
                (record { doing = refl; name = e.hand.0; number = e.hand.1; calls = c.calls ∙ ap (λ x. x + 1) f.idle.calls }),
          );
          queued = λ one. subst (λ z. EntersUnqueued meaning (entered meaning (waits_in z) k.seat.me.0.post)) (sym c.is) (e.next one);
        }

    -- a pass whose call is stopped
    pub held_stopped : (rest : Rest Op) (so_far : Tally) → (c : IsCalling meaning home start call h k made None) → rest ≡ Stopped so_far start →
        so_far ≡ tally meaning c.op → IsHeld meaning home (record k { rest = rest })
    held_stopped rest so_far c is counted =
        let r : Runs meaning home.origin call h.seat.me.0 (entering meaning start k.seat.me.0) c.op made = c.at.1 in
        let f = hand_held home h held free in
        record {
          belongs = c.belongs;
          name = c.name ∙ held.name ∙ sym r.same.name;
          names = c.names ∙ held.names ∙ sym r.same.names;
          worker = name_entered start k.seat.me.0.post ∙ ap (λ (u : Worker Op). u.name) r.worker ∙ held.worker ∙ sym r.same.name;
          least = subst (λ x. 1 ≤ x) (sym r.same.name) held.least;
          most = subst (λ x. x + k.seat.me.0.names ≤ meaning.layout.workers + 1) (sym r.same.name)
              (subst (λ x. h.seat.me.0.name + x ≤ meaning.layout.workers + 1) (sym r.same.names) held.most);
          at = subst (IsAt meaning k.seat.me.0.post k.calls) (sym is) (record {
            may = c.at.0;
            calls = c.calls ∙ ap (λ x. x + 1) f.idle.calls ∙ sym (ap (λ (u : Worker Op). u.number) r.worker);
            tally = counted ∙ sym (ap (λ (u : Worker Op). tally_in meaning u.doing) r.worker);
          });
          queued = λ one. subst (λ z. EntersUnqueued meaning (entered meaning (waits_in z) k.seat.me.0.post)) (sym is)
              (busy_enters meaning (entered meaning start k.seat.me.0.post) h.seat.me.0.post.worker.name (h.seat.me.0.post.worker.number + 1) c.op call r.begun
              r.worker (r.queued one));
        }
      where
        name_entered : (x : Start) (p : Post Op) → p.worker.name ≡ (entered meaning x p).worker.name
        name_entered Go p = refl
        name_entered (Begin asked) p = refl
        name_entered (Sweep word) p = refl
