-- What came of a call that is over stays.
use Rattle.std.proofs.Common.{◌≡◌, ℕ, Bool, List, [], ◌++◌, filter, sym, ◌∙◌, ap, subst, arith, append_assoc, append-nil}
use Rattle.flit_model.specs.declared.calls.Placed.{Placed}
use Rattle.flit_structure.specs.Meanings.{Meaning}
use Rattle.flit_structure.specs.Lawful.{Lawful}
use Rattle.flit_sched.specs.Runs.{Run}
use Rattle.flit_sched.specs.Views.{history_with}
use Rattle.flit_histories.specs.Calls.{IsCallAt, is_of}
use Rattle.flit_histories.specs.Orders.{IsOver}
use Rattle.flit_histories.specs.Reached.{Leads, here, turn}
use Rattle.flit_histories.specs.TurnLaws.{HasLater}
use Rattle.flit_histories.proofs.LedParts.{part_led}
use Rattle.flit_histories.proofs.CallLaws.{over_outcome, replied_entries}
use Rattle.flit_histories.proofs.SoundRuns.{IsSound}
use Rattle.flit_histories.proofs.ReachedRuns.{sound_led}
use Rattle.flit_histories.proofs.ToldCalls.{IsTold}
use Rattle.flit_histories.proofs.ToldRuns.{told_led}

module _ {Op : Type 0} (meaning : Meaning Op) (r next : Run Op) (led : Leads meaning r next) where
  later_on : (name number : ℕ) (o : IsOver r name number) → HasLater next name o.part
  later_on name number o = part_led meaning r next led name o.is.before o.part o.is.behind o.is.is

  pub over_led : (name number : ℕ) → IsOver r name number → IsOver next name number
  over_led name number o = let x = later_on name number o in record {
    part = x.part;
    item = o.item;
    call = o.call;
    is = record {
      before = x.before;
      behind = x.behind;
      is = x.is;
      call_at = subst (λ items. IsCallAt items o.item o.call number) (sym x.later.items) o.is.call_at;
    };
    over = (let a = o.over in let b = x.later.over in omega (arith, a, b));
  }

  module _ (l : Lawful meaning) (K : IsSound meaning r) (T : IsTold r) where
    pub entries_led : (picks others : ℕ → Bool) (name number : ℕ) → IsOver r name number →
        filter (is_of name number) (history_with next others) ≡ filter (is_of name number) (history_with r picks)
    unfolding over_led
    entries_led picks others name number o =
        let x = later_on name number o in
        let now = over_led name number o in
        let c = o.is in
        let told = over_outcome meaning l r K T picks name c.before o.part c.behind c.is o.item o.call number c.call_at o.over in
        let d = now.is in
        replied_entries meaning l next (sound_led meaning l r next led K) (told_led meaning l r next led K T) others name d.before now.part d.behind d.is o.item
        o.call number d.call_at told.0 (x.later.told o.item o.over ∙ told.1)
        ∙ sym (replied_entries meaning l r K T picks name c.before o.part c.behind c.is o.item o.call number c.call_at told.0 told.1)

pub placed_led : {Op : Type 0} (meaning : Meaning Op) (r next : Run Op) → Leads meaning r next → (more : List Placed) × (next.placed ≡ r.placed ++ more)
placed_led meaning r next here = ([], sym (append-nil r.placed))
placed_led meaning r next (turn {q = q} h t) =
    let old = placed_led meaning r q h in
    (old.0 ++ t.reads, t.placed ∙ ap (λ xs. xs ++ t.reads) old.1 ∙ append_assoc r.placed old.0 t.reads)
