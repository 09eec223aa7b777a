-- What an operation's own rows are, and how far its update is, with its machine further on.
use Rattle.std.proofs.Common.{◌≡◌, ℕ, ◌&&◌, Bool, true, false, List, Option, Some, refl, sym, ◌∙◌, ap, subst}
use Rattle.flit_words.specs.declared.layouts.Layout.{Layout}
use Rattle.flit_model.specs.declared.calls.Call.{Call}
use Rattle.flit_model.specs.declared.calls.Entry.{Entry}
use Rattle.flit_place.specs.Tags.{Place}
use Rattle.flit_rows.specs.Shares.{rows_in}
use Rattle.flit_pv.specs.Exchanges.{HeldExchange}
use Rattle.flit_pv.specs.declared.exchanges.Exchanging.{Exchanging}
use Rattle.flit_pv.specs.declared.exchanges.Exchanging.TheVariants.{Ready, Tries, TriesBare, WritesBack, Withdraws, Lowers, Ended}
use Rattle.flit_pv.specs.declared.exchanges.Exchanged.{Exchanged}
use Rattle.flit_pv.specs.declared.exchanges.Exchanged.TheVariants.{Won as Exchange_won, Lost, Worn}
use Rattle.flit_structure.specs.Moments.{busy, update_of}
use Rattle.flit_structure.specs.Lawful.{is_insert}
use Rattle.flit_crew.specs.Machines.{Machine, Fresh, MakesAt, hand_in, deed_of, has_linked, exchange_deed, exchange_part, ended_part, ended_deed, ToWin, HasLost}
use Rattle.flit_crew.specs.Heaps.{Heap, waits_at}
use Rattle.flit_crew.specs.Anatomies.{Anatomy, own, rows_but, deed, deed_by}
use Rattle.flit_crew.specs.Accounts.{IsSteady, AreTight}
use Rattle.flit_crew.specs.Crews.{Crew}
use Rattle.flit_crew.specs.Obligations.{Keeps, IsAfter}

-- where its exchange has linked nothing, its own rows are those of its hand
pub own_fresh : {Op : Type 0} (A : Anatomy Op) (op : Op) → deed_of (A.machine op) ≡ Fresh → own A op ≡ rows_in (hand_in (A.machine op)).spare
own_fresh A op fresh = ap (λ d. rows_but A (A.effects op && (is_insert (A.call op) && has_linked d)) (hand_in (A.machine op)).spare) fresh
    ∙ by_test (A.effects op) (is_insert (A.call op))
  where
    by_test : (t i : Bool) → rows_but A (t && (i && false)) (hand_in (A.machine op)).spare ≡ rows_in (hand_in (A.machine op)).spare
    by_test true true = refl
    by_test true false = refl
    by_test false i = refl

-- an exchange that isn't won has made no update
pub fresh_to_win : (at : Exchanging) (m : HeldExchange) → exchange_part at ≡ ToWin → exchange_deed at m ≡ Fresh
fresh_to_win Ready m e = refl
fresh_to_win (Tries slot) m e = refl
fresh_to_win TriesBare m e = refl
fresh_to_win WritesBack m e = absurd (cc)
fresh_to_win Withdraws m e = absurd (cc)
fresh_to_win (Lowers slot found) m e = absurd (cc)
fresh_to_win (Ended how) m e = by_end how e
  where
    by_end : (x : Exchanged) → ended_part x ≡ ToWin → ended_deed x ≡ Fresh
    by_end Exchange_won q = absurd (cc)
    by_end (Lost found) q = refl
    by_end (Worn word version) q = refl

pub fresh_lost : (at : Exchanging) (m : HeldExchange) (found : ℕ) → exchange_part at ≡ HasLost found → exchange_deed at m ≡ Fresh
fresh_lost Ready m found e = absurd (cc)
fresh_lost (Tries slot) m found e = absurd (cc)
fresh_lost TriesBare m found e = absurd (cc)
fresh_lost WritesBack m found e = absurd (cc)
fresh_lost Withdraws m found e = absurd (cc)
fresh_lost (Lowers slot x) m found e = refl
fresh_lost (Ended how) m found e = by_end how e
  where
    by_end : (x : Exchanged) → ended_part x ≡ HasLost found → ended_deed x ≡ Fresh
    by_end Exchange_won q = absurd (cc)
    by_end (Lost y) q = refl
    by_end (Worn word version) q = absurd (cc)

module _ {G Op : Type 0} (c : Crew G Op) (l : Layout) (p : Place) (free : List ℕ) (keeps : Keeps c l p free) (op : Op) (m : Machine)
    (after_it : IsAfter c l p free op m) where
  pub own_with : has_linked (deed_of m) ≡ has_linked (deed_of (c.anatomy.machine op)) → (hand_in m).spare ≡ (hand_in (c.anatomy.machine op)).spare →
      own c.anatomy (c.anatomy.with_machine op m) ≡ own c.anatomy op
  own_with linked spare =
      ap (λ x. rows_but c.anatomy (x && (is_insert (c.anatomy.call with_it) && has_linked (deed_of (c.anatomy.machine with_it))))
      (hand_in (c.anatomy.machine with_it)).spare) (keeps.put_effects op m after_it)
      ∙ ap (λ x. rows_but c.anatomy (c.anatomy.effects op && (is_insert x && has_linked (deed_of (c.anatomy.machine with_it))))
      (hand_in (c.anatomy.machine with_it)).spare) (keeps.put_call op m after_it)
      ∙ ap (λ x. rows_but c.anatomy (c.anatomy.effects op && (is_insert (c.anatomy.call op) && has_linked (deed_of x))) (hand_in x).spare)
      (keeps.put op m after_it)
      ∙ ap (λ t. rows_but c.anatomy (c.anatomy.effects op && (is_insert (c.anatomy.call op) && t)) (hand_in m).spare) linked
      ∙ ap (λ xs. rows_but c.anatomy (c.anatomy.effects op && (is_insert (c.anatomy.call op) && has_linked (deed_of (c.anatomy.machine op)))) xs) spare
    where
      with_it : Op
      with_it = c.anatomy.with_machine op m

  pub deed_with : deed c.anatomy (c.anatomy.with_machine op m) ≡ deed_by c.anatomy (c.anatomy.effects op) (c.anatomy.past op) (deed_of m)
  deed_with =
      ap (λ x. deed_by c.anatomy x (c.anatomy.past (c.anatomy.with_machine op m)) (deed_of (c.anatomy.machine (c.anatomy.with_machine op m))))
      (keeps.put_effects op m after_it)
      ∙ ap (λ x. deed_by c.anatomy (c.anatomy.effects op) x (deed_of (c.anatomy.machine (c.anatomy.with_machine op m)))) (keeps.put_past op m after_it)
      ∙ ap (λ x. deed_by c.anatomy (c.anatomy.effects op) (c.anatomy.past op) (deed_of x)) (keeps.put op m after_it)

  pub deed_same : deed_of m ≡ deed_of (c.anatomy.machine op) → deed c.anatomy (c.anatomy.with_machine op m) ≡ deed c.anatomy op
  deed_same same = deed_with ∙ ap (λ x. deed_by c.anatomy (c.anatomy.effects op) (c.anatomy.past op) x) same

  -- it goes on with the same rows
  pub steady_with : (h : Heap G) (name number : ℕ) (call : Call) (begun now : Option ℕ) → has_linked (deed_of m) ≡ has_linked (deed_of (c.anatomy.machine op)) →
      (hand_in m).spare ≡ (hand_in (c.anatomy.machine op)).spare → (hand_in m).ticket ≡ (hand_in (c.anatomy.machine op)).ticket →
      ((word : ℕ) (e : Entry) → waits_at h word ≡ Some e → e ≡ update_of name number call → MakesAt (deed c.anatomy op) word →
      MakesAt (deed c.anatomy (c.anatomy.with_machine op m)) word) →
      IsSteady c.anatomy l h (busy name number op call begun) (busy name number (c.anatomy.with_machine op m) call now)
  steady_with h name number call begun now linked spare ticket makes = record {
    own = own_with linked spare;
    ticket = ap (λ x. (hand_in x).ticket) (keeps.put op m after_it) ∙ ticket;
    tight = λ t. subst (AreTight l) (sym (ap (λ x. (hand_in x).spare) (keeps.put op m after_it) ∙ spare)) t;
    makes = λ word e is q. (makes word e is q.1 q.0, q.1);
  }
