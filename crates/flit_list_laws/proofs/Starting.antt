-- How a call goes on: it begins a search, an exchange or a confirmation, or gives its reply.
use Rattle.std.proofs.Common.{◌≡◌, ◌≢◌, ℕ, ◌^◌, ◌<◌, ◌≤◌, ◌&&◌, nat_le, not, Bool, true, false, List, [], ◌∷◌, length, Option, Some, None, is_none, inl, inr, refl, sym, ◌∙◌, ap, subst, if◌then◌else◌}
use Rattle.std.proofs.lemmas.Bool.{false≢true, leb-true}
use Rattle.flit_words.specs.declared.layouts.Layout.{Layout}
use Rattle.flit_words.specs.Layouts.{head_of_key}
use Rattle.flit_words.specs.Words.{version_of}
use Rattle.flit_model.specs.Histories.{is_update_by}
use Rattle.flit_model.specs.declared.events.Event.{Event}
use Rattle.flit_model.specs.declared.calls.Reply.{Reply}
use Rattle.flit_model.specs.declared.calls.Reply.TheVariants.{Worn}
use Rattle.flit_place.specs.Tags.{Place}
use Rattle.flit_pv.specs.declared.hands.Hand.{Hand}
use Rattle.flit_pv.specs.Drafts.{next_bare}
use Rattle.flit_pv.specs.Queues.{first_persist}
use Rattle.flit_pv.specs.Confirms.{HeldConfirm, confirm_started, confirm_asked, confirm_left}
use Rattle.flit_pv.specs.Exchanges.{HeldExchange, exchange_started}
use Rattle.flit_pv.specs.declared.exchanges.Exchanging.TheVariants.{Ready, Ended}
use Rattle.flit_pv.specs.declared.exchanges.Exchanged.TheVariants.{Worn as Exchange_worn}
use Rattle.flit_runs.specs.Workings.{Exchanges, Confirms, ToVLoad, ToConfirm, ToExchange, ToComplete, asks, leaves, started}
use Rattle.flit_runs.specs.Worlds.{HasSeen}
use Rattle.flit_runs.specs.Soundness.{Needs}
use Rattle.flit_structure.specs.Meanings.{IsServed, key_of}
use Rattle.flit_structure.specs.Lawful.{fits}
use Rattle.flit_crew.specs.Machines.{Works, Fresh, has_ended}
use Rattle.flit_crew.specs.Heaps.{IsOpen}
use Rattle.flit_crew.specs.Anatomies.{deed_by}
use Rattle.flit_crew.specs.Crews.{Who, Goes, MayBegin, MayReply, IsLimited, left, deed_if}
use Rattle.flit_list_steps.specs.declared.operations.Goal.{Goal}
use Rattle.flit_list_steps.specs.declared.operations.Which.{Which}
use Rattle.flit_list_steps.specs.Operations.{At, Confirming, HeldOp}
use Rattle.flit_list_steps.specs.Steps.{Carried, stands, with_search, searches, answers, confirms_by}
use Rattle.flit_list_heap.specs.Links.{LinkWord, Head as Head_word}
use Rattle.flit_list_heap.specs.Keeping.{ListHeap, Kept}
use Rattle.flit_list_heap.proofs.Places.{link_open}
use Rattle.flit_list_laws.specs.Walks.{Loaded, Walk}
use Rattle.flit_list_laws.specs.Knowing.{IsAlone, Says}
use Rattle.flit_list_laws.specs.ListAnatomy.{machine_at, list_anatomy}
use Rattle.flit_list_laws.specs.ListCrew.{KnowsAt, Knows, list_crew}
use Rattle.flit_list_laws.proofs.Others.{and_false}

module _ (l : Layout) (p : Place) (free : List ℕ) (h : ListHeap) (kept : Kept l free h) (me : Who) (early : me.first ≤ length h.progress.settled)
    (served : IsServed l me.call) where
  abbrev pub GoesOn : Hand → HeldOp → Type 0
  GoesOn hand next = Goes (list_crew l p free) l p free h me hand next

  -- a search begins
  pub go_search : (op : Carried) → op.call ≡ me.call → Walk → Loaded → (hand : Hand) → IsAlone l me → GoesOn hand (searches l op hand)
  go_search op same w n hand alone = Goes.changes me hand (with_search hand) (searches l op hand)
      (record { name = refl; number = refl; queue = refl; ticket = refl; queued = refl })
      (Goes.starts me (with_search hand) (ToVLoad (head_of_key l (key_of op.call))) (searches l op hand)
      (link_open l free h kept (Head_word (head_of_key l (key_of op.call))) (kept.chained.buckets (key_of op.call))) refl refl same tt (record {
        first = early;
        served = served;
        walk = w;
        next = n;
        at = record { alone = alone; word = ap (λ c. head_of_key l (key_of c)) same; read = tt };
      }))

  -- the call has its reply
  pub go_answer : (op : Carried) → op.call ≡ me.call → (w : Walk) → Loaded → (hand : Hand) (reply : Reply) → fits me.call reply ≡ true →
      IsLimited (list_crew l p free) l p free h me hand reply → Says l h me reply w → GoesOn hand (answers op hand reply)
  go_answer op same w n hand reply may limited says = Goes.starts me hand ToComplete (answers op hand reply) tt refl
      (and_false (is_none (first_persist hand.queue))) same
      (record {
        fits = may;
        made = subst (λ c. deed_by (list_anatomy l p free) false (is_update_by op.call reply) Fresh ≡ deed_if (list_crew l p free) l p free (is_update_by c reply))
            same (ended (is_update_by op.call reply));
        limited = limited;
      })
      (record { first = early; served = served; walk = w; next = n; at = says })
    where
      ended : (made : Bool) → deed_by (list_anatomy l p free) false made Fresh ≡ deed_if (list_crew l p free) l p free made
      ended true = refl
      ended false = refl

  pub go_worn : (op : Carried) → op.call ≡ me.call → Walk → Loaded → (hand : Hand) (word version : ℕ) →
      IsLimited (list_crew l p free) l p free h me hand (Worn word version) → GoesOn hand (answers op hand (Worn word version))
  go_worn op same w n hand word version limited = go_answer op same w n hand (Worn word version) refl limited tt

  -- ---- an exchange, which may be worn at once

  abbrev pub worn_one : Hand → ℕ → ℕ → HeldExchange
  worn_one hand word old = record { hand = hand; word = word; from = old; to = 0; at = Ended (Exchange_worn word (version_of old)) }

  abbrev pub fresh_one : Hand → ℕ → ℕ → ℕ → HeldExchange
  fresh_one hand word old value = record { hand = hand; word = word; from = old; to = next_bare old value; at = Ready }

  -- what comes of it, in this phase
  pub record Fresh_so (hand : Hand) (word old value : ℕ) (next : HeldOp) : Type 0 where
    pub at : machine_at next.at ≡ Works (Exchanges (fresh_one hand word old value))
    pub call : next.call ≡ me.call
    pub knows : Knows l h me next

  pub go_exchange : (hand : Hand) (word old value : ℕ) (next : HeldExchange → HeldOp) → IsOpen l free h word → value < 2 ^ 32 →
      Needs me.needs word (version_of old) → (l.limit ≤ version_of old → GoesOn hand (next (worn_one hand word old))) →
      Fresh_so hand word old value (next (fresh_one hand word old value)) → GoesOn hand (next (exchange_started hand word old value l.limit))
  go_exchange hand word old value next open_word low needed worn fresh = by_limit (nat_le l.limit (version_of old)) refl
    where
      either : Bool → HeldExchange
      either b = if b then worn_one hand word old else fresh_one hand word old value

      may : MayBegin (list_crew l p free) l p free h me hand (ToExchange word old value l.limit)
      may = (open_word, low, refl, needed)

      by_limit : (b : Bool) → nat_le l.limit (version_of old) ≡ b → GoesOn hand (next (either b))
      by_limit true e =
          let same : started (ToExchange word old value l.limit) hand ≡ Exchanges (worn_one hand word old) = ap (λ b. Exchanges (either b)) e in
          Goes.passes me hand (ToExchange word old value l.limit) (next (worn_one hand word old)) may refl (ap (asks p) same)
          (subst (λ w. Goes (list_crew l p free) l p free h (left (list_crew l p free) l p free me w) (leaves w) (next (worn_one hand word old)))
          (sym same) (worn (leb-true l.limit (version_of old) e)))
      by_limit false e = Goes.starts me hand (ToExchange word old value l.limit) (next (fresh_one hand word old value)) may
          (fresh.at ∙ sym (ap (λ b. Works (Exchanges (either b))) e)) (ap (has_ended p) fresh.at) fresh.call tt fresh.knows

  -- ---- a confirmation, which may make no event

  pub go_confirm : (op : Carried) → op.call ≡ me.call → (goal : Goal) (which : Which) (hand : Hand) (word raw : ℕ) (next : HeldOp) → HasSeen me.seen word raw →
      Goes (list_crew l p free) l p free h (left (list_crew l p free) l p free me (Confirms (confirm_started hand word raw)))
      (confirm_left (confirm_started hand word raw)) next →
      Knows l h me (stands op (Confirming goal which (confirm_started hand word raw))) →
      GoesOn hand (confirms_by p op goal which (confirm_started hand word raw) next)
  go_confirm op same goal which hand word raw next seen goes knows = by_event (is_none (confirm_asked p m)) refl
    where
      m : HeldConfirm
      m = confirm_started hand word raw

      none_asked : (o : Option Event) → is_none o ≡ true → o ≡ None
      none_asked None e = refl
      none_asked (Some x) e = absurd (cc)

      by_event : (b : Bool) → is_none (confirm_asked p m) ≡ b → GoesOn hand (if b then next else stands op (Confirming goal which m))
      by_event true e = Goes.passes me hand (ToConfirm word raw) next seen refl (none_asked (confirm_asked p m) e) goes
      by_event false e = Goes.starts me hand (ToConfirm word raw) (stands op (Confirming goal which m)) seen refl (ap (λ b. b && not false) e) same tt knows
