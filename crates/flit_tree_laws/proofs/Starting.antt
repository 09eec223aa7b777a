-- How a call goes on: it begins a seek, a load or an exchange, or gives its reply.
use Rattle.std.proofs.Common.{◌≡◌, ℕ, ◌^◌, ◌<◌, ◌≤◌, nat_le, Bool, true, false, List, length, is_none, inr, refl, sym, ◌∙◌, ap, subst, if◌then◌else◌}
use Rattle.std.proofs.lemmas.Bool.{leb-true}
use Rattle.flit_words.specs.declared.layouts.Layout.{Layout}
use Rattle.flit_words.specs.Words.{version_of, bare_of}
use Rattle.flit_model.specs.Histories.{is_update_by}
use Rattle.flit_model.specs.declared.calls.Reply.{Reply}
use Rattle.flit_model.specs.declared.calls.Reply.TheVariants.{Worn}
use Rattle.flit_place.specs.Tags.{Place}
use Rattle.flit_place.proofs.WordTags.{version-bare}
use Rattle.flit_pv.specs.declared.hands.Hand.{Hand}
use Rattle.flit_pv.specs.Drafts.{next_bare}
use Rattle.flit_pv.specs.Queues.{first_persist}
use Rattle.flit_pv.specs.Exchanges.{HeldExchange, exchange_started}
use Rattle.flit_pv.specs.declared.exchanges.Exchanging.TheVariants.{Ready, Ended}
use Rattle.flit_pv.specs.declared.exchanges.Exchanged.TheVariants.{Worn as Exchange_worn}
use Rattle.flit_runs.specs.Workings.{Exchanges, ToLoad, ToExchange, ToComplete, asks, leaves, started}
use Rattle.flit_runs.specs.Soundness.{Needs}
use Rattle.flit_structure.specs.Meanings.{IsServed}
use Rattle.flit_structure.specs.Lawful.{fits}
use Rattle.flit_crew.specs.Machines.{Works, Fresh, has_ended}
use Rattle.flit_crew.specs.Heaps.{IsOpen}
use Rattle.flit_crew.specs.Anatomies.{deed_by}
use Rattle.flit_crew.specs.Crews.{Who, Goes, MayBegin, IsLimited, left, deed_if}
use Rattle.flit_tree_heap.specs.Views.{TreeHeap}
use Rattle.flit_tree_heap.specs.Kept.{IsKept}
use Rattle.flit_tree_heap.specs.Searches.{HasLoaded}
use Rattle.flit_tree_heap.proofs.Rows.{edge_open}
use Rattle.flit_tree_knowing.proofs.Loading.{top_open}
use Rattle.flit_tree_steps.specs.declared.operations.EdgeWord.{EdgeWord}
use Rattle.flit_tree_steps.specs.Operations.{HeldOp}
use Rattle.flit_tree_steps.specs.Steps.{Carried, with_search, seeks, answers}
use Rattle.flit_tree_laws.specs.Knowing.{IsAlone, Says}
use Rattle.flit_tree_laws.specs.TreeAnatomy.{machine_at, tree_anatomy}
use Rattle.flit_tree_laws.specs.TreeCrew.{Knows, tree_crew}
use Rattle.flit_tree_laws.proofs.Parts.{and_false}

module _ (l : Layout) (p : Place) (free : List ℕ) (h : TreeHeap) (K : IsKept l free h) (me : Who) (early : me.first ≤ length h.progress.settled)
    (served : IsServed l me.call) where
  abbrev pub GoesOn : Hand → HeldOp → Type 0
  GoesOn hand next = Goes (tree_crew l p free) l p free h me hand next

  abbrev pub Limited : Hand → Reply → Type 0
  Limited hand reply = IsLimited (tree_crew l p free) l p free h me hand reply

  -- an edge that was loaded may be exchanged
  pub loaded_open : (edge : EdgeWord) → HasLoaded l h me.needs edge.word (bare_of edge.raw) → IsOpen l free h edge.word
  loaded_open edge x = edge_open l free h K edge.word x.at

  pub loaded_needed : (edge : EdgeWord) → HasLoaded l h me.needs edge.word (bare_of edge.raw) → Needs me.needs edge.word (version_of edge.raw)
  loaded_needed edge x = subst (Needs me.needs edge.word) (version-bare edge.raw) x.needed

  -- a seek begins
  pub go_seek : (op : Carried) → op.call ≡ me.call → (hand : Hand) → IsAlone l free h me → GoesOn hand (seeks op hand)
  go_seek op same hand alone = Goes.changes me hand (with_search hand) (seeks op hand)
      (record { name = refl; number = refl; queue = refl; ticket = refl; queued = refl })
      (Goes.starts me (with_search hand) (ToLoad 4) (seeks op hand) (top_open l free h K) refl refl same tt (record {
        first = early;
        served = served;
        at = record { alone = alone; word = refl; read = tt };
      }))

  -- the call has its reply
  pub go_answer : (op : Carried) → op.call ≡ me.call → (hand : Hand) (reply : Reply) → fits me.call reply ≡ true → Limited hand reply → Says l free h me reply →
      GoesOn hand (answers op hand reply)
  go_answer op same hand reply may limited says = Goes.starts me hand ToComplete (answers op hand reply) tt refl
      (and_false (is_none (first_persist hand.queue))) same
      (record {
        fits = may;
        made = subst (λ c. deed_by (tree_anatomy l p free) false (is_update_by op.call reply) Fresh ≡ deed_if (tree_crew l p free) l p free
            (is_update_by c reply))
            same (ended (is_update_by op.call reply));
        limited = limited;
      })
      (record { first = early; served = served; at = says })
    where
      ended : (made : Bool) → deed_by (tree_anatomy l p free) false made Fresh ≡ deed_if (tree_crew l p free) l p free made
      ended true = refl
      ended false = refl

  pub go_worn : (op : Carried) → op.call ≡ me.call → (hand : Hand) (word version : ℕ) → Limited hand (Worn word version) →
      GoesOn hand (answers op hand (Worn word version))
  go_worn op same hand word version limited = go_answer op same hand (Worn word version) refl limited tt

  -- ---- an exchange, which may be worn at once

  abbrev pub worn_one : Hand → ℕ → ℕ → HeldExchange
  worn_one hand word old = record { hand = hand; word = word; from = old; to = 0; at = Ended (Exchange_worn word (version_of old)) }

  abbrev pub fresh_one : Hand → ℕ → ℕ → ℕ → HeldExchange
  fresh_one hand word old value = record { hand = hand; word = word; from = old; to = next_bare old value; at = Ready }

  -- what comes of it, in this phase
  pub record Fresh_so (hand : Hand) (word old value : ℕ) (next : HeldOp) : Type 0 where
    pub at : machine_at next.at ≡ Works (Exchanges (fresh_one hand word old value))
    pub call : next.call ≡ me.call
    pub knows : Knows l free h me next

  pub go_exchange : (hand : Hand) (edge : EdgeWord) (value : ℕ) (next : HeldExchange → HeldOp) → HasLoaded l h me.needs edge.word (bare_of edge.raw) →
      value < 2 ^ 32 → (Limited hand (Worn edge.word (version_of edge.raw)) → GoesOn hand (next (worn_one hand edge.word edge.raw))) →
      Fresh_so hand edge.word edge.raw value (next (fresh_one hand edge.word edge.raw value)) →
      GoesOn hand (next (exchange_started hand edge.word edge.raw value l.limit))
  go_exchange hand edge value next loaded low worn fresh = by_limit (nat_le l.limit (version_of edge.raw)) refl
    where
      either : Bool → HeldExchange
      either b = if b then worn_one hand edge.word edge.raw else fresh_one hand edge.word edge.raw value

      may : MayBegin (tree_crew l p free) l p free h me hand (ToExchange edge.word edge.raw value l.limit)
      may = (loaded_open edge loaded, low, refl, loaded_needed edge loaded)

      by_limit : (b : Bool) → nat_le l.limit (version_of edge.raw) ≡ b → GoesOn hand (next (either b))
      by_limit true e =
          let same : started (ToExchange edge.word edge.raw value l.limit) hand ≡ Exchanges (worn_one hand edge.word edge.raw) = ap
          (λ b. Exchanges (either b)) e in
          Goes.passes me hand (ToExchange edge.word edge.raw value l.limit) (next (worn_one hand edge.word edge.raw)) may refl (ap (asks p) same)
          (subst (λ w. Goes (tree_crew l p free) l p free h (left (tree_crew l p free) l p free me w) (leaves w) (next (worn_one hand edge.word edge.raw)))
          (sym same) (worn (leb-true l.limit (version_of edge.raw) e, inr (loaded_needed edge loaded))))
      by_limit false e = Goes.starts me hand (ToExchange edge.word edge.raw value l.limit) (next (fresh_one hand edge.word edge.raw value)) may
          (fresh.at ∙ sym (ap (λ b. Works (Exchanges (either b))) e)) (ap (has_ended p) fresh.at) fresh.call tt fresh.knows
