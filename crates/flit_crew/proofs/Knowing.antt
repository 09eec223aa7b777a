-- The facts of a machine: they last while others change the heap, and stand where it starts.
use Rattle.std.proofs.Common.{◌≡◌, ◌⊎◌, inl, inr, ⊎_elim, ℕ, ◌+◌, ◌≤◌, nat_le, Bool, true, false, List, [], ◌∷◌, refl, sym, ap, subst, arith}
use Rattle.std.specs.Prelude.{Contains}
use Rattle.std.specs.List.{AllByRecursion}
use Rattle.flit_words.specs.declared.layouts.Layout.{Layout}
use Rattle.flit_words.specs.Words.{version_of}
use Rattle.flit_model.specs.Histories.{is_update_by}
use Rattle.flit_model.specs.declared.calls.Reply.{Reply}
use Rattle.flit_model.specs.declared.calls.Reply.TheVariants.{Yes, No, Found, Full, Worn}
use Rattle.flit_model.proofs.Elements.{all_weaker}
use Rattle.flit_place.specs.Tags.{Place}
use Rattle.flit_pv.specs.declared.hands.Hand.{Hand}
use Rattle.flit_pv.specs.Exchanges.{exchange_started}
use Rattle.flit_pv.specs.Stores.{store_started}
use Rattle.flit_rows.specs.Shares.{rows_in}
use Rattle.flit_structure.specs.Lawful.{fits}
use Rattle.flit_runs.specs.Workings.{Working, Idles, Loads, VLoads, Confirms, Exchanges, VExchanges, Stores, Fences, Completes, Evicts, words_from, Task, ToLoad, ToVLoad, ToConfirm, ToExchange, ToVExchange, ToStore, ToFence, ToComplete, ToEvict, started, takes_over}
use Rattle.flit_runs.specs.Soundness.{Needs}
use Rattle.flit_crew.specs.Machines.{Machine, Works, Takes, has_ended}
use Rattle.flit_crew.specs.Heaps.{Heap, at_shadow, HaveStayed}
use Rattle.flit_crew.specs.Fillings.{Filling, IsOfRows}
use Rattle.flit_crew.specs.Anatomies.{own, deed}
use Rattle.flit_crew.specs.Crews.{Crew, Who, Facts, WorkingFacts, StandsRight, Fills, MayReply, IsLimited, ExchangesAt, MayBegin, IsFor, IsSpareWord, deed_if, taking_over}
use Rattle.flit_crew.proofs.Filling.{fills_last, starts_filling}

module _ {G Op : Type 0} (c : Crew G Op) (l : Layout) (p : Place) (free : List ℕ) where
  -- no version that is persistent is lost
  abbrev pub HasRisen : Heap G → Heap G → Type 0
  HasRisen h k = (w : ℕ) → version_of (at_shadow h w) ≤ version_of (at_shadow k w)

  through : (a b d : ℕ) → a ≤ b → b ≤ d → a ≤ d
  through a b d i j = omega (arith, i, j)

  -- ---- they last

  limited_last : (h k : Heap G) (me you : Who) (hand : Hand) → HasRisen h k → ((w v : ℕ) → Needs me.needs w v → Needs you.needs w v) → (r : Reply) →
      IsLimited c l p free h me hand r → IsLimited c l p free k you hand r
  limited_last h k me you hand risen needs Yes x = tt
  limited_last h k me you hand risen needs No x = tt
  limited_last h k me you hand risen needs (Found value) x = tt
  limited_last h k me you hand risen needs (Full ticket) x = x
  limited_last h k me you hand risen needs (Worn word version) x = (
    x.0,
    ⊎_elim (λ i. inl (through version (version_of (at_shadow h word)) (version_of (at_shadow k word)) i (risen word))) (λ n. inr (needs word version n)) x.1,
  )

  pub reply_last : (h k : Heap G) (me you : Who) (op : Op) (hand : Hand) → HasRisen h k → you.call ≡ me.call →
      ((w v : ℕ) → Needs me.needs w v → Needs you.needs w v) → MayReply c l p free h me hand op → MayReply c l p free k you hand op
  reply_last h k me you op hand risen call needs x = record {
    fits = subst (λ y. fits y (c.anatomy.reply op) ≡ true) (sym call) x.fits;
    made = subst (λ y. deed c.anatomy op ≡ deed_if c l p free (is_update_by y (c.anatomy.reply op))) (sym call) x.made;
    limited = limited_last h k me you hand risen needs (c.anatomy.reply op) x.limited;
  }

  working_last : (h k : Heap G) (me you : Who) (op : Op) → HaveStayed l h k (own c.anatomy op) → HasRisen h k → you.call ≡ me.call →
      ((w v : ℕ) → Needs me.needs w v → Needs you.needs w v) → (w : Working) → WorkingFacts c l p free h me op w → WorkingFacts c l p free k you op w
  working_last h k me you op stayed risen call needs (Idles hand) x = tt
  working_last h k me you op stayed risen call needs (Loads m) x = tt
  working_last h k me you op stayed risen call needs (VLoads m) x = tt
  working_last h k me you op stayed risen call needs (Confirms m) x = tt
  working_last h k me you op stayed risen call needs (Exchanges m) x = x
  working_last h k me you op stayed risen call needs (VExchanges m) x = tt
  working_last h k me you op stayed risen call needs (Stores m) x = record {
    own = x.own;
    limit = x.limit;
    filled = fills_last l h k (own c.anatomy op) stayed risen (c.anatomy.storing op) x.own m.at m x.filled;
  }
  working_last h k me you op stayed risen call needs (Fences m) x = tt
  working_last h k me you op stayed risen call needs (Completes m) x = reply_last h k me you op m.fence.hand risen call needs x
  working_last h k me you op stayed risen call needs (Evicts m) x = tt

  pub facts_last : (h k : Heap G) (me you : Who) (op : Op) → HaveStayed l h k (own c.anatomy op) → HasRisen h k → you.call ≡ me.call →
      ((w v : ℕ) → Needs me.needs w v → Needs you.needs w v) → (m : Machine) → Facts c l p free h me op m → Facts c l p free k you op m
  facts_last h k me you op stayed risen call needs (Works w) x = working_last h k me you op stayed risen call needs w x
  facts_last h k me you op stayed risen call needs (Takes m) x = x

  -- a TakeRow stands right
  pub stands_right : (h : Heap G) (me : Who) (op : Op) (m : Machine) → Facts c l p free h me op m → StandsRight c l p free m
  stands_right h me op (Works w) x = tt
  stands_right h me op (Takes m) x = x

  -- in the same heap
  pub facts_more : (h : Heap G) (me you : Who) (op : Op) → you.call ≡ me.call → ((w v : ℕ) → Needs me.needs w v → Needs you.needs w v) → (m : Machine) →
      Facts c l p free h me op m → Facts c l p free h you op m
  facts_more h me you op call needs m x = facts_last h h me you op (λ row w own is. refl) (λ w. same_le (version_of (at_shadow h w))) call needs m x
    where
      same_le : (n : ℕ) → n ≤ n
      same_le n = omega arith

  -- ---- they stand where it starts

  exchange_starts : (hand : Hand) (w old value limit : ℕ) → has_ended p (Works (Exchanges (exchange_started hand w old value limit))) ≡ false →
      ExchangesAt c l p free (exchange_started hand w old value limit).at
  exchange_starts hand w old value limit going = by_test (nat_le limit (version_of old)) refl going
    where
      by_test : (t : Bool) → nat_le limit (version_of old) ≡ t → has_ended p (Works (Exchanges (exchange_started hand w old value limit))) ≡ false →
          ExchangesAt c l p free (exchange_started hand w old value limit).at
      by_test true e g = absurd (clash (rw e at g))
        where
          clash : true ≡ false → ⊥
          clash x = cc
      by_test false e g = rw e tt

  own_words : (me : Who) (hand : Hand) (op : Op) → ((row : ℕ) → Contains (rows_in hand.spare) row → Contains (own c.anatomy op) row) → (ws : List ℕ) →
      AllByRecursion (IsSpareWord c l p free me hand) ws → AllByRecursion (IsOfRows l (own c.anatomy op)) ws
  own_words me hand op rows ws all =
      all_weaker (IsSpareWord c l p free me hand) (IsOfRows l (own c.anatomy op)) (λ w k. (k.row, rows k.row k.own, k.word)) ws all

  store_starts : (h : Heap G) (me : Who) (hand : Hand) (op : Op) (first : ℕ) (values : List ℕ) (limit : ℕ) →
      has_ended p (Works (Stores (store_started hand first values limit))) ≡ false →
      ((row : ℕ) → Contains (rows_in hand.spare) row → Contains (own c.anatomy op) row) →
      AllByRecursion (IsSpareWord c l p free me hand) (words_from first values) → limit ≡ l.limit →
      c.anatomy.storing op ≡ record { first = first; values = values } → Fills c l p free h op (store_started hand first values limit)
  store_starts h me hand op first [] limit going rows words is filling = absurd (clash going)
    where
      clash : true ≡ false → ⊥
      clash x = cc
  store_starts h me hand op first (v ∷ vs) limit going rows words is filling = record {
    own = subst (λ (f : Filling). AllByRecursion (IsOfRows l (own c.anatomy op)) (words_from f.first f.values)) (sym filling)
        (own_words me hand op rows (words_from first (v ∷ vs)) words);
    limit = is;
    filled = starts_filling l h (c.anatomy.storing op) (store_started hand first (v ∷ vs) limit) v vs refl (ap (λ f. f.values) filling)
        (sym (ap (λ f. f.first) filling)) refl;
  }

  pub started_facts : (h : Heap G) (me : Who) (hand : Hand) (op : Op) (task : Task) → MayBegin c l p free h me hand task →
      (takes_over task ≡ [] ⊎ ((row : ℕ) → Contains (rows_in hand.spare) row → Contains (own c.anatomy op) row)) →
      has_ended p (Works (started task hand)) ≡ false → IsFor c l p free h me hand task op →
      Facts c l p free h (taking_over c l p free me task) op (Works (started task hand))
  started_facts h me hand op (ToLoad w) may rows going is = tt
  started_facts h me hand op (ToVLoad w) may rows going is = tt
  started_facts h me hand op (ToConfirm w raw) may rows going is = tt
  started_facts h me hand op (ToExchange w old value limit) may rows going is = exchange_starts hand w old value limit going
  started_facts h me hand op (ToVExchange w old value limit) may rows going is = absurd may
  started_facts h me hand op (ToStore first [] limit) may rows going is = absurd (clash going)
    where
      clash : true ≡ false → ⊥
      clash x = cc
  started_facts h me hand op (ToStore first (v ∷ vs) limit) may rows going is =
      store_starts h me hand op first (v ∷ vs) limit going (⊎_elim (λ e. absurd (clash e)) (λ k. k) rows) may.0 may.2 is
    where
      clash : first ∷ words_from (first + 1) vs ≡ [] → ⊥
      clash x = cc
  started_facts h me hand op ToFence may rows going is = tt
  started_facts h me hand op ToComplete may rows going is = reply_last h h me (taking_over c l p free me ToComplete) op hand
      (λ w. same_le (version_of (at_shadow h w))) refl (λ w v n. n) is
    where
      same_le : (n : ℕ) → n ≤ n
      same_le n = omega arith
  started_facts h me hand op (ToEvict w) may rows going is = absurd may
