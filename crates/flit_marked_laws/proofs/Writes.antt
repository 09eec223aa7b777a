-- Which events write a word, and which machines ask for them.
use Rattle.std.proofs.Common.{◌≡◌, ◌⊎◌, inl, inr, ⊎_elim, ℕ, ◌==◌, ◌&&◌, Bool, true, false, List, [], ◌∷◌, Option, Some, None, is_none, refl, sym, ◌∙◌, ap, if◌then◌else◌}
use Rattle.std.proofs.lemmas.Bool.{false≢true, eqb-true, eqb-false}
use Rattle.std.proofs.lemmas.Option.{none-some, same_Some}
use Rattle.flit_words.specs.Words.{value_of, bare_of}
use Rattle.flit_model.specs.States.{State, word_at}
use Rattle.flit_model.specs.Effects.{after, IsAllowed}
use Rattle.flit_model.specs.declared.events.Event.{Event}
use Rattle.flit_model.specs.declared.events.Event.TheVariants.{Load, ReadTag, Raise, Lower, Exchange, Persist, Store, Draw}
use Rattle.flit_place.specs.Tags.{Place, dressed, shown}
use Rattle.flit_place.proofs.CoverSteps.{index-set, won_after, lost_after}
use Rattle.flit_place.proofs.WordTags.{value-tagged}
use Rattle.flit_pv.specs.declared.queues.Noted.{Noted}
use Rattle.flit_pv.specs.Queues.{is_nil, is_full, first_persist, persist_of}
use Rattle.flit_pv.specs.VLoads.{HeldVLoad, v_load_asks}
use Rattle.flit_pv.specs.declared.v_loads.VLoading.{VLoading}
use Rattle.flit_pv.specs.declared.v_loads.VLoading.TheVariants.{Reads as V_reads, Has as V_has}
use Rattle.flit_pv.specs.Confirms.{HeldConfirm, confirm_asks, confirm_begins}
use Rattle.flit_pv.specs.declared.confirms.Confirming.{Confirming}
use Rattle.flit_pv.specs.declared.confirms.Confirming.TheVariants.{Begins, MakesRoom as Confirm_makes_room, Done}
use Rattle.flit_pv.specs.Stores.{HeldStore, store_asks}
use Rattle.flit_pv.specs.declared.stores.Storing.{Storing}
use Rattle.flit_pv.specs.declared.stores.Storing.TheVariants.{Reads as Store_reads, MakesRoom as Store_makes_room, Writes, Ended as Store_ended}
use Rattle.flit_pv.specs.Exchanges.{HeldExchange, exchange_asks, ready_asks, withdraw_asks, exchange_from}
use Rattle.flit_pv.specs.declared.exchanges.Exchanging.{Exchanging}
use Rattle.flit_pv.specs.declared.exchanges.Exchanging.TheVariants.{Ready, Tries, TriesBare, WritesBack, Withdraws, Lowers, Ended}
use Rattle.flit_rows.specs.declared.take_row.Taking.{Taking}
use Rattle.flit_rows.specs.declared.take_row.Taking.TheVariants.{Draws, Ended as Take_ended}
use Rattle.flit_rows.specs.Taking.{take_asks}
use Rattle.flit_crew.specs.Machines.{exchange_part, ToWin, exchanges_now}

-- an event writes a word: a Store, or an Exchange that is won
pub record IsWritten (s : State) (e : Event) (w : ℕ) : Type 0 where
  pub to : ℕ
  pub now : word_at (after s e) w ≡ to
  pub how : (e ≡ Store w to) ⊎ ((from : ℕ) × (e ≡ Exchange w from to) × (word_at s w ≡ from))

pub written_or : (s : State) (e : Event) (w : ℕ) → IsAllowed s e → (word_at (after s e) w ≡ word_at s w) ⊎ IsWritten s e w
written_or s (Load word) w allowed = inl refl
written_or s (ReadTag slot) w allowed = inl refl
written_or s (Raise slot) w allowed = inl refl
written_or s (Lower slot) w allowed = inl refl
written_or s (Persist word kept) w allowed = inl refl
written_or s Draw w allowed = inl refl
written_or s (Store word to) w allowed = ⊎_elim
    (λ i. inr (record { to = to; now = i.1; how = inl (ap (λ v. Store v to) (sym i.0)) }))
    (λ i. inl i.1) (index-set s.words word to w allowed)
written_or s (Exchange word from to) w allowed = by_test (word_at s word == from) refl
  where
    won : word_at s word ≡ from → (word_at (after s (Exchange word from to)) w ≡ word_at s w) ⊎ IsWritten s (Exchange word from to) w
    won is = ⊎_elim
        (λ i. inr (record {
          to = to;
          now = ap (λ t. word_at t w) (won_after s word from to is) ∙ i.1;
          how = inr (from, ap (λ v. Exchange v from to) (sym i.0), ap (word_at s) i.0 ∙ is);
        }))
        (λ i. inl (ap (λ t. word_at t w) (won_after s word from to is) ∙ i.1)) (index-set s.words word to w allowed)

    by_test : (t : Bool) → (word_at s word == from) ≡ t → (word_at (after s (Exchange word from to)) w ≡ word_at s w) ⊎ IsWritten s (Exchange word from to) w
    by_test true q = won (eqb-true (word_at s word) from q)
    by_test false q = inl (ap (λ t. word_at t w) (lost_after s word from to (eqb-false (word_at s word) from q)))

pub value_dressed : (counted : Bool) (raw : ℕ) → value_of (dressed counted raw) ≡ value_of raw
value_dressed true raw = refl
value_dressed false raw = value-tagged raw

-- ---- machines that write no word

abbrev pub writes_word : Event → Bool
writes_word (Load word) = false
writes_word (ReadTag slot) = false
writes_word (Raise slot) = false
writes_word (Lower slot) = false
writes_word (Persist word kept) = false
writes_word Draw = false
writes_word (Store word to) = true
writes_word (Exchange word from to) = true

pub first_quiet : (queue : List Noted) (e : Event) → first_persist queue ≡ Some e → writes_word e ≡ false
first_quiet [] e q = absurd (none-some e q)
first_quiet (n ∷ ns) e q = ap writes_word (sym (same_Some (persist_of n) e q))

pub load_quiet : (at : VLoading) (m : HeldVLoad) (e : Event) → v_load_asks at m ≡ Some e → writes_word e ≡ false
load_quiet V_reads m e q = ap writes_word (sym (same_Some (Load m.word) e q))
load_quiet (V_has raw) m e q = absurd (none-some e q)

pub confirm_quiet : (p : Place) (at : Confirming) (m : HeldConfirm) (e : Event) → confirm_asks p at m ≡ Some e → writes_word e ≡ false
confirm_quiet p Begins m e q = by_slot (p.slot m.word) q
  where
    by_full : (b : Bool) → (if b then first_persist m.hand.queue else None) ≡ Some e → writes_word e ≡ false
    by_full true k = first_quiet m.hand.queue e k
    by_full false k = absurd (none-some e k)

    by_slot : (slot : Option ℕ) → confirm_begins p m slot ≡ Some e → writes_word e ≡ false
    by_slot None k = by_full (shown p.counted m.raw None && is_full m.hand.queue) k
    by_slot (Some slot) k = ap writes_word (sym (same_Some (ReadTag slot) e k))
confirm_quiet p (Confirm_makes_room first) m e q = ap writes_word (sym (same_Some (persist_of first) e q))
confirm_quiet p Done m e q = absurd (none-some e q)

pub take_quiet : (at : Taking) (e : Event) → take_asks at ≡ Some e → writes_word e ≡ false
take_quiet Draws e q = ap writes_word (sym (same_Some Draw e q))
take_quiet (Take_ended took) e q = absurd (none-some e q)

-- ---- stores, and exchanges

pub record StoresNext (at : Storing) (e : Event) : Type 0 where
  pub next : Noted
  pub is : at ≡ Writes next
  pub event : e ≡ Store next.word next.kept

pub store_writes : (at : Storing) (m : HeldStore) (e : Event) → store_asks at m ≡ Some e → writes_word e ≡ true → StoresNext at e
store_writes (Store_reads how) m e q w = absurd (false≢true (ap writes_word (same_Some (Load m.drafts.word) e q) ∙ w))
store_writes (Writes next) m e q w = by_full (is_full m.hand.queue) q
  where
    by_full : (b : Bool) → (if b then first_persist m.hand.queue else Some (Store next.word next.kept)) ≡ Some e → StoresNext (Writes next) e
    by_full true k = absurd (false≢true (sym (first_quiet m.hand.queue e k) ∙ w))
    by_full false k = record { next = next; is = refl; event = sym (same_Some (Store next.word next.kept) e k) }
store_writes (Store_makes_room next first) m e q w = absurd (false≢true (ap writes_word (same_Some (persist_of first) e q) ∙ w))
store_writes (Store_ended how) m e q w = absurd (none-some e q)

-- it exchanges its word; or it withdraws its tag
pub record ExchangesNow (p : Place) (at : Exchanging) (m : HeldExchange) (e : Event) : Type 0 where
  pub old : ℕ
  pub part : exchange_part at ≡ ToWin
  pub event : e ≡ Exchange m.word old (dressed p.counted m.to)
  pub now : exchanges_now p at m ≡ true

pub record WithdrawsNow (p : Place) (at : Exchanging) (m : HeldExchange) (e : Event) : Type 0 where
  pub later : exchanges_now p at m ≡ false
  pub event : e ≡ Exchange m.word (dressed p.counted m.to) m.to

pub exchange_writes : (p : Place) (at : Exchanging) (m : HeldExchange) (e : Event) → exchange_asks p at m ≡ Some e → writes_word e ≡ true →
    ExchangesNow p at m e ⊎ WithdrawsNow p at m e
exchange_writes p Ready m e q w = by_queue m.hand.queue (p.slot m.word) refl refl (same_Some (ready_asks p m m.hand.queue (p.slot m.word)) e q)
  where
    by_queue : (queue : List Noted) (slot : Option ℕ) → m.hand.queue ≡ queue → p.slot m.word ≡ slot → ready_asks p m queue slot ≡ e →
        ExchangesNow p Ready m e ⊎ WithdrawsNow p Ready m e
    by_queue (n ∷ ns) slot a b k = absurd (false≢true (ap writes_word k ∙ w))
    by_queue [] (Some slot) a b k = absurd (false≢true (ap writes_word k ∙ w))
    by_queue [] None a b k = inl (record { old = m.from; part = refl; event = sym k; now = ap (λ x. is_nil x && is_none (p.slot m.word)) a ∙ ap is_none b })
exchange_writes p (Tries slot) m e q w = inl (record { old = m.from; part = refl; event = sym (same_Some (exchange_from p m m.from) e q); now = refl })
exchange_writes p TriesBare m e q w =
    inl (record { old = bare_of m.from; part = refl; event = sym (same_Some (exchange_from p m (bare_of m.from)) e q); now = refl })
exchange_writes p WritesBack m e q w = absurd (false≢true (ap writes_word (same_Some (Persist m.word m.to) e q) ∙ w))
exchange_writes p Withdraws m e q w = by_slot (p.slot m.word) (same_Some (withdraw_asks p m (p.slot m.word)) e q)
  where
    by_slot : (slot : Option ℕ) → withdraw_asks p m slot ≡ e → ExchangesNow p Withdraws m e ⊎ WithdrawsNow p Withdraws m e
    by_slot (Some slot) k = absurd (false≢true (ap writes_word k ∙ w))
    by_slot None k = inr (record { later = refl; event = sym k })
exchange_writes p (Lowers slot found) m e q w = absurd (false≢true (ap writes_word (same_Some (Lower slot) e q) ∙ w))
exchange_writes p (Ended how) m e q w = absurd (none-some e q)
