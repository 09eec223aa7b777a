-- The facts of a machine, with its operation's machine further on.
use Rattle.std.proofs.Common.{◌≡◌, ℕ, ◌≤◌, ◌&&◌, ◌==◌, Bool, true, false, List, [], ◌∷◌, Option, Some, None, sym, ◌∙◌, ap, subst, if◌then◌else◌, arith}
use Rattle.std.specs.List.{AllByRecursion}
use Rattle.flit_words.specs.declared.layouts.Layout.{Layout}
use Rattle.flit_words.specs.Words.{version_of, is_tagged, bare_of}
use Rattle.flit_model.specs.Histories.{is_update_by}
use Rattle.flit_model.specs.declared.events.Event.{Event}
use Rattle.flit_model.specs.declared.calls.Reply.{Reply}
use Rattle.flit_model.specs.declared.calls.Reply.TheVariants.{Yes, No, Found, Full, Worn}
use Rattle.flit_place.specs.Tags.{Place}
use Rattle.flit_pv.specs.declared.queues.Noted.{Noted}
use Rattle.flit_pv.specs.declared.hands.Hand.{Hand}
use Rattle.flit_pv.specs.declared.exchanges.Exchanging.{Exchanging}
use Rattle.flit_pv.specs.declared.exchanges.Exchanging.TheVariants.{Ready, Tries, TriesBare, WritesBack, Withdraws, Lowers, Ended}
use Rattle.flit_pv.specs.Exchanges.{HeldExchange, exchange_asks, exchange_takes, ready_takes, exchange_at, exchange_loses}
use Rattle.flit_pv.specs.Fences.{HeldComplete}
use Rattle.flit_pv.specs.Stores.{HeldStore}
use Rattle.flit_rows.specs.Taking.{lacks, is_past}
use Rattle.flit_structure.specs.Lawful.{fits, rows_needed}
use Rattle.flit_runs.specs.Workings as run
use Rattle.flit_runs.specs.Workings.{Completes, Stores, words_from}
use Rattle.flit_crew.specs.Machines.{Works, deed_of, has_linked, hand_in, machine_takes}
use Rattle.flit_crew.specs.Heaps.{Heap, at_shadow}
use Rattle.flit_crew.specs.Fillings.{Filling, FillsAt, IsOfRows}
use Rattle.flit_crew.specs.Anatomies.{own}
use Rattle.flit_crew.specs.Crews.{Crew, Who, IsFurther, Facts, Fills, MayReply, IsLimited, ExchangesAt, deed_if}
use Rattle.flit_crew.specs.Obligations.{Keeps, IsAfter}
use Rattle.flit_crew.proofs.Knowing.{reply_last}
use Rattle.flit_crew.proofs.Standing.{own_with, deed_same}
use Rattle.flit_crew.proofs.Stepping.{fenced_on}

module _ {G Op : Type 0} (c : Crew G Op) (l : Layout) (p : Place) (free : List ℕ) where
  -- ---- an exchange that is under way ends won or lost

  ready_not_worn : (m : HeldExchange) (told : ℕ) (queue : List Noted) (slot : Option ℕ) → m.at ≡ Ready →
      ExchangesAt c l p free (ready_takes m told queue slot).at
  ready_not_worn m told (n ∷ ns) slot is = subst (ExchangesAt c l p free) (sym is) tt
  ready_not_worn m told [] (Some slot) is = tt
  ready_not_worn m told [] None is = by_test (told == m.from) (is_tagged m.from && (told == bare_of m.from))
    where
      by_test : (t s : Bool) →
          ExchangesAt c l p free (if t then exchange_at m WritesBack else (if s then exchange_at m TriesBare else exchange_loses m told)).at
      by_test true s = tt
      by_test false true = tt
      by_test false false = tt

  pub never_worn : (m : HeldExchange) (t : Exchanging) → m.at ≡ t → (told : ℕ) (e : Event) → exchange_asks p t m ≡ Some e →
      ExchangesAt c l p free (exchange_takes p t m told).at
  never_worn m Ready is told e q = ready_not_worn m told m.hand.queue (p.slot m.word) is
  never_worn m (Tries slot) is told e q = by_test (told == m.from)
    where
      by_test : (t : Bool) → ExchangesAt c l p free (if t then WritesBack else Lowers slot told)
      by_test true = tt
      by_test false = tt
  never_worn m TriesBare is told e q = by_test (told == bare_of m.from)
    where
      by_test : (t : Bool) → ExchangesAt c l p free (if t then exchange_at m WritesBack else exchange_loses m told).at
      by_test true = tt
      by_test false = tt
  never_worn m WritesBack is told e q = tt
  never_worn m Withdraws is told e q = tt
  never_worn m (Lowers slot found) is told e q = tt
  never_worn m (Ended how) is told e q = absurd (cc)

  module _ (keeps : Keeps c l p free) (op : Op) where
    -- ---- a PrivateStore

    pub fills_go : (m n : HeldStore) → IsAfter c l p free op (Works (Stores n)) → c.anatomy.machine op ≡ Works (Stores m) → n.hand.spare ≡ m.hand.spare →
        n.drafts.limit ≡ m.drafts.limit → (h k : Heap G) → FillsAt l k (c.anatomy.storing op) n.at n → Fills c l p free h op m →
        Fills c l p free k (c.anatomy.with_machine op (Works (Stores n))) n
    fills_go m n after_it is spare limit h k filled x =
        let filling = keeps.put_storing op (Works (Stores n)) after_it in
        let rows : own c.anatomy (c.anatomy.with_machine op (Works (Stores n))) ≡ own c.anatomy op = own_with c l p free keeps op (Works (Stores n)) after_it
        (sym (ap (λ y. has_linked (deed_of y)) is)) (spare ∙ ap (λ y. (hand_in y).spare) (sym is)) in
        record {
          own = subst
              (λ (f : Filling). AllByRecursion (IsOfRows l (own c.anatomy (c.anatomy.with_machine op (Works (Stores n))))) (words_from f.first f.values))
              (sym filling)
              (subst (λ xs. AllByRecursion (IsOfRows l xs) (words_from (c.anatomy.storing op).first (c.anatomy.storing op).values)) (sym rows) x.own);
          limit = limit ∙ x.limit;
          filled = subst (λ f. FillsAt l k f n.at n) (sym filling) filled;
        }

    -- ---- a Complete writes back

    limited_hand : (h : Heap G) (me : Who) (was now : Hand) → now.spare ≡ was.spare → now.ticket ≡ was.ticket → (r : Reply) →
        IsLimited c l p free h me was r → IsLimited c l p free h me now r
    limited_hand h me was now spare ticket Yes x = tt
    limited_hand h me was now spare ticket No x = tt
    limited_hand h me was now spare ticket (Found value) x = tt
    limited_hand h me was now spare ticket (Full told) x = (
      ap (lacks (rows_needed l.kind)) spare ∙ x.0,
      ap (is_past free) ticket ∙ x.1,
      x.2 ∙ sym ticket,
    )
    limited_hand h me was now spare ticket (Worn word version) x = x

    pub reply_goes : (m : HeldComplete) → c.anatomy.machine op ≡ Works (Completes m) → (h : Heap G) (me you : Who) → IsFurther me you →
        Facts c l p free h me op (Works (Completes m)) →
        Facts c l p free h you (c.anatomy.with_machine op (Works (run.takes p (Completes m) 0))) (Works (run.takes p (Completes m) 0))
    reply_goes m is h me you on x =
        let after_it : IsAfter c l p free op (Works (run.takes p (Completes m) 0)) = (0, ap (λ y. machine_takes p free y 0) (sym is)) in
        let r : MayReply c l p free h you m.fence.hand op = reply_last c l p free h h me you op m.fence.hand (λ w. same_le (version_of (at_shadow h w))) on.call
        on.needs x in
        let same = keeps.put_reply op (Works (run.takes p (Completes m) 0)) after_it in
        let hand = fenced_on m.fence.hand m.fence.hand.queue in
        record {
          fits = ap (fits you.call) same ∙ r.fits;
          made = deed_same c l p free keeps op (Works (run.takes p (Completes m) 0)) after_it (sym (ap deed_of is)) ∙ r.made
              ∙ ap (λ y. deed_if c l p free (is_update_by you.call y)) (sym same);
          limited = subst (IsLimited c l p free h you (run.leaves (run.takes p (Completes m) 0))) (sym same)
              (limited_hand h you m.fence.hand (run.leaves (run.takes p (Completes m) 0)) hand.spare hand.ticket (c.anatomy.reply op) r.limited);
        }
      where
        same_le : (n : ℕ) → n ≤ n
        same_le n = omega arith
