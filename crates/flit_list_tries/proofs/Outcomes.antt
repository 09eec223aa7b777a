-- Where the machine of a call has ended by its own event, as it knew the words before: what comes next and what is left of
-- the try behind it are within what was left before; or an exchange was lost, and a search begins.
use Rattle.std.proofs.Common.{◌≡◌, ◌⊎◌, inl, inr, ⊎_elim, ℕ, ◌+◌, ◌-◌, ◌*◌, ◌<◌, ◌≤◌, ◌==◌, ◌&&◌, Bool, true, false, List, [], ◌∷◌, length, Option, Some, None, is_none, refl, sym, ◌∙◌, ap, subst, arith, if◌then◌else◌}
use Rattle.std.proofs.lemmas.Bool.{false≢true, both_ways}
use Rattle.std.proofs.lemmas.Option.{none-some}
use Rattle.flit_words.specs.declared.layouts.Layout.{Layout}
use Rattle.flit_words.specs.Words.{is_tagged, bare_of}
use Rattle.flit_model.specs.Lists.{key_in}
use Rattle.flit_model.specs.declared.events.Event.{Event}
use Rattle.flit_place.specs.Tags.{Place}
use Rattle.flit_place.proofs.WordTags.{bare-untagged}
use Rattle.flit_pv.specs.declared.hands.Hand.{Hand}
use Rattle.flit_pv.specs.declared.queues.Noted.{Noted}
use Rattle.flit_pv.specs.VLoads.{v_load_taken}
use Rattle.flit_pv.specs.Confirms.{confirm_taken}
use Rattle.flit_pv.specs.Stores.{store_taken}
use Rattle.flit_pv.specs.Fences.{complete_asked, complete_taken}
use Rattle.flit_pv.specs.Exchanges.{HeldExchange, exchange_asks, exchange_taken, exchange_at, exchange_loses, ready_takes}
use Rattle.flit_pv.specs.declared.exchanges.Exchanging.{Exchanging}
use Rattle.flit_pv.specs.declared.exchanges.Exchanging.TheVariants.{Ready, Tries, TriesBare, WritesBack, Withdraws, Lowers, Ended}
use Rattle.flit_pv.specs.declared.exchanges.Exchanged.TheVariants.{Won, Lost, Worn as Exchange_worn}
use Rattle.flit_pv.proofs.Asking.{has_won}
use Rattle.flit_rows.specs.Taking.{take_taken}
use Rattle.flit_runs.specs.Workings.{Exchanges}
use Rattle.flit_structure.specs.Meanings.{value_put}
use Rattle.flit_crew.specs.Machines.{Machine, Works, machine_asks, machine_takes, has_ended, exchange_part}
use Rattle.flit_crew.specs.Crews.{Who}
use Rattle.flit_crew_bounds.specs.Left.{machine_left, exchange_left}
use Rattle.flit_crew_bounds.specs.Bounding.{View, view_of}
use Rattle.flit_list_steps.specs.declared.operations.LinkWord.{LinkWord as PathWord}
use Rattle.flit_list_steps.specs.Operations.{At, Head, Next, Key, Confirming, Help, Row, Words, RowValue, Link, Mark, Tidy, Value, Ends, Rests, HeldOp}
use Rattle.flit_list_steps.specs.Steps.{Carried, carried, row_of as raw_row_of, row_at, searches, link_by, mark_by, help_by}
use Rattle.flit_list_heap.specs.Links.{row_of}
use Rattle.flit_list_heap.specs.Keeping.{ListHeap, IsLinked, Kept}
use Rattle.flit_list_heap.proofs.Places.{row_fits}
use Rattle.flit_list_laws.specs.Walks.{Loaded, Walk}
use Rattle.flit_list_laws.specs.Knowing.{row_after, IsBackSure, KnowsKey, Helped, HelpAt}
use Rattle.flit_list_laws.specs.ListAnatomy.{machine_at, resumed}
use Rattle.flit_list_laws.specs.ListCrew.{IsBack, Follows, FollowsTo, KnowsAt, IsOfLists}
use Rattle.flit_list_laws.proofs.Raws.{raw_row}
use Rattle.flit_list_limits.specs.ListLimits.{cost, back_cost}
use Rattle.flit_list_limits.proofs.ListCounts.{and_false}
use Rattle.flit_list_limits.proofs.Paying.{to_tidy, to_helped}
use Rattle.flit_list_tries.specs.ListTries.{is_before, keys_known, all_known, keys_left, is_over, help_left, try_left}
use Rattle.flit_list_tries.proofs.Keys.{IsBeyond, left_falls}
use Rattle.flit_list_tries.proofs.Paid.{worth, head_paid, next_paid, key_paid, value_paid, confirm_paid, row_paid, words_paid, row_value_paid, tidy_paid}

-- ---- what an event makes of an exchange

abbrev pub exchange_so : Hand → ℕ → ℕ → ℕ → Exchanging → HeldExchange
exchange_so hand word from to at = record { hand = hand; word = word; from = from; to = to; at = at }

module _ (p : Place) (told : ℕ) where
  again_unwon : (m : HeldExchange) (b : Bool) → has_won (if b then exchange_at m TriesBare else exchange_loses m told).at ≡ false
  again_unwon m true = refl
  again_unwon m false = refl

  first_unwon : (m : HeldExchange) (b c : Bool) →
      has_won (if b then exchange_at m WritesBack else (if c then exchange_at m TriesBare else exchange_loses m told)).at ≡ false
  first_unwon m true c = refl
  first_unwon m false c = again_unwon m c

  ready_unwon : (m : HeldExchange) (queue : List Noted) (slot : Option ℕ) → m.at ≡ Ready → has_won (ready_takes m told queue slot).at ≡ false
  ready_unwon m (n ∷ ns) slot is = ap has_won is
  ready_unwon m [] (Some slot) is = refl
  ready_unwon m [] None is = first_unwon m (told == m.from) (is_tagged m.from && told == bare_of m.from)

  tries_unwon : (slot : ℕ) (b : Bool) → has_won (if b then WritesBack else Lowers slot told) ≡ false
  tries_unwon slot true = refl
  tries_unwon slot false = refl

  bare_unwon : (m : HeldExchange) (b : Bool) → has_won (if b then exchange_at m WritesBack else exchange_loses m told).at ≡ false
  bare_unwon m true = refl
  bare_unwon m false = refl

module _ (l : Layout) (p : Place) (free : List ℕ) (lists : IsOfLists l) (h : ListHeap) (kept : Kept l free h) (me : Who) (op : HeldOp) (e : Event) (told : ℕ)
  where
    abbrev v : View
    v = view_of h

    abbrev N : ℕ
    N = all_known l free v

    abbrev ahead : ℕ → ℕ
    ahead = keys_left l free v

    abbrev at_it : At → HeldOp
    at_it at = record op { at = at }

    abbrev m_at : At → Machine
    m_at at = machine_takes p free (machine_at at) told

    abbrev next_of : At → HeldOp
    next_of at = resumed l p free (at_it at) (m_at at)

    abbrev on : Carried
    on = carried op

    abbrev price : HeldOp → ℕ
    price next = worth l p free N ahead next

    abbrev left_at : At → ℕ
    left_at at = try_left l free v op.path at

    -- it goes on in its search, or to its end
    abbrev pub IsPaid : At → Type 0
    IsPaid at = price (next_of at) ≤ machine_left (m_at at) + left_at at

    -- its exchange was lost, and it searches again
    pub record IsLost (at : At) : Type 0 where
      pub exchange : HeldExchange
      pub found : ℕ
      pub is : m_at at ≡ Works (Exchanges exchange)
      pub ended : exchange.at ≡ Ended (Lost found)
      pub next : next_of at ≡ searches l on exchange.hand

    few : (row : ℕ) → ahead row ≤ N
    few row = less N (keys_known l free v (is_before l h.words row))
      where
        less : (n k : ℕ) → n - k ≤ n
        less n k = omega arith

    -- ---- an exchange that has ended

    abbrev HasEnded : HeldExchange → Type 0
    HasEnded n = (is_none (exchange_asks p n.at n) && true) ≡ true

    abbrev Out : (Exchanging → HeldOp) → HeldExchange → ℕ → Type 0
    Out by n rest = (price (by n.at) ≤ exchange_left n.at + length n.hand.queue + rest) ⊎ ((found : ℕ) × (n.at ≡ Ended (Lost found)))

    exchange_out : (by : Exchanging → HeldOp) (n : HeldExchange) (rest : ℕ) → (n.at ≡ Ended Won → price (by (Ended Won)) ≤ length n.hand.queue + rest) →
        ((word version : ℕ) → price (by (Ended (Exchange_worn word version))) ≤ length n.hand.queue + rest) → HasEnded n → (x : Exchanging) → n.at ≡ x →
        Out by n rest
    exchange_out by n rest won worn ended x is = by_end x is (subst (λ y. (is_none (exchange_asks p y n) && true) ≡ true) is ended)
      where
        up : (y : Exchanging) → n.at ≡ y → price (by y) ≤ length n.hand.queue + rest → Out by n rest
        up y is le = inl (through (price (by n.at)) (price (by y)) (exchange_left n.at) (length n.hand.queue) rest (ap (λ z. price (by z)) is) le)
          where
            through : (a b s q r : ℕ) → a ≡ b → b ≤ q + r → a ≤ s + q + r
            through a b s q r e i = omega (arith, e, i)

        by_end : (y : Exchanging) → n.at ≡ y → (is_none (exchange_asks p y n) && true) ≡ true → Out by n rest
        by_end Ready is ended = absurd (false≢true ended)
        by_end (Tries slot) is ended = absurd (false≢true ended)
        by_end TriesBare is ended = absurd (false≢true ended)
        by_end WritesBack is ended = absurd (false≢true ended)
        by_end Withdraws is ended = absurd (false≢true ended)
        by_end (Lowers slot found) is ended = absurd (false≢true ended)
        by_end (Ended Won) is ended = up (Ended Won) is (won is)
        by_end (Ended (Lost found)) is ended = inr (found, is)
        by_end (Ended (Exchange_worn word version)) is ended = up (Ended (Exchange_worn word version)) is (worn word version)

    ends_less : (q r : ℕ) → 0 + q + 0 ≤ q + r
    ends_less q r = omega arith

    link_out : (m : HeldExchange) → HasEnded (exchange_taken p m told) → Out (λ y. link_by l on (exchange_taken p m told) y) (exchange_taken p m told) 0
    link_out m ended = let n : HeldExchange = exchange_taken p m told in
        exchange_out (λ y. link_by l on n y) n 0 (λ is. ends_less (length n.hand.queue) 0) (λ word version. ends_less (length n.hand.queue) 0) ended n.at refl

    mark_out : (m : HeldExchange) → HasEnded (exchange_taken p m told) → Out (λ y. mark_by l on (exchange_taken p m told) y) (exchange_taken p m told) 4
    mark_out m ended = let n : HeldExchange = exchange_taken p m told in
        exchange_out (λ y. mark_by l on n y) n 4 (λ is. to_tidy l p free N ahead on n.hand) (λ word version. ends_less (length n.hand.queue) 4) ended n.at refl

    -- ---- what is known of the rows that its path leads to

    row_is : (w : Walk) → Follows l op.path w → row_at op.path ≡ row_after w
    row_is w follows = raw_row op.path.pred.raw ∙ ap (λ r. row_of (bare_of r)) follows.link.raw

    falls_by : (r q s t : ℕ) → r ≡ s → q ≡ t → IsLinked l h s → 1 ≤ s → IsBeyond l h.words s t → ahead q + 1 ≤ ahead r
    falls_by r q s t e f linked some beyond = subst (λ x. ahead q + 1 ≤ ahead x) (sym e)
        (subst (λ x. ahead x + 1 ≤ ahead s) (sym f) (left_falls l free lists h kept s t linked some beyond))

    key_falls : (w : Walk) (n : Loaded) → FollowsTo l op.path w n → IsLinked l h (row_after w) → 1 ≤ row_after w →
        IsBeyond l h.words (row_after w) (row_of (bare_of n.raw)) → ahead (raw_row_of op.path.next.raw) + 1 ≤ ahead (row_at op.path)
    key_falls w n follows linked some beyond = falls_by (row_at op.path) (raw_row_of op.path.next.raw) (row_after w) (row_of (bare_of n.raw))
        (row_is w follows.walk) (raw_row op.path.next.raw ∙ ap (λ r. row_of (bare_of r)) follows.next.raw) linked some beyond

    back_free : (x : Option PathWord) (y : Option Loaded) → IsBack l x y → IsBackSure l me y → back_cost x ≡ 0
    back_free None None is sure = refl
    back_free None (Some q) is sure = absurd is
    back_free (Some x) None is sure = absurd is
    back_free (Some x) (Some q) is sure = ap cost (is.sure ∙ sure)

    -- ---- a marked row is unlinked

    helped_out : (w : Walk) (n : Loaded) (hand : Hand) (word from to : ℕ) → FollowsTo l op.path w n →
        Helped l h me w (exchange_so hand word from to Withdraws) →
        price (help_by l p free on (exchange_so hand word from to (Ended Won)) (Ended Won)) ≤ 0 + length hand.queue + (7 * ahead (row_at op.path) + 8)
    helped_out w n hand word from to follows f = up (price (help_by l p free on (exchange_so hand word from to (Ended Won)) (Ended Won)))
        (length hand.queue) (7 * ahead (row_at op.path) + 8)
        (to_helped l p free N ahead on hand to (back_free op.path.back w.back follows.walk.back f.back_sure)
        (falls_by (row_at op.path) (raw_row_of to) (row_after w) (row_of to) (row_is w follows.walk)
        (raw_row to ∙ ap row_of (bare-untagged to f.bare)) f.linked (row_fits l free h kept (row_after w) f.linked).0 (beyond f.further)))
      where
        up : (t q r : ℕ) → t ≤ q + r → t ≤ 0 + q + r
        up t q r i = omega (arith, i)

        beyond : (row_of to ≡ 0) ⊎ (IsLinked l h (row_of to) × (key_in l h.words (row_after w) < key_in l h.words (row_of to))) →
            IsBeyond l h.words (row_after w) (row_of to)
        beyond (inl none) = inl none
        beyond (inr k) = inr k.1

    help_unwon : (y : HeldExchange) (rest : ℕ) → has_won y.at ≡ false → HasEnded y → Out (λ x. help_by l p free on y x) y rest
    help_unwon y rest unwon ended = exchange_out (λ x. help_by l p free on y x) y rest (λ is. absurd (both_ways (has_won y.at) unwon (ap has_won is)))
        (λ word version. ends_less (length y.hand.queue) rest) ended y.at refl

    help_out : (w : Walk) (n : Loaded) (hand : Hand) (word from to : ℕ) (at : Exchanging) → let m : HeldExchange = exchange_so hand word from to at in
        exchange_asks p at m ≡ Some e → FollowsTo l op.path w n → HelpAt l h me w n m (exchange_part at) → HasEnded (exchange_taken p m told) →
        Out (λ x. help_by l p free on (exchange_taken p m told) x) (exchange_taken p m told) (help_left l free v (is_over (exchange_part at)) op.path)
    help_out w n hand word from to Withdraws asks follows f ended = inl (helped_out w n hand word from to follows f)
    help_out w n hand word from to Ready asks follows f ended = let m : HeldExchange = exchange_so hand word from to Ready in
        help_unwon (exchange_taken p m told) _ (ready_unwon p told m hand.queue (p.slot word) refl) ended
    help_out w n hand word from to (Tries slot) asks follows f ended =
        help_unwon (exchange_taken p (exchange_so hand word from to (Tries slot)) told) _ (tries_unwon p told slot (told == from)) ended
    help_out w n hand word from to TriesBare asks follows f ended = let m : HeldExchange = exchange_so hand word from to TriesBare in
        help_unwon (exchange_taken p m told) _ (bare_unwon p told m (told == bare_of from)) ended
    help_out w n hand word from to WritesBack asks follows f ended =
        help_unwon (exchange_taken p (exchange_so hand word from to WritesBack) told) _ refl ended
    help_out w n hand word from to (Lowers slot found) asks follows f ended =
        help_unwon (exchange_taken p (exchange_so hand word from to (Lowers slot found)) told) _ refl ended
    help_out w n hand word from to (Ended how) asks follows f ended = absurd (none-some e asks)

    -- ---- all of them

    lost : (at : At) (by : Exchanging → HeldOp) (n : HeldExchange) (found : ℕ) → m_at at ≡ Works (Exchanges n) → n.at ≡ Ended (Lost found) →
        next_of at ≡ by n.at → by (Ended (Lost found)) ≡ searches l on n.hand → IsLost at
    lost at by n found is ended next begins = record { exchange = n; found = found; is = is; ended = ended; next = next ∙ ap by ended ∙ begins }

    pub outcome : (w : Walk) (n : Loaded) (at : At) → machine_asks p (machine_at at) ≡ Some e → KnowsAt l h me op.reply op.path w n at →
        has_ended p (m_at at) ≡ true → IsPaid at ⊎ IsLost at
    outcome w n (Head m) asks f ended = let t = v_load_taken m told in inl (head_paid l p free N ahead few on t.hand t.word t.at)
    outcome w n (Next m) asks f ended = let t = v_load_taken m told in inl (next_paid l p free N ahead on t.hand t.word t.at)
    outcome w n (Key m) asks f ended = let t = v_load_taken m told in inl (key_paid l p free N ahead on
        (key_falls w n f.0 f.1.next.next.saw.link f.1.next.next.some (passes f.1)) t.hand t.word t.at)
      where
        next : (a b : ℕ) → a + 1 ≤ b → a < b
        next a b i = omega (arith, i)

        passes : KnowsKey l h me w n m → IsBeyond l h.words (row_after w) (row_of (bare_of n.raw))
        passes k = elim k.next.next.saw.form.leads [
          | inl none ↦ inl none
          | inr g ↦ inr (next (key_in l h.words (row_after w)) (key_in l h.words (row_of (bare_of n.raw))) g.above)
        ]
    outcome w n (Confirming goal which m) asks f ended = inl (confirm_paid l p free N ahead on goal which (confirm_taken p m told))
    outcome w n (Help m) asks f ended = let t = exchange_taken p m told in
        ⊎_elim (λ k. inl k) (λ k. inr (lost (Help m) (λ x. help_by l p free on t x) t k.0 refl k.1 refl refl))
        (help_out w n m.hand m.word m.from m.to m.at asks f.0 f.2 ended)
    outcome w n (Row m) asks f ended = let t = take_taken free m told in inl (row_paid l p free N ahead on t.hand t.need t.at)
    outcome w n (Words m) asks f ended = let t = store_taken m told in inl (words_paid l p free N ahead on (value_put op.call) t.hand t.drafts t.at)
    outcome w n (RowValue m) asks f ended = let t = store_taken m told in inl (row_value_paid l p free N ahead on t.hand t.drafts t.at)
    outcome w n (Link m) asks f ended = let t = exchange_taken p m told in
        ⊎_elim (λ k. inl k) (λ k. inr (lost (Link m) (λ x. link_by l on t x) t k.0 refl k.1 refl refl)) (link_out m ended)
    outcome w n (Mark m) asks f ended = let t = exchange_taken p m told in
        ⊎_elim (λ k. inl k) (λ k. inr (lost (Mark m) (λ x. mark_by l on t x) t k.0 refl k.1 refl refl)) (mark_out m ended)
    outcome w n (Tidy m) asks f ended = let t = exchange_taken p m told in inl (tidy_paid l p free N ahead on t.hand t.word t.from t.to t.at)
    outcome w n (Value m) asks f ended = let t = v_load_taken m told in inl (value_paid l p free N ahead on t.hand t.word t.at)
    outcome w n (Ends m) asks f ended = absurd (and_false (is_none (complete_asked (complete_taken m told))) ended)
    outcome w n (Rests hand) asks f ended = absurd f
