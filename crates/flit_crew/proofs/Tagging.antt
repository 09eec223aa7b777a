-- Where tags are bits, each tag is of an exchange under way: how an event of a machine leaves that so.
use Rattle.std.proofs.Common.{◌≡◌, ◌⊎◌, inl, inr, ⊎_elim, ℕ, ◌<◌, ◌==◌, ◌&&◌, Bool, true, false, List, [], ◌∷◌, ◌++◌, length, slice_index, Option, Some, None, refl, sym, ◌∙◌, ap, subst, if◌then◌else◌, arith}
use Rattle.std.proofs.lemmas.Bool.{eqb-true, eq-eqb}
use Rattle.std.proofs.lemmas.Option.{same_Some}
use Rattle.std.specs.List.{AllByRecursion}
use Rattle.flit_words.specs.Words.{bare_of, is_tagged}
use Rattle.flit_model.specs.States.{State, word_at}
use Rattle.flit_model.specs.Effects.{after, answer, with_word}
use Rattle.flit_model.specs.declared.events.Event.{Event}
use Rattle.flit_model.specs.declared.events.Event.TheVariants.{Load, ReadTag, Raise, Lower, Exchange, Persist, Store, Draw}
use Rattle.flit_place.specs.Tags.{Place, dressed, shown, IsSlot}
use Rattle.flit_place.specs.declared.writings.Writing.{Writing}
use Rattle.flit_place.proofs.CoverSteps.{index-set}
use Rattle.flit_place.proofs.WordTags.{bare-dressed, bare-untagged}
use Rattle.flit_pv.specs.declared.queues.Noted.{Noted}
use Rattle.flit_pv.specs.Queues.{first_persist, persist_of, is_full}
use Rattle.flit_pv.specs.declared.loads.Loading.{Loading}
use Rattle.flit_pv.specs.declared.loads.Loading.TheVariants.{Reads as Load_reads, Asks, MakesRoom as Load_makes_room, Has}
use Rattle.flit_pv.specs.Loads.{HeldLoad, load_asks}
use Rattle.flit_pv.specs.declared.v_loads.VLoading.{VLoading}
use Rattle.flit_pv.specs.declared.v_loads.VLoading.TheVariants.{Reads as V_reads, Has as V_has}
use Rattle.flit_pv.specs.VLoads.{HeldVLoad, v_load_asks}
use Rattle.flit_pv.specs.declared.confirms.Confirming.{Confirming}
use Rattle.flit_pv.specs.declared.confirms.Confirming.TheVariants.{Begins, MakesRoom as Confirm_makes_room, Done as Confirm_done}
use Rattle.flit_pv.specs.Confirms.{HeldConfirm, confirm_asks, confirm_begins}
use Rattle.flit_pv.specs.declared.exchanges.Exchanging.{Exchanging}
use Rattle.flit_pv.specs.declared.exchanges.Exchanging.TheVariants.{Ready, Tries, TriesBare, WritesBack, Withdraws, Lowers, Ended}
use Rattle.flit_pv.specs.Exchanges.{HeldExchange, exchange_asks, exchange_takes, exchange_at, exchange_loses, ready_asks, ready_takes, tries_again, withdraw_asks}
use Rattle.flit_pv.specs.VExchanges.{HeldVExchange}
use Rattle.flit_pv.specs.declared.v_exchanges.VExchanging.{VExchanging}
use Rattle.flit_pv.specs.declared.v_exchanges.VExchanging.TheVariants.{Tries as V_tries, Ended as V_ended}
use Rattle.flit_pv.specs.VExchanges.{v_exchange_asks}
use Rattle.flit_pv.specs.declared.stores.Storing.{Storing}
use Rattle.flit_pv.specs.declared.stores.Storing.TheVariants.{Reads as Store_reads, MakesRoom as Store_makes_room, Writes, Ended as Store_ended}
use Rattle.flit_pv.specs.Stores.{HeldStore, store_asks}
use Rattle.flit_pv.specs.declared.evicts.Evict.{Evict}
use Rattle.flit_pv.specs.declared.evicts.Evicting.{Evicting}
use Rattle.flit_pv.specs.declared.evicts.Evicting.TheVariants.{Reads as Evict_reads, WritesBack as Evict_writes_back, Done as Evict_done}
use Rattle.flit_pv.specs.Evicts.{evict_asks}
use Rattle.flit_runs.specs.Workings.{Working, Idles, Loads, VLoads, Confirms, Exchanges, VExchanges, Stores, Fences, Completes, Evicts, asks, takes}
use Rattle.flit_runs.specs.Worlds.{Actor}
use Rattle.flit_runs.specs.Soundness.{Knows, ExchangeKnows, StoreKnows, SwapKnows}
use Rattle.flit_crew.specs.Machines.{Tags, ExchangeTags}
use Rattle.flit_runs.proofs.Lists.{all_among}
use Rattle.flit_crew.specs.Accounts.{IsAny}
use Rattle.flit_crew.proofs.Updating.{any_put, any_at}

-- a tagged word with this bare word is as an exchange dresses it
tagged_is : (raw to : ℕ) → is_tagged raw ≡ true → to ≡ bare_of raw → raw ≡ dressed false to
tagged_is raw to tag same = subst (λ x. raw ≡ dressed false x) (sym same) (by_tag raw tag)
  where
    by_tag : (x : ℕ) → is_tagged x ≡ true → x ≡ dressed false (bare_of x)
    by_tag x t = grind arith

none_some : (e : Event) → None ≡ Some e → ⊥
none_some e q = cc

-- ---- events that leave the words

abbrev LeavesWords : Event → Type 0
LeavesWords (Load word) = Unit {0}
LeavesWords (ReadTag slot) = Unit {0}
LeavesWords (Raise slot) = Unit {0}
LeavesWords (Lower slot) = Unit {0}
LeavesWords (Exchange word from to) = ⊥
LeavesWords (Persist word kept) = Unit {0}
LeavesWords (Store word to) = ⊥
LeavesWords Draw = Unit {0}

words_left : (s : State) (e : Event) → LeavesWords e → (after s e).words ≡ s.words
words_left s (Load word) h = refl
words_left s (ReadTag slot) h = refl
words_left s (Raise slot) h = refl
words_left s (Lower slot) h = refl
words_left s (Exchange word from to) h = absurd h
words_left s (Persist word kept) h = refl
words_left s (Store word to) h = absurd h
words_left s Draw h = refl

abbrev AsksLeaving : Option Event → Type 0
AsksLeaving o = (e : Event) → o ≡ Some e → LeavesWords e

leaving : (d e : Event) → LeavesWords d → Some d ≡ Some e → LeavesWords e
leaving d e h q = subst LeavesWords (same_Some d e q) h

first_leaves : (queue : List Noted) → AsksLeaving (first_persist queue)
first_leaves [] e q = absurd (none_some e q)
first_leaves (n ∷ ns) e q = leaving (persist_of n) e tt q

load_leaves : (m : HeldLoad) (t : Loading) → AsksLeaving (load_asks t m)
load_leaves m Load_reads e q = leaving (Load m.word) e tt q
load_leaves m (Asks raw slot) e q = leaving (ReadTag slot) e tt q
load_leaves m (Load_makes_room raw first) e q = leaving (persist_of first) e tt q
load_leaves m (Has raw) e q = absurd (none_some e q)

v_load_leaves : (m : HeldVLoad) (t : VLoading) → AsksLeaving (v_load_asks t m)
v_load_leaves m V_reads e q = leaving (Load m.word) e tt q
v_load_leaves m (V_has raw) e q = absurd (none_some e q)

begins_leaves : (p : Place) (m : HeldConfirm) (slot : Option ℕ) → AsksLeaving (confirm_begins p m slot)
begins_leaves p m (Some slot) e q = leaving (ReadTag slot) e tt q
begins_leaves p m None e q = by_room (shown p.counted m.raw None && is_full m.hand.queue) q
  where
    by_room : (b : Bool) → (if b then first_persist m.hand.queue else None) ≡ Some e → LeavesWords e
    by_room true i = first_leaves m.hand.queue e i
    by_room false i = absurd (none_some e i)

confirm_leaves : (p : Place) (m : HeldConfirm) (t : Confirming) → AsksLeaving (confirm_asks p t m)
confirm_leaves p m Begins e q = begins_leaves p m (p.slot m.word) e q
confirm_leaves p m (Confirm_makes_room first) e q = leaving (persist_of first) e tt q
confirm_leaves p m Confirm_done e q = absurd (none_some e q)

evict_leaves : (m : Evict) (t : Evicting) → AsksLeaving (evict_asks t m)
evict_leaves m Evict_reads e q = leaving (Load m.word) e tt q
evict_leaves m (Evict_writes_back raw) e q = leaving (Persist m.word (bare_of raw)) e tt q
evict_leaves m Evict_done e q = absurd (none_some e q)

-- ---- what an event does to the tags, as a machine goes on

-- a word that is tagged then is so by this machine; or it holds what it held, and where it was tagged by this machine it is so still
abbrev pub TagsGo : Place → State → State → Working → Working → Type 0
TagsGo p s t w v = p.counted ≡ false → (x : ℕ) → is_tagged (word_at t x) ≡ true → Tags x (bare_of (word_at t x)) v
    ⊎ ((word_at t x ≡ word_at s x) × (Tags x (bare_of (word_at s x)) w → Tags x (bare_of (word_at s x)) v))

-- a machine that tags nothing, and leaves the words
pub tags_none : (p : Place) (s t : State) (w v : Working) → t.words ≡ s.words → ((x bare : ℕ) → Tags x bare w → ⊥) → TagsGo p s t w v
tags_none p s t w v same none counted x tag = inr (ap (λ ws. slice_index ws x) same, λ k. absurd (none x (bare_of (word_at s x)) k))

-- a machine that has gone on so may go on with another one, where it tags nothing
pub tags_over : (p : Place) (s t : State) (w v u : Working) → ((x bare : ℕ) → Tags x bare v → ⊥) → TagsGo p s t w v → TagsGo p s t w u
tags_over p s t w v u none h counted x tag = ⊎_elim (λ k. absurd (none x (bare_of (word_at t x)) k))
    (λ k. inr (k.0, λ i. absurd (none x (bare_of (word_at s x)) (k.1 i)))) (h counted x tag)

-- all tags are of the workers' exchanges
abbrev pub AreTagged : Place → State → List Actor → Type 0
AreTagged p s gs = p.counted ≡ false → (x : ℕ) → is_tagged (word_at s x) ≡ true → IsAny (λ g. Tags x (bare_of (word_at s x)) g.at) gs

pub tagged_go : (p : Place) (s t : State) (xs : List Actor) (g h : Actor) (ys : List Actor) → TagsGo p s t g.at h.at → AreTagged p s (xs ++ g ∷ ys) →
    AreTagged p t (xs ++ h ∷ ys)
tagged_go p s t xs g h ys go all counted x tag = ⊎_elim (λ k. any_at (λ v. Tags x (bare_of (word_at t x)) v.at) xs ys h k)
    (λ k. subst (λ raw. IsAny (λ v. Tags x (bare_of raw) v.at) (xs ++ h ∷ ys)) (sym k.0)
    (any_put (λ v. Tags x (bare_of (word_at s x)) v.at) xs ys g h k.1 (all counted x (subst (λ raw. is_tagged raw ≡ true) k.0 tag)))) (go counted x tag)

module _ (p : Place) (s : State) where
  -- an exchange that is won dresses its word; one that is lost leaves it
  tried : (m : HeldExchange) (from : ℕ) (now : HeldExchange) → m.word < length s.words → is_tagged m.to ≡ false →
      ((x bare : ℕ) → Tags x bare (Exchanges m) → ⊥) → (word_at s m.word ≡ from → now ≡ exchange_at m WritesBack) →
      TagsGo p s (after s (Exchange m.word from (dressed p.counted m.to))) (Exchanges m) (Exchanges now)
  tried m from now within bare none won = by_test (word_at s m.word == from) refl
    where
      then_at : Bool → State
      then_at found = if found then with_word s m.word (dressed p.counted m.to) else s

      by_test : (found : Bool) → (word_at s m.word == from) ≡ found → TagsGo p s (then_at found) (Exchanges m) (Exchanges now)
      by_test false q counted x tag = tags_none p s s (Exchanges m) (Exchanges now) refl none counted x tag
      by_test true q counted x tag = ⊎_elim
          (λ k. inl (subst (λ y. Tags x (bare_of (word_at (then_at true) x)) (Exchanges y)) (sym (won (eqb-true (word_at s m.word) from q)))
          (sym k.0, sym (ap bare_of k.1 ∙ bare-dressed p.counted m.to ∙ bare-untagged m.to bare))))
          (λ k. inr (k.1, λ i. absurd (none x (bare_of (word_at s x)) i)))
          (index-set s.words m.word (dressed p.counted m.to) x within)

  -- the Exchange that clears the tag
  clears : (m now : HeldExchange) → p.counted ≡ false → m.word < length s.words → is_tagged m.to ≡ false → m.at ≡ Withdraws →
      TagsGo p s (after s (Exchange m.word (dressed p.counted m.to) m.to)) (Exchanges m) (Exchanges now)
  clears m now is within bare at = by_test (word_at s m.word == dressed p.counted m.to) refl
    where
      then_at : Bool → State
      then_at found = if found then with_word s m.word m.to else s

      clash : (b : Bool) → b ≡ true → b ≡ false → ⊥
      clash b x y = cc

      mine : (x bare : ℕ) → Tags x bare (Exchanges m) → (m.word ≡ x) × (m.to ≡ bare)
      mine x bare k = subst (λ t. ExchangeTags x bare t m) at k

      by_test : (found : Bool) → (word_at s m.word == dressed p.counted m.to) ≡ found → TagsGo p s (then_at found) (Exchanges m) (Exchanges now)
      by_test true q counted x tag = ⊎_elim
          (λ k. absurd (clash (is_tagged m.to) (subst (λ raw. is_tagged raw ≡ true) k.1 tag) bare))
          (λ k. inr (k.1, λ i. absurd (k.0 (sym (mine x (bare_of (word_at s x)) i).0))))
          (index-set s.words m.word m.to x within)
      by_test false q counted x tag = inr (
        refl,
        λ i. let k = mine x (bare_of (word_at s x)) i in
            absurd (clash (word_at s m.word == dressed p.counted m.to) (eq-eqb (word_at s m.word) (dressed p.counted m.to)
            (subst (λ y. word_at s y ≡ dressed p.counted m.to) (sym k.0)
            (subst (λ b. word_at s x ≡ dressed b m.to) (sym counted) (tagged_is (word_at s x) m.to tag k.1)))) q),
      )

  -- the Store of a PrivateStore
  stores : (m : HeldStore) (n : Noted) (now : Working) → is_tagged n.kept ≡ false → n.word < length s.words →
      TagsGo p s (after s (Store n.word n.kept)) (Stores m) now
  stores m n now bare within counted x tag = ⊎_elim
      (λ k. absurd (clash (is_tagged n.kept) (subst (λ raw. is_tagged raw ≡ true) k.1 tag) bare))
      (λ k. inr (k.1, λ i. absurd i))
      (index-set s.words n.word n.kept x within)
    where
      clash : (b : Bool) → b ≡ true → b ≡ false → ⊥
      clash b x y = cc

  module _ (slotted : (v : ℕ) → v < length s.words → IsSlot p.counted (length s.slots) (p.slot v)) where
    no_slot : (v slot : ℕ) → v < length s.words → p.counted ≡ false → p.slot v ≡ Some slot → ⊥
    no_slot v slot lt counted has = absurd (clash slot (sym (subst (λ b. IsSlot b (length s.slots) (p.slot v)) counted (slotted v lt)) ∙ has))
      where
        clash : (x : ℕ) → None ≡ Some x → ⊥
        clash x q = cc

    exchanges : (m : HeldExchange) (t : Exchanging) → m.at ≡ t → ExchangeKnows p (λ x. false) s t m → (e : Event) → exchange_asks p t m ≡ Some e →
        TagsGo p s (after s e) (Exchanges m) (Exchanges (exchange_takes p t m (answer s e)))
    exchanges m Ready at k e q = by_queue m.hand.queue refl (p.slot m.word) refl q
      where
        none : (x bare : ℕ) → Tags x bare (Exchanges m) → ⊥
        none x bare i = subst (λ t. ExchangeTags x bare t m) at i

        Goal : Event → List Noted → Option ℕ → Type 0
        Goal d queue slot = TagsGo p s (after s d) (Exchanges m) (Exchanges (ready_takes m (answer s d) queue slot))

        by_queue : (queue : List Noted) → m.hand.queue ≡ queue → (slot : Option ℕ) → p.slot m.word ≡ slot →
            Some (ready_asks p m m.hand.queue (p.slot m.word)) ≡ Some e →
            Goal e m.hand.queue (p.slot m.word)
        by_queue (n ∷ ns) same slot has i = subst (λ d. Goal d m.hand.queue (p.slot m.word)) (same_Some (persist_of n) e
            (ap (λ x. Some (ready_asks p m x (p.slot m.word))) (sym same) ∙ i))
            (tags_none p s (after s (persist_of n)) (Exchanges m) (Exchanges (ready_takes m (answer s (persist_of n)) m.hand.queue (p.slot m.word))) refl none)
        by_queue [] same (Some slot) has i = subst (λ d. Goal d m.hand.queue (p.slot m.word)) (same_Some (Raise slot) e
            (sym (ap (λ x. Some (ready_asks p m x (p.slot m.word))) same ∙ ap (λ o. Some (ready_asks p m [] o)) has) ∙ i))
            (tags_none p s (after s (Raise slot)) (Exchanges m) (Exchanges (ready_takes m (answer s (Raise slot)) m.hand.queue (p.slot m.word))) refl none)
        by_queue [] same None has i =
            let d : Event = Exchange m.word m.from (dressed p.counted m.to) in
            subst (λ x. Goal x m.hand.queue (p.slot m.word)) (same_Some d e
            (sym (ap (λ x. Some (ready_asks p m x (p.slot m.word))) same ∙ ap (λ o. Some (ready_asks p m [] o)) has) ∙ i))
            (subst (λ x. Goal d x (p.slot m.word)) (sym same) (subst (Goal d []) (sym has)
            (tried m m.from (ready_takes m (word_at s m.word) [] None) k.0.0 k.1.bare none
            (λ found. ap (λ t. if t then exchange_at m WritesBack else tries_again m (word_at s m.word)) (eq-eqb (word_at s m.word) m.from found)))))
    exchanges m (Tries slot) at k e q = subst (λ d. TagsGo p s (after s d) (Exchanges m) (Exchanges (exchange_takes p (Tries slot) m (answer s d))))
        (same_Some (Exchange m.word m.from (dressed p.counted m.to)) e q)
        (tried m m.from (exchange_takes p (Tries slot) m (word_at s m.word)) k.0.0 k.1.new.bare (λ x bare i. subst (λ t. ExchangeTags x bare t m) at i)
        (λ found. ap (λ t. exchange_at m (if t then WritesBack else Lowers slot (word_at s m.word))) (eq-eqb (word_at s m.word) m.from found)))
    exchanges m TriesBare at k e q = subst (λ d. TagsGo p s (after s d) (Exchanges m) (Exchanges (exchange_takes p TriesBare m (answer s d))))
        (same_Some (Exchange m.word (bare_of m.from) (dressed p.counted m.to)) e q)
        (tried m (bare_of m.from) (exchange_takes p TriesBare m (word_at s m.word)) k.0.0 k.1.new.bare (λ x bare i. subst (λ t. ExchangeTags x bare t m) at i)
        (λ found. ap (λ t. if t then exchange_at m WritesBack else exchange_loses m (word_at s m.word)) (eq-eqb (word_at s m.word) (bare_of m.from) found)))
    exchanges m WritesBack at k e q = subst (λ d. TagsGo p s (after s d) (Exchanges m) (Exchanges (exchange_takes p WritesBack m (answer s d))))
        (same_Some (Persist m.word m.to) e q) (λ counted x tag. inr (refl, λ i. subst (λ t. ExchangeTags x (bare_of (word_at s x)) t m) at i))
    exchanges m Withdraws at k e q = by_slot (p.slot m.word) refl q
      where
        now : HeldExchange
        now = exchange_takes p Withdraws m (answer s e)

        by_slot : (slot : Option ℕ) → p.slot m.word ≡ slot → Some (withdraw_asks p m (p.slot m.word)) ≡ Some e →
            TagsGo p s (after s e) (Exchanges m) (Exchanges now)
        by_slot (Some slot) has i counted x tag = absurd (no_slot m.word slot k.0.0 counted has)
        by_slot None has i counted x tag = (subst (λ d. TagsGo p s (after s d) (Exchanges m) (Exchanges now))
            (same_Some (Exchange m.word (dressed p.counted m.to) m.to) e (sym (ap (λ o. Some (withdraw_asks p m o)) has) ∙ i))
            (clears m now counted k.0.0 k.2 at)) counted x tag
    exchanges m (Lowers slot found) at k e q =
        subst (λ d. TagsGo p s (after s d) (Exchanges m) (Exchanges (exchange_takes p (Lowers slot found) m (answer s d))))
        (same_Some (Lower slot) e q)
        (tags_none p s (after s (Lower slot)) (Exchanges m) (Exchanges (exchange_takes p (Lowers slot found) m (answer s (Lower slot)))) refl
        (λ x bare i. subst (λ t. ExchangeTags x bare t m) at i))
    exchanges m (Ended how) at k e q = absurd (none_some e q)

    private_stores : (private : List ℕ) → AllByRecursion (λ w. w < length s.words) private → (m : HeldStore) (t : Storing) → StoreKnows s private t m →
        (e : Event) →
        store_asks t m ≡ Some e → (now : Working) → TagsGo p s (after s e) (Stores m) now
    private_stores private below m (Store_reads how) k e q now = tags_none p s (after s e) (Stores m) now (words_left s e (leaving (Load m.drafts.word) e tt q))
        (λ x bare i. i)
    private_stores private below m (Writes n) k e q now = by_room (is_full m.hand.queue) q
      where
        by_room : (b : Bool) → (if b then first_persist m.hand.queue else Some (Store n.word n.kept)) ≡ Some e → TagsGo p s (after s e) (Stores m) now
        by_room true i = tags_none p s (after s e) (Stores m) now (words_left s e (first_leaves m.hand.queue e i)) (λ x bare j. j)
        by_room false i = subst (λ d. TagsGo p s (after s d) (Stores m) now) (same_Some (Store n.word n.kept) e i)
            (stores m n now k.each.0.bare (all_among (λ w. w < length s.words) private n.word below k.each.0.mine))
    private_stores private below m (Store_makes_room next first) k e q now = tags_none p s (after s e) (Stores m) now
        (words_left s e (leaving (persist_of first) e tt q)) (λ x bare i. i)
    private_stores private below m (Store_ended how) k e q now = absurd (none_some e q)

    swaps : (m : HeldVExchange) (t : VExchanging) → SwapKnows (λ x. false) s t m → (e : Event) → v_exchange_asks t m ≡ Some e → (now : Working) →
        TagsGo p s (after s e) (VExchanges m) now
    swaps m V_tries k e q now = absurd (clash k.volatile)
      where
        clash : false ≡ true → ⊥
        clash z = cc
    swaps m (V_ended how) k e q now = absurd (none_some e q)

    -- an event of any machine
    pub tags_event : (private : List ℕ) → AllByRecursion (λ w. w < length s.words) private →
        (ws : List Writing) (w : Working) → Knows p (λ x. false) s ws private w → (e : Event) →
        asks p w ≡ Some e → TagsGo p s (after s e) w (takes p w (answer s e))
    tags_event private below ws (Idles hand) k e q = absurd (none_some e q)
    tags_event private below ws (Loads m) k e q = tags_none p s (after s e) (Loads m) (takes p (Loads m) (answer s e)) (words_left s e (load_leaves m m.at e q))
        (λ x bare i. i)
    tags_event private below ws (VLoads m) k e q = tags_none p s (after s e) (VLoads m) (takes p (VLoads m) (answer s e))
        (words_left s e (v_load_leaves m m.at e q)) (λ x bare i. i)
    tags_event private below ws (Confirms m) k e q = tags_none p s (after s e) (Confirms m) (takes p (Confirms m) (answer s e))
        (words_left s e (confirm_leaves p m m.at e q)) (λ x bare i. i)
    tags_event private below ws (Exchanges m) k e q = exchanges m m.at refl k e q
    tags_event private below ws (VExchanges m) k e q = swaps m m.at k e q (takes p (VExchanges m) (answer s e))
    tags_event private below ws (Stores m) k e q = private_stores private below m m.at k e q (takes p (Stores m) (answer s e))
    tags_event private below ws (Fences m) k e q = tags_none p s (after s e) (Fences m) (takes p (Fences m) (answer s e))
        (words_left s e (first_leaves m.hand.queue e q)) (λ x bare i. i)
    tags_event private below ws (Completes m) k e q = tags_none p s (after s e) (Completes m) (takes p (Completes m) (answer s e))
        (words_left s e (first_leaves m.fence.hand.queue e q)) (λ x bare i. i)
    tags_event private below ws (Evicts m) k e q = tags_none p s (after s e) (Evicts m) (takes p (Evicts m) (answer s e))
        (words_left s e (evict_leaves m m.at e q)) (λ x bare i. i)

-- a machine that asks nothing tags nothing
pub ended_tags : (p : Place) (w : Working) → asks p w ≡ None → (x bare : ℕ) → Tags x bare w → ⊥
ended_tags p (Idles hand) q x bare i = i
ended_tags p (Loads m) q x bare i = i
ended_tags p (VLoads m) q x bare i = i
ended_tags p (Confirms m) q x bare i = i
ended_tags p (Exchanges m) q x bare i = by_stage m.at q i
  where
    some_none : (e : Event) → Some e ≡ None → ⊥
    some_none e q = cc

    by_stage : (t : Exchanging) → exchange_asks p t m ≡ None → ExchangeTags x bare t m → ⊥
    by_stage Ready q i = i
    by_stage (Tries slot) q i = i
    by_stage TriesBare q i = i
    by_stage WritesBack q i = some_none (Persist m.word m.to) q
    by_stage Withdraws q i = some_none (withdraw_asks p m (p.slot m.word)) q
    by_stage (Lowers slot found) q i = i
    by_stage (Ended how) q i = i
ended_tags p (VExchanges m) q x bare i = i
ended_tags p (Stores m) q x bare i = i
ended_tags p (Fences m) q x bare i = i
ended_tags p (Completes m) q x bare i = i
ended_tags p (Evicts m) q x bare i = i
