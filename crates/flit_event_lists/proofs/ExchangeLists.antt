-- An exchange: its events, both ways.
use Rattle.std.proofs.Common.{append_assoc, ◌≡◌, ℕ, ◌+◌, ◌==◌, ◌&&◌, nat_le, List, [], ◌∷◌, ◌++◌, length, Bool, true, false, cond, not, Option, Some, None, refl, sym, ap, subst, arith, ◌∙◌}
use Rattle.std.specs.Bool.{MatchBool}
use Rattle.std.proofs.lemmas.List.{append-nil}
use Rattle.flit_words.specs.Words.{bare_of, is_tagged, version_of}
use Rattle.flit_model.specs.declared.events.Event.{Event}
use Rattle.flit_model.specs.declared.events.Event.TheVariants.{Raise, Lower, Exchange, Persist}
use Rattle.flit_place.specs.Tags.{Place, dressed}
use Rattle.flit_pv.specs.declared.queues.Noted.{Noted}
use Rattle.flit_pv.specs.declared.hands.Hand.{Hand}
use Rattle.flit_pv.specs.Exchanges.{HeldExchange}
use Rattle.flit_pv.specs.declared.exchanges.Exchanging.{Exchanging}
use Rattle.flit_pv.specs.declared.exchanges.Exchanging.TheVariants.{Ready, Tries, TriesBare, WritesBack, Withdraws, Lowers, Ended}
use Rattle.flit_pv.specs.declared.exchanges.Exchanged.{Exchanged}
use Rattle.flit_pv.specs.declared.exchanges.Exchanged.TheVariants.{Won, Lost, Worn}
use Rattle.flit_pv.specs.VExchanges.{HeldVExchange}
use Rattle.flit_pv.specs.declared.v_exchanges.VExchanging.{VExchanging}
use Rattle.flit_pv.specs.declared.v_exchanges.VExchanging.TheVariants.{Tries as V_tries, Ended as V_ended}
use Rattle.flit_pv.specs.Drafts.{next_bare}
use Rattle.flit_pv.specs.Hands.{with_persist, with_failed, with_queue}
use Rattle.flit_pv.specs.Exchanges.{exchange_asked, exchange_taken, withdraw_asks, exchange_loses, HasEnded}
use Rattle.flit_pv.specs.VExchanges.{v_exchange_asked, v_exchange_taken, HasVEnded}
use Rattle.flit_pv.specs.Played.{AnsweredEvent, answered_event}
use Rattle.flit_event_lists.specs.EventLists.{persists_in, counted, IsOnly, IsOfSlot, IsFence}
use Rattle.flit_event_lists.specs.ExchangeLists.{IsWornAtOnce, has_second, IsSecond, IsTried, IsWithdrawal, IsWonEnd, IsLostEnd, one_exchange, IsExchangeMade, IsExchangeList, IsVExchangeMade, IsVExchangeList}
use Rattle.flit_event_lists.specs.Plays.{ExchangeEnds, VExchangeEnds}
use Rattle.flit_event_lists.proofs.PlayedLists.{Reaches, one_event, no_event, goes_on, fence_inside, fence_played, persists-fence, persists-other, persists-one, persists-append, persisted, raised-raised}

-- ---- PExchange

module _ (p : Place) (word from to : ℕ) (after : Hand) (how : Exchanged) where
  abbrev Leaves : HeldExchange → Type 0
  Leaves m = HasEnded m after how

  ends : (m : HeldExchange) → Leaves m → exchange_asked p m ≡ None
  ends m e = rw e.1 refl

  abbrev Comes : HeldExchange → List AnsweredEvent → Type 0
  Comes m list = Reaches (exchange_asked p) (exchange_taken p) m list Leaves

  abbrev pub at_phase : Hand → Exchanging → HeldExchange
  at_phase h at = record { hand = h; word = word; from = from; to = to; at = at }

  -- ---- the ends

  -- it was won: the write-back of the new word, and the withdrawal
  abbrev WonEnd : Hand → List AnsweredEvent → Type 0
  WonEnd h list = IsWonEnd (p.slot word) word (dressed p.counted to) to list how × (with_persist h ≡ after)

  withdrawal-is : (h : Hand) (slot : Option ℕ) (list : List AnsweredEvent) → IsOnly (withdraw_asks p (at_phase h Withdraws) slot) list →
      IsWithdrawal slot word (dressed p.counted to) to list
  withdrawal-is h None list is = is
  withdrawal-is h (Some slot) list is = is

  withdrawal-asked : (h : Hand) (slot : Option ℕ) (list : List AnsweredEvent) → IsWithdrawal slot word (dressed p.counted to) to list →
      IsOnly (withdraw_asks p (at_phase h Withdraws) slot) list
  withdrawal-asked h None list is = is
  withdrawal-asked h (Some slot) list is = is

  won-told : (h : Hand) (list : List AnsweredEvent) → Comes (at_phase h WritesBack) list → WonEnd h list
  won-told h list r =
      let one = one_event (exchange_asked p) (exchange_taken p) Leaves ends (at_phase h WritesBack) (Persist word to) list refl r in
      let k = with_persist h in
      let two = one_event (exchange_asked p) (exchange_taken p) Leaves ends (at_phase k Withdraws) (withdraw_asks p (at_phase k Withdraws) (p.slot word)) one.1
      refl one.3 in
      let last = no_event (exchange_asked p) (exchange_taken p) Leaves ends (at_phase k (Ended Won)) two.1 refl two.3 in
      let how_is : Ended Won ≡ Ended how = last.1.1 in
      let all : one.1 ≡ answered_event (withdraw_asks p (at_phase k Withdraws) (p.slot word)) two.0 ∷ [] = two.2
      ∙ ap (λ xs. answered_event (withdraw_asks p (at_phase k Withdraws) (p.slot word)) two.0 ∷ xs) last.0 in (
        record {
          answer = one.0;
          withdrawal = one.1;
          parts = one.2;
          withdraws = withdrawal-is k (p.slot word) one.1 (two.0, all);
          is_won = cc;
        },
        last.1.0,
      )

  won-made : (h : Hand) (list : List AnsweredEvent) → WonEnd h list → Comes (at_phase h WritesBack) list
  won-made h list w =
      let k = with_persist h in
      let only = withdrawal-asked k (p.slot word) w.0.withdrawal w.0.withdraws in
      let last : Comes (at_phase k (Ended Won)) [] = (at_phase k (Ended Won), refl, (w.1, ap Ended (sym w.0.is_won))) in
      let two : Comes (at_phase k Withdraws) w.0.withdrawal =
      rw only.1 (goes_on (exchange_asked p) (exchange_taken p) Leaves (at_phase k Withdraws) (withdraw_asks p (at_phase k Withdraws) (p.slot word)) only.0 []
      refl last) in
      rw w.0.parts (goes_on (exchange_asked p) (exchange_taken p) Leaves (at_phase h WritesBack) (Persist word to) w.0.answer w.0.withdrawal refl two)

  -- it was lost without a slot, or after its slot was lowered
  lost-told : (h : Hand) (a : Exchanging) (found : ℕ) (list : List AnsweredEvent) → Comes (exchange_loses (at_phase h a) found) list → (list ≡ [])
      × (how ≡ Lost found) × (with_failed h ≡ after)
  lost-told h a found list r =
      let last = no_event (exchange_asked p) (exchange_taken p) Leaves ends (at_phase (with_failed h) (Ended (Lost found))) list refl r in
      let how_is : Ended (Lost found) ≡ Ended how = last.1.1 in
      (last.0, cc, last.1.0)

  lost-made : (h : Hand) (a : Exchanging) (found : ℕ) → how ≡ Lost found → with_failed h ≡ after → Comes (exchange_loses (at_phase h a) found) []
  lost-made h a found is hand = (at_phase (with_failed h) (Ended (Lost found)), refl, (hand, ap Ended (sym is)))

  -- ---- the tries

  -- what comes when it is decided whether an exchange was won
  abbrev Decided : Option ℕ → Bool → ℕ → Hand → List AnsweredEvent → Type 0
  Decided slot won found h list = MatchBool won (WonEnd h list) (IsLostEnd slot found list how × (with_failed h ≡ after))

  -- with a slot: one exchange, won or lost
  abbrev slotted : ℕ → Bool → ℕ → Hand → HeldExchange
  slotted slot won found h = cond won (at_phase h WritesBack) (at_phase h (Lowers slot found))

  slotted-told : (slot : ℕ) (won : Bool) (found : ℕ) (h : Hand) (list : List AnsweredEvent) → Comes (slotted slot won found h) list →
      Decided (Some slot) won found h list
  slotted-told slot true found h list r = won-told h list r
  slotted-told slot false found h list r =
      let one = one_event (exchange_asked p) (exchange_taken p) Leaves ends (at_phase h (Lowers slot found)) (Lower slot) list refl r in
      let last = lost-told h (Lowers slot found) found one.1 one.3 in
      (record { lowers = (one.0, one.2 ∙ ap (λ xs. answered_event (Lower slot) one.0 ∷ xs) last.0); is_lost = last.1 }, last.2)

  slotted-made : (slot : ℕ) (won : Bool) (found : ℕ) (h : Hand) (list : List AnsweredEvent) → Decided (Some slot) won found h list →
      Comes (slotted slot won found h) list
  slotted-made slot true found h list d = won-made h list d
  slotted-made slot false found h list d =
      rw d.0.lowers.1 (goes_on (exchange_asked p) (exchange_taken p) Leaves (at_phase h (Lowers slot found)) (Lower slot) d.0.lowers.0 [] refl
      (lost-made h (Lowers slot found) found d.0.is_lost d.1))

  -- without a slot: won, or tried once more, or lost
  abbrev slotless : Bool → Exchanging → ℕ → Hand → HeldExchange
  slotless won a found h = cond won (at_phase h WritesBack) (exchange_loses (at_phase h a) found)

  slotless-told : (won : Bool) (a : Exchanging) (found : ℕ) (h : Hand) (list : List AnsweredEvent) → Comes (slotless won a found h) list →
      Decided None won found h list
  slotless-told true a found h list r = won-told h list r
  slotless-told false a found h list r = let last = lost-told h a found list r in (record { lowers = last.0; is_lost = last.1 }, last.2)

  slotless-made : (won : Bool) (a : Exchanging) (found : ℕ) (h : Hand) (list : List AnsweredEvent) → Decided None won found h list →
      Comes (slotless won a found h) list
  slotless-made true a found h list d = won-made h list d
  slotless-made false a found h list d = rw d.0.lowers (lost-made h a found d.0.is_lost d.1)

  abbrev written : ℕ
  written = dressed p.counted to

  -- the tries and what follows them
  abbrev Tried : Option ℕ → Hand → List AnsweredEvent → Type 0
  Tried slot h list = (tries : List AnsweredEvent) × (rest : List AnsweredEvent) × (won : Bool) × (found : ℕ) × (list ≡ tries ++ rest)
      × IsTried slot word from written tries won found × Decided slot won found h rest

  -- the second try, or none
  abbrev again_at : Bool → Bool → ℕ → Hand → HeldExchange
  again_at won again first h = cond won (at_phase h WritesBack) (cond again (at_phase h TriesBare) (exchange_loses (at_phase h Ready) first))

  abbrev Again : Bool → Bool → ℕ → Hand → List AnsweredEvent → Type 0
  Again won again first h list = (second : List AnsweredEvent) × (rest : List AnsweredEvent) × (is : Bool) × (found : ℕ) × (list ≡ second ++ rest)
      × IsSecond (not won && again) word from written first second is found × Decided None is found h rest

  again-told : (first : ℕ) (won again : Bool) (h : Hand) (list : List AnsweredEvent) → (first == from) ≡ won → Comes (again_at won again first h) list →
      Again won again first h list
  again-told first true again h list is r = ([], list, true, first, refl, (refl, sym is, refl), won-told h list r)
  again-told first false true h list is r =
      let one = one_event (exchange_asked p) (exchange_taken p) Leaves ends (at_phase h TriesBare) (Exchange word (bare_of from) written) list refl r in (
        answered_event (Exchange word (bare_of from) written) one.0 ∷ [],
        one.1,
        (one.0 == bare_of from),
        one.0,
        one.2,
        (refl, refl),
        slotless-told
            (one.0 == bare_of from) TriesBare one.0 h one.1 one.3,
      )
  again-told first false false h list is r = ([], list, false, first, refl, (refl, sym is, refl), slotless-told false Ready first h list r)

  again-made : (first : ℕ) (won again : Bool) (h : Hand) (list : List AnsweredEvent) → (first == from) ≡ won → Again won again first h list →
      Comes (again_at won again first h) list
  again-made first true again h list is d =
      let same : list ≡ d.1 = d.4 ∙ ap (λ xs. xs ++ d.1) d.5.0 in
      let w : d.2 ≡ true = d.5.1 ∙ is in
      rw same (won-made h d.1 (rw w at d.6))
  again-made first false true h list is d =
      let same : list ≡ answered_event (Exchange word (bare_of from) written) d.3 ∷ d.1 = d.4 ∙ ap (λ xs. xs ++ d.1) d.5.0 in
      let w : d.2 ≡ (d.3 == bare_of from) = d.5.1 in
      rw same (goes_on (exchange_asked p) (exchange_taken p) Leaves (at_phase h TriesBare) (Exchange word (bare_of from) written) d.3 d.1 refl
      (slotless-made (d.3 == bare_of from) TriesBare d.3 h d.1 (subst (λ b. Decided None b d.3 h d.1) w d.6)))
  again-made first false false h list is d =
      let same : list ≡ d.1 = d.4 ∙ ap (λ xs. xs ++ d.1) d.5.0 in
      let w : d.2 ≡ false = d.5.1 ∙ is in
      let f : d.3 ≡ first = d.5.2 in
      let e : Decided None false first h d.1 = subst (λ found. Decided None false found h d.1) f (subst (λ b. Decided None b d.3 h d.1) w d.6) in
      rw same (slotless-made false Ready first h d.1 e)

  second-is : (first : ℕ) (won : Bool) → (first == from) ≡ won → has_second None from first ≡ not won && (is_tagged from && first == bare_of from)
  second-is first true is = rw is refl
  second-is first false is = rw is refl

  slotted-same : (slot first : ℕ) (h : Hand) (won : Bool) → at_phase h (cond won WritesBack (Lowers slot first)) ≡ slotted slot won first h
  slotted-same slot first h true = refl
  slotted-same slot first h false = refl

  -- the first try with a slot, that is raised
  tried-slotted-told : (slot : ℕ) (h : Hand) (list : List AnsweredEvent) → Comes (at_phase h (Tries slot)) list → Tried (Some slot) h list
  tried-slotted-told slot h list r =
      let one = one_event (exchange_asked p) (exchange_taken p) Leaves ends (at_phase h (Tries slot)) (Exchange word from written) list refl r in
      let then : Comes (slotted slot (one.0 == from) one.0 h) one.1 = subst (λ m. Comes m one.1) (slotted-same slot one.0 h (one.0 == from)) one.3 in (
        answered_event (Exchange word from written) one.0 ∷ [],
        one.1,
        (one.0 == from),
        one.0,
        one.2,
        record { first = one.0; second = []; parts = refl; again = (refl, refl, refl) },
        slotted-told slot (one.0 == from) one.0 h one.1 then,
      )

  tried-slotted-made : (slot : ℕ) (h : Hand) (list : List AnsweredEvent) → Tried (Some slot) h list → Comes (at_phase h (Tries slot)) list
  tried-slotted-made slot h list d =
      let first = d.5.first in
      let tries_are : d.0 ≡ answered_event (Exchange word from written) first ∷ [] = d.5.parts
      ∙ ap (λ xs. answered_event (Exchange word from written) first ∷ xs) d.5.again.0 in
      let same : list ≡ answered_event (Exchange word from written) first ∷ d.1 = d.4 ∙ ap (λ xs. xs ++ d.1) tries_are in
      let e : Decided (Some slot) (first == from) first h d.1 =
      subst (λ found. Decided (Some slot) (first == from) found h d.1) d.5.again.2 (subst (λ b. Decided (Some slot) b d.3 h d.1) d.5.again.1 d.6) in
      let then : Comes (at_phase h (cond (first == from) WritesBack (Lowers slot first))) d.1 =
      subst (λ m. Comes m d.1) (sym (slotted-same slot first h (first == from))) (slotted-made slot (first == from) first h d.1 e) in
      rw same (goes_on (exchange_asked p) (exchange_taken p) Leaves (at_phase h (Tries slot)) (Exchange word from written) first d.1 refl then)

  -- without a slot
  abbrev ready : Hand → HeldExchange
  ready k = at_phase (with_queue k []) Ready

  slotless-asked : (k : Hand) → p.slot word ≡ None → exchange_asked p (ready k) ≡ Some (Exchange word from written)
  slotless-asked k none = rw none refl

  slotless-taken : (k : Hand) (first : ℕ) → p.slot word ≡ None → exchange_taken p (ready k) first ≡ again_at (first == from)
      (is_tagged from && first == bare_of from) first (with_queue k [])
  slotless-taken k first none = rw none refl

  tried-slotless-told : (k : Hand) (list : List AnsweredEvent) → p.slot word ≡ None → Comes (ready k) list → Tried None (with_queue k []) list
  tried-slotless-told k list none r =
      let h = with_queue k [] in
      let one = one_event (exchange_asked p) (exchange_taken p) Leaves ends (ready k) (Exchange word from written) list (slotless-asked k none) r in
      let again = (is_tagged from && one.0 == bare_of from) in
      let then : Comes (again_at (one.0 == from) again one.0 h) one.1 = subst (λ m. Comes m one.1) (slotless-taken k one.0 none) one.3 in
      let a = again-told one.0 (one.0 == from) again h one.1 refl then in (
        answered_event (Exchange word from written) one.0 ∷ a.0,
        a.1,
        a.2,
        a.3,
        one.2 ∙ ap (λ xs. answered_event (Exchange word from written) one.0 ∷ xs) a.4,
        record {
          first = one.0;
          second = a.0;
          parts = refl;
          again = subst (λ b. IsSecond b word from written one.0 a.0 a.2 a.3)
              (sym (second-is one.0 (one.0 == from) refl)) a.5;
        },
        a.6,
      )

  tried-slotless-made : (k : Hand) (list : List AnsweredEvent) → p.slot word ≡ None → Tried None (with_queue k []) list → Comes (ready k) list
  tried-slotless-made k list none d =
      let h = with_queue k [] in
      let first = d.5.first in
      let again = (is_tagged from && first == bare_of from) in
      let second : IsSecond (not (first == from) && again) word from written first d.5.second d.2 d.3 =
      subst (λ b. IsSecond b word from written first d.5.second d.2 d.3) (second-is first (first == from) refl) d.5.again in
      let a = again-made first (first == from) again h (d.5.second ++ d.1) refl (d.5.second, d.1, d.2, d.3, refl, second, d.6) in
      let same : list ≡ answered_event (Exchange word from written) first ∷ (d.5.second ++ d.1) = d.4 ∙ ap (λ xs. xs ++ d.1) d.5.parts in
      rw same (goes_on (exchange_asked p) (exchange_taken p) Leaves (ready k) (Exchange word from written) first (d.5.second ++ d.1) (slotless-asked k none)
      (subst (λ m. Comes m (d.5.second ++ d.1)) (sym (slotless-taken k first none)) a))

  -- ---- after the fence: the raise, and the tries

  abbrev Middle : Option ℕ → Hand → List AnsweredEvent → Type 0
  Middle slot h list = (raise : List AnsweredEvent) × (left : List AnsweredEvent) × (list ≡ raise ++ left) × IsOfSlot Raise slot raise × Tried slot h left

  slotted-asked : (k : Hand) (slot : ℕ) → p.slot word ≡ Some slot → exchange_asked p (ready k) ≡ Some (Raise slot)
  slotted-asked k slot some = rw some refl

  slotted-taken : (k : Hand) (slot a : ℕ) → p.slot word ≡ Some slot → exchange_taken p (ready k) a ≡ at_phase (with_queue k []) (Tries slot)
  slotted-taken k slot a some = rw some refl

  middle-told : (slot : Option ℕ) → p.slot word ≡ slot → (k : Hand) (list : List AnsweredEvent) → Comes (ready k) list → Middle slot (with_queue k []) list
  middle-told None is k list r = ([], list, refl, refl, tried-slotless-told k list is r)
  middle-told (Some slot) is k list r =
      let one = one_event (exchange_asked p) (exchange_taken p) Leaves ends (ready k) (Raise slot) list (slotted-asked k slot is) r in (
        answered_event (Raise slot) one.0 ∷ [],
        one.1,
        one.2,
        (one.0, refl),
        tried-slotted-told slot (with_queue k []) one.1 (subst (λ m. Comes m one.1) (slotted-taken k slot one.0 is) one.3),
      )

  middle-made : (slot : Option ℕ) → p.slot word ≡ slot → (k : Hand) (list : List AnsweredEvent) → Middle slot (with_queue k []) list → Comes (ready k) list
  middle-made None is k list d =
      let same : list ≡ d.1 = d.2 ∙ ap (λ xs. xs ++ d.1) d.3 in
      rw same (tried-slotless-made k d.1 is d.4)
  middle-made (Some slot) is k list d =
      let same : list ≡ answered_event (Raise slot) d.3.0 ∷ d.1 = d.2 ∙ ap (λ xs. xs ++ d.1) d.3.1 in
      rw same (goes_on (exchange_asked p) (exchange_taken p) Leaves (ready k) (Raise slot) d.3.0 d.1 (slotted-asked k slot is)
      (subst (λ m. Comes m d.1) (sym (slotted-taken k slot d.3.0 is)) (tried-slotted-made slot (with_queue k []) d.1 d.4)))

  abbrev Whole : Hand → List AnsweredEvent → Type 0
  Whole hand list = (fence : List AnsweredEvent) × (rest : List AnsweredEvent) × (list ≡ fence ++ rest) × IsFence hand.queue fence
      × Middle (p.slot word) (with_queue (persisted hand (length hand.queue)) []) rest

  pub whole-told : (hand : Hand) (list : List AnsweredEvent) → Comes (at_phase hand Ready) list → Whole hand list
  whole-told hand list r =
      let f = fence_inside (exchange_asked p) (exchange_taken p) (λ h queue. at_phase (with_queue h queue) Ready) (λ h n ns. refl) (λ h n ns a. refl) Leaves
      ends hand.queue hand list r in
      (f.0, f.1, f.2, f.3, middle-told (p.slot word) refl (persisted hand (length hand.queue)) f.1 f.4)

  pub whole-made : (hand : Hand) (list : List AnsweredEvent) → Whole hand list → Comes (at_phase hand Ready) list
  whole-made hand list d =
      rw d.2 (fence_played (exchange_asked p) (exchange_taken p) (λ h queue. at_phase (with_queue h queue) Ready) (λ h n ns. refl) (λ h n ns a. refl) Leaves
      hand.queue hand d.0 d.1 d.3
      (middle-made (p.slot word) refl (persisted hand (length hand.queue)) d.1 d.4))

-- ---- its write-backs: those of the fence, and where it was won one more

pub nested : (a b c d : List AnsweredEvent) → a ++ b ++ c ++ d ≡ a ++ (b ++ (c ++ d))
nested a b c d = simp append_assoc

slot-uncounted : (event : ℕ → Event) → ((s : ℕ) (a : ℕ) (xs : List AnsweredEvent) → persists_in (answered_event (event s) a ∷ xs) ≡ persists_in xs) →
    (slot : Option ℕ) (list xs : List AnsweredEvent) → IsOfSlot event slot list → persists_in (list ++ xs) ≡ persists_in xs
slot-uncounted event none None list xs is = rw is refl
slot-uncounted event none (Some slot) list xs is = rw is.1 (none slot is.0 xs)

second-uncounted : (again : Bool) (word old new first : ℕ) (list : List AnsweredEvent) (won : Bool) (found : ℕ) (xs : List AnsweredEvent) →
    IsSecond again word old new first list won found → persists_in (list ++ xs) ≡ persists_in xs
second-uncounted false word old new first list won found xs is = rw is.0 refl
second-uncounted true word old new first list won found xs is = rw is.0 (persists-other (answered_event (Exchange word (bare_of old) new) found) xs refl)

tries-uncounted : (slot : Option ℕ) (word old new : ℕ) (list : List AnsweredEvent) (won : Bool) (found : ℕ) (xs : List AnsweredEvent) →
    IsTried slot word old new list won found → persists_in (list ++ xs) ≡ persists_in xs
tries-uncounted slot word old new list won found xs is =
    rw is.parts (persists-other (answered_event (Exchange word old new) is.first) (is.second ++ xs) refl
    ∙ second-uncounted (has_second slot old is.first) word old new is.first is.second won found xs is.again)

withdrawal-uncounted : (slot : Option ℕ) (word new bare : ℕ) (list : List AnsweredEvent) → IsWithdrawal slot word new bare list → persists_in list ≡ 0
withdrawal-uncounted None word new bare list is = rw is.1 (persists-other (answered_event (Exchange word new bare) is.0) [] refl)
withdrawal-uncounted (Some slot) word new bare list is = rw is.1 (persists-other (answered_event (Lower slot) is.0) [] refl)

abbrev won_count : Bool → ℕ
won_count true = 1
won_count false = 0

rest-count : (slot : Option ℕ) (word new bare found : ℕ) (rest : List AnsweredEvent) (how : Exchanged) (won : Bool) →
    MatchBool won (IsWonEnd slot word new bare rest how) (IsLostEnd slot found rest how) → persists_in rest ≡ won_count won
rest-count slot word new bare found rest how true is = rw is.parts (omega
    (arith, persists-one (answered_event (Persist word bare) is.answer) is.withdrawal refl, withdrawal-uncounted slot word new bare is.withdrawal is.withdraws))
rest-count slot word new bare found rest how false is =
    ap persists_in (sym (append-nil rest)) ∙ slot-uncounted Lower (λ s a xs. persists-other (answered_event (Lower s) a) xs refl) slot rest [] is.lowers

made-count : (queue : List Noted) (slot : Option ℕ) (word old new bare found : ℕ) (fence raise tries rest : List AnsweredEvent) (won : Bool) (how : Exchanged) →
    IsFence queue fence → IsOfSlot Raise slot raise →
    IsTried slot word old new tries won found → MatchBool won (IsWonEnd slot word new bare rest how) (IsLostEnd slot found rest how) →
    persists_in (fence ++ raise ++ tries ++ rest) ≡ length queue + won_count won
made-count queue slot word old new bare found fence raise tries rest won how is_fence is_raise tried ended =
    rw (nested fence raise tries rest) (omega (
      arith,
      persists-append fence (raise ++ (tries ++ rest)),
      persists-fence queue fence is_fence,
      slot-uncounted Raise (λ s a xs. persists-other (answered_event (Raise s) a) xs refl) slot raise (tries ++ rest) is_raise,
      tries-uncounted slot word old new tries won found rest tried,
      rest-count slot word new bare found rest how won ended,
    ))

-- the hand that it leaves
left-won : (hand : Hand) (list : List AnsweredEvent) (k : ℕ) → persists_in list ≡ k + 1 →
    with_persist (with_queue (persisted hand k) []) ≡ record hand { queue = []; tally = one_exchange (counted hand.tally list) true }
left-won hand list k same = rw same (ap (λ n. record hand { queue = []; tally = record hand.tally { persists = n } }) (raised-raised hand.tally.persists k 1))

left-lost : (hand : Hand) (list : List AnsweredEvent) (k : ℕ) → persists_in list ≡ k + 0 →
    with_failed (with_queue (persisted hand k) []) ≡ record hand { queue = []; tally = one_exchange (counted hand.tally list) false }
left-lost hand list k same = let e : persists_in list ≡ k = omega (arith, same) in rw e refl

-- what is decided, without and with the hand
split-told : (slot : Option ℕ) (word new bare found : ℕ) (rest list : List AnsweredEvent) (won : Bool) (how : Exchanged) (hand after : Hand) (k : ℕ) →
    persists_in list ≡ k + won_count won →
    MatchBool won (IsWonEnd slot word new bare rest how × (with_persist (with_queue (persisted hand k) []) ≡ after)) (IsLostEnd slot found rest how
    × (with_failed (with_queue (persisted hand k) []) ≡ after)) →
    (after ≡ record hand { queue = []; tally = one_exchange (counted hand.tally list) won })
split-told slot word new bare found rest list true how hand after k same d = sym d.1 ∙ left-won hand list k same
split-told slot word new bare found rest list false how hand after k same d = sym d.1 ∙ left-lost hand list k same

split-end : (slot : Option ℕ) (word new bare found : ℕ) (rest : List AnsweredEvent) (won : Bool) (how : Exchanged) (P Q : Type 0) →
    MatchBool won (IsWonEnd slot word new bare rest how × P) (IsLostEnd slot found rest how × Q) →
    MatchBool won (IsWonEnd slot word new bare rest how) (IsLostEnd slot found rest how)
split-end slot word new bare found rest true how P Q d = d.0
split-end slot word new bare found rest false how P Q d = d.0

split-made : (slot : Option ℕ) (word new bare found : ℕ) (rest list : List AnsweredEvent) (won : Bool) (how : Exchanged) (hand after : Hand) (k : ℕ) →
    persists_in list ≡ k + won_count won →
    (after ≡ record hand { queue = []; tally = one_exchange (counted hand.tally list) won }) →
    MatchBool won (IsWonEnd slot word new bare rest how) (IsLostEnd slot found rest how) →
    MatchBool won (IsWonEnd slot word new bare rest how × (with_persist (with_queue (persisted hand k) []) ≡ after)) (IsLostEnd slot found rest how
    × (with_failed (with_queue (persisted hand k) []) ≡ after))
split-made slot word new bare found rest list true how hand after k same is d = (d, left-won hand list k same ∙ sym is)
split-made slot word new bare found rest list false how hand after k same is d = (d, left-lost hand list k same ∙ sym is)

made-told : (p : Place) (hand : Hand) (word old value : ℕ) (list : List AnsweredEvent) (after : Hand) (how : Exchanged) →
    Reaches (exchange_asked p) (exchange_taken p) (at_phase p word old (next_bare old value) after how hand Ready) list (λ m. HasEnded m after how) →
    IsExchangeMade p hand word old value list after how
made-told p hand word old value list after how r =
    let to = next_bare old value in
    let new = dressed p.counted to in
    let slot = p.slot word in
    let k = length hand.queue in
    let w = whole-told p word old to after how hand list r in
    let m = w.4 in
    let t = m.4 in
    let ended = split-end slot word new to t.3 t.1 t.2 how (with_persist (with_queue (persisted hand k) []) ≡ after)
    (with_failed (with_queue (persisted hand k) []) ≡ after) t.6 in
    let parts : list ≡ w.0 ++ m.0 ++ t.0 ++ t.1 = w.2 ∙ (ap (λ xs. w.0 ++ xs) (m.2 ∙ ap (λ xs. m.0 ++ xs) t.4) ∙ sym (nested w.0 m.0 t.0 t.1)) in
    let count : persists_in list ≡ k + won_count t.2 = ap persists_in parts
    ∙ made-count hand.queue slot word old new to t.3 w.0 m.0 t.0 t.1 t.2 how w.3 m.3 t.5 ended in
    record {
      fence = w.0;
      raise = m.0;
      tries = t.0;
      rest = t.1;
      won = t.2;
      found = t.3;
      parts = parts;
      fences = w.3;
      raises = m.3;
      tried = t.5;
      ended = ended;
      ends = split-told slot word new to t.3 t.1 list t.2 how hand after k count t.6;
    }

made-made : (p : Place) (hand : Hand) (word old value : ℕ) (list : List AnsweredEvent) (after : Hand) (how : Exchanged) →
    IsExchangeMade p hand word old value list after how →
    Reaches (exchange_asked p) (exchange_taken p) (at_phase p word old (next_bare old value) after how hand Ready) list (λ m. HasEnded m after how)
made-made p hand word old value list after how is =
    let to = next_bare old value in
    let new = dressed p.counted to in
    let slot = p.slot word in
    let k = length hand.queue in
    let count : persists_in list ≡ k + won_count is.won =
    ap persists_in is.parts ∙ made-count hand.queue slot word old new to is.found is.fence is.raise is.tries is.rest is.won how is.fences is.raises is.tried
    is.ended in
    let decided = split-made slot word new to is.found is.rest list is.won how hand after k count is.ends is.ended in
    whole-made p word old to after how hand list (
      is.fence,
      is.raise ++ (is.tries ++ is.rest),
      is.parts ∙ nested is.fence is.raise is.tries is.rest,
      is.fences,
      (is.raise, is.tries ++ is.rest, refl, is.raises, (is.tries, is.rest, is.won, is.found, refl, is.tried, decided)),
    )

-- ---- worn at once, or made

exchange-told-by : (p : Place) (hand : Hand) (word old value : ℕ) (list : List AnsweredEvent) (after : Hand) (how : Exchanged) (worn : Bool) →
    Reaches (exchange_asked p) (exchange_taken p) (cond worn (at_phase p word old 0 after how hand (Ended (Worn word (version_of old))))
    (at_phase p word old (next_bare old value) after how hand Ready)) list (λ m. HasEnded m after how) →
    MatchBool worn (IsWornAtOnce hand word old list after how) (IsExchangeMade p hand word old value list after how)
exchange-told-by p hand word old value list after how true r =
    let last = no_event (exchange_asked p) (exchange_taken p) (λ m. HasEnded m after how) (λ m e. rw e.1 refl)
    (at_phase p word old 0 after how hand (Ended (Worn word (version_of old)))) list refl r in
    let how_is : Ended (Worn word (version_of old)) ≡ Ended how = last.1.1 in
    record { nothing = last.0; stays = sym last.1.0; worn = cc }
exchange-told-by p hand word old value list after how false r = made-told p hand word old value list after how r

exchange-made-by : (p : Place) (hand : Hand) (word old value : ℕ) (list : List AnsweredEvent) (after : Hand) (how : Exchanged) (worn : Bool) →
    MatchBool worn (IsWornAtOnce hand word old list after how) (IsExchangeMade p hand word old value list after how) →
    Reaches (exchange_asked p) (exchange_taken p) (cond worn (at_phase p word old 0 after how hand (Ended (Worn word (version_of old))))
    (at_phase p word old (next_bare old value) after how hand Ready)) list (λ m. HasEnded m after how)
exchange-made-by p hand word old value list after how true is =
    rw is.nothing (at_phase p word old 0 after how hand (Ended (Worn word (version_of old))), refl, (sym is.stays, ap Ended (sym is.worn)))
exchange-made-by p hand word old value list after how false is = made-made p hand word old value list after how is

pub exchange-told : (p : Place) (hand : Hand) (word old value limit : ℕ) (list : List AnsweredEvent) (after : Hand) (how : Exchanged) →
    ExchangeEnds p hand word old value limit list after how → IsExchangeList p hand word old value limit list after how
exchange-told p hand word old value limit list after how r = exchange-told-by p hand word old value list after how (nat_le limit (version_of old)) r

pub exchange-made : (p : Place) (hand : Hand) (word old value limit : ℕ) (list : List AnsweredEvent) (after : Hand) (how : Exchanged) →
    IsExchangeList p hand word old value limit list after how → ExchangeEnds p hand word old value limit list after how
exchange-made p hand word old value limit list after how is = exchange-made-by p hand word old value list after how (nat_le limit (version_of old)) is

-- ---- VExchange

abbrev v_at : Hand → ℕ → ℕ → ℕ → VExchanging → HeldVExchange
v_at hand word from to at = record { hand = hand; word = word; from = from; to = to; at = at }

v-exchange-told-by : (hand : Hand) (word old value : ℕ) (list : List AnsweredEvent) (after : Hand) (how : Exchanged) (worn : Bool) →
    Reaches v_exchange_asked v_exchange_taken (cond worn (v_at hand word old 0 (V_ended (Worn word (version_of old))))
    (v_at hand word old (next_bare old value) V_tries)) list (λ m. HasVEnded m after how) →
    MatchBool worn (IsWornAtOnce hand word old list after how) (IsVExchangeMade hand word old value list after how)
v-exchange-told-by hand word old value list after how true r =
    let last = no_event v_exchange_asked v_exchange_taken (λ m. HasVEnded m after how) (λ m e. rw e.1 refl)
    (v_at hand word old 0 (V_ended (Worn word (version_of old)))) list refl r in
    let how_is : V_ended (Worn word (version_of old)) ≡ V_ended how = last.1.1 in
    record { nothing = last.0; stays = sym last.1.0; worn = cc }
v-exchange-told-by hand word old value list after how false r =
    let to = next_bare old value in
    let ends : (m : HeldVExchange) → HasVEnded m after how → v_exchange_asked m ≡ None = λ m e. rw e.1 refl in
    let one = one_event v_exchange_asked v_exchange_taken (λ m. HasVEnded m after how) ends (v_at hand word old to V_tries) (Exchange word old to) list refl r
    in
    let decided = cond (one.0 == old) Won (Lost one.0) in
    let last = no_event v_exchange_asked v_exchange_taken (λ m. HasVEnded m after how) ends (v_at hand word old to (V_ended decided)) one.1 refl one.3 in
    let how_is : V_ended decided ≡ V_ended how = last.1.1 in
    record { found = one.0; parts = one.2 ∙ ap (λ xs. answered_event (Exchange word old to) one.0 ∷ xs) last.0; stays = sym last.1.0; ended = cc }

v-exchange-made-by : (hand : Hand) (word old value : ℕ) (list : List AnsweredEvent) (after : Hand) (how : Exchanged) (worn : Bool) →
    MatchBool worn (IsWornAtOnce hand word old list after how) (IsVExchangeMade hand word old value list after how) →
    Reaches v_exchange_asked v_exchange_taken (cond worn (v_at hand word old 0 (V_ended (Worn word (version_of old))))
    (v_at hand word old (next_bare old value) V_tries)) list (λ m. HasVEnded m after how)
v-exchange-made-by hand word old value list after how true is =
    rw is.nothing (v_at hand word old 0 (V_ended (Worn word (version_of old))), refl, (sym is.stays, ap V_ended (sym is.worn)))
v-exchange-made-by hand word old value list after how false is =
    let to = next_bare old value in
    rw is.parts (v_at hand word old to (V_ended (cond (is.found == old) Won (Lost is.found))), (refl, refl), (sym is.stays, ap V_ended (sym is.ended)))

pub v-exchange-told : (hand : Hand) (word old value limit : ℕ) (list : List AnsweredEvent) (after : Hand) (how : Exchanged) →
    VExchangeEnds hand word old value limit list after how → IsVExchangeList hand word old value limit list after how
v-exchange-told hand word old value limit list after how r = v-exchange-told-by hand word old value list after how (nat_le limit (version_of old)) r

pub v-exchange-made : (hand : Hand) (word old value limit : ℕ) (list : List AnsweredEvent) (after : Hand) (how : Exchanged) →
    IsVExchangeList hand word old value limit list after how → VExchangeEnds hand word old value limit list after how
v-exchange-made hand word old value limit list after how is = v-exchange-made-by hand word old value list after how (nat_le limit (version_of old)) is
