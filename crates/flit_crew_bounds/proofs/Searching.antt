-- An exchange that an event loses counts one lost more, and no write-back ends an exchange.
use Rattle.std.proofs.Common.{◌≡◌, ℕ, ◌==◌, ◌&&◌, Bool, true, false, List, [], ◌∷◌, Option, Some, None, refl, sym, ◌∙◌, ap, if◌then◌else◌}
use Rattle.std.proofs.lemmas.Bool.{false≢true}
use Rattle.std.proofs.lemmas.Option.{none-some}
use Rattle.flit_words.specs.Words.{is_tagged, bare_of}
use Rattle.flit_model.specs.States.{State}
use Rattle.flit_model.specs.declared.events.Event.{Event}
use Rattle.flit_model.specs.declared.events.Event.TheVariants.{Persist}
use Rattle.flit_place.specs.Tags.{Place}
use Rattle.flit_pv.specs.declared.queues.Noted.{Noted}
use Rattle.flit_pv.specs.Hands.{more}
use Rattle.flit_pv.specs.Exchanges.{HeldExchange, exchange_asks, exchange_takes, exchange_taken, exchange_at, exchange_loses, tries_again, ready_asks, ready_takes, withdraw_asks}
use Rattle.flit_pv.specs.declared.exchanges.Exchanging.{Exchanging}
use Rattle.flit_pv.specs.declared.exchanges.Exchanging.TheVariants.{Ready, Tries, TriesBare, WritesBack, Withdraws, Lowers, Ended}
use Rattle.flit_pv.specs.declared.exchanges.Exchanged.{Exchanged}
use Rattle.flit_runs.specs.Workings as run
use Rattle.flit_runs.specs.Workings.{Working, Idles, Loads, VLoads, Confirms, Exchanges, VExchanges, Stores, Fences, Completes, Evicts}
use Rattle.flit_runs.specs.Soundness.{ExchangeKnows}
use Rattle.flit_crew.specs.Machines.{Machine, Works, Takes, machine_asks, machine_takes, hand_in}
use Rattle.flit_crew_bounds.specs.Bounding.{is_lost}

-- whether an exchange has ended lost, and whether it has ended
abbrev pub at_loss : Exchanging → Bool
at_loss Ready = false
at_loss (Tries slot) = false
at_loss TriesBare = false
at_loss WritesBack = false
at_loss Withdraws = false
at_loss (Lowers slot found) = false
at_loss (Ended how) = is_lost how

abbrev pub at_end : Exchanging → Bool
at_end Ready = false
at_end (Tries slot) = false
at_end TriesBare = false
at_end WritesBack = false
at_end Withdraws = false
at_end (Lowers slot found) = false
at_end (Ended how) = true

-- ---- one that is lost

abbrev CountsLoss : HeldExchange → HeldExchange → Type 0
CountsLoss m n = at_loss n.at ≡ true → n.hand.tally.failed ≡ more m.hand.tally.failed

again_counts : (m : HeldExchange) (found : ℕ) (b : Bool) → CountsLoss m (if b then exchange_at m TriesBare else exchange_loses m found)
again_counts m found true q = absurd (false≢true q)
again_counts m found false q = refl

tried_counts : (m : HeldExchange) (told : ℕ) (b : Bool) → CountsLoss m (if b then exchange_at m WritesBack else tries_again m told)
tried_counts m told true q = absurd (false≢true q)
tried_counts m told false q = again_counts m told (is_tagged m.from && (told == bare_of m.from)) q

ready_counts : (m : HeldExchange) (told : ℕ) (queue : List Noted) (slot : Option ℕ) → m.at ≡ Ready → CountsLoss m (ready_takes m told queue slot)
ready_counts m told (n ∷ ns) slot is q = absurd (false≢true (sym (ap at_loss is) ∙ q))
ready_counts m told [] (Some slot) is q = absurd (false≢true q)
ready_counts m told [] None is q = tried_counts m told (told == m.from) q

slot_counts : (m : HeldExchange) (told slot : ℕ) (b : Bool) → CountsLoss m (exchange_at m (if b then WritesBack else Lowers slot told))
slot_counts m told slot true q = absurd (false≢true q)
slot_counts m told slot false q = absurd (false≢true q)

bare_counts : (m : HeldExchange) (told : ℕ) (b : Bool) → CountsLoss m (if b then exchange_at m WritesBack else exchange_loses m told)
bare_counts m told true q = absurd (false≢true q)
bare_counts m told false q = refl

exchange_counts : (p : Place) (m : HeldExchange) (told : ℕ) (at : Exchanging) (e : Event) → m.at ≡ at → exchange_asks p at m ≡ Some e →
    CountsLoss m (exchange_takes p at m told)
exchange_counts p m told Ready e is asked q = ready_counts m told m.hand.queue (p.slot m.word) is q
exchange_counts p m told (Tries slot) e is asked q = slot_counts m told slot (told == m.from) q
exchange_counts p m told TriesBare e is asked q = bare_counts m told (told == bare_of m.from) q
exchange_counts p m told WritesBack e is asked q = absurd (false≢true q)
exchange_counts p m told Withdraws e is asked q = absurd (false≢true q)
exchange_counts p m told (Lowers slot found) e is asked q = refl
exchange_counts p m told (Ended how) e is asked q = absurd (none-some e asked)

-- ---- a write-back ends none

abbrev NoEnd : Option Event → HeldExchange → Type 0
NoEnd asked n = (word kept : ℕ) → asked ≡ Some (Persist word kept) → at_end n.at ≡ false

ready_goes : (p : Place) (m : HeldExchange) (told : ℕ) (queue : List Noted) (slot : Option ℕ) → m.at ≡ Ready →
    NoEnd (Some (ready_asks p m queue slot)) (ready_takes m told queue slot)
ready_goes p m told (n ∷ ns) slot is word kept q = ap at_end is
ready_goes p m told [] (Some slot) is word kept q = refl
ready_goes p m told [] None is word kept q = absurd (cc)

withdraw_goes : (p : Place) (m n : HeldExchange) (slot : Option ℕ) → NoEnd (Some (withdraw_asks p m slot)) n
withdraw_goes p m n None word kept q = absurd (cc)
withdraw_goes p m n (Some slot) word kept q = absurd (cc)

exchange_goes : (p : Place) (m : HeldExchange) (told : ℕ) (at : Exchanging) → m.at ≡ at → NoEnd (exchange_asks p at m) (exchange_takes p at m told)
exchange_goes p m told Ready is word kept q = ready_goes p m told m.hand.queue (p.slot m.word) is word kept q
exchange_goes p m told (Tries slot) is word kept q = absurd (cc)
exchange_goes p m told TriesBare is word kept q = absurd (cc)
exchange_goes p m told WritesBack is word kept q = refl
exchange_goes p m told Withdraws is word kept q = withdraw_goes p m (exchange_takes p Withdraws m told) (p.slot m.word) word kept q
exchange_goes p m told (Lowers slot found) is word kept q = absurd (cc)
exchange_goes p m told (Ended how) is word kept q = absurd (none-some (Persist word kept) q)

-- ---- an exchange that has ended has nothing queued

abbrev EndsEmpty : HeldExchange → Type 0
EndsEmpty n = at_end n.at ≡ true → n.hand.queue ≡ []

again_empties : (m : HeldExchange) (found : ℕ) (b : Bool) → m.hand.queue ≡ [] → EndsEmpty (if b then exchange_at m TriesBare else exchange_loses m found)
again_empties m found true none q = none
again_empties m found false none q = none

tried_empties : (m : HeldExchange) (told : ℕ) (b : Bool) → m.hand.queue ≡ [] → EndsEmpty (if b then exchange_at m WritesBack else tries_again m told)
tried_empties m told true none q = none
tried_empties m told false none q = again_empties m told (is_tagged m.from && (told == bare_of m.from)) none q

ready_empties : (m : HeldExchange) (told : ℕ) (queue : List Noted) (slot : Option ℕ) → m.at ≡ Ready → m.hand.queue ≡ queue →
    EndsEmpty (ready_takes m told queue slot)
ready_empties m told (n ∷ ns) slot is same q = absurd (false≢true (sym (ap at_end is) ∙ q))
ready_empties m told [] (Some slot) is same q = absurd (false≢true q)
ready_empties m told [] None is same q = tried_empties m told (told == m.from) same q

slot_empties : (m : HeldExchange) (told slot : ℕ) (b : Bool) → EndsEmpty (exchange_at m (if b then WritesBack else Lowers slot told))
slot_empties m told slot true q = absurd (false≢true q)
slot_empties m told slot false q = absurd (false≢true q)

bare_empties : (m : HeldExchange) (told : ℕ) (b : Bool) → m.hand.queue ≡ [] → EndsEmpty (if b then exchange_at m WritesBack else exchange_loses m told)
bare_empties m told true none q = none
bare_empties m told false none q = none

exchange_empties : (p : Place) (s : State) (m : HeldExchange) (told : ℕ) (at : Exchanging) (e : Event) → m.at ≡ at → exchange_asks p at m ≡ Some e →
    ExchangeKnows p (λ x. false) s at m → EndsEmpty (exchange_takes p at m told)
exchange_empties p s m told Ready e is asked k q = ready_empties m told m.hand.queue (p.slot m.word) is refl q
exchange_empties p s m told (Tries slot) e is asked k q = slot_empties m told slot (told == m.from) q
exchange_empties p s m told TriesBare e is asked k q = bare_empties m told (told == bare_of m.from) k.1.fenced q
exchange_empties p s m told WritesBack e is asked k q = absurd (false≢true q)
exchange_empties p s m told Withdraws e is asked k q = k.1
exchange_empties p s m told (Lowers slot found) e is asked k q = k.1
exchange_empties p s m told (Ended how) e is asked k q = absurd (none-some e asked)

-- ---- of a machine

same_exchange : (a b : HeldExchange) → Works (Exchanges a) ≡ Works (Exchanges b) → a ≡ b
same_exchange a b q = cc

lost_working : (p : Place) (w : Working) (e : Event) (told : ℕ) (x : HeldExchange) → run.asks p w ≡ Some e → Works (run.takes p w told) ≡ Works (Exchanges x) →
    at_loss x.at ≡ true → x.hand.tally.failed ≡ more (hand_in (Works w)).tally.failed
lost_working p (Exchanges y) e told x asked is lost =
    let same : exchange_taken p y told ≡ x = same_exchange (exchange_taken p y told) x is in
    ap (λ n. n.hand.tally.failed) (sym same) ∙ exchange_counts p y told y.at e refl asked (ap (λ n. at_loss n.at) same ∙ lost)
lost_working p (Idles hand) e told x asked is lost = absurd (cc)
lost_working p (Loads m) e told x asked is lost = absurd (cc)
lost_working p (VLoads m) e told x asked is lost = absurd (cc)
lost_working p (Confirms m) e told x asked is lost = absurd (cc)
lost_working p (VExchanges m) e told x asked is lost = absurd (cc)
lost_working p (Stores m) e told x asked is lost = absurd (cc)
lost_working p (Fences m) e told x asked is lost = absurd (cc)
lost_working p (Completes m) e told x asked is lost = absurd (cc)
lost_working p (Evicts m) e told x asked is lost = absurd (cc)

pub lost_counts : (p : Place) (free : List ℕ) (m : Machine) (e : Event) (told : ℕ) (x : HeldExchange) (how : Exchanged) → machine_asks p m ≡ Some e →
    machine_takes p free m told ≡ Works (Exchanges x) → x.at ≡ Ended how → is_lost how ≡ true → x.hand.tally.failed ≡ more (hand_in m).tally.failed
lost_counts p free (Works w) e told x how asked is ended lost = lost_working p w e told x asked is (ap at_loss ended ∙ lost)
lost_counts p free (Takes m) e told x how asked is ended lost = absurd (cc)

persist_working : (p : Place) (w : Working) (word kept told : ℕ) (x : HeldExchange) → run.asks p w ≡ Some (Persist word kept) →
    Works (run.takes p w told) ≡ Works (Exchanges x) → at_end x.at ≡ false
persist_working p (Exchanges y) word kept told x asked is =
    let same : exchange_taken p y told ≡ x = same_exchange (exchange_taken p y told) x is in
    ap (λ n. at_end n.at) (sym same) ∙ exchange_goes p y told y.at refl word kept asked
persist_working p (Idles hand) word kept told x asked is = absurd (cc)
persist_working p (Loads m) word kept told x asked is = absurd (cc)
persist_working p (VLoads m) word kept told x asked is = absurd (cc)
persist_working p (Confirms m) word kept told x asked is = absurd (cc)
persist_working p (VExchanges m) word kept told x asked is = absurd (cc)
persist_working p (Stores m) word kept told x asked is = absurd (cc)
persist_working p (Fences m) word kept told x asked is = absurd (cc)
persist_working p (Completes m) word kept told x asked is = absurd (cc)
persist_working p (Evicts m) word kept told x asked is = absurd (cc)

pub persist_ends_none : (p : Place) (free : List ℕ) (m : Machine) (word kept told : ℕ) (x : HeldExchange) (how : Exchanged) →
    machine_asks p m ≡ Some (Persist word kept) → machine_takes p free m told ≡ Works (Exchanges x) → x.at ≡ Ended how → ⊥
persist_ends_none p free (Works w) word kept told x how asked is ended =
    false≢true (sym (persist_working p w word kept told x asked is) ∙ ap at_end ended)
persist_ends_none p free (Takes m) word kept told x how asked is ended = absurd (cc)

empty_working : (p : Place) (s : State) (w : Working) (e : Event) (told : ℕ) (x : HeldExchange) →
    ((y : HeldExchange) → w ≡ Exchanges y → ExchangeKnows p (λ v. false) s y.at y) → run.asks p w ≡ Some e →
    Works (run.takes p w told) ≡ Works (Exchanges x) → at_end x.at ≡ true → x.hand.queue ≡ []
empty_working p s (Exchanges y) e told x k asked is ended =
    let same : exchange_taken p y told ≡ x = same_exchange (exchange_taken p y told) x is in
    ap (λ n. n.hand.queue) (sym same) ∙ exchange_empties p s y told y.at e refl asked (k y refl) (ap (λ n. at_end n.at) same ∙ ended)
empty_working p s (Idles hand) e told x k asked is ended = absurd (cc)
empty_working p s (Loads m) e told x k asked is ended = absurd (cc)
empty_working p s (VLoads m) e told x k asked is ended = absurd (cc)
empty_working p s (Confirms m) e told x k asked is ended = absurd (cc)
empty_working p s (VExchanges m) e told x k asked is ended = absurd (cc)
empty_working p s (Stores m) e told x k asked is ended = absurd (cc)
empty_working p s (Fences m) e told x k asked is ended = absurd (cc)
empty_working p s (Completes m) e told x k asked is ended = absurd (cc)
empty_working p s (Evicts m) e told x k asked is ended = absurd (cc)

pub ends_empty : (p : Place) (free : List ℕ) (s : State) (m : Machine) (e : Event) (told : ℕ) (x : HeldExchange) (how : Exchanged) →
    ((y : HeldExchange) → m ≡ Works (Exchanges y) → ExchangeKnows p (λ v. false) s y.at y) → machine_asks p m ≡ Some e →
    machine_takes p free m told ≡ Works (Exchanges x) → x.at ≡ Ended how → x.hand.queue ≡ []
ends_empty p free s (Works w) e told x how k asked is ended = empty_working p s w e told x (λ y same. k y (ap Works same)) asked is (ap at_end ended)
ends_empty p free s (Takes m) e told x how k asked is ended = absurd (cc)
