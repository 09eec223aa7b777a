-- Which instructions ask for an Exchange, by which event a PExchange wins, and how it asks for the next version.
use Rattle.std.proofs.Common.{◌≡◌, ℕ, ◌+◌, ◌&&◌, eqb, Bool, true, false, List, [], ◌∷◌, Option, Some, None, refl, sym, ◌∙◌, ap, subst, arith, if◌then◌else◌}
use Rattle.std.proofs.lemmas.Bool.{false≢true, eq-eqb}
use Rattle.std.proofs.lemmas.Option.{none-some, same_Some}
use Rattle.flit_words.specs.Words.{version_of, is_tagged, bare_of}
use Rattle.flit_model.specs.declared.events.Event.{Event}
use Rattle.flit_model.specs.declared.events.Event.TheVariants.{Load, ReadTag, Raise, Lower, Exchange, Persist, Store, Draw}
use Rattle.flit_place.specs.Tags.{Place, dressed}
use Rattle.flit_place.proofs.WordTags.{version-dressed, bare-dressed, bare-untagged}
use Rattle.flit_place.specs.declared.writings.Stage.{Stage}
use Rattle.flit_place.specs.declared.writings.Stage.TheVariants.{Before, Raised}
use Rattle.flit_pv.specs.declared.queues.Noted.{Noted}
use Rattle.flit_pv.specs.declared.loads.Loading.{Loading}
use Rattle.flit_pv.specs.declared.loads.Loading.TheVariants.{Reads as Load_reads, Asks, MakesRoom as Load_makes_room, Has}
use Rattle.flit_pv.specs.declared.v_loads.VLoading.{VLoading}
use Rattle.flit_pv.specs.declared.v_loads.VLoading.TheVariants.{Reads as V_reads, Has as V_has}
use Rattle.flit_pv.specs.declared.exchanges.Exchanging.{Exchanging}
use Rattle.flit_pv.specs.declared.exchanges.Exchanging.TheVariants.{Ready, Tries, TriesBare, WritesBack, Withdraws, Lowers, Ended}
use Rattle.flit_pv.specs.declared.exchanges.Exchanged.TheVariants.{Won, Lost, Worn}
use Rattle.flit_pv.specs.declared.stores.Storing.{Storing}
use Rattle.flit_pv.specs.declared.stores.Storing.TheVariants.{Reads as Store_reads, MakesRoom as Store_makes_room, Writes, Ended as Store_ended}
use Rattle.flit_pv.specs.Queues.{first_persist, is_full}
use Rattle.flit_pv.specs.Loads.{HeldLoad, load_asks, load_asked}
use Rattle.flit_pv.specs.VLoads.{HeldVLoad, v_load_asks, v_load_asked}
use Rattle.flit_pv.specs.Stores.{HeldStore, store_asks, store_asked}
use Rattle.flit_pv.specs.Fences.{HeldComplete, complete_asked}
use Rattle.flit_pv.specs.Exchanges.{HeldExchange, exchange_asks, exchange_asked, exchange_takes, exchange_taken, exchange_at, exchange_from, ready_asks, ready_takes, withdraw_asks, tries_again, exchange_loses, writing_at, writing_in, writing_of}

abbrev pub is_exchange : Event → Bool
is_exchange (Load word) = false
is_exchange (ReadTag slot) = false
is_exchange (Raise slot) = false
is_exchange (Lower slot) = false
is_exchange (Exchange word from to) = true
is_exchange (Persist word kept) = false
is_exchange (Store word to) = false
is_exchange Draw = false

-- no Exchange is asked
abbrev pub AsksNone : Option Event → Type 0
AsksNone asked = (word from to : ℕ) → asked ≡ Some (Exchange word from to) → ⊥

pub no_exchange : (e : Event) → is_exchange e ≡ false → AsksNone (Some e)
no_exchange e other word from to q = false≢true (sym other ∙ ap is_exchange (same_Some e (Exchange word from to) q))

pub no_event : AsksNone None
no_event word from to q = none-some (Exchange word from to) q

pub queue_asks_none : (queue : List Noted) → AsksNone (first_persist queue)
queue_asks_none [] = no_event
queue_asks_none (n ∷ ns) = no_exchange (Persist n.word n.kept) refl

load_none : (m : HeldLoad) (at : Loading) → AsksNone (load_asks at m)
load_none m Load_reads = no_exchange (Load m.word) refl
load_none m (Asks raw slot) = no_exchange (ReadTag slot) refl
load_none m (Load_makes_room raw first) = no_exchange (Persist first.word first.kept) refl
load_none m (Has raw) = no_event

pub load_asks_none : (m : HeldLoad) → AsksNone (load_asked m)
load_asks_none m = load_none m m.at

v_load_none : (m : HeldVLoad) (at : VLoading) → AsksNone (v_load_asks at m)
v_load_none m V_reads = no_exchange (Load m.word) refl
v_load_none m (V_has raw) = no_event

pub v_load_asks_none : (m : HeldVLoad) → AsksNone (v_load_asked m)
v_load_asks_none m = v_load_none m m.at

write_none : (queue : List Noted) (next : Noted) (full : Bool) → AsksNone (if full then first_persist queue else Some (Store next.word next.kept))
write_none queue next true = queue_asks_none queue
write_none queue next false = no_exchange (Store next.word next.kept) refl

store_none : (m : HeldStore) (at : Storing) → AsksNone (store_asks at m)
store_none m (Store_reads how) = no_exchange (Load m.drafts.word) refl
store_none m (Writes next) = write_none m.hand.queue next (is_full m.hand.queue)
store_none m (Store_makes_room next first) = no_exchange (Persist first.word first.kept) refl
store_none m (Store_ended how) = no_event

pub store_asks_none : (m : HeldStore) → AsksNone (store_asked m)
store_asks_none m = store_none m m.at

pub complete_asks_none : (m : HeldComplete) → AsksNone (complete_asked m)
complete_asks_none m = queue_asks_none m.fence.hand.queue

-- ---- a PExchange ends won by the event that withdraws its tag alone

abbrev pub has_won : Exchanging → Bool
has_won Ready = false
has_won (Tries slot) = false
has_won TriesBare = false
has_won WritesBack = false
has_won Withdraws = false
has_won (Lowers slot found) = false
has_won (Ended Won) = true
has_won (Ended (Lost found)) = false
has_won (Ended (Worn word version)) = false

abbrev pub withdraws : Exchanging → Bool
withdraws Ready = false
withdraws (Tries slot) = false
withdraws TriesBare = false
withdraws WritesBack = false
withdraws Withdraws = true
withdraws (Lowers slot found) = false
withdraws (Ended how) = false

module _ (m : HeldExchange) (told : ℕ) where
  again_unwon : (again : Bool) → has_won (if again then exchange_at m TriesBare else exchange_loses m told).at ≡ false
  again_unwon true = refl
  again_unwon false = refl

  tried_unwon : (won : Bool) → has_won (if won then exchange_at m WritesBack else tries_again m told).at ≡ false
  tried_unwon true = refl
  tried_unwon false = again_unwon (is_tagged m.from && eqb told (bare_of m.from))

  slot_unwon : (slot : ℕ) (won : Bool) → has_won (if won then WritesBack else Lowers slot told) ≡ false
  slot_unwon slot true = refl
  slot_unwon slot false = refl

  bare_unwon : (won : Bool) → has_won (if won then exchange_at m WritesBack else exchange_loses m told).at ≡ false
  bare_unwon true = refl
  bare_unwon false = refl

  ready_unwon : (queue : List Noted) (slot : Option ℕ) → m.at ≡ Ready → has_won (ready_takes m told queue slot).at ≡ false
  ready_unwon (n ∷ ns) slot is = ap has_won is
  ready_unwon [] (Some slot) is = refl
  ready_unwon [] None is = tried_unwon (eqb told m.from)

  unwon : (p : Place) (at : Exchanging) (e : Event) → m.at ≡ at → exchange_asks p at m ≡ Some e → withdraws at ≡ false →
      has_won (exchange_takes p at m told).at ≡ false
  unwon p Ready e is q other = ready_unwon m.hand.queue (p.slot m.word) is
  unwon p (Tries slot) e is q other = slot_unwon slot (eqb told m.from)
  unwon p TriesBare e is q other = bare_unwon (eqb told (bare_of m.from))
  unwon p WritesBack e is q other = refl
  unwon p Withdraws e is q other = absurd (false≢true (sym other))
  unwon p (Lowers slot found) e is q other = refl
  unwon p (Ended how) e is q other = absurd (none-some e q)

  pub wins_at_the_end : (p : Place) (e : Event) → exchange_asked p m ≡ Some e → withdraws m.at ≡ false → has_won (exchange_taken p m told).at ≡ false
  wins_at_the_end p e q other = unwon p m.at e refl q other

-- ---- a PExchange that writes the next version

-- it is told as a writing of this word to this bare value, and where it is won it is to be written back
pub record IsWriter (p : Place) (m : HeldExchange) (word from to : ℕ) : Type 0 where
  pub word_is : m.word ≡ word
  pub new_is : m.to ≡ bare_of to
  pub stage : Stage
  pub told : writing_of m ≡ Some (writing_at m stage)
  pub won : exchange_taken p m from ≡ exchange_at m WritesBack

module _ (p : Place) (m : HeldExchange) (bare : is_tagged m.to ≡ false) (word from to : ℕ) where
  abbrev tried : ℕ → Event
  tried old = exchange_from p m old

  new_of : (old : ℕ) → Some (tried old) ≡ Some (Exchange word from to) → m.to ≡ bare_of to
  new_of old q =
      let e : dressed p.counted m.to ≡ to = cc in
      sym (ap bare_of (sym e) ∙ bare-dressed p.counted m.to ∙ bare-untagged m.to bare)

  word_of : (old : ℕ) → Some (tried old) ≡ Some (Exchange word from to) → m.word ≡ word
  word_of old q = cc

  from_of : (old : ℕ) → Some (tried old) ≡ Some (Exchange word from to) → from ≡ old
  from_of old q = cc

  same_test : (old : ℕ) → from ≡ old → eqb from old ≡ true
  same_test old e = eq-eqb from old e

  ready_writes : (queue : List Noted) (slot : Option ℕ) → m.at ≡ Ready → m.hand.queue ≡ queue → p.slot m.word ≡ slot →
      Some (ready_asks p m queue slot) ≡ Some (Exchange word from to) → IsWriter p m word from to
  ready_writes (n ∷ ns) slot is empty has q = absurd (no_exchange (Persist n.word n.kept) refl word from to q)
  ready_writes [] (Some slot) is empty has q = absurd (no_exchange (Raise slot) refl word from to q)
  ready_writes [] None is empty has q = record {
    word_is = word_of m.from q;
    new_is = new_of m.from q;
    stage = Before;
    told = ap (λ at. writing_in at m) is;
    won = ap (λ at. exchange_takes p at m from) is ∙ ap (λ x. ready_takes m from x (p.slot m.word)) empty ∙ ap (λ x. ready_takes m from [] x) has
        ∙ ap (λ b. if b then exchange_at m WritesBack else tries_again m from) (same_test m.from (from_of m.from q));
  }

  writes : (at : Exchanging) → m.at ≡ at → exchange_asks p at m ≡ Some (Exchange word from to) → version_of to ≡ version_of from + 1 → IsWriter p m word from to
  writes Ready is q next = ready_writes m.hand.queue (p.slot m.word) is refl refl q
  writes (Tries slot) is q next = record {
    word_is = word_of m.from q;
    new_is = new_of m.from q;
    stage = Raised;
    told = ap (λ at. writing_in at m) is;
    won = ap (λ at. exchange_takes p at m from) is ∙ ap (λ b. exchange_at m (if b then WritesBack else Lowers slot from)) (same_test m.from (from_of m.from q));
  }
  writes TriesBare is q next = record {
    word_is = word_of (bare_of m.from) q;
    new_is = new_of (bare_of m.from) q;
    stage = Before;
    told = ap (λ at. writing_in at m) is;
    won = ap (λ at. exchange_takes p at m from) is ∙ ap (λ b. if b then exchange_at m WritesBack else exchange_loses m from)
        (same_test (bare_of m.from) (from_of (bare_of m.from) q));
  }
  writes WritesBack is q next = absurd (no_exchange (Persist m.word m.to) refl word from to q)
  writes Withdraws is q next = absurd (by_slot (p.slot m.word) q)
    where
      by_slot : (slot : Option ℕ) → Some (withdraw_asks p m slot) ≡ Some (Exchange word from to) → ⊥
      by_slot (Some slot) r = no_exchange (Lower slot) refl word from to r
      by_slot None r =
          let new : m.to ≡ to = cc in
          let old : dressed p.counted m.to ≡ from = cc in
          let same : version_of from ≡ version_of to = ap version_of (sym old) ∙ version-dressed p.counted m.to ∙ ap version_of new in
          omega (arith, next, same)
  writes (Lowers slot found) is q next = absurd (no_exchange (Lower slot) refl word from to q)
  writes (Ended how) is q next = absurd (no_event word from to q)

  pub exchange_writes : exchange_asked p m ≡ Some (Exchange word from to) → version_of to ≡ version_of from + 1 → IsWriter p m word from to
  exchange_writes q next = writes m.at refl q next
