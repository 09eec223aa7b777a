-- An Exchange to the next version is told as its writing; and the laws of a crew's trait that are said of a worker among
-- the others, whatever it is at.
use Rattle.std.proofs.Common.{◌≡◌, ◌⊎◌, ℕ, ◌+◌, ◌&&◌, Bool, true, false, List, ◌∷◌, ◌++◌, Contains, Option, Some, None, refl, sym, ◌∙◌, ap, subst, if◌then◌else◌}
use Rattle.std.proofs.lemmas.Bool.{false≢true}
use Rattle.std.proofs.lemmas.Option.{none-some}
use Rattle.flit_words.specs.declared.layouts.Layout.{Layout}
use Rattle.flit_words.specs.Words.{version_of, bare_of}
use Rattle.flit_model.specs.States.{State, word_at, shadow_at}
use Rattle.flit_model.specs.Effects.{IsAllowed, after}
use Rattle.flit_model.specs.declared.events.Event.{Event}
use Rattle.flit_model.specs.declared.events.Event.TheVariants.{Load, ReadTag, Exchange, Persist, Draw}
use Rattle.flit_model.specs.declared.calls.Call.{Call}
use Rattle.flit_place.specs.Tags.{Place, shown}
use Rattle.flit_place.specs.declared.writings.Stage.TheVariants.{Won as Stage_won}
use Rattle.flit_pv.specs.declared.hands.Hand.{Hand}
use Rattle.flit_pv.specs.declared.confirms.Confirming.{Confirming}
use Rattle.flit_pv.specs.declared.confirms.Confirming.TheVariants.{Begins, MakesRoom, Done as Confirm_done}
use Rattle.flit_pv.specs.declared.v_exchanges.VExchanging.{VExchanging}
use Rattle.flit_pv.specs.declared.v_exchanges.VExchanging.TheVariants.{Tries as V_tries, Ended as V_ended}
use Rattle.flit_pv.specs.declared.exchanges.Exchanging.TheVariants.{WritesBack}
use Rattle.flit_pv.specs.declared.evicts.Evict.{Evict}
use Rattle.flit_pv.specs.declared.evicts.Evicting.{Evicting}
use Rattle.flit_pv.specs.declared.evicts.Evicting.TheVariants.{Reads as Evict_reads, WritesBack as Evict_writes_back, Done as Evict_done}
use Rattle.flit_pv.specs.Queues.{first_persist, is_full}
use Rattle.flit_pv.specs.Confirms.{HeldConfirm, confirm_asks, confirm_begins}
use Rattle.flit_pv.specs.VExchanges.{HeldVExchange, v_exchange_asks}
use Rattle.flit_pv.specs.Exchanges.{HeldExchange, exchange_at}
use Rattle.flit_pv.specs.Evicts.{evict_asks}
use Rattle.flit_pv.proofs.Asking.{AsksNone, IsWriter, no_exchange, no_event, queue_asks_none, load_asks_none, v_load_asks_none, store_asks_none, complete_asks_none}
use Rattle.flit_rows.specs.declared.take_row.Taking.{Taking}
use Rattle.flit_rows.specs.declared.take_row.Taking.TheVariants.{Draws, Ended as Take_ended}
use Rattle.flit_rows.specs.Taking.{take_asks}
use Rattle.flit_runs.specs.Workings.{Idles, Loads, VLoads, Confirms, Exchanges, VExchanges, Stores, Fences, Completes, Evicts, writing_at}
use Rattle.flit_runs.specs.Soundness.{SwapKnows}
use Rattle.flit_runs.proofs.Writers.{next_is_told}
use Rattle.flit_structure.specs.declared.workers.Doing.{Doing}
use Rattle.flit_structure.specs.declared.workers.Doing.TheVariants.{Idle, Busy, Evicting as Sweeps}
use Rattle.flit_structure.specs.declared.workers.Worker.{Worker}
use Rattle.flit_structure.specs.Moments.{Moment, with_workers, busy}
use Rattle.flit_structure.specs.Meanings.{Meaning, asks, asked_by}
use Rattle.flit_structure.specs.Lawful.{AreSpareIn, IsWriting, IsWritingAt}
use Rattle.flit_crew.specs.Machines.{Machine, Works, Takes, machine_asks, machine_takes, working_in, hand_in}
use Rattle.flit_crew.specs.Anatomies.{gone_on}
use Rattle.flit_crew.specs.Crews.{Crew, Holds}
use Rattle.flit_crew.specs.CrewMeanings.{Bounds, crew_meaning}
use Rattle.flit_crew.specs.Obligations.{Keeps}
use Rattle.flit_crew.proofs.CallSteps.{known}
use Rattle.flit_crew.proofs.Asking.{allowed, evict_allowed, replaces, evict_replaces}

-- ---- who asks for no Exchange

begins_none : (p : Place) (m : HeldConfirm) (slot : Option ℕ) → AsksNone (confirm_begins p m slot)
begins_none p m None = by_room (shown p.counted m.raw None && is_full m.hand.queue)
  where
    by_room : (b : Bool) → AsksNone (if b then first_persist m.hand.queue else None)
    by_room true = queue_asks_none m.hand.queue
    by_room false = no_event
begins_none p m (Some slot) = no_exchange (ReadTag slot) refl

confirm_none : (p : Place) (m : HeldConfirm) (at : Confirming) → AsksNone (confirm_asks p at m)
confirm_none p m Begins = begins_none p m (p.slot m.word)
confirm_none p m (MakesRoom first) = no_exchange (Persist first.word first.kept) refl
confirm_none p m Confirm_done = no_event

evict_none : (m : Evict) (at : Evicting) → AsksNone (evict_asks at m)
evict_none m Evict_reads = no_exchange (Load m.word) refl
evict_none m (Evict_writes_back raw) = no_exchange (Persist m.word (bare_of raw)) refl
evict_none m Evict_done = no_event

take_none : (at : Taking) → AsksNone (take_asks at)
take_none Draws = no_exchange Draw refl
take_none (Take_ended took) = no_event

-- a crew has no v-words
swap_none : (s : State) (m : HeldVExchange) (at : VExchanging) → SwapKnows (λ x. false) s at m → AsksNone (v_exchange_asks at m)
swap_none s m V_tries k word from to q = false≢true k.volatile
swap_none s m (V_ended how) k word from to q = no_event word from to q

-- ---- an Exchange to the next version

module _ {G Op : Type 0} (c : Crew G Op) (l : Layout) (p : Place) (free : List ℕ) (keeps : Keeps c l p free) (M : Moment Op) (a : List (Worker Op))
    (name number : ℕ) (op : Op) (call : Call) (begun : Option ℕ) (b : List (Worker Op))
    (holds : Holds c l p free (with_workers M (a ++ busy name number op call begun ∷ b))) (word from to : ℕ) (next : version_of to ≡ version_of from + 1) where
  abbrev IsTold : Machine → Type 0
  IsTold m = IsWriting word (bare_of to) (writing_at (working_in m)) × (word_at M.state word ≡ from →
      IsWritingAt Stage_won word (bare_of to) (writing_at (working_in (c.anatomy.machine (gone_on c.anatomy p op (machine_takes p free m from))))))

  exchange_told : (m : HeldExchange) → c.anatomy.machine op ≡ Works (Exchanges m) → IsWriter p m word from to → IsTold (Works (Exchanges m))
  exchange_told m is w = (
    (
      w.stage,
      w.told ∙ ap (λ x. Some (record { word = x; new = m.to; stage = w.stage })) w.word_is
          ∙ ap (λ x. Some (record { word = word; new = x; stage = w.stage })) w.new_is,
    ),
    λ found. ap (λ x. writing_at (working_in (c.anatomy.machine (gone_on c.anatomy p op (Works (Exchanges x)))))) w.won
        ∙ ap (λ x. writing_at (working_in x)) (keeps.put op (Works (Exchanges (exchange_at m WritesBack)))
        (from, ap (λ x. Works (Exchanges x)) (sym w.won) ∙ ap (λ x. machine_takes p free x from) (sym is)))
        ∙ ap (λ x. Some (record { word = x; new = m.to; stage = Stage_won })) w.word_is
        ∙ ap (λ x. Some (record { word = word; new = x; stage = Stage_won })) w.new_is,
  )

  machine_told : (m : Machine) → c.anatomy.machine op ≡ m → machine_asks p m ≡ Some (Exchange word from to) → IsTold m
  machine_told (Works (Idles hand)) is q = absurd (no_event word from to q)
  machine_told (Works (Loads m)) is q = absurd (load_asks_none m word from to q)
  machine_told (Works (VLoads m)) is q = absurd (v_load_asks_none m word from to q)
  machine_told (Works (Confirms m)) is q = absurd (confirm_none p m m.at word from to q)
  machine_told (Works (Exchanges m)) is q = exchange_told m is (next_is_told p (λ x. false) M.state m word from to next
      (known c l p free keeps M a name number op call begun b holds (Exchanges m) is) q)
  machine_told (Works (VExchanges m)) is q = absurd (swap_none M.state m m.at
      (known c l p free keeps M a name number op call begun b holds (VExchanges m) is) word from to q)
  machine_told (Works (Stores m)) is q = absurd (store_asks_none m word from to q)
  machine_told (Works (Fences m)) is q = absurd (queue_asks_none m.hand.queue word from to q)
  machine_told (Works (Completes m)) is q = absurd (complete_asks_none m word from to q)
  machine_told (Works (Evicts m)) is q = absurd (evict_none m m.at word from to q)
  machine_told (Takes m) is q = absurd (take_none m.at word from to q)

  pub writes : machine_asks p (c.anatomy.machine op) ≡ Some (Exchange word from to) → IsTold (c.anatomy.machine op)
  writes q = machine_told (c.anatomy.machine op) refl q

-- ---- a worker among the others

module _ {G Op : Type 0} (c : Crew G Op) (l : Layout) (p : Place) (free : List ℕ) (bounds : Bounds Op) (keeps : Keeps c l p free) where
  abbrev meaning : Meaning Op
  meaning = crew_meaning c l p free bounds

  worker_allowed : (M : Moment Op) (a : List (Worker Op)) (name number : ℕ) (d : Doing Op) (b : List (Worker Op)) (e : Event) →
      let u : Worker Op = record { name = name; number = number; doing = d } in
      asks meaning d ≡ Some e → Holds c l p free (with_workers M (a ++ u ∷ b)) → IsAllowed M.state e
  worker_allowed M a name number (Idle hand) b e q h = absurd (none-some e q)
  worker_allowed M a name number (Busy op call begun) b e q h = allowed c l p free keeps M a name number b op call begun h (c.anatomy.machine op) refl e q
  worker_allowed M a name number (Sweeps m) b e q h = evict_allowed c l p free keeps M a name number b m h e q

  -- an asked event may be made
  pub allowed_by : (M : Moment Op) (a : List (Worker Op)) (u : Worker Op) (b : List (Worker Op)) (e : Event) → asked_by meaning u ≡ Some e →
      Holds c l p free (with_workers M (a ++ u ∷ b)) → IsAllowed M.state e
  allowed_by M a u b e q h = worker_allowed M a u.name u.number u.doing b e q h

  abbrev Replaces : Moment Op → Event → ℕ → Type 0
  Replaces M e word =
      (bare_of (word_at (after M.state e) word) ≡ bare_of (word_at M.state word)) ⊎ (bare_of (word_at M.state word) ≡ shadow_at M.state word)

  worker_replaces : (M : Moment Op) (a : List (Worker Op)) (name number : ℕ) (d : Doing Op) (b : List (Worker Op)) (e : Event) (word : ℕ) →
      let u : Worker Op = record { name = name; number = number; doing = d } in
      asks meaning d ≡ Some e → Holds c l p free (with_workers M (a ++ u ∷ b)) → Replaces M e word
  worker_replaces M a name number (Idle hand) b e word q h = absurd (none-some e q)
  worker_replaces M a name number (Busy op call begun) b e word q h =
      replaces c l p free keeps M a name number b op call begun h (c.anatomy.machine op) refl e q word
  worker_replaces M a name number (Sweeps m) b e word q h = evict_replaces c l p free keeps M a name number b m h e q word

  -- one that changes what a word holds, its tag aside, finds it persistent
  pub replaces_by : (M : Moment Op) (a : List (Worker Op)) (u : Worker Op) (b : List (Worker Op)) (e : Event) (word : ℕ) → asked_by meaning u ≡ Some e →
      Holds c l p free (with_workers M (a ++ u ∷ b)) → Replaces M e word
  replaces_by M a u b e word q h = worker_replaces M a u.name u.number u.doing b e word q h

  -- a call begins with its hand's spare rows
  pub spare_first : (hand : Hand) (call : Call) → AreSpareIn (hand_in (c.anatomy.machine (c.anatomy.begun hand call))) hand
  spare_first hand call row some has = subst (λ rows. Contains rows row) (sym (keeps.begun_spare hand call)) has
