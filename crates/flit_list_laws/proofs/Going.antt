-- What a call knows as its own machine goes on, by an event that leaves the heap.
use Rattle.std.proofs.Common.{◌≡◌, ℕ, ◌==◌, ◌&&◌, ◌≤◌, ◌<◌, Bool, true, false, List, [], ◌∷◌, length, Option, Some, None, ◌⊎◌, inl, inr, refl, sym, ◌∙◌, ap, subst, if◌then◌else◌}
use Rattle.flit_words.specs.declared.layouts.Layout.{Layout}
use Rattle.flit_words.specs.Words.{version_of, bare_of, is_tagged}
use Rattle.flit_model.specs.Maps.{key_of}
use Rattle.flit_model.specs.Lists.{key_in}
use Rattle.flit_model.specs.declared.calls.Reply.{Reply}
use Rattle.flit_place.specs.Tags.{Place, shown}
use Rattle.flit_pv.specs.declared.queues.Noted.{Noted}
use Rattle.flit_pv.specs.Queues.{is_full}
use Rattle.flit_pv.specs.Hands.{with_persist, fenced_one}
use Rattle.flit_pv.specs.declared.v_loads.VLoading.{VLoading}
use Rattle.flit_pv.specs.declared.v_loads.VLoading.TheVariants.{Reads as V_reads, Has as V_has}
use Rattle.flit_pv.specs.VLoads.{HeldVLoad, v_load_takes, v_load_taken}
use Rattle.flit_pv.specs.declared.confirms.Confirming.{Confirming as Confirming_phase}
use Rattle.flit_pv.specs.declared.confirms.Confirming.TheVariants.{Begins, MakesRoom, Done}
use Rattle.flit_pv.specs.Confirms.{HeldConfirm, confirm_taken, confirm_takes, confirm_begun, confirm_notes, confirm_room, confirm_queues, confirm_omits}
use Rattle.flit_pv.specs.Exchanges.{HeldExchange, exchange_taken, exchange_takes, ready_takes, tries_again, exchange_loses, exchange_at}
use Rattle.flit_pv.specs.declared.exchanges.Exchanging.{Exchanging}
use Rattle.flit_pv.specs.declared.exchanges.Exchanging.TheVariants.{Ready, Tries, TriesBare, WritesBack, Withdraws, Lowers, Ended}
use Rattle.flit_pv.specs.declared.exchanges.Exchanged.TheVariants.{Won, Lost, Worn}
use Rattle.flit_pv.specs.Stores.{store_taken}
use Rattle.flit_pv.proofs.OneEvent.{store_goes_further, exchange_goes_on}
use Rattle.flit_rows.specs.Shares.{rows_in}
use Rattle.flit_rows.specs.Taking.{HeldTake}
use Rattle.flit_runs.specs.Workings.{Exchanges}
use Rattle.flit_runs.specs.Worlds.{HasSeen}
use Rattle.flit_runs.specs.Soundness.{Needs}
use Rattle.flit_crew.specs.Machines.{Machine, Works, Takes, Part, ToRead, HasRead, ToWin, HasWon, HasWritten, HasLost, Other, part_of, v_load_part, exchange_part, machine_takes, working_in}
use Rattle.flit_crew.specs.Heaps.{at_word}
use Rattle.flit_crew.specs.Crews.{Who, IsFurther}
use Rattle.flit_crew.specs.Obligations.{HasRead_so}
use Rattle.flit_list_steps.specs.declared.operations.Path.{Path}
use Rattle.flit_list_steps.specs.declared.operations.Which.{Which}
use Rattle.flit_list_steps.specs.declared.operations.Which.TheVariants.{Back as The_back, Pred as The_pred, Next as The_next}
use Rattle.flit_list_steps.specs.Operations.{At, Head, Next, Key, Confirming, Help, Row, Words, RowValue, Link, Mark, Tidy, Value, Ends, Rests}
use Rattle.flit_list_heap.specs.Links.{place_of, link_held, row_of, is_marked}
use Rattle.flit_list_heap.specs.Keeping.{ListHeap, IsLinked, Kept}
use Rattle.flit_list_heap.specs.Seeing.{Saw, Gone}
use Rattle.flit_list_laws.specs.Walks.{Loaded, Walk}
use Rattle.flit_list_laws.specs.Knowing.{row_after, IsAlone, AimsAt, HelpAt, Helps_to, Helped, LinkAt, MarkAt, Marked, TidyAt}
use Rattle.flit_list_laws.specs.ListAnatomy.{machine_at, with_machine_at, with_exchange, with_take}
use Rattle.flit_list_laws.specs.ListCrew.{ConfirmsOne, IsOfBack, KnowsAt}
use Rattle.flit_list_laws.proofs.Reading as reading
use Rattle.flit_list_laws.proofs.Others.{more_at}

-- ---- a load

v_same : (m : HeldVLoad) (told : ℕ) → v_load_part (v_load_taken m told).at (v_load_taken m told).word ≡ v_load_part m.at m.word → v_load_taken m told ≡ m
v_same m told same = by_at m.at refl same
  where
    by_at : (at : VLoading) → m.at ≡ at → v_load_part (v_load_takes at m told).at (v_load_takes at m told).word ≡ v_load_part at m.word →
        v_load_takes at m told ≡ m
    by_at V_reads e q = absurd (cc)
    by_at (V_has raw) e q = refl

v_read : (m : HeldVLoad) (told word raw : ℕ) → v_load_part m.at m.word ≡ ToRead word →
    v_load_part (v_load_taken m told).at (v_load_taken m told).word ≡ HasRead word raw → (m.word ≡ word) × (v_load_taken m told ≡ record m { at = V_has raw })
v_read m told word raw was now = by_at m.at was now
  where
    same_word : ToRead m.word ≡ ToRead word → m.word ≡ word
    same_word e = cc

    same_raw : HasRead m.word told ≡ HasRead word raw → told ≡ raw
    same_raw e = cc

    by_at : (at : VLoading) → v_load_part at m.word ≡ ToRead word → v_load_part (v_load_takes at m told).at (v_load_takes at m told).word ≡ HasRead word raw →
        (m.word ≡ word) × (v_load_takes at m told ≡ record m { at = V_has raw })
    by_at V_reads e q = (same_word e, ap (λ r. record m { at = V_has r }) (same_raw q))
    by_at (V_has x) e q = absurd (cc)

-- ---- a confirmation keeps its word, with what it confirms of it

module _ (p : Place) where
  abbrev Aims : ℕ → ℕ → HeldConfirm → Type 0
  Aims word raw m = (m.word ≡ word) × (m.raw ≡ raw)

  room : (m : HeldConfirm) (ns : List Noted) → Aims m.word m.raw (confirm_room m ns)
  room m [] = (refl, refl)
  room m (n ∷ ns) = (refl, refl)

  noted : (m : HeldConfirm) (b : Bool) → Aims m.word m.raw (if b then confirm_room m m.hand.queue else confirm_queues m)
  noted m true = room m m.hand.queue
  noted m false = (refl, refl)

  judged : (m : HeldConfirm) (b : Bool) → Aims m.word m.raw (if b then confirm_notes m else confirm_omits m)
  judged m true = noted m (is_full m.hand.queue)
  judged m false = (refl, refl)

  begun : (m : HeldConfirm) (told : ℕ) (slot : Option ℕ) → Aims m.word m.raw (confirm_begun p m told slot)
  begun m told None = room (record m { hand = fenced_one m.hand m.hand.queue }) (fenced_one m.hand m.hand.queue).queue
  begun m told (Some slot) = judged m (shown p.counted m.raw (Some told))

  confirm_aims : (m : HeldConfirm) (told : ℕ) → Aims m.word m.raw (confirm_taken p m told)
  confirm_aims m told = by_at m.at
    where
      by_at : (at : Confirming_phase) → Aims m.word m.raw (confirm_takes p at m told)
      by_at Begins = begun m told (p.slot m.word)
      by_at (MakesRoom first) = room (record m { hand = with_persist m.hand }) m.hand.queue
      by_at Done = (refl, refl)

-- ---- an exchange keeps its word and what it exchanges, and its rows

record SameOf (m n : HeldExchange) : Type 0 where
  word : n.word ≡ m.word
  from : n.from ≡ m.from
  to : n.to ≡ m.to

pub record StaysSo (m n : HeldExchange) : Type 0 where
  pub word : n.word ≡ m.word
  pub from : n.from ≡ m.from
  pub to : n.to ≡ m.to
  pub spare : n.hand.spare ≡ m.hand.spare

same_of : (p : Place) (m : HeldExchange) (told : ℕ) → SameOf m (exchange_taken p m told)
same_of p m told = by_at m.at
  where
    moved : (at : Exchanging) → SameOf m (exchange_at m at)
    moved at = record { word = refl; from = refl; to = refl }

    lost : SameOf m (exchange_loses m told)
    lost = record { word = refl; from = refl; to = refl }

    again : (b : Bool) → SameOf m (if b then exchange_at m TriesBare else exchange_loses m told)
    again true = moved TriesBare
    again false = lost

    wins_or : (b : Bool) (n : HeldExchange) → SameOf m n → SameOf m (if b then exchange_at m WritesBack else n)
    wins_or true n k = moved WritesBack
    wins_or false n k = k

    ready : (queue : List Noted) (slot : Option ℕ) → SameOf m (ready_takes m told queue slot)
    ready (n ∷ ns) slot = record { word = refl; from = refl; to = refl }
    ready [] (Some slot) = moved (Tries slot)
    ready [] None = wins_or (told == m.from) (tries_again m told) (again (is_tagged m.from && (told == bare_of m.from)))

    by_at : (at : Exchanging) → SameOf m (exchange_takes p at m told)
    by_at Ready = ready m.hand.queue (p.slot m.word)
    by_at (Tries slot) = moved (if told == m.from then WritesBack else Lowers slot told)
    by_at TriesBare = wins_or (told == bare_of m.from) (exchange_loses m told) lost
    by_at WritesBack = record { word = refl; from = refl; to = refl }
    by_at Withdraws = moved (Ended Won)
    by_at (Lowers slot found) = record { word = refl; from = refl; to = refl }
    by_at (Ended how) = record { word = refl; from = refl; to = refl }

pub exchange_stays : (p : Place) (m : HeldExchange) (told : ℕ) → StaysSo m (exchange_taken p m told)
exchange_stays p m told =
    let s = same_of p m told in record { word = s.word; from = s.from; to = s.to; spare = (exchange_goes_on p m told).spare }

never_reads : (at : Exchanging) (word : ℕ) → exchange_part at ≡ ToRead word → ⊥
never_reads Ready word e = absurd (cc)
never_reads (Tries slot) word e = absurd (cc)
never_reads TriesBare word e = absurd (cc)
never_reads WritesBack word e = absurd (cc)
never_reads Withdraws word e = absurd (cc)
never_reads (Lowers slot found) word e = absurd (cc)
never_reads (Ended Won) word e = absurd (cc)
never_reads (Ended (Lost found)) word e = absurd (cc)
never_reads (Ended (Worn x version)) word e = absurd (cc)

module _ (l : Layout) (h : ListHeap) (me : Who) (w : Walk) (n : Loaded) (m k : HeldExchange) (s : StaysSo m k) where
  aims_on : (y : Rattle.flit_list_heap.specs.Links.LinkWord) (from : ℕ) → AimsAt l h me y from m → AimsAt l h me y from k
  aims_on y from a = record { word = s.word ∙ a.word; from_is = s.from ∙ a.from_is }

  helped_on : Helped l h me w m → Helped l h me w k
  helped_on f = record {
    word = s.word ∙ f.word;
    behind = f.behind;
    back = f.back;
    back_sure = f.back_sure;
    saw = subst (λ t. Saw l h (key_of me.call) w.link.word t) (sym s.to) f.saw;
    needs = subst (λ t. Needs me.needs (place_of l w.link.word) (version_of t)) (sym s.to) f.needs;
    bare = ap is_tagged s.to ∙ f.bare;
    unmarked = ap is_marked s.to ∙ f.unmarked;
    gone = subst (λ t. Gone l h me.first (key_of me.call) w.link.word t) (sym s.to) f.gone;
    linked = f.linked;
    further = subst (λ t. (row_of t ≡ 0) ⊎ (IsLinked l h (row_of t) × (key_in l h.words (row_after w) < key_in l h.words (row_of t)))) (sym s.to) f.further;
  }

  pub help_on : (part : Part) → HelpAt l h me w n m part → HelpAt l h me w n k part
  help_on (ToRead word) f = tt
  help_on (HasRead word raw) f = tt
  help_on ToWin f = record {
    sure = f.sure;
    next = f.next;
    next_sure = f.next_sure;
    aim = aims_on w.link.word w.link.raw f.aim;
    to = ap link_held s.to ∙ f.to;
  }
  help_on HasWon f = helped_on f
  help_on HasWritten f = helped_on f
  help_on (HasLost found) f = f
  help_on Other f = tt

  link_on : (part : Part) → LinkAt l h me w m part → LinkAt l h me w k part
  link_on (ToRead word) f = tt
  link_on (HasRead word raw) f = tt
  link_on ToWin f = record {
    sure = f.sure;
    passed = f.passed;
    insert = f.insert;
    row = f.row;
    own = ap rows_in s.spare ∙ f.own;
    key = f.key;
    next = f.next;
    value = f.value;
    aim = aims_on w.link.word w.link.raw f.aim;
    to = ap link_held s.to ∙ f.to;
  }
  link_on HasWon f = tt
  link_on HasWritten f = tt
  link_on (HasLost found) f = tt
  link_on Other f = tt

  pub marked_on : Marked l h me w n m → Marked l h me w n k
  marked_on f = record {
    sure = f.sure;
    word = s.word ∙ f.word;
    some = f.some;
    linked = f.linked;
    is = s.to ∙ f.is;
    marked = ap is_marked s.to ∙ f.marked;
    same = ap row_of s.to ∙ f.same;
  }

  mark_on : (part : Part) → MarkAt l h me w n m part → MarkAt l h me w n k part
  mark_on (ToRead word) f = tt
  mark_on (HasRead word raw) f = tt
  mark_on ToWin f = record {
    sure = f.sure;
    next = f.next;
    next_sure = f.next_sure;
    key = f.key;
    mine = f.mine;
    named = f.named;
    aim = aims_on (Rattle.flit_list_heap.specs.Links.Next (row_after w)) n.raw f.aim;
    to = ap link_held s.to ∙ f.to;
  }
  mark_on HasWon f = marked_on f
  mark_on HasWritten f = (marked_on f.0, f.1 ∙ sym s.to)
  mark_on (HasLost found) f = tt
  mark_on Other f = tt

  tidy_on : (part : Part) → TidyAt l h me w n m part → TidyAt l h me w n k part
  tidy_on (ToRead word) f = tt
  tidy_on (HasRead word raw) f = tt
  tidy_on ToWin f = record {
    sure = f.sure;
    some = f.some;
    linked = f.linked;
    is = f.is;
    marked = f.marked;
    leads = f.leads;
    aim = aims_on w.link.word w.link.raw f.aim;
    to = ap link_held s.to ∙ f.to;
  }
  tidy_on HasWon f = tt
  tidy_on HasWritten f = tt
  tidy_on (HasLost found) f = tt
  tidy_on Other f = tt

-- ---- what it knows doesn't hang on the rest of its machine

module _ (l : Layout) (p : Place) (free : List ℕ) (h : ListHeap) (me : Who) (reply : Reply) (path : Path) (w : Walk) (n : Loaded) where
  of_back : (m k : HeldConfirm) → (k.word ≡ m.word) × (k.raw ≡ m.raw) → (o : Option Loaded) → IsOfBack l m o → IsOfBack l k o
  of_back m k a None f = f
  of_back m k a (Some q) f = record { word = a.0 ∙ f.word; raw = a.1 ∙ f.raw }

  one_on : (m k : HeldConfirm) → (k.word ≡ m.word) × (k.raw ≡ m.raw) → (which : Which) → ConfirmsOne l h me w n m which → ConfirmsOne l h me w n k which
  one_on m k a The_back f = of_back m k a w.back f
  one_on m k a The_pred f = (f.0, record { word = a.0 ∙ f.1.word; raw = a.1 ∙ f.1.raw })
  one_on m k a The_next f = (f.0, f.1, record { word = a.0 ∙ f.2.word; raw = a.1 ∙ f.2.raw })

  pub steady_at : (at : At) (told : ℕ) → part_of (machine_takes p free (machine_at at) told) ≡ part_of (machine_at at) →
      KnowsAt l h me reply path w n at → KnowsAt l h me reply path w n (with_machine_at at (machine_takes p free (machine_at at) told))
  steady_at (Head m) told same f = subst (λ x. KnowsAt l h me reply path w n (Head x)) (sym (v_same m told same)) f
  steady_at (Next m) told same f = subst (λ x. KnowsAt l h me reply path w n (Next x)) (sym (v_same m told same)) f
  steady_at (Key m) told same f = subst (λ x. KnowsAt l h me reply path w n (Key x)) (sym (v_same m told same)) f
  steady_at (Confirming goal which m) told same f = record {
    alone = f.alone;
    follows = f.follows;
    stands = f.stands;
    goal_known = f.goal_known;
    one = one_on m (confirm_taken p m told) (confirm_aims p m told) which f.one;
  }
  steady_at (Help m) told same f =
      let k : HeldExchange = exchange_taken p m told in
      (f.0, f.1, subst (HelpAt l h me w n k) (sym same) (help_on l h me w n m k (exchange_stays p m told) (exchange_part m.at) f.2))
  steady_at (Row m) told same f = f
  steady_at (Words m) told same f = (
    f.0,
    record {
      sure = f.1.sure;
      passed = f.1.passed;
      insert = f.1.insert;
      row = f.1.row;
      own = ap rows_in (store_goes_further m told).spare ∙ f.1.own;
      private = f.1.private;
    },
  )
  steady_at (RowValue m) told same f = (
    f.0,
    record {
      sure = f.1.sure;
      passed = f.1.passed;
      insert = f.1.insert;
      valued = f.1.valued;
      row = f.1.row;
      own = ap rows_in (store_goes_further m told).spare ∙ f.1.own;
      key = f.1.key;
      next = f.1.next;
      private = f.1.private;
    },
  )
  steady_at (Link m) told same f =
      let k : HeldExchange = exchange_taken p m told in (
        f.0,
        subst (Rattle.flit_list_laws.specs.ListCrew.IsAloneIf l h me) (sym same) f.1,
        subst (LinkAt l h me w k) (sym same) (link_on l h me w n m k (exchange_stays p m told) (exchange_part m.at) f.2),
      )
  steady_at (Mark m) told same f =
      let k : HeldExchange = exchange_taken p m told in
      (f.0, f.1, f.2, subst (MarkAt l h me w n k) (sym same) (mark_on l h me w n m k (exchange_stays p m told) (exchange_part m.at) f.3))
  steady_at (Tidy m) told same f =
      let k : HeldExchange = exchange_taken p m told in
      (f.0, subst (TidyAt l h me w n k) (sym same) (tidy_on l h me w n m k (exchange_stays p m told) (exchange_part m.at) f.1))
  steady_at (Value m) told same f = subst (λ x. KnowsAt l h me reply path w n (Value x)) (sym (v_same m told same)) f
  steady_at (Ends m) told same f = f
  steady_at (Rests hand) told same f = absurd f

  same_exchange : (x y : HeldExchange) → Works (Exchanges x) ≡ Works (Exchanges y) → x ≡ y
  same_exchange x y e = cc

  -- its exchange is lost, and nothing is private
  pub loses_at : (m k : HeldExchange) (found : ℕ) → exchange_part m.at ≡ ToWin → exchange_part k.at ≡ HasLost found → IsAlone l me → (at : At) →
      machine_at at ≡ Works (Exchanges m) →
      KnowsAt l h me reply path w n at → KnowsAt l h me reply path w n (with_exchange at k)
  loses_at m k found part lost alone (Head x) e f = absurd (cc)
  loses_at m k found part lost alone (Next x) e f = absurd (cc)
  loses_at m k found part lost alone (Key x) e f = absurd (cc)
  loses_at m k found part lost alone (Confirming goal which x) e f = absurd (cc)
  loses_at m k found part lost alone (Help x) e f =
      let stood : Helps_to l h me w n x = subst (HelpAt l h me w n x) (ap (λ y. exchange_part y.at) (same_exchange x m e) ∙ part) f.2 in
      (f.0, f.1, subst (HelpAt l h me w n k) (sym lost) (elim stood.sure.stands.spot.saw.form.leads [ inl z ↦ inl z | inr y ↦ inr y.linked ]))
  loses_at m k found part lost alone (Row x) e f = absurd (cc)
  loses_at m k found part lost alone (Words x) e f = absurd (cc)
  loses_at m k found part lost alone (RowValue x) e f = absurd (cc)
  loses_at m k found part lost alone (Link x) e f =
      (f.0, subst (Rattle.flit_list_laws.specs.ListCrew.IsAloneIf l h me) (sym lost) alone, subst (LinkAt l h me w k) (sym lost) tt)
  loses_at m k found part lost alone (Mark x) e f = (f.0, f.1, f.2, subst (MarkAt l h me w n k) (sym lost) tt)
  loses_at m k found part lost alone (Tidy x) e f = (f.0, subst (TidyAt l h me w n k) (sym lost) tt)
  loses_at m k found part lost alone (Value x) e f = absurd (cc)
  loses_at m k found part lost alone (Ends x) e f = absurd (cc)
  loses_at m k found part lost alone (Rests hand) e f = absurd (cc)

  -- it draws a row
  pub draws_at : (m k : HeldTake) (at : At) → machine_at at ≡ Takes m → KnowsAt l h me reply path w n at → KnowsAt l h me reply path w n (with_take at k)
  draws_at m k (Head x) e f = absurd (cc)
  draws_at m k (Next x) e f = absurd (cc)
  draws_at m k (Key x) e f = absurd (cc)
  draws_at m k (Confirming goal which x) e f = absurd (cc)
  draws_at m k (Help x) e f = absurd (cc)
  draws_at m k (Row x) e f = f
  draws_at m k (Words x) e f = absurd (cc)
  draws_at m k (RowValue x) e f = absurd (cc)
  draws_at m k (Link x) e f = absurd (cc)
  draws_at m k (Mark x) e f = absurd (cc)
  draws_at m k (Tidy x) e f = absurd (cc)
  draws_at m k (Value x) e f = absurd (cc)
  draws_at m k (Ends x) e f = absurd (cc)
  draws_at m k (Rests hand) e f = absurd (cc)

-- ---- its machine has loaded a word

module _ (l : Layout) (p : Place) (free : List ℕ) (h : ListHeap) (kept : Kept l free h) (me you : Who) (early : me.first ≤ length h.progress.settled)
    (further : IsFurther me you) (reply : Reply) (path : Path) (w : Walk) (n : Loaded) (word raw : ℕ) (same : bare_of raw ≡ at_word h word) where
  so_loaded : (m : HeldVLoad) → m.word ≡ word → HasSeen you.seen word raw → Rattle.flit_list_laws.specs.Loads.HasLoaded h you m raw
  so_loaded m e s = (same ∙ ap (at_word h) (sym e), subst (λ v. HasSeen you.seen v raw) (sym e) s)

  pub reads_at : (at : At) (told : ℕ) → part_of (machine_at at) ≡ ToRead word → part_of (machine_takes p free (machine_at at) told) ≡ HasRead word raw →
      HasRead_so (working_in (machine_takes p free (machine_at at) told)) you word raw →
      KnowsAt l h me reply path w n at → KnowsAt l h you reply path w n (with_machine_at at (machine_takes p free (machine_at at) told))
  reads_at (Head m) told was now so f =
      let r = v_read m told word raw was now in
      subst (λ x. KnowsAt l h you reply path w n (Head x)) (sym r.1) (reading.read_head l free h me you m raw kept early further (so_loaded m r.0 so) f)
  reads_at (Next m) told was now so f =
      let r = v_read m told word raw was now in
      subst (λ x. KnowsAt l h you reply path w n (Next x)) (sym r.1)
      (f.0, reading.read_next l free h me you w m raw kept early further (so_loaded m r.0 so) f.1)
  reads_at (Key m) told was now so f =
      let r = v_read m told word raw was now in
      subst (λ x. KnowsAt l h you reply path w n (Key x)) (sym r.1)
      (f.0, reading.read_key l free h me you w n m raw kept further (so_loaded m r.0 so) f.1)
  reads_at (Confirming goal which m) told was now so f = absurd (cc)
  reads_at (Help m) told was now so f = absurd (never_reads m.at word was)
  reads_at (Row m) told was now so f = absurd (cc)
  reads_at (Words m) told was now so f = absurd (cc)
  reads_at (RowValue m) told was now so f = absurd (cc)
  reads_at (Link m) told was now so f = absurd (never_reads m.at word was)
  reads_at (Mark m) told was now so f = absurd (never_reads m.at word was)
  reads_at (Tidy m) told was now so f = absurd (never_reads m.at word was)
  reads_at (Value m) told was now so f =
      let r = v_read m told word raw was now in
      subst (λ x. KnowsAt l h you reply path w n (Value x)) (sym r.1) (
        subst (λ c. c ≡ Rattle.flit_model.specs.declared.calls.Call.TheVariants.Get (key_of c)) (sym further.call) f.0,
        reading.read_value l free h me you w m raw kept further (so_loaded m r.0 so) f.1,
      )
  reads_at (Ends m) told was now so f = absurd (cc)
  reads_at (Rests hand) told was now so f = absurd f
