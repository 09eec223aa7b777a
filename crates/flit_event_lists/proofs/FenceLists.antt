-- A fence, the completion of a call and an eviction: the events of each, both ways.
use Rattle.std.proofs.Common.{◌≡◌, ℕ, List, [], ◌∷◌, ◌++◌, length, refl, sym, ap, subst, ◌∙◌}
use Rattle.std.proofs.lemmas.List.{append-nil}
use Rattle.flit_words.specs.Words.{bare_of}
use Rattle.flit_model.specs.declared.events.Event.TheVariants.{Load, Persist}
use Rattle.flit_pv.specs.declared.queues.Noted.{Noted}
use Rattle.flit_pv.specs.declared.hands.Hand.{Hand}
use Rattle.flit_pv.specs.Fences.{HeldFence}
use Rattle.flit_pv.specs.Fences.{HeldComplete}
use Rattle.flit_pv.specs.declared.evicts.Evict.{Evict}
use Rattle.flit_pv.specs.declared.evicts.Evicting.TheVariants.{WritesBack, Done}
use Rattle.flit_pv.specs.Hands.{with_persist, with_queue}
use Rattle.flit_pv.specs.Fences.{fence_asked, fence_taken, complete_asked, complete_taken}
use Rattle.flit_pv.specs.Evicts.{evict_asked, evict_taken, evict_started}
use Rattle.flit_pv.specs.Played.{AnsweredEvent, answered_event}
use Rattle.flit_event_lists.specs.EventLists.{persists_in, counted, IsFenceList, IsEvictList}
use Rattle.flit_event_lists.specs.Plays.{HasFenced, HasCompleted, HasEvicted, FenceEnds, CompleteEnds, EvictEnds}
use Rattle.flit_event_lists.proofs.PlayedLists.{one_event, no_event, fence_inside, fence_played, persists-fence, persisted}

-- ---- Fence

abbrev at_queue : Hand → List Noted → HeldFence
at_queue h queue = record { hand = with_queue h queue }

abbrev FenceLeaves : Hand → HeldFence → Type 0
FenceLeaves after m = HasFenced m after

-- the hand after so many write-backs
fence-hand : (hand : Hand) (list : List AnsweredEvent) (k : ℕ) → persists_in list ≡ k →
    with_queue (persisted hand k) [] ≡ record hand { queue = []; tally = counted hand.tally list }
fence-hand hand list k same = rw same refl

pub fence-told : (hand : Hand) (list : List AnsweredEvent) (after : Hand) → FenceEnds hand list after → IsFenceList hand list after
fence-told hand list after r =
    let f = fence_inside fence_asked fence_taken at_queue (λ h n ns. refl) (λ h n ns a. refl) (FenceLeaves after) (λ m e. e.0) hand.queue hand list r in
    let last = no_event fence_asked fence_taken (FenceLeaves after) (λ m e. e.0) (at_queue (persisted hand (length hand.queue)) []) f.1 refl f.4 in
    let same : list ≡ f.0 = f.2 ∙ (ap (λ xs. f.0 ++ xs) last.0 ∙ append-nil f.0) in
    record {
      fence = rw same f.3;
      ends = sym (sym (fence-hand hand list (length hand.queue) (rw same (persists-fence hand.queue f.0 f.3))) ∙ last.1.1);
    }

pub fence-made : (hand : Hand) (list : List AnsweredEvent) (after : Hand) → IsFenceList hand list after → FenceEnds hand list after
fence-made hand list after is =
    let end : FenceLeaves after (at_queue (persisted hand (length hand.queue)) []) =
    (refl, fence-hand hand list (length hand.queue) (persists-fence hand.queue list is.fence) ∙ sym is.ends) in
    subst (λ xs. FenceEnds hand xs after) (append-nil list)
    (fence_played fence_asked fence_taken at_queue (λ h n ns. refl) (λ h n ns a. refl) (FenceLeaves after) hand.queue hand list [] is.fence
    (at_queue (persisted hand (length hand.queue)) [], refl, end))

-- ---- Complete

abbrev complete_at : Hand → List Noted → HeldComplete
complete_at h queue = record { fence = at_queue h queue }

abbrev CompleteLeaves : Hand → HeldComplete → Type 0
CompleteLeaves after m = HasCompleted m after

pub complete-told : (hand : Hand) (list : List AnsweredEvent) (after : Hand) → CompleteEnds hand list after → IsFenceList hand list after
complete-told hand list after r =
    let f = fence_inside complete_asked complete_taken complete_at (λ h n ns. refl) (λ h n ns a. refl) (CompleteLeaves after) (λ m e. e.0) hand.queue hand list
    r in
    let last = no_event complete_asked complete_taken (CompleteLeaves after) (λ m e. e.0) (complete_at (persisted hand (length hand.queue)) []) f.1 refl f.4 in
    let same : list ≡ f.0 = f.2 ∙ (ap (λ xs. f.0 ++ xs) last.0 ∙ append-nil f.0) in
    record {
      fence = rw same f.3;
      ends = sym (sym (fence-hand hand list (length hand.queue) (rw same (persists-fence hand.queue f.0 f.3))) ∙ last.1.1);
    }

pub complete-made : (hand : Hand) (list : List AnsweredEvent) (after : Hand) → IsFenceList hand list after → CompleteEnds hand list after
complete-made hand list after is =
    let end : CompleteLeaves after (complete_at (persisted hand (length hand.queue)) []) =
    (refl, fence-hand hand list (length hand.queue) (persists-fence hand.queue list is.fence) ∙ sym is.ends) in
    subst (λ xs. CompleteEnds hand xs after) (append-nil list)
    (fence_played complete_asked complete_taken complete_at (λ h n ns. refl) (λ h n ns a. refl) (CompleteLeaves after) hand.queue hand list [] is.fence
    (complete_at (persisted hand (length hand.queue)) [], refl, end))

-- ---- Evict

abbrev EvictLeaves : Hand → Evict → Type 0
EvictLeaves after m = HasEvicted m after

evict-hand : (hand : Hand) (word raw a : ℕ) → with_persist hand ≡ record hand
    { tally = counted hand.tally (answered_event (Load word) raw ∷ answered_event (Persist word (bare_of raw)) a ∷ []) }
evict-hand hand word raw a = refl

pub evict-told : (hand : Hand) (word : ℕ) (list : List AnsweredEvent) (after : Hand) → EvictEnds hand word list after → IsEvictList hand word list after
evict-told hand word list after r =
    let one = one_event evict_asked evict_taken (EvictLeaves after) (λ m e. e.0) (evict_started hand word) (Load word) list refl r in
    let two = one_event evict_asked evict_taken (EvictLeaves after) (λ m e. e.0) (record { hand = hand; word = word; at = WritesBack one.0 })
    (Persist word (bare_of one.0)) one.1 refl one.3 in
    let last = no_event evict_asked evict_taken (EvictLeaves after) (λ m e. e.0) (record { hand = with_persist hand; word = word; at = Done }) two.1 refl two.3
    in
    let all : list ≡ answered_event (Load word) one.0 ∷ answered_event (Persist word (bare_of one.0)) two.0 ∷ [] = cc in
    record {
      raw = one.0;
      persist = one.1;
      parts = one.2;
      persists = (two.0, cc);
      ends = rw all (sym last.1.1 ∙ evict-hand hand word one.0 two.0);
    }

pub evict-made : (hand : Hand) (word : ℕ) (list : List AnsweredEvent) (after : Hand) → IsEvictList hand word list after → EvictEnds hand word list after
evict-made hand word list after is =
    let all : list ≡ answered_event (Load word) is.raw ∷ answered_event (Persist word (bare_of is.raw)) is.persists.0 ∷ [] = is.parts
    ∙ ap (λ xs. answered_event (Load word) is.raw ∷ xs) is.persists.1 in
    let hand_is : with_persist hand ≡ after = sym (is.ends ∙ rw all (sym (evict-hand hand word is.raw is.persists.0))) in
    rw all ((record { hand = with_persist hand; word = word; at = Done }), (refl, (refl, refl)), (refl, hand_is))
