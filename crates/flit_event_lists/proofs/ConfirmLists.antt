-- A confirmation: its events, both ways. Without a slot it may make no event, and is judged by the word's own bit.
use Rattle.std.proofs.Common.{◌≡◌, ℕ, zero, suc, ◌+◌, List, [], ◌∷◌, ◌++◌, Bool, true, false, cond, ◌&&◌, Option, Some, None, refl, sym, ap, subst, arith, ◌∙◌}
use Rattle.flit_words.specs.Words.{bare_of, is_tagged}
use Rattle.flit_model.specs.declared.events.Event.TheVariants.{ReadTag}
use Rattle.flit_place.specs.Tags.{Place, shown, IsPlacement}
use Rattle.flit_pv.specs.declared.queues.Noted.{Noted}
use Rattle.flit_pv.specs.declared.hands.Hand.{Hand}
use Rattle.flit_pv.specs.Confirms.{HeldConfirm}
use Rattle.flit_pv.specs.declared.confirms.Confirming.{Confirming}
use Rattle.flit_pv.specs.declared.confirms.Confirming.TheVariants.{Begins, MakesRoom, Done}
use Rattle.flit_pv.specs.Queues.{noted, persist_of, is_full, first_persist}
use Rattle.flit_pv.specs.Hands.{with_persist, with_omitted, with_queued, with_queue}
use Rattle.flit_pv.specs.Confirms.{confirm_started, confirm_asked, confirm_taken, confirm_room, confirm_judges}
use Rattle.flit_pv.specs.Played.{AnsweredEvent, answered_event}
use Rattle.flit_event_lists.specs.EventLists.{persists_in, IsTagRead, IsQueuedWhere}
use Rattle.flit_event_lists.specs.LoadLists.{IsConfirmList}
use Rattle.flit_event_lists.specs.Plays.{ConfirmEnds, HasConfirmedOver}
use Rattle.flit_event_lists.proofs.PlayedLists.{Reaches, one_event, no_event, goes_on, same_events}
use Rattle.flit_event_lists.proofs.JudgedLists.{judged_hand, judged-same, judged-end, judged-told, judged-made}
use Rattle.flit_event_lists.proofs.LoadLists.{tag-uncounted}

-- a placement where a word has no slot doesn't count
pub uncounted : (p : Place) (slots_for : ℕ → ℕ) → IsPlacement p slots_for → (word : ℕ) → p.slot word ≡ None → p.counted ≡ false
uncounted p slots_for is word none = go (slots_for (word + 1)) refl
  where
    go : (n : ℕ) → slots_for (word + 1) ≡ n → p.counted ≡ false
    go zero e = (is.slotless (word + 1) word (omega arith) e).0
    go (suc n) e =
        let s = is.slotted (word + 1) word (omega arith) (omega (arith, e)) in
        let has : p.slot word ≡ Some s.1.0 = s.1.1 in
        absurd (cc)

module _ (p : Place) (word raw : ℕ) (after : Hand) where
  abbrev Leaves : HeldConfirm → Type 0
  Leaves m = HasConfirmedOver p m after

  abbrev done_at : Hand → HeldConfirm
  done_at h = record { hand = h; word = word; raw = raw; at = Done }

  abbrev room_at : Hand → List Noted → HeldConfirm
  room_at h queue = confirm_room (record { hand = with_queue h queue; word = word; raw = raw; at = Begins }) queue

  room-same : (h : Hand) (a : Confirming) (queue : List Noted) → confirm_room (record { hand = h; word = word; raw = raw; at = a }) queue ≡ confirm_room
      (record { hand = h; word = word; raw = raw; at = Begins }) queue
  room-same h a [] = refl
  room-same h a (n ∷ ns) = refl

  confirm-takes : (h : Hand) (n : Noted) (ns : List Noted) (a : ℕ) → confirm_taken p (room_at h (n ∷ ns)) a ≡ room_at (with_persist h) ns
  confirm-takes h n ns a = room-same (with_queue (with_persist h) ns) (MakesRoom n) ns

  abbrev Judged : Bool → Hand → List AnsweredEvent → Type 0
  Judged b h list = (queue : List Noted) × IsQueuedWhere b h.queue (noted word (bare_of raw)) list queue × Leaves (done_at (judged_hand b h list queue))

  abbrev judges_at : Bool → Hand → HeldConfirm
  judges_at b h = cond b (cond (is_full h.queue) (room_at h h.queue) (done_at (with_queued h word raw))) (done_at (with_omitted h))

  confirm-judged-told : (b : Bool) (h : Hand) (list : List AnsweredEvent) → Reaches (confirm_asked p) (confirm_taken p) (judges_at b h) list Leaves →
      Judged b h list
  confirm-judged-told b h list r =
      judged-told (confirm_asked p) (confirm_taken p) done_at room_at word raw (λ h. refl) (λ h n ns. refl) confirm-takes (λ h. refl) Leaves (λ m e. e.0) b h
      list r

  confirm-judged-made : (b : Bool) (h : Hand) (list : List AnsweredEvent) → Judged b h list →
      Reaches (confirm_asked p) (confirm_taken p) (judges_at b h) list Leaves
  confirm-judged-made b h list j =
      judged-made (confirm_asked p) (confirm_taken p) done_at room_at word raw (λ h. refl) (λ h n ns. refl) confirm-takes (λ h. refl) Leaves (λ m e. e.0) b h
      list j

  -- ---- without a slot

  module _ (none : p.slot word ≡ None) (bit : shown p.counted raw None ≡ is_tagged raw) where
    abbrev begins : Hand → HeldConfirm
    begins h = confirm_started h word raw

    first-asked : (h : Hand) (queue : List Noted) (b f : Bool) → shown p.counted raw None ≡ b → is_full queue ≡ f →
        confirm_asked p (begins (with_queue h queue)) ≡ cond (b && f) (first_persist queue) None
    first-asked h queue b f is_b is_f = rw (none, is_b, is_f) refl

    -- a full queue, and a tag: the first write-back is that of the fence
    first-taken : (h : Hand) (n : Noted) (ns : List Noted) (a : ℕ) → confirm_taken p (begins (with_queue h (n ∷ ns))) a ≡ confirm_taken p (room_at h (n ∷ ns)) a
    first-taken h n ns a = rw none (sym (room-same (with_queue (with_persist h) ns) (MakesRoom n) ns))

    full-told : (h : Hand) (queue : List Noted) (list : List AnsweredEvent) → shown p.counted raw None ≡ true → is_full queue ≡ true →
        Reaches (confirm_asked p) (confirm_taken p) (begins (with_queue h queue)) list Leaves →
        Reaches (confirm_asked p) (confirm_taken p) (room_at h queue) list Leaves
    full-told h [] list is_b is_f r = absurd (cc)
    full-told h (n ∷ ns) list is_b is_f r =
        same_events (confirm_asked p) (confirm_taken p) Leaves (λ m e. e.0) (begins (with_queue h (n ∷ ns))) (room_at h (n ∷ ns)) (persist_of n)
        (first-asked h (n ∷ ns) true true is_b is_f) refl (first-taken h n ns) list r

    full-made : (h : Hand) (queue : List Noted) (list : List AnsweredEvent) → shown p.counted raw None ≡ true → is_full queue ≡ true →
        Reaches (confirm_asked p) (confirm_taken p) (room_at h queue) list Leaves →
        Reaches (confirm_asked p) (confirm_taken p) (begins (with_queue h queue)) list Leaves
    full-made h [] list is_b is_f r = absurd (cc)
    full-made h (n ∷ ns) list is_b is_f r =
        same_events (confirm_asked p) (confirm_taken p) Leaves (λ m e. e.0) (room_at h (n ∷ ns)) (begins (with_queue h (n ∷ ns))) (persist_of n)
        refl (first-asked h (n ∷ ns) true true is_b is_f) (λ a. sym (first-taken h n ns a)) list r

    slotless-told : (h : Hand) (list : List AnsweredEvent) (b f : Bool) → shown p.counted raw None ≡ b → is_full h.queue ≡ f →
        Reaches (confirm_asked p) (confirm_taken p) (begins h) list Leaves → Judged b h list
    slotless-told h list true true is_b is_f r =
        confirm-judged-told true h list (rw is_f (full-told h h.queue list is_b is_f r))
    slotless-told h list true false is_b is_f r =
        let last = no_event (confirm_asked p) (confirm_taken p) Leaves (λ m e. e.0) (begins h) list (first-asked h h.queue true false is_b is_f) r in
        let tagged : is_tagged raw ≡ true = sym bit ∙ is_b in
        let left : with_queued h word raw ≡ after = rw tagged at last.1.1 in
        (h.queue ++ noted word (bare_of raw) ∷ [], (h.queue, rw is_f (last.0, refl), refl), rw last.0 (refl, left))
    slotless-told h list false f is_b is_f r =
        let last = no_event (confirm_asked p) (confirm_taken p) Leaves (λ m e. e.0) (begins h) list (first-asked h h.queue false f is_b is_f) r in
        let tagged : is_tagged raw ≡ false = sym bit ∙ is_b in
        let left : with_omitted h ≡ after = rw tagged at last.1.1 in
        (h.queue, (last.0, refl), rw last.0 (refl, left))

    slotless-made : (h : Hand) (list : List AnsweredEvent) (b f : Bool) → shown p.counted raw None ≡ b → is_full h.queue ≡ f →
        Judged b h list → Reaches (confirm_asked p) (confirm_taken p) (begins h) list Leaves
    slotless-made h list true true is_b is_f j =
        let r : Reaches (confirm_asked p) (confirm_taken p) (room_at h h.queue) list Leaves = rw is_f at (confirm-judged-made true h list j) in
        full-made h h.queue list is_b is_f r
    slotless-made h list true false is_b is_f j =
        let room_is : (list ≡ []) × (j.1.0 ≡ h.queue) = rw is_f at j.1.1 in
        let queue_is : j.0 ≡ h.queue ++ noted word (bare_of raw) ∷ [] = j.1.2 ∙ ap (λ xs. xs ++ noted word (bare_of raw) ∷ []) room_is.1 in
        let hand_is : judged_hand true h list j.0 ≡ with_queued h word raw = rw (room_is.0, queue_is) refl in
        let tagged : is_tagged raw ≡ true = sym bit ∙ is_b in
        rw room_is.0 (begins h, refl, (first-asked h h.queue true false is_b is_f, rw tagged (sym hand_is ∙ j.2.1)))
    slotless-made h list false f is_b is_f j =
        let hand_is : judged_hand false h list j.0 ≡ with_omitted h = rw (j.1.0, j.1.1) refl in
        let tagged : is_tagged raw ≡ false = sym bit ∙ is_b in
        rw j.1.0 (begins h, refl, (first-asked h h.queue false f is_b is_f, rw tagged (sym hand_is ∙ j.2.1)))

  -- ---- with a slot or without

  judges-same : (h : Hand) (tag : ℕ) → confirm_judges p (confirm_started h word raw) tag ≡ judges_at (shown p.counted raw (Some tag)) h
  judges-same h tag = refl

  abbrev Read : Option ℕ → Hand → List AnsweredEvent → Type 0
  Read slot h list = (tag_read : List AnsweredEvent) × (fence : List AnsweredEvent) × (tag : Option ℕ) × (list ≡ tag_read ++ fence)
      × IsTagRead slot tag_read tag × Judged (shown p.counted raw tag) h fence

  slotted-asked : (h : Hand) (slot : ℕ) → p.slot word ≡ Some slot → confirm_asked p (confirm_started h word raw) ≡ Some (ReadTag slot)
  slotted-asked h slot some = rw some refl

  slotted-taken : (h : Hand) (slot a : ℕ) → p.slot word ≡ Some slot → confirm_taken p (confirm_started h word raw) a ≡ judges_at (shown p.counted raw (Some a))
      h
  slotted-taken h slot a some = rw some refl

  read-told : (no_slot : p.slot word ≡ None → p.counted ≡ false) (slot : Option ℕ) → p.slot word ≡ slot → (h : Hand) (list : List AnsweredEvent) →
      Reaches (confirm_asked p) (confirm_taken p) (confirm_started h word raw) list Leaves → Read slot h list
  read-told no_slot None is h list r =
      ([], list, None, refl, (refl, refl), slotless-told is (rw (no_slot is) refl) h list (shown p.counted raw None) (is_full h.queue) refl refl r)
  read-told no_slot (Some slot) is h list r =
      let one = one_event (confirm_asked p) (confirm_taken p) Leaves (λ m e. e.0) (confirm_started h word raw) (ReadTag slot) list (slotted-asked h slot is) r
      in (
        answered_event (ReadTag slot) one.0 ∷ [],
        one.1,
        Some one.0,
        one.2,
        (one.0, refl, refl),
        confirm-judged-told (shown p.counted raw (Some one.0)) h one.1 (subst (λ m. Reaches (confirm_asked p) (confirm_taken p) m one.1 Leaves)
            (slotted-taken h slot one.0 is) one.3),
      )

  read-made : (no_slot : p.slot word ≡ None → p.counted ≡ false) (slot : Option ℕ) → p.slot word ≡ slot → (h : Hand) (list : List AnsweredEvent) →
      Read slot h list → Reaches (confirm_asked p) (confirm_taken p) (confirm_started h word raw) list Leaves
  read-made no_slot None is h list d =
      let same : list ≡ d.1 = d.3 ∙ ap (λ xs. xs ++ d.1) d.4.0 in
      let j : Judged (shown p.counted raw None) h d.1 = subst (λ tag. Judged (shown p.counted raw tag) h d.1) d.4.1 d.5 in
      rw same (slotless-made is (rw (no_slot is) refl) h d.1 (shown p.counted raw None) (is_full h.queue) refl refl j)
  read-made no_slot (Some slot) is h list d =
      let count = d.4.0 in
      let same : list ≡ answered_event (ReadTag slot) count ∷ d.1 = d.3 ∙ ap (λ xs. xs ++ d.1) d.4.1 in
      let j : Judged (shown p.counted raw (Some count)) h d.1 = subst (λ tag. Judged (shown p.counted raw tag) h d.1) d.4.2 d.5 in
      rw same (goes_on (confirm_asked p) (confirm_taken p) Leaves (confirm_started h word raw) (ReadTag slot) count d.1 (slotted-asked h slot is)
      (subst (λ m. Reaches (confirm_asked p) (confirm_taken p) m d.1 Leaves) (sym (slotted-taken h slot count is))
      (confirm-judged-made (shown p.counted raw (Some count)) h d.1 j)))

pub confirm-told : (p : Place) (slots_for : ℕ → ℕ) → IsPlacement p slots_for → (hand : Hand) (word raw : ℕ) (list : List AnsweredEvent) (after : Hand) →
    ConfirmEnds p hand word raw list after → IsConfirmList p hand word raw list after
confirm-told p slots_for place hand word raw list after r =
    let d = read-told p word raw after (uncounted p slots_for place word) (p.slot word) refl hand list r in
    let same_count : persists_in d.1 ≡ persists_in list = sym (ap persists_in d.3 ∙ tag-uncounted (p.slot word) d.0 d.2 d.1 d.4) in
    record {
      tag_read = d.0;
      fence = d.1;
      tag = d.2;
      queue = d.5.0;
      parts = d.3;
      reads = d.4;
      queues = d.5.1;
      ends = judged-end (shown p.counted raw d.2) hand d.1 list d.5.0 after d.5.2.1 same_count;
    }

pub confirm-made : (p : Place) (slots_for : ℕ → ℕ) → IsPlacement p slots_for → (hand : Hand) (word raw : ℕ) (list : List AnsweredEvent) (after : Hand) →
    IsConfirmList p hand word raw list after → ConfirmEnds p hand word raw list after
confirm-made p slots_for place hand word raw list after is =
    let same_count : persists_in is.fence ≡ persists_in list = sym (ap persists_in is.parts ∙ tag-uncounted (p.slot word) is.tag_read is.tag is.fence is.reads)
    in
    let hand_is : judged_hand (shown p.counted raw is.tag) hand is.fence is.queue ≡ after =
    judged-same (shown p.counted raw is.tag) hand is.fence list is.queue same_count ∙ sym is.ends in
    read-made p word raw after (uncounted p slots_for place word) (p.slot word) refl hand list
    (is.tag_read, is.fence, is.tag, is.parts, is.reads, (is.queue, is.queues, (refl, hand_is)))
