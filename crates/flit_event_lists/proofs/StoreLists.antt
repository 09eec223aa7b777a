-- A private store: its events, both ways.
use Rattle.std.proofs.Common.{append_assoc, ◌≡◌, ℕ, suc, ◌+◌, nat_le, List, [], ◌∷◌, ◌++◌, length, Bool, true, false, cond, Some, None, refl, sym, ap, subst, arith, ◌∙◌}
use Rattle.std.proofs.lemmas.List.{append-nil}
use Rattle.flit_words.specs.Words.{version_of}
use Rattle.flit_model.specs.declared.events.Event.TheVariants.{Load, Store}
use Rattle.flit_pv.specs.declared.queues.Noted.{Noted}
use Rattle.flit_pv.specs.declared.hands.Hand.{Hand}
use Rattle.flit_pv.specs.Stores.{HeldStore}
use Rattle.flit_pv.specs.declared.stores.Storing.{Storing}
use Rattle.flit_pv.specs.declared.stores.Storing.TheVariants.{Reads, MakesRoom, Writes, Ended}
use Rattle.flit_pv.specs.declared.stores.Stored.{Stored}
use Rattle.flit_pv.specs.declared.stores.Stored.TheVariants.{Stored as All_stored, Worn}
use Rattle.flit_pv.specs.Queues.{noted, persist_of, is_full, first_persist}
use Rattle.flit_pv.specs.Hands.{with_persist, with_pair, with_queue}
use Rattle.flit_pv.specs.Drafts.{next_bare}
use Rattle.flit_pv.specs.Stores.{store_asked, store_taken, store_room, store_next, store_decides, store_goes_on, worn_at, HasStored}
use Rattle.flit_pv.specs.Played.{AnsweredEvent, answered_event}
use Rattle.flit_event_lists.specs.EventLists.{raised, persists_in, counted, IsFence}
use Rattle.flit_event_lists.specs.StoreLists.{loads_of, first_worn, new_words, IsStoredFirst, IsStores, IsStoresUnless, IsStoreList}
use Rattle.flit_event_lists.specs.Plays.{StoreEnds}
use Rattle.flit_event_lists.proofs.PlayedLists.{Reaches, one_event, no_event, goes_on, same_events, fence_inside, fence_played, persists-fence, persists-other, persists-append, persisted, raised-raised}

-- of two ends the first that is worn
abbrev merged : Stored → Stored → Stored
merged All_stored how = how
merged (Worn word version) how = Worn word version

merged-all : (how : Stored) → merged how All_stored ≡ how
merged-all All_stored = refl
merged-all (Worn word version) = refl

merged-step : (how next : Stored) (word version : ℕ) (worn : Bool) → merged (cond worn (worn_at how word version) how) next ≡ merged how
    (cond worn (Worn word version) next)
merged-step All_stored next word version true = refl
merged-step All_stored next word version false = refl
merged-step (Worn w v) next word version true = refl
merged-step (Worn w v) next word version false = refl

ready-step : (how next : Stored) (word version : ℕ) (worn : Bool) (ready : List Noted) (n : Noted) →
    merged how (cond worn (Worn word version) next) ≡ All_stored → cond worn ready (ready ++ n ∷ []) ≡ ready ++ n ∷ []
ready-step All_stored next word version true ready n is = absurd (cc)
ready-step (Worn w v) next word version true ready n is = absurd (cc)
ready-step how next word version false ready n is = refl

led-by : (t : AnsweredEvent) (list rest same : List AnsweredEvent) → list ≡ t ∷ rest → rest ≡ same → list ≡ t ∷ same
led-by t list rest same is are = is ∙ ap (λ xs. t ∷ xs) are

-- the words that are ready, after one more
ready-after : (how next : Stored) (word version : ℕ) (worn : Bool) (ready behind ready_end : List Noted) (n : Noted) →
    (merged (cond worn (worn_at how word version) how) next ≡ All_stored → ready_end ≡ cond worn ready (ready ++ n ∷ []) ++ behind) →
    merged how (cond worn (Worn word version) next) ≡ All_stored → ready_end ≡ ready ++ n ∷ behind
ready-after how next word version worn ready behind ready_end n is e =
    is (merged-step how next word version worn ∙ e) ∙ (ap (λ xs. xs ++ behind) (ready-step how next word version worn ready n e)
    ∙ append_assoc ready (n ∷ []) behind)

loads-uncounted : (word : ℕ) (raws : List ℕ) (xs : List AnsweredEvent) → persists_in (loads_of word raws ++ xs) ≡ persists_in xs
loads-uncounted word [] xs = refl
loads-uncounted word (raw ∷ raws) xs = persists-other (answered_event (Load word) raw) (loads_of (word + 1) raws ++ xs) refl
    ∙ loads-uncounted (word + 1) raws xs

module _ (limit : ℕ) (after : Hand) (how : Stored) where
  abbrev Leaves : HeldStore → Type 0
  Leaves m = HasStored m after how

  ends : (m : HeldStore) → Leaves m → store_asked m ≡ None
  ends m e = rw e.1 refl

  abbrev Comes : HeldStore → List AnsweredEvent → Type 0
  Comes m list = Reaches store_asked store_taken m list Leaves

  abbrev at_phase : Hand → ℕ → List ℕ → List Noted → Storing → HeldStore
  at_phase h word values ready at = record { hand = h; drafts = record { word = word; values = values; ready = ready; limit = limit }; at = at }

  -- ---- the loads

  abbrev Loaded : Hand → ℕ → List ℕ → List Noted → Stored → List AnsweredEvent → Type 0
  Loaded h word values ready how0 list = (raws : List ℕ) × (stores : List AnsweredEvent) × (ready_end : List Noted) × (word_end : ℕ) × (at_end : Storing)
      × (length raws ≡ length values) × (list ≡ loads_of word raws ++ stores)
      × (merged how0 (first_worn limit word raws) ≡ All_stored → ready_end ≡ ready ++ new_words word raws values)
      × Comes (store_decides (at_phase h word_end [] ready_end at_end) (merged how0 (first_worn limit word raws))) stores

  loads-told : (values : List ℕ) (h : Hand) (word : ℕ) (ready : List Noted) (a : Storing) (how0 : Stored) (list : List AnsweredEvent) →
      Comes (store_goes_on (at_phase h word values ready a) how0 values) list → Loaded h word values ready how0 list
  loads-told [] h word ready a how0 list r = (
    [],
    list,
    ready,
    word,
    a,
    refl,
    refl,
    (λ e. sym (append-nil ready)),
    subst (λ s. Comes (store_decides (at_phase h word [] ready a) s) list)
        (sym (merged-all how0)) r,
  )
  loads-told (v ∷ vs) h word ready a how0 list r =
      let one = one_event store_asked store_taken Leaves ends (at_phase h word (v ∷ vs) ready (Reads how0)) (Load word) list refl r in
      let raw = one.0 in
      let worn = nat_le limit (version_of raw) in
      let n = noted word (next_bare raw v) in
      let more = loads-told vs h (word + 1) (cond worn ready (ready ++ n ∷ [])) (Reads how0) (cond worn (worn_at how0 word (version_of raw)) how0) one.1 one.3
      in
      let next = first_worn limit (word + 1) more.0 in
      let step = merged-step how0 next word (version_of raw) worn in (
        raw ∷ more.0,
        more.1,
        more.2,
        more.3,
        more.4,
        ap (λ k. suc k) more.5,
        led-by (answered_event (Load word) raw) list one.1 (loads_of (word + 1) more.0 ++ more.1) one.2 more.6,
        (λ e. ready-after how0 next word (version_of raw) worn ready (new_words (word + 1) more.0 vs) more.2 n more.7 e),
        subst (λ s. Comes (store_decides (at_phase h more.3 [] more.2 more.4) s) more.1) step more.8,
      )

  loads-made : (values : List ℕ) (h : Hand) (word : ℕ) (ready : List Noted) (a : Storing) (how0 : Stored) (raws : List ℕ) (stores : List AnsweredEvent) →
      length raws ≡ length values →
      ((word_end : ℕ) (at_end : Storing) (ready_end : List Noted) → (merged how0 (first_worn limit word raws) ≡ All_stored →
      ready_end ≡ ready ++ new_words word raws values) →
      Comes (store_decides (at_phase h word_end [] ready_end at_end) (merged how0 (first_worn limit word raws))) stores) →
      Comes (store_goes_on (at_phase h word values ready a) how0 values) (loads_of word raws ++ stores)
  loads-made [] h word ready a how0 [] stores same then = subst (λ s. Comes (store_decides (at_phase h word [] ready a) s) stores) (merged-all how0)
      (then word a ready (λ e. sym (append-nil ready)))
  loads-made [] h word ready a how0 (raw ∷ raws) stores same then = absurd (cc)
  loads-made (v ∷ vs) h word ready a how0 [] stores same then = absurd (cc)
  loads-made (v ∷ vs) h word ready a how0 (raw ∷ raws) stores same then =
      let worn = nat_le limit (version_of raw) in
      let n = noted word (next_bare raw v) in
      let next = first_worn limit (word + 1) raws in
      let step = merged-step how0 next word (version_of raw) worn in
      goes_on store_asked store_taken Leaves (at_phase h word (v ∷ vs) ready (Reads how0)) (Load word) raw (loads_of (word + 1) raws ++ stores) refl
      (loads-made vs h (word + 1) (cond worn ready (ready ++ n ∷ [])) (Reads how0) (cond worn (worn_at how0 word (version_of raw)) how0) raws stores
      (omega (arith, same))
      (λ word_end at_end ready_end is. subst (λ s. Comes (store_decides (at_phase h word_end [] ready_end at_end) s) stores) (sym step)
      (then word_end at_end ready_end (λ e. ready-after how0 next word (version_of raw) worn ready (new_words (word + 1) raws vs) ready_end n is e))))

  -- ---- one word

  abbrev writes : Hand → ℕ → Noted → List Noted → HeldStore
  writes h word n ns = at_phase h word [] ns (Writes n)

  abbrev room_at : ℕ → Noted → List Noted → Hand → List Noted → HeldStore
  room_at word n ns h queue = store_room (writes (with_queue h queue) word n ns) n queue

  room-same : (h : Hand) (word : ℕ) (n : Noted) (ns : List Noted) (a : Storing) (queue : List Noted) →
      store_room (at_phase h word [] ns a) n queue ≡ store_room (writes h word n ns) n queue
  room-same h word n ns a [] = refl
  room-same h word n ns a (q ∷ qs) = refl

  room-takes : (word : ℕ) (n : Noted) (ns : List Noted) (h : Hand) (q : Noted) (qs : List Noted) (a : ℕ) →
      store_taken (room_at word n ns h (q ∷ qs)) a ≡ room_at word n ns (with_persist h) qs
  room-takes word n ns h q qs a = room-same (with_queue (with_persist h) qs) word n ns (MakesRoom n q) qs

  full-asked : (h : Hand) (word : ℕ) (n : Noted) (ns queue : List Noted) (full : Bool) → is_full queue ≡ full →
      store_asked (writes (with_queue h queue) word n ns) ≡ cond full (first_persist queue) (Some (Store n.word n.kept))
  full-asked h word n ns queue full is = rw is refl

  full-taken : (h : Hand) (word : ℕ) (n : Noted) (ns : List Noted) (q : Noted) (qs : List Noted) (a : ℕ) → is_full (q ∷ qs) ≡ true →
      store_taken (writes (with_queue h (q ∷ qs)) word n ns) a ≡ store_taken (room_at word n ns h (q ∷ qs)) a
  full-taken h word n ns q qs a is = rw is (sym (room-same (with_queue (with_persist h) qs) word n ns (MakesRoom n q) qs))

  stored-taken : (h : Hand) (word : ℕ) (n : Noted) (ns : List Noted) (a : ℕ) → is_full h.queue ≡ false →
      store_taken (writes h word n ns) a ≡ store_next (writes (with_pair h n) word n ns) ns
  stored-taken h word n ns a is = rw is refl

  -- the hand after one word, and after all that follows
  abbrev left_by : Hand → List Noted → List AnsweredEvent → Hand
  left_by h queue list = record h { queue = queue; tally = counted h.tally list }

  left-plain : (h : Hand) (n : Noted) (queue : List Noted) (list behind : List AnsweredEvent) (a : ℕ) → list ≡ answered_event (Store n.word n.kept) a ∷ behind →
      left_by (with_pair h n) queue behind ≡ left_by h queue list
  left-plain h n queue list behind a is =
      ap (λ k. record h { queue = queue; tally = record h.tally { persists = raised h.tally.persists k } })
      (sym (ap persists_in is ∙ persists-other (answered_event (Store n.word n.kept) a) behind refl))

  left-full : (h : Hand) (n : Noted) (queue : List Noted) (list fence behind : List AnsweredEvent) (a k : ℕ) →
      list ≡ fence ++ answered_event (Store n.word n.kept) a ∷ behind → persists_in fence ≡ k →
      left_by (with_pair (with_queue (persisted h k) []) n) queue behind ≡ left_by h queue list
  left-full h n queue list fence behind a k is count =
      let same : k + persists_in behind ≡ persists_in list = rw is (omega (
        arith,
        persists-append fence (answered_event (Store n.word n.kept) a ∷ behind),
        persists-other (answered_event (Store n.word n.kept) a) behind refl,
        count,
      )) in
      ap (λ p. record h { queue = queue; tally = record h.tally { persists = p } }) (raised-raised h.tally.persists k (persists_in behind)
      ∙ ap (raised h.tally.persists) same)

  -- what one word takes, and the machine behind it
  abbrev First : Hand → ℕ → Noted → List Noted → List AnsweredEvent → Type 0
  First h word n ns list = (h1 : Hand) × (behind : List AnsweredEvent) × (room : List Noted) × IsStoredFirst h.queue n list behind room
      × (h1.queue ≡ room ++ n ∷ []) × ((queue : List Noted) → left_by h1 queue behind ≡ left_by h queue list)
      × Comes (store_next (writes h1 word n ns) ns) behind

  to-room : (h : Hand) (word : ℕ) (n : Noted) (ns queue : List Noted) (list : List AnsweredEvent) → is_full queue ≡ true →
      Comes (writes (with_queue h queue) word n ns) list → Comes (room_at word n ns h queue) list
  to-room h word n ns [] list is r = absurd (cc)
  to-room h word n ns (q ∷ qs) list is r =
      same_events store_asked store_taken Leaves ends (writes (with_queue h (q ∷ qs)) word n ns) (room_at word n ns h (q ∷ qs)) (persist_of q)
      (full-asked h word n ns (q ∷ qs) true is) refl (λ a. full-taken h word n ns q qs a is) list r

  from-room : (h : Hand) (word : ℕ) (n : Noted) (ns queue : List Noted) (list : List AnsweredEvent) → is_full queue ≡ true →
      Comes (room_at word n ns h queue) list → Comes (writes (with_queue h queue) word n ns) list
  from-room h word n ns [] list is r = absurd (cc)
  from-room h word n ns (q ∷ qs) list is r =
      same_events store_asked store_taken Leaves ends (room_at word n ns h (q ∷ qs)) (writes (with_queue h (q ∷ qs)) word n ns) (persist_of q)
      refl (full-asked h word n ns (q ∷ qs) true is) (λ a. sym (full-taken h word n ns q qs a is)) list r

  plain-told : (h : Hand) (word : ℕ) (n : Noted) (ns : List Noted) (list : List AnsweredEvent) → is_full h.queue ≡ false → Comes (writes h word n ns) list →
      (a : ℕ) × (behind : List AnsweredEvent) × (list ≡ answered_event (Store n.word n.kept) a ∷ behind)
      × Comes (store_next (writes (with_pair h n) word n ns) ns) behind
  plain-told h word n ns list is r =
      let one = one_event store_asked store_taken Leaves ends (writes h word n ns) (Store n.word n.kept) list (full-asked h word n ns h.queue false is) r in
      (one.0, one.1, one.2, subst (λ m. Comes m one.1) (stored-taken h word n ns one.0 is) one.3)

  plain-made : (h : Hand) (word : ℕ) (n : Noted) (ns : List Noted) (a : ℕ) (behind : List AnsweredEvent) → is_full h.queue ≡ false →
      Comes (store_next (writes (with_pair h n) word n ns) ns) behind → Comes (writes h word n ns) (answered_event (Store n.word n.kept) a ∷ behind)
  plain-made h word n ns a behind is r =
      goes_on store_asked store_taken Leaves (writes h word n ns) (Store n.word n.kept) a behind (full-asked h word n ns h.queue false is)
      (subst (λ m. Comes m behind) (sym (stored-taken h word n ns a is)) r)

  first-told : (h : Hand) (word : ℕ) (n : Noted) (ns : List Noted) (list : List AnsweredEvent) (full : Bool) → is_full h.queue ≡ full →
      Comes (writes h word n ns) list → First h word n ns list
  first-told h word n ns list true is r =
      let k = length h.queue in
      let f = fence_inside store_asked store_taken (room_at word n ns) (λ h q qs. refl) (room-takes word n ns) Leaves ends h.queue h list
      (to-room h word n ns h.queue list is r) in
      let one = plain-told (with_queue (persisted h k) []) word n ns f.1 refl f.4 in
      let parts : list ≡ f.0 ++ answered_event (Store n.word n.kept) one.0 ∷ one.1 = f.2 ∙ ap (λ xs. f.0 ++ xs) one.2 in (
        with_pair (with_queue (persisted h k) []) n,
        one.1,
        [],
        record { fence = f.0; answer = one.0; parts = parts; makes_room = rw is (f.3, refl) },
        refl,
        (λ queue. left-full h n queue list f.0 one.1 one.0 k parts (persists-fence h.queue f.0 f.3)),
        one.3,
      )
  first-told h word n ns list false is r =
      let one = plain-told h word n ns list is r in (
        with_pair h n,
        one.1,
        h.queue,
        record { fence = []; answer = one.0; parts = one.2; makes_room = rw is (refl, refl) },
        refl,
        (λ queue. left-plain h n queue list one.1 one.0 one.2),
        one.3,
      )

  -- the other way
  abbrev FirstMade : Hand → ℕ → Noted → List Noted → List AnsweredEvent → List AnsweredEvent → List Noted → Type 0
  FirstMade h word n ns list behind room = (h1 : Hand) × (h1.queue ≡ room ++ n ∷ []) × ((queue : List Noted) → left_by h1 queue behind ≡ left_by h queue list)
      × (Comes (store_next (writes h1 word n ns) ns) behind → Comes (writes h word n ns) list)

  first-made : (h : Hand) (word : ℕ) (n : Noted) (ns : List Noted) (list behind : List AnsweredEvent) (room : List Noted) (full : Bool) →
      is_full h.queue ≡ full → IsStoredFirst h.queue n list behind room → FirstMade h word n ns list behind room
  first-made h word n ns list behind room true is s =
      let k = length h.queue in
      let room_is : IsFence h.queue s.fence × (room ≡ []) = rw is at s.makes_room in (
        with_pair (with_queue (persisted h k) []) n,
        ap (λ xs. xs ++ n ∷ []) (sym room_is.1),
        (λ queue. left-full h n queue list s.fence behind s.answer k s.parts (persists-fence h.queue s.fence room_is.0)),
        (λ r. rw s.parts (from-room h word n ns h.queue (s.fence ++ answered_event (Store n.word n.kept) s.answer ∷ behind) is
            (fence_played store_asked store_taken (room_at word n ns) (λ h q qs. refl) (room-takes word n ns) Leaves h.queue h s.fence
            (answered_event (Store n.word n.kept) s.answer ∷ behind) room_is.0
            (plain-made (with_queue (persisted h k) []) word n ns s.answer behind refl r)))),
      )
  first-made h word n ns list behind room false is s =
      let room_is : (s.fence ≡ []) × (room ≡ h.queue) = rw is at s.makes_room in
      let parts : list ≡ answered_event (Store n.word n.kept) s.answer ∷ behind = s.parts
      ∙ ap (λ xs. xs ++ answered_event (Store n.word n.kept) s.answer ∷ behind) room_is.0 in (
        with_pair h n,
        ap (λ xs. xs ++ n ∷ []) (sym room_is.1),
        (λ queue. left-plain h n queue list behind s.answer parts),
        (λ r. rw parts (plain-made h word n ns s.answer behind is r)),
      )

  -- ---- all words

  abbrev AllStored : Hand → List Noted → List AnsweredEvent → Type 0
  AllStored h news list = (queue : List Noted) × IsStores h.queue news list queue × (how ≡ All_stored) × (left_by h queue list ≡ after)

  stores-told : (news : List Noted) (h : Hand) (word : ℕ) (a : Storing) (list : List AnsweredEvent) → Comes (store_next (at_phase h word [] news a) news) list →
      AllStored h news list
  stores-told [] h word a list r =
      let last = no_event store_asked store_taken Leaves ends (at_phase h word [] [] (Ended All_stored)) list refl r in
      let how_is : Ended All_stored ≡ Ended how = last.1.1 in
      (h.queue, (last.0, refl), cc, rw last.0 last.1.0)
  stores-told (n ∷ ns) h word a list r =
      let f = first-told h word n ns list (is_full h.queue) refl r in
      let more = stores-told ns f.0 word (Writes n) f.1 f.6 in
      (more.0, (f.1, f.2, f.3, subst (λ queue. IsStores queue ns f.1 more.0) f.4 more.1), more.2, sym (f.5 more.0) ∙ more.3)

  stores-made : (news : List Noted) (h : Hand) (word : ℕ) (a : Storing) (list : List AnsweredEvent) → AllStored h news list →
      Comes (store_next (at_phase h word [] news a) news) list
  stores-made [] h word a list d =
      let hand_is : h ≡ after = (let e : left_by h d.0 list ≡ h = rw (d.1.0, d.1.1) refl in sym e ∙ d.3) in
      rw d.1.0 (at_phase h word [] [] (Ended All_stored), refl, (hand_is, ap Ended (sym d.2)))
  stores-made (n ∷ ns) h word a list d =
      let f = first-made h word n ns list d.1.0 d.1.1 (is_full h.queue) refl d.1.2 in
      f.3 (stores-made ns f.0 word (Writes n) d.1.0 (d.0, subst (λ queue. IsStores queue ns d.1.0 d.0) (sym f.1) d.1.3, d.2, f.2 d.0 ∙ d.3))

  -- worn, or all
  abbrev EndsAs : Stored → Hand → List Noted → List AnsweredEvent → Type 0
  EndsAs how1 h news list = (queue : List Noted) × IsStoresUnless how1 h.queue news list queue × (how ≡ how1) × (left_by h queue list ≡ after)

  decides-told : (how1 : Stored) (h : Hand) (word : ℕ) (news ready : List Noted) (a : Storing) (list : List AnsweredEvent) →
      (how1 ≡ All_stored → ready ≡ news) → Comes (store_decides (at_phase h word [] ready a) how1) list → EndsAs how1 h news list
  decides-told All_stored h word news ready a list is r = stores-told news h word a list
      (subst (λ ready. Comes (store_next (at_phase h word [] ready a) ready) list) (is refl) r)
  decides-told (Worn w v) h word news ready a list is r =
      let last = no_event store_asked store_taken Leaves ends (at_phase h word [] ready (Ended (Worn w v))) list refl r in
      let how_is : Ended (Worn w v) ≡ Ended how = last.1.1 in
      (h.queue, (last.0, refl), cc, rw last.0 last.1.0)

  decides-made : (how1 : Stored) (h : Hand) (word : ℕ) (news ready : List Noted) (a : Storing) (list : List AnsweredEvent) →
      (how1 ≡ All_stored → ready ≡ news) → EndsAs how1 h news list → Comes (store_decides (at_phase h word [] ready a) how1) list
  decides-made All_stored h word news ready a list is d = subst (λ ready. Comes (store_next (at_phase h word [] ready a) ready) list) (sym (is refl))
      (stores-made news h word a list d)
  decides-made (Worn w v) h word news ready a list is d =
      let hand_is : h ≡ after = (let e : left_by h d.0 list ≡ h = rw (d.1.0, d.1.1) refl in sym e ∙ d.3) in
      rw d.1.0 (at_phase h word [] ready (Ended (Worn w v)), refl, (hand_is, ap Ended (sym d.2)))

pub store-told : (hand : Hand) (first : ℕ) (values : List ℕ) (limit : ℕ) (list : List AnsweredEvent) (after : Hand) (how : Stored) →
    StoreEnds hand first values limit list after how → IsStoreList hand first values limit list after how
store-told hand first values limit list after how r =
    let l = loads-told limit after how values hand first [] (Ended All_stored) All_stored list r in
    let how1 = first_worn limit first l.0 in
    let d = decides-told limit after how how1 hand l.3 (new_words first l.0 values) l.2 l.4 l.1 l.7 l.8 in
    let same : persists_in l.1 ≡ persists_in list = sym (ap persists_in l.6 ∙ loads-uncounted first l.0 l.1) in
    record {
      raws = l.0;
      stores = l.1;
      queue = d.0;
      loaded = l.5;
      parts = l.6;
      ended = d.2;
      stored = subst (λ s. IsStoresUnless s hand.queue (new_words first l.0 values) l.1 d.0) (sym d.2) d.1;
      ends = sym d.3 ∙ ap (λ k. record hand { queue = d.0; tally = record hand.tally { persists = raised hand.tally.persists k } }) same;
    }

pub store-made : (hand : Hand) (first : ℕ) (values : List ℕ) (limit : ℕ) (list : List AnsweredEvent) (after : Hand) (how : Stored) →
    IsStoreList hand first values limit list after how → StoreEnds hand first values limit list after how
store-made hand first values limit list after how is =
    let how1 = first_worn limit first is.raws in
    let same : persists_in is.stores ≡ persists_in list = sym (ap persists_in is.parts ∙ loads-uncounted first is.raws is.stores) in
    let d : EndsAs limit after how how1 hand (new_words first is.raws values) is.stores = (
      is.queue,
      subst (λ s. IsStoresUnless s hand.queue (new_words first is.raws values) is.stores is.queue) is.ended is.stored,
      is.ended,
      ap (λ k. record hand { queue = is.queue; tally = record hand.tally { persists = raised hand.tally.persists k } }) same ∙ sym is.ends,
    ) in
    rw is.parts (loads-made limit after how values hand first [] (Ended All_stored) All_stored is.raws is.stores is.loaded
    (λ word_end at_end ready_end ready_is. decides-made limit after how how1 hand word_end (new_words first is.raws values) ready_end at_end is.stores ready_is
    d))
