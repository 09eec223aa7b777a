-- A load and a confirmation: the events of each, both ways.
use Rattle.std.proofs.Common.{◌≡◌, ℕ, List, [], ◌∷◌, ◌++◌, Bool, cond, Option, Some, None, refl, sym, ap, subst, ◌∙◌}
use Rattle.flit_words.specs.Words.{bare_of}
use Rattle.flit_model.specs.declared.events.Event.TheVariants.{Load, ReadTag}
use Rattle.flit_place.specs.Tags.{Place, shown}
use Rattle.flit_pv.specs.declared.queues.Noted.{Noted}
use Rattle.flit_pv.specs.declared.hands.Hand.{Hand}
use Rattle.flit_pv.specs.Loads.{HeldLoad}
use Rattle.flit_pv.specs.declared.loads.Loading.{Loading}
use Rattle.flit_pv.specs.declared.loads.Loading.TheVariants.{Reads, Asks, MakesRoom, Has}
use Rattle.flit_pv.specs.VLoads.{HeldVLoad}
use Rattle.flit_pv.specs.declared.v_loads.VLoading.TheVariants.{Has as V_has}
use Rattle.flit_pv.specs.Queues.{noted, is_full}
use Rattle.flit_pv.specs.Hands.{with_persist, with_omitted, with_queued, with_queue}
use Rattle.flit_pv.specs.Loads.{load_started, load_asked, load_taken, load_room, load_judges, load_reads, HasLoaded}
use Rattle.flit_pv.specs.VLoads.{v_load_started, v_load_asked, v_load_taken, HasVLoaded}
use Rattle.flit_pv.specs.Played.{AnsweredEvent, answered_event}
use Rattle.flit_event_lists.specs.EventLists.{persists_in, IsTagRead, IsQueuedWhere}
use Rattle.flit_event_lists.specs.LoadLists.{IsLoadList, IsVLoadList}
use Rattle.flit_event_lists.specs.Plays.{LoadEnds, VLoadEnds}
use Rattle.flit_event_lists.proofs.PlayedLists.{Reaches, one_event, no_event, goes_on, persists-other}
use Rattle.flit_event_lists.proofs.JudgedLists.{judged_hand, judged-same, judged-end, judged-told, judged-made}

-- a ReadTag isn't counted
pub tag-uncounted : (slot : Option ℕ) (tag_read : List AnsweredEvent) (tag : Option ℕ) (fence : List AnsweredEvent) → IsTagRead slot tag_read tag →
    persists_in (tag_read ++ fence) ≡ persists_in fence
tag-uncounted None tag_read tag fence is = rw is.0 refl
tag-uncounted (Some slot) tag_read tag fence is = rw is.1 (persists-other (answered_event (ReadTag slot) is.0) fence refl)

-- ---- PLoad

module _ (p : Place) (word : ℕ) (after : Hand) (raw : ℕ) where
  abbrev LoadLeaves : HeldLoad → Type 0
  LoadLeaves m = HasLoaded m after raw

  load-ends : (m : HeldLoad) → LoadLeaves m → load_asked m ≡ None
  load-ends m e = rw e.1 refl

  abbrev load_done : ℕ → Hand → HeldLoad
  load_done raw0 h = record { hand = h; word = word; at = Has raw0 }

  abbrev load_room_at : ℕ → Hand → List Noted → HeldLoad
  load_room_at raw0 h queue = load_room (record { hand = with_queue h queue; word = word; at = Reads }) raw0 queue

  room-same : (raw0 : ℕ) (h : Hand) (a : Loading) (queue : List Noted) → load_room (record { hand = h; word = word; at = a }) raw0 queue ≡ load_room
      (record { hand = h; word = word; at = Reads }) raw0 queue
  room-same raw0 h a [] = refl
  room-same raw0 h a (n ∷ ns) = refl

  load-takes : (raw0 : ℕ) (h : Hand) (n : Noted) (ns : List Noted) (a : ℕ) →
      load_taken p (load_room_at raw0 h (n ∷ ns)) a ≡ load_room_at raw0 (with_persist h) ns
  load-takes raw0 h n ns a = room-same raw0 (with_queue (with_persist h) ns) (MakesRoom raw0 n) ns

  abbrev LoadJudged : ℕ → Bool → Hand → List AnsweredEvent → Type 0
  LoadJudged raw0 b h list = (queue : List Noted) × IsQueuedWhere b h.queue (noted word (bare_of raw0)) list queue
      × HasLoaded (load_done raw0 (judged_hand b h list queue)) after raw

  abbrev load_judges_at : ℕ → Bool → Hand → HeldLoad
  load_judges_at raw0 b h = cond b (cond (is_full h.queue) (load_room_at raw0 h h.queue) (load_done raw0 (with_queued h word raw0)))
      (load_done raw0 (with_omitted h))

  judges-same : (raw0 : ℕ) (h : Hand) (a : Loading) (tag : Option ℕ) → load_judges p (record { hand = h; word = word; at = a }) raw0 tag ≡ load_judges_at raw0
      (shown p.counted raw0 tag) h
  judges-same raw0 h a tag = ap (λ m. cond (shown p.counted raw0 tag) (cond (is_full h.queue) m (load_done raw0 (with_queued h word raw0)))
      (load_done raw0 (with_omitted h))) (room-same raw0 h a h.queue)

  load-judged-told : (raw0 : ℕ) (b : Bool) (h : Hand) (list : List AnsweredEvent) →
      Reaches load_asked (load_taken p) (load_judges_at raw0 b h) list LoadLeaves → LoadJudged raw0 b h list
  load-judged-told raw0 b h list r =
      judged-told load_asked (load_taken p) (load_done raw0) (load_room_at raw0) word raw0 (λ h. refl) (λ h n ns. refl) (load-takes raw0) (λ h. refl) LoadLeaves
      load-ends b h list r

  load-judged-made : (raw0 : ℕ) (b : Bool) (h : Hand) (list : List AnsweredEvent) → LoadJudged raw0 b h list →
      Reaches load_asked (load_taken p) (load_judges_at raw0 b h) list LoadLeaves
  load-judged-made raw0 b h list j =
      judged-made load_asked (load_taken p) (load_done raw0) (load_room_at raw0) word raw0 (λ h. refl) (λ h n ns. refl) (load-takes raw0) (λ h. refl) LoadLeaves
      load-ends b h list j

  abbrev Read : ℕ → Option ℕ → Hand → List AnsweredEvent → Type 0
  Read raw0 slot h list = (tag_read : List AnsweredEvent) × (fence : List AnsweredEvent) × (tag : Option ℕ) × (list ≡ tag_read ++ fence)
      × IsTagRead slot tag_read tag × LoadJudged raw0 (shown p.counted raw0 tag) h fence

  read-told : (raw0 : ℕ) (slot : Option ℕ) (h : Hand) (list : List AnsweredEvent) →
      Reaches load_asked (load_taken p) (load_reads p (load_started h word) raw0 slot) list LoadLeaves → Read raw0 slot h list
  read-told raw0 None h list r = (
    [],
    list,
    None,
    refl,
    (refl, refl),
    load-judged-told raw0 (shown p.counted raw0 None) h list
        (subst (λ m. Reaches load_asked (load_taken p) m list LoadLeaves) (judges-same raw0 h Reads None) r),
  )
  read-told raw0 (Some slot) h list r =
      let one = one_event load_asked (load_taken p) LoadLeaves load-ends (record { hand = h; word = word; at = Asks raw0 slot }) (ReadTag slot) list refl r in (
        answered_event (ReadTag slot) one.0 ∷ [],
        one.1,
        Some one.0,
        one.2,
        (one.0, refl, refl),
        load-judged-told raw0 (shown p.counted raw0 (Some one.0)) h one.1 (subst (λ m. Reaches load_asked (load_taken p) m one.1 LoadLeaves)
            (judges-same raw0 h (Asks raw0 slot) (Some one.0)) one.3),
      )

  read-made : (raw0 : ℕ) (slot : Option ℕ) (h : Hand) (list : List AnsweredEvent) → Read raw0 slot h list →
      Reaches load_asked (load_taken p) (load_reads p (load_started h word) raw0 slot) list LoadLeaves
  read-made raw0 None h list d =
      let no_tag : d.2 ≡ None = d.4.1 in
      let same : list ≡ d.1 = d.3 ∙ ap (λ xs. xs ++ d.1) d.4.0 in
      let j : LoadJudged raw0 (shown p.counted raw0 None) h d.1 = subst (λ tag. LoadJudged raw0 (shown p.counted raw0 tag) h d.1) no_tag d.5 in
      rw same (subst (λ m. Reaches load_asked (load_taken p) m d.1 LoadLeaves) (sym (judges-same raw0 h Reads None))
      (load-judged-made raw0 (shown p.counted raw0 None) h d.1 j))
  read-made raw0 (Some slot) h list d =
      let count = d.4.0 in
      let same : list ≡ answered_event (ReadTag slot) count ∷ d.1 = d.3 ∙ ap (λ xs. xs ++ d.1) d.4.1 in
      let j : LoadJudged raw0 (shown p.counted raw0 (Some count)) h d.1 = subst (λ tag. LoadJudged raw0 (shown p.counted raw0 tag) h d.1) d.4.2 d.5 in
      rw same (goes_on load_asked (load_taken p) LoadLeaves (record { hand = h; word = word; at = Asks raw0 slot }) (ReadTag slot) count d.1 refl
      (subst (λ m. Reaches load_asked (load_taken p) m d.1 LoadLeaves) (sym (judges-same raw0 h (Asks raw0 slot) (Some count)))
      (load-judged-made raw0 (shown p.counted raw0 (Some count)) h d.1 j)))

-- the write-backs of a load are those of its fence
load-uncounted : (word raw : ℕ) (slot : Option ℕ) (list rest tag_read fence : List AnsweredEvent) (tag : Option ℕ) →
    list ≡ answered_event (Load word) raw ∷ rest → rest ≡ tag_read ++ fence → IsTagRead slot tag_read tag → persists_in list ≡ persists_in fence
load-uncounted word raw slot list rest tag_read fence tag is_list is_rest reads =
    rw (is_list, is_rest) (persists-other (answered_event (Load word) raw) (tag_read ++ fence) refl ∙ tag-uncounted slot tag_read tag fence reads)

pub load-told : (p : Place) (hand : Hand) (word : ℕ) (list : List AnsweredEvent) (after : Hand) (raw : ℕ) → LoadEnds p hand word list after raw →
    IsLoadList p hand word list after raw
load-told p hand word list after raw r =
    let one = one_event load_asked (load_taken p) (LoadLeaves p word after raw) (load-ends p word after raw) (load_started hand word) (Load word) list refl r in
    let d = read-told p word after raw one.0 (p.slot word) hand one.1 one.3 in
    let same : one.0 ≡ raw = (let h : Has one.0 ≡ Has raw = d.5.2.1 in cc) in
    let uncounted : persists_in list ≡ persists_in d.1 =
    load-uncounted word one.0 (p.slot word) list one.1 d.0 d.1 d.2 one.2 d.3 d.4 in
    subst (IsLoadList p hand word list after) same (record {
      tag_read = d.0;
      fence = d.1;
      tag = d.2;
      queue = d.5.0;
      parts = one.2 ∙ ap (λ xs. answered_event (Load word) one.0 ∷ xs) d.3;
      reads = d.4;
      queues = d.5.1;
      ends = judged-end (shown p.counted one.0 d.2) hand d.1 list d.5.0 after d.5.2.0 (sym uncounted);
    })

pub load-made : (p : Place) (hand : Hand) (word : ℕ) (list : List AnsweredEvent) (after : Hand) (raw : ℕ) → IsLoadList p hand word list after raw →
    LoadEnds p hand word list after raw
load-made p hand word list after raw is =
    let b = shown p.counted raw is.tag in
    let uncounted : persists_in is.fence ≡ persists_in list =
    sym (load-uncounted word raw (p.slot word) list (is.tag_read ++ is.fence) is.tag_read is.fence is.tag is.parts refl is.reads) in
    let hand_is : judged_hand b hand is.fence is.queue ≡ after = judged-same b hand is.fence list is.queue uncounted ∙ sym is.ends in
    let d : Read p word after raw raw (p.slot word) hand (is.tag_read ++ is.fence) =
    (is.tag_read, is.fence, is.tag, refl, is.reads, (is.queue, is.queues, (hand_is, refl))) in
    rw is.parts (goes_on load_asked (load_taken p) (LoadLeaves p word after raw) (load_started hand word) (Load word) raw (is.tag_read ++ is.fence) refl
    (read-made p word after raw raw (p.slot word) hand (is.tag_read ++ is.fence) d))

-- ---- VLoad

pub v-load-told : (hand : Hand) (word : ℕ) (list : List AnsweredEvent) (after : Hand) (raw : ℕ) → VLoadEnds hand word list after raw →
    IsVLoadList hand word list after raw
v-load-told hand word list after raw r =
    let ends : (m : HeldVLoad) → HasVLoaded m after raw → v_load_asked m ≡ None = λ m e. rw e.1 refl in
    let one = one_event v_load_asked v_load_taken (λ m. HasVLoaded m after raw) ends (v_load_started hand word) (Load word) list refl r in
    let last = no_event v_load_asked v_load_taken (λ m. HasVLoaded m after raw) ends (record { hand = hand; word = word; at = V_has one.0 }) one.1 refl one.3 in
    let same : one.0 ≡ raw = (let h : V_has one.0 ≡ V_has raw = last.1.1 in cc) in
    let nothing : one.1 ≡ [] = last.0 in
    let all : list ≡ answered_event (Load word) one.0 ∷ one.1 = one.2 in
    record { parts = cc; ends = sym last.1.0 }

pub v-load-made : (hand : Hand) (word : ℕ) (list : List AnsweredEvent) (after : Hand) (raw : ℕ) → IsVLoadList hand word list after raw →
    VLoadEnds hand word list after raw
v-load-made hand word list after raw is = rw is.parts ((record { hand = hand; word = word; at = V_has raw }), (refl, refl), (sym is.ends, refl))
