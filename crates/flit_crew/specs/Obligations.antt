-- What a structure proves.
use Rattle.std.specs.List.{Contains}
use Rattle.std.specs.Prelude.{◌≡◌, ◌≢◌, ℕ, ◌+◌, ◌<◌, ◌≤◌, true, false, List, [], length, Option, Some, None}
use Rattle.flit_words.specs.declared.layouts.Layout.{Layout}
use Rattle.flit_words.specs.Layouts.{words_of, Accepted}
use Rattle.flit_words.specs.Words.{version_of, bare_of}
use Rattle.flit_model.specs.Histories.{is_update_by, is_read_by}
use Rattle.flit_model.specs.declared.events.Event.{Event}
use Rattle.flit_model.specs.declared.calls.Call.{Call}
use Rattle.flit_model.specs.declared.calls.Reply.TheVariants.{Yes}
use Rattle.flit_place.specs.Tags.{Place, IsSlot}
use Rattle.flit_rows.specs.Shares.{rows_in}
use Rattle.flit_pv.specs.declared.hands.Hand.{Hand}
use Rattle.flit_structure.specs.Moments.{Opening, Moment, first_moment}
use Rattle.flit_structure.specs.Meanings.{IsServed}
use Rattle.flit_structure.specs.Lawful.{IsRecoverable, IsPlacedFrom, IsWithin, IsOpening, is_insert, rows_needed}
use Rattle.flit_pv.specs.Fences.{HeldComplete}
use Rattle.flit_pv.specs.Exchanges.{HeldExchange}
use Rattle.flit_pv.specs.declared.exchanges.Exchanging.TheVariants.{WritesBack, Withdraws}
use Rattle.flit_pv.specs.Exchanges.{exchange_at}
use Rattle.flit_pv.specs.Hands.{with_persist}
use Rattle.flit_runs.specs.Workings.{Working, Idles, Loads, VLoads, Confirms, Exchanges, VExchanges, Stores, Fences, Completes, Evicts, Task, started, takes_over, leaves}
use Rattle.flit_runs.specs.Worlds.{HasSeen}
use Rattle.flit_runs.specs.Soundness.{Needs, IsNext}
use Rattle.flit_rows.specs.Taking.{HeldTake}
use Rattle.flit_rows.specs.declared.take_row.Taking.TheVariants.{Draws}
use Rattle.flit_rows.specs.Taking.{take_taken}
use Rattle.flit_crew.specs.Machines.{Machine, Works, Takes, Fresh, hand_in, part_of, machine_asks, machine_takes, working_in, has_ended, exchange_part, ToWin, HasLost, ToRead as Part_to_read, HasRead}
use Rattle.flit_crew.specs.Heaps.{Heap, heap_of, at_word, at_shadow, waits_at, stored, written, won, HaveStayed, IsOpen, IsMine, IsAhead, AreOld, AreAlike, AreResting}
use Rattle.flit_crew.specs.Anatomies.{own, deed}
use Rattle.flit_crew.specs.Crews.{Crew, Who, IsFurther, effect_of, links_of, MayBegin, IsFor, IsAlike, Facts, OwnsRows, Goes, left, IsCoherent}

-- by its Load a PLoad makes its worker depend on the version, and by that of a VLoad the worker has seen the pair
abbrev pub HasRead_so : Working → Who → ℕ → ℕ → Type 0
HasRead_so (Idles hand) you w raw = Unit {0}
HasRead_so (Loads m) you w raw = Needs you.needs w (version_of raw)
HasRead_so (VLoads m) you w raw = HasSeen you.seen w raw
HasRead_so (Confirms m) you w raw = Unit {0}
HasRead_so (Exchanges m) you w raw = Unit {0}
HasRead_so (VExchanges m) you w raw = Unit {0}
HasRead_so (Stores m) you w raw = Unit {0}
HasRead_so (Fences m) you w raw = Unit {0}
HasRead_so (Completes m) you w raw = Unit {0}
HasRead_so (Evicts m) you w raw = Unit {0}

module _ {G Op : Type 0} (c : Crew G Op) (l : Layout) (p : Place) (free : List ℕ) where
  -- a machine as one event leaves that of the operation
  abbrev pub IsAfter : Op → Machine → Type 0
  IsAfter op m = (told : ℕ) × (m ≡ machine_takes p free (c.anatomy.machine op) told)

  -- what is left of a won exchange; where it makes the call's update, that is one, and an insert links as many rows as it needs
  pub record WonSo (h : Heap G) (me you : Who) (op : Op) (m : HeldExchange) (k : Heap G) : Type 0 where
    pub kept : c.kept k
    pub later : c.later (Some me.name) h k
    pub knows : c.knows k you (c.anatomy.with_machine op (Works (Exchanges (exchange_at m WritesBack))))
    pub update : c.anatomy.effects op ≡ true → is_update_by (c.anatomy.call op) Yes ≡ true
    pub linked : c.anatomy.effects op ≡ true → is_insert (c.anatomy.call op) ≡ true → length (rows_in m.hand.spare) ≡ rows_needed l.kind

  -- a call begins by this task, which asks an event and takes over no words. Its tally may count that a search begins
  pub record StartsSo (h : Heap G) (me : Who) (hand : Hand) (op : Op) : Type 0 where
    pub task : Task
    pub now : Hand
    pub alike : IsAlike c l p free hand now
    pub may : MayBegin c l p free h me now task
    pub none : takes_over task ≡ []
    pub at : c.anatomy.machine op ≡ Works (started task now)
    pub going : has_ended p (c.anatomy.machine op) ≡ false
    pub call : c.anatomy.call op ≡ me.call
    pub is_for : IsFor c l p free h me now task op

  pub record Keeps : Type 0 where
    -- what an operation knows lasts while another one changes the heap
    pub lasts : (h k : Heap G) (who : Option ℕ) (me : Who) (op : Op) → c.kept h → c.kept k → c.later who h k → who ≢ Some me.name →
        HaveStayed l h k (own c.anatomy op) → AreOld h me.needs →
        c.knows h me op → c.knows k me op
    -- a write-back of a word that everybody may reach and that is ahead, by anybody
    pub settles : (h : Heap G) (w : ℕ) → c.kept h → IsOpen l free h w → IsAhead h w →
        (ghost : G) × c.kept (written h w ghost) × c.later None h (written h w ghost)
    -- words that nobody else may reach, and their shadows, change nothing
    pub blind : (h k : Heap G) (who : Option ℕ) → c.kept h → AreAlike l free h k → c.kept k × c.later who h k
    pub same : (h : Heap G) (who : Option ℕ) → c.later who h h
    -- an operation that was just begun asks an event, of a word or slot of the layout
    pub awake : (hand : Hand) (call : Call) → IsServed l call →
        (e : Event) × (machine_asks p (c.anatomy.machine (c.anatomy.begun hand call)) ≡ Some e) × IsWithin l e
    -- a call begins, and knows what it is to know, whatever was settled since; it has the rows of its hand and no update
    pub begins : (h : Heap G) (me : Who) (hand : Hand) → c.kept h → IsServed l me.call → me.first ≤ length h.progress.settled → me.private ≡ [] →
        c.knows h me (c.anatomy.begun hand me.call)
    pub starts : (h : Heap G) (me : Who) (hand : Hand) → c.kept h → IsServed l me.call →
        StartsSo h me (record hand { number = hand.number + 1 }) (c.anatomy.begun hand me.call)
    pub begun_own : (hand : Hand) (call : Call) → own c.anatomy (c.anatomy.begun hand call) ≡ rows_in hand.spare
    pub begun_spare : (hand : Hand) (call : Call) → (hand_in (c.anatomy.machine (c.anatomy.begun hand call))).spare ≡ hand.spare
    pub begun_deed : (hand : Hand) (call : Call) → deed c.anatomy (c.anatomy.begun hand call) ≡ Fresh
    -- the operation with its machine further on is at that machine, and is the same else
    pub put : (op : Op) (m : Machine) → IsAfter op m → c.anatomy.machine (c.anatomy.with_machine op m) ≡ m
    pub put_call : (op : Op) (m : Machine) → IsAfter op m → c.anatomy.call (c.anatomy.with_machine op m) ≡ c.anatomy.call op
    pub put_effects : (op : Op) (m : Machine) → IsAfter op m → c.anatomy.effects (c.anatomy.with_machine op m) ≡ c.anatomy.effects op
    pub put_past : (op : Op) (m : Machine) → IsAfter op m → c.anatomy.past (c.anatomy.with_machine op m) ≡ c.anatomy.past op
    pub put_reply : (op : Op) (m : Machine) → IsAfter op m → c.anatomy.reply (c.anatomy.with_machine op m) ≡ c.anatomy.reply op
    pub put_storing : (op : Op) (m : Machine) → IsAfter op m → c.anatomy.storing (c.anatomy.with_machine op m) ≡ c.anatomy.storing op
    -- what it knows lasts while it comes to depend on more and to have seen more, and as fewer words are private
    pub more : (h : Heap G) (me you : Who) (op : Op) → c.kept h → IsFurther me you → c.knows h me op → c.knows h you op
    -- what it knows doesn't hang on the rest of its machine
    pub steady : (h : Heap G) (me you : Who) (op : Op) (m : Machine) → IsAfter op m → c.kept h → IsFurther me you → part_of m ≡ part_of (c.anatomy.machine op) →
        c.knows h me op → c.knows h you (c.anatomy.with_machine op m)
    -- its machine has loaded a word that everybody may reach
    pub reads : (h : Heap G) (me you : Who) (op : Op) (m : Machine) (word raw : ℕ) → IsAfter op m → c.kept h → me.first ≤ length h.progress.settled →
        AreOld h me.needs → IsFurther me you → IsOpen l free h word → bare_of raw ≡ at_word h word →
        part_of (c.anatomy.machine op) ≡ Part_to_read word → part_of m ≡ HasRead word raw → HasRead_so (working_in m) you word raw → c.knows h me op →
        c.knows h you (c.anatomy.with_machine op m)
    -- where its machine has ended, its call goes on, with the same rows and the same update. Of the machine the facts are
    -- known: what a PrivateStore has filled, or which word is worn; and whether a TakeRow has all rows; and of its own rows
    -- where they are. Its hand has the worker's name
    pub resumes : (h : Heap G) (me : Who) (op : Op) (m : Machine) → IsAfter op m → c.kept h → IsServed l me.call → me.name ≤ l.workers →
        (leaves (working_in m)).name ≡ me.name → me.first ≤ length h.progress.settled →
        AreOld h me.needs → c.anatomy.call op ≡ me.call → has_ended p m ≡ true → Facts c l p free h me (c.anatomy.with_machine op m) m →
        OwnsRows c l p free h (c.anatomy.with_machine op m) m → c.knows h me (c.anatomy.with_machine op m) →
        Goes c l p free h (left c l p free me (working_in m)) (leaves (working_in m)) (c.anatomy.resumed op m)
    pub coherent : (h : Heap G) (me : Who) (op : Op) (m : Machine) → IsAfter op m → c.kept h → c.anatomy.call op ≡ me.call → has_ended p m ≡ true →
        OwnsRows c l p free h (c.anatomy.with_machine op m) m → c.knows h me (c.anatomy.with_machine op m) →
        IsCoherent c l p free (c.anatomy.with_machine op m) (c.anatomy.resumed op m)
    -- its exchange is won: the word was at rest, with what it was exchanged from, and nothing waits there; all that the
    -- operation depends on is persistent, nothing is private, and the rows that it links are at rest
    pub wins : (h : Heap G) (me you : Who) (op : Op) (m : HeldExchange) → c.kept h → me.first ≤ length h.progress.settled → IsFurther me you →
        c.anatomy.call op ≡ me.call → c.anatomy.machine op ≡ Works (Exchanges m) → exchange_part m.at ≡ ToWin →
        ((w v : ℕ) → Needs me.needs w v → v ≤ version_of (at_shadow h w)) → me.private ≡ [] → IsOpen l free h m.word → waits_at h m.word ≡ None →
        at_word h m.word ≡ bare_of m.from → at_shadow h m.word ≡ bare_of m.from → IsNext m → Needs you.needs m.word (version_of m.to) →
        AreResting l free h (links_of c.anatomy op) →
        c.knows h me op → (ghost : G) × WonSo h me you op m (won h m.word m.to (effect_of c.anatomy op me) (links_of c.anatomy op) ghost)
    -- its exchange is lost; nothing is private
    pub loses : (h : Heap G) (me you : Who) (op : Op) (m n : HeldExchange) (found : ℕ) → IsAfter op (Works (Exchanges n)) → c.kept h → IsFurther me you →
        c.anatomy.machine op ≡ Works (Exchanges m) → exchange_part m.at ≡ ToWin → exchange_part n.at ≡ HasLost found → me.private ≡ [] →
        c.knows h me op → c.knows h you (c.anatomy.with_machine op (Works (Exchanges n)))
    -- what its exchange wrote is written back, by itself or by anybody
    pub writes : (h : Heap G) (me you : Who) (op : Op) (m : HeldExchange) → c.kept h → IsFurther me you → c.anatomy.machine op ≡ Works (Exchanges m) →
        m.at ≡ WritesBack → m.to ≤ at_shadow h m.word →
        c.knows h me op → c.knows h you (c.anatomy.with_machine op (Works (Exchanges (record m { at = Withdraws; hand = with_persist m.hand }))))
    -- the shadows are a lawful image, with the map after the settled updates
    pub recovers : (h : Heap G) → c.kept h → IsRecoverable l h.opening.content h.shadows h.progress.settled
    -- a private word is stored, one of those that are filled, which nobody sees but its worker
    pub stores : (h : Heap G) (me you : Who) (op : Op) (m : Machine) (w to : ℕ) → IsAfter op m → c.kept h → IsFurther me you → Contains me.private w →
        IsMine l free h (own c.anatomy op) w → (c.anatomy.storing op).first ≤ w →
        w < (c.anatomy.storing op).first + length (c.anatomy.storing op).values → c.knows h me op →
        c.knows (stored h w to) you (c.anatomy.with_machine op m)
    -- it draws a row, or finds that there is none
    pub draws : (h : Heap G) (me : Who) (op : Op) (m : HeldTake) (told : ℕ) → c.kept h → c.anatomy.machine op ≡ Takes m → m.at ≡ Draws → c.knows h me op →
        c.knows h me (c.anatomy.with_machine op (Takes (take_taken free m told)))
    -- it gives its reply, and all that it depends on is persistent: a read has its position
    pub answers : (h : Heap G) (me : Who) (op : Op) (m : HeldComplete) → c.kept h → me.first ≤ length h.progress.settled → c.anatomy.call op ≡ me.call →
        c.anatomy.machine op ≡ Works (Completes m) → ((w v : ℕ) → Needs me.needs w v → v ≤ version_of (at_shadow h w)) →
        is_read_by me.call (c.anatomy.reply op) ≡ true → c.knows h me op →
        IsPlacedFrom me.first h.opening.content h.progress.settled
        (record { worker = me.name; number = me.number; call = me.call; reply = c.anatomy.reply op })

  -- a lawful opening over this pool, which the placement suits; and its first heap is kept
  pub record OpensSo (o : Opening) : Type 0 where
    pub opening : IsOpening l o
    pub accepted : Accepted l
    pub pool : free ≡ o.free
    pub slots : (word : ℕ) → word < words_of l → IsSlot p.counted l.slots (p.slot word)
    pub ghost : G
    pub kept : let M : Moment Op = first_moment l o in c.kept (heap_of M [] ghost)
