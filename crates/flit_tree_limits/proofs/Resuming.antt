-- A call's seek goes on from its ended load: the next machine, and all that may follow it, are within what might follow.
use Rattle.std.proofs.Common.{◌≡◌, ℕ, ◌+◌, ◌==◌, ◌≤◌, ◌&&◌, Bool, true, false, List, [], ◌∷◌, length, Option, Some, None, is_none, slice_index, refl, sym, ◌∙◌, ap, subst, if◌then◌else◌}
use Rattle.std.proofs.lemmas.Bool.{false≢true, eq-eqb}
use Rattle.std.proofs.lemmas.Option.{none-some, same_Some}
use Rattle.flit_words.specs.declared.layouts.Layout.{Layout}
use Rattle.flit_words.specs.Words.{is_tagged, bare_of}
use Rattle.flit_model.specs.States.{State}
use Rattle.flit_model.specs.Effects.{after, answer}
use Rattle.flit_model.specs.declared.events.Event.{Event}
use Rattle.flit_model.specs.declared.events.Event.TheVariants.{Load, ReadTag}
use Rattle.flit_model.specs.declared.calls.Call.{Call}
use Rattle.flit_model.specs.declared.calls.Reply.{Reply}
use Rattle.flit_place.specs.Tags.{Place, shown}
use Rattle.flit_pv.specs.declared.hands.Hand.{Hand}
use Rattle.flit_pv.specs.declared.queues.Noted.{Noted}
use Rattle.flit_pv.specs.Queues.{is_full, persist_of}
use Rattle.flit_pv.specs.Hands.{with_persist}
use Rattle.flit_pv.specs.Loads.{HeldLoad, load_asks, load_asked, load_taken, load_takes, load_reads, load_notes, load_room, load_queues, load_omits}
use Rattle.flit_pv.specs.declared.loads.Loading.{Loading}
use Rattle.flit_pv.specs.declared.loads.Loading.TheVariants.{Reads, Asks, MakesRoom, Has}
use Rattle.flit_runs.specs.Workings.{Loads}
use Rattle.flit_crew.specs.Machines.{Machine, Works, Part, ToRead, HasRead, machine_takes, has_ended, load_part}
use Rattle.flit_crew.specs.Crews.{Who}
use Rattle.flit_crew_bounds.specs.Left.{machine_left}
use Rattle.flit_crew_bounds.specs.Winning.{would_win}
use Rattle.flit_crew_bounds.specs.Bounding.{OwnEvent}
use Rattle.flit_tree_heap.specs.Views.{TreeHeap}
use Rattle.flit_tree_steps.specs.declared.operations.Path.{Path}
use Rattle.flit_tree_steps.specs.Operations.{At, HeldOp}
use Rattle.flit_tree_steps.specs.Steps.{Carried, stands}
use Rattle.flit_tree_laws.specs.TreeAnatomy.{machine_at, resumed}
use Rattle.flit_tree_laws.specs.TreeCrew.{tree_crew}
use Rattle.flit_tree_limits.specs.TreeLimits.{tree_behind}
use Rattle.flit_tree_limits.proofs.Starting.{total, and_first}

-- ---- loads

pub load_words : (s : State) (e : Event) (m : HeldLoad) (x : Loading) → load_asks x m ≡ Some e → (after s e).words ≡ s.words
load_words s e m Reads q = subst (λ y. (after s y).words ≡ s.words) (same_Some (Load m.word) e q) refl
load_words s e m (Asks raw slot) q = subst (λ y. (after s y).words ≡ s.words) (same_Some (ReadTag slot) e q) refl
load_words s e m (MakesRoom raw first) q = subst (λ y. (after s y).words ≡ s.words) (same_Some (persist_of first) e q) refl
load_words s e m (Has raw) q = absurd (none-some e q)

-- what a load that has ended had read before: nothing, and then its word says so now; or just that
pub data WasRead (words : List ℕ) (word raw : ℕ) : Part → Type 0 where
  just_now : slice_index words word ≡ raw → WasRead words word raw (ToRead word)
  before : WasRead words word raw (HasRead word raw)

-- a load goes on with the same word, and where it has read, with what it has read
pub record LoadedSo (word raw : ℕ) (n : HeldLoad) : Type 0 where
  pub same_word : n.word ≡ word
  pub same_part : load_part n.at n.word ≡ HasRead word raw

module _ (p : Place) where
  pub room_so : (m : HeldLoad) (raw : ℕ) (queue : List Noted) → LoadedSo m.word raw (load_room m raw queue)
  room_so m raw [] = record { same_word = refl; same_part = refl }
  room_so m raw (n ∷ ns) = record { same_word = refl; same_part = refl }

  notes_so : (m : HeldLoad) (raw : ℕ) (b : Bool) → LoadedSo m.word raw (if b then load_room m raw m.hand.queue else load_queues m raw)
  notes_so m raw true = room_so m raw m.hand.queue
  notes_so m raw false = record { same_word = refl; same_part = refl }

  pub judges_so : (m : HeldLoad) (raw : ℕ) (b : Bool) → LoadedSo m.word raw (if b then load_notes m raw else load_omits m raw)
  judges_so m raw true = notes_so m raw (is_full m.hand.queue)
  judges_so m raw false = record { same_word = refl; same_part = refl }

  pub reads_so : (m : HeldLoad) (raw : ℕ) (slot : Option ℕ) → LoadedSo m.word raw (load_reads p m raw slot)
  reads_so m raw None = judges_so m raw (shown p.counted raw None)
  reads_so m raw (Some slot) = record { same_word = refl; same_part = refl }

  -- one that has ended with this had read nothing, or this
  pub was_read : (s : State) (e : Event) (m : HeldLoad) (x : Loading) (raw : ℕ) → load_asks x m ≡ Some e →
      load_part (load_takes p x m (answer s e)).at (load_takes p x m (answer s e)).word ≡ HasRead m.word raw →
      WasRead s.words m.word raw (load_part x m.word)
  was_read s e m Reads raw q is =
      just_now (ap (answer s) (same_Some (Load m.word) e q) ∙ same_raw (answer s e) raw (sym (reads_so m (answer s e) (p.slot m.word)).same_part ∙ is))
    where
      same_raw : (a b : ℕ) → HasRead m.word a ≡ HasRead m.word b → a ≡ b
      same_raw a b q = cc
  was_read s e m (Asks got slot) raw q is = by_raw (same_raw got raw (sym (judges_so m got (shown p.counted got (Some (answer s e)))).same_part ∙ is))
    where
      same_raw : (a b : ℕ) → HasRead m.word a ≡ HasRead m.word b → a ≡ b
      same_raw a b q = cc

      by_raw : got ≡ raw → WasRead s.words m.word raw (HasRead m.word got)
      by_raw e = subst (λ x. WasRead s.words m.word raw (HasRead m.word x)) (sym e) before
  was_read s e m (MakesRoom got first) raw q is =
      by_raw (same_raw got raw (sym (room_so (record m { hand = with_persist m.hand }) got m.hand.queue).same_part ∙ is))
    where
      same_raw : (a b : ℕ) → HasRead m.word a ≡ HasRead m.word b → a ≡ b
      same_raw a b q = cc

      by_raw : got ≡ raw → WasRead s.words m.word raw (HasRead m.word got)
      by_raw e = subst (λ x. WasRead s.words m.word raw (HasRead m.word x)) (sym e) before
  was_read s e m (Has got) raw q is = absurd (none-some e q)

  -- its word stays
  pub same_word : (m : HeldLoad) (x : Loading) (told : ℕ) → (load_takes p x m told).word ≡ m.word
  same_word m Reads told = (reads_so m told (p.slot m.word)).same_word
  same_word m (Asks raw slot) told = (judges_so m raw (shown p.counted raw (Some told))).same_word
  same_word m (MakesRoom raw first) told = (room_so (record m { hand = with_persist m.hand }) raw m.hand.queue).same_word
  same_word m (Has raw) told = refl

-- one that asks nothing more has its word
has_at : (n : HeldLoad) (x : Loading) → n.at ≡ x → is_none (load_asks x n) ≡ true → (raw : ℕ) × (n.at ≡ Has raw)
has_at n Reads is none = absurd (false≢true none)
has_at n (Asks raw slot) is none = absurd (false≢true none)
has_at n (MakesRoom raw first) is none = absurd (false≢true none)
has_at n (Has raw) is none = (raw, is)

module _ (l : Layout) (p : Place) (free : List ℕ) (s : State) (e : Event) (h k : TreeHeap) (me you : Who) (call : Call) (reply : Reply) (path : Path) where
  abbrev pub on : Carried
  on = record { call = call; reply = reply; path = path }

  abbrev pub op_at : At → HeldOp
  op_at at = stands on at

  abbrev pub told : ℕ
  told = answer s e

  abbrev pub words_then : List ℕ
  words_then = (after s e).words

  abbrev pub m_at : At → Machine
  m_at at = machine_takes p free (machine_at at) told

  abbrev pub next_at : At → HeldOp
  next_at at = resumed l free (op_at at) (m_at at)

  abbrev pub Own : At → Type 0
  Own at = OwnEvent (tree_crew l p free) l p free s e h k me you (op_at at)

  -- an operation and all that may follow it, behind its ended machine
  abbrev pub GoesOn : List ℕ → At → ℕ → HeldOp → Type 0
  GoesOn words at left next = total l p free words next ≤ left + tree_behind l p s.words (op_at at)

  -- the next machine and all that may follow it
  abbrev pub Resumes : At → Type 0
  Resumes at = machine_left (machine_at (next_at at).at) + tree_behind l p words_then (next_at at)
      ≤ machine_left (m_at at) + tree_behind l p s.words (op_at at)

  -- a load of this word ends with this; it was told this, or had read it before
  pub load_ends : (at : At) (m : HeldLoad) (then_op : HeldLoad → Loading → HeldOp) → load_asked m ≡ Some e →
      has_ended p (Works (Loads (load_taken p m told))) ≡ true →
      ((hand : Hand) (raw : ℕ) → WasRead s.words m.word raw (load_part m.at m.word) →
      GoesOn s.words at (0 + length hand.queue) (then_op (record { hand = hand; word = m.word; at = Has raw }) (Has raw))) →
      GoesOn words_then at (machine_left (Works (Loads (load_taken p m told)))) (then_op (load_taken p m told) (load_taken p m told).at)
  load_ends at m then_op asked ended goes =
      let n : HeldLoad = load_taken p m told in
      let has = has_at n n.at refl (and_first (is_none (load_asked n)) true ended) in
      let word_is : n.word ≡ m.word = same_word p m m.at told in
      let part_is : load_part n.at n.word ≡ HasRead m.word has.0 = ap (λ x. load_part x n.word) has.1 ∙ ap (λ w. HasRead w has.0) word_is in
      let is : record { hand = n.hand; word = m.word; at = Has has.0 } ≡ n =
      ap (λ w. record { hand = n.hand; word = w; at = Has has.0 }) (sym word_is) ∙ ap (λ x. record { hand = n.hand; word = n.word; at = x }) (sym has.1) in
      subst (λ ws. GoesOn ws at (machine_left (Works (Loads n))) (then_op n n.at)) (sym (load_words s e m m.at asked))
      (subst (λ x. GoesOn s.words at (machine_left (Works (Loads x))) (then_op x x.at)) is
      (goes n.hand has.0 (was_read p s e m m.at has.0 asked part_is)))
