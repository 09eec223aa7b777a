-- What the table asks of a step that makes an event, as a running structure meets it.
use Rattle.std.proofs.Common.{◌≡◌, ℕ, ◌<◌, sym, ◌∙◌, ap, subst, arith, Some}
use Rattle.atomic_table.specs.Table as table
use Rattle.atomic_table.specs.Seated.{TableId}
use Rattle.atomic_table.specs.declared.shared.Seat.{Seat}
use Rattle.flit_words.specs.declared.layouts.Layout.{Layout}
use Rattle.flit_words.specs.Layouts.{size_of}
use Rattle.flit_model.specs.declared.events.Event.{Event}
use Rattle.flit_model.specs.declared.events.Event.TheVariants.{Load, ReadTag, Raise, Lower, Exchange, Persist, Store, Draw}
use Rattle.flit_structure.specs.Meanings.{Meaning, asked_by}
use Rattle.flit_structure.specs.Lawful.{Lawful, IsWithin}
use Rattle.flit_table.specs.declared.views.Origin.{Origin}
use Rattle.flit_table.specs.declared.views.Start.{Start}
use Rattle.flit_table.specs.declared.views.View.{View}
use Rattle.flit_table.specs.Moves.{MayEnter, entering}
use Rattle.flit_table.specs.Rule.{IsRuled}
use Rattle.flit_table.specs.Places.{place_in}
use Rattle.flit_table.specs.Steps.{After, Belongs, Home, IsTableOf}
use Rattle.flit_table.proofs.Rows.{turns, told_of}
use Rattle.flit_table.proofs.TableSteps.{allows}

place_within : (l : Layout) (e : Event) → IsWithin l e → place_in l e < size_of l
place_within l (Load word) h = omega arith
place_within l (ReadTag slot) h = omega arith
place_within l (Raise slot) h = omega arith
place_within l (Lower slot) h = omega arith
place_within l (Exchange word from to) h = omega arith
place_within l (Persist word kept) h = omega arith
place_within l (Store word to) h = omega arith
place_within l Draw h = omega arith

module _ {S Op : Type 0} (meanings : S → Meaning Op) (lawful : (x : S) → Lawful (meanings x)) (key : Origin S) (id : TableId) (s : S)
    (inside : IsTableOf (meanings s).layout s key id) where
  abbrev meaning : Meaning Op
  meaning = meanings key.structure.value

  -- a step of the table for the event e at the word `at`
  abbrev pub Asked : Home S → Seat ℕ (View S Op) → Start → Event → ℕ → Type 0
  Asked home seat start e at =
      (seat.table_id ≡ id) × (at < id.words)
      × table.Allows (IsRuled meaning key) id.slots seat.id seat.me at (turns e)
      (λ n me. ((p : Origin S) → seat.me.0.origin ≡ Some p → After (meanings p.structure.value) p (entering (meanings p.structure.value) start seat.me.0)
      (told_of e n) me.0) × (me.1 ≡ seat.me.1))

  -- what the pass knows of it
  pub record MayStep (home : Home S) (seat : Seat ℕ (View S Op)) (start : Start) (event : Event) : Type 0 where
    pub belongs : Belongs home seat
    pub may : MayEnter (meanings home.origin.structure.value) start seat.me.0.post
    pub asked : asked_by (meanings home.origin.structure.value) (entering (meanings home.origin.structure.value) start seat.me.0).post.worker ≡ Some event
    pub within : IsWithin (meanings home.origin.structure.value).layout event

  asked_here : (seat : Seat ℕ (View S Op)) (start : Start) (e : Event) (at : ℕ) →
      MayStep (record { origin = key; table_id = id }) seat start e → at ≡ place_in meaning.layout e →
      Asked (record { origin = key; table_id = id }) seat start e at
  asked_here seat start e at h place =
      let l = meaning.layout in
      let words : id.words ≡ size_of l = inside.words ∙ ap (λ x. size_of (meanings x).layout) (sym inside.structure) in
      let short : place_in l e < id.words = subst (λ n. place_in l e < n) (sym words) (place_within l e h.within) in
      subst (λ n. Asked (record { origin = key; table_id = id }) seat start e n) (sym place)
      (h.belongs.table, short, allows meanings lawful key id.slots seat.id seat.me.0 seat.me.1 start e h.belongs.origin h.belongs.names h.may h.asked)

  pub asked_step : (home : Home S) → record { origin = key; table_id = id } ≡ home → (seat : Seat ℕ (View S Op)) (start : Start) (event e : Event) (at : ℕ) →
      event ≡ e → MayStep home seat start event → at ≡ place_in (meanings s).layout e →
      Asked home seat start e at
  asked_step home is seat start event e at same h place =
      subst (λ (x : Home S). MayStep x seat start e → Asked x seat start e at) is
      (λ k. asked_here seat start e at k (place ∙ ap (λ r. place_in (meanings r).layout e) (sym inside.structure)))
      (subst (MayStep home seat start) same h)
