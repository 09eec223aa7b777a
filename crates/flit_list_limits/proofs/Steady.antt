-- Loads and confirmations leave the words as they are; and an exchange from a link that was loaded just now would win.
use Rattle.std.proofs.Common.{◌≡◌, ℕ, ◌+◌, ◌==◌, ◌≤◌, ◌&&◌, Bool, true, false, List, [], ◌∷◌, length, length-append, Option, Some, None, is_none, slice_index, refl, ap, subst, arith, if◌then◌else◌}
use Rattle.std.proofs.lemmas.Bool.{eq-eqb}
use Rattle.std.proofs.lemmas.Option.{none-some, same_Some}
use Rattle.flit_words.specs.Words.{is_tagged, bare_of}
use Rattle.flit_model.specs.States.{State}
use Rattle.flit_model.specs.Effects.{after, answer}
use Rattle.flit_model.specs.declared.events.Event.{Event}
use Rattle.flit_model.specs.declared.events.Event.TheVariants.{Load, ReadTag}
use Rattle.flit_place.specs.Tags.{Place, shown}
use Rattle.flit_pv.specs.declared.queues.Noted.{Noted}
use Rattle.flit_pv.specs.Queues.{is_full, noted, first_persist, persist_of}
use Rattle.flit_pv.specs.Hands.{with_queued, with_omitted}
use Rattle.flit_pv.specs.declared.confirms.Confirming.{Confirming}
use Rattle.flit_pv.specs.declared.confirms.Confirming.TheVariants.{Begins, MakesRoom, Done}
use Rattle.flit_pv.specs.Confirms.{HeldConfirm, confirm_begins, confirm_asks, confirm_leaves, confirm_left}
use Rattle.flit_crew_bounds.specs.Left.{confirm_left as confirm_steps}
use Rattle.flit_crew_bounds.specs.Winning.{would_win}

-- ---- loads

pub load_words : (s : State) (e : Event) (word : ℕ) → Some (Load word) ≡ Some e → (after s e).words ≡ s.words
load_words s e word q = subst (λ y. (after s y).words ≡ s.words) (same_Some (Load word) e q) refl

pub load_told : (s : State) (e : Event) (word : ℕ) → Some (Load word) ≡ Some e → slice_index s.words word ≡ answer s e
load_told s e word q = ap (answer s) (same_Some (Load word) e q)

-- ---- confirmations

persist_words : (s : State) (e : Event) (queue : List Noted) → first_persist queue ≡ Some e → (after s e).words ≡ s.words
persist_words s e [] q = absurd (none-some e q)
persist_words s e (n ∷ ns) q = subst (λ y. (after s y).words ≡ s.words) (same_Some (persist_of n) e q) refl

room_words : (s : State) (e : Event) (queue : List Noted) (b : Bool) → (if b then first_persist queue else None) ≡ Some e → (after s e).words ≡ s.words
room_words s e queue true q = persist_words s e queue q
room_words s e queue false q = absurd (none-some e q)

begins_words : (p : Place) (s : State) (e : Event) (m : HeldConfirm) (slot : Option ℕ) → confirm_begins p m slot ≡ Some e → (after s e).words ≡ s.words
begins_words p s e m None q = room_words s e m.hand.queue (shown p.counted m.raw None && is_full m.hand.queue) q
begins_words p s e m (Some slot) q = subst (λ y. (after s y).words ≡ s.words) (same_Some (ReadTag slot) e q) refl

pub confirm_words : (p : Place) (s : State) (e : Event) (m : HeldConfirm) (at : Confirming) → confirm_asks p at m ≡ Some e → (after s e).words ≡ s.words
confirm_words p s e m Begins q = begins_words p s e m (p.slot m.word) q
confirm_words p s e m (MakesRoom first) q = subst (λ y. (after s y).words ≡ s.words) (same_Some (persist_of first) e q) refl
confirm_words p s e m Done q = absurd (none-some e q)

-- what a confirmation leaves is queued within what it had to go
left_at : (m : HeldConfirm) (at : Confirming) → length (confirm_leaves at m).queue ≤ confirm_steps at + length m.hand.queue
left_at m Begins = by_tag (is_tagged m.raw)
  where
    by_tag : (b : Bool) → length (if b then with_queued m.hand m.word m.raw else with_omitted m.hand).queue ≤ 2 + length m.hand.queue
    by_tag true = omega (arith, length-append m.hand.queue (noted m.word (bare_of m.raw) ∷ []))
    by_tag false = omega arith
left_at m (MakesRoom first) = omega arith
left_at m Done = omega arith

pub left_within : (m : HeldConfirm) → length (confirm_left m).queue ≤ confirm_steps m.at + length m.hand.queue
left_within m = left_at m m.at
