-- Each word of a layout has one of its head's slots.
use Rattle.std.proofs.Common.{◌≡◌, ℕ, ◌<◌, List, refl, sym, subst}
use Rattle.flit_words.specs.Layouts.{Accepted, words_of}
use Rattle.flit_place.specs.Tags.{IsSlot}
use Rattle.flit_hashed.specs.Slots.{slot_in_table, in_table}
use Rattle.flit_trace.specs.declared.heads.Head.{Head}
use Rattle.flit_trace.specs.declared.heads.Place.{Place}
use Rattle.flit_trace.specs.declared.heads.Place.TheVariants.{Adjacent, Hashed, Packed, Lines}
use Rattle.flit_trace.specs.Contents.{Content, slots_of}
use Rattle.flit_trace.specs.Drafts.{IsPlace}
use Rattle.flit_trace.specs.Grammar.{IsTrace}
use Rattle.flit_trace.specs.Heads.{IsRightHead}
use Rattle.flit_structures.specs.Structures.{placing_of, IsPlayable}

-- the head of a trace is right
slots_many : (bytes : List ℕ) (t : Content) → IsTrace bytes t → t.head.layout.slots ≡ slots_of t.head.place (words_of t.head.layout)
slots_many bytes t is = subst (λ (c : Content). c.head.layout.slots ≡ slots_of c.head.place (words_of c.head.layout)) (sym is.is) refl

pub head_right : (bytes : List ℕ) (t : Content) → IsTrace bytes t → Accepted t.head.layout → IsPlace t.head.place → IsRightHead t.head
head_right bytes t is accepted placed = record { accepted = accepted; place = placed; slots = slots_many bytes t is }

-- each word has a slot, or there are none
slot_within : (place : Place) (words slots : ℕ) → IsPlace place → (place ≡ Lines → ⊥) → slots ≡ slots_of place words → (word : ℕ) → word < words →
    IsSlot (placing_of place).counted slots ((placing_of place).slot word)
slot_within Adjacent words slots is playable many word below = (word, refl, subst (λ n. word < n) (sym many) below)
slot_within (Hashed n) words slots is playable many word below =
    (slot_in_table n word, refl, subst (λ k. slot_in_table n word < k) (sym many) (in_table n word is.0))
slot_within Packed words slots is playable many word below = refl
slot_within Lines words slots is playable many word below = absurd (playable refl)

pub slots_right : (h : Head) → IsRightHead h → IsPlayable h → (word : ℕ) → word < words_of h.layout →
    IsSlot (placing_of h.place).counted h.layout.slots ((placing_of h.place).slot word)
slots_right h right playable = slot_within h.place (words_of h.layout) h.layout.slots right.place playable right.slots
