-- The structure that a head names opens at what recovery finds, and a trace with this head starts there.
use Rattle.std.proofs.Common.{◌≡◌, ℕ, ◌<◌, List, length, refl, sym, subst}
use Rattle.flit_words.specs.declared.layouts.Kind.{Kind}
use Rattle.flit_words.specs.declared.layouts.Kind.TheVariants.{List as List_kind, Hash, Tree}
use Rattle.flit_words.specs.declared.layouts.Layout.{Layout}
use Rattle.flit_words.specs.Layouts.{words_of}
use Rattle.flit_model.specs.declared.calls.Work.{Work}
use Rattle.flit_model.specs.declared.found.Recovered.{Recovered}
use Rattle.flit_model.specs.Recovery.{SameShape}
use Rattle.flit_place.specs.Tags.{Place, IsSlot}
use Rattle.flit_structure.specs.Lawful.{IsOpening}
use Rattle.flit_sched.specs.Openings.{opening_at, IsBookOf, AreRight}
use Rattle.flit_histories.specs.Reached.{IsStart}
use Rattle.flit_structures.specs.Structures.{structure_of}

-- a structure of each kind opens
pub opens : (kind : Kind) (l : Layout) (p : Place) (start : Recovered) → IsOpening l (opening_at start) →
    ((word : ℕ) → word < words_of l → IsSlot p.counted l.slots (p.slot word)) → (structure_of l p kind start.free.items).meaning.opens (opening_at start)
opens List_kind l p start opening slots = record { lawful = opening; pool = refl; slots = slots }
opens Hash l p start opening slots = record { lawful = opening; pool = refl; slots = slots }
opens Tree l p start opening slots = record { lawful = opening; pool = refl; slots = slots }

-- it has the words of its layout
pub shape : (kind : Kind) (l : Layout) (p : Place) (free : List ℕ) → SameShape l (structure_of l p kind free).meaning.layout
shape List_kind l p free = record { kind = refl; buckets = refl; rows = refl; values = refl }
shape Hash l p free = record { kind = refl; buckets = refl; rows = refl; values = refl }
shape Tree l p free = record { kind = refl; buckets = refl; rows = refl; values = refl }

-- it is of its layout, over these rows
pub layout_is : (kind : Kind) (l : Layout) (p : Place) (free : List ℕ) → (structure_of l p kind free).meaning.layout ≡ l
layout_is List_kind l p free = refl
layout_is Hash l p free = refl
layout_is Tree l p free = refl

pub room_is : (kind : Kind) (l : Layout) (p : Place) (free : List ℕ) → (structure_of l p kind free).meaning.room ≡ length free
room_is List_kind l p free = refl
room_is Hash l p free = refl
room_is Tree l p free = refl

-- where it opens, works that are right for the layout may start
pub starts : (kind : Kind) (l : Layout) (p : Place) (start : Recovered) (works : List Work) →
    (structure_of l p kind start.free.items).meaning.opens (opening_at start) → IsBookOf start → AreRight l works →
    IsStart (structure_of l p kind start.free.items).meaning start works
starts kind l p start works opening book right = record {
  opens = opening;
  found = book;
  right = subst (λ m. AreRight m works) (sym (layout_is kind l p start.free.items)) right;
}
