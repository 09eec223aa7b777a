-- Where a search stands is known as well where more is depended on.
use Rattle.std.proofs.Common.{ℕ, List, [], ◌∷◌, Option, Some, None, inl, inr}
use Rattle.flit_words.specs.declared.layouts.Layout.{Layout}
use Rattle.flit_words.specs.Words.{version_of}
use Rattle.flit_runs.specs.Workings.{Dependency}
use Rattle.flit_runs.specs.Soundness.{Needs}
use Rattle.flit_crew.specs.Heaps.{at_word}
use Rattle.flit_tree_heap.specs.Edges.{row_of}
use Rattle.flit_tree_heap.specs.Views.{TreeHeap, IsLed}
use Rattle.flit_tree_heap.specs.Exchanges.{side_now, IsTrail}
use Rattle.flit_tree_heap.specs.Searches.{HasLoaded, value_now}
use Rattle.flit_tree_knowing.specs.Positions.{Saw, Tells}
use Rattle.flit_tree_knowing.specs.Spots.{IsSpot, IsWay, IsTopOrWay, Reached}

module _ (l : Layout) (free : List ℕ) (h : TreeHeap) (needs more : List Dependency) (grows : (w v : ℕ) → Needs needs w v → Needs more w v) (key : ℕ) where
  pub led_more : (row : ℕ) → IsLed l free h needs key row → IsLed l free h more key row
  led_more row led image t v takes lawful = led image t v (λ w o n. takes w o (grows w (version_of (at_word h w)) n)) lawful

  pub loaded_more : (edge q : ℕ) → HasLoaded l h needs edge q → HasLoaded l h more edge q
  loaded_more edge q x = record { at = x.at; past = x.past; needed = grows edge (version_of q) x.needed; linked = x.linked }

  abbrev pub spot_more : (edge x : ℕ) → IsSpot l free h needs key edge x → IsSpot l free h more key edge x
  spot_more edge x s =
      record { row = s.row; linked = s.linked; inner = s.inner; side = s.side; led = led_more s.row s.led; loaded = loaded_more edge x s.loaded }

  trail_needs : (row : ℕ) (rows : List ℕ) (end : ℕ) → IsTrail l h needs key row rows end → IsTrail l h more key row rows end
  trail_needs row [] end t = t
  trail_needs row (next ∷ rows) end t = (
    t.0,
    t.1,
    t.2,
    t.3,
    grows (side_now l h key row) (version_of (at_word h (side_now l h key row))) t.4,
    trail_needs next rows end t.5,
  )

  pub way_more : (edge x end : ℕ) → IsWay l free h needs key edge x end → IsWay l free h more key edge x end
  way_more edge x end w = record { spot = spot_more edge x w.spot; plain = w.plain; rows = w.rows; trail = trail_needs (row_of x) w.rows end w.trail }

  pub top_more : (ancestor a edge x row : ℕ) → IsTopOrWay l free h needs key ancestor a edge x row → IsTopOrWay l free h more key ancestor a edge x row
  top_more ancestor a edge x row t = elim t [ inl y ↦ inl y | inr w ↦ inr (way_more ancestor a row w) ]

  pub saw_more : (first : ℕ) (o : Option ℕ) → Saw h needs first key o → Saw h more first key o
  saw_more first o s = elim s [
    | inl x ↦ inl x
    | inr x ↦ inr (
      x.0,
      x.1,
      record {
        word = x.2.word;
        entry = x.2.entry;
        waits = x.2.waits;
        needed = grows x.2.word (version_of (at_word h x.2.word)) x.2.needed;
        call = x.2.call;
      },
    )
  ]

  pub tells_more : (first leaf : ℕ) → Tells l h needs first key leaf → Tells l h more first key leaf
  tells_more first leaf t = record {
    absent = λ n. saw_more first None (t.absent n);
    present = λ e. saw_more first (Some (value_now l h leaf)) (t.present e);
  }

  pub reached_more : (first x : ℕ) → Reached l free h needs first key x → Reached l free h more first key x
  reached_more first x r = elim r [
    | inl f ↦ inl (f.0, λ p. tells_more first (row_of x) (f.1 p))
    | inr f ↦ inr (f.0, led_more (row_of x) f.1)
  ]
