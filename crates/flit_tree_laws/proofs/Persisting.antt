-- What an exchange of a call has written is written back.
use Rattle.std.proofs.Common.{◌≡◌, ℕ, List, refl, subst}
use Rattle.flit_words.specs.declared.layouts.Layout.{Layout}
use Rattle.flit_model.specs.declared.calls.Reply.{Reply}
use Rattle.flit_pv.specs.Hands.{with_persist}
use Rattle.flit_pv.specs.Exchanges.{HeldExchange}
use Rattle.flit_pv.specs.declared.exchanges.Exchanging.TheVariants.{WritesBack, Withdraws}
use Rattle.flit_runs.specs.Workings.{Exchanges}
use Rattle.flit_crew.specs.Machines.{Works, exchange_part}
use Rattle.flit_crew.specs.Crews.{Who}
use Rattle.flit_tree_heap.specs.Views.{TreeHeap}
use Rattle.flit_tree_steps.specs.declared.operations.Path.{Path}
use Rattle.flit_tree_steps.specs.declared.operations.CleanUp.{CleanUp}
use Rattle.flit_tree_steps.specs.Operations.{At, Root, Key, Edge, Rows, LeafWords, LeafValue, InnerWords, Link, Flag, Sibling, Freeze, Swing, Value, Ends, Rests}
use Rattle.flit_tree_laws.specs.Knowing.{IfTried, FlagsTo, Flagged, FreezesTo, Frozen}
use Rattle.flit_tree_laws.specs.TreeAnatomy.{machine_at, with_exchange}
use Rattle.flit_tree_laws.specs.TreeCrew.{KnowsAt}
use Rattle.flit_tree_laws.proofs.Going.{StaysSo, flagged_on, frozen_on}

module _ (l : Layout) (free : List ℕ) (h : TreeHeap) (me : Who) (reply : Reply) (path : Path) (m : HeldExchange) (stage : m.at ≡ WritesBack) where
  abbrev after : HeldExchange
  after = record m { at = Withdraws; hand = with_persist m.hand }

  stays : StaysSo m after
  stays = record { word = refl; from = refl; to = refl; spare = refl }

  same_one : (y : HeldExchange) → Works (Exchanges y) ≡ Works (Exchanges m) → y ≡ m
  same_one y e = cc

  flag_written : KnowsAt l free h me reply path (Flag m) → KnowsAt l free h me reply path (Flag after)
  flag_written g = (
    g.0,
    g.1,
    flagged_on l free h me path m after stays (subst (λ a. IfTried (FlagsTo l free h me path m) (Flagged l free h me path m) (exchange_part a)) stage g.2),
  )

  freeze_written : (c : CleanUp) → KnowsAt l free h me reply path (Freeze c m) → KnowsAt l free h me reply path (Freeze c after)
  freeze_written c g = (
    g.0,
    g.1,
    frozen_on l free h me path m after stays (subst (λ a. IfTried (FreezesTo l free h me path m) (Frozen l free h me path m) (exchange_part a)) stage g.2),
  )

  pub writes_at : (at : At) → machine_at at ≡ Works (Exchanges m) → KnowsAt l free h me reply path at →
      KnowsAt l free h me reply path (with_exchange at after)
  writes_at (Root x) e f = absurd (cc)
  writes_at (Key x) e f = absurd (cc)
  writes_at (Edge x) e f = absurd (cc)
  writes_at (Rows x) e f = absurd (cc)
  writes_at (LeafWords x) e f = absurd (cc)
  writes_at (LeafValue x) e f = absurd (cc)
  writes_at (InnerWords x) e f = absurd (cc)
  writes_at (Link x) e f = (f.0, tt, tt)
  writes_at (Flag x) e f = flag_written (subst (λ z. KnowsAt l free h me reply path (Flag z)) (same_one x e) f)
  writes_at (Sibling c x) e f = absurd (cc)
  writes_at (Freeze c x) e f = freeze_written c (subst (λ z. KnowsAt l free h me reply path (Freeze c z)) (same_one x e) f)
  writes_at (Swing c x) e f = (f.0, f.1, tt)
  writes_at (Value x) e f = absurd (cc)
  writes_at (Ends x) e f = absurd (cc)
  writes_at (Rests hand) e f = absurd (cc)
