-- The shadows of a heap that is kept: they have the map of the settled updates.
use Rattle.std.proofs.Common.{◌≡◌, ℕ, List, refl, sym, ap, arith}
use Rattle.std.specs.FinMap as fin
use Rattle.std.specs.FinMap.{same_map, nat_cmp-IsAntisymmetric}
use Rattle.std.specs.Cmp.{nat_cmp_total}
use Rattle.flit_words.specs.declared.layouts.Layout.{Layout}
use Rattle.flit_words.specs.Words.{version_of}
use Rattle.flit_model.specs.Trees.{Tree, IsLawfulTree, tree_map}
use Rattle.flit_model.specs.Images.{Grown, free_rows}
use Rattle.flit_structure.specs.Lawful.{IsRecoverable}
use Rattle.flit_crew.specs.Heaps.{at_word, at_shadow, IsAhead}
use Rattle.flit_tree_heap.specs.Views.{TreeHeap, settled_map}
use Rattle.flit_tree_heap.specs.Kept.{IsKept}
use Rattle.flit_tree_heap.proofs.Viewing.{shadows_view}

-- a word that is ahead isn't its shadow
pub ahead_apart : (h : TreeHeap) (w : ℕ) → IsAhead h w → at_shadow h w ≡ at_word h w → ⊥
ahead_apart h w a e = omega (arith, a, ap version_of e)

-- no update is taken by the shadows
pub shadows_get : (l : Layout) (free : List ℕ) (h : TreeHeap) → IsKept l free h → (key : ℕ) (t : Tree) → IsLawfulTree l h.shadows t →
    fin.get (tree_map l h.shadows t) key ≡ fin.get (settled_map h) key
shadows_get l free h K key t m = (K.maps h.shadows t (shadows_view l free h K) m).others key (λ w d b x. absurd (ahead_apart h w (K.waits w d b).ahead x))

pub recovers : (l : Layout) (free : List ℕ) (h : TreeHeap) → IsKept l free h → IsRecoverable l h.opening.content h.shadows h.progress.settled
recovers l free h K =
    let i = K.images h.shadows (shadows_view l free h K) in
    record {
      legal = K.settled;
      content = (
        free_rows l (Grown i.0),
        record {
          shape = Grown i.0;
          lawful = (K.layout.kind, i.1);
          map = same_map nat_cmp_total nat_cmp-IsAntisymmetric (settled_map h) (tree_map l h.shadows i.0) (λ q. sym (shadows_get l free h K q i.0 i.1));
          free_rows = refl;
        },
      );
    }
