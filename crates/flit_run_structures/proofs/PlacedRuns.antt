-- The works of a trace can be run over its placement, on the structure that was made for its kind.
use Rattle.std.proofs.Common.{◌≡◌, ℕ, ◌≤◌, List, sym, ◌∙◌, subst}
use Rattle.flit_words.specs.declared.layouts.Kind.{Kind}
use Rattle.flit_words.specs.declared.layouts.Kind.TheVariants.{List as List_kind, Hash, Tree}
use Rattle.flit_words.specs.declared.layouts.Layout.{Layout}
use Rattle.flit_model.specs.declared.found.Recovered.{Recovered}
use Rattle.flit_place.specs.Tags.{Place}
use Rattle.flit_structure.specs.Meanings.{Meaning}
use Rattle.flit_table.specs.Views.{opening_at}
use Rattle.flit_trace.specs.Drafts.{IsPlace}
use Rattle.flit_trace.specs.SeenTraces.{SeenTrace}
use Rattle.flit_trace.specs.declared.heads.Head.{Head}
use Rattle.flit_trace.specs.declared.heads.Place.TheVariants.{Hashed}
use Rattle.flit_list_structure.specs.ListStructure.{lists}
use Rattle.flit_tree_structure.specs.TreeStructure.{trees}
use Rattle.flit_run_runs.specs.Plays.{CanRun}
use Rattle.flit_structures.specs.Openings.{HeadsOpen}
use Rattle.flit_structures.specs.Structures.{placing_of, structure_of, structure_in, IsPlayable}
use Rattle.flit_run_structures.specs.Runs.{TracesRun, RunsSeen}
use Rattle.flit_run_structures.specs.Sources.{IsTakenFrom, IsOutset, RunsSource}
use Rattle.flit_run_structures.specs.declared.sources.Outset.{Outset}
use Rattle.flit_run_structures.specs.declared.sources.Source.{Source}

-- how many slots a hashed place has
pub some_slots : (o : Outset) → IsOutset o → (n : ℕ) → o.head.place ≡ Hashed n → 1 ≤ n
some_slots o out n is = let hashed : IsPlace (Hashed n) = subst IsPlace is out.right.place in hashed.0

-- the structure of the head at the outset opens there, and has the works of whatever trace is taken from the source
module _ (o : Outset) (out : IsOutset o) (p : Place) (placed : placing_of o.head.place ≡ p) where
  runs_taken : TracesRun → (trace : SeenTrace) → IsTakenFrom o.source trace →
      RunsSeen (structure_of o.head.layout p o.head.layout.kind o.start.free.items).meaning o.start trace
  runs_taken runs trace taken bytes t is shows =
      let same : t.head ≡ o.head = sym shows.head ∙ out.heads trace taken in
      let here : CanRun (structure_in o.head o.start.free.items).meaning o.start t =
      subst (λ (h : Head). CanRun (structure_in h o.start.free.items).meaning o.start t) same
      (runs bytes t o.start is (subst IsPlayable (sym same) out.playable) (out.starts trace taken bytes t is shows)) in
      subst (λ x. CanRun (structure_of o.head.layout x o.head.layout.kind o.start.free.items).meaning o.start t) placed here

  pub runs_source : HeadsOpen → TracesRun → RunsSource (structure_of o.head.layout p o.head.layout.kind o.start.free.items).meaning o.start o.source
  runs_source opens runs = record {
    bytes = out.bytes;
    of = out.of;
    opens = subst (λ x. (structure_of o.head.layout x o.head.layout.kind o.start.free.items).meaning.opens (opening_at o.start)) placed
        (opens o.head o.start out.right out.playable out.recovery);
    starts = out.starts;
    runs = runs_taken runs;
  }

-- A structure that opens at a source's start and on which its works can be run over a placement, of a kind: the same is so of the
-- structure that was made of these.
module _ (start : Recovered) (source : Source) (l m : Layout) (p q : Place) (free rows : List ℕ) where
  same_at : {Op : Type 0} (made : Layout → Place → List ℕ → Meaning Op) → m ≡ l → q ≡ p → rows ≡ free → RunsSource (made l p free) start source →
      RunsSource (made m q rows) start source
  same_at made layout place pool runs =
      subst (λ x. RunsSource (made m q x) start source) (sym pool)
      (subst (λ x. RunsSource (made m x free) start source) (sym place) (subst (λ x. RunsSource (made x p free) start source) (sym layout) runs))

  pub on_list : (kind : Kind) → kind ≡ List_kind → m ≡ l → q ≡ p → rows ≡ free → RunsSource (structure_of l p kind free).meaning start source →
      RunsSource (lists m q rows) start source
  on_list kind is layout place pool runs =
      same_at lists layout place pool (subst (λ k. RunsSource (structure_of l p k free).meaning start source) is runs)

  pub on_hash : (kind : Kind) → kind ≡ Hash → m ≡ l → q ≡ p → rows ≡ free → RunsSource (structure_of l p kind free).meaning start source →
      RunsSource (lists m q rows) start source
  on_hash kind is layout place pool runs =
      same_at lists layout place pool (subst (λ k. RunsSource (structure_of l p k free).meaning start source) is runs)

  pub on_tree : (kind : Kind) → kind ≡ Tree → m ≡ l → q ≡ p → rows ≡ free → RunsSource (structure_of l p kind free).meaning start source →
      RunsSource (trees m q rows) start source
  on_tree kind is layout place pool runs =
      same_at trees layout place pool (subst (λ k. RunsSource (structure_of l p k free).meaning start source) is runs)
