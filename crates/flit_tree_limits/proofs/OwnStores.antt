-- A store of a call's own row leaves each word of a linked row: so too the edge behind which the key belongs, and what the
-- edges lead to.
use Rattle.std.proofs.Common.{◌≡◌, ◌≢◌, ℕ, suc, ◌+◌, ◌==◌, ◌<◌, ◌≤◌, Bool, true, false, List, [], ◌∷◌, length, refl, sym, ◌∙◌, ap, subst, arith}
use Rattle.std.proofs.lemmas.Bool.{eqb-true, eqb-false}
use Rattle.std.specs.List.{AllByRecursion}
use Rattle.flit_words.specs.declared.layouts.Layout.{Layout}
use Rattle.flit_model.specs.States.{State, word_at}
use Rattle.flit_model.specs.Effects.{after}
use Rattle.flit_model.specs.declared.events.Event.{Event}
use Rattle.flit_model.specs.declared.calls.Call.{Call}
use Rattle.flit_model.specs.declared.calls.Reply.{Reply}
use Rattle.flit_place.specs.Tags.{Place}
use Rattle.flit_pv.specs.declared.stores.Storing.{Storing}
use Rattle.flit_pv.specs.declared.stores.Storing.TheVariants.{Reads, MakesRoom, Writes, Ended}
use Rattle.flit_pv.specs.Stores.{HeldStore}
use Rattle.flit_runs.specs.Workings.{words_from}
use Rattle.flit_crew.specs.Heaps.{IsOpen, IsWordOf}
use Rattle.flit_crew.specs.Fillings.{Filling, FillsAt, IsOfRows}
use Rattle.flit_crew.specs.Anatomies.{own}
use Rattle.flit_crew.specs.Crews.{Who}
use Rattle.flit_crew.proofs.Filling.{stored_within}
use Rattle.flit_crew_bounds.proofs.Turning.{IsApart, store_elsewhere}
use Rattle.flit_tree_heap.specs.Edges.{left, right, row_of}
use Rattle.flit_tree_heap.specs.Views.{TreeHeap}
use Rattle.flit_tree_heap.proofs.Rows.{edge_open, left_open, right_open}
use Rattle.flit_tree_steps.specs.declared.operations.Path.{Path}
use Rattle.flit_tree_steps.specs.Operations.{At, LeafWords, LeafValue, InnerWords}
use Rattle.flit_tree_laws.specs.Knowing.{HasPlace}
use Rattle.flit_tree_laws.specs.TreeAnatomy.{tree_anatomy, storing_at}
use Rattle.flit_tree_limits.specs.TreeLimits.{all_inners}
use Rattle.flit_tree_limits.proofs.TreeWords.{inners_kept, row_same}
use Rattle.flit_tree_limits.proofs.Resuming.{op_at, Own}

-- a fact of all words of a filling is one of each
word_among : (P : ℕ → Type 0) (first : ℕ) (values : List ℕ) (w : ℕ) → AllByRecursion P (words_from first values) → first ≤ w → w < first + length values → P w
word_among P first [] w all least most = absurd (none first w least most)
  where
    none : (f w : ℕ) → f ≤ w → w < f + 0 → ⊥
    none f w i j = omega (arith, i, j)
word_among P first (v ∷ vs) w all least most = by_first (first == w) refl (λ more less. word_among P (first + 1) vs w all.1 more less)
  where
    further : (f w : ℕ) → f ≢ w → f ≤ w → f + 1 ≤ w
    further f w ne i = omega (arith, ne, i)

    below : (f w n : ℕ) → w < f + suc n → w < f + 1 + n
    below f w n i = omega (arith, i)

    by_first : (b : Bool) → (first == w) ≡ b → (first + 1 ≤ w → w < first + 1 + length vs → P w) → P w
    by_first true q rest = subst P (eqb-true first w q) all.0
    by_first false q rest = rest (further first w (eqb-false first w q) least) (below first w (length vs) most)

module _ (l : Layout) (p : Place) (free : List ℕ) (s : State) (e : Event) (h k : TreeHeap) (me you : Who) (call : Call) (reply : Reply) (path : Path) where
  abbrev rows_of : At → List ℕ
  rows_of at = own (tree_anatomy l p free) (op_at l p free s e h k me you call reply path at)

  abbrev Mine : At → Type 0
  Mine at = Own l p free s e h k me you call reply path at

  -- no word of an own row is one that everybody may reach
  shut : (at : At) → Mine at → (v : ℕ) → IsOpen l free h v → (w : ℕ) → IsOfRows l (rows_of at) w → v ≢ w
  shut at own v is_open w of same =
      let row = own.own_rows of.0 of.1 in
      row.1 (is_open.given of.0 row.0 (subst (IsWordOf l of.0) (sym same) of.2))

  apart : (at : At) → Mine at → (v : ℕ) → IsOpen l free h v → (f : Filling) (m : HeldStore) (x : Storing) →
      AllByRecursion (IsOfRows l (rows_of at)) (words_from f.first f.values) → FillsAt l h f x m → IsApart v x
  apart at own v is_open f m (Reads how) all fills = tt
  apart at own v is_open f m (Writes next) all fills =
      let is_in = stored_within h f next m.drafts.ready fills in
      shut at own v is_open next.word (word_among (IsOfRows l (rows_of at)) f.first f.values next.word all is_in.0 is_in.1)
  apart at own v is_open f m (MakesRoom next first) all fills = tt
  apart at own v is_open f m (Ended how) all fills = tt

  -- a word stays
  abbrev Stays : ℕ → Type 0
  Stays v = word_at (after s e) v ≡ word_at s v

  -- what everybody may reach stays, and so do the edge behind which the key belongs, and the inner rows
  pub record Leaves : Type 0 where
    pub edge : Stays path.edge.word
    pub inners : all_inners l (after s e).words ≡ all_inners l s.words

  leaves_by : (at : At) → Mine at → HasPlace l free h me path → ((v : ℕ) → IsOpen l free h v → Stays v) → Leaves
  leaves_by at own place stays = record {
    edge = stays path.edge.word (edge_open l free h own.kept path.edge.word place.spot.loaded.at);
    inners = inners_kept l free h own.kept s.words own.words (after s e).words (record {
      left_so = λ r i. ap row_of (stays (left r) (left_open l free h own.kept r i)) ∙ sym (row_same l free h own.kept s.words own.words (left r));
      right_so = λ r i. ap row_of (stays (right r) (right_open l free h own.kept r i)) ∙ sym (row_same l free h own.kept s.words own.words (right r));
    });
  }

  pub leaf_leaves : (m : HeldStore) → Mine (LeafWords m) → Leaves
  leaf_leaves m own = leaves_by (LeafWords m) own own.knows.at.place (λ v o. store_elsewhere s v m.at m e own.asks
      (apart (LeafWords m) own v o (storing_at l call path (LeafWords m)) m m.at own.facts.own own.facts.filled))

  pub value_leaves : (m : HeldStore) → Mine (LeafValue m) → Leaves
  value_leaves m own = leaves_by (LeafValue m) own own.knows.at.place (λ v o. store_elsewhere s v m.at m e own.asks
      (apart (LeafValue m) own v o (storing_at l call path (LeafValue m)) m m.at own.facts.own own.facts.filled))

  pub inner_leaves : (m : HeldStore) → Mine (InnerWords m) → Leaves
  inner_leaves m own = leaves_by (InnerWords m) own own.knows.at.place (λ v o. store_elsewhere s v m.at m e own.asks
      (apart (InnerWords m) own v o (storing_at l call path (InnerWords m)) m m.at own.facts.own own.facts.filled))
