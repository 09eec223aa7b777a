-- A word of its own rows is stored, one of those that its store fills.
use Rattle.std.proofs.Common.{◌≡◌, ◌≢◌, ◌⊎◌, inl, inr, ⊎_elim, ℕ, ◌+◌, ◌*◌, ◌-◌, ◌<◌, ◌≤◌, Bool, true, false, List, [], ◌∷◌, length, Contains, Option, Some, None, refl, sym, ◌∙◌, ap, subst, arith}
use Rattle.std.proofs.lemmas.List.{get_or-set_other, length-set}
use Rattle.flit_words.specs.declared.layouts.Layout.{Layout}
use Rattle.flit_words.specs.Layouts.{row_word_of, value_word_of, parts_of}
use Rattle.flit_words.specs.Words.{value_of}
use Rattle.flit_model.specs.declared.calls.Call.{Call}
use Rattle.flit_model.specs.declared.calls.Reply.{Reply}
use Rattle.flit_place.specs.Tags.{Place}
use Rattle.flit_pv.specs.Stores.{HeldStore, store_taken}
use Rattle.flit_structure.specs.Meanings.{IsServed, key_of}
use Rattle.flit_crew.specs.Machines.{machine_takes}
use Rattle.flit_crew.specs.Heaps.{at_word, stored, IsShut, IsWordOf, AreAlike}
use Rattle.flit_crew.specs.Crews.{Who}
use Rattle.flit_tree_heap.specs.Views.{TreeHeap}
use Rattle.flit_tree_heap.specs.Kept.{IsKept}
use Rattle.flit_tree_heap.specs.Later.{IsLater}
use Rattle.flit_tree_heap.proofs.Rows.{row_word, value_word_at, one_row, pool_range}
use Rattle.flit_tree_heap.proofs.Sameness.{blind}
use Rattle.flit_tree_steps.specs.declared.operations.Path.{Path}
use Rattle.flit_tree_steps.specs.Operations.{At, Root, Key, Edge, Rows, LeafWords, LeafValue, InnerWords, Link, Flag, Sibling, Freeze, Swing, Value, Ends, Rests}
use Rattle.flit_tree_steps.specs.Steps.{leaf_row, inner_row}
use Rattle.flit_tree_laws.specs.Knowing.{KnowsLeafValue, KnowsInner}
use Rattle.flit_tree_laws.specs.TreeAnatomy.{machine_at, with_machine_at, storing_at}
use Rattle.flit_tree_laws.specs.TreeCrew.{KnowsAt}
use Rattle.flit_tree_laws.proofs.Parts.{hold_three, part_word, value_is_word}
use Rattle.flit_tree_laws.proofs.Lasting.{place_on, knows_leaf}
use Rattle.flit_tree_laws.proofs.Going.{steady_at}

module _ (l : Layout) (p : Place) (free : List ℕ) (h : TreeHeap) (K : IsKept l free h) (me : Who) (early : me.first ≤ length h.progress.settled)
    (served : IsServed l me.call) (w to : ℕ) (shut : IsShut l free h w) (call : Call) (reply : Reply) (path : Path) where
  abbrev k : TreeHeap
  k = stored h w to

  other_word : (v : ℕ) → v ≢ w → at_word k v ≡ at_word h v
  other_word v ne = get_or-set_other h.words w v to 0 ne

  alike : AreAlike l free h k
  alike = record {
    opening = refl;
    progress = refl;
    given = refl;
    ghost = refl;
    words = λ v o. other_word v (λ e. shut.unlinked (o.given shut.row shut.pool (subst (λ x. IsWordOf l shut.row x) (sym e) shut.word)));
    shadows = λ v o. refl;
    number = length-set h.words w to;
    shadows_number = refl;
    untagged = λ v lt. K.untagged v (subst (λ m. v < m) K.shadows lt);
  }

  N : IsKept l free k
  N = (blind l free h k None K alike).0

  L : IsLater l free None h k
  L = (blind l free h k None K alike).1

  nothing : 0 ≤ w → w < 0 + 0 → ⊥
  nothing a b = omega (arith, a, b)

  -- a value word is none of a row's parts
  part_apart : (row other part : ℕ) → Contains free row → part < 3 → value_word_of l other ≤ w → row_word_of l row part ≢ w
  part_apart row other part free_row b i e = apart (row_word_of l row part) row part (value_word_of l other) other l.rows (row_word l K.layout row part)
      (value_word_at l K.layout other) (pool_range l free h K row free_row).1 b (subst (λ v. value_word_of l other ≤ v) (sym e) i)
    where
      apart : (a r q v o n : ℕ) → a ≡ 3 * (r - 1) + q → v ≡ 3 * (n + 5) + (o - 1) → r ≤ n + 5 → q < 3 → v ≤ a → ⊥
      apart a r q v o n e f i b j = omega (arith, e, f, i, b, j)

  -- a word of another row
  row_apart : (rows other v : ℕ) → Contains free rows → Contains free other → rows ≢ other → IsWordOf l rows v → IsWordOf l other w → v ≢ w
  row_apart row other v free_row free_other ne of on e =
      let a = pool_range l free h K row free_row in
      let b = pool_range l free h K other free_other in
      ne (one_row l K.layout row other w (least row a.0) a.1 (least other b.0) b.1 (subst (IsWordOf l row) e of) on)
    where
      least : (n : ℕ) → 6 ≤ n → 1 ≤ n
      least n i = omega (arith, i)

  in_parts : (row : ℕ) → row_word_of l row 0 ≤ w → w < row_word_of l row 0 + 3 → IsWordOf l row w
  in_parts row i j = inl (
    w - row_word_of l row 0,
    subst (λ n. w - row_word_of l row 0 < parts_of n) (sym K.layout.kind) (less w (row_word_of l row 0) i j),
    same w (l.buckets + parts_of l.kind * (row - 1)) i,
  )
    where
      less : (a b : ℕ) → b ≤ a → a < b + 3 → a - b < 3
      less a b i j = omega (arith, i, j)

      same : (a b : ℕ) → b + 0 ≤ a → a ≡ b + (a - (b + 0))
      same a b i = omega (arith, i)

  value_stored : (m : HeldStore) → (o : ℕ) → value_word_of l o ≤ w → KnowsLeafValue l free h me path m → KnowsLeafValue l free k me path m
  value_stored m o i f = record {
    place = place_on l free h k None me K N L early served path f.place;
    rows = f.rows;
    valued = f.valued;
    stored = hold_three h k l f.rows.leaf (key_of me.call) 0 0
        (λ part b. other_word (row_word_of l f.rows.leaf part) (part_apart f.rows.leaf o part f.rows.leaf_free b i)) f.stored;
    private = f.private;
  }

  inner_stored : (m : HeldStore) (first : ℕ) → first ≡ inner_row m.hand → row_word_of l first 0 ≤ w → w < row_word_of l first 0 + 3 →
      KnowsInner l free h me path m → KnowsInner l free k me path m
  inner_stored m first e i j f =
      let on : IsWordOf l f.rows.inner w = subst (λ r. IsWordOf l r w) (e ∙ f.rows.second) (in_parts first i j) in record {
        place = place_on l free h k None me K N L early served path f.place;
        rows = f.rows;
        stored = hold_three h k l f.rows.leaf (key_of me.call) 0 0 (λ part b. other_word (row_word_of l f.rows.leaf part)
            (row_apart f.rows.leaf f.rows.inner (row_word_of l f.rows.leaf part) f.rows.leaf_free f.rows.inner_free f.rows.apart
            (part_word l K.layout f.rows.leaf part b) on)) f.stored;
        value = λ v. ap value_of (other_word (value_word_of l f.rows.leaf)
            (row_apart f.rows.leaf f.rows.inner (value_word_of l f.rows.leaf) f.rows.leaf_free f.rows.inner_free f.rows.apart
            (value_is_word l v f.rows.leaf) on)) ∙ f.value v;
      }

  pub stored_at : (at : At) (told : ℕ) → (storing_at l call path at).first ≤ w →
      w < (storing_at l call path at).first + length (storing_at l call path at).values →
      KnowsAt l free h me reply path at → KnowsAt l free k me reply path (with_machine_at at (machine_takes p free (machine_at at) told))
  stored_at (Root x) told a b f = absurd (nothing a b)
  stored_at (Key x) told a b f = absurd (nothing a b)
  stored_at (Edge x) told a b f = absurd (nothing a b)
  stored_at (Rows x) told a b f = absurd (nothing a b)
  stored_at (LeafWords x) told a b f =
      knows_leaf l free h k None me K N L early served path (store_taken x told) (steady_at l p free h me reply path (LeafWords x) told refl f)
  stored_at (LeafValue x) told a b f =
      value_stored (store_taken x told) (leaf_row x.hand) a (steady_at l p free h me reply path (LeafValue x) told refl f)
  stored_at (InnerWords x) told a b f =
      inner_stored (store_taken x told) (inner_row x.hand)
      (sym (ap (λ rows. Rattle.std.proofs.Common.slice_index rows 1) (Rattle.flit_pv.proofs.OneEvent.store_goes_further x told).spare)) a b
      (steady_at l p free h me reply path (InnerWords x) told refl f)
  stored_at (Link x) told a b f = absurd (nothing a b)
  stored_at (Flag x) told a b f = absurd (nothing a b)
  stored_at (Sibling c x) told a b f = absurd (nothing a b)
  stored_at (Freeze c x) told a b f = absurd (nothing a b)
  stored_at (Swing c x) told a b f = absurd (nothing a b)
  stored_at (Value x) told a b f = absurd (nothing a b)
  stored_at (Ends x) told a b f = absurd (nothing a b)
  stored_at (Rests hand) told a b f = absurd (nothing a b)
