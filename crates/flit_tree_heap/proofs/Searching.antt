-- What a searcher knows lasts while others change the heap, and what it is worth once all that it needs is persistent.
use Rattle.std.proofs.Common.{◌≡◌, ℕ, ◌≤◌, true, cond, nat_lt, List, [], ◌∷◌, ◌++◌, Option, refl, sym, ap, subst, ◌∙◌, arith, inl, inr}
use Rattle.std.proofs.lemmas.Bool.{false≢true}
use Rattle.flit_words.specs.declared.layouts.Layout.{Layout}
use Rattle.flit_words.specs.Words.{value_of, version_of}
use Rattle.flit_runs.specs.Workings.{Dependency}
use Rattle.flit_runs.specs.Soundness.{Needs}
use Rattle.flit_crew.specs.Heaps.{at_word, at_shadow}
use Rattle.flit_tree_heap.specs.Edges.{left, right, row_of, flag_of, frozen_of, Follows}
use Rattle.flit_tree_heap.specs.Views.{TreeHeap, Reaches, IsLinked, IsAtRest, IsInnerRow, IsEdge}
use Rattle.flit_tree_heap.specs.Kept.{IsKept}
use Rattle.flit_tree_heap.specs.Later.{EdgeGoesOn, IsLater}
use Rattle.flit_tree_heap.specs.Exchanges.{side_now, ArePersistent, IsTrail}
use Rattle.flit_tree_heap.specs.Searches.{IsPast, HasLoaded}
use Rattle.flit_tree_heap.proofs.Images.{nowhere}
use Rattle.flit_tree_heap.proofs.Rows.{row_range, edge_open}
use Rattle.flit_tree_heap.proofs.Sameness.{side_edge}

pub follows_on : (a b c : ℕ) → Follows a b → Follows b c → Follows a c
follows_on a b c (inl e) g = rw e g
follows_on a b c (inr f) (inl e) = rw (← e) (inr f)
follows_on a b c (inr f) (inr g) = inr (omega (arith, f.0, g.0), f.1, λ x. let y = f.2 x in let z = g.2 y.1 in (z.0 ∙ y.0, z.1))

version_up : (a b : ℕ) → Follows a b → version_of a ≤ version_of b
version_up a b (inl e) = omega (arith, ap version_of e)
version_up a b (inr f) = omega (arith, f.0)

-- a flag keeps its row
pub flag_follows : (q b : ℕ) → Follows q b → flag_of q ≡ true → (row_of b ≡ row_of q) × (flag_of b ≡ true)
flag_follows q b (inl e) f = (ap row_of (sym e), ap flag_of (sym e) ∙ f)
flag_follows q b (inr y) f = y.2 f

-- a past value stays past
pub past_on : (h k : TreeHeap) (edge q : ℕ) → EdgeGoesOn h k edge → IsPast h edge q → IsPast k edge q
past_on h k edge q (inl (w, inl s)) p = rw (w, s) p
past_on h k edge q (inl (w, inr s)) p = (rw w p.0, rw (w, s) (elim p.1 [ inl e ↦ inl e | inr x ↦ inr (version_up q (at_word h edge) p.0, p.0) ]))
past_on h k edge q (inr (r, s, f)) p = (
  follows_on q (at_word h edge) (at_word k edge) p.0 f,
  inr (rw (s, ← r) (elim p.1 [ inl e ↦ (omega (arith, ap version_of e), inl e) | inr x ↦ (version_up q (at_word h edge) p.0, p.0) ])),
)

-- a frozen word stays
pub frozen_on : (h k : TreeHeap) (edge : ℕ) → EdgeGoesOn h k edge → frozen_of (at_word h edge) ≡ true → at_word k edge ≡ at_word h edge
frozen_on h k edge (inl x) f = x.0
frozen_on h k edge (inr (r, s, inl e)) f = sym e
frozen_on h k edge (inr (r, s, inr x)) f = absurd (false≢true (sym x.1 ∙ f))

-- an edge that goes to a linked row isn't 0 and at rest later
not_zero : (h k : TreeHeap) (edge : ℕ) → EdgeGoesOn h k edge → 1 ≤ row_of (at_word h edge) → IsAtRest k edge → value_of (at_word k edge) ≡ 0 → ⊥
not_zero h k edge (inl x) some rest z = omega (arith, some, ap row_of (sym x.0) ∙ (nowhere (at_word k edge) z).0)
not_zero h k edge (inr (r, s, inl e)) some rest z = omega (arith, some, ap row_of e ∙ (nowhere (at_word k edge) z).0)
not_zero h k edge (inr (r, s, inr x)) some rest z = omega (arith, x.0, ap version_of (rest ∙ s ∙ sym r))

module _ (l : Layout) (free : List ℕ) (who : Option ℕ) (h k : TreeHeap) (K : IsKept l free h) (N : IsKept l free k) (L : IsLater l free who h k) where
  pub linked_on : (row : ℕ) → IsLinked l h row → IsLinked l k row
  linked_on row (inl e) = inl e
  linked_on row (inr (inl e)) = inr (inl e)
  linked_on row (inr (inr (inl r))) = inr (inr (inl (subst (λ o. Reaches l o.words row) (sym L.opening) r)))
  linked_on row (inr (inr (inr g))) = inr (inr (inr (L.given row g)))

  pub inner_on : (row : ℕ) → IsLinked l h row → IsInnerRow l h row → IsInnerRow l k row
  inner_on row i f = elim (N.linked row (linked_on row i)).kind [
    | inl leaf ↦
        let e : IsEdge l h (left row) = record { row = row; linked = i; inner = f; side = inl refl } in
        absurd (not_zero h k (left row) (L.edges (left row) e) (omega (arith, (row_range l free h K (row_of (at_word h (left row))) f.left_on.word).0))
        leaf.left_rest leaf.no_left)
    | inr x ↦ x
  ]

  pub edge_goes : (edge : ℕ) → IsEdge l h edge → IsEdge l k edge
  edge_goes edge e = record { row = e.row; linked = linked_on e.row e.linked; inner = inner_on e.row e.linked e.inner; side = e.side }

  -- what was loaded
  pub loaded_on : (needs : List Dependency) (edge q : ℕ) → HasLoaded l h needs edge q → HasLoaded l k needs edge q
  loaded_on needs edge q x = record {
    at = edge_goes edge x.at;
    past = past_on h k edge q (L.edges edge x.at) x.past;
    needed = x.needed;
    linked = linked_on (row_of q) x.linked;
  }

  pub side_same : (key row : ℕ) → IsLinked l h row → side_now l k key row ≡ side_now l h key row
  side_same key row i = ap (λ w. cond (nat_lt key (value_of w)) (left row) (right row)) (L.rows row i).key

  -- the frozen edges that a search came by
  pub trail_on : (needs : List Dependency) (key row : ℕ) (rows : List ℕ) (end : ℕ) → IsTrail l h needs key row rows end → IsTrail l k needs key row rows end
  trail_on needs key row [] end t = t
  trail_on needs key row (next ∷ rows) end t =
      let s = side_same key row t.0 in
      let w : at_word k (side_now l k key row) ≡ at_word h (side_now l h key row) =
      ap (at_word k) s ∙ frozen_on h k (side_now l h key row) (L.edges (side_now l h key row) (side_edge l h key row t.0 t.1)) t.3 in (
        linked_on row t.0,
        inner_on row t.0 t.1,
        ap row_of w ∙ t.2,
        ap frozen_of w ∙ t.3,
        subst (λ e. Needs needs e (version_of (at_word k (side_now l k key row)))) (sym s)
            (subst (λ x. Needs needs (side_now l h key row) (version_of x)) (sym w) t.4),
        trail_on needs key next rows end t.5,
      )

-- ---- a trail grows by one frozen edge

pub trail_more : (l : Layout) (h : TreeHeap) (needs : List Dependency) (key row : ℕ) (rows : List ℕ) (end next : ℕ) → IsTrail l h needs key row rows end →
    IsTrail l h needs key end (next ∷ []) next → IsTrail l h needs key row (rows ++ next ∷ []) next
trail_more l h needs key row [] end next t x = subst (λ r. IsTrail l h needs key r (next ∷ []) next) (sym t) x
trail_more l h needs key row (q ∷ qs) end next t x = (t.0, t.1, t.2, t.3, t.4, trail_more l h needs key q qs end next t.5 x)

-- ---- what is loaded and persistent

module _ (l : Layout) (free : List ℕ) (h : TreeHeap) (K : IsKept l free h) (needs : List Dependency) (P : ArePersistent h needs) (edge q : ℕ)
    (x : HasLoaded l h needs edge q) where
  rest_of : q ≡ at_word h edge → IsAtRest h edge
  rest_of e = elim (K.gap edge (edge_open l free h K edge x.at)) [
    | inl r ↦ r
    | inr a ↦ absurd (omega (arith, a, P edge (version_of q) x.needed, ap version_of e))
  ]

  -- a flag that was loaded stays, in word and shadow
  pub loaded_flag : flag_of q ≡ true → (row_of (at_word h edge) ≡ row_of q) × (flag_of (at_word h edge) ≡ true) × (flag_of (at_shadow h edge) ≡ true)
  loaded_flag f =
      let w = flag_follows q (at_word h edge) x.past.0 f in (
        w.0,
        w.1,
        elim x.past.1 [ inl e ↦ ap flag_of (sym (rest_of e)) ∙ w.1 | inr y ↦ (flag_follows q (at_shadow h edge) y.1 f).1 ],
      )

  -- what was loaded frozen is the word still, and at rest
  pub loaded_frozen : frozen_of q ≡ true → (q ≡ at_word h edge) × IsAtRest h edge
  loaded_frozen f = elim x.past.0 [
    | inl e ↦ (e, rest_of e)
    | inr y ↦ absurd (false≢true (sym y.1 ∙ f))
  ]
