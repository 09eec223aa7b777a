-- Words that nobody else may reach, and their shadows, play no part in what is kept.
use Rattle.std.proofs.Common.{◌≡◌, ℕ, ◌+◌, ◌<◌, false, cond, List, [], length, slice_index, Option, Some, refl, sym, ap, subst, ◌∙◌, arith, inl, inr}
use Rattle.std.proofs.lemmas.Bool.{cases_lt, lt-ltb, le-ltb}
use Rattle.std.proofs.lemmas.List.{append-nil}
use Rattle.flit_words.specs.declared.layouts.Layout.{Layout}
use Rattle.flit_words.specs.Layouts.{row_word_of, value_word_of}
use Rattle.flit_words.specs.Words.{is_tagged, value_of, version_of}
use Rattle.flit_model.specs.declared.calls.Entry.{Entry}
use Rattle.flit_model.specs.Settling.{Progress}
use Rattle.flit_model.specs.Trees.{Tree, IsLawfulTree, tree_map}
use Rattle.flit_runs.specs.Soundness.{Needs}
use Rattle.flit_structure.specs.Moments.{Opening}
use Rattle.flit_crew.specs.Heaps.{at_word, at_shadow, waits_at, IsOpen, AreAlike}
use Rattle.flit_tree_heap.specs.Edges.{left, right, other, row_of, flag_of, frozen_of, IsPlain}
use Rattle.flit_tree_heap.specs.Views.{TreeHeap, IsLinked, IsAtRest, IsLeafRow, LeadsOn, IsInnerRow, IsEdge, IsView}
use Rattle.flit_tree_heap.specs.Kept.{IsSettledRow, MayBeFlagged, HasRightBits, IsCutBetween, IsCutOff, HasTaken, IsWaiting, IsKept}
use Rattle.flit_tree_heap.specs.Later.{IsLater}
use Rattle.flit_tree_heap.specs.Exchanges.{key_now, side_now}
use Rattle.flit_tree_heap.proofs.Words.{other-left, other-right}
use Rattle.flit_tree_heap.proofs.Rows.{row_range, edge_open, key_open, value_open, left_open, right_open}

-- what an edge leads to
pub edge_on : (l : Layout) (h : TreeHeap) (w : ℕ) → IsEdge l h w → LeadsOn l h w
edge_on l h w e = elim e.side [ inl x ↦ subst (LeadsOn l h) (sym x) e.inner.left_on | inr x ↦ subst (LeadsOn l h) (sym x) e.inner.right_on ]

-- the other edge of its row
pub edge_other : (l : Layout) (free : List ℕ) (h : TreeHeap) → IsKept l free h → (w : ℕ) → IsEdge l h w → IsEdge l h (other w)
edge_other l free h K w e = record {
  row = e.row;
  linked = e.linked;
  inner = e.inner;
  side = elim e.side [
    | inl x ↦ inr (ap other x ∙ other-left e.row (omega (arith, (row_range l free h K e.row e.linked).0)))
    | inr x ↦ inl (ap other x ∙ other-right e.row (omega (arith, (row_range l free h K e.row e.linked).0)))
  ];
}

-- the edge of an inner row for a key
pub side_edge : (l : Layout) (h : TreeHeap) (key row : ℕ) → IsLinked l h row → IsInnerRow l h row → IsEdge l h (side_now l h key row)
side_edge l h key row i f = record {
  row = row;
  linked = i;
  inner = f;
  side = elim (cases_lt key (key_now l h row)) [
    | inl c ↦ inl (ap (λ b. cond b (left row) (right row)) (lt-ltb key (key_now l h row) c))
    | inr c ↦ inr (ap (λ b. cond b (left row) (right row)) (le-ltb key (key_now l h row) c))
  ];
}

module _ (l : Layout) (free : List ℕ) (h : TreeHeap) (K : IsKept l free h) (ws ss : List ℕ)
    (words : (w : ℕ) → IsOpen l free h w → slice_index ws w ≡ at_word h w) (shadows : (w : ℕ) → IsOpen l free h w → slice_index ss w ≡ at_shadow h w)
    (number : length ws ≡ length h.words) (shadows_number : length ss ≡ length h.shadows)
    (untagged : (w : ℕ) → w < length ss → is_tagged (slice_index ss w) ≡ false) where
  abbrev k : TreeHeap
  k = record h { words = ws; shadows = ss }

  open_up : (w : ℕ) → IsOpen l free h w → IsOpen l free k w
  open_up w x = record { within = x.within; given = x.given; ours = x.ours }

  open_down : (w : ℕ) → IsOpen l free k w → IsOpen l free h w
  open_down w x = record { within = x.within; given = x.given; ours = x.ours }

  rest_up : (w : ℕ) → IsOpen l free h w → IsAtRest h w → IsAtRest k w
  rest_up w o r = words w o ∙ r ∙ sym (shadows w o)

  leaf_up : (r : ℕ) → IsLinked l h r → IsLeafRow h r → IsLeafRow k r
  leaf_up r i f =
      let a = left_open l free h K r i in
      let b = right_open l free h K r i in
      record {
        left_rest = rest_up (left r) a f.left_rest;
        right_rest = rest_up (right r) b f.right_rest;
        no_left = ap value_of (words (left r) a) ∙ f.no_left;
        no_right = ap value_of (words (right r) b) ∙ f.no_right;
      }

  leads_up : (w : ℕ) → IsOpen l free h w → LeadsOn l h w → LeadsOn l k w
  leads_up w o x = record {
    word = subst (λ y. IsLinked l h (row_of y)) (sym (words w o)) x.word;
    shadow = subst (λ y. IsLinked l h (row_of y)) (sym (shadows w o)) x.shadow;
  }

  leads_down : (w : ℕ) → IsOpen l free h w → LeadsOn l k w → LeadsOn l h w
  leads_down w o x = record {
    word = subst (λ y. IsLinked l h (row_of y)) (words w o) x.word;
    shadow = subst (λ y. IsLinked l h (row_of y)) (shadows w o) x.shadow;
  }

  inner_up : (r : ℕ) → IsLinked l h r → IsInnerRow l h r → IsInnerRow l k r
  inner_up r i f = record {
    left_on = leads_up (left r) (left_open l free h K r i) f.left_on;
    right_on = leads_up (right r) (right_open l free h K r i) f.right_on;
  }

  inner_down : (r : ℕ) → IsLinked l h r → IsInnerRow l k r → IsInnerRow l h r
  inner_down r i f = record {
    left_on = leads_down (left r) (left_open l free h K r i) f.left_on;
    right_on = leads_down (right r) (right_open l free h K r i) f.right_on;
  }

  edge_up : (w : ℕ) → IsEdge l h w → IsEdge l k w
  edge_up w e = record { row = e.row; linked = e.linked; inner = inner_up e.row e.linked e.inner; side = e.side }

  edge_down : (w : ℕ) → IsEdge l k w → IsEdge l h w
  edge_down w e = record { row = e.row; linked = e.linked; inner = inner_down e.row e.linked e.inner; side = e.side }

  rows_same : (r : ℕ) → IsLinked l k r → IsSettledRow l k r
  rows_same r i = let s = K.linked r i in record {
    key = rest_up (row_word_of l r 0) (key_open l free h K r i) s.key;
    value = λ e. rest_up (value_word_of l r) (value_open l free h K r i e) (s.value e);
    kind = elim s.kind [ inl f ↦ inl (leaf_up r i f) | inr f ↦ inr (inner_up r i f) ];
  }

  flag_up : (r : ℕ) → IsLinked l h r → MayBeFlagged l h r → MayBeFlagged l k r
  flag_up r i m = record {
    leaf = leaf_up r i m.leaf;
    below = subst (λ x. value_of x < 4294967293) (sym (words (row_word_of l r 0) (key_open l free h K r i))) m.below;
    not_three = m.not_three;
  }

  bits_same : (w : ℕ) → IsEdge l k w → HasRightBits l k w
  bits_same w x =
      let e = edge_down w x in
      let o = edge_open l free h K w e in
      let p = edge_open l free h K (other w) (edge_other l free h K w e) in
      let b = K.bits w e in
      record {
        follows = rw (words w o, shadows w o) b.follows;
        flagged = rw (words w o) (λ f. flag_up (row_of (at_word h w)) (edge_on l h w e).word (b.flagged f));
        frozen = rw (words w o, shadows (other w) p) b.frozen;
      }

  cut_up : (a b : ℕ) → IsOpen l free h a → IsOpen l free h b → IsCutBetween h a b → IsCutBetween k a b
  cut_up a b o p c = record {
    frozen_word = ap frozen_of (words a o) ∙ c.frozen_word;
    frozen_shadow = ap frozen_of (shadows a o) ∙ c.frozen_shadow;
    flagged_word = ap flag_of (words b p) ∙ c.flagged_word;
    flagged_shadow = ap flag_of (shadows b p) ∙ c.flagged_shadow;
  }

  cut_off_up : (r : ℕ) → IsLinked l h r → IsCutOff h r → IsCutOff k r
  cut_off_up r i (inl c) = inl (cut_up (left r) (right r) (left_open l free h K r i) (right_open l free h K r i) c)
  cut_off_up r i (inr c) = inr (cut_up (right r) (left r) (right_open l free h K r i) (left_open l free h K r i) c)

  view_down : (V : List ℕ) → IsView l free k V → IsView l free h V
  view_down V v = record {
    whole = v.whole;
    untagged = v.untagged;
    places = λ w o. elim (v.places w (open_up w o)) [ inl x ↦ inl (x ∙ words w o) | inr x ↦ inr (x ∙ shadows w o) ];
  }

  maps_same : (V : List ℕ) (t : Tree) → IsView l free k V → IsLawfulTree l V t → HasTaken k V (tree_map l V t)
  maps_same V t v m = let O = K.maps V t (view_down V v) m in record {
    taken = λ w d b x. O.taken w d b (x ∙ words w (edge_open l free h K w (K.waits w d b).edge));
    others = λ key hyp. O.others key (λ w d b x. hyp w d b (x ∙ sym (words w (edge_open l free h K w (K.waits w d b).edge))));
  }

  waits_same : (w : ℕ) (d : Entry) → waits_at k w ≡ Some d → IsWaiting l free k w d
  waits_same w d b =
      let W = K.waits w d b in
      let o = edge_open l free h K w W.edge in
      record {
        edge = edge_up w W.edge;
        ahead = ap version_of (words w o) ∙ W.ahead ∙ ap (λ x. version_of x + 1) (sym (shadows w o));
        plain = subst IsPlain (sym (shadows w o)) W.plain;
        unfrozen = ap frozen_of (words w o) ∙ W.unfrozen;
        flagged = λ i. ap flag_of (words w o) ∙ W.flagged i;
        update = W.update;
        legal = W.legal;
        below = W.below;
        routes = λ V t v m. W.routes V t (view_down V v) m;
      }

  pub alike_kept : IsKept l free k
  alike_kept = record {
    layout = K.layout;
    words = number ∙ K.words;
    shadows = shadows_number ∙ K.shadows;
    untagged = λ w b. untagged w (subst (λ n. w < n) (sym (shadows_number ∙ K.shadows)) b);
    bare = λ w x. ap is_tagged (words w (open_down w x)) ∙ K.bare w (open_down w x);
    gap = λ w x. let o = open_down w x in elim (K.gap w o) [
      | inl r ↦ inl (rest_up w o r)
      | inr a ↦ inr (ap version_of (words w o) ∙ a ∙ ap (λ y. version_of y + 1) (sym (shadows w o)))
    ];
    pool = λ row c. let p = K.pool row c in record { least = p.least; most = p.most; unreached = p.unreached };
    given = K.given;
    linked = rows_same;
    bits = bits_same;
    images = λ V v. K.images V (view_down V v);
    maps = maps_same;
    waits = waits_same;
    apart = K.apart;
    settled = K.settled;
    gone = λ row i f n V t v has m. elim (K.gone row i (inner_down row i f) n V t (view_down V v) (λ w o. has w (open_up w o) ∙ words w o) m) [
      | inl c ↦ inl c
      | inr c ↦ inr (cut_off_up row i c)
    ];
  }

  pub alike_later : (who : Option ℕ) → IsLater l free who h k
  alike_later who = record {
    opening = refl;
    given = λ row c. c;
    rows = λ row i. record {
      key = words (row_word_of l row 0) (key_open l free h K row i);
      value = λ e. words (value_word_of l row) (value_open l free h K row i e);
      leaf = leaf_up row i;
    };
    edges = λ w e. inl (words w (edge_open l free h K w e), inl (shadows w (edge_open l free h K w e)));
    settled = ([], sym (append-nil h.progress.settled));
    waits = λ w d b. inl (b, words w (edge_open l free h K w (K.waits w d b).edge));
    led = λ needs key row below L V t v takes m. L V t (view_down V v) (λ w o n.
        takes w (open_up w o) (subst (λ y. Needs needs w (version_of y)) (sym (words w o)) n) ∙ words w o) m;
  }

heap_is : (k : TreeHeap) (o : Opening) (p : Progress) (g : List ℕ) (x : Unit {0}) → k.opening ≡ o → k.progress ≡ p → k.given ≡ g → k.ghost ≡ x →
    k ≡ record { opening = o; words = k.words; shadows = k.shadows; progress = p; given = g; ghost = x }
heap_is k o p g x a b c d = rw (← a, ← b, ← c, ← d) refl

pub blind : (l : Layout) (free : List ℕ) (h k : TreeHeap) (who : Option ℕ) → IsKept l free h → AreAlike l free h k → IsKept l free k × IsLater l free who h k
blind l free h k who K A = subst (λ x. IsKept l free x × IsLater l free who h x)
    (sym (heap_is k h.opening h.progress h.given h.ghost A.opening A.progress A.given A.ghost)) (
      alike_kept l free h K k.words k.shadows A.words A.shadows A.number A.shadows_number A.untagged,
      alike_later l free h K k.words k.shadows A.words A.shadows A.number A.shadows_number A.untagged who,
    )
