-- A write-back of a word that everybody may reach keeps the heap, and settles the update that waits there: views only get fewer.
use Rattle.std.proofs.Common.{◌≡◌, ◌≢◌, ◌⊎◌, ℕ, ◌+◌, ◌<◌, true, List, [], ◌∷◌, ◌++◌, length, slice_index, slice_set, Option, Some, None, refl, sym, ap, subst, ◌∙◌, arith, inl, inr}
use Rattle.std.proofs.lemmas.Bool.{cases_eq}
use Rattle.std.proofs.lemmas.List.{length-set, get_or-set_same, get_or-set_other, append-nil}
use Rattle.std.specs.FinMap as fin
use Rattle.flit_words.specs.declared.layouts.Layout.{Layout}
use Rattle.flit_words.specs.Layouts.{row_word_of, value_word_of}
use Rattle.flit_words.specs.Words.{is_tagged, version_of}
use Rattle.flit_model.specs.declared.calls.Entry.{Entry}
use Rattle.flit_model.specs.Maps.{Map, IsLegal, map_after, map_after_all, reply_of, key_of}
use Rattle.flit_model.specs.Settling.{Progress, settles as settling}
use Rattle.flit_model.specs.Trees.{Tree, IsLawfulTree, tree_map}
use Rattle.flit_model.proofs.Legal.{legal-append, map_after_all-append}
use Rattle.flit_structure.specs.Lawful.{StandsFrom}
use Rattle.flit_crew.specs.Heaps.{at_word, at_shadow, waits_at, written, IsOpen, IsAhead}
use Rattle.flit_tree_heap.specs.Edges.{left, right, other, row_of, flag_of, frozen_of, IsPlain, Follows}
use Rattle.flit_tree_heap.specs.Views.{TreeHeap, settled_map, IsLinked, IsAtRest, IsLeafRow, LeadsOn, IsInnerRow, IsEdge, IsView}
use Rattle.flit_tree_heap.specs.Kept.{IsSettledRow, HasRightBits, IsCutBetween, IsCutOff, HasTaken, IsWaiting, IsKept}
use Rattle.flit_tree_heap.specs.Later.{IsLater}
use Rattle.flit_tree_heap.proofs.Maps.{same_entry, after_other, after_same, reply_same, left_waiting, still_waiting}
use Rattle.flit_tree_heap.proofs.Images.{nowhere}
use Rattle.flit_tree_heap.proofs.Sameness.{edge_other}
use Rattle.flit_tree_heap.proofs.Rows.{row_range}

-- ---- what is settled

module _ (content : Map) (p : Progress) (w0 : ℕ) where
  settled_off : (o : Option Entry) (key : ℕ) → ((e : Entry) → o ≡ Some e → key ≢ key_of e.call) →
      fin.get (map_after_all content (settling p w0 o).settled) key ≡ fin.get (map_after_all content p.settled) key
  settled_off None key n = refl
  settled_off (Some e) key n =
      ap (λ m. fin.get m key) (map_after_all-append content p.settled (e ∷ [])) ∙ after_other (map_after_all content p.settled) e.call key (n e refl)

  settled_on : (o : Option Entry) (e : Entry) → o ≡ Some e →
      fin.get (map_after_all content (settling p w0 o).settled) (key_of e.call) ≡ fin.get (map_after (map_after_all content p.settled) e.call) (key_of e.call)
  settled_on None e h = cc
  settled_on (Some d) e h =
      subst (λ e. fin.get (map_after_all content (p.settled ++ d ∷ [])) (key_of e.call) ≡ fin.get (map_after (map_after_all content p.settled) e.call)
      (key_of e.call))
      (same_entry d e h) (ap (λ m. fin.get m (key_of d.call)) (map_after_all-append content p.settled (d ∷ [])))

  settled_legal : (o : Option Entry) → IsLegal content p.settled → ((e : Entry) → o ≡ Some e → e.reply ≡ reply_of (map_after_all content p.settled) e.call) →
      IsLegal content (settling p w0 o).settled
  settled_legal None a b = a
  settled_legal (Some e) a b = legal-append content p.settled (e ∷ []) a (b e refl, tt)

settled_new : (p : Progress) (w0 : ℕ) (o : Option Entry) → (new : List Entry) × ((settling p w0 o).settled ≡ p.settled ++ new)
settled_new p w0 None = ([], sym (append-nil p.settled))
settled_new p w0 (Some e) = (e ∷ [], refl)

settled_stands : (p : Progress) (w0 : ℕ) (o : Option Entry) (e : Entry) → o ≡ Some e → StandsFrom (length p.settled) (settling p w0 o).settled e
settled_stands p w0 None e h = cc
settled_stands p w0 (Some d) e h =
    subst (λ e. StandsFrom (length p.settled) (p.settled ++ d ∷ []) e) (same_entry d e h) (p.settled, [], refl, omega arith)

module _ (l : Layout) (free : List ℕ) (h : TreeHeap) (K : IsKept l free h) (w0 : ℕ) (open_here : IsOpen l free h w0) (o : Option Entry)
    (is : waits_at h w0 ≡ o) where
  abbrev k : TreeHeap
  k = record h { shadows = slice_set h.shadows w0 (at_word h w0); progress = settling h.progress w0 o; ghost = tt }

  shadow_off : (w : ℕ) → w ≢ w0 → at_shadow k w ≡ at_shadow h w
  shadow_off w d = get_or-set_other h.shadows w0 w (at_word h w0) 0 d

  shadow_on : at_shadow k w0 ≡ at_word h w0
  shadow_on = get_or-set_same h.shadows w0 (at_word h w0) 0 (subst (λ n. w0 < n) (sym K.shadows) open_here.within)

  shadow_cases : (w : ℕ) → (at_shadow k w ≡ at_shadow h w) ⊎ (at_shadow k w ≡ at_word h w)
  shadow_cases w = elim (cases_eq w w0) [
    | inl e ↦ inr (ap (at_shadow k) e ∙ shadow_on ∙ ap (at_word h) (sym e))
    | inr d ↦ inl (shadow_off w d)
  ]

  rest_up : (w : ℕ) → IsAtRest h w → IsAtRest k w
  rest_up w r = elim (shadow_cases w) [ inl e ↦ r ∙ sym e | inr e ↦ sym e ]

  open_up : (w : ℕ) → IsOpen l free h w → IsOpen l free k w
  open_up w x = record { within = x.within; given = x.given; ours = x.ours }

  open_down : (w : ℕ) → IsOpen l free k w → IsOpen l free h w
  open_down w x = record { within = x.within; given = x.given; ours = x.ours }

  -- ---- rows

  leaf_up : (r : ℕ) → IsLeafRow h r → IsLeafRow k r
  leaf_up r f = record { left_rest = rest_up (left r) f.left_rest; right_rest = rest_up (right r) f.right_rest; no_left = f.no_left; no_right = f.no_right }

  leads_on : (w : ℕ) → LeadsOn l h w → LeadsOn l k w
  leads_on w x = record {
    word = x.word;
    shadow = elim (shadow_cases w) [
      | inl e ↦ subst (λ y. IsLinked l h (row_of y)) (sym e) x.shadow
      | inr e ↦
          subst (λ y. IsLinked l h (row_of y)) (sym e) x.word
    ];
  }

  inner_up : (r : ℕ) → IsInnerRow l h r → IsInnerRow l k r
  inner_up r i = record { left_on = leads_on (left r) i.left_on; right_on = leads_on (right r) i.right_on }

  leaf_inner : (r : ℕ) → IsLeafRow h r → IsInnerRow l k r → ⊥
  leaf_inner r f i =
      let e : row_of (at_word h (left r)) ≡ 0 = (nowhere (at_word h (left r)) f.no_left).0 in
      omega (arith, (row_range l free h K (row_of (at_word h (left r))) i.left_on.word).0, e)

  inner_down : (r : ℕ) → IsLinked l h r → IsInnerRow l k r → IsInnerRow l h r
  inner_down r i f = elim (K.linked r i).kind [ inl a ↦ absurd (leaf_inner r a f) | inr a ↦ a ]

  edge_up : (w : ℕ) → IsEdge l h w → IsEdge l k w
  edge_up w e = record { row = e.row; linked = e.linked; inner = inner_up e.row e.inner; side = e.side }

  edge_down : (w : ℕ) → IsEdge l k w → IsEdge l h w
  edge_down w e = record { row = e.row; linked = e.linked; inner = inner_down e.row e.linked e.inner; side = e.side }

  rows_kept : (r : ℕ) → IsLinked l k r → IsSettledRow l k r
  rows_kept r i = let s = K.linked r i in record {
    key = rest_up (row_word_of l r 0) s.key;
    value = λ e. rest_up (value_word_of l r) (s.value e);
    kind = elim s.kind [ inl f ↦ inl (leaf_up r f) | inr f ↦ inr (inner_up r f) ];
  }

  -- ---- bits

  flag_follows : (a b : ℕ) → Follows a b → flag_of a ≡ true → flag_of b ≡ true
  flag_follows a b (inl e) f = ap flag_of (sym e) ∙ f
  flag_follows a b (inr x) f = (x.2 f).1

  frozen_follows : (a b : ℕ) → Follows a b → frozen_of a ≡ true → frozen_of b ≡ true
  frozen_follows a b (inl e) f = ap frozen_of (sym e) ∙ f
  frozen_follows a b (inr x) f = let y = x.1 in absurd cc

  flag_up : (w : ℕ) → IsEdge l h w → flag_of (at_shadow h w) ≡ true → flag_of (at_shadow k w) ≡ true
  flag_up w e f = elim (shadow_cases w) [
    | inl x ↦ ap flag_of x ∙ f
    | inr x ↦ ap flag_of x ∙ flag_follows (at_shadow h w) (at_word h w) (K.bits w e).follows f
  ]

  bits_kept : (w : ℕ) → IsEdge l k w → HasRightBits l k w
  bits_kept w x =
      let e = edge_down w x in
      let b = K.bits w e in
      record {
        follows = elim (shadow_cases w) [ inl y ↦ subst (λ z. Follows z (at_word h w)) (sym y) b.follows | inr y ↦ inl y ];
        flagged = λ f. let m = b.flagged f in record { leaf = leaf_up (row_of (at_word h w)) m.leaf; below = m.below; not_three = m.not_three };
        frozen = λ f. flag_up (other w) (edge_other l free h K w e) (b.frozen f);
      }

  cut_up : (a b : ℕ) → IsCutBetween h a b → IsCutBetween k a b
  cut_up a b c = record {
    frozen_word = c.frozen_word;
    frozen_shadow = elim (shadow_cases a) [ inl x ↦ ap frozen_of x ∙ c.frozen_shadow | inr x ↦ ap frozen_of x ∙ c.frozen_word ];
    flagged_word = c.flagged_word;
    flagged_shadow = elim (shadow_cases b) [ inl x ↦ ap flag_of x ∙ c.flagged_shadow | inr x ↦ ap flag_of x ∙ c.flagged_word ];
  }

  cut_off_up : (r : ℕ) → IsCutOff h r → IsCutOff k r
  cut_off_up r (inl c) = inl (cut_up (left r) (right r) c)
  cut_off_up r (inr c) = inr (cut_up (right r) (left r) c)

  -- ---- views

  old_view : (V : List ℕ) → IsView l free k V → IsView l free h V
  old_view V v = record {
    whole = v.whole;
    untagged = v.untagged;
    places = λ w x. elim (v.places w (open_up w x)) [
      | inl e ↦ inl e
      | inr e ↦ elim (shadow_cases w) [ inl y ↦ inr (e ∙ y) | inr y ↦ inl (e ∙ y) ]
    ];
  }

  has_word : (V : List ℕ) → IsView l free k V → slice_index V w0 ≡ at_word h w0
  has_word V v = elim (v.places w0 (open_up w0 open_here)) [ inl e ↦ e | inr e ↦ e ∙ shadow_on ]

  -- ---- maps

  get_off : (key : ℕ) → ((e : Entry) → o ≡ Some e → key ≢ key_of e.call) → fin.get (settled_map k) key ≡ fin.get (settled_map h) key
  get_off key n = settled_off h.opening.content h.progress w0 o key n

  -- an update that waits elsewhere has another key
  other_key : (w : ℕ) (d : Entry) → w ≢ w0 → waits_at h w ≡ Some d → (e : Entry) → o ≡ Some e → key_of d.call ≢ key_of e.call
  other_key w d n b e p same = n (K.apart w w0 d e b (is ∙ p) same)

  waits_down : (w : ℕ) (d : Entry) → waits_at k w ≡ Some d → (w ≢ w0) × (waits_at h w ≡ Some d)
  waits_down w d a = left_waiting h.progress w0 o w d is a

  others_kept : (x : Option Entry) → o ≡ x → (V : List ℕ) (t : Tree) → IsView l free k V → IsLawfulTree l V t → (key : ℕ) →
      ((w : ℕ) (d : Entry) → waits_at k w ≡ Some d → slice_index V w ≡ at_word k w → key_of d.call ≢ key) →
      fin.get (tree_map l V t) key ≡ fin.get (settled_map k) key
  others_kept None p V t v m key hyp =
      (K.maps V t (old_view V v) m).others key (λ w d b x. hyp w d (still_waiting h.progress w0 o w (λ e.
      let c : None ≡ Some d = sym (is ∙ p) ∙ ap (fin.get h.progress.waiting) (sym e) ∙ b in absurd cc) ∙ b) x)
      ∙ sym (get_off key (λ e q. let c : None ≡ Some e = sym p ∙ q in absurd cc))
  others_kept (Some e) p V t v m key hyp = elim (cases_eq (key_of e.call) key) [
    | inl same ↦ subst (λ q. fin.get (tree_map l V t) q ≡ fin.get (settled_map k) q) same
        ((K.maps V t (old_view V v) m).taken w0 e (is ∙ p) (has_word V v) ∙ sym (settled_on h.opening.content h.progress w0 o e p))
    | inr apart ↦
        (K.maps V t (old_view V v) m).others key (λ w d b x. elim (cases_eq w w0) [
          | inl y ↦ λ z. apart (ap (λ (c : Entry). key_of c.call) (same_entry e d (sym (is ∙ p) ∙ ap (fin.get h.progress.waiting) (sym y) ∙ b)) ∙ z)
          | inr n ↦ hyp w d (still_waiting h.progress w0 o w n ∙ b) x
        ])
        ∙ sym (get_off key (λ d q same. apart (ap (λ (c : Entry). key_of c.call) (same_entry e d (sym p ∙ q)) ∙ sym same)))
  ]

  maps_kept : (V : List ℕ) (t : Tree) → IsView l free k V → IsLawfulTree l V t → HasTaken k V (tree_map l V t)
  maps_kept V t v m = record {
    taken = λ w d a x.
        let b = waits_down w d a in
        (K.maps V t (old_view V v) m).taken w d b.1 x
        ∙ sym (after_same (settled_map k) (settled_map h) d.call (get_off (key_of d.call) (other_key w d b.0 b.1)));
    others = others_kept o refl V t v m;
  }

  waits_kept : (w : ℕ) (d : Entry) → waits_at k w ≡ Some d → IsWaiting l free k w d
  waits_kept w d a =
      let b = waits_down w d a in
      let W = K.waits w d b.1 in
      record {
        edge = edge_up w W.edge;
        ahead = W.ahead ∙ ap (λ x. version_of x + 1) (sym (shadow_off w b.0));
        plain = subst IsPlain (sym (shadow_off w b.0)) W.plain;
        unfrozen = W.unfrozen;
        flagged = W.flagged;
        update = W.update;
        legal = W.legal ∙ sym (reply_same (settled_map k) (settled_map h) d.call (get_off (key_of d.call) (other_key w d b.0 b.1)));
        below = W.below;
        routes = λ V t v m. W.routes V t (old_view V v) m;
      }

  pub settle_kept : IsKept l free k
  settle_kept = record {
    layout = K.layout;
    words = K.words;
    shadows = length-set h.shadows w0 (at_word h w0) ∙ K.shadows;
    untagged = λ w b. elim (cases_eq w w0) [
      | inl e ↦ ap (λ v. is_tagged (at_shadow k v)) e ∙ ap is_tagged shadow_on ∙ K.bare w0 open_here
      | inr d ↦ ap is_tagged (shadow_off w d) ∙ K.untagged w b
    ];
    bare = λ w x. K.bare w (open_down w x);
    gap = λ w x. elim (cases_eq w w0) [
      | inl e ↦ inl (ap (at_word h) e ∙ sym shadow_on ∙ ap (at_shadow k) (sym e))
      | inr d ↦ elim (K.gap w (open_down w x)) [
        | inl r ↦ inl (r ∙ sym (shadow_off w d))
        | inr a ↦ inr (a ∙ ap (λ y. version_of y + 1) (sym (shadow_off w d)))
      ]
    ];
    pool = λ row c. let p = K.pool row c in record { least = p.least; most = p.most; unreached = p.unreached };
    given = K.given;
    linked = rows_kept;
    bits = bits_kept;
    images = λ V v. K.images V (old_view V v);
    maps = maps_kept;
    waits = waits_kept;
    apart = λ w v d e a b same. K.apart w v d e (waits_down w d a).1 (waits_down v e b).1 same;
    settled = settled_legal h.opening.content h.progress w0 o K.settled (λ e p. (K.waits w0 e (is ∙ p)).legal);
    gone = λ row i f n V t v has m. elim (K.gone row i (inner_down row i f) n V t (old_view V v) (λ w x. has w (open_up w x)) m) [
      | inl c ↦ inl c
      | inr c ↦ inr (cut_off_up row c)
    ];
  }

  pub settle_later : (who : Option ℕ) → IsLater l free who h k
  settle_later who = record {
    opening = refl;
    given = λ row c. c;
    rows = λ row i. record { key = refl; value = λ e. refl; leaf = leaf_up row };
    edges = λ w e. inl (refl, shadow_cases w);
    settled = settled_new h.progress w0 o;
    waits = λ w d b. elim (cases_eq w w0) [
      | inl e ↦ inr (settled_stands h.progress w0 o d (sym is ∙ ap (fin.get h.progress.waiting) (sym e) ∙ b))
      | inr n ↦ inl (still_waiting h.progress w0 o w n ∙ b, refl)
    ];
    led = λ needs key row below L V t v takes m. L V t (old_view V v) (λ w x n. takes w (open_up w x) n) m;
  }

pub settles : (l : Layout) (free : List ℕ) (h : TreeHeap) (w : ℕ) → IsKept l free h → IsOpen l free h w → IsAhead h w →
    (ghost : Unit {0}) × IsKept l free (written h w ghost) × IsLater l free None h (written h w ghost)
settles l free h w K x a = (tt, settle_kept l free h K w x (waits_at h w) refl, settle_later l free h K w x (waits_at h w) refl None)

pub same : (l : Layout) (free : List ℕ) (h : TreeHeap) (who : Option ℕ) → IsLater l free who h h
same l free h who = record {
  opening = refl;
  given = λ row c. c;
  rows = λ row i. record { key = refl; value = λ e. refl; leaf = λ f. f };
  edges = λ w e. inl (refl, inl refl);
  settled = ([], sym (append-nil h.progress.settled));
  waits = λ w d b. inl (b, refl);
  led = λ needs key row below L. L;
}
