-- What the leaf at the end of a search tells of the map.
use Rattle.std.proofs.Common.{◌≡◌, ◌≢◌, ◌⊎◌, ℕ, ◌<◌, ◌==◌, ◌&&◌, Bool, true, false, not, cond, nat_lt, List, [], ◌∷◌, slice_index, slice_set, Some, None, nat_cmp, refl, sym, ap, subst, ◌∙◌, inl, inr, eq-eqb, ne_eqb, eqb-true, ltb-true}
use Rattle.std.proofs.lemmas.Bool.{cases_eq, cases_Bool, false≢true, lt-ltb}
use Rattle.std.proofs.lemmas.List.{get_or-set_same, get_or-set_other}
use Rattle.std.specs.Cmp.{unsigned_tied}
use Rattle.std.specs.FinMap as fin
use Rattle.std.specs.FinMap.{find, get-entries}
use Rattle.flit_words.specs.declared.layouts.Layout.{Layout}
use Rattle.flit_words.specs.Layouts.{words_of, value_word_of}
use Rattle.flit_words.specs.Words.{is_tagged, value_of, version_of}
use Rattle.flit_model.specs.declared.calls.Call.{Call}
use Rattle.flit_model.specs.declared.calls.Call.TheVariants.{Insert, Remove, Contains as Contains_call, Get}
use Rattle.flit_model.specs.declared.calls.Reply.{Reply}
use Rattle.flit_model.specs.declared.calls.Entry.{Entry}
use Rattle.flit_model.specs.Maps.{key_of}
use Rattle.flit_model.specs.Histories.{is_update_by}
use Rattle.flit_model.specs.Trees.{Tree, Leaf, Inner, IsLawfulTree, tree_map}
use Rattle.flit_runs.specs.Workings.{Dependency}
use Rattle.flit_runs.specs.Soundness.{Needs}
use Rattle.flit_structure.specs.Lawful.{is_insert}
use Rattle.flit_crew.specs.Heaps.{at_word, waits_at, IsOpen, IsAhead}
use Rattle.flit_tree_heap.specs.Edges.{left, right, row_of, flag_of, frozen_of}
use Rattle.flit_tree_heap.specs.Routes.{Reading, IsOnRoute, reading, side, key_at, value_at}
use Rattle.flit_tree_heap.specs.Views.{TreeHeap, settled_map, IsLinked, IsEdge, IsView, Takes}
use Rattle.flit_tree_heap.specs.Kept.{IsKept}
use Rattle.flit_tree_heap.specs.Exchanges.{key_now, side_now}
use Rattle.flit_tree_heap.specs.Searches.{value_now, IsInserted, EndsAtLeaf, IsAnswered}
use Rattle.flit_tree_heap.proofs.Growths.{IsTree, last, said}
use Rattle.flit_tree_heap.proofs.Moving.{last-left, last-right}
use Rattle.flit_tree_heap.proofs.Bits.{said-some, said-other}
use Rattle.flit_tree_heap.proofs.Steps.{on-last}
use Rattle.flit_tree_heap.proofs.Images.{nowhere, lawful_to, map_get}
use Rattle.flit_tree_heap.proofs.Maps.{same_entry, gives, has_after}
use Rattle.flit_tree_heap.proofs.Rows.{edge_open, left_open, value_open}
use Rattle.flit_tree_heap.proofs.Viewing.{view_rest, view_set, shadows_view}
use Rattle.flit_tree_heap.proofs.Recovering.{ahead_apart}
use Rattle.flit_tree_heap.proofs.Sameness.{edge_on, side_edge}
use Rattle.flit_tree_heap.proofs.Winning.{key_seen, side_seen, led_plain}

-- ---- a pair of a list with a property, or none

and_left : (a b : Bool) → (a && b) ≡ true → a ≡ true
and_left true b e = refl
and_left false b e = absurd (false≢true e)

and_right : (a b : Bool) → (a && b) ≡ true → b ≡ true
and_right true b e = e
and_right false b e = absurd (false≢true e)

both : (a b : Bool) → a ≡ true → b ≡ true → (a && b) ≡ true
both a b e f = rw (e, f) refl

unequal : (w k : ℕ) → not (w == k) ≡ true → w ≢ k
unequal w k e same = false≢true (sym (ap not (eq-eqb w k same)) ∙ e)

find_here : (k : ℕ) (x : Entry) (es : List (ℕ × Entry)) → find nat_cmp k ((k, x) ∷ es) ≡ Some x
find_here k x es = rw (unsigned_tied k k, eq-eqb k k refl) refl

find_there : (w k : ℕ) (x : Entry) (es : List (ℕ × Entry)) → w ≢ k → find nat_cmp w ((k, x) ∷ es) ≡ find nat_cmp w es
find_there w k x es n = rw (unsigned_tied w k, ne_eqb w k n) refl

Search : (ℕ → Entry → Bool) → List (ℕ × Entry) → Type 0
Search P es = ((w : ℕ) × (e : Entry) × (find nat_cmp w es ≡ Some e) × (P w e ≡ true)) ⊎ ((w : ℕ) (e : Entry) → find nat_cmp w es ≡ Some e → P w e ≡ true → ⊥)

search : (es : List (ℕ × Entry)) (P : ℕ → Entry → Bool) → Search P es
unfolding Search
search [] P = inr (λ w e h p. let c : None ≡ Some e = h in absurd cc)
search ((k, x) ∷ es) P = elim (cases_Bool (P k x)) [
  | inl y ↦ inl (k, x, find_here k x es, y)
  | inr n ↦ elim (search es (λ w e. not (w == k) && P w e)) [
    | inl f ↦
        let apart = unequal f.0 k (and_left (not (f.0 == k)) (P f.0 f.1) f.3) in
        inl (f.0, f.1, find_there f.0 k x es apart ∙ f.2, and_right (not (f.0 == k)) (P f.0 f.1) f.3)
    | inr g ↦ inr (λ w e h p. elim (cases_eq w k) [
      | inl same ↦
          let e_is : x ≡ e = same_entry x e (sym (find_here k x es) ∙ ap (λ q. find nat_cmp q ((k, x) ∷ es)) (sym same) ∙ h) in
          false≢true (sym n ∙ ap (P k) e_is ∙ ap (λ q. P q e) (sym same) ∙ p)
      | inr apart ↦ g w e (sym (find_there w k x es apart) ∙ h) (both (not (w == k)) (P w e) (ap not (ne_eqb w k apart)) p)
    ])
  ]
]

-- an update of a key waits, or none does
waits_or_not : (h : TreeHeap) (key : ℕ) → ((w : ℕ) × (e : Entry) × (waits_at h w ≡ Some e) × (key_of e.call ≡ key))
    ⊎ ((w : ℕ) (e : Entry) → waits_at h w ≡ Some e → key_of e.call ≢ key)
unfolding Search
waits_or_not h key = elim (search (fin.entries h.progress.waiting) (λ w e. key_of e.call == key)) [
  | inl f ↦ inl (f.0, f.1, get-entries h.progress.waiting f.0 ∙ f.2, eqb-true (key_of f.1.call) key f.3)
  | inr g ↦ inr (λ w e b same. g w e (sym (get-entries h.progress.waiting w) ∙ b) (eq-eqb (key_of e.call) key same))
]

-- a route ends where it comes to a flag
flagged_last : (V : Reading) (k v w lo hi : ℕ) (t : Tree) → IsTree V w lo hi t → IsOnRoute V k v w t → V.flag v ≡ true → last V k w t ≡ v
flagged_last V k v w lo hi (Leaf r) h o f = o
flagged_last V k v w lo hi (Inner r a b) h (inl o) f = absurd (false≢true (sym h.0.unflagged ∙ ap V.flag o ∙ f))
flagged_last V k v w lo hi (Inner r a b) h (inr (inl o)) f = last-left V k w r a b o.0 ∙ flagged_last V k v (left r) lo (V.key r) a h.1 o.1 f
flagged_last V k v w lo hi (Inner r a b) h (inr (inr o)) f = last-right V k w r a b o.0 ∙ flagged_last V k v (right r) (V.key r) hi b h.2 o.1 f

-- an update that takes its key out is a remove, and one that gives a value inserts it
is_remove : (c : Call) (r : Reply) → is_update_by c r ≡ true → gives c ≡ None → is_insert c ≡ false
is_remove (Insert k v) r u e = let c : Some v ≡ None = e in absurd cc
is_remove (Remove k) r u e = refl
is_remove (Contains_call k) r u e = refl
is_remove (Get k) r u e = refl

is_inserting : (c : Call) (r : Reply) (value : ℕ) → is_update_by c r ≡ true → gives c ≡ Some value → c ≡ Insert (key_of c) value
is_inserting (Insert k v) r value u e = let c : Some v ≡ Some value = e in let d : v ≡ value = cc in ap (Insert k) d
is_inserting (Remove k) r value u e = let c : None ≡ Some value = e in absurd cc
is_inserting (Contains_call k) r value u e = let c : None ≡ Some value = e in absurd cc
is_inserting (Get k) r value u e = let c : None ≡ Some value = e in absurd cc

-- ---- the least view that takes some needs

module _ (l : Layout) (free : List ℕ) (h : TreeHeap) (K : IsKept l free h) where
  fits : Dependency → Bool
  fits d = (version_of (at_word h d.word) == d.version) && (not (is_tagged (at_word h d.word)) && nat_lt d.word (words_of l))

  taking : List Dependency → List ℕ
  taking [] = h.shadows
  taking (d ∷ ds) = cond (fits d) (slice_set (taking ds) d.word (at_word h d.word)) (taking ds)

  untag : (b : Bool) → not b ≡ true → b ≡ false
  untag true e = absurd (false≢true e)
  untag false e = refl

  fits_parts : (d : Dependency) → fits d ≡ true → (version_of (at_word h d.word) ≡ d.version) × (is_tagged (at_word h d.word) ≡ false) × (d.word < words_of l)
  unfolding fits
  fits_parts d e =
      let a = version_of (at_word h d.word) == d.version in
      let b = not (is_tagged (at_word h d.word)) in
      let c = nat_lt d.word (words_of l) in
      let rest = and_right a (b && c) e in (
        eqb-true (version_of (at_word h d.word)) d.version (and_left a (b && c) e),
        untag (is_tagged (at_word h d.word)) (and_left b c rest),
        ltb-true d.word (words_of l) (and_right b c rest),
      )

  fits_from : (d : Dependency) → IsOpen l free h d.word → version_of (at_word h d.word) ≡ d.version → fits d ≡ true
  unfolding fits
  fits_from d o e = rw (eq-eqb (version_of (at_word h d.word)) d.version e, K.bare d.word o, lt-ltb d.word (words_of l) o.within) refl

  taking_yes : (d : Dependency) (ds : List Dependency) → fits d ≡ true → taking (d ∷ ds) ≡ slice_set (taking ds) d.word (at_word h d.word)
  unfolding taking
  taking_yes d ds e = ap (λ b. cond b (slice_set (taking ds) d.word (at_word h d.word)) (taking ds)) e

  taking_no : (d : Dependency) (ds : List Dependency) → fits d ≡ false → taking (d ∷ ds) ≡ taking ds
  unfolding taking
  taking_no d ds e = ap (λ b. cond b (slice_set (taking ds) d.word (at_word h d.word)) (taking ds)) e

  taking_view : (ds : List Dependency) → IsView l free h (taking ds)
  unfolding taking
  taking_view [] = shadows_view l free h K
  taking_view (d ∷ ds) = elim (cases_Bool (fits d)) [
    | inl y ↦
        let p = fits_parts d y in
        subst (IsView l free h) (sym (taking_yes d ds y)) (view_set l free h (taking ds) (taking_view ds) d.word (at_word h d.word) p.2 p.1 (inl refl))
    | inr n ↦ subst (IsView l free h) (sym (taking_no d ds n)) (taking_view ds)
  ]

  set_here : (ds : List Dependency) (w : ℕ) → w < words_of l → slice_index (slice_set (taking ds) w (at_word h w)) w ≡ at_word h w
  set_here ds w b = get_or-set_same (taking ds) w (at_word h w) 0 (subst (λ n. w < n) (sym (taking_view ds).whole) b)

  -- a word that it has stays when more are taken
  taking_more : (d : Dependency) (ds : List Dependency) (w : ℕ) → slice_index (taking ds) w ≡ at_word h w → slice_index (taking (d ∷ ds)) w ≡ at_word h w
  taking_more d ds w has = elim (cases_Bool (fits d)) [
    | inr n ↦ ap (λ V. slice_index V w) (taking_no d ds n) ∙ has
    | inl y ↦ ap (λ V. slice_index V w) (taking_yes d ds y) ∙ elim (cases_eq w d.word) [
      | inl e ↦ rw e (set_here ds d.word (fits_parts d y).2)
      | inr n ↦ get_or-set_other (taking ds) d.word w (at_word h d.word) 0 n ∙ has
    ]
  ]

  taking_takes : (ds : List Dependency) → Takes l free h ds (taking ds)
  taking_takes [] w o n = absurd n
  taking_takes (d ∷ ds) w o (inl e) =
      let od : IsOpen l free h d.word = subst (IsOpen l free h) (sym e.0) o in
      let y : fits d ≡ true = fits_from d od (ap (λ v. version_of (at_word h v)) e.0 ∙ sym e.1) in
      subst (λ v. slice_index (taking (d ∷ ds)) v ≡ at_word h v) e.0 (ap (λ V. slice_index V d.word) (taking_yes d ds y) ∙ set_here ds d.word od.within)
  taking_takes (d ∷ ds) w o (inr n) = taking_more d ds w (taking_takes ds w o n)

  -- a word that is ahead is taken only where it is needed
  taken_needed : (ds : List Dependency) (w : ℕ) → IsAhead h w → slice_index (taking ds) w ≡ at_word h w → Needs ds w (version_of (at_word h w))
  unfolding taking
  taken_needed [] w a e = absurd (ahead_apart h w a e)
  taken_needed (d ∷ ds) w a e = elim (cases_Bool (fits d)) [
    | inr n ↦ inr (taken_needed ds w a (ap (λ V. slice_index V w) (sym (taking_no d ds n)) ∙ e))
    | inl y ↦ elim (cases_eq w d.word) [
      | inl x ↦ inl (sym x, sym (fits_parts d y).0 ∙ ap (λ v. version_of (at_word h v)) (sym x))
      | inr n ↦ inr (taken_needed ds w a (sym (get_or-set_other (taking ds) d.word w (at_word h d.word) 0 n)
          ∙ ap (λ V. slice_index V w) (sym (taking_yes d ds y)) ∙ e))
    ]
  ]

  -- ---- the end of a search

  module _ (needs : List Dependency) (key row : ℕ) (A : EndsAtLeaf l free h needs key row) where
    abbrev edge : ℕ
    edge = side_now l h key row

    abbrev leaf : ℕ
    leaf = row_of (at_word h edge)

    abbrev V : List ℕ
    V = taking needs

    v : IsView l free h V
    v = taking_view needs

    E : IsEdge l h edge
    E = side_edge l h key row A.linked A.inner

    leaf_linked : IsLinked l h leaf
    leaf_linked = (edge_on l h edge E).word

    seen : slice_index V edge ≡ at_word h edge
    seen = taking_takes needs edge (edge_open l free h K edge E) A.needed

    tree : (t : Tree) × IsLawfulTree l V t
    tree = K.images V v

    ends : last (reading l V) key 4 tree.0 ≡ edge
    ends =
        let x : side (reading l V) key row ≡ edge = side_seen l free h K V v key row A.linked in
        let o : IsOnRoute (reading l V) key edge 4 tree.0 = subst (λ w. IsOnRoute (reading l V) key w 4 tree.0) x
        (led_plain (reading l V) tree.0 key row (A.led V tree.0 v (taking_takes needs) tree.1)
        (ap (λ w. flag_of (slice_index V w)) x ∙ ap flag_of seen ∙ A.plain.unflagged)
        (ap (λ w. frozen_of (slice_index V w)) x ∙ ap frozen_of seen ∙ A.plain.unfrozen)) in
        on-last (reading l V) key edge 4 0 4294967294 tree.0 (lawful_to l K.layout.accepted K.layout.kind V tree.0 tree.1).is o
        (ap (λ x. row_of (slice_index V (left (row_of x)))) seen
        ∙ ap row_of (view_rest l free h V v (left leaf) (left_open l free h K leaf leaf_linked) A.leaf.left_rest)
        ∙ (nowhere (at_word h (left leaf)) A.leaf.no_left).0)

    leaf_key : key_at l V (row_of (slice_index V edge)) ≡ key_now l h leaf
    leaf_key = ap (λ x. key_at l V (row_of x)) seen ∙ key_seen l free h K V v leaf leaf_linked

    value_case : (b : Bool) → l.values ≡ b → cond b (value_of (slice_index V (value_word_of l leaf))) 0 ≡ cond b (value_of (at_word h (value_word_of l leaf))) 0
    value_case true e = ap value_of (view_rest l free h V v (value_word_of l leaf) (value_open l free h K leaf leaf_linked e)
        ((K.linked leaf leaf_linked).value e))
    value_case false e = refl

    leaf_value : value_at l V (row_of (slice_index V edge)) ≡ value_now l h leaf
    unfolding value_at
    leaf_value = ap (λ x. value_at l V (row_of x)) seen ∙ value_case l.values refl

    map_is : fin.get (tree_map l V tree.0) key ≡ said (reading l V) key edge
    map_is = map_get l K.layout.accepted K.layout.kind V tree.0 tree.1 key A.below ∙ ap (said (reading l V) key) ends

    -- what the settled map has, where no update of the key is taken
    untaken : ((w : ℕ) (e : Entry) → waits_at h w ≡ Some e → slice_index V w ≡ at_word h w → key_of e.call ≢ key) →
        fin.get (settled_map h) key ≡ said (reading l V) key edge
    untaken n = sym ((K.maps V tree.0 v tree.1).others key n) ∙ map_is

    -- what the update of the key gives, where it is taken
    taken_gives : (w : ℕ) (e : Entry) → waits_at h w ≡ Some e → key_of e.call ≡ key → slice_index V w ≡ at_word h w → gives e.call ≡ said (reading l V) key edge
    taken_gives w e b same x =
        let W = K.waits w e b in
        sym (has_after (settled_map h) e.call e.reply W.update W.legal) ∙ sym ((K.maps V tree.0 v tree.1).taken w e b x)
        ∙ ap (fin.get (tree_map l V tree.0)) same ∙ map_is

    -- another update of the key can't be taken
    only_one : (w : ℕ) (e : Entry) → waits_at h w ≡ Some e → key_of e.call ≡ key → slice_index V w ≢ at_word h w →
        (u : ℕ) (d : Entry) → waits_at h u ≡ Some d → slice_index V u ≡ at_word h u → key_of d.call ≢ key
    only_one w e b same n u d c x k = n (subst (λ q. slice_index V q ≡ at_word h q) (K.apart u w d e c b (k ∙ sym same)) x)

    answer_none : key_now l h leaf ≢ key → fin.get (settled_map h) key ≡ None
    answer_none apart =
        let none : said (reading l V) key edge ≡ None = said-other (reading l V) key edge (λ e. apart (sym leaf_key ∙ e)) in
        elim (waits_or_not h key) [
          | inr n ↦ untaken (λ w e b x. n w e b) ∙ none
          | inl f ↦ elim (cases_eq (slice_index V f.0) (at_word h f.0)) [
            | inr n ↦ untaken (only_one f.0 f.1 f.2 f.3 n) ∙ none
            | inl x ↦
                let W = K.waits f.0 f.1 f.2 in
                let flag : flag_of (at_word h f.0) ≡ true =
                W.flagged (is_remove f.1.call f.1.reply W.update (taken_gives f.0 f.1 f.2 f.3 x ∙ none)) in
                let o = subst (λ q. IsOnRoute (reading l V) q f.0 4 tree.0) f.3 (W.routes V tree.0 v tree.1) in
                let here = flagged_last (reading l V) key f.0 4 0 4294967294 tree.0 (lawful_to l K.layout.accepted K.layout.kind V tree.0 tree.1).is o
                (ap flag_of x ∙ flag) in
                absurd (false≢true (sym A.plain.unflagged ∙ ap (λ w. flag_of (at_word h w)) (sym ends ∙ here) ∙ flag))
          ]
        ]

    answer_some : key_now l h leaf ≡ key → (fin.get (settled_map h) key ≡ Some (value_now l h leaf)) ⊎ IsInserted h needs key (value_now l h leaf)
    answer_some same =
        let some : said (reading l V) key edge ≡ Some (value_now l h leaf) =
        said-some (reading l V) key edge (leaf_key ∙ same) (ap flag_of seen ∙ A.plain.unflagged) ∙ ap Some leaf_value in
        elim (waits_or_not h key) [
          | inr n ↦ inl (untaken (λ w e b x. n w e b) ∙ some)
          | inl f ↦ elim (cases_eq (slice_index V f.0) (at_word h f.0)) [
            | inr n ↦ inl (untaken (only_one f.0 f.1 f.2 f.3 n) ∙ some)
            | inl x ↦
                let W = K.waits f.0 f.1 f.2 in
                inr (record {
                  word = f.0;
                  entry = f.1;
                  waits = f.2;
                  needed = taken_needed needs f.0 W.ahead x;
                  call = is_inserting f.1.call f.1.reply (value_now l h leaf) W.update (taken_gives f.0 f.1 f.2 f.3 x ∙ some)
                      ∙ ap (λ k. Insert k (value_now l h leaf)) f.3;
                })
          ]
        ]

    pub answered : IsAnswered l h needs key leaf
    answered = record { absent = answer_none; present = answer_some }
