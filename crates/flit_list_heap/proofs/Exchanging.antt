-- A won exchange of a link word keeps what is kept, and leaves what others rely on: a mark, a link past a marked row, and
-- a link to a new row.
use Rattle.std.proofs.Common.{◌≡◌, ◌≢◌, ℕ, ◌+◌, ◌<◌, ◌≤◌, ◌-◌, ◌*◌, length, true, false, List, [], ◌∷◌, ◌++◌, Option, Some, None, Contains, refl, sym, ap, ◌∙◌, inl, inr, ◌⊎◌, arith, subst, if◌then◌else◌}
use Rattle.std.proofs.lemmas.Bool.{cases_eq, cases_Bool, both_ways}
use Rattle.std.proofs.lemmas.List.{length-set, append-nil}
use Rattle.std.proofs.lemmas.List.Elements.{Contains-append_right}
use Rattle.flit_words.specs.declared.layouts.Layout.{Layout}
use Rattle.flit_words.specs.declared.layouts.Kind.{Kind}
use Rattle.flit_words.specs.declared.layouts.Kind.TheVariants.{List as List_kind, Hash, Tree as Tree_kind}
use Rattle.flit_words.specs.declared.limits.TheConstants.{GREATEST_KEY}
use Rattle.flit_words.specs.Layouts.{parts_of, last_row_of, row_word_of, value_word_of}
use Rattle.flit_words.specs.Words.{is_tagged, version_of, value_of}
use Rattle.flit_place.proofs.CoverSteps.{index-set}
use Rattle.flit_model.specs.Maps.{IsLegal, map_after_all}
use Rattle.flit_model.specs.Lists.{key_in, row_value_in, next_word}
use Rattle.flit_model.specs.declared.calls.Entry.{Entry}
use Rattle.flit_model.proofs.Elements.{all_contained}
use Rattle.flit_model.proofs.Membership.{contains_first, contains_cases}
use Rattle.flit_crew.specs.Heaps.{at_word, at_shadow, waits_at, won, IsOpen, IsWordOf}
use Rattle.flit_list_heap.specs.Links.{LinkWord, Head, Next, Rows, place_of, IsLink, link_held, row_of, is_marked, by_of}
use Rattle.flit_list_heap.specs.Chained.{Chained}
use Rattle.flit_list_heap.specs.Moves.{with_linked, plain_link, marked_link, Still}
use Rattle.flit_list_heap.specs.Keeping.{ListHeap, IsLinked, IsLinkAt, rows_at, word_in, shadow_in, entry_in, content_of, HasInsert, Kept, Later}
use Rattle.flit_list_heap.specs.Winning.{MayChange, MayMark, MayUnlink, MayLink}
use Rattle.flit_list_heap.proofs.Base.{cases_word}
use Rattle.flit_list_heap.proofs.Parts.{value_with, mark-held, by-held}
use Rattle.flit_list_heap.proofs.Moving.{none-before, move-mark, move-unlink, move-link}
use Rattle.flit_list_heap.proofs.Agreeing.{heap-agrees}
use Rattle.flit_list_heap.proofs.Rekeying.{heap-rekeyed}
use Rattle.flit_list_heap.proofs.Picking.{put_at, pick_here, pick_there, put_changed}
use Rattle.flit_list_heap.proofs.Progressing.{effect_off, effect_here, effect_list}
use Rattle.flit_list_heap.proofs.Inserting.{insert_stays, insert_waits}
use Rattle.flit_list_heap.proofs.Places.{place_one, place_below, key_apart, value_apart, row_fits, next-place, pool_from}

module _ (l : Layout) (free : List ℕ) (h : ListHeap) (kept : Kept l free h) (y : LinkWord) (from to : ℕ) (may : MayChange l h y from to)
    (e : Option Entry) (rows : List ℕ) where
  abbrev c : Rows
  c = rows_at l h

  abbrev w : ℕ
  w = place_of l y

  abbrev k : ListHeap
  k = won h w to e rows h.ghost

  abbrev wide : Rows
  wide = with_linked c (λ q. IsLinked l k q)

  still : Still c h.ghost (word_in l h) (shadow_in l h) y
  still = record { link = may.link; solid = may.word ∙ sym may.shadow; rooted = may.rooted; kept = ap is_marked may.shadow ∙ may.unmarked }

  version : version_of to ≡ version_of (shadow_in l h y) + 1
  version = may.next ∙ ap (λ u. version_of u + 1) (sym may.shadow)

  within : w < length h.words
  within = subst (λ n. w < n) (sym kept.words) (place_below l free h kept y may.link)

  now_off : (v : ℕ) → v ≢ w → at_word k v ≡ at_word h v
  now_off v ne = elim (index-set h.words w to v within) [ inl i ↦ absurd (ne i.0) | inr i ↦ i.1 ]

  now_here : (v : ℕ) → v ≡ w → at_word k v ≡ to
  now_here v s = elim (index-set h.words w to v within) [ inl i ↦ i.1 | inr i ↦ absurd (i.0 s) ]

  not_key : (r : ℕ) → row_word_of l r 0 ≢ w
  not_key r = key_apart l free h kept r y may.link

  not_value : (r : ℕ) → value_word_of l r ≢ w
  not_value r = value_apart l free h kept r y may.link

  key_stays : (r : ℕ) → key_in l k.words r ≡ key_in l h.words r
  key_stays r = ap value_of (now_off (row_word_of l r 0) (not_key r))

  value_stays : (r : ℕ) → row_value_in l k.words r ≡ row_value_in l h.words r
  value_stays r = value_with l.values (at_word k (value_word_of l r)) (at_word h (value_word_of l r)) (λ v. now_off (value_word_of l r) (not_value r))

  grows : (q : ℕ) → IsLinked l h q → IsLinked l k q
  grows q (inl a) = inl a
  grows q (inr b) = inr (Contains-append_right rows h.given q b)

  wider : (x : LinkWord) → IsLinkAt l h x → IsLinkAt l k x
  wider (Head g) m = m
  wider (Next r) m = grows r m

  -- the rows that are linked now
  pub record Joining : Type 0 where
    pub given : (row : ℕ) → Contains (rows ++ h.given) row → Contains free row
    pub bare : (v : ℕ) → IsOpen l free k v → is_tagged (at_word h v) ≡ false
    pub keys : (row : ℕ) → IsLinked l k row → at_word h (row_word_of l row 0) ≡ at_shadow h (row_word_of l row 0)
    pub values : (row : ℕ) → IsLinked l k row → l.values ≡ true → at_word h (value_word_of l row) ≡ at_shadow h (value_word_of l row)
    pub small : (row : ℕ) → IsLinked l k row → key_in l h.words row ≤ GREATEST_KEY
    pub grown : (row : ℕ) → Contains (rows ++ h.given) row → HasInsert k.progress (key_in l h.words row)
    -- and no new link word stands where the changed one does
    pub one : (x : LinkWord) → IsLinkAt l k x → place_of l x ≡ w → x ≡ y

  module _ (j : Joining) (quiet : waits_at h w ≡ None)
      (heap : Chained wide h.ghost (put_at (word_in l h) y to) (shadow_in l h) (put_at (entry_in l h) y e) (content_of h)) where
    not_place : (x : LinkWord) → IsLinkAt l k x → x ≢ y → place_of l x ≢ w
    not_place x m ne z = ne (j.one x m z)

    to_wide : (x : LinkWord) → IsLink wide x → IsLinkAt l k x
    to_wide (Head g) m = m
    to_wide (Next r) m = m

    words_agree : (x : LinkWord) → IsLink wide x → word_in l k x ≡ put_at (word_in l h) y to x
    words_agree x m = elim (cases_word x y) [
      | inl s ↦ now_here (place_of l x) (ap (place_of l) s) ∙ sym (pick_here x y to (word_in l h x) (cases_word x y) s)
      | inr ne ↦ now_off (place_of l x) (not_place x (to_wide x m) ne) ∙ sym (pick_there x y to (word_in l h x) (cases_word x y) ne)
    ]

    entries_agree : (x : LinkWord) → IsLink wide x → entry_in l k x ≡ put_at (entry_in l h) y e x
    entries_agree x m = elim (cases_word x y) [
      | inl s ↦ effect_here h.progress w (place_of l x) e quiet (ap (place_of l) s) ∙ sym (pick_here x y e (entry_in l h x) (cases_word x y) s)
      | inr ne ↦ effect_off h.progress w (place_of l x) e (not_place x (to_wide x m) ne) ∙ sym (pick_there x y e (entry_in l h x) (cases_word x y) ne)
    ]

    same_list : k.progress.settled ≡ h.progress.settled
    same_list = effect_list h.progress w e

    pub kept_won : Kept l free k
    kept_won = record {
      accepted = kept.accepted;
      pool = kept.pool;
      words = length-set h.words w to ∙ kept.words;
      shadows = kept.shadows;
      opened = kept.opened;
      apart = kept.apart;
      given = j.given;
      bare = λ v reached. elim (cases_eq v w) [ inl s ↦ ap is_tagged (now_here v s) ∙ may.bare | inr ne ↦ ap is_tagged (now_off v ne) ∙ j.bare v reached ];
      untagged = kept.untagged;
      keys = λ r m. now_off (row_word_of l r 0) (not_key r) ∙ j.keys r m;
      values = λ r m v. now_off (value_word_of l r) (not_value r) ∙ j.values r m v;
      small = λ r m. subst (λ n. n ≤ GREATEST_KEY) (sym (key_stays r)) (j.small r m);
      stays = λ r a. key_stays r ∙ kept.stays r a;
      grown = λ r g. subst (HasInsert k.progress) (sym (key_stays r)) (j.grown r g);
      elsewhere = λ v a. effect_off h.progress w v e (λ s. a y (wider y may.link) (sym s)) ∙ kept.elsewhere v (λ x m z. a x (wider x m) z);
      legal = subst (IsLegal h.opening.content) (sym same_list) kept.legal;
      chained = subst (Chained (rows_at l k) h.ghost (word_in l k) (shadow_in l k) (entry_in l k)) (ap (map_after_all h.opening.content) (sym same_list))
          (heap-rekeyed wide (key_in l k.words) (row_value_in l k.words) (λ r m. key_stays r) (λ r m. value_stays r)
          h.ghost (word_in l k) (shadow_in l k) (entry_in l k) (content_of h)
          (heap-agrees wide (put_at (word_in l h) y to) (shadow_in l h) (word_in l k) (shadow_in l k) words_agree (λ x m. refl) h.ghost
          (put_at (entry_in l h) y e) (entry_in l k) (content_of h) entries_agree heap));
    }

  -- what others rely on
  pub later_won : (who : Option ℕ) → (l.values ≡ true → is_marked to ≡ true → who ≡ Some (by_of to)) → Later l who h k
  later_won who named = record {
    opening = refl;
    given = λ r m. Contains-append_right rows h.given r m;
    settled = λ r s. s;
    updates = ([], effect_list h.progress w e ∙ sym (append-nil h.progress.settled));
    keys = λ r m. now_off (row_word_of l r 0) (not_key r);
    values = λ r m v. now_off (value_word_of l r) (not_value r);
    word = λ x m. elim (cases_eq (place_of l x) w) [
      | inl s ↦ inr (record {
        solid = ap (at_word h) s ∙ may.word ∙ sym may.shadow ∙ ap (at_shadow h) (sym s);
        stays = refl;
        unmarked = ap is_marked (ap (at_word h) s ∙ may.word) ∙ may.unmarked;
        next = ap version_of (now_here (place_of l x) s) ∙ may.next ∙ ap (λ u. version_of u + 1) (sym (ap (at_word h) s ∙ may.word));
      })
      | inr ne ↦ inl (now_off (place_of l x) ne)
    ];
    shadow = λ x m. inl refl;
    joins = λ r m f t. absurd (both_ways (h.ghost r) f t);
    named = λ x m v u t. elim (cases_eq (place_of l x) w) [
      | inl s ↦ named v (ap is_marked (sym (now_here (place_of l x) s)) ∙ t) ∙ ap (λ z. Some (by_of z)) (sym (now_here (place_of l x) s))
      | inr ne ↦ absurd (both_ways (is_marked (word_in l h x)) u (ap is_marked (sym (now_off (place_of l x) ne)) ∙ t))
    ];
  }

  quiet_of : waits_at h w ≡ None
  quiet_of = none-before c h.ghost (word_in l h) (shadow_in l h) y still to (put_at (word_in l h) y to)
      (put_changed (word_in l h) y to) (λ q. IsLinked l h q) (λ q m. m) (entry_in l h y) (kept.chained.shapes y may.link)

-- ---- no row joins

module _ (l : Layout) (free : List ℕ) (h : ListHeap) (kept : Kept l free h) (y : LinkWord) (from to : ℕ) (may : MayChange l h y from to) (e : Option Entry)
  where
    none_joins : Joining l free h kept y from to may e []
    none_joins = record {
      given = kept.given;
      bare = λ v reached. kept.bare v (record { within = reached.within; given = reached.given; ours = reached.ours });
      keys = kept.keys;
      values = kept.values;
      small = kept.small;
      grown = λ r g. insert_stays h.progress (place_of l y) (key_in l h.words r) e (quiet_of l free h kept y from to may e []) (kept.grown r g);
      one = λ x m z. place_one l free h kept x y (same x m) may.link z;
    }
      where
        same : (x : LinkWord) → IsLinkAt l (won h (place_of l y) to e [] h.ghost) x → IsLinkAt l h x
        same (Head g) m = m
        same (Next r) m = m

module _ (l : Layout) (free : List ℕ) (h : ListHeap) (kept : Kept l free h) (row from to : ℕ) (update : Entry) (may : MayMark l h row from to update) where
  pub kept_marked : Kept l free (won h (next_word l row) to (Some update) [] h.ghost)
  kept_marked = kept_won l free h kept (Next row) from to may.change (Some update) [] (none_joins l free h kept (Next row) from to may.change (Some update))
      (quiet_of l free h kept (Next row) from to may.change (Some update) [])
      (move-mark (rows_at l h) h.ghost (word_in l h) (shadow_in l h) (entry_in l h) (content_of h) kept.chained (Next row)
      (still l free h kept (Next row) from to may.change (Some update) []) to
      (put_at (word_in l h) (Next row) to) (put_changed (word_in l h) (Next row) to) (Some update)
      (put_at (entry_in l h) (Next row) (Some update)) (put_changed (entry_in l h) (Next row) (Some update)) row update
      (record {
        place = refl;
        entry = refl;
        call = may.call;
        reply = may.reply;
        version = version l free h kept (Next row) from to may.change (Some update) [];
        link = may.link ∙ ap (λ u. marked_link (row_of u) (if l.values then update.worker else 0)) (sym may.change.shadow);
        who = may.name;
      }))

  pub later_marked : Later l (Some update.worker) h (won h (next_word l row) to (Some update) [] h.ghost)
  later_marked = later_won l free h kept (Next row) from to may.change (Some update) [] (Some update.worker)
      (λ v t. ap Some (sym (by-held to (marked_link (row_of from) (if l.values then update.worker else 0)) may.link
      ∙ ap (λ b. if b then update.worker else 0) v)))

module _ (l : Layout) (free : List ℕ) (h : ListHeap) (kept : Kept l free h) (y : LinkWord) (from to : ℕ) (may : MayUnlink l h y from to) where
  pub kept_unlinked : Kept l free (won h (place_of l y) to None [] h.ghost)
  kept_unlinked = kept_won l free h kept y from to may.change None [] (none_joins l free h kept y from to may.change None)
      (quiet_of l free h kept y from to may.change None [])
      (move-unlink (rows_at l h) h.ghost (word_in l h) (shadow_in l h) (entry_in l h) (content_of h) kept.chained y
      (still l free h kept y from to may.change None []) to
      (put_at (word_in l h) y to) (put_changed (word_in l h) y to) None (put_at (entry_in l h) y None) (put_changed (entry_in l h) y None)
      (record {
        entry = refl;
        version = version l free h kept y from to may.change None [];
        some = subst (λ u. 1 ≤ row_of u) (sym may.change.shadow) may.some;
        gone = subst (λ u. is_marked (shadow_in l h (Next (row_of u))) ≡ true) (sym may.change.shadow) may.marked;
        link = may.link ∙ ap (λ u. plain_link (row_of (shadow_in l h (Next (row_of u))))) (sym may.change.shadow);
      }))

  pub later_unlinked : (who : Option ℕ) → Later l who h (won h (place_of l y) to None [] h.ghost)
  later_unlinked who = later_won l free h kept y from to may.change None [] who
      (λ v t. absurd (both_ways (is_marked to) (mark-held to (plain_link (row_of (shadow_in l h (Next (row_of from))))) may.link) t))

-- ---- a row joins

module _ (l : Layout) (free : List ℕ) (h : ListHeap) (kept : Kept l free h) (y : LinkWord) (from to row : ℕ) (update : Entry)
    (may : MayLink l free h y from to row update) where
  abbrev grown : ListHeap
  grown = won h (place_of l y) to (Some update) (row ∷ []) h.ghost

  pool_row : Contains free row
  pool_row = may.rests.pool row (contains_first row [])

  row_real : 1 ≤ row
  row_real = all_contained (λ r. 1 ≤ r) free row (pool_from free kept.pool.rising) pool_row

  row_fit : row ≤ last_row_of l
  row_fit = all_contained (λ r. r ≤ last_row_of l) free row kept.pool.fit pool_row

  not_linked : IsLinked l h row → ⊥
  not_linked (inl a) = kept.apart row pool_row a
  not_linked (inr b) = may.rests.unlinked row (contains_first row []) b

  only : (q : ℕ) → IsLinked l grown q → IsLinked l h q ⊎ (q ≡ row)
  only q (inl a) = inl (inl a)
  only q (inr b) = elim (contains_cases row h.given q b) [ inl s ↦ inr (sym s) | inr m ↦ inl (inr m) ]

  row_joins : IsLinked l grown row
  row_joins = inr (contains_first row h.given)

  next_next : (b r q : ℕ) → 1 ≤ r → 1 ≤ q → b + 2 * (r - 1) + 1 ≡ b + 2 * (q - 1) + 1 → r ≡ q
  next_next b r q i m s = omega (arith, i, m, s)

  -- no link word stands where its next word does
  next_new : (x : LinkWord) → IsLinkAt l h x → place_of l x ≡ next_word l row → ⊥
  next_new (Head a) m z = head_next l.buckets a row m (z ∙ next-place l kept.chained.kind row)
    where
      head_next : (b a q : ℕ) → a < b → a ≡ b + 2 * (q - 1) + 1 → ⊥
      head_next b a q i s = omega (arith, i, s)
  next_new (Next q) m z = not_linked (subst (IsLinked l h) (next_next l.buckets q row (row_fits l free h kept q m).0 row_real
      (sym (next-place l kept.chained.kind q) ∙ z ∙ next-place l kept.chained.kind row)) m)

  word_rests : (v : ℕ) → IsWordOf l row v → at_word h v ≡ at_shadow h v
  word_rests v o = may.rests.words row v (contains_first row []) o

  part_of : (k : Kind) → k ≢ Tree_kind → (p : ℕ) → p < 2 → p < parts_of k
  part_of List_kind o p b = b
  part_of Hash o p b = b
  part_of Tree_kind o p b = absurd (o refl)

  key_word : IsWordOf l row (row_word_of l row 0)
  key_word = inl (0, part_of l.kind kept.chained.kind 0 (omega arith), refl)

  next_of : IsWordOf l row (next_word l row)
  next_of = inl (1, part_of l.kind kept.chained.kind 1 (omega arith), refl)

  -- whether a word is one of the new row's
  word_or : (v : ℕ) → IsWordOf l row v ⊎ (IsWordOf l row v → ⊥)
  word_or v = elim (cases_eq v (row_word_of l row 0)) [
    | inl s ↦ inl (subst (IsWordOf l row) (sym s) key_word)
    | inr nk ↦ elim (cases_eq v (next_word l row)) [
      | inl s ↦ inl (subst (IsWordOf l row) (sym s) next_of)
      | inr nn ↦ elim (cases_eq v (value_word_of l row)) [
        | inl s ↦ elim (cases_Bool l.values) [
          | inl t ↦ inl (inr (t, s))
          | inr f ↦ inr (λ o. elim o [ inl p ↦ no_part l.kind kept.chained.kind p.0 p.1 p.2 nk nn | inr q ↦ both_ways l.values f q.0 ])
        ]
        | inr nv ↦ inr (λ o. elim o [ inl p ↦ no_part l.kind kept.chained.kind p.0 p.1 p.2 nk nn | inr q ↦ nv q.1 ])
      ]
    ]
  ]
    where
      two_parts : (k : Kind) → k ≢ Tree_kind → (p : ℕ) → p < parts_of k → (p ≡ 0) ⊎ (p ≡ 1)
      two_parts List_kind o p b = elim (cases_eq p 0) [ inl s ↦ inl s | inr ne ↦ inr (omega arith) ]
      two_parts Hash o p b = elim (cases_eq p 0) [ inl s ↦ inl s | inr ne ↦ inr (omega arith) ]
      two_parts Tree_kind o p b = absurd (o refl)

      no_part : (k : Kind) → k ≢ Tree_kind → (p : ℕ) → p < parts_of k → v ≡ row_word_of l row p → v ≢ row_word_of l row 0 → v ≢ next_word l row → ⊥
      no_part k o p b s nk nn = elim (two_parts k o p b) [
        | inl z ↦ nk (s ∙ ap (row_word_of l row) z)
        | inr z ↦ nn (s ∙ ap (row_word_of l row) z)
      ]

  bare_joined : (v : ℕ) → IsOpen l free grown v → is_tagged (at_word h v) ≡ false
  bare_joined v reached = elim (word_or v) [
    | inl o ↦ ap is_tagged (word_rests v o) ∙ kept.untagged v reached.within
    | inr n ↦ kept.bare v (record {
      within = reached.within;
      given = λ q pool o. elim (contains_cases row h.given q (reached.given q pool o)) [
        | inl s ↦ absurd (n (subst (λ z. IsWordOf l z v) (sym s) o))
        | inr m ↦ m
      ];
      ours = reached.ours;
    })
  ]

  quiet : waits_at h (place_of l y) ≡ None
  quiet = quiet_of l free h kept y from to may.change (Some update) (row ∷ [])

  row_joining : Joining l free h kept y from to may.change (Some update) (row ∷ [])
  row_joining = record {
    given = λ q m. elim (contains_cases row h.given q m) [ inl s ↦ subst (Contains free) s pool_row | inr n ↦ kept.given q n ];
    bare = bare_joined;
    keys = λ q m. elim (only q m) [
      | inl o ↦ kept.keys q o
      | inr s ↦ subst (λ z. at_word h (row_word_of l z 0) ≡ at_shadow h (row_word_of l z 0)) (sym s) (word_rests (row_word_of l row 0) key_word)
    ];
    values = λ q m v. elim (only q m) [
      | inl o ↦ kept.values q o v
      | inr s ↦ subst (λ z. at_word h (value_word_of l z) ≡ at_shadow h (value_word_of l z)) (sym s) (word_rests (value_word_of l row) (inr (v, refl)))
    ];
    grown = λ q m. elim (contains_cases row h.given q m) [
      | inl s ↦ subst (λ z. HasInsert grown.progress (key_in l h.words z)) s
          (insert_waits h.progress (place_of l y) (key_in l h.words row) (row_value_in l h.words row) update quiet may.call)
      | inr n ↦ insert_stays h.progress (place_of l y) (key_in l h.words q) (Some update) quiet (kept.grown q n)
    ];
    small = λ q m. elim (only q m) [ inl o ↦ kept.small q o | inr s ↦ subst (λ z. key_in l h.words z ≤ GREATEST_KEY) (sym s) may.small ];
    one = λ x m z. one_place x m z;
  }
    where
      one_place : (x : LinkWord) → IsLinkAt l grown x → place_of l x ≡ place_of l y → x ≡ y
      one_place (Head g) m z = place_one l free h kept (Head g) y m may.change.link z
      one_place (Next q) m z = elim (only q m) [
        | inl o ↦ place_one l free h kept (Next q) y o may.change.link z
        | inr s ↦ absurd (next_new y may.change.link (sym z ∙ ap (next_word l) s))
      ]

  pub kept_linked : Kept l free grown
  kept_linked = kept_won l free h kept y from to may.change (Some update) (row ∷ []) row_joining
      quiet
      (move-link (rows_at l h) h.ghost (word_in l h) (shadow_in l h) (entry_in l h) (content_of h) kept.chained y
      (still l free h kept y from to may.change (Some update) (row ∷ [])) to
      (put_at (word_in l h) y to) (put_changed (word_in l h) y to) (Some update) (put_at (entry_in l h) y (Some update))
      (put_changed (entry_in l h) y (Some update))
      row update
      (record {
        entry = refl;
        call = may.call;
        reply = may.reply;
        version = version l free h kept y from to may.change (Some update) (row ∷ []);
        link = may.link;
        real = row_real;
        own = not_linked;
        above = may.above;
        bucket = may.bucket;
        below = subst (λ u. (row_of u ≡ 0) ⊎ (key_in l h.words row < key_in l h.words (row_of u))) (sym may.change.shadow) may.below;
        next_solid = word_rests (next_word l row) next_of;
        next_quiet = kept.elsewhere (next_word l row) next_new;
        next_link = ap link_held (sym (word_rests (next_word l row) next_of)) ∙ may.behind ∙ ap (λ u. plain_link (row_of u)) (sym may.change.shadow);
      })
      (λ q. IsLinked l grown q) (λ q m. grows l free h kept y from to may.change (Some update) (row ∷ []) q m) only row_joins)

  pub later_linked : (who : Option ℕ) → Later l who h grown
  later_linked who = later_won l free h kept y from to may.change (Some update) (row ∷ []) who
      (λ v t. absurd (both_ways (is_marked to) (mark-held to (plain_link row) may.link) t))
