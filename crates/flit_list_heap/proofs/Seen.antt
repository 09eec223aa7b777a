-- What was seen of link words lasts, what a load gives, and what is persistent of what was seen.
use Rattle.std.proofs.Common.{◌≡◌, ◌≢◌, ℕ, ◌+◌, ◌<◌, ◌≤◌, Bool, true, false, List, ◌++◌, length, take, Option, Some, None, refl, sym, ap, ◌∙◌, inl, inr, ◌⊎◌, arith, subst}
use Rattle.std.specs.FinMap as fin
use Rattle.std.proofs.lemmas.Bool.{cases_Bool, both_ways}
use Rattle.std.proofs.lemmas.List.{take-append-le, take_all, length-append}
use Rattle.flit_words.specs.declared.layouts.Layout.{Layout}
use Rattle.flit_words.specs.Layouts.{value_word_of, head_of_key}
use Rattle.flit_words.specs.Words.{version_of, value_of}
use Rattle.flit_model.specs.Maps.{map_after_all}
use Rattle.flit_model.specs.Lists.{key_in, row_value_in}
use Rattle.flit_model.specs.declared.calls.Entry.{Entry}
use Rattle.flit_crew.specs.Heaps.{at_word}
use Rattle.flit_list_heap.specs.Links.{LinkWord, Head, Next, Rows, low, bucket_of, row_of, is_marked, by_of}
use Rattle.flit_list_heap.specs.Paths.{Follows}
use Rattle.flit_list_heap.specs.Chained.{IsRooted, Form, Shape, Solid, Linking, Marking, Unlinking}
use Rattle.flit_list_heap.specs.Keeping.{ListHeap, IsReached, IsLinked, IsLinkAt, rows_at, word_in, shadow_in, entry_in, content_of, HasMoved, Kept, Later}
use Rattle.flit_list_heap.specs.Seeing.{Saw, IsPersistentAt, IsBackPersistent, IsBehind, at_head, at_row, Spot, SawNext, Had, Gone, Here, IsNotMine}
use Rattle.flit_list_heap.proofs.Parts.{value_with}
use Rattle.flit_list_heap.proofs.Knowing.{gap, present}

-- ---- it lasts

module _ (l : Layout) (who : Option ℕ) (h k : ListHeap) (goes : Later l who h k) where
  pub linked_lasts : (r : ℕ) → IsLinked l h r → IsLinked l k r
  linked_lasts r (inl a) = inl (subst (λ o. IsReached l o.words r) (sym goes.opening) a)
  linked_lasts r (inr b) = inr (goes.given r b)

  pub key_lasts : (r : ℕ) → IsLinked l h r → key_in l k.words r ≡ key_in l h.words r
  key_lasts r m = ap value_of (goes.keys r m)

  pub value_lasts : (r : ℕ) → IsLinked l h r → row_value_in l k.words r ≡ row_value_in l h.words r
  value_lasts r m = value_with l.values (at_word k (value_word_of l r)) (at_word h (value_word_of l r)) (λ v. goes.values r m v)

  pub link_lasts : (x : LinkWord) → IsLinkAt l h x → IsLinkAt l k x
  link_lasts (Head g) m = m
  link_lasts (Next r) m = linked_lasts r m

  low_lasts : (x : LinkWord) → IsLinkAt l h x → low (rows_at l k) x ≡ low (rows_at l h) x
  low_lasts (Head g) m = refl
  low_lasts (Next r) m = ap (λ n. n + 1) (key_lasts r m)

  bucket_lasts : (x : LinkWord) → IsLinkAt l h x → bucket_of (rows_at l k) x ≡ bucket_of (rows_at l h) x
  bucket_lasts (Head g) m = refl
  bucket_lasts (Next r) m = ap (head_of_key l) (key_lasts r m)

  follows_lasts : (x : LinkWord) (r : ℕ) → IsLinkAt l h x → Follows (rows_at l h) x r → Follows (rows_at l k) x r
  follows_lasts x r m f = record {
    real = f.real;
    linked = linked_lasts r f.linked;
    above = at_most (low (rows_at l k) x) (low (rows_at l h) x) (key_in l h.words r) (key_in l k.words r) (low_lasts x m) f.above (key_lasts r f.linked);
    bucket = ap (head_of_key l) (key_lasts r f.linked) ∙ f.bucket ∙ sym (bucket_lasts x m);
  }
    where
      at_most : (a b c d : ℕ) → a ≡ b → b ≤ c → d ≡ c → a ≤ d
      at_most a b c d e i g = omega (arith, e, i, g)

  form_lasts : (x : LinkWord) (u : ℕ) → IsLinkAt l h x → Form (rows_at l h) x u → Form (rows_at l k) x u
  form_lasts x u m f = record {
    leads = elim f.leads [ inl z ↦ inl z | inr g ↦ inr (follows_lasts x (row_of u) m g) ];
    fit = f.fit;
    headed = f.headed;
  }

  abbrev IsAheadAt : ListHeap → LinkWord → Type 0
  IsAheadAt j x = version_of (word_in l j x) ≡ version_of (shadow_in l j x) + 1

  not_moved : (x : LinkWord) → IsAheadAt h x → HasMoved l h k x → ⊥
  not_moved x a g = same_version (version_of (word_in l h x)) (version_of (shadow_in l h x)) (ap version_of g.solid) a
    where
      same_version : (a b : ℕ) → a ≡ b → a ≡ b + 1 → ⊥
      same_version a b e f = omega (arith, e, f)

  pub saw_lasts : (free : List ℕ) → Kept l free k → (key : ℕ) (x : LinkWord) (u : ℕ) → Saw l h key x u → Saw l k key x u
  saw_lasts free kept key x u s = record {
    link = link_lasts x s.link;
    bucket = bucket_lasts x s.link ∙ s.bucket;
    form = form_lasts x u s.link s.form;
    leads = elim s.leads [
      | inl z ↦ inl z
      | inr i ↦ elim i [
        | inl t ↦ inr (inl (goes.settled (row_of u) t))
        | inr a ↦ elim (goes.word x s.link) [
          | inl w ↦ elim (goes.shadow x s.link) [
            | inl e ↦ inr (inr (ap version_of w ∙ a.0 ∙ ap (λ z. version_of z + 1) (sym e), a.1 ∙ sym w))
            | inr e ↦
                let is : u ≡ shadow_in l k x = a.1 ∙ sym e.now in
                elim (kept.chained.shadow_links x (link_lasts x s.link)) [
                  | inl z ↦ inl (ap row_of is ∙ z)
                  | inr t ↦ inr (inl (ap (λ z. k.ghost (row_of z)) is ∙ t))
                ]
          ]
          | inr g ↦ absurd (not_moved x a.0 g)
        ]
      ]
    ];
    final = λ t. elim (goes.word x s.link) [
      | inl w ↦ w ∙ s.final t
      | inr g ↦ absurd (both_ways (is_marked (word_in l h x)) g.unmarked (ap is_marked (s.final t) ∙ t))
    ];
  }

  pub behind_lasts : (free : List ℕ) → Kept l free k → (key : ℕ) (back : Option (LinkWord × ℕ)) (pred : LinkWord) → IsBehind l h key back pred →
      IsBehind l k key back pred
  behind_lasts free kept key _ _ at_head = at_head
  behind_lasts free kept key _ _ (at_row b v s u some less) = at_row b v (saw_lasts free kept key b v s) u some
      (subst (λ n. n < key) (sym (key_lasts (row_of v) (leads_linked s.form.leads))) less)
    where
      far : (a : ℕ) → a ≡ 0 → 1 ≤ a → ⊥
      far a e i = omega (arith, e, i)

      leads_linked : (row_of v ≡ 0) ⊎ Follows (rows_at l h) b (row_of v) → IsLinked l h (row_of v)
      leads_linked (inl z) = absurd (far (row_of v) z some)
      leads_linked (inr f) = f.linked

  pub spot_lasts : (free : List ℕ) → Kept l free k → (key : ℕ) (back : Option (LinkWord × ℕ)) (pred : LinkWord) (c : ℕ) → Spot l h key back pred c →
      Spot l k key back pred c
  spot_lasts free kept key back pred c s = record {
    behind = behind_lasts free kept key back pred s.behind;
    saw = saw_lasts free kept key pred c s.saw;
    unmarked = s.unmarked;
  }

  pub next_lasts : (free : List ℕ) → Kept l free k → (key c n : ℕ) (marked : Bool) → SawNext l h key c n marked → SawNext l k key c n marked
  next_lasts free kept key c n marked s = record { some = s.some; saw = saw_lasts free kept key (Next (row_of c)) n s.saw; mark = s.mark }

  -- positions
  pub longer : length h.progress.settled ≤ length k.progress.settled
  longer = subst (λ es. length h.progress.settled ≤ length es) (sym goes.updates.1) (more (length h.progress.settled) (length goes.updates.0)
      (length (h.progress.settled ++ goes.updates.0)) (length-append h.progress.settled goes.updates.0))
    where
      more : (a b c : ℕ) → c ≡ a + b → a ≤ c
      more a b c e = omega (arith, e)

  at_most : (a b c : ℕ) → a ≤ b → b ≤ c → a ≤ c
  at_most a b c i j = omega (arith, i, j)

  pub had_lasts : (first key : ℕ) (o : Option ℕ) → Had h first key o → Had k first key o
  had_lasts first key o p = (
    p.0,
    p.1,
    at_most p.0 (length h.progress.settled) (length k.progress.settled) p.2 longer,
    ap (λ c. fin.get (map_after_all c.content (take p.0 k.progress.settled)) key) goes.opening
        ∙ ap (λ es. fin.get (map_after_all h.opening.content (take p.0 es)) key) goes.updates.1
        ∙ ap (λ es. fin.get (map_after_all h.opening.content es) key) (take-append-le p.0 h.progress.settled goes.updates.0 p.2) ∙ p.3,
  )

  pub gone_lasts : (first key : ℕ) (x : LinkWord) (u : ℕ) → Saw l h key x u → Gone l h first key x u → Gone l k first key x u
  gone_lasts first key x u s g below past = had_lasts first key None (g (subst (λ n. n ≤ key) (low_lasts x s.link) below) (elim past [
    | inl z ↦ inl z
    | inr i ↦ elim s.form.leads [ inl z ↦ inl z | inr f ↦ inr (subst (λ n. key < n) (key_lasts (row_of u) f.linked) i) ]
  ]))

  pub here_lasts : (first key r : ℕ) → first ≤ length h.progress.settled → IsLinked l h r → Here l h first key r → Here l k first key r
  here_lasts first key r early m f e = elim (f (sym (key_lasts r m) ∙ e)) [
    | inl n ↦ elim (cases_Bool (k.ghost r)) [
      | inl t ↦ inr (
        length k.progress.settled,
        at_most first (length h.progress.settled) (length k.progress.settled) early longer,
        equal (length k.progress.settled),
        ap (λ es. fin.get (map_after_all k.opening.content es) key) (take_all (length k.progress.settled) k.progress.settled
            (equal (length k.progress.settled)))
            ∙ subst (λ j. fin.get (content_of k) j ≡ Some (row_value_in l k.words r)) e (goes.joins r m n t),
      )
      | inr s ↦ inl s
    ]
    | inr p ↦ inr (subst (λ v. Had k first key (Some v)) (sym (value_lasts r m)) (had_lasts first key (Some (row_value_in l h.words r)) p))
  ]
    where
      equal : (n : ℕ) → n ≤ n
      equal n = omega arith

  pub not_mine_lasts : (name r : ℕ) → who ≢ Some name → IsLinked l h r → IsNotMine l h name r → IsNotMine l k name r
  not_mine_lasts name r other m f v t e = elim (goes.word (Next r) m) [
    | inl w ↦ f v (ap is_marked (sym w) ∙ t) (ap by_of (sym w) ∙ e)
    | inr g ↦ other (goes.named (Next r) m v g.unmarked t ∙ ap Some e)
  ]

-- ---- a load gives it

module _ (l : Layout) (free : List ℕ) (h : ListHeap) (kept : Kept l free h) where
  abbrev c : Rows
  c = rows_at l h

  word_leads : (x : LinkWord) → IsLinkAt l h x → (e : Option Entry) → Shape c h.ghost (word_in l h) (shadow_in l h) x e →
      (row_of (word_in l h x) ≡ 0) ⊎ ((h.ghost (row_of (word_in l h x)) ≡ true)
      ⊎ ((version_of (word_in l h x) ≡ version_of (shadow_in l h x) + 1) × (word_in l h x ≡ word_in l h x)))
  word_leads x m e (Solid s n) = elim (kept.chained.shadow_links x m) [
    | inl z ↦ inl (ap row_of s ∙ z)
    | inr t ↦ inr (inl (ap (λ u. h.ghost (row_of u)) s ∙ t))
  ]
  word_leads x m e (Linking k) = inr (inr (k.ahead.version, refl))
  word_leads x m e (Marking k) = inr (inr (k.ahead.version, refl))
  word_leads x m e (Unlinking k) = inr (inr (k.ahead.version, refl))

  pub saw_load : (key : ℕ) (x : LinkWord) → IsLinkAt l h x → bucket_of c x ≡ head_of_key l key → Saw l h key x (word_in l h x)
  saw_load key x m b = record {
    link = m;
    bucket = b;
    form = kept.chained.word_form x m;
    leads = word_leads x m (entry_in l h x) (kept.chained.shapes x m);
    final = λ t. refl;
  }

  equal : (n : ℕ) → n ≤ n
  equal n = omega arith

  had_now : (first key : ℕ) (o : Option ℕ) → first ≤ length h.progress.settled → fin.get (content_of h) key ≡ o → Had h first key o
  had_now first key o early e = (
    length h.progress.settled,
    early,
    equal (length h.progress.settled),
    ap (λ es. fin.get (map_after_all h.opening.content es) key) (take_all (length h.progress.settled) h.progress.settled (equal (length h.progress.settled)))
        ∙ e,
  )

  pub gone_load : (first key : ℕ) (x : LinkWord) → first ≤ length h.progress.settled → IsLinkAt l h x → bucket_of c x ≡ head_of_key l key →
      is_marked (word_in l h x) ≡ false → Gone l h first key x (word_in l h x)
  gone_load first key x early m b u below past = had_now first key None early
      (gap c h.ghost (word_in l h) (shadow_in l h) (entry_in l h) (content_of h) kept.chained x key m u below (sym b) past)

  pub here_load : (first key r : ℕ) → first ≤ length h.progress.settled → is_marked (word_in l h (Next r)) ≡ false → Here l h first key r
  here_load first key r early u e = elim (cases_Bool (h.ghost r)) [
    | inl t ↦ inr (had_now first key (Some (row_value_in l h.words r)) early
        (subst (λ j. fin.get (content_of h) j ≡ Some (row_value_in l h.words r)) e
        (present c h.ghost (word_in l h) (shadow_in l h) (entry_in l h) (content_of h) kept.chained r t u)))
    | inr n ↦ inl n
  ]

  pub not_mine_load : (name r : ℕ) → is_marked (word_in l h (Next r)) ≡ false → IsNotMine l h name r
  not_mine_load name r u v t e = both_ways (is_marked (word_in l h (Next r))) u t

  -- ---- what is persistent of it

  solid_or : (x : LinkWord) (e : Option Entry) → Shape c h.ghost (word_in l h) (shadow_in l h) x e →
      (word_in l h x ≡ shadow_in l h x) ⊎ (version_of (word_in l h x) ≡ version_of (shadow_in l h x) + 1)
  solid_or x e (Solid s n) = inl s
  solid_or x e (Linking k) = inr k.ahead.version
  solid_or x e (Marking k) = inr k.ahead.version
  solid_or x e (Unlinking k) = inr k.ahead.version

  past : (a b c : ℕ) → c ≡ a → a ≤ b → c ≡ b + 1 → ⊥
  past a b c e i f = omega (arith, e, i, f)

  -- where the word still holds it, the shadow does too
  pub rests_if : (key : ℕ) (x : LinkWord) (u : ℕ) → Saw l h key x u → IsPersistentAt l h x u → word_in l h x ≡ u → shadow_in l h x ≡ u
  rests_if key x u s p w = elim (solid_or x (entry_in l h x) (kept.chained.shapes x s.link)) [
    | inl e ↦ sym e ∙ w
    | inr a ↦ absurd (past (version_of u) (version_of (shadow_in l h x)) (version_of (word_in l h x)) (ap version_of w) p a)
  ]

  -- a mark that was seen and is persistent is in the shadow
  pub marked_rests : (key : ℕ) (x : LinkWord) (u : ℕ) → Saw l h key x u → IsPersistentAt l h x u → is_marked u ≡ true → shadow_in l h x ≡ u
  marked_rests key x u s p t = rests_if key x u s p (s.final t)

  zero_some : (a : ℕ) → a ≡ 0 → 1 ≤ a → ⊥
  zero_some a e i = omega (arith, e, i)

  -- a persistent link leads to a settled row
  pub leads_settled : (key : ℕ) (x : LinkWord) (u : ℕ) → Saw l h key x u → IsPersistentAt l h x u → 1 ≤ row_of u → h.ghost (row_of u) ≡ true
  leads_settled key x u s p some = elim s.leads [
    | inl z ↦ absurd (zero_some (row_of u) z some)
    | inr i ↦ elim i [
      | inl t ↦ t
      | inr a ↦ absurd (past (version_of u) (version_of (shadow_in l h x)) (version_of (word_in l h x)) (ap version_of (sym a.1)) p a.0)
    ]
  ]

  pub behind_rooted : (key : ℕ) (back : Option (LinkWord × ℕ)) (pred : LinkWord) → IsBehind l h key back pred → IsBackPersistent l h back →
      IsRooted h.ghost pred
  behind_rooted key _ _ at_head p = tt
  behind_rooted key _ _ (at_row b v s u some less) p = leads_settled key b v s p some
