-- The settle lemma: by the three ways in which a link word is ahead.
use Rattle.std.proofs.Common.{◌≡◌, ◌≢◌, ℕ, ◌+◌, ◌<◌, ◌≤◌, ◌==◌, Bool, true, false, List, [], ◌∷◌, ◌++◌, Option, Some, None, refl, sym, ap, ◌∙◌, inl, inr, ◌⊎◌, arith, subst}
use Rattle.std.specs.FinMap as fin
use Rattle.flit_model.specs.declared.calls.Call.TheVariants.{Insert, Remove}
use Rattle.flit_structure.specs.Lawful.{is_insert}
use Rattle.std.specs.Prelude.{Contains}
use Rattle.flit_model.specs.Maps.{ChangesKey, map_after, reply_of}
use Rattle.flit_list_heap.proofs.Parts.{inserts, removes}
use Rattle.std.specs.List.{AllByRecursion}
use Rattle.flit_model.specs.Maps.{Map}
use Rattle.flit_model.specs.declared.calls.Entry.{Entry}
use Rattle.std.proofs.Math.Path.{fun_ext}
use Rattle.std.proofs.lemmas.Bool.{cases_eq, eq-eqb, ne_eqb, eqb-true, both_ways, or_cases, or_left, or_right, or_from}
use Rattle.flit_list_heap.specs.Links.{LinkWord, Head, Next, Rows, low, bucket_of, IsLink, row_of, is_marked, Changed}
use Rattle.flit_list_heap.specs.Paths.{Follows, Path, found, marks}
use Rattle.flit_list_heap.specs.Chained.{joined, is_put, IsRooted, Form, Ahead, Links, Marks, Unlinks, Shape, Solid, Linking, Marking, Unlinking, Bucket, Chained, Settled}
use Rattle.flit_list_heap.proofs.Base.{cases_word, lower-apart, next-same}
use Rattle.flit_list_heap.proofs.PathLaws.{all-rows, all-of, path-above, path-lower, path-move, path-same, Cut, cut, in-more, in-mid, in-less}
use Rattle.flit_list_heap.proofs.MapLaws.{found-same, found-none, found-here, found-past, found-marked, found-behind, found-under, found-in, found-but, found-gone}
use Rattle.flit_list_heap.proofs.Settling.{put-of, put-fresh, shape-kept, bucket-other, is_on, marks-same}

pub bucket-linked : (c : Rows) (x : LinkWord) → ((k : ℕ) → c.bucket k < c.layout.buckets) → IsLink c x → bucket_of c x < c.layout.buckets
bucket-linked c (Head h) f l = l
bucket-linked c (Next r) f l = f (c.key r)

module _ (c : Rows) (settled : ℕ → Bool) (words shadows : LinkWord → ℕ) (entries : LinkWord → Option Entry) (m : Map)
    (heap : Chained c settled words shadows entries m)
    (y : LinkWord) (link : IsLink c y) (new : LinkWord → ℕ) (d : Changed shadows new y (words y)) (rest : LinkWord → Option Entry)
    (t : Changed entries rest y None) where
  rest-put : (x : LinkWord) → is_put (rest x) ≡ true → (x ≢ y) × (is_put (entries x) ≡ true)
  rest-put x e = elim (cases_word x y) [
    | inl s ↦ absurd (both_ways false refl (sym (ap is_put (ap rest s ∙ t.here)) ∙ e))
    | inr o ↦ (o, sym (ap is_put (t.off x o)) ∙ e)
  ]

  -- all but the lists
  settle-frame : (a : Ahead settled words shadows y) (more : ℕ → Bool) (now : Map) → ((q : ℕ) → settled q ≡ true → more q ≡ true) →
      ((q : ℕ) → more q ≡ true → c.linked q)
      → ((x : LinkWord) → IsLink c x → x ≢ y → is_put (entries x) ≡ true → more (row_of (words x)) ≡ false)
      → ((row_of (words y) ≡ 0) ⊎ (more (row_of (words y)) ≡ true)) → (is_put (entries y) ≡ true → more (row_of (words y)) ≡ true)
      → Bucket c more new now (bucket_of c y)
      → ((h : ℕ) → h ≢ bucket_of c y → (r : ℕ) → more r ≡ true → c.bucket (c.key r) ≡ h → settled r ≡ true)
      → ((h : ℕ) → h ≢ bucket_of c y → (k : ℕ) → c.bucket k ≡ h → fin.get now k ≡ fin.get m k)
      → Chained c more words new rest now
  settle-frame a more now f g fresh leads joins own others same = record {
    kind = heap.kind;
    buckets = heap.buckets;
    settled_linked = g;
    real = heap.real;
    shadow_form = λ x l. elim (cases_word x y) [
      | inl s ↦ subst (λ z. Form c z (new z)) (sym s) (subst (λ u. Form c y u) (sym d.here) (heap.word_form y link))
      | inr o ↦ subst (λ u. Form c x u) (sym (d.off x o)) (heap.shadow_form x l)
    ];
    word_form = heap.word_form;
    shadow_links = λ x l. elim (cases_word x y) [
      | inl s ↦ subst (λ u. (row_of u ≡ 0) ⊎ (more (row_of u) ≡ true)) (sym (ap new s ∙ d.here)) leads
      | inr o ↦ subst (λ u. (row_of u ≡ 0) ⊎ (more (row_of u) ≡ true)) (sym (d.off x o))
          (elim (heap.shadow_links x l) [ inl z ↦ inl z | inr k ↦ inr (f (row_of (shadows x)) k) ])
    ];
    shapes = λ x l. elim (cases_word x y) [
      | inl s ↦ Solid (ap words s ∙ sym d.here ∙ sym (ap new s)) (ap rest s ∙ t.here)
      | inr o ↦ subst (λ e. Shape c more words new x e) (sym (t.off x o))
          (shape-kept c settled words shadows y new d a more f x o (entries x) (fresh x l o) (heap.shapes x l))
    ];
    known = λ r l. elim (heap.known r l) [
      | inl k ↦ inl (f r k)
      | inr w ↦ elim (cases_word w.word y) [
        | inl s ↦ inl (subst (λ q. more q ≡ true) (ap (λ z. row_of (words z)) (sym s) ∙ w.leads) (joins (ap (λ z. is_put (entries z)) (sym s) ∙ w.put)))
        | inr o ↦ inr (record { word = w.word; link = w.link; put = ap is_put (t.off w.word o) ∙ w.put; leads = w.leads })
      ]
    ];
    one_link = λ x z lx lz px pz e. heap.one_link x z lx lz (rest-put x px).1 (rest-put z pz).1 e;
    reach = λ h l. elim (cases_eq h (bucket_of c y)) [
      | inl e ↦ subst (λ g. Bucket c more new now g) (sym e) own
      | inr o ↦ bucket-other c settled words shadows y new d m now more h o (others h o) (same h o) (heap.reach h l)
    ];
  }

  own-bucket : Bucket c settled shadows m (bucket_of c y)
  own-bucket = heap.reach (bucket_of c y) (bucket-linked c y heap.buckets link)

  own-cut : Ahead settled words shadows y → Cut c shadows new (Head (bucket_of c y)) y own-bucket.rows
  own-cut a = cut c shadows new (words y) (Head (bucket_of c y)) y own-bucket.rows d own-bucket.path
      (is_on c settled words shadows y new d y m a.rooted a.kept own-bucket)

  -- ---- a link

  module _ (l : Links c settled words shadows y (entries y)) where
    abbrev row : ℕ
    row = row_of (words y)

    abbrev more : ℕ → Bool
    more = joined true settled row

    abbrev now : Map
    now = map_after m (Insert (c.key row) (c.value row))

    k : Cut c shadows new (Head (bucket_of c y)) y own-bucket.rows
    k = own-cut l.ahead

    follows : Follows c y row
    follows = elim (heap.word_form y link).leads [ inl z ↦ absurd (let r : 1 ≤ row = heap.real row l.linked in omega arith) | inr f ↦ f ]

    -- from the new row on
    behind : Path c shadows (Next row) k.rest
    behind = path-move c shadows (Next row) y k.rest l.goes_on (heap.shadow_form (Next row) l.linked).leads k.tail

    spliced : Path c new (Head (bucket_of c y)) (k.front ++ row ∷ k.rest)
    spliced = k.splice (row ∷ k.rest) (
      ap row_of d.here,
      follows,
      path-lower c shadows new y (words y) d (Next row) k.rest (omega (arith, follows.above))
          behind,
    )

    same-marks : (r : ℕ) → marks new r ≡ marks shadows r
    same-marks = marks-same c settled words shadows y new d l.ahead.kept l.unmarked

    before : AllByRecursion (λ r. c.key r ≢ c.key row) k.front
    before = all-rows (λ r. c.key r < low c y) (λ r. c.key r ≢ c.key row) (λ r b e. absurd (omega (arith, follows.above))) k.front k.below

    link-lacks : fin.get m (c.key row) ≡ None
    link-lacks =
        own-bucket.mapped (c.key row) follows.bucket
        ∙ ap (λ p. found c (marks shadows) p (c.key row)) k.parts
        ∙ found-behind c (marks shadows) (c.key row) k.front k.rest before
        ∙ found-none c (marks shadows) (c.key row) k.rest (all-rows (λ r. c.key row + 1 ≤ c.key r) (λ r. c.key r ≢ c.key row) (λ r b e. absurd (omega arith))
        k.rest (path-above c shadows (Next row) k.rest behind))

    puts : ChangesKey m (Insert (c.key row) (c.value row)) (c.key row) (Some (c.value row))
    puts = inserts m (c.key row) (c.value row) link-lacks

    link-mapped : (j : ℕ) → c.bucket j ≡ bucket_of c y → fin.get now j ≡ found c (marks new) (k.front ++ row ∷ k.rest) j
    link-mapped j b = elim (cases_eq (c.key row) j) [
      | inl e ↦
          ap (fin.get now) (sym e) ∙ puts.has
          ∙ (sym (found-behind c (marks new) j k.front (row ∷ k.rest) (subst (λ i. AllByRecursion (λ r. c.key r ≢ i) k.front) e before)
          ∙ subst (λ i. found c (marks new) (row ∷ k.rest) i ≡ Some (c.value row)) e (found-here c (marks new) row k.rest (same-marks row ∙ l.whole))))
      | inr ne ↦
          puts.others j (λ e. ne (sym e))
          ∙ (own-bucket.mapped j b ∙ ap (λ p. found c (marks shadows) p j) k.parts
          ∙ sym (found-same c (marks shadows) (marks new) j (k.front ++ k.rest) (all-of (λ r. marks new r ≡ marks shadows r) same-marks (k.front ++ k.rest)))
          ∙ sym (found-under c (marks new) j k.front (row ∷ k.rest) k.rest (found-past c (marks new) row k.rest j ne)))
    ]

    link-whole : (r : ℕ) → more r ≡ true → c.bucket (c.key r) ≡ bucket_of c y → is_marked (new (Next r)) ≡ false → Contains (k.front ++ row ∷ k.rest) r
    link-whole r s b u = elim (or_cases (settled r) (r == row) s) [
      | inl w ↦ in-more r row k.front k.rest (subst (λ p. Contains p r) k.parts (own-bucket.whole r w b (sym (same-marks r) ∙ u)))
      | inr e ↦ subst (λ q. Contains (k.front ++ row ∷ k.rest) q) (sym (eqb-true r row e)) (in-mid row k.front k.rest)
    ]

    settle-link : Settled c settled words new rest m (entries y) row
    settle-link = subst (λ e. Settled c settled words new rest m e row) (sym l.entry) (record {
      answers = l.reply ∙ sym (ap (reply_of m) l.call ∙ puts.says);
      chained = subst (λ g. Chained c (joined (is_insert g) settled row) words new rest (map_after m g)) (sym l.call)
          (settle-frame l.ahead more now
          (λ q s. or_left (settled q) (q == row) s)
          (λ q s. elim (or_cases (settled q) (q == row) s) [ inl w ↦ heap.settled_linked q w | inr e ↦ subst c.linked (sym (eqb-true q row e)) l.linked ])
          (λ x lx ne px. or_from (settled (row_of (words x))) (row_of (words x) == row) (put-fresh c settled words shadows x (entries x) px (heap.shapes x lx))
          (ne_eqb (row_of (words x)) row (λ e. ne (heap.one_link x y lx link px (put-of (entries y) l.update (c.key row) (c.value row) l.entry l.call) e))))
          (inr (or_right (settled row) (row == row) (eq-eqb row row refl)))
          (λ p. or_right (settled row) (row == row) (eq-eqb row row refl))
          (record { rows = k.front ++ row ∷ k.rest; path = spliced; whole = link-whole; mapped = link-mapped })
          (λ h ne r s b. elim (or_cases (settled r) (r == row) s) [
            | inl w ↦ w
            | inr e ↦
                absurd (ne (sym b ∙ ap (λ q. c.bucket (c.key q)) (eqb-true r row e) ∙ follows.bucket))
          ])
          (λ h ne j b. puts.others j (λ e. ne (sym b ∙ ap c.bucket e ∙ follows.bucket))));
    })

  -- ---- a mark

  module _ (l : Marks c settled words shadows y (entries y)) where
    abbrev less : Map
    less = map_after m (Remove (c.key l.row))

    mark_cut : Cut c shadows new (Head (bucket_of c y)) y own-bucket.rows
    mark_cut = own-cut l.ahead

    same-path : Path c new (Head (bucket_of c y)) own-bucket.rows
    same-path = subst (Path c new (Head (bucket_of c y))) (sym mark_cut.parts)
        (mark_cut.splice mark_cut.rest (path-same c shadows new y (words y) mark_cut.rest d l.same mark_cut.tail))

    bucket-row : bucket_of c y ≡ c.bucket (c.key l.row)
    bucket-row = ap (bucket_of c) l.place

    settled-row : settled l.row ≡ true
    settled-row = subst (IsRooted settled) l.place l.ahead.rooted

    was : marks shadows l.row ≡ false
    was = subst (λ z. is_marked (shadows z) ≡ false) l.place l.ahead.kept

    is : marks new l.row ≡ true
    is = subst (λ z. is_marked (new z) ≡ true) l.place (ap is_marked d.here ∙ l.marked)

    other-marks : (q : ℕ) → q ≢ l.row → marks new q ≡ marks shadows q
    other-marks q ne = ap is_marked (d.off (Next q) (λ e. ne (next-same q l.row (e ∙ l.place))))

    on : Contains own-bucket.rows l.row
    on = own-bucket.whole l.row settled-row (sym bucket-row) was

    mark-has : fin.get m (c.key l.row) ≡ Some (c.value l.row)
    mark-has = own-bucket.mapped (c.key l.row) (sym bucket-row) ∙ found-in c shadows (marks shadows) (Head (bucket_of c y)) own-bucket.rows l.row
        own-bucket.path on was

    takes : ChangesKey m (Remove (c.key l.row)) (c.key l.row) None
    takes = removes m (c.key l.row) (c.value l.row) mark-has

    mark-mapped : (j : ℕ) → c.bucket j ≡ bucket_of c y → fin.get less j ≡ found c (marks new) own-bucket.rows j
    mark-mapped j b = elim (cases_eq (c.key l.row) j) [
      | inl e ↦ ap (fin.get less) (sym e) ∙ takes.has
          ∙ (sym (subst (λ i. found c (marks new) own-bucket.rows i ≡ None) e
          (found-gone c shadows (marks new) (Head (bucket_of c y)) own-bucket.rows l.row own-bucket.path on is)))
      | inr ne ↦ takes.others j (λ e. ne (sym e)) ∙ (own-bucket.mapped j b
          ∙ sym (found-but c (marks shadows) (marks new) l.row j own-bucket.rows ne other-marks))
    ]

    mark-whole : (r : ℕ) → settled r ≡ true → c.bucket (c.key r) ≡ bucket_of c y → is_marked (new (Next r)) ≡ false → Contains own-bucket.rows r
    mark-whole r s b u = elim (cases_eq r l.row) [
      | inl e ↦ subst (λ q. Contains own-bucket.rows q) (sym e) on
      | inr ne ↦ own-bucket.whole r s b (sym (other-marks r ne) ∙ u)
    ]

    not-put : is_put (entries y) ≡ false
    not-put = ap is_put l.entry ∙ ap is_insert l.call

    settle-mark : Settled c settled words new rest m (entries y) (row_of (words y))
    settle-mark = subst (λ e. Settled c settled words new rest m e (row_of (words y))) (sym l.entry) (record {
      answers = l.reply ∙ sym (ap (reply_of m) l.call ∙ takes.says);
      chained = subst (λ g. Chained c (joined (is_insert g) settled (row_of (words y))) words new rest (map_after m g)) (sym l.call)
          (settle-frame l.ahead settled less
          (λ q s. s)
          heap.settled_linked
          (λ x lx ne px. put-fresh c settled words shadows x (entries x) px (heap.shapes x lx))
          (subst (λ r. (r ≡ 0) ⊎ (settled r ≡ true)) (sym l.same) (heap.shadow_links y link))
          (λ p. absurd (both_ways (is_put (entries y)) not-put p))
          (record { rows = own-bucket.rows; path = same-path; whole = mark-whole; mapped = mark-mapped })
          (λ h ne r s b. s)
          (λ h ne j b. takes.others j (λ e. ne (sym b ∙ ap c.bucket e ∙ sym bucket-row))));
    })

  -- ---- an unlinking

  module _ (l : Unlinks c settled words shadows y (entries y)) where
    abbrev gone : ℕ
    gone = row_of (shadows y)

    record Behind (p : List ℕ) : Type 0 where
      tail : List ℕ
      whole : p ≡ gone ∷ tail
      follows : Follows c y gone
      path : Path c shadows (Next gone) tail

    behind-of : (p : List ℕ) → Path c shadows y p → Behind p
    behind-of [] h = absurd (let r : 1 ≤ gone = heap.real gone (heap.settled_linked gone l.behind) in omega (arith, h))
    behind-of (r ∷ p) h = record {
      tail = p;
      whole = ap (λ q. q ∷ p) (sym h.0);
      follows = subst (Follows c y) (sym h.0) h.1;
      path = subst (λ q. Path c shadows (Next q) p) (sym h.0) h.2;
    }

    gone_cut : Cut c shadows new (Head (bucket_of c y)) y own-bucket.rows
    gone_cut = own-cut l.ahead

    b : Behind gone_cut.rest
    b = behind-of gone_cut.rest gone_cut.tail

    abbrev kept : List ℕ
    kept = gone_cut.front ++ b.tail

    parts : own-bucket.rows ≡ gone_cut.front ++ gone ∷ b.tail
    parts = gone_cut.parts ∙ ap (λ p. gone_cut.front ++ p) b.whole

    above : low c y < low c (Next gone)
    above = omega (arith, b.follows.above)

    cut-out : Path c new (Head (bucket_of c y)) kept
    cut-out = gone_cut.splice b.tail (path-move c new y (Next gone) b.tail
        (ap row_of d.here ∙ l.past ∙ sym (ap row_of (d.off (Next gone) (λ e. lower-apart c y (Next gone) above (sym e)))))
        (subst (λ u. (row_of u ≡ 0) ⊎ Follows c y (row_of u)) (sym d.here) (heap.word_form y link).leads)
        (path-lower c shadows new y (words y) d (Next gone) b.tail above b.path))

    gone-marks : (r : ℕ) → marks new r ≡ marks shadows r
    gone-marks = marks-same c settled words shadows y new d l.ahead.kept l.unmarked

    unlink-mapped : (j : ℕ) → c.bucket j ≡ bucket_of c y → fin.get m j ≡ found c (marks new) kept j
    unlink-mapped j e =
        own-bucket.mapped j e ∙ ap (λ p. found c (marks shadows) p j) parts
        ∙ found-under c (marks shadows) j gone_cut.front (gone ∷ b.tail) b.tail (found-marked c (marks shadows) gone b.tail j l.marked)
        ∙ sym (found-same c (marks shadows) (marks new) j kept (all-of (λ r. marks new r ≡ marks shadows r) gone-marks kept))

    unlink-whole : (r : ℕ) → settled r ≡ true → c.bucket (c.key r) ≡ bucket_of c y → is_marked (new (Next r)) ≡ false → Contains kept r
    unlink-whole r s e u =
        let w : is_marked (shadows (Next r)) ≡ false = sym (gone-marks r) ∙ u in
        in-less r gone gone_cut.front b.tail (λ z. both_ways (is_marked (shadows (Next gone))) (subst (λ q. is_marked (shadows (Next q)) ≡ false) z w)
        l.marked) (subst (λ p. Contains p r) parts (own-bucket.whole r s e w))

    settle-unlink : Settled c settled words new rest m (entries y) (row_of (words y))
    settle-unlink = subst (λ e. Settled c settled words new rest m e (row_of (words y))) (sym l.entry) (record {
      answers = tt;
      chained = settle-frame l.ahead settled m
          (λ q s. s)
          heap.settled_linked
          (λ x lx ne px. put-fresh c settled words shadows x (entries x) px (heap.shapes x lx))
          (subst (λ r. (r ≡ 0) ⊎ (settled r ≡ true)) (sym l.past) (heap.shadow_links (Next gone) (heap.settled_linked gone l.behind)))
          (λ p. absurd (both_ways false refl (sym (ap is_put l.entry) ∙ p)))
          (record { rows = kept; path = cut-out; whole = unlink-whole; mapped = unlink-mapped })
          (λ h ne r s e. s)
          (λ h ne j e. refl);
    })

  -- ---- nothing ahead

  settle-solid : words y ≡ shadows y → entries y ≡ None → Settled c settled words new rest m (entries y) (row_of (words y))
  settle-solid s n =
      let f : new ≡ shadows = fun_ext (λ x. elim (cases_word x y) [ inl e ↦ ap new e ∙ d.here ∙ s ∙ ap shadows (sym e) | inr o ↦ d.off x o ]) in
      let g : rest ≡ entries = fun_ext (λ x. elim (cases_word x y) [ inl e ↦ ap rest e ∙ t.here ∙ sym n ∙ ap entries (sym e) | inr o ↦ t.off x o ]) in
      subst (λ e. Settled c settled words new rest m e (row_of (words y))) (sym n) (record {
        answers = tt;
        chained = subst (λ s. Chained c settled words s rest m) (sym f) (subst (λ e. Chained c settled words shadows e m) (sym g) heap);
      })

  settle-by : Shape c settled words shadows y (entries y) → Settled c settled words new rest m (entries y) (row_of (words y))
  settle-by (Solid s n) = settle-solid s n
  settle-by (Linking l) = settle-link l
  settle-by (Marking l) = settle-mark l
  settle-by (Unlinking l) = settle-unlink l

  pub settle : Settled c settled words new rest m (entries y) (row_of (words y))
  settle = settle-by (heap.shapes y link)
