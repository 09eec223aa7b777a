-- A won exchange of a solid link word keeps the heap layer.
use Rattle.std.proofs.Common.{◌≡◌, ◌≢◌, ℕ, ◌≤◌, Bool, true, false, List, [], ◌∷◌, Option, None, refl, sym, ap, ◌∙◌, inl, inr, ◌⊎◌, arith, subst}
use Rattle.flit_model.specs.declared.calls.Call.TheVariants.{Insert}
use Rattle.flit_structure.specs.Lawful.{is_insert}
use Rattle.flit_words.specs.declared.layouts.Layout.{Layout}
use Rattle.flit_words.specs.Links.{HasRightRemover}
use Rattle.flit_model.specs.Lists.{IsListLink}
use Rattle.flit_list_heap.proofs.Parts.{row-held, mark-held, by-held}
use Rattle.flit_words.specs.Words.{version_of}
use Rattle.flit_model.specs.Maps.{Map}
use Rattle.flit_model.specs.declared.calls.Entry.{Entry}
use Rattle.std.proofs.lemmas.Bool.{cases_Bool, both_ways}
use Rattle.flit_list_heap.specs.Links.{LinkWord, Head, Next, Rows, low, bucket_of, IsLink, link_held, row_of, is_marked, by_of, Changed}
use Rattle.flit_list_heap.specs.Paths.{Follows, Path, found, marks}
use Rattle.flit_list_heap.specs.Chained.{is_put, name_in, IsHead, IsRooted, Form, Ahead, Links, Shape, Solid, Linking, Marking, Unlinking, Bucket, Fresh, Chained}
use Rattle.flit_list_heap.specs.Moves.{with_linked, plain_link, marked_link, Still, MarkMove, UnlinkMove, LinkMove}
use Rattle.flit_list_heap.proofs.Base.{cases_word}
use Rattle.flit_list_heap.proofs.Knowing.{put-links}
use Rattle.flit_list_heap.proofs.Settling.{put-of}

plain-fit : (l : Layout) (raw row : ℕ) → link_held raw ≡ plain_link row → IsListLink l (link_held raw)
plain-fit l raw row e = subst (IsListLink l) (sym e) (record { unfrozen = refl; remover = record { most = omega arith; named = inl refl } })

module _ (c : Rows) (more : ℕ → Type 0) (grows : (q : ℕ) → c.linked q → more q) where
  abbrev wide : Rows
  wide = with_linked c more

  link-more : (x : LinkWord) → IsLink c x → IsLink wide x
  link-more (Head h) l = l
  link-more (Next q) l = grows q l

  follows-more : (x : LinkWord) (r : ℕ) → Follows c x r → Follows wide x r
  follows-more (Head h) r f = record { real = f.real; linked = grows r f.linked; above = f.above; bucket = f.bucket }
  follows-more (Next q) r f = record { real = f.real; linked = grows r f.linked; above = f.above; bucket = f.bucket }

  form-more : (x : LinkWord) (w : ℕ) → Form c x w → Form wide x w
  form-more x w f = record { leads = elim f.leads [ inl z ↦ inl z | inr k ↦ inr (follows-more x (row_of w) k) ]; fit = f.fit; headed = f.headed }

  path-more : (shadows : LinkWord → ℕ) (x : LinkWord) (p : List ℕ) → Path c shadows x p → Path wide shadows x p
  path-more shadows x [] h = h
  path-more shadows x (r ∷ p) h = (h.0, follows-more x r h.1, path-more shadows (Next r) p h.2)

  found-more : (marked : ℕ → Bool) (p : List ℕ) (k : ℕ) → found wide marked p k ≡ found c marked p k
  found-more marked [] k = refl
  found-more marked (r ∷ p) k = rw (found-more marked p k) refl

  bucket-more : (settled : ℕ → Bool) (shadows : LinkWord → ℕ) (m : Map) (h : ℕ) → Bucket c settled shadows m h → Bucket wide settled shadows m h
  bucket-more settled shadows m h b = record {
    rows = b.rows;
    path = path-more shadows (Head h) b.rows b.path;
    whole = b.whole;
    mapped = λ k i. b.mapped k i
        ∙ sym (found-more (marks shadows) b.rows k);
  }

module _ (c : Rows) (settled : ℕ → Bool) (words shadows : LinkWord → ℕ) (y : LinkWord) (still : Still c settled words shadows y) (u : ℕ) (now : LinkWord → ℕ)
    (d : Changed words now y u)
    (more : ℕ → Type 0) (grows : (q : ℕ) → c.linked q → more q) where
  ahead-moved : (x : LinkWord) → x ≢ y → Ahead settled words shadows x → Ahead settled now shadows x
  ahead-moved x ne a = record { version = ap version_of (d.off x ne) ∙ a.version; rooted = a.rooted; kept = a.kept }

  not-fresh : (r : ℕ) → settled r ≡ false → Next r ≢ y
  not-fresh r f z = both_ways (settled r) f (subst (IsRooted settled) (sym z) still.rooted)

  shape-moved : (x : LinkWord) → x ≢ y → (g : Option Entry) → Shape c settled words shadows x g → Shape (with_linked c more) settled now shadows x g
  shape-moved x ne g (Solid s n) = Solid (d.off x ne ∙ s) n
  shape-moved x ne g (Linking k) =
      let here : row_of (now x) ≡ row_of (words x) = ap row_of (d.off x ne) in
      let same : shadows (Next (row_of (now x))) ≡ shadows (Next (row_of (words x))) = ap (λ r. shadows (Next r)) here in
      Linking (record {
        ahead = ahead-moved x ne k.ahead;
        update = k.update;
        entry = k.entry;
        call = subst (λ r. k.update.call ≡ Insert (c.key r) (c.value r)) (sym here) k.call;
        reply = k.reply;
        unmarked = ap is_marked (d.off x ne) ∙ k.unmarked;
        linked = subst more (sym here) (grows (row_of (words x)) k.linked);
        fresh = ap settled here ∙ k.fresh;
        solid = ap (λ r. now (Next r)) here ∙ d.off (Next (row_of (words x))) (not-fresh (row_of (words x)) k.fresh) ∙ k.solid ∙ sym same;
        whole = ap is_marked same ∙ k.whole;
        goes_on = ap row_of same ∙ k.goes_on;
      })
  shape-moved x ne g (Marking k) = Marking (record {
    ahead = ahead-moved x ne k.ahead;
    update = k.update;
    row = k.row;
    entry = k.entry;
    place = k.place;
    call = k.call;
    reply = k.reply;
    marked = ap is_marked (d.off x ne) ∙ k.marked;
    same = ap row_of (d.off x ne) ∙ k.same;
    name = ap by_of (d.off x ne) ∙ k.name;
  })
  shape-moved x ne g (Unlinking k) = Unlinking (record {
    ahead = ahead-moved x ne k.ahead;
    entry = k.entry;
    unmarked = ap is_marked (d.off x ne) ∙ k.unmarked;
    behind = k.behind;
    marked = k.marked;
    past = ap row_of (d.off x ne) ∙ k.past;
  })

  -- nothing was ahead at the word
  pub none-before : (g : Option Entry) → Shape c settled words shadows y g → g ≡ None
  none-before g (Solid s n) = n
  none-before g (Linking k) = absurd (let v : version_of (words y) ≡ version_of (shadows y) = ap version_of still.solid in omega (arith, k.ahead.version))
  none-before g (Marking k) = absurd (let v : version_of (words y) ≡ version_of (shadows y) = ap version_of still.solid in omega (arith, k.ahead.version))
  none-before g (Unlinking k) = k.entry

  fresh-moved : (entries rest : LinkWord → Option Entry) (e : Option Entry) → Changed entries rest y e → Shape c settled words shadows y (entries y) →
      (r : ℕ) → Fresh c words entries r → Fresh (with_linked c more) now rest r
  fresh-moved entries rest e t shape r f =
      let ne : f.word ≢ y = λ z. both_ways false refl (sym (ap is_put (ap entries z ∙ none-before (entries y) shape)) ∙ f.put) in
      record {
        word = f.word;
        link = link-more c more grows f.word f.link;
        put = ap is_put (t.off f.word ne) ∙ f.put;
        leads = ap row_of (d.off f.word ne)
            ∙ f.leads;
      }

-- a mark or an unlinking: no row joins
module _ (c : Rows) (settled : ℕ → Bool) (words shadows : LinkWord → ℕ) (entries : LinkWord → Option Entry) (m : Map)
    (heap : Chained c settled words shadows entries m)
    (y : LinkWord) (still : Still c settled words shadows y) (u : ℕ) (now : LinkWord → ℕ) (d : Changed words now y u) (e : Option Entry)
    (rest : LinkWord → Option Entry) (t : Changed entries rest y e) where
  move-same : Form c y u → is_put e ≡ false → Shape c settled now shadows y e → Chained c settled now shadows rest m
  move-same form quiet shape = record {
    kind = heap.kind;
    buckets = heap.buckets;
    settled_linked = heap.settled_linked;
    real = heap.real;
    shadow_form = heap.shadow_form;
    word_form = λ x l. elim (cases_word x y) [
      | inl s ↦ subst (λ z. Form c z (now z)) (sym s) (subst (Form c y) (sym d.here) form)
      | inr o ↦ subst (Form c x) (sym (d.off x o)) (heap.word_form x l)
    ];
    shadow_links = heap.shadow_links;
    shapes = λ x l. elim (cases_word x y) [
      | inl s ↦ subst (λ z. Shape c settled now shadows z (rest z)) (sym s) (subst (λ g. Shape c settled now shadows y g) (sym t.here) shape)
      | inr o ↦ subst (λ g. Shape c settled now shadows x g) (sym (t.off x o))
          (shape-moved c settled words shadows y still u now d c.linked (λ q k. k) x o (entries x) (heap.shapes x l))
    ];
    known = λ r l. elim (heap.known r l) [
      | inl k ↦ inl k
      | inr f ↦
          inr (fresh-moved c settled words shadows y still u now d c.linked (λ q k. k) entries rest e t (heap.shapes y still.link) r f)
    ];
    one_link = λ x z lx lz px pz q.
        let nx : x ≢ y = λ s. both_ways (is_put e) quiet (sym (ap is_put (ap rest s ∙ t.here)) ∙ px) in
        let nz : z ≢ y = λ s. both_ways (is_put e) quiet (sym (ap is_put (ap rest s ∙ t.here)) ∙ pz) in
        heap.one_link x z lx lz (sym (ap is_put (t.off x nx)) ∙ px) (sym (ap is_put (t.off z nz)) ∙ pz)
        (sym (ap row_of (d.off x nx)) ∙ q ∙ ap row_of (d.off z nz));
    reach = heap.reach;
  }

  pub move-mark : (row : ℕ) (update : Entry) → MarkMove c shadows y u e row update → Chained c settled now shadows rest m
  move-mark row update k =
      let f : Form c y (shadows y) = heap.shadow_form y still.link in
      let remover : HasRightRemover c.layout (marked_link (row_of (shadows y)) (name_in c update.worker)) = elim (cases_Bool c.layout.values) [
        | inl v ↦ record { most = rw v k.who; named = inr (v, heap.kind, refl) }
        | inr v ↦ record { most = rw v (omega arith); named = inl (rw v refl) }
      ] in
      move-same
      (record {
        leads = subst (λ r. (r ≡ 0) ⊎ Follows c y r) (sym (row-held u (marked_link (row_of (shadows y)) (name_in c update.worker)) k.link)) f.leads;
        fit = subst (IsListLink c.layout) (sym k.link) (record { unfrozen = refl; remover = remover });
        headed = λ i. elim (subst IsHead k.place i) [ ];
      })
      (ap is_put k.entry ∙ ap is_insert k.call)
      (Marking (record {
        ahead = record { version = ap version_of d.here ∙ k.version; rooted = still.rooted; kept = still.kept };
        update = update;
        row = row;
        entry = k.entry;
        place = k.place;
        call = k.call;
        reply = k.reply;
        marked = ap is_marked d.here ∙ mark-held u (marked_link (row_of (shadows y)) (name_in c update.worker)) k.link;
        same = ap row_of d.here ∙ row-held u (marked_link (row_of (shadows y)) (name_in c update.worker)) k.link;
        name = ap by_of d.here ∙ by-held u (marked_link (row_of (shadows y)) (name_in c update.worker)) k.link;
      }))

  pub move-unlink : UnlinkMove c shadows y u e → Chained c settled now shadows rest m
  move-unlink k =
      let past : row_of u ≡ row_of (shadows (Next (row_of (shadows y)))) = row-held u (plain_link (row_of (shadows (Next (row_of (shadows y)))))) k.link in
      let unmarked : is_marked u ≡ false = mark-held u (plain_link (row_of (shadows (Next (row_of (shadows y)))))) k.link in
      let behind : settled (row_of (shadows y)) ≡ true = elim (heap.shadow_links y still.link) [ inl z ↦ absurd (omega (arith, k.some)) | inr s ↦ s ] in
      let f : Follows c y (row_of (shadows y)) = elim (heap.shadow_form y still.link).leads [ inl z ↦ absurd (omega (arith, k.some)) | inr s ↦ s ] in
      let n : Form c (Next (row_of (shadows y))) (shadows (Next (row_of (shadows y)))) = heap.shadow_form (Next (row_of (shadows y))) f.linked in
      move-same
      (record {
        leads = subst (λ r. (r ≡ 0) ⊎ Follows c y r) (sym past) (elim n.leads [
          | inl z ↦ inl z
          | inr g ↦ inr (record { real = g.real; linked = g.linked; above = omega (arith, f.above, g.above); bucket = g.bucket ∙ f.bucket })
        ]);
        fit = plain-fit c.layout u (row_of (shadows (Next (row_of (shadows y))))) k.link;
        headed = λ i. unmarked;
      })
      (ap is_put k.entry)
      (Unlinking (record {
        ahead = record { version = ap version_of d.here ∙ k.version; rooted = still.rooted; kept = still.kept };
        entry = k.entry;
        unmarked = ap is_marked d.here ∙ unmarked;
        behind = behind;
        marked = k.gone;
        past = ap row_of d.here ∙ past;
      }))

  module _ (row : ℕ) (update : Entry) (k : LinkMove c words shadows entries y u e row update) (also : ℕ → Type 0) (grows-also : (q : ℕ) → c.linked q → also q)
      (only : (q : ℕ) → also q → c.linked q ⊎ (q ≡ row)) (row-linked : also row) where
    leads-to : row_of u ≡ row
    leads-to = row-held u (plain_link row) k.link

    unmarked : is_marked u ≡ false
    unmarked = mark-held u (plain_link row) k.link

    next-leads : row_of (shadows (Next row)) ≡ row_of (shadows y)
    next-leads = row-held (shadows (Next row)) (plain_link (row_of (shadows y))) k.next_link

    next-unmarked : is_marked (shadows (Next row)) ≡ false
    next-unmarked = mark-held (shadows (Next row)) (plain_link (row_of (shadows y))) k.next_link

    abbrev joint : Rows
    joint = with_linked c also

    link-cases : (x : LinkWord) → IsLink joint x → IsLink c x ⊎ (x ≡ Next row)
    link-cases (Head h) l = inl l
    link-cases (Next q) l = elim (only q l) [ inl w ↦ inl w | inr i ↦ inr (ap Next i) ]

    not-link : (x : LinkWord) → IsLink c x → x ≢ Next row
    not-link x l z = k.own (subst (IsLink c) z l)

    apart : Next row ≢ y
    apart z = not-link y still.link (sym z)

    put : is_put e ≡ true
    put = put-of e update (c.key row) (c.value row) k.entry k.call

    next-form : Form joint (Next row) (shadows (Next row))
    next-form = record {
      leads = subst (λ r. (r ≡ 0) ⊎ Follows joint (Next row) r) (sym next-leads) (elim (heap.shadow_form y still.link).leads [
        | inl z ↦ inl z
        | inr f ↦ elim k.below [
          | inl z ↦ inl z
          | inr b ↦ inr (record {
            real = f.real;
            linked = grows-also (row_of (shadows y)) f.linked;
            above = omega (arith, b);
            bucket = f.bucket
                ∙ sym k.bucket;
          })
        ]
      ]);
      fit = plain-fit c.layout (shadows (Next row)) (row_of (shadows y)) k.next_link;
      headed = λ i. elim i [ ];
    }

    follows-new : (z : LinkWord) → low c z ≤ c.key row → c.bucket (c.key row) ≡ bucket_of c z → Follows joint z row
    follows-new (Head h) a b = record { real = k.real; linked = row-linked; above = a; bucket = b }
    follows-new (Next q) a b = record { real = k.real; linked = row-linked; above = a; bucket = b }

    new-form : Form joint y u
    new-form = record {
      leads = inr (subst (Follows joint y) (sym leads-to) (follows-new y k.above k.bucket));
      fit = plain-fit c.layout u row k.link;
      headed = λ i. unmarked;
    }

    not-settled : settled row ≡ false
    not-settled = elim (cases_Bool (settled row)) [ inl s ↦ absurd (k.own (heap.settled_linked row s)) | inr n ↦ n ]

    here : row_of (now y) ≡ row
    here = ap row_of d.here ∙ leads-to

    new-shape : Shape joint settled now shadows y e
    new-shape = Linking (record {
      ahead = record { version = ap version_of d.here ∙ k.version; rooted = still.rooted; kept = still.kept };
      update = update;
      entry = k.entry;
      call = subst (λ r. update.call ≡ Insert (c.key r) (c.value r)) (sym here) k.call;
      reply = k.reply;
      unmarked = ap is_marked d.here ∙ unmarked;
      linked = subst also (sym here) row-linked;
      fresh = ap settled here ∙ not-settled;
      solid = subst (λ r. now (Next r) ≡ shadows (Next r)) (sym here) (d.off (Next row) apart ∙ k.next_solid);
      whole = subst (λ r. is_marked (shadows (Next r)) ≡ false) (sym here) next-unmarked;
      goes_on = subst (λ r. row_of (shadows (Next r)) ≡ row_of (shadows y)) (sym here) next-leads;
    })

    old : (x : LinkWord) → IsLink joint x → x ≢ y → is_put (rest x) ≡ true → IsLink c x
    old x l ne p = elim (link-cases x l) [
      | inl w ↦ w
      | inr i ↦ absurd (both_ways false refl (sym (ap is_put (t.off x ne ∙ ap entries i ∙ k.next_quiet)) ∙ p))
    ]

    -- no other entry is a link to the row
    other : (x : LinkWord) → IsLink joint x → x ≢ y → is_put (rest x) ≡ true → row_of (now x) ≡ row → ⊥
    other x l ne p q =
        let w : IsLink c x = old x l ne p in
        let f : Links c settled words shadows x (entries x) = put-links c settled words shadows x (entries x) (sym (ap is_put (t.off x ne)) ∙ p)
        (heap.shapes x w) in
        k.own (subst c.linked (sym (ap row_of (d.off x ne)) ∙ q) f.linked)

    pub move-link : Chained joint settled now shadows rest m
    move-link = record {
      kind = heap.kind;
      buckets = heap.buckets;
      settled_linked = λ q s. grows-also q (heap.settled_linked q s);
      real = λ q l. elim (only q l) [ inl w ↦ heap.real q w | inr i ↦ subst (λ z. 1 ≤ z) (sym i) k.real ];
      shadow_form = λ x l. elim (link-cases x l) [
        | inl w ↦ form-more c also grows-also x (shadows x) (heap.shadow_form x w)
        | inr i ↦
            subst (λ z. Form joint z (shadows z)) (sym i) next-form
      ];
      word_form = λ x l. elim (cases_word x y) [
        | inl s ↦ subst (λ z. Form joint z (now z)) (sym s) (subst (Form joint y) (sym d.here) new-form)
        | inr o ↦ subst (Form joint x) (sym (d.off x o)) (elim (link-cases x l) [
          | inl w ↦ form-more c also grows-also x (words x) (heap.word_form x w)
          | inr i ↦
              subst (λ z. Form joint z (words z)) (sym i) (subst (Form joint (Next row)) (sym k.next_solid) next-form)
        ])
      ];
      shadow_links = λ x l. elim (link-cases x l) [
        | inl w ↦ heap.shadow_links x w
        | inr i ↦
            subst (λ z. (row_of (shadows z) ≡ 0) ⊎ (settled (row_of (shadows z)) ≡ true)) (sym i)
            (subst (λ r. (r ≡ 0) ⊎ (settled r ≡ true)) (sym next-leads) (heap.shadow_links y still.link))
      ];
      shapes = λ x l. elim (cases_word x y) [
        | inl s ↦ subst (λ z. Shape joint settled now shadows z (rest z)) (sym s) (subst (λ g. Shape joint settled now shadows y g) (sym t.here) new-shape)
        | inr o ↦ subst (λ g. Shape joint settled now shadows x g) (sym (t.off x o)) (elim (link-cases x l) [
          | inl w ↦ shape-moved c settled words shadows y still u now d also grows-also x o (entries x) (heap.shapes x w)
          | inr i ↦ subst (λ z. Shape joint settled now shadows z (entries z)) (sym i) (Solid (d.off (Next row) apart ∙ k.next_solid) k.next_quiet)
        ])
      ];
      known = λ r l. elim (only r l) [
        | inl w ↦ elim (heap.known r w) [
          | inl s ↦ inl s
          | inr f ↦ inr
              (fresh-moved c settled words shadows y still u now d also grows-also entries rest e t (heap.shapes y still.link) r f)
        ]
        | inr i ↦ inr (record {
          word = y;
          link = link-more c also grows-also y still.link;
          put = ap is_put t.here ∙ put;
          leads = ap row_of d.here ∙ leads-to
              ∙ sym i;
        })
      ];
      one_link = λ x z lx lz px pz q. elim (cases_word x y) [
        | inl sx ↦ elim (cases_word z y) [
          | inl sz ↦ sx ∙ sym sz
          | inr oz ↦ absurd (other z lz oz pz (sym q ∙ ap (λ v. row_of (now v)) sx ∙ ap row_of d.here ∙ leads-to))
        ]
        | inr ox ↦ elim (cases_word z y) [
          | inl sz ↦ absurd (other x lx ox px (q ∙ ap (λ v. row_of (now v)) sz ∙ ap row_of d.here ∙ leads-to))
          | inr oz ↦ heap.one_link x z (old x lx ox px) (old z lz oz pz) (sym (ap is_put (t.off x ox)) ∙ px) (sym (ap is_put (t.off z oz)) ∙ pz)
              (sym (ap row_of (d.off x ox)) ∙ q ∙ ap row_of (d.off z oz))
        ]
      ];
      reach = λ h l. bucket-more c also grows-also settled shadows m h (heap.reach h l);
    }
