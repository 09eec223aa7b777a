-- The heap layer reads the keys and values of linked rows alone.
use Rattle.std.proofs.Common.{◌≡◌, ℕ, ◌+◌, ◌<◌, ◌≤◌, Bool, true, List, [], ◌∷◌, Option, refl, sym, ap, ◌∙◌, inl, inr, subst}
use Rattle.flit_model.specs.Maps.{Map}
use Rattle.flit_model.specs.declared.calls.Entry.{Entry}
use Rattle.flit_list_heap.specs.Links.{LinkWord, Head, Next, Rows, low, bucket_of, IsLink, row_of}
use Rattle.flit_list_heap.specs.Paths.{Follows, Path, marks}
use Rattle.flit_list_heap.specs.Chained.{Form, Shape, Solid, Linking, Marking, Unlinking, Bucket, Chained}
use Rattle.flit_list_heap.proofs.PathLaws.{all-rows, path-follows}
use Rattle.flit_list_heap.proofs.MapLaws.{found-rows}

module _ (c : Rows) (key value : ℕ → ℕ) (keys : (r : ℕ) → c.linked r → key r ≡ c.key r) (values : (r : ℕ) → c.linked r → value r ≡ c.value r) where
  abbrev d : Rows
  d = record c { key = key; value = value }

  low-same : (x : LinkWord) → IsLink c x → low d x ≡ low c x
  low-same (Head h) l = refl
  low-same (Next r) l = ap (λ k. k + 1) (keys r l)

  bucket-same : (x : LinkWord) → IsLink c x → bucket_of d x ≡ bucket_of c x
  bucket-same (Head h) l = refl
  bucket-same (Next r) l = ap c.bucket (keys r l)

  link-same : (x : LinkWord) → IsLink d x → IsLink c x
  link-same (Head h) l = l
  link-same (Next r) l = l

  link-back : (x : LinkWord) → IsLink c x → IsLink d x
  link-back (Head h) l = l
  link-back (Next r) l = l

  follows-same : (x : LinkWord) (r : ℕ) → IsLink c x → Follows c x r → Follows d x r
  follows-same x r l f = record {
    real = f.real;
    linked = f.linked;
    above = rw (low-same x l, keys r f.linked) f.above;
    bucket = ap c.bucket (keys r f.linked)
        ∙ f.bucket ∙ sym (bucket-same x l);
  }

  form-same : (x : LinkWord) (u : ℕ) → IsLink c x → Form c x u → Form d x u
  form-same x u l f = record { leads = elim f.leads [ inl z ↦ inl z | inr k ↦ inr (follows-same x (row_of u) l k) ]; fit = f.fit; headed = f.headed }

  path-rekeyed : (img : LinkWord → ℕ) (x : LinkWord) (p : List ℕ) → IsLink c x → Path c img x p → Path d img x p
  path-rekeyed img x [] l h = h
  path-rekeyed img x (r ∷ p) l h = (h.0, follows-same x r l h.1, path-rekeyed img (Next r) p h.1.linked h.2)

  shape-rekeyed : (settled : ℕ → Bool) (words shadows : LinkWord → ℕ) (x : LinkWord) (e : Option Entry) → IsLink c x → Shape c settled words shadows x e →
      Shape d settled words shadows x e
  shape-rekeyed settled words shadows x e l (Solid s n) = Solid s n
  shape-rekeyed settled words shadows x e l (Linking k) = Linking (record {
    ahead = k.ahead;
    update = k.update;
    entry = k.entry;
    call = rw (keys (row_of (words x)) k.linked, values (row_of (words x)) k.linked) k.call;
    reply = k.reply;
    unmarked = k.unmarked;
    linked = k.linked;
    fresh = k.fresh;
    solid = k.solid;
    whole = k.whole;
    goes_on = k.goes_on;
  })
  shape-rekeyed settled words shadows x e l (Marking k) = Marking (record {
    ahead = k.ahead;
    update = k.update;
    row = k.row;
    entry = k.entry;
    place = k.place;
    call = rw (keys k.row (subst (IsLink c) k.place l)) k.call;
    reply = k.reply;
    marked = k.marked;
    same = k.same;
    name = k.name;
  })
  shape-rekeyed settled words shadows x e l (Unlinking k) = Unlinking (record {
    ahead = k.ahead;
    entry = k.entry;
    unmarked = k.unmarked;
    behind = k.behind;
    marked = k.marked;
    past = k.past;
  })

  bucket-rekeyed : (settled : ℕ → Bool) (shadows : LinkWord → ℕ) (m : Map) (h : ℕ) → h < c.layout.buckets → ((r : ℕ) → settled r ≡ true → c.linked r) →
      Bucket c settled shadows m h → Bucket d settled shadows m h
  bucket-rekeyed settled shadows m h l g b = record {
    rows = b.rows;
    path = path-rekeyed shadows (Head h) b.rows l b.path;
    whole = λ r t e u. b.whole r t (sym (ap c.bucket (keys r (g r t))) ∙ e) u;
    mapped = λ k e. b.mapped k e
        ∙ sym (found-rows c d (marks shadows) k b.rows (all-rows (λ r. (1 ≤ r) × (c.linked r) × (c.bucket (c.key r) ≡ h))
        (λ r. (d.key r ≡ c.key r) × (d.value r ≡ c.value r)) (λ r q. (keys r q.1, values r q.1)) b.rows (path-follows c shadows (Head h) b.rows b.path)));
  }

  pub heap-rekeyed : (settled : ℕ → Bool) (words shadows : LinkWord → ℕ) (entries : LinkWord → Option Entry) (m : Map) →
      Chained c settled words shadows entries m → Chained d settled words shadows entries m
  heap-rekeyed settled words shadows entries m heap = record {
    kind = heap.kind;
    buckets = heap.buckets;
    settled_linked = heap.settled_linked;
    real = heap.real;
    shadow_form = λ x l. form-same x (shadows x) (link-same x l) (heap.shadow_form x (link-same x l));
    word_form = λ x l. form-same x (words x) (link-same x l) (heap.word_form x (link-same x l));
    shadow_links = λ x l. heap.shadow_links x (link-same x l);
    shapes = λ x l. shape-rekeyed settled words shadows x (entries x) (link-same x l) (heap.shapes x (link-same x l));
    known = λ r l. elim (heap.known r l) [
      | inl k ↦ inl k
      | inr f ↦
          inr (record { word = f.word; link = link-back f.word f.link; put = f.put; leads = f.leads })
    ];
    one_link = λ x z lx lz px pz e. heap.one_link x z (link-same x lx) (link-same z lz) px pz e;
    reach = λ h l. bucket-rekeyed settled shadows m h l heap.settled_linked (heap.reach h l);
  }
