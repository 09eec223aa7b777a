-- The heap layer reads link words alone.
use Rattle.std.proofs.Common.{◌≡◌, ℕ, ◌+◌, ◌<◌, ◌≤◌, Bool, true, List, [], ◌∷◌, Option, sym, ap, ◌∙◌, inl, inr, ◌⊎◌, subst}
use Rattle.flit_model.specs.declared.calls.Call.TheVariants.{Insert}
use Rattle.flit_words.specs.Words.{version_of}
use Rattle.flit_model.specs.Maps.{Map}
use Rattle.flit_model.specs.declared.calls.Entry.{Entry}
use Rattle.flit_list_heap.specs.Links.{LinkWord, Head, Next, Rows, IsLink, row_of, is_marked, by_of}
use Rattle.flit_list_heap.specs.Paths.{Path, marks}
use Rattle.flit_list_heap.specs.Chained.{is_put, Form, Ahead, Shape, Solid, Linking, Marking, Unlinking, Bucket, Chained}
use Rattle.flit_list_heap.proofs.PathLaws.{all-rows, path-follows}
use Rattle.flit_list_heap.proofs.MapLaws.{found-same}

module _ (c : Rows) (words shadows now new : LinkWord → ℕ) (w : (x : LinkWord) → IsLink c x → now x ≡ words x)
    (s : (x : LinkWord) → IsLink c x → new x ≡ shadows x) where
  pub path-agrees : (x : LinkWord) (p : List ℕ) → IsLink c x → Path c shadows x p → Path c new x p
  path-agrees x [] l h = ap row_of (s x l) ∙ h
  path-agrees x (r ∷ p) l h = (ap row_of (s x l) ∙ h.0, h.1, path-agrees (Next r) p h.1.linked h.2)

  ahead-agrees : (settled : ℕ → Bool) (x : LinkWord) → IsLink c x → Ahead settled words shadows x → Ahead settled now new x
  ahead-agrees settled x l a = record {
    version = ap version_of (w x l) ∙ a.version ∙ sym (ap (λ u. version_of u + 1) (s x l));
    rooted = a.rooted;
    kept =
        ap is_marked (s x l) ∙ a.kept;
  }

  shape-agrees : (settled : ℕ → Bool) (g : (r : ℕ) → settled r ≡ true → c.linked r) (x : LinkWord) (e : Option Entry) → IsLink c x →
      Shape c settled words shadows x e → Shape c settled now new x e
  shape-agrees settled g x e l (Solid q n) = Solid (w x l ∙ q ∙ sym (s x l)) n
  shape-agrees settled g x e l (Linking k) =
      let here : row_of (now x) ≡ row_of (words x) = ap row_of (w x l) in
      let same : new (Next (row_of (now x))) ≡ shadows (Next (row_of (words x))) = ap (λ r. new (Next r)) here ∙ s (Next (row_of (words x))) k.linked in
      Linking (record {
        ahead = ahead-agrees settled x l k.ahead;
        update = k.update;
        entry = k.entry;
        call = subst (λ r. k.update.call ≡ Insert (c.key r) (c.value r)) (sym here) k.call;
        reply = k.reply;
        unmarked = ap is_marked (w x l) ∙ k.unmarked;
        linked = subst c.linked (sym here) k.linked;
        fresh = ap settled here ∙ k.fresh;
        solid = ap (λ r. now (Next r)) here ∙ w (Next (row_of (words x))) k.linked ∙ k.solid ∙ sym same;
        whole = ap is_marked same ∙ k.whole;
        goes_on = ap row_of same ∙ k.goes_on ∙ sym (ap row_of (s x l));
      })
  shape-agrees settled g x e l (Marking k) = Marking (record {
    ahead = ahead-agrees settled x l k.ahead;
    update = k.update;
    row = k.row;
    entry = k.entry;
    place = k.place;
    call = k.call;
    reply = k.reply;
    marked = ap is_marked (w x l) ∙ k.marked;
    same = ap row_of (w x l) ∙ k.same ∙ sym (ap row_of (s x l));
    name = ap by_of (w x l) ∙ k.name;
  })
  shape-agrees settled g x e l (Unlinking u) =
      let here : row_of (new x) ≡ row_of (shadows x) = ap row_of (s x l) in
      let same : new (Next (row_of (new x))) ≡ shadows (Next (row_of (shadows x))) = ap (λ r. new (Next r)) here
      ∙ s (Next (row_of (shadows x))) (g (row_of (shadows x)) u.behind) in
      Unlinking (record {
        ahead = ahead-agrees settled x l u.ahead;
        entry = u.entry;
        unmarked = ap is_marked (w x l) ∙ u.unmarked;
        behind = ap settled here ∙ u.behind;
        marked = ap is_marked same ∙ u.marked;
        past = ap row_of (w x l) ∙ u.past ∙ sym (ap row_of same);
      })

  bucket-agrees : (settled : ℕ → Bool) (m : Map) (h : ℕ) → h < c.layout.buckets → ((r : ℕ) → settled r ≡ true → c.linked r) → Bucket c settled shadows m h →
      Bucket c settled new m h
  bucket-agrees settled m h l g b = record {
    rows = b.rows;
    path = path-agrees (Head h) b.rows l b.path;
    whole = λ r t e u. b.whole r t e (sym (ap is_marked (s (Next r) (g r t))) ∙ u);
    mapped = λ k e. b.mapped k e
        ∙ sym (found-same c (marks shadows) (marks new) k b.rows (all-rows (λ r. (1 ≤ r) × (c.linked r) × (c.bucket (c.key r) ≡ h))
        (λ r. marks new r ≡ marks shadows r) (λ r q. ap is_marked (s (Next r) q.1)) b.rows (path-follows c shadows (Head h) b.rows b.path)));
  }

  pub heap-agrees : (settled : ℕ → Bool) (entries rest : LinkWord → Option Entry) (m : Map) → ((x : LinkWord) → IsLink c x → rest x ≡ entries x) →
      Chained c settled words shadows entries m → Chained c settled now new rest m
  heap-agrees settled entries rest m t heap = record {
    kind = heap.kind;
    buckets = heap.buckets;
    settled_linked = heap.settled_linked;
    real = heap.real;
    shadow_form = λ x l. subst (Form c x) (sym (s x l)) (heap.shadow_form x l);
    word_form = λ x l. subst (Form c x) (sym (w x l)) (heap.word_form x l);
    shadow_links = λ x l. subst (λ u. (row_of u ≡ 0) ⊎ (settled (row_of u) ≡ true)) (sym (s x l)) (heap.shadow_links x l);
    shapes = λ x l. subst (λ e. Shape c settled now new x e) (sym (t x l)) (shape-agrees settled heap.settled_linked x (entries x) l (heap.shapes x l));
    known = λ r l. elim (heap.known r l) [
      | inl k ↦ inl k
      | inr f ↦ inr (record { word = f.word; link = f.link; put = ap is_put (t f.word f.link) ∙ f.put; leads = ap row_of (w f.word f.link) ∙ f.leads })
    ];
    one_link = λ x z lx lz px pz e. heap.one_link x z lx lz (sym (ap is_put (t x lx)) ∙ px) (sym (ap is_put (t z lz)) ∙ pz)
        (sym (ap row_of (w x lx)) ∙ e ∙ ap row_of (w z lz));
    reach = λ h l. bucket-agrees settled m h l heap.settled_linked (heap.reach h l);
  }
