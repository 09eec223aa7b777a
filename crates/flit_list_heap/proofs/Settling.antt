-- A write-back of a link word keeps the heap layer.
use Rattle.std.proofs.Common.{◌≡◌, ◌≢◌, ℕ, ◌≤◌, Bool, true, false, Option, Some, refl, sym, ap, ◌∙◌, inl, inr, arith, subst}
use Rattle.std.specs.FinMap as fin
use Rattle.flit_model.specs.declared.calls.Call.TheVariants.{Insert}
use Rattle.flit_structure.specs.Lawful.{is_insert}
use Rattle.flit_words.specs.Words.{version_of}
use Rattle.flit_model.specs.Maps.{Map}
use Rattle.flit_model.specs.declared.calls.Entry.{Entry}
use Rattle.std.proofs.lemmas.Bool.{both_ways}
use Rattle.flit_list_heap.specs.Links.{LinkWord, Head, Next, Rows, bucket_of, row_of, is_marked, Changed}
use Rattle.flit_list_heap.specs.Paths.{marks}
use Rattle.flit_list_heap.specs.Chained.{is_put, IsRooted, Ahead, Shape, Solid, Linking, Marking, Unlinking, Bucket}
use Rattle.flit_list_heap.proofs.Base.{cases_word, bucket-apart}
use Rattle.flit_list_heap.proofs.PathLaws.{all-rows, path-follows, path-other, IsOn}
use Rattle.flit_list_heap.proofs.MapLaws.{found-same}

pub put-of : (e : Option Entry) (u : Entry) (k v : ℕ) → e ≡ Some u → u.call ≡ Insert k v → is_put e ≡ true
put-of e u k v p q = ap is_put p ∙ ap is_insert q

pub put-fresh : (c : Rows) (settled : ℕ → Bool) (words shadows : LinkWord → ℕ) (x : LinkWord) (e : Option Entry) → is_put e ≡ true →
    Shape c settled words shadows x e → settled (row_of (words x)) ≡ false
put-fresh c settled words shadows x e p (Solid s n) = absurd (both_ways false refl (sym (ap is_put n) ∙ p))
put-fresh c settled words shadows x e p (Linking l) = l.fresh
put-fresh c settled words shadows x e p (Marking k) = absurd (both_ways false refl (sym (ap is_put k.entry ∙ ap is_insert k.call) ∙ p))
put-fresh c settled words shadows x e p (Unlinking u) = absurd (both_ways false refl (sym (ap is_put u.entry) ∙ p))

module _ (c : Rows) (settled : ℕ → Bool) (words shadows : LinkWord → ℕ) (y : LinkWord) (new : LinkWord → ℕ) (d : Changed shadows new y (words y)) where
  pub ahead-differs : Ahead settled words shadows y → words y ≢ shadows y
  ahead-differs a e = let v : version_of (words y) ≡ version_of (shadows y) = ap version_of e in absurd (omega (arith, a.version))

  pub rooted-more : (more : ℕ → Bool) → ((q : ℕ) → settled q ≡ true → more q ≡ true) → (x : LinkWord) → IsRooted settled x → IsRooted more x
  rooted-more more f (Head h) r = tt
  rooted-more more f (Next q) r = f q r

  -- other words keep their shape
  pub ahead-kept : (more : ℕ → Bool) → ((q : ℕ) → settled q ≡ true → more q ≡ true) → (x : LinkWord) → x ≢ y → Ahead settled words shadows x →
      Ahead more words new x
  ahead-kept more f x ne a = record {
    version = rw (d.off x ne) a.version;
    rooted = rooted-more more f x a.rooted;
    kept = rw (d.off x ne) a.kept;
  }

  pub shape-kept : Ahead settled words shadows y → (more : ℕ → Bool) → ((q : ℕ) → settled q ≡ true → more q ≡ true) → (x : LinkWord) → x ≢ y →
      (e : Option Entry) → (is_put e ≡ true → more (row_of (words x)) ≡ false) → Shape c settled words shadows x e → Shape c more words new x e
  shape-kept a more f x ne e g (Solid s n) = Solid (s ∙ sym (d.off x ne)) n
  shape-kept a more f x ne e g (Linking l) =
      let apart : Next (row_of (words x)) ≢ y = λ z. ahead-differs a (subst (λ w. words w ≡ shadows w) z l.solid) in
      let same : new (Next (row_of (words x))) ≡ shadows (Next (row_of (words x))) = d.off (Next (row_of (words x))) apart in
      Linking (record {
        ahead = ahead-kept more f x ne l.ahead;
        update = l.update;
        entry = l.entry;
        call = l.call;
        reply = l.reply;
        unmarked = l.unmarked;
        linked = l.linked;
        fresh = g (put-of e l.update (c.key (row_of (words x))) (c.value (row_of (words x))) l.entry l.call);
        solid = l.solid ∙ sym same;
        whole = ap is_marked same ∙ l.whole;
        goes_on = ap row_of same ∙ l.goes_on ∙ sym (ap row_of (d.off x ne));
      })
  shape-kept a more f x ne e g (Marking k) = Marking (record {
    ahead = ahead-kept more f x ne k.ahead;
    update = k.update;
    row = k.row;
    entry = k.entry;
    place = k.place;
    call = k.call;
    reply = k.reply;
    marked = k.marked;
    same = k.same ∙ sym (ap row_of (d.off x ne));
    name = k.name;
  })
  shape-kept a more f x ne e g (Unlinking u) =
      let here : row_of (new x) ≡ row_of (shadows x) = ap row_of (d.off x ne) in
      let apart : Next (row_of (shadows x)) ≢ y = λ z. both_ways (is_marked (shadows y)) a.kept (subst (λ w. is_marked (shadows w) ≡ true) z u.marked) in
      let same : new (Next (row_of (new x))) ≡ shadows (Next (row_of (shadows x))) = ap (λ r. new (Next r)) here ∙ d.off (Next (row_of (shadows x))) apart in
      Unlinking (record {
        ahead = ahead-kept more f x ne u.ahead;
        entry = u.entry;
        unmarked = u.unmarked;
        behind = ap more here ∙ f (row_of (shadows x)) u.behind;
        marked = ap is_marked same ∙ u.marked;
        past = u.past ∙ sym (ap row_of same);
      })

  -- other buckets keep their lists
  pub bucket-other : (m now : Map) (more : ℕ → Bool) (h : ℕ) → h ≢ bucket_of c y → ((r : ℕ) → more r ≡ true → c.bucket (c.key r) ≡ h → settled r ≡ true) →
      ((k : ℕ) → c.bucket k ≡ h → fin.get now k ≡ fin.get m k) → Bucket c settled shadows m h → Bucket c more new now h
  bucket-other m now more h ne f g b =
      let off : (r : ℕ) → c.bucket (c.key r) ≡ h → new (Next r) ≡ shadows (Next r) = λ r e. d.off (Next r) (bucket-apart c (Next r) y (λ z. ne (sym e ∙ z))) in
      record {
        rows = b.rows;
        path = path-other c shadows new y (words y) d (Head h) b.rows ne b.path;
        whole = λ r s e u. b.whole r (f r s e) e (sym (ap is_marked (off r e)) ∙ u);
        mapped = λ k e. g k e ∙ b.mapped k e
            ∙ sym (found-same c (marks shadows) (marks new) k b.rows (all-rows (λ r. (1 ≤ r) × (c.linked r) × (c.bucket (c.key r) ≡ h))
            (λ r. marks new r ≡ marks shadows r) (λ r l. ap is_marked (off r l.2)) b.rows (path-follows c shadows (Head h) b.rows b.path)));
      }

  -- the word is on its bucket's list
  pub is_on : (z : LinkWord) (m : Map) → IsRooted settled z → is_marked (shadows z) ≡ false → (b : Bucket c settled shadows m (bucket_of c z)) →
      IsOn z (Head (bucket_of c z)) b.rows
  is_on (Head g) m r k b = inl refl
  is_on (Next q) m r k b = inr (q, refl, b.whole q r refl k)

  pub marks-same : is_marked (shadows y) ≡ false → is_marked (words y) ≡ false → (r : ℕ) → marks new r ≡ marks shadows r
  marks-same e u r = elim (cases_word (Next r) y) [
    | inl s ↦ subst (λ z. is_marked (new z) ≡ is_marked (shadows z)) (sym s) (ap is_marked d.here ∙ u ∙ sym e)
    | inr o ↦ ap is_marked (d.off (Next r) o)
  ]
