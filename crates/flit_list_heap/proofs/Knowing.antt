-- What a link word or a row says of the map.
use Rattle.std.proofs.Common.{◌≡◌, ◌≢◌, ℕ, ◌+◌, ◌<◌, ◌≤◌, Bool, true, false, List, [], ◌∷◌, ◌++◌, Option, Some, None, refl, sym, ap, ◌∙◌, inl, inr, arith, subst}
use Rattle.std.specs.FinMap as fin
use Rattle.flit_structure.specs.Lawful.{is_insert}
use Rattle.flit_model.specs.Maps.{map_after}
use Rattle.std.specs.List.{AllByRecursion}
use Rattle.flit_model.specs.Maps.{Map}
use Rattle.flit_model.specs.declared.calls.Entry.{Entry}
use Rattle.std.proofs.lemmas.Bool.{both_ways}
use Rattle.flit_list_heap.specs.Links.{LinkWord, Head, Next, Rows, low, bucket_of, IsLink, row_of, is_marked, Changed}
use Rattle.flit_list_heap.specs.Paths.{Follows, Path, found, marks}
use Rattle.flit_list_heap.proofs.Parts.{inserts}
use Rattle.flit_list_heap.specs.Chained.{map_with, is_put, IsRooted, Links, Shape, Solid, Linking, Marking, Unlinking, Bucket, Fresh, Chained, IsPast}
use Rattle.flit_list_heap.proofs.PathLaws.{all-rows, path-above, Cut, cut}
use Rattle.flit_list_heap.proofs.MapLaws.{found-none, found-marked, found-behind, found-in}
use Rattle.flit_list_heap.proofs.Settle.{bucket-linked}
use Rattle.flit_list_heap.proofs.Settling.{is_on}

pub put-links : (c : Rows) (settled : ℕ → Bool) (words shadows : LinkWord → ℕ) (x : LinkWord) (e : Option Entry) → is_put e ≡ true →
    Shape c settled words shadows x e → Links c settled words shadows x e
put-links c settled words shadows x e p (Solid s n) = absurd (both_ways false refl (sym (ap is_put n) ∙ p))
put-links c settled words shadows x e p (Linking l) = l
put-links c settled words shadows x e p (Marking k) = absurd (both_ways false refl (sym (ap is_put k.entry ∙ ap is_insert k.call) ∙ p))
put-links c settled words shadows x e p (Unlinking u) = absurd (both_ways false refl (sym (ap is_put u.entry) ∙ p))

unchanged : (f : LinkWord → ℕ) (y : LinkWord) → Changed f f y (f y)
unchanged f y = record { here = refl; off = λ x o. refl }

-- a link that passes over a key leads to rows of other keys
beyond : (c : Rows) (img : LinkWord → ℕ) (j : ℕ) (x : LinkWord) (p : List ℕ) → IsPast c j (row_of (img x)) → Path c img x p →
    AllByRecursion (λ r. c.key r ≢ j) p
beyond c img j x [] g h = tt
beyond c img j x (r ∷ p) (inl z) h = absurd (omega (arith, h.1.real, h.0))
beyond c img j x (r ∷ p) (inr l) h =
    let k : j < c.key r = subst (λ q. j < c.key q) h.0 l in
    ((λ e. absurd (omega arith)), all-rows (λ q. c.key r + 1 ≤ c.key q) (λ q. c.key q ≢ j) (λ q b e. absurd (omega arith)) p (path-above c img (Next r) p h.2))

module _ (c : Rows) (settled : ℕ → Bool) (words shadows : LinkWord → ℕ) (entries : LinkWord → Option Entry) (m : Map)
    (heap : Chained c settled words shadows entries m) where
  shadow-unmarked : (x : LinkWord) → IsLink c x → is_marked (words x) ≡ false → (e : Option Entry) → Shape c settled words shadows x e →
      is_marked (shadows x) ≡ false
  shadow-unmarked x l u e (Solid s n) = sym (ap is_marked s) ∙ u
  shadow-unmarked x l u e (Linking k) = k.ahead.kept
  shadow-unmarked x l u e (Marking k) = k.ahead.kept
  shadow-unmarked x l u e (Unlinking k) = k.ahead.kept

  pub present : (r : ℕ) → settled r ≡ true → is_marked (words (Next r)) ≡ false → fin.get m (c.key r) ≡ Some (c.value r)
  present r s u =
      let b : Bucket c settled shadows m (c.bucket (c.key r)) = heap.reach (c.bucket (c.key r)) (heap.buckets (c.key r)) in
      let w : is_marked (shadows (Next r)) ≡ false = shadow-unmarked (Next r) (heap.settled_linked r s) u (entries (Next r))
      (heap.shapes (Next r) (heap.settled_linked r s)) in
      b.mapped (c.key r) refl ∙ found-in c shadows (marks shadows) (Head (c.bucket (c.key r))) b.rows r b.path (b.whole r s refl w) w

  -- ---- gaps

  record Around (z : LinkWord) : Type 0 where
    front : List ℕ
    rest : List ℕ
    tail : Path c shadows z rest
    below : AllByRecursion (λ r. c.key r < low c z) front
    mapped : (j : ℕ) → c.bucket j ≡ bucket_of c z → fin.get m j ≡ found c (marks shadows) (front ++ rest) j

  around : (z : LinkWord) → IsLink c z → IsRooted settled z → is_marked (shadows z) ≡ false → Around z
  around z l r u =
      let b : Bucket c settled shadows m (bucket_of c z) = heap.reach (bucket_of c z) (bucket-linked c z heap.buckets l) in
      let k : Cut c shadows shadows (Head (bucket_of c z)) z b.rows =
      cut c shadows shadows (shadows z) (Head (bucket_of c z)) z b.rows (unchanged shadows z) b.path
      (is_on c settled shadows shadows z shadows (unchanged shadows z) z m r u b) in
      record {
        front = k.front;
        rest = k.rest;
        tail = k.tail;
        below = k.below;
        mapped = λ j e. b.mapped j e ∙ ap (λ p. found c (marks shadows) p j) k.parts;
      }

  before : (z : LinkWord) (j : ℕ) → low c z ≤ j → (p : List ℕ) → AllByRecursion (λ r. c.key r < low c z) p → AllByRecursion (λ r. c.key r ≢ j) p
  before z j g p h = all-rows (λ r. c.key r < low c z) (λ r. c.key r ≢ j) (λ r b e. absurd (omega arith)) p h

  gap-shadow : (z : LinkWord) (j : ℕ) → IsLink c z → IsRooted settled z → is_marked (shadows z) ≡ false → low c z ≤ j → c.bucket j ≡ bucket_of c z →
      IsPast c j (row_of (shadows z)) → fin.get m j ≡ None
  gap-shadow z j l r u g b h =
      let a : Around z = around z l r u in
      a.mapped j b ∙ found-behind c (marks shadows) j a.front a.rest (before z j g a.front a.below)
      ∙ found-none c (marks shadows) j a.rest (beyond c shadows j z a.rest h a.tail)

  -- a row whose link is settled is in the map then
  pub arrive : (y : LinkWord) → IsLink c y → is_put (entries y) ≡ true →
      fin.get (map_with m (entries y)) (c.key (row_of (words y))) ≡ Some (c.value (row_of (words y)))
  arrive y l p =
      let k : Links c settled words shadows y (entries y) = put-links c settled words shadows y (entries y) p (heap.shapes y l) in
      let r = row_of (words y) in
      let f : Follows c y r = elim (heap.word_form y l).leads [ inl z ↦ absurd (let o : 1 ≤ r = heap.real r k.linked in omega arith) | inr g ↦ g ] in
      let past : IsPast c (c.key r) (row_of (shadows y)) = subst (IsPast c (c.key r)) k.goes_on
      (elim (heap.shadow_form (Next r) k.linked).leads [ inl z ↦ inl z | inr g ↦ inr (omega (arith, g.above)) ]) in
      let none : fin.get m (c.key r) ≡ None = gap-shadow y (c.key r) l k.ahead.rooted k.ahead.kept f.above f.bucket past in
      ap (λ e. fin.get (map_with m e) (c.key r)) k.entry ∙ ap (λ g. fin.get (map_after m g) (c.key r)) k.call ∙ (inserts m (c.key r) (c.value r) none).has

  gap-rest : (z : LinkWord) (j n : ℕ) (p : List ℕ) → row_of (shadows z) ≡ n → is_marked (shadows (Next n)) ≡ true → IsPast c j (row_of (shadows (Next n))) →
      Path c shadows z p → found c (marks shadows) p j ≡ None
  gap-rest z j n [] e k h t = refl
  gap-rest z j n (r ∷ p) e k h t =
      let s : n ≡ r = sym e ∙ t.0 in
      found-marked c (marks shadows) r p j (subst (λ q. is_marked (shadows (Next q)) ≡ true) s k)
      ∙ found-none c (marks shadows) j p (beyond c shadows j (Next r) p (subst (λ q. IsPast c j (row_of (shadows (Next q)))) s h) t.2)

  gap-rooted : (x : LinkWord) (j : ℕ) → IsLink c x → IsRooted settled x → is_marked (words x) ≡ false → low c x ≤ j → c.bucket j ≡ bucket_of c x →
      IsPast c j (row_of (words x)) → (e : Option Entry) → Shape c settled words shadows x e → fin.get m j ≡ None
  gap-rooted x j l r u g b h e (Solid s n) = gap-shadow x j l r (sym (ap is_marked s) ∙ u) g b (subst (λ w. IsPast c j (row_of w)) s h)
  gap-rooted x j l r u g b h e (Linking k) = gap-shadow x j l r k.ahead.kept g b (elim h [
    | inl z ↦ absurd (let o : 1 ≤ row_of (words x) = heap.real (row_of (words x)) k.linked in omega arith)
    | inr o ↦ subst (IsPast c j) k.goes_on (elim (heap.shadow_form (Next (row_of (words x))) k.linked).leads
        [ inl z ↦ inl z | inr f ↦ inr (omega (arith, f.above)) ])
  ])
  gap-rooted x j l r u g b h e (Marking k) = absurd (both_ways (is_marked (words x)) u k.marked)
  gap-rooted x j l r u g b h e (Unlinking k) =
      let a : Around x = around x l r k.ahead.kept in
      a.mapped j b ∙ found-behind c (marks shadows) j a.front a.rest (before x j g a.front a.below)
      ∙ gap-rest x j (row_of (shadows x)) a.rest refl k.marked (subst (IsPast c j) k.past h) a.tail

  gap-fresh : (r j : ℕ) → Fresh c words entries r → c.key r + 1 ≤ j → c.bucket j ≡ c.bucket (c.key r) → IsPast c j (row_of (words (Next r))) →
      fin.get m j ≡ None
  gap-fresh r j f g b h =
      let k : Links c settled words shadows f.word (entries f.word) =
      put-links c settled words shadows f.word (entries f.word) f.put (heap.shapes f.word f.link) in
      let i : Follows c f.word r = elim (heap.word_form f.word f.link).leads [
        | inl z ↦ absurd (let o : 1 ≤ row_of (words f.word) = heap.real (row_of (words f.word)) k.linked in omega arith)
        | inr w ↦
            subst (Follows c f.word) f.leads w
      ] in
      let e : row_of (words (Next r)) ≡ row_of (shadows f.word) = ap (λ q. row_of (words (Next q))) (sym f.leads) ∙ ap row_of k.solid ∙ k.goes_on in
      gap-shadow f.word j f.link k.ahead.rooted k.ahead.kept (omega (arith, i.above)) (b ∙ i.bucket) (subst (IsPast c j) e h)

  pub gap : (x : LinkWord) (j : ℕ) → IsLink c x → is_marked (words x) ≡ false → low c x ≤ j → c.bucket j ≡ bucket_of c x → IsPast c j (row_of (words x)) →
      fin.get m j ≡ None
  gap (Head g) j l u b e h = gap-rooted (Head g) j l tt u b e h (entries (Head g)) (heap.shapes (Head g) l)
  gap (Next r) j l u b e h = elim (heap.known r l) [
    | inl s ↦ gap-rooted (Next r) j l s u b e h (entries (Next r)) (heap.shapes (Next r) l)
    | inr f ↦ gap-fresh r j f b e h
  ]
