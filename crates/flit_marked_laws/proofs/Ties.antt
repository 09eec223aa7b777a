-- Which update linked a row, and which one marked it: once one has, every change of the heap leaves it so.
use Rattle.std.proofs.Common.{◌≡◌, ◌≢◌, ◌⊎◌, inl, inr, ⊎_elim, ℕ, suc, ◌+◌, ◌≤◌, true, List, ◌∷◌, length, Option, Some, None, refl, sym, ◌∙◌, ap, subst, arith}
use Rattle.std.proofs.lemmas.Bool.{false≢true}
use Rattle.std.proofs.lemmas.Option.{none-some, same_Some}
use Rattle.std.proofs.lemmas.List.{length-append}
use Rattle.std.proofs.lemmas.List.Elements.{Contains-append_left, Contains-append_right}
use Rattle.std.specs.Prelude.{Contains}
use Rattle.flit_words.specs.declared.layouts.Layout.{Layout}
use Rattle.flit_words.specs.Words.{version_of}
use Rattle.flit_model.specs.Lists.{next_word}
use Rattle.flit_model.specs.declared.calls.Entry.{Entry}
use Rattle.flit_model.proofs.Membership.{contains_first}
use Rattle.flit_place.specs.Tags.{Place}
use Rattle.flit_structure.specs.Lawful.{StandsFrom, is_insert}
use Rattle.flit_crew.specs.Heaps.{at_word, waits_at, IsOpen}
use Rattle.flit_crew.specs.Crews.{Who}
use Rattle.flit_list_steps.specs.Operations.{HeldOp}
use Rattle.flit_list_heap.specs.Links.{LinkWord, Next, place_of, row_of, is_marked, by_of}
use Rattle.flit_list_heap.specs.Chained.{is_put, Shape, Solid, Linking, Marking, Unlinking, Fresh}
use Rattle.flit_list_heap.specs.Keeping.{ListHeap, IsLinked, IsLinkAt, rows_at, word_in, shadow_in, entry_in, HasMoved, WasWritten, Kept, Later}
use Rattle.flit_list_heap.proofs.Places.{At, at_word_or, place_one, link_open}
use Rattle.flit_list_heap.proofs.Seen.{linked_lasts, link_lasts}
use Rattle.flit_list_laws.specs.ListAnatomy.{list_anatomy}
use Rattle.flit_list_laws.specs.ListCrew.{Knows}
use Rattle.flit_marked_laws.proofs.Strengthening.{GoesOn, IsKeptBesides}

stands_contains : (n : ℕ) (es : List Entry) (e : Entry) → StandsFrom n es e → Contains es e
stands_contains n es e s = subst (λ xs. Contains xs e) (sym s.2) (Contains-append_right s.0 (e ∷ s.1) e (contains_first e s.1))

-- where nothing more is settled, nothing stands among what is settled since
none_since : (n : ℕ) (es : List Entry) (e : Entry) → n ≡ length es → StandsFrom n es e → ⊥
none_since n es e same s = beyond n (length s.0) (length s.1) (length es) same s.3 (ap length s.2 ∙ length-append s.0 (e ∷ s.1))
  where
    beyond : (n f b m : ℕ) → n ≡ m → n ≤ f → m ≡ f + suc b → ⊥
    beyond n f b m i j k = omega (arith, i, j, k)

module _ (l : Layout) (p : Place) (free : List ℕ) where
  abbrev pub kept_now : ListHeap → Type 0
  kept_now h = Kept l free h

  abbrev pub later_now : Option ℕ → ListHeap → ListHeap → Type 0
  later_now who h k = Later l who h k

  abbrev pub knows_now : ListHeap → Who → HeldOp → Type 0
  knows_now h me op = Knows l h me op

  abbrev pub Goes : (ListHeap → Type 0) → Option ℕ → ListHeap → ListHeap → Type 0
  Goes Q who h k = GoesOn (list_anatomy l p free) later_now knows_now l p free kept_now Q who h k

  abbrev pub Besides : (ListHeap → Type 0) → Type 0
  Besides Q = IsKeptBesides (list_anatomy l p free) later_now knows_now l p free kept_now Q

  -- an update waits at a link word, which everybody may reach
  pub waits_link : (h : ListHeap) (kept : Kept l free h) (w : ℕ) (e : Entry) → waits_at h w ≡ Some e → At l free h kept w
  waits_link h kept w e is = ⊎_elim (λ x. x) (λ none. absurd (none-some e (sym (kept.elsewhere w none) ∙ is))) (at_word_or l free h kept w)

  pub waits_open : (h : ListHeap) (w : ℕ) (e : Entry) → Kept l free h → waits_at h w ≡ Some e → IsOpen l free h w
  waits_open h w e kept is = let x = waits_link h kept w e is in subst (IsOpen l free h) x.here (link_open l free h kept x.node x.link)

  -- at a link word where one waits, the word is ahead
  pub waits_differs : (h : ListHeap) (kept : Kept l free h) (x : LinkWord) (e : Entry) → IsLinkAt l h x → entry_in l h x ≡ Some e →
      word_in l h x ≢ shadow_in l h x
  waits_differs h kept x e link is = by_shape (kept.chained.shapes x link)
    where
      apart : (a b : ℕ) → version_of a ≡ version_of b + 1 → a ≢ b
      apart a b v same = beyond (version_of a) (version_of b) (ap version_of same) v
        where
          beyond : (m n : ℕ) → m ≡ n → m ≡ n + 1 → ⊥
          beyond m n i j = omega (arith, i, j)

      by_shape : Shape (rows_at l h) h.ghost (word_in l h) (shadow_in l h) x (entry_in l h x) → word_in l h x ≢ shadow_in l h x
      by_shape (Solid same none) = absurd (none-some e (sym none ∙ is))
      by_shape (Linking k) = apart (word_in l h x) (shadow_in l h x) k.ahead.version
      by_shape (Marking k) = apart (word_in l h x) (shadow_in l h x) k.ahead.version
      by_shape (Unlinking k) = absurd (none-some e (sym k.entry ∙ is))

  -- so nobody has exchanged a word where one waited
  pub waits_stays : (who : Option ℕ) (h k : ListHeap) (kept : Kept l free h) (goes : Later l who h k) (x : LinkWord) (e : Entry) → IsLinkAt l h x →
      entry_in l h x ≡ Some e → word_in l k x ≡ word_in l h x
  waits_stays who h k kept goes x e link is =
      ⊎_elim (λ same. same) (λ (m : HasMoved l h k x). absurd (waits_differs h kept x e link is m.solid)) (goes.word x link)

  -- a marked word at which none waits is at rest
  pub marked_rests : (h : ListHeap) (kept : Kept l free h) (x : LinkWord) → IsLinkAt l h x → is_marked (word_in l h x) ≡ true → entry_in l h x ≡ None →
      word_in l h x ≡ shadow_in l h x
  marked_rests h kept x link marked none = by_shape (kept.chained.shapes x link)
    where
      by_shape : Shape (rows_at l h) h.ghost (word_in l h) (shadow_in l h) x (entry_in l h x) → word_in l h x ≡ shadow_in l h x
      by_shape (Solid same q) = same
      by_shape (Linking k) = absurd (none-some k.update (sym none ∙ k.entry))
      by_shape (Marking k) = absurd (none-some k.update (sym none ∙ k.entry))
      by_shape (Unlinking k) = absurd (false≢true (sym k.unmarked ∙ marked))

  -- ---- a row was marked, with this name, by this update: it waits at the row's next word, or is settled, and so is the mark

  pub record IsMarkTied (row who : ℕ) (e : Entry) (h : ListHeap) : Type 0 where
    pub linked : IsLinked l h row
    pub marked : is_marked (word_in l h (Next row)) ≡ true
    pub by : by_of (word_in l h (Next row)) ≡ who
    pub entry : (waits_at h (next_word l row) ≡ Some e) ⊎ (Contains h.progress.settled e × (word_in l h (Next row) ≡ shadow_in l h (Next row)))

  mark_lasts : (row by : ℕ) (e : Entry) (who : Option ℕ) (h k : ListHeap) → Goes (IsMarkTied row by e) who h k → IsMarkTied row by e h → IsMarkTied row by e k
  mark_lasts row by e who h k goes t = record {
    linked = linked;
    marked = ap is_marked same ∙ t.marked;
    by = ap by_of same ∙ t.by;
    entry = ⊎_elim waited settled t.entry;
  }
    where
      linked : IsLinked l k row
      linked = linked_lasts l who h k goes.relied row t.linked

      same : word_in l k (Next row) ≡ word_in l h (Next row)
      same = ⊎_elim (λ i. i) (λ (m : HasMoved l h k (Next row)). absurd (false≢true (sym m.unmarked ∙ t.marked))) (goes.relied.word (Next row) t.linked)

      Tied : Type 0
      Tied = (waits_at k (next_word l row) ≡ Some e) ⊎ (Contains k.progress.settled e × (word_in l k (Next row) ≡ shadow_in l k (Next row)))

      waited : waits_at h (next_word l row) ≡ Some e → Tied
      waited is = ⊎_elim (λ w. inl w.0) (λ s. by_entry (waits_at k (next_word l row)) refl s) (goes.follows.waiting (next_word l row) e is)
        where
          by_entry : (o : Option Entry) → waits_at k (next_word l row) ≡ o → StandsFrom (length h.progress.settled) k.progress.settled e → Tied
          by_entry None q s = inr (
            stands_contains (length h.progress.settled) k.progress.settled e s,
            marked_rests k goes.is (Next row) linked (ap is_marked same ∙ t.marked) q,
          )
          by_entry (Some d) q s = ⊎_elim (λ was. inl (q ∙ sym was ∙ is)) (λ none. absurd (none-some e (sym none.0 ∙ is))) (goes.fresh (next_word l row) d q)

      settled : Contains h.progress.settled e × (word_in l h (Next row) ≡ shadow_in l h (Next row)) → Tied
      settled s = inr (
        subst (λ es. Contains es e) (sym goes.follows.settled.1) (Contains-append_left h.progress.settled goes.follows.settled.0 e s.0),
        ⊎_elim (λ stays. same ∙ s.1 ∙ sym stays)
            (λ (m : WasWritten l h k (Next row)). same ∙ sym m.now) (goes.relied.shadow (Next row) t.linked),
      )

  pub marks_besides : (row by : ℕ) (e : Entry) → Besides (IsMarkTied row by e)
  marks_besides row by e = record { reached = waits_open; lasts = mark_lasts row by e }

  -- ---- a row is linked

  pub linked_besides : (row : ℕ) → Besides (λ h. IsLinked l h row)
  linked_besides row = record { reached = waits_open; lasts = λ who h k goes t. linked_lasts l who h k goes.relied row t }

  -- ---- a row of the pool was linked by this update: it waits at a word that leads to the row, or is settled, and so is the row

  pub record IsLinkTied (row : ℕ) (e : Entry) (h : ListHeap) : Type 0 where
    pub linked : Contains h.given row
    pub entry : ((w : ℕ) × (waits_at h w ≡ Some e) × (is_insert e.call ≡ true) × (row_of (at_word h w) ≡ row))
        ⊎ (Contains h.progress.settled e × (h.ghost row ≡ true))

  pub put_some : (o : Option Entry) → is_put o ≡ true → (e : Entry) × (o ≡ Some e)
  put_some None q = absurd (false≢true q)
  put_some (Some e) q = (e, refl)

  link_lasts_so : (row : ℕ) (e : Entry) (who : Option ℕ) (h k : ListHeap) → Goes (IsLinkTied row e) who h k → IsLinkTied row e h → IsLinkTied row e k
  link_lasts_so row e who h k goes t = record { linked = goes.relied.given row t.linked; entry = ⊎_elim waited settled t.entry }
    where
      Tied : Type 0
      Tied = ((w : ℕ) × (waits_at k w ≡ Some e) × (is_insert e.call ≡ true) × (row_of (at_word k w) ≡ row))
          ⊎ (Contains k.progress.settled e × (k.ghost row ≡ true))

      settled : Contains h.progress.settled e × (h.ghost row ≡ true) → Tied
      settled s = inr (
        subst (λ es. Contains es e) (sym goes.follows.settled.1) (Contains-append_left h.progress.settled goes.follows.settled.0 e s.0),
        goes.relied.settled row s.1,
      )

      waited : (w : ℕ) × (waits_at h w ≡ Some e) × (is_insert e.call ≡ true) × (row_of (at_word h w) ≡ row) → Tied
      waited x = ⊎_elim (λ i. inl (w, i.0, x.2, ap row_of i.1 ∙ x.3)) since (goes.follows.waiting w e x.1)
        where
          w : ℕ
          w = x.0

          node : At l free h goes.was w
          node = waits_link h goes.was w e x.1

          waits_node : entry_in l h node.node ≡ Some e
          waits_node = ap (waits_at h) node.here ∙ x.1

          -- an insert that waits at a word that leads to the row is this one
          one : (y : LinkWord) (d : Entry) → IsLinkAt l h y → entry_in l h y ≡ Some d → is_put (entry_in l h y) ≡ true → row_of (word_in l h y) ≡ row →
              y ≡ node.node
          one y d link is put leads = goes.was.chained.one_link y node.node link node.link put (ap is_put waits_node ∙ x.2)
              (leads ∙ sym (ap row_of (ap (at_word h) node.here) ∙ x.3))

          since : StandsFrom (length h.progress.settled) k.progress.settled e → Tied
          since s = ⊎_elim (λ q. inr (stands_contains (length h.progress.settled) k.progress.settled e s, q)) again (goes.is.chained.known row (inr
              (goes.relied.given row t.linked)))
            where
              again : Fresh (rows_at l k) (word_in l k) (entry_in l k) row → Tied
              again f =
                  let d = put_some (entry_in l k f.word) f.put in
                  ⊎_elim (λ was. still d.0 d.1 was)
                  (λ none. absurd (none_since (length h.progress.settled) k.progress.settled e (sym (ap length none.1)) s))
                  (goes.fresh (place_of l f.word) d.0 d.1)
                where
                  still : (d : Entry) → entry_in l k f.word ≡ Some d → waits_at h (place_of l f.word) ≡ Some d → Tied
                  still d now was =
                      let y = waits_link h goes.was (place_of l f.word) d was in
                      let same : y.node ≡ f.word = place_one l free k goes.is y.node f.word (link_lasts l who h k goes.relied y.node y.link) f.link y.here in
                      let was_y : entry_in l h y.node ≡ Some d = ap (waits_at h) y.here ∙ was in
                      let stays : word_in l k y.node ≡ word_in l h y.node = waits_stays who h k goes.was goes.relied y.node d y.link was_y in
                      let put : is_put (entry_in l h y.node) ≡ true = ap is_put (was_y ∙ sym now) ∙ f.put in
                      let leads : row_of (word_in l h y.node) ≡ row = ap row_of (sym stays) ∙ ap (λ z. row_of (word_in l k z)) same ∙ f.leads in
                      let is : y.node ≡ node.node = one y.node d y.link was_y put leads in
                      let place : place_of l f.word ≡ w = ap (place_of l) (sym same ∙ is) ∙ node.here in
                      let entry : d ≡ e = same_Some d e (sym was ∙ ap (waits_at h) place ∙ x.1) in
                      inl (w, ap (waits_at k) (sym place) ∙ now ∙ ap Some entry, x.2, ap (λ v. row_of (at_word k v)) (sym place) ∙ f.leads)

  pub links_besides : (row : ℕ) (e : Entry) → Besides (IsLinkTied row e)
  links_besides row e = record { reached = waits_open; lasts = link_lasts_so row e }
