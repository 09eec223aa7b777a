-- Since an insert's Exchange was asked that links a row: a crash image shows the row exactly where an insert has linked it whose
-- update is settled or taken.
use Rattle.std.proofs.Common.{◌≡◌, ◌≢◌, ◌⊎◌, inl, inr, ⊎_elim, ℕ, zero, suc, ◌+◌, ◌-◌, ◌*◌, ◌<◌, ◌≤◌, ◌==◌, ◌&&◌, Bool, true, false, List, [], ◌∷◌, ◌++◌, length, Option, Some, None, refl, sym, ◌∙◌, ap, subst, arith, if◌then◌else◌}
use Rattle.std.proofs.lemmas.Bool.{false≢true, eqb-true, eqb-false}
use Rattle.std.proofs.lemmas.Option.{none-some, same_Some}
use Rattle.std.proofs.lemmas.List.Elements.{Contains-append_left, Contains-append_right}
use Rattle.std.specs.List.{AllByRecursion, range_with_len}
use Rattle.std.specs.Prelude.{Contains, slice_index, flat_map}
use Rattle.flit_words.specs.declared.layouts.Layout.{Layout}
use Rattle.flit_words.specs.Layouts.{head_of_key}
use Rattle.flit_words.specs.Words.{value_of, bare_of}
use Rattle.flit_words.specs.Links.{link_of}
use Rattle.flit_model.specs.Lists.{IsChain, key_in, link_in, next_word, is_removed, rows_on_chains}
use Rattle.flit_model.specs.Images.{Shape, Chains, Grown, IsLawfulAs}
use Rattle.flit_model.specs.States.{word_at, shadow_at, is_ahead}
use Rattle.flit_model.specs.CrashImages.{crash_image, crash_word}
use Rattle.flit_model.specs.declared.calls.Entry.{Entry}
use Rattle.flit_model.proofs.Chains.{chain_unique}
use Rattle.flit_model.proofs.CrashLaws.{crash_image_at}
use Rattle.flit_model.proofs.Elements.{all_contained, all-flat_map}
use Rattle.flit_place.specs.Tags.{Place}
use Rattle.flit_structure.specs.Moments.{Moment}
use Rattle.flit_structure.specs.Meanings.{Meaning}
use Rattle.flit_structure.specs.Lawful.{is_insert}
use Rattle.flit_crew.specs.Heaps.{heap_of, at_word, waits_at}
use Rattle.flit_crew.proofs.WritingBack.{word_bare}
use Rattle.flit_list_steps.specs.Operations.{HeldOp}
use Rattle.flit_list_heap.specs.Links.{LinkWord, Head, Next, place_of, row_of, is_marked}
use Rattle.flit_list_heap.specs.Paths.{Path}
use Rattle.flit_list_heap.specs.Chained.{Shape as Word_shape, Solid, Linking, Marking, Unlinking}
use Rattle.flit_list_heap.specs.Keeping.{ListHeap, IsReached, IsLinkAt, rows_at, word_in, shadow_in, entry_in, Kept}
use Rattle.flit_list_heap.proofs.Places.{At, row_fits, place_below, next-place, all-words, last-row}
use Rattle.flit_list_heap.proofs.Recovering.{row_is, recovers}
use Rattle.flit_list_laws.specs.ListAnatomy.{list_anatomy}
use Rattle.flit_list_laws.specs.ListCrew.{IsOfLists}
use Rattle.flit_list_structure.specs.ListStructure.{lists}
use Rattle.flit_list_structure.proofs.Lawfulness.{list_lawful}
use Rattle.flit_marked_laws.specs.Marked.{IsShown, IsTaken, Exactly, links, Since}
use Rattle.flit_marked_laws.specs.ListMarks.{told_row}
use Rattle.flit_marked_laws.proofs.Marking.{mark_in}
use Rattle.flit_marked_laws.proofs.Strengthening.{Both, holds_so}
use Rattle.flit_marked_laws.proofs.Ties.{kept_now, later_now, knows_now, waits_link, IsLinkTied, links_besides}
use Rattle.flit_marked_laws.proofs.Lasting.{HoldsStronger}
use Rattle.flit_marked_laws.proofs.Since.{shadow_marked}
use Rattle.flit_marked_laws.proofs.Paths.{reached_linked}
use Rattle.flit_marked_laws.proofs.Taking.{unsettled}
use Rattle.flit_marked_laws.proofs.Links.{IsApart, IsLinkedNow, Told, told, not_linked, mark_bare, real, last}
use Rattle.flit_marked_laws.proofs.Crashes.{Crashed, crash_holds, crash_shadows, crash_settled}

-- a row of one chain is on the chains
on_chains : (chain : ℕ → List ℕ) (row g first n : ℕ) → first ≤ g → g < first + n → Contains (chain g) row →
    Contains (flat_map chain (range_with_len first n)) row
on_chains chain row g first zero low most has = absurd (none first g low most)
  where
    none : (f g : ℕ) → f ≤ g → g < f + 0 → ⊥
    none f g i j = omega (arith, i, j)
on_chains chain row g first (suc n) low most has = by_head (first == g) refl (λ more less. on_chains chain row g (first + 1) n more less has)
  where
    further : (f g : ℕ) → f ≢ g → f ≤ g → f + 1 ≤ g
    further f g ne i = omega (arith, ne, i)

    less : (f g n : ℕ) → g < f + suc n → g < f + 1 + n
    less f g n i = omega (arith, i)

    by_head : (t : Bool) → (first == g) ≡ t →
        (first + 1 ≤ g → g < first + 1 + n → Contains (flat_map chain (range_with_len (first + 1) n)) row) →
        Contains (chain first ++ flat_map chain (range_with_len (first + 1) n)) row
    by_head true q rest = Contains-append_left (chain first) (flat_map chain (range_with_len (first + 1) n)) row
        (subst (λ x. Contains (chain x) row) (sym (eqb-true first g q)) has)
    by_head false q rest = Contains-append_right (chain first) (flat_map chain (range_with_len (first + 1) n)) row
        (rest (further first g (eqb-false first g q) low) (less first g n most))

-- ---- what the shadows of a kept heap show

module _ (l : Layout) (free : List ℕ) (h : ListHeap) (kept : Kept l free h) where
  path_chain : (x : LinkWord) (rows : List ℕ) → Path (rows_at l h) (shadow_in l h) x rows → IsChain l h.shadows (place_of l x) rows
  path_chain x [] k = row_is (shadow_in l h x) ∙ k
  path_chain x (r ∷ rows) k = (row_is (shadow_in l h x) ∙ k.0, k.1.real, (row_fits l free h kept r k.1.linked).1, path_chain (Next r) rows k.2)

  chain_settled : (y : LinkWord) (rows : List ℕ) → IsLinkAt l h y → IsChain l h.shadows (place_of l y) rows → AllByRecursion (λ r. h.ghost r ≡ true) rows
  chain_settled y [] link chain = tt
  chain_settled y (r ∷ rows) link chain =
      let leads : row_of (shadow_in l h y) ≡ r = sym (row_is (shadow_in l h y)) ∙ chain.0 in
      let settled : h.ghost r ≡ true = ⊎_elim (λ z. absurd (none r (row_of (shadow_in l h y)) chain.1 leads z)) (λ s. ap h.ghost (sym leads) ∙ s)
      (kept.chained.shadow_links y link) in
      (settled, chain_settled (Next r) rows (kept.chained.settled_linked r settled) chain.3)
    where
      none : (r n : ℕ) → 1 ≤ r → n ≡ r → n ≡ 0 → ⊥
      none r n i e z = omega (arith, i, e, z)

  reached_settled : (row : ℕ) → IsReached l h.shadows row → h.ghost row ≡ true
  reached_settled row r = all_contained (λ x. h.ghost x ≡ true) (rows_on_chains l r.chain) row
      (all-flat_map (λ x. h.ghost x ≡ true) r.chain 0 l.buckets (λ g least most. chain_settled (Head g) (r.chain g) (below g l.buckets most)
      (r.lawful.chains g (below g l.buckets most)).chain)) r.on
    where
      below : (g n : ℕ) → g < 0 + n → g < n
      below g n i = omega (arith, i)

  -- a settled row is reached in the shadows, or marked there
  settled_shown : (row : ℕ) → h.ghost row ≡ true → (is_marked (shadow_in l h (Next row)) ≡ true) ⊎ IsReached l h.shadows row
  settled_shown row settled = by_mark (is_marked (shadow_in l h (Next row))) refl
    where
      g : ℕ
      g = head_of_key l (key_in l h.words row)

      below : g < l.buckets
      below = kept.chained.buckets (key_in l h.words row)

      least : (n : ℕ) → 0 ≤ n
      least n = omega arith

      plus : (a n : ℕ) → a < n → a < 0 + n
      plus a n i = omega (arith, i)

      by_shape : (s : Shape) → IsLawfulAs l h.shadows s → is_marked (shadow_in l h (Next row)) ≡ false → IsReached l h.shadows row
      by_shape (Chains chain) lawful plain =
          let b = kept.chained.reach g below in
          record {
            chain = chain;
            lawful = lawful.1;
            on = on_chains chain row g 0 l.buckets (least g) (plus g l.buckets below)
                (subst (λ rows. Contains rows row) (chain_unique l h.shadows g b.rows (chain g) (path_chain (Head g) b.rows b.path)
                (lawful.1.chains g below).chain) (b.whole row settled refl plain));
          }
      by_shape (Grown t) lawful plain = absurd (kept.chained.kind lawful.0)

      by_mark : (t : Bool) → is_marked (shadow_in l h (Next row)) ≡ t → (is_marked (shadow_in l h (Next row)) ≡ true) ⊎ IsReached l h.shadows row
      by_mark true q = inl q
      by_mark false q = let r = (recovers l free h kept).content.1 in inr (by_shape r.shape r.lawful q)

module _ (l : Layout) (p : Place) (free : List ℕ) (chains : IsOfLists l) (row : ℕ) (M : Moment HeldOp) (picks : ℕ → Bool) where
  abbrev S : Meaning HeldOp
  S = lists l p free

  abbrev Law : Option Entry → Type 0
  Law o = Exactly (IsShown l (crash_image picks M.state) row) (IsTaken M.progress picks o)

  -- ---- no insert has linked it

  not_shown : IsApart l p free chains row M → IsShown l (crash_image picks M.state) row → ⊥
  not_shown a (inl reached) = not_linked l p free chains row M a a.holds.0
      (reached_linked l free h a.holds.0.kept (λ y. (link_in (crash_image picks M.state) (place_of l y)).row) either (crash_image picks M.state)
      (λ x link. refl) row reached)
    where
      h : ListHeap
      h = heap_of M a.holds.0.given a.holds.0.ghost

      either : (y : LinkWord) → IsLinkAt l h y → ((link_in (crash_image picks M.state) (place_of l y)).row ≡ row_of (shadow_in l h y))
          ⊎ ((link_in (crash_image picks M.state) (place_of l y)).row ≡ row_of (word_in l h y))
      either y link = by_test (picks w && is_ahead (word_at M.state w) (shadow_at M.state w)) refl
        where
          w : ℕ
          w = place_of l y

          below : w < length M.state.shadows
          below = subst (λ n. w < n) (sym a.holds.0.kept.shadows) (place_below l free h a.holds.0.kept y link)

          at : slice_index (crash_image picks M.state) w ≡ crash_word picks M.state w
          at = crash_image_at picks M.state w below

          by_test : (t : Bool) → (picks w && is_ahead (word_at M.state w) (shadow_at M.state w)) ≡ t →
              ((link_in (crash_image picks M.state) w).row ≡ row_of (shadow_in l h y)) ⊎ ((link_in (crash_image picks M.state) w).row ≡ row_of (word_in l h y))
          by_test true q = inr (ap (λ v. (link_of (value_of v)).row)
              (at ∙ ap (λ t. if t then bare_of (word_at M.state w) else shadow_at M.state w) q ∙ sym (word_bare M.state.words w)) ∙ row_is (word_in l h y))
          by_test false q = inl (ap (λ v. (link_of (value_of v)).row)
              (at ∙ ap (λ t. if t then bare_of (word_at M.state w) else shadow_at M.state w) q) ∙ row_is (shadow_in l h y))
  not_shown a (inr marked) = by_test (picks w && is_ahead (word_at M.state w) (shadow_at M.state w)) (ap mark_in (sym at) ∙ marked)
    where
      w : ℕ
      w = next_word l row

      within : (b n r x : ℕ) → 1 ≤ r → r ≤ n → b + 2 * (r - 1) + 1 < b + 2 * n + x
      within b n r x i j = omega (arith, i, j)

      below : w < length M.state.shadows
      below = subst (λ m. w < m) (sym a.holds.0.kept.shadows) (subst (λ m. w < m) (sym (all-words l chains.kind))
          (subst (λ m. m < l.buckets + 2 * l.rows + (if l.values then l.rows else 0)) (sym (next-place l chains.kind row))
          (within l.buckets l.rows row (if l.values then l.rows else 0) (real l p free chains row M a.holds a.pool)
          (subst (λ m. row ≤ m) (last-row l chains.kind) (last l p free chains row M a.holds a.pool)))))

      at : slice_index (crash_image picks M.state) w ≡ crash_word picks M.state w
      at = crash_image_at picks M.state w below

      by_test : (t : Bool) → mark_in (if t then bare_of (word_at M.state w) else shadow_at M.state w) ≡ true → ⊥
      by_test true q = false≢true (sym a.word ∙ sym (mark_bare l p free chains row (word_at M.state w)) ∙ q)
      by_test false q = false≢true (sym a.shadow ∙ q)

  -- ---- an insert has

  module _ (x : Entry) (k : IsLinkedNow l p free chains row M x) where
    abbrev Then : Moment HeldOp
    Then = Crashed l p free chains (IsLinkTied l p free row x) (links_besides l p free row x) M k.holds k.tied picks

    then_holds : HoldsStronger l p free chains (IsLinkTied l p free row x) Then
    then_holds = crash_holds l p free chains (IsLinkTied l p free row x) (links_besides l p free row x) M k.holds k.tied picks

    abbrev h : ListHeap
    h = heap_of Then then_holds.given then_holds.ghost

    kept : Kept l free h
    kept = then_holds.kept.0

    tied : IsLinkTied l p free row x h
    tied = then_holds.kept.1

    S_holds : S.holds Then
    S_holds = (
      holds_so (list_anatomy l p free) (later_now l p free) (knows_now l p free) l p free
          (Both (list_anatomy l p free) (later_now l p free) (knows_now l p free) l p free (kept_now l p free) (IsLinkTied l p free row x))
          (kept_now l p free) Then then_holds kept,
      k.holds.1,
    )

    marked_there : is_removed l Then.state.shadows row ≡ is_marked (shadow_in l h (Next row))
    marked_there = shadow_marked l Then then_holds.given then_holds.ghost row

    abbrev Shown : Type 0
    Shown = IsShown l Then.state.shadows row

    shown_so : h.ghost row ≡ true → Shown
    shown_so settled = ⊎_elim (λ m. inr (marked_there ∙ m)) (λ r. inl r) (settled_shown l free h kept row settled)

    -- where its insert waits still, the row isn't shown
    waits_not_shown : (w : ℕ) → waits_at h w ≡ Some x → is_insert x.call ≡ true → row_of (at_word h w) ≡ row → Shown → ⊥
    waits_not_shown w waits put leads = by_shape (kept.chained.shapes node.node node.link)
      where
        node : At l free h kept w
        node = waits_link l p free h kept w x waits

        is : entry_in l h node.node ≡ Some x
        is = ap (waits_at h) node.here ∙ waits

        row_at_node : row_of (word_in l h node.node) ≡ row
        row_at_node = ap (λ v. row_of (at_word h v)) node.here ∙ leads

        by_shape : Word_shape (rows_at l h) h.ghost (word_in l h) (shadow_in l h) node.node (entry_in l h node.node) → Shown → ⊥
        by_shape (Solid same none) s = none-some x (sym none ∙ is)
        by_shape (Linking k) s = ⊎_elim
            (λ reached. false≢true (sym k.fresh ∙ ap h.ghost row_at_node ∙ reached_settled l free h kept row reached))
            (λ marked. false≢true (sym k.whole ∙ ap (λ r. is_marked (shadow_in l h (Next r))) row_at_node ∙ sym marked_there ∙ marked)) s
        by_shape (Marking k) s = false≢true (sym (ap is_insert k.call) ∙ ap (λ (z : Entry). is_insert z.call) (same_Some k.update x (sym k.entry ∙ is)) ∙ put)
        by_shape (Unlinking k) s = none-some x (sym k.entry ∙ is)

    exactly : Exactly Shown (Contains Then.progress.settled x)
    exactly = ⊎_elim
        (λ t. record {
          only = λ s. absurd (waits_not_shown t.0 t.1 t.2 t.3 s);
          always = λ s. absurd (unsettled S (list_lawful l p free chains) Then S_holds t.0 x t.1 s);
        })
        (λ t. record { only = λ s. t.0; always = λ s. shown_so t.1 }) tied.entry

    linked_law : Law (Some x)
    linked_law = record {
      only = λ s. subst (λ es. Contains es x) (crash_settled l p free chains (IsLinkTied l p free row x) (links_besides l p free row x) M k.holds k.tied picks)
          (exactly.only (subst (λ image. IsShown l image row)
          (sym (crash_shadows l p free chains (IsLinkTied l p free row x) (links_besides l p free row x) M k.holds k.tied picks)) s));
      always = λ s. subst (λ image. IsShown l image row)
          (crash_shadows l p free chains (IsLinkTied l p free row x) (links_besides l p free row x) M k.holds k.tied picks)
          (exactly.always (subst (λ es. Contains es x)
          (sym (crash_settled l p free chains (IsLinkTied l p free row x) (links_besides l p free row x) M k.holds k.tied picks)) s));
    }

  pub shown : (o : Option Entry) → Since S told_row links row M o → Law o
  shown o since = by_told o (told l p free chains row M o since)
    where
      by_told : (o : Option Entry) → Told l p free chains row M o → Law o
      by_told None k = record { only = λ s. absurd (not_shown k s); always = λ s. absurd s }
      by_told (Some x) k = linked_law x k
