-- The shadows are a lawful image, and recovery finds in it the map after the settled updates.
use Rattle.std.proofs.Common.{◌≡◌, ◌≢◌, ◌⊎◌, inl, inr, ℕ, ◌+◌, ◌-◌, ◌*◌, ◌%◌, ◌^◌, ◌<◌, ◌≤◌, not, Bool, true, false, cond, List, [], ◌∷◌, ◌++◌, length, map, flat_map, slice_index, refl, sym, ◌∙◌, ap, subst, arith, if◌then◌else◌}
use Rattle.std.specs.List.{range_with_len}
use Rattle.std.specs.FinMap as fin
use Rattle.flit_words.specs.declared.layouts.Layout.{Layout}
use Rattle.flit_words.specs.declared.layouts.Kind.TheVariants.{List as List_kind, Tree as Tree_kind}
use Rattle.flit_words.specs.Layouts.{words_of, parts_of, last_row_of}
use Rattle.flit_words.specs.Words.{value_of, is_tagged}
use Rattle.flit_words.specs.Links.{link_of}
use Rattle.flit_model.specs.Maps.{IsLegal, map_after_all}
use Rattle.flit_model.specs.Lists.{IsListLink, IsLawfulChain, value_in, key_in, row_value_in, next_word, list_pairs, rows_on_chains, pair_in}
use Rattle.flit_model.specs.Images.{Chains, free_rows}
use Rattle.flit_model.specs.declared.calls.Entry.{Entry}
use Rattle.flit_model.proofs.Elements.{flat_map-none}
use Rattle.flit_structure.specs.Moments.{waiting_updates}
use Rattle.flit_structure.specs.Lawful.{HasMap, IsRecoverable}
use Rattle.flit_crew.specs.Heaps.{at_word}
use Rattle.flit_one_key.specs.Steps.{IsSmall, key_word, value_word, to_row}
use Rattle.flit_one_key_crew.specs.OneKeyCrew.{map_if, link_to, linked_after, Words_of, row_key, row_value, linked_first, updates, HasLinked, Kept}
use Rattle.flit_one_key_crew.proofs.RowWords.{one_bucket, last_row, key_within, link_within, value_within, key_other, link_other, value_other}
use Rattle.flit_one_key_crew.proofs.Stories.{Leads, story_leads}

pub next_at : (l : Layout) → next_word l 1 ≡ key_word l + 1
next_at l = turned (l.buckets + parts_of l.kind * (1 - 1))
  where
    turned : (x : ℕ) → x + 1 ≡ x + 0 + 1
    turned x = omega arith

plain_link : (l : Layout) (value : ℕ) → (value ≡ 0) ⊎ (value ≡ to_row) → IsListLink l (link_of value)
plain_link l value (inl e) = rw e (record { unfrozen = refl; remover = record { most = omega arith; named = inl refl } })
plain_link l value (inr e) = rw e (record { unfrozen = refl; remover = record { most = omega arith; named = inl refl } })

-- ---- an image by its head and its row

module _ (l : Layout) (small : IsSmall l) (image : List ℕ) (whole : length image ≡ words_of l) (untagged : (w : ℕ) → w < words_of l →
    is_tagged (slice_index image w) ≡ false) where
  not_tree : l.kind ≢ Tree_kind
  not_tree e = other (sym small.list ∙ e)
    where
      other : List_kind ≡ Tree_kind → ⊥
      other q = cc

  first_bucket : (h : ℕ) → h < l.buckets → h ≡ 0
  first_bucket h lt = zeroth h l.buckets lt (one_bucket l small)
    where
      zeroth : (h b : ℕ) → h < b → b ≡ 1 → h ≡ 0
      zeroth h b i e = omega (arith, i, e)

  empty_chain : value_in image 0 ≡ 0 → (h : ℕ) → h < l.buckets → IsLawfulChain l image h []
  empty_chain none h lt = subst (λ x. IsLawfulChain l image x []) (sym (first_bucket h lt)) (record {
    chain = ap (λ v. (link_of v).row) none;
    links = (plain_link l (value_in image 0) (inl none), tt);
    unmarked = ap (λ v. (link_of v).mark) none;
    rising = tt;
    within = tt;
    bucket = tt;
  })

  unlinked : (key value : ℕ) → value_in image 0 ≡ 0 → HasMap l image (map_if false key value)
  unlinked key value none = (
    free_rows l (Chains (λ h. [])),
    record {
      shape = Chains (λ h. []);
      lawful = (not_tree, record { whole = whole; untagged = untagged; chains = empty_chain none });
      map = sym (ap (λ rows. fin.from_entries (list_pairs l image rows)) (flat_map-none (range_with_len 0 l.buckets)));
      free_rows = refl;
    },
  )

  module _ (head : value_in image 0 ≡ to_row) (next : value_in image (key_word l + 1) ≡ 0) (low : value_in image (key_word l) ≤ 4294967292) where
    after : value_in image (next_word l 1) ≡ 0
    after = ap (value_in image) (next_at l) ∙ next

    row_within : 1 ≤ last_row_of l
    row_within = subst (λ r. 1 ≤ r) (sym (last_row l small)) (omega arith)

    least : (n : ℕ) → 0 ≤ n
    least n = omega arith

    at_first : (x b : ℕ) → b ≡ 1 → x % b ≡ 0
    at_first x b e = ap (λ n. x % n) e ∙ whole_of x
      where
        whole_of : (x : ℕ) → x % 1 ≡ 0
        whole_of x = omega arith

    one_chain : (h : ℕ) → h < l.buckets → IsLawfulChain l image h (1 ∷ [])
    one_chain h lt = subst (λ x. IsLawfulChain l image x (1 ∷ [])) (sym (first_bucket h lt)) (record {
      chain = (ap (λ v. (link_of v).row) head, least_one, row_within, ap (λ v. (link_of v).row) after);
      links = (plain_link l (value_in image 0) (inr head), (plain_link l (value_in image (next_word l 1)) (inl after), tt));
      unmarked = ap (λ v. (link_of v).mark) head;
      rising = (least (key_in l image 1), tt);
      within = (low, tt);
      bucket = (at_first (key_in l image 1 * 2654435761 % 2 ^ 32) l.buckets (one_bucket l small), tt);
    })
      where
        least_one : 1 ≤ 1
        least_one = omega arith

    one_row : rows_on_chains l (λ h. 1 ∷ []) ≡ 1 ∷ []
    one_row = ap (λ n. flat_map (λ (h : ℕ). 1 ∷ []) (range_with_len 0 n)) (one_bucket l small)

    pairs : list_pairs l image (1 ∷ []) ≡ pair_in l image 1 ∷ []
    pairs = ap (λ b. map (pair_in l image) (cond (not b) (1 ∷ []) [])) (ap (λ v. (link_of v).mark) after)

    linked : HasMap l image (map_if true (key_in l image 1) (row_value_in l image 1))
    linked = (
      free_rows l (Chains (λ h. 1 ∷ [])),
      record {
        shape = Chains (λ h. 1 ∷ []);
        lawful = (not_tree, record { whole = whole; untagged = untagged; chains = one_chain });
        map = sym (ap (λ rows. fin.from_entries (list_pairs l image rows)) one_row ∙ ap (λ es. fin.from_entries es) pairs);
        free_rows = refl;
      },
    )

-- ---- the shadows

module _ (l : Layout) (small : IsSmall l) (free : List ℕ) (h : Words_of) (is : Kept l free h) where
  -- the row's words are at rest once it has been linked
  module _ (has : HasLinked h) where
    same_at : (w : ℕ) → w < words_of l → w ≢ 0 → value_in h.shadows w ≡ value_of (at_word h w)
    same_at w lt other = ap value_of (sym (is.rest (is.out has) w lt other))

    same_value : (b : Bool) → l.values ≡ b → row_value_in l h.shadows 1 ≡ row_value l h
    same_value false v = ap (λ b. if b then value_in h.shadows (value_word l) else 0) v
        ∙ sym (ap (λ b. if b then value_of (at_word h (value_word l)) else 0) v)
    same_value true v = ap (λ b. if b then value_in h.shadows (value_word l) else 0) v
        ∙ same_at (value_word l) (value_within l small v) (value_other l small)
        ∙ sym (ap (λ b. if b then value_of (at_word h (value_word l)) else 0) v)

    linked_map : value_in h.shadows 0 ≡ to_row → HasMap l h.shadows (map_if true (row_key l h) (row_value l h))
    linked_map head =
        let key : key_in l h.shadows 1 ≡ row_key l h = same_at (key_word l) (key_within l small) (key_other l small) in
        subst (λ v. HasMap l h.shadows (map_if true (row_key l h) v)) (same_value l.values refl)
        (subst (λ k. HasMap l h.shadows (map_if true k (row_value_in l h.shadows 1))) key
        (linked l small h.shadows is.shadows is.untagged head
        (same_at (key_word l + 1) (link_within l small) (link_other l small) ∙ (is.sealed has).1)
        (subst (λ k. k ≤ 4294967292) (sym key) (is.sealed has).0)))

  has_map : (b : Bool) → value_in h.shadows 0 ≡ link_to b → (b ≡ true → HasLinked h) → HasMap l h.shadows (map_if b (row_key l h) (row_value l h))
  has_map true head has = linked_map (has refl) head
  has_map false head has = unlinked l small h.shadows is.shadows is.untagged (row_key l h) (row_value l h) head

  -- a head that settled updates have left linked was linked at first, or some update is made
  some_made : (settled rest : List Entry) → linked_after (linked_first h) (length settled) ≡ true → updates h ≡ settled ++ rest → HasLinked h
  some_made [] rest e is = inl e
  some_made (x ∷ xs) rest e is = inr (subst (λ es. 1 ≤ length es) (sym is) (omega arith))

  pub recovers_here : IsRecoverable l h.opening.content h.shadows h.progress.settled
  recovers_here =
      let r : Leads (row_key l h) (row_value l h) (linked_first h) h.progress.settled =
      story_leads (row_key l h) (row_value l h) (linked_first h) h.progress.settled (waiting_updates h.progress) is.story in
      record {
        legal = subst (λ m. IsLegal m h.progress.settled) (sym is.content) r.legal;
        content = subst (HasMap l h.shadows) (sym (ap (λ m. map_after_all m h.progress.settled) is.content ∙ r.content))
            (has_map (linked_after (linked_first h) (length h.progress.settled)) is.shadow.links
            (λ e. some_made h.progress.settled (waiting_updates h.progress) e refl));
      }
