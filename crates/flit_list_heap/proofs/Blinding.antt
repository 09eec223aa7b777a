-- Words that nobody may reach, and their shadows, change nothing.
use Rattle.std.proofs.Common.{◌≡◌, ℕ, ◌<◌, ◌≤◌, slice_index, length, Bool, false, List, [], Option, refl, sym, ap, ◌∙◌, inl, inr, subst}
use Rattle.std.proofs.lemmas.Bool.{both_ways}
use Rattle.std.proofs.lemmas.List.{append-nil}
use Rattle.flit_words.specs.declared.layouts.Layout.{Layout}
use Rattle.flit_words.specs.declared.limits.TheConstants.{GREATEST_KEY}
use Rattle.flit_words.specs.Layouts.{row_word_of, value_word_of}
use Rattle.flit_words.specs.Words.{is_tagged, value_of}
use Rattle.flit_model.specs.Settling.{Progress}
use Rattle.flit_model.specs.Lists.{key_in, row_value_in}
use Rattle.flit_structure.specs.Moments.{Opening}
use Rattle.flit_crew.specs.Heaps.{at_word, at_shadow, IsOpen, AreAlike}
use Rattle.flit_list_heap.specs.Links.{LinkWord, place_of, is_marked}
use Rattle.flit_list_heap.specs.Keeping.{ListHeap, IsLinked, IsLinkAt, rows_at, word_in, shadow_in, entry_in, content_of, HasInsert, Kept, Later}
use Rattle.flit_list_heap.proofs.Parts.{value_with}
use Rattle.flit_list_heap.proofs.Agreeing.{heap-agrees}
use Rattle.flit_list_heap.proofs.Rekeying.{heap-rekeyed}
use Rattle.flit_list_heap.proofs.Places.{link_open, key_open, value_open}

-- nothing changes
pub same : (l : Layout) (h : ListHeap) (who : Option ℕ) → Later l who h h
same l h who = record {
  opening = refl;
  given = λ r g. g;
  settled = λ r s. s;
  updates = ([], sym (append-nil h.progress.settled));
  keys = λ r m. refl;
  values = λ r m v. refl;
  word = λ x m. inl refl;
  shadow = λ x m. inl refl;
  joins = λ r m f t. absurd (both_ways (h.ghost r) f t);
  named = λ x m v u t. absurd (both_ways (is_marked (word_in l h x)) u t);
}

module _ (l : Layout) (free : List ℕ) (h : ListHeap) (kept : Kept l free h) (ws ss : List ℕ)
    (words : (w : ℕ) → IsOpen l free h w → slice_index ws w ≡ at_word h w)
    (shadows : (w : ℕ) → IsOpen l free h w → slice_index ss w ≡ at_shadow h w) (number : length ws ≡ length h.words)
    (shadows_number : length ss ≡ length h.shadows)
    (untagged : (w : ℕ) → w < length ss → is_tagged (slice_index ss w) ≡ false) where
  abbrev k : ListHeap
  k = record h { words = ws; shadows = ss }

  word_at : (x : LinkWord) → IsLinkAt l h x → word_in l k x ≡ word_in l h x
  word_at x m = words (place_of l x) (link_open l free h kept x m)

  shadow_at : (x : LinkWord) → IsLinkAt l h x → shadow_in l k x ≡ shadow_in l h x
  shadow_at x m = shadows (place_of l x) (link_open l free h kept x m)

  key_at : (r : ℕ) → IsLinked l h r → key_in l ws r ≡ key_in l h.words r
  key_at r m = ap value_of (words (row_word_of l r 0) (key_open l free h kept r m))

  value_at : (r : ℕ) → IsLinked l h r → row_value_in l ws r ≡ row_value_in l h.words r
  value_at r m = value_with l.values (slice_index ws (value_word_of l r)) (at_word h (value_word_of l r))
      (λ v. words (value_word_of l r) (value_open l free h kept r v m))

  kept_alike : Kept l free k
  kept_alike = record {
    accepted = kept.accepted;
    pool = kept.pool;
    words = number ∙ kept.words;
    shadows = shadows_number ∙ kept.shadows;
    opened = kept.opened;
    apart = kept.apart;
    given = kept.given;
    bare = λ v r. let o : IsOpen l free h v = record { within = r.within; given = r.given; ours = r.ours } in ap is_tagged (words v o) ∙ kept.bare v o;
    untagged = λ v b. untagged v (subst (λ n. v < n) (sym (shadows_number ∙ kept.shadows)) b);
    keys = λ r m. words (row_word_of l r 0) (key_open l free h kept r m) ∙ kept.keys r m ∙ sym (shadows (row_word_of l r 0) (key_open l free h kept r m));
    values = λ r m v. words (value_word_of l r) (value_open l free h kept r v m) ∙ kept.values r m v
        ∙ sym (shadows (value_word_of l r) (value_open l free h kept r v m));
    small = λ r m. subst (λ n. n ≤ GREATEST_KEY) (sym (key_at r m)) (kept.small r m);
    stays = λ r a. key_at r (inl a) ∙ kept.stays r a;
    grown = λ r g. subst (HasInsert h.progress) (sym (key_at r (inr g))) (kept.grown r g);
    elsewhere = kept.elsewhere;
    legal = kept.legal;
    chained = heap-rekeyed (rows_at l h) (key_in l ws) (row_value_in l ws) (λ r m. key_at r m) (λ r m. value_at r m)
        h.ghost (word_in l k) (shadow_in l k) (entry_in l k) (content_of h)
        (heap-agrees (rows_at l h) (word_in l h) (shadow_in l h) (word_in l k) (shadow_in l k) word_at shadow_at h.ghost
        (entry_in l h) (entry_in l k) (content_of h) (λ x m. refl) kept.chained);
  }

  later_alike : (who : Option ℕ) → Later l who h k
  later_alike who = record {
    opening = refl;
    given = λ r g. g;
    settled = λ r s. s;
    updates = ([], sym (append-nil h.progress.settled));
    keys = λ r m. words (row_word_of l r 0) (key_open l free h kept r m);
    values = λ r m v. words (value_word_of l r) (value_open l free h kept r v m);
    word = λ x m. inl (word_at x m);
    shadow = λ x m. inl (shadow_at x m);
    joins = λ r m f t. absurd (both_ways (h.ghost r) f t);
    named = λ x m v u t. absurd (both_ways (is_marked (word_in l h x)) u (ap is_marked (sym (word_at x m)) ∙ t));
  }

module _ (l : Layout) (free : List ℕ) (h k : ListHeap) (kept : Kept l free h) (a : AreAlike l free h k) where
  abbrev mixed : Opening → Progress → List ℕ → (ℕ → Bool) → ListHeap
  mixed o p g s = record { opening = o; words = k.words; shadows = k.shadows; progress = p; given = g; ghost = s }

  is : mixed h.opening h.progress h.given h.ghost ≡ k
  is = ap (λ o. mixed o h.progress h.given h.ghost) (sym a.opening) ∙ ap (λ p. mixed k.opening p h.given h.ghost) (sym a.progress)
      ∙ ap (λ g. mixed k.opening k.progress g h.ghost) (sym a.given) ∙ ap (λ s. mixed k.opening k.progress k.given s) (sym a.ghost)

  pub kept_blind : Kept l free k
  kept_blind = subst (Kept l free) is (kept_alike l free h kept k.words k.shadows a.words a.shadows a.number a.shadows_number a.untagged)

  pub later_blind : (who : Option ℕ) → Later l who h k
  later_blind who = subst (Later l who h) is (later_alike l free h kept k.words k.shadows a.words a.shadows a.number a.shadows_number a.untagged who)
