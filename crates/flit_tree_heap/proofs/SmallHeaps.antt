-- The small heaps are lawful openings, and meet what the exchanges ask.
use Rattle.std.proofs.Common.{◌≡◌, ◌≢◌, ℕ, zero, suc, ◌/◌, ◌%◌, ◌<◌, ◌≤◌, ◌==◌, true, false, List, [], ◌∷◌, length, slice_index, Contains, None, nat_cmp, nat_lt, refl, sym, ap, subst, ◌∙◌, arith, inl, inr, ltb-true}
use Rattle.std.proofs.lemmas.Bool.{cases_lt, false≢true}
use Rattle.std.proofs.lemmas.List.Elements.{All-get_or}
use Rattle.std.proofs.lemmas.List.Sums.{AllPass-from_list_all}
use Rattle.std.proofs.lemmas.List.{get_or_past}
use Rattle.std.specs.List.{list_all}
use Rattle.std.specs.FinMap.{get-empty}
use Rattle.flit_words.specs.Links.{link_of}
use Rattle.flit_structure.specs.Moments.{Opening}
use Rattle.flit_words.specs.Layouts.{initial_of, fixed_words}
use Rattle.flit_words.specs.Words.{is_tagged, value_of, untagged}
use Rattle.flit_model.specs.Lists.{value_in}
use Rattle.flit_model.specs.Images.{Grown}
use Rattle.flit_model.specs.Trees.{Leaf, Inner, IsLawfulTree, IsEdgeTo, IsFixed, rows_in_tree}
use Rattle.flit_model.proofs.Membership.{contains_first, contains_later, contains_none, contains_cases}
use Rattle.flit_runs.specs.Workings.{dependency}
use Rattle.flit_crew.specs.Heaps.{at_word, at_shadow, waits_at, AreResting}
use Rattle.flit_tree_heap.specs.Edges.{left, right, other, row_of, flag_of, frozen_of}
use Rattle.flit_tree_heap.specs.Views.{TreeHeap, IsTreeLayout, IsLinked, IsInnerRow}
use Rattle.flit_tree_heap.specs.Kept.{IsKept}
use Rattle.flit_tree_heap.specs.Opened.{first_heap}
use Rattle.flit_tree_heap.specs.Exchanges.{IsFlag, IsFreeze, IsLink, IsSwing, ArePersistent}
use Rattle.flit_tree_heap.specs.SmallHeaps.{small_layout, small_words, stored_heap, linked_heap, ExchangesCanBeWon}
use Rattle.flit_tree_heap.proofs.Opening.{opens, word_is}
use Rattle.flit_tree_heap.proofs.Leading.{two_inner, led_top, led_next}

layout : IsTreeLayout small_layout
layout = record {
  accepted = record {
    least_bucket = omega arith;
    most_bucket = omega arith;
    least_row = omega arith;
    most_row = omega arith;
    most_slot = omega arith;
    least_worker = omega arith;
    most_worker = omega arith;
    least_limit = omega arith;
    most_limit = omega arith;
  };
  kind = refl;
}

-- small words have no tag, and the fixed ones their values
small : (n : ℕ) → n < 4294967296 → (is_tagged n ≡ false) × (value_of n ≡ n)
small n h = let z : n / 4294967296 ≡ 0 = omega (arith, h) in (ap (λ q. q % 2 == 1) z, omega (arith, h))

module _ (top a b : ℕ) (all : (w : ℕ) → slice_index (small_words top a b) w < 4294967296) where
  fixed_word : (w : ℕ) → w < 15 → w ≢ 4 → slice_index (small_words top a b) w ≡ slice_index fixed_words w
  fixed_word zero h n = refl
  fixed_word (suc zero) h n = refl
  fixed_word (suc (suc zero)) h n = refl
  fixed_word (suc (suc (suc zero))) h n = refl
  fixed_word (suc (suc (suc (suc zero)))) h n = absurd (n refl)
  fixed_word (suc (suc (suc (suc (suc zero))))) h n = refl
  fixed_word (suc (suc (suc (suc (suc (suc zero)))))) h n = refl
  fixed_word (suc (suc (suc (suc (suc (suc (suc zero))))))) h n = refl
  fixed_word (suc (suc (suc (suc (suc (suc (suc (suc zero)))))))) h n = refl
  fixed_word (suc (suc (suc (suc (suc (suc (suc (suc (suc zero))))))))) h n = refl
  fixed_word (suc (suc (suc (suc (suc (suc (suc (suc (suc (suc zero)))))))))) h n = refl
  fixed_word (suc (suc (suc (suc (suc (suc (suc (suc (suc (suc (suc zero))))))))))) h n = refl
  fixed_word (suc (suc (suc (suc (suc (suc (suc (suc (suc (suc (suc (suc zero)))))))))))) h n = refl
  fixed_word (suc (suc (suc (suc (suc (suc (suc (suc (suc (suc (suc (suc (suc zero))))))))))))) h n = refl
  fixed_word (suc (suc (suc (suc (suc (suc (suc (suc (suc (suc (suc (suc (suc (suc zero)))))))))))))) h n = refl
  fixed_word (suc (suc (suc (suc (suc (suc (suc (suc (suc (suc (suc (suc (suc (suc (suc w))))))))))))))) h n = absurd (omega (arith, h))

  fixed_small : (w : ℕ) → IsFixed small_layout w → value_in (small_words top a b) w ≡ initial_of small_layout.kind w
  fixed_small w (inl f) = (small (slice_index (small_words top a b) w) (all w)).1 ∙ fixed_word w f.0 f.1
  fixed_small w (inr f) = absurd (false≢true f.0)

below_all : (ws : List ℕ) → length ws ≡ 21 → list_all (λ n. nat_lt n 4294967296) ws ≡ true → (w : ℕ) → slice_index ws w < 4294967296
below_all ws size e w = elim (cases_lt w 21) [
  | inl below ↦ ltb-true (slice_index ws w) 4294967296 (All-get_or (λ n. nat_lt n 4294967296 ≡ true) ws w 0 (subst (λ n. w < n) (sym size) below)
      (AllPass-from_list_all (λ n. nat_lt n 4294967296) ws e))
  | inr past ↦ rw (get_or_past ws w 0 (subst (λ n. n ≤ w) (sym size) past)) (omega arith)
]

-- ---- the lawful trees

stored_all : (w : ℕ) → slice_index (small_words 12 24 12) w < 4294967296
stored_all = below_all (small_words 12 24 12) refl refl

stored_lawful : IsLawfulTree small_layout (small_words 12 24 12) (Leaf 3)
stored_lawful = record {
  whole = refl;
  untagged = λ w b. (small (slice_index (small_words 12 24 12) w) (stored_all w)).0;
  fixed = fixed_small 12 24 12 stored_all;
  top = (refl, refl);
  tree = record {
    reached = record { named = refl; least = omega arith; most = omega arith; remover = record { most = omega arith; named = inl refl } };
    no_left = refl;
    no_right = refl;
    low = omega arith;
    high = omega arith;
    below = inl refl;
    stays = λ e. absurd (false≢true e);
  };
  last = refl;
}

edge_named : (image : List ℕ) (edge row : ℕ) → value_in image edge / 4 % 4194304 ≡ row → value_in image edge / 16777216 ≡ 0 → 1 ≤ row → row ≤ 7 →
    IsEdgeTo small_layout image edge row
edge_named image edge row e z a b = record { named = e; least = a; most = b; remover = record { most = omega (arith, z); named = inl z } }

-- the tree with row 7 over rows 6 and 3; a and b are the words of its edges
record Edges (a b : ℕ) : Type 0 where
  all : (w : ℕ) → slice_index (small_words 28 a b) w < 4294967296
  to_six : a / 4 ≡ 6
  to_three : b / 4 ≡ 3
  plain : (link_of b).mark ≡ false
  unfrozen : (link_of a).frozen ≡ false
  beside : (link_of b).frozen ≡ true → (link_of a).mark ≡ true

linked_lawful : (a b : ℕ) → Edges a b → IsLawfulTree small_layout (small_words 28 a b) (Inner 7 (Leaf 6) (Leaf 3))
linked_lawful a b E =
    let ea : value_in (small_words 28 a b) 19 ≡ a = (small a (E.all 19)).1 in
    let eb : value_in (small_words 28 a b) 20 ≡ b = (small b (E.all 20)).1 in
    record {
      whole = refl;
      untagged = λ w h. (small (slice_index (small_words 28 a b) w) (E.all w)).0;
      fixed = fixed_small 28 a b E.all;
      top = (refl, refl);
      tree = (
        record {
          reached = edge_named (small_words 28 a b) 4 7 refl refl (omega arith) (omega arith);
          low = omega arith;
          high = omega arith;
          unflagged = refl;
          left_frozen = λ f. absurd (false≢true (sym E.unfrozen ∙ ap (λ v. (link_of v).frozen) (sym ea) ∙ f));
          right_frozen = λ f. ap (λ v. (link_of v).mark) ea ∙ E.beside (ap (λ v. (link_of v).frozen) (sym eb) ∙ f);
        },
        record {
          reached = edge_named (small_words 28 a b) 19 6 (omega (arith, ea, E.to_six)) (omega (arith, ea, E.to_six)) (omega arith) (omega arith);
          no_left = refl;
          no_right = refl;
          low = omega arith;
          high = omega arith;
          below = inr (omega arith);
          stays = λ _ e. omega (arith, e);
        },
        record {
          reached = edge_named (small_words 28 a b) 20 3 (omega (arith, eb, E.to_three)) (omega (arith, eb, E.to_three)) (omega arith) (omega arith);
          no_left = refl;
          no_right = refl;
          low = omega arith;
          high = omega arith;
          below = inl refl;
          stays = λ f. absurd (false≢true (sym E.plain ∙ ap (λ v. (link_of v).mark) (sym eb) ∙ f));
        },
      );
      last = refl;
    }

plain_edges : Edges 24 12
plain_edges = record {
  all = below_all (small_words 28 24 12) refl refl;
  to_six = refl;
  to_three = refl;
  plain = refl;
  unfrozen = refl;
  beside =
      λ f. absurd (false≢true f);
}

flagged_edges : Edges 25 12
flagged_edges = record { all = below_all (small_words 28 25 12) refl refl; to_six = refl; to_three = refl; plain = refl; unfrozen = refl; beside = λ f. refl }

frozen_edges : Edges 25 14
frozen_edges = record { all = below_all (small_words 28 25 14) refl refl; to_six = refl; to_three = refl; plain = refl; unfrozen = refl; beside = λ f. refl }

-- ---- the heaps are kept

stored_kept : IsKept small_layout (6 ∷ 7 ∷ []) stored_heap
stored_kept = opens small_layout stored_heap.opening layout (record {
  free = 6 ∷ 7 ∷ [];
  recovers = record { shape = Grown (Leaf 3); lawful = (refl, stored_lawful); map = refl; free_rows = refl };
  rising = (omega arith, (omega arith, tt));
  among = λ r c. c;
})

linked_kept : (a b : ℕ) → Edges a b → IsKept small_layout [] (linked_heap a b)
linked_kept a b E = opens small_layout (linked_heap a b).opening layout (record {
  free = [];
  recovers = record { shape = Grown (Inner 7 (Leaf 6) (Leaf 3)); lawful = (refl, linked_lawful a b E); map = refl; free_rows = refl };
  rising = tt;
  among = λ r c. c;
})

-- ---- the exchanges

nothing_waits : (o : Opening) (w : ℕ) → waits_at (first_heap o) w ≡ None
nothing_waits o w = get-empty nat_cmp w

none_needed : (h : TreeHeap) (w n : ℕ) → ArePersistent h (dependency w 0 ∷ [])
none_needed h w n v m (inl e) = omega (arith, e.1)
none_needed h w n v m (inr e) = absurd e

stored_three : IsLinked small_layout stored_heap 3
stored_three = inr (inr (inl (Leaf 3, stored_lawful, contains_first 3 [])))

stored_resting : AreResting small_layout (6 ∷ 7 ∷ []) stored_heap (7 ∷ 6 ∷ [])
stored_resting = record {
  pool = λ r c. elim (contains_cases 7 (6 ∷ []) r c) [
    | inl e ↦ subst (Contains (6 ∷ 7 ∷ [])) e (contains_later 6 (7 ∷ []) 7 (contains_first 7 []))
    | inr d ↦ elim (contains_cases 6 [] r d) [ inl e ↦ subst (Contains (6 ∷ 7 ∷ [])) e (contains_first 6 (7 ∷ [])) | inr n ↦ absurd (contains_none r n) ]
  ];
  unlinked = λ r c d. contains_none r d;
  words = λ r w c i. word_is small_layout stored_heap.opening layout (Leaf 3) stored_lawful refl (λ q d. d) w;
}

link_example : IsLink small_layout (6 ∷ 7 ∷ []) stored_heap [] 9 0 2 4 (untagged 1 28) 7 6 (7 ∷ 6 ∷ [])
unfolding left right row_of flag_of frozen_of
link_example = record {
  may = record { rest = refl; none = nothing_waits stored_heap.opening 4; bare = refl; next = refl };
  at = record {
    persistent = λ w v n. absurd n;
    linked = inl refl;
    inner = two_inner small_layout (6 ∷ 7 ∷ []) stored_heap stored_kept;
    side = refl;
    led = led_top small_layout (6 ∷ 7 ∷ []) stored_heap [] 9 stored_kept (omega arith);
    plain = record { unflagged = refl; unfrozen = refl };
    below = omega arith;
  };
  old_leaf = record { left_rest = refl; right_rest = refl; no_left = refl; no_right = refl };
  leads = refl;
  plain = record { unflagged = refl; unfrozen = refl };
  resting = stored_resting;
  only = λ r c. elim (contains_cases 7 (6 ∷ []) r c) [
    | inl e ↦ inl (sym e)
    | inr d ↦ elim (contains_cases 6 [] r d) [ inl e ↦ inr (sym e) | inr n ↦ absurd (contains_none r n) ]
  ];
  has_inner = contains_first 7 (6 ∷ []);
  has_leaf = contains_later 7 (6 ∷ []) 6 (contains_first 6 []);
  pair = record {
    left_plain = record { unflagged = refl; unfrozen = refl };
    right_plain = record { unflagged = refl; unfrozen = refl };
    order = inl (omega arith, refl, refl, refl);
  };
  leaf_key = refl;
  leaf_value = λ e. absurd (false≢true e);
  no_value = λ e. refl;
  leaf_left = refl;
  leaf_right = refl;
}

module _ (a b : ℕ) (E : Edges a b) where
  tree_has : (r : ℕ) → Contains (rows_in_tree (Inner 7 (Leaf 6) (Leaf 3))) r → IsLinked small_layout (linked_heap a b) r
  tree_has r c = inr (inr (inl (Inner 7 (Leaf 6) (Leaf 3), linked_lawful a b E, c)))

  seven : IsLinked small_layout (linked_heap a b) 7
  seven = tree_has 7 (contains_first 7 (6 ∷ 3 ∷ []))

  six : IsLinked small_layout (linked_heap a b) 6
  six = tree_has 6 (contains_later 7 (6 ∷ 3 ∷ []) 6 (contains_first 6 (3 ∷ [])))

  last_three : IsLinked small_layout (linked_heap a b) 3
  last_three = tree_has 3 (contains_later 7 (6 ∷ 3 ∷ []) 3 (contains_later 6 (3 ∷ []) 3 (contains_first 3 [])))

seven_inner : (a b : ℕ) (E : Edges a b) → row_of (at_word (linked_heap a b) 19) ≡ 6 → row_of (at_shadow (linked_heap a b) 19) ≡ 6 →
    row_of (at_word (linked_heap a b) 20) ≡ 3 → row_of (at_shadow (linked_heap a b) 20) ≡ 3 → IsInnerRow small_layout (linked_heap a b) 7
unfolding left right
seven_inner a b E p q r s = record {
  left_on = record {
    word = subst (IsLinked small_layout (linked_heap a b)) (sym p) (six a b E);
    shadow =
        subst (IsLinked small_layout (linked_heap a b)) (sym q) (six a b E);
  };
  right_on = record {
    word = subst (IsLinked small_layout (linked_heap a b)) (sym r) (last_three a b E);
    shadow = subst (IsLinked small_layout (linked_heap a b)) (sym s) (last_three a b E);
  };
}

plain_seven : IsInnerRow small_layout (linked_heap 24 12) 7
unfolding row_of
plain_seven = seven_inner 24 12 plain_edges refl refl refl refl

flag_example : IsFlag small_layout [] (linked_heap 24 12) (dependency 4 0 ∷ []) 9 7 19 (untagged 1 25)
unfolding left right row_of flag_of frozen_of
flag_example =
    let h = linked_heap 24 12 in
    let K = linked_kept 24 12 plain_edges in
    record {
      may = record { rest = refl; none = nothing_waits h.opening 19; bare = refl; next = refl };
      at = record {
        persistent = none_needed h 4 0;
        linked = seven 24 12 plain_edges;
        inner = plain_seven;
        side = refl;
        led = led_next small_layout [] h (dependency 4 0 ∷ []) 9 2 7 K (inl refl) (two_inner small_layout [] h K)
            (led_top small_layout [] h (dependency 4 0 ∷ []) 9 K (omega arith)) (inl (refl, refl)) refl (seven 24 12 plain_edges) plain_seven;
        plain = record { unflagged = refl; unfrozen = refl };
        below = omega arith;
      };
      leaf = record { left_rest = refl; right_rest = refl; no_left = refl; no_right = refl };
      has_key = refl;
      same_row = refl;
      flagged = refl;
      unfrozen = refl;
    }

freeze_example : IsFreeze small_layout (linked_heap 25 12) 20 (untagged 1 14)
unfolding left right other row_of flag_of frozen_of
freeze_example = record {
  may = record { rest = refl; none = nothing_waits (linked_heap 25 12).opening 20; bare = refl; next = refl };
  at = record { row = 7; linked = seven 25 12 flagged_edges; inner = seven_inner 25 12 flagged_edges refl refl refl refl; side = inr refl };
  was_unfrozen = refl;
  sibling = refl;
  sibling_kept = refl;
  same_row = refl;
  same_flag = refl;
  frozen = refl;
}

swing_example : IsSwing small_layout [] (linked_heap 25 14) (dependency 20 0 ∷ []) 9 2 4 (untagged 1 12) 7 20 []
unfolding left right row_of flag_of frozen_of
swing_example =
    let h = linked_heap 25 14 in
    let K = linked_kept 25 14 frozen_edges in
    record {
      may = record { rest = refl; none = nothing_waits h.opening 4; bare = refl; next = refl };
      at = record {
        persistent = none_needed h 20 0;
        linked = inl refl;
        inner = two_inner small_layout [] h K;
        side = refl;
        led = led_top small_layout [] h (dependency 20 0 ∷ []) 9 K (omega arith);
        plain = record { unflagged = refl; unfrozen = refl };
        below = omega arith;
      };
      trail = refl;
      linked = seven 25 14 frozen_edges;
      inner = seven_inner 25 14 frozen_edges refl refl refl refl;
      side = inr refl;
      frozen = refl;
      needed = inl (refl, refl);
      same_row = refl;
      same_flag = refl;
      unfrozen = refl;
    }

pub can_be_won : ExchangesCanBeWon
can_be_won = record {
  stored = stored_kept;
  link = link_example;
  plain = linked_kept 24 12 plain_edges;
  flag = flag_example;
  flagged = linked_kept 25 12 flagged_edges;
  freeze = freeze_example;
  frozen = linked_kept 25 14 frozen_edges;
  swing = swing_example;
}
