-- What a search knows is what an exchange that is won asks, and what it knows then.
use Rattle.std.proofs.Common.{◌≡◌, ◌⊎◌, ℕ, ◌+◌, ◌<◌, ◌≤◌, true, false, List, [], ◌∷◌, Option, None, sym, ap, subst, ◌∙◌, arith, inl, inr}
use Rattle.std.proofs.lemmas.List.{get_or-set_same}
use Rattle.flit_words.specs.declared.layouts.Layout.{Layout}
use Rattle.flit_words.specs.Layouts.{above_keys, value_word_of}
use Rattle.flit_words.specs.Words.{is_tagged, value_of, version_of}
use Rattle.flit_model.specs.declared.calls.Entry.{Entry}
use Rattle.flit_model.proofs.Membership.{contains_cases, contains_first, contains_later, contains_none}
use Rattle.flit_runs.specs.Workings.{Dependency}
use Rattle.flit_runs.specs.Soundness.{Needs}
use Rattle.flit_crew.specs.Heaps.{at_word, at_shadow, waits_at, won, AreResting}
use Rattle.flit_tree_heap.specs.Edges.{left, right, other, row_of, flag_of, frozen_of, IsPlain}
use Rattle.flit_tree_heap.specs.Views.{TreeHeap, IsLinked, IsLeafRow, IsEdge}
use Rattle.flit_tree_heap.specs.Kept.{IsKept}
use Rattle.flit_tree_heap.specs.Exchanges.{key_now, MayBeExchanged, ArePersistent, HasComeTo, IsFlag, IsFreeze, IsPair, IsLink, IsSwing}
use Rattle.flit_tree_heap.specs.Searches.{HasLoaded}
use Rattle.flit_tree_heap.proofs.Rows.{row_range, edge_open}
use Rattle.flit_tree_heap.proofs.Sameness.{edge_on}
use Rattle.flit_tree_heap.proofs.Searching.{loaded_flag, loaded_frozen}
use Rattle.flit_tree_heap.proofs.Words.{other-left, other-right}
use Rattle.flit_tree_knowing.specs.Spots.{IsSpot, IsWay}

-- the word is at rest, with this value; the new one has the next version
pub record Rests (h : TreeHeap) (w x to : ℕ) : Type 0 where
  pub word : at_word h w ≡ x
  pub shadow : at_shadow h w ≡ x
  pub none : waits_at h w ≡ None
  pub bare : is_tagged to ≡ false
  pub next : version_of to ≡ version_of x + 1

pub may_change : (h : TreeHeap) (w x to : ℕ) → Rests h w x to → MayBeExchanged h w to
may_change h w x to r = record {
  rest = r.word ∙ sym r.shadow;
  none = r.none;
  bare = r.bare;
  next = r.next ∙ ap (λ q. version_of q + 1) (sym r.word);
}

module _ (l : Layout) (free : List ℕ) (h : TreeHeap) (K : IsKept l free h) where
  -- the other edge of the other edge
  pub other_twice : (edge : ℕ) → IsEdge l h edge → other (other edge) ≡ edge
  other_twice edge e =
      let some : 1 ≤ e.row = least e.row (row_range l free h K e.row e.linked).0 in
      elim e.side [
        | inl x ↦ ap (λ w. other (other w)) x ∙ ap other (other-left e.row some) ∙ other-right e.row some ∙ sym x
        | inr x ↦ ap (λ w. other (other w)) x ∙ ap other (other-right e.row some) ∙ other-left e.row some ∙ sym x
      ]
    where
      least : (n : ℕ) → 2 ≤ n → 1 ≤ n
      least n i = omega (arith, i)

  -- an exchanged edge holds the new value
  pub now_is : (edge to : ℕ) (o : Option Entry) (rows : List ℕ) → IsEdge l h edge → at_word (won h edge to o rows tt) edge ≡ to
  now_is edge to o rows e = get_or-set_same h.words edge to 0 (subst (λ n. edge < n) (sym K.words) (edge_open l free h K edge e).within)

  module _ (needs : List Dependency) (P : ArePersistent h needs) (key : ℕ) (below : key < above_keys 0) where
    come_to : (edge x to : ℕ) (s : IsSpot l free h needs key edge x) → IsPlain x → Rests h edge x to → HasComeTo l free h needs key s.row edge
    come_to edge x to s plain r = record {
      persistent = P;
      linked = s.linked;
      inner = s.inner;
      side = s.side;
      led = s.led;
      plain = subst IsPlain (sym r.word) plain;
      below = below;
    }

    pub is_flag : (edge x to : ℕ) (s : IsSpot l free h needs key edge x) → IsPlain x → Rests h edge x to → IsLeafRow h (row_of x) →
        key_now l h (row_of x) ≡ key →
        row_of to ≡ row_of x → flag_of to ≡ true → frozen_of to ≡ false → IsFlag l free h needs key s.row edge to
    is_flag edge x to s plain r leaf has same flagged unfrozen = record {
      may = may_change h edge x to r;
      at = come_to edge x to s plain r;
      leaf = subst (λ q. IsLeafRow h (row_of q)) (sym r.word) leaf;
      has_key = ap (λ q. key_now l h (row_of q)) r.word ∙ has;
      same_row = same ∙ ap row_of (sym r.word);
      flagged = flagged;
      unfrozen = unfrozen;
    }

    pub is_freeze : (edge x y to : ℕ) → HasLoaded l h needs edge x → flag_of x ≡ true → HasLoaded l h needs (other edge) y → frozen_of y ≡ false →
        Rests h (other edge) y to → row_of to ≡ row_of y → flag_of to ≡ flag_of y → frozen_of to ≡ true → IsFreeze l h (other edge) to
    is_freeze edge x y to loaded flagged sibling unfrozen r same_row same_flag frozen =
        let f = loaded_flag l free h K needs P edge x loaded flagged in
        let back : other (other edge) ≡ edge = other_twice edge loaded.at in record {
          may = may_change h (other edge) y to r;
          at = sibling.at;
          was_unfrozen = ap frozen_of r.word ∙ unfrozen;
          sibling = ap (λ w. flag_of (at_word h w)) back ∙ f.1;
          sibling_kept = ap (λ w. flag_of (at_shadow h w)) back ∙ f.2;
          same_row = same_row ∙ ap row_of (sym r.word);
          same_flag = same_flag ∙ ap flag_of (sym r.word);
          frozen = frozen;
        }

    -- what is kept at a frozen edge is put in the place of all that is cut out
    pub is_swing : (edge x to kept y : ℕ) (s : IsSpot l free h needs key edge x) (ancestor a ax : ℕ) (w : IsWay l free h needs key ancestor a s.row) →
        a ≡ ax → Rests h ancestor ax to → HasLoaded l h needs kept y → (kept ≡ left s.row) ⊎ (kept ≡ right s.row) → frozen_of y ≡ true → row_of to ≡ row_of y →
        flag_of to ≡ flag_of y → frozen_of to ≡ false → IsSwing l free h needs key w.spot.row ancestor to s.row kept w.rows
    is_swing edge x to kept y s ancestor a ax w e r loaded side frozen same_row same_flag unfrozen =
        let f = loaded_frozen l free h K needs P kept y loaded frozen in record {
          may = may_change h ancestor ax to r;
          at = come_to ancestor a to w.spot w.plain (record {
            word = r.word ∙ sym e;
            shadow = r.shadow ∙ sym e;
            none = r.none;
            bare = r.bare;
            next = r.next ∙ ap (λ q. version_of q + 1) (sym e);
          });
          trail = subst (λ q. Rattle.flit_tree_heap.specs.Exchanges.IsTrail l h needs key (row_of q) w.rows s.row) (e ∙ sym r.word) w.trail;
          linked = s.linked;
          inner = s.inner;
          side = side;
          frozen = ap frozen_of (sym f.0) ∙ frozen;
          needed = subst (λ q. Needs needs kept (version_of q)) f.0 loaded.needed;
          same_row = same_row ∙ ap row_of f.0;
          same_flag = same_flag ∙ ap flag_of f.0;
          unfrozen = unfrozen;
        }

    pub is_link : (edge x to inner leaf value : ℕ) (s : IsSpot l free h needs key edge x) → IsPlain x → Rests h edge x to → IsLeafRow h (row_of x) →
        row_of to ≡ inner → IsPlain to → AreResting l free h (leaf ∷ inner ∷ []) → IsPair l h key (key_now l h (row_of x)) (row_of x) inner leaf →
        key_now l h leaf ≡ key → (l.values ≡ true → value_of (at_word h (value_word_of l leaf)) ≡ value) → (l.values ≡ false → value ≡ 0) →
        value_of (at_word h (left leaf)) ≡ 0 → value_of (at_word h (right leaf)) ≡ 0 →
        IsLink l free h needs key value s.row edge to inner leaf (leaf ∷ inner ∷ [])
    is_link edge x to inner leaf value s plain r old leads bits resting pair leaf_key leaf_value no_value no_left no_right = record {
      may = may_change h edge x to r;
      at = come_to edge x to s plain r;
      old_leaf = subst (λ q. IsLeafRow h (row_of q)) (sym r.word) old;
      leads = leads;
      plain = bits;
      resting = resting;
      only = λ q i. elim (contains_cases leaf (inner ∷ []) q i) [
        | inl e ↦ inr (sym e)
        | inr j ↦ elim (contains_cases inner [] q j) [ inl e ↦ inl (sym e) | inr n ↦ absurd (contains_none q n) ]
      ];
      has_inner = contains_later leaf (inner ∷ []) inner (contains_first inner []);
      has_leaf = contains_first leaf (inner ∷ []);
      pair = subst (λ q. IsPair l h key (key_now l h (row_of q)) (row_of q) inner leaf) (sym r.word) pair;
      leaf_key = leaf_key;
      leaf_value = leaf_value;
      no_value = no_value;
      leaf_left = no_left;
      leaf_right = no_right;
    }

-- an edge with what it holds now
pub edge_now : (l : Layout) (h : TreeHeap) (needs : List Dependency) (edge q : ℕ) → IsEdge l h edge → at_word h edge ≡ q → Needs needs edge (version_of q) →
    HasLoaded l h needs edge q
edge_now l h needs edge q at e needed = record {
  at = at;
  past = (inl (sym e), inl (sym e));
  needed = needed;
  linked = subst (λ y. IsLinked l h (row_of y)) e (edge_on l h edge at).word;
}

-- and a spot
abbrev pub spot_now : (l : Layout) (free : List ℕ) (h : TreeHeap) (needs : List Dependency) (key edge x q : ℕ) → IsSpot l free h needs key edge x →
    at_word h edge ≡ q →
    Needs needs edge (version_of q) → IsSpot l free h needs key edge q
spot_now l free h needs key edge x q s e needed = record {
  row = s.row;
  linked = s.linked;
  inner = s.inner;
  side = s.side;
  led = s.led;
  loaded = edge_now l h needs edge q s.loaded.at e needed;
}
