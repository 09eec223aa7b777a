-- How an insert goes on with its own row: it stores the row's key and link, and its value, and links the row.
use Rattle.std.proofs.Common.{◌≡◌, ◌≢◌, ℕ, ◌+◌, ◌-◌, ◌*◌, ◌^◌, ◌==◌, ◌<◌, ◌≤◌, ◌||◌, not, Bool, true, false, List, [], ◌∷◌, length, drop, Contains, Option, Some, None, inl, inr, refl, sym, ◌∙◌, ap, subst, arith, if◌then◌else◌}
use Rattle.std.proofs.lemmas.Bool.{false≢true}
use Rattle.flit_words.specs.declared.layouts.Layout.{Layout}
use Rattle.flit_words.specs.declared.layouts.Kind.{Kind}
use Rattle.flit_words.specs.declared.layouts.Kind.TheVariants.{List as List_kind, Hash, Tree as Tree_kind}
use Rattle.flit_words.specs.Layouts.{words_of, parts_of, last_row_of, row_word_of, value_word_of}
use Rattle.flit_words.specs.Links.{link_value}
use Rattle.flit_words.specs.Words.{version_of, value_of, bare_of}
use Rattle.flit_model.specs.Lists.{next_word}
use Rattle.flit_model.proofs.Elements.{all_contained}
use Rattle.flit_model.proofs.Membership.{contains_first}
use Rattle.flit_place.specs.Tags.{Place}
use Rattle.flit_pv.specs.declared.hands.Hand.{Hand}
use Rattle.flit_pv.specs.Stores.{store_started}
use Rattle.flit_rows.specs.Shares.{rows_in}
use Rattle.flit_rows.specs.Taking.{lacks}
use Rattle.flit_runs.specs.Workings.{ToStore}
use Rattle.flit_runs.specs.Worlds.{IsAway}
use Rattle.flit_runs.specs.Soundness.{Needs}
use Rattle.flit_structure.specs.Meanings.{IsServed, key_of, value_put}
use Rattle.flit_structure.specs.Lawful.{is_insert}
use Rattle.flit_crew.specs.Heaps.{at_word, IsOpen, IsWordOf}
use Rattle.flit_crew.specs.Crews.{Who, Goes, IsSpareWord}
use Rattle.flit_list_steps.specs.Operations.{HeldOp}
use Rattle.flit_list_steps.specs.Steps.{Carried, key_word, own_row, row_at, to_row, links, link_next, stores, stores_value}
use Rattle.flit_list_heap.specs.Links.{place_of, row_of}
use Rattle.flit_list_heap.specs.Moves.{plain_link}
use Rattle.flit_list_heap.specs.Keeping.{ListHeap, Kept}
use Rattle.flit_list_heap.proofs.Places.{last-row, next-place, key-place, value-place, all-words, pool_from, link_open}
use Rattle.flit_list_laws.specs.Walks.{Loaded, Walk}
use Rattle.flit_list_laws.specs.Knowing.{row_after, IsAlone, IsHeldSo, StandsSure, IsPassed}
use Rattle.flit_list_laws.specs.ListCrew.{Follows, list_crew, IsOfLists}
use Rattle.flit_list_laws.proofs.Raws.{raw_row, row_small, to_row_small, plain_held}
use Rattle.flit_list_laws.proofs.Starting.{GoesOn, go_worn, go_exchange}

-- a hand with places for a row, whose rows are of the pool
pub record Owns (free : List ℕ) (hand : Hand) : Type 0 where
  pub places : 1 ≤ length hand.spare
  pub tight : rows_in (drop 1 hand.spare) ≡ []
  pub pool : (row : ℕ) → Contains (rows_in hand.spare) row → Contains free row

-- it has one row
pub record HasRow (free : List ℕ) (hand : Hand) : Type 0 where
  pub row : ℕ
  pub own : rows_in hand.spare ≡ row ∷ []
  pub first : own_row hand ≡ row
  pub pool : Contains free row

pub has_row : (free : List ℕ) (hand : Hand) → lacks 1 hand.spare ≡ false → Owns free hand → HasRow free hand
has_row free hand full o = by_list hand.spare refl full o.tight o.places
  where
    by_first : (x : ℕ) (rest : List ℕ) → hand.spare ≡ x ∷ rest → (b : Bool) → (x == 0) ≡ b → (b || false) ≡ false → rows_in rest ≡ [] → HasRow free hand
    by_first x rest is true e full tight = absurd (false≢true (sym full))
    by_first x rest is false e full tight =
        let rows : rows_in hand.spare ≡ x ∷ [] = ap rows_in is ∙ ap (λ b. if not b then x ∷ rows_in rest else rows_in rest) e ∙ ap (λ rs. x ∷ rs) tight in record {
          row = x;
          own = rows;
          first = ap (λ rs. Rattle.std.proofs.Common.slice_index rs 0) is;
          pool = o.pool x (subst (λ rs. Contains rs x) (sym rows) (contains_first x []));
        }

    by_list : (spare : List ℕ) → hand.spare ≡ spare → lacks 1 spare ≡ false → rows_in (drop 1 spare) ≡ [] → 1 ≤ length spare → HasRow free hand
    by_list [] is full tight places = absurd (omega (arith, places))
    by_list (x ∷ rest) is full tight places = by_first x rest is (x == 0) refl full tight

two_parts : (k : Kind) → (k ≡ Tree_kind → ⊥) → (part : ℕ) → part < 2 → part < parts_of k
two_parts List_kind o part b = b
two_parts Hash o part b = b
two_parts Tree_kind o part b = absurd (o refl)

module _ (l : Layout) (lists : IsOfLists l) (p : Place) (free : List ℕ) (h : ListHeap) (kept : Kept l free h) (me : Who)
    (early : me.first ≤ length h.progress.settled) (served : IsServed l me.call) (op : Carried) (same : op.call ≡ me.call) (w : Walk) (n : Loaded)
    (follows : Follows l op.path w) (sure : StandsSure l h me w) (passed : IsPassed l h me w) (insert : is_insert me.call ≡ true)
    (hand : Hand) (has : HasRow free hand) where
  row_least : 1 ≤ has.row
  row_least = all_contained (λ q. 1 ≤ q) free has.row (pool_from free kept.pool.rising) has.pool

  row_most : has.row ≤ l.rows
  row_most = subst (λ m. has.row ≤ m) (last-row l lists.kind) (all_contained (λ q. q ≤ last_row_of l) free has.row kept.pool.fit has.pool)

  row_fits : has.row < 2 ^ 22
  row_fits = less has.row l.rows row_most lists.accepted.most_row
    where
      less : (a b : ℕ) → a ≤ b → b ≤ 1048575 → a < 2 ^ 22
      less a b i j = omega (arith, i, j)

  -- the row after the walk's link, as the path has it
  row_is : row_at op.path ≡ row_after w
  row_is = raw_row op.path.pred.raw ∙ ap (λ r. row_of (bare_of r)) follows.link.raw

  pub pred_open : IsOpen l free h op.path.pred.word
  pred_open = subst (IsOpen l free h) (sym follows.link.word) (link_open l free h kept w.link.word sure.stands.spot.saw.link)

  pub pred_needed : Needs me.needs op.path.pred.word (version_of op.path.pred.raw)
  pred_needed = subst (λ v. Needs me.needs v (version_of op.path.pred.raw)) (sym follows.link.word)
      (subst (λ r. Needs me.needs (place_of l w.link.word) (version_of r)) (sym follows.link.raw)
      (subst (λ b. IsHeldSo l me b (place_of l w.link.word) w.link.raw) sure.link sure.stands.link))

  -- the row is linked, once its words are stored
  pub go_link : value_of (at_word h (row_word_of l has.row 0)) ≡ key_of me.call →
      value_of (at_word h (next_word l has.row)) ≡ link_value (plain_link (row_after w)) →
      (l.values ≡ true → value_of (at_word h (value_word_of l has.row)) ≡ value_put me.call) → GoesOn l p free h kept me early served hand (links l op hand)
  go_link key next value = go_exchange l p free h kept me early served hand op.path.pred.word op.path.pred.raw (to_row (own_row hand)) (λ m. link_next l op m)
      pred_open (to_row_small (own_row hand) fits) pred_needed
      (λ worn. go_worn l p free h kept me early served op same w n hand op.path.pred.word (version_of op.path.pred.raw) (worn, inr pred_needed))
      (record {
        at = refl;
        call = same;
        knows = record {
          first = early;
          served = served;
          walk = w;
          next = n;
          at = (
            insert,
            tt,
            record {
              sure = sure;
              passed = passed;
              insert = insert;
              row = has.row;
              own = has.own;
              key = key;
              next = next;
              value = value;
              aim = record { word = follows.link.word; from_is = follows.link.raw };
              to = plain_held op.path.pred.raw (own_row hand) fits ∙ ap plain_link has.first;
            },
          );
        };
      })
    where
      fits : own_row hand < 2 ^ 22
      fits = subst (λ r. r < 2 ^ 22) (sym has.first) row_fits

  -- ---- its words

  abbrev key_at : ℕ
  key_at = key_word l (own_row hand)

  key_is : key_at ≡ row_word_of l has.row 0
  key_is = ap (key_word l) has.first

  next_is : key_at + 1 ≡ next_word l has.row
  next_is = ap (λ k. k + 1) key_is ∙ ap (λ k. k + 1) (key-place l lists.kind has.row) ∙ sym (next-place l lists.kind has.row)

  key_within : (b n r x : ℕ) → 1 ≤ r → r ≤ n → b + 2 * (r - 1) < b + 2 * n + x
  key_within b n r x i j = omega (arith, i, j)

  next_within : (b n r x : ℕ) → 1 ≤ r → r ≤ n → b + 2 * (r - 1) + 1 < b + 2 * n + x
  next_within b n r x i j = omega (arith, i, j)

  value_within : (b n r : ℕ) → 1 ≤ r → r ≤ n → b + 2 * n + (r - 1) < b + 2 * n + n
  value_within b n r i j = omega (arith, i, j)

  spare_word : (v : ℕ) → v < words_of l → IsWordOf l has.row v → IsAway me.private v → IsSpareWord (list_crew l p free) l p free me hand v
  spare_word v lt of away = record {
    within = lt;
    row = has.row;
    own = subst (λ rows. Contains rows has.row) (sym has.own) (contains_first has.row []);
    word = of;
    away = away;
  }

  abbrev with_private : List ℕ → Who
  with_private ps = record me { private = ps }

  sure_with : (ps : List ℕ) → StandsSure l h (with_private ps) w
  sure_with ps = record {
    stands = record { spot = sure.stands.spot; back = back_with w.back sure.stands.back; link = held_with w.link.sure (place_of l w.link.word) w.link.raw sure.stands.link };
    back = sure_back w.back sure.back;
    link = sure.link;
  }
    where
      held_with : (b : Bool) (v r : ℕ) → IsHeldSo l me b v r → IsHeldSo l (with_private ps) b v r
      held_with true v r f = f
      held_with false v r f = f

      back_with : (o : Option Loaded) → Rattle.flit_list_laws.specs.Knowing.IsBackHeld l me o → Rattle.flit_list_laws.specs.Knowing.IsBackHeld l (with_private ps) o
      back_with None f = tt
      back_with (Some q) f = held_with q.sure (place_of l q.word) q.raw f

      sure_back : (o : Option Loaded) → Rattle.flit_list_laws.specs.Knowing.IsBackSure l me o → Rattle.flit_list_laws.specs.Knowing.IsBackSure l (with_private ps) o
      sure_back None f = tt
      sure_back (Some q) f = f

  -- its key and its link are stored
  pub go_store : IsAlone l me → GoesOn l p free h kept me early served hand (stores l op hand)
  go_store alone = Goes.starts me hand (ToStore key_at (key_of op.call ∷ to_row (row_at op.path) ∷ []) l.limit) (stores l op hand) (
    (
      spare_word key_at (subst (λ v. v < words_of l) (sym key_is) in_key) (inl (0, two_parts l.kind lists.kind 0 (omega arith), key_is)) (alone key_at),
      (
        spare_word (key_at + 1) (subst (λ v. v < words_of l) (sym next_is) in_next) (inl (1, two_parts l.kind lists.kind 1 (omega arith), next_is))
            (alone (key_at + 1)),
        tt,
      ),
    ),
    (below (key_of op.call) (subst (λ c. key_of c ≤ 4294967292) (sym same) served.key), (to_row_small (row_at op.path) (row_small op.path.pred.raw), tt)),
    refl,
  ) refl refl same refl (record {
    first = early;
    served = served;
    walk = w;
    next = n;
    at = (
      follows,
      record {
        sure = sure_with (key_at ∷ (key_at + 1) ∷ me.private);
        passed = passed;
        insert = insert;
        row = has.row;
        own = has.own;
        private = λ v a b. (λ e. a (sym e ∙ key_is), (λ e. b (sym e ∙ next_is), alone v));
      },
    );
  })
    where
      below : (k : ℕ) → k ≤ 4294967292 → k < 2 ^ 32
      below k le = omega (arith, le)

      rest_words : ℕ
      rest_words = if l.values then l.rows else 0

      in_key : row_word_of l has.row 0 < words_of l
      in_key = subst (λ v. row_word_of l has.row 0 < v) (sym (all-words l lists.kind))
          (subst (λ v. v < l.buckets + 2 * l.rows + rest_words) (sym (key-place l lists.kind has.row))
          (key_within l.buckets l.rows has.row rest_words row_least row_most))

      in_next : next_word l has.row < words_of l
      in_next = subst (λ v. next_word l has.row < v) (sym (all-words l lists.kind))
          (subst (λ v. v < l.buckets + 2 * l.rows + rest_words) (sym (next-place l lists.kind has.row))
          (next_within l.buckets l.rows has.row rest_words row_least row_most))

  -- its value is stored
  pub go_value : l.values ≡ true → (value : ℕ) → value ≡ value_put me.call → value_of (at_word h (row_word_of l has.row 0)) ≡ key_of me.call →
      value_of (at_word h (next_word l has.row)) ≡ link_value (plain_link (row_after w)) →
      ((v : ℕ) → v ≢ row_word_of l has.row 0 → v ≢ next_word l has.row → IsAway me.private v) →
      GoesOn l p free h kept me early served hand (stores_value l op hand value)
  go_value valued value is key next private = Goes.starts me hand (ToStore value_at (value ∷ []) l.limit) (stores_value l op hand value) (
    (
      spare_word value_at (subst (λ v. v < words_of l) (sym value_at_is) in_value) (inr (valued, value_at_is))
          (private value_at (λ e. apart_key l.buckets l.rows has.row row_least row_most
          (sym (value-place l lists.kind has.row) ∙ sym value_at_is ∙ e ∙ key-place l lists.kind has.row))
          (λ e. apart_next l.buckets l.rows has.row row_least row_most
          (sym (value-place l lists.kind has.row) ∙ sym value_at_is ∙ e ∙ next-place l lists.kind has.row))),
      tt,
    ),
    (subst (λ v. v < 2 ^ 32) (sym is) served.fits, tt),
    refl,
  ) refl refl same (ap (λ v. record { first = value_at; values = v ∷ [] }) (ap value_put same ∙ sym is)) (record {
    first = early;
    served = served;
    walk = w;
    next = n;
    at = (
      follows,
      record {
        sure = sure_with (value_at ∷ me.private);
        passed = passed;
        insert = insert;
        valued = valued;
        row = has.row;
        own = has.own;
        key = key;
        next = next;
        private = λ v a. (
          λ e. a (inr (valued, sym e ∙ value_at_is)),
          private v
              (λ e. a (inl (0, two_parts l.kind lists.kind 0 (omega arith), e))) (λ e. a (inl (1, two_parts l.kind lists.kind 1 (omega arith), e))),
        );
      },
    );
  })
    where
      value_at : ℕ
      value_at = value_word_of l (own_row hand)

      value_at_is : value_at ≡ value_word_of l has.row
      value_at_is = ap (value_word_of l) has.first

      apart_key : (b n r : ℕ) → 1 ≤ r → r ≤ n → b + 2 * n + (r - 1) ≡ b + 2 * (r - 1) → ⊥
      apart_key b n r i j e = omega (arith, i, j, e)

      apart_next : (b n r : ℕ) → 1 ≤ r → r ≤ n → b + 2 * n + (r - 1) ≡ b + 2 * (r - 1) + 1 → ⊥
      apart_next b n r i j e = omega (arith, i, j, e)

      in_value : value_word_of l has.row < words_of l
      in_value = subst (λ v. value_word_of l has.row < v) (sym (all-words l lists.kind ∙ ap (λ b. l.buckets + 2 * l.rows + (if b then l.rows else 0)) valued))
          (subst (λ v. v < l.buckets + 2 * l.rows + l.rows) (sym (value-place l lists.kind has.row)) (value_within l.buckets l.rows has.row row_least row_most))
