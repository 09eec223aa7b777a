-- How an insert goes on with its own rows: it takes two, stores the leaf's words and those of the inner row, and links them.
use Rattle.std.proofs.Common.{◌≡◌, ◌≢◌, ℕ, ◌+◌, ◌-◌, ◌*◌, ◌^◌, ◌==◌, ◌<◌, ◌≤◌, ◌||◌, ◌&&◌, nat_lt, not, Bool, true, false, List, [], ◌∷◌, length, drop, count_by, slice_index, Contains, Some, is_none, inl, refl, sym, ◌∙◌, ap, subst, arith, if◌then◌else◌}
use Rattle.std.proofs.lemmas.Bool.{false≢true, eq-eqb}
use Rattle.flit_words.specs.declared.layouts.Layout.{Layout}
use Rattle.flit_words.specs.Layouts.{row_word_of, value_word_of}
use Rattle.flit_words.specs.Words.{version_of, value_of, bare_of}
use Rattle.flit_model.specs.declared.events.Event.{Event}
use Rattle.flit_model.specs.declared.calls.Reply.TheVariants.{Yes, Full}
use Rattle.flit_model.proofs.Counting.{count_by-cons_yes}
use Rattle.flit_model.proofs.Membership.{contains_first, contains_later}
use Rattle.flit_place.specs.Tags.{Place}
use Rattle.flit_pv.specs.declared.hands.Hand.{Hand}
use Rattle.flit_pv.specs.declared.queues.Noted.{Noted}
use Rattle.flit_pv.specs.Queues.{is_full, first_persist}
use Rattle.flit_pv.specs.Exchanges.{HeldExchange, exchange_asks}
use Rattle.flit_pv.specs.declared.exchanges.Exchanging.{Exchanging}
use Rattle.flit_pv.specs.declared.exchanges.Exchanging.TheVariants.{Ready, Tries, TriesBare, WritesBack, Withdraws, Lowers, Ended}
use Rattle.flit_pv.specs.declared.exchanges.Exchanged.TheVariants.{Won, Lost, Worn as Exchange_worn}
use Rattle.flit_pv.specs.Stores.{HeldStore, store_asks}
use Rattle.flit_pv.specs.declared.stores.Storing.{Storing}
use Rattle.flit_pv.specs.declared.stores.Storing.TheVariants.{Reads as Store_reads, MakesRoom as Store_makes_room, Writes, Ended as Store_ended}
use Rattle.flit_pv.specs.declared.stores.Stored.TheVariants.{Stored as All_stored, Worn as Store_worn}
use Rattle.flit_rows.specs.Shares.{rows_in, IsOnce}
use Rattle.flit_rows.specs.Taking.{HeldTake, IsRightAt, IsDecided, lacks, is_past, judged, take_asks, take_started}
use Rattle.flit_rows.specs.declared.take_row.Took.TheVariants.{Taken, None as NoRow}
use Rattle.flit_rows.specs.declared.take_row.Taking.{Taking}
use Rattle.flit_rows.specs.declared.take_row.Taking.TheVariants.{Draws, Ended as Take_ended}
use Rattle.flit_runs.specs.Workings.{ToStore}
use Rattle.flit_runs.specs.Worlds.{IsAway}
use Rattle.flit_structure.specs.Meanings.{IsServed, key_of, value_put}
use Rattle.flit_structure.specs.Lawful.{is_insert, is_get, rows_needed}
use Rattle.flit_crew.specs.Machines.{Takes, has_ended, exchange_part}
use Rattle.flit_crew.specs.Heaps.{at_word, IsWordOf}
use Rattle.flit_crew.specs.Fillings.{FillsAt, HoldFrom, IsWornAt}
use Rattle.flit_crew.specs.Crews.{Who, Goes, IsSpareWord, ExchangesAt}
use Rattle.flit_tree_heap.specs.Edges.{row_of}
use Rattle.flit_tree_heap.specs.Views.{TreeHeap, IsTreeLayout}
use Rattle.flit_tree_heap.specs.Kept.{IsKept}
use Rattle.flit_tree_heap.proofs.Rows.{row_word, value_word_at, one_row, word_within, pool_range}
use Rattle.flit_tree_steps.specs.Operations.{HeldOp, Rows, LeafWords, LeafValue, InnerWords}
use Rattle.flit_tree_steps.specs.Steps.{Carried, stands, key_word, leaf_row, inner_row, row_at, to_row, inner_words, with_rows_used, link_by, link_next, links, inner_by, stores_inner, leaf_value_by, stores_value, leaf_so, leaf_by, stores_leaf, rows_by, takes_rows}
use Rattle.flit_tree_laws.specs.Knowing.{LeadsTo, HasRows, IsAlone, SaysYes, HasPlace, KnowsRows, KnowsLeaf, HoldsLeaf, HoldsValue, KnowsLeafValue, KnowsInner}
use Rattle.flit_tree_laws.specs.TreeAnatomy.{storing_at}
use Rattle.flit_tree_laws.specs.TreeCrew.{IsAloneIf, tree_crew}
use Rattle.flit_tree_laws.proofs.Parts.{next_part, part_word, value_is_word}
use Rattle.flit_tree_laws.proofs.Raws.{raw_row, raw_small, next_leads}
use Rattle.flit_tree_laws.proofs.Starting.{GoesOn, go_seek, go_answer, go_worn, go_exchange}

-- a hand with places for two rows, whose rows are of the pool, each there once
pub record Owns (free : List ℕ) (hand : Hand) : Type 0 where
  pub places : 2 ≤ length hand.spare
  pub tight : rows_in (drop 2 hand.spare) ≡ []
  pub pool : (row : ℕ) → Contains (rows_in hand.spare) row → Contains free row
  pub once : IsOnce (rows_in hand.spare)

twice : (x : ℕ) → count_by (λ r. r == x) (x ∷ x ∷ []) ≤ 1 → ⊥
twice x i = omega (arith, i, count_by-cons_yes (λ r. r == x) x (x ∷ []) (eq-eqb x x refl), count_by-cons_yes (λ r. r == x) x [] (eq-eqb x x refl))

-- it has both
pub has_rows : (free : List ℕ) (hand : Hand) → lacks 2 hand.spare ≡ false → Owns free hand → HasRows free hand
has_rows free hand full o = by_list hand.spare refl full o.tight o.places
  where
    by_two : (x y : ℕ) (rest : List ℕ) → hand.spare ≡ x ∷ y ∷ rest → (a : Bool) → (x == 0) ≡ a → (b : Bool) → (y == 0) ≡ b → (a || (b || false)) ≡ false →
        rows_in rest ≡ [] → HasRows free hand
    by_two x y rest is true e b q full tight = absurd (false≢true (sym full))
    by_two x y rest is false e true q full tight = absurd (false≢true (sym full))
    by_two x y rest is false e false q full tight =
        let rows : rows_in hand.spare ≡ x ∷ y ∷ [] = ap rows_in is
        ∙ ap (λ b. if not b then x ∷ rows_in (y ∷ rest) else rows_in (y ∷ rest)) e
        ∙ ap (λ b. x ∷ (if not b then y ∷ rows_in rest else rows_in rest)) q ∙ ap (λ rs. x ∷ y ∷ rs) tight in record {
          leaf = x;
          inner = y;
          own = rows;
          first = ap (λ rs. slice_index rs 0) is;
          second = ap (λ rs. slice_index rs 1) is;
          apart = λ s. twice x (subst (λ z. count_by (λ r. r == x) (x ∷ z ∷ []) ≤ 1) (sym s) (subst (λ rs. count_by (λ r. r == x) rs ≤ 1) rows (o.once x)));
          leaf_free = o.pool x (subst (λ rs. Contains rs x) (sym rows) (contains_first x (y ∷ [])));
          inner_free = o.pool y (subst (λ rs. Contains rs y) (sym rows) (contains_later x (y ∷ []) y (contains_first y [])));
        }

    by_list : (spare : List ℕ) → hand.spare ≡ spare → lacks 2 spare ≡ false → rows_in (drop 2 spare) ≡ [] → 2 ≤ length spare → HasRows free hand
    by_list [] is full tight places = absurd (omega (arith, places))
    by_list (x ∷ []) is full tight places = absurd (omega (arith, places))
    by_list (x ∷ y ∷ rest) is full tight places = by_two x y rest is (x == 0) refl (y == 0) refl full tight

store_asks_one : (queue : List Noted) (e : Event) → (is_none (if is_full queue then first_persist queue else Some e) && true) ≡ true → ⊥
store_asks_one [] e q = false≢true q
store_asks_one (n ∷ ns) e q = by_full (is_full (n ∷ ns)) q
  where
    by_full : (b : Bool) → (is_none (if b then first_persist (n ∷ ns) else Some e) && true) ≡ true → ⊥
    by_full true q = false≢true q
    by_full false q = false≢true q

module _ (l : Layout) (layout : IsTreeLayout l) (p : Place) (free : List ℕ) (h : TreeHeap) (K : IsKept l free h) (me : Who)
    (early : me.first ≤ length h.progress.settled) (served : IsServed l me.call) (op : Carried) (same : op.call ≡ me.call) where
  abbrev key : ℕ
  key = key_of me.call

  abbrev On : Hand → HeldOp → Type 0
  On hand next = GoesOn l p free h K me early served hand next

  -- the old leaf, as the path has it
  row_is : HasPlace l free h me op.path → row_at op.path ≡ row_of (bare_of op.path.edge.raw)
  row_is place = raw_row l free h K op.path.edge.raw place.spot.loaded.linked

  module _ (place : HasPlace l free h me op.path) (hand : Hand) (rows : HasRows free hand) where
    leaf_range : (6 ≤ rows.leaf) × (rows.leaf ≤ l.rows + 5)
    leaf_range = pool_range l free h K rows.leaf rows.leaf_free

    inner_range : (6 ≤ rows.inner) × (rows.inner ≤ l.rows + 5)
    inner_range = pool_range l free h K rows.inner rows.inner_free

    some : (n : ℕ) → 6 ≤ n → 1 ≤ n
    some n i = omega (arith, i)

    fits_link : (a b : ℕ) → a ≤ b + 5 → b ≤ 1048575 → a < 2 ^ 22
    fits_link a b i j = omega (arith, i, j)

    leaf_fits : leaf_row hand < 2 ^ 22
    leaf_fits = subst (λ r. r < 2 ^ 22) (sym rows.first) (fits_link rows.leaf l.rows leaf_range.1 layout.accepted.most_row)

    inner_fits : inner_row hand < 2 ^ 22
    inner_fits = subst (λ r. r < 2 ^ 22) (sym rows.second) (fits_link rows.inner l.rows inner_range.1 layout.accepted.most_row)

    -- ---- the rows are linked

    to_inner : LeadsTo (Rattle.flit_pv.specs.Drafts.next_bare op.path.edge.raw (to_row (inner_row hand))) rows.inner false false
    to_inner = subst (λ r. LeadsTo (Rattle.flit_pv.specs.Drafts.next_bare op.path.edge.raw (to_row (inner_row hand))) r false false) rows.second
        (next_leads op.path.edge.raw (inner_row hand) false false inner_fits)

    row_link_small : (r : ℕ) → r < 2 ^ 22 → to_row r < 2 ^ 32
    row_link_small r b = omega (arith, b)

    pub go_links : HoldsLeaf l free h me rows.leaf → HoldsValue l free h me rows.leaf →
        HoldFrom h (row_word_of l rows.inner 0) (inner_words key op.path.key rows.leaf (row_of (bare_of op.path.edge.raw))) → On hand (links l op hand)
    go_links stored value inner_stored = go_exchange l p free h K me early served hand op.path.edge (to_row (inner_row hand)) (λ m. link_next op m)
        place.spot.loaded (row_link_small (inner_row hand) inner_fits)
        (λ limited. go_worn l p free h K me early served op same hand op.path.edge.word (version_of op.path.edge.raw) limited)
        (record {
          at = refl;
          call = same;
          knows = record {
            first = early;
            served = served;
            at = (
              place.insert,
              tt,
              record {
                place = place;
                rows = rows;
                stored = stored;
                value = value;
                inner_stored = inner_stored;
                aim = record { word = refl; from_is = refl };
                to = to_inner;
              },
            );
          };
        })

    -- ---- words of the rows

    abbrev with_private : List ℕ → Who
    with_private ps = record me { private = ps }

    place_with : (ps : List ℕ) → HasPlace l free h (with_private ps) op.path
    place_with ps = record {
      spot = place.spot;
      plain = place.plain;
      leaf = place.leaf;
      key_is = place.key_is;
      another = place.another;
      insert = place.insert;
    }

    spare_word : (row v : ℕ) → Contains (rows_in hand.spare) row → (6 ≤ row) × (row ≤ l.rows + 5) → IsWordOf l row v → IsAway me.private v →
        IsSpareWord (tree_crew l p free) l p free me hand v
    spare_word row v own range of away = record {
      within = word_within l layout row v (some row range.0) range.1 of;
      row = row;
      own = own;
      word = of;
      away = away;
    }

    has_leaf : Contains (rows_in hand.spare) rows.leaf
    has_leaf = subst (λ rs. Contains rs rows.leaf) (sym rows.own) (contains_first rows.leaf (rows.inner ∷ []))

    has_inner : Contains (rows_in hand.spare) rows.inner
    has_inner = subst (λ rs. Contains rs rows.inner) (sym rows.own) (contains_later rows.leaf (rows.inner ∷ []) rows.inner (contains_first rows.inner []))

    second_of : (row r : ℕ) → row ≡ r → key_word l row + 1 ≡ row_word_of l r 1
    second_of row r e = ap (λ x. key_word l x + 1) e ∙ next_part l r 0

    third_of : (row r : ℕ) → row ≡ r → key_word l row + 1 + 1 ≡ row_word_of l r 2
    third_of row r e = ap (λ w. w + 1) (second_of row r e) ∙ next_part l r 1

    -- a word of a part, however it is named
    part_at : (row part w : ℕ) → w ≡ row_word_of l row part → part < 3 → IsWordOf l row w
    part_at row part w e b = subst (IsWordOf l row) (sym e) (part_word l layout row part b)

    -- ---- the inner row is stored

    below_if : (b : Bool) (x y : ℕ) → x < 2 ^ 32 → y < 2 ^ 32 → (if b then x else y) < 2 ^ 32
    below_if true x y i j = i
    below_if false x y i j = j

    key_small : (k : ℕ) → k ≤ 4294967292 → k < 2 ^ 32
    key_small k i = omega (arith, i)

    value_small : (w : ℕ) → value_of w < 2 ^ 32
    value_small w = omega arith

    pub go_stores_inner : HoldsLeaf l free h me rows.leaf → HoldsValue l free h me rows.leaf → ((v : ℕ) → IsWordOf l rows.inner v → IsAway me.private v) →
        On hand (stores_inner l op hand)
    unfolding stores_inner
    go_stores_inner stored value away =
        let at : ℕ = key_word l (inner_row hand) in
        let test : Bool = nat_lt (key_of op.call) op.path.key in
        let words : List ℕ = inner_words (key_of op.call) op.path.key (leaf_row hand) (row_at op.path) in
        let first_of = part_at rows.inner 0 at (ap (key_word l) rows.second) (omega arith) in
        let second = part_at rows.inner 1 (at + 1) (second_of (inner_row hand) rows.inner rows.second) (omega arith) in
        let third = part_at rows.inner 2 (at + 1 + 1) (third_of (inner_row hand) rows.inner rows.second) (omega arith) in
        let row_small = row_link_small (row_at op.path) (raw_small op.path.edge.raw) in
        let leaf_small = row_link_small (leaf_row hand) leaf_fits in
        Goes.starts me hand (ToStore at words l.limit) (stores_inner l op hand) (
          (
            spare_word rows.inner at has_inner inner_range first_of (away at first_of),
            (
              spare_word rows.inner (at + 1) has_inner inner_range second (away (at + 1) second),
              (spare_word rows.inner (at + 1 + 1) has_inner inner_range third (away (at + 1 + 1) third), tt),
            ),
          ),
          (
            below_if test op.path.key (key_of op.call)
                (subst (λ k. k < 2 ^ 32) (sym place.key_is) (value_small (at_word h (row_word_of l (row_of (bare_of op.path.edge.raw)) 0))))
                (key_small (key_of op.call) (subst (λ c. key_of c ≤ 4294967292) (sym same) served.key)),
            (
              below_if test (to_row (leaf_row hand)) (to_row (row_at op.path)) leaf_small row_small,
              (below_if test (to_row (row_at op.path)) (to_row (leaf_row hand)) row_small leaf_small, tt),
            ),
          ),
          refl,
        ) refl refl same refl (record {
          first = early;
          served = served;
          at = record { place = place_with (at ∷ (at + 1) ∷ (at + 1 + 1) ∷ me.private); rows = rows; stored = stored; value = value };
        })

    -- ---- the leaf's value is stored

    -- a value word is none of a row's parts
    value_apart : (row other part : ℕ) → row ≤ l.rows + 5 → part < 3 → value_word_of l other ≡ row_word_of l row part → ⊥
    value_apart row other part i b e = apart (row_word_of l row part) row part (value_word_of l other) other l.rows (row_word l layout row part)
        (value_word_at l layout other) i b e
      where
        apart : (a r q v o n : ℕ) → a ≡ 3 * (r - 1) + q → v ≡ 3 * (n + 5) + (o - 1) → r ≤ n + 5 → q < 3 → v ≡ a → ⊥
        apart a r q v o n e f i b j = omega (arith, e, f, i, b, j)

    -- a word of the inner row is none of the leaf's
    inner_apart : (v : ℕ) → IsWordOf l rows.inner v → IsWordOf l rows.leaf v → ⊥
    inner_apart v a b = rows.apart (one_row l layout rows.leaf rows.inner v (some rows.leaf leaf_range.0) leaf_range.1 (some rows.inner inner_range.0)
        inner_range.1 b a)

    pub go_stores_value : l.values ≡ true → HoldsLeaf l free h me rows.leaf →
        ((v : ℕ) → ((part : ℕ) → part < 3 → v ≢ row_word_of l rows.leaf part) → IsAway me.private v) → On hand (stores_value l op hand)
    go_stores_value valued stored private =
        let at : ℕ = value_word_of l (leaf_row hand) in
        let at_is : at ≡ value_word_of l rows.leaf = ap (value_word_of l) rows.first in
        Goes.starts me hand (ToStore at (value_put op.call ∷ []) l.limit) (stores_value l op hand) (
          (
            spare_word rows.leaf at has_leaf leaf_range (subst (IsWordOf l rows.leaf) (sym at_is) (value_is_word l valued rows.leaf))
                (private at (λ part b e. value_apart rows.leaf rows.leaf part leaf_range.1 b (sym at_is ∙ e))),
            tt,
          ),
          (subst (λ c. value_put c < 2 ^ 32) (sym same) served.fits, tt),
          refl,
        ) refl refl same refl (record {
          first = early;
          served = served;
          at = record {
            place = place_with (at ∷ me.private);
            rows = rows;
            valued = valued;
            stored = stored;
            private = λ v a. (
              λ e. a (subst (IsWordOf l rows.leaf) (sym at_is ∙ e) (value_is_word l valued rows.leaf)),
              private v (λ part b e. a (part_at rows.leaf part v e b)),
            );
          };
        })

    -- the leaf's words are stored: its value comes next, or the inner row
    pub go_leaf_stored : HoldsLeaf l free h me rows.leaf → ((v : ℕ) → ((part : ℕ) → part < 3 → v ≢ row_word_of l rows.leaf part) → IsAway me.private v) →
        On hand (leaf_so l op hand All_stored)
    unfolding leaf_so
    go_leaf_stored stored private = by_values l.values refl
      where
        by_values : (b : Bool) → l.values ≡ b → On hand (if b then stores_value l op hand else stores_inner l op hand)
        by_values true e = go_stores_value e stored private
        by_values false e = go_stores_inner stored (λ v. absurd (false≢true (sym e ∙ v)))
            (λ v of. private v (λ part b q. inner_apart v of (part_at rows.leaf part v q b)))

    -- ---- the leaf is stored

    pub go_stores_leaf : IsAlone l free h me → On hand (stores_leaf l op hand)
    go_stores_leaf alone =
        let at : ℕ = key_word l (leaf_row hand) in
        let zero_is : at ≡ row_word_of l rows.leaf 0 = ap (key_word l) rows.first in
        let one_is : at + 1 ≡ row_word_of l rows.leaf 1 = second_of (leaf_row hand) rows.leaf rows.first in
        let two_is : at + 1 + 1 ≡ row_word_of l rows.leaf 2 = third_of (leaf_row hand) rows.leaf rows.first in
        Goes.starts me hand (ToStore at (key_of op.call ∷ 0 ∷ 0 ∷ []) l.limit) (stores_leaf l op hand) (
          (
            spare_word rows.leaf at has_leaf leaf_range (part_at rows.leaf 0 at zero_is (omega arith)) (alone at),
            (
              spare_word rows.leaf (at + 1) has_leaf leaf_range (part_at rows.leaf 1 (at + 1) one_is (omega arith)) (alone (at + 1)),
              (
                spare_word rows.leaf (at + 1 + 1) has_leaf leaf_range (part_at rows.leaf 2 (at + 1 + 1) two_is (omega arith)) (alone (at + 1 + 1)),
                tt,
              ),
            ),
          ),
          (key_small (key_of op.call) (subst (λ c. key_of c ≤ 4294967292) (sym same) served.key), (omega arith, (omega arith, tt))),
          refl,
        ) refl refl same refl (record {
          first = early;
          served = served;
          at = record {
            place = place_with (at ∷ (at + 1) ∷ (at + 1 + 1) ∷ me.private);
            rows = rows;
            private = λ v a. (
              λ e. a 0 (omega arith) (sym e ∙ zero_is),
              (λ e. a 1 (omega arith) (sym e ∙ one_is), (λ e. a 2 (omega arith) (sym e ∙ two_is), alone v)),
            );
          };
        })

  -- ---- the stores have ended

  go_leaf_worn : (hand : Hand) (word version : ℕ) → IsWornAt l h word version → On hand (leaf_so l op hand (Store_worn word version))
  unfolding leaf_so
  go_leaf_worn hand word version facts = go_worn l p free h K me early served op same hand word version (facts.0, inl facts.1)

  pub go_leaf_at : (m : HeldStore) → KnowsLeaf l free h me op.path m → (at : Storing) → FillsAt l h (storing_at l op.call op.path (LeafWords m)) at m →
      (is_none (store_asks at m) && true) ≡ true → On m.hand (leaf_by l op m at)
  go_leaf_at m f (Store_reads how) facts ended = absurd (false≢true ended)
  go_leaf_at m f (Writes next) facts ended = absurd (store_asks_one m.hand.queue _ ended)
  go_leaf_at m f (Store_makes_room next first) facts ended = absurd (false≢true ended)
  go_leaf_at m f (Store_ended (Store_worn word version)) facts ended = go_leaf_worn m.hand word version facts
  go_leaf_at m f (Store_ended All_stored) facts ended = go_leaf_stored f.place m.hand f.rows (
    ap (λ r. value_of (at_word h (row_word_of l r 0))) (sym f.rows.first) ∙ facts.0 ∙ ap key_of same,
    (
      ap (λ r. value_of (at_word h (row_word_of l r 0 + 1))) (sym f.rows.first) ∙ facts.1.0,
      (ap (λ r. value_of (at_word h (row_word_of l r 0 + 1 + 1))) (sym f.rows.first) ∙ facts.1.1.0, tt),
    ),
  ) f.private

  pub go_leaf_value_at : (m : HeldStore) → KnowsLeafValue l free h me op.path m → (at : Storing) →
      FillsAt l h (storing_at l op.call op.path (LeafValue m)) at m → (is_none (store_asks at m) && true) ≡ true → On m.hand (leaf_value_by l op m at)
  go_leaf_value_at m f (Store_reads how) facts ended = absurd (false≢true ended)
  go_leaf_value_at m f (Writes next) facts ended = absurd (store_asks_one m.hand.queue _ ended)
  go_leaf_value_at m f (Store_makes_room next first) facts ended = absurd (false≢true ended)
  go_leaf_value_at m f (Store_ended (Store_worn word version)) facts ended =
      go_worn l p free h K me early served op same m.hand word version (facts.0, inl facts.1)
  go_leaf_value_at m f (Store_ended All_stored) facts ended = go_stores_inner f.place m.hand f.rows f.stored
      (λ v. ap (λ r. value_of (at_word h (value_word_of l r))) (sym f.rows.first) ∙ facts.0 ∙ ap value_put same)
      (λ v of. f.private v (λ on. inner_apart f.place m.hand f.rows v of on))

  pub go_inner_at : (m : HeldStore) → KnowsInner l free h me op.path m → (at : Storing) → FillsAt l h (storing_at l op.call op.path (InnerWords m)) at m →
      (is_none (store_asks at m) && true) ≡ true → On m.hand (inner_by l op m at)
  go_inner_at m f (Store_reads how) facts ended = absurd (false≢true ended)
  go_inner_at m f (Writes next) facts ended = absurd (store_asks_one m.hand.queue _ ended)
  go_inner_at m f (Store_makes_room next first) facts ended = absurd (false≢true ended)
  go_inner_at m f (Store_ended (Store_worn word version)) facts ended =
      go_worn l p free h K me early served op same m.hand word version (facts.0, inl facts.1)
  go_inner_at m f (Store_ended All_stored) facts ended = go_links f.place m.hand f.rows f.stored f.value
      (subst (λ r. HoldFrom h (row_word_of l f.rows.inner 0) (inner_words key op.path.key f.rows.leaf r)) (row_is f.place)
      (subst (λ r. HoldFrom h (row_word_of l f.rows.inner 0) (inner_words key op.path.key r (row_at op.path))) f.rows.first
      (subst (λ r. HoldFrom h (row_word_of l r 0) (inner_words key op.path.key (leaf_row m.hand) (row_at op.path))) f.rows.second
      (subst (λ c. HoldFrom h (row_word_of l (inner_row m.hand) 0) (inner_words (key_of c) op.path.key (leaf_row m.hand) (row_at op.path))) same facts))))

  -- ---- the rows are linked

  fits_insert : is_insert me.call ≡ true → not (is_get me.call) ≡ true
  fits_insert e = by_call me.call e
    where
      by_call : (c : Rattle.flit_model.specs.declared.calls.Call.Call) → is_insert c ≡ true → not (is_get c) ≡ true
      by_call (Rattle.flit_model.specs.declared.calls.Call.TheVariants.Insert k v) e = refl
      by_call (Rattle.flit_model.specs.declared.calls.Call.TheVariants.Remove k) e = refl
      by_call (Rattle.flit_model.specs.declared.calls.Call.TheVariants.Contains k) e = refl
      by_call (Rattle.flit_model.specs.declared.calls.Call.TheVariants.Get k) e = absurd (cc)

  says_insert : (c : Rattle.flit_model.specs.declared.calls.Call.Call) → is_insert c ≡ true → SaysYes l free h me c
  says_insert (Rattle.flit_model.specs.declared.calls.Call.TheVariants.Insert k v) e = tt
  says_insert (Rattle.flit_model.specs.declared.calls.Call.TheVariants.Remove k) e = tt
  says_insert (Rattle.flit_model.specs.declared.calls.Call.TheVariants.Contains k) e = absurd (cc)
  says_insert (Rattle.flit_model.specs.declared.calls.Call.TheVariants.Get k) e = tt

  pub go_link_at : (m : HeldExchange) → is_insert me.call ≡ true → (at : Exchanging) → IsAloneIf l free h me (exchange_part at) →
      ExchangesAt (tree_crew l p free) l p free at → (is_none (exchange_asks p at m) && true) ≡ true → On m.hand (link_by op m at)
  go_link_at m insert Ready alone facts ended = absurd (false≢true ended)
  go_link_at m insert (Tries slot) alone facts ended = absurd (false≢true ended)
  go_link_at m insert TriesBare alone facts ended = absurd (false≢true ended)
  go_link_at m insert WritesBack alone facts ended = absurd (false≢true ended)
  go_link_at m insert Withdraws alone facts ended = absurd (false≢true ended)
  go_link_at m insert (Lowers slot found) alone facts ended = absurd (false≢true ended)
  go_link_at m insert (Ended Won) alone facts ended = Goes.changes me m.hand (with_rows_used m.hand) (link_by op m (Ended Won))
      (record { name = refl; number = refl; queue = refl; ticket = refl; queued = refl })
      (go_answer l p free h K me early served op same (with_rows_used m.hand) Yes (fits_insert insert) tt (says_insert me.call insert))
  go_link_at m insert (Ended (Lost found)) alone facts ended = go_seek l p free h K me early served op same m.hand alone
  go_link_at m insert (Ended (Exchange_worn word version)) alone facts ended = absurd facts

  -- ---- two rows are taken

  pub go_rows_at : (m : HeldTake) → Owns free m.hand → KnowsRows l free h me op.path → m.need ≡ rows_needed l.kind → (at : Taking) → IsRightAt free m at →
      (is_none (take_asks at) && true) ≡ true → On m.hand (rows_by l op m at)
  go_rows_at m owns f need Draws right ended = absurd (false≢true ended)
  go_rows_at m owns f need (Take_ended Taken) right ended = go_stores_leaf f.place m.hand
      (has_rows free m.hand (subst (λ k. lacks k m.hand.spare ≡ false) (need ∙ ap rows_needed layout.kind) right) owns) f.alone
  go_rows_at m owns f need (Take_ended (NoRow ticket)) right ended = go_answer l p free h K me early served op same m.hand (Full ticket) f.place.insert
      (subst (λ k. IsDecided free k m.hand (NoRow ticket)) need right) tt

  pub go_takes : (hand : Hand) → Owns free hand → KnowsRows l free h me op.path → On hand (takes_rows l free op hand)
  go_takes hand owns f = by_test (lacks 2 hand.spare) refl (is_past free hand.ticket) refl
    where
      needed : rows_needed l.kind ≡ 2
      needed = ap rows_needed layout.kind

      by_test : (lack : Bool) → lacks 2 hand.spare ≡ lack → (past : Bool) → is_past free hand.ticket ≡ past →
          On hand (rows_by l op (record { hand = hand; need = 2; at = judged (lacks 2 hand.spare) (is_past free hand.ticket) hand.ticket })
          (judged lack past hand.ticket))
      by_test false e past q = go_stores_leaf f.place hand (has_rows free hand e owns) f.alone
      by_test true e true q = go_answer l p free h K me early served op same hand (Full hand.ticket) f.place.insert
          (subst (λ k. lacks k hand.spare ≡ true) (sym needed) e, q, refl) tt
      by_test true e false q = Goes.draws me hand (stands op (Rows (take_started free hand 2)))
          (ap (λ k. Takes (take_started free hand k)) (sym needed))
          (ap (λ a. has_ended p (Takes (record { hand = hand; need = 2; at = a })))
          (ap (λ b. judged b (is_past free hand.ticket) hand.ticket) e ∙ ap (λ b. judged true b hand.ticket) q))
          same (record { first = early; served = served; at = f })
