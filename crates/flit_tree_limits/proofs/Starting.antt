-- What a call has to go where a machine of it starts: the machine, and what may follow it, are within the hand's queue and so
-- much more.
use Rattle.std.proofs.Common.{◌≡◌, ℕ, zero, suc, ◌+◌, ◌*◌, ◌==◌, ◌≤◌, ◌&&◌, cond, max, nat_le, nat_lt, Bool, true, false, List, [], ◌∷◌, length, refl, sym, ap, subst, arith, if◌then◌else◌, slice_index}
use Rattle.std.proofs.lemmas.Bool.{false≢true}
use native.Mathlib.Nat.{add-mul}
use Rattle.flit_words.specs.declared.layouts.Layout.{Layout}
use Rattle.flit_words.specs.Layouts.{value_word_of}
use Rattle.flit_words.specs.Words.{version_of}
use Rattle.flit_model.specs.declared.calls.Call.{Call}
use Rattle.flit_model.specs.declared.calls.Call.TheVariants.{Insert, Remove, Contains, Get}
use Rattle.flit_model.specs.declared.calls.Reply.{Reply}
use Rattle.flit_model.specs.declared.calls.Reply.TheVariants.{Yes, No, Found, Full, Worn}
use Rattle.flit_place.specs.Tags.{Place}
use Rattle.flit_pv.specs.declared.hands.Hand.{Hand}
use Rattle.flit_pv.specs.Loads.{load_started}
use Rattle.flit_pv.specs.VLoads.{v_load_started}
use Rattle.flit_pv.specs.declared.stores.Stored.{Stored}
use Rattle.flit_pv.specs.declared.stores.Stored.TheVariants.{Stored as All_stored, Worn as Store_worn}
use Rattle.flit_rows.specs.declared.take_row.Took.TheVariants.{Taken, None as NoRow}
use Rattle.flit_rows.specs.declared.take_row.Taking.{Taking}
use Rattle.flit_rows.specs.declared.take_row.Taking.TheVariants.{Draws, Ended as Take_ended}
use Rattle.flit_rows.specs.Taking.{take_started}
use Rattle.flit_structure.specs.Meanings.{key_of}
use Rattle.flit_crew_bounds.specs.Left.{machine_left, missing}
use Rattle.flit_crew_bounds.specs.Winning.{would_win}
use Rattle.flit_tree_heap.specs.Edges.{left, right, row_of}
use Rattle.flit_tree_heap.specs.Routes.{Reading, reading, side}
use Rattle.flit_tree_heap.specs.Walks.{walk}
use Rattle.flit_tree_steps.specs.declared.operations.CleanUp.{CleanUp}
use Rattle.flit_tree_steps.specs.declared.operations.CleanUp.TheVariants.{Own, Help}
use Rattle.flit_tree_steps.specs.Operations.{Sibling, HeldOp}
use Rattle.flit_tree_steps.specs.Steps.{Carried, stands, answers, seeks, other_word, is_flagged, is_frozen, is_plain, to_row, to_row_flagged, frozen_link, thawed_link, inner_row, row_at, with_sibling, swing_next, swings, freeze_next, freezes, sibling_got, cleans, flag_next, flags, link_next, links, inner_so, stores_inner, leaf_value_so, stores_value, leaf_so, stores_leaf, rows_by, takes_rows, value_next, found, absent, sought}
use Rattle.flit_tree_laws.specs.TreeAnatomy.{machine_at}
use Rattle.flit_tree_limits.specs.TreeLimits.{inners_from, most_way, all_inners, way_from, whole, seeks_if, still, again, tree_behind}
use Rattle.flit_tree_limits.proofs.Following.{worn_one, fresh_one}

pub through : (a b c : ℕ) → a ≤ b → b ≤ c → a ≤ c
through a b c i j = omega (arith, i, j)

pub same_le : (a b : ℕ) → a ≡ b → a ≤ b
same_le a b e = omega (arith, e)

-- ---- seeks that may follow

-- one more of them
one_more : (n w : ℕ) → (n + 1) * w ≡ w + n * w
one_more n w = turned (n * w) w ((n + 1) * w) (add-mul n 1 w)
  where
    turned : (x w y : ℕ) → y ≡ x + 1 * w → y ≡ w + x
    turned x w y e = omega (arith, e)

pub seeks_least : (b : Bool) (n : ℕ) → seeks_if true n ≤ seeks_if b n
seeks_least true n = same_le (n * whole n) (n * whole n) refl
seeks_least false n = up (n * whole n) ((n + 1) * whole n) (whole n) (one_more n (whole n))
  where
    up : (a b w : ℕ) → b ≡ w + a → a ≤ b
    up a b w e = omega (arith, e)

pub seeks_most : (b : Bool) (n : ℕ) → seeks_if b n ≤ seeks_if false n
seeks_most true n = seeks_least false n
seeks_most false n = same_le (seeks_if false n) (seeks_if false n) refl

-- where less is asked for, no more follows
pub seeks_fewer : (a b : Bool) (n : ℕ) → (b ≡ true → a ≡ true) → seeks_if a n ≤ seeks_if b n
seeks_fewer a false n if_so = seeks_most a n
seeks_fewer a true n if_so = same_le (seeks_if a n) (seeks_if true n) (ap (λ c. seeks_if c n) (if_so refl))

pub and_first : (a b : Bool) → (a && b) ≡ true → a ≡ true
and_first true b q = refl
and_first false b q = q

pub and_second : (a b : Bool) → (a && b) ≡ true → b ≡ true
and_second true b q = q
and_second false b q = absurd (false≢true q)

pub and_both : (a b : Bool) → a ≡ true → b ≡ true → (a && b) ≡ true
and_both true b p q = q
and_both false b p q = p

pub and_none : (a b : Bool) → b ≡ false → (a && b) ≡ false
and_none true b q = q
and_none false b q = refl

-- a route from a row on has no more inner rows than there are
way_within : (V : Reading) (key most row : ℕ) → walk V key most row ≤ inners_from V most row
way_within V key zero row = omega arith
way_within V key (suc most) row = by_leaf (λ next. way_within V key most next) (V.row (left row) == 0)
  where
    on_side : ((next : ℕ) → walk V key most next ≤ inners_from V most next) → (b : Bool) →
        walk V key most (V.row (if b then left row else right row)) ≤ inners_from V most (V.row (left row)) + inners_from V most (V.row (right row))
    on_side within true = up (walk V key most (V.row (left row))) (inners_from V most (V.row (left row))) (inners_from V most (V.row (right row)))
        (within (V.row (left row)))
      where
        up : (w a b : ℕ) → w ≤ a → w ≤ a + b
        up w a b i = omega (arith, i)
    on_side within false = up (walk V key most (V.row (right row))) (inners_from V most (V.row (left row))) (inners_from V most (V.row (right row)))
        (within (V.row (right row)))
      where
        up : (w a b : ℕ) → w ≤ b → w ≤ a + b
        up w a b i = omega (arith, i)

    by_leaf : ((next : ℕ) → walk V key most next ≤ inners_from V most next) → (b : Bool) → (if b then 0 else suc (walk V key most (V.row (side V key row))))
        ≤ (if b then 0 else suc (inners_from V most (V.row (left row)) + inners_from V most (V.row (right row))))
    by_leaf within true = omega arith
    by_leaf within false = more (walk V key most (V.row (side V key row))) (inners_from V most (V.row (left row)) + inners_from V most (V.row (right row)))
        (on_side within (nat_lt key (V.key row)))
      where
        more : (a b : ℕ) → a ≤ b → suc a ≤ suc b
        more a b i = omega (arith, i)

pub way_within_all : (l : Layout) (words : List ℕ) (key : ℕ) → way_from l words key (row_of (slice_index words 4)) ≤ all_inners l words
unfolding way_from all_inners
way_within_all l words key = way_within (reading l words) key (most_way l) (row_of (slice_index words 4))

-- so a whole seek, and those that may follow it
seek_pays : (n w b : ℕ) → w ≤ n → b ≡ whole n + n * whole n → 3 + 0 + (6 * (w + 1) + 27 + n * whole n) ≤ b
seek_pays n w b i e = pays (n * whole n) n w b i e
  where
    pays : (x n w b : ℕ) → w ≤ n → b ≡ 6 * n + 36 + x → 3 + 0 + (6 * (w + 1) + 27 + x) ≤ b
    pays x n w b i e = omega (arith, i, e)

two_missing : (spare : List ℕ) → missing 2 spare ≤ 2
two_missing [] = omega arith
two_missing (r ∷ rs) = first (r == 0)
  where
    one : (rs : List ℕ) → missing 1 rs ≤ 1
    one [] = omega arith
    one (q ∷ qs) = by_test (q == 0)
      where
        by_test : (b : Bool) → cond b (suc (missing 0 qs)) (missing 0 qs) ≤ 1
        by_test true = omega arith
        by_test false = omega arith

    first : (b : Bool) → cond b (suc (missing 1 rs)) (missing 1 rs) ≤ 2
    first true = omega (arith, one rs)
    first false = omega (arith, one rs)

module _ (l : Layout) (p : Place) (free : List ℕ) (words : List ℕ) where
  -- a machine, and what may follow it
  abbrev pub total : HeldOp → ℕ
  total next = machine_left (machine_at next.at) + tree_behind l p words next

  -- it is within the hand's queue and n more
  abbrev pub Arrives : Hand → ℕ → HeldOp → Type 0
  Arrives hand n next = total next ≤ length hand.queue + n

  -- the seeks that may follow, and one more where this isn't won
  abbrev pub more : Carried → Bool → ℕ
  more op b = again l p (key_of op.call) words b

  abbrev pub edge_wins : Carried → Bool
  edge_wins op = still l p (key_of op.call) words op.path.edge

  abbrev pub ancestor_wins : Carried → Bool
  ancestor_wins op = still l p (key_of op.call) words op.path.ancestor

  abbrev pub sibling_wins : Carried → Bool
  sibling_wins op = still l p (key_of op.call) words op.path.sibling

  pub within : (hand : Hand) (a b : ℕ) (next : HeldOp) → a ≤ b → Arrives hand a next → Arrives hand b next
  within hand a b next le h = up (total next) (length hand.queue) a b le h
    where
      up : (t q a b : ℕ) → a ≤ b → t ≤ q + a → t ≤ q + b
      up t q a b i j = omega (arith, i, j)

  pub to_answer : (op : Carried) (hand : Hand) (reply : Reply) (n : ℕ) → Arrives hand n (answers op hand reply)
  to_answer op hand reply n = ends_left (length hand.queue) n
    where
      ends_left : (q n : ℕ) → 0 + q + 0 ≤ q + n
      ends_left q n = omega arith

  -- an exchange starts, and n follow
  from_start : (q n : ℕ) → 4 + q + n ≤ q + (4 + n)
  from_start q n = omega arith

  -- a seek begins again, where nothing is queued
  pub to_seek : (op : Carried) (hand : Hand) → hand.queue ≡ [] → total (seeks op hand) ≤ more op false
  to_seek op hand none = subst (λ q. 3 + length q + (6 * (way_from l words (key_of op.call) (row_of (slice_index words 4)) + 1) + 27
      + seeks_if true (all_inners l words)) ≤ seeks_if false (all_inners l words)) (sym none)
      (seek_pays (all_inners l words) (way_from l words (key_of op.call) (row_of (slice_index words 4))) (seeks_if false (all_inners l words))
      (way_within_all l words (key_of op.call)) (one_more (all_inners l words) (whole (all_inners l words))))

  -- ---- an insert

  link_either : (op : Carried) (hand : Hand) (word old value : ℕ) (b : Bool) →
      Arrives hand (4 + more op (would_win p words word old))
      (link_next op (if b then worn_one l op hand word old else fresh_one l op hand word old value))
  link_either op hand word old value true = to_answer op hand (Worn word (version_of old)) (4 + more op (would_win p words word old))
  link_either op hand word old value false = from_start (length hand.queue) (more op (would_win p words word old))

  pub to_link : (op : Carried) (hand : Hand) → Arrives hand (4 + more op (edge_wins op)) (links l op hand)
  to_link op hand = link_either op hand op.path.edge.word op.path.edge.raw (to_row (inner_row hand)) (nat_le l.limit (version_of op.path.edge.raw))

  pub to_inner : (op : Carried) (hand : Hand) → Arrives hand (13 + more op (edge_wins op)) (stores_inner l op hand)
  unfolding stores_inner
  to_inner op hand = words_left (length hand.queue) (more op (edge_wins op))
    where
      words_left : (q n : ℕ) → 3 * 3 + 2 * 0 + q + (4 + n) ≤ q + (13 + n)
      words_left q n = omega arith

  pub to_value : (op : Carried) (hand : Hand) → Arrives hand (16 + more op (edge_wins op)) (stores_value l op hand)
  to_value op hand = value_left (length hand.queue) (more op (edge_wins op))
    where
      value_left : (q n : ℕ) → 3 * 1 + 2 * 0 + q + (13 + n) ≤ q + (16 + n)
      value_left q n = omega arith

  pub to_inner_so : (op : Carried) (hand : Hand) (how : Stored) → Arrives hand (4 + more op (edge_wins op)) (inner_so l op hand how)
  to_inner_so op hand All_stored = to_link op hand
  to_inner_so op hand (Store_worn word version) = to_answer op hand (Worn word version) (4 + more op (edge_wins op))

  pub to_value_so : (op : Carried) (hand : Hand) (how : Stored) → Arrives hand (13 + more op (edge_wins op)) (leaf_value_so l op hand how)
  to_value_so op hand All_stored = to_inner op hand
  to_value_so op hand (Store_worn word version) = to_answer op hand (Worn word version) (13 + more op (edge_wins op))

  pub to_leaf_so : (op : Carried) (hand : Hand) (how : Stored) → Arrives hand (16 + more op (edge_wins op)) (leaf_so l op hand how)
  unfolding leaf_so
  to_leaf_so op hand All_stored = by_values l.values
    where
      by_values : (b : Bool) → Arrives hand (16 + more op (edge_wins op)) (if b then stores_value l op hand else stores_inner l op hand)
      by_values true = to_value op hand
      by_values false = within hand (13 + more op (edge_wins op)) (16 + more op (edge_wins op)) (stores_inner l op hand) (omega arith) (to_inner op hand)
  to_leaf_so op hand (Store_worn word version) = to_answer op hand (Worn word version) (16 + more op (edge_wins op))

  pub to_leaf : (op : Carried) (hand : Hand) → Arrives hand (25 + more op (edge_wins op)) (stores_leaf l op hand)
  to_leaf op hand = words_left (length hand.queue) (more op (edge_wins op))
    where
      words_left : (q n : ℕ) → 3 * 3 + 2 * 0 + q + (16 + n) ≤ q + (25 + n)
      words_left q n = omega arith

  take_at : (op : Carried) (hand : Hand) (at : Taking) →
      Arrives hand (27 + more op (edge_wins op)) (rows_by l op (record { hand = hand; need = 2; at = at }) at)
  take_at op hand Draws = draws (missing 2 hand.spare) (length hand.queue) (more op (edge_wins op)) (two_missing hand.spare)
    where
      draws : (m q n : ℕ) → m ≤ 2 → max 1 m + q + (25 + n) ≤ q + (27 + n)
      draws m q n h = omega (arith, h)
  take_at op hand (Take_ended Taken) =
      within hand (25 + more op (edge_wins op)) (27 + more op (edge_wins op)) (stores_leaf l op hand) (omega arith) (to_leaf op hand)
  take_at op hand (Take_ended (NoRow ticket)) = to_answer op hand (Full ticket) (27 + more op (edge_wins op))

  pub to_take : (op : Carried) (hand : Hand) → Arrives hand (27 + more op (edge_wins op)) (takes_rows l free op hand)
  to_take op hand = let m = take_started free hand 2 in take_at op hand m.at

  -- ---- a clean-up

  -- behind a help a seek begins again, and one more where the ancestor isn't swung
  abbrev pub helps_with : CleanUp → Carried → Bool → ℕ
  helps_with Own op b = 0
  helps_with Help op b = more op b

  swing_either : (c : CleanUp) (op : Carried) (hand : Hand) (word old value : ℕ) (b : Bool) →
      Arrives hand (4 + helps_with c op (would_win p words word old))
      (swing_next c op (if b then worn_one l op hand word old else fresh_one l op hand word old value))
  swing_either Own op hand word old value true = to_answer op hand Yes (4 + 0)
  swing_either Help op hand word old value true =
      to_answer op hand (Worn word (version_of old)) (4 + more op (would_win p words word old))
  swing_either Own op hand word old value false = from_start (length hand.queue) 0
  swing_either Help op hand word old value false = from_start (length hand.queue) (more op (would_win p words word old))

  pub to_swing : (c : CleanUp) (op : Carried) (hand : Hand) → Arrives hand (4 + helps_with c op (ancestor_wins op)) (swings l c op hand)
  unfolding swings
  to_swing c op hand = swing_either c op hand op.path.ancestor.word op.path.ancestor.raw (thawed_link op.path.sibling.raw)
      (nat_le l.limit (version_of op.path.ancestor.raw))

  freeze_either : (c : CleanUp) (op : Carried) (hand : Hand) (word old value : ℕ) (b : Bool) →
      Arrives hand (8 + helps_with c op (ancestor_wins op && would_win p words word old))
      (freeze_next l c op (if b then worn_one l op hand word old else fresh_one l op hand word old value))
  freeze_either Own op hand word old value true = to_answer op hand Yes (8 + 0)
  freeze_either Help op hand word old value true =
      to_answer op hand (Worn word (version_of old)) (8 + more op (ancestor_wins op && would_win p words word old))
  freeze_either Own op hand word old value false = from_start (length hand.queue) 4
  freeze_either Help op hand word old value false = freezing (length hand.queue) (more op (ancestor_wins op && would_win p words word old))
    where
      freezing : (q n : ℕ) → 4 + q + (4 + n) ≤ q + (8 + n)
      freezing q n = omega arith

  pub to_freeze : (c : CleanUp) (op : Carried) (hand : Hand) →
      Arrives hand (8 + helps_with c op (ancestor_wins op && sibling_wins op)) (freezes l c op hand)
  to_freeze c op hand = freeze_either c op hand op.path.sibling.word op.path.sibling.raw (frozen_link op.path.sibling.raw)
      (nat_le l.limit (version_of op.path.sibling.raw))

  helps_fewer : (c : CleanUp) (op : Carried) (a b : Bool) → (b ≡ true → a ≡ true) → helps_with c op a ≤ helps_with c op b
  helps_fewer Own op a b if_so = omega arith
  helps_fewer Help op a b if_so = seeks_fewer a b (all_inners l words) if_so

  pub to_sibling : (c : CleanUp) (op : Carried) (hand : Hand) →
      Arrives hand (8 + helps_with c op (ancestor_wins op && sibling_wins op)) (sibling_got l c op hand)
  unfolding sibling_got
  to_sibling c op hand = by_bit (is_frozen op.path.sibling.raw)
    where
      up : (a b : ℕ) → a ≤ b → 4 + a ≤ 8 + b
      up a b i = omega (arith, i)

      by_bit : (b : Bool) → Arrives hand (8 + helps_with c op (ancestor_wins op && sibling_wins op))
          (if b then swings l c op hand else freezes l c op hand)
      by_bit true = within hand (4 + helps_with c op (ancestor_wins op)) (8 + helps_with c op (ancestor_wins op && sibling_wins op)) (swings l c op hand)
          (up (helps_with c op (ancestor_wins op)) (helps_with c op (ancestor_wins op && sibling_wins op))
          (helps_fewer c op (ancestor_wins op) (ancestor_wins op && sibling_wins op) (and_first (ancestor_wins op) (sibling_wins op))))
          (to_swing c op hand)
      by_bit false = to_freeze c op hand

  -- the sibling is to be loaded
  loads_sibling : (c : CleanUp) (op : Carried) (hand : Hand) →
      Arrives hand (11 + helps_with c op (ancestor_wins op)) (stands op (Sibling c (load_started hand (other_word op.path.edge.word))))
  loads_sibling Own op hand = loads (length hand.queue)
    where
      loads : (q : ℕ) → 3 + q + 8 ≤ q + (11 + 0)
      loads q = omega arith
  loads_sibling Help op hand = loads (length hand.queue) (more op (ancestor_wins op))
    where
      loads : (q n : ℕ) → 3 + q + (8 + n) ≤ q + (11 + n)
      loads q n = omega arith

  pub to_clean : (c : CleanUp) (op : Carried) (hand : Hand) → Arrives hand (11 + helps_with c op (ancestor_wins op)) (cleans l c op hand)
  unfolding cleans
  to_clean c op hand = by_bit (is_flagged op.path.edge.raw)
    where
      swung : Carried
      swung = record op { path = with_sibling op.path op.path.edge.word op.path.edge.raw }

      by_bit : (b : Bool) → Arrives hand (11 + helps_with c op (ancestor_wins op))
          (if b then stands op (Sibling c (load_started hand (other_word op.path.edge.word)))
          else swings l c (record op { path = with_sibling op.path op.path.edge.word op.path.edge.raw }) hand)
      by_bit true = loads_sibling c op hand
      by_bit false = within hand (4 + helps_with c swung (ancestor_wins swung)) (11 + helps_with c op (ancestor_wins op)) (swings l c swung hand)
          (up (helps_with c swung (ancestor_wins swung)) (helps_with c op (ancestor_wins op)) (same c)) (to_swing c swung hand)
        where
          up : (a b : ℕ) → a ≡ b → 4 + a ≤ 11 + b
          up a b e = omega (arith, e)

          same : (c : CleanUp) → helps_with c swung (ancestor_wins swung) ≡ helps_with c op (ancestor_wins op)
          same Own = refl
          same Help = refl

  -- ---- a remove

  flag_either : (op : Carried) (hand : Hand) (word old value : ℕ) (b : Bool) →
      Arrives hand (15 + more op (would_win p words word old))
      (flag_next l op (if b then worn_one l op hand word old else fresh_one l op hand word old value))
  flag_either op hand word old value true = to_answer op hand (Worn word (version_of old)) (15 + more op (would_win p words word old))
  flag_either op hand word old value false = flagging (length hand.queue) (more op (would_win p words word old))
    where
      flagging : (q n : ℕ) → 4 + q + (11 + n) ≤ q + (15 + n)
      flagging q n = omega arith

  pub to_flag : (op : Carried) (hand : Hand) → Arrives hand (15 + more op (edge_wins op)) (flags l op hand)
  to_flag op hand = flag_either op hand op.path.edge.word op.path.edge.raw (to_row_flagged (row_at op.path)) (nat_le l.limit (version_of op.path.edge.raw))

  -- ---- the end of a seek

  -- what may follow its leaf
  abbrev ends_with : Carried → ℕ
  ends_with op = 27 + more op (edge_wins op)

  get_either : (op : Carried) (hand : Hand) (word n : ℕ) (b : Bool) →
      Arrives hand (27 + n) (if b then value_next op (v_load_started hand word) else answers op hand (Found 0))
  get_either op hand word n true = loads (length hand.queue) n
    where
      loads : (q n : ℕ) → 1 + q + 0 ≤ q + (27 + n)
      loads q n = omega arith
  get_either op hand word n false = to_answer op hand (Found 0) (27 + n)

  to_found : (op : Carried) (hand : Hand) (c : Call) → Arrives hand (ends_with op) (found l op hand c)
  to_found op hand (Insert k v) = to_answer op hand No (ends_with op)
  to_found op hand (Remove k) = within hand (15 + more op (edge_wins op)) (ends_with op) (flags l op hand) (omega arith) (to_flag op hand)
  to_found op hand (Contains k) = to_answer op hand Yes (ends_with op)
  to_found op hand (Get k) = get_either op hand (value_word_of l (row_at op.path)) (more op (edge_wins op)) l.values

  to_absent : (op : Carried) (hand : Hand) (c : Call) → Arrives hand (ends_with op) (absent l free op hand c)
  to_absent op hand (Insert k v) = to_take op hand
  to_absent op hand (Remove k) = to_answer op hand No (ends_with op)
  to_absent op hand (Contains k) = to_answer op hand No (ends_with op)
  to_absent op hand (Get k) = to_answer op hand No (ends_with op)

  pub to_sought : (op : Carried) (hand : Hand) → Arrives hand (27 + more op (edge_wins op && ancestor_wins op)) (sought l free op hand)
  unfolding sought
  to_sought op hand = by_both (is_plain op.path.edge.raw) (op.path.key == key_of op.call)
    where
      edge_less : more op (edge_wins op) ≤ more op (edge_wins op && ancestor_wins op)
      edge_less = seeks_fewer (edge_wins op) (edge_wins op && ancestor_wins op) (all_inners l words) (and_first (edge_wins op) (ancestor_wins op))

      up : (a b : ℕ) → a ≤ b → 27 + a ≤ 27 + b
      up a b i = omega (arith, i)

      less : (a b : ℕ) → a ≤ b → 11 + a ≤ 27 + b
      less a b i = omega (arith, i)

      by_both : (a b : Bool) → Arrives hand (27 + more op (edge_wins op && ancestor_wins op))
          (if a then (if b then found l op hand op.call else absent l free op hand op.call) else cleans l Help op hand)
      by_both true true = within hand (ends_with op) (27 + more op (edge_wins op && ancestor_wins op)) (found l op hand op.call)
          (up (more op (edge_wins op)) (more op (edge_wins op && ancestor_wins op)) edge_less) (to_found op hand op.call)
      by_both true false = within hand (ends_with op) (27 + more op (edge_wins op && ancestor_wins op)) (absent l free op hand op.call)
          (up (more op (edge_wins op)) (more op (edge_wins op && ancestor_wins op)) edge_less) (to_absent op hand op.call)
      by_both false b = within hand (11 + more op (ancestor_wins op)) (27 + more op (edge_wins op && ancestor_wins op)) (cleans l Help op hand)
          (less (more op (ancestor_wins op)) (more op (edge_wins op && ancestor_wins op))
          (seeks_fewer (ancestor_wins op) (edge_wins op && ancestor_wins op) (all_inners l words) (and_second (edge_wins op) (ancestor_wins op))))
          (to_clean Help op hand)
