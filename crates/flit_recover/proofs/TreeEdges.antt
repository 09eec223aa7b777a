-- One edge of a tree image: what the checks there tell where none of them finds damage, and that an edge of a lawful tree
-- passes them.
use Rattle.std.proofs.Common.{◌≡◌, ◌≢◌, ℕ, ◌/◌, ◌%◌, ◌^◌, ◌<◌, ◌≤◌, ◌==◌, Bool, true, false, cond, not, ◌&&◌, ◌||◌, List, Option, Some, None, refl, sym, subst, inl, inr, arith, eqb-true, eq-eqb, ne_eqb}
use Rattle.std.specs.Prelude.{nat_le, nat_lt, if◌then◌else◌}
use Rattle.std.proofs.lemmas.Bool.{cases_Bool, both_ways, not-true, not-false, not_from_true, not_from_false, leb-true, leb-false, le-leb, lt-leb, ltb-false, le-ltb, eqb-false, and_parts, and_from, and_cases, and_left, and_right, or_parts, or_from, false_from_ne_true}
use Rattle.flit_words.specs.declared.layouts.Layout.{Layout}
use Rattle.flit_words.specs.declared.layouts.Kind.TheVariants.{Tree as Tree_kind}
use Rattle.flit_words.specs.Layouts.{Accepted, last_row_of, above_keys}
use Rattle.flit_words.specs.Links.{link_of}
use Rattle.flit_model.specs.Lists.{value_in, link_in, key_in}
use Rattle.flit_model.specs.Trees.{IsEdgeTo, IsLeafAt, IsInnerAt, left_word, right_word}
use Rattle.flit_model.proofs.FixedRows.{tree_row_word}
use Rattle.flit_recover.specs.declared.found.Damage.{Damage}
use Rattle.flit_recover.specs.ListWalks.{stands_in}
use Rattle.flit_recover.specs.TreeWalks.{Reaches, edge_damage, leads_to_row, leads_nowhere, has_bit, is_odd_link, is_leaf, is_above_all, is_out_of_range, has_wrong_bit, other_edge}

-- nothing is found at an edge and the row below it, check by check
pub record IsSoundEdge (l : Layout) (image : List ℕ) (edge lo hi : ℕ) (reached : List ℕ) (row : ℕ) : Type 0 where
  pub named : (link_in image edge).row ≡ row
  pub leads : leads_to_row l image edge ≡ true
  pub apart : stands_in reached row ≡ false
  pub left : is_odd_link image (left_word l row) (right_word l row) ≡ false
  pub right : is_odd_link image (right_word l row) (left_word l row) ≡ false
  pub placed : is_above_all l image row ≡ false
  pub ordered : is_out_of_range l image lo hi row ≡ false
  pub bits : has_wrong_bit l image edge row ≡ false

-- a check that finds nothing, and what comes after it
first_none : (b : Bool) (d : Damage) (rest : Option Damage) → cond b (Some d) rest ≡ None → (b ≡ false) × (rest ≡ None)
first_none true d rest h = cc
first_none false d rest h = (refl, h)

first_passes : (b : Bool) (d : Damage) (rest : Option Damage) → b ≡ false → rest ≡ None → cond b (Some d) rest ≡ None
first_passes true d rest e h = cc
first_passes false d rest e h = h

module _ (l : Layout) (image : List ℕ) (edge lo hi : ℕ) (reached : List ℕ) where
  sound_edge : edge_damage l image edge lo hi reached ≡ None → IsSoundEdge l image edge lo hi reached (link_in image edge).row
  sound_edge h =
      let a = first_none _ _ _ h in
      let b = first_none _ _ _ a.1 in
      let c = first_none _ _ _ b.1 in
      let d = first_none _ _ _ c.1 in
      let e = first_none _ _ _ d.1 in
      let f = first_none _ _ _ e.1 in
      let g = first_none _ _ _ f.1 in
      record { named = refl; leads = not-false (leads_to_row l image edge) a.0; apart = b.0; left = c.0; right = d.0; placed = e.0; ordered = f.0; bits = g.0 }

  edge_sound : IsSoundEdge l image edge lo hi reached (link_in image edge).row → edge_damage l image edge lo hi reached ≡ None
  edge_sound h =
      first_passes _ _ _ (not_from_true (leads_to_row l image edge) h.leads)
      (first_passes _ _ _ h.apart (first_passes _ _ _ h.left (first_passes _ _ _ h.right
      (first_passes _ _ _ h.placed (first_passes _ _ _ h.ordered (first_passes _ _ _ h.bits refl))))))

  pub reaches_parts : (row : ℕ) → Reaches l image edge lo hi reached row → IsSoundEdge l image edge lo hi reached row
  reaches_parts row h = subst (IsSoundEdge l image edge lo hi reached) h.named (sound_edge h.sound)

  pub reaches_from : (row : ℕ) → IsSoundEdge l image edge lo hi reached row → Reaches l image edge lo hi reached row
  reaches_from row h = record {
    sound = edge_sound (subst (IsSoundEdge l image edge lo hi reached) (sym h.named) h);
    named = h.named;
  }

-- ---- what the checks tell

pub edge_leads : (l : Layout) (image : List ℕ) (edge lo hi : ℕ) (reached : List ℕ) (row : ℕ) → IsSoundEdge l image edge lo hi reached row →
    IsEdgeTo l image edge row
edge_leads l image edge lo hi reached row h =
    let parts = and_parts (((link_in image edge).by == 0) && not ((link_in image edge).row == 0)) (nat_le (link_in image edge).row (last_row_of l)) h.leads in
    let front = and_parts ((link_in image edge).by == 0) (not ((link_in image edge).row == 0)) parts.0 in
    let none : (link_in image edge).by ≡ 0 = eqb-true (link_in image edge).by 0 front.0 in
    let some = eqb-false (link_in image edge).row 0 (not-true ((link_in image edge).row == 0) front.1) in
    let within = leb-true (link_in image edge).row (last_row_of l) parts.1 in
    record {
      named = h.named;
      least = omega (arith, h.named, some);
      most = omega (arith, h.named, within);
      remover = record { most = omega (arith, none); named = inl none };
    }

-- a link of row 0 and remover 0 without bits is 0
nowhere_zero : (image : List ℕ) (word : ℕ) → leads_nowhere image word ≡ true → has_bit image word ≡ false → value_in image word ≡ 0
nowhere_zero image word h n =
    let nowhere = and_parts ((link_in image word).by == 0) ((link_in image word).row == 0) h in
    let bits = or_parts (link_in image word).mark (link_in image word).frozen n in
    let value : ℕ = value_in image word in
    let fits : value_in image word < 2 ^ 32 = omega arith in
    let by : value_in image word / 2 ^ 24 ≡ 0 = eqb-true (value_in image word / 2 ^ 24) 0 nowhere.0 in
    let row : value_in image word / 4 % 2 ^ 22 ≡ 0 = eqb-true (value_in image word / 4 % 2 ^ 22) 0 nowhere.1 in
    let mark = eqb-false (value_in image word % 2) 1 bits.0 in
    let frozen = eqb-false (value_in image word / 2 % 2) 1 bits.1 in
    omega (arith, fits, by, row, mark, frozen)

zero_nowhere : (image : List ℕ) (word : ℕ) → value_in image word ≡ 0 → (leads_nowhere image word ≡ true) × (has_bit image word ≡ false)
zero_nowhere image word e = (
  subst (λ value. ((link_of value).by == 0) && ((link_of value).row == 0) ≡ true) (sym e) refl,
  subst (λ value. ((link_of value).mark || (link_of value).frozen) ≡ false) (sym e) refl,
)

leads_somewhere : (image : List ℕ) (word : ℕ) → 1 ≤ (link_in image word).row → leads_nowhere image word ≡ false
leads_somewhere image word h = and_right ((link_in image word).by == 0) ((link_in image word).row == 0)
    (ne_eqb (link_in image word).row 0 (λ e. omega (arith, e, h)))

-- of two links of which neither is odd one leads nowhere where the other does, without bits
not_odd : (here there bit : Bool) → (here && (if there then bit else true)) ≡ false → here ≡ true → (there ≡ true) × (bit ≡ false)
not_odd true true bit h e = (refl, h)
not_odd true false bit h e = cc
not_odd false there bit h e = cc

even_ends : (here there bit : Bool) → bit ≡ false → there ≡ true → (here && (if there then bit else true)) ≡ false
even_ends here there bit e f = rw (f, e) (and_right here false refl)

module _ (l : Layout) (image : List ℕ) (edge lo hi : ℕ) (reached : List ℕ) (row : ℕ) (h : IsSoundEdge l image edge lo hi reached row) where
  key_below : key_in l image row < hi
  key_below = leb-false hi (key_in l image row) (or_parts (nat_le hi (key_in l image row))
      (if is_leaf l image row then nat_lt (key_in l image row) lo else nat_le (key_in l image row) lo) h.ordered).0

  wrong_bits : (((edge == 4) && has_bit image edge) ≡ false) × (((link_in image edge).mark && (not (is_leaf l image row) || (row == 3))) ≡ false)
      × (((link_in image edge).frozen && not (link_in image (other_edge edge)).mark) ≡ false)
  wrong_bits =
      let parts = or_parts (((edge == 4) && has_bit image edge) || ((link_in image edge).mark && (not (is_leaf l image row) || (row == 3))))
      ((link_in image edge).frozen && not (link_in image (other_edge edge)).mark) h.bits in
      let front = or_parts ((edge == 4) && has_bit image edge) ((link_in image edge).mark && (not (is_leaf l image row) || (row == 3))) parts.0 in
      (front.0, front.1, parts.1)

  -- where an edge is frozen the other one is flagged
  pub frozen_flagged : (link_in image edge).frozen ≡ true → (link_in image (other_edge edge)).mark ≡ true
  frozen_flagged f = elim (and_cases (link_in image edge).frozen (not (link_in image (other_edge edge)).mark) wrong_bits.2) [
    | inl off ↦ absurd (both_ways (link_in image edge).frozen off f)
    | inr off ↦ not-false (link_in image (other_edge edge)).mark off
  ]

  -- word 4 has no bit
  pub top_bare : edge ≡ 4 → ((link_in image edge).mark ≡ false) × ((link_in image edge).frozen ≡ false)
  top_bare e = elim (and_cases (edge == 4) (has_bit image edge) wrong_bits.0) [
    | inl off ↦ absurd (eqb-false edge 4 off e)
    | inr off ↦ or_parts (link_in image edge).mark (link_in image edge).frozen off
  ]

  flag_allowed : (link_in image edge).mark ≡ true → (is_leaf l image row ≡ true) × (row ≢ 3)
  flag_allowed m = elim (and_cases (link_in image edge).mark (not (is_leaf l image row) || (row == 3)) wrong_bits.1) [
    | inl off ↦ absurd (both_ways (link_in image edge).mark off m)
    | inr off ↦
        let parts = or_parts (not (is_leaf l image row)) (row == 3) off in
        (not-false (is_leaf l image row) parts.0, eqb-false row 3 parts.1)
  ]

  pub sound_leaf : is_leaf l image row ≡ true → IsLeafAt l image edge lo hi row
  sound_leaf leaf =
      let left_ends = not_odd (leads_nowhere image (left_word l row)) (leads_nowhere image (right_word l row)) (has_bit image (left_word l row)) h.left leaf in
      let right_ends = not_odd (leads_nowhere image (right_word l row)) (leads_nowhere image (left_word l row)) (has_bit image (right_word l row)) h.right
      left_ends.0 in
      let order = or_parts (nat_le hi (key_in l image row)) (nat_lt (key_in l image row) lo) (rw leaf at h.ordered) in
      record {
        reached = edge_leads l image edge lo hi reached row h;
        no_left = nowhere_zero image (left_word l row) leaf left_ends.1;
        no_right = nowhere_zero image (right_word l row) left_ends.0 right_ends.1;
        low = ltb-false (key_in l image row) lo order.1;
        high = key_below;
        below = elim (and_cases (is_leaf l image row && not (row == 3)) (nat_le (above_keys 0) (key_in l image row)) h.placed) [
          | inl off ↦ elim (and_cases (is_leaf l image row) (not (row == 3)) off) [
            | inl inner ↦ absurd (both_ways (is_leaf l image row) inner leaf)
            | inr three ↦ inl (eqb-true row 3 (not-false (row == 3) three))
          ]
          | inr off ↦ inr (leb-false (above_keys 0) (key_in l image row) off)
        ];
        stays = λ m. (flag_allowed m).1;
      }

  pub sound_inner : is_leaf l image row ≡ false → ((link_in image (left_word l row)).frozen ≡ true → (link_in image (right_word l row)).mark ≡ true) →
      ((link_in image (right_word l row)).frozen ≡ true → (link_in image (left_word l row)).mark ≡ true) → IsInnerAt l image edge lo hi row
  sound_inner inner left right =
      let order = or_parts (nat_le hi (key_in l image row)) (nat_le (key_in l image row) lo) (rw inner at h.ordered) in
      record {
        reached = edge_leads l image edge lo hi reached row h;
        low = leb-false (key_in l image row) lo order.1;
        high = key_below;
        unflagged = false_from_ne_true (link_in image edge).mark (λ m. both_ways (is_leaf l image row) inner (flag_allowed m).0);
        left_frozen = left;
        right_frozen = right;
      }

-- ---- an edge of a lawful tree passes

-- an edge that is fine whatever is below it: word 4 has no bit, and where it is frozen the other edge is flagged
pub record IsFineEdge (image : List ℕ) (edge : ℕ) : Type 0 where
  pub top : edge ≡ 4 → has_bit image edge ≡ false
  pub frozen : (link_in image edge).frozen ≡ true → (link_in image (other_edge edge)).mark ≡ true

module _ (l : Layout) (kind : l.kind ≡ Tree_kind) (image : List ℕ) where
  leads_from : (edge row : ℕ) → IsEdgeTo l image edge row → leads_to_row l image edge ≡ true
  leads_from edge row h =
      let none : (link_in image edge).by ≡ 0 = elim h.remover.named [ inl e ↦ e | inr p ↦ absurd (p.1 kind) ] in
      let some : (link_in image edge).row ≢ 0 = λ e. omega (arith, e, h.named, h.least) in
      let within : (link_in image edge).row ≤ last_row_of l = rw h.named h.most in
      and_from (((link_in image edge).by == 0) && not ((link_in image edge).row == 0)) (nat_le (link_in image edge).row (last_row_of l))
      (and_from ((link_in image edge).by == 0) (not ((link_in image edge).row == 0)) (eq-eqb (link_in image edge).by 0 none)
      (not_from_false ((link_in image edge).row == 0) (ne_eqb (link_in image edge).row 0 some)))
      (le-leb (link_in image edge).row (last_row_of l) within)

  bits_from : (edge row : ℕ) → IsFineEdge image edge → ((link_in image edge).mark && (not (is_leaf l image row) || (row == 3))) ≡ false →
      has_wrong_bit l image edge row ≡ false
  bits_from edge row fine flag =
      let top : ((edge == 4) && has_bit image edge) ≡ false = elim (cases_Bool (edge == 4)) [
        | inl y ↦ and_right (edge == 4) (has_bit image edge) (fine.top (eqb-true edge 4 y))
        | inr n ↦ and_left (edge == 4) (has_bit image edge) n
      ] in
      let froze : ((link_in image edge).frozen && not (link_in image (other_edge edge)).mark) ≡ false = elim (cases_Bool (link_in image edge).frozen) [
        | inl y ↦ and_right (link_in image edge).frozen (not (link_in image (other_edge edge)).mark)
            (not_from_true (link_in image (other_edge edge)).mark (fine.frozen y))
        | inr n ↦ and_left (link_in image edge).frozen (not (link_in image (other_edge edge)).mark) n
      ] in
      or_from (((edge == 4) && has_bit image edge) || ((link_in image edge).mark && (not (is_leaf l image row) || (row == 3))))
      ((link_in image edge).frozen && not (link_in image (other_edge edge)).mark)
      (or_from ((edge == 4) && has_bit image edge) ((link_in image edge).mark && (not (is_leaf l image row) || (row == 3))) top flag) froze

  pub leaf_is_leaf : (edge lo hi row : ℕ) → IsLeafAt l image edge lo hi row → is_leaf l image row ≡ true
  leaf_is_leaf edge lo hi row h = (zero_nowhere image (left_word l row) h.no_left).0

  pub inner_is_inner : (row : ℕ) → 1 ≤ (link_in image (left_word l row)).row → is_leaf l image row ≡ false
  inner_is_inner row leads = leads_somewhere image (left_word l row) leads

  pub leaf_sound : (edge lo hi : ℕ) (reached : List ℕ) (row : ℕ) → IsFineEdge image edge → stands_in reached row ≡ false → IsLeafAt l image edge lo hi row →
      IsSoundEdge l image edge lo hi reached row
  leaf_sound edge lo hi reached row fine apart h =
      let left = zero_nowhere image (left_word l row) h.no_left in
      let right = zero_nowhere image (right_word l row) h.no_right in
      record {
        named = h.reached.named;
        leads = leads_from edge row h.reached;
        apart = apart;
        left = even_ends (leads_nowhere image (left_word l row)) (leads_nowhere image (right_word l row)) (has_bit image (left_word l row)) left.1 right.0;
        right = even_ends (leads_nowhere image (right_word l row)) (leads_nowhere image (left_word l row)) (has_bit image (right_word l row)) right.1 left.0;
        placed = elim h.below [
          | inl three ↦ and_left (is_leaf l image row && not (row == 3)) (nat_le (above_keys 0) (key_in l image row))
              (and_right (is_leaf l image row) (not (row == 3)) (not_from_true (row == 3) (eq-eqb row 3 three)))
          | inr below ↦ and_right (is_leaf l image row && not (row == 3)) (nat_le (above_keys 0) (key_in l image row))
              (lt-leb (above_keys 0) (key_in l image row) below)
        ];
        ordered = rw left.0 (or_from (nat_le hi (key_in l image row)) (nat_lt (key_in l image row) lo) (lt-leb hi (key_in l image row) h.high)
            (le-ltb (key_in l image row) lo h.low));
        bits = bits_from edge row fine (elim (cases_Bool (link_in image edge).mark) [
          | inl y ↦ and_right (link_in image edge).mark (not (is_leaf l image row) || (row == 3))
              (or_from (not (is_leaf l image row)) (row == 3) (not_from_true (is_leaf l image row) left.0) (ne_eqb row 3 (h.stays y)))
          | inr n ↦ and_left (link_in image edge).mark (not (is_leaf l image row) || (row == 3)) n
        ]);
      }

  pub inner_sound : (edge lo hi : ℕ) (reached : List ℕ) (row : ℕ) → IsFineEdge image edge → stands_in reached row ≡ false →
      1 ≤ (link_in image (left_word l row)).row → 1 ≤ (link_in image (right_word l row)).row → IsInnerAt l image edge lo hi row →
      IsSoundEdge l image edge lo hi reached row
  inner_sound edge lo hi reached row fine apart left right h =
      let on_left = leads_somewhere image (left_word l row) left in
      let on_right = leads_somewhere image (right_word l row) right in
      record {
        named = h.reached.named;
        leads = leads_from edge row h.reached;
        apart = apart;
        left = and_left (leads_nowhere image (left_word l row)) (if leads_nowhere image (right_word l row) then has_bit image (left_word l row) else true)
            on_left;
        right = and_left (leads_nowhere image (right_word l row)) (if leads_nowhere image (left_word l row) then has_bit image (right_word l row) else true)
            on_right;
        placed = and_left (is_leaf l image row && not (row == 3)) (nat_le (above_keys 0) (key_in l image row))
            (and_left (is_leaf l image row) (not (row == 3)) on_left);
        ordered = rw on_left (or_from (nat_le hi (key_in l image row)) (nat_le (key_in l image row) lo) (lt-leb hi (key_in l image row) h.high)
            (lt-leb (key_in l image row) lo h.low));
        bits = bits_from edge row fine (and_left (link_in image edge).mark (not (is_leaf l image row) || (row == 3)) h.unflagged);
      }

  module _ (accepted : Accepted l) where
    pub other_of_left : (row : ℕ) → other_edge (left_word l row) ≡ right_word l row
    other_of_left row =
        let left = tree_row_word l accepted kind row 1 in
        let right = tree_row_word l accepted kind row 2 in
        let rest : left_word l row % 3 ≡ 1 = omega (arith, left) in
        rw (eq-eqb (left_word l row % 3) 1 rest) (omega (arith, left, right))

    pub other_of_right : (row : ℕ) → other_edge (right_word l row) ≡ left_word l row
    other_of_right row =
        let left = tree_row_word l accepted kind row 1 in
        let right = tree_row_word l accepted kind row 2 in
        let rest : right_word l row % 3 ≢ 1 = omega (arith, right) in
        rw (ne_eqb (right_word l row % 3) 1 rest) (omega (arith, left, right))

    -- of the edges of rows above 2 none is word 4
    pub left_below_top : (row : ℕ) → 1 ≤ row → row ≢ 2 → left_word l row ≢ 4
    left_below_top row least other = let left = tree_row_word l accepted kind row 1 in omega (arith, left)

    pub right_below_top : (row : ℕ) → right_word l row ≢ 4
    right_below_top row = let right = tree_row_word l accepted kind row 2 in omega (arith, right)
