-- As many events stay allowed to a try, and perhaps more, while others and the call itself go on: what is known only grows,
-- and the keys of linked rows stay.
use Rattle.std.proofs.Common.{◌≡◌, ◌⊎◌, inl, inr, ⊎_elim, ℕ, ◌+◌, ◌-◌, ◌*◌, ◌≤◌, Bool, true, false, List, Option, Some, None, refl, sym, ◌∙◌, ap, subst, arith}
use Rattle.flit_words.specs.declared.layouts.Layout.{Layout}
use Rattle.flit_words.specs.Layouts.{row_word_of}
use Rattle.flit_words.specs.Words.{bare_of, version_of, value_of}
use Rattle.flit_model.specs.Lists.{key_in}
use Rattle.flit_model.specs.declared.calls.Reply.{Reply}
use Rattle.flit_pv.specs.Exchanges.{HeldExchange}
use Rattle.flit_crew.specs.Machines.{Part, ToRead, HasRead, ToWin, HasWon, HasWritten, HasLost, Other, exchange_part}
use Rattle.flit_crew.specs.Heaps.{at_word, at_shadow, IsAhead}
use Rattle.flit_crew.specs.Crews.{Who}
use Rattle.flit_crew_bounds.specs.Bounding.{View, view_of, Passes}
use Rattle.flit_list_steps.specs.declared.operations.Path.{Path}
use Rattle.flit_list_steps.specs.declared.operations.LinkWord.{LinkWord as PathWord}
use Rattle.flit_list_steps.specs.declared.operations.Goal.{Goal as Aim}
use Rattle.flit_list_steps.specs.declared.operations.Goal.TheVariants.{Help as To_help, Found as To_found, Absent as To_absent}
use Rattle.flit_list_steps.specs.declared.operations.Which.{Which}
use Rattle.flit_list_steps.specs.declared.operations.Which.TheVariants.{Back as The_back, Pred as The_pred, Next as The_next}
use Rattle.flit_list_steps.specs.Operations.{At, Head, Next, Key, Confirming, Help, Row, Words, RowValue, Link, Mark, Tidy, Value, Ends, Rests}
use Rattle.flit_list_steps.specs.Steps.{row_at, path_confirmed}
use Rattle.flit_list_heap.specs.Links.{row_of}
use Rattle.flit_list_heap.specs.Keeping.{ListHeap, IsLinked, Kept}
use Rattle.flit_list_laws.specs.Walks.{Loaded, Walk}
use Rattle.flit_list_laws.specs.Knowing.{row_after, Stands, HelpAt}
use Rattle.flit_list_laws.specs.ListCrew.{Follows, KnowsAt}
use Rattle.flit_list_laws.proofs.Raws.{raw_row}
use Rattle.flit_list_limits.specs.ListLimits.{cost, back_cost, path_cost, next_cost, confirming_by, rest_by}
use Rattle.flit_list_tries.specs.ListTries.{is_before, keys_known, all_known, keys_left, is_over, help_left, try_left, whole_try}
use Rattle.flit_list_tries.proofs.Keys.{before_same, weaker, all_most, known_grows}

-- ---- what is left of a try is no more than the whole

cost_most : (b : Bool) → cost b ≤ 2
cost_most true = omega arith
cost_most false = omega arith

back_most : (o : Option PathWord) → back_cost o ≤ 2
back_most None = omega arith
back_most (Some x) = cost_most x.confirmed

module _ (l : Layout) (free : List ℕ) (v : View) where
  abbrev every : ℕ
  every = all_known l free v

  abbrev whole : ℕ
  whole = whole_try l free v

  ahead_most : (row : ℕ) → keys_left l free v row ≤ every
  ahead_most row = less every (keys_known l free v (is_before l v.words row))
    where
      less : (n k : ℕ) → n - k ≤ n
      less n k = omega arith

  confirming_most : (path : Path) (goal : Aim) → confirming_by (keys_left l free v) path goal + 2 ≤ whole
  confirming_most path To_help = most every (keys_left l free v (row_at path)) (back_cost path.back) (cost path.pred.confirmed) (cost path.next.confirmed)
      (ahead_most (row_at path)) (back_most path.back) (cost_most path.pred.confirmed) (cost_most path.next.confirmed)
    where
      most : (n a x y z : ℕ) → a ≤ n → x ≤ 2 → y ≤ 2 → z ≤ 2 → 7 * a + (x + y + z) + 10 + 2 ≤ 7 * n + 20
      most n a x y z h i j k = omega (arith, h, i, j, k)
  confirming_most path To_found = most every (back_cost path.back) (cost path.pred.confirmed) (cost path.next.confirmed)
      (back_most path.back) (cost_most path.pred.confirmed) (cost_most path.next.confirmed)
    where
      most : (n x y z : ℕ) → x ≤ 2 → y ≤ 2 → z ≤ 2 → (x + y + z) + 12 + 2 ≤ 7 * n + 20
      most n x y z i j k = omega (arith, i, j, k)
  confirming_most path To_absent = most every (back_cost path.back) (cost path.pred.confirmed) (back_most path.back) (cost_most path.pred.confirmed)
    where
      most : (n x y : ℕ) → x ≤ 2 → y ≤ 2 → (x + y) + 12 + 2 ≤ 7 * n + 20
      most n x y i j = omega (arith, i, j)

  fixed_most : (c : ℕ) → c ≤ 20 → c ≤ whole
  fixed_most c h = most every c h
    where
      most : (n c : ℕ) → c ≤ 20 → c ≤ 7 * n + 20
      most n c h = omega (arith, h)

  pub help_most : (b : Bool) (path : Path) → help_left l free v b path ≤ 7 * keys_left l free v (row_at path) + 8
  help_most true path = more (keys_left l free v (row_at path))
    where
      more : (a : ℕ) → 8 ≤ 7 * a + 8
      more a = omega arith
  help_most false path = same (7 * keys_left l free v (row_at path) + 8)
    where
      same : (n : ℕ) → n ≤ n
      same n = omega arith

  same_le : (n : ℕ) → n ≤ n
  same_le n = omega arith

  -- it is no more than by the measure of a whole search
  pub left_less : (path : Path) (at : At) → try_left l free v path at ≤ rest_by every (keys_left l free v) path at
  left_less path (Head m) = same_le _
  left_less path (Next m) = same_le _
  left_less path (Key m) = same_le _
  left_less path (Confirming goal which m) = same_le _
  left_less path (Help m) = help_most (is_over (exchange_part m.at)) path
  left_less path (Row m) = same_le _
  left_less path (Words m) = same_le _
  left_less path (RowValue m) = same_le _
  left_less path (Link m) = same_le _
  left_less path (Mark m) = same_le _
  left_less path (Tidy m) = same_le _
  left_less path (Value m) = same_le _
  left_less path (Ends m) = same_le _
  left_less path (Rests hand) = same_le _

  pub left_most : (path : Path) (at : At) → try_left l free v path at ≤ whole
  left_most path (Head m) = most every
    where
      most : (n : ℕ) → 7 * n + 17 ≤ 7 * n + 20
      most n = omega arith
  left_most path (Next m) = most every (keys_left l free v (row_at path)) (back_cost path.back) (cost path.pred.confirmed)
      (ahead_most (row_at path)) (back_most path.back) (cost_most path.pred.confirmed)
    where
      most : (n a x y : ℕ) → a ≤ n → x ≤ 2 → y ≤ 2 → 7 * a + (x + y) + 14 ≤ 7 * n + 20
      most n a x y h i j = omega (arith, h, i, j)
  left_most path (Key m) = most every (keys_left l free v (row_at path)) (back_cost path.back) (cost path.pred.confirmed) (cost path.next.confirmed)
      (ahead_most (row_at path)) (back_most path.back) (cost_most path.pred.confirmed) (cost_most path.next.confirmed)
    where
      most : (n a x y z : ℕ) → a ≤ n → x ≤ 2 → y ≤ 2 → z ≤ 2 → 7 * a + (x + y + z) + 11 ≤ 7 * n + 20
      most n a x y z h i j k = omega (arith, h, i, j, k)
  left_most path (Confirming goal which m) = confirming_most (path_confirmed path which) goal
  left_most path (Help m) = most every (keys_left l free v (row_at path)) (help_left l free v (is_over (exchange_part m.at)) path)
      (ahead_most (row_at path)) (help_most (is_over (exchange_part m.at)) path)
    where
      most : (n a x : ℕ) → a ≤ n → x ≤ 7 * a + 8 → x ≤ 7 * n + 20
      most n a x h i = omega (arith, h, i)
  left_most path (Row m) = fixed_most 13 (omega arith)
  left_most path (Words m) = fixed_most 7 (omega arith)
  left_most path (RowValue m) = fixed_most 4 (omega arith)
  left_most path (Link m) = fixed_most 0 (omega arith)
  left_most path (Mark m) = fixed_most 4 (omega arith)
  left_most path (Tidy m) = fixed_most 0 (omega arith)
  left_most path (Value m) = fixed_most 0 (omega arith)
  left_most path (Ends m) = fixed_most 0 (omega arith)
  left_most path (Rests hand) = fixed_most 0 (omega arith)

-- ---- it grows

module _ (l : Layout) (free : List ℕ) (h k : ListHeap) (kept : Kept l free k) (passes : Passes h k) (you : Who) where
  abbrev v : View
  v = view_of h

  abbrev w : View
  w = view_of k

  abbrev old : ℕ
  old = all_known l free v

  abbrev new : ℕ
  new = all_known l free w

  all_grow : old ≤ new
  all_grow = known_grows l free v w (λ key. true) passes.opening passes.made

  -- the key of a linked row is what it was
  key_stays : (row : ℕ) → IsLinked l k row → key_in l h.words row ≡ key_in l k.words row
  key_stays row linked = by_word (passes.words (row_word_of l row 0))
    where
      clash : (a b : ℕ) → a ≡ b → a ≡ b + 1 → ⊥
      clash a b e f = omega (arith, e, f)

      by_word : (at_word k (row_word_of l row 0) ≡ at_word h (row_word_of l row 0))
          ⊎ ((at_word h (row_word_of l row 0) ≡ at_shadow h (row_word_of l row 0)) × IsAhead k (row_word_of l row 0)) →
          key_in l h.words row ≡ key_in l k.words row
      by_word (inl same) = ap value_of (sym same)
      by_word (inr moved) = absurd (clash (version_of (at_word k (row_word_of l row 0))) (version_of (at_shadow k (row_word_of l row 0)))
          (ap version_of (kept.keys row linked)) moved.1)

  -- no fewer keys are before it
  before_grow : (row : ℕ) → (row ≡ 0) ⊎ IsLinked l k row → keys_known l free v (is_before l h.words row) ≤ keys_known l free w (is_before l k.words row)
  before_grow row known = through (keys_known l free v (is_before l h.words row)) (keys_known l free v (is_before l k.words row))
      (keys_known l free w (is_before l k.words row))
      (weaker l free v (is_before l h.words row) (is_before l k.words row) (λ key. before_same l h.words k.words row key (same known)))
      (known_grows l free v w (is_before l k.words row) passes.opening passes.made)
    where
      through : (a b c : ℕ) → a ≤ b → b ≤ c → a ≤ c
      through a b c i j = omega (arith, i, j)

      same : (row ≡ 0) ⊎ IsLinked l k row → (row ≡ 0) ⊎ (key_in l h.words row ≡ key_in l k.words row)
      same (inl none) = inl none
      same (inr linked) = inr (key_stays row linked)

  -- ---- the row that is looked at

  row_is : (path : Path) (x : Walk) → Follows l path x → row_at path ≡ row_after x
  row_is path x follows = raw_row path.pred.raw ∙ ap (λ r. row_of (bare_of r)) follows.link.raw

  at_path : (path : Path) (x : Walk) → Follows l path x → (row_after x ≡ 0) ⊎ IsLinked l k (row_after x) → (row_at path ≡ 0) ⊎ IsLinked l k (row_at path)
  at_path path x follows known = subst (λ r. (r ≡ 0) ⊎ IsLinked l k r) (sym (row_is path x follows)) known

  by_stand : (path : Path) (x : Walk) → Follows l path x → Stands l k you x → (row_at path ≡ 0) ⊎ IsLinked l k (row_at path)
  by_stand path x follows s = at_path path x follows (⊎_elim (λ z. inl z) (λ f. inr f.linked) s.spot.saw.form.leads)

  -- ---- by phase

  -- so many are left, of which some lie ahead
  grows_by : (row c : ℕ) → (row ≡ 0) ⊎ IsLinked l k row →
      whole_try l free v - (7 * keys_left l free v row + c) ≤ whole_try l free w - (7 * keys_left l free w row + c)
  grows_by row c known = less old new (keys_known l free v (is_before l h.words row)) (keys_known l free w (is_before l k.words row)) c all_grow
      (before_grow row known) (all_most l free v (is_before l h.words row)) (all_most l free w (is_before l k.words row))
    where
      less : (n m a b c : ℕ) → n ≤ m → a ≤ b → a ≤ n → b ≤ m → (7 * n + 20) - (7 * (n - a) + c) ≤ (7 * m + 20) - (7 * (m - b) + c)
      less n m a b c h i j k = omega (arith, h, i, j, k)

  grows_fixed : (c : ℕ) → whole_try l free v - c ≤ whole_try l free w - c
  grows_fixed c = less old new c all_grow
    where
      less : (n m c : ℕ) → n ≤ m → (7 * n + 20) - c ≤ (7 * m + 20) - c
      less n m c h = omega (arith, h)

  grows_three : (path : Path) (c d : ℕ) → (row_at path ≡ 0) ⊎ IsLinked l k (row_at path) →
      whole_try l free v - (7 * keys_left l free v (row_at path) + c + d) ≤ whole_try l free w - (7 * keys_left l free w (row_at path) + c + d)
  grows_three path c d known = same (whole_try l free v) (whole_try l free w) (7 * keys_left l free v (row_at path)) (7 * keys_left l free w (row_at path)) c d
      (grows_by (row_at path) (c + d) known)
    where
      same : (x y a b c d : ℕ) → x - (a + (c + d)) ≤ y - (b + (c + d)) → x - (a + c + d) ≤ y - (b + c + d)
      same x y a b c d h = omega (arith, h)

  confirming_grows : (path : Path) (which : Which) (goal : Aim) →
      (goal ≡ To_help → (row_at path ≡ 0) ⊎ IsLinked l k (row_at path)) →
      whole_try l free v - (confirming_by (keys_left l free v) (path_confirmed path which) goal + 2)
      ≤ whole_try l free w - (confirming_by (keys_left l free w) (path_confirmed path which) goal + 2)
  confirming_grows path which To_help known = by_which which
    where
      more : (path : Path) → (row_at path ≡ 0) ⊎ IsLinked l k (row_at path) →
          whole_try l free v - (7 * keys_left l free v (row_at path) + next_cost path + 10 + 2)
          ≤ whole_try l free w - (7 * keys_left l free w (row_at path) + next_cost path + 10 + 2)
      more path known = same (whole_try l free v) (whole_try l free w) (7 * keys_left l free v (row_at path)) (7 * keys_left l free w (row_at path)) (next_cost path)
          (grows_by (row_at path) (next_cost path + 12) known)
        where
          same : (x y a b c : ℕ) → x - (a + (c + 12)) ≤ y - (b + (c + 12)) → x - (a + c + 10 + 2) ≤ y - (b + c + 10 + 2)
          same x y a b c h = omega (arith, h)

      by_which : (which : Which) → whole_try l free v - (confirming_by (keys_left l free v) (path_confirmed path which) To_help + 2)
          ≤ whole_try l free w - (confirming_by (keys_left l free w) (path_confirmed path which) To_help + 2)
      by_which The_back = more (path_confirmed path The_back) (known refl)
      by_which The_pred = more (path_confirmed path The_pred) (known refl)
      by_which The_next = more (path_confirmed path The_next) (known refl)
  confirming_grows path which To_found known = grows_fixed (next_cost (path_confirmed path which) + 12 + 2)
  confirming_grows path which To_absent known = grows_fixed (path_cost (path_confirmed path which) + 12 + 2)

  help_grows : (path : Path) (b : Bool) → (b ≡ false → (row_at path ≡ 0) ⊎ IsLinked l k (row_at path)) →
      whole_try l free v - help_left l free v b path ≤ whole_try l free w - help_left l free w b path
  help_grows path true known = grows_fixed 8
  help_grows path false known = grows_by (row_at path) 8 (known refl)

  help_known : (path : Path) (x : Walk) (n : Loaded) (m : HeldExchange) (part : Part) → Follows l path x → HelpAt l k you x n m part →
      is_over part ≡ false → (row_at path ≡ 0) ⊎ IsLinked l k (row_at path)
  help_known path x n m (ToRead word) follows f e = absurd (cc)
  help_known path x n m (HasRead word raw) follows f e = absurd (cc)
  help_known path x n m ToWin follows f e = by_stand path x follows f.sure.stands
  help_known path x n m HasWon follows f e = at_path path x follows (inr f.linked)
  help_known path x n m HasWritten follows f e = at_path path x follows (inr f.linked)
  help_known path x n m (HasLost found) follows f e = absurd (cc)
  help_known path x n m Other follows f e = absurd (cc)

  pub grows : (reply : Reply) (path : Path) (x : Walk) (n : Loaded) (at : At) → KnowsAt l k you reply path x n at →
      whole_try l free v - try_left l free v path at ≤ whole_try l free w - try_left l free w path at
  grows reply path x n (Head m) f = less old new
    where
      less : (n m : ℕ) → (7 * n + 20) - (7 * n + 17) ≤ (7 * m + 20) - (7 * m + 17)
      less n m = omega arith
  grows reply path x n (Next m) f = grows_three path (path_cost path) 14 (by_stand path x f.0 f.1.stands)
  grows reply path x n (Key m) f = grows_three path (next_cost path) 11 (by_stand path x f.0.walk f.1.stands)
  grows reply path x n (Confirming To_help which m) f = confirming_grows path which To_help (λ e. by_stand path x f.follows.walk f.stands)
  grows reply path x n (Confirming To_found which m) f = confirming_grows path which To_found (λ e. by_stand path x f.follows.walk f.stands)
  grows reply path x n (Confirming To_absent which m) f = confirming_grows path which To_absent (λ e. by_stand path x f.follows f.stands)
  grows reply path x n (Help m) f = help_grows path (is_over (exchange_part m.at)) (help_known path x n m (exchange_part m.at) f.0.walk f.2)
  grows reply path x n (Row m) f = grows_fixed 13
  grows reply path x n (Words m) f = grows_fixed 7
  grows reply path x n (RowValue m) f = grows_fixed 4
  grows reply path x n (Link m) f = grows_fixed 0
  grows reply path x n (Mark m) f = grows_fixed 4
  grows reply path x n (Tidy m) f = grows_fixed 0
  grows reply path x n (Value m) f = grows_fixed 0
  grows reply path x n (Ends m) f = grows_fixed 0
  grows reply path x n (Rests hand) f = grows_fixed 0
