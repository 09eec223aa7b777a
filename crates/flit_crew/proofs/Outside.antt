-- Foreign rows: they are rows of the layout, none of the pool's, and their words are hidden. Whoever writes them reaches no
-- other words; and at an opening all their words are its own.
use Rattle.std.proofs.Common.{◌≡◌, ◌≢◌, inl, inr, ⊎_elim, ℕ, zero, suc, ◌+◌, ◌<◌, ◌≤◌, Bool, true, false, List, [], ◌∷◌, ◌++◌, refl, sym, subst, arith}
use Rattle.std.proofs.lemmas.Bool.{both_ways, cases_lt}
use Rattle.std.proofs.lemmas.List.Elements.{Contains-append_left, Contains-append_right}
use Rattle.std.specs.Prelude.{Contains}
use Rattle.std.specs.List.{AllByRecursion}
use Rattle.flit_words.specs.declared.layouts.Layout.{Layout}
use Rattle.flit_words.specs.declared.layouts.Kind.{Kind}
use Rattle.flit_words.specs.declared.layouts.Kind.TheVariants.{List as List_kind, Hash, Tree}
use Rattle.flit_words.specs.Layouts.{parts_of, words_of, last_row_of, first_row_of, row_word_of, value_word_of}
use Rattle.flit_model.specs.Lists.{stands_in}
use Rattle.flit_model.specs.Images.{Recovers}
use Rattle.flit_model.proofs.Elements.{all_weaker, all_contained}
use Rattle.flit_model.proofs.Membership.{contains_first, contains_later, contains_none, contains_cases, contains-list_any, list_any-contains}
use Rattle.flit_model.proofs.Shapes.{free_rows-contains}
use Rattle.flit_pv.specs.Hands.{first_hand}
use Rattle.flit_runs.specs.Worlds.{IsAway}
use Rattle.flit_structure.specs.Moments.{Opening}
use Rattle.flit_structure.specs.Lawful.{IsOpening}
use Rattle.flit_structure.proofs.Names.{all_both}
use Rattle.flit_crew.specs.Heaps.{Heap, IsOpen, IsShut, IsForeign, IsHidden, IsWordOf}
use Rattle.flit_crew.specs.Accounts.{IsPool}
use Rattle.flit_crew.specs.Crews.{Stranger, IsForeignWord, IsOutside}
use Rattle.flit_crew.proofs.Placing.{same_row, pool_fit, word_within}

pub shut_hidden : {G : Type 0} (l : Layout) (free : List ℕ) (h : Heap G) (w : ℕ) → IsShut l free h w → IsHidden l free h w
shut_hidden l free h w s o = s.unlinked (o.given s.row s.pool s.word)

least_row : (k : Kind) (r : ℕ) → first_row_of k ≤ r → 1 ≤ r
least_row List_kind r i = omega (arith, i)
least_row Hash r i = omega (arith, i)
least_row Tree r i = omega (arith, i)

module _ (l : Layout) (free : List ℕ) (o : Opening) where
  -- a foreign row is one of the layout
  pub unreached_fits : (rows : List ℕ) → Recovers l o.words o.content rows → (row : ℕ) → Contains rows row → (1 ≤ row) × (row ≤ last_row_of l)
  unreached_fits rows recovers row has =
      let r = (free_rows-contains l recovers.shape row).0 (subst (λ xs. Contains xs row) recovers.free_rows has) in (least_row l.kind row r.0, r.1)

  pub foreign_fits : (row : ℕ) → IsForeign l free o row → (1 ≤ row) × (row ≤ last_row_of l)
  foreign_fits row f = unreached_fits f.rows f.recovers row f.unreached

  pub foreign_within : (w : ℕ) → IsForeignWord l free o w → w < words_of l
  foreign_within w f = let fit = foreign_fits f.row f.foreign in word_within l f.row w fit.0 fit.1 f.word

  -- its words are no words of the pool's rows
  pub foreign_away : IsPool l free → (row w x : ℕ) → Contains free row → IsWordOf l row w → IsForeignWord l free o x → x ≢ w
  foreign_away pool row w x has of f same =
      let mine = pool_fit l free pool row has in
      let fit = foreign_fits f.row f.foreign in
      f.foreign.outside (subst (Contains free) (same_row l row f.row w mine.0 mine.1 fit.0 fit.1 of (subst (IsWordOf l f.row) same f.word)) has)

  -- ---- their words

  abbrev parts_to : ℕ → ℕ → List ℕ
  parts_to row zero = []
  parts_to row (suc n) = row_word_of l row n ∷ parts_to row n

  abbrev value_words : Bool → ℕ → List ℕ
  value_words true row = value_word_of l row ∷ []
  value_words false row = []

  abbrev row_words : ℕ → List ℕ
  row_words row = parts_to row (parts_of l.kind) ++ value_words l.values row

  abbrev words_if : Bool → ℕ → List ℕ → List ℕ
  words_if true row rest = rest
  words_if false row rest = row_words row ++ rest

  -- the words of those of some rows that aren't of the pool
  abbrev pub words_among : List ℕ → List ℕ
  words_among [] = []
  words_among (row ∷ rows) = words_if (stands_in free row) row (words_among rows)

  in_parts : (row part n : ℕ) → part < n → Contains (parts_to row n) (row_word_of l row part)
  in_parts row part zero below = absurd (omega (arith, below))
  in_parts row part (suc n) below = ⊎_elim
      (λ less. contains_later (row_word_of l row n) (parts_to row n) (row_word_of l row part) (in_parts row part n less))
      (λ least. subst (λ k. Contains (parts_to row (suc n)) (row_word_of l row k)) (level part n below least)
      (contains_first (row_word_of l row n) (parts_to row n)))
      (cases_lt part n)
    where
      level : (a b : ℕ) → a < suc b → b ≤ a → b ≡ a
      level a b i j = omega (arith, i, j)

  in_value : (t : Bool) (row : ℕ) → t ≡ true → Contains (value_words t row) (value_word_of l row)
  in_value true row e = contains_first (value_word_of l row) []
  in_value false row e = absurd (cc)

  in_row : (row w : ℕ) → IsWordOf l row w → Contains (row_words row) w
  in_row row w (inl x) = Contains-append_left (parts_to row (parts_of l.kind)) (value_words l.values row) w
      (subst (Contains (parts_to row (parts_of l.kind))) (sym x.2) (in_parts row x.0 (parts_of l.kind) x.1))
  in_row row w (inr x) = Contains-append_right (parts_to row (parts_of l.kind)) (value_words l.values row) w
      (subst (Contains (value_words l.values row)) (sym x.1) (in_value l.values row x.0))

  stands : (row : ℕ) (t : Bool) → stands_in free row ≡ t → (Contains free row → ⊥) → t ≡ false
  stands row true e out = absurd (out (list_any-contains row free e))
  stands row false e out = refl

  among_has : (rows : List ℕ) (row w : ℕ) → Contains rows row → (Contains free row → ⊥) → IsWordOf l row w → Contains (words_among rows) w
  among_has [] row w has out of = absurd (contains_none row has)
  among_has (r ∷ rows) row w has out of = ⊎_elim here (λ k. by_test (stands_in free r) (among_has rows row w k out of)) (contains_cases r rows row has)
    where
      here : r ≡ row → Contains (words_if (stands_in free r) r (words_among rows)) w
      here e = subst (λ t. Contains (words_if t r (words_among rows)) w)
          (sym (stands r (stands_in free r) refl (λ k. out (subst (Contains free) e k))))
          (Contains-append_left (row_words r) (words_among rows) w (in_row r w (subst (λ x. IsWordOf l x w) (sym e) of)))

      by_test : (t : Bool) → Contains (words_among rows) w → Contains (words_if t r (words_among rows)) w
      by_test true k = k
      by_test false k = Contains-append_right (row_words r) (words_among rows) w k

  module _ (P : ℕ → Type 0) where
    all_parts : (row n : ℕ) → n ≤ parts_of l.kind → ((w : ℕ) → IsWordOf l row w → P w) → AllByRecursion P (parts_to row n)
    all_parts row zero most f = tt
    all_parts row (suc n) most f = (f (row_word_of l row n) (inl (n, most, refl)), all_parts row n (less n (parts_of l.kind) most) f)
      where
        less : (n m : ℕ) → suc n ≤ m → n ≤ m
        less n m i = omega (arith, i)

    all_value : (t : Bool) (row : ℕ) → t ≡ l.values → ((w : ℕ) → IsWordOf l row w → P w) → AllByRecursion P (value_words t row)
    all_value true row e f = (f (value_word_of l row) (inr (sym e, refl)), tt)
    all_value false row e f = tt

    all_row : (row : ℕ) → ((w : ℕ) → IsWordOf l row w → P w) → AllByRecursion P (row_words row)
    all_row row f = all_both P (parts_to row (parts_of l.kind)) (value_words l.values row) (all_parts row (parts_of l.kind) (same (parts_of l.kind)) f)
        (all_value l.values row refl f)
      where
        same : (n : ℕ) → n ≤ n
        same n = omega arith

    all_among : (rows : List ℕ) → ((row w : ℕ) → Contains rows row → (Contains free row → ⊥) → IsWordOf l row w → P w) → AllByRecursion P (words_among rows)
    all_among [] f = tt
    all_among (r ∷ rows) f = by_test (stands_in free r) refl (all_among rows (λ row w has out of. f row w (contains_later r rows row has) out of))
      where
        absent : stands_in free r ≡ false → Contains free r → ⊥
        absent e has = both_ways (stands_in free r) e (contains-list_any r free has)

        by_test : (t : Bool) → stands_in free r ≡ t → AllByRecursion P (words_among rows) → AllByRecursion P (words_if t r (words_among rows))
        by_test true e rest = rest
        by_test false e rest = all_both P (row_words r) (words_among rows) (all_row r (λ w of. f r w (contains_first r rows) (absent e) of)) rest

  -- at an opening whoever writes foreign rows has all their words, and has stored none
  pub outside_first : (opening : IsOpening l o) → IsOutside l free o opening (record { hand = first_hand 0; needs = []; private = words_among opening.free })
  outside_first opening = record {
    foreign = all_among (IsForeignWord l free o) opening.free (λ row w has out of. record {
      row = row;
      foreign = record { rows = opening.free; recovers = opening.recovers; unreached = has; outside = out };
      word = of;
    });
    all = λ row w has out of. among_has opening.free row w has out of;
  }

module _ {G : Type 0} (l : Layout) (free : List ℕ) (h : Heap G) where
  pub foreign_hidden : (w : ℕ) → IsForeignWord l free h.opening w → IsHidden l free h w
  foreign_hidden w f o = o.ours f.row f.foreign f.word

  pub outside_hidden : (opening : IsOpening l h.opening) (g : Stranger) → IsOutside l free h.opening opening g → AllByRecursion (IsHidden l free h) g.private
  outside_hidden opening g out = all_weaker (IsForeignWord l free h.opening) (IsHidden l free h) foreign_hidden g.private out.foreign

  -- none of its words is of a row of the pool
  pub outside_away : IsPool l free → (opening : IsOpening l h.opening) (g : Stranger) → IsOutside l free h.opening opening g → (row w : ℕ) →
      Contains free row → IsWordOf l row w → IsAway g.private w
  outside_away pool opening g out row w has of = all_weaker (IsForeignWord l free h.opening) (λ x. x ≢ w)
      (λ x f. foreign_away l free h.opening pool row w x has of f) g.private out.foreign
