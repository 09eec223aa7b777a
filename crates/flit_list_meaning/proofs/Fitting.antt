-- The name and the first spare row of an operation's hand fit into links, before an event and after it.
use Rattle.std.proofs.Common.{◌≡◌, ◌⊎◌, inl, inr, ⊎_elim, ℕ, ◌+◌, ◌-◌, ◌^◌, ◌<◌, ◌≤◌, ◌==◌, not, Bool, true, false, List, [], ◌∷◌, ◌++◌, Option, Some, None, refl, sym, ◌∙◌, ap, subst, slice_index, slice_get, Contains, arith, if◌then◌else◌}
use Rattle.std.proofs.lemmas.Bool.{eqb-true}
use Rattle.std.proofs.lemmas.Option.{slice_get_within, get_or_from_slice_get}
use Rattle.flit_words.specs.declared.layouts.Layout.{Layout}
use Rattle.flit_words.specs.declared.layouts.Kind.{Kind}
use Rattle.flit_words.specs.declared.layouts.Kind.TheVariants.{List as List_kind, Hash, Tree as Tree_kind}
use Rattle.flit_words.specs.declared.limits.TheConstants.{MOST_WORKERS, MOST_ROWS}
use Rattle.flit_words.specs.Layouts.{last_row_of, first_row_of}
use Rattle.flit_model.specs.declared.calls.Call.{Call}
use Rattle.flit_model.proofs.Membership.{contains_first}
use Rattle.flit_place.specs.Tags.{Place}
use Rattle.flit_pv.specs.declared.hands.Hand.{Hand}
use Rattle.flit_pv.specs.Tallies.{GoesOn}
use Rattle.flit_pv.proofs.OneEvent.{v_load_goes_on, confirm_goes_on, exchange_goes_on, store_goes_further, complete_goes_on}
use Rattle.flit_rows.specs.Shares.{rows_in}
use Rattle.flit_rows.specs.Taking.{HeldTake, take_takes, with_row, filled}
use Rattle.flit_rows.specs.declared.take_row.Taking.{Taking}
use Rattle.flit_rows.specs.declared.take_row.Taking.TheVariants.{Draws, Ended}
use Rattle.flit_structure.specs.declared.workers.Worker.{Worker}
use Rattle.flit_structure.specs.Moments.{Moment, with_workers, busy}
use Rattle.flit_crew.specs.Machines.{hand_in, hand_of}
use Rattle.flit_crew.specs.Anatomies.{own, own_in, rows_but}
use Rattle.flit_crew.specs.Crews.{Holds}
use Rattle.flit_crew.specs.Heaps.{heap_of}
use Rattle.flit_crew.proofs.Acting.{split_acts}
use Rattle.flit_crew.proofs.Owning as owning
use Rattle.flit_crew.proofs.Placing.{pool_fit}
use Rattle.flit_list_steps.specs.Operations.{At, Head, Next, Key, Confirming, Help, Row, Words, RowValue, Link, Mark, Tidy, Value, Ends, Rests, HeldOp}
use Rattle.flit_list_steps.specs.Steps.{hand_at, after_at, own_row}
use Rattle.flit_list_laws.specs.ListAnatomy.{list_anatomy, machine_at}
use Rattle.flit_list_laws.specs.ListCrew.{list_crew}
use Rattle.flit_list_meaning.specs.Laws.{IsUnlinked, FitsSo, HandsFit}
use Rattle.flit_list_meaning.proofs.Machines.{has_hand}

-- ---- one event

-- it has the same name, and the same first row or one of the pool
record Follows (free : List ℕ) (was now : Hand) : Type 0 where
  name : now.name ≡ was.name
  row : (own_row now ≡ own_row was) ⊎ Contains free (own_row now)

as_goes : (free : List ℕ) (was now : Hand) → GoesOn was now → Follows free was now
as_goes free was now g = record { name = g.name; row = inl (ap (λ rows. slice_index rows 0) g.spare) }

in_pool : (xs : List ℕ) (i x : ℕ) → slice_get xs i ≡ Some x → Contains xs x
in_pool xs i x q = (i, slice_get_within xs i x q, get_or_from_slice_get xs i x x q)

-- the row drawn goes to the first place that has none
first_with : (free spare : List ℕ) (told : ℕ) (o : Option ℕ) → slice_get free told ≡ o →
    (slice_index (with_row o spare) 0 ≡ slice_index spare 0) ⊎ Contains free (slice_index (with_row o spare) 0)
first_with free spare told None e = inl refl
first_with free [] told (Some row) e = inl refl
first_with free (x ∷ xs) told (Some row) e = by_first (x == 0)
  where
    by_first : (b : Bool) → (slice_index (if b then row ∷ xs else x ∷ filled row xs) 0 ≡ x)
        ⊎ Contains free (slice_index (if b then row ∷ xs else x ∷ filled row xs) 0)
    by_first true = inr (in_pool free told row e)
    by_first false = inl refl

take_follows : (free : List ℕ) (m : HeldTake) (told : ℕ) (at : Taking) → Follows free m.hand (take_takes free at m told).hand
take_follows free m told Draws = record { name = refl; row = first_with free m.hand.spare told (slice_get free told) refl }
take_follows free m told (Ended took) = record { name = refl; row = inl refl }

follows_at : (p : Place) (free : List ℕ) (at : At) (told : ℕ) → Follows free (hand_at at) (hand_at (after_at p free at told))
follows_at p free (Head m) told = as_goes free m.hand (hand_at (after_at p free (Head m) told)) (v_load_goes_on m told)
follows_at p free (Next m) told = as_goes free m.hand (hand_at (after_at p free (Next m) told)) (v_load_goes_on m told)
follows_at p free (Key m) told = as_goes free m.hand (hand_at (after_at p free (Key m) told)) (v_load_goes_on m told)
follows_at p free (Confirming goal which m) told =
    as_goes free m.hand (hand_at (after_at p free (Confirming goal which m) told)) (confirm_goes_on p m told)
follows_at p free (Help m) told = as_goes free m.hand (hand_at (after_at p free (Help m) told)) (exchange_goes_on p m told)
follows_at p free (Row m) told = take_follows free m told m.at
follows_at p free (Words m) told = as_goes free m.hand (hand_at (after_at p free (Words m) told)) (store_goes_further m told)
follows_at p free (RowValue m) told = as_goes free m.hand (hand_at (after_at p free (RowValue m) told)) (store_goes_further m told)
follows_at p free (Link m) told = as_goes free m.hand (hand_at (after_at p free (Link m) told)) (exchange_goes_on p m told)
follows_at p free (Mark m) told = as_goes free m.hand (hand_at (after_at p free (Mark m) told)) (exchange_goes_on p m told)
follows_at p free (Tidy m) told = as_goes free m.hand (hand_at (after_at p free (Tidy m) told)) (exchange_goes_on p m told)
follows_at p free (Value m) told = as_goes free m.hand (hand_at (after_at p free (Value m) told)) (v_load_goes_on m told)
follows_at p free (Ends m) told = as_goes free m.fence.hand (hand_at (after_at p free (Ends m) told)) (complete_goes_on m told)
follows_at p free (Rests hand) told = record { name = refl; row = inl refl }

-- ---- a row of the pool, and a name of the layout

rows_small : (k : Kind) (rows : ℕ) → rows ≤ MOST_ROWS → rows + (first_row_of k - 1) < 2 ^ 22
rows_small List_kind rows few = omega (arith, few)
rows_small Hash rows few = omega (arith, few)
rows_small Tree_kind rows few = omega (arith, few)

below : (row last : ℕ) → row ≤ last → last < 2 ^ 22 → row < 2 ^ 22
below row last i j = omega (arith, i, j)

names_small : (name workers : ℕ) → name ≤ workers → workers ≤ MOST_WORKERS → name < 2 ^ 8
names_small name workers i j = omega (arith, i, j)

-- the first spare row is 0, or one of the rows in spare places
first_small : (spare : List ℕ) → ((row : ℕ) → Contains (rows_in spare) row → row < 2 ^ 22) → slice_index spare 0 < 2 ^ 22
first_small [] each = omega arith
first_small (x ∷ xs) each = by_first (x == 0) refl
  where
    by_first : (b : Bool) → (x == 0) ≡ b → x < 2 ^ 22
    by_first true e = let zero_is : x ≡ 0 = eqb-true x 0 e in omega (arith, zero_is)
    by_first false e =
        let rows : rows_in (x ∷ xs) ≡ x ∷ rows_in xs = ap (λ b. if not b then x ∷ rows_in xs else rows_in xs) e in
        each x (subst (λ rs. Contains rs x) (sym rows) (contains_first x (rows_in xs)))

-- ---- an operation under way

module _ (l : Layout) (p : Place) (free : List ℕ) (M : Moment HeldOp) (a : List (Worker HeldOp)) (name number : ℕ) (op : HeldOp) (call : Call)
    (begun : Option ℕ) (b : List (Worker HeldOp))
    (holds : Holds (list_crew l p free) l p free (with_workers M (a ++ busy name number op call begun ∷ b))) where
  abbrev me : Worker HeldOp
  me = busy name number op call begun

  pool_small : (row : ℕ) → Contains free row → row < 2 ^ 22
  pool_small row has = below row (last_row_of l) (pool_fit l free holds.pool row has).1 (rows_small l.kind l.rows holds.accepted.most_row)

  name_small : (hand_at op.at).name < 2 ^ 8
  name_small =
      let s = split_acts (list_crew l p free) l p free (heap_of (with_workers M (a ++ me ∷ b)) holds.given holds.ghost) a me b holds.actors holds.acts in
      let same : (hand_at op.at).name ≡ name = ap (λ h. h.name) (sym (has_hand op.at)) ∙ ap (λ w. (hand_of w).name) (sym s.mine.at) ∙ s.mine.name in
      subst (λ n. n < 2 ^ 8) (sym same) (names_small name l.workers s.mine.most holds.accepted.most_worker)

  row_small : IsUnlinked (list_anatomy l p free) op → own_row (hand_at op.at) < 2 ^ 22
  row_small unlinked =
      let own_is : own (list_anatomy l p free) op ≡ rows_in (hand_at op.at).spare =
      ap (λ c. rows_but (list_anatomy l p free) c (hand_in (machine_at op.at)).spare) unlinked ∙ ap (λ h. rows_in h.spare) (has_hand op.at) in
      first_small (hand_at op.at).spare (λ row has. pool_small row
      (owning.own_row (λ v. own_in (list_anatomy l p free) v.doing) free M.state.counter holds.given a me b row (owning.lower free holds.pool.rising)
      holds.rows.dealt (subst (λ rows. Contains rows row) (sym own_is) has)).pool)

  pub hand_fits : (told : ℕ) → FitsSo p free (list_anatomy l p free) op told
  hand_fits told = let f = follows_at p free op.at told in record {
    name = subst (λ n. n < 2 ^ 8) (sym f.name) name_small;
    fits = λ unlinked. record {
      name = subst (λ n. n < 2 ^ 8) (sym f.name) name_small;
      row = ⊎_elim (λ e. subst (λ r. r < 2 ^ 22) (sym e) (row_small unlinked))
          (λ has. pool_small (own_row (hand_at (after_at p free op.at told))) has) f.row;
    };
  }

pub hands_fit : HandsFit
hands_fit l p free M a name number op call begun b told holds = hand_fits l p free M a name number op call begun b holds told
