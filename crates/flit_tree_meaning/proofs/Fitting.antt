-- The spare rows of an operation's hand fit into links, before an event and after it.
use Rattle.std.proofs.Common.{◌≡◌, ℕ, ◌+◌, ◌-◌, ◌^◌, ◌<◌, ◌≤◌, ◌==◌, not, Bool, true, false, List, [], ◌∷◌, ◌++◌, Option, Some, None, refl, sym, ◌∙◌, ap, subst, slice_index, slice_get, Contains, arith, if◌then◌else◌}
use Rattle.std.proofs.lemmas.Bool.{eqb-true}
use Rattle.std.proofs.lemmas.Option.{slice_get_within, get_or_from_slice_get}
use Rattle.flit_words.specs.declared.layouts.Layout.{Layout}
use Rattle.flit_words.specs.declared.layouts.Kind.{Kind}
use Rattle.flit_words.specs.declared.layouts.Kind.TheVariants.{List as List_kind, Hash, Tree as Tree_kind}
use Rattle.flit_words.specs.declared.limits.TheConstants.{MOST_ROWS}
use Rattle.flit_words.specs.Layouts.{last_row_of, first_row_of}
use Rattle.flit_model.specs.declared.calls.Call.{Call}
use Rattle.flit_model.proofs.Membership.{contains_first, contains_later}
use Rattle.flit_place.specs.Tags.{Place}
use Rattle.flit_pv.specs.declared.hands.Hand.{Hand}
use Rattle.flit_pv.specs.Tallies.{GoesOn}
use Rattle.flit_pv.proofs.OneEvent.{load_goes_on, v_load_goes_on, exchange_goes_on, store_goes_further, complete_goes_on}
use Rattle.flit_rows.specs.Shares.{rows_in}
use Rattle.flit_rows.specs.Taking.{HeldTake, take_takes, with_row, filled}
use Rattle.flit_rows.specs.declared.take_row.Taking.{Taking}
use Rattle.flit_rows.specs.declared.take_row.Taking.TheVariants.{Draws, Ended}
use Rattle.flit_structure.specs.declared.workers.Worker.{Worker}
use Rattle.flit_structure.specs.Moments.{Moment, with_workers, busy}
use Rattle.flit_crew.specs.Machines.{hand_in}
use Rattle.flit_crew.specs.Anatomies.{own, own_in, rows_but}
use Rattle.flit_crew.specs.Crews.{Holds}
use Rattle.flit_crew.proofs.Owning as owning
use Rattle.flit_crew.proofs.Placing.{pool_fit}
use Rattle.flit_tree_steps.specs.Operations.{At, Root, Key, Edge, Rows, LeafWords, LeafValue, InnerWords, Link, Flag, Sibling, Freeze, Swing, Value, Ends, Rests, HeldOp}
use Rattle.flit_tree_steps.specs.Steps.{hand_at, after_at, FitsLink}
use Rattle.flit_tree_laws.specs.TreeAnatomy.{tree_anatomy, machine_at}
use Rattle.flit_tree_laws.specs.TreeCrew.{tree_crew}
use Rattle.flit_tree_meaning.specs.Laws.{IsUnlinked, HandsFit}
use Rattle.flit_tree_meaning.proofs.Machines.{has_hand}

-- ---- rows that fit into links

abbrev AreSmall : List ℕ → Type 0
AreSmall [] = Unit {0}
AreSmall (x ∷ xs) = (x < 2 ^ 22) × AreSmall xs

first_small : (spare : List ℕ) → AreSmall spare → slice_index spare 0 < 2 ^ 22
first_small [] h = omega arith
first_small (x ∷ xs) h = h.0

second_small : (spare : List ℕ) → AreSmall spare → slice_index spare 1 < 2 ^ 22
second_small [] h = omega arith
second_small (x ∷ []) h = omega arith
second_small (x ∷ y ∷ ys) h = h.1.0

filled_small : (row : ℕ) (spare : List ℕ) → row < 2 ^ 22 → AreSmall spare → AreSmall (filled row spare)
filled_small row [] r h = h
filled_small row (x ∷ xs) r h = by_first (x == 0) (filled_small row xs r h.1)
  where
    by_first : (b : Bool) → AreSmall (filled row xs) → AreSmall (if b then row ∷ xs else x ∷ filled row xs)
    by_first true rest = (r, h.1)
    by_first false rest = (h.0, rest)

-- a spare place has 0, or one of the rows there
rows_small : (spare : List ℕ) → ((row : ℕ) → Contains (rows_in spare) row → row < 2 ^ 22) → AreSmall spare
rows_small [] each = tt
rows_small (x ∷ xs) each = by_first (x == 0) refl (rows_small xs)
  where
    by_first : (b : Bool) → (x == 0) ≡ b → (((row : ℕ) → Contains (rows_in xs) row → row < 2 ^ 22) → AreSmall xs) → AreSmall (x ∷ xs)
    by_first true e rest =
        let rows : rows_in (x ∷ xs) ≡ rows_in xs = ap (λ b. if not b then x ∷ rows_in xs else rows_in xs) e in
        let zero_is : x ≡ 0 = eqb-true x 0 e in
        (omega (arith, zero_is), rest (λ row has. each row (subst (λ rs. Contains rs row) (sym rows) has)))
    by_first false e rest =
        let rows : rows_in (x ∷ xs) ≡ x ∷ rows_in xs = ap (λ b. if not b then x ∷ rows_in xs else rows_in xs) e in (
          each x (subst (λ rs. Contains rs x) (sym rows) (contains_first x (rows_in xs))),
          rest (λ row has. each row (subst (λ rs. Contains rs row) (sym rows) (contains_later x (rows_in xs) row has))),
        )

last_small : (k : Kind) (rows : ℕ) → rows ≤ MOST_ROWS → rows + (first_row_of k - 1) < 2 ^ 22
last_small List_kind rows few = omega (arith, few)
last_small Hash rows few = omega (arith, few)
last_small Tree_kind rows few = omega (arith, few)

below : (row last : ℕ) → row ≤ last → last < 2 ^ 22 → row < 2 ^ 22
below row last i j = omega (arith, i, j)

in_pool : (xs : List ℕ) (i x : ℕ) → slice_get xs i ≡ Some x → Contains xs x
in_pool xs i x q = (i, slice_get_within xs i x q, get_or_from_slice_get xs i x x q)

-- ---- one event

module _ (p : Place) (free : List ℕ) (pool_small : (row : ℕ) → Contains free row → row < 2 ^ 22) where
  as_goes : (was now : Hand) → GoesOn was now → AreSmall was.spare → AreSmall now.spare
  as_goes was now g h = subst AreSmall (sym g.spare) h

  -- the row drawn goes to the first place that has none
  drawn_small : (spare : List ℕ) (told : ℕ) (o : Option ℕ) → slice_get free told ≡ o → AreSmall spare → AreSmall (with_row o spare)
  drawn_small spare told None e h = h
  drawn_small spare told (Some row) e h = filled_small row spare (pool_small row (in_pool free told row e)) h

  take_small : (m : HeldTake) (told : ℕ) (at : Taking) → AreSmall m.hand.spare → AreSmall (take_takes free at m told).hand.spare
  take_small m told Draws h = drawn_small m.hand.spare told (slice_get free told) refl h
  take_small m told (Ended took) h = h

  after_small : (at : At) (told : ℕ) → AreSmall (hand_at at).spare → AreSmall (hand_at (after_at p free at told)).spare
  after_small (Root m) told h = as_goes m.hand (hand_at (after_at p free (Root m) told)) (load_goes_on p m told) h
  after_small (Key m) told h = as_goes m.hand (hand_at (after_at p free (Key m) told)) (load_goes_on p m told) h
  after_small (Edge m) told h = as_goes m.hand (hand_at (after_at p free (Edge m) told)) (load_goes_on p m told) h
  after_small (Rows m) told h = take_small m told m.at h
  after_small (LeafWords m) told h = as_goes m.hand (hand_at (after_at p free (LeafWords m) told)) (store_goes_further m told) h
  after_small (LeafValue m) told h = as_goes m.hand (hand_at (after_at p free (LeafValue m) told)) (store_goes_further m told) h
  after_small (InnerWords m) told h = as_goes m.hand (hand_at (after_at p free (InnerWords m) told)) (store_goes_further m told) h
  after_small (Link m) told h = as_goes m.hand (hand_at (after_at p free (Link m) told)) (exchange_goes_on p m told) h
  after_small (Flag m) told h = as_goes m.hand (hand_at (after_at p free (Flag m) told)) (exchange_goes_on p m told) h
  after_small (Sibling clean_up m) told h = as_goes m.hand (hand_at (after_at p free (Sibling clean_up m) told)) (load_goes_on p m told) h
  after_small (Freeze clean_up m) told h = as_goes m.hand (hand_at (after_at p free (Freeze clean_up m) told)) (exchange_goes_on p m told) h
  after_small (Swing clean_up m) told h = as_goes m.hand (hand_at (after_at p free (Swing clean_up m) told)) (exchange_goes_on p m told) h
  after_small (Value m) told h = as_goes m.hand (hand_at (after_at p free (Value m) told)) (v_load_goes_on m told) h
  after_small (Ends m) told h = as_goes m.fence.hand (hand_at (after_at p free (Ends m) told)) (complete_goes_on m told) h
  after_small (Rests hand) told h = h

-- ---- an operation under way

module _ (l : Layout) (p : Place) (free : List ℕ) (M : Moment HeldOp) (a : List (Worker HeldOp)) (name number : ℕ) (op : HeldOp) (call : Call)
    (begun : Option ℕ) (b : List (Worker HeldOp))
    (holds : Holds (tree_crew l p free) l p free (with_workers M (a ++ busy name number op call begun ∷ b))) where
  abbrev me : Worker HeldOp
  me = busy name number op call begun

  pool_small : (row : ℕ) → Contains free row → row < 2 ^ 22
  pool_small row has = below row (last_row_of l) (pool_fit l free holds.pool row has).1 (last_small l.kind l.rows holds.accepted.most_row)

  spare_small : IsUnlinked (tree_anatomy l p free) op → AreSmall (hand_at op.at).spare
  spare_small unlinked =
      let own_is : own (tree_anatomy l p free) op ≡ rows_in (hand_at op.at).spare =
      ap (λ c. rows_but (tree_anatomy l p free) c (hand_in (machine_at op.at)).spare) unlinked ∙ ap (λ h. rows_in h.spare) (has_hand op.at) in
      rows_small (hand_at op.at).spare (λ row has. pool_small row
      (owning.own_row (λ v. own_in (tree_anatomy l p free) v.doing) free M.state.counter holds.given a me b row (owning.lower free holds.pool.rising)
      holds.rows.dealt (subst (λ rows. Contains rows row) (sym own_is) has)).pool)

  pub hand_fits : (told : ℕ) → IsUnlinked (tree_anatomy l p free) op → FitsLink (hand_at (after_at p free op.at told))
  hand_fits told unlinked =
      let spare = (hand_at (after_at p free op.at told)).spare in
      let small : AreSmall spare = after_small p free pool_small op.at told (spare_small unlinked) in
      record { leaf = first_small spare small; inner = second_small spare small }

pub hands_fit : HandsFit
hands_fit l p free M a name number op call begun b told holds = hand_fits l p free M a name number op call begun b holds told
