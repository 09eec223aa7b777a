-- A word of an own row is stored, which nobody sees but its worker.
use Rattle.std.proofs.Common.{◌≡◌, ◌≢◌, ℕ, ◌+◌, ◌-◌, ◌*◌, ◌<◌, ◌≤◌, true, List, [], ◌∷◌, length, slice_set, Option, Some, None, Contains, ⊎_elim, refl, sym, ◌∙◌, ap, subst, arith}
use Rattle.std.proofs.lemmas.List.{length-set, get_or-set_other}
use Rattle.std.proofs.lemmas.Option.{none-some}
use Rattle.flit_words.specs.declared.layouts.Layout.{Layout}
use Rattle.flit_words.specs.Layouts.{last_row_of, row_word_of, value_word_of}
use Rattle.flit_words.specs.Words.{value_of}
use Rattle.flit_model.specs.Lists.{next_word}
use Rattle.flit_model.specs.declared.calls.Call.{Call}
use Rattle.flit_model.specs.declared.calls.Reply.{Reply}
use Rattle.flit_model.proofs.Elements.{all_contained}
use Rattle.flit_model.proofs.Membership.{contains_none, contains_cases}
use Rattle.flit_place.specs.Tags.{Place}
use Rattle.flit_pv.specs.Stores.{HeldStore, store_taken}
use Rattle.flit_rows.specs.Shares.{rows_in}
use Rattle.flit_crew.specs.Machines.{machine_takes}
use Rattle.flit_crew.specs.Heaps.{at_word, stored, IsOpen, IsShut, IsMine, IsWordOf, AreAlike}
use Rattle.flit_crew.specs.Anatomies.{own}
use Rattle.flit_crew.specs.Crews.{Who}
use Rattle.flit_list_steps.specs.declared.operations.Path.{Path}
use Rattle.flit_list_steps.specs.Steps.{own_row}
use Rattle.flit_list_steps.specs.Operations.{At, Head, Next, Key, Confirming, Help, Row, Words, RowValue, Link, Mark, Tidy, Value, Ends, Rests, HeldOp}
use Rattle.flit_list_heap.specs.Keeping.{ListHeap, Kept, Later}
use Rattle.flit_list_heap.proofs.Places.{last-row, next-place, key-place, value-place, pool_from}
use Rattle.flit_list_heap.proofs.Blinding.{kept_blind, later_blind}
use Rattle.flit_list_laws.specs.Walks.{Loaded, Walk}
use Rattle.flit_list_laws.specs.Knowing.{KnowsValue}
use Rattle.flit_list_laws.specs.ListAnatomy.{machine_at, with_machine_at, storing_at, list_anatomy}
use Rattle.flit_list_laws.specs.ListCrew.{KnowsAt}
use Rattle.flit_list_laws.proofs.Lasting as lasting
use Rattle.flit_list_laws.proofs.Going.{steady_at}

module _ (l : Layout) (p : Place) (free : List ℕ) (h : ListHeap) (kept : Kept l free h) (me : Who) (early : me.first ≤ length h.progress.settled) (w to : ℕ)
    (shut : IsShut l free h w) (call : Call) (reply : Reply) (path : Path) (walk : Walk) (n : Loaded) where
  abbrev k : ListHeap
  k = stored h w to

  other_word : (v : ℕ) → v ≢ w → at_word k v ≡ at_word h v
  other_word v ne = get_or-set_other h.words w v to 0 ne

  alike : AreAlike l free h k
  alike = record {
    opening = refl;
    progress = refl;
    given = refl;
    ghost = refl;
    words = λ v o. other_word v (λ e. shut.unlinked (o.given shut.row shut.pool (subst (λ x. IsWordOf l shut.row x) (sym e) shut.word)));
    shadows = λ v o. refl;
    number = length-set h.words w to;
    shadows_number = refl;
    untagged = λ v lt. kept.untagged v (subst (λ m. v < m) kept.shadows lt);
  }

  kept_now : Kept l free k
  kept_now = kept_blind l free h k kept alike

  later_now : Later l None h k
  later_now = later_blind l free h k kept alike None

  nobody : None ≢ Some me.name
  nobody e = none-some me.name e

  nothing : 0 ≤ w → w < 0 + 0 → ⊥
  nothing a b = omega (arith, a, b)

  row_least : 1 ≤ shut.row
  row_least = all_contained (λ q. 1 ≤ q) free shut.row (pool_from free kept.pool.rising) shut.pool

  row_most : shut.row ≤ l.rows
  row_most = subst (λ m. shut.row ≤ m) (last-row l kept.chained.kind) (all_contained (λ q. q ≤ last_row_of l) free shut.row kept.pool.fit shut.pool)

  key_apart : (b n r o v x k : ℕ) → 1 ≤ r → r ≤ n → k ≡ b + 2 * (r - 1) → x ≡ b + 2 * n + (o - 1) → x ≤ v → k ≢ v
  key_apart b n r o v x k i j e f g q = absurd (omega (arith, i, j, e, f, g, q))

  next_apart : (b n r o v x k : ℕ) → 1 ≤ r → r ≤ n → k ≡ b + 2 * (r - 1) + 1 → x ≡ b + 2 * n + (o - 1) → x ≤ v → k ≢ v
  next_apart b n r o v x k i j e f g q = absurd (omega (arith, i, j, e, f, g, q))

  value_stored : (m : HeldStore) → Contains (rows_in m.hand.spare) shut.row → (o : ℕ) → value_word_of l o ≤ w → KnowsValue l h me walk m →
      KnowsValue l k me walk m
  value_stored m mine o a f =
      let row : f.row ≡ shut.row = ⊎_elim (λ e. e) (λ c. absurd (contains_none shut.row c))
      (contains_cases f.row [] shut.row (subst (λ rows. Contains rows shut.row) f.own mine)) in
      let least : 1 ≤ f.row = subst (λ r. 1 ≤ r) (sym row) row_least in
      let most : f.row ≤ l.rows = subst (λ r. r ≤ l.rows) (sym row) row_most in record {
        sure = lasting.sure_lasts l free h k None me kept_now later_now nobody early walk f.sure;
        passed = lasting.passed_lasts l free h k None me kept_now later_now nobody early walk f.sure.stands f.passed;
        insert = f.insert;
        valued = f.valued;
        row = f.row;
        own = f.own;
        key = ap value_of (other_word (row_word_of l f.row 0) (key_apart l.buckets l.rows f.row o w (value_word_of l o) (row_word_of l f.row 0) least most
            (key-place l kept.chained.kind f.row) (value-place l kept.chained.kind o) a)) ∙ f.key;
        next = ap value_of (other_word (next_word l f.row) (next_apart l.buckets l.rows f.row o w (value_word_of l o) (next_word l f.row) least most
            (next-place l kept.chained.kind f.row) (value-place l kept.chained.kind o) a)) ∙ f.next;
        private = f.private;
      }

  pub stored_at : (at : At) (told : ℕ) → Contains (own (list_anatomy l p free) (record { call = call; reply = reply; path = path; at = at })) shut.row →
      (storing_at l call path at).first ≤ w → w < (storing_at l call path at).first + length (storing_at l call path at).values →
      KnowsAt l h me reply path walk n at → KnowsAt l k me reply path walk n (with_machine_at at (machine_takes p free (machine_at at) told))
  stored_at (Head m) told mine a b f = absurd (nothing a b)
  stored_at (Next m) told mine a b f = absurd (nothing a b)
  stored_at (Key m) told mine a b f = absurd (nothing a b)
  stored_at (Confirming goal which m) told mine a b f = absurd (nothing a b)
  stored_at (Help m) told mine a b f = absurd (nothing a b)
  stored_at (Row m) told mine a b f = absurd (nothing a b)
  stored_at (Words m) told mine a b f =
      let g = steady_at l p free h me reply path walk n (Words m) told refl f in
      (g.0, lasting.knows_words l free h k None me kept_now later_now nobody early walk (store_taken m told) g.1)
  stored_at (RowValue m) told mine a b f =
      let g = steady_at l p free h me reply path walk n (RowValue m) told refl f in (
        g.0,
        value_stored (store_taken m told)
            (subst (λ rows. Contains (rows_in rows) shut.row) (sym (Rattle.flit_pv.proofs.OneEvent.store_goes_further m told).spare) mine) (own_row m.hand) a g.1,
      )
  stored_at (Link m) told mine a b f = absurd (nothing a b)
  stored_at (Mark m) told mine a b f = absurd (nothing a b)
  stored_at (Tidy m) told mine a b f = absurd (nothing a b)
  stored_at (Value m) told mine a b f = absurd (nothing a b)
  stored_at (Ends m) told mine a b f = absurd (nothing a b)
  stored_at (Rests hand) told mine a b f = absurd (nothing a b)
