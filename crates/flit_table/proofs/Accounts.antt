-- The account of a name, as more is settled and more is made.
use Rattle.std.proofs.Common.{◌≡◌, ◌≢◌, ◌⊎◌, inl, inr, ℕ, suc, ◌<◌, ◌≤◌, eqb, Bool, true, false, cond, List, [], ◌∷◌, ◌++◌, filter, refl, sym, ◌∙◌, ap, subst, arith, Option, Some, append_assoc, append-nil, ne_eqb}
use Rattle.std.proofs.lemmas.Bool.{false≢true, eqb-true, eq-eqb}
use Rattle.std.proofs.lemmas.List.Elements.{filter-append}
use Rattle.std.specs.List.{AllByRecursion}
use Rattle.std.specs.FinMap as fin
use Rattle.flit_model.specs.Histories.{is_update}
use Rattle.flit_model.specs.Settling.{Progress}
use Rattle.flit_model.specs.declared.calls.Entry.{Entry}
use Rattle.flit_structure.specs.declared.workers.Worker.{Worker}
use Rattle.flit_structure.specs.Moments.{Moment, update_of, busy, IsAmong}
use Rattle.flit_structure.specs.Meanings.{Meaning}
use Rattle.flit_structure.specs.Lawful.{Lawful, StandsFrom, IsUnderWay}
use Rattle.flit_structure.proofs.Names.{all_both, all_map, same_worker}
use Rattle.flit_structure.proofs.Ahead.{settled_below}
use Rattle.flit_table.specs.declared.views.Made.{Made}
use Rattle.flit_table.specs.declared.views.Made.TheVariants.{Answered, Evicted}
use Rattle.flit_table.specs.Views.{answered, updates_in, entries_of}
use Rattle.flit_table.specs.Rule.{next_number, Account}
use Rattle.flit_table.specs.Orders.{IsOneMore}

pub entries-append : (name : ℕ) (xs ys : List Entry) → entries_of name (xs ++ ys) ≡ entries_of name xs ++ entries_of name ys
entries-append name xs ys = filter-append (λ e. eqb e.worker name) xs ys

pub entries_own : (name : ℕ) (e : Entry) → e.worker ≡ name → entries_of name (e ∷ []) ≡ e ∷ []
entries_own name e h = ap (λ (b : Bool). cond b (e ∷ []) []) (eq-eqb e.worker name h)

pub entries_other : (name : ℕ) (e : Entry) → e.worker ≢ name → entries_of name (e ∷ []) ≡ []
entries_other name e h = ap (λ (b : Bool). cond b (e ∷ []) []) (ne_eqb e.worker name h)

-- an entry of a name stands among all
pub entry_stands : (name : ℕ) (es : List Entry) (x : Entry) (front back : List Entry) → entries_of name es ≡ front ++ x ∷ back → StandsFrom 0 es x
entry_stands name [] x [] back h = absurd (cc)
entry_stands name [] x (y ∷ front) back h = absurd (cc)
entry_stands name (e ∷ es) x front back h = by_test (λ f q. entry_stands name es x f back q) (eqb e.worker name) front h
  where
    on : StandsFrom 0 es x → StandsFrom 0 (e ∷ es) x
    on s = (e ∷ s.0, s.1, ap (λ zs. e ∷ zs) s.2, omega arith)

    by_test : ((f : List Entry) → entries_of name es ≡ f ++ x ∷ back → StandsFrom 0 es x) → (b : Bool) (f : List Entry) →
        cond b (e ∷ entries_of name es) (entries_of name es) ≡ f ++ x ∷ back → StandsFrom 0 (e ∷ es) x
    by_test rest false f q = on (rest f q)
    by_test rest true [] q = let same : e ≡ x = cc in ([], es, ap (λ z. z ∷ es) same, omega arith)
    by_test rest true (y ∷ f) q = let tail : entries_of name es ≡ f ++ x ∷ back = cc in on (rest f tail)

-- what one event settles: nothing, or one update that waited
abbrev pub AddsOne : Progress → List Entry → Type 0
AddsOne p more = (more ≡ []) ⊎ ((word : ℕ) × (x : Entry) × (fin.get p.waiting word ≡ Some x) × (more ≡ x ∷ []))

module _ {Op : Type 0} (meaning : Meaning Op) (laws : Lawful meaning) (M : Moment Op) (holds : meaning.holds M) where
  -- an update that waited joins the account of its own name
  joins : (mine : List Made) (word : ℕ) (x : Entry) → fin.get M.progress.waiting word ≡ Some x →
      (name number : ℕ) (op : Op) (call : _) (begun : Option ℕ) → x ≡ update_of name number call →
      Account M.progress.settled mine (busy name number op call begun) → Account (M.progress.settled ++ x ∷ []) mine (busy name number op call begun)
  joins mine word x waits name number op call begun is a = by_more a.more a.is a.one
    where
      whole : (more : List Entry) → entries_of name M.progress.settled ≡ entries_of name (updates_in mine) ++ more →
          entries_of name (M.progress.settled ++ x ∷ []) ≡ entries_of name (updates_in mine) ++ (more ++ x ∷ [])
      whole more e =
          entries-append name M.progress.settled (x ∷ [])
          ∙ ap (λ zs. entries_of name M.progress.settled ++ zs) (entries_own name x (ap (λ z. z.worker) is))
          ∙ ap (λ zs. zs ++ x ∷ []) e ∙ append_assoc (entries_of name (updates_in mine)) more (x ∷ [])

      twice : (e : Entry) → entries_of name M.progress.settled ≡ entries_of name (updates_in mine) ++ e ∷ [] → e ≡ update_of name number call → ⊥
      twice e q same =
          let k : StandsFrom 0 M.progress.settled x = subst (λ z. StandsFrom 0 M.progress.settled z) (same ∙ sym is)
          (entry_stands name M.progress.settled e (entries_of name (updates_in mine)) [] q) in
          let below : suc x.number ≤ x.number = settled_below M.progress k.0 k.1 x word x k.2 waits refl ((laws.entries M holds).rises x.worker) in
          omega arith

      by_more : (more : List Entry) → entries_of name M.progress.settled ≡ entries_of name (updates_in mine) ++ more →
          IsOneMore (busy name number op call begun) more →
          Account (M.progress.settled ++ x ∷ []) mine (busy name number op call begun)
      by_more [] e one = record { more = x ∷ []; is = whole [] e; one = is; below = a.below }
      by_more (d ∷ []) e one = absurd (twice d e one)
      by_more (d ∷ (f ∷ fs)) e one = absurd one

  pub account_grows : (mine : List Made) (more : List Entry) (u : Worker Op) → AddsOne M.progress more → IsAmong M.workers u →
      Account M.progress.settled mine u → Account (M.progress.settled ++ more) mine u
  account_grows mine more u (inl none) among a = subst (λ es. Account es mine u) (sym (append-nil M.progress.settled)
      ∙ ap (λ zs. M.progress.settled ++ zs) (sym none)) a
  account_grows mine more u (inr (word, x, waits, is)) among a =
      subst (λ zs. Account (M.progress.settled ++ zs) mine u) (sym is) (by_test (eqb x.worker u.name) refl)
    where
      under : IsUnderWay M.workers x
      under = (laws.waits M word x holds waits).1

      own : x.worker ≡ u.name → Account (M.progress.settled ++ x ∷ []) mine u
      own same =
          let name = under.0 in
          let it : Worker Op = busy under.0 under.1 under.2 under.3 under.4 in
          let k : it ≡ u = same_worker M.workers under.5.0 under.5.1 among.0 among.1 it u under.5.2 among.2 (laws.named M holds).different
          (sym (ap (λ z. z.worker) under.6) ∙ same) in
          subst (λ w. Account (M.progress.settled ++ x ∷ []) mine w) k
          (joins mine word x waits under.0 under.1 under.2 under.3 under.4 under.6 (subst (λ w. Account M.progress.settled mine w) (sym k) a))

      by_test : (b : Bool) → eqb x.worker u.name ≡ b → Account (M.progress.settled ++ x ∷ []) mine u
      by_test true q = own (eqb-true x.worker u.name q)
      by_test false q = record {
        more = a.more;
        is = entries-append u.name M.progress.settled (x ∷ [])
            ∙ ap (λ zs. entries_of u.name M.progress.settled ++ zs) (entries_other u.name x (λ r. false≢true (sym q ∙ eq-eqb x.worker u.name r)))
            ∙ append-nil (entries_of u.name M.progress.settled) ∙ a.is;
        one = a.one;
        below = a.below;
      }

-- ---- more is made

pub answered-append : (xs ys : List Made) → answered (xs ++ ys) ≡ answered xs ++ answered ys
answered-append [] ys = refl
answered-append (Answered e ∷ xs) ys = ap (λ zs. e ∷ zs) (answered-append xs ys)
answered-append (Evicted name word ∷ xs) ys = answered-append xs ys

pub updates-append : (xs ys : List Made) → updates_in (xs ++ ys) ≡ updates_in xs ++ updates_in ys
updates-append xs ys = ap (filter is_update) (answered-append xs ys) ∙ filter-append is_update (answered xs) (answered ys)

pub entries_updates : (name : ℕ) (xs ys : List Made) → entries_of name (updates_in (xs ++ ys)) ≡ entries_of name (updates_in xs) ++ entries_of name (updates_in ys)
entries_updates name xs ys = ap (entries_of name) (updates-append xs ys) ∙ entries-append name (updates_in xs) (updates_in ys)

-- no entry of the name is among these
abbrev pub NoneOf : ℕ → List Entry → Type 0
NoneOf name es = AllByRecursion (λ e. e.worker ≢ name) es

pub filter_none : (name : ℕ) (es : List Entry) → NoneOf name es → entries_of name es ≡ []
filter_none name [] h = refl
filter_none name (e ∷ es) h = ap (λ b. cond b (e ∷ entries_of name es) (entries_of name es)) (ne_eqb e.worker name h.0) ∙ filter_none name es h.1

pub filter_all : {X : Type 0} (P : X → Type 0) (p : X → Bool) (xs : List X) → AllByRecursion P xs → AllByRecursion P (filter p xs)
filter_all P p [] h = tt
filter_all P p (x ∷ xs) h = by_test (p x) (filter_all P p xs h.1)
  where
    by_test : (b : Bool) → AllByRecursion P (filter p xs) → AllByRecursion P (cond b (x ∷ filter p xs) (filter p xs))
    by_test true k = (h.0, k)
    by_test false k = k

pub none_updates : (name : ℕ) (xs : List Made) → NoneOf name (answered xs) → entries_of name (updates_in xs) ≡ []
none_updates name xs h = filter_none name (updates_in xs) (filter_all (λ e. e.worker ≢ name) is_update (answered xs) h)

module _ {Op : Type 0} (settled : List Entry) (u : Worker Op) where
  none_below : (es : List Entry) → NoneOf u.name es → AllByRecursion (λ e. e.worker ≡ u.name → e.number < next_number u.number u.doing) es
  none_below es h = all_map (λ e. e.worker ≢ u.name) (λ e. e.worker ≡ u.name → e.number < next_number u.number u.doing) (λ e n q. absurd (n q)) es h

  -- items of other names are added, behind or before
  pub account_behind : (mine items : List Made) → NoneOf u.name (answered items) → Account settled mine u → Account settled (mine ++ items) u
  account_behind mine items none a = record {
    more = a.more;
    is = a.is ∙ ap (λ zs. zs ++ a.more) (sym (entries_updates u.name mine items
        ∙ ap (λ zs. entries_of u.name (updates_in mine) ++ zs) (none_updates u.name items none) ∙ append-nil (entries_of u.name (updates_in mine))));
    one = a.one;
    below = subst (AllByRecursion (λ e. e.worker ≡ u.name → e.number < next_number u.number u.doing)) (sym (answered-append mine items))
        (all_both (λ e. e.worker ≡ u.name → e.number < next_number u.number u.doing) (answered mine) (answered items) a.below
        (none_below (answered items) none));
  }

  pub account_before : (items mine : List Made) → NoneOf u.name (answered items) → Account settled mine u → Account settled (items ++ mine) u
  account_before items mine none a = record {
    more = a.more;
    is = a.is ∙ ap (λ zs. zs ++ a.more) (sym (entries_updates u.name items mine
        ∙ ap (λ zs. zs ++ entries_of u.name (updates_in mine)) (none_updates u.name items none)));
    one = a.one;
    below = subst (AllByRecursion (λ e. e.worker ≡ u.name → e.number < next_number u.number u.doing)) (sym (answered-append items mine))
        (all_both (λ e. e.worker ≡ u.name → e.number < next_number u.number u.doing) (answered items) (answered mine) (none_below (answered items) none)
        a.below);
  }

  -- a name that has made nothing has an account without items
  pub account_alone : (mine : List Made) → NoneOf u.name (answered mine) → Account settled mine u → Account settled [] u
  account_alone mine none a = record {
    more = a.more;
    is = a.is ∙ ap (λ zs. zs ++ a.more) (none_updates u.name mine none);
    one = a.one;
    below = tt;
  }
