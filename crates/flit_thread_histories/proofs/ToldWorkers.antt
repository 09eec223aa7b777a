-- What is told of each worker, from its End and what stands of its name in the history.
use Rattle.std.proofs.Common.{◌≡◌, ◌≢◌, ℕ, zero, suc, ◌+◌, ◌==◌, ◌||◌, eqb, true, List, [], ◌∷◌, ◌++◌, filter, count_by, replicate, length, refl, sym, ◌∙◌, ap, subst, arith, append-nil}
use Rattle.std.proofs.lemmas.List.Elements.{filter-append}
use Rattle.std.specs.List.{AllByRecursion}
use Rattle.flit_model.specs.Histories.{is_update, is_read}
use Rattle.flit_model.specs.declared.calls.Entry.{Entry}
use Rattle.flit_model.specs.declared.calls.Work.{Work}
use Rattle.flit_model.proofs.Elements.{filter-all}
use Rattle.flit_structure.specs.declared.workers.Worker.{Worker}
use Rattle.flit_structure.specs.Meanings.{Meaning}
use Rattle.flit_structure.proofs.Names.{all_map}
use Rattle.flit_table.specs.declared.told.Known.{Known}
use Rattle.flit_table.specs.declared.views.Made.{Made}
use Rattle.flit_table.specs.declared.views.Made.TheVariants.{Answered, Evicted}
use Rattle.flit_table.specs.Orders.{entries_in, IsUnderWayIn, IsOneMore}
use Rattle.flit_table.specs.Passes.{view_of}
use Rattle.flit_table.specs.Steps.{Home}
use Rattle.flit_table.specs.Views.{name_of, answered, entries_of}
use Rattle.flit_table.proofs.Accounts.{entries-append, answered-append, filter_all, filter_none}
use Rattle.flit_table.proofs.EventCounts.{events_rise}
use Rattle.flit_workers.specs.declared.ends.End.{End}
use Rattle.flit_workers.specs.Ends.{HasEnded}
use Rattle.flit_workers.specs.Works.{EndsAt}
use Rattle.flit_thread_histories.specs.Promises.{events_told, IsUnfinishedUpdate, IsToldOf}
use Rattle.flit_thread_histories.proofs.Parts.{StandsApart, under_own, count_apart}
use Rattle.flit_thread_histories.proofs.WorkerPosts as ends
use Rattle.flit_thread_histories.proofs.WithTaken.{StandsWith}

-- ---- the completed calls of a name among items

entries_in-append : (xs ys : List Made) → entries_in (xs ++ ys) ≡ entries_in xs ++ entries_in ys
entries_in-append xs ys = ap (filter (λ e. is_update e || is_read e)) (answered-append xs ys) ∙ filter-append (λ e. is_update e || is_read e) (answered xs)
    (answered ys)

pub all_answered : (P : ℕ → Type 0) (xs : List Made) → AllByRecursion (λ x. P (name_of x)) xs → AllByRecursion (λ e. P e.worker) (answered xs)
all_answered P [] h = tt
all_answered P (Answered e ∷ xs) h = (h.0, all_answered P xs h.1)
all_answered P (Evicted name word ∷ xs) h = all_answered P xs h.1

none_in : (name : ℕ) (xs : List Made) → AllByRecursion (λ x. name_of x ≢ name) xs → entries_of name (entries_in xs) ≡ []
none_in name xs h = filter_none name (entries_in xs) (filter_all (λ e. e.worker ≢ name) (λ e. is_update e || is_read e) (answered xs)
    (all_answered (λ n. n ≢ name) xs h))

own_in : (name : ℕ) (xs : List Made) → AllByRecursion (λ x. name_of x ≡ name) xs → entries_of name (entries_in xs) ≡ entries_in xs
own_in name xs h = filter-all (λ e. eqb e.worker name) (entries_in xs)
    (all_map (λ e. e.worker ≡ name) (λ e. eqb e.worker name ≡ true) (λ e k. own_name e.worker k) (entries_in xs)
    (filter_all (λ e. e.worker ≡ name) (λ e. is_update e || is_read e) (answered xs) (all_answered (λ n. n ≡ name) xs h)))
  where
    own_name : (n : ℕ) → n ≡ name → eqb n name ≡ true
    own_name n e = grind (arith, e)

in_apart : (name : ℕ) (part all : List Made) → AllByRecursion (λ x. name_of x ≡ name) part → StandsApart name_of name part all →
    entries_of name (entries_in all) ≡ entries_in part
in_apart name part all own s =
    ap (λ l. entries_of name (entries_in l)) s.is ∙ ap (entries_of name) (entries_in-append s.front (part ++ s.back))
    ∙ entries-append name (entries_in s.front) (entries_in (part ++ s.back))
    ∙ ap (λ l. l ++ entries_of name (entries_in (part ++ s.back))) (none_in name s.front s.before)
    ∙ ap (entries_of name) (entries_in-append part s.back) ∙ entries-append name (entries_in part) (entries_in s.back)
    ∙ ap (λ l. entries_of name (entries_in part) ++ l) (none_in name s.back s.behind) ∙ append-nil (entries_of name (entries_in part))
    ∙ own_in name part own

module _ {S Op : Type 0} (meanings : S → Meaning Op) (home : Home S) where
  module _ (n : ℕ) (w : Work) (e : End S Op) (h : HasEnded meanings home n (ends.first meanings home) w e) where
    made : List Made
    made = h.worked.made

    pub made_named : AllByRecursion (λ x. name_of x ≡ suc n) (view_of e.pass).mine
    made_named = subst (AllByRecursion (λ x. name_of x ≡ suc n)) (sym (ends.end_mine meanings home n w e h))
        (all_map (λ x. name_of x ≡ 1 + n) (λ x. name_of x ≡ suc n) (λ x q. omega (arith, q)) h.worked.made h.worked.grows.named)

    pub events_named : AllByRecursion (λ x. x ≡ suc n) (view_of e.pass).events
    events_named = subst (AllByRecursion (λ x. x ≡ suc n)) (sym (ends.end_events meanings home n w e h)) (all_same h.worked.count)
      where
        all_same : (k : ℕ) → AllByRecursion (λ x. x ≡ suc n) (replicate k (suc n))
        all_same zero = tt
        all_same (suc k) = (refl, all_same k)

    events_counted : count_by (λ x. x == suc n) (view_of e.pass).events ≡ h.worked.count
    events_counted =
        let none = ends.first meanings home in
        let rise = events_rise (record none { events = [] }) (view_of e.pass) (suc n) h.worked.count
        (ends.end_events meanings home n w e h ∙ sym (append-nil (replicate h.worked.count (suc n)))) in
        rise ∙ nothing h.worked.count
      where
        nothing : (k : ℕ) → k + 0 ≡ k
        nothing k = omega arith

    -- an update of its call under way is that of the first item that is left
    unfinished_is : (u : Worker Op) → u ≡ (view_of e.pass).post.worker → (more : List Entry) → IsOneMore u more → AllByRecursion (λ x. is_update x ≡ true) more →
        IsUnfinishedUpdate (suc n) (length (answered h.worked.made) + 1) h.worked.rest more
    unfinished_is u is [] one ups = tt
    unfinished_is u is (x ∷ []) one ups = ends.end_first meanings home n w e h x ups.0 (subst (λ (v : Worker Op). IsUnderWayIn v.name v.number v.doing x) is one)
    unfinished_is u is (x ∷ (y ∷ ys)) one ups = absurd one

    pub told_of : (t : Known) (history : List Entry) → StandsApart name_of (suc n) (view_of e.pass).mine t.mine →
        StandsApart (λ x. x) (suc n) (view_of e.pass).events t.events →
        StandsWith history t.mine (view_of e.pass).post.worker → IsToldOf t history (suc n) w e.outcomes.items
    told_of t history apart counted s =
        let name = ends.end_name meanings home n w e h in
        let mine = ends.end_mine meanings home n w e h in
        let count : events_told (suc n) t ≡ h.worked.count = count_apart (suc n) (view_of e.pass).events t.events counted ∙ events_counted in
        let is : entries_of (suc n) history ≡ entries_of (suc n) (entries_in t.mine) ++ s.more =
        subst (λ (k : ℕ). entries_of k history ≡ entries_of k (entries_in t.mine) ++ s.more) name s.is in
        record {
          made = h.worked.made;
          rest = h.worked.rest;
          items = h.worked.front;
          told = under_own name_of (suc n) (view_of e.pass).mine t.mine made_named apart ∙ mine;
          ends = subst (λ k. EndsAt w.stop k h.worked.rest) (sym count) h.worked.ends;
          numbered = h.worked.grows.numbered;
          outcomes_are = h.worked.are;
          more = s.more;
          entries = is ∙ ap (λ l. l ++ s.more) (in_apart (suc n) (view_of e.pass).mine t.mine made_named apart ∙ ap entries_in mine);
          unfinished = unfinished_is (view_of e.pass).post.worker refl s.more s.one s.updates;
        }
