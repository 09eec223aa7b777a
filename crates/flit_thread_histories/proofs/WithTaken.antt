-- What a name has in a history behind which the updates stand that an image takes.
use Rattle.std.proofs.Common.{◌≡◌, ◌⊎◌, inl, inr, ℕ, suc, ◌<◌, ◌≤◌, eqb, Bool, true, false, cond, List, [], ◌∷◌, ◌++◌, filter, length, map, refl, sym, ◌∙◌, ap, subst, arith, append_assoc}
use Rattle.std.proofs.lemmas.Bool.{eqb-true, eq-eqb}
use Rattle.std.proofs.lemmas.List.{length-append}
use Rattle.std.proofs.lemmas.List.Elements.{filter-append}
use Rattle.std.specs.List.{AllByRecursion}
use Rattle.flit_model.specs.Histories.{is_update, is_read, reads_at, history_from}
use Rattle.flit_model.specs.Settling.{taken_updates}
use Rattle.flit_model.specs.declared.calls.Entry.{Entry}
use Rattle.flit_model.specs.declared.calls.Placed.{Placed}
use Rattle.flit_model.proofs.Elements.{filter-all}
use Rattle.flit_model.proofs.HistoryLaws.{all-reads_at, filter-filter}
use Rattle.flit_structure.specs.declared.workers.Doing.{Doing}
use Rattle.flit_structure.specs.declared.workers.Doing.TheVariants.{Idle, Busy, Evicting}
use Rattle.flit_structure.specs.declared.workers.Worker.{Worker}
use Rattle.flit_structure.specs.Moments.{Moment, IsAmong, made, waiting_updates, busy}
use Rattle.flit_structure.specs.Meanings.{Meaning}
use Rattle.flit_structure.specs.Lawful.{Lawful, IsNamed, IsOfHand, StandsFrom, IsUnfinished}
use Rattle.flit_structure.proofs.Ahead.{settled_below}
use Rattle.flit_structure.proofs.Names.{all_at, all_both, all_left, all_right, all_map, same_worker}
use Rattle.flit_structure.proofs.Taken.{taken_wait, all_taken}
use Rattle.flit_structure.proofs.Waiting.{unfinished}
use Rattle.flit_table.specs.declared.views.Made.{Made}
use Rattle.flit_table.specs.Orders.{entries_in, IsUnderWayIn, IsOneMore, StandInOrder}
use Rattle.flit_table.specs.Rule.{next_number}
use Rattle.flit_table.specs.Views.{answered, reads_in, entries_of}
use Rattle.flit_table.proofs.Accounts.{entries-append, filter_all}
use Rattle.flit_histories.specs.Calls.{is_of}
use Rattle.flit_histories.proofs.OneEach.{made_once}

-- what is true of all updates and of all reads is true of each entry of a history
pub all_history : (P : Entry → Type 0) (n : ℕ) (us : List Entry) (reads : List Placed) → AllByRecursion P us → AllByRecursion (λ r. P r.entry) reads →
    AllByRecursion P (history_from n us reads)
all_history P n [] reads h k = all-reads_at P n reads (all_map (λ r. P r.entry) (λ r. r.position ≡ n → P r.entry) (λ r p e. p) reads k)
all_history P n (u ∷ us) reads h k =
    all_both P (reads_at n reads) (u ∷ history_from (suc n) us reads)
    (all-reads_at P n reads (all_map (λ r. P r.entry) (λ r. r.position ≡ n → P r.entry) (λ r p e. p) reads k))
    (h.0, all_history P (suc n) us reads h.1 k)

pub all_entries : (P : Entry → Type 0) (reads : List Placed) → AllByRecursion P (map (λ r. r.entry) reads) → AllByRecursion (λ r. P r.entry) reads
all_entries P [] h = tt
all_entries P (r ∷ rs) h = (h.0, all_entries P rs h.1)

all_named : (name : ℕ) (es : List Entry) → AllByRecursion (λ e. e.worker ≡ name) (entries_of name es)
all_named name [] = tt
all_named name (e ∷ es) = by_test (eqb e.worker name) refl (all_named name es)
  where
    by_test : (b : Bool) → eqb e.worker name ≡ b → AllByRecursion (λ d. d.worker ≡ name) (entries_of name es) →
        AllByRecursion (λ d. d.worker ≡ name) (cond b (e ∷ entries_of name es) (entries_of name es))
    by_test true is rest = (eqb-true e.worker name is, rest)
    by_test false is rest = rest

-- each of a list, with what stands before and behind it
standing : (front back : List Entry) → AllByRecursion (StandsFrom 0 (front ++ back)) back
standing front [] = tt
standing front (e ∷ back) = (
  (front, back, refl, omega arith),
  subst (λ l. AllByRecursion (StandsFrom 0 l) back) (append_assoc front (e ∷ []) back) (standing (front ++ e ∷ []) back),
)

module _ {Op : Type 0} where
  under_way_is : (name number : ℕ) (doing : Doing Op) (e : Entry) → IsUnderWayIn name number doing e → (e.worker ≡ name) × (e.number ≡ number)
  under_way_is name number (Idle hand) e h = absurd h
  under_way_is name number (Busy op call begun) e h = (ap (λ z. z.worker) h, ap (λ z. z.number) h)
  under_way_is name number (Evicting evict) e h = absurd h

  -- the calls that a name has finished have lower numbers than the one under way
  under_way_next : (number : ℕ) (name : ℕ) (doing : Doing Op) (e : Entry) → IsUnderWayIn name number doing e → next_number number doing ≡ number
  under_way_next number name (Idle hand) e h = absurd h
  under_way_next number name (Busy op call begun) e h = refl
  under_way_next number name (Evicting evict) e h = absurd h

  -- the entries of a worker's name in a history are its completed calls, and at most one more, an update of its call under
  -- way
  pub record StandsWith (history : List Entry) (mine : List Made) (u : Worker Op) : Type 0 where
    pub more : List Entry
    pub is : entries_of u.name history ≡ entries_of u.name (entries_in mine) ++ more
    pub one : IsOneMore u more
    pub updates : AllByRecursion (λ e. is_update e ≡ true) more

module _ {Op : Type 0} (meaning : Meaning Op) (laws : Lawful meaning) (M : Moment Op) (holds : meaning.holds M) (picks : ℕ → Bool) where
  abbrev settled : List Entry
  settled = M.progress.settled

  abbrev taken : List Entry
  taken = taken_updates M.progress picks

  -- all settled updates are updates, and those that are taken; and of a name of the layout
  pub settled_updates : AllByRecursion (λ e. is_update e ≡ true) settled
  settled_updates = all_left (λ e. is_update e ≡ true) settled (waiting_updates M.progress) (laws.entries M holds).updates

  pub taken_are_updates : AllByRecursion (λ e. is_update e ≡ true) taken
  taken_are_updates = all_taken (λ e. is_update e ≡ true) M.progress picks
      (all_right (λ e. is_update e ≡ true) settled (waiting_updates M.progress) (laws.entries M holds).updates)

  abbrev pub IsOfName : Entry → Type 0
  IsOfName e = (1 ≤ e.worker) × (e.worker ≤ meaning.layout.workers)

  of_hand : (e : Entry) → IsOfHand M.workers e → IsOfName e
  of_hand e h =
      let is = all_at (IsNamed meaning) h.1.0 h.1.1 h.0 (subst (AllByRecursion (IsNamed meaning)) h.1.2 (laws.named M holds).each) in
      (subst (λ n. 1 ≤ n) h.2 is.least, subst (λ n. n ≤ meaning.layout.workers) h.2 is.most)

  names_made : AllByRecursion IsOfName (made M.progress)
  names_made = all_map (IsOfHand M.workers) IsOfName of_hand (made M.progress) (laws.entries M holds).numbered

  pub settled_names : AllByRecursion IsOfName settled
  settled_names = all_left IsOfName settled (waiting_updates M.progress) names_made

  pub taken_names : AllByRecursion IsOfName taken
  taken_names = all_taken IsOfName M.progress picks (all_right IsOfName settled (waiting_updates M.progress) names_made)

  module _ (u : Worker Op) (among : IsAmong M.workers u) where
    -- an update that is taken, of the worker's name, is of its call under way; and settled ones of the name are of earlier
    -- calls
    record IsLater (x : Entry) : Type 0 where
      of_call : IsUnderWayIn u.name u.number u.doing x
      above : (e : Entry) → StandsFrom 0 settled e → x.worker ≡ e.worker → suc e.number ≤ x.number

    of_worker : (x : Entry) → IsUnfinished meaning M.workers x → x.worker ≡ u.name → IsUnderWayIn u.name u.number u.doing x
    of_worker x f same =
        let it : Worker Op = busy f.0 f.1 f.2 f.3 f.4 in
        let is : it ≡ u = same_worker M.workers f.5.0 f.5.1 among.0 among.1 it u f.5.2 among.2 (laws.named M holds).different
        (sym (ap (λ z. z.worker) f.6) ∙ same) in
        subst (λ (w : Worker Op). IsUnderWayIn w.name w.number w.doing x) is f.6

    later_taken : AllByRecursion (λ x. x.worker ≡ u.name → IsLater x) taken
    later_taken = all_map _ (λ x. x.worker ≡ u.name → IsLater x)
        (λ x w same. record {
          of_call = of_worker x (unfinished meaning laws M holds w.0 x w.2) same;
          above = λ e s names. settled_below M.progress s.0 s.1 e w.0 x s.2 w.2 names ((laws.entries M holds).rises e.worker);
        })
        taken (taken_wait M.progress picks)

    abbrev own : List Entry
    own = entries_of u.name taken

    all_own : (es : List Entry) → AllByRecursion (λ x. x.worker ≡ u.name → IsLater x) es → AllByRecursion (λ x. x.worker ≡ u.name) es → AllByRecursion IsLater es
    all_own [] h k = tt
    all_own (e ∷ es) h k = (h.0 k.0, all_own es h.1 k.1)

    own_later : AllByRecursion IsLater own
    own_later = all_own own (filter_all (λ x. x.worker ≡ u.name → IsLater x) (λ e. eqb e.worker u.name) taken later_taken) (all_named u.name taken)

    own_updates : AllByRecursion (λ e. is_update e ≡ true) own
    own_updates = filter_all (λ e. is_update e ≡ true) (λ e. eqb e.worker u.name) taken taken_are_updates

    -- there is at most one
    own_once : length own ≤ 1
    own_once =
        let numbered : AllByRecursion (λ e. eqb e.number u.number ≡ true) own = all_map IsLater (λ e. eqb e.number u.number ≡ true)
        (λ e k. eq-eqb e.number u.number (under_way_is u.name u.number u.doing e k.of_call).1) own own_later in
        let same : filter (is_of u.name u.number) taken ≡ own = sym (filter-filter (λ e. eqb e.number u.number) (λ e. eqb e.worker u.name) taken)
        ∙ filter-all (λ e. eqb e.number u.number) own numbered in
        let most = made_once meaning laws M holds u.name u.number picks in
        let parts = ap length (filter-append (is_of u.name u.number) settled taken)
        ∙ length-append (filter (is_of u.name u.number) settled) (filter (is_of u.name u.number) taken) in
        omega (arith, most, parts, ap length same)

    module _ (mine : List Made) (reads : List Placed) (are : map (λ r. r.entry) reads ≡ reads_in mine)
        (below : AllByRecursion (λ e. e.worker ≡ u.name → e.number < next_number u.number u.doing) (answered mine)) where
      abbrev history : List Entry
      history = history_from 0 settled reads

      -- an entry of the history is a settled update, or of a call that is over
      abbrev IsEither : Entry → Type 0
      IsEither e = (StandsFrom 0 settled e × (is_update e ≡ true)) ⊎ (e.worker ≡ u.name → e.number < next_number u.number u.doing)

      both_stand : (es : List Entry) → AllByRecursion (StandsFrom 0 settled) es → AllByRecursion (λ e. is_update e ≡ true) es → AllByRecursion IsEither es
      both_stand [] h k = tt
      both_stand (e ∷ es) h k = (inl (h.0, k.0), both_stand es h.1 k.1)

      either : AllByRecursion IsEither history
      either = all_history IsEither 0 settled reads (both_stand settled (standing [] settled) settled_updates)
          (all_entries IsEither reads (subst (AllByRecursion IsEither) (sym are)
          (all_map (λ e. e.worker ≡ u.name → e.number < next_number u.number u.doing) IsEither (λ e k. inr k) (reads_in mine)
          (filter_all (λ e. e.worker ≡ u.name → e.number < next_number u.number u.doing) is_read (answered mine) below))))

      -- the further entry of the name in the history is a settled update
      further_settled : (front : List Entry) (e : Entry) → entries_of u.name history ≡ front ++ e ∷ [] → IsUnderWayIn u.name u.number u.doing e →
          StandsFrom 0 settled e × (is_update e ≡ true)
      further_settled front e is under = by_case (all_at IsEither front [] e (subst (AllByRecursion IsEither) is
          (filter_all IsEither (λ d. eqb d.worker u.name) history either)))
        where
          by_case : IsEither e → StandsFrom 0 settled e × (is_update e ≡ true)
          by_case (inl k) = k
          by_case (inr k) =
              let it = under_way_is u.name u.number u.doing e under in
              let less = k it.0 in
              let next = under_way_next u.number u.name u.doing e under in
              absurd (omega (arith, less, next, it.1))

      abbrev completed : List Entry
      completed = entries_of u.name (entries_in mine)

      joined : (more : List Entry) → entries_of u.name history ≡ completed ++ more → entries_of u.name (history ++ taken) ≡ completed ++ (more ++ own)
      joined more is = entries-append u.name history taken ∙ ap (λ l. l ++ own) is ∙ append_assoc completed more own

      by_own : (more xs : List Entry) → entries_of u.name history ≡ completed ++ more → IsOneMore u more → own ≡ xs → StandsWith (history ++ taken) mine u
      by_own [] [] is one e = record { more = []; is = joined [] is ∙ ap (λ l. completed ++ l) e; one = tt; updates = tt }
      by_own [] (x ∷ []) is one e =
          let later = subst (AllByRecursion IsLater) e own_later in
          record {
            more = x ∷ [];
            is = joined [] is ∙ ap (λ l. completed ++ l) e;
            one = later.0.of_call;
            updates = subst (AllByRecursion (λ d. is_update d ≡ true)) e own_updates;
          }
      by_own more (x ∷ (y ∷ ys)) is one e = let most = own_once in let long = ap length e in absurd (omega (arith, most, long))
      by_own (d ∷ []) [] is one e = record {
        more = d ∷ [];
        is = joined (d ∷ []) is ∙ ap (λ l. completed ++ (d ∷ l)) e;
        one = one;
        updates = ((further_settled completed d is one).1, tt);
      }
      by_own (d ∷ []) (x ∷ []) is one e =
          let later = subst (AllByRecursion IsLater) e own_later in
          let it = under_way_is u.name u.number u.doing x later.0.of_call in
          let was = under_way_is u.name u.number u.doing d one in
          let above = later.0.above d (further_settled completed d is one).0 (it.0 ∙ sym was.0) in
          absurd (omega (arith, above, it.1, was.1))
      by_own (d ∷ (f ∷ fs)) [] is one e = absurd one
      by_own (d ∷ (f ∷ fs)) (x ∷ []) is one e = absurd one

      pub stands_with : StandInOrder history mine u → StandsWith (history ++ taken) mine u
      stands_with s = by_own s.more own s.is s.one refl
