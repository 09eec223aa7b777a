-- What happens to others leaves a worker where it is, and takes nothing from what it is allowed.
use Rattle.std.proofs.Common.{◌≡◌, ◌≢◌, ◌⊎◌, inl, inr, ⊎_elim, ℕ, ◌≤◌, List, [], ◌∷◌, ◌++◌, count_by, Option, Some, None, refl, sym, ◌∙◌, ap, subst, arith}
use Rattle.flit_words.specs.declared.layouts.Layout.{Layout}
use Rattle.flit_model.specs.CrashImages.{write_back}
use Rattle.flit_model.specs.declared.calls.Call.{Call}
use Rattle.flit_model.specs.declared.calls.Entry.{Entry}
use Rattle.flit_place.specs.Tags.{Place}
use Rattle.flit_structure.specs.declared.workers.Worker.{Worker}
use Rattle.flit_structure.specs.Moments.{Moment, IsAmong, with_workers, busy, made}
use Rattle.flit_structure.specs.Meanings.{Meaning, first_at, Happens, hiring, reordering, beginning, finishing, evicting, evicted, making, writing_back}
use Rattle.flit_crew.specs.Heaps.{heap_of}
use Rattle.flit_crew.specs.Accounts.{IsAny}
use Rattle.flit_crew.specs.Crews.{Crew, Who, Holds, IsBusy, who_of}
use Rattle.flit_crew.specs.CrewMeanings.{Bounds, crew_meaning}
use Rattle.flit_crew.specs.Obligations.{Keeps}
use Rattle.flit_crew.proofs.Acting.{Split}
use Rattle.flit_crew.proofs.Moving.{mine}
use Rattle.flit_crew.proofs.Updating.{any_left, any_right, any_put, any_at}
use Rattle.flit_crew_bounds.specs.Bounding.{Passes, OthersEvent, Limits, AreTriesKept, IsWithin, view_at}
use Rattle.flit_crew_bounds.proofs.Progressing.{event_grows, passes_then}
use Rattle.flit_crew_bounds.proofs.OwnEvents.{few_inserts}

-- ---- one among workers

module _ {X : Type 0} (P : X → Type 0) where
  any_cases : (xs ys : List X) → IsAny P (xs ++ ys) → IsAny P xs ⊎ IsAny P ys
  any_cases [] ys h = inr h
  any_cases (x ∷ xs) ys (inl k) = inl (inl k)
  any_cases (x ∷ xs) ys (inr k) = ⊎_elim (λ m. inl (inr m)) (λ m. inr m) (any_cases xs ys k)

  any_swap : (a x y b : List X) → IsAny P (a ++ (x ++ (y ++ b))) → IsAny P (a ++ (y ++ (x ++ b)))
  any_swap a x y b h = ⊎_elim (λ k. any_left P a (y ++ (x ++ b)) k) (λ k. any_right P a (y ++ (x ++ b)) (⊎_elim
      (λ m. any_right P y (x ++ b) (any_left P x b m))
      (λ m. ⊎_elim (λ n. any_left P y (x ++ b) n) (λ n. any_right P y (x ++ b) (any_right P x b n)) (any_cases y b m))
      (any_cases x (y ++ b) k))) (any_cases a (x ++ (y ++ b)) h)

module _ {Op : Type 0} (u : Worker Op) where
  abbrev Is : Worker Op → Type 0
  Is v = u ≡ v

  to_any : (us : List (Worker Op)) → IsAmong us u → IsAny Is us
  to_any us k = subst (IsAny Is) (sym k.2) (any_at Is k.0 k.1 u refl)

  from_any : (us : List (Worker Op)) → IsAny Is us → IsAmong us u
  from_any [] k = absurd k
  from_any (v ∷ us) (inl e) = ([], us, ap (λ x. x ∷ us) (sym e))
  from_any (v ∷ us) (inr k) = let r = from_any us k in (v ∷ r.0, r.1, ap (λ xs. v ∷ xs) r.2)

  -- another one is replaced
  among_put : (a b : List (Worker Op)) (x y : Worker Op) → Some x.name ≢ Some u.name → IsAmong (a ++ x ∷ b) u → IsAmong (a ++ y ∷ b) u
  among_put a b x y other k = from_any (a ++ y ∷ b) (any_put Is a b x y (λ e. absurd (other (ap (λ v. Some v.name) (sym e)))) (to_any (a ++ x ∷ b) k))

  pub among_then : (meaning : Meaning Op) (who : Option ℕ) (M N : Moment Op) → Happens meaning who M N → who ≢ Some u.name → IsAmong M.workers u →
      IsAmong N.workers u
  among_then meaning _ _ _ (hiring M name least most new) other k = from_any _ (inr (to_any M.workers k))
  among_then meaning _ _ _ (reordering M a x y b) other k = from_any (a ++ (y ++ (x ++ b))) (any_swap Is a x y b (to_any (a ++ (x ++ (y ++ b))) k))
  among_then meaning _ _ _ (beginning M a name number hand call b may) other k = among_put a b _ _ other k
  among_then meaning _ _ _ (finishing M a name number op call begun reply b replied) other k = among_put a b _ _ other k
  among_then meaning _ _ _ (evicting M a name number hand word b below) other k = among_put a b _ _ other k
  among_then meaning _ _ _ (evicted M a name number evict b) other k = among_put a b _ _ other k
  among_then meaning _ _ _ (making M a v b e q) other k = among_put a b v _ other k
  among_then meaning _ _ _ (writing_back M word below) other k = k

-- ---- what happens

module _ {G Op : Type 0} (c : Crew G Op) (l : Layout) (p : Place) (free : List ℕ) (bounds : Bounds Op) (keeps : Keeps c l p free) where
  abbrev meaning : Meaning Op
  meaning = crew_meaning c l p free bounds

  same_le : (n : ℕ) → n ≤ n
  same_le n = omega arith

  pub all_pass : (who : Option ℕ) (M N : Moment Op) → Happens meaning who M N → Holds c l p free M → (given rows : List ℕ) (ghost after : G) →
      Passes (heap_of M given ghost) (heap_of N rows after)
  all_pass _ _ _ (hiring M name least most new) h given rows ghost after =
      record { opening = refl; words = λ w. inl refl; made = λ P. same_le (count_by P (made M.progress)) }
  all_pass _ _ _ (reordering M a x y b) h given rows ghost after =
      record { opening = refl; words = λ w. inl refl; made = λ P. same_le (count_by P (made M.progress)) }
  all_pass _ _ _ (beginning M a name number hand call b may) h given rows ghost after =
      record { opening = refl; words = λ w. inl refl; made = λ P. same_le (count_by P (made M.progress)) }
  all_pass _ _ _ (finishing M a name number op call begun reply b replied) h given rows ghost after =
      record { opening = refl; words = λ w. inl refl; made = λ P. same_le (count_by P (made M.progress)) }
  all_pass _ _ _ (evicting M a name number hand word b below) h given rows ghost after =
      record { opening = refl; words = λ w. inl refl; made = λ P. same_le (count_by P (made M.progress)) }
  all_pass _ _ _ (evicted M a name number evict b) h given rows ghost after =
      record { opening = refl; words = λ w. inl refl; made = λ P. same_le (count_by P (made M.progress)) }
  all_pass _ _ _ (making M a u b e q) h given rows ghost after =
      let x = passes_then c l p free bounds keeps M a u b e q h in
      record { opening = x.opening; words = x.words; made = x.made }
  all_pass _ _ _ (writing_back M word below) h given rows ghost after = record {
    opening = refl;
    words = λ w. inl refl;
    made = λ P. event_grows P M.progress M.state (write_back M.state word) None (λ w from to x e none. absurd (no_entry x none));
  }
    where
      no_entry : (x : Entry) → None ≡ Some x → ⊥
      no_entry x e = cc

  module _ (name number : ℕ) (op : Op) (call : Call) (begun : Option ℕ) where
    abbrev u : Worker Op
    u = busy name number op call begun

    -- one among the workers, and what it knows
    pub record Placed (M : Moment Op) : Type 0 where
      pub before : List (Worker Op)
      pub behind : List (Worker Op)
      pub holds : Holds c l p free (with_workers M (before ++ u ∷ behind))
      pub who : Who
      pub is : (who.name ≡ name) × (who.number ≡ number) × (who.call ≡ call) × (who.first ≡ first_at 0 begun)
      pub knows : c.knows (heap_of M holds.given holds.ghost) who op

    pub placed : (M : Moment Op) → IsAmong M.workers u → Holds c l p free M → Placed M
    placed M k h =
        let holds : Holds c l p free (with_workers M (k.0 ++ u ∷ k.1)) = subst (λ us. Holds c l p free (with_workers M us)) k.2 h in
        let r : Split c l p free (heap_of M holds.given holds.ghost) k.0 u k.1 holds.actors = mine c l p free keeps M k.0 u k.1 holds in
        let known : IsBusy c l p free (heap_of M holds.given holds.ghost) r.actor name number op call begun = r.mine.doing in
        record {
          before = k.0;
          behind = k.1;
          holds = holds;
          who = who_of name number call begun r.actor;
          is = (refl, refl, refl, refl);
          knows = known.knows;
        }

    others_event : (M N : Moment Op) (x : Placed M) (y : Placed N) →
        ((given rows : List ℕ) (ghost after : G) → Passes (heap_of M given ghost) (heap_of N rows after)) →
        OthersEvent c l p free (heap_of M x.holds.given x.holds.ghost) (heap_of N y.holds.given y.holds.ghost) x.who y.who op
    others_event M N x y pass = record {
      kept = x.holds.kept;
      knows = x.knows;
      kept_now = y.holds.kept;
      knows_now = y.knows;
      passes = pass x.holds.given y.holds.given x.holds.ghost y.holds.ghost;
      same = record {
        name = y.is.0 ∙ sym x.is.0;
        number = y.is.1 ∙ sym x.is.1;
        call = y.is.2 ∙ sym x.is.2;
        first = y.is.3 ∙ sym x.is.3;
      };
    }

    pub still_within : (limits : Limits Op) (o : Option ℕ) → AreTriesKept c l p free limits o → (M N : Moment Op) → Placed M → Placed N →
        ((given rows : List ℕ) (ghost after : G) → Passes (heap_of M given ghost) (heap_of N rows after)) → (made : ℕ) →
        IsWithin o made (limits.allowed (view_at M) op) → IsWithin o made (limits.allowed (view_at N) op)
    still_within limits None kept M N x y pass made was = tt
    still_within limits (Some most) kept M N x y pass made was = (
      through made (limits.allowed (view_at M) op) (limits.allowed (view_at N) op) was.0 (kept.lasts _ _ x.who y.who op (others_event M N x y pass)),
      kept.within (heap_of N y.holds.given y.holds.ghost) y.who op y.holds.kept
          (few_inserts c l p free (with_workers N (y.before ++ u ∷ y.behind)) y.holds) y.knows,
    )
      where
        through : (a b d : ℕ) → a ≤ b → b ≤ d → a ≤ d
        through a b d h i = omega (arith, h, i)
