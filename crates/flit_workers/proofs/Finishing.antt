-- Workers that were ready and have run have ended.
use Rattle.std.proofs.Common.{◌≡◌, ℕ, suc, ◌+◌, ◌<◌, ◌≤◌, List, [], ◌∷◌, ◌++◌, length, take, drop, get_or, sym, ap, ◌∙◌, subst, arith, append-nil}
use Rattle.std.proofs.lemmas.List.{drop_all, take_all}
use Rattle.std.specs.List.{AllByRecursion}
use Rattle.flit_model.specs.declared.calls.Work.{Work}
use Rattle.flit_structure.specs.Meanings.{Meaning}
use Rattle.flit_table.specs.declared.views.Origin.{Origin}
use Rattle.flit_table.specs.declared.views.View.{View}
use Rattle.flit_table.specs.Steps.{Home, meaning_of}
use Rattle.flit_workers.specs.declared.ends.End.{End}
use Rattle.flit_workers.specs.Works.{IsRightItem, IsWorked}
use Rattle.flit_workers.specs.Ends.{AllInOrder, HasRoomFor, share, MayRun, HasRun, IsReady, HasEnded}

module _ {S Op : Type 0} (meanings : S → Meaning Op) (home : Home S) (v : View S Op) where
  abbrev meaning : Meaning Op
  meaning = meaning_of meanings home

  abbrev o : Origin S
  o = home.origin

  may_run : (n : ℕ) (w : Work) (e : End S Op) → AllByRecursion (IsRightItem (meaning_of meanings home).layout) w.items.items → length w.items.items ≤ 4294967295
      → IsReady meanings home n v w e → MayRun meanings home e
  may_run n w e right most r = record {
    pass = r.pass;
    free = r.free;
    right = subst (λ (u : Work). AllByRecursion (IsRightItem (meaning_of meanings home).layout) u.items.items) (sym r.work) right;
    most = omega (arith, r.calls, ap (λ (u : Work). length u.items.items) r.work, most);
    room = subst (λ (u : Work). HasRoomFor u.items.items e.outcomes) (sym r.work) r.room;
  }

  -- workers that are ready may run
  pub may_all_run : (n : ℕ) (works : List Work) (ends : List (End S Op)) →
      AllByRecursion (λ w. AllByRecursion (IsRightItem (meaning_of meanings home).layout) w.items.items) works
      → AllByRecursion (λ w. length w.items.items ≤ 4294967295) works → AllInOrder (λ n w e. IsReady meanings home n v w e) n works ends →
      AllByRecursion (MayRun meanings home) ends
  may_all_run n [] [] right most h = tt
  may_all_run n [] (e ∷ es) right most h = absurd h
  may_all_run n (w ∷ ws) [] right most h = absurd h
  may_all_run n (w ∷ ws) (e ∷ es) right most h = (may_run n w e right.0 most.0 h.0, may_all_run (suc n) ws es right.1 most.1 h.1)

  has_ended : (n : ℕ) (w : Work) (e f : End S Op) → IsReady meanings home n v w e → HasRun meanings home e f → HasEnded meanings home n v w f
  has_ended n w e f r h = record {
    work = h.work ∙ r.work;
    pass = h.pass;
    worked =
        subst (λ (u : Work). IsWorked meaning o u.items.items u.stop f.outcomes.items (v.name + n) 0 (share n v) f.pass) r.work
        (subst (λ (k : ℕ). IsWorked meaning o e.work.items.items e.work.stop f.outcomes.items k 0 (share n v) f.pass) r.name
        (subst (λ (k : ℕ). IsWorked meaning o e.work.items.items e.work.stop f.outcomes.items e.pass.held.name k (share n v) f.pass) r.calls
        (subst (λ (u : View S Op). IsWorked meaning o e.work.items.items e.work.stop f.outcomes.items e.pass.held.name e.pass.held.calls u f.pass) r.view
        h.worked)));
  }

  -- and when each has run, all have ended
  pub have_ended : (n : ℕ) (works : List Work) (old done : List (End S Op)) → AllInOrder (λ n w e. IsReady meanings home n v w e) n works old →
      length done ≡ length old
      → ((k : ℕ) (d : End S Op) → k < length old → HasRun meanings home (get_or old k d) (get_or done k d)) →
      AllInOrder (λ n w e. HasEnded meanings home n v w e) n works done
  have_ended n [] [] [] h same run = tt
  have_ended n [] [] (f ∷ fs) h same run = absurd (omega (arith, same))
  have_ended n [] (e ∷ es) done h same run = absurd h
  have_ended n (w ∷ ws) [] done h same run = absurd h
  have_ended n (w ∷ ws) (e ∷ es) [] h same run = absurd (omega (arith, same))
  have_ended n (w ∷ ws) (e ∷ es) (f ∷ fs) h same run =
      (has_ended n w e f h.0 (run 0 e (omega arith)), have_ended (suc n) ws es fs h.1 (omega (arith, same)) (λ k d less. run (suc k) d (omega (arith, less))))

-- what a Vec has when all of it was written through a slice
pub written_back : {X : Type 0} (n : ℕ) (old xs : List X) → length old ≡ n → length xs ≡ length old → take n (xs ++ drop (length xs) old) ≡ xs
written_back {X = X} n old xs len same =
    ap (λ (l : List X). take n (xs ++ l)) (drop_all (length xs) old (omega (arith, same))) ∙ ap (take n) (append-nil xs)
    ∙ take_all n xs (omega (arith, len, same))
