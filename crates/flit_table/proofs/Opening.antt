-- The table as it is opened.
use Rattle.std.proofs.Common.{◌≡◌, ◌≢◌, inl, ℕ, zero, suc, ◌+◌, ◌<◌, ◌≤◌, List, [], ◌∷◌, ◌++◌, refl, sym, ◌∙◌, ap, subst, arith, append-nil, Some, None}
use Rattle.std.specs.List.{AllByRecursion}
use Rattle.flit_model.specs.States.{state_from}
use Rattle.flit_structure.specs.declared.workers.Worker.{Worker}
use Rattle.flit_structure.specs.Moments.{Moment, IsNew}
use Rattle.flit_structure.specs.Meanings.{Meaning, hiring}
use Rattle.flit_structure.specs.Lawful.{Lawful}
use Rattle.flit_table.specs.declared.views.Origin.{Origin}
use Rattle.flit_table.specs.declared.views.Post.{Post}
use Rattle.flit_table.specs.Views.{opening_of, new_post, new_posts, workers_of, posts_with}
use Rattle.flit_table.specs.Moves.{HasNoneQueued}
use Rattle.flit_table.specs.Orders.{StandBy}
use Rattle.flit_table.proofs.Standing.{stand_new}
use Rattle.flit_table.specs.Rule.{Account, moment_of, IsLicensed, Kept, first_view}
use Rattle.flit_table.proofs.LogLaws.{continues_same}

module _ (Op : Type 0) where
  pub posts_new : (n name : ℕ) → posts_with {Op = Op} n name (new_post name) [] ≡ new_posts name n
  posts_new zero name = refl
  posts_new (suc n) name = ap (λ (ps : List (Post Op)). new_post name ∷ ps) (append-nil (new_posts (suc name) n))

  new_name : (name first n : ℕ) → name < first → IsNew name (workers_of {Op = Op} (new_posts first n))
  new_name name first zero h = tt
  new_name name first (suc n) h = (differ name first h, new_name name (suc first) n (omega arith))
    where
      differ : (a b : ℕ) → a < b → b ≢ a
      differ a b h e = omega arith

  new_accounts : (first n : ℕ) → AllByRecursion (λ (p : Post Op). Account [] [] p.worker) (new_posts first n)
  new_accounts first zero = tt
  new_accounts first (suc n) = (record { more = []; is = refl; one = tt; below = tt }, new_accounts (suc first) n)

module _ {S Op : Type 0} (meaning : Meaning Op) (laws : Lawful meaning) (o : Origin S) (opens : meaning.opens (opening_of o)) where
  abbrev M : List (Worker Op) → Moment Op
  M us = moment_of o (state_from meaning.layout (opening_of o).words) [] us

  hires : (n first : ℕ) → 1 ≤ first → first + n ≤ meaning.layout.workers + 1 → meaning.holds (M (workers_of (new_posts first n)))
  hires zero first low high = (laws.opens (opening_of o) opens).2
  hires (suc n) first low high =
      let before = M (workers_of (new_posts (suc first) n)) in
      laws.keeps None before (M (workers_of (new_posts first (suc n)))) (hiring before first low (omega arith) (new_name Op first (suc first) n (omega arith)))
      (hires n (suc first) (omega arith) (omega arith))

  licences : (N : Moment Op) (first n : ℕ) → AllByRecursion (IsLicensed meaning N) (new_posts first n)
  licences N first zero = tt
  licences N first (suc n) = (tt, licences N (suc first) n)

  unqueued : (first n : ℕ) → AllByRecursion (HasNoneQueued meaning) (new_posts first n)
  unqueued first zero = tt
  unqueued first (suc n) = (refl, unqueued (suc first) n)

  pub opens_kept : Kept meaning o (state_from meaning.layout (opening_of o).words) [] (first_view meaning o ∷ [])
  opens_kept =
      let n = meaning.layout.workers in
      let posts = posts_new Op n 1 in
      let is : workers_of (new_posts 1 n) ≡ workers_of (posts_with {Op = Op} n 1 (new_post 1) []) ++ [] =
      sym (append-nil (workers_of (posts_with n 1 (new_post 1) [])) ∙ ap workers_of posts) in
      record {
        holds = subst (λ us. meaning.holds (M us)) is (hires n 1 (omega arith) (omega arith));
        each = (
          record {
            opened = λ p e. same_origin p o e;
            begins = continues_same [];
            notes = continues_same [];
            bare = λ none. refl;
            items = tt;
            counted = tt;
            accounts = subst (AllByRecursion (λ p. Account [] [] p.worker)) (sym posts) (new_accounts Op 1 n);
            licensed = subst (AllByRecursion (IsLicensed meaning (M (workers_of (posts_with {Op = Op} n 1 (new_post 1) []) ++ [])))) (sym posts)
                (licences (M (workers_of (posts_with {Op = Op} n 1 (new_post 1) []) ++ [])) 1 n);
            queued = λ one. subst (AllByRecursion (HasNoneQueued meaning)) (sym posts) (unqueued 1 n);
            stand = subst (AllByRecursion (λ p. StandBy meaning [] [] [] p.worker)) (sym posts) (stand_new meaning [] n 1);
            settled = tt;
            reads = refl;
            right = tt;
            bounded = tt;
          },
          tt,
        );
        longest = inl refl;
      }
    where
      same_origin : (p q : Origin S) → Some q ≡ Some p → p ≡ q
      same_origin p q e = cc
