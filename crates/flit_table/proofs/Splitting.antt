-- A pass gives away its last names, and the rule is kept.
use Rattle.std.proofs.Common.{◌≡◌, ◌≢◌, inl, inr, ℕ, zero, suc, ◌+◌, ◌-◌, ◌<◌, List, [], ◌∷◌, ◌++◌, refl, sym, ◌∙◌, ap, subst, arith, append_assoc, append-nil, None}
use Rattle.std.specs.List.{AllByRecursion}
use Rattle.flit_model.specs.States.{State}
use Rattle.flit_model.specs.declared.calls.Entry.{Entry}
use Rattle.flit_structure.specs.declared.workers.Worker.{Worker}
use Rattle.flit_structure.specs.Moments.{Moment, IsNew, HaveDifferentNames}
use Rattle.flit_structure.specs.Meanings.{Meaning, Happens}
use Rattle.flit_structure.specs.Lawful.{Lawful}
use Rattle.flit_structure.proofs.Names.{all_left, all_right, all_both, all_put, different_split}
use Rattle.flit_table.specs.declared.views.Logged.{Logged}
use Rattle.flit_table.specs.declared.views.Made.{Made}
use Rattle.flit_table.specs.declared.views.Made.TheVariants.{Answered, Evicted}
use Rattle.flit_table.specs.declared.views.Origin.{Origin}
use Rattle.flit_table.specs.declared.views.Post.{Post}
use Rattle.flit_table.specs.declared.views.View.{View}
use Rattle.flit_table.specs.Views.{name_of, answered, new_post, new_posts, workers_of, posts_of, used_of, all_workers, updates_seen, HasName, keeper, heir}
use Rattle.flit_table.specs.Orders.{StandBy}
use Rattle.flit_table.proofs.Standing.{stand_new}
use Rattle.flit_table.specs.Moves.{HasNoneQueued}
use Rattle.flit_table.specs.Rule.{Account, moment_of, IsLicensed, Agrees, HasWhole, Kept}
use Rattle.flit_table.proofs.ViewWorkers.{all_zip, posts_all, workers_joined, posts_head, all_joined, all_among}
use Rattle.flit_table.proofs.Accounts.{NoneOf, account_alone}
use Rattle.flit_table.proofs.Beginning.{whole_put}
use Rattle.flit_table.proofs.Opening.{posts_new}
use Rattle.flit_table.proofs.Reordering as reordering

module _ {Op : Type 0} where
  -- a name that some posts haven't is none that one of them has
  pub apart_from : (n other : ℕ) (ps : List (Post Op)) → AllByRecursion (λ p. p.worker.name ≢ other) ps → HasName n ps → n ≢ other
  apart_from n other [] h k q = absurd k
  apart_from n other (p ∷ ps) h (inl e) q = h.0 (e ∙ q)
  apart_from n other (p ∷ ps) h (inr k) q = apart_from n other ps h.1 k q

  pub none_of : (other : ℕ) (ps : List (Post Op)) → AllByRecursion (λ p. p.worker.name ≢ other) ps → (items : List Made) →
      AllByRecursion (λ x. HasName (name_of x) ps) items → NoneOf other (answered items)
  none_of other ps h [] k = tt
  none_of other ps h (Answered e ∷ items) k = (apart_from e.worker other ps h k.0, none_of other ps h items k.1)
  none_of other ps h (Evicted name word ∷ items) k = none_of other ps h items k.1

  new_posts_joined : (name a b : ℕ) → new_posts {Op = Op} name (a + b) ≡ new_posts name a ++ new_posts (name + a) b
  new_posts_joined name zero b = let x : zero + b ≡ b = omega arith in let y : name + zero ≡ name = omega arith in λ i. new_posts (sym y i) (x i)
  new_posts_joined name (suc a) b =
      let x : suc a + b ≡ suc (a + b) = omega arith in
      let y : suc name + a ≡ name + suc a = omega arith in
      ap (new_posts name) x ∙ ap (λ (ps : List (Post Op)). new_post name ∷ ps) (new_posts_joined (suc name) a b
      ∙ ap (λ (k : ℕ). new_posts (suc name) a ++ new_posts k b) y)

  -- the list before, and after
  old_order : (a x g y b : List (Worker Op)) → a ++ ((x ++ (g ++ y)) ++ b) ≡ (a ++ x) ++ (g ++ ((y ++ b) ++ []))
  old_order a x g y b =
      ap (λ (z : List (Worker Op)). a ++ z) (append_assoc x (g ++ y) b ∙ ap (λ (z : List (Worker Op)). x ++ z)
      (append_assoc g y b ∙ ap (λ (z : List (Worker Op)). g ++ z) (sym (append-nil (y ++ b)))))
      ∙ sym (append_assoc a x (g ++ ((y ++ b) ++ [])))

  new_order : (a x g y b : List (Worker Op)) → (a ++ ((x ++ y) ++ b)) ++ (g ++ []) ≡ (a ++ x) ++ ((y ++ b) ++ (g ++ []))
  new_order a x g y b =
      ap (λ (z : List (Worker Op)). (a ++ z) ++ (g ++ [])) (append_assoc x y b)
      ∙ ap (λ (z : List (Worker Op)). z ++ (g ++ [])) (sym (append_assoc a x (y ++ b)))
      ∙ append_assoc (a ++ x) (y ++ b) (g ++ [])

  -- what is true of three stretches
  two_of_three : (P : Post Op → Type 0) (x g y : List (Post Op)) → AllByRecursion P (x ++ (g ++ y)) → AllByRecursion P (x ++ y)
  two_of_three P x g y h = all_both P x y (all_left P x (g ++ y) h) (all_right P g y (all_right P x (g ++ y) h))

  middle_of : (P : Post Op → Type 0) (x g y : List (Post Op)) → AllByRecursion P (x ++ (g ++ y)) → AllByRecursion P g
  middle_of P x g y h = all_left P g y (all_right P x (g ++ y) h)

  -- the posts in the middle have other names than the first and the last
  middle_apart : (p : Post Op) (x g y : List (Post Op)) → HaveDifferentNames (workers_of ((p ∷ x) ++ (g ++ y))) →
      AllByRecursion (λ q. AllByRecursion (λ z. z.worker.name ≢ q.worker.name) (p ∷ y)) g
  middle_apart p x g y h =
      let P = workers_of (p ∷ x) in
      let G = workers_of g in
      let Y = workers_of y in
      let k : HaveDifferentNames (P ++ (G ++ Y)) = subst HaveDifferentNames (workers_joined (p ∷ x) (g ++ y) ∙ ap (λ us. P ++ us) (workers_joined g y)) h in
      let one = different_split P (G ++ Y) k in
      let two = different_split G Y one.1 in
      let first : AllByRecursion (λ u. u.name ≢ p.worker.name) G = all_left (λ u. u.name ≢ p.worker.name) G Y one.2.0 in
      all_zip (λ q. q.worker.name ≢ p.worker.name) (λ q. IsNew q.worker.name Y) (λ q. AllByRecursion (λ z. z.worker.name ≢ q.worker.name) (p ∷ y))
      (λ q n i. ((λ e. n (sym e)), posts_all (λ u. u.name ≢ q.worker.name) y i)) g (posts_all (λ u. u.name ≢ p.worker.name) g first)
      (posts_all (λ u. IsNew u.name Y) g two.2)

no_names : (n : ℕ) → n ≡ 0 → 0 < n → ⊥
no_names n e h = omega arith

pub whole_front : {S Op : Type 0} (log : List Logged) (xs ys : List (View S Op)) → HasWhole log xs → HasWhole log (xs ++ ys)
whole_front log [] ys h = absurd h
whole_front log (x ∷ xs) ys (inl e) = inl e
whole_front log (x ∷ xs) ys (inr h) = inr (whole_front log xs ys h)

module _ {S Op : Type 0} (meaning : Meaning Op) (laws : Lawful meaning) (o : Origin S) (m : State) (log : List Logged) (a b : List (View S Op)) (v : View S Op)
    (give : ℕ) (some : 0 < give) (less : give < v.names) where
  abbrev keep : ℕ
  keep = v.names - give

  abbrev X : List (Post Op)
  X = new_posts (suc v.name) (keep - 1)

  abbrev G : List (Post Op)
  G = new_posts (v.name + keep) give

  abbrev F : List (Post Op)
  F = v.post ∷ X

  stretches : posts_of v ≡ F ++ (G ++ v.gone)
  stretches =
      let n : v.names - 1 ≡ (keep - 1) + give = omega arith in
      let k : suc v.name + (keep - 1) ≡ v.name + keep = omega arith in
      posts_head v (omega arith)
      ∙ ap (λ (ps : List (Post Op)). v.post ∷ (ps ++ v.gone)) (ap (new_posts (suc v.name)) n ∙ new_posts_joined (suc v.name) (keep - 1) give
      ∙ ap (λ (j : ℕ). X ++ new_posts j give) k)
      ∙ ap (λ (ps : List (Post Op)). v.post ∷ ps) (append_assoc X G v.gone)

  keeps : posts_of (keeper give v) ≡ F ++ v.gone
  keeps = posts_head (keeper give v) (omega arith)

  gives : posts_of (heir give v) ≡ G
  gives = posts_new Op give (v.name + keep)

  abbrev us : List (Worker Op)
  us = all_workers (a ++ v ∷ b)

  abbrev ws : List (Worker Op)
  ws = all_workers ((a ++ keeper give v ∷ b) ++ heir give v ∷ [])

  abbrev A : List (Worker Op)
  A = all_workers a

  abbrev B : List (Worker Op)
  B = all_workers b

  us_is : us ≡ (A ++ workers_of F) ++ (workers_of G ++ ((workers_of v.gone ++ B) ++ []))
  us_is =
      all_joined a (v ∷ b) ∙ ap (λ ps. A ++ (workers_of ps ++ B)) stretches
      ∙ ap (λ z. A ++ (z ++ B)) (workers_joined F (G ++ v.gone) ∙ ap (λ z. workers_of F ++ z) (workers_joined G v.gone))
      ∙ old_order A (workers_of F) (workers_of G) (workers_of v.gone) B

  ws_is : ws ≡ (A ++ workers_of F) ++ ((workers_of v.gone ++ B) ++ (workers_of G ++ []))
  ws_is =
      all_joined (a ++ keeper give v ∷ b) (heir give v ∷ []) ∙ ap (λ ps. all_workers (a ++ keeper give v ∷ b) ++ (workers_of ps ++ [])) gives
      ∙ ap (λ z. z ++ (workers_of G ++ [])) (all_joined a (keeper give v ∷ b) ∙ ap (λ ps. A ++ (workers_of ps ++ B)) keeps
      ∙ ap (λ z. A ++ (z ++ B)) (workers_joined F v.gone))
      ∙ new_order A (workers_of F) (workers_of G) (workers_of v.gone) B

  module _ (k : Kept meaning o m log (a ++ v ∷ b)) where
    abbrev N : Moment Op
    N = moment_of o m log ws

    happens : Happens meaning None (moment_of o m log us) N
    happens = reordering.stretches_happen meaning laws o m log us ws (A ++ workers_of F) (workers_of G) (workers_of v.gone ++ B) [] us_is ws_is

    each_now : AllByRecursion (Agrees meaning o log N) (a ++ v ∷ b)
    each_now = reordering.views_stay meaning laws o m log us ws k.holds happens (a ++ v ∷ b) (all_among us) k.each

    here : Agrees meaning o log N v
    here = (all_right (Agrees meaning o log N) a (v ∷ b) each_now).0

    abbrev settled : List Entry
    settled = (moment_of o m log ws).progress.settled

    accounts : AllByRecursion (λ p. Account settled v.mine p.worker) (F ++ (G ++ v.gone))
    accounts = subst (AllByRecursion (λ p. Account settled v.mine p.worker)) stretches here.accounts

    licences : AllByRecursion (IsLicensed meaning N) (F ++ (G ++ v.gone))
    licences = subst (AllByRecursion (IsLicensed meaning N)) stretches here.licensed

    unqueued : meaning.layout.workers ≡ 1 → AllByRecursion (HasNoneQueued meaning) (F ++ (G ++ v.gone))
    unqueued one = subst (AllByRecursion (HasNoneQueued meaning)) stretches (here.queued one)

    keeper_agrees : Agrees meaning o log N (keeper give v)
    keeper_agrees = record {
      opened = here.opened;
      begins = here.begins;
      notes = here.notes;
      bare = λ none. absurd (no_names (v.names - give) none (omega arith));
      items = here.items;
      counted = here.counted;
      accounts = subst (AllByRecursion (λ p. Account settled v.mine p.worker)) (sym keeps)
          (two_of_three (λ p. Account settled v.mine p.worker) F G v.gone accounts);
      licensed = subst (AllByRecursion (IsLicensed meaning N)) (sym keeps) (two_of_three (IsLicensed meaning N) F G v.gone licences);
      queued = λ one. subst (AllByRecursion (HasNoneQueued meaning)) (sym keeps) (two_of_three (HasNoneQueued meaning) F G v.gone (unqueued one));
      stand = subst (AllByRecursion (λ p. StandBy meaning (updates_seen v) v.mine v.placed p.worker)) (sym keeps)
          (two_of_three (λ p. StandBy meaning (updates_seen v) v.mine v.placed p.worker) F G v.gone
          (subst (AllByRecursion (λ p. StandBy meaning (updates_seen v) v.mine v.placed p.worker)) stretches here.stand));
      settled = here.settled;
      reads = here.reads;
      right = here.right;
      bounded = here.bounded;
    }

    different : HaveDifferentNames (workers_of (F ++ (G ++ v.gone)))
    different =
        let all : HaveDifferentNames (A ++ (workers_of (posts_of v) ++ B)) =
        subst HaveDifferentNames (all_joined a (v ∷ b)) (laws.named (moment_of o m log us) k.holds).different in
        let one = different_split A (workers_of (posts_of v) ++ B) all in
        subst (λ ps. HaveDifferentNames (workers_of ps)) stretches (different_split (workers_of (posts_of v)) B one.1).0

    heir_accounts : AllByRecursion (λ p. Account settled [] p.worker) G
    heir_accounts =
        all_zip (λ p. AllByRecursion (λ z. z.worker.name ≢ p.worker.name) (used_of v)) (λ p. Account settled v.mine p.worker) (λ p. Account settled [] p.worker)
        (λ p n x. account_alone settled p.worker v.mine (none_of p.worker.name (used_of v) n v.mine here.items) x)
        G (middle_apart v.post X G v.gone different) (middle_of (λ p. Account settled v.mine p.worker) F G v.gone accounts)

    heir_agrees : Agrees meaning o log N (heir give v)
    heir_agrees = record {
      opened = here.opened;
      begins = here.begins;
      notes = (v.log, refl);
      bare = λ none. absurd (no_names give none some);
      items = tt;
      counted = tt;
      accounts = subst (AllByRecursion (λ p. Account settled [] p.worker)) (sym gives) heir_accounts;
      licensed = subst (AllByRecursion (IsLicensed meaning N)) (sym gives) (middle_of (IsLicensed meaning N) F G v.gone licences);
      queued = λ one. subst (AllByRecursion (HasNoneQueued meaning)) (sym gives) (middle_of (HasNoneQueued meaning) F G v.gone (unqueued one));
      stand = subst (AllByRecursion (λ p. StandBy meaning (updates_seen v) [] [] p.worker)) (sym gives)
          (stand_new meaning (updates_seen v) give (v.name + keep));
      settled = tt;
      reads = refl;
      right = tt;
      bounded = tt;
    }

    pub splits_kept : Kept meaning o m log ((a ++ keeper give v ∷ b) ++ heir give v ∷ [])
    splits_kept = record {
      holds = laws.keeps None (moment_of o m log us) N happens k.holds;
      each = all_both (Agrees meaning o log N) (a ++ keeper give v ∷ b) (heir give v ∷ [])
          (all_put (Agrees meaning o log N) a b v (keeper give v) keeper_agrees each_now) (heir_agrees, tt);
      longest = whole_front log (a ++ keeper give v ∷ b) (heir give v ∷ []) (whole_put log a b v (keeper give v) (λ e. e) k.longest);
    }
