-- What one worker does leaves to the others what is true of them.
use Rattle.std.proofs.Common.{◌≡◌, ◌≢◌, ℕ, ◌+◌, ◌*◌, ◌<◌, ◌≤◌, List, [], ◌∷◌, ◌++◌, sym, ◌∙◌, ap, subst, arith, count_by, Some}
use Rattle.std.proofs.Math.Nat.{mul-le-mul_left}
use Rattle.std.specs.List.{AllByRecursion}
use Rattle.flit_words.specs.Words.{version_of}
use Rattle.flit_model.proofs.Counting.{count_by-append}
use Rattle.flit_model.specs.States.{State, shadow_at}
use Rattle.flit_model.specs.declared.calls.Entry.{Entry}
use Rattle.flit_model.specs.declared.calls.Reply.{Reply}
use Rattle.flit_model.specs.declared.calls.Reply.TheVariants.{Yes, No, Found, Full, Worn}
use Rattle.flit_structure.specs.declared.workers.Doing.{Doing}
use Rattle.flit_structure.specs.declared.workers.Doing.TheVariants.{Idle, Busy, Evicting}
use Rattle.flit_structure.specs.declared.workers.Worker.{Worker}
use Rattle.flit_structure.specs.Moments.{Moment, IsAmong}
use Rattle.flit_structure.specs.Meanings.{Meaning, Happens}
use Rattle.flit_structure.specs.Lawful.{Lawful, IsBounded, is_insert, rows_needed}
use Rattle.flit_structure.proofs.Names.{all_left, all_right, all_both, all_map}
use Rattle.flit_table.specs.declared.views.Logged.{Logged}
use Rattle.flit_table.specs.declared.views.Made.{Made}
use Rattle.flit_table.specs.declared.views.Origin.{Origin}
use Rattle.flit_table.specs.declared.views.Post.{Post}
use Rattle.flit_table.specs.declared.views.View.{View}
use Rattle.flit_table.specs.Logs.{Continues}
use Rattle.flit_table.specs.Views.{answered, workers_of, posts_of, all_workers}
use Rattle.flit_table.specs.Rule.{Account, moment_of, IsLicensedIn, IsLicensed, IsWithinBounds, Agrees, HasWhole, Kept}
use Rattle.flit_table.proofs.LogLaws.{continues_on}
use Rattle.flit_table.proofs.ViewWorkers.{IsOther, others_around, posts_all, all_zip, all_joined}
use Rattle.flit_table.proofs.Accounts.{AddsOne, account_grows}

more_inserts : (settled more : List Entry) → count_by (λ (e : Entry). is_insert e.call) settled ≤ count_by (λ (e : Entry). is_insert e.call) (settled ++ more)
more_inserts settled more = let k = count_by-append (λ (e : Entry). is_insert e.call) settled more in omega arith

below_more : (need room a b workers : ℕ) → a ≤ b → room < need * (a + workers) → room < need * (b + workers)
below_more need room a b workers h k =
    let l : need * (a + workers) ≤ need * (b + workers) = mul-le-mul_left need (omega arith) in
    omega (arith, l, k)

later_version : (a b version : ℕ) → a ≤ b → version ≤ version_of a → version ≤ version_of b
later_version a b version h k = omega arith

module _ {S Op : Type 0} (meaning : Meaning Op) (laws : Lawful meaning) (o : Origin S) where
  -- what the worker of a name does takes one moment to another, and settles one update at most
  pub record IsChange (name : ℕ) (M N : Moment Op) : Type 0 where
    pub happens : Happens meaning (Some name) M N
    pub holds : meaning.holds M
    pub more : List Entry
    pub grows : N.progress.settled ≡ M.progress.settled ++ more
    pub adds : AddsOne M.progress more
    pub rises : (word : ℕ) → shadow_at M.state word ≤ shadow_at N.state word

  module _ (name : ℕ) (M N : Moment Op) (c : IsChange name M N) where
    bound_on : (e : Entry) (reply : Reply) →
        IsBounded meaning.layout meaning.room M.state M.progress.settled reply → IsBounded meaning.layout meaning.room N.state N.progress.settled reply
    bound_on e Yes h = tt
    bound_on e No h = tt
    bound_on e (Found value) h = tt
    bound_on e (Full ticket) h =
        let count = λ (es : List Entry). count_by (λ (d : Entry). is_insert d.call) es in
        let l : count M.progress.settled ≤ count N.progress.settled = subst (λ (es : List Entry). count M.progress.settled ≤ count es) (sym c.grows)
        (more_inserts M.progress.settled c.more) in
        (h.0, below_more (rows_needed meaning.layout.kind) meaning.room (count M.progress.settled) (count N.progress.settled) meaning.layout.workers l h.1)
    bound_on e (Worn word version) h = (h.0, later_version (shadow_at M.state word) (shadow_at N.state word) version (c.rises word) h.1)

    licence_on : (p : Post Op) (doing : Doing Op) → IsAmong M.workers (record { name = p.worker.name; number = p.worker.number; doing = doing }) →
        p.worker.name ≢ name →
        IsLicensedIn meaning M p doing → IsLicensedIn meaning N p doing
    licence_on p (Idle hand) among apart l = tt
    licence_on p (Busy op call begun) among apart l =
        laws.licensed_kept M N (Some name) p.worker.name p.worker.number op call begun p.start p.tried c.happens (λ q. apart (same_name name p.worker.name q))
        among c.holds l
      where
        same_name : (a b : ℕ) → Some a ≡ Some b → b ≡ a
        same_name a b q = cc
    licence_on p (Evicting evict) among apart l = tt

    account_on : (mine : List Made) (u : Worker Op) → IsAmong M.workers u → Account M.progress.settled mine u → Account N.progress.settled mine u
    account_on mine u among a = subst (λ es. Account es mine u) (sym c.grows) (account_grows meaning laws M c.holds mine c.more u c.adds among a)

    pub bounds_on : (es : List Entry) → AllByRecursion (IsWithinBounds meaning M) es → AllByRecursion (IsWithinBounds meaning N) es
    bounds_on es h = all_map (IsWithinBounds meaning M) (IsWithinBounds meaning N) (λ e k. bound_on e e.reply k) es h

    pub accounts_on : (mine : List Made) (ps : List (Post Op)) → AllByRecursion (IsOther M.workers name) (workers_of ps) →
        AllByRecursion (λ p. Account M.progress.settled mine p.worker) ps → AllByRecursion (λ p. Account N.progress.settled mine p.worker) ps
    accounts_on mine ps others h =
        all_zip (λ p. IsOther M.workers name p.worker) (λ p. Account M.progress.settled mine p.worker) (λ p. Account N.progress.settled mine p.worker)
        (λ p k a. account_on mine p.worker k.among a) ps (posts_all (IsOther M.workers name) ps others) h

    pub licences_on : (ps : List (Post Op)) → AllByRecursion (IsOther M.workers name) (workers_of ps) → AllByRecursion (IsLicensed meaning M) ps →
        AllByRecursion (IsLicensed meaning N) ps
    licences_on ps others h =
        all_zip (λ p. IsOther M.workers name p.worker) (IsLicensed meaning M) (IsLicensed meaning N)
        (λ p k l. licence_on p p.worker.doing k.among k.apart l) ps (posts_all (IsOther M.workers name) ps others) h

    -- the account of the worker itself, before it is looked at what it does now
    pub own_account : (mine : List Made) (u : Worker Op) → IsAmong M.workers u → Account M.progress.settled mine u → Account N.progress.settled mine u
    own_account = account_on

    module _ (log longer : List Logged) (continues : Continues log longer) where
      pub agrees_on : (v : View S Op) → AllByRecursion (IsOther M.workers name) (workers_of (posts_of v)) → Agrees meaning o log M v →
          Agrees meaning o longer N v
      agrees_on v others a = record {
        opened = a.opened;
        begins = continues_on v.log log longer a.begins continues;
        notes = a.notes;
        bare = a.bare;
        items = a.items;
        counted = a.counted;
        accounts = accounts_on v.mine (posts_of v) others a.accounts;
        licensed = licences_on (posts_of v) others a.licensed;
        queued = a.queued;
        stand = a.stand;
        settled = a.settled;
        reads = a.reads;
        right = a.right;
        bounded = bounds_on (answered v.mine) a.bounded;
      }

      pub views_on : (vs : List (View S Op)) → AllByRecursion (IsOther M.workers name) (all_workers vs) → AllByRecursion (Agrees meaning o log M) vs →
          AllByRecursion (Agrees meaning o longer N) vs
      views_on [] others h = tt
      views_on (v ∷ vs) others h = (
        agrees_on v (all_left (IsOther M.workers name) (workers_of (posts_of v)) (all_workers vs) others) h.0,
        views_on vs (all_right (IsOther M.workers name) (workers_of (posts_of v)) (all_workers vs) others) h.1,
      )

  -- one view changes, and its first post with it
  module _ (m m2 : State) (log longer : List Logged) (a b : List (View S Op)) (v w : View S Op) (rest : List (Post Op)) (old : posts_of v ≡ v.post ∷ rest)
      (new : posts_of w ≡ w.post ∷ rest) where
    abbrev pub behind : List (Worker Op)
    behind = workers_of rest ++ all_workers b

    abbrev pub was : Moment Op
    was = moment_of o m log (all_workers a ++ v.post.worker ∷ behind)

    abbrev pub becomes : Moment Op
    becomes = moment_of o m2 longer (all_workers a ++ w.post.worker ∷ behind)

    was_is : all_workers (a ++ v ∷ b) ≡ all_workers a ++ v.post.worker ∷ behind
    was_is = all_joined a (v ∷ b) ∙ ap (λ ps. all_workers a ++ (workers_of ps ++ all_workers b)) old

    becomes_is : all_workers (a ++ w ∷ b) ≡ all_workers a ++ w.post.worker ∷ behind
    becomes_is = all_joined a (w ∷ b) ∙ ap (λ ps. all_workers a ++ (workers_of ps ++ all_workers b)) new

    pub holds_was : Kept meaning o m log (a ++ v ∷ b) → meaning.holds was
    holds_was k = subst (λ us. meaning.holds (moment_of o m log us)) was_is k.holds

    pub agrees_was : Kept meaning o m log (a ++ v ∷ b) → Agrees meaning o log was v
    agrees_was k = (all_right (Agrees meaning o log was) a (v ∷ b) (subst (λ us. AllByRecursion (Agrees meaning o log (moment_of o m log us)) (a ++ v ∷ b))
        was_is k.each)).0

    pub rest_others : Kept meaning o m log (a ++ v ∷ b) → AllByRecursion (IsOther was.workers v.post.worker.name) (workers_of rest)
    rest_others k = all_left (IsOther was.workers v.post.worker.name) (workers_of rest) (all_workers b)
        (others_around (all_workers a) behind v.post.worker (laws.named was (holds_was k)).different).1

    pub kept_changed : Kept meaning o m log (a ++ v ∷ b) → IsChange v.post.worker.name was becomes → Continues log longer → Agrees meaning o longer becomes w →
        HasWhole longer (a ++ w ∷ b) → Kept meaning o m2 longer (a ++ w ∷ b)
    kept_changed k c continues own whole =
        let others = others_around (all_workers a) behind v.post.worker (laws.named was (holds_was k)).different in
        let each : AllByRecursion (Agrees meaning o log was) (a ++ v ∷ b) = subst (λ us. AllByRecursion (Agrees meaning o log (moment_of o m log us))
        (a ++ v ∷ b)) was_is k.each in
        let front = views_on v.post.worker.name was becomes c log longer continues a others.0 (all_left (Agrees meaning o log was) a (v ∷ b) each) in
        let back = views_on v.post.worker.name was becomes c log longer continues b
        (all_right (IsOther was.workers v.post.worker.name) (workers_of rest) (all_workers b) others.1)
        (all_right (Agrees meaning o log was) a (v ∷ b) each).1 in
        record {
          holds = subst (λ us. meaning.holds (moment_of o m2 longer us)) (sym becomes_is) (laws.keeps (Some v.post.worker.name) was becomes c.happens c.holds);
          each = subst (λ us. AllByRecursion (Agrees meaning o longer (moment_of o m2 longer us)) (a ++ w ∷ b)) (sym becomes_is)
              (all_both (Agrees meaning o longer becomes) a (w ∷ b) front (own, back));
          longest = whole;
        }
