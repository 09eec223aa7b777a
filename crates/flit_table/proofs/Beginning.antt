-- A worker begins a call or an evict, and the rule is kept.
use Rattle.std.proofs.Common.{◌≡◌, inl, inr, ℕ, ◌+◌, ◌<◌, List, [], ◌∷◌, ◌++◌, refl, sym, ap, ◌∙◌, subst, Some, None, append-nil, le_refl}
use Rattle.std.specs.List.{AllByRecursion}
use Rattle.flit_words.specs.Layouts.{words_of}
use Rattle.flit_model.specs.States.{State}
use Rattle.flit_model.specs.declared.calls.Call.{Call}
use Rattle.flit_model.specs.declared.calls.Entry.{Entry}
use Rattle.flit_pv.specs.declared.hands.Hand.{Hand}
use Rattle.flit_pv.specs.Evicts.{evict_started}
use Rattle.flit_structure.specs.declared.workers.Doing.{Doing}
use Rattle.flit_structure.specs.declared.workers.Doing.TheVariants.{Idle}
use Rattle.flit_structure.specs.declared.workers.Worker.{Worker}
use Rattle.flit_structure.specs.Moments.{Moment, idle, busy, sweeper}
use Rattle.flit_structure.specs.Meanings.{Meaning, MayStart, hand_in, replied, reply_at, Happens, beginning, evicting}
use Rattle.flit_structure.specs.Lawful.{Lawful}
use Rattle.flit_table.specs.declared.views.Logged.{Logged}
use Rattle.flit_table.specs.declared.views.Made.{Made}
use Rattle.flit_table.specs.declared.views.Origin.{Origin}
use Rattle.flit_table.specs.declared.views.Post.{Post}
use Rattle.flit_table.specs.declared.views.Start.{Start}
use Rattle.flit_table.specs.declared.views.Start.TheVariants.{Go, Begin, Sweep}
use Rattle.flit_table.specs.declared.views.View.{View}
use Rattle.flit_table.specs.Logs.{settled_in}
use Rattle.flit_table.specs.Views.{HasName, name_of, used_of, posts_of, all_workers, updates_seen}
use Rattle.flit_structure.proofs.Names.{all_map}
use Rattle.flit_table.specs.Moves.{entered, MayEnter, HasNoneQueued, entering}
use Rattle.flit_table.specs.Rule.{Account, moment_of, IsLicensed, Agrees, HasWhole, Kept}
use Rattle.flit_table.specs.Orders.{IsOneMore, StandBy}
use Rattle.flit_table.proofs.Standing.{stand_at}
use Rattle.flit_table.proofs.LogLaws.{continues_same}
use Rattle.flit_table.proofs.ViewWorkers.{rest_of, posts_head}
use Rattle.flit_table.proofs.Unqueued.{enters_unqueued}
use Rattle.flit_table.proofs.Changes as changes

-- the whole log stays with some view
module _ {S Op : Type 0} (log : List Logged) where
  pub whole_put : (a b : List (View S Op)) (v w : View S Op) → (v.log ≡ log → w.log ≡ log) → HasWhole log (a ++ v ∷ b) → HasWhole log (a ++ w ∷ b)
  whole_put [] b v w f (inl h) = inl (f h)
  whole_put [] b v w f (inr h) = inr h
  whole_put (x ∷ a) b v w f (inl h) = inl h
  whole_put (x ∷ a) b v w f (inr h) = inr (whole_put a b v w f h)

  pub whole_here : (a b : List (View S Op)) (w : View S Op) → w.log ≡ log → HasWhole log (a ++ w ∷ b)
  whole_here [] b w h = inl h
  whole_here (x ∷ a) b w h = inr (whole_here a b w h)

module _ {Op : Type 0} (settled : List Entry) (mine : List Made) (name number : ℕ) where
  -- an account of a worker at no call serves whatever it begins
  call_account : (hand : Hand) (op : Op) (call : Call) → Account {Op = Op} settled mine (idle name number hand) →
      Account settled mine (busy name (number + 1) op call None)
  call_account hand op call a = record { more = a.more; is = a.is; one = by_more a.more a.one; below = a.below }
    where
      by_more : (more : List Entry) → IsOneMore {Op = Op} (idle name number hand) more → IsOneMore (busy name (number + 1) op call None) more
      by_more [] h = tt
      by_more (e ∷ []) h = absurd h
      by_more (e ∷ (d ∷ ds)) h = h

  evict_account : (hand : Hand) (word : ℕ) → Account {Op = Op} settled mine (idle name number hand) →
      Account {Op = Op} settled mine (sweeper name number (evict_started hand word))
  evict_account hand word a = record { more = a.more; is = a.is; one = by_more a.more a.one; below = a.below }
    where
      by_more : (more : List Entry) → IsOneMore {Op = Op} (idle name number hand) more →
          IsOneMore {Op = Op} (sweeper name number (evict_started hand word)) more
      by_more [] h = tt
      by_more (e ∷ []) h = h
      by_more (e ∷ (d ∷ ds)) h = h

module _ {S Op : Type 0} (meaning : Meaning Op) (laws : Lawful meaning) (o : Origin S) (m : State) (log : List Logged) where
  abbrev M : Moment Op
  M = moment_of o m log []

  module _ (A B : List (Worker Op)) (name number : ℕ) where
    abbrev worker : Doing Op → Worker Op
    worker doing = record { name = name; number = number; doing = doing }

    module _ (call : Call) where
      abbrev calling : Doing Op → Worker Op
      calling doing = busy name (number + 1) (meaning.begun (hand_in meaning doing) call) call None

      call_happens : (doing : Doing Op) (hand : Hand) → doing ≡ Idle hand → MayStart meaning.layout hand call →
          Happens meaning (Some name) (moment_of o m log (A ++ worker doing ∷ B)) (moment_of o m log (A ++ calling doing ∷ B))
      call_happens doing hand e may =
          subst (λ d. Happens meaning (Some name) (moment_of o m log (A ++ worker d ∷ B)) (moment_of o m log (A ++ calling d ∷ B))) (sym e)
          (beginning M A name number hand call B may)

      call_licensed : (doing : Doing Op) (hand : Hand) → doing ≡ Idle hand → MayStart meaning.layout hand call →
          meaning.holds (moment_of o m log (A ++ worker doing ∷ B)) →
          meaning.licensed (moment_of o m log (A ++ calling doing ∷ B)) (meaning.begun (hand_in meaning doing) call) (hand_in meaning doing).tally 0
      call_licensed doing hand e may =
          subst (λ d. meaning.holds (moment_of o m log (A ++ worker d ∷ B)) →
          meaning.licensed (moment_of o m log (A ++ calling d ∷ B)) (meaning.begun (hand_in meaning d) call) (hand_in meaning d).tally 0) (sym e)
          (λ h. laws.licensed_first M A name number hand call B may h)

      call_accounts : (settled : List Entry) (mine : List Made) (doing : Doing Op) (hand : Hand) → doing ≡ Idle hand → Account settled mine (worker doing) →
          Account settled mine (calling doing)
      call_accounts settled mine doing hand e =
          subst (λ d. Account settled mine (worker d) → Account settled mine (calling d)) (sym e)
          (λ a. call_account settled mine name number hand (meaning.begun hand call) call a)

    module _ (word : ℕ) where
      abbrev evicts : Doing Op → Worker Op
      evicts doing = sweeper name number (evict_started (hand_in meaning doing) word)

      evict_happens : (doing : Doing Op) (hand : Hand) → doing ≡ Idle hand → word < words_of meaning.layout →
          Happens meaning (Some name) (moment_of o m log (A ++ worker doing ∷ B)) (moment_of o m log (A ++ evicts doing ∷ B))
      evict_happens doing hand e within =
          subst (λ d. Happens meaning (Some name) (moment_of o m log (A ++ worker d ∷ B)) (moment_of o m log (A ++ evicts d ∷ B))) (sym e)
          (evicting M A name number hand word B within)

      evict_accounts : (settled : List Entry) (mine : List Made) (doing : Doing Op) (hand : Hand) → doing ≡ Idle hand → Account settled mine (worker doing) →
          Account settled mine (evicts doing)
      evict_accounts settled mine doing hand e =
          subst (λ d. Account settled mine (worker d) → Account settled mine (evicts d)) (sym e) (λ a. evict_account settled mine name number hand word a)

  -- nothing is settled by what is no event
  pub quiet_change : (name : ℕ) (us ws : List (Worker Op)) → Happens meaning (Some name) (moment_of o m log us) (moment_of o m log ws) →
      meaning.holds (moment_of o m log us) →
      changes.IsChange meaning laws o name (moment_of o m log us) (moment_of o m log ws)
  quiet_change name us ws h k = record {
    happens = h;
    holds = k;
    more = [];
    grows = sym (append-nil (moment_of o m log us).progress.settled);
    adds = inl refl;
    rises = λ word. le_refl _;
  }

  -- the rule is kept where the first post of a view begins something
  module _ (a b : List (View S Op)) (v : View S Op) (some : 0 < v.names) (q : Post Op) (named : q.worker.name ≡ v.post.worker.name)
      (k : Kept meaning o m log (a ++ v ∷ b)) where
    abbrev w : View S Op
    w = record v { post = q }

    abbrev old : posts_of v ≡ v.post ∷ rest_of v
    old = posts_head v some

    abbrev new : posts_of w ≡ w.post ∷ rest_of v
    new = posts_head w some

    abbrev before : Moment Op
    before = changes.was meaning laws o m m log log a b v w (rest_of v) old new

    abbrev later : Moment Op
    later = changes.becomes meaning laws o m m log log a b v w (rest_of v) old new

    keeps_name : (name : ℕ) → HasName name (used_of v) → HasName name (used_of w)
    keeps_name name (inl e) = inl (named ∙ e)
    keeps_name name (inr h) = inr h

    pub post_kept : changes.IsChange meaning laws o v.post.worker.name before later →
        (Account (settled_in log) v.mine v.post.worker → Account (settled_in log) v.mine q.worker) → IsLicensed meaning later q →
        (HasNoneQueued meaning v.post → HasNoneQueued meaning q) →
        (StandBy meaning (updates_seen v) v.mine v.placed v.post.worker → StandBy meaning (updates_seen v) v.mine v.placed q.worker) → Kept meaning o m log (a ++ w ∷ b)
    post_kept c account licence unqueued standing =
        let x : Agrees meaning o log before v = changes.agrees_was meaning laws o m m log log a b v w (rest_of v) old new k in
        let others = changes.rest_others meaning laws o m m log log a b v w (rest_of v) old new k in
        let accounts : AllByRecursion (λ p. Account (settled_in log) v.mine p.worker) (v.post ∷ rest_of v) =
        subst (AllByRecursion (λ p. Account (settled_in log) v.mine p.worker)) old x.accounts in
        let licences : AllByRecursion (IsLicensed meaning before) (v.post ∷ rest_of v) = subst (AllByRecursion (IsLicensed meaning before)) old x.licensed in
        let stands : AllByRecursion (λ p. StandBy meaning (updates_seen v) v.mine v.placed p.worker) (v.post ∷ rest_of v) =
        subst (AllByRecursion (λ p. StandBy meaning (updates_seen v) v.mine v.placed p.worker)) old x.stand in
        let own : Agrees meaning o log later w = record {
          opened = x.opened;
          begins = x.begins;
          notes = x.notes;
          bare = x.bare;
          items = all_map (λ i. HasName (name_of i) (used_of v)) (λ i. HasName (name_of i) (used_of w)) (λ i h. keeps_name (name_of i) h) v.mine x.items;
          counted = all_map (λ n. HasName n (used_of v)) (λ n. HasName n (used_of w)) keeps_name v.events x.counted;
          accounts = subst (AllByRecursion (λ p. Account (settled_in log) v.mine p.worker)) (sym new) (account accounts.0, accounts.1);
          licensed = subst (AllByRecursion (IsLicensed meaning later)) (sym new)
              (licence, changes.licences_on meaning laws o v.post.worker.name before later c (rest_of v) others licences.1);
          queued = λ one. (let h = subst (AllByRecursion (HasNoneQueued meaning)) old (x.queued one) in
              subst (AllByRecursion (HasNoneQueued meaning)) (sym new) (unqueued h.0, h.1));
          stand = subst (AllByRecursion (λ p. StandBy meaning (updates_seen v) v.mine v.placed p.worker)) (sym new) (standing stands.0, stands.1);
          settled = x.settled;
          reads = x.reads;
          right = x.right;
          bounded = x.bounded;
        } in
        changes.kept_changed meaning laws o m m log log a b v w (rest_of v) old new k c (continues_same log) own (whole_put log a b v w (λ e. e) k.longest)

  -- an operation that was just begun has no reply
  not_replied : (call : Call) (doing : Doing Op) (hand : Hand) → doing ≡ Idle hand → MayStart meaning.layout hand call →
      replied meaning (meaning.begun (hand_in meaning doing) call) ≡ None
  not_replied call doing hand is may =
      let first = laws.awake hand call may in
      ap (λ d. replied meaning (meaning.begun (hand_in meaning d) call)) is
      ∙ ap (λ a. reply_at a (meaning.reply (meaning.begun hand call))) first.1

  pub begins_kept : (start : Start) (a b : List (View S Op)) (v : View S Op) → 0 < v.names → MayEnter meaning start v.post → Kept meaning o m log (a ++ v ∷ b) →
      Kept meaning o m log (a ++ entering meaning start v ∷ b)
  begins_kept Go a b v some may k = k
  begins_kept (Begin call) a b v some may k =
      let p = v.post in
      let q = entered meaning (Begin call) p in
      let A = all_workers a in
      let B = changes.behind meaning laws o m m log log a b v (record v { post = q }) (rest_of v) (posts_head v some) (posts_head (record v { post = q }) some)
      in
      let holds = changes.holds_was meaning laws o m m log log a b v (record v { post = q }) (rest_of v) (posts_head v some)
      (posts_head (record v { post = q }) some) k in
      post_kept a b v some q refl k
      (quiet_change p.worker.name (A ++ p.worker ∷ B) (A ++ q.worker ∷ B) (call_happens A B p.worker.name p.worker.number call p.worker.doing may.0 may.1 may.2)
      holds)
      (call_accounts A B p.worker.name p.worker.number call (settled_in log) v.mine p.worker.doing may.0 may.1)
      (call_licensed A B p.worker.name p.worker.number call p.worker.doing may.0 may.1 may.2 holds)
      (λ h. enters_unqueued meaning laws (moment_of o m log []) A B p holds h (Begin call) may)
      (stand_at meaning (updates_seen v) v.mine v.placed p.worker.name p.worker.number q.worker.number p.worker.doing q.worker.doing
      (λ n low d. not_replied call p.worker.doing may.0 may.1 may.2))
  begins_kept (Sweep word) a b v some may k =
      let p = v.post in
      let q = entered meaning (Sweep word) p in
      let A = all_workers a in
      let B = changes.behind meaning laws o m m log log a b v (record v { post = q }) (rest_of v) (posts_head v some) (posts_head (record v { post = q }) some)
      in
      let holds = changes.holds_was meaning laws o m m log log a b v (record v { post = q }) (rest_of v) (posts_head v some)
      (posts_head (record v { post = q }) some) k in
      post_kept a b v some q refl k
      (quiet_change p.worker.name (A ++ p.worker ∷ B) (A ++ q.worker ∷ B) (evict_happens A B p.worker.name p.worker.number word p.worker.doing may.0 may.1
      may.2) holds)
      (evict_accounts A B p.worker.name p.worker.number word (settled_in log) v.mine p.worker.doing may.0 may.1)
      tt
      (λ h. enters_unqueued meaning laws (moment_of o m log []) A B p holds h (Sweep word) may)
      (stand_at meaning (updates_seen v) v.mine v.placed p.worker.name p.worker.number q.worker.number p.worker.doing q.worker.doing (λ n low d. tt))
