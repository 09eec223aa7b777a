-- A worker makes an event, and the rule is kept.
use Rattle.std.proofs.Common.{◌≡◌, inl, inr, ℕ, ◌<◌, List, [], ◌∷◌, ◌++◌, ◌≤◌, length, refl, sym, ◌∙◌, ap, subst, Some, None, append-nil, arith}
use Rattle.std.proofs.lemmas.List.{length-append}
use Rattle.std.specs.List.{AllByRecursion}
use Rattle.flit_model.specs.States.{State}
use Rattle.flit_model.specs.Effects.{after, answer}
use Rattle.flit_model.specs.Histories.{IsRightAt}
use Rattle.flit_model.specs.Settling.{Progress, progress_after}
use Rattle.flit_model.specs.declared.calls.Entry.{Entry}
use Rattle.flit_model.specs.declared.events.Event.{Event}
use Rattle.flit_structure.specs.declared.workers.Doing.{Doing}
use Rattle.flit_structure.specs.declared.workers.Doing.TheVariants.{Idle, Busy, Evicting}
use Rattle.flit_structure.specs.declared.workers.Worker.{Worker}
use Rattle.flit_structure.specs.Moments.{Moment}
use Rattle.flit_structure.specs.Meanings.{Meaning, Happens, making, goes_on, asks, asked_by, effect_by}
use Rattle.flit_structure.specs.Lawful.{Lawful, StandsFrom}
use Rattle.flit_structure.proofs.Names.{all_map}
use Rattle.flit_structure.proofs.Growing.{SettlesOne, settles_one}
use Rattle.flit_structure.proofs.Positions.{right_later, stands_later}
use Rattle.flit_structure.proofs.WriteBacks.{shadows_rise}
use Rattle.flit_table.specs.declared.views.Logged.{Logged}
use Rattle.flit_table.specs.declared.views.Made.{Made}
use Rattle.flit_table.specs.declared.views.Origin.{Origin}
use Rattle.flit_table.specs.declared.views.Post.{Post}
use Rattle.flit_table.specs.declared.views.View.{View}
use Rattle.flit_table.specs.Logs.{progress_of, settled_in, logged_by, Continues}
use Rattle.flit_table.specs.Views.{content_of, answered, updates_in, posts_of, all_workers, updates_seen}
use Rattle.flit_table.specs.Moves.{HasNoneQueued, tried_after, moved_post, having_moved}
use Rattle.flit_table.specs.Rule.{Account, moment_of, IsLicensedIn, IsLicensed, Agrees, Kept}
use Rattle.flit_table.specs.Orders.{IsOneMore, IsDoneFrom, StandBy}
use Rattle.flit_table.proofs.Standing.{stand_at, stand_grown}
use Rattle.flit_table.proofs.LogLaws.{log_follows, continues_same, continues_on, seen_grows}
use Rattle.flit_table.proofs.ViewWorkers.{rest_of, posts_head}
use Rattle.flit_table.proofs.Accounts.{AddsOne}
use Rattle.flit_table.proofs.Unqueued.{makes_unqueued}
use Rattle.flit_table.proofs.Changes as changes
use Rattle.flit_table.proofs.Beginning.{whole_here}

no_names : (n : ℕ) → 0 < n → n ≡ 0 → ⊥
no_names n h e = omega arith

-- what an event settles
pub record Grows (p q : Progress) : Type 0 where
  pub more : List Entry
  pub grows : q.settled ≡ p.settled ++ more
  pub adds : AddsOne p more

grows_of : (p q : Progress) (e : Event) → SettlesOne p q e → Grows p q
grows_of p q e (inl same) = record { more = []; grows = same ∙ sym (append-nil p.settled); adds = inl refl }
grows_of p q e (inr (word, kept, x, is, waits, more)) = record { more = x ∷ []; grows = more; adds = inr (word, x, waits, refl) }

module _ {S Op : Type 0} (meaning : Meaning Op) (laws : Lawful meaning) (o : Origin S) (m : State) (log : List Logged) (e : Event) where
  abbrev told : ℕ
  told = answer m e

  abbrev settled : List Entry
  settled = settled_in log

  -- the account of a worker that goes on
  moved_account : (es : List Entry) (mine : List Made) (name number count : ℕ) (doing : Doing Op) →
      Account es mine (record { name = name; number = number; doing = doing }) →
      Account es mine (record { name = name; number = number; doing = goes_on meaning count doing told })
  moved_account es mine name number count (Idle hand) a = a
  moved_account es mine name number count (Busy op call begun) a = record { more = a.more; is = a.is; one = by_more a.more a.one; below = a.below }
    where
      by_more : (more : List Entry) → IsOneMore {Op = Op} (record { name = name; number = number; doing = Busy op call begun }) more →
          IsOneMore {Op = Op} (record { name = name; number = number; doing = goes_on meaning count (Busy op call begun) told }) more
      by_more [] h = tt
      by_more (d ∷ []) h = h
      by_more (d ∷ (f ∷ fs)) h = h
  moved_account es mine name number count (Evicting evict) a = record { more = a.more; is = a.is; one = by_more a.more a.one; below = a.below }
    where
      by_more : (more : List Entry) → IsOneMore {Op = Op} (record { name = name; number = number; doing = Evicting evict }) more →
          IsOneMore {Op = Op} (record { name = name; number = number; doing = goes_on meaning count (Evicting evict) told }) more
      by_more [] h = tt
      by_more (d ∷ []) h = h
      by_more (d ∷ (f ∷ fs)) h = h

  module _ (A B : List (Worker Op)) (u : Worker Op) where
    abbrev add : List Logged
    add = logged_by e told (effect_by meaning u)

    abbrev next : Worker Op
    next = record u { doing = goes_on meaning (length settled) u.doing told }

    progress_now : progress_of (log ++ add) ≡ progress_after (progress_of log) m e (effect_by meaning u)
    progress_now = log_follows log m e (effect_by meaning u)

    -- the moment after the event, with what is read from the log
    abbrev with_progress : Progress → Moment Op
    with_progress p = record (moment_of o (after m e) (log ++ add) (A ++ next ∷ B)) { progress = p }

    event_happens : asked_by meaning u ≡ Some e → Happens meaning (Some u.name) (moment_of o m log (A ++ u ∷ B))
        (moment_of o (after m e) (log ++ add) (A ++ next ∷ B))
    event_happens asked =
        subst (λ p. Happens meaning (Some u.name) (moment_of o m log (A ++ u ∷ B)) (with_progress p)) (sym progress_now)
        (making (moment_of o m log []) A u B e asked)

    event_changes : asked_by meaning u ≡ Some e → meaning.holds (moment_of o m log (A ++ u ∷ B)) →
        changes.IsChange meaning laws o u.name (moment_of o m log (A ++ u ∷ B)) (moment_of o (after m e) (log ++ add) (A ++ next ∷ B))
    event_changes asked h =
        let g = grows_of (progress_of log) (progress_after (progress_of log) m e (effect_by meaning u)) e
        (settles_one (progress_of log) m e (effect_by meaning u)) in
        record {
          happens = event_happens asked;
          holds = h;
          more = g.more;
          grows = ap (λ (p : Progress). p.settled) progress_now ∙ g.grows;
          adds = g.adds;
          rises = shadows_rise m e;
        }

  -- the licence of an operation that goes on
  event_licensed : (A B : List (Worker Op)) (name number start tried : _) (doing : Doing Op) → asks meaning doing ≡ Some e →
      meaning.holds (moment_of o m log (A ++ record { name = name; number = number; doing = doing } ∷ B)) →
      let u : Worker Op = record { name = name; number = number; doing = doing } in
      let p : Post Op = record { worker = u; start = start; tried = tried } in
      IsLicensedIn meaning (moment_of o m log (A ++ u ∷ B)) p doing →
      IsLicensedIn meaning (moment_of o (after m e) (log ++ add A B u) (A ++ next A B u ∷ B)) (moved_post meaning (length settled) told p)
      (goes_on meaning (length settled) doing told)
  event_licensed A B name number start tried (Idle hand) asked h l = tt
  event_licensed A B name number start tried (Busy op call begun) asked h l =
      let u : Worker Op = record { name = name; number = number; doing = Busy op call begun } in
      subst (λ p. meaning.licensed (with_progress A B u p) (meaning.taken op told) start (tried_after meaning tried (Busy op call begun) told))
      (sym (progress_now A B u))
      (laws.licensed_own (moment_of o m log []) A name number op call begun B e start tried asked h l)
  event_licensed A B name number start tried (Evicting evict) asked h l = tt

  -- its call began no earlier than what was settled then
  done_further : (doing : Doing Op) (n : ℕ) → n ≤ length settled → IsDoneFrom meaning n doing → IsDoneFrom meaning n (goes_on meaning (length settled) doing told)
  done_further (Idle hand) n low d = tt
  done_further (Busy op call None) n low d = low
  done_further (Busy op call (Some begun)) n low d = d
  done_further (Evicting evict) n low d = tt

  longer_still : (n : ℕ) (es more all : List Entry) → all ≡ es ++ more → n ≤ length es → n ≤ length all
  longer_still n es more all is low = omega (arith, ap length is, length-append es more, low)

  pub moves_kept : (a b : List (View S Op)) (v : View S Op) → 0 < v.names → asked_by meaning v.post.worker ≡ Some e → Kept meaning o m log (a ++ v ∷ b) →
      Kept meaning o (after m e) (log ++ logged_by e told (effect_by meaning v.post.worker)) (a ++ having_moved meaning log e told v ∷ b)
  moves_kept a b v some asked k =
      let w = having_moved meaning log e told v in
      let u = v.post.worker in
      let longer = log ++ logged_by e told (effect_by meaning u) in
      let old : posts_of v ≡ v.post ∷ rest_of v = posts_head v some in
      let new : posts_of w ≡ w.post ∷ rest_of v = posts_head w some in
      let A = all_workers a in
      let B = changes.behind meaning laws o m (after m e) log longer a b v w (rest_of v) old new in
      let before = changes.was meaning laws o m (after m e) log longer a b v w (rest_of v) old new in
      let later = changes.becomes meaning laws o m (after m e) log longer a b v w (rest_of v) old new in
      let holds = changes.holds_was meaning laws o m (after m e) log longer a b v w (rest_of v) old new k in
      let x : Agrees meaning o log before v = changes.agrees_was meaning laws o m (after m e) log longer a b v w (rest_of v) old new k in
      let others = changes.rest_others meaning laws o m (after m e) log longer a b v w (rest_of v) old new k in
      let c = event_changes A B u asked holds in
      let continues : Continues log longer = (logged_by e told (effect_by meaning u), refl) in
      let grown = seen_grows v.log longer (continues_on v.log log longer x.begins continues) in
      let accounts : AllByRecursion (λ p. Account settled v.mine p.worker) (v.post ∷ rest_of v) =
      subst (AllByRecursion (λ p. Account settled v.mine p.worker)) old x.accounts in
      let licences : AllByRecursion (IsLicensed meaning before) (v.post ∷ rest_of v) = subst (AllByRecursion (IsLicensed meaning before)) old x.licensed in
      let account = moved_account (settled_in longer) v.mine u.name u.number (length settled) u.doing
      (changes.own_account meaning laws o u.name before later c v.mine u (A, B, refl) accounts.0) in
      let licence = event_licensed A B u.name u.number v.post.start v.post.tried u.doing asked holds licences.0 in
      let stands : AllByRecursion (λ p. StandBy meaning (updates_seen v) v.mine v.placed p.worker) (v.post ∷ rest_of v) =
      subst (AllByRecursion (λ p. StandBy meaning (updates_seen v) v.mine v.placed p.worker)) old x.stand in
      let seen = seen_grows v.log log x.begins in
      let seen_low : (n : ℕ) → n ≤ length (updates_seen v) → n ≤ length settled = λ n low. longer_still n (updates_seen v) seen.0 settled seen.1 low in
      let own : Agrees meaning o longer later w = record {
        opened = x.opened;
        begins = continues_same longer;
        notes = continues_on v.note v.log longer x.notes (continues_on v.log log longer x.begins continues);
        bare = λ none. absurd (no_names v.names some none);
        items = x.items;
        counted = (inl refl, x.counted);
        accounts = subst (AllByRecursion (λ p. Account (settled_in longer) v.mine p.worker)) (sym new)
            (account, changes.accounts_on meaning laws o u.name before later c v.mine (rest_of v) others accounts.1);
        licensed = subst (AllByRecursion (IsLicensed meaning later)) (sym new)
            (licence, changes.licences_on meaning laws o u.name before later c (rest_of v) others licences.1);
        queued = λ one. (let h = subst (AllByRecursion (HasNoneQueued meaning)) old (x.queued one) in
            subst (AllByRecursion (HasNoneQueued meaning)) (sym new)
            (makes_unqueued meaning laws (moment_of o m log []) A B u.name u.number (length settled) u.doing e one asked holds h.0, h.1));
        stand = subst (λ es. AllByRecursion (λ p. StandBy meaning es v.mine v.placed p.worker) (posts_of w)) (sym grown.1)
            (subst (AllByRecursion (λ p. StandBy meaning (updates_seen v ++ grown.0) v.mine v.placed p.worker)) (sym new) (
              stand_grown meaning (updates_seen v) v.mine v.placed grown.0 w.post.worker
                  (stand_at meaning (updates_seen v) v.mine v.placed u.name u.number u.number u.doing w.post.worker.doing
                  (λ n low d. done_further u.doing n (seen_low n low) d) stands.0),
              all_map (λ p. StandBy meaning (updates_seen v) v.mine v.placed p.worker) (λ p. StandBy meaning (updates_seen v ++ grown.0) v.mine v.placed p.worker)
                  (λ p s. stand_grown meaning (updates_seen v) v.mine v.placed grown.0 p.worker s) (rest_of v) stands.1,
            ));
        settled = all_map (StandsFrom 0 (updates_seen v)) (StandsFrom 0 (updates_seen w))
            (λ d h. subst (λ es. StandsFrom 0 es d) (sym grown.1) (stands_later 0 (updates_seen v) grown.0 d h)) (updates_in v.mine) x.settled;
        reads = x.reads;
        right = all_map (IsRightAt (content_of o) (updates_seen v)) (IsRightAt (content_of o) (updates_seen w))
            (λ r h. subst (λ es. IsRightAt (content_of o) es r) (sym grown.1) (right_later (content_of o) (updates_seen v) grown.0 r h)) v.placed x.right;
        bounded = changes.bounds_on meaning laws o u.name before later c (answered v.mine) x.bounded;
      } in
      changes.kept_changed meaning laws o m (after m e) log longer a b v w (rest_of v) old new k c continues own (whole_here longer a b w refl)
