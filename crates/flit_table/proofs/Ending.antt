-- A worker that has made an event is done with its item, where that was the last, and the rule is kept.
use Rattle.std.proofs.Common.{◌≡◌, ap, ℕ, ◌<◌, ◌≤◌, List, [], ◌∷◌, ◌++◌, map, refl, sym, subst, Option, Some, None, append-nil}
use Rattle.std.specs.List.{AllByRecursion}
use Rattle.flit_model.specs.States.{State}
use Rattle.flit_model.specs.Histories.{IsRightAt}
use Rattle.flit_model.specs.declared.calls.Call.{Call}
use Rattle.flit_model.specs.declared.calls.Entry.{Entry}
use Rattle.flit_model.specs.declared.calls.Placed.{Placed}
use Rattle.flit_model.specs.declared.calls.Reply.{Reply}
use Rattle.flit_model.specs.declared.events.Event.{Event}
use Rattle.flit_pv.specs.declared.evicts.Evict.{Evict}
use Rattle.flit_pv.specs.Evicts.{evict_asked}
use Rattle.flit_structure.specs.declared.workers.Doing.{Doing}
use Rattle.flit_structure.specs.declared.workers.Doing.TheVariants.{Idle, Busy, Evicting}
use Rattle.flit_structure.specs.declared.workers.Worker.{Worker}
use Rattle.flit_structure.specs.Moments.{Moment, idle, busy, sweeper}
use Rattle.flit_structure.specs.Meanings.{Meaning, Happens, finishing, evicted, first_at, replied, tally}
use Rattle.flit_structure.specs.Lawful.{Lawful, StandsFrom, IsReplied}
use Rattle.flit_table.specs.declared.views.Logged.{Logged}
use Rattle.flit_table.specs.declared.views.Made.{Made}
use Rattle.flit_table.specs.declared.views.Made.TheVariants.{Evicted}
use Rattle.flit_table.specs.declared.views.Origin.{Origin}
use Rattle.flit_table.specs.declared.views.View.{View}
use Rattle.flit_table.specs.Logs.{progress_of, settled_in}
use Rattle.flit_table.specs.Views.{content_of, updates_in, reads_in, updates_seen, all_workers}
use Rattle.flit_table.specs.Moves.{first_in, call_over, evict_over, over, rests_after_call, rests_after_evict, rests, tally_in}
use Rattle.flit_table.specs.Rule.{Account, moment_of, Kept}
use Rattle.flit_table.specs.Orders.{IsOneMore}
use Rattle.flit_table.proofs.ViewWorkers.{behind_first, all_around}
use Rattle.flit_table.proofs.Accounts.{account_behind}
use Rattle.flit_table.proofs.Beginning.{quiet_change}
use Rattle.flit_table.specs.Orders.{StandBy}
use Rattle.flit_table.proofs.Standing.{stand_at, stand_behind, replied_stands}
use Rattle.flit_table.proofs.Resting as resting
use Rattle.flit_table.proofs.Replying as replying

evict_account : {Op : Type 0} (settled : List Entry) (mine : List Made) (name number : ℕ) (evict : Evict) →
    Account {Op = Op} settled mine (sweeper name number evict) →
    Account {Op = Op} settled mine (idle name number evict.hand)
evict_account {Op} settled mine name number evict a = record { more = a.more; is = a.is; one = by_more a.more a.one; below = a.below }
  where
    by_more : (more : List Entry) → IsOneMore {Op = Op} (sweeper name number evict) more → IsOneMore {Op = Op} (idle name number evict.hand) more
    by_more [] h = tt
    by_more (d ∷ []) h = h
    by_more (d ∷ (f ∷ fs)) h = h

evict_item : {Op : Type 0} (settled : List Entry) (mine : List Made) (u : Worker Op) (name word : ℕ) → Account settled mine u →
    Account settled (mine ++ Evicted name word ∷ []) u
evict_item settled mine u name word a = account_behind settled u mine (Evicted name word ∷ []) tt a

module _ {S Op : Type 0} (meaning : Meaning Op) (laws : Lawful meaning) (o : Origin S) (m : State) (log : List Logged) (a b : List (View S Op)) (v : View S Op)
    (some : 0 < v.names) (whole : v.log ≡ log) (k : Kept meaning o m log (a ++ v ∷ b)) where
  abbrev name : ℕ
  name = v.post.worker.name

  abbrev number : ℕ
  number = v.post.worker.number

  abbrev A : List (Worker Op)
  A = all_workers a

  abbrev B : List (Worker Op)
  B = behind_first v b

  abbrev at : Doing Op → Moment Op
  at doing = moment_of o m log (A ++ record { name = name; number = number; doing = doing } ∷ B)

  abbrev view_with : Doing Op → List Made → List Placed → View S Op
  view_with doing items reads = resting.resting meaning laws o m log a b v some doing items reads

  holds_here : meaning.holds (at v.post.worker.doing)
  holds_here = subst (λ us. meaning.holds (moment_of o m log us)) (all_around a b v some) k.holds

  pub record RestsWith (from : ℕ) (doing : Doing Op) (items : List Made) : Type 0 where
    pub reads : List Placed
    pub kept : Kept meaning o m log (a ++ view_with doing items reads ∷ b)
    pub late : AllByRecursion (λ r. from ≤ r.position) reads
    pub are : map (λ r. r.entry) reads ≡ reads_in items

  stays : (from : ℕ) (doing : Doing Op) → v.post.worker.doing ≡ doing → RestsWith from doing []
  stays from doing e = record {
    reads = [];
    kept = subst (λ w. Kept meaning o m log (a ++ w ∷ b)) (λ i. record v {
      post = record v.post { worker = record v.post.worker { doing = e i } };
      mine =
          sym (append-nil v.mine) i;
      placed = sym (append-nil v.placed) i;
    }) k;
    late = tt;
    are = refl;
  }

  says : (op : Op) (call : Call) (begun : Option ℕ) (reply : Reply) → v.post.worker.doing ≡ Busy op call begun → replied meaning op ≡ Some reply →
      IsReplied meaning.layout meaning.room (content_of o) m (progress_of log) name number call (first_at 0 begun) reply
  says op call begun reply e is = laws.replies (moment_of o m log []) A name number op call begun reply B is (subst (λ d. meaning.holds (at d)) e holds_here)

  call_rests : (op : Op) (call : Call) (begun : Option ℕ) → v.post.worker.doing ≡ Busy op call begun → (r : Option Reply) → replied meaning op ≡ r →
      RestsWith (first_at 0 begun) (rests_after_call (Busy op call begun) (meaning.finished op) r) (call_over name number call r)
  call_rests op call begun e None is = stays (first_at 0 begun) (Busy op call begun) e
  call_rests op call begun e (Some reply) is =
      let hand = meaning.finished op in
      let items = call_over name number call (Some reply) in
      let r = says op call begun reply e is in
      let placed = replying.replied_reads (settled_in log) v.mine name number op call begun hand meaning.layout meaning.room (content_of o) m (progress_of log)
      (first_at 0 begun) reply refl r in
      let happens : Happens meaning (Some name) (at v.post.worker.doing) (at (Idle hand)) =
      subst (λ d. Happens meaning (Some name) (at d) (at (Idle hand))) (sym e) (finishing (moment_of o m log []) A name number op call begun reply B is) in
      let busy_account : Account (settled_in log) v.mine v.post.worker → Account (settled_in log) v.mine (busy name number op call begun) =
      subst (λ d. Account (settled_in log) v.mine v.post.worker → Account (settled_in log) v.mine (record { name = name; number = number; doing = d })) e (λ x. x) in
      let own_account : Account (settled_in log) v.mine v.post.worker → Account {Op = Op} (settled_in log) (v.mine ++ items) (idle name number hand) =
      subst (λ d. Account (settled_in log) v.mine (record { name = name; number = number; doing = d }) →
      Account {Op = Op} (settled_in log) (v.mine ++ items) (idle name number hand)) (sym e)
      (replying.replied_account (settled_in log) v.mine name number op call begun hand meaning.layout meaning.room (content_of o) m (progress_of log)
      (first_at 0 begun) reply refl r) in
      let comes : resting.Comes meaning o log (at (Idle hand)) v (Idle hand) items placed.reads = record {
        named = (refl, tt);
        account = own_account;
        licence = tt;
        unqueued = subst (λ d. (tally_in meaning d).queued ≡ 0 → (tally meaning op).queued ≡ 0) (sym e) (λ h. h);
        settled = subst (λ l. AllByRecursion (StandsFrom 0 (settled_in l)) (updates_in items)) (sym whole)
            (replying.replied_settled (settled_in log) v.mine name number op call begun hand meaning.layout meaning.room (content_of o) m (progress_of log)
            (first_at 0 begun) reply refl r);
        are = placed.are;
        right = subst (λ l. AllByRecursion (IsRightAt (content_of o) (settled_in l)) placed.reads) (sym whole) placed.right;
        bounded = (r.bounded, tt);
        stands = λ acc are s. subst (λ es. StandBy meaning es (v.mine ++ items) (v.placed ++ placed.reads) (idle name number hand)) (ap settled_in (sym whole))
            (replied_stands meaning (content_of o) (settled_in log) v.mine v.placed name number op call begun hand reply is (busy_account acc) (own_account acc) are
            (subst (λ d. StandBy meaning (settled_in log) v.mine v.placed (record { name = name; number = number; doing = d })) e
            (subst (λ es. StandBy meaning es v.mine v.placed v.post.worker) (ap settled_in whole) s)) placed.reads placed.are placed.late placed.right);
      } in
      record {
        reads = placed.reads;
        kept = resting.rest_kept meaning laws o m log a b v some (Idle hand) items placed.reads k
            (quiet_change meaning laws o m log name (A ++ v.post.worker ∷ B) (A ++ idle name number hand ∷ B) happens holds_here) comes;
        late = placed.late;
        are = placed.are;
      }

  evict_rests : (evict : Evict) → v.post.worker.doing ≡ Evicting evict → (r : Option Event) → evict_asked evict ≡ r →
      RestsWith 0 (rests_after_evict (Evicting evict) evict.hand r) (evict_over name evict r)
  evict_rests evict e (Some event) is = stays 0 (Evicting evict) e
  evict_rests evict e None is =
      let items = evict_over name evict None in
      let happens : Happens meaning (Some name) (at v.post.worker.doing) (at (Idle evict.hand)) =
      subst (λ d. Happens meaning (Some name) (at d) (at (Idle evict.hand))) (sym e) (evicted (moment_of o m log []) A name number evict B) in
      let comes : resting.Comes meaning o log (at (Idle evict.hand)) v (Idle evict.hand) items [] = record {
        named = (refl, tt);
        account = subst (λ d. Account (settled_in log) v.mine (record { name = name; number = number; doing = d }) →
            Account {Op = Op} (settled_in log) (v.mine ++ items) (idle name number evict.hand)) (sym e)
            (λ x. evict_item (settled_in log) v.mine (idle name number evict.hand) name evict.word (evict_account (settled_in log) v.mine name number evict x));
        licence = tt;
        unqueued = subst (λ d. (tally_in meaning d).queued ≡ 0 → evict.hand.tally.queued ≡ 0) (sym e) (λ h. h);
        settled = tt;
        are = refl;
        right = tt;
        bounded = tt;
        stands = λ acc are s. stand_at meaning (updates_seen v) (v.mine ++ items) (v.placed ++ []) name number number v.post.worker.doing (Idle evict.hand)
            (λ n low d. tt) (stand_behind meaning (updates_seen v) v.mine v.placed items [] v.post.worker tt tt s);
      } in
      record {
        reads = [];
        kept = resting.rest_kept meaning laws o m log a b v some (Idle evict.hand) items [] k
            (quiet_change meaning laws o m log name (A ++ v.post.worker ∷ B) (A ++ idle name number evict.hand ∷ B) happens holds_here) comes;
        late = tt;
        are = refl;
      }

  rests_at : (doing : Doing Op) → v.post.worker.doing ≡ doing → RestsWith (first_in doing) (rests meaning doing) (over meaning name number doing)
  rests_at (Idle hand) e = stays 0 (Idle hand) e
  rests_at (Busy op call begun) e = call_rests op call begun e (replied meaning op) refl
  rests_at (Evicting evict) e = evict_rests evict e (evict_asked evict) refl

  -- with the reads that have their places now
  pub rests_kept : RestsWith (first_in v.post.worker.doing) (rests meaning v.post.worker.doing) (over meaning name number v.post.worker.doing)
  rests_kept = rests_at v.post.worker.doing refl
