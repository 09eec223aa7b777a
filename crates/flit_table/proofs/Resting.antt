-- A worker is done with its item, and the rule is kept.
use Rattle.std.proofs.Common.{◌≡◌, ◌≢◌, inl, ℕ, ◌<◌, List, [], ◌∷◌, ◌++◌, filter, map, sym, ◌∙◌, ap, subst}
use Rattle.std.proofs.lemmas.List.{map-append}
use Rattle.std.proofs.lemmas.List.Elements.{filter-append}
use Rattle.std.specs.List.{AllByRecursion}
use Rattle.flit_model.specs.States.{State}
use Rattle.flit_model.specs.Histories.{is_read, IsRightAt}
use Rattle.flit_model.specs.declared.calls.Placed.{Placed}
use Rattle.flit_structure.specs.declared.workers.Doing.{Doing}
use Rattle.flit_structure.specs.Moments.{Moment}
use Rattle.flit_structure.specs.Meanings.{Meaning}
use Rattle.flit_structure.specs.Lawful.{Lawful, StandsFrom}
use Rattle.flit_structure.proofs.Names.{all_both, all_map}
use Rattle.flit_table.specs.declared.views.Logged.{Logged}
use Rattle.flit_table.specs.declared.views.Made.{Made}
use Rattle.flit_table.specs.declared.views.Made.TheVariants.{Answered, Evicted}
use Rattle.flit_table.specs.declared.views.Origin.{Origin}
use Rattle.flit_table.specs.declared.views.View.{View}
use Rattle.flit_table.specs.Logs.{settled_in}
use Rattle.flit_table.specs.Views.{content_of, name_of, answered, updates_in, reads_in, HasName, workers_of, used_of, posts_of, updates_seen}
use Rattle.flit_table.specs.Moves.{HasNoneQueued, tally_in}
use Rattle.flit_table.specs.Orders.{StandBy}
use Rattle.flit_table.proofs.Standing.{stand_behind, no_reads_of}
use Rattle.flit_table.specs.Rule.{Account, IsLicensed, IsWithinBounds, Agrees, Kept}
use Rattle.flit_table.proofs.LogLaws.{continues_same}
use Rattle.flit_table.proofs.ViewWorkers.{IsOther, rest_of, posts_head, posts_all, all_zip}
use Rattle.flit_table.proofs.Accounts.{NoneOf, answered-append, updates-append, account_behind}
use Rattle.flit_table.proofs.Changes as changes
use Rattle.flit_table.proofs.Beginning.{whole_put}

pub reads-append : (xs ys : List Made) → reads_in (xs ++ ys) ≡ reads_in xs ++ reads_in ys
reads-append xs ys = ap (filter is_read) (answered-append xs ys) ∙ filter-append is_read (answered xs) (answered ys)

-- the entries of items of one name are of this name
named_entries : (name : ℕ) (items : List Made) → AllByRecursion (λ i. name_of i ≡ name) items → AllByRecursion (λ e. e.worker ≡ name) (answered items)
named_entries name [] h = tt
named_entries name (Answered e ∷ items) h = (h.0, named_entries name items h.1)
named_entries name (Evicted n word ∷ items) h = named_entries name items h.1

others_entries : (name other : ℕ) (items : List Made) → other ≢ name → AllByRecursion (λ i. name_of i ≡ name) items → NoneOf other (answered items)
others_entries name other items apart h = all_map (λ e. e.worker ≡ name) (λ e. e.worker ≢ other) (λ e q r. apart (sym r ∙ q)) (answered items)
    (named_entries name items h)

-- what comes of an item that is over, seen from the view and the moment in which it is
pub record Comes {S Op : Type 0} (meaning : Meaning Op) (o : Origin S) (log : List Logged) (M : Moment Op) (v : View S Op) (doing : Doing Op)
    (items : List Made) (reads : List Placed) : Type 0 where
  pub named : AllByRecursion (λ i. name_of i ≡ v.post.worker.name) items
  pub account : Account (settled_in log) v.mine v.post.worker → Account (settled_in log) (v.mine ++ items) (record v.post.worker { doing = doing })
  pub licence : IsLicensed meaning M (record v.post { worker = record v.post.worker { doing = doing } })
  pub unqueued : HasNoneQueued meaning v.post → (tally_in meaning doing).queued ≡ 0
  pub settled : AllByRecursion (StandsFrom 0 (updates_seen v)) (updates_in items)
  pub are : map (λ r. r.entry) reads ≡ reads_in items
  pub right : AllByRecursion (IsRightAt (content_of o) (updates_seen v)) reads
  pub bounded : AllByRecursion (IsWithinBounds meaning M) (answered items)
  pub stands : Account (settled_in log) v.mine v.post.worker → map (λ r. r.entry) v.placed ≡ reads_in v.mine →
      StandBy meaning (updates_seen v) v.mine v.placed v.post.worker →
      StandBy meaning (updates_seen v) (v.mine ++ items) (v.placed ++ reads) (record v.post.worker { doing = doing })

module _ {S Op : Type 0} (meaning : Meaning Op) (laws : Lawful meaning) (o : Origin S) (m : State) (log : List Logged) (a b : List (View S Op)) (v : View S Op)
    (some : 0 < v.names) where
  module _ (doing : Doing Op) (items : List Made) (reads : List Placed) where
    abbrev pub resting : View S Op
    resting = record v { post = record v.post { worker = record v.post.worker { doing = doing } }; mine = v.mine ++ items; placed = v.placed ++ reads }

    abbrev old : posts_of v ≡ v.post ∷ rest_of v
    old = posts_head v some

    abbrev new : posts_of resting ≡ resting.post ∷ rest_of v
    new = posts_head resting some

    abbrev pub before : Moment Op
    before = changes.was meaning laws o m m log log a b v resting (rest_of v) old new

    abbrev pub later : Moment Op
    later = changes.becomes meaning laws o m m log log a b v resting (rest_of v) old new

    rest_accounts : AllByRecursion (λ i. name_of i ≡ v.post.worker.name) items →
        AllByRecursion (IsOther before.workers v.post.worker.name) (workers_of (rest_of v)) →
        AllByRecursion (λ p. Account (settled_in log) v.mine p.worker) (rest_of v) →
        AllByRecursion (λ p. Account (settled_in log) (v.mine ++ items) p.worker) (rest_of v)
    rest_accounts named others h =
        all_zip (λ p. IsOther before.workers v.post.worker.name p.worker) (λ p. Account (settled_in log) v.mine p.worker)
        (λ p. Account (settled_in log) (v.mine ++ items) p.worker)
        (λ p k x. account_behind (settled_in log) p.worker v.mine items (others_entries v.post.worker.name p.worker.name items k.apart named) x)
        (rest_of v) (posts_all (IsOther before.workers v.post.worker.name) (rest_of v) others) h

    rest_stands : AllByRecursion (λ i. name_of i ≡ v.post.worker.name) items → map (λ r. r.entry) reads ≡ reads_in items →
        AllByRecursion (IsOther before.workers v.post.worker.name) (workers_of (rest_of v)) →
        AllByRecursion (λ p. StandBy meaning (updates_seen v) v.mine v.placed p.worker) (rest_of v) →
        AllByRecursion (λ p. StandBy meaning (updates_seen v) (v.mine ++ items) (v.placed ++ reads) p.worker) (rest_of v)
    rest_stands named are others h =
        all_zip (λ p. IsOther before.workers v.post.worker.name p.worker) (λ p. StandBy meaning (updates_seen v) v.mine v.placed p.worker)
        (λ p. StandBy meaning (updates_seen v) (v.mine ++ items) (v.placed ++ reads) p.worker)
        (λ p k x. let none = others_entries v.post.worker.name p.worker.name items k.apart named in
        stand_behind meaning (updates_seen v) v.mine v.placed items reads p.worker none (no_reads_of p.worker.name items reads none are) x)
        (rest_of v) (posts_all (IsOther before.workers v.post.worker.name) (rest_of v) others) h

    pub rest_kept : Kept meaning o m log (a ++ v ∷ b) → changes.IsChange meaning laws o v.post.worker.name before later →
        Comes meaning o log later v doing items reads → Kept meaning o m log (a ++ resting ∷ b)
    rest_kept k c i =
        let x : Agrees meaning o log before v = changes.agrees_was meaning laws o m m log log a b v resting (rest_of v) old new k in
        let others = changes.rest_others meaning laws o m m log log a b v resting (rest_of v) old new k in
        let accounts : AllByRecursion (λ p. Account (settled_in log) v.mine p.worker) (v.post ∷ rest_of v) =
        subst (AllByRecursion (λ p. Account (settled_in log) v.mine p.worker)) old x.accounts in
        let licences : AllByRecursion (IsLicensed meaning before) (v.post ∷ rest_of v) = subst (AllByRecursion (IsLicensed meaning before)) old x.licensed in
        let stands : AllByRecursion (λ p. StandBy meaning (updates_seen v) v.mine v.placed p.worker) (v.post ∷ rest_of v) =
        subst (AllByRecursion (λ p. StandBy meaning (updates_seen v) v.mine v.placed p.worker)) old x.stand in
        let own : Agrees meaning o log later resting = record {
          opened = x.opened;
          begins = x.begins;
          notes = x.notes;
          bare = x.bare;
          items = all_both (λ y. HasName (name_of y) (used_of v)) v.mine items x.items
              (all_map (λ y. name_of y ≡ v.post.worker.name) (λ y. HasName (name_of y) (used_of v)) (λ y e. inl (sym e)) items i.named);
          counted = x.counted;
          accounts = subst (AllByRecursion (λ p. Account (settled_in log) (v.mine ++ items) p.worker)) (sym new)
              (i.account accounts.0, rest_accounts i.named others accounts.1);
          licensed = subst (AllByRecursion (IsLicensed meaning later)) (sym new)
              (i.licence, changes.licences_on meaning laws o v.post.worker.name before later c (rest_of v) others licences.1);
          queued = λ one. (let h = subst (AllByRecursion (HasNoneQueued meaning)) old (x.queued one) in
              subst (AllByRecursion (HasNoneQueued meaning)) (sym new) (i.unqueued h.0, h.1));
          stand = subst (AllByRecursion (λ p. StandBy meaning (updates_seen v) (v.mine ++ items) (v.placed ++ reads) p.worker)) (sym new)
              (i.stands accounts.0 x.reads stands.0, rest_stands i.named i.are others stands.1);
          settled = subst (AllByRecursion (StandsFrom 0 (updates_seen v))) (sym (updates-append v.mine items))
              (all_both (StandsFrom 0 (updates_seen v)) (updates_in v.mine) (updates_in items) x.settled i.settled);
          reads = map-append (λ r. r.entry) v.placed reads ∙ ap (λ es. es ++ map (λ r. r.entry) reads) x.reads ∙ ap (λ es. reads_in v.mine ++ es) i.are
              ∙ sym (reads-append v.mine items);
          right = all_both (IsRightAt (content_of o) (updates_seen v)) v.placed reads x.right i.right;
          bounded = subst (AllByRecursion (IsWithinBounds meaning later)) (sym (answered-append v.mine items))
              (all_both (IsWithinBounds meaning later) (answered v.mine) (answered items) x.bounded i.bounded);
        } in
        changes.kept_changed meaning laws o m m log log a b v resting (rest_of v) old new k c (continues_same log) own
        (whole_put log a b v resting (λ e. e) k.longest)
