-- Stretches of the workers change places, and what is true of a view stays.
use Rattle.std.proofs.Common.{◌≡◌, ◌≢◌, ℕ, List, [], ◌∷◌, ◌++◌, sym, subst, Some, None}
use Rattle.std.specs.List.{AllByRecursion}
use Rattle.flit_model.specs.States.{State}
use Rattle.flit_structure.specs.declared.workers.Doing.{Doing}
use Rattle.flit_structure.specs.declared.workers.Doing.TheVariants.{Idle, Busy, Evicting}
use Rattle.flit_structure.specs.declared.workers.Worker.{Worker}
use Rattle.flit_structure.specs.Moments.{Moment, IsAmong}
use Rattle.flit_structure.specs.Meanings.{Meaning, Happens, reordering}
use Rattle.flit_structure.specs.Lawful.{Lawful}
use Rattle.flit_structure.proofs.Names.{all_left, all_right}
use Rattle.flit_table.specs.declared.views.Logged.{Logged}
use Rattle.flit_table.specs.declared.views.Origin.{Origin}
use Rattle.flit_table.specs.declared.views.Post.{Post}
use Rattle.flit_table.specs.declared.views.View.{View}
use Rattle.flit_table.specs.Views.{workers_of, posts_of, all_workers}
use Rattle.flit_table.specs.Rule.{moment_of, IsLicensedIn, IsLicensed, Agrees}
use Rattle.flit_table.proofs.ViewWorkers.{posts_all, all_zip}

module _ {S Op : Type 0} (meaning : Meaning Op) (laws : Lawful meaning) (o : Origin S) (m : State) (log : List Logged) (us ws : List (Worker Op)) where
  abbrev M : Moment Op
  M = moment_of o m log us

  abbrev N : Moment Op
  N = moment_of o m log ws

  module _ (holds : meaning.holds M) (happens : Happens meaning None M N) where
    licence_stays : (p : Post Op) (doing : Doing Op) → IsAmong us (record { name = p.worker.name; number = p.worker.number; doing = doing }) →
        IsLicensedIn meaning M p doing → IsLicensedIn meaning N p doing
    licence_stays p (Idle hand) among l = tt
    licence_stays p (Busy op call begun) among l = laws.licensed_kept M N None p.worker.name p.worker.number op call begun p.start p.tried happens
        (no_name p.worker.name) among holds l
      where
        no_name : (n : ℕ) → None ≢ Some n
        no_name n q = cc
    licence_stays p (Evicting evict) among l = tt

    pub licences_stay : (ps : List (Post Op)) → AllByRecursion (IsAmong us) (workers_of ps) → AllByRecursion (IsLicensed meaning M) ps →
        AllByRecursion (IsLicensed meaning N) ps
    licences_stay ps among h =
        all_zip (λ p. IsAmong us p.worker) (IsLicensed meaning M) (IsLicensed meaning N) (λ p k l. licence_stays p p.worker.doing k l) ps
        (posts_all (IsAmong us) ps among) h

    pub agrees_stays : (v : View S Op) → AllByRecursion (IsAmong us) (workers_of (posts_of v)) → Agrees meaning o log M v → Agrees meaning o log N v
    agrees_stays v among a = record {
      opened = a.opened;
      begins = a.begins;
      notes = a.notes;
      bare = a.bare;
      items = a.items;
      counted = a.counted;
      accounts = a.accounts;
      licensed = licences_stay (posts_of v) among a.licensed;
      queued = a.queued;
      stand = a.stand;
      settled = a.settled;
      reads = a.reads;
      right = a.right;
      bounded = a.bounded;
    }

    pub views_stay : (vs : List (View S Op)) → AllByRecursion (IsAmong us) (all_workers vs) → AllByRecursion (Agrees meaning o log M) vs →
        AllByRecursion (Agrees meaning o log N) vs
    views_stay [] among h = tt
    views_stay (v ∷ vs) among h = (
      agrees_stays v (all_left (IsAmong us) (workers_of (posts_of v)) (all_workers vs) among) h.0,
      views_stay vs (all_right (IsAmong us) (workers_of (posts_of v)) (all_workers vs) among) h.1,
    )

  pub stretches_happen : (a x y b : List (Worker Op)) → us ≡ a ++ (x ++ (y ++ b)) → ws ≡ a ++ (y ++ (x ++ b)) → Happens meaning None M N
  stretches_happen a x y b e f =
      subst (λ z. Happens meaning None (moment_of o m log z) N) (sym e)
      (subst (λ z. Happens meaning None (moment_of o m log (a ++ (x ++ (y ++ b)))) (moment_of o m log z)) (sym f) (reordering (moment_of o m log []) a x y b))
