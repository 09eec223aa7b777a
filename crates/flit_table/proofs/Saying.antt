-- What the rule says of the table and of each view.
use Rattle.std.proofs.Common.{◌≡◌, List, ◌∷◌, ◌++◌, sym, subst}
use Rattle.std.specs.List.{AllByRecursion}
use Rattle.flit_model.specs.Histories.{history_of}
use Rattle.flit_model.proofs.HistoryLaws.{all_weaker, legal_from, map_from, right_from_start}
use Rattle.flit_model.proofs.Legal.{legal_front}
use Rattle.flit_model.specs.Maps.{IsLegal, map_after_all}
use Rattle.flit_model.specs.States.{State}
use Rattle.flit_model.specs.declared.calls.Entry.{Entry}
use Rattle.flit_structure.specs.Meanings.{Meaning}
use Rattle.flit_structure.specs.Lawful.{Lawful}
use Rattle.flit_structure.proofs.Names.{all_at}
use Rattle.flit_structure.proofs.Waiting.{shadows_recover}
use Rattle.flit_table.specs.declared.views.Logged.{Logged}
use Rattle.flit_table.specs.declared.views.Origin.{Origin}
use Rattle.flit_table.specs.declared.views.View.{View}
use Rattle.flit_table.specs.Logs.{settled_in}
use Rattle.flit_table.specs.Views.{content_of, posts_of, updates_seen, history_seen, all_workers}
use Rattle.flit_table.specs.Orders.{StandBy, StandInOrder, AreInOrder}
use Rattle.flit_table.proofs.Standing.{stand_grown, stands_in_order, account_seen}
use Rattle.flit_table.proofs.ViewWorkers.{all_zip}
use Rattle.flit_table.specs.Rule.{Account, moment_of, Agrees, Kept}
use Rattle.flit_table.proofs.LogLaws.{seen_grows}

module _ {S Op : Type 0} (meaning : Meaning Op) (laws : Lawful meaning) (o : Origin S) (m : State) (log : List Logged) (a b : List (View S Op)) (v : View S Op)
    (k : Kept meaning o m log (a ++ v ∷ b)) where
  pub here : Agrees meaning o log (moment_of o m log (all_workers (a ++ v ∷ b))) v
  here = all_at (Agrees meaning o log (moment_of o m log (all_workers (a ++ v ∷ b)))) a b v k.each

  pub seen_first : (more : List Entry) × (settled_in log ≡ updates_seen v ++ more)
  seen_first = seen_grows v.log log here.begins

  -- the calls of each name stand in order, in what the view has seen and among all settled updates
  pub in_order : AreInOrder v
  in_order = all_zip (λ p. StandBy meaning (updates_seen v) v.mine v.placed p.worker) (λ p. Account (settled_in log) v.mine p.worker)
      (λ p. StandInOrder (history_seen v) v.mine p.worker)
      (λ p s x. stands_in_order meaning (updates_seen v) v.mine v.placed p.worker s (account_seen meaning (updates_seen v) v.mine v.placed p.worker s seen_first.0
      (subst (λ es. Account es v.mine p.worker) seen_first.1 x)))
      (posts_of v) here.stand here.accounts

  pub whole_order : AllByRecursion (λ p. StandInOrder (history_of (settled_in log) v.placed) v.mine p.worker) (posts_of v)
  whole_order = all_zip (λ p. StandBy meaning (updates_seen v) v.mine v.placed p.worker) (λ p. Account (settled_in log) v.mine p.worker)
      (λ p. StandInOrder (history_of (settled_in log) v.placed) v.mine p.worker)
      (λ p s x. stands_in_order meaning (settled_in log) v.mine v.placed p.worker (subst (λ es. StandBy meaning es v.mine v.placed p.worker) (sym seen_first.1)
      (stand_grown meaning (updates_seen v) v.mine v.placed seen_first.0 p.worker s)) x)
      (posts_of v) here.stand here.accounts

  pub seen_legal : IsLegal (content_of o) (updates_seen v)
  seen_legal =
      let all : IsLegal (content_of o) (settled_in log) = (shadows_recover meaning laws (moment_of o m log (all_workers (a ++ v ∷ b))) k.holds).legal in
      legal_front (content_of o) (updates_seen v) seen_first.0 (subst (IsLegal (content_of o)) seen_first.1 all)

  pub history_legal : IsLegal (content_of o) (history_seen v)
  history_legal = legal_from (content_of o) 0 (updates_seen v) v.placed seen_legal
      (all_weaker _ _ v.placed (right_from_start (content_of o) (updates_seen v)) here.right)

  pub history_map : map_after_all (content_of o) (history_seen v) ≡ map_after_all (content_of o) (updates_seen v)
  history_map = map_from (content_of o) 0 (updates_seen v) v.placed (all_weaker _ _ v.placed (right_from_start (content_of o) (updates_seen v)) here.right)
