-- Where a call goes on when its machine has ended, by what it is.
use Rattle.std.proofs.Common.{◌≡◌, ℕ, ◌≤◌, true, List, [], length, drop, Contains, is_none, sym, ◌∙◌, ap, subst}
use Rattle.std.proofs.lemmas.Bool.{false≢true}
use Rattle.flit_words.specs.declared.layouts.Layout.{Layout}
use Rattle.flit_model.specs.declared.calls.Call.{Call}
use Rattle.flit_model.specs.declared.calls.Reply.{Reply}
use Rattle.flit_place.specs.Tags.{Place}
use Rattle.flit_pv.specs.declared.hands.Hand.{Hand}
use Rattle.flit_pv.specs.Queues.{first_persist}
use Rattle.flit_rows.specs.Shares.{rows_in, IsOnce}
use Rattle.flit_runs.specs.Workings.{leaves}
use Rattle.flit_structure.specs.Meanings.{IsServed}
use Rattle.flit_structure.specs.Lawful.{rows_needed}
use Rattle.flit_crew.specs.Machines.{has_ended, working_in}
use Rattle.flit_crew.specs.Accounts.{AreTight}
use Rattle.flit_crew.specs.Crews.{Who, Goes, Facts, OwnsRows, left}
use Rattle.flit_tree_heap.specs.Views.{TreeHeap, IsTreeLayout}
use Rattle.flit_tree_heap.specs.Kept.{IsKept}
use Rattle.flit_tree_steps.specs.declared.operations.Path.{Path}
use Rattle.flit_tree_steps.specs.Operations.{At, Root, Key, Edge, Rows, LeafWords, LeafValue, InnerWords, Link, Flag, Sibling, Freeze, Swing, Value, Ends, Rests, HeldOp}
use Rattle.flit_tree_steps.specs.Steps.{Carried}
use Rattle.flit_tree_laws.specs.TreeAnatomy.{machine_at, resumed_at}
use Rattle.flit_tree_laws.specs.TreeCrew.{KnowsAt, tree_crew}
use Rattle.flit_tree_laws.proofs.Parts.{and_false}
use Rattle.flit_tree_laws.proofs.Rowing.{Owns, go_leaf_at, go_leaf_value_at, go_inner_at, go_link_at, go_rows_at}
use Rattle.flit_tree_laws.proofs.Cleaning.{go_swing_at, go_freeze_at, go_sibling_at}
use Rattle.flit_tree_laws.proofs.Seeking.{go_root_at, go_key_at, go_edge_at, go_value_at, go_flag_at}

module _ (l : Layout) (layout : IsTreeLayout l) (p : Place) (free : List ℕ) (h : TreeHeap) (K : IsKept l free h) (me : Who)
    (early : me.first ≤ length h.progress.settled) (served : IsServed l me.call) (call : Call) (reply : Reply) (path : Path) (same : call ≡ me.call) where
  abbrev op : Carried
  op = record { call = call; reply = reply; path = path }

  abbrev op_at : At → HeldOp
  op_at at = record { call = call; reply = reply; path = path; at = at }

  owns_of : (hand : Hand) → AreTight l hand.spare → ((row : ℕ) → Contains (rows_in hand.spare) row → Contains free row) → IsOnce (rows_in hand.spare) →
      Owns free hand
  owns_of hand tight pool once =
      let t = subst (λ k. (k ≤ length hand.spare) × (rows_in (drop k hand.spare) ≡ [])) (ap rows_needed layout.kind) tight in
      record { places = t.0; tight = t.1; pool = pool; once = once }

  pub goes_at : (at : At) → has_ended p (machine_at at) ≡ true → Facts (tree_crew l p free) l p free h me (op_at at) (machine_at at) →
      OwnsRows (tree_crew l p free) l p free h (op_at at) (machine_at at) → KnowsAt l free h me reply path at →
      Goes (tree_crew l p free) l p free h (left (tree_crew l p free) l p free me (working_in (machine_at at))) (leaves (working_in (machine_at at)))
      (resumed_at l free op at)
  goes_at (Root m) ended facts owns f = go_root_at l layout p free h K me early served op same m f m.at f.read ended
  goes_at (Key m) ended facts owns f = go_key_at l layout p free h K me early served op same m f m.at f.read ended
  goes_at (Edge m) ended facts owns f =
      go_edge_at l layout p free h K me early served op same m (owns_of m.hand owns.tight owns.pool owns.once) f m.at f.read ended
  goes_at (Rows m) ended facts owns f =
      go_rows_at l layout p free h K me early served op same m (owns_of m.hand owns.tight owns.pool owns.once) f facts.1 m.at facts.0 ended
  goes_at (LeafWords m) ended facts owns f = go_leaf_at l layout p free h K me early served op same m f m.at facts.filled ended
  goes_at (LeafValue m) ended facts owns f = go_leaf_value_at l layout p free h K me early served op same m f m.at facts.filled ended
  goes_at (InnerWords m) ended facts owns f = go_inner_at l layout p free h K me early served op same m f m.at facts.filled ended
  goes_at (Link m) ended facts owns f = go_link_at l layout p free h K me early served op same m f.0 m.at f.1 facts ended
  goes_at (Flag m) ended facts owns f = go_flag_at l layout p free h K me early served op same m f.0 f.1 m.at f.2 facts ended
  goes_at (Sibling c m) ended facts owns f = go_sibling_at l p free h K me early served c f.0 op same m f.1 m.at f.1.read ended
  goes_at (Freeze c m) ended facts owns f = go_freeze_at l p free h K me early served c f.0 op same m f.1 m.at f.2 facts ended
  goes_at (Swing c m) ended facts owns f = go_swing_at l p free h K me early served c f.0 op same m f.1 m.at facts ended
  goes_at (Value m) ended facts owns f = go_value_at l layout p free h K me early served op same m f.0 f.1 m.at f.1.read ended
  goes_at (Ends m) ended facts owns f = absurd (false≢true (sym (and_false (is_none (first_persist m.fence.hand.queue))) ∙ ended))
  goes_at (Rests hand) ended facts owns f = absurd f
