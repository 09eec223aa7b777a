-- What stays between an ended machine of a call and the next one, by which it is.
use Rattle.std.proofs.Common.{◌≡◌, ℕ, ◌≤◌, ◌&&◌, Bool, true, false, List, [], ◌∷◌, length, drop, refl, sym, ◌∙◌, ap, subst, arith}
use Rattle.flit_words.specs.declared.layouts.Layout.{Layout}
use Rattle.flit_model.specs.Histories.{is_update_by}
use Rattle.flit_model.specs.declared.calls.Call.{Call}
use Rattle.flit_model.specs.declared.calls.Call.TheVariants.{Remove}
use Rattle.flit_model.specs.declared.calls.Reply.{Reply}
use Rattle.flit_model.specs.declared.calls.Reply.TheVariants.{Yes}
use Rattle.flit_place.specs.Tags.{Place}
use Rattle.flit_pv.specs.Exchanges.{HeldExchange}
use Rattle.flit_pv.specs.declared.exchanges.Exchanging.{Exchanging}
use Rattle.flit_pv.specs.declared.exchanges.Exchanging.TheVariants.{Ready, Tries, TriesBare, WritesBack, Withdraws, Lowers, Ended}
use Rattle.flit_pv.specs.declared.exchanges.Exchanged.TheVariants.{Won, Lost, Worn as Exchange_worn}
use Rattle.flit_rows.specs.Shares.{rows_in}
use Rattle.flit_structure.specs.Meanings.{key_of}
use Rattle.flit_structure.specs.Lawful.{is_insert, rows_needed}
use Rattle.flit_crew.specs.Machines.{Deed, Fresh, hand_in, exchange_deed, has_linked}
use Rattle.flit_crew.specs.Accounts.{AreTight}
use Rattle.flit_crew.specs.Anatomies.{own, deed, rows_but}
use Rattle.flit_crew.specs.Crews.{Who, IsCoherent}
use Rattle.flit_tree_heap.specs.Views.{TreeHeap, IsTreeLayout}
use Rattle.flit_tree_steps.specs.declared.operations.Path.{Path}
use Rattle.flit_tree_steps.specs.declared.operations.CleanUp.{CleanUp}
use Rattle.flit_tree_steps.specs.declared.operations.CleanUp.TheVariants.{Own, Help}
use Rattle.flit_tree_steps.specs.Operations.{At, Root, Key, Edge, Rows, LeafWords, LeafValue, InnerWords, Link, Flag, Sibling, Freeze, Swing, Value, Ends, Rests, HeldOp}
use Rattle.flit_tree_steps.specs.Steps.{Carried, stands, with_edge, with_rows_used, link_by, flag_by}
use Rattle.flit_tree_laws.specs.TreeAnatomy.{machine_at, tree_anatomy, resumed_at}
use Rattle.flit_tree_laws.specs.TreeCrew.{IsFor, KnowsAt, tree_crew}
use Rattle.flit_tree_laws.proofs.Parts.{and_false}
use Rattle.flit_tree_laws.proofs.Sitting as sitting
use Rattle.flit_tree_laws.proofs.Sitting.{Sits, clean_deed, MadeIf, insert_updates}

and_true : (b : Bool) → b ≡ true → (b && true) ≡ true
and_true true e = refl
and_true false e = absurd (cc)

removes_update : (c : Call) (k : ℕ) → c ≡ Remove k → is_update_by c Yes ≡ true
removes_update c k e = ap (λ x. is_update_by x Yes) e

no_insert : (c : Call) (k : ℕ) → c ≡ Remove k → is_insert c ≡ false
no_insert c k e = ap is_insert e

module _ (l : Layout) (layout : IsTreeLayout l) (p : Place) (free : List ℕ) (h : TreeHeap) (me : Who) (call : Call) (reply : Reply) (path : Path)
    (same : call ≡ me.call) where
  abbrev op_at : At → HeldOp
  op_at at = record { call = call; reply = reply; path = path; at = at }

  abbrev op : Carried
  op = record { call = call; reply = reply; path = path }

  abbrev Coheres : At → HeldOp → Type 0
  Coheres at next = IsCoherent (tree_crew l p free) l p free (op_at at) next

  -- a machine that effects nothing
  as_sits : (at : At) (d : Deed) (next : HeldOp) → own (tree_anatomy l p free) (op_at at) ≡ rows_in (hand_in (machine_at at)).spare →
      deed (tree_anatomy l p free) (op_at at) ≡ d → Sits l p free (hand_in (machine_at at)) d next → Coheres at next
  as_sits at d next rows is s = record { own = s.own ∙ sym rows; deed = s.deed ∙ sym is; tight = λ t. subst (AreTight l) (sym s.spare) t }

  -- both rows used
  none_tight : AreTight l (0 ∷ 0 ∷ [])
  none_tight = subst (λ k. (k ≤ length {A = ℕ} (0 ∷ 0 ∷ [])) × (rows_in (drop k (0 ∷ 0 ∷ [])) ≡ [])) (sym (ap rows_needed layout.kind)) (omega arith, refl)

  -- an exchange that effects the call's update, by how far it is
  record CoheresSo (m : HeldExchange) (at : Exchanging) (next : HeldOp) : Type 0 where
    own : own (tree_anatomy l p free) next ≡ rows_but (tree_anatomy l p free) (is_insert call && has_linked (exchange_deed at m)) m.hand.spare
    deed : deed (tree_anatomy l p free) next ≡ exchange_deed at m
    tight : AreTight l m.hand.spare → AreTight l (hand_in (machine_at next.at)).spare

  stays : (phase : HeldExchange → At) (m : HeldExchange) (at : Exchanging) → m.at ≡ at →
      own (tree_anatomy l p free) (op_at (phase m)) ≡ rows_but (tree_anatomy l p free) (is_insert call && has_linked (exchange_deed m.at m)) m.hand.spare →
      deed (tree_anatomy l p free) (op_at (phase m)) ≡ exchange_deed m.at m →
      (hand_in (machine_at (phase m))).spare ≡ m.hand.spare → CoheresSo m at (stands op (phase m))
  stays phase m at e rows is spare = record {
    own = rows ∙ ap (λ a. rows_but (tree_anatomy l p free) (is_insert call && has_linked (exchange_deed a m)) m.hand.spare) e;
    deed = is ∙ ap (λ a. exchange_deed a m) e;
    tight = λ t. subst (AreTight l) (sym spare) t;
  }

  -- it was lost, or worn
  not_made : (m : HeldExchange) (at : Exchanging) (next : HeldOp) → exchange_deed at m ≡ Fresh → Sits l p free m.hand Fresh next → CoheresSo m at next
  not_made m at next e s = record {
    own = s.own ∙ sym (ap (λ d. rows_but (tree_anatomy l p free) (is_insert call && has_linked d) m.hand.spare) e
        ∙ ap (λ b. rows_but (tree_anatomy l p free) b m.hand.spare) (and_false (is_insert call)));
    deed = s.deed ∙ sym e;
    tight = λ t. subst (AreTight l) (sym s.spare) t;
  }

  link_coheres : is_insert call ≡ true → (m : HeldExchange) (at : Exchanging) → m.at ≡ at → CoheresSo m at (link_by op m at)
  link_coheres insert m Ready e = stays Link m Ready e refl refl refl
  link_coheres insert m (Tries slot) e = stays Link m (Tries slot) e refl refl refl
  link_coheres insert m TriesBare e = stays Link m TriesBare e refl refl refl
  link_coheres insert m WritesBack e = stays Link m WritesBack e refl refl refl
  link_coheres insert m Withdraws e = stays Link m Withdraws e refl refl refl
  link_coheres insert m (Lowers slot found) e = stays Link m (Lowers slot found) e refl refl refl
  link_coheres insert m (Ended Won) e =
      let s = sitting.sits_yes l p free op (with_rows_used m.hand) (insert_updates call insert) in record {
        own = s.own ∙ sym (ap (λ b. rows_but (tree_anatomy l p free) b m.hand.spare) (and_true (is_insert call) insert));
        deed = s.deed;
        tight = λ t. subst (AreTight l) (sym s.spare) none_tight;
      }
  link_coheres insert m (Ended (Lost found)) e =
      not_made m (Ended (Lost found)) (link_by op m (Ended (Lost found))) refl (sitting.sits_seek l p free op m.hand)
  link_coheres insert m (Ended (Exchange_worn word version)) e =
      not_made m (Ended (Exchange_worn word version)) (link_by op m (Ended (Exchange_worn word version))) refl
      (sitting.sits_worn l p free op m.hand word version)

  flag_coheres : (k : ℕ) → call ≡ Remove k → (m : HeldExchange) (at : Exchanging) → m.at ≡ at → CoheresSo m at (flag_by l op m at)
  flag_coheres k remove m Ready e = stays Flag m Ready e refl refl refl
  flag_coheres k remove m (Tries slot) e = stays Flag m (Tries slot) e refl refl refl
  flag_coheres k remove m TriesBare e = stays Flag m TriesBare e refl refl refl
  flag_coheres k remove m WritesBack e = stays Flag m WritesBack e refl refl refl
  flag_coheres k remove m Withdraws e = stays Flag m Withdraws e refl refl refl
  flag_coheres k remove m (Lowers slot found) e = stays Flag m (Lowers slot found) e refl refl refl
  flag_coheres k remove m (Ended Won) e =
      let s = sitting.sits_cleans l p free Own (record op { path = with_edge op.path m.to }) m.hand (removes_update call k remove) in record {
        own = s.own ∙ sym (ap (λ b. rows_but (tree_anatomy l p free) (b && true) m.hand.spare) (no_insert call k remove));
        deed = s.deed;
        tight = λ t. subst (AreTight l) (sym s.spare) t;
      }
  flag_coheres k remove m (Ended (Lost found)) e =
      not_made m (Ended (Lost found)) (flag_by l op m (Ended (Lost found))) refl (sitting.sits_seek l p free op m.hand)
  flag_coheres k remove m (Ended (Exchange_worn word version)) e =
      not_made m (Ended (Exchange_worn word version)) (flag_by l op m (Ended (Exchange_worn word version))) refl
      (sitting.sits_worn l p free op m.hand word version)

  made_if : (c : CleanUp) → IsFor l free h me c → MadeIf c call
  made_if Own f = removes_update call (key_of me.call) (same ∙ f)
  made_if Help f = tt

  freeze_deed : (c : CleanUp) (m : HeldExchange) → deed (tree_anatomy l p free) (op_at (Freeze c m)) ≡ clean_deed c
  freeze_deed Own m = refl
  freeze_deed Help m = refl

  swing_deed : (c : CleanUp) (m : HeldExchange) → deed (tree_anatomy l p free) (op_at (Swing c m)) ≡ clean_deed c
  swing_deed Own m = refl
  swing_deed Help m = refl

  sibling_deed : (c : CleanUp) (m : Rattle.flit_pv.specs.Loads.HeldLoad) → deed (tree_anatomy l p free) (op_at (Sibling c m)) ≡ clean_deed c
  sibling_deed Own m = refl
  sibling_deed Help m = refl

  pub coheres_at : (at : At) → KnowsAt l free h me reply path at → Coheres at (resumed_at l free op at)
  coheres_at (Root m) f = as_sits (Root m) Fresh (resumed_at l free op (Root m)) refl refl (sitting.sits_root l p free op m m.at)
  coheres_at (Key m) f = as_sits (Key m) Fresh (resumed_at l free op (Key m)) refl refl (sitting.sits_key l p free op m m.at)
  coheres_at (Edge m) f = as_sits (Edge m) Fresh (resumed_at l free op (Edge m)) refl refl (sitting.sits_edge l p free op m m.at)
  coheres_at (Rows m) f = as_sits (Rows m) Fresh (resumed_at l free op (Rows m)) refl refl (sitting.sits_rows l p free op m m.at)
  coheres_at (LeafWords m) f = as_sits (LeafWords m) Fresh (resumed_at l free op (LeafWords m)) refl refl (sitting.sits_leaf l p free op m m.at)
  coheres_at (LeafValue m) f = as_sits (LeafValue m) Fresh (resumed_at l free op (LeafValue m)) refl refl (sitting.sits_leaf_value l p free op m m.at)
  coheres_at (InnerWords m) f = as_sits (InnerWords m) Fresh (resumed_at l free op (InnerWords m)) refl refl (sitting.sits_inner l p free op m m.at)
  coheres_at (Link m) f = let s = link_coheres (ap is_insert same ∙ f.0) m m.at refl in record { own = s.own; deed = s.deed; tight = s.tight }
  coheres_at (Flag m) f = let s = flag_coheres (key_of me.call) (same ∙ f.0) m m.at refl in record { own = s.own; deed = s.deed; tight = s.tight }
  coheres_at (Sibling c m) f = as_sits (Sibling c m) (clean_deed c) (resumed_at l free op (Sibling c m)) refl (sibling_deed c m)
      (sitting.sits_sibling l p free c op m m.at (made_if c f.0))
  coheres_at (Freeze c m) f = as_sits (Freeze c m) (clean_deed c) (resumed_at l free op (Freeze c m)) refl (freeze_deed c m)
      (sitting.sits_freeze l p free c op m m.at (made_if c f.0))
  coheres_at (Swing c m) f = as_sits (Swing c m) (clean_deed c) (resumed_at l free op (Swing c m)) refl (swing_deed c m)
      (sitting.sits_swing l p free c op m m.at (made_if c f.0))
  coheres_at (Value m) f = as_sits (Value m) Fresh (resumed_at l free op (Value m)) refl refl (sitting.sits_value l p free op m m.at)
  coheres_at (Ends m) f = record { own = refl; deed = refl; tight = λ t. t }
  coheres_at (Rests hand) f = absurd f
