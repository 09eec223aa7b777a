-- What stays between an ended machine of a call and the next one, by which it is.
use Rattle.std.proofs.Common.{◌≡◌, ◌≢◌, ℕ, ◌≤◌, ◌&&◌, Bool, true, false, List, [], ◌∷◌, length, drop, slice_set, refl, sym, ◌∙◌, ap, subst, arith}
use Rattle.flit_words.specs.declared.layouts.Layout.{Layout}
use Rattle.flit_words.specs.declared.layouts.Kind.{Kind}
use Rattle.flit_words.specs.declared.layouts.Kind.TheVariants.{List as List_kind, Hash, Tree as Tree_kind}
use Rattle.flit_model.specs.Histories.{is_update_by}
use Rattle.flit_model.specs.declared.calls.Call.{Call}
use Rattle.flit_model.specs.declared.calls.Call.TheVariants.{Remove}
use Rattle.flit_model.specs.declared.calls.Reply.{Reply}
use Rattle.flit_model.specs.declared.calls.Reply.TheVariants.{Yes}
use Rattle.flit_place.specs.Tags.{Place}
use Rattle.flit_pv.specs.declared.hands.Hand.{Hand}
use Rattle.flit_pv.specs.Exchanges.{HeldExchange}
use Rattle.flit_pv.specs.declared.exchanges.Exchanging.{Exchanging}
use Rattle.flit_pv.specs.declared.exchanges.Exchanging.TheVariants.{Ready, Tries, TriesBare, WritesBack, Withdraws, Lowers, Ended}
use Rattle.flit_pv.specs.declared.exchanges.Exchanged.TheVariants.{Won, Lost, Worn as Exchange_worn}
use Rattle.flit_rows.specs.Shares.{rows_in}
use Rattle.flit_structure.specs.Meanings.{key_of}
use Rattle.flit_structure.specs.Lawful.{is_insert, rows_needed}
use Rattle.flit_crew.specs.Machines.{Deed, Fresh, Made, hand_in, exchange_deed, has_linked}
use Rattle.flit_crew.specs.Accounts.{AreTight}
use Rattle.flit_crew.specs.Anatomies.{own, deed, rows_but}
use Rattle.flit_crew.specs.Crews.{Who, IsCoherent}
use Rattle.flit_list_steps.specs.declared.operations.Path.{Path}
use Rattle.flit_list_steps.specs.Operations.{At, Head, Next, Key, Confirming, Help, Row, Words, RowValue, Link, Mark, Tidy, Value, Ends, Rests, HeldOp}
use Rattle.flit_list_steps.specs.Steps.{Carried, stands, answers, with_row_used, link_by, mark_by, tidy_by}
use Rattle.flit_list_heap.specs.Keeping.{ListHeap}
use Rattle.flit_list_laws.specs.Walks.{Loaded, Walk}
use Rattle.flit_list_laws.specs.ListAnatomy.{machine_at, list_anatomy, resumed_at}
use Rattle.flit_list_laws.specs.ListCrew.{IsOfLists, KnowsAt, list_crew}
use Rattle.flit_list_laws.proofs.Others.{and_false}
use Rattle.flit_list_laws.proofs.Sitting as sitting
use Rattle.flit_list_laws.proofs.Sitting.{Sits, insert_updates}

pub one_row : (k : Kind) → (k ≡ Tree_kind → ⊥) → rows_needed k ≡ 1
one_row List_kind other = refl
one_row Hash other = refl
one_row Tree_kind other = absurd (other refl)

and_true : (b : Bool) → b ≡ true → (b && true) ≡ true
and_true true e = refl
and_true false e = absurd (cc)

-- a hand with places for one row, and no other row; its row is used
abbrev HasOne : List ℕ → Type 0
HasOne spare = (1 ≤ length spare) × (rows_in (drop 1 spare) ≡ [])

used_none : (spare : List ℕ) → HasOne spare → rows_in (slice_set spare 0 0) ≡ []
used_none [] t = absurd (omega (arith, t.0))
used_none (x ∷ xs) t = t.1

used_tight : (spare : List ℕ) → HasOne spare → HasOne (slice_set spare 0 0)
used_tight [] t = absurd (omega (arith, t.0))
used_tight (x ∷ xs) t = t

module _ (l : Layout) (lists : IsOfLists l) (p : Place) (free : List ℕ) (h : ListHeap) (me : Who) (call : Call) (reply : Reply) (path : Path)
    (same : call ≡ me.call) where
  abbrev op_at : At → HeldOp
  op_at at = record { call = call; reply = reply; path = path; at = at }

  abbrev op : Carried
  op = record { call = call; reply = reply; path = path }

  abbrev Coheres : At → HeldOp → Type 0
  Coheres at next = IsCoherent (list_crew l p free) l p free (op_at at) next

  -- a machine that effects nothing
  as_sits : (at : At) (d : Deed) (next : HeldOp) → own (list_anatomy l p free) (op_at at) ≡ rows_in (hand_in (machine_at at)).spare →
      deed (list_anatomy l p free) (op_at at) ≡ d → Sits l p free (hand_in (machine_at at)) d next → Coheres at next
  as_sits at d next rows is s = record { own = s.own ∙ sym rows; deed = s.deed ∙ sym is; tight = λ t. subst (AreTight l) (sym s.spare) t }

  to_one : (spare : List ℕ) → AreTight l spare → HasOne spare
  to_one spare t = subst (λ k. (k ≤ length spare) × (rows_in (drop k spare) ≡ [])) (one_row l.kind lists.kind) t

  from_one : (spare : List ℕ) → HasOne spare → AreTight l spare
  from_one spare t = subst (λ k. (k ≤ length spare) × (rows_in (drop k spare) ≡ [])) (sym (one_row l.kind lists.kind)) t

  -- an exchange that effects the call's update, by how far it is
  record CoheresSo (m : HeldExchange) (at : Exchanging) (next : HeldOp) : Type 0 where
    own : own (list_anatomy l p free) next ≡ rows_but (list_anatomy l p free) (is_insert call && has_linked (exchange_deed at m)) m.hand.spare
    deed : deed (list_anatomy l p free) next ≡ exchange_deed at m
    tight : AreTight l m.hand.spare → AreTight l (hand_in (machine_at next.at)).spare

  stays : (phase : HeldExchange → At) (m : HeldExchange) (at : Exchanging) → m.at ≡ at →
      own (list_anatomy l p free) (op_at (phase m)) ≡ rows_but (list_anatomy l p free) (is_insert call && has_linked (exchange_deed m.at m)) m.hand.spare →
      deed (list_anatomy l p free) (op_at (phase m)) ≡ exchange_deed m.at m →
      (hand_in (machine_at (phase m))).spare ≡ m.hand.spare → CoheresSo m at (stands op (phase m))
  stays phase m at e rows is spare = record {
    own = rows ∙ ap (λ a. rows_but (list_anatomy l p free) (is_insert call && has_linked (exchange_deed a m)) m.hand.spare) e;
    deed = is ∙ ap (λ a. exchange_deed a m) e;
    tight = λ t. subst (AreTight l) (sym spare) t;
  }

  -- it was lost, or worn
  not_made : (m : HeldExchange) (at : Exchanging) (next : HeldOp) → exchange_deed at m ≡ Fresh → Sits l p free m.hand Fresh next → CoheresSo m at next
  not_made m at next e s = record {
    own = s.own ∙ sym (ap (λ d. rows_but (list_anatomy l p free) (is_insert call && has_linked d) m.hand.spare) e
        ∙ ap (λ b. rows_but (list_anatomy l p free) b m.hand.spare) (and_false (is_insert call)));
    deed = s.deed ∙ sym e;
    tight = λ t. subst (AreTight l) (sym s.spare) t;
  }

  link_coheres : is_insert call ≡ true → (m : HeldExchange) → AreTight l m.hand.spare → (at : Exchanging) → m.at ≡ at → CoheresSo m at (link_by l op m at)
  link_coheres insert m t Ready e = stays Link m Ready e refl refl refl
  link_coheres insert m t (Tries slot) e = stays Link m (Tries slot) e refl refl refl
  link_coheres insert m t TriesBare e = stays Link m TriesBare e refl refl refl
  link_coheres insert m t WritesBack e = stays Link m WritesBack e refl refl refl
  link_coheres insert m t Withdraws e = stays Link m Withdraws e refl refl refl
  link_coheres insert m t (Lowers slot found) e = stays Link m (Lowers slot found) e refl refl refl
  link_coheres insert m t (Ended Won) e =
      let s = sitting.sits_yes l p free op (with_row_used m.hand) (insert_updates call insert) in record {
        own = s.own ∙ used_none m.hand.spare (to_one m.hand.spare t)
            ∙ sym (ap (λ b. rows_but (list_anatomy l p free) b m.hand.spare) (and_true (is_insert call) insert));
        deed = s.deed;
        tight = λ t. subst (AreTight l) (sym s.spare) (from_one (slice_set m.hand.spare 0 0) (used_tight m.hand.spare (to_one m.hand.spare t)));
      }
  link_coheres insert m t (Ended (Lost found)) e =
      not_made m (Ended (Lost found)) (link_by l op m (Ended (Lost found))) refl (sitting.sits_search l p free op m.hand)
  link_coheres insert m t (Ended (Exchange_worn word version)) e =
      not_made m (Ended (Exchange_worn word version)) (link_by l op m (Ended (Exchange_worn word version))) refl
      (sitting.sits_worn l p free op m.hand word version)

  removes_update : (c : Call) (k : ℕ) → c ≡ Remove k → is_update_by c Yes ≡ true
  removes_update c k e = ap (λ x. is_update_by x Yes) e

  no_insert : (c : Call) (k : ℕ) → c ≡ Remove k → is_insert c ≡ false
  no_insert c k e = ap is_insert e

  mark_coheres : (k : ℕ) → call ≡ Remove k → (m : HeldExchange) (at : Exchanging) → m.at ≡ at → CoheresSo m at (mark_by l op m at)
  mark_coheres k remove m Ready e = stays Mark m Ready e refl refl refl
  mark_coheres k remove m (Tries slot) e = stays Mark m (Tries slot) e refl refl refl
  mark_coheres k remove m TriesBare e = stays Mark m TriesBare e refl refl refl
  mark_coheres k remove m WritesBack e = stays Mark m WritesBack e refl refl refl
  mark_coheres k remove m Withdraws e = stays Mark m Withdraws e refl refl refl
  mark_coheres k remove m (Lowers slot found) e = stays Mark m (Lowers slot found) e refl refl refl
  mark_coheres k remove m (Ended Won) e =
      let s = sitting.sits_tidy l p free op m.hand (removes_update call k remove) in record {
        own = s.own ∙ sym (ap (λ b. rows_but (list_anatomy l p free) (b && true) m.hand.spare) (no_insert call k remove));
        deed = s.deed;
        tight = λ t. subst (AreTight l) (sym s.spare) t;
      }
  mark_coheres k remove m (Ended (Lost found)) e =
      not_made m (Ended (Lost found)) (mark_by l op m (Ended (Lost found))) refl (sitting.sits_search l p free op m.hand)
  mark_coheres k remove m (Ended (Exchange_worn word version)) e =
      not_made m (Ended (Exchange_worn word version)) (mark_by l op m (Ended (Exchange_worn word version))) refl
      (sitting.sits_worn l p free op m.hand word version)

  sits_tidy_at : (k : ℕ) → call ≡ Remove k → (m : HeldExchange) (at : Exchanging) → Sits l p free m.hand Made (tidy_by op m at)
  sits_tidy_at k remove m Ready = record { own = refl; deed = refl; spare = refl }
  sits_tidy_at k remove m (Tries slot) = record { own = refl; deed = refl; spare = refl }
  sits_tidy_at k remove m TriesBare = record { own = refl; deed = refl; spare = refl }
  sits_tidy_at k remove m WritesBack = record { own = refl; deed = refl; spare = refl }
  sits_tidy_at k remove m Withdraws = record { own = refl; deed = refl; spare = refl }
  sits_tidy_at k remove m (Lowers slot found) = record { own = refl; deed = refl; spare = refl }
  sits_tidy_at k remove m (Ended how) = sitting.sits_yes l p free op m.hand (removes_update call k remove)

  pub coheres_at : (w : Walk) (n : Loaded) (at : At) → AreTight l (hand_in (machine_at at)).spare → KnowsAt l h me reply path w n at →
      Coheres at (resumed_at l p free op at)
  coheres_at w n (Head m) t f = as_sits (Head m) Fresh (resumed_at l p free op (Head m)) refl refl (sitting.sits_head l p free op m m.at)
  coheres_at w n (Next m) t f = as_sits (Next m) Fresh (resumed_at l p free op (Next m)) refl refl (sitting.sits_next_at l p free op m m.at)
  coheres_at w n (Key m) t f = as_sits (Key m) Fresh (resumed_at l p free op (Key m)) refl refl (sitting.sits_key l p free op m m.at)
  coheres_at w n (Confirming goal which m) t f =
      as_sits (Confirming goal which m) Fresh (resumed_at l p free op (Confirming goal which m)) refl refl (sitting.sits_confirming l p free op goal which m)
  coheres_at w n (Help m) t f = as_sits (Help m) Fresh (resumed_at l p free op (Help m)) refl refl (sitting.sits_help_at l p free op m m.at)
  coheres_at w n (Row m) t f = as_sits (Row m) Fresh (resumed_at l p free op (Row m)) refl refl (sitting.sits_row l p free op m m.at)
  coheres_at w n (Words m) t f = as_sits (Words m) Fresh (resumed_at l p free op (Words m)) refl refl
      (sitting.sits_words l p free op m (Rattle.flit_structure.specs.Meanings.value_put call) m.at)
  coheres_at w n (RowValue m) t f = as_sits (RowValue m) Fresh (resumed_at l p free op (RowValue m)) refl refl (sitting.sits_row_value l p free op m m.at)
  coheres_at w n (Link m) t f =
      let s = link_coheres (ap is_insert same ∙ f.0) m t m.at refl in record { own = s.own; deed = s.deed; tight = s.tight }
  coheres_at w n (Mark m) t f = let s = mark_coheres (key_of me.call) (same ∙ f.1) m m.at refl in record { own = s.own; deed = s.deed; tight = s.tight }
  coheres_at w n (Tidy m) t f = as_sits (Tidy m) Made (resumed_at l p free op (Tidy m)) refl refl (sits_tidy_at (key_of me.call) (same ∙ f.0) m m.at)
  coheres_at w n (Value m) t f = as_sits (Value m) Fresh (resumed_at l p free op (Value m)) refl refl (sitting.sits_value l p free op m m.at)
  coheres_at w n (Ends m) t f = record { own = refl; deed = refl; tight = λ t. t }
  coheres_at w n (Rests hand) t f = absurd f
