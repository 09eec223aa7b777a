-- How a call goes on once all that its search stands at is confirmed: it unlinks a marked row, or it has found its key, or
-- that the key is absent.
use Rattle.std.proofs.Common.{◌≡◌, ◌≢◌, ℕ, ◌+◌, ◌^◌, ◌<◌, ◌≤◌, ◌&&◌, not, Bool, true, false, List, [], ◌∷◌, length, Contains as Has_in, Option, Some, None, inl, inr, ⊎_elim, refl, sym, ◌∙◌, ap, subst, arith, if◌then◌else◌}
use Rattle.flit_words.specs.declared.layouts.Layout.{Layout}
use Rattle.flit_words.specs.Layouts.{head_of_key, value_word_of}
use Rattle.flit_words.specs.Words.{version_of, value_of, bare_of}
use Rattle.flit_model.specs.Lists.{key_in, row_value_in, next_word}
use Rattle.flit_model.specs.declared.calls.Call.{Call}
use Rattle.flit_model.specs.declared.calls.Call.TheVariants.{Insert, Remove, Contains, Get}
use Rattle.flit_model.specs.declared.calls.Reply.{Reply}
use Rattle.flit_model.specs.declared.calls.Reply.TheVariants.{Yes, No, Found, Full, Worn}
use Rattle.flit_place.specs.Tags.{Place}
use Rattle.flit_pv.specs.declared.hands.Hand.{Hand}
use Rattle.flit_pv.specs.VLoads.{v_load_started}
use Rattle.flit_rows.specs.Taking.{take_started, lacks, is_past, judged}
use Rattle.flit_rows.specs.declared.take_row.Taking.TheVariants.{Draws, Ended as Take_ended}
use Rattle.flit_runs.specs.Workings.{ToVLoad}
use Rattle.flit_runs.specs.Soundness.{Needs}
use Rattle.flit_structure.specs.Meanings.{IsServed, key_of, value_put}
use Rattle.flit_structure.specs.Lawful.{is_insert, is_get, rows_needed}
use Rattle.flit_crew.specs.Machines.{Takes}
use Rattle.flit_crew.specs.Heaps.{at_word, IsOpen}
use Rattle.flit_crew.specs.Crews.{Who, Goes}
use Rattle.flit_list_steps.specs.Operations.{HeldOp, Row}
use Rattle.flit_list_steps.specs.declared.operations.Goal.{Goal as Aim}
use Rattle.flit_list_steps.specs.declared.operations.Goal.TheVariants.{Help as To_help, Found as To_found, Absent as To_absent}
use Rattle.flit_list_steps.specs.Steps.{Carried, stands, row_of as raw_row_of, row_at, to_row, to_row_marked, remover, answers, help_starts, helps, mark_next, marks, value_next, found, absent, row_by, takes_row, wants_next, reached}
use Rattle.flit_list_heap.specs.Links.{LinkWord, Next as Next_word, low, place_of, row_of}
use Rattle.flit_list_heap.specs.Chained.{IsPast}
use Rattle.flit_list_heap.specs.Moves.{plain_link, marked_link}
use Rattle.flit_list_heap.specs.Keeping.{ListHeap, IsLinked, rows_at, Kept}
use Rattle.flit_list_heap.specs.Seeing.{Had, IsBehind, at_head, at_row}
use Rattle.flit_list_heap.proofs.Places.{link_open, value_open}
use Rattle.flit_list_laws.specs.Walks.{Loaded, Walk, pair_if, Helps, Finds, Passes}
use Rattle.flit_list_laws.specs.Knowing.{SaysNo, SaysYes, HasGoal, row_after, IsAlone, IsHeldSo, IsBackSure, Stands, StandsSure, HasNext, IsRow, IsPassed, HasFound, IsGone}
use Rattle.flit_list_laws.specs.ListCrew.{Follows, FollowsTo, FollowsFor, goal_with, list_crew, IsOfLists}
use Rattle.flit_list_laws.proofs.Raws.{raw_row, row_small, to_row_small, to_row_marked_small, plain_held, marked_held}
use Rattle.flit_list_laws.proofs.Starting.{GoesOn, go_search, go_answer, go_worn, go_exchange}
use Rattle.flit_list_laws.proofs.Rowing.{Owns, HasRow, has_row, go_store}
use Rattle.flit_list_laws.proofs.Cohering.{one_row}
use Rattle.flit_list_laws.proofs.Lasting.{leads_linked}

module _ (l : Layout) (lists : IsOfLists l) (p : Place) (free : List ℕ) (h : ListHeap) (kept : Kept l free h) (me : Who)
    (early : me.first ≤ length h.progress.settled) (served : IsServed l me.call) (most : me.name ≤ l.workers) (op : Carried) (same : op.call ≡ me.call)
    (w : Walk) (n : Loaded) (alone : IsAlone l me) (sure : StandsSure l h me w) (hand : Hand) (named : hand.name ≡ me.name) (owns : Owns free hand) where
  abbrev key : ℕ
  key = key_of me.call

  abbrev On : HeldOp → Type 0
  On next = GoesOn l p free h kept me early served hand next

  pred_is_open : Follows l op.path w → IsOpen l free h op.path.pred.word
  pred_is_open f = subst (IsOpen l free h) (sym f.link.word) (link_open l free h kept w.link.word sure.stands.spot.saw.link)

  pred_is_needed : Follows l op.path w → Needs me.needs op.path.pred.word (version_of op.path.pred.raw)
  pred_is_needed f = subst (λ v. Needs me.needs v (version_of op.path.pred.raw)) (sym f.link.word)
      (subst (λ r. Needs me.needs (place_of l w.link.word) (version_of r)) (sym f.link.raw)
      (subst (λ b. IsHeldSo l me b (place_of l w.link.word) w.link.raw) sure.link sure.stands.link))

  -- ---- a marked row is to be unlinked

  pub go_help : FollowsTo l op.path w n → HasNext l h me w n true → n.sure ≡ true → On (helps l op hand)
  go_help f next next_sure = go_exchange l p free h kept me early served hand op.path.pred.word op.path.pred.raw (to_row (raw_row_of op.path.next.raw))
      (λ m. help_starts op m m.at) (pred_is_open f.walk) (to_row_small (raw_row_of op.path.next.raw) (row_small op.path.next.raw)) (pred_is_needed f.walk)
      (λ worn. go_worn l p free h kept me early served op same w n hand op.path.pred.word (version_of op.path.pred.raw) (worn, inr (pred_is_needed f.walk)))
      (record {
        at = refl;
        call = same;
        knows = record {
          first = early;
          served = served;
          walk = w;
          next = n;
          at = (
            f,
            alone,
            record {
              sure = sure;
              next = next;
              next_sure = next_sure;
              aim = record { word = f.walk.link.word; from_is = f.walk.link.raw };
              to = plain_held op.path.pred.raw (raw_row_of op.path.next.raw) (row_small op.path.next.raw)
                  ∙ ap plain_link (raw_row op.path.next.raw ∙ ap (λ r. row_of (bare_of r)) f.next.raw);
            },
          );
        };
      })

  -- ---- the key is found

  has_found : HasNext l h me w n false → key_in l h.words (row_after w) ≡ key → IsRow l h me (row_after w) → HasFound l h me w
  has_found next is row = record {
    fact = record { saw = sure.stands.spot.saw; held = sure.stands.link };
    sure = sure.link;
    some = next.next.some;
    key = is;
    here = row.here;
  }

  remover_small : remover l hand ≤ 64
  remover_small = by_values l.values
    where
      by_values : (b : Bool) → (if b then hand.name else 0) ≤ 64
      by_values true = below hand.name me.name l.workers named most lists.accepted.most_worker
        where
          below : (a b c : ℕ) → a ≡ b → b ≤ c → c ≤ 64 → a ≤ 64
          below a b c e i j = omega (arith, e, i, j)
      by_values false = omega arith

  remover_is : remover l hand ≡ (if l.values then me.name else 0)
  remover_is = ap (λ x. if l.values then x else 0) named

  most_named : (a b : ℕ) → a ≤ b → b ≤ 64 → a ≤ 64
  most_named a b i j = omega (arith, i, j)

  go_mark : me.call ≡ Remove key → FollowsTo l op.path w n → HasNext l h me w n false → key_in l h.words (row_after w) ≡ key → IsRow l h me (row_after w) →
      n.sure ≡ true → On (marks l op hand)
  go_mark remove f next is row next_sure = go_exchange l p free h kept me early served hand op.path.next.word op.path.next.raw
      (to_row_marked (raw_row_of op.path.next.raw) (remover l hand)) (λ m. mark_next l op m) next_open
      (to_row_marked_small (raw_row_of op.path.next.raw) (remover l hand) (row_small op.path.next.raw) remover_small) next_needed
      (λ worn. go_worn l p free h kept me early served op same w n hand op.path.next.word (version_of op.path.next.raw) (worn, inr next_needed))
      (record {
        at = refl;
        call = same;
        knows = record {
          first = early;
          served = served;
          walk = w;
          next = n;
          at = (
            f,
            remove,
            alone,
            record {
              sure = sure;
              next = next;
              next_sure = next_sure;
              key = is;
              mine = row.mine;
              named = most_named me.name l.workers most lists.accepted.most_worker;
              aim = record { word = f.next.word ∙ ap (place_of l) next.word; from_is = f.next.raw };
              to = marked_held op.path.next.raw (raw_row_of op.path.next.raw) (remover l hand) (row_small op.path.next.raw) remover_small
                  ∙ ap (λ r. marked_link r (remover l hand)) (raw_row op.path.next.raw ∙ ap (λ r. row_of (bare_of r)) f.next.raw)
                  ∙ ap (marked_link (row_of (bare_of n.raw))) remover_is;
            },
          );
        };
      })
    where
      next_open : IsOpen l free h op.path.next.word
      next_open = subst (IsOpen l free h) (sym (f.next.word ∙ ap (place_of l) next.word)) (link_open l free h kept (Next_word (row_after w)) next.next.saw.link)

      next_needed : Needs me.needs op.path.next.word (version_of op.path.next.raw)
      next_needed = subst (λ v. Needs me.needs v (version_of op.path.next.raw)) (sym f.next.word)
          (subst (λ r. Needs me.needs (place_of l n.word) (version_of r)) (sym f.next.raw)
          (subst (λ b. IsHeldSo l me b (place_of l n.word) n.raw) next_sure next.held))

  -- ---- the key is absent

  above : (back : Option (LinkWord × ℕ)) (pred : LinkWord) → IsBehind l h key back pred → low (rows_at l h) pred ≤ key
  above _ _ at_head = omega arith
  above _ _ (at_row b v s u some less) = more (key_in l h.words (row_of v)) key less
    where
      more : (a b : ℕ) → a < b → a + 1 ≤ b
      more a b i = omega (arith, i)

  was_absent : IsPassed l h me w → IsGone l h me w.link → Had h me.first key None
  was_absent passed gone = gone (above (pair_if w.back) w.link.word sure.stands.spot.behind) passed

  go_take : Follows l op.path w → is_insert me.call ≡ true → IsPassed l h me w → On (takes_row l free op hand)
  go_take f insert passed = by_test (lacks 1 hand.spare) refl (is_past free hand.ticket) refl
    where
      needed : rows_needed l.kind ≡ 1
      needed = one_row l.kind lists.kind

      by_test : (lack : Bool) → lacks 1 hand.spare ≡ lack → (past : Bool) → is_past free hand.ticket ≡ past →
          On (row_by l op (record { hand = hand; need = 1; at = judged (lacks 1 hand.spare) (is_past free hand.ticket) hand.ticket }) (judged lack past hand.ticket))
      by_test false e past q = go_store l lists p free h kept me early served op same w n f sure passed insert hand (has_row free hand e owns) alone
      by_test true e true q = go_answer l p free h kept me early served op same w n hand (Full hand.ticket) insert
          (subst (λ k. lacks k hand.spare ≡ true) (sym needed) e, q, refl) tt
      by_test true e false q = Goes.draws me hand (stands op (Row (take_started free hand 1)))
          (ap (λ k. Takes (take_started free hand k)) (sym needed))
          (ap (λ a. Rattle.flit_crew.specs.Machines.has_ended p (Takes (record { hand = hand; need = 1; at = a })))
          (ap (λ b. judged b (is_past free hand.ticket) hand.ticket) e ∙ ap (λ b. judged true b hand.ticket) q))
          same (record { first = early; served = served; walk = w; next = n; at = (f, record { alone = alone; sure = sure; passed = passed; insert = insert }) })

  -- ---- what comes next, by the call

  go_found : (c : Call) → me.call ≡ c → FollowsTo l op.path w n → HasNext l h me w n false → key_in l h.words (row_after w) ≡ key →
      IsRow l h me (row_after w) → n.sure ≡ true → On (found l op hand c)
  go_found (Insert k v) e f next is row next_sure = go_answer l p free h kept me early served op same w n hand No refl tt
      (subst (λ b. SaysNo l h me b w) (sym (ap is_insert e)) (has_found next is row))
  go_found (Remove k) e f next is row next_sure = go_mark (e ∙ ap Remove (sym (ap key_of e))) f next is row next_sure
  go_found (Contains k) e f next is row next_sure = go_answer l p free h kept me early served op same w n hand Yes (ap (λ c. not (is_get c)) e) tt
      (subst (λ c. SaysYes l h me c w) (sym e) (has_found next is row))
  go_found (Get k) e f next is row next_sure = by_values l.values refl
    where
      at_row_now : row_at op.path ≡ row_after w
      at_row_now = raw_row op.path.pred.raw ∙ ap (λ r. row_of (bare_of r)) f.walk.link.raw

      linked : IsLinked l h (row_after w)
      linked = leads_linked l h key w.link.word (bare_of w.link.raw) sure.stands.spot.saw next.next.some

      by_values : (b : Bool) → l.values ≡ b →
          On (if b then value_next op (v_load_started hand (value_word_of l (row_at op.path))) else answers op hand (Found 0))
      by_values true v = Goes.starts me hand (ToVLoad (value_word_of l (row_at op.path))) (value_next op (v_load_started hand (value_word_of l (row_at op.path))))
          (subst (λ r. IsOpen l free h (value_word_of l r)) (sym at_row_now) (value_open l free h kept (row_after w) v linked)) refl refl same tt (record {
            first = early;
            served = served;
            walk = w;
            next = n;
            at = (
              e ∙ ap Get (sym (ap key_of e)),
              record { sure = sure; valued = v; found = has_found next is row; word = ap (value_word_of l) at_row_now; read = tt },
            );
          })
      by_values false v = go_answer l p free h kept me early served op same w n hand (Found 0) (ap is_get e) tt
          (has_found next is row, sym (ap (λ b. if b then value_of (at_word h (value_word_of l (row_after w))) else 0) v))

  go_no : (c : Call) → me.call ≡ c → is_insert c ≡ false → IsPassed l h me w → IsGone l h me w.link → On (answers op hand No)
  go_no c e none passed gone = go_answer l p free h kept me early served op same w n hand No refl tt
      (subst (λ b. SaysNo l h me b w) (sym (ap is_insert e ∙ none)) (was_absent passed gone))

  go_absent : (c : Call) → me.call ≡ c → Follows l op.path w → IsPassed l h me w → IsGone l h me w.link → On (absent l free op hand c)
  go_absent (Insert k v) e f passed gone = go_take f (ap is_insert e) passed
  go_absent (Remove k) e f passed gone = go_no (Remove k) e refl passed gone
  go_absent (Contains k) e f passed gone = go_no (Contains k) e refl passed gone
  go_absent (Get k) e f passed gone = go_no (Get k) e refl passed gone

  pub go_reached : (goal : Aim) → FollowsFor l goal op.path w n → HasGoal l h me w (goal_with goal n) → (wants_next goal ≡ true → n.sure ≡ true) →
      On (reached l free op hand goal)
  unfolding reached
  go_reached To_help f known next_sure = go_help f known (next_sure refl)
  go_reached To_found f known next_sure = go_found op.call (sym same) f known.0 known.1 known.2 (next_sure refl)
  go_reached To_absent f known next_sure = go_absent op.call (sym same) f known.0 known.1
