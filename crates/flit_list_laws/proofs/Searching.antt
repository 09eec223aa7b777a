-- How a search goes on: it confirms the words that it stands at, or looks at the next row.
use Rattle.std.proofs.Common.{◌≡◌, ◌≢◌, ℕ, ◌==◌, ◌<◌, ◌≤◌, ◌&&◌, not, Bool, true, false, List, length, Option, Some, None, inl, inr, refl, sym, ◌∙◌, ap, subst, arith, if◌then◌else◌}
use Rattle.std.proofs.lemmas.Bool.{eqb-true, eqb-false}
use Rattle.flit_words.specs.declared.layouts.Layout.{Layout}
use Rattle.flit_words.specs.Words.{version_of, bare_of}
use Rattle.flit_model.specs.Lists.{next_word}
use Rattle.flit_place.specs.Tags.{Place}
use Rattle.flit_pv.specs.declared.hands.Hand.{Hand}
use Rattle.flit_pv.specs.VLoads.{v_load_started}
use Rattle.flit_pv.specs.Confirms.{confirm_started, confirm_left}
use Rattle.flit_runs.specs.Workings.{ToVLoad}
use Rattle.flit_structure.specs.Meanings.{IsServed, key_of}
use Rattle.flit_crew.specs.Heaps.{IsOpen}
use Rattle.flit_crew.specs.Crews.{Who, Goes}
use Rattle.flit_list_steps.specs.declared.operations.LinkWord.{LinkWord as PathWord}
use Rattle.flit_list_steps.specs.declared.operations.Goal.{Goal as Aim}
use Rattle.flit_list_steps.specs.declared.operations.Goal.TheVariants.{Help as To_help, Found as To_found, Absent as To_absent}
use Rattle.flit_list_steps.specs.declared.operations.Which.TheVariants.{Back as The_back, Pred as The_pred, Next as The_next}
use Rattle.flit_list_steps.specs.Operations.{HeldOp, Next}
use Rattle.flit_list_steps.specs.Steps.{Carried, stands, link_word, row_at, with_confirmed, confirms_by, pred_confirmed, back_is_confirmed, confirms_next, confirms_pred, confirms_back, confirms, looks}
use Rattle.flit_list_heap.specs.Links.{place_of, row_of, Next as Next_word}
use Rattle.flit_list_heap.specs.Keeping.{ListHeap, IsLinked, Kept}
use Rattle.flit_list_heap.proofs.Places.{link_open}
use Rattle.flit_list_laws.specs.Walks.{Loaded, Walk}
use Rattle.flit_list_laws.specs.Knowing.{row_after, IsAlone, IsHeldSo, IsBackHeld, IsBackSure, IsGone, Stands}
use Rattle.flit_list_laws.specs.ListCrew.{Is, IsBack, Follows, list_crew, IsOfLists}
use Rattle.flit_list_laws.proofs.Raws.{raw_row}
use Rattle.flit_list_laws.proofs.Lasting.{leads_linked}
use Rattle.flit_list_laws.proofs.Starting.{go_confirm}
use Rattle.flit_list_laws.proofs.Rowing.{Owns}
use Rattle.flit_list_laws.proofs.Confirmations.{sure_one, sure_link, sure_if, sure_back, Nears, grown, walk_of, sure_pred, sure_before, needed_now, seen_as, needing, go_confirms_next}

not_zero : (n : ℕ) → n ≢ 0 → 1 ≤ n
not_zero n e = omega (arith, e)

module _ (l : Layout) (lists : IsOfLists l) (p : Place) (free : List ℕ) (h : ListHeap) (kept : Kept l free h) where
  abbrev On : Who → Hand → HeldOp → Type 0
  On me hand next = Goes (list_crew l p free) l p free h me hand next

  pub back_on : (me : Who) (word raw : ℕ) (o : Option Loaded) → IsBackSure l me o → IsBackSure l (needing l lists p free h kept me word raw) o
  back_on me word raw None s = tt
  back_on me word raw (Some q) s = s

  -- ---- the link that led to the row is confirmed

  go_pred : (me : Who) (op : Carried) (hand : Hand) (goal : Aim) (w : Walk) (n : Loaded) → Nears l lists p free h kept me op hand goal w n →
      IsBackSure l me w.back → (b : Bool) → op.path.pred.confirmed ≡ b → On me hand (if b
      then confirms_next l p free op hand goal
      else (let m = confirm_started hand op.path.pred.word op.path.pred.raw in
      confirms_by p op goal The_pred m (pred_confirmed l p free op (confirm_left m) goal)))
  go_pred me op hand goal w n f back true e = go_confirms_next l lists p free h kept me op hand goal w n f back
      (sym (walk_of l lists p free h kept goal op.path w n f.follows).link.sure ∙ e)
  go_pred me op hand goal w n f back false e =
      let is : Is l op.path.pred w.link = (walk_of l lists p free h kept goal op.path w n f.follows).link in
      let word = op.path.pred.word in
      let raw = op.path.pred.raw in
      let now : Hand = confirm_left (confirm_started hand word raw) in
      let you : Who = needing l lists p free h kept me word raw in
      go_confirm l p free h kept me f.early f.served op f.same goal The_pred hand word raw (pred_confirmed l p free op now goal)
      (seen_as l lists p free h kept me op.path.pred w.link is f.stands.link e)
      (go_confirms_next l lists p free h kept you (with_confirmed op The_pred) now goal (sure_link w) n
      (sure_pred l lists p free h kept you op now goal w n (needed_now l lists p free h kept me word raw (place_of l w.link.word) w.link.raw is.word is.raw)
      (grown l lists p free h kept me op hand goal w n word raw f)) (back_on me word raw w.back back) refl)
      (record {
        first = f.early;
        served = f.served;
        walk = w;
        next = n;
        at = record {
          alone = f.alone;
          follows = f.follows;
          stands = f.stands;
          goal_known = f.known;
          one = (back, record { word = is.word; raw = is.raw });
        };
      })

  pub go_confirms_pred : (me : Who) (op : Carried) (hand : Hand) (goal : Aim) (w : Walk) (n : Loaded) → Nears l lists p free h kept me op hand goal w n →
      IsBackSure l me w.back → On me hand (confirms_pred l p free op hand goal)
  unfolding confirms_pred
  go_confirms_pred me op hand goal w n f back = go_pred me op hand goal w n f back op.path.pred.confirmed refl

  -- ---- the link before it

  sure_as : (me : Who) (x : PathWord) (o : Option Loaded) → IsBack l (Some x) o → x.confirmed ≡ true → IsBackSure l me o
  sure_as me x None f e = tt
  sure_as me x (Some q) f e = sym f.sure ∙ e

  seen_back : (me : Who) (x : PathWord) (o : Option Loaded) → IsBack l (Some x) o → IsBackHeld l me o → x.confirmed ≡ false →
      Rattle.flit_runs.specs.Worlds.HasSeen me.seen x.word x.raw
  seen_back me x None f held e = absurd f
  seen_back me x (Some q) f held e = seen_as l lists p free h kept me x q f held e

  held_back : (me : Who) (x : PathWord) (o : Option Loaded) → IsBack l (Some x) o → IsBackHeld l (needing l lists p free h kept me x.word x.raw) (sure_if o)
  held_back me x None f = tt
  held_back me x (Some q) f = needed_now l lists p free h kept me x.word x.raw (place_of l q.word) q.raw f.word f.raw

  pub all_sure : (me : Who) (o : Option Loaded) → IsBackSure l me (sure_if o)
  all_sure me None = tt
  all_sure me (Some q) = refl

  is_of_back : (hand : Hand) (x : PathWord) (o : Option Loaded) → IsBack l (Some x) o →
      Rattle.flit_list_laws.specs.ListCrew.IsOfBack l (confirm_started hand x.word x.raw) o
  is_of_back hand x None f = absurd f
  is_of_back hand x (Some q) f = record { word = f.word; raw = f.raw }

  go_back : (me : Who) (op : Carried) (hand : Hand) (goal : Aim) (w : Walk) (n : Loaded) → Nears l lists p free h kept me op hand goal w n →
      (x : PathWord) → IsBack l (Some x) w.back → (b : Bool) → x.confirmed ≡ b → On me hand (if b
      then confirms_pred l p free op hand goal
      else (let m = confirm_started hand x.word x.raw in
      confirms_by p op goal The_back m (back_is_confirmed l p free op (confirm_left m) goal)))
  go_back me op hand goal w n f x is true e = go_confirms_pred me op hand goal w n f (sure_as me x w.back is e)
  go_back me op hand goal w n f x is false e =
      let now : Hand = confirm_left (confirm_started hand x.word x.raw) in
      let you : Who = needing l lists p free h kept me x.word x.raw in
      go_confirm l p free h kept me f.early f.served op f.same goal The_back hand x.word x.raw (back_is_confirmed l p free op now goal)
      (seen_back me x w.back is f.stands.back e)
      (go_confirms_pred you (with_confirmed op The_back) now goal (sure_back w) n
      (sure_before l lists p free h kept you op now goal w n (held_back me x w.back is) (grown l lists p free h kept me op hand goal w n x.word x.raw f))
      (all_sure you w.back))
      (record {
        first = f.early;
        served = f.served;
        walk = w;
        next = n;
        at = record {
          alone = f.alone;
          follows = f.follows;
          stands = f.stands;
          goal_known = f.known;
          one = is_of_back hand x w.back is;
        };
      })

  by_back : (me : Who) (op : Carried) (hand : Hand) (goal : Aim) (w : Walk) (n : Loaded) → Nears l lists p free h kept me op hand goal w n →
      (o : Option PathWord) → IsBack l o w.back → (q : Option Loaded) → w.back ≡ q → On me hand (confirms_back l p free op hand goal o)
  by_back me op hand goal w n f None is None e = go_confirms_pred me op hand goal w n f (subst (IsBackSure l me) (sym e) tt)
  by_back me op hand goal w n f None is (Some q) e = absurd (subst (IsBack l None) e is)
  by_back me op hand goal w n f (Some x) is q e = go_back me op hand goal w n f x is x.confirmed refl

  pub go_confirms : (me : Who) (op : Carried) (hand : Hand) (goal : Aim) (w : Walk) (n : Loaded) → Nears l lists p free h kept me op hand goal w n →
      On me hand (confirms l p free op hand goal)
  unfolding confirms
  go_confirms me op hand goal w n f =
      by_back me op hand goal w n f op.path.back (walk_of l lists p free h kept goal op.path w n f.follows).back w.back refl

  -- ---- the next row is looked at

  module _ (me : Who) (early : me.first ≤ length h.progress.settled) (served : IsServed l me.call) (most : me.name ≤ l.workers) (op : Carried)
      (same : op.call ≡ me.call) (hand : Hand) (named : hand.name ≡ me.name) (owns : Owns free hand) (w : Walk) (n : Loaded) (alone : IsAlone l me)
      (follows : Follows l op.path w) (stands_so : Stands l h me w) (gone : IsGone l h me w.link) where
    row_is : row_at op.path ≡ row_after w
    row_is = raw_row op.path.pred.raw ∙ ap (λ r. row_of (bare_of r)) follows.link.raw

    look : (b : Bool) → (row_at op.path == 0) ≡ b → On me hand (if b
        then confirms l p free op hand To_absent
        else stands op (Next (v_load_started hand (link_word l (row_at op.path)))))
    look true e = go_confirms me op hand To_absent w n (record {
      early = early;
      served = served;
      most = most;
      same = same;
      named = named;
      owns = owns;
      alone = alone;
      follows = follows;
      stands = stands_so;
      known = (inl (sym row_is ∙ eqb-true (row_at op.path) 0 e), gone);
    })
    look false e =
        let some : 1 ≤ row_after w = not_zero (row_after w) (λ z. eqb-false (row_at op.path) 0 e (row_is ∙ z)) in
        let linked : IsLinked l h (row_after w) = leads_linked l h (key_of me.call) w.link.word (bare_of w.link.raw) stands_so.spot.saw some in
        Goes.starts me hand (ToVLoad (link_word l (row_at op.path))) (stands op (Next (v_load_started hand (link_word l (row_at op.path)))))
        (subst (λ r. IsOpen l free h (next_word l r)) (sym row_is) (link_open l free h kept (Next_word (row_after w)) linked)) refl refl same tt (record {
          first = early;
          served = served;
          walk = w;
          next = n;
          at = (
            follows,
            record { alone = alone; stands = stands_so; some = some; gone = gone; word = ap (next_word l) row_is; read = tt },
          );
        })

    pub go_looks : On me hand (looks l p free op hand)
    unfolding looks
    go_looks = look (row_at op.path == 0) refl
