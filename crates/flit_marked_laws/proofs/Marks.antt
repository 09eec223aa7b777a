-- Since a remove's Exchange was asked that marks a row: the row's next word is marked with the remover's name in a crash image
-- exactly where a remove of that name has marked it whose update is settled or taken.
use Rattle.std.proofs.Common.{◌≡◌, ◌≢◌, inl, ℕ, ◌<◌, ◌≤◌, ◌==◌, ◌&&◌, Bool, true, false, List, ◌∷◌, ◌++◌, length, Option, Some, None, refl, sym, ◌∙◌, ap, subst, if◌then◌else◌}
use Rattle.std.proofs.lemmas.Bool.{false≢true, eqb-true}
use Rattle.std.proofs.lemmas.Option.{none-some}
use Rattle.std.specs.FinMap as fin
use Rattle.flit_words.specs.declared.layouts.Layout.{Layout}
use Rattle.flit_words.specs.Layouts.{last_row_of}
use Rattle.flit_words.specs.Words.{value_of}
use Rattle.flit_words.specs.Links.{link_of}
use Rattle.flit_model.specs.Lists.{next_word}
use Rattle.flit_model.specs.States.{word_at}
use Rattle.flit_model.specs.Effects.{after}
use Rattle.flit_model.specs.Settling.{progress_after}
use Rattle.flit_model.specs.declared.events.Event.{Event}
use Rattle.flit_model.specs.declared.events.Event.TheVariants.{Exchange}
use Rattle.flit_model.specs.declared.calls.Call.{Call}
use Rattle.flit_model.specs.declared.calls.Call.TheVariants.{Insert, Remove, Contains as Contains_call, Get}
use Rattle.flit_model.specs.declared.calls.Entry.{Entry}
use Rattle.flit_place.specs.Tags.{Place}
use Rattle.flit_structure.specs.declared.workers.Doing.{Doing}
use Rattle.flit_structure.specs.declared.workers.Doing.TheVariants.{Idle, Busy, Evicting}
use Rattle.flit_structure.specs.declared.workers.Worker.{Worker}
use Rattle.flit_structure.specs.Moments.{Moment, busy, update_of, with_workers}
use Rattle.flit_structure.specs.Meanings.{Meaning, moment_after, asks, Happens, hiring, reordering, beginning, finishing, evicting, evicted, making, writing_back}
use Rattle.flit_structure.specs.Lawful.{HoldsWith, is_insert}
use Rattle.flit_crew.specs.Heaps.{heap_of}
use Rattle.flit_list_steps.specs.Operations.{HeldOp}
use Rattle.flit_list_heap.specs.Links.{Next, is_marked, by_of}
use Rattle.flit_list_heap.specs.Keeping.{ListHeap, IsLinked, word_in}
use Rattle.flit_list_heap.proofs.Places.{row_fits}
use Rattle.flit_list_laws.specs.ListAnatomy.{list_anatomy}
use Rattle.flit_list_laws.specs.ListCrew.{IsOfLists}
use Rattle.flit_list_structure.specs.ListStructure.{lists}
use Rattle.flit_list_structure.proofs.Lawfulness.{list_lawful}
use Rattle.flit_marked_laws.specs.Marked.{IsMarkedBy, is_remove, marks_by, if_won, update_in, made_by, or_first, Since, asked, further}
use Rattle.flit_marked_laws.specs.ListMarks.{told_row}
use Rattle.flit_marked_laws.proofs.Naming.{named, marks_so, marks_it}
use Rattle.flit_marked_laws.proofs.Strengthening.{Both, holds_so}
use Rattle.flit_marked_laws.proofs.Ties.{kept_now, later_now, knows_now, IsMarkTied, marks_besides, linked_besides}
use Rattle.flit_marked_laws.proofs.Lasting.{HoldsStronger, lasts}
use Rattle.flit_marked_laws.proofs.Since.{IsWon, is_won, won_word, won_waits, TakesEffect, takes_effect_on, effect_so, word_marked, word_by}

pub no_put : (c : Call) → is_remove c ≡ true → is_insert c ≡ false
no_put (Insert k v) e = absurd (false≢true e)
no_put (Remove k) e = refl
no_put (Contains_call k) e = absurd (false≢true e)
no_put (Get k) e = absurd (false≢true e)

both_of : (a b : Bool) → (a && b) ≡ true → (a ≡ true) × (b ≡ true)
both_of true b e = (refl, e)
both_of false b e = absurd (false≢true e)

module _ (l : Layout) (p : Place) (free : List ℕ) (chains : IsOfLists l) (values : l.values ≡ true) (row who : ℕ) where
  abbrev S : Meaning HeldOp
  S = lists l p free

  abbrev Linked : ListHeap → Type 0
  Linked h = IsLinked l h row

  abbrev Tied : Entry → ListHeap → Type 0
  Tied x h = IsMarkTied l p free row who x h

  abbrev Of : (ListHeap → Type 0) → Moment HeldOp → Type 0
  Of Q M = HoldsStronger l p free chains Q M

  abbrev such : ℕ → Call → Bool
  such = marks_by who

  -- nobody of that name has marked the row, which is linked; or an update of that name has
  pub record IsUnmarked (M : Moment HeldOp) : Type 0 where
    pub holds : S.holds M
    pub linked : Of Linked M
    pub none : IsMarkedBy l M.state.words row who → ⊥

  pub record IsMarkedNow (M : Moment HeldOp) (x : Entry) : Type 0 where
    pub holds : S.holds M
    pub tied : Of (Tied x) M

  abbrev pub Told : Moment HeldOp → Option Entry → Type 0
  Told M None = IsUnmarked M
  Told M (Some x) = IsMarkedNow M x

  change : (Q R : ListHeap → Type 0) (M : Moment HeldOp) (k : Of Q M) → R (heap_of M k.given k.ghost) → Of R M
  change Q R M k is = holds_so (list_anatomy l p free) (later_now l p free) (knows_now l p free) l p free
      (Both (list_anatomy l p free) (later_now l p free) (knows_now l p free) l p free (kept_now l p free) Q)
      (Both (list_anatomy l p free) (later_now l p free) (knows_now l p free) l p free (kept_now l p free) R) M k (k.kept.0, is)

  -- ---- the Exchange is asked

  module _ (M : Moment HeldOp) (a : List (Worker HeldOp)) (name number : ℕ) (op : HeldOp) (call : Call) (begun : Option ℕ) (b : List (Worker HeldOp))
      (x : Entry) (holds : HoldsWith S M a (busy name number op call begun) b) (on : TakesEffect S told_row such row name number op call x) where
    abbrev N : Moment HeldOp
    N = with_workers M (a ++ busy name number op call begun ∷ b)

    calls : (name ≡ who) × (is_remove call ≡ true)
    calls = let r = both_of (name == who) (is_remove call) on.such_is in (eqb-true name who r.0, r.1)

    begins : IsUnmarked N
    begins =
        let e = (list_lawful l p free chains).effects M a name number op call begun b on.effect holds in
        let m = marks_so l p free chains M a name number op call begun b e.0 e.1 e.2 on.effect (no_put call calls.1) e.3 holds in
        let linked : IsLinked l (heap_of N holds.0.given holds.0.ghost) row = subst (IsLinked l (heap_of N holds.0.given holds.0.ghost)) on.row_is m.linked in
        record {
          holds = holds;
          linked = holds_so (list_anatomy l p free) (later_now l p free) (knows_now l p free) l p free (kept_now l p free)
              (Both (list_anatomy l p free) (later_now l p free) (knows_now l p free) l p free (kept_now l p free) Linked) N holds.0 (holds.0.kept, linked);
          none = λ k. subst (λ r. is_marked (word_in l (heap_of N holds.0.given holds.0.ghost) (Next r)) ≡ true →
              by_of (word_in l (heap_of N holds.0.given holds.0.ghost) (Next r)) ≢ name) on.row_is (m.mine values)
              (sym (word_marked l N holds.0.given holds.0.ghost row) ∙ k.mark)
              (sym (word_by l N holds.0.given holds.0.ghost row) ∙ k.by ∙ sym calls.0);
        }

  -- ---- what happens

  fits : (M : Moment HeldOp) → Of Linked M → (1 ≤ row) × (row ≤ last_row_of l)
  fits M k = row_fits l free (heap_of M k.given k.ghost) k.kept.0 row k.kept.1

  unmarked_on : (w : Option ℕ) (M N : Moment HeldOp) (h : Happens S w M N) → S.holds M → 1 ≤ row → row ≤ last_row_of l →
      (IsMarkedBy l M.state.words row who → ⊥) → made_by S told_row such row w M N h ≡ None → IsMarkedBy l N.state.words row who → ⊥
  unmarked_on _ _ _ (hiring M name least most new) holds real last none q = none
  unmarked_on _ _ _ (reordering M a x y b) holds real last none q = none
  unmarked_on _ _ _ (beginning M a name number hand call b may) holds real last none q = none
  unmarked_on _ _ _ (finishing M a name number op call begun reply b replied) holds real last none q = none
  unmarked_on _ _ _ (evicting M a name number hand word b below) holds real last none q = none
  unmarked_on _ _ _ (evicted M a name number evict b) holds real last none q = none
  unmarked_on _ _ _ (making M a u b e asked_so) holds real last none q = λ k.
      let r = named l p free chains M a u b e row who values asked_so holds real last none k in none-some r.0 (sym q ∙ r.1)
  unmarked_on _ _ _ (writing_back M word below) holds real last none q = none

  abbrev IsTiedNow : (N : Moment HeldOp) (x : Entry) → Of Linked N → Type 0
  IsTiedNow N x k = Tied x (heap_of N k.given k.ghost)

  busy_marks : (M : Moment HeldOp) (a : List (Worker HeldOp)) (name number : ℕ) (op : HeldOp) (call : Call) (begun : Option ℕ) (b : List (Worker HeldOp))
      (e : Event) (x : Entry) → S.asked op ≡ Some e → HoldsWith S M a (busy name number op call begun) b →
      IsWon M.state e (update_in S told_row such row name number (Busy op call begun)) x →
      (k : Of Linked (moment_after S M e a (busy name number op call begun) b)) → IsTiedNow (moment_after S M e a (busy name number op call begun) b) x k
  busy_marks M a name number op call begun b e x q holds w k =
      let on = takes_effect_on S told_row such row name number op call begun x w.update in
      let calls = both_of (name == who) (is_remove call) on.such_is in
      let asks_it : S.asked op ≡ Some (Exchange w.word w.from w.to) = q ∙ ap Some w.event in
      let it = marks_it l p free chains M a name number op call begun b w.word w.from w.to on.effect (no_put call calls.1) asks_it holds in
      let word_is : w.word ≡ next_word l row = it.0 ∙ ap (next_word l) on.row_is in
      let N : Moment HeldOp = moment_after S M e a (busy name number op call begun) b in
      let below : w.word < length M.state.words = (list_lawful l p free chains).allowed M a (busy name number op call begun) b
      (Exchange w.word w.from w.to) asks_it holds in
      let now : word_at N.state (next_word l row) ≡ w.to = ap (λ v. word_at (after M.state e) v) (sym word_is)
      ∙ ap (λ v. word_at (after M.state v) w.word) w.event
      ∙ won_word M.state w.word w.from w.to w.found below in
      record {
        linked = k.kept.1;
        marked = sym (word_marked l N k.given k.ghost row) ∙ ap (λ v. (link_of (value_of v)).mark) now ∙ it.1;
        by = sym (word_by l N k.given k.ghost row) ∙ ap (λ v. (link_of (value_of v)).by) now ∙ it.2 values ∙ eqb-true name who calls.0;
        entry = inl (
            ap (λ v. fin.get N.progress.waiting v) (sym word_is)
            ∙ ap (λ v. fin.get (progress_after M.progress M.state v (if S.effect op then Some (update_of name number call) else None)).waiting
            w.word) w.event
            ∙ ap (λ o. fin.get (progress_after M.progress M.state (Exchange w.word w.from w.to) o).waiting w.word)
            (effect_so (S.effect op) (update_of name number call) x on.effect on.update)
            ∙ won_waits M.progress M.state w.word w.from w.to x w.found
            );
      }

  marks_on : (w : Option ℕ) (M N : Moment HeldOp) (h : Happens S w M N) (x : Entry) → S.holds M → made_by S told_row such row w M N h ≡ Some x →
      (k : Of Linked N) → IsTiedNow N x k
  marks_on _ _ _ (hiring M name least most new) x holds q k = absurd (none-some x q)
  marks_on _ _ _ (reordering M a y z b) x holds q k = absurd (none-some x q)
  marks_on _ _ _ (beginning M a name number hand call b may) x holds q k = absurd (none-some x q)
  marks_on _ _ _ (finishing M a name number op call begun reply b replied) x holds q k = absurd (none-some x q)
  marks_on _ _ _ (evicting M a name number hand word b below) x holds q k = absurd (none-some x q)
  marks_on _ _ _ (evicted M a name number evict b) x holds q k = absurd (none-some x q)
  marks_on _ _ _ (making M a u b e asked_so) x holds q k = by_doing u.name u.number u.doing asked_so holds q k
    where
      by_doing : (name number : ℕ) (d : Doing HeldOp) → let v : Worker HeldOp = record { name = name; number = number; doing = d } in
          asks S d ≡ Some e → HoldsWith S M a v b → if_won M.state e (update_in S told_row such row name number d) ≡ Some x →
          (k : Of Linked (moment_after S M e a v b)) → IsTiedNow (moment_after S M e a v b) x k
      by_doing name number (Idle hand) asks_it hs won k = absurd (none-some e asks_it)
      by_doing name number (Evicting m) asks_it hs won k = absurd (none-some x (is_won M.state e None x won).update)
      by_doing name number (Busy op call begun) asks_it hs won k =
          busy_marks M a name number op call begun b e x asks_it hs (is_won M.state e (update_in S told_row such row name number (Busy op call begun)) x won) k
  marks_on _ _ _ (writing_back M word below) x holds q k = absurd (none-some x q)

  -- ---- so at each moment since

  pub told : (M : Moment HeldOp) (o : Option Entry) → Since S told_row such row M o → Told M o
  told _ _ (asked M a u b x holds on) = by_doing u.name u.number u.doing holds on
    where
      by_doing : (name number : ℕ) (d : Doing HeldOp) → let v : Worker HeldOp = record { name = name; number = number; doing = d } in
          HoldsWith S M a v b → update_in S told_row such row name number d ≡ Some x → IsUnmarked (with_workers M (a ++ v ∷ b))
      by_doing name number (Idle hand) hs q = absurd (none-some x q)
      by_doing name number (Evicting m) hs q = absurd (none-some x q)
      by_doing name number (Busy op call begun) hs q =
          begins M a name number op call begun b x hs (takes_effect_on S told_row such row name number op call begun x q)
  told _ _ (further w M N o since h) = by_told o (told M o since)
    where
      holds_on : S.holds M → S.holds N
      holds_on k = (list_lawful l p free chains).keeps w M N h k

      first_made : IsUnmarked M → (r : Option Entry) → made_by S told_row such row w M N h ≡ r → Told N r
      first_made k None q =
          let on = fits M k.linked in record {
            holds = holds_on k.holds;
            linked = lasts l p free chains Linked (linked_besides l p free row) w M N h k.linked;
            none = unmarked_on w M N h k.holds on.0 on.1 k.none q;
          }
      first_made k (Some x) q =
          let linked = lasts l p free chains Linked (linked_besides l p free row) w M N h k.linked in record {
            holds = holds_on k.holds;
            tied = change Linked (Tied x) N linked (marks_on w M N h x k.holds q linked);
          }

      by_told : (o : Option Entry) → Told M o → Told N (or_first o (made_by S told_row such row w M N h))
      by_told None k = first_made k (made_by S told_row such row w M N h) refl
      by_told (Some x) k = record { holds = holds_on k.holds; tied = lasts l p free chains (Tied x) (marks_besides l p free row who x) w M N h k.tied }
