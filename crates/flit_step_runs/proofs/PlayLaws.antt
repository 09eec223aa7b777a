-- Lines of turns, one after another and behind others.
use Rattle.std.proofs.Common.{◌≡◌, ℕ, ◌≤◌, Bool, List, [], ◌∷◌, ◌++◌, length, sym, ◌∙◌, ap, subst, append_assoc, Some}
use Rattle.std.proofs.lemmas.List.{map-append}
use Rattle.std.specs.List.{AllByRecursion}
use Rattle.flit_report.specs.declared.content.Shown.{Shown}
use Rattle.flit_structure.specs.Meanings.{Meaning}
use Rattle.flit_sched.specs.Runs.{Run}
use Rattle.flit_sched.specs.Views.{HasWorker}
use Rattle.flit_histories.specs.Following.{Given}
use Rattle.flit_histories.proofs.LedParts.{follows_long}
use Rattle.flit_turns.specs.Lines.{Line, FollowsLines, ShowsLine, ShowsLines, turn_lines}
use Rattle.flit_turns.proofs.LineLaws.{one_line_more, lines_follow, shown_both}

all_at : {X : Type 0} (P : X → Type 0) (front : List X) (x : X) (back : List X) → AllByRecursion P (front ++ x ∷ back) → P x
all_at P [] x back h = h.0
all_at P (y ∷ front) x back h = all_at P front x back h.1

module _ {Op : Type 0} (meaning : Meaning Op) where
  lines_joined : (r n o : Run Op) (ls ms : List Line) (ts us : List Given) → FollowsLines meaning r ls ts n → FollowsLines meaning n ms us o →
      FollowsLines meaning r (ls ++ ms) (ts ++ us) o
  lines_joined r n o [] ms ts us h k =
      subst (λ xs. FollowsLines meaning r ms (xs ++ us) o) (sym h.0) (subst (λ q. FollowsLines meaning q ms us o) h.1 k)
  lines_joined r n o (l ∷ ls) ms ts us h k =
      (h.0, h.1, h.2 ++ us, ap (λ x. x ++ us) h.3 ∙ append_assoc h.1 h.2 us, h.4, lines_joined h.0 n o ls ms h.2 us h.5 k)

  -- lines and then others, with what is shown of both
  pub lines_behind : (r n o : Run Op) (ls ms : List Line) (kept k : Bool) (a b c : List Shown) → k ≡ kept → ShowsLines meaning ls r n kept a b →
      ShowsLines meaning ms n o k b c → ShowsLines meaning (ls ++ ms) r o kept a c
  lines_behind r n o ls ms kept k a b c same h j =
      let next = subst (λ y. ShowsLines meaning ms n o y b c) same j in
      (h.0 ++ next.0, lines_joined r n o ls ms h.0 next.0 h.1 next.1, shown_both kept h.0 next.0 a b c h.2 next.2)

  pub lines_long : (r n : Run Op) (ls : List Line) (kept : Bool) (a b : List Shown) → ShowsLines meaning ls r n kept a b → length n.parts ≡ length r.parts
  lines_long r n ls kept a b h = follows_long meaning r n h.0 (lines_follow meaning r n ls h.0 h.1)

  -- one more turn line
  pub turn_line_more : (r n o : Run Op) (turns : List (ℕ × ℕ)) (worker most : ℕ) (kept k : Bool) (a b c : List Shown) → k ≡ kept →
      ShowsLines meaning (turn_lines turns) r n kept a b → ShowsLine meaning (record { worker = worker; most = Some most }) n o k b c →
      ShowsLines meaning (turn_lines (turns ++ (worker, most) ∷ [])) r o kept a c
  turn_line_more r n o turns worker most kept k a b c same h j =
      subst (λ ls. ShowsLines meaning ls r o kept a c) (sym (map-append (λ t. record { worker = t.0; most = Some t.1 }) turns ((worker, most) ∷ [])))
      (one_line_more meaning r n o (turn_lines turns) (record { worker = worker; most = Some most }) kept a b c h
      (subst (λ y. ShowsLine meaning (record { worker = worker; most = Some most }) n o y b c) same j))

-- the worker of a turn line that comes next is one of the run's
pub named_worker : {Op : Type 0} (r n : Run Op) (all front back : List (ℕ × ℕ)) (worker most : ℕ) → all ≡ front ++ (worker, most) ∷ back →
    length n.parts ≡ length r.parts → AllByRecursion (λ t. HasWorker r t.0) all → HasWorker n worker
named_worker r n all front back worker most is long h =
    let w = all_at (λ t. HasWorker r t.0) front (worker, most) back (subst (λ xs. AllByRecursion (λ t. HasWorker r t.0) xs) is h) in
    (w.0, subst (λ k. worker ≤ k) (sym long) w.1)
