-- What is so of a run that is seen, from what it is kept in.
use Rattle.std.proofs.Common.{◌≡◌, ℕ, ◌+◌, ◌-◌, ◌<◌, ◌≤◌, Bool, true, List, ◌++◌, length, get_or, map, refl, sym, ◌∙◌, ap, subst, arith, Option, nat_cmp}
use Rattle.std.specs.List.{AllByRecursion}
use Rattle.std.specs.FinMap as fin
use Rattle.flit_model.specs.Maps.{Map, IsLegal, map_after_all}
use Rattle.flit_model.specs.Histories.{IsRightAt, history_of, is_update}
use Rattle.flit_model.specs.Lists.{IsRisingFrom}
use Rattle.flit_model.specs.Settling.{taken_updates}
use Rattle.flit_model.specs.CrashImages.{crash_image}
use Rattle.flit_model.specs.States.{State}
use Rattle.flit_model.specs.declared.calls.Entry.{Entry}
use Rattle.flit_model.specs.declared.calls.Placed.{Placed}
use Rattle.flit_model.specs.declared.events.Event.{Event}
use Rattle.flit_structure.specs.Moments.{Moment, numbers_of}
use Rattle.flit_structure.specs.Meanings.{Meaning}
use Rattle.flit_structure.specs.Lawful.{Lawful, IsRecoverable, IsSized, HasMap}
use Rattle.flit_structure.proofs.Waiting.{shadows_recover, unfinished, one_each, different_keys}
use Rattle.flit_sched.specs.declared.players.Player.{Player}
use Rattle.flit_sched.specs.declared.seats.Seat.{Seat}
use Rattle.flit_sched.specs.declared.runs.Turn.TheVariants.{Event as Event_turn}
use Rattle.flit_sched.specs.Runs.{Part, Run, Seen, IsPart, moment_of}
use Rattle.flit_sched.specs.Turns.{Turned, AreRepliesRight, GoesDown}
use Rattle.flit_sched.specs.Kept.{IsKeptPlayer, AreKeptFrom, part_of, progress_of}
use Rattle.flit_sched.specs.Seats.{played, IsHeld, run_by}
use Rattle.flit_sched.specs.Views.{IsAtMoment, AreAheadOf, updates_with, history_with}
use Rattle.flit_sched.proofs.SplitLists.{SplitsAt, splits_at}
use Rattle.flit_sched.proofs.PlayerLaws.{kept_at}
use Rattle.flit_sched.proofs.SeatLaws.{map_joined, map_long, at_mapped, waiting_played}
use Rattle.flit_sched.proofs.FitLaws.{FitsImage, history_fits}
use Rattle.flit_sched.proofs.UpdateLaws.{settled_updates, settled_rise}
use Rattle.flit_sched.proofs.GoingLaws.{replies_of, falls_of}
use Rattle.flit_sched.proofs.TurnSteps as steps

-- a run that is seen
module _ {S Op : Type 0} (meaning_of : S → Meaning Op) (laws : (s : S) → Lawful (meaning_of s)) (s : S) {content : Map} {m : State} {settled : List Entry}
    {placed : List Placed}
    {players : List (Player (Seat Op))} {keys : List ℕ} {values : List (Option ℕ)} {waiters : List ℕ} {entries reads : ℕ}
    (held : IsHeld (meaning_of s) content m settled placed players keys values waiters entries reads)
    (now : Seen S Op) (is : ◌≡◌ {A = Seen S Op} (record { structure = s; run = run_by (meaning_of s) content m settled placed players }) now) where
  pub index_seen : (worker : ℕ) → 1 ≤ worker → worker ≤ length now.run.parts → worker - 1 < length players
  index_seen worker low high =
      let k = steps.index_in content m settled placed (map (played (meaning_of s)) players) now.run worker (ap (λ v. v.run) is) low high in
      let n = map_long (played (meaning_of s)) players in
      omega (arith, k, n)

  pub turned_seen : {worker : ℕ} {e : Event} {told : ℕ} {next : Run Op} →
      Turned (meaning_of s) (run_by (meaning_of s) content m settled placed players) worker e told next →
      Turned (meaning_of now.structure) now.run worker e told next
  turned_seen {worker = worker} {e = e} {told = told} {next = next} t = subst (λ r. Turned (meaning_of r.structure) r.run worker e told next) is t

  pub replies_seen : (worker : ℕ) (e : Event) (told : ℕ) (next : Run Op) → Turned (meaning_of now.structure) now.run worker e told next →
      AreRepliesRight (meaning_of now.structure) now.run worker (Event_turn e told) next
  replies_seen worker e told next t =
      subst (λ r. AreRepliesRight (meaning_of r.structure) r.run worker (Event_turn e told) next) is
      (replies_of (meaning_of s) (laws s) content m settled placed (map (played (meaning_of s)) players) keys values entries reads held.kept worker e told next
      (run_by (meaning_of s) content m settled placed players) refl
      (subst (λ r. Turned (meaning_of r.structure) r.run worker e told next) (sym is) t))

  pub falls_seen : (worker : ℕ) (e : Event) (told : ℕ) (next : Run Op) → Turned (meaning_of now.structure) now.run worker e told next →
      GoesDown (meaning_of now.structure) now.run worker (Event_turn e told) next
  falls_seen worker e told next t =
      subst (λ r. GoesDown (meaning_of r.structure) r.run worker (Event_turn e told) next) is
      (falls_of (meaning_of s) (laws s) content m settled placed (map (played (meaning_of s)) players) keys values entries reads held.kept worker e told next
      (run_by (meaning_of s) content m settled placed players) refl
      (subst (λ r. Turned (meaning_of r.structure) r.run worker e told next) (sym is) t))

  abbrev M : Moment Op
  M = moment_of (run_by (meaning_of s) content m settled placed players) held.kept.words held.kept.free

  pub sized : IsSized (meaning_of s).layout m
  sized = (laws s).sized M held.kept.holds

  shadows : IsRecoverable (meaning_of s).layout content m.shadows settled
  shadows = shadows_recover (meaning_of s) (laws s) M held.kept.holds

  pub legal : IsLegal now.run.content now.run.progress.settled
  legal = subst (λ r. IsLegal r.run.content r.run.progress.settled) is (shadows).legal

  pub shadows_have : HasMap (meaning_of now.structure).layout now.run.state.shadows (map_after_all now.run.content now.run.progress.settled)
  shadows_have = subst (λ r. HasMap (meaning_of r.structure).layout r.run.state.shadows (map_after_all r.run.content r.run.progress.settled)) is
      (shadows).content

  pub are_updates : AllByRecursion (λ e. is_update e ≡ true) now.run.progress.settled
  are_updates = subst (λ r. AllByRecursion (λ e. is_update e ≡ true) r.run.progress.settled) is (settled_updates (meaning_of s) (laws s) M held.kept.holds)

  pub rises : (name : ℕ) → IsRisingFrom 0 (numbers_of name now.run.progress.settled)
  rises = subst (λ r. (name : ℕ) → IsRisingFrom 0 (numbers_of name r.run.progress.settled)) is (settled_rise (meaning_of s) (laws s) M held.kept.holds)

  pub right : AllByRecursion (IsRightAt now.run.content now.run.progress.settled) now.run.placed
  right = subst (λ r. AllByRecursion (IsRightAt r.run.content r.run.progress.settled) r.run.placed) is held.kept.right

  pub at_moment : IsAtMoment (meaning_of now.structure) now.run
  at_moment = subst (λ r. IsAtMoment (meaning_of r.structure) r.run) is (record { words = held.kept.words; free = held.kept.free; holds = held.kept.holds })

  pub ahead : AreAheadOf (meaning_of now.structure) now.run
  ahead = subst (λ r. AreAheadOf (meaning_of r.structure) r.run) is (record {
    unfinished = unfinished (meaning_of s) (laws s) M held.kept.holds;
    one_each = one_each (meaning_of s) (laws s) M held.kept.holds;
    different_keys = different_keys (meaning_of s) (laws s) M held.kept.holds;
  })

  pub recovers : (picks : ℕ → Bool) → IsRecoverable (meaning_of now.structure).layout now.run.content (crash_image picks now.run.state)
      (updates_with now.run picks)
  recovers picks =
      subst (λ r. IsRecoverable (meaning_of r.structure).layout r.run.content (crash_image picks r.run.state) (updates_with r.run picks)) is
      ((laws s).crash M picks held.kept.holds)

  -- a history that is made of what the run is kept in
  module _ (picks : ℕ → Bool) (xs : List Entry) (ys : List Placed) (ps : List (Player (Seat Op))) (a : xs ≡ settled) (b : ys ≡ placed) (c : ps ≡ players)
      (items : List Entry)
      (made : items ≡ history_of xs ys ++ taken_updates (progress_of xs ps) picks) where
    made_played : items ≡ history_of xs ys ++ taken_updates (progress_of xs (map (played (meaning_of s)) ps)) picks
    made_played = made ∙ ap (λ ws. history_of xs ys ++ taken_updates (record { settled = xs; waiting = fin.from_entries {R = nat_cmp} ws }) picks)
        (sym (waiting_played (meaning_of s) ps))

    abbrev fits : FitsImage (meaning_of s) content m picks items
    fits =
        history_fits (meaning_of s) (laws s) content m settled placed (map (played (meaning_of s)) players) keys values entries reads held.kept picks
        xs ys (map (played (meaning_of s)) ps) a b (ap (map (played (meaning_of s))) c) items made_played

    pub history_is : items ≡ history_with now.run picks
    history_is =
        made_played
        ∙ ap (λ x. history_of x ys ++ taken_updates (progress_of x (map (played (meaning_of s)) ps)) picks) a
        ∙ ap (λ y. history_of settled y ++ taken_updates (progress_of settled (map (played (meaning_of s)) ps)) picks) b
        ∙ ap (λ qs. history_of settled placed ++ taken_updates (progress_of settled (map (played (meaning_of s)) qs)) picks) c
        ∙ ap (λ r. history_with r.run picks) is

    pub history_legal : IsLegal now.run.content items
    history_legal = subst (λ r. IsLegal r.run.content items) is (fits).legal

    pub history_has : HasMap (meaning_of now.structure).layout (crash_image picks now.run.state) (map_after_all now.run.content items)
    history_has = subst (λ r. HasMap (meaning_of r.structure).layout (crash_image picks r.run.state) (map_after_all r.run.content items)) is (fits).recovers

  -- the worker that a call names
  module _ (worker : ℕ) (x : Player (Seat Op)) (low : 1 ≤ worker) (high : worker ≤ length now.run.parts) (at : x ≡ get_or players (worker - 1) x) where
    pub part_seen : (a : List (Part Op)) (p : Part Op) (b : List (Part Op)) → IsPart now.run worker a p b → part_of (played (meaning_of s) x) ≡ p
    part_seen a p b at_part =
        steps.part_at content m settled placed (map (played (meaning_of s)) players) now.run worker (played (meaning_of s) x) (ap (λ v. v.run) is)
        (let n = map_long (played (meaning_of s)) players in let k = index_seen worker low high in omega (arith, n, k))
        (at_mapped (played (meaning_of s)) players (worker - 1) x at) a p b at_part

    pub some_seen : (a : List (Part Op)) × (b : List (Part Op)) × IsPart now.run worker a (part_of (played (meaning_of s) x)) b
    some_seen =
        steps.some_part content m settled placed (map (played (meaning_of s)) players) now.run worker (played (meaning_of s) x) (ap (λ v. v.run) is)
        (let n = map_long (played (meaning_of s)) players in let k = index_seen worker low high in omega (arith, n, k)) low
        (at_mapped (played (meaning_of s)) players (worker - 1) x at)

    pub kept_seen : IsKeptPlayer (meaning_of s) content settled keys worker (played (meaning_of s) x)
    kept_seen =
        let r : SplitsAt players (worker - 1) x = splits_at players (worker - 1) x (index_seen worker low high) at in
        let is_split = ap (map (played (meaning_of s))) r.is ∙ map_joined (played (meaning_of s)) r.before r.behind x in
        let k = kept_at (meaning_of s) content settled keys 1 (map (played (meaning_of s)) r.before) (map (played (meaning_of s)) r.behind)
        (played (meaning_of s) x)
        (subst (AreKeptFrom (meaning_of s) content settled keys 1) is_split held.kept.each) in
        let n = map_long (played (meaning_of s)) r.before in
        let l = r.long in
        subst (λ v. IsKeptPlayer (meaning_of s) content settled keys v (played (meaning_of s) x))
        (let e : 1 + length (map (played (meaning_of s)) r.before) ≡ worker = omega (arith, n, l, low) in e) k.here
