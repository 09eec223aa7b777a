-- A report of the run of a trace says the headline.
use Rattle.std.proofs.Common.{◌≡◌, ◌⊎◌, inl, inr, ℕ, ◌+◌, ◌-◌, ◌*◌, ◌^◌, min, ◌<◌, ◌≤◌, ◌||◌, Bool, true, false, cond, List, [], ◌∷◌, map, length, filter, take, refl, sym, ◌∙◌, ap, subst, arith, Option, Some, None, slice_get}
use Rattle.std.proofs.lemmas.Bool.{cases_lt, false≢true}
use Rattle.std.proofs.lemmas.Option.{slice_get_within}
use Rattle.std.proofs.lemmas.List.{length-map}
use Rattle.std.specs.FinMap as fin
use Rattle.std.specs.List.{AllByRecursion, Contains}
use Rattle.std.proofs.lemmas.List.Elements.{Contains-append_right}
use Rattle.flit_words.specs.declared.layouts.Layout.{Layout}
use Rattle.flit_model.specs.AboutImages.{OneMap}
use Rattle.flit_model.specs.CrashImages.{crash_image}
use Rattle.flit_model.specs.Histories.{is_update_by, is_read_by, is_update, is_read, IsRightAt, history_of}
use Rattle.flit_model.specs.Maps.{Map, IsLegal, map_after_all}
use Rattle.flit_model.specs.Recovery.{SameShape, IsRecovery}
use Rattle.flit_model.specs.States.{IsPersistent, state_from}
use Rattle.flit_model.specs.declared.calls.Call.{Call}
use Rattle.flit_model.specs.declared.calls.Call.TheVariants.{Insert, Remove, Contains as Contains_call, Get}
use Rattle.flit_model.specs.declared.calls.Entry.{Entry}
use Rattle.flit_model.specs.declared.calls.Item.TheVariants.{Call as Call_item}
use Rattle.flit_model.specs.declared.calls.Outcome.{Outcome}
use Rattle.flit_model.specs.declared.calls.Outcome.TheVariants.{Replied, Stopped}
use Rattle.flit_model.specs.declared.calls.Placed.{Placed}
use Rattle.flit_model.specs.declared.calls.Reply.{Reply}
use Rattle.flit_model.specs.declared.calls.Reply.TheVariants.{Yes, No, Found, Full, Worn}
use Rattle.flit_model.specs.declared.calls.Tally.{Tally}
use Rattle.flit_model.specs.declared.found.Recovered.{Recovered}
use Rattle.flit_model.proofs.Membership.{contains_first, contains_none, contains_cases, contains-filter}
use Rattle.flit_report.specs.Content.{Content as Told, is_done}
use Rattle.flit_structure.specs.Moments.{made, update_of, waiting_updates}
use Rattle.flit_structure.specs.Meanings.{Meaning}
use Rattle.flit_structure.specs.Lawful.{Lawful, HasMap, IsBounded, AreLoadsSplit, fits, rows_needed}
use Rattle.flit_structure.proofs.Names.{all_both, all_left, all_right, all_map}
use Rattle.flit_structure.proofs.Taken.{all_taken}
use Rattle.flit_trace.specs.Contents.{Content}
use Rattle.flit_trace.specs.Drafts.{stop_of}
use Rattle.flit_sched.specs.Runs.{Part, Run, IsPart, moment_of}
use Rattle.flit_sched.specs.Openings.{opened_run}
use Rattle.flit_sched.specs.Turns.{tally_in}
use Rattle.flit_sched.specs.Views.{OfWorker, history_with}
use Rattle.flit_sched.proofs.ShapeLaws.{same_shape_recovery}
use Rattle.flit_histories.specs.Calls.{calls_in, IsCallIn, is_of, inserts_in, entries_of, IsOfCall, IsUnderWayAt}
use Rattle.flit_histories.specs.Orders.{IsIn, StandsBefore}
use Rattle.flit_histories.specs.Reached.{Leads, here}
use Rattle.flit_histories.proofs.CallLaws.{all_history, full_none, worn_none}
use Rattle.flit_histories.proofs.FirstRuns.{opened_sound}
use Rattle.flit_histories.proofs.HistoryOrders.{all_in}
use Rattle.flit_histories.proofs.LedParts.{follows_led}
use Rattle.flit_histories.proofs.Numbers.{number_at, calls_rise}
use Rattle.flit_histories.proofs.OneEach.{is_of_it}
use Rattle.flit_histories.proofs.PartLists.{AllFrom, all_from_at}
use Rattle.flit_histories.proofs.ReachedRuns.{sound_led}
use Rattle.flit_histories.proofs.SoundRuns.{IsSound}
use Rattle.flit_histories.proofs.StopCounts.{left_led}
use Rattle.flit_histories.proofs.ToldCalls.{IsTold, IsToldPart}
use Rattle.flit_histories.proofs.ToldRuns.{opened_told, told_led}
use Rattle.flit_turns.specs.Lines.{shown_of, turn_lines}
use Rattle.flit_step_reports.specs.StepLaws.{HasKeptStop}
use Rattle.flit_step_reports.specs.StepReports.{plan_of, picks_in, IsReportOf, TellsRecovery}
use Rattle.flit_step_reports.proofs.PlanLaws.{plan_out, stop_kept}
use Rattle.flit_histories.specs.TurnLaws.{events_by}
use Rattle.flit_step_sentences.specs.Lines.{IsLineOf, calls_told, entries_at}
use Rattle.flit_step_sentences.specs.Machines.{first_state, state_after, AreAnswered, events_made, persists_made}
use Rattle.flit_step_sentences.specs.Sentences.{map_at, HasCompletedOnce, IsUnfinishedUpdate, HasOneUnfinishedEach, KeepsStops, IsWithinBounds, SaysHeadline}
use Rattle.flit_step_sentences.specs.SayLaws.{IsOpenFor}
use Rattle.flit_step_sentences.proofs.BegunCalls.{tally_there, searches}
use Rattle.flit_step_sentences.proofs.FittingReplies.{reply_fits}
use Rattle.flit_step_sentences.proofs.MadeEvents.{shown_where, made_by_turns, persists_by_turns, state_led, answered_led}
use Rattle.flit_step_sentences.proofs.OwnLines.{lines_asked}
use Rattle.flit_step_sentences.proofs.OwnParts.{all_there, parts_long, part_named, first_there, part_there}
use Rattle.flit_step_sentences.proofs.PrintedBounds.{inserts_told, more_rows}
use Rattle.flit_step_sentences.proofs.PrintedCalls as printed
use Rattle.flit_step_sentences.proofs.TurnedEvents.{in_turns}
use Rattle.flit_step_sentences.proofs.PrintedCalls.{same_outcome}

-- recovery finds the one map, also by another layout of the same words
map_found : OneMap → (l k : Layout) (words keys values free : List ℕ) (m : Map) → SameShape l k → HasMap k words m →
    IsRecovery l words keys values free → (keys ≡ fin.keys m) × (values ≡ fin.values m)
map_found one l k words keys values free m same h r =
    let own = same_shape_recovery l k words keys values free same r in
    let is = one k words own.map m free h.0 own.recovers h.1 in
    (own.keys_are ∙ ap fin.keys is, own.values_are ∙ ap fin.values is)

-- what the history has of a call that is done, and of one that is refused
done_one : (worker number : ℕ) (call : Call) (reply : Reply) → fits call reply ≡ true → is_done (Replied reply) ≡ true →
    entries_of worker number call reply ≡ record { worker = worker; number = number; call = call; reply = reply } ∷ []
done_one worker number (Insert k v) Yes f d = refl
done_one worker number (Insert k v) No f d = refl
done_one worker number (Insert k v) (Found x) f d = absurd (false≢true f)
done_one worker number (Insert k v) (Full x) f d = absurd (false≢true d)
done_one worker number (Insert k v) (Worn w x) f d = absurd (false≢true d)
done_one worker number (Remove k) Yes f d = refl
done_one worker number (Remove k) No f d = refl
done_one worker number (Remove k) (Found x) f d = absurd (false≢true f)
done_one worker number (Remove k) (Full x) f d = absurd (false≢true d)
done_one worker number (Remove k) (Worn w x) f d = absurd (false≢true d)
done_one worker number (Contains_call k) Yes f d = refl
done_one worker number (Contains_call k) No f d = refl
done_one worker number (Contains_call k) (Found x) f d = absurd (false≢true f)
done_one worker number (Contains_call k) (Full x) f d = absurd (false≢true d)
done_one worker number (Contains_call k) (Worn w x) f d = absurd (false≢true d)
done_one worker number (Get k) Yes f d = absurd (false≢true f)
done_one worker number (Get k) No f d = refl
done_one worker number (Get k) (Found x) f d = refl
done_one worker number (Get k) (Full x) f d = absurd (false≢true d)
done_one worker number (Get k) (Worn w x) f d = absurd (false≢true d)

refused_none : (worker number : ℕ) (call : Call) (reply : Reply) → is_done (Replied reply) ≡ false → entries_of worker number call reply ≡ []
refused_none worker number call Yes d = absurd (false≢true (sym d))
refused_none worker number call No d = absurd (false≢true (sym d))
refused_none worker number call (Found x) d = absurd (false≢true (sym d))
refused_none worker number call (Full ticket) d = full_none worker number call ticket
refused_none worker number call (Worn word version) d = worn_none worker number call word version

-- what stands in a list stands in what a test leaves of it, and the one element of such
stands_in : (p : Entry → Bool) (xs : List Entry) (x : Entry) → IsIn xs x → p x ≡ true → Contains (filter p xs) x
stands_in p xs x h is =
    contains-filter p xs x (subst (λ ys. Contains ys x) (sym h.2) (Contains-append_right h.0 (x ∷ h.1) x (contains_first x h.1))) is

the_one : (y x : Entry) → Contains (y ∷ []) x → y ≡ x
the_one y x h = by_place (contains_cases y [] x h)
  where
    by_place : (y ≡ x) ⊎ Contains [] x → y ≡ x
    by_place (inl e) = e
    by_place (inr later) = absurd (contains_none x later)

one_of : (worker number : ℕ) (call : Call) (reply : Reply) (x : Entry) → Contains (entries_of worker number call reply) x → reply ≡ x.reply
one_of worker number call reply x = by_test (is_update_by call reply || is_read_by call reply)
  where
    by_test : (b : Bool) → Contains (cond b (record { worker = worker; number = number; call = call; reply = reply } ∷ []) []) x → reply ≡ x.reply
    by_test true h = ap (λ (e : Entry). e.reply) (the_one (record { worker = worker; number = number; call = call; reply = reply }) x h)
    by_test false h = absurd (contains_none x h)

module _ {Op : Type 0} (meaning : Meaning Op) (l : Lawful meaning) (one_map : OneMap) (t : Content) (shows : Bool) (start : Recovered) (told : Told)
    (ready : IsOpenFor meaning t start) (is : IsReportOf meaning t shows start told) where
  abbrev final : Run Op
  final = is.final

  abbrev first : Run Op
  first = opened_run meaning start is.run.works

  abbrev history : List Entry
  history = history_with final (picks_in t)

  led : Leads meaning first final
  led = follows_led meaning first first final is.given (printed.follows meaning l t shows start told ready is) here

  K : IsSound meaning final
  K = sound_led meaning l first final led (opened_sound meaning l start is.run.works (printed.starts meaning l t shows start told ready is))

  T : IsTold final
  T = told_led meaning l first final led (opened_sound meaning l start is.run.works (printed.starts meaning l t shows start told ready is))
      (opened_told meaning l start is.run.works)

  abbrev IsPrinted : ℕ → ℕ → Call → Outcome → Type 0
  IsPrinted worker number call outcome = printed.IsPrinted meaning l t shows start told ready is worker number call outcome

  in_run : (worker number : ℕ) (call : Call) (outcome : Outcome) → IsLineOf told.lines worker number call outcome → IsPrinted worker number call outcome
  in_run worker number call outcome h = printed.printed_in meaning l t shows start told ready is worker number call outcome h

  -- ---- completed calls

  fit : (worker number : ℕ) (call : Call) (reply : Reply) → IsPrinted worker number call (Replied reply) → fits call reply ≡ true
  fit worker number call reply h =
      reply_fits meaning l first final is.run.works refl led
      (opened_sound meaning l start is.run.works (printed.starts meaning l t shows start told ready is)) (opened_told meaning l start is.run.works)
      h.call_in.before h.part h.call_in.behind h.call_in.is.is h.item call reply h.call_in.call_at.is h.at

  entries : (worker number : ℕ) (call : Call) (reply : Reply) → IsPrinted worker number call (Replied reply) →
      entries_at worker number told.history ≡ entries_of worker number call reply
  entries worker number call reply h =
      ap (entries_at worker number) is.history ∙ is.run.headline.once worker h.part h.item call number reply h.call_in h.at

  completed : HasCompletedOnce told
  completed = record {
    done = λ worker number call reply h d. (
        let p = in_run worker number call (Replied reply) h in
        entries worker number call reply p ∙ done_one worker number call reply (fit worker number call reply p) d
        );
    refused = λ worker number call reply h d. (
        entries worker number call reply (in_run worker number call (Replied reply) h) ∙ refused_none worker number call reply d
        );
    fit = λ worker number call reply h. fit worker number call reply (in_run worker number call (Replied reply) h);
  }

  -- ---- unfinished updates

  updates_made : AllByRecursion (λ e. is_update e ≡ true) (made final.progress)
  updates_made = (l.entries (moment_of final K.words K.free) K.holds).updates

  settled_made : AllByRecursion (λ e. is_update e ≡ true) final.progress.settled
  settled_made = all_left (λ e. is_update e ≡ true) final.progress.settled (waiting_updates final.progress) updates_made

  reads_made : AllByRecursion (λ r. is_read r.entry ≡ true) final.placed
  reads_made = all_map (IsRightAt final.content final.progress.settled) (λ r. is_read r.entry ≡ true) (λ r right. right.read) final.placed
      (printed.promises meaning l t shows start told ready is).reads

  -- of a call that isn't over the history has updates alone
  abbrev IsItsUpdate : ℕ → ℕ → Entry → Type 0
  IsItsUpdate worker number e = e.worker ≡ worker → e.number ≡ number → is_update e ≡ true

  late_update : (worker number k : ℕ) (call : Call) (p : Part Op) → IsCallIn final worker p k call number → p.over ≤ k →
      AllByRecursion (IsItsUpdate worker number) history
  late_update worker number k call p c le =
      all_both (IsItsUpdate worker number) (history_of final.progress.settled final.placed) _
      (all_history (IsItsUpdate worker number) 0 final.progress.settled final.placed (weaker final.progress.settled settled_made)
      (no_read final.placed told_part.low))
      (all_taken (IsItsUpdate worker number) final.progress (picks_in t) (weaker (waiting_updates final.progress)
      (all_right (λ e. is_update e ≡ true) final.progress.settled (waiting_updates final.progress) updates_made)))
    where
      weaker : (es : List Entry) → AllByRecursion (λ e. is_update e ≡ true) es → AllByRecursion (IsItsUpdate worker number) es
      weaker es h = all_map (λ e. is_update e ≡ true) (IsItsUpdate worker number) (λ e u w n. u) es h

      told_part : IsToldPart final.progress final.placed worker p
      told_part =
          let n = c.is.number in
          subst (λ w. IsToldPart final.progress final.placed w p) (let place : 1 + length c.before ≡ worker = omega (arith, n) in place)
          (all_from_at (IsToldPart final.progress final.placed) 1 c.before c.behind p
          (subst (AllFrom (IsToldPart final.progress final.placed) 1) c.is.is T.each))

      no_read : (qs : List Placed) → AllByRecursion (λ q. q.entry.worker ≡ worker → q.entry.number ≤ calls_in (take p.over p.items)) qs →
          AllByRecursion (λ q. IsItsUpdate worker number q.entry) qs
      no_read qs h =
          all_map (λ q. q.entry.worker ≡ worker → q.entry.number ≤ calls_in (take p.over p.items)) (λ q. IsItsUpdate worker number q.entry)
          (λ q low w n.
          let few = low w in
          let own = number_at p.items k call number c.call_at in
          let up = calls_rise p.items p.over k le in
          absurd (omega (arith, few, own, up, n))) qs h

  module _ (e : Entry) (h : IsIn history e) where
    left : Contains (filter (is_of e.worker e.number) history) e
    left = stands_in (is_of e.worker e.number) history e h (is_of_it e.worker e.number e refl refl)

    abbrev AtEnd : Type 0
    AtEnd = IsLineOf told.lines e.worker e.number e.call (Replied e.reply) ⊎ IsUnfinishedUpdate told e

    by_left : (c : IsOfCall final e) → c.part.over ≤ c.item → (filter (is_of e.worker e.number) history ≡ [])
        ⊎ ((filter (is_of e.worker e.number) history ≡ update_of e.worker e.number e.call ∷ []) × IsUnderWayAt c.part c.item e.call) →
        slice_get c.part.outcomes c.item ≡ Some (Some Stopped) → IsUnfinishedUpdate told e
    by_left c le (inl none) at = absurd (contains_none e (subst (λ xs. Contains xs e) none left))
    by_left c le (inr one) at =
        let same : update_of e.worker e.number e.call ≡ e = the_one (update_of e.worker e.number e.call) e (subst (λ xs. Contains xs e) one.0 left) in
        record {
          line = printed.printed_out meaning l t shows start told ready is e.worker e.number c.item e.call Stopped c.part c.is at;
          update = all_in (IsItsUpdate e.worker e.number) history e
              (late_update e.worker e.number c.item e.call c.part c.is le) h refl refl;
          first = λ number call less line. (
              let p = in_run e.worker number call Stopped line in
              let late = printed.stopped_late meaning l t shows start told ready is e.worker number call p in
              let parts = printed.part_same meaning l t shows start told ready is e.worker e.number number c.item p.item e.call call c.part p.part
              c.is p.call_in in
              let mine = number_at c.part.items c.item e.call e.number c.is.call_at in
              let its = number_at p.part.items p.item call number p.call_in.call_at in
              let next = one.1.next in
              let over = ap (λ x. x.over) parts in
              let up = calls_rise c.part.items c.item p.item (omega (arith, next, over, late)) in
              let items = ap (λ x. calls_in (take p.item x.items)) parts in
              omega (arith, mine, its, up, items, less)
              );
          once = ap (entries_at e.worker e.number) is.history ∙ one.0 ∙ ap (λ x. x ∷ []) same;
        }

    by_place : (c : IsOfCall final e) → (c.item < c.part.over) ⊎ (c.part.over ≤ c.item) → AtEnd
    by_place c (inl less) =
        let a = (printed.promises meaning l t shows start told ready is).over e.worker c.part c.item e.call e.number c.is less in
        let reply : a.reply ≡ e.reply = one_of e.worker e.number e.call a.reply e (subst (λ xs. Contains xs e) a.entries left) in
        inl (printed.printed_out meaning l t shows start told ready is e.worker e.number c.item e.call (Replied e.reply) c.part c.is
        (a.outcome ∙ ap (λ y. Some (Some (Replied y))) reply))
    by_place c (inr le) =
        let a = (printed.promises meaning l t shows start told ready is).left e.worker c.part c.item e.call e.number c.is le in
        inr (by_left c le a.entries a.outcome)

    rest : AtEnd
    rest =
        let c = all_in (IsOfCall final) history e (printed.promises meaning l t shows start told ready is).calls h in
        by_place c (cases_lt c.item c.part.over)

  one_each : (d e : Entry) → d.worker ≡ e.worker → IsUnfinishedUpdate told d → IsUnfinishedUpdate told e → d ≡ e
  one_each d e same x y = by_place (cases_lt d.number e.number) (cases_lt e.number d.number)
    where
      by_place : (d.number < e.number) ⊎ (e.number ≤ d.number) → (e.number < d.number) ⊎ (d.number ≤ e.number) → d ≡ e
      by_place (inl less) z = absurd (y.first d.number d.call less (subst (λ w. IsLineOf told.lines w d.number d.call Stopped) same x.line))
      by_place (inr le) (inl less) =
          absurd (x.first e.number e.call less (subst (λ w. IsLineOf told.lines w e.number e.call Stopped) (sym same) y.line))
      by_place (inr le) (inr ge) =
          let number : d.number ≡ e.number = omega (arith, le, ge) in
          let both : d ∷ [] ≡ e ∷ [] = sym x.once ∙ ap (λ w. entries_at w d.number told.history) same ∙ ap (λ n. entries_at e.worker n told.history) number
          ∙ y.once in
          cc

  unfinished : HasOneUnfinishedEach told
  unfinished = record {
    rest = λ e h. rest e (subst (λ xs. IsIn xs e) is.history h);
    one = one_each;
  }

  -- ---- stops

  made_is : (worker : ℕ) → events_made worker (shown_of is.given) ≡ events_by worker is.given
  made_is worker = made_by_turns worker is.given

  stop_at : (worker : ℕ) (a : List (Part Op)) (p : Part Op) (b : List (Part Op)) → IsPart final worker a p b →
      HasKeptStop (stop_of t.stops worker) (events_by worker is.given) p
  stop_at worker a p b at =
      let named = part_named meaning t start is.run.works is.run.are_works final is.given
      (printed.follows meaning l t shows start told ready is) worker a p b at in
      let o = first_there meaning t start is.run.works is.run.are_works final is.given (printed.follows meaning l t shows start told ready is) worker
      named.0 named.1 in
      subst (λ s. HasKeptStop s (events_by worker is.given) p) o.4
      (stop_kept o.1.left (events_by worker is.given) p
      (left_led meaning first final is.given worker o.1 p o.0 o.2 a b (printed.follows meaning l t shows start told ready is) o.3 at)
      (plan_out meaning (turn_lines t.turns) t.head.layout.workers first final is.given worker is.run.follows named.1 a p b at))

  item_within : (worker number k : ℕ) (call : Call) (p : Part Op) → IsCallIn final worker p k call number → length p.items ≤ p.over → p.over ≤ k → ⊥
  item_within worker number k call p c long le =
      let less = slice_get_within p.items k (Call_item call) c.call_at.is in omega (arith, long, le, less)

  stopped_by : (worker number : ℕ) (call : Call) (h : IsPrinted worker number call Stopped) (s : Option ℕ) → HasKeptStop s (events_by worker is.given) h.part →
      (n : ℕ) × (s ≡ Some n) × (events_by worker is.given ≡ n)
  stopped_by worker number call h None k =
      absurd (item_within worker number h.item call h.part h.call_in k (printed.stopped_late meaning l t shows start told ready is worker number call h))
  stopped_by worker number call h (Some n) (inl same) = (n, refl, same)
  stopped_by worker number call h (Some n) (inr k) =
      absurd (item_within worker number h.item call h.part h.call_in k.1 (printed.stopped_late meaning l t shows start told ready is worker number call h))

  most_made : (worker n : ℕ) (p : Part Op) (s : Option ℕ) → s ≡ Some n → HasKeptStop s (events_by worker is.given) p → events_by worker is.given ≤ n
  most_made worker n p None e k = absurd (cc)
  most_made worker n p (Some m) e (inl same) = let both : m ≡ n = cc in omega (arith, both, same)
  most_made worker n p (Some m) e (inr k) = let both : m ≡ n = cc in let le = k.0 in omega (arith, both, le)

  stops : KeepsStops t (shown_of is.given) told
  stops = record {
    stopped = λ worker number call h. (
        let p = in_run worker number call Stopped h in
        let o = stopped_by worker number call p (stop_of t.stops worker) (stop_at worker p.call_in.before p.part p.call_in.behind p.call_in.is) in
        (o.0, o.1, made_is worker ∙ o.2)
        );
    behind = λ worker number later call other reply h less k. (
        let p = in_run worker number call Stopped h in
        let q = in_run worker later other (Replied reply) k in
        let late = printed.stopped_late meaning l t shows start told ready is worker number call p in
        let over = printed.replied_over meaning l t shows start told ready is worker later other reply q in
        let parts = printed.part_same meaning l t shows start told ready is worker later number q.item p.item other call q.part p.part q.call_in p.call_in in
        let mine = number_at q.part.items q.item other later q.call_in.call_at in
        let its = number_at p.part.items p.item call number p.call_in.call_at in
        let same = ap (λ x. x.over) parts in
        let up = calls_rise q.part.items q.item p.item (omega (arith, same, late, over)) in
        let items = ap (λ x. calls_in (take p.item x.items)) parts in
        omega (arith, mine, its, up, items, less)
        );
    most = λ worker n low high e. (
        let o = part_there meaning t start is.run.works is.run.are_works final is.given
        (printed.follows meaning l t shows start told ready is) worker low high in
        subst (λ m. m ≤ n) (sym (made_is worker)) (most_made worker n o.1 (stop_of t.stops worker) e (stop_at worker o.0 o.1 o.2 o.3))
        );
  }

  -- ---- bounds

  room_is : meaning.room ≡ length start.free.items
  room_is = (l.opens _ (printed.starts meaning l t shows start told ready is).opens).1

  state_is : state_after (first_state t.head.layout start) (shown_of is.given) ≡ final.state
  state_is =
      ap (λ lay. state_after (state_from lay start.image.words.items) (shown_of is.given)) (sym ready.layout)
      ∙ state_led meaning first final is.given (printed.follows meaning l t shows start told ready is)

  bounded : (worker number : ℕ) (call : Call) (reply : Reply) → IsPrinted worker number call (Replied reply) →
      IsBounded t.head.layout (length start.free.items) final.state final.progress.settled reply
  bounded worker number call reply h =
      let over = printed.replied_over meaning l t shows start told ready is worker number call reply h in
      let a = (printed.promises meaning l t shows start told ready is).over worker h.part h.item call number h.call_in over in
      let same = same_reply a.reply reply (same_outcome (Replied a.reply) (Replied reply) (sym a.outcome ∙ h.at)) in
      subst (λ lay. IsBounded lay (length start.free.items) final.state final.progress.settled reply) ready.layout
      (subst (λ n. IsBounded meaning.layout n final.state final.progress.settled reply) room_is
      (subst (λ y. IsBounded meaning.layout meaning.room final.state final.progress.settled y) same a.bounded))
    where
      same_reply : (x y : Reply) → Replied x ≡ Replied y → x ≡ y
      same_reply x y q = cc

  bounds : IsWithinBounds t.head.layout (length start.free.items) (state_after (first_state t.head.layout start) (shown_of is.given)) told
  bounds = record {
    full = λ worker number call ticket h. (
        let b = bounded worker number call (Full ticket) (in_run worker number call (Replied (Full ticket)) h) in (
          b.0,
          subst (λ es. length start.free.items < rows_needed t.head.layout.kind * (inserts_in es + t.head.layout.workers)) (sym is.history)
              (more_rows t.head.layout.kind (length start.free.items) _ (inserts_in history) t.head.layout.workers
              (inserts_told final.progress.settled _ final.placed settled_made reads_made) b.1),
        )
        );
    worn = λ worker number call word version h. (
        let b = bounded worker number call (Worn word version) (in_run worker number call (Replied (Worn word version)) h) in
        (b.0, subst (λ m. IsPersistent m word version) (sym state_is) b.1)
        );
  }

  -- ---- the map

  shape : SameShape t.head.layout meaning.layout
  shape = record {
    kind = ap (λ (x : Layout). x.kind) (sym ready.layout);
    buckets = ap (λ (x : Layout). x.buckets) (sym ready.layout);
    rows = ap (λ (x : Layout). x.rows) (sym ready.layout);
    values = ap (λ (x : Layout). x.values) (sym ready.layout);
  }

  found : (told.keys ≡ fin.keys (map_after_all (map_at start) history)) × (told.values ≡ fin.values (map_after_all (map_at start) history))
  found = map_found one_map t.head.layout meaning.layout (crash_image (picks_in t) final.state) told.keys told.values is.recovered.free
      (map_after_all (map_at start) history) shape is.run.headline.map.words is.recovered.recovery

  -- what is so of each worker's tally is so of each that is told
  all_told : (P : Tally → Type 0) → ((worker : ℕ) → OfWorker final worker (λ p. P (tally_in meaning p.worker.doing))) → AllByRecursion P told.tallies
  all_told P so =
      subst (AllByRecursion P) (sym is.tallies)
      (mapped final.parts (all_there (λ p. P (tally_in meaning p.worker.doing)) final.parts
      (λ a p b at. so (length a + 1) a p b (record { is = at; number = refl }))))
    where
      mapped : (ps : List (Part Op)) → AllByRecursion (λ p. P (tally_in meaning p.worker.doing)) ps →
          AllByRecursion P (map (λ p. tally_in meaning p.worker.doing) ps)
      mapped [] h = tt
      mapped (p ∷ ps) h = (h.0, mapped ps h.1)

  queued : t.head.layout.workers ≡ 1 → AllByRecursion (λ tally. tally.queued ≡ 0) told.tallies
  queued one = all_told (λ tally. tally.queued ≡ 0)
      ((printed.promises meaning l t shows start told ready is).queued (ap (λ (x : Layout). x.workers) ready.layout ∙ one))

  persists : (worker : ℕ) (tally : Tally) → 1 ≤ worker → slice_get told.tallies (worker - 1) ≡ Some tally →
      tally.persists ≡ min (persists_made worker (shown_of is.given)) (2 ^ 64 - 1)
  persists worker tally some got =
      let o = tally_there meaning l t shows start told ready is worker tally some got in
      ap (λ (x : Tally). x.persists) (sym o.4)
      ∙ (printed.promises meaning l t shows start told ready is).persists worker o.0 o.1 o.2 o.3
      ∙ ap (λ n. min n (2 ^ 64 - 1)) (sym (persists_by_turns worker is.given))

  pub says : SaysHeadline t shows start (shown_of is.given) told
  says = record {
    version = is.version;
    calls = ap calls_told is.lines ∙ lines_asked final [] t.items;
    events_told = is.events ∙ shown_where shows is.given;
    turns = in_turns meaning first final (plan_of t) is.given is.run.follows;
    answered = subst (λ lay. AreAnswered (state_from lay start.image.words.items) (shown_of is.given)) ready.layout
        (answered_led meaning first final is.given (printed.follows meaning l t shows start told ready is));
    legal = subst (λ h. IsLegal (map_at start) h) (sym is.history) is.run.headline.legal;
    completed = completed;
    order = λ d e hd he same less. subst (λ xs. StandsBefore xs d e) (sym is.history)
        (is.run.headline.order.own d e (subst (λ xs. IsIn xs d) is.history hd) (subst (λ xs. IsIn xs e) is.history he) same less);
    unfinished = unfinished;
    keys = found.0 ∙ ap (λ h. fin.keys (map_after_all (map_at start) h)) (sym is.history);
    values = found.1 ∙ ap (λ h. fin.values (map_after_all (map_at start) h)) (sym is.history);
    recovered = subst (λ m. TellsRecovery t.head.layout (crash_image (picks_in t) m) told) (sym state_is) is.recovered;
    stops = stops;
    bounds = bounds;
    tallies = ap length is.tallies ∙ length-map final.parts (λ p. tally_in meaning p.worker.doing)
        ∙ parts_long meaning t start is.run.works is.run.are_works final is.given (printed.follows meaning l t shows start told ready is);
    queued = queued;
    persists = persists;
    split = all_told AreLoadsSplit (printed.promises meaning l t shows start told ready is).split;
    searches = searches meaning l t shows start told ready is;
  }
