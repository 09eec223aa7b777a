-- What is known of a worker at its turn: it may begin its item, it asks for an event, and the event may be made.
use Rattle.std.proofs.Common.{◌≡◌, ◌⊎◌, inl, inr, ℕ, zero, suc, ◌+◌, ◌<◌, ◌≤◌, List, [], ◌∷◌, ◌++◌, length, refl, sym, ◌∙◌, ap, subst, arith, Option, Some, None, slice_get}
use Rattle.std.proofs.lemmas.Bool.{cases_lt}
use Rattle.std.specs.List.{AllByRecursion, Contains}
use Rattle.std.specs.Ordering.{nat_cmp}
use Rattle.std.specs.FinMap.{find}
use Rattle.flit_model.specs.Maps.{Map}
use Rattle.flit_model.specs.States.{State}
use Rattle.flit_model.specs.Effects.{answer, IsAllowed}
use Rattle.flit_model.specs.declared.calls.Call.{Call}
use Rattle.flit_model.specs.declared.calls.Entry.{Entry}
use Rattle.flit_model.specs.declared.calls.Placed.{Placed}
use Rattle.flit_model.specs.declared.calls.Item.{Item}
use Rattle.flit_model.specs.declared.calls.Item.TheVariants.{Call as Call_item, Evict as Evict_item}
use Rattle.flit_model.specs.declared.events.Event.{Event}
use Rattle.flit_structure.specs.declared.workers.Doing.{Doing}
use Rattle.flit_structure.specs.declared.workers.Doing.TheVariants.{Idle, Busy, Evicting}
use Rattle.flit_structure.specs.declared.workers.Worker.{Worker}
use Rattle.flit_structure.specs.Moments.{Moment, with_workers}
use Rattle.flit_structure.specs.Meanings.{Meaning, MayTake, asked_by, effect_by, moment_after, key_of}
use Rattle.flit_structure.specs.Lawful.{Lawful}
use Rattle.flit_sched.specs.declared.players.Player.{Player}
use Rattle.flit_sched.specs.Runs.{moment_of}
use Rattle.flit_sched.specs.Turns.{IsOut, enters, entered}
use Rattle.flit_sched.specs.Openings.{IsRightItem}
use Rattle.flit_sched.specs.Starting.{MayBegin}
use Rattle.flit_sched.specs.Kept.{IsKept, IsKeptPlayer, AreKeptFrom, IsAtItem, IsKeyed, run_of, part_of, items_of, one_if_busy, waiting_of, pairs_waiting}
use Rattle.flit_sched.proofs.StepLaws.{at, makes, may_start, enter_holds, enter_asks, IsAwake, told_at}
use Rattle.flit_sched.proofs.PlayerLaws.{ws, ws_joined, kept_at}
use Rattle.flit_sched.proofs.KeptLaws.{get_there, all_get}
use Rattle.flit_sched.proofs.ProgressLaws.{IsFreshFor}
use Rattle.flit_sched.proofs.FreshLaws.{fresh_for}
use Rattle.flit_sched.proofs.WaitingLaws.{find_here, get_made}
use Rattle.flit_sched.proofs.RoomLaws.{total, room}

-- a worker that isn't out has an item left
pub has_item : {Op : Type 0} (p : Player (Worker Op)) → ¬ (IsOut (part_of p)) → p.over < length p.work.items.items
has_item p on = by_cases (cases_lt p.over (length p.work.items.items))
  where
    by_cases : (p.over < length p.work.items.items) ⊎ (length p.work.items.items ≤ p.over) → p.over < length p.work.items.items
    by_cases (inl less) = less
    by_cases (inr le) = absurd (on (inl le))

module _ {Op : Type 0} (meaning : Meaning Op) (l : Lawful meaning) where
  awake_at : (content : Map) (settled : List Entry) (item : Option Item) (noted : Option ℕ) (doing : Doing Op) →
      IsAtItem meaning content settled item noted doing → IsAwake meaning l doing
  awake_at content settled item noted (Idle hand) h = tt
  awake_at content settled item noted (Busy op call None) h = absurd h
  awake_at content settled item noted (Busy op call (Some n)) h = h.1
  awake_at content settled item noted (Evicting evict) h = h.2

  at_most_one : (doing : Doing Op) → one_if_busy doing ≤ 1
  at_most_one (Idle hand) = omega arith
  at_most_one (Busy op call begun) = omega arith
  at_most_one (Evicting evict) = omega arith

  pub enters_name : (u : Worker Op) (doing : Doing Op) (item : Option Item) → (enters meaning u doing item).name ≡ u.name
  enters_name u (Idle hand) None = refl
  enters_name u (Idle hand) (Some (Call_item call)) = refl
  enters_name u (Idle hand) (Some (Evict_item word)) = refl
  enters_name u (Busy op call begun) item = refl
  enters_name u (Evicting evict) item = refl

  pub items_among : (a b : List (Player (Worker Op))) (p : Player (Worker Op)) → length p.work.items.items ≤ items_of (a ++ p ∷ b)
  items_among [] b p = omega arith
  items_among (q ∷ a) b p = let r = items_among a b p in omega arith

  -- no worker has begun more calls than it has items
  busy_below : (content : Map) (settled : List Entry) (items : List Item) (over : ℕ) (noted : Option ℕ) (doing : Doing Op) → over ≤ length items →
      IsAtItem meaning content settled (slice_get items over) noted doing → over + one_if_busy doing ≤ length items
  busy_below content settled items over noted (Idle hand) h k = omega arith
  busy_below content settled items over noted (Busy op call None) h k = absurd k
  busy_below content settled items over noted (Busy op call (Some n)) h k = got items over call k.0
    where
      got : (is : List Item) (i : ℕ) (c : Call) → slice_get is i ≡ Some (Call_item c) → i + 1 ≤ length is
      got [] i c e = absurd (cc)
      got (x ∷ is) zero c e = omega arith
      got (x ∷ is) (suc i) c e = let r = got is i c e in omega arith
  busy_below content settled items over noted (Evicting evict) h k = omega arith

  pub numbers_within : (content : Map) (settled : List Entry) (keys : List ℕ) (name : ℕ) (ps : List (Player (Worker Op))) →
      AreKeptFrom meaning content settled keys name ps → total (λ u. suc u.number) (ws ps) ≤ items_of ps + length ps
  numbers_within content settled keys name [] h = omega arith
  numbers_within content settled keys name (p ∷ ps) h =
      let r = numbers_within content settled keys (name + 1) ps h.1 in
      let k = h.0.number in
      let b = busy_below content settled p.work.items.items p.over p.noted p.worker.doing h.0.over h.0.at in
      omega (arith, r, k, b)

  module _ (content : Map) (m : State) (settled : List Entry) (placed : List Placed) (keys : List ℕ) (values : List (Option ℕ)) (entries reads : ℕ)
      (a b : List (Player (Worker Op))) (p : Player (Worker Op))
      (K : IsKept meaning (run_of content m settled placed (a ++ p ∷ b)) (a ++ p ∷ b) keys values entries reads) where
    abbrev pub M : Moment Op
    M = moment_of (run_of content m settled placed (a ++ p ∷ b)) K.words K.free

    pub here : IsKeptPlayer meaning content settled keys (1 + length a) p
    here = (kept_at meaning content settled keys 1 a b p K.each).here

    pub holds_here : meaning.holds (with_workers M (ws a ++ p.worker ∷ ws b))
    holds_here = subst (λ us. meaning.holds (with_workers M us)) (ws_joined a b p) K.holds

    pub small : p.worker.number < 4294967295
    small =
        let k = (here).number in
        let o = (here).over in
        let i = items_among a b p in
        let q = at_most_one p.worker.doing in
        let n = K.most in
        omega (arith, k, o, i, q, n)

    abbrev pub u : Worker Op
    u = entered meaning (part_of p)

    module _ (over : p.over < length p.work.items.items) where
      abbrev item : (i : Item) × (slice_get p.work.items.items p.over ≡ Some i)
      item = get_there p.work.items.items p.over over

      u_is : u ≡ enters meaning p.worker p.worker.doing (Some (item).0)
      u_is = ap (λ o. enters meaning p.worker p.worker.doing o) (item).1

      right : IsRightItem meaning.layout (item).0
      right = all_get (IsRightItem meaning.layout) p.work.items.items p.over (item).0 (here).items (item).1

      pub holds_entered : meaning.holds (with_workers M (ws a ++ u ∷ ws b))
      holds_entered =
          subst (λ w. meaning.holds (with_workers M (ws a ++ w ∷ ws b))) (sym u_is)
          (enter_holds meaning l M (ws a) (ws b) p.worker.name p.worker.number p.worker.doing (item).0 right small holds_here)

      pub asks_some : (e : Event) × (asked_by meaning u ≡ Some e)
      asks_some =
          subst (λ w. (e : Event) × (asked_by meaning w ≡ Some e)) (sym u_is)
          (enter_asks meaning l M (ws a) (ws b) p.worker.name p.worker.number p.worker.doing (item).0 right small
          (awake_at content settled (slice_get p.work.items.items p.over) p.noted p.worker.doing (here).at) holds_here)

      pub may_begin : MayBegin meaning keys p.worker (slice_get p.work.items.items p.over)
      may_begin hand call idle_e item_e = (
        may_start meaning l M (ws a) (ws b) p.worker.name p.worker.number hand call
            (all_get (IsRightItem meaning.layout) p.work.items.items p.over (Call_item call) (here).items item_e) small
            (subst (λ d. meaning.holds (with_workers M (ws a ++ at p.worker.name p.worker.number d ∷ ws b))) idle_e holds_here),
        small,
        all_get (IsKeyed keys) p.work.items.items p.over (Call_item call) (here).keyed item_e,
      )

      module _ (e : Event) (asks_e : asked_by meaning u ≡ Some e) where
        pub allowed : IsAllowed m e
        allowed = l.allowed M (ws a) u (ws b) e asks_e holds_entered

        pub holds_after : meaning.holds (moment_after meaning M e (ws a) u (ws b))
        holds_after = makes meaning l M (ws a) u (ws b) e asks_e holds_entered

        pub fresh : IsFreshFor m e (effect_by meaning u) (a ++ p ∷ b) p
        fresh = fresh_for meaning l M (ws a) (ws b) u e a b p refl K.apart (own (pairs_waiting p.waiting) (here).waits) asks_e holds_entered
          where
            own : (vs : List (ℕ × Entry)) → AllByRecursion (λ w. (w.1.worker ≡ 1 + length a) × Contains keys (key_of w.1.call)) vs →
                AllByRecursion (λ w. w.1.worker ≡ (entered meaning (part_of p)).name) vs
            own [] h = tt
            own (v ∷ vs) h = (h.0.0 ∙ sym ((here).named) ∙ sym (enters_name p.worker p.worker.doing (slice_get p.work.items.items p.over)), own vs h.1)

        pub told : (op : Op) (call : Call) (begun : Option ℕ) → (entered meaning (part_of p)).doing ≡ Busy op call begun → MayTake meaning op (answer m e)
        told op call begun is = told_at meaning l M (ws a) (ws b) (entered meaning (part_of p)) e op call begun is asks_e holds_entered

    -- where something waits there is room for one more update
    pub room_left : (waiting_of (a ++ p ∷ b) ≡ [] → ⊥) → length settled < entries
    room_left some = by_list (waiting_of (a ++ p ∷ b)) refl
      where
        by_list : (vs : List (ℕ × Entry)) → waiting_of (a ++ p ∷ b) ≡ vs → length settled < entries
        by_list [] e = absurd (some e)
        by_list (v ∷ vs) e =
            let r = room meaning l M v.0 v.1 K.holds (get_made (waiting_of (a ++ p ∷ b)) v.0 ∙ ap (λ xs. find nat_cmp v.0 xs) e ∙ find_here v.0 v.0 v.1 vs refl)
            in
            let n = numbers_within content settled keys 1 (a ++ p ∷ b) K.each in
            let k = K.entries_room in
            omega (arith, r, n, k)
