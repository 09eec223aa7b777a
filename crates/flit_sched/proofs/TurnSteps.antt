-- A turn, step by step, over the players as a list.
use Rattle.std.proofs.Common.{◌≡◌, ◌⊎◌, inl, inr, ℕ, suc, ◌+◌, ◌-◌, ◌<◌, ◌≤◌, ◌^◌, List, [], ◌∷◌, ◌++◌, length, get_or, map, take, refl, sym, ◌∙◌, ap, subst, arith, Option, Some, None, IsSome, slice_get, length-append}
use Rattle.std.proofs.Math.ListN.{set}
use Rattle.std.specs.List.{AllByRecursion, Contains}
use Rattle.std.specs.FinMap as fin
use Rattle.flit_model.specs.Maps.{Map, map_after_all}
use Rattle.flit_model.specs.Histories.{IsRightAt}
use Rattle.flit_model.specs.States.{State}
use Rattle.flit_model.specs.Effects.{after, answer, IsAllowed}
use Rattle.flit_model.specs.Settling.{progress_after}
use Rattle.flit_model.specs.declared.calls.Call.{Call}
use Rattle.flit_model.specs.declared.calls.Entry.{Entry}
use Rattle.flit_model.specs.declared.calls.Placed.{Placed}
use Rattle.flit_model.specs.declared.calls.Reply.{Reply}
use Rattle.flit_model.specs.declared.events.Event.{Event}
use Rattle.flit_model.specs.declared.events.Event.TheVariants.{Load, ReadTag, Raise, Lower, Exchange, Persist, Store, Draw}
use Rattle.flit_structure.specs.declared.workers.Doing.{Doing}
use Rattle.flit_structure.specs.declared.workers.Doing.TheVariants.{Busy}
use Rattle.flit_structure.specs.declared.workers.Worker.{Worker}
use Rattle.flit_structure.specs.Meanings.{Meaning, MayTake, asked_by, effect_by, goes_on, key_of, moment_after}
use Rattle.flit_structure.specs.Lawful.{Lawful, IsPlacedFrom}
use Rattle.flit_structure.proofs.Names.{all_both, all_left, all_right, all_map}
use Rattle.flit_structure.proofs.Positions.{right_later}
use Rattle.flit_sched.specs.declared.players.Player.{Player}
use Rattle.flit_sched.specs.declared.players.Waiting.{Waiting}
use Rattle.flit_sched.specs.Runs.{Part, Run, IsPart, workers_of, moment_of}
use Rattle.flit_sched.specs.Reads.{IsLeastPlace}
use Rattle.flit_sched.specs.Starting.{MayBegin, IsNoted}
use Rattle.flit_sched.specs.Settled.{Settles, raised, waits_after}
use Rattle.flit_sched.specs.Turns.{IsOut, entered, part_after, read_in, hand_over, over_after, AreReadsIn, Turned, StaysOut}
use Rattle.flit_sched.specs.Kept.{IsKept, IsRawEvent, AreKeptFrom, run_of, part_of, progress_of, waiting_of, pairs_waiting, items_of, over_of}
use Rattle.flit_sched.proofs.SplitLists.{SplitsAt, splits_at, same_split}
use Rattle.flit_sched.proofs.PlayerLaws.{ws, parts_joined, AreAlike, alike_at, AlikeSplit, alike_length, settles_alike}
use Rattle.flit_sched.proofs.ProgressLaws.{waiting_with, same_waits}
use Rattle.flit_sched.proofs.GrowLaws.{settles_grows}
use Rattle.flit_sched.proofs.RoomLaws.{total, room_any}
use Rattle.flit_sched.proofs.BeforeLaws as before
use Rattle.flit_sched.proofs.AfterLaws as later
use Rattle.flit_sched.proofs.ReadLaws.{HasRead, read_some, read_none, read_placed, read_over, over_grows, law_place, NotedIn, noted_then}

-- an event that raises a shadow lets nothing new wait
raised_same : (e : Event) (told : ℕ) (effect : Option Entry) (w : Option Waiting) → (raised e told ≡ None → ⊥) → waits_after e told effect w ≡ w
raised_same (Load word) told effect w h = refl
raised_same (ReadTag word) told effect w h = refl
raised_same (Raise word) told effect w h = refl
raised_same (Lower word) told effect w h = refl
raised_same (Exchange word from to) told effect w h = absurd (h refl)
raised_same (Persist word kept) told effect w h = refl
raised_same (Store word to) told effect w h = refl
raised_same Draw told effect w h = refl

module _ {Op : Type 0} (meaning : Meaning Op) where
  all_waits : (content : Map) (settled : List Entry) (keys : List ℕ) (name : ℕ) (ps : List (Player (Worker Op))) →
      AreKeptFrom meaning content settled keys name ps → AllByRecursion (λ w. Contains keys (key_of w.1.call)) (waiting_of ps)
  all_waits content settled keys name [] h = tt
  all_waits content settled keys name (p ∷ ps) h =
      all_both (λ w. Contains keys (key_of w.1.call)) (pairs_waiting p.waiting) (waiting_of ps) (keyed (pairs_waiting p.waiting) h.0.waits)
      (all_waits content settled keys (name + 1) ps h.1)
    where
      keyed : (vs : List (ℕ × Entry)) → AllByRecursion (λ w. (w.1.worker ≡ name) × Contains keys (key_of w.1.call)) vs →
          AllByRecursion (λ w. Contains keys (key_of w.1.call)) vs
      keyed [] h = tt
      keyed (v ∷ vs) h = (h.0.1, keyed vs h.1)

pub parts_long : {Op : Type 0} (ps : List (Player (Worker Op))) → length (map part_of ps) ≡ length ps
parts_long [] = refl
parts_long (p ∷ ps) = ap suc (parts_long ps)

-- a worker that is in range
pub index_in : {Op : Type 0} (content : Map) (m : State) (settled : List Entry) (placed : List Placed) (players : List (Player (Worker Op))) (r : Run Op)
    (worker : ℕ) →
    run_of content m settled placed players ≡ r → 1 ≤ worker → worker ≤ length r.parts → worker - 1 < length players
index_in content m settled placed players r worker e low high =
    let n = ap (λ x. length x.parts) e in
    let k = parts_long players in
    omega (arith, n, k, low, high)

over_within : {Op : Type 0} (meaning : Meaning Op) (content : Map) (settled : List Entry) (keys : List ℕ) (name : ℕ) (ps : List (Player (Worker Op))) →
    AreKeptFrom meaning content settled keys name ps → over_of ps ≤ items_of ps
over_within meaning content settled keys name [] h = omega arith
over_within meaning content settled keys name (p ∷ ps) h = let r = over_within meaning content settled keys (name + 1) ps h.1 in let k = h.0.over in
    omega (arith, r, k)

over_below : {Op : Type 0} (meaning : Meaning Op) (content : Map) (settled : List Entry) (keys : List ℕ) (name : ℕ) (a b : List (Player (Worker Op)))
    (p : Player (Worker Op)) → AreKeptFrom meaning content settled keys name (a ++ p ∷ b) →
    p.over < length p.work.items.items → over_of (a ++ p ∷ b) < items_of (a ++ p ∷ b)
over_below meaning content settled keys name [] b p h k = let r = over_within meaning content settled keys (name + 1) b h.1 in omega (arith, r, k)
over_below meaning content settled keys name (q ∷ a) b p h k = let r = over_below meaning content settled keys (name + 1) a b p h.1 k in let o = h.0.over in
    omega (arith, r, o)

-- the settled updates of a run have a number of 32 bits
pub settled_small : {Op : Type 0} (meaning : Meaning Op) (l : Lawful meaning) (r : Run Op) (players : List (Player (Worker Op))) (keys : List ℕ)
    (values : List (Option ℕ)) (entries reads : ℕ) →
    workers_of r.parts ≡ ws players → IsKept meaning r players keys values entries reads → length r.progress.settled < 2 ^ 32
settled_small meaning l r players keys values entries reads is K =
    let a = room_any meaning l (moment_of r K.words K.free) K.holds in
    let b = before.numbers_within meaning l r.content r.progress.settled keys 1 players K.each in
    let n = (l.sized (moment_of r K.words K.free) K.holds).accepted.most_worker in
    let w = K.workers in
    let i = K.most in
    let t = ap (λ us. total (λ u. suc u.number) us) is in
    omega (arith, a, b, n, w, i, t)

module _ {Op : Type 0} (meaning : Meaning Op) (l : Lawful meaning) (content : Map) (m : State) (settled : List Entry) (placed : List Placed)
    (players : List (Player (Worker Op))) (keys : List ℕ) (values : List (Option ℕ)) (entries reads : ℕ)
    (K : IsKept meaning (run_of content m settled placed players) players keys values entries reads) (i : ℕ) (x : Player (Worker Op)) (lt : i < length players)
    (is : x ≡ get_or players i x) where
  abbrev r : SplitsAt players i x
  r = splits_at players i x lt is

  K1 : IsKept meaning (run_of content m settled placed ((r).before ++ x ∷ (r).behind)) ((r).before ++ x ∷ (r).behind) keys values entries reads
  K1 = subst (λ ps. IsKept meaning (run_of content m settled placed ps) ps keys values entries reads) (r).is K

  abbrev pub u : Worker Op
  u = entered meaning (part_of x)

  pub is_part : (worker : ℕ) → i ≡ worker - 1 → 1 ≤ worker → IsPart (run_of content m settled placed players) worker (map part_of (r).before) (part_of x)
      (map part_of (r).behind)
  is_part worker e h = record {
    is = ap (map part_of) (r).is ∙ parts_joined (r).before (r).behind x;
    number = long (r).before (r).long;
  }
    where
      long : (a : List (Player (Worker Op))) → length a ≡ i → worker ≡ length (map part_of a) + 1
      long a k = let n = mapped a in omega (arith, n, k, e, h)
        where
          mapped : (ps : List (Player (Worker Op))) → length (map part_of ps) ≡ length ps
          mapped [] = refl
          mapped (p ∷ ps) = ap suc (mapped ps)

  pub stays_out : (worker : ℕ) → i ≡ worker - 1 → 1 ≤ worker → IsOut (part_of x) →
      StaysOut meaning (run_of content m settled placed players) worker (run_of content m settled placed players)
  stays_out worker e h out = record {
    before = map part_of (r).before;
    part = part_of x;
    behind = map part_of (r).behind;
    is = is_part worker e h;
    out = out;
    same = refl;
  }

  module _ (on : ¬ (IsOut (part_of x))) where
    over : x.over < length x.work.items.items
    over = before.has_item x on

    pub may : MayBegin meaning keys x.worker (slice_get x.work.items.items x.over)
    may = before.may_begin meaning l content m settled placed keys values entries reads (r).before (r).behind x K1 over

    pub asks : (e : Event) × (asked_by meaning u ≡ Some e)
    asks = before.asks_some meaning l content m settled placed keys values entries reads (r).before (r).behind x K1 over

    -- there is room for one more read
    pub place_room : length placed < reads
    place_room =
        let b = over_below meaning content settled keys 1 (r).before (r).behind x K1.each over in
        let p = K1.placed in
        let q = K1.reads_room in
        omega (arith, b, p, q)

    module _ (n : Player (Worker Op)) (begun : n ≡ record x { worker = u; noted = n.noted })
        (is_noted : IsNoted keys values x.worker.doing (slice_get x.work.items.items x.over) x.noted n.noted)
        (e : Event) (asks_n : asked_by meaning n.worker ≡ Some e) where
      asks_e : asked_by meaning u ≡ Some e
      asks_e = sym (ap (λ y. asked_by meaning y.worker) begun) ∙ asks_n

      pub allowed : IsAllowed m e
      allowed = before.allowed meaning l content m settled placed keys values entries reads (r).before (r).behind x K1 over e asks_e

      module _ (told : ℕ) (told_is : told ≡ answer m e) (effect : Option Entry) (effect_is : effect ≡ effect_by meaning n.worker) (p1 : Player (Worker Op))
          (p1_is : p1 ≡ record n { waiting = waits_after e told effect n.waiting }) where
        effect_u : effect ≡ effect_by meaning u
        effect_u = effect_is ∙ ap (λ y. effect_by meaning y.worker) begun

        waiting1 : p1.waiting ≡ waits_after e (answer m e) (effect_by meaning u) x.waiting
        waiting1 =
            ap (λ y. y.waiting) p1_is
            ∙ ap (λ t. waits_after e t effect n.waiting) told_is
            ∙ ap (λ o. waits_after e (answer m e) o n.waiting) effect_u
            ∙ ap (λ y. waits_after e (answer m e) (effect_by meaning u) y.waiting) begun

        own_waits : AllByRecursion (λ w. Contains keys (key_of w.1.call)) (pairs_waiting p1.waiting)
        own_waits =
            subst (λ o. AllByRecursion (λ w. Contains keys (key_of w.1.call)) (pairs_waiting o)) (sym waiting1)
            (later.waits_right (λ w. Contains keys (key_of w.1.call)) e (answer m e) (effect_by meaning u) x.waiting
            (keyed (pairs_waiting x.waiting) (before.here meaning l content m settled placed keys values entries reads (r).before (r).behind x K1).waits)
            (λ word y f. (later.own_effect meaning l content m settled placed keys values entries reads (r).before (r).behind x K1 over e asks_e word y f).1))
          where
            keyed : (vs : List (ℕ × Entry)) → AllByRecursion (λ w. (w.1.worker ≡ 1 + length (r).before) × Contains keys (key_of w.1.call)) vs →
                AllByRecursion (λ w. Contains keys (key_of w.1.call)) vs
            keyed [] h = tt
            keyed (v ∷ vs) h = (h.0.1, keyed vs h.1)

        pub has : AllByRecursion (λ w. Contains keys (key_of w.1.call)) (waiting_of (set players i p1))
        has =
            let P : ℕ × Entry → Type 0 = λ w. Contains keys (key_of w.1.call) in
            let all = subst (AllByRecursion P) (waiting_with (r).before (r).behind x)
            (all_waits meaning content settled keys 1 ((r).before ++ x ∷ (r).behind) K1.each) in
            subst (λ ps. AllByRecursion P (waiting_of ps)) (sym ((r).put p1))
            (subst (AllByRecursion P) (sym (waiting_with (r).before (r).behind p1))
            (all_both P (waiting_of (r).before) (pairs_waiting p1.waiting ++ waiting_of (r).behind)
            (all_left P (waiting_of (r).before) (pairs_waiting x.waiting ++ waiting_of (r).behind) all)
            (all_both P (pairs_waiting p1.waiting) (waiting_of (r).behind) own_waits
            (all_right P (pairs_waiting x.waiting) (waiting_of (r).behind) (all_right P (waiting_of (r).before)
            (pairs_waiting x.waiting ++ waiting_of (r).behind) all)))))

        pub room : (raised e told ≡ None → ⊥) → (waiting_of (set players i p1) ≡ [] → ⊥) → length settled < entries
        room up some =
            before.room_left meaning l content m settled placed keys values entries reads (r).before (r).behind x K1
            (λ none. some (ap waiting_of ((r).put p1) ∙ same_waits (r).before (r).behind x p1 same ∙ none))
          where
            same : p1.waiting ≡ x.waiting
            same = ap (λ y. y.waiting) p1_is ∙ raised_same e told effect n.waiting up ∙ ap (λ y. y.waiting) begun

        module _ (players2 : List (Player (Worker Op))) (grown : List Entry) (changed : List (Option ℕ))
            (settles : Settles keys (raised e told) (set players i p1) settled values players2 grown changed) where
          settles1 : Settles keys (raised e (answer m e)) ((r).before ++ p1 ∷ (r).behind) settled values players2 grown changed
          settles1 =
              subst (λ t. Settles keys (raised e t) ((r).before ++ p1 ∷ (r).behind) settled values players2 grown changed) told_is
              (subst (λ ps. Settles keys (raised e told) ps settled values players2 grown changed) ((r).put p1) settles)

          alike1 : AreAlike ((r).before ++ p1 ∷ (r).behind) players2
          alike1 = settles_alike keys (raised e (answer m e)) ((r).before ++ p1 ∷ (r).behind) settled values players2 grown changed settles1

          pub within : i < length players2
          within =
              let k = alike_length ((r).before ++ p1 ∷ (r).behind) players2 alike1 in
              let q = (r).long in
              omega (arith, k, q, length-append (r).before (p1 ∷ (r).behind))

          module _ (x2 : Player (Worker Op)) (is2 : x2 ≡ get_or players2 i x2) where
            abbrev r2 : SplitsAt players2 i x2
            r2 = splits_at players2 i x2 within is2

            alike2 : AlikeSplit (r).before (r).behind (r2).before (r2).behind p1 x2
            alike2 = alike_at (r).before (r).behind (r2).before (r2).behind p1 x2 ((r).long ∙ sym ((r2).long))
                (subst (AreAlike ((r).before ++ p1 ∷ (r).behind)) (r2).is alike1)

            x2_is : x2 ≡ record x { worker = u; noted = n.noted; waiting = x2.waiting }
            x2_is =
                (alike2).here.same
                ∙ ap {A = Player (Worker Op)} {B = Player (Worker Op)} (λ y. record y { waiting = x2.waiting }) p1_is
                ∙ ap {A = Player (Worker Op)} {B = Player (Worker Op)} (λ y. record y { waiting = x2.waiting }) begun

            pub asks2 : IsSome (asked_by meaning x2.worker)
            asks2 = subst IsSome (sym (ap (λ y. asked_by meaning y.worker) x2_is ∙ asks_e)) refl

            pub told2 : (op : Op) (call : Call) (first : Option ℕ) → x2.worker.doing ≡ Busy op call first → MayTake meaning op told
            told2 op call first b =
                subst (MayTake meaning op) (sym told_is)
                (before.told meaning l content m settled placed keys values entries reads (r).before (r).behind x K1 over e asks_e op call first
                (sym (ap (λ y. y.worker.doing) x2_is) ∙ b))

            pub within2 : x2.over < length x2.work.items.items
            within2 = subst (λ y. y.over < length y.work.items.items) (sym x2_is) over

            pub outcomes2 : length x2.outcomes.items ≡ length x2.work.items.items
            outcomes2 = subst (λ y. length y.outcomes.items ≡ length y.work.items.items) (sym x2_is)
                (before.here meaning l content m settled placed keys values entries reads (r).before (r).behind x K1).outcomes

            module _ (count : ℕ) (count_is : count ≡ length settled) (q3 : Player (Worker Op))
                (part_is : part_of q3 ≡ part_after meaning (part_of x2) x2.worker (goes_on meaning count x2.worker.doing told))
                (work_is : q3.work ≡ x2.work) (waiting_is : q3.waiting ≡ x2.waiting) (noted_is : q3.noted ≡ x2.noted) where
              abbrev d : Doing Op
              d = goes_on meaning (length settled) u.doing (answer m e)

              doing_is : goes_on meaning count x2.worker.doing told ≡ d
              doing_is =
                  ap (λ c. goes_on meaning c x2.worker.doing told) count_is
                  ∙ ap (λ y. goes_on meaning (length settled) y.worker.doing told) x2_is
                  ∙ ap (λ t. goes_on meaning (length settled) u.doing t) told_is

              part3 : part_of q3 ≡ part_after meaning (part_of x) u d
              part3 =
                  part_is
                  ∙ ap (λ y. part_after meaning (part_of x2) x2.worker y) doing_is
                  ∙ ap (λ y. part_after meaning (part_of y) y.worker d) x2_is

              more : (es : List Entry) × (grown ≡ settled ++ es)
              more = settles_grows keys (raised e (answer m e)) ((r).before ++ p1 ∷ (r).behind) settled values players2 grown changed settles1

              waits3 : (q3.waiting ≡ waits_after e (answer m e) (effect_by meaning u) x.waiting) ⊎ (q3.waiting ≡ None)
              waits3 = by_case (alike2).here.waits
                where
                  by_case : (x2.waiting ≡ p1.waiting) ⊎ (x2.waiting ≡ None) → (q3.waiting ≡ waits_after e (answer m e)
                      (effect_by meaning (entered meaning (part_of x))) x.waiting) ⊎ (q3.waiting ≡ None)
                  by_case (inl w) = inl (waiting_is ∙ w ∙ waiting1)
                  by_case (inr w) = inr (waiting_is ∙ w)

              work3 : q3.work ≡ x.work
              work3 = work_is ∙ ap (λ y. y.work) x2_is

              noted3 : q3.noted ≡ n.noted
              noted3 = noted_is ∙ ap (λ y. y.noted) x2_is

              over3 : q3.over ≡ over_after meaning x.over (hand_over meaning d)
              over3 = ap (λ y. y.over) part3

              pub kept : (placed2 : List Placed) (entries2 reads2 : ℕ) → IsRawEvent e → entries ≤ entries2 → reads ≤ reads2 →
                  length placed2 + x.over ≤ length placed + q3.over →
                  (new : List Placed) → placed2 ≡ placed ++ new → AllByRecursion (IsRightAt content grown) new →
                  IsKept meaning (run_of content (after m e) grown placed2 (set players2 i q3)) (set players2 i q3) keys changed entries2 reads2
              kept placed2 entries2 reads2 raw grow1 grow2 fits new joined right =
                  subst (λ ps. IsKept meaning (run_of content (after m e) grown placed2 ps) ps keys changed entries2 reads2) (sym ((r2).put q3))
                  (later.kept_now meaning l content m settled placed keys values entries reads (r).before (r).behind x K1 over e asks_e (more).0 n.noted q3
                  is_noted work3 noted3 part3 waits3
                  p1 x2 (r2).before (r2).behind grown changed waiting1
                  (subst (λ ps. Settles keys (raised e (answer m e)) ((r).before ++ p1 ∷ (r).behind) settled values ps grown changed) (r2).is settles1)
                  ((r2).long ∙ sym ((r).long)) waiting_is (more).1 placed2 entries2 reads2 raw grow1 grow2 fits
                  (subst (AllByRecursion (IsRightAt content grown)) (sym joined)
                  (all_both (IsRightAt content grown) placed new
                  (subst (λ es. AllByRecursion (IsRightAt content es) placed) (sym (more).1)
                  (all_map (IsRightAt content settled) (IsRightAt content (settled ++ (more).0)) (λ q h. right_later content settled (more).0 q h) placed
                  K.right))
                  right)))

              pub fits_none : length placed + x.over ≤ length placed + q3.over
              fits_none = let g = over_grows meaning x.over d in omega (arith, g, over3)

              pub reads_none : (o : Option (Call × ℕ × Reply)) → o ≡ read_in meaning (goes_on meaning count x2.worker.doing told) →
                  ((v : Call × ℕ × Reply) → o ≡ Some v → ⊥) → AreReadsIn meaning content grown u.name u.number d []
              reads_none o is never = read_none meaning content grown u.name u.number d (sym (ap (read_in meaning) doing_is) ∙ sym is ∙ by_option o never)
                where
                  by_option : (o : Option (Call × ℕ × Reply)) → ((v : Call × ℕ × Reply) → o ≡ Some v → ⊥) → o ≡ None
                  by_option None h = refl
                  by_option (Some v) h = absurd (h v refl)

              pub reads_some : (o : Option (Call × ℕ × Reply)) (call : Call) (first : ℕ) (reply : Reply) →
                  o ≡ read_in meaning (goes_on meaning count x2.worker.doing told) → o ≡ Some (call, first, reply) → HasRead meaning d call first reply
              reads_some o call first reply is some = read_some meaning d call first reply (sym (ap (read_in meaning) doing_is) ∙ sym is ∙ some)

              module _ (call : Call) (first : ℕ) (reply : Reply) (h : HasRead meaning d call first reply) where
                noted_at : (first ≤ length grown) × (n.noted ≡ fin.get (map_after_all content (take first grown)) (key_of call))
                noted_at =
                    noted_then meaning content grown n.noted d call first reply h
                    (subst (λ es. NotedIn meaning content es n.noted d) (sym (more).1)
                    (later.noted_now meaning l content m settled placed keys values entries reads (r).before (r).behind x K1 over e asks_e (more).0 n.noted q3
                    is_noted work3 noted3 part3 waits3))

                pub first_in : first ≤ length grown
                first_in = (noted_at).0

                pub noted_is3 : q3.noted ≡ fin.get (map_after_all content (take first grown)) (key_of call)
                noted_is3 = noted3 ∙ (noted_at).1

                pub fits_some : (r : Placed) → length (placed ++ r ∷ []) + x.over ≤ length placed + q3.over
                fits_some r = let g = read_over meaning d call first reply x.over h in omega (arith, g, over3, length-append placed (r ∷ []))

                module _ (worker : ℕ) (place : i ≡ worker - 1) (low : 1 ≤ worker) where
                  entry_is : ◌≡◌ {A = Entry} (record { worker = worker; number = q3.worker.number; call = call; reply = reply })
                      (record { worker = u.name; number = u.number; call = call; reply = reply })
                  entry_is =
                      let named : worker ≡ u.name = number (r).long ((before.here meaning l content m settled placed keys values entries reads (r).before
                      (r).behind x K1).named) in
                      ap (λ w. record { worker = w; number = q3.worker.number; call = call; reply = reply }) named
                      ∙ ap (λ y. record { worker = u.name; number = y.worker.number; call = call; reply = reply }) part3
                    where
                      number : length (r).before ≡ i → x.worker.name ≡ 1 + length (r).before → worker ≡ (entered meaning (part_of x)).name
                      number k named = (let e1 : worker ≡ 1 + length (r).before = omega (arith, k, place, low) in e1) ∙ sym named
                          ∙ sym (before.enters_name meaning l x.worker x.worker.doing (slice_get x.work.items.items x.over))

                  pub placed_from : IsPlacedFrom first content grown (record { worker = worker; number = q3.worker.number; call = call; reply = reply })
                  placed_from =
                      subst (IsPlacedFrom first content grown) (sym entry_is)
                      (subst (λ es. IsPlacedFrom first content es (record { worker = u.name; number = u.number; call = call; reply = reply }))
                      (sym (ap (λ p. p.settled) (progress1)))
                      (law_place meaning l (moment_after meaning (before.M meaning l content m settled placed keys values entries reads (r).before (r).behind x
                      K1) e (ws (r).before) u (ws (r).behind)) (ws (r).before) (ws (r).behind) u.name u.number d call first reply h
                      (before.holds_after meaning l content m settled placed keys values entries reads (r).before (r).behind x K1 over e asks_e)))
                    where
                      progress1 : progress_of grown ((r2).before ++ q3 ∷ (r2).behind) ≡ progress_after (progress_of settled ((r).before ++ x ∷ (r).behind)) m e
                          (effect_by meaning (entered meaning (part_of x)))
                      progress1 =
                          later.progress_now meaning l content m settled placed keys values entries reads (r).before (r).behind x K1 over e asks_e (more).0
                          n.noted q3 is_noted work3 noted3 part3 waits3
                          p1 x2 (r2).before (r2).behind grown changed waiting1
                          (subst (λ ps. Settles keys (raised e (answer m e)) ((r).before ++ p1 ∷ (r).behind) settled values ps grown changed) (r2).is settles1)
                          ((r2).long ∙ sym ((r).long)) waiting_is (more).1

                  pub reads_placed : (position : ℕ) → IsLeastPlace content grown first
                      (record { position = position; entry = record { worker = worker; number = q3.worker.number; call = call; reply = reply } }) →
                      AreReadsIn meaning content grown u.name u.number d (record {
                        position = position;
                        entry =
                            record { worker = worker; number = q3.worker.number; call = call; reply = reply };
                      } ∷ [])
                  reads_placed position least =
                      read_placed meaning content grown u.name u.number d call first reply h
                      (record { position = position; entry = record { worker = worker; number = q3.worker.number; call = call; reply = reply } }) entry_is
                      least

              progress2 : progress_of grown (set players2 i q3) ≡ progress_after (progress_of settled players) m e (effect_by meaning u)
              progress2 =
                  ap (progress_of grown) ((r2).put q3)
                  ∙ later.progress_now meaning l content m settled placed keys values entries reads (r).before (r).behind x K1 over e asks_e (more).0 n.noted q3
                  is_noted work3 noted3 part3 waits3
                  p1 x2 (r2).before (r2).behind grown changed waiting1
                  (subst (λ ps. Settles keys (raised e (answer m e)) ((r).before ++ p1 ∷ (r).behind) settled values ps grown changed) (r2).is settles1)
                  ((r2).long ∙ sym ((r).long)) waiting_is (more).1
                  ∙ ap (λ ps. progress_after (progress_of settled ps) m e (effect_by meaning u)) (sym ((r).is))

              parts2 : map part_of (set players2 i q3) ≡ map part_of (r).before ++ part_after meaning (part_of x) u d ∷ map part_of (r).behind
              parts2 =
                  ap (map part_of) ((r2).put q3)
                  ∙ later.parts_now meaning l content m settled placed keys values entries reads (r).before (r).behind x K1 over e asks_e (more).0 n.noted q3
                  is_noted work3 noted3 part3 waits3
                  p1 x2 (r2).before (r2).behind grown changed waiting1
                  (subst (λ ps. Settles keys (raised e (answer m e)) ((r).before ++ p1 ∷ (r).behind) settled values ps grown changed) (r2).is settles1)
                  ((r2).long ∙ sym ((r).long)) waiting_is (more).1

              pub turned : (worker : ℕ) → i ≡ worker - 1 → 1 ≤ worker → (new : List Placed) (placed2 : List Placed) → placed2 ≡ placed ++ new →
                  AreReadsIn meaning content grown u.name u.number d new →
                  Turned meaning (run_of content m settled placed players) worker e told (run_of content (after m e) grown placed2 (set players2 i q3))
              turned worker ei h new placed2 joined right = record {
                before = map part_of (r).before;
                part = part_of x;
                behind = map part_of (r).behind;
                is = is_part worker ei h;
                on = on;
                asks = asks_e;
                answers = told_is;
                content = refl;
                state = refl;
                progress = progress2;
                parts = parts2;
                reads = new;
                placed = joined;
                reads_are = right;
              }

-- the worker of a run that a call names
pub part_at : {Op : Type 0} (content : Map) (m : State) (settled : List Entry) (placed : List Placed) (players : List (Player (Worker Op))) (r : Run Op)
    (worker : ℕ) (x : Player (Worker Op)) →
    run_of content m settled placed players ≡ r → worker - 1 < length players → x ≡ get_or players (worker - 1) x →
    (a : List (Part Op)) (p : Part Op) (b : List (Part Op)) → IsPart r worker a p b → part_of x ≡ p
part_at content m settled placed players r worker x e lt is a p b at_part =
    let t : SplitsAt players (worker - 1) x = splits_at players (worker - 1) x lt is in
    let parts : map part_of t.before ++ part_of x ∷ map part_of t.behind ≡ a ++ p ∷ b = sym (parts_joined t.before t.behind x) ∙ sym (ap (map part_of) t.is)
    ∙ ap (λ y. y.parts) e ∙ at_part.is in
    let long : length (map part_of t.before) ≡ length a = (let n = parts_long t.before in let k = t.long in let w = at_part.number in omega (arith, n, k, w)) in
    (same_split (map part_of t.before) (map part_of t.behind) a b (part_of x) p parts long).here

pub some_part : {Op : Type 0} (content : Map) (m : State) (settled : List Entry) (placed : List Placed) (players : List (Player (Worker Op))) (r : Run Op)
    (worker : ℕ) (x : Player (Worker Op)) →
    run_of content m settled placed players ≡ r → worker - 1 < length players → 1 ≤ worker → x ≡ get_or players (worker - 1) x →
    (a : List (Part Op)) × (b : List (Part Op)) × IsPart r worker a (part_of x) b
some_part content m settled placed players r worker x e lt low is =
    let t : SplitsAt players (worker - 1) x = splits_at players (worker - 1) x lt is in (
      map part_of t.before,
      map part_of t.behind,
      record {
        is = sym (ap (λ y. y.parts) e) ∙ ap (map part_of) t.is ∙ parts_joined t.before t.behind x;
        number = (let n = parts_long t.before in let k = t.long in omega (arith, n, k, low));
      },
    )
