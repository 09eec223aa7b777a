-- What a turn's event makes of its worker: a reply says what is so, and the worker comes nearer to its end.
use Rattle.std.proofs.Common.{◌≡◌, ◌⊎◌, inl, inr, ℕ, ◌-◌, ◌<◌, List, [], ◌∷◌, ◌++◌, length, map, refl, sym, ◌∙◌, ap, subst, arith, Option, Some, None, slice_get}
use Rattle.flit_model.specs.Maps.{Map}
use Rattle.flit_model.specs.States.{State}
use Rattle.flit_model.specs.Effects.{after, answer}
use Rattle.flit_model.specs.Settling.{progress_after}
use Rattle.flit_model.specs.declared.calls.Entry.{Entry}
use Rattle.flit_model.specs.declared.calls.Item.{Item}
use Rattle.flit_model.specs.declared.calls.Placed.{Placed}
use Rattle.flit_model.specs.declared.calls.Reply.{Reply}
use Rattle.flit_model.specs.declared.events.Event.{Event}
use Rattle.flit_pv.specs.declared.hands.Hand.{Hand}
use Rattle.flit_pv.specs.declared.evicts.Evict.{Evict}
use Rattle.flit_pv.specs.declared.evicts.Evicting.{Evicting as Evict_at}
use Rattle.flit_pv.specs.declared.evicts.Evicting.TheVariants.{Reads, WritesBack, Done}
use Rattle.flit_pv.specs.Evicts.{evict_asks, evict_takes}
use Rattle.flit_structure.specs.declared.workers.Doing.{Doing}
use Rattle.flit_structure.specs.declared.workers.Doing.TheVariants.{Idle, Busy, Evicting}
use Rattle.flit_structure.specs.declared.workers.Worker.{Worker}
use Rattle.flit_structure.specs.Moments.{Moment, with_workers}
use Rattle.flit_structure.specs.Meanings.{Meaning, asks, asked_by, effect_by, goes_on, moment_after, replied}
use Rattle.flit_structure.specs.Lawful.{Lawful}
use Rattle.flit_sched.specs.declared.players.Player.{Player}
use Rattle.flit_sched.specs.declared.runs.Turn.TheVariants.{Event as Event_turn}
use Rattle.flit_sched.specs.Runs.{Part, Run, IsPart}
use Rattle.flit_sched.specs.Turns.{IsOut, entered, enters, rests, over_after, hand_over, part_after, IsRepliedBy, IsRepliedIn, evict_to_go, to_go_in, left_of, left_at, to_go_of, to_go_at, Turned, AreRepliesRight, GoesDown}
use Rattle.flit_sched.specs.Kept.{IsKept, run_of, part_of, progress_of}
use Rattle.flit_sched.proofs.StepLaws.{at}
use Rattle.flit_sched.proofs.SplitLists.{same_split}
use Rattle.flit_sched.proofs.WaitingLaws.{no_some}
use Rattle.flit_sched.proofs.PlayerLaws.{ws}
use Rattle.flit_sched.proofs.BeforeLaws as before

-- what stands between two stretches
pub get_split : {X : Type 0} (a b : List X) (x : X) → slice_get (a ++ x ∷ b) (length a) ≡ Some x
get_split [] b x = refl
get_split (y ∷ a) b x = get_split a b x

pub part_there : {Op : Type 0} (r : Run Op) (worker : ℕ) (a : List (Part Op)) (p : Part Op) (b : List (Part Op)) → IsPart r worker a p b →
    slice_get r.parts (worker - 1) ≡ Some p
part_there r worker a p b h =
    ap (λ ps. slice_get ps (worker - 1)) h.is ∙ ap (slice_get (a ++ p ∷ b)) (let n = h.number in let k : worker - 1 ≡ length a = omega (arith, n) in k)
    ∙ get_split a b p

-- the list from which another was mapped, where this is split
pub record Unmapped {X Y : Type 0} (f : X → Y) (xs : List X) (c d : List Y) (y : Y) : Type 0 where
  pub a : List X
  pub b : List X
  pub x : X
  pub is : xs ≡ a ++ x ∷ b
  pub front : map f a ≡ c
  pub here : f x ≡ y
  pub back : map f b ≡ d

pub unmapped : {X Y : Type 0} (f : X → Y) (xs : List X) (c d : List Y) (y : Y) → map f xs ≡ c ++ y ∷ d → Unmapped f xs c d y
unmapped f [] [] d y e = absurd (cc)
unmapped f [] (z ∷ c) d y e = absurd (cc)
unmapped f (x ∷ xs) [] d y e = record { a = []; b = xs; x = x; is = refl; front = refl; here = (cc); back = (cc) }
unmapped f (x ∷ xs) (z ∷ c) d y e = longer f x xs z c d y (cc) (unmapped f xs c d y (cc))
  where
    longer : {X Y : Type 0} (f : X → Y) (x : X) (xs : List X) (z : Y) (c d : List Y) (y : Y) → f x ≡ z → Unmapped f xs c d y → Unmapped f (x ∷ xs) (z ∷ c) d y
    longer f x xs z c d y h r = record {
      a = x ∷ r.a;
      b = r.b;
      x = r.x;
      is = ap (λ zs. x ∷ zs) r.is;
      front = ap (λ w. w ∷ map f r.a) h
          ∙ ap (λ ws. z ∷ ws) r.front;
      here = r.here;
      back = r.back;
    }

-- a worker is nearer to its end than before
abbrev pub IsNearer : ℕ → ℕ → ℕ → ℕ → Type 0
IsNearer left to_go left2 to_go2 = (left2 < left) ⊎ ((left2 ≡ left) × (to_go2 < to_go))

module _ {Op : Type 0} (meaning : Meaning Op) (l : Lawful meaning) where
  evict_falls : (how : Evict_at) (evict : Evict) (e : Event) (told : ℕ) → evict_asks how evict ≡ Some e →
      evict_to_go (evict_takes how evict told).at < evict_to_go how
  evict_falls Reads evict e told h = omega arith
  evict_falls (WritesBack raw) evict e told h = omega arith
  evict_falls Done evict e told h = absurd (no_some e h)

  -- what the worker has to go at its item falls by its event
  going : (M : Moment Op) (a b : List (Worker Op)) (name number : ℕ) (doing : Doing Op) (e : Event) (settled : ℕ) → asks meaning doing ≡ Some e →
      meaning.holds (with_workers M (a ++ at name number doing ∷ b)) →
      to_go_in meaning (after M.state e) (goes_on meaning settled doing (answer M.state e)) < to_go_in meaning M.state doing
  going M a b name number (Idle hand) e settled h held = absurd (no_some e h)
  going M a b name number (Busy op call begun) e settled h held = l.falls M a name number op call begun b e h held
  going M a b name number (Evicting evict) e settled h held = evict_falls evict.at evict e (answer M.state e) h

  nearer : (m n : State) (name number : ℕ) (d : Doing Op) (items : List Item) (over to_go : ℕ) (doing : Doing Op) (e : Event) (settled told : ℕ) →
      asks meaning doing ≡ Some e → d ≡ goes_on meaning settled doing told →
      over < length items → to_go_in meaning n d < to_go → (o : Option Hand) →
      IsNearer (length items - over) to_go (length items - over_after meaning over o)
      (to_go_in meaning n (enters meaning (at name number (rests meaning d o)) (rests meaning d o) (slice_get items (over_after meaning over o))).doing)
  nearer m n name number d items over to_go doing e settled told h is lt fall (Some hand) = inl (omega arith)
  nearer m n name number (Idle hand) items over to_go (Idle other) e settled told h is lt fall None = absurd (no_some e h)
  nearer m n name number (Idle hand) items over to_go (Busy op call begun) e settled told h is lt fall None = absurd (cc)
  nearer m n name number (Idle hand) items over to_go (Evicting evict) e settled told h is lt fall None = absurd (cc)
  nearer m n name number (Busy op call begun) items over to_go doing e settled told h is lt fall None = inr (refl, fall)
  nearer m n name number (Evicting evict) items over to_go doing e settled told h is lt fall None = inr (refl, fall)

  -- a reply says what is so
  replying : (M : Moment Op) (a b : List (Worker Op)) (name number : ℕ) (doing : Doing Op) → meaning.holds (with_workers M (a ++ at name number doing ∷ b)) →
      IsRepliedIn meaning M.opening.content M.state M.progress name number doing
  replying M a b name number (Idle hand) held = tt
  replying M a b name number (Busy op call begun) held = by_reply (replied meaning op) refl
    where
      by_reply : (o : Option Reply) → replied meaning op ≡ o → IsRepliedBy meaning M.opening.content M.state M.progress name number call begun o
      by_reply None is = tt
      by_reply (Some reply) is = l.replies M a name number op call begun reply b is held
  replying M a b name number (Evicting evict) held = tt

  module _ (content : Map) (m : State) (settled : List Entry) (placed : List Placed) (keys : List ℕ) (values : List (Option ℕ)) (entries reads : ℕ)
      (a b : List (Player (Worker Op))) (p : Player (Worker Op))
      (K : IsKept meaning (run_of content m settled placed (a ++ p ∷ b)) (a ++ p ∷ b) keys values entries reads) (on : ¬ (IsOut (part_of p)))
      (e : Event) (asks_e : asked_by meaning (entered meaning (part_of p)) ≡ Some e) where
    abbrev u : Worker Op
    u = entered meaning (part_of p)

    abbrev d : Doing Op
    d = goes_on meaning (length settled) u.doing (answer m e)

    over : p.over < length p.work.items.items
    over = before.has_item p on

    pub replied_now : IsRepliedIn meaning content (after m e) (progress_after (progress_of settled (a ++ p ∷ b)) m e (effect_by meaning u)) u.name u.number d
    replied_now =
        replying (moment_after meaning (before.M meaning l content m settled placed keys values entries reads a b p K) e (ws a) u (ws b)) (ws a) (ws b) u.name
        u.number d
        (before.holds_after meaning l content m settled placed keys values entries reads a b p K over e asks_e)

    pub nearer_now : let q = part_after meaning (part_of p) u d in
        IsNearer (left_of (Some (part_of p))) (to_go_of meaning m (Some (part_of p))) (left_of (Some q)) (to_go_of meaning (after m e) (Some q))
    nearer_now =
        nearer m (after m e) u.name u.number d p.work.items.items p.over (to_go_in meaning m u.doing) u.doing e (length settled) (answer m e) asks_e refl over
        (going (before.M meaning l content m settled placed keys values entries reads a b p K) (ws a) (ws b) u.name u.number u.doing e (length settled) asks_e
        (before.holds_entered meaning l content m settled placed keys values entries reads a b p K over))
        (hand_over meaning d)

module _ {Op : Type 0} (meaning : Meaning Op) (l : Lawful meaning) (content : Map) (m : State) (settled : List Entry) (placed : List Placed)
    (players : List (Player (Worker Op))) (keys : List ℕ) (values : List (Option ℕ)) (entries reads : ℕ)
    (K : IsKept meaning (run_of content m settled placed players) players keys values entries reads) where
  abbrev r : Run Op
  r = run_of content m settled placed players

  module _ (worker : ℕ) (e : Event) (told : ℕ) (next : Run Op) (T : Turned meaning (run_of content m settled placed players) worker e told next) where
    split : Unmapped part_of players T.before T.behind T.part
    split = unmapped part_of players T.before T.behind T.part T.is.is

    -- a fact of the worker's player and of those before and behind it
    by_split : (P : Part Op → Type 0) →
        ((a b : List (Player (Worker Op))) (p : Player (Worker Op)) (K1 : IsKept meaning (run_of content m settled placed (a ++ p ∷ b)) (a ++ p ∷ b) keys values
        entries reads) → ¬ (IsOut (part_of p)) →
        asked_by meaning (entered meaning (part_of p)) ≡ Some e → progress_of settled players ≡ progress_of settled (a ++ p ∷ b) → P (part_of p)) → P T.part
    by_split P f =
        subst P (split).here
        (f (split).a (split).b (split).x (subst (λ ps. IsKept meaning (run_of content m settled placed ps) ps keys values entries reads) (split).is K)
        (subst (λ q. ¬ (IsOut q)) (sym (split).here) T.on)
        (subst (λ q. asked_by meaning (entered meaning q) ≡ Some e) (sym (split).here) T.asks)
        (ap (progress_of settled) (split).is))

    replied_part : let u = entered meaning T.part in
        IsRepliedIn meaning content next.state next.progress u.name u.number (goes_on meaning (length settled) u.doing (answer m e))
    replied_part =
        subst (λ x. IsRepliedIn meaning content x next.progress (entered meaning T.part).name (entered meaning T.part).number
        (goes_on meaning (length settled) (entered meaning T.part).doing (answer m e))) (sym T.state)
        (subst (λ x. IsRepliedIn meaning content (after m e) x (entered meaning T.part).name (entered meaning T.part).number
        (goes_on meaning (length settled) (entered meaning T.part).doing (answer m e))) (sym T.progress)
        (by_split
        (λ q. IsRepliedIn meaning content (after m e) (progress_after (progress_of settled players) m e (effect_by meaning (entered meaning q)))
        (entered meaning q).name (entered meaning q).number (goes_on meaning (length settled) (entered meaning q).doing (answer m e)))
        (λ a b p K1 on asks_e same.
        subst (λ x. IsRepliedIn meaning content (after m e) (progress_after x m e (effect_by meaning (entered meaning (part_of p))))
        (entered meaning (part_of p)).name (entered meaning (part_of p)).number
        (goes_on meaning (length settled) (entered meaning (part_of p)).doing (answer m e))) (sym same)
        (replied_now meaning l content m settled placed keys values entries reads a b p K1 on e asks_e))))

    pub replies_right : AreRepliesRight meaning (run_of content m settled placed players) worker (Event_turn e told) next
    replies_right c q d at_part =
        let same = same_split T.before T.behind c d T.part q (sym T.is.is ∙ at_part.is) (let n = T.is.number in let k = at_part.number in omega (arith, n, k))
        in
        subst (λ x. IsRepliedIn meaning content next.state next.progress (entered meaning x).name (entered meaning x).number
        (goes_on meaning (length settled) (entered meaning x).doing (answer m e))) same.here replied_part

    part_was : slice_get (map part_of players) (worker - 1) ≡ Some T.part
    part_was = part_there (run_of content m settled placed players) worker T.before T.part T.behind T.is

    part_is : slice_get next.parts (worker - 1) ≡ Some (part_after meaning T.part (entered meaning T.part)
        (goes_on meaning (length settled) (entered meaning T.part).doing (answer m e)))
    part_is =
        ap (λ ps. slice_get ps (worker - 1)) T.parts
        ∙ ap (slice_get (T.before ++ part_after meaning T.part (entered meaning T.part)
        (goes_on meaning (length settled) (entered meaning T.part).doing (answer m e)) ∷ T.behind))
        (let n = T.is.number in let k : worker - 1 ≡ length T.before = omega (arith, n) in k)
        ∙ get_split T.before T.behind _

    nearer_part : let u = entered meaning T.part in let q = part_after meaning T.part u (goes_on meaning (length settled) u.doing (answer m e)) in
        IsNearer (left_of (Some T.part)) (to_go_of meaning m (Some T.part)) (left_of (Some q)) (to_go_of meaning (after m e) (Some q))
    nearer_part =
        by_split
        (λ y. let u = entered meaning y in let q = part_after meaning y u (goes_on meaning (length settled) u.doing (answer m e)) in
        IsNearer (left_of (Some y)) (to_go_of meaning m (Some y)) (left_of (Some q)) (to_go_of meaning (after m e) (Some q)))
        (λ a b p K1 on asks_e same. nearer_now meaning l content m settled placed keys values entries reads a b p K1 on e asks_e)

    pub goes_down : GoesDown meaning (run_of content m settled placed players) worker (Event_turn e told) next
    goes_down =
        subst (λ x. IsNearer (left_at (run_of content m settled placed players) worker) (to_go_at meaning (run_of content m settled placed players) worker)
        (left_at next worker) (to_go_of meaning x (slice_get next.parts (worker - 1)))) (sym T.state)
        (subst (λ o. IsNearer (left_at (run_of content m settled placed players) worker) (to_go_at meaning (run_of content m settled placed players) worker)
        (left_of o) (to_go_of meaning (after m e) o)) (sym part_is)
        (subst (λ o. let u = entered meaning T.part in let q = part_after meaning T.part u (goes_on meaning (length settled) u.doing (answer m e)) in
        IsNearer (left_of o) (to_go_of meaning m o) (left_of (Some q)) (to_go_of meaning (after m e) (Some q))) (sym part_was) nearer_part))

  pub replies_of : (worker : ℕ) (e : Event) (told : ℕ) (next now : Run Op) → run_of content m settled placed players ≡ now →
      Turned meaning now worker e told next → AreRepliesRight meaning now worker (Event_turn e told) next
  replies_of worker e told next now is t =
      subst (λ x. AreRepliesRight meaning x worker (Event_turn e told) next) is
      (replies_right worker e told next (subst (λ x. Turned meaning x worker e told next) (sym is) t))

  pub falls_of : (worker : ℕ) (e : Event) (told : ℕ) (next now : Run Op) → run_of content m settled placed players ≡ now →
      Turned meaning now worker e told next → GoesDown meaning now worker (Event_turn e told) next
  falls_of worker e told next now is t =
      subst (λ x. GoesDown meaning x worker (Event_turn e told) next) is (goes_down worker e told next
      (subst (λ x. Turned meaning x worker e told next) (sym is) t))
