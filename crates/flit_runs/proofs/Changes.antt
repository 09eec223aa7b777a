-- What keeps a world of machines sound beside the turns of a run: rest, ends, hiring and the order of workers.
use Rattle.std.proofs.Common.{◌≡◌, ◌⊎◌, inl, inr, ⊎_elim, ℕ, suc, ◌-◌, ◌^◌, ◌<◌, Bool, false, List, [], ◌∷◌, ◌++◌, length, count_by, None, refl, sym, ◌∙◌, ap, subst, arith, append_assoc}
use Rattle.std.proofs.lemmas.List.{length-append}
use Rattle.std.specs.List.{AllByRecursion}
use Rattle.std.specs.Option.{option_to_list}
use Rattle.flit_model.specs.States.{State, word_at, IsPersistent}
use Rattle.flit_model.specs.Effects.{with_word}
use Rattle.flit_model.proofs.Elements.{all_weaker, all_zip}
use Rattle.flit_place.specs.Tags.{Place}
use Rattle.flit_place.specs.Covers.{Covers, HoldsOfWriting, holds_up}
use Rattle.flit_place.specs.declared.writings.Writing.{Writing}
use Rattle.flit_pv.specs.declared.hands.Hand.{Hand}
use Rattle.flit_pv.specs.declared.queues.Noted.{Noted}
use Rattle.flit_pv.specs.Hands.{with_pair}
use Rattle.flit_runs.specs.Workings.{Dependency, dependency, Idles, writing_at, goes_for, asks, leaves, confirms}
use Rattle.flit_runs.proofs.Starts.{has_left}
use Rattle.flit_runs.specs.Worlds.{Seen, Actor, world_of, writings, IsAway, IsNobodys}
use Rattle.flit_runs.specs.Soundness.{IsSound, IsSafe, AreApart, IsEachWithEach, IsPersistentOrWon, HasWon, IsSafelyRead, IsStored, MayBeStored, MayWriteBack, owed}
use Rattle.flit_runs.proofs.Lists.{all_any, away-flip, each_others}
use Rattle.flit_runs.proofs.Growth.{grows-same}
use Rattle.flit_runs.proofs.Carrying.{carries-lasts, knows-lasts}
use Rattle.flit_runs.proofs.ExchangeSteps.{around}
use Rattle.flit_runs.proofs.Steps.{Holds, Step, step-none}
use Rattle.flit_runs.proofs.StoreSteps.{stores, carries-stored}
use Rattle.flit_runs.proofs.Turns.{carries-of, safe-from, holds, safe, own-away, goes_on, splits}
use Rattle.flit_place.proofs.Splits.{all_with, all_left, all_right, all_both, all_swap}
use Rattle.flit_model.proofs.Counting.{count_by-append}
use Rattle.flit_words.specs.Words.{version_of}

-- ---- lists

module _ {X : Type 0} (R : X → X → Type 0) (turned : (x y : X) → R x y → R y x) where
  abbrev Cross : List X → List X → Type 0
  Cross xs ys = AllByRecursion (λ x. AllByRecursion (R x) ys) xs

  each_parts : (xs ys : List X) → IsEachWithEach R (xs ++ ys) → IsEachWithEach R xs × IsEachWithEach R ys × Cross xs ys
  each_parts [] ys h = (tt, h, tt)
  each_parts (x ∷ xs) ys h = let r = each_parts xs ys h.1 in ((all_left (R x) xs ys h.0, r.0), r.1, (all_right (R x) xs ys h.0, r.2))

  each_whole : (xs ys : List X) → IsEachWithEach R xs → IsEachWithEach R ys → Cross xs ys → IsEachWithEach R (xs ++ ys)
  each_whole [] ys h k c = k
  each_whole (x ∷ xs) ys h k c = (all_both (R x) xs ys h.0 c.0, each_whole xs ys h.1 k c.1)

  cross_turned : (xs ys : List X) → Cross xs ys → Cross ys xs
  cross_turned xs [] h = tt
  cross_turned xs (y ∷ ys) h = (
    all_weaker (λ x. AllByRecursion (R x) (y ∷ ys)) (R y) (λ x k. turned x y k.0) xs h,
    cross_turned xs ys (all_weaker (λ x. AllByRecursion (R x) (y ∷ ys)) (λ x. AllByRecursion (R x) ys) (λ x k. k.1) xs h),
  )

  pub each_swap : (a x y b : List X) → IsEachWithEach R (a ++ (x ++ (y ++ b))) → IsEachWithEach R (a ++ (y ++ (x ++ b)))
  each_swap a x y b h =
      let r = each_parts a (x ++ (y ++ b)) h in
      let s = each_parts x (y ++ b) r.1 in
      let t = each_parts y b s.1 in
      let xy = all_weaker (λ u. AllByRecursion (R u) (y ++ b)) (λ u. AllByRecursion (R u) y) (λ u k. all_left (R u) y b k) x s.2 in
      let xb = all_weaker (λ u. AllByRecursion (R u) (y ++ b)) (λ u. AllByRecursion (R u) b) (λ u k. all_right (R u) y b k) x s.2 in
      let yxb = all_zip (λ u. AllByRecursion (R u) x) (λ u. AllByRecursion (R u) b) (λ u. AllByRecursion (R u) (x ++ b)) (λ u k l. all_both (R u) x b k l) y
      (cross_turned x y xy) t.2 in
      each_whole a (y ++ (x ++ b)) r.0 (each_whole y (x ++ b) t.0 (each_whole x b s.0 t.1 xb) yxb)
      (all_weaker (λ u. AllByRecursion (R u) (x ++ (y ++ b))) (λ u. AllByRecursion (R u) (y ++ (x ++ b))) (λ u k. all_swap (R u) [] x y b k) a r.2)

apart_turned : (a b : Actor) → AreApart a b → AreApart b a
apart_turned a b h = record { private = away-flip a.private b.private h.private; mine = h.others; others = h.mine }

-- ---- a worker is hired

safe_first : (p : Place) (vs : ℕ → Bool) (s : State) (ws : List Writing) (hand : Hand) → hand.queue ≡ [] →
    IsSafe p vs s ws (record { at = Idles hand; needs = []; seen = []; private = [] })
safe_first p vs s ws hand none = record {
  needs = tt;
  pairs = subst (AllByRecursion (MayWriteBack vs s)) (sym none) tt;
  knows = tt;
  seen = tt;
  plain = tt;
  stored = tt;
  apart = tt;
}

pub sound_hires : (p : Place) (vs : ℕ → Bool) (s : State) (workers : List Actor) (hand : Hand) → hand.queue ≡ [] → suc (length workers) < 2 ^ 64 - 1 →
    IsSound p vs (record { state = s; workers = workers }) → IsSound p vs (record
    { state = s; workers = (record { at = Idles hand; needs = []; seen = []; private = [] }) ∷ workers })
sound_hires p vs s workers hand none few sound = record {
  suits = sound.suits;
  words = sound.words;
  plain = sound.plain;
  covers = sound.covers;
  settled = λ word plain nobodys. sound.settled word plain nobodys.1;
  apart = (
    all_any (AreApart (record { at = Idles hand; needs = []; seen = []; private = [] }))
        (λ o. record { private = tt; mine = tt; others = all_any (IsAway []) (λ w. tt) (goes_for o.at) }) workers,
    sound.apart,
  );
  few = few;
  workers = (safe_first p vs s (writings workers) hand none, sound.workers);
}

-- ---- stretches change places

joined : (xs ys : List Actor) → writings (xs ++ ys) ≡ writings xs ++ writings ys
joined [] ys = refl
joined (x ∷ xs) ys = ap (λ ws. option_to_list (writing_at x.at) ++ ws) (joined xs ys)
    ∙ sym (append_assoc (option_to_list (writing_at x.at)) (writings xs) (writings ys))

joined_four : (a x y b : List Actor) → writings (a ++ (x ++ (y ++ b))) ≡ writings a ++ (writings x ++ (writings y ++ writings b))
joined_four a x y b = joined a (x ++ (y ++ b)) ∙ ap (λ ws. writings a ++ ws) (joined x (y ++ b) ∙ ap (λ ws. writings x ++ ws) (joined y b))

won_left : (xs ys : List Writing) (word bare : ℕ) → HasWon xs word bare → HasWon (xs ++ ys) word bare
won_left [] ys word bare h = absurd h
won_left (x ∷ xs) ys word bare h = ⊎_elim (λ k. inl k) (λ k. inr (won_left xs ys word bare k)) h

won_right : (xs ys : List Writing) (word bare : ℕ) → HasWon ys word bare → HasWon (xs ++ ys) word bare
won_right [] ys word bare h = h
won_right (x ∷ xs) ys word bare h = inr (won_right xs ys word bare h)

won_two : (xs ys : List Writing) (word bare : ℕ) → HasWon (xs ++ ys) word bare → HasWon xs word bare ⊎ HasWon ys word bare
won_two [] ys word bare h = inr h
won_two (x ∷ xs) ys word bare h = ⊎_elim (λ k. inl (inl k)) (λ k. ⊎_elim (λ l. inl (inr l)) (λ l. inr l) (won_two xs ys word bare k)) h

won_swap : (a x y b : List Writing) (word bare : ℕ) → HasWon (a ++ (x ++ (y ++ b))) word bare → HasWon (a ++ (y ++ (x ++ b))) word bare
won_swap a x y b word bare h = ⊎_elim (λ k. won_left a (y ++ (x ++ b)) word bare k)
    (λ k. won_right a (y ++ (x ++ b)) word bare (⊎_elim (λ l. won_right y (x ++ b) word bare (won_left x b word bare l))
    (λ l. ⊎_elim (λ q. won_left y (x ++ b) word bare q) (λ q. won_right y (x ++ b) word bare (won_right x b word bare q)) (won_two y b word bare l))
    (won_two x (y ++ b) word bare k)))
    (won_two a (x ++ (y ++ b)) word bare h)

settled_swap : (s : State) (a x y b : List Writing) (word : ℕ) → IsPersistentOrWon s (a ++ (x ++ (y ++ b))) word →
    IsPersistentOrWon s (a ++ (y ++ (x ++ b))) word
settled_swap s a x y b word h = ⊎_elim (λ k. inl k) (λ k. inr (won_swap a x y b word _ k)) h

count_four : (P : Writing → Bool) (a x y b : List Writing) → count_by P (a ++ (x ++ (y ++ b))) ≡ count_by P (a ++ (y ++ (x ++ b)))
count_four P a x y b =
    let i = count_by-append P a (x ++ (y ++ b)) in
    let j = count_by-append P x (y ++ b) in
    let k = count_by-append P y b in
    let l = count_by-append P a (y ++ (x ++ b)) in
    let m = count_by-append P y (x ++ b) in
    let n = count_by-append P x b in
    omega (arith, i, j, k, l, m, n)

length_four : (a x y b : List Actor) → length (a ++ (x ++ (y ++ b))) ≡ length (a ++ (y ++ (x ++ b)))
length_four a x y b =
    let i = length-append a (x ++ (y ++ b)) in
    let j = length-append x (y ++ b) in
    let k = length-append y b in
    let l = length-append a (y ++ (x ++ b)) in
    let m = length-append y (x ++ b) in
    let n = length-append x b in
    omega (arith, i, j, k, l, m, n)

covers_swap : (p : Place) (s : State) (a x y b : List Writing) → Covers p s (a ++ (x ++ (y ++ b))) → Covers p s (a ++ (y ++ (x ++ b)))
covers_swap p s a x y b h = record {
  within = all_swap (λ w. w.word < length s.words) a x y b h.within;
  each = all_swap (HoldsOfWriting p s) a x y b h.each;
  counts = λ slot below. h.counts slot below ∙ count_four (holds_up p.slot slot) a x y b;
}

safe_swap : (p : Place) (vs : ℕ → Bool) (s : State) (a x y b : List Writing) (me : Actor) → IsSafe p vs s (a ++ (x ++ (y ++ b))) me →
    IsSafe p vs s (a ++ (y ++ (x ++ b))) me
safe_swap p vs s a x y b me h =
    let won : (j bare : ℕ) → HasWon (a ++ (x ++ (y ++ b))) j bare → HasWon (a ++ (y ++ (x ++ b))) j bare ⊎ IsPersistent s j (version_of bare) =
    λ j bare k. inl (won_swap a x y b j bare k) in
    let words : AllByRecursion (λ w. word_at s w ≡ word_at s w) me.private = all_any (λ w. word_at s w ≡ word_at s w) (λ w. refl) me.private in
    safe-from p vs s (a ++ (y ++ (x ++ b))) me
    (carries-lasts p vs s s (a ++ (x ++ (y ++ b))) (a ++ (y ++ (x ++ b))) (grows-same vs s) won (owed me.at) me.needs me.seen me.private words
    (carries-of p vs s (a ++ (x ++ (y ++ b))) me h))
    (knows-lasts p vs s s (a ++ (x ++ (y ++ b))) (a ++ (y ++ (x ++ b))) me.private (grows-same vs s) won words me.at h.knows)
    h.apart

module _ (p : Place) (vs : ℕ → Bool) (s : State) (a x y b : List Actor) where
  abbrev Before : List Writing
  Before = writings a ++ (writings x ++ (writings y ++ writings b))

  abbrev Behind : List Writing
  Behind = writings a ++ (writings y ++ (writings x ++ writings b))

  pub sound_swap : IsSound p vs (record { state = s; workers = a ++ (x ++ (y ++ b)) }) → IsSound p vs (record { state = s; workers = a ++ (y ++ (x ++ b)) })
  sound_swap sound =
      let from : writings (a ++ (x ++ (y ++ b))) ≡ Before = joined_four a x y b in
      let to : Behind ≡ writings (a ++ (y ++ (x ++ b))) = sym (joined_four a y x b) in
      record {
        suits = sound.suits;
        words = sound.words;
        plain = subst (AllByRecursion (λ w. vs w.word ≡ false)) to (all_swap (λ w. vs w.word ≡ false) (writings a) (writings x) (writings y) (writings b)
            (subst (AllByRecursion (λ w. vs w.word ≡ false)) from sound.plain));
        covers = subst (Covers p s) to (covers_swap p s (writings a) (writings x) (writings y) (writings b) (subst (Covers p s) from sound.covers));
        settled = λ word plain nobodys. subst (λ ws. IsPersistentOrWon s ws word) to
            (settled_swap s (writings a) (writings x) (writings y) (writings b) word
            (subst (λ ws. IsPersistentOrWon s ws word) from (sound.settled word plain (all_swap (λ me. IsAway me.private word) a y x b nobodys))));
        apart = each_swap AreApart apart_turned a x y b sound.apart;
        few = subst (λ n. n < 2 ^ 64 - 1) (length_four a x y b) sound.few;
        workers = all_swap (IsSafe p vs s (writings (a ++ (y ++ (x ++ b))))) a x y b
            (subst (λ ws. AllByRecursion (IsSafe p vs s ws) (a ++ (x ++ (y ++ b)))) to
            (all_weaker (IsSafe p vs s Before) (IsSafe p vs s Behind) (λ me h. safe_swap p vs s (writings a) (writings x) (writings y) (writings b) me h)
            (a ++ (x ++ (y ++ b)))
            (subst (λ ws. AllByRecursion (IsSafe p vs s ws) (a ++ (x ++ (y ++ b)))) from sound.workers)));
      }

-- ---- a worker at rest

-- its hand may be another with the same queue: what it depends on, has seen and has private stays
pub sound_rests : (p : Place) (vs : ℕ → Bool) (s : State) (xs : List Actor) (me : Actor) (ys : List Actor) (hand : Hand) → writing_at me.at ≡ None →
    owed me.at ≡ hand.queue →
    IsSound p vs (world_of s xs me ys) → IsSound p vs (world_of s xs (record me { at = Idles hand }) ys)
sound_rests p vs s xs me ys hand none queue sound =
    let you : Actor = record me { at = Idles hand } in
    let same : around (writings xs) (writing_at me.at) (writings ys) ≡ around (writings xs) None (writings ys) =
    ap (λ w. around (writings xs) w (writings ys)) none in
    let mine : IsSafe p vs s (around (writings xs) None (writings ys)) me = subst (λ ws. IsSafe p vs s ws me) same (safe p vs s xs me ys sound) in
    let old : AllByRecursion (AreApart me) (xs ++ ys) = each_others AreApart apart_turned xs me ys sound.apart in
    goes_on p vs s xs me ys sound s you [] []
    (subst (λ ws. Step p vs s s ws (around (writings xs) None (writings ys)) [] []) (sym same) (step-none p vs s (around (writings xs) None (writings ys)) [] []
    (subst (λ ws. Holds p vs s ws) same (holds p vs s xs me ys sound))))
    (all_any (λ o. AllByRecursion (IsAway o.private) [] × AllByRecursion (IsAway o.private) []) (λ o. (tt, tt)) (xs ++ ys))
    (all_weaker (AreApart me) (AreApart you) (λ o k. record { private = k.private; mine = tt; others = k.others }) (xs ++ ys) old)
    (λ j plain others away. subst (λ ws. IsPersistentOrWon s ws j) same (around_settled j plain (all_with (λ o. IsAway o.private j) xs me ys away others)))
    (record {
      needs = subst (λ q. AllByRecursion (λ d. IsSafelyRead s q d.word d.version) me.needs) queue mine.needs;
      pairs = subst (AllByRecursion (MayWriteBack vs s)) queue mine.pairs;
      knows = tt;
      seen = mine.seen;
      plain = mine.plain;
      stored = subst (λ q. AllByRecursion (IsStored s q me.needs) me.private) queue mine.stored;
      apart = tt;
    })
  where
    around_settled : (j : ℕ) → vs j ≡ false → IsNobodys (xs ++ me ∷ ys) j → IsPersistentOrWon s (around (writings xs) (writing_at me.at) (writings ys)) j
    around_settled j plain nobodys = subst (λ ws. IsPersistentOrWon s ws j) (splits xs me ys) (sound.settled j plain nobodys)

-- it stores the next version of one of its private words, which was persistent; then it owes and depends on that
pub sound_stores : (p : Place) (vs : ℕ → Bool) (s : State) (xs : List Actor) (hand : Hand) (needs : List Dependency) (seen : List Seen) (private : List ℕ)
    (ys : List Actor) (next : Noted) → MayBeStored s private next →
    IsSound p vs (world_of s xs (record { at = Idles hand; needs = needs; seen = seen; private = private }) ys) →
    IsSound p vs (world_of (with_word s next.word next.kept) xs (record {
      at = Idles (with_pair hand next);
      needs = dependency next.word (version_of next.kept) ∷ needs;
      seen = seen;
      private = private;
    }) ys)
sound_stores p vs s xs hand needs seen private ys next may sound =
    let me : Actor = record { at = Idles hand; needs = needs; seen = seen; private = private } in
    let you : Actor = record me { at = Idles (with_pair hand next); needs = dependency next.word (version_of next.kept) ∷ needs } in
    let ws : List Writing = around (writings xs) None (writings ys) in
    let t : State = with_word s next.word next.kept in
    let held : Holds p vs s ws = holds p vs s xs me ys sound in
    let carried = carries-of p vs s ws me (safe p vs s xs me ys sound) in
    let step : Step p vs s t ws ws [] private = stores p vs s ws needs seen private next hand.queue held carried may
    (own-away p vs s xs me ys sound next.word may.mine) in
    let old : AllByRecursion (AreApart me) (xs ++ ys) = each_others AreApart apart_turned xs me ys sound.apart in
    goes_on p vs s xs me ys sound t you [] private step
    (all_weaker (AreApart me) (λ o. AllByRecursion (IsAway o.private) [] × AllByRecursion (IsAway o.private) private) (λ o k. (tt, k.private)) (xs ++ ys) old)
    (all_weaker (AreApart me) (AreApart you) (λ o k. record { private = k.private; mine = tt; others = k.others }) (xs ++ ys) old)
    (λ j plain others away. step.settled j plain away (around_settled j plain (all_with (λ o. IsAway o.private j) xs me ys away others)))
    (safe-from p vs t ws you (carries-stored p vs s ws needs seen private next hand.queue held carried may step) tt tt)
  where
    around_settled : (j : ℕ) → vs j ≡ false →
        IsNobodys (xs ++ (record { at = Idles hand; needs = needs; seen = seen; private = private }) ∷ ys) j →
        IsPersistentOrWon s (around (writings xs) None (writings ys)) j
    around_settled j plain nobodys = subst (λ ws. IsPersistentOrWon s ws j)
        (splits xs (record { at = Idles hand; needs = needs; seen = seen; private = private }) ys)
        (sound.settled j plain nobodys)

-- ---- a machine that has ended

-- its worker is at rest with the hand that it leaves, and depends on what it confirmed
pub sound_leaves : (p : Place) (vs : ℕ → Bool) (s : State) (xs : List Actor) (me : Actor) (ys : List Actor) → asks p me.at ≡ None →
    IsSound p vs (world_of s xs me ys) → IsSound p vs (world_of s xs (record me { at = Idles (leaves me.at); needs = confirms me.at ++ me.needs }) ys)
sound_leaves p vs s xs me ys none sound =
    let you : Actor = record me { at = Idles (leaves me.at); needs = confirms me.at ++ me.needs } in
    let mine : IsSafe p vs s (around (writings xs) (writing_at me.at) (writings ys)) me = safe p vs s xs me ys sound in
    let left = has_left p vs s (around (writings xs) (writing_at me.at) (writings ys)) me.needs me.seen me.private (holds p vs s xs me ys sound) me.at none
    mine.knows (carries-of p vs s (around (writings xs) (writing_at me.at) (writings ys)) me mine) in
    let same : around (writings xs) (writing_at me.at) (writings ys) ≡ around (writings xs) None (writings ys) =
    ap (λ w. around (writings xs) w (writings ys)) left.writes in
    let old : AllByRecursion (AreApart me) (xs ++ ys) = each_others AreApart apart_turned xs me ys sound.apart in
    goes_on p vs s xs me ys sound s you [] []
    (subst (λ ws. Step p vs s s ws (around (writings xs) None (writings ys)) [] []) (sym same) (step-none p vs s (around (writings xs) None (writings ys)) [] []
    (subst (λ ws. Holds p vs s ws) same (holds p vs s xs me ys sound))))
    (all_any (λ o. AllByRecursion (IsAway o.private) [] × AllByRecursion (IsAway o.private) []) (λ o. (tt, tt)) (xs ++ ys))
    (all_weaker (AreApart me) (AreApart you) (λ o k. record { private = k.private; mine = tt; others = k.others }) (xs ++ ys) old)
    (λ j plain others away. subst (λ ws. IsPersistentOrWon s ws j) same (around_settled j plain (all_with (λ o. IsAway o.private j) xs me ys away others)))
    (safe-from p vs s (around (writings xs) None (writings ys)) you (subst
    (λ ws. Rattle.flit_runs.proofs.Carrying.Carries p vs s ws (leaves me.at).queue (confirms me.at ++ me.needs) me.seen me.private) same left.carries) tt
    tt)
  where
    around_settled : (j : ℕ) → vs j ≡ false → IsNobodys (xs ++ me ∷ ys) j → IsPersistentOrWon s (around (writings xs) (writing_at me.at) (writings ys)) j
    around_settled j plain nobodys = subst (λ ws. IsPersistentOrWon s ws j) (splits xs me ys) (sound.settled j plain nobodys)
