-- What is kept of the worker whose turn it is, after its event.
use Rattle.std.proofs.Common.{◌≡◌, ℕ, zero, suc, ◌+◌, ◌<◌, ◌≤◌, List, [], ◌∷◌, ◌++◌, length, take, refl, sym, ◌∙◌, ap, subst, arith, Option, Some, None, length-append, slice_get, is_some}
use Rattle.std.specs.List.{AllByRecursion}
use Rattle.std.specs.FinMap as fin
use Rattle.flit_model.specs.Maps.{Map, map_after_all}
use Rattle.flit_model.specs.declared.calls.Call.{Call}
use Rattle.flit_model.specs.declared.calls.Entry.{Entry}
use Rattle.flit_model.specs.declared.calls.Item.{Item}
use Rattle.flit_model.specs.declared.calls.Item.TheVariants.{Call as Call_item, Evict as Evict_item}
use Rattle.flit_model.specs.declared.calls.Reply.{Reply}
use Rattle.flit_model.specs.declared.events.Event.{Event}
use Rattle.flit_pv.specs.declared.evicts.Evict.{Evict}
use Rattle.flit_pv.specs.Evicts.{evict_asked, evict_taken, evict_started}
use Rattle.flit_structure.specs.declared.workers.Doing.{Doing}
use Rattle.flit_structure.specs.declared.workers.Doing.TheVariants.{Idle, Busy, Evicting}
use Rattle.flit_structure.specs.Meanings.{Meaning, key_of, goes_on, replied}
use Rattle.flit_sched.specs.Turns.{enters, rests, hand_over, hand_replied, hand_evicted, over_after}
use Rattle.flit_sched.specs.Kept.{IsAtItem, one_if_busy}
use Rattle.flit_sched.proofs.StepLaws.{at}

-- an element that is there
pub get_there : {X : Type 0} (xs : List X) (n : ℕ) → n < length xs → (x : X) × (slice_get xs n ≡ Some x)
get_there [] n h = absurd (omega arith)
get_there (x ∷ xs) zero h = (x, refl)
get_there (x ∷ xs) (suc n) h = get_there xs n (omega arith)

pub all_get : {X : Type 0} (P : X → Type 0) (xs : List X) (n : ℕ) (x : X) → AllByRecursion P xs → slice_get xs n ≡ Some x → P x
all_get P [] n x h e = absurd (cc)
all_get P (y ∷ xs) zero x h e = let same : y ≡ x = cc in subst P same h.0
all_get P (y ∷ xs) (suc n) x h e = all_get P xs n x h.1 e

-- the first of some updates and more are the first of these
pub take_front : {X : Type 0} (n : ℕ) (xs ys : List X) → n ≤ length xs → take n (xs ++ ys) ≡ take n xs
take_front zero xs ys h = refl
take_front (suc n) [] ys h = absurd (omega arith)
take_front (suc n) (x ∷ xs) ys h = ap (λ zs. x ∷ zs) (take_front n xs ys (omega arith))

pub take_whole : {X : Type 0} (xs ys : List X) → take (length xs) (xs ++ ys) ≡ xs
take_whole [] ys = refl
take_whole (x ∷ xs) ys = ap (λ zs. x ∷ zs) (take_whole xs ys)

module _ {Op : Type 0} (meaning : Meaning Op) where
  -- what was noted when the call began, or is noted now
  abbrev pub IsNotedFor : Map → List Entry → Option Item → Option ℕ → Option ℕ → Doing Op → Type 0
  IsNotedFor content settled (Some (Call_item call)) was noted (Idle hand) = noted ≡ fin.get (map_after_all content settled) (key_of call)
  IsNotedFor content settled (Some (Evict_item word)) was noted (Idle hand) = Unit {0}
  IsNotedFor content settled None was noted (Idle hand) = Unit {0}
  IsNotedFor content settled item was noted (Busy op call begun) = noted ≡ was
  IsNotedFor content settled item was noted (Evicting evict) = noted ≡ was

  busy_on : (content : Map) (settled : List Entry) (item : Option Item) (noted : Option ℕ) (over number : ℕ) (op : Op) (call : Call) (n : ℕ) →
      item ≡ Some (Call_item call) → n ≤ length settled → noted ≡ fin.get (map_after_all content (take n settled)) (key_of call) → number ≤ over + 1 →
      (o : Option Reply) → replied meaning op ≡ o →
      (IsAtItem meaning content settled item noted (rests meaning (Busy op call (Some n)) (hand_replied meaning op o)))
      × (number ≤ over_after meaning over (hand_replied meaning op o) + one_if_busy (rests meaning (Busy op call (Some n)) (hand_replied meaning op o)))
  busy_on content settled item noted over number op call n is le at_first count None r = ((is, r, le, at_first), count)
  busy_on content settled item noted over number op call n is le at_first count (Some reply) r = (tt, omega arith)

  evict_on : (content : Map) (settled : List Entry) (item : Option Item) (noted : Option ℕ) (over number : ℕ) (evict : Evict) (word : ℕ) →
      item ≡ Some (Evict_item word) → number ≤ over → (o : Option Event) → evict_asked evict ≡ o →
      (IsAtItem meaning content settled item noted (rests meaning (Evicting evict) (hand_evicted meaning evict o)))
      × (number ≤ over_after meaning over (hand_evicted meaning evict o) + one_if_busy (rests meaning (Evicting evict) (hand_evicted meaning evict o)))
  evict_on content settled item noted over number evict word is count None r = (tt, omega arith)
  evict_on content settled item noted over number evict word is count (Some e) r = ((word, is, ap is_some r), omega arith)

  pub at_item : (content : Map) (settled more : List Entry) (item : Item) (was noted : Option ℕ) (name number over told : ℕ) (doing : Doing Op) →
      IsAtItem meaning content settled (Some item) was doing → IsNotedFor content settled (Some item) was noted doing → number ≤ over + one_if_busy doing →
      let u = enters meaning (at name number doing) doing (Some item) in
      let d = goes_on meaning (length settled) u.doing told in
      (IsAtItem meaning content (settled ++ more) (Some item) noted (rests meaning d (hand_over meaning d)))
      × (u.number ≤ over_after meaning over (hand_over meaning d) + one_if_busy (rests meaning d (hand_over meaning d)))
  at_item content settled more (Call_item call) was noted name number over told (Idle hand) k n count =
      busy_on content (settled ++ more) (Some (Call_item call)) noted over (number + 1) (meaning.taken (meaning.begun hand call) told) call (length settled)
      refl
      (simp length-append (omega arith)) (n ∙ ap (λ xs. fin.get (map_after_all content xs) (key_of call)) (sym (take_whole settled more))) (omega arith)
      (replied meaning (meaning.taken (meaning.begun hand call) told)) refl
  at_item content settled more (Evict_item word) was noted name number over told (Idle hand) k n count =
      evict_on content (settled ++ more) (Some (Evict_item word)) noted over number (evict_taken (evict_started hand word) told) word refl (omega arith)
      (evict_asked (evict_taken (evict_started hand word) told)) refl
  at_item content settled more item was noted name number over told (Busy op call None) k n count = absurd k
  at_item content settled more item was noted name number over told (Busy op call (Some first)) k n count =
      busy_on content (settled ++ more) (Some item) noted over number (meaning.taken op told) call first k.0 (simp length-append (let q = k.2 in omega arith))
      (n ∙ k.3 ∙ ap (λ xs. fin.get (map_after_all content xs) (key_of call)) (sym (take_front first settled more k.2))) count
      (replied meaning (meaning.taken op told)) refl
  at_item content settled more item was noted name number over told (Evicting evict) k n count =
      evict_on content (settled ++ more) (Some item) noted over number (evict_taken evict told) k.0 k.1 (omega arith) (evict_asked (evict_taken evict told))
      refl
