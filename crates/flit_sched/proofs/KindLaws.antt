-- An item has an outcome exactly where it is a call.
use Rattle.std.proofs.Common.{◌≡◌, ◌↔◌, ℕ, zero, suc, ◌<◌, true, false, List, [], ◌∷◌, length, map, refl, sym, ◌∙◌, ap, arith, Option, Some, None, slice_get, slice_index_or, is_some}
use Rattle.std.proofs.Math.ListN.{set}
use Rattle.flit_model.specs.Maps.{Map}
use Rattle.flit_model.specs.declared.calls.Entry.{Entry}
use Rattle.flit_model.specs.declared.calls.Item.{Item}
use Rattle.flit_model.specs.declared.calls.Item.TheVariants.{Call as Call_item, Evict as Evict_item}
use Rattle.flit_model.specs.declared.calls.Outcome.{Outcome}
use Rattle.flit_model.specs.declared.calls.Outcome.TheVariants.{Replied}
use Rattle.flit_model.specs.declared.calls.Reply.{Reply}
use Rattle.flit_structure.specs.declared.workers.Doing.{Doing}
use Rattle.flit_structure.specs.declared.workers.Doing.TheVariants.{Idle, Busy, Evicting}
use Rattle.flit_structure.specs.Meanings.{Meaning, goes_on}
use Rattle.flit_sched.specs.Openings.{first_outcome, is_call, IsEvictAt}
use Rattle.flit_sched.specs.Turns.{enters, reply_in, outcomes_after}
use Rattle.flit_sched.specs.Kept.{IsAtItem}
use Rattle.flit_sched.proofs.StepLaws.{at}
use Rattle.flit_sched.proofs.WaitingLaws.{no_some}

pub kinds_first : (items : List Item) → map is_some (map first_outcome items) ≡ map is_call items
kinds_first [] = refl
kinds_first (Call_item call ∷ items) = ap (λ bs. true ∷ bs) (kinds_first items)
kinds_first (Evict_item word ∷ items) = ap (λ bs. false ∷ bs) (kinds_first items)

kinds_set : (os : List (Option Outcome)) (items : List Item) (n : ℕ) (i : Item) (x : Outcome) → slice_get items n ≡ Some i → is_call i ≡ true →
    map is_some os ≡ map is_call items → map is_some (set os n (Some x)) ≡ map is_call items
kinds_set [] items n i x e h k = k
kinds_set (o ∷ os) [] n i x e h k = absurd (cc)
kinds_set (o ∷ os) (j ∷ items) zero i x e h k =
    let tails : map is_some os ≡ map is_call items = cc in
    let same : j ≡ i = cc in
    ap (λ bs. true ∷ bs) tails ∙ ap (λ b. b ∷ map is_call items) (sym (ap is_call same ∙ h))
kinds_set (o ∷ os) (j ∷ items) (suc n) i x e h k =
    let tails : map is_some os ≡ map is_call items = cc in
    let heads : is_some o ≡ is_call j = cc in
    ap (λ bs. is_some o ∷ bs) (kinds_set os items n i x e h tails) ∙ ap (λ b. b ∷ map is_call items) heads

pub kind_at : (os : List (Option Outcome)) (items : List Item) (n : ℕ) → map is_some os ≡ map is_call items → n < length items →
    (slice_index_or os n None ≡ None) ↔ IsEvictAt items n
kind_at os [] n k h = absurd (omega arith)
kind_at [] (i ∷ items) n k h = absurd (cc)
kind_at (o ∷ os) (i ∷ items) zero k h = by_kind o i (cc)
  where
    by_kind : (o : Option Outcome) (i : Item) → is_some o ≡ is_call i → (o ≡ None) ↔ IsEvictAt (i ∷ items) 0
    by_kind None (Call_item call) e = absurd (cc)
    by_kind None (Evict_item word) e = ((λ f. (word, refl)), (λ f. refl))
    by_kind (Some x) (Call_item call) e = ((λ f. absurd (cc)), (λ f. let q = f.1 in absurd (cc)))
    by_kind (Some x) (Evict_item word) e = absurd (cc)
kind_at (o ∷ os) (i ∷ items) (suc n) k h =
    let tails : map is_some os ≡ map is_call items = cc in
    kind_at os items n tails (omega arith)

module _ {Op : Type 0} (meaning : Meaning Op) where
  pub kinds_after : (os : List (Option Outcome)) (items : List Item) (over : ℕ) (i : Item) → slice_get items over ≡ Some i →
      map is_some os ≡ map is_call items → (o : Option Reply) → ((r : Reply) → o ≡ Some r → is_call i ≡ true) →
      map is_some (outcomes_after meaning os over o) ≡ map is_call items
  kinds_after os items over i e k None h = k
  kinds_after os items over i e k (Some reply) h = kinds_set os items over i (Replied reply) e (h reply refl) k

  -- only a call has a reply
  pub replied_call : (content : Map) (settled : List Entry) (item : Item) (noted : Option ℕ) (name number told : ℕ) (doing : Doing Op) →
      IsAtItem meaning content settled (Some item) noted doing →
      (r : Reply) → reply_in meaning (goes_on meaning (length settled) (enters meaning (at name number doing) doing (Some item)).doing told) ≡ Some r →
      is_call item ≡ true
  replied_call content settled (Call_item call) noted name number told (Idle hand) k r e = refl
  replied_call content settled (Evict_item word) noted name number told (Idle hand) k r e = absurd (no_some r e)
  replied_call content settled item noted name number told (Busy op call None) k r e = absurd k
  replied_call content settled item noted name number told (Busy op call (Some n)) k r e =
      let same : item ≡ Call_item call = (let q = k.0 in cc) in
      ap is_call same
  replied_call content settled item noted name number told (Evicting evict) k r e = absurd (no_some r e)
