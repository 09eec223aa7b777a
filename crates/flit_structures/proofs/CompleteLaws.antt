-- Why no command can refuse a right trace.
use Rattle.std.proofs.Common.{◌≡◌, ◌≢◌, ◌⊎◌, ℕ, ◌<◌, List, length, Option, Some, refl, subst, inl, inr, arith}
use Rattle.std.specs.Option.{IfSome}
use Rattle.flit_trace.specs.declared.faults.Bound.{Bound}
use Rattle.flit_statuses.specs.Answers.{Blames, HasNoAnswer, IsTooLong}
use Rattle.flit_statuses.specs.Reading.{CountsReads}
use Rattle.flit_statuses.specs.Writing.{CountsWrites}
use Rattle.flit_statuses.specs.declared.status.Status.{Status}
use Rattle.flit_statuses.specs.declared.status.Status.TheVariants.{Done, Usage, BadTrace, Limit, BadImage, ReadFault, WriteFault, NoMemory}
use Rattle.flit_structures.specs.Refusals.{HasNoReport}
use Rattle.flit_structures.specs.RightTraces.{IsRightTrace, RightTracesAreAnswered, CanComplete}

no_answer : (answered : RightTracesAreAnswered) (status : Status) (input : Option (List ℕ)) (bytes : List ℕ) → input ≡ Some bytes → IsRightTrace bytes →
    HasNoAnswer HasNoReport status input → status ≡ NoMemory
no_answer answered status input bytes told right none =
    let same = subst (λ (i : Option (List ℕ)). IfSome i (λ known. none.bytes ≡ known)) told none.told in
    answered bytes status right (subst (λ (bs : List ℕ). HasNoReport bs status) same none.none)

not_long : (line : ℕ) (limit : Bound) (input : Option (List ℕ)) (bytes : List ℕ) → input ≡ Some bytes → IsRightTrace bytes → IsTooLong line limit input → ⊥
not_long line limit input bytes told right long =
    let past = subst (λ (i : Option (List ℕ)). IfSome i (λ bs. 268435456 < length bs)) told long.long in
    let short = right.short in
    omega (arith, past, short)

module _ {Wanted : Type 0} (answered : RightTracesAreAnswered) (words_for : Wanted → List (List ℕ)) (words : List (List ℕ)) (input : Option (List ℕ))
    (reads_before reads_after writes_before writes_after : ℕ) (can : CanComplete words_for words input reads_before reads_after writes_before writes_after) where
  pub completes : (status : Status) → (status ≡ Usage → (wanted : Wanted) → words ≢ words_for wanted) → Blames HasNoReport status input →
      CountsReads status reads_before reads_after → CountsWrites status writes_before writes_after → (status ≡ Done) ⊎ (status ≡ NoMemory)
  completes Done usage blames reads writes = inl refl
  completes Usage usage blames reads writes = absurd (usage refl can.wanted can.words_are)
  completes (BadTrace line) usage blames reads writes = inr (no_answer answered (BadTrace line) input can.bytes can.told can.right blames)
  completes (Limit line limit) usage blames reads writes =
      elim blames [
        | inl long ↦ absurd (not_long line limit input can.bytes can.told can.right long)
        | inr none ↦ inr (no_answer answered (Limit line limit) input can.bytes can.told can.right none)
      ]
  completes (BadImage fault) usage blames reads writes = inr (no_answer answered (BadImage fault) input can.bytes can.told can.right blames)
  completes ReadFault usage blames reads writes = absurd (can.read (reads.told refl))
  completes WriteFault usage blames reads writes = absurd (can.written (writes.told refl))
  completes NoMemory usage blames reads writes = inr refl
