-- What is left of an input that was read to its end, and what the error of reading an input says of it.
use Rattle.std.proofs.Common.{◌≡◌, ◌≤◌, ◌<◌, List, ℕ, [], length, drop, Option, Some, None, refl, sym, ap, ◌∙◌, subst, inl, arith}
use Rattle.std.proofs.lemmas.List.{drop_all}
use Rattle.std.specs.Option.{IfSome}
use Rattle.flit_outside.specs.Outside.{LosesFront}
use Rattle.flit_outside.specs.declared.input.InputError.{InputError}
use Rattle.flit_outside.specs.declared.input.InputError.TheVariants.{Fault, TooLong, NoMemory as No_input_memory}
use Rattle.flit_statuses.specs.Errors.{status_of_input}
use Rattle.flit_statuses.specs.Reading.{LeavesInput}
use Rattle.flit_statuses.specs.Answers.{Blames}
use Rattle.flit_statuses.specs.declared.status.Status.{Status}
use Rattle.flit_statuses.specs.declared.status.Status.TheVariants.{Done, Usage, BadTrace, Limit, BadImage, ReadFault, WriteFault, NoMemory}

-- what is left of an input within the limit that was read to its end
leaves_some : (s : Status) (input : List ℕ) (after : Option (List ℕ)) → length input ≤ 268435456 → after ≡ Some [] → LeavesInput s after input
leaves_some s input after short ended =
    let over : after ≡ Some (drop 268435457 input) = ended ∙ ap (λ (bs : List ℕ). Some bs) (sym (drop_all 268435457 input (omega arith))) in
    let lost : LosesFront 268435457 input after = record { count = 268435457; within = omega arith; rest = over } in
    by_status s input after ended over lost
  where
    by_status : (s : Status) (input : List ℕ) (after : Option (List ℕ)) → after ≡ Some [] → after ≡ Some (drop 268435457 input) →
        LosesFront 268435457 input after → LeavesInput s after input
    by_status Done input after ended over lost = ended
    by_status Usage input after ended over lost = tt
    by_status (BadTrace line) input after ended over lost = ended
    by_status (Limit line limit) input after ended over lost = over
    by_status (BadImage fault) input after ended over lost = ended
    by_status ReadFault input after ended over lost = lost
    by_status WriteFault input after ended over lost = ended
    by_status NoMemory input after ended over lost = lost

pub leaves_whole : (s : Status) (left after : Option (List ℕ)) (bytes : List ℕ) → IfSome left (λ input. bytes ≡ input) → length bytes ≤ 268435456 →
    IfSome left (λ _. after ≡ Some []) → IfSome left (LeavesInput s after)
leaves_whole s None after bytes e short ended = tt
leaves_whole s (Some input) after bytes e short ended = leaves_some s input after (subst (λ (bs : List ℕ). length bs ≤ 268435456) e short) ended

-- the error of reading an input blames its length alone
pub blames_error : (HasNone : List ℕ → Status → Type 0) (e : InputError) (left : Option (List ℕ)) →
    (e ≡ TooLong → IfSome left (λ input. 268435456 < length input)) → Blames HasNone (status_of_input e) left
blames_error HasNone Fault left long = tt
blames_error HasNone TooLong left long = inl (record { line_is = refl; limit_is = refl; long = long refl })
blames_error HasNone No_input_memory left long = tt
