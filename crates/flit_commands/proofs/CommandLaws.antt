-- Each command is read back from its words, so no words name two; and a list of five words is known by its places.
use Rattle.std.proofs.Common.{◌≡◌, ℕ, Bool, true, false, not, ◌<◌, ◌^◌, List, [], ◌∷◌, Option, Some, None, length, slice_get, refl, sym, ◌∙◌, ap, arith, codes, decimal, if◌then◌else◌}
use Rattle.std.specs.Str.{bytes_eq}
use Rattle.std.specs.Str.Parse.{digits_value}
use Rattle.std.proofs.lemmas.Slice.Eq.{bytes_eq-Decides}
use Rattle.std.proofs.lemmas.Fmt.{decimal_is_IsNumeral}
use Rattle.flit_commands.specs.declared.commands.RunOption.TheVariants.{Summary as Run_summary, Image as Run_image}
use Rattle.flit_commands.specs.declared.commands.StepOption.TheVariants.{Events, Summary, Image, Detect}
use Rattle.flit_commands.specs.declared.commands.Command.{Command}
use Rattle.flit_commands.specs.declared.commands.Command.TheVariants.{Run, Step, Recover, Make, Queue, Check}
use Rattle.flit_commands.specs.CommandWords.{said_by, IsCommand}

-- the command that one word names, or a word and its option
alone : List ℕ → Option Command
alone word =
    if bytes_eq word (codes "run") then Some (Run None)
    else if bytes_eq word (codes "step") then Some (Step None)
    else if bytes_eq word (codes "recover") then Some Recover
    else if bytes_eq word (codes "queue") then Some Queue
    else Some Check

with_run : List ℕ → Option Command
with_run option = if bytes_eq option (codes "--summary") then Some (Run (Some Run_summary)) else Some (Run (Some Run_image))

with_step : List ℕ → Option Command
with_step option =
    if bytes_eq option (codes "--events") then Some (Step (Some Events))
    else if bytes_eq option (codes "--summary") then Some (Step (Some Summary))
    else if bytes_eq option (codes "--image") then Some (Step (Some Image))
    else Some (Step (Some Detect))

read : List (List ℕ) → Option Command
read [] = None
read (word ∷ []) = alone word
read (word ∷ option ∷ []) = if bytes_eq word (codes "run") then with_run option else with_step option
read (word ∷ seed ∷ calls ∷ []) = None
read (word ∷ seed ∷ calls ∷ keys ∷ []) = None
read (word ∷ seed ∷ calls ∷ keys ∷ workers ∷ rest) =
    Some (Make (record { seed = digits_value 10 seed; calls = digits_value 10 calls; keys = digits_value 10 keys; workers = digits_value 10 workers }))

value : (n : ℕ) → n < 2 ^ 64 → digits_value 10 (decimal n) ≡ n
value n small = (decimal_is_IsNumeral n small).1

read-said : (command : Command) → IsCommand command → read (said_by command) ≡ Some command
unfolding alone with_run with_step read
read-said (Run None) h = refl
read-said (Run (Some Run_summary)) h = refl
read-said (Run (Some Run_image)) h = refl
read-said (Step None) h = refl
read-said (Step (Some Events)) h = refl
read-said (Step (Some Summary)) h = refl
read-said (Step (Some Image)) h = refl
read-said (Step (Some Detect)) h = refl
read-said Recover h = refl
read-said Queue h = refl
read-said Check h = refl
read-said (Make making) h =
    let seed = value making.seed (omega (arith, h.seed)) in
    let calls = value making.calls (omega (arith, h.most_calls)) in
    let keys = value making.keys (omega (arith, h.most_keys)) in
    let workers = value making.workers (omega (arith, h.most_workers)) in
    λ i. Some (Make (record { seed = seed i; calls = calls i; keys = keys i; workers = workers i }))

pub no_two : (a b : Command) → IsCommand a → IsCommand b → said_by a ≡ said_by b → a ≡ b
no_two a b h k e =
    let same : Some a ≡ Some b = sym (read-said a h) ∙ ap read e ∙ read-said b k in cc

-- what isn't unequal is equal
not_unequal : (b : Bool) → not b ≡ false → b ≡ true
not_unequal true e = refl
not_unequal false e = cc

pub same_text : (ne : Bool) (x y : List ℕ) → ne ≡ not (bytes_eq x y) → ne ≡ false → x ≡ y
same_text ne x y e h = (bytes_eq-Decides x y).0 (not_unequal (bytes_eq x y) (sym e ∙ h))

pub same_word : (x y : List ℕ) (place : Option (List ℕ)) → Some x ≡ place → place ≡ Some y → x ≡ y
same_word x y place has said = cc

-- five words are those at its five places
pub five_words : (words : List (List ℕ)) (a b c d e : List ℕ) → length words ≡ 5 → slice_get words 0 ≡ Some a → slice_get words 1 ≡ Some b →
    slice_get words 2 ≡ Some c → slice_get words 3 ≡ Some d → slice_get words 4 ≡ Some e → words ≡ a ∷ b ∷ c ∷ d ∷ e ∷ []
five_words (v ∷ w ∷ x ∷ y ∷ z ∷ []) a b c d e l at_a at_b at_c at_d at_e = cc
five_words [] a b c d e l at_a at_b at_c at_d at_e = absurd (omega (arith, l))
five_words (v ∷ []) a b c d e l at_a at_b at_c at_d at_e = absurd (omega (arith, l))
five_words (v ∷ w ∷ []) a b c d e l at_a at_b at_c at_d at_e = absurd (omega (arith, l))
five_words (v ∷ w ∷ x ∷ []) a b c d e l at_a at_b at_c at_d at_e = absurd (omega (arith, l))
five_words (v ∷ w ∷ x ∷ y ∷ []) a b c d e l at_a at_b at_c at_d at_e = absurd (omega (arith, l))
five_words (v ∷ w ∷ x ∷ y ∷ z ∷ u ∷ rest) a b c d e l at_a at_b at_c at_d at_e = absurd (omega (arith, l))
