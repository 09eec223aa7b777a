-- What stands of the crew's proof with no structure in it: what a machine was started for, and the numbers of updates.
use Rattle.std.specs.Prelude.{◌≡◌, ◌≢◌, ℕ, ◌<◌, List, [], ◌∷◌, ◌++◌}
use Rattle.std.specs.List.{AllByRecursion}
use Rattle.flit_model.specs.Lists.{IsRisingFrom}
use Rattle.flit_model.specs.declared.calls.Entry.{Entry}
use Rattle.flit_place.specs.Tags.{Place}
use Rattle.flit_structure.specs.Moments.{numbers_of}
use Rattle.flit_crew.specs.Machines.{Machine, machine_takes, aim_of}

-- No event changes what a machine was started for: the word that it loads or confirms, and what it exchanges.
abbrev pub AimsStay : Type 0
AimsStay = (p : Place) (free : List ℕ) (m : Machine) (told : ℕ) → aim_of (machine_takes p free m told) ≡ aim_of m

-- Each name's numbers go on rising, settled and then waiting in any order of words: where an update comes to wait whose
-- name has none that waits and whose number is above those settled; and settling the one that waits changes no numbers.
pub record NumbersRise : Type 0 where
  pub won : (name : ℕ) (settled front back : List Entry) (e : Entry) → AllByRecursion (λ d. d.worker ≢ e.worker) front →
      AllByRecursion (λ d. d.worker ≢ e.worker) back →
      AllByRecursion (λ m. m < e.number) (numbers_of e.worker settled) → IsRisingFrom 0 (numbers_of e.worker settled) →
      IsRisingFrom 0 (numbers_of name (settled ++ (front ++ back))) →
      IsRisingFrom 0 (numbers_of name (settled ++ (front ++ e ∷ back)))
  pub settled : (name : ℕ) (settled front back : List Entry) (e : Entry) → AllByRecursion (λ d. d.worker ≢ e.worker) front →
      AllByRecursion (λ d. d.worker ≢ e.worker) back →
      numbers_of name ((settled ++ e ∷ []) ++ (front ++ back)) ≡ numbers_of name (settled ++ (front ++ e ∷ back))
