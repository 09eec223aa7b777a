-- Which replies fit a call.
use Rattle.std.proofs.Common.{◌≡◌, ℕ, Bool, true, false, Option, Some, None, refl, sym, ◌∙◌, ap, if◌then◌else◌}
use Rattle.std.proofs.lemmas.Bool.{false≢true}
use Rattle.std.specs.FinMap as fin
use Rattle.flit_model.specs.Maps.{Map, reply_of, found_or_no}
use Rattle.flit_model.specs.Histories.{is_update_by}
use Rattle.flit_model.specs.declared.calls.Call.{Call}
use Rattle.flit_model.specs.declared.calls.Call.TheVariants.{Insert, Remove, Contains, Get}
use Rattle.flit_model.specs.declared.calls.Reply.{Reply}
use Rattle.flit_model.specs.declared.calls.Reply.TheVariants.{Yes, No, Full}
use Rattle.flit_structure.specs.Lawful.{fits}

-- what a map answers
of_map : (m : Map) (call : Call) → fits call (reply_of m call) ≡ true
of_map m (Insert k v) = by_key (fin.contains_key m k)
  where
    by_key : (b : Bool) → fits (Insert k v) (if b then No else Yes) ≡ true
    by_key true = refl
    by_key false = refl
of_map m (Remove k) = by_key (fin.contains_key m k)
  where
    by_key : (b : Bool) → fits (Remove k) (if b then Yes else No) ≡ true
    by_key true = refl
    by_key false = refl
of_map m (Contains k) = by_key (fin.contains_key m k)
  where
    by_key : (b : Bool) → fits (Contains k) (if b then Yes else No) ≡ true
    by_key true = refl
    by_key false = refl
of_map m (Get k) = by_value (fin.get m k)
  where
    by_value : (o : Option ℕ) → fits (Get k) (found_or_no o) ≡ true
    by_value None = refl
    by_value (Some v) = refl

pub answer_fits : (m : Map) (call : Call) (reply : Reply) → reply ≡ reply_of m call → fits call reply ≡ true
answer_fits m call reply is = ap (fits call) is ∙ of_map m call

-- what an update answers
pub update_fits : (call : Call) → is_update_by call Yes ≡ true → fits call Yes ≡ true
update_fits (Insert k v) e = refl
update_fits (Remove k) e = refl
update_fits (Contains k) e = absurd (false≢true e)
update_fits (Get k) e = absurd (false≢true e)

-- Full answers an insert
pub full_fits : (call : Call) (ticket k v : ℕ) → call ≡ Insert k v → fits call (Full ticket) ≡ true
full_fits call ticket k v insert = ap (λ c. fits c (Full ticket)) insert
