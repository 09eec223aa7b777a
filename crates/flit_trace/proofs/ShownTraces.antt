-- What the fields of a trace show.
use Rattle.std.proofs.Common.{◌≡◌, ℕ, suc, zero, Bool, List, [], ◌∷◌, map, get_or, sym, refl, ap}
use Rattle.std.specs.List.{AllByRecursion}
use Rattle.flit_model.specs.declared.calls.Ahead.{Ahead}
use Rattle.flit_model.specs.declared.calls.Ahead.TheVariants as ahead
use Rattle.flit_trace.specs.declared.entries.Entry.{Entry}
use Rattle.flit_trace.specs.Ahead.{Names}
use Rattle.flit_trace.specs.Entries.{numbered}
use Rattle.flit_trace.specs.Views.{names_all, named}

pub seen_script : {X : Type 0} (entries : X → List Entry) (xs : List X) (k : ℕ) →
    get_or (map (λ v. map numbered (entries v)) xs) k [] ≡ map numbered (get_or (map entries xs) k [])
seen_script entries [] k = refl
seen_script entries (x ∷ xs) zero = refl
seen_script entries (x ∷ xs) (suc k) = seen_script entries xs k

-- scripts with no lines show none
pub no_lines : {X : Type 0} (entries : X → List Entry) (xs : List X) → AllByRecursion (λ script. script ≡ []) (map entries xs) →
    AllByRecursion (λ script. script ≡ []) (map (λ v. map numbered (entries v)) xs)
no_lines entries [] h = tt
no_lines entries (x ∷ xs) h = (ap (λ es. map numbered es) h.0, no_lines entries xs h.1)

pub record IsNamed (a : Ahead) (all : Bool) (words : List ℕ) : Type 0 where
  pub all_is : names_all a ≡ all
  pub words_are : named a ≡ words

pub names_are : (a : Ahead) (all : Bool) (words : List ℕ) → Names a all words → IsNamed a all words
names_are ahead.None all words n = record { all_is = sym n.0; words_are = sym n.1 }
names_are ahead.All all words n = record { all_is = sym n.0; words_are = sym n.1 }
names_are (ahead.Words v) all words n = record { all_is = sym n.0; words_are = n.2 }

pub names_itself : (a : Ahead) (all : Bool) (words : List ℕ) → Names a all words → Names a (names_all a) (named a)
names_itself ahead.None all words n = (refl, refl)
names_itself ahead.All all words n = (refl, refl)
names_itself (ahead.Words v) all words n = (refl, rw n.2 n.1, refl)
