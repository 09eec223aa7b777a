-- The settled updates of a run: each is an update, and those of one worker stand in the order of its calls.
use Rattle.std.proofs.Common.{◌≡◌, ℕ, suc, true, List, [], ◌∷◌, ◌++◌, map, filter, ap, ◌∙◌, subst, eqb}
use Rattle.std.proofs.lemmas.List.{map-append}
use Rattle.std.proofs.lemmas.List.Elements.{filter-append}
use Rattle.std.specs.List.{AllByRecursion}
use Rattle.flit_model.specs.Histories.{is_update}
use Rattle.flit_model.specs.declared.calls.Entry.{Entry}
use Rattle.flit_model.specs.Lists.{IsRisingFrom}
use Rattle.flit_structure.specs.Moments.{Moment, numbers_of, waiting_updates}
use Rattle.flit_structure.specs.Meanings.{Meaning}
use Rattle.flit_structure.specs.Lawful.{Lawful}
use Rattle.flit_structure.proofs.Names.{all_left}

rising_front : (low : ℕ) (ks ls : List ℕ) → IsRisingFrom low (ks ++ ls) → IsRisingFrom low ks
rising_front low [] ls h = tt
rising_front low (k ∷ ks) ls h = (h.0, rising_front (suc k) ks ls h.1)

numbers_joined : (name : ℕ) (xs ys : List Entry) → numbers_of name (xs ++ ys) ≡ numbers_of name xs ++ numbers_of name ys
numbers_joined name xs ys =
    ap (map (λ e. e.number)) (filter-append (λ e. eqb e.worker name) xs ys)
    ∙ map-append (λ e. e.number) (filter (λ e. eqb e.worker name) xs) (filter (λ e. eqb e.worker name) ys)

module _ {Op : Type 0} (meaning : Meaning Op) (l : Lawful meaning) (M : Moment Op) (holds : meaning.holds M) where
  pub settled_updates : AllByRecursion (λ e. is_update e ≡ true) M.progress.settled
  settled_updates = all_left (λ e. is_update e ≡ true) M.progress.settled (waiting_updates M.progress) (l.entries M holds).updates

  pub settled_rise : (name : ℕ) → IsRisingFrom 0 (numbers_of name M.progress.settled)
  settled_rise name =
      rising_front 0 (numbers_of name M.progress.settled) (numbers_of name (waiting_updates M.progress))
      (subst (IsRisingFrom 0) (numbers_joined name M.progress.settled (waiting_updates M.progress)) ((l.entries M holds).rises name))
