-- What is true of each element so far; and Works that are seen to be right.
use Rattle.std.proofs.Common.{◌≡◌, ℕ, ◌+◌, ◌<◌, ◌≤◌, List, [], ◌∷◌, length, take, get_or, sym, subst}
use Rattle.std.proofs.lemmas.List.{take_more, take_all}
use Rattle.std.specs.List.{AllByRecursion}
use Rattle.flit_words.specs.declared.layouts.Layout.{Layout}
use Rattle.flit_model.specs.declared.calls.Work.{Work}
use Rattle.flit_model.proofs.Elements.{all-append}
use Rattle.flit_workers.specs.Works.{IsRightItem}
use Rattle.flit_workers.specs.Ends.{AreRight}

module _ {X : Type 0} (P : X → Type 0) where
  pub one_more : (xs : List X) (k : ℕ) (d : X) → k < length xs → AllByRecursion P (take k xs) → P (get_or xs k d) → AllByRecursion P (take (k + 1) xs)
  one_more xs k d within all one = subst (AllByRecursion P) (sym (take_more xs k d within)) (all-append P (take k xs) (get_or xs k d ∷ []) all (one, tt))

  pub all_of_them : (xs : List X) (k : ℕ) → length xs ≤ k → AllByRecursion P (take k xs) → AllByRecursion P xs
  all_of_them xs k past all = subst (AllByRecursion P) (take_all k xs past) all

-- works that are seen to be right as a slice, for the layout of the running structure
pub right_works : (l k : Layout) (names : ℕ) (works seen : List Work) → l ≡ k → seen ≡ works → length works ≡ names →
    AllByRecursion (λ (w : Work). AllByRecursion (IsRightItem k) w.items.items) seen → AllByRecursion (λ (w : Work). length w.items.items ≤ 4294967295) seen →
    AreRight l names works
right_works l k names works seen layout same one_each items most = record {
  one_each = one_each;
  items = subst (λ (m : Layout). AllByRecursion (λ (w : Work). AllByRecursion (IsRightItem m) w.items.items) works) (sym layout)
      (subst (λ (ws : List Work). AllByRecursion (λ (w : Work). AllByRecursion (IsRightItem k) w.items.items) ws) same items);
  most = subst (λ (ws : List Work). AllByRecursion (λ (w : Work). length w.items.items ≤ 4294967295) ws) same most;
}
