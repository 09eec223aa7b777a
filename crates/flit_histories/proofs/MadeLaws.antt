-- The updates that are made after an event are those made before it, and the one that takes effect by it.
use Rattle.std.proofs.Common.{◌≡◌, ℕ, ◌<◌, ◌&&◌, eqb, nat_lt, Bool, true, false, cond, T, List, [], ◌∷◌, ◌++◌, refl, sym, ◌∙◌, ap, subst, arith, Option, Some, None}
use Rattle.std.proofs.lemmas.Bool.{eqb-true, eq-eqb}
use Rattle.std.proofs.lemmas.Bool.Decides.{nat_tests}
use Rattle.std.proofs.lemmas.Option.{none-some}
use Rattle.std.specs.List.{AllByRecursion}
use Rattle.std.specs.Ordering.{nat_cmp, is_lt}
use Rattle.std.specs.Cmp.{unsigned_tied}
use Rattle.std.specs.FinMap as fin
use Rattle.std.specs.FinMap.{FinMap, find, get-entries, entries_sorted, is_sorted, get-empty}
use Rattle.std.specs.FinMap.Entries.{below_all}
use Rattle.flit_model.specs.States.{State, word_at, shadow_at}
use Rattle.flit_model.specs.Settling.{Progress, takes_effect, settles, progress_after, nothing_made}
use Rattle.flit_model.specs.declared.events.Event.{Event}
use Rattle.flit_model.specs.declared.events.Event.TheVariants.{Load, ReadTag, Raise, Lower, Exchange, Persist, Store, Draw}
use Rattle.flit_model.specs.declared.calls.Entry.{Entry}
use Rattle.flit_model.proofs.Elements.{all-map}
use Rattle.flit_structure.specs.Moments.{made, waiting_updates}
use Rattle.flit_structure.proofs.Names.{all_both, all_left, all_right, all_map}
use Rattle.flit_structure.proofs.Growing.{get_put, get_gone}
use Rattle.flit_structure.proofs.Ahead.{all_waiting}

pub first : (a b : Bool) → T (a && b) → T a
first true b h = tt
first false b h = h

pub second : (a b : Bool) → T (a && b) → T b
second true b h = h
second false b h = absurd h

pub all_above : (low : ℕ) (es : List (ℕ × Entry)) → T (below_all nat_cmp low es) → AllByRecursion (λ e. low < e.0) es
all_above low [] h = tt
all_above low (e ∷ es) h = (above low e.0 (first _ _ h), all_above low es (second _ _ h))
  where
    above : (a b : ℕ) → T (is_lt (nat_cmp a b)) → a < b
    above a b h = grind (arith, nat_tests)

-- each of a map's pairs is found
pub all_entries : (es : List (ℕ × Entry)) → T (is_sorted nat_cmp es) → AllByRecursion (λ e. find nat_cmp e.0 es ≡ Some e.1) es
all_entries [] h = tt
all_entries (e ∷ es) h = (
  ap (λ b. cond b (Some e.1) (find nat_cmp e.0 es)) (unsigned_tied e.0 e.0 ∙ eq-eqb e.0 e.0 refl),
  behind es (all_above e.0 es (first _ _ h)) (all_entries es (second _ _ h)),
)
  where
    behind : (fs : List (ℕ × Entry)) → AllByRecursion (λ f. e.0 < f.0) fs → AllByRecursion (λ f. find nat_cmp f.0 es ≡ Some f.1) fs →
        AllByRecursion (λ f. find nat_cmp f.0 (e ∷ es) ≡ Some f.1) fs
    behind [] a k = tt
    behind (f ∷ fs) a k = (ap (λ b. cond b (Some e.1) (find nat_cmp f.0 es)) (unsigned_tied f.0 e.0 ∙ apart f.0 e.0 a.0) ∙ k.0, behind fs a.1 k.1)
      where
        apart : (i j : ℕ) → j < i → eqb i j ≡ false
        apart i j h = grind (arith, nat_tests)

-- what is true of all that a map of updates has at its keys is true of its values
pub all_values : (P : Entry → Type 0) (w : FinMap nat_cmp Entry) → ((k : ℕ) (x : Entry) → fin.get w k ≡ Some x → P x) → AllByRecursion P (fin.values w)
all_values P w f =
    all-map P (λ e. e.1) (fin.entries w)
    (all_map (λ e. find nat_cmp e.0 (fin.entries w) ≡ Some e.1) (λ e. P e.1) (λ e is. f e.0 e.1 (get-entries w e.0 ∙ is)) (fin.entries w)
    (all_entries (fin.entries w) (entries_sorted w)))

pub nothing_is_made : (P : Entry → Type 0) → AllByRecursion P (made nothing_made)
nothing_is_made P = all_values P fin.empty (λ k x is. absurd (none-some x (sym (get-empty nat_cmp k) ∙ is)))

module _ (P : Entry → Type 0) (p : Progress) (h : AllByRecursion P (made p)) where
  put_case : (b : Bool) (o : Option Entry) (x y : Entry) → cond b (Some x) o ≡ Some y → P x → (o ≡ Some y → P y) → P y
  put_case true o x y is px f = let same : x ≡ y = cc in subst P same px
  put_case false o x y is px f = f is

  gone_case : (b : Bool) (o : Option Entry) (y : Entry) → cond b None o ≡ Some y → (o ≡ Some y → P y) → P y
  gone_case true o y is f = absurd (none-some y is)
  gone_case false o y is f = f is

  waits : (k : ℕ) (x : Entry) → fin.get p.waiting k ≡ Some x → P x
  waits k x is = all_waiting P p k x is (all_right P p.settled (waiting_updates p) h)

  exchanged : (word : ℕ) (b : Bool) (effect : Option Entry) → ((x : Entry) → b ≡ true → effect ≡ Some x → P x) →
      AllByRecursion P (made (cond b (takes_effect p word effect) p))
  exchanged word false effect new = h
  exchanged word true None new = h
  exchanged word true (Some x) new =
      all_both P p.settled (fin.values (fin.insert p.waiting word x)) (all_left P p.settled (waiting_updates p) h)
      (all_values P (fin.insert p.waiting word x) (λ k y is. put_case (eqb k word) (fin.get p.waiting k) x y (sym (get_put p.waiting word x k) ∙ is)
      (new x refl refl) (waits k y)))

  persisted : (word : ℕ) (b : Bool) (o : Option Entry) → fin.get p.waiting word ≡ o → AllByRecursion P (made (cond b (settles p word o) p))
  persisted word false o is = h
  persisted word true None is = h
  persisted word true (Some x) is =
      all_both P (p.settled ++ x ∷ []) (fin.values (fin.remove p.waiting word))
      (all_both P p.settled (x ∷ []) (all_left P p.settled (waiting_updates p) h) (waits word x is, tt))
      (all_values P (fin.remove p.waiting word) (λ k y got. gone_case (eqb k word) (fin.get p.waiting k) y (sym (get_gone p.waiting word k) ∙ got) (waits k y)))

  pub made_after : (m : State) (e : Event) (effect : Option Entry) → ((word from to : ℕ) (x : Entry) → e ≡ Exchange word from to → word_at m word ≡ from →
      effect ≡ Some x → P x) →
      AllByRecursion P (made (progress_after p m e effect))
  made_after m (Load word) effect new = h
  made_after m (ReadTag slot) effect new = h
  made_after m (Raise slot) effect new = h
  made_after m (Lower slot) effect new = h
  made_after m (Exchange word from to) effect new = exchanged word (eqb (word_at m word) from) effect
      (λ x won is. new word from to x refl (eqb-true (word_at m word) from won) is)
  made_after m (Persist word kept) effect new = persisted word (nat_lt (shadow_at m word) kept) (fin.get p.waiting word) refl
  made_after m (Store word to) effect new = h
  made_after m Draw effect new = h
