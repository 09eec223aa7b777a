-- The keys, values and players of a run that is opened.
use Rattle.std.proofs.Common.{◌≡◌, ◌⊎◌, inl, inr, ℕ, ◌+◌, ◌<◌, ◌≤◌, List, [], ◌∷◌, ◌++◌, length, map, take, get_or, refl, sym, ◌∙◌, ap, subst, arith, Option, Some, None, append_assoc, zip, Err, Ok}
use Rattle.std.proofs.lemmas.Bool.{cases_lt}
use Rattle.std.specs.List.{AllByRecursion, Contains}
use Rattle.std.specs.List.Sorted.{IsStrictlyIncreasing, IsBinarySearchResult}
use Rattle.std.proofs.lemmas.List.Sorted.{searched}
use Rattle.std.specs.Ordering.{nat_cmp}
use Rattle.std.specs.FinMap as fin
use Rattle.std.specs.FinMap.{get-from_entries, find}
use Rattle.std.specs.Cmp.{nat_cmp_total}
use Rattle.flit_model.specs.declared.calls.Call.{Call}
use Rattle.flit_model.specs.declared.calls.Item.{Item}
use Rattle.flit_model.specs.declared.calls.Item.TheVariants.{Call as Call_item, Evict as Evict_item}
use Rattle.flit_model.specs.declared.calls.Work.{Work}
use Rattle.flit_model.proofs.Membership.{contains_first, contains_later, contains_cases, contains_none}
use Rattle.flit_structure.specs.Meanings.{key_of}
use Rattle.flit_structure.proofs.Names.{all_both}
use Rattle.flit_sched.specs.Kept.{IsKeyed}
use Rattle.flit_sched.specs.Openings.{content_of}
use Rattle.flit_sched.proofs.SplitLists.{take_one, any_default}
use Rattle.flit_sched.proofs.BookLaws.{found_at, found_value, missing_value, rises}

pub contains_front : (xs ys : List ℕ) (x : ℕ) → Contains xs x → Contains (xs ++ ys) x
contains_front [] ys x h = absurd (contains_none x h)
contains_front (y ∷ xs) ys x h = by_cases (contains_front xs ys x) (contains_cases y xs x h)
  where
    by_cases : (Contains xs x → Contains (xs ++ ys) x) → (y ≡ x) ⊎ Contains xs x → Contains (y ∷ (xs ++ ys)) x
    by_cases rest (inl e) = subst (λ z. Contains (y ∷ (xs ++ ys)) z) e (contains_first y (xs ++ ys))
    by_cases rest (inr k) = contains_later y (xs ++ ys) x (rest k)

pub contains_last : (xs : List ℕ) (x : ℕ) → Contains (xs ++ x ∷ []) x
contains_last [] x = contains_first x []
contains_last (y ∷ xs) x = contains_later y (xs ++ x ∷ []) x (contains_last xs x)

pub contains_behind : (xs ys : List ℕ) (x : ℕ) → Contains ys x → Contains (xs ++ ys) x
contains_behind [] ys x h = h
contains_behind (y ∷ xs) ys x h = contains_later y (xs ++ ys) x (contains_behind xs ys x h)

keyed_item : (xs ys : List ℕ) → ((x : ℕ) → Contains xs x → Contains ys x) → (i : Item) → IsKeyed xs i → IsKeyed ys i
keyed_item xs ys h (Call_item call) k = h (key_of call) k
keyed_item xs ys h (Evict_item word) k = tt

pub keyed_items : (xs ys : List ℕ) → ((x : ℕ) → Contains xs x → Contains ys x) → (is : List Item) → AllByRecursion (IsKeyed xs) is →
    AllByRecursion (IsKeyed ys) is
keyed_items xs ys h [] k = tt
keyed_items xs ys h (i ∷ is) k = (keyed_item xs ys h i k.0, keyed_items xs ys h is k.1)

pub keyed_works : (xs ys : List ℕ) → ((x : ℕ) → Contains xs x → Contains ys x) → (ws : List Work) →
    AllByRecursion (λ w. AllByRecursion (IsKeyed xs) w.items.items) ws → AllByRecursion (λ w. AllByRecursion (IsKeyed ys) w.items.items) ws
keyed_works xs ys h [] k = tt
keyed_works xs ys h (w ∷ ws) k = (keyed_items xs ys h w.items.items k.0, keyed_works xs ys h ws k.1)

-- one more item, whose key was pushed
pub pushed_call : (old more now : List ℕ) (key : ℕ) (items : List Item) (i : ℕ) (d : Item) (call : Call) → i < length items →
    get_or items i d ≡ Call_item call → key ≡ key_of call →
    now ≡ (old ++ more) ++ key ∷ [] → AllByRecursion (IsKeyed more) (take i items) → (x : List ℕ) × (now ≡ old ++ x)
    × AllByRecursion (IsKeyed x) (take (i + 1) items)
pushed_call old more now key items i d call h is same e all = (
  more ++ key ∷ [],
  e ∙ append_assoc old more (key ∷ []),
  subst (AllByRecursion (IsKeyed (more ++ key ∷ []))) (sym (take_one items i (get_or items i d) h (any_default items i d (get_or items i d) h)))
      (all_both (IsKeyed (more ++ key ∷ [])) (take i items) (get_or items i d ∷ [])
      (keyed_items more (more ++ key ∷ []) (λ x k. contains_front more (key ∷ []) x k) (take i items) all)
      (subst (IsKeyed (more ++ key ∷ [])) (sym is) (subst (λ k. Contains (more ++ key ∷ []) k) same (contains_last more key)), tt)),
)

not_call : (more : List ℕ) (item : Item) → ((call : Call) → item ≡ Call_item call → ⊥) → IsKeyed more item
not_call more (Call_item call) h = absurd (h call refl)
not_call more (Evict_item word) h = tt

pub passed_item : (old more now : List ℕ) (items : List Item) (i : ℕ) (d : Item) → i < length items → ((call : Call) → get_or items i d ≡ Call_item call → ⊥) →
    now ≡ old ++ more → AllByRecursion (IsKeyed more) (take i items) → (x : List ℕ) × (now ≡ old ++ x) × AllByRecursion (IsKeyed x) (take (i + 1) items)
passed_item old more now items i d h other e all = (
  more,
  e,
  subst (AllByRecursion (IsKeyed more)) (sym (take_one items i (get_or items i d) h (any_default items i d (get_or items i d) h)))
      (all_both (IsKeyed more) (take i items) (get_or items i d ∷ []) all (not_call more (get_or items i d) other, tt)),
)

pub keyed_more : (old more now : List ℕ) (works : List Work) (i : ℕ) (w : Work) → i < length works → w ≡ get_or works i w → now ≡ old ++ more →
    AllByRecursion (IsKeyed more) w.items.items →
    AllByRecursion (λ w. AllByRecursion (IsKeyed old) w.items.items) (take i works) →
    AllByRecursion (λ w. AllByRecursion (IsKeyed now) w.items.items) (take (i + 1) works)
keyed_more old more now works i w h is e own all =
    subst (λ ks. AllByRecursion (λ w. AllByRecursion (IsKeyed ks) w.items.items) (take (i + 1) works)) (sym e)
    (subst (AllByRecursion (λ w. AllByRecursion (IsKeyed (old ++ more)) w.items.items)) (sym (take_one works i w h is))
    (all_both (λ w. AllByRecursion (IsKeyed (old ++ more)) w.items.items) (take i works) (w ∷ [])
    (keyed_works old (old ++ more) (λ x k. contains_front old more x k) (take i works) all)
    (keyed_items more (old ++ more) (λ x k. contains_behind old more x k) w.items.items own, tt)))

-- one more value
mapped_more : (f : ℕ → Option ℕ) (xs : List ℕ) (x : ℕ) → map f (xs ++ x ∷ []) ≡ map f xs ++ f x ∷ []
mapped_more f [] x = refl
mapped_more f (y ∷ xs) x = ap (λ zs. f y ∷ zs) (mapped_more f xs x)

pub value_found : (keys values : List ℕ) (i q : ℕ) → IsBinarySearchResult (λ y. nat_cmp y q) keys (Ok i) → IsStrictlyIncreasing keys →
    length values ≡ length keys → (d : ℕ) → fin.get (content_of keys values) q ≡ Some (get_or values i d)
value_found keys values i q r up same d =
    let f = found_at keys q i r up in
    get-from_entries nat_cmp_total (zip keys values) q ∙ ap (λ k. find nat_cmp k (zip keys values)) (sym f.1) ∙ found_value keys values i same f.0 up d

pub value_missing : (keys values : List ℕ) (i q : ℕ) → IsBinarySearchResult (λ y. nat_cmp y q) keys (Err i) → IsStrictlyIncreasing keys →
    fin.get (content_of keys values) q ≡ None
value_missing keys values i q r up =
    get-from_entries nat_cmp_total (zip keys values) q ∙ missing_value keys values q (λ j l e. by_cases j l e (cases_lt j i))
  where
    by_cases : (j : ℕ) → j < length keys → get_or keys j 0 ≡ q → (j < i) ⊎ (i ≤ j) → ⊥
    by_cases j l e (inl less) = let p = (searched keys q (Err i) r (rises keys up)).1 j less in omega arith
    by_cases j l e (inr le) = let p = (searched keys q (Err i) r (rises keys up)).2 j le l in omega arith

pub values_more : (keys values : List ℕ) (asked : List ℕ) (i d : ℕ) (was now : List (Option ℕ)) (v : Option ℕ) → i < length asked →
    map (λ k. fin.get (content_of keys values) k) (take i asked) ≡ was → now ≡ was ++ v ∷ [] → fin.get (content_of keys values) (get_or asked i d) ≡ v →
    map (λ k. fin.get (content_of keys values) k) (take (i + 1) asked) ≡ now
values_more keys values asked i d was now v h e n is =
    ap (map (λ k. fin.get (content_of keys values) k)) (take_one asked i (get_or asked i d) h (any_default asked i d (get_or asked i d) h))
    ∙ mapped_more (λ k. fin.get (content_of keys values) k) (take i asked) (get_or asked i d)
    ∙ ap (λ xs. xs ++ fin.get (content_of keys values) (get_or asked i d) ∷ []) e ∙ ap (λ o. was ++ o ∷ []) is ∙ sym n

pub nothing_left : {X : Type 0} (l : List X) → length l ≡ 0 → l ≡ []
nothing_left [] h = refl
nothing_left (x ∷ xs) h = absurd (omega arith)
