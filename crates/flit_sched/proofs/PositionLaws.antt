-- The position of a read, found along the updates since its first event.
use Rattle.std.proofs.Common.{◌≡◌, ◌⊎◌, inl, inr, ℕ, ◌+◌, ◌<◌, ◌≤◌, List, [], ◌∷◌, length, take, get_or, sym, ◌∙◌, ap, subst, arith, Option}
use Rattle.std.proofs.lemmas.Bool.{cases_lt}
use Rattle.std.specs.FinMap as fin
use Rattle.flit_model.specs.Maps.{Map, map_after, map_after_all}
use Rattle.flit_model.specs.declared.calls.Call.{Call}
use Rattle.flit_model.specs.declared.calls.Entry.{Entry}
use Rattle.flit_model.specs.declared.calls.Reply.{Reply}
use Rattle.flit_model.proofs.Legal.{map_after_all-append}
use Rattle.flit_structure.specs.Meanings.{key_of}
use Rattle.flit_sched.specs.Books.{value_after, reply_at}
use Rattle.flit_sched.specs.Reads.{IsReplyBehind}
use Rattle.flit_sched.proofs.SplitLists.{take_one}
use Rattle.flit_sched.proofs.BookLaws.{reply_here, value_here, value_there}
use Rattle.flit_sched.proofs.SplitLists.{any_default}

next_map : (content : Map) (updates : List Entry) (i : ℕ) (d : Entry) → i < length updates →
    map_after_all content (take (i + 1) updates) ≡ map_after (map_after_all content (take i updates)) (get_or updates i d).call
next_map content updates i d h = ap (λ es. map_after_all content es) (take_one updates i (get_or updates i d) h
    (any_default updates i d (get_or updates i d) h)) ∙ map_after_all-append content (take i updates) (get_or updates i d ∷ [])

-- what the map has at a key behind one update more
pub value_next : (content : Map) (updates : List Entry) (i : ℕ) (d : Entry) (key : ℕ) (value : Option ℕ) → i < length updates →
    key_of (get_or updates i d).call ≡ key →
    value ≡ fin.get (map_after_all content (take i updates)) key → value_after (get_or updates i d).call value ≡ fin.get
    (map_after_all content (take (i + 1) updates)) key
value_next content updates i d key value h same now =
    ap (λ o. value_after (get_or updates i d).call o) now ∙ sym (ap (λ M. fin.get M key) (next_map content updates i d h)
    ∙ value_here (map_after_all content (take i updates)) (get_or updates i d).call key (sym same))

pub value_kept : (content : Map) (updates : List Entry) (i : ℕ) (d : Entry) (key : ℕ) (value : Option ℕ) → i < length updates →
    (key_of (get_or updates i d).call ≡ key → ⊥) →
    value ≡ fin.get (map_after_all content (take i updates)) key → value ≡ fin.get (map_after_all content (take (i + 1) updates)) key
value_kept content updates i d key value h other now =
    now ∙ sym (ap (λ M. fin.get M key) (next_map content updates i d h) ∙ value_there (map_after_all content (take i updates)) (get_or updates i d).call key
    (λ q. other (sym q)))

-- a reply that isn't the map's isn't right there
pub not_right : (content : Map) (updates : List Entry) (i : ℕ) (call : Call) (reply : Reply) (value : Option ℕ) →
    value ≡ fin.get (map_after_all content (take i updates)) (key_of call) →
    (reply_at call value ≡ reply → ⊥) → ¬ (IsReplyBehind content updates call reply i)
not_right content updates i call reply value now other right =
    other (ap (λ o. reply_at call o) now ∙ sym (reply_here (map_after_all content (take i updates)) call) ∙ sym right)

pub none_before : (P : ℕ → Type 0) (first i : ℕ) → ((n : ℕ) → first ≤ n → n < i → P n → ⊥) → (P i → ⊥) → (n : ℕ) → first ≤ n → n < i + 1 → P n → ⊥
none_before P first i low here n h k p = by_cases (cases_lt n i)
  where
    by_cases : (n < i) ⊎ (i ≤ n) → ⊥
    by_cases (inl less) = low n h less p
    by_cases (inr le) = let e : n ≡ i = omega arith in here (subst P e p)
