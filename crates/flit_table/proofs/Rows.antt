-- The words of the table, and what an event's step makes of them.
use Rattle.std.proofs.Common.{◌≡◌, ℕ, zero, suc, ◌+◌, ◌-◌, ◌*◌, ◌<◌, ◌≤◌, ◌%◌, ◌^◌, eqb, max, Bool, true, false, cond, List, [], ◌∷◌, ◌++◌, length, get_or, set, refl, sym, ap, ◌∙◌, subst, arith}
use Rattle.std.proofs.lemmas.List.{get_or_append_left, get_or-append-add, set-append_left, set-append_right, set-get_or}
use prog.Atomic.{either}
use Rattle.flit_words.specs.declared.layouts.Layout.{Layout}
use Rattle.flit_words.specs.Layouts.{words_of}
use Rattle.flit_model.specs.States.{State, word_at, shadow_at, count_at}
use Rattle.flit_model.specs.Effects.{after, answer, IsAllowed}
use Rattle.flit_model.specs.declared.events.Event.{Event}
use Rattle.flit_model.specs.declared.events.Event.TheVariants.{Load, ReadTag, Raise, Lower, Exchange, Persist, Store, Draw}
use Rattle.flit_structure.specs.Lawful.{IsSized, IsWithin}
use Rattle.flit_table.specs.Places.{place_in}
use Rattle.flit_table.specs.Rule.{laid_out}

-- what the event's place holds, what the step makes of it, and the event's answer
abbrev pub cell : State → Event → ℕ
cell m (Load word) = word_at m word
cell m (ReadTag slot) = count_at m slot
cell m (Raise slot) = count_at m slot
cell m (Lower slot) = count_at m slot
cell m (Exchange word from to) = word_at m word
cell m (Persist word kept) = shadow_at m word
cell m (Store word to) = word_at m word
cell m Draw = m.counter

abbrev pub turns : Event → ℕ → ℕ
turns (Load word) n = n
turns (ReadTag slot) n = n
turns (Raise slot) n = (n + 1) % 2 ^ 64
turns (Lower slot) n = (n + (2 ^ 64 - 1)) % 2 ^ 64
turns (Exchange word from to) n = either (eqb n from) to n
turns (Persist word kept) n = max n kept
turns (Store word to) n = to
turns Draw n = (n + 1) % 2 ^ 64

abbrev pub told_of : Event → ℕ → ℕ
told_of (Load word) n = n
told_of (ReadTag slot) n = n
told_of (Raise slot) n = n
told_of (Lower slot) n = n
told_of (Exchange word from to) n = n
told_of (Persist word kept) n = n
told_of (Store word to) n = 0
told_of Draw n = n

pub told_is : (m : State) (e : Event) → told_of e (cell m e) ≡ answer m e
told_is m (Load word) = refl
told_is m (ReadTag slot) = refl
told_is m (Raise slot) = refl
told_is m (Lower slot) = refl
told_is m (Exchange word from to) = refl
told_is m (Persist word kept) = refl
told_is m (Store word to) = refl
told_is m Draw = refl

set_add : (xs ys : List ℕ) (i y : ℕ) → set (xs ++ ys) (length xs + i) y ≡ xs ++ set ys i y
set_add xs ys i y = let e : (length xs + i) - length xs ≡ i = omega arith in set-append_right xs ys (length xs) (length xs + i) y refl (omega arith)
    ∙ ap (λ (k : ℕ). xs ++ set ys k y) e

-- four stretches side by side, with as many shadows as words
module _ (ws ss ts : List ℕ) (d n : ℕ) (p : length ws ≡ n) (q : length ss ≡ n) where
  abbrev row : List ℕ
  row = ws ++ (ss ++ (ts ++ d ∷ []))

  get_1 : (i : ℕ) → i < n → get_or row i 0 ≡ get_or ws i 0
  get_1 i l = get_or_append_left ws (ss ++ (ts ++ d ∷ [])) 0 i (omega (arith, p))

  set_1 : (i y : ℕ) → i < n → set row i y ≡ set ws i y ++ (ss ++ (ts ++ d ∷ []))
  set_1 i y l = set-append_left ws (ss ++ (ts ++ d ∷ [])) i y (omega (arith, p))

  get_2 : (i : ℕ) → i < n → get_or row (n + i) 0 ≡ get_or ss i 0
  get_2 i l = ap (λ (k : ℕ). get_or row (k + i) 0) (sym p) ∙ (get_or-append-add ws (ss ++ (ts ++ d ∷ [])) i 0
      ∙ get_or_append_left ss (ts ++ d ∷ []) 0 i (omega (arith, q)))

  set_2 : (i y : ℕ) → i < n → set row (n + i) y ≡ ws ++ (set ss i y ++ (ts ++ d ∷ []))
  set_2 i y l = ap (λ (k : ℕ). set row (k + i) y) (sym p) ∙ (set_add ws (ss ++ (ts ++ d ∷ [])) i y
      ∙ ap (λ (k : List ℕ). ws ++ k) (set-append_left ss (ts ++ d ∷ []) i y (omega (arith, q))))

  behind : (i : ℕ) → 2 * n + i ≡ length ws + (length ss + i)
  behind i = omega (arith, p, q)

  get_3 : (i : ℕ) → get_or row (2 * n + i) 0 ≡ get_or (ts ++ d ∷ []) i 0
  get_3 i = ap (λ (k : ℕ). get_or row k 0) (behind i) ∙ (get_or-append-add ws (ss ++ (ts ++ d ∷ [])) (length ss + i) 0
      ∙ get_or-append-add ss (ts ++ d ∷ []) i 0)

  set_3 : (i y : ℕ) → set row (2 * n + i) y ≡ ws ++ (ss ++ set (ts ++ d ∷ []) i y)
  set_3 i y = ap (λ (k : ℕ). set row k y) (behind i) ∙ (set_add ws (ss ++ (ts ++ d ∷ [])) (length ss + i) y
      ∙ ap (λ (k : List ℕ). ws ++ k) (set_add ss (ts ++ d ∷ []) i y))

end_get : (ts : List ℕ) (d k : ℕ) → length ts ≡ k → get_or (ts ++ d ∷ []) k 0 ≡ d
end_get [] d zero e = refl
end_get [] d (suc k) e = absurd (omega arith)
end_get (t ∷ ts) d zero e = absurd (omega arith)
end_get (t ∷ ts) d (suc k) e = end_get ts d k (omega arith)

end_set : (ts : List ℕ) (d k y : ℕ) → length ts ≡ k → set (ts ++ d ∷ []) k y ≡ ts ++ y ∷ []
end_set [] d zero y e = refl
end_set [] d (suc k) y e = absurd (omega arith)
end_set (t ∷ ts) d zero y e = absurd (omega arith)
end_set (t ∷ ts) d (suc k) y e = ap (λ (x : List ℕ). t ∷ x) (end_set ts d k y (omega arith))

-- behind word 0
get_behind : (xs : List ℕ) (i j : ℕ) → i ≡ suc j → get_or (0 ∷ xs) i 0 ≡ get_or xs j 0
get_behind xs i j e = ap (λ (k : ℕ). get_or (0 ∷ xs) k 0) e

set_behind : (xs : List ℕ) (i j y : ℕ) → i ≡ suc j → set (0 ∷ xs) i y ≡ 0 ∷ set xs j y
set_behind xs i j y e = ap (λ (k : ℕ). set (0 ∷ xs) k y) e

module _ (l : Layout) (m : State) (sized : IsSized l m) where
  abbrev n : ℕ
  n = words_of l

  found_at : (e : Event) (j : ℕ) → place_in l e ≡ suc j → get_or (laid_out m) j 0 ≡ cell m e → get_or (0 ∷ laid_out m) (place_in l e) 0 ≡ cell m e
  found_at e j p q = get_behind (laid_out m) (place_in l e) j p ∙ q

  at_word : (word : ℕ) → word < n → get_or (laid_out m) word 0 ≡ word_at m word
  at_word word h = get_1 m.words m.shadows m.slots m.counter n sized.words sized.shadows word h

  at_shadow : (word : ℕ) → word < n → get_or (laid_out m) (n + word) 0 ≡ shadow_at m word
  at_shadow word h = get_2 m.words m.shadows m.slots m.counter n sized.words sized.shadows word h

  at_slot : (slot : ℕ) → slot < l.slots → get_or (laid_out m) (2 * n + slot) 0 ≡ count_at m slot
  at_slot slot h = get_3 m.words m.shadows m.slots m.counter n sized.words sized.shadows slot
      ∙ get_or_append_left m.slots (m.counter ∷ []) 0 slot (omega (arith, sized.slots))

  at_counter : get_or (laid_out m) (2 * n + l.slots) 0 ≡ m.counter
  at_counter = get_3 m.words m.shadows m.slots m.counter n sized.words sized.shadows l.slots ∙ end_get m.slots m.counter l.slots sized.slots

  pub row_found : (e : Event) → IsWithin l e → get_or (0 ∷ laid_out m) (place_in l e) 0 ≡ cell m e
  row_found (Load word) h = found_at (Load word) word (omega arith) (at_word word h)
  row_found (ReadTag slot) h = found_at (ReadTag slot) (2 * n + slot) (omega arith) (at_slot slot h)
  row_found (Raise slot) h = found_at (Raise slot) (2 * n + slot) (omega arith) (at_slot slot h)
  row_found (Lower slot) h = found_at (Lower slot) (2 * n + slot) (omega arith) (at_slot slot h)
  row_found (Exchange word from to) h = found_at (Exchange word from to) word (omega arith) (at_word word h)
  row_found (Persist word kept) h = found_at (Persist word kept) (n + word) (omega arith) (at_shadow word h)
  row_found (Store word to) h = found_at (Store word to) word (omega arith) (at_word word h)
  row_found Draw h = found_at Draw (2 * n + l.slots) (omega arith) at_counter

  put_word : (word y : ℕ) → word < n → set (laid_out m) word y ≡ laid_out (record m { words = set m.words word y })
  put_word word y h = set_1 m.words m.shadows m.slots m.counter n sized.words sized.shadows word y h

  put_shadow : (word y : ℕ) → word < n → set (laid_out m) (n + word) y ≡ laid_out (record m { shadows = set m.shadows word y })
  put_shadow word y h = set_2 m.words m.shadows m.slots m.counter n sized.words sized.shadows word y h

  put_slot : (slot y : ℕ) → slot < l.slots → set (laid_out m) (2 * n + slot) y ≡ laid_out (record m { slots = set m.slots slot y })
  put_slot slot y h =
      set_3 m.words m.shadows m.slots m.counter n sized.words sized.shadows slot y
      ∙ ap (λ (x : List ℕ). m.words ++ (m.shadows ++ x)) (set-append_left m.slots (m.counter ∷ []) slot y (omega (arith, sized.slots)))

  put_counter : (y : ℕ) → set (laid_out m) (2 * n + l.slots) y ≡ laid_out (record m { counter = y })
  put_counter y =
      set_3 m.words m.shadows m.slots m.counter n sized.words sized.shadows l.slots y
      ∙ ap (λ (x : List ℕ). m.words ++ (m.shadows ++ x)) (end_set m.slots m.counter l.slots y sized.slots)

  same_word : (word : ℕ) → laid_out (record m { words = set m.words word (word_at m word) }) ≡ laid_out m
  same_word word = ap (λ (ws : List ℕ). ws ++ (m.shadows ++ (m.slots ++ m.counter ∷ []))) (set-get_or m.words word 0)

  same_slot : (slot : ℕ) → laid_out (record m { slots = set m.slots slot (count_at m slot) }) ≡ laid_out m
  same_slot slot = ap (λ (ts : List ℕ). m.words ++ (m.shadows ++ (ts ++ m.counter ∷ []))) (set-get_or m.slots slot 0)

  exchanged : (word from to : ℕ) (b : Bool) → laid_out (record m { words = set m.words word (either b to (word_at m word)) }) ≡ laid_out
      (cond b (record m { words = set m.words word to }) m)
  exchanged word from to true = refl
  exchanged word from to false = same_word word

  put_at : (e : Event) (j y : ℕ) (m2 : State) → place_in l e ≡ suc j → set (laid_out m) j y ≡ laid_out m2 →
      set (0 ∷ laid_out m) (place_in l e) y ≡ 0 ∷ laid_out m2
  put_at e j y m2 p q = set_behind (laid_out m) (place_in l e) j y p ∙ ap (λ (xs : List ℕ). 0 ∷ xs) q

  lowered : (k : ℕ) → 1 ≤ k → k < 2 ^ 64 → (k + (2 ^ 64 - 1)) % 2 ^ 64 ≡ k - 1
  lowered k low high = omega arith

  raised : (k : ℕ) → k < 2 ^ 64 - 1 → (k + 1) % 2 ^ 64 ≡ k + 1
  raised k h = omega arith

  pub row_set : (e : Event) → IsWithin l e → IsAllowed m e → cell m e < 2 ^ 64 →
      set (0 ∷ laid_out m) (place_in l e) (turns e (cell m e)) ≡ 0 ∷ laid_out (after m e)
  row_set (Load word) h k small = put_at (Load word) word (word_at m word) m (omega arith) (put_word word (word_at m word) h ∙ same_word word)
  row_set (ReadTag slot) h k small = put_at (ReadTag slot) (2 * n + slot) (count_at m slot) m (omega arith) (put_slot slot (count_at m slot) h ∙ same_slot slot)
  row_set (Raise slot) h k small =
      put_at (Raise slot) (2 * n + slot) (turns (Raise slot) (count_at m slot)) (after m (Raise slot)) (omega arith)
      (put_slot slot (turns (Raise slot) (count_at m slot)) h ∙ ap (λ (y : ℕ). laid_out (record m { slots = set m.slots slot y }))
      (raised (count_at m slot) k.1))
  row_set (Lower slot) h k small =
      put_at (Lower slot) (2 * n + slot) (turns (Lower slot) (count_at m slot)) (after m (Lower slot)) (omega arith)
      (put_slot slot (turns (Lower slot) (count_at m slot)) h ∙ ap (λ (y : ℕ). laid_out (record m { slots = set m.slots slot y }))
      (lowered (count_at m slot) k.1 small))
  row_set (Exchange word from to) h k small =
      put_at (Exchange word from to) word (turns (Exchange word from to) (word_at m word)) (after m (Exchange word from to)) (omega arith)
      (put_word word (turns (Exchange word from to) (word_at m word)) h ∙ exchanged word from to (eqb (word_at m word) from))
  row_set (Persist word kept) h k small = put_at (Persist word kept) (n + word) (max (shadow_at m word) kept) (after m (Persist word kept)) (omega arith)
      (put_shadow word (max (shadow_at m word) kept) h)
  row_set (Store word to) h k small = put_at (Store word to) word to (after m (Store word to)) (omega arith) (put_word word to h)
  row_set Draw h k small =
      put_at Draw (2 * n + l.slots) (turns Draw m.counter) (after m Draw) (omega arith)
      (put_counter (turns Draw m.counter) ∙ ap (λ (y : ℕ). laid_out (record m { counter = y })) (raised m.counter k))

-- an event that may be made is within the layout
pub allowed_within : (l : Layout) (m : State) (e : Event) → IsSized l m → IsAllowed m e → IsWithin l e
allowed_within l m (Load word) z h = subst (λ k. word < k) z.words h
allowed_within l m (ReadTag slot) z h = subst (λ k. slot < k) z.slots h
allowed_within l m (Raise slot) z h = subst (λ k. slot < k) z.slots h.0
allowed_within l m (Lower slot) z h = subst (λ k. slot < k) z.slots h.0
allowed_within l m (Exchange word from to) z h = subst (λ k. word < k) z.words h
allowed_within l m (Persist word kept) z h = subst (λ k. word < k) z.words h.0
allowed_within l m (Store word to) z h = subst (λ k. word < k) z.words h
allowed_within l m Draw z h = tt
