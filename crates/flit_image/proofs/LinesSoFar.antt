-- The lines of the words of an image, one word after the other.
use Rattle.std.proofs.Common.{◌≡◌, ◌≢◌, ℕ, suc, ◌+◌, ◌<◌, ◌^◌, List, [], ◌∷◌, ◌++◌, length, get_or, sym, ap, ◌∙◌, refl, arith, subst, append_assoc, append-nil, length-append, add-one, if◌then◌else◌, ne_eqb, eq-eqb}
use Rattle.std.specs.List.{range_with_len, flat_map, AllByRecursion}
use Rattle.flit_words.specs.declared.layouts.Layout.{Layout}
use Rattle.flit_words.specs.Layouts.{words_of, initial_of}
use Rattle.flit_image.specs.ImageTexts.{word_line, lines_at, word_lines}
use Rattle.flit_image.specs.Readings.{BeginsWord, line_of, lines_so_far}
use Rattle.flit_words.specs.Texts.{lines_of}

-- the lines of words from one on
abbrev pub lines_from : Layout → ℕ → List ℕ → List (List ℕ)
lines_from l n [] = []
lines_from l n (raw ∷ raws) = line_of l n raw ++ lines_from l (suc n) raws

get_or-behind : (front : List ℕ) (x : ℕ) (back : List ℕ) (n : ℕ) → n ≡ length front → get_or (front ++ x ∷ back) n 0 ≡ x
get_or-behind [] x back n is = rw is refl
get_or-behind (y ∷ ys) x back n is = rw is (get_or-behind ys x back (length ys) refl)

pub lines_from-at : (l : Layout) (front raws : List ℕ) (n : ℕ) → n ≡ length front →
    flat_map (lines_at l (front ++ raws)) (range_with_len n (length raws)) ≡ lines_from l n raws
lines_from-at l front [] n is = refl
lines_from-at l front (raw ∷ raws) n is =
    let head : get_or (front ++ raw ∷ raws) n 0 ≡ raw = get_or-behind front raw raws n is in
    let longer : suc n ≡ length (front ++ raw ∷ []) = omega (arith, length-append front (raw ∷ [])) in
    let moved : flat_map (lines_at l ((front ++ raw ∷ []) ++ raws)) (range_with_len (suc n) (length raws))
    ≡ lines_from l (suc n) raws = lines_from-at l (front ++ raw ∷ []) raws (suc n) longer in
    let tail : flat_map (lines_at l (front ++ raw ∷ raws)) (range_with_len (n + 1) (length raws)) ≡ lines_from l (suc n) raws =
    ap (λ k. flat_map (lines_at l (front ++ raw ∷ raws)) (range_with_len k (length raws))) (add-one n)
    ∙ ap (λ s. flat_map (lines_at l s) (range_with_len (suc n) (length raws))) (sym (append_assoc front (raw ∷ []) raws))
    ∙ moved in
    ap (λ v. line_of l n v ++ flat_map (lines_at l (front ++ raw ∷ raws)) (range_with_len (n + 1) (length raws))) head
    ∙ ap (λ ls. line_of l n raw ++ ls) tail

pub lines_so_far-from : (l : Layout) (raws : List ℕ) → lines_so_far l raws ≡ lines_from l 0 raws
lines_so_far-from l raws = lines_from-at l [] raws 0 refl

lines_from-more : (l : Layout) (n : ℕ) (raws : List ℕ) (raw : ℕ) → lines_from l n (raws ++ raw ∷ []) ≡ lines_from l n raws ++ line_of l (n + length raws) raw
lines_from-more l n [] raw =
    ap (λ k. line_of l k raw ++ []) (let e : n ≡ n + 0 = omega arith in e) ∙ append-nil (line_of l (n + 0) raw)
lines_from-more l n (x ∷ xs) raw =
    ap (λ ls. line_of l n x ++ ls) (lines_from-more l (suc n) xs raw ∙ ap (λ k. lines_from l (suc n) xs ++ line_of l k raw)
    (let e : suc n + length xs ≡ n + suc (length xs) = omega arith in e))
    ∙ sym (append_assoc (line_of l n x) (lines_from l (suc n) xs) (line_of l (n + suc (length xs)) raw))

-- one word more
pub lines_so_far-more : (l : Layout) (raws : List ℕ) (raw : ℕ) → lines_so_far l (raws ++ raw ∷ []) ≡ lines_so_far l raws ++ line_of l (length raws) raw
lines_so_far-more l raws raw =
    lines_so_far-from l (raws ++ raw ∷ [])
    ∙ lines_from-more l 0 raws raw
    ∙ ap (λ k. lines_from l 0 raws ++ line_of l k raw) (let e : 0 + length raws ≡ length raws = omega arith in e)
    ∙ ap (λ ls. ls ++ line_of l (length raws) raw) (sym (lines_so_far-from l raws))

pub line_of-fresh : (l : Layout) (word raw : ℕ) → raw ≡ initial_of l.kind word → line_of l word raw ≡ []
line_of-fresh l word raw is = ap (λ b. if b then [] else word_line word raw ∷ []) (eq-eqb raw (initial_of l.kind word) is)

pub line_of-told : (l : Layout) (word raw : ℕ) → raw ≢ initial_of l.kind word → line_of l word raw ≡ word_line word raw ∷ []
line_of-told l word raw told = ap (λ b. if b then [] else word_line word raw ∷ []) (ne_eqb raw (initial_of l.kind word) told)

-- one fresh word more, and one that is told
pub lines_so_far-fresh : (l : Layout) (raws more : List ℕ) (raw : ℕ) → more ≡ raws ++ raw ∷ [] → raw ≡ initial_of l.kind (length raws) →
    lines_so_far l more ≡ lines_so_far l raws
lines_so_far-fresh l raws more raw are fresh =
    ap (lines_so_far l) are
    ∙ lines_so_far-more l raws raw
    ∙ ap (λ ls. lines_so_far l raws ++ ls) (line_of-fresh l (length raws) raw fresh)
    ∙ append-nil (lines_so_far l raws)

pub lines_so_far-told : (l : Layout) (raws more : List ℕ) (raw word : ℕ) → more ≡ raws ++ raw ∷ [] → length raws ≡ word → raw ≢ initial_of l.kind word →
    lines_so_far l more ≡ lines_so_far l raws ++ word_line word raw ∷ []
lines_so_far-told l raws more raw word are is told =
    ap (lines_so_far l) are
    ∙ lines_so_far-more l raws raw
    ∙ ap (λ k. lines_so_far l raws ++ line_of l k raw) is
    ∙ ap (λ ls. lines_so_far l raws ++ ls) (line_of-told l word raw told)

-- when each word has had its turn, these are the lines of all words
pub lines_so_far-whole : (l : Layout) (raws : List ℕ) → length raws ≡ words_of l → lines_so_far l raws ≡ word_lines l raws
lines_so_far-whole l raws whole = ap (λ n. flat_map (lines_at l raws) (range_with_len 0 n)) whole

all_raw-then : (raws : List ℕ) (raw : ℕ) → AllByRecursion (λ x. x < 2 ^ 64) raws → raw < 2 ^ 64 → AllByRecursion (λ x. x < 2 ^ 64) (raws ++ raw ∷ [])
all_raw-then [] raw all here = (here, tt)
all_raw-then (x ∷ xs) raw all here = (all.0, all_raw-then xs raw all.1 here)

-- each word so far is a raw word, and so is one more
pub all_raw-more : (raws more : List ℕ) (raw : ℕ) → more ≡ raws ++ raw ∷ [] → AllByRecursion (λ x. x < 2 ^ 64) raws → raw < 2 ^ 64 →
    AllByRecursion (λ x. x < 2 ^ 64) more
all_raw-more raws more raw are all here = subst (AllByRecursion (λ x. x < 2 ^ 64)) (sym are) (all_raw-then raws raw all here)

-- a word's line more
pub lines_so_far-begins : (l : Layout) (body rest line next words filled more : List ℕ) (low word raw : ℕ) →
    lines_of body ≡ lines_so_far l words ++ lines_of rest → BeginsWord l low rest line word raw next → length filled ≡ word →
    lines_so_far l filled ≡ lines_so_far l words → more ≡ filled ++ raw ∷ [] → lines_of body ≡ lines_so_far l more ++ lines_of next
lines_so_far-begins l body rest line next words filled more low word raw so_far begins is same are =
    so_far
    ∙ ap (λ ls. lines_so_far l words ++ ls) begins.lines
    ∙ ap (λ first. lines_so_far l words ++ first ∷ lines_of next) begins.is.is
    ∙ sym (ap (λ ls. ls ++ lines_of next) (lines_so_far-told l filled more raw word are is begins.good.told)
    ∙ append_assoc (lines_so_far l filled) (word_line word raw ∷ []) (lines_of next)
    ∙ ap (λ ls. ls ++ (word_line word raw ∷ lines_of next)) same)
