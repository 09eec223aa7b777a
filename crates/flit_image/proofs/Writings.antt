-- The text of lines, one after the other.
use Rattle.std.proofs.Common.{◌≡◌, ℕ, ◌+◌, ◌<◌, List, [], ◌∷◌, ◌++◌, length, get_or, take, codes, sym, ap, ◌∙◌, arith, append_assoc, append-nil, length-take}
use Rattle.std.proofs.lemmas.List.{take_more}
use Rattle.std.proofs.lemmas.List.Concat.{flat_map-append}
use Rattle.flit_words.specs.declared.layouts.Layout.{Layout}
use Rattle.flit_image.specs.Readings.{line_of, lines_so_far, with_ends}
use Rattle.flit_image.proofs.LinesSoFar.{lines_so_far-more}

pub with_ends-append : (xs ys : List (List ℕ)) → with_ends (xs ++ ys) ≡ with_ends xs ++ with_ends ys
with_ends-append xs ys = flat_map-append (λ line. line ++ 10 ∷ []) xs ys

-- the lines of one word more
pub with_ends-more : (l : Layout) (words : List ℕ) (i : ℕ) (start old new : List ℕ) → i < length words →
    old ≡ start ++ with_ends (lines_so_far l (take i words)) → new ≡ old ++ with_ends (line_of l i (get_or words i 0)) →
    new ≡ start ++ with_ends (lines_so_far l (take (i + 1) words))
with_ends-more l words i start old new within before here =
    let at : length (take i words) ≡ i = omega (arith, length-take i words) in
    let more : lines_so_far l (take (i + 1) words) ≡ lines_so_far l (take i words) ++ line_of l i (get_or words i 0) =
    ap (lines_so_far l) (take_more words i 0 within)
    ∙ lines_so_far-more l (take i words) (get_or words i 0)
    ∙ ap (λ k. lines_so_far l (take i words) ++ line_of l k (get_or words i 0)) at in
    here
    ∙ ap (λ s. s ++ with_ends (line_of l i (get_or words i 0))) before
    ∙ append_assoc start (with_ends (lines_so_far l (take i words))) (with_ends (line_of l i (get_or words i 0)))
    ∙ ap (λ s. start ++ s) (sym (with_ends-append (lines_so_far l (take i words)) (line_of l i (get_or words i 0))))
    ∙ ap (λ ls. start ++ with_ends ls) (sym more)

-- three lines
pub with_ends-three : (start one two all a b c : List ℕ) → one ≡ start ++ (a ++ 10 ∷ []) → two ≡ one ++ (b ++ 10 ∷ []) → all ≡ two ++ (c ++ 10 ∷ []) →
    all ≡ start ++ with_ends (a ∷ b ∷ c ∷ [])
with_ends-three start one two all a b c first second third =
    third
    ∙ ap (λ s. s ++ (c ++ 10 ∷ [])) (second ∙ ap (λ s. s ++ (b ++ 10 ∷ [])) first)
    ∙ append_assoc (start ++ (a ++ 10 ∷ [])) (b ++ 10 ∷ []) (c ++ 10 ∷ [])
    ∙ append_assoc start (a ++ 10 ∷ []) ((b ++ 10 ∷ []) ++ (c ++ 10 ∷ []))
    ∙ ap (λ s. start ++ ((a ++ 10 ∷ []) ++ ((b ++ 10 ∷ []) ++ s))) (sym (append-nil (c ++ 10 ∷ [])))

-- the header, the words and the end
pub with_ends-image : (start head body all : List ℕ) (xs ys : List (List ℕ)) → start ≡ [] → head ≡ start ++ with_ends xs → body ≡ head ++ with_ends ys →
    all ≡ body ++ codes "end\n" → all ≡ with_ends (xs ++ ys ++ codes "end" ∷ [])
with_ends-image start head body all xs ys empty first second third =
    third
    ∙ ap (λ s. s ++ codes "end\n") (second ∙ ap (λ s. s ++ with_ends ys) (first ∙ ap (λ s. s ++ with_ends xs) empty))
    ∙ ap (λ s. s ++ codes "end\n") (sym (with_ends-append xs ys))
    ∙ sym (with_ends-append (xs ++ ys) (codes "end" ∷ []))
