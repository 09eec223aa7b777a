-- The first fault of the lines behind the header.
use Rattle.std.proofs.Common.{◌≡◌, ◌≢◌, ℕ, suc, ◌+◌, Bool, true, false, List, [], ◌∷◌, codes, sym, ap, ◌∙◌, refl, subst, inl, inr, add-one, if◌then◌else◌, ◌==◌}
use Rattle.flit_words.specs.declared.layouts.Layout.{Layout}
use Rattle.flit_words.specs.Texts.{lines_of, onto_first}
use Rattle.flit_image.specs.declared.faults.ImageError.{ImageError}
use Rattle.flit_image.specs.declared.faults.ImageError.TheVariants.{BadHeader, BadLine, OutOfOrder, WordOutOfRange, Default, NoMemory}
use Rattle.flit_image.specs.ImageTexts.{IsBodyFault, IsBodyErrorOf}
use Rattle.flit_image.specs.Readings.{BeginsWord}

onto_first_some : (b : ℕ) (ls : List (List ℕ)) → onto_first b ls ≢ []
onto_first_some b [] is = cc
onto_first_some b (l ∷ ls) is = cc

lines_of_chosen : (test : Bool) (b : ℕ) (ls : List (List ℕ)) → (if test then [] ∷ ls else onto_first b ls) ≢ []
lines_of_chosen true b ls is = cc
lines_of_chosen false b ls is = onto_first_some b ls is

-- a text with a byte has a line
pub lines_of-some : (text : List ℕ) → text ≢ [] → lines_of text ≢ []
lines_of-some [] some is = some refl
lines_of-some (b ∷ bs) some is = lines_of_chosen (b == 10) b (lines_of bs) is

pub end_alone : (text here rest : List ℕ) → lines_of text ≡ here ∷ lines_of rest → here ≡ codes "end" → rest ≡ [] → lines_of text ≡ codes "end" ∷ []
end_alone text here rest lines end nothing =
    lines ∙ ap (λ line. line ∷ lines_of rest) end ∙ ap (λ behind. codes "end" ∷ lines_of behind) nothing

-- something follows the end
pub end_and_more : (l : Layout) (n low : ℕ) (text here rest : List ℕ) → lines_of text ≡ here ∷ lines_of rest → here ≡ codes "end" → rest ≢ [] →
    IsBodyFault l n low (lines_of text) (BadLine (n + 1))
end_and_more l n low text here rest lines end more =
    let P : List (List ℕ) → Type 0 = λ ls. IsBodyFault l n low ls (BadLine (n + 1)) in
    subst P (sym lines) (inl (end, lines_of-some rest more, ap BadLine (add-one n)))

-- a fault behind a word's line
pub fault_behind : (l : Layout) (n m low start up : ℕ) (text line rest : List ℕ) (word raw : ℕ) (fault : ImageError) → m ≡ suc n → low ≡ start → up ≡ suc word →
    BeginsWord l low text line word raw rest → IsBodyFault l m up (lines_of rest) fault → IsBodyFault l n start (lines_of text) fault
fault_behind l n m low start up text line rest word raw fault next same above begins later =
    let P : List (List ℕ) → Type 0 = λ ls. IsBodyFault l n low ls fault in
    let S : ℕ → Type 0 = λ k. IsBodyFault l n k (lines_of text) fault in
    let Q : ℕ → Type 0 = λ b. IsBodyFault l (suc n) b (lines_of rest) fault in
    let R : ℕ → Type 0 = λ a. IsBodyFault l a up (lines_of rest) fault in
    let moved : IsBodyFault l (suc n) (suc word) (lines_of rest) fault = subst Q above (subst R next later) in
    subst S same (subst P (sym begins.lines) (inr (inr (inl (word, raw, begins.is, begins.good, moved)))))

-- a fault is an error
pub IsBodyErrorOf-fault : (l : Layout) (lines : List (List ℕ)) (fault : ImageError) → IsBodyFault l 4 0 lines fault → IsBodyErrorOf l lines fault
IsBodyErrorOf-fault l lines NoMemory is = tt
IsBodyErrorOf-fault l lines BadHeader is = is
IsBodyErrorOf-fault l lines (BadLine line) is = is
IsBodyErrorOf-fault l lines (OutOfOrder line) is = is
IsBodyErrorOf-fault l lines (WordOutOfRange line) is = is
IsBodyErrorOf-fault l lines (Default line) is = is
