-- Values behind the words of an image.
use Rattle.std.proofs.Common.{◌≡◌, ℕ, ◌+◌, List, [], ◌∷◌, ◌++◌, ap, ◌∙◌, append_assoc}
use Rattle.std.specs.Prelude.{replicate}
use Rattle.std.proofs.lemmas.List.{replicate_more}

-- one value more
pub one_zero_more : (words before after : List ℕ) (rows : ℕ) → before ≡ words ++ replicate rows 0 → after ≡ before ++ 0 ∷ [] →
    after ≡ words ++ replicate (rows + 1) 0
one_zero_more words before after rows so_far more =
    more
    ∙ ap (λ s. s ++ 0 ∷ []) so_far
    ∙ append_assoc words (replicate rows 0) (0 ∷ [])
    ∙ ap (λ s. words ++ s) (replicate_more rows 0)
