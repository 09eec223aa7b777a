-- A word more, with its line.
use Rattle.std.proofs.Common.{◌≡◌, ◌≢◌, ℕ, suc, ◌<◌, ◌^◌, ◌⊎◌, List, [], ◌∷◌, ◌++◌, length, get_or, sym, ap, ◌∙◌, refl, arith, subst, inl, inr, length-append}
use Rattle.std.proofs.Math.Seq.{get_or-append_seam}
use Rattle.std.proofs.lemmas.List.{get_or_append_left}
use Rattle.std.proofs.lemmas.Bool.{cases_eq}
use denote.Ref.{Bor}
use Rattle.flit_words.specs.declared.layouts.Layout.{Layout}
use Rattle.flit_words.specs.Layouts.{initial_of}
use Rattle.flit_image.specs.ImageTexts.{word_line}
use Rattle.flit_image.specs.Readings.{BeginsWord}
use Rattle.flit_image.specs.Views.{HaveLines}
use Rattle.flit_image.proofs.LinesSoFar.{all_raw-more}

-- what is at the end, and what was there
last_or_before : (k n : ℕ) → k < suc n → (k ≡ n) ⊎ (k < n)
last_or_before k n below = elim (cases_eq k n) [ inl e ↦ inl e | inr ne ↦ inr (omega (arith, ne)) ]

lent_more : (l : Layout) (raws : List ℕ) (lines : List (Bor (List ℕ))) (raw : ℕ) (line : Bor (List ℕ)) → HaveLines l raws lines →
    (raw ≢ initial_of l.kind (length raws) → line.now ≡ word_line (length raws) raw) → (word : ℕ) (d : Bor (List ℕ)) → word < length (raws ++ raw ∷ []) →
    get_or (raws ++ raw ∷ []) word 0 ≢ initial_of l.kind word → (get_or (lines ++ line ∷ []) word d).now ≡ word_line word (get_or (raws ++ raw ∷ []) word 0)
lent_more l raws lines raw line have here word d within told =
    elim (last_or_before word (length raws) (omega (arith, length-append raws (raw ∷ [])))) [
      | inl last ↦
          let raw_is : get_or (raws ++ raw ∷ []) word 0 ≡ raw = ap (λ k. get_or (raws ++ raw ∷ []) k 0) last ∙ get_or-append_seam raws raw [] 0 in
          let place : word ≡ length lines = omega (arith, have.many) in
          let line_is : get_or (lines ++ line ∷ []) word d ≡ line = ap (λ k. get_or (lines ++ line ∷ []) k d) place ∙ get_or-append_seam lines line [] d in
          let apart : raw ≢ initial_of l.kind (length raws) = λ e. told (raw_is ∙ e ∙ ap (initial_of l.kind) (sym last)) in
          ap (λ (b : Bor (List ℕ)). b.now) line_is ∙ here apart ∙ ap (λ k. word_line k raw) (sym last) ∙ ap (word_line word) (sym raw_is)
      | inr before ↦
          let raw_is : get_or (raws ++ raw ∷ []) word 0 ≡ get_or raws word 0 = get_or_append_left raws (raw ∷ []) 0 word before in
          let there : word < length lines = omega (arith, have.many) in
          let line_is : get_or (lines ++ line ∷ []) word d ≡ get_or lines word d = get_or_append_left lines (line ∷ []) d word there in
          let apart : get_or raws word 0 ≢ initial_of l.kind word = λ e. told (raw_is ∙ e) in
          ap (λ (b : Bor (List ℕ)). b.now) line_is ∙ have.lent word d before apart ∙ ap (word_line word) (sym raw_is)
    ]

have_more : (l : Layout) (raws : List ℕ) (lines : List (Bor (List ℕ))) (raw : ℕ) (line : Bor (List ℕ)) → HaveLines l raws lines → raw < 2 ^ 64 →
    (raw ≢ initial_of l.kind (length raws) → line.now ≡ word_line (length raws) raw) → HaveLines l (raws ++ raw ∷ []) (lines ++ line ∷ [])
have_more l raws lines raw line have small here = record {
  raw = all_raw-more raws (raws ++ raw ∷ []) raw refl have.raw small;
  many = omega (arith, have.many, length-append raws (raw ∷ []), length-append lines (line ∷ []));
  lent = lent_more l raws lines raw line have here;
}

pub HaveLines-more : (l : Layout) (raws more : List ℕ) (lines longer : List (Bor (List ℕ))) (raw : ℕ) (line : Bor (List ℕ)) → more ≡ raws ++ raw ∷ [] →
    longer ≡ lines ++ line ∷ [] → HaveLines l raws lines → raw < 2 ^ 64 → (raw ≢ initial_of l.kind (length raws) → line.now ≡ word_line (length raws) raw) →
    HaveLines l more longer
HaveLines-more l raws more lines longer raw line are those have small here =
    let P : List ℕ → Type 0 = λ ws. HaveLines l ws longer in
    let Q : List (Bor (List ℕ)) → Type 0 = λ ls. HaveLines l (raws ++ raw ∷ []) ls in
    subst P (sym are) (subst Q (sym those) (have_more l raws lines raw line have small here))

-- a word that is told more
pub HaveLines-told : (l : Layout) (raws more : List ℕ) (lines longer : List (Bor (List ℕ))) (low word raw : ℕ) (text rest : List ℕ) (line : Bor (List ℕ)) →
    more ≡ raws ++ raw ∷ [] → longer ≡ lines ++ line ∷ [] → HaveLines l raws lines → length raws ≡ word → BeginsWord l low text line.now word raw rest →
    HaveLines l more longer
HaveLines-told l raws more lines longer low word raw text rest line are those have at begins =
    HaveLines-more l raws more lines longer raw line are those have begins.is.raw_below (λ told. begins.is.is ∙ ap (λ k. word_line k raw) (sym at))
