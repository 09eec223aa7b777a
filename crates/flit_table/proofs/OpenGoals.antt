-- What the table asks when it is made, as a running structure meets it.
use Rattle.std.proofs.Common.{◌≡◌, ℕ, List, [], ◌∷◌, ◌++◌, length, replicate, sym, ◌∙◌, ap, subst, arith, length-append}
use Rattle.std.proofs.lemmas.List.{length-replicate}
use Rattle.atomic_table.specs.Seated.{TableId}
use Rattle.flit_words.specs.declared.layouts.Layout.{Layout}
use Rattle.flit_words.specs.Layouts.{words_of, size_of}
use Rattle.flit_structure.specs.Moments.{first_moment}
use Rattle.flit_table.specs.Steps.{IsTableOf}
use Rattle.atomic_table.specs.Table as table
use Rattle.flit_model.specs.States.{state_from}
use Rattle.flit_model.specs.declared.found.Recovered.{Recovered}
use Rattle.flit_structure.specs.Meanings.{Meaning}
use Rattle.flit_structure.specs.Lawful.{Lawful}
use Rattle.flit_table.specs.declared.views.Origin.{Origin}
use Rattle.flit_table.specs.Views.{opening_at, opening_of, new_post}
use Rattle.flit_table.specs.Moves.{EntersUnqueued}
use Rattle.flit_table.specs.Rule.{IsRuled, first_view}
use Rattle.flit_table.proofs.Making.{goes_unqueued}
use Rattle.flit_table.proofs.Opening.{opens_kept}
use Rattle.flit_table.proofs.TableSteps.{opens}

laid_length : (l : Layout) (words : List ℕ) → length words ≡ words_of l → length (0 ∷ (words ++ (words ++ (replicate l.slots 0 ++ 0 ∷ [])))) ≡ size_of l
laid_length l words h =
    let zero : ℕ = 0 in
    let end : List ℕ = zero ∷ [] in
    let slots : List ℕ = replicate l.slots zero in
    omega (arith, h, length-append words (words ++ (slots ++ end)), length-append words (slots ++ end), length-append slots end, length-replicate l.slots zero)

module _ {S Op : Type 0} (meanings : S → Meaning Op) (lawful : (x : S) → Lawful (meanings x)) where
  pub open_asked : (o : Origin S) (s : S) (start : Recovered) → o.structure.value ≡ s → o.start.value ≡ start → (meanings s).opens (opening_at start) →
      (words : List ℕ) →
      words ≡ 0 ∷ (start.image.words.items ++ (start.image.words.items ++ (replicate (meanings s).layout.slots 0 ++ 0 ∷ []))) →
      IsRuled (meanings o.structure.value) o (table.opening words [] (first_view (meanings o.structure.value) o))
  open_asked o s start same found may words laid =
      opens meanings lawful o (subst (λ r. (meanings o.structure.value).opens (opening_at r)) (sym found)
      (subst (λ x. (meanings x).opens (opening_at start)) (sym same) may)) words
      (laid ∙ (λ i. 0 ∷ ((sym found i).image.words.items ++ ((sym found i).image.words.items ++ (replicate (meanings (sym same i)).layout.slots 0 ++ 0 ∷ [])))))

  -- with one worker nothing is queued by the pass that has all names, whatever it begins
  pub open_unqueued : (o : Origin S) (s : S) (start : Recovered) → o.structure.value ≡ s → o.start.value ≡ start → (meanings s).opens (opening_at start) →
      (meanings s).layout.workers ≡ 1 → EntersUnqueued (meanings s) (new_post 1)
  open_unqueued o s start same found may one =
      let meaning = meanings o.structure.value in
      let l = meaning.layout in
      let workers : l.workers ≡ 1 = ap (λ x. (meanings x).layout.workers) same ∙ one in
      let opens : meaning.opens (opening_of o) = subst (λ r. meaning.opens (opening_at r)) (sym found)
      (subst (λ x. (meanings x).opens (opening_at start)) (sym same) may) in
      subst (λ x. EntersUnqueued (meanings x) (new_post 1)) same
      (goes_unqueued meaning (lawful o.structure.value) o (state_from l (opening_of o).words) [] [] [] (first_view meaning o) (omega (arith, workers))
      (opens_kept meaning (lawful o.structure.value) o opens) workers)

  -- the table that is made is that of the structure
  pub table_of : (s : S) (start : Recovered) → (meanings s).opens (opening_at start) → (words : List ℕ) →
      words ≡ 0 ∷ (start.image.words.items ++ (start.image.words.items ++ (replicate (meanings s).layout.slots 0 ++ 0 ∷ []))) →
      (key : Origin S) (id : TableId) → key.structure.value ≡ s → id.words ≡ length words → id.slots ≡ 0 → IsTableOf (meanings s).layout s key id
  table_of s start may words laid key id same count slots =
      let l = (meanings s).layout in
      let sized = (lawful s).sized (first_moment l (opening_at start)) ((lawful s).opens (opening_at start) may).2 in
      record { structure = same; accepted = sized.accepted; words = count ∙ ap length laid ∙ laid_length l start.image.words.items sized.words; slots = slots }
