-- A whole image of a list or a hash table is lawful, or it has a first damage: one of the two, and one damage.
use Rattle.std.proofs.Common.{◌≡◌, ◌≢◌, ◌⊎◌, ℕ, zero, suc, ◌+◌, ◌<◌, ◌≤◌, true, false, List, [], ◌∷◌, ◌++◌, length, slice_index, Option, Some, None, refl, sym, ap, ◌∙◌, arith, inl, inr}
use Rattle.std.proofs.lemmas.Bool.{both_ways, cases_order, cases_eq, cases_Bool}
use Rattle.flit_words.specs.declared.layouts.Layout.{Layout}
use Rattle.flit_words.specs.declared.layouts.Kind.TheVariants.{Tree as Tree_kind}
use Rattle.flit_words.specs.Words.{is_tagged}
use Rattle.flit_words.specs.Layouts.{words_of}
use Rattle.flit_model.specs.Lists.{link_in, key_in, next_word, IsLawfulList}
use Rattle.flit_recover.specs.declared.found.Damage.{Damage}
use Rattle.flit_recover.specs.declared.found.Damage.TheVariants.{TagSet}
use Rattle.flit_recover.specs.ListWalks.{damage_at, LeadsTo, IsSoundFrom, IsDamagedFrom, IsChainDamage}
use Rattle.flit_recover.specs.Damages.{IsTagDamage, IsFirstDamage}
use Rattle.flit_recover.proofs.ListSteps.{sound_row}
use Rattle.flit_recover.proofs.ListLaws.{lawful_undamaged, chain_damage_once}
use Rattle.flit_recover.proofs.ListWalking.{IsSwept, swept_none, swept_more, swept_all, swept_to_damage}

pub option_cases : {X : Type 0} (o : Option X) → (o ≡ None) ⊎ ((x : X) × (o ≡ Some x))
option_cases None = inl refl
option_cases (Some x) = inr (x, refl)

-- ---- one or the other

module _ (l : Layout) (image : List ℕ) (head : ℕ) where
  -- the walk from a link word on ends, since the keys rise
  pub sound_or_damaged : (fuel : ℕ) (reached : List ℕ) (low word : ℕ) → 4294967293 ≤ low + fuel →
      ((rows : List ℕ) × IsSoundFrom l image head reached low word rows) ⊎ ((rows : List ℕ) × (d : Damage) × IsDamagedFrom l image head reached low word rows d)
  sound_or_damaged zero reached low word enough = elim (option_cases (damage_at l image head reached low word)) [
    | inr wrong ↦ inr ([], wrong.0, wrong.1)
    | inl sound ↦ elim (cases_eq (link_in image word).row 0) [
      | inl end ↦ inl ([], (sound, end))
      | inr some ↦ absurd (let f = sound_row l image head reached low word sound some in omega (arith, f.place.most, f.rising, enough))
    ]
  ]
  sound_or_damaged (suc fuel) reached low word enough = elim (option_cases (damage_at l image head reached low word)) [
    | inr wrong ↦ inr ([], wrong.0, wrong.1)
    | inl sound ↦ elim (cases_eq (link_in image word).row 0) [
      | inl end ↦ inl ([], (sound, end))
      | inr some ↦
          let row = (link_in image word).row in
          let f = sound_row l image head reached low word sound some in
          let lead : LeadsTo l image head reached low word row = record { sound = sound; named = refl; some_row = some } in
          elim (sound_or_damaged fuel (row ∷ reached) (suc (key_in l image row)) (next_word l row) (omega (arith, enough, f.rising))) [
            | inl w ↦ inl (row ∷ w.0, (lead, w.1))
            | inr w ↦ inr (row ∷ w.0, w.1, (lead, w.2))
          ]
    ]
  ]

module _ (l : Layout) (image : List ℕ) where
  swept_or_damaged : (n : ℕ) → n ≤ l.buckets → ((rows : List ℕ) × IsSwept l image n rows) ⊎ ((d : Damage) × IsChainDamage l image d)
  swept_or_damaged zero le = inl ([], swept_none l image)
  swept_or_damaged (suc n) le = elim (swept_or_damaged n (omega arith)) [
    | inr w ↦ inr w
    | inl s ↦ elim (sound_or_damaged l image n 4294967293 s.0 0 n (omega arith)) [
      | inl w ↦ inl (s.0 ++ w.0, swept_more l image n (suc n) s.0 (s.0 ++ w.0) w.0 (omega arith) s.1 refl w.1)
      | inr w ↦ inr (w.1, swept_to_damage l image n s.0 w.0 w.1 (omega arith) s.1 w.2)
    ]
  ]

  -- the least of the first n words that has a tag
  pub record HasFirstTag (n : ℕ) : Type 0 where
    pub word : ℕ
    pub within : word < n
    pub tagged : is_tagged (slice_index image word) ≡ true
    pub first : (w : ℕ) → w < word → is_tagged (slice_index image w) ≡ false

  pub tag_or_none : (n : ℕ) → ((w : ℕ) → w < n → is_tagged (slice_index image w) ≡ false) ⊎ HasFirstTag n
  tag_or_none zero = inl (λ w b. absurd (omega (arith, b)))
  tag_or_none (suc n) = elim (tag_or_none n) [
    | inr t ↦ let within = t.within in inr (record { word = t.word; within = omega arith; tagged = t.tagged; first = t.first })
    | inl none ↦ elim (cases_Bool (is_tagged (slice_index image n))) [
      | inl set ↦ inr (record { word = n; within = omega arith; tagged = set; first = none })
      | inr clear ↦ inl (λ w b. elim (cases_eq w n) [ inl e ↦ rw e clear | inr apart ↦ none w (omega arith) ])
    ]
  ]

  -- a list or a hash table is lawful or has a first damage
  pub lawful_or_damaged : l.kind ≢ Tree_kind → length image ≡ words_of l →
      ((chain : ℕ → List ℕ) × IsLawfulList l image chain) ⊎ ((d : Damage) × IsFirstDamage l image d)
  lawful_or_damaged chained whole = elim (tag_or_none (words_of l)) [
    | inr t ↦ inr (TagSet t.word, inl (record { word = t.word; within = t.within; tagged = t.tagged; first = t.first; is = refl }))
    | inl none ↦ elim (swept_or_damaged l.buckets (omega arith)) [
      | inl s ↦ let r = swept_all l image chained s.0 whole none s.1 in inl (r.0, r.1)
      | inr w ↦ inr (w.0, inr (none, inl (chained, w.1)))
    ]
  ]

  -- ---- not both

  pub undamaged_if_lawful : (chain : ℕ → List ℕ) (d : Damage) → l.kind ≢ Tree_kind → IsLawfulList l image chain → IsFirstDamage l image d → ⊥
  undamaged_if_lawful chain d chained lawful (inl t) = both_ways (is_tagged (slice_index image t.word)) (lawful.untagged t.word t.within) t.tagged
  undamaged_if_lawful chain d chained lawful (inr w) = elim w.1 [
    | inl c ↦ lawful_undamaged l image chained chain d lawful c.1
    | inr tree ↦ chained tree.0
  ]

  -- ---- one damage

  pub tag_once : (d e : Damage) → IsTagDamage l image d → IsTagDamage l image e → d ≡ e
  tag_once d e t u = elim (cases_order t.word u.word) [
    | inl same ↦ t.is ∙ ap (λ (w : ℕ). TagSet w) same ∙ sym u.is
    | inr apart ↦ elim apart [
      | inl less ↦ absurd (both_ways (is_tagged (slice_index image t.word)) (u.first t.word less) t.tagged)
      | inr more ↦ absurd (both_ways (is_tagged (slice_index image u.word)) (t.first u.word more) u.tagged)
    ]
  ]

  pub first_damage_once : (d e : Damage) → l.kind ≢ Tree_kind → IsFirstDamage l image d → IsFirstDamage l image e → d ≡ e
  first_damage_once d e chained (inl t) (inl u) = tag_once d e t u
  first_damage_once d e chained (inl t) (inr w) = absurd (both_ways (is_tagged (slice_index image t.word)) (w.0 t.word t.within) t.tagged)
  first_damage_once d e chained (inr v) (inl u) = absurd (both_ways (is_tagged (slice_index image u.word)) (v.0 u.word u.within) u.tagged)
  first_damage_once d e chained (inr v) (inr w) = elim v.1 [
    | inl c ↦ elim w.1 [ inl b ↦ chain_damage_once l image chained d e c.1 b.1 | inr tree ↦ absurd (chained tree.0) ]
    | inr tree ↦ absurd (chained tree.0)
  ]
