-- A whole image of a tree is lawful, or it has a first damage.
use Rattle.std.proofs.Common.{◌≡◌, ◌≢◌, ◌⊎◌, ℕ, zero, suc, ◌+◌, ◌<◌, ◌≤◌, Bool, true, false, List, ◌∷◌, ◌++◌, length, refl, arith, inl, inr, subst, sym}
use Rattle.std.specs.Prelude.{nat_le}
use Rattle.std.proofs.lemmas.Bool.{cases_Bool, cases_eq, cases_lt, leb-false, or_parts}
use Rattle.flit_words.specs.declared.layouts.Layout.{Layout}
use Rattle.flit_words.specs.declared.layouts.Kind.TheVariants.{Tree as Tree_kind}
use Rattle.flit_words.specs.Layouts.{Accepted, words_of, value_word_of, initial_of, above_keys}
use Rattle.flit_model.specs.Lists.{value_in, link_in, key_in}
use Rattle.flit_model.specs.Trees.{Tree, Leaf, Inner, IsFixed, IsLawfulTree, left_word, right_word, rows_in_tree}
use Rattle.flit_recover.specs.declared.found.Damage.{Damage}
use Rattle.flit_recover.specs.declared.found.Damage.TheVariants.{TagSet, BadEdge}
use Rattle.flit_recover.specs.ListWalks.{stands_in}
use Rattle.flit_recover.specs.TreeWalks.{Reaches, IsFixedDamage, IsSoundTree, IsDamagedTree, Way, Here, ToLeft, ToRight, edge_damage, is_leaf, reached_at_start}
use Rattle.flit_recover.specs.Damages.{IsFirstDamage}
use Rattle.flit_recover.proofs.FirstDamages.{option_cases, tag_or_none}
use Rattle.flit_recover.proofs.TreeEdges.{reaches_parts}
use Rattle.flit_recover.proofs.TreeLaws.{sound_lawful}

-- ---- the fixed words

abbrev IsFixedAt : Bool → ℕ → ℕ → ℕ → Type 0
IsFixedAt values first last w = ((w < 15) × (w ≢ 4)) ⊎ ((values ≡ true) × (first ≤ w) × (w ≤ last))

among_values : (values : Bool) (first last w : ℕ) → ((values ≡ true) × (first ≤ w) × (w ≤ last)) ⊎ ¬ ((values ≡ true) × (first ≤ w) × (w ≤ last))
among_values false first last w = inr (λ h. let never : false ≡ true = h.0 in cc)
among_values true first last w = elim (cases_lt w first) [
  | inl low ↦ inr (λ h. let least : first ≤ w = h.1 in omega arith)
  | inr least ↦ elim (cases_lt last w) [
    | inl high ↦ inr (λ h. let most : w ≤ last = h.2 in omega arith)
    | inr most ↦ inl (refl, omega arith, omega arith)
  ]
]

among_first : (w : ℕ) → ((w < 15) × (w ≢ 4)) ⊎ ¬ ((w < 15) × (w ≢ 4))
among_first w = elim (cases_lt w 15) [
  | inr high ↦ inr (λ h. let most : w < 15 = h.0 in omega arith)
  | inl most ↦ elim (cases_eq w 4) [ inl four ↦ inr (λ h. h.1 four) | inr other ↦ inl (most, other) ]
]

fixed_or_free : (values : Bool) (first last w : ℕ) → IsFixedAt values first last w ⊎ ¬ (IsFixedAt values first last w)
fixed_or_free values first last w = elim (among_first w) [
  | inl is ↦ inl (inl is)
  | inr no_first ↦ elim (among_values values first last w) [
    | inl is ↦ inl (inr is)
    | inr no_value ↦ inr (λ h. elim h [ inl is ↦ no_first is | inr is ↦ no_value is ])
  ]
]

below_last : (values : Bool) (first last w : ℕ) → IsFixedAt values first last w → w < 16 + last
below_last values first last w (inl is) = let most : w < 15 = is.0 in omega arith
below_last values first last w (inr is) = let most : w ≤ last = is.2 in omega arith

module _ (l : Layout) (image : List ℕ) where
  abbrev IsFreshAt : ℕ → Type 0
  IsFreshAt w = value_in image w ≡ initial_of l.kind w

  fresh_or_changed : (n : ℕ) → ((w : ℕ) → w < n → IsFixed l w → IsFreshAt w) ⊎ ((d : Damage) × IsFixedDamage l image d)
  fresh_or_changed zero = inl (λ w below is. absurd (omega (arith, below)))
  fresh_or_changed (suc n) = elim (fresh_or_changed n) [
    | inr d ↦ inr d
    | inl none ↦ elim (fixed_or_free l.values (value_word_of l 1) (value_word_of l 5) n) [
      | inr free ↦ inl (λ w below is. elim (cases_eq w n) [
        | inl e ↦ absurd (free (subst (IsFixed l) e is))
        | inr apart ↦ none w (omega (arith, below, apart))
            is
      ])
      | inl fixed ↦ elim (cases_eq (value_in image n) (initial_of l.kind n)) [
        | inl fresh ↦ inl (λ w below is. elim (cases_eq w n) [ inl e ↦ subst IsFreshAt (sym e) fresh | inr apart ↦ none w (omega (arith, below, apart)) is ])
        | inr changed ↦ inr (BadEdge n, record { word = n; fixed = fixed; changed = changed; first = none; is = refl })
      ]
    ]
  ]

  -- ---- the walk below an edge

  inner_within : (edge lo hi : ℕ) (reached : List ℕ) (row : ℕ) → Reaches l image edge lo hi reached row → is_leaf l image row ≡ false →
      (lo < key_in l image row) × (key_in l image row < hi)
  inner_within edge lo hi reached row reaches inner =
      let h = reaches_parts l image edge lo hi reached row reaches in
      let order = or_parts (nat_le hi (key_in l image row)) (nat_le (key_in l image row) lo) (rw inner at h.ordered) in
      (leb-false (key_in l image row) lo order.1, leb-false hi (key_in l image row) order.0)

  pub sound_or_damaged : (fuel edge lo hi : ℕ) (reached : List ℕ) → hi ≤ lo + fuel →
      ((t : Tree) × IsSoundTree l image edge lo hi reached t) ⊎ ((way : Way) × (d : Damage) × IsDamagedTree l image edge lo hi reached way d)
  sound_or_damaged zero edge lo hi reached enough = elim (option_cases (edge_damage l image edge lo hi reached)) [
    | inr wrong ↦ inr (Here, wrong.0, wrong.1)
    | inl sound ↦
        let row = (link_in image edge).row in
        let reaches : Reaches l image edge lo hi reached row = record { sound = sound; named = refl } in
        elim (cases_Bool (is_leaf l image row)) [
          | inl leaf ↦ inl (Leaf row, (reaches, leaf))
          | inr inner ↦ let h = inner_within edge lo hi reached row reaches inner in absurd (omega (arith, h.0, h.1, enough))
        ]
  ]
  sound_or_damaged (suc fuel) edge lo hi reached enough = elim (option_cases (edge_damage l image edge lo hi reached)) [
    | inr wrong ↦ inr (Here, wrong.0, wrong.1)
    | inl sound ↦
        let row = (link_in image edge).row in
        let key = key_in l image row in
        let reaches : Reaches l image edge lo hi reached row = record { sound = sound; named = refl } in
        elim (cases_Bool (is_leaf l image row)) [
          | inl leaf ↦ inl (Leaf row, (reaches, leaf))
          | inr inner ↦
              let h = inner_within edge lo hi reached row reaches inner in
              elim (sound_or_damaged fuel (left_word l row) lo key (row ∷ reached) (omega (arith, h.0, h.1, enough))) [
                | inr w ↦ inr (ToLeft row w.0, w.1, (reaches, inner, w.2))
                | inl a ↦ elim (sound_or_damaged fuel (right_word l row) key hi (rows_in_tree a.0 ++ row ∷ reached) (omega (arith, h.0, h.1, enough))) [
                  | inr w ↦ inr (ToRight row a.0 w.0, w.1, (reaches, inner, a.1, w.2))
                  | inl b ↦ inl (Inner row a.0 b.0, (reaches, inner, a.1, b.1))
                ]
              ]
        ]
  ]

-- ---- the whole image

module _ (l : Layout) (image : List ℕ) (accepted : Accepted l) (grown : l.kind ≡ Tree_kind) where
  pub lawful_or_damaged : length image ≡ words_of l → ((t : Tree) × IsLawfulTree l image t) ⊎ ((d : Damage) × IsFirstDamage l image d)
  lawful_or_damaged whole = elim (tag_or_none l image (words_of l)) [
    | inr t ↦ inr (TagSet t.word, inl (record { word = t.word; within = t.within; tagged = t.tagged; first = t.first; is = refl }))
    | inl none ↦ elim (fresh_or_changed l image (16 + value_word_of l 5)) [
      | inr changed ↦ inr (changed.0, inr (none, inr (grown, inl changed.1)))
      | inl low ↦
          let fresh : (w : ℕ) → IsFixed l w → value_in image w ≡ initial_of l.kind w = λ w is. low w
          (below_last l.values (value_word_of l 1) (value_word_of l 5) w is) is in
          elim (sound_or_damaged l image (above_keys 1) 4 0 (above_keys 1) reached_at_start (omega arith)) [
            | inr w ↦ inr (w.1, inr (none, inr (grown, inr (inl (fresh, (w.0, w.2))))))
            | inl t ↦ elim (cases_Bool (stands_in (rows_in_tree t.0) 3)) [
              | inl last ↦ inl (t.0, sound_lawful l accepted grown image t.0 whole none fresh t.1 last)
              | inr missing ↦ inr (BadEdge 4, inr (none, inr (grown, inr (inr (fresh, (t.0, t.1, missing), refl)))))
            ]
          ]
    ]
  ]
