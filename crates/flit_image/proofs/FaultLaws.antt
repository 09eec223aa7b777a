-- An image text has no fault, and a text has one first fault.
use Rattle.std.proofs.Common.{◌≡◌, ◌≢◌, ℕ, suc, ◌+◌, ◌^◌, ◌<◌, ◌≤◌, ◌⊎◌, List, [], ◌∷◌, ◌++◌, length, take, drop, codes, sym, ap, ◌∙◌, refl, arith, subst, inl, inr}
use Rattle.std.specs.List.{AllByRecursion}
use Rattle.flit_words.specs.declared.layouts.Layout.{Layout}
use Rattle.flit_words.specs.Layouts.{Accepted, words_of, initial_of}
use Rattle.flit_words.specs.Texts.{lines_of}
use Rattle.flit_image.specs.declared.faults.ImageError.{ImageError}
use Rattle.flit_image.specs.declared.faults.ImageError.TheVariants.{BadHeader, BadLine, OutOfOrder, WordOutOfRange, Default, NoMemory}
use Rattle.flit_image.specs.ImageTexts.{word_line, header_lines, image_lines, IsImageText, IsImageFault, IsBodyFault, IsWordLine, IsWordFault, IsGoodWord}
use Rattle.flit_image.proofs.LinesSoFar.{lines_from}
use Rattle.flit_image.proofs.OneReading.{word_line_once, no_end, fresh_or_told, lines_if_fresh, lines_if_told}
use Rattle.flit_image.proofs.OneImage.{same_shape, words_of-same, word_lines-from}
use Rattle.flit_image.proofs.Sizes.{words_of-below}

pub reading_once : (line : List ℕ) (v w r s : ℕ) → IsWordLine line v r → IsWordLine line w s → (v ≡ w) × (r ≡ s)
reading_once line v w r s one other =
    word_line_once v w r s one.digits other.digits one.raw_below other.raw_below (sym one.is ∙ other.is)

pub reading_no_end : (line : List ℕ) (w r : ℕ) → line ≡ codes "end" → IsWordLine line w r → ⊥
reading_no_end line w r end reading = no_end w r (sym reading.is ∙ end)

-- what is wrong with a word, one after the other
pub record IsEarly (n low word : ℕ) (fault : ImageError) : Type 0 where
  pub fault_is : fault ≡ OutOfOrder n
  pub below : word < low

pub record IsPast (l : Layout) (n low word : ℕ) (fault : ImageError) : Type 0 where
  pub fault_is : fault ≡ WordOutOfRange n
  pub order : low ≤ word
  pub past : words_of l ≤ word

pub record IsUntold (l : Layout) (n low word raw : ℕ) (fault : ImageError) : Type 0 where
  pub fault_is : fault ≡ Default n
  pub order : low ≤ word
  pub within : word < words_of l
  pub fresh : raw ≡ initial_of l.kind word

pub word_fault_cases : (l : Layout) (n low word raw : ℕ) (fault : ImageError) → IsWordFault l n low word raw fault →
    IsEarly n low word fault ⊎ (IsPast l n low word fault ⊎ IsUntold l n low word raw fault)
word_fault_cases l n low word raw (OutOfOrder line) is = inl (record { fault_is = ap OutOfOrder is.0; below = is.1 })
word_fault_cases l n low word raw (WordOutOfRange line) is = inr (inl (record { fault_is = ap WordOutOfRange is.0; order = is.1; past = is.2 }))
word_fault_cases l n low word raw (Default line) is = inr (inr (record { fault_is = ap Default is.0; order = is.1; within = is.2; fresh = is.3 }))
word_fault_cases l n low word raw BadHeader is = absurd is
word_fault_cases l n low word raw (BadLine line) is = absurd is
word_fault_cases l n low word raw NoMemory is = absurd is

-- a good word has no fault
pub good_or_fault : (l k : Layout) (n low v w r s : ℕ) (fault : ImageError) → l.kind ≡ k.kind → words_of l ≡ words_of k → v ≡ w → r ≡ s → IsGoodWord l low v r →
    IsWordFault k n low w s fault → ⊥
good_or_fault l k n low v w r s fault kind count place raw good is =
    let order : low ≤ v = good.order in
    let within : v < words_of l = good.within in
    elim (word_fault_cases k n low w s fault is) [
      | inl early ↦ omega (arith, early.below)
      | inr later ↦ elim later [
        | inl past ↦ omega (arith, past.past)
        | inr untold ↦ good.told (raw ∙ untold.fresh ∙ ap (λ kd. initial_of kd w) (sym kind) ∙ ap (initial_of l.kind) (sym place))
      ]
    ]

word_fault_once : (l k : Layout) (n low v w r s : ℕ) (e f : ImageError) → l.kind ≡ k.kind → words_of l ≡ words_of k → v ≡ w → r ≡ s →
    IsWordFault l n low v r e → IsWordFault k n low w s f → e ≡ f
word_fault_once l k n low v w r s e f kind count place raw one other =
    elim (word_fault_cases l n low v r e one) [
      | inl a ↦ elim (word_fault_cases k n low w s f other) [
        | inl b ↦ a.fault_is ∙ sym b.fault_is
        | inr later ↦ elim later [
          | inl b ↦ absurd (omega (arith, a.below, b.order))
          | inr b ↦ absurd (omega (arith, a.below, b.order))
        ]
      ]
      | inr first ↦ elim first [
        | inl a ↦ elim (word_fault_cases k n low w s f other) [
          | inl b ↦ absurd (omega (arith, b.below, a.order))
          | inr later ↦ elim later [
            | inl b ↦ a.fault_is ∙ sym b.fault_is
            | inr b ↦ absurd (omega (arith, a.past, b.within))
          ]
        ]
        | inr a ↦ elim (word_fault_cases k n low w s f other) [
          | inl b ↦ absurd (omega (arith, b.below, a.order))
          | inr later ↦ elim later [
            | inl b ↦ absurd (omega (arith, b.past, a.within))
            | inr b ↦ a.fault_is ∙ sym b.fault_is
          ]
        ]
      ]
    ]

-- the lines of words have no fault
no_body_fault : (l k : Layout) (n low m : ℕ) (raws : List ℕ) (fault : ImageError) → l.kind ≡ k.kind → words_of l ≡ words_of k → low ≤ m →
    m + length raws ≡ words_of l → words_of l < 2 ^ 24 → AllByRecursion (λ x. x < 2 ^ 64) raws →
    IsBodyFault k n low (lines_from l m raws ++ codes "end" ∷ []) fault → ⊥
no_body_fault l k n low m [] fault kind count order many few all is =
    elim is [
      | inl a ↦ a.1 refl
      | inr later ↦ elim later [
        | inl b ↦ reading_no_end (codes "end") b.0 b.1 refl b.2
        | inr last ↦ elim last [
          | inl c ↦ reading_no_end (codes "end") c.0 c.1 refl c.2
          | inr d ↦ d.0 refl
        ]
      ]
    ]
no_body_fault l k n low m (x ∷ xs) fault kind count order many few all is =
    let P : List (List ℕ) → Type 0 = λ ls. IsBodyFault k n low ls fault in
    let end : List (List ℕ) = codes "end" ∷ [] in
    elim (fresh_or_told l m x) [
      | inl fresh ↦ no_body_fault l k n low (suc m) xs fault kind count (omega arith) (omega arith) few all.1 (subst P (lines_if_fresh l m x xs end fresh) is)
      | inr told ↦
          let here : IsWordLine (word_line m x) m x = record { is = refl; digits = omega arith; raw_below = all.0 } in
          let good : IsGoodWord l low m x = record { order = order; within = omega arith; told = told.told } in
          let there : P (word_line m x ∷ (lines_from l (suc m) xs ++ end)) = subst P (lines_if_told l m x xs end told) is in
          elim there [
            | inl a ↦ no_end m x a.0
            | inr later ↦ elim later [
              | inl b ↦
                  let once = reading_once (word_line m x) m b.0 x b.1 here b.2 in
                  good_or_fault l k n low m b.0 x b.1 fault kind count once.0 once.1 good b.3
              | inr last ↦ elim last [
                | inl c ↦
                    let once = reading_once (word_line m x) m c.0 x c.1 here c.2 in
                    no_body_fault l k (suc n) (suc c.0) (suc m) xs fault kind count (omega (arith, once.0)) (omega arith) few all.1 c.4
                | inr d ↦ d.1 m x here
              ]
            ]
          ]
    ]

header_taken : (lines : List (List ℕ)) (l : Layout) (words : List ℕ) → lines ≡ image_lines l words → take 3 lines ≡ header_lines l
header_taken lines l words is = ap (take 3) is

body_dropped : (lines : List (List ℕ)) (l : Layout) (words : List ℕ) → lines ≡ image_lines l words → length words ≡ words_of l →
    drop 3 lines ≡ lines_from l 0 words ++ codes "end" ∷ []
body_dropped lines l words is whole = ap (drop 3) is ∙ ap (λ ls. ls ++ codes "end" ∷ []) (word_lines-from l words whole)

pub no_image_fault : (bytes : List ℕ) (l : Layout) (words : List ℕ) (fault : ImageError) → Accepted l → IsImageText bytes l words → IsImageFault bytes fault → ⊥
no_image_fault bytes l words fault accepted text is =
    elim is [
      | inl bad ↦ bad.0 l accepted (header_taken (lines_of bytes) l words text.lines)
      | inr behind ↦
          let k = behind.0 in
          let shape = same_shape l k accepted behind.1 (sym (header_taken (lines_of bytes) l words text.lines) ∙ behind.2) in
          let P : List (List ℕ) → Type 0 = λ ls. IsBodyFault k 4 0 ls fault in
          let many : 0 + length words ≡ words_of l = omega (arith, text.whole) in
          no_body_fault l k 4 0 0 words fault shape.kind (words_of-same l k shape) (omega arith) many (words_of-below l accepted) text.raw
          (subst P (body_dropped (lines_of bytes) l words text.lines text.whole) behind.3)
    ]

-- the ways in which a line can be a fault or lead to one
record EndsEarly (n : ℕ) (line : List ℕ) (lines : List (List ℕ)) (fault : ImageError) : Type 0 where
  end : line ≡ codes "end"
  more : lines ≢ []
  fault_is : fault ≡ BadLine (suc n)

record HasBadWord (l : Layout) (n low : ℕ) (line : List ℕ) (fault : ImageError) : Type 0 where
  word : ℕ
  raw : ℕ
  is : IsWordLine line word raw
  bad : IsWordFault l n low word raw fault

record GoesOn (l : Layout) (n low : ℕ) (line : List ℕ) (lines : List (List ℕ)) (fault : ImageError) : Type 0 where
  word : ℕ
  raw : ℕ
  is : IsWordLine line word raw
  good : IsGoodWord l low word raw
  later : IsBodyFault l (suc n) (suc word) lines fault

record IsNoLine (n : ℕ) (line : List ℕ) (fault : ImageError) : Type 0 where
  no_end_line : line ≢ codes "end"
  no_word : (word raw : ℕ) → IsWordLine line word raw → ⊥
  fault_is : fault ≡ BadLine n

data Ways (l : Layout) (n low : ℕ) (line : List ℕ) (lines : List (List ℕ)) (fault : ImageError) : Type 0 where
  early : EndsEarly n line lines fault → Ways l n low line lines fault
  bad : HasBadWord l n low line fault → Ways l n low line lines fault
  on : GoesOn l n low line lines fault → Ways l n low line lines fault
  none : IsNoLine n line fault → Ways l n low line lines fault

ways : (l : Layout) (n low : ℕ) (line : List ℕ) (lines : List (List ℕ)) (fault : ImageError) → IsBodyFault l n low (line ∷ lines) fault →
    Ways l n low line lines fault
ways l n low line lines fault is =
    elim is [
      | inl a ↦ early (record { end = a.0; more = a.1; fault_is = a.2 })
      | inr later ↦ elim later [
        | inl b ↦ bad (record { word = b.0; raw = b.1; is = b.2; bad = b.3 })
        | inr last ↦ elim last [
          | inl c ↦ on (record { word = c.0; raw = c.1; is = c.2; good = c.3; later = c.4 })
          | inr d ↦ none (record { no_end_line = d.0; no_word = d.1; fault_is = d.2 })
        ]
      ]
    ]

one_body_fault : (l k : Layout) (n low : ℕ) (lines : List (List ℕ)) (e f : ImageError) → l.kind ≡ k.kind → words_of l ≡ words_of k →
    IsBodyFault l n low lines e → IsBodyFault k n low lines f → e ≡ f
one_body_fault l k n low [] e f kind count one other = one ∙ sym other
one_body_fault l k n low (line ∷ lines) e f kind count one other =
    elim (ways l n low line lines e one) [
      | early a ↦ elim (ways k n low line lines f other) [
        | early b ↦ a.fault_is ∙ sym b.fault_is
        | bad b ↦ absurd (reading_no_end line b.word b.raw a.end b.is)
        | on b ↦ absurd (reading_no_end line b.word b.raw a.end b.is)
        | none b ↦ absurd (b.no_end_line a.end)
      ]
      | bad a ↦ elim (ways k n low line lines f other) [
        | early b ↦ absurd (reading_no_end line a.word a.raw b.end a.is)
        | bad b ↦
            let once = reading_once line a.word b.word a.raw b.raw a.is b.is in
            word_fault_once l k n low a.word b.word a.raw b.raw e f kind count once.0 once.1 a.bad b.bad
        | on b ↦
            let once = reading_once line b.word a.word b.raw a.raw b.is a.is in
            absurd (good_or_fault k l n low b.word a.word b.raw a.raw e (sym kind) (sym count) once.0 once.1 b.good a.bad)
        | none b ↦ absurd (b.no_word a.word a.raw a.is)
      ]
      | on a ↦ elim (ways k n low line lines f other) [
        | early b ↦ absurd (reading_no_end line a.word a.raw b.end a.is)
        | bad b ↦
            let once = reading_once line a.word b.word a.raw b.raw a.is b.is in
            absurd (good_or_fault l k n low a.word b.word a.raw b.raw f kind count once.0 once.1 a.good b.bad)
        | on b ↦
            let once = reading_once line a.word b.word a.raw b.raw a.is b.is in
            let P : ℕ → Type 0 = λ w. IsBodyFault k (suc n) (suc w) lines f in
            one_body_fault l k (suc n) (suc a.word) lines e f kind count a.later (subst P (sym once.0) b.later)
        | none b ↦ absurd (b.no_word a.word a.raw a.is)
      ]
      | none a ↦ elim (ways k n low line lines f other) [
        | early b ↦ absurd (a.no_end_line b.end)
        | bad b ↦ absurd (a.no_word b.word b.raw b.is)
        | on b ↦ absurd (a.no_word b.word b.raw b.is)
        | none b ↦ a.fault_is ∙ sym b.fault_is
      ]
    ]

pub one_image_fault : (bytes : List ℕ) (e f : ImageError) → IsImageFault bytes e → IsImageFault bytes f → e ≡ f
one_image_fault bytes e f one other =
    elim one [
      | inl a ↦ elim other [
        | inl b ↦ a.1 ∙ sym b.1
        | inr b ↦ absurd (a.0 b.0 b.1 b.2)
      ]
      | inr a ↦ elim other [
        | inl b ↦ absurd (b.0 a.0 a.1 a.2)
        | inr b ↦
            let shape = same_shape a.0 b.0 a.1 b.1 (sym a.2 ∙ b.2) in
            one_body_fault a.0 b.0 4 0 (drop 3 (lines_of bytes)) e f shape.kind (words_of-same a.0 b.0 shape) a.3 b.3
      ]
    ]
