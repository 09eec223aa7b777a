-- Each text is that of an image or has a first fault.
use Rattle.std.proofs.Common.{◌≡◌, ◌≢◌, ℕ, zero, suc, ◌+◌, ◌-◌, ◌^◌, ◌<◌, ◌≤◌, ◌⊎◌, Bool, true, false, List, [], ◌∷◌, ◌++◌, length, take, drop, codes, decimal, sym, ap, ◌∙◌, refl, arith, subst, inl, inr}
use Rattle.std.specs.List.{AllByRecursion}
use Rattle.std.proofs.lemmas.Bool.{cases_eq, cases_lt}
use Rattle.std.proofs.Common.{take-append-drop}
use Rattle.flit_words.specs.declared.layouts.Kind.{Kind}
use Rattle.flit_words.specs.declared.layouts.Kind.TheVariants.{List as List_kind, Hash, Tree}
use Rattle.flit_words.specs.declared.layouts.Layout.{Layout}
use Rattle.flit_words.specs.Layouts.{Accepted, words_of, initial_of}
use Rattle.flit_words.specs.Texts.{lines_of}
use Rattle.flit_words.proofs.Initials.{initial_of-fits}
use Rattle.flit_image.specs.declared.faults.ImageError.{ImageError}
use Rattle.flit_image.specs.declared.faults.ImageError.TheVariants.{BadHeader, BadLine, OutOfOrder, WordOutOfRange, Default}
use Rattle.flit_image.specs.ImageTexts.{version_number, word_line, header_lines, IsBadHeader, IsWordLine, IsGoodWord, IsWordFault, IsBodyFault, IsSomeImageText, HasFault}
use Rattle.flit_image.specs.Readings.{IsStructureLine}
use Rattle.flit_image.proofs.HeaderLines.{no_structure, header_parts, no_first, no_second, no_third}
use Rattle.flit_image.proofs.LinesSoFar.{lines_from, line_of-fresh, line_of-told}
use Rattle.flit_image.proofs.OneReading.{lines_if_fresh, lines_if_told}
use Rattle.flit_image.proofs.OneImage.{word_lines-from}

same_or_apart : (xs ys : List ℕ) → (xs ≡ ys) ⊎ (xs ≢ ys)
same_or_apart [] [] = inl refl
same_or_apart [] (y ∷ ys) = inr (λ e. cc)
same_or_apart (x ∷ xs) [] = inr (λ e. cc)
same_or_apart (x ∷ xs) (y ∷ ys) = elim (cases_eq x y) [
  | inr apart ↦ inr (λ e. let f : x ≡ y = cc in apart f)
  | inl head ↦ elim (same_or_apart xs ys) [
    | inl tail ↦ inl cc
    | inr apart ↦ inr (λ e. let f : xs ≡ ys = cc in apart f)
  ]
]

-- one of the numbers below a limit has the property, or none of them has
some_below : (P : ℕ → Type 0) → ((k : ℕ) → P k ⊎ ¬ (P k)) → (n : ℕ) → ((k : ℕ) × (k < n) × P k) ⊎ ((k : ℕ) → k < n → ¬ (P k))
some_below P test zero = inr (λ k below. absurd (omega arith))
some_below P test (suc n) = elim (some_below P test n) [
  | inl s ↦ let below : s.0 < n = s.1 in inl (s.0, omega arith, s.2)
  | inr none ↦ elim (test n) [
    | inl here ↦ inl (n, omega arith, here)
    | inr other ↦ inr (λ k below. elim (cases_eq k n) [ inl e ↦ subst (λ j. ¬ (P j)) (sym e) other | inr apart ↦ none k (omega arith) ])
  ]
]

-- ---- the header

version_or_none : (line : List ℕ) → ((v : Bool) × (line ≡ codes "image " ++ decimal (version_number v)))
    ⊎ ((v : Bool) → line ≢ codes "image " ++ decimal (version_number v))
version_or_none line = elim (same_or_apart line (codes "image " ++ decimal 1)) [
  | inl one ↦ inl (false, one)
  | inr no_one ↦ elim (same_or_apart line (codes "image " ++ decimal 2)) [
    | inl two ↦ inl (true, two)
    | inr no_two ↦ inr (elim [ true ↦ no_two | false ↦ no_one ])
  ]
]

-- a structure line
record IsStructure (line : List ℕ) : Type 0 where
  kind : Kind
  buckets : ℕ
  is : IsStructureLine line kind buckets

hash_line : (line : List ℕ) (n : ℕ) → ((1 ≤ n) × (line ≡ codes "structure hash " ++ decimal n)) ⊎ ¬ ((1 ≤ n) × (line ≡ codes "structure hash " ++ decimal n))
hash_line line n = elim (cases_lt n 1) [
  | inl low ↦ inr (λ h. let least : 1 ≤ n = h.0 in omega arith)
  | inr least ↦ elim (same_or_apart line (codes "structure hash " ++ decimal n)) [
    | inl is ↦ inl (omega arith, is)
    | inr apart ↦ inr (λ h. apart h.1)
  ]
]

structure_or_none : (line : List ℕ) → IsStructure line ⊎ ((kind : Kind) (buckets : ℕ) → ¬ IsStructureLine line kind buckets)
structure_or_none line = elim (same_or_apart line (codes "structure list")) [
  | inl list ↦ inl (record { kind = List_kind; buckets = 1; is = record { is = list; least = omega arith; most = omega arith } })
  | inr no_list ↦ elim (same_or_apart line (codes "structure tree")) [
    | inl tree ↦ inl (record { kind = Tree; buckets = 0; is = record { is = tree; least = omega arith; most = omega arith } })
    | inr no_tree ↦ elim (some_below (λ n. (1 ≤ n) × (line ≡ codes "structure hash " ++ decimal n)) (hash_line line) 65537) [
      | inl s ↦ let below : s.0 < 65537 = s.1 in inl (record { kind = Hash; buckets = s.0; is = record { is = s.2.1; least = s.2.0; most = omega arith } })
      | inr none ↦ inr (no_structure line no_list no_tree (λ n least most is. none n (omega arith) (least, is)))
    ]
  ]
]

-- a line of rows
record IsRows (line : List ℕ) : Type 0 where
  rows : ℕ
  least : 1 ≤ rows
  most : rows ≤ 1048575
  is : line ≡ codes "rows " ++ decimal rows

rows_line : (line : List ℕ) (n : ℕ) → ((1 ≤ n) × (line ≡ codes "rows " ++ decimal n)) ⊎ ¬ ((1 ≤ n) × (line ≡ codes "rows " ++ decimal n))
rows_line line n = elim (cases_lt n 1) [
  | inl low ↦ inr (λ h. let least : 1 ≤ n = h.0 in omega arith)
  | inr least ↦ elim (same_or_apart line (codes "rows " ++ decimal n)) [
    | inl is ↦ inl (omega arith, is)
    | inr apart ↦ inr (λ h. apart h.1)
  ]
]

rows_or_none : (line : List ℕ) → IsRows line ⊎ ((rows : ℕ) → 1 ≤ rows → rows ≤ 1048575 → line ≢ codes "rows " ++ decimal rows)
rows_or_none line = elim (some_below (λ n. (1 ≤ n) × (line ≡ codes "rows " ++ decimal n)) (rows_line line) 1048576) [
  | inl s ↦ let below : s.0 < 1048576 = s.1 in inl (record { rows = s.0; least = s.2.0; most = omega arith; is = s.2.1 })
  | inr none ↦ inr (λ n least most is. none n (omega arith) (least, is))
]

-- the lines begin with a header
record HasHeader (lines : List (List ℕ)) : Type 0 where
  layout : Layout
  accepted : Accepted layout
  is : take 3 lines ≡ header_lines layout

three_or_bad : (a b c : List ℕ) (more : List (List ℕ)) → HasHeader (a ∷ b ∷ c ∷ more) ⊎ IsBadHeader (a ∷ b ∷ c ∷ more)
three_or_bad a b c more = elim (version_or_none a) [
  | inr none ↦ inr (λ l accepted same. none l.values (header_parts _ more a b c l refl same).version_is)
  | inl v ↦ elim (structure_or_none b) [
    | inr none ↦ inr (λ l accepted same. none l.kind l.buckets (record {
      is = (header_parts _ more a b c l refl same).structure_is;
      least = accepted.least_bucket;
      most = accepted.most_bucket;
    }))
    | inl s ↦ elim (rows_or_none c) [
      | inr none ↦ inr (λ l accepted same. none l.rows accepted.least_row accepted.most_row (header_parts _ more a b c l refl same).numbers_is)
      | inl r ↦
          let l : Layout = record { kind = s.kind; buckets = s.buckets; rows = r.rows; slots = 0; workers = 1; limit = 1; values = v.0 } in
          let accepted : Accepted l = record {
            least_bucket = s.is.least;
            most_bucket = s.is.most;
            least_row = r.least;
            most_row = r.most;
            most_slot = omega arith;
            least_worker = omega arith;
            most_worker = omega arith;
            least_limit = omega arith;
            most_limit = omega arith;
          } in
          let version : a ≡ codes "image " ++ decimal (version_number v.0) = v.1 in
          inl (record { layout = l; accepted = accepted; is = three a b c _ _ _ version s.is.is r.is })
    ]
  ]
]
  where
    three : (a b c x y z : List ℕ) → a ≡ x → b ≡ y → c ≡ z → a ∷ b ∷ c ∷ [] ≡ x ∷ y ∷ z ∷ []
    three a b c x y z one two last = cc

header_or_bad : (lines : List (List ℕ)) → HasHeader lines ⊎ IsBadHeader lines
header_or_bad [] = inr (λ l accepted same. no_first [] l refl same)
header_or_bad (a ∷ []) = inr (λ l accepted same. no_second (a ∷ []) a l refl same)
header_or_bad (a ∷ b ∷ []) = inr (λ l accepted same. no_third (a ∷ b ∷ []) a b l refl same)
header_or_bad (a ∷ b ∷ c ∷ more) = three_or_bad a b c more

-- ---- the lines behind it

record HasWord (line : List ℕ) : Type 0 where
  word : ℕ
  raw : ℕ
  is : IsWordLine line word raw

word_or_none : (line : List ℕ) → HasWord line ⊎ ((word raw : ℕ) → IsWordLine line word raw → ⊥)
word_or_none line = elim (some_below IsOf one (10 ^ 10)) [
  | inl s ↦ let r = s.2 in inl (record { word = s.0; raw = r.0; is = record { is = r.2; digits = s.1; raw_below = r.1 } })
  | inr none ↦ inr (λ word raw is. none word is.digits (raw, is.raw_below, is.is))
]
  where
    IsOf : ℕ → Type 0
    IsOf word = (raw : ℕ) × (raw < 2 ^ 64) × (line ≡ word_line word raw)

    one : (word : ℕ) → IsOf word ⊎ ¬ (IsOf word)
    one word = elim (some_below (λ raw. line ≡ word_line word raw) (λ raw. same_or_apart line (word_line word raw)) (2 ^ 64)) [
      | inl s ↦ inl s
      | inr none ↦ inr (λ h. none h.0 h.1 h.2)
    ]

good_or_wrong : (l : Layout) (n low word raw : ℕ) → IsGoodWord l low word raw ⊎ ((fault : ImageError) × IsWordFault l n low word raw fault)
good_or_wrong l n low word raw = elim (cases_lt word low) [
  | inl early ↦ inr (OutOfOrder n, (refl, early))
  | inr order ↦ elim (cases_lt word (words_of l)) [
    | inr past ↦ inr (WordOutOfRange n, (refl, omega arith, past))
    | inl within ↦ elim (cases_eq raw (initial_of l.kind word)) [
      | inl fresh ↦ inr (Default n, (refl, omega arith, within, fresh))
      | inr told ↦ inl (record { order = omega arith; within = within; told = told })
    ]
  ]
]

-- the lines are those of words from low on
record HasWords (l : Layout) (low : ℕ) (lines : List (List ℕ)) : Type 0 where
  raws : List ℕ
  many : low + length raws ≡ words_of l
  small : AllByRecursion (λ x. x < 2 ^ 64) raws
  are : lines ≡ lines_from l low raws ++ codes "end" ∷ []

-- fresh words in front of them have no lines
behind_fresh : (l : Layout) (lines : List (List ℕ)) (gap low : ℕ) → HasWords l (low + gap) lines → HasWords l low lines
behind_fresh l lines zero low h = subst (λ n. HasWords l n lines) (let e : low + 0 ≡ low = omega arith in e) h
behind_fresh l lines (suc gap) low h =
    let k = behind_fresh l lines gap (suc low) (subst (λ n. HasWords l n lines) (let e : low + suc gap ≡ suc low + gap = omega arith in e) h) in
    let raw = initial_of l.kind low in
    let many : suc low + length k.raws ≡ words_of l = k.many in
    let fits : raw < 2 ^ 32 = initial_of-fits l.kind low in
    record {
      raws = raw ∷ k.raws;
      many = omega arith;
      small = (omega arith, k.small);
      are = k.are ∙ sym (lines_if_fresh l low raw k.raws (codes "end" ∷ []) (record { fresh = refl; none = line_of-fresh l low raw refl }));
    }

-- a word's line in front of them
behind_word : (l : Layout) (low : ℕ) (line : List ℕ) (lines : List (List ℕ)) (w : HasWord line) → IsGoodWord l low w.word w.raw →
    HasWords l (suc w.word) lines → HasWords l low (line ∷ lines)
behind_word l low line lines w good h =
    let order : low ≤ w.word = good.order in
    let many : suc w.word + length h.raws ≡ words_of l = h.many in
    let here : HasWords l w.word (line ∷ lines) = record {
      raws = w.raw ∷ h.raws;
      many = omega arith;
      small = (w.is.raw_below, h.small);
      are =
          ap (λ ls. line ∷ ls) h.are
          ∙ ap (λ first. first ∷ (lines_from l (suc w.word) h.raws ++ codes "end" ∷ [])) w.is.is
          ∙ sym (lines_if_told l w.word w.raw h.raws (codes "end" ∷ []) (record { told = good.told; one = line_of-told l w.word w.raw good.told }));
    } in
    behind_fresh l (line ∷ lines) (w.word - low) low (subst (λ n. HasWords l n (line ∷ lines)) (let e : w.word ≡ low + (w.word - low) = omega arith in e) here)

at_end : (l : Layout) (n low : ℕ) (line : List ℕ) (lines : List (List ℕ)) → low ≤ words_of l → line ≡ codes "end" →
    HasWords l low (line ∷ lines) ⊎ ((fault : ImageError) × IsBodyFault l n low (line ∷ lines) fault)
at_end l n low line (x ∷ xs) within end = inr (BadLine (suc n), inl (end, λ e. cc, refl))
at_end l n low line [] within end =
    let last : HasWords l (words_of l) (line ∷ []) = record { raws = []; many = omega arith; small = tt; are = ap (λ s. s ∷ []) end } in
    inl (behind_fresh l (line ∷ []) (words_of l - low) low (subst (λ n. HasWords l n (line ∷ []))
    (let e : words_of l ≡ low + (words_of l - low) = omega arith in e) last))

words_or_fault : (l : Layout) (n low : ℕ) (lines : List (List ℕ)) → low ≤ words_of l →
    HasWords l low lines ⊎ ((fault : ImageError) × IsBodyFault l n low lines fault)
words_or_fault l n low [] within = inr (BadLine n, refl)
words_or_fault l n low (line ∷ lines) within = elim (same_or_apart line (codes "end")) [
  | inl end ↦ at_end l n low line lines within end
  | inr on ↦ elim (word_or_none line) [
    | inr none ↦ inr (BadLine n, inr (inr (inr (on, none, refl))))
    | inl w ↦ elim (good_or_wrong l n low w.word w.raw) [
      | inr wrong ↦ inr (wrong.0, inr (inl (w.word, w.raw, w.is, wrong.1)))
      | inl good ↦ elim (words_or_fault l (suc n) (suc w.word) lines (let below : w.word < words_of l = good.within in omega arith)) [
        | inr later ↦ inr (later.0, inr (inr (inl (w.word, w.raw, w.is, good, later.1))))
        | inl h ↦ inl (behind_word l low line lines w good h)
      ]
    ]
  ]
]

-- ---- the whole text

pub image_or_fault : (bytes : List ℕ) → IsSomeImageText bytes ⊎ HasFault bytes
image_or_fault bytes = elim (header_or_bad (lines_of bytes)) [
  | inr bad ↦ inr (BadHeader, inl (bad, refl))
  | inl h ↦ elim (words_or_fault h.layout 4 0 (drop 3 (lines_of bytes)) (omega arith)) [
    | inr later ↦ inr (later.0, inr (h.layout, h.accepted, h.is, later.1))
    | inl w ↦
        let whole : length w.raws ≡ words_of h.layout = omega (arith, w.many) in
        inl (
          h.layout,
          w.raws,
          h.accepted,
          record {
            whole = whole;
            raw = w.small;
            lines =
                sym (take-append-drop 3 (lines_of bytes))
                ∙ ap (λ ls. ls ++ drop 3 (lines_of bytes)) h.is
                ∙ ap (λ ls. header_lines h.layout ++ ls) w.are
                ∙ ap (λ ls. (header_lines h.layout ++ ls) ++ codes "end" ∷ []) (sym (word_lines-from h.layout w.raws whole));
          },
        )
  ]
]
