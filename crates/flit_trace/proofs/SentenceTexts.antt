-- The one sentence that a line can say, read off its bytes.
use Rattle.std.proofs.Common.{◌≡◌, ◌≢◌, ℕ, ◌^◌, ◌<◌, ◌==◌, List, ◌∷◌, ◌++◌, length, get_or, drop, codes, decimal, sym, ap, ◌∙◌, refl, arith, length-append, if◌then◌else◌, eq-eqb, ne_eqb, ltb}
use Rattle.std.specs.Prelude.{Some, None}
use Rattle.std.proofs.lemmas.Bool.{lt-ltb}
use Rattle.std.proofs.Math.ListN.{get_or-append}
use Rattle.std.proofs.lemmas.Fmt.{decimal_nonempty}
use Rattle.flit_words.specs.declared.layouts.Kind.TheVariants.{List as List_kind, Hash, Tree}
use Rattle.flit_words.specs.Texts.{word_text}
use Rattle.flit_image.proofs.WordTexts.{word_line_cut}
use Rattle.flit_trace.specs.declared.sentences.Sentence.{Sentence}
use Rattle.flit_trace.specs.declared.sentences.Sentence.TheVariants.{Version, Structure, Adjacent, Hashed, Packed, Lines, Rows, Workers, Versions, Start, Word, Begin, Insert, Remove, Contains, Get, Evict, Stop, Turn, Ahead, AheadAll, End}
use Rattle.flit_trace.specs.Sentences.{two_numbers, spelled, IsSmall, Says}
use Rattle.flit_trace.proofs.SentenceCuts.{before, behind_first, before-cut, behind_first-cut, before-whole, number_in, number_in-decimal, no_space, digit_first, raw_in, raw_in-text}

-- two numbers with a space between them
abbrev pub first_in : List ℕ → ℕ
first_in text = number_in (before 32 text)

abbrev pub second_in : List ℕ → ℕ
second_in text = number_in (behind_first 32 text)

-- what lines say that begin with one of these letters
abbrev pub heard_a : List ℕ → Sentence
heard_a line = if get_or line 6 0 == 97 then AheadAll else Ahead (number_in (drop 6 line))

abbrev pub heard_p : List ℕ → Sentence
heard_p line =
    if get_or line 6 0 == 97 then Adjacent
    else if get_or line 6 0 == 112 then Packed
    else if get_or line 6 0 == 108 then Lines
    else Hashed (number_in (drop 13 line))

abbrev pub heard_structure : List ℕ → Sentence
heard_structure line =
    if get_or line 10 0 == 108 then Structure List_kind 1
    else if get_or line 10 0 == 116 then Structure Tree 0
    else Structure Hash (number_in (drop 15 line))

abbrev pub heard_s : List ℕ → Sentence
heard_s line =
    if get_or line 2 0 == 111 then Stop (first_in (drop 5 line)) (second_in (drop 5 line))
    else if get_or line 2 0 == 97 then Start (number_in (drop 6 line))
    else heard_structure line

abbrev pub heard_w : List ℕ → Sentence
heard_w line =
    if get_or line 3 0 == 100 then Word (first_in (drop 5 line)) (raw_in (behind_first 32 (drop 5 line)))
    else Workers (number_in (drop 8 line))

-- what the lines of a worker say
abbrev pub heard_insert : ℕ → List ℕ → Sentence
heard_insert worker given =
    if length (before 32 given) == length given then Insert worker (number_in given) None
    else Insert worker (first_in given) (Some (second_in given))

abbrev pub heard_call : ℕ → List ℕ → Sentence
heard_call worker call =
    if get_or call 0 0 == 105 then heard_insert worker (drop 7 call)
    else if get_or call 0 0 == 114 then Remove worker (number_in (drop 7 call))
    else if get_or call 0 0 == 99 then Contains worker (number_in (drop 9 call))
    else if get_or call 0 0 == 103 then Get worker (number_in (drop 4 call))
    else Evict worker (number_in (drop 6 call))

abbrev pub heard_number : List ℕ → Sentence
heard_number line = heard_call (first_in line) (behind_first 32 line)

-- what a line says that begins with this letter, or with this byte
abbrev pub heard_letter : ℕ → List ℕ → Sentence
heard_letter b line =
    if b == 97 then heard_a line
    else if b == 98 then Begin
    else if b == 101 then End
    else if b == 102 then Version (number_in (drop 5 line))
    else if b == 112 then heard_p line
    else if b == 114 then Rows (number_in (drop 5 line))
    else if b == 115 then heard_s line
    else if b == 116 then Turn (first_in (drop 5 line)) (second_in (drop 5 line))
    else if b == 118 then Versions (number_in (drop 9 line))
    else heard_w line

abbrev pub heard_at : ℕ → List ℕ → Sentence
heard_at b line = if ltb b 97 then heard_number line else heard_letter b line

abbrev pub heard : List ℕ → Sentence
heard line = heard_at (get_or line 0 0) line

-- the numbers of a line
first-two : (m : ℕ) (rest : List ℕ) → m < 10 ^ 10 → first_in (decimal m ++ 32 ∷ rest) ≡ m
first-two m rest small = ap number_in (before-cut 32 (decimal m) rest (no_space m small)) ∙ number_in-decimal m small

behind-two : (m : ℕ) (rest : List ℕ) → m < 10 ^ 10 → behind_first 32 (decimal m ++ 32 ∷ rest) ≡ rest
behind-two m rest small = behind_first-cut 32 (decimal m) rest (no_space m small)

second-two : (m n : ℕ) → m < 10 ^ 10 → n < 10 ^ 10 → second_in (decimal m ++ 32 ∷ decimal n) ≡ n
second-two m n small low = ap number_in (behind-two m (decimal n) small) ∙ number_in-decimal n low

pair_heard : (S : ℕ → ℕ → Sentence) (m n : ℕ) → m < 10 ^ 10 → n < 10 ^ 10 → S (first_in (two_numbers m n)) (second_in (two_numbers m n)) ≡ S m n
pair_heard S m n small low =
    ap (λ x. S x (second_in (two_numbers m n))) (first-two m (decimal n) small) ∙ ap (S m) (second-two m n small low)

pub if_not : (b c : ℕ) (x y : Sentence) → b ≢ c → (if b == c then x else y) ≡ y
if_not b c x y other = ap (λ t. if t then x else y) (ne_eqb b c other)

ahead_heard : (n : ℕ) → n < 10 ^ 10 → heard_a (codes "ahead " ++ decimal n) ≡ Ahead n
ahead_heard n small =
    if_not (get_or (decimal n) 0 0) 97 AheadAll _ (λ e. omega (arith, digit_first n small)) ∙ ap Ahead (number_in-decimal n small)

word_heard : (word raw : ℕ) → word < 10 ^ 10 → raw < 2 ^ 64 → heard (codes "word " ++ (decimal word ++ 32 ∷ word_text raw)) ≡ Word word raw
word_heard word raw small low =
    ap (λ n. Word n (raw_in (behind_first 32 (decimal word ++ 32 ∷ word_text raw)))) (first-two word (word_text raw) small)
    ∙ ap (λ s. Word word (raw_in s)) (behind-two word (word_text raw) small)
    ∙ ap (Word word) (raw_in-text raw low)

insert_heard : (worker key : ℕ) → key < 10 ^ 10 → heard_insert worker (decimal key) ≡ Insert worker key None
insert_heard worker key small =
    ap (λ t. if t then Insert worker (number_in (decimal key)) None else Insert worker (first_in (decimal key)) (Some (second_in (decimal key))))
    (eq-eqb _ _ (ap length (before-whole 32 (decimal key) (no_space key small))))
    ∙ ap (λ n. Insert worker n None) (number_in-decimal key small)

insert_both_heard : (worker key value : ℕ) → key < 10 ^ 10 → value < 10 ^ 10 → heard_insert worker (two_numbers key value) ≡ Insert worker key (Some value)
insert_both_heard worker key value small low =
    let longer : length (before 32 (two_numbers key value)) ≢ length (two_numbers key value) =
    rw (before-cut 32 (decimal key) (decimal value) (no_space key small)) (λ e. omega (arith, e, length-append (decimal key) (32 ∷ decimal value))) in
    ap (λ t. if t then Insert worker (number_in (two_numbers key value)) None else Insert worker (first_in (two_numbers key value))
    (Some (second_in (two_numbers key value)))) (ne_eqb _ _ longer)
    ∙ pair_heard (λ k v. Insert worker k (Some v)) key value small low

pub heard_below : (b : ℕ) (line : List ℕ) → b < 97 → heard_at b line ≡ heard_number line
heard_below b line small = ap (λ t. if t then heard_number line else heard_letter b line) (lt-ltb b 97 small)

worker_heard : (worker : ℕ) (call : List ℕ) → worker < 10 ^ 10 → heard (decimal worker ++ 32 ∷ call) ≡ heard_call worker call
worker_heard worker call small =
    let digit : get_or (decimal worker ++ 32 ∷ call) 0 0 < 97 =
    rw (get_or-append (decimal worker) (32 ∷ call) 0 0 (decimal_nonempty worker (omega arith))) (omega (arith, digit_first worker small)) in
    heard_below (get_or (decimal worker ++ 32 ∷ call) 0 0) (decimal worker ++ 32 ∷ call) digit
    ∙ ap (λ n. heard_call n (behind_first 32 (decimal worker ++ 32 ∷ call))) (first-two worker call small)
    ∙ ap (heard_call worker) (behind-two worker call small)

-- what a line is heard to say is what it says
heard-spelled : (s : Sentence) → IsSmall s → heard (spelled s) ≡ s
heard-spelled (Version n) small = ap Version (number_in-decimal n small)
heard-spelled (Structure List_kind b) small = ap (Structure List_kind) (sym small)
heard-spelled (Structure Hash b) small = ap (Structure Hash) (number_in-decimal b small)
heard-spelled (Structure Tree b) small = ap (Structure Tree) (sym small)
heard-spelled Adjacent small = refl
heard-spelled (Hashed n) small = ap Hashed (number_in-decimal n small)
heard-spelled Packed small = refl
heard-spelled Lines small = refl
heard-spelled (Rows n) small = ap Rows (number_in-decimal n small)
heard-spelled (Workers n) small = ap Workers (number_in-decimal n small)
heard-spelled (Versions n) small = ap Versions (number_in-decimal n small)
heard-spelled (Start n) small = ap Start (number_in-decimal n small)
heard-spelled (Word word raw) small = ap heard (word_line_cut word raw) ∙ word_heard word raw small.0 small.1
heard-spelled Begin small = refl
heard-spelled (Insert w k None) small = worker_heard w (codes "insert " ++ decimal k) small.0 ∙ insert_heard w k small.1
heard-spelled (Insert w k (Some v)) small = worker_heard w (codes "insert " ++ two_numbers k v) small.0 ∙ insert_both_heard w k v small.1 small.2
heard-spelled (Remove w k) small = worker_heard w (codes "remove " ++ decimal k) small.0 ∙ ap (Remove w) (number_in-decimal k small.1)
heard-spelled (Contains w k) small = worker_heard w (codes "contains " ++ decimal k) small.0 ∙ ap (Contains w) (number_in-decimal k small.1)
heard-spelled (Get w k) small = worker_heard w (codes "get " ++ decimal k) small.0 ∙ ap (Get w) (number_in-decimal k small.1)
heard-spelled (Evict w n) small = worker_heard w (codes "evict " ++ decimal n) small.0 ∙ ap (Evict w) (number_in-decimal n small.1)
heard-spelled (Stop w n) small = pair_heard Stop w n small.0 small.1
heard-spelled (Turn w n) small = pair_heard Turn w n small.0 small.1
heard-spelled (Ahead n) small = ahead_heard n small
heard-spelled AheadAll small = refl
heard-spelled End small = refl

pub heard-says : (line : List ℕ) (s : Sentence) → Says line s → s ≡ heard line
heard-says line s said = sym (ap heard said.is ∙ heard-spelled s said.small)

pub one_sentence : (line : List ℕ) (s t : Sentence) → Says line s → Says line t → s ≡ t
one_sentence line s t said other = heard-says line s said ∙ sym (heard-says line t other)
