-- A line that says something is ASCII.
use Rattle.std.proofs.Common.{◌≡◌, ℕ, ◌^◌, ◌<◌, Bool, true, false, List, ◌∷◌, ◌++◌, codes, decimal, refl, arith, subst, sym, if◌then◌else◌}
use Rattle.std.specs.Prelude.{Some, None, []}
use Rattle.std.specs.Str.{IsAscii}
use Rattle.flit_words.specs.declared.layouts.Kind.TheVariants.{List as List_kind, Hash, Tree}
use Rattle.flit_words.specs.Texts.{word_text}
use Rattle.flit_words.specs.Words.{version_of, value_of, is_tagged}
use Rattle.flit_image.specs.ImageTexts.{word_line}
use Rattle.flit_image.proofs.WordTexts.{word_line_cut}
use Rattle.flit_trace.specs.declared.sentences.Sentence.{Sentence}
use Rattle.flit_trace.specs.declared.sentences.Sentence.TheVariants.{Version, Structure, Adjacent, Hashed, Packed, Lines, Rows, Workers, Versions, Start, Word, Begin, Insert, Remove, Contains, Get, Evict, Stop, Turn, Ahead, AheadAll, End}
use Rattle.flit_trace.specs.Sentences.{two_numbers, spelled, IsSmall, Says}
use Rattle.flit_trace.proofs.PrintedLines.{ArePrinted, are_printed, tested, printed-append, printed-decimal, printed-ascii}

printed_number : (words : List ℕ) (n : ℕ) → are_printed words ≡ true → n < 10 ^ 10 → ArePrinted (words ++ decimal n)
printed_number words n test small = printed-append words (decimal n) (tested words test) (printed-decimal n (omega arith))

printed_two : (words : List ℕ) (m n : ℕ) → are_printed words ≡ true → m < 10 ^ 10 → n < 10 ^ 10 → ArePrinted (words ++ two_numbers m n)
printed_two words m n test small low =
    printed-append words (two_numbers m n) (tested words test)
    (printed-append (decimal m) (32 ∷ decimal n) (printed-decimal m (omega arith)) ((omega arith, omega arith), printed-decimal n (omega arith)))

printed_worker : (worker : ℕ) (call : List ℕ) → worker < 10 ^ 10 → ArePrinted call → ArePrinted (decimal worker ++ 32 ∷ call)
printed_worker worker call small printed =
    printed-append (decimal worker) (32 ∷ call) (printed-decimal worker (omega arith)) ((omega arith, omega arith), printed)

printed_tag : (tagged : Bool) → ArePrinted (if tagged then codes "t" else [])
printed_tag true = tested (codes "t") refl
printed_tag false = tt

printed_word : (word raw : ℕ) → word < 10 ^ 10 → raw < 2 ^ 64 → ArePrinted (word_line word raw)
printed_word word raw small low =
    let version : version_of raw < 2 ^ 64 = omega arith in
    let value : value_of raw < 2 ^ 64 = omega arith in
    let text : ArePrinted (word_text raw) =
    printed-append _ _ (printed-append _ _ (printed-append _ _ (printed-decimal (version_of raw) version) (tested (codes ":") refl))
    (printed-decimal (value_of raw) value)) (printed_tag (is_tagged raw)) in
    subst ArePrinted (sym (word_line_cut word raw))
    (printed-append (codes "word ") (decimal word ++ 32 ∷ word_text raw) (tested (codes "word ") refl) (printed_worker word (word_text raw) small text))

printed_spelled : (s : Sentence) → IsSmall s → ArePrinted (spelled s)
printed_spelled (Version n) small = printed_number (codes "flit ") n refl small
printed_spelled (Structure List_kind b) small = tested (codes "structure list") refl
printed_spelled (Structure Hash b) small = printed_number (codes "structure hash ") b refl small
printed_spelled (Structure Tree b) small = tested (codes "structure tree") refl
printed_spelled Adjacent small = tested (codes "place adjacent") refl
printed_spelled (Hashed n) small = printed_number (codes "place hashed ") n refl small
printed_spelled Packed small = tested (codes "place packed") refl
printed_spelled Lines small = tested (codes "place lines") refl
printed_spelled (Rows n) small = printed_number (codes "rows ") n refl small
printed_spelled (Workers n) small = printed_number (codes "workers ") n refl small
printed_spelled (Versions n) small = printed_number (codes "versions ") n refl small
printed_spelled (Start n) small = printed_number (codes "start ") n refl small
printed_spelled (Word word raw) small = printed_word word raw small.0 small.1
printed_spelled Begin small = tested (codes "begin") refl
printed_spelled (Insert w k None) small = printed_worker w (codes "insert " ++ decimal k) small.0 (printed_number (codes "insert ") k refl small.1)
printed_spelled (Insert w k (Some v)) small =
    printed_worker w (codes "insert " ++ two_numbers k v) small.0 (printed_two (codes "insert ") k v refl small.1 small.2)
printed_spelled (Remove w k) small = printed_worker w (codes "remove " ++ decimal k) small.0 (printed_number (codes "remove ") k refl small.1)
printed_spelled (Contains w k) small = printed_worker w (codes "contains " ++ decimal k) small.0 (printed_number (codes "contains ") k refl small.1)
printed_spelled (Get w k) small = printed_worker w (codes "get " ++ decimal k) small.0 (printed_number (codes "get ") k refl small.1)
printed_spelled (Evict w n) small = printed_worker w (codes "evict " ++ decimal n) small.0 (printed_number (codes "evict ") n refl small.1)
printed_spelled (Stop w n) small = printed_two (codes "stop ") w n refl small.0 small.1
printed_spelled (Turn w n) small = printed_two (codes "turn ") w n refl small.0 small.1
printed_spelled (Ahead n) small = printed_number (codes "ahead ") n refl small
printed_spelled AheadAll small = tested (codes "ahead all") refl
printed_spelled End small = tested (codes "end") refl

pub says-ascii : (line : List ℕ) (s : Sentence) → Says line s → IsAscii line
says-ascii line s said = printed-ascii line (subst ArePrinted (sym said.is) (printed_spelled s said.small))
