-- The start image has a word for each word of the layout; of a block of version 1 it has value 0 for each row.
use Rattle.std.proofs.Common.{◌≡◌, ℕ, zero, suc, ◌+◌, ◌-◌, ◌*◌, ◌≤◌, Bool, true, false, Some, None, if◌then◌else◌, List, [], ◌∷◌, ◌++◌, length, append-nil, append_assoc, refl, sym, ap, ap₂, ◌∙◌, add-zero, add-one, arith}
use Rattle.std.specs.Prelude.{replicate}
use Rattle.std.proofs.lemmas.List.{replicate_more, get_or_past}
use Rattle.flit_words.specs.Texts.{lines_of}
use Rattle.flit_words.specs.declared.layouts.Kind.{Kind}
use Rattle.flit_words.specs.declared.layouts.Kind.TheVariants.{List as List_kind, Hash, Tree}
use Rattle.flit_words.specs.declared.layouts.Layout.{Layout}
use Rattle.flit_words.specs.Layouts.{words_of, last_row_of, initial_of, fixed_words, parts_of, first_row_of}
use Rattle.flit_trace.specs.Contents.{filled, Content}
use Rattle.flit_trace.specs.Grammar.{beginning, IsTrace}
use Rattle.flit_trace.proofs.Filling.{filled-more}
use Rattle.flit_trace.proofs.GoodReadings.{beginning_good, read_good, ended_whole}

-- a value word is 0 when fresh
initial-value : (kind : Kind) (buckets rows word : ℕ) → buckets + parts_of kind * (rows + (first_row_of kind - 1)) ≤ word → initial_of kind word ≡ 0
initial-value List_kind buckets rows word past = refl
initial-value Hash buckets rows word past = refl
initial-value Tree buckets rows word past = get_or_past fixed_words word 0 (omega arith)

zeros_behind : (kind : Kind) (low more : ℕ) (words : List ℕ) → length words ≤ low → ((word : ℕ) → low ≤ word → initial_of kind word ≡ 0) →
    filled kind (low + more) words ≡ filled kind low words ++ replicate more 0
zeros_behind kind low zero words few fresh = rw add-zero (sym (append-nil (filled kind low words)))
zeros_behind kind low (suc more) words few fresh =
    let one : low + suc more ≡ (low + more) + 1 = omega arith in
    let last : filled kind ((low + more) + 1) words ≡ filled kind (low + more) words
    ++ initial_of kind (low + more) ∷ [] = filled-more kind (low + more) words (omega arith) in
    let before : filled kind (low + more) words ≡ filled kind low words ++ replicate more 0 = zeros_behind kind low more words few fresh in
    let value : initial_of kind (low + more) ≡ 0 = fresh (low + more) (omega arith) in
    let joined : (filled kind low words ++ replicate more 0) ++ 0 ∷ [] ≡ filled kind low words
    ++ replicate (suc more) 0 = append_assoc (filled kind low words) (replicate more 0) (0 ∷ [])
    ∙ ap (λ (zs : List ℕ). filled kind low words ++ zs) (replicate_more more 0 ∙ ap (λ (n : ℕ). replicate n 0) (add-one more)) in
    ap (λ (n : ℕ). filled kind n words) one ∙ last ∙ ap₂ (λ (xs : List ℕ) (v : ℕ). xs ++ v ∷ []) before value ∙ joined

pub lifted : (l : Layout) (words : List ℕ) → l.values ≡ true → length words ≤ words_of (record l { values = false }) →
    filled l.kind (words_of l) words ≡ filled l.kind (words_of (record l { values = false })) words ++ replicate (last_row_of l) 0
lifted l words valued few =
    let bare = l.buckets + parts_of l.kind * last_row_of l in
    let none : words_of (record l { values = false }) ≡ bare = omega arith in
    let all : words_of l ≡ bare + last_row_of l = rw valued refl in
    rw (all, none) (zeros_behind l.kind bare (last_row_of l) words (omega arith) (λ word past. initial-value l.kind l.buckets l.rows word past))

some_words : (has : Bool) (all words : List ℕ) → (if has then Some all else None) ≡ Some words → (has ≡ true) × (all ≡ words)
some_words true all words is = (refl, (cc))
some_words false all words is = absurd (cc)

-- what is so of the words of a start image
pub record IsStarted (c : Content) (words : List ℕ) : Type 0 where
  pub valued : c.head.layout.values ≡ true
  pub whole : length words ≡ words_of c.head.layout

pub started : (bytes : List ℕ) (c : Content) (words : List ℕ) → IsTrace bytes c → c.start ≡ Some words → IsStarted c words
started bytes c words t is =
    let good = read_good 1 beginning (lines_of bytes) t.last t.read beginning_good in
    let some = some_words t.last.draft.has_start t.last.told.words words (sym (ap (λ (x : Content). x.start) t.is) ∙ is) in
    record {
      valued = rw t.is (good.start.valued some.0);
      whole = ap length (sym some.1) ∙ rw t.is (ended_whole t.last good t.ended some.0);
    }
