-- Lines that say nothing: what such a line could say is known from its first byte.
use Rattle.std.proofs.Common.{◌≡◌, ◌≢◌, ℕ, ◌^◌, ◌<◌, ◌≤◌, ◌==◌, Bool, true, false, List, [], ◌∷◌, ◌++◌, length, get_or, drop, codes, decimal, sym, ap, ◌∙◌, refl, arith, subst, if◌then◌else◌, le-ltb}
use Rattle.std.proofs.Common.{Contains as Has}
use Rattle.std.specs.Prelude.{Option, Some, None, IfNone}
use Rattle.std.specs.Bool.{then_some}
use Rattle.flit_words.specs.declared.layouts.Kind.{Kind}
use Rattle.flit_words.specs.declared.layouts.Kind.TheVariants.{List as List_kind, Hash, Tree}
use Rattle.flit_image.specs.ImageTexts.{IsWordLine}
use Rattle.flit_image.proofs.Cuts.{cut_once}
use Rattle.flit_trace.specs.declared.sentences.Sentence.{Sentence}
use Rattle.flit_trace.specs.declared.sentences.Sentence.TheVariants.{Version, Structure, Adjacent, Hashed, Packed, Lines, Rows, Workers, Versions, Start, Word, Begin, Insert, Remove, Contains, Get, Evict, Stop, Turn, Ahead, AheadAll, End}
use Rattle.flit_trace.specs.Sentences.{two_numbers, Says}
use Rattle.flit_trace.proofs.SentenceCuts.{number_in, no_space}
use Rattle.flit_trace.proofs.SentenceTexts.{heard_at, heard_number, heard_w, heard_letter, heard-says, if_not}

-- a line has no number, and no two, behind these words
abbrev pub NoNumber : List ℕ → List ℕ → Type 0
NoNumber line words = (n : ℕ) → n < 10 ^ 10 → line ≢ words ++ decimal n

abbrev pub NoPair : List ℕ → List ℕ → Type 0
NoPair line words = (m n : ℕ) → m < 10 ^ 10 → n < 10 ^ 10 → line ≢ words ++ two_numbers m n

-- a line whose first byte is known says what it is heard to say, or nothing
refused : (line : List ℕ) (b : ℕ) → get_or line 0 0 ≡ b → ¬ Says line (heard_at b line) → (s : Sentence) → ¬ Says line s
refused line b first none s said =
    let is : s ≡ heard_at b line = heard-says line s said ∙ ap (λ c. heard_at c line) first in
    none (subst (Says line) is said)

neither : (line : List ℕ) (b : Bool) (s t : Sentence) → ¬ Says line s → ¬ Says line t → ¬ Says line (if b then s else t)
neither line true s t none other said = none said
neither line false s t none other said = other said

pub none_unless : {P : Type 0} (b : Bool) (s : Sentence) → (b ≡ false → P) → IfNone (then_some b s) P
none_unless true s none = tt
none_unless false s none = none refl

-- what each letter leaves
pub no_a : (line : List ℕ) → get_or line 0 0 ≡ 97 → line ≢ codes "ahead all" → NoNumber line (codes "ahead ") → (s : Sentence) → ¬ Says line s
no_a line first all some =
    refused line 97 first (neither line (get_or line 6 0 == 97) AheadAll (Ahead (number_in (drop 6 line))) (λ r. all r.is) (λ r. some _ r.small r.is))

pub no_b : (line : List ℕ) → get_or line 0 0 ≡ 98 → line ≢ codes "begin" → (s : Sentence) → ¬ Says line s
no_b line first none = refused line 98 first (λ r. none r.is)

pub no_e : (line : List ℕ) → get_or line 0 0 ≡ 101 → line ≢ codes "end" → (s : Sentence) → ¬ Says line s
no_e line first none = refused line 101 first (λ r. none r.is)

pub no_f : (line : List ℕ) → get_or line 0 0 ≡ 102 → NoNumber line (codes "flit ") → (s : Sentence) → ¬ Says line s
no_f line first none = refused line 102 first (λ r. none _ r.small r.is)

pub no_p : (line : List ℕ) → get_or line 0 0 ≡ 112 → line ≢ codes "place adjacent" → line ≢ codes "place packed" → line ≢ codes "place lines" →
    NoNumber line (codes "place hashed ") → (s : Sentence) → ¬ Says line s
no_p line first adjacent packed lines hashed =
    refused line 112 first (neither line (get_or line 6 0 == 97) _ _ (λ r. adjacent r.is)
    (neither line (get_or line 6 0 == 112) _ _ (λ r. packed r.is)
    (neither line (get_or line 6 0 == 108) _ _ (λ r. lines r.is) (λ r. hashed _ r.small r.is))))

pub no_r : (line : List ℕ) → get_or line 0 0 ≡ 114 → NoNumber line (codes "rows ") → (s : Sentence) → ¬ Says line s
no_r line first none = refused line 114 first (λ r. none _ r.small r.is)

pub no_structure : (line : List ℕ) → line ≢ codes "structure list" → line ≢ codes "structure tree" → NoNumber line (codes "structure hash ") →
    (kind : Kind) (buckets : ℕ) → ¬ Says line (Structure kind buckets)
no_structure line list tree hash List_kind buckets r = list r.is
no_structure line list tree hash Hash buckets r = hash buckets r.small r.is
no_structure line list tree hash Tree buckets r = tree r.is

pub no_s : (line : List ℕ) → get_or line 0 0 ≡ 115 → NoPair line (codes "stop ") → NoNumber line (codes "start ") →
    ((kind : Kind) (buckets : ℕ) → ¬ Says line (Structure kind buckets)) → (s : Sentence) → ¬ Says line s
no_s line first stop start structure =
    refused line 115 first (neither line (get_or line 2 0 == 111) _ _ (λ r. stop _ _ r.small.0 r.small.1 r.is)
    (neither line (get_or line 2 0 == 97) _ _ (λ r. start _ r.small r.is)
    (neither line (get_or line 10 0 == 108) _ _ (structure List_kind 1)
    (neither line (get_or line 10 0 == 116) _ _ (structure Tree 0) (structure Hash _)))))

pub no_t : (line : List ℕ) → get_or line 0 0 ≡ 116 → NoPair line (codes "turn ") → (s : Sentence) → ¬ Says line s
no_t line first none = refused line 116 first (λ r. none _ _ r.small.0 r.small.1 r.is)

pub no_v : (line : List ℕ) → get_or line 0 0 ≡ 118 → NoNumber line (codes "versions ") → (s : Sentence) → ¬ Says line s
no_v line first none = refused line 118 first (λ r. none _ r.small r.is)

pub no_w : (line : List ℕ) → get_or line 0 0 ≡ 119 → ((word raw : ℕ) → ¬ IsWordLine line word raw) → NoNumber line (codes "workers ") → (s : Sentence) →
    ¬ Says line s
no_w line first word workers =
    refused line 119 first (neither line (get_or line 3 0 == 100) _ _
    (λ r. word _ _ (record { is = r.is; digits = r.small.0; raw_below = r.small.1 })) (λ r. workers _ r.small r.is))

-- a worker's line, by what stands behind its number
data IsCall (call : List ℕ) : Type 0 where
  inserts : (k : ℕ) → k < 10 ^ 10 → call ≡ codes "insert " ++ decimal k → IsCall call
  inserts_both : (k v : ℕ) → k < 10 ^ 10 → v < 10 ^ 10 → call ≡ codes "insert " ++ two_numbers k v → IsCall call
  removes : (k : ℕ) → k < 10 ^ 10 → call ≡ codes "remove " ++ decimal k → IsCall call
  contains : (k : ℕ) → k < 10 ^ 10 → call ≡ codes "contains " ++ decimal k → IsCall call
  gets : (k : ℕ) → k < 10 ^ 10 → call ≡ codes "get " ++ decimal k → IsCall call
  evicts : (n : ℕ) → n < 10 ^ 10 → call ≡ codes "evict " ++ decimal n → IsCall call

record IsWorkerLine (line : List ℕ) : Type 0 where
  worker : ℕ
  call : List ℕ
  small : worker < 10 ^ 10
  is : line ≡ decimal worker ++ 32 ∷ call
  told : IsCall call

too_high : (line text : List ℕ) → get_or line 0 0 < 97 → line ≡ text → 97 ≤ get_or text 0 0 → ⊥
too_high line text low is high = omega (arith, ap (λ s. get_or s 0 0) is)

worker_line_of : (line : List ℕ) (s : Sentence) → get_or line 0 0 < 97 → Says line s → IsWorkerLine line
worker_line_of line (Insert w k None) low r = record {
  worker = w;
  call = codes "insert "
      ++ decimal k;
  small = r.small.0;
  is = r.is;
  told = inserts k r.small.1 refl;
}
worker_line_of line (Insert w k (Some v)) low r = record {
  worker = w;
  call = codes "insert "
      ++ two_numbers k v;
  small = r.small.0;
  is = r.is;
  told = inserts_both k v r.small.1 r.small.2 refl;
}
worker_line_of line (Remove w k) low r = record {
  worker = w;
  call = codes "remove "
      ++ decimal k;
  small = r.small.0;
  is = r.is;
  told = removes k r.small.1 refl;
}
worker_line_of line (Contains w k) low r = record {
  worker = w;
  call = codes "contains "
      ++ decimal k;
  small = r.small.0;
  is = r.is;
  told = contains k r.small.1 refl;
}
worker_line_of line (Get w k) low r = record { worker = w; call = codes "get " ++ decimal k; small = r.small.0; is = r.is; told = gets k r.small.1 refl }
worker_line_of line (Evict w n) low r = record { worker = w; call = codes "evict " ++ decimal n; small = r.small.0; is = r.is; told = evicts n r.small.1 refl }
worker_line_of line (Version n) low r = absurd (too_high line _ low r.is (omega arith))
worker_line_of line (Structure List_kind b) low r = absurd (too_high line _ low r.is (omega arith))
worker_line_of line (Structure Hash b) low r = absurd (too_high line _ low r.is (omega arith))
worker_line_of line (Structure Tree b) low r = absurd (too_high line _ low r.is (omega arith))
worker_line_of line Adjacent low r = absurd (too_high line _ low r.is (omega arith))
worker_line_of line (Hashed n) low r = absurd (too_high line _ low r.is (omega arith))
worker_line_of line Packed low r = absurd (too_high line _ low r.is (omega arith))
worker_line_of line Lines low r = absurd (too_high line _ low r.is (omega arith))
worker_line_of line (Rows n) low r = absurd (too_high line _ low r.is (omega arith))
worker_line_of line (Workers n) low r = absurd (too_high line _ low r.is (omega arith))
worker_line_of line (Versions n) low r = absurd (too_high line _ low r.is (omega arith))
worker_line_of line (Start n) low r = absurd (too_high line _ low r.is (omega arith))
worker_line_of line (Word n raw) low r = absurd (too_high line _ low r.is (omega arith))
worker_line_of line Begin low r = absurd (too_high line _ low r.is (omega arith))
worker_line_of line (Stop w n) low r = absurd (too_high line _ low r.is (omega arith))
worker_line_of line (Turn w n) low r = absurd (too_high line _ low r.is (omega arith))
worker_line_of line (Ahead n) low r = absurd (too_high line _ low r.is (omega arith))
worker_line_of line AheadAll low r = absurd (too_high line _ low r.is (omega arith))
worker_line_of line End low r = absurd (too_high line _ low r.is (omega arith))

pub no_cut : (line : List ℕ) → get_or line 0 0 < 97 → ((front back : List ℕ) → line ≢ front ++ 32 ∷ back) → (s : Sentence) → ¬ Says line s
no_cut line low none s said = let w = worker_line_of line s low said in none (decimal w.worker) w.call w.is

pub no_worker : (line digits rest : List ℕ) → get_or line 0 0 < 97 → line ≡ digits ++ 32 ∷ rest → ¬ Has digits 32 →
    ((n : ℕ) → n < 10 ^ 10 → digits ≢ decimal n) → (s : Sentence) → ¬ Says line s
no_worker line digits rest low cut apart none s said =
    let w = worker_line_of line s low said in
    none w.worker w.small (cut_once 32 digits (decimal w.worker) rest w.call apart (no_space w.worker w.small) (sym cut ∙ w.is)).0

pub record NoCall (call : List ℕ) : Type 0 where
  pub both : NoPair call (codes "insert ")
  pub insert : NoNumber call (codes "insert ")
  pub remove : NoNumber call (codes "remove ")
  pub contains_key : NoNumber call (codes "contains ")
  pub get : NoNumber call (codes "get ")
  pub evict : NoNumber call (codes "evict ")

none_called : (call : List ℕ) → NoCall call → ¬ IsCall call
none_called call none (inserts k small is) = none.insert k small is
none_called call none (inserts_both k v small low is) = none.both k v small low is
none_called call none (removes k small is) = none.remove k small is
none_called call none (contains k small is) = none.contains_key k small is
none_called call none (gets k small is) = none.get k small is
none_called call none (evicts n small is) = none.evict n small is

pub no_call : (line digits rest : List ℕ) → get_or line 0 0 < 97 → line ≡ digits ++ 32 ∷ rest → ¬ Has digits 32 → NoCall rest → (s : Sentence) → ¬ Says line s
no_call line digits rest low cut apart none s said =
    let w = worker_line_of line s low said in
    let same : rest ≡ w.call = (cut_once 32 digits (decimal w.worker) rest w.call apart (no_space w.worker w.small) (sym cut ∙ w.is)).1 in
    none_called rest none (subst IsCall (sym same) w.told)

-- what a call can't say whose first byte is known
pub record NoCallAt (call : List ℕ) (b : ℕ) : Type 0 where
  pub both : b ≡ 105 → NoPair call (codes "insert ")
  pub insert : b ≡ 105 → NoNumber call (codes "insert ")
  pub remove : b ≡ 114 → NoNumber call (codes "remove ")
  pub contains_key : b ≡ 99 → NoNumber call (codes "contains ")
  pub get : b ≡ 103 → NoNumber call (codes "get ")
  pub evict : b ≡ 101 → NoNumber call (codes "evict ")

pub none_at : (call : List ℕ) → NoCallAt call (get_or call 0 0) → NoCall call
none_at call none = record {
  both = λ m n small low is. none.both (ap (λ s. get_or s 0 0) is) m n small low is;
  insert = λ n small is. none.insert (ap (λ s. get_or s 0 0) is) n small is;
  remove = λ n small is. none.remove (ap (λ s. get_or s 0 0) is) n small is;
  contains_key = λ n small is. none.contains_key (ap (λ s. get_or s 0 0) is) n small is;
  get = λ n small is. none.get (ap (λ s. get_or s 0 0) is) n small is;
  evict = λ n small is. none.evict (ap (λ s. get_or s 0 0) is) n small is;
}

pub no_call_at : (line digits rest : List ℕ) (b : ℕ) → get_or line 0 0 < 97 → line ≡ digits ++ 32 ∷ rest → ¬ Has digits 32 →
    get_or rest 0 0 ≡ b → NoCallAt rest b → (s : Sentence) → ¬ Says line s
no_call_at line digits rest b low cut apart first none =
    no_call line digits rest low cut apart (none_at rest (subst (NoCallAt rest) (sym first) none))

-- what is left where the call begins with one of these letters
pub only_i : (call : List ℕ) → NoNumber call (codes "insert ") → NoPair call (codes "insert ") → NoCallAt call 105
only_i call one two = record {
  both = λ e. two;
  insert = λ e. one;
  remove = λ e. absurd (omega (arith, e));
  contains_key = λ e. absurd (omega (arith, e));
  get = λ e. absurd (omega (arith, e));
  evict = λ e. absurd (omega (arith, e));
}

pub only_r : (call : List ℕ) → NoNumber call (codes "remove ") → NoCallAt call 114
only_r call none = record {
  both = λ e. absurd (omega (arith, e));
  insert = λ e. absurd (omega (arith, e));
  remove = λ e. none;
  contains_key = λ e. absurd (omega (arith, e));
  get = λ e. absurd (omega (arith, e));
  evict = λ e. absurd (omega (arith, e));
}

pub only_c : (call : List ℕ) → NoNumber call (codes "contains ") → NoCallAt call 99
only_c call none = record {
  both = λ e. absurd (omega (arith, e));
  insert = λ e. absurd (omega (arith, e));
  remove = λ e. absurd (omega (arith, e));
  contains_key = λ e. none;
  get = λ e. absurd (omega (arith, e));
  evict = λ e. absurd (omega (arith, e));
}

pub only_g : (call : List ℕ) → NoNumber call (codes "get ") → NoCallAt call 103
only_g call none = record {
  both = λ e. absurd (omega (arith, e));
  insert = λ e. absurd (omega (arith, e));
  remove = λ e. absurd (omega (arith, e));
  contains_key = λ e. absurd (omega (arith, e));
  get = λ e. none;
  evict = λ e. absurd (omega (arith, e));
}

pub only_e : (call : List ℕ) → NoNumber call (codes "evict ") → NoCallAt call 101
only_e call none = record {
  both = λ e. absurd (omega (arith, e));
  insert = λ e. absurd (omega (arith, e));
  remove = λ e. absurd (omega (arith, e));
  contains_key = λ e. absurd (omega (arith, e));
  get = λ e. absurd (omega (arith, e));
  evict = λ e. none;
}

-- and where it is empty
pub first_of_none : (call : List ℕ) → length call ≤ 0 → get_or call 0 0 ≡ 0
first_of_none [] short = refl
first_of_none (b ∷ bs) short = absurd (omega arith)

pub only_none : (call : List ℕ) → NoCallAt call 0
only_none call = record {
  both = λ e. absurd (omega (arith, e));
  insert = λ e. absurd (omega (arith, e));
  remove = λ e. absurd (omega (arith, e));
  contains_key = λ e. absurd (omega (arith, e));
  get = λ e. absurd (omega (arith, e));
  evict = λ e. absurd (omega (arith, e));
}

pub both_none : {P Q R : Type 0} (r : Option Sentence) → (P → Q → R) → IfNone r P → IfNone r Q → IfNone r R
both_none None f p q = f p q
both_none (Some s) f p q = tt

-- a byte with which no sentence begins
pub record IsOtherLetter (b : ℕ) : Type 0 where
  pub letter : 97 ≤ b
  pub not_a : b ≢ 97
  pub not_b : b ≢ 98
  pub not_e : b ≢ 101
  pub not_f : b ≢ 102
  pub not_p : b ≢ 112
  pub not_r : b ≢ 114
  pub not_s : b ≢ 115
  pub not_t : b ≢ 116
  pub not_v : b ≢ 118
  pub not_w : b ≢ 119

heard_other : (b : ℕ) (line : List ℕ) → IsOtherLetter b → heard_at b line ≡ heard_w line
heard_other b line o =
    ap (λ t. if t then heard_number line else heard_letter b line) (le-ltb b 97 o.letter)
    ∙ if_not b 97 _ _ o.not_a
    ∙ if_not b 98 _ _ o.not_b
    ∙ if_not b 101 _ _ o.not_e
    ∙ if_not b 102 _ _ o.not_f
    ∙ if_not b 112 _ _ o.not_p
    ∙ if_not b 114 _ _ o.not_r
    ∙ if_not b 115 _ _ o.not_s
    ∙ if_not b 116 _ _ o.not_t
    ∙ if_not b 118 _ _ o.not_v

pub no_other : (line : List ℕ) → IsOtherLetter (get_or line 0 0) → (s : Sentence) → ¬ Says line s
no_other line o =
    refused line (get_or line 0 0) refl (rw (heard_other (get_or line 0 0) line o)
    (neither line (get_or line 3 0 == 100) _ _ (λ r. o.not_w (ap (λ s. get_or s 0 0) r.is)) (λ r. o.not_w (ap (λ s. get_or s 0 0) r.is))))
