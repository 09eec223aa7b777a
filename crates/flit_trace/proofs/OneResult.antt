-- Each text has one result.
use Rattle.std.proofs.Common.{◌≡◌, ℕ, suc, Bool, true, false, List, [], ◌∷◌, inl, inr, sym, ap, ap₂, ◌∙◌, subst, arith}
use Rattle.flit_words.specs.Texts.{lines_of}
use Rattle.flit_trace.specs.declared.faults.Bound.{Bound}
use Rattle.flit_trace.specs.declared.faults.TraceError.{TraceError}
use Rattle.flit_trace.specs.declared.faults.TraceError.TheVariants.{BadLine, Limit, NoEnd, NoMemory}
use Rattle.flit_trace.specs.declared.drafts.Draft.{Draft}
use Rattle.flit_trace.specs.declared.sentences.Sentence.{Sentence}
use Rattle.flit_trace.specs.Drafts.{Goes, verdict, is_ended}
use Rattle.flit_trace.specs.Contents.{Contents, told_with, Content, content_of}
use Rattle.flit_trace.specs.Grammar.{is_silent, Reading, beginning, SaysAt, IsLine, IsReadFrom, IsBadAt, IsPastAt, IsRefused, IsFaultFrom, IsTrace, IsTraceFault}
use Rattle.flit_trace.proofs.SentenceTexts.{one_sentence}

clash : {P : Type 0} (b : Bool) → b ≡ true → b ≡ false → P
clash b holds fails = absurd (cc)

same_reading : (p q : Reading) → p.draft ≡ q.draft → p.told ≡ q.told → p ≡ q
same_reading p q drafts tolds = let make : Draft → Contents → Reading = λ d t. record { draft = d; told = t } in ap₂ make drafts tolds

says_once : (n : ℕ) (r : Reading) (line : List ℕ) (p q : Reading) → SaysAt n r line p → SaysAt n r line q → p ≡ q
says_once n r line p q a b =
    let one = one_sentence line a.sentence b.sentence a.says b.says in
    let goes : Goes p.draft ≡ Goes q.draft = sym a.goes ∙ ap (verdict r.draft) one ∙ b.goes in
    same_reading p q (cc) (a.told ∙ ap (λ (s : Sentence). told_with r.draft.layout n s r.told) one ∙ sym b.told)

line_once : (n : ℕ) (r : Reading) (line : List ℕ) (p q : Reading) → IsLine n r line p → IsLine n r line q → p ≡ q
line_once n r line p q a b =
    elim a.1 [
      | inl silent ↦ elim b.1 [ inl other ↦ silent.1 ∙ sym other.1 | inr says ↦ clash (is_silent line) silent.0 says.speaks ]
      | inr says ↦ elim b.1 [ inl silent ↦ clash (is_silent line) silent.0 says.speaks | inr other ↦ says_once n r line p q says other ]
    ]

read_once : (n : ℕ) (r : Reading) (lines : List (List ℕ)) (p q : Reading) → IsReadFrom n r lines p → IsReadFrom n r lines q → p ≡ q
read_once n r [] p q a b = a ∙ sym b
read_once n r (line ∷ lines) p q a b =
    let same = line_once n r line a.0 b.0 a.1 b.1 in
    read_once (suc n) b.0 lines p q (subst (λ (m : Reading). IsReadFrom (suc n) m lines p) same a.2) b.2

pub one_content : (bytes : List ℕ) (a b : Content) → IsTrace bytes a → IsTrace bytes b → a ≡ b
one_content bytes a b s t =
    let same = read_once 1 beginning (lines_of bytes) s.last t.last s.read t.read in
    s.is ∙ ap (λ (r : Reading). content_of r.draft r.told) same ∙ sym t.is

-- a line that stands where it may is not refused
bad_or_line : (n : ℕ) (r : Reading) (line : List ℕ) (q : Reading) → IsLine n r line q → IsBadAt r.draft line → ⊥
bad_or_line n r line q step bad =
    elim bad [
      | inl bytes ↦ bytes step.0.ascii
      | inr more ↦ elim more [
        | inl ended ↦ clash (is_ended r.draft.stage) ended step.0.open_yet
        | inr all ↦ elim step.1 [
          | inl silent ↦ clash (is_silent line) silent.0 all.0
          | inr says ↦ (let no = sym says.goes ∙ all.1 says.sentence says.says in cc)
        ]
      ]
    ]

past_or_line : (n : ℕ) (r : Reading) (line : List ℕ) (q : Reading) (bound : Bound) → IsLine n r line q → IsPastAt r.draft line bound → ⊥
past_or_line n r line q bound step past =
    elim step.1 [
      | inl silent ↦ clash (is_silent line) silent.0 past.speaks
      | inr says ↦ (let no = sym says.goes ∙ ap (verdict r.draft) (one_sentence line says.sentence past.sentence says.says past.says) ∙ past.past in cc)
    ]

refused_or_line : (n : ℕ) (r : Reading) (line : List ℕ) (q : Reading) (e : TraceError) → IsLine n r line q → IsRefused n r.draft line e → ⊥
refused_or_line n r line q (BadLine m) step refused = bad_or_line n r line q step refused.1
refused_or_line n r line q (Limit m bound) step refused = past_or_line n r line q bound step refused.1
refused_or_line n r line q (NoEnd m) step refused = refused
refused_or_line n r line q NoMemory step refused = refused

bad_or_past : (d : Draft) (line : List ℕ) (bound : Bound) → IsBadAt d line → IsPastAt d line bound → ⊥
bad_or_past d line bound bad past =
    elim bad [
      | inl bytes ↦ bytes past.may_stand.ascii
      | inr more ↦ elim more [
        | inl ended ↦ clash (is_ended d.stage) ended past.may_stand.open_yet
        | inr all ↦ (let no = sym past.past ∙ all.1 past.sentence past.says in cc)
      ]
    ]

one_bound : (d : Draft) (line : List ℕ) (b c : Bound) → IsPastAt d line b → IsPastAt d line c → b ≡ c
one_bound d line b c p q =
    let both = sym p.past ∙ ap (verdict d) (one_sentence line p.sentence q.sentence p.says q.says) ∙ q.past in
    cc

refused_once : (n : ℕ) (d : Draft) (line : List ℕ) (e f : TraceError) → IsRefused n d line e → IsRefused n d line f → e ≡ f
refused_once n d line (BadLine m) (BadLine k) a b = ap BadLine (a.0 ∙ sym b.0)
refused_once n d line (BadLine m) (Limit k c) a b = absurd (bad_or_past d line c a.1 b.1)
refused_once n d line (Limit m c) (BadLine k) a b = absurd (bad_or_past d line c b.1 a.1)
refused_once n d line (Limit m c) (Limit k x) a b = ap₂ (λ (l : ℕ) (y : Bound). Limit l y) (a.0 ∙ sym b.0) (one_bound d line c x a.1 b.1)
refused_once n d line (NoEnd m) f a b = absurd a
refused_once n d line NoMemory f a b = absurd a
refused_once n d line e (NoEnd m) a b = absurd b
refused_once n d line e NoMemory a b = absurd b

fault_once : (n : ℕ) (r : Reading) (lines : List (List ℕ)) (e f : TraceError) → IsFaultFrom n r lines e → IsFaultFrom n r lines f → e ≡ f
fault_once n r [] e f a b = a.1 ∙ sym b.1
fault_once n r (line ∷ lines) e f a b =
    elim a [
      | inl refused ↦ elim b [
        | inl other ↦ refused_once n r.draft line e f refused other
        | inr later ↦ absurd (refused_or_line n r line later.0 e later.1 refused)
      ]
      | inr later ↦ elim b [
        | inl refused ↦ absurd (refused_or_line n r line later.0 f later.1 refused)
        | inr other ↦
            let same = line_once n r line later.0 other.0 later.1 other.1 in
            fault_once (suc n) other.0 lines e f (subst (λ (m : Reading). IsFaultFrom (suc n) m lines e) same later.2) other.2
      ]
    ]

pub one_fault : (bytes : List ℕ) (e f : TraceError) → IsTraceFault bytes e → IsTraceFault bytes f → e ≡ f
one_fault bytes e f a b =
    elim a [
      | inl long ↦ elim b [ inl other ↦ long.1 ∙ sym other.1 | inr short ↦ absurd (let m = long.0 in let k = short.0 in omega arith) ]
      | inr short ↦ elim b [
        | inl long ↦ absurd (let m = long.0 in let k = short.0 in omega arith)
        | inr other ↦ fault_once 1 beginning (lines_of bytes) e f short.1 other.1
      ]
    ]

no_fault : (n : ℕ) (r : Reading) (lines : List (List ℕ)) (q : Reading) (e : TraceError) → IsReadFrom n r lines q → is_ended q.draft.stage ≡ true →
    IsFaultFrom n r lines e → ⊥
no_fault n r [] q e read ended fault = clash (is_ended r.draft.stage) (subst (λ (m : Reading). is_ended m.draft.stage ≡ true) read ended) fault.0
no_fault n r (line ∷ lines) q e read ended fault =
    elim fault [
      | inl refused ↦ refused_or_line n r line read.0 e read.1 refused
      | inr later ↦
          let same = line_once n r line read.0 later.0 read.1 later.1 in
          no_fault (suc n) later.0 lines q e (subst (λ (m : Reading). IsReadFrom (suc n) m lines q) same read.2) ended later.2
    ]

pub trace_or_fault : (bytes : List ℕ) (c : Content) (e : TraceError) → IsTrace bytes c → IsTraceFault bytes e → ⊥
trace_or_fault bytes c e t fault =
    elim fault [
      | inl long ↦ (let m = long.0 in let k = t.size in omega arith)
      | inr short ↦ no_fault 1 beginning (lines_of bytes) t.last e t.read t.ended short.1
    ]
