-- What the lines up to the body's first tell is what the trace tells before its body.
use Rattle.std.proofs.Common.{◌≡◌, ℕ, suc, Bool, true, false, not, Option, Some, None, is_some, Result, Ok, Err, if◌then◌else◌, nat_lt, List, [], ◌∷◌, inl, inr, refl, sym, ap, ap₂, ◌∙◌, subst}
use Rattle.std.specs.Prelude.{IfSome, IfNone, OnSome, OnOk, IfErr}
use Rattle.std.specs.Bool.{then_some}
use Rattle.std.specs.Result.{result_ok}
use Rattle.std.specs.Str.{IsAscii}
use Rattle.flit_words.specs.Texts.{lines_of}
use Rattle.flit_words.specs.Layouts.{words_of}
use Rattle.flit_words.specs.declared.layouts.Layout.{Layout}
use Rattle.flit_trace.specs.declared.faults.Bound.TheVariants.{Calls}
use Rattle.flit_trace.specs.declared.faults.TraceError.{TraceError}
use Rattle.flit_trace.specs.declared.faults.TraceError.TheVariants.{BadLine, Limit, NoEnd, NoMemory}
use Rattle.flit_trace.specs.declared.heads.Head.{Head}
use Rattle.flit_trace.specs.declared.heads.Place.{Place}
use Rattle.flit_trace.specs.declared.sentences.Sentence.{Sentence}
use Rattle.flit_trace.specs.declared.sentences.Sentence.TheVariants.{Version, Structure, Adjacent, Hashed, Packed, Lines, Rows, Workers, Versions, Start, Word, Begin, Insert, Remove, Contains, Get, Evict, Stop, Turn, Ahead, AheadAll, End}
use Rattle.flit_trace.specs.declared.stages.Stage.{Stage}
use Rattle.flit_trace.specs.declared.stages.Stage.TheVariants.{Ended}
use Rattle.flit_trace.specs.declared.drafts.Draft.{Draft}
use Rattle.flit_trace.specs.Sentences.{Says}
use Rattle.flit_trace.specs.Contents.{Contents, nothing, Content, slots_of, head_of}
use Rattle.flit_trace.specs.Drafts.{Goes, blank, verdict, line_verdict, with_line, is_early, is_ended, IsSound, IsErrorFor}
use Rattle.flit_trace.specs.Grammar.{is_silent, Reading, beginning, IsLine, IsReadFrom, IsTrace}
use Rattle.flit_trace.specs.Heads.{IsRightHead, IsHeadOf, HasStart}
use Rattle.flit_trace.specs.Readings.{LeadsOnlyTo, CannotStand}
use Rattle.flit_trace.proofs.Goings.{goes_once, went, only_if-goes, if_else-goes, both}
use Rattle.flit_trace.proofs.Places.{head_accepted}
use Rattle.flit_trace.proofs.SentenceTexts.{one_sentence}
use Rattle.flit_trace.proofs.StartBlocks.{version_early, structure_early, place_early, rows_early, workers_early, versions_early, start_early}

-- where a value comes, and where none does
pub some_of_ok : {T E A P : Type 0} (r : Result T E) → (A → P) → OnOk r A → OnSome (result_ok r) P
some_of_ok (Ok x) f a = f a
some_of_ok (Err e) f a = tt

pub none_of_err : {T E P : Type 0} {Q : E → Type 0} (r : Result T E) → ((e : E) → Q e → P) → IfErr r Q → IfNone (result_ok r) P
none_of_err (Ok x) f a = tt
none_of_err (Err e) f a = f e a

pub none_anyway : {T P : Type 0} (o : Option T) → P → IfNone o P
none_anyway None p = p
none_anyway (Some x) p = tt

pub some_if : {T : Type 0} (b : Bool) (x : T) (P : T → Type 0) → (b ≡ false → P x) → IfSome (then_some (not b) x) P
some_if true x P f = tt
some_if false x P f = f refl

pub none_if : {T : Type 0} (b : Bool) (x : T) (P : Type 0) → (b ≡ true → P) → IfNone (then_some (not b) x) P
none_if true x P f = f refl
none_if false x P f = tt

clash : {P : Type 0} (b : Bool) → b ≡ true → b ≡ false → P
clash b holds fails = absurd (cc)

pub head_right : (d : Draft) → IsSound d → IsRightHead (head_of d)
head_right d s = record { accepted = head_accepted d s; place = s.place; slots = refl }

-- a line leads to one draft at most
pub silent_only : (d : Draft) (line : List ℕ) → is_silent line ≡ true → LeadsOnlyTo d line d
silent_only d line silent n t q step =
    elim step.1 [ inl same ↦ ap (λ (r : Reading). r.draft) same.1 | inr says ↦ clash (is_silent line) silent says.speaks ]

pub spoken_only : (d e : Draft) (line : List ℕ) (s : Sentence) → is_silent line ≡ false → Says line s → verdict d s ≡ Goes e → LeadsOnlyTo d line e
spoken_only d e line s speaks says goes n t q step =
    elim step.1 [
      | inl same ↦ clash (is_silent line) same.0 speaks
      | inr other ↦ goes_once q.draft e (sym other.goes ∙ ap (verdict d) (one_sentence line other.sentence s other.says says) ∙ goes)
    ]

pub not_ascii : (d : Draft) (line : List ℕ) → ¬ IsAscii line → CannotStand d line
not_ascii d line bytes n t q step = bytes step.0.ascii

pub not_said : (d : Draft) (line : List ℕ) → is_silent line ≡ false → ((s : Sentence) → ¬ Says line s) → CannotStand d line
not_said d line speaks none n t q step =
    elim step.1 [ inl same ↦ clash (is_silent line) same.0 speaks | inr says ↦ none says.sentence says.says ]

no_error : (n : ℕ) (d e : Draft) (s : Sentence) (error : TraceError) → verdict d s ≡ Goes e → IsErrorFor n (verdict d s) error → ⊥
no_error n d e s (BadLine m) goes is = let no = sym goes ∙ is.1 in cc
no_error n d e s (Limit m bound) goes is = let no = sym goes ∙ is.1 in cc
no_error n d e s (NoEnd m) goes is = is
no_error n d e s NoMemory goes is = is

pub not_taken : (m : ℕ) (d : Draft) (line : List ℕ) (s : Sentence) (error : TraceError) → is_silent line ≡ false → Says line s →
    IsErrorFor m (verdict d s) error → CannotStand d line
not_taken m d line s error speaks says is n t q step =
    elim step.1 [
      | inl same ↦ clash (is_silent line) same.0 speaks
      | inr other ↦ no_error m d q.draft s error (ap (verdict d) (one_sentence line s other.sentence says other.says) ∙ other.goes) is
    ]

-- what stays as it is behind the head
pub record StaysLate (d e : Draft) : Type 0 where
  pub late : is_early e.stage ≡ false
  pub layout : e.layout ≡ d.layout
  pub place : e.place ≡ d.place
  pub start : e.has_start ≡ d.has_start

kept : (d e : Draft) → is_early e.stage ≡ false → e.layout ≡ d.layout → e.place ≡ d.place → e.has_start ≡ d.has_start → StaysLate d e
kept d e late layout place start = record { late = late; layout = layout; place = place; start = start }

on_line : (d e : Draft) (worker calls : ℕ) (right : Bool) → line_verdict d worker right calls ≡ Goes e → StaysLate d e
on_line d e worker calls right goes =
    let w = if_else-goes (nat_lt d.lines 1048576) (with_line d calls) e Calls (only_if-goes _ _ e goes).1 in
    subst (StaysLate d) w.is (kept d (with_line d calls) refl refl refl refl)

goes-late : (d e : Draft) (s : Sentence) → is_early d.stage ≡ false → verdict d s ≡ Goes e → StaysLate d e
goes-late d e (Version n) late goes = clash (is_early d.stage) (version_early d.stage (both _ _ (went _ _ e goes).holds).0) late
goes-late d e (Structure kind buckets) late goes = clash (is_early d.stage) (structure_early d.stage (only_if-goes _ _ e goes).0) late
goes-late d e Adjacent late goes = clash (is_early d.stage) (place_early d.stage (went _ _ e goes).holds) late
goes-late d e (Hashed n) late goes = clash (is_early d.stage) (place_early d.stage (only_if-goes _ _ e goes).0) late
goes-late d e Packed late goes = clash (is_early d.stage) (place_early d.stage (went _ _ e goes).holds) late
goes-late d e Lines late goes = clash (is_early d.stage) (place_early d.stage (went _ _ e goes).holds) late
goes-late d e (Rows n) late goes = clash (is_early d.stage) (rows_early d.stage (only_if-goes _ _ e goes).0) late
goes-late d e (Workers n) late goes = clash (is_early d.stage) (workers_early d.stage (only_if-goes _ _ e goes).0) late
goes-late d e (Versions n) late goes = clash (is_early d.stage) (versions_early d.stage (only_if-goes _ _ e goes).0) late
goes-late d e (Start n) late goes =
    clash (is_early d.stage) (start_early d.stage (both _ _ (both _ _ (went _ _ e goes).holds).0).0) late
goes-late d e (Word word raw) late goes = subst (StaysLate d) (went _ _ e goes).is (kept d _ late refl refl refl)
goes-late d e Begin late goes = subst (StaysLate d) (went _ _ e goes).is (kept d _ refl refl refl refl)
goes-late d e (Insert worker key value) late goes = on_line d e worker 1 _ goes
goes-late d e (Remove worker key) late goes = on_line d e worker 1 _ goes
goes-late d e (Contains worker key) late goes = on_line d e worker 1 _ goes
goes-late d e (Get worker key) late goes = on_line d e worker 1 _ goes
goes-late d e (Evict worker word) late goes = on_line d e worker 0 _ goes
goes-late d e (Stop worker events) late goes = subst (StaysLate d) (went _ _ e goes).is (kept d _ refl refl refl refl)
goes-late d e (Turn worker events) late goes = subst (StaysLate d) (went _ _ e goes).is (kept d _ refl refl refl refl)
goes-late d e (Ahead word) late goes = subst (StaysLate d) (went _ _ e goes).is (kept d _ refl refl refl refl)
goes-late d e AheadAll late goes = subst (StaysLate d) (went _ _ e goes).is (kept d _ refl refl refl refl)
goes-late d e End late goes = subst (StaysLate d) (went _ _ e goes).is (kept d _ refl refl refl refl)

line_late : (n : ℕ) (r : Reading) (line : List ℕ) (q : Reading) → IsLine n r line q → is_early r.draft.stage ≡ false → StaysLate r.draft q.draft
line_late n r line q step late =
    elim step.1 [
      | inl silent ↦ subst (λ (x : Reading). StaysLate r.draft x.draft) (sym silent.1) (kept r.draft r.draft late refl refl refl)
      | inr says ↦ goes-late r.draft q.draft says.sentence late says.goes
    ]

read_late : (n : ℕ) (r : Reading) (lines : List (List ℕ)) (q : Reading) → IsReadFrom n r lines q → is_early r.draft.stage ≡ false →
    StaysLate r.draft q.draft
read_late n r [] q read late = subst (λ (x : Reading). StaysLate r.draft x.draft) (sym read) (kept r.draft r.draft late refl refl refl)
read_late n r (line ∷ lines) q read late =
    let one = line_late n r line read.0 read.1 late in
    let more = read_late (suc n) read.0 lines q read.2 one.late in
    kept r.draft q.draft more.late (more.layout ∙ one.layout) (more.place ∙ one.place) (more.start ∙ one.start)

-- whatever the lines are read to, the rest is read to from this draft
abbrev pub AreReadOn : List (List ℕ) → Draft → List (List ℕ) → Type 0
AreReadOn lines d rest = (q : Reading) → IsReadFrom 1 beginning lines q → (n : ℕ) × (t : Contents) × IsReadFrom n (record { draft = d; told = t }) rest q

pub at_first : (lines : List (List ℕ)) (d : Draft) → d ≡ blank → AreReadOn lines d lines
at_first lines d is q read =
    (1, nothing, subst (λ (x : Draft). IsReadFrom 1 (record { draft = x; told = nothing }) lines q) (sym is) read)

pub one_on : (lines rest more : List (List ℕ)) (d e : Draft) (line : List ℕ) → rest ≡ line ∷ more → LeadsOnlyTo d line e → AreReadOn lines d rest →
    AreReadOn lines e more
one_on lines rest more d e line begins only on q read =
    let now = on q read in
    let step = subst (λ (ls : List (List ℕ)). IsReadFrom now.0 (record { draft = d; told = now.1 }) ls q) begins now.2 in (
      suc now.0,
      step.0.told,
      subst (λ (x : Draft). IsReadFrom (suc now.0) (record { draft = x; told = step.0.told }) more q) (only now.0 now.1 step.0 step.1) step.2,
    )

-- bytes that are no trace
no_trace : (bytes : List ℕ) → ((q : Reading) → IsReadFrom 1 beginning (lines_of bytes) q → is_ended q.draft.stage ≡ true → ⊥) → HasStart bytes
no_trace bytes none c t = absurd (none t.last t.read t.ended)

pub stuck : (bytes : List ℕ) (rest more : List (List ℕ)) (d : Draft) (line : List ℕ) → rest ≡ line ∷ more → CannotStand d line →
    AreReadOn (lines_of bytes) d rest → HasStart bytes
stuck bytes rest more d line begins cannot on =
    no_trace bytes (λ q read ended.
    let now = on q read in
    let step = subst (λ (ls : List (List ℕ)). IsReadFrom now.0 (record { draft = d; told = now.1 }) ls q) begins now.2 in
    cannot now.0 now.1 step.0 step.1)

ended_late : (s : Stage) → is_ended s ≡ true → is_early s ≡ false
ended_late Ended h = refl
ended_late _ h = absurd (cc)

pub unended : (bytes : List ℕ) (rest : List (List ℕ)) (d : Draft) → rest ≡ [] → is_early d.stage ≡ true → AreReadOn (lines_of bytes) d rest →
    HasStart bytes
unended bytes rest d none early on =
    no_trace bytes (λ q read ended.
    let now = on q read in
    let same = subst (λ (ls : List (List ℕ)). IsReadFrom now.0 (record { draft = d; told = now.1 }) ls q) none now.2 in
    clash (is_early d.stage) early (ended_late d.stage (subst (λ (x : Reading). is_ended x.draft.stage ≡ true) same ended)))

same_head : (d e : Draft) → e.layout ≡ d.layout → e.place ≡ d.place → head_of e ≡ head_of d
same_head d e layouts places =
    let make : Layout → Place → Head = λ l p. record { layout = record l { slots = slots_of p (words_of l) }; place = p } in
    ap₂ make layouts places

-- behind the head a trace's draft says what this one says
last_stays : (bytes : List ℕ) (rest : List (List ℕ)) (d : Draft) (c : Content) → AreReadOn (lines_of bytes) d rest → is_early d.stage ≡ false →
    (t : IsTrace bytes c) → StaysLate d t.last.draft
last_stays bytes rest d c on late t =
    let now = on t.last t.read in
    read_late now.0 (record { draft = d; told = now.1 }) rest t.last now.2 late

pub head_told : (bytes : List ℕ) (rest : List (List ℕ)) (d : Draft) → AreReadOn (lines_of bytes) d rest → is_early d.stage ≡ false →
    d.has_start ≡ false → IsHeadOf bytes (head_of d)
head_told bytes rest d on late none c t =
    let s = last_stays bytes rest d c on late t in
    let start : Bool → Type 0 = λ b. (if b then Some t.last.told.words else None) ≡ None in (
      ap (λ (x : Content). x.head) t.is ∙ same_head d t.last.draft s.layout s.place,
      ap (λ (x : Content). x.start) t.is ∙ subst start (sym (s.start ∙ none)) refl,
    )

pub start_told : (bytes : List ℕ) (rest : List (List ℕ)) (d : Draft) → AreReadOn (lines_of bytes) d rest → is_early d.stage ≡ false →
    d.has_start ≡ true → HasStart bytes
start_told bytes rest d on late has c t =
    let s = last_stays bytes rest d c on late t in
    let start : Bool → Type 0 = λ b. is_some (if b then Some t.last.told.words else None) ≡ true in
    ap (λ (x : Content). is_some x.start) t.is ∙ subst start (sym (s.start ∙ has)) refl
