-- No trace is past a limit on events.
use Rattle.std.proofs.Common.{◌≡◌, ℕ, suc, ◌==◌, nat_le, nat_lt, Bool, true, false, if◌then◌else◌, List, [], ◌∷◌, inl, inr}
use Rattle.flit_words.specs.Texts.{lines_of}
use Rattle.flit_words.specs.declared.layouts.Kind.{Kind}
use Rattle.flit_words.specs.declared.layouts.Kind.TheVariants.{List as List_kind, Hash, Tree}
use Rattle.flit_trace.specs.declared.faults.Bound.{Bound}
use Rattle.flit_trace.specs.declared.faults.Bound.TheVariants as bound
use Rattle.flit_trace.specs.declared.faults.TraceError.TheVariants.{Limit}
use Rattle.flit_trace.specs.declared.heads.Place.TheVariants as place
use Rattle.flit_trace.specs.declared.sentences.Sentence.{Sentence}
use Rattle.flit_trace.specs.declared.sentences.Sentence.TheVariants.{Version, Structure, Adjacent, Hashed, Packed, Lines, Rows, Workers, Versions, Start, Word, Begin, Insert, Remove, Contains, Get, Evict, Stop, Turn, Ahead, AheadAll, End}
use Rattle.flit_trace.specs.declared.stages.Stage.TheVariants.{AtWorkers, AtVersions, AtStart}
use Rattle.flit_trace.specs.declared.drafts.Draft.{Draft}
use Rattle.flit_trace.specs.Drafts.{Verdict, Goes, IsBad, IsPast, up_to, only_if, verdict, buckets_verdict, line_verdict, with_structure, with_place, with_line}
use Rattle.flit_trace.specs.Grammar.{Reading, beginning, IsFaultFrom, IsTraceFault}

only_if-past : (test : Bool) (v : Verdict) (b : Bound) → only_if test v ≡ IsPast b → v ≡ IsPast b
only_if-past true v b past = past
only_if-past false v b past = absurd (cc)

never : (test : Bool) (d : Draft) (b : Bound) → only_if test (Goes d) ≡ IsPast b → ⊥
never true d b past = cc
never false d b past = cc

else_past : (test : Bool) (d : Draft) (a b : Bound) → (if test then Goes d else IsPast a) ≡ IsPast b → a ≡ b
else_past true d a b past = absurd (cc)
else_past false d a b past = cc

ranged : (none : Bool) (v : Verdict) (b : Bound) → (if none then IsBad else v) ≡ IsPast b → v ≡ IsPast b
ranged true v b past = absurd (cc)
ranged false v b past = past

up_to-past : (n most : ℕ) (a : Bound) (d : Draft) (b : Bound) → up_to n most a d ≡ IsPast b → a ≡ b
up_to-past n most a d b past = else_past (nat_le n most) d a b (ranged (n == 0) (if nat_le n most then Goes d else IsPast a) b past)

structure : (d : Draft) (kind : Kind) (buckets : ℕ) → buckets_verdict d kind buckets ≡ IsPast bound.Events → ⊥
structure d List_kind buckets past = cc
structure d Hash buckets past = let same = up_to-past buckets 65536 bound.Buckets (with_structure d Hash buckets) bound.Events past in cc
structure d Tree buckets past = cc

line : (d : Draft) (worker : ℕ) (right : Bool) (calls : ℕ) → line_verdict d worker right calls ≡ IsPast bound.Events → ⊥
line d worker right calls past =
    let same = else_past (nat_lt d.lines 1048576) (with_line d calls) bound.Calls bound.Events
    (only_if-past _ (if nat_lt d.lines 1048576 then Goes (with_line d calls) else IsPast bound.Calls) bound.Events past) in
    cc

pub no_events : (d : Draft) (s : Sentence) → verdict d s ≡ IsPast bound.Events → ⊥
no_events d (Version n) past = never _ _ bound.Events past
no_events d (Structure kind buckets) past = structure d kind buckets (only_if-past _ (buckets_verdict d kind buckets) bound.Events past)
no_events d Adjacent past = never _ _ bound.Events past
no_events d (Hashed n) past =
    let next = with_place d (place.Hashed n) in
    let same = up_to-past n 1048576 bound.Slots next bound.Events (only_if-past _ (up_to n 1048576 bound.Slots next) bound.Events past) in
    cc
no_events d Packed past = never _ _ bound.Events past
no_events d Lines past = never _ _ bound.Events past
no_events d (Rows n) past =
    let next : Draft = record d { stage = AtWorkers; layout = record d.layout { rows = n } } in
    let same = up_to-past n 1048575 bound.Rows next bound.Events (only_if-past _ (up_to n 1048575 bound.Rows next) bound.Events past) in
    cc
no_events d (Workers n) past =
    let next : Draft = record d { stage = AtVersions; layout = record d.layout { workers = n } } in
    let same = up_to-past n 64 bound.Workers next bound.Events (only_if-past _ (up_to n 64 bound.Workers next) bound.Events past) in
    cc
no_events d (Versions n) past =
    let next : Draft = record d { stage = AtStart; layout = record d.layout { limit = n } } in
    let same = up_to-past n 2147483647 bound.Versions next bound.Events (only_if-past _ (up_to n 2147483647 bound.Versions next) bound.Events past) in
    cc
no_events d (Start n) past = never _ _ bound.Events past
no_events d (Word word raw) past = never _ _ bound.Events past
no_events d Begin past = never _ _ bound.Events past
no_events d (Insert worker key value) past = line d worker _ 1 past
no_events d (Remove worker key) past = line d worker _ 1 past
no_events d (Contains worker key) past = line d worker _ 1 past
no_events d (Get worker key) past = line d worker _ 1 past
no_events d (Evict worker word) past = line d worker _ 0 past
no_events d (Stop worker events) past = never _ _ bound.Events past
no_events d (Turn worker events) past = never _ _ bound.Events past
no_events d (Ahead word) past = never _ _ bound.Events past
no_events d AheadAll past = never _ _ bound.Events past
no_events d End past = never _ _ bound.Events past

none_from : (n m : ℕ) (r : Reading) (lines : List (List ℕ)) → IsFaultFrom n r lines (Limit m bound.Events) → ⊥
none_from n m r [] fault = let no = fault.1 in cc
none_from n m r (line ∷ lines) fault =
    elim fault [
      | inl refused ↦ no_events r.draft refused.1.sentence refused.1.past
      | inr later ↦ none_from (suc n) m later.0 lines later.2
    ]

pub never_events : (bytes : List ℕ) (m : ℕ) → IsTraceFault bytes (Limit m bound.Events) → ⊥
never_events bytes m fault = elim fault [ inl long ↦ (let no = long.1 in cc) | inr short ↦ none_from 1 m beginning (lines_of bytes) short.1 ]
