-- A trace of calls on a hash table of 256 buckets, written line by line: its head, a line per call, and `end`. Such lines are
-- read as just these calls.
use Rattle.std.proofs.Common.{◌≡◌, ℕ, suc, ◌+◌, ◌^◌, ◌<◌, ◌≤◌, ◌==◌, ◌&&◌, nat_le, nat_lt, Bool, true, false, Some, None, List, [], ◌∷◌, ◌++◌, length, decimal, codes, refl, sym, ap, ◌∙◌, arith, subst, inr, append_assoc, append-nil, replicate, ne_eqb, if◌then◌else◌}
use Rattle.std.specs.List.{AllByRecursion}
use Rattle.std.proofs.lemmas.Fmt.{decimal_digit, decimal_step}
use Rattle.std.proofs.lemmas.Bool.Decides.{nat_tests}
use Rattle.flit_words.specs.declared.layouts.Kind.TheVariants.{Hash}
use Rattle.flit_words.specs.declared.layouts.Layout.{Layout}
use Rattle.flit_words.specs.Layouts.{words_of}
use Rattle.flit_words.specs.Texts.{lines_of}
use Rattle.flit_model.specs.declared.calls.Call.{Call}
use Rattle.flit_model.specs.declared.calls.Call.TheVariants.{Insert, Remove, Contains, Get}
use Rattle.flit_model.specs.declared.calls.Item.TheVariants as item
use Rattle.flit_trace.specs.declared.faults.Bound.{Bound}
use Rattle.flit_trace.specs.declared.faults.Bound.TheVariants as bound
use Rattle.flit_trace.specs.declared.heads.Place.TheVariants.{Adjacent}
use Rattle.flit_trace.specs.declared.sentences.Sentence.{Sentence}
use Rattle.flit_trace.specs.declared.sentences.Sentence.TheVariants as line
use Rattle.flit_trace.specs.declared.stages.Stage.TheVariants as stage
use Rattle.flit_trace.specs.declared.drafts.Draft.{Draft}
use Rattle.flit_trace.specs.Sentences.{Says, worker_line}
use Rattle.flit_trace.specs.Drafts.{Goes, IsBad, IsPast, blank, verdict, only_if, with_line, takes_body, is_ended, is_worker, up_to, is_value}
use Rattle.flit_trace.specs.Contents.{Contents, nothing, told_with, with_item, ItemLine, slots_of, Content, content_of}
use Rattle.flit_trace.specs.Grammar.{IsTrace, Reading, beginning, IsLine, IsReadFrom, is_silent}
use Rattle.flit_trace.proofs.PrintedLines.{ArePrinted, are_printed, tested, printed-append, printed-decimal, printed-ascii, speaks_behind}

-- the line of a worker's call, in version 1
abbrev pub call_line : ℕ → Call → List ℕ
call_line worker (Insert key value) = worker_line worker (codes "insert") (decimal key)
call_line worker (Remove key) = worker_line worker (codes "remove") (decimal key)
call_line worker (Contains key) = worker_line worker (codes "contains") (decimal key)
call_line worker (Get key) = worker_line worker (codes "get") (decimal key)

abbrev pub call_lines : List (ℕ × Call) → List (List ℕ)
call_lines [] = []
call_lines (c ∷ cs) = call_line c.0 c.1 ∷ call_lines cs

abbrev pub head_lines : ℕ → ℕ → List (List ℕ)
head_lines rows workers =
    codes "flit 1" ∷ codes "structure hash 256" ∷ codes "place adjacent" ∷ (codes "rows " ++ decimal rows) ∷ (codes "workers " ++ decimal workers) ∷ []

-- the layout with so many slots, and the calls on their lines, the first of them on line n
abbrev pub layout_with : ℕ → ℕ → ℕ → Layout
layout_with rows workers slots = record {
  kind = Hash;
  buckets = 256;
  rows = rows;
  slots = slots;
  workers = workers;
  limit = 2147483647;
  values = false;
}

abbrev pub lines_from : ℕ → List (ℕ × Call) → List ItemLine
lines_from n [] = []
lines_from n (c ∷ cs) = record { line = n; worker = c.0; item = item.Call c.1 } ∷ lines_from (suc n) cs

-- what such a trace tells
abbrev pub content_with : ℕ → ℕ → List (ℕ × Call) → Content
content_with rows workers calls = record {
  head = record { layout = layout_with rows workers (words_of (layout_with rows workers 0)); place = Adjacent };
  items = lines_from 6 calls;
  stops = replicate 64 None;
  turns = [];
  all_ahead = false;
  ahead = [];
  start = None;
}

-- what is so of each call that is made: its worker is there, its key is one, and an insert has the value 0
abbrev pub Fits : Call → Type 0
Fits (Insert key value) = (value ≡ 0) × (key ≤ 4294967292)
Fits (Remove key) = key ≤ 4294967292
Fits (Contains key) = key ≤ 4294967292
Fits (Get key) = ⊥

pub record IsMade (workers : ℕ) (c : ℕ × Call) : Type 0 where
  pub least : 1 ≤ c.0
  pub most : c.0 ≤ workers
  pub fits : Fits c.1

-- what the line of a call says
abbrev pub sentence_of : ℕ → Call → Sentence
sentence_of worker (Insert key value) = line.Insert worker key None
sentence_of worker (Remove key) = line.Remove worker key
sentence_of worker (Contains key) = line.Contains worker key
sentence_of worker (Get key) = line.Get worker key

call_says : (worker : ℕ) (call : Call) → worker ≤ 64 → Fits call → Says (call_line worker call) (sentence_of worker call)
call_says worker (Insert key value) in_it h = record { is = refl; small = (omega arith, omega (arith, h.1)) }
call_says worker (Remove key) in_it h = record { is = refl; small = (omega arith, omega arith) }
call_says worker (Contains key) in_it h = record { is = refl; small = (omega arith, omega arith) }
call_says worker (Get key) in_it h = absurd h

call_printed : (worker key : ℕ) (name : List ℕ) → worker ≤ 64 → key ≤ 4294967292 → are_printed name ≡ true → ArePrinted (worker_line worker name (decimal key))
call_printed worker key name in_it is_key name_is =
    let behind : ArePrinted (name ++ 32 ∷ decimal key) = printed-append name (32 ∷ decimal key) (tested name name_is)
    ((omega arith, omega arith), printed-decimal key (omega arith)) in
    printed-append (decimal worker) (32 ∷ (name ++ 32 ∷ decimal key)) (printed-decimal worker (omega arith)) ((omega arith, omega arith), behind)

pub calls_printed : (worker : ℕ) (call : Call) → worker ≤ 64 → Fits call → ArePrinted (call_line worker call)
calls_printed worker (Insert key value) in_it h = call_printed worker key (codes "insert") in_it h.1 refl
calls_printed worker (Remove key) in_it h = call_printed worker key (codes "remove") in_it h refl
calls_printed worker (Contains key) in_it h = call_printed worker key (codes "contains") in_it h refl
calls_printed worker (Get key) in_it h = absurd h

call_speaks : (worker : ℕ) (call : Call) → worker ≤ 64 → Fits call → is_silent (call_line worker call) ≡ false
call_speaks worker (Insert key value) in_it h = speaks_behind worker _ (omega arith)
call_speaks worker (Remove key) in_it h = speaks_behind worker _ (omega arith)
call_speaks worker (Contains key) in_it h = speaks_behind worker _ (omega arith)
call_speaks worker (Get key) in_it h = absurd h

-- a draft after the head, in which so many lines more may stand
pub record TakesCalls (d : Draft) : Type 0 where
  pub body : takes_body d.stage ≡ true
  pub open_yet : is_ended d.stage ≡ false
  pub plain : d.layout.values ≡ false
  pub few : d.layout.workers ≤ 64

line_goes : (d : Draft) (body worker right room : Bool) → body ≡ true → worker ≡ true → right ≡ true → room ≡ true →
    only_if (body && worker && right) (if room then Goes (with_line d 1) else IsPast bound.Calls) ≡ Goes (with_line d 1)
line_goes d body worker right room b w r m = λ i. only_if (b i && w i && r i) (if m i then Goes (with_line d 1) else IsPast bound.Calls)

is_le : (m n : ℕ) → m ≤ n → nat_le m n ≡ true
is_le m n h = grind (arith, nat_tests)

is_lt : (m n : ℕ) → m < n → nat_lt m n ≡ true
is_lt m n h = grind (arith, nat_tests)

both_true : (a b : Bool) → a ≡ true → b ≡ true → a && b ≡ true
both_true a b e f = λ i. e i && f i

worker_right : (d : Draft) (worker : ℕ) → 1 ≤ worker → worker ≤ d.layout.workers → is_worker d worker ≡ true
worker_right d worker least most = both_true _ _ (is_le 1 worker least) (is_le worker d.layout.workers most)

no_value : (values : Bool) → values ≡ false → is_value values None ≡ true
no_value values plain = ap (λ v. is_value v None) plain

call_goes : (d : Draft) (worker : ℕ) (call : Call) → TakesCalls d → IsMade d.layout.workers (worker, call) → d.lines < 1048576 →
    verdict d (sentence_of worker call) ≡ Goes (with_line d 1)
call_goes d worker (Insert key value) takes made room =
    line_goes d _ _ _ _ takes.body (worker_right d worker made.least made.most)
    (both_true _ _ (is_le key 4294967292 made.fits.1) (no_value d.layout.values takes.plain)) (is_lt d.lines 1048576 room)
call_goes d worker (Remove key) takes made room =
    line_goes d _ _ _ _ takes.body (worker_right d worker made.least made.most) (is_le key 4294967292 made.fits) (is_lt d.lines 1048576 room)
call_goes d worker (Contains key) takes made room =
    line_goes d _ _ _ _ takes.body (worker_right d worker made.least made.most) (is_le key 4294967292 made.fits) (is_lt d.lines 1048576 room)
call_goes d worker (Get key) takes made room = absurd made.fits

call_told : (l : Layout) (n worker : ℕ) (call : Call) (t : Contents) → Fits call →
    with_item t n worker (item.Call call) ≡ told_with l n (sentence_of worker call) t
call_told l n worker (Insert key value) t h = ap (λ v. with_item t n worker (item.Call (Insert key v))) h.0
call_told l n worker (Remove key) t h = refl
call_told l n worker (Contains key) t h = refl
call_told l n worker (Get key) t h = absurd h

call_read : (d : Draft) (t : Contents) (n worker : ℕ) (call : Call) → TakesCalls d → IsMade d.layout.workers (worker, call) → d.lines < 1048576 →
    IsLine n (record { draft = d; told = t }) (call_line worker call) (record { draft = with_line d 1; told = with_item t n worker (item.Call call) })
call_read d t n worker call takes made room =
    let in_it : worker ≤ 64 = omega (arith, made.most, takes.few) in (
      record { ascii = printed-ascii (call_line worker call) (calls_printed worker call in_it made.fits); open_yet = takes.open_yet },
      inr (record {
        speaks = call_speaks worker call in_it made.fits;
        sentence = sentence_of worker call;
        says = call_says worker call in_it made.fits;
        goes = call_goes d worker call takes made room;
        told = call_told d.layout n worker call t made.fits;
      }),
    )

-- the draft, what is told and the number of the next line, after the lines of calls
abbrev pub draft_after : Draft → List (ℕ × Call) → Draft
draft_after d [] = d
draft_after d (c ∷ cs) = draft_after (with_line d 1) cs

abbrev pub told_after : ℕ → List (ℕ × Call) → Contents → Contents
told_after n [] t = t
told_after n (c ∷ cs) t = told_after (suc n) cs (with_item t n c.0 (item.Call c.1))

abbrev pub line_after : ℕ → List (ℕ × Call) → ℕ
line_after n [] = n
line_after n (c ∷ cs) = line_after (suc n) cs

takes_more : (d : Draft) → TakesCalls d → TakesCalls (with_line d 1)
takes_more d takes = record { body = refl; open_yet = refl; plain = takes.plain; few = takes.few }

pub calls_read : (cs : List (ℕ × Call)) (d : Draft) (t : Contents) (n : ℕ) (lines : List (List ℕ)) (last : Reading) → TakesCalls d →
    AllByRecursion (IsMade d.layout.workers) cs → d.lines + length cs ≤ 1048576 →
    IsReadFrom (line_after n cs) (record { draft = draft_after d cs; told = told_after n cs t }) lines last →
    IsReadFrom n (record { draft = d; told = t }) (call_lines cs ++ lines) last
calls_read [] d t n lines last takes made room rest = rest
calls_read (c ∷ cs) d t n lines last takes made room rest = (
  record { draft = with_line d 1; told = with_item t n c.0 (item.Call c.1) },
  call_read d t n c.0 c.1 takes made.0 (omega arith),
  calls_read cs (with_line d 1) (with_item t n c.0 (item.Call c.1)) (suc n) lines last (takes_more d takes) made.1 (omega arith) rest,
)

-- what is the same after the calls as before them
takes_after : (cs : List (ℕ × Call)) (d : Draft) → TakesCalls d → TakesCalls (draft_after d cs)
takes_after [] d takes = takes
takes_after (c ∷ cs) d takes = takes_after cs (with_line d 1) (takes_more d takes)

layout_after : (cs : List (ℕ × Call)) (d : Draft) → (draft_after d cs).layout ≡ d.layout
layout_after [] d = refl
layout_after (c ∷ cs) d = layout_after cs (with_line d 1)

place_after : (cs : List (ℕ × Call)) (d : Draft) → (draft_after d cs).place ≡ d.place
place_after [] d = refl
place_after (c ∷ cs) d = place_after cs (with_line d 1)

stops_after : (cs : List (ℕ × Call)) (d : Draft) → (draft_after d cs).stops ≡ d.stops
stops_after [] d = refl
stops_after (c ∷ cs) d = stops_after cs (with_line d 1)

start_after : (cs : List (ℕ × Call)) (d : Draft) → (draft_after d cs).has_start ≡ d.has_start
start_after [] d = refl
start_after (c ∷ cs) d = start_after cs (with_line d 1)

items_after : (cs : List (ℕ × Call)) (n : ℕ) (t : Contents) → told_after n cs t ≡ record t { items = t.items ++ lines_from n cs }
items_after [] n t = λ i. record t { items = sym (append-nil t.items) i }
items_after (c ∷ cs) n t =
    let here : ItemLine = record { line = n; worker = c.0; item = item.Call c.1 } in
    items_after cs (suc n) (with_item t n c.0 (item.Call c.1))
    ∙ ap (λ items. record t { items = items }) (append_assoc t.items (here ∷ []) (lines_from (suc n) cs))

-- the head of the trace is read
abbrev head_draft : ℕ → ℕ → Draft
head_draft rows workers = record {
  stage = stage.AtVersions;
  layout = layout_with rows workers 0;
  place = Adjacent;
  has_start = false;
  start_values = false;
  told = 0;
  lines = 0;
  calls = 0;
  stops = replicate 64 None;
}

up_to_goes : (n most : ℕ) (bound : Bound) (d : Draft) → 1 ≤ n → n ≤ most → up_to n most bound d ≡ Goes d
up_to_goes n most bound d some few =
    let some_test : (n == 0) ≡ false = ne_eqb n 0 (omega arith) in
    let few_test : nat_le n most ≡ true = is_le n most few in
    λ i. if some_test i then IsBad else (if few_test i then Goes d else IsPast bound)

said : (n : ℕ) (d e : Draft) (text : List ℕ) (s : Sentence) → ArePrinted text → is_ended d.stage ≡ false → is_silent text ≡ false → Says text s →
    verdict d s ≡ Goes e → told_with d.layout n s nothing ≡ nothing → IsLine n (record { draft = d; told = nothing }) text
    (record { draft = e; told = nothing })
said n d e text s printed open_yet speaks says goes told = (
  record { ascii = printed-ascii text printed; open_yet = open_yet },
  inr (record { speaks = speaks; sentence = s; says = says; goes = goes; told = sym told }),
)

pub numbered : (words : List ℕ) (n : ℕ) → are_printed words ≡ true → n < 2 ^ 64 → ArePrinted (words ++ decimal n)
numbered words n h small = printed-append words (decimal n) (tested words h) (printed-decimal n small)

-- the drafts on the way
abbrev at_structure : Draft
at_structure = record blank { stage = stage.AtStructure }

abbrev at_place : Draft
at_place = record blank { stage = stage.AtPlace; layout = record blank.layout { kind = Hash; buckets = 256 } }

abbrev at_rows : Draft
at_rows = record at_place { stage = stage.AtRows }

abbrev at_workers : ℕ → Draft
at_workers rows = record at_rows { stage = stage.AtWorkers; layout = record at_rows.layout { rows = rows } }

flit_1 : codes "flit 1" ≡ codes "flit " ++ decimal 1
flit_1 = ap (λ digits. codes "flit " ++ digits) (sym (decimal_digit 1 (omega arith)))

buckets_256 : codes "structure hash 256" ≡ codes "structure hash " ++ decimal 256
buckets_256 =
    let two : decimal 2 ≡ codes "2" = decimal_digit 2 (omega arith) in
    let some : decimal 25 ≡ codes "25" = decimal_step 25 (omega arith) (omega arith) ∙ ap (λ digits. digits ++ 53 ∷ []) two in
    let all : decimal 256 ≡ codes "256" = decimal_step 256 (omega arith) (omega arith) ∙ ap (λ digits. digits ++ 54 ∷ []) some in
    ap (λ digits. codes "structure hash " ++ digits) (sym all)

head_read : (rows workers : ℕ) (lines : List (List ℕ)) (last : Reading) → 1 ≤ rows → rows ≤ 1048575 → 1 ≤ workers → workers ≤ 64 →
    IsReadFrom 6 (record { draft = head_draft rows workers; told = nothing }) lines last → IsReadFrom 1 beginning (head_lines rows workers ++ lines) last
head_read rows workers lines last some few one least rest = (
  record { draft = at_structure; told = nothing },
  said 1 blank at_structure (codes "flit 1") (line.Version 1) (tested (codes "flit 1") refl) refl refl (record { is = flit_1; small = omega arith }) refl refl,
  (
    record { draft = at_place; told = nothing },
    said 2 at_structure at_place (codes "structure hash 256") (line.Structure Hash 256) (tested (codes "structure hash 256") refl) refl refl
        (record { is = buckets_256; small = omega arith }) refl refl,
    (
      record { draft = at_rows; told = nothing },
      said 3 at_place at_rows (codes "place adjacent") line.Adjacent (tested (codes "place adjacent") refl) refl refl (record { is = refl; small = tt }) refl
          refl,
      (
        record { draft = at_workers rows; told = nothing },
        said 4 at_rows (at_workers rows) (codes "rows " ++ decimal rows) (line.Rows rows) (numbered (codes "rows ") rows refl (omega arith)) refl refl
            (record { is = refl; small = omega arith })
            (up_to_goes rows 1048575 bound.Rows (at_workers rows) some few) refl,
        (
          record { draft = head_draft rows workers; told = nothing },
          said 5 (at_workers rows) (head_draft rows workers) (codes "workers " ++ decimal workers) (line.Workers workers)
              (numbered (codes "workers ") workers refl (omega arith)) refl refl (record { is = refl; small = omega arith })
              (up_to_goes workers 64 bound.Workers (head_draft rows workers) one least) refl,
          rest,
        ),
      ),
    ),
  ),
)

-- `end` is read
end_read : (d : Draft) (t : Contents) (n : ℕ) → TakesCalls d → IsReadFrom n (record { draft = d; told = t }) (codes "end" ∷ [])
    (record { draft = record d { stage = stage.Ended }; told = t })
end_read d t n takes = (
  record { draft = record d { stage = stage.Ended }; told = t },
  (
    record { ascii = printed-ascii (codes "end") (tested (codes "end") refl); open_yet = takes.open_yet },
    inr (record {
      speaks = refl;
      sentence = line.End;
      says = record { is = refl; small = tt };
      goes = ap (λ b. only_if b (Goes (record d { stage = stage.Ended }))) takes.body;
      told = refl;
    }),
  ),
  refl,
)

-- all lines are read
abbrev last_reading : ℕ → ℕ → List (ℕ × Call) → Reading
last_reading rows workers calls = record {
  draft = record (draft_after (head_draft rows workers) calls) { stage = stage.Ended };
  told = told_after 6 calls nothing;
}

-- what is so of the numbers of such a trace
pub record AreNumbers (rows workers : ℕ) : Type 0 where
  pub least_row : 1 ≤ rows
  pub most_row : rows ≤ 1048575
  pub least_worker : 1 ≤ workers
  pub most_worker : workers ≤ 64

all_read : (rows workers : ℕ) (calls : List (ℕ × Call)) → AreNumbers rows workers → AllByRecursion (IsMade workers) calls → length calls ≤ 1048576 →
    IsReadFrom 1 beginning (head_lines rows workers ++ call_lines calls ++ codes "end" ∷ []) (last_reading rows workers calls)
all_read rows workers calls right made few =
    let start = head_draft rows workers in
    let last = last_reading rows workers calls in
    let takes : TakesCalls start = record { body = refl; open_yet = refl; plain = refl; few = right.most_worker } in
    let room : 0 + length calls ≤ 1048576 = omega arith in
    let end : IsReadFrom (line_after 6 calls) (record { draft = draft_after start calls; told = told_after 6 calls nothing }) (codes "end" ∷ []) last =
    end_read (draft_after start calls) (told_after 6 calls nothing) (line_after 6 calls) (takes_after calls start takes) in
    subst (λ (lines : List (List ℕ)). IsReadFrom 1 beginning lines last) (sym (append_assoc (head_lines rows workers) (call_lines calls) (codes "end" ∷ [])))
    (head_read rows workers (call_lines calls ++ codes "end" ∷ []) last right.least_row right.most_row right.least_worker right.most_worker
    (calls_read calls start nothing 6 (codes "end" ∷ []) last takes made room end))

-- what they tell
all_told : (rows workers : ℕ) (calls : List (ℕ × Call)) → content_with rows workers calls
    ≡ content_of (last_reading rows workers calls).draft (last_reading rows workers calls).told
all_told rows workers calls =
    let start = head_draft rows workers in
    let ended = record (draft_after start calls) { stage = stage.Ended } in
    let layout = layout_after calls start in
    let place = place_after calls start in
    let stops = stops_after calls start in
    let has_start = start_after calls start in
    sym (
    ap (content_of ended) (items_after calls 6 nothing)
    ∙ (λ i. record {
      head = record { layout = record (layout i) { slots = slots_of (place i) (words_of (layout i)) }; place = place i };
      items = lines_from 6 calls;
      stops = stops i;
      turns = [];
      all_ahead = false;
      ahead = [];
      start = if has_start i then Some [] else None;
    })
    )

-- a text of these lines is a trace of these calls
pub calls_trace : (rows workers : ℕ) (calls : List (ℕ × Call)) (text : List ℕ) → AreNumbers rows workers → AllByRecursion (IsMade workers) calls →
    length calls ≤ 1048576 → length text ≤ 268435456 → lines_of text ≡ head_lines rows workers ++ call_lines calls ++ codes "end" ∷ [] →
    IsTrace text (content_with rows workers calls)
calls_trace rows workers calls text right made few size is = record {
  size = size;
  last = last_reading rows workers calls;
  read = subst (λ (lines : List (List ℕ)). IsReadFrom 1 beginning lines (last_reading rows workers calls)) (sym is)
      (all_read rows workers calls right made few);
  ended = refl;
  is = all_told rows workers calls;
}
