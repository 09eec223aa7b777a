-- The lines and calls of a draft are those that were told.
use Rattle.std.proofs.Common.{◌≡◌, ℕ, nat_lt, Bool, true, false, List, [], ◌∷◌, ◌++◌, length, length-append, subst, ap, ◌∙◌, arith, refl}
use Rattle.std.proofs.lemmas.List.Elements.{filter-append}
use Rattle.flit_words.specs.declared.layouts.Kind.{Kind}
use Rattle.flit_words.specs.declared.layouts.Kind.TheVariants.{List as List_kind, Hash, Tree}
use Rattle.flit_model.specs.declared.calls.Item.{Item}
use Rattle.flit_trace.specs.declared.faults.Bound.TheVariants as bound
use Rattle.flit_trace.specs.declared.heads.Place.TheVariants as place
use Rattle.flit_trace.specs.declared.sentences.Sentence.{Sentence}
use Rattle.flit_trace.specs.declared.sentences.Sentence.TheVariants.{Version, Structure, Adjacent, Hashed, Packed, Lines, Rows, Workers, Versions, Start, Word, Begin, Insert, Remove, Contains, Get, Evict, Stop, Turn, Ahead, AheadAll, End}
use Rattle.flit_trace.specs.declared.stages.Stage.TheVariants.{AtWorkers, AtVersions, AtStart}
use Rattle.flit_trace.specs.declared.drafts.Draft.{Draft}
use Rattle.flit_trace.specs.Contents.{ItemLine, Contents, is_call, calls_of, with_item, told_with}
use Rattle.flit_trace.specs.Counts.{IsCounted}
use Rattle.flit_trace.specs.Drafts.{Goes, verdict, buckets_verdict, line_verdict, with_structure, with_place, with_line}
use Rattle.flit_trace.proofs.Goings.{went, only_if-goes, if_else-goes, up_to-goes}

same : (d e : Draft) (items : List ItemLine) → e.lines ≡ d.lines → e.calls ≡ d.calls → IsCounted d items → IsCounted e items
same d e items lines calls c = record { lines = lines ∙ c.lines; calls = calls ∙ c.calls }

abbrev pub one_if : Bool → ℕ
one_if true = 1
one_if false = 0

length-one : (b : Bool) (i : ItemLine) → is_call i.item ≡ b → length (calls_of (i ∷ [])) ≡ one_if b
length-one true i is = rw is refl
length-one false i is = rw is refl

more : (d e : Draft) (t : Contents) (n worker calls : ℕ) (right : Bool) (i : Item) (b : Bool) → is_call i ≡ b → calls ≡ one_if b → IsCounted d t.items →
    line_verdict d worker right calls ≡ Goes e → IsCounted e (with_item t n worker i).items
more d e t n worker calls right i b is one c goes =
    let w = if_else-goes (nat_lt d.lines 1048576) (with_line d calls) e bound.Calls (only_if-goes _ _ e goes).1 in
    let added : ItemLine = record { line = n; worker = worker; item = i } in
    subst (λ (x : Draft). IsCounted x (t.items ++ added ∷ [])) w.is (record {
      lines = omega (arith, c.lines, length-append t.items (added ∷ []));
      calls =
          let parts = filter-append (λ (x : ItemLine). is_call x.item) t.items (added ∷ []) in
          omega (arith, c.calls, one, ap length parts, length-append (calls_of t.items) (calls_of (added ∷ [])), length-one b added is);
    })

structure : (d e : Draft) (kind : Kind) (buckets : ℕ) (items : List ItemLine) → IsCounted d items → buckets_verdict d kind buckets ≡ Goes e → IsCounted e items
structure d e List_kind buckets items c goes = subst (λ (x : Draft). IsCounted x items) (went true _ e goes).is
    (same d (with_structure d List_kind 1) items refl refl c)
structure d e Hash buckets items c goes =
    let u = up_to-goes buckets 65536 bound.Buckets (with_structure d Hash buckets) e goes in
    subst (λ (x : Draft). IsCounted x items) u.is (same d (with_structure d Hash buckets) items refl refl c)
structure d e Tree buckets items c goes = subst (λ (x : Draft). IsCounted x items) (went true _ e goes).is (same d (with_structure d Tree 0) items refl refl c)

pub goes-counts : (n : ℕ) (d e : Draft) (s : Sentence) (t : Contents) → IsCounted d t.items → verdict d s ≡ Goes e →
    IsCounted e (told_with d.layout n s t).items
goes-counts n d e (Version number) t c goes = subst (λ (x : Draft). IsCounted x t.items) (went _ _ e goes).is (same d _ t.items refl refl c)
goes-counts n d e (Structure kind buckets) t c goes = structure d e kind buckets t.items c (only_if-goes _ _ e goes).1
goes-counts n d e Adjacent t c goes = subst (λ (x : Draft). IsCounted x t.items) (went _ _ e goes).is (same d _ t.items refl refl c)
goes-counts n d e (Hashed slots) t c goes =
    let u = up_to-goes slots 1048576 bound.Slots (with_place d (place.Hashed slots)) e (only_if-goes _ _ e goes).1 in
    subst (λ (x : Draft). IsCounted x t.items) u.is (same d (with_place d (place.Hashed slots)) t.items refl refl c)
goes-counts n d e Packed t c goes = subst (λ (x : Draft). IsCounted x t.items) (went _ _ e goes).is (same d _ t.items refl refl c)
goes-counts n d e Lines t c goes = subst (λ (x : Draft). IsCounted x t.items) (went _ _ e goes).is (same d _ t.items refl refl c)
goes-counts n d e (Rows rows) t c goes =
    let next : Draft = record d { stage = AtWorkers; layout = record d.layout { rows = rows } } in
    let u = up_to-goes rows 1048575 bound.Rows next e (only_if-goes _ _ e goes).1 in
    subst (λ (x : Draft). IsCounted x t.items) u.is (same d next t.items refl refl c)
goes-counts n d e (Workers workers) t c goes =
    let next : Draft = record d { stage = AtVersions; layout = record d.layout { workers = workers } } in
    let u = up_to-goes workers 64 bound.Workers next e (only_if-goes _ _ e goes).1 in
    subst (λ (x : Draft). IsCounted x t.items) u.is (same d next t.items refl refl c)
goes-counts n d e (Versions limit) t c goes =
    let next : Draft = record d { stage = AtStart; layout = record d.layout { limit = limit } } in
    let u = up_to-goes limit 2147483647 bound.Versions next e (only_if-goes _ _ e goes).1 in
    subst (λ (x : Draft). IsCounted x t.items) u.is (same d next t.items refl refl c)
goes-counts n d e (Start version) t c goes = subst (λ (x : Draft). IsCounted x t.items) (went _ _ e goes).is (same d _ t.items refl refl c)
goes-counts n d e (Word word raw) t c goes = subst (λ (x : Draft). IsCounted x t.items) (went _ _ e goes).is (same d _ t.items refl refl c)
goes-counts n d e Begin t c goes = subst (λ (x : Draft). IsCounted x t.items) (went _ _ e goes).is (same d _ t.items refl refl c)
goes-counts n d e (Insert worker key value) t c goes = more d e t n worker 1 _ _ true refl refl c goes
goes-counts n d e (Remove worker key) t c goes = more d e t n worker 1 _ _ true refl refl c goes
goes-counts n d e (Contains worker key) t c goes = more d e t n worker 1 _ _ true refl refl c goes
goes-counts n d e (Get worker key) t c goes = more d e t n worker 1 _ _ true refl refl c goes
goes-counts n d e (Evict worker word) t c goes = more d e t n worker 0 _ _ false refl refl c goes
goes-counts n d e (Stop worker events) t c goes = subst (λ (x : Draft). IsCounted x t.items) (went _ _ e goes).is (same d _ t.items refl refl c)
goes-counts n d e (Turn worker events) t c goes = subst (λ (x : Draft). IsCounted x t.items) (went _ _ e goes).is (same d _ t.items refl refl c)
goes-counts n d e (Ahead word) t c goes = subst (λ (x : Draft). IsCounted x t.items) (went _ _ e goes).is (same d _ t.items refl refl c)
goes-counts n d e AheadAll t c goes = subst (λ (x : Draft). IsCounted x t.items) (went _ _ e goes).is (same d _ t.items refl refl c)
goes-counts n d e End t c goes = subst (λ (x : Draft). IsCounted x t.items) (went _ _ e goes).is (same d _ t.items refl refl c)
