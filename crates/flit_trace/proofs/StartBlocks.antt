-- The words of the start block, as far as it was read.
use Rattle.std.proofs.Common.{◌≡◌, ℕ, ◌+◌, ◌<◌, ◌≤◌, nat_lt, Bool, true, false, List, [], ◌∷◌, ◌++◌, length, length-append, subst, sym, ap, ◌∙◌, arith, refl}
use Rattle.std.proofs.lemmas.Bool.{ltb-true, leb-true}
use Rattle.flit_words.specs.declared.layouts.Kind.{Kind}
use Rattle.flit_words.specs.declared.layouts.Kind.TheVariants.{List as List_kind, Hash, Tree}
use Rattle.flit_words.specs.declared.layouts.Layout.{Layout}
use Rattle.flit_words.specs.Layouts.{words_of}
use Rattle.flit_trace.specs.declared.faults.Bound.TheVariants as bound
use Rattle.flit_trace.specs.declared.heads.Place.TheVariants as place
use Rattle.flit_trace.specs.declared.sentences.Sentence.{Sentence}
use Rattle.flit_trace.specs.declared.sentences.Sentence.TheVariants.{Version, Structure, Adjacent, Hashed, Packed, Lines, Rows, Workers, Versions, Start, Word, Begin, Insert, Remove, Contains, Get, Evict, Stop, Turn, Ahead, AheadAll, End}
use Rattle.flit_trace.specs.declared.stages.Stage.{Stage}
use Rattle.flit_trace.specs.declared.stages.Stage.TheVariants.{AtVersion, AtStructure, AtPlace, AtRows, AtWorkers, AtVersions, AtStart, InBlock, InBody}
use Rattle.flit_trace.specs.declared.drafts.Draft.{Draft}
use Rattle.flit_trace.specs.Contents.{Contents, filled, told_with}
use Rattle.flit_trace.specs.Drafts.{Goes, verdict, buckets_verdict, line_verdict, with_structure, with_place, with_line, start_layout, takes_version, takes_structure, takes_place, takes_rows, takes_workers, takes_versions, takes_start, is_in_block, takes_body, is_early}
use Rattle.flit_trace.proofs.Goings.{went, only_if-goes, if_else-goes, both, up_to-goes}
use Rattle.flit_trace.proofs.Filling.{length-filled}

pub version_early : (s : Stage) → takes_version s ≡ true → is_early s ≡ true
version_early AtVersion h = refl
version_early _ h = absurd (cc)

pub structure_early : (s : Stage) → takes_structure s ≡ true → is_early s ≡ true
structure_early AtStructure h = refl
structure_early _ h = absurd (cc)

pub place_early : (s : Stage) → takes_place s ≡ true → is_early s ≡ true
place_early AtPlace h = refl
place_early _ h = absurd (cc)

pub rows_early : (s : Stage) → takes_rows s ≡ true → is_early s ≡ true
rows_early AtPlace h = refl
rows_early AtRows h = refl
rows_early _ h = absurd (cc)

pub workers_early : (s : Stage) → takes_workers s ≡ true → is_early s ≡ true
workers_early AtWorkers h = refl
workers_early _ h = absurd (cc)

pub versions_early : (s : Stage) → takes_versions s ≡ true → is_early s ≡ true
versions_early AtVersions h = refl
versions_early _ h = absurd (cc)

pub start_early : (s : Stage) → takes_start s ≡ true → is_early s ≡ true
start_early AtVersions h = refl
start_early AtStart h = refl
start_early _ h = absurd (cc)

body_out : (s : Stage) → takes_body s ≡ true → is_in_block s ≡ false
body_out AtVersions h = refl
body_out AtStart h = refl
body_out InBody h = refl
body_out _ h = absurd (cc)

pub block_late : (s : Stage) → is_in_block s ≡ true → is_early s ≡ false
block_late InBlock h = refl
block_late _ h = absurd (cc)

pub record IsWithin (d : Draft) (words : List ℕ) : Type 0 where
  pub has : d.has_start ≡ true
  pub count : length words ≡ d.told
  pub few : d.told ≤ words_of (start_layout d)

pub record IsStartSoFar (d : Draft) (words : List ℕ) : Type 0 where
  pub early : is_early d.stage ≡ true → d.has_start ≡ false
  pub none : d.has_start ≡ false → (words ≡ []) × (d.told ≡ 0)
  pub valued : d.has_start ≡ true → d.layout.values ≡ true
  pub within : is_in_block d.stage ≡ true → IsWithin d words
  pub whole : d.has_start ≡ true → is_in_block d.stage ≡ false → length words ≡ words_of d.layout

clash : {P : Type 0} (b : Bool) → b ≡ true → b ≡ false → P
clash b holds fails = absurd (cc)

in_head : (d e : Draft) (words : List ℕ) → is_early d.stage ≡ true → is_in_block e.stage ≡ false → e.has_start ≡ d.has_start → e.told ≡ d.told →
    IsStartSoFar d words → IsStartSoFar e words
in_head d e words early out has told b =
    let no : e.has_start ≡ false = has ∙ b.early early in
    record {
      early = λ _. no;
      none = λ _. let n = b.none (b.early early) in (n.0, told ∙ n.1);
      valued = λ h. clash e.has_start h no;
      within = λ h. clash (is_in_block e.stage) h out;
      whole = λ h _. clash e.has_start h no;
    }

in_body : (d e : Draft) (words : List ℕ) → takes_body d.stage ≡ true → is_early e.stage ≡ false → is_in_block e.stage ≡ false → e.has_start ≡ d.has_start →
    e.told ≡ d.told → e.layout ≡ d.layout → IsStartSoFar d words → IsStartSoFar e words
in_body d e words body late out has told layout b = record {
  early = λ h. clash (is_early e.stage) h late;
  none = λ h. let n = b.none (sym has ∙ h) in (n.0, told ∙ n.1);
  valued = λ h. rw layout (b.valued (sym has ∙ h));
  within = λ h. clash (is_in_block e.stage) h out;
  whole = λ h _. rw layout (b.whole (sym has ∙ h) (body_out d.stage body));
}

structure : (d e : Draft) (kind : Kind) (buckets : ℕ) (words : List ℕ) → is_early d.stage ≡ true → IsStartSoFar d words →
    buckets_verdict d kind buckets ≡ Goes e → IsStartSoFar e words
structure d e List_kind buckets words early b goes = subst (λ (x : Draft). IsStartSoFar x words) (went true _ e goes).is
    (in_head d (with_structure d List_kind 1) words early refl refl refl b)
structure d e Hash buckets words early b goes =
    let u = up_to-goes buckets 65536 bound.Buckets (with_structure d Hash buckets) e goes in
    subst (λ (x : Draft). IsStartSoFar x words) u.is (in_head d (with_structure d Hash buckets) words early refl refl refl b)
structure d e Tree buckets words early b goes = subst (λ (x : Draft). IsStartSoFar x words) (went true _ e goes).is
    (in_head d (with_structure d Tree 0) words early refl refl refl b)

line : (d e : Draft) (worker : ℕ) (right : Bool) (calls : ℕ) (words : List ℕ) → IsStartSoFar d words → line_verdict d worker right calls ≡ Goes e →
    IsStartSoFar e words
line d e worker right calls words b goes =
    let h = only_if-goes _ _ e goes in
    let w = if_else-goes (nat_lt d.lines 1048576) (with_line d calls) e bound.Calls h.1 in
    subst (λ (x : Draft). IsStartSoFar x words) w.is (in_body d (with_line d calls) words (both _ _ (both _ _ h.0).0).0 refl refl refl refl refl b)

started : (d : Draft) (values : Bool) (words : List ℕ) → takes_start d.stage ≡ true → d.layout.values ≡ true → IsStartSoFar d words →
    IsStartSoFar (record d { stage = InBlock; has_start = true; start_values = values }) words
started d values words takes valued b =
    let n = b.none (b.early (start_early d.stage takes)) in
    record {
      early = λ h. absurd (cc);
      none = λ h. absurd (cc);
      valued = λ _. valued;
      within = λ _. record { has = refl; count = ap length n.0 ∙ sym n.1; few = omega (arith, n.1) };
      whole = λ _ h. absurd (cc);
    }

told_word : (d : Draft) (at raw : ℕ) (words : List ℕ) → is_in_block d.stage ≡ true → d.told ≤ at → at < words_of (start_layout d) → IsStartSoFar d words →
    IsStartSoFar (record d { told = at + 1 }) (filled d.layout.kind at words ++ raw ∷ [])
told_word d at raw words inside order below b =
    let w = b.within inside in
    record {
      early = λ h. clash (is_early d.stage) h (block_late d.stage inside);
      none = λ h. clash d.has_start w.has h;
      valued = b.valued;
      within = λ _. record {
        has = w.has;
        count = omega (arith, length-append (filled d.layout.kind at words) (raw ∷ []), length-filled d.layout.kind at words (omega (arith, w.count)));
        few = omega arith;
      };
      whole = λ _ h. clash (is_in_block d.stage) inside h;
    }

fewer : (l : Layout) (values : Bool) → l.values ≡ true → words_of (record l { values = values }) ≤ words_of l
fewer l true valued = rw valued (omega arith)
fewer l false valued = rw valued (omega arith)

begun : (d : Draft) (words : List ℕ) → is_in_block d.stage ≡ true → IsStartSoFar d words →
    IsStartSoFar (record d { stage = InBody }) (filled d.layout.kind (words_of d.layout) words)
begun d words inside b =
    let w = b.within inside in
    let valued = b.valued w.has in
    record {
      early = λ h. absurd (cc);
      none = λ h. clash d.has_start w.has h;
      valued = b.valued;
      within = λ h. absurd (cc);
      whole = λ _ _. length-filled d.layout.kind (words_of d.layout) words (omega (arith, w.count, w.few, fewer d.layout d.start_values valued));
    }

pub goes-start : (n : ℕ) (d e : Draft) (s : Sentence) (t : Contents) → IsStartSoFar d t.words → verdict d s ≡ Goes e →
    IsStartSoFar e (told_with d.layout n s t).words
goes-start n d e (Version number) t b goes =
    let w = went _ _ e goes in
    subst (λ (x : Draft). IsStartSoFar x t.words) w.is (in_head d _ t.words (version_early d.stage (both _ _ w.holds).0) refl refl refl b)
goes-start n d e (Structure kind buckets) t b goes =
    let h = only_if-goes _ _ e goes in
    structure d e kind buckets t.words (structure_early d.stage h.0) b h.1
goes-start n d e Adjacent t b goes =
    let w = went _ _ e goes in
    subst (λ (x : Draft). IsStartSoFar x t.words) w.is (in_head d _ t.words (place_early d.stage w.holds) refl refl refl b)
goes-start n d e (Hashed slots) t b goes =
    let h = only_if-goes _ _ e goes in
    let u = up_to-goes slots 1048576 bound.Slots (with_place d (place.Hashed slots)) e h.1 in
    subst (λ (x : Draft). IsStartSoFar x t.words) u.is (in_head d (with_place d (place.Hashed slots)) t.words (place_early d.stage h.0) refl refl refl b)
goes-start n d e Packed t b goes =
    let w = went _ _ e goes in
    subst (λ (x : Draft). IsStartSoFar x t.words) w.is (in_head d _ t.words (place_early d.stage w.holds) refl refl refl b)
goes-start n d e Lines t b goes =
    let w = went _ _ e goes in
    subst (λ (x : Draft). IsStartSoFar x t.words) w.is (in_head d _ t.words (place_early d.stage w.holds) refl refl refl b)
goes-start n d e (Rows rows) t b goes =
    let h = only_if-goes _ _ e goes in
    let next : Draft = record d { stage = AtWorkers; layout = record d.layout { rows = rows } } in
    let u = up_to-goes rows 1048575 bound.Rows next e h.1 in
    subst (λ (x : Draft). IsStartSoFar x t.words) u.is (in_head d next t.words (rows_early d.stage h.0) refl refl refl b)
goes-start n d e (Workers workers) t b goes =
    let h = only_if-goes _ _ e goes in
    let next : Draft = record d { stage = AtVersions; layout = record d.layout { workers = workers } } in
    let u = up_to-goes workers 64 bound.Workers next e h.1 in
    subst (λ (x : Draft). IsStartSoFar x t.words) u.is (in_head d next t.words (workers_early d.stage h.0) refl refl refl b)
goes-start n d e (Versions limit) t b goes =
    let h = only_if-goes _ _ e goes in
    let next : Draft = record d { stage = AtStart; layout = record d.layout { limit = limit } } in
    let u = up_to-goes limit 2147483647 bound.Versions next e h.1 in
    subst (λ (x : Draft). IsStartSoFar x t.words) u.is (in_head d next t.words (versions_early d.stage h.0) refl refl refl b)
goes-start n d e (Start version) t b goes =
    let w = went _ _ e goes in
    let tests = both _ _ (both _ _ w.holds).0 in
    subst (λ (x : Draft). IsStartSoFar x t.words) w.is (started d _ t.words tests.0 tests.1 b)
goes-start n d e (Word at raw) t b goes =
    let w = went _ _ e goes in
    let three = both _ _ (both _ _ w.holds).0 in
    let two = both _ _ three.0 in
    subst (λ (x : Draft). IsStartSoFar x (filled d.layout.kind at t.words ++ raw ∷ [])) w.is
    (told_word d at raw t.words two.0 (leb-true d.told at two.1) (ltb-true at (words_of (start_layout d)) three.1) b)
goes-start n d e Begin t b goes =
    let w = went _ _ e goes in
    subst (λ (x : Draft). IsStartSoFar x (filled d.layout.kind (words_of d.layout) t.words)) w.is (begun d t.words w.holds b)
goes-start n d e (Insert worker key value) t b goes = line d e worker _ 1 t.words b goes
goes-start n d e (Remove worker key) t b goes = line d e worker _ 1 t.words b goes
goes-start n d e (Contains worker key) t b goes = line d e worker _ 1 t.words b goes
goes-start n d e (Get worker key) t b goes = line d e worker _ 1 t.words b goes
goes-start n d e (Evict worker at) t b goes = line d e worker _ 0 t.words b goes
goes-start n d e (Stop worker events) t b goes =
    let w = went _ _ e goes in
    subst (λ (x : Draft). IsStartSoFar x t.words) w.is (in_body d _ t.words (both _ _ (both _ _ w.holds).0).0 refl refl refl refl refl b)
goes-start n d e (Turn worker events) t b goes =
    let w = went _ _ e goes in
    subst (λ (x : Draft). IsStartSoFar x t.words) w.is (in_body d _ t.words (both _ _ (both _ _ w.holds).0).0 refl refl refl refl refl b)
goes-start n d e (Ahead at) t b goes =
    let w = went _ _ e goes in
    subst (λ (x : Draft). IsStartSoFar x t.words) w.is (in_body d _ t.words (both _ _ w.holds).0 refl refl refl refl refl b)
goes-start n d e AheadAll t b goes =
    let w = went _ _ e goes in
    subst (λ (x : Draft). IsStartSoFar x t.words) w.is (in_body d _ t.words w.holds refl refl refl refl refl b)
goes-start n d e End t b goes =
    let w = went _ _ e goes in
    subst (λ (x : Draft). IsStartSoFar x t.words) w.is (in_body d _ t.words w.holds refl refl refl refl refl b)
