-- The call, evict and turn lines of a trace are right for its layout, and the numbers of its call and evict lines rise.
use Rattle.std.proofs.Common.{◌≡◌, ℕ, suc, ◌<◌, ◌≤◌, nat_lt, Bool, true, false, Option, Some, None, List, [], ◌∷◌, ◌++◌, refl, subst, arith}
use Rattle.std.specs.List.{AllByRecursion}
use Rattle.std.proofs.lemmas.Bool.{ltb-true, leb-true}
use Rattle.flit_words.specs.declared.layouts.Kind.{Kind}
use Rattle.flit_words.specs.declared.layouts.Kind.TheVariants.{List as List_kind, Hash, Tree}
use Rattle.flit_words.specs.declared.layouts.Layout.{Layout}
use Rattle.flit_words.specs.Layouts.{words_of}
use Rattle.flit_model.specs.Lists.{IsRisingFrom}
use Rattle.flit_model.specs.declared.calls.Item.{Item}
use Rattle.flit_trace.specs.declared.faults.Bound.TheVariants as bound
use Rattle.flit_trace.specs.declared.sentences.Sentence.{Sentence}
use Rattle.flit_trace.specs.declared.sentences.Sentence.TheVariants.{Version, Structure, Adjacent, Hashed, Packed, Lines, Rows, Workers, Versions, Start, Word, Begin, Insert, Remove, Contains, Get, Evict, Stop, Turn, Ahead, AheadAll, End}
use Rattle.flit_trace.specs.declared.drafts.Draft.{Draft}
use Rattle.flit_trace.specs.Contents.{ItemLine, Contents, value_or_0, with_item, told_with}
use Rattle.flit_trace.specs.Drafts.{Goes, verdict, buckets_verdict, line_verdict, with_line, is_early, is_key, is_value, IsSound}
use Rattle.flit_trace.specs.Rights.{IsRightItem, IsRightLine, IsRightTurn, lines_of_items}
use Rattle.flit_trace.proofs.Goings.{went, only_if-goes, if_else-goes, both}
use Rattle.flit_trace.proofs.Numbers.{worker_within, line_right}
use Rattle.flit_trace.proofs.StartBlocks.{version_early, structure_early, place_early, rows_early, workers_early, versions_early, block_late}

-- what the lines so far tell is right for the layout, and none came before the head was whole
pub record AreSoFar {X : Type 0} (P : Layout → X → Type 0) (d : Draft) (xs : List X) : Type 0 where
  pub none : is_early d.stage ≡ true → xs ≡ []
  pub right : AllByRecursion (P d.layout) xs

-- the call and evict lines so far, and the turn lines
abbrev pub AreRightSoFar : Draft → List ItemLine → Type 0
AreRightSoFar d items = AreSoFar IsRightLine d items

abbrev pub AreTurnsSoFar : Draft → List (ℕ × ℕ) → Type 0
AreTurnsSoFar d turns = AreSoFar IsRightTurn d turns

clash : {P : Type 0} (b : Bool) → b ≡ true → b ≡ false → P
clash b holds fails = absurd (cc)

all_with : {X : Type 0} (P : X → Type 0) (xs : List X) (x : X) → AllByRecursion P xs → P x → AllByRecursion P (xs ++ x ∷ [])
all_with P [] x all here = (here, tt)
all_with P (y ∷ ys) x all here = (all.0, all_with P ys x all.1 here)

module _ {X : Type 0} (P : Layout → X → Type 0) where
  in_head : (d e : Draft) (xs : List X) → is_early d.stage ≡ true → AreSoFar P d xs → AreSoFar P e xs
  in_head d e xs early a = record {
    none = λ _. a.none early;
    right = rw (a.none early) tt;
  }

  -- the layout and what was told stay as they are behind the head
  stays : (d e : Draft) (xs : List X) → is_early e.stage ≡ false → e.layout ≡ d.layout → AreSoFar P d xs → AreSoFar P e xs
  stays d e xs late layout a = record {
    none = λ h. clash (is_early e.stage) h late;
    right = rw layout a.right;
  }

  structure : (d e : Draft) (kind : Kind) (buckets : ℕ) (xs : List X) → is_early d.stage ≡ true → AreSoFar P d xs →
      buckets_verdict d kind buckets ≡ Goes e → AreSoFar P e xs
  structure d e List_kind buckets xs early a goes = in_head d e xs early a
  structure d e Hash buckets xs early a goes = in_head d e xs early a
  structure d e Tree buckets xs early a goes = in_head d e xs early a

  on_line : (d e : Draft) (worker calls : ℕ) (right : Bool) (xs : List X) → AreSoFar P d xs → line_verdict d worker right calls ≡ Goes e → AreSoFar P e xs
  on_line d e worker calls right xs a goes =
      let w = if_else-goes (nat_lt d.lines 1048576) (with_line d calls) e bound.Calls (only_if-goes _ _ e goes).1 in
      subst (λ (x : Draft). AreSoFar P x xs) w.is (stays d _ xs refl refl a)

  -- a line that tells nothing more of them
  goes-same : (d e : Draft) (s : Sentence) (xs : List X) → AreSoFar P d xs → verdict d s ≡ Goes e → AreSoFar P e xs
  goes-same d e (Version number) xs a goes = in_head d e xs (version_early d.stage (both _ _ (went _ _ e goes).holds).0) a
  goes-same d e (Structure kind buckets) xs a goes =
      let h = only_if-goes _ _ e goes in
      structure d e kind buckets xs (structure_early d.stage h.0) a h.1
  goes-same d e Adjacent xs a goes = in_head d e xs (place_early d.stage (went _ _ e goes).holds) a
  goes-same d e (Hashed slots) xs a goes = in_head d e xs (place_early d.stage (only_if-goes _ _ e goes).0) a
  goes-same d e Packed xs a goes = in_head d e xs (place_early d.stage (went _ _ e goes).holds) a
  goes-same d e Lines xs a goes = in_head d e xs (place_early d.stage (went _ _ e goes).holds) a
  goes-same d e (Rows rows) xs a goes = in_head d e xs (rows_early d.stage (only_if-goes _ _ e goes).0) a
  goes-same d e (Workers workers) xs a goes = in_head d e xs (workers_early d.stage (only_if-goes _ _ e goes).0) a
  goes-same d e (Versions limit) xs a goes = in_head d e xs (versions_early d.stage (only_if-goes _ _ e goes).0) a
  goes-same d e (Start version) xs a goes = subst (λ (x : Draft). AreSoFar P x xs) (went _ _ e goes).is (stays d _ xs refl refl a)
  goes-same d e (Word word raw) xs a goes =
      let w = went _ _ e goes in
      let inside = (both _ _ (both _ _ (both _ _ w.holds).0).0).0 in
      subst (λ (x : Draft). AreSoFar P x xs) w.is (stays d _ xs (block_late d.stage inside) refl a)
  goes-same d e Begin xs a goes = subst (λ (x : Draft). AreSoFar P x xs) (went _ _ e goes).is (stays d _ xs refl refl a)
  goes-same d e (Insert worker key value) xs a goes = on_line d e worker 1 _ xs a goes
  goes-same d e (Remove worker key) xs a goes = on_line d e worker 1 _ xs a goes
  goes-same d e (Contains worker key) xs a goes = on_line d e worker 1 _ xs a goes
  goes-same d e (Get worker key) xs a goes = on_line d e worker 1 _ xs a goes
  goes-same d e (Evict worker word) xs a goes = on_line d e worker 0 _ xs a goes
  goes-same d e (Stop worker events) xs a goes = subst (λ (x : Draft). AreSoFar P x xs) (went _ _ e goes).is (stays d _ xs refl refl a)
  goes-same d e (Turn worker events) xs a goes = subst (λ (x : Draft). AreSoFar P x xs) (went _ _ e goes).is (stays d _ xs refl refl a)
  goes-same d e (Ahead word) xs a goes = subst (λ (x : Draft). AreSoFar P x xs) (went _ _ e goes).is (stays d _ xs refl refl a)
  goes-same d e AheadAll xs a goes = subst (λ (x : Draft). AreSoFar P x xs) (went _ _ e goes).is (stays d _ xs refl refl a)
  goes-same d e End xs a goes = subst (λ (x : Draft). AreSoFar P x xs) (went _ _ e goes).is (stays d _ xs refl refl a)

with_one : (d e : Draft) (t : Contents) (n worker calls : ℕ) (right : Bool) (i : Item) → IsSound d → (right ≡ true → IsRightItem d.layout i) →
    AreRightSoFar d t.items → line_verdict d worker right calls ≡ Goes e → AreRightSoFar e (with_item t n worker i).items
with_one d e t n worker calls right i s is_right a goes =
    let r = line_right d e worker right calls s goes in
    let w = if_else-goes (nat_lt d.lines 1048576) (with_line d calls) e bound.Calls (only_if-goes _ _ e goes).1 in
    let added : ItemLine = record { line = n; worker = worker; item = i } in
    subst (λ (x : Draft). AreRightSoFar x (t.items ++ added ∷ [])) w.is (record {
      none = λ h. absurd (cc);
      right = all_with (IsRightLine d.layout) t.items added a.right (r.one.least, r.one.most, is_right r.right);
    })

insert_right : (values : Bool) (value : Option ℕ) → is_value values value ≡ true → (value_or_0 value ≤ 4294967295) × (values ≡ false → value_or_0 value ≡ 0)
insert_right true (Some v) holds = (leb-true v 4294967295 holds, λ h. absurd (cc))
insert_right true None holds = absurd (cc)
insert_right false (Some v) holds = absurd (cc)
insert_right false None holds = (omega arith, λ _. refl)

key_right : (key : ℕ) → is_key key ≡ true → key ≤ 4294967292
key_right key holds = leb-true key 4294967292 holds

pub goes-right : (n : ℕ) (d e : Draft) (s : Sentence) (t : Contents) → IsSound d → AreRightSoFar d t.items → verdict d s ≡ Goes e →
    AreRightSoFar e (told_with d.layout n s t).items
goes-right n d e (Insert worker key value) t s a goes =
    with_one d e t n worker 1 _ _ s (λ h. let b = both _ _ h in let v = insert_right d.layout.values value b.1 in (key_right key b.0, v.0, v.1)) a goes
goes-right n d e (Remove worker key) t s a goes = with_one d e t n worker 1 _ _ s (λ h. key_right key h) a goes
goes-right n d e (Contains worker key) t s a goes = with_one d e t n worker 1 _ _ s (λ h. key_right key h) a goes
goes-right n d e (Get worker key) t s a goes = with_one d e t n worker 1 _ _ s (λ h. let b = both _ _ h in (key_right key b.1, b.0)) a goes
goes-right n d e (Evict worker word) t s a goes = with_one d e t n worker 0 _ _ s (λ h. ltb-true word (words_of d.layout) h) a goes
goes-right n d e (Version number) t s a goes = goes-same IsRightLine d e (Version number) t.items a goes
goes-right n d e (Structure kind buckets) t s a goes = goes-same IsRightLine d e (Structure kind buckets) t.items a goes
goes-right n d e Adjacent t s a goes = goes-same IsRightLine d e Adjacent t.items a goes
goes-right n d e (Hashed slots) t s a goes = goes-same IsRightLine d e (Hashed slots) t.items a goes
goes-right n d e Packed t s a goes = goes-same IsRightLine d e Packed t.items a goes
goes-right n d e Lines t s a goes = goes-same IsRightLine d e Lines t.items a goes
goes-right n d e (Rows rows) t s a goes = goes-same IsRightLine d e (Rows rows) t.items a goes
goes-right n d e (Workers workers) t s a goes = goes-same IsRightLine d e (Workers workers) t.items a goes
goes-right n d e (Versions limit) t s a goes = goes-same IsRightLine d e (Versions limit) t.items a goes
goes-right n d e (Start version) t s a goes = goes-same IsRightLine d e (Start version) t.items a goes
goes-right n d e (Word word raw) t s a goes = goes-same IsRightLine d e (Word word raw) t.items a goes
goes-right n d e Begin t s a goes = goes-same IsRightLine d e Begin t.items a goes
goes-right n d e (Stop worker events) t s a goes = goes-same IsRightLine d e (Stop worker events) t.items a goes
goes-right n d e (Turn worker events) t s a goes = goes-same IsRightLine d e (Turn worker events) t.items a goes
goes-right n d e (Ahead word) t s a goes = goes-same IsRightLine d e (Ahead word) t.items a goes
goes-right n d e AheadAll t s a goes = goes-same IsRightLine d e AheadAll t.items a goes
goes-right n d e End t s a goes = goes-same IsRightLine d e End t.items a goes

pub goes-turns : (n : ℕ) (d e : Draft) (s : Sentence) (t : Contents) → IsSound d → AreTurnsSoFar d t.turns → verdict d s ≡ Goes e →
    AreTurnsSoFar e (told_with d.layout n s t).turns
goes-turns n d e (Turn worker events) t s a goes =
    let w = went _ _ e goes in
    let one = worker_within d worker s (both _ _ (both _ _ w.holds).0).1 in
    subst (λ (x : Draft). AreTurnsSoFar x (t.turns ++ (worker, events) ∷ [])) w.is (record {
      none = λ h. absurd (cc);
      right = all_with (IsRightTurn d.layout) t.turns (worker, events) a.right (one.least, one.most);
    })
goes-turns n d e (Version number) t s a goes = goes-same IsRightTurn d e (Version number) t.turns a goes
goes-turns n d e (Structure kind buckets) t s a goes = goes-same IsRightTurn d e (Structure kind buckets) t.turns a goes
goes-turns n d e Adjacent t s a goes = goes-same IsRightTurn d e Adjacent t.turns a goes
goes-turns n d e (Hashed slots) t s a goes = goes-same IsRightTurn d e (Hashed slots) t.turns a goes
goes-turns n d e Packed t s a goes = goes-same IsRightTurn d e Packed t.turns a goes
goes-turns n d e Lines t s a goes = goes-same IsRightTurn d e Lines t.turns a goes
goes-turns n d e (Rows rows) t s a goes = goes-same IsRightTurn d e (Rows rows) t.turns a goes
goes-turns n d e (Workers workers) t s a goes = goes-same IsRightTurn d e (Workers workers) t.turns a goes
goes-turns n d e (Versions limit) t s a goes = goes-same IsRightTurn d e (Versions limit) t.turns a goes
goes-turns n d e (Start version) t s a goes = goes-same IsRightTurn d e (Start version) t.turns a goes
goes-turns n d e (Word word raw) t s a goes = goes-same IsRightTurn d e (Word word raw) t.turns a goes
goes-turns n d e Begin t s a goes = goes-same IsRightTurn d e Begin t.turns a goes
goes-turns n d e (Stop worker events) t s a goes = goes-same IsRightTurn d e (Stop worker events) t.turns a goes
goes-turns n d e (Ahead word) t s a goes = goes-same IsRightTurn d e (Ahead word) t.turns a goes
goes-turns n d e AheadAll t s a goes = goes-same IsRightTurn d e AheadAll t.turns a goes
goes-turns n d e End t s a goes = goes-same IsRightTurn d e End t.turns a goes
goes-turns n d e (Insert worker key value) t s a goes = goes-same IsRightTurn d e (Insert worker key value) t.turns a goes
goes-turns n d e (Remove worker key) t s a goes = goes-same IsRightTurn d e (Remove worker key) t.turns a goes
goes-turns n d e (Contains worker key) t s a goes = goes-same IsRightTurn d e (Contains worker key) t.turns a goes
goes-turns n d e (Get worker key) t s a goes = goes-same IsRightTurn d e (Get worker key) t.turns a goes
goes-turns n d e (Evict worker word) t s a goes = goes-same IsRightTurn d e (Evict worker word) t.turns a goes

-- the numbers of the lines before line n rise and are below n
pub record AreBefore (n : ℕ) (items : List ItemLine) : Type 0 where
  pub some : 1 ≤ n
  pub rise : IsRisingFrom 1 (lines_of_items items)
  pub below : AllByRecursion (λ i. i.line < n) items

below_more : (n : ℕ) (items : List ItemLine) → AllByRecursion (λ i. i.line < n) items → AllByRecursion (λ i. i.line < suc n) items
below_more n [] all = tt
below_more n (i ∷ items) all = (let here = all.0 in omega arith, below_more n items all.1)

rise_with : (low n : ℕ) (items : List ItemLine) (i : ItemLine) → low ≤ n → i.line ≡ n → IsRisingFrom low (lines_of_items items) →
    AllByRecursion (λ i. i.line < n) items → IsRisingFrom low (lines_of_items (items ++ i ∷ []))
rise_with low n [] i few is rise below = (omega arith, tt)
rise_with low n (j ∷ items) i few is rise below = (rise.0, rise_with (suc j.line) n items i (let here = below.0 in omega arith) is rise.1 below.1)

pub none_more : (n : ℕ) (items : List ItemLine) → AreBefore n items → AreBefore (suc n) items
none_more n items b = record { some = omega (arith, b.some); rise = b.rise; below = below_more n items b.below }

one_more : (n worker : ℕ) (i : Item) (items : List ItemLine) → AreBefore n items →
    AreBefore (suc n) (items ++ record { line = n; worker = worker; item = i } ∷ [])
one_more n worker i items b =
    let added : ItemLine = record { line = n; worker = worker; item = i } in
    record {
      some = omega (arith, b.some);
      rise = rise_with 1 n items added b.some refl b.rise b.below;
      below = all_with (λ (x : ItemLine). x.line < suc n) items added (below_more n items b.below) (omega arith);
    }

pub told-before : (l : Layout) (n : ℕ) (s : Sentence) (t : Contents) → AreBefore n t.items → AreBefore (suc n) (told_with l n s t).items
told-before l n (Insert worker key value) t b = one_more n worker _ t.items b
told-before l n (Remove worker key) t b = one_more n worker _ t.items b
told-before l n (Contains worker key) t b = one_more n worker _ t.items b
told-before l n (Get worker key) t b = one_more n worker _ t.items b
told-before l n (Evict worker word) t b = one_more n worker _ t.items b
told-before l n (Version number) t b = none_more n t.items b
told-before l n (Structure kind buckets) t b = none_more n t.items b
told-before l n Adjacent t b = none_more n t.items b
told-before l n (Hashed slots) t b = none_more n t.items b
told-before l n Packed t b = none_more n t.items b
told-before l n Lines t b = none_more n t.items b
told-before l n (Rows rows) t b = none_more n t.items b
told-before l n (Workers workers) t b = none_more n t.items b
told-before l n (Versions limit) t b = none_more n t.items b
told-before l n (Start version) t b = none_more n t.items b
told-before l n (Word word raw) t b = none_more n t.items b
told-before l n Begin t b = none_more n t.items b
told-before l n (Stop worker events) t b = none_more n t.items b
told-before l n (Turn worker events) t b = none_more n t.items b
told-before l n (Ahead word) t b = none_more n t.items b
told-before l n AheadAll t b = none_more n t.items b
told-before l n End t b = none_more n t.items b
