-- The numbers of a draft stay within the limits.
use Rattle.std.proofs.Common.{◌≡◌, ℕ, ◌+◌, ◌<◌, ◌≤◌, ◌==◌, nat_lt, Bool, true, subst, arith, lit≤, refl}
use Rattle.std.proofs.lemmas.Bool.{ltb-true}
use Rattle.flit_words.specs.declared.layouts.Kind.{Kind}
use Rattle.flit_words.specs.declared.layouts.Kind.TheVariants.{List as List_kind, Hash, Tree}
use Rattle.flit_words.specs.declared.layouts.Layout.{Layout}
use Rattle.flit_words.specs.Layouts.{Accepted, least_buckets, most_buckets, words_of}
use Rattle.flit_image.proofs.Sizes.{words_of-below}
use Rattle.flit_trace.specs.declared.faults.Bound.TheVariants.{Slots}
use Rattle.flit_trace.specs.declared.heads.Place.TheVariants as place
use Rattle.flit_trace.specs.declared.sentences.Sentence.{Sentence}
use Rattle.flit_trace.specs.declared.sentences.Sentence.TheVariants.{Version, Structure, Adjacent, Hashed, Packed, Lines, Rows, Workers, Versions, Start, Word, Begin, Insert, Remove, Contains, Get, Evict, Stop, Turn, Ahead, AheadAll, End}
use Rattle.flit_trace.specs.declared.drafts.Draft.{Draft}
use Rattle.flit_trace.specs.Drafts.{Goes, verdict, buckets_verdict, line_verdict, with_place, with_line, start_layout, IsPlace, IsSound}
use Rattle.flit_trace.proofs.Goings.{went, only_if-goes, if_else-goes, both, up_to-goes}

pub accepted_values : (l : Layout) (values : Bool) → Accepted l → Accepted (record l { values = values })
accepted_values l values a = record {
  least_bucket = a.least_bucket;
  most_bucket = a.most_bucket;
  least_row = a.least_row;
  most_row = a.most_row;
  most_slot = a.most_slot;
  least_worker = a.least_worker;
  most_worker = a.most_worker;
  least_limit = a.least_limit;
  most_limit = a.most_limit;
}

accepted_kind : (l : Layout) (kind : Kind) (buckets : ℕ) → least_buckets kind ≤ buckets → buckets ≤ most_buckets kind → Accepted l →
    Accepted (record l { kind = kind; buckets = buckets })
accepted_kind l kind buckets least most a = record {
  least_bucket = least;
  most_bucket = most;
  least_row = a.least_row;
  most_row = a.most_row;
  most_slot = a.most_slot;
  least_worker = a.least_worker;
  most_worker = a.most_worker;
  least_limit = a.least_limit;
  most_limit = a.most_limit;
}

accepted_rows : (l : Layout) (rows : ℕ) → 1 ≤ rows → rows ≤ 1048575 → Accepted l → Accepted (record l { rows = rows })
accepted_rows l rows least most a = record {
  least_bucket = a.least_bucket;
  most_bucket = a.most_bucket;
  least_row = least;
  most_row = most;
  most_slot = a.most_slot;
  least_worker = a.least_worker;
  most_worker = a.most_worker;
  least_limit = a.least_limit;
  most_limit = a.most_limit;
}

accepted_workers : (l : Layout) (workers : ℕ) → 1 ≤ workers → workers ≤ 64 → Accepted l → Accepted (record l { workers = workers })
accepted_workers l workers least most a = record {
  least_bucket = a.least_bucket;
  most_bucket = a.most_bucket;
  least_row = a.least_row;
  most_row = a.most_row;
  most_slot = a.most_slot;
  least_worker = least;
  most_worker = most;
  least_limit = a.least_limit;
  most_limit = a.most_limit;
}

accepted_limit : (l : Layout) (limit : ℕ) → 1 ≤ limit → limit ≤ 2147483647 → Accepted l → Accepted (record l { limit = limit })
accepted_limit l limit least most a = record {
  least_bucket = a.least_bucket;
  most_bucket = a.most_bucket;
  least_row = a.least_row;
  most_row = a.most_row;
  most_slot = a.most_slot;
  least_worker = a.least_worker;
  most_worker = a.most_worker;
  least_limit = least;
  most_limit = most;
}

sound_with : (d e : Draft) → Accepted e.layout → IsPlace e.place → e.lines ≡ d.lines → e.calls ≡ d.calls → e.told ≡ d.told → IsSound d → IsSound e
sound_with d e accepted place lines calls told s = record {
  accepted = accepted;
  place = place;
  lines = omega (arith, s.lines);
  calls = omega (arith, s.calls);
  told = omega (arith, s.told);
}

same : (d e : Draft) → e.layout ≡ d.layout → IsPlace e.place → e.lines ≡ d.lines → e.calls ≡ d.calls → e.told ≡ d.told → IsSound d → IsSound e
same d e layout place lines calls told s = sound_with d e (rw layout s.accepted) place lines calls told s

structure : (d e : Draft) (kind : Kind) (buckets : ℕ) → IsSound d → buckets_verdict d kind buckets ≡ Goes e → IsSound e
structure d e List_kind buckets s goes =
    let w = went true _ e goes in
    subst IsSound w.is (sound_with d _ (accepted_kind d.layout List_kind 1 (lit≤ tt) (lit≤ tt) s.accepted) s.place refl refl refl s)
structure d e Hash buckets s goes =
    let u = up_to-goes _ _ _ _ e goes in
    subst IsSound u.is (sound_with d _ (accepted_kind d.layout Hash buckets u.least u.most s.accepted) s.place refl refl refl s)
structure d e Tree buckets s goes =
    let w = went true _ e goes in
    subst IsSound w.is (sound_with d _ (accepted_kind d.layout Tree 0 (lit≤ tt) (lit≤ tt) s.accepted) s.place refl refl refl s)

word_fits : (d : Draft) (word : ℕ) → IsSound d → word < words_of (start_layout d) → word + 1 ≤ 16777216
word_fits d word s below =
    let few = words_of-below (start_layout d) (accepted_values d.layout d.start_values s.accepted) in
    omega arith

line : (d e : Draft) (worker : ℕ) (right : Bool) (calls : ℕ) → calls ≤ 1 → IsSound d → line_verdict d worker right calls ≡ Goes e → IsSound e
line d e worker right calls one s goes =
    let h = only_if-goes _ _ e goes in
    let w = if_else-goes (nat_lt d.lines 1048576) (with_line d calls) e _ h.1 in
    let few = ltb-true d.lines 1048576 w.holds in
    subst IsSound w.is (record {
      accepted = s.accepted;
      place = s.place;
      lines = omega arith;
      calls = omega arith;
      told = s.told;
    })

pub goes-sound : (d e : Draft) (s : Sentence) → IsSound d → verdict d s ≡ Goes e → IsSound e
goes-sound d e (Version n) s goes =
    let w = went _ _ e goes in
    subst IsSound w.is (sound_with d _ (accepted_values d.layout (n == 2) s.accepted) s.place refl refl refl s)
goes-sound d e (Structure kind buckets) s goes = structure d e kind buckets s (only_if-goes _ _ e goes).1
goes-sound d e Adjacent s goes = subst IsSound (went _ _ e goes).is (same d _ refl tt refl refl refl s)
goes-sound d e (Hashed n) s goes =
    let u = up_to-goes n 1048576 Slots (with_place d (place.Hashed n)) e (only_if-goes _ _ e goes).1 in
    subst IsSound u.is (same d (with_place d (place.Hashed n)) refl (u.least, u.most) refl refl refl s)
goes-sound d e Packed s goes = subst IsSound (went _ _ e goes).is (same d _ refl tt refl refl refl s)
goes-sound d e Lines s goes = subst IsSound (went _ _ e goes).is (same d _ refl tt refl refl refl s)
goes-sound d e (Rows n) s goes =
    let u = up_to-goes _ _ _ _ e (only_if-goes _ _ e goes).1 in
    subst IsSound u.is (sound_with d _ (accepted_rows d.layout n u.least u.most s.accepted) s.place refl refl refl s)
goes-sound d e (Workers n) s goes =
    let u = up_to-goes _ _ _ _ e (only_if-goes _ _ e goes).1 in
    subst IsSound u.is (sound_with d _ (accepted_workers d.layout n u.least u.most s.accepted) s.place refl refl refl s)
goes-sound d e (Versions n) s goes =
    let u = up_to-goes _ _ _ _ e (only_if-goes _ _ e goes).1 in
    subst IsSound u.is (sound_with d _ (accepted_limit d.layout n u.least u.most s.accepted) s.place refl refl refl s)
goes-sound d e (Start n) s goes = subst IsSound (went _ _ e goes).is (same d _ refl s.place refl refl refl s)
goes-sound d e (Word word raw) s goes =
    let w = went _ _ e goes in
    let tests = both _ _ (both _ _ w.holds).0 in
    subst IsSound w.is (record {
      accepted = s.accepted;
      place = s.place;
      lines = s.lines;
      calls = s.calls;
      told = word_fits d word s (ltb-true word _ tests.1);
    })
goes-sound d e Begin s goes = subst IsSound (went _ _ e goes).is (same d _ refl s.place refl refl refl s)
goes-sound d e (Insert worker key value) s goes = line d e worker _ 1 (lit≤ tt) s goes
goes-sound d e (Remove worker key) s goes = line d e worker _ 1 (lit≤ tt) s goes
goes-sound d e (Contains worker key) s goes = line d e worker _ 1 (lit≤ tt) s goes
goes-sound d e (Get worker key) s goes = line d e worker _ 1 (lit≤ tt) s goes
goes-sound d e (Evict worker word) s goes = line d e worker _ 0 (lit≤ tt) s goes
goes-sound d e (Stop worker events) s goes = subst IsSound (went _ _ e goes).is (same d _ refl s.place refl refl refl s)
goes-sound d e (Turn worker events) s goes = subst IsSound (went _ _ e goes).is (same d _ refl s.place refl refl refl s)
goes-sound d e (Ahead word) s goes = subst IsSound (went _ _ e goes).is (same d _ refl s.place refl refl refl s)
goes-sound d e AheadAll s goes = subst IsSound (went _ _ e goes).is (same d _ refl s.place refl refl refl s)
goes-sound d e End s goes = subst IsSound (went _ _ e goes).is (same d _ refl s.place refl refl refl s)
