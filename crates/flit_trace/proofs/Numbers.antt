-- The numbers of a line that goes on are within their types.
use Rattle.std.proofs.Common.{◌≡◌, ℕ, ◌<◌, ◌≤◌, ◌^◌, nat_lt, Bool, true, false, Option, Some, None, arith}
use Rattle.std.proofs.lemmas.Bool.{ltb-true, leb-true}
use Rattle.flit_words.specs.Layouts.{words_of}
use Rattle.flit_image.proofs.Sizes.{words_of-below}
use Rattle.flit_trace.specs.declared.sentences.Sentence.{Sentence}
use Rattle.flit_trace.specs.declared.sentences.Sentence.TheVariants.{Version, Structure, Adjacent, Hashed, Packed, Lines, Rows, Workers, Versions, Start, Word, Begin, Insert, Remove, Contains, Get, Evict, Stop, Turn, Ahead, AheadAll, End}
use Rattle.flit_trace.specs.declared.drafts.Draft.{Draft}
use Rattle.flit_trace.specs.Contents.{value_or_0}
use Rattle.flit_trace.specs.Drafts.{Goes, verdict, is_worker, is_key, is_value, line_verdict, start_layout, takes_body, IsSound}
use Rattle.flit_trace.specs.Index.{HasNumbers}
use Rattle.flit_trace.proofs.Goings.{went, only_if-goes, both}
use Rattle.flit_trace.proofs.Soundness.{accepted_values}

-- the worker is one of the trace's
pub record IsOne (d : Draft) (worker : ℕ) : Type 0 where
  pub least : 1 ≤ worker
  pub most : worker ≤ d.layout.workers
  pub few : worker ≤ 64

pub worker_within : (d : Draft) (worker : ℕ) → IsSound d → is_worker d worker ≡ true → IsOne d worker
worker_within d worker s holds =
    let h = both _ _ holds in
    let most = leb-true worker d.layout.workers h.1 in
    record { least = leb-true 1 worker h.0; most = most; few = omega (arith, s.accepted.most_worker) }

-- a call or evict line that goes on has such a worker, and its numbers are right
pub record IsRight (d : Draft) (worker : ℕ) (test : Bool) : Type 0 where
  pub body : takes_body d.stage ≡ true
  pub one : IsOne d worker
  pub right : test ≡ true

pub line_right : (d e : Draft) (worker : ℕ) (right : Bool) (calls : ℕ) → IsSound d → line_verdict d worker right calls ≡ Goes e → IsRight d worker right
line_right d e worker right calls s goes =
    let h = both _ _ (only_if-goes _ _ e goes).0 in
    let b = both _ _ h.0 in
    record { body = b.0; one = worker_within d worker s b.1; right = h.1 }

pub key_below : (key : ℕ) → is_key key ≡ true → key < 2 ^ 32
key_below key holds = omega (arith, leb-true key 4294967292 holds)

pub value_below : (values : Bool) (value : Option ℕ) → is_value values value ≡ true → value_or_0 value < 2 ^ 32
value_below true (Some v) holds = omega (arith, leb-true v 4294967295 holds)
value_below true None holds = absurd (cc)
value_below false (Some v) holds = absurd (cc)
value_below false None holds = omega arith

word_below : (d : Draft) (word : ℕ) → IsSound d → nat_lt word (words_of d.layout) ≡ true → word < 2 ^ 32
word_below d word s holds = omega (arith, ltb-true word (words_of d.layout) holds, words_of-below d.layout s.accepted)

pub goes-numbers : (d e : Draft) (s : Sentence) → IsSound d → verdict d s ≡ Goes e → HasNumbers s
goes-numbers d e (Insert worker key value) s goes =
    let r = line_right d e worker _ 1 s goes in
    let h = both _ _ r.right in
    (r.one.least, r.one.few, key_below key h.0, value_below d.layout.values value h.1)
goes-numbers d e (Remove worker key) s goes =
    let r = line_right d e worker _ 1 s goes in
    (r.one.least, r.one.few, key_below key r.right)
goes-numbers d e (Contains worker key) s goes =
    let r = line_right d e worker _ 1 s goes in
    (r.one.least, r.one.few, key_below key r.right)
goes-numbers d e (Get worker key) s goes =
    let r = line_right d e worker _ 1 s goes in
    (r.one.least, r.one.few, key_below key (both _ _ r.right).1)
goes-numbers d e (Evict worker word) s goes =
    let r = line_right d e worker _ 0 s goes in
    (r.one.least, r.one.few, word_below d word s r.right)
goes-numbers d e (Turn worker events) s goes =
    let w = went _ _ e goes in
    (worker_within d worker s (both _ _ (both _ _ w.holds).0).1).few
goes-numbers d e (Ahead word) s goes =
    let w = went _ _ e goes in
    word_below d word s (both _ _ w.holds).1
goes-numbers d e (Word word raw) s goes =
    let w = went _ _ e goes in
    let below = ltb-true word (words_of (start_layout d)) (both _ _ (both _ _ w.holds).0).1 in
    omega (arith, below, words_of-below (start_layout d) (accepted_values d.layout d.start_values s.accepted))
goes-numbers d e (Version n) s goes = tt
goes-numbers d e (Structure kind buckets) s goes = tt
goes-numbers d e Adjacent s goes = tt
goes-numbers d e (Hashed n) s goes = tt
goes-numbers d e Packed s goes = tt
goes-numbers d e Lines s goes = tt
goes-numbers d e (Rows n) s goes = tt
goes-numbers d e (Workers n) s goes = tt
goes-numbers d e (Versions n) s goes = tt
goes-numbers d e (Start n) s goes = tt
goes-numbers d e Begin s goes = tt
goes-numbers d e (Stop worker events) s goes = tt
goes-numbers d e AheadAll s goes = tt
goes-numbers d e End s goes = tt
