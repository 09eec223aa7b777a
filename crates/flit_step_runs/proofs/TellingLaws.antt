-- What is told of a run on which a trace was played.
use Rattle.std.proofs.Common.{◌≡◌, ℕ, zero, suc, ◌+◌, ◌<◌, ◌≤◌, ◌++◌, ◌==◌, ◌||◌, Bool, not, List, [], ◌∷◌, map, take, drop, length, slice_get, Some, refl, sym, ◌∙◌, ap, subst, arith}
use Rattle.std.proofs.lemmas.List.{map-append}
use Rattle.std.proofs.lemmas.List.Filters.{length-filter_both}
use Rattle.std.proofs.lemmas.List.FromFn.{length-range_with_len}
use Rattle.std.specs.List.{list_any, range_with_len}
use Rattle.flit_words.specs.declared.layouts.Layout.{Layout}
use Rattle.flit_words.specs.Layouts.{first_row_of}
use Rattle.flit_model.specs.CrashImages.{crash_image}
use Rattle.flit_model.specs.Images.{is_free}
use Rattle.flit_model.specs.Maps.{Map, map_after_all}
use Rattle.flit_model.specs.Recovery.{IsImageOf, IsRecovery, IsWhole, SameShape, layout_of}
use Rattle.flit_model.specs.declared.calls.Ahead.{Ahead}
use Rattle.flit_model.specs.declared.calls.Ahead.TheVariants.{None as No_ahead, All as All_ahead, Words as Words_ahead}
use Rattle.flit_model.specs.declared.found.Image.{Image}
use Rattle.flit_lawful_images.specs.Maps.{IsMapOf}
use Rattle.flit_structure.specs.Meanings.{Meaning}
use Rattle.flit_trace.specs.Ahead.{Names}
use Rattle.flit_trace.specs.Contents.{Content}
use Rattle.flit_trace.specs.SeenTraces.{SeenTrace, Shows}
use Rattle.flit_sched.specs.Runs.{Part, Run}
use Rattle.flit_sched.specs.Openings.{content_of, opened_run}
use Rattle.flit_sched.specs.Views.{OfWorker, history_with, picks_of}
use Rattle.flit_sched.proofs.ShapeLaws.{same_shape_recovery}
use Rattle.flit_histories.proofs.LedParts.{follows_long}
use Rattle.flit_turns.proofs.LineLaws.{lines_follow}
use Rattle.flit_step_reports.specs.StepReports.{picks_in, plan_of}
use Rattle.flit_step_runs.specs.Plays.{IsRunSeen}
use Rattle.flit_step_runs.proofs.OpenedLaws.{opened_long}

-- ---- what stands at a place

pub record At {X : Type 0} (xs : List X) (i : ℕ) : Type 0 where
  pub item : X
  pub got : slice_get xs i ≡ Some item
  pub more : take (suc i) xs ≡ take i xs ++ item ∷ []
  pub parted : xs ≡ take i xs ++ item ∷ drop (suc i) xs
  pub before : length (take i xs) ≡ i

pub at_place : {X : Type 0} (xs : List X) (i : ℕ) → i < length xs → At xs i
at_place [] i h = absurd (omega (arith, h))
at_place (x ∷ xs) zero h = record { item = x; got = refl; more = refl; parted = refl; before = refl }
at_place (x ∷ xs) (suc i) h =
    let r = at_place xs i (omega (arith, h)) in
    record { item = r.item; got = r.got; more = ap (λ ys. x ∷ ys) r.more; parted = ap (λ ys. x ∷ ys) r.parted; before = ap suc r.before }

-- what is said of each worker so far, and of the next one
pub each_more : {Op X : Type 0} (f : Part Op → X) (r : Run Op) (i : ℕ) (xs : List X) (x : X) → i < length r.parts → xs ≡ map f (take i r.parts) →
    OfWorker r (i + 1) (λ p. x ≡ f p) → xs ++ x ∷ [] ≡ map f (take (i + 1) r.parts)
each_more f r i xs x within before said =
    let a = at_place r.parts i within in
    let is = said (take i r.parts) a.item (drop (suc i) r.parts) (record { is = a.parted; number = ap (λ n. n + 1) (sym a.before) }) in
    let next : suc i ≡ i + 1 = omega arith in
    ap (λ ys. ys ++ x ∷ []) before ∙ ap (λ y. map f (take i r.parts) ++ y ∷ []) is ∙ sym (map-append f (take i r.parts) (a.item ∷ []))
    ∙ ap (map f) (sym a.more) ∙ ap (λ n. map f (take n r.parts)) next

-- ---- the words ahead

picks_named : (a : Ahead) (all : Bool) (words : List ℕ) → Names a all words → picks_of a ≡ (λ word. all || list_any (λ w. w == word) words)
picks_named No_ahead all words h =
    ap (λ b. λ (word : ℕ). b || list_any (λ w. w == word) []) (sym h.0) ∙ ap (λ ws. λ (word : ℕ). all || list_any (λ w. w == word) ws) (sym h.1)
picks_named All_ahead all words h =
    ap (λ b. λ (word : ℕ). b || list_any (λ w. w == word) []) (sym h.0) ∙ ap (λ ws. λ (word : ℕ). all || list_any (λ w. w == word) ws) (sym h.1)
picks_named (Words_ahead v) all words h =
    ap (λ b. λ (word : ℕ). b || list_any (λ w. w == word) v.items) (sym h.0) ∙ ap (λ ws. λ (word : ℕ). all || list_any (λ w. w == word) ws) h.2

pub picks_seen : (a : Ahead) (trace : SeenTrace) (t : Content) → Names a trace.all_ahead trace.ahead → Shows trace t → picks_of a ≡ picks_in t
picks_seen a trace t h shows =
    picks_named a trace.all_ahead trace.ahead h ∙ ap (λ b. λ (word : ℕ). b || list_any (λ w. w == word) trace.ahead) shows.all_ahead
    ∙ ap (λ ws. λ (word : ℕ). t.all_ahead || list_any (λ w. w == word) ws) shows.ahead

-- ---- what recovery finds

pub free_few : (l : Layout) (image keys values free : List ℕ) → IsRecovery l image keys values free → length free ≤ l.rows
free_few l image keys values free r =
    let rows = range_with_len (first_row_of l.kind) l.rows in
    let is = ap length r.recovers.free_rows in
    let both = length-filter_both (is_free l r.recovers.shape) (λ x. not (is_free l r.recovers.shape x)) (λ x. refl) rows in
    let all = length-range_with_len (first_row_of l.kind) l.rows in
    omega (arith, is, both, all)

module _ {Op : Type 0} (meaning : Meaning Op) where
  pub run_long : (trace : SeenTrace) (r : Run Op) → IsRunSeen meaning trace r → length r.parts ≡ trace.head.layout.workers
  run_long trace r h =
      let first = opened_run meaning h.start h.run.works in
      follows_long meaning first r h.given (lines_follow meaning first r (plan_of h.content) h.given h.run.follows)
      ∙ opened_long meaning h.start h.content h.run.works first refl h.run.are_works ∙ sym (ap (λ x. x.layout.workers) h.shows.head)

  pub whole_lawful : (trace : SeenTrace) (r : Run Op) (a : Ahead) (i : Image) → IsRunSeen meaning trace r → Names a trace.all_ahead trace.ahead →
      IsImageOf meaning.layout i → i.words.items ≡ crash_image (picks_of a) r.state → IsWhole i × ((m : Map) × IsMapOf i m)
  whole_lawful trace r a i h names shape words =
      let k = h.run.headline.map.image i shape (words ∙ ap (λ f. crash_image f r.state) (picks_seen a trace h.content names h.shows)) in
      (k.0, (map_after_all (content_of h.start.keys.items h.start.values.items) (history_with r (picks_in h.content)), k.1))

  -- what was found in the image is what recovery finds with the trace's layout
  pub found_in : (l : Layout) (i : Image) (picks : ℕ → Bool) (r : Run Op) (keys values free : List ℕ) → SameShape l meaning.layout →
      IsImageOf meaning.layout i → i.words.items ≡ crash_image picks r.state → IsRecovery (layout_of i) i.words.items keys values free →
      IsRecovery l (crash_image picks r.state) keys values free
  found_in l i picks r keys values free same shape words found =
      subst (λ ws. IsRecovery l ws keys values free) words
      (same_shape_recovery (layout_of i) l i.words.items keys values free
      (record {
        kind = shape.kind ∙ sym same.kind;
        buckets = shape.buckets ∙ sym same.buckets;
        rows = shape.rows ∙ sym same.rows;
        values = shape.values ∙ sym same.values;
      }) found)
