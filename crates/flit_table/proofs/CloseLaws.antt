-- What the table at the end says.
use Rattle.std.proofs.Common.{◌≡◌, ◌≢◌, ◌⊎◌, inl, inr, ℕ, zero, suc, ◌+◌, ◌<◌, ◌≤◌, Bool, List, [], ◌∷◌, ◌++◌, length, map, slice_index, get_or, refl, sym, ◌∙◌, ap, subst, arith, append_assoc}
use mathlib.Core.Option as maybe
use lib.ListN.{get_elem?}
use Rattle.std.specs.List.{AllByRecursion, Contains, range_with_len}
use Rattle.std.proofs.lemmas.List.{get_or_append_left, get_or-append-add}
use Rattle.atomic_table.specs.Table as table
use Rattle.flit_words.specs.Layouts.{words_of}
use Rattle.flit_model.specs.CrashImages.{crash_word, crash_image}
use Rattle.flit_model.specs.States.{State, word_at, shadow_at}
use Rattle.flit_model.specs.Settling.{taken_updates}
use Rattle.flit_model.specs.declared.calls.Entry.{Entry}
use Rattle.flit_structure.specs.declared.workers.Worker.{Worker}
use Rattle.flit_structure.specs.Moments.{Moment, IsAmong, IsNew, HaveDifferentNames, busy}
use Rattle.flit_structure.specs.Meanings.{Meaning}
use Rattle.flit_structure.specs.Lawful.{Lawful, IsNamed, IsSized, IsRecoverable, IsUnfinished}
use Rattle.flit_structure.proofs.Names.{all_left, all_right, all_at, all_map, same_worker, different_split}
use Rattle.flit_structure.proofs.Waiting.{unfinished, one_each}
use Rattle.flit_table.specs.declared.views.Logged.{Logged}
use Rattle.flit_table.specs.declared.views.Origin.{Origin}
use Rattle.flit_table.specs.declared.views.Post.{Post}
use Rattle.flit_table.specs.declared.views.View.{View}
use Rattle.flit_table.specs.Logs.{progress_of, settled_in, Continues}
use Rattle.flit_table.specs.Views.{content_of, HasName, workers_of, posts_of, all_workers}
use Rattle.flit_table.specs.Rule.{laid_out, moment_of, Agrees, HasWhole, Kept, IsRuled}
use Rattle.flit_table.specs.Closing.{taken_word, image_in, HasAllNames, Closes}
use Rattle.flit_table.proofs.ViewWorkers.{all_joined, posts_head, rest_of}
use Rattle.flit_table.proofs.Joining.{whole_cases}
use Rattle.flit_table.proofs.Saying as saying
use Rattle.flit_table.proofs.Spots.{Spot, spot}

-- ---- the image

pub elem_found : (xs : List ℕ) (i x : ℕ) → get_elem? xs i ≡ maybe.some x → slice_index xs i ≡ x
elem_found [] i x e = absurd (maybe.some-ne-none x (sym e))
elem_found (y ∷ xs) zero x e = maybe.some-injective y x e
elem_found (y ∷ xs) (suc i) x e = elem_found xs i x e

-- functions that agree on a stretch give one list
mapped : (f g : ℕ → ℕ) (first n : ℕ) → ((i : ℕ) → first ≤ i → i < first + n → f i ≡ g i) → map f (range_with_len first n) ≡ map g (range_with_len first n)
mapped f g first zero h = refl
mapped f g first (suc n) h = λ k. h first (omega arith) (omega arith) k ∷ mapped f g (first + 1) n (λ i low high. h i (omega arith) (omega arith)) k

module _ (m : State) (n : ℕ) (words : length m.words ≡ n) (shadows : length m.shadows ≡ n) where
  abbrev xs : List ℕ
  xs = 0 ∷ laid_out m

  at_word : (i : ℕ) → i < n → slice_index xs (i + 1) ≡ word_at m i
  at_word i h =
      let e : i + 1 ≡ suc i = omega arith in
      ap (λ (k : ℕ). get_or xs k 0) e ∙ get_or_append_left m.words (m.shadows ++ (m.slots ++ m.counter ∷ [])) 0 i (omega (arith, words))

  at_shadow : (i : ℕ) → i < n → slice_index xs (n + (i + 1)) ≡ shadow_at m i
  at_shadow i h =
      let e : n + (i + 1) ≡ suc (length m.words + i) = omega (arith, words) in
      ap (λ (k : ℕ). get_or xs k 0) e ∙ (get_or-append-add m.words (m.shadows ++ (m.slots ++ m.counter ∷ [])) i 0
      ∙ get_or_append_left m.shadows (m.slots ++ m.counter ∷ []) 0 i (omega (arith, shadows)))

  pub image_is : (picks : ℕ → Bool) → image_in picks n xs ≡ crash_image picks m
  image_is picks =
      mapped (λ i. taken_word (picks i) (slice_index xs (i + 1)) (slice_index xs (n + (i + 1)))) (crash_word picks m) 0 n
      (λ i low high. (λ k. taken_word (picks i) (at_word i (within i high) k) (at_shadow i (within i high) k)))
      ∙ ap (λ (k : ℕ). map (crash_word picks m) (range_with_len 0 k)) (sym shadows)
    where
      within : (i : ℕ) → i < 0 + n → i < n
      within i h = omega arith

-- ---- a pass with all names

module _ {Op : Type 0} where
  -- the worker of a name
  has_worker : (name : ℕ) (ps : List (Post Op)) → HasName name ps → (u : Worker Op) × IsAmong (workers_of ps) u × (u.name ≡ name)
  has_worker name [] h = absurd h
  has_worker name (p ∷ ps) (inl e) = (p.worker, ([], workers_of ps, refl), e)
  has_worker name (p ∷ ps) (inr h) = let r = has_worker name ps h in (r.0, (p.worker ∷ r.1.0, r.1.1, ap (λ us. p.worker ∷ us) r.1.2), r.2)

  -- a name that is found by its place
  pub has_name : (name : ℕ) (ps : List (Post Op)) → Contains (map (λ p. p.worker.name) ps) name → HasName name ps
  has_name name [] h = absurd (omega (arith, h.1))
  has_name name (p ∷ ps) (zero, less, is) = inl is
  has_name name (p ∷ ps) (suc k, less, is) = inr (has_name name ps (k, omega (arith, less), is))

  not_new : (name : ℕ) (ps : List (Post Op)) → HasName name ps → IsNew name (workers_of ps) → ⊥
  not_new name [] h k = h
  not_new name (p ∷ ps) (inl e) k = k.0 e
  not_new name (p ∷ ps) (inr h) k = not_new name ps h k.1

  among_left : (us ws : List (Worker Op)) (u : Worker Op) → IsAmong us u → IsAmong (us ++ ws) u
  among_left us ws u a = (a.0, a.1 ++ ws, ap (λ z. z ++ ws) a.2 ∙ append_assoc a.0 (u ∷ a.1) ws)

  among_right : (us ws : List (Worker Op)) (u : Worker Op) → IsAmong ws u → IsAmong (us ++ ws) u
  among_right us ws u a = (us ++ a.0, a.1, ap (λ z. us ++ z) a.2 ∙ sym (append_assoc us a.0 (u ∷ a.1)))

module _ {S Op : Type 0} (meaning : Meaning Op) (laws : Lawful meaning) (o : Origin S) (m : State) (log : List Logged) (a b : List (View S Op)) (v : View S Op)
    (k : Kept meaning o m log (a ++ v ∷ b)) where
  abbrev us : List (Worker Op)
  us = all_workers (a ++ v ∷ b)

  abbrev V : List (Worker Op)
  V = workers_of (posts_of v)

  abbrev M : Moment Op
  M = moment_of o m log us

  us_is : us ≡ all_workers a ++ (V ++ all_workers b)
  us_is = all_joined a (v ∷ b)

  here_among : (u : Worker Op) → IsAmong V u → IsAmong us u
  here_among u x = subst (λ z. IsAmong z u) (sym us_is) (among_right (all_workers a) (V ++ all_workers b) u (among_left V (all_workers b) u x))

  named : (u : Worker Op) → IsAmong us u → (1 ≤ u.name) × (u.name ≤ meaning.layout.workers)
  named u x =
      let is = all_at (IsNamed meaning) x.0 x.1 u (subst (AllByRecursion (IsNamed meaning)) x.2 (laws.named M k.holds).each) in
      (is.least, is.most)

  module _ (all : HasAllNames meaning v) where
    -- each worker is one of the pass's
    own : (u : Worker Op) → IsAmong us u → IsAmong V u
    own u x =
        let n = named u x in
        let r = has_worker u.name (posts_of v) (has_name u.name (posts_of v) (all u.name n.0 n.1)) in
        let y = here_among r.0 r.1 in
        subst (IsAmong V) (same_worker us y.0 y.1 x.0 x.1 r.0 u y.2 x.2 (laws.named M k.holds).different r.2) r.1

    -- no other view has a name, or a worker
    apart : AllByRecursion (λ (u : Worker Op). IsNew u.name V) (all_workers a) × AllByRecursion (λ (u : Worker Op). IsNew u.name (all_workers b)) V
    apart =
        let one = different_split (all_workers a) (V ++ all_workers b) (subst HaveDifferentNames us_is (laws.named M k.holds).different) in
        let two = different_split V (all_workers b) one.1 in (
          all_map (λ u. IsNew u.name (V ++ all_workers b)) (λ u. IsNew u.name V) (λ u h. all_left (λ z. z.name ≢ u.name) V (all_workers b) h) (all_workers a)
              one.2,
          two.2,
        )

    front_names : (u : Worker Op) → IsAmong (all_workers a) u → ⊥
    front_names u x =
        let y = among_left (all_workers a) (V ++ all_workers b) u x in
        let n = named u (subst (λ z. IsAmong z u) (sym us_is) y) in
        not_new u.name (posts_of v) (has_name u.name (posts_of v) (all u.name n.0 n.1)) (all_at (λ (z : Worker Op). IsNew z.name V) x.0 x.1 u
        (subst (AllByRecursion (λ (z : Worker Op). IsNew z.name V)) x.2 apart.0))

    back_names : (u : Worker Op) → IsAmong (all_workers b) u → ⊥
    back_names u x =
        let y = among_right (all_workers a) (V ++ all_workers b) u (among_right V (all_workers b) u x) in
        let n = named u (subst (λ z. IsAmong z u) (sym us_is) y) in
        let r = has_worker u.name (posts_of v) (has_name u.name (posts_of v) (all u.name n.0 n.1)) in
        let new : IsNew r.0.name (all_workers b) = all_at (λ (z : Worker Op). IsNew z.name (all_workers b)) r.1.0 r.1.1 r.0
        (subst (AllByRecursion (λ (z : Worker Op). IsNew z.name (all_workers b))) r.1.2 apart.1) in
        all_at (λ (z : Worker Op). z.name ≢ r.0.name) x.0 x.1 u (subst (AllByRecursion (λ (z : Worker Op). z.name ≢ r.0.name)) x.2 new) (sym r.2)

    -- a view that has no worker has seen nothing
    empty_log : (N : Moment Op) (vs : List (View S Op)) → ((u : Worker Op) → IsAmong (all_workers vs) u → ⊥) → AllByRecursion (Agrees meaning o log N) vs →
        HasWhole log vs → log ≡ []
    empty_log N [] none h w = absurd w
    empty_log N (x ∷ vs) none h (inl e) = sym e ∙ h.0.bare (no_names x.names refl)
      where
        no_names : (n : ℕ) → x.names ≡ n → x.names ≡ 0
        no_names zero e2 = e2
        no_names (suc n) e2 =
            let some : 0 < x.names = omega (arith, e2) in
            absurd (none x.post.worker (among_left (workers_of (posts_of x)) (all_workers vs) x.post.worker
            ([], workers_of (rest_of x), ap workers_of (posts_head x some))))
    empty_log N (x ∷ vs) none h (inr w) = empty_log N vs (λ u y. none u (among_right (workers_of (posts_of x)) (all_workers vs) u y)) h.1 w

    nothing_seen : Continues v.log log → log ≡ [] → v.log ≡ log
    nothing_seen c e = by_log v.log refl
      where
        by_log : (l : List Logged) → v.log ≡ l → v.log ≡ log
        by_log [] q = q ∙ sym e
        by_log (x ∷ l) q = let z : [] ≡ x ∷ (l ++ c.0) = sym e ∙ c.1 ∙ ap (λ y. y ++ c.0) q in absurd (cc)

    all_seen : v.log ≡ log
    all_seen = in_three (whole_cases log a (v ∷ b) k.longest)
      where
        begins : Continues v.log log
        begins = (saying.here meaning laws o m log a b v k).begins

        in_three : HasWhole log a ⊎ HasWhole log (v ∷ b) → v.log ≡ log
        in_three (inl w) = nothing_seen begins (empty_log M a front_names (all_left (Agrees meaning o log M) a (v ∷ b) k.each) w)
        in_three (inr (inl e)) = e
        in_three (inr (inr w)) = nothing_seen begins (empty_log M b back_names (all_right (Agrees meaning o log M) a (v ∷ b) k.each).1 w)

    kept_here : (e : Entry) → IsUnfinished meaning us e → IsUnfinished meaning V e
    kept_here e x = (x.0, x.1, x.2, x.3, x.4, own (busy x.0 x.1 x.2 x.3 x.4) x.5, x.6, x.7)

  pub closes_kept : (picks : ℕ → Bool) (image : List ℕ) → image ≡ crash_image picks m → Closes meaning o v picks image
  closes_kept picks image is =
      let here = saying.here meaning laws o m log a b v k in
      record {
        state = m;
        log = log;
        workers = us;
        holds = k.holds;
        is_image = is;
        recovers = subst (λ x. IsRecoverable meaning.layout (content_of o) x (settled_in log ++ taken_updates (progress_of log) picks)) (sym is)
            (laws.crash M picks k.holds);
        unfinished = unfinished meaning laws M k.holds;
        one_each = one_each meaning laws M k.holds;
        continues = here.begins;
        among = here_among;
        sees = saying.seen_first meaning laws o m log a b v k;
        items = here.items;
        reads = here.reads;
        right = here.right;
        history = saying.history_legal meaning laws o m log a b v k;
        accounts = here.accounts;
        order = saying.in_order meaning laws o m log a b v k;
        whole_order = saying.whole_order meaning laws o m log a b v k;
        bounded = here.bounded;
        queued = here.queued;
        gathered = λ all. record {
          whole = sym (all_seen all);
          own = own all;
          unfinished = λ word e waits. kept_here all e (unfinished meaning laws M k.holds word e waits);
        };
      }

-- the same, of the words of the table as it is found
pub closes : {S Op : Type 0} (meaning : Meaning Op) (laws : Lawful meaning) (o : Origin S) (t : table.State ℕ (View S Op)) (id : ℕ) (v : View S Op)
    (picks : ℕ → Bool) (xs : List ℕ) → IsRuled meaning o t → get_elem? t.views id ≡ maybe.some v → t.words ≡ xs →
    Closes meaning o v picks (image_in picks (words_of meaning.layout) xs)
closes {S} {Op} meaning laws o t id v picks xs ruled at same =
    let sp : Spot t.views id v = spot t.views id v at in
    let k : Kept meaning o ruled.state ruled.log (sp.front ++ v ∷ sp.back) = subst (Kept meaning o ruled.state ruled.log) sp.is ruled.kept in
    let sized : IsSized meaning.layout ruled.state = laws.sized (moment_of o ruled.state ruled.log (all_workers (sp.front ++ v ∷ sp.back))) k.holds in
    let n = words_of meaning.layout in
    closes_kept meaning laws o ruled.state ruled.log sp.front sp.back v k picks (image_in picks n xs)
    (ap (image_in picks n) (sym same ∙ ruled.laid) ∙ image_is ruled.state n sized.words sized.shadows picks)
