-- All that is promised of Works that threads made, from what their Ends, the gathering and the close have said.
use Rattle.std.proofs.Common.{◌≡◌, ℕ, suc, ◌+◌, ◌<◌, ◌≤◌, ◌&&◌, Bool, true, false, cond, List, [], ◌∷◌, ◌++◌, flat_map, length, map, refl, sym, ◌∙◌, ap, subst, arith, ⊎_elim, get_or, append-nil}
use Rattle.std.proofs.lemmas.Bool.{cases_lt, eqb-true}
use Rattle.std.proofs.lemmas.List.{get_or_past}
use Rattle.std.proofs.lemmas.List.FromFn.{length-map-range_with_len}
use Rattle.std.specs.List.{AllByRecursion}
use Rattle.flit_words.specs.Words.{bare_of, version_of}
use Rattle.flit_model.specs.CrashImages.{crash_word, crash_image}
use Rattle.flit_model.specs.Histories.{is_read}
use Rattle.flit_model.specs.Maps.{map_after_all}
use Rattle.flit_model.specs.Settling.{Progress, taken_updates}
use Rattle.flit_model.specs.States.{State, state_from, is_ahead, shadow_at, word_at}
use Rattle.flit_model.specs.declared.calls.Ahead.{Ahead}
use Rattle.flit_model.specs.declared.calls.Ahead.TheVariants.{None as No_ahead}
use Rattle.flit_model.specs.declared.calls.Entry.{Entry}
use Rattle.flit_model.specs.declared.calls.Reply.{Reply}
use Rattle.flit_model.specs.declared.calls.Reply.TheVariants.{Yes, No, Found, Full, Worn}
use Rattle.flit_model.specs.declared.calls.Work.{Work}
use Rattle.flit_model.specs.declared.found.Image.{Image}
use Rattle.flit_model.proofs.CrashLaws.{crash_image_at}
use Rattle.flit_model.proofs.SettlingLaws.{settled_by_write_backs}
use Rattle.flit_structure.specs.Moments.{Moment}
use Rattle.flit_structure.specs.Meanings.{Meaning}
use Rattle.flit_structure.specs.Lawful.{Lawful, HasMap, IsRecoverable, IsBounded}
use Rattle.flit_structure.proofs.Names.{all_both, all_map}
use Rattle.flit_table.specs.declared.passes.Pass.{Pass}
use Rattle.flit_table.specs.declared.told.Known.{Known}
use Rattle.flit_table.specs.declared.views.Made.{Made}
use Rattle.flit_table.specs.declared.views.Post.{Post}
use Rattle.flit_table.specs.declared.views.View.{View}
use Rattle.flit_table.specs.Closing.{Closes, HasAllNames, picks_of, known_in}
use Rattle.flit_table.specs.Logs.{progress_of, settled_in}
use Rattle.flit_table.specs.Orders.{StandInOrder}
use Rattle.flit_table.specs.Passes.{view_of}
use Rattle.flit_table.specs.Rule.{Account, moment_of, IsWithinBounds}
use Rattle.flit_table.specs.Steps.{Home, meaning_of}
use Rattle.flit_table.specs.Views.{content_of, name_of, answered, posts_of, workers_of, history_seen}
use Rattle.flit_table.proofs.Accounts.{filter_all}
use Rattle.flit_table.proofs.NameOrders.{cancel}
use Rattle.flit_table.proofs.ViewWorkers.{all_zip, all_among, posts_all}
use Rattle.flit_sched.proofs.FitLaws.{history_legal, history_map}
use Rattle.flit_histories.proofs.WholeImages.{image_whole, image_has_map}
use Rattle.flit_workers.specs.declared.ends.End.{End}
use Rattle.flit_workers.specs.Ends.{AllInOrder, HasEnded, HaveEnded}
use Rattle.flit_workers.specs.Gathered.{HasGathered}
use Rattle.flit_workers.proofs.GatheredNames.{all_names}
use Rattle.flit_thread_histories.specs.Promises.{history_told, IsToldOf, KeepsPromises, HaveRun}
use Rattle.flit_thread_histories.proofs.Parts.{along, along_both, along_mapped, parts_within, parts_apart, StandsApart}
use Rattle.flit_thread_histories.proofs.WithTaken.{StandsWith, IsOfName, all_history, all_entries, settled_updates, settled_names, taken_names, stands_with}
use Rattle.flit_thread_histories.proofs.WorkerPosts as ends
use Rattle.flit_thread_histories.proofs.ToldWorkers as told

-- ---- a version that is persistent stands in each crash image, or a later one

taken_version : (b : Bool) (word shadow version : ℕ) → version ≤ version_of shadow →
    version ≤ version_of (cond (b && is_ahead word shadow) (bare_of word) shadow)
taken_version false word shadow version h = h
taken_version true word shadow version h = by_test (is_ahead word shadow) refl
  where
    by_test : (t : Bool) → is_ahead word shadow ≡ t → version ≤ version_of (cond t (bare_of word) shadow)
    by_test false e = h
    by_test true e = let next = eqb-true (version_of word) (version_of shadow + 1) e in omega (arith, h, next, same_version word)
      where
        same_version : (x : ℕ) → version_of (bare_of x) ≡ version_of x
        same_version x = omega arith

persistent_image : (picks : ℕ → Bool) (m : State) (word version : ℕ) → version ≤ version_of (shadow_at m word) →
    version ≤ version_of (get_or (crash_image picks m) word 0)
persistent_image picks m word version h = ⊎_elim
    (λ less. subst (λ x. version ≤ version_of x) (sym (crash_image_at picks m word less)) (taken_version (picks word) (word_at m word) (shadow_at m word) version h))
    (λ past. subst (λ x. version ≤ version_of x)
    (get_or_past m.shadows word 0 past ∙ sym (get_or_past (crash_image picks m) word 0 (longer past))) h)
    (cases_lt word (length m.shadows))
  where
    longer : length m.shadows ≤ word → length (crash_image picks m) ≤ word
    longer past = let e = length-map-range_with_len (crash_word picks m) 0 (length m.shadows) in omega (arith, e, past)

module _ {Op : Type 0} (meaning : Meaning Op) (picks : ℕ → Bool) (m : State) (updates : List Entry) (image : List ℕ) (is : image ≡ crash_image picks m) where
  bounded_in : (reply : Reply) → IsBounded meaning.layout meaning.room m updates reply →
      IsBounded meaning.layout meaning.room (state_from meaning.layout image) updates reply
  bounded_in Yes h = tt
  bounded_in No h = tt
  bounded_in (Found value) h = tt
  bounded_in (Full ticket) h = h
  bounded_in (Worn word version) h = (h.0, subst (λ l. version ≤ version_of (get_or l word 0)) (sym is) (persistent_image picks m word version h.1))

-- where no word is picked, none is taken
none_picked : (p : Progress) (m : State) → taken_updates p (λ w. false) ≡ []
none_picked p m = cancel p.settled (taken_updates p (λ w. false)) [] (sym (settled_by_write_backs p m [] tt tt) ∙ sym (append-nil p.settled))

-- ---- the closed pass, which has all names

module _ {S Op : Type 0} (meanings : S → Meaning Op) (home : Home S) (laws : Lawful (meaning_of meanings home)) (works : List Work) (es : List (End S Op))
    (pass : Pass S Op) (ahead : Ahead) (image : Image) (h : HaveRun meanings home works es pass ahead image) where
  abbrev meaning : Meaning Op
  meaning = meaning_of meanings home

  abbrev v : View S Op
  v = view_of pass

  abbrev t : Known
  t = known_in meaning.layout ahead image v

  abbrev picks : ℕ → Bool
  picks = picks_of ahead

  abbrev c : Closes meaning home.origin v picks image.words.items
  c = h.closed

  all : HasAllNames meaning v
  all = all_names meanings home (ends.first meanings home) works es pass refl (let e = h.each in omega (arith, e)) h.ended h.gathered

  whole : c.log ≡ v.log
  whole = (c.gathered all).whole

  M : Moment Op
  M = moment_of home.origin c.state v.log c.workers

  holds : meaning.holds M
  unfolding M
  holds = subst (λ l. meaning.holds (moment_of home.origin c.state l c.workers)) whole c.holds

  abbrev taken : List Entry
  taken = taken_updates (progress_of v.log) picks

  abbrev history : List Entry
  history = history_told t ++ taken

  recovers : IsRecoverable meaning.layout (content_of home.origin) image.words.items (settled_in v.log ++ taken)
  recovers = subst (λ l. IsRecoverable meaning.layout (content_of home.origin) image.words.items (settled_in l ++ taken_updates (progress_of l) picks)) whole
      c.recovers

  has_map : HasMap meaning.layout image.words.items (map_after_all (content_of home.origin) history)
  has_map = subst (HasMap meaning.layout image.words.items) (sym (history_map (content_of home.origin) (settled_in v.log) taken v.placed c.right)) recovers.content

  -- each of its posts, with what is taken
  abbrev Stands : Post Op → Type 0
  Stands p = StandsWith history v.mine p.worker

  accounts : AllByRecursion (λ p. Account (settled_in v.log) v.mine p.worker) (posts_of v)
  accounts = subst (λ l. AllByRecursion (λ p. Account (settled_in l) v.mine p.worker) (posts_of v)) whole c.accounts

  ordered : AllByRecursion (λ p. StandInOrder (history_seen v) v.mine p.worker × Account (settled_in v.log) v.mine p.worker) (posts_of v)
  ordered = all_zip (λ p. StandInOrder (history_seen v) v.mine p.worker) (λ p. Account (settled_in v.log) v.mine p.worker)
      (λ p. StandInOrder (history_seen v) v.mine p.worker × Account (settled_in v.log) v.mine p.worker) (λ p a b. (a, b)) (posts_of v) c.order accounts

  stands : AllByRecursion Stands (posts_of v)
  unfolding M
  stands = all_zip _ _ Stands
      (λ p a s. stands_with meaning laws M holds picks p.worker (c.among p.worker a) v.mine v.placed c.reads s.1.below s.0)
      (posts_of v) (posts_all _ (posts_of v) (all_among (workers_of (posts_of v)))) ordered

  -- ---- and each End

  abbrev Mine : Pass S Op → List Made
  Mine p = (view_of p).mine

  abbrev Events : Pass S Op → List ℕ
  Events p = (view_of p).events

  end_posts : (ws : List Work) (xs : List (End S Op)) → HaveEnded meanings home (ends.first meanings home) ws xs → HasGathered meaning (map (λ e. e.pass) xs) pass →
      AllInOrder (λ k w e. Stands (view_of e.pass).post) 0 ws xs
  end_posts [] [] k g = tt
  end_posts [] (x ∷ xs) k g = absurd k
  end_posts (w ∷ ws) [] k g = absurd k
  end_posts (w ∷ ws) (x ∷ xs) k g = ends.gathered_posts meanings home Stands ws w x xs k (subst (AllByRecursion Stands) g.posts stands)

  joined : {Y : Type 0} (f : Pass S Op → List Y) (xs : List (End S Op)) → flat_map f (map (λ (e : End S Op). e.pass) xs) ≡ flat_map (λ (e : End S Op). f e.pass) xs
  joined f [] = refl
  joined f (x ∷ xs) = ap (λ l. f x.pass ++ l) (joined f xs)

  mine_is : (xs : List (End S Op)) → HasGathered meaning (map (λ (e : End S Op). e.pass) xs) pass → v.mine ≡ flat_map (λ (e : End S Op). Mine e.pass) xs
  mine_is [] g = absurd g
  mine_is (x ∷ xs) g = g.mine ∙ ap (λ l. Mine x.pass ++ l) (joined Mine xs)

  events_are : (xs : List (End S Op)) → HasGathered meaning (map (λ (e : End S Op). e.pass) xs) pass → v.events ≡ flat_map (λ (e : End S Op). Events e.pass) xs
  events_are [] g = absurd g
  events_are (x ∷ xs) g = g.events ∙ ap (λ l. Events x.pass ++ l) (joined Events xs)

  abbrev Ended : ℕ → Work → End S Op → Type 0
  Ended k w e = HasEnded meanings home k (ends.first meanings home) w e

  mine_apart : AllInOrder (λ k w e. StandsApart name_of (suc k) (Mine e.pass) v.mine) 0 works es
  mine_apart = subst (λ l. AllInOrder (λ k w e. StandsApart name_of (suc k) (Mine e.pass) l) 0 works es) (sym (mine_is es h.gathered))
      (parts_apart name_of (λ (e : End S Op). Mine e.pass) 0 works es
      (along Ended (λ k w e. AllByRecursion (λ x. name_of x ≡ suc k) (Mine e.pass)) 0 works es (λ k w e le d. told.made_named meanings home k w e d) h.ended))

  events_apart : AllInOrder (λ k w e. StandsApart (λ x. x) (suc k) (Events e.pass) v.events) 0 works es
  events_apart = subst (λ l. AllInOrder (λ k w e. StandsApart (λ x. x) (suc k) (Events e.pass) l) 0 works es) (sym (events_are es h.gathered))
      (parts_apart (λ x. x) (λ (e : End S Op). Events e.pass) 0 works es
      (along Ended (λ k w e. AllByRecursion (λ x. x ≡ suc k) (Events e.pass)) 0 works es (λ k w e le d. told.events_named meanings home k w e d) h.ended))

  told_each : AllInOrder (λ k w e. IsToldOf t history (suc k) w e.outcomes.items) 0 works es
  told_each =
      let a = along_both Ended (λ k w e. Stands (view_of e.pass).post) 0 works es h.ended (end_posts works es h.ended h.gathered) in
      let b = along_both (λ k w e. StandsApart name_of (suc k) (Mine e.pass) v.mine) (λ k w e. StandsApart (λ x. x) (suc k) (Events e.pass) v.events) 0 works es
      mine_apart events_apart in
      along _ (λ k w e. IsToldOf t history (suc k) w e.outcomes.items) 0 works es
      (λ k w e le x. told.told_of meanings home k w e x.0.0 t history x.1.0 x.1.1 x.0.1)
      (along_both (λ k w e. Ended k w e × Stands (view_of e.pass).post)
      (λ k w e. StandsApart name_of (suc k) (Mine e.pass) v.mine × StandsApart (λ x. x) (suc k) (Events e.pass) v.events) 0 works es a b)

  -- each entry is of a name of the layout
  mine_named : AllByRecursion (λ x. (1 ≤ name_of x) × (name_of x ≤ meaning.layout.workers)) v.mine
  mine_named = subst (AllByRecursion (λ x. (1 ≤ name_of x) × (name_of x ≤ meaning.layout.workers))) (sym (mine_is es h.gathered))
      (all_map (λ x. (0 < name_of x) × (name_of x ≤ 0 + length works)) (λ x. (1 ≤ name_of x) × (name_of x ≤ meaning.layout.workers))
      (λ x q. (let e = h.each in let b = q.1 in (q.0, omega (arith, e, b))))
      (flat_map (λ (e : End S Op). Mine e.pass) es)
      (parts_within name_of (λ (e : End S Op). Mine e.pass) 0 works es
      (along Ended (λ k w e. AllByRecursion (λ x. name_of x ≡ suc k) (Mine e.pass)) 0 works es (λ k w e le d. told.made_named meanings home k w e d) h.ended)))

  named : AllByRecursion (λ e. (1 ≤ e.worker) × (e.worker ≤ meaning.layout.workers)) history
  unfolding M
  named = all_both (IsOfName meaning laws M holds picks) (history_told t) taken
      (all_history (IsOfName meaning laws M holds picks) 0 (settled_in v.log) v.placed (settled_names meaning laws M holds picks)
      (all_entries (IsOfName meaning laws M holds picks) v.placed (subst (AllByRecursion (IsOfName meaning laws M holds picks)) (sym c.reads)
      (filter_all (IsOfName meaning laws M holds picks) is_read (answered v.mine)
      (told.all_answered (λ n. (1 ≤ n) × (n ≤ meaning.layout.workers)) v.mine mine_named)))))
      (taken_names meaning laws M holds picks)

  bounds : AllByRecursion (λ e. IsBounded meaning.layout meaning.room (state_from meaning.layout image.words.items) (settled_in v.log) e.reply) (answered v.mine)
  bounds = all_map (IsWithinBounds meaning (moment_of home.origin c.state v.log c.workers))
      (λ e. IsBounded meaning.layout meaning.room (state_from meaning.layout image.words.items) (settled_in v.log) e.reply)
      (λ e k. bounded_in meaning picks c.state (settled_in v.log) image.words.items c.is_image e.reply k) (answered v.mine)
      (subst (λ l. AllByRecursion (IsWithinBounds meaning (moment_of home.origin c.state l c.workers)) (answered v.mine)) whole c.bounded)

  pub promised : KeepsPromises meaning home.origin works (map (λ (e : End S Op). e.outcomes.items) es) t
  unfolding M
  promised = record {
    layout = refl;
    names = all;
    taken = taken;
    none_taken = λ e. none_of ahead e;
    legal = history_legal (content_of home.origin) (settled_in v.log) taken v.placed recovers.legal c.right;
    shape = h.shape;
    image = has_map;
    whole = image_whole meaning.layout image (map_after_all (content_of home.origin) history) (laws.sized M holds).accepted h.shape has_map;
    found = image_has_map meaning.layout image (map_after_all (content_of home.origin) history) h.shape has_map;
    workers = along_mapped (λ name w os. IsToldOf t history name w os) (λ (e : End S Op). e.outcomes.items) 0 works es told_each;
    named = named;
    updates = settled_updates meaning laws M holds picks;
    reads = c.right;
    bounds = bounds;
  }
    where
      none_of : (a : Ahead) → a ≡ No_ahead → taken_updates (progress_of v.log) (picks_of a) ≡ []
      none_of a e = ap (λ x. taken_updates (progress_of v.log) (picks_of x)) e ∙ none_picked (progress_of v.log) c.state
