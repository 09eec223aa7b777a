-- One worker goes on, and all that holds goes on holding.
use Rattle.std.proofs.Common.{◌≡◌, ℕ, false, List, ◌∷◌, ◌++◌, ◌≤◌, length, Some, refl, subst, arith}
use Rattle.std.specs.List.{AllByRecursion}
use Rattle.flit_words.specs.declared.layouts.Layout.{Layout}
use Rattle.flit_words.specs.Layouts.{words_of}
use Rattle.flit_words.specs.Words.{version_of}
use Rattle.flit_model.specs.States.{State}
use Rattle.flit_model.specs.Settling.{Progress}
use Rattle.flit_place.specs.Tags.{Place}
use Rattle.flit_runs.specs.Worlds.{Actor, world_of, writings}
use Rattle.flit_runs.specs.Soundness.{IsSound}
use Rattle.flit_structure.specs.declared.workers.Worker.{Worker}
use Rattle.flit_structure.specs.Moments.{Moment, with_workers}
use Rattle.flit_structure.proofs.Names.{different_put, others_new, all_left, all_right}
use Rattle.flit_crew.specs.Heaps.{Heap, heap_of, at_shadow, AreOld}
use Rattle.flit_crew.specs.Accounts.{Rows, History}
use Rattle.flit_crew.specs.Crews.{Crew, Acts, Holds, stranger_of}
use Rattle.flit_crew.specs.Obligations.{Keeps}
use Rattle.flit_crew.proofs.Acting.{Split, split_acts, join_acts, Moves, AllStay, all_last, all_stay}
use Rattle.flit_crew.proofs.Tagging.{TagsGo, AreTagged, tagged_go}
use Rattle.flit_crew.proofs.Updating.{follows_same}
use Rattle.flit_crew.proofs.Owning.{all_old}

module _ {G Op : Type 0} (c : Crew G Op) (l : Layout) (p : Place) (free : List ℕ) (keeps : Keeps c l p free) (M : Moment Op) (a : List (Worker Op))
    (u : Worker Op) (b : List (Worker Op))
    (holds : Holds c l p free (with_workers M (a ++ u ∷ b))) where
  abbrev pub h : Heap G
  h = heap_of M holds.given holds.ghost

  abbrev pub mine : Split c l p free h a u b holds.actors
  mine = split_acts c l p free h a u b holds.actors holds.acts

  -- those before it in the world
  abbrev pub front : List Actor
  front = stranger_of holds.stranger ∷ mine.before

  pub is_sound : IsSound p (λ word. false) (world_of M.state front mine.actor mine.behind)
  is_sound = subst (λ gs. IsSound p (λ word. false) (record { state = M.state; workers = stranger_of holds.stranger ∷ gs })) mine.is holds.sound

  -- what each worker depends on has been
  pub is_old : AllByRecursion (λ g. AreOld h g.needs) (front ++ mine.actor ∷ mine.behind)
  is_old = all_old p (λ word. false) M.state (writings (front ++ mine.actor ∷ mine.behind)) h (front ++ mine.actor ∷ mine.behind) is_sound.words
      refl is_sound.workers

  pub old_left : AllByRecursion (λ g. AreOld h g.needs) mine.before
  old_left = (all_left (λ g. AreOld h g.needs) front (mine.actor ∷ mine.behind) is_old).1

  pub old_right : AllByRecursion (λ g. AreOld h g.needs) mine.behind
  old_right = (all_right (λ g. AreOld h g.needs) front (mine.actor ∷ mine.behind) is_old).1

  -- the state, the progress, the linked rows and the structure's ghost are others then
  pub moved : (s : State) (q : Progress) (given : List ℕ) (ghost : G) (w : Worker Op) (g : Actor) →
      let N : Moment Op = record M { state = s; progress = q } in
      w.name ≡ u.name → length s.words ≡ words_of l → length s.slots ≡ l.slots → IsSound p (λ word. false) (world_of s front g mine.behind) →
      TagsGo p M.state s mine.actor.at g.at →
      Moves c l p free (Some u.name) h (heap_of N given ghost) →
      AllStay c l p free (Some u.name) h (heap_of N given ghost) a mine.before → AllStay c l p free (Some u.name) h (heap_of N given ghost) b mine.behind →
      Acts c l p free (heap_of N given ghost) w g → Rows c.anatomy l free s.counter (heap_of N given ghost) (a ++ w ∷ b) →
      History c.anatomy l free (heap_of N given ghost) (a ++ w ∷ b) →
      Holds c l p free (with_workers N (a ++ w ∷ b))
  moved s q given ghost w g name words slots sound tags moves left right acts rows history =
      let N : Moment Op = record M { state = s; progress = q } in
      let k : Heap G = heap_of N given ghost in
      record {
        given = given;
        ghost = ghost;
        actors = mine.before ++ g ∷ mine.behind;
        opening = holds.opening;
        pool_is = holds.pool_is;
        stranger = holds.stranger;
        outside = holds.outside;
        accepted = holds.accepted;
        pool = holds.pool;
        words = words;
        slots = slots;
        sound = sound;
        tagged = tagged_go p M.state s mine.before mine.actor g mine.behind tags (subst (AreTagged p M.state) mine.is holds.tagged);
        kept = moves.is;
        acts = join_acts c l p free k a (w ∷ b) mine.before (g ∷ mine.behind) (all_last c l p free keeps (Some u.name) h k moves a mine.before left mine.left)
            (acts, all_last c l p free keeps (Some u.name) h k moves b mine.behind right mine.right);
        rows = rows;
        history = history;
        different = different_put a b u w name holds.different;
      }

  -- the heap is as it was
  pub still_moves : Moves c l p free (Some u.name) h h
  still_moves = record {
    was = holds.kept;
    is = holds.kept;
    opening = refl;
    later = keeps.same h (Some u.name);
    follows = follows_same (Some u.name) h h refl (λ x e i. refl);
    given = λ row k. k;
    risen = λ w. same_le (version_of (at_shadow h w));
  }
    where
      same_le : (n : ℕ) → n ≤ n
      same_le n = omega arith

  pub moved_still : (s : State) (w : Worker Op) (g : Actor) →
      let N : Moment Op = record M { state = s } in
      w.name ≡ u.name → length s.words ≡ words_of l → length s.slots ≡ l.slots → IsSound p (λ word. false) (world_of s front g mine.behind) →
      TagsGo p M.state s mine.actor.at g.at →
      h ≡ heap_of N holds.given holds.ghost →
      Acts c l p free h w g → Rows c.anatomy l free s.counter h (a ++ w ∷ b) → History c.anatomy l free h (a ++ w ∷ b) →
      Holds c l p free (with_workers N (a ++ w ∷ b))
  moved_still s w g name words slots sound tags same acts rows history =
      let N : Moment Op = record M { state = s } in
      let new = others_new a b u holds.different in
      moved s M.progress holds.given holds.ghost w g name words slots sound tags
      (subst (λ k. Moves c l p free (Some u.name) h k) same still_moves)
      (subst (λ k. AllStay c l p free (Some u.name) h k a mine.before) same (all_stay c l p free h u.name a mine.before new.0 old_left mine.left))
      (subst (λ k. AllStay c l p free (Some u.name) h k b mine.behind) same (all_stay c l p free h u.name b mine.behind new.1 old_right mine.right))
      (subst (λ k. Acts c l p free k w g) same acts)
      (subst (λ k. Rows c.anatomy l free s.counter k (a ++ w ∷ b)) same rows)
      (subst (λ k. History c.anatomy l free k (a ++ w ∷ b)) same history)
