-- All others stay while one worker's event changes one word, which is none of theirs.
use Rattle.std.proofs.Common.{◌≡◌, ◌≢◌, ◌⊎◌, ⊎_elim, ℕ, ◌+◌, ◌≤◌, List, [], ◌∷◌, Option, Some, sym, arith, take}
use Rattle.std.specs.Prelude.{Contains}
use Rattle.std.specs.List.{AllByRecursion}
use Rattle.flit_words.specs.declared.layouts.Layout.{Layout}
use Rattle.flit_model.specs.Lists.{IsRisingFrom}
use Rattle.flit_model.proofs.Elements.{all_weaker}
use Rattle.flit_place.specs.Tags.{Place}
use Rattle.flit_runs.specs.Worlds.{Actor}
use Rattle.flit_structure.specs.declared.workers.Worker.{Worker}
use Rattle.flit_structure.specs.Moments.{IsNew}
use Rattle.flit_crew.specs.Heaps.{Heap, at_word, IsWordOf, IsMine, AreOld}
use Rattle.flit_crew.specs.Anatomies.{own_in}
use Rattle.flit_crew.specs.Rows.{times, own_times, IsDealt}
use Rattle.flit_crew.specs.Crews.{Crew, AllAct}
use Rattle.flit_crew.proofs.Acting.{AllStay}
use Rattle.flit_crew.proofs.Rowing.{contained, once}
use Rattle.flit_crew.proofs.Owning.{taken_contains}

-- ---- everybody's own rows are rows of the pool that aren't linked

module _ {X : Type 0} (own : X → List ℕ) where
  abbrev pub IsDrawn : List ℕ → List ℕ → X → Type 0
  IsDrawn free given v = (row : ℕ) → Contains (own v) row → Contains free row × (Contains given row → ⊥)

  drawn_among : (free : List ℕ) (counter : ℕ) (given : List ℕ) → IsRisingFrom 0 free → (us : List X) →
      ((row : ℕ) → own_times own row us + times own row given ≤ times own row (take counter free)) → AllByRecursion (IsDrawn free given) us
  drawn_among free counter given rising [] few = tt
  drawn_among free counter given rising (v ∷ us) few = (
    λ row has. (
      taken_contains own free counter row (some (times own row (own v)) (own_times own row us) (times own row given) (times own row (take counter free))
          (contained own row (own v) has) (few row)),
      λ linked. twice (times own row (own v)) (own_times own row us) (times own row given) (times own row (take counter free)) (contained own row (own v) has)
          (contained own row given linked) (few row) (once own free counter row rising),
    ),
    drawn_among free counter given rising us (λ row. fewer (times own row (own v)) (own_times own row us) (times own row given)
        (times own row (take counter free)) (few row)),
  )
    where
      some : (v u g t : ℕ) → 1 ≤ v → v + u + g ≤ t → 1 ≤ t
      some v u g t i h = omega (arith, i, h)

      twice : (v u g t : ℕ) → 1 ≤ v → 1 ≤ g → v + u + g ≤ t → t ≤ 1 → ⊥
      twice v u g t i j h k = omega (arith, i, j, h, k)

      fewer : (v u g t : ℕ) → v + u + g ≤ t → u + g ≤ t
      fewer v u g t h = omega (arith, h)

  pub all_drawn : (free : List ℕ) (counter : ℕ) (given : List ℕ) (us : List X) → IsRisingFrom 0 free → IsDealt own free counter given us →
      AllByRecursion (IsDrawn free given) us
  all_drawn free counter given us rising d = drawn_among free counter given rising us
      (λ row. equal (own_times own row us + times own row given) (times own row (take counter free)) (d.rows row))
    where
      equal : (a b : ℕ) → a ≡ b → a ≤ b
      equal a b e = omega (arith, e)

module _ {G Op : Type 0} (c : Crew G Op) (l : Layout) (p : Place) (free : List ℕ) (who : Option ℕ) (h k : Heap G) (changed : ℕ) (links : List ℕ)
    (only : (w : ℕ) → w ≢ changed → at_word k w ≡ at_word h w) (given : (row : ℕ) → Contains k.given row → Contains h.given row ⊎ Contains links row) where
  -- the rows of another one aren't linked by the event, and the word that it changes isn't theirs
  abbrev pub IsUntouched : Worker Op → Type 0
  IsUntouched v = (row : ℕ) → Contains (own_in c.anatomy v.doing) row → (Contains links row → ⊥) × ((w : ℕ) → IsWordOf l row w → w ≢ changed)

  pub all_untouched : (us : List (Worker Op)) (gs : List Actor) → AllByRecursion (λ v. who ≢ Some v.name) us → AllByRecursion IsUntouched us →
      AllByRecursion (λ g. AreOld h g.needs) gs → AllAct c l p free h us gs → AllStay c l p free who h k us gs
  all_untouched [] [] names rows old m = tt
  all_untouched [] (g ∷ gs) names rows old m = absurd m
  all_untouched (u ∷ us) [] names rows old m = absurd m
  all_untouched (u ∷ us) (g ∷ gs) names rows old m = (
    record {
      other = names.0;
      rows = λ row w own of. only w ((rows.0 row own).1 w of);
      mine = all_weaker (IsMine l free h (own_in c.anatomy u.doing)) (IsMine l free k (own_in c.anatomy u.doing)) (λ w s. record {
        shut = record {
          row = s.shut.row;
          pool = s.shut.pool;
          word = s.shut.word;
          unlinked =
              λ has. ⊎_elim (λ q. s.shut.unlinked q) (λ q. (rows.0 s.shut.row s.own).0 q) (given s.shut.row has);
        };
        own = s.own;
      }) g.private m.0.mine;
      old = old.0;
    },
    all_untouched us gs names.1 rows.1 old.1 m.1,
  )

pub new_others : {Op : Type 0} (name : ℕ) (us : List (Worker Op)) → IsNew name us → AllByRecursion (λ v. Some name ≢ Some v.name) us
new_others name us new = all_weaker (λ v. v.name ≢ name) (λ v. Some name ≢ Some v.name) (λ v ne e. ne (sym (same name v.name e))) us new
  where
    same : (a b : ℕ) → ◌≡◌ {A = Option ℕ} (Some a) (Some b) → a ≡ b
    same a b e = cc
