-- The workers of a running structure: who gets which name, and how each ends.
use Rattle.std.specs.Prelude.{◌≡◌, ℕ, zero, suc, ◌+◌, ◌≤◌, List, [], ◌∷◌, length, Vec, vec_capacity}
use Rattle.std.specs.List.{AllByRecursion}
use Rattle.flit_words.specs.declared.layouts.Layout.{Layout}
use Rattle.flit_model.specs.declared.calls.Item.{Item}
use Rattle.flit_model.specs.declared.calls.Outcome.{Outcome}
use Rattle.flit_model.specs.declared.calls.Work.{Work}
use Rattle.flit_structure.specs.Meanings.{Meaning}
use Rattle.flit_table.specs.declared.views.View.{View}
use Rattle.flit_table.specs.Passes.{BelongsTo, IsFree, view_of, own_name, own_calls}
use Rattle.flit_table.specs.Steps.{Home, meaning_of}
use Rattle.flit_table.specs.Views.{heir}
use Rattle.flit_workers.specs.declared.ends.End.{End}
use Rattle.flit_workers.specs.declared.rooms.Room.{Room}
use Rattle.flit_workers.specs.Works.{calls_in, IsRightItem, IsWorked}

-- one Work for each name, each right for the layout
pub record AreRight (l : Layout) (names : ℕ) (works : List Work) : Type 0 where
  pub one_each : length works ≡ names
  pub items : AllByRecursion (λ w. AllByRecursion (IsRightItem l) w.items.items) works
  pub most : AllByRecursion (λ w. length w.items.items ≤ 4294967295) works

-- a list is empty, with room for the outcomes of the calls among some items
pub record HasRoomFor {Z : Type 0} (items : List Item) (outcomes : Vec Outcome Z) : Type 0 where
  pub none_yet : outcomes.items ≡ []
  pub room : length (calls_in items) ≤ vec_capacity outcomes

-- a Work with room for the outcomes of its calls
abbrev pub IsRoom : Room → Type 0
IsRoom r = HasRoomFor r.work.items.items r.outcomes

-- each element of one list with that of the other at its place, which is counted from a number
abbrev pub AllInOrder : {X Y : Type 0} → (ℕ → X → Y → Type 0) → ℕ → List X → List Y → Type 0
AllInOrder P n [] [] = Unit {0}
AllInOrder P n [] (y ∷ ys) = ⊥
AllInOrder P n (x ∷ xs) [] = ⊥
AllInOrder P n (x ∷ xs) (y ∷ ys) = P n x y × AllInOrder P (suc n) xs ys

module _ {S Op : Type 0} where
  -- the view with which a worker begins, the first with that of the pass itself: it has one name
  abbrev pub share : ℕ → View S Op → View S Op
  share zero v = record v { names = 1 }
  share (suc n) v = heir 1 (record v { names = n + 2 })

module _ {S Op : Type 0} (meanings : S → Meaning Op) (home : Home S) where
  -- a worker may begin
  pub record MayRun (e : End S Op) : Type 0 where
    pub pass : BelongsTo meanings home e.pass
    pub free : IsFree e.pass
    pub right : AllByRecursion (IsRightItem (meaning_of meanings home).layout) e.work.items.items
    pub most : own_calls e.pass + length e.work.items.items ≤ 4294967295
    pub room : HasRoomFor e.work.items.items e.outcomes

  -- a worker has ended
  pub record HasRun (e f : End S Op) : Type 0 where
    pub work : f.work ≡ e.work
    pub pass : BelongsTo meanings home f.pass
    pub worked : IsWorked (meaning_of meanings home) home.origin e.work.items.items e.work.stop f.outcomes.items (own_name e.pass) (own_calls e.pass)
        (view_of e.pass) f.pass

  -- a worker has its pass, and room for its outcomes
  pub record IsReady (n : ℕ) (v : View S Op) (w : Work) (e : End S Op) : Type 0 where
    pub work : e.work ≡ w
    pub pass : BelongsTo meanings home e.pass
    pub free : IsFree e.pass
    pub name : own_name e.pass ≡ v.name + n
    pub calls : own_calls e.pass ≡ 0
    pub view : view_of e.pass ≡ share n v
    pub room : HasRoomFor w.items.items e.outcomes

  -- the worker of a Work has made its items in order through its pass, as far as its stop let it
  pub record HasEnded (n : ℕ) (v : View S Op) (w : Work) (e : End S Op) : Type 0 where
    pub work : e.work ≡ w
    pub pass : BelongsTo meanings home e.pass
    pub worked : IsWorked (meaning_of meanings home) home.origin w.items.items w.stop e.outcomes.items (v.name + n) 0 (share n v) e.pass

  -- all workers are ready; and all have ended
  abbrev pub AreReady : View S Op → List Work → List (End S Op) → Type 0
  AreReady v works ends = AllInOrder (λ n w e. IsReady n v w e) 0 works ends

  abbrev pub HaveEnded : View S Op → List Work → List (End S Op) → Type 0
  HaveEnded v works ends = AllInOrder (λ n w e. HasEnded n v w e) 0 works ends
