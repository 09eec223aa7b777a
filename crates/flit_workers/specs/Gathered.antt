-- What a pass has that has taken in others, one after another.
use Rattle.std.specs.Prelude.{◌≡◌, List, [], ◌∷◌, ◌++◌, length, flat_map}
use Rattle.flit_structure.specs.Meanings.{Meaning}
use Rattle.flit_table.specs.declared.passes.Pass.{Pass}
use Rattle.flit_table.specs.Passes.{view_of, own_name, own_names, own_calls, has_stopped, waits_to, waiting_view}
use Rattle.flit_table.specs.Views.{posts_of}
use Rattle.flit_workers.specs.Works.{IsInOrderAfter}

module _ {S Op : Type 0} (meaning : Meaning Op) where
  -- a pass, which was `first`, has taken in others in order: it has what each of their names is at, with what each waits to
  -- begin, and behind its own the items, the placed reads and the events of each; and the calls of all these names stand in
  -- order in what it has seen
  pub record HasTakenAll (others : List (Pass S Op)) (first now : Pass S Op) : Type 0 where
    pub name : own_name now ≡ own_name first
    pub names : own_names now ≡ own_names first
    pub calls : own_calls now ≡ own_calls first
    pub stopped : has_stopped now ≡ has_stopped first
    pub waits : waits_to now ≡ waits_to first
    pub posts : posts_of (view_of now) ≡ posts_of (view_of first) ++ flat_map (λ p. posts_of (waiting_view meaning p)) others
    pub mine : (view_of now).mine ≡ (view_of first).mine ++ flat_map (λ p. (view_of p).mine) others
    pub placed : (view_of now).placed ≡ (view_of first).placed ++ flat_map (λ p. (view_of p).placed) others
    pub events : (view_of now).events ≡ (view_of first).events ++ flat_map (λ p. (view_of p).events) others
    pub order : IsInOrderAfter (length others) (view_of first) (view_of now)

  -- the first of some passes has taken in the others
  abbrev pub HasGathered : List (Pass S Op) → Pass S Op → Type 0
  HasGathered [] now = ⊥
  HasGathered (first ∷ others) now = HasTakenAll others first now
