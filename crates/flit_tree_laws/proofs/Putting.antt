-- The call with its machine further on is at that machine, and is the same else.
use Rattle.std.proofs.Common.{◌≡◌, ℕ, List, [], ◌∷◌, refl, ap, slice_index}
use Rattle.flit_words.specs.declared.layouts.Layout.{Layout}
use Rattle.flit_words.specs.Layouts.{value_word_of}
use Rattle.flit_model.specs.declared.calls.Call.{Call}
use Rattle.flit_model.specs.declared.calls.Reply.{Reply}
use Rattle.flit_place.specs.Tags.{Place}
use Rattle.flit_pv.proofs.OneEvent.{store_goes_further}
use Rattle.flit_structure.specs.Meanings.{key_of, value_put}
use Rattle.flit_crew.specs.Machines.{machine_takes}
use Rattle.flit_tree_steps.specs.declared.operations.Path.{Path}
use Rattle.flit_tree_steps.specs.Operations.{At, Root, Key, Edge, Rows, LeafWords, LeafValue, InnerWords, Link, Flag, Sibling, Freeze, Swing, Value, Ends, Rests}
use Rattle.flit_tree_steps.specs.Steps.{key_word, row_at, inner_words}
use Rattle.flit_tree_laws.specs.TreeAnatomy.{machine_at, with_machine_at, effects_at, past_at, storing_at}

pub put_at : (p : Place) (free : List ℕ) (at : At) (told : ℕ) → let m = machine_takes p free (machine_at at) told in machine_at (with_machine_at at m) ≡ m
put_at p free (Root m) told = refl
put_at p free (Key m) told = refl
put_at p free (Edge m) told = refl
put_at p free (Rows m) told = refl
put_at p free (LeafWords m) told = refl
put_at p free (LeafValue m) told = refl
put_at p free (InnerWords m) told = refl
put_at p free (Link m) told = refl
put_at p free (Flag m) told = refl
put_at p free (Sibling c m) told = refl
put_at p free (Freeze c m) told = refl
put_at p free (Swing c m) told = refl
put_at p free (Value m) told = refl
put_at p free (Ends m) told = refl
put_at p free (Rests hand) told = refl

pub put_effects_at : (p : Place) (free : List ℕ) (at : At) (told : ℕ) →
    effects_at (with_machine_at at (machine_takes p free (machine_at at) told)) ≡ effects_at at
put_effects_at p free (Root m) told = refl
put_effects_at p free (Key m) told = refl
put_effects_at p free (Edge m) told = refl
put_effects_at p free (Rows m) told = refl
put_effects_at p free (LeafWords m) told = refl
put_effects_at p free (LeafValue m) told = refl
put_effects_at p free (InnerWords m) told = refl
put_effects_at p free (Link m) told = refl
put_effects_at p free (Flag m) told = refl
put_effects_at p free (Sibling c m) told = refl
put_effects_at p free (Freeze c m) told = refl
put_effects_at p free (Swing c m) told = refl
put_effects_at p free (Value m) told = refl
put_effects_at p free (Ends m) told = refl
put_effects_at p free (Rests hand) told = refl

pub put_past_at : (p : Place) (free : List ℕ) (call : Call) (reply : Reply) (at : At) (told : ℕ) →
    past_at call reply (with_machine_at at (machine_takes p free (machine_at at) told)) ≡ past_at call reply at
put_past_at p free call reply (Root m) told = refl
put_past_at p free call reply (Key m) told = refl
put_past_at p free call reply (Edge m) told = refl
put_past_at p free call reply (Rows m) told = refl
put_past_at p free call reply (LeafWords m) told = refl
put_past_at p free call reply (LeafValue m) told = refl
put_past_at p free call reply (InnerWords m) told = refl
put_past_at p free call reply (Link m) told = refl
put_past_at p free call reply (Flag m) told = refl
put_past_at p free call reply (Sibling c m) told = refl
put_past_at p free call reply (Freeze c m) told = refl
put_past_at p free call reply (Swing c m) told = refl
put_past_at p free call reply (Value m) told = refl
put_past_at p free call reply (Ends m) told = refl
put_past_at p free call reply (Rests hand) told = refl

pub put_storing_at : (l : Layout) (p : Place) (free : List ℕ) (call : Call) (path : Path) (at : At) (told : ℕ) →
    storing_at l call path (with_machine_at at (machine_takes p free (machine_at at) told)) ≡ storing_at l call path at
put_storing_at l p free call path (Root m) told = refl
put_storing_at l p free call path (Key m) told = refl
put_storing_at l p free call path (Edge m) told = refl
put_storing_at l p free call path (Rows m) told = refl
put_storing_at l p free call path (LeafWords m) told = ap (λ rows. record { first = key_word l (slice_index rows 0); values = key_of call ∷ 0 ∷ 0 ∷ [] })
    (store_goes_further m told).spare
put_storing_at l p free call path (LeafValue m) told = ap (λ rows. record { first = value_word_of l (slice_index rows 0); values = value_put call ∷ [] })
    (store_goes_further m told).spare
put_storing_at l p free call path (InnerWords m) told = ap (λ rows. record {
  first = key_word l (slice_index rows 1);
  values = inner_words (key_of call) path.key (slice_index rows 0) (row_at path);
}) (store_goes_further m told).spare
put_storing_at l p free call path (Link m) told = refl
put_storing_at l p free call path (Flag m) told = refl
put_storing_at l p free call path (Sibling c m) told = refl
put_storing_at l p free call path (Freeze c m) told = refl
put_storing_at l p free call path (Swing c m) told = refl
put_storing_at l p free call path (Value m) told = refl
put_storing_at l p free call path (Ends m) told = refl
put_storing_at l p free call path (Rests hand) told = refl
