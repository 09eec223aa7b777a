-- A call goes on behind its seek, to its answer: the next machine, and all that may follow it, are within what might follow,
-- where its rows were taken, their words were stored, and a value was loaded.
use Rattle.std.proofs.Common.{◌≡◌, ℕ, ◌+◌, ◌≤◌, ◌&&◌, Bool, true, false, List, length, Some, is_none, refl, sym, ◌∙◌, ap, subst, arith}
use Rattle.std.proofs.lemmas.Bool.{false≢true}
use Rattle.std.proofs.lemmas.Option.{none-some, same_Some}
use Rattle.flit_words.specs.declared.layouts.Layout.{Layout}
use Rattle.flit_model.specs.States.{State}
use Rattle.flit_model.specs.Effects.{after, answer}
use Rattle.flit_model.specs.declared.events.Event.{Event}
use Rattle.flit_model.specs.declared.events.Event.TheVariants.{Draw}
use Rattle.flit_model.specs.declared.calls.Call.{Call}
use Rattle.flit_model.specs.declared.calls.Reply.{Reply}
use Rattle.flit_place.specs.Tags.{Place}
use Rattle.flit_pv.specs.VLoads.{HeldVLoad, v_load_taken}
use Rattle.flit_pv.specs.declared.v_loads.VLoading.{VLoading}
use Rattle.flit_pv.specs.declared.v_loads.VLoading.TheVariants.{Reads as V_reads, Has as V_has}
use Rattle.flit_pv.specs.VLoads.{v_load_asks, v_load_asked}
use Rattle.flit_pv.specs.declared.stores.Storing.{Storing}
use Rattle.flit_pv.specs.declared.stores.Storing.TheVariants.{Reads as Store_reads, Writes, MakesRoom as Store_makes_room, Ended as Store_ended}
use Rattle.flit_pv.specs.declared.stores.Stored.{Stored}
use Rattle.flit_pv.specs.Stores.{HeldStore, store_taken}
use Rattle.flit_pv.specs.Fences.{HeldComplete, complete_asked, complete_taken}
use Rattle.flit_rows.specs.declared.take_row.Took.TheVariants.{Taken, None as NoRow}
use Rattle.flit_rows.specs.declared.take_row.Taking.{Taking}
use Rattle.flit_rows.specs.declared.take_row.Taking.TheVariants.{Draws, Ended as Take_ended}
use Rattle.flit_rows.specs.Taking.{HeldTake, take_asks, take_asked, take_taken}
use Rattle.flit_structure.specs.Meanings.{key_of}
use Rattle.flit_runs.specs.Workings.{Stores, VLoads}
use Rattle.flit_crew.specs.Machines.{Machine, Works, Takes, has_ended}
use Rattle.flit_crew.specs.Crews.{Who}
use Rattle.flit_crew_bounds.specs.Left.{machine_left, v_load_left, take_left, store_left}
use Rattle.flit_crew_bounds.specs.Winning.{would_win_at}
use Rattle.flit_tree_heap.specs.Views.{TreeHeap}
use Rattle.flit_tree_steps.specs.declared.operations.Path.{Path}
use Rattle.flit_tree_steps.specs.Operations.{At, Rows, LeafWords, LeafValue, InnerWords, Value, Ends, HeldOp}
use Rattle.flit_tree_steps.specs.Steps.{Carried, rows_by, leaf_by, leaf_so, leaf_value_by, leaf_value_so, inner_by, inner_so, value_by, stores_leaf}
use Rattle.flit_tree_limits.specs.TreeLimits.{still, seeks_if, all_inners, tree_behind}
use Rattle.flit_tree_limits.proofs.Starting.{total, more, to_leaf, to_leaf_so, to_value_so, to_inner_so, and_first}
use Rattle.flit_tree_limits.proofs.Resuming.{on, op_at, m_at, Own, GoesOn, Resumes}
use Rattle.flit_tree_limits.proofs.OwnStores.{Leaves, leaf_leaves, value_leaves, inner_leaves}

and_false : (b : Bool) → (b && false) ≡ true → ⊥
and_false true q = false≢true q
and_false false q = false≢true q

module _ (l : Layout) (p : Place) (free : List ℕ) (s : State) (e : Event) (h k : TreeHeap) (me you : Who) (call : Call) (reply : Reply) (path : Path) where
  abbrev it : Carried
  it = on l p free s e h k me you call reply path

  abbrev Mine : At → Type 0
  Mine at = Own l p free s e h k me you call reply path at

  abbrev Goal : At → Type 0
  Goal at = Resumes l p free s e h k me you call reply path at

  abbrev Goes : List ℕ → At → ℕ → HeldOp → Type 0
  Goes words at left next = GoesOn l p free s e h k me you call reply path words at left next

  abbrev then_at : At → Machine
  then_at at = m_at l p free s e h k me you call reply path at

  abbrev then_words : List ℕ
  then_words = (after s e).words

  abbrev behind : At → ℕ
  behind at = tree_behind l p s.words (op_at l p free s e h k me you call reply path at)

  -- it goes on to an answer
  answered : (q b : ℕ) → 0 + q + 0 ≤ 0 + q + b
  answered q b = omega arith

  -- ---- the value is loaded

  value_at : (m n : HeldVLoad) (x : VLoading) → n.at ≡ x → is_none (v_load_asks x n) ≡ true →
      Goes then_words (Value m) (machine_left (Works (VLoads n))) (value_by it n x)
  value_at m n V_reads is none = absurd (false≢true none)
  value_at m n (V_has raw) is none = subst (λ x. 0 + length n.hand.queue + 0 ≤ v_load_left x + length n.hand.queue + 0) (sym is)
      (answered (length n.hand.queue) 0)

  pub value_ends : (m : HeldVLoad) → has_ended p (then_at (Value m)) ≡ true → Goal (Value m)
  value_ends m ended = let n : HeldVLoad = v_load_taken m (answer s e) in
      value_at m n n.at refl (and_first (is_none (v_load_asked n)) true ended)

  -- ---- rows are taken

  -- the seeks that may follow, and one more where the edge isn't as it was loaded
  abbrev edge_more : List ℕ → ℕ
  edge_more words = more l p free words it (still l p (key_of call) words path.edge)

  draws_of : (x : Taking) → take_asks x ≡ Some e → Some Draw ≡ Some e
  draws_of Draws q = q
  draws_of (Take_ended took) q = absurd (none-some e q)

  rows_at : (m n : HeldTake) (x : Taking) → n.at ≡ x → is_none (take_asks x) ≡ true →
      Goes s.words (Rows m) (machine_left (Takes n)) (rows_by l it n x)
  rows_at m n Draws is none = absurd (false≢true none)
  rows_at m n (Take_ended Taken) is none = subst (λ x. total l p free s.words (stores_leaf l it n.hand)
      ≤ take_left x n.need n.hand.spare + length n.hand.queue + behind (Rows m)) (sym is)
      (up (total l p free s.words (stores_leaf l it n.hand)) (length n.hand.queue) (behind (Rows m)) (to_leaf l p free s.words it n.hand))
    where
      up : (t q b : ℕ) → t ≤ q + b → t ≤ 0 + q + b
      up t q b i = omega (arith, i)
  rows_at m n (Take_ended (NoRow ticket)) is none = subst (λ x. 0 + length n.hand.queue + 0
      ≤ take_left x n.need n.hand.spare + length n.hand.queue + behind (Rows m)) (sym is) (answered (length n.hand.queue) (behind (Rows m)))

  pub rows_end : (m : HeldTake) → Mine (Rows m) → has_ended p (then_at (Rows m)) ≡ true → Goal (Rows m)
  rows_end m own ended =
      let n : HeldTake = take_taken free m (answer s e) in
      subst (λ ws. Goes ws (Rows m) (machine_left (Takes n)) (rows_by l it n n.at))
      (subst (λ y. s.words ≡ (after s y).words) (same_Some Draw e (draws_of m.at own.asks)) refl)
      (rows_at m n n.at refl (and_first (is_none (take_asked n)) true ended))

  -- ---- words are stored, and none of them is an edge of a linked row

  abbrev Stay : Type 0
  Stay = Leaves l p free s e h k me you call reply path

  edge_same : Stay → edge_more then_words ≡ edge_more s.words
  edge_same stay = ap (λ now. seeks_if (would_win_at (p.slot path.edge.word) now path.edge.raw) (all_inners l then_words)) stay.edge
      ∙ ap (λ n. seeks_if (still l p (key_of call) s.words path.edge) n) stay.inners

  -- it has ended, so or so
  stored : (at : At) (n : HeldStore) (how : Stored) (next : HeldOp) (least : ℕ) → n.at ≡ Store_ended how → Stay → behind at ≡ least + edge_more s.words →
      total l p free then_words next ≤ length n.hand.queue + (least + edge_more then_words) → Goes then_words at (machine_left (Works (Stores n))) next
  stored at n how next least is stay b goes = subst (λ x. total l p free then_words next ≤ store_left x n.drafts + length n.hand.queue + behind at) (sym is)
      (up (total l p free then_words next) (length n.hand.queue) least (edge_more then_words) (edge_more s.words) (behind at) (edge_same stay) b goes)
    where
      up : (t q c a b d : ℕ) → a ≡ b → d ≡ c + b → t ≤ q + (c + a) → t ≤ 0 + q + d
      up t q c a b d e f i = omega (arith, e, f, i)

  -- or it hasn't
  stands_on : (t c a b : ℕ) → a ≡ b → t + (c + a) ≤ t + (c + b)
  stands_on t c a b e = omega (arith, e)

  leaf_at : (m n : HeldStore) (x : Storing) → n.at ≡ x → Stay → Goes then_words (LeafWords m) (machine_left (Works (Stores n))) (leaf_by l it n x)
  leaf_at m n (Store_reads how) is stay = stands_on (machine_left (Works (Stores n))) 16 (edge_more then_words) (edge_more s.words) (edge_same stay)
  leaf_at m n (Writes next) is stay = stands_on (machine_left (Works (Stores n))) 16 (edge_more then_words) (edge_more s.words) (edge_same stay)
  leaf_at m n (Store_makes_room next first) is stay =
      stands_on (machine_left (Works (Stores n))) 16 (edge_more then_words) (edge_more s.words) (edge_same stay)
  leaf_at m n (Store_ended how) is stay =
      stored (LeafWords m) n how (leaf_so l it n.hand how) 16 is stay refl (to_leaf_so l p free then_words it n.hand how)

  pub leaf_ends : (m : HeldStore) → Mine (LeafWords m) → Goal (LeafWords m)
  leaf_ends m own = let n : HeldStore = store_taken m (answer s e) in leaf_at m n n.at refl (leaf_leaves l p free s e h k me you call reply path m own)

  leaf_value_at : (m n : HeldStore) (x : Storing) → n.at ≡ x → Stay → Goes then_words (LeafValue m) (machine_left (Works (Stores n))) (leaf_value_by l it n x)
  leaf_value_at m n (Store_reads how) is stay = stands_on (machine_left (Works (Stores n))) 13 (edge_more then_words) (edge_more s.words) (edge_same stay)
  leaf_value_at m n (Writes next) is stay = stands_on (machine_left (Works (Stores n))) 13 (edge_more then_words) (edge_more s.words) (edge_same stay)
  leaf_value_at m n (Store_makes_room next first) is stay =
      stands_on (machine_left (Works (Stores n))) 13 (edge_more then_words) (edge_more s.words) (edge_same stay)
  leaf_value_at m n (Store_ended how) is stay =
      stored (LeafValue m) n how (leaf_value_so l it n.hand how) 13 is stay refl (to_value_so l p free then_words it n.hand how)

  pub leaf_value_ends : (m : HeldStore) → Mine (LeafValue m) → Goal (LeafValue m)
  leaf_value_ends m own = let n : HeldStore =
      store_taken m (answer s e) in leaf_value_at m n n.at refl (value_leaves l p free s e h k me you call reply path m own)

  inner_at : (m n : HeldStore) (x : Storing) → n.at ≡ x → Stay → Goes then_words (InnerWords m) (machine_left (Works (Stores n))) (inner_by l it n x)
  inner_at m n (Store_reads how) is stay = stands_on (machine_left (Works (Stores n))) 4 (edge_more then_words) (edge_more s.words) (edge_same stay)
  inner_at m n (Writes next) is stay = stands_on (machine_left (Works (Stores n))) 4 (edge_more then_words) (edge_more s.words) (edge_same stay)
  inner_at m n (Store_makes_room next first) is stay =
      stands_on (machine_left (Works (Stores n))) 4 (edge_more then_words) (edge_more s.words) (edge_same stay)
  inner_at m n (Store_ended how) is stay =
      stored (InnerWords m) n how (inner_so l it n.hand how) 4 is stay refl (to_inner_so l p free then_words it n.hand how)

  pub inner_ends : (m : HeldStore) → Mine (InnerWords m) → Goal (InnerWords m)
  inner_ends m own = let n : HeldStore = store_taken m (answer s e) in inner_at m n n.at refl (inner_leaves l p free s e h k me you call reply path m own)

  -- ---- the last machine stays where it has ended

  pub ends_never : (m : HeldComplete) → has_ended p (then_at (Ends m)) ≡ true → ⊥
  ends_never m ended = and_false (is_none (complete_asked (complete_taken m (answer s e)))) ended
