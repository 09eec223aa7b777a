-- A call's seek goes on from an ended load: of its first edge, of a row's key, of the edge below it, and of the sibling of a
-- flagged edge.
use Rattle.std.proofs.Common.{◌≡◌, ⊎_elim, ℕ, suc, nat_lt, ◌+◌, ◌*◌, ◌/◌, ◌%◌, ◌^◌, ◌==◌, ◌≤◌, ◌&&◌, Bool, true, false, List, length, slice_index, refl, sym, ◌∙◌, ap, subst, arith, if◌then◌else◌}
use Rattle.std.proofs.lemmas.Bool.{false≢true, eq-eqb, eqb-true}
use Rattle.flit_words.specs.declared.layouts.Layout.{Layout}
use Rattle.flit_words.specs.Words.{bare_of, value_of}
use Rattle.flit_model.specs.States.{State}
use Rattle.flit_model.specs.declared.events.Event.{Event}
use Rattle.flit_model.specs.declared.calls.Call.{Call}
use Rattle.flit_model.specs.declared.calls.Reply.{Reply}
use Rattle.flit_place.specs.Tags.{Place}
use Rattle.flit_pv.specs.declared.hands.Hand.{Hand}
use Rattle.flit_pv.specs.Loads.{HeldLoad, load_started}
use Rattle.flit_structure.specs.Meanings.{key_of}
use Rattle.flit_crew.specs.Heaps.{at_word}
use Rattle.flit_crew.specs.Machines.{Part, has_ended, load_part}
use Rattle.flit_crew.specs.Crews.{Who}
use Rattle.flit_crew.proofs.WritingBack.{word_bare}
use Rattle.flit_tree_heap.specs.Edges.{left, right, row_of}
use Rattle.flit_tree_heap.specs.Views.{TreeHeap, IsLeafRow, IsInnerRow, IsLed}
use Rattle.flit_tree_heap.specs.Exchanges.{side_now, key_now}
use Rattle.flit_tree_heap.proofs.Images.{nowhere}
use Rattle.flit_tree_steps.specs.declared.operations.EdgeWord.{EdgeWord}
use Rattle.flit_tree_steps.specs.declared.operations.Path.{Path}
use Rattle.flit_tree_steps.specs.declared.operations.CleanUp.{CleanUp}
use Rattle.flit_tree_steps.specs.declared.operations.CleanUp.TheVariants.{Own as Own_kind, Help as Help_kind}
use Rattle.flit_tree_steps.specs.Operations.{At, Root, Key, Edge, Sibling}
use Rattle.flit_tree_steps.specs.Steps.{Carried, stands, loaded, key_word, is_frozen, ancestor_below, further, with_sibling, sibling_got, sibling_by, sought, edge_got, edge_by, key_got, key_by, root_got, root_by, row_of as raw_row_of}
use Rattle.flit_tree_laws.proofs.Raws.{value_bare}
use Rattle.flit_tree_limits.specs.TreeLimits.{all_inners, way_from, still, again, rest_below, root_behind, edge_rest, edge_behind, sibling_behind}
use Rattle.flit_tree_limits.proofs.TreeWords.{way_on}
use Rattle.flit_tree_limits.proofs.Starting.{seeks_fewer, and_first, and_second, total, to_sought, to_sibling, and_both}
use Rattle.flit_crew_bounds.proofs.ExchangeEnds.{wins_as_read}
use Rattle.flit_tree_limits.proofs.Resuming.{WasRead, just_now, before, on, m_at, Own, GoesOn, Resumes, load_ends}

-- a row of 0 is 0 as a link says it, too
no_row : (raw : ℕ) → (raw_row_of raw == 0) ≡ false → (row_of raw == 0) ≡ false
unfolding row_of
no_row raw q = by_test (value_of raw / 4 == 0) refl
  where
    by_test : (b : Bool) → (value_of raw / 4 == 0) ≡ b → (value_of raw / 4 == 0) ≡ false
    by_test false r = r
    by_test true r = absurd (false≢true (sym q ∙ eq-eqb (value_of raw / 4 % 2 ^ 22) 0 (none (value_of raw / 4) (eqb-true (value_of raw / 4) 0 r))))
      where
        none : (v : ℕ) → v ≡ 0 → v % 2 ^ 22 ≡ 0
        none v e = omega (arith, e)

-- with its queue and n more to go
pub from_queue : (t q n : ℕ) → t ≤ q + n → t ≤ 0 + q + n
from_queue t q n i = omega (arith, i)

pub bare_row : (raw : ℕ) → row_of (bare_of raw) ≡ row_of raw
unfolding row_of
bare_row raw = ap (λ v. v / 4) (value_bare raw)

module _ (l : Layout) (p : Place) (free : List ℕ) (s : State) (e : Event) (h k : TreeHeap) (me you : Who) (call : Call) (reply : Reply) (path : Path) where
  abbrev it : Carried
  it = on l p free s e h k me you call reply path

  abbrev Mine : At → Type 0
  Mine at = Own l p free s e h k me you call reply path at

  abbrev Goal : At → Type 0
  Goal at = Resumes l p free s e h k me you call reply path at

  abbrev HasEnded : At → Type 0
  HasEnded at = has_ended p (m_at l p free s e h k me you call reply path at) ≡ true

  abbrev key : ℕ
  key = key_of call

  abbrev wins : EdgeWord → Bool
  wins x = still l p key s.words x

  abbrev seeks_where : Bool → ℕ
  seeks_where b = again l p key s.words b

  abbrev way : ℕ → ℕ
  way raw = way_from l s.words key (row_of raw)

  -- ---- the first edge

  -- what it was read as is what it is, and nobody has changed it
  root_so : (hand : Hand) (word raw : ℕ) (part : Part) → WasRead s.words word raw part →
      total l p free s.words (root_got l it hand word raw) ≤ 0 + length hand.queue + root_behind l p key s.words part
  root_so hand word raw _ (just_now is) =
      reads (length hand.queue) (way raw) (seeks_where (wins (loaded word raw) && wins (loaded word raw))) (seeks_where true)
      (6 * (way (slice_index s.words word) + 1) + 27 + seeks_where true)
      (seeks_fewer (wins (loaded word raw) && wins (loaded word raw)) true (all_inners l s.words)
      (λ q. and_both (wins (loaded word raw)) (wins (loaded word raw)) (wins_as_read p s.words word raw is) (wins_as_read p s.words word raw is)))
      (ap (λ x. 6 * (way x + 1) + 27 + seeks_where true) is)
    where
      reads : (q w a b t : ℕ) → a ≤ b → t ≡ 6 * (w + 1) + 27 + b → 3 + q + (3 + (6 * w + 27 + a)) ≤ 0 + q + t
      reads q w a b t i j = omega (arith, i, j)
  root_so hand word raw _ before =
      reads (length hand.queue) (way raw) (seeks_where (wins (loaded word raw) && wins (loaded word raw))) (seeks_where (wins (loaded word raw)))
      (seeks_fewer (wins (loaded word raw) && wins (loaded word raw)) (wins (loaded word raw)) (all_inners l s.words)
      (λ q. and_both (wins (loaded word raw)) (wins (loaded word raw)) q q))
    where
      reads : (q w a b : ℕ) → a ≤ b → 3 + q + (3 + (6 * w + 27 + a)) ≤ 0 + q + (6 * (w + 1) + 27 + b)
      reads q w a b i = omega (arith, i)

  pub root_ends : (m : HeldLoad) → Mine (Root m) → HasEnded (Root m) → Goal (Root m)
  root_ends m own ended = load_ends l p free s e h k me you call reply path (Root m) m (λ n x. root_by l it n x) own.asks ended
      (λ hand raw was. root_so hand m.word raw (load_part m.at m.word) was)

  -- ---- a row's key

  key_so : (hand : Hand) (m : HeldLoad) (value : ℕ) →
      GoesOn l p free s e h k me you call reply path s.words (Key m) (0 + length hand.queue) (key_got l it hand value)
  key_so hand m value = reads (length hand.queue) (6 * way path.edge.raw + 27 + seeks_where (wins path.edge && wins path.ancestor))
    where
      reads : (q n : ℕ) → 3 + q + n ≤ 0 + q + (3 + n)
      reads q n = omega arith

  pub key_ends : (m : HeldLoad) → Mine (Key m) → HasEnded (Key m) → Goal (Key m)
  key_ends m own ended = load_ends l p free s e h k me you call reply path (Key m) m (λ n x. key_by l it n x) own.asks ended
      (λ hand raw was. key_so hand m (value_of raw))

  -- ---- the edge below

  -- what is asked of the path's edges, and of the edge below
  abbrev both_win : Bool
  both_win = wins path.edge && wins path.ancestor

  abbrev all_win : EdgeWord → Bool
  all_win x = wins path.edge && (wins path.ancestor && wins x)

  -- the next ancestor is one of the two
  below_wins : both_win ≡ true → wins (ancestor_below path) ≡ true
  below_wins q = by_bit (is_frozen path.edge.raw)
    where
      by_bit : (b : Bool) → wins (if b then path.ancestor else path.edge) ≡ true
      by_bit true = and_second (wins path.edge) (wins path.ancestor) q
      by_bit false = and_first (wins path.edge) (wins path.ancestor) q

  all_first : (x : EdgeWord) → all_win x ≡ true → both_win ≡ true
  all_first x q = and_both (wins path.edge) (wins path.ancestor) (and_first (wins path.edge) (wins path.ancestor && wins x) q)
      (and_first (wins path.ancestor) (wins x) (and_second (wins path.edge) (wins path.ancestor && wins x) q))

  all_last : (x : EdgeWord) → all_win x ≡ true → wins x ≡ true
  all_last x q = and_second (wins path.ancestor) (wins x) (and_second (wins path.edge) (wins path.ancestor && wins x) q)

  -- what is left from the edge below on was left of the way
  abbrev IsStep : ℕ → Type 0
  IsStep raw = edge_rest l p key s.words raw ≤ 6 * way path.edge.raw

  edge_so : (hand : Hand) (word raw : ℕ) (part : Part) → WasRead s.words word raw part → (slice_index s.words word ≡ raw → IsStep raw) →
      (b : Bool) → (raw_row_of raw == 0) ≡ b →
      total l p free s.words (if b
      then sought l free it hand
      else stands (record it { path = further path word raw }) (Key (load_started hand (key_word l (raw_row_of raw)))))
      ≤ 0 + length hand.queue + edge_behind l p key s.words path part
  edge_so hand word raw _ (just_now is) is_step true q =
      ends (total l p free s.words (sought l free it hand)) (length hand.queue) (seeks_where both_win) (6 * way path.edge.raw)
      (to_sought l p free s.words it hand)
    where
      ends : (t q n x : ℕ) → t ≤ q + (27 + n) → t ≤ 0 + q + (x + 27 + n)
      ends t q n x i = omega (arith, i)
  edge_so hand word raw _ (just_now is) is_step false q =
      goes (length hand.queue) (way raw) (edge_rest l p key s.words raw) (way path.edge.raw)
      (seeks_where (wins (loaded word raw) && wins (ancestor_below path))) (seeks_where both_win)
      (ap (λ b. if b then 0 else 6 * (way raw + 1)) (no_row raw q)) (is_step is)
      (seeks_fewer (wins (loaded word raw) && wins (ancestor_below path)) both_win (all_inners l s.words)
      (λ so. and_both (wins (loaded word raw)) (wins (ancestor_below path)) (wins_as_read p s.words word raw is) (below_wins so)))
    where
      goes : (q w r v a b : ℕ) → r ≡ 6 * (w + 1) → r ≤ 6 * v → a ≤ b → 3 + q + (3 + (6 * w + 27 + a)) ≤ 0 + q + (6 * v + 27 + b)
      goes q w r v a b i j d = omega (arith, i, j, d)
  edge_so hand word raw _ before is_step true q =
      ends (total l p free s.words (sought l free it hand)) (length hand.queue) (seeks_where both_win) (seeks_where (all_win (loaded word raw)))
      (edge_rest l p key s.words raw) (to_sought l p free s.words it hand)
      (seeks_fewer both_win (all_win (loaded word raw)) (all_inners l s.words) (all_first (loaded word raw)))
    where
      ends : (t q n m x : ℕ) → t ≤ q + (27 + n) → n ≤ m → t ≤ 0 + q + (x + 27 + m)
      ends t q n m x i j = omega (arith, i, j)
  edge_so hand word raw _ before is_step false q =
      goes (length hand.queue) (way raw) (edge_rest l p key s.words raw) (seeks_where (wins (loaded word raw) && wins (ancestor_below path)))
      (seeks_where (all_win (loaded word raw))) (ap (λ b. if b then 0 else 6 * (way raw + 1)) (no_row raw q))
      (seeks_fewer (wins (loaded word raw) && wins (ancestor_below path)) (all_win (loaded word raw)) (all_inners l s.words)
      (λ so. and_both (wins (loaded word raw)) (wins (ancestor_below path)) (all_last (loaded word raw) so) (below_wins (all_first (loaded word raw) so))))
    where
      goes : (q w r a b : ℕ) → r ≡ 6 * (w + 1) → a ≤ b → 3 + q + (3 + (6 * w + 27 + a)) ≤ 0 + q + (r + 27 + b)
      goes q w r a b i j = omega (arith, i, j)

  edge_goes : (hand : Hand) (word raw : ℕ) (part : Part) → WasRead s.words word raw part → (slice_index s.words word ≡ raw → IsStep raw) →
      total l p free s.words (edge_got l free it hand word raw) ≤ 0 + length hand.queue + edge_behind l p key s.words path part
  unfolding edge_got
  edge_goes hand word raw part was is_step = edge_so hand word raw part was is_step (raw_row_of raw == 0) refl

  -- the rest of a seek from the edge below a row
  abbrev at_row : ℕ
  at_row = row_of (bare_of path.edge.raw)

  leaf_none : (r : ℕ) → IsLeafRow h r → row_of (at_word h (side_now l h key r)) ≡ 0
  leaf_none r f = by_side (nat_lt key (key_now l h r))
    where
      by_side : (b : Bool) → row_of (at_word h (if b then left r else right r)) ≡ 0
      by_side true = (nowhere (at_word h (left r)) f.no_left).0
      by_side false = (nowhere (at_word h (right r)) f.no_right).0

  pub edge_below : (m : HeldLoad) → Mine (Edge m) → (raw : ℕ) → slice_index s.words m.word ≡ raw → edge_rest l p key s.words raw
      ≤ 6 * way path.edge.raw
  edge_below m own raw is = ⊎_elim (λ f. on_leaf f.0) (λ f. on_inner f.0 f.1) own.knows.at.reached
    where
      same_key : key_of me.call ≡ key
      same_key = ap key_of (sym own.call)

      -- what is loaded is the word of the row's edge for the key
      read : row_of raw ≡ row_of (at_word h (side_now l h key at_row))
      read = sym (bare_row raw) ∙ ap (λ x. row_of (bare_of x)) (sym is) ∙ ap row_of (sym (word_bare s.words m.word))
          ∙ ap (λ ws. row_of (slice_index ws m.word)) (sym own.words)
          ∙ ap (λ w. row_of (at_word h w)) (own.knows.at.word ∙ ap (λ q. side_now l h q at_row) same_key)

      on_leaf : IsLeafRow h at_row → edge_rest l p key s.words raw ≤ 6 * way path.edge.raw
      on_leaf f = subst (λ b. (if b then 0 else rest_below l p key s.words raw) ≤ 6 * way path.edge.raw)
          (sym (eq-eqb (row_of raw) 0 (read ∙ leaf_none at_row f))) (omega arith)

      on_inner : IsInnerRow l h at_row → IsLed l free h me.needs (key_of me.call) at_row → edge_rest l p key s.words raw ≤ 6 * way path.edge.raw
      on_inner inner led = by_test (row_of raw == 0)
        where
          on : way_from l s.words key at_row ≡ suc (way_from l s.words key (row_of (at_word h (side_now l h key at_row))))
          on = way_on l free h own.kept s.words own.words me.needs key at_row own.knows.at.stands.spot.loaded.linked inner
              (subst (λ q. IsLed l free h me.needs q at_row) same_key led)

          goes : way path.edge.raw ≡ suc (way raw)
          goes = ap (λ r. way_from l s.words key r) (sym (bare_row path.edge.raw)) ∙ on ∙ ap (λ r. suc (way_from l s.words key r)) (sym read)

          six : (a b : ℕ) → b ≡ suc a → 6 * (a + 1) ≤ 6 * b
          six a b q = omega (arith, q)

          by_test : (b : Bool) → (if b then 0 else rest_below l p key s.words raw) ≤ 6 * way path.edge.raw
          by_test true = omega arith
          by_test false = six (way raw) (way path.edge.raw) goes

  pub edge_ends : (m : HeldLoad) → Mine (Edge m) → HasEnded (Edge m) → Goal (Edge m)
  edge_ends m own ended = load_ends l p free s e h k me you call reply path (Edge m) m (λ n x. edge_by l free it n x) own.asks ended
      (λ hand raw was. edge_goes hand m.word raw (load_part m.at m.word) was (λ is. edge_below m own raw is))

  -- ---- the sibling

  sibling_so : (c : CleanUp) (hand : Hand) (word raw : ℕ) (part : Part) → WasRead s.words word raw part →
      total l p free s.words (sibling_got l c (record it { path = with_sibling path word raw }) hand)
      ≤ 0 + length hand.queue + sibling_behind l p key s.words c path part
  sibling_so Own_kind hand word raw part was =
      let then_on : Carried = record it { path = with_sibling path word raw } in
      from_queue (total l p free s.words (sibling_got l Own_kind then_on hand)) (length hand.queue) 8 (to_sibling l p free s.words Own_kind then_on hand)
  sibling_so Help_kind hand word raw _ (just_now is) =
      let then_on : Carried = record it { path = with_sibling path word raw } in
      ends (total l p free s.words (sibling_got l Help_kind then_on hand)) (length hand.queue) (seeks_where (wins path.ancestor && wins (loaded word raw)))
      (seeks_where (wins path.ancestor)) (to_sibling l p free s.words Help_kind then_on hand)
      (seeks_fewer (wins path.ancestor && wins (loaded word raw)) (wins path.ancestor) (all_inners l s.words)
      (λ so. and_both (wins path.ancestor) (wins (loaded word raw)) so (wins_as_read p s.words word raw is)))
    where
      ends : (t q n m : ℕ) → t ≤ q + (8 + n) → n ≤ m → t ≤ 0 + q + (8 + m)
      ends t q n m i j = omega (arith, i, j)
  sibling_so Help_kind hand word raw _ before =
      let then_on : Carried = record it { path = with_sibling path word raw } in
      from_queue (total l p free s.words (sibling_got l Help_kind then_on hand)) (length hand.queue)
      (8 + seeks_where (wins path.ancestor && wins (loaded word raw))) (to_sibling l p free s.words Help_kind then_on hand)

  pub sibling_ends : (c : CleanUp) (m : HeldLoad) → Mine (Sibling c m) → HasEnded (Sibling c m) → Goal (Sibling c m)
  sibling_ends c m own ended = load_ends l p free s e h k me you call reply path (Sibling c m) m (λ n x. sibling_by l c it n x) own.asks ended
      (λ hand raw was. sibling_so c hand m.word raw (load_part m.at m.word) was)
