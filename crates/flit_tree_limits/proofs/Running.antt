-- While a machine of a call runs, no more may follow it than before.
use Rattle.std.proofs.Math.Nat.{mul-le-mul}
use Rattle.std.proofs.Common.{◌≡◌, ◌≢◌, ◌⊎◌, ⊎_elim, inl, inr, ℕ, length, None, ◌+◌, ◌*◌, ◌&&◌, ◌<◌, ◌≤◌, Bool, true, false, List, Option, Some, slice_index, refl, sym, ◌∙◌, ap, subst, arith}
use Rattle.std.proofs.lemmas.Bool.{cases_eq}
use Rattle.std.proofs.lemmas.Option.{none-some, same_Some}
use Rattle.std.proofs.lemmas.List.{length-map}
use Rattle.flit_words.specs.declared.layouts.Layout.{Layout}
use Rattle.flit_words.specs.Layouts.{words_of}
use Rattle.flit_words.specs.Words.{bare_of, version_of}
use Rattle.flit_place.proofs.WordTags.{bare-untagged, bare-dressed, version-bare}
use Rattle.flit_model.specs.States.{State, word_at}
use Rattle.flit_model.specs.Effects.{after, answer}
use Rattle.flit_model.specs.declared.events.Event.{Event}
use Rattle.flit_model.specs.declared.events.Event.TheVariants.{Load, Draw, Exchange}
use Rattle.flit_model.specs.declared.calls.Call.{Call}
use Rattle.flit_model.specs.declared.calls.Entry.{Entry}
use Rattle.flit_model.specs.declared.calls.Reply.{Reply}
use Rattle.flit_place.specs.Tags.{Place, dressed, shown}
use Rattle.flit_pv.specs.Hands.{with_persist}
use Rattle.flit_pv.specs.Loads.{HeldLoad, load_asks, load_asked, load_taken, load_takes}
use Rattle.flit_pv.specs.declared.loads.Loading.{Loading}
use Rattle.flit_pv.specs.declared.loads.Loading.TheVariants.{Reads, Asks, MakesRoom, Has}
use Rattle.flit_pv.specs.Exchanges.{HeldExchange, exchange_asked, exchange_taken}
use Rattle.flit_runs.specs.Workings.{Exchanges}
use Rattle.flit_runs.specs.Rules.{is_exchange}
use Rattle.flit_runs.specs.Soundness.{IsNext}
use Rattle.flit_rows.specs.declared.take_row.Taking.{Taking}
use Rattle.flit_rows.specs.declared.take_row.Taking.TheVariants.{Draws, Ended as Take_ended}
use Rattle.flit_rows.specs.Taking.{take_asks}
use Rattle.flit_structure.specs.Meanings.{key_of}
use Rattle.flit_crew.specs.Machines.{Machine, Works, Part, ToRead, HasRead, ToWin, HasWon, load_part, exchange_part, has_ended}
use Rattle.flit_crew.specs.Heaps.{at_word, at_shadow, waits_at}
use Rattle.flit_crew.specs.Crews.{Who}
use Rattle.flit_crew.proofs.WritingBack.{word_bare}
use Rattle.flit_crew_bounds.specs.Winning.{would_win_at, would_win, wins_now}
use Rattle.flit_crew_bounds.proofs.Turning.{exchange_elsewhere}
use Rattle.flit_crew_bounds.proofs.Written.{won_writes}
use Rattle.flit_tree_heap.specs.Edges.{other, row_of}
use Rattle.flit_tree_heap.specs.Views.{TreeHeap, IsEdge}
use Rattle.flit_tree_heap.specs.Exchanges.{ArePersistent, IsSwing}
use Rattle.flit_tree_heap.specs.Walks.{inners}
use Rattle.flit_tree_heap.proofs.Rows.{edge_open}
use Rattle.flit_tree_heap.proofs.Winning.{swing_fewer}
use Rattle.flit_tree_knowing.proofs.Winning.{Rests as Rests_at, is_swing}
use Rattle.flit_tree_laws.specs.Knowing.{IfTried, FreezesTo, Frozen, SwingsTo}
use Rattle.flit_tree_laws.proofs.Parts.{key_below}
use Rattle.flit_tree_laws.specs.TreeAnatomy.{machine_at, with_machine_at}
use Rattle.flit_tree_steps.specs.declared.operations.Path.{Path}
use Rattle.flit_tree_steps.specs.declared.operations.CleanUp.{CleanUp}
use Rattle.flit_tree_steps.specs.declared.operations.CleanUp.TheVariants.{Own as Own_removal, Help}
use Rattle.flit_tree_steps.specs.Operations.{At, Root, Key, Edge, Rows, LeafWords, LeafValue, InnerWords, Link, Flag, Sibling, Freeze, Swing, Value, Ends, Rests, HeldOp}
use Rattle.flit_tree_limits.specs.TreeLimits.{tree_behind, all_inners, seeks_if, most_end, still, again, way, rest_below, root_behind, edge_rest, edge_behind, sibling_again, unless_lost}
use Rattle.flit_tree_limits.proofs.Starting.{same_le, seeks_least, seeks_fewer, and_first}
use Rattle.flit_tree_limits.proofs.Withdrawing.{inners_as, ancestor_apart}
use Rattle.flit_tree_limits.proofs.TreeWords.{words_view, all_inners_is}
use Rattle.flit_crew_bounds.proofs.ExchangeEnds.{wins_as_read}
use Rattle.flit_tree_limits.proofs.Resuming.{op_at, words_then, m_at, Own, load_words, room_so, judges_so, reads_so}
use Rattle.flit_tree_limits.proofs.Loading.{bare_row, edge_below}
use Rattle.flit_tree_limits.proofs.OwnStores.{Leaves, leaf_leaves, value_leaves, inner_leaves}
use Rattle.flit_tree_limits.proofs.Moving.{exchange_falls}

-- ---- loads

-- a number that looks at how far a load is, and is no greater once its word is read as it stands, doesn't grow with the load's event
module _ (p : Place) (s : State) (e : Event) (m : HeldLoad) (f : Part → ℕ)
    (reads : (raw : ℕ) → slice_index s.words m.word ≡ raw → f (HasRead m.word raw) ≤ f (ToRead m.word)) where
  abbrev n_of : Loading → HeldLoad
  n_of x = load_takes p x m (answer s e)

  even : (a : ℕ) → a ≤ a
  even a = omega arith

  load_at : (x : Loading) → load_asks x m ≡ Some e → f (load_part (n_of x).at (n_of x).word) ≤ f (load_part x m.word)
  load_at Reads q = subst (λ y. f y ≤ f (ToRead m.word)) (sym (reads_so p m (answer s e) (p.slot m.word)).same_part)
      (reads (answer s e) (ap (answer s) (same_Some (Load m.word) e q)))
  load_at (Asks raw slot) q = subst (λ y. f y ≤ f (HasRead m.word raw)) (sym (judges_so p m raw (shown p.counted raw (Some (answer s e)))).same_part)
      (even (f (HasRead m.word raw)))
  load_at (MakesRoom raw first) q =
      subst (λ y. f y ≤ f (HasRead m.word raw)) (sym (room_so p (record m { hand = with_persist m.hand }) raw m.hand.queue).same_part)
      (even (f (HasRead m.word raw)))
  load_at (Has raw) q = absurd (none-some e q)

  pub load_falls : load_asked m ≡ Some e → f (load_part (load_taken p m (answer s e)).at (load_taken p m (answer s e)).word) ≤ f (load_part m.at m.word)
  load_falls q = load_at m.at q

-- ---- a call

module _ (l : Layout) (p : Place) (free : List ℕ) (s : State) (e : Event) (h k : TreeHeap) (me you : Who) (call : Call) (reply : Reply) (path : Path) where
  abbrev key : ℕ
  key = key_of call

  abbrev then_words : List ℕ
  then_words = words_then l p free s e h k me you call reply path

  abbrev machine_then : At → Machine
  machine_then at = m_at l p free s e h k me you call reply path at

  abbrev on_at : At → HeldOp
  on_at at = op_at l p free s e h k me you call reply path at

  abbrev Mine : At → Type 0
  Mine at = Own l p free s e h k me you call reply path at

  abbrev pub Runs : At → Type 0
  Runs at = tree_behind l p then_words (on_at (with_machine_at at (machine_then at))) ≤ tree_behind l p s.words (on_at at)

  -- where the words stay, so does a number of them
  same_words : (f : List ℕ → ℕ) → then_words ≡ s.words → f then_words ≤ f s.words
  same_words f same = same_le (f then_words) (f s.words) (ap f same)

  draws : (x : Taking) → take_asks x ≡ Some e → then_words ≡ s.words
  draws Draws q = subst (λ y. (after s y).words ≡ s.words) (same_Some Draw e q) refl
  draws (Take_ended took) q = absurd (none-some e q)

  -- ---- loads

  from_words : (at : At) (f : List ℕ → ℕ) (b : ℕ) → then_words ≡ s.words → f s.words ≤ b → f then_words ≤ b
  from_words at f b same i = subst (λ ws. f ws ≤ b) (sym same) i

  root_reads : (word raw : ℕ) → slice_index s.words word ≡ raw → root_behind l p key s.words (HasRead word raw) ≤ root_behind l p key s.words (ToRead word)
  root_reads word raw is = same_le (root_behind l p key s.words (HasRead word raw)) (root_behind l p key s.words (ToRead word))
      (ap (λ b. rest_below l p key s.words raw + most_end + seeks_if b (all_inners l s.words)) (wins_as_read p s.words word raw is)
      ∙ ap (λ x. rest_below l p key s.words x + most_end + again l p key s.words true) (sym is))

  root_runs : (m : HeldLoad) → Mine (Root m) → Runs (Root m)
  root_runs m own = from_words (Root m) (λ ws. root_behind l p key ws (load_part (load_taken p m (answer s e)).at (load_taken p m (answer s e)).word))
      (root_behind l p key s.words (load_part m.at m.word))
      (load_words s e m m.at own.asks) (load_falls p s e m (λ part. root_behind l p key s.words part) (root_reads m.word) own.asks)

  with_true : (a b : Bool) → b ≡ true → (a && b) ≡ a
  with_true true b q = q
  with_true false b q = refl

  sibling_reads : (word raw : ℕ) → slice_index s.words word ≡ raw → 8 + sibling_again l p key s.words path (HasRead word raw)
      ≤ 8 + sibling_again l p key s.words path (ToRead word)
  sibling_reads word raw is = same_le (8 + sibling_again l p key s.words path (HasRead word raw)) (8 + sibling_again l p key s.words path (ToRead word))
      (ap (λ b. 8 + seeks_if b (all_inners l s.words)) (with_true (still l p key s.words path.ancestor) (would_win p s.words word raw)
      (wins_as_read p s.words word raw is)))

  sibling_runs : (c : CleanUp) (m : HeldLoad) → Mine (Sibling c m) → Runs (Sibling c m)
  sibling_runs Own_removal m own = same_le 8 8 refl
  sibling_runs Help m own = from_words (Sibling Help m)
      (λ ws. 8 + sibling_again l p key ws path (load_part (load_taken p m (answer s e)).at (load_taken p m (answer s e)).word))
      (8 + sibling_again l p key s.words path (load_part m.at m.word)) (load_words s e m m.at own.asks)
      (load_falls p s e m (λ part. 8 + sibling_again l p key s.words path part) (sibling_reads m.word) own.asks)

  edge_reads : (m : HeldLoad) → Mine (Edge m) → (raw : ℕ) → slice_index s.words m.word ≡ raw →
      edge_behind l p key s.words path (HasRead m.word raw) ≤ edge_behind l p key s.words path (ToRead m.word)
  edge_reads m own raw is = both (edge_rest l p key s.words raw) (6 * way l p key s.words path.edge.raw)
      (seeks_if (still l p key s.words path.edge && (still l p key s.words path.ancestor && would_win p s.words m.word raw)) (all_inners l s.words))
      (seeks_if (still l p key s.words path.edge && still l p key s.words path.ancestor) (all_inners l s.words))
      (edge_below l p free s e h k me you call reply path m own raw is)
      (ap (λ b. seeks_if (still l p key s.words path.edge && b) (all_inners l s.words)) (with_true (still l p key s.words path.ancestor)
      (would_win p s.words m.word raw) (wins_as_read p s.words m.word raw is)))
    where
      both : (a b x y : ℕ) → a ≤ b → x ≡ y → a + 27 + x ≤ b + 27 + y
      both a b x y i q = omega (arith, i, q)

  edge_runs : (m : HeldLoad) → Mine (Edge m) → Runs (Edge m)
  edge_runs m own = from_words (Edge m)
      (λ ws. edge_behind l p key ws path (load_part (load_taken p m (answer s e)).at (load_taken p m (answer s e)).word))
      (edge_behind l p key s.words path (load_part m.at m.word)) (load_words s e m m.at own.asks)
      (load_falls p s e m (λ part. edge_behind l p key s.words path part) (edge_reads m own) own.asks)

  -- ---- stores of own rows

  stores : (c : ℕ) → Leaves l p free s e h k me you call reply path → c + again l p key then_words (still l p key then_words path.edge)
      ≤ c + again l p key s.words (still l p key s.words path.edge)
  stores c leaves = same_le (c + again l p key then_words (still l p key then_words path.edge)) (c + again l p key s.words (still l p key s.words path.edge))
      (ap (λ w. c + seeks_if (would_win_at (p.slot path.edge.word) w path.edge.raw) (all_inners l then_words)) leaves.edge
      ∙ ap (λ n. c + seeks_if (still l p key s.words path.edge) n) leaves.inners)

  -- ---- an exchange of an edge

  abbrev n_of_exchange : HeldExchange → HeldExchange
  n_of_exchange m = exchange_taken p m (answer s e)

  -- what is known where its event wins it
  record IsWonNow (m : HeldExchange) : Type 0 where
    asked : exchange_asked p m ≡ Some e
    part : exchange_part m.at ≡ ToWin
    won : exchange_part (n_of_exchange m).at ≡ HasWon
    old : ℕ
    event : e ≡ Exchange m.word old (dressed p.counted m.to)
    found : word_at s m.word ≡ old
    bare : bare_of old ≡ bare_of m.from

  module _ (m : HeldExchange) (at : At) (own : Mine at) (is_at : machine_at at ≡ Works (Exchanges m)) (edge : IsEdge l h m.word) (w : IsWonNow m) where
    below : m.word < length s.words
    below = within m.word (words_of l) (length h.words) (length s.words) (edge_open l free h own.kept m.word edge).within own.kept.words
        (ap length own.words ∙ length-map s.words bare_of)
      where
        within : (v a b d : ℕ) → v < a → b ≡ a → b ≡ d → v < d
        within v a b d i x y = omega (arith, i, x, y)

    written : slice_index then_words m.word ≡ dressed p.counted m.to
    written = won_writes p s m e w.asked w.part w.won below

    elsewhere : (v : ℕ) → v ≢ m.word → slice_index then_words v ≡ slice_index s.words v
    elsewhere v other = exchange_elsewhere p s m e v w.asked other

    next_is : IsNext m
    next_is = own.next m is_at w.part

    word_then : at_word k m.word ≡ m.to
    word_then = ap (λ ws. slice_index ws m.word) own.words_now ∙ word_bare then_words m.word ∙ ap bare_of written ∙ bare-dressed p.counted m.to
        ∙ bare-untagged m.to next_is.bare

    word_before : at_word h m.word ≡ bare_of m.from
    word_before = ap (λ ws. slice_index ws m.word) own.words ∙ word_bare s.words m.word ∙ ap bare_of w.found ∙ w.bare

    version_next : version_of m.to ≡ version_of (bare_of m.from) + 1
    version_next = next_is.next ∙ ap (λ v. v + 1) (sym (version-bare m.from))

    at_rest : at_word h m.word ≡ at_shadow h m.word
    at_rest = ⊎_elim (λ same. absurd
        (one_more (version_of m.to) (version_of (bare_of m.from)) version_next (ap version_of (sym word_then ∙ same ∙ word_before))))
        (λ rest. rest.0) (own.passes.words m.word)
      where
        one_more : (a b : ℕ) → a ≡ b + 1 → a ≡ b → ⊥
        one_more a b x y = omega (arith, x, y)

    none_waits : waits_at h m.word ≡ None
    none_waits = by_wait (waits_at h m.word) refl
      where
        ahead_not : (a b : ℕ) → a ≡ b + 1 → a ≡ b → ⊥
        ahead_not a b x y = omega (arith, x, y)

        by_wait : (o : Option Entry) → waits_at h m.word ≡ o → o ≡ None
        by_wait None q = refl
        by_wait (Some entry) q = absurd (ahead_not (version_of (at_word h m.word)) (version_of (at_shadow h m.word)) (own.kept.waits m.word entry q).ahead
            (ap version_of at_rest))

    rests : Rests_at h m.word (bare_of m.from) m.to
    rests = record { word = word_before; shadow = sym at_rest ∙ word_before; none = none_waits; bare = next_is.bare; next = version_next }

    persistent : ArePersistent h me.needs
    persistent v a needed = own.durable m is_at (ap (λ x. is_exchange (Some x)) w.event) v a needed

    -- each word leads to the row that it led to, where the exchange's does
    leads_same : row_of m.to ≡ row_of (bare_of m.from) → (v : ℕ) → row_of (slice_index then_words v) ≡ row_of (slice_index s.words v)
    leads_same same v = by_word (cases_eq v m.word)
      where
        by_word : (v ≡ m.word) ⊎ (v ≢ m.word) → row_of (slice_index then_words v) ≡ row_of (slice_index s.words v)
        by_word (inl q) = subst (λ x. row_of (slice_index then_words x) ≡ row_of (slice_index s.words x)) (sym q)
            (ap row_of written ∙ sym (bare_row (dressed p.counted m.to)) ∙ ap row_of (bare-dressed p.counted m.to) ∙ bare_row m.to ∙ same
            ∙ ap row_of (sym (ap bare_of w.found ∙ w.bare)) ∙ bare_row (slice_index s.words m.word))
        by_word (inr other) = ap row_of (elsewhere v other)

    bare_elsewhere : (v : ℕ) → v ≢ m.word → slice_index k.words v ≡ slice_index h.words v
    bare_elsewhere v other = ap (λ ws. slice_index ws v) own.words_now ∙ word_bare then_words v ∙ ap bare_of (elsewhere v other) ∙ sym (word_bare s.words v)
        ∙ ap (λ ws. slice_index ws v) (sym own.words)

  -- ---- by the phase

  zero_plus : (x : ℕ) → 0 + x ≡ x
  zero_plus x = omega arith

  -- a number without a constant
  abbrev plain_number : List ℕ → HeldExchange → ℕ → ℕ
  plain_number ws m behind = unless_lost l p key ws (again l p key ws (wins_now p ws m)) behind (exchange_part m.at)

  unzero : (m n : HeldExchange) (a b : ℕ) →
      unless_lost l p key then_words (0 + again l p key then_words (wins_now p then_words n)) a (exchange_part n.at)
      ≤ unless_lost l p key s.words (0 + again l p key s.words (wins_now p s.words m)) b (exchange_part m.at) →
      plain_number then_words n a ≤ plain_number s.words m b
  unzero m n a b i =
      subst (λ x. unless_lost l p key then_words x a (exchange_part n.at) ≤ plain_number s.words m b)
      (zero_plus (again l p key then_words (wins_now p then_words n)))
      (subst (λ y. unless_lost l p key then_words (0 + again l p key then_words (wins_now p then_words n)) a (exchange_part n.at)
      ≤ unless_lost l p key s.words y b (exchange_part m.at)) (zero_plus (again l p key s.words (wins_now p s.words m))) i)

  link_runs : (m : HeldExchange) → Mine (Link m) → has_ended p (machine_then (Link m)) ≡ false → Runs (Link m)
  link_runs m own going =
      unzero m (n_of_exchange m) 0 0 (exchange_falls l p key s m e own.asks 0 (λ ws. true) (λ ws. 0) (λ old event found bare part won. omega arith) going)

  flag_runs : (m : HeldExchange) → Mine (Flag m) → has_ended p (machine_then (Flag m)) ≡ false → Runs (Flag m)
  flag_runs m own going = exchange_falls l p key s m e own.asks 11 (λ ws. true) (λ ws. 11) (λ old event found bare part won. omega arith) going

  freeze_won : (c : CleanUp) (m : HeldExchange) → Mine (Freeze c m) → IsWonNow m →
      4 + again l p key then_words (still l p key then_words path.ancestor)
      ≤ 4 + again l p key s.words (still l p key s.words path.ancestor && wins_now p s.words m)
  freeze_won c m own w =
      let f : FreezesTo l free h me path m =
      subst (λ x. IfTried (FreezesTo l free h me path m) (Frozen l free h me path m) x) w.part own.knows.at.2 in
      let word_is : m.word ≡ other path.edge.word = f.aim.word ∙ f.sibling in
      let edge : IsEdge l h m.word = subst (IsEdge l h) (sym word_is) f.loaded.at in
      let apart : path.ancestor.word ≢ m.word = λ q. ancestor_apart l free h own.kept me.needs (key_of me.call) path.edge.word (bare_of path.edge.raw)
      path.ancestor.word (bare_of path.ancestor.raw) f.cleans.spot.row f.cleans.spot f.cleans.way (q ∙ word_is) in
      let same : row_of m.to ≡ row_of (bare_of m.from) = f.to.row_is ∙ ap (λ r. row_of (bare_of r)) (sym f.aim.from_is) in
      let still_same : still l p key then_words path.ancestor ≡ still l p key s.words path.ancestor =
      ap (λ x. would_win_at (p.slot path.ancestor.word) x path.ancestor.raw) (elsewhere m (Freeze c m) own refl edge w path.ancestor.word apart) in
      let many : all_inners l then_words ≡ all_inners l s.words = inners_as l then_words s.words (leads_same m (Freeze c m) own refl edge w same) in
      fewer (seeks_if (still l p key then_words path.ancestor) (all_inners l then_words))
      (seeks_if (still l p key s.words path.ancestor) (all_inners l s.words))
      (seeks_if (still l p key s.words path.ancestor && wins_now p s.words m) (all_inners l s.words))
      (ap (λ b. seeks_if b (all_inners l then_words)) still_same ∙ ap (λ x. seeks_if (still l p key s.words path.ancestor) x) many)
      (seeks_fewer (still l p key s.words path.ancestor) (still l p key s.words path.ancestor && wins_now p s.words m) (all_inners l s.words)
      (and_first (still l p key s.words path.ancestor) (wins_now p s.words m)))
    where
      fewer : (a b d : ℕ) → a ≡ b → b ≤ d → 4 + a ≤ 4 + d
      fewer a b d q i = omega (arith, q, i)

  freeze_runs : (c : CleanUp) (m : HeldExchange) → Mine (Freeze c m) → has_ended p (machine_then (Freeze c m)) ≡ false → Runs (Freeze c m)
  freeze_runs Own_removal m own going = same_le 4 4 refl
  freeze_runs Help m own going = exchange_falls l p key s m e own.asks 4 (λ ws. still l p key ws path.ancestor)
      (λ ws. 4 + again l p key ws (still l p key ws path.ancestor))
      (λ old event found bare part won. freeze_won Help m own (record {
        asked = own.asks;
        part = part;
        won = won;
        old = old;
        event = event;
        found = found;
        bare = bare;
      })) going

  swing_lowers : (c : CleanUp) (m : HeldExchange) → Mine (Swing c m) → IsWonNow m → all_inners l then_words + 1 ≤ all_inners l s.words
  swing_lowers c m own w =
      let f : SwingsTo l free h me path m = subst (λ x. IfTried (SwingsTo l free h me path m) (Unit {0}) x) w.part own.knows.at.2 in
      let edge : IsEdge l h m.word = subst (IsEdge l h) (sym f.aim.word) f.keeps.way.spot.loaded.at in
      let r : Rests_at h path.ancestor.word (bare_of path.ancestor.raw) m.to =
      subst (λ v. Rests_at h v (bare_of path.ancestor.raw) m.to) f.aim.word
      (subst (λ q. Rests_at h m.word (bare_of q) m.to) f.aim.from_is (rests m (Swing c m) own refl edge w)) in
      let swing : IsSwing l free h me.needs (key_of me.call) f.keeps.way.spot.row path.ancestor.word m.to f.keeps.spot.row path.sibling.word f.keeps.way.rows =
      is_swing l free h own.kept me.needs (persistent m (Swing c m) own refl edge w) (key_of me.call) (key_below l me own.served) path.edge.word
      (bare_of path.edge.raw) m.to path.sibling.word (bare_of path.sibling.raw) f.keeps.spot path.ancestor.word (bare_of path.ancestor.raw)
      (bare_of path.ancestor.raw) f.keeps.way refl r f.keeps.loaded f.keeps.side f.keeps.frozen f.to.row_is f.to.flag_is f.to.frozen_is in
      let t = own.kept.images h.words (words_view l free h own.kept s.words own.words) in
      let u = own.kept_now.images k.words (words_view l free k own.kept_now then_words own.words_now) in
      let fewer : inners u.0 + 1 ≤ inners t.0 =
      swing_fewer l free h me.needs (key_of me.call) f.keeps.way.spot.row path.ancestor.word m.to f.keeps.spot.row path.sibling.word f.keeps.way.rows 0
      own.kept swing h.words k.words t.0 u.0 (words_view l free h own.kept s.words own.words) t.1 u.1
      (λ v off. bare_elsewhere m (Swing c m) own refl edge w v (λ q. off (q ∙ f.aim.word)))
      (ap (at_word k) (sym f.aim.word) ∙ word_then m (Swing c m) own refl edge w) in
      by_count (inners u.0) (inners t.0) (all_inners l then_words) (all_inners l s.words) fewer
      (all_inners_is l free k own.kept_now then_words own.words_now u.0 u.1) (all_inners_is l free h own.kept s.words own.words t.0 t.1)
    where
      by_count : (a b x y : ℕ) → a + 1 ≤ b → x ≡ a → y ≡ b → x + 1 ≤ y
      by_count a b x y i q r = omega (arith, i, q, r)

  seeks_lower : (a b : ℕ) (wins : Bool) → a + 1 ≤ b → seeks_if false a ≤ 0 + seeks_if wins b
  seeks_lower a b wins i = through (seeks_if false a) (seeks_if true b) (seeks_if wins b) (mul-le-mul i (wider a b i)) (seeks_least wins b)
    where
      wider : (x y : ℕ) → x + 1 ≤ y → 6 * x + 36 ≤ 6 * y + 36
      wider x y j = omega (arith, j)

      through : (x y z : ℕ) → x ≤ y → y ≤ z → x ≤ 0 + z
      through x y z j d = omega (arith, j, d)

  swing_runs : (c : CleanUp) (m : HeldExchange) → Mine (Swing c m) → has_ended p (machine_then (Swing c m)) ≡ false → Runs (Swing c m)
  swing_runs Own_removal m own going = same_le 0 0 refl
  swing_runs Help m own going = unzero m (n_of_exchange m) (again l p key then_words false) (again l p key s.words false)
      (exchange_falls l p key s m e own.asks 0 (λ ws. true) (λ ws. again l p key ws false)
      (λ old event found bare part won. seeks_lower (all_inners l then_words) (all_inners l s.words) (wins_now p s.words m) (swing_lowers Help m own (record {
        asked = own.asks;
        part = part;
        won = won;
        old = old;
        event = event;
        found = found;
        bare = bare;
      }))) going)

  pub runs_at : (at : At) → Mine at → has_ended p (machine_then at) ≡ false → Runs at
  runs_at (Root m) own going = root_runs m own
  runs_at (Key m) own going = same_words (λ ws. tree_behind l p ws (on_at (Key m))) (load_words s e m m.at own.asks)
  runs_at (Edge m) own going = edge_runs m own
  runs_at (Rows m) own going = same_words (λ ws. tree_behind l p ws (on_at (Rows m))) (draws m.at own.asks)
  runs_at (LeafWords m) own going = stores 16 (leaf_leaves l p free s e h k me you call reply path m own)
  runs_at (LeafValue m) own going = stores 13 (value_leaves l p free s e h k me you call reply path m own)
  runs_at (InnerWords m) own going = stores 4 (inner_leaves l p free s e h k me you call reply path m own)
  runs_at (Link m) own going = link_runs m own going
  runs_at (Flag m) own going = flag_runs m own going
  runs_at (Sibling c m) own going = sibling_runs c m own
  runs_at (Freeze c m) own going = freeze_runs c m own going
  runs_at (Swing c m) own going = swing_runs c m own going
  runs_at (Value m) own going = same_le 0 0 refl
  runs_at (Ends m) own going = same_le 0 0 refl
  runs_at (Rests hand) own going = same_le 0 0 refl
