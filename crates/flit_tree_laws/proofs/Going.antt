-- What a call knows as its own machine goes on, by an event that leaves the heap.
use Rattle.std.proofs.Common.{◌≡◌, ℕ, ◌≤◌, Bool, true, false, List, [], length, slice_index, inl, inr, refl, sym, ◌∙◌, ap, subst}
use Rattle.flit_words.specs.declared.layouts.Layout.{Layout}
use Rattle.flit_words.specs.Layouts.{row_word_of, value_word_of}
use Rattle.flit_words.specs.Words.{version_of, value_of, bare_of, is_tagged}
use Rattle.flit_place.specs.Tags.{Place}
use Rattle.flit_place.proofs.WordTags.{version-bare}
use Rattle.flit_model.specs.declared.calls.Reply.{Reply}
use Rattle.flit_pv.specs.declared.hands.Hand.{Hand}
use Rattle.flit_pv.specs.declared.loads.Loading.{Loading}
use Rattle.flit_pv.specs.declared.loads.Loading.TheVariants.{Reads as Load_reads, Asks as Load_asks, MakesRoom as Load_makes_room, Has as Load_has}
use Rattle.flit_pv.specs.Loads.{HeldLoad, load_taken}
use Rattle.flit_pv.specs.declared.v_loads.VLoading.{VLoading}
use Rattle.flit_pv.specs.declared.v_loads.VLoading.TheVariants.{Reads as V_reads, Has as V_has}
use Rattle.flit_pv.specs.VLoads.{HeldVLoad, v_load_taken}
use Rattle.flit_pv.specs.Exchanges.{HeldExchange, exchange_taken}
use Rattle.flit_pv.specs.Stores.{store_taken}
use Rattle.flit_pv.specs.declared.exchanges.Exchanging.{Exchanging}
use Rattle.flit_pv.specs.declared.exchanges.Exchanging.TheVariants.{Ready, Tries, TriesBare, WritesBack, Withdraws, Lowers, Ended}
use Rattle.flit_pv.specs.declared.exchanges.Exchanged.TheVariants.{Won, Lost, Worn}
use Rattle.flit_pv.proofs.OneEvent.{store_goes_further, exchange_goes_on}
use Rattle.flit_rows.specs.Shares.{rows_in}
use Rattle.flit_rows.specs.Taking.{HeldTake}
use Rattle.flit_runs.specs.Workings.{Loads, VLoads, Exchanges}
use Rattle.flit_runs.specs.Soundness.{Needs}
use Rattle.flit_structure.specs.Meanings.{IsServed, key_of}
use Rattle.flit_crew.specs.Machines.{Works, Takes, Part, ToRead, HasRead, HasLost, AimsToLoad, AimsToExchange, part_of, load_part, v_load_part, exchange_part, machine_takes, working_in}
use Rattle.flit_crew.specs.Heaps.{at_word}
use Rattle.flit_crew.specs.Crews.{Who}
use Rattle.flit_crew.specs.Obligations.{HasRead_so}
use Rattle.flit_crew.proofs.Aiming.{aim_stays}
use Rattle.flit_tree_heap.specs.Edges.{other, row_of}
use Rattle.flit_tree_heap.specs.Views.{TreeHeap, IsLinked, IsInnerRow, IsLed}
use Rattle.flit_tree_heap.specs.Kept.{IsKept}
use Rattle.flit_tree_heap.specs.Exchanges.{side_now}
use Rattle.flit_tree_heap.specs.Searches.{HasLoaded}
use Rattle.flit_tree_heap.proofs.Leading.{two_inner, led_top}
use Rattle.flit_tree_heap.proofs.Sameness.{edge_other}
use Rattle.flit_tree_knowing.proofs.Loading.{top_side, leaf_side, edge_loaded}
use Rattle.flit_tree_knowing.proofs.Winning.{edge_now}
use Rattle.flit_tree_steps.specs.declared.operations.Path.{Path}
use Rattle.flit_tree_steps.specs.declared.operations.EdgeWord.{EdgeWord}
use Rattle.flit_tree_steps.specs.Operations.{At, Root, Key, Edge, Rows, LeafWords, LeafValue, InnerWords, Link, Flag, Sibling, Freeze, Swing, Value, Ends, Rests}
use Rattle.flit_tree_laws.specs.Knowing.{IfRead, IfTried, LeadsTo, AimsAt, HasRows, IsAlone, HasEdge, EdgeRead, LinksTo, FlagsTo, Cleans, Flagged, FreezesTo, Frozen, SwingsTo}
use Rattle.flit_tree_laws.specs.TreeAnatomy.{machine_at, with_machine_at, with_exchange, with_take}
use Rattle.flit_tree_laws.specs.TreeCrew.{IsAloneIf, KnowsAt}
use Rattle.flit_tree_laws.proofs.Parts.{if_tried, key_below, key_under}

-- ---- machines keep what they were started for

load_aim : (v w : ℕ) → AimsToLoad v ≡ AimsToLoad w → v ≡ w
load_aim v w e = cc

load_stays : (p : Place) (m : HeldLoad) (told : ℕ) → (load_taken p m told).word ≡ m.word
load_stays p m told = load_aim (load_taken p m told).word m.word (aim_stays p [] (Works (Loads m)) told)

v_load_stays : (p : Place) (m : HeldVLoad) (told : ℕ) → (v_load_taken m told).word ≡ m.word
v_load_stays p m told = load_aim (v_load_taken m told).word m.word (aim_stays p [] (Works (VLoads m)) told)

-- an exchange keeps its word and what it exchanges, and its rows
pub record StaysSo (m n : HeldExchange) : Type 0 where
  pub word : n.word ≡ m.word
  pub from : n.from ≡ m.from
  pub to : n.to ≡ m.to
  pub spare : n.hand.spare ≡ m.hand.spare

exchange_aim : (m n : HeldExchange) → n.hand.spare ≡ m.hand.spare → AimsToExchange n.word n.from n.to ≡ AimsToExchange m.word m.from m.to → StaysSo m n
exchange_aim m n s e = record {
  word = word n.word n.from n.to m.word m.from m.to e;
  from = from n.word n.from n.to m.word m.from m.to e;
  to = to n.word n.from n.to m.word
      m.from m.to e;
  spare = s;
}
  where
    word : (a b c d e f : ℕ) → AimsToExchange a b c ≡ AimsToExchange d e f → a ≡ d
    word a b c d e f q = cc

    from : (a b c d e f : ℕ) → AimsToExchange a b c ≡ AimsToExchange d e f → b ≡ e
    from a b c d e f q = cc

    to : (a b c d e f : ℕ) → AimsToExchange a b c ≡ AimsToExchange d e f → c ≡ f
    to a b c d e f q = cc

pub exchange_stays : (p : Place) (m : HeldExchange) (told : ℕ) → StaysSo m (exchange_taken p m told)
exchange_stays p m told = exchange_aim m (exchange_taken p m told) (exchange_goes_on p m told).spare (aim_stays p [] (Works (Exchanges m)) told)

abbrev pub rows_on : (free : List ℕ) (hand now : Hand) → now.spare ≡ hand.spare → HasRows free hand → HasRows free now
rows_on free hand now e f = record {
  leaf = f.leaf;
  inner = f.inner;
  own = ap rows_in e ∙ f.own;
  first = ap (λ rows. slice_index rows 0) e ∙ f.first;
  second = ap (λ rows. slice_index rows 1) e ∙ f.second;
  apart = f.apart;
  leaf_free = f.leaf_free;
  inner_free = f.inner_free;
}

never_reads : (at : Exchanging) (word : ℕ) → exchange_part at ≡ ToRead word → ⊥
never_reads Ready word e = absurd (cc)
never_reads (Tries slot) word e = absurd (cc)
never_reads TriesBare word e = absurd (cc)
never_reads WritesBack word e = absurd (cc)
never_reads Withdraws word e = absurd (cc)
never_reads (Lowers slot found) word e = absurd (cc)
never_reads (Ended Won) word e = absurd (cc)
never_reads (Ended (Lost found)) word e = absurd (cc)
never_reads (Ended (Worn x version)) word e = absurd (cc)

reads_word : (at : Loading) (w word : ℕ) → load_part at w ≡ ToRead word → w ≡ word
reads_word Load_reads w word e = cc
reads_word (Load_asks raw slot) w word e = absurd (cc)
reads_word (Load_makes_room raw first) w word e = absurd (cc)
reads_word (Load_has raw) w word e = absurd (cc)

v_reads_word : (at : VLoading) (w word : ℕ) → v_load_part at w ≡ ToRead word → w ≡ word
v_reads_word V_reads w word e = cc
v_reads_word (V_has raw) w word e = absurd (cc)

module _ (l : Layout) (free : List ℕ) (h : TreeHeap) (me : Who) (path : Path) (m n : HeldExchange) (s : StaysSo m n) where
  aim_on : (edge : EdgeWord) → AimsAt edge m → AimsAt edge n
  aim_on edge a = record { word = s.word ∙ a.word; from_is = s.from ∙ a.from_is }

  to_on : (row : ℕ) (flag frozen : Bool) → LeadsTo m.to row flag frozen → LeadsTo n.to row flag frozen
  to_on row flag frozen f = subst (λ t. LeadsTo t row flag frozen) (sym s.to) f

  links_on : LinksTo l free h me path m → LinksTo l free h me path n
  links_on f = record {
    place = f.place;
    rows = rows_on free m.hand n.hand s.spare f.rows;
    stored = f.stored;
    value = f.value;
    inner_stored = f.inner_stored;
    aim = aim_on path.edge f.aim;
    to = to_on f.rows.inner false false f.to;
  }

  flags_on : FlagsTo l free h me path m → FlagsTo l free h me path n
  flags_on f = record {
    stands = f.stands;
    plain = f.plain;
    leaf = f.leaf;
    has_key = f.has_key;
    aim = aim_on path.edge f.aim;
    to = to_on (row_of (bare_of path.edge.raw)) true false f.to;
  }

  pub flagged_on : Flagged l free h me path m → Flagged l free h me path n
  flagged_on f = record {
    word = s.word ∙ f.word;
    bare = ap is_tagged s.to ∙ f.bare;
    cleans = subst (Cleans l free h me path) (sym s.to) f.cleans;
  }

  freezes_on : FreezesTo l free h me path m → FreezesTo l free h me path n
  freezes_on f = record {
    cleans = f.cleans;
    sibling = f.sibling;
    loaded = f.loaded;
    unfrozen = f.unfrozen;
    aim = aim_on path.sibling f.aim;
    to = to_on (row_of (bare_of path.sibling.raw)) (Rattle.flit_tree_heap.specs.Edges.flag_of (bare_of path.sibling.raw)) true f.to;
  }

  pub frozen_on : Frozen l free h me path m → Frozen l free h me path n
  frozen_on f = record {
    cleans = f.cleans;
    sibling = f.sibling;
    bare = ap is_tagged s.to ∙ f.bare;
    loaded = subst (HasLoaded l h me.needs (other path.edge.word)) (sym s.to) f.loaded;
    frozen = ap Rattle.flit_tree_heap.specs.Edges.frozen_of s.to ∙ f.frozen;
  }

  swings_on : SwingsTo l free h me path m → SwingsTo l free h me path n
  swings_on f = record {
    keeps = f.keeps;
    aim = aim_on path.ancestor f.aim;
    to = to_on (row_of (bare_of path.sibling.raw)) (Rattle.flit_tree_heap.specs.Edges.flag_of (bare_of path.sibling.raw)) false f.to;
  }

  pub link_part : (part : Part) → IfTried (LinksTo l free h me path m) (Unit {0}) part → IfTried (LinksTo l free h me path n) (Unit {0}) part
  link_part part f = if_tried (LinksTo l free h me path m) (Unit {0}) (LinksTo l free h me path n) (Unit {0}) links_on (λ x. x) part f

  pub flag_part : (part : Part) → IfTried (FlagsTo l free h me path m) (Flagged l free h me path m) part →
      IfTried (FlagsTo l free h me path n) (Flagged l free h me path n) part
  flag_part part f = if_tried (FlagsTo l free h me path m) (Flagged l free h me path m) (FlagsTo l free h me path n) (Flagged l free h me path n) flags_on
      flagged_on part f

  pub freeze_part : (part : Part) → IfTried (FreezesTo l free h me path m) (Frozen l free h me path m) part →
      IfTried (FreezesTo l free h me path n) (Frozen l free h me path n) part
  freeze_part part f = if_tried (FreezesTo l free h me path m) (Frozen l free h me path m) (FreezesTo l free h me path n) (Frozen l free h me path n) freezes_on
      frozen_on part f

  pub swing_part : (part : Part) → IfTried (SwingsTo l free h me path m) (Unit {0}) part → IfTried (SwingsTo l free h me path n) (Unit {0}) part
  swing_part part f = if_tried (SwingsTo l free h me path m) (Unit {0}) (SwingsTo l free h me path n) (Unit {0}) swings_on (λ x. x) part f

-- ---- what it knows doesn't hang on the rest of its machine

module _ (l : Layout) (p : Place) (free : List ℕ) (h : TreeHeap) (me : Who) (reply : Reply) (path : Path) where
  pub steady_at : (at : At) (told : ℕ) → part_of (machine_takes p free (machine_at at) told) ≡ part_of (machine_at at) →
      KnowsAt l free h me reply path at → KnowsAt l free h me reply path (with_machine_at at (machine_takes p free (machine_at at) told))
  steady_at (Root m) told same f = record {
    alone = f.alone;
    word = load_stays p m told ∙ f.word;
    read = subst (IfRead (λ raw. HasEdge l free h me 4 (bare_of raw))) (sym same) f.read;
  }
  steady_at (Key m) told same f = record {
    alone = f.alone;
    stands = f.stands;
    reached = f.reached;
    word = load_stays p m told ∙ f.word;
    read = subst (IfRead (λ raw. bare_of raw ≡ at_word h (row_word_of l (row_of (bare_of path.edge.raw)) 0))) (sym same) f.read;
  }
  steady_at (Edge m) told same f = record {
    alone = f.alone;
    stands = f.stands;
    reached = f.reached;
    key_is = f.key_is;
    word = load_stays p m told ∙ f.word;
    read = subst (IfRead (EdgeRead l free h me (row_of (bare_of path.edge.raw)))) (sym same) f.read;
  }
  steady_at (Rows m) told same f = f
  steady_at (LeafWords m) told same f = record {
    place = f.place;
    rows = rows_on free m.hand (store_taken m told).hand (store_goes_further m told).spare f.rows;
    private = f.private;
  }
  steady_at (LeafValue m) told same f = record {
    place = f.place;
    rows = rows_on free m.hand (store_taken m told).hand (store_goes_further m told).spare f.rows;
    valued = f.valued;
    stored = f.stored;
    private = f.private;
  }
  steady_at (InnerWords m) told same f = record {
    place = f.place;
    rows = rows_on free m.hand (store_taken m told).hand (store_goes_further m told).spare f.rows;
    stored = f.stored;
    value = f.value;
  }
  steady_at (Link m) told same f =
      let n : HeldExchange = exchange_taken p m told in (
        f.0,
        subst (IsAloneIf l free h me) (sym same) f.1,
        subst (IfTried (LinksTo l free h me path n) (Unit {0})) (sym same) (link_part l free h me path m n (exchange_stays p m told) (exchange_part m.at) f.2),
      )
  steady_at (Flag m) told same f =
      let n : HeldExchange = exchange_taken p m told in (
        f.0,
        f.1,
        subst (IfTried (FlagsTo l free h me path n) (Flagged l free h me path n)) (sym same)
            (flag_part l free h me path m n (exchange_stays p m told) (exchange_part m.at) f.2),
      )
  steady_at (Sibling c m) told same f = (
    f.0,
    record {
      alone = f.1.alone;
      cleans = f.1.cleans;
      word = load_stays p m told ∙ f.1.word;
      read = subst (IfRead (λ raw. HasLoaded l h me.needs (other path.edge.word) (bare_of raw))) (sym same) f.1.read;
    },
  )
  steady_at (Freeze c m) told same f =
      let n : HeldExchange = exchange_taken p m told in (
        f.0,
        f.1,
        subst (IfTried (FreezesTo l free h me path n) (Frozen l free h me path n)) (sym same)
            (freeze_part l free h me path m n (exchange_stays p m told) (exchange_part m.at) f.2),
      )
  steady_at (Swing c m) told same f =
      let n : HeldExchange = exchange_taken p m told in (
        f.0,
        f.1,
        subst (IfTried (SwingsTo l free h me path n) (Unit {0})) (sym same)
            (swing_part l free h me path m n (exchange_stays p m told) (exchange_part m.at) f.2),
      )
  steady_at (Value m) told same f = (
    f.0,
    record {
      valued = f.1.valued;
      linked = f.1.linked;
      saw = f.1.saw;
      word = v_load_stays p m told ∙ f.1.word;
      read = subst (IfRead (λ raw. bare_of raw ≡ at_word h (value_word_of l (row_of (bare_of path.edge.raw))))) (sym same) f.1.read;
    },
  )
  steady_at (Ends m) told same f = f
  steady_at (Rests hand) told same f = absurd f

  -- its exchange is lost, and nothing is private
  pub loses_at : (m k : HeldExchange) (found : ℕ) → exchange_part k.at ≡ HasLost found → IsAlone l free h me → (at : At) → machine_at at ≡ Works (Exchanges m) →
      KnowsAt l free h me reply path at → KnowsAt l free h me reply path (with_exchange at k)
  loses_at m k found lost alone (Root x) e f = absurd (cc)
  loses_at m k found lost alone (Key x) e f = absurd (cc)
  loses_at m k found lost alone (Edge x) e f = absurd (cc)
  loses_at m k found lost alone (Rows x) e f = absurd (cc)
  loses_at m k found lost alone (LeafWords x) e f = absurd (cc)
  loses_at m k found lost alone (LeafValue x) e f = absurd (cc)
  loses_at m k found lost alone (InnerWords x) e f = absurd (cc)
  loses_at m k found lost alone (Link x) e f =
      (f.0, subst (IsAloneIf l free h me) (sym lost) alone, subst (IfTried (LinksTo l free h me path k) (Unit {0})) (sym lost) tt)
  loses_at m k found lost alone (Flag x) e f = (f.0, f.1, subst (IfTried (FlagsTo l free h me path k) (Flagged l free h me path k)) (sym lost) tt)
  loses_at m k found lost alone (Sibling c x) e f = absurd (cc)
  loses_at m k found lost alone (Freeze c x) e f = (f.0, f.1, subst (IfTried (FreezesTo l free h me path k) (Frozen l free h me path k)) (sym lost) tt)
  loses_at m k found lost alone (Swing c x) e f = (f.0, f.1, subst (IfTried (SwingsTo l free h me path k) (Unit {0})) (sym lost) tt)
  loses_at m k found lost alone (Value x) e f = absurd (cc)
  loses_at m k found lost alone (Ends x) e f = absurd (cc)
  loses_at m k found lost alone (Rests hand) e f = absurd (cc)

  -- it draws a row
  pub draws_at : (m k : HeldTake) (at : At) → machine_at at ≡ Takes m → KnowsAt l free h me reply path at → KnowsAt l free h me reply path (with_take at k)
  draws_at m k (Root x) e f = absurd (cc)
  draws_at m k (Key x) e f = absurd (cc)
  draws_at m k (Edge x) e f = absurd (cc)
  draws_at m k (Rows x) e f = f
  draws_at m k (LeafWords x) e f = absurd (cc)
  draws_at m k (LeafValue x) e f = absurd (cc)
  draws_at m k (InnerWords x) e f = absurd (cc)
  draws_at m k (Link x) e f = absurd (cc)
  draws_at m k (Flag x) e f = absurd (cc)
  draws_at m k (Sibling c x) e f = absurd (cc)
  draws_at m k (Freeze c x) e f = absurd (cc)
  draws_at m k (Swing c x) e f = absurd (cc)
  draws_at m k (Value x) e f = absurd (cc)
  draws_at m k (Ends x) e f = absurd (cc)
  draws_at m k (Rests hand) e f = absurd (cc)

-- ---- its machine has loaded a word

module _ (l : Layout) (p : Place) (free : List ℕ) (h : TreeHeap) (K : IsKept l free h) (me : Who) (early : me.first ≤ length h.progress.settled)
    (served : IsServed l me.call) (reply : Reply) (path : Path) (word raw : ℕ) (same : bare_of raw ≡ at_word h word) where
  -- an edge for the key, of a row that leads the search
  edge_now_read : (row : ℕ) → IsLinked l h row → IsInnerRow l h row → IsLed l free h me.needs (key_of me.call) row → (edge : ℕ) →
      side_now l h (key_of me.call) row ≡ edge → edge ≡ word → Needs me.needs word (version_of raw) → HasEdge l free h me edge (bare_of raw)
  edge_now_read row linked inner led edge side is so =
      let to : side_now l h (key_of me.call) row ≡ word = side ∙ is in
      let bare_so : Needs me.needs word (version_of (bare_of raw)) = subst (Needs me.needs word) (sym (version-bare raw)) so in
      let e = edge_loaded l free h K me.needs me.first (key_of me.call) row (bare_of raw) (key_below l me served) early linked inner led
      (same ∙ ap (at_word h) (sym to)) (subst (λ w. Needs me.needs w (version_of (bare_of raw))) (sym to) bare_so) in
      record { loaded = subst (λ w. HasLoaded l h me.needs w (bare_of raw)) side e.0; reached = e.1 }

  pub reads_at : (at : At) (told : ℕ) → part_of (machine_at at) ≡ ToRead word → part_of (machine_takes p free (machine_at at) told) ≡ HasRead word raw →
      HasRead_so (working_in (machine_takes p free (machine_at at) told)) me word raw →
      KnowsAt l free h me reply path at → KnowsAt l free h me reply path (with_machine_at at (machine_takes p free (machine_at at) told))
  reads_at (Root m) told was now so f =
      let is : 4 ≡ word = sym f.word ∙ reads_word m.at m.word word was in record {
        alone = f.alone;
        word = load_stays p m told ∙ f.word;
        read = subst (IfRead (λ r. HasEdge l free h me 4 (bare_of r))) (sym now)
            (edge_now_read 2 (inl refl) (two_inner l free h K) (led_top l free h me.needs (key_of me.call) K (key_under l me served)) 4
            (top_side l free h K (key_of me.call) (key_under l me served)) is so);
      }
  reads_at (Key m) told was now so f =
      let is : m.word ≡ word = reads_word m.at m.word word was in record {
        alone = f.alone;
        stands = f.stands;
        reached = f.reached;
        word = load_stays p m told ∙ f.word;
        read = subst (IfRead (λ r. bare_of r ≡ at_word h (row_word_of l (row_of (bare_of path.edge.raw)) 0))) (sym now)
            (same ∙ ap (at_word h) (sym is ∙ f.word));
      }
  reads_at (Edge m) told was now so f =
      let row : ℕ = row_of (bare_of path.edge.raw) in
      let is : side_now l h (key_of me.call) row ≡ word = sym f.word ∙ reads_word m.at m.word word was in record {
        alone = f.alone;
        stands = f.stands;
        reached = f.reached;
        key_is = f.key_is;
        word = load_stays p m told ∙ f.word;
        read = subst (IfRead (EdgeRead l free h me row)) (sym now) (elim f.reached [
          | inl x ↦ inr (x.0, ap value_of (same ∙ ap (at_word h) (sym is)) ∙ leaf_side l free h K (key_of me.call) row x.0)
          | inr x ↦ inl (
            x.0,
            edge_now_read row f.stands.spot.loaded.linked x.0 x.1 (side_now l h (key_of me.call) row) refl is so,
          )
        ]);
      }
  reads_at (Rows x) told was now so f = absurd (cc)
  reads_at (LeafWords x) told was now so f = absurd (cc)
  reads_at (LeafValue x) told was now so f = absurd (cc)
  reads_at (InnerWords x) told was now so f = absurd (cc)
  reads_at (Link x) told was now so f = absurd (never_reads x.at word was)
  reads_at (Flag x) told was now so f = absurd (never_reads x.at word was)
  reads_at (Sibling c x) told was now so f =
      let is : other path.edge.word ≡ word = sym f.1.word ∙ reads_word x.at x.word word was in (
        f.0,
        record {
          alone = f.1.alone;
          cleans = f.1.cleans;
          word = load_stays p x told ∙ f.1.word;
          read = subst (IfRead (λ r. HasLoaded l h me.needs (other path.edge.word) (bare_of r))) (sym now)
              (edge_now l h me.needs (other path.edge.word) (bare_of raw) (edge_other l free h K path.edge.word f.1.cleans.spot.loaded.at)
              (ap (at_word h) is ∙ sym same)
              (subst (λ w. Needs me.needs w (version_of (bare_of raw))) (sym is) (subst (Needs me.needs word) (sym (version-bare raw)) so)));
        },
      )
  reads_at (Freeze c x) told was now so f = absurd (never_reads x.at word was)
  reads_at (Swing c x) told was now so f = absurd (never_reads x.at word was)
  reads_at (Value x) told was now so f =
      let is : x.word ≡ word = v_reads_word x.at x.word word was in (
        f.0,
        record {
          valued = f.1.valued;
          linked = f.1.linked;
          saw = f.1.saw;
          word = v_load_stays p x told ∙ f.1.word;
          read = subst (IfRead (λ r. bare_of r ≡ at_word h (value_word_of l (row_of (bare_of path.edge.raw))))) (sym now)
              (same ∙ ap (at_word h) (sym is ∙ f.1.word));
        },
      )
  reads_at (Ends x) told was now so f = absurd (cc)
  reads_at (Rests hand) told was now so f = absurd f
