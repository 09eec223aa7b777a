-- What a call knows lasts while others change the heap.
use Rattle.std.proofs.Common.{◌≡◌, ℕ, ◌≤◌, ◌&&◌, Bool, true, false, nat_lt, List, length, Option, Some, None, refl, inl, inr, sym, subst, ◌∙◌, if◌then◌else◌}
use Rattle.flit_words.specs.declared.layouts.Layout.{Layout}
use Rattle.flit_words.specs.Layouts.{row_word_of, value_word_of}
use Rattle.flit_words.specs.Words.{bare_of}
use Rattle.flit_model.specs.declared.calls.Call.{Call}
use Rattle.flit_model.specs.declared.calls.Call.TheVariants.{Insert, Remove, Contains as Contains_call, Get as Get_call}
use Rattle.flit_model.specs.declared.calls.Reply.{Reply}
use Rattle.flit_model.specs.declared.calls.Reply.TheVariants.{Yes, No, Found, Full, Worn}
use Rattle.flit_model.proofs.Membership.{contains_none}
use Rattle.flit_place.specs.Tags.{Place}
use Rattle.flit_pv.specs.Loads.{HeldLoad}
use Rattle.flit_pv.specs.VLoads.{HeldVLoad}
use Rattle.flit_pv.specs.Exchanges.{HeldExchange}
use Rattle.flit_pv.specs.Stores.{HeldStore}
use Rattle.flit_pv.specs.declared.exchanges.Exchanging.{Exchanging}
use Rattle.flit_pv.specs.declared.exchanges.Exchanging.TheVariants.{Ready, Tries, TriesBare, WritesBack, Withdraws, Lowers, Ended}
use Rattle.flit_pv.specs.declared.exchanges.Exchanged.TheVariants.{Won, Lost, Worn as Exchange_worn}
use Rattle.flit_rows.specs.Shares.{rows_in}
use Rattle.flit_structure.specs.Meanings.{IsServed, key_of, value_put}
use Rattle.flit_structure.specs.Lawful.{is_insert}
use Rattle.flit_crew.specs.Machines.{Part, ToRead, HasRead, ToWin, HasWon, HasWritten, HasLost, Other, load_part, v_load_part, exchange_part, exchange_deed, has_linked}
use Rattle.flit_crew.specs.Heaps.{at_word, HaveStayed}
use Rattle.flit_crew.specs.Anatomies.{own, rows_but}
use Rattle.flit_crew.specs.Crews.{Who}
use Rattle.flit_tree_heap.specs.Edges.{other, row_of}
use Rattle.flit_tree_heap.specs.Views.{TreeHeap, IsLinked, IsLeafRow}
use Rattle.flit_tree_heap.specs.Kept.{IsKept}
use Rattle.flit_tree_heap.specs.Later.{IsLater}
use Rattle.flit_tree_heap.specs.Exchanges.{side_now}
use Rattle.flit_tree_heap.specs.Searches.{HasLoaded, value_now}
use Rattle.flit_tree_heap.proofs.Searching.{linked_on, inner_on, loaded_on, side_same}
use Rattle.flit_tree_knowing.specs.Positions.{Saw}
use Rattle.flit_tree_knowing.proofs.Positions.{longer, saw_lasts, key_lasts, value_lasts}
use Rattle.flit_tree_knowing.proofs.Lasting as known
use Rattle.flit_tree_steps.specs.declared.operations.Path.{Path}
use Rattle.flit_tree_steps.specs.declared.operations.CleanUp.{CleanUp}
use Rattle.flit_tree_steps.specs.declared.operations.CleanUp.TheVariants.{Own, Help}
use Rattle.flit_tree_steps.specs.Operations.{At, Root, Key, Edge, Rows, LeafWords, LeafValue, InnerWords, Link, Flag, Sibling, Freeze, Swing, Value, Ends, Rests, HeldOp}
use Rattle.flit_tree_steps.specs.Steps.{to_row}
use Rattle.flit_tree_laws.specs.Knowing.{HasEdge, HasRows, KnowsRoot, Stands, KnowsKey, EdgeRead, KnowsEdge, HasPlace, KnowsRows, KnowsLeaf, HoldsLeaf, HoldsValue, KnowsLeafValue, KnowsInner, LinksTo, FlagsTo, Cleans, Flagged, KnowsSibling, FreezesTo, Frozen, MaySwing, SwingsTo, KnowsValue, SaysNo, SaysYes, Says}
use Rattle.flit_tree_laws.specs.TreeAnatomy.{tree_anatomy}
use Rattle.flit_tree_laws.specs.TreeCrew.{rows_if, IsFor, IsAloneIf, KnowsAt, Knows}
use Rattle.flit_tree_laws.proofs.Parts.{if_read, if_tried, and_false, at_most, key_under, leaf_holds, inner_holds, value_holds}

-- where its word isn't exchanged yet, its rows aren't linked
pub unlinked_yet : (m : HeldExchange) (at : Exchanging) → exchange_part at ≡ ToWin → has_linked (exchange_deed at m) ≡ false
unlinked_yet m Ready e = refl
unlinked_yet m (Tries slot) e = refl
unlinked_yet m TriesBare e = refl
unlinked_yet m WritesBack e = absurd (cc)
unlinked_yet m Withdraws e = absurd (cc)
unlinked_yet m (Lowers slot found) e = refl
unlinked_yet m (Ended Won) e = absurd (cc)
unlinked_yet m (Ended (Lost found)) e = refl
unlinked_yet m (Ended (Exchange_worn word version)) e = refl

module _ (l : Layout) (free : List ℕ) (h k : TreeHeap) (who : Option ℕ) (me : Who) (K : IsKept l free h) (N : IsKept l free k) (L : IsLater l free who h k)
    (early : me.first ≤ length h.progress.settled) (served : IsServed l me.call) where
  abbrev key : ℕ
  key = key_of me.call

  abbrev pub spot_on : (edge x : ℕ) → Rattle.flit_tree_knowing.specs.Spots.IsSpot l free h me.needs key edge x →
      Rattle.flit_tree_knowing.specs.Spots.IsSpot l free k me.needs key edge x
  spot_on edge x s = known.spot_lasts l free who h k K N L me.needs key (key_under l me served) edge x s

  pub loaded_then : (edge q : ℕ) → HasLoaded l h me.needs edge q → HasLoaded l k me.needs edge q
  loaded_then edge q x = loaded_on l free who h k K N L me.needs edge q x

  reached_on : (x : ℕ) → IsLinked l h (row_of x) → Rattle.flit_tree_knowing.specs.Spots.Reached l free h me.needs me.first key x →
      Rattle.flit_tree_knowing.specs.Spots.Reached l free k me.needs me.first key x
  reached_on x i r = known.reached_lasts l free who h k K N L me.needs key (key_under l me served) me.first x early i r

  edge_on : (word q : ℕ) → HasEdge l free h me word q → HasEdge l free k me word q
  edge_on word q f = record { loaded = loaded_then word q f.loaded; reached = reached_on q f.loaded.linked f.reached }

  leaf_on : (row : ℕ) → IsLinked l h row → IsLeafRow h row → IsLeafRow k row
  leaf_on row i f = (L.rows row i).leaf f

  knows_root : (m : HeldLoad) → KnowsRoot l free h me m → KnowsRoot l free k me m
  knows_root m f = record {
    alone = f.alone;
    word = f.word;
    read = if_read (λ raw. HasEdge l free h me 4 (bare_of raw)) (λ raw. HasEdge l free k me 4 (bare_of raw))
        (λ raw x. edge_on 4 (bare_of raw) x) (load_part m.at m.word) f.read;
  }

  stands_on : (path : Path) → Stands l free h me path → Stands l free k me path
  stands_on path f = record {
    spot = spot_on path.edge.word (bare_of path.edge.raw) f.spot;
    top = known.top_lasts l free who h k K N L me.needs key (key_under l me served) path.ancestor.word (bare_of path.ancestor.raw) path.edge.word
        (bare_of path.edge.raw) f.spot.row f.top;
  }

  knows_key : (path : Path) (m : HeldLoad) → KnowsKey l free h me path m → KnowsKey l free k me path m
  knows_key path m f =
      let r : ℕ = row_of (bare_of path.edge.raw) in record {
        alone = f.alone;
        stands = stands_on path f.stands;
        reached = reached_on (bare_of path.edge.raw) f.stands.spot.loaded.linked f.reached;
        word = f.word;
        read = if_read (λ raw. bare_of raw ≡ at_word h (row_word_of l r 0)) (λ raw. bare_of raw ≡ at_word k (row_word_of l r 0))
            (λ raw x. x ∙ sym (L.rows r f.stands.spot.loaded.linked).key) (load_part m.at m.word) f.read;
      }

  edge_read : (r raw : ℕ) → IsLinked l h r → EdgeRead l free h me r raw → EdgeRead l free k me r raw
  edge_read r raw i f = elim f [
    | inl x ↦ inl (
      inner_on l free who h k K N L r i x.0,
      subst (λ w. HasEdge l free k me w (bare_of raw)) (sym (side_same l free who h k K N L key r i)) (edge_on (side_now l h key r) (bare_of raw) x.1),
    )
    | inr x ↦ inr (leaf_on r i x.0, x.1)
  ]

  knows_edge : (path : Path) (m : HeldLoad) → KnowsEdge l free h me path m → KnowsEdge l free k me path m
  knows_edge path m f =
      let r : ℕ = row_of (bare_of path.edge.raw) in
      let i : IsLinked l h r = f.stands.spot.loaded.linked in record {
        alone = f.alone;
        stands = stands_on path f.stands;
        reached = reached_on (bare_of path.edge.raw) i f.reached;
        key_is = f.key_is ∙ sym (key_lasts l free who h k K N L r i);
        word = f.word ∙ sym (side_same l free who h k K N L key r i);
        read = if_read (EdgeRead l free h me r) (EdgeRead l free k me r) (λ raw x. edge_read r raw i x) (load_part m.at m.word) f.read;
      }

  pub place_on : (path : Path) → HasPlace l free h me path → HasPlace l free k me path
  place_on path f =
      let i : IsLinked l h (row_of (bare_of path.edge.raw)) = f.spot.loaded.linked in record {
        spot = spot_on path.edge.word (bare_of path.edge.raw) f.spot;
        plain = f.plain;
        leaf = leaf_on (row_of (bare_of path.edge.raw)) i f.leaf;
        key_is = f.key_is ∙ sym (key_lasts l free who h k K N L (row_of (bare_of path.edge.raw)) i);
        another = f.another;
        insert = f.insert;
      }

  pub knows_leaf : (path : Path) (m : HeldStore) → KnowsLeaf l free h me path m → KnowsLeaf l free k me path m
  knows_leaf path m f = record { place = place_on path f.place; rows = f.rows; private = f.private }

  knows_leaf_value : (path : Path) (m : HeldStore) → HaveStayed l h k (rows_in m.hand.spare) → KnowsLeafValue l free h me path m →
      KnowsLeafValue l free k me path m
  knows_leaf_value path m stayed f = record {
    place = place_on path f.place;
    rows = f.rows;
    valued = f.valued;
    stored = leaf_holds l K.layout h k f.rows.leaf f.rows.inner (rows_in m.hand.spare) f.rows.own stayed key 0 0 f.stored;
    private = f.private;
  }

  knows_inner : (path : Path) (m : HeldStore) → HaveStayed l h k (rows_in m.hand.spare) → KnowsInner l free h me path m → KnowsInner l free k me path m
  knows_inner path m stayed f = record {
    place = place_on path f.place;
    rows = f.rows;
    stored = leaf_holds l K.layout h k f.rows.leaf f.rows.inner (rows_in m.hand.spare) f.rows.own stayed key 0 0 f.stored;
    value = value_holds l K.layout h k f.rows.leaf f.rows.inner (rows_in m.hand.spare) f.rows.own stayed (value_put me.call) f.value;
  }

  links_to : (path : Path) (m : HeldExchange) → HaveStayed l h k (rows_in m.hand.spare) → LinksTo l free h me path m → LinksTo l free k me path m
  links_to path m stayed f = record {
    place = place_on path f.place;
    rows = f.rows;
    stored = leaf_holds l K.layout h k f.rows.leaf f.rows.inner (rows_in m.hand.spare) f.rows.own stayed key 0 0 f.stored;
    value = value_holds l K.layout h k f.rows.leaf f.rows.inner (rows_in m.hand.spare) f.rows.own stayed (value_put me.call) f.value;
    inner_stored = inner_holds l K.layout h k f.rows.leaf f.rows.inner (rows_in m.hand.spare) f.rows.own stayed
        (if nat_lt key path.key then path.key else key)
        (if nat_lt key path.key then to_row f.rows.leaf else to_row (row_of (bare_of path.edge.raw)))
        (if nat_lt key path.key then to_row (row_of (bare_of path.edge.raw)) else to_row f.rows.leaf) f.inner_stored;
    aim = f.aim;
    to = f.to;
  }

  flags_to : (path : Path) (m : HeldExchange) → FlagsTo l free h me path m → FlagsTo l free k me path m
  flags_to path m f =
      let i : IsLinked l h (row_of (bare_of path.edge.raw)) = f.stands.spot.loaded.linked in record {
        stands = stands_on path f.stands;
        plain = f.plain;
        leaf = leaf_on (row_of (bare_of path.edge.raw)) i f.leaf;
        has_key = key_lasts l free who h k K N L (row_of (bare_of path.edge.raw)) i ∙ f.has_key;
        aim = f.aim;
        to = f.to;
      }

  pub cleans_on : (path : Path) (x : ℕ) → Cleans l free h me path x → Cleans l free k me path x
  cleans_on path x f = record {
    spot = spot_on path.edge.word x f.spot;
    flagged = f.flagged;
    way = known.way_lasts l free who h k K N L me.needs key (key_under l me served) path.ancestor.word (bare_of path.ancestor.raw) f.spot.row f.way;
  }

  flagged_on : (path : Path) (m : HeldExchange) → Flagged l free h me path m → Flagged l free k me path m
  flagged_on path m f = record { word = f.word; bare = f.bare; cleans = cleans_on path m.to f.cleans }

  knows_sibling : (path : Path) (m : HeldLoad) → KnowsSibling l free h me path m → KnowsSibling l free k me path m
  knows_sibling path m f = record {
    alone = f.alone;
    cleans = cleans_on path (bare_of path.edge.raw) f.cleans;
    word = f.word;
    read = if_read (λ raw. HasLoaded l h me.needs (other path.edge.word) (bare_of raw)) (λ raw. HasLoaded l k me.needs (other path.edge.word) (bare_of raw))
        (λ raw x. loaded_then (other path.edge.word) (bare_of raw) x) (load_part m.at m.word) f.read;
  }

  freezes_to : (path : Path) (m : HeldExchange) → FreezesTo l free h me path m → FreezesTo l free k me path m
  freezes_to path m f = record {
    cleans = cleans_on path (bare_of path.edge.raw) f.cleans;
    sibling = f.sibling;
    loaded = loaded_then (other path.edge.word) (bare_of path.sibling.raw) f.loaded;
    unfrozen = f.unfrozen;
    aim = f.aim;
    to = f.to;
  }

  frozen_on : (path : Path) (m : HeldExchange) → Frozen l free h me path m → Frozen l free k me path m
  frozen_on path m f = record {
    cleans = cleans_on path (bare_of path.edge.raw) f.cleans;
    sibling = f.sibling;
    bare = f.bare;
    loaded = loaded_then (other path.edge.word) m.to f.loaded;
    frozen = f.frozen;
  }

  may_swing : (path : Path) → MaySwing l free h me path → MaySwing l free k me path
  may_swing path f = record {
    spot = spot_on path.edge.word (bare_of path.edge.raw) f.spot;
    way = known.way_lasts l free who h k K N L me.needs key (key_under l me served) path.ancestor.word (bare_of path.ancestor.raw) f.spot.row f.way;
    loaded = loaded_then path.sibling.word (bare_of path.sibling.raw) f.loaded;
    side = f.side;
    frozen = f.frozen;
  }

  swings_to : (path : Path) (m : HeldExchange) → SwingsTo l free h me path m → SwingsTo l free k me path m
  swings_to path m f = record { keeps = may_swing path f.keeps; aim = f.aim; to = f.to }

  saw_then : (o : Option ℕ) → Saw h me.needs me.first key o → Saw k me.needs me.first key o
  saw_then o s = saw_lasts l free who h k K N L me.needs me.first key o early s

  knows_value : (path : Path) (m : HeldVLoad) → KnowsValue l free h me path m → KnowsValue l free k me path m
  knows_value path m f =
      let r : ℕ = row_of (bare_of path.edge.raw) in record {
        valued = f.valued;
        linked = linked_on l free who h k K N L r f.linked;
        saw = subst (λ v. Saw k me.needs me.first key (Some v)) (sym (value_lasts l free who h k K N L r f.linked)) (saw_then (Some (value_now l h r)) f.saw);
        word = f.word;
        read = if_read (λ raw. bare_of raw ≡ at_word h (value_word_of l r)) (λ raw. bare_of raw ≡ at_word k (value_word_of l r))
            (λ raw x. x ∙ sym ((L.rows r f.linked).value f.valued)) (v_load_part m.at m.word) f.read;
      }

  says_no : (b : Bool) → SaysNo l free h me b → SaysNo l free k me b
  says_no true f = (f.0, saw_then (Some f.0) f.1)
  says_no false f = saw_then None f

  says_yes : (call : Call) → SaysYes l free h me call → SaysYes l free k me call
  says_yes (Insert a v) f = tt
  says_yes (Remove a) f = tt
  says_yes (Contains_call a) f = (f.0, saw_then (Some f.0) f.1)
  says_yes (Get_call a) f = tt

  says : (reply : Reply) → Says l free h me reply → Says l free k me reply
  says Yes f = says_yes me.call f
  says No f = says_no (is_insert me.call) f
  says (Found value) f = saw_then (Some value) f
  says (Full ticket) f = tt
  says (Worn word version) f = tt

  alone_if : (part : Part) → IsAloneIf l free h me part → IsAloneIf l free k me part
  alone_if (ToRead word) f = tt
  alone_if (HasRead word raw) f = tt
  alone_if ToWin f = tt
  alone_if HasWon f = tt
  alone_if HasWritten f = tt
  alone_if (HasLost found) f = f
  alone_if Other f = tt

  is_for : (c : CleanUp) → IsFor l free h me c → IsFor l free k me c
  is_for Own f = f
  is_for Help f = tt

  -- the linking exchange has its rows until it is won
  link_on : (path : Path) (m : HeldExchange) (part : Part) → HaveStayed l h k (rows_if part (rows_in m.hand.spare)) →
      Rattle.flit_tree_laws.specs.Knowing.IfTried (LinksTo l free h me path m) (Unit {0}) part →
      Rattle.flit_tree_laws.specs.Knowing.IfTried (LinksTo l free k me path m) (Unit {0}) part
  link_on path m (ToRead word) stayed f = tt
  link_on path m (HasRead word raw) stayed f = tt
  link_on path m ToWin stayed f = links_to path m stayed f
  link_on path m HasWon stayed f = tt
  link_on path m HasWritten stayed f = tt
  link_on path m (HasLost found) stayed f = tt
  link_on path m Other stayed f = tt

  module _ (p : Place) (call : Call) (reply : Reply) (path : Path) where
    abbrev own_at : At → List ℕ
    own_at at = own (tree_anatomy l p free) (record { call = call; reply = reply; path = path; at = at })

    stayed_if : (m : HeldExchange) → HaveStayed l h k (own_at (Link m)) → HaveStayed l h k (rows_if (exchange_part m.at) (rows_in m.hand.spare))
    stayed_if m stayed = by_part (exchange_part m.at) refl
      where
        by_part : (part : Part) → exchange_part m.at ≡ part → HaveStayed l h k (rows_if part (rows_in m.hand.spare))
        by_part (ToRead word) e = λ row v i. absurd (contains_none row i)
        by_part (HasRead word raw) e = λ row v i. absurd (contains_none row i)
        by_part ToWin e = subst (λ b. HaveStayed l h k (rows_but (tree_anatomy l p free) b m.hand.spare)) (and_false (is_insert call))
            (subst (λ b. HaveStayed l h k (rows_but (tree_anatomy l p free) (is_insert call && b) m.hand.spare)) (unlinked_yet m m.at e) stayed)
        by_part HasWon e = λ row v i. absurd (contains_none row i)
        by_part HasWritten e = λ row v i. absurd (contains_none row i)
        by_part (HasLost found) e = λ row v i. absurd (contains_none row i)
        by_part Other e = λ row v i. absurd (contains_none row i)

    pub at_lasts : (at : At) → HaveStayed l h k (own_at at) → KnowsAt l free h me reply path at → KnowsAt l free k me reply path at
    at_lasts (Root m) stayed f = knows_root m f
    at_lasts (Key m) stayed f = knows_key path m f
    at_lasts (Edge m) stayed f = knows_edge path m f
    at_lasts (Rows m) stayed f = record { alone = f.alone; place = place_on path f.place }
    at_lasts (LeafWords m) stayed f = knows_leaf path m f
    at_lasts (LeafValue m) stayed f = knows_leaf_value path m stayed f
    at_lasts (InnerWords m) stayed f = knows_inner path m stayed f
    at_lasts (Link m) stayed f = (f.0, alone_if (exchange_part m.at) f.1, link_on path m (exchange_part m.at) (stayed_if m stayed) f.2)
    at_lasts (Flag m) stayed f = (
      f.0,
      f.1,
      if_tried (FlagsTo l free h me path m) (Flagged l free h me path m) (FlagsTo l free k me path m) (Flagged l free k me path m) (flags_to path m)
          (flagged_on path m) (exchange_part m.at) f.2,
    )
    at_lasts (Sibling c m) stayed f = (is_for c f.0, knows_sibling path m f.1)
    at_lasts (Freeze c m) stayed f = (
      is_for c f.0,
      f.1,
      if_tried (FreezesTo l free h me path m) (Frozen l free h me path m) (FreezesTo l free k me path m) (Frozen l free k me path m) (freezes_to path m)
          (frozen_on path m) (exchange_part m.at) f.2,
    )
    at_lasts (Swing c m) stayed f = (
      is_for c f.0,
      f.1,
      if_tried (SwingsTo l free h me path m) (Unit {0}) (SwingsTo l free k me path m) (Unit {0}) (swings_to path m) (λ x. x) (exchange_part m.at) f.2,
    )
    at_lasts (Value m) stayed f = (f.0, knows_value path m f.1)
    at_lasts (Ends m) stayed f = says reply f
    at_lasts (Rests hand) stayed f = absurd f

-- what it knows lasts while others change the heap
pub lasts : (l : Layout) (p : Place) (free : List ℕ) (h k : TreeHeap) (who : Option ℕ) (me : Who) (op : HeldOp) → IsKept l free h → IsKept l free k →
    IsLater l free who h k → HaveStayed l h k (own (tree_anatomy l p free) op) → Knows l free h me op → Knows l free k me op
lasts l p free h k who me op K N L stayed f = record {
  first = at_most me.first (length h.progress.settled) (length k.progress.settled) f.first (longer l free who h k K N L);
  served = f.served;
  at = at_lasts l free h k who me K N L f.first f.served p op.call op.reply op.path op.at stayed f.at;
}
