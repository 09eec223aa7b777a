-- What a call knows stays known as its worker depends on more and has seen more, and as fewer words are private.
use Rattle.std.proofs.Common.{◌≡◌, ℕ, Bool, true, false, List, Some, None, inl, inr, ap, sym, subst, ◌∙◌}
use Rattle.flit_words.specs.declared.layouts.Layout.{Layout}
use Rattle.flit_words.specs.Words.{bare_of}
use Rattle.flit_model.specs.declared.calls.Call.{Call}
use Rattle.flit_model.specs.declared.calls.Call.TheVariants.{Insert, Remove, Contains as Contains_call, Get as Get_call}
use Rattle.flit_model.specs.declared.calls.Reply.{Reply}
use Rattle.flit_model.specs.declared.calls.Reply.TheVariants.{Yes, No, Found, Full, Worn}
use Rattle.flit_pv.specs.Loads.{HeldLoad}
use Rattle.flit_pv.specs.VLoads.{HeldVLoad}
use Rattle.flit_pv.specs.Exchanges.{HeldExchange}
use Rattle.flit_pv.specs.Stores.{HeldStore}
use Rattle.flit_runs.specs.Workings.{Dependency}
use Rattle.flit_runs.specs.Worlds.{Seen, IsAway}
use Rattle.flit_runs.specs.Soundness.{Needs}
use Rattle.flit_structure.specs.Meanings.{key_of}
use Rattle.flit_structure.specs.Lawful.{is_insert}
use Rattle.flit_crew.specs.Machines.{Part, ToRead, HasRead, ToWin, HasWon, HasWritten, HasLost, Other, load_part, exchange_part}
use Rattle.flit_crew.specs.Crews.{Who, IsFurther}
use Rattle.flit_tree_heap.specs.Edges.{other, row_of}
use Rattle.flit_tree_heap.specs.Views.{TreeHeap}
use Rattle.flit_tree_heap.specs.Exchanges.{side_now}
use Rattle.flit_tree_heap.specs.Searches.{HasLoaded, value_now}
use Rattle.flit_tree_knowing.proofs.Growing as more
use Rattle.flit_tree_steps.specs.declared.operations.Path.{Path}
use Rattle.flit_tree_steps.specs.declared.operations.CleanUp.{CleanUp}
use Rattle.flit_tree_steps.specs.declared.operations.CleanUp.TheVariants.{Own, Help}
use Rattle.flit_tree_steps.specs.Operations.{At, Root, Key, Edge, Rows, LeafWords, LeafValue, InnerWords, Link, Flag, Sibling, Freeze, Swing, Value, Ends, Rests}
use Rattle.flit_tree_laws.specs.Knowing.{IsAlone, HasEdge, KnowsRoot, Stands, KnowsKey, EdgeRead, KnowsEdge, HasPlace, KnowsRows, KnowsLeaf, KnowsLeafValue, KnowsInner, LinksTo, FlagsTo, Cleans, Flagged, KnowsSibling, FreezesTo, Frozen, MaySwing, SwingsTo, KnowsValue, SaysNo, SaysYes, Says}
use Rattle.flit_tree_laws.specs.TreeCrew.{IsFor, IsAloneIf, KnowsAt}
use Rattle.flit_tree_laws.proofs.Parts.{if_read, if_tried}

module _ (l : Layout) (free : List ℕ) (h : TreeHeap) (me : Who) (ns : List Dependency) (ss : List Seen) (ps : List ℕ)
    (needs : (w v : ℕ) → Needs me.needs w v → Needs ns w v) (private : (w : ℕ) → IsAway me.private w → IsAway ps w) where
  abbrev you : Who
  you = record me { needs = ns; seen = ss; private = ps }

  abbrev key : ℕ
  key = key_of me.call

  pub alone : IsAlone l free h me → IsAlone l free h you
  alone f v = private v (f v)

  pub has_edge : (word q : ℕ) → HasEdge l free h me word q → HasEdge l free h you word q
  has_edge word q f = record {
    loaded = more.loaded_more l free h me.needs ns needs key word q f.loaded;
    reached = more.reached_more l free h me.needs ns needs key me.first q f.reached;
  }

  pub knows_root : (m : HeldLoad) → KnowsRoot l free h me m → KnowsRoot l free h you m
  knows_root m f = record {
    alone = alone f.alone;
    word = f.word;
    read = if_read (λ raw. HasEdge l free h me 4 (bare_of raw)) (λ raw. HasEdge l free h you 4 (bare_of raw))
        (λ raw x. has_edge 4 (bare_of raw) x) (load_part m.at m.word) f.read;
  }

  pub stands : (path : Path) → Stands l free h me path → Stands l free h you path
  stands path f = record {
    spot = more.spot_more l free h me.needs ns needs key path.edge.word (bare_of path.edge.raw) f.spot;
    top = more.top_more l free h me.needs ns needs key path.ancestor.word (bare_of path.ancestor.raw) path.edge.word (bare_of path.edge.raw) f.spot.row f.top;
  }

  pub knows_key : (path : Path) (m : HeldLoad) → KnowsKey l free h me path m → KnowsKey l free h you path m
  knows_key path m f = record {
    alone = alone f.alone;
    stands = stands path f.stands;
    reached = more.reached_more l free h me.needs ns needs key me.first (bare_of path.edge.raw) f.reached;
    word = f.word;
    read = f.read;
  }

  edge_read : (r raw : ℕ) → EdgeRead l free h me r raw → EdgeRead l free h you r raw
  edge_read r raw f = elim f [ inl x ↦ inl (x.0, has_edge (side_now l h key r) (bare_of raw) x.1) | inr x ↦ inr x ]

  pub knows_edge : (path : Path) (m : HeldLoad) → KnowsEdge l free h me path m → KnowsEdge l free h you path m
  knows_edge path m f = record {
    alone = alone f.alone;
    stands = stands path f.stands;
    reached = more.reached_more l free h me.needs ns needs key me.first (bare_of path.edge.raw) f.reached;
    key_is = f.key_is;
    word = f.word;
    read = if_read (EdgeRead l free h me (row_of (bare_of path.edge.raw))) (EdgeRead l free h you (row_of (bare_of path.edge.raw)))
        (edge_read (row_of (bare_of path.edge.raw))) (load_part m.at m.word) f.read;
  }

  pub place : (path : Path) → HasPlace l free h me path → HasPlace l free h you path
  place path f = record {
    spot = more.spot_more l free h me.needs ns needs key path.edge.word (bare_of path.edge.raw) f.spot;
    plain = f.plain;
    leaf = f.leaf;
    key_is = f.key_is;
    another = f.another;
    insert = f.insert;
  }

  pub knows_rows : (path : Path) → KnowsRows l free h me path → KnowsRows l free h you path
  knows_rows path f = record { alone = alone f.alone; place = place path f.place }

  pub knows_leaf : (path : Path) (m : HeldStore) → KnowsLeaf l free h me path m → KnowsLeaf l free h you path m
  knows_leaf path m f = record { place = place path f.place; rows = f.rows; private = λ v a. private v (f.private v a) }

  pub knows_leaf_value : (path : Path) (m : HeldStore) → KnowsLeafValue l free h me path m → KnowsLeafValue l free h you path m
  knows_leaf_value path m f =
      record { place = place path f.place; rows = f.rows; valued = f.valued; stored = f.stored; private = λ v a. private v (f.private v a) }

  pub knows_inner : (path : Path) (m : HeldStore) → KnowsInner l free h me path m → KnowsInner l free h you path m
  knows_inner path m f = record { place = place path f.place; rows = f.rows; stored = f.stored; value = f.value }

  pub links_to : (path : Path) (m : HeldExchange) → LinksTo l free h me path m → LinksTo l free h you path m
  links_to path m f = record {
    place = place path f.place;
    rows = f.rows;
    stored = f.stored;
    value = f.value;
    inner_stored = f.inner_stored;
    aim = f.aim;
    to = f.to;
  }

  pub flags_to : (path : Path) (m : HeldExchange) → FlagsTo l free h me path m → FlagsTo l free h you path m
  flags_to path m f = record { stands = stands path f.stands; plain = f.plain; leaf = f.leaf; has_key = f.has_key; aim = f.aim; to = f.to }

  pub cleans : (path : Path) (x : ℕ) → Cleans l free h me path x → Cleans l free h you path x
  cleans path x f = record {
    spot = more.spot_more l free h me.needs ns needs key path.edge.word x f.spot;
    flagged = f.flagged;
    way = more.way_more l free h me.needs ns needs key path.ancestor.word (bare_of path.ancestor.raw) f.spot.row f.way;
  }

  pub flagged : (path : Path) (m : HeldExchange) → Flagged l free h me path m → Flagged l free h you path m
  flagged path m f = record { word = f.word; bare = f.bare; cleans = cleans path m.to f.cleans }

  pub knows_sibling : (path : Path) (m : HeldLoad) → KnowsSibling l free h me path m → KnowsSibling l free h you path m
  knows_sibling path m f = record {
    alone = alone f.alone;
    cleans = cleans path (bare_of path.edge.raw) f.cleans;
    word = f.word;
    read = if_read (λ raw. HasLoaded l h me.needs (other path.edge.word) (bare_of raw)) (λ raw. HasLoaded l h ns (other path.edge.word) (bare_of raw))
        (λ raw x. more.loaded_more l free h me.needs ns needs key (other path.edge.word) (bare_of raw) x) (load_part m.at m.word) f.read;
  }

  pub freezes_to : (path : Path) (m : HeldExchange) → FreezesTo l free h me path m → FreezesTo l free h you path m
  freezes_to path m f = record {
    cleans = cleans path (bare_of path.edge.raw) f.cleans;
    sibling = f.sibling;
    loaded = more.loaded_more l free h me.needs ns needs key (other path.edge.word) (bare_of path.sibling.raw) f.loaded;
    unfrozen = f.unfrozen;
    aim = f.aim;
    to = f.to;
  }

  pub frozen : (path : Path) (m : HeldExchange) → Frozen l free h me path m → Frozen l free h you path m
  frozen path m f = record {
    cleans = cleans path (bare_of path.edge.raw) f.cleans;
    sibling = f.sibling;
    bare = f.bare;
    loaded = more.loaded_more l free h me.needs ns needs key (other path.edge.word) m.to f.loaded;
    frozen = f.frozen;
  }

  pub may_swing : (path : Path) → MaySwing l free h me path → MaySwing l free h you path
  may_swing path f = record {
    spot = more.spot_more l free h me.needs ns needs key path.edge.word (bare_of path.edge.raw) f.spot;
    way = more.way_more l free h me.needs ns needs key path.ancestor.word (bare_of path.ancestor.raw) f.spot.row f.way;
    loaded = more.loaded_more l free h me.needs ns needs key path.sibling.word (bare_of path.sibling.raw) f.loaded;
    side = f.side;
    frozen = f.frozen;
  }

  pub swings_to : (path : Path) (m : HeldExchange) → SwingsTo l free h me path m → SwingsTo l free h you path m
  swings_to path m f = record { keeps = may_swing path f.keeps; aim = f.aim; to = f.to }

  pub knows_value : (path : Path) (m : HeldVLoad) → KnowsValue l free h me path m → KnowsValue l free h you path m
  knows_value path m f = record {
    valued = f.valued;
    linked = f.linked;
    saw = more.saw_more l free h me.needs ns needs key me.first (Some (value_now l h (row_of (bare_of path.edge.raw)))) f.saw;
    word = f.word;
    read = f.read;
  }

  says_no : (b : Bool) → SaysNo l free h me b → SaysNo l free h you b
  says_no true f = (f.0, more.saw_more l free h me.needs ns needs key me.first (Some f.0) f.1)
  says_no false f = more.saw_more l free h me.needs ns needs key me.first None f

  says_yes : (call : Call) → SaysYes l free h me call → SaysYes l free h you call
  says_yes (Insert a v) f = tt
  says_yes (Remove a) f = tt
  says_yes (Contains_call a) f = (f.0, more.saw_more l free h me.needs ns needs key me.first (Some f.0) f.1)
  says_yes (Get_call a) f = tt

  pub says : (reply : Reply) → Says l free h me reply → Says l free h you reply
  says Yes f = says_yes me.call f
  says No f = says_no (is_insert me.call) f
  says (Found value) f = more.saw_more l free h me.needs ns needs key me.first (Some value) f
  says (Full ticket) f = tt
  says (Worn word version) f = tt

  alone_if : (part : Part) → IsAloneIf l free h me part → IsAloneIf l free h you part
  alone_if (ToRead word) f = tt
  alone_if (HasRead word raw) f = tt
  alone_if ToWin f = tt
  alone_if HasWon f = tt
  alone_if HasWritten f = tt
  alone_if (HasLost found) f = alone f
  alone_if Other f = tt

  is_for : (c : CleanUp) → IsFor l free h me c → IsFor l free h you c
  is_for Own f = f
  is_for Help f = tt

  pub at_more : (reply : Reply) (path : Path) (at : At) → KnowsAt l free h me reply path at → KnowsAt l free h you reply path at
  at_more reply path (Root m) f = knows_root m f
  at_more reply path (Key m) f = knows_key path m f
  at_more reply path (Edge m) f = knows_edge path m f
  at_more reply path (Rows m) f = knows_rows path f
  at_more reply path (LeafWords m) f = knows_leaf path m f
  at_more reply path (LeafValue m) f = knows_leaf_value path m f
  at_more reply path (InnerWords m) f = knows_inner path m f
  at_more reply path (Link m) f = (
    f.0,
    alone_if (exchange_part m.at) f.1,
    if_tried (LinksTo l free h me path m) (Unit {0}) (LinksTo l free h you path m) (Unit {0}) (links_to path m) (λ x. x) (exchange_part m.at) f.2,
  )
  at_more reply path (Flag m) f = (
    f.0,
    alone f.1,
    if_tried (FlagsTo l free h me path m) (Flagged l free h me path m) (FlagsTo l free h you path m) (Flagged l free h you path m) (flags_to path m)
        (flagged path m) (exchange_part m.at) f.2,
  )
  at_more reply path (Sibling c m) f = (is_for c f.0, knows_sibling path m f.1)
  at_more reply path (Freeze c m) f = (
    is_for c f.0,
    alone f.1,
    if_tried (FreezesTo l free h me path m) (Frozen l free h me path m) (FreezesTo l free h you path m) (Frozen l free h you path m) (freezes_to path m)
        (frozen path m) (exchange_part m.at) f.2,
  )
  at_more reply path (Swing c m) f = (
    is_for c f.0,
    alone f.1,
    if_tried (SwingsTo l free h me path m) (Unit {0}) (SwingsTo l free h you path m) (Unit {0}) (swings_to path m) (λ x. x) (exchange_part m.at) f.2,
  )
  at_more reply path (Value m) f = (f.0, knows_value path m f.1)
  at_more reply path (Ends m) f = says reply f
  at_more reply path (Rests hand) f = absurd f

-- a worker that is further is this one with what it depends on and has seen
module _ (me you : Who) (further : IsFurther me you) where
  abbrev who : ℕ → ℕ → Call → ℕ → Who
  who name number call first = record { name = name; number = number; call = call; first = first; needs = you.needs; seen = you.seen; private = you.private }

  same_worker : record me { needs = you.needs; seen = you.seen; private = you.private } ≡ you
  same_worker = ap (λ n. who n me.number me.call me.first) (sym further.name) ∙ ap (λ n. who you.name n me.call me.first) (sym further.number)
      ∙ ap (λ c. who you.name you.number c me.first) (sym further.call) ∙ ap (λ f. who you.name you.number you.call f) (sym further.first)

  pub more_at : (l : Layout) (free : List ℕ) (h : TreeHeap) (reply : Reply) (path : Path) (at : At) → KnowsAt l free h me reply path at →
      KnowsAt l free h you reply path at
  more_at l free h reply path at f = subst (λ w. KnowsAt l free h w reply path at) same_worker
      (at_more l free h me you.needs you.seen you.private further.needs further.private reply path at f)
