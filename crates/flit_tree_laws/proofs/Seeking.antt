-- Where a call goes on when a load of its seek has ended, and where its seek has come to a leaf.
use Rattle.std.proofs.Common.{◌≡◌, ◌≢◌, ℕ, ◌==◌, ◌≤◌, ◌&&◌, not, Bool, true, false, List, length, Some, is_none, inl, inr, refl, sym, ◌∙◌, ap, subst, arith, if◌then◌else◌}
use Rattle.std.proofs.lemmas.Bool.{false≢true, eqb-true, eqb-false, eq-eqb, ne_eqb, cases_Bool}
use Rattle.flit_words.specs.declared.layouts.Layout.{Layout}
use Rattle.flit_words.specs.Layouts.{row_word_of, value_word_of}
use Rattle.flit_words.specs.Words.{version_of, value_of, bare_of}
use Rattle.flit_model.specs.declared.calls.Call.{Call}
use Rattle.flit_model.specs.declared.calls.Call.TheVariants.{Insert, Remove, Contains, Get}
use Rattle.flit_model.specs.declared.calls.Reply.TheVariants.{Yes, No, Found}
use Rattle.flit_place.specs.Tags.{Place}
use Rattle.flit_pv.specs.declared.hands.Hand.{Hand}
use Rattle.flit_pv.specs.Loads.{HeldLoad, load_started, load_asks}
use Rattle.flit_pv.specs.declared.loads.Loading.{Loading}
use Rattle.flit_pv.specs.declared.loads.Loading.TheVariants.{Reads as Load_reads, Asks as Load_asks, MakesRoom as Load_makes_room, Has as Load_has}
use Rattle.flit_pv.specs.VLoads.{HeldVLoad, v_load_started, v_load_asks}
use Rattle.flit_pv.specs.declared.v_loads.VLoading.{VLoading}
use Rattle.flit_pv.specs.declared.v_loads.VLoading.TheVariants.{Reads as V_reads, Has as V_has}
use Rattle.flit_pv.specs.Exchanges.{HeldExchange, exchange_asks}
use Rattle.flit_pv.specs.declared.exchanges.Exchanging.{Exchanging}
use Rattle.flit_pv.specs.declared.exchanges.Exchanging.TheVariants.{Ready, Tries, TriesBare, WritesBack, Withdraws, Lowers, Ended}
use Rattle.flit_pv.specs.declared.exchanges.Exchanged.TheVariants.{Won, Lost, Worn as Exchange_worn}
use Rattle.flit_place.proofs.WordTags.{bare-untagged}
use Rattle.flit_runs.specs.Workings.{ToLoad, ToVLoad}
use Rattle.flit_structure.specs.Meanings.{IsServed, key_of}
use Rattle.flit_structure.specs.Lawful.{is_insert, is_get}
use Rattle.flit_crew.specs.Heaps.{at_word, IsOpen}
use Rattle.flit_crew.specs.Machines.{load_part, v_load_part, exchange_part}
use Rattle.flit_crew.specs.Crews.{Who, Goes, ExchangesAt}
use Rattle.flit_tree_heap.specs.Edges.{row_of, flag_of, frozen_of, IsPlain}
use Rattle.flit_tree_heap.specs.Views.{TreeHeap, IsTreeLayout, IsLinked, IsLeafRow, IsInnerRow, IsLed}
use Rattle.flit_tree_heap.specs.Kept.{IsKept}
use Rattle.flit_tree_heap.specs.Exchanges.{key_now, side_now}
use Rattle.flit_tree_heap.specs.Searches.{HasLoaded, value_now}
use Rattle.flit_tree_heap.proofs.Leading.{two_inner, led_top}
use Rattle.flit_tree_heap.proofs.Rows.{row_range, key_open, value_open, left_open, right_open, leaf_or_inner}
use Rattle.flit_tree_knowing.specs.Positions.{Saw, Tells}
use Rattle.flit_tree_knowing.specs.Spots.{IsSpot, IsWay, IsTopOrWay}
use Rattle.flit_tree_knowing.proofs.Loading.{top_side}
use Rattle.flit_tree_knowing.proofs.Going.{frozen_way, flagged_way, way_anew, way_further}
use Rattle.flit_tree_steps.specs.declared.operations.Path.{Path}
use Rattle.flit_tree_steps.specs.declared.operations.CleanUp.TheVariants.{Own, Help}
use Rattle.flit_tree_steps.specs.Operations.{HeldOp, Key}
use Rattle.flit_tree_steps.specs.Steps.{Carried, stands, row_of as raw_row_of, is_frozen, is_plain, key_word, side_word, row_at, with_edge, from_root, further, answers, cleans, flags, flag_next, flag_by, to_row_flagged, value_next, value_by, found, absent, sought, edge_got, edge_by, key_by, root_by}
use Rattle.flit_tree_laws.specs.Knowing.{IfRead, IfTried, IsAlone, HasEdge, KnowsRoot, Stands, KnowsKey, EdgeRead, KnowsEdge, FlagsTo, Cleans, Flagged, KnowsValue, SaysNo, SaysYes}
use Rattle.flit_tree_laws.specs.TreeCrew.{tree_crew}
use Rattle.flit_tree_laws.proofs.Parts.{key_under}
use Rattle.flit_tree_laws.proofs.Raws.{value_bare, raw_frozen, raw_row, raw_small, raw_zero, plain_from, bit_from, side_is, side_either, link_small, next_leads}
use Rattle.flit_tree_laws.proofs.Starting.{GoesOn, go_seek, go_answer, go_worn, go_exchange}
use Rattle.flit_tree_laws.proofs.Rowing.{Owns, go_takes}
use Rattle.flit_tree_laws.proofs.Cleaning.{go_cleans_flagged, go_cleans_frozen}

module _ (l : Layout) (layout : IsTreeLayout l) (p : Place) (free : List ℕ) (h : TreeHeap) (K : IsKept l free h) (me : Who)
    (early : me.first ≤ length h.progress.settled) (served : IsServed l me.call) (op : Carried) (same : op.call ≡ me.call) where
  abbrev key : ℕ
  key = key_of me.call

  abbrev On : Hand → HeldOp → Type 0
  On hand next = GoesOn l p free h K me early served hand next

  -- a row's key comes next
  go_key : (path : Path) (hand : Hand) → IsAlone l free h me → Stands l free h me path →
      Rattle.flit_tree_knowing.specs.Spots.Reached l free h me.needs me.first key (bare_of path.edge.raw) →
      On hand (stands (record op { path = path }) (Key (load_started hand (key_word l (raw_row_of path.edge.raw)))))
  go_key path hand alone s reached =
      let row : raw_row_of path.edge.raw ≡ row_of (bare_of path.edge.raw) = raw_row l free h K path.edge.raw s.spot.loaded.linked in
      Goes.starts me hand (ToLoad (key_word l (raw_row_of path.edge.raw)))
      (stands (record op { path = path }) (Key (load_started hand (key_word l (raw_row_of path.edge.raw)))))
      (subst (λ r. IsOpen l free h (row_word_of l r 0)) (sym row) (key_open l free h K (row_of (bare_of path.edge.raw)) s.spot.loaded.linked)) refl refl same tt
      (record {
        first = early;
        served = served;
        at = record { alone = alone; stands = s; reached = reached; word = ap (λ r. row_word_of l r 0) row; read = tt };
      })

  -- ---- the first edge is loaded

  go_root : (m : HeldLoad) → KnowsRoot l free h me m → (raw : ℕ) → HasEdge l free h me 4 (bare_of raw) → On m.hand (root_by l op m (Load_has raw))
  go_root m f raw e = go_key (from_root op.path m.word raw) m.hand f.alone (record {
    spot = record {
      row = 2;
      linked = inl refl;
      inner = two_inner l free h K;
      side = top_side l free h K key (key_under l me served) ∙ sym f.word;
      led = led_top l free h me.needs key K (key_under l me served);
      loaded = subst (λ w. HasLoaded l h me.needs w (bare_of raw)) (sym f.word) e.loaded;
    };
    top = inl (refl, refl, refl);
  }) e.reached

  pub go_root_at : (m : HeldLoad) → KnowsRoot l free h me m → (at : Loading) → IfRead (λ raw. HasEdge l free h me 4 (bare_of raw)) (load_part at m.word) →
      (is_none (load_asks at m) && true) ≡ true → On m.hand (root_by l op m at)
  go_root_at m f Load_reads read ended = absurd (false≢true ended)
  go_root_at m f (Load_asks raw slot) read ended = absurd (false≢true ended)
  go_root_at m f (Load_makes_room raw first) read ended = absurd (false≢true ended)
  go_root_at m f (Load_has raw) read ended = go_root m f raw read

  -- ---- a row's key is loaded

  side_open : (row : ℕ) → IsLinked l h row → IsOpen l free h (side_now l h key row)
  side_open row i = elim (side_either l h key row) [
    | inl e ↦ subst (IsOpen l free h) (sym e) (left_open l free h K row i)
    | inr e ↦ subst (IsOpen l free h) (sym e) (right_open l free h K row i)
  ]

  go_key_got : (m : HeldLoad) → KnowsKey l free h me op.path m → (raw : ℕ) →
      bare_of raw ≡ at_word h (row_word_of l (row_of (bare_of op.path.edge.raw)) 0) → On m.hand (key_by l op m (Load_has raw))
  go_key_got m f raw read =
      let row : ℕ = row_of (bare_of op.path.edge.raw) in
      let linked : IsLinked l h (row_of (bare_of op.path.edge.raw)) = f.stands.spot.loaded.linked in
      let key_is : value_of raw ≡ key_now l h (row_of (bare_of op.path.edge.raw)) = sym (value_bare raw) ∙ ap value_of read in
      let word_is : side_word l (key_of op.call) (value_of raw) (row_at op.path) ≡ side_now l h key (row_of (bare_of op.path.edge.raw)) =
      ap (λ c. side_word l (key_of c) (value_of raw) (row_at op.path)) same
      ∙ ap (λ r. side_word l key (value_of raw) r) (raw_row l free h K op.path.edge.raw linked)
      ∙ side_is l free h K key (value_of raw) (row_of (bare_of op.path.edge.raw)) linked key_is in
      Goes.starts me m.hand (ToLoad (side_word l (key_of op.call) (value_of raw) (row_at op.path))) (key_by l op m (Load_has raw))
      (subst (IsOpen l free h) (sym word_is) (side_open (row_of (bare_of op.path.edge.raw)) linked)) refl refl same tt (record {
        first = early;
        served = served;
        at = record {
          alone = f.alone;
          stands = record { spot = f.stands.spot; top = f.stands.top };
          reached = f.reached;
          key_is = key_is;
          word = word_is;
          read = tt;
        };
      })

  pub go_key_at : (m : HeldLoad) → KnowsKey l free h me op.path m → (at : Loading) →
      IfRead (λ raw. bare_of raw ≡ at_word h (row_word_of l (row_of (bare_of op.path.edge.raw)) 0)) (load_part at m.word) →
      (is_none (load_asks at m) && true) ≡ true → On m.hand (key_by l op m at)
  go_key_at m f Load_reads read ended = absurd (false≢true ended)
  go_key_at m f (Load_asks raw slot) read ended = absurd (false≢true ended)
  go_key_at m f (Load_makes_room raw first) read ended = absurd (false≢true ended)
  go_key_at m f (Load_has raw) read ended = go_key_got m f raw read

  -- ---- the end of a seek

  module _ (hand : Hand) (owns : Owns free hand) (alone : IsAlone l free h me) (s : Stands l free h me op.path)
      (leaf : IsLeafRow h (row_of (bare_of op.path.edge.raw))) (key_is : op.path.key ≡ key_now l h (row_of (bare_of op.path.edge.raw))) where
    abbrev row : ℕ
    row = row_of (bare_of op.path.edge.raw)

    row_is : row_at op.path ≡ row
    row_is = raw_row l free h K op.path.edge.raw s.spot.loaded.linked

    module _ (plain : IsPlain (bare_of op.path.edge.raw)) (tells : Tells l h me.needs me.first key (row_of (bare_of op.path.edge.raw))) where
      -- a remove flags the edge
      go_flags : me.call ≡ Remove key → key_now l h row ≡ key → On hand (flags l op hand)
      go_flags remove has = go_exchange l p free h K me early served hand op.path.edge (to_row_flagged (row_at op.path)) (λ m. flag_next l op m) s.spot.loaded
          (link_small (row_at op.path) true false (raw_small op.path.edge.raw))
          (λ limited. go_worn l p free h K me early served op same hand op.path.edge.word (version_of op.path.edge.raw) limited)
          (record {
            at = refl;
            call = same;
            knows = record {
              first = early;
              served = served;
              at = (
                remove,
                alone,
                record {
                  stands = s;
                  plain = plain;
                  leaf = leaf;
                  has_key = has;
                  aim = record { word = refl; from_is = refl };
                  to = let f = next_leads op.path.edge.raw (row_at op.path) true false (raw_small op.path.edge.raw) in
                      record { row_is = f.row_is ∙ row_is; flag_is = f.flag_is; frozen_is = f.frozen_is };
                },
              );
            };
          })

      saw_now : key_now l h row ≡ key → Saw h me.needs me.first key (Some (value_now l h row))
      saw_now has = tells.present has

      go_found : (c : Call) → me.call ≡ c → key_now l h row ≡ key → On hand (found l op hand c)
      go_found (Insert k v) e has = go_answer l p free h K me early served op same hand No refl tt
          (subst (SaysNo l free h me) (sym (ap is_insert e)) (value_now l h row, saw_now has))
      go_found (Remove k) e has = go_flags (e ∙ ap Remove (sym (ap key_of e))) has
      go_found (Contains k) e has = go_answer l p free h K me early served op same hand Yes (ap (λ c. not (is_get c)) e) tt
          (subst (SaysYes l free h me) (sym e) (value_now l h row, saw_now has))
      go_found (Get k) e has = by_values l.values refl
        where
          by_values : (b : Bool) → l.values ≡ b →
              On hand (if b then value_next op (v_load_started hand (value_word_of l (row_at op.path))) else answers op hand (Found 0))
          by_values true v = Goes.starts me hand (ToVLoad (value_word_of l (row_at op.path)))
              (value_next op (v_load_started hand (value_word_of l (row_at op.path))))
              (subst (λ r. IsOpen l free h (value_word_of l r)) (sym row_is) (value_open l free h K row s.spot.loaded.linked v)) refl refl same tt (record {
                first = early;
                served = served;
                at = (
                  e ∙ ap Get (sym (ap key_of e)),
                  record {
                    valued = v;
                    linked = s.spot.loaded.linked;
                    saw = saw_now has;
                    word = ap (value_word_of l) row_is;
                    read = tt;
                  },
                );
              })
          by_values false v = go_answer l p free h K me early served op same hand (Found 0) (ap is_get e) tt
              (subst (λ x. Saw h me.needs me.first key (Some x)) (ap (λ b. if b then value_of (at_word h (value_word_of l row)) else 0) v) (saw_now has))

      go_no : (c : Call) → me.call ≡ c → is_insert c ≡ false → key_now l h row ≢ key → On hand (answers op hand No)
      go_no c e none other = go_answer l p free h K me early served op same hand No refl tt
          (subst (SaysNo l free h me) (sym (ap is_insert e ∙ none)) (tells.absent other))

      go_absent : (c : Call) → me.call ≡ c → key_now l h row ≢ key → On hand (absent l free op hand c)
      go_absent (Insert k v) e other = go_takes l layout p free h K me early served op same hand owns (record {
        alone = alone;
        place = record {
          spot = s.spot;
          plain = plain;
          leaf = leaf;
          key_is = key_is;
          another = λ q. other (sym key_is ∙ q);
          insert = ap is_insert e;
        };
      })
      go_absent (Remove k) e other = go_no (Remove k) e refl other
      go_absent (Contains k) e other = go_no (Contains k) e refl other
      go_absent (Get k) e other = go_no (Get k) e refl other

      go_plain : (b : Bool) → (op.path.key == key_of op.call) ≡ b → On hand (if b then found l op hand op.call else absent l free op hand op.call)
      go_plain true e = go_found op.call (sym same) (sym key_is ∙ eqb-true op.path.key (key_of op.call) e ∙ ap key_of same)
      go_plain false e = go_absent op.call (sym same) (λ q. eqb-false op.path.key (key_of op.call) e (key_is ∙ q ∙ sym (ap key_of same)))

    -- an edge with a bit is cleaned up
    go_bit : is_plain op.path.edge.raw ≡ false → On hand (cleans l Help op hand)
    go_bit e = elim (cases_Bool (flag_of (bare_of op.path.edge.raw))) [
      | inl flagged ↦ go_cleans_flagged l p free h K me early served Help tt op same hand alone (record {
        spot = s.spot;
        flagged = flagged;
        way = flagged_way l free h K me.needs key (key_under l me served) op.path.edge.word (bare_of op.path.edge.raw) s.spot op.path.ancestor.word
            (bare_of op.path.ancestor.raw) flagged s.top;
      })
      | inr unflagged ↦
          let frozen : frozen_of (bare_of op.path.edge.raw) ≡ true = bit_from op.path.edge.raw e unflagged in
          go_cleans_frozen l p free h K me early served Help tt op same hand alone s.spot
          (frozen_way l free h K me.needs key (key_under l me served) op.path.edge.word (bare_of op.path.edge.raw) s.spot op.path.ancestor.word
          (bare_of op.path.ancestor.raw) frozen s.top) unflagged frozen
    ]

    go_sought : (IsPlain (bare_of op.path.edge.raw) → Tells l h me.needs me.first key (row_of (bare_of op.path.edge.raw))) → On hand (sought l free op hand)
    unfolding sought
    go_sought tells = by_plain (is_plain op.path.edge.raw) refl
      where
        by_plain : (b : Bool) → is_plain op.path.edge.raw ≡ b → On hand (if b
            then (if op.path.key == key_of op.call then found l op hand op.call else absent l free op hand op.call)
            else cleans l Help op hand)
        by_plain true e = let plain = plain_from op.path.edge.raw e in go_plain plain (tells plain) (op.path.key == key_of op.call) refl
        by_plain false e = go_bit e

  -- ---- an edge below is loaded

  module _ (m : HeldLoad) (owns : Owns free m.hand) (f : KnowsEdge l free h me op.path m) (raw : ℕ) where
    abbrev at_row : ℕ
    at_row = row_of (bare_of op.path.edge.raw)

    abbrev Either : Bool → HeldOp
    Either b = if b
        then sought l free op m.hand
        else stands (record op { path = further op.path m.word raw }) (Key (load_started m.hand (key_word l (raw_row_of raw))))

    -- of a leaf
    go_leaf : IsLeafRow h at_row → value_of (bare_of raw) ≡ 0 → On m.hand (Either (raw_row_of raw == 0))
    go_leaf leaf zero = subst (λ b. On m.hand (Either b)) (sym (eq-eqb (raw_row_of raw) 0 (raw_zero raw zero)))
        (go_sought m.hand owns f.alone f.stands leaf f.key_is (elim f.reached [
          | inl x ↦ x.1
          | inr x ↦ absurd (leaf_or_inner l free h K at_row leaf x.0)
        ]))

    -- of an inner row
    module _ (inner : IsInnerRow l h (row_of (bare_of op.path.edge.raw)))
        (e : HasEdge l free h me (side_now l h key (row_of (bare_of op.path.edge.raw))) (bare_of raw)) where
      led : IsLed l free h me.needs key at_row
      led = elim f.reached [ inl x ↦ absurd (leaf_or_inner l free h K at_row x.0 inner) | inr x ↦ x.1 ]

      abbrev path_if : Bool → Path
      path_if b = record op.path {
        ancestor = if b then op.path.ancestor else op.path.edge;
        edge = record { word = m.word; raw = raw };
      }

      stands_next : (b : Bool) → is_frozen op.path.edge.raw ≡ b → Stands l free h me (path_if b)
      stands_next b q = record {
        spot = record {
          row = at_row;
          linked = f.stands.spot.loaded.linked;
          inner = inner;
          side = sym f.word;
          led = led;
          loaded = subst (λ w. HasLoaded l h me.needs w (bare_of raw)) (sym f.word) e.loaded;
        };
        top = inr (way_next b q);
      }
        where
          way_next : (b : Bool) → is_frozen op.path.edge.raw ≡ b →
              IsWay l free h me.needs key (path_if b).ancestor.word (bare_of (path_if b).ancestor.raw) at_row
          way_next true q = way_further l free h K me.needs key (key_under l me served) op.path.edge.word (bare_of op.path.edge.raw) f.stands.spot inner led
              op.path.ancestor.word (bare_of op.path.ancestor.raw) (sym (raw_frozen op.path.edge.raw) ∙ q) f.stands.top
          way_next false q = way_anew l free h K me.needs key (key_under l me served) op.path.edge.word (bare_of op.path.edge.raw) f.stands.spot inner led
              (sym (raw_frozen op.path.edge.raw) ∙ q)

      some_row : raw_row_of raw ≢ 0
      some_row z = none (raw_row_of raw) (row_of (bare_of raw)) z (raw_row l free h K raw e.loaded.linked)
          (row_range l free h K (row_of (bare_of raw)) e.loaded.linked).0
        where
          none : (a b : ℕ) → a ≡ 0 → a ≡ b → 2 ≤ b → ⊥
          none a b z q i = omega (arith, z, q, i)

      go_inner : On m.hand (Either (raw_row_of raw == 0))
      go_inner = subst (λ b. On m.hand (Either b)) (sym (ne_eqb (raw_row_of raw) 0 some_row))
          (go_key (further op.path m.word raw) m.hand f.alone (stands_next (is_frozen op.path.edge.raw) refl) e.reached)

    go_edge_got : EdgeRead l free h me at_row raw → On m.hand (edge_got l free op m.hand m.word raw)
    unfolding edge_got
    go_edge_got read = elim read [
      | inl x ↦ go_inner x.0 x.1
      | inr x ↦ go_leaf x.0 x.1
    ]

  pub go_edge_at : (m : HeldLoad) → Owns free m.hand → KnowsEdge l free h me op.path m → (at : Loading) →
      IfRead (EdgeRead l free h me (row_of (bare_of op.path.edge.raw))) (load_part at m.word) →
      (is_none (load_asks at m) && true) ≡ true → On m.hand (edge_by l free op m at)
  go_edge_at m owns f Load_reads read ended = absurd (false≢true ended)
  go_edge_at m owns f (Load_asks raw slot) read ended = absurd (false≢true ended)
  go_edge_at m owns f (Load_makes_room raw first) read ended = absurd (false≢true ended)
  go_edge_at m owns f (Load_has raw) read ended = go_edge_got m owns f raw read

  -- ---- the value is loaded

  pub go_value_at : (m : HeldVLoad) → me.call ≡ Get key → KnowsValue l free h me op.path m → (at : VLoading) →
      IfRead (λ raw. bare_of raw ≡ at_word h (value_word_of l (row_of (bare_of op.path.edge.raw)))) (v_load_part at m.word) →
      (is_none (v_load_asks at m) && true) ≡ true → On m.hand (value_by op m at)
  go_value_at m get f V_reads read ended = absurd (false≢true ended)
  go_value_at m get f (V_has raw) read ended = go_answer l p free h K me early served op same m.hand (Found (value_of raw)) (ap is_get get) tt
      (subst (λ x. Saw h me.needs me.first key (Some x)) (ap (λ b. if b
      then value_of (at_word h (value_word_of l (row_of (bare_of op.path.edge.raw)))) else 0) f.valued ∙ ap value_of (sym read) ∙ value_bare raw) f.saw)

  -- ---- a remove's leaf is flagged

  go_flagged : (m : HeldExchange) → me.call ≡ Remove key → IsAlone l free h me → Flagged l free h me op.path m → On m.hand (flag_by l op m (Ended Won))
  go_flagged m remove alone f =
      let bare : m.to ≡ bare_of m.to = sym (bare-untagged m.to f.bare) in
      go_cleans_flagged l p free h K me early served Own remove (record op { path = with_edge op.path m.to }) same m.hand alone
      (cleans_then f.cleans bare)
    where
      cleans_then : Cleans l free h me op.path m.to → m.to ≡ bare_of m.to → Cleans l free h me (with_edge op.path m.to) (bare_of m.to)
      cleans_then g bare = subst (Cleans l free h me (with_edge op.path m.to)) bare (record { spot = g.spot; flagged = g.flagged; way = g.way })

  pub go_flag_at : (m : HeldExchange) → me.call ≡ Remove key → IsAlone l free h me → (at : Exchanging) →
      IfTried (FlagsTo l free h me op.path m) (Flagged l free h me op.path m) (exchange_part at) →
      ExchangesAt (tree_crew l p free) l p free at → (is_none (exchange_asks p at m) && true) ≡ true → On m.hand (flag_by l op m at)
  go_flag_at m remove alone Ready g facts ended = absurd (false≢true ended)
  go_flag_at m remove alone (Tries slot) g facts ended = absurd (false≢true ended)
  go_flag_at m remove alone TriesBare g facts ended = absurd (false≢true ended)
  go_flag_at m remove alone WritesBack g facts ended = absurd (false≢true ended)
  go_flag_at m remove alone Withdraws g facts ended = absurd (false≢true ended)
  go_flag_at m remove alone (Lowers slot found) g facts ended = absurd (false≢true ended)
  go_flag_at m remove alone (Ended Won) g facts ended = go_flagged m remove alone g
  go_flag_at m remove alone (Ended (Lost found)) g facts ended = go_seek l p free h K me early served op same m.hand alone
  go_flag_at m remove alone (Ended (Exchange_worn word version)) g facts ended = absurd facts
