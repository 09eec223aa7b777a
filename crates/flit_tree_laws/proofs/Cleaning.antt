-- How a call goes on with a clean-up, its own or a help.
use Rattle.std.proofs.Common.{◌≡◌, ◌⊎◌, ℕ, ◌≤◌, ◌&&◌, not, Bool, true, false, List, length, is_none, inl, inr, refl, sym, ◌∙◌, ap, subst, if◌then◌else◌}
use Rattle.std.proofs.lemmas.Bool.{false≢true}
use Rattle.flit_words.specs.declared.layouts.Layout.{Layout}
use Rattle.flit_words.specs.Words.{version_of, bare_of}
use Rattle.flit_model.specs.declared.calls.Call.TheVariants.{Remove}
use Rattle.flit_model.specs.declared.calls.Reply.TheVariants.{Yes, Worn}
use Rattle.flit_place.specs.Tags.{Place}
use Rattle.flit_place.proofs.WordTags.{bare-untagged}
use Rattle.flit_pv.specs.declared.hands.Hand.{Hand}
use Rattle.flit_pv.specs.Loads.{HeldLoad, load_started, load_asks}
use Rattle.flit_pv.specs.declared.loads.Loading.{Loading}
use Rattle.flit_pv.specs.declared.loads.Loading.TheVariants.{Reads as Load_reads, Asks as Load_asks, MakesRoom as Load_makes_room, Has as Load_has}
use Rattle.flit_pv.specs.Exchanges.{HeldExchange, exchange_asks}
use Rattle.flit_pv.specs.declared.exchanges.Exchanging.{Exchanging}
use Rattle.flit_pv.specs.declared.exchanges.Exchanging.TheVariants.{Ready, Tries, TriesBare, WritesBack, Withdraws, Lowers, Ended}
use Rattle.flit_pv.specs.declared.exchanges.Exchanged.{Exchanged}
use Rattle.flit_pv.specs.declared.exchanges.Exchanged.TheVariants.{Won, Lost, Worn as Exchange_worn}
use Rattle.flit_runs.specs.Workings.{ToLoad}
use Rattle.flit_structure.specs.Meanings.{IsServed, key_of}
use Rattle.flit_structure.specs.Lawful.{is_get}
use Rattle.flit_crew.specs.Heaps.{IsOpen}
use Rattle.flit_crew.specs.Machines.{exchange_part, load_part}
use Rattle.flit_crew.specs.Crews.{Who, Goes, ExchangesAt}
use Rattle.flit_tree_heap.specs.Edges.{left, right, other, row_of, flag_of, frozen_of}
use Rattle.flit_tree_heap.specs.Views.{TreeHeap, IsLinked}
use Rattle.flit_tree_heap.specs.Kept.{IsKept}
use Rattle.flit_tree_heap.specs.Searches.{HasLoaded}
use Rattle.flit_tree_heap.proofs.Rows.{edge_open}
use Rattle.flit_tree_heap.proofs.Sameness.{edge_other}
use Rattle.flit_tree_heap.proofs.Words.{other-left, other-right}
use Rattle.flit_tree_knowing.specs.Spots.{IsSpot, IsWay}
use Rattle.flit_tree_steps.specs.declared.operations.CleanUp.{CleanUp}
use Rattle.flit_tree_steps.specs.declared.operations.CleanUp.TheVariants.{Own, Help}
use Rattle.flit_tree_steps.specs.Operations.{HeldOp, Sibling}
use Rattle.flit_tree_steps.specs.Steps.{Carried, stands, row_of as raw_row_of, is_flagged, is_frozen, frozen_link, thawed_link, other_word, with_helped, with_sibling, answers, cleaned_so, swing_by, swing_next, swings, freeze_by, freeze_next, freezes, sibling_got, sibling_by, cleans}
use Rattle.flit_tree_laws.specs.Knowing.{IfRead, IfTried, LeadsTo, IsAlone, SaysYes, Cleans, KnowsSibling, FreezesTo, Frozen, MaySwing}
use Rattle.flit_tree_laws.specs.TreeCrew.{IsFor, tree_crew}
use Rattle.flit_tree_laws.proofs.Raws.{raw_flag, raw_frozen, raw_row, row_some, raw_small, side_either, other_is, link_small, next_leads}
use Rattle.flit_tree_laws.proofs.Starting.{GoesOn, Limited, go_seek, go_answer, go_worn, go_exchange}

module _ (l : Layout) (p : Place) (free : List ℕ) (h : TreeHeap) (K : IsKept l free h) (me : Who) (early : me.first ≤ length h.progress.settled)
    (served : IsServed l me.call) where
  abbrev key : ℕ
  key = key_of me.call

  abbrev On : Hand → HeldOp → Type 0
  On hand next = GoesOn l p free h K me early served hand next

  -- a clean-up has ended; where it was worn, so is the reply
  abbrev LimitIf : Hand → Exchanged → Type 0
  LimitIf hand Won = Unit {0}
  LimitIf hand (Lost found) = Unit {0}
  LimitIf hand (Exchange_worn word version) = Limited l p free h K me early served hand (Worn word version)

  pub go_removed : (op : Carried) → op.call ≡ me.call → me.call ≡ Remove key → (hand : Hand) → On hand (answers op hand Yes)
  go_removed op same remove hand = go_answer l p free h K me early served op same hand Yes (ap (λ c. not (is_get c)) remove) tt
      (subst (SaysYes l free h me) (sym remove) tt)

  go_cleaned : (c : CleanUp) → IsFor l free h me c → (op : Carried) → op.call ≡ me.call → (hand : Hand) → IsAlone l free h me → (how : Exchanged) →
      LimitIf hand how → On hand (cleaned_so c op hand how)
  go_cleaned Own f op same hand alone how limit = go_removed op same f hand
  go_cleaned Help f op same hand alone Won limit = Goes.changes me hand (with_helped hand) (cleaned_so Help op hand Won)
      (record { name = refl; number = refl; queue = refl; ticket = refl; queued = refl })
      (go_seek l p free h K me early served op same (with_helped hand) alone)
  go_cleaned Help f op same hand alone (Lost found) limit = go_seek l p free h K me early served op same hand alone
  go_cleaned Help f op same hand alone (Exchange_worn word version) limit = go_worn l p free h K me early served op same hand word version limit

  -- ---- the ancestor's edge is swung

  pub go_swing_at : (c : CleanUp) → IsFor l free h me c → (op : Carried) → op.call ≡ me.call → (m : HeldExchange) → IsAlone l free h me → (at : Exchanging) →
      ExchangesAt (tree_crew l p free) l p free at → (is_none (exchange_asks p at m) && true) ≡ true → On m.hand (swing_by c op m at)
  go_swing_at c f op same m alone Ready facts ended = absurd (false≢true ended)
  go_swing_at c f op same m alone (Tries slot) facts ended = absurd (false≢true ended)
  go_swing_at c f op same m alone TriesBare facts ended = absurd (false≢true ended)
  go_swing_at c f op same m alone WritesBack facts ended = absurd (false≢true ended)
  go_swing_at c f op same m alone Withdraws facts ended = absurd (false≢true ended)
  go_swing_at c f op same m alone (Lowers slot found) facts ended = absurd (false≢true ended)
  go_swing_at c f op same m alone (Ended Won) facts ended = go_cleaned c f op same m.hand alone Won tt
  go_swing_at c f op same m alone (Ended (Lost found)) facts ended = go_cleaned c f op same m.hand alone (Lost found) tt
  go_swing_at c f op same m alone (Ended (Exchange_worn word version)) facts ended = absurd facts

  -- a link to the row of a loaded edge, with that edge's flag
  leads_as : (old raw : ℕ) (frozen : Bool) → IsLinked l h (row_of (bare_of raw)) →
      LeadsTo (Rattle.flit_pv.specs.Drafts.next_bare old (Rattle.flit_tree_laws.proofs.Raws.tree_link (raw_row_of raw) (is_flagged raw) frozen))
      (row_of (bare_of raw)) (flag_of (bare_of raw)) frozen
  leads_as old raw frozen i =
      let f = next_leads old (raw_row_of raw) (is_flagged raw) frozen (raw_small raw) in
      record { row_is = f.row_is ∙ raw_row l free h K raw i; flag_is = f.flag_is ∙ raw_flag raw; frozen_is = f.frozen_is }

  pub go_swings : (c : CleanUp) → IsFor l free h me c → (op : Carried) → op.call ≡ me.call → (hand : Hand) → IsAlone l free h me →
      MaySwing l free h me op.path → On hand (swings l c op hand)
  unfolding swings
  go_swings c f op same hand alone g = go_exchange l p free h K me early served hand op.path.ancestor (thawed_link op.path.sibling.raw) (λ m. swing_next c op m)
      g.way.spot.loaded (link_small (raw_row_of op.path.sibling.raw) (is_flagged op.path.sibling.raw) false (raw_small op.path.sibling.raw))
      (λ limited. go_cleaned c f op same hand alone (Exchange_worn op.path.ancestor.word (version_of op.path.ancestor.raw)) limited)
      (record {
        at = refl;
        call = same;
        knows = record {
          first = early;
          served = served;
          at = (
            f,
            alone,
            record {
              keeps = g;
              aim = record { word = refl; from_is = refl };
              to = leads_as op.path.ancestor.raw op.path.sibling.raw false g.loaded.linked;
            },
          );
        };
      })

  -- ---- a sibling is frozen

  -- the edges of a spot's row
  spot_side : (edge x : ℕ) (s : IsSpot l free h me.needs key edge x) → (edge ≡ left s.row) ⊎ (edge ≡ right s.row)
  spot_side edge x s = elim (side_either l h key s.row) [
    | inl e ↦ inl (sym s.side ∙ e)
    | inr e ↦ inr (sym s.side ∙ e)
  ]

  other_side : (edge x : ℕ) (s : IsSpot l free h me.needs key edge x) → (other edge ≡ left s.row) ⊎ (other edge ≡ right s.row)
  other_side edge x s = elim (spot_side edge x s) [
    | inl e ↦ inr (ap other e ∙ other-left s.row (row_some l free h K s.row s.linked))
    | inr e ↦ inl (ap other e ∙ other-right s.row (row_some l free h K s.row s.linked))
  ]

  -- the sibling is frozen: what it leads to may be swung
  sibling_swings : (op : Carried) (word raw : ℕ) → Cleans l free h me op.path (bare_of op.path.edge.raw) → word ≡ other op.path.edge.word →
      HasLoaded l h me.needs (other op.path.edge.word) (bare_of raw) → frozen_of (bare_of raw) ≡ true → MaySwing l free h me (with_sibling op.path word raw)
  sibling_swings op word raw g at loaded frozen = record {
    spot = g.spot;
    way = g.way;
    loaded = subst (λ w. HasLoaded l h me.needs w (bare_of raw)) (sym at) loaded;
    side = subst (λ w. (w ≡ left g.spot.row) ⊎ (w ≡ right g.spot.row)) (sym at) (other_side op.path.edge.word (bare_of op.path.edge.raw) g.spot);
    frozen = frozen;
  }

  pub go_freeze_at : (c : CleanUp) → IsFor l free h me c → (op : Carried) → op.call ≡ me.call → (m : HeldExchange) → IsAlone l free h me → (at : Exchanging) →
      IfTried (FreezesTo l free h me op.path m) (Frozen l free h me op.path m) (exchange_part at) →
      ExchangesAt (tree_crew l p free) l p free at → (is_none (exchange_asks p at m) && true) ≡ true → On m.hand (freeze_by l c op m at)
  go_freeze_at c f op same m alone Ready g facts ended = absurd (false≢true ended)
  go_freeze_at c f op same m alone (Tries slot) g facts ended = absurd (false≢true ended)
  go_freeze_at c f op same m alone TriesBare g facts ended = absurd (false≢true ended)
  go_freeze_at c f op same m alone WritesBack g facts ended = absurd (false≢true ended)
  go_freeze_at c f op same m alone Withdraws g facts ended = absurd (false≢true ended)
  go_freeze_at c f op same m alone (Lowers slot found) g facts ended = absurd (false≢true ended)
  go_freeze_at c f op same m alone (Ended Won) g facts ended =
      let bare : m.to ≡ bare_of m.to = sym (bare-untagged m.to g.bare) in
      go_swings c f (record op { path = with_sibling op.path op.path.sibling.word m.to }) same m.hand alone
      (sibling_swings op op.path.sibling.word m.to g.cleans g.sibling
      (subst (HasLoaded l h me.needs (other op.path.edge.word)) bare g.loaded) (ap frozen_of (sym bare) ∙ g.frozen))
  go_freeze_at c f op same m alone (Ended (Lost found)) g facts ended = go_cleaned c f op same m.hand alone (Lost found) tt
  go_freeze_at c f op same m alone (Ended (Exchange_worn word version)) g facts ended = absurd facts

  go_freezes : (c : CleanUp) → IsFor l free h me c → (op : Carried) → op.call ≡ me.call → (hand : Hand) → IsAlone l free h me →
      Cleans l free h me op.path (bare_of op.path.edge.raw) → op.path.sibling.word ≡ other op.path.edge.word →
      HasLoaded l h me.needs (other op.path.edge.word) (bare_of op.path.sibling.raw) → frozen_of (bare_of op.path.sibling.raw) ≡ false →
      On hand (freezes l c op hand)
  go_freezes c f op same hand alone g at loaded unfrozen = go_exchange l p free h K me early served hand op.path.sibling (frozen_link op.path.sibling.raw)
      (λ m. freeze_next l c op m) (subst (λ w. HasLoaded l h me.needs w (bare_of op.path.sibling.raw)) (sym at) loaded)
      (link_small (raw_row_of op.path.sibling.raw) (is_flagged op.path.sibling.raw) true (raw_small op.path.sibling.raw))
      (λ limited. go_cleaned c f op same hand alone (Exchange_worn op.path.sibling.word (version_of op.path.sibling.raw)) limited)
      (record {
        at = refl;
        call = same;
        knows = record {
          first = early;
          served = served;
          at = (
            f,
            alone,
            record {
              cleans = g;
              sibling = at;
              loaded = loaded;
              unfrozen = unfrozen;
              aim = record { word = refl; from_is = refl };
              to = leads_as op.path.sibling.raw op.path.sibling.raw true loaded.linked;
            },
          );
        };
      })

  -- the sibling is loaded
  module _ (c : CleanUp) (f : IsFor l free h me c) (op : Carried) (same : op.call ≡ me.call) (m : HeldLoad)
      (g : KnowsSibling l free h me op.path m) (raw : ℕ) (loaded : HasLoaded l h me.needs (other op.path.edge.word) (bare_of raw)) where
    abbrev then_op : Carried
    then_op = record op { path = with_sibling op.path m.word raw }

    cleans_then : Cleans l free h me then_op.path (bare_of op.path.edge.raw)
    cleans_then = record { spot = g.cleans.spot; flagged = g.cleans.flagged; way = g.cleans.way }

    go_got : (b : Bool) → is_frozen raw ≡ b → On m.hand (if b then swings l c then_op m.hand else freezes l c then_op m.hand)
    go_got true e = go_swings c f then_op same m.hand g.alone (sibling_swings op m.word raw g.cleans g.word loaded (sym (raw_frozen raw) ∙ e))
    go_got false e = go_freezes c f then_op same m.hand g.alone cleans_then g.word loaded (sym (raw_frozen raw) ∙ e)

    go_sibling_got : On m.hand (sibling_got l c then_op m.hand)
    unfolding sibling_got
    go_sibling_got = go_got (is_frozen raw) refl

  pub go_sibling_at : (c : CleanUp) → IsFor l free h me c → (op : Carried) → op.call ≡ me.call → (m : HeldLoad) → KnowsSibling l free h me op.path m →
      (at : Loading) →
      IfRead (λ raw. HasLoaded l h me.needs (other op.path.edge.word) (bare_of raw)) (load_part at m.word) →
      (is_none (load_asks at m) && true) ≡ true → On m.hand (sibling_by l c op m at)
  go_sibling_at c f op same m g Load_reads read ended = absurd (false≢true ended)
  go_sibling_at c f op same m g (Load_asks raw slot) read ended = absurd (false≢true ended)
  go_sibling_at c f op same m g (Load_makes_room raw first) read ended = absurd (false≢true ended)
  go_sibling_at c f op same m g (Load_has raw) read ended = go_sibling_got c f op same m g raw read

  -- ---- a clean-up begins

  -- the edge is flagged
  pub go_cleans_flagged : (c : CleanUp) → IsFor l free h me c → (op : Carried) → op.call ≡ me.call → (hand : Hand) → IsAlone l free h me →
      Cleans l free h me op.path (bare_of op.path.edge.raw) → On hand (cleans l c op hand)
  unfolding cleans
  go_cleans_flagged c f op same hand alone g = subst (λ b. On hand (if b
      then stands op (Sibling c (load_started hand (other_word op.path.edge.word)))
      else swings l c (record op { path = with_sibling op.path op.path.edge.word op.path.edge.raw }) hand))
      (sym (raw_flag op.path.edge.raw ∙ g.flagged))
      (Goes.starts me hand (ToLoad (other_word op.path.edge.word)) (stands op (Sibling c (load_started hand (other_word op.path.edge.word))))
      (subst (IsOpen l free h) (sym (other_is op.path.edge.word))
      (edge_open l free h K (other op.path.edge.word) (edge_other l free h K op.path.edge.word g.spot.loaded.at))) refl refl same tt (record {
        first = early;
        served = served;
        at = (f, record { alone = alone; cleans = g; word = other_is op.path.edge.word; read = tt });
      }))

  -- the edge is frozen, and not flagged
  pub go_cleans_frozen : (c : CleanUp) → IsFor l free h me c → (op : Carried) → op.call ≡ me.call → (hand : Hand) → IsAlone l free h me →
      (s : IsSpot l free h me.needs key op.path.edge.word (bare_of op.path.edge.raw)) →
      IsWay l free h me.needs key op.path.ancestor.word (bare_of op.path.ancestor.raw) s.row → flag_of (bare_of op.path.edge.raw) ≡ false →
      frozen_of (bare_of op.path.edge.raw) ≡ true → On hand (cleans l c op hand)
  unfolding cleans
  go_cleans_frozen c f op same hand alone s way unflagged frozen = subst (λ b. On hand (if b
      then stands op (Sibling c (load_started hand (other_word op.path.edge.word)))
      else swings l c (record op { path = with_sibling op.path op.path.edge.word op.path.edge.raw }) hand))
      (sym (raw_flag op.path.edge.raw ∙ unflagged))
      (go_swings c f (record op { path = with_sibling op.path op.path.edge.word op.path.edge.raw }) same hand alone (record {
        spot = s;
        way = way;
        loaded = s.loaded;
        side = spot_side op.path.edge.word (bare_of op.path.edge.raw) s;
        frozen = frozen;
      }))
