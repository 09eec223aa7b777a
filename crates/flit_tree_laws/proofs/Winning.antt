-- A call's exchange is won: an insert's rows are linked, a remove's leaf is flagged, or a clean-up goes on.
use Rattle.std.proofs.Common.{◌≡◌, ◌≢◌, ℕ, ◌+◌, ◌^◌, ◌<◌, ◌≤◌, ◌&&◌, nat_lt, Bool, true, false, List, [], ◌∷◌, length, Option, Some, None, inl, inr, refl, sym, ◌∙◌, ap, subst, arith, if◌then◌else◌}
use Rattle.std.proofs.lemmas.Bool.{false≢true, ltb-true, ltb-false}
use Rattle.flit_words.specs.declared.layouts.Layout.{Layout}
use Rattle.flit_words.specs.Layouts.{row_word_of}
use Rattle.flit_words.specs.Words.{version_of, value_of, bare_of}
use Rattle.flit_place.proofs.WordTags.{version-bare}
use Rattle.flit_model.specs.Histories.{is_update_by}
use Rattle.flit_model.specs.declared.calls.Call.{Call}
use Rattle.flit_model.specs.declared.calls.Call.TheVariants.{Insert, Remove, Contains, Get}
use Rattle.flit_model.specs.declared.calls.Reply.{Reply}
use Rattle.flit_model.specs.declared.calls.Reply.TheVariants.{Yes}
use Rattle.flit_model.specs.declared.calls.Entry.{Entry}
use Rattle.flit_place.specs.Tags.{Place}
use Rattle.flit_pv.specs.Exchanges.{HeldExchange, exchange_at}
use Rattle.flit_pv.specs.declared.exchanges.Exchanging.TheVariants.{WritesBack}
use Rattle.flit_rows.specs.Shares.{rows_in}
use Rattle.flit_runs.specs.Workings.{Exchanges}
use Rattle.flit_runs.specs.Worlds.{IsAway}
use Rattle.flit_runs.specs.Soundness.{IsNext, Needs}
use Rattle.flit_structure.specs.Moments.{update_of}
use Rattle.flit_structure.specs.Meanings.{IsServed, key_of, value_put}
use Rattle.flit_structure.specs.Lawful.{is_insert, rows_needed}
use Rattle.flit_crew.specs.Machines.{Works, ToWin, exchange_part}
use Rattle.flit_crew.specs.Heaps.{at_word, at_shadow, waits_at, won, AreResting}
use Rattle.flit_crew.specs.Fillings.{HoldFrom}
use Rattle.flit_crew.specs.Crews.{Who, IsFurther, effect_of, links_of}
use Rattle.flit_crew.specs.Obligations.{WonSo}
use Rattle.flit_tree_heap.specs.Edges.{left, right, other, row_of, IsPlain}
use Rattle.flit_tree_heap.specs.Views.{TreeHeap, IsTreeLayout}
use Rattle.flit_tree_heap.specs.Kept.{IsKept}
use Rattle.flit_tree_heap.specs.Later.{IsLater}
use Rattle.flit_tree_heap.specs.Exchanges.{key_now, IsFlag, IsFreeze, IsPair, IsLink, IsSwing, IsWon}
use Rattle.flit_tree_heap.proofs.Images.{left_at, right_at}
use Rattle.flit_tree_heap.proofs.Rows.{pool_range}
use Rattle.flit_tree_heap.proofs.Winning.{flag_won, freeze_won, swing_won}
use Rattle.flit_tree_heap.proofs.Linking.{link_won}
use Rattle.flit_tree_knowing.specs.Spots.{IsSpot, IsWay}
use Rattle.flit_tree_knowing.proofs.Positions.{longer}
use Rattle.flit_tree_knowing.proofs.Going.{top_unflagged}
use Rattle.flit_tree_knowing.proofs.Lasting.{spot_lasts, top_lasts}
use Rattle.flit_tree_knowing.proofs.Winning.{Rests, is_flag, is_freeze, is_swing, is_link, now_is, edge_now, spot_now}
use Rattle.flit_tree_steps.specs.declared.operations.Path.{Path}
use Rattle.flit_tree_steps.specs.declared.operations.EdgeWord.{EdgeWord}
use Rattle.flit_tree_steps.specs.declared.operations.CleanUp.{CleanUp}
use Rattle.flit_tree_steps.specs.declared.operations.CleanUp.TheVariants.{Own, Help}
use Rattle.flit_tree_steps.specs.Operations.{At, Root, Key, Edge, Rows, LeafWords, LeafValue, InnerWords, Link, Flag, Sibling, Freeze, Swing, Value, Ends, Rests as At_rest, HeldOp}
use Rattle.flit_tree_steps.specs.Steps.{to_row, inner_words}
use Rattle.flit_tree_laws.specs.Knowing.{IfTried, AimsAt, LinksTo, FlagsTo, Flagged, FreezesTo, Frozen, SwingsTo}
use Rattle.flit_tree_laws.specs.TreeAnatomy.{machine_at, tree_anatomy}
use Rattle.flit_tree_laws.specs.TreeCrew.{IsFor, KnowsAt, tree_crew}
use Rattle.flit_tree_laws.proofs.Parts.{key_below, key_under, next_part}
use Rattle.flit_tree_laws.proofs.Raws.{word_leads, row_fits}
use Rattle.flit_tree_laws.proofs.Growing.{more_at}
use Rattle.flit_tree_laws.proofs.Lasting.{cleans_on, loaded_then}
use Rattle.flit_tree_laws.proofs.Sitting.{insert_updates}

put_call : (c : Call) → is_insert c ≡ true → c ≡ Insert (key_of c) (value_put c)
put_call (Insert k v) e = refl
put_call (Remove k) e = absurd (cc)
put_call (Contains k) e = absurd (cc)
put_call (Get k) e = absurd (cc)

-- ---- the new rows

module _ (l : Layout) (layout : IsTreeLayout l) (h : TreeHeap) where
  left_is : (row : ℕ) → 1 ≤ row → row_word_of l row 0 + 1 ≡ left row
  left_is row some = next_part l row 0 ∙ left_at l layout.accepted layout.kind row some

  right_is : (row : ℕ) → 1 ≤ row → row_word_of l row 0 + 1 + 1 ≡ right row
  right_is row some = ap (λ w. w + 1) (next_part l row 0) ∙ next_part l row 1 ∙ right_at l layout.accepted layout.kind row some

  -- the inner row as it was stored
  pair_of : (key old_key old inner leaf : ℕ) → leaf < 2 ^ 22 → old < 2 ^ 22 → 1 ≤ inner → old_key ≢ key →
      HoldFrom h (row_word_of l inner 0) (inner_words key old_key leaf old) → IsPair l h key old_key old inner leaf
  pair_of key old_key old inner leaf leaf_fits old_fits some another f = by_order (nat_lt key old_key) refl f
    where
      greater : (a b : ℕ) → b ≤ a → b ≢ a → b < a
      greater a b i ne = omega (arith, i, ne)

      plain : (word row : ℕ) → row < 2 ^ 22 → value_of word ≡ to_row row → IsPlain word
      plain word row b e = record { unflagged = (word_leads word row false false b e).flag_is; unfrozen = (word_leads word row false false b e).frozen_is }

      to_left : (v : ℕ) → value_of (at_word h (row_word_of l inner 0 + 1)) ≡ v → value_of (at_word h (left inner)) ≡ v
      to_left v e = ap (λ w. value_of (at_word h w)) (sym (left_is inner some)) ∙ e

      to_right : (v : ℕ) → value_of (at_word h (row_word_of l inner 0 + 1 + 1)) ≡ v → value_of (at_word h (right inner)) ≡ v
      to_right v e = ap (λ w. value_of (at_word h w)) (sym (right_is inner some)) ∙ e

      by_order : (b : Bool) → nat_lt key old_key ≡ b → HoldFrom h (row_word_of l inner 0)
          ((if b then old_key else key) ∷ (if b then to_row leaf else to_row old) ∷ (if b then to_row old else to_row leaf) ∷ []) →
          IsPair l h key old_key old inner leaf
      by_order true e g =
          let a : value_of (at_word h (left inner)) ≡ to_row leaf = to_left (to_row leaf) g.1.0 in
          let b : value_of (at_word h (right inner)) ≡ to_row old = to_right (to_row old) g.1.1.0 in record {
            left_plain = plain (at_word h (left inner)) leaf leaf_fits a;
            right_plain = plain (at_word h (right inner)) old old_fits b;
            order = inl (
              ltb-true key old_key e,
              g.0,
              (word_leads (at_word h (left inner)) leaf false false leaf_fits a).row_is,
              (word_leads (at_word h (right inner)) old false false old_fits b).row_is,
            );
          }
      by_order false e g =
          let a : value_of (at_word h (left inner)) ≡ to_row old = to_left (to_row old) g.1.0 in
          let b : value_of (at_word h (right inner)) ≡ to_row leaf = to_right (to_row leaf) g.1.1.0 in record {
            left_plain = plain (at_word h (left inner)) old old_fits a;
            right_plain = plain (at_word h (right inner)) leaf leaf_fits b;
            order = inr (
              greater key old_key (ltb-false key old_key e) another,
              g.0,
              (word_leads (at_word h (left inner)) old false false old_fits a).row_is,
              (word_leads (at_word h (right inner)) leaf false false leaf_fits b).row_is,
            );
          }

module _ (l : Layout) (layout : IsTreeLayout l) (p : Place) (free : List ℕ) (h : TreeHeap) (K : IsKept l free h) (me you : Who)
    (early : me.first ≤ length h.progress.settled) (further : IsFurther me you) (served : IsServed l me.call)
    (persistent : (v a : ℕ) → Needs me.needs v a → a ≤ version_of (at_shadow h v)) (alone : (v : ℕ) → IsAway me.private v)
    (call : Call) (reply : Reply) (path : Path) (same : call ≡ me.call) (m : HeldExchange) (part : exchange_part m.at ≡ ToWin)
    (waits : waits_at h m.word ≡ None) (word_is : at_word h m.word ≡ bare_of m.from) (shadow_is : at_shadow h m.word ≡ bare_of m.from) (next_is : IsNext m)
    (needed : Needs you.needs m.word (version_of m.to)) where
  abbrev key : ℕ
  key = key_of me.call

  abbrev key_you : ℕ
  key_you = key_of you.call

  abbrev op_at : At → HeldOp
  op_at at = record { call = call; reply = reply; path = path; at = at }

  abbrev won_m : HeldExchange
  won_m = exchange_at m WritesBack

  abbrev Wins : At → Option Entry → List ℕ → ℕ → Type 0
  Wins at o rows v = WonSo (tree_crew l p free) l p free h me you (op_at at) m (won h v m.to o rows tt)

  -- the word is at rest, with what was loaded of it
  rests_as : (edge : EdgeWord) → AimsAt edge m → Rests h edge.word (bare_of edge.raw) m.to
  rests_as edge a = record {
    word = ap (at_word h) (sym a.word) ∙ word_is ∙ ap bare_of a.from_is;
    shadow = ap (at_shadow h) (sym a.word) ∙ shadow_is ∙ ap bare_of a.from_is;
    none = ap (waits_at h) (sym a.word) ∙ waits;
    bare = next_is.bare;
    next = next_is.next ∙ ap (λ r. version_of r + 1) a.from_is ∙ ap (λ v. v + 1) (sym (version-bare edge.raw));
  }

  early_you : you.first ≤ length h.progress.settled
  early_you = subst (λ n. n ≤ length h.progress.settled) (sym further.first) early

  served_you : IsServed l you.call
  served_you = subst (IsServed l) (sym further.call) served

  alone_you : (v : ℕ) → IsAway you.private v
  alone_you v = further.private v (alone v)

  first_then : (k : TreeHeap) (who : Option ℕ) → IsKept l free k → IsLater l free who h k → you.first ≤ length k.progress.settled
  first_then k who N L = through you.first (length h.progress.settled) (length k.progress.settled) early_you (longer l free who h k K N L)
    where
      through : (a b c : ℕ) → a ≤ b → b ≤ c → a ≤ c
      through a b c i j = omega (arith, i, j)

  needed_at : (w : ℕ) → m.word ≡ w → Needs you.needs w (version_of m.to)
  needed_at w e = subst (λ v. Needs you.needs v (version_of m.to)) e needed

  still_for : (k : TreeHeap) (c : CleanUp) → IsFor l free h you c → IsFor l free k you c
  still_for k Own f = f
  still_for k Help f = tt

  -- ---- a remove's leaf is flagged

  may_flag : FlagsTo l free h me path m → (row : ℕ) × IsFlag l free h me.needs key row path.edge.word m.to
  may_flag f = (
    f.stands.spot.row,
    is_flag l free h K me.needs persistent key (key_below l me served) path.edge.word (bare_of path.edge.raw) m.to f.stands.spot f.plain
        (rests_as path.edge f.aim)
        f.leaf f.has_key f.to.row_is f.to.flag_is f.to.frozen_is,
  )

  flag_then : (k : TreeHeap) (who : Option ℕ) → IsKept l free k → IsLater l free who h k → at_word k path.edge.word ≡ m.to → FlagsTo l free h you path m →
      Flagged l free k you path won_m
  flag_then k who N L now f =
      let below = key_under l you served_you in
      let s : IsSpot l free k you.needs key_you path.edge.word m.to =
      spot_now l free k you.needs key_you path.edge.word (bare_of path.edge.raw) m.to
      (spot_lasts l free who h k K N L you.needs key_you below path.edge.word (bare_of path.edge.raw) f.stands.spot) now
      (needed_at path.edge.word f.aim.word) in record {
        word = f.aim.word;
        bare = next_is.bare;
        cleans = record {
          spot = s;
          flagged = f.to.flag_is;
          way = elim (top_lasts l free who h k K N L you.needs key_you below path.ancestor.word (bare_of path.ancestor.raw) path.edge.word
              (bare_of path.edge.raw) f.stands.spot.row f.stands.top) [
                | inl y ↦ absurd (top_unflagged l free k N you.needs key_you below path.edge.word m.to s y.0 f.to.flag_is)
                | inr w ↦ w
              ];
        };
      }

  wins_flag : KnowsAt l free h me reply path (Flag m) →
      Wins (Flag m) (Some (update_of me.name me.number me.call)) (links_of (tree_anatomy l p free) (op_at (Flag m)))
      m.word
  wins_flag f =
      let f_win : FlagsTo l free h me path m = subst (IfTried (FlagsTo l free h me path m) (Flagged l free h me path m)) part f.2 in
      let g : KnowsAt l free h you reply path (Flag m) = more_at me you further l free h reply path (Flag m) f in
      let g_win : FlagsTo l free h you path m = subst (IfTried (FlagsTo l free h you path m) (Flagged l free h you path m)) part g.2 in
      let removes : call ≡ Remove key = same ∙ f.0 in
      let rows : links_of (tree_anatomy l p free) (op_at (Flag m)) ≡ [] = ap (λ b. if true && b then rows_in m.hand.spare else []) (ap is_insert removes) in
      let o : Option Entry = Some (update_of me.name me.number (Remove key)) in
      let may = may_flag f_win in
      let k : TreeHeap = won h path.edge.word m.to o [] tt in
      let done : IsWon l free h me.name path.edge.word m.to o [] =
      flag_won l free h me.needs key may.0 path.edge.word m.to me.name me.number K may.1 in
      let result : Wins (Flag m) o [] path.edge.word = record {
        kept = done.kept;
        later = done.later;
        knows = record {
          first = first_then k (Some me.name) done.kept done.later;
          served = served_you;
          at = (
            g.0,
            alone_you,
            flag_then k (Some me.name) done.kept done.later (now_is l free h K path.edge.word m.to o [] g_win.stands.spot.loaded.at) g_win,
          );
        };
        update = λ q. ap (λ c. is_update_by c Yes) removes;
        linked = λ q i. absurd (false≢true (sym (ap is_insert removes) ∙ i));
      } in
      subst (λ rs. Wins (Flag m) (Some (update_of me.name me.number me.call)) rs m.word) (sym rows)
      (subst (Wins (Flag m) (Some (update_of me.name me.number me.call)) []) (sym f_win.aim.word)
      (subst (λ c. Wins (Flag m) (Some (update_of me.name me.number c)) [] path.edge.word) (sym f.0) result))

  -- ---- a sibling is frozen

  may_freeze : FreezesTo l free h me path m → IsFreeze l h (other path.edge.word) m.to
  may_freeze f = is_freeze l free h K me.needs persistent key (key_below l me served) path.edge.word (bare_of path.edge.raw) (bare_of path.sibling.raw) m.to
      f.cleans.spot.loaded f.cleans.flagged f.loaded f.unfrozen
      (subst (λ w. Rests h w (bare_of path.sibling.raw) m.to) f.sibling (rests_as path.sibling f.aim)) f.to.row_is f.to.flag_is f.to.frozen_is

  freeze_then : (k : TreeHeap) (who : Option ℕ) → IsKept l free k → IsLater l free who h k → at_word k (other path.edge.word) ≡ m.to →
      FreezesTo l free h you path m → Frozen l free k you path won_m
  freeze_then k who N L now f = record {
    cleans = cleans_on l free h k who you K N L early_you served_you path (bare_of path.edge.raw) f.cleans;
    sibling = f.sibling;
    bare = next_is.bare;
    loaded = edge_now l k you.needs (other path.edge.word) m.to
        (loaded_then l free h k who you K N L early_you served_you (other path.edge.word) (bare_of path.sibling.raw) f.loaded).at now
        (needed_at (other path.edge.word) (f.aim.word ∙ f.sibling));
    frozen = f.to.frozen_is;
  }

  wins_freeze : (c : CleanUp) → KnowsAt l free h me reply path (Freeze c m) → Wins (Freeze c m) None [] m.word
  wins_freeze c f =
      let f_win : FreezesTo l free h me path m = subst (IfTried (FreezesTo l free h me path m) (Frozen l free h me path m)) part f.2 in
      let g : KnowsAt l free h you reply path (Freeze c m) = more_at me you further l free h reply path (Freeze c m) f in
      let g_win : FreezesTo l free h you path m = subst (IfTried (FreezesTo l free h you path m) (Frozen l free h you path m)) part g.2 in
      let k : TreeHeap = won h (other path.edge.word) m.to None [] tt in
      let done : IsWon l free h me.name (other path.edge.word) m.to None [] = freeze_won l free h (other path.edge.word) m.to me.name K (may_freeze f_win) in
      subst (Wins (Freeze c m) None []) (sym (f_win.aim.word ∙ f_win.sibling)) (record {
        kept = done.kept;
        later = done.later;
        knows = record {
          first = first_then k (Some me.name) done.kept done.later;
          served = served_you;
          at = (
            still_for k c g.0,
            alone_you,
            freeze_then k (Some me.name) done.kept done.later (now_is l free h K (other path.edge.word) m.to None [] g_win.loaded.at) g_win,
          );
        };
        update = λ q. absurd (false≢true q);
        linked = λ q i. absurd (false≢true q);
      })

  -- ---- the ancestor's edge is swung

  wins_swing : (c : CleanUp) → KnowsAt l free h me reply path (Swing c m) → Wins (Swing c m) None [] m.word
  wins_swing c f =
      let f_win : SwingsTo l free h me path m = subst (IfTried (SwingsTo l free h me path m) (Unit {0})) part f.2 in
      let g : KnowsAt l free h you reply path (Swing c m) = more_at me you further l free h reply path (Swing c m) f in
      let k : TreeHeap = won h path.ancestor.word m.to None [] tt in
      let way : IsWay l free h me.needs key path.ancestor.word (bare_of path.ancestor.raw) f_win.keeps.spot.row = f_win.keeps.way in
      let may : IsSwing l free h me.needs key way.spot.row path.ancestor.word m.to f_win.keeps.spot.row path.sibling.word way.rows =
      is_swing l free h K me.needs persistent key (key_below l me served) path.edge.word (bare_of path.edge.raw) m.to path.sibling.word
      (bare_of path.sibling.raw) f_win.keeps.spot path.ancestor.word (bare_of path.ancestor.raw) (bare_of path.ancestor.raw) way refl
      (rests_as path.ancestor f_win.aim) f_win.keeps.loaded f_win.keeps.side f_win.keeps.frozen f_win.to.row_is f_win.to.flag_is f_win.to.frozen_is in
      let done : IsWon l free h me.name path.ancestor.word m.to None [] =
      swing_won l free h me.needs key way.spot.row path.ancestor.word m.to f_win.keeps.spot.row path.sibling.word way.rows me.name K may in
      subst (Wins (Swing c m) None []) (sym f_win.aim.word) (record {
        kept = done.kept;
        later = done.later;
        knows = record {
          first = first_then k (Some me.name) done.kept done.later;
          served = served_you;
          at = (still_for k c g.0, alone_you, tt);
        };
        update = λ q. absurd (false≢true q);
        linked = λ q i. absurd (false≢true q);
      })

  -- ---- an insert's rows are linked

  module _ (f : LinksTo l free h me path m) (resting : AreResting l free h (f.rows.leaf ∷ f.rows.inner ∷ [])) where
    leaf_range : (6 ≤ f.rows.leaf) × (f.rows.leaf ≤ l.rows + 5)
    leaf_range = pool_range l free h K f.rows.leaf f.rows.leaf_free

    inner_range : (6 ≤ f.rows.inner) × (f.rows.inner ≤ l.rows + 5)
    inner_range = pool_range l free h K f.rows.inner f.rows.inner_free

    some : (n : ℕ) → 6 ≤ n → 1 ≤ n
    some n i = omega (arith, i)

    leaf_fits : f.rows.leaf < 2 ^ 22
    leaf_fits = less f.rows.leaf l.rows leaf_range.1 layout.accepted.most_row
      where
        less : (a b : ℕ) → a ≤ b + 5 → b ≤ 1048575 → a < 2 ^ 22
        less a b i j = omega (arith, i, j)

    pair : IsPair l h key (key_now l h (row_of (bare_of path.edge.raw))) (row_of (bare_of path.edge.raw)) f.rows.inner f.rows.leaf
    pair = subst (λ q. IsPair l h key q (row_of (bare_of path.edge.raw)) f.rows.inner f.rows.leaf) f.place.key_is
        (pair_of l layout h key path.key (row_of (bare_of path.edge.raw)) f.rows.inner f.rows.leaf leaf_fits
        (row_fits l free h K (row_of (bare_of path.edge.raw)) f.place.spot.loaded.linked) (some f.rows.inner inner_range.0) f.place.another f.inner_stored)

    may_link : IsLink l free h me.needs key (value_put me.call) f.place.spot.row path.edge.word m.to f.rows.inner f.rows.leaf (f.rows.leaf ∷ f.rows.inner ∷ [])
    may_link = is_link l free h K me.needs persistent key (key_below l me served) path.edge.word (bare_of path.edge.raw) m.to f.rows.inner f.rows.leaf
        (value_put me.call) f.place.spot f.place.plain (rests_as path.edge f.aim) f.place.leaf f.to.row_is
        (record { unflagged = f.to.flag_is; unfrozen = f.to.frozen_is }) resting pair f.stored.0 f.value served.value
        (ap (λ w. value_of (at_word h w)) (sym (left_is l layout h f.rows.leaf (some f.rows.leaf leaf_range.0))) ∙ f.stored.1.0)
        (ap (λ w. value_of (at_word h w)) (sym (right_is l layout h f.rows.leaf (some f.rows.leaf leaf_range.0))) ∙ f.stored.1.1.0)

  wins_link : KnowsAt l free h me reply path (Link m) → AreResting l free h (links_of (tree_anatomy l p free) (op_at (Link m))) →
      Wins (Link m) (Some (update_of me.name me.number me.call)) (links_of (tree_anatomy l p free) (op_at (Link m))) m.word
  wins_link f rests =
      let f_win : LinksTo l free h me path m = subst (IfTried (LinksTo l free h me path m) (Unit {0})) part f.2 in
      let rows : links_of (tree_anatomy l p free) (op_at (Link m)) ≡ f_win.rows.leaf ∷ f_win.rows.inner ∷ [] =
      ap (λ b. if true && b then rows_in m.hand.spare else []) (ap is_insert same ∙ f.0) ∙ f_win.rows.own in
      let o : Option Entry = Some (update_of me.name me.number (Insert key (value_put me.call))) in
      let k : TreeHeap = won h path.edge.word m.to o (f_win.rows.leaf ∷ f_win.rows.inner ∷ []) tt in
      let done : IsWon l free h me.name path.edge.word m.to o (f_win.rows.leaf ∷ f_win.rows.inner ∷ []) =
      link_won l free h me.needs key (value_put me.call) f_win.place.spot.row path.edge.word m.to f_win.rows.inner f_win.rows.leaf
      (f_win.rows.leaf ∷ f_win.rows.inner ∷ []) me.name me.number K (may_link f_win (subst (AreResting l free h) rows rests)) in
      let result : Wins (Link m) o (f_win.rows.leaf ∷ f_win.rows.inner ∷ []) path.edge.word = record {
        kept = done.kept;
        later = done.later;
        knows = record {
          first = first_then k (Some me.name) done.kept done.later;
          served = served_you;
          at = (ap is_insert further.call ∙ f.0, tt, tt);
        };
        update = λ q. insert_updates call (ap is_insert same ∙ f.0);
        linked = λ q i. ap length f_win.rows.own ∙ sym (ap rows_needed layout.kind);
      } in
      subst (λ rs. Wins (Link m) (Some (update_of me.name me.number me.call)) rs m.word) (sym rows)
      (subst (Wins (Link m) (Some (update_of me.name me.number me.call)) (f_win.rows.leaf ∷ f_win.rows.inner ∷ [])) (sym f_win.aim.word)
      (subst (λ c. Wins (Link m) (Some (update_of me.name me.number c)) (f_win.rows.leaf ∷ f_win.rows.inner ∷ []) path.edge.word)
      (sym (put_call me.call f.0)) result))

  -- ---- which it is

  same_one : (x : HeldExchange) → Works (Exchanges x) ≡ Works (Exchanges m) → x ≡ m
  same_one x q = cc

  abbrev WinsSo : At → Type 0
  WinsSo at = (ghost : Unit {0}) × WonSo (tree_crew l p free) l p free h me you (op_at at) m
      (won h m.word m.to (effect_of (tree_anatomy l p free) (op_at at) me) (links_of (tree_anatomy l p free) (op_at at)) ghost)

  abbrev Given : At → Type 0
  Given at = AreResting l free h (links_of (tree_anatomy l p free) (op_at at)) → KnowsAt l free h me reply path at → WinsSo at

  pub wins_at : (at : At) → machine_at at ≡ Works (Exchanges m) → Given at
  wins_at (Root x) q = absurd (cc)
  wins_at (Key x) q = absurd (cc)
  wins_at (Edge x) q = absurd (cc)
  wins_at (Rows x) q = absurd (cc)
  wins_at (LeafWords x) q = absurd (cc)
  wins_at (LeafValue x) q = absurd (cc)
  wins_at (InnerWords x) q = absurd (cc)
  wins_at (Link x) q = subst (λ y. Given (Link y)) (sym (same_one x q)) (λ rests f. (tt, wins_link f rests))
  wins_at (Flag x) q = subst (λ y. Given (Flag y)) (sym (same_one x q)) (λ rests f. (tt, wins_flag f))
  wins_at (Sibling c x) q = absurd (cc)
  wins_at (Freeze c x) q = subst (λ y. Given (Freeze c y)) (sym (same_one x q)) (λ rests f. (tt, wins_freeze c f))
  wins_at (Swing c x) q = subst (λ y. Given (Swing c y)) (sym (same_one x q)) (λ rests f. (tt, wins_swing c f))
  wins_at (Value x) q = absurd (cc)
  wins_at (Ends x) q = absurd (cc)
  wins_at (At_rest hand) q = absurd (cc)
