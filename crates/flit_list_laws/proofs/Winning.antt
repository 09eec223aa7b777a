-- A call's exchange is won: a marked row is unlinked, an insert's row is linked, or a remove's row is marked.
use Rattle.std.proofs.Common.{◌≡◌, ◌≢◌, ℕ, ◌+◌, ◌<◌, ◌≤◌, ◌&&◌, Bool, true, false, List, [], ◌∷◌, length, Option, Some, None, ◌⊎◌, inl, inr, ⊎_elim, refl, sym, ◌∙◌, ap, subst, arith, if◌then◌else◌}
use Rattle.std.proofs.lemmas.Bool.{false≢true, both_ways}
use Rattle.std.proofs.lemmas.Option.{none-some}
use Rattle.flit_words.specs.declared.layouts.Layout.{Layout}
use Rattle.flit_words.specs.declared.limits.TheConstants.{GREATEST_KEY, MOST_WORKERS}
use Rattle.flit_words.specs.Layouts.{row_word_of, value_word_of, head_of_key}
use Rattle.flit_words.specs.Words.{version_of, value_of, bare_of}
use Rattle.flit_words.specs.Links.{link_value}
use Rattle.flit_place.proofs.WordTags.{version-bare}
use Rattle.flit_model.specs.Lists.{key_in, row_value_in, next_word}
use Rattle.flit_model.specs.Histories.{is_update_by}
use Rattle.flit_model.specs.declared.calls.Call.{Call}
use Rattle.flit_model.specs.declared.calls.Call.TheVariants.{Insert, Remove, Contains, Get}
use Rattle.flit_model.specs.declared.calls.Reply.{Reply}
use Rattle.flit_model.specs.declared.calls.Reply.TheVariants.{Yes}
use Rattle.flit_model.specs.declared.calls.Entry.{Entry}
use Rattle.flit_place.specs.Tags.{Place}
use Rattle.flit_pv.specs.Exchanges.{HeldExchange, exchange_at}
use Rattle.flit_pv.specs.declared.exchanges.Exchanging.TheVariants.{WritesBack}
use Rattle.flit_rows.specs.Shares.{rows_in}
use Rattle.flit_runs.specs.Workings.{Exchanges}
use Rattle.flit_runs.specs.Worlds.{IsAway}
use Rattle.flit_runs.specs.Soundness.{IsNext, Needs}
use Rattle.flit_structure.specs.Moments.{update_of}
use Rattle.flit_structure.specs.Meanings.{IsServed, key_of, value_put}
use Rattle.flit_structure.specs.Lawful.{is_insert}
use Rattle.flit_crew.specs.Machines.{Works, ToWin, HasWon, exchange_part}
use Rattle.flit_crew.specs.Heaps.{at_word, at_shadow, waits_at, won, AreResting}
use Rattle.flit_crew.specs.Crews.{Who, IsFurther, effect_of, links_of}
use Rattle.flit_crew.specs.Obligations.{WonSo}
use Rattle.flit_list_steps.specs.declared.operations.Path.{Path}
use Rattle.flit_list_steps.specs.Operations.{At, Head, Next, Key, Confirming, Help, Row, Words, RowValue, Link, Mark, Tidy, Value, Ends, Rests, HeldOp}
use Rattle.flit_list_heap.specs.Links.{LinkWord, Next as Next_word, place_of, bucket_of, link_held, row_of, is_marked}
use Rattle.flit_list_heap.specs.Chained.{IsPast}
use Rattle.flit_list_heap.specs.Moves.{plain_link, marked_link}
use Rattle.flit_list_heap.specs.Keeping.{ListHeap, IsLinked, IsLinkAt, rows_at, word_in, shadow_in, Kept, Later}
use Rattle.flit_list_heap.specs.Winning.{MayMark, MayUnlink, MayLink}
use Rattle.flit_list_heap.specs.Seeing.{Saw, IsPersistentAt, IsBackPersistent, StillHolds, StandsStill}
use Rattle.flit_list_heap.proofs.Parts.{row-held, mark-held}
use Rattle.flit_list_heap.proofs.Seen as seen
use Rattle.flit_list_heap.proofs.Exchanging as exchanging
use Rattle.flit_list_heap.proofs.Choosing as choosing
use Rattle.flit_list_laws.specs.Walks.{Loaded, Walk, pair_if}
use Rattle.flit_list_laws.specs.Knowing.{row_after, IsHeldSo, IsHeld, IsBackHeld, IsBackSure, Stands, StandsSure, HasNext, Helps_to, Helped, HelpAt, Links_to, LinkAt, Marks_to, Marked, MarkAt, Tidies_to, TidyAt}
use Rattle.flit_list_laws.specs.ListAnatomy.{machine_at, list_anatomy}
use Rattle.flit_list_laws.specs.ListCrew.{KnowsAt, Knows, list_crew, IsOfLists}
use Rattle.flit_list_laws.proofs.Others.{more_at}
use Rattle.flit_list_laws.proofs.Answering.{is_persistent}
use Rattle.flit_list_laws.proofs.Lasting.{leads_linked}
use Rattle.flit_list_laws.proofs.Cohering.{one_row}
use Rattle.flit_place.proofs.CoverSteps.{index-set}
use Rattle.flit_list_heap.proofs.Places.{place_below}

put_key : (c : Call) → is_insert c ≡ true → c ≡ Insert (key_of c) (value_put c)
put_key (Insert k v) e = refl
put_key (Remove k) e = absurd (cc)
put_key (Contains k) e = absurd (cc)
put_key (Get k) e = absurd (cc)

put_updates : (c : Call) → is_insert c ≡ true → is_update_by c Yes ≡ true
put_updates (Insert k v) e = refl
put_updates (Remove k) e = absurd (cc)
put_updates (Contains k) e = absurd (cc)
put_updates (Get k) e = absurd (cc)

module _ (l : Layout) (lists : IsOfLists l) (p : Place) (free : List ℕ) (h : ListHeap) (kept : Kept l free h) (me you : Who)
    (early : me.first ≤ length h.progress.settled) (further : IsFurther me you) (served : IsServed l me.call)
    (persistent : (v a : ℕ) → Needs me.needs v a → a ≤ version_of (at_shadow h v)) (alone : (v : ℕ) → IsAway me.private v)
    (call : Call) (reply : Reply) (path : Path) (same : call ≡ me.call) (w : Walk) (n : Loaded) (m : HeldExchange) (part : exchange_part m.at ≡ ToWin)
    (word_is : at_word h m.word ≡ bare_of m.from) (next_is : IsNext m) (needed : Needs you.needs m.word (version_of m.to)) where
  abbrev key : ℕ
  key = key_of me.call

  abbrev key_you : ℕ
  key_you = key_of you.call

  abbrev op_at : At → HeldOp
  op_at at = record { call = call; reply = reply; path = path; at = at }

  abbrev won_m : HeldExchange
  won_m = exchange_at m WritesBack

  abbrev e : Entry
  e = update_of me.name me.number me.call

  abbrev Wins : At → Option Entry → List ℕ → ℕ → Type 0
  Wins at o rows v = WonSo (list_crew l p free) l p free h me you (op_at at) m (won h v m.to o rows h.ghost)

  -- ---- what is seen is persistent

  back_persistent : (o : Option Loaded) → IsBackHeld l me o → IsBackSure l me o → IsBackPersistent l h (pair_if o)
  back_persistent None f s = tt
  back_persistent (Some q) f s = is_persistent l free h kept me persistent q f s

  link_persistent : StandsSure l h me w → IsPersistentAt l h w.link.word (bare_of w.link.raw)
  link_persistent f = is_persistent l free h kept me persistent w.link f.stands.link f.link

  next_persistent : (marked : Bool) → HasNext l h me w n marked → n.sure ≡ true → IsPersistentAt l h (Next_word (row_after w)) (bare_of n.raw)
  next_persistent marked f s = subst (λ x. IsPersistentAt l h x (bare_of n.raw)) f.word (is_persistent l free h kept me persistent n f.held s)

  stands_still : StandsSure l h me w → StandsStill l h key (pair_if w.back) w.link.word (bare_of w.link.raw)
  stands_still f = record { spot = f.stands.spot; back_persistent = back_persistent w.back f.stands.back f.back }

  holds : (y : LinkWord) (raw : ℕ) → m.word ≡ place_of l y → m.from ≡ raw → IsPersistentAt l h y (bare_of raw) → StillHolds l h y (bare_of raw) m.to
  holds y raw at from kept_so = record {
    word = ap (at_word h) (sym at) ∙ word_is ∙ ap bare_of from;
    persistent = kept_so;
    bare = next_is.bare;
    next = next_is.next ∙ ap (λ r. version_of r + 1) from ∙ ap (λ v. v + 1) (sym (version-bare raw));
  }

  first_then : (k : ListHeap) (who : Option ℕ) → Later l who h k → you.first ≤ length k.progress.settled
  first_then k who goes = through you.first me.first (length h.progress.settled) (length k.progress.settled) further.first early (seen.longer l who h k goes)
    where
      through : (a b c d : ℕ) → a ≡ b → b ≤ c → c ≤ d → a ≤ d
      through a b c d i j q = omega (arith, i, j, q)

  served_you : IsServed l you.call
  served_you = subst (IsServed l) (sym further.call) served

  alone_you : (v : ℕ) → IsAway you.private v
  alone_you v = further.private v (alone v)

  -- the exchanged word holds the new link
  now_is : (y : LinkWord) (o : Option Entry) (rows : List ℕ) → IsLinkAt l h y → word_in l (won h (place_of l y) m.to o rows h.ghost) y ≡ m.to
  now_is y o rows link = ⊎_elim (λ i. i.1) (λ i. absurd (i.0 refl))
      (index-set h.words (place_of l y) m.to (place_of l y) (subst (λ a. place_of l y < a) (sym kept.words) (place_below l free h kept y link)))

  sure_then : (k : ListHeap) (who : Option ℕ) → Kept l free k → Later l who h k → StandsSure l h you w → StandsSure l k you w
  sure_then k who kept_then goes f = record {
    stands = record {
      spot = seen.spot_lasts l who h k goes free kept_then key_you (pair_if w.back) w.link.word (bare_of w.link.raw) f.stands.spot;
      back = f.stands.back;
      link = f.stands.link;
    };
    back = f.back;
    link = f.link;
  }

  -- ---- a marked row is unlinked

  may_help : Helps_to l h me w n m → MayUnlink l h w.link.word (bare_of w.link.raw) m.to
  may_help f = choosing.unlinks l free h key (pair_if w.back) w.link.word (bare_of w.link.raw) (bare_of n.raw) m.to kept (stands_still f.sure)
      (holds w.link.word w.link.raw f.aim.word f.aim.from_is (link_persistent f.sure)) f.next.next (next_persistent true f.next f.next_sure) f.to

  module _ (k : ListHeap) (kept_then : Kept l free k) (goes : Later l None h k) (now : word_in l k w.link.word ≡ m.to) where
    -- the row behind the unlinked one has a greater key
    behind_it : Helps_to l h you w n m → (row_of m.to ≡ 0) ⊎ (IsLinked l k (row_of m.to) × (key_in l k.words (row_after w) < key_in l k.words (row_of m.to)))
    behind_it g =
        let to : row_of m.to ≡ row_of (bare_of n.raw) = row-held m.to (plain_link (row_of (bare_of n.raw))) g.to in
        let linked : IsLinked l h (row_after w) = leads_linked l h key_you w.link.word (bare_of w.link.raw) g.sure.stands.spot.saw g.next.next.some in
        elim g.next.next.saw.form.leads [
          | inl z ↦ inl (to ∙ z)
          | inr f ↦ inr (subst (λ r. IsLinked l k r × (key_in l k.words (row_after w) < key_in l k.words r)) (sym to) (
            seen.linked_lasts l None h k goes (row_of (bare_of n.raw)) f.linked,
            less (key_in l h.words (row_after w)) (key_in l h.words (row_of (bare_of n.raw))) (key_in l k.words (row_after w))
                (key_in l k.words (row_of (bare_of n.raw))) f.above (seen.key_lasts l None h k goes (row_after w) linked)
                (seen.key_lasts l None h k goes (row_of (bare_of n.raw)) f.linked),
          ))
        ]
      where
        less : (a b c d : ℕ) → a + 1 ≤ b → c ≡ a → d ≡ b → c < d
        less a b c d i q r = omega (arith, i, q, r)

    helped_then : Helps_to l h you w n m → Helped l k you w won_m
    helped_then g =
        let s = seen.spot_lasts l None h k goes free kept_then key_you (pair_if w.back) w.link.word (bare_of w.link.raw) g.sure.stands.spot in
        let unmarked : is_marked m.to ≡ false = mark-held m.to (plain_link (row_of (bare_of n.raw))) g.to in record {
          word = g.aim.word;
          behind = s.behind;
          back = g.sure.stands.back;
          back_sure = g.sure.back;
          saw = subst (Saw l k key_you w.link.word) now (seen.saw_load l free k kept_then key_you w.link.word s.saw.link s.saw.bucket);
          needs = subst (λ v. Needs you.needs v (version_of m.to)) g.aim.word needed;
          bare = next_is.bare;
          unmarked = unmarked;
          gone = subst (λ u. Rattle.flit_list_heap.specs.Seeing.Gone l k you.first key_you w.link.word u) now
              (seen.gone_load l free k kept_then you.first key_you w.link.word (first_then k None goes) s.saw.link s.saw.bucket (ap is_marked now ∙ unmarked));
          linked = seen.linked_lasts l None h k goes (row_after w)
              (leads_linked l h key_you w.link.word (bare_of w.link.raw) g.sure.stands.spot.saw g.next.next.some);
          further = behind_it g;
        }

  wins_help : KnowsAt l h me reply path w n (Help m) → Wins (Help m) None [] m.word
  wins_help f =
      let f_win : Helps_to l h me w n m = subst (HelpAt l h me w n m) part f.2 in
      let g : KnowsAt l h you reply path w n (Help m) = more_at l h me you further reply path w n (Help m) f in
      let g_win : Helps_to l h you w n m = subst (HelpAt l h you w n m) part g.2 in
      let may : MayUnlink l h w.link.word (bare_of w.link.raw) m.to = may_help f_win in
      let k : ListHeap = won h (place_of l w.link.word) m.to None [] h.ghost in
      let kept_then : Kept l free k = exchanging.kept_unlinked l free h kept w.link.word (bare_of w.link.raw) m.to may in
      subst (Wins (Help m) None []) (sym f_win.aim.word) (record {
        kept = kept_then;
        later = exchanging.later_unlinked l free h kept w.link.word (bare_of w.link.raw) m.to may (Some me.name);
        knows = let goes : Later l None h k = exchanging.later_unlinked l free h kept w.link.word (bare_of w.link.raw) m.to may None in record {
          first = first_then k None goes;
          served = served_you;
          walk = w;
          next = n;
          at = (g.0, alone_you, helped_then k kept_then goes (now_is w.link.word None [] may.change.link) g_win);
        };
        update = λ q. absurd (false≢true q);
        linked = λ q i. absurd (false≢true q);
      })

  -- the row that the call has marked is unlinked

  may_tidy : Tidies_to l h me w n m → MayUnlink l h w.link.word (bare_of w.link.raw) m.to
  may_tidy f =
      let s = holds w.link.word w.link.raw f.aim.word f.aim.from_is (link_persistent f.sure) in record {
        change = record {
          link = f.sure.stands.spot.saw.link;
          word = s.word;
          shadow = seen.rests_if l free h kept key w.link.word (bare_of w.link.raw) f.sure.stands.spot.saw s.persistent s.word;
          unmarked = f.sure.stands.spot.unmarked;
          rooted = seen.behind_rooted l free h kept key (pair_if w.back) w.link.word f.sure.stands.spot.behind
              (back_persistent w.back f.sure.stands.back f.sure.back);
          bare = s.bare;
          next = s.next;
        };
        some = f.some;
        marked = f.marked;
        link = f.to ∙ ap plain_link (sym f.leads);
      }

  wins_tidy : KnowsAt l h me reply path w n (Tidy m) → Wins (Tidy m) None [] m.word
  wins_tidy f =
      let f_win : Tidies_to l h me w n m = subst (TidyAt l h me w n m) part f.1 in
      let may : MayUnlink l h w.link.word (bare_of w.link.raw) m.to = may_tidy f_win in
      let k : ListHeap = won h (place_of l w.link.word) m.to None [] h.ghost in
      subst (Wins (Tidy m) None []) (sym f_win.aim.word) (record {
        kept = exchanging.kept_unlinked l free h kept w.link.word (bare_of w.link.raw) m.to may;
        later = exchanging.later_unlinked l free h kept w.link.word (bare_of w.link.raw) m.to may (Some me.name);
        knows = record {
          first = first_then k None (exchanging.later_unlinked l free h kept w.link.word (bare_of w.link.raw) m.to may None);
          served = served_you;
          walk = w;
          next = n;
          at = ((more_at l h me you further reply path w n (Tidy m) f).0, tt);
        };
        update = λ q. absurd (false≢true q);
        linked = λ q i. absurd (false≢true q);
      })

  -- ---- an insert's row is linked

  value_is : (row : ℕ) → (l.values ≡ true → value_of (at_word h (value_word_of l row)) ≡ value_put me.call) → row_value_in l h.words row ≡ value_put me.call
  value_is row f = by_values l.values refl
    where
      by_values : (b : Bool) → l.values ≡ b → (if b then value_of (at_word h (value_word_of l row)) else 0) ≡ value_put me.call
      by_values true v = f v
      by_values false v = sym (served.value v)

  may_link : is_insert me.call ≡ true → (f : Links_to l h me w m) → AreResting l free h (f.row ∷ []) →
      MayLink l free h w.link.word (bare_of w.link.raw) m.to f.row e
  may_link insert f rests = choosing.links l free h key (pair_if w.back) w.link.word (bare_of w.link.raw) f.row m.to e kept (stands_still f.sure)
      (holds w.link.word w.link.raw f.aim.word f.aim.from_is (link_persistent f.sure)) f.passed rests served.key f.key f.next
      (put_key me.call insert ∙ ap (Insert key) (sym (value_is f.row f.value))) refl f.to

  wins_link : KnowsAt l h me reply path w n (Link m) → AreResting l free h (links_of (list_anatomy l p free) (op_at (Link m))) →
      Wins (Link m) (Some e) (links_of (list_anatomy l p free) (op_at (Link m))) m.word
  wins_link f rests =
      let f_win : Links_to l h me w m = subst (LinkAt l h me w m) part f.2 in
      let rows : links_of (list_anatomy l p free) (op_at (Link m)) ≡ f_win.row ∷ [] =
      ap (λ b. if true && b then rows_in m.hand.spare else []) (ap is_insert same ∙ f.0) ∙ f_win.own in
      let may : MayLink l free h w.link.word (bare_of w.link.raw) m.to f_win.row e = may_link f.0 f_win (subst (AreResting l free h) rows rests) in
      let k : ListHeap = won h (place_of l w.link.word) m.to (Some e) (f_win.row ∷ []) h.ghost in
      subst (λ rs. Wins (Link m) (Some e) rs m.word) (sym rows) (subst (Wins (Link m) (Some e) (f_win.row ∷ [])) (sym f_win.aim.word) (record {
        kept = exchanging.kept_linked l free h kept w.link.word (bare_of w.link.raw) m.to f_win.row e may;
        later = exchanging.later_linked l free h kept w.link.word (bare_of w.link.raw) m.to f_win.row e may (Some me.name);
        knows = record {
          first = first_then k None (exchanging.later_linked l free h kept w.link.word (bare_of w.link.raw) m.to f_win.row e may None);
          served = served_you;
          walk = w;
          next = n;
          at = (ap is_insert further.call ∙ f.0, tt, tt);
        };
        update = λ q. put_updates call (ap is_insert same ∙ f.0);
        linked = λ q i. ap length f_win.own ∙ sym (one_row l.kind lists.kind);
      }))

  -- ---- a remove's row is marked

  may_mark : me.call ≡ Remove key → Marks_to l h me w n m → MayMark l h (row_after w) (bare_of n.raw) m.to e
  may_mark remove f = choosing.marks l free h key (pair_if w.back) w.link.word (bare_of w.link.raw) (bare_of n.raw) m.to e kept (stands_still f.sure)
      (link_persistent f.sure) f.next.next
      (holds (Next_word (row_after w)) n.raw f.aim.word f.aim.from_is (next_persistent false f.next f.next_sure)) f.key remove refl f.named f.to

  wins_mark : KnowsAt l h me reply path w n (Mark m) → Wins (Mark m) (Some e) (links_of (list_anatomy l p free) (op_at (Mark m))) m.word
  wins_mark f =
      let f_win : Marks_to l h me w n m = subst (MarkAt l h me w n m) part f.3 in
      let g : KnowsAt l h you reply path w n (Mark m) = more_at l h me you further reply path w n (Mark m) f in
      let g_win : Marks_to l h you w n m = subst (MarkAt l h you w n m) part g.3 in
      let removes : call ≡ Remove key = same ∙ f.1 in
      let rows : links_of (list_anatomy l p free) (op_at (Mark m)) ≡ [] =
      ap (λ b. if true && b then rows_in m.hand.spare else []) (ap is_insert removes) in
      let may : MayMark l h (row_after w) (bare_of n.raw) m.to e = may_mark f.1 f_win in
      let k : ListHeap = won h (next_word l (row_after w)) m.to (Some e) [] h.ghost in
      let kept_then : Kept l free k = exchanging.kept_marked l free h kept (row_after w) (bare_of n.raw) m.to e may in
      let goes : Later l (Some me.name) h k = exchanging.later_marked l free h kept (row_after w) (bare_of n.raw) m.to e may in
      let linked : IsLinked l h (row_after w) = leads_linked l h key_you w.link.word (bare_of w.link.raw) g_win.sure.stands.spot.saw g_win.next.next.some in
      subst (λ rs. Wins (Mark m) (Some e) rs m.word) (sym rows) (subst (Wins (Mark m) (Some e) []) (sym f_win.aim.word) (record {
        kept = kept_then;
        later = goes;
        knows = record {
          first = first_then k (Some me.name) goes;
          served = served_you;
          walk = w;
          next = n;
          at = (
            g.0,
            g.1,
            alone_you,
            record {
              sure = sure_then k (Some me.name) kept_then goes g_win.sure;
              word = f_win.aim.word;
              some = g_win.next.next.some;
              linked = seen.linked_lasts l (Some me.name) h k goes (row_after w) linked;
              is = sym (now_is (Next_word (row_after w)) (Some e) [] linked);
              marked = mark-held m.to (marked_link (row_of (bare_of n.raw)) (if l.values then me.name else 0)) f_win.to;
              same = row-held m.to (marked_link (row_of (bare_of n.raw)) (if l.values then me.name else 0)) f_win.to;
            },
          );
        };
        update = λ q. ap (λ c. is_update_by c Yes) removes;
        linked = λ q i. absurd (false≢true (sym (ap is_insert removes) ∙ i));
      }))

  -- ---- which it is

  same_one : (x : HeldExchange) → Works (Exchanges x) ≡ Works (Exchanges m) → x ≡ m
  same_one x q = cc

  abbrev WinsSo : At → Type 0
  WinsSo at = (ghost : ℕ → Bool) × WonSo (list_crew l p free) l p free h me you (op_at at) m
      (won h m.word m.to (effect_of (list_anatomy l p free) (op_at at) me) (links_of (list_anatomy l p free) (op_at at)) ghost)

  abbrev Given : At → Type 0
  Given at = AreResting l free h (links_of (list_anatomy l p free) (op_at at)) → KnowsAt l h me reply path w n at → WinsSo at

  pub wins_at : (at : At) → machine_at at ≡ Works (Exchanges m) → Given at
  wins_at (Head x) q = absurd (cc)
  wins_at (Next x) q = absurd (cc)
  wins_at (Key x) q = absurd (cc)
  wins_at (Confirming goal which x) q = absurd (cc)
  wins_at (Help x) q = subst (λ y. Given (Help y)) (sym (same_one x q)) (λ rests f. (h.ghost, wins_help f))
  wins_at (Row x) q = absurd (cc)
  wins_at (Words x) q = absurd (cc)
  wins_at (RowValue x) q = absurd (cc)
  wins_at (Link x) q = subst (λ y. Given (Link y)) (sym (same_one x q)) (λ rests f. (h.ghost, wins_link f rests))
  wins_at (Mark x) q = subst (λ y. Given (Mark y)) (sym (same_one x q)) (λ rests f. (h.ghost, wins_mark f))
  wins_at (Tidy x) q = subst (λ y. Given (Tidy y)) (sym (same_one x q)) (λ rests f. (h.ghost, wins_tidy f))
  wins_at (Value x) q = absurd (cc)
  wins_at (Ends x) q = absurd (cc)
  wins_at (Rests hand) q = absurd (cc)
