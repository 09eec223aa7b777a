-- Where a call goes on when a machine of its search has ended.
use Rattle.std.proofs.Common.{◌≡◌, ◌≢◌, ℕ, ◌==◌, ◌<◌, ◌≤◌, ◌&&◌, nat_lt, Bool, true, false, List, [], ◌∷◌, length, drop, Contains, Option, Some, None, is_none, inl, inr, refl, sym, ◌∙◌, ap, subst, arith, if◌then◌else◌}
use Rattle.std.proofs.lemmas.Bool.{false≢true, eqb-true, eqb-false, ltb-true, ltb-false}
use Rattle.flit_words.specs.declared.layouts.Layout.{Layout}
use Rattle.flit_words.specs.Layouts.{row_word_of, value_word_of}
use Rattle.flit_words.specs.Words.{version_of, value_of, bare_of, is_tagged}
use Rattle.flit_model.specs.Lists.{key_in, next_word}
use Rattle.flit_place.specs.Tags.{Place}
use Rattle.flit_pv.specs.declared.hands.Hand.{Hand}
use Rattle.flit_pv.specs.VLoads.{HeldVLoad, v_load_started, v_load_asks}
use Rattle.flit_pv.specs.declared.v_loads.VLoading.{VLoading}
use Rattle.flit_pv.specs.declared.v_loads.VLoading.TheVariants.{Reads as V_reads, Has as V_has}
use Rattle.flit_runs.specs.Workings.{ToVLoad}
use Rattle.flit_structure.specs.Meanings.{IsServed, key_of}
use Rattle.flit_crew.specs.Heaps.{at_word, IsOpen}
use Rattle.flit_crew.specs.Crews.{Who, Goes}
use Rattle.flit_list_steps.specs.declared.operations.Goal.TheVariants.{Help as To_help, Found as To_found, Absent as To_absent}
use Rattle.flit_list_steps.specs.Operations.{HeldOp, Key}
use Rattle.flit_list_steps.specs.Steps.{Carried, stands, is_marked as raw_is_marked, key_word, row_at, from_head, with_next, further, confirms, looks, head_by, next_by, link_got, key_by, key_got}
use Rattle.flit_list_heap.specs.Links.{LinkWord, Head as Head_word, Next as Next_word, row_of, is_marked}
use Rattle.flit_list_heap.specs.Keeping.{ListHeap, IsLinked, Kept}
use Rattle.flit_list_heap.specs.Seeing.{IsBehind, at_head, at_row}
use Rattle.flit_list_heap.proofs.Places.{key_open}
use Rattle.flit_words.specs.Layouts.{head_of_key}
use Rattle.flit_list_laws.specs.Walks.{Loaded, Walk, pair_if}
use Rattle.flit_list_laws.specs.Knowing.{unsure, row_after, HasNext, HeadRead, KnowsHead, NextRead, KnowsNext, WordRead, KnowsKey}
use Rattle.flit_list_laws.specs.ListCrew.{Follows, FollowsTo, list_crew, IsOfLists}
use Rattle.flit_list_laws.proofs.Raws.{raw_row, raw_mark, value_bare}
use Rattle.flit_list_laws.proofs.Lasting.{leads_linked}
use Rattle.flit_list_laws.proofs.Rowing.{Owns}
use Rattle.flit_list_laws.proofs.Searching.{go_confirms, go_looks}

module _ (l : Layout) (lists : IsOfLists l) (p : Place) (free : List ℕ) (h : ListHeap) (kept : Kept l free h) (me : Who)
    (early : me.first ≤ length h.progress.settled) (served : IsServed l me.call) (most : me.name ≤ l.workers) (op : Carried) (same : op.call ≡ me.call)
  where
    abbrev key : ℕ
    key = key_of me.call

    abbrev On : Hand → HeldOp → Type 0
    On hand next = Goes (list_crew l p free) l p free h me hand next

    -- a head was loaded
    go_head : (m : HeldVLoad) → m.hand.name ≡ me.name → Owns free m.hand → KnowsHead l h me m → (at : VLoading) → HeadRead l h me at →
        (is_none (v_load_asks at m) && true) ≡ true → On m.hand (head_by l p free op m at)
    go_head m named owns f V_reads read ended = absurd (false≢true ended)
    go_head m named owns f (V_has raw) read ended =
        let q : Loaded = unsure (Head_word (head_of_key l key)) raw in
        let w : Walk = record { back = None; link = q } in
        go_looks l lists p free h kept me early served most (record op { path = from_head op.path m.word raw }) same m.hand named owns w q f.alone
        (record { back = tt; link = record { word = f.word; raw = refl; sure = refl } })
        (record {
          spot = record { behind = at_head; saw = read.0.saw; unmarked = read.0.saw.form.headed tt };
          back = tt;
          link = read.0.held;
        })
        read.1

    pub resumes_head : (m : HeldVLoad) → m.hand.name ≡ me.name → Owns free m.hand → KnowsHead l h me m →
        (is_none (v_load_asks m.at m) && true) ≡ true → On m.hand (head_by l p free op m m.at)
    resumes_head m named owns f ended = go_head m named owns f m.at f.read ended

    -- a row's link was loaded: it is marked, or the key comes next
    module _ (w : Walk) (n : Loaded) (m : HeldVLoad) (named : m.hand.name ≡ me.name) (owns : Owns free m.hand) (follows : Follows l op.path w)
        (f : KnowsNext l h me w m) (raw : ℕ) (read : NextRead l h me (row_after w) (V_has raw)) where
      abbrev q : Loaded
      q = unsure (Next_word (row_after w)) raw

      abbrev then_op : Carried
      then_op = record op { path = with_next op.path m.word raw }

      follows_then : FollowsTo l then_op.path w q
      follows_then = record { walk = record { back = follows.back; link = follows.link }; next = record { word = f.word; raw = refl; sure = refl } }

      has_next : (b : Bool) → is_marked (bare_of raw) ≡ b → HasNext l h me w q b
      has_next b e = record { next = record { some = f.some; saw = read.0.saw; mark = e }; word = refl; held = read.0.held }

      row_is : row_at then_op.path ≡ row_after w
      row_is = raw_row op.path.pred.raw ∙ ap (λ r. row_of (bare_of r)) follows.link.raw

      linked : IsLinked l h (row_after w)
      linked = leads_linked l h key w.link.word (bare_of w.link.raw) f.stands.spot.saw f.some

      go_link_got : (b : Bool) → raw_is_marked raw ≡ b → On m.hand (if b
          then confirms l p free then_op m.hand To_help
          else stands then_op (Key (v_load_started m.hand (key_word l (row_at then_op.path)))))
      go_link_got true e = go_confirms l lists p free h kept me then_op m.hand To_help w q (record {
        early = early;
        served = served;
        most = most;
        same = same;
        named = named;
        owns = owns;
        alone = f.alone;
        follows = follows_then;
        stands = f.stands;
        known = has_next true (sym (raw_mark raw) ∙ e);
      })
      go_link_got false e =
          let unmarked : is_marked (bare_of raw) ≡ false = sym (raw_mark raw) ∙ e in
          Goes.starts me m.hand (ToVLoad (key_word l (row_at then_op.path))) (stands then_op (Key (v_load_started m.hand (key_word l (row_at then_op.path)))))
          (subst (λ r. IsOpen l free h (row_word_of l r 0)) (sym row_is) (key_open l free h kept (row_after w) linked)) refl refl same tt (record {
            first = early;
            served = served;
            walk = w;
            next = q;
            at = (
              follows_then,
              record {
                alone = f.alone;
                stands = f.stands;
                next = has_next false unmarked;
                unsure = refl;
                gone = f.gone;
                behind = (read.1 unmarked).0;
                row = (read.1 unmarked).1;
                word = ap (λ r. row_word_of l r 0) row_is;
                read = tt;
              },
            );
          })

    go_next_at : (w : Walk) (n : Loaded) (m : HeldVLoad) → m.hand.name ≡ me.name → Owns free m.hand → Follows l op.path w → KnowsNext l h me w m →
        (at : VLoading) → NextRead l h me (row_after w) at → (is_none (v_load_asks at m) && true) ≡ true → On m.hand (next_by l p free op m at)
    go_next_at w n m named owns follows f V_reads read ended = absurd (false≢true ended)
    go_next_at w n m named owns follows f (V_has raw) read ended = go_link_got w n m named owns follows f raw read (raw_is_marked raw) refl

    pub resumes_next : (w : Walk) (n : Loaded) (m : HeldVLoad) → m.hand.name ≡ me.name → Owns free m.hand → Follows l op.path w → KnowsNext l h me w m →
        (is_none (v_load_asks m.at m) && true) ≡ true → On m.hand (next_by l p free op m m.at)
    resumes_next w n m named owns follows f ended = go_next_at w n m named owns follows f m.at f.read ended

    -- a row's key was loaded: it is the call's, or greater, or the search goes on behind the row
    module _ (w : Walk) (n : Loaded) (m : HeldVLoad) (named : m.hand.name ≡ me.name) (owns : Owns free m.hand) (follows : FollowsTo l op.path w n)
        (f : KnowsKey l h me w n m) (raw : ℕ) (read : bare_of raw ≡ at_word h (row_word_of l (row_after w) 0)) where
      key_is : value_of raw ≡ key_in l h.words (row_after w)
      key_is = sym (value_bare raw) ∙ ap value_of read

      greater : (a b c k : ℕ) → a < b → a ≡ c → b ≡ k → c < k
      greater a b c k i e q = omega (arith, i, e, q)

      go_passes : key < key_in l h.words (row_after w) → On m.hand (confirms l p free op m.hand To_absent)
      go_passes less = go_confirms l lists p free h kept me op m.hand To_absent w n (record {
        early = early;
        served = served;
        most = most;
        same = same;
        named = named;
        owns = owns;
        alone = f.alone;
        follows = follows.walk;
        stands = f.stands;
        known = (inr less, f.gone);
      })

      go_finds : key_in l h.words (row_after w) ≡ key → On m.hand (confirms l p free op m.hand To_found)
      go_finds is = go_confirms l lists p free h kept me op m.hand To_found w n (record {
        early = early;
        served = served;
        most = most;
        same = same;
        named = named;
        owns = owns;
        alone = f.alone;
        follows = follows;
        stands = f.stands;
        known = (f.next, is, f.row);
      })

      abbrev then_walk : Walk
      then_walk = record { back = Some w.link; link = n }

      go_further : key_in l h.words (row_after w) < key → On m.hand (looks l p free (record op { path = further op.path }) m.hand)
      go_further less = go_looks l lists p free h kept me early served most (record op { path = further op.path }) same m.hand named owns then_walk n f.alone
          (record { back = follows.walk.link; link = follows.next })
          (record {
            spot = record {
              behind = subst (λ x. IsBehind l h key (pair_if (Some w.link)) x) (sym f.next.word)
                  (at_row w.link.word (bare_of w.link.raw) f.stands.spot.saw f.stands.spot.unmarked f.next.next.some less);
              saw = subst (λ x. Rattle.flit_list_heap.specs.Seeing.Saw l h key x (bare_of n.raw)) (sym f.next.word) f.next.next.saw;
              unmarked = f.next.next.mark;
            };
            back = f.stands.link;
            link = f.next.held;
          })
          f.behind

      smaller : (a b c k : ℕ) → a ≤ b → a ≢ b → a ≡ c → b ≡ k → c < k
      smaller a b c k i ne e q = omega (arith, i, ne, e, q)

      key_other : value_of raw ≢ key_of op.call → (b : Bool) → nat_lt (key_of op.call) (value_of raw) ≡ b →
          On m.hand (if b then confirms l p free op m.hand To_absent else looks l p free (record op { path = further op.path }) m.hand)
      key_other ne true e = go_passes (greater (key_of op.call) (value_of raw) key (key_in l h.words (row_after w)) (ltb-true (key_of op.call) (value_of raw) e)
          (ap key_of same) key_is)
      key_other ne false e = go_further (smaller (value_of raw) (key_of op.call) (key_in l h.words (row_after w)) key
          (ltb-false (key_of op.call) (value_of raw) e) ne key_is (ap key_of same))

      go_key_got : (b : Bool) → (value_of raw == key_of op.call) ≡ b → On m.hand (if b
          then confirms l p free op m.hand To_found
          else (if nat_lt (key_of op.call) (value_of raw)
          then confirms l p free op m.hand To_absent
          else looks l p free (record op { path = further op.path }) m.hand))
      go_key_got true e = go_finds (sym key_is ∙ eqb-true (value_of raw) (key_of op.call) e ∙ ap key_of same)
      go_key_got false e = key_other (eqb-false (value_of raw) (key_of op.call) e) (nat_lt (key_of op.call) (value_of raw)) refl

    go_key_at : (w : Walk) (n : Loaded) (m : HeldVLoad) → m.hand.name ≡ me.name → Owns free m.hand → FollowsTo l op.path w n → KnowsKey l h me w n m →
        (at : VLoading) → WordRead l h me (row_word_of l (row_after w) 0) at → (is_none (v_load_asks at m) && true) ≡ true → On m.hand (key_by l p free op m at)
    go_key_at w n m named owns follows f V_reads read ended = absurd (false≢true ended)
    go_key_at w n m named owns follows f (V_has raw) read ended =
        go_key_got w n m named owns follows f raw read (value_of raw == key_of op.call) refl

    pub resumes_key : (w : Walk) (n : Loaded) (m : HeldVLoad) → m.hand.name ≡ me.name → Owns free m.hand → FollowsTo l op.path w n → KnowsKey l h me w n m →
        (is_none (v_load_asks m.at m) && true) ≡ true → On m.hand (key_by l p free op m m.at)
    resumes_key w n m named owns follows f ended = go_key_at w n m named owns follows f m.at f.read ended
