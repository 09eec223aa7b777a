-- Where a call goes on when one of its exchanges has ended, or its load of a value.
use Rattle.std.proofs.Common.{◌≡◌, ◌≢◌, ℕ, ◌<◌, ◌≤◌, ◌&&◌, not, Bool, true, false, List, [], ◌∷◌, length, Contains as Has_in, Option, Some, None, is_none, inl, inr, refl, sym, ◌∙◌, ap, subst, if◌then◌else◌}
use Rattle.std.proofs.lemmas.Bool.{false≢true}
use Rattle.flit_words.specs.declared.layouts.Layout.{Layout}
use Rattle.flit_words.specs.Layouts.{value_word_of}
use Rattle.flit_words.specs.Words.{version_of, value_of, bare_of}
use Rattle.flit_model.specs.Lists.{row_value_in}
use Rattle.flit_model.specs.declared.calls.Call.{Call}
use Rattle.flit_model.specs.declared.calls.Call.TheVariants.{Insert, Remove, Contains, Get}
use Rattle.flit_model.specs.declared.calls.Reply.TheVariants.{Yes, Found}
use Rattle.flit_place.specs.Tags.{Place}
use Rattle.flit_place.proofs.WordTags.{bare-untagged}
use Rattle.flit_pv.specs.declared.hands.Hand.{Hand}
use Rattle.flit_pv.specs.VLoads.{HeldVLoad, v_load_asks}
use Rattle.flit_pv.specs.declared.v_loads.VLoading.{VLoading}
use Rattle.flit_pv.specs.declared.v_loads.VLoading.TheVariants.{Reads as V_reads, Has as V_has}
use Rattle.flit_pv.specs.Exchanges.{HeldExchange, exchange_asks}
use Rattle.flit_pv.specs.declared.exchanges.Exchanging.{Exchanging}
use Rattle.flit_pv.specs.declared.exchanges.Exchanging.TheVariants.{Ready, Tries, TriesBare, WritesBack, Withdraws, Lowers, Ended}
use Rattle.flit_pv.specs.declared.exchanges.Exchanged.{Exchanged}
use Rattle.flit_pv.specs.declared.exchanges.Exchanged.TheVariants.{Won, Lost, Worn as Exchange_worn}
use Rattle.flit_runs.specs.Soundness.{Needs}
use Rattle.flit_structure.specs.Meanings.{IsServed, key_of}
use Rattle.flit_structure.specs.Lawful.{is_insert, is_get}
use Rattle.flit_crew.specs.Heaps.{at_word, IsOpen}
use Rattle.flit_crew.specs.Machines.{exchange_part}
use Rattle.flit_crew.specs.Crews.{Who, Goes, ExchangesAt}
use Rattle.flit_list_steps.specs.Operations.{HeldOp}
use Rattle.flit_list_steps.specs.Steps.{Carried, row_of as raw_row_of, to_row, unlinked, with_helped, with_row_used, tidy_by, tidy_next, tidies, mark_by, link_by, help_by, value_by}
use Rattle.flit_list_heap.specs.Links.{Next as Next_word, place_of, row_of, is_marked}
use Rattle.flit_list_heap.specs.Moves.{plain_link}
use Rattle.flit_list_heap.specs.Keeping.{ListHeap, shadow_in, Kept}
use Rattle.flit_list_heap.specs.Seeing.{Saw, Gone}
use Rattle.flit_list_heap.proofs.Places.{link_open}
use Rattle.flit_list_laws.specs.Walks.{Loaded, Walk}
use Rattle.flit_list_laws.specs.Knowing.{row_after, IsAlone, IsHeldSo, SaysYes, WordRead, Helped, HelpAt, Marked, MarkAt, KnowsGet}
use Rattle.flit_list_laws.specs.ListCrew.{FollowsTo, IsAloneIf, list_crew, IsOfLists}
use Rattle.flit_list_laws.proofs.Raws.{raw_row, row_small, to_row_small, plain_held, value_bare}
use Rattle.flit_list_laws.proofs.Starting.{go_search, go_answer, go_exchange}
use Rattle.flit_list_laws.proofs.Rowing.{Owns}
use Rattle.flit_list_laws.proofs.Searching.{go_looks}

module _ (l : Layout) (lists : IsOfLists l) (p : Place) (free : List ℕ) (h : ListHeap) (kept : Kept l free h) (me : Who)
    (early : me.first ≤ length h.progress.settled) (served : IsServed l me.call) (most : me.name ≤ l.workers) (op : Carried) (same : op.call ≡ me.call)
    (w : Walk) (n : Loaded) where
  abbrev key : ℕ
  key = key_of me.call

  abbrev On : Hand → HeldOp → Type 0
  On hand next = Goes (list_crew l p free) l p free h me hand next

  -- ---- a marked row is unlinked

  go_helped : (m : HeldExchange) → m.hand.name ≡ me.name → Owns free m.hand → FollowsTo l op.path w n → IsAlone l me → Helped l h me w m →
      On m.hand (help_by l p free op m (Ended Won))
  go_helped m named owns follows alone f =
      let bare : m.to ≡ bare_of m.to = sym (bare-untagged m.to f.bare) in
      let then_walk : Walk = record { back = w.back; link = record { word = w.link.word; raw = m.to; sure = true } } in
      Goes.changes me m.hand (with_helped m.hand) (help_by l p free op m (Ended Won))
      (record { name = refl; number = refl; queue = refl; ticket = refl; queued = refl })
      (go_looks l lists p free h kept me early served most (record op { path = unlinked op.path m.to }) same (with_helped m.hand) named
      (record { places = owns.places; tight = owns.tight; pool = owns.pool }) then_walk n alone
      (record { back = follows.walk.back; link = record { word = follows.walk.link.word; raw = refl; sure = refl } })
      (record {
        spot = record {
          behind = f.behind;
          saw = subst (Saw l h key w.link.word) bare f.saw;
          unmarked = subst (λ u. is_marked u ≡ false) bare f.unmarked;
        };
        back = f.back;
        link = f.needs;
      })
      (subst (Gone l h me.first key w.link.word) bare f.gone))

  pub go_help_at : (m : HeldExchange) → m.hand.name ≡ me.name → Owns free m.hand → FollowsTo l op.path w n → IsAlone l me → (at : Exchanging) →
      HelpAt l h me w n m (exchange_part at) → ExchangesAt (list_crew l p free) l p free at → (is_none (exchange_asks p at m) && true) ≡ true →
      On m.hand (help_by l p free op m at)
  go_help_at m named owns follows alone Ready f facts ended = absurd (false≢true ended)
  go_help_at m named owns follows alone (Tries slot) f facts ended = absurd (false≢true ended)
  go_help_at m named owns follows alone TriesBare f facts ended = absurd (false≢true ended)
  go_help_at m named owns follows alone WritesBack f facts ended = absurd (false≢true ended)
  go_help_at m named owns follows alone Withdraws f facts ended = absurd (false≢true ended)
  go_help_at m named owns follows alone (Lowers slot found) f facts ended = absurd (false≢true ended)
  go_help_at m named owns follows alone (Ended Won) f facts ended = go_helped m named owns follows alone f
  go_help_at m named owns follows alone (Ended (Lost found)) f facts ended = go_search l p free h kept me early served op same w n m.hand alone
  go_help_at m named owns follows alone (Ended (Exchange_worn word version)) f facts ended = absurd facts

  -- ---- an insert's row is linked

  says_insert : (c : Call) → is_insert c ≡ true → SaysYes l h me c w
  says_insert (Insert k v) e = tt
  says_insert (Remove k) e = tt
  says_insert (Contains k) e = absurd (cc)
  says_insert (Get k) e = tt

  fits_insert : (c : Call) → is_insert c ≡ true → not (is_get c) ≡ true
  fits_insert (Insert k v) e = refl
  fits_insert (Remove k) e = refl
  fits_insert (Contains k) e = refl
  fits_insert (Get k) e = absurd (cc)

  pub go_link_at : (m : HeldExchange) → is_insert me.call ≡ true → (at : Exchanging) → IsAloneIf l h me (exchange_part at) →
      ExchangesAt (list_crew l p free) l p free at → (is_none (exchange_asks p at m) && true) ≡ true → On m.hand (link_by l op m at)
  go_link_at m insert Ready alone facts ended = absurd (false≢true ended)
  go_link_at m insert (Tries slot) alone facts ended = absurd (false≢true ended)
  go_link_at m insert TriesBare alone facts ended = absurd (false≢true ended)
  go_link_at m insert WritesBack alone facts ended = absurd (false≢true ended)
  go_link_at m insert Withdraws alone facts ended = absurd (false≢true ended)
  go_link_at m insert (Lowers slot found) alone facts ended = absurd (false≢true ended)
  go_link_at m insert (Ended Won) alone facts ended = Goes.changes me m.hand (with_row_used m.hand) (link_by l op m (Ended Won))
      (record { name = refl; number = refl; queue = refl; ticket = refl; queued = refl })
      (go_answer l p free h kept me early served op same w n (with_row_used m.hand) Yes (fits_insert me.call insert) tt (says_insert me.call insert))
  go_link_at m insert (Ended (Lost found)) alone facts ended = go_search l p free h kept me early served op same w n m.hand alone
  go_link_at m insert (Ended (Exchange_worn word version)) alone facts ended = absurd facts

  -- ---- a remove's row is marked, and unlinked

  go_removed : me.call ≡ Remove key → (hand : Hand) → On hand (Rattle.flit_list_steps.specs.Steps.answers op hand Yes)
  go_removed remove hand = go_answer l p free h kept me early served op same w n hand Yes (ap (λ c. not (is_get c)) remove) tt
      (subst (λ c. SaysYes l h me c w) (sym remove) tt)

  go_tidies : (m : HeldExchange) → me.call ≡ Remove key → FollowsTo l op.path w n → Marked l h me w n m →
      shadow_in l h (Next_word (row_after w)) ≡ m.to → On m.hand (tidies l op m.hand)
  go_tidies m remove follows f shadow = go_exchange l p free h kept me early served m.hand op.path.pred.word op.path.pred.raw
      (to_row (raw_row_of op.path.next.raw)) (λ x. tidy_next op x) pred_open (to_row_small (raw_row_of op.path.next.raw) (row_small op.path.next.raw))
      pred_needed (λ worn. go_removed remove m.hand)
      (record {
        at = refl;
        call = same;
        knows = record {
          first = early;
          served = served;
          walk = w;
          next = n;
          at = (
            remove,
            record {
              sure = f.sure;
              some = f.some;
              linked = f.linked;
              is = sym f.is ∙ sym shadow;
              marked = ap is_marked shadow ∙ f.marked;
              leads = ap row_of shadow ∙ f.same;
              aim = record { word = follows.walk.link.word; from_is = follows.walk.link.raw };
              to = plain_held op.path.pred.raw (raw_row_of op.path.next.raw) (row_small op.path.next.raw)
                  ∙ ap plain_link (raw_row op.path.next.raw ∙ ap (λ r. row_of (bare_of r)) follows.next.raw);
            },
          );
        };
      })
    where
      pred_open : IsOpen l free h op.path.pred.word
      pred_open = subst (IsOpen l free h) (sym follows.walk.link.word) (link_open l free h kept w.link.word f.sure.stands.spot.saw.link)

      pred_needed : Needs me.needs op.path.pred.word (version_of op.path.pred.raw)
      pred_needed = subst (λ v. Needs me.needs v (version_of op.path.pred.raw)) (sym follows.walk.link.word)
          (subst (λ r. Needs me.needs (place_of l w.link.word) (version_of r)) (sym follows.walk.link.raw)
          (subst (λ b. IsHeldSo l me b (place_of l w.link.word) w.link.raw) f.sure.link f.sure.stands.link))

  pub go_mark_at : (m : HeldExchange) → me.call ≡ Remove key → FollowsTo l op.path w n → IsAlone l me → (at : Exchanging) →
      MarkAt l h me w n m (exchange_part at) → ExchangesAt (list_crew l p free) l p free at → (is_none (exchange_asks p at m) && true) ≡ true →
      On m.hand (mark_by l op m at)
  go_mark_at m remove follows alone Ready f facts ended = absurd (false≢true ended)
  go_mark_at m remove follows alone (Tries slot) f facts ended = absurd (false≢true ended)
  go_mark_at m remove follows alone TriesBare f facts ended = absurd (false≢true ended)
  go_mark_at m remove follows alone WritesBack f facts ended = absurd (false≢true ended)
  go_mark_at m remove follows alone Withdraws f facts ended = absurd (false≢true ended)
  go_mark_at m remove follows alone (Lowers slot found) f facts ended = absurd (false≢true ended)
  go_mark_at m remove follows alone (Ended Won) f facts ended = go_tidies m remove follows f.0 f.1
  go_mark_at m remove follows alone (Ended (Lost found)) f facts ended = go_search l p free h kept me early served op same w n m.hand alone
  go_mark_at m remove follows alone (Ended (Exchange_worn word version)) f facts ended = absurd facts

  pub go_tidy_at : (m : HeldExchange) → me.call ≡ Remove key → (at : Exchanging) → (is_none (exchange_asks p at m) && true) ≡ true →
      On m.hand (tidy_by op m at)
  go_tidy_at m remove Ready ended = absurd (false≢true ended)
  go_tidy_at m remove (Tries slot) ended = absurd (false≢true ended)
  go_tidy_at m remove TriesBare ended = absurd (false≢true ended)
  go_tidy_at m remove WritesBack ended = absurd (false≢true ended)
  go_tidy_at m remove Withdraws ended = absurd (false≢true ended)
  go_tidy_at m remove (Lowers slot found) ended = absurd (false≢true ended)
  go_tidy_at m remove (Ended how) ended = go_removed remove m.hand

  -- ---- the value is loaded

  pub go_value_at : (m : HeldVLoad) → me.call ≡ Get key → KnowsGet l h me w m → (at : VLoading) → WordRead l h me (value_word_of l (row_after w)) at →
      (is_none (v_load_asks at m) && true) ≡ true → On m.hand (value_by op m at)
  go_value_at m get f V_reads read ended = absurd (false≢true ended)
  go_value_at m get f (V_has raw) read ended = go_answer l p free h kept me early served op same w n m.hand (Found (value_of raw)) (ap is_get get) tt (
    f.found,
    sym (value_bare raw) ∙ ap value_of read
        ∙ sym (ap (λ b. if b then value_of (at_word h (value_word_of l (row_after w))) else 0) f.valued),
  )
