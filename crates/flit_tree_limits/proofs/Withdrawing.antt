-- A tag is withdrawn: each word leads to the row that it led to, the words reach as many inner rows, and what would be won
-- still would. And the edge that a way begins with isn't the sibling of the edge at its end.
use Rattle.std.proofs.Common.{◌≡◌, ◌≢◌, ◌⊎◌, inl, inr, ⊎_elim, ℕ, ◌==◌, ◌&&◌, ◌<◌, ◌≤◌, Bool, true, false, List, length, Option, Some, None, slice_index, refl, sym, ◌∙◌, ap, subst, if◌then◌else◌}
use Rattle.std.proofs.lemmas.Bool.{false≢true, eqb-true, eqb-false, eq-eqb, cases_lt}
use Rattle.std.proofs.lemmas.Option.{same_Some}
use Rattle.std.proofs.lemmas.List.{get_or-set_same, set_past}
use Rattle.flit_words.specs.declared.layouts.Layout.{Layout}
use Rattle.flit_words.specs.Words.{is_tagged, bare_of, tagged_of}
use Rattle.flit_model.specs.States.{State, word_at}
use Rattle.flit_model.specs.Effects.{after, with_word}
use Rattle.flit_model.specs.declared.events.Event.{Event}
use Rattle.flit_place.specs.Tags.{Place, dressed}
use Rattle.flit_place.proofs.WordTags.{is_tagged-tagged, is_tagged-bare, bare-tagged, bare-untagged, bare-dressed}
use Rattle.flit_pv.specs.declared.exchanges.Exchanging.TheVariants.{Withdraws}
use Rattle.flit_pv.specs.Exchanges.{HeldExchange, exchange_asks, exchange_asked, withdraw_asks}
use Rattle.flit_runs.specs.Workings.{Dependency}
use Rattle.flit_crew_bounds.specs.Winning.{would_win_at, would_win}
use Rattle.flit_crew_bounds.proofs.Turning.{exchange_elsewhere}
use Rattle.flit_tree_heap.specs.Edges.{left, right, own, other, row_of}
use Rattle.flit_tree_heap.specs.Routes.{reading}
use Rattle.flit_tree_heap.specs.Views.{TreeHeap}
use Rattle.flit_tree_heap.specs.Kept.{IsKept}
use Rattle.flit_tree_heap.specs.Exchanges.{side_now}
use Rattle.flit_tree_heap.proofs.Words.{own-left, own-right, other-left, other-right, other-apart}
use Rattle.flit_tree_knowing.specs.Spots.{IsSpot, IsWay}
use Rattle.flit_tree_laws.proofs.Raws.{row_some, side_either}
use Rattle.flit_tree_limits.specs.TreeLimits.{inners_from, most_way, all_inners}
use Rattle.flit_tree_limits.proofs.TreeWords.{inners_same}
use Rattle.flit_tree_limits.proofs.Loading.{bare_row}

-- words that lead to the same rows reach as many inner rows
pub inners_as : (l : Layout) (xs ws : List ℕ) → ((w : ℕ) → row_of (slice_index xs w) ≡ row_of (slice_index ws w)) → all_inners l xs ≡ all_inners l ws
unfolding all_inners
inners_as l xs ws same = ap (λ r. inners_from (reading l xs) (most_way l) r) (same 4)
    ∙ inners_same (reading l ws) (reading l xs) same (most_way l) (row_of (slice_index ws 4))

module _ (p : Place) (s : State) (m : HeldExchange) where
  abbrev Leads : Event → Type 0
  Leads e = row_of (slice_index (after s e).words m.word) ≡ row_of (slice_index s.words m.word)

  -- with its tag it leads to the same row
  tag_aside : row_of m.to ≡ row_of (dressed p.counted m.to)
  tag_aside = sym (bare_row m.to) ∙ ap row_of (sym (bare-dressed p.counted m.to)) ∙ bare_row (dressed p.counted m.to)

  leads_on : (slot : Option ℕ) → Leads (withdraw_asks p m slot)
  leads_on (Some slot) = refl
  leads_on None = by_test (word_at s m.word == dressed p.counted m.to) refl
    where
      by_range : word_at s m.word ≡ dressed p.counted m.to → (m.word < length s.words) ⊎ (length s.words ≤ m.word) →
          row_of (slice_index (with_word s m.word m.to).words m.word) ≡ row_of (slice_index s.words m.word)
      by_range is (inl below) = ap row_of (get_or-set_same s.words m.word m.to 0 below) ∙ tag_aside ∙ ap row_of (sym is)
      by_range is (inr past) = ap (λ ws. row_of (slice_index ws m.word)) (set_past s.words m.word m.to past)

      by_test : (b : Bool) → (word_at s m.word == dressed p.counted m.to) ≡ b →
          row_of (slice_index (if b then with_word s m.word m.to else s).words m.word) ≡ row_of (slice_index s.words m.word)
      by_test true q = by_range (eqb-true (word_at s m.word) (dressed p.counted m.to) q) (cases_lt m.word (length s.words))
      by_test false q = refl

  leads_same : (e : Event) → exchange_asked p m ≡ Some e → m.at ≡ Withdraws → (w : ℕ) →
      row_of (slice_index (after s e).words w) ≡ row_of (slice_index s.words w)
  leads_same e asked is w = by_word (w == m.word) refl
    where
      event_is : Some (withdraw_asks p m (p.slot m.word)) ≡ Some e
      event_is = sym (ap (λ x. exchange_asks p x m) is) ∙ asked

      by_word : (b : Bool) → (w == m.word) ≡ b → row_of (slice_index (after s e).words w) ≡ row_of (slice_index s.words w)
      by_word true q = subst (λ v. row_of (slice_index (after s e).words v) ≡ row_of (slice_index s.words v)) (sym (eqb-true w m.word q))
          (subst Leads (same_Some (withdraw_asks p m (p.slot m.word)) e event_is) (leads_on (p.slot m.word)))
      by_word false q = ap row_of (exchange_elsewhere p s m e w asked (eqb-false w m.word q))

  pub inners_stay : (l : Layout) (e : Event) → exchange_asked p m ≡ Some e → m.at ≡ Withdraws → all_inners l (after s e).words ≡ all_inners l s.words
  inners_stay l e asked is = inners_as l (after s e).words s.words (leads_same e asked is)

-- ---- what would be won

or_second : (a b : Bool) → b ≡ true → (if a then true else b) ≡ true
or_second true b q = refl
or_second false b q = q

and_right : (a b : Bool) → (a && b) ≡ true → b ≡ true
and_right true b q = q
and_right false b q = absurd (false≢true q)

-- without a slot: from a word with its tag an exchange would be won where the tag is withdrawn, too
bare_wins : (counted : Bool) (to old : ℕ) → is_tagged to ≡ false → would_win_at None (dressed counted to) old ≡ true → would_win_at None to old ≡ true
bare_wins true to old bare q = q
bare_wins false to old bare q = by_test (tagged_of to == old) refl q
  where
    by_test : (b : Bool) → (tagged_of to == old) ≡ b → (if b then true else (is_tagged old && (tagged_of to == bare_of old))) ≡ true →
        (if to == old then true else (is_tagged old && (to == bare_of old))) ≡ true
    by_test true r won =
        let old_is : tagged_of to ≡ old = eqb-true (tagged_of to) old r in
        or_second (to == old) (is_tagged old && (to == bare_of old)) (subst (λ x. (is_tagged x && (to == bare_of x)) ≡ true) old_is
        (ap (λ b. b && (to == bare_of (tagged_of to))) (is_tagged-tagged to)
        ∙ eq-eqb to (bare_of (tagged_of to)) (sym (bare-tagged to ∙ bare-untagged to bare))))
    by_test false r won = absurd (false≢true (sym (is_tagged-bare old)
        ∙ ap is_tagged (sym (eqb-true (tagged_of to) (bare_of old) (and_right (is_tagged old) (tagged_of to == bare_of old) won))) ∙ is_tagged-tagged to))

module _ (p : Place) (s : State) (m : HeldExchange) (bare : is_tagged m.to ≡ false) (old : ℕ) where
  abbrev Wins : Option ℕ → List ℕ → ℕ → Type 0
  Wins slot words v = would_win_at slot (slice_index words v) old ≡ true

  wins_here : (slot : Option ℕ) → Wins slot s.words m.word → Wins slot (after s (withdraw_asks p m slot)).words m.word
  wins_here (Some slot) q = q
  wins_here None q = by_test (word_at s m.word == dressed p.counted m.to) refl
    where
      by_range : word_at s m.word ≡ dressed p.counted m.to → (m.word < length s.words) ⊎ (length s.words ≤ m.word) →
          Wins None (with_word s m.word m.to).words m.word
      by_range is (inl below) = subst (λ x. would_win_at None x old ≡ true) (sym (get_or-set_same s.words m.word m.to 0 below))
          (bare_wins p.counted m.to old bare (subst (λ x. would_win_at None x old ≡ true) is q))
      by_range is (inr past) = subst (λ ws. Wins None ws m.word) (sym (set_past s.words m.word m.to past)) q

      by_test : (b : Bool) → (word_at s m.word == dressed p.counted m.to) ≡ b → Wins None (if b then with_word s m.word m.to else s).words m.word
      by_test true r = by_range (eqb-true (word_at s m.word) (dressed p.counted m.to) r) (cases_lt m.word (length s.words))
      by_test false r = q

  -- it would be won behind that, too
  pub wins_on : (e : Event) → exchange_asked p m ≡ Some e → m.at ≡ Withdraws → (v : ℕ) → would_win p s.words v old ≡ true →
      would_win p (after s e).words v old ≡ true
  wins_on e asked is v won = by_word (v == m.word) refl
    where
      event_is : Some (withdraw_asks p m (p.slot m.word)) ≡ Some e
      event_is = sym (ap (λ x. exchange_asks p x m) is) ∙ asked

      by_word : (b : Bool) → (v == m.word) ≡ b → would_win p (after s e).words v old ≡ true
      by_word true q =
          let same : v ≡ m.word = eqb-true v m.word q in
          subst (λ w. would_win p (after s e).words w old ≡ true) (sym same)
          (subst (λ y. Wins (p.slot m.word) (after s y).words m.word) (same_Some (withdraw_asks p m (p.slot m.word)) e event_is)
          (wins_here (p.slot m.word) (subst (λ w. would_win p s.words w old ≡ true) same won)))
      by_word false q = subst (λ x. would_win_at (p.slot v) x old ≡ true) (sym (exchange_elsewhere p s m e v asked (eqb-false v m.word q))) won

-- ---- where a way begins

own_side : (l : Layout) (h : TreeHeap) (key row : ℕ) → own (side_now l h key row) ≡ row
own_side l h key row = ⊎_elim (λ a. ap own a ∙ own-left row) (λ b. ap own b ∙ own-right row) (side_either l h key row)

own_other : (row edge : ℕ) → 1 ≤ row → (edge ≡ left row) ⊎ (edge ≡ right row) → own (other edge) ≡ row
own_other row edge some (inl a) = ap (λ w. own (other w)) a ∙ ap own (other-left row some) ∙ own-right row
own_other row edge some (inr b) = ap (λ w. own (other w)) b ∙ ap own (other-right row some) ∙ own-left row

pub ancestor_apart : (l : Layout) (free : List ℕ) (h : TreeHeap) → IsKept l free h → (needs : List Dependency) (key edge x ancestor a end : ℕ) →
    (spot : IsSpot l free h needs key edge x) → IsWay l free h needs key ancestor a end → ancestor ≢ other edge
ancestor_apart l free h K needs key edge x ancestor a end spot way same =
    let some : 1 ≤ spot.row = row_some l free h K spot.row spot.linked in
    let side : (edge ≡ left spot.row) ⊎ (edge ≡ right spot.row) =
    subst (λ w. (w ≡ left spot.row) ⊎ (w ≡ right spot.row)) spot.side (side_either l h key spot.row) in
    let own_edge : own edge ≡ spot.row = subst (λ w. own w ≡ spot.row) spot.side (own_side l h key spot.row) in
    let own_ancestor : own ancestor ≡ way.spot.row = subst (λ w. own w ≡ way.spot.row) way.spot.side (own_side l h key way.spot.row) in
    let one_row : way.spot.row ≡ spot.row = sym own_ancestor ∙ ap own same ∙ own_other spot.row edge some side in
    let one_edge : ancestor ≡ edge = sym way.spot.side ∙ ap (λ r. side_now l h key r) one_row ∙ spot.side in
    other-apart edge (subst (λ r. 1 ≤ r) (sym own_edge) some) (sym same ∙ one_edge)
