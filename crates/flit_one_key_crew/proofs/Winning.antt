-- The exchange of the head: it is won, with the call's update, or lost, or written back.
use Rattle.std.proofs.Common.{◌≡◌, ◌⊎◌, inl, inr, ⊎_elim, ℕ, ◌+◌, ◌≤◌, ◌&&◌, not, Bool, true, false, List, [], ◌∷◌, ◌++◌, length, Contains, Some, None, refl, sym, ◌∙◌, ap, subst, arith, if◌then◌else◌}
use Rattle.std.proofs.lemmas.Bool.{false≢true}
use Rattle.flit_words.specs.declared.layouts.Layout.{Layout}
use Rattle.flit_words.specs.Words.{version_of, value_of, bare_of}
use Rattle.flit_model.specs.Histories.{is_update_by}
use Rattle.flit_model.specs.declared.calls.Call.{Call}
use Rattle.flit_model.specs.declared.calls.Call.TheVariants.{Insert, Remove}
use Rattle.flit_model.specs.declared.calls.Reply.{Reply}
use Rattle.flit_model.specs.declared.calls.Reply.TheVariants.{Yes}
use Rattle.flit_model.specs.declared.calls.Entry.{Entry}
use Rattle.flit_model.proofs.Membership.{contains_first}
use Rattle.flit_place.specs.Tags.{Place}
use Rattle.flit_place.proofs.WordTags.{version-bare}
use Rattle.flit_pv.specs.Exchanges.{HeldExchange}
use Rattle.flit_rows.specs.Shares.{rows_in}
use Rattle.flit_runs.specs.Workings.{Exchanges}
use Rattle.flit_runs.specs.Soundness.{IsNext}
use Rattle.flit_structure.specs.Moments.{update_of}
use Rattle.flit_structure.specs.Meanings.{value_put}
use Rattle.flit_structure.specs.Lawful.{is_insert, rows_needed}
use Rattle.flit_crew.specs.Machines.{Works}
use Rattle.flit_crew.specs.Heaps.{at_word, waits_at, won, AreResting}
use Rattle.flit_crew.specs.Crews.{Who, links_of}
use Rattle.flit_crew.specs.Obligations.{WonSo}
use Rattle.flit_one_key.specs.Operations.{At, Head, Key, Value, Row, Words, RowValue, Link, Ends, Rests, HeldOp}
use Rattle.flit_one_key.specs.Steps.{IsSmall}
use Rattle.flit_one_key_crew.specs.OneKeyCrew.{linked_after, link_to}
use Rattle.flit_one_key_crew.specs.OneKeyAnatomy.{machine_at}
use Rattle.flit_one_key_crew.specs.OneKeyCrew.{Words_of, row_key, row_value, linked_first, version_first, updates, IsHead, IsStory, HasLinked, Saw, LinksRow, UnlinksRow, Kept, one_key_crew}
use Rattle.flit_one_key_crew.proofs.RowWords.{row_has}
use Rattle.flit_one_key_crew.proofs.Stories.{story_removes, linked_next}
use Rattle.flit_one_key_crew.proofs.Waits.{none_waits}
use Rattle.flit_one_key_crew.proofs.Heaps.{linked_or_none, WinsSo, wins_head}
use Rattle.flit_one_key_crew.proofs.Knowing.{row_own, seen_links, seen_none, seen_linked}

-- an operation that is in an exchange is at its Link
pub link_at : (at : At) (m : HeldExchange) → machine_at at ≡ Works (Exchanges m) → at ≡ Link m
link_at (Head x) m e = absurd (cc)
link_at (Key head x) m e = absurd (cc)
link_at (Value x) m e = absurd (cc)
link_at (Row head x) m e = absurd (cc)
link_at (Words head x) m e = absurd (cc)
link_at (RowValue head x) m e = absurd (cc)
link_at (Link x) m e = ap Link (same x m e)
  where
    same : (x m : HeldExchange) → Works (Exchanges x) ≡ Works (Exchanges m) → x ≡ m
    same x m e = cc
link_at (Ends x) m e = absurd (cc)
link_at (Rests hand) m e = absurd (cc)

module _ (l : Layout) (small : IsSmall l) (p : Place) (free : List ℕ) (h : Words_of) (is : Kept l free h) (me you : Who) (call : Call) (reply : Reply)
    (m : HeldExchange) (same_call : call ≡ me.call) (none : waits_at h 0 ≡ None) (found : at_word h 0 ≡ bare_of m.from) (next : IsNext m) where
  abbrev op : HeldOp
  op = record { call = call; reply = reply; at = Link m }

  abbrev e : Entry
  e = update_of me.name me.number me.call

  -- the head that it has seen is that of all updates
  saw_all : (s : Saw l h me call m.from) → s.index ≡ length (updates h)
  saw_all s = counts (version_first h) s.index (length (updates h)) (version_of m.from) s.left.counts
      (sym (version-bare m.from) ∙ ap version_of (sym found) ∙ is.head.counts)
    where
      counts : (v i n w : ℕ) → w ≡ v + i → w ≡ v + n → i ≡ n
      counts v i n w a b = omega (arith, a, b)

  head_next : (linked : Bool) → linked_after (linked_first h) (length (updates h)) ≡ not linked → value_of m.to ≡ link_to linked →
      IsHead h m.to (length (updates h) + 1)
  head_next linked was to = record {
    counts = counts (version_of m.to) (version_of m.from) (version_first h) (length (updates h)) next.next
        (sym (version-bare m.from) ∙ ap version_of (sym found) ∙ is.head.counts);
    links = to ∙ ap link_to (twice linked ∙ ap not (sym was) ∙ sym (linked_next (linked_first h) (length (updates h))));
  }
    where
      counts : (to from v n : ℕ) → to ≡ from + 1 → from ≡ v + n → to ≡ v + (n + 1)
      counts to from v n a b = omega (arith, a, b)

      twice : (b : Bool) → b ≡ not (not b)
      twice true = refl
      twice false = refl

  waiting : h.progress.waiting ≡ Rattle.std.specs.FinMap.empty
  waiting = none_waits h.progress is.waits none

  abbrev Wins : List ℕ → Type 0
  Wins rows = WonSo (one_key_crew l free) l p free h me you op m (won h 0 m.to (Some e) rows h.ghost)

  won_so : (rows : List ℕ) → m.word ≡ 0 → WinsSo l small free h is m.to e rows h.ghost → is_update_by call Yes ≡ true →
      (is_insert call ≡ true → length (rows_in m.hand.spare) ≡ 1) → Wins rows
  won_so rows at so update many =
      let k = wins_head l small free h is m.to e rows h.ghost so in
      record {
        kept = k.0;
        later = k.1;
        knows = (at, update);
        update = λ t. update;
        linked = λ t i. many i ∙ sym (ap rows_needed small.list);
      }

  -- an insert links the row, which nobody has linked before
  links_row : m.word ≡ 0 → LinksRow l h me call m → AreResting l free h (rows_in m.hand.spare) → Wins (rows_in m.hand.spare)
  links_row at s rests = won_so (rows_in m.hand.spare) at (record {
    none = waiting;
    bare = next.bare;
    head = head_next true
        (ap (linked_after (linked_first h)) (sym (saw_all s.inserting.saw)) ∙ seen_none l h me call m.from s.inserting.saw s.inserting.none) s.to;
    story = subst (λ b. IsStory (row_key l h) (row_value l h) b (updates h ++ e ∷ [])) (sym never.0)
        (subst (λ es. IsStory (row_key l h) (row_value l h) false (es ++ e ∷ [])) (sym never.1) (its_call, refl, tt));
    sealed = (subst (λ k. k ≤ 4294967292) (sym s.words.key) s.inserting.small, s.words.link);
    out = (
      λ pool. subst (λ rows. Contains (rows ++ h.given) 1) (sym mine) (contains_first 1 h.given),
      λ foreign. foreign.outside (rests.pool 1 own),
    );
    rest = λ w lt other. rests.words 1 w own (row_has l small w lt other);
  }) (ap (λ c. is_update_by c Yes) s.inserting.insert) (λ i. ap length mine)
    where
      mine : rows_in m.hand.spare ≡ 1 ∷ []
      mine = row_own l h me call m.hand s.inserting.row

      own : Contains (rows_in m.hand.spare) 1
      own = subst (λ rows. Contains rows 1) (sym mine) (contains_first 1 [])

      never : (linked_first h ≡ false) × (updates h ≡ [])
      never = ⊎_elim (λ q. absurd (rests.unlinked 1 own ((is.out q).0 (rests.pool 1 own))))
          (λ q. q) (linked_or_none h)

      its_call : me.call ≡ Insert (row_key l h) (row_value l h)
      its_call = sym same_call ∙ s.inserting.insert ∙ ap (λ k. Insert k (value_put call)) (sym s.words.key) ∙ ap (Insert (row_key l h)) (sym s.value)

  -- a remove unlinks it
  unlinks_row : m.word ≡ 0 → UnlinksRow l h me call m → Wins []
  unlinks_row at s = won_so [] at (record {
    none = waiting;
    bare = next.bare;
    head = head_next false linked s.to;
    story = story_removes (row_key l h) (row_value l h) (linked_first h) (updates h) e
        (sym same_call ∙ s.remove ∙ ap Remove (sym s.found.key)) refl linked is.story;
    sealed = is.sealed has;
    out = is.out has;
    rest = is.rest (is.out has);
  }) (ap (λ c. is_update_by c Yes) s.remove) (λ i. absurd (false≢true (sym (ap is_insert s.remove) ∙ i)))
    where
      has : HasLinked h
      has = seen_linked l h me call m.from s.found.saw s.found.linked

      linked : linked_after (linked_first h) (length (updates h)) ≡ true
      linked = ap (linked_after (linked_first h)) (sym (saw_all s.found.saw)) ∙ seen_links l h me call m.from s.found.saw s.found.linked

  -- with the rows of an insert, and none of a remove
  pub wins_link : m.word ≡ 0 → LinksRow l h me call m ⊎ UnlinksRow l h me call m → AreResting l free h (links_of (one_key_crew l free).anatomy op) →
      Wins (links_of (one_key_crew l free).anatomy op)
  wins_link at (inl s) rests =
      let rows : links_of (one_key_crew l free).anatomy op ≡ rows_in m.hand.spare =
      ap (λ c. if true && is_insert c then rows_in m.hand.spare else []) s.inserting.insert in
      subst Wins (sym rows) (links_row at s (subst (AreResting l free h) rows rests))
  wins_link at (inr s) rests =
      let rows : links_of (one_key_crew l free).anatomy op ≡ [] = ap (λ c. if true && is_insert c then rows_in m.hand.spare else []) s.remove in
      subst Wins (sym rows) (unlinks_row at s)
