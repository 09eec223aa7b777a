-- What a crash image has of the next word of a linked row that calls have marked.
use Rattle.std.proofs.Common.{◌≡◌, ⊎_elim, ℕ, ◌<◌, ◌&&◌, Bool, true, false, List, length, Option, Some, None, refl, sym, ◌∙◌, ap, subst, if◌then◌else◌}
use Rattle.std.proofs.lemmas.Bool.{false≢true}
use Rattle.std.proofs.lemmas.Option.{none-some}
use Rattle.std.proofs.lemmas.List.Elements.{Contains-append_left}
use Rattle.std.specs.Prelude.{Contains, slice_index}
use Rattle.flit_words.specs.declared.layouts.Layout.{Layout}
use Rattle.flit_words.specs.Words.{value_of, bare_of}
use Rattle.flit_words.specs.Links.{link_of}
use Rattle.flit_model.specs.Lists.{next_word}
use Rattle.flit_model.specs.States.{word_at, shadow_at, is_ahead}
use Rattle.flit_model.specs.Settling.{taken_updates}
use Rattle.flit_model.specs.CrashImages.{crash_image, crash_word}
use Rattle.flit_model.specs.declared.calls.Entry.{Entry}
use Rattle.flit_model.proofs.CrashLaws.{crash_image_at}
use Rattle.flit_place.specs.Tags.{Place}
use Rattle.flit_structure.specs.Moments.{Moment}
use Rattle.flit_structure.specs.Meanings.{Meaning}
use Rattle.flit_crew.specs.Heaps.{heap_of, waits_at}
use Rattle.flit_list_steps.specs.Operations.{HeldOp}
use Rattle.flit_list_heap.specs.Links.{Next, is_marked, by_of}
use Rattle.flit_list_heap.specs.Chained.{Shape, Solid, Linking, Marking, Unlinking}
use Rattle.flit_list_heap.specs.Keeping.{ListHeap, IsLinked, rows_at, word_in, shadow_in, entry_in, Kept}
use Rattle.flit_list_heap.proofs.Places.{next_below}
use Rattle.flit_list_laws.specs.ListCrew.{IsOfLists}
use Rattle.flit_list_laws.proofs.Raws.{value_bare}
use Rattle.flit_list_structure.specs.ListStructure.{lists}
use Rattle.flit_list_structure.proofs.Lawfulness.{list_lawful}
use Rattle.flit_marked_laws.specs.Marked.{IsMarkedBy, IsTaken, Exactly, marks_by, Since}
use Rattle.flit_marked_laws.specs.ListMarks.{told_row}
use Rattle.flit_marked_laws.proofs.Ties.{IsMarkTied}
use Rattle.flit_marked_laws.proofs.Since.{word_marked, word_by, shadow_marked, shadow_by}
use Rattle.flit_marked_laws.proofs.Taking.{taken_has, picked_so}
use Rattle.flit_marked_laws.proofs.Marks.{Told, told}

-- the mark and the name in a raw word
record Has (raw who : ℕ) : Type 0 where
  mark : (link_of (value_of raw)).mark ≡ true
  by : (link_of (value_of raw)).by ≡ who

has_bare : (raw who : ℕ) → Has (bare_of raw) who → Has raw who
has_bare raw who k = record {
  mark = ap (λ v. (link_of v).mark) (sym (value_bare raw)) ∙ k.mark;
  by = ap (λ v. (link_of v).by) (sym (value_bare raw)) ∙ k.by;
}

bare_has : (raw who : ℕ) → Has raw who → Has (bare_of raw) who
bare_has raw who k = record {
  mark = ap (λ v. (link_of v).mark) (value_bare raw) ∙ k.mark;
  by = ap (λ v. (link_of v).by) (value_bare raw) ∙ k.by;
}

module _ (l : Layout) (p : Place) (free : List ℕ) (chains : IsOfLists l) (values : l.values ≡ true) (row who : ℕ) (M : Moment HeldOp) (picks : ℕ → Bool) where
  abbrev S : Meaning HeldOp
  S = lists l p free

  abbrev w : ℕ
  w = next_word l row

  abbrev raw : ℕ
  raw = word_at M.state w

  abbrev shadow : ℕ
  shadow = shadow_at M.state w

  abbrev takes : Bool
  takes = picks w && is_ahead raw shadow

  module _ (given : List ℕ) (ghost : ℕ → Bool) (kept : Kept l free (heap_of M given ghost)) (linked : IsLinked l (heap_of M given ghost) row) where
    abbrev h : ListHeap
    h = heap_of M given ghost

    below : w < length M.state.shadows
    below = subst (λ n. w < n) (sym kept.shadows) (next_below l free h kept row linked)

    at : slice_index (crash_image picks M.state) w ≡ crash_word picks M.state w
    at = crash_image_at picks M.state w below

    to_word : IsMarkedBy l (crash_image picks M.state) row who → Has (crash_word picks M.state w) who
    to_word k = record { mark = ap (λ v. (link_of (value_of v)).mark) (sym at) ∙ k.mark; by = ap (λ v. (link_of (value_of v)).by) (sym at) ∙ k.by }

    from_word : Has (crash_word picks M.state w) who → IsMarkedBy l (crash_image picks M.state) row who
    from_word k = record { mark = ap (λ v. (link_of (value_of v)).mark) at ∙ k.mark; by = ap (λ v. (link_of (value_of v)).by) at ∙ k.by }

    -- a mark in the shadow is one in the word, and none waits there then
    shadow_rests : is_marked (shadow_in l h (Next row)) ≡ true → (word_in l h (Next row) ≡ shadow_in l h (Next row)) × (entry_in l h (Next row) ≡ None)
    shadow_rests marked = by_shape (kept.chained.shapes (Next row) linked)
      where
        by_shape : Shape (rows_at l h) ghost (word_in l h) (shadow_in l h) (Next row) (entry_in l h (Next row)) →
            (word_in l h (Next row) ≡ shadow_in l h (Next row)) × (entry_in l h (Next row) ≡ None)
        by_shape (Solid same none) = (same, none)
        by_shape (Linking k) = absurd (false≢true (sym k.ahead.kept ∙ marked))
        by_shape (Marking k) = absurd (false≢true (sym k.ahead.kept ∙ marked))
        by_shape (Unlinking k) = absurd (false≢true (sym k.ahead.kept ∙ marked))

    shadow_has : Has shadow who → Has raw who
    shadow_has k =
        let same = (shadow_rests (sym (shadow_marked l M given ghost row) ∙ k.mark)).0 in
        record {
          mark = word_marked l M given ghost row ∙ ap is_marked same ∙ sym (shadow_marked l M given ghost row) ∙ k.mark;
          by = word_by l M given ghost row ∙ ap by_of same ∙ sym (shadow_by l M given ghost row) ∙ k.by;
        }

    -- ---- nobody of that name has marked it

    no_mark : (IsMarkedBy l M.state.words row who → ⊥) → IsMarkedBy l (crash_image picks M.state) row who → ⊥
    no_mark none k = by_test takes (to_word k)
      where
        not_word : Has raw who → ⊥
        not_word x = none (record { mark = x.mark; by = x.by })

        by_test : (t : Bool) → Has (if t then bare_of raw else shadow) who → ⊥
        by_test true x = not_word (has_bare raw who x)
        by_test false x = not_word (shadow_has x)

    -- ---- an update has

    module _ (holds : S.holds M) (x : Entry) (tied : IsMarkTied l p free row who x h) where
      word_has : Has raw who
      word_has = record { mark = word_marked l M given ghost row ∙ tied.marked; by = word_by l M given ghost row ∙ tied.by }

      waiting : waits_at h w ≡ Some x → Exactly (IsMarkedBy l (crash_image picks M.state) row who) (IsTaken M.progress picks (Some x))
      waiting is = record {
        only = λ k. by_pick (picks w) refl (to_word k);
        always = λ k. from_word (subst (λ t. Has (if t then bare_of raw else shadow) who)
            (sym (both (picks w) (is_ahead raw shadow) (picked_so S (list_lawful l p free chains) M holds w x is picks k)
            ((list_lawful l p free chains).waits M w x holds is).0.ahead)) (bare_has raw who word_has));
      }
        where
          both : (a b : Bool) → a ≡ true → b ≡ true → (a && b) ≡ true
          both a b i j = cc

          by_pick : (t : Bool) → picks w ≡ t → Has (if (picks w && is_ahead raw shadow) then bare_of raw else shadow) who → IsTaken M.progress picks (Some x)
          by_pick true q k = taken_has M.progress picks w x is q
          by_pick false q k =
              let has : Has shadow who = subst (λ t. Has (if (t && is_ahead raw shadow) then bare_of raw else shadow) who) q k in
              absurd (none-some x (sym (shadow_rests (sym (shadow_marked l M given ghost row) ∙ has.mark)).1 ∙ is))

      settled : Contains M.progress.settled x → word_in l h (Next row) ≡ shadow_in l h (Next row) →
          Exactly (IsMarkedBy l (crash_image picks M.state) row who) (IsTaken M.progress picks (Some x))
      settled s same = record {
        only = λ k. Contains-append_left M.progress.settled (taken_updates M.progress picks) x s;
        always = λ k. from_word (by_test takes);
      }
        where
          by_test : (t : Bool) → Has (if t then bare_of raw else shadow) who
          by_test true = bare_has raw who word_has
          by_test false = record {
            mark = shadow_marked l M given ghost row ∙ ap is_marked (sym same) ∙ tied.marked;
            by = shadow_by l M given ghost row ∙ ap by_of (sym same) ∙ tied.by;
          }

      tied_so : Exactly (IsMarkedBy l (crash_image picks M.state) row who) (IsTaken M.progress picks (Some x))
      tied_so = ⊎_elim waiting (λ s. settled s.0 s.1) tied.entry

  pub marked : (o : Option Entry) → Since S told_row (marks_by who) row M o →
      Exactly (IsMarkedBy l (crash_image picks M.state) row who) (IsTaken M.progress picks o)
  marked o since = by_told o (told l p free chains values row who M o since)
    where
      by_told : (o : Option Entry) → Told l p free chains values row who M o →
          Exactly (IsMarkedBy l (crash_image picks M.state) row who) (IsTaken M.progress picks o)
      by_told None k = record { only = λ m. absurd (no_mark k.linked.given k.linked.ghost k.linked.kept.0 k.linked.kept.1 k.none m); always = λ m. absurd m }
      by_told (Some x) k = tied_so k.tied.given k.tied.ghost k.tied.kept.0 k.tied.kept.1.linked k.holds x k.tied.kept.1
