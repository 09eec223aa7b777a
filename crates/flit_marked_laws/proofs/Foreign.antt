-- Others store and write back words of foreign rows: all goes on.
use Rattle.std.proofs.Common.{◌≡◌, ◌≢◌, ⊎_elim, ℕ, ◌+◌, ◌<◌, ◌≤◌, Bool, true, false, List, Option, Some, None, cond, slice_index, refl, sym, ◌∙◌, ap, subst, arith, eqb-true}
use Rattle.std.specs.Prelude.{Contains, nat_lt}
use Rattle.std.specs.FinMap as fin
use Rattle.flit_words.specs.declared.layouts.Layout.{Layout}
use Rattle.flit_words.specs.Layouts.{words_of}
use Rattle.flit_words.specs.Words.{bare_of, version_of}
use Rattle.flit_model.specs.States.{State, word_at, shadow_at, IsPersistent}
use Rattle.flit_model.specs.Effects.{after}
use Rattle.flit_model.specs.Settling.{Progress, progress_after, settles}
use Rattle.flit_model.specs.CrashImages.{write_back}
use Rattle.flit_model.specs.declared.calls.Call.{Call}
use Rattle.flit_model.specs.declared.calls.Entry.{Entry}
use Rattle.flit_model.specs.declared.calls.Tally.{Tally}
use Rattle.flit_model.specs.declared.events.Event.TheVariants.{Store}
use Rattle.flit_model.proofs.Shapes.{recovered_rows}
use Rattle.flit_place.specs.Tags.{Place}
use Rattle.flit_place.proofs.CoverSteps.{index-set}
use Rattle.flit_place.proofs.WordTags.{version-bare}
use Rattle.flit_structure.specs.Moments.{Moment, IsAmong, busy}
use Rattle.flit_structure.specs.Meanings.{Meaning, writing_back}
use Rattle.flit_crew.specs.Heaps.{heap_of, IsOpen, IsWordOf, IsForeign}
use Rattle.flit_crew.specs.Crews.{Crew, Holds}
use Rattle.flit_crew.specs.Obligations.{Keeps}
use Rattle.flit_crew.proofs.Foreign.{foreign_stored}
use Rattle.flit_crew.proofs.Outside.{foreign_fits}
use Rattle.flit_crew.proofs.Placing.{word_within}
use Rattle.flit_crew.proofs.WritingBack.{written_back}
use Rattle.flit_crew_bounds.specs.BoundedMeanings.{bounds_by}
use Rattle.flit_crew_bounds.specs.Bounding.{Limits}
use Rattle.flit_crew_bounds.specs.Left.{machine_left}
use Rattle.flit_crew_bounds.proofs.Beside.{licensed_beside}
use Rattle.flit_crew_bounds.proofs.Others.{Placed, placed}
use Rattle.flit_list_steps.specs.Operations.{HeldOp}
use Rattle.flit_list_laws.specs.ListCrew.{IsOfLists, list_crew}
use Rattle.flit_list_laws.proofs.Keeping.{lists_keep}
use Rattle.flit_list_limits.proofs.Beside.{behind_same}
use Rattle.flit_list_tries.specs.ListTries.{list_limits}
use Rattle.flit_list_tries.proofs.Tries.{lists_keep_bounds}
use Rattle.flit_list_structure.specs.ListStructure.{lists}
use Rattle.flit_list_structure.proofs.Lawfulness.{list_lawful, list_wrappable}
use Rattle.flit_marked_laws.specs.Marked.{MayStoreForeign, GoesOn}

module _ (l : Layout) (p : Place) (free : List ℕ) (chains : IsOfLists l) where
  abbrev S : Meaning HeldOp
  S = lists l p free

  abbrev C : Crew (ℕ → Bool) HeldOp
  C = list_crew l p free

  abbrev L : Limits HeldOp
  L = list_limits l p free

  keeps : Keeps C l p free
  keeps = lists_keep.keeps l p free chains

  module _ (M : Moment HeldOp) (k : Holds C l p free M) (row word : ℕ) (foreign : IsForeign l M.opening.free M.opening row)
      (of : IsWordOf l row word) where
    outside : Contains free row → ⊥
    outside has = foreign.outside (subst (λ rows. Contains rows row) k.pool_is has)

    ours : IsForeign l free M.opening row
    ours = record { rows = foreign.rows; recovers = foreign.recovers; unreached = foreign.unreached; outside = outside }

    among : Contains k.stranger.private word
    among = k.outside.all row word (subst (λ rows. Contains rows row)
        (recovered_rows l M.opening.words M.opening.content M.opening.content foreign.rows k.opening.free foreign.recovers k.opening.recovers)
        foreign.unreached)
        outside of

    below : word < words_of l
    below = let fit = foreign_fits l free M.opening row ours in word_within l row word fit.0 fit.1 of

    nothing_waits : (o : Option Entry) → fin.get M.progress.waiting word ≡ o → o ≡ None
    nothing_waits None q = refl
    nothing_waits (Some e) q = absurd ((k.history.waits word e q).0.ours row ours of)

    quiet : progress_after M.progress M.state (write_back M.state word) None ≡ M.progress
    quiet = ap (λ o. cond (nat_lt (shadow_at M.state word) (bare_of (word_at M.state word))) (settles M.progress word o) M.progress)
        (nothing_waits (fin.get M.progress.waiting word) refl) ∙ by_test (nat_lt (shadow_at M.state word) (bare_of (word_at M.state word)))
      where
        by_test : (t : Bool) → cond t (settles M.progress word None) M.progress ≡ M.progress
        by_test true = refl
        by_test false = refl

  pub persisted_foreign : (M : Moment HeldOp) (row word : ℕ) → S.holds M → IsForeign l M.opening.free M.opening row → IsWordOf l row word →
      GoesOn S M (record M { state = after M.state (write_back M.state word) })
  persisted_foreign M row word holds is_foreign of =
      let q = quiet M holds.0 row word is_foreign of in
      let low = below M holds.0 row word is_foreign of in
      let laws = list_lawful l p free chains in
      record {
        holds = (
          subst (λ g. Holds C l p free (record M { state = after M.state (write_back M.state word); progress = g })) q
              (written_back C l p free keeps M holds.0 word low),
          holds.1,
        );
        licensed = λ name number op call begun start made is now.
            subst (λ g. S.licensed (record M { state = after M.state (write_back M.state word); progress = g }) op start made) q
            (laws.licensed_kept M _ None name number op call begun start made (writing_back M word low) (none_some name) is holds now);
        to_go = λ name number op call begun is. (list_wrappable l p free chains).stays M.state op word (bare_of (word_at M.state word));
      }
    where
      none_some : (n : ℕ) → ◌≡◌ {A = Option ℕ} None (Some n) → ⊥
      none_some n e = cc

  pub stored_foreign : (M : Moment HeldOp) (row word to : ℕ) → S.holds M → MayStoreForeign l M.opening M.state row word to →
      GoesOn S M (record M { state = after M.state (Store word to) })
  stored_foreign M row word to holds may =
      let k = holds.0 in
      let is_among = among M k row word may.foreign may.of in
      let rests : IsPersistent M.state word (version_of (word_at M.state word)) =
      level (version_of (word_at M.state word)) (version_of (shadow_at M.state word))
      may.persistent in
      record {
        holds = (foreign_stored C l p free keeps M k word to is_among rests may.untagged may.next, holds.1);
        licensed = λ name number op call begun start made is now.
            licensed_beside C l p free L keeps (lists_keep_bounds.limits l p free chains) M k word to is_among rests may.untagged may.next name number op call
            begun start made is now;
        to_go = λ name number op call begun is.
            let x : Placed C l p free (bounds_by C l p free L) keeps name number op call begun M =
            placed C l p free (bounds_by C l p free L) keeps name number op call begun M is k in
            ap (λ n. machine_left (C.anatomy.machine op) + n)
            (behind_same l p free (heap_of M x.holds.given x.holds.ghost) x.who x.holds.kept M.state.words (after M.state (Store word to)).words
            (λ v o. ⊎_elim (λ q. absurd (o.ours row (ours M k row word may.foreign may.of) (subst (IsWordOf l row) (sym q.0) may.of))) (λ q. q.1)
            (index-set M.state.words word to v (subst (λ n. word < n) (sym k.words) (below M k row word may.foreign may.of)))) op x.knows);
      }
    where
      level : (a b : ℕ) → a ≡ b → a ≤ b
      level a b e = omega (arith, e)

  -- a word isn't stored over before it is persistent
  pub second_breaks : (M : Moment HeldOp) (word to : ℕ) → S.holds M → word < words_of l →
      version_of (word_at M.state word) ≡ version_of (shadow_at M.state word) + 1 → version_of to ≡ version_of (word_at M.state word) + 1 →
      S.holds (record M { state = after M.state (Store word to) }) → ⊥
  second_breaks M word to holds low ahead next now = ⊎_elim
      (λ same. two (version_of (shadow_at M.state word)) (version_of (word_at M.state word)) (version_of (word_at t word)) ahead further
      (sym (version-bare (word_at t word)) ∙ ap version_of same))
      (λ one. three (version_of (shadow_at M.state word)) (version_of (word_at M.state word)) (version_of (word_at t word)) ahead further
      (eqb-true (version_of (word_at t word)) (version_of (shadow_at M.state word) + 1) one))
      ((list_lawful l p free chains).near (record M { state = t }) word now low).near
    where
      t : State
      t = after M.state (Store word to)

      stored : word_at t word ≡ to
      stored = ⊎_elim (λ q. q.1) (λ q. absurd (q.0 refl)) (index-set M.state.words word to word (subst (λ n. word < n) (sym holds.0.words) low))

      further : version_of (word_at t word) ≡ version_of (word_at M.state word) + 1
      further = ap version_of stored ∙ next

      two : (s w n : ℕ) → w ≡ s + 1 → n ≡ w + 1 → n ≡ s → ⊥
      two s w n e f g = omega (arith, e, f, g)

      three : (s w n : ℕ) → w ≡ s + 1 → n ≡ w + 1 → n ≡ s + 1 → ⊥
      three s w n e f g = omega (arith, e, f, g)
