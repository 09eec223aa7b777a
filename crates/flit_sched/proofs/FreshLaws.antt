-- Where a call takes effect nothing waits yet, at its word or of its worker.
use Rattle.std.proofs.Common.{◌≡◌, ⊎_elim, ℕ, ◌+◌, ◌<◌, ◌==◌, eqb, Bool, true, false, cond, List, ◌∷◌, ◌++◌, length, refl, sym, ◌∙◌, ap, subst, arith, Option, Some, None}
use Rattle.std.proofs.lemmas.Bool.{eqb-true, eq-eqb}
use Rattle.std.proofs.lemmas.List.{get_or-set_same}
use Rattle.std.specs.List.{AllByRecursion}
use Rattle.std.specs.Ordering.{nat_cmp}
use Rattle.std.specs.FinMap as fin
use Rattle.std.specs.FinMap.{find}
use Rattle.flit_words.specs.Words.{bare_of, version_of}
use Rattle.flit_words.specs.Layouts.{words_of}
use Rattle.flit_place.proofs.WordTags.{version-bare}
use Rattle.flit_model.specs.States.{word_at, shadow_at}
use Rattle.flit_model.specs.Effects.{after, with_word}
use Rattle.flit_model.specs.Settling.{progress_after}
use Rattle.flit_model.specs.declared.calls.Entry.{Entry}
use Rattle.flit_model.specs.declared.events.Event.{Event}
use Rattle.flit_model.specs.declared.events.Event.TheVariants.{Exchange}
use Rattle.flit_structure.specs.declared.workers.Doing.{Doing}
use Rattle.flit_structure.specs.declared.workers.Doing.TheVariants.{Idle, Busy, Evicting}
use Rattle.flit_structure.specs.declared.workers.Worker.{Worker}
use Rattle.flit_structure.specs.Moments.{Moment, with_workers, update_of}
use Rattle.flit_structure.specs.Meanings.{Meaning, asks, asked_by, effect_in, effect_by, moment_after}
use Rattle.flit_structure.specs.Lawful.{Lawful}
use Rattle.flit_structure.proofs.Growing.{get_put}
use Rattle.flit_structure.proofs.Waiting.{one_each}
use Rattle.flit_sched.specs.declared.players.Player.{Player}
use Rattle.flit_sched.specs.declared.players.Waiting.{Waiting}
use Rattle.flit_sched.specs.Kept.{waiting_of, pairs_waiting, AreApart}
use Rattle.flit_sched.proofs.StepLaws.{at, makes}
use Rattle.flit_sched.proofs.WaitingLaws.{no_some, find_skip, find_here, get_made, once_here}
use Rattle.flit_sched.proofs.ProgressLaws.{none_found, waiting_with, IsFreshFor}

module _ {Op : Type 0} (meaning : Meaning Op) (l : Lawful meaning) where
  pub record TakesEffect (name from to : ℕ) (x : Entry) : Type 0 where
    pub later : version_of to ≡ version_of from + 1
    pub own : x.worker ≡ name

  pub effect_says : (M : Moment Op) (a b : List (Worker Op)) (name number : ℕ) (doing : Doing Op) (word from to : ℕ) (x : Entry) →
      effect_in meaning name number doing ≡ Some x → asks meaning doing ≡ Some (Exchange word from to) →
      meaning.holds (with_workers M (a ++ at name number doing ∷ b)) →
      TakesEffect name from to x
  effect_says M a b name number (Idle hand) word from to x is asks_e h = absurd (no_some x is)
  effect_says M a b name number (Evicting evict) word from to x is asks_e h = absurd (no_some x is)
  effect_says M a b name number (Busy op call begun) word from to x is asks_e h = by_test (meaning.effect op) refl
    where
      by_test : (t : Bool) → meaning.effect op ≡ t → TakesEffect name from to x
      by_test true e =
          let f = l.effects M a name number op call begun b e h in
          let same : Some (Exchange f.0 f.1 f.2) ≡ Some (Exchange word from to) = sym f.3 ∙ asks_e in
          let from_same : f.1 ≡ from = cc in
          let to_same : f.2 ≡ to = cc in
          let some : Some (update_of name number call) ≡ Some x = sym (ap (λ t. cond t (Some (update_of name number call)) None) e) ∙ is in
          let entry_same : update_of name number call ≡ x = cc in
          record { later = sym (ap version_of to_same) ∙ f.4 ∙ ap (λ n. version_of n + 1) from_same; own = sym (ap (λ y. y.worker) entry_same) }
      by_test false e = absurd (no_some x (sym (ap (λ t. cond t (Some (update_of name number call)) None) e) ∙ is))

  not_ahead : (v w : ℕ) → (v == w + 1) ≡ true → v ≡ w → ⊥
  not_ahead v w is e = let k : v ≡ w + 1 = eqb-true v (w + 1) is in omega arith

  pub fresh_for : (M : Moment Op) (a b : List (Worker Op)) (u : Worker Op) (e : Event) (front back : List (Player (Worker Op))) (p : Player (Worker Op)) →
      M.progress.waiting ≡ fin.from_entries {R = nat_cmp} (waiting_of (front ++ p ∷ back)) → AreApart (waiting_of (front ++ p ∷ back)) →
      AllByRecursion (λ w. w.1.worker ≡ u.name) (pairs_waiting p.waiting) → asked_by meaning u ≡ Some e → meaning.holds (with_workers M (a ++ u ∷ b)) →
      IsFreshFor M.state e (effect_by meaning u) (front ++ p ∷ back) p
  fresh_for M a b u e front back p waits_is once own asks_e h word from to x is won effect =
      (none_found word (waiting_of (front ++ p ∷ back)) (sym (get_made (waiting_of (front ++ p ∷ back)) word) ∙ none_made), none_own p.waiting refl)
    where
      says : TakesEffect u.name from to x
      says = effect_says M a b u.name u.number u.doing word from to x effect (asks_e ∙ ap Some is) h

      within : word < words_of meaning.layout
      within = subst (λ n. word < n) (l.sized (with_workers M (a ++ u ∷ b)) h).words (l.allowed M a u b (Exchange word from to) (asks_e ∙ ap Some is) h)

      ahead_not : (y : Entry) → fin.get M.progress.waiting word ≡ Some y → ⊥
      ahead_not y w =
          let ahead = (l.waits (with_workers M (a ++ u ∷ b)) word y h w).0.ahead in
          ⊎_elim
          (λ bare. not_self (version_of from) (version_of to) says.later
          (sym (version-bare to) ∙ ap version_of (sym (ap bare_of after_word) ∙ bare) ∙ version-bare (word_at M.state word) ∙ ap version_of won))
          (λ bare. not_ahead (version_of (word_at M.state word)) (version_of (shadow_at M.state word)) ahead (sym (version-bare (word_at M.state word))
          ∙ ap version_of bare))
          (l.replaces M a u b (Exchange word from to) word (asks_e ∙ ap Some is) h within)
        where
          not_self : (v w : ℕ) → w ≡ v + 1 → w ≡ v → ⊥
          not_self v w e f = omega arith

          lt : word < length M.state.words
          lt = l.allowed M a u b (Exchange word from to) (asks_e ∙ ap Some is) h

          after_word : word_at (after M.state (Exchange word from to)) word ≡ to
          after_word = ap (λ t. word_at (cond t (with_word M.state word to) M.state) word) (eq-eqb (word_at M.state word) from won)
              ∙ get_or-set_same M.state.words word to 0 lt

      by_entry : (o : Option Entry) → fin.get M.progress.waiting word ≡ o → o ≡ None
      by_entry None w = refl
      by_entry (Some y) w = absurd (ahead_not y w)

      none_there : fin.get M.progress.waiting word ≡ None
      none_there = by_entry (fin.get M.progress.waiting word) refl

      none_made : fin.get (fin.from_entries {R = nat_cmp} (waiting_of (front ++ p ∷ back))) word ≡ None
      none_made = ap (λ w. fin.get w word) (sym waits_is) ∙ none_there

      later_waiting : (moment_after meaning M e a u b).progress.waiting ≡ fin.insert M.progress.waiting word x
      later_waiting =
          ap (λ y. (progress_after M.progress M.state y (effect_by meaning u)).waiting) is
          ∙ ap (λ o. (progress_after M.progress M.state (Exchange word from to) o).waiting) effect
          ∙ ap (λ t. (cond t (record M.progress { waiting = fin.insert M.progress.waiting word x }) M.progress).waiting)
          (eq-eqb (word_at M.state word) from won)

      none_own : (o : Option Waiting) → p.waiting ≡ o → p.waiting ≡ None
      none_own None w = w
      none_own (Some v) w = absurd (apart (one_each meaning l (moment_after meaning M e a u b) held word v.word x v.entry here there (says.own ∙ sym named)))
        where
          held : meaning.holds (moment_after meaning M e a u b)
          held = makes meaning l M a u b e asks_e h

          got : fin.get M.progress.waiting v.word ≡ Some v.entry
          got =
              ap (λ y. fin.get y v.word) waits_is ∙ get_made (waiting_of (front ++ p ∷ back)) v.word
              ∙ ap (λ y. find nat_cmp v.word y) (waiting_with front back p ∙ ap (λ o. waiting_of front ++ (pairs_waiting o ++ waiting_of back)) w)
              ∙ find_skip v.word (waiting_of front) ((v.word, v.entry) ∷ waiting_of back)
              (once_here (waiting_of front) (waiting_of back) (v.word, v.entry)
              (subst AreApart (waiting_with front back p ∙ ap (λ o. waiting_of front ++ (pairs_waiting o ++ waiting_of back)) w) once)).0
              ∙ find_here v.word v.word v.entry (waiting_of back) refl

          apart : word ≡ v.word → ⊥
          apart e = no_some v.entry (sym none_there ∙ ap (λ n. fin.get M.progress.waiting n) e ∙ got)

          here : fin.get (moment_after meaning M e a u b).progress.waiting word ≡ Some x
          here = ap (λ y. fin.get y word) later_waiting ∙ get_put M.progress.waiting word x word
              ∙ ap (λ t. cond t (Some x) (fin.get M.progress.waiting word)) (eq-eqb word word refl)

          there : fin.get (moment_after meaning M e a u b).progress.waiting v.word ≡ Some v.entry
          there = ap (λ y. fin.get y v.word) later_waiting ∙ get_put M.progress.waiting word x v.word ∙ by_test (eqb v.word word) refl
            where
              by_test : (t : Bool) → eqb v.word word ≡ t → cond t (Some x) (fin.get M.progress.waiting v.word) ≡ Some v.entry
              by_test true e = absurd (apart (sym (eqb-true v.word word e)))
              by_test false e = got

          named : v.entry.worker ≡ u.name
          named = (subst (λ o. AllByRecursion (λ y. y.1.worker ≡ u.name) (pairs_waiting o)) w own).0
