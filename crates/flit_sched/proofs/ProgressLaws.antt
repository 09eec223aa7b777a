-- The progress of a run, as its players keep it, moves by the model's rule.
use Rattle.std.proofs.Common.{◌≡◌, ◌≢◌, ◌⊎◌, inl, inr, ℕ, ◌==◌, eqb, nat_lt, Bool, true, false, cond, List, [], ◌∷◌, ◌++◌, refl, sym, ◌∙◌, ap, subst, Option, Some, None}
use Rattle.std.proofs.lemmas.Bool.{false≢true, eqb-true, eq-eqb}
use Rattle.std.specs.Ordering.{nat_cmp}
use Rattle.std.specs.FinMap as fin
use Rattle.std.specs.FinMap.{find}
use Rattle.flit_model.specs.States.{State, word_at, shadow_at}
use Rattle.flit_model.specs.Effects.{answer}
use Rattle.flit_model.specs.Settling.{Progress, progress_after, settles}
use Rattle.flit_model.specs.declared.calls.Entry.{Entry}
use Rattle.flit_model.specs.declared.events.Event.{Event}
use Rattle.flit_model.specs.declared.events.Event.TheVariants.{Load, ReadTag, Raise, Lower, Exchange, Persist, Store, Draw}
use Rattle.flit_structure.proofs.Names.{all_both}
use Rattle.flit_sched.specs.declared.players.Player.{Player}
use Rattle.flit_sched.specs.Kept.{waiting_of, pairs_waiting, progress_of, AreApart}
use Rattle.flit_sched.specs.Settled.{Settles, nothing_raised, nothing_waits, one_settles, StaysSettled, NoneAt, waits_after, raised}
use Rattle.flit_sched.proofs.WaitingLaws.{no_some, NoneIn, find_none, find_skip, find_here, find_other, get_made, comes, goes, waiting_joined, once_here, once_without, once_with}

here_or_not : (q w : ℕ) → (q ≡ w) ⊎ (q ≢ w)
here_or_not q w = by_test (eqb q w) refl
  where
    by_test : (b : Bool) → eqb q w ≡ b → (q ≡ w) ⊎ (q ≢ w)
    by_test true is = inl (eqb-true q w is)
    by_test false is = inr (λ e. false≢true (sym is ∙ eq-eqb q w e))

-- a word at which nothing is found has nothing
not_first : (q : ℕ) (w : ℕ × Entry) (ws : List (ℕ × Entry)) → find nat_cmp q (w ∷ ws) ≡ None → q ≢ w.0
not_first q w ws h e = no_some w.1 (sym h ∙ find_here q w.0 w.1 ws e)

pub none_found : (q : ℕ) (ws : List (ℕ × Entry)) → find nat_cmp q ws ≡ None → NoneIn q ws
none_found q [] h = tt
none_found q (w ∷ ws) h =
    let apart : q ≢ w.0 = not_first q w ws h in
    ((λ e. apart (sym e)), none_found q ws (sym (find_other q w.0 w.1 [] ws apart) ∙ h))

-- what settles
abbrev pub settles_raised : Progress → Option ℕ → Progress
settles_raised p None = p
settles_raised p (Some word) = settles p word (fin.get p.waiting word)

module _ {W : Type 0} where
  pub none_at : (word : ℕ) (ps : List (Player W)) → NoneAt word ps → NoneIn word (waiting_of ps)
  none_at word [] h = tt
  none_at word (p ∷ ps) h = all_both (λ v. v.0 ≢ word) (pairs_waiting p.waiting) (waiting_of ps) h.0 (none_at word ps h.1)

  pub waiting_with : (a b : List (Player W)) (p : Player W) → waiting_of (a ++ p ∷ b) ≡ waiting_of a ++ (pairs_waiting p.waiting ++ waiting_of b)
  waiting_with a b p = waiting_joined a (p ∷ b)

  stays : (settled grown : List Entry) (players later : List (Player W)) (values changed : List (Option ℕ)) →
      StaysSettled players settled values later grown changed → progress_of grown later ≡ progress_of settled players
  stays settled grown players later values changed h = ap (λ g. progress_of g later) h.settled_same ∙ ap (λ ps. progress_of settled ps) h.players_same

  pub settled_progress : (keys : List ℕ) (r : Option ℕ) (players : List (Player W)) (settled : List Entry) (values : List (Option ℕ)) (later : List (Player W))
      (grown : List Entry) (changed : List (Option ℕ)) →
      AreApart (waiting_of players) → Settles keys r players settled values later grown changed →
      progress_of grown later ≡ settles_raised (progress_of settled players) r
  settled_progress keys r players settled values later grown changed once (nothing_raised e h) =
      stays settled grown players later values changed h ∙ sym (ap (λ o. settles_raised (progress_of settled players) o) e)
  settled_progress keys r players settled values later grown changed once (nothing_waits word e none h) =
      stays settled grown players later values changed h
      ∙ sym (ap (λ o. settles_raised (progress_of settled players) o) e ∙ ap (λ o. settles (progress_of settled players) word o)
      (get_made (waiting_of players) word ∙ find_none word (waiting_of players) (none_at word players none)))
  settled_progress keys r players settled values later grown changed once (one_settles word e h) =
      ap (λ g. progress_of g later) h.grows
      ∙ ap (λ w. record { settled = settled ++ h.entry ∷ []; waiting = w }) now_waiting
      ∙ sym (ap (λ o. settles_raised (progress_of settled players) o) e ∙ ap (λ o. settles (progress_of settled players) word o)
      (get_made (waiting_of players) word ∙ found))
    where
      before_pairs : waiting_of players ≡ waiting_of h.before ++ (word, h.entry) ∷ waiting_of h.behind
      before_pairs = ap waiting_of h.is ∙ waiting_with h.before h.behind h.player
          ∙ ap (λ o. waiting_of h.before ++ (pairs_waiting o ++ waiting_of h.behind)) h.waits

      later_pairs : waiting_of later ≡ waiting_of h.before ++ waiting_of h.behind
      later_pairs = ap waiting_of h.becomes ∙ waiting_with h.before h.behind (record h.player { waiting = None })

      found : find nat_cmp word (waiting_of players) ≡ Some h.entry
      found = ap (λ ws. find nat_cmp word ws) before_pairs ∙ find_skip word (waiting_of h.before) ((word, h.entry) ∷ waiting_of h.behind)
          (none_at word h.before h.first) ∙ find_here word word h.entry (waiting_of h.behind) refl

      alone : NoneIn word (waiting_of h.before) × NoneIn word (waiting_of h.behind)
      alone = once_here (waiting_of h.before) (waiting_of h.behind) (word, h.entry) (subst AreApart before_pairs once)

      now_waiting : fin.from_entries {R = nat_cmp} (waiting_of later) ≡ fin.remove (fin.from_entries {R = nat_cmp} (waiting_of players)) word
      now_waiting =
          ap (λ ws. fin.from_entries {R = nat_cmp} ws) later_pairs
          ∙ goes word h.entry (waiting_of h.before) (waiting_of h.behind) alone.0 alone.1
          ∙ ap (λ ws. fin.remove (fin.from_entries {R = nat_cmp} ws) word) (sym before_pairs)

  pub settled_once : (keys : List ℕ) (r : Option ℕ) (players : List (Player W)) (settled : List Entry) (values : List (Option ℕ)) (later : List (Player W))
      (grown : List Entry) (changed : List (Option ℕ)) →
      AreApart (waiting_of players) → Settles keys r players settled values later grown changed → AreApart (waiting_of later)
  settled_once keys r players settled values later grown changed once (nothing_raised e h) = subst (λ ps. AreApart (waiting_of ps)) (sym h.players_same) once
  settled_once keys r players settled values later grown changed once (nothing_waits word e none h) =
      subst (λ ps. AreApart (waiting_of ps)) (sym h.players_same) once
  settled_once keys r players settled values later grown changed once (one_settles word e h) =
      subst AreApart (sym (ap waiting_of h.becomes ∙ waiting_with h.before h.behind (record h.player { waiting = None })))
      (once_without (waiting_of h.before) (waiting_of h.behind) (word, h.entry)
      (subst AreApart (ap waiting_of h.is ∙ waiting_with h.before h.behind h.player
      ∙ ap (λ o. waiting_of h.before ++ (pairs_waiting o ++ waiting_of h.behind)) h.waits) once))

  -- where an Exchange takes effect, nothing waits at its word yet, and nothing of its worker
  abbrev pub IsFreshFor : State → Event → Option Entry → List (Player W) → Player W → Type 0
  IsFreshFor m e effect players p = (word from to : ℕ) (x : Entry) → e ≡ Exchange word from to → word_at m word ≡ from → effect ≡ Some x →
      NoneIn word (waiting_of players) × (p.waiting ≡ None)

  -- what has waited after the event, and the progress with it
  pub record Waited (m : State) (e : Event) (effect : Option Entry) (settled : List Entry) (players later : List (Player W)) : Type 0 where
    pub once : AreApart (waiting_of later)
    pub progress : settles_raised (progress_of settled later) (raised e (answer m e)) ≡ progress_after (progress_of settled players) m e effect

  pub same_waits : (a b : List (Player W)) (p q : Player W) → q.waiting ≡ p.waiting → waiting_of (a ++ q ∷ b) ≡ waiting_of (a ++ p ∷ b)
  same_waits a b p q e = waiting_with a b q ∙ ap (λ o. waiting_of a ++ (pairs_waiting o ++ waiting_of b)) e ∙ sym (waiting_with a b p)

  pub same_progress : (settled : List Entry) (a b : List (Player W)) (p q : Player W) → q.waiting ≡ p.waiting →
      progress_of settled (a ++ q ∷ b) ≡ progress_of settled (a ++ p ∷ b)
  same_progress settled a b p q e = ap (λ ws. record { settled = settled; waiting = fin.from_entries {R = nat_cmp} ws }) (same_waits a b p q e)

  -- an entry that comes
  comes_waiting : (word : ℕ) (x : Entry) (a b : List (Player W)) (p q : Player W) → p.waiting ≡ None → q.waiting ≡ Some (record { word = word; entry = x }) →
      NoneIn word (waiting_of (a ++ p ∷ b)) →
      AreApart (waiting_of (a ++ p ∷ b)) →
      AreApart (waiting_of (a ++ q ∷ b)) × (fin.from_entries {R = nat_cmp} (waiting_of (a ++ q ∷ b)) ≡ fin.insert
      (fin.from_entries {R = nat_cmp} (waiting_of (a ++ p ∷ b))) word x)
  comes_waiting word x a b p q none some fresh once = (
    subst AreApart (sym after_pairs) (once_with (waiting_of a) (waiting_of b) (word, x) apart.0 apart.1 (subst AreApart before_pairs once)),
    ap (λ ws. fin.from_entries {R = nat_cmp} ws) after_pairs ∙ comes word x (waiting_of a) (waiting_of b) apart.0
        ∙ ap (λ ws. fin.insert (fin.from_entries {R = nat_cmp} ws) word x) (sym before_pairs),
  )
    where
      before_pairs : waiting_of (a ++ p ∷ b) ≡ waiting_of a ++ waiting_of b
      before_pairs = waiting_with a b p ∙ ap (λ o. waiting_of a ++ (pairs_waiting o ++ waiting_of b)) none

      after_pairs : waiting_of (a ++ q ∷ b) ≡ waiting_of a ++ (word, x) ∷ waiting_of b
      after_pairs = waiting_with a b q ∙ ap (λ o. waiting_of a ++ (pairs_waiting o ++ waiting_of b)) some

      split : (vs ws : List (ℕ × Entry)) → NoneIn word (vs ++ ws) → NoneIn word vs × NoneIn word ws
      split [] ws h = (tt, h)
      split (v ∷ vs) ws h = let r = split vs ws h.1 in ((h.0, r.0), r.1)

      apart : NoneIn word (waiting_of a) × NoneIn word (waiting_of b)
      apart = split (waiting_of a) (waiting_of b) (subst (NoneIn word) before_pairs fresh)

  pub waited : (m : State) (e : Event) (effect : Option Entry) (settled : List Entry) (a b : List (Player W)) (p q : Player W) →
      q.waiting ≡ waits_after e (answer m e) effect p.waiting → AreApart (waiting_of (a ++ p ∷ b)) → IsFreshFor m e effect (a ++ p ∷ b) p →
      Waited m e effect settled (a ++ p ∷ b) (a ++ q ∷ b)
  waited m (Load word) effect settled a b p q e once fresh = record {
    once = subst AreApart (sym (same_waits a b p q e)) once;
    progress =
        same_progress settled a b p q e;
  }
  waited m (ReadTag word) effect settled a b p q e once fresh = record {
    once = subst AreApart (sym (same_waits a b p q e)) once;
    progress =
        same_progress settled a b p q e;
  }
  waited m (Raise word) effect settled a b p q e once fresh = record {
    once = subst AreApart (sym (same_waits a b p q e)) once;
    progress =
        same_progress settled a b p q e;
  }
  waited m (Lower word) effect settled a b p q e once fresh = record {
    once = subst AreApart (sym (same_waits a b p q e)) once;
    progress =
        same_progress settled a b p q e;
  }
  waited m (Store word to) effect settled a b p q e once fresh = record {
    once = subst AreApart (sym (same_waits a b p q e)) once;
    progress =
        same_progress settled a b p q e;
  }
  waited m Draw effect settled a b p q e once fresh = record {
    once = subst AreApart (sym (same_waits a b p q e)) once;
    progress =
        same_progress settled a b p q e;
  }
  waited m (Persist word kept) effect settled a b p q e once fresh = record {
    once = subst AreApart (sym (same_waits a b p q e)) once;
    progress = by_test (nat_lt (shadow_at m word) kept);
  }
    where
      by_test : (t : Bool) → settles_raised (progress_of settled (a ++ q ∷ b)) (cond t (Some word) None)
          ≡ cond t (settles (progress_of settled (a ++ p ∷ b)) word (fin.get (progress_of settled (a ++ p ∷ b)).waiting word))
          (progress_of settled (a ++ p ∷ b))
      by_test true = ap (λ x. settles x word (fin.get x.waiting word)) (same_progress settled a b p q e)
      by_test false = same_progress settled a b p q e
  waited m (Exchange word from to) None settled a b p q e once fresh = record {
    once = subst AreApart (sym (same_waits a b p q e)) once;
    progress = same_progress settled a b p q e ∙ by_test (word_at m word == from);
  }
    where
      by_test : (t : Bool) → progress_of settled (a ++ p ∷ b) ≡ cond t (progress_of settled (a ++ p ∷ b)) (progress_of settled (a ++ p ∷ b))
      by_test true = refl
      by_test false = refl
  waited m (Exchange word from to) (Some x) settled a b p q e once fresh = by_test (word_at m word == from) refl
    where
      by_test : (t : Bool) → (word_at m word == from) ≡ t → Waited m (Exchange word from to) (Some x) settled (a ++ p ∷ b) (a ++ q ∷ b)
      by_test true is =
          let f = fresh word from to x refl (eqb-true (word_at m word) from is) refl in
          let c = comes_waiting word x a b p q f.1 (e ∙ ap (λ t. cond t (Some (record { word = word; entry = x })) p.waiting) is) f.0 once in
          record {
            once = c.0;
            progress = ap (λ w. record { settled = settled; waiting = w }) c.1
                ∙ sym (ap (λ t. cond t (record { settled = settled; waiting = fin.insert (fin.from_entries {R = nat_cmp} (waiting_of (a ++ p ∷ b))) word x })
                (progress_of settled (a ++ p ∷ b))) is);
          }
      by_test false is =
          let same : q.waiting ≡ p.waiting = e ∙ ap (λ t. cond t (Some (record { word = word; entry = x })) p.waiting) is in
          record {
            once = subst AreApart (sym (same_waits a b p q same)) once;
            progress = same_progress settled a b p q same
                ∙ sym (ap (λ t. cond t (record { settled = settled; waiting = fin.insert (fin.from_entries {R = nat_cmp} (waiting_of (a ++ p ∷ b))) word x })
                (progress_of settled (a ++ p ∷ b))) is);
          }
