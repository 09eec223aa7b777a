-- A worker's count along turns, and what is so of it at their end.
use Rattle.std.proofs.Common.{◌≡◌, ◌≢◌, ℕ, ◌+◌, ◌-◌, ◌==◌, eqb, Bool, true, false, cond, List, [], ◌∷◌, ◌++◌, length, refl, sym, ◌∙◌, ap, subst, arith, Some, slice_get}
use Rattle.std.proofs.lemmas.Bool.{eqb-true, eq-eqb, false≢true}
use Rattle.flit_model.specs.declared.calls.Work.{Work}
use Rattle.flit_model.specs.declared.found.Recovered.{Recovered}
use Rattle.flit_pv.specs.Hands.{no_tally}
use Rattle.flit_structure.specs.Meanings.{Meaning}
use Rattle.flit_structure.specs.Lawful.{Lawful, IsBelowTop}
use Rattle.flit_sched.specs.declared.runs.Turn.{Turn}
use Rattle.flit_sched.specs.declared.runs.Turn.TheVariants.{Event as Event_turn, Idle as Idle_turn}
use Rattle.flit_sched.specs.Runs.{Part, Run, moment_of}
use Rattle.flit_sched.specs.Openings.{first_part, first_parts, opened_run}
use Rattle.flit_sched.specs.Turns.{IsTurn, tally_in}
use Rattle.flit_histories.specs.Following.{Given, Follows}
use Rattle.flit_sched.specs.Views.{OfWorker}
use Rattle.flit_histories.specs.Reached.{IsStart}
use Rattle.flit_histories.specs.Counts.{Count, no_count, count_in, count_made, count_turned, Counts, IsWithinBounds}
use Rattle.flit_histories.proofs.PartLists.{AllFrom, all_from_at}
use Rattle.flit_histories.proofs.TurnedRuns.{turned_is, makes}
use Rattle.flit_histories.proofs.FirstRuns.{opened_sound}
use Rattle.flit_histories.proofs.Licences.{HasLicence, IsLicensed, alike_bounded, none_tried, within_bounds, licence_own, licence_other}

get_between : {X : Type 0} (a b : List X) (x : X) → slice_get (a ++ x ∷ b) (length a) ≡ Some x
get_between [] b x = refl
get_between (y ∷ a) b x = get_between a b x

module _ {Op : Type 0} (meaning : Meaning Op) where
  pub counts_follow : (w : ℕ) (r : Run Op) (c : Count) (ts : List Given) (next : Run Op) (d : Count) → Counts meaning w r c ts next d → Follows meaning r ts next
  counts_follow w r c [] next d h = h.0
  counts_follow w r c (t ∷ ts) next d h =
      (h.0, h.1, counts_follow w h.0 (cond (t.worker == w) (count_turned meaning w r t.turn c) c) ts next d h.2)

  pub follows_counts : (w : ℕ) (r : Run Op) (c : Count) (ts : List Given) (next : Run Op) → Follows meaning r ts next → (d : Count) × Counts meaning w r c ts next d
  follows_counts w r c [] next h = (c, (h, refl))
  follows_counts w r c (t ∷ ts) next h =
      let k = follows_counts w h.0 (cond (t.worker == w) (count_turned meaning w r t.turn c) c) ts next h.2 in
      (k.0, (h.0, h.1, k.1))

  module _ (l : Lawful meaning) where
    -- the worker's own turn
    own_turn : (w : ℕ) (r next : Run Op) (t : Turn) (c : Count) → IsTurn meaning r w t next → HasLicence meaning w c r →
        HasLicence meaning w (count_turned meaning w r t c) next
    own_turn w r next Idle_turn c is h = subst (HasLicence meaning w c) (sym is.same) h
    own_turn w r next (Event_turn e told) c is h =
        let at : w - 1 ≡ length is.before = (let n = is.is.number in omega (arith, n)) in
        let got : slice_get r.parts (w - 1) ≡ Some is.part = ap (slice_get r.parts) at ∙ ap (λ ps. slice_get ps (length is.before)) is.is.is
        ∙ get_between is.before is.behind is.part in
        subst (λ o. HasLicence meaning w (count_in meaning r e o c) next) (sym got)
        (subst (HasLicence meaning w (count_made meaning r e is.part c)) (sym (turned_is meaning r next w e told is))
        (licence_own meaning l r is.before is.part is.behind e is.reads (makes meaning r next w e told is) h.sound w
        (let n = is.is.number in omega (arith, n)) c (h.licence is.before is.part is.behind is.is)))

    other_turn : (w v : ℕ) (r next : Run Op) (t : Turn) (c : Count) → w ≢ v → IsTurn meaning r v t next → HasLicence meaning w c r → HasLicence meaning w c next
    other_turn w v r next Idle_turn c ne is h = subst (HasLicence meaning w c) (sym is.same) h
    other_turn w v r next (Event_turn e told) c ne is h =
        subst (HasLicence meaning w c) (sym (turned_is meaning r next v e told is))
        (licence_other meaning l r is.before is.part is.behind e is.reads (makes meaning r next v e told is) h.sound w
        (λ same. ne (let n = is.is.number in omega (arith, n, same))) c h.licence)

    licence_counts : (w : ℕ) (r : Run Op) (c : Count) (ts : List Given) (next : Run Op) (d : Count) → Counts meaning w r c ts next d → HasLicence meaning w c r →
        HasLicence meaning w d next
    licence_counts w r c [] next d h k = subst (λ x. HasLicence meaning w x next) (sym h.1) (subst (HasLicence meaning w c) (sym h.0) k)
    licence_counts w r c (t ∷ ts) next d h k =
        licence_counts w h.0 (cond (t.worker == w) (count_turned meaning w r t.turn c) c) ts next d h.2 (by_test (eqb t.worker w) refl)
      where
        by_test : (b : Bool) → eqb t.worker w ≡ b → HasLicence meaning w (cond b (count_turned meaning w r t.turn c) c) h.0
        by_test true is = own_turn w r h.0 t.turn c (subst (λ v. IsTurn meaning r v t.turn h.0) (eqb-true t.worker w is) h.1) k
        by_test false is = other_turn w t.worker r h.0 t.turn c (λ same. false≢true (sym is ∙ eq-eqb t.worker w (sym same))) h.1 k

    pub all_first : (P : ℕ → Part Op → Type 0) → ((n : ℕ) (w : Work) → P n (first_part n w)) → (n : ℕ) (ws : List Work) → AllFrom P n (first_parts n ws)
    all_first P f n [] = tt
    all_first P f n (w ∷ ws) = (f n w, all_first P f (n + 1) ws)

    first_licence : (start : Recovered) (works : List Work) (w : ℕ) → IsStart meaning start works → HasLicence meaning w no_count (opened_run meaning start works)
    first_licence start works w h =
        let K = opened_sound meaning l start works h in
        record {
          sound = K;
          licence = λ a p b is.
              all_from_at (λ n x. IsLicensed meaning (moment_of (opened_run meaning start works) K.words K.free) no_count x.worker.doing) 1 a b p
              (subst (AllFrom (λ n x. IsLicensed meaning (moment_of (opened_run meaning start works) K.words K.free) no_count x.worker.doing) 1) is.is
              (all_first (λ n x. IsLicensed meaning (moment_of (opened_run meaning start works) K.words K.free) no_count x.worker.doing)
              (λ n x low. (alike_bounded meaning.layout.kind no_tally no_tally (record { tries = refl; failed = refl; helped = refl }), none_tried meaning.bound))
              1 works));
        }

    pub bounds_counted : (start : Recovered) (works : List Work) (ts : List Given) (r : Run Op) (w : ℕ) (c : Count) → IsStart meaning start works →
        Counts meaning w (opened_run meaning start works) no_count ts r c →
        OfWorker r w (λ p. IsBelowTop (tally_in meaning p.worker.doing) → IsWithinBounds meaning c p.worker.doing)
    bounds_counted start works ts r w c h counts a p b is low =
        let k = licence_counts w (opened_run meaning start works) no_count ts r c counts (first_licence start works w h) in
        within_bounds meaning l (moment_of r k.sound.words k.sound.free) c p.worker.doing (k.licence a p b is) low
