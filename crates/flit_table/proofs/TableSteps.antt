-- The steps on the table, as the table asks for them.
use Rattle.std.proofs.Common.{◌≡◌, ⊎_elim, ℕ, ◌<◌, List, [], ◌∷◌, ◌++◌, get_or, set, refl, sym, ◌∙◌, ap, subst, Option, Some, append_assoc}
use mathlib.Core.Option as maybe
use lib.ListN.{get_elem?}
use Rattle.atomic_table.specs.Table as table
use Rattle.atomic_table.proofs.Lists.{set_again, set_else}
use Rattle.flit_model.specs.States.{state_from}
use Rattle.flit_model.specs.declared.events.Event.{Event}
use Rattle.flit_structure.specs.Meanings.{Meaning, asked_by}
use Rattle.flit_structure.specs.Lawful.{Lawful}
use Rattle.flit_table.specs.declared.views.Origin.{Origin}
use Rattle.flit_table.specs.declared.views.Start.{Start}
use Rattle.flit_table.specs.declared.views.View.{View}
use Rattle.flit_table.specs.Views.{opening_of, keeper, heir, both, spent}
use Rattle.flit_table.specs.Moves.{MayEnter, entering}
use Rattle.flit_table.specs.Rule.{laid_out, Kept, IsRuled, first_view}
use Rattle.flit_table.specs.Places.{place_in}
use Rattle.flit_table.specs.Steps.{After, Stepped, carried, carrying, Learns}
use Rattle.flit_table.proofs.Beginning.{begins_kept}
use Rattle.flit_table.proofs.Opening.{opens_kept}
use Rattle.flit_table.proofs.Splitting.{splits_kept}
use Rattle.flit_table.proofs.Joining.{joins_behind, joins_before}
use Rattle.flit_table.proofs.Saying as saying
use Rattle.flit_table.proofs.Rows.{turns, told_of}
use Rattle.flit_table.proofs.Spots.{Spot, spot, InOrder, InOtherOrder, two_spots}
use Rattle.flit_table.proofs.Making as making

same_event : (o : Option Event) (d e : Event) → o ≡ Some d → o ≡ Some e → d ≡ e
same_event o d e p q = cc

module _ {S Op : Type 0} (meanings : S → Meaning Op) (lawful : (s : S) → Lawful (meanings s)) (o : Origin S) where
  abbrev meaning : Meaning Op
  meaning = meanings o.structure.value

  abbrev laws : Lawful meaning
  laws = lawful o.structure.value

  same_origin : (x : Option (Origin S)) (p : Origin S) → x ≡ Some o → x ≡ Some p → o ≡ p
  same_origin x p e f = cc

  pub tells_after : (v : View S Op) (start : Start) (e : Event) (told : ℕ) (w : View S Op) → v.origin ≡ Some o →
      asked_by meaning (entering meaning start v).post.worker ≡ Some e →
      Stepped meaning o (entering meaning start v) e told w → (p : Origin S) → v.origin ≡ Some p →
      After (meanings p.structure.value) p (entering (meanings p.structure.value) start v) told w
  tells_after v start e told w origin asked st p q =
      subst (λ r. After (meanings r.structure.value) r (entering (meanings r.structure.value) start v) told w) (same_origin v.origin p origin q)
      (λ d asks. subst (λ z. Stepped meaning o (entering meaning start v) z told w)
      (same_event (asked_by meaning (entering meaning start v).post.worker) e d asked asks) st)

  pub allows : (slots id : ℕ) (v : View S Op) (cs : List (ℕ × ℕ)) (start : Start) (e : Event) → v.origin ≡ Some o → 0 < v.names →
      MayEnter meaning start v.post →
      asked_by meaning (entering meaning start v).post.worker ≡ Some e →
      table.Allows (IsRuled meaning o) slots id (v, cs) (place_in meaning.layout e) (turns e)
      (λ n me. ((p : Origin S) → v.origin ≡ Some p → After (meanings p.structure.value) p (entering (meanings p.structure.value) start v) (told_of e n) me.0)
      × (me.1 ≡ cs))
  allows slots id v cs start e origin some may asked t ruled _ at small =
      let r = making.makes meaning laws o t id v start e ruled at some may asked small in
      let n = told_of e (get_or t.words (place_in meaning.layout e) 0) in
      (r.view, table.keeps, tt, r.ruled, (tells_after v start e n r.view origin asked r.tells, refl))

  pub opens : meaning.opens (opening_of o) → (words : List ℕ) → words ≡ 0 ∷ laid_out (state_from meaning.layout (opening_of o).words) →
      IsRuled meaning o (table.opening words [] (first_view meaning o))
  opens may words laid = record { state = state_from meaning.layout (opening_of o).words; log = []; laid = laid; kept = opens_kept meaning laws o may }

  pub splits : (id give : ℕ) (v : View S Op) → 0 < give → give < v.names → table.Splits (IsRuled meaning o) id v (keeper give v) (heir give v)
  splits id give v some less t ruled at =
      let sp : Spot t.views id v = spot t.views id v at in
      let k : Kept meaning o ruled.state ruled.log (sp.front ++ v ∷ sp.back) = subst (Kept meaning o ruled.state ruled.log) sp.is ruled.kept in
      record {
        state = ruled.state;
        log = ruled.log;
        laid = ruled.laid;
        kept = subst (λ vs. Kept meaning o ruled.state ruled.log (vs ++ heir give v ∷ [])) (sym (sp.put (keeper give v)))
            (splits_kept meaning laws o ruled.state ruled.log sp.front sp.back v give some less k);
      }

  -- the other view is where it was before the first was changed
  other_there : (vs : List (View S Op)) (id other : ℕ) (v w x : View S Op) → ¬ (other ≡ id) → get_elem? (set vs id x) other ≡ maybe.some w →
      get_elem? vs other ≡ maybe.some w
  other_there vs id other v w x apart e = sym (set_else vs id other x apart) ∙ e

  carried_is : (start : Start) (w : View S Op) → w.origin ≡ Some o → entering meaning start w ≡ carried meanings start w
  carried_is start w e = ap (λ (x : Option (Origin S)). carrying meanings x start w) (sym e)

  pub joins : (id other : ℕ) (v w : View S Op) (start : Start) → 0 < v.names → 0 < w.names → w.origin ≡ Some o → MayEnter meaning start w.post →
      table.Joins (IsRuled meaning o) id v other w (both v (carried meanings start w)) spent
  joins id other v w start some others origin may t ruled at apart at_other =
      let m = ruled.state in
      let log = ruled.log in
      let w1 = entering meaning start w in
      let P : List (View S Op) → Type 0 = Kept meaning o m log in
      let kept : P (set (set t.views id (both v w1)) other spent) = ⊎_elim
      (λ (r : InOrder t.views id other v w).
      let k : P ((r.front ++ v ∷ r.middle) ++ w ∷ r.back) = subst P (r.is ∙ sym (append_assoc r.front (v ∷ r.middle) (w ∷ r.back))) ruled.kept in
      let k1 : P (r.front ++ v ∷ (r.middle ++ w1 ∷ r.back)) = subst P (append_assoc r.front (v ∷ r.middle) (w1 ∷ r.back))
      (begins_kept meaning laws o m log start (r.front ++ v ∷ r.middle) r.back w others may k) in
      subst P (sym (r.put (both v w1) spent)) (joins_behind meaning laws o m log r.front r.middle r.back v w1 some (entering_names w start others) k1))
      (λ (r : InOtherOrder t.views id other v w).
      let k : P (r.front ++ w ∷ (r.middle ++ v ∷ r.back)) = subst P r.is ruled.kept in
      let k1 : P (r.front ++ w1 ∷ (r.middle ++ v ∷ r.back)) = begins_kept meaning laws o m log start r.front (r.middle ++ v ∷ r.back) w others may k in
      subst P (sym (r.put (both v w1) spent)) (joins_before meaning laws o m log r.front r.middle r.back v w1 some (entering_names w start others) k1))
      (two_spots t.views id other v w at (other_there t.views id other v w (both v (carried meanings start w)) apart at_other) apart) in
      record {
        state = m;
        log = log;
        laid = ruled.laid;
        kept = subst (λ z. P (set (set t.views id (both v z)) other spent)) (carried_is start w origin) kept;
      }
    where
      entering_names : (w : View S Op) (start : Start) → 0 < w.names → 0 < (entering meaning start w).names
      entering_names w start h = h

  -- the last load of a join
  pub learns : (slots id : ℕ) (v : View S Op) (cs : List (ℕ × ℕ)) (st : table.Step ℕ) →
      table.Allows (IsRuled meaning o) slots id (v, cs) 0 (λ n. n) (Learns st (v, cs))
  learns slots id v cs st t ruled _ at _ =
      let same : t.words ≡ set t.words 0 (get_or t.words 0 0) = ruled.laid ∙ ap (λ (y : List ℕ). set y 0 (get_or y 0 0)) (sym ruled.laid) in
      let views : t.views ≡ set t.views id v = sym (set_again t.views id v at) in
      let sp : Spot t.views id v = spot t.views id v at in
      let k : Kept meaning o ruled.state ruled.log (sp.front ++ v ∷ sp.back) = subst (Kept meaning o ruled.state ruled.log) sp.is ruled.kept in (
        v,
        table.keeps,
        tt,
        subst (λ (z : List ℕ × List (View S Op)). IsRuled meaning o record { words = z.0; homes = t.homes; views = z.1 }) (λ i. (same i, views i)) ruled,
        (
          (saying.here meaning laws o ruled.state ruled.log sp.front sp.back v k).notes,
          saying.in_order meaning laws o ruled.state ruled.log sp.front sp.back v k,
          refl,
        ),
      )
