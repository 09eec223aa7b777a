-- Workers that have ended, and were gathered, have all names of the pass that was handed out.
use Rattle.std.proofs.Common.{◌≡◌, inl, inr, ℕ, zero, suc, ◌+◌, ◌-◌, ◌<◌, ◌≤◌, List, [], ◌∷◌, ◌++◌, flat_map, map, length, refl, sym, ◌∙◌, subst, arith}
use Rattle.std.specs.List.{Contains, AllByRecursion}
use Rattle.flit_model.specs.declared.calls.Work.{Work}
use Rattle.flit_structure.specs.Meanings.{Meaning}
use Rattle.flit_table.specs.declared.views.Post.{Post}
use Rattle.flit_table.specs.declared.views.Start.{Start}
use Rattle.flit_table.specs.declared.views.Start.TheVariants.{Go, Begin, Sweep}
use Rattle.flit_table.specs.declared.views.View.{View}
use Rattle.flit_table.specs.declared.passes.Pass.{Pass}
use Rattle.flit_table.specs.Moves.{entered}
use Rattle.flit_table.specs.Passes.{BelongsTo, view_of, waiting_view, waits_to}
use Rattle.flit_table.specs.Steps.{Home, meaning_of}
use Rattle.flit_table.specs.Views.{HasName, posts_of}
use Rattle.flit_table.specs.Closing.{HasAllNames}
use Rattle.flit_table.proofs.ViewWorkers.{posts_head}
use Rattle.flit_workers.specs.declared.ends.End.{End}
use Rattle.flit_workers.specs.Ends.{AllInOrder, share, HasEnded, HaveEnded}
use Rattle.flit_workers.specs.Gathered.{HasGathered}

module _ {Op : Type 0} where
  has_left : (n : ℕ) (ps qs : List (Post Op)) → HasName n ps → HasName n (ps ++ qs)
  has_left n [] qs h = absurd h
  has_left n (p ∷ ps) qs (inl e) = inl e
  has_left n (p ∷ ps) qs (inr h) = inr (has_left n ps qs h)

  has_right : (n : ℕ) (ps qs : List (Post Op)) → HasName n qs → HasName n (ps ++ qs)
  has_right n [] qs h = h
  has_right n (p ∷ ps) qs h = inr (has_right n ps qs h)

  found_at : (n : ℕ) (ps : List (Post Op)) → HasName n ps → Contains (map (λ p. p.worker.name) ps) n
  found_at n [] h = absurd h
  found_at n (p ∷ ps) (inl e) = (0, omega arith, e)
  found_at n (p ∷ ps) (inr h) = let r = found_at n ps h in (suc r.0, omega (arith, r.1), r.2)

module _ {S Op : Type 0} (meanings : S → Meaning Op) (home : Home S) where
  abbrev meaning : Meaning Op
  meaning = meaning_of meanings home

  abbrev kept : Pass S Op → List (Post Op)
  kept p = posts_of (waiting_view meaning p)

  name_entered : (x : Start) (p : Post Op) → (entered meaning x p).worker.name ≡ p.worker.name
  name_entered Go p = refl
  name_entered (Begin asked) p = refl
  name_entered (Sweep word) p = refl

  name_shared : (n : ℕ) (v : View S Op) → (share n v).name ≡ v.name + n
  name_shared zero v = omega arith
  name_shared (suc n) v = omega arith

  -- an End has its name, with what it waits to begin and without
  own_name_of : (n : ℕ) (v : View S Op) (w : Work) (e : End S Op) → HasEnded meanings home n v w e → (view_of e.pass).post.worker.name ≡ v.name + n
  own_name_of n v w e h = h.pass.worker ∙ h.worked.grows.same.name ∙ name_shared n v

  has_own : (n : ℕ) (v : View S Op) (w : Work) (e : End S Op) → HasEnded meanings home n v w e → HasName (v.name + n) (posts_of (view_of e.pass))
  has_own n v w e h = subst (HasName (v.name + n)) (sym (posts_head (view_of e.pass) h.pass.belongs.names)) (inl (own_name_of n v w e h))

  has_kept : (n : ℕ) (v : View S Op) (w : Work) (e : End S Op) → HasEnded meanings home n v w e → HasName (v.name + n) (kept e.pass)
  has_kept n v w e h = subst (HasName (v.name + n)) (sym (posts_head (waiting_view meaning e.pass) h.pass.belongs.names))
      (inl (name_entered (waits_to e.pass) (view_of e.pass).post ∙ own_name_of n v w e h))

  -- the names of Ends in a row
  names_among : (n : ℕ) (v : View S Op) (works : List Work) (ends : List (End S Op)) → AllInOrder (λ k w e. HasEnded meanings home k v w e) n works ends →
      (k : ℕ) → k < length works → HasName (v.name + (n + k)) (flat_map kept (map (λ e. e.pass) ends))
  names_among n v [] [] h k less = absurd (omega (arith, less))
  names_among n v [] (e ∷ es) h k less = absurd h
  names_among n v (w ∷ ws) [] h k less = absurd h
  names_among n v (w ∷ ws) (e ∷ es) h zero less = has_left (v.name + (n + 0)) (kept e.pass) (flat_map kept (map (λ (x : End S Op). x.pass) es))
      (subst (λ (m : ℕ). HasName m (kept e.pass)) (omega arith) (has_kept n v w e h.0))
  names_among n v (w ∷ ws) (e ∷ es) h (suc k) less = has_right (v.name + (n + suc k)) (kept e.pass) (flat_map kept (map (λ (x : End S Op). x.pass) es))
      (subst (λ (m : ℕ). HasName m (flat_map kept (map (λ (x : End S Op). x.pass) es))) (omega arith) (names_among (suc n) v ws es h.1 k (omega (arith, less))))

  all_gathered : (v : View S Op) (works : List Work) (ends : List (End S Op)) (now : Pass S Op) → HaveEnded meanings home v works ends →
      HasGathered meaning (map (λ e. e.pass) ends) now → (k : ℕ) → k < length works → HasName (v.name + k) (posts_of (view_of now))
  all_gathered v [] ends now h t k less = absurd (omega (arith, less))
  all_gathered v (w ∷ ws) [] now h t k less = absurd h
  all_gathered v (w ∷ ws) (e ∷ es) now h t zero less =
      subst (HasName (v.name + 0)) (sym t.posts) (has_left (v.name + 0) (posts_of (view_of e.pass)) (flat_map kept (map (λ (x : End S Op). x.pass) es))
      (has_own 0 v w e h.0))
  all_gathered v (w ∷ ws) (e ∷ es) now h t (suc k) less =
      subst (HasName (v.name + suc k)) (sym t.posts) (has_right (v.name + suc k) (posts_of (view_of e.pass)) (flat_map kept (map (λ (x : End S Op). x.pass) es))
      (subst (λ (m : ℕ). HasName m (flat_map kept (map (λ (x : End S Op). x.pass) es))) (omega arith) (names_among 1 v ws es h.1 k (omega (arith, less)))))

  -- so a pass that had all names has them again
  pub all_names : (v : View S Op) (works : List Work) (ends : List (End S Op)) (now : Pass S Op) → v.name ≡ 1 → meaning.layout.workers ≤ length works →
      HaveEnded meanings home v works ends → HasGathered meaning (map (λ e. e.pass) ends) now → HasAllNames meaning (view_of now)
  all_names v works ends now first enough h t = λ name least most.
      let k = name - 1 in
      let less : k < length works = omega (arith, least, most, enough) in
      let is : v.name + k ≡ name = omega (arith, first, least) in
      subst (Contains (map (λ p. p.worker.name) (posts_of (view_of now)))) is (found_at (v.name + k) (posts_of (view_of now)) (all_gathered v works ends now h t k less))

-- and all of them belong to the running structure
pub all_belong : {S Op : Type 0} (meanings : S → Meaning Op) (home : Home S) (v : View S Op) (n : ℕ) (works : List Work) (ends : List (End S Op)) →
    AllInOrder (λ k w e. HasEnded meanings home k v w e) n works ends → AllByRecursion (λ e. BelongsTo meanings home e.pass) ends
all_belong meanings home v n [] [] h = tt
all_belong meanings home v n [] (e ∷ es) h = absurd h
all_belong meanings home v n (w ∷ ws) [] h = absurd h
all_belong meanings home v n (w ∷ ws) (e ∷ es) h = (h.0.pass, all_belong meanings home v (suc n) ws es h.1)
