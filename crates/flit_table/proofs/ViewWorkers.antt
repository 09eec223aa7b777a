-- The workers of views, as one list.
use Rattle.std.proofs.Common.{◌≡◌, ◌≢◌, ℕ, zero, suc, ◌-◌, ◌<◌, List, [], ◌∷◌, ◌++◌, refl, sym, ◌∙◌, ap, subst, arith, append_assoc}
use Rattle.std.proofs.lemmas.List.{map-append}
use Rattle.std.specs.List.{AllByRecursion}
use Rattle.flit_structure.specs.declared.workers.Worker.{Worker}
use Rattle.flit_structure.specs.Moments.{IsAmong, HaveDifferentNames}
use Rattle.flit_structure.proofs.Names.{all_left, all_right, others_new}
use Rattle.flit_table.specs.declared.views.Post.{Post}
use Rattle.flit_table.specs.declared.views.View.{View}
use Rattle.flit_table.specs.Views.{new_posts, workers_of, posts_with, posts_of, all_workers}

module _ {X : Type 0} (P Q R : X → Type 0) where
  pub all_zip : ((x : X) → P x → Q x → R x) → (xs : List X) → AllByRecursion P xs → AllByRecursion Q xs → AllByRecursion R xs
  all_zip f [] h k = tt
  all_zip f (x ∷ xs) h k = (f x h.0 k.0, all_zip f xs h.1 k.1)

module _ {Op : Type 0} where
  -- what is true of workers is true of their posts
  pub posts_all : (P : Worker Op → Type 0) (ps : List (Post Op)) → AllByRecursion P (workers_of ps) → AllByRecursion (λ p. P p.worker) ps
  posts_all P [] h = tt
  posts_all P (p ∷ ps) h = (h.0, posts_all P ps h.1)

  pub workers_all : (P : Worker Op → Type 0) (ps : List (Post Op)) → AllByRecursion (λ p. P p.worker) ps → AllByRecursion P (workers_of ps)
  workers_all P [] h = tt
  workers_all P (p ∷ ps) h = (h.0, workers_all P ps h.1)

  pub workers_joined : (ps qs : List (Post Op)) → workers_of (ps ++ qs) ≡ workers_of ps ++ workers_of qs
  workers_joined ps qs = map-append (λ p. p.worker) ps qs

  head_posts : (n name : ℕ) (post : Post Op) (gone : List (Post Op)) → 0 < n → posts_with n name post gone ≡ post ∷ (new_posts (suc name) (n - 1) ++ gone)
  head_posts zero name post gone h = absurd (omega arith)
  head_posts (suc n) name post gone h =
      let one : n ≡ suc n - 1 = omega arith in
      ap (λ (k : ℕ). post ∷ (new_posts (suc name) k ++ gone)) one

  -- a worker of a list that has another name than this
  pub record IsOther (us : List (Worker Op)) (name : ℕ) (w : Worker Op) : Type 0 where
    pub among : IsAmong us w
    pub apart : w.name ≢ name

  among_from : (front back : List (Worker Op)) → AllByRecursion (IsAmong (front ++ back)) back
  among_from front [] = tt
  among_from front (x ∷ back) = (
    (front, back, refl),
    subst (λ us. AllByRecursion (IsAmong us) back) (append_assoc front (x ∷ []) back) (among_from (front ++ x ∷ []) back),
  )

  pub all_among : (us : List (Worker Op)) → AllByRecursion (IsAmong us) us
  all_among us = among_from [] us

  pub others_around : (a b : List (Worker Op)) (u : Worker Op) → HaveDifferentNames (a ++ u ∷ b) →
      AllByRecursion (IsOther (a ++ u ∷ b) u.name) a × AllByRecursion (IsOther (a ++ u ∷ b) u.name) b
  others_around a b u h =
      let us : List (Worker Op) = a ++ u ∷ b in
      let here = all_among us in
      let apart = others_new a b u h in
      let both : (w : Worker Op) → IsAmong us w → w.name ≢ u.name → IsOther us u.name w = λ w k n. record { among = k; apart = n } in (
        all_zip (IsAmong us) (λ w. w.name ≢ u.name) (IsOther us u.name) both a (all_left (IsAmong us) a (u ∷ b) here) apart.0,
        all_zip (IsAmong us) (λ w. w.name ≢ u.name) (IsOther us u.name) both b (all_right (IsAmong us) a (u ∷ b) here).1 apart.1,
      )

module _ {S Op : Type 0} where
  -- the posts of a view behind its first
  abbrev pub rest_of : View S Op → List (Post Op)
  rest_of v = new_posts (suc v.name) (v.names - 1) ++ v.gone

  pub posts_head : (v : View S Op) → 0 < v.names → posts_of v ≡ v.post ∷ rest_of v
  posts_head v h = head_posts v.names v.name v.post v.gone h

  pub all_joined : (a b : List (View S Op)) → all_workers (a ++ b) ≡ all_workers a ++ all_workers b
  all_joined [] b = refl
  all_joined (v ∷ a) b =
      ap (λ us. workers_of (posts_of v) ++ us) (all_joined a b) ∙ sym (append_assoc (workers_of (posts_of v)) (all_workers a) (all_workers b))

  -- the workers behind the first of a view
  abbrev pub behind_first : View S Op → List (View S Op) → List (Worker Op)
  behind_first v b = workers_of (rest_of v) ++ all_workers b

  pub all_around : (a b : List (View S Op)) (v : View S Op) → 0 < v.names → all_workers (a ++ v ∷ b) ≡ all_workers a ++ v.post.worker ∷ behind_first v b
  all_around a b v h = all_joined a (v ∷ b) ∙ ap (λ ps. all_workers a ++ (workers_of ps ++ all_workers b)) (posts_head v h)

  -- what is true of all workers is true of those of each view
  pub views_all : (P : Worker Op → Type 0) (vs : List (View S Op)) → AllByRecursion P (all_workers vs) →
      AllByRecursion (λ v. AllByRecursion P (workers_of (posts_of v))) vs
  views_all P [] h = tt
  views_all P (v ∷ vs) h = (all_left P (workers_of (posts_of v)) (all_workers vs) h, views_all P vs (all_right P (workers_of (posts_of v)) (all_workers vs) h))
