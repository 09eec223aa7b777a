-- The worker of an End: its name, what it is at, and its post among those that one pass has gathered.
use Rattle.std.proofs.Common.{◌≡◌, ℕ, zero, suc, ◌+◌, true, false, List, [], ◌∷◌, ◌++◌, flat_map, map, replicate, length, refl, sym, ◌∙◌, ap, subst, arith, append-nil}
use Rattle.std.specs.List.{AllByRecursion}
use Rattle.flit_model.specs.Histories.{is_update}
use Rattle.flit_model.specs.declared.calls.Entry.{Entry}
use Rattle.flit_model.specs.declared.calls.Item.{Item}
use Rattle.flit_model.specs.declared.calls.Item.TheVariants.{Call as Call_item, Evict as Evict_item}
use Rattle.flit_model.specs.declared.calls.Work.{Work}
use Rattle.flit_structure.specs.Moments.{update_of}
use Rattle.flit_structure.specs.Meanings.{Meaning}
use Rattle.flit_structure.proofs.Names.{all_left, all_right}
use Rattle.flit_table.specs.declared.passes.Pass.{Pass}
use Rattle.flit_table.specs.declared.passes.Rest.{Rest}
use Rattle.flit_table.specs.declared.passes.Rest.TheVariants.{Hand, Ended, Stopped}
use Rattle.flit_table.specs.declared.views.Post.{Post}
use Rattle.flit_table.specs.declared.views.Start.TheVariants.{Go}
use Rattle.flit_table.specs.declared.views.View.{View}
use Rattle.flit_table.specs.Moves.{entered}
use Rattle.flit_table.specs.Orders.{IsUnderWayIn}
use Rattle.flit_table.specs.Passes.{IsAt, is_stopped, waits_in, waits_to, view_of, waiting_view}
use Rattle.flit_table.specs.Rule.{first_view}
use Rattle.flit_table.specs.Steps.{Home, meaning_of}
use Rattle.flit_table.specs.Views.{answered, posts_of}
use Rattle.flit_table.proofs.ViewWorkers.{posts_head}
use Rattle.flit_workers.specs.declared.ends.End.{End}
use Rattle.flit_workers.specs.Ends.{AllInOrder, share, HasEnded}
use Rattle.flit_workers.specs.Works.{StandsAt}
use Rattle.flit_thread_histories.specs.Promises.{IsUpdateOfFirst}

module _ {S Op : Type 0} (meanings : S → Meaning Op) (home : Home S) where
  abbrev meaning : Meaning Op
  meaning = meaning_of meanings home

  abbrev pub first : View S Op
  first = first_view meaning home.origin

  -- the view with which a worker begins has its name, and nothing made
  shared_name : (n : ℕ) → (share n first).name ≡ suc n
  shared_name zero = refl
  shared_name (suc n) = omega arith

  shared_mine : (n : ℕ) → (share n first).mine ≡ []
  shared_mine zero = refl
  shared_mine (suc n) = refl

  shared_events : (n : ℕ) → (share n first).events ≡ []
  shared_events zero = refl
  shared_events (suc n) = refl

  shared_log : (n : ℕ) → (share n first).log ≡ []
  shared_log zero = refl
  shared_log (suc n) = refl

  shared_placed : (n : ℕ) → (share n first).placed ≡ []
  shared_placed zero = refl
  shared_placed (suc n) = refl

  -- a free pass waits for nothing, and its worker is idle
  free_waits : (rest : Rest Op) → is_stopped rest ≡ false → waits_in rest ≡ Go
  free_waits (Hand hand) e = refl
  free_waits (Ended op) e = refl
  free_waits (Stopped tally start) e = absurd (cc)

  free_idle : (p : Post Op) (calls : ℕ) (rest : Rest Op) → is_stopped rest ≡ false → IsAt meaning p calls rest → (x : Entry) →
      IsUnderWayIn p.worker.name p.worker.number p.worker.doing x → ⊥
  free_idle p calls (Hand hand) e at x u = subst (λ d. IsUnderWayIn p.worker.name p.worker.number d x) at.doing u
  free_idle p calls (Ended op) e at x u = subst (λ d. IsUnderWayIn p.worker.name p.worker.number d x) at.1.doing u
  free_idle p calls (Stopped tally start) e at x u = absurd (cc)

  module _ (n : ℕ) (w : Work) (e : End S Op) (h : HasEnded meanings home n first w e) where
    abbrev pub post : Post Op
    post = (view_of e.pass).post

    pub end_name : post.worker.name ≡ suc n
    end_name = h.pass.worker ∙ h.worked.grows.same.name ∙ shared_name n

    pub end_mine : (view_of e.pass).mine ≡ h.worked.made
    end_mine = h.worked.grows.mine ∙ ap (λ l. l ++ h.worked.made) (shared_mine n)

    pub end_events : (view_of e.pass).events ≡ replicate h.worked.count (suc n)
    end_events = h.worked.grows.events ∙ ap (λ l. replicate h.worked.count (1 + n) ++ l) (shared_events n) ∙ append-nil (replicate h.worked.count (1 + n))
        ∙ ap (replicate h.worked.count) (omega arith)

    stands_waits : (further : ℕ) (rest : List Item) (calls : ℕ) (v : View S Op) → StandsAt meaning home.origin further rest calls v e.pass →
        waits_to e.pass ≡ Go
    stands_waits zero rest calls v s = free_waits e.pass.held.rest s.0
    stands_waits (suc k) [] calls v s = absurd s
    stands_waits (suc k) (item ∷ rest) calls v s = s.1

    pub end_waits : waits_to e.pass ≡ Go
    end_waits = stands_waits h.worked.further h.worked.rest (0 + length (answered h.worked.made)) h.worked.between h.worked.stands

    -- so its post is the same with what it waits to begin
    pub end_post : (waiting_view meaning e.pass).post ≡ post
    end_post = ap (λ s. entered meaning s post) end_waits

    abbrev number : ℕ
    number = length (answered h.worked.made) + 1

    -- the number of a stopped pass's worker is that of the calls begun
    stopped_number : (rest : Rest Op) → is_stopped rest ≡ true → waits_in rest ≡ Go → IsAt meaning post e.pass.held.calls rest →
        e.pass.held.calls ≡ post.worker.number
    stopped_number (Hand hand) s go at = absurd (cc)
    stopped_number (Ended op) s go at = absurd (cc)
    stopped_number (Stopped tally start) s go at = at.calls ∙ ap (λ x. (entered meaning x post).worker.number) go

    -- the update of the call that it is at is that of the first item that is left
    stands_first : (further : ℕ) (rest : List Item) (v : View S Op) →
        StandsAt meaning home.origin further rest (0 + length (answered h.worked.made)) v e.pass →
        (x : Entry) → is_update x ≡ true → IsUnderWayIn post.worker.name post.worker.number post.worker.doing x → IsUpdateOfFirst (suc n) number rest x
    stands_first zero rest v s x up u = absurd (free_idle post e.pass.held.calls e.pass.held.rest s.0 h.pass.at x u)
    stands_first (suc k) [] v s x up u = absurd s
    stands_first (suc k) (Call_item call ∷ rest) v s x up u =
        let runs = s.2.1.1 in
        let counted : e.pass.held.calls ≡ (0 + length (answered h.worked.made)) + 1 = s.2.0 in
        let is_number : post.worker.number ≡ number = sym (stopped_number e.pass.held.rest s.0 s.1 h.pass.at) ∙ counted ∙ omega arith in
        let is : x ≡ update_of post.worker.name post.worker.number call = subst (λ d. IsUnderWayIn post.worker.name post.worker.number d x)
        (ap (λ z. z.doing) runs.worker) u in
        (is ∙ ap (λ m. update_of m post.worker.number call) end_name ∙ ap (λ m. update_of (suc n) m call) is_number, up)
    stands_first (suc k) (Evict_item word ∷ rest) v s x up u =
        absurd (subst (λ d. IsUnderWayIn post.worker.name post.worker.number d x) (ap (λ z. z.doing) s.2.2.1.worker) u)

    pub end_first : (x : Entry) → is_update x ≡ true → IsUnderWayIn post.worker.name post.worker.number post.worker.doing x →
        IsUpdateOfFirst (suc n) number h.worked.rest x
    end_first = stands_first h.worked.further h.worked.rest h.worked.between h.worked.stands

  abbrev kept : Pass S Op → List (Post Op)
  kept p = posts_of (waiting_view meaning p)

  -- what is true of each post of a pass, or of what it keeps, is true of its worker's
  own_post : (P : Post Op → Type 0) (n : ℕ) (w : Work) (e : End S Op) → HasEnded meanings home n first w e → AllByRecursion P (posts_of (view_of e.pass)) →
      P (view_of e.pass).post
  own_post P n w e h all = (subst (AllByRecursion P) (posts_head (view_of e.pass) h.pass.belongs.names) all).0

  kept_post : (P : Post Op → Type 0) (n : ℕ) (w : Work) (e : End S Op) → HasEnded meanings home n first w e → AllByRecursion P (kept e.pass) →
      P (view_of e.pass).post
  kept_post P n w e h all = subst P (end_post n w e h) (subst (AllByRecursion P) (posts_head (waiting_view meaning e.pass) h.pass.belongs.names) all).0

  others_posts : (P : Post Op → Type 0) (n : ℕ) (ws : List Work) (es : List (End S Op)) → AllInOrder (λ k w e. HasEnded meanings home k first w e) n ws es →
      AllByRecursion P (flat_map kept (map (λ e. e.pass) es)) → AllInOrder (λ k w e. P (view_of e.pass).post) n ws es
  others_posts P n [] [] h all = tt
  others_posts P n [] (e ∷ es) h all = absurd h
  others_posts P n (w ∷ ws) [] h all = absurd h
  others_posts P n (w ∷ ws) (e ∷ es) h all = (
    kept_post P n w e h.0 (all_left P (kept e.pass) (flat_map kept (map (λ (x : End S Op). x.pass) es)) all),
    others_posts P (suc n) ws es h.1 (all_right P (kept e.pass) (flat_map kept (map (λ (x : End S Op). x.pass) es)) all),
  )

  -- of all posts that the first pass has, with those that it took in
  pub gathered_posts : (P : Post Op → Type 0) (ws : List Work) (w : Work) (e : End S Op) (es : List (End S Op)) →
      AllInOrder (λ k w e. HasEnded meanings home k first w e) 0 (w ∷ ws) (e ∷ es) →
      AllByRecursion P (posts_of (view_of e.pass) ++ flat_map kept (map (λ e. e.pass) es)) → AllInOrder (λ k w e. P (view_of e.pass).post) 0 (w ∷ ws) (e ∷ es)
  gathered_posts P ws w e es h all = (
    own_post P 0 w e h.0 (all_left P (posts_of (view_of e.pass)) (flat_map kept (map (λ (x : End S Op). x.pass) es)) all),
    others_posts P 1 ws es h.1 (all_right P (posts_of (view_of e.pass)) (flat_map kept (map (λ (x : End S Op). x.pass) es)) all),
  )
