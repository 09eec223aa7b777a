-- How a call goes on with the confirmations of the words that its search stands at.
use Rattle.std.proofs.Common.{◌≡◌, ℕ, ◌≤◌, ◌&&◌, not, Bool, true, false, List, ◌∷◌, length, drop, Contains, Option, Some, None, inl, inr, refl, sym, ◌∙◌, ap, subst, if◌then◌else◌}
use Rattle.std.proofs.lemmas.Bool.{false≢true}
use Rattle.flit_words.specs.declared.layouts.Layout.{Layout}
use Rattle.flit_words.specs.Words.{version_of, bare_of, is_tagged}
use Rattle.flit_place.specs.Tags.{Place}
use Rattle.flit_pv.specs.declared.hands.Hand.{Hand}
use Rattle.flit_pv.specs.Hands.{with_queued, with_omitted}
use Rattle.flit_pv.specs.Confirms.{HeldConfirm, confirm_started, confirm_left}
use Rattle.flit_rows.specs.Shares.{rows_in}
use Rattle.flit_runs.specs.Workings.{dependency}
use Rattle.flit_runs.specs.Worlds.{HasSeen}
use Rattle.flit_runs.specs.Soundness.{Needs}
use Rattle.flit_structure.specs.Meanings.{IsServed, key_of}
use Rattle.flit_crew.specs.Crews.{Who, Goes}
use Rattle.flit_list_steps.specs.declared.operations.LinkWord.{LinkWord as PathWord}
use Rattle.flit_list_steps.specs.declared.operations.Path.{Path}
use Rattle.flit_list_steps.specs.declared.operations.Goal.{Goal as Aim}
use Rattle.flit_list_steps.specs.declared.operations.Goal.TheVariants.{Help as To_help, Found as To_found, Absent as To_absent}
use Rattle.flit_list_steps.specs.declared.operations.Which.TheVariants.{Back as The_back, Pred as The_pred, Next as The_next}
use Rattle.flit_list_steps.specs.Operations.{HeldOp}
use Rattle.flit_list_steps.specs.Steps.{Carried, with_confirmed, back_confirmed, confirms_by, wants_next, next_confirmed, pred_confirmed, back_is_confirmed, reached, confirms_next, confirms_pred, confirms_back, confirms}
use Rattle.flit_list_heap.specs.Links.{place_of}
use Rattle.flit_list_heap.specs.Keeping.{ListHeap, Kept}
use Rattle.flit_list_heap.specs.Seeing.{Spot}
use Rattle.flit_list_laws.specs.Walks.{Loaded, Walk, pair_if}
use Rattle.flit_list_laws.specs.Knowing.{IsAlone, IsHeldSo, IsHeld, IsBackHeld, IsBackSure, Stands, HasNext, HasGoal}
use Rattle.flit_list_laws.specs.ListCrew.{Is, IsBack, Follows, FollowsTo, FollowsFor, goal_with, ConfirmsOne, IsOfBack, list_crew, IsOfLists}
use Rattle.flit_list_laws.proofs.Growing as growing
use Rattle.flit_list_laws.proofs.Starting.{go_confirm}
use Rattle.flit_list_laws.proofs.Rowing.{Owns}
use Rattle.flit_list_laws.proofs.Reaching.{go_reached}

-- with its link confirmed, with the link before it, and the next one
abbrev pub sure_one : Loaded → Loaded
sure_one q = record q { sure = true }

abbrev pub sure_link : Walk → Walk
sure_link w = record w { link = sure_one w.link }

abbrev pub sure_if : Option Loaded → Option Loaded
sure_if None = None
sure_if (Some q) = Some (sure_one q)

abbrev pub sure_back : Walk → Walk
sure_back w = record w { back = sure_if w.back }

same_pair : (o : Option Loaded) → pair_if (sure_if o) ≡ pair_if o
same_pair None = refl
same_pair (Some q) = refl

left_name : (hand : Hand) (word raw : ℕ) → (confirm_left (confirm_started hand word raw)).name ≡ hand.name
left_name hand word raw = by_tag (is_tagged raw)
  where
    by_tag : (b : Bool) → (if b then with_queued hand word raw else with_omitted hand).name ≡ hand.name
    by_tag true = refl
    by_tag false = refl

left_spare : (hand : Hand) (word raw : ℕ) → (confirm_left (confirm_started hand word raw)).spare ≡ hand.spare
left_spare hand word raw = by_tag (is_tagged raw)
  where
    by_tag : (b : Bool) → (if b then with_queued hand word raw else with_omitted hand).spare ≡ hand.spare
    by_tag true = refl
    by_tag false = refl

not_false : (b : Bool) → not b ≡ false → b ≡ true
not_false true e = refl
not_false false e = absurd (cc)

not_true : (b : Bool) → not b ≡ true → b ≡ false
not_true true e = absurd (cc)
not_true false e = refl

and_left : (a b : Bool) → (a && b) ≡ true → a ≡ true
and_left true b e = refl
and_left false b e = absurd (cc)

and_right : (a b : Bool) → (a && b) ≡ true → b ≡ true
and_right true b e = e
and_right false b e = absurd (cc)

and_other : (a b : Bool) → (a && b) ≡ false → a ≡ true → b ≡ false
and_other true b e t = e
and_other false b e t = absurd (cc)

module _ (l : Layout) (lists : IsOfLists l) (p : Place) (free : List ℕ) (h : ListHeap) (kept : Kept l free h) where
  -- a call whose search has come upon this, and stands there
  pub record Nears (me : Who) (op : Carried) (hand : Hand) (goal : Aim) (w : Walk) (n : Loaded) : Type 0 where
    pub early : me.first ≤ length h.progress.settled
    pub served : IsServed l me.call
    pub most : me.name ≤ l.workers
    pub same : op.call ≡ me.call
    pub named : hand.name ≡ me.name
    pub owns : Owns free hand
    pub alone : IsAlone l me
    pub follows : FollowsFor l goal op.path w n
    pub stands : Stands l h me w
    pub known : HasGoal l h me w (goal_with goal n)

  abbrev pub needing : Who → ℕ → ℕ → Who
  needing me word raw = record me { needs = dependency word (version_of raw) ∷ me.needs }

  -- what a confirmation leaves
  pub grown : (me : Who) (op : Carried) (hand : Hand) (goal : Aim) (w : Walk) (n : Loaded) (word raw : ℕ) → Nears me op hand goal w n →
      Nears (needing me word raw) op (confirm_left (confirm_started hand word raw)) goal w n
  grown me op hand goal w n word raw f = record {
    early = f.early;
    served = f.served;
    most = f.most;
    same = f.same;
    named = left_name hand word raw ∙ f.named;
    owns = record {
      places = subst (λ s. 1 ≤ length s) (sym (left_spare hand word raw)) f.owns.places;
      tight = ap (λ s. rows_in (drop 1 s)) (left_spare hand word raw) ∙ f.owns.tight;
      pool = λ row c. f.owns.pool row (subst (λ s. Contains (rows_in s) row) (left_spare hand word raw) c);
    };
    alone = f.alone;
    follows = f.follows;
    stands = growing.stands l h me (dependency word (version_of raw) ∷ me.needs) me.seen me.private (λ v a x. inr x) (λ v a x. x) (λ v x. x) w f.stands;
    known = growing.has_goal l h me (dependency word (version_of raw) ∷ me.needs) me.seen me.private (λ v a x. inr x) (λ v a x. x) (λ v x. x) w
        (goal_with goal n) f.known;
  }

  pub walk_of : (goal : Aim) (path : Path) (w : Walk) (n : Loaded) → FollowsFor l goal path w n → Follows l path w
  walk_of To_help path w n f = f.walk
  walk_of To_found path w n f = f.walk
  walk_of To_absent path w n f = f

  -- ---- a word is confirmed

  follows_pred : (goal : Aim) (op : Carried) (w : Walk) (n : Loaded) → FollowsFor l goal op.path w n →
      FollowsFor l goal (with_confirmed op The_pred).path (sure_link w) n
  follows_pred To_help op w n f = record {
    walk = record { back = f.walk.back; link = record { word = f.walk.link.word; raw = f.walk.link.raw; sure = refl } };
    next = f.next;
  }
  follows_pred To_found op w n f = record {
    walk = record { back = f.walk.back; link = record { word = f.walk.link.word; raw = f.walk.link.raw; sure = refl } };
    next = f.next;
  }
  follows_pred To_absent op w n f = record { back = f.back; link = record { word = f.link.word; raw = f.link.raw; sure = refl } }

  known_link : (me : Who) (goal : Aim) (w : Walk) (n : Loaded) → HasGoal l h me w (goal_with goal n) → HasGoal l h me (sure_link w) (goal_with goal n)
  known_link me To_help w n f = record { next = f.next; word = f.word; held = f.held }
  known_link me To_found w n f = (record { next = f.0.next; word = f.0.word; held = f.0.held }, f.1, f.2)
  known_link me To_absent w n f = f

  pub sure_pred : (me : Who) (op : Carried) (hand : Hand) (goal : Aim) (w : Walk) (n : Loaded) → Needs me.needs (place_of l w.link.word) (version_of w.link.raw) →
      Nears me op hand goal w n → Nears me (with_confirmed op The_pred) hand goal (sure_link w) n
  sure_pred me op hand goal w n needed f = record {
    early = f.early;
    served = f.served;
    most = f.most;
    same = f.same;
    named = f.named;
    owns = f.owns;
    alone = f.alone;
    follows = follows_pred goal op w n f.follows;
    stands = record { spot = f.stands.spot; back = f.stands.back; link = needed };
    known = known_link me goal w n f.known;
  }

  is_back : (x : Option PathWord) (o : Option Loaded) → IsBack l x o → IsBack l (back_confirmed x) (sure_if o)
  is_back None None f = tt
  is_back None (Some q) f = absurd f
  is_back (Some x) None f = absurd f
  is_back (Some x) (Some q) f = record { word = f.word; raw = f.raw; sure = refl }

  follows_back : (goal : Aim) (op : Carried) (w : Walk) (n : Loaded) → FollowsFor l goal op.path w n →
      FollowsFor l goal (with_confirmed op The_back).path (sure_back w) n
  follows_back To_help op w n f = record { walk = record { back = is_back op.path.back w.back f.walk.back; link = f.walk.link }; next = f.next }
  follows_back To_found op w n f = record { walk = record { back = is_back op.path.back w.back f.walk.back; link = f.walk.link }; next = f.next }
  follows_back To_absent op w n f = record { back = is_back op.path.back w.back f.back; link = f.link }

  known_back : (me : Who) (goal : Aim) (w : Walk) (n : Loaded) → HasGoal l h me w (goal_with goal n) → HasGoal l h me (sure_back w) (goal_with goal n)
  known_back me To_help w n f = record { next = f.next; word = f.word; held = f.held }
  known_back me To_found w n f = (record { next = f.0.next; word = f.0.word; held = f.0.held }, f.1, f.2)
  known_back me To_absent w n f = f

  pub sure_before : (me : Who) (op : Carried) (hand : Hand) (goal : Aim) (w : Walk) (n : Loaded) → IsBackHeld l me (sure_if w.back) →
      Nears me op hand goal w n → Nears me (with_confirmed op The_back) hand goal (sure_back w) n
  sure_before me op hand goal w n held f = record {
    early = f.early;
    served = f.served;
    most = f.most;
    same = f.same;
    named = f.named;
    owns = f.owns;
    alone = f.alone;
    follows = follows_back goal op w n f.follows;
    stands = record {
      spot = subst (λ o. Spot l h (key_of me.call) o w.link.word (bare_of w.link.raw)) (sym (same_pair w.back)) f.stands.spot;
      back = held;
      link = f.stands.link;
    };
    known = known_back me goal w n f.known;
  }

  follows_next : (goal : Aim) (op : Carried) (w : Walk) (n : Loaded) → FollowsFor l goal op.path w n →
      FollowsFor l goal (with_confirmed op The_next).path w (sure_one n)
  follows_next To_help op w n f = record { walk = record { back = f.walk.back; link = f.walk.link }; next = record { word = f.next.word; raw = f.next.raw; sure = refl } }
  follows_next To_found op w n f = record { walk = record { back = f.walk.back; link = f.walk.link }; next = record { word = f.next.word; raw = f.next.raw; sure = refl } }
  follows_next To_absent op w n f = record { back = f.back; link = f.link }

  known_next : (me : Who) (goal : Aim) (w : Walk) (n : Loaded) → Needs me.needs (place_of l n.word) (version_of n.raw) → HasGoal l h me w (goal_with goal n) →
      HasGoal l h me w (goal_with goal (sure_one n))
  known_next me To_help w n needed f = record { next = f.next; word = f.word; held = needed }
  known_next me To_found w n needed f = (record { next = f.0.next; word = f.0.word; held = needed }, f.1, f.2)
  known_next me To_absent w n needed f = f

  pub sure_next : (me : Who) (op : Carried) (hand : Hand) (goal : Aim) (w : Walk) (n : Loaded) → Needs me.needs (place_of l n.word) (version_of n.raw) →
      Nears me op hand goal w n → Nears me (with_confirmed op The_next) hand goal w (sure_one n)
  sure_next me op hand goal w n needed f = record {
    early = f.early;
    served = f.served;
    most = f.most;
    same = f.same;
    named = f.named;
    owns = f.owns;
    alone = f.alone;
    follows = follows_next goal op w n f.follows;
    stands = f.stands;
    known = known_next me goal w n needed f.known;
  }

  pub needed_now : (me : Who) (word raw v r : ℕ) → word ≡ v → raw ≡ r → Needs (needing me word raw).needs v (version_of r)
  needed_now me word raw v r a b = inl (a, ap version_of b)

  -- ---- all is confirmed

  abbrev On : Who → Hand → HeldOp → Type 0
  On me hand next = Goes (list_crew l p free) l p free h me hand next

  pub go_all : (me : Who) (op : Carried) (hand : Hand) (goal : Aim) (w : Walk) (n : Loaded) → Nears me op hand goal w n → IsBackSure l me w.back →
      w.link.sure ≡ true → (wants_next goal ≡ true → n.sure ≡ true) → On me hand (reached l free op hand goal)
  go_all me op hand goal w n f back link next_sure = go_reached l lists p free h kept me f.early f.served f.most op f.same w n f.alone
      (record { stands = f.stands; back = back; link = link }) hand f.named f.owns goal f.follows f.known next_sure

  -- the next word is confirmed, where that is wanted
  next_is : (goal : Aim) (op : Carried) (w : Walk) (n : Loaded) → wants_next goal ≡ true → FollowsFor l goal op.path w n → Is l op.path.next n
  next_is To_help op w n e f = f.next
  next_is To_found op w n e f = f.next
  next_is To_absent op w n e f = absurd (cc)

  next_held : (me : Who) (goal : Aim) (w : Walk) (n : Loaded) → wants_next goal ≡ true → HasGoal l h me w (goal_with goal n) → IsHeld l me n
  next_held me To_help w n e f = f.held
  next_held me To_found w n e f = f.0.held
  next_held me To_absent w n e f = absurd (cc)

  pub seen_as : (me : Who) (x : PathWord) (q : Loaded) → Is l x q → IsHeld l me q → x.confirmed ≡ false → HasSeen me.seen x.word x.raw
  seen_as me x q is held e = subst (λ v. HasSeen me.seen v x.raw) (sym is.word) (subst (λ r. HasSeen me.seen (place_of l q.word) r) (sym is.raw)
      (subst (λ b. IsHeldSo l me b (place_of l q.word) q.raw) (sym is.sure ∙ e) held))

  go_next : (me : Who) (op : Carried) (hand : Hand) (goal : Aim) (w : Walk) (n : Loaded) → Nears me op hand goal w n → IsBackSure l me w.back →
      w.link.sure ≡ true → (b : Bool) → (wants_next goal && not op.path.next.confirmed) ≡ b → On me hand (if b
      then (let m = confirm_started hand op.path.next.word op.path.next.raw in
      confirms_by p op goal The_next m (next_confirmed l free op (confirm_left m) goal))
      else reached l free op hand goal)
  go_next me op hand goal w n f back link true e =
      let wants = and_left (wants_next goal) (not op.path.next.confirmed) e in
      let is = next_is goal op w n wants f.follows in
      let word = op.path.next.word in
      let raw = op.path.next.raw in
      let seen = seen_as me op.path.next n is (next_held me goal w n wants f.known)
      (not_true op.path.next.confirmed (and_right (wants_next goal) (not op.path.next.confirmed) e)) in
      go_confirm l p free h kept me f.early f.served op f.same goal The_next hand word raw
      (next_confirmed l free op (confirm_left (confirm_started hand word raw)) goal) seen
      (go_all (needing me word raw) (with_confirmed op The_next) (confirm_left (confirm_started hand word raw)) goal w (sure_one n)
      (sure_next (needing me word raw) op (confirm_left (confirm_started hand word raw)) goal w n
      (needed_now me word raw (place_of l n.word) n.raw is.word is.raw) (grown me op hand goal w n word raw f)) (back_on me word raw w.back back) link (λ t. refl))
      (record {
        first = f.early;
        served = f.served;
        walk = w;
        next = n;
        at = record {
          alone = f.alone;
          follows = f.follows;
          stands = f.stands;
          goal_known = f.known;
          one = (back, link, record { word = is.word; raw = is.raw });
        };
      })
    where
      back_on : (me : Who) (word raw : ℕ) (o : Option Loaded) → IsBackSure l me o → IsBackSure l (needing me word raw) o
      back_on me word raw None s = tt
      back_on me word raw (Some q) s = s
  go_next me op hand goal w n f back link false e = go_all me op hand goal w n f back link (λ t.
      sym (next_is goal op w n t f.follows).sure ∙ not_false op.path.next.confirmed (and_other (wants_next goal) (not op.path.next.confirmed) e t))

  pub go_confirms_next : (me : Who) (op : Carried) (hand : Hand) (goal : Aim) (w : Walk) (n : Loaded) → Nears me op hand goal w n → IsBackSure l me w.back →
      w.link.sure ≡ true → On me hand (confirms_next l p free op hand goal)
  unfolding confirms_next
  go_confirms_next me op hand goal w n f back link =
      go_next me op hand goal w n f back link (wants_next goal && not op.path.next.confirmed) refl
