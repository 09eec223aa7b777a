-- A pass takes in others, one after another.
use Rattle.std.proofs.Common.{◌≡◌, ◌+◌, ◌<◌, List, [], ◌∷◌, ◌++◌, flat_map, length, map, drop, take, arith, refl, sym, ap, ◌∙◌, subst, append-nil, append_assoc}
use Rattle.std.proofs.lemmas.List.{length-append, map-append}
use Rattle.std.specs.List.{AllByRecursion}
use Rattle.flit_model.proofs.Elements.{all_behind}
use Rattle.flit_workers.specs.declared.ends.End.{End}
use Rattle.flit_structure.specs.Meanings.{Meaning}
use Rattle.flit_table.specs.declared.views.View.{View}
use Rattle.flit_table.specs.declared.passes.Pass.{Pass}
use Rattle.flit_table.specs.Passes.{view_of, waiting_view, HasTaken}
use Rattle.flit_table.specs.Views.{posts_of}
use Rattle.flit_table.proofs.Joining.{posts_both}
use Rattle.flit_workers.specs.Gathered.{HasTakenAll}
use Rattle.flit_workers.proofs.Growing.{order_after}

flat_more : {X Y : Type 0} (f : X → List Y) (xs : List X) (x : X) → flat_map f (xs ++ x ∷ []) ≡ flat_map f xs ++ f x
flat_more f [] x = append-nil (f x)
flat_more f (y ∷ xs) x = ap (λ l. f y ++ l) (flat_more f xs x) ∙ sym (append_assoc (f y) (flat_map f xs) (f x))

behind : {X Y : Type 0} (f : X → List Y) (a b c : List Y) (xs : List X) (x : X) → b ≡ a ++ flat_map f xs → c ≡ b ++ f x → c ≡ a ++ flat_map f (xs ++ x ∷ [])
behind f a b c xs x p q =
    q ∙ ap (λ l. l ++ f x) p ∙ append_assoc a (flat_map f xs) (f x) ∙ ap (λ l. a ++ l) (sym (flat_more f xs x))

module _ {S Op : Type 0} (meaning : Meaning Op) where
  -- none
  pub taken_none : (p : Pass S Op) → HasTakenAll meaning [] p p
  taken_none p = record {
    name = refl;
    names = refl;
    calls = refl;
    stopped = refl;
    waits = refl;
    posts = sym (append-nil (posts_of (view_of p)));
    mine = sym (append-nil (view_of p).mine);
    placed = sym (append-nil (view_of p).placed);
    events = sym (append-nil (view_of p).events);
    order = refl;
  }

  -- and one more
  pub taken_more : (others : List (Pass S Op)) (first a other b : Pass S Op) → 0 < (view_of a).names → HasTakenAll meaning others first a →
      HasTaken meaning other a b → HasTakenAll meaning (others ++ other ∷ []) first b
  taken_more others first a other b some h t = record {
    name = t.name ∙ h.name;
    names = t.names ∙ h.names;
    calls = t.calls ∙ h.calls;
    stopped = t.stopped ∙ h.stopped;
    waits = t.waits ∙ h.waits;
    posts = behind (λ (p : Pass S Op). posts_of (waiting_view meaning p)) (posts_of (view_of first)) (posts_of (view_of a)) (posts_of (view_of b)) others other
        h.posts (ap posts_of t.view ∙ posts_both (view_of a) (waiting_view meaning other) some);
    mine = behind (λ (p : Pass S Op). (view_of p).mine) (view_of first).mine (view_of a).mine (view_of b).mine others other h.mine
        (ap (λ (v : View S Op). v.mine) t.view);
    placed = behind (λ (p : Pass S Op). (view_of p).placed) (view_of first).placed (view_of a).placed (view_of b).placed others other h.placed
        (ap (λ (v : View S Op). v.placed) t.view);
    events = behind (λ (p : Pass S Op). (view_of p).events) (view_of first).events (view_of a).events (view_of b).events others other h.events
        (ap (λ (v : View S Op). v.events) t.view);
    order = order_after (length (others ++ other ∷ [])) (view_of first) (view_of b) (omega (arith, length-append others (other ∷ []))) t.order;
  }

  -- the pass of one End more
  pub taken_next : (ends : List (End S Op)) (e : End S Op) (first a b : Pass S Op) → 0 < (view_of a).names →
      HasTakenAll meaning (map (λ x. x.pass) ends) first a → HasTaken meaning e.pass a b → HasTakenAll meaning (map (λ x. x.pass) (ends ++ e ∷ [])) first b
  taken_next ends e first a b some h t =
      subst (λ (l : List (Pass S Op)). HasTakenAll meaning l first b) (sym (map-append (λ (x : End S Op). x.pass) ends (e ∷ [])))
      (taken_more (map (λ (x : End S Op). x.pass) ends) first a e.pass b some h t)

-- one more behind some
pub pushed : {X Y : Type 0} (f : X → Y) (base now next : List Y) (xs : List X) (x : X) → now ≡ base ++ map f xs → next ≡ now ++ f x ∷ [] →
    next ≡ base ++ map f (xs ++ x ∷ [])
pushed f base now next xs x p q =
    q ∙ ap (λ l. l ++ f x ∷ []) p ∙ append_assoc base (map f xs) (f x ∷ []) ∙ ap (λ l. base ++ l) (sym (map-append f xs (x ∷ [])))

-- the one that comes next
pub next_of : {X : Type 0} (P : X → Type 0) (before : List X) (x : X) (behind all : List X) → before ++ x ∷ behind ≡ all → AllByRecursion P all → P x
next_of P before x behind all is h = (all_behind P before (x ∷ behind) (subst (AllByRecursion P) (sym is) h)).0

-- what is true of some is true of those behind the first
pub rest_all : {X : Type 0} (P : X → Type 0) (xs ys : List X) → ys ≡ take 0 xs ++ drop (0 + 1) xs → AllByRecursion P xs → AllByRecursion P ys
rest_all P [] ys is h = subst (AllByRecursion P) (sym is) tt
rest_all P (x ∷ xs) ys is h = subst (AllByRecursion P) (sym is) h.1
