use Rattle.std.proofs.Common.{◌≡◌, ◌+◌, ◌<◌, ℕ, Bool, true, false, not, List, [], length, take, get_or, map, sym, ap, ◌∙◌, refl, subst, string_bytes}
use Rattle.std.specs.Str.{bytes_eq}
use Rattle.std.proofs.lemmas.Bool.{false≢true}
use Rattle.std.proofs.lemmas.Slice.Zip.{zip_turn}
use Rattle.std.proofs.lemmas.Slice.Eq.{bytes_eq-Decides}
use Rattle.std.proofs.lemmas.List.{take_more_same, get_or-map, length_push, length-map}
use Rattle.flit_commands.proofs.word_list.Words.is.Goals as goal
use Rattle.flit_commands.proofs.word_list.Words.is.Goals.{After-ne}

not-true : (b : Bool) → true ≡ not b → b ≡ false
not-true true e = cc
not-true false e = refl

not-false : (b : Bool) → false ≡ not b → b ≡ true
not-false true e = refl
not-false false e = cc

-- what a mapped list has at n where the list has y there
get_or-map_at : {X : Type 0} (f : X → List ℕ) (xs : List X) (n : ℕ) (y : X) → n < length xs → ((d : X) → y ≡ get_or xs n d) → get_or (map f xs) n [] ≡ f y
get_or-map_at f xs n y within here = get_or-map f xs n y [] within ∙ ap f (sym (here y))

-- lists that have different texts at n are not the same
differ_at : (xs ys : List (List ℕ)) (n : ℕ) (x y : List ℕ) → get_or xs n [] ≡ x → get_or ys n [] ≡ y → bytes_eq x y ≡ false → xs ≡ ys → ⊥
differ_at xs ys n x y at_x at_y different same =
    let equal : x ≡ y = sym at_x ∙ ap (λ zs. get_or zs n []) same ∙ at_y in
    false≢true (sym different ∙ (bytes_eq-Decides x y).1 equal)

-- lists that are the same up to n, and have the same text there, are the same up to n + 1
same_more : (xs ys : List (List ℕ)) (n : ℕ) (x y : List ℕ) → n < length xs → n < length ys → get_or xs n [] ≡ x → get_or ys n [] ≡ y → bytes_eq x y ≡ true →
    take n xs ≡ take n ys → take (n + 1) xs ≡ take (n + 1) ys
same_more xs ys n x y in_xs in_ys at_x at_y equal so_far =
    take_more_same xs ys n [] in_xs in_ys so_far (at_x ∙ (bytes_eq-Decides x y).0 equal ∙ sym at_y)

-- the words of this turn, and what stands at its place in both lists
record Turn (xs ys : List (List ℕ)) (n : ℕ) (x y : List ℕ) : Type 0 where
  pub in_xs : n < length xs
  pub in_ys : n < length ys
  pub at_x : get_or xs n [] ≡ x
  pub at_y : get_or ys n [] ≡ y

turn : (c : After-ne) → Turn c.args.self.now (map (λ word. word.now) c.args.words.now) (length c.loop-given.yielded) c.as_str.result.now c.in-Some.word.now.now
turn c =
    let t = zip_turn c.self.inside.words.items c.args.words.now c.loop-given.yielded c.into_iter-given-iterator.result c.loop-given.given-iterator
    c.next.new.self _ (cc) (cc) c.loop-given.yielded_by _ c.in-Some.is c.next.ensures.steps in
    let given = get_or-map_at string_bytes _ _ _ t.0 t.2 ∙ sym c.as_str.ensures.value in
    record {
      in_xs = subst (λ (xs : List (List ℕ)). length c.loop-given.yielded < length xs) c.self.view_is
          (rw (length-map c.self.inside.words.items string_bytes) t.0);
      in_ys = rw length-map t.1;
      at_x = ap (λ (xs : List (List ℕ)). get_or xs (length c.loop-given.yielded) []) (sym c.self.view_is) ∙ given;
      at_y = get_or-map_at (λ word. word.now) _ _ _ t.1 t.3;
    }

pub returns-then-ne : goal.returns-then-ne
returns-then-ne c =
    let t = turn (goal.at.returns-then-ne c).After-ne in
    (λ e. absurd (false≢true e), λ same. absurd (differ_at _ _ _ _ _ t.at_x t.at_y (not-true _ c.if-ne.ensures) same))

pub loop-given-preserved : goal.loop-given-preserved
loop-given-preserved c =
    let t = turn (goal.at.loop-given-preserved c).After-ne in
    rw (length_push c.loop-given.yielded (c.in-Some.given, c.in-Some.word))
    (same_more _ _ _ _ _ t.in_xs t.in_ys t.at_x t.at_y (not-false _ c.if-ne.ensures) c.loop-given.invariant)
