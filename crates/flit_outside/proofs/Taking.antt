-- How the bytes of one read or write after another add up, where the source or the sink tells them.
use Rattle.std.proofs.Common.{◌≡◌, ℕ, ◌+◌, ◌<◌, ◌≤◌, List, [], ◌++◌, length, take, drop, Option, None, Some, IfSome, sym, ap, ◌∙◌, arith, append_assoc, length-drop, refl}
use Rattle.std.proofs.lemmas.List.{drop-drop, take_all, drop_all}
use Rattle.std.proofs.Math.Seq.{take-add}
use Rattle.flit_outside.specs.Outside.{Appends}

-- what was taken since the start, after one more write
pub IfSome-taken_more : (start now new : Option (List ℕ)) (bytes piece : List ℕ) (w n : ℕ) → piece ≡ drop w bytes →
    IfSome start (λ before. now ≡ Some (before ++ take w bytes)) → IfSome now (λ taken. new ≡ Some (taken ++ take n piece)) →
    IfSome start (λ before. new ≡ Some (before ++ take (w + n) bytes))
IfSome-taken_more None now new bytes piece w n is_rest so_far told = tt
IfSome-taken_more (Some before) now new bytes piece w n is_rest so_far told =
    let added : (before ++ take w bytes) ++ take n piece ≡ before ++ take (w + n) bytes = rw (is_rest, append_assoc, take-add) refl in
    (rw so_far at told) ∙ ap (λ (taken : List ℕ). Some taken) added

-- one read after another
pub Appends-join : (input : List ℕ) (n m : ℕ) (xs ys zs : List ℕ) (new : Option (List ℕ)) → n ≤ length input → ys ≡ xs ++ take n input →
    Appends (drop n input) m ys zs new → Appends input (n + m) xs zs new
Appends-join input n m xs ys zs new in_input front more = record {
  within = omega (arith, more.within, length-drop n input);
  behind = more.behind ∙ ap (λ (bs : List ℕ). bs ++ take m (drop n input)) front ∙ rw (append_assoc, take-add) refl;
  rest = more.rest ∙ ap (λ (bs : List ℕ). Some bs) (drop-drop m n input);
}

-- what was read since the start, after one more read
pub IfSome-read_more : (start now new : Option (List ℕ)) (n m : ℕ) (xs ys zs : List ℕ) → IfSome start (λ input. Appends input n xs ys now) →
    IfSome now (λ input. Appends input m ys zs new) → IfSome start (λ input. Appends input (n + m) xs zs new)
IfSome-read_more None now new n m xs ys zs so_far told = tt
IfSome-read_more (Some input) now new n m xs ys zs so_far told =
    Appends-join input n m xs ys zs new so_far.within so_far.behind (rw so_far.rest at told)

-- nothing is left past n, and n is within the limit: what was read is the front up to the limit, and the rest past it is left
pub Appends-at_end : (input : List ℕ) (n limit : ℕ) (xs : List ℕ) (left : Option (List ℕ)) → n ≤ limit → drop n input ≡ [] → Appends input n [] xs left →
    (xs ≡ take limit input) × (left ≡ Some (drop limit input))
Appends-at_end input n limit xs left in_limit over read =
    let short : length input ≤ n = omega (arith, length-drop n input, ap length over) in (
      read.behind ∙ take_all n input short ∙ sym (take_all limit input (omega arith)),
      read.rest ∙ ap (λ (bs : List ℕ). Some bs) (over ∙ sym (drop_all limit input (omega arith))),
    )

-- the last read, which gave nothing into some room, since nothing was left
pub IfSome-read_end : (start now new : Option (List ℕ)) (n m limit room : ℕ) (ys zs : List ℕ) → n ≤ limit → m ≡ 0 → 0 < room →
    IfSome start (λ input. Appends input n [] ys now) → IfSome now (λ input. Appends input m ys zs new) → IfSome now (λ input. m ≡ 0 → 0 < room → input ≡ []) →
    IfSome start (λ input. (zs ≡ take limit input) × (new ≡ Some (drop limit input)))
IfSome-read_end None now new n m limit room ys zs in_limit none has_room so_far told end = tt
IfSome-read_end (Some input) now new n m limit room ys zs in_limit none has_room so_far told end =
    let last : Appends (drop n input) m ys zs new = rw so_far.rest at told in
    let over : m ≡ 0 → 0 < room → drop n input ≡ [] = rw so_far.rest at end in
    let read : Appends input (n + m) [] zs new = Appends-join input n m [] ys zs new so_far.within so_far.behind last in
    let same : n + m ≡ n = omega arith in
    Appends-at_end input n limit zs new in_limit (over none has_room) (rw same at read)
