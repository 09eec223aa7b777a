-- What an operation knows of the words makes its exchange one of the three.
use Rattle.std.proofs.Common.{◌≡◌, ℕ, ◌+◌, ◌*◌, ◌/◌, ◌%◌, ◌^◌, ◌==◌, ◌<◌, ◌≤◌, false, List, Option, refl, sym, ap, ◌∙◌, inl, inr, arith, subst}
use Rattle.std.proofs.lemmas.Bool.{ne_eqb}
use Rattle.flit_words.specs.declared.layouts.Layout.{Layout}
use Rattle.flit_words.specs.declared.limits.TheConstants.{GREATEST_KEY}
use Rattle.flit_words.specs.Links.{link_of, link_value}
use Rattle.flit_words.specs.Layouts.{head_of_key}
use Rattle.flit_model.specs.Lists.{key_in, row_value_in}
use Rattle.flit_model.specs.declared.calls.Call.TheVariants.{Insert, Remove}
use Rattle.flit_list_heap.specs.Links.{LinkWord, Next, low, row_of, is_marked}
use Rattle.flit_list_heap.specs.Moves.{plain_link}
use Rattle.flit_list_heap.specs.Keeping.{ListHeap, rows_at, shadow_in, Kept}
use Rattle.flit_list_heap.specs.Winning.{MayChange}
use Rattle.flit_list_heap.specs.Seeing.{IsBehind, at_head, at_row, StillHolds, StandsStill}
use Rattle.flit_list_heap.specs.Laws.{SearchesUnlink, RemovesMark, InsertsLink}
use Rattle.flit_list_heap.proofs.Seen.{rests_if, marked_rests, leads_settled, behind_rooted}

-- the link of a plain link's value
row_below : (raw : ℕ) → row_of raw < 2 ^ 22
unfolding row_of
row_below raw = omega arith

same_row : (r : ℕ) → r < 2 ^ 22 → (0 * 2 ^ 24 + 4 * r + 2 * 0 + 0) / 4 % 2 ^ 22 ≡ r
same_row r b = omega (arith, b)

no_mark : (r : ℕ) → ((0 * 2 ^ 24 + 4 * r + 2 * 0 + 0) % 2 == 1) ≡ false
no_mark r = ne_eqb ((0 * 2 ^ 24 + 4 * r + 2 * 0 + 0) % 2) 1 (omega arith)

no_frozen : (r : ℕ) → ((0 * 2 ^ 24 + 4 * r + 2 * 0 + 0) / 2 % 2 == 1) ≡ false
no_frozen r = ne_eqb ((0 * 2 ^ 24 + 4 * r + 2 * 0 + 0) / 2 % 2) 1 (omega arith)

no_name : (r : ℕ) → r < 2 ^ 22 → (0 * 2 ^ 24 + 4 * r + 2 * 0 + 0) / 2 ^ 24 ≡ 0
no_name r b = omega (arith, b)

plain_of_value : (r : ℕ) → r < 2 ^ 22 → link_of (link_value (plain_link r)) ≡ plain_link r
plain_of_value r b = rw (same_row r b, no_mark r, no_frozen r, no_name r b) refl

module _ (l : Layout) (free : List ℕ) (h : ListHeap) (kept : Kept l free h) (key : ℕ) where
  above : (back : Option (LinkWord × ℕ)) (pred : LinkWord) → IsBehind l h key back pred → low (rows_at l h) pred ≤ key
  above _ _ at_head = omega arith
  above _ _ (at_row b v s u some less) = next (key_in l h.words (row_of v)) key less
    where
      next : (a b : ℕ) → a < b → a + 1 ≤ b
      next a b i = omega (arith, i)

  changes_pred : (back : Option (LinkWord × ℕ)) (pred : LinkWord) (c to : ℕ) → StandsStill l h key back pred c → StillHolds l h pred c to →
      MayChange l h pred c to
  changes_pred back pred c to s k = record {
    link = s.spot.saw.link;
    word = k.word;
    shadow = rests_if l free h kept key pred c s.spot.saw k.persistent k.word;
    unmarked = s.spot.unmarked;
    rooted = behind_rooted l free h kept key back pred s.spot.behind s.back_persistent;
    bare = k.bare;
    next = k.next;
  }

pub unlinks : SearchesUnlink
unlinks l free h key back pred c n to kept s k next persistent link =
    let e : shadow_in l h (Next (row_of c)) ≡ n = marked_rests l free h kept key (Next (row_of c)) n next.saw persistent next.mark in record {
      change = changes_pred l free h kept key back pred c to s k;
      some = next.some;
      marked = ap is_marked e ∙ next.mark;
      link = link ∙ ap (λ u. plain_link (row_of u)) (sym e);
    }

pub marks : RemovesMark
marks l free h key back pred c n to update kept s persistent next k is call reply name link = record {
  change = record {
    link = next.saw.link;
    word = k.word;
    shadow = rests_if l free h kept key (Next (row_of c)) n next.saw k.persistent k.word;
    unmarked = next.mark;
    rooted = leads_settled l free h kept key pred c s.spot.saw persistent next.some;
    bare = k.bare;
    next = k.next;
  };
  call = call ∙ ap Remove (sym is);
  reply = reply;
  name = name;
  link = link;
}

pub links : InsertsLink
links l free h key back pred c row to update kept s k past rests small is behind call reply link = record {
  change = changes_pred l free h kept key back pred c to s k;
  rests = rests;
  call = call ∙ ap (λ a. Insert a (row_value_in l h.words row)) (sym is);
  reply = reply;
  small = subst (λ a. a ≤ GREATEST_KEY) (sym is) small;
  above = subst (λ a. low (rows_at l h) pred ≤ a) (sym is) (above l free h kept key back pred s.spot.behind);
  bucket = ap (head_of_key l) is ∙ sym s.spot.saw.bucket;
  below = elim past [ inl z ↦ inl z | inr i ↦ inr (subst (λ a. a < key_in l h.words (row_of c)) (sym is) i) ];
  behind = ap link_of behind ∙ plain_of_value (row_of c) (row_below c);
  link = link;
}
