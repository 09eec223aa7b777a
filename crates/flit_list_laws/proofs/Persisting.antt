-- What an exchange of a call has written is written back.
use Rattle.std.proofs.Common.{◌≡◌, ℕ, Option, ◌+◌, ◌≤◌, List, refl, sym, ◌∙◌, subst, arith}
use Rattle.flit_words.specs.declared.layouts.Layout.{Layout}
use Rattle.flit_words.specs.Words.{version_of}
use Rattle.flit_model.specs.declared.calls.Reply.{Reply}
use Rattle.flit_model.specs.declared.calls.Entry.{Entry}
use Rattle.flit_pv.specs.Hands.{with_persist}
use Rattle.flit_pv.specs.Exchanges.{HeldExchange}
use Rattle.flit_pv.specs.declared.exchanges.Exchanging.TheVariants.{WritesBack, Withdraws}
use Rattle.flit_runs.specs.Workings.{Exchanges}
use Rattle.flit_crew.specs.Heaps.{at_shadow}
use Rattle.flit_crew.specs.Machines.{Works, HasWon, exchange_part}
use Rattle.flit_crew.specs.Crews.{Who}
use Rattle.flit_list_steps.specs.declared.operations.Path.{Path}
use Rattle.flit_list_steps.specs.Operations.{At, Head, Next, Key, Confirming, Help, Row, Words, RowValue, Link, Mark, Tidy, Value, Ends, Rests}
use Rattle.flit_list_heap.specs.Links.{LinkWord, Next as Next_word}
use Rattle.flit_list_heap.specs.Chained.{Shape, Solid, Linking, Marking, Unlinking}
use Rattle.flit_list_heap.specs.Keeping.{ListHeap, Kept, rows_at, word_in, shadow_in, entry_in}
use Rattle.flit_list_laws.specs.Walks.{Loaded, Walk}
use Rattle.flit_list_laws.specs.Knowing.{row_after, HelpAt, MarkAt, Marked}
use Rattle.flit_list_laws.specs.ListAnatomy.{machine_at, with_exchange}
use Rattle.flit_list_laws.specs.ListCrew.{KnowsAt}
use Rattle.flit_list_laws.proofs.Going.{StaysSo, help_on, marked_on}

-- a word that isn't above its shadow isn't ahead of it
too_late : (a b : ℕ) → a ≤ b → version_of a ≡ version_of b + 1 → ⊥
too_late a b i e = omega (arith, i, e)

module _ (l : Layout) (free : List ℕ) (h : ListHeap) (kept : Kept l free h) (me : Who) (reply : Reply) (path : Path) (w : Walk) (n : Loaded)
    (m : HeldExchange) (stage : m.at ≡ WritesBack) (back : m.to ≤ at_shadow h m.word) where
  abbrev after : HeldExchange
  after = record m { at = Withdraws; hand = with_persist m.hand }

  stays : StaysSo m after
  stays = record { word = refl; from = refl; to = refl; spare = refl }

  abbrev x : LinkWord
  x = Next_word (row_after w)

  rests : (e : Option Entry) → Shape (rows_at l h) h.ghost (word_in l h) (shadow_in l h) x e → word_in l h x ≤ shadow_in l h x → shadow_in l h x ≡ word_in l h x
  rests e (Solid q none) i = sym q
  rests e (Linking s) i = absurd (too_late (word_in l h x) (shadow_in l h x) i s.ahead.version)
  rests e (Marking s) i = absurd (too_late (word_in l h x) (shadow_in l h x) i s.ahead.version)
  rests e (Unlinking s) i = absurd (too_late (word_in l h x) (shadow_in l h x) i s.ahead.version)

  mark_rests : Marked l h me w n m → shadow_in l h x ≡ m.to
  mark_rests f = rests (entry_in l h x) (kept.chained.shapes x f.linked)
      (subst (λ t. t ≤ shadow_in l h x) f.is (subst (λ v. m.to ≤ at_shadow h v) f.word back)) ∙ sym f.is

  same_one : (y : HeldExchange) → Works (Exchanges y) ≡ Works (Exchanges m) → y ≡ m
  same_one y e = cc

  pub writes_at : (at : At) → machine_at at ≡ Works (Exchanges m) → KnowsAt l h me reply path w n at →
      KnowsAt l h me reply path w n (with_exchange at after)
  writes_at (Head y) e f = absurd (cc)
  writes_at (Next y) e f = absurd (cc)
  writes_at (Key y) e f = absurd (cc)
  writes_at (Confirming goal which y) e f = absurd (cc)
  writes_at (Help y) e f =
      let g : KnowsAt l h me reply path w n (Help m) = subst (λ z. KnowsAt l h me reply path w n (Help z)) (same_one y e) f in
      let won : HelpAt l h me w n m HasWon = subst (λ a. HelpAt l h me w n m (exchange_part a)) stage g.2 in
      (g.0, g.1, help_on l h me w n m after stays HasWon won)
  writes_at (Row y) e f = absurd (cc)
  writes_at (Words y) e f = absurd (cc)
  writes_at (RowValue y) e f = absurd (cc)
  writes_at (Link y) e f = (f.0, tt, tt)
  writes_at (Mark y) e f =
      let g : KnowsAt l h me reply path w n (Mark m) = subst (λ z. KnowsAt l h me reply path w n (Mark z)) (same_one y e) f in
      let won : MarkAt l h me w n m HasWon = subst (λ a. MarkAt l h me w n m (exchange_part a)) stage g.3 in
      (g.0, g.1, g.2, (marked_on l h me w n m after stays won, mark_rests won))
  writes_at (Tidy y) e f = (f.0, tt)
  writes_at (Value y) e f = absurd (cc)
  writes_at (Ends y) e f = absurd (cc)
  writes_at (Rests hand) e f = absurd (cc)
