-- What an update that is made by a won Exchange leaves of the words and of the updates that wait; and what of the heap that
-- sees them.
use Rattle.std.proofs.Common.{◌≡◌, ⊎_elim, ℕ, ◌<◌, ◌==◌, ◌&&◌, Bool, true, false, cond, List, length, Option, Some, None, refl, sym, ◌∙◌, ap, if◌then◌else◌}
use Rattle.std.proofs.lemmas.Bool.{false≢true, eqb-true, eq-eqb}
use Rattle.std.proofs.lemmas.Option.{none-some, same_Some}
use Rattle.std.specs.FinMap as fin
use Rattle.flit_words.specs.declared.layouts.Layout.{Layout}
use Rattle.flit_words.specs.Words.{value_of, bare_of}
use Rattle.flit_words.specs.Links.{link_of}
use Rattle.flit_model.specs.Lists.{link_in, next_word, is_removed}
use Rattle.flit_model.specs.States.{State, word_at}
use Rattle.flit_model.specs.Effects.{after}
use Rattle.flit_model.specs.Settling.{Progress, progress_after, takes_effect}
use Rattle.flit_model.specs.declared.events.Event.{Event}
use Rattle.flit_model.specs.declared.events.Event.TheVariants.{Load, ReadTag, Raise, Lower, Exchange, Persist, Store, Draw}
use Rattle.flit_model.specs.declared.calls.Call.{Call}
use Rattle.flit_model.specs.declared.calls.Entry.{Entry}
use Rattle.flit_place.proofs.CoverSteps.{index-set, won_after}
use Rattle.flit_structure.specs.declared.workers.Doing.TheVariants.{Busy}
use Rattle.flit_structure.specs.Moments.{Moment, update_of}
use Rattle.flit_structure.specs.Meanings.{Meaning}
use Rattle.flit_structure.proofs.Growing.{get_put}
use Rattle.flit_crew.specs.Heaps.{heap_of}
use Rattle.flit_crew.proofs.WritingBack.{word_bare}
use Rattle.flit_list_steps.specs.Operations.{HeldOp}
use Rattle.flit_list_heap.specs.Links.{Next, row_of, is_marked, by_of}
use Rattle.flit_list_heap.specs.Keeping.{ListHeap, word_in, shadow_in}
use Rattle.flit_list_heap.proofs.Recovering.{mark_is}
use Rattle.flit_list_laws.proofs.Raws.{value_bare, raw_mark}
use Rattle.flit_marked_laws.specs.Marked.{if_won, update_in}

-- ---- an Exchange that is won

pub record IsWon (m : State) (e : Event) (o : Option Entry) (x : Entry) : Type 0 where
  pub word : ℕ
  pub from : ℕ
  pub to : ℕ
  pub event : e ≡ Exchange word from to
  pub found : word_at m word ≡ from
  pub update : o ≡ Some x

pub is_won : (m : State) (e : Event) (o : Option Entry) (x : Entry) → if_won m e o ≡ Some x → IsWon m e o x
is_won m (Exchange word from to) o x q = by_test (word_at m word == from) refl q
  where
    by_test : (t : Bool) → (word_at m word == from) ≡ t → (if t then o else None) ≡ Some x → IsWon m (Exchange word from to) o x
    by_test true s k = record { word = word; from = from; to = to; event = refl; found = eqb-true (word_at m word) from s; update = k }
    by_test false s k = absurd (none-some x k)
is_won m (Load word) o x q = absurd (none-some x q)
is_won m (ReadTag slot) o x q = absurd (none-some x q)
is_won m (Raise slot) o x q = absurd (none-some x q)
is_won m (Lower slot) o x q = absurd (none-some x q)
is_won m (Persist word kept) o x q = absurd (none-some x q)
is_won m (Store word to) o x q = absurd (none-some x q)
is_won m Draw o x q = absurd (none-some x q)

pub won_word : (m : State) (word from to : ℕ) → word_at m word ≡ from → word < length m.words → word_at (after m (Exchange word from to)) word ≡ to
won_word m word from to found below = ap (λ s. word_at s word) (won_after m word from to found)
    ∙ ⊎_elim (λ i. i.1) (λ i. absurd (i.0 refl)) (index-set m.words word to word below)

pub won_waits : (p : Progress) (m : State) (word from to : ℕ) (x : Entry) → word_at m word ≡ from →
    fin.get (progress_after p m (Exchange word from to) (Some x)).waiting word ≡ Some x
won_waits p m word from to x found =
    ap (λ t. fin.get (if t then takes_effect p word (Some x) else p).waiting word) (eq-eqb (word_at m word) from found)
    ∙ get_put p.waiting word x word ∙ ap (λ t. cond t (Some x) (fin.get p.waiting word)) (eq-eqb word word refl)

-- ---- a call that takes effect on a row

pub record TakesEffect {Op : Type 0} (meaning : Meaning Op) (row_of : Op → ℕ) (such : ℕ → Call → Bool) (row name number : ℕ) (op : Op) (call : Call)
    (x : Entry) :
    Type 0 where
  pub effect : meaning.effect op ≡ true
  pub such_is : such name call ≡ true
  pub row_is : row_of op ≡ row
  pub update : update_of name number call ≡ x

both_true : (a b : Bool) → (a && b) ≡ true → (a ≡ true) × (b ≡ true)
both_true true b e = (refl, e)
both_true false b e = absurd (false≢true e)

pub takes_effect_on : {Op : Type 0} (meaning : Meaning Op) (row_of : Op → ℕ) (such : ℕ → Call → Bool) (row name number : ℕ) (op : Op) (call : Call)
    (begun : Option ℕ) (x : Entry) →
    update_in meaning row_of such row name number (Busy op call begun) ≡ Some x → TakesEffect meaning row_of such row name number op call x
takes_effect_on meaning row_of such row name number op call begun x q = by_test (meaning.effect op && (such name call && (row_of op == row))) refl q
  where
    by_test : (t : Bool) → (meaning.effect op && (such name call && (row_of op == row))) ≡ t →
        (if t then Some (update_of name number call) else None) ≡ Some x →
        TakesEffect meaning row_of such row name number op call x
    by_test true s k =
        let a = both_true (meaning.effect op) (such name call && (row_of op == row)) s in
        let b = both_true (such name call) (row_of op == row) a.1 in
        record { effect = a.0; such_is = b.0; row_is = eqb-true (row_of op) row b.1; update = same_Some (update_of name number call) x k }
    by_test false s k = absurd (none-some x k)

pub effect_so : (effect : Bool) (x y : Entry) → effect ≡ true → x ≡ y → (if effect then Some x else None) ≡ Some y
effect_so true x y e s = ap Some s
effect_so false x y e s = absurd (false≢true e)

-- ---- the heap sees the links of the words, without their tags, and those of the shadows

pub raw_by : (raw : ℕ) → (link_of (value_of raw)).by ≡ by_of (bare_of raw)
unfolding by_of
raw_by raw = ap (λ v. (link_of v).by) (sym (value_bare raw))

pub raw_leads : (raw : ℕ) → (link_of (value_of raw)).row ≡ row_of (bare_of raw)
unfolding row_of
raw_leads raw = ap (λ v. (link_of v).row) (sym (value_bare raw))

pub by_is : (raw : ℕ) → (link_of (value_of raw)).by ≡ by_of raw
unfolding by_of
by_is raw = refl

module _ (l : Layout) (M : Moment HeldOp) (given : List ℕ) (ghost : ℕ → Bool) (row : ℕ) where
  abbrev h : ListHeap
  h = heap_of M given ghost

  pub word_marked : is_removed l M.state.words row ≡ is_marked (word_in l h (Next row))
  word_marked = raw_mark (word_at M.state (next_word l row)) ∙ ap is_marked (sym (word_bare M.state.words (next_word l row)))

  pub word_by : (link_in M.state.words (next_word l row)).by ≡ by_of (word_in l h (Next row))
  word_by = raw_by (word_at M.state (next_word l row)) ∙ ap by_of (sym (word_bare M.state.words (next_word l row)))

  pub shadow_marked : is_removed l M.state.shadows row ≡ is_marked (shadow_in l h (Next row))
  shadow_marked = mark_is (shadow_in l h (Next row))

  pub shadow_by : (link_in M.state.shadows (next_word l row)).by ≡ by_of (shadow_in l h (Next row))
  shadow_by = by_is (shadow_in l h (Next row))
