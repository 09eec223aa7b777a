-- What the map had for a key: it lasts, it comes of what a leaf tells, and what was seen is had once it is persistent.
use Rattle.std.proofs.Common.{◌≡◌, ◌⊎◌, ℕ, ◌+◌, ◌≤◌, Bool, true, false, cond, List, [], ◌∷◌, ◌++◌, length, take, Option, Some, None, refl, sym, ap, subst, ◌∙◌, arith, inl, inr, append_assoc}
use Rattle.std.proofs.Math.Seq.{take-append_seam}
use Rattle.std.proofs.lemmas.List.{take-append-le, take_all, length-append}
use Rattle.std.specs.FinMap as fin
use Rattle.flit_words.specs.declared.layouts.Layout.{Layout}
use Rattle.flit_words.specs.Layouts.{value_word_of}
use Rattle.flit_words.specs.Words.{value_of, version_of}
use Rattle.flit_model.specs.declared.calls.Call.TheVariants.{Insert}
use Rattle.flit_model.specs.declared.calls.Entry.{Entry}
use Rattle.flit_model.specs.Histories.{is_update}
use Rattle.flit_model.specs.Maps.{Map, key_of, map_after, map_after_all}
use Rattle.flit_model.proofs.Legal.{legal_behind, map_after_all-append}
use Rattle.flit_runs.specs.Workings.{Dependency}
use Rattle.flit_runs.specs.Soundness.{Needs}
use Rattle.flit_structure.specs.Lawful.{StandsFrom}
use Rattle.flit_crew.specs.Heaps.{at_word, at_shadow}
use Rattle.flit_tree_heap.specs.Views.{TreeHeap, settled_map, IsLinked}
use Rattle.flit_tree_heap.specs.Kept.{IsKept}
use Rattle.flit_tree_heap.specs.Later.{IsLater}
use Rattle.flit_tree_heap.specs.Exchanges.{key_now, ArePersistent}
use Rattle.flit_tree_heap.specs.Searches.{value_now, IsInserted, IsAnswered}
use Rattle.flit_tree_heap.proofs.Maps.{gives, has_after}
use Rattle.flit_tree_knowing.specs.Positions.{Had, Saw, Tells}

at_most : (a b c : ℕ) → a ≤ b → b ≤ c → a ≤ c
at_most a b c i j = omega (arith, i, j)

equal : (n : ℕ) → n ≤ n
equal n = omega arith

pub had_now : (h : TreeHeap) (first key : ℕ) (o : Option ℕ) → first ≤ length h.progress.settled → fin.get (settled_map h) key ≡ o → Had h first key o
had_now h first key o early e = (
  length h.progress.settled,
  early,
  equal (length h.progress.settled),
  ap (λ es. fin.get (map_after_all h.opening.content es) key) (take_all (length h.progress.settled) h.progress.settled (equal (length h.progress.settled))) ∙ e,
)

-- what a leaf tells, by what it answers now
pub tells_now : (l : Layout) (h : TreeHeap) (needs : List Dependency) (first key leaf : ℕ) → first ≤ length h.progress.settled →
    IsAnswered l h needs key leaf → Tells l h needs first key leaf
tells_now l h needs first key leaf early a = record {
  absent = λ n. inl (had_now h first key None early (a.absent n));
  present = λ e. elim (a.present e) [
    | inl x ↦ inl (had_now h first key (Some (value_now l h leaf)) early x)
    | inr x ↦ inr (value_now l h leaf, refl, x)
  ];
}

module _ (l : Layout) (free : List ℕ) (who : Option ℕ) (h k : TreeHeap) (K : IsKept l free h) (N : IsKept l free k) (L : IsLater l free who h k) where
  pub longer : length h.progress.settled ≤ length k.progress.settled
  longer = subst (λ es. length h.progress.settled ≤ length es) (sym L.settled.1) (more (length h.progress.settled) (length L.settled.0)
      (length (h.progress.settled ++ L.settled.0)) (length-append h.progress.settled L.settled.0))
    where
      more : (a b c : ℕ) → c ≡ a + b → a ≤ c
      more a b c e = omega (arith, e)

  had_lasts : (first key : ℕ) (o : Option ℕ) → Had h first key o → Had k first key o
  had_lasts first key o p = (
    p.0,
    p.1,
    at_most p.0 (length h.progress.settled) (length k.progress.settled) p.2 longer,
    ap (λ c. fin.get (map_after_all c.content (take p.0 k.progress.settled)) key) L.opening
        ∙ ap (λ es. fin.get (map_after_all h.opening.content (take p.0 es)) key) L.settled.1
        ∙ ap (λ es. fin.get (map_after_all h.opening.content es) key) (take-append-le p.0 h.progress.settled L.settled.0 p.2) ∙ p.3,
  )

  -- an insert that is settled has put its value
  module _ (first key value : ℕ) (early : first ≤ length h.progress.settled) (e : Entry) (update : is_update e ≡ true) (call : e.call ≡ Insert key value)
      (s : StandsFrom (length h.progress.settled) k.progress.settled e) where
    abbrev front : List Entry
    front = s.0

    abbrev back : List Entry
    back = s.1

    split : k.progress.settled ≡ (front ++ e ∷ []) ++ back
    split = s.2 ∙ sym (append_assoc front (e ∷ []) back)

    -- the map before it
    abbrev before : Map
    before = map_after_all k.opening.content front

    put : fin.get (map_after before e.call) key ≡ Some value
    put =
        let legal = legal_behind k.opening.content front (e ∷ back) (subst (Rattle.flit_model.specs.Maps.IsLegal k.opening.content) s.2 N.settled) in
        subst (λ q. fin.get (map_after before e.call) q ≡ Some value) (ap key_of call) (has_after before e.call e.reply update legal.0 ∙ ap gives call)

    long : first ≤ length (front ++ e ∷ [])
    long = later (length front) (length (front ++ e ∷ [])) (length-append front (e ∷ [])) s.3
      where
        later : (a c : ℕ) → c ≡ a + 1 → length h.progress.settled ≤ a → first ≤ c
        later a c q i = omega (arith, q, i, early)

    within : length (front ++ e ∷ []) ≤ length k.progress.settled
    within = shorter (length (front ++ e ∷ [])) (length back) (length k.progress.settled) (ap length split ∙ length-append (front ++ e ∷ []) back)
      where
        shorter : (a b c : ℕ) → c ≡ a + b → a ≤ c
        shorter a b c q = omega (arith, q)

    stood : Had k first key (Some value)
    stood = (
      length (front ++ e ∷ []),
      long,
      within,
      ap (λ es. fin.get (map_after_all k.opening.content (take (length (front ++ e ∷ [])) es)) key) split
          ∙ ap (λ es. fin.get (map_after_all k.opening.content es) key) (take-append_seam (front ++ e ∷ []) back)
          ∙ ap (λ m. fin.get m key) (map_after_all-append k.opening.content front (e ∷ [])) ∙ put,
    )

  inserted_lasts : (needs : List Dependency) (first key value : ℕ) → first ≤ length h.progress.settled → IsInserted h needs key value →
      Had k first key (Some value) ⊎ IsInserted k needs key value
  inserted_lasts needs first key value early s = elim (L.waits s.word s.entry s.waits) [
    | inl x ↦ inr (record {
      word = s.word;
      entry = s.entry;
      waits = x.0;
      needed = subst (λ q. Needs needs s.word (version_of q)) (sym x.1) s.needed;
      call = s.call;
    })
    | inr x ↦ inl (stood first key value early s.entry (K.waits s.word s.entry s.waits).update s.call x)
  ]

  pub saw_lasts : (needs : List Dependency) (first key : ℕ) (o : Option ℕ) → first ≤ length h.progress.settled → Saw h needs first key o →
      Saw k needs first key o
  saw_lasts needs first key o early s = elim s [
    | inl x ↦ inl (had_lasts first key o x)
    | inr x ↦ elim (inserted_lasts needs first key x.0 early x.2) [
      | inl y ↦ inl (subst (Had k first key) (sym x.1) y)
      | inr y ↦ inr (x.0, x.1, y)
    ]
  ]

  pub key_lasts : (row : ℕ) → IsLinked l h row → key_now l k row ≡ key_now l h row
  key_lasts row i = ap value_of (L.rows row i).key

  pub value_lasts : (row : ℕ) → IsLinked l h row → value_now l k row ≡ value_now l h row
  value_lasts row i = by_values l.values refl
    where
      by_values : (b : Bool) → l.values ≡ b → cond b (value_of (at_word k (value_word_of l row))) 0 ≡ cond b (value_of (at_word h (value_word_of l row))) 0
      by_values true e = ap value_of ((L.rows row i).value e)
      by_values false e = refl

  pub tells_lasts : (needs : List Dependency) (first key leaf : ℕ) → first ≤ length h.progress.settled → IsLinked l h leaf → Tells l h needs first key leaf →
      Tells l k needs first key leaf
  tells_lasts needs first key leaf early i t = record {
    absent = λ n. saw_lasts needs first key None early (t.absent (λ e. n (key_lasts leaf i ∙ e)));
    present = λ e. subst (λ v. Saw k needs first key (Some v)) (sym (value_lasts leaf i))
        (saw_lasts needs first key (Some (value_now l h leaf)) early (t.present (sym (key_lasts leaf i) ∙ e)));
  }

-- an update that waits at a persistent word is none
pub seen_had : (l : Layout) (free : List ℕ) (h : TreeHeap) → IsKept l free h → (needs : List Dependency) → ArePersistent h needs →
    (first key : ℕ) (o : Option ℕ) →
    Saw h needs first key o → Had h first key o
seen_had l free h K needs P first key o s = elim s [
  | inl x ↦ x
  | inr x ↦ absurd (late (version_of (at_word h x.2.word)) (version_of (at_shadow h x.2.word)) (K.waits x.2.word x.2.entry x.2.waits).ahead
      (P x.2.word (version_of (at_word h x.2.word)) x.2.needed))
]
  where
    late : (a b : ℕ) → a ≡ b + 1 → a ≤ b → ⊥
    late a b e i = omega (arith, e, i)
