-- What one turn leaves as it was, and what grows.
use Rattle.std.proofs.Common.{◌≡◌, ◌⊎◌, inl, inr, ℕ, zero, suc, ◌+◌, ◌<◌, ◌==◌, ◌^◌, max, Bool, true, false, cond, List, [], ◌∷◌, ◌++◌, length, map, refl, sym, ◌∙◌, ap, subst, arith, Option, Some, None, slice_index, append-nil, length-append}
use Rattle.std.proofs.Math.ListN.{set}
use Rattle.std.specs.List.{AllByRecursion, Contains}
use Rattle.std.specs.FinMap as fin
use Rattle.flit_model.specs.Maps.{Map, map_after, map_after_all}
use Rattle.flit_model.specs.States.{State, word_at, shadow_at}
use Rattle.flit_model.specs.Effects.{after, with_word}
use Rattle.flit_model.specs.declared.calls.Entry.{Entry}
use Rattle.flit_model.specs.declared.calls.Item.{Item}
use Rattle.flit_model.specs.declared.events.Event.{Event}
use Rattle.flit_model.specs.declared.events.Event.TheVariants.{Load, ReadTag, Raise, Lower, Exchange, Persist, Store, Draw}
use Rattle.flit_model.proofs.Legal.{map_after_all-append}
use Rattle.flit_structure.specs.Meanings.{Meaning, key_of}
use Rattle.flit_structure.specs.declared.workers.Doing.{Doing}
use Rattle.flit_structure.specs.declared.workers.Doing.TheVariants.{Idle, Busy, Evicting}
use Rattle.flit_structure.specs.declared.workers.Worker.{Worker}
use Rattle.flit_sched.specs.declared.players.Player.{Player}
use Rattle.flit_sched.specs.declared.players.Waiting.{Waiting}
use Rattle.flit_sched.specs.Kept.{AllRaw, IsRawEvent, IsBook, IsKeptPlayer, IsAtItem, pairs_waiting, items_of, over_of}
use Rattle.flit_sched.specs.Settled.{Settles, nothing_raised, nothing_waits, one_settles}
use Rattle.flit_sched.proofs.PlayerLaws.{IsAlike, AreAlike, Lasts}
use Rattle.flit_sched.proofs.KeptLaws.{take_front}

-- settled updates only grow
pub settles_grows : {W : Type 0} (keys : List ℕ) (r : Option ℕ) (players : List (Player W)) (settled : List Entry) (values : List (Option ℕ))
    (later : List (Player W)) (grown : List Entry) (changed : List (Option ℕ)) →
    Settles keys r players settled values later grown changed → (more : List Entry) × (grown ≡ settled ++ more)
settles_grows keys r players settled values later grown changed (nothing_raised e h) = ([], h.settled_same ∙ sym (append-nil settled))
settles_grows keys r players settled values later grown changed (nothing_waits word e none h) = ([], h.settled_same ∙ sym (append-nil settled))
settles_grows keys r players settled values later grown changed (one_settles word e h) = (h.entry ∷ [], h.grows)

-- the book is kept up
pub settles_book : {W : Type 0} (content : Map) (keys : List ℕ) (r : Option ℕ) (players : List (Player W)) (settled : List Entry) (values : List (Option ℕ))
    (later : List (Player W)) (grown : List Entry) (changed : List (Option ℕ)) →
    Settles keys r players settled values later grown changed → IsBook keys values (map_after_all content settled) →
    IsBook keys changed (map_after_all content grown)
settles_book content keys r players settled values later grown changed (nothing_raised e h) b =
    subst (λ vs. IsBook keys vs (map_after_all content grown)) (sym h.values_same)
    (subst (λ es. IsBook keys values (map_after_all content es)) (sym h.settled_same) b)
settles_book content keys r players settled values later grown changed (nothing_waits word e none h) b =
    subst (λ vs. IsBook keys vs (map_after_all content grown)) (sym h.values_same)
    (subst (λ es. IsBook keys values (map_after_all content es)) (sym h.settled_same) b)
settles_book content keys r players settled values later grown changed (one_settles word e h) b =
    let new = h.changes (map_after_all content settled) b.is in
    subst (λ M. IsBook keys changed M) (sym (map_after_all-append content settled (h.entry ∷ [])) ∙ ap (λ es. map_after_all content es) (sym h.grows))
    (record { rising = b.rising; same = sym (ap length new) ∙ mapped (map_after (map_after_all content settled) h.entry.call) keys; is = new })
  where
    mapped : (M : Map) (ks : List ℕ) → length (map (λ k. fin.get M k) ks) ≡ length ks
    mapped M [] = refl
    mapped M (k ∷ ks) = ap suc (mapped M ks)

-- each word and shadow still has 64 bits
all_set : (ws : List ℕ) (i v : ℕ) → AllRaw ws → v < 2 ^ 64 → AllRaw (set ws i v)
all_set [] i v h k = tt
all_set (w ∷ ws) zero v h k = (k, h.1)
all_set (w ∷ ws) (suc i) v h k = (h.0, all_set ws i v h.1 k)

raw_at : (ws : List ℕ) (i : ℕ) → AllRaw ws → slice_index ws i < 2 ^ 64
raw_at [] i h = omega arith
raw_at (w ∷ ws) zero h = h.0
raw_at (w ∷ ws) (suc i) h = raw_at ws i h.1

pub raw_after : (m : State) (e : Event) → IsRawEvent e → AllRaw m.words → AllRaw m.shadows → AllRaw (after m e).words × AllRaw (after m e).shadows
raw_after m (Load word) r h k = (h, k)
raw_after m (ReadTag slot) r h k = (h, k)
raw_after m (Raise slot) r h k = (h, k)
raw_after m (Lower slot) r h k = (h, k)
raw_after m (Exchange word from to) r h k = by_test (word_at m word == from)
  where
    by_test : (t : Bool) → AllRaw (cond t (with_word m word to) m).words × AllRaw (cond t (with_word m word to) m).shadows
    by_test true = (all_set m.words word to h r, k)
    by_test false = (h, k)
raw_after m (Persist word kept) r h k = (h, all_set m.shadows word (max (shadow_at m word) kept) k (let q = raw_at m.shadows word k in omega (arith, q)))
raw_after m (Store word to) r h k = (all_set m.words word to h r, k)
raw_after m Draw r h k = (h, k)

module _ {Op : Type 0} where
  pub alike_items : (ps qs : List (Player (Worker Op))) → AreAlike ps qs → items_of qs ≡ items_of ps
  alike_items [] [] h = refl
  alike_items [] (q ∷ qs) h = absurd h
  alike_items (p ∷ ps) [] h = absurd h
  alike_items (p ∷ ps) (q ∷ qs) h = let r = alike_items ps qs h.1 in let e = ap (λ x. length x.work.items.items) h.0.same in omega (arith, r, e)

  pub alike_over : (ps qs : List (Player (Worker Op))) → AreAlike ps qs → over_of qs ≡ over_of ps
  alike_over [] [] h = refl
  alike_over [] (q ∷ qs) h = absurd h
  alike_over (p ∷ ps) [] h = absurd h
  alike_over (p ∷ ps) (q ∷ qs) h = let r = alike_over ps qs h.1 in let e = ap (λ x. x.over) h.0.same in omega (arith, r, e)

  pub items_joined : (a b : List (Player (Worker Op))) (p : Player (Worker Op)) → items_of (a ++ p ∷ b) ≡ items_of a + (length p.work.items.items + items_of b)
  items_joined [] b p = omega arith
  items_joined (q ∷ a) b p = let r = items_joined a b p in omega (arith, r)

  pub over_joined : (a b : List (Player (Worker Op))) (p : Player (Worker Op)) → over_of (a ++ p ∷ b) ≡ over_of a + (p.over + over_of b)
  over_joined [] b p = omega arith
  over_joined (q ∷ a) b p = let r = over_joined a b p in omega (arith, r)

module _ {Op : Type 0} (meaning : Meaning Op) where
  at_lasts : (content : Map) (settled more : List Entry) (item : Option Item) (noted : Option ℕ) (doing : Doing Op) →
      IsAtItem meaning content settled item noted doing → IsAtItem meaning content (settled ++ more) item noted doing
  at_lasts content settled more item noted (Idle hand) h = tt
  at_lasts content settled more item noted (Busy op call None) h = absurd h
  at_lasts content settled more item noted (Busy op call (Some n)) h = (
    h.0,
    h.1,
    (let q = h.2 in omega (arith, q, length-append settled more)),
    h.3
        ∙ ap (λ es. fin.get (map_after_all content es) (key_of call)) (sym (take_front n settled more h.2)),
  )
  at_lasts content settled more item noted (Evicting evict) h = h

  waits_lasts : (P : ℕ × Entry → Type 0) (v w : Option Waiting) → (w ≡ v) ⊎ (w ≡ None) → AllByRecursion P (pairs_waiting v) → AllByRecursion P (pairs_waiting w)
  waits_lasts P v w (inl e) h = subst (λ o. AllByRecursion P (pairs_waiting o)) (sym e) h
  waits_lasts P v w (inr e) h = subst (λ o. AllByRecursion P (pairs_waiting o)) (sym e) tt

  pub player_lasts : (content : Map) (settled more : List Entry) (keys : List ℕ) → Lasts meaning content settled (settled ++ more) keys
  player_lasts content settled more keys = record { lasts = lasts }
    where
      same_but : (name : ℕ) (p : Player (Worker Op)) (w : Option Waiting) → (w ≡ p.waiting) ⊎ (w ≡ None) → IsKeptPlayer meaning content settled keys name p →
          IsKeptPlayer meaning content (settled ++ more) keys name (record p { waiting = w })
      same_but name p w e k = record {
        named = k.named;
        items = k.items;
        keyed = k.keyed;
        over = k.over;
        outcomes = k.outcomes;
        kinds = k.kinds;
        number = k.number;
        waits = waits_lasts (λ x. (x.1.worker ≡ name) × Contains keys (key_of x.1.call)) p.waiting w e k.waits;
        at = at_lasts content settled more _ p.noted p.worker.doing k.at;
      }

      lasts : (name : ℕ) (p q : Player (Worker Op)) → IsAlike p q → IsKeptPlayer meaning content settled keys name p →
          IsKeptPlayer meaning content (settled ++ more) keys name q
      lasts name p q h k = subst (λ x. IsKeptPlayer meaning content (settled ++ more) keys name x) (sym h.same) (same_but name p q.waiting h.waits k)
