-- What a worker's own rows are: rows of the pool that aren't linked, that nobody else has, and whose words nobody else
-- reaches; and the versions that a worker depends on are versions that the words have had.
use Rattle.std.proofs.Common.{◌≡◌, ◌≢◌, ◌⊎◌, inl, inr, ⊎_elim, ℕ, ◌+◌, ◌≤◌, Bool, false, List, [], ◌∷◌, ◌++◌, take, drop, map, slice_index, refl, sym, ◌∙◌, ap, subst, arith}
use Rattle.std.proofs.lemmas.List.{map-id, take-append-drop}
use Rattle.std.proofs.lemmas.List.Elements.{Contains-push, Contains-append_left, Contains-append_right}
use Rattle.std.specs.Prelude.{Contains}
use Rattle.std.specs.List.{AllByRecursion}
use Rattle.std.specs.Option.{option_to_list}
use Rattle.flit_words.specs.declared.layouts.Layout.{Layout}
use Rattle.flit_words.specs.Layouts.{last_row_of}
use Rattle.flit_words.specs.Words.{version_of, bare_of}
use Rattle.flit_model.specs.Lists.{IsRisingFrom}
use Rattle.flit_model.specs.States.{State, word_at, shadow_at}
use Rattle.flit_model.proofs.Counting.{none_or_at}
use Rattle.flit_model.proofs.Elements.{all_front, all_weaker, all_contained}
use Rattle.flit_model.proofs.Rising.{rising_each, rising-lower}
use Rattle.flit_place.specs.Tags.{Place}
use Rattle.flit_place.specs.declared.writings.Writing.{Writing}
use Rattle.flit_place.proofs.WordTags.{version-bare}
use Rattle.flit_pv.specs.declared.queues.Noted.{Noted}
use Rattle.flit_pv.specs.Exchanges.{HeldExchange, writing_in}
use Rattle.flit_pv.specs.declared.exchanges.Exchanging.{Exchanging}
use Rattle.flit_pv.specs.declared.exchanges.Exchanging.TheVariants.{Ready, Tries, TriesBare, WritesBack, Withdraws, Lowers, Ended}
use Rattle.flit_rows.specs.Shares.{IsOnce}
use Rattle.flit_runs.specs.Workings.{Dependency, Working, Idles, Loads, VLoads, Confirms, Exchanges, VExchanges, Stores, Fences, Completes, Evicts, goes_for, exchange_goes_for, writing_at}
use Rattle.flit_runs.specs.Worlds.{Actor, writings, Owes, IsAway, IsNobodys}
use Rattle.flit_runs.specs.Soundness.{IsSafe, IsSafelyRead, MayWriteBack, Needs, HasWon, AllKept, IsPersistentOrWon, IsSound, owed}
use Rattle.flit_structure.specs.declared.workers.Worker.{Worker}
use Rattle.flit_structure.proofs.Names.{all_both}
use Rattle.flit_crew.specs.Heaps.{Heap, at_word, IsOpen, IsWordOf, IsMine, AreOld}
use Rattle.flit_crew.specs.Anatomies.{own_in}
use Rattle.flit_crew.specs.Rows.{times, own_times, IsDealt}
use Rattle.flit_crew.specs.Accounts.{IsPool}
use Rattle.flit_crew.specs.Crews.{Crew, AllAct}
use Rattle.flit_crew.proofs.Placing.{same_row}
use Rattle.flit_crew.proofs.Rowing.{contained, once, times_split}

-- ---- versions that are depended on

owed_past : (vs : ℕ → Bool) (s : State) (pairs : List Noted) (w v : ℕ) → AllByRecursion (MayWriteBack vs s) pairs → Owes pairs w v →
    v ≤ version_of (word_at s w)
owed_past vs s [] w v all o = absurd o
owed_past vs s (n ∷ ns) w v all (inl q) = through v (version_of n.kept) (version_of (word_at s w)) q.1
    (subst (λ x. version_of n.kept ≤ version_of (word_at s x)) q.0 all.0.had.past)
  where
    through : (a b c : ℕ) → a ≤ b → b ≤ c → a ≤ c
    through a b c i j = omega (arith, i, j)
owed_past vs s (n ∷ ns) w v all (inr o) = owed_past vs s ns w v all.1 o

read_past : (vs : ℕ → Bool) (s : State) (pairs : List Noted) (needs : List Dependency) (w v : ℕ) → AllKept vs s → AllByRecursion (MayWriteBack vs s) pairs →
    AllByRecursion (λ d. IsSafelyRead s pairs d.word d.version) needs → Needs needs w v → v ≤ version_of (word_at s w)
read_past vs s pairs [] w v kept all safe n = absurd n
read_past vs s pairs (d ∷ ds) w v kept all safe (inl q) = subst (λ x. v ≤ version_of (word_at s x)) q.0
    (subst (λ x. x ≤ version_of (word_at s d.word)) q.1 (⊎_elim
    (λ k. through d.version (version_of (shadow_at s d.word)) (version_of (word_at s d.word)) k (kept d.word).behind)
    (λ o. owed_past vs s pairs d.word d.version all o) safe.0))
  where
    through : (a b c : ℕ) → a ≤ b → b ≤ c → a ≤ c
    through a b c i j = omega (arith, i, j)
read_past vs s pairs (d ∷ ds) w v kept all safe (inr n) = read_past vs s pairs ds w v kept all safe.1 n

pub old_needs : {G : Type 0} (p : Place) (vs : ℕ → Bool) (s : State) (ws : List Writing) (h : Heap G) (g : Actor) → AllKept vs s →
    h.words ≡ map bare_of s.words → IsSafe p vs s ws g → AreOld h g.needs
old_needs p vs s ws h g kept same safe w v n = subst (λ x. v ≤ x)
    (sym (ap (λ xs. version_of (slice_index xs w)) same ∙ ap version_of (Rattle.std.proofs.Math.ListN.get_or-map bare_of s.words w 0)
    ∙ version-bare (word_at s w)))
    (read_past vs s (owed g.at) g.needs w v kept safe.pairs safe.needs n)

pub all_old : {G : Type 0} (p : Place) (vs : ℕ → Bool) (s : State) (ws : List Writing) (h : Heap G) (gs : List Actor) → AllKept vs s →
    h.words ≡ map bare_of s.words → AllByRecursion (IsSafe p vs s ws) gs → AllByRecursion (λ g. AreOld h g.needs) gs
all_old p vs s ws h gs kept same safe = all_weaker (IsSafe p vs s ws) (λ g. AreOld h g.needs) (λ g k. old_needs p vs s ws h g kept same k) gs safe

-- ---- a word that nobody goes for isn't being exchanged

won_goes : (at : Exchanging) (m : HeldExchange) (w bare : ℕ) → IsAway (exchange_goes_for at m.word) w → HasWon (option_to_list (writing_in at m)) w bare → ⊥
won_goes Ready m w bare away (inl q) = away.0 q.0
won_goes (Tries slot) m w bare away (inl q) = away.0 q.0
won_goes TriesBare m w bare away (inl q) = away.0 q.0
won_goes WritesBack m w bare away (inl q) = away.0 q.0
won_goes Withdraws m w bare away (inl q) = away.0 q.0
won_goes (Lowers slot found) m w bare away (inl q) = away.0 q.0
won_goes Ready m w bare away (inr q) = q
won_goes (Tries slot) m w bare away (inr q) = q
won_goes TriesBare m w bare away (inr q) = q
won_goes WritesBack m w bare away (inr q) = q
won_goes Withdraws m w bare away (inr q) = q
won_goes (Lowers slot found) m w bare away (inr q) = q
won_goes (Ended how) m w bare away q = q

pub working_goes : (x : Working) (w bare : ℕ) → IsAway (goes_for x) w → HasWon (option_to_list (writing_at x)) w bare → ⊥
working_goes (Idles hand) w bare away q = q
working_goes (Loads m) w bare away q = q
working_goes (VLoads m) w bare away q = q
working_goes (Confirms m) w bare away q = q
working_goes (Exchanges m) w bare away q = won_goes m.at m w bare away q
working_goes (VExchanges m) w bare away q = q
working_goes (Stores m) w bare away q = q
working_goes (Fences m) w bare away q = q
working_goes (Completes m) w bare away q = q
working_goes (Evicts m) w bare away q = q

pub won_parts : (xs ys : List Writing) (w bare : ℕ) → HasWon (xs ++ ys) w bare → HasWon xs w bare ⊎ HasWon ys w bare
won_parts [] ys w bare h = inr h
won_parts (x ∷ xs) ys w bare (inl h) = inl (inl h)
won_parts (x ∷ xs) ys w bare (inr h) = ⊎_elim (λ k. inl (inr k)) (λ k. inr k) (won_parts xs ys w bare h)

pub nobody_writes : (gs : List Actor) (w bare : ℕ) → AllByRecursion (λ g. IsAway (goes_for g.at) w) gs → HasWon (writings gs) w bare → ⊥
nobody_writes [] w bare away h = h
nobody_writes (g ∷ gs) w bare away h = ⊎_elim (λ k. working_goes g.at w bare away.0 k) (λ k. nobody_writes gs w bare away.1 k)
    (won_parts (option_to_list (writing_at g.at)) (writings gs) w bare h)

-- a word that nobody has private and nobody goes for is at rest
pub rests_now : {G : Type 0} (p : Place) (s : State) (gs : List Actor) (h : Heap G) (w : ℕ) → h.words ≡ map bare_of s.words →
    IsSound p (λ x. false) (record { state = s; workers = gs }) → IsNobodys gs w → AllByRecursion (λ g. IsAway (goes_for g.at) w) gs →
    (version_of (word_at s w) ≡ version_of (shadow_at s w)) × (at_word h w ≡ shadow_at s w)
rests_now p s gs h w same sound nobodys away = by_settled (sound.settled w refl nobodys)
  where
    least : (a b : ℕ) → a ≤ b → b ≤ a → a ≡ b
    least a b i j = omega (arith, i, j)

    ahead : (a b : ℕ) → a ≤ b → a ≡ b + 1 → ⊥
    ahead a b i e = omega (arith, i, e)

    by_settled : IsPersistentOrWon s (writings gs) w → (version_of (word_at s w) ≡ version_of (shadow_at s w)) × (at_word h w ≡ shadow_at s w)
    by_settled (inl k) = (
      least (version_of (word_at s w)) (version_of (shadow_at s w)) k (sound.words w).behind,
      ap (λ xs. slice_index xs w) same ∙ Rattle.std.proofs.Math.ListN.get_or-map bare_of s.words w 0
          ∙ ⊎_elim (λ e. e) (λ e. absurd (ahead (version_of (word_at s w)) (version_of (shadow_at s w)) k e)) ((sound.words w).close refl),
    )
    by_settled (inr k) = absurd (nobody_writes gs w (bare_of (word_at s w)) away k)

-- ---- own rows

contains_head : (x : ℕ) (xs : List ℕ) → Contains (x ∷ xs) x
contains_head x xs = Contains-append_left (x ∷ []) xs x (Contains-push [] x)

pub contains_self : (xs : List ℕ) → AllByRecursion (Contains xs) xs
contains_self [] = tt
contains_self (x ∷ xs) = (contains_head x xs, all_weaker (Contains xs) (Contains (x ∷ xs)) (λ y k. Contains-append_right (x ∷ []) xs y k) xs (contains_self xs))

-- a word is a word of one row of the pool
pub one_row : (l : Layout) (free : List ℕ) → IsPool l free → (q r w : ℕ) → Contains free q → Contains free r → IsWordOf l q w → IsWordOf l r w → q ≡ r
one_row l free pool q r w has also of on = same_row l q r w (all_contained (λ x. 1 ≤ x) free q ones has)
    (all_contained (λ x. x ≤ last_row_of l) free q pool.fit has)
    (all_contained (λ x. 1 ≤ x) free r ones also) (all_contained (λ x. x ≤ last_row_of l) free r pool.fit also) of on
  where
    ones : AllByRecursion (λ x. 1 ≤ x) free
    ones = rising_each (λ x. x) 1 free (subst (IsRisingFrom 1) (sym (map-id free)) pool.rising)

module _ {X : Type 0} (own : X → List ℕ) where
  pub taken_contains : (free : List ℕ) (counter row : ℕ) → 1 ≤ times own row (take counter free) → Contains free row
  taken_contains free counter row some = ⊎_elim (λ none. absurd (clash (times own row (take counter free)) some none)) (λ k. k)
      (none_or_at (Contains free) row (take counter free) (all_front (Contains free) (take counter free) (drop counter free)
      (subst (AllByRecursion (Contains free)) (sym (take-append-drop counter free)) (contains_self free))))
    where
      clash : (n : ℕ) → 1 ≤ n → n ≡ 0 → ⊥
      clash n i e = omega (arith, i, e)

  others_none : (row : ℕ) (us : List X) → own_times own row us ≡ 0 → AllByRecursion (λ v. Contains (own v) row → ⊥) us
  others_none row [] none = tt
  others_none row (v ∷ us) none = (
    λ k. clash (times own row (own v)) (own_times own row us) (contained own row (own v) k) none,
    others_none row us
        (zero_right (times own row (own v)) (own_times own row us) none),
  )
    where
      clash : (a b : ℕ) → 1 ≤ a → a + b ≡ 0 → ⊥
      clash a b i e = omega (arith, i, e)

      zero_right : (a b : ℕ) → a + b ≡ 0 → b ≡ 0
      zero_right a b e = omega (arith, e)

  pub record IsOwn (free given : List ℕ) (a b : List X) (row : ℕ) : Type 0 where
    pub pool : Contains free row
    pub unlinked : Contains given row → ⊥
    pub left : AllByRecursion (λ v. Contains (own v) row → ⊥) a
    pub right : AllByRecursion (λ v. Contains (own v) row → ⊥) b

  pub own_row : (free : List ℕ) (counter : ℕ) (given : List ℕ) (a : List X) (u : X) (b : List X) (row : ℕ) → IsRisingFrom 0 free →
      IsDealt own free counter given (a ++ u ∷ b) → Contains (own u) row → IsOwn free given a b row
  own_row free counter given a u b row rising d has =
      let mine : 1 ≤ times own row (own u) = contained own row (own u) has in
      let split = times_split own row a u b in
      let most = once own free counter row rising in
      record {
        pool = taken_contains free counter row (some (own_times own row (a ++ u ∷ b)) (times own row (own u)) (own_times own row a) (own_times own row b)
            (times own row given) (times own row (take counter free)) split mine (d.rows row));
        unlinked = λ k. twice (own_times own row (a ++ u ∷ b)) (times own row (own u)) (own_times own row a) (own_times own row b) (times own row given)
            (times own row (take counter free)) split mine (d.rows row) most (contained own row given k);
        left = others_none row a (none_left (own_times own row (a ++ u ∷ b)) (times own row (own u)) (own_times own row a) (own_times own row b)
            (times own row given) (times own row (take counter free)) split mine (d.rows row) most);
        right = others_none row b (none_right (own_times own row (a ++ u ∷ b)) (times own row (own u)) (own_times own row a) (own_times own row b)
            (times own row given) (times own row (take counter free)) split mine (d.rows row) most);
      }
    where
      some : (s u a b g t : ℕ) → s ≡ u + (a + b) → 1 ≤ u → s + g ≡ t → 1 ≤ t
      some s u a b g t e i h = omega (arith, e, i, h)

      twice : (s u a b g t : ℕ) → s ≡ u + (a + b) → 1 ≤ u → s + g ≡ t → t ≤ 1 → 1 ≤ g → ⊥
      twice s u a b g t e i h o k = omega (arith, e, i, h, o, k)

      none_left : (s u a b g t : ℕ) → s ≡ u + (a + b) → 1 ≤ u → s + g ≡ t → t ≤ 1 → a ≡ 0
      none_left s u a b g t e i h o = omega (arith, e, i, h, o)

      none_right : (s u a b g t : ℕ) → s ≡ u + (a + b) → 1 ≤ u → s + g ≡ t → t ≤ 1 → b ≡ 0
      none_right s u a b g t e i h o = omega (arith, e, i, h, o)

  -- each of them is there once
  pub own_once : (free : List ℕ) (counter : ℕ) (given : List ℕ) (a : List X) (u : X) (b : List X) → IsRisingFrom 0 free →
      IsDealt own free counter given (a ++ u ∷ b) → IsOnce (own u)
  own_once free counter given a u b rising d row = most (own_times own row (a ++ u ∷ b)) (times own row (own u)) (own_times own row a) (own_times own row b)
      (times own row given) (times own row (take counter free)) (times_split own row a u b) (d.rows row) (once own free counter row rising)
    where
      most : (s u a b g t : ℕ) → s ≡ u + (a + b) → s + g ≡ t → t ≤ 1 → u ≤ 1
      most s u a b g t e h o = omega (arith, e, h, o)

module _ {G Op : Type 0} (c : Crew G Op) (l : Layout) (p : Place) (free : List ℕ) (h : Heap G) where
  -- a word of a row that isn't linked and that the others don't have, is out of their reach
  others_away : IsPool l free → (row w : ℕ) → Contains free row → (Contains h.given row → ⊥) → IsWordOf l row w → (us : List (Worker Op)) (gs : List Actor) →
      AllByRecursion (λ v. Contains (own_in c.anatomy v.doing) row → ⊥) us → AllAct c l p free h us gs →
      AllByRecursion (λ o. IsAway o.private w × IsAway (goes_for o.at) w) gs
  others_away pool row w has unlinked word [] [] none m = tt
  others_away pool row w has unlinked word [] (g ∷ gs) none m = absurd m
  others_away pool row w has unlinked word (u ∷ us) [] none m = absurd m
  others_away pool row w has unlinked word (u ∷ us) (g ∷ gs) none m = (
    (
      all_weaker (IsMine l free h (own_in c.anatomy u.doing)) (λ x. x ≢ w) (λ x k e. none.0
          (subst (Contains (own_in c.anatomy u.doing)) (same_rows k.shut.row k.shut.pool (subst (λ y. IsWordOf l k.shut.row y) e k.shut.word)) k.own)) g.private
          m.0.mine,
      all_weaker (IsOpen l free h) (λ x. x ≢ w) (λ x k e. unlinked (k.given row has (subst (λ y. IsWordOf l row y) (sym e) word))) (goes_for g.at) m.0.reached,
    ),
    others_away pool row w has unlinked word us gs none.1 m.1,
  )
    where
      ones : AllByRecursion (λ r. 1 ≤ r) free
      ones = rising_each (λ r. r) 1 free (subst (IsRisingFrom 1) (sym (map-id free)) pool.rising)

      same_rows : (r : ℕ) → Contains free r → IsWordOf l r w → r ≡ row
      same_rows r k of = same_row l r row w (all_contained (λ x. 1 ≤ x) free r ones k) (all_contained (λ x. x ≤ last_row_of l) free r pool.fit k)
          (all_contained (λ x. 1 ≤ x) free row ones has) (all_contained (λ x. x ≤ last_row_of l) free row pool.fit has) of word

  pub own_away : IsPool l free → (a b : List (Worker Op)) (xs ys : List Actor) → AllAct c l p free h a xs → AllAct c l p free h b ys → (row w : ℕ) →
      IsOwn (λ v. own_in c.anatomy v.doing) free h.given a b row → IsWordOf l row w →
      AllByRecursion (λ o. IsAway o.private w × IsAway (goes_for o.at) w) (xs ++ ys)
  own_away pool a b xs ys left right row w o word = all_both (λ o. IsAway o.private w × IsAway (goes_for o.at) w) xs ys
      (others_away pool row w o.pool o.unlinked word a xs o.left left) (others_away pool row w o.pool o.unlinked word b ys o.right right)

pub lower : (free : List ℕ) → IsRisingFrom 1 free → IsRisingFrom 0 free
lower free h = rising-lower 1 0 free (omega arith) h
