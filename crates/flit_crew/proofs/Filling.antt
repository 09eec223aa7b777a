-- What the words of a PrivateStore hold, as it goes on: loaded one by one, and then stored one by one.
use Rattle.std.proofs.Common.{◌≡◌, ◌≢◌, ℕ, suc, ◌+◌, ◌^◌, ◌<◌, ◌≤◌, nat_le, Bool, true, false, List, [], ◌∷◌, ◌++◌, length, refl, sym, ◌∙◌, ap, subst, if◌then◌else◌, arith, append_assoc, append-nil}
use Rattle.std.proofs.lemmas.Bool.Decides.{nat_tests}
use Rattle.std.proofs.lemmas.List.{length-append}
use Rattle.std.specs.List.{AllByRecursion}
use Rattle.flit_words.specs.declared.layouts.Layout.{Layout}
use Rattle.flit_words.specs.Words.{version_of, value_of}
use Rattle.flit_pv.specs.declared.queues.Noted.{Noted}
use Rattle.flit_pv.specs.declared.stores.Storing.{Storing}
use Rattle.flit_pv.specs.declared.stores.Storing.TheVariants.{Reads, MakesRoom, Writes, Ended}
use Rattle.flit_pv.specs.declared.stores.Stored.{Stored}
use Rattle.flit_pv.specs.declared.stores.Stored.TheVariants.{Stored as All_stored, Worn}
use Rattle.flit_pv.specs.Queues.{noted, is_full}
use Rattle.flit_pv.specs.Hands.{with_pair, with_persist, fenced_one}
use Rattle.flit_pv.specs.Drafts.{DraftWords, draft_read, is_worn, next_bare}
use Rattle.flit_pv.specs.Stores.{HeldStore, store_next, store_decides, store_goes_on, store_reads, store_room, store_takes, worn_at}
use Rattle.flit_runs.specs.Workings.{words_from}
use Rattle.flit_crew.specs.Heaps.{Heap, at_word, at_shadow, HaveStayed}
use Rattle.flit_crew.specs.Fillings.{Filling, HoldFrom, ArePairs, IsWornAt, IsLoaded, AreLoading, AreStoring, IsFilled, FillsAt, IsOfRows}

value_next : (old value : ℕ) → value < 2 ^ 32 → value_of (next_bare old value) ≡ value
value_next old value lt = omega (arith, lt)

worn_version : (limit version : ℕ) → nat_le limit version ≡ true → limit ≤ version
worn_version limit version e = grind (arith, nat_tests)

zero_more : (a b : ℕ) → a ≡ b → a ≡ b + 0
zero_more a b e = omega (arith, e)

one_on : (a b n m : ℕ) → a ≡ b + n → m ≡ n + 1 → a + 1 ≡ b + m
one_on a b n m e d = omega (arith, e, d)

pub length_one : (xs : List ℕ) (v : ℕ) → length (xs ++ v ∷ []) ≡ length xs + 1
length_one xs v = length-append xs (v ∷ [])

joined : (xs ys zs : List ℕ) (v : ℕ) → xs ≡ ys ++ v ∷ zs → xs ≡ (ys ++ v ∷ []) ++ zs
joined xs ys zs v e = e ∙ sym (append_assoc ys (v ∷ []) zs)

-- ---- pairs

pairs_none : (word : ℕ) (vs : List ℕ) → ArePairs word vs [] → vs ≡ []
pairs_none word [] h = refl
pairs_none word (v ∷ vs) h = absurd h

pairs_more : (word : ℕ) (vs : List ℕ) (ns : List Noted) (v : ℕ) (n : Noted) → ArePairs word vs ns → n.word ≡ word + length vs → value_of n.kept ≡ v →
    ArePairs word (vs ++ v ∷ []) (ns ++ n ∷ [])
pairs_more word [] [] v n h e k = (e ∙ plain word, k, tt)
  where
    plain : (a : ℕ) → a + 0 ≡ a
    plain a = omega arith
pairs_more word [] (m ∷ ms) v n h e k = absurd h
pairs_more word (x ∷ xs) [] v n h e k = absurd h
pairs_more word (x ∷ xs) (m ∷ ms) v n h e k = (h.0, h.1, pairs_more (word + 1) xs ms v n h.2 (next n.word word (length xs) e) k)
  where
    next : (a w l : ℕ) → a ≡ w + suc l → a ≡ (w + 1) + l
    next a w l e = omega (arith, e)

-- ---- the words of a filling, among them those of its first values

pub front_words : (P : ℕ → Type 0) (word : ℕ) (a b : List ℕ) → AllByRecursion P (words_from word (a ++ b)) → AllByRecursion P (words_from word a)
front_words P word [] b all = tt
front_words P word (x ∷ a) b all = (all.0, front_words P (word + 1) a b all.1)

module _ {G : Type 0} (l : Layout) where
  module _ (h k : Heap G) (rows : List ℕ) (stayed : HaveStayed l h k rows) where
    pub hold_last : (word : ℕ) (vs : List ℕ) → AllByRecursion (IsOfRows l rows) (words_from word vs) → HoldFrom h word vs → HoldFrom k word vs
    hold_last word [] of held = tt
    hold_last word (v ∷ vs) of held = (ap value_of (stayed of.0.0 word of.0.1 of.0.2) ∙ held.0, hold_last (word + 1) vs of.1 held.1)

    module _ (risen : (w : ℕ) → version_of (at_shadow h w) ≤ version_of (at_shadow k w)) (f : Filling)
        (of : AllByRecursion (IsOfRows l rows) (words_from f.first f.values)) where
      through : (a b c : ℕ) → a ≤ b → b ≤ c → a ≤ c
      through a b c i j = omega (arith, i, j)

      worn_last : (word version : ℕ) → IsWornAt l h word version → IsWornAt l k word version
      worn_last word version w = (w.0, through version (version_of (at_shadow h word)) (version_of (at_shadow k word)) w.1 (risen word))

      storing_last : (pairs : List Noted) → AreStoring h f pairs → AreStoring k f pairs
      storing_last pairs s = record {
        done = s.done;
        rest = s.rest;
        parts = s.parts;
        held = hold_last f.first s.done
            (front_words (IsOfRows l rows) f.first s.done s.rest (subst (λ vs. AllByRecursion (IsOfRows l rows) (words_from f.first vs)) s.parts of)) s.held;
        to_store = s.to_store;
      }

      loaded_last : (how : Stored) (front : List ℕ) (ready : List Noted) → IsLoaded l h f front how ready → IsLoaded l k f front how ready
      loaded_last All_stored front ready x = x
      loaded_last (Worn word version) front ready x = worn_last word version x

      filled_last : (how : Stored) → IsFilled l h f how → IsFilled l k f how
      filled_last All_stored x = hold_last f.first f.values of x
      filled_last (Worn word version) x = worn_last word version x

      pub fills_last : (at : Storing) (m : HeldStore) → FillsAt l h f at m → FillsAt l k f at m
      fills_last (Reads how) m x = record {
        front = x.front;
        value = x.value;
        rest = x.rest;
        to_load = x.to_load;
        parts = x.parts;
        word = x.word;
        loaded = loaded_last how x.front m.drafts.ready x.loaded;
      }
      fills_last (Writes next) m x = storing_last (next ∷ m.drafts.ready) x
      fills_last (MakesRoom next first) m x = storing_last (next ∷ m.drafts.ready) x
      fills_last (Ended how) m x = filled_last how x

  -- ---- it starts

  module _ (h : Heap G) (f : Filling) where
    pub starts_filling : (m : HeldStore) (v : ℕ) (vs : List ℕ) → m.drafts.values ≡ v ∷ vs → f.values ≡ v ∷ vs → m.drafts.word ≡ f.first →
        m.drafts.ready ≡ [] → AreLoading l h f All_stored m
    starts_filling m v vs left values word ready = record {
      front = [];
      value = v;
      rest = vs;
      to_load = left;
      parts = values;
      word = zero_more m.drafts.word f.first word;
      loaded = subst (ArePairs f.first []) (sym ready) tt;
    }

    -- ---- a word was loaded

    nexts : (m : HeldStore) (ready : List Noted) → ArePairs f.first f.values ready → FillsAt l h f (store_next m ready).at (store_next m ready)
    nexts m [] x = subst (HoldFrom h f.first) (sym (pairs_none f.first f.values x)) tt
    nexts m (n ∷ ns) x = record {
      done = [];
      rest = f.values;
      parts = refl;
      held = tt;
      to_store = subst (λ w. ArePairs w f.values (n ∷ ns)) (zero_more f.first f.first refl) x;
    }

    decides : (m : HeldStore) (how : Stored) → IsLoaded l h f f.values how m.drafts.ready → FillsAt l h f (store_decides m how).at (store_decides m how)
    decides m All_stored x = nexts m m.drafts.ready x
    decides m (Worn word version) x = x

    goes_on : (m : HeldStore) (how : Stored) (rest front : List ℕ) → m.drafts.values ≡ rest → f.values ≡ front ++ rest →
        m.drafts.word ≡ f.first + length front → IsLoaded l h f front how m.drafts.ready →
        FillsAt l h f (store_goes_on m how rest).at (store_goes_on m how rest)
    goes_on m how [] front left parts word x = decides m how (subst (λ vs. IsLoaded l h f vs how m.drafts.ready) (sym (parts ∙ append-nil front)) x)
    goes_on m how (v ∷ vs) front left parts word x = record {
      front = front;
      value = v;
      rest = vs;
      to_load = left;
      parts = parts;
      word = word;
      loaded = x;
    }

    module _ (m : HeldStore) (how : Stored) (told : ℕ) (x : AreLoading l h f how m) (small : x.value < 2 ^ 32)
        (persistent : version_of told ≤ version_of (at_shadow h m.drafts.word)) (limit : m.drafts.limit ≡ l.limit) where
      abbrev front_then : List ℕ
      front_then = x.front ++ x.value ∷ []

      abbrev how_then : Bool → Stored
      how_then worn = if worn then worn_at how m.drafts.word (version_of told) else how

      abbrev ready_then : Bool → List Noted
      ready_then worn = if worn then m.drafts.ready else m.drafts.ready ++ noted m.drafts.word (next_bare told x.value) ∷ []

      abbrev drafts_then : Bool → DraftWords
      drafts_then worn = record m.drafts { word = m.drafts.word + 1; values = x.rest; ready = ready_then worn }

      worn_loaded : (t : Stored) → IsLoaded l h f x.front t m.drafts.ready → is_worn m.drafts told ≡ true →
          IsLoaded l h f front_then (worn_at t m.drafts.word (version_of told)) m.drafts.ready
      worn_loaded All_stored loaded e =
          (subst (λ n. n ≤ version_of told) limit (worn_version m.drafts.limit (version_of told) e), persistent)
      worn_loaded (Worn word version) loaded e = loaded

      next_loaded : (t : Stored) → IsLoaded l h f x.front t m.drafts.ready →
          IsLoaded l h f front_then t (m.drafts.ready ++ noted m.drafts.word (next_bare told x.value) ∷ [])
      next_loaded All_stored loaded =
          pairs_more f.first x.front m.drafts.ready x.value (noted m.drafts.word (next_bare told x.value)) loaded x.word (value_next told x.value small)
      next_loaded (Worn word version) loaded = loaded

      loaded_then : (worn : Bool) → is_worn m.drafts told ≡ worn → IsLoaded l h f front_then (how_then worn) (ready_then worn)
      loaded_then true e = worn_loaded how x.loaded e
      loaded_then false e = next_loaded how x.loaded

      abbrev then_on : Bool → HeldStore
      then_on worn = store_goes_on (record m { drafts = drafts_then worn }) (how_then worn) x.rest

      by_worn : (worn : Bool) → is_worn m.drafts told ≡ worn → FillsAt l h f (then_on worn).at (then_on worn)
      by_worn worn e = goes_on (record m { drafts = drafts_then worn }) (how_then worn) x.rest front_then refl (joined f.values x.front x.rest x.value x.parts)
          (one_on m.drafts.word f.first (length x.front) (length front_then) x.word (length_one x.front x.value)) (loaded_then worn e)

      abbrev by_values : List ℕ → HeldStore
      by_values values = let drafts = draft_read m.drafts told values in store_goes_on (record m { drafts = drafts }) (how_then (is_worn m.drafts told))
          drafts.values

      pub fills_read : FillsAt l h f (store_reads m how told).at (store_reads m how told)
      fills_read = subst (λ values. FillsAt l h f (by_values values).at (by_values values)) (sym x.to_load) (by_worn (is_worn m.drafts told) refl)

    -- ---- it makes room in its queue

    pub fills_room : (m : HeldStore) (next : Noted) (queue : List Noted) → AreStoring h f (next ∷ m.drafts.ready) →
        FillsAt l h f (store_room m next queue).at (store_room m next queue)
    fills_room m next [] x = x
    fills_room m next (n ∷ ns) x = x

  -- ---- a word was stored

  module _ (h k : Heap G) (f : Filling) (n : Noted) (new : at_word k n.word ≡ n.kept)
      (other : (w : ℕ) → w ≢ n.word → at_word k w ≡ at_word h w) where
    hold_next : (word : ℕ) (done : List ℕ) (v : ℕ) → n.word ≡ word + length done → value_of n.kept ≡ v → HoldFrom h word done → HoldFrom k word (done ++ v ∷ [])
    hold_next word [] v e q held = (ap (λ w. value_of (at_word k w)) (plain word n.word e) ∙ ap value_of new ∙ q, tt)
      where
        plain : (a b : ℕ) → b ≡ a + 0 → a ≡ b
        plain a b e = omega (arith, e)
    hold_next word (d ∷ ds) v e q held = (
      ap value_of (other word (before word n.word (length ds) e)) ∙ held.0,
      hold_next (word + 1) ds v (next n.word word (length ds) e) q held.1,
    )
      where
        before : (a b l : ℕ) → b ≡ a + suc l → a ≢ b
        before a b l e q = omega (arith, e, q)

        next : (a w l : ℕ) → a ≡ w + suc l → a ≡ (w + 1) + l
        next a w l e = omega (arith, e)

    then_next : (m : HeldStore) (ready : List Noted) (done : List ℕ) (v : ℕ) (vs : List ℕ) → f.values ≡ done ++ v ∷ vs → HoldFrom k f.first (done ++ v ∷ []) →
        ArePairs (f.first + length done + 1) vs ready → FillsAt l k f (store_next m ready).at (store_next m ready)
    then_next m [] done v vs parts held left =
        subst (HoldFrom k f.first) (sym (parts ∙ ap (λ xs. done ++ v ∷ xs) (pairs_none (f.first + length done + 1) vs left)))
        held
    then_next m (r ∷ rs) done v vs parts held left = record {
      done = done ++ v ∷ [];
      rest = vs;
      parts = joined f.values done vs v parts;
      held = held;
      to_store = subst (λ w. ArePairs w vs (r ∷ rs)) (one_on (f.first + length done) f.first (length done) (length (done ++ v ∷ [])) refl (length_one done v))
          left;
    }

    pub fills_stored : (m : HeldStore) (ready : List Noted) → AreStoring h f (n ∷ ready) → FillsAt l k f (store_next m ready).at (store_next m ready)
    fills_stored m ready x = by_rest x.rest x.parts x.to_store
      where
        by_rest : (rest : List ℕ) → f.values ≡ x.done ++ rest → ArePairs (f.first + length x.done) rest (n ∷ ready) →
            FillsAt l k f (store_next m ready).at (store_next m ready)
        by_rest [] parts left = absurd left
        by_rest (v ∷ vs) parts left = then_next m ready x.done v vs parts (hold_next f.first x.done v left.0 left.1 x.held) left.2

-- the word that is stored next is one of the filling's
pub stored_within : {G : Type 0} (h : Heap G) (f : Filling) (n : Noted) (ready : List Noted) → AreStoring h f (n ∷ ready) →
    (f.first ≤ n.word) × (n.word < f.first + length f.values)
stored_within h f n ready x = by_rest x.rest x.parts x.to_store
  where
    by_rest : (rest : List ℕ) → f.values ≡ x.done ++ rest → ArePairs (f.first + length x.done) rest (n ∷ ready) →
        (f.first ≤ n.word) × (n.word < f.first + length f.values)
    by_rest [] parts left = absurd left
    by_rest (v ∷ vs) parts left = (
      least f.first n.word (length x.done) left.0,
      most f.first n.word (length x.done) (length vs) (length f.values) left.0 (ap length parts ∙ length-append x.done (v ∷ vs)),
    )
      where
        least : (a b d : ℕ) → b ≡ a + d → a ≤ b
        least a b d e = omega (arith, e)

        most : (a b d r n : ℕ) → b ≡ a + d → n ≡ d + suc r → b < a + n
        most a b d r n e q = omega (arith, e, q)

-- ---- the greatest version stays

pub limit_stays : (m : HeldStore) (ready : List Noted) → (store_next m ready).drafts.limit ≡ m.drafts.limit
limit_stays m [] = refl
limit_stays m (n ∷ ns) = refl

limit_decides : (m : HeldStore) (how : Stored) → (store_decides m how).drafts.limit ≡ m.drafts.limit
limit_decides m All_stored = limit_stays m m.drafts.ready
limit_decides m (Worn word version) = refl

limit_on : (m : HeldStore) (how : Stored) (values : List ℕ) → (store_goes_on m how values).drafts.limit ≡ m.drafts.limit
limit_on m how [] = limit_decides m how
limit_on m how (v ∷ vs) = refl

limit_read : (m : HeldStore) (how : Stored) (told : ℕ) (values : List ℕ) →
    (store_goes_on (record m { drafts = draft_read m.drafts told values }) how (draft_read m.drafts told values).values).drafts.limit ≡ m.drafts.limit
limit_read m how told [] = limit_on m how m.drafts.values
limit_read m how told (v ∷ vs) = limit_on (record m { drafts = draft_read m.drafts told (v ∷ vs) }) how vs

limit_room : (m : HeldStore) (next : Noted) (queue : List Noted) → (store_room m next queue).drafts.limit ≡ m.drafts.limit
limit_room m next [] = refl
limit_room m next (n ∷ ns) = refl

limit_written : (m : HeldStore) (next : Noted) (full : Bool) →
    (if full then (let hand = fenced_one m.hand m.hand.queue in store_room (record m { hand = hand }) next hand.queue)
    else store_next (record m { hand = with_pair m.hand next }) m.drafts.ready).drafts.limit ≡ m.drafts.limit
limit_written m next true = limit_room (record m { hand = fenced_one m.hand m.hand.queue }) next (fenced_one m.hand m.hand.queue).queue
limit_written m next false = limit_stays (record m { hand = with_pair m.hand next }) m.drafts.ready

pub store_limit : (at : Storing) (m : HeldStore) (told : ℕ) → (store_takes at m told).drafts.limit ≡ m.drafts.limit
store_limit (Reads how) m told = limit_read m (if is_worn m.drafts told then worn_at how m.drafts.word (version_of told) else how) told m.drafts.values
store_limit (Writes next) m told = limit_written m next (is_full m.hand.queue)
store_limit (MakesRoom next first) m told = limit_room (record m { hand = with_persist m.hand }) next m.hand.queue
store_limit (Ended how) m told = refl
