-- What may follow each machine of a call, as its own events go.
use Rattle.std.proofs.Common.{◌≡◌, ◌≢◌, ◌⊎◌, inl, inr, ⊎_elim, ℕ, ◌+◌, ◌≤◌, ◌==◌, ◌&&◌, ◌||◌, Bool, true, false, List, [], ◌∷◌, length, Option, Some, None, is_none, refl, sym, ◌∙◌, ap, subst, arith, slice_get, slice_index, if◌then◌else◌}
use Rattle.std.proofs.lemmas.Bool.{false≢true, eq-eqb}
use Rattle.std.proofs.lemmas.Option.{none-some, same_Some, slice_get_within, get_or_from_slice_get}
use Rattle.std.proofs.lemmas.List.Elements.{Contains-append_left, Contains-push, Contains-push_cases}
use Rattle.std.specs.Prelude.{Contains}
use Rattle.flit_words.specs.declared.layouts.Layout.{Layout}
use Rattle.flit_words.specs.Words.{is_tagged, bare_of, value_of}
use Rattle.flit_model.specs.States.{State, word_at}
use Rattle.flit_model.specs.Effects.{after, answer}
use Rattle.flit_model.specs.declared.events.Event.{Event}
use Rattle.flit_model.specs.declared.events.Event.TheVariants.{Load, ReadTag, Raise, Exchange, Draw}
use Rattle.flit_model.specs.declared.calls.Call.{Call}
use Rattle.flit_model.specs.declared.calls.Call.TheVariants.{Insert, Remove, Contains as Contains_call, Get}
use Rattle.flit_place.specs.Tags.{Place, dressed}
use Rattle.flit_pv.specs.declared.queues.Noted.{Noted}
use Rattle.flit_pv.specs.declared.hands.Hand.{Hand}
use Rattle.flit_pv.specs.declared.loads.Loading.{Loading}
use Rattle.flit_pv.specs.declared.loads.Loading.TheVariants.{Reads as Load_reads, Asks, MakesRoom as Load_makes_room, Has}
use Rattle.flit_pv.specs.declared.v_loads.VLoading.{VLoading}
use Rattle.flit_pv.specs.declared.v_loads.VLoading.TheVariants.{Reads as V_reads, Has as V_has}
use Rattle.flit_pv.specs.declared.exchanges.Exchanging.{Exchanging}
use Rattle.flit_pv.specs.declared.exchanges.Exchanging.TheVariants.{Ready, Tries, TriesBare, WritesBack, Withdraws, Lowers, Ended}
use Rattle.flit_pv.specs.declared.exchanges.Exchanged.TheVariants.{Won, Lost, Worn}
use Rattle.flit_pv.specs.declared.stores.Storing.{Storing}
use Rattle.flit_pv.specs.declared.stores.Storing.TheVariants.{Reads as Store_reads, MakesRoom as Store_makes_room, Writes, Ended as Store_ended}
use Rattle.flit_pv.specs.Queues.{persist_of}
use Rattle.flit_pv.specs.Loads.{HeldLoad, load_asks, load_asked, load_takes, load_taken, load_started}
use Rattle.flit_pv.specs.VLoads.{HeldVLoad, v_load_asks, v_load_takes, v_load_taken}
use Rattle.flit_pv.specs.Stores.{HeldStore, store_asked, store_taken}
use Rattle.flit_pv.specs.Exchanges.{HeldExchange, exchange_asks, exchange_asked, exchange_takes, exchange_taken, exchange_at, exchange_loses, tries_again, ready_asks, ready_takes}
use Rattle.flit_rows.specs.declared.take_row.Took.TheVariants.{Taken}
use Rattle.flit_rows.specs.declared.take_row.Taking.{Taking}
use Rattle.flit_rows.specs.declared.take_row.Taking.TheVariants.{Draws, Ended as Take_ended}
use Rattle.flit_rows.specs.Taking.{HeldTake, take_asks, take_asked, take_takes, take_taken, take_started, drawn, judged, lacks, is_past, with_row, IsRightAt}
use Rattle.flit_rows.specs.Shares.{rows_in}
use Rattle.flit_runs.specs.Workings.{Exchanges}
use Rattle.flit_structure.specs.Meanings.{key_of, value_put}
use Rattle.flit_structure.specs.Lawful.{rows_needed}
use Rattle.flit_crew.specs.Machines.{Machine, Works, machine_takes, hand_in, has_ended, HasRead, load_part}
use Rattle.flit_crew.specs.Heaps.{Heap}
use Rattle.flit_crew.specs.Fillings.{ArePairs, FillsAt}
use Rattle.flit_crew.specs.Anatomies.{own}
use Rattle.flit_crew.specs.Crews.{Who}
use Rattle.flit_crew.proofs.Stepping.{load_first, load_behind}
use Rattle.flit_crew_bounds.specs.Left.{machine_left, load_left, exchange_left, take_left}
use Rattle.flit_crew_bounds.specs.Bounding.{OwnEvent}
use Rattle.flit_crew_bounds.proofs.Searching.{at_loss}
use Rattle.flit_crew_bounds.proofs.Turning.{IsApart, store_elsewhere}
use Rattle.flit_one_key.specs.Operations.{At, Head, Key, Value, Row, Words, RowValue, Link, Ends, Rests, HeldOp}
use Rattle.flit_one_key.specs.Steps.{IsSmall, key_word, value_word, links_none, with_search, hand_linked, linked_so, link_by, head_by, key_next, value_next, hand_at}
use Rattle.flit_one_key_crew.specs.OneKeyAnatomy.{machine_at, with_machine_at, resumed, one_key_anatomy}
use Rattle.flit_one_key_crew.specs.OneKeyCrew.{one_key_crew, HasLinked, HeadKnows}
use Rattle.flit_one_key_crew.proofs.Knowing.{seen_linked}
use Rattle.flit_one_key_crew.proofs.RowWords.{key_at, value_at}
use Rattle.flit_one_key_limits.specs.OneKeyLimits.{most_events, rest_at, differs, load_again, link_again, again_at}
use Rattle.flit_one_key_limits.proofs.Arriving.{total, Arrives, to_head, to_key, to_taken, to_words, to_row_value}
use Rattle.flit_one_key_limits.proofs.OneKeyCounts.{and_false}

-- ---- words

-- a head that is as it was loaded
same_head : (words : List ℕ) → differs words (slice_index words 0) ≡ 0
same_head words = ap (λ b. if b then 0 else most_events) (eq-eqb (slice_index words 0) (slice_index words 0) refl)

most_again : (words : List ℕ) (head : ℕ) → differs words head ≤ 18
most_again words head = by_test (slice_index words 0 == head)
  where
    by_test : (b : Bool) → (if b then 0 else most_events) ≤ 18
    by_test true = omega arith
    by_test false = omega arith

load_words : (s : State) (e : Event) (m : HeldLoad) (at : Loading) → load_asks at m ≡ Some e → (after s e).words ≡ s.words
load_words s e m Load_reads q = subst (λ y. (after s y).words ≡ s.words) (same_Some (Load m.word) e q) refl
load_words s e m (Asks raw slot) q = subst (λ y. (after s y).words ≡ s.words) (same_Some (ReadTag slot) e q) refl
load_words s e m (Load_makes_room raw first) q = subst (λ y. (after s y).words ≡ s.words) (same_Some (persist_of first) e q) refl
load_words s e m (Has raw) q = absurd (none-some e q)

pair_far : (first n : ℕ) (values : List ℕ) (next : Noted) (ready : List Noted) → 1 ≤ first → ArePairs (first + n) values (next ∷ ready) → 0 ≢ next.word
pair_far first n [] next ready some pairs = absurd pairs
pair_far first n (v ∷ vs) next ready some pairs = positive first n next.word some pairs.0
  where
    positive : (f n w : ℕ) → 1 ≤ f → w ≡ f + n → 0 ≢ w
    positive f n w i e q = omega (arith, i, e, q)

in_pool : (xs : List ℕ) (i x : ℕ) → slice_get xs i ≡ Some x → Contains xs x
in_pool xs i x q = (i, slice_get_within xs i x q, get_or_from_slice_get xs i x x q)

-- ---- one event

abbrev at_it : HeldOp → At → HeldOp
at_it op at = record op { at = at }

module _ (l : Layout) (p : Place) (free : List ℕ) (small : IsSmall l) (s : State) (e : Event) (h k : Heap (Unit {0})) (me you : Who) (op : HeldOp) where
  abbrev told : ℕ
  told = answer s e

  abbrev words_then : List ℕ
  words_then = (after s e).words

  abbrev m_at : At → Machine
  m_at at = machine_takes p free (machine_at at) told

  abbrev next_at : At → At
  next_at at = (resumed l free (at_it op at) (m_at at)).at

  abbrev own_rows_of : At → List ℕ
  own_rows_of at = own (one_key_anatomy l free) (at_it op at)

  abbrev Own : At → Type 0
  Own at = OwnEvent (one_key_crew l free) l p free s e h k me you (at_it op at)

  -- it goes on to an answer, or to its next machine of this try
  pub record IsQuiet (at : At) : Type 0 where
    pub left : total (next_at at) ≤ machine_left (m_at at) + rest_at at
    pub again : again_at words_then (next_at at) ≤ again_at s.words at
    pub tries : (hand_at (next_at at)).tally.tries ≡ (hand_in (m_at at)).tally.tries

  -- its exchange was lost, and it searches again
  pub record IsLost (at : At) : Type 0 where
    pub exchange : HeldExchange
    pub found : ℕ
    pub is : m_at at ≡ Works (Exchanges exchange)
    pub ended : exchange.at ≡ Ended (Lost found)
    pub next : next_at at ≡ Head (load_started (with_search exchange.hand) 0)
    pub more : 18 ≤ again_at s.words at

  arrived : (at : At) (head : ℕ) (hand : Hand) (most : ℕ) → Arrives head hand most (next_at at) → most ≤ machine_left (m_at at) + rest_at at →
      differs words_then head ≤ again_at s.words at → hand.tally.tries ≡ (hand_in (m_at at)).tally.tries → IsQuiet at
  arrived at head hand most a left again tries = record {
    left = through (total (next_at at)) most (machine_left (m_at at) + rest_at at) a.left left;
    again = through (again_at words_then (next_at at)) (differs words_then head) (again_at s.words at) (a.again words_then) again;
    tries = a.tries ∙ tries;
  }
    where
      through : (a b c : ℕ) → a ≤ b → b ≤ c → a ≤ c
      through a b c i j = omega (arith, i, j)

  same_le : (a b : ℕ) → a ≡ b → a ≤ b
  same_le a b e = omega (arith, e)

  differs_same : (head : ℕ) → words_then ≡ s.words → differs words_then head ≤ differs s.words head
  differs_same head same = same_le (differs words_then head) (differs s.words head) (ap (λ ws. differs ws head) same)

  differs_kept : (head : ℕ) → word_at (after s e) 0 ≡ word_at s 0 → differs words_then head ≤ differs s.words head
  differs_kept head same = same_le (differs words_then head) (differs s.words head) (ap (λ w. if w == head then 0 else most_events) same)

  -- ---- the head is loaded

  pub record LoadedSo (m n : HeldLoad) : Type 0 where
    pub raw : ℕ
    pub part : load_part n.at n.word ≡ HasRead m.word raw
    pub less : differs words_then raw ≤ load_again s.words (load_part m.at m.word)

  loaded : (m : HeldLoad) (at : Loading) → m.at ≡ at → load_asks at m ≡ Some e → HeadKnows l h me op.call (load_part m.at m.word) →
      LoadedSo m (load_takes p m.at m told)
  loaded m Load_reads is q knows =
      let zero_word : m.word ≡ 0 = subst (λ x. HeadKnows l h me op.call (load_part x m.word)) is knows in
      let told_is : told ≡ word_at s m.word = ap (answer s) (sym (same_Some (Load m.word) e q)) in
      let raw_is : told ≡ slice_index s.words 0 = told_is ∙ ap (word_at s) zero_word in
      record {
        raw = told;
        part = ap (λ x. load_part (load_takes p x m told).at (load_takes p x m told).word) is ∙ (load_first p m told).part;
        less = least (differs words_then told) (load_again s.words (load_part m.at m.word)) (ap (λ ws. differs ws told) (load_words s e m Load_reads q)
            ∙ ap (differs s.words) raw_is ∙ same_head s.words);
      }
    where
      least : (a b : ℕ) → a ≡ 0 → a ≤ b
      least a b e = omega (arith, e)
  loaded m (Asks raw slot) is q knows = record {
    raw = raw;
    part = ap (λ x. load_part (load_takes p x m told).at (load_takes p x m told).word) is ∙ (load_behind p m (Asks raw slot) raw told refl is).part;
    less = same_le (differs words_then raw) (load_again s.words (load_part m.at m.word)) (ap (λ ws. differs ws raw) (load_words s e m (Asks raw slot) q)
        ∙ sym (ap (λ x. load_again s.words (load_part x m.word)) is));
  }
  loaded m (Load_makes_room raw first) is q knows = record {
    raw = raw;
    part = ap (λ x. load_part (load_takes p x m told).at (load_takes p x m told).word) is
        ∙ (load_behind p m (Load_makes_room raw first) raw told refl is).part;
    less = same_le (differs words_then raw) (load_again s.words (load_part m.at m.word))
        (ap (λ ws. differs ws raw) (load_words s e m (Load_makes_room raw first) q) ∙ sym (ap (λ x. load_again s.words (load_part x m.word)) is));
  }
  loaded m (Has raw) is q knows = absurd (none-some e q)

  head_ends : (m : HeldLoad) → Own (Head m) → LoadedSo m (load_taken p m told) → (x : Loading) → (load_taken p m told).at ≡ x →
      is_none (load_asks x (load_taken p m told)) ≡ true → IsQuiet (Head m)
  head_ends m own so Load_reads is none = absurd (false≢true none)
  head_ends m own so (Asks raw slot) is none = absurd (false≢true none)
  head_ends m own so (Load_makes_room raw first) is none = absurd (false≢true none)
  head_ends m own so (Has raw) is none =
      let n : HeldLoad = load_taken p m told in
      arrived (Head m) raw n.hand (15 + length n.hand.queue)
      (subst (λ y. Arrives raw n.hand (15 + length n.hand.queue) (head_by l free (at_it op (Head n)) n y).at) (sym is)
      (to_head l free (at_it op (Head n)) raw n.hand))
      (turned (load_left n.at) (length n.hand.queue))
      (subst (λ y. differs words_then y ≤ load_again s.words (load_part m.at m.word)) (same_raw n.word m.word so.raw raw (sym so.part
      ∙ ap (λ y. load_part y n.word) is)) so.less)
      refl
    where
      turned : (a q : ℕ) → 15 + q ≤ a + q + 15
      turned a q = omega arith

      same_raw : (v w x y : ℕ) → HasRead w x ≡ HasRead v y → x ≡ y
      same_raw v w x y e = cc

  -- ---- a head that links the row

  head_in : (x : ℕ) (xs : List ℕ) → Contains (x ∷ xs) x
  head_in x xs = Contains-append_left (x ∷ []) xs x (Contains-push [] x)

  -- then the row is in nobody's hand, and is not the next one of the pool
  gone : (at : At) (own : Own at) (row : ℕ) → HasLinked h → Contains free row → (Contains h.given row → ⊥) → ⊥
  gone at own row linked pool unlinked = ⊎_elim
      (λ none. none_in row (subst (λ xs. Contains xs row) none pool))
      (λ one. let same = one_in row (subst (λ xs. Contains xs row) one pool) in
      unlinked (subst (Contains h.given) same ((own.kept.out linked).0 (subst (Contains free) (sym same) pool))))
      own.kept.pool
    where
      none_in : (x : ℕ) → Contains [] x → ⊥
      none_in x h = absurd (omega (arith, h.1))

      one_in : (x : ℕ) → Contains (1 ∷ []) x → 1 ≡ x
      one_in x k = ⊎_elim (λ n. absurd (none_in x n)) (λ e. e) (Contains-push_cases [] 1 x k)

  -- a hand that lacks no row has one of its own, which isn't linked
  lacking : (at : At) (own : Own at) (hand : Hand) → (hand_in (machine_at at)).spare ≡ hand.spare →
      ((row : ℕ) → Contains (rows_in hand.spare) row → Contains (own_rows_of at) row) → HasLinked h → lacks 1 hand.spare ≡ true
  lacking at own hand same rows linked = by_test (lacks 1 hand.spare) refl
    where
      one_place : 1 ≤ length hand.spare
      one_place = subst (λ n. n ≤ length hand.spare) (ap rows_needed small.list) (subst (λ xs. rows_needed l.kind ≤ length xs) same own.tight.0)

      by_spare : (spare : List ℕ) → hand.spare ≡ spare → 1 ≤ length spare → lacks 1 spare ≡ false → ⊥
      by_spare [] is some none = absurd (omega (arith, some))
      by_spare (r ∷ rs) is some none =
          let other : (r == 0) ≡ false = or_first (r == 0) (lacks 0 rs) none in
          let has : Contains (rows_in hand.spare) r = subst (λ xs. Contains (rows_in xs) r) (sym is) (rw other (head_in r (rows_in rs))) in
          let k = own.own_rows r (rows r has) in
          gone at own r linked k.0 k.1
        where
          or_first : (a b : Bool) → (a || b) ≡ false → a ≡ false
          or_first true b q = q
          or_first false b q = refl

      by_test : (b : Bool) → lacks 1 hand.spare ≡ b → b ≡ true
      by_test true q = refl
      by_test false q = absurd (by_spare hand.spare refl one_place q)

  -- ---- the key and the value are loaded

  key_ends : (head : ℕ) (m : HeldVLoad) → Own (Key head m) → (x : VLoading) → m.at ≡ x → v_load_asks x m ≡ Some e → IsQuiet (Key head m)
  key_ends head m own V_reads is q =
      let n : HeldVLoad = v_load_taken m told in
      let at_end : n ≡ record m { at = V_has told } = ap (λ x. v_load_takes x m told) is in
      let links : HasLinked h = seen_linked l h me op.call head own.knows.1 own.knows.2 in
      let none : lacks 1 m.hand.spare ≡ true = lacking (Key head m) own m.hand refl (λ row has. has) links in
      arrived (Key head m) head m.hand (14 + length m.hand.queue)
      (subst (λ y. Arrives head m.hand (14 + length m.hand.queue) (key_next l free (at_it op (Key head y)) head y).at) (sym at_end)
      (to_key l free (at_it op (Key head (record m { at = V_has told }))) head m.hand (value_of told == key_of op.call)
      (λ full. absurd (false≢true (sym full ∙ none)))))
      (subst (λ y. 14 + length m.hand.queue ≤ machine_left (machine_at (Key head y)) + 14) (sym at_end) (omega arith))
      (differs_same head (subst (λ y. (after s y).words ≡ s.words) (same_Some (Load m.word) e q) refl))
      (sym (ap (λ y. y.hand.tally.tries) at_end))
  key_ends head m own (V_has raw) is q = absurd (none-some e q)

  value_ends : (m : HeldVLoad) → (x : VLoading) → m.at ≡ x → v_load_asks x m ≡ Some e → IsQuiet (Value m)
  value_ends m V_reads is q =
      let at_end : v_load_taken m told ≡ record m { at = V_has told } = ap (λ x. v_load_takes x m told) is in
      record {
        left = subst (λ y. total (value_next (at_it op (Value y)) y).at ≤ machine_left (machine_at (Value y)) + 0) (sym at_end) (omega arith);
        again = subst (λ y. again_at words_then (value_next (at_it op (Value y)) y).at ≤ 0) (sym at_end) (omega arith);
        tries = subst (λ y. (hand_at (value_next (at_it op (Value y)) y).at).tally.tries ≡ y.hand.tally.tries) (sym at_end) refl;
      }
  value_ends m (V_has raw) is q = absurd (none-some e q)

  -- ---- a row is drawn

  row_ends : (head : ℕ) (m : HeldTake) → Own (Row head m) → m.at ≡ Draws → take_asks m.at ≡ Some e → (take_taken free m told).at ≢ Draws → IsQuiet (Row head m)
  row_ends head m own is q ended =
      arrived (Row head m) head n.hand (13 + length n.hand.queue)
      (to_taken l free (at_it op (Row head n)) head n.hand n.need n.at ended (λ taken. none_linked taken))
      (by_end n.at ended)
      (differs_same head (subst (λ y. (after s y).words ≡ s.words) (same_Some Draw e (ap take_asks (sym is) ∙ q)) refl))
      refl
    where
      n : HeldTake
      n = take_taken free m told

      n_is : n ≡ take_started free (drawn free m.hand told) m.need
      n_is = ap (λ x. take_takes free x m told) is

      by_end : (x : Taking) → x ≢ Draws → 13 + length n.hand.queue ≤ take_left x n.need n.hand.spare + length n.hand.queue + 13
      by_end Draws other = absurd (other refl)
      by_end (Take_ended took) other = omega arith

      counter : told ≡ s.counter
      counter = ap (answer s) (sym (same_Some Draw e (ap take_asks (sym is) ∙ q)))

      lacked : lacks m.need m.hand.spare ≡ true
      lacked = (subst (λ x. IsRightAt free m x) is own.facts.0).0

      taken_full : (lack past : Bool) (ticket : ℕ) → judged lack past ticket ≡ Take_ended Taken → lack ≡ false
      taken_full false past ticket e = refl
      taken_full true true ticket e = absurd (cc)
      taken_full true false ticket e = absurd (cc)

      none_linked : n.at ≡ Take_ended Taken → links_none head ≡ true
      none_linked taken = by_links (links_none head) refl
        where
          full : lacks m.need (with_row (slice_get free told) m.hand.spare) ≡ false
          full = taken_full (lacks m.need (with_row (slice_get free told) m.hand.spare)) (is_past free told) told (ap (λ x. x.at) (sym n_is) ∙ taken)

          by_row : (o : Option ℕ) → slice_get free told ≡ o → HasLinked h → lacks m.need (with_row o m.hand.spare) ≡ false → ⊥
          by_row None is linked q = false≢true (sym q ∙ lacked)
          by_row (Some row) is linked q = gone (Row head m) own row linked (in_pool free told row is)
              (own.next_row row (subst (λ x. slice_get free x ≡ Some row) counter is))

          by_links : (b : Bool) → links_none head ≡ b → b ≡ true
          by_links true q = refl
          by_links false q = absurd (by_row (slice_get free told) refl (seen_linked l h me op.call head own.knows.1 q) full)

  -- ---- words are stored

  stored_far : (first : ℕ) (values : List ℕ) (m : HeldStore) (x : Storing) → 1 ≤ first → FillsAt l h (record { first = first; values = values }) x m → IsApart 0 x
  stored_far first values m (Store_reads how) some k = tt
  stored_far first values m (Writes next) some k = pair_far first (length k.done) k.rest next m.drafts.ready some k.to_store
  stored_far first values m (Store_makes_room next first') some k = tt
  stored_far first values m (Store_ended how) some k = tt

  words_keep : (head : ℕ) (m : HeldStore) → Own (Words head m) → store_asked m ≡ Some e → word_at (after s e) 0 ≡ word_at s 0
  words_keep head m own q = store_elsewhere s 0 m.at m e q (stored_far (key_word l) (key_of op.call ∷ 0 ∷ []) m m.at
      (subst (λ n. 1 ≤ n) (sym (key_at l small)) (omega arith)) own.facts.filled)

  value_keeps : (head : ℕ) (m : HeldStore) → Own (RowValue head m) → store_asked m ≡ Some e → word_at (after s e) 0 ≡ word_at s 0
  value_keeps head m own q = store_elsewhere s 0 m.at m e q (stored_far (value_word l) (value_put op.call ∷ []) m m.at
      (subst (λ n. 1 ≤ n) (sym (value_at l small)) (omega arith)) own.facts.filled)

  words_end : (head : ℕ) (m : HeldStore) → Own (Words head m) → store_asked m ≡ Some e → IsQuiet (Words head m)
  words_end head m own q =
      let n : HeldStore = store_taken m told in
      arrived (Words head m) head n.hand (total (Words head n)) (to_words l free (at_it op (Words head n)) head n)
      (same_le (total (Words head n)) (machine_left (m_at (Words head m)) + 7) refl)
      (differs_kept head (words_keep head m own q)) refl

  row_value_ends : (head : ℕ) (m : HeldStore) → Own (RowValue head m) → store_asked m ≡ Some e → IsQuiet (RowValue head m)
  row_value_ends head m own q =
      let n : HeldStore = store_taken m told in
      arrived (RowValue head m) head n.hand (total (RowValue head n)) (to_row_value l free (at_it op (RowValue head n)) head n)
      (same_le (total (RowValue head n)) (machine_left (m_at (RowValue head m)) + 4) refl)
      (differs_kept head (value_keeps head m own q)) refl

  -- ---- the head is exchanged

  -- what the head isn't
  isnt : (word old : ℕ) → word ≡ 0 → (word_at s word == old) ≡ false → differs s.words old ≡ 18
  isnt word old zero_word q = ap (λ b. if b then 0 else 18) (ap (λ w. word_at s w == old) (sym zero_word) ∙ q)

  abbrev LinkOn : HeldExchange → HeldExchange → Type 0
  LinkOn m n = (link_again words_then n.at n.from ≤ link_again s.words m.at m.from)
      × (at_loss n.at ≡ true → 18 ≤ link_again s.words m.at m.from)

  nothing : (n : ℕ) → 0 ≤ n
  nothing n = omega arith

  again_on : (m : HeldExchange) (b : Bool) → differs s.words m.from ≡ 18 → link_again s.words m.at m.from ≡ differs s.words m.from →
      LinkOn m (if b then exchange_at m TriesBare else exchange_loses m told)
  again_on m true other is = (
    subst (λ n. differs words_then (bare_of m.from) ≤ n) (sym (is ∙ other)) (most_again words_then (bare_of m.from)),
    λ q. absurd (false≢true q),
  )
  again_on m false other is = (nothing (link_again s.words m.at m.from), λ q. subst (λ n. 18 ≤ n) (sym (is ∙ other)) (omega arith))

  ready_on : (m : HeldExchange) (queue : List Noted) (slot : Option ℕ) → m.at ≡ Ready → m.word ≡ 0 → m.hand.queue ≡ queue →
      Some (ready_asks p m queue slot) ≡ Some e → LinkOn m (ready_takes m told queue slot)
  ready_on m (n ∷ ns) slot is zero_word same q = (
    same_le (link_again words_then m.at m.from) (link_again s.words m.at m.from)
        (ap (λ ws. link_again ws m.at m.from) (subst (λ y. (after s y).words ≡ s.words) (same_Some (persist_of n) e q) refl)),
    λ k. absurd (false≢true (sym (ap at_loss is) ∙ k)),
  )
  ready_on m [] (Some slot) is zero_word same q = (
    subst (λ x. differs words_then m.from ≤ link_again s.words x m.from) (sym is)
        (differs_same m.from (subst (λ y. (after s y).words ≡ s.words) (same_Some (Raise slot) e q) refl)),
    λ k. absurd (false≢true k),
  )
  ready_on m [] None is zero_word same q = by_test (told == m.from) refl
    where
      told_is : told ≡ word_at s m.word
      told_is = ap (answer s) (sym (same_Some (Exchange m.word m.from (dressed p.counted m.to)) e q))

      by_test : (b : Bool) → (told == m.from) ≡ b → LinkOn m (if b then exchange_at m WritesBack else tries_again m told)
      by_test true t = (nothing (link_again s.words m.at m.from), λ k. absurd (false≢true k))
      by_test false t = again_on m (is_tagged m.from && (told == bare_of m.from))
          (isnt m.word m.from zero_word (ap (λ w. w == m.from) (sym told_is) ∙ t)) (ap (λ x. link_again s.words x m.from) is)

  link_on : (m : HeldExchange) (x : Exchanging) → m.at ≡ x → m.word ≡ 0 → exchange_asks p x m ≡ Some e → LinkOn m (exchange_takes p x m told)
  link_on m Ready is zero_word q = ready_on m m.hand.queue (p.slot m.word) is zero_word refl q
  link_on m (Tries slot) is zero_word q = by_test (told == m.from) refl
    where
      told_is : told ≡ word_at s m.word
      told_is = ap (answer s) (sym (same_Some (Exchange m.word m.from (dressed p.counted m.to)) e q))

      by_test : (b : Bool) → (told == m.from) ≡ b → LinkOn m (exchange_at m (if b then WritesBack else Lowers slot told))
      by_test true t = (nothing (link_again s.words m.at m.from), λ k. absurd (false≢true k))
      by_test false t = (
        subst (λ y. 18 ≤ link_again s.words y m.from) (sym is)
            (subst (λ n. 18 ≤ n) (sym (isnt m.word m.from zero_word (ap (λ w. w == m.from) (sym told_is) ∙ t))) (omega arith)),
        λ k. absurd (false≢true k),
      )
  link_on m TriesBare is zero_word q = by_test (told == bare_of m.from) refl
    where
      told_is : told ≡ word_at s m.word
      told_is = ap (answer s) (sym (same_Some (Exchange m.word (bare_of m.from) (dressed p.counted m.to)) e q))

      by_test : (b : Bool) → (told == bare_of m.from) ≡ b → LinkOn m (if b then exchange_at m WritesBack else exchange_loses m told)
      by_test true t = (nothing (link_again s.words m.at m.from), λ k. absurd (false≢true k))
      by_test false t = (
        nothing (link_again s.words m.at m.from),
        λ k. subst (λ y. 18 ≤ link_again s.words y m.from) (sym is)
            (subst (λ n. 18 ≤ n) (sym (isnt m.word (bare_of m.from) zero_word (ap (λ w. w == bare_of m.from) (sym told_is) ∙ t))) (omega arith)),
      )
  link_on m WritesBack is zero_word q = (nothing (link_again s.words m.at m.from), λ k. absurd (false≢true k))
  link_on m Withdraws is zero_word q = (nothing (link_again s.words m.at m.from), λ k. absurd (false≢true k))
  link_on m (Lowers slot found) is zero_word q = (
    nothing (link_again s.words m.at m.from),
    λ k. subst (λ y. 18 ≤ link_again s.words y m.from) (sym is) (omega arith),
  )
  link_on m (Ended how) is zero_word q = absurd (none-some e q)

  link_goes : (m : HeldExchange) → Own (Link m) → LinkOn m (exchange_taken p m told)
  link_goes m own = link_on m m.at refl own.knows.0 own.asks

  linked_queue : (call : Call) (hand : Hand) → (hand_linked call hand).queue ≡ hand.queue
  linked_queue (Insert k v) hand = refl
  linked_queue (Remove k) hand = refl
  linked_queue (Contains_call k) hand = refl
  linked_queue (Get k) hand = refl

  linked_tries : (call : Call) (hand : Hand) → (hand_linked call hand).tally.tries ≡ hand.tally.tries
  linked_tries (Insert k v) hand = refl
  linked_tries (Remove k) hand = refl
  linked_tries (Contains_call k) hand = refl
  linked_tries (Get k) hand = refl

  link_ends : (m : HeldExchange) → Own (Link m) → (x : Exchanging) → (exchange_taken p m told).at ≡ x →
      is_none (exchange_asks p x (exchange_taken p m told)) ≡ true → IsQuiet (Link m) ⊎ IsLost (Link m)
  link_ends m own Ready is none = absurd (false≢true none)
  link_ends m own (Tries slot) is none = absurd (false≢true none)
  link_ends m own TriesBare is none = absurd (false≢true none)
  link_ends m own WritesBack is none = absurd (false≢true none)
  link_ends m own Withdraws is none = absurd (false≢true none)
  link_ends m own (Lowers slot found) is none = absurd (false≢true none)
  link_ends m own (Ended Won) is none =
      let n : HeldExchange = exchange_taken p m told in
      let next_is : next_at (Link m) ≡ (linked_so (at_it op (Link n)) n.hand Won).at = ap (λ x. (link_by (at_it op (Link n)) n x).at) is in
      inl (record {
        left = subst (λ y. total y ≤ machine_left (m_at (Link m)) + 0) (sym next_is)
            (on (length (hand_linked op.call n.hand).queue) (length n.hand.queue) (exchange_left n.at)
            (ap length (linked_queue op.call n.hand)));
        again = subst (λ y. again_at words_then y ≤ again_at s.words (Link m)) (sym next_is) (nothing (again_at s.words (Link m)));
        tries = ap (λ y. (hand_at y).tally.tries) next_is ∙ linked_tries op.call n.hand;
      })
    where
      on : (x y z : ℕ) → x ≡ y → 0 + x + 0 ≤ z + y + 0
      on x y z e = omega (arith, e)
  link_ends m own (Ended (Lost found)) is none =
      let n : HeldExchange = exchange_taken p m told in
      inr (record {
        exchange = n;
        found = found;
        is = refl;
        ended = is;
        next = ap (λ x. (link_by (at_it op (Link n)) n x).at) is;
        more = (link_goes m own).1 (ap at_loss is);
      })
  link_ends m own (Ended (Worn word version)) is none =
      let n : HeldExchange = exchange_taken p m told in
      let next_is : next_at (Link m) ≡ (linked_so (at_it op (Link n)) n.hand (Worn word version)).at = ap (λ x. (link_by (at_it op (Link n)) n x).at) is in
      inl (record {
        left = subst (λ y. total y ≤ machine_left (m_at (Link m)) + 0) (sym next_is)
            (on (length n.hand.queue) (exchange_left n.at));
        again = subst (λ y. again_at words_then y ≤ again_at s.words (Link m)) (sym next_is) (nothing (again_at s.words (Link m)));
        tries = ap (λ y. (hand_at y).tally.tries) next_is;
      })
    where
      on : (y z : ℕ) → 0 + y + 0 ≤ z + y + 0
      on y z = omega arith

  -- ---- each machine

  and_first : (a b : Bool) → (a && b) ≡ true → a ≡ true
  and_first true b q = refl
  and_first false b q = q

  v_reads : (m : HeldVLoad) (x : VLoading) → m.at ≡ x → v_load_asks x m ≡ Some e → m.at ≡ V_reads
  v_reads m V_reads is q = is
  v_reads m (V_has raw) is q = absurd (none-some e q)

  row_draws : (m : HeldTake) (x : Taking) → m.at ≡ x → take_asks x ≡ Some e → m.at ≡ Draws
  row_draws m Draws is q = is
  row_draws m (Take_ended took) is q = absurd (none-some e q)

  asks_none_so : (x : Taking) → is_none (take_asks x) ≡ true → x ≢ Draws
  asks_none_so x none is = false≢true (ap (λ y. is_none (take_asks y)) (sym is) ∙ none)

  -- where its machine has ended
  pub outcome : (at : At) → Own at → has_ended p (m_at at) ≡ true → IsQuiet at ⊎ IsLost at
  outcome (Head m) own ended = inl (head_ends m own (loaded m m.at refl own.asks own.knows.1) (load_taken p m told).at refl
      (and_first (is_none (load_asked (load_taken p m told))) true ended))
  outcome (Key head m) own ended = inl (key_ends head m own m.at refl own.asks)
  outcome (Value m) own ended = inl (value_ends m m.at refl own.asks)
  outcome (Row head m) own ended = inl (row_ends head m own (row_draws m m.at refl own.asks) own.asks
      (asks_none_so (take_taken free m told).at (and_first (is_none (take_asked (take_taken free m told))) true ended)))
  outcome (Words head m) own ended = inl (words_end head m own own.asks)
  outcome (RowValue head m) own ended = inl (row_value_ends head m own own.asks)
  outcome (Link m) own ended = link_ends m own (exchange_taken p m told).at refl (and_first (is_none (exchange_asked p (exchange_taken p m told))) true ended)
  outcome (Ends m) own ended = absurd (and_false _ ended)
  outcome (Rests hand) own ended = absurd (none-some e own.asks)

  -- while it runs the rest stays
  pub rest_same : (at : At) → rest_at (with_machine_at at (m_at at)) ≡ rest_at at
  rest_same (Head m) = refl
  rest_same (Key head m) = refl
  rest_same (Value m) = refl
  rest_same (Row head m) = refl
  rest_same (Words head m) = refl
  rest_same (RowValue head m) = refl
  rest_same (Link m) = refl
  rest_same (Ends m) = refl
  rest_same (Rests hand) = refl

  pub again_runs : (at : At) → Own at → again_at words_then (with_machine_at at (m_at at)) ≤ again_at s.words at
  again_runs (Head m) own = let so = loaded m m.at refl own.asks own.knows.1 in
      subst (λ x. load_again words_then x ≤ load_again s.words (load_part m.at m.word)) (sym so.part) so.less
  again_runs (Key head m) own = differs_same head (subst (λ y. (after s y).words ≡ s.words) (same_Some (Load m.word) e
      (subst (λ x. v_load_asks x m ≡ Some e) (v_reads m m.at refl own.asks) own.asks)) refl)
  again_runs (Value m) own = nothing 0
  again_runs (Row head m) own = differs_same head (subst (λ y. (after s y).words ≡ s.words) (same_Some Draw e
      (subst (λ x. take_asks x ≡ Some e) (row_draws m m.at refl own.asks) own.asks)) refl)
  again_runs (Words head m) own = differs_kept head (words_keep head m own own.asks)
  again_runs (RowValue head m) own = differs_kept head (value_keeps head m own own.asks)
  again_runs (Link m) own = (link_goes m own).0
  again_runs (Ends m) own = nothing 0
  again_runs (Rests hand) own = absurd (none-some e own.asks)
