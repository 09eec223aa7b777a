-- What a call knows lasts: over what others do, while it comes to depend on more, and while its machine goes on.
use Rattle.std.proofs.Common.{◌≡◌, ◌≢◌, ◌⊎◌, inl, inr, ⊎_elim, ℕ, zero, suc, ◌+◌, ◌==◌, ◌≤◌, ◌&&◌, not, eqb, Bool, true, false, List, [], ◌∷◌, ◌++◌, length, take, Contains, Option, Some, None, refl, sym, ◌∙◌, ap, subst, arith, if◌then◌else◌}
use Rattle.std.proofs.lemmas.List.{length-append, take-append-le}
use Rattle.flit_words.specs.declared.layouts.Layout.{Layout}
use Rattle.flit_words.specs.Words.{version_of, value_of, bare_of}
use Rattle.flit_model.specs.Maps.{reply_of, map_after_all}
use Rattle.flit_model.specs.declared.calls.Call.{Call}
use Rattle.flit_model.specs.declared.calls.Reply.{Reply}
use Rattle.flit_model.specs.declared.calls.Entry.{Entry}
use Rattle.flit_model.proofs.Membership.{contains_first}
use Rattle.flit_place.specs.Tags.{Place}
use Rattle.flit_pv.specs.declared.hands.Hand.{Hand}
use Rattle.flit_pv.specs.Loads.{HeldLoad, load_taken}
use Rattle.flit_pv.specs.VLoads.{HeldVLoad, v_load_taken}
use Rattle.flit_pv.specs.Stores.{HeldStore, store_taken}
use Rattle.flit_pv.specs.Fences.{HeldComplete, complete_taken}
use Rattle.flit_pv.specs.Exchanges.{HeldExchange, exchange_taken}
use Rattle.flit_runs.specs.Workings.{Exchanges}
use Rattle.flit_pv.specs.declared.exchanges.Exchanging.{Exchanging}
use Rattle.flit_pv.specs.declared.exchanges.Exchanging.TheVariants.{Ready, Tries, TriesBare, WritesBack, Withdraws, Lowers, Ended}
use Rattle.flit_pv.specs.declared.exchanges.Exchanged.TheVariants.{Won, Lost, Worn}
use Rattle.flit_pv.proofs.OneEvent.{store_goes_further, exchange_goes_on}
use Rattle.flit_rows.specs.Taking.{HeldTake, take_taken}
use Rattle.flit_rows.specs.Shares.{rows_in}
use Rattle.flit_runs.specs.Worlds.{IsAway}
use Rattle.flit_runs.specs.Soundness.{Needs}
use Rattle.flit_structure.specs.Lawful.{is_insert}
use Rattle.flit_crew.proofs.Aiming.{aim_stays}
use Rattle.flit_crew.specs.Machines.{Works, AimsToExchange, Part, ToRead, HasRead as Part_has_read, ToWin, HasWon, HasWritten, HasLost, Other, part_of, load_part, v_load_part, exchange_part, machine_takes, has_linked, exchange_deed}
use Rattle.flit_crew.specs.Anatomies.{own, rows_but}
use Rattle.flit_crew.specs.Crews.{Who, IsFurther}
use Rattle.flit_one_key.specs.Operations.{At, Head, Key, Value, Row, Words, RowValue, Link, Ends, Rests}
use Rattle.flit_one_key.specs.Steps.{key_word, value_word, links_none}
use Rattle.flit_one_key_crew.specs.OneKeyCrew.{linked_after}
use Rattle.flit_one_key_crew.specs.OneKeyAnatomy.{machine_at, with_machine_at, one_key_anatomy}
use Rattle.flit_one_key_crew.specs.OneKeyCrew.{Words_of, row_key, row_value, linked_first, version_first, updates, IsLeft, HasLinked, IsBare, Saw, HasFound, IsRight, HasRow, Inserting, HasWords, LinksRow, UnlinksRow, HeadKnows, WordKnows, LinkKnows, KnowsAt}
use Rattle.flit_one_key_crew.proofs.Stories.{link_told, turned}
use Rattle.flit_one_key_crew.proofs.Heaps.{SameRow}

pub value_bare : (raw : ℕ) → value_of (bare_of raw) ≡ value_of raw
value_bare raw = omega arith

through : (a b c : ℕ) → a ≤ b → b ≤ c → a ≤ c
through a b c h i = omega (arith, h, i)

-- a call that has seen a head which links the row knows that the head has linked it
pub seen_links : (l : Layout) (h : Words_of) (me : Who) (call : Call) (head : ℕ) (saw : Saw l h me call head) → links_none head ≡ false →
    linked_after (linked_first h) saw.index ≡ true
seen_links l h me call head saw some =
    turned (linked_after (linked_first h) saw.index) false (sym (link_told (linked_after (linked_first h) saw.index) (value_of head) saw.left.links) ∙ some)

pub seen_none : (l : Layout) (h : Words_of) (me : Who) (call : Call) (head : ℕ) (saw : Saw l h me call head) → links_none head ≡ true →
    linked_after (linked_first h) saw.index ≡ false
seen_none l h me call head saw none =
    turned (linked_after (linked_first h) saw.index) true (sym (link_told (linked_after (linked_first h) saw.index) (value_of head) saw.left.links) ∙ none)

pub seen_linked : (l : Layout) (h : Words_of) (me : Who) (call : Call) (head : ℕ) → Saw l h me call head → links_none head ≡ false → HasLinked h
seen_linked l h me call head saw some = by_index saw.index saw.within (seen_links l h me call head saw some)
  where
    by_index : (n : ℕ) → n ≤ length (updates h) → linked_after (linked_first h) n ≡ true → HasLinked h
    by_index zero le is = inl is
    by_index (suc n) le is = inr (some_first n (length (updates h)) le)
      where
        some_first : (n m : ℕ) → suc n ≤ m → 1 ≤ m
        some_first n m i = omega (arith, i)

-- ---- a later heap, and a worker that is further

pub record Carries (l : Layout) (h k : Words_of) (me you : Who) : Type 0 where
  pub opening : k.opening ≡ h.opening
  pub more : List Entry
  pub grown : updates k ≡ updates h ++ more
  pub key : HasLinked h → row_key l k ≡ row_key l h
  pub value : HasLinked h → row_value l k ≡ row_value l h
  pub first : you.first ≡ me.first
  pub needs : (w v : ℕ) → Needs me.needs w v → Needs you.needs w v
  pub private : (w : ℕ) → IsAway me.private w → IsAway you.private w

pub carries_further : (l : Layout) (h : Words_of) (me you : Who) → IsFurther me you → Carries l h h me you
carries_further l h me you f = record {
  opening = refl;
  more = [];
  grown = sym (Rattle.std.proofs.Common.append-nil (updates h));
  key = λ q. refl;
  value = λ q. refl;
  first = f.first;
  needs = f.needs;
  private = f.private;
}

module _ (l : Layout) (h k : Words_of) (me you : Who) (c : Carries l h k me you) (call : Call) where
  longer : length (updates h) ≤ length (updates k)
  longer = add (length (updates h)) (length c.more) (length (updates k)) (ap length c.grown ∙ length-append (updates h) c.more)
    where
      add : (a b c : ℕ) → c ≡ a + b → a ≤ c
      add a b c e = omega (arith, e)

  same_first : version_first k ≡ version_first h
  same_first = ap (λ o. version_of (Rattle.std.specs.Prelude.slice_index o.words 0)) c.opening

  same_linked : linked_first k ≡ linked_first h
  same_linked = ap (λ o. not (links_none (Rattle.std.specs.Prelude.slice_index o.words 0))) c.opening

  pub bare : IsBare l h me call → IsBare l k you call
  bare b = λ w. c.private w (b w)

  pub saw : (head : ℕ) → Saw l h me call head → Saw l k you call head
  saw head s = record {
    index = s.index;
    within = through s.index (length (updates h)) (length (updates k)) s.within longer;
    left = subst (λ b. IsLeft (version_first k) b head s.index) (sym same_linked)
        (subst (λ v. IsLeft v (linked_first h) head s.index) (sym same_first) s.left);
    since = subst (λ n. n ≤ s.index) (sym c.first) s.since;
    needed = c.needs 0 (version_of head) s.needed;
  }

  pub found : (head : ℕ) → HasFound l h me call head → HasFound l k you call head
  found head s = record { saw = saw head s.saw; linked = s.linked; key = c.key (seen_linked l h me call head s.saw s.linked) ∙ s.key }

  pub right : (reply : Reply) → IsRight l h me call reply → IsRight l k you call reply
  right reply s = record {
    index = s.index;
    within = through s.index (length (updates h)) (length (updates k)) s.within longer;
    since = subst (λ n. n ≤ s.index) (sym c.first) s.since;
    needed = subst (λ v. Needs you.needs 0 (v + s.index)) (sym same_first) (c.needs 0 (version_first h + s.index) s.needed);
    right = s.right ∙ ap (λ es. reply_of (map_after_all h.opening.content es) call)
        (sym (take-append-le s.index (updates h) c.more s.within) ∙ ap (take s.index) (sym c.grown))
        ∙ ap (λ o. reply_of (map_after_all o.content (take s.index (updates k))) call) (sym c.opening);
  }

  -- the same row, in the same hand or in one with the same spare rows
  pub row : (hand now : Hand) → now.spare ≡ hand.spare → HasRow l h me call hand → HasRow l k you call now
  row hand now same r = record { rest = r.rest; first = same ∙ r.first; none = r.none }

  pub inserting : (head : ℕ) (hand now : Hand) → now.spare ≡ hand.spare → Inserting l h me call head hand → Inserting l k you call head now
  inserting head hand now same i = record {
    saw = saw head i.saw;
    none = i.none;
    insert = i.insert;
    small = i.small;
    row = row hand now same i.row;
  }

  pub words : SameRow l h k → HasWords l h me call → HasWords l k you call
  words same w = record { key = same.key ∙ w.key; link = same.link ∙ w.link }

  -- the same exchange
  record SameExchange (m n : HeldExchange) : Type 0 where
    from : n.from ≡ m.from
    to : n.to ≡ m.to
    spare : n.hand.spare ≡ m.hand.spare

  links : (m n : HeldExchange) → SameExchange m n → (HasRow l h me call m.hand → SameRow l h k) → LinksRow l h me call m → LinksRow l k you call n
  links m n same own i = record {
    inserting = subst (λ x. Inserting l k you call x n.hand) (sym same.from) (inserting m.from m.hand n.hand same.spare i.inserting);
    words = words (own i.inserting.row) i.words;
    value = (own i.inserting.row).value ∙ i.value;
    to = ap value_of same.to ∙ i.to;
  }

  unlinks : (m n : HeldExchange) → SameExchange m n → UnlinksRow l h me call m → UnlinksRow l k you call n
  unlinks m n same i = record {
    remove = i.remove;
    found = subst (HasFound l k you call) (sym same.from) (found m.from i.found);
    to = ap value_of same.to ∙ i.to;
  }

  head_on : (part : Part) → HeadKnows l h me call part → HeadKnows l k you call part
  head_on (ToRead word) s = s
  head_on (Part_has_read word raw) s = saw raw s
  head_on ToWin s = s
  head_on HasWon s = s
  head_on HasWritten s = s
  head_on (HasLost found) s = s
  head_on Other s = s

  link_on : (m n : HeldExchange) → SameExchange m n → (part : Part) → (part ≡ ToWin → HasRow l h me call m.hand → SameRow l h k) →
      LinkKnows l h me call m part → LinkKnows l k you call n part
  link_on m n same (ToRead word) own s = s
  link_on m n same (Part_has_read word raw) own s = s
  link_on m n same ToWin own s = ⊎_elim (λ q. inl (links m n same (own refl) q)) (λ q. inr (unlinks m n same q)) s
  link_on m n same HasWon own s = s
  link_on m n same HasWritten own s = s
  link_on m n same (HasLost found) own s = bare s
  link_on m n same Other own s = s

-- ---- an exchange keeps its word and what it exchanges

pub record StaysSo (m n : HeldExchange) : Type 0 where
  pub word : n.word ≡ m.word
  pub from : n.from ≡ m.from
  pub to : n.to ≡ m.to

same_aims : (m n : HeldExchange) → AimsToExchange n.word n.from n.to ≡ AimsToExchange m.word m.from m.to → StaysSo m n
same_aims m n e = record { word = cc; from = cc; to = cc }

pub exchange_stays : (p : Place) (m : HeldExchange) (told : ℕ) → StaysSo m (exchange_taken p m told)
exchange_stays p m told = same_aims m (exchange_taken p m told) (aim_stays p [] (Works (Exchanges m)) told)

-- where its word isn't exchanged yet, its rows aren't linked
pub unlinked_yet : (m : HeldExchange) (at : Exchanging) → exchange_part at ≡ ToWin → has_linked (exchange_deed at m) ≡ false
unlinked_yet m Ready e = refl
unlinked_yet m (Tries slot) e = refl
unlinked_yet m TriesBare e = refl
unlinked_yet m WritesBack e = absurd (cc)
unlinked_yet m Withdraws e = absurd (cc)
unlinked_yet m (Lowers slot found) e = refl
unlinked_yet m (Ended Won) e = absurd (cc)
unlinked_yet m (Ended (Lost found)) e = refl
unlinked_yet m (Ended (Worn word version)) e = refl

pub and_false : (b : Bool) → (b && false) ≡ false
and_false true = refl
and_false false = refl

pub row_own : (l : Layout) (h : Words_of) (me : Who) (call : Call) (hand : Hand) → HasRow l h me call hand → rows_in hand.spare ≡ 1 ∷ []
row_own l h me call hand r = ap rows_in r.first ∙ ap (λ rows. 1 ∷ rows) r.none

-- ---- phases of one kind, of which a call knows the same

pub data Like : At → At → Type 0 where
  like_head : (m n : HeldLoad) → load_part n.at n.word ≡ load_part m.at m.word → Like (Head m) (Head n)
  like_key : (head : ℕ) (m n : HeldVLoad) → v_load_part n.at n.word ≡ v_load_part m.at m.word → Like (Key head m) (Key head n)
  like_value : (m n : HeldVLoad) → v_load_part n.at n.word ≡ v_load_part m.at m.word → Like (Value m) (Value n)
  like_row : (head : ℕ) (m n : HeldTake) → Like (Row head m) (Row head n)
  like_words : (head : ℕ) (m n : HeldStore) → n.hand.spare ≡ m.hand.spare → Like (Words head m) (Words head n)
  like_row_value : (head : ℕ) (m n : HeldStore) → n.hand.spare ≡ m.hand.spare → Like (RowValue head m) (RowValue head n)
  like_link : (m n : HeldExchange) → StaysSo m n → n.hand.spare ≡ m.hand.spare → exchange_part n.at ≡ exchange_part m.at → Like (Link m) (Link n)
  like_ends : (m n : HeldComplete) → Like (Ends m) (Ends n)
  like_rests : (hand now : Hand) → Like (Rests hand) (Rests now)

pub like_same : (at : At) → Like at at
like_same (Head m) = like_head m m refl
like_same (Key head m) = like_key head m m refl
like_same (Value m) = like_value m m refl
like_same (Row head m) = like_row head m m
like_same (Words head m) = like_words head m m refl
like_same (RowValue head m) = like_row_value head m m refl
like_same (Link m) = like_link m m (same_aims m m refl) refl refl
like_same (Ends m) = like_ends m m
like_same (Rests hand) = like_rests hand hand

-- its machine has gone on, and its part stays
pub like_after : (p : Place) (free : List ℕ) (at : At) (told : ℕ) → part_of (machine_takes p free (machine_at at) told) ≡ part_of (machine_at at) →
    Like at (with_machine_at at (machine_takes p free (machine_at at) told))
like_after p free (Head m) told same = like_head m (load_taken p m told) same
like_after p free (Key head m) told same = like_key head m (v_load_taken m told) same
like_after p free (Value m) told same = like_value m (v_load_taken m told) same
like_after p free (Row head m) told same = like_row head m (take_taken free m told)
like_after p free (Words head m) told same = like_words head m (store_taken m told) (store_goes_further m told).spare
like_after p free (RowValue head m) told same = like_row_value head m (store_taken m told) (store_goes_further m told).spare
like_after p free (Link m) told same = like_link m (exchange_taken p m told) (exchange_stays p m told) (exchange_goes_on p m told).spare same
like_after p free (Ends m) told same = like_ends m (complete_taken m told)
like_after p free (Rests hand) told same = like_rests hand hand

module _ (l : Layout) (free : List ℕ) (h k : Words_of) (me you : Who) (c : Carries l h k me you) (call : Call) (reply : Reply) where
  abbrev own_at : At → List ℕ
  own_at at = own (one_key_anatomy l free) (record { call = call; reply = reply; at = at })

  row_mine : (hand : Hand) → HasRow l h me call hand → Contains (rows_in hand.spare) 1
  row_mine hand r = subst (λ rows. Contains rows 1) (sym (row_own l h me call hand r)) (contains_first 1 [])

  -- what it knows it knows of a later heap, where its own row has stayed
  pub knows_on : (at now : At) → (Contains (own_at at) 1 → SameRow l h k) → Like at now → KnowsAt l h me call reply at → KnowsAt l k you call reply now
  knows_on at now mine (like_head m n same) s =
      (bare l h k me you c call s.0, subst (HeadKnows l k you call) (sym same) (head_on l h k me you c call (load_part m.at m.word) s.1))
  knows_on at now mine (like_key head m n same) s =
      let linked = seen_linked l h me call head s.1 s.2 in (
        bare l h k me you c call s.0,
        saw l h k me you c call head s.1,
        s.2,
        subst (WordKnows (key_word l) (row_key l k)) (sym same) (subst (λ v. WordKnows (key_word l) v (v_load_part m.at m.word)) (sym (c.key linked)) s.3),
      )
  knows_on at now mine (like_value m n same) s =
      let linked = seen_linked l h me call s.0.0 s.0.1.saw s.0.1.linked in (
        (s.0.0, found l h k me you c call s.0.0 s.0.1),
        s.1,
        s.2,
        subst (WordKnows (value_word l) (row_value l k)) (sym same)
            (subst (λ v. WordKnows (value_word l) v (v_load_part m.at m.word)) (sym (c.value linked)) s.3),
      )
  knows_on at now mine (like_row head m n) s = (bare l h k me you c call s.0, saw l h k me you c call head s.1, s.2)
  knows_on at now mine (like_words head m n same) s = (inserting l h k me you c call head m.hand n.hand same s.0, c.private (value_word l) s.1)
  knows_on at now mine (like_row_value head m n same) s =
      (inserting l h k me you c call head m.hand n.hand same s.0, words l h k me you c call (mine (row_mine m.hand s.0.row)) s.1, s.2)
  knows_on at now mine (like_link m n stays spare same) s = (
    stays.word ∙ s.0,
    subst (LinkKnows l k you call n) (sym same)
        (link_on l h k me you c call m n (record { from = stays.from; to = stays.to; spare = spare }) (exchange_part m.at)
        (λ e r. mine (subst (λ b. Contains (rows_but (one_key_anatomy l free) (is_insert call && b) m.hand.spare) 1) (sym (unlinked_yet m m.at e))
        (subst (λ b. Contains (rows_but (one_key_anatomy l free) b m.hand.spare) 1) (sym (and_false (is_insert call))) (row_mine m.hand r)))) s.1),
  )
  knows_on at now mine (like_ends m n) s = λ q. right l h k me you c call reply (s q)
  knows_on at now mine (like_rests hand hand') s = absurd s
