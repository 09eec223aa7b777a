-- Where a call goes on when one of its machines has ended.
use Rattle.std.proofs.Common.{◌≡◌, ◌≢◌, ◌⊎◌, inl, inr, ⊎_elim, ℕ, ◌+◌, ◌*◌, ◌%◌, ◌^◌, ◌==◌, ◌<◌, ◌≤◌, ◌&&◌, ◌||◌, nat_le, not, Bool, true, false, List, [], ◌∷◌, length, drop, Contains, Some, None, is_none, refl, sym, ◌∙◌, ap, subst, arith, if◌then◌else◌}
use Rattle.std.proofs.lemmas.Bool.{false≢true, eqb-true, eqb-false, leb-true}
use Rattle.flit_words.specs.declared.layouts.Layout.{Layout}
use Rattle.flit_words.specs.Layouts.{words_of}
use Rattle.flit_words.specs.Words.{version_of, value_of}
use Rattle.flit_model.specs.Histories.{is_read_by, is_update_by}
use Rattle.flit_model.specs.declared.calls.Call.{Call}
use Rattle.flit_model.specs.declared.calls.Call.TheVariants.{Insert, Remove, Contains as Contains_call, Get}
use Rattle.flit_model.specs.declared.calls.Reply.{Reply}
use Rattle.flit_model.specs.declared.calls.Reply.TheVariants.{Yes, No, Found, Full, Worn}
use Rattle.flit_model.proofs.Membership.{contains_first, contains_none, contains_cases}
use Rattle.flit_place.specs.Tags.{Place}
use Rattle.flit_pv.specs.declared.hands.Hand.{Hand}
use Rattle.flit_pv.specs.VLoads.{v_load_started}
use Rattle.flit_pv.specs.Exchanges.{HeldExchange}
use Rattle.flit_pv.specs.declared.exchanges.Exchanging.TheVariants.{Ready, Ended}
use Rattle.flit_pv.specs.declared.exchanges.Exchanged.TheVariants.{Worn as Exchange_worn}
use Rattle.flit_pv.specs.Drafts.{next_bare}
use Rattle.flit_pv.specs.Queues.{first_persist}
use Rattle.flit_rows.specs.Shares.{rows_in}
use Rattle.flit_rows.specs.Taking.{HeldTake, take_started, lacks, is_past, judged}
use Rattle.flit_runs.specs.Workings.{Exchanges, asks, leaves, ToLoad, ToVLoad, ToExchange, ToStore, ToComplete, started}
use Rattle.flit_runs.specs.Worlds.{IsAway}
use Rattle.flit_runs.specs.Soundness.{Needs}
use Rattle.flit_structure.specs.Meanings.{key_of, value_put, IsServed}
use Rattle.flit_structure.specs.Lawful.{rows_needed, fits, is_get, is_insert}
use Rattle.flit_crew.specs.Machines.{Works, Takes, Fresh}
use Rattle.flit_crew.specs.Heaps.{at_word, IsOpen, IsWordOf}
use Rattle.flit_crew.specs.Anatomies.{deed_by}
use Rattle.flit_crew.specs.Crews.{Who, Goes, MayBegin, IsLimited, IsSpareWord, left, deed_if}
use Rattle.flit_one_key.specs.Operations.{At, Key, Value, Row, Link, HeldOp}
use Rattle.flit_one_key.specs.Steps.{IsSmall, key_word, value_word, to_row, links_none, with_search, searches, answers, links, link_next, stores, stores_value, row_taken, takes_row, row_by, value_next, key_is, key_isnt, key_got, head_none, head_so}
use Rattle.flit_one_key_crew.specs.OneKeyCrew.{Words_of, row_key, row_value, IsBare, Saw, HasFound, IsRight, HasRow, Inserts, Inserting, HasWords, LinksRow, UnlinksRow, Kept, one_key_crew}
use Rattle.flit_one_key_crew.proofs.RowWords.{head_open, out_opens, key_at, value_at, key_within, link_within, value_within, key_of_row, link_of_row, value_of_row}
use Rattle.flit_one_key_crew.proofs.Knowing.{seen_linked, row_own, and_false}
use Rattle.flit_one_key_crew.proofs.Loading.{reads_found, reads_none, reads_other}
use Rattle.flit_one_key_crew.proofs.Stories.{answer_by}

pub worn_reads : (call : Call) (word version : ℕ) → is_read_by call (Worn word version) ≡ false
worn_reads (Insert k v) word version = refl
worn_reads (Remove k) word version = refl
worn_reads (Contains_call k) word version = refl
worn_reads (Get k) word version = refl

pub full_reads : (call : Call) (ticket : ℕ) → is_read_by call (Full ticket) ≡ false
full_reads (Insert k v) ticket = refl
full_reads (Remove k) ticket = refl
full_reads (Contains_call k) ticket = refl
full_reads (Get k) ticket = refl

pub next_value : (old value : ℕ) → value < 2 ^ 32 → value_of (next_bare old value) ≡ value
next_value old value small = rest (version_of old) value small
  where
    rest : (v x : ℕ) → x < 2 ^ 32 → ((v + 1) * 2 ^ 33 + x) % 2 ^ 32 ≡ x
    rest v x le = omega (arith, le)

-- a hand with places for a row, whose rows are of the pool: where it lacks none, it has row 1
pub record Owns (free : List ℕ) (hand : Hand) : Type 0 where
  pub places : 1 ≤ length hand.spare
  pub tight : rows_in (drop 1 hand.spare) ≡ []
  pub pool : (row : ℕ) → Contains (rows_in hand.spare) row → Contains free row

module _ (l : Layout) (free : List ℕ) (pool : (free ≡ []) ⊎ (free ≡ 1 ∷ [])) (h : Words_of) (me : Who) (call : Call) (hand : Hand) where
  only : (row : ℕ) → Contains free row → row ≡ 1
  only row c = ⊎_elim (λ e. absurd (contains_none row (subst (λ xs. Contains xs row) e c)))
      (λ e. ⊎_elim (λ q. sym q) (λ n. absurd (contains_none row n)) (contains_cases 1 [] row (subst (λ xs. Contains xs row) e c))) pool

  pub has_row : lacks 1 hand.spare ≡ false → Owns free hand → HasRow l h me call hand
  has_row full o = by_list hand.spare refl full o.tight o.places o.pool
    where
      by_first : (x : ℕ) (rest : List ℕ) → hand.spare ≡ x ∷ rest → (b : Bool) → (x == 0) ≡ b → (b || false) ≡ false → rows_in rest ≡ [] →
          ((row : ℕ) → Contains (if not b then x ∷ rows_in rest else rows_in rest) row → Contains free row) → HasRow l h me call hand
      by_first x rest is true e full tight mine = absurd (false≢true (sym full))
      by_first x rest is false e full tight mine = record {
        rest = rest;
        first = is ∙ ap (λ y. y ∷ rest) (only x (mine x (contains_first x (rows_in rest))));
        none = tight;
      }

      by_list : (spare : List ℕ) → hand.spare ≡ spare → lacks 1 spare ≡ false → rows_in (drop 1 spare) ≡ [] → 1 ≤ length spare →
          ((row : ℕ) → Contains (rows_in spare) row → Contains free row) → HasRow l h me call hand
      by_list [] is full tight places mine = absurd (omega (arith, places))
      by_list (x ∷ rest) is full tight places mine = by_first x rest is (x == 0) refl full tight mine

-- what it has seen, and its row, don't hang on what is private
module _ (l : Layout) (h : Words_of) (me : Who) (call : Call) (private : List ℕ) where
  same_inserting : (head : ℕ) (hand : Hand) → Inserting l h me call head hand → Inserting l h (record me { private = private }) call head hand
  same_inserting head hand i = record {
    saw = record { index = i.saw.index; within = i.saw.within; left = i.saw.left; since = i.saw.since; needed = i.saw.needed };
    none = i.none;
    insert = i.insert;
    small = i.small;
    row = record { rest = i.row.rest; first = i.row.first; none = i.row.none };
  }

module _ (l : Layout) (small : IsSmall l) (p : Place) (free : List ℕ) (h : Words_of) (is : Kept l free h) (me : Who) (call : Call) (same_call : call ≡ me.call)
    (served : IsServed l call) (reply : Reply) (at : At) where
  abbrev op : HeldOp
  op = record { call = call; reply = reply; at = at }

  abbrev GoesOn : Hand → HeldOp → Type 0
  GoesOn hand next = Goes (one_key_crew l free) l p free h me hand next

  -- a search begins
  pub go_search : (hand : Hand) → IsBare l h me call → GoesOn hand (searches op hand)
  go_search hand bare = Goes.changes me hand (with_search hand) (searches op hand)
      (record { name = refl; number = refl; queue = refl; ticket = refl; queued = refl })
      (Goes.starts me (with_search hand) (ToLoad 0) (searches op hand) (head_open l small free h) refl refl same_call tt (bare, refl))

  -- the call has its reply
  pub go_answer : (hand : Hand) (reply : Reply) → fits call reply ≡ true → IsLimited (one_key_crew l free) l p free h me hand reply →
      (is_read_by call reply ≡ true → IsRight l h me call reply) → GoesOn hand (answers op hand reply)
  go_answer hand reply may limited right = Goes.starts me hand ToComplete (answers op hand reply) tt refl
      (and_false (is_none (first_persist hand.queue))) same_call
      (record {
        fits = subst (λ c. fits c reply ≡ true) same_call may;
        made = subst (λ c. deed_by (one_key_crew l free).anatomy false (is_update_by call reply) Fresh ≡ deed_if (one_key_crew l free) l p free
            (is_update_by c reply))
            same_call (ended (is_update_by call reply));
        limited = limited;
      }) right
    where
      ended : (made : Bool) → deed_by (one_key_crew l free).anatomy false made Fresh ≡ deed_if (one_key_crew l free) l p free made
      ended true = refl
      ended false = refl

  pub go_worn : (hand : Hand) (word version : ℕ) → IsLimited (one_key_crew l free) l p free h me hand (Worn word version) →
      GoesOn hand (answers op hand (Worn word version))
  go_worn hand word version limited = go_answer hand (Worn word version) refl limited (λ r. absurd (false≢true (sym (worn_reads call word version) ∙ r)))

  -- the head is to be exchanged
  pub go_link : (hand : Hand) (head value : ℕ) → value < 2 ^ 32 → Needs me.needs 0 (version_of head) →
      ((m : HeldExchange) → m.from ≡ head → m.hand ≡ hand → value_of m.to ≡ value → LinksRow l h me call m ⊎ UnlinksRow l h me call m) →
      GoesOn hand (links l op hand head value)
  go_link hand head value low needed way = by_limit (nat_le l.limit (version_of head)) refl
    where
      worn : HeldExchange
      worn = record { hand = hand; word = 0; from = head; to = 0; at = Ended (Exchange_worn 0 (version_of head)) }

      fresh : HeldExchange
      fresh = record { hand = hand; word = 0; from = head; to = next_bare head value; at = Ready }

      may : MayBegin (one_key_crew l free) l p free h me hand (ToExchange 0 head value l.limit)
      may = (head_open l small free h, low, refl, needed)

      by_limit : (b : Bool) → nat_le l.limit (version_of head) ≡ b → GoesOn hand (link_next op (if b then worn else fresh))
      by_limit true e =
          let same : started (ToExchange 0 head value l.limit) hand ≡ Exchanges worn = ap (λ b. Exchanges (if b then worn else fresh)) e in
          Goes.passes me hand (ToExchange 0 head value l.limit) (answers op hand (Worn 0 (version_of head))) may refl
          (ap (asks p) same)
          (subst (λ w. Goes (one_key_crew l free) l p free h (left (one_key_crew l free) l p free me w) (leaves w) (answers op hand (Worn 0 (version_of head))))
          (sym same) (go_worn hand 0 (version_of head) (leb-true l.limit (version_of head) e, inr needed)))
      by_limit false e = Goes.starts me hand (ToExchange 0 head value l.limit) (record op { at = Link fresh }) may
          (sym (ap (λ b. Works (Exchanges (if b then worn else fresh))) e)) refl same_call tt
          (refl, way fresh refl refl (next_value head value low))

  -- the row is linked, once its words are stored
  pub go_link_row : (hand : Hand) (head : ℕ) → Inserting l h me call head hand → HasWords l h me call → row_value l h ≡ value_put call →
      GoesOn hand (links l op hand head to_row)
  go_link_row hand head i words value = go_link hand head to_row (omega arith) i.saw.needed (λ m from in_hand to. inl (record {
    inserting = subst (λ x. Inserting l h me call x m.hand) (sym from) (subst (Inserting l h me call head) (sym in_hand) i);
    words = words;
    value = value;
    to = to;
  }))

  spare_word : (hand : Hand) (head : ℕ) → Inserting l h me call head hand → (w : ℕ) → w < words_of l → IsWordOf l 1 w → IsAway me.private w →
      IsSpareWord (one_key_crew l free) l p free me hand w
  spare_word hand head i w lt of_row away = record {
    within = lt;
    row = 1;
    own = subst (λ rows. Contains rows 1) (sym (row_own l h me call hand i.row)) (contains_first 1 []);
    word = of_row;
    away = away;
  }

  -- its value is to be stored, or it has none
  pub go_value : (hand : Hand) (head : ℕ) → Inserting l h me call head hand → HasWords l h me call → IsAway me.private (value_word l) →
      GoesOn hand (if l.values then stores_value l op hand head (value_put call) else links l op hand head to_row)
  go_value hand head i words away = by_values l.values refl
    where
      by_values : (b : Bool) → l.values ≡ b → GoesOn hand (if b then stores_value l op hand head (value_put call) else links l op hand head to_row)
      by_values true v = Goes.starts me hand (ToStore (value_word l) (value_put call ∷ []) l.limit) (stores_value l op hand head (value_put call))
          ((spare_word hand head i (value_word l) (value_within l small v) (value_of_row l small v) away, tt), (served.fits, tt), refl) refl refl same_call refl
          (same_inserting l h me call (value_word l ∷ me.private) head hand i, record { key = words.key; link = words.link }, v)
      by_values false v = go_link_row hand head i words (ap (λ b. if b then value_of (at_word h (value_word l)) else 0) v ∙ sym (served.value v))

  -- its key and its link are to be stored
  pub go_store : (hand : Hand) (head : ℕ) → Inserting l h me call head hand → IsBare l h me call → GoesOn hand (stores l op hand head)
  go_store hand head i bare = Goes.starts me hand (ToStore (key_word l) (key_of call ∷ 0 ∷ []) l.limit) (stores l op hand head) (
    (
      spare_word hand head i (key_word l) (key_within l small) (key_of_row l small) (bare (key_word l)),
      (spare_word hand head i (key_word l + 1) (link_within l small) (link_of_row l small) (bare (key_word l + 1)), tt),
    ),
    (below (key_of call) i.small, (omega arith, tt)),
    refl,
  ) refl refl same_call refl (
    same_inserting l h me call (key_word l ∷ ((key_word l + 1) ∷ me.private)) head hand i,
    (
      apart (key_word l) (value_word l) (key_at l small) (value_at l small),
      (apart_next (key_word l) (value_word l) (key_at l small) (value_at l small), bare (value_word l)),
    ),
  )
    where
      apart : (k v : ℕ) → k ≡ 1 → v ≡ 3 → k ≢ v
      apart k v a b e = absurd (omega (arith, a, b, e))

      apart_next : (k v : ℕ) → k ≡ 1 → v ≡ 3 → k + 1 ≢ v
      apart_next k v a b e = absurd (omega (arith, a, b, e))

      below : (k : ℕ) → k ≤ 4294967292 → k < 2 ^ 32
      below k le = omega (arith, le)

  -- a row is taken
  pub go_taken : (hand : Hand) (head : ℕ) → IsBare l h me call → Saw l h me call head → Inserts l h me call → HasRow l h me call hand →
      GoesOn hand (row_taken l op head hand)
  go_taken hand head bare s insert row = by_link (links_none head) refl
    where
      by_link : (b : Bool) → links_none head ≡ b → GoesOn hand (if b then stores l op hand head else searches op hand)
      by_link true none = go_store hand head (record { saw = s; none = none; insert = insert; small = served.key; row = row }) bare
      by_link false some = go_search hand bare

  module _ (hand : Hand) (o : Owns free hand) where
    row_here : lacks 1 hand.spare ≡ false → HasRow l h me call hand
    row_here full = has_row l free is.pool h me call hand full o

    -- a row is to be taken
    pub go_take : (head : ℕ) → IsBare l h me call → Saw l h me call head → Inserts l h me call → GoesOn hand (takes_row l free op hand head)
    go_take head bare s insert = by_test (lacks 1 hand.spare) refl (is_past free hand.ticket) refl
      where
        needed : rows_needed l.kind ≡ 1
        needed = ap rows_needed small.list

        by_test : (lack : Bool) → lacks 1 hand.spare ≡ lack → (past : Bool) → is_past free hand.ticket ≡ past →
            GoesOn hand (row_by l op head (record { hand = hand; need = 1; at = judged (lacks 1 hand.spare) (is_past free hand.ticket) hand.ticket })
            (judged lack past hand.ticket))
        by_test false full past e = go_taken hand head bare s insert (row_here full)
        by_test true lack true e = go_answer hand (Full hand.ticket) (ap is_insert insert)
            (subst (λ n. lacks n hand.spare ≡ true) (sym needed) lack, e, refl)
            (λ r. absurd (false≢true (sym (full_reads call hand.ticket) ∙ r)))
        by_test true lack false e = Goes.draws me hand
            (record op { at = Row head (record { hand = hand; need = 1; at = judged (lacks 1 hand.spare) (is_past free hand.ticket) hand.ticket }) })
            (ap (λ n. Takes (take_started free hand n)) (sym needed))
            (ap (λ b. is_none (Rattle.flit_rows.specs.Taking.take_asks (judged b (is_past free hand.ticket) hand.ticket)) && true) lack
            ∙ ap (λ b. is_none (Rattle.flit_rows.specs.Taking.take_asks (judged true b hand.ticket)) && true) e) same_call (bare, s, insert)

    -- the head is loaded, and links none
    go_none : (head : ℕ) → IsBare l h me call → Saw l h me call head → links_none head ≡ true → (c : Call) → call ≡ c →
        GoesOn hand (head_none l free op hand head c)
    go_none head bare s none (Insert k v) e = go_take head bare s (inserts k v e)
      where
        inserts : (k v : ℕ) → call ≡ Insert k v → Inserts l h me call
        inserts k v e = e ∙ ap (λ c. Insert (key_of c) (value_put c)) (sym e)
    go_none head bare s none (Remove k) e = go_answer hand No refl tt (λ r. reads_none l free h is me call head s none No (ap (λ c. answer_by c None) (sym e)))
    go_none head bare s none (Contains_call k) e = go_answer hand No refl tt
        (λ r. reads_none l free h is me call head s none No (ap (λ c. answer_by c None) (sym e)))
    go_none head bare s none (Get k) e = go_answer hand No refl tt (λ r. reads_none l free h is me call head s none No (ap (λ c. answer_by c None) (sym e)))

    -- the words of a row that the head has linked are open to everybody
    module _ (head : ℕ) (bare : IsBare l h me call) (s : Saw l h me call head) (some : links_none head ≡ false) where
      opens : (w : ℕ) → w < words_of l → IsOpen l free h w
      opens = out_opens l small free h is.pool (is.out (seen_linked l h me call head s some))

      pub go_head : GoesOn hand (head_so l free op hand head)
      go_head = subst (λ b. GoesOn hand (if b then head_none l free op hand head call else Rattle.flit_one_key.specs.Steps.key_next l free op head
          (v_load_started hand (key_word l)))) (sym some)
          (Goes.starts me hand (ToVLoad (key_word l)) (record op { at = Key head (v_load_started hand (key_word l)) }) (opens (key_word l) (key_within l small))
          refl refl same_call tt (bare, s, some, refl))

      -- the row's key is loaded: it is the call's
      go_is : row_key l h ≡ key_of call → (c : Call) → call ≡ c → GoesOn hand (key_is l op hand head c)
      go_is key (Insert k v) e = go_answer hand No refl tt
          (λ r. reads_found l free h is me call head s key some No (ap (λ c. answer_by c (Some (row_value l h))) (sym e)))
      go_is key (Remove k) e = go_link hand head 0 (omega arith) s.needed (λ m from in_hand to. inr (record {
        remove = e ∙ ap (λ c. Remove (key_of c)) (sym e);
        found = subst (HasFound l h me call) (sym from) (record { saw = s; linked = some; key = key });
        to = to;
      }))
      go_is key (Contains_call k) e = go_answer hand Yes (ap (λ c. not (is_get c)) e) tt
          (λ r. reads_found l free h is me call head s key some Yes (ap (λ c. answer_by c (Some (row_value l h))) (sym e)))
      go_is key (Get k) e = by_values l.values refl
        where
          by_values : (b : Bool) → l.values ≡ b → GoesOn hand (if b then value_next op (v_load_started hand (value_word l)) else answers op hand (Found 0))
          by_values true v = Goes.starts me hand (ToVLoad (value_word l)) (record op { at = Value (v_load_started hand (value_word l)) })
              (opens (value_word l) (value_within l small v)) refl refl same_call tt
              ((head, record { saw = s; linked = some; key = key }), v, e ∙ ap (λ c. Get (key_of c)) (sym e), refl)
          by_values false v = go_answer hand (Found 0) (ap is_get e) tt
              (λ r. reads_found l free h is me call head s key some (Found 0)
              (ap Found (sym (ap (λ b. if b then value_of (at_word h (value_word l)) else 0) v)) ∙ ap (λ c. answer_by c (Some (row_value l h))) (sym e)))

      -- it is another
      go_isnt : row_key l h ≢ key_of call → (c : Call) → call ≡ c → GoesOn hand (key_isnt l free op hand head c)
      go_isnt other (Insert k v) e = go_take head bare s (e ∙ ap (λ c. Insert (key_of c) (value_put c)) (sym e))
      go_isnt other (Remove k) e = go_answer hand No refl tt (λ r. reads_other l free h is me call head s other No (ap (λ c. answer_by c None) (sym e)))
      go_isnt other (Contains_call k) e = go_answer hand No refl tt (λ r. reads_other l free h is me call head s other No (ap (λ c. answer_by c None) (sym e)))
      go_isnt other (Get k) e = go_answer hand No refl tt (λ r. reads_other l free h is me call head s other No (ap (λ c. answer_by c None) (sym e)))

      pub go_got : (raw : ℕ) → value_of raw ≡ row_key l h → GoesOn hand (key_got l free op hand head raw)
      go_got raw got = by_test (value_of raw == key_of call) refl
        where
          by_test : (b : Bool) → (value_of raw == key_of call) ≡ b → GoesOn hand (if b then key_is l op hand head call else key_isnt l free op hand head call)
          by_test true e = go_is (sym got ∙ eqb-true (value_of raw) (key_of call) e) call refl
          by_test false e = go_isnt (λ q. eqb-false (value_of raw) (key_of call) e (got ∙ q)) call refl

    pub go_loaded : (head : ℕ) → IsBare l h me call → Saw l h me call head → GoesOn hand (head_so l free op hand head)
    go_loaded head bare s = by_link (links_none head) refl
      where
        by_link : (b : Bool) → links_none head ≡ b → GoesOn hand (head_so l free op hand head)
        by_link true none = subst (λ b. GoesOn hand (if b then head_none l free op hand head call else Rattle.flit_one_key.specs.Steps.key_next l free op head
            (v_load_started hand (key_word l)))) (sym none) (go_none head bare s none call refl)
        by_link false some = go_head head bare s some
