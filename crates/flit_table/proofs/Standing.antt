-- What a name has completed stands in order, as more is seen, made and joined.
use Rattle.std.proofs.Common.{◌≡◌, ◌≢◌, ℕ, zero, suc, ◌+◌, ◌<◌, ◌≤◌, ◌||◌, Bool, true, false, cond, List, [], ◌∷◌, ◌++◌, length, map, filter, take, drop, refl, sym, ◌∙◌, ap, subst, arith, append_assoc, append-nil, Option, Some, None}
use Rattle.std.proofs.lemmas.Bool.{false≢true}
use Rattle.std.proofs.lemmas.List.{length-append, map-append, take-append-drop, length-take-le, take_all}
use Rattle.std.proofs.lemmas.List.Elements.{filter-append}
use Rattle.std.specs.List.{AllByRecursion}
use Rattle.flit_model.specs.Maps.{Map}
use Rattle.flit_model.specs.Histories.{is_update, is_read, history_of, IsRightAt}
use Rattle.flit_model.specs.declared.calls.Call.{Call}
use Rattle.flit_model.specs.declared.calls.Entry.{Entry}
use Rattle.flit_model.specs.declared.calls.Placed.{Placed}
use Rattle.flit_model.specs.declared.calls.Reply.{Reply}
use Rattle.flit_model.proofs.HistoryLaws.{read_is_no_update}
use Rattle.flit_model.proofs.Elements.{all_mapped, all-map}
use Rattle.flit_pv.specs.declared.hands.Hand.{Hand}
use Rattle.flit_structure.specs.declared.workers.Doing.{Doing}
use Rattle.flit_structure.specs.declared.workers.Worker.{Worker}
use Rattle.flit_structure.specs.Moments.{idle, busy, hired}
use Rattle.flit_structure.specs.Meanings.{Meaning, first_at, replied}
use Rattle.flit_structure.proofs.Names.{all_both, all_map}
use Rattle.flit_table.specs.declared.views.Made.{Made}
use Rattle.flit_table.specs.declared.views.Made.TheVariants.{Answered}
use Rattle.flit_table.specs.Views.{answered, updates_in, reads_in, entries_of, new_posts}
use Rattle.flit_table.specs.Orders.{entries_in, AreNumberedUp, IsBegunFrom, IsDoneFrom, StandBy, IsOneMore, StandInOrder}
use Rattle.flit_table.specs.Rule.{Account}
use Rattle.flit_table.proofs.Accounts.{entries-append, entries_own, answered-append, NoneOf, filter_all, filter_none, entries_updates, none_updates}
use Rattle.flit_table.proofs.NameOrders.{take_front, cancel, none_front, up_behind, up_before, up_more, NoReadOf, simple, history_simple, simple_behind, simple_before, simple_read, simple_more}

abbrev is_entry : Entry → Bool
is_entry e = is_update e || is_read e

entries_in-append : (xs ys : List Made) → entries_in (xs ++ ys) ≡ entries_in xs ++ entries_in ys
entries_in-append xs ys = ap (filter is_entry) (answered-append xs ys) ∙ filter-append is_entry (answered xs) (answered ys)

entries_made : (name : ℕ) (xs ys : List Made) → entries_of name (entries_in (xs ++ ys)) ≡ entries_of name (entries_in xs) ++ entries_of name (entries_in ys)
entries_made name xs ys = ap (entries_of name) (entries_in-append xs ys) ∙ entries-append name (entries_in xs) (entries_in ys)

none_made : (name : ℕ) (xs : List Made) → NoneOf name (answered xs) → entries_of name (entries_in xs) ≡ []
none_made name xs h = filter_none name (entries_in xs) (filter_all (λ e. e.worker ≢ name) is_entry (answered xs) h)

-- items of other names add nothing
made_behind : (name : ℕ) (mine items : List Made) → NoneOf name (answered items) →
    (entries_of name (updates_in (mine ++ items)) ≡ entries_of name (updates_in mine))
    × (entries_of name (entries_in (mine ++ items)) ≡ entries_of name (entries_in mine))
made_behind name mine items none = (
  entries_updates name mine items ∙ ap (λ zs. entries_of name (updates_in mine) ++ zs) (none_updates name items none)
      ∙ append-nil (entries_of name (updates_in mine)),
  entries_made name mine items ∙ ap (λ zs. entries_of name (entries_in mine) ++ zs) (none_made name items none)
      ∙ append-nil (entries_of name (entries_in mine)),
)

made_before : (name : ℕ) (items mine : List Made) → NoneOf name (answered items) →
    (entries_of name (updates_in (items ++ mine)) ≡ entries_of name (updates_in mine))
    × (entries_of name (entries_in (items ++ mine)) ≡ entries_of name (entries_in mine))
made_before name items mine none = (
  entries_updates name items mine ∙ ap (λ zs. zs ++ entries_of name (updates_in mine)) (none_updates name items none),
  entries_made name items mine ∙ ap (λ zs. zs ++ entries_of name (entries_in mine)) (none_made name items none),
)

-- the entries of reads
none_read : (name : ℕ) (reads : List Placed) → NoReadOf name reads → NoneOf name (map (λ r. r.entry) reads)
none_read name reads h = all-map (λ e. e.worker ≢ name) (λ (r : Placed). r.entry) reads h

-- of items in which a name has no call there is no read of it
pub no_reads_of : (name : ℕ) (items : List Made) (reads : List Placed) → NoneOf name (answered items) → map (λ r. r.entry) reads ≡ reads_in items →
    NoReadOf name reads
no_reads_of name items reads none are = all_mapped (λ e. e.worker ≢ name) (λ (r : Placed). r.entry) reads
    (subst (NoneOf name) (sym are) (filter_all (λ e. e.worker ≢ name) is_read (answered items) none))

below_through : (p n k : ℕ) → p ≤ n → n ≤ k → p ≤ k
below_through p n k h l = omega (arith, h, l)

module _ {Op : Type 0} (meaning : Meaning Op) where
  -- a name that has made nothing
  pub stand_fresh : (seen : List Entry) (u : Worker Op) → IsDoneFrom meaning 0 u.doing → StandBy meaning seen [] [] u
  stand_fresh seen u begun = record {
    number = 0;
    within = omega arith;
    begun = begun;
    updates = refl;
    reads = tt;
    rising = tt;
    order = refl;
  }

  -- names that are new
  pub stand_new : (seen : List Entry) (n first : ℕ) → AllByRecursion (λ p. StandBy meaning seen [] [] p.worker) (new_posts first n)
  stand_new seen zero first = tt
  stand_new seen (suc n) first = (stand_fresh seen (hired first) tt, stand_new seen n (suc first))

  module _ (seen : List Entry) (mine : List Made) (placed : List Placed) where
    -- more is seen
    pub stand_grown : (between : List Entry) (u : Worker Op) → StandBy meaning seen mine placed u → StandBy meaning (seen ++ between) mine placed u
    stand_grown between u s =
        let same = take_front seen between s.number s.within in
        record {
          number = s.number;
          within = omega (arith, s.within, length-append seen between);
          begun = s.begun;
          updates = ap (entries_of u.name) same ∙ s.updates;
          reads = s.reads;
          rising = s.rising;
          order = ap (λ (l : List Entry). entries_of u.name (history_of l placed)) same ∙ s.order;
        }

    -- the worker goes on to something else
    pub stand_at : (name m n : ℕ) (doing next : Doing Op) → ((k : ℕ) → k ≤ length seen → IsDoneFrom meaning k doing → IsDoneFrom meaning k next) →
        StandBy meaning seen mine placed (record { name = name; number = m; doing = doing }) →
        StandBy meaning seen mine placed (record { name = name; number = n; doing = next })
    stand_at name m n doing next on s = record {
      number = s.number;
      within = s.within;
      begun = on s.number s.within s.begun;
      updates = s.updates;
      reads = s.reads;
      rising = s.rising;
      order = s.order;
    }

    -- items and reads of other names are added, behind or before
    pub stand_behind : (items : List Made) (reads : List Placed) (u : Worker Op) → NoneOf u.name (answered items) → NoReadOf u.name reads →
        StandBy meaning seen mine placed u → StandBy meaning seen (mine ++ items) (placed ++ reads) u
    stand_behind items reads u none no_read s =
        let made = made_behind u.name mine items none in
        let rising : AreNumberedUp u.name (map (λ r. r.entry) (placed ++ reads)) = subst (AreNumberedUp u.name) (sym (map-append (λ r. r.entry) placed reads))
        (up_behind u.name (map (λ r. r.entry) placed) (map (λ r. r.entry) reads) s.rising (none_read u.name reads no_read)) in
        let front = take s.number seen in
        record {
          number = s.number;
          within = s.within;
          begun = s.begun;
          updates = s.updates ∙ sym made.0;
          reads = all_both (λ r. r.entry.worker ≡ u.name → r.position ≤ s.number) placed reads s.reads
              (all_map (λ r. r.entry.worker ≢ u.name) (λ r. r.entry.worker ≡ u.name → r.position ≤ s.number) (λ r n own. absurd (n own)) reads no_read);
          rising = rising;
          order = history_simple u.name 0 front (placed ++ reads) rising ∙ simple_behind u.name 0 front placed reads no_read
              ∙ sym (history_simple u.name 0 front placed s.rising) ∙ s.order ∙ sym made.1;
        }

    pub stand_before : (items : List Made) (reads : List Placed) (u : Worker Op) → NoneOf u.name (answered items) → NoReadOf u.name reads →
        StandBy meaning seen mine placed u → StandBy meaning seen (items ++ mine) (reads ++ placed) u
    stand_before items reads u none no_read s =
        let made = made_before u.name items mine none in
        let rising : AreNumberedUp u.name (map (λ r. r.entry) (reads ++ placed)) = subst (AreNumberedUp u.name) (sym (map-append (λ r. r.entry) reads placed))
        (up_before u.name (map (λ r. r.entry) reads) (map (λ r. r.entry) placed) s.rising (none_read u.name reads no_read)) in
        let front = take s.number seen in
        record {
          number = s.number;
          within = s.within;
          begun = s.begun;
          updates = s.updates ∙ sym made.0;
          reads = all_both (λ r. r.entry.worker ≡ u.name → r.position ≤ s.number) reads placed
              (all_map (λ r. r.entry.worker ≢ u.name) (λ r. r.entry.worker ≡ u.name → r.position ≤ s.number) (λ r n own. absurd (n own)) reads no_read) s.reads;
          rising = rising;
          order = history_simple u.name 0 front (reads ++ placed) rising ∙ simple_before u.name 0 front reads placed no_read
              ∙ sym (history_simple u.name 0 front placed s.rising) ∙ s.order ∙ sym made.1;
        }

    -- what is seen beyond the number
    module _ (u : Worker Op) (s : StandBy meaning seen mine placed u) where
      abbrev beyond : List Entry
      beyond = drop s.number seen

      front_long : length (take s.number seen) ≡ s.number
      front_long = length-take-le s.number seen s.within

      pub updates_beyond : entries_of u.name seen ≡ entries_of u.name (updates_in mine) ++ entries_of u.name beyond
      updates_beyond =
          ap (entries_of u.name) (sym (take-append-drop s.number seen)) ∙ entries-append u.name (take s.number seen) beyond
          ∙ ap (λ zs. zs ++ entries_of u.name beyond) s.updates

      reads_first : AllByRecursion (λ r. r.entry.worker ≡ u.name → r.position ≤ 0 + length (take s.number seen)) placed
      reads_first = all_map (λ r. r.entry.worker ≡ u.name → r.position ≤ s.number)
          (λ r. r.entry.worker ≡ u.name → r.position ≤ 0 + length (take s.number seen)) (λ r k own. low r.position (k own)) placed s.reads
        where
          low : (p : ℕ) → p ≤ s.number → p ≤ 0 + length (take s.number seen)
          low p h = omega (arith, h, front_long)

      pub simple_beyond : (more : List Entry) → simple u.name 0 (take s.number seen ++ more) placed ≡
          entries_of u.name (entries_in mine) ++ entries_of u.name more
      simple_beyond more =
          simple_more u.name 0 (take s.number seen) more placed reads_first
          ∙ ap (λ zs. zs ++ entries_of u.name more) (sym (history_simple u.name 0 (take s.number seen) placed s.rising) ∙ s.order)

      pub order_beyond : entries_of u.name (history_of seen placed) ≡ entries_of u.name (entries_in mine) ++ entries_of u.name beyond
      order_beyond =
          history_simple u.name 0 seen placed s.rising ∙ ap (λ (l : List Entry). simple u.name 0 l placed) (sym (take-append-drop s.number seen))
          ∙ simple_beyond beyond

      -- so it stands in order, with what its account has more
      pub stands_in_order : Account seen mine u → StandInOrder (history_of seen placed) mine u
      stands_in_order a = record {
        more = a.more;
        is = order_beyond ∙ ap (λ zs. entries_of u.name (entries_in mine) ++ zs)
            (cancel (entries_of u.name (updates_in mine)) (entries_of u.name beyond) a.more (sym updates_beyond ∙ a.is));
        one = a.one;
      }

      one_front : (xs ys : List Entry) → IsOneMore u (xs ++ ys) → IsOneMore u xs
      one_front [] ys k = tt
      one_front (x ∷ []) [] k = k
      one_front (x ∷ []) (y ∷ ys) k = absurd k
      one_front (x ∷ (z ∷ xs)) ys k = absurd k

      -- and an account of more is one of what is seen
      pub account_seen : (behind : List Entry) → Account (seen ++ behind) mine u → Account seen mine u
      account_seen behind a = record {
        more = entries_of u.name beyond;
        is = updates_beyond;
        one = one_front (entries_of u.name beyond) (entries_of u.name behind) (subst (IsOneMore u)
            (sym (cancel (entries_of u.name (updates_in mine)) (entries_of u.name beyond ++ entries_of u.name behind) a.more
            (sym (append_assoc (entries_of u.name (updates_in mine)) (entries_of u.name beyond) (entries_of u.name behind))
            ∙ ap (λ zs. zs ++ entries_of u.name behind) (sym updates_beyond) ∙ sym (entries-append u.name seen behind) ∙ a.is))) a.one);
        below = a.below;
      }

  -- a call has its reply
  module _ (content : Map) (seen : List Entry) (mine : List Made) (placed : List Placed) (name number : ℕ) (op : Op) (call : Call) (begun : Option ℕ)
      (hand : Hand) (reply : Reply) where
    abbrev e : Entry
    e = record { worker = name; number = number; call = call; reply = reply }

    abbrev items : List Made
    items = Answered e ∷ []

    abbrev was : Worker Op
    was = busy name number op call begun

    abbrev now : Worker Op
    now = idle name number hand

    module _ (is : replied meaning op ≡ Some reply) (before : Account seen mine was) (after : Account seen (mine ++ items) now)
        (are_placed : map (λ r. r.entry) placed ≡ reads_in mine) (s : StandBy meaning seen mine placed was) where
      abbrev U : List Entry
      U = entries_of name (updates_in mine)

      abbrev E : List Entry
      E = entries_of name (entries_in mine)

      all_settled : entries_of name seen ≡ U ++ entries_of name (updates_in items)
      all_settled = after.is ∙ ap (λ zs. entries_of name (updates_in (mine ++ items)) ++ zs) (nothing after.more after.one)
          ∙ append-nil (entries_of name (updates_in (mine ++ items))) ∙ entries_updates name mine items
        where
          nothing : (more : List Entry) → IsOneMore now more → more ≡ []
          nothing [] h = refl
          nothing (d ∷ []) h = absurd h
          nothing (d ∷ (f ∷ fs)) h = absurd h

      updates_are : (b : Bool) → is_update e ≡ b → entries_of name (updates_in items) ≡ entries_of name (cond b (e ∷ []) [])
      updates_are b q = ap (λ t. entries_of name (cond t (e ∷ []) [])) q

      entries_are : (b c : Bool) → is_update e ≡ b → is_read e ≡ c → entries_of name (entries_in items) ≡ entries_of name (cond (b || c) (e ∷ []) [])
      entries_are b c q r = ap (λ t. entries_of name (cond (t || is_read e) (e ∷ []) [])) q ∙ ap (λ t. entries_of name (cond (b || t) (e ∷ []) [])) r

      beyond_are : entries_of name (drop s.number seen) ≡ entries_of name (updates_in items)
      beyond_are = cancel U (entries_of name (drop s.number seen)) (entries_of name (updates_in items))
          (sym (updates_beyond seen mine placed was s) ∙ all_settled)

      update_stands : is_update e ≡ true → is_read e ≡ false → StandBy meaning seen (mine ++ items) placed now
      update_stands yes_is no_read =
          let whole : take (length seen) seen ≡ seen = take_all (length seen) seen (omega arith) in
          let one : entries_of name (updates_in items) ≡ e ∷ [] = updates_are true yes_is ∙ entries_own name e refl in
          record {
            number = length seen;
            within = omega arith;
            begun = tt;
            updates = ap (entries_of name) whole ∙ all_settled ∙ sym (entries_updates name mine items);
            reads = all_map (λ r. r.entry.worker ≡ name → r.position ≤ s.number) (λ r. r.entry.worker ≡ name → r.position ≤ length seen)
                (λ r k own. below_through r.position s.number (length seen) (k own) s.within) placed s.reads;
            rising = s.rising;
            order = ap (λ (l : List Entry). entries_of name (history_of l placed)) whole ∙ order_beyond seen mine placed was s
                ∙ ap (λ zs. E ++ zs) (beyond_are ∙ one ∙ sym (entries_are true false yes_is no_read ∙ entries_own name e refl))
                ∙ sym (entries_made name mine items);
          }

      nothing_stands : is_update e ≡ false → is_read e ≡ false → StandBy meaning seen (mine ++ items) placed now
      nothing_stands no_update no_read = record {
        number = s.number;
        within = s.within;
        begun = tt;
        updates = s.updates ∙ sym (append-nil U) ∙ ap (λ zs. U ++ zs) (sym (updates_are false no_update)) ∙ sym (entries_updates name mine items);
        reads = s.reads;
        rising = s.rising;
        order = s.order ∙ sym (append-nil E) ∙ ap (λ zs. E ++ zs) (sym (entries_are false false no_update no_read)) ∙ sym (entries_made name mine items);
      }

      begun_first : (b : Option ℕ) → IsBegunFrom meaning s.number op b → s.number ≤ first_at s.number b
      begun_first None h = omega arith
      begun_first (Some n) h = h

      reaches : (b : Option ℕ) (p : ℕ) → IsBegunFrom meaning s.number op b → first_at 0 b ≤ p → s.number ≤ p
      reaches None p h l = absurd (no_reply (replied meaning op) h is)
        where
          no_reply : (o : Option Reply) → o ≡ None → o ≡ Some reply → ⊥
          no_reply o q r = cc
      reaches (Some n) p h l = below_through s.number n p h l

      read_stands : (r : Placed) → r.entry ≡ e → first_at 0 begun ≤ r.position → IsRightAt content seen r → is_update e ≡ false → is_read e ≡ true →
          StandBy meaning seen (mine ++ items) (placed ++ r ∷ []) now
      read_stands r same late right no_update yes_read =
          let p = r.position in
          let low : s.number ≤ p = reaches begun p s.begun late in
          let F = take p seen in
          let X = drop s.number F in
          let G = drop p seen in
          let long : length F ≡ p = length-take-le p seen right.within in
          let first : take s.number F ≡ take s.number seen =
          sym (ap (take s.number) (sym (take-append-drop p seen)) ∙ take_front F G s.number (omega (arith, low, long))) in
          let front : F ≡ take s.number seen ++ X = sym (take-append-drop s.number F) ∙ ap (λ (l : List Entry). l ++ X) first in
          let front_entries : entries_of name F ≡ U ++ entries_of name X = ap (entries_of name) front ∙ entries-append name (take s.number seen) X
          ∙ ap (λ zs. zs ++ entries_of name X) s.updates in
          let none : entries_of name X ≡ [] = none_front (entries_of name X) (entries_of name G) (cancel U (entries_of name X ++ entries_of name G) []
          (sym (append_assoc U (entries_of name X) (entries_of name G)) ∙ ap (λ zs. zs ++ entries_of name G) (sym front_entries)
          ∙ sym (entries-append name F G) ∙ ap (entries_of name) (take-append-drop p seen) ∙ all_settled ∙ ap (λ zs. U ++ zs) (updates_are false no_update))) in
          let own : r.entry.worker ≡ name = ap (λ (x : Entry). x.worker) same in
          let rising : AreNumberedUp name (map (λ q. q.entry) (placed ++ r ∷ [])) = subst (AreNumberedUp name) (sym (map-append (λ q. q.entry) placed (r ∷ [])))
          (up_more name (map (λ q. q.entry) placed) r.entry s.rising
          (subst (AllByRecursion (λ d. d.worker ≡ name → d.number ≤ r.entry.number)) (sym are_placed)
          (filter_all (λ d. d.worker ≡ name → d.number ≤ r.entry.number) is_read (answered mine)
          (all_map (λ d. d.worker ≡ name → d.number < number) (λ d. d.worker ≡ name → d.number ≤ r.entry.number)
          (λ d k q. less d.number r.entry.number (k q) (ap (λ (x : Entry). x.number) same)) (answered mine) before.below)))) in
          record {
            number = p;
            within = right.within;
            begun = tt;
            updates = front_entries ∙ ap (λ zs. U ++ zs) (none ∙ sym (updates_are false no_update)) ∙ sym (entries_updates name mine items);
            reads = all_both (λ q. q.entry.worker ≡ name → q.position ≤ p) placed (r ∷ [])
                (all_map (λ q. q.entry.worker ≡ name → q.position ≤ s.number) (λ q. q.entry.worker ≡ name → q.position ≤ p)
                (λ q k w. below_through q.position s.number p (k w) low) placed s.reads) (λ w. itself p, tt);
            rising = rising;
            order = history_simple name 0 F (placed ++ r ∷ []) rising ∙ simple_read name 0 F placed r own (omega (arith, long))
                ∙ ap (λ zs. zs ++ r.entry ∷ []) (ap (λ (l : List Entry). simple name 0 l placed) front ∙ simple_beyond seen mine placed was s X
                ∙ ap (λ zs. E ++ zs) none ∙ append-nil E)
                ∙ ap (λ (x : Entry). E ++ x ∷ []) same ∙ ap (λ zs. E ++ zs) (sym (entries_are false true no_update yes_read ∙ entries_own name e refl))
                ∙ sym (entries_made name mine items);
          }
        where
          itself : (p : ℕ) → p ≤ p
          itself p = omega arith

          less : (a b : ℕ) → a < number → b ≡ number → a ≤ b
          less a b h q = omega (arith, h, q)

      module _ (reads : List Placed) (are : map (λ r. r.entry) reads ≡ reads_in items) (late : AllByRecursion (λ r. first_at 0 begun ≤ r.position) reads)
          (right : AllByRecursion (IsRightAt content seen) reads) where
        abbrev Goal : List Placed → Type 0
        Goal l = StandBy meaning seen (mine ++ items) (placed ++ l) now

        without : StandBy meaning seen (mine ++ items) placed now → (l : List Placed) → map (λ r. r.entry) l ≡ [] → Goal l
        without t [] q = subst (λ (l : List Placed). StandBy meaning seen (mine ++ items) l now) (sym (append-nil placed)) t
        without t (x ∷ l) q = absurd (cc)

        with_one : is_update e ≡ false → is_read e ≡ true → (l : List Placed) → map (λ r. r.entry) l ≡ e ∷ [] →
            AllByRecursion (λ r. first_at 0 begun ≤ r.position) l → AllByRecursion (IsRightAt content seen) l → Goal l
        with_one no_update yes_read [] q h k = absurd (cc)
        with_one no_update yes_read (r ∷ []) q h k = let same : r.entry ≡ e = cc in read_stands r same h.0 k.0 no_update yes_read
        with_one no_update yes_read (r ∷ (x ∷ l)) q h k = absurd (cc)

        reads_are : (b : Bool) → is_read e ≡ b → map (λ r. r.entry) reads ≡ cond b (e ∷ []) []
        reads_are b q = are ∙ ap (λ t. cond t (e ∷ []) []) q

        by_case : (b c : Bool) → is_update e ≡ b → is_read e ≡ c → Goal reads
        by_case true true q r = absurd (false≢true (sym (read_is_no_update e r) ∙ q))
        by_case true false q r = without (update_stands q r) reads (reads_are false r)
        by_case false true q r = with_one q r reads (reads_are true r) late right
        by_case false false q r = without (nothing_stands q r) reads (reads_are false r)

        pub replied_stands : Goal reads
        replied_stands = by_case (is_update e) (is_read e) refl refl
