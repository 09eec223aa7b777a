-- What a worker's items add to its pass, one item after another.
use Rattle.std.proofs.Common.{◌≡◌, ℕ, zero, ◌+◌, ◌<◌, ◌≤◌, List, [], ◌∷◌, ◌++◌, Option, Some, None, length, map, take, drop, replicate, refl, sym, ap, ◌∙◌, subst, arith, append-nil, append_assoc, add-one, suc, get_or, drop-cons}
use Rattle.std.proofs.lemmas.List.{length-append, length-map, map-append, replicate-append-replicate, take_more, take-append-drop, length-take-le, drop_all}
use Rattle.std.proofs.Math.ListN.{set}
use Rattle.flit_model.proofs.Elements.{all-append}
use Rattle.flit_model.specs.declared.calls.Call.{Call}
use Rattle.flit_model.specs.declared.calls.Entry.{Entry}
use Rattle.flit_model.specs.declared.calls.Item.{Item}
use Rattle.flit_model.specs.declared.calls.Item.TheVariants.{Call as Call_item, Evict as Evict_item}
use Rattle.flit_model.specs.declared.calls.Outcome.{Outcome}
use Rattle.flit_model.specs.declared.calls.Outcome.TheVariants.{Replied, Stopped}
use Rattle.flit_model.specs.declared.calls.Reply.{Reply}
use Rattle.flit_table.specs.declared.views.Made.{Made}
use Rattle.flit_table.specs.declared.views.Made.TheVariants.{Answered, Evicted}
use Rattle.flit_table.specs.declared.views.Origin.{Origin}
use Rattle.flit_table.specs.declared.views.View.{View}
use Rattle.flit_table.specs.declared.passes.Pass.{Pass}
use Rattle.flit_structure.specs.Meanings.{Meaning}
use Rattle.flit_table.specs.Steps.{Home}
use Rattle.flit_table.specs.Calls.{IsSamePass}
use Rattle.flit_table.specs.Passes.{BelongsTo, IsFree}
use Rattle.flit_table.specs.Orders.{AreInOrder}
use Rattle.flit_table.specs.Views.{name_of, answered}
use Rattle.flit_table.proofs.Accounts.{answered-append}
use Rattle.flit_table.proofs.LogLaws.{continues_same, continues_on}
use Rattle.flit_workers.specs.Works.{item_of, EndsAt, reply_of, calls_in, AreNumberedFrom, outcomes_of, IsInOrderAfter, Grows, IsMade, IsInItem, IsCutWithin, StandsAt, HasMade, IsWorked}

numbered-append : (n : ℕ) (xs ys : List Entry) → AreNumberedFrom n xs → AreNumberedFrom (n + length xs) ys → AreNumberedFrom n (xs ++ ys)
numbered-append n [] ys h k = subst (λ (m : ℕ). AreNumberedFrom m ys) (omega arith) k
numbered-append n (x ∷ xs) ys h k = (h.0, numbered-append (n + 1) xs ys h.1 (subst (λ (m : ℕ). AreNumberedFrom m ys) (omega arith) k))

events_on : (name m n : ℕ) (a b c : List ℕ) → b ≡ replicate m name ++ a → c ≡ replicate n name ++ b → c ≡ replicate (m + n) name ++ a
events_on name m n a b c p q =
    q ∙ ap (λ (l : List ℕ). replicate n name ++ l) p ∙ sym (append_assoc (replicate n name) (replicate m name) a)
    ∙ ap (λ (l : List ℕ). l ++ a) (replicate-append-replicate n m name)
    ∙ ap (λ (k : ℕ). replicate k name ++ a) (omega arith)

module _ {S Op : Type 0} where
  same_on : (u v w : View S Op) → IsSamePass u v → IsSamePass v w → IsSamePass u w
  same_on u v w h k = record {
    origin = k.origin ∙ h.origin;
    name = k.name ∙ h.name;
    names = k.names ∙ h.names;
    gone = k.gone ∙ h.gone;
    note = k.note ∙ h.note;
  }

  -- nothing was made
  pub grows_none : (name number : ℕ) (v : View S Op) → Grows name number [] 0 v v
  grows_none name number v = record {
    same = record { origin = refl; name = refl; names = refl; gone = refl; note = refl };
    log = continues_same v.log;
    mine = sym (append-nil v.mine);
    named = tt;
    numbered = tt;
    events = refl;
  }

  -- some items, and then others
  pub grows_on : (name number m n : ℕ) (xs ys : List Made) (u v w : View S Op) → Grows name number xs m u v →
      Grows name (number + length (answered xs)) ys n v w → Grows name number (xs ++ ys) (m + n) u w
  grows_on name number m n xs ys u v w h k = record {
    same = same_on u v w h.same k.same;
    log = continues_on u.log v.log w.log h.log k.log;
    mine = k.mine ∙ ap (λ (l : List Made). l ++ ys) h.mine ∙ append_assoc u.mine xs ys;
    named = all-append (λ x. name_of x ≡ name) xs ys h.named k.named;
    numbered = subst (AreNumberedFrom number) (sym (answered-append xs ys)) (numbered-append number (answered xs) (answered ys) h.numbered k.numbered);
    events = events_on name m n u.events v.events w.events h.events k.events;
  }

  -- after an event all stands in order
  pub order_after : (n : ℕ) (v w : View S Op) → 0 < n → AreInOrder w → IsInOrderAfter n v w
  order_after zero v w some h = absurd (omega (arith, some))
  order_after (suc n) v w some h = h

  order_on : (m n : ℕ) (v w : View S Op) → 0 < n → AreInOrder w → IsInOrderAfter (m + n) v w
  order_on m n v w some h = order_after (m + n) v w (omega (arith, some)) h

set_next : {X : Type 0} (xs : List X) (y z : X) (ys : List X) → set (xs ++ y ∷ ys) (length xs) z ≡ xs ++ z ∷ ys
set_next [] y z ys = refl
set_next (x ∷ xs) y z ys = ap (λ l. x ∷ l) (set_next xs y z ys)

abbrev outcome : Entry → Outcome
outcome e = Replied e.reply

-- a call more has its reply
replied_more : (made : List Made) (e : Entry) (call : Call) (rest : List Item) →
    set (outcomes_of made (Call_item call ∷ rest)) (length (answered made)) (Replied e.reply) ≡ outcomes_of (made ++ Answered e ∷ []) rest
replied_more made e call rest =
    let more : List Outcome = replicate (length (calls_in rest)) Stopped in
    let left : set (map outcome (answered made) ++ Stopped ∷ more) (length (answered made)) (Replied e.reply) ≡ map outcome (answered made) ++ Replied e.reply
    ∷ more =
    subst (λ (n : ℕ). set (map outcome (answered made) ++ Stopped ∷ more) n (Replied e.reply) ≡ map outcome (answered made) ++ Replied e.reply ∷ more)
    (length-map (answered made) outcome) (set_next (map outcome (answered made)) Stopped (Replied e.reply) more) in
    left ∙ sym (append_assoc (map outcome (answered made)) (Replied e.reply ∷ []) more)
    ∙ ap (λ (l : List Outcome). l ++ more) (sym (map-append outcome (answered made) (e ∷ [])))
    ∙ ap (λ (l : List Entry). map outcome l ++ more) (sym (answered-append made (Answered e ∷ [])))

-- an evict has no outcome
evicted_more : (made : List Made) (name word : ℕ) (place : ℕ) (rest : List Item) →
    outcomes_of made (Evict_item place ∷ rest) ≡ outcomes_of (made ++ Evicted name word ∷ []) rest
evicted_more made name word place rest =
    let more : List Outcome = replicate (length (calls_in rest)) Stopped in
    ap (λ (l : List Entry). map outcome l ++ more) (sym (append-nil (answered made)) ∙ sym (answered-append made (Evicted name word ∷ [])))

front_more : (items : List Item) (k : ℕ) (d : Item) (made : List Made) (x : Made) → k < length items → map item_of made ≡ take k items →
    item_of x ≡ get_or items k d → map item_of (made ++ x ∷ []) ≡ take (k + 1) items
front_more items k d made x within front is =
    map-append item_of made (x ∷ []) ∙ ap (λ (l : List Item). l ++ item_of x ∷ []) front
    ∙ ap (λ (y : Item). take k items ++ y ∷ []) is ∙ sym (take_more items k d within)

next_item : (items : List Item) (k : ℕ) (d item : Item) → k < length items → item ≡ get_or items k d → drop k items ≡ item ∷ drop (k + 1) items
next_item items k d item within is = rw add-one (drop-cons items k d within ∙ ap (λ (y : Item). y ∷ drop (suc k) items) (sym is))

answered_short : (xs : List Made) → length (answered xs) ≤ length xs
answered_short [] = omega arith
answered_short (Answered e ∷ xs) = omega (arith, answered_short xs)
answered_short (Evicted name word ∷ xs) = omega (arith, answered_short xs)

module _ {S Op : Type 0} where
  grows_by : (g h i : Pass S Op) (made : List Made) (x : Made) (count n replied : ℕ) → h.held.name ≡ g.held.name → h.held.calls ≡ g.held.calls + replied →
      replied ≡ length (answered made)
      → Grows g.held.name g.held.calls made count g.held.seat.me.0 h.held.seat.me.0 →
      Grows h.held.name h.held.calls (x ∷ []) n h.held.seat.me.0 i.held.seat.me.0 →
      Grows g.held.name g.held.calls (made ++ x ∷ []) (count + n) g.held.seat.me.0 i.held.seat.me.0
  grows_by g h i made x count n replied name calls counted first second =
      grows_on g.held.name g.held.calls count n made (x ∷ []) g.held.seat.me.0 h.held.seat.me.0 i.held.seat.me.0 first
      (subst (λ (m : ℕ). Grows g.held.name m (x ∷ []) n h.held.seat.me.0 i.held.seat.me.0) (calls ∙ ap (λ (m : ℕ). g.held.calls + m) counted)
      (subst (λ (m : ℕ). Grows m h.held.calls (x ∷ []) n h.held.seat.me.0 i.held.seat.me.0) name second))

  -- a call more
  pub made_call : (items : List Item) (k : ℕ) (d : Item) (os : List Outcome) (replied count n : ℕ) (r : Reply) (g h i : Pass S Op) → k < length items →
      h.held.name ≡ g.held.name
      → HasMade items k os replied count g h → IsMade (get_or items k d) (Some r) n h i →
      HasMade items (k + 1) (set os replied (Replied r)) (replied + 1) (count + n) g i
  made_call items k d os replied count n r g h i within name m im = by_case im.made im.is im.replied im.calls im.grows
    where
      by_case : (x : Made) → item_of x ≡ get_or items k d → reply_of x ≡ Some r → i.held.calls ≡ h.held.calls + length (answered (x ∷ [])) →
          Grows h.held.name h.held.calls (x ∷ []) n h.held.seat.me.0 i.held.seat.me.0 →
          HasMade items (k + 1) (set os replied (Replied r)) (replied + 1) (count + n) g i
      by_case (Evicted owner word) is rep calls grows = absurd (no_some r rep)
        where
          no_some : (y : Reply) → None ≡ Some y → ⊥
          no_some y e = cc
      by_case (Answered e) is rep calls grows =
          let reply : e.reply ≡ r = cc in
          let from : os ≡ outcomes_of m.made (Call_item e.call ∷ drop (k + 1) items) = m.are
          ∙ ap (outcomes_of m.made) (next_item items k d (Call_item e.call) within is) in
          record {
            made = m.made ++ Answered e ∷ [];
            grows = grows_by g h i m.made (Answered e) count n replied name m.calls m.counted m.grows grows;
            order = order_on count n g.held.seat.me.0 i.held.seat.me.0 im.some im.order;
            front = front_more items k d m.made (Answered e) within m.front is;
            are = ap (λ (l : List Outcome). set l replied (Replied r)) from ∙ ap
                (λ (j : ℕ). set (outcomes_of m.made (Call_item e.call ∷ drop (k + 1) items)) j (Replied r)) m.counted
                ∙ ap (λ (y : Reply). set (outcomes_of m.made (Call_item e.call ∷ drop (k + 1) items)) (length (answered m.made)) (Replied y)) (sym reply)
                ∙ replied_more m.made e e.call (drop (k + 1) items);
            counted = ap (λ (j : ℕ). j + 1) m.counted ∙ sym (length-append (answered m.made) (e ∷ []))
                ∙ ap length (sym (answered-append m.made (Answered e ∷ [])));
            calls = calls ∙ ap (λ (j : ℕ). j + 1) m.calls ∙ omega arith;
          }

  -- an evict more
  pub made_evict : (items : List Item) (k : ℕ) (d : Item) (os : List Outcome) (replied count n : ℕ) (g h i : Pass S Op) → k < length items →
      h.held.name ≡ g.held.name
      → HasMade items k os replied count g h → IsMade (get_or items k d) None n h i → HasMade items (k + 1) os replied (count + n) g i
  made_evict items k d os replied count n g h i within name m im = by_case im.made im.is im.replied im.calls im.grows
    where
      by_case : (x : Made) → item_of x ≡ get_or items k d → reply_of x ≡ None → i.held.calls ≡ h.held.calls + length (answered (x ∷ [])) →
          Grows h.held.name h.held.calls (x ∷ []) n h.held.seat.me.0 i.held.seat.me.0 → HasMade items (k + 1) os replied (count + n) g i
      by_case (Answered e) is rep calls grows = absurd (some_no e.reply rep)
        where
          some_no : (y : Reply) → Some y ≡ None → ⊥
          some_no y e = cc
      by_case (Evicted owner word) is rep calls grows =
          let from : os ≡ outcomes_of m.made (Evict_item word ∷ drop (k + 1) items) = m.are
          ∙ ap (outcomes_of m.made) (next_item items k d (Evict_item word) within is) in
          record {
            made = m.made ++ Evicted owner word ∷ [];
            grows = grows_by g h i m.made (Evicted owner word) count n replied name m.calls m.counted m.grows grows;
            order = order_on count n g.held.seat.me.0 i.held.seat.me.0 im.some im.order;
            front = front_more items k d m.made (Evicted owner word) within m.front is;
            are = from ∙ evicted_more m.made owner word word (drop (k + 1) items);
            counted = m.counted ∙ sym (ap length (answered-append m.made (Evicted owner word ∷ []) ∙ append-nil (answered m.made)));
            calls = calls ∙ (omega arith) ∙ m.calls;
          }

  -- at the start nothing is made
  pub made_none : (items : List Item) (g : Pass S Op) → HasMade items 0 (replicate (length (calls_in items)) Stopped) 0 0 g g
  made_none items g = record {
    made = [];
    grows = grows_none g.held.name g.held.calls g.held.seat.me.0;
    order = refl;
    front = refl;
    are = refl;
    counted = refl;
    calls = omega arith;
  }

  -- an item more
  pub made_with_reply : (items : List Item) (k : ℕ) (d : Item) (os ps : List Outcome) (replied next count n : ℕ) (reply : Option Reply) (r : Reply)
      (g h i : Pass S Op) → k < length items → h.held.name ≡ g.held.name
      → HasMade items k os replied count g h → IsMade (get_or items k d) reply n h i → reply ≡ Some r → ps ≡ set os replied (Replied r) → next ≡ replied + 1 →
      HasMade items (k + 1) ps next (count + n) g i
  made_with_reply items k d os ps replied next count n reply r g h i within name m im is ps_are next_is =
      subst (λ (l : List Outcome). HasMade items (k + 1) l next (count + n) g i) (sym ps_are)
      (subst (λ (j : ℕ). HasMade items (k + 1) (set os replied (Replied r)) j (count + n) g i) (sym next_is)
      (made_call items k d os replied count n r g h i within name m (subst (λ (o : Option Reply). IsMade (get_or items k d) o n h i) is im)))

  pub made_without_reply : (items : List Item) (k : ℕ) (d : Item) (os ps : List Outcome) (replied next count n : ℕ) (reply : Option Reply) (g h i : Pass S Op) →
      k < length items → h.held.name ≡ g.held.name
      → HasMade items k os replied count g h → IsMade (get_or items k d) reply n h i → reply ≡ None → ps ≡ os → next ≡ replied →
      HasMade items (k + 1) ps next (count + n) g i
  made_without_reply items k d os ps replied next count n reply g h i within name m im is ps_are next_is =
      subst (λ (l : List Outcome). HasMade items (k + 1) l next (count + n) g i) (sym ps_are)
      (subst (λ (j : ℕ). HasMade items (k + 1) os j (count + n) g i) (sym next_is)
      (made_evict items k d os replied count n g h i within name m (subst (λ (o : Option Reply). IsMade (get_or items k d) o n h i) is im)))

  -- no more calls are made than items
  pub made_few : (items : List Item) (k : ℕ) (os : List Outcome) (replied count : ℕ) (g h : Pass S Op) → k ≤ length items →
      HasMade items k os replied count g h → replied ≤ k
  made_few items k os replied count g h within m =
      omega (arith, m.counted, answered_short m.made, sym (length-map m.made item_of) ∙ ap length m.front ∙ length-take-le k items within)

module _ {S Op : Type 0} (meaning : Meaning Op) (o : Origin S) where
  -- the worker is at its end, between its items
  pub worked_here : (items : List Item) (k : ℕ) (os : List Outcome) (replied count : ℕ) (stop : Option ℕ) (g h : Pass S Op) → IsFree h →
      HasMade items k os replied count g h → EndsAt stop count (drop k items) →
      IsWorked meaning o items stop os g.held.name g.held.calls g.held.seat.me.0 h
  worked_here items k os replied count stop g h free m ends = record {
    made = m.made;
    count = count;
    grows = m.grows;
    order = m.order;
    rest = drop k items;
    front = sym (take-append-drop k items) ∙ ap (λ (l : List Item). l ++ drop k items) (sym m.front);
    ends = ends;
    are = m.are;
    before = count;
    further = 0;
    counted = omega arith;
    between = h.held.seat.me.0;
    over = m.grows;
    stands = (free, refl, m.calls ∙ ap (λ (j : ℕ). g.held.calls + j) m.counted);
  }

  in_item_order : (item : Item) (n calls : ℕ) (v : View S Op) (h : Pass S Op) → 0 < n → IsInItem meaning o item n calls v h → AreInOrder h.held.seat.me.0
  in_item_order (Call_item call) n calls v h some x = x.1.1.order some
  in_item_order (Evict_item word) n calls v h some x = x.2.1.order

  stands_in : (n : ℕ) (items : List Item) (k : ℕ) (d : Item) (calls : ℕ) (h i : Pass S Op) → 0 < n → k < length items → h.held.calls ≡ calls →
      IsCutWithin meaning o (get_or items k d) n h i → StandsAt meaning o n (drop k items) calls h.held.seat.me.0 i
  stands_in zero items k d calls h i some within is cut = absurd (omega (arith, some))
  stands_in (suc n) items k d calls h i some within is cut =
      subst (λ (l : List Item). StandsAt meaning o (suc n) l calls h.held.seat.me.0 i) (sym (next_item items k d (get_or items k d) within refl)) (
        cut.stopped,
        cut.waits some,
        subst (λ (c : ℕ). IsInItem meaning o (get_or items k d) (suc n) c h.held.seat.me.0 i) is (cut.inside some),
      )

  -- it was stopped within an item
  pub worked_stopped : (items : List Item) (k : ℕ) (d : Item) (os : List Outcome) (replied count n : ℕ) (stop : Option ℕ) (g h i : Pass S Op) →
      k < length items → 0 < n → h.held.name ≡ g.held.name →
      HasMade items k os replied count g h
      → IsCutWithin meaning o (get_or items k d) n h i → EndsAt stop (count + n) (drop k items) →
      IsWorked meaning o items stop os g.held.name g.held.calls g.held.seat.me.0 i
  worked_stopped items k d os replied count n stop g h i within some name m cut ends =
      let calls : h.held.calls ≡ g.held.calls + length (answered m.made) = m.calls ∙ ap (λ (j : ℕ). g.held.calls + j) m.counted in
      let on = grows_on g.held.name g.held.calls count n m.made [] g.held.seat.me.0 h.held.seat.me.0 i.held.seat.me.0 m.grows
      (subst (λ (j : ℕ). Grows g.held.name j [] n h.held.seat.me.0 i.held.seat.me.0) calls
      (subst (λ (j : ℕ). Grows j h.held.calls [] n h.held.seat.me.0 i.held.seat.me.0) name cut.grows)) in
      record {
        made = m.made;
        count = count + n;
        grows = subst (λ (l : List Made). Grows g.held.name g.held.calls l (count + n) g.held.seat.me.0 i.held.seat.me.0) (append-nil m.made) on;
        order = order_on count n g.held.seat.me.0 i.held.seat.me.0 some
            (in_item_order (get_or items k d) n h.held.calls h.held.seat.me.0 i some (cut.inside some));
        rest = drop k items;
        front = sym (take-append-drop k items) ∙ ap (λ (l : List Item). l ++ drop k items) (sym m.front);
        ends = ends;
        are = m.are;
        before = count;
        further = n;
        counted = refl;
        between = h.held.seat.me.0;
        over = m.grows;
        stands = stands_in n items k d (g.held.calls + length (answered m.made)) h i some within calls cut;
      }

-- a pass keeps its name
pub held_name : {S Op : Type 0} (meanings : S → Meaning Op) (home : Home S) (g h : Pass S Op) → BelongsTo meanings home g → BelongsTo meanings home h →
    IsSamePass g.held.seat.me.0 h.held.seat.me.0 → h.held.name ≡ g.held.name
held_name meanings home g h a b same = b.name ∙ same.name ∙ sym a.name

-- where a worker ends that has a stop
pub ends_at_stop : (stop n : ℕ) (rest : List Item) → n ≡ stop → EndsAt (Some stop) n rest
ends_at_stop stop n rest e = (omega (arith, e), λ less. absurd (impossible e less))
  where
    impossible : n ≡ stop → n < stop → ⊥
    impossible e less = omega (arith, e, less)

pub ends_behind : (stop n k : ℕ) (items : List Item) → n ≤ stop → length items ≤ k → EndsAt (Some stop) n (drop k items)
ends_behind stop n k items most past = (most, λ less. drop_all k items past)
