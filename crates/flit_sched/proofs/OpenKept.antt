-- A run that is opened is kept.
use Rattle.std.proofs.Common.{◌≡◌, ℕ, suc, ◌+◌, ◌<◌, ◌≤◌, ◌^◌, List, [], ◌∷◌, ◌++◌, length, map, get_or, refl, sym, ◌∙◌, ap, subst, arith, Option, None, slice_get, is_some}
use Rattle.std.specs.List.{AllByRecursion, Contains}
use Rattle.std.specs.List.Sorted.{IsStrictlyIncreasing}
use Rattle.std.specs.Ordering.{nat_cmp}
use Rattle.std.specs.FinMap as fin
use Rattle.flit_words.specs.Layouts.{Accepted, words_of}
use Rattle.flit_model.specs.Maps.{Map}
use Rattle.flit_model.specs.States.{State, state_from}
use Rattle.flit_model.specs.Settling.{nothing_made}
use Rattle.flit_model.specs.declared.calls.Entry.{Entry}
use Rattle.flit_model.specs.declared.calls.Placed.{Placed}
use Rattle.flit_model.specs.declared.calls.Work.{Work}
use Rattle.flit_model.specs.declared.found.Recovered.{Recovered}
use Rattle.flit_structure.specs.Moments.{Moment, IsNew, with_workers, hired, first_moment}
use Rattle.flit_structure.specs.Meanings.{Meaning, key_of, hiring}
use Rattle.flit_structure.specs.Lawful.{Lawful}
use Rattle.flit_structure.specs.declared.workers.Worker.{Worker}
use Rattle.flit_sched.specs.declared.players.Player.{Player}
use Rattle.flit_sched.specs.Runs.{workers_of}
use Rattle.flit_sched.specs.Openings.{opening_at, content_of, AreRight, IsRightItem, first_part, first_parts, first_outcome, item_count, opened_run, is_call}
use Rattle.flit_sched.specs.Kept.{IsKept, IsKeptPlayer, AreKeptFrom, IsKeyed, IsAtItem, AreApart, AllRaw, run_of, part_of, progress_of, items_of, waiting_of, pairs_waiting, one_if_busy}
use Rattle.flit_sched.proofs.KindLaws.{kinds_first}
use Rattle.flit_sched.specs.declared.seats.Seat.{Seat}
use Rattle.flit_sched.specs.Seats.{AreHiredFrom, played, IsHeld, run_by}
use Rattle.flit_sched.proofs.HiredLaws.{parts_hired, none_hired, ended_hired, last_hired}
use Rattle.flit_sched.proofs.TurnSteps.{parts_long}

no_pairs : {Op : Type 0} (ps : List (Player (Worker Op))) → AllByRecursion (λ p. p.waiting ≡ None) ps → waiting_of ps ≡ []
no_pairs [] h = refl
no_pairs (p ∷ ps) h = ap (λ o. pairs_waiting o ++ waiting_of ps) h.0 ∙ no_pairs ps h.1

parts_count : (Op : Type 0) (name : ℕ) (ws : List Work) → length (first_parts {Op = Op} name ws) ≡ length ws
parts_count Op name [] = refl
parts_count Op name (w ∷ ws) = ap suc (parts_count Op (name + 1) ws)

players_count : {Op : Type 0} (players : List (Player (Worker Op))) (name : ℕ) (ws : List Work) → map part_of players ≡ first_parts name ws →
    length players ≡ length ws
players_count {Op} players name ws e = sym (parts_long players) ∙ ap length e ∙ parts_count Op name ws

mapped : {X Y : Type 0} (f : X → Y) (xs : List X) → length (map f xs) ≡ length xs
mapped f [] = refl
mapped f (x ∷ xs) = ap suc (mapped f xs)

items_count : {Op : Type 0} (players : List (Player (Worker Op))) (name : ℕ) (ws : List Work) → map part_of players ≡ first_parts name ws →
    items_of players ≡ item_count ws
items_count [] name [] e = refl
items_count [] name (w ∷ ws) e = absurd (cc)
items_count (p ∷ ps) name [] e = absurd (cc)
items_count {Op} (p ∷ ps) name (w ∷ ws) e =
    let one : part_of p ≡ first_part name w = cc in
    let rest : map part_of ps ≡ first_parts (name + 1) ws = cc in
    let i = ap (λ x. length x.items) one in
    let r = items_count ps (name + 1) ws rest in
    omega (arith, i, r)

module _ {Op : Type 0} (meaning : Meaning Op) (l : Lawful meaning) where
  above : (name k : ℕ) (ws : List Work) → name < k → IsNew {Op = Op} name (workers_of (first_parts k ws))
  above name k [] h = tt
  above name k (w ∷ ws) h = ((λ e. omega (arith, e)), above name (k + 1) ws (omega arith))

  hired_holds : (M : Moment Op) (name : ℕ) (ws : List Work) → 1 ≤ name → name + length ws ≤ meaning.layout.workers + 1 → meaning.holds (with_workers M []) →
      meaning.holds (with_workers M (workers_of (first_parts name ws)))
  hired_holds M name [] low high h = h
  hired_holds M name (w ∷ ws) low high h =
      l.keeps None (with_workers M (workers_of (first_parts (name + 1) ws))) (with_workers M (hired name ∷ workers_of (first_parts (name + 1) ws)))
      (hiring (with_workers M (workers_of (first_parts (name + 1) ws))) name low (omega arith) (above name (name + 1) ws (omega arith)))
      (hired_holds M (name + 1) ws (omega arith) (omega arith) h)

  each_opened : (content : Map) (keys : List ℕ) (name : ℕ) (players : List (Player (Worker Op))) (ws : List Work) → map part_of players ≡ first_parts name ws →
      AllByRecursion (λ p. p.waiting ≡ None) players →
      AllByRecursion (λ w. AllByRecursion (IsRightItem meaning.layout) w.items.items) ws →
      AllByRecursion (λ w. AllByRecursion (IsKeyed keys) w.items.items) ws → AreKeptFrom meaning content [] keys name players
  each_opened content keys name [] [] e none right keyed = tt
  each_opened content keys name [] (w ∷ ws) e none right keyed = tt
  each_opened content keys name (p ∷ ps) [] e none right keyed = absurd (cc)
  each_opened content keys name (p ∷ ps) (w ∷ ws) e none right keyed =
      let one : part_of p ≡ first_part name w = cc in
      let rest : map part_of ps ≡ first_parts (name + 1) ws = cc in
      (own one, each_opened content keys (name + 1) ps ws rest none.1 right.1 keyed.1)
    where
      own : part_of p ≡ first_part name w → IsKeptPlayer meaning content [] keys name p
      own one = record {
        named = ap (λ x. x.worker.name) one;
        items = subst (AllByRecursion (IsRightItem meaning.layout)) (sym (ap (λ x. x.items) one)) right.0;
        keyed = subst (AllByRecursion (IsKeyed keys)) (sym (ap (λ x. x.items) one)) keyed.0;
        over = (let o = ap (λ x. x.over) one in omega (arith, o));
        outcomes = ap (λ x. length x.outcomes) one ∙ mapped first_outcome w.items.items ∙ sym (ap (λ x. length x.items) one);
        kinds = ap (λ x. map is_some x.outcomes) one ∙ kinds_first w.items.items ∙ sym (ap (λ x. map is_call x.items) one);
        number = subst (λ x. x.worker.number ≤ x.over + one_if_busy x.worker.doing) (sym one) (omega arith);
        waits = subst (λ o. AllByRecursion (λ v. (v.1.worker ≡ name) × Contains keys (key_of v.1.call)) (pairs_waiting o)) (sym none.0) tt;
        at = subst (λ x. IsAtItem meaning content [] (slice_get x.items x.over) p.noted x.worker.doing) (sym one) tt;
      }

  module _ (start : Recovered) (works : List Work) (players : List (Player (Worker Op))) (keys : List ℕ) (values : List (Option ℕ)) (entries reads : ℕ)
      (opens : meaning.opens (opening_at start)) (right : AreRight meaning.layout works) (parts : map part_of players ≡ first_parts 1 works)
      (none : AllByRecursion (λ p. p.waiting ≡ None) players) where
    abbrev content : Map
    content = content_of start.keys.items start.values.items

    first_holds : meaning.holds (first_moment meaning.layout (opening_at start))
    first_holds = (l.opens (opening_at start) opens).2

    pub accepted : Accepted meaning.layout
    accepted = (l.sized (first_moment meaning.layout (opening_at start)) first_holds).accepted

    pub whole : length start.image.words.items ≡ words_of meaning.layout
    whole = (l.sized (first_moment meaning.layout (opening_at start)) first_holds).words

    progress_none : progress_of [] players ≡ nothing_made
    progress_none = ap (λ ws. record { settled = []; waiting = fin.from_entries {R = nat_cmp} ws }) (no_pairs players none)

    pub view_opened : run_of content (state_from meaning.layout start.image.words.items) [] [] players ≡ opened_run meaning start works
    view_opened =
        ap (λ P. record (run_of content (state_from meaning.layout start.image.words.items) [] [] players) { progress = P }) progress_none
        ∙ ap (λ ps. record (run_of content (state_from meaning.layout start.image.words.items) [] [] players) { progress = nothing_made; parts = ps }) parts

    pub kept_opened : IsStrictlyIncreasing keys → AllByRecursion (λ w. AllByRecursion (IsKeyed keys) w.items.items) works →
        map (λ k. fin.get content k) keys ≡ values → AllRaw start.image.words.items →
        item_count works + length works ≤ entries → item_count works ≤ reads →
        IsKept meaning (run_of content (state_from meaning.layout start.image.words.items) [] [] players) players keys values entries reads
    kept_opened rising keyed book raw room1 room2 = record {
      words = start.image.words.items;
      free = start.free.items;
      holds =
          subst (λ P. meaning.holds (record {
            opening = opening_at start;
            state = state_from meaning.layout start.image.words.items;
            progress = P;
            workers =
                workers_of (map part_of players);
          })) (sym progress_none)
          (subst (λ ps. meaning.holds (record {
            opening = opening_at start;
            state = state_from meaning.layout start.image.words.items;
            progress = nothing_made;
            workers = workers_of ps;
          })) (sym parts)
          (hired_holds (first_moment meaning.layout (opening_at start)) 1 works (omega arith) (let n = right.workers in omega (arith, n)) first_holds));
      workers = players_count players 1 works parts ∙ right.workers;
      each = each_opened content keys 1 players works parts none right.items keyed;
      apart = subst AreApart (sym (no_pairs players none)) tt;
      words_raw = raw;
      shadows_raw = raw;
      book = record { rising = rising; same = sym (ap length book) ∙ mapped (λ k. fin.get content k) keys; is = book };
      most = (let i = items_count players 1 works parts in let n = right.most in omega (arith, i, n));
      entries_room = (let i = items_count players 1 works parts in let n = players_count players 1 works parts in omega (arith, i, n, room1));
      reads_room = (let i = items_count players 1 works parts in omega (arith, i, room2));
      placed = omega arith;
      right = tt;
    }

-- numbers of which each has 64 bits
pub all_raw : (ws : List ℕ) → ((i : ℕ) → get_or ws i 0 < 2 ^ 64) → AllRaw ws
all_raw [] h = tt
all_raw (w ∷ ws) h = (h 0, all_raw ws (λ i. h (suc i)))

-- the run of some parts, where these are those of an opening
pub run_same : {Op : Type 0} (players : List (Player (Worker Op))) (fk fv keys values : List ℕ) (m n : State) (settled : List Entry) (placed : List Placed) →
    fk ≡ keys → fv ≡ values → m ≡ n → settled ≡ [] → placed ≡ [] →
    run_of (content_of fk fv) m settled placed players ≡ run_of (content_of keys values) n [] [] players
run_same players fk fv keys values m n settled placed a b c d e =
    ap (λ x. run_of (content_of x fv) m settled placed players) a
    ∙ ap (λ x. run_of (content_of keys x) m settled placed players) b
    ∙ ap (λ x. run_of (content_of keys values) x settled placed players) c
    ∙ ap (λ x. run_of (content_of keys values) n x placed players) d
    ∙ ap (λ x. run_of (content_of keys values) n [] x players) e

-- what a run that is opened is kept in
module _ {Op : Type 0} (meaning : Meaning Op) (l : Lawful meaning) (start : Recovered) (works : List Work) (players : List (Player (Seat Op)))
    (opens : meaning.opens (opening_at start)) (right : AreRight meaning.layout works) (hired : AreHiredFrom 1 works players)
    (fk fv : List ℕ) (m : State) (settled : List Entry) (placed : List Placed) (a : fk ≡ start.keys.items) (b : fv ≡ start.values.items)
    (c : m ≡ state_from meaning.layout start.image.words.items) (d : settled ≡ []) (e : placed ≡ []) where
  run_is : run_by meaning (content_of fk fv) m settled placed players ≡ run_of (content_of start.keys.items start.values.items)
      (state_from meaning.layout start.image.words.items) [] [] (map (played meaning) players)
  run_is = run_same (map (played meaning) players) fk fv start.keys.items start.values.items m (state_from meaning.layout start.image.words.items) settled
      placed a b c d e

  pub seen_opened : run_by meaning (content_of fk fv) m settled placed players ≡ opened_run meaning start works
  seen_opened =
      run_is
      ∙ view_opened meaning l start works (map (played meaning) players) [] [] 0 0 opens right (parts_hired meaning 1 works players hired)
      (none_hired meaning 1 works players hired)

  pub held_opened : (keys : List ℕ) (values : List (Option ℕ)) (waiters : List ℕ) (entries reads : ℕ) → IsStrictlyIncreasing keys →
      AllByRecursion (λ w. AllByRecursion (IsKeyed keys) w.items.items) works →
      map (λ k. fin.get (content_of start.keys.items start.values.items) k) keys ≡ values → AllRaw start.image.words.items →
      item_count works + length works ≤ entries → item_count works ≤ reads → length waiters ≡ words_of meaning.layout →
      IsHeld meaning (content_of fk fv) m settled placed players keys values waiters entries reads
  held_opened keys values waiters entries reads rising keyed book raw room1 room2 long = record {
    kept =
        subst (λ r. IsKept meaning r (map (played meaning) players) keys values entries reads) (sym run_is)
        (kept_opened meaning l start works (map (played meaning) players) keys values entries reads opens right (parts_hired meaning 1 works players hired)
        (none_hired meaning 1 works players hired)
        rising keyed book raw room1 room2);
    ended = ended_hired meaning 1 works players hired;
    last = last_hired waiters 1 1 works players hired;
    long = long;
  }
