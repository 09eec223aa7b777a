-- The players as they are kept in their places, and as the laws see them.
use Rattle.std.proofs.Common.{◌≡◌, ℕ, zero, suc, ◌<◌, List, [], ◌∷◌, ◌++◌, length, get_or, map, refl, sym, ◌∙◌, ap, arith, Option, Some, None, true, false, is_none, slice_get}
use Rattle.std.proofs.Math.ListN.{set}
use Rattle.std.specs.List.{AllByRecursion}
use Rattle.flit_model.specs.declared.calls.Entry.{Entry}
use Rattle.flit_model.specs.declared.calls.Item.{Item}
use Rattle.flit_model.specs.declared.calls.Item.TheVariants.{Call as Call_item, Evict as Evict_item}
use Rattle.flit_pv.specs.declared.hands.Hand.{Hand}
use Rattle.flit_pv.specs.Hands.{first_hand}
use Rattle.flit_structure.specs.declared.workers.Doing.TheVariants.{Idle}
use Rattle.flit_structure.specs.declared.workers.Worker.{Worker}
use Rattle.flit_structure.specs.Meanings.{Meaning}
use Rattle.flit_sched.specs.declared.players.Player.{Player}
use Rattle.flit_sched.specs.declared.seats.At.{At}
use Rattle.flit_sched.specs.declared.seats.At.TheVariants.{New, Call as At_call, Evict as At_evict}
use Rattle.flit_sched.specs.declared.seats.Seat.{Seat}
use Rattle.flit_sched.specs.declared.seats.UnderWay.{UnderWay}
use Rattle.flit_sched.specs.Kept.{waiting_of, pairs_waiting, IsKeyed}
use Rattle.flit_sched.specs.Settled.{NoneAt, Settles, nothing_raised, nothing_waits, one_settles}
use Rattle.flit_sched.specs.Seats.{at_rest, doing_of, played}
use Rattle.flit_sched.specs.Starting.{MayBegin}

pub map_joined : {X Y : Type 0} (f : X → Y) (a b : List X) (x : X) → map f (a ++ x ∷ b) ≡ map f a ++ f x ∷ map f b
map_joined f [] b x = refl
map_joined f (y ∷ a) b x = ap (λ zs. f y ∷ zs) (map_joined f a b x)

pub map_long : {X Y : Type 0} (f : X → Y) (xs : List X) → length (map f xs) ≡ length xs
map_long f [] = refl
map_long f (x ∷ xs) = ap suc (map_long f xs)

get_mapped : {X Y : Type 0} (f : X → Y) (xs : List X) (i : ℕ) (d : X) → get_or (map f xs) i (f d) ≡ f (get_or xs i d)
get_mapped f [] i d = refl
get_mapped f (x ∷ xs) zero d = refl
get_mapped f (x ∷ xs) (suc i) d = get_mapped f xs i d

pub set_mapped : {X Y : Type 0} (f : X → Y) (xs : List X) (i : ℕ) (x : X) → map f (set xs i x) ≡ set (map f xs) i (f x)
set_mapped f [] i x = refl
set_mapped f (y ∷ xs) zero x = refl
set_mapped f (y ∷ xs) (suc i) x = ap (λ zs. f y ∷ zs) (set_mapped f xs i x)

pub at_mapped : {X Y : Type 0} (f : X → Y) (xs : List X) (i : ℕ) (x : X) → x ≡ get_or xs i x → f x ≡ get_or (map f xs) i (f x)
at_mapped f xs i x is = ap f is ∙ sym (get_mapped f xs i x)

pub all_set : {X : Type 0} (P : X → Type 0) (xs : List X) (i : ℕ) (x : X) → P x → AllByRecursion P xs → AllByRecursion P (set xs i x)
all_set P [] i x k h = tt
all_set P (y ∷ xs) zero x k h = (k, h.1)
all_set P (y ∷ xs) (suc i) x k h = (h.0, all_set P xs i x k h.1)

pub all_at_place : {X : Type 0} (P : X → Type 0) (xs : List X) (i : ℕ) (d : X) → i < length xs → AllByRecursion P xs → P (get_or xs i d)
all_at_place P [] i d lt h = absurd (omega arith)
all_at_place P (x ∷ xs) zero d lt h = h.0
all_at_place P (x ∷ xs) (suc i) d lt h = all_at_place P xs i d (omega arith) h.1

pub item_there : {X : Type 0} (xs : List X) (i : ℕ) (x : X) → i < length xs → x ≡ get_or xs i x → slice_get xs i ≡ Some x
item_there [] i x lt is = absurd (omega arith)
item_there (y ∷ xs) zero x lt is = ap Some (sym is)
item_there (y ∷ xs) (suc i) x lt is = item_there xs i x (omega arith) is

module _ {Op : Type 0} (meaning : Meaning Op) where
  pub waiting_played : (ps : List (Player (Seat Op))) → waiting_of (map (played meaning) ps) ≡ waiting_of ps
  waiting_played [] = refl
  waiting_played (p ∷ ps) = ap (λ ws. pairs_waiting p.waiting ++ ws) (waiting_played ps)

  none_played : (word : ℕ) (ps : List (Player (Seat Op))) → NoneAt word ps → NoneAt word (map (played meaning) ps)
  none_played word [] h = tt
  none_played word (p ∷ ps) h = (h.0, none_played word ps h.1)

  pub settles_played : (keys : List ℕ) (r : Option ℕ) (ps : List (Player (Seat Op))) (settled : List Entry) (values : List (Option ℕ))
      (later : List (Player (Seat Op)))
      (grown : List Entry) (changed : List (Option ℕ)) → Settles keys r ps settled values later grown changed →
      Settles keys r (map (played meaning) ps) settled values (map (played meaning) later) grown changed
  settles_played keys r ps settled values later grown changed (nothing_raised e h) =
      nothing_raised e (record { players_same = ap (map (played meaning)) h.players_same; settled_same = h.settled_same; values_same = h.values_same })
  settles_played keys r ps settled values later grown changed (nothing_waits word e none h) =
      nothing_waits word e (none_played word ps none)
      (record { players_same = ap (map (played meaning)) h.players_same; settled_same = h.settled_same; values_same = h.values_same })
  settles_played keys r ps settled values later grown changed (one_settles word e h) =
      one_settles word e (record {
        before = map (played meaning) h.before;
        player = played meaning h.player;
        behind = map (played meaning) h.behind;
        entry = h.entry;
        is = ap (map (played meaning)) h.is ∙ map_joined (played meaning) h.before h.behind h.player;
        waits = h.waits;
        first = none_played word h.before h.first;
        becomes = ap (map (played meaning)) h.becomes ∙ map_joined (played meaning) h.before h.behind (record h.player { waiting = None });
        grows = h.grows;
        changes = h.changes;
      })

  -- a worker that is at no item is idle
  pub idle_at : (name : ℕ) (at : At Op) → at_rest at ≡ true → (hand : Hand) × (doing_of meaning name at ≡ Idle hand)
  idle_at name New h = (first_hand name, refl)
  idle_at name (At_call op None) h = (meaning.finished op, refl)
  idle_at name (At_call op (Some w)) h = absurd (cc)
  idle_at name (At_evict evict true) h = (evict.hand, refl)
  idle_at name (At_evict evict false) h = absurd (cc)

  pub idle_call : (name : ℕ) (at : At Op) (op : Op) (w : Option UnderWay) → at ≡ At_call op w → at_rest at ≡ true →
      doing_of meaning name at ≡ Idle (meaning.finished op)
  idle_call name at op w is h = ap (doing_of meaning name) is ∙ by_call w (sym (ap at_rest is) ∙ h)
    where
      by_call : (w : Option UnderWay) → is_none w ≡ true → doing_of meaning name (At_call op w) ≡ Idle (meaning.finished op)
      by_call None h = refl
      by_call (Some u) h = absurd (cc)

  pub keyed_next : (keys : List ℕ) (u : Worker Op) (item : Item) (hand : Hand) → u.doing ≡ Idle hand → MayBegin meaning keys u (Some item) → IsKeyed keys item
  keyed_next keys u (Call_item call) hand idle may = (may hand call idle refl).2
  keyed_next keys u (Evict_item word) hand idle may = tt
