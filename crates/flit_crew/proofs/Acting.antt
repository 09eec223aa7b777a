-- Workers beside their machines: one among the others; and what the others know lasts while one goes on.
use Rattle.std.proofs.Common.{◌≡◌, ◌≢◌, ℕ, ◌≤◌, List, [], ◌∷◌, ◌++◌, length, Option, Some, refl, sym, ap, subst, arith}
use Rattle.std.specs.Prelude.{Contains}
use Rattle.std.specs.List.{AllByRecursion}
use Rattle.flit_words.specs.declared.layouts.Layout.{Layout}
use Rattle.flit_model.proofs.Elements.{all_weaker}
use Rattle.flit_place.specs.Tags.{Place}
use Rattle.flit_runs.specs.Worlds.{Actor}
use Rattle.flit_runs.specs.Workings.{goes_for}
use Rattle.flit_structure.specs.declared.workers.Doing.{Doing}
use Rattle.flit_structure.specs.declared.workers.Doing.TheVariants.{Idle, Busy, Evicting}
use Rattle.flit_structure.specs.declared.workers.Worker.{Worker}
use Rattle.flit_structure.specs.Moments.{IsNew}
use Rattle.flit_structure.specs.Meanings.{first_at}
use Rattle.flit_crew.specs.Machines.{reads_for}
use Rattle.flit_crew.specs.Heaps.{Heap, IsOpen, IsMine, IsForeign, IsHidden, IsWordOf, AreOld, HaveStayed}
use Rattle.flit_crew.specs.Anatomies.{own_in, deed}
use Rattle.flit_crew.specs.Crews.{Crew, Acts, AllAct, IsDoing, who_of}
use Rattle.flit_crew.specs.Obligations.{Keeps}
use Rattle.flit_crew.proofs.Knowing.{HasRisen, facts_last}
use Rattle.flit_crew.proofs.Outside.{shut_hidden}
use Rattle.flit_crew.proofs.Updating.{Follows, settled_longer, update_lasts}

pub through : (a b c : ℕ) → a ≤ b → b ≤ c → a ≤ c
through a b c h i = omega (arith, h, i)

module _ {G Op : Type 0} (c : Crew G Op) (l : Layout) (p : Place) (free : List ℕ) where
  abbrev U : Type 0
  U = Worker Op

  abbrev All : Heap G → List U → List Actor → Type 0
  All h us gs = AllAct c l p free h us gs

  pub record Split (h : Heap G) (a : List U) (u : U) (b : List U) (gs : List Actor) : Type 0 where
    pub before : List Actor
    pub actor : Actor
    pub behind : List Actor
    pub is : gs ≡ before ++ actor ∷ behind
    pub left : AllAct c l p free h a before
    pub mine : Acts c l p free h u actor
    pub right : AllAct c l p free h b behind

  pub split_acts : (h : Heap G) (a : List U) (u : U) (b : List U) (gs : List Actor) → AllAct c l p free h (a ++ u ∷ b) gs → Split h a u b gs
  split_acts h [] u b [] k = absurd k
  split_acts h [] u b (g ∷ gs) k = record { before = []; actor = g; behind = gs; is = refl; left = tt; mine = k.0; right = k.1 }
  split_acts h (x ∷ a) u b [] k = absurd k
  split_acts h (x ∷ a) u b (g ∷ gs) k =
      let r = split_acts h a u b gs k.1 in
      record { before = g ∷ r.before; actor = r.actor; behind = r.behind; is = ap (λ xs. g ∷ xs) r.is; left = (k.0, r.left); mine = r.mine; right = r.right }

  pub join_acts : (h : Heap G) (a b : List U) (xs ys : List Actor) → AllAct c l p free h a xs → AllAct c l p free h b ys →
      AllAct c l p free h (a ++ b) (xs ++ ys)
  join_acts h [] b [] ys k m = m
  join_acts h [] b (x ∷ xs) ys k m = absurd k
  join_acts h (u ∷ a) b [] ys k m = absurd k
  join_acts h (u ∷ a) b (x ∷ xs) ys k m = (k.0, join_acts h a b xs ys k.1 m)

  -- what one event, made by one who has this name or by nobody, leaves of the heap
  pub record Moves (who : Option ℕ) (h k : Heap G) : Type 0 where
    pub was : c.kept h
    pub is : c.kept k
    pub later : c.later who h k
    pub follows : Follows who h k
    pub opening : k.opening ≡ h.opening
    pub given : (row : ℕ) → Contains h.given row → Contains k.given row
    pub risen : HasRisen c l p free h k

  pub hidden_of : (h : Heap G) (u : U) (g : Actor) → Acts c l p free h u g → AllByRecursion (IsHidden l free h) g.private
  hidden_of h u g m = all_weaker (IsMine l free h (own_in c.anatomy u.doing)) (IsHidden l free h) (λ w k. shut_hidden l free h w k.shut) g.private m.mine

  -- a worker that didn't make it: its rows hold what they held, and are no more linked than before
  pub record Stays (who : Option ℕ) (h k : Heap G) (u : U) (g : Actor) : Type 0 where
    pub other : who ≢ Some u.name
    pub rows : HaveStayed l h k (own_in c.anatomy u.doing)
    pub mine : AllByRecursion (IsMine l free k (own_in c.anatomy u.doing)) g.private
    pub old : AreOld h g.needs

  abbrev pub AllStay : Option ℕ → Heap G → Heap G → List U → List Actor → Type 0
  AllStay who h k [] [] = Unit {0}
  AllStay who h k [] (g ∷ gs) = ⊥
  AllStay who h k (u ∷ us) [] = ⊥
  AllStay who h k (u ∷ us) (g ∷ gs) = Stays who h k u g × AllStay who h k us gs

  module _ (keeps : Keeps c l p free) (who : Option ℕ) (h k : Heap G) (moves : Moves who h k) where
    pub still_open : (w : ℕ) → IsOpen l free h w → IsOpen l free k w
    still_open w o = record {
      within = o.within;
      given = λ row pool word. moves.given row (o.given row pool word);
      ours = subst (λ x. (row : ℕ) → IsForeign l free x row → IsWordOf l row w → ⊥) (sym moves.opening) o.ours;
    }

    doing_lasts : (g : Actor) (name number : ℕ) (d : Doing Op) → who ≢ Some name → HaveStayed l h k (own_in c.anatomy d) → AreOld h g.needs →
        IsDoing c l p free h g name number d → IsDoing c l p free k g name number d
    doing_lasts g name number (Idle hand) other rows old m = m
    doing_lasts g name number (Busy op call begun) other rows old m = record {
      same_call = m.same_call;
      served = m.served;
      first = through (first_at 0 begun) (length h.progress.settled) (length k.progress.settled) m.first (settled_longer who h k moves.follows);
      waits = m.waits;
      facts = facts_last c l p free h k (who_of name number call begun g) (who_of name number call begun g) op rows moves.risen refl (λ w v n. n)
          (c.anatomy.machine op) m.facts;
      going = m.going;
      update = update_lasts who h k name number call (first_at 0 begun) (deed c.anatomy op) moves.follows other m.first m.update;
      knows = keeps.lasts h k who (who_of name number call begun g) op moves.was moves.is moves.later other rows old m.knows;
    }
    doing_lasts g name number (Evicting e) other rows old m = m

    pub acts_last : (u : U) (g : Actor) → Stays who h k u g → Acts c l p free h u g → Acts c l p free k u g
    acts_last u g s m = record {
      at = m.at;
      name = m.name;
      number = m.number;
      least = m.least;
      most = m.most;
      reached = all_weaker (IsOpen l free h) (IsOpen l free k) still_open (goes_for g.at) m.reached;
      reading = all_weaker (IsOpen l free h) (IsOpen l free k) still_open (reads_for g.at) m.reading;
      mine = s.mine;
      published = m.published;
      alone = m.alone;
      doing = doing_lasts g u.name u.number u.doing s.other s.rows s.old m.doing;
    }

    pub all_last : (us : List U) (gs : List Actor) → AllStay who h k us gs → AllAct c l p free h us gs → AllAct c l p free k us gs
    all_last [] [] s m = tt
    all_last [] (g ∷ gs) s m = absurd m
    all_last (u ∷ us) [] s m = absurd m
    all_last (u ∷ us) (g ∷ gs) s m = (acts_last u g s.0 m.0, all_last us gs s.1 m.1)

  -- where the heap is as it was, all others stay
  pub all_stay : (h : Heap G) (name : ℕ) (us : List U) (gs : List Actor) → IsNew name us → AllByRecursion (λ g. AreOld h g.needs) gs →
      AllAct c l p free h us gs → AllStay (Some name) h h us gs
  all_stay h name [] [] new old m = tt
  all_stay h name [] (g ∷ gs) new old m = absurd m
  all_stay h name (u ∷ us) [] new old m = absurd m
  all_stay h name (u ∷ us) (g ∷ gs) new old m = (
    record {
      other = λ e. new.0 (sym (same_some name u.name e));
      rows = λ row w own word. refl;
      mine = m.0.mine;
      old = old.0;
    },
    all_stay h name us gs new.1 old.1 m.1,
  )
    where
      same_some : (a b : ℕ) → ◌≡◌ {A = Option ℕ} (Some a) (Some b) → a ≡ b
      same_some a b e = cc
