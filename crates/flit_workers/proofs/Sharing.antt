-- Works and their workers, one after another.
use Rattle.std.proofs.Common.{◌≡◌, ℕ, zero, suc, map, Option, ◌+◌, ◌-◌, ◌<◌, ◌≤◌, List, [], ◌∷◌, ◌++◌, length, drop, get_or, refl, sym, ap, ◌∙◌, subst, arith, add-one, drop-cons}
use Rattle.flit_model.specs.declared.calls.Item.{Item}
use Rattle.flit_model.specs.declared.calls.Item.TheVariants.{Call as Call_item, Evict as Evict_item}
use Rattle.flit_workers.specs.Works.{calls_in}
use Rattle.flit_table.specs.declared.views.Logged.{Logged}
use Rattle.flit_table.specs.declared.views.Origin.{Origin}
use Rattle.flit_table.specs.declared.views.View.{View}
use Rattle.flit_table.specs.declared.passes.Pass.{Pass}
use Rattle.flit_table.specs.declared.passes.Pass.{Pass}
use Rattle.flit_model.specs.declared.calls.Work.{Work}
use Rattle.std.proofs.lemmas.List.{length-append, length-map, map-append}
use Rattle.flit_table.specs.Steps.{Home}
use Rattle.flit_table.specs.Passes.{BelongsTo, IsFree, HasGiven, IsGiven}
use Rattle.flit_table.specs.Views.{new_post, keeper, heir}
use Rattle.flit_structure.specs.Meanings.{Meaning}
use Rattle.std.specs.List.{AllByRecursion}
use Rattle.flit_model.proofs.Elements.{all_behind}
use Rattle.flit_workers.specs.declared.ends.End.{End}
use Rattle.flit_workers.specs.declared.rooms.Room.{Room}
use Rattle.flit_workers.specs.Ends.{AllInOrder, IsRoom, share, IsReady, AreReady}

calls_of_first : (x : Item) (xs : List Item) → length (calls_in (x ∷ xs)) ≡ length (calls_in (x ∷ [])) + length (calls_in xs)
calls_of_first (Call_item call) xs = omega arith
calls_of_first (Evict_item word) xs = omega arith

-- the calls from an item on
pub calls_next : (items : List Item) (k : ℕ) (d : Item) → k < length items →
    length (calls_in (drop k items)) ≡ length (calls_in (get_or items k d ∷ [])) + length (calls_in (drop (k + 1) items))
calls_next items k d within = rw (add-one, drop-cons items k d within) (calls_of_first (get_or items k d) (drop (suc k) items))

module _ {X Y : Type 0} (P : ℕ → X → Y → Type 0) where
  -- one more
  pub in_order_more : (n : ℕ) (xs : List X) (ys : List Y) (x : X) (y : Y) → AllInOrder P n xs ys → P (n + length xs) x y →
      AllInOrder P n (xs ++ x ∷ []) (ys ++ y ∷ [])
  in_order_more n [] [] x y h k = (subst (λ (m : ℕ). P m x y) (omega arith) k, tt)
  in_order_more n [] (z ∷ zs) x y h k = absurd h
  in_order_more n (z ∷ zs) [] x y h k = absurd h
  in_order_more n (a ∷ xs) (b ∷ ys) x y h k = (h.0, in_order_more (suc n) xs ys x y h.1 (subst (λ (m : ℕ). P m x y) (omega arith) k))

  pub same_length : (n : ℕ) (xs : List X) (ys : List Y) → AllInOrder P n xs ys → length ys ≡ length xs
  same_length n [] [] h = refl
  same_length n [] (z ∷ zs) h = absurd h
  same_length n (z ∷ zs) [] h = absurd h
  same_length n (a ∷ xs) (b ∷ ys) h = ap suc (same_length (suc n) xs ys h.1)

-- the room that comes next
pub room_next : (P : Room → Type 0) (before : List Room) (r : Room) (behind rooms : List Room) → before ++ r ∷ behind ≡ rooms → AllByRecursion P rooms → P r
room_next P before r behind rooms is all = (all_behind P before (r ∷ behind) (subst (AllByRecursion P) (sym is) all)).0

module _ {S Op : Type 0} where
  -- the view of the pass that still has the names from the nth on
  abbrev pub current : ℕ → View S Op → View S Op
  current n v = record (share n v) { names = v.names - n }

  abbrev named : View S Op → ℕ → View S Op
  named v k = record v { names = k }

  abbrev fresh : Option (Origin S) → List Logged → ℕ → ℕ → View S Op
  fresh o log name names = record {
    origin = o;
    name = name;
    names = names;
    post = new_post name;
    gone = [];
    log = log;
    note = [];
    mine = [];
    placed = [];
    events = [];
  }

  same_fresh : (o : Option (Origin S)) (log : List Logged) (a b c d : ℕ) → a ≡ c → b ≡ d → fresh o log a b ≡ fresh o log c d
  same_fresh o log a b c d p q = ap (λ (k : ℕ). fresh o log k b) p ∙ ap (fresh o log c) q

  pub current_first : (v : View S Op) → current 0 v ≡ v
  current_first v = ap (named v) (omega arith)

  one_name : (n : ℕ) (v : View S Op) → named (share n v) 1 ≡ share n v
  one_name zero v = refl
  one_name (suc n) v = refl

  pub current_last : (n : ℕ) (v : View S Op) → v.names - n ≡ 1 → current n v ≡ share n v
  current_last n v e = ap (named (share n v)) e ∙ one_name n v

  pub kept_one : (n give : ℕ) (v : View S Op) → give + 1 ≡ v.names - n → keeper give (current n v) ≡ share n v
  kept_one n give v e = ap (named (share n v)) (omega (arith, e)) ∙ one_name n v

  pub given_rest : (n give : ℕ) (v : View S Op) → give + 1 ≡ v.names - n → heir give (current n v) ≡ current (suc n) v
  given_rest zero give v e = same_fresh v.origin v.log (v.name + ((v.names - 0) - give)) give (v.name + ((0 + 2) - 1)) (v.names - 1) (omega (arith, e))
      (omega (arith, e))
  given_rest (suc n) give v e = same_fresh v.origin v.log ((v.name + ((n + 2) - 1)) + ((v.names - suc n) - give)) give (v.name + ((suc n + 2) - 1))
      (v.names - suc (suc n)) (omega (arith, e)) (omega (arith, e))

module _ {S Op : Type 0} (meanings : S → Meaning Op) (home : Home S) where
  -- so many of the names of a pass have their workers, and another pass has the rest
  pub record Shares (g : Pass S Op) (done : List Room) (ends : List (End S Op)) (h : Pass S Op) (left : ℕ) : Type 0 where
    pub ready : AreReady meanings home g.held.seat.me.0 (map (λ r. r.work) done) ends
    pub held : BelongsTo meanings home h
    pub free : IsFree h
    pub calls : h.held.calls ≡ 0
    pub names : left ≡ h.held.names
    pub count : left + length done ≡ g.held.seat.me.0.names
    pub name : h.held.name ≡ g.held.seat.me.0.name + length done
    pub view : h.held.seat.me.0 ≡ current (length done) g.held.seat.me.0

  abbrev end_of : Room → Pass S Op → End S Op
  end_of x p = record { work = x.work; outcomes = x.outcomes; pass = p }

  -- a worker more is ready
  pub ready_more : (g : Pass S Op) (done : List Room) (ends more : List (End S Op)) (x : Room) (p : Pass S Op) →
      AreReady meanings home g.held.seat.me.0 (map (λ r. r.work) done) ends → IsRoom x
      → BelongsTo meanings home p → IsFree p → p.held.calls ≡ 0 → p.held.name ≡ g.held.seat.me.0.name + length done →
      p.held.seat.me.0 ≡ share (length done) g.held.seat.me.0
      → more ≡ ends ++ record { work = x.work; outcomes = x.outcomes; pass = p } ∷ [] →
      AreReady meanings home g.held.seat.me.0 (map (λ r. r.work) (done ++ x ∷ [])) more
  ready_more g done ends more x p ready room held free calls name view is =
      let v = g.held.seat.me.0 in
      let works : List Work = map (λ (r : Room). r.work) done in
      let one : IsReady meanings home (length done) v x.work (end_of x p) =
      record { work = refl; pass = held; free = free; name = name; calls = calls; view = view; room = room } in
      let at : IsReady meanings home (0 + length works) v x.work (end_of x p) =
      subst (λ (n : ℕ). IsReady meanings home n v x.work (end_of x p)) (sym (length-map done (λ (r : Room). r.work)) ∙ omega arith) one in
      let all : AreReady meanings home v (works ++ x.work ∷ []) (ends ++ end_of x p ∷ []) =
      in_order_more (λ n w e. IsReady meanings home n v w e) 0 works ends x.work (end_of x p) ready at in
      subst (λ (l : List (End S Op)). AreReady meanings home v (map (λ (r : Room). r.work) (done ++ x ∷ [])) l) (sym is)
      (subst (λ (l : List Work). AreReady meanings home v l (ends ++ end_of x p ∷ [])) (sym (map-append (λ (r : Room). r.work) done (x ∷ []))) all)

  -- the worker of the last name is ready
  pub shares_last : (g : Pass S Op) (done : List Room) (ends more : List (End S Op)) (x : Room) (p : Pass S Op) (left : ℕ) → Shares g done ends p left →
      IsRoom x → left ≤ 1
      → more ≡ ends ++ record { work = x.work; outcomes = x.outcomes; pass = p } ∷ [] →
      AreReady meanings home g.held.seat.me.0 (map (λ r. r.work) (done ++ x ∷ [])) more
  shares_last g done ends more x p left s room few is =
      let some : 0 < left = omega (arith, s.names, s.held.names, s.held.belongs.names) in
      ready_more g done ends more x p s.ready room s.held s.free s.calls s.name (s.view ∙ current_last (length done) g.held.seat.me.0 (omega (arith, s.count)))
      is

  -- a worker more has its pass, and another pass has the rest
  pub shares_more : (g : Pass S Op) (done : List Room) (ends more : List (End S Op)) (x : Room) (h r p : Pass S Op) (left : ℕ) → Shares g done ends h left →
      IsRoom x → 1 < left
      → BelongsTo meanings home p → HasGiven (left - 1) h p → BelongsTo meanings home r → IsGiven (left - 1) h r
      → more ≡ ends ++ record { work = x.work; outcomes = x.outcomes; pass = p } ∷ [] → Shares g (done ++ x ∷ []) more r (left - 1)
  shares_more g done ends more x h r p left s room many held keeps rest gives is =
      let v = g.held.seat.me.0 in
      let n = length done in
      let longer : length (done ++ x ∷ []) ≡ suc n = length-append done (x ∷ []) ∙ omega arith in
      let names : (left - 1) + 1 ≡ v.names - n = omega (arith, s.count, many) in
      record {
        ready = ready_more g done ends more x p s.ready room held keeps.free (keeps.calls ∙ s.calls) (keeps.name ∙ s.name)
            (keeps.view ∙ ap (keeper (left - 1)) s.view ∙ kept_one n (left - 1) v names) is;
        held = rest;
        free = gives.free;
        calls = gives.calls;
        names = sym gives.names;
        count = omega (arith, s.count, longer, many);
        name = omega (arith, gives.name, s.name, s.names, longer, many);
        view = gives.view ∙ ap (heir (left - 1)) s.view ∙ given_rest n (left - 1) v names ∙ ap (λ (k : ℕ). current k v) (sym longer);
      }

  -- at the start the pass has all names
  pub shares_none : (h : Pass S Op) (left : ℕ) → BelongsTo meanings home h → IsFree h → h.held.calls ≡ 0 → left ≡ h.held.names → Shares h [] [] h left
  shares_none h left held free calls names = record {
    ready = tt;
    held = held;
    free = free;
    calls = calls;
    names = names;
    count = omega (arith, names, held.names);
    name = omega (arith, held.name);
    view = sym (current_first h.held.seat.me.0);
  }

pub none_left : {X : Type 0} (xs : List X) → length xs ≡ 0 → xs ≡ []
none_left [] e = refl
none_left (x ∷ xs) e = absurd (omega (arith, e))
