-- Who waited last at each word.
use Rattle.std.proofs.Common.{◌≡◌, ◌≢◌, ℕ, zero, suc, ◌+◌, ◌<◌, Bool, true, false, List, [], ◌∷◌, ◌++◌, length, refl, sym, ◌∙◌, ap, subst, arith, Option, Some, None, get_or, slice_set, slice_index, cond, eqb-true, eqb, IfNone, IfSome}
use Rattle.std.proofs.lemmas.List.{get_or-set_same, get_or-set_other}
use Rattle.std.proofs.lemmas.Bool.{false≢true, eq-eqb}
use Rattle.std.specs.Bool.{then_some}
use Rattle.std.specs.List.{AllByRecursion}
use Rattle.flit_model.specs.States.{State, word_at}
use Rattle.flit_model.specs.Effects.{answer}
use Rattle.flit_model.specs.declared.calls.Entry.{Entry}
use Rattle.flit_model.specs.declared.events.Event.{Event}
use Rattle.flit_model.specs.declared.events.Event.TheVariants.{Load, ReadTag, Raise, Lower, Exchange, Persist, Store, Draw}
use Rattle.flit_structure.proofs.Names.{all_left, all_right, all_put}
use Rattle.flit_sched.specs.declared.players.Player.{Player}
use Rattle.flit_sched.specs.declared.players.Waiting.{Waiting}
use Rattle.flit_sched.specs.Kept.{pairs_waiting, waiting_of}
use Rattle.flit_sched.specs.Settled.{NoneAt, WaitsAt, Settles, nothing_raised, nothing_waits, one_settles, waits_after, waiters_after, AreLastFrom}
use Rattle.flit_sched.proofs.SplitLists.{one_there}
use Rattle.flit_sched.proofs.WaitingLaws.{NoneIn}
use Rattle.flit_sched.proofs.ProgressLaws.{IsFreshFor}

-- the pairs of one worker, of which each waited last at its word
abbrev pub AreLast : List ℕ → ℕ → List (ℕ × Entry) → Type 0
AreLast waiters name vs = AllByRecursion (λ w. slice_index waiters w.0 ≡ name) vs

not_there : (waiters : List ℕ) (name word : ℕ) (o : Option Waiting) → AreLast waiters name (pairs_waiting o) →
    ((v : Waiting) → o ≡ Some v → slice_index waiters word ≡ name → v.word ≢ word) →
    AllByRecursion (λ w. w.0 ≢ word) (pairs_waiting o)
not_there waiters name word None h never = tt
not_there waiters name word (Some v) h never = ((λ same. never v refl (ap (λ x. slice_index waiters x) (sym same) ∙ h.0) same), tt)

pairs_other : (waiters : List ℕ) (name word k : ℕ) (vs : List (ℕ × Entry)) → NoneIn word vs → AreLast waiters name vs →
    AreLast (slice_set waiters word k) name vs
pairs_other waiters name word k [] never h = tt
pairs_other waiters name word k (v ∷ vs) never h = (get_or-set_other waiters word v.0 k 0 never.0 ∙ h.0, pairs_other waiters name word k vs never.1 h.1)

no_some : {X : Type 0} (x : X) → None ≡ Some x → ⊥
no_some x e = cc

-- what a test tells of its answer
pub if_false : {X P : Type 0} (t : Bool) (x : X) → (t ≡ false → P) → IfNone (then_some t x) P
if_false true x h = tt
if_false false x h = h refl

pub if_true : {X : Type 0} (P : X → Type 0) (t : Bool) (x : X) → (t ≡ true → P x) → IfSome (then_some t x) P
if_true P true x h = h refl
if_true P false x h = tt

module _ {W : Type 0} where
  -- where the worker that waited last at a word isn't there, or has nothing there, nothing waits there
  pub none_last : (waiters : List ℕ) (name word : ℕ) (ps : List (Player W)) → AreLastFrom waiters name ps →
      ((n : ℕ) (p : Player W) (v : Waiting) → slice_index waiters word ≡ name + n → n < length ps → p ≡ get_or ps n p → p.waiting ≡ Some v → v.word ≢ word) →
      NoneAt word ps
  none_last waiters name word [] h never = tt
  none_last waiters name word (p ∷ ps) h never = (
    not_there waiters name word p.waiting h.0 (λ v e is. never 0 p v (let k : slice_index waiters word ≡ name + 0 = omega (arith, is) in k) (omega arith) refl
        e),
    none_last waiters (name + 1) word ps h.1 (λ n q v is lt at e. never (suc n) q v (let k : slice_index waiters word ≡ name + suc n = omega (arith, is) in k)
        (omega (arith, lt)) at e),
  )

  -- the worker that waited last at a word, and waits there
  pub found_last : (waiters : List ℕ) (name word n : ℕ) (ps : List (Player W)) (p : Player W) (v : Waiting) → AreLastFrom waiters name ps →
      slice_index waiters word ≡ name + n → n < length ps → p ≡ get_or ps n p → p.waiting ≡ Some v → v.word ≡ word → WaitsAt word ps n v.entry
  found_last waiters name word n [] p v h is lt at e same = absurd (omega arith)
  found_last waiters name word zero (q ∷ ps) p v h is lt at e same =
      let one : q ≡ p = sym at in
      record {
        before = [];
        player = q;
        behind = ps;
        is = refl;
        long = refl;
        waits = ap (λ x. x.waiting) one ∙ e ∙ ap (λ w. Some (record { word = w; entry = v.entry })) same;
        first = tt;
      }
  found_last waiters name word (suc n) (q ∷ ps) p v h is lt at e same =
      let r = found_last waiters (name + 1) word n ps p v h.1 (let k : slice_index waiters word ≡ name + 1 + n = omega (arith, is) in k)
      (omega (arith, lt)) at e same in
      record {
        before = q ∷ r.before;
        player = r.player;
        behind = r.behind;
        is = ap (λ xs. q ∷ xs) r.is;
        long = ap suc r.long;
        waits = r.waits;
        first = (not_there waiters name word q.waiting h.0 (λ w f here. absurd (let k : name + suc n ≡ name = sym is ∙ here in omega (arith, k))), r.first);
      }

  -- what the worker at a place waits for
  pub not_waiting : (ps : List (Player W)) (i n : ℕ) (q p : Player W) (v : Waiting) → i ≡ n → n < length ps → q ≡ get_or ps i q → p ≡ get_or ps n p →
      q.waiting ≡ None → p.waiting ≡ Some v → ⊥
  not_waiting ps i n q p v same lt at_q at_p none some =
      let one : q ≡ p = one_there ps n q p lt (at_q ∙ ap (λ k. get_or ps k q) same) at_p in
      no_some v (sym none ∙ ap (λ x. x.waiting) one ∙ some)

  pub other_waiting : (ps : List (Player W)) (i n : ℕ) (q p : Player W) (w v : Waiting) (word : ℕ) → i ≡ n → n < length ps → q ≡ get_or ps i q →
      p ≡ get_or ps n p →
      q.waiting ≡ Some w → p.waiting ≡ Some v → eqb w.word word ≡ false → v.word ≢ word
  other_waiting ps i n q p w v word same lt at_q at_p some_w some_v apart is =
      let one : q ≡ p = one_there ps n q p lt (at_q ∙ ap (λ k. get_or ps k q) same) at_p in
      let both : Some w ≡ Some v = sym some_w ∙ ap (λ x. x.waiting) one ∙ some_v in
      let wv : w ≡ v = cc in
      false≢true (sym apart ∙ eq-eqb w.word word (ap (λ x. x.word) wv ∙ is))

  -- one worker among the others, of which something else waits
  pub last_put : (waiters : List ℕ) (name : ℕ) (a b : List (Player W)) (p q : Player W) →
      (AreLast waiters (name + length a) (pairs_waiting p.waiting) → AreLast waiters (name + length a) (pairs_waiting q.waiting)) →
      AreLastFrom waiters name (a ++ p ∷ b) → AreLastFrom waiters name (a ++ q ∷ b)
  last_put waiters name [] b p q f h = (
    subst (λ n. AreLast waiters n (pairs_waiting q.waiting)) (let e : name + 0 ≡ name = omega arith in e)
        (f (subst (λ n. AreLast waiters n (pairs_waiting p.waiting)) (let e : name ≡ name + 0 = omega arith in e) h.0)),
    h.1,
  )
  last_put waiters name (x ∷ a) b p q f h = (
    h.0,
    last_put waiters (name + 1) a b p q
        (λ k. subst (λ n. AreLast waiters n (pairs_waiting q.waiting)) (let e : name + suc (length a) ≡ name + 1 + length a = omega arith in e)
        (f (subst (λ n. AreLast waiters n (pairs_waiting p.waiting)) (let e : name + 1 + length a ≡ name + suc (length a) = omega arith in e) k)))
        h.1,
  )

  pub last_settled : (waiters : List ℕ) (name : ℕ) (keys : List ℕ) (r : Option ℕ) (ps : List (Player W)) (settled : List Entry) (values : List (Option ℕ))
      (later : List (Player W))
      (grown : List Entry) (changed : List (Option ℕ)) → Settles keys r ps settled values later grown changed → AreLastFrom waiters name ps →
      AreLastFrom waiters name later
  last_settled waiters name keys r ps settled values later grown changed (nothing_raised e s) h = subst (AreLastFrom waiters name) (sym s.players_same) h
  last_settled waiters name keys r ps settled values later grown changed (nothing_waits word e none s) h =
      subst (AreLastFrom waiters name) (sym s.players_same) h
  last_settled waiters name keys r ps settled values later grown changed (one_settles word e s) h =
      subst (AreLastFrom waiters name) (sym s.becomes)
      (last_put waiters name s.before s.behind s.player (record s.player { waiting = None }) (λ k. tt) (subst (AreLastFrom waiters name) s.is h))

  -- what is so of each worker stays so when something is settled
  pub all_settled : (P : W → Type 0) (keys : List ℕ) (r : Option ℕ) (ps : List (Player W)) (settled : List Entry) (values : List (Option ℕ))
      (later : List (Player W))
      (grown : List Entry) (changed : List (Option ℕ)) → Settles keys r ps settled values later grown changed → AllByRecursion (λ p. P p.worker) ps →
      AllByRecursion (λ p. P p.worker) later
  all_settled P keys r ps settled values later grown changed (nothing_raised e s) h = subst (AllByRecursion (λ p. P p.worker)) (sym s.players_same) h
  all_settled P keys r ps settled values later grown changed (nothing_waits word e none s) h = subst (AllByRecursion (λ p. P p.worker)) (sym s.players_same) h
  all_settled P keys r ps settled values later grown changed (one_settles word e s) h =
      let k : AllByRecursion (λ p. P p.worker) (s.before ++ s.player ∷ s.behind) = subst (AllByRecursion (λ p. P p.worker)) s.is h in
      subst (AllByRecursion (λ p. P p.worker)) (sym s.becomes)
      (all_put (λ p. P p.worker) s.before s.behind s.player (record s.player { waiting = None }) (all_here s.before s.behind s.player k) k)
    where
      all_here : (a b : List (Player W)) (p : Player W) → AllByRecursion (λ x. P x.worker) (a ++ p ∷ b) → P p.worker
      all_here [] b p h = h.0
      all_here (x ∷ a) b p h = all_here a b p h.1

  last_other : (waiters : List ℕ) (name word k : ℕ) (ps : List (Player W)) → NoneIn word (waiting_of ps) → AreLastFrom waiters name ps →
      AreLastFrom (slice_set waiters word k) name ps
  last_other waiters name word k [] never h = tt
  last_other waiters name word k (p ∷ ps) never h = (
    pairs_other waiters name word k (pairs_waiting p.waiting) (all_left (λ v. v.0 ≢ word) (pairs_waiting p.waiting) (waiting_of ps) never) h.0,
    last_other waiters (name + 1) word k ps (all_right (λ v. v.0 ≢ word) (pairs_waiting p.waiting) (waiting_of ps) never) h.1,
  )

  -- an entry that comes to wait at a word where nothing waits
  last_won : (waiters : List ℕ) (name word k : ℕ) (a b : List (Player W)) (p q : Player W) (x : Entry) → k ≡ name + length a → word < length waiters →
      NoneIn word (waiting_of (a ++ p ∷ b)) →
      q.waiting ≡ Some (record { word = word; entry = x }) → AreLastFrom waiters name (a ++ p ∷ b) → AreLastFrom (slice_set waiters word k) name (a ++ q ∷ b)
  last_won waiters name word k [] b p q x e lt never w h = (
    subst (λ o. AreLast (slice_set waiters word k) name (pairs_waiting o)) (sym w)
        ((let n : k ≡ name = omega (arith, e) in get_or-set_same waiters word k 0 lt ∙ n), tt),
    last_other waiters (name + 1) word k b (all_right (λ v. v.0 ≢ word) (pairs_waiting p.waiting) (waiting_of b) never) h.1,
  )
  last_won waiters name word k (y ∷ a) b p q x e lt never w h = (
    pairs_other waiters name word k (pairs_waiting y.waiting) (all_left (λ v. v.0 ≢ word) (pairs_waiting y.waiting) (waiting_of (a ++ p ∷ b)) never) h.0,
    last_won waiters (name + 1) word k a b p q x (let n : k ≡ name + 1 + length a = omega (arith, e) in n) lt
        (all_right (λ v. v.0 ≢ word) (pairs_waiting y.waiting) (waiting_of (a ++ p ∷ b)) never) w h.1,
  )

  pub last_same : (waiters : List ℕ) (a b : List (Player W)) (p q : Player W) → q.waiting ≡ p.waiting → AreLastFrom waiters 1 (a ++ p ∷ b) →
      AreLastFrom waiters 1 (a ++ q ∷ b)
  last_same waiters a b p q e h = last_put waiters 1 a b p q (λ k. subst (λ o. AreLast waiters (1 + length a) (pairs_waiting o)) (sym e) k) h

  -- after its event a worker may be the last to wait at a word
  pub last_after : (waiters : List ℕ) (m : State) (e : Event) (effect : Option Entry) (a b : List (Player W)) (p q : Player W) (name : ℕ) →
      name ≡ 1 + length a →
      q.waiting ≡ waits_after e (answer m e) effect p.waiting → IsFreshFor m e effect (a ++ p ∷ b) p →
      ((word from to : ℕ) → e ≡ Exchange word from to → word < length waiters) →
      AreLastFrom waiters 1 (a ++ p ∷ b) → AreLastFrom (waiters_after e (answer m e) effect name waiters) 1 (a ++ q ∷ b)
  last_after waiters m (Load word) effect a b p q name n e fresh lt h = last_same waiters a b p q e h
  last_after waiters m (ReadTag slot) effect a b p q name n e fresh lt h = last_same waiters a b p q e h
  last_after waiters m (Raise slot) effect a b p q name n e fresh lt h = last_same waiters a b p q e h
  last_after waiters m (Lower slot) effect a b p q name n e fresh lt h = last_same waiters a b p q e h
  last_after waiters m (Persist word kept) effect a b p q name n e fresh lt h = last_same waiters a b p q e h
  last_after waiters m (Store word to) effect a b p q name n e fresh lt h = last_same waiters a b p q e h
  last_after waiters m Draw effect a b p q name n e fresh lt h = last_same waiters a b p q e h
  last_after waiters m (Exchange word from to) None a b p q name n e fresh lt h = last_same waiters a b p q e h
  last_after waiters m (Exchange word from to) (Some x) a b p q name n e fresh lt h = by_test (eqb (word_at m word) from) refl
    where
      by_test : (t : Bool) → eqb (word_at m word) from ≡ t → AreLastFrom (cond t (slice_set waiters word name) waiters) 1 (a ++ q ∷ b)
      by_test true is =
          last_won waiters 1 word name a b p q x n (lt word from to refl) (fresh word from to x refl (eqb-true (word_at m word) from is) refl).0
          (e ∙ ap (λ t. cond t (Some (record { word = word; entry = x })) p.waiting) is) h
      by_test false is = last_same waiters a b p q (e ∙ ap (λ t. cond t (Some (record { word = word; entry = x })) p.waiting) is) h
