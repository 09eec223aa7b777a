-- What a search through the waiting entries has seen.
use Rattle.std.proofs.Common.{◌≡◌, ℕ, List, [], ◌∷◌, ◌++◌, length, get_or, refl, sym, ◌∙◌, ap, subst, Option, Some, None, IfNone, map, arith, length-append}
use Rattle.std.specs.List.{AllByRecursion}
use Rattle.flit_model.specs.declared.calls.Entry.{Entry}
use Rattle.flit_sched.specs.declared.players.Player.{Player}
use Rattle.flit_sched.specs.Kept.{pairs_waiting}
use Rattle.flit_model.specs.Maps.{Map, map_after}
use Rattle.std.specs.FinMap as fin
use Rattle.std.proofs.Math.ListN.{set}
use Rattle.flit_structure.proofs.Names.{all_at}
use Rattle.flit_sched.specs.Kept.{waiting_of}
use Rattle.flit_sched.proofs.ProgressLaws.{waiting_with}
use Rattle.flit_sched.specs.Settled.{WaitsAt, Settles, one_settles}
use Rattle.flit_sched.proofs.SplitLists.{set_here, get_here}

pub if_none : {X : Type 0} {P : Type 0} (o : Option X) → IfNone o P → ((v : X) → o ≡ Some v → ⊥) → P
if_none None h never = h
if_none (Some v) h never = absurd (never v refl)

module _ {W : Type 0} where
  waits_pairs : (word : ℕ) (ps : List (Player W)) (i : ℕ) (e : Entry) → (w : WaitsAt word ps i e) →
      waiting_of ps ≡ waiting_of w.before ++ (word, e) ∷ waiting_of w.behind
  waits_pairs word ps i e w = ap waiting_of w.is ∙ waiting_with w.before w.behind w.player
      ∙ ap (λ o. waiting_of w.before ++ (pairs_waiting o ++ waiting_of w.behind)) w.waits

  pub some_waiting : (word : ℕ) (ps : List (Player W)) (i : ℕ) (e : Entry) → WaitsAt word ps i e → waiting_of ps ≡ [] → ⊥
  some_waiting word ps i e w none =
      let n : length (waiting_of w.before ++ (word, e) ∷ waiting_of w.behind) ≡ 0 = ap length (sym (waits_pairs word ps i e w) ∙ none) in
      omega (arith, n, length-append (waiting_of w.before) ((word, e) ∷ waiting_of w.behind))

  pub waits_all : (P : ℕ × Entry → Type 0) (word : ℕ) (ps : List (Player W)) (i : ℕ) (e : Entry) → WaitsAt word ps i e → AllByRecursion P (waiting_of ps) →
      P (word, e)
  waits_all P word ps i e w h = all_at P (waiting_of w.before) (waiting_of w.behind) (word, e) (subst (AllByRecursion P) (waits_pairs word ps i e w) h)

  pub settle_one : (keys : List ℕ) (word : ℕ) (r : Option ℕ) (ps : List (Player W)) (settled : List Entry) (values : List (Option ℕ)) (i : ℕ) (e : Entry)
      (x : Player W) (grown : List Entry) (changed : List (Option ℕ)) →
      r ≡ Some word → WaitsAt word ps i e → x ≡ get_or ps i x → grown ≡ settled ++ e ∷ [] →
      ((now : Map) → map (λ k. fin.get now k) keys ≡ values → map (λ k. fin.get (map_after now e.call) k) keys ≡ changed) →
      Settles keys r ps settled values (set ps i (record x { waiting = None })) grown changed
  settle_one keys word r ps settled values i e x grown changed raised w at grows changes =
      let same : x ≡ w.player = at ∙ ap (λ qs. get_or qs i x) w.is ∙ ap (λ n. get_or (w.before ++ w.player ∷ w.behind) n x) (sym w.long)
      ∙ get_here w.before w.player x w.behind in
      one_settles word raised (record {
        before = w.before;
        player = w.player;
        behind = w.behind;
        entry = e;
        is = w.is;
        waits = w.waits;
        first = w.first;
        becomes = ap (λ qs. set qs i (record x { waiting = None })) w.is ∙ ap (λ n. set (w.before ++ w.player ∷ w.behind) n (record x { waiting = None }))
            (sym w.long)
            ∙ set_here w.before w.player (record x { waiting = None }) w.behind ∙ ap (λ q. w.before ++ record q { waiting = None } ∷ w.behind) same;
        grows = grows;
        changes = changes;
      })
