-- The workers of a run as their players keep them.
use Rattle.std.proofs.Common.{◌≡◌, ◌⊎◌, inl, inr, ℕ, suc, ◌+◌, List, [], ◌∷◌, ◌++◌, length, map, refl, sym, ◌∙◌, ap, subst, arith, Option, None}
use Rattle.flit_model.specs.Maps.{Map}
use Rattle.flit_model.specs.declared.calls.Entry.{Entry}
use Rattle.flit_structure.specs.declared.workers.Worker.{Worker}
use Rattle.flit_structure.specs.Meanings.{Meaning}
use Rattle.flit_sched.specs.declared.players.Player.{Player}
use Rattle.flit_sched.specs.Runs.{workers_of}
use Rattle.flit_sched.specs.Kept.{part_of, IsKeptPlayer, AreKeptFrom}
use Rattle.flit_sched.specs.Settled.{Settles, nothing_raised, nothing_waits, one_settles}

module _ {Op : Type 0} where
  abbrev pub ws : List (Player (Worker Op)) → List (Worker Op)
  ws ps = workers_of (map part_of ps)

  pub ws_joined : (a b : List (Player (Worker Op))) (p : Player (Worker Op)) → ws (a ++ p ∷ b) ≡ ws a ++ p.worker ∷ ws b
  ws_joined [] b p = refl
  ws_joined (q ∷ a) b p = ap (λ us. q.worker ∷ us) (ws_joined a b p)

  pub parts_joined : (a b : List (Player (Worker Op))) (p : Player (Worker Op)) → map part_of (a ++ p ∷ b) ≡ map part_of a ++ part_of p ∷ map part_of b
  parts_joined [] b p = refl
  parts_joined (q ∷ a) b p = ap (λ us. part_of q ∷ us) (parts_joined a b p)

  -- one player is another but for what waits, which may be gone
  pub record IsAlike (p q : Player (Worker Op)) : Type 0 where
    pub same : q ≡ record p { waiting = q.waiting }
    pub waits : (q.waiting ≡ p.waiting) ⊎ (q.waiting ≡ None)

  abbrev pub AreAlike : List (Player (Worker Op)) → List (Player (Worker Op)) → Type 0
  AreAlike [] [] = Unit {0}
  AreAlike [] (q ∷ qs) = ⊥
  AreAlike (p ∷ ps) [] = ⊥
  AreAlike (p ∷ ps) (q ∷ qs) = IsAlike p q × AreAlike ps qs

  alike_itself : (p : Player (Worker Op)) → IsAlike p p
  alike_itself p = record { same = refl; waits = inl refl }

  are_themselves : (ps : List (Player (Worker Op))) → AreAlike ps ps
  are_themselves [] = tt
  are_themselves (p ∷ ps) = (alike_itself p, are_themselves ps)

  alike_settled : (a b : List (Player (Worker Op))) (p : Player (Worker Op)) → AreAlike (a ++ p ∷ b) (a ++ record p { waiting = None } ∷ b)
  alike_settled [] b p = (record { same = refl; waits = inr refl }, are_themselves b)
  alike_settled (q ∷ a) b p = (alike_itself q, alike_settled a b p)

  pub settles_alike : (keys : List ℕ) (raised : Option ℕ) (players : List (Player (Worker Op))) (settled : List Entry) (values : List (Option ℕ))
      (later : List (Player (Worker Op))) (grown : List Entry) (changed : List (Option ℕ)) →
      Settles keys raised players settled values later grown changed → AreAlike players later
  settles_alike keys raised players settled values later grown changed (nothing_raised e stays) =
      subst (AreAlike players) (sym stays.players_same) (are_themselves players)
  settles_alike keys raised players settled values later grown changed (nothing_waits word e none stays) =
      subst (AreAlike players) (sym stays.players_same) (are_themselves players)
  settles_alike keys raised players settled values later grown changed (one_settles word e one) =
      subst (λ ps. AreAlike ps later) (sym one.is) (subst (AreAlike (one.before ++ one.player ∷ one.behind)) (sym one.becomes)
      (alike_settled one.before one.behind one.player))

  pub record AlikeSplit (a b c d : List (Player (Worker Op))) (p q : Player (Worker Op)) : Type 0 where
    pub front : AreAlike a c
    pub here : IsAlike p q
    pub back : AreAlike b d

  pub alike_at : (a b c d : List (Player (Worker Op))) (p q : Player (Worker Op)) → length a ≡ length c → AreAlike (a ++ p ∷ b) (c ++ q ∷ d) →
      AlikeSplit a b c d p q
  alike_at [] b [] d p q e h = record { front = tt; here = h.0; back = h.1 }
  alike_at [] b (x ∷ c) d p q e h = absurd (omega arith)
  alike_at (x ∷ a) b [] d p q e h = absurd (omega arith)
  alike_at (x ∷ a) b (y ∷ c) d p q e h = let r = alike_at a b c d p q (omega arith) h.1 in record { front = (h.0, r.front); here = r.here; back = r.back }

  pub alike_parts : (ps qs : List (Player (Worker Op))) → AreAlike ps qs → map part_of qs ≡ map part_of ps
  alike_parts [] [] h = refl
  alike_parts [] (q ∷ qs) h = absurd h
  alike_parts (p ∷ ps) [] h = absurd h
  alike_parts (p ∷ ps) (q ∷ qs) h = ap (λ x. part_of x ∷ map part_of qs) h.0.same ∙ ap (λ xs. part_of p ∷ xs) (alike_parts ps qs h.1)

  pub alike_length : (ps qs : List (Player (Worker Op))) → AreAlike ps qs → length qs ≡ length ps
  alike_length [] [] h = refl
  alike_length [] (q ∷ qs) h = absurd h
  alike_length (p ∷ ps) [] h = absurd h
  alike_length (p ∷ ps) (q ∷ qs) h = ap suc (alike_length ps qs h.1)

module _ {Op : Type 0} (meaning : Meaning Op) where
  -- a worker that is kept stays so, when only others make events
  pub record Lasts (content : Map) (settled grown : List Entry) (keys : List ℕ) : Type 0 where
    pub lasts : (name : ℕ) (p q : Player (Worker Op)) → IsAlike p q → IsKeptPlayer meaning content settled keys name p →
        IsKeptPlayer meaning content grown keys name q

  pub kept_lasts : (content : Map) (settled grown : List Entry) (keys : List ℕ) → Lasts content settled grown keys →
      (name : ℕ) (ps qs : List (Player (Worker Op))) → AreAlike ps qs →
      AreKeptFrom meaning content settled keys name ps → AreKeptFrom meaning content grown keys name qs
  kept_lasts content settled grown keys l name [] [] h k = tt
  kept_lasts content settled grown keys l name [] (q ∷ qs) h k = absurd h
  kept_lasts content settled grown keys l name (p ∷ ps) [] h k = absurd h
  kept_lasts content settled grown keys l name (p ∷ ps) (q ∷ qs) h k = (
    l.lasts name p q h.0 k.0,
    kept_lasts content settled grown keys l (name + 1) ps qs h.1
        k.1,
  )

  pub record KeptSplit (content : Map) (settled : List Entry) (keys : List ℕ) (name : ℕ) (a b : List (Player (Worker Op))) (p : Player (Worker Op)) : Type
      0 where
    pub front : AreKeptFrom meaning content settled keys name a
    pub here : IsKeptPlayer meaning content settled keys (name + length a) p
    pub back : AreKeptFrom meaning content settled keys (name + length a + 1) b

  pub kept_at : (content : Map) (settled : List Entry) (keys : List ℕ) (name : ℕ) (a b : List (Player (Worker Op))) (p : Player (Worker Op)) →
      AreKeptFrom meaning content settled keys name (a ++ p ∷ b) → KeptSplit content settled keys name a b p
  kept_at content settled keys name [] b p h = record {
    front = tt;
    here = subst (λ n. IsKeptPlayer meaning content settled keys n p) (let e : name ≡ name + 0 = omega arith in e) h.0;
    back = subst (λ n. AreKeptFrom meaning content settled keys n b) (let e : name + 1 ≡ name + 0 + 1 = omega arith in e) h.1;
  }
  kept_at content settled keys name (x ∷ a) b p h =
      let r = kept_at content settled keys (name + 1) a b p h.1 in
      record {
        front = (h.0, r.front);
        here = subst (λ n. IsKeptPlayer meaning content settled keys n p) (let e : name + 1 + length a ≡ name + suc (length a) = omega arith in e) r.here;
        back = subst (λ n. AreKeptFrom meaning content settled keys n b) (let e : name + 1 + length a + 1 ≡ name + suc (length a) + 1 = omega arith in e)
            r.back;
      }

  pub kept_put : (content : Map) (settled : List Entry) (keys : List ℕ) (name : ℕ) (a b : List (Player (Worker Op))) (p : Player (Worker Op)) →
      KeptSplit content settled keys name a b p → AreKeptFrom meaning content settled keys name (a ++ p ∷ b)
  kept_put content settled keys name [] b p k = (
    subst (λ n. IsKeptPlayer meaning content settled keys n p) (let e : name + 0 ≡ name = omega arith in e) k.here,
    subst (λ n. AreKeptFrom meaning content settled keys n b) (let e : name + 0 + 1 ≡ name + 1 = omega arith in e) k.back,
  )
  kept_put content settled keys name (x ∷ a) b p k = (
    k.front.0,
    kept_put content settled keys (name + 1) a b p (record {
      front = k.front.1;
      here = subst (λ n. IsKeptPlayer meaning content settled keys n p) (let e : name + suc (length a) ≡ name + 1 + length a = omega arith in e) k.here;
      back = subst (λ n. AreKeptFrom meaning content settled keys n b) (let e : name + suc (length a) + 1 ≡ name + 1 + length a + 1 = omega arith in e) k.back;
    }),
  )
