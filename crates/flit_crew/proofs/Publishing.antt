-- A worker that owes nothing and stores nothing lets others reach its words: all of them are persistent then.
use Rattle.std.proofs.Common.{◌≡◌, ◌⊎◌, inl, inr, ⊎_elim, ℕ, ◌≤◌, false, List, [], ◌∷◌, Option, Some, None, refl, sym, subst, arith}
use Rattle.std.specs.List.{AllByRecursion}
use Rattle.flit_words.specs.Words.{version_of}
use Rattle.flit_model.specs.States.{State, word_at, shadow_at}
use Rattle.flit_model.specs.declared.events.Event.{Event}
use Rattle.flit_model.proofs.Elements.{all_weaker}
use Rattle.flit_model.specs.declared.calls.Call.{Call}
use Rattle.flit_place.specs.Tags.{Place}
use Rattle.flit_pv.specs.declared.queues.Noted.{Noted}
use Rattle.flit_pv.specs.Stores.{store_asked}
use Rattle.flit_runs.specs.Workings.{Working, Idles, Loads, VLoads, Confirms, Exchanges, VExchanges, Stores, Fences, Completes, Evicts}
use Rattle.flit_runs.specs.Worlds.{Actor, world_of, publishes, HasSeen, IsAway, IsNotStoring}
use Rattle.flit_runs.specs.Soundness.{IsSound, IsStored, Needs, owed}
use Rattle.flit_runs.proofs.Turns.{sound-turn, safe}
use Rattle.flit_crew.specs.Crews.{IsFurther, who_of}

none_or_some : (q : List Noted) → (q ≡ []) ⊎ (q ≡ [] → ⊥)
none_or_some [] = inl refl
none_or_some (n ∷ ns) = inr (λ e. clash n ns e)
  where
    clash : (n : Noted) (ns : List Noted) → n ∷ ns ≡ [] → ⊥
    clash n ns e = cc

asks_or_not : (o : Option Event) → (o ≡ None) ⊎ (o ≡ None → ⊥)
asks_or_not None = inl refl
asks_or_not (Some e) = inr (λ q. clash e q)
  where
    clash : (e : Event) → Some e ≡ None → ⊥
    clash e q = cc

stores_or_not : (w : Working) → IsNotStoring w ⊎ (IsNotStoring w → ⊥)
stores_or_not (Idles hand) = inl tt
stores_or_not (Loads m) = inl tt
stores_or_not (VLoads m) = inl tt
stores_or_not (Confirms m) = inl tt
stores_or_not (Exchanges m) = inl tt
stores_or_not (VExchanges m) = inl tt
stores_or_not (Stores m) = asks_or_not (store_asked m)
stores_or_not (Fences m) = inl tt
stores_or_not (Completes m) = inl tt
stores_or_not (Evicts m) = inl tt

-- nothing is private to one that owes nothing and stores nothing
abbrev pub IsPublished : Actor → Type 0
IsPublished g = owed g.at ≡ [] → IsNotStoring g.at → g.private ≡ []

module _ (p : Place) (s : State) (xs : List Actor) (g : Actor) (ys : List Actor) where
  pub record Published : Type 0 where
    pub actor : Actor
    pub at : actor.at ≡ g.at
    pub needs : actor.needs ≡ g.needs
    pub seen : actor.seen ≡ g.seen
    pub private : (actor.private ≡ g.private) ⊎ (actor.private ≡ [])
    pub sound : IsSound p (λ word. false) (world_of s xs actor ys)
    pub published : IsPublished actor

  pub published_now : IsSound p (λ word. false) (world_of s xs g ys) → Published
  published_now sound = by_queue (none_or_some (owed g.at)) (stores_or_not g.at)
    where
      level : (a b : ℕ) → a ≤ b → b ≤ a → a ≡ b
      level a b i j = omega (arith, i, j)

      persistent : owed g.at ≡ [] → AllByRecursion (λ w. version_of (word_at s w) ≡ version_of (shadow_at s w)) g.private
      persistent none = all_weaker (IsStored s [] g.needs) (λ w. version_of (word_at s w) ≡ version_of (shadow_at s w))
          (λ w k. ⊎_elim (λ i. level (version_of (word_at s w)) (version_of (shadow_at s w)) i (sound.words w).behind) (λ i. absurd i.0) k) g.private
          (subst (λ q. AllByRecursion (IsStored s q g.needs) g.private) none (safe p (λ word. false) s xs g ys sound).stored)

      as_it_is : (owed g.at ≡ [] → IsNotStoring g.at → ⊥) → Published
      as_it_is not_both = record {
        actor = g;
        at = refl;
        needs = refl;
        seen = refl;
        private = inl refl;
        sound = sound;
        published =
            λ none still. absurd (not_both none still);
      }

      by_queue : (owed g.at ≡ []) ⊎ (owed g.at ≡ [] → ⊥) → IsNotStoring g.at ⊎ (IsNotStoring g.at → ⊥) → Published
      by_queue (inl none) (inl still) = record {
        actor = record g { private = [] };
        at = refl;
        needs = refl;
        seen = refl;
        private = inr refl;
        sound = sound-turn p (λ word. false) (world_of s xs g ys) (world_of s xs (record g { private = [] }) ys) (publishes s xs g ys still (persistent none))
            sound;
        published = λ q t. refl;
      }
      by_queue (inl none) (inr stores) = as_it_is (λ q t. stores t)
      by_queue (inr some) still = as_it_is (λ q t. some q)

  -- what is true of its private words and of what it knows
  pub all_published : (P : ℕ → Type 0) (x : Published) → AllByRecursion P g.private → AllByRecursion P x.actor.private
  all_published P x all = ⊎_elim (λ e. subst (AllByRecursion P) (sym e) all) (λ e. subst (AllByRecursion P) (sym e) tt) x.private

  pub further_published : (name number : ℕ) (call : Call) (now : Option ℕ) (x : Published) →
      IsFurther (who_of name number call now g) (who_of name number call now x.actor)
  further_published name number call now x = record {
    name = refl;
    number = refl;
    call = refl;
    first = refl;
    needs = λ w v h. subst (λ ns. Needs ns w v) (sym x.needs) h;
    seen = λ w raw h. subst (λ ns. HasSeen ns w raw) (sym x.seen) h;
    private = λ w h. ⊎_elim (λ e. subst (λ ws. IsAway ws w) (sym e) h) (λ e. subst (λ ws. IsAway ws w) (sym e) tt) x.private;
  }
