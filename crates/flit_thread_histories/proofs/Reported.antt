-- What a report says, from all that is promised.
use Rattle.std.proofs.Common.{◌≡◌, ◌⊎◌, inl, inr, ℕ, ◌+◌, ◌*◌, ◌<◌, ◌≤◌, true, List, [], ◌∷◌, ◌++◌, map, Option, Some, None, refl, sym, ◌∙◌, ap, subst, arith, append-nil, ⊎_elim}
use Rattle.std.proofs.lemmas.Bool.{cases_lt}
use Rattle.flit_model.specs.Histories.{is_read, IsRightAt}
use Rattle.flit_model.specs.Maps.{IsLegal, map_after_all}
use Rattle.flit_model.specs.Recovery.{layout_of}
use Rattle.flit_model.specs.declared.calls.Ahead.TheVariants.{None as No_ahead}
use Rattle.flit_model.specs.declared.calls.Entry.{Entry}
use Rattle.flit_model.specs.declared.calls.Outcome.{Outcome}
use Rattle.flit_model.specs.declared.calls.Outcome.TheVariants.{Replied}
use Rattle.flit_model.specs.declared.calls.Reply.{Reply}
use Rattle.flit_model.specs.declared.calls.Reply.TheVariants.{Yes, No, Found, Full, Worn}
use Rattle.flit_model.specs.declared.calls.Work.{Work}
use Rattle.flit_model.specs.States.{state_from}
use Rattle.flit_structure.specs.Meanings.{Meaning}
use Rattle.flit_structure.specs.Lawful.{HasMap, IsBounded, rows_needed}
use Rattle.flit_structure.proofs.Names.{all_map}
use Rattle.flit_histories.proofs.InsertCounts.{inserts_counted}
use Rattle.flit_table.specs.declared.told.Known.{Known}
use Rattle.flit_table.specs.declared.views.Origin.{Origin}
use Rattle.flit_table.specs.Views.{content_of, answered}
use Rattle.flit_workers.specs.Works.{item_of, outcomes_of, EndsAt}
use Rattle.flit_thread_histories.specs.Promises.{history_told, events_told, IsToldOf, KeepsPromises}
use Rattle.flit_thread_histories.specs.Reports.{AllReplied, HasMadeAll, EndsByStop, IsWithinTold, TellsRun}
use Rattle.flit_thread_histories.proofs.Parts.{along}

-- ---- how a worker ended

all_replied : (es : List Entry) → AllReplied (map (λ e. Replied e.reply) es ++ [])
all_replied [] = tt
all_replied (e ∷ es) = ((e.reply, refl), all_replied es)

module _ (t : Known) (history : List Entry) (name : ℕ) (w : Work) (os : List Outcome) (h : IsToldOf t history name w os) where
  abbrev AllMade : Type 0
  AllMade = HasMadeAll t name w os

  no_rest : h.rest ≡ [] → AllMade
  no_rest e = (
    subst AllReplied (sym (h.outcomes_are ∙ ap (outcomes_of h.made) e)) (all_replied (answered h.made)),
    h.items ∙ ap (λ l. map item_of h.made ++ l) e ∙ append-nil (map item_of h.made) ∙ ap (map item_of) (sym h.told),
  )

  abbrev events : ℕ
  events = events_told name t

  at_end : (s : Option ℕ) → EndsAt s events h.rest → s ≡ None → h.rest ≡ []
  at_end None e is = e
  at_end (Some stop) e is = absurd (cc)

  at_stop : (s : Option ℕ) (stop : ℕ) → EndsAt s events h.rest → s ≡ Some stop → (events ≡ stop) ⊎ ((events < stop) × AllMade)
  at_stop None stop e is = absurd (cc)
  at_stop (Some n) stop e is = (let same : n ≡ stop = cc in subst (λ k. (events ≡ k) ⊎ ((events < k) × AllMade)) same
      (⊎_elim (λ less. inr (less, no_rest (e.1 less))) (λ le. inl (exact n e.0 le)) (cases_lt events n)))
    where
      exact : (k : ℕ) → events ≤ k → k ≤ events → events ≡ k
      exact k a b = omega (arith, a, b)

  ends_by_stop : EndsByStop t name w os
  ends_by_stop = record {
    without = λ e. no_rest (at_end w.stop h.ends e);
    with_stop = λ stop e. at_stop w.stop stop h.ends e;
  }

module _ {S Op : Type 0} (meaning : Meaning Op) (o : Origin S) (works : List Work) (outcomes : List (List Outcome)) (t : Known) (none : t.ahead ≡ No_ahead)
    (h : KeepsPromises meaning o works outcomes t) where
  whole : history_told t ++ h.taken ≡ history_told t
  whole = ap (λ l. history_told t ++ l) (h.none_taken none) ∙ append-nil (history_told t)

  bound_told : (r : Reply) → IsBounded meaning.layout meaning.room (state_from meaning.layout t.image.words.items) t.updates r →
      IsWithinTold meaning.layout meaning.room t r
  bound_told Yes b = tt
  bound_told No b = tt
  bound_told (Found value) b = tt
  bound_told (Full ticket) b = (
    b.0,
    subst (λ k. meaning.room < rows_needed meaning.layout.kind * (k + meaning.layout.workers))
        (sym (inserts_counted t.updates t.placed h.updates
        (all_map (IsRightAt (content_of o) t.updates) (λ r. is_read r.entry ≡ true) (λ r k. k.read) t.placed h.reads))) b.1,
  )
  bound_told (Worn word version) b = b

  pub tells_run : TellsRun meaning o works outcomes t
  tells_run = record {
    layout = h.layout;
    ahead = none;
    names = h.names;
    legal = subst (IsLegal (content_of o)) whole h.legal;
    map = subst (λ l. HasMap (layout_of t.image) t.image.words.items (map_after_all (content_of o) l)) whole h.found;
    workers = along (λ name w os. IsToldOf t (history_told t ++ h.taken) name w os) (λ name w os. IsToldOf t (history_told t) name w os × EndsByStop t name w os) 1
        works outcomes
        (λ name w os le d. (let e = subst (λ l. IsToldOf t l name w os) whole d in (e, ends_by_stop t (history_told t) name w os e))) h.workers;
    bounds = all_map (λ e. IsBounded meaning.layout meaning.room (state_from meaning.layout t.image.words.items) t.updates e.reply)
        (λ e. IsWithinTold meaning.layout meaning.room t e.reply) (λ e k. bound_told e.reply k) (answered t.mine) h.bounds;
  }
