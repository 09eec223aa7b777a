-- What is read from a log.
use Rattle.std.proofs.Common.{◌≡◌, ℕ, eqb, nat_lt, Bool, true, false, cond, List, [], ◌∷◌, ◌++◌, refl, sym, ◌∙◌, ap, Option, Some, None, append_assoc, append-nil}
use Rattle.std.specs.FinMap as fin
use Rattle.flit_model.specs.States.{State, word_at, shadow_at}
use Rattle.flit_model.specs.Effects.{answer}
use Rattle.flit_model.specs.Settling.{Progress, nothing_made, takes_effect, settles, progress_after}
use Rattle.flit_model.specs.declared.events.Event.{Event}
use Rattle.flit_model.specs.declared.events.Event.TheVariants.{Load, ReadTag, Raise, Lower, Exchange, Persist, Store, Draw}
use Rattle.flit_model.specs.declared.calls.Entry.{Entry}
use Rattle.flit_table.specs.declared.views.Logged.{Logged}
use Rattle.flit_table.specs.Logs.{noted, progress_from, progress_of, settled_in, Continues, line, line_of_effect, logged_by}

pub progress_joined : (p : Progress) (log more : List Logged) → progress_from p (log ++ more) ≡ progress_from (progress_from p log) more
progress_joined p [] more = refl
progress_joined p (x ∷ log) more = progress_joined (noted p x.word x.entry) log more

exchange_follows : (p : Progress) (word : ℕ) (won : Bool) (effect : Option Entry) →
    progress_from p (cond won (line_of_effect word effect) []) ≡ cond won (takes_effect p word effect) p
exchange_follows p word true None = refl
exchange_follows p word true (Some x) = refl
exchange_follows p word false effect = refl

persist_follows : (p : Progress) (word : ℕ) (rises : Bool) →
    progress_from p (cond rises (line word None ∷ []) []) ≡ cond rises (settles p word (fin.get p.waiting word)) p
persist_follows p word true = refl
persist_follows p word false = refl

pub event_follows : (p : Progress) (m : State) (e : Event) (effect : Option Entry) →
    progress_from p (logged_by e (answer m e) effect) ≡ progress_after p m e effect
event_follows p m (Load word) effect = refl
event_follows p m (ReadTag slot) effect = refl
event_follows p m (Raise slot) effect = refl
event_follows p m (Lower slot) effect = refl
event_follows p m (Exchange word from to) effect = exchange_follows p word (eqb (word_at m word) from) effect
event_follows p m (Persist word kept) effect = persist_follows p word (nat_lt (shadow_at m word) kept)
event_follows p m (Store word to) effect = refl
event_follows p m Draw effect = refl

pub log_follows : (log : List Logged) (m : State) (e : Event) (effect : Option Entry) →
    progress_of (log ++ logged_by e (answer m e) effect) ≡ progress_after (progress_of log) m e effect
log_follows log m e effect = progress_joined nothing_made log (logged_by e (answer m e) effect) ∙ event_follows (progress_of log) m e effect

-- settled updates stay
abbrev Gains : List Entry → List Entry → Type 0
Gains old now = (between : List Entry) × (now ≡ old ++ between)

settles_gains : (p : Progress) (word : ℕ) (o : Option Entry) → Gains p.settled (settles p word o).settled
settles_gains p word None = ([], sym (append-nil p.settled))
settles_gains p word (Some x) = (x ∷ [], refl)

noted_gains : (p : Progress) (word : ℕ) (entry : Option Entry) → Gains p.settled (noted p word entry).settled
noted_gains p word None = settles_gains p word (fin.get p.waiting word)
noted_gains p word (Some x) = ([], sym (append-nil p.settled))

gains_from : (p : Progress) (log : List Logged) → Gains p.settled (progress_from p log).settled
gains_from p [] = ([], sym (append-nil p.settled))
gains_from p (x ∷ log) =
    let q : Progress = noted p x.word x.entry in
    let h = noted_gains p x.word x.entry in
    let k = gains_from q log in
    (h.0 ++ k.0, k.1 ∙ ap (λ (es : List Entry). es ++ k.0) h.1 ∙ append_assoc p.settled h.0 k.0)

pub log_grows : (log more : List Logged) → (between : List Entry) × (settled_in (log ++ more) ≡ settled_in log ++ between)
log_grows log more =
    let h = gains_from (progress_of log) more in
    (h.0, ap (λ (p : Progress). p.settled) (progress_joined nothing_made log more) ∙ h.1)

-- a log that continues one that continues another
pub continues_same : (log : List Logged) → Continues log log
continues_same log = ([], sym (append-nil log))

pub continues_on : (a b c : List Logged) → Continues a b → Continues b c → Continues a c
continues_on a b c h k = (h.0 ++ k.0, k.1 ∙ ap (λ (l : List Logged). l ++ k.0) h.1 ∙ append_assoc a h.0 k.0)

pub seen_grows : (log longer : List Logged) → Continues log longer → (between : List Entry) × (settled_in longer ≡ settled_in log ++ between)
seen_grows log longer h =
    let g = log_grows log h.0 in
    (g.0, ap settled_in h.1 ∙ g.1)
