-- The inserts with reply Yes in a history are the inserts among its updates.
use Rattle.std.proofs.Common.{◌≡◌, ◌+◌, ◌&&◌, Bool, true, false, cond, List, [], ◌∷◌, filter, count_by, refl, sym, ◌∙◌, ap}
use Rattle.std.proofs.lemmas.Bool.{false≢true}
use Rattle.std.specs.List.{AllByRecursion}
use Rattle.flit_model.specs.Histories.{is_yes, is_update_by, is_update, is_read, history_of}
use Rattle.flit_model.specs.declared.calls.Call.{Call}
use Rattle.flit_model.specs.declared.calls.Call.TheVariants.{Insert, Remove, Contains, Get}
use Rattle.flit_model.specs.declared.calls.Entry.{Entry}
use Rattle.flit_model.specs.declared.calls.Placed.{Placed}
use Rattle.flit_model.specs.declared.calls.Reply.{Reply}
use Rattle.flit_model.proofs.Counting.{count_by-cons, count_by-cons_no}
use Rattle.flit_model.proofs.HistoryLaws.{filter-updates}
use Rattle.flit_structure.specs.Lawful.{is_insert}
use Rattle.flit_histories.specs.Calls.{inserts_in}

abbrev is_won : Entry → Bool
is_won e = is_insert e.call && is_yes e.reply

won_is_update : (c : Call) (r : Reply) → (is_insert c && is_yes r) ≡ true → is_update_by c r ≡ true
won_is_update (Insert k v) r h = h
won_is_update (Remove k) r h = absurd (false≢true h)
won_is_update (Contains k) r h = h
won_is_update (Get k) r h = h

update_is_won : (c : Call) (r : Reply) → is_update_by c r ≡ true → (is_insert c && is_yes r) ≡ is_insert c
update_is_won (Insert k v) r h = h
update_is_won (Remove k) r h = refl
update_is_won (Contains k) r h = refl
update_is_won (Get k) r h = refl

among_updates : (es : List Entry) → inserts_in (filter is_update es) ≡ inserts_in es
among_updates [] = refl
among_updates (e ∷ es) = by_test (is_update e) refl (among_updates es)
  where
    not_won : (b : Bool) → is_won e ≡ b → is_update e ≡ false → is_won e ≡ false
    not_won true won read = absurd (false≢true (sym read ∙ won_is_update e.call e.reply won))
    not_won false won read = won

    by_test : (b : Bool) → is_update e ≡ b → inserts_in (filter is_update es) ≡ inserts_in es → inserts_in (filter is_update (e ∷ es)) ≡ inserts_in (e ∷ es)
    by_test true is rest = ap (λ b. inserts_in (cond b (e ∷ filter is_update es) (filter is_update es))) is
        ∙ count_by-cons is_won e (filter is_update es) ∙ ap (λ n. cond (is_won e) 1 0 + n) rest ∙ sym (count_by-cons is_won e es)
    by_test false is rest = ap (λ b. inserts_in (cond b (e ∷ filter is_update es) (filter is_update es))) is
        ∙ rest ∙ sym (count_by-cons_no is_won e es (not_won (is_won e) refl is))

of_updates : (us : List Entry) → AllByRecursion (λ e. is_update e ≡ true) us → inserts_in us ≡ count_by (λ e. is_insert e.call) us
of_updates [] h = refl
of_updates (u ∷ us) h = count_by-cons is_won u us ∙ ap (λ b. cond b 1 0 + inserts_in us) (update_is_won u.call u.reply h.0)
    ∙ ap (λ n. cond (is_insert u.call) 1 0 + n) (of_updates us h.1) ∙ sym (count_by-cons (λ e. is_insert e.call) u us)

pub inserts_counted : (us : List Entry) (reads : List Placed) → AllByRecursion (λ e. is_update e ≡ true) us → AllByRecursion (λ r. is_read r.entry ≡ true) reads →
    inserts_in (history_of us reads) ≡ count_by (λ e. is_insert e.call) us
inserts_counted us reads updates read = sym (among_updates (history_of us reads)) ∙ ap inserts_in (filter-updates 0 us reads updates read) ∙ of_updates us updates
