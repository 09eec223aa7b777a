-- Which row an operation tells, and that a mark with a name is written by that name's remove alone.
use Rattle.std.proofs.Common.{◌≡◌, ⊎_elim, ℕ, ◌≤◌, ◌==◌, ◌&&◌, Bool, true, false, List, Option, Some, None, refl, sym, ◌∙◌, ap, subst, if◌then◌else◌}
use Rattle.std.proofs.lemmas.Bool.{false≢true, eq-eqb}
use Rattle.std.proofs.lemmas.Option.{none-some, same_Some}
use Rattle.flit_words.specs.declared.layouts.Layout.{Layout}
use Rattle.flit_words.specs.Layouts.{last_row_of}
use Rattle.flit_words.specs.Words.{value_of, bare_of}
use Rattle.flit_words.specs.Links.{link_of}
use Rattle.flit_model.specs.Lists.{next_word}
use Rattle.flit_model.specs.States.{State, word_at}
use Rattle.flit_model.specs.Effects.{after}
use Rattle.flit_model.specs.declared.events.Event.{Event}
use Rattle.flit_model.specs.declared.events.Event.TheVariants.{Load, Exchange, Persist}
use Rattle.flit_model.specs.declared.calls.Call.{Call}
use Rattle.flit_model.specs.declared.calls.Entry.{Entry}
use Rattle.flit_place.specs.Tags.{Place}
use Rattle.flit_pv.specs.Evicts.{evict_asks}
use Rattle.flit_pv.specs.declared.evicts.Evict.{Evict}
use Rattle.flit_pv.specs.declared.evicts.Evicting.{Evicting}
use Rattle.flit_pv.specs.declared.evicts.Evicting.TheVariants.{Reads, WritesBack, Done}
use Rattle.flit_structure.specs.declared.workers.Doing.{Doing}
use Rattle.flit_structure.specs.declared.workers.Doing.TheVariants.{Idle, Busy, Evicting as Evicts_word}
use Rattle.flit_structure.specs.declared.workers.Worker.{Worker}
use Rattle.flit_structure.specs.Moments.{Moment, busy, update_of}
use Rattle.flit_structure.specs.Meanings.{Meaning, asks, asked_by}
use Rattle.flit_structure.specs.Lawful.{HoldsWith, is_insert}
use Rattle.flit_crew.specs.Machines.{machine_asks}
use Rattle.flit_crew.specs.Crews.{Crew, Who}
use Rattle.flit_crew.specs.CrewMeanings.{Bounds}
use Rattle.flit_crew.specs.Obligations.{Keeps}
use Rattle.flit_crew_bounds.specs.BoundedMeanings.{bounds_by}
use Rattle.flit_crew_bounds.specs.Bounding.{OwnEvent}
use Rattle.flit_crew_bounds.proofs.OwnEvents as own
use Rattle.flit_list_steps.specs.Operations.{HeldOp}
use Rattle.flit_list_heap.specs.Keeping.{ListHeap}
use Rattle.flit_list_laws.specs.ListAnatomy.{machine_at}
use Rattle.flit_list_laws.specs.ListCrew.{list_crew, IsOfLists}
use Rattle.flit_list_laws.proofs.Keeping.{lists_keep}
use Rattle.flit_list_tries.specs.ListTries.{list_limits}
use Rattle.flit_list_structure.specs.ListStructure.{lists}
use Rattle.flit_list_structure.proofs.Lawfulness.{list_lawful}
use Rattle.flit_marked_laws.specs.Marked.{IsMarkedBy, is_remove, marks_by, if_won, update_on, update_in}
use Rattle.flit_marked_laws.specs.ListMarks.{told_row}
use Rattle.flit_marked_laws.proofs.Marking.{MarksIt, outcome, told_links, Marks_told, told_marks, Links_told, told_link}

all_true : (a b c d : Bool) → a ≡ true → b ≡ true → c ≡ true → d ≡ true → (a && ((b && c) && d)) ≡ true
all_true a b c d i j k m = cc

some_if : {X : Type 0} (t : Bool) (x : X) → t ≡ true → (if t then Some x else None) ≡ Some x
some_if true x e = refl
some_if false x e = absurd (false≢true e)

module _ (l : Layout) (p : Place) (free : List ℕ) (chains : IsOfLists l) where
  abbrev pub S : Meaning HeldOp
  S = lists l p free

  abbrev pub C : Crew (ℕ → Bool) HeldOp
  C = list_crew l p free

  abbrev pub bounds : Bounds HeldOp
  bounds = bounds_by C l p free (list_limits l p free)

  abbrev pub keeps : Keeps C l p free
  keeps = lists_keep.keeps l p free chains

  module _ (M : Moment HeldOp) (a : List (Worker HeldOp)) (name number : ℕ) (op : HeldOp) (call : Call) (begun : Option ℕ) (b : List (Worker HeldOp))
      (e : Event) (q : machine_asks p (machine_at op.at) ≡ Some e)
      (holds : HoldsWith S M a (busy name number op call begun) b) where
    abbrev pub before : ListHeap
    before = own.before C l p free bounds keeps M a name number op call begun b e q holds.0

    abbrev pub behind : ListHeap
    behind = own.behind C l p free bounds keeps M a name number op call begun b e q holds.0

    abbrev pub me : Who
    me = own.me C l p free bounds keeps M a name number op call begun b e q holds.0

    abbrev pub you : Who
    you = own.you C l p free bounds keeps M a name number op call begun b e q holds.0

    pub event : OwnEvent C l p free M.state e before behind me you op
    event = own.own_event C l p free bounds keeps M a name number op call begun b e q holds.0

    call_is : op.call ≡ call
    call_is = event.call

    -- an event of a call that leaves a mark with a name is the Exchange by which that name's remove takes effect
    busy_named : (row who : ℕ) → l.values ≡ true → 1 ≤ row → row ≤ last_row_of l → (IsMarkedBy l M.state.words row who → ⊥) →
        IsMarkedBy l (after M.state e).words row who →
        (x : Entry) × (if_won M.state e (update_on S told_row (marks_by who) row (busy name number op call begun)) ≡ Some x)
    busy_named row who values real last not_before then_marked = ⊎_elim
        (λ same. absurd (not_before (record {
          mark = ap (λ v. (link_of v).mark) (sym same) ∙ then_marked.mark;
          by = ap (λ v. (link_of v).by) (sym same) ∙ then_marked.by;
        })))
        (λ x. ⊎_elim (λ none. absurd (false≢true (sym none ∙ then_marked.mark))) marks x)
        (outcome l chains p free M.state e before behind me you op.call op.reply op.path row real last op.at
        ((list_lawful l p free chains).allowed M a (busy name number op call begun) b e q holds) event)
      where
        marks : MarksIt l chains p free M.state e before behind me you op.call op.reply op.path row real last op.at →
            (x : Entry) × (if_won M.state e (update_on S told_row (marks_by who) row (busy name number op call begun)) ≡ Some x)
        marks m =
            let same : name ≡ who = sym (m.by values) ∙ then_marked.by in
            let all : (S.effect op && ((name == who) && is_remove call && (told_row op == row))) ≡ true =
            all_true (S.effect op) (name == who) (is_remove call) (told_row op == row) m.effect (eq-eqb name who same)
            (ap is_remove (sym call_is) ∙ m.removes) (eq-eqb (told_row op) row m.told) in
            let update : Option Entry = update_on S told_row (marks_by who) row (busy name number op call begun) in
            let is : update ≡ Some (update_of name number call) = some_if _ (update_of name number call) all in (
              update_of name number call,
              ap (λ x. if_won M.state x update) m.event
                  ∙ ap (λ t. if t then update else None) (eq-eqb (word_at M.state (next_word l row)) m.from m.won) ∙ is,
            )

  -- an Evict writes no word
  pub evict_leaves : (s : State) (at : Evicting) (m : Evict) (e : Event) → evict_asks at m ≡ Some e → (after s e).words ≡ s.words
  evict_leaves s Reads m e q = ap (λ x. (after s x).words) (sym (same_Some (Load m.word) e q))
  evict_leaves s (WritesBack raw) m e q = ap (λ x. (after s x).words) (sym (same_Some (Persist m.word (bare_of raw)) e q))
  evict_leaves s Done m e q = absurd (none-some e q)

  pub named : (M : Moment HeldOp) (a : List (Worker HeldOp)) (u : Worker HeldOp) (b : List (Worker HeldOp)) (e : Event) (row who : ℕ) → l.values ≡ true →
      asked_by S u ≡ Some e → HoldsWith S M a u b → 1 ≤ row → row ≤ last_row_of l → (IsMarkedBy l M.state.words row who → ⊥) →
      IsMarkedBy l (after M.state e).words row who → (x : Entry) × (if_won M.state e (update_on S told_row (marks_by who) row u) ≡ Some x)
  named M a u b e row who values asked holds real last before then_marked = by_doing u.name u.number u.doing asked holds
    where
      by_doing : (name number : ℕ) (d : Doing HeldOp) → asks S d ≡ Some e → HoldsWith S M a (record { name = name; number = number; doing = d }) b →
          (x : Entry) × (if_won M.state e (update_in S told_row (marks_by who) row name number d) ≡ Some x)
      by_doing name number (Idle hand) q h = absurd (none-some e q)
      by_doing name number (Evicts_word m) q h =
          absurd (before (subst (λ ws. IsMarkedBy l ws row who) (evict_leaves M.state m.at m e q) then_marked))
      by_doing name number (Busy op call begun) q h = busy_named M a name number op call begun b e q h row who values real last before then_marked

  pub links_it : (M : Moment HeldOp) (a : List (Worker HeldOp)) (name number : ℕ) (op : HeldOp) (call : Call) (begun : Option ℕ) (b : List (Worker HeldOp))
      (word from to : ℕ) → S.effect op ≡ true → is_insert call ≡ true → S.asked op ≡ Some (Exchange word from to) →
      HoldsWith S M a (busy name number op call begun) b → (link_of (value_of to)).row ≡ told_row op
  links_it M a name number op call begun b word from to effect put q holds =
      let x = event M a name number op call begun b (Exchange word from to) q holds in
      let E : Event = Exchange word from to in
      told_links l p free M.state E (before M a name number op call begun b E q holds) (behind M a name number op call begun b E q holds)
      (me M a name number op call begun b E q holds) (you M a name number op call begun b E q holds) op.call op.reply op.path word from to refl op.at x effect
      (ap is_insert (call_is M a name number op call begun b (Exchange word from to) q holds) ∙ put)

  module _ (M : Moment HeldOp) (a : List (Worker HeldOp)) (name number : ℕ) (op : HeldOp) (call : Call) (begun : Option ℕ) (b : List (Worker HeldOp))
      (word from to : ℕ) (effect : S.effect op ≡ true) (put : is_insert call ≡ false) (q : S.asked op ≡ Some (Exchange word from to))
      (holds : HoldsWith S M a (busy name number op call begun) b) where
    abbrev E : Event
    E = Exchange word from to

    pub marks_so : Marks_told l p free M.state E (before M a name number op call begun b E q holds) (behind M a name number op call begun b E q holds)
        (me M a name number op call begun b E q holds) (you M a name number op call begun b E q holds) op.call op.reply op.path word from to refl op.at
    marks_so = told_marks l p free M.state E (before M a name number op call begun b E q holds) (behind M a name number op call begun b E q holds)
        (me M a name number op call begun b E q holds) (you M a name number op call begun b E q holds) op.call op.reply op.path word from to refl op.at
        (event M a name number op call begun b E q holds) effect (ap is_insert (call_is M a name number op call begun b E q holds) ∙ put)

    pub marks_it : (word ≡ next_word l (told_row op)) × ((link_of (value_of to)).mark ≡ true) × (l.values ≡ true → (link_of (value_of to)).by ≡ name)
    marks_it = (marks_so.word_is, marks_so.mark, marks_so.by)

  module _ (M : Moment HeldOp) (a : List (Worker HeldOp)) (name number : ℕ) (op : HeldOp) (call : Call) (begun : Option ℕ) (b : List (Worker HeldOp))
      (word from to : ℕ) (effect : S.effect op ≡ true) (put : is_insert call ≡ true) (q : S.asked op ≡ Some (Exchange word from to))
      (holds : HoldsWith S M a (busy name number op call begun) b) where
    abbrev F : Event
    F = Exchange word from to

    pub links_so : Links_told l p free M.state F (before M a name number op call begun b F q holds) (behind M a name number op call begun b F q holds)
        (me M a name number op call begun b F q holds) (you M a name number op call begun b F q holds) op.call op.reply op.path word from to refl op.at
    links_so = told_link l p free M.state F (before M a name number op call begun b F q holds) (behind M a name number op call begun b F q holds)
        (me M a name number op call begun b F q holds) (you M a name number op call begun b F q holds) op.call op.reply op.path word from to refl op.at
        (event M a name number op call begun b F q holds) effect (ap is_insert (call_is M a name number op call begun b F q holds) ∙ put)
