-- The counts of a call, and its spare rows, go on as its machine's, but for a help, a search that begins and rows that are
-- linked; and a search begins only where an exchange was lost, or a swing was won for another.
use Rattle.std.proofs.Common.{◌≡◌, ◌⊎◌, inl, inr, ⊎_elim, ℕ, ◌≤◌, ◌-◌, ◌^◌, true, List, refl, sym, ◌∙◌, ap, subst, arith}
use Rattle.std.specs.Prelude.{Contains}
use Rattle.flit_words.specs.declared.layouts.Layout.{Layout}
use Rattle.flit_words.specs.declared.layouts.Kind.TheVariants.{Tree as Tree_kind}
use Rattle.flit_model.specs.States.{State}
use Rattle.flit_model.specs.Effects.{answer}
use Rattle.flit_model.specs.declared.events.Event.{Event}
use Rattle.flit_place.specs.Tags.{Place}
use Rattle.flit_pv.specs.declared.hands.Hand.{Hand}
use Rattle.flit_pv.specs.Hands.{more}
use Rattle.flit_pv.specs.Tallies.{IsTally}
use Rattle.flit_pv.specs.Exchanges.{HeldExchange}
use Rattle.flit_pv.specs.declared.exchanges.Exchanged.TheVariants.{Won, Lost}
use Rattle.flit_runs.specs.Workings.{Exchanges}
use Rattle.flit_structure.specs.Lawful.{AreSpareIn, is_insert}
use Rattle.flit_crew.specs.Machines.{Machine, Works, machine_takes, hand_in, has_ended, deed_of, exchange_deed, has_linked}
use Rattle.flit_crew.specs.Crews.{Who}
use Rattle.flit_crew_bounds.specs.Counting.{GoesOnWith, tally_of, HasLinkedBy}
use Rattle.flit_crew_bounds.specs.Bounding.{OwnEvent, BeginsSearch, taken_by}
use Rattle.flit_tree_heap.specs.Views.{TreeHeap}
use Rattle.flit_tree_steps.specs.Operations.{At, Root, Key, Edge, Rows, LeafWords, LeafValue, InnerWords, Link, Flag, Sibling, Freeze, Swing, Value, Ends, Rests, HeldOp}
use Rattle.flit_tree_steps.specs.Steps.{carried, with_search, with_helped, hand_at}
use Rattle.flit_tree_laws.specs.TreeAnatomy.{machine_at, with_machine_at, resumed, effects_at, tree_anatomy}
use Rattle.flit_tree_laws.specs.TreeCrew.{KnowsAt, Knows, tree_crew}
use Rattle.flit_tree_limits.specs.Laws.{TreesCount}
use Rattle.flit_tree_limits.proofs.Following.{same_hand, Follows, kept, lost, helped, used, follows}

same_le : (n : ℕ) → n ≤ n
same_le n = omega arith

top : (n : ℕ) → more n ≤ 2 ^ 64 - 1
top n = omega arith

-- ---- tallies

abbrev Goes : Hand → Hand → Type 0
Goes hand now = GoesOnWith hand.tally now.tally

kept_goes : (hand : Hand) → IsTally hand.tally → Goes hand hand
kept_goes hand t = record {
  within = t;
  loads = same_le hand.tally.loads;
  omitted = same_le hand.tally.omitted;
  queued = same_le hand.tally.queued;
  split = λ s. s;
  persists = refl;
  failed = refl;
  helped = inl refl;
  tries = inl refl;
}

lost_goes : (hand : Hand) → IsTally hand.tally → Goes hand (with_search hand)
lost_goes hand t = record {
  within = record {
    loads = t.loads;
    omitted = t.omitted;
    queued = t.queued;
    persists = t.persists;
    failed = t.failed;
    helped = t.helped;
    tries = top hand.tally.tries;
  };
  loads = same_le hand.tally.loads;
  omitted = same_le hand.tally.omitted;
  queued = same_le hand.tally.queued;
  split = λ s. s;
  persists = refl;
  failed = refl;
  helped = inl refl;
  tries = inr refl;
}

helped_goes : (hand : Hand) → IsTally hand.tally → Goes hand (with_search (with_helped hand))
helped_goes hand t = record {
  within = record {
    loads = t.loads;
    omitted = t.omitted;
    queued = t.queued;
    persists = t.persists;
    failed = t.failed;
    helped = top hand.tally.helped;
    tries = top hand.tally.tries;
  };
  loads = same_le hand.tally.loads;
  omitted = same_le hand.tally.omitted;
  queued = same_le hand.tally.queued;
  split = λ s. s;
  persists = refl;
  failed = refl;
  helped = inr refl;
  tries = inr refl;
}

-- the hand in the machine of a phase is that of the exchange which it is
of_exchange : (at : At) (m : HeldExchange) → machine_at at ≡ Works (Exchanges m) → m.hand ≡ hand_at at
of_exchange at m e = ap hand_in (sym e) ∙ same_hand at

tallies : (at : At) (hand : Hand) → Follows at hand → IsTally (hand_at at).tally → Goes (hand_at at) hand
tallies _ _ (kept at) t = kept_goes (hand_at at) t
tallies _ _ (lost at m found is ended) t =
    let e = of_exchange at m is in
    subst (λ h. Goes h (with_search m.hand)) e (lost_goes m.hand (subst (λ h. IsTally h.tally) (sym e) t))
tallies _ _ (helped at m is ended) t =
    let e = of_exchange at m is in
    subst (λ h. Goes h (with_search (with_helped m.hand))) e (helped_goes m.hand (subst (λ h. IsTally h.tally) (sym e) t))
tallies _ _ (used m ended) t = kept_goes m.hand t

-- ---- searches

module _ (l : Layout) (p : Place) (free : List ℕ) where
  abbrev SearchesSo : Machine → Hand → Type 0
  SearchesSo m hand = (hand.tally.tries ≡ (hand_in m).tally.tries) ⊎ BeginsSearch (tree_crew l p free) l p free m (hand_in m).tally hand.tally

  pub searches_so : l.kind ≡ Tree_kind → (at : At) (hand : Hand) → Follows at hand → SearchesSo (machine_at at) hand
  searches_so kind _ _ (kept at) = inl (ap (λ h. h.tally.tries) (sym (same_hand at)))
  searches_so kind _ _ (lost at m found is ended) = inr (record {
    exchange = m;
    how = Lost found;
    is = is;
    ended = ended;
    tries = ap (λ h. more h.tally.tries) (ap hand_in (sym is));
    excuse = inl refl;
  })
  searches_so kind _ _ (helped at m is ended) = inr (record {
    exchange = m;
    how = Won;
    is = is;
    ended = ended;
    tries = ap (λ h. more h.tally.tries) (ap hand_in (sym is));
    excuse = inr (kind, ap (λ h. more h.tally.helped) (ap hand_in (sym is)));
  })
  searches_so kind _ _ (used m ended) = inl refl

-- ---- spare rows

-- a call that links its rows is an insert
abbrev IsInsertAt : HeldOp → At → Type 0
IsInsertAt op (Root m) = Unit {0}
IsInsertAt op (Key m) = Unit {0}
IsInsertAt op (Edge m) = Unit {0}
IsInsertAt op (Rows m) = Unit {0}
IsInsertAt op (LeafWords m) = Unit {0}
IsInsertAt op (LeafValue m) = Unit {0}
IsInsertAt op (InnerWords m) = Unit {0}
IsInsertAt op (Link m) = is_insert op.call ≡ true
IsInsertAt op (Flag m) = Unit {0}
IsInsertAt op (Sibling c m) = Unit {0}
IsInsertAt op (Freeze c m) = Unit {0}
IsInsertAt op (Swing c m) = Unit {0}
IsInsertAt op (Value m) = Unit {0}
IsInsertAt op (Ends m) = Unit {0}
IsInsertAt op (Rests hand) = Unit {0}

module _ (l : Layout) (p : Place) (free : List ℕ) (op : HeldOp) where
  abbrev SparesSo : At → Hand → Type 0
  SparesSo at hand = AreSpareIn hand (hand_at at) ⊎ HasLinkedBy (tree_anatomy l p free) (record op { at = at }) (machine_at at)

  spares_so : (at : At) (hand : Hand) → Follows at hand → IsInsertAt op at → SparesSo at hand
  spares_so _ _ (kept at) i = inl (λ row some has. has)
  spares_so _ _ (lost at m found is ended) i = inl (λ row some has. subst (λ h. Contains h.spare row) (sym (of_exchange at m is)) has)
  spares_so _ _ (helped at m is ended) i = inl (λ row some has. subst (λ h. Contains h.spare row) (sym (of_exchange at m is)) has)
  spares_so _ _ (used m ended) i = inr (record { effects = refl; insert = i; linked = ap (λ x. has_linked (exchange_deed x m)) ended })

  insert_at : (h : TreeHeap) (me : Who) (at : At) → op.call ≡ me.call → KnowsAt l free h me op.reply op.path at → IsInsertAt op at
  insert_at h me (Root m) same k = tt
  insert_at h me (Key m) same k = tt
  insert_at h me (Edge m) same k = tt
  insert_at h me (Rows m) same k = tt
  insert_at h me (LeafWords m) same k = tt
  insert_at h me (LeafValue m) same k = tt
  insert_at h me (InnerWords m) same k = tt
  insert_at h me (Link m) same k = ap is_insert same ∙ k.0
  insert_at h me (Flag m) same k = tt
  insert_at h me (Sibling c m) same k = tt
  insert_at h me (Freeze c m) same k = tt
  insert_at h me (Swing c m) same k = tt
  insert_at h me (Value m) same k = tt
  insert_at h me (Ends m) same k = tt
  insert_at h me (Rests hand) same k = tt

-- ---- the phase with its machine ended

module _ (p : Place) (free : List ℕ) where
  abbrev at_end : At → ℕ → At
  at_end at told = with_machine_at at (machine_takes p free (machine_at at) told)

  same_machine : (at : At) (told : ℕ) → machine_at (at_end at told) ≡ machine_takes p free (machine_at at) told
  same_machine (Root m) told = refl
  same_machine (Key m) told = refl
  same_machine (Edge m) told = refl
  same_machine (Rows m) told = refl
  same_machine (LeafWords m) told = refl
  same_machine (LeafValue m) told = refl
  same_machine (InnerWords m) told = refl
  same_machine (Link m) told = refl
  same_machine (Flag m) told = refl
  same_machine (Sibling c m) told = refl
  same_machine (Freeze c m) told = refl
  same_machine (Swing c m) told = refl
  same_machine (Value m) told = refl
  same_machine (Ends m) told = refl
  same_machine (Rests hand) told = refl

  same_effects : (at : At) (told : ℕ) → effects_at (at_end at told) ≡ effects_at at
  same_effects (Root m) told = refl
  same_effects (Key m) told = refl
  same_effects (Edge m) told = refl
  same_effects (Rows m) told = refl
  same_effects (LeafWords m) told = refl
  same_effects (LeafValue m) told = refl
  same_effects (InnerWords m) told = refl
  same_effects (Link m) told = refl
  same_effects (Flag m) told = refl
  same_effects (Sibling c m) told = refl
  same_effects (Freeze c m) told = refl
  same_effects (Swing c m) told = refl
  same_effects (Value m) told = refl
  same_effects (Ends m) told = refl
  same_effects (Rests hand) told = refl

  same_insert : (op : HeldOp) (at : At) (told : ℕ) → IsInsertAt op at → IsInsertAt op (at_end at told)
  same_insert op (Root m) told i = i
  same_insert op (Key m) told i = i
  same_insert op (Edge m) told i = i
  same_insert op (Rows m) told i = i
  same_insert op (LeafWords m) told i = i
  same_insert op (LeafValue m) told i = i
  same_insert op (InnerWords m) told i = i
  same_insert op (Link m) told i = i
  same_insert op (Flag m) told i = i
  same_insert op (Sibling c m) told i = i
  same_insert op (Freeze c m) told i = i
  same_insert op (Swing c m) told i = i
  same_insert op (Value m) told i = i
  same_insert op (Ends m) told i = i
  same_insert op (Rests hand) told i = i

module _ (l : Layout) (p : Place) (free : List ℕ) (op : HeldOp) (told : ℕ) where
  abbrev at_last : At
  at_last = at_end p free op.at told

  abbrev last : Machine
  last = machine_takes p free (machine_at op.at) told

  abbrev next_at : At
  next_at = (resumed l free op last).at

  is_last : machine_at at_last ≡ last
  is_last = same_machine p free op.at told

  last_hand : hand_at at_last ≡ hand_in last
  last_hand = sym (same_hand at_last) ∙ ap hand_in is_last

  next_hand : hand_at next_at ≡ hand_in (machine_at next_at)
  next_hand = sym (same_hand next_at)

  next_follows : Follows at_last (hand_at next_at)
  next_follows = follows l free (carried op) at_last

  resumed_so : IsTally (hand_in last).tally → GoesOnWith (hand_in last).tally (tally_of (tree_anatomy l p free) (resumed l free op last))
  resumed_so t =
      let goes : Goes (hand_at at_last) (hand_at next_at) = tallies at_last (hand_at next_at) next_follows (subst (λ h. IsTally h.tally) (sym last_hand) t) in
      subst (λ h. Goes (hand_in last) h) next_hand (subst (λ h. Goes h (hand_at next_at)) last_hand goes)

  pub searched_so : l.kind ≡ Tree_kind → SearchesSo l p free last (hand_in (machine_at next_at))
  searched_so kind =
      subst (λ h. SearchesSo l p free last h) next_hand
      (subst (λ m. SearchesSo l p free m (hand_at next_at)) is_last (searches_so l p free kind at_last (hand_at next_at) next_follows))

  spared_so : IsInsertAt op op.at → AreSpareIn (hand_in (machine_at next_at)) (hand_in last) ⊎ HasLinkedBy (tree_anatomy l p free) op last
  spared_so i = ⊎_elim
      (λ spare. inl (subst (λ h. AreSpareIn h (hand_in last)) next_hand (subst (λ h. AreSpareIn (hand_at next_at) h) last_hand spare)))
      (λ linked. inr (record {
        effects = sym (same_effects p free op.at told) ∙ linked.effects;
        insert = linked.insert;
        linked = ap (λ m. has_linked (deed_of m)) (sym is_last) ∙ linked.linked;
      }))
      (spares_so l p free op at_last (hand_at next_at) next_follows (same_insert p free op op.at told i))

pub trees_count : TreesCount
trees_count l p free = record {
  begun = λ hand call t. record { same = refl; tries = inr refl };
  resumed = λ op m e t. resumed_by op m e.told e.is t;
  spare = λ h me op m kept knows same e. spare_by h me op m e.told knows same e.is;
}
  where
    resumed_by : (op : HeldOp) (m : Machine) (told : ℕ) → m ≡ machine_takes p free (machine_at op.at) told → IsTally (hand_in m).tally →
        GoesOnWith (hand_in m).tally (tally_of (tree_anatomy l p free) (resumed l free op m))
    resumed_by op m told is t =
        subst (λ x. GoesOnWith (hand_in x).tally (tally_of (tree_anatomy l p free) (resumed l free op x))) (sym is)
        (resumed_so l p free op told (subst (λ x. IsTally (hand_in x).tally) is t))

    spare_by : (h : TreeHeap) (me : Who) (op : HeldOp) (m : Machine) (told : ℕ) → Knows l free h me op → op.call ≡ me.call →
        m ≡ machine_takes p free (machine_at op.at) told →
        AreSpareIn (hand_in (machine_at (resumed l free op m).at)) (hand_in m) ⊎ HasLinkedBy (tree_anatomy l p free) op m
    spare_by h me op m told knows same is =
        subst (λ x. AreSpareIn (hand_in (machine_at (resumed l free op x).at)) (hand_in x) ⊎ HasLinkedBy (tree_anatomy l p free) op x) (sym is)
        (spared_so l p free op told (insert_at l p free op h me op.at same knows.at))

-- a seek begins only where an exchange of its call was lost, or where its call has won a swing for another
pub tree_searches : (l : Layout) (p : Place) (free : List ℕ) (s : State) (e : Event) (h k : TreeHeap) (me you : Who) (op : HeldOp) →
    OwnEvent (tree_crew l p free) l p free s e h k me you op → has_ended p (taken_by (tree_crew l p free) l p free s e op) ≡ true →
    SearchesSo l p free (taken_by (tree_crew l p free) l p free s e op)
    (hand_in (machine_at (resumed l free op (taken_by (tree_crew l p free) l p free s e op)).at))
tree_searches l p free s e h k me you op own ended = searched_so l p free op (answer s e) own.kept.layout.kind
