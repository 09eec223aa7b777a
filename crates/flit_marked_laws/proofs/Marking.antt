-- What a call's own event writes into the next word of a row: what it held, its tag aside; a link with no mark; or, by the
-- Exchange by which a remove takes effect on that row, its mark.
use Rattle.std.proofs.Common.{◌≡◌, ◌⊎◌, inl, inr, ⊎_elim, ℕ, ◌+◌, ◌-◌, ◌*◌, ◌^◌, ◌%◌, ◌≤◌, ◌==◌, ◌&&◌, Bool, true, false, List, [], ◌∷◌, ◌++◌, length, Some, refl, sym, ◌∙◌, ap, subst, arith, if◌then◌else◌}
use Rattle.std.proofs.lemmas.Bool.{false≢true, ne_eqb}
use Rattle.std.proofs.lemmas.Option.{none-some}
use Rattle.flit_words.specs.declared.layouts.Layout.{Layout}
use Rattle.flit_words.specs.declared.links.Link.{Link}
use Rattle.flit_words.specs.Layouts.{last_row_of}
use Rattle.flit_words.specs.Words.{value_of, bare_of}
use Rattle.flit_words.specs.Links.{link_of}
use Rattle.flit_model.specs.Lists.{next_word}
use Rattle.flit_model.specs.States.{State, word_at}
use Rattle.flit_model.specs.Effects.{after, IsAllowed}
use Rattle.flit_model.specs.declared.events.Event.{Event}
use Rattle.flit_model.specs.declared.events.Event.TheVariants.{Exchange, Store}
use Rattle.flit_model.specs.declared.calls.Call.{Call}
use Rattle.flit_model.specs.declared.calls.Call.TheVariants.{Remove}
use Rattle.flit_model.specs.declared.calls.Reply.{Reply}
use Rattle.flit_place.specs.Tags.{Place, dressed}
use Rattle.flit_pv.specs.declared.queues.Noted.{Noted}
use Rattle.flit_pv.specs.Exchanges.{HeldExchange, exchange_asks}
use Rattle.flit_pv.specs.Stores.{HeldStore, store_asks}
use Rattle.flit_pv.specs.declared.stores.Storing.TheVariants.{Writes}
use Rattle.flit_structure.specs.Meanings.{key_of, value_put}
use Rattle.flit_structure.specs.Lawful.{is_insert}
use Rattle.flit_rows.specs.Shares.{rows_in}
use Rattle.flit_runs.specs.Workings.{Exchanges}
use Rattle.flit_crew.specs.Heaps.{at_word}
use Rattle.flit_crew.proofs.Standing.{fresh_to_win}
use Rattle.flit_crew.specs.Machines.{Works, Fresh, deed_of, hand_in, ToWin, exchange_part, exchanges_now, machine_exchanges}
use Rattle.flit_crew.specs.Fillings.{Filling, ArePairs, AreStoring, FillsAt}
use Rattle.flit_crew.specs.Crews.{Who}
use Rattle.flit_list_steps.specs.declared.operations.Path.{Path}
use Rattle.flit_list_steps.specs.Operations.{At, Head, Next, Key, Confirming, Help, Row, Words, RowValue, Link as Link_phase, Mark, Tidy, Value, Ends, Rests}
use Rattle.flit_list_steps.specs.Steps.{row_at, own_row, to_row}
use Rattle.flit_list_heap.specs.Links.{link_held, row_of}
use Rattle.flit_list_heap.specs.Moves.{plain_link}
use Rattle.flit_list_heap.specs.Keeping.{ListHeap, IsLinked}
use Rattle.flit_list_heap.specs.Seeing.{IsNotMine}
use Rattle.flit_list_heap.proofs.Places.{next-place, key-place, value-place, last-row}
use Rattle.flit_list_laws.specs.Knowing.{row_after, HelpAt, LinkAt, MarkAt, TidyAt, Helps_to, Links_to, Marks_to, Tidies_to}
use Rattle.flit_list_laws.specs.ListAnatomy.{machine_at, effects_at, storing_at}
use Rattle.flit_list_laws.specs.ListCrew.{IsOfLists}
use Rattle.flit_list_limits.proofs.Resuming.{Own, row_is}
use Rattle.flit_marked_laws.specs.Marked.{is_remove}
use Rattle.flit_marked_laws.specs.ListMarks.{told_at}
use Rattle.flit_marked_laws.proofs.Writes.{IsWritten, written_or, writes_word, value_dressed, first_quiet, load_quiet, confirm_quiet, take_quiet, StoresNext, store_writes, ExchangesNow, WithdrawsNow, exchange_writes}

abbrev pub mark_in : ℕ → Bool
mark_in raw = (link_of (value_of raw)).mark

plain_mark_in : (raw : ℕ) (row : ℕ) → link_held raw ≡ plain_link row → mark_in raw ≡ false
plain_mark_in raw row e = ap (λ (k : Link). k.mark) e

removes_so : (c : Call) → c ≡ Remove (key_of c) → is_remove c ≡ true
removes_so c e = ap is_remove e

same_exchange : (a b c x y z : ℕ) → Exchange a b c ≡ Exchange x y z → (a ≡ x) × (b ≡ y) × (c ≡ z)
same_exchange a b c x y z e = (let i : a ≡ x = cc in i, let i : b ≡ y = cc in i, let i : c ≡ z = cc in i)

store_exchange : (v to a b c : ℕ) → Store v to ≡ Exchange a b c → ⊥
store_exchange v to a b c e = cc

exchange_store : (v to a b c : ℕ) → Exchange a b c ≡ Store v to → ⊥
exchange_store v to a b c e = cc

same_store : (a b x y : ℕ) → Store a b ≡ Store x y → (a ≡ x) × (b ≡ y)
same_store a b x y e = (let i : a ≡ x = cc in i, let i : b ≡ y = cc in i)

-- ---- the pair that comes next of one or two that are stored

one_stored : (first a : ℕ) (done rest : List ℕ) (next : Noted) (ready : List Noted) → a ∷ [] ≡ done ++ rest →
    ArePairs (first + length done) rest (next ∷ ready) → next.word ≡ first + 0
one_stored first a done [] next ready parts pairs = absurd pairs
one_stored first a [] (v ∷ vs) next ready parts pairs = pairs.0
one_stored first a (d ∷ []) (v ∷ vs) next ready parts pairs = absurd (cc)
one_stored first a (d ∷ x ∷ ds) (v ∷ vs) next ready parts pairs = absurd (cc)

two_stored : (first a b : ℕ) (done rest : List ℕ) (next : Noted) (ready : List Noted) → a ∷ b ∷ [] ≡ done ++ rest →
    ArePairs (first + length done) rest (next ∷ ready) → (next.word ≡ first + 0) ⊎ (value_of next.kept ≡ b)
two_stored first a b done [] next ready parts pairs = absurd pairs
two_stored first a b [] (v ∷ vs) next ready parts pairs = inl pairs.0
two_stored first a b (d ∷ []) (v ∷ vs) next ready parts pairs = inr (pairs.1 ∙ (let i : v ≡ b = cc in i))
two_stored first a b (d ∷ x ∷ []) (v ∷ vs) next ready parts pairs = absurd (cc)
two_stored first a b (d ∷ x ∷ y ∷ ds) (v ∷ vs) next ready parts pairs = absurd (cc)

next_key : (b r q : ℕ) → b + 2 * (q - 1) + 1 ≡ b + 2 * (r - 1) + 0 → ⊥
next_key b r q e = omega (arith, e)

next_value : (b n r q : ℕ) → 1 ≤ q → q ≤ n → b + 2 * (q - 1) + 1 ≡ b + 2 * n + (r - 1) + 0 → ⊥
next_value b n r q i j e = omega (arith, i, j, e)

next_next : (b r q : ℕ) → 1 ≤ r → 1 ≤ q → b + 2 * (r - 1) + 1 ≡ b + 2 * (q - 1) + 1 → r ≡ q
next_next b r q i j e = omega (arith, i, j, e)

unmarked_value : (r : ℕ) → ((0 * 2 ^ 24 + 4 * r + 2 * 0 + 0) % 2 == 1) ≡ false
unmarked_value r = ne_eqb ((0 * 2 ^ 24 + 4 * r + 2 * 0 + 0) % 2) 1 (omega arith)

name_with : (b : Bool) (name : ℕ) → b ≡ true → (if b then name else 0) ≡ name
name_with true name e = refl
name_with false name e = absurd (false≢true e)

module _ (l : Layout) (lists : IsOfLists l) (p : Place) (free : List ℕ) (s : State) (e : Event) (h k : ListHeap) (me you : Who) (call : Call)
    (reply : Reply) (path : Path) (row : ℕ) (real : 1 ≤ row) (last : row ≤ last_row_of l) where
  abbrev w : ℕ
  w = next_word l row

  abbrev Mine : At → Type 0
  Mine at = Own l p free s e h k me you call reply path at

  abbrev then_word : ℕ
  then_word = word_at (after s e) w

  -- by the Exchange by which a remove takes effect on the row its next word is marked
  pub record MarksIt (at : At) : Type 0 where
    pub effect : (effects_at at && machine_exchanges p (machine_at at)) ≡ true
    pub removes : is_remove call ≡ true
    pub told : told_at path at ≡ row
    pub by : l.values ≡ true → (link_of (value_of then_word)).by ≡ me.name
    pub from : ℕ
    pub to : ℕ
    pub event : e ≡ Exchange w from to
    pub won : word_at s w ≡ from

  abbrev pub Outcome : At → Type 0
  Outcome at = (value_of then_word ≡ value_of (word_at s w)) ⊎ ((mark_in then_word ≡ false) ⊎ MarksIt at)

  writes_so : IsWritten s e w → writes_word e ≡ true
  writes_so x = ⊎_elim (λ i. ap writes_word i) (λ i. ap writes_word i.1) x.how

  quiet : (at : At) → IsWritten s e w → writes_word e ≡ false → Outcome at
  quiet at x q = absurd (false≢true (sym q ∙ writes_so x))

  -- ---- exchanges

  pub record ExchangesIt (m : HeldExchange) : Type 0 where
    pub part : exchange_part m.at ≡ ToWin
    pub now : exchanges_now p m.at m ≡ true
    pub word : m.word ≡ w
    pub value : value_of then_word ≡ value_of m.to
    pub from : ℕ
    pub to : ℕ
    pub event : e ≡ Exchange w from to
    pub won : word_at s w ≡ from

  by_exchange : (at : At) (m : HeldExchange) → exchange_asks p m.at m ≡ Some e → IsWritten s e w → (ExchangesIt m → Outcome at) → Outcome at
  by_exchange at m q x goal = ⊎_elim exchanges withdraws (exchange_writes p m.at m e q (writes_so x))
    where
      exchanges : ExchangesNow p m.at m e → Outcome at
      exchanges y = ⊎_elim (λ i. absurd (store_exchange w x.to m.word y.old (dressed p.counted m.to) (sym i ∙ y.event)))
          (λ i. let same = same_exchange m.word y.old (dressed p.counted m.to) w i.0 x.to (sym y.event ∙ i.1) in
          goal (record {
            part = y.part;
            now = y.now;
            word = same.0;
            value = ap value_of (x.now ∙ sym same.2) ∙ value_dressed p.counted m.to;
            from = i.0;
            to = x.to;
            event = i.1;
            won = i.2;
          })) x.how

      withdraws : WithdrawsNow p m.at m e → Outcome at
      withdraws y = ⊎_elim (λ i. absurd (store_exchange w x.to m.word (dressed p.counted m.to) m.to (sym i ∙ y.event)))
          (λ i. let same = same_exchange m.word (dressed p.counted m.to) m.to w i.0 x.to (sym y.event ∙ i.1) in
          inl (ap value_of (x.now ∙ sym same.2) ∙ sym (value_dressed p.counted m.to) ∙ ap value_of same.1 ∙ ap value_of (sym i.2))) x.how

  -- a link with no mark
  plain : (at : At) (m : HeldExchange) (row_to : ℕ) → ExchangesIt m → link_held m.to ≡ plain_link row_to → Outcome at
  plain at m row_to x held = inr (inl (ap (λ v. (link_of v).mark) x.value ∙ ap (λ (z : Link). z.mark) held))

  -- ---- stores

  by_store : (at : At) (m : HeldStore) → store_asks m.at m ≡ Some e → IsWritten s e w → ((next : Noted) → m.at ≡ Writes next → next.word ≡ w →
      then_word ≡ next.kept → Outcome at) → Outcome at
  by_store at m q x goal =
      let y : StoresNext m.at e = store_writes m.at m e q (writes_so x) in
      ⊎_elim (λ i. let same = same_store w x.to y.next.word y.next.kept (sym i ∙ y.event) in goal y.next y.is (sym same.0) (x.now ∙ same.1))
      (λ i. absurd (store_exchange y.next.word y.next.kept w i.0 x.to (sym y.event ∙ i.1))) x.how

  storing_now : (f : Filling) (m : HeldStore) (next : Noted) → m.at ≡ Writes next → FillsAt l h f m.at m → AreStoring h f (next ∷ m.drafts.ready)
  storing_now f m next is fills = subst (λ x. FillsAt l h f x m) is fills

  words_outcome : (m : HeldStore) → Mine (Words m) → IsWritten s e w → Outcome (Words m)
  words_outcome m own x = by_store (Words m) m own.asks x (λ next is word kept.
      let f : Filling = storing_at l call path (Words m) in
      let a : AreStoring h f (next ∷ m.drafts.ready) = storing_now f m next is own.facts.filled in
      ⊎_elim
      (λ first. absurd (next_key l.buckets (own_row m.hand) row (sym (next-place l lists.kind row) ∙ sym word ∙ first
      ∙ ap (λ n. n + 0) (key-place l lists.kind (own_row m.hand)))))
      (λ value. inr (inl (ap mark_in kept ∙ ap (λ v. (link_of v).mark) value ∙ unmarked_value (row_at path))))
      (two_stored f.first (key_of call) (to_row (row_at path)) a.done a.rest next m.drafts.ready a.parts a.to_store))

  value_outcome : (m : HeldStore) → Mine (RowValue m) → IsWritten s e w → Outcome (RowValue m)
  value_outcome m own x = by_store (RowValue m) m own.asks x (λ next is word kept.
      let f : Filling = storing_at l call path (RowValue m) in
      let a : AreStoring h f (next ∷ m.drafts.ready) = storing_now f m next is own.facts.filled in
      absurd (next_value l.buckets l.rows (own_row m.hand) row real (subst (λ n. row ≤ n) (last-row l lists.kind) last)
      (sym (next-place l lists.kind row) ∙ sym word ∙ one_stored f.first (value_put call) a.done a.rest next m.drafts.ready a.parts a.to_store
      ∙ ap (λ n. n + 0) (value-place l lists.kind (own_row m.hand)))))

  -- ---- the mark

  mark_outcome : (m : HeldExchange) → Mine (Mark m) → IsWritten s e w → Outcome (Mark m)
  mark_outcome m own x = by_exchange (Mark m) m own.asks x (λ y.
      let f = own.knows in
      let marks : Marks_to l h me f.walk f.next m = subst (λ z. MarkAt l h me f.walk f.next m z) y.part f.at.3 in
      let found : row ≡ row_after f.walk = next_next l.buckets row (row_after f.walk) real marks.next.next.some
      (sym (next-place l lists.kind row) ∙ sym y.word ∙ marks.aim.word ∙ next-place l lists.kind (row_after f.walk)) in
      inr (inr (record {
        effect = y.now;
        removes = ap is_remove own.call ∙ ap is_remove f.at.1;
        told = row_is l path f.walk f.at.0.walk ∙ sym found;
        by = λ values. ap (λ v. (link_of v).by) y.value ∙ ap (λ (z : Link). z.by) marks.to ∙ name_with l.values me.name values;
        from = y.from;
        to = y.to;
        event = y.event;
        won = y.won;
      })))

  help_outcome : (m : HeldExchange) → Mine (Help m) → IsWritten s e w → Outcome (Help m)
  help_outcome m own x = by_exchange (Help m) m own.asks x (λ y.
      let f = own.knows in
      let helps : Helps_to l h me f.walk f.next m = subst (λ z. HelpAt l h me f.walk f.next m z) y.part f.at.2 in
      plain (Help m) m (row_of (bare_of f.next.raw)) y helps.to)

  link_outcome : (m : HeldExchange) → Mine (Link_phase m) → IsWritten s e w → Outcome (Link_phase m)
  link_outcome m own x = by_exchange (Link_phase m) m own.asks x (λ y.
      let f = own.knows in
      let links : Links_to l h me f.walk m = subst (λ z. LinkAt l h me f.walk m z) y.part f.at.2 in
      plain (Link_phase m) m links.row y links.to)

  tidy_outcome : (m : HeldExchange) → Mine (Tidy m) → IsWritten s e w → Outcome (Tidy m)
  tidy_outcome m own x = by_exchange (Tidy m) m own.asks x (λ y.
      let f = own.knows in
      let tidies : Tidies_to l h me f.walk f.next m = subst (λ z. TidyAt l h me f.walk f.next m z) y.part f.at.1 in
      plain (Tidy m) m (row_of (bare_of f.next.raw)) y tidies.to)

  by_phase : (at : At) → Mine at → IsWritten s e w → Outcome at
  by_phase (Head m) own x = quiet (Head m) x (load_quiet m.at m e own.asks)
  by_phase (Next m) own x = quiet (Next m) x (load_quiet m.at m e own.asks)
  by_phase (Key m) own x = quiet (Key m) x (load_quiet m.at m e own.asks)
  by_phase (Confirming goal which m) own x = quiet (Confirming goal which m) x (confirm_quiet p m.at m e own.asks)
  by_phase (Help m) own x = help_outcome m own x
  by_phase (Row m) own x = quiet (Row m) x (take_quiet m.at e own.asks)
  by_phase (Words m) own x = words_outcome m own x
  by_phase (RowValue m) own x = value_outcome m own x
  by_phase (Link_phase m) own x = link_outcome m own x
  by_phase (Mark m) own x = mark_outcome m own x
  by_phase (Tidy m) own x = tidy_outcome m own x
  by_phase (Value m) own x = quiet (Value m) x (load_quiet m.at m e own.asks)
  by_phase (Ends m) own x = quiet (Ends m) x (first_quiet m.fence.hand.queue e own.asks)
  by_phase (Rests hand) own x = absurd (none-some e own.asks)

  pub outcome : (at : At) → IsAllowed s e → Mine at → Outcome at
  outcome at allowed own = ⊎_elim (λ same. inl (ap value_of same)) (λ x. by_phase at own x) (written_or s e w allowed)

-- ---- the row that is told

module _ (l : Layout) (p : Place) (free : List ℕ) (s : State) (e : Event) (h k : ListHeap) (me you : Who) (call : Call) (reply : Reply) (path : Path)
    (word from to : ℕ) (event : e ≡ Exchange word from to) where
  abbrev Own_at : At → Type 0
  Own_at at = Own l p free s e h k me you call reply path at

  abbrev Effects : At → Type 0
  Effects at = (effects_at at && machine_exchanges p (machine_at at)) ≡ true

  exchanging : (m : HeldExchange) → exchange_asks p m.at m ≡ Some e → exchanges_now p m.at m ≡ true →
      (exchange_part m.at ≡ ToWin) × (word ≡ m.word) × (value_of to ≡ value_of m.to)
  exchanging m q now = ⊎_elim (λ (x : ExchangesNow p m.at m e).
      let same = same_exchange word from to m.word x.old (dressed p.counted m.to) (sym event ∙ x.event) in
      (x.part, same.0, ap value_of same.2 ∙ value_dressed p.counted m.to))
      (λ (x : WithdrawsNow p m.at m e). absurd (false≢true (sym x.later ∙ now)))
      (exchange_writes p m.at m e q (ap writes_word event))

  put_not : (c : Call) → c ≡ Remove (key_of c) → is_insert c ≡ false
  put_not c i = ap is_insert i

  pub told_links : (at : At) → Own_at at → Effects at → is_insert call ≡ true → (link_of (value_of to)).row ≡ told_at path at
  told_links (Head m) own effect put = absurd (false≢true effect)
  told_links (Next m) own effect put = absurd (false≢true effect)
  told_links (Key m) own effect put = absurd (false≢true effect)
  told_links (Confirming goal which m) own effect put = absurd (false≢true effect)
  told_links (Help m) own effect put = absurd (false≢true effect)
  told_links (Row m) own effect put = absurd (false≢true effect)
  told_links (Words m) own effect put = absurd (false≢true effect)
  told_links (RowValue m) own effect put = absurd (false≢true effect)
  told_links (Link_phase m) own effect put = ap (λ v. (link_of v).row) (exchanging m own.asks effect).2
  told_links (Mark m) own effect put = absurd (false≢true (sym (put_not me.call own.knows.at.1) ∙ ap is_insert (sym own.call) ∙ put))
  told_links (Tidy m) own effect put = absurd (false≢true effect)
  told_links (Value m) own effect put = absurd (false≢true effect)
  told_links (Ends m) own effect put = absurd (false≢true effect)
  told_links (Rests hand) own effect put = absurd (false≢true effect)

  -- the row that a remove is about to mark is linked, and doesn't have this worker's mark
  pub record Marks_told (at : At) : Type 0 where
    pub word_is : word ≡ next_word l (told_at path at)
    pub mark : (link_of (value_of to)).mark ≡ true
    pub by : l.values ≡ true → (link_of (value_of to)).by ≡ me.name
    pub linked : IsLinked l h (told_at path at)
    pub mine : IsNotMine l h me.name (told_at path at)

  marks_told : (m : HeldExchange) → Own_at (Mark m) → Effects (Mark m) → Marks_told (Mark m)
  marks_told m own effect =
      let x = exchanging m own.asks effect in
      let f = own.knows in
      let marks : Marks_to l h me f.walk f.next m = subst (λ z. MarkAt l h me f.walk f.next m z) x.0 f.at.3 in
      let row : row_after f.walk ≡ row_at path = sym (row_is l path f.walk f.at.0.walk) in
      record {
        word_is = x.1 ∙ marks.aim.word ∙ ap (next_word l) row;
        mark = ap (λ v. (link_of v).mark) x.2 ∙ ap (λ (z : Link). z.mark) marks.to;
        by = λ values. ap (λ v. (link_of v).by) x.2 ∙ ap (λ (z : Link). z.by) marks.to ∙ name_with l.values me.name values;
        linked = subst (IsLinked l h) row marks.next.next.saw.link;
        mine = subst (IsNotMine l h me.name) row marks.mine;
      }

  pub told_marks : (at : At) → Own_at at → Effects at → is_insert call ≡ false → Marks_told at
  told_marks (Head m) own effect put = absurd (false≢true effect)
  told_marks (Next m) own effect put = absurd (false≢true effect)
  told_marks (Key m) own effect put = absurd (false≢true effect)
  told_marks (Confirming goal which m) own effect put = absurd (false≢true effect)
  told_marks (Help m) own effect put = absurd (false≢true effect)
  told_marks (Row m) own effect put = absurd (false≢true effect)
  told_marks (Words m) own effect put = absurd (false≢true effect)
  told_marks (RowValue m) own effect put = absurd (false≢true effect)
  told_marks (Link_phase m) own effect put = absurd (false≢true (sym put ∙ ap is_insert own.call ∙ own.knows.at.0))
  told_marks (Mark m) own effect put = marks_told m own effect
  told_marks (Tidy m) own effect put = absurd (false≢true effect)
  told_marks (Value m) own effect put = absurd (false≢true effect)
  told_marks (Ends m) own effect put = absurd (false≢true effect)
  told_marks (Rests hand) own effect put = absurd (false≢true effect)

  -- the row that an insert is about to link is its own, and its next word has no mark
  pub record Links_told (at : At) : Type 0 where
    pub fresh : deed_of (machine_at at) ≡ Fresh
    pub own : rows_in (hand_in (machine_at at)).spare ≡ told_at path at ∷ []
    pub plain : mark_in (at_word h (next_word l (told_at path at))) ≡ false
    pub exchange : HeldExchange
    pub is : machine_at at ≡ Works (Exchanges exchange)

  link_told : (m : HeldExchange) → Own_at (Link_phase m) → Effects (Link_phase m) → Links_told (Link_phase m)
  link_told m own effect =
      let part = (exchanging m own.asks effect).0 in
      let links : Links_to l h me own.knows.walk m = subst (λ z. LinkAt l h me own.knows.walk m z) part own.knows.at.2 in
      let row : links.row ≡ told_at path (Link_phase m) = sym (ap (λ (z : Link). z.row) links.to) in
      record {
        fresh = fresh_to_win m.at m part;
        own = links.own ∙ ap (λ r. r ∷ []) row;
        plain = ap (λ r. mark_in (at_word h (next_word l r))) (sym row) ∙ ap (λ v. (link_of v).mark) links.next ∙ unmarked_value (row_after own.knows.walk);
        exchange = m;
        is = refl;
      }

  pub told_link : (at : At) → Own_at at → Effects at → is_insert call ≡ true → Links_told at
  told_link (Head m) own effect put = absurd (false≢true effect)
  told_link (Next m) own effect put = absurd (false≢true effect)
  told_link (Key m) own effect put = absurd (false≢true effect)
  told_link (Confirming goal which m) own effect put = absurd (false≢true effect)
  told_link (Help m) own effect put = absurd (false≢true effect)
  told_link (Row m) own effect put = absurd (false≢true effect)
  told_link (Words m) own effect put = absurd (false≢true effect)
  told_link (RowValue m) own effect put = absurd (false≢true effect)
  told_link (Link_phase m) own effect put = link_told m own effect
  told_link (Mark m) own effect put = absurd (false≢true (sym (put_not me.call own.knows.at.1) ∙ ap is_insert (sym own.call) ∙ put))
  told_link (Tidy m) own effect put = absurd (false≢true effect)
  told_link (Value m) own effect put = absurd (false≢true effect)
  told_link (Ends m) own effect put = absurd (false≢true effect)
  told_link (Rests hand) own effect put = absurd (false≢true effect)
