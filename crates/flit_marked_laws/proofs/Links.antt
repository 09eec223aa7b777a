-- Since an insert's Exchange was asked that links a row: while none is won the row isn't linked, and its next word has no mark;
-- then it was linked by the update of the first that is.
use Rattle.std.proofs.Common.{◌≡◌, ◌⊎◌, inl, inr, ⊎_elim, ℕ, ◌+◌, ◌<◌, ◌≤◌, ◌==◌, ◌&&◌, nat_lt, Bool, true, false, cond, eqb, List, [], ◌∷◌, ◌++◌, length, Option, Some, None, refl, sym, ◌∙◌, ap, subst, arith, if◌then◌else◌}
use Rattle.std.proofs.lemmas.Bool.{false≢true, eqb-true, eq-eqb}
use Rattle.std.proofs.lemmas.Option.{none-some, same_Some}
use Rattle.std.specs.Prelude.{Contains}
use Rattle.std.specs.FinMap as fin
use Rattle.flit_words.specs.declared.layouts.Layout.{Layout}
use Rattle.flit_words.specs.declared.layouts.Kind.{Kind}
use Rattle.flit_words.specs.declared.layouts.Kind.TheVariants.{List as List_kind, Hash, Tree as Tree_kind}
use Rattle.flit_words.specs.Layouts.{last_row_of, words_of, head_of_key, parts_of}
use Rattle.flit_words.specs.Words.{value_of, bare_of, version_of}
use Rattle.flit_words.specs.Links.{link_of}
use Rattle.flit_model.specs.Lists.{key_in, next_word, is_removed}
use Rattle.flit_model.specs.States.{State, word_at, shadow_at}
use Rattle.flit_model.specs.Effects.{after}
use Rattle.flit_model.specs.Settling.{Progress, progress_after, takes_effect, settles}
use Rattle.flit_model.specs.CrashImages.{write_back}
use Rattle.flit_model.specs.declared.events.Event.{Event}
use Rattle.flit_model.specs.declared.events.Event.TheVariants.{Load, ReadTag, Raise, Lower, Exchange, Persist, Store, Draw}
use Rattle.flit_model.specs.declared.calls.Call.{Call}
use Rattle.flit_model.specs.declared.calls.Entry.{Entry}
use Rattle.flit_model.proofs.Elements.{all_contained}
use Rattle.flit_model.proofs.Membership.{contains_first}
use Rattle.flit_place.specs.Tags.{Place}
use Rattle.flit_place.proofs.WordTags.{version-bare}
use Rattle.flit_runs.specs.Rules.{is_exchange}
use Rattle.flit_runs.proofs.Reading.{had-now}
use Rattle.flit_structure.specs.declared.workers.Doing.{Doing}
use Rattle.flit_structure.specs.declared.workers.Doing.TheVariants.{Idle, Busy, Evicting}
use Rattle.flit_structure.specs.declared.workers.Worker.{Worker}
use Rattle.flit_structure.specs.Moments.{Moment, busy, update_of, with_workers}
use Rattle.flit_structure.specs.Meanings.{Meaning, moment_after, moment_written_back, asked_by, asks, effect_in, effect_by, Happens, hiring, reordering, beginning, finishing, evicting, evicted, making, writing_back}
use Rattle.flit_structure.specs.Lawful.{HoldsWith, is_insert}
use Rattle.flit_structure.proofs.Growing.{get_put, get_gone}
use Rattle.flit_crew.specs.Machines.{machine_asks}
use Rattle.flit_crew.specs.Heaps.{heap_of, at_word, IsWordOf}
use Rattle.flit_crew.specs.Anatomies.{own}
use Rattle.flit_crew.specs.Crews.{Crew, Holds}
use Rattle.flit_crew.proofs.Standing.{own_fresh}
use Rattle.flit_crew.proofs.WritingBack.{word_bare}
use Rattle.flit_list_steps.specs.Operations.{HeldOp}
use Rattle.flit_list_heap.specs.Links.{LinkWord, Head, place_of, row_of}
use Rattle.flit_list_heap.specs.Chained.{is_put, Fresh}
use Rattle.flit_list_heap.specs.Paths.{Follows}
use Rattle.flit_list_heap.specs.Keeping.{ListHeap, IsLinked, IsLinkAt, rows_at, word_in, shadow_in, entry_in}
use Rattle.flit_list_heap.proofs.Places.{At, pool_from}
use Rattle.flit_list_laws.specs.ListAnatomy.{list_anatomy}
use Rattle.flit_list_laws.specs.ListCrew.{list_crew, IsOfLists}
use Rattle.flit_list_laws.proofs.Keeping.{lists_keep}
use Rattle.flit_list_laws.proofs.Raws.{value_bare}
use Rattle.flit_list_structure.specs.ListStructure.{lists}
use Rattle.flit_list_structure.proofs.Lawfulness.{list_lawful}
use Rattle.flit_marked_laws.specs.Marked.{is_remove, links, if_won, update_in, update_on, made_by, or_first, Since, asked, further}
use Rattle.flit_marked_laws.specs.ListMarks.{told_row}
use Rattle.flit_marked_laws.proofs.Marking.{MarksIt, outcome, mark_in}
use Rattle.flit_marked_laws.proofs.Naming as naming
use Rattle.flit_marked_laws.proofs.Strengthening.{Both, holds_so}
use Rattle.flit_marked_laws.proofs.Ties.{kept_now, later_now, knows_now, waits_link, put_some, IsLinkTied, links_besides}
use Rattle.flit_marked_laws.proofs.Lasting.{HoldsStronger, lasts}
use Rattle.flit_marked_laws.proofs.Since.{IsWon, is_won, won_word, won_waits, TakesEffect, takes_effect_on, effect_so, raw_leads, shadow_marked}
use Rattle.flit_marked_laws.proofs.Marks.{no_put}
use Rattle.flit_marked_laws.proofs.Shadows.{Shadow_goes, shadow_goes, persist_goes}
use Rattle.flit_marked_laws.proofs.Paths.{path_linked}
use Rattle.flit_marked_laws.proofs.Resting.{own_rests}

two_parts : (k : Kind) → 1 < parts_of k
two_parts List_kind = omega arith
two_parts Hash = omega arith
two_parts Tree_kind = omega arith

-- ---- where an update waits after an event: it waited there, or the event is the Exchange that was won with it

record IsNew (m : State) (e : Event) (effect : Option Entry) (w : ℕ) (d : Entry) : Type 0 where
  from : ℕ
  to : ℕ
  event : e ≡ Exchange w from to
  found : word_at m w ≡ from
  update : effect ≡ Some d

waited_or : (p : Progress) (m : State) (e : Event) (effect : Option Entry) (w : ℕ) (d : Entry) → fin.get (progress_after p m e effect).waiting w ≡ Some d →
    (fin.get p.waiting w ≡ Some d) ⊎ IsNew m e effect w d
waited_or p m (Load word) effect w d q = inl q
waited_or p m (ReadTag slot) effect w d q = inl q
waited_or p m (Raise slot) effect w d q = inl q
waited_or p m (Lower slot) effect w d q = inl q
waited_or p m (Store word new) effect w d q = inl q
waited_or p m Draw effect w d q = inl q
waited_or p m (Exchange word from to) effect w d q = by_test (word_at m word == from) refl q
  where
    by_effect : word_at m word ≡ from → (o : Option Entry) → effect ≡ o → fin.get (takes_effect p word o).waiting w ≡ Some d →
        (fin.get p.waiting w ≡ Some d) ⊎ IsNew m (Exchange word from to) effect w d
    by_effect found None is k = inl k
    by_effect found (Some y) is k = by_word (eqb w word) refl (sym (get_put p.waiting word y w) ∙ k)
      where
        by_word : (t : Bool) → eqb w word ≡ t → cond t (Some y) (fin.get p.waiting w) ≡ Some d →
            (fin.get p.waiting w ≡ Some d) ⊎ IsNew m (Exchange word from to) effect w d
        by_word true same k = let at : w ≡ word = eqb-true w word same in
            inr (record { from = from; to = to; event = ap (λ v. Exchange v from to) (sym at); found = ap (word_at m) at ∙ found; update = is ∙ k })
        by_word false same k = inl k

    by_test : (t : Bool) → (word_at m word == from) ≡ t → fin.get (if t then takes_effect p word effect else p).waiting w ≡ Some d →
        (fin.get p.waiting w ≡ Some d) ⊎ IsNew m (Exchange word from to) effect w d
    by_test true same k = by_effect (eqb-true (word_at m word) from same) effect refl k
    by_test false same k = inl k
waited_or p m (Persist word kept) effect w d q = inl (by_test (nat_lt (shadow_at m word) kept) q)
  where
    by_entry : (o : Option Entry) → fin.get (settles p word o).waiting w ≡ Some d → fin.get p.waiting w ≡ Some d
    by_entry None k = k
    by_entry (Some y) k = by_word (eqb w word) (sym (get_gone p.waiting word w) ∙ k)
      where
        by_word : (t : Bool) → cond t None (fin.get p.waiting w) ≡ Some d → fin.get p.waiting w ≡ Some d
        by_word true k = absurd (none-some d k)
        by_word false k = k

    by_test : (t : Bool) → fin.get (if t then settles p word (fin.get p.waiting word) else p).waiting w ≡ Some d → fin.get p.waiting w ≡ Some d
    by_test true k = by_entry (fin.get p.waiting word) k
    by_test false k = k

module _ (l : Layout) (p : Place) (free : List ℕ) (chains : IsOfLists l) (row : ℕ) where
  abbrev S : Meaning HeldOp
  S = lists l p free

  abbrev C : Crew (ℕ → Bool) HeldOp
  C = list_crew l p free

  abbrev Tied : Entry → ListHeap → Type 0
  Tied x h = IsLinkTied l p free row x h

  abbrev heap_at : (M : Moment HeldOp) → Holds C l p free M → ListHeap
  heap_at M k = heap_of M k.given k.ghost

  -- the row is one of the pool that no insert has linked, and its next word has no mark; or an update has linked it
  pub record IsApart (M : Moment HeldOp) : Type 0 where
    pub holds : S.holds M
    pub pool : Contains free row
    pub unlinked : (k : Holds C l p free M) → Contains k.given row → ⊥
    pub word : is_removed l M.state.words row ≡ false
    pub shadow : is_removed l M.state.shadows row ≡ false

  pub record IsLinkedNow (M : Moment HeldOp) (x : Entry) : Type 0 where
    pub holds : S.holds M
    pub tied : HoldsStronger l p free chains (Tied x) M

  abbrev pub Told : Moment HeldOp → Option Entry → Type 0
  Told M None = IsApart M
  Told M (Some x) = IsLinkedNow M x

  pub real : (M : Moment HeldOp) → S.holds M → Contains free row → 1 ≤ row
  real M holds pool = all_contained (λ r. 1 ≤ r) free row (pool_from free holds.0.pool.rising) pool

  pub last : (M : Moment HeldOp) → S.holds M → Contains free row → row ≤ last_row_of l
  last M holds pool = all_contained (λ r. r ≤ last_row_of l) free row holds.0.pool.fit pool

  pub not_linked : (M : Moment HeldOp) → IsApart M → (k : Holds C l p free M) → IsLinked l (heap_at M k) row → ⊥
  not_linked M a k (inl reached) = k.kept.apart row a.pool reached
  not_linked M a k (inr given) = a.unlinked k given

  -- ---- the row stays apart

  abbrev Old : Moment HeldOp → Moment HeldOp → Type 0
  Old M N = (w : ℕ) (d : Entry) → fin.get N.progress.waiting w ≡ Some d → is_insert d.call ≡ true → (link_of (value_of (word_at N.state w))).row ≡ row →
      (fin.get M.progress.waiting w ≡ Some d) × (value_of (word_at N.state w) ≡ value_of (word_at M.state w))

  still : (M N : Moment HeldOp) → IsApart M → (k : Holds C l p free N) → ((w : ℕ) → Shadow_goes l p free chains M.state N.state w) → Old M N →
      is_removed l N.state.shadows row ≡ false → Contains k.given row → ⊥
  still M N a k shadows old unmarked given = ⊎_elim settled fresh (k.kept.chained.known row (inr given))
    where
      hM : ListHeap
      hM = heap_at M a.holds.0

      hN : ListHeap
      hN = heap_at N k

      word_then : (w : ℕ) → at_word hN w ≡ bare_of (word_at N.state w)
      word_then w = word_bare N.state.words w

      word_before : (w : ℕ) → at_word hM w ≡ bare_of (word_at M.state w)
      word_before w = word_bare M.state.words w

      either : (y : LinkWord) → IsLinkAt l hM y →
          (row_of (shadow_in l hN y) ≡ row_of (shadow_in l hM y)) ⊎ (row_of (shadow_in l hN y) ≡ row_of (word_in l hM y))
      either y link = ⊎_elim (λ e. inl (ap row_of e)) (λ e. inr (ap row_of e ∙ ap row_of (sym (word_before (place_of l y))))) (shadows (place_of l y))

      settled : k.ghost row ≡ true → ⊥
      settled s =
          let g : ℕ = head_of_key l (key_in l hN.words row) in
          let b = k.kept.chained.reach g (k.kept.chained.buckets (key_in l hN.words row)) in
          not_linked M a a.holds.0 (path_linked l free hM a.holds.0.kept (λ y. row_of (shadow_in l hN y)) either hN (Head g) b.rows (λ y. refl)
          (k.kept.chained.buckets (key_in l hN.words row)) b.path row
          (b.whole row s refl (sym (shadow_marked l N k.given k.ghost row) ∙ unmarked)))

      zero_not : (r n : ℕ) → 1 ≤ r → n ≡ r → n ≡ 0 → ⊥
      zero_not r n i e z = omega (arith, i, e, z)

      fresh : Fresh (rows_at l hN) (word_in l hN) (entry_in l hN) row → ⊥
      fresh f =
          let w : ℕ = place_of l f.word in
          let d = put_some l p free (entry_in l hN f.word) f.put in
          let o = old w d.0 d.1 (ap is_put (sym d.1) ∙ f.put) (raw_leads (word_at N.state w) ∙ ap row_of (sym (word_then w)) ∙ f.leads) in
          let node : At l free hM a.holds.0.kept w = waits_link l p free hM a.holds.0.kept w d.0 o.0 in
          let leads : row_of (word_in l hM node.node) ≡ row = ap (λ v. row_of (at_word hM v)) node.here ∙ ap row_of (word_before w)
          ∙ sym (raw_leads (word_at M.state w)) ∙ ap (λ v. (link_of v).row) (sym o.1) ∙ raw_leads (word_at N.state w) ∙ ap row_of (sym (word_then w))
          ∙ f.leads in
          ⊎_elim (λ z. zero_not row (row_of (word_in l hM node.node)) (real M a.holds a.pool) leads z)
          (λ (g : Follows (rows_at l hM) node.node (row_of (word_in l hM node.node))). not_linked M a a.holds.0 (subst (IsLinked l hM) leads g.linked))
          (a.holds.0.kept.chained.word_form node.node node.link).leads

  -- where nothing of the machine changes
  quiet : (M N : Moment HeldOp) → N.state ≡ M.state → N.progress ≡ M.progress → S.holds N → IsApart M → IsApart N
  quiet M N same made holds a = record {
    holds = holds;
    pool = a.pool;
    unlinked = λ k. still M N a k (λ w. inl (ap (λ s. shadow_at s w) same))
        (λ w d q put leads. (ap (λ (x : Progress). fin.get x.waiting w) (sym made) ∙ q, ap (λ s. value_of (word_at s w)) same)) unmarked;
    word = ap (λ s. is_removed l s.words row) same ∙ a.word;
    shadow = unmarked;
  }
    where
      unmarked : is_removed l N.state.shadows row ≡ false
      unmarked = ap (λ s. is_removed l s.shadows row) same ∙ a.shadow

  pub mark_bare : (raw : ℕ) → mark_in (bare_of raw) ≡ mark_in raw
  mark_bare raw = ap (λ v. (link_of v).mark) (value_bare raw)

  shadow_stays : (M : Moment HeldOp) (t : State) → IsApart M → Shadow_goes l p free chains M.state t (next_word l row) → is_removed l t.shadows row ≡ false
  shadow_stays M t a goes = ⊎_elim (λ e. ap mark_in e ∙ a.shadow) (λ e. ap mark_in e ∙ mark_bare (word_at M.state (next_word l row)) ∙ a.word) goes

  -- ---- the Exchange is asked

  module _ (M : Moment HeldOp) (a : List (Worker HeldOp)) (name number : ℕ) (op : HeldOp) (call : Call) (begun : Option ℕ) (b : List (Worker HeldOp))
      (x : Entry) (holds : HoldsWith S M a (busy name number op call begun) b) (on : TakesEffect S told_row links row name number op call x) where
    abbrev N : Moment HeldOp
    N = with_workers M (a ++ busy name number op call begun ∷ b)

    e : (word : ℕ) × (from : ℕ) × (to : ℕ) × (S.asked op ≡ Some (Exchange word from to)) × (version_of to ≡ version_of from + 1)
    e = (list_lawful l p free chains).effects M a name number op call begun b on.effect holds

    own_has : (k : Holds C l p free N) → Contains (own (list_anatomy l p free) op) row
    own_has k =
        let m = naming.links_so l p free chains M a name number op call begun b e.0 e.1 e.2 on.effect on.such_is e.3 (k, holds.1) in
        subst (λ rs. Contains rs row) (sym (own_fresh (list_anatomy l p free) op m.fresh ∙ m.own))
        (subst (Contains (told_row op ∷ [])) on.row_is (contains_first (told_row op) []))

    own_row : (k : Holds C l p free N) → Contains free row × (Contains k.given row → ⊥)
    own_row k = (naming.event l p free chains M a name number op call begun b (Exchange e.0 e.1 e.2) e.3 (k, holds.1)).own_rows row (own_has k)

    begins : IsApart N
    begins =
        let m = naming.links_so l p free chains M a name number op call begun b e.0 e.1 e.2 on.effect on.such_is e.3 holds in
        let w : ℕ = next_word l row in
        let plain : mark_in (at_word (heap_at N holds.0) w) ≡ false = ap (λ r. mark_in (at_word (heap_at N holds.0) (next_word l r))) (sym on.row_is)
        ∙ m.plain in
        let rests : at_word (heap_at N holds.0) w ≡ shadow_at M.state w =
        own_rests C l p free (lists_keep.keeps l p free chains) M a name number op call begun b holds.0 m.exchange m.is
        (ap is_exchange (ap (machine_asks p) (sym m.is) ∙ e.3)) row w (own_has holds.0) (next_of_row row) in
        record {
          holds = holds;
          pool = (own_row holds.0).0;
          unlinked = λ k. (own_row k).1;
          word = sym (mark_bare (word_at M.state w)) ∙ ap mark_in (sym (word_bare M.state.words w)) ∙ plain;
          shadow = ap mark_in (sym rests) ∙ plain;
        }
      where
        next_of_row : (r : ℕ) → IsWordOf l r (next_word l r)
        next_of_row r = inl (1, two_parts l.kind, refl)

  -- ---- an event

  module _ (M : Moment HeldOp) (a : List (Worker HeldOp)) (u : Worker HeldOp) (b : List (Worker HeldOp)) (e : Event) (q : asked_by S u ≡ Some e)
      (apart : IsApart (with_workers M (a ++ u ∷ b))) where
    abbrev B : Moment HeldOp
    B = with_workers M (a ++ u ∷ b)

    abbrev N_after : Moment HeldOp
    N_after = moment_after S M e a u b

    word_stays : is_removed l (after M.state e).words row ≡ false
    word_stays = by_doing u.name u.number u.doing q apart
      where
        by_doing : (name number : ℕ) (d : Doing HeldOp) → asks S d ≡ Some e →
            IsApart (with_workers M (a ++ (record { name = name; number = number; doing = d }) ∷ b)) → is_removed l (after M.state e).words row ≡ false
        by_doing name number (Idle hand) asks_it k = absurd (none-some e asks_it)
        by_doing name number (Evicting m) asks_it k = ap (λ ws. is_removed l ws row) (naming.evict_leaves l p free chains M.state m.at m e asks_it) ∙ k.word
        by_doing name number (Busy op call begun) asks_it k =
            let on = naming.event l p free chains M a name number op call begun b e asks_it k.holds in
            ⊎_elim (λ same. ap (λ v. (link_of v).mark) same ∙ k.word) (λ x. ⊎_elim (λ none. none) marks x)
            (outcome l chains p free M.state e (naming.before l p free chains M a name number op call begun b e asks_it k.holds)
            (naming.behind l p free chains M a name number op call begun b e asks_it k.holds)
            (naming.me l p free chains M a name number op call begun b e asks_it k.holds)
            (naming.you l p free chains M a name number op call begun b e asks_it k.holds) op.call op.reply op.path row
            (real _ k.holds k.pool) (last _ k.holds k.pool) op.at
            ((list_lawful l p free chains).allowed M a (busy name number op call begun) b e asks_it k.holds) on)
          where
            marks : MarksIt l chains p free M.state e (naming.before l p free chains M a name number op call begun b e asks_it k.holds)
                (naming.behind l p free chains M a name number op call begun b e asks_it k.holds)
                (naming.me l p free chains M a name number op call begun b e asks_it k.holds)
                (naming.you l p free chains M a name number op call begun b e asks_it k.holds) op.call op.reply op.path row
                (real (with_workers M (a ++ busy name number op call begun ∷ b)) k.holds k.pool)
                (last (with_workers M (a ++ busy name number op call begun ∷ b)) k.holds k.pool) op.at → is_removed l (after M.state e).words row ≡ false
            marks m =
                let asks_exchange : S.asked op ≡ Some (Exchange (next_word l row) m.from m.to) = asks_it ∙ ap Some m.event in
                let so = naming.marks_so l p free chains M a name number op call begun b (next_word l row) m.from m.to m.effect
                (no_put call (ap is_remove (sym (naming.event l p free chains M a name number op call begun b e asks_it k.holds).call) ∙ m.removes))
                asks_exchange k.holds in
                absurd (not_linked (with_workers M (a ++ busy name number op call begun ∷ b)) k k.holds.0
                (subst (IsLinked l (heap_at (with_workers M (a ++ busy name number op call begun ∷ b)) k.holds.0)) m.told so.linked))

    shadow_then : (w : ℕ) → Shadow_goes l p free chains M.state (after M.state e) w
    shadow_then w = shadow_goes l p free chains M a u b e w q apart.holds

    none_won : if_won M.state e (update_on S told_row links row u) ≡ None → Old B N_after
    none_won none w d got put leads = ⊎_elim old (λ x. absurd (new x)) (waited_or M.progress M.state e (effect_by S u) w d got)
      where
        old : fin.get M.progress.waiting w ≡ Some d →
            (fin.get M.progress.waiting w ≡ Some d) × (value_of (word_at (after M.state e) w) ≡ value_of (word_at M.state w))
        old was =
            let ahead = ((list_lawful l p free chains).waits B w d apart.holds was).0 in
            let below : w < words_of l = subst (λ n. w < n) ((list_lawful l p free chains).sized B apart.holds).shadows ahead.within in (
              was,
              ⊎_elim (λ same. sym (value_bare (word_at (after M.state e) w)) ∙ ap value_of same ∙ value_bare (word_at M.state w))
                  (λ rests. absurd (apart_now (version_of (word_at M.state w)) (version_of (shadow_at M.state w))
                  (sym (version-bare (word_at M.state w)) ∙ ap version_of rests)
                  (eqb-true (version_of (word_at M.state w)) (version_of (shadow_at M.state w) + 1)
                  ahead.ahead)))
                  ((list_lawful l p free chains).replaces M a u b e w q apart.holds below),
            )
          where
            apart_now : (m n : ℕ) → m ≡ n → m ≡ n + 1 → ⊥
            apart_now m n i j = omega (arith, i, j)

        new : IsNew M.state e (effect_by S u) w d → ⊥
        new x = by_doing u.name u.number u.doing q apart.holds none x.update
          where
            by_doing : (name number : ℕ) (y : Doing HeldOp) → asks S y ≡ Some e → HoldsWith S M a (record { name = name; number = number; doing = y }) b →
                if_won M.state e (update_in S told_row links row name number y) ≡ None → effect_in S name number y ≡ Some d → ⊥
            by_doing name number (Idle hand) asks_it hs never is = none-some d is
            by_doing name number (Evicting m) asks_it hs never is = none-some d is
            by_doing name number (Busy op call begun) asks_it hs never is = by_effect (S.effect op) refl is
              where
                by_effect : (t : Bool) → S.effect op ≡ t → (if t then Some (update_of name number call) else None) ≡ Some d → ⊥
                by_effect false t k = none-some d k
                by_effect true t k =
                    let same : update_of name number call ≡ d = same_Some (update_of name number call) d k in
                    let insert : is_insert call ≡ true = ap (λ (z : Entry). is_insert z.call) same ∙ put in
                    let told = naming.links_it l p free chains M a name number op call begun b w x.from x.to t insert (asks_it ∙ ap Some x.event) hs in
                    let below : w < length M.state.words = (list_lawful l p free chains).allowed M a (busy name number op call begun) b
                    (Exchange w x.from x.to) (asks_it ∙ ap Some x.event) hs in
                    let now : word_at (after M.state e) w ≡ x.to = ap (λ v. word_at (after M.state v) w) x.event
                    ∙ won_word M.state w x.from x.to x.found below in
                    let row_is : told_row op ≡ row = sym told ∙ ap (λ v. (link_of (value_of v)).row) (sym now) ∙ leads in
                    none-some (update_of name number call) (sym never
                    ∙ ap (λ v. if_won M.state v (update_in S told_row links row name number (Busy op call begun))) x.event
                    ∙ ap (λ v. if v then update_in S told_row links row name number (Busy op call begun) else None) (eq-eqb (word_at M.state w) x.from x.found)
                    ∙ shown_update (S.effect op) (is_insert call) (told_row op == row) t insert (eq-eqb (told_row op) row row_is))
                  where
                    shown_update : (f g h : Bool) → f ≡ true → g ≡ true → h ≡ true →
                        (if f && (g && h) then Some (update_of name number call) else None) ≡ Some (update_of name number call)
                    shown_update true true true i j m = refl
                    shown_update false g h i j m = absurd (false≢true i)
                    shown_update true false h i j m = absurd (false≢true j)
                    shown_update true true false i j m = absurd (false≢true m)

    pub stays : S.holds N_after → if_won M.state e (update_on S told_row links row u) ≡ None → IsApart N_after
    stays holds none = record {
      holds = holds;
      pool = apart.pool;
      unlinked = λ k. still B N_after apart k shadow_then (none_won none) unmarked;
      word = word_stays;
      shadow = unmarked;
    }
      where
        unmarked : is_removed l (after M.state e).shadows row ≡ false
        unmarked = shadow_stays B (after M.state e) apart (shadow_then (next_word l row))

  -- ---- a write-back by nobody

  written : (M : Moment HeldOp) (word : ℕ) → word < words_of l → S.holds (moment_written_back M word) → IsApart M →
      IsApart (moment_written_back M word)
  written M word below holds a = record {
    holds = holds;
    pool = a.pool;
    unlinked = λ k. still M N a k goes (λ w d q put leads. (waits w d q, refl)) unmarked;
    word = a.word;
    shadow = unmarked;
  }
    where
      N : Moment HeldOp
      N = moment_written_back M word

      goes : (w : ℕ) → Shadow_goes l p free chains M.state N.state w
      goes w = persist_goes l p free chains M a.holds word (bare_of (word_at M.state word)) w
          (subst (λ n. word < n) (sym (a.holds.0.sound.suits.whole ∙ a.holds.0.words)) below) (had-now (λ x. false) M.state word)

      unmarked : is_removed l N.state.shadows row ≡ false
      unmarked = shadow_stays M N.state a (goes (next_word l row))

      waits : (w : ℕ) (d : Entry) → fin.get N.progress.waiting w ≡ Some d → fin.get M.progress.waiting w ≡ Some d
      waits w d q = ⊎_elim (λ k. k) (λ x. absurd (none-some d x.update)) (waited_or M.progress M.state (write_back M.state word) None w d q)

  -- ---- it is linked

  abbrev IsTiedNow : (N : Moment HeldOp) (x : Entry) → Holds C l p free N → Type 0
  IsTiedNow N x k = Tied x (heap_at N k)

  busy_links : (M : Moment HeldOp) (a : List (Worker HeldOp)) (name number : ℕ) (op : HeldOp) (call : Call) (begun : Option ℕ) (b : List (Worker HeldOp))
      (e : Event) (x : Entry) → S.asked op ≡ Some e → HoldsWith S M a (busy name number op call begun) b → Contains free row →
      IsWon M.state e (update_in S told_row links row name number (Busy op call begun)) x →
      (k : Holds C l p free (moment_after S M e a (busy name number op call begun) b)) → IsTiedNow (moment_after S M e a (busy name number op call begun) b) x k
  busy_links M a name number op call begun b e x q holds pool w k =
      let on = takes_effect_on S told_row links row name number op call begun x w.update in
      let asks_it : S.asked op ≡ Some (Exchange w.word w.from w.to) = q ∙ ap Some w.event in
      let told = naming.links_it l p free chains M a name number op call begun b w.word w.from w.to on.effect on.such_is asks_it holds in
      let N : Moment HeldOp = moment_after S M e a (busy name number op call begun) b in
      let below : w.word < length M.state.words = (list_lawful l p free chains).allowed M a (busy name number op call begun) b
      (Exchange w.word w.from w.to) asks_it holds in
      let now : word_at N.state w.word ≡ w.to = ap (λ v. word_at (after M.state v) w.word) w.event ∙ won_word M.state w.word w.from w.to w.found below in
      let waits : fin.get N.progress.waiting w.word ≡ Some x =
      ap (λ v. fin.get (progress_after M.progress M.state v (if S.effect op then Some (update_of name number call) else None)).waiting w.word) w.event
      ∙ ap (λ o. fin.get (progress_after M.progress M.state (Exchange w.word w.from w.to) o).waiting w.word)
      (effect_so (S.effect op) (update_of name number call) x on.effect on.update)
      ∙ won_waits M.progress M.state w.word w.from w.to x w.found in
      let leads : row_of (at_word (heap_at N k) w.word) ≡ row = ap row_of (word_bare N.state.words w.word) ∙ sym (raw_leads (word_at N.state w.word))
      ∙ ap (λ v. (link_of (value_of v)).row) now ∙ told ∙ on.row_is in
      let node : At l free (heap_at N k) k.kept w.word = waits_link l p free (heap_at N k) k.kept w.word x waits in
      let leads_node : row_of (word_in l (heap_at N k) node.node) ≡ row = ap (λ v. row_of (at_word (heap_at N k) v)) node.here ∙ leads in
      record {
        linked = ⊎_elim (λ z. absurd (zero_row row (row_of (word_in l (heap_at N k) node.node)) (real _ holds pool) leads_node z))
            (λ (g : Follows (rows_at l (heap_at N k)) node.node (row_of (word_in l (heap_at N k) node.node))).
            ⊎_elim (λ reached. absurd (k.kept.apart row pool reached)) (λ given. given) (subst (IsLinked l (heap_at N k)) leads_node g.linked))
            (k.kept.chained.word_form node.node node.link).leads;
        entry = inl (w.word, waits, ap (λ (z : Entry). is_insert z.call) (sym on.update) ∙ on.such_is, leads);
      }
    where
      zero_row : (r n : ℕ) → 1 ≤ r → n ≡ r → n ≡ 0 → ⊥
      zero_row r n i e z = omega (arith, i, e, z)

  links_on : (w : Option ℕ) (M N : Moment HeldOp) (h : Happens S w M N) (x : Entry) → IsApart M → made_by S told_row links row w M N h ≡ Some x →
      (k : Holds C l p free N) → IsTiedNow N x k
  links_on _ _ _ (hiring M name least most new) x apart q k = absurd (none-some x q)
  links_on _ _ _ (reordering M a y z b) x apart q k = absurd (none-some x q)
  links_on _ _ _ (beginning M a name number hand call b may) x apart q k = absurd (none-some x q)
  links_on _ _ _ (finishing M a name number op call begun reply b replied) x apart q k = absurd (none-some x q)
  links_on _ _ _ (evicting M a name number hand word b below) x apart q k = absurd (none-some x q)
  links_on _ _ _ (evicted M a name number evict b) x apart q k = absurd (none-some x q)
  links_on _ _ _ (making M a u b e asked_so) x apart q k = by_doing u.name u.number u.doing asked_so apart.holds q k
    where
      by_doing : (name number : ℕ) (d : Doing HeldOp) → let v : Worker HeldOp = record { name = name; number = number; doing = d } in
          asks S d ≡ Some e → HoldsWith S M a v b → if_won M.state e (update_in S told_row links row name number d) ≡ Some x →
          (k : Holds C l p free (moment_after S M e a v b)) → IsTiedNow (moment_after S M e a v b) x k
      by_doing name number (Idle hand) asks_it hs won k = absurd (none-some e asks_it)
      by_doing name number (Evicting m) asks_it hs won k = absurd (none-some x (is_won M.state e None x won).update)
      by_doing name number (Busy op call begun) asks_it hs won k = busy_links M a name number op call begun b e x asks_it hs apart.pool
          (is_won M.state e (update_in S told_row links row name number (Busy op call begun)) x won) k
  links_on _ _ _ (writing_back M word below) x apart q k = absurd (none-some x q)

  apart_on : (w : Option ℕ) (M N : Moment HeldOp) (h : Happens S w M N) → S.holds N → IsApart M → made_by S told_row links row w M N h ≡ None → IsApart N
  apart_on _ _ _ (hiring M name least most new) holds apart q = quiet M _ refl refl holds apart
  apart_on _ _ _ (reordering M a x y b) holds apart q = quiet _ _ refl refl holds apart
  apart_on _ _ _ (beginning M a name number hand call b may) holds apart q = quiet _ _ refl refl holds apart
  apart_on _ _ _ (finishing M a name number op call begun reply b replied) holds apart q = quiet _ _ refl refl holds apart
  apart_on _ _ _ (evicting M a name number hand word b below) holds apart q = quiet _ _ refl refl holds apart
  apart_on _ _ _ (evicted M a name number evict b) holds apart q = quiet _ _ refl refl holds apart
  apart_on _ _ _ (making M a u b e asked_so) holds apart q = stays M a u b e asked_so apart holds q
  apart_on _ _ _ (writing_back M word below) holds apart q = written M word below holds apart

  -- ---- so at each moment since

  pub told : (M : Moment HeldOp) (o : Option Entry) → Since S told_row links row M o → Told M o
  told _ _ (asked M a u b x holds on) = by_doing u.name u.number u.doing holds on
    where
      by_doing : (name number : ℕ) (d : Doing HeldOp) → let v : Worker HeldOp = record { name = name; number = number; doing = d } in
          HoldsWith S M a v b → update_in S told_row links row name number d ≡ Some x → IsApart (with_workers M (a ++ v ∷ b))
      by_doing name number (Idle hand) hs q = absurd (none-some x q)
      by_doing name number (Evicting m) hs q = absurd (none-some x q)
      by_doing name number (Busy op call begun) hs q =
          begins M a name number op call begun b x hs (takes_effect_on S told_row links row name number op call begun x q)
  told _ _ (further w M N o since h) = by_told o (told M o since)
    where
      holds_on : S.holds M → S.holds N
      holds_on k = (list_lawful l p free chains).keeps w M N h k

      first_made : IsApart M → (r : Option Entry) → made_by S told_row links row w M N h ≡ r → Told N r
      first_made k None q = apart_on w M N h (holds_on k.holds) k q
      first_made k (Some x) q =
          let holds : S.holds N = holds_on k.holds in record {
            holds = holds;
            tied = holds_so (list_anatomy l p free) (later_now l p free) (knows_now l p free) l p free (kept_now l p free)
                (Both (list_anatomy l p free) (later_now l p free) (knows_now l p free) l p free (kept_now l p free) (Tied x)) N holds.0
                (holds.0.kept, links_on w M N h x k q holds.0);
          }

      by_told : (o : Option Entry) → Told M o → Told N (or_first o (made_by S told_row links row w M N h))
      by_told None k = first_made k (made_by S told_row links row w M N h) refl
      by_told (Some x) k = record { holds = holds_on k.holds; tied = lasts l p free chains (Tied x) (links_besides l p free row x) w M N h k.tied }
