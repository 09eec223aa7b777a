-- While a machine of a call runs, no more may follow it than before.
use Rattle.std.proofs.Common.{◌≡◌, ℕ, ◌+◌, ◌-◌, ◌*◌, ◌^◌, ◌==◌, ◌<◌, ◌≤◌, Bool, true, false, List, length, map, Some, refl, sym, ◌∙◌, ap, subst, arith, if◌then◌else◌}
use Rattle.std.proofs.lemmas.Bool.{false≢true}
use Rattle.std.proofs.lemmas.List.{length-map}
use Rattle.std.proofs.lemmas.Option.{none-some, same_Some}
use Rattle.flit_words.specs.declared.layouts.Layout.{Layout}
use Rattle.flit_words.specs.Layouts.{words_of, row_word_of}
use Rattle.flit_words.specs.Words.{bare_of, value_of}
use Rattle.flit_model.specs.States.{State, word_at}
use Rattle.flit_model.specs.Effects.{after, answer}
use Rattle.flit_model.specs.declared.events.Event.{Event}
use Rattle.flit_model.specs.declared.events.Event.TheVariants.{Persist, Draw}
use Rattle.flit_model.specs.declared.calls.Call.{Call}
use Rattle.flit_model.specs.declared.calls.Reply.{Reply}
use Rattle.flit_place.specs.Tags.{Place, dressed}
use Rattle.flit_pv.specs.VLoads.{HeldVLoad, v_load_asks}
use Rattle.flit_pv.specs.declared.v_loads.VLoading.{VLoading}
use Rattle.flit_pv.specs.declared.v_loads.VLoading.TheVariants.{Reads as V_reads, Has as V_has}
use Rattle.flit_pv.specs.declared.exchanges.Exchanging.{Exchanging}
use Rattle.flit_pv.specs.declared.exchanges.Exchanging.TheVariants.{Ready, Tries, TriesBare, WritesBack, Withdraws, Lowers, Ended}
use Rattle.flit_pv.specs.Exchanges.{HeldExchange, exchange_asks, exchange_asked, exchange_takes, exchange_taken, exchange_at}
use Rattle.flit_rows.specs.declared.take_row.Taking.{Taking}
use Rattle.flit_rows.specs.declared.take_row.Taking.TheVariants.{Draws, Ended as Take_ended}
use Rattle.flit_rows.specs.Taking.{take_asks}
use Rattle.flit_runs.specs.Workings.{Exchanges}
use Rattle.flit_crew.specs.Machines.{Part, ToRead, HasRead, ToWin, HasWon, HasWritten, HasLost, Other, Works, exchange_part, has_ended}
use Rattle.flit_crew.specs.Crews.{Who}
use Rattle.flit_crew_bounds.specs.Winning.{would_win_at, would_win, wins_at, wins_now}
use Rattle.flit_crew_bounds.proofs.Turning.{Turn, waits, wins, loses, exchange_turn, exchange_elsewhere}
use Rattle.flit_crew_bounds.proofs.Written.{won_writes}
use Rattle.flit_list_steps.specs.declared.operations.Path.{Path}
use Rattle.flit_list_steps.specs.Operations.{At, Head, Next, Key, Confirming, Help, Row, Words, RowValue, Link, Mark, Tidy, Value, Ends, Rests, HeldOp}
use Rattle.flit_list_steps.specs.Steps.{row_at}
use Rattle.flit_list_heap.specs.Links.{LinkWord, place_of}
use Rattle.flit_list_heap.specs.Keeping.{ListHeap, Kept, IsLinkAt}
use Rattle.flit_list_heap.proofs.Places.{key_apart, place_below}
use Rattle.flit_list_laws.specs.Walks.{Loaded, Walk}
use Rattle.flit_list_laws.specs.Knowing.{HelpAt}
use Rattle.flit_list_laws.specs.ListAnatomy.{with_machine_at}
use Rattle.flit_list_limits.specs.ListLimits.{most_search, keys_from, keys_ahead, unless, help_again, list_behind}
use Rattle.flit_list_limits.proofs.Again.{nothing, same_le}
use Rattle.flit_crew_bounds.proofs.ExchangeEnds.{wins_as_read}
use Rattle.flit_list_limits.proofs.Steady.{load_words, confirm_words}
use Rattle.flit_list_limits.proofs.Resuming.{told, words_then, m_at, op_at, Own}
use Rattle.flit_list_limits.proofs.OwnStores.{words_leave, value_leaves}

-- one more search is no more likely where what wins goes on winning
pub unless_less : (was is : Bool) → (was ≡ true → is ≡ true) → unless is ≤ unless was
unless_less true is on = same_le (unless is) 0 (ap unless (on refl))
unless_less false true on = nothing most_search
unless_less false false on = same_le most_search most_search refl

unless_most : (b : Bool) → unless b ≤ most_search
unless_most true = nothing most_search
unless_most false = same_le most_search most_search refl

-- ---- an exchange

module _ (p : Place) (s : State) (m : HeldExchange) (e : Event) (asked : exchange_asked p m ≡ Some e) where
  abbrev words_now : List ℕ
  words_now = (after s e).words

  abbrev n : HeldExchange
  n = exchange_taken p m (answer s e)

  abbrev was : ℕ
  was = unless (wins_now p s.words m)

  turn_on : (x : HeldExchange) → Turn p s m e x → unless (wins_now p words_now x) ≤ was
  turn_on x (waits part on) = unless_less (wins_now p s.words m) (wins_now p words_now x) on
  turn_on x (wins is) = subst (λ y. unless (wins_now p words_now y) ≤ was) (sym is) (nothing was)
  turn_on x (loses found part unwon) = subst (λ b. unless (wins_now p words_now x) ≤ unless b) (sym unwon) (unless_most (wins_now p words_now x))

  -- it goes on: that it is won is still so
  abbrev GoesSo : Exchanging → Type 0
  GoesSo x = unless (wins_now p words_now (exchange_takes p x m (answer s e))) ≤ unless (wins_at p s.words x m)

  goes_at : (x : Exchanging) → m.at ≡ x → GoesSo m.at
  goes_at Ready is = turn_on n (exchange_turn p s m e asked (ap exchange_part is))
  goes_at (Tries slot) is = turn_on n (exchange_turn p s m e asked (ap exchange_part is))
  goes_at TriesBare is = turn_on n (exchange_turn p s m e asked (ap exchange_part is))
  goes_at WritesBack is = subst GoesSo (sym is) (nothing (unless true))
  goes_at Withdraws is = subst GoesSo (sym is) (nothing (unless true))
  goes_at (Lowers slot found) is = subst GoesSo (sym is) (same_le most_search most_search refl)
  goes_at (Ended how) is = absurd (none-some e (sym (ap (λ x. exchange_asks p x m) is) ∙ asked))

  pub exchange_goes : unless (wins_now p words_now n) ≤ was
  exchange_goes = goes_at m.at refl

  -- of a help, one that is won looks at what it has written
  module _ (below : m.word < length s.words) where
    won_so : (part : exchange_part m.at ≡ ToWin) → n ≡ exchange_at m WritesBack → would_win p words_now m.word (dressed p.counted m.to) ≡ true
    won_so part is = wins_as_read p words_now m.word (dressed p.counted m.to)
        (won_writes p s m e asked part (ap (λ y. exchange_part y.at) is) below)

    helped_on : (x : HeldExchange) → Turn p s m e x → (x ≡ exchange_at m WritesBack → would_win p words_now m.word (dressed p.counted m.to) ≡ true) →
        help_again p words_now x (exchange_part x.at) ≤ was
    helped_on x (waits part on) won = subst (λ q. help_again p words_now x q ≤ was) (sym part)
        (unless_less (wins_now p s.words m) (wins_now p words_now x) on)
    helped_on x (wins is) won = subst (λ y. help_again p words_now y (exchange_part y.at) ≤ was) (sym is)
        (subst (λ b. unless b ≤ was) (sym (won is)) (nothing was))
    helped_on x (loses found part unwon) won = subst (λ q. help_again p words_now x q ≤ was) (sym part)
        (subst (λ b. most_search ≤ unless b) (sym unwon) (same_le most_search most_search refl))

    to_win : exchange_part m.at ≡ ToWin → help_again p words_now n (exchange_part n.at) ≤ help_again p s.words m (exchange_part m.at)
    to_win part = subst (λ q. help_again p words_now n (exchange_part n.at) ≤ help_again p s.words m q) (sym part)
        (helped_on n (exchange_turn p s m e asked part) (won_so part))

    abbrev HelpsSo : Exchanging → Type 0
    HelpsSo x = let y = exchange_takes p x m (answer s e) in help_again p words_now y (exchange_part y.at) ≤ help_again p s.words m (exchange_part x)

    persist_words : m.at ≡ WritesBack → words_now ≡ s.words
    persist_words is = subst (λ y. (after s y).words ≡ s.words)
        (same_Some (Persist m.word m.to) e (sym (ap (λ x. exchange_asks p x m) is) ∙ asked)) refl

    help_at : (x : Exchanging) → m.at ≡ x → (free : List ℕ) → has_ended p (Works (Exchanges n)) ≡ false → HelpsSo m.at
    help_at Ready is free going = to_win (ap exchange_part is)
    help_at (Tries slot) is free going = to_win (ap exchange_part is)
    help_at TriesBare is free going = to_win (ap exchange_part is)
    help_at WritesBack is free going = subst HelpsSo (sym is) (same_le (unless (would_win p words_now m.word (dressed p.counted m.to)))
        (unless (would_win p s.words m.word (dressed p.counted m.to))) (ap (λ ws. unless (would_win p ws m.word (dressed p.counted m.to))) (persist_words is)))
    help_at Withdraws is free going =
        absurd (false≢true (sym going ∙ ap (λ x. has_ended p (Works (Exchanges (exchange_takes p x m (answer s e))))) is))
    help_at (Lowers slot found) is free going = subst HelpsSo (sym is) (same_le most_search most_search refl)
    help_at (Ended how) is free going = absurd (none-some e (sym (ap (λ x. exchange_asks p x m) is) ∙ asked))

-- ---- a call

module _ (l : Layout) (p : Place) (free : List ℕ) (s : State) (e : Event) (h k : ListHeap) (me you : Who) (call : Call) (reply : Reply) (path : Path) where
  abbrev then_words : List ℕ
  then_words = words_then l p free s e h k me you call reply path

  abbrev machine_then : At → Rattle.flit_crew.specs.Machines.Machine
  machine_then at = m_at l p free s e h k me you call reply path at

  abbrev on_at : At → HeldOp
  on_at at = op_at l p free s e h k me you call reply path at

  abbrev Mine : At → Type 0
  Mine at = Own l p free s e h k me you call reply path at

  abbrev pub Runs : At → Type 0
  Runs at = list_behind l p then_words (on_at (with_machine_at at (machine_then at))) ≤ list_behind l p s.words (on_at at)

  -- where the words stay, so does what may follow
  as_words : (at : At) → then_words ≡ s.words → list_behind l p then_words (on_at at) ≤ list_behind l p s.words (on_at at)
  as_words at same = same_le (list_behind l p then_words (on_at at)) (list_behind l p s.words (on_at at)) (ap (λ ws. list_behind l p ws (on_at at)) same)

  loads : (m : HeldVLoad) (x : VLoading) → v_load_asks x m ≡ Some e → then_words ≡ s.words
  loads m V_reads q = load_words s e m.word q
  loads m (V_has raw) q = absurd (none-some e q)

  draws : (x : Taking) → take_asks x ≡ Some e → then_words ≡ s.words
  draws Draws q = subst (λ y. (after s y).words ≡ s.words) (same_Some Draw e q) refl
  draws (Take_ended took) q = absurd (none-some e q)

  -- the link behind which the key belongs is the same
  pred_on : (n : ℕ) → word_at (after s e) path.pred.word ≡ word_at s path.pred.word →
      n + unless (would_win p then_words path.pred.word path.pred.raw) ≤ n + unless (would_win p s.words path.pred.word path.pred.raw)
  pred_on n stays = same_le (n + unless (would_win p then_words path.pred.word path.pred.raw)) (n + unless (would_win p s.words path.pred.word path.pred.raw))
      (ap (λ w. n + unless (would_win_at (p.slot path.pred.word) w path.pred.raw)) stays)

  more_by : (n a b : ℕ) → a ≤ b → n + a ≤ n + b
  more_by n a b h = omega (arith, h)

  -- ---- an exchange of a link word

  pub link_below : (x : LinkWord) (w : ℕ) → Kept l free h → h.words ≡ map bare_of s.words → IsLinkAt l h x → w ≡ place_of l x → w < length s.words
  link_below x w kept words link is = within w (place_of l x) (words_of l) (length h.words) (length s.words) is (place_below l free h kept x link) kept.words
      (ap length words ∙ length-map s.words bare_of)
    where
      within : (w a b c d : ℕ) → w ≡ a → a < b → c ≡ b → c ≡ d → w < d
      within w a b c d e i f g = omega (arith, e, i, f, g)

  -- it changes no key
  pub keys_stay : (m : HeldExchange) (x : LinkWord) → exchange_asked p m ≡ Some e → Kept l free h → IsLinkAt l h x → m.word ≡ place_of l x → (row : ℕ) →
      keys_from l then_words row ≡ keys_from l s.words row
  keys_stay m x asked kept link is row = ap (λ w. if row == 0 then 0 else 2 ^ 32 - value_of w)
      (exchange_elsewhere p s m e (row_word_of l row 0) asked (λ same. key_apart l free h kept row x link (same ∙ is)))

  -- where a help's exchange goes on
  pub record AimsFor (m : HeldExchange) : Type 0 where
    pub at : LinkWord
    pub link : IsLinkAt l h at
    pub is : m.word ≡ place_of l at

  abbrev IsUnderWay : Part → Type 0
  IsUnderWay (ToRead word) = ⊥
  IsUnderWay (HasRead word raw) = ⊥
  IsUnderWay ToWin = Unit {0}
  IsUnderWay HasWon = Unit {0}
  IsUnderWay HasWritten = Unit {0}
  IsUnderWay (HasLost found) = ⊥
  IsUnderWay Other = ⊥

  pub help_aims : (w : Walk) (n : Loaded) (m : HeldExchange) (part : Part) → IsUnderWay part → HelpAt l h me w n m part → AimsFor m
  help_aims w n m (ToRead word) under f = absurd under
  help_aims w n m (HasRead word raw) under f = absurd under
  help_aims w n m ToWin under f = record { at = w.link.word; link = f.sure.stands.spot.saw.link; is = f.aim.word }
  help_aims w n m HasWon under f = record { at = w.link.word; link = f.saw.link; is = f.word }
  help_aims w n m HasWritten under f = record { at = w.link.word; link = f.saw.link; is = f.word }
  help_aims w n m (HasLost found) under f = absurd under
  help_aims w n m Other under f = absurd under

  help_runs : (m : HeldExchange) → Mine (Help m) → has_ended p (machine_then (Help m)) ≡ false → AimsFor m → Runs (Help m)
  help_runs m own going aims =
      let n : HeldExchange = exchange_taken p m (told l p free s e h k me you call reply path) in
      both (keys_ahead l then_words path) (keys_ahead l s.words path) (help_again p then_words n (exchange_part n.at))
      (help_again p s.words m (exchange_part m.at)) (keys_stay m aims.at own.asks own.kept aims.link aims.is (row_at path))
      (help_at p s m e own.asks (link_below aims.at m.word own.kept own.words aims.link aims.is) m.at refl free going)
    where
      both : (a b x y : ℕ) → a ≡ b → x ≤ y → 7 * a + 8 + x ≤ 7 * b + 8 + y
      both a b x y e h = omega (arith, e, h)

  -- one that is lost has its slot lowered, and has ended then
  help_goes : (m : HeldExchange) → Mine (Help m) → has_ended p (machine_then (Help m)) ≡ false → (x : Exchanging) → m.at ≡ x → Runs (Help m)
  help_goes m own going Ready is = help_runs m own going (help_aims own.knows.walk own.knows.next m (exchange_part m.at)
      (subst (λ y. IsUnderWay (exchange_part y)) (sym is) tt) own.knows.at.2)
  help_goes m own going (Tries slot) is = help_runs m own going (help_aims own.knows.walk own.knows.next m (exchange_part m.at)
      (subst (λ y. IsUnderWay (exchange_part y)) (sym is) tt) own.knows.at.2)
  help_goes m own going TriesBare is = help_runs m own going (help_aims own.knows.walk own.knows.next m (exchange_part m.at)
      (subst (λ y. IsUnderWay (exchange_part y)) (sym is) tt) own.knows.at.2)
  help_goes m own going WritesBack is = help_runs m own going (help_aims own.knows.walk own.knows.next m (exchange_part m.at)
      (subst (λ y. IsUnderWay (exchange_part y)) (sym is) tt) own.knows.at.2)
  help_goes m own going Withdraws is = help_runs m own going (help_aims own.knows.walk own.knows.next m (exchange_part m.at)
      (subst (λ y. IsUnderWay (exchange_part y)) (sym is) tt) own.knows.at.2)
  help_goes m own going (Lowers slot found) is = absurd (false≢true (sym going
      ∙ ap (λ x. has_ended p (Works (Exchanges (exchange_takes p x m (told l p free s e h k me you call reply path))))) is))
  help_goes m own going (Ended how) is = absurd (none-some e (sym (ap (λ x. exchange_asks p x m) is) ∙ own.asks))

  pub runs_at : (at : At) → Mine at → has_ended p (machine_then at) ≡ false → Runs at
  runs_at (Head m) own going = same_le (7 * 2 ^ 32 + 17 + 0) (7 * 2 ^ 32 + 17 + 0) refl
  runs_at (Next m) own going = as_words (Next m) (loads m m.at own.asks)
  runs_at (Key m) own going = as_words (Key m) (loads m m.at own.asks)
  runs_at (Confirming goal which m) own going = as_words (Confirming goal which m) (confirm_words p s e m m.at own.asks)
  runs_at (Help m) own going = help_goes m own going m.at refl
  runs_at (Row m) own going = as_words (Row m) (draws m.at own.asks)
  runs_at (Words m) own going = pred_on 7 (words_leave l p free s e h k me you call reply path m own)
  runs_at (RowValue m) own going = pred_on 4 (value_leaves l p free s e h k me you call reply path m own)
  runs_at (Link m) own going = more_by 0 (unless (wins_now p then_words (exchange_taken p m (told l p free s e h k me you call reply path))))
      (unless (wins_now p s.words m)) (exchange_goes p s m e own.asks)
  runs_at (Mark m) own going = more_by 4 (unless (wins_now p then_words (exchange_taken p m (told l p free s e h k me you call reply path))))
      (unless (wins_now p s.words m)) (exchange_goes p s m e own.asks)
  runs_at (Tidy m) own going = nothing 0
  runs_at (Value m) own going = nothing 0
  runs_at (Ends m) own going = nothing 0
  runs_at (Rests hand) own going = nothing 0
