-- What is known of an operation's own event, and of what happens to others.
use Rattle.std.proofs.Common.{◌≡◌, ℕ, suc, ◌+◌, ◌*◌, ◌≤◌, ◌<◌, ◌==◌, true, false, cond, min, List, [], ◌∷◌, ◌++◌, length, take, slice_get, Option, Some, refl, sym, ◌∙◌, ap, subst, arith}
use Rattle.std.proofs.Math.Seq.{take-suc}
use Rattle.std.proofs.lemmas.Bool.{eq-eqb}
use Rattle.std.proofs.lemmas.Option.{slice_get_within, get_or_from_slice_get, none-some}
use Rattle.std.specs.Prelude.{Contains}
use Rattle.flit_words.specs.declared.layouts.Layout.{Layout}
use Rattle.flit_model.specs.Effects.{answer}
use Rattle.flit_model.specs.Lists.{IsRisingFrom}
use Rattle.flit_model.specs.declared.events.Event.{Event}
use Rattle.flit_model.specs.declared.calls.Call.{Call}
use Rattle.flit_model.proofs.Counting.{count_by-cons, count_by-append}
use Rattle.flit_place.specs.Tags.{Place, IsSlot}
use Rattle.flit_place.proofs.Splits.{all_middle}
use Rattle.flit_pv.specs.Exchanges.{HeldExchange, exchange_asks, exchange_asked}
use Rattle.flit_pv.specs.declared.exchanges.Exchanging.{Exchanging}
use Rattle.flit_pv.specs.declared.exchanges.Exchanging.TheVariants.{Ready, Tries, TriesBare, WritesBack, Withdraws, Lowers, Ended}
use Rattle.flit_runs.specs.Workings.{Exchanges}
use Rattle.flit_runs.specs.Worlds.{world_of}
use Rattle.flit_runs.specs.Soundness.{IsNext, ExchangeKnows}
use Rattle.flit_runs.specs.Rules.{KeepsRule, MustBeDurable, IsDurable, is_exchange}
use Rattle.flit_runs.proofs.RuleLaws.{rule}
use Rattle.flit_structure.specs.declared.workers.Worker.{Worker}
use Rattle.flit_structure.specs.Moments.{Moment, with_workers, busy, made}
use Rattle.flit_structure.specs.Meanings.{first_at}
use Rattle.flit_structure.specs.Lawful.{rows_needed}
use Rattle.flit_structure.proofs.Names.{all_at}
use Rattle.flit_crew.specs.Machines.{Works, ToWin, machine_asks, exchange_part}
use Rattle.flit_crew.specs.Heaps.{Heap, heap_of}
use Rattle.flit_crew.specs.Rows.{times, own_times, own_many, IsDealt}
use Rattle.flit_crew.specs.Accounts.{inserts_in, IsTight}
use Rattle.flit_crew.specs.Anatomies.{own, own_in, op_taken}
use Rattle.flit_crew.specs.Crews.{Crew, Who, Holds, IsBusy, who_of, stranger_of}
use Rattle.flit_crew.specs.CrewMeanings.{Bounds}
use Rattle.flit_crew.specs.Obligations.{Keeps}
use Rattle.flit_crew.proofs.Rowing.{contained, once}
use Rattle.flit_crew.proofs.Owning.{IsOwn, own_row, lower}
use Rattle.flit_crew.proofs.Acting.{Split}
use Rattle.flit_crew.proofs.Moving.{mine}
use Rattle.flit_crew.proofs.Going.{knows_now, since, busy_now, facts_now, sound_now}
use Rattle.flit_crew.proofs.Reading.{at_it}
use Rattle.flit_crew.proofs.Winning.{needed_durable}
use Rattle.flit_crew.proofs.Trying.{same_le}
use Rattle.flit_crew.proofs.CallSteps.{known as machine_knows}
use Rattle.flit_crew_bounds.specs.Bounding.{OwnEvent}
use Rattle.flit_crew_bounds.proofs.Searching.{ends_empty}
use Rattle.flit_crew_bounds.proofs.Progressing.{N, holds_then, passes_then}

-- the row that comes next was never linked
pub undrawn : {X : Type 0} (own : X → List ℕ) (free : List ℕ) (counter : ℕ) (given : List ℕ) (us : List X) (row : ℕ) → IsRisingFrom 0 free →
    IsDealt own free counter given us → slice_get free counter ≡ Some row → Contains given row → ⊥
undrawn own free counter given us row rising d next has =
    let below : counter < length free = slice_get_within free counter row next in
    let taken : take (suc counter) free ≡ take counter free ++ row ∷ [] = take-suc free counter row below
    ∙ ap (λ r. take counter free ++ r ∷ []) (get_or_from_slice_get free counter row row next) in
    twice (own_times own row us) (times own row given) (times own row (take counter free)) (times own row (take (suc counter) free)) (times own row (row ∷ []))
    (d.rows row) (contained own row given has) (ap (λ xs. times own row xs) taken ∙ count_by-append (λ r. r == row) (take counter free) (row ∷ []))
    (count_by-cons (λ r. r == row) row [] ∙ ap (λ b. cond b 1 0 + 0) (eq-eqb row row refl)) (once own free (suc counter) row rising)
  where
    twice : (o g t n x : ℕ) → o + g ≡ t → 1 ≤ g → n ≡ t + x → x ≡ 1 + 0 → n ≤ 1 → ⊥
    twice o g t n x e i j k h = omega (arith, e, i, j, k, h)

-- no more rows were linked than are free
pub few_inserts : {G Op : Type 0} (c : Crew G Op) (l : Layout) (p : Place) (free : List ℕ) (M : Moment Op) → Holds c l p free M →
    rows_needed l.kind * inserts_in (made M.progress) ≤ length free
few_inserts c l p free M h = few (own_many (λ u. own_in c.anatomy u.doing) M.workers) (length h.given) (rows_needed l.kind * inserts_in (made M.progress))
    M.state.counter (length free) h.rows.linked h.rows.dealt.many
  where
    few : (o g n t f : ℕ) → g ≡ n → o + g ≡ min t f → n ≤ f
    few o g n t f e i = omega (arith, e, i)

module _ {G Op : Type 0} (c : Crew G Op) (l : Layout) (p : Place) (free : List ℕ) (bounds : Bounds Op) (keeps : Keeps c l p free) (M : Moment Op)
    (a : List (Worker Op)) (name number : ℕ) (op : Op) (call : Call) (begun : Option ℕ) (b : List (Worker Op)) (e : Event)
    (q : machine_asks p (c.anatomy.machine op) ≡ Some e)
    (holds : Holds c l p free (with_workers M (a ++ busy name number op call begun ∷ b))) where
  abbrev u : Worker Op
  u = busy name number op call begun

  abbrev K : ℕ
  K = length M.progress.settled

  abbrev now : Option ℕ
  now = Some (first_at K begun)

  abbrev next : Op
  next = op_taken c.anatomy p free op (answer M.state e)

  abbrev pub then_holds : Holds c l p free (N c l p free bounds keeps M a u b e q holds)
  then_holds = holds_then c l p free bounds keeps M a u b e q holds

  abbrev pub before : Heap G
  before = heap_of (with_workers M (a ++ u ∷ b)) holds.given holds.ghost

  abbrev pub behind : Heap G
  behind = heap_of (N c l p free bounds keeps M a u b e q holds) then_holds.given then_holds.ghost

  abbrev pub was : Split c l p free before a u b holds.actors
  was = mine c l p free keeps M a u b holds

  abbrev pub is : Split c l p free behind a (busy name number next call now) b then_holds.actors
  is = mine c l p free keeps (N c l p free bounds keeps M a u b e q holds) a (busy name number next call now) b then_holds

  abbrev pub me : Who
  me = who_of name number call now was.actor

  abbrev pub you : Who
  you = who_of name number call now is.actor

  pub known_then : IsBusy c l p free behind is.actor name number next call now
  known_then = is.mine.doing

  own_is : (row : ℕ) → Contains (own c.anatomy op) row → IsOwn (λ v. own_in c.anatomy v.doing) free holds.given a b row
  own_is row has = own_row (λ v. own_in c.anatomy v.doing) free M.state.counter holds.given a u b row (lower free holds.pool.rising) holds.rows.dealt has

  durable_so : (m : HeldExchange) → c.anatomy.machine op ≡ Works (Exchanges m) → is_exchange (Some e) ≡ true → IsDurable M.state was.actor.needs
  durable_so m same exchanges =
      let rules : KeepsRule p M.state was.actor = all_middle (KeepsRule p M.state) (stranger_of holds.stranger ∷ was.before) was.actor was.behind
      (rule p (λ x. false) (world_of M.state (stranger_of holds.stranger ∷ was.before) was.actor was.behind)
      (sound_now c l p free keeps M a name number op call begun b holds K (same_le K))) in
      let at : was.actor.at ≡ Exchanges m = at_it c l p free keeps M a name number op call begun b holds K (same_le K) (Exchanges m) same in
      let asks : exchange_asked p m ≡ Some e = ap (machine_asks p) (sym same) ∙ q in
      rules (subst (MustBeDurable p) (sym at) (ap is_exchange asks ∙ exchanges))

  next_so : (m : HeldExchange) → c.anatomy.machine op ≡ Works (Exchanges m) → exchange_part m.at ≡ ToWin → IsNext m
  next_so m same part = by_stage m.at part (ap (machine_asks p) (sym same) ∙ q)
      (machine_knows c l p free keeps M a name number op call begun b holds (Exchanges m) same)
    where
      by_stage : (x : Exchanging) → exchange_part x ≡ ToWin → exchange_asks p x m ≡ Some e → ExchangeKnows p (λ y. false) M.state x m → IsNext m
      by_stage Ready to_win asks f = f.1
      by_stage (Tries slot) to_win asks f = f.1.new
      by_stage TriesBare to_win asks f = f.1.new
      by_stage WritesBack to_win asks f = absurd (cc)
      by_stage Withdraws to_win asks f = absurd (cc)
      by_stage (Lowers slot found) to_win asks f = absurd (cc)
      by_stage (Ended how) to_win asks f = absurd (none-some e asks)

  pub own_event : OwnEvent c l p free M.state e before behind me you op
  own_event =
      let known : IsBusy c l p free before was.actor name number op call begun =
      busy_now c l p free keeps M a name number op call begun b holds K (same_le K) in
      record {
        asks = q;
        call = known.same_call;
        served = known.served;
        facts = facts_now c l p free keeps M a name number op call begun b holds K (same_le K);
        first = since c l p free keeps M a name number op call begun b holds K (same_le K);
        own_rows = λ row has. ((own_is row has).pool, (own_is row has).unlinked);
        tight = all_at (IsTight c.anatomy l) a b u holds.rows.tight;
        slots = λ word lt. subst (λ n. IsSlot p.counted n (p.slot word)) holds.slots
            (holds.sound.suits.slots word (subst (λ n. word < n) (sym holds.words) lt));
        unqueued = λ x how is_then ended. ends_empty p free M.state (c.anatomy.machine op) e (answer M.state e) x how
            (λ y same. machine_knows c l p free keeps M a name number op call begun b holds (Exchanges y) same) q is_then ended;
        durable = λ m same exchanges w v needed. needed_durable M.state was.actor.needs w v (durable_so m same exchanges) needed;
        next = λ m same part. next_so m same part;
        next_row = λ row is_next has. undrawn (λ v. own_in c.anatomy v.doing) free M.state.counter holds.given (a ++ u ∷ b) row (lower free holds.pool.rising)
            holds.rows.dealt is_next has;
        words = refl;
        shadows = refl;
        kept = holds.kept;
        knows = knows_now c l p free keeps M a name number op call begun b holds K (same_le K);
        words_now = refl;
        shadows_now = refl;
        kept_now = then_holds.kept;
        knows_now = known_then.knows;
        passes = passes_then c l p free bounds keeps M a u b e q holds;
        same = record { name = refl; number = refl; call = refl; first = refl };
      }
