-- A call's search goes on from machine to machine: the next one, and all that may follow it, are within what might follow.
use Rattle.std.proofs.Common.{◌≡◌, inl, inr, ⊎_elim, ℕ, ◌+◌, ◌*◌, ◌^◌, ◌==◌, ◌<◌, ◌≤◌, ◌&&◌, nat_lt, Bool, true, false, List, length, Some, is_none, slice_index, refl, sym, ◌∙◌, ap, subst, arith, if◌then◌else◌}
use Rattle.std.proofs.lemmas.Bool.{false≢true}
use Rattle.std.proofs.lemmas.Option.{none-some}
use Rattle.flit_words.specs.declared.layouts.Layout.{Layout}
use Rattle.flit_words.specs.Words.{bare_of, value_of}
use Rattle.flit_model.specs.States.{State}
use Rattle.flit_model.specs.Effects.{after, answer}
use Rattle.flit_model.specs.declared.events.Event.{Event}
use Rattle.flit_model.specs.declared.calls.Call.{Call}
use Rattle.flit_model.specs.declared.calls.Reply.{Reply}
use Rattle.flit_model.specs.Lists.{key_in}
use Rattle.flit_place.specs.Tags.{Place}
use Rattle.flit_pv.specs.VLoads.{HeldVLoad, v_load_started, v_load_asks, v_load_takes, v_load_taken}
use Rattle.flit_pv.specs.declared.v_loads.VLoading.{VLoading}
use Rattle.flit_pv.specs.declared.v_loads.VLoading.TheVariants.{Reads as V_reads, Has as V_has}
use Rattle.flit_pv.specs.Confirms.{HeldConfirm, confirm_asked, confirm_left, confirm_taken}
use Rattle.flit_runs.specs.Workings.{Confirms, VLoads}
use Rattle.flit_structure.specs.Meanings.{key_of}
use Rattle.flit_crew.specs.Machines.{Machine, Works, machine_takes, has_ended}
use Rattle.flit_crew.specs.Crews.{Who}
use Rattle.flit_crew_bounds.specs.Left.{machine_left}
use Rattle.flit_crew_bounds.specs.Bounding.{OwnEvent}
use Rattle.flit_list_steps.specs.declared.operations.Path.{Path}
use Rattle.flit_list_steps.specs.declared.operations.Goal.{Goal}
use Rattle.flit_list_steps.specs.declared.operations.Goal.TheVariants.{Help as To_help, Found as To_found, Absent as To_absent}
use Rattle.flit_list_steps.specs.declared.operations.Which.{Which}
use Rattle.flit_list_steps.specs.Operations.{At, Head, Next, Key, Confirming, HeldOp}
use Rattle.flit_list_steps.specs.Steps.{Carried, stands, is_marked, key_word, row_at, loaded, from_head, with_next, further, path_confirmed, confirms, confirms_by, confirmed, looks, head_by, next_by, key_by}
use Rattle.flit_list_heap.specs.Links.{row_of}
use Rattle.flit_list_heap.specs.Keeping.{ListHeap}
use Rattle.flit_list_laws.specs.Walks.{Loaded, Walk}
use Rattle.flit_list_laws.specs.Knowing.{row_after, KnowsKey}
use Rattle.flit_list_laws.specs.ListAnatomy.{machine_at, resumed}
use Rattle.flit_list_laws.specs.ListCrew.{Follows, FollowsTo, list_crew}
use Rattle.flit_list_laws.proofs.Raws.{raw_row}
use Rattle.flit_list_laws.proofs.Lasting.{leads_linked}
use Rattle.flit_list_limits.specs.ListLimits.{keys_from, keys_ahead, cost, back_cost, path_cost, next_cost, confirming_rest, rest_at, unless, still, again_at, list_behind}
use Rattle.flit_list_limits.proofs.Arriving.{total, to_confirms, to_confirmed, to_looks, to_head, to_link_got}
use Rattle.flit_list_limits.proofs.Again.{again, nothing, same_le, confirms_again, confirmed_again, looks_again}
use Rattle.flit_list_limits.proofs.Keys.{keys_fewer}
use Rattle.flit_crew_bounds.proofs.ExchangeEnds.{wins_as_read}
use Rattle.flit_list_limits.proofs.Steady.{load_words, load_told, confirm_words, left_within}

-- ---- one more search, or none

-- where two links are asked for, one alone is no more
pub unless_first : (a b : Bool) → unless a ≤ unless (a && b)
unless_first true b = nothing (unless b)
unless_first false b = same_le (unless false) (unless false) refl

pub unless_second : (a b : Bool) → unless b ≤ unless (a && b)
unless_second true b = same_le (unless b) (unless b) refl
unless_second false true = nothing (unless false)
unless_second false false = same_le (unless false) (unless false) refl

unless_both : (a b : Bool) → b ≡ true → unless (a && b) ≤ unless a
unless_both true true e = same_le (unless true) (unless true) refl
unless_both true false e = absurd (false≢true e)
unless_both false b e = same_le (unless false) (unless false) refl

pub and_left : (b c : Bool) → (b && c) ≡ true → b ≡ true
and_left true c e = refl
and_left false c e = e

pub row_is : (l : Layout) (path : Path) (w : Walk) → Follows l path w → row_at path ≡ row_after w
row_is l path w follows = raw_row path.pred.raw ∙ ap (λ r. row_of (bare_of r)) follows.link.raw

pub through : (a b c : ℕ) → a ≤ b → b ≤ c → a ≤ c
through a b c i j = omega (arith, i, j)

module _ (l : Layout) (p : Place) (free : List ℕ) (s : State) (e : Event) (h k : ListHeap) (me you : Who) (call : Call) (reply : Reply) (path : Path) where
  abbrev pub on : Carried
  on = record { call = call; reply = reply; path = path }

  abbrev pub op_at : At → HeldOp
  op_at at = stands on at

  abbrev pub told : ℕ
  told = answer s e

  abbrev pub words_then : List ℕ
  words_then = (after s e).words

  abbrev pub m_at : At → Machine
  m_at at = machine_takes p free (machine_at at) told

  abbrev pub next_at : At → HeldOp
  next_at at = resumed l p free (op_at at) (m_at at)

  abbrev pub Own : At → Type 0
  Own at = OwnEvent (list_crew l p free) l p free s e h k me you (op_at at)

  -- it goes on in this search, with this much behind its machine
  pub record GoesOn (words : List ℕ) (at : At) (left : ℕ) (next : HeldOp) : Type 0 where
    pub within : total l p free words next ≤ left + rest_at l s.words path at
    pub again : again l p free words next ≤ again_at p s.words path at

  abbrev pub IsQuiet : At → Type 0
  IsQuiet at = GoesOn words_then at (machine_left (m_at at)) (next_at at)

  -- the next machine and all that may follow it
  abbrev pub Resumes : At → Type 0
  Resumes at = machine_left (machine_at (next_at at).at) + list_behind l p words_then (next_at at)
      ≤ machine_left (m_at at) + list_behind l p s.words (op_at at)

  pub quiet_resumes : (at : At) → IsQuiet at → Resumes at
  quiet_resumes at q = both (machine_left (machine_at (next_at at).at)) (rest_at l words_then (next_at at).path (next_at at).at)
      (again_at p words_then (next_at at).path (next_at at).at) (machine_left (m_at at)) (rest_at l s.words path at) (again_at p s.words path at)
      q.within q.again
    where
      both : (a r g m s b : ℕ) → a + r ≤ m + s → g ≤ b → a + (r + g) ≤ m + (s + b)
      both a r g m s b i j = omega (arith, i, j)

  -- what stands with the words as they were, and a load that has ended
  abbrev pub LoadsOn : At → HeldVLoad → HeldOp → Type 0
  LoadsOn at n next = GoesOn s.words at (machine_left (Works (VLoads n))) next

  ended_load : (m : HeldVLoad) → m.at ≡ V_reads → v_load_taken m told ≡ record m { at = V_has told }
  ended_load m is = ap (λ x. v_load_takes x m told) is

  reads_of : (m : HeldVLoad) (x : VLoading) → m.at ≡ x → v_load_asks x m ≡ Some e → m.at ≡ V_reads
  reads_of m V_reads is q = is
  reads_of m (V_has raw) is q = absurd (none-some e q)

  -- a load ends as it is told
  pub load_ends : (at : At) (m : HeldVLoad) (then_op : HeldVLoad → HeldOp) → v_load_asks m.at m ≡ Some e →
      (slice_index s.words m.word ≡ told → LoadsOn at (record m { at = V_has told }) (then_op (record m { at = V_has told }))) →
      GoesOn words_then at (machine_left (Works (VLoads (v_load_taken m told)))) (then_op (v_load_taken m told))
  load_ends at m then_op q goes =
      let is : m.at ≡ V_reads = reads_of m m.at refl q in
      let asks : v_load_asks V_reads m ≡ Some e = subst (λ x. v_load_asks x m ≡ Some e) is q in
      subst (λ ws. GoesOn ws at (machine_left (Works (VLoads (v_load_taken m told)))) (then_op (v_load_taken m told))) (sym (load_words s e m.word asks))
      (subst (λ n. LoadsOn at n (then_op n)) (sym (ended_load m is)) (goes (load_told s e m.word asks)))

  -- within the queue, and what might follow
  pub from_queue : (t q b c : ℕ) → t ≤ q + b → b ≤ c → t ≤ 0 + q + c
  from_queue t q b c i j = omega (arith, i, j)

  -- ---- a head, and a row's link

  head_loaded : (m : HeldVLoad) → slice_index s.words m.word ≡ told → LoadsOn (Head m) (record m { at = V_has told }) (head_by l p free on m (V_has told))
  head_loaded m is =
      let then_on : Carried = record on { path = from_head path m.word told } in
      let next : HeldOp = looks l p free then_on m.hand in
      record {
        within = from_queue (total l p free s.words next) (length m.hand.queue) (7 * 2 ^ 32 + 17) (7 * 2 ^ 32 + 17)
            (to_head l p free s.words on m.hand m.word told)
            (omega arith);
        again = through (again l p free s.words next) (unless (still p s.words (loaded m.word told))) 0 (looks_again l p free s.words then_on m.hand)
            (same_le (unless (still p s.words (loaded m.word told))) 0 (ap unless (wins_as_read p s.words m.word told is)));
      }

  pub head_ends : (m : HeldVLoad) → Own (Head m) → IsQuiet (Head m)
  head_ends m own = load_ends (Head m) m (λ n. head_by l p free on n n.at) own.asks (λ is. head_loaded m is)

  next_loaded : (m : HeldVLoad) → slice_index s.words m.word ≡ told → LoadsOn (Next m) (record m { at = V_has told }) (next_by l p free on m (V_has told))
  next_loaded m is = record {
    within = from_queue (total l p free s.words (next_by l p free on m (V_has told))) (length m.hand.queue)
        (7 * keys_ahead l s.words path + path_cost path + 14) (7 * keys_ahead l s.words path + path_cost path + 14)
        (to_link_got l p free s.words on m.hand m.word told (is_marked told))
        (same_le (7 * keys_ahead l s.words path + path_cost path + 14) (7 * keys_ahead l s.words path + path_cost path + 14) refl);
    again = by_mark (is_marked told);
  }
    where
      then_on : Carried
      then_on = record on { path = with_next path m.word told }

      by_mark : (b : Bool) → again l p free s.words (if b
          then confirms l p free (record on { path = with_next path m.word told }) m.hand To_help
          else stands (record on { path = with_next path m.word told }) (Key (v_load_started m.hand (key_word l (row_at path)))))
          ≤ unless (still p s.words path.pred)
      by_mark true = confirms_again l p free s.words (record on { path = with_next path m.word told }) m.hand To_help
      by_mark false = unless_both (still p s.words path.pred) (still p s.words (loaded m.word told)) (wins_as_read p s.words m.word told is)

  pub next_ends : (m : HeldVLoad) → Own (Next m) → IsQuiet (Next m)
  next_ends m own = load_ends (Next m) m (λ n. next_by l p free on n n.at) own.asks (λ is. next_loaded m is)

  -- ---- a row's key

  -- behind a row's link there are fewer keys
  key_fewer : (w : Walk) (n : Loaded) (m : HeldVLoad) → Own (Key m) → FollowsTo l path w n → KnowsKey l h me w n m →
      keys_ahead l s.words (further path) + 1 ≤ keys_ahead l s.words path
  key_fewer w n m own follows f =
      let saw = f.stands.spot.saw in
      subst (λ r. keys_from l s.words (row_at (further path)) + 1 ≤ keys_from l s.words r) (sym (row_is l path w follows.walk))
      (subst (λ r. keys_from l s.words r + 1 ≤ keys_from l s.words (row_after w)) (sym row_next)
      (keys_fewer l s.words h.words own.words (row_after w) (row_of (bare_of n.raw)) f.next.next.some
      (own.kept.small (row_after w) (leads_linked l h (key_of me.call) w.link.word (bare_of w.link.raw) saw f.next.next.some))
      (⊎_elim (λ z. inl z) (λ leads. inr (less (key_in l h.words (row_after w)) (key_in l h.words (row_of (bare_of n.raw))) leads.above))
      f.next.next.saw.form.leads)))
    where
      row_next : row_at (further path) ≡ row_of (bare_of n.raw)
      row_next = raw_row path.next.raw ∙ ap (λ r. row_of (bare_of r)) follows.next.raw

      less : (a b : ℕ) → a + 1 ≤ b → a < b
      less a b h = omega (arith, h)

  -- where the key is loaded, the search ends there or goes on behind the row
  key_loaded : (m : HeldVLoad) → keys_ahead l s.words (further path) + 1 ≤ keys_ahead l s.words path →
      LoadsOn (Key m) (record m { at = V_has told }) (key_by l p free on m (V_has told))
  key_loaded m fewer = by_equal (value_of told == key_of call)
    where
      n : HeldVLoad
      n = record m { at = V_has told }

      found : LoadsOn (Key m) (record m { at = V_has told }) (confirms l p free on m.hand To_found)
      found = record {
        within = up (total l p free s.words (confirms l p free on m.hand To_found)) (length m.hand.queue) (keys_ahead l s.words path)
            (keys_ahead l s.words (further path)) (next_cost path) fewer (to_confirms l p free s.words on m.hand To_found);
        again = through (again l p free s.words (confirms l p free on m.hand To_found)) (unless (still p s.words path.next))
            (unless (still p s.words path.pred && still p s.words path.next)) (confirms_again l p free s.words on m.hand To_found)
            (unless_second (still p s.words path.pred) (still p s.words path.next));
      }
        where
          up : (t q k f c : ℕ) → f + 1 ≤ k → t ≤ q + (c + 12 + 2) → t ≤ 0 + q + (7 * k + c + 11)
          up t q k f c h i = omega (arith, h, i)

      passed : LoadsOn (Key m) (record m { at = V_has told }) (confirms l p free on m.hand To_absent)
      passed = record {
        within = up (total l p free s.words (confirms l p free on m.hand To_absent)) (length m.hand.queue) (keys_ahead l s.words path)
            (keys_ahead l s.words (further path)) (path_cost path) (cost path.next.confirmed) fewer (to_confirms l p free s.words on m.hand To_absent);
        again = through (again l p free s.words (confirms l p free on m.hand To_absent)) (unless (still p s.words path.pred))
            (unless (still p s.words path.pred && still p s.words path.next)) (confirms_again l p free s.words on m.hand To_absent)
            (unless_first (still p s.words path.pred) (still p s.words path.next));
      }
        where
          up : (t q k f c x : ℕ) → f + 1 ≤ k → t ≤ q + (c + 12 + 2) → t ≤ 0 + q + (7 * k + (c + x) + 11)
          up t q k f c x h i = omega (arith, h, i)

      onward : LoadsOn (Key m) (record m { at = V_has told }) (looks l p free (record on { path = further path }) m.hand)
      onward = record {
        within = up (total l p free s.words (looks l p free (record on { path = further path }) m.hand)) (length m.hand.queue) (keys_ahead l s.words path)
            (keys_ahead l s.words (further path)) (back_cost path.back) (cost path.pred.confirmed) (cost path.next.confirmed) fewer
            (to_looks l p free s.words (record on { path = further path }) m.hand);
        again = through (again l p free s.words (looks l p free (record on { path = further path }) m.hand)) (unless (still p s.words path.next))
            (unless (still p s.words path.pred && still p s.words path.next)) (looks_again l p free s.words (record on { path = further path }) m.hand)
            (unless_second (still p s.words path.pred) (still p s.words path.next));
      }
        where
          up : (t q k f b c x : ℕ) → f + 1 ≤ k → t ≤ q + (7 * f + (c + x) + 15) → t ≤ 0 + q + (7 * k + (b + c + x) + 11)
          up t q k f b c x h i = omega (arith, h, i)

      by_greater : (b : Bool) → LoadsOn (Key m) (record m { at = V_has told })
          (if b then confirms l p free on m.hand To_absent else looks l p free (record on { path = further path }) m.hand)
      by_greater true = passed
      by_greater false = onward

      by_equal : (b : Bool) → LoadsOn (Key m) (record m { at = V_has told }) (if b
          then confirms l p free on m.hand To_found
          else (if nat_lt (key_of call) (value_of told)
          then confirms l p free on m.hand To_absent
          else looks l p free (record on { path = further path }) m.hand))
      by_equal true = found
      by_equal false = by_greater (nat_lt (key_of call) (value_of told))

  pub key_ends : (m : HeldVLoad) → Own (Key m) → IsQuiet (Key m)
  key_ends m own = load_ends (Key m) m (λ n. key_by l p free on n n.at) own.asks
      (λ is. key_loaded m (key_fewer own.knows.walk own.knows.next m own own.knows.at.0 own.knows.at.1))

  -- ---- a confirmation

  confirmed_goes : (goal : Goal) (which : Which) (m n : HeldConfirm) → GoesOn s.words (Confirming goal which m) (machine_left (Works (Confirms n)))
      (confirmed l p free on (confirm_left n) goal which)
  confirmed_goes goal which m n = record {
    within = up (total l p free s.words (confirmed l p free on (confirm_left n) goal which)) (length (confirm_left n).queue) (machine_left (Works (Confirms n)))
        (confirming_rest l s.words (path_confirmed path which) goal + 2) (to_confirmed l p free s.words on (confirm_left n) goal which) (left_within n);
    again = confirmed_again l p free s.words on (confirm_left n) goal which;
  }
    where
      up : (t x q b : ℕ) → t ≤ x + b → x ≤ q → t ≤ q + b
      up t x q b i j = omega (arith, i, j)

  pub confirming_ends : (goal : Goal) (which : Which) (m : HeldConfirm) → Own (Confirming goal which m) →
      has_ended p (m_at (Confirming goal which m)) ≡ true → IsQuiet (Confirming goal which m)
  confirming_ends goal which m own ended =
      let n : HeldConfirm = confirm_taken p m told in
      subst (λ ws. GoesOn ws (Confirming goal which m) (machine_left (Works (Confirms n)))
      (confirms_by p on goal which n (confirmed l p free on (confirm_left n) goal which))) (sym (confirm_words p s e m m.at own.asks))
      (subst (λ b. GoesOn s.words (Confirming goal which m) (machine_left (Works (Confirms n)))
      (if b then confirmed l p free on (confirm_left n) goal which else stands on (Confirming goal which n)))
      (sym (and_left (is_none (confirm_asked p n)) true ended)) (confirmed_goes goal which m n))
