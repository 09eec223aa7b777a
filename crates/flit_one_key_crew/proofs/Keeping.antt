-- The sample meets each obligation of the crew.
use Rattle.std.proofs.Common.{◌≡◌, ◌≢◌, ⊎_elim, ℕ, ◌+◌, ◌<◌, ◌≤◌, true, List, [], length, take, Contains, Some, None, refl, sym, ◌∙◌, ap, subst, arith, append-nil}
use Rattle.std.proofs.lemmas.List.{get_or-set_other, take-append-le}
use Rattle.flit_words.specs.declared.layouts.Layout.{Layout}
use Rattle.flit_words.specs.Words.{version_of, value_of, bare_of}
use Rattle.flit_model.specs.Maps.{reply_of, map_after_all}
use Rattle.flit_model.specs.Histories.{is_read_by}
use Rattle.flit_model.specs.declared.events.Event.TheVariants.{Load}
use Rattle.flit_model.specs.declared.calls.Call.{Call}
use Rattle.flit_model.specs.declared.calls.Reply.{Reply}
use Rattle.flit_model.proofs.Membership.{contains_none}
use Rattle.flit_place.specs.Tags.{Place}
use Rattle.flit_pv.specs.Hands.{with_persist}
use Rattle.flit_pv.specs.Stores.{store_taken}
use Rattle.flit_pv.specs.Fences.{HeldComplete}
use Rattle.flit_pv.specs.Exchanges.{HeldExchange, exchange_taken}
use Rattle.flit_pv.specs.declared.exchanges.Exchanging.TheVariants.{WritesBack, Withdraws}
use Rattle.flit_pv.proofs.OneEvent.{store_goes_further}
use Rattle.flit_rows.specs.Taking.{HeldTake, take_taken}
use Rattle.flit_runs.specs.Workings.{Exchanges, Completes, ToLoad, leaves}
use Rattle.flit_runs.specs.Worlds.{IsAway}
use Rattle.flit_runs.specs.Soundness.{IsNext, Needs}
use Rattle.flit_structure.specs.Moments.{update_of, waiting_updates}
use Rattle.flit_structure.specs.Meanings.{IsServed}
use Rattle.flit_structure.specs.Lawful.{IsPlacedFrom}
use Rattle.flit_crew.specs.Machines.{Machine, Works, Takes, part_of, exchange_part, ToWin, HasLost, machine_takes, working_in, has_ended}
use Rattle.flit_crew.specs.Heaps.{at_word, at_shadow, waits_at, stored, won, IsShut, HaveStayed, AreResting}
use Rattle.flit_crew.specs.Crews.{Who, IsFurther, Goes, Facts, OwnsRows, IsCoherent, left, effect_of, links_of}
use Rattle.flit_crew.specs.Obligations.{Keeps, WonSo, IsAfter}
use Rattle.flit_one_key.specs.Operations.{At, Head, Key, Value, Row, Words, RowValue, Link, Ends, Rests, HeldOp}
use Rattle.flit_one_key.specs.Steps.{IsSmall, key_word, value_word, with_search, with_number}
use Rattle.flit_one_key_crew.specs.OneKeyAnatomy.{machine_at, with_machine_at, with_machine, one_key_anatomy, effects_at, past_at, storing_at, resumed_at, resumed}
use Rattle.flit_one_key_crew.specs.OneKeyCrew.{Words_of, version_first, updates, HasLinked, IsRight, LinkKnows, KnowsAt, Kept, Later, one_key_crew, OneKeyKeeps}
use Rattle.flit_one_key_crew.proofs.RowWords.{head_open, below, row_has, key_at, value_at}
use Rattle.flit_one_key_crew.proofs.Heaps.{SameRow, same_row, blind, settles_word}
use Rattle.flit_one_key_crew.proofs.Knowing.{Carries, carries_further, knows_on, like_same, like_after, exchange_stays, inserting}
use Rattle.flit_one_key_crew.proofs.Loading.{reads_at}
use Rattle.flit_one_key_crew.proofs.Winning.{link_at, wins_link}
use Rattle.flit_one_key_crew.proofs.Resumes.{ended_goes, ended_stays}
use Rattle.flit_one_key_crew.proofs.Images.{recovers_here}

-- ---- the operation with its machine further on

put_at : (p : Place) (free : List ℕ) (at : At) (told : ℕ) → let m = machine_takes p free (machine_at at) told in machine_at (with_machine_at at m) ≡ m
put_at p free (Head m) told = refl
put_at p free (Key head m) told = refl
put_at p free (Value m) told = refl
put_at p free (Row head m) told = refl
put_at p free (Words head m) told = refl
put_at p free (RowValue head m) told = refl
put_at p free (Link m) told = refl
put_at p free (Ends m) told = refl
put_at p free (Rests hand) told = refl

put_effects_at : (p : Place) (free : List ℕ) (at : At) (told : ℕ) → effects_at (with_machine_at at (machine_takes p free (machine_at at) told)) ≡ effects_at at
put_effects_at p free (Head m) told = refl
put_effects_at p free (Key head m) told = refl
put_effects_at p free (Value m) told = refl
put_effects_at p free (Row head m) told = refl
put_effects_at p free (Words head m) told = refl
put_effects_at p free (RowValue head m) told = refl
put_effects_at p free (Link m) told = refl
put_effects_at p free (Ends m) told = refl
put_effects_at p free (Rests hand) told = refl

put_past_at : (p : Place) (free : List ℕ) (call : Call) (reply : Reply) (at : At) (told : ℕ) →
    past_at call reply (with_machine_at at (machine_takes p free (machine_at at) told)) ≡ past_at call reply at
put_past_at p free call reply (Head m) told = refl
put_past_at p free call reply (Key head m) told = refl
put_past_at p free call reply (Value m) told = refl
put_past_at p free call reply (Row head m) told = refl
put_past_at p free call reply (Words head m) told = refl
put_past_at p free call reply (RowValue head m) told = refl
put_past_at p free call reply (Link m) told = refl
put_past_at p free call reply (Ends m) told = refl
put_past_at p free call reply (Rests hand) told = refl

put_storing_at : (l : Layout) (p : Place) (free : List ℕ) (call : Call) (at : At) (told : ℕ) →
    storing_at l call (with_machine_at at (machine_takes p free (machine_at at) told)) ≡ storing_at l call at
put_storing_at l p free call (Head m) told = refl
put_storing_at l p free call (Key head m) told = refl
put_storing_at l p free call (Value m) told = refl
put_storing_at l p free call (Row head m) told = refl
put_storing_at l p free call (Words head m) told = refl
put_storing_at l p free call (RowValue head m) told = refl
put_storing_at l p free call (Link m) told = refl
put_storing_at l p free call (Ends m) told = refl
put_storing_at l p free call (Rests hand) told = refl

left_at : (l : Layout) (p : Place) (free : List ℕ) (me : Who) (at : At) → left (one_key_crew l free) l p free me (working_in (machine_at at)) ≡ me
left_at l p free me (Head m) = refl
left_at l p free me (Key head m) = refl
left_at l p free me (Value m) = refl
left_at l p free me (Row head m) = refl
left_at l p free me (Words head m) = refl
left_at l p free me (RowValue head m) = refl
left_at l p free me (Link m) = refl
left_at l p free me (Ends m) = refl
left_at l p free me (Rests hand) = refl

module _ (l : Layout) (small : IsSmall l) (p : Place) (free : List ℕ) where
  -- ---- others

  lasts_at : (h k : Words_of) (me : Who) (op : HeldOp) → Kept l free h → Later l free h k →
      HaveStayed l h k (Rattle.flit_crew.specs.Anatomies.own (one_key_anatomy l free) op) →
      KnowsAt l h me op.call op.reply op.at → KnowsAt l k me op.call op.reply op.at
  lasts_at h k me op is later stayed s = knows_on l free h k me me (record {
    opening = later.opening;
    more = later.grown.0;
    grown = later.grown.1;
    key = λ q. later.key (is.out q);
    value = λ q. later.value (is.out q);
    first = refl;
    needs = λ w v n. n;
    private = λ w a. a;
  }) op.call op.reply op.at op.at (λ c. same_row l small h k (λ w lt other. stayed 1 w c (row_has l small w lt other))) (like_same op.at) s

  -- ---- its own events

  stays_put : (h : Words_of) → SameRow l h h
  stays_put h = record { key = refl; link = refl; value = refl }

  further_at : (h : Words_of) (me you : Who) (op : HeldOp) → IsFurther me you → KnowsAt l h me op.call op.reply op.at → KnowsAt l h you op.call op.reply op.at
  further_at h me you op f s = knows_on l free h h me you (carries_further l h me you f) op.call op.reply op.at op.at (λ c. stays_put h) (like_same op.at) s

  steady_at : (h : Words_of) (me you : Who) (op : HeldOp) (m : Machine) → IsAfter (one_key_crew l free) l p free op m → IsFurther me you →
      part_of m ≡ part_of (machine_at op.at) → KnowsAt l h me op.call op.reply op.at → KnowsAt l h you op.call op.reply (with_machine_at op.at m)
  steady_at h me you op m after f same s = subst (λ x. KnowsAt l h you op.call op.reply (with_machine_at op.at x)) (sym after.1)
      (knows_on l free h h me you (carries_further l h me you f) op.call op.reply op.at
      (with_machine_at op.at (machine_takes p free (machine_at op.at) after.0))
      (λ c. stays_put h) (like_after p free op.at after.0 (ap part_of (sym after.1) ∙ same)) s)

  -- a word of its row is stored: one of those that its store fills
  shut_in : (h : Words_of) → Kept l free h → (w : ℕ) → IsShut l free h w → HasLinked h → ⊥
  shut_in h is w shut has =
      let same = only shut.pool in
      shut.unlinked (subst (Contains h.given) same ((is.out has).0 (subst (Contains free) (sym same) shut.pool)))
    where
      only : Contains free shut.row → 1 ≡ shut.row
      only c = ⊎_elim (λ e. absurd (contains_none shut.row (subst (λ xs. Contains xs shut.row) e c)))
          (λ e. ⊎_elim (λ q. q) (λ n. absurd (contains_none shut.row n))
          (Rattle.flit_model.proofs.Membership.contains_cases 1 [] shut.row (subst (λ xs. Contains xs shut.row) e c))) is.pool

  module _ (h : Words_of) (is : Kept l free h) (me you : Who) (f : IsFurther me you) (w to : ℕ) (shut : IsShut l free h w) (call : Call) (reply : Reply) where
    abbrev k : Words_of
    k = stored h w to

    carries_stored : Carries l h k me you
    carries_stored = record {
      opening = refl;
      more = [];
      grown = sym (append-nil (updates h));
      key = λ q. absurd (shut_in h is w shut q);
      value = λ q. absurd (shut_in h is w shut q);
      first = f.first;
      needs = f.needs;
      private = f.private;
    }

    nothing : 0 ≤ w → w < 0 + 0 → ⊥
    nothing a b = omega (arith, a, b)

    stores_at : (at : At) (told : ℕ) → (storing_at l call at).first ≤ w → w < (storing_at l call at).first + length (storing_at l call at).values →
        KnowsAt l h me call reply at → KnowsAt l k you call reply (with_machine_at at (machine_takes p free (machine_at at) told))
    stores_at (Head m) told a b s = absurd (nothing a b)
    stores_at (Key head m) told a b s = absurd (nothing a b)
    stores_at (Value m) told a b s = absurd (nothing a b)
    stores_at (Row head m) told a b s = absurd (nothing a b)
    stores_at (Words head m) told a b s =
        (inserting l h k me you carries_stored call head m.hand (store_taken m told).hand (store_goes_further m told).spare s.0, f.private (value_word l) s.1)
    stores_at (RowValue head m) told a b s = (
      inserting l h k me you carries_stored call head m.hand (store_taken m told).hand (store_goes_further m told).spare s.0,
      record {
        key = ap value_of (get_or-set_other h.words w (key_word l) to 0
            (key_apart (key_word l) (value_word l) w (key_at l small) (value_at l small) a)) ∙ s.1.key;
        link = ap value_of (get_or-set_other h.words w (key_word l + 1) to 0
            (link_apart (key_word l) (value_word l) w (key_at l small) (value_at l small) a)) ∙ s.1.link;
      },
      s.2,
    )
      where
        key_apart : (k v w : ℕ) → k ≡ 1 → v ≡ 3 → v ≤ w → k ≢ w
        key_apart k v w a b c e = absurd (omega (arith, a, b, c, e))

        link_apart : (k v w : ℕ) → k ≡ 1 → v ≡ 3 → v ≤ w → k + 1 ≢ w
        link_apart k v w a b c e = absurd (omega (arith, a, b, c, e))
    stores_at (Link m) told a b s = absurd (nothing a b)
    stores_at (Ends m) told a b s = absurd (nothing a b)
    stores_at (Rests hand) told a b s = absurd s

  -- ---- its exchange

  module _ (h : Words_of) (is : Kept l free h) (me you : Who) (f : IsFurther me you) (call : Call) (reply : Reply) (m : HeldExchange) where
    abbrev with_at : At → HeldOp
    with_at at = record { call = call; reply = reply; at = at }

    abbrev Wins : At → Type 0
    Wins at = AreResting l free h (links_of (one_key_anatomy l free) (with_at at)) → KnowsAt l h me call reply at →
        (ghost : Unit {0}) × WonSo (one_key_crew l free) l p free h me you (with_at at) m
        (won h m.word m.to (effect_of (one_key_anatomy l free) (with_at at) me) (links_of (one_key_anatomy l free) (with_at at)) ghost)

    wins_at : call ≡ me.call → exchange_part m.at ≡ ToWin → waits_at h m.word ≡ None → at_word h m.word ≡ bare_of m.from → IsNext m → Wins (Link m)
    wins_at same part none found next rests s =
        let here : m.word ≡ 0 = s.0 in (
          h.ghost,
          subst (λ w. WonSo (one_key_crew l free) l p free h me you (with_at (Link m)) m
              (won h w m.to (Some (update_of me.name me.number me.call)) (links_of (one_key_anatomy l free) (with_at (Link m))) h.ghost)) (sym here)
              (wins_link l small p free h is me you call reply m same (ap (waits_at h) (sym here) ∙ none) (ap (at_word h) (sym here) ∙ found) next here
              (subst (LinkKnows l h me call m) part s.1) rests),
        )

    same_exchange : (x n : HeldExchange) → Works (Exchanges n) ≡ Works (Exchanges x) → n ≡ x
    same_exchange x n e = cc

    loses_at : (n : HeldExchange) (found told : ℕ) → Works (Exchanges n) ≡ machine_takes p free (machine_at (Link m)) told →
        exchange_part n.at ≡ HasLost found →
        me.private ≡ [] → KnowsAt l h me call reply (Link m) → KnowsAt l h you call reply (Link n)
    loses_at n found told after part none s =
        let same : n ≡ exchange_taken p m told = same_exchange (exchange_taken p m told) n after in (
          ap (λ x. x.word) same ∙ (exchange_stays p m told).word ∙ s.0,
          subst (LinkKnows l h you call n) (sym part) (λ w. f.private w (subst (λ xs. IsAway xs w) (sym none) tt)),
        )

    writes_at : m.at ≡ WritesBack → KnowsAt l h me call reply (Link m) →
        KnowsAt l h you call reply (Link (record m { at = Withdraws; hand = with_persist m.hand }))
    writes_at at s = (s.0, subst (λ t. LinkKnows l h me call m (exchange_part t)) at s.1)

  -- ---- a row is drawn

  draws_at : (h : Words_of) (me : Who) (call : Call) (reply : Reply) (at : At) (m n : HeldTake) → machine_at at ≡ Takes m → KnowsAt l h me call reply at →
      KnowsAt l h me call reply (Rattle.flit_one_key_crew.specs.OneKeyAnatomy.with_take at n)
  draws_at h me call reply (Head x) m n e s = absurd (cc)
  draws_at h me call reply (Key head x) m n e s = absurd (cc)
  draws_at h me call reply (Value x) m n e s = absurd (cc)
  draws_at h me call reply (Row head x) m n e s = s
  draws_at h me call reply (Words head x) m n e s = absurd (cc)
  draws_at h me call reply (RowValue head x) m n e s = absurd (cc)
  draws_at h me call reply (Link x) m n e s = absurd (cc)
  draws_at h me call reply (Ends x) m n e s = absurd (cc)
  draws_at h me call reply (Rests hand) m n e s = absurd (cc)

  -- ---- the reply

  placed : (h : Words_of) → Kept l free h → (me : Who) (call : Call) (reply : Reply) → call ≡ me.call →
      ((w v : ℕ) → Needs me.needs w v → v ≤ version_of (at_shadow h w)) →
      is_read_by me.call reply ≡ true → IsRight l h me call reply →
      IsPlacedFrom me.first h.opening.content h.progress.settled (record { worker = me.name; number = me.number; call = me.call; reply = reply })
  placed h is me call reply same kept read r = (
    r.index,
    r.since,
    record {
      read = read;
      within = within;
      right = r.right ∙ ap (λ es. reply_of (map_after_all h.opening.content es) call)
          (take-append-le r.index h.progress.settled (waiting_updates h.progress) within)
          ∙ ap (reply_of (map_after_all h.opening.content (take r.index h.progress.settled))) same;
    },
  )
    where
      least : (v i s n : ℕ) → v + i ≤ s → s ≡ v + n → i ≤ n
      least v i s n a b = omega (arith, a, b)

      within : r.index ≤ length h.progress.settled
      within = least (version_first h) r.index (version_of (at_shadow h 0)) (length h.progress.settled)
          (kept 0 (version_first h + r.index) r.needed) is.shadow.counts

  answers_at : (h : Words_of) → Kept l free h → (me : Who) (call : Call) (reply : Reply) (at : At) (m : HeldComplete) → call ≡ me.call →
      machine_at at ≡ Works (Completes m) →
      ((w v : ℕ) → Needs me.needs w v → v ≤ version_of (at_shadow h w)) → is_read_by me.call reply ≡ true → KnowsAt l h me call reply at →
      IsPlacedFrom me.first h.opening.content h.progress.settled (record { worker = me.name; number = me.number; call = me.call; reply = reply })
  answers_at h is me call reply (Head x) m same e kept read s = absurd (cc)
  answers_at h is me call reply (Key head x) m same e kept read s = absurd (cc)
  answers_at h is me call reply (Value x) m same e kept read s = absurd (cc)
  answers_at h is me call reply (Row head x) m same e kept read s = absurd (cc)
  answers_at h is me call reply (Words head x) m same e kept read s = absurd (cc)
  answers_at h is me call reply (RowValue head x) m same e kept read s = absurd (cc)
  answers_at h is me call reply (Link x) m same e kept read s = absurd (cc)
  answers_at h is me call reply (Ends x) m same e kept read s = placed h is me call reply same kept read
      (s (subst (λ c. is_read_by c reply ≡ true) (sym same) read))
  answers_at h is me call reply (Rests hand) m same e kept read s = absurd s

  -- ---- where its machine has ended

  module _ (h : Words_of) (is : Kept l free h) (me : Who) (op : HeldOp) (m : Machine) (after : IsAfter (one_key_crew l free) l p free op m)
      (same : op.call ≡ me.call) (ended : has_ended p m ≡ true) (owns : OwnsRows (one_key_crew l free) l p free h (with_machine op m) m)
      (s : KnowsAt l h me op.call op.reply (with_machine_at op.at m)) where
    abbrev now : At
    now = with_machine_at op.at m

    machine_now : machine_at now ≡ m
    machine_now = subst (λ x. machine_at (with_machine_at op.at x) ≡ x) (sym after.1) (put_at p free op.at after.0)

    resumes_at : IsServed l me.call → Facts (one_key_crew l free) l p free h me (with_machine op m) m →
        Goes (one_key_crew l free) l p free h (left (one_key_crew l free) l p free me (working_in m)) (leaves (working_in m)) (resumed l free op m)
    resumes_at served facts =
        subst (λ x. Goes (one_key_crew l free) l p free h (left (one_key_crew l free) l p free me (working_in x)) (leaves (working_in x))
        (resumed l free op m)) machine_now
        (subst (λ who. Goes (one_key_crew l free) l p free h who (leaves (working_in (machine_at now))) (resumed l free op m)) (sym (left_at l p free me now))
        (ended_goes l small p free h is me op.call op.reply same (subst (IsServed l) (sym same) served) now
        (subst (λ x. has_ended p x ≡ true) (sym machine_now) ended)
        (subst (Facts (one_key_crew l free) l p free h me (with_machine op m)) (sym machine_now) facts)
        (subst (OwnsRows (one_key_crew l free) l p free h (with_machine op m)) (sym machine_now) owns) s))

    coherent_at : IsCoherent (one_key_crew l free) l p free (with_machine op m) (resumed l free op m)
    coherent_at = ended_stays l small p free h is me op.call op.reply same now
        (subst (λ x. has_ended p x ≡ true) (sym machine_now) ended)
        (subst (OwnsRows (one_key_crew l free) l p free h (with_machine op m)) (sym machine_now) owns) s

  -- ---- all of them

  pub keeps : Keeps (one_key_crew l free) l p free
  keeps = record {
    lasts = λ h k who me op is now later other stayed old s. lasts_at h k me op is later stayed s;
    settles = λ h w is o ahead. settles_word l small free h is w o ahead;
    blind = λ h k who is a. blind l small free h is k a;
    same = λ h who. record { opening = refl; grown = ([], sym (append-nil (updates h))); key = λ q. refl; value = λ q. refl };
    awake = λ hand call served. (Load 0, refl, below l small 0 (omega arith));
    begins = λ h me hand is served since none. ((λ w. subst (λ xs. IsAway xs w) (sym none) tt), refl);
    starts = λ h me hand is served. record {
      task = ToLoad 0;
      now = with_search (with_number hand);
      alike = record { name = refl; number = refl; queue = refl; ticket = refl; queued = refl };
      may = head_open l small free h;
      none = refl;
      at = refl;
      going = refl;
      call = refl;
      is_for = tt;
    };
    begun_own = λ hand call. refl;
    begun_spare = λ hand call. refl;
    begun_deed = λ hand call. refl;
    put = λ op m after. subst (λ x. machine_at (with_machine_at op.at x) ≡ x) (sym after.1) (put_at p free op.at after.0);
    put_call = λ op m after. refl;
    put_effects = λ op m after. subst (λ x. effects_at (with_machine_at op.at x) ≡ effects_at op.at) (sym after.1) (put_effects_at p free op.at after.0);
    put_past = λ op m after. subst (λ x. past_at op.call op.reply (with_machine_at op.at x) ≡ past_at op.call op.reply op.at) (sym after.1)
        (put_past_at p free op.call op.reply op.at after.0);
    put_reply = λ op m after. refl;
    put_storing = λ op m after. subst (λ x. storing_at l op.call (with_machine_at op.at x) ≡ storing_at l op.call op.at) (sym after.1)
        (put_storing_at l p free op.call op.at after.0);
    more = λ h me you op is f s. further_at h me you op f s;
    steady = λ h me you op m after is f same s. steady_at h me you op m after f same s;
    reads = λ h me you op m word raw after is since old f o same was now so s.
        subst (λ x. KnowsAt l h you op.call op.reply (with_machine_at op.at x)) (sym after.1)
        (reads_at l free h is me you f since op.call p op.reply op.at after.0 word raw same was (ap part_of (sym after.1) ∙ now)
        (subst (λ x. Rattle.flit_crew.specs.Obligations.HasRead_so (working_in x) you word raw) after.1 so) s);
    resumes = λ h me op m after is served most named since old same ended facts owns s. resumes_at h is me op m after same ended owns s served facts;
    coherent = λ h me op m after is same ended owns s. coherent_at h is me op m after same ended owns s;
    wins = λ h me you op m is since f same at part needs none o waits word shadow next needed rests s.
        subst (Wins h is me you f op.call op.reply m) (sym (link_at op.at m at))
        (wins_at h is me you f op.call op.reply m same part waits word next)
        rests s;
    loses = λ h me you op m n found after is f at part lost none s.
        let here = link_at op.at m at in
        loses_at h is me you f op.call op.reply m n found after.0
        (subst (λ x. Works (Exchanges n) ≡ machine_takes p free (machine_at x) after.0) here after.1) lost none
        (subst (KnowsAt l h me op.call op.reply) here s);
    writes = λ h me you op m is f at stage kept s.
        writes_at h is me you f op.call op.reply m stage (subst (KnowsAt l h me op.call op.reply) (link_at op.at m at) s);
    recovers = λ h is. recovers_here l small free h is;
    stores = λ h me you op m w to after is f private mine least most s.
        subst (λ x. KnowsAt l (stored h w to) you op.call op.reply (with_machine_at op.at x)) (sym after.1)
        (stores_at h is me you f w to mine.shut op.call op.reply op.at after.0 least most s);
    draws = λ h me op m told is at stage s. draws_at h me op.call op.reply op.at m (take_taken free m told) at s;
    answers = λ h me op m is since same at kept read s. answers_at h is me op.call op.reply op.at m same at kept read s;
  }

pub one_key_keeps : OneKeyKeeps
one_key_keeps = record { keeps = λ l p free small. keeps l small p free }
