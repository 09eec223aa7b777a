-- Where a call goes on: its next machine starts in a sound world, and the next, as long as one ends without an event.
use Rattle.std.proofs.Common.{◌≡◌, ◌≢◌, ◌⊎◌, inl, inr, ℕ, ◌<◌, ◌≤◌, nat_le, ◌&&◌, Bool, true, false, List, [], ◌∷◌, ◌++◌, length, map, Option, Some, None, refl, sym, ◌∙◌, ap, subst, if◌then◌else◌}
use Rattle.std.specs.Prelude.{Contains}
use Rattle.std.specs.List.{AllByRecursion}
use Rattle.flit_words.specs.declared.layouts.Layout.{Layout}
use Rattle.flit_words.specs.declared.limits.TheConstants.{GREATEST_VERSION}
use Rattle.flit_words.specs.Layouts.{words_of, Accepted}
use Rattle.flit_words.specs.Words.{version_of, is_tagged, bare_of}
use Rattle.flit_model.specs.States.{State}
use Rattle.flit_model.proofs.Elements.{all_weaker}
use Rattle.flit_place.specs.Tags.{Place, IsSlot}
use Rattle.flit_place.proofs.Splits.{all_with}
use Rattle.flit_rows.specs.Shares.{rows_in}
use Rattle.flit_rows.proofs.TakeLaws.{right_started}
use Rattle.flit_structure.specs.Lawful.{is_insert, rows_needed}
use Rattle.flit_structure.proofs.Names.{all_both}
use Rattle.flit_pv.specs.Stores.{HeldStore, store_started}
use Rattle.flit_pv.specs.declared.hands.Hand.{Hand}
use Rattle.flit_pv.specs.declared.queues.Noted.{Noted}
use Rattle.flit_pv.specs.Hands.{with_queued, with_omitted}
use Rattle.flit_pv.specs.Exchanges.{exchange_started}
use Rattle.flit_runs.specs.Workings.{Dependency, Idles, Exchanges, Stores, words_from, writing_at, Task, ToLoad, ToVLoad, ToConfirm, ToExchange, ToVExchange, ToStore, ToFence, ToComplete, ToEvict, started, leaves, takes_over, goes_for}
use Rattle.flit_runs.specs.Worlds.{Seen, HasSeen, writings, IsAway, IsShared, IsSpare, MayStart, begun, world_of, start}
use Rattle.flit_runs.specs.Worlds.{Actor}
use Rattle.flit_runs.specs.Soundness.{IsSound, IsSafelyRead, MayConfirm, Needs}
use Rattle.flit_runs.proofs.ExchangeSteps.{around}
use Rattle.flit_runs.proofs.Turns.{sound-turn, safe}
use Rattle.flit_crew.specs.Machines.{Works, SeesNoTag, working_in, hand_in, hand_of, reads_for, has_ended, has_linked, deed_of}
use Rattle.flit_crew.specs.Heaps.{Heap, IsOpen, IsHidden, IsMine, IsWordOf}
use Rattle.flit_crew.specs.Anatomies.{own, rows_but}
use Rattle.flit_crew.specs.Crews.{Crew, Who, MayBegin, IsSpareWord, Facts, IsAlone, Goes, starts, draws, passes, changes, left, taking_over}
use Rattle.flit_runs.proofs.Changes.{sound_rests, sound_leaves}
use Rattle.flit_crew.proofs.Owning.{rests_now}
use Rattle.flit_crew.proofs.Alone.{left_queued}
use Rattle.flit_crew.proofs.Knowing.{started_facts}
use Rattle.flit_crew.proofs.Outside.{shut_hidden}

-- the same worker at rest with this hand
abbrev pub resting : Who → Hand → Actor
resting me hand = record { at = Idles hand; needs = me.needs; seen = me.seen; private = me.private }

-- a worker as its actor has it now
abbrev pub who_now : Who → Actor → Who
who_now me g = record me { needs = g.needs; seen = g.seen; private = g.private }

needed_safely : (s : State) (pairs : List Noted) (needs : List Dependency) (word version : ℕ) →
    AllByRecursion (λ d. IsSafelyRead s pairs d.word d.version) needs → Needs needs word version → IsSafelyRead s pairs word version
needed_safely s pairs [] word version h n = absurd n
needed_safely s pairs (d ∷ ds) word version h (inl e) = subst (λ w. IsSafelyRead s pairs w version) e.0 (subst (λ v. IsSafelyRead s pairs d.word v) e.1 h.0)
needed_safely s pairs (d ∷ ds) word version h (inr n) = needed_safely s pairs ds word version h.1 n

-- what is true of all that it has seen is so of this
found_seen : (P : Seen → Type 0) (Q : Type 0) (seen : List Seen) (word raw : ℕ) → ((x : Seen) → P x → (x.word ≡ word) × (x.raw ≡ raw) → Q) →
    AllByRecursion P seen → HasSeen seen word raw → Q
found_seen P Q [] word raw g all h = absurd h
found_seen P Q (x ∷ xs) word raw g all (inl e) = g x all.0 e
found_seen P Q (x ∷ xs) word raw g all (inr k) = found_seen P Q xs word raw g all.1 k

-- a start, and an end without an event, leave the worker its name
pub record IsSame (was now : Hand) : Type 0 where
  pub name : now.name ≡ was.name
  pub number : now.number ≡ was.number
  pub ticket : now.ticket ≡ was.ticket

same_hand : (hand now : Hand) → now ≡ hand → IsSame hand now
same_hand hand now e = record { name = ap (λ x. x.name) e; number = ap (λ x. x.number) e; ticket = ap (λ x. x.ticket) e }

confirm_same : (hand : Hand) (w raw : ℕ) (t : Bool) → IsSame hand (if t then with_queued hand w raw else with_omitted hand)
confirm_same hand w raw true = record { name = refl; number = refl; ticket = refl }
confirm_same hand w raw false = record { name = refl; number = refl; ticket = refl }

module _ {G Op : Type 0} (c : Crew G Op) (l : Layout) (p : Place) (free : List ℕ) (h : Heap G) where
  -- what everybody may reach is nobody's own
  pub away : (w : ℕ) → IsOpen l free h w → (private : List ℕ) → AllByRecursion (IsHidden l free h) private → IsAway private w
  away w o private shut = all_weaker (IsHidden l free h) (λ x. x ≢ w) (λ x n e. n (subst (IsOpen l free h) (sym e) o))
      private shut

  exchange_hand : (hand : Hand) (w old value limit : ℕ) → (exchange_started hand w old value limit).hand ≡ hand
  exchange_hand hand w old value limit = by_test (nat_le limit (version_of old)) refl
    where
      by_test : (t : Bool) → nat_le limit (version_of old) ≡ t → (exchange_started hand w old value limit).hand ≡ hand
      by_test true e = rw e refl
      by_test false e = rw e refl

  store_hand : (hand : Hand) (first : ℕ) (values : List ℕ) (limit : ℕ) → (store_started hand first values limit).hand ≡ hand
  store_hand hand first [] limit = refl
  store_hand hand first (v ∷ vs) limit = refl

  pub started_hand : (me : Who) (task : Task) (hand : Hand) → MayBegin c l p free h me hand task → hand_of (started task hand) ≡ hand
  started_hand me (ToLoad w) hand may = refl
  started_hand me (ToVLoad w) hand may = refl
  started_hand me (ToConfirm w raw) hand may = refl
  started_hand me (ToExchange w old value limit) hand may = exchange_hand hand w old value limit
  started_hand me (ToVExchange w old value limit) hand may = absurd may
  started_hand me (ToStore first values limit) hand may = store_hand hand first values limit
  started_hand me ToFence hand may = refl
  started_hand me ToComplete hand may = refl
  started_hand me (ToEvict w) hand may = refl

  left_hand : (me : Who) (task : Task) (hand : Hand) → MayBegin c l p free h me hand task → IsSame hand (leaves (started task hand))
  left_hand me (ToLoad w) hand may = same_hand hand hand refl
  left_hand me (ToVLoad w) hand may = same_hand hand hand refl
  left_hand me (ToConfirm w raw) hand may = confirm_same hand w raw (is_tagged raw)
  left_hand me (ToExchange w old value limit) hand may = same_hand hand (exchange_started hand w old value limit).hand (exchange_hand hand w old value limit)
  left_hand me (ToVExchange w old value limit) hand may = absurd may
  left_hand me (ToStore first values limit) hand may = same_hand hand (store_started hand first values limit).hand (store_hand hand first values limit)
  left_hand me ToFence hand may = same_hand hand hand refl
  left_hand me ToComplete hand may = same_hand hand hand refl
  left_hand me (ToEvict w) hand may = same_hand hand hand refl

  exchange_open : (hand : Hand) (w old value limit : ℕ) → IsOpen l free h w →
      AllByRecursion (IsOpen l free h) (goes_for (Exchanges (exchange_started hand w old value limit)))
  exchange_open hand w old value limit o = by_test (nat_le limit (version_of old)) refl
    where
      by_test : (t : Bool) → nat_le limit (version_of old) ≡ t → AllByRecursion (IsOpen l free h)
          (goes_for (Exchanges (exchange_started hand w old value limit)))
      by_test true e = rw e tt
      by_test false e = rw e (o, tt)

  pub started_open : (me : Who) (task : Task) (hand : Hand) → MayBegin c l p free h me hand task →
      AllByRecursion (IsOpen l free h) (goes_for (started task hand))
  started_open me (ToLoad w) hand may = (may, tt)
  started_open me (ToVLoad w) hand may = tt
  started_open me (ToConfirm w raw) hand may = tt
  started_open me (ToExchange w old value limit) hand may = exchange_open hand w old value limit may.0
  started_open me (ToVExchange w old value limit) hand may = absurd may
  started_open me (ToStore first values limit) hand may = tt
  started_open me ToFence hand may = tt
  started_open me ToComplete hand may = tt
  started_open me (ToEvict w) hand may = absurd may

  pub started_reading : (me : Who) (task : Task) (hand : Hand) → MayBegin c l p free h me hand task →
      AllByRecursion (IsOpen l free h) (reads_for (started task hand))
  started_reading me (ToLoad w) hand may = tt
  started_reading me (ToVLoad w) hand may = (may, tt)
  started_reading me (ToConfirm w raw) hand may = tt
  started_reading me (ToExchange w old value limit) hand may = tt
  started_reading me (ToVExchange w old value limit) hand may = absurd may
  started_reading me (ToStore first values limit) hand may = tt
  started_reading me ToFence hand may = tt
  started_reading me ToComplete hand may = tt
  started_reading me (ToEvict w) hand may = absurd may

  module _ (accepted : Accepted l) (s : State) (words : length s.words ≡ words_of l) (same_words : h.words ≡ map bare_of s.words) (xs ys : List Actor)
      (others : AllByRecursion (λ o. AllByRecursion (IsHidden l free h) o.private) (xs ++ ys))
      -- the operation's own rows: they are rows of the pool that aren't linked, and the others don't reach their words
      (op : Op) (pool_rows : (row : ℕ) → Contains (own c.anatomy op) row → Contains free row × (Contains h.given row → ⊥))
      (unreached : (row w : ℕ) → Contains (own c.anatomy op) row → IsWordOf l row w →
      AllByRecursion (λ o. IsAway o.private w × IsAway (goes_for o.at) w) (xs ++ ys)) where
    abbrev IsSoundWith : Actor → Type 0
    IsSoundWith g = IsSound p (λ word. false) (world_of s xs g ys)

    abbrev IsOwnWord : ℕ → Type 0
    IsOwnWord w = IsMine l free h (own c.anatomy op) w

    shut_words : (private : List ℕ) → AllByRecursion IsOwnWord private → AllByRecursion (IsHidden l free h) private
    shut_words private all = all_weaker IsOwnWord (IsHidden l free h) (λ w k. shut_hidden l free h w k.shut) private all

    shared : (me : Who) (hand : Hand) → AllByRecursion (IsHidden l free h) me.private → (w : ℕ) → IsOpen l free h w →
        IsShared (λ word. false) s (resting me hand ∷ (xs ++ ys)) w
    shared me hand shut w o = record {
      within = subst (λ n. w < n) (sym words) o.within;
      plain = refl;
      reached = (
        away w o me.private shut,
        all_weaker (λ a. AllByRecursion (IsHidden l free h) a.private) (λ a. IsAway a.private w) (λ a k. away w o a.private k)
            (xs ++ ys) others,
      );
    }

    -- a word of an own row that isn't private yet is at rest, and out of the others' reach
    spare : (me : Who) (hand : Hand) → IsSoundWith (resting me hand) → ((row : ℕ) → Contains (rows_in hand.spare) row → Contains (own c.anatomy op) row) →
        (w : ℕ) → IsSpareWord c l p free me hand w → IsSpare (λ word. false) s (xs ++ ys) w
    spare me hand sound rows w k =
        let o = unreached k.row w (rows k.row k.own) k.word in record {
          within = subst (λ n. w < n) (sym words) k.within;
          plain = refl;
          persistent = (rests_now p s (xs ++ resting me hand ∷ ys) h w same_words sound
              (all_with (λ a. IsAway a.private w) xs (resting me hand) ys k.away
              (all_weaker (λ a. IsAway a.private w × IsAway (goes_for a.at) w) (λ a. IsAway a.private w) (λ a q. q.0) (xs ++ ys) o))
              (all_with (λ a. IsAway (goes_for a.at) w) xs (resting me hand) ys tt
              (all_weaker (λ a. IsAway a.private w × IsAway (goes_for a.at) w) (λ a. IsAway (goes_for a.at) w) (λ a q. q.1) (xs ++ ys) o))).0;
          unreached = o;
        }

    limit_small : (n : ℕ) → n ≡ l.limit → n ≤ GREATEST_VERSION
    limit_small n e = subst (λ x. x ≤ GREATEST_VERSION) (sym e) accepted.most_limit

    may_start : (me : Who) (hand : Hand) → AllByRecursion (IsHidden l free h) me.private → IsSoundWith (resting me hand) → (task : Task) →
        (takes_over task ≡ [] ⊎ ((row : ℕ) → Contains (rows_in hand.spare) row → Contains (own c.anatomy op) row)) →
        MayBegin c l p free h me hand task → MayStart (λ word. false) s (xs ++ ys) (resting me hand) task
    may_start me hand shut sound (ToLoad w) rows may = shared me hand shut w may
    may_start me hand shut sound (ToVLoad w) rows may = subst (λ n. w < n) (sym words) may.within
    may_start me hand shut sound (ToConfirm w raw) rows may = may
    may_start me hand shut sound (ToExchange w old value limit) rows may = record {
      shared = shared me hand shut w may.0;
      small = may.1;
      limited = limit_small limit may.2;
      owed = needed_safely s hand.queue me.needs w (version_of old) (safe p (λ word. false) s xs (resting me hand) ys sound).needs may.3;
    }
    may_start me hand shut sound (ToVExchange w old value limit) rows may = absurd may
    may_start me hand shut sound (ToStore first values limit) rows may = record {
      spare = by_rows rows;
      small = may.1;
      limited = limit_small limit may.2;
    }
      where
        none : (ws : List ℕ) → ws ≡ [] → AllByRecursion (IsSpare (λ word. false) s (xs ++ ys)) ws
        none ws e = subst (AllByRecursion (IsSpare (λ word. false) s (xs ++ ys))) (sym e) tt

        by_rows : (words_from first values ≡ [] ⊎ ((row : ℕ) → Contains (rows_in hand.spare) row → Contains (own c.anatomy op) row)) →
            AllByRecursion (IsSpare (λ word. false) s (xs ++ ys)) (words_from first values)
        by_rows (inl e) = none (words_from first values) e
        by_rows (inr k) = all_weaker (IsSpareWord c l p free me hand) (IsSpare (λ word. false) s (xs ++ ys)) (spare me hand sound k) (words_from first values)
            may.0
    may_start me hand shut sound ToFence rows may = tt
    may_start me hand shut sound ToComplete rows may = tt
    may_start me hand shut sound (ToEvict w) rows may = absurd may

    -- the worker is at its call's next machine
    pub record Arrived (me : Who) (hand : Hand) : Type 0 where
      pub actor : Actor
      pub sound : IsSoundWith actor
      pub at : actor.at ≡ working_in (c.anatomy.machine op)
      pub name : (hand_of actor.at).name ≡ hand.name
      pub number : (hand_of actor.at).number ≡ hand.number
      pub ticket : (hand_of actor.at).ticket ≡ hand.ticket
      pub reached : AllByRecursion (IsOpen l free h) (goes_for actor.at)
      pub reading : AllByRecursion (IsOpen l free h) (reads_for actor.at)
      pub mine : AllByRecursion IsOwnWord actor.private
      pub facts : Facts c l p free h (who_now me actor) op (c.anatomy.machine op)
      pub alone : l.workers ≡ 1 → IsAlone c l p free actor
      pub going : has_ended p (c.anatomy.machine op) ≡ false
      pub same_call : c.anatomy.call op ≡ me.call
      pub knows : c.knows h (who_now me actor) op

    pub started_sound : (me : Who) (hand : Hand) (task : Task) → (takes_over task ≡ []
        ⊎ ((row : ℕ) → Contains (rows_in hand.spare) row → Contains (own c.anatomy op) row)) → AllByRecursion (IsHidden l free h) me.private →
        IsSoundWith (resting me hand) → MayBegin c l p free h me hand task →
        IsSoundWith (begun task (resting me hand))
    started_sound me hand task rows shut sound may =
        sound-turn p (λ word. false) (world_of s xs (resting me hand) ys) (world_of s xs (begun task (resting me hand)) ys)
        (start s xs (resting me hand) ys task refl (may_start me hand shut sound task rows may)) sound

    private_same : (task : Task) (me : Who) (hand : Hand) → takes_over task ≡ [] →
        begun task (resting me hand) ≡ record (resting me hand) { at = started task hand }
    private_same task me hand none = ap (λ ws. let g : Actor = record { at = started task hand; needs = me.needs; seen = me.seen; private = ws ++ me.private }
        in g) none

    -- a worker that is the only one sees no tag where it starts a machine
    started_sees : (me : Who) (hand : Hand) → IsSoundWith (resting me hand) → (task : Task) → MayBegin c l p free h me hand task →
        (p.counted ≡ false → AllByRecursion (λ x. is_tagged x.raw ≡ false) me.seen) → SeesNoTag p (started task hand)
    started_sees me hand sound (ToLoad w) may seen = tt
    started_sees me hand sound (ToVLoad w) may seen = tt
    started_sees me hand sound (ToConfirm w raw) may seen = (
      λ counted. found_seen (λ x. is_tagged x.raw ≡ false) (is_tagged raw ≡ false) me.seen w raw (λ x e same. ap is_tagged (sym same.1) ∙ e) (seen counted) may,
      λ counted none. has_slot (p.slot w) none (subst (λ b. IsSlot b (length s.slots) (p.slot w)) counted (sound.suits.slots w
          (found_seen (MayConfirm p (λ x. false) s (around (writings xs) (writing_at (resting me hand).at) (writings ys))) (w < length s.words)
          me.seen w raw (λ x k same. subst (λ y. y < length s.words) same.0 k.pair.plain.0)
          (safe p (λ word. false) s xs (resting me hand) ys sound).seen may))),
    )
      where
        has_slot : (o : Option ℕ) → o ≡ None → IsSlot true (length s.slots) o → ⊥
        has_slot o e k = clash k.0 (sym e ∙ k.1)
          where
            clash : (x : ℕ) → None ≡ Some x → ⊥
            clash x q = cc
    started_sees me hand sound (ToExchange w old value limit) may seen = tt
    started_sees me hand sound (ToVExchange w old value limit) may seen = absurd may
    started_sees me hand sound (ToStore first values limit) may seen = tt
    started_sees me hand sound ToFence may seen = tt
    started_sees me hand sound ToComplete may seen = tt
    started_sees me hand sound (ToEvict w) may seen = absurd may

    pub started_alone : (me : Who) (hand : Hand) → IsSoundWith (resting me hand) → (task : Task) → MayBegin c l p free h me hand task →
        IsAlone c l p free (resting me hand) → IsAlone c l p free (begun task (resting me hand))
    started_alone me hand sound task may k = record {
      machine = started_sees me hand sound task may k.seen;
      queued = ap (λ x. x.tally.queued) (started_hand me task hand may) ∙ k.queued;
      seen = k.seen;
    }

    -- in a PrivateStore its rows are those of its hand
    store_rows : (m : HeldStore) → c.anatomy.machine op ≡ Works (Stores m) → own c.anatomy op ≡ rows_in m.hand.spare
    store_rows m at = ap (λ x. rows_but c.anatomy (c.anatomy.effects op && (is_insert (c.anatomy.call op) && has_linked (deed_of x))) (hand_in x).spare) at ∙
        by_test (c.anatomy.effects op) (is_insert (c.anatomy.call op))
      where
        by_test : (t i : Bool) → rows_but c.anatomy (t && (i && false)) m.hand.spare ≡ rows_in m.hand.spare
        by_test true true = refl
        by_test true false = refl
        by_test false i = refl

    rows_for : (task : Task) (hand : Hand) → c.anatomy.machine op ≡ Works (started task hand) →
        (takes_over task ≡ [] ⊎ ((row : ℕ) → Contains (rows_in hand.spare) row → Contains (own c.anatomy op) row))
    rows_for (ToLoad w) hand at = inl refl
    rows_for (ToVLoad w) hand at = inl refl
    rows_for (ToConfirm w raw) hand at = inl refl
    rows_for (ToExchange w old value limit) hand at = inl refl
    rows_for (ToVExchange w old value limit) hand at = inl refl
    rows_for (ToStore first values limit) hand at = inr (λ row k. subst (λ rows. Contains rows row)
        (sym (store_rows (store_started hand first values limit) at ∙ ap (λ x. rows_in x.spare) (store_hand hand first values limit))) k)
    rows_for ToFence hand at = inl refl
    rows_for ToComplete hand at = inl refl
    rows_for (ToEvict w) hand at = inl refl

    own_words : (me : Who) (hand : Hand) → ((row : ℕ) → Contains (rows_in hand.spare) row → Contains (own c.anatomy op) row) → (ws : List ℕ) →
        AllByRecursion (IsSpareWord c l p free me hand) ws → AllByRecursion IsOwnWord ws
    own_words me hand rows ws all = all_weaker (IsSpareWord c l p free me hand) IsOwnWord
        (λ w k. let has = rows k.row k.own in let f = pool_rows k.row has in
        record { shut = record { row = k.row; pool = f.0; word = k.word; unlinked = f.1 }; own = has }) ws all

    taken_words : (me : Who) (hand : Hand) (task : Task) → (takes_over task ≡ []
        ⊎ ((row : ℕ) → Contains (rows_in hand.spare) row → Contains (own c.anatomy op) row)) → MayBegin c l p free h me hand task →
        AllByRecursion IsOwnWord (takes_over task)
    taken_words me hand (ToLoad w) rows may = tt
    taken_words me hand (ToVLoad w) rows may = tt
    taken_words me hand (ToConfirm w raw) rows may = tt
    taken_words me hand (ToExchange w old value limit) rows may = tt
    taken_words me hand (ToVExchange w old value limit) rows may = tt
    taken_words me hand (ToStore first values limit) (inl e) may = subst (AllByRecursion IsOwnWord) (sym e) tt
    taken_words me hand (ToStore first values limit) (inr k) may = own_words me hand k (words_from first values) may.0
    taken_words me hand ToFence rows may = tt
    taken_words me hand ToComplete rows may = tt
    taken_words me hand (ToEvict w) rows may = tt

    pub arrives : (me : Who) (hand : Hand) → AllByRecursion IsOwnWord me.private → IsSoundWith (resting me hand) →
        (l.workers ≡ 1 → IsAlone c l p free (resting me hand)) → Goes c l p free h me hand op →
        Arrived me hand
    arrives me hand own_private sound alone (starts _ _ task _ may at going call is_for knows) =
        let rows = rows_for task hand at in record {
          actor = begun task (resting me hand);
          sound = started_sound me hand task rows (shut_words me.private own_private) sound may;
          at = ap working_in (sym at);
          name = ap (λ x. x.name) (started_hand me task hand may);
          number = ap (λ x. x.number) (started_hand me task hand may);
          ticket = ap (λ x. x.ticket) (started_hand me task hand may);
          reached = started_open me task hand may;
          reading = started_reading me task hand may;
          mine = all_both IsOwnWord (takes_over task) me.private (taken_words me hand task rows may) own_private;
          alone = λ one. started_alone me hand sound task may (alone one);
          facts = subst (Facts c l p free h (taking_over c l p free me task) op) (sym at)
              (started_facts c l p free h me hand op task may rows (sym (ap (has_ended p) at) ∙ going) is_for);
          going = going;
          same_call = call;
          knows = knows;
        }
    arrives me hand own_private sound alone (draws _ _ _ at going call knows) = record {
      actor = resting me hand;
      sound = sound;
      at = ap working_in (sym at);
      name = refl;
      number = refl;
      ticket = refl;
      reached = tt;
      reading = tt;
      mine = own_private;
      alone = alone;
      facts = subst (Facts c l p free h me op) (sym at) (right_started free hand (rows_needed l.kind), refl);
      going = going;
      same_call = call;
      knows = knows;
    }
    arrives me hand own_private sound alone (passes _ _ task _ may nothing none rest) =
        let at = started task hand in
        let r = arrives (left c l p free me at) (leaves at) own_private (sound_leaves p (λ word. false) s xs (record (resting me hand) { at = at }) ys none
        (subst IsSoundWith (private_same task me hand nothing) (started_sound me hand task (inl nothing) (shut_words me.private own_private) sound may)))
        (λ one. let k = started_alone me hand sound task may (alone one) in
        record { machine = tt; queued = left_queued p at none k.machine ∙ k.queued; seen = k.seen }) rest
        in
        let n = left_hand me task hand may in
        record {
          actor = r.actor;
          sound = r.sound;
          at = r.at;
          name = r.name ∙ n.name;
          number = r.number ∙ n.number;
          ticket = r.ticket ∙ n.ticket;
          reached = r.reached;
          reading = r.reading;
          mine = r.mine;
          alone = r.alone;
          facts = r.facts;
          going = r.going;
          same_call = r.same_call;
          knows = r.knows;
        }
    arrives me hand own_private sound alone (changes _ _ now _ alike rest) =
        let r = arrives me now own_private (sound_rests p (λ word. false) s xs (resting me hand) ys now refl (sym alike.queue) sound)
        (λ one. let k = alone one in record { machine = tt; queued = alike.queued ∙ k.queued; seen = k.seen }) rest in
        record {
          actor = r.actor;
          sound = r.sound;
          at = r.at;
          name = r.name ∙ alike.name;
          number = r.number ∙ alike.number;
          ticket = r.ticket ∙ alike.ticket;
          reached =
              r.reached;
          reading = r.reading;
          mine = r.mine;
          alone = r.alone;
          facts = r.facts;
          going = r.going;
          same_call = r.same_call;
          knows = r.knows;
        }
