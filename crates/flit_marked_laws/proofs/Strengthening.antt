-- What a crew keeps of its heap may say more: where each change of the heap keeps the rest too, all that the crew shows is
-- shown of the stronger crew.
use Rattle.std.proofs.Common.{◌≡◌, ◌⊎◌, inl, inr, ℕ, Bool, true, false, cond, eqb, List, [], ◌∷◌, Option, Some, None, refl, sym, ◌∙◌, ap}
use Rattle.std.proofs.lemmas.Bool.{eqb-true}
use Rattle.std.proofs.lemmas.List.{get_or-set_other}
use Rattle.std.proofs.lemmas.Option.{none-some, same_Some}
use Rattle.std.specs.FinMap as fin
use Rattle.flit_words.specs.declared.layouts.Layout.{Layout}
use Rattle.flit_model.specs.declared.calls.Reply.{Reply}
use Rattle.flit_model.specs.declared.calls.Reply.TheVariants.{Yes, No, Found, Full, Worn}
use Rattle.flit_model.specs.declared.calls.Call.{Call}
use Rattle.flit_model.specs.declared.calls.Entry.{Entry}
use Rattle.flit_model.specs.Settling.{Progress, settles, takes_effect}
use Rattle.flit_model.proofs.Elements.{all_weaker}
use Rattle.flit_place.specs.Tags.{Place}
use Rattle.flit_pv.specs.declared.hands.Hand.{Hand}
use Rattle.flit_pv.specs.Stores.{HeldStore}
use Rattle.flit_pv.specs.declared.exchanges.Exchanging.{Exchanging}
use Rattle.flit_pv.specs.declared.exchanges.Exchanging.TheVariants.{Ready, Tries, TriesBare, WritesBack, Withdraws, Lowers, Ended}
use Rattle.flit_pv.specs.declared.exchanges.Exchanged.{Exchanged}
use Rattle.flit_pv.specs.declared.exchanges.Exchanged.TheVariants.{Won as Exchange_won, Lost, Worn as Exchange_worn}
use Rattle.flit_runs.specs.Workings.{Working, Idles, Loads, VLoads, Confirms, Exchanges, VExchanges, Stores, Fences, Completes, Evicts, Task, ToLoad, ToVLoad, ToConfirm, ToExchange, ToVExchange, ToStore, ToFence, ToComplete, ToEvict, words_from}
use Rattle.flit_runs.specs.Worlds.{Actor}
use Rattle.flit_structure.specs.declared.workers.Doing.{Doing}
use Rattle.flit_structure.specs.declared.workers.Doing.TheVariants.{Idle, Busy, Evicting}
use Rattle.flit_structure.specs.declared.workers.Worker.{Worker}
use Rattle.flit_structure.specs.Moments.{Moment, update_of}
use Rattle.flit_structure.proofs.Growing.{get_put, get_gone}
use Rattle.flit_crew.specs.Machines.{Machine, Works, Takes}
use Rattle.flit_crew.proofs.Updating.{Follows, follows_same, follows_settled, follows_won}
use Rattle.flit_crew.specs.Heaps.{Heap, heap_of, waits_at, written, won, IsOpen, AreAlike}
use Rattle.flit_crew.specs.Anatomies.{Anatomy, own}
use Rattle.flit_crew.specs.Crews.{Crew, Who, Holds, Acts, AllAct, IsDoing, IsBusy, IsAlone, Facts, WorkingFacts, Fills, MayReply, IsLimited, ExchangesAt, IsNotWorn, MayBegin, IsFor, IsSpareWord, IsAlike, Goes, starts, draws, passes, changes, OwnsRows, IsCoherent, effect_if}
use Rattle.flit_crew.specs.Obligations.{Keeps, StartsSo}

module _ {G Op : Type 0} (A : Anatomy Op) (later : Option ℕ → Heap G → Heap G → Type 0) (knows : Heap G → Who → Op → Type 0) (l : Layout) (p : Place)
    (free : List ℕ) where
  abbrev pub crew_with : (Heap G → Type 0) → Crew G Op
  crew_with K = record { anatomy = A; kept = K; later = later; knows = knows }

  -- ---- what is said of an operation says nothing of what is kept

  module _ (K J : Heap G → Type 0) where
    abbrev c : Crew G Op
    c = crew_with K

    abbrev d : Crew G Op
    d = crew_with J

    limited_so : (h : Heap G) (me : Who) (hand : Hand) (r : Reply) → IsLimited c l p free h me hand r → IsLimited d l p free h me hand r
    limited_so h me hand Yes k = k
    limited_so h me hand No k = k
    limited_so h me hand (Found value) k = k
    limited_so h me hand (Full ticket) k = k
    limited_so h me hand (Worn word version) k = k

    reply_so : (h : Heap G) (me : Who) (hand : Hand) (op : Op) → MayReply c l p free h me hand op → MayReply d l p free h me hand op
    reply_so h me hand op k = record { fits = k.fits; made = k.made; limited = limited_so h me hand (A.reply op) k.limited }

    fills_so : (h : Heap G) (op : Op) (m : HeldStore) → Fills c l p free h op m → Fills d l p free h op m
    fills_so h op m k = record { own = k.own; limit = k.limit; filled = k.filled }

    not_worn_so : (how : Exchanged) → IsNotWorn c l p free how → IsNotWorn d l p free how
    not_worn_so Exchange_won k = tt
    not_worn_so (Lost found) k = tt
    not_worn_so (Exchange_worn word version) k = k

    exchanges_so : (at : Exchanging) → ExchangesAt c l p free at → ExchangesAt d l p free at
    exchanges_so Ready k = tt
    exchanges_so (Tries slot) k = tt
    exchanges_so TriesBare k = tt
    exchanges_so WritesBack k = tt
    exchanges_so Withdraws k = tt
    exchanges_so (Lowers slot found) k = tt
    exchanges_so (Ended how) k = not_worn_so how k

    working_so : (h : Heap G) (me : Who) (op : Op) (w : Working) → WorkingFacts c l p free h me op w → WorkingFacts d l p free h me op w
    working_so h me op (Idles hand) k = tt
    working_so h me op (Loads m) k = tt
    working_so h me op (VLoads m) k = tt
    working_so h me op (Confirms m) k = tt
    working_so h me op (Exchanges m) k = exchanges_so m.at k
    working_so h me op (VExchanges m) k = tt
    working_so h me op (Stores m) k = fills_so h op m k
    working_so h me op (Fences m) k = tt
    working_so h me op (Completes m) k = reply_so h me m.fence.hand op k
    working_so h me op (Evicts m) k = tt

    pub facts_so : (h : Heap G) (me : Who) (op : Op) (m : Machine) → Facts c l p free h me op m → Facts d l p free h me op m
    facts_so h me op (Works w) k = working_so h me op w k
    facts_so h me op (Takes m) k = k

    busy_so : (h : Heap G) (g : Actor) (name number : ℕ) (op : Op) (call : Call) (begun : Option ℕ) →
        IsBusy c l p free h g name number op call begun → IsBusy d l p free h g name number op call begun
    busy_so h g name number op call begun k = record {
      same_call = k.same_call;
      served = k.served;
      first = k.first;
      waits = k.waits;
      facts = facts_so h _ op (A.machine op) k.facts;
      going = k.going;
      update = k.update;
      knows = k.knows;
    }

    alone_so : (g : Actor) → IsAlone c l p free g → IsAlone d l p free g
    alone_so g k = record { machine = k.machine; queued = k.queued; seen = k.seen }

    doing_so : (h : Heap G) (g : Actor) (name number : ℕ) (x : Doing Op) → IsDoing c l p free h g name number x → IsDoing d l p free h g name number x
    doing_so h g name number (Idle hand) k = k
    doing_so h g name number (Busy op call begun) k = busy_so h g name number op call begun k
    doing_so h g name number (Evicting m) k = k

    acts_so : (h : Heap G) (u : Worker Op) (g : Actor) → Acts c l p free h u g → Acts d l p free h u g
    acts_so h u g k = record {
      at = k.at;
      name = k.name;
      number = k.number;
      least = k.least;
      most = k.most;
      reached = k.reached;
      reading = k.reading;
      mine = k.mine;
      published = k.published;
      alone = λ one. alone_so g (k.alone one);
      doing = doing_so h g u.name u.number u.doing k.doing;
    }

    all_so : (h : Heap G) (us : List (Worker Op)) (gs : List Actor) → AllAct c l p free h us gs → AllAct d l p free h us gs
    all_so h [] [] k = tt
    all_so h [] (g ∷ gs) k = k
    all_so h (u ∷ us) [] k = k
    all_so h (u ∷ us) (g ∷ gs) k = (acts_so h u g k.0, all_so h us gs k.1)

    pub holds_so : (M : Moment Op) (k : Holds c l p free M) → J (heap_of M k.given k.ghost) → Holds d l p free M
    holds_so M k kept = record {
      given = k.given;
      ghost = k.ghost;
      actors = k.actors;
      opening = k.opening;
      pool_is = k.pool_is;
      stranger = k.stranger;
      outside = k.outside;
      accepted = k.accepted;
      pool = k.pool;
      words = k.words;
      slots = k.slots;
      sound = k.sound;
      tagged = k.tagged;
      kept = kept;
      acts = all_so (heap_of M k.given k.ghost) M.workers k.actors k.acts;
      rows = k.rows;
      history = k.history;
      different = k.different;
    }

    -- ---- where a call goes on

    begin_so : (h : Heap G) (me : Who) (hand : Hand) (t : Task) → MayBegin c l p free h me hand t → MayBegin d l p free h me hand t
    begin_so h me hand (ToLoad w) k = k
    begin_so h me hand (ToVLoad w) k = k
    begin_so h me hand (ToConfirm w raw) k = k
    begin_so h me hand (ToExchange w old value limit) k = k
    begin_so h me hand (ToVExchange w old value limit) k = k
    begin_so h me hand (ToStore first values limit) k = (
      all_weaker (IsSpareWord c l p free me hand) (IsSpareWord d l p free me hand)
          (λ w x. record { within = x.within; row = x.row; own = x.own; word = x.word; away = x.away })
          (words_from first values) k.0,
      k.1,
      k.2,
    )
    begin_so h me hand ToFence k = k
    begin_so h me hand ToComplete k = k
    begin_so h me hand (ToEvict w) k = k

    for_so : (h : Heap G) (me : Who) (hand : Hand) (t : Task) (op : Op) → IsFor c l p free h me hand t op → IsFor d l p free h me hand t op
    for_so h me hand (ToLoad w) op k = k
    for_so h me hand (ToVLoad w) op k = k
    for_so h me hand (ToConfirm w raw) op k = k
    for_so h me hand (ToExchange w old value limit) op k = k
    for_so h me hand (ToVExchange w old value limit) op k = k
    for_so h me hand (ToStore first values limit) op k = k
    for_so h me hand ToFence op k = k
    for_so h me hand ToComplete op k = reply_so h me hand op k
    for_so h me hand (ToEvict w) op k = k

    alike_so : (was now : Hand) → IsAlike c l p free was now → IsAlike d l p free was now
    alike_so was now k = record { name = k.name; number = k.number; queue = k.queue; ticket = k.ticket; queued = k.queued }

    goes_so : (h : Heap G) (me : Who) (hand : Hand) (op : Op) → Goes c l p free h me hand op → Goes d l p free h me hand op
    goes_so h _ _ _ (starts me hand task op may is going call is_for known) =
        starts me hand task op (begin_so h me hand task may) is going call (for_so h me hand task op is_for) known
    goes_so h _ _ _ (draws me hand op is going call known) = draws me hand op is going call known
    goes_so h _ _ _ (passes me hand task op may none asked more) = passes me hand task op (begin_so h me hand task may) none asked (goes_so h _ _ op more)
    goes_so h _ _ _ (changes me hand now op alike more) = changes me hand now op (alike_so hand now alike) (goes_so h me now op more)

    owns_so : (h : Heap G) (op : Op) (m : Machine) → OwnsRows c l p free h op m → OwnsRows d l p free h op m
    owns_so h op m k = record { pool = k.pool; fit = k.fit; unlinked = k.unlinked; once = k.once; tight = k.tight }

    coherent_so : (was now : Op) → IsCoherent c l p free was now → IsCoherent d l p free was now
    coherent_so was now k = record { own = k.own; deed = k.deed; tight = k.tight }

    starts_so : (h : Heap G) (me : Who) (hand : Hand) (op : Op) → StartsSo c l p free h me hand op → StartsSo d l p free h me hand op
    starts_so h me hand op k = record {
      task = k.task;
      now = k.now;
      alike = alike_so hand k.now k.alike;
      may = begin_so h me k.now k.task k.may;
      none = k.none;
      at = k.at;
      going = k.going;
      call = k.call;
      is_for = for_so h me k.now k.task op k.is_for;
    }

  -- ---- what is kept besides

  module _ (K Q : Heap G → Type 0) where
    abbrev pub Both : Heap G → Type 0
    Both h = K h × Q h

    -- what every change of the heap leaves: others rely on it; what waited waits or is settled; and where one waits that didn't,
    -- none did there, and none is settled
    pub record GoesOn (who : Option ℕ) (h k : Heap G) : Type 0 where
      pub was : K h
      pub is : K k
      pub relied : later who h k
      pub follows : Follows who h k
      pub fresh : (w : ℕ) (e : Entry) → waits_at k w ≡ Some e →
          (waits_at h w ≡ Some e) ⊎ ((waits_at h w ≡ None) × (k.progress.settled ≡ h.progress.settled))

    pub record IsKeptBesides : Type 0 where
      pub reached : (h : Heap G) (w : ℕ) (e : Entry) → K h → waits_at h w ≡ Some e → IsOpen l free h w
      pub lasts : (who : Option ℕ) (h k : Heap G) → GoesOn who h k → Q h → Q k

    -- ---- each change is one of these

    settles_on : (h : Heap G) (w : ℕ) (ghost : G) → K h → K (written h w ghost) → later None h (written h w ghost) → GoesOn None h (written h w ghost)
    settles_on h w ghost was is goes = record {
      was = was;
      is = is;
      relied = goes;
      follows = follows_settled h (written h w ghost) w refl refl;
      fresh = λ x e q. inl (waited (waits_at h w) refl x e q);
    }
      where
        waited : (o : Option Entry) → waits_at h w ≡ o → (x : ℕ) (e : Entry) → fin.get (settles h.progress w o).waiting x ≡ Some e → waits_at h x ≡ Some e
        waited None is x e q = q
        waited (Some d) is x e q = by_word (eqb x w) (sym (get_gone h.progress.waiting w x) ∙ q)
          where
            by_word : (t : Bool) → cond t None (fin.get h.progress.waiting x) ≡ Some e → fin.get h.progress.waiting x ≡ Some e
            by_word true k = absurd (none-some e k)
            by_word false k = k

    wins_on : (h : Heap G) (name w to : ℕ) (o : Option Entry) (rows : List ℕ) (ghost : G) → ((e : Entry) → o ≡ Some e → e.worker ≡ name) →
        waits_at h w ≡ None → K h → K (won h w to o rows ghost) → later (Some name) h (won h w to o rows ghost) →
        GoesOn (Some name) h (won h w to o rows ghost)
    wins_on h name w to o rows ghost own none was is goes = record {
      was = was;
      is = is;
      relied = goes;
      follows = follows_won name h (won h w to o rows ghost) w o refl none own (λ x other. get_or-set_other h.words w x to 0 other);
      fresh = λ x e q. waited o x e q;
    }
      where
        waited : (y : Option Entry) (x : ℕ) (e : Entry) → fin.get (takes_effect h.progress w y).waiting x ≡ Some e →
            (waits_at h x ≡ Some e) ⊎ ((waits_at h x ≡ None) × ((takes_effect h.progress w o).settled ≡ h.progress.settled))
        waited None x e q = inl q
        waited (Some d) x e q = by_word (eqb x w) refl (sym (get_put h.progress.waiting w d x) ∙ q)
          where
            settled_so : (z : Option Entry) → (takes_effect h.progress w z).settled ≡ h.progress.settled
            settled_so None = refl
            settled_so (Some z) = refl

            by_word : (t : Bool) → eqb x w ≡ t → cond t (Some d) (fin.get h.progress.waiting x) ≡ Some e →
                (waits_at h x ≡ Some e) ⊎ ((waits_at h x ≡ None) × ((takes_effect h.progress w o).settled ≡ h.progress.settled))
            by_word true same k = inr (ap (waits_at h) (eqb-true x w same) ∙ none, settled_so o)
            by_word false same k = inl k

    blind_on : ((h : Heap G) (w : ℕ) (e : Entry) → K h → waits_at h w ≡ Some e → IsOpen l free h w) → (h k : Heap G) (who : Option ℕ) → K h → K k →
        later who h k → AreAlike l free h k → GoesOn who h k
    blind_on reached h k who was is goes alike = record {
      was = was;
      is = is;
      relied = goes;
      follows = follows_same who h k alike.progress (λ w e q. alike.words w (reached h w e was q));
      fresh = λ w e q. inl (ap (λ (x : Progress). fin.get x.waiting w) (sym alike.progress) ∙ q);
    }

    effect_named : (effects : Bool) (me : Who) (e : Entry) → effect_if A effects me ≡ Some e → e.worker ≡ me.name
    effect_named true me e q = ap (λ (x : Entry). x.worker) (sym (same_Some (update_of me.name me.number me.call) e q))
    effect_named false me e q = absurd (none-some e q)

    module _ (besides : IsKeptBesides) (keeps : Keeps (crew_with K) l p free) where
      pub both_keep : Keeps (crew_with Both) l p free
      both_keep = record {
        lasts = λ h k who me op was is. keeps.lasts h k who me op was.0 is.0;
        settles = λ h w kept reach ahead.
            let r = keeps.settles h w kept.0 reach ahead in
            (r.0, (r.1, besides.lasts None h (written h w r.0) (settles_on h w r.0 kept.0 r.1 r.2) kept.1), r.2);
        blind = λ h k who kept alike. let r = keeps.blind h k who kept.0 alike in
            ((r.0, besides.lasts who h k (blind_on besides.reached h k who kept.0 r.0 r.1 alike) kept.1), r.1);
        same = keeps.same;
        awake = keeps.awake;
        begins = λ h me hand kept. keeps.begins h me hand kept.0;
        starts = λ h me hand kept served. starts_so K Both h me _ _ (keeps.starts h me hand kept.0 served);
        begun_own = keeps.begun_own;
        begun_spare = keeps.begun_spare;
        begun_deed = keeps.begun_deed;
        put = keeps.put;
        put_call = keeps.put_call;
        put_effects = keeps.put_effects;
        put_past = keeps.put_past;
        put_reply = keeps.put_reply;
        put_storing = keeps.put_storing;
        more = λ h me you op kept. keeps.more h me you op kept.0;
        steady = λ h me you op m after_it kept. keeps.steady h me you op m after_it kept.0;
        reads = λ h me you op m word raw after_it kept. keeps.reads h me you op m word raw after_it kept.0;
        resumes = λ h me op m after_it kept served named name first old call ended facts owns known.
            goes_so K Both h _ _ _ (keeps.resumes h me op m after_it kept.0 served named name first old call ended
            (facts_so Both K h me _ m facts) (owns_so Both K h _ m owns) known);
        coherent = λ h me op m after_it kept call ended owns known.
            coherent_so K Both _ _ (keeps.coherent h me op m after_it kept.0 call ended (owns_so Both K h _ m owns) known);
        wins = λ h me you op m kept first further call is part durable alone reach quiet word shadow next needed rests known.
            let r = keeps.wins h me you op m kept.0 first further call is part durable alone reach quiet word shadow next needed rests known in (
              r.0,
              record {
                kept = (
                  r.1.kept,
                  besides.lasts (Some me.name) h _ (wins_on h me.name m.word m.to _ _ r.0 (effect_named (A.effects op) me) quiet kept.0
                      r.1.kept r.1.later) kept.1,
                );
                later = r.1.later;
                knows = r.1.knows;
                update = r.1.update;
                linked = r.1.linked;
              },
            );
        loses = λ h me you op m n found after_it kept. keeps.loses h me you op m n found after_it kept.0;
        writes = λ h me you op m kept. keeps.writes h me you op m kept.0;
        recovers = λ h kept. keeps.recovers h kept.0;
        stores = λ h me you op m w to after_it kept. keeps.stores h me you op m w to after_it kept.0;
        draws = λ h me op m told kept. keeps.draws h me op m told kept.0;
        answers = λ h me op m kept. keeps.answers h me op m kept.0;
      }
