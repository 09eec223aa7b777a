-- A run after a turn, written out.
use Rattle.std.proofs.Common.{◌≡◌, ◌⊎◌, inl, inr, ℕ, ◌<◌, ◌≤◌, Bool, true, false, List, [], ◌∷◌, ◌++◌, length, refl, sym, ◌∙◌, ap, subst, Option, Some, None}
use Rattle.std.proofs.lemmas.Bool.{cases_lt}
use Rattle.std.specs.List.{AllByRecursion}
use Rattle.flit_model.specs.Maps.{Map}
use Rattle.flit_model.specs.States.{State}
use Rattle.flit_model.specs.Effects.{after}
use Rattle.flit_model.specs.Histories.{is_read_by}
use Rattle.flit_model.specs.Settling.{Progress, progress_after}
use Rattle.flit_model.specs.declared.calls.Call.{Call}
use Rattle.flit_model.specs.declared.calls.Entry.{Entry}
use Rattle.flit_model.specs.declared.calls.Placed.{Placed}
use Rattle.flit_model.specs.declared.calls.Reply.{Reply}
use Rattle.flit_model.specs.declared.events.Event.{Event}
use Rattle.flit_structure.specs.declared.workers.Doing.{Doing}
use Rattle.flit_structure.specs.declared.workers.Doing.TheVariants.{Idle, Busy, Evicting}
use Rattle.flit_structure.specs.Meanings.{Meaning, first_at, asked_by, effect_by, replied}
use Rattle.flit_sched.specs.Runs.{Part, Run}
use Rattle.flit_sched.specs.Reads.{IsLeastPlace, AreReadsIf}
use Rattle.flit_sched.specs.Turns.{Turned, IsOut, entered, part_after, doing_after, AreReadsIn, AreReadsReplied}

module _ {Op : Type 0} (meaning : Meaning Op) where
  abbrev pub progress_made : Run Op → Part Op → Event → Progress
  progress_made r p e = progress_after r.progress r.state e (effect_by meaning (entered meaning p))

  abbrev pub doing_made : Run Op → Part Op → Event → Doing Op
  doing_made r p e = doing_after meaning (entered meaning p) r.state (length r.progress.settled) e

  abbrev pub part_made : Run Op → Part Op → Event → Part Op
  part_made r p e = part_after meaning p (entered meaning p) (doing_made r p e)

  abbrev pub turned_run : Run Op → List (Part Op) → Part Op → List (Part Op) → Event → List Placed → Run Op
  turned_run r a p b e reads = record {
    content = r.content;
    state = after r.state e;
    progress = progress_made r p e;
    placed = r.placed ++ reads;
    parts = a ++ part_made r p e ∷ b;
  }

  -- the worker makes this event, and these reads come by it
  pub record Makes (r : Run Op) (a : List (Part Op)) (p : Part Op) (b : List (Part Op)) (e : Event) (reads : List Placed) : Type 0 where
    pub is : r.parts ≡ a ++ p ∷ b
    pub more : p.over < length p.items
    pub asks : asked_by meaning (entered meaning p) ≡ Some e
    pub reads_are : AreReadsIn meaning r.content (progress_made r p e).settled (entered meaning p).name (entered meaning p).number (doing_made r p e) reads

  same_run : (q : Run Op) (c : Map) (m : State) (g : Progress) (reads : List Placed) (ps : List (Part Op)) →
      q.content ≡ c → q.state ≡ m → q.progress ≡ g → q.placed ≡ reads → q.parts ≡ ps →
      ◌≡◌ {A = Run Op} q (record { content = c; state = m; progress = g; placed = reads; parts = ps })
  same_run q c m g reads ps hc hm hg hr hp =
      ap {A = Map} {B = Run Op} (λ x. record { content = x; state = q.state; progress = q.progress; placed = q.placed; parts = q.parts }) hc
      ∙ ap {A = State} {B = Run Op} (λ x. record { content = c; state = x; progress = q.progress; placed = q.placed; parts = q.parts }) hm
      ∙ ap {A = Progress} {B = Run Op} (λ x. record { content = c; state = m; progress = x; placed = q.placed; parts = q.parts }) hg
      ∙ ap {A = List Placed} {B = Run Op} (λ x. record { content = c; state = m; progress = g; placed = x; parts = q.parts }) hr
      ∙ ap {A = List (Part Op)} {B = Run Op} (λ x. record { content = c; state = m; progress = g; placed = reads; parts = x }) hp

  pub turned_is : (r next : Run Op) (worker : ℕ) (e : Event) (told : ℕ) (t : Turned meaning r worker e told next) →
      next ≡ turned_run r t.before t.part t.behind e t.reads
  turned_is r next worker e told t =
      same_run next r.content (after r.state e) (progress_made r t.part e) (r.placed ++ t.reads) (t.before ++ part_made r t.part e ∷ t.behind)
      t.content t.state t.progress t.placed t.parts

  not_out : (p : Part Op) → ¬ (IsOut p) → (p.over < length p.items) ⊎ (length p.items ≤ p.over) → p.over < length p.items
  not_out p on (inl less) = less
  not_out p on (inr le) = absurd (on (inl le))

  pub makes : (r next : Run Op) (worker : ℕ) (e : Event) (told : ℕ) (t : Turned meaning r worker e told next) → Makes r t.before t.part t.behind e t.reads
  makes r next worker e told t = record {
    is = t.is.is;
    more = not_out t.part t.on (cases_lt t.part.over (length t.part.items));
    asks = t.asks;
    reads_are = subst (λ g. AreReadsIn meaning r.content g.settled (entered meaning t.part).name (entered meaning t.part).number (doing_made r t.part e)
        t.reads) t.progress t.reads_are;
  }

  -- each read that comes is of a call that has its reply now, and stands at its least place
  pub record ReadNow (before : Map) (updates : List Entry) (name number : ℕ) (d : Doing Op) (q : Placed) : Type 0 where
    pub op : Op
    pub call : Call
    pub begun : Option ℕ
    pub reply : Reply
    pub doing : d ≡ Busy op call begun
    pub answered : replied meaning op ≡ Some reply
    pub kind : is_read_by call reply ≡ true
    pub entry : q.entry ≡ record { worker = name; number = number; call = call; reply = reply }
    pub placed : IsLeastPlace before updates (first_at 0 begun) q

  reads_if : (before : Map) (updates : List Entry) (name number : ℕ) (op : Op) (call : Call) (begun : Option ℕ) (reply : Reply) (reads : List Placed) →
      replied meaning op ≡ Some reply → (t : Bool) → is_read_by call reply ≡ t →
      AreReadsIf t before updates (first_at 0 begun) (record { worker = name; number = number; call = call; reply = reply }) reads →
      AllByRecursion (ReadNow before updates name number (Busy op call begun)) reads
  reads_if before updates name number op call begun reply reads is false kind h =
      subst (AllByRecursion (ReadNow before updates name number (Busy op call begun))) (sym h) tt
  reads_if before updates name number op call begun reply reads is true kind h =
      subst (AllByRecursion (ReadNow before updates name number (Busy op call begun))) (sym h.1.0)
      (record { op = op; call = call; begun = begun; reply = reply; doing = refl; answered = is; kind = kind; entry = refl; placed = h.1.1 }, tt)

  reads_replied : (before : Map) (updates : List Entry) (name number : ℕ) (op : Op) (call : Call) (begun : Option ℕ) (o : Option Reply) (reads : List Placed) →
      replied meaning op ≡ o →
      AreReadsReplied meaning before updates name number call begun o reads → AllByRecursion (ReadNow before updates name number (Busy op call begun)) reads
  reads_replied before updates name number op call begun None reads is h =
      subst (AllByRecursion (ReadNow before updates name number (Busy op call begun))) (sym h) tt
  reads_replied before updates name number op call begun (Some reply) reads is h =
      reads_if before updates name number op call begun reply reads is (is_read_by call reply) refl h

  pub reads_now : (before : Map) (updates : List Entry) (name number : ℕ) (d : Doing Op) (reads : List Placed) →
      AreReadsIn meaning before updates name number d reads →
      AllByRecursion (ReadNow before updates name number d) reads
  reads_now before updates name number (Idle hand) reads h = subst (AllByRecursion (ReadNow before updates name number (Idle hand))) (sym h) tt
  reads_now before updates name number (Busy op call begun) reads h = reads_replied before updates name number op call begun (replied meaning op) reads refl h
  reads_now before updates name number (Evicting evict) reads h = subst (AllByRecursion (ReadNow before updates name number (Evicting evict))) (sym h) tt

  -- a call that has its reply now adds one read where it is a completed read, and else none
  pub one_read : (before : Map) (updates : List Entry) (name number : ℕ) (op : Op) (call : Call) (begun : Option ℕ) (reply : Reply) (reads : List Placed) →
      replied meaning op ≡ Some reply →
      AreReadsIn meaning before updates name number (Busy op call begun) reads → is_read_by call reply ≡ true → (q : Placed) × (reads ≡ q ∷ [])
      × (q.entry ≡ record { worker = name; number = number; call = call; reply = reply })
  one_read before updates name number op call begun reply reads is h kind =
      let k = subst (λ t. AreReadsIf t before updates (first_at 0 begun) (record { worker = name; number = number; call = call; reply = reply }) reads) kind
      (subst (λ o. AreReadsReplied meaning before updates name number call begun o reads) is h) in
      (record { position = k.0; entry = record { worker = name; number = number; call = call; reply = reply } }, k.1.0, refl)

  pub no_read : (before : Map) (updates : List Entry) (name number : ℕ) (op : Op) (call : Call) (begun : Option ℕ) (reply : Reply) (reads : List Placed) →
      replied meaning op ≡ Some reply →
      AreReadsIn meaning before updates name number (Busy op call begun) reads → is_read_by call reply ≡ false → reads ≡ []
  no_read before updates name number op call begun reply reads is h kind =
      subst (λ t. AreReadsIf t before updates (first_at 0 begun) (record { worker = name; number = number; call = call; reply = reply }) reads) kind
      (subst (λ o. AreReadsReplied meaning before updates name number call begun o reads) is h)
