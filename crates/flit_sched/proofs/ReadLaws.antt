-- The read that a turn completes, and its place.
use Rattle.std.proofs.Common.{◌≡◌, ℕ, ◌+◌, ◌≤◌, Bool, true, false, List, [], ◌∷◌, ◌++◌, length, take, refl, sym, ◌∙◌, ap, subst, arith, Option, Some, None, length-append}
use Rattle.std.specs.FinMap as fin
use Rattle.flit_model.specs.Maps.{Map, map_after_all}
use Rattle.flit_model.specs.Histories.{is_read_by}
use Rattle.flit_model.specs.declared.calls.Call.{Call}
use Rattle.flit_model.specs.declared.calls.Entry.{Entry}
use Rattle.flit_model.specs.declared.calls.Placed.{Placed}
use Rattle.flit_model.specs.declared.calls.Item.{Item}
use Rattle.flit_model.specs.declared.calls.Item.TheVariants.{Call as Call_item, Evict as Evict_item}
use Rattle.flit_model.specs.declared.calls.Reply.{Reply}
use Rattle.flit_pv.specs.declared.hands.Hand.{Hand}
use Rattle.flit_structure.specs.declared.workers.Doing.{Doing}
use Rattle.flit_structure.specs.declared.workers.Doing.TheVariants.{Idle, Busy, Evicting}
use Rattle.flit_structure.specs.declared.workers.Worker.{Worker}
use Rattle.flit_structure.specs.Moments.{Moment, with_workers}
use Rattle.flit_structure.specs.Meanings.{Meaning, first_at, goes_on, key_of, replied}
use Rattle.flit_structure.specs.Lawful.{Lawful, IsPlacedFrom}
use Rattle.flit_sched.specs.Reads.{AreReadsIf, IsLeastPlace}
use Rattle.flit_sched.specs.Turns.{enters, read_in, read_if, read_replied, AreReadsIn, AreReadsReplied, hand_over, hand_replied, over_after}
use Rattle.flit_sched.specs.Kept.{IsAtItem}
use Rattle.flit_sched.proofs.StepLaws.{at}
use Rattle.flit_sched.proofs.KeptLaws.{IsNotedFor, take_front, take_whole}

module _ {Op : Type 0} (meaning : Meaning Op) where
  -- what is noted of a call under way
  abbrev pub NotedIn : Map → List Entry → Option ℕ → Doing Op → Type 0
  NotedIn content updates noted (Idle hand) = Unit {0}
  NotedIn content updates noted (Busy op call None) = ⊥
  NotedIn content updates noted (Busy op call (Some n)) = (n ≤ length updates) × (noted ≡ fin.get (map_after_all content (take n updates)) (key_of call))
  NotedIn content updates noted (Evicting evict) = Unit {0}

  pub noted_in : (content : Map) (settled more : List Entry) (item : Item) (was noted : Option ℕ) (name number told : ℕ) (doing : Doing Op) →
      IsAtItem meaning content settled (Some item) was doing → IsNotedFor meaning content settled (Some item) was noted doing →
      NotedIn content (settled ++ more) noted (goes_on meaning (length settled) (enters meaning (at name number doing) doing (Some item)).doing told)
  noted_in content settled more (Call_item call) was noted name number told (Idle hand) k n = (
    (let q = length-append settled more in omega (arith, q)),
    n ∙ ap (λ xs. fin.get (map_after_all content xs) (key_of call))
        (sym (take_whole settled more)),
  )
  noted_in content settled more (Evict_item word) was noted name number told (Idle hand) k n = tt
  noted_in content settled more item was noted name number told (Busy op call None) k n = absurd k
  noted_in content settled more item was noted name number told (Busy op call (Some first)) k n = (
    (let q = length-append settled more in let r = k.2 in omega (arith, q, r)),
    n ∙ k.3
        ∙ ap (λ xs. fin.get (map_after_all content xs) (key_of call)) (sym (take_front first settled more k.2)),
  )
  noted_in content settled more item was noted name number told (Evicting evict) k n = tt

  -- a call whose reply is a completed read
  pub record HasRead (doing : Doing Op) (call : Call) (first : ℕ) (reply : Reply) : Type 0 where
    pub op : Op
    pub begun : Option ℕ
    pub is : doing ≡ Busy op call begun
    pub replied : replied meaning op ≡ Some reply
    pub read : is_read_by call reply ≡ true
    pub from : first ≡ first_at 0 begun

  pub read_some : (doing : Doing Op) (call : Call) (first : ℕ) (reply : Reply) → read_in meaning doing ≡ Some (call, first, reply) →
      HasRead doing call first reply
  read_some (Idle hand) call first reply e = absurd (cc)
  read_some (Evicting evict) call first reply e = absurd (cc)
  read_some (Busy op c begun) call first reply e = by_reply (replied meaning op) refl e
    where
      by_kind : (r : Reply) (t : Bool) → replied meaning op ≡ Some r → is_read_by c r ≡ t → read_if t c (first_at 0 begun) r ≡ Some (call, first, reply) →
          HasRead (Busy op c begun) call first reply
      by_kind r true is kind e =
          let all : ◌≡◌ {A = Call × ℕ × Reply} (c, first_at 0 begun, r) (call, first, reply) = cc in
          let calls : c ≡ call = ap (λ (x : Call × ℕ × Reply). x.0) all in
          let firsts : first_at 0 begun ≡ first = ap (λ (x : Call × ℕ × Reply). x.1) all in
          let replies : r ≡ reply = ap (λ (x : Call × ℕ × Reply). x.2) all in
          record {
            op = op;
            begun = begun;
            is = ap (λ x. Busy op x begun) calls;
            replied = is ∙ ap (λ x. Some x) replies;
            read = ap (λ x. is_read_by x reply) (sym calls) ∙ ap (λ x. is_read_by c x) (sym replies) ∙ kind;
            from = sym firsts;
          }
      by_kind r false is kind e = absurd (cc)

      by_reply : (o : Option Reply) → replied meaning op ≡ o → read_replied meaning c begun o ≡ Some (call, first, reply) →
          HasRead (Busy op c begun) call first reply
      by_reply None is e = absurd (cc)
      by_reply (Some r) is e = by_kind r (is_read_by c r) is refl e

  pub read_none : (content : Map) (updates : List Entry) (name number : ℕ) (doing : Doing Op) → read_in meaning doing ≡ None →
      AreReadsIn meaning content updates name number doing []
  read_none content updates name number (Idle hand) e = refl
  read_none content updates name number (Evicting evict) e = refl
  read_none content updates name number (Busy op call begun) e = by_reply (replied meaning op) e
    where
      by_kind : (r : Reply) (t : Bool) → read_if t call (first_at 0 begun) r ≡ None →
          AreReadsIf t content updates (first_at 0 begun) (record { worker = name; number = number; call = call; reply = r }) []
      by_kind r true e = absurd (cc)
      by_kind r false e = refl

      by_reply : (o : Option Reply) → read_replied meaning call begun o ≡ None → AreReadsReplied meaning content updates name number call begun o []
      by_reply None e = refl
      by_reply (Some r) e = by_kind r (is_read_by call r) e

  pub read_placed : (content : Map) (updates : List Entry) (name number : ℕ) (doing : Doing Op) (call : Call) (first : ℕ) (reply : Reply) →
      HasRead doing call first reply →
      (r : Placed) → r.entry ≡ record { worker = name; number = number; call = call; reply = reply } → IsLeastPlace content updates first r →
      AreReadsIn meaning content updates name number doing (r ∷ [])
  read_placed content updates name number doing call first reply h r e place =
      subst (λ x. AreReadsIn meaning content updates name number x (r ∷ [])) (sym h.is)
      (subst (λ o. AreReadsReplied meaning content updates name number call h.begun o (r ∷ [])) (sym h.replied)
      (subst (λ t. AreReadsIf t content updates (first_at 0 h.begun) (record { worker = name; number = number; call = call; reply = reply }) (r ∷ []))
      (sym h.read) (
        r.position,
        (
          ap (λ x. record { position = r.position; entry = x } ∷ []) e,
          subst (λ n. IsLeastPlace content updates n (record {
            position = r.position;
            entry =
                record { worker = name; number = number; call = call; reply = reply };
          })) h.from
              (subst (λ x. IsLeastPlace content updates first (record { position = r.position; entry = x })) e place),
        ),
      )))

  -- a call that has its reply is over
  pub read_over : (doing : Doing Op) (call : Call) (first : ℕ) (reply : Reply) (over : ℕ) → HasRead doing call first reply →
      over_after meaning over (hand_over meaning doing) ≡ over + 1
  read_over doing call first reply over h =
      ap (λ x. over_after meaning over (hand_over meaning x)) h.is ∙ ap (λ o. over_after meaning over (hand_replied meaning h.op o)) h.replied

  pub over_grows : (over : ℕ) (doing : Doing Op) → over ≤ over_after meaning over (hand_over meaning doing)
  over_grows over doing = by_hand (hand_over meaning doing)
    where
      by_hand : (o : Option Hand) → over ≤ over_after meaning over o
      by_hand None = omega arith
      by_hand (Some hand) = omega arith

  -- the law's place of the read
  pub law_place : Lawful meaning → (M : Moment Op) (a b : List (Worker Op)) (name number : ℕ) (doing : Doing Op) (call : Call) (first : ℕ) (reply : Reply) →
      HasRead doing call first reply →
      meaning.holds (with_workers M (a ++ at name number doing ∷ b)) → IsPlacedFrom first M.opening.content M.progress.settled
      (record { worker = name; number = number; call = call; reply = reply })
  law_place l M a b name number doing call first reply h held =
      subst (λ n. IsPlacedFrom n M.opening.content M.progress.settled (record { worker = name; number = number; call = call; reply = reply })) (sym h.from)
      ((l.replies M a name number h.op call h.begun reply b h.replied (subst (λ x. meaning.holds (with_workers M (a ++ at name number x ∷ b))) h.is held)).read
      h.read)

  -- what was noted is what the map had then
  pub noted_then : (content : Map) (updates : List Entry) (noted : Option ℕ) (doing : Doing Op) (call : Call) (first : ℕ) (reply : Reply) →
      HasRead doing call first reply → NotedIn content updates noted doing →
      (first ≤ length updates) × (noted ≡ fin.get (map_after_all content (take first updates)) (key_of call))
  noted_then content updates noted doing call first reply h n = by_begun h.begun h.from (subst (NotedIn content updates noted) h.is n)
    where
      by_begun : (o : Option ℕ) → first ≡ first_at 0 o → NotedIn content updates noted (Busy h.op call o) → (first ≤ length updates)
          × (noted ≡ fin.get (map_after_all content (take first updates)) (key_of call))
      by_begun None e k = absurd k
      by_begun (Some x) e k = subst (λ y. (y ≤ length updates) × (noted ≡ fin.get (map_after_all content (take y updates)) (key_of call))) (sym e) k
