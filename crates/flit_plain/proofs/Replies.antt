-- Calls with their replies as entries: one more at the end.
use Rattle.std.proofs.Common.{◌≡◌, ℕ, suc, ◌+◌, ◌<◌, List, [], ◌∷◌, ◌++◌, length, take, slice_index_or, refl, sym, ap, ◌∙◌, arith}
use Rattle.std.proofs.lemmas.List.{take_more, length-take-le, length_push}
use Rattle.flit_model.specs.Maps.{Map, IsLegal, reply_of, map_after, map_after_all}
use Rattle.flit_model.specs.declared.calls.Call.{Call}
use Rattle.flit_model.specs.declared.calls.Reply.{Reply}
use Rattle.flit_model.specs.declared.calls.Entry.{Entry}
use Rattle.flit_model.proofs.Legal.{legal-append, map_after_all-append}
use Rattle.flit_plain.specs.Playing.{entries_from, entries_of}

-- an entry of this call and this reply, behind these entries
pub record IsOneMore (entries more : List Entry) (c : Call) (r : Reply) : Type 0 where
  pub entry : Entry
  pub call : entry.call ≡ c
  pub reply : entry.reply ≡ r
  pub is : more ≡ entries ++ entry ∷ []

pub entries_from_push : (n : ℕ) (calls : List Call) (replies : List Reply) (c : Call) (r : Reply) → length calls ≡ length replies →
    IsOneMore (entries_from n calls replies) (entries_from n (calls ++ c ∷ []) (replies ++ r ∷ [])) c r
entries_from_push n [] [] c r e = record { entry = record { worker = 1; number = n; call = c; reply = r }; call = refl; reply = refl; is = refl }
entries_from_push n [] (s ∷ replies) c r e = absurd (omega (arith, e))
entries_from_push n (d ∷ calls) [] c r e = absurd (omega (arith, e))
entries_from_push n (d ∷ calls) (s ∷ replies) c r e =
    let rest = entries_from_push (suc n) calls replies c r (omega (arith, e)) in
    record { entry = rest.entry; call = rest.call; reply = rest.reply; is = ap (λ es. record { worker = 1; number = n; call = d; reply = s } ∷ es) rest.is }

-- what is so of the entries so far
pub record IsPlayed (m after : Map) (calls : List Call) (replies : List Reply) (i : ℕ) : Type 0 where
  pub counted : length replies ≡ i
  pub legal : IsLegal m (entries_of (take i calls) replies)
  pub leaves : map_after_all m (entries_of (take i calls) replies) ≡ after

one_more_legal : (m after : Map) (entries more : List Entry) (c : Call) (r : Reply) → IsOneMore entries more c r → IsLegal m entries →
    map_after_all m entries ≡ after → r ≡ reply_of after c → IsLegal m more
one_more_legal m after entries more c r one legal leaves right =
    rw one.is
    (legal-append m entries (one.entry ∷ []) legal
    (one.reply ∙ right ∙ ap (λ n. reply_of n c) (sym leaves) ∙ ap (reply_of (map_after_all m entries)) (sym one.call), tt))

one_more_leaves : (m after : Map) (entries more : List Entry) (c : Call) (r : Reply) → IsOneMore entries more c r → map_after_all m entries ≡ after →
    map_after_all m more ≡ map_after after c
one_more_leaves m after entries more c r one leaves =
    ap (map_after_all m) one.is
    ∙ map_after_all-append m entries (one.entry ∷ [])
    ∙ ap (λ n. map_after n one.entry.call) leaves
    ∙ ap (map_after after) one.call

pub played_none : (m : Map) (calls : List Call) (replies : List Reply) → replies ≡ [] → IsPlayed m m calls replies 0
played_none m calls replies none = rw none (record { counted = refl; legal = tt; leaves = refl })

pub played_more : (m after : Map) (calls : List Call) (replies : List Reply) (i next : ℕ) (d : Call) (r : Reply) → i < length calls → next ≡ i + 1 →
    r ≡ reply_of after (slice_index_or calls i d) → IsPlayed m after calls replies i →
    IsPlayed m (map_after after (slice_index_or calls i d)) calls (replies ++ r ∷ []) next
played_more m after calls replies i next d r below above right h =
    let c = slice_index_or calls i d in
    let front = take i calls in
    let counted = length-take-le i calls (omega (arith, below)) in
    let one = entries_from_push 1 front replies c r (counted ∙ sym h.counted) in
    let taken : take next calls ≡ front ++ c ∷ [] = ap (λ n. take n calls) above ∙ take_more calls i d below in
    record {
      counted = length_push replies r ∙ ap (λ n. n + 1) h.counted ∙ sym above;
      legal = rw taken (one_more_legal m after _ _ c r one h.legal h.leaves right);
      leaves = rw taken (one_more_leaves m after _ _ c r one h.leaves);
    }
