-- A call gives its reply, and all that it depends on is persistent: a read has its position.
use Rattle.std.proofs.Common.{◌≡◌, ◌≢◌, ℕ, ◌≤◌, Bool, true, false, List, length, take, Option, Some, None, is_some, ⊎_elim, refl, sym, ◌∙◌, ap, subst, if◌then◌else◌}
use Rattle.std.proofs.lemmas.Bool.{false≢true}
use Rattle.std.specs.FinMap as fin
use Rattle.flit_words.specs.declared.layouts.Layout.{Layout}
use Rattle.flit_words.specs.Words.{version_of, bare_of}
use Rattle.flit_place.proofs.WordTags.{version-bare}
use Rattle.flit_model.specs.Maps.{Map, key_of, reply_of, found_or_no, map_after_all}
use Rattle.flit_model.specs.Lists.{row_value_in}
use Rattle.flit_model.specs.Histories.{is_read_by}
use Rattle.flit_model.specs.declared.calls.Call.{Call}
use Rattle.flit_model.specs.declared.calls.Call.TheVariants.{Insert, Remove, Contains, Get}
use Rattle.flit_model.specs.declared.calls.Reply.{Reply}
use Rattle.flit_model.specs.declared.calls.Reply.TheVariants.{Yes, No, Found, Full, Worn}
use Rattle.flit_pv.specs.Fences.{HeldComplete}
use Rattle.flit_runs.specs.Workings.{Completes}
use Rattle.flit_runs.specs.Soundness.{Needs}
use Rattle.flit_structure.specs.Lawful.{IsPlacedFrom, is_insert}
use Rattle.flit_crew.specs.Heaps.{at_shadow}
use Rattle.flit_crew.specs.Machines.{Works}
use Rattle.flit_crew.specs.Crews.{Who}
use Rattle.flit_list_steps.specs.declared.operations.Path.{Path}
use Rattle.flit_list_steps.specs.Operations.{At, Head, Next, Key, Confirming, Help, Row, Words, RowValue, Link, Mark, Tidy, Value, Ends, Rests}
use Rattle.flit_list_heap.specs.Links.{place_of, row_of}
use Rattle.flit_list_heap.specs.Keeping.{ListHeap, Kept}
use Rattle.flit_list_heap.specs.Seeing.{Had, IsPersistentAt}
use Rattle.flit_list_heap.proofs.Seen.{leads_settled}
use Rattle.flit_list_laws.specs.Walks.{Loaded, Walk}
use Rattle.flit_list_laws.specs.Knowing.{row_after, IsHeldSo, HasFound, SaysNo, SaysYes, Says}
use Rattle.flit_list_laws.specs.ListAnatomy.{machine_at}
use Rattle.flit_list_laws.specs.ListCrew.{KnowsAt}

abbrev answer_by : Call → Option ℕ → Reply
answer_by (Insert k v) looked = if is_some looked then No else Yes
answer_by (Remove k) looked = if is_some looked then Yes else No
answer_by (Contains k) looked = if is_some looked then Yes else No
answer_by (Get k) looked = found_or_no looked

answers_looked : (m : Map) (looked : Option ℕ) (call : Call) → fin.get m (key_of call) ≡ looked → answer_by call looked ≡ reply_of m call
answers_looked m looked (Insert k v) is = ap (λ o. if is_some o then No else Yes) (sym is)
answers_looked m looked (Remove k) is = ap (λ o. if is_some o then Yes else No) (sym is)
answers_looked m looked (Contains k) is = ap (λ o. if is_some o then Yes else No) (sym is)
answers_looked m looked (Get k) is = ap found_or_no (sym is)

pub worn_reads : (call : Call) (word version : ℕ) → is_read_by call (Worn word version) ≡ false
worn_reads (Insert k v) word version = refl
worn_reads (Remove k) word version = refl
worn_reads (Contains k) word version = refl
worn_reads (Get k) word version = refl

pub full_reads : (call : Call) (ticket : ℕ) → is_read_by call (Full ticket) ≡ false
full_reads (Insert k v) ticket = refl
full_reads (Remove k) ticket = refl
full_reads (Contains k) ticket = refl
full_reads (Get k) ticket = refl

module _ (l : Layout) (free : List ℕ) (h : ListHeap) (kept : Kept l free h) (me : Who)
    (persistent : (w v : ℕ) → Needs me.needs w v → v ≤ version_of (at_shadow h w)) where
  abbrev key : ℕ
  key = key_of me.call

  -- what is confirmed is persistent
  pub is_persistent : (q : Loaded) → IsHeldSo l me q.sure (place_of l q.word) q.raw → q.sure ≡ true → IsPersistentAt l h q.word (bare_of q.raw)
  is_persistent q held sure = subst (λ v. v ≤ version_of (at_shadow h (place_of l q.word))) (sym (version-bare q.raw))
      (persistent (place_of l q.word) (version_of q.raw) (subst (λ b. IsHeldSo l me b (place_of l q.word) q.raw) sure held))

  -- so the row that was found is settled, and the map had its key
  present : (w : Walk) → HasFound l h me w → Had h me.first key (Some (row_value_in l h.words (row_after w)))
  present w f = ⊎_elim (λ e. absurd (false≢true (sym e ∙ settled))) (λ d. d) (f.here f.key)
    where
      settled : h.ghost (row_after w) ≡ true
      settled = leads_settled l free h kept key w.link.word (bare_of w.link.raw) f.fact.saw (is_persistent w.link f.fact.held f.sure) f.some

  abbrev Placed : Reply → Type 0
  Placed reply = IsPlacedFrom me.first h.opening.content h.progress.settled
      (record { worker = me.name; number = me.number; call = me.call; reply = reply })

  placed : (reply : Reply) (looked : Option ℕ) → is_read_by me.call reply ≡ true → reply ≡ answer_by me.call looked → Had h me.first key looked → Placed reply
  placed reply looked read e d = (
    d.0,
    d.1,
    record {
      read = read;
      within = d.2;
      right = e ∙ answers_looked (map_after_all h.opening.content (take d.0 h.progress.settled)) looked me.call d.3;
    },
  )

  read_as : (c : Call) (reply : Reply) → me.call ≡ c → is_read_by me.call reply ≡ true → is_read_by c reply ≡ true
  read_as c reply e r = subst (λ x. is_read_by x reply ≡ true) e r

  found_one : (w : Walk) (reply : Reply) (c : Call) → me.call ≡ c → reply ≡ answer_by c (Some (row_value_in l h.words (row_after w))) →
      is_read_by me.call reply ≡ true → HasFound l h me w → Placed reply
  found_one w reply c e a read f = placed reply (Some (row_value_in l h.words (row_after w))) read
      (a ∙ ap (λ x. answer_by x (Some (row_value_in l h.words (row_after w)))) (sym e)) (present w f)

  absent_one : (reply : Reply) (c : Call) → me.call ≡ c → reply ≡ answer_by c None → is_read_by me.call reply ≡ true → Had h me.first key None → Placed reply
  absent_one reply c e a read d = placed reply None read (a ∙ ap (λ x. answer_by x None) (sym e)) d

  says_so : (w : Walk) (c : Call) → me.call ≡ c → (reply : Reply) → is_read_by me.call reply ≡ true → SaysNo l h me (is_insert c) w → reply ≡ No → Placed reply
  says_so w (Insert k v) e reply read f q = found_one w reply (Insert k v) e q read f
  says_so w (Remove k) e reply read f q = absent_one reply (Remove k) e q read f
  says_so w (Contains k) e reply read f q = absent_one reply (Contains k) e q read f
  says_so w (Get k) e reply read f q = absent_one reply (Get k) e q read f

  says_yes : (w : Walk) (c : Call) → me.call ≡ c → is_read_by me.call Yes ≡ true → SaysYes l h me c w → Placed Yes
  says_yes w (Insert k v) e read f = absurd (false≢true (read_as (Insert k v) Yes e read))
  says_yes w (Remove k) e read f = absurd (false≢true (read_as (Remove k) Yes e read))
  says_yes w (Contains k) e read f = found_one w Yes (Contains k) e refl read f
  says_yes w (Get k) e read f = absurd (false≢true (read_as (Get k) Yes e read))

  says_value : (w : Walk) (value : ℕ) (c : Call) → me.call ≡ c → is_read_by me.call (Found value) ≡ true → HasFound l h me w →
      value ≡ row_value_in l h.words (row_after w) → Placed (Found value)
  says_value w value (Insert k v) e read f q = absurd (false≢true (read_as (Insert k v) (Found value) e read))
  says_value w value (Remove k) e read f q = absurd (false≢true (read_as (Remove k) (Found value) e read))
  says_value w value (Contains k) e read f q = absurd (false≢true (read_as (Contains k) (Found value) e read))
  says_value w value (Get k) e read f q = found_one w (Found value) (Get k) e (ap Found q) read f

  says : (w : Walk) (reply : Reply) → is_read_by me.call reply ≡ true → Says l h me reply w → Placed reply
  says w Yes read f = says_yes w me.call refl read f
  says w No read f = says_so w me.call refl No read f refl
  says w (Found value) read f = says_value w value me.call refl read f.0 f.1
  says w (Full ticket) read f = absurd (false≢true (sym (full_reads me.call ticket) ∙ read))
  says w (Worn word version) read f = absurd (false≢true (sym (worn_reads me.call word version) ∙ read))

  pub answers_at : (reply : Reply) (path : Path) (w : Walk) (n : Loaded) (at : At) (m : HeldComplete) → machine_at at ≡ Works (Completes m) →
      is_read_by me.call reply ≡ true → KnowsAt l h me reply path w n at → Placed reply
  answers_at reply path w n (Head x) m e read f = absurd (cc)
  answers_at reply path w n (Next x) m e read f = absurd (cc)
  answers_at reply path w n (Key x) m e read f = absurd (cc)
  answers_at reply path w n (Confirming goal which x) m e read f = absurd (cc)
  answers_at reply path w n (Help x) m e read f = absurd (cc)
  answers_at reply path w n (Row x) m e read f = absurd (cc)
  answers_at reply path w n (Words x) m e read f = absurd (cc)
  answers_at reply path w n (RowValue x) m e read f = absurd (cc)
  answers_at reply path w n (Link x) m e read f = absurd (cc)
  answers_at reply path w n (Mark x) m e read f = absurd (cc)
  answers_at reply path w n (Tidy x) m e read f = absurd (cc)
  answers_at reply path w n (Value x) m e read f = absurd (cc)
  answers_at reply path w n (Ends x) m e read f = says w reply read f
  answers_at reply path w n (Rests hand) m e read f = absurd (cc)
