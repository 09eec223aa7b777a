-- A call gives its reply, and all that it depends on is persistent: a read has its position.
use Rattle.std.proofs.Common.{◌≡◌, ℕ, ◌≤◌, true, false, List, take, Option, Some, None, is_some, refl, sym, ◌∙◌, ap, subst, if◌then◌else◌}
use Rattle.std.proofs.lemmas.Bool.{false≢true}
use Rattle.std.specs.FinMap as fin
use Rattle.flit_words.specs.declared.layouts.Layout.{Layout}
use Rattle.flit_words.specs.Words.{version_of}
use Rattle.flit_model.specs.Maps.{Map, key_of, reply_of, found_or_no, map_after_all}
use Rattle.flit_model.specs.Histories.{is_read_by}
use Rattle.flit_model.specs.declared.calls.Call.{Call}
use Rattle.flit_model.specs.declared.calls.Call.TheVariants.{Insert, Remove, Contains, Get}
use Rattle.flit_model.specs.declared.calls.Reply.{Reply}
use Rattle.flit_model.specs.declared.calls.Reply.TheVariants.{Yes, No, Found, Full, Worn}
use Rattle.flit_pv.specs.Fences.{HeldComplete}
use Rattle.flit_runs.specs.Workings.{Completes}
use Rattle.flit_runs.specs.Soundness.{Needs}
use Rattle.flit_structure.specs.Lawful.{IsPlacedFrom, is_insert}
use Rattle.flit_crew.specs.Heaps.{at_shadow}
use Rattle.flit_crew.specs.Machines.{Works}
use Rattle.flit_crew.specs.Crews.{Who}
use Rattle.flit_tree_heap.specs.Views.{TreeHeap}
use Rattle.flit_tree_heap.specs.Kept.{IsKept}
use Rattle.flit_tree_knowing.specs.Positions.{Had, Saw}
use Rattle.flit_tree_knowing.proofs.Positions.{seen_had}
use Rattle.flit_tree_steps.specs.declared.operations.Path.{Path}
use Rattle.flit_tree_steps.specs.Operations.{At, Root, Key, Edge, Rows, LeafWords, LeafValue, InnerWords, Link, Flag, Sibling, Freeze, Swing, Value, Ends, Rests}
use Rattle.flit_tree_laws.specs.Knowing.{SaysNo, SaysYes, Says}
use Rattle.flit_tree_laws.specs.TreeAnatomy.{machine_at}
use Rattle.flit_tree_laws.specs.TreeCrew.{KnowsAt}

abbrev answer_by : Call → Option ℕ → Reply
answer_by (Insert k v) looked = if is_some looked then No else Yes
answer_by (Remove k) looked = if is_some looked then Yes else No
answer_by (Contains k) looked = if is_some looked then Yes else No
answer_by (Get k) looked = found_or_no looked

answers_looked : (m : Map) (looked : Option ℕ) (call : Call) → fin.get m (key_of call) ≡ looked → answer_by call looked ≡ reply_of m call
answers_looked m looked (Insert k v) is = ap (λ o. if is_some o then No else Yes) (sym is)
answers_looked m looked (Remove k) is = ap (λ o. if is_some o then Yes else No) (sym is)
answers_looked m looked (Contains k) is = ap (λ o. if is_some o then Yes else No) (sym is)
answers_looked m looked (Get k) is = ap found_or_no (sym is)

worn_reads : (call : Call) (word version : ℕ) → is_read_by call (Worn word version) ≡ false
worn_reads (Insert k v) word version = refl
worn_reads (Remove k) word version = refl
worn_reads (Contains k) word version = refl
worn_reads (Get k) word version = refl

full_reads : (call : Call) (ticket : ℕ) → is_read_by call (Full ticket) ≡ false
full_reads (Insert k v) ticket = refl
full_reads (Remove k) ticket = refl
full_reads (Contains k) ticket = refl
full_reads (Get k) ticket = refl

module _ (l : Layout) (free : List ℕ) (h : TreeHeap) (K : IsKept l free h) (me : Who)
    (persistent : (w v : ℕ) → Needs me.needs w v → v ≤ version_of (at_shadow h w)) where
  abbrev Placed : Reply → Type 0
  Placed reply = IsPlacedFrom me.first h.opening.content h.progress.settled
      (record { worker = me.name; number = me.number; call = me.call; reply = reply })

  placed : (reply : Reply) (looked : Option ℕ) → is_read_by me.call reply ≡ true → reply ≡ answer_by me.call looked →
      Saw h me.needs me.first (key_of me.call) looked →
      Placed reply
  placed reply looked read e s =
      let d : Had h me.first (key_of me.call) looked = seen_had l free h K me.needs persistent me.first (key_of me.call) looked s in (
        d.0,
        d.1,
        record {
          read = read;
          within = d.2;
          right = e ∙ answers_looked (map_after_all h.opening.content (take d.0 h.progress.settled)) looked me.call d.3;
        },
      )

  read_as : (c : Call) (reply : Reply) → me.call ≡ c → is_read_by me.call reply ≡ true → is_read_by c reply ≡ true
  read_as c reply e r = subst (λ x. is_read_by x reply ≡ true) e r

  seen_one : (looked : Option ℕ) (reply : Reply) (c : Call) → me.call ≡ c → reply ≡ answer_by c looked → is_read_by me.call reply ≡ true →
      Saw h me.needs me.first (key_of me.call) looked → Placed reply
  seen_one looked reply c e a read s = placed reply looked read (a ∙ ap (λ x. answer_by x looked) (sym e)) s

  says_so : (c : Call) → me.call ≡ c → is_read_by me.call No ≡ true → SaysNo l free h me (is_insert c) → Placed No
  says_so (Insert k v) e read f = seen_one (Some f.0) No (Insert k v) e refl read f.1
  says_so (Remove k) e read f = seen_one None No (Remove k) e refl read f
  says_so (Contains k) e read f = seen_one None No (Contains k) e refl read f
  says_so (Get k) e read f = seen_one None No (Get k) e refl read f

  says_yes : (c : Call) → me.call ≡ c → is_read_by me.call Yes ≡ true → SaysYes l free h me c → Placed Yes
  says_yes (Insert k v) e read f = absurd (false≢true (read_as (Insert k v) Yes e read))
  says_yes (Remove k) e read f = absurd (false≢true (read_as (Remove k) Yes e read))
  says_yes (Contains k) e read f = seen_one (Some f.0) Yes (Contains k) e refl read f.1
  says_yes (Get k) e read f = absurd (false≢true (read_as (Get k) Yes e read))

  says_value : (value : ℕ) (c : Call) → me.call ≡ c → is_read_by me.call (Found value) ≡ true → Saw h me.needs me.first (key_of me.call) (Some value) →
      Placed (Found value)
  says_value value (Insert k v) e read f = absurd (false≢true (read_as (Insert k v) (Found value) e read))
  says_value value (Remove k) e read f = absurd (false≢true (read_as (Remove k) (Found value) e read))
  says_value value (Contains k) e read f = absurd (false≢true (read_as (Contains k) (Found value) e read))
  says_value value (Get k) e read f = seen_one (Some value) (Found value) (Get k) e refl read f

  says : (reply : Reply) → is_read_by me.call reply ≡ true → Says l free h me reply → Placed reply
  says Yes read f = says_yes me.call refl read f
  says No read f = says_so me.call refl read f
  says (Found value) read f = says_value value me.call refl read f
  says (Full ticket) read f = absurd (false≢true (sym (full_reads me.call ticket) ∙ read))
  says (Worn word version) read f = absurd (false≢true (sym (worn_reads me.call word version) ∙ read))

  pub answers_at : (reply : Reply) (path : Path) (at : At) (m : HeldComplete) → machine_at at ≡ Works (Completes m) → is_read_by me.call reply ≡ true →
      KnowsAt l free h me reply path at → Placed reply
  answers_at reply path (Root x) m e read f = absurd (cc)
  answers_at reply path (Key x) m e read f = absurd (cc)
  answers_at reply path (Edge x) m e read f = absurd (cc)
  answers_at reply path (Rows x) m e read f = absurd (cc)
  answers_at reply path (LeafWords x) m e read f = absurd (cc)
  answers_at reply path (LeafValue x) m e read f = absurd (cc)
  answers_at reply path (InnerWords x) m e read f = absurd (cc)
  answers_at reply path (Link x) m e read f = absurd (cc)
  answers_at reply path (Flag x) m e read f = absurd (cc)
  answers_at reply path (Sibling c x) m e read f = absurd (cc)
  answers_at reply path (Freeze c x) m e read f = absurd (cc)
  answers_at reply path (Swing c x) m e read f = absurd (cc)
  answers_at reply path (Value x) m e read f = absurd (cc)
  answers_at reply path (Ends x) m e read f = says reply read f
  answers_at reply path (Rests hand) m e read f = absurd (cc)
