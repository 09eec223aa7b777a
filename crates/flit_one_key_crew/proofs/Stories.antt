-- What all updates of the one key leave: the map, the head, and what a call answers that has loaded the head.
use Rattle.std.proofs.Common.{◌≡◌, ◌≢◌, ℕ, zero, suc, ◌+◌, ◌==◌, eqb, not, Bool, true, false, cond, List, [], ◌∷◌, ◌++◌, length, Option, Some, None, is_some, refl, sym, ◌∙◌, ap, subst, arith, if◌then◌else◌, ne_eqb}
use Rattle.std.proofs.lemmas.Bool.{false≢true, eq-eqb}
use Rattle.std.specs.Ordering.{nat_cmp}
use Rattle.std.specs.Cmp.{nat_cmp_total, unsigned_tied}
use Rattle.std.specs.FinMap as fin
use Rattle.std.specs.FinMap.{get-empty, get-insert, get-remove, same_map, nat_cmp-IsAntisymmetric}
use Rattle.flit_words.specs.Links.{link_of}
use Rattle.flit_model.specs.Maps.{IsLegal, reply_of, map_after, map_after_all, found_or_no, key_of}
use Rattle.flit_model.specs.declared.calls.Call.{Call}
use Rattle.flit_model.specs.declared.calls.Call.TheVariants.{Insert, Remove, Contains, Get}
use Rattle.flit_model.specs.declared.calls.Reply.{Reply}
use Rattle.flit_model.specs.declared.calls.Reply.TheVariants.{Yes, No}
use Rattle.flit_model.specs.declared.calls.Entry.{Entry}
use Rattle.flit_one_key_crew.specs.OneKeyCrew.{map_if, link_to, linked_after, IsStory}

-- ---- the map of one key

pub get_single : {X : Type 0} (k : ℕ) (v : X) (q : ℕ) → fin.get (fin.insert {K = ℕ} {X = X} {R = nat_cmp} fin.empty k v) q ≡ cond (eqb q k) (Some v) None
get_single {X} k v q = get-insert nat_cmp_total fin.empty k v q ∙ ap (λ b. cond b (Some v) (fin.get {K = ℕ} {X = X} {R = nat_cmp} fin.empty q))
    (unsigned_tied q k) ∙ ap (λ o. cond (eqb q k) (Some v) o) (get-empty nat_cmp q)

none_there : (k : ℕ) → fin.contains_key {K = ℕ} {X = ℕ} {R = nat_cmp} fin.empty k ≡ false
none_there k = ap is_some (get-empty nat_cmp k)

one_there : (k v : ℕ) → fin.contains_key (fin.insert {K = ℕ} {X = ℕ} {R = nat_cmp} fin.empty k v) k ≡ true
one_there k v = ap is_some (get_single k v k ∙ ap (λ b. cond b (Some v) None) (eq-eqb k k refl))

gone : (k v : ℕ) → fin.remove (fin.insert {K = ℕ} {X = ℕ} {R = nat_cmp} fin.empty k v) k ≡ fin.empty
gone k v = same_map nat_cmp_total nat_cmp-IsAntisymmetric _ _ (λ q.
    get-remove nat_cmp_total _ k q ∙ ap (λ b. cond b None (fin.get (fin.insert {K = ℕ} {X = ℕ} {R = nat_cmp} fin.empty k v) q)) (unsigned_tied q k)
    ∙ ap (λ o. cond (eqb q k) None o) (get_single k v q) ∙ either (eqb q k) ∙ sym (get-empty nat_cmp q))
  where
    either : (b : Bool) → cond b None (cond b (Some v) None) ≡ None
    either true = refl
    either false = refl

-- ---- the updates up to any of them

pub record Leads (k v : ℕ) (b : Bool) (es : List Entry) : Type 0 where
  pub legal : IsLegal (map_if b k v) es
  pub content : map_after_all (map_if b k v) es ≡ map_if (linked_after b (length es)) k v

one_more : (k v : ℕ) (b : Bool) (e : Entry) (es : List Entry) → e.reply ≡ reply_of (map_if b k v) e.call →
    map_after (map_if b k v) e.call ≡ map_if (not b) k v →
    Leads k v (not b) es → Leads k v b (e ∷ es)
one_more k v b e es reply after h = record {
  legal = (reply, subst (λ m. IsLegal m es) (sym after) h.legal);
  content = ap (λ m. map_after_all m es) after ∙ h.content;
}

pub story_leads : (k v : ℕ) (b : Bool) (upd rest : List Entry) → IsStory k v b (upd ++ rest) → Leads k v b upd
story_leads k v b [] rest h = record { legal = tt; content = refl }
story_leads k v true (d ∷ upd) rest h = one_more k v true d upd
    (h.1 ∙ sym (ap (reply_of (fin.insert fin.empty k v)) h.0 ∙ ap (λ b. if b then Yes else No) (one_there k v)))
    (ap (map_after (fin.insert fin.empty k v)) h.0 ∙ gone k v)
    (story_leads k v false upd rest (subst (IsStory k v false) (sym h.2) tt))
story_leads k v false (e ∷ upd) rest h = one_more k v false e upd
    (h.1 ∙ sym (ap (reply_of fin.empty) h.0 ∙ ap (λ b. if b then No else Yes) (none_there k)))
    (ap (map_after fin.empty) h.0 ∙ ap (λ b. if b then fin.empty else fin.insert fin.empty k v) (none_there k))
    (story_leads k v true upd rest h.2)

-- a remove may follow where the head links the row
pub story_removes : (k v : ℕ) (b : Bool) (es : List Entry) (d : Entry) → d.call ≡ Remove k → d.reply ≡ Yes → linked_after b (length es) ≡ true →
    IsStory k v b es → IsStory k v b (es ++ d ∷ [])
story_removes k v true [] d call reply linked h = (call, reply, refl)
story_removes k v false [] d call reply linked h = absurd (false≢true linked)
story_removes k v true (e ∷ es) d call reply linked h = absurd (false≢true (sym (ap (λ xs. linked_after false (length xs)) h.2) ∙ linked))
story_removes k v false (e ∷ es) d call reply linked h = (h.0, h.1, story_removes k v true es d call reply linked h.2)

one_further : (b : Bool) (n : ℕ) → linked_after b (suc n) ≡ not (linked_after b n)
one_further b zero = refl
one_further b (suc n) = one_further (not b) n

pub linked_next : (b : Bool) (n : ℕ) → linked_after b (n + 1) ≡ not (linked_after b n)
linked_next b n = ap (linked_after b) (plus n) ∙ one_further b n
  where
    plus : (n : ℕ) → n + 1 ≡ suc n
    plus n = omega arith

-- ---- the head

link_row : (b : Bool) → ((link_of (link_to b)).row == 0) ≡ not b
link_row true = refl
link_row false = refl

pub link_told : (b : Bool) (value : ℕ) → value ≡ link_to b → ((link_of value).row == 0) ≡ not b
link_told b value is = ap (λ x. (link_of x).row == 0) is ∙ link_row b

pub turned : (b c : Bool) → not b ≡ c → b ≡ not c
turned true true e = sym e
turned true false e = refl
turned false true e = refl
turned false false e = sym e

-- ---- what a call answers

-- what a call that finds this answers, where it updates nothing
abbrev pub answer_by : Call → Option ℕ → Reply
answer_by (Insert k v) found = if is_some found then No else Yes
answer_by (Remove k) found = if is_some found then Yes else No
answer_by (Contains k) found = if is_some found then Yes else No
answer_by (Get k) found = found_or_no found

pub answers_found : (m : fin.FinMap nat_cmp ℕ) (found : Option ℕ) (call : Call) → fin.get m (key_of call) ≡ found → answer_by call found ≡ reply_of m call
answers_found m found (Insert k v) is = ap (λ o. if is_some o then No else Yes) (sym is)
answers_found m found (Remove k) is = ap (λ o. if is_some o then Yes else No) (sym is)
answers_found m found (Contains k) is = ap (λ o. if is_some o then Yes else No) (sym is)
answers_found m found (Get k) is = ap found_or_no (sym is)

pub has_key : (linked : Bool) (key value wanted : ℕ) → linked ≡ true → key ≡ wanted → fin.get (map_if linked key value) wanted ≡ Some value
has_key linked key value wanted is same =
    ap (λ b. fin.get (map_if b key value) wanted) is
    ∙ get_single key value wanted
    ∙ ap (λ b. cond b (Some value) None) (eq-eqb wanted key (sym same))

pub has_none : (linked : Bool) (key value wanted : ℕ) → linked ≡ false → fin.get (map_if linked key value) wanted ≡ None
has_none linked key value wanted is = ap (λ b. fin.get (map_if b key value) wanted) is ∙ get-empty nat_cmp wanted

pub has_other : (linked : Bool) (key value wanted : ℕ) → key ≢ wanted → fin.get (map_if linked key value) wanted ≡ None
has_other true key value wanted other = get_single key value wanted ∙ ap (λ b. cond b (Some value) None) (ne_eqb wanted key (λ e. other (sym e)))
has_other false key value wanted other = get-empty nat_cmp wanted
