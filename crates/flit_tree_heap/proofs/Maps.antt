-- What a call makes of a map at its own key and at others; and what is settled behind others.
use Rattle.std.proofs.Common.{◌≡◌, ◌≢◌, ◌⊎◌, ℕ, Bool, true, false, not, cond, Option, Some, None, is_some, refl, sym, ap, ◌∙◌, inl, inr, eq-eqb, ne_eqb}
use Rattle.std.proofs.lemmas.Bool.{false≢true, cases_eq}
use Rattle.std.specs.Cmp.{unsigned_tied, nat_cmp_total}
use Rattle.std.specs.FinMap as fin
use Rattle.std.specs.FinMap.{get-insert, get-remove}
use Rattle.flit_model.specs.declared.calls.Call.{Call}
use Rattle.flit_model.specs.declared.calls.Call.TheVariants.{Insert, Remove, Contains, Get}
use Rattle.flit_model.specs.declared.calls.Reply.{Reply}
use Rattle.flit_model.specs.declared.calls.Reply.TheVariants.{Yes, No}
use Rattle.flit_model.specs.declared.calls.Entry.{Entry}
use Rattle.flit_model.specs.Maps.{Map, reply_of, map_after, found_or_no, key_of}
use Rattle.flit_model.specs.Histories.{is_yes, is_update_by}
use Rattle.flit_model.specs.Settling.{Progress, takes_effect, settles}
use Rattle.flit_structure.specs.Lawful.{is_insert}
use Rattle.flit_structure.proofs.Growing.{get_put, get_gone}

-- what a call's key has after it, where it is an update
abbrev pub gives : Call → Option ℕ
gives (Insert k v) = Some v
gives (Remove k) = None
gives (Contains k) = None
gives (Get k) = None

at_own : (m : Map) (k v : ℕ) → fin.get (fin.insert m k v) k ≡ Some v
at_own m k v = rw (get-insert nat_cmp_total m k v k, unsigned_tied k k, eq-eqb k k refl) refl

at_other : (m : Map) (k v q : ℕ) → q ≢ k → fin.get (fin.insert m k v) q ≡ fin.get m q
at_other m k v q d = rw (get-insert nat_cmp_total m k v q, unsigned_tied q k, ne_eqb q k d) refl

gone_own : (m : Map) (k : ℕ) → fin.get (fin.remove m k) k ≡ None
gone_own m k = rw (get-remove nat_cmp_total m k k, unsigned_tied k k, eq-eqb k k refl) refl

gone_other : (m : Map) (k q : ℕ) → q ≢ k → fin.get (fin.remove m k) q ≡ fin.get m q
gone_other m k q d = rw (get-remove nat_cmp_total m k q, unsigned_tied q k, ne_eqb q k d) refl

insert_own : (m : Map) (k v : ℕ) (b : Bool) → fin.get (cond b m (fin.insert m k v)) k ≡ cond b (fin.get m k) (Some v)
insert_own m k v true = refl
insert_own m k v false = at_own m k v

insert_other : (m : Map) (k v q : ℕ) (b : Bool) → q ≢ k → fin.get (cond b m (fin.insert m k v)) q ≡ fin.get m q
insert_other m k v q true d = refl
insert_other m k v q false d = at_other m k v q d

pub after_other : (m : Map) (c : Call) (q : ℕ) → q ≢ key_of c → fin.get (map_after m c) q ≡ fin.get m q
after_other m (Insert k v) q d = insert_other m k v q (fin.contains_key m k) d
after_other m (Remove k) q d = gone_other m k q d
after_other m (Contains k) q d = refl
after_other m (Get k) q d = refl

-- what a call leaves at its key, and its reply, hang on what the map has at that key alone
pub after_same : (m n : Map) (c : Call) → fin.get m (key_of c) ≡ fin.get n (key_of c) → fin.get (map_after m c) (key_of c) ≡ fin.get (map_after n c) (key_of c)
after_same m n (Insert k v) e =
    insert_own m k v (is_some (fin.get m k)) ∙ ap (λ o. cond (is_some o) o (Some v)) e ∙ sym (insert_own n k v (is_some (fin.get n k)))
after_same m n (Remove k) e = gone_own m k ∙ sym (gone_own n k)
after_same m n (Contains k) e = e
after_same m n (Get k) e = e

pub reply_same : (m n : Map) (c : Call) → fin.get m (key_of c) ≡ fin.get n (key_of c) → reply_of m c ≡ reply_of n c
reply_same m n (Insert k v) e = ap (λ o. cond (is_some o) No Yes) e
reply_same m n (Remove k) e = ap (λ o. cond (is_some o) Yes No) e
reply_same m n (Contains k) e = ap (λ o. cond (is_some o) Yes No) e
reply_same m n (Get k) e = ap found_or_no e

-- an update changes what its key has
yes_no : (b : Bool) (r : Reply) → is_yes r ≡ true → r ≡ cond b No Yes → b ≡ false
yes_no true r y e = absurd (false≢true (ap is_yes (sym e) ∙ y))
yes_no false r y e = refl

yes_yes : (b : Bool) (r : Reply) → is_yes r ≡ true → r ≡ cond b Yes No → b ≡ true
yes_yes true r y e = refl
yes_yes false r y e = absurd (false≢true (ap is_yes (sym e) ∙ y))

pub had_before : (m : Map) (c : Call) (r : Reply) → is_update_by c r ≡ true → r ≡ reply_of m c → is_some (fin.get m (key_of c)) ≡ not (is_insert c)
had_before m (Insert k v) r u e = yes_no (is_some (fin.get m k)) r u e
had_before m (Remove k) r u e = yes_yes (is_some (fin.get m k)) r u e
had_before m (Contains k) r u e = absurd (false≢true u)
had_before m (Get k) r u e = absurd (false≢true u)

pub has_after : (m : Map) (c : Call) (r : Reply) → is_update_by c r ≡ true → r ≡ reply_of m c → fin.get (map_after m c) (key_of c) ≡ gives c
has_after m (Insert k v) r u e =
    insert_own m k v (is_some (fin.get m k)) ∙ ap (λ b. cond b (fin.get m k) (Some v)) (yes_no (is_some (fin.get m k)) r u e)
has_after m (Remove k) r u e = gone_own m k
has_after m (Contains k) r u e = absurd (false≢true u)
has_after m (Get k) r u e = absurd (false≢true u)

pub gives_some : (c : Call) (r : Reply) → is_update_by c r ≡ true → is_some (gives c) ≡ is_insert c
gives_some (Insert k v) r u = refl
gives_some (Remove k) r u = refl
gives_some (Contains k) r u = absurd (false≢true u)
gives_some (Get k) r u = absurd (false≢true u)

pub says_yes : (m : Map) (c : Call) → is_update_by c Yes ≡ true → is_some (fin.get m (key_of c)) ≡ not (is_insert c) → Yes ≡ reply_of m c
says_yes m (Insert k v) u e = sym (ap (λ b. cond b No Yes) e)
says_yes m (Remove k) u e = sym (ap (λ b. cond b Yes No) e)
says_yes m (Contains k) u e = absurd (false≢true u)
says_yes m (Get k) u e = absurd (false≢true u)

-- ---- progress

pub same_entry : (d e : Entry) → Some d ≡ Some e → d ≡ e
same_entry d e h = cc

module _ (p : Progress) (w0 : ℕ) where
  pub settled_stays : (o : Option Entry) → (takes_effect p w0 o).settled ≡ p.settled
  settled_stays None = refl
  settled_stays (Some e) = refl

  none_some : (o : Option Entry) (e : Entry) → o ≡ None → o ≡ Some e → ⊥
  none_some o e a b = let c : None ≡ Some e = sym a ∙ b in cc

  -- what waits after an exchange: its own update, or one that waited
  pub waits_cases : (o : Option Entry) (w : ℕ) (e : Entry) → fin.get p.waiting w0 ≡ None → fin.get (takes_effect p w0 o).waiting w ≡ Some e →
      ((w ≡ w0) × (o ≡ Some e)) ⊎ ((w ≢ w0) × (fin.get p.waiting w ≡ Some e))
  waits_cases None w e none h = inr ((λ x. none_some (fin.get p.waiting w) e (ap (fin.get p.waiting) x ∙ none) h), h)
  waits_cases (Some d) w e none h = elim (cases_eq w w0) [
    | inl x ↦ inl (x, ap Some (same_entry d e (sym (get_put p.waiting w0 d w ∙ ap (λ b. cond b (Some d) (fin.get p.waiting w)) (eq-eqb w w0 x)) ∙ h)))
    | inr n ↦ inr (n, sym (get_put p.waiting w0 d w ∙ ap (λ b. cond b (Some d) (fin.get p.waiting w)) (ne_eqb w w0 n)) ∙ h)
  ]

  pub waits_on : (o : Option Entry) (w : ℕ) → w ≢ w0 → fin.get (takes_effect p w0 o).waiting w ≡ fin.get p.waiting w
  waits_on None w n = refl
  waits_on (Some d) w n = get_put p.waiting w0 d w ∙ ap (λ b. cond b (Some d) (fin.get p.waiting w)) (ne_eqb w w0 n)

  pub waits_now : (d : Entry) → fin.get (takes_effect p w0 (Some d)).waiting w0 ≡ Some d
  waits_now d = get_put p.waiting w0 d w0 ∙ ap (λ b. cond b (Some d) (fin.get p.waiting w0)) (eq-eqb w0 w0 refl)

  -- what waits after a write-back waited before, at another word than that which was written back
  pub left_waiting : (o : Option Entry) (w : ℕ) (e : Entry) → fin.get p.waiting w0 ≡ o → fin.get (settles p w0 o).waiting w ≡ Some e →
      (w ≢ w0) × (fin.get p.waiting w ≡ Some e)
  left_waiting None w e none h = ((λ x. none_some (fin.get p.waiting w) e (ap (fin.get p.waiting) x ∙ none) h), h)
  left_waiting (Some d) w e was h = elim (cases_eq w w0) [
    | inl x ↦ absurd (none_some (fin.get (fin.remove p.waiting w0) w) e (get_gone p.waiting w0 w ∙ ap (λ b. cond b None (fin.get p.waiting w)) (eq-eqb w w0 x))
        h)
    | inr n ↦ (n, sym (get_gone p.waiting w0 w ∙ ap (λ b. cond b None (fin.get p.waiting w)) (ne_eqb w w0 n)) ∙ h)
  ]

  pub still_waiting : (o : Option Entry) (w : ℕ) → w ≢ w0 → fin.get (settles p w0 o).waiting w ≡ fin.get p.waiting w
  still_waiting None w n = refl
  still_waiting (Some d) w n = get_gone p.waiting w0 w ∙ ap (λ b. cond b None (fin.get p.waiting w)) (ne_eqb w w0 n)
