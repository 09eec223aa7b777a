-- How the accounts of a moment go on: the rows of the pool, and the history of the updates.
use Rattle.std.proofs.Common.{◌≡◌, ◌≢◌, inl, inr, ℕ, ◌+◌, ◌*◌, ◌≤◌, Bool, true, cond, List, [], ◌∷◌, ◌++◌, length, count_by, Option, Some, None, refl, sym, ◌∙◌, ap, subst, arith, append_assoc}
use Rattle.std.specs.List.{AllByRecursion}
use Rattle.std.specs.FinMap as fin
use Rattle.flit_words.specs.declared.layouts.Layout.{Layout}
use Rattle.flit_model.specs.Lists.{IsRisingFrom}
use Rattle.flit_model.specs.Settling.{Progress, settles, takes_effect}
use Rattle.flit_model.specs.Histories.{is_update}
use Rattle.flit_model.specs.declared.calls.Entry.{Entry}
use Rattle.flit_model.proofs.Counting.{count_by-cons, count_by-append}
use Rattle.flit_model.proofs.Elements.{all_weaker}
use Rattle.flit_rows.specs.Taking.{is_past}
use Rattle.flit_structure.specs.declared.workers.Worker.{Worker}
use Rattle.flit_structure.specs.Moments.{made, numbers_of, IsNew, HaveDifferentNames}
use Rattle.flit_structure.specs.Lawful.{is_insert, rows_needed}
use Rattle.flit_structure.proofs.Names.{all_put, all_at, others_new}
use Rattle.flit_crew.specs.Heaps.{Heap, waits_at, IsOpen, IsAhead}
use Rattle.flit_crew.specs.Anatomies.{Anatomy, own_in, hand_at}
use Rattle.flit_crew.specs.Rows.{IsDealt}
use Rattle.flit_crew.specs.Accounts.{IsAny, HasNumber, IsMaker, History, Rows, IsSteady, IsTight, inserts_in}
use Rattle.flit_crew.proofs.Rowing.{followed}
use Rattle.flit_crew.proofs.Updating.{any_put, any_none, waits_between, gone_between}

-- ---- a count over workers, one of which goes on

module _ {X : Type 0} (P : X → Bool) where
  pub count_split : (a b : List X) (u : X) → count_by P (a ++ u ∷ b) ≡ cond (P u) 1 0 + (count_by P a + count_by P b)
  count_split a b u = turned (count_by P a) (cond (P u) 1 0) (count_by P b) (count_by P (a ++ u ∷ b)) (count_by P (u ∷ b)) (count_by-append P a (u ∷ b))
      (count_by-cons P u b)
    where
      turned : (a c b s t : ℕ) → s ≡ a + t → t ≡ c + b → s ≡ c + (a + b)
      turned a c b s t e d = omega (arith, e, d)

  pub count_put : (a b : List X) (u w : X) → P w ≡ P u → count_by P (a ++ w ∷ b) ≡ count_by P (a ++ u ∷ b)
  count_put a b u w same = count_split a b w ∙ ap (λ t. cond t 1 0 + (count_by P a + count_by P b)) same ∙ sym (count_split a b u)

-- ---- how many inserts there are

inserts_split : (settled front back waited : List Entry) (e : Entry) → waited ≡ front ++ e ∷ back →
    inserts_in (settled ++ waited) ≡ cond (is_insert e.call) 1 0 + inserts_in (settled ++ (front ++ back))
inserts_split settled front back waited e is =
    sums (inserts_in settled) (inserts_in front) (inserts_in back) (cond (is_insert e.call) 1 0) (inserts_in (settled ++ waited)) (inserts_in waited)
    (inserts_in (settled ++ (front ++ back))) (inserts_in (front ++ back))
    (count_by-append (λ x. is_insert x.call) settled waited) (ap inserts_in is ∙ count_split (λ x. is_insert x.call) front back e)
    (count_by-append (λ x. is_insert x.call) settled (front ++ back)) (count_by-append (λ x. is_insert x.call) front back)
  where
    sums : (s f b c t w u v : ℕ) → t ≡ s + w → w ≡ c + (f + b) → u ≡ s + v → v ≡ f + b → t ≡ c + u
    sums s f b c t w u v e d i j = omega (arith, e, d, i, j)

-- an entry that is settled counts as before
pub inserts_settled : (q : Progress) (w : ℕ) → inserts_in (made (settles q w (fin.get q.waiting w))) ≡ inserts_in (made q)
inserts_settled q w = by_case (fin.get q.waiting w) refl
  where
    by_case : (o : Option Entry) → fin.get q.waiting w ≡ o → inserts_in (made (settles q w o)) ≡ inserts_in (made q)
    by_case None is = refl
    by_case (Some e) is =
        let r = gone_between q.waiting w e is in
        let left : inserts_in ((q.settled ++ e ∷ []) ++ fin.values (fin.remove q.waiting w)) ≡ inserts_in (q.settled ++ (e ∷ (r.front ++ r.back))) =
        ap inserts_in (append_assoc q.settled (e ∷ []) (fin.values (fin.remove q.waiting w)) ∙ ap (λ xs. q.settled ++ e ∷ xs) r.was) in
        left ∙ inserts_split q.settled [] (r.front ++ r.back) (e ∷ (r.front ++ r.back)) e refl
        ∙ sym (inserts_split q.settled r.front r.back (fin.values q.waiting) e r.is)

-- one more entry waits
pub inserts_won : (q : Progress) (w : ℕ) (e : Entry) → fin.get q.waiting w ≡ None →
    inserts_in (made (takes_effect q w (Some e))) ≡ cond (is_insert e.call) 1 0 + inserts_in (made q)
inserts_won q w e none =
    let r = waits_between q.waiting w e none in
    inserts_split q.settled r.front r.back (fin.values (fin.insert q.waiting w e)) e r.is
    ∙ ap (λ xs. cond (is_insert e.call) 1 0 + inserts_in (q.settled ++ xs)) (sym r.was)

module _ {Op : Type 0} (A : Anatomy Op) (l : Layout) (free : List ℕ) where
  abbrev past_ticket : Worker Op → Bool
  past_ticket u = is_past free (hand_at A u.doing).ticket

  -- ---- the rows

  pub rows_steady : {G : Type 0} (counter : ℕ) (h : Heap G) (a : List (Worker Op)) (u w : Worker Op) (b : List (Worker Op)) → IsSteady A l h u w →
      Rows A l free counter h (a ++ u ∷ b) → Rows A l free counter h (a ++ w ∷ b)
  rows_steady counter h a u w b s r = record {
    dealt = followed (λ x. own_in A x.doing) free counter h.given a u w b s.own r.dealt;
    linked = r.linked;
    within = subst (λ n. counter ≤ length free + n) (sym (count_put past_ticket a b u w (ap (λ t. is_past free t) s.ticket))) r.within;
    past = all_put (λ x. length free ≤ (hand_at A x.doing).ticket → length free ≤ counter) a b u w
        (λ le. all_at (λ x. length free ≤ (hand_at A x.doing).ticket → length free ≤ counter) a b u r.past (subst (λ t. length free ≤ t) s.ticket le)) r.past;
    tight = all_put (IsTight A l) a b u w (s.tight (all_at (IsTight A l) a b u r.tight)) r.tight;
  }

  -- what the rows say hangs on the linked rows and on how many inserts there are
  pub rows_same : {G : Type 0} (counter : ℕ) (h k : Heap G) (us : List (Worker Op)) → k.given ≡ h.given →
      inserts_in (made k.progress) ≡ inserts_in (made h.progress) → Rows A l free counter h us → Rows A l free counter k us
  rows_same counter h k us given inserts r = record {
    dealt = subst (λ rows. IsDealt (λ x. own_in A x.doing) free counter rows us) (sym given) r.dealt;
    linked = ap length given ∙ r.linked ∙ ap (λ n. rows_needed l.kind * n) (sym inserts);
    within = r.within;
    past = r.past;
    tight = r.tight;
  }

  -- ---- the history

  pub history_steady : {G : Type 0} (h : Heap G) (a : List (Worker Op)) (u w : Worker Op) (b : List (Worker Op)) → w.name ≡ u.name → u.number ≤ w.number →
      ((word : ℕ) (e : Entry) → waits_at h word ≡ Some e → IsMaker A word e u → IsMaker A word e w) →
      History A l free h (a ++ u ∷ b) → History A l free h (a ++ w ∷ b)
  history_steady h a u w b name number makes r = record {
    updates = r.updates;
    rises = r.rises;
    numbered = all_weaker (λ e. IsAny (HasNumber A e) (a ++ u ∷ b)) (λ e. IsAny (HasNumber A e) (a ++ w ∷ b))
        (λ e k. any_put (HasNumber A e) a b u w (λ q. (name ∙ q.0, through e.number u.number w.number q.1 number)) k) (made h.progress) r.numbered;
    waits = λ word e is. let x = r.waits word e is in (x.0, x.1, any_put (IsMaker A word e) a b u w (makes word e is) x.2);
  }
    where
      through : (a b c : ℕ) → a ≤ b → b ≤ c → a ≤ c
      through a b c i j = omega (arith, i, j)

  -- words change at which nothing waits
  pub history_words : {G : Type 0} (h k : Heap G) (us : List (Worker Op)) → k.progress ≡ h.progress → ((w : ℕ) → IsOpen l free h w → IsOpen l free k w) →
      ((w : ℕ) (e : Entry) → waits_at h w ≡ Some e → IsAhead k w) → History A l free h us → History A l free k us
  history_words h k us same opened ahead r = record {
    updates = subst (λ q. AllByRecursion (λ e. is_update e ≡ true) (made q)) (sym same) r.updates;
    rises = λ name. subst (λ q. IsRisingFrom 0 (numbers_of name (made q))) (sym same) (r.rises name);
    numbered = subst (λ q. AllByRecursion (λ e. IsAny (HasNumber A e) us) (made q)) (sym same) r.numbered;
    waits = λ w e is. let i = sym (ap (λ q. fin.get q.waiting w) same) ∙ is in let x = r.waits w e i in (opened w x.0, ahead w e i, x.2);
  }

  -- ---- one of a name

  -- no entry of a new name is there
  pub named_none : (name : ℕ) (us : List (Worker Op)) (es : List Entry) → IsNew name us → AllByRecursion (λ e. IsAny (HasNumber A e) us) es →
      AllByRecursion (λ e. e.worker ≢ name) es
  named_none name us es new all = all_weaker (λ e. IsAny (HasNumber A e) us) (λ e. e.worker ≢ name)
      (λ e k same. any_none (HasNumber A e) us (all_weaker (λ u. u.name ≢ name) (λ u. HasNumber A e u → ⊥) (λ u ne q. ne (q.0 ∙ same)) us new) k) es all

  -- the entries of a worker's name have no higher number
  pub own_number : (a : List (Worker Op)) (u : Worker Op) (b : List (Worker Op)) (e : Entry) → HaveDifferentNames (a ++ u ∷ b) →
      IsAny (HasNumber A e) (a ++ u ∷ b) → e.worker ≡ u.name → e.number ≤ u.number
  own_number a u b e different any same = by_place a any (others_new a b u different).0
    where
      clash : (x : List (Worker Op)) → IsNew u.name x → IsAny (HasNumber A e) x → ⊥
      clash x new k = any_none (HasNumber A e) x (all_weaker (λ v. v.name ≢ u.name) (λ v. HasNumber A e v → ⊥) (λ v ne q. ne (q.0 ∙ same)) x new) k

      by_place : (x : List (Worker Op)) → IsAny (HasNumber A e) (x ++ u ∷ b) → IsNew u.name x → e.number ≤ u.number
      by_place [] (inl q) new = q.1
      by_place [] (inr k) new = absurd (clash b (others_new a b u different).1 k)
      by_place (v ∷ x) (inl q) new = absurd (new.0 (q.0 ∙ same))
      by_place (v ∷ x) (inr k) new = by_place x k new.1
