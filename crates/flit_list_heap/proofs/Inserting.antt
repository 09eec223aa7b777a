-- An insert that was made stays made: while updates come to wait, and once they are settled.
use Rattle.std.proofs.Common.{◌≡◌, ℕ, List, [], ◌∷◌, ◌++◌, Option, Some, None, Contains, refl, ap, inl, inr, subst, sym}
use Rattle.std.specs.FinMap as fin
use Rattle.std.proofs.lemmas.List.Elements.{Contains-append_left, Contains-append_right, Contains-append_cases}
use Rattle.flit_model.specs.Maps.{key_of}
use Rattle.flit_model.specs.Settling.{Progress, settles, takes_effect}
use Rattle.flit_model.specs.declared.calls.Call.TheVariants.{Insert}
use Rattle.flit_model.specs.declared.calls.Entry.{Entry}
use Rattle.flit_model.proofs.Membership.{contains_first, contains_later, contains_cases}
use Rattle.flit_structure.specs.Moments.{made}
use Rattle.flit_structure.specs.Lawful.{is_insert}
use Rattle.flit_crew.proofs.Updating.{waits_between, gone_between}
use Rattle.flit_list_heap.specs.Keeping.{HasInsert}

-- one more stands between
among_more : (front back : List Entry) (e x : Entry) → Contains (front ++ back) x → Contains (front ++ e ∷ back) x
among_more front back e x c = elim (Contains-append_cases front back x c) [
  | inl a ↦ Contains-append_left front (e ∷ back) x a
  | inr b ↦ Contains-append_right front (e ∷ back) x (contains_later e back x b)
]

-- one of the later ones comes to stand behind the first ones
among_moved : (first front back : List Entry) (e x : Entry) → Contains (first ++ (front ++ e ∷ back)) x → Contains ((first ++ e ∷ []) ++ (front ++ back)) x
among_moved first front back e x c = elim (Contains-append_cases first (front ++ e ∷ back) x c) [
  | inl a ↦ Contains-append_left (first ++ e ∷ []) (front ++ back) x (Contains-append_left first (e ∷ []) x a)
  | inr b ↦ elim (Contains-append_cases front (e ∷ back) x b) [
    | inl f ↦ Contains-append_right (first ++ e ∷ []) (front ++ back) x (Contains-append_left front back x f)
    | inr g ↦ elim (contains_cases e back x g) [
      | inl same ↦ Contains-append_left (first ++ e ∷ []) (front ++ back) x
          (Contains-append_right first (e ∷ []) x (subst (Contains (e ∷ [])) same (contains_first e [])))
      | inr later ↦ Contains-append_right (first ++ e ∷ []) (front ++ back) x (Contains-append_right front back x later)
    ]
  ]
]

among_settled : (q : Progress) (w : ℕ) (o : Option Entry) (x : Entry) → fin.get q.waiting w ≡ o → Contains (made q) x → Contains (made (settles q w o)) x
among_settled q w None x is c = c
among_settled q w (Some e) x is c =
    let r = gone_between q.waiting w e is in
    subst (λ xs. Contains ((q.settled ++ e ∷ []) ++ xs) x) (sym r.was)
    (among_moved q.settled r.front r.back e x (subst (λ xs. Contains (q.settled ++ xs) x) r.is c))

among_won : (q : Progress) (w : ℕ) (o : Option Entry) (x : Entry) → fin.get q.waiting w ≡ None → Contains (made q) x → Contains (made (takes_effect q w o)) x
among_won q w None x none c = c
among_won q w (Some e) x none c =
    let r = waits_between q.waiting w e none in
    elim (Contains-append_cases q.settled (fin.values q.waiting) x c) [
      | inl a ↦ Contains-append_left q.settled (fin.values (fin.insert q.waiting w e)) x a
      | inr b ↦ Contains-append_right q.settled (fin.values (fin.insert q.waiting w e)) x
          (subst (λ xs. Contains xs x) (sym r.is) (among_more r.front r.back e x (subst (λ xs. Contains xs x) r.was b)))
    ]

among_new : (q : Progress) (w : ℕ) (e : Entry) → fin.get q.waiting w ≡ None → Contains (made (takes_effect q w (Some e))) e
among_new q w e none =
    let r = waits_between q.waiting w e none in
    Contains-append_right q.settled (fin.values (fin.insert q.waiting w e)) e
    (subst (λ xs. Contains xs e) (sym r.is) (Contains-append_right r.front (e ∷ r.back) e (contains_first e r.back)))

pub insert_settled : (q : Progress) (w key : ℕ) → HasInsert q key → HasInsert (settles q w (fin.get q.waiting w)) key
insert_settled q w key i = record {
  update = i.update;
  among = among_settled q w (fin.get q.waiting w) i.update refl i.among;
  insert = i.insert;
  of_key = i.of_key;
}

pub insert_stays : (q : Progress) (w key : ℕ) (o : Option Entry) → fin.get q.waiting w ≡ None → HasInsert q key → HasInsert (takes_effect q w o) key
insert_stays q w key o none i = record { update = i.update; among = among_won q w o i.update none i.among; insert = i.insert; of_key = i.of_key }

-- and so is one that comes to wait
pub insert_waits : (q : Progress) (w key value : ℕ) (e : Entry) → fin.get q.waiting w ≡ None → e.call ≡ Insert key value → HasInsert (takes_effect q w (Some e)) key
insert_waits q w key value e none is = record {
  update = e;
  among = among_new q w e none;
  insert = ap is_insert is;
  of_key = ap key_of is;
}
