-- What waits and what is settled after a write-back of a word and after an exchange, and settled rows that stay settled.
use Rattle.std.proofs.Common.{◌≡◌, ◌≢◌, ℕ, ◌==◌, Bool, true, false, [], ◌∷◌, ◌++◌, Option, Some, None, refl, sym, ap, ◌∙◌, cond}
use Rattle.std.specs.FinMap as fin
use Rattle.std.specs.Option.{option_to_list}
use Rattle.std.proofs.lemmas.Bool.{eq-eqb, ne_eqb, or_left}
use Rattle.std.proofs.lemmas.List.{append-nil}
use Rattle.flit_model.specs.Maps.{Map, IsLegal, map_after_all}
use Rattle.flit_model.specs.Settling.{Progress, settles, takes_effect}
use Rattle.flit_model.specs.declared.calls.Entry.{Entry}
use Rattle.flit_model.proofs.Legal.{legal-append, map_after_all-append}
use Rattle.flit_structure.proofs.Growing.{get_put, get_gone}
use Rattle.flit_list_heap.specs.Chained.{map_with, IsAnswered, joined, settled_after, is_put}

pub settled_off : (p : Progress) (w v : ℕ) (o : Option Entry) → v ≢ w → fin.get (settles p w o).waiting v ≡ fin.get p.waiting v
settled_off p w v None ne = refl
settled_off p w v (Some x) ne = get_gone p.waiting w v ∙ ap (λ b. cond b None (fin.get p.waiting v)) (ne_eqb v w ne)

pub settled_here : (p : Progress) (w v : ℕ) (o : Option Entry) → fin.get p.waiting w ≡ o → v ≡ w → fin.get (settles p w o).waiting v ≡ None
settled_here p w v None q e = ap (fin.get p.waiting) e ∙ q
settled_here p w v (Some x) q e = get_gone p.waiting w v ∙ ap (λ b. cond b None (fin.get p.waiting v)) (eq-eqb v w e)

pub settled_list : (p : Progress) (w : ℕ) (o : Option Entry) → (settles p w o).settled ≡ p.settled ++ option_to_list o
settled_list p w None = sym (append-nil p.settled)
settled_list p w (Some x) = refl

pub settled_map : (m : Map) (p : Progress) (w : ℕ) (o : Option Entry) → map_after_all m (settles p w o).settled ≡ map_with (map_after_all m p.settled) o
settled_map m p w None = refl
settled_map m p w (Some x) = map_after_all-append m p.settled (x ∷ [])

pub settled_legal : (m : Map) (p : Progress) (w : ℕ) (o : Option Entry) → IsLegal m p.settled → IsAnswered (map_after_all m p.settled) o →
    IsLegal m (settles p w o).settled
settled_legal m p w None h a = h
settled_legal m p w (Some x) h a = legal-append m p.settled (x ∷ []) h (a, tt)

-- an exchange settles nothing
pub effect_off : (p : Progress) (w v : ℕ) (o : Option Entry) → v ≢ w → fin.get (takes_effect p w o).waiting v ≡ fin.get p.waiting v
effect_off p w v None ne = refl
effect_off p w v (Some x) ne = get_put p.waiting w x v ∙ ap (λ b. cond b (Some x) (fin.get p.waiting v)) (ne_eqb v w ne)

pub effect_here : (p : Progress) (w v : ℕ) (o : Option Entry) → fin.get p.waiting w ≡ None → v ≡ w → fin.get (takes_effect p w o).waiting v ≡ o
effect_here p w v None q e = ap (fin.get p.waiting) e ∙ q
effect_here p w v (Some x) q e = get_put p.waiting w x v ∙ ap (λ b. cond b (Some x) (fin.get p.waiting v)) (eq-eqb v w e)

pub effect_list : (p : Progress) (w : ℕ) (o : Option Entry) → (takes_effect p w o).settled ≡ p.settled
effect_list p w None = refl
effect_list p w (Some x) = refl

-- settled rows stay settled
grown : (b : Bool) (settled : ℕ → Bool) (r q : ℕ) → settled q ≡ true → joined b settled r q ≡ true
grown true settled r q s = or_left (settled q) (q == r) s
grown false settled r q s = s

pub grown_after : (settled : ℕ → Bool) (e : Option Entry) (r q : ℕ) → settled q ≡ true → settled_after settled e r q ≡ true
grown_after settled e r q s = grown (is_put e) settled r q s
