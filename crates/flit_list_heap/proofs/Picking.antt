-- A function of link words changed at one of them.
use Rattle.std.proofs.Common.{◌≡◌, ◌≢◌, refl, inl, inr, ◌⊎◌}
use Rattle.flit_list_heap.specs.Links.{LinkWord, Changed}
use Rattle.flit_list_heap.proofs.Base.{cases_word}

abbrev pub pick_word : {A : Type 0} (x y : LinkWord) → A → A → (x ≡ y) ⊎ (x ≢ y) → A
pick_word x y here there (inl e) = here
pick_word x y here there (inr o) = there

abbrev pub put_at : {A : Type 0} (f : LinkWord → A) (y : LinkWord) (u : A) → LinkWord → A
put_at f y u x = pick_word x y u (f x) (cases_word x y)

pub pick_here : {A : Type 0} (x y : LinkWord) (here there : A) (g : (x ≡ y) ⊎ (x ≢ y)) → x ≡ y → pick_word x y here there g ≡ here
pick_here x y here there (inl e) s = refl
pick_here x y here there (inr o) s = absurd (o s)

pub pick_there : {A : Type 0} (x y : LinkWord) (here there : A) (g : (x ≡ y) ⊎ (x ≢ y)) → x ≢ y → pick_word x y here there g ≡ there
pick_there x y here there (inl e) s = absurd (s e)
pick_there x y here there (inr o) s = refl

pub put_changed : {A : Type 0} (f : LinkWord → A) (y : LinkWord) (u : A) → Changed f (put_at f y u) y u
put_changed f y u = record { here = pick_here y y u (f y) (cases_word y y) refl; off = λ x o. pick_there x y u (f x) (cases_word x y) o }
