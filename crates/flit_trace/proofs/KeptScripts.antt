-- The scripts of the index, as a line is put behind those of its worker.
use Rattle.std.proofs.Common.{◌≡◌, ◌≢◌, ℕ, ◌-◌, ◌<◌, ◌≤◌, ◌==◌, Bool, true, false, List, [], ◌∷◌, ◌++◌, map, filter, length, append-nil, get_or, set, get_or-set_same, get_or-set_other, sym, ap, ◌∙◌, refl, arith, inl, inr, subst}
use Rattle.std.proofs.lemmas.List.{map-append}
use Rattle.std.proofs.lemmas.Bool.Decides.{eqb_tells}
use Rattle.std.proofs.lemmas.List.Elements.{filter-append}
use Rattle.flit_model.specs.declared.calls.Item.{Item}
use Rattle.flit_trace.specs.declared.entries.Entry.{Entry}
use Rattle.flit_trace.specs.Contents.{ItemLine, script_of}
use Rattle.flit_trace.specs.Entries.{item_of, numbered}
use Rattle.flit_trace.specs.Index.{script_in}

-- the line that an entry keeps of a worker
abbrev pub line_of : ℕ → Entry → ItemLine
line_of worker e = record { line = e.line; worker = worker; item = item_of e }

pub script_of-append : (items more : List ItemLine) (worker : ℕ) → script_of (items ++ more) worker ≡ script_of items worker ++ script_of more worker
script_of-append items more worker =
    ap (map (λ (i : ItemLine). (i.line, i.item))) (filter-append (λ (i : ItemLine). i.worker == worker) items more)
    ∙ map-append (λ (i : ItemLine). (i.line, i.item)) (filter (λ i. i.worker == worker) items) (filter (λ i. i.worker == worker) more)

one_line-same : (e : Entry) (worker : ℕ) (b : Bool) → (worker == worker) ≡ b → b ≡ true → script_of (line_of worker e ∷ []) worker ≡ numbered e ∷ []
one_line-same e worker b is holds = rw (is ∙ holds) refl

one_line-other : (e : Entry) (worker other : ℕ) → (worker == other) ≡ false → script_of (line_of worker e ∷ []) other ≡ []
one_line-other e worker other apart = rw apart refl

-- the worker's own script gets the line
pub pushed-same : (scripts : List (List Entry)) (items : List ItemLine) (worker : ℕ) (e : Entry) (script : List Entry) → 1 ≤ worker → worker ≤ length scripts →
    script ≡ get_or scripts (worker - 1) [] ++ e ∷ [] → script_in scripts worker ≡ script_of items worker →
    script_in (set scripts (worker - 1) script) worker ≡ script_of (items ++ line_of worker e ∷ []) worker
pushed-same scripts items worker e script least most more before =
    let within : worker - 1 < length scripts = omega arith in
    let told = eqb_tells worker worker in
    ap (map numbered) (get_or-set_same scripts (worker - 1) script [] within ∙ more)
    ∙ map-append numbered (get_or scripts (worker - 1) []) (e ∷ [])
    ∙ ap (λ (xs : List (ℕ × Item)). xs ++ numbered e ∷ []) before
    ∙ sym (script_of-append items (line_of worker e ∷ []) worker ∙ ap (λ (xs : List (ℕ
    × Item)). script_of items worker ++ xs) (one_line-same e worker (worker == worker) refl
    (elim told [ inl same ↦ same.0 | inr apart ↦ absurd (apart.1 refl) ])))

-- the others' scripts stay
pub pushed-other : (scripts : List (List Entry)) (items : List ItemLine) (worker other : ℕ) (e : Entry) (script : List Entry) → 1 ≤ worker → 1 ≤ other →
    (worker == other) ≡ false → worker ≢ other → script_in scripts other ≡ script_of items other →
    script_in (set scripts (worker - 1) script) other ≡ script_of (items ++ line_of worker e ∷ []) other
pushed-other scripts items worker other e script least above test apart before =
    let away : other - 1 ≢ worker - 1 = omega arith in
    ap (map numbered) (get_or-set_other scripts (worker - 1) (other - 1) script [] away)
    ∙ before
    ∙ sym (script_of-append items (line_of worker e ∷ []) other ∙ rw (one_line-other e worker other test) (append-nil (script_of items other)))

pub pushed : (scripts : List (List Entry)) (items : List ItemLine) (worker : ℕ) (e : Entry) (script : List Entry) → 1 ≤ worker → worker ≤ length scripts →
    script ≡ get_or scripts (worker - 1) [] ++ e ∷ [] → ((other : ℕ) → 1 ≤ other → other ≤ 64 → script_in scripts other ≡ script_of items other) → (other : ℕ) →
    1 ≤ other → other ≤ 64 → script_in (set scripts (worker - 1) script) other ≡ script_of (items ++ line_of worker e ∷ []) other
pushed scripts items worker e script least most more before other above below =
    elim (eqb_tells worker other) [
      | inl same ↦ subst (λ (w : ℕ). script_in (set scripts (worker - 1) script) w ≡ script_of (items ++ line_of worker e ∷ []) w) same.1
          (pushed-same scripts items worker e script least most more (before worker (omega arith) (omega arith)))
      | inr apart ↦ pushed-other scripts items worker other e script least above apart.0 apart.1 (before other above below)
    ]
