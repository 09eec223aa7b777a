-- One call after the other is written.
use Rattle.std.proofs.Common.{◌≡◌, ℕ, suc, ◌+◌, ◌-◌, ◌<◌, ◌≤◌, List, [], ◌∷◌, ◌++◌, append_assoc, append-nil, refl, sym, ap, ◌∙◌, arith, codes, decimal}
use Rattle.flit_model.specs.declared.calls.Call.{Call}
use Rattle.flit_generator.specs.Generator.{next_state, drawn, key_of, call_of, worker_of, call_at, calls_from, call_line, call_lines, head_lines, rows_of, text_of, generated_calls, generated_text}

-- the lines of the calls from call i on
abbrev pub text_from : ℕ → ℕ → ℕ → ℕ → ℕ → List ℕ
text_from keys workers i x n = text_of (call_lines (calls_from keys workers i x n))

-- the calls before call i stand behind what was there before, and the others begin at state x
pub record HasWritten (keys workers seed calls : ℕ) (before : List ℕ) (i x : ℕ) (text : List ℕ) : Type 0 where
  pub small : x < 2147483648
  pub told : text ++ text_from keys workers i x (calls - i) ≡ before ++ text_from keys workers 0 seed calls

pub written_none : (keys workers seed calls : ℕ) (before : List ℕ) → seed ≤ 2147483647 → HasWritten keys workers seed calls before 0 seed before
written_none keys workers seed calls before h = record {
  small = omega arith;
  told = let all : calls - 0 ≡ calls = omega arith in ap (λ n. before ++ text_from keys workers 0 seed n) all;
}

pub written_more : (keys workers seed calls : ℕ) (before : List ℕ) (i x : ℕ) (text new : List ℕ) → i < calls →
    HasWritten keys workers seed calls before i x text → new ≡ text ++ (call_line (worker_of workers i) (call_at keys workers i x) ++ 10 ∷ []) →
    HasWritten keys workers seed calls before (i + 1) (next_state (next_state x)) new
written_more keys workers seed calls before i x text new h so_far e =
    let rest : suc (calls - (i + 1)) ≡ calls - i = omega arith in
    let line = call_line (worker_of workers i) (call_at keys workers i x) in
    let others = text_from keys workers (i + 1) (next_state (next_state x)) (calls - (i + 1)) in
    record {
      small = omega arith;
      told =
          ap (λ bytes. bytes ++ others) e
          ∙ append_assoc text (line ++ 10 ∷ []) others
          ∙ ap (λ bytes. text ++ bytes) (append_assoc line (10 ∷ []) others)
          ∙ ap (λ n. text ++ text_from keys workers i x n) rest
          ∙ so_far.told;
    }

pub written_all : (keys workers seed calls : ℕ) (before : List ℕ) (i x : ℕ) (text : List ℕ) → calls ≤ i → HasWritten keys workers seed calls before i x text →
    text ≡ before ++ text_from keys workers 0 seed calls
written_all keys workers seed calls before i x text h written =
    let none : 0 ≡ calls - i = omega arith in
    sym (append-nil text) ∙ ap (λ n. text ++ text_from keys workers i x n) none ∙ written.told

-- the states of a call, and what it draws at them
pub call_is : (keys workers i x named keyed name_draw key_draw key : ℕ) (call : Call) → named ≡ next_state x → keyed ≡ next_state named →
    key_draw ≡ drawn keyed → name_draw ≡ drawn named → key ≡ key_of keys workers (worker_of workers i) key_draw → call ≡ call_of name_draw key →
    call ≡ call_at keys workers i x
call_is keys workers i x named keyed name_draw key_draw key call n k d e h c =
    let its_key : key ≡ key_of keys workers (worker_of workers i) (drawn keyed) = h ∙ ap (key_of keys workers (worker_of workers i)) d in
    let second : keyed ≡ next_state (next_state x) = k ∙ ap next_state n in
    c ∙ (λ j. call_of (e j) (its_key j)) ∙ (λ j. call_of (drawn (n j)) (key_of keys workers (worker_of workers i) (drawn (second j))))

-- the lines before those of the calls
pub head_is : (old a b c : List ℕ) (calls workers : ℕ) → a ≡ old ++ codes "flit 1\nstructure hash 256\nplace adjacent\n" →
    b ≡ a ++ (codes "rows " ++ decimal (rows_of calls workers) ++ 10 ∷ []) → c ≡ b ++ (codes "workers " ++ decimal workers ++ 10 ∷ []) →
    c ≡ old ++ text_of (head_lines calls workers)
head_is old a b c calls workers e f g = rw (g, f, e) (simp append_assoc)

-- lines behind lines
pub text_of-append : (lines more : List (List ℕ)) → text_of (lines ++ more) ≡ text_of lines ++ text_of more
text_of-append [] more = refl
text_of-append (line ∷ lines) more =
    ap (λ bytes. line ++ 10 ∷ bytes) (text_of-append lines more) ∙ sym (append_assoc line (10 ∷ text_of lines) (text_of more))

-- the whole text
pub whole : (seed calls keys workers : ℕ) (old head body all : List ℕ) → old ≡ [] → head ≡ old ++ text_of (head_lines calls workers) →
    body ≡ head ++ text_of (call_lines (generated_calls seed calls keys workers)) → all ≡ body ++ codes "end\n" → all ≡ generated_text seed calls keys workers
unfolding generated_text
whole seed calls keys workers old head body all e f g h =
    let lines = head_lines calls workers in
    let more = call_lines (generated_calls seed calls keys workers) in
    let joined : body ≡ text_of (lines ++ more) =
    g ∙ ap (λ bytes. bytes ++ text_of more) (f ∙ ap (λ bytes. bytes ++ text_of lines) e) ∙ sym (text_of-append lines more) in
    h ∙ ap (λ bytes. bytes ++ codes "end\n") joined ∙ sym (text_of-append (lines ++ more) (codes "end" ∷ []))
