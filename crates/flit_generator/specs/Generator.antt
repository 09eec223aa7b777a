-- The generator: from a seed, the text of a trace of so many calls on a hash table, by workers who take turns, each with
-- keys of its own.
use Rattle.std.specs.Prelude.{ℕ, zero, suc, ◌+◌, ◌-◌, ◌*◌, ◌/◌, ◌%◌, ◌≤◌, ◌==◌, if◌then◌else◌, List, [], ◌∷◌, ◌++◌, map, codes}
use Rattle.std.specs.Fmt.{decimal}
use Rattle.flit_words.specs.declared.limits.TheConstants.{MOST_WORKERS}
use Rattle.flit_model.specs.declared.calls.Call.{Call}
use Rattle.flit_model.specs.declared.calls.Call.TheVariants.{Insert, Remove, Contains, Get}

-- the state behind a state, and what is drawn there
abbrev pub next_state : ℕ → ℕ
next_state x = (x * 1103515245 + 12345) % 2147483648

abbrev pub drawn : ℕ → ℕ
drawn x = x / 65536

-- the worker of call i: they take turns, worker 1 first
abbrev pub worker_of : ℕ → ℕ → ℕ
worker_of workers i = i % workers + 1

-- a worker's key, by what is drawn: of the keys that lead to the same rest, each worker has its own
abbrev pub key_of : ℕ → ℕ → ℕ → ℕ → ℕ
key_of keys workers worker d = d % keys * workers + (worker - 1)

-- the call on a key, by what is drawn: two inserts in four, one remove and one contains
abbrev pub call_of : ℕ → ℕ → Call
call_of d key = if d % 4 == 2 then Remove key else if d % 4 == 3 then Contains key else Insert key 0

-- call i where the state is x: the next state gives its name, the one behind it the key
abbrev pub call_at : ℕ → ℕ → ℕ → ℕ → Call
call_at keys workers i x =
    call_of (drawn (next_state x)) (key_of keys workers (worker_of workers i) (drawn (next_state (next_state x))))

-- so many calls from call i on, each with its worker
abbrev pub calls_from : ℕ → ℕ → ℕ → ℕ → ℕ → List (ℕ × Call)
calls_from keys workers i x zero = []
calls_from keys workers i x (suc n) =
    (worker_of workers i, call_at keys workers i x) ∷ calls_from keys workers (i + 1) (next_state (next_state x)) n

-- the key of a call
abbrev pub key_in : Call → ℕ
key_in (Insert key value) = key
key_in (Remove key) = key
key_in (Contains key) = key
key_in (Get key) = key

-- the calls of a trace
abbrev pub generated_calls : ℕ → ℕ → ℕ → ℕ → List (ℕ × Call)
generated_calls seed calls keys workers = calls_from keys workers 0 seed calls

-- a line of a worker: its number, the name of its call, and the key
abbrev pub worker_line : ℕ → List ℕ → ℕ → List ℕ
worker_line worker name key = decimal worker ++ 32 ∷ (name ++ 32 ∷ decimal key)

-- the line of a worker's call
abbrev pub call_line : ℕ → Call → List ℕ
call_line worker (Insert key value) = worker_line worker (codes "insert") key
call_line worker (Remove key) = worker_line worker (codes "remove") key
call_line worker (Contains key) = worker_line worker (codes "contains") key
call_line worker (Get key) = worker_line worker (codes "get") key

-- two rows for each call and each worker, so that no insert finds none left
abbrev pub rows_of : ℕ → ℕ → ℕ
rows_of calls workers = 2 * (calls + workers)

-- the lines before those of the calls
abbrev pub head_lines : ℕ → ℕ → List (List ℕ)
head_lines calls workers =
    codes "flit 1" ∷ codes "structure hash 256" ∷ codes "place adjacent"
    ∷ (codes "rows " ++ decimal (rows_of calls workers)) ∷ (codes "workers " ++ decimal workers) ∷ []

-- the lines of calls
abbrev pub call_lines : List (ℕ × Call) → List (List ℕ)
call_lines calls = map (λ c. call_line c.0 c.1) calls

-- the lines of the trace
abbrev pub generated_lines : ℕ → ℕ → ℕ → ℕ → List (List ℕ)
generated_lines seed calls keys workers =
    head_lines calls workers ++ call_lines (generated_calls seed calls keys workers) ++ codes "end" ∷ []

-- lines, each with its end behind it
abbrev pub text_of : List (List ℕ) → List ℕ
text_of [] = []
text_of (line ∷ lines) = line ++ 10 ∷ text_of lines

-- the text of the trace
unfoldable pub generated_text : ℕ → ℕ → ℕ → ℕ → List ℕ
generated_text seed calls keys workers = text_of (generated_lines seed calls keys workers)

-- the numbers that the generator takes
pub record AreTaken (seed calls keys workers : ℕ) : Type 0 where
  pub most_seed : seed ≤ 2147483647
  pub least_calls : 1 ≤ calls
  pub most_calls : calls ≤ 500000
  pub least_keys : 1 ≤ keys
  pub most_keys : keys ≤ 32768
  pub least_workers : 1 ≤ workers
  pub most_workers : workers ≤ MOST_WORKERS
