-- What a pass knows, which is its view: the names that it owns, what each of its workers is at, as much of the log as it
-- has seen, the items that it has made, the places of its reads, and the names of its events.
use Rattle.std.specs.Prelude.{◌≡◌, ◌⊎◌, ℕ, zero, suc, ◌+◌, ◌-◌, ◌==◌, List, [], ◌∷◌, ◌++◌, map, filter, count_by, zip, Some, None}
use Rattle.std.specs.FinMap as map_of_pairs
use Rattle.flit_model.specs.Maps.{Map}
use Rattle.flit_model.specs.Histories.{is_update, is_read, history_of}
use Rattle.flit_model.specs.declared.calls.Entry.{Entry}
use Rattle.flit_pv.specs.Hands.{no_tally}
use Rattle.flit_model.specs.declared.found.Recovered.{Recovered}
use Rattle.flit_structure.specs.declared.workers.Worker.{Worker}
use Rattle.flit_structure.specs.Moments.{Opening, hired}
use Rattle.flit_table.specs.declared.views.Made.{Made}
use Rattle.flit_table.specs.declared.views.Made.TheVariants.{Answered, Evicted}
use Rattle.flit_table.specs.declared.views.Origin.{Origin}
use Rattle.flit_table.specs.declared.views.Post.{Post}
use Rattle.flit_table.specs.declared.views.View.{View}
use Rattle.flit_table.specs.Logs.{settled_in, longer_log, shorter_log}

-- what recovery found, as an opening
abbrev pub opening_at : Recovered → Opening
opening_at r = record { words = r.image.words.items; content = map_of_pairs.from_entries (zip r.keys.items r.values.items); free = r.free.items }

abbrev pub opening_of : {S : Type 0} → Origin S → Opening
opening_of o = opening_at o.start.value

-- the map at the start
abbrev pub content_of : {S : Type 0} → Origin S → Map
content_of o = (opening_of o).content

-- the name of an item; the calls among some items, with their replies; the updates and the completed reads among these;
-- and the items of one name
abbrev pub name_of : Made → ℕ
name_of (Answered e) = e.worker
name_of (Evicted name word) = name

abbrev pub answered : List Made → List Entry
answered [] = []
answered (Answered e ∷ xs) = e ∷ answered xs
answered (Evicted name word ∷ xs) = answered xs

abbrev pub updates_in : List Made → List Entry
updates_in items = filter is_update (answered items)

abbrev pub reads_in : List Made → List Entry
reads_in items = filter is_read (answered items)

abbrev pub made_by : ℕ → List Made → List Made
made_by name items = filter (λ x. name_of x == name) items

-- the entries of one name
abbrev pub entries_of : ℕ → List Entry → List Entry
entries_of name es = filter (λ e. e.worker == name) es

module _ {Op : Type 0} where
  -- a worker that has made nothing; and so many of them, with names that follow each other
  abbrev pub new_post : ℕ → Post Op
  new_post name = record { worker = hired name; start = no_tally; tried = 0 }

  abbrev pub new_posts : ℕ → ℕ → List (Post Op)
  new_posts name zero = []
  new_posts name (suc n) = new_post name ∷ new_posts (suc name) n

  abbrev pub workers_of : List (Post Op) → List (Worker Op)
  workers_of ps = map (λ p. p.worker) ps

  -- one of the posts has the name
  abbrev pub HasName : ℕ → List (Post Op) → Type 0
  HasName name [] = ⊥
  HasName name (p ∷ ps) = (p.worker.name ≡ name) ⊎ HasName name ps

  -- the posts of so many names from one on, and of those that have ended; with no name there are none of the first
  abbrev pub posts_with : ℕ → ℕ → Post Op → List (Post Op) → List (Post Op)
  posts_with zero name post gone = gone
  posts_with (suc n) name post gone = post ∷ (new_posts (suc name) n ++ gone)

module _ {S Op : Type 0} where
  -- the posts of a view, and those of them that may have made something
  abbrev pub posts_of : View S Op → List (Post Op)
  posts_of v = posts_with v.names v.name v.post v.gone

  abbrev pub used_of : View S Op → List (Post Op)
  used_of v = v.post ∷ v.gone

  -- the names that a pass has: those that it owns, and those that have ended in it
  abbrev pub names_of : View S Op → List ℕ
  names_of v = map (λ p. p.worker.name) (posts_of v)

  -- the workers of all views
  abbrev pub all_workers : List (View S Op) → List (Worker Op)
  all_workers [] = []
  all_workers (v ∷ vs) = workers_of (posts_of v) ++ all_workers vs

  -- what a pass has seen: the updates, and the history of them and of the reads that it has placed
  abbrev pub updates_seen : View S Op → List Entry
  updates_seen v = settled_in v.log

  abbrev pub history_seen : View S Op → List Entry
  history_seen v = history_of (updates_seen v) v.placed

  -- the number of events made under a name
  abbrev pub events_of : ℕ → View S Op → ℕ
  events_of name v = count_by (λ n. n == name) v.events

  -- the view of the pass that has all names and has seen nothing
  abbrev pub newcomer : Origin S → ℕ → View S Op
  newcomer o workers = record {
    origin = Some o;
    name = 1;
    names = workers;
    post = new_post 1;
    gone = [];
    log = [];
    note = [];
    mine = [];
    placed = [];
    events = [];
  }

  -- a pass gives away its last names: the view that keeps the others, and the view that has these
  abbrev pub keeper : ℕ → View S Op → View S Op
  keeper give v = record v { names = v.names - give }

  abbrev pub heir : ℕ → View S Op → View S Op
  heir give v = record {
    origin = v.origin;
    name = v.name + (v.names - give);
    names = give;
    post = new_post (v.name + (v.names - give));
    gone = [];
    log = v.log;
    note = [];
    mine = [];
    placed = [];
    events = [];
  }

  -- a pass takes another in, whose view is spent then
  abbrev pub both : View S Op → View S Op → View S Op
  both v w = record {
    origin = v.origin;
    name = v.name;
    names = v.names;
    post = v.post;
    gone = v.gone ++ posts_of w;
    log = longer_log v.log w.log;
    note = shorter_log v.log w.log;
    mine = v.mine ++ w.mine;
    placed = v.placed ++ w.placed;
    events = v.events ++ w.events;
  }

  abbrev pub spent : View S Op
  spent = record {
    origin = None;
    name = 0;
    names = 0;
    post = new_post 0;
    gone = [];
    log = [];
    note = [];
    mine = [];
    placed = [];
    events = [];
  }
