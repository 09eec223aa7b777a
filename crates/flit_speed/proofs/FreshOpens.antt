-- The sample may be opened on fresh words, over its one row.
use Rattle.std.proofs.Common.{◌≡◌, ℕ, ◌+◌, false, List, [], ◌∷◌, slice_index, refl, sym, subst, arith}
use Rattle.std.proofs.lemmas.Bool.{false≢true}
use Rattle.std.specs.FinMap as fin
use Rattle.flit_words.specs.declared.layouts.Layout.{Layout}
use Rattle.flit_words.specs.Layouts.{Accepted}
use Rattle.flit_model.specs.Lists.{link_in}
use Rattle.flit_model.specs.States.{State, fresh_words, fresh_state}
use Rattle.flit_model.specs.declared.found.Recovered.{Recovered}
use Rattle.flit_model.proofs.FreshImages.{fresh_recovers}
use Rattle.flit_hashed.specs.Slots.{slot_in_table, in_table}
use Rattle.flit_structure.specs.Moments.{Opening}
use Rattle.flit_structure.specs.Lawful.{IsOpening}
use Rattle.flit_one_key.specs.Steps.{key_word, links_none}
use Rattle.flit_one_key.specs.OneKey.{Opens}
use Rattle.flit_one_key_laws.specs.OneKey.{one_key}
use Rattle.flit_sched.specs.Openings.{opening_at}
use Rattle.flit_speed.specs.Benches.{MayOpen, one_row, hashed}

accepted : Accepted one_row
accepted = record {
  least_bucket = omega arith;
  most_bucket = omega arith;
  least_row = omega arith;
  most_row = omega arith;
  most_slot = omega arith;
  least_worker = omega arith;
  most_worker = omega arith;
  least_limit = omega arith;
  most_limit = omega arith;
}

abbrev fresh : Opening
fresh = record { words = fresh_words one_row; content = fin.empty; free = 1 ∷ [] }

fresh_opens : MayOpen (one_key one_row (hashed 8) (1 ∷ [])) (fresh_state one_row)
fresh_opens = (
  fresh,
  record {
    lawful = record { free = 1 ∷ []; recovers = fresh_recovers one_row accepted; rising = (omega arith, tt); among = λ row c. c };
    pool = refl;
    unmarked = λ linked. absurd (false≢true (sym linked));
    slots = λ word below. (slot_in_table 8 word, refl, in_table 8 word (omega arith));
  },
  refl,
)

pub sample_opens : (l : Layout) (slots : ℕ) (free : List ℕ) (m : State) → l ≡ one_row → slots ≡ 8 → free ≡ 1 ∷ [] → m ≡ fresh_state one_row →
    MayOpen (one_key l (hashed slots) free) m
sample_opens l slots free m layout place pool state =
    subst (λ x. MayOpen (one_key x (hashed slots) free) m) (sym layout)
    (subst (λ x. MayOpen (one_key one_row (hashed x) free) m) (sym place)
    (subst (λ x. MayOpen (one_key one_row (hashed 8) x) m) (sym pool)
    (subst (MayOpen (one_key one_row (hashed 8) (1 ∷ []))) (sym state) fresh_opens)))

pub start_opens : (l : Layout) (slots : ℕ) (free : List ℕ) (start : Recovered) → l ≡ one_row → slots ≡ 8 → free ≡ start.free.items →
    start.image.words.items ≡ fresh_words one_row → IsOpening one_row (opening_at start) → Opens l (hashed slots) free (opening_at start)
start_opens l slots free start layout place pool words lawful =
    subst (λ x. Opens x (hashed slots) free (opening_at start)) (sym layout)
    (subst (λ x. Opens one_row (hashed x) free (opening_at start)) (sym place)
    (record {
      lawful = lawful;
      pool = pool;
      unmarked = subst (λ ws. links_none (slice_index ws 0) ≡ false → (link_in ws (key_word one_row + 1)).mark ≡ false) (sym words)
          (λ linked. absurd (false≢true (sym linked)));
      slots = λ word below. (slot_in_table 8 word, refl, in_table 8 word (omega arith));
    }))
