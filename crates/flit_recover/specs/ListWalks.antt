-- The walk over the chains of a list or hash table, and the first damage on it. The heads are walked in rising order,
-- and on each chain the checks are made at each link word in the order that stands here.
use Rattle.std.specs.Prelude.{◌≡◌, ◌≢◌, ℕ, suc, ◌==◌, ◌<◌, ◌&&◌, ◌||◌, not, nat_lt, nat_le, Bool, List, [], ◌∷◌, flat_map, Option, Some, None, if◌then◌else◌}
use Rattle.std.specs.List.{range_with_len}
use Rattle.flit_words.specs.declared.links.Link.{Link}
use Rattle.flit_words.specs.declared.layouts.Layout.{Layout}
use Rattle.flit_words.specs.Layouts.{last_row_of, head_of_key}
use Rattle.flit_words.specs.declared.limits.TheConstants.{MOST_WORKERS, GREATEST_KEY}
use Rattle.flit_model.specs.Lists.{link_in, key_in, next_word}
pub use Rattle.flit_model.specs.Lists.{stands_in}
use Rattle.flit_recover.specs.declared.found.Damage.{Damage}
use Rattle.flit_recover.specs.declared.found.Damage.TheVariants.{RowOutOfRange, KeyOrder, KeyPlace, Shared}

-- a link in a list that may name its remover as it does
abbrev pub names_well : Layout → Link → Bool
names_well l k = (k.by == 0) || (nat_le k.by MOST_WORKERS && l.values && k.mark)

-- a link word of a list that leads astray; a head is never marked
abbrev pub leads_astray : Layout → List ℕ → ℕ → Bool
leads_astray l image word =
    not (names_well l (link_in image word))
    || nat_lt (last_row_of l) (link_in image word).row
    || (link_in image word).frozen
    || (nat_lt word l.buckets && (link_in image word).mark)

-- the key has no place on the chain of this head
abbrev pub is_misplaced : Layout → ℕ → ℕ → Bool
is_misplaced l head key = nat_lt GREATEST_KEY key || not (head_of_key l key == head)

-- what is wrong at a link word of a head's chain, where these rows were reached and the next key is to be at least low
abbrev pub damage_at : Layout → List ℕ → ℕ → List ℕ → ℕ → ℕ → Option Damage
damage_at l image head reached low word =
    if leads_astray l image word then Some (RowOutOfRange word)
    else (if (link_in image word).row == 0 then None
    else (if stands_in reached (link_in image word).row then Some (Shared (link_in image word).row)
    else (if is_misplaced l head (key_in l image (link_in image word).row) then Some (KeyPlace (link_in image word).row)
    else (if nat_lt (key_in l image (link_in image word).row) low then Some (KeyOrder (link_in image word).row)
    else None))))

-- nothing is wrong at a link word, and it leads to this row
pub record LeadsTo (l : Layout) (image : List ℕ) (head : ℕ) (reached : List ℕ) (low word row : ℕ) : Type 0 where
  pub sound : damage_at l image head reached low word ≡ None
  pub named : (link_in image word).row ≡ row
  pub some_row : row ≢ 0

-- from a link word on the walk goes over these rows, and then ends with nothing wrong
abbrev pub IsSoundFrom : Layout → List ℕ → ℕ → List ℕ → ℕ → ℕ → List ℕ → Type 0
IsSoundFrom l image head reached low word [] = (damage_at l image head reached low word ≡ None) × ((link_in image word).row ≡ 0)
IsSoundFrom l image head reached low word (r ∷ rs) =
    LeadsTo l image head reached low word r
    × IsSoundFrom l image head (r ∷ reached) (suc (key_in l image r)) (next_word l r) rs

-- or it goes over these rows, and then finds this damage
abbrev pub IsDamagedFrom : Layout → List ℕ → ℕ → List ℕ → ℕ → ℕ → List ℕ → Damage → Type 0
IsDamagedFrom l image head reached low word [] d = damage_at l image head reached low word ≡ Some d
IsDamagedFrom l image head reached low word (r ∷ rs) d =
    LeadsTo l image head reached low word r
    × IsDamagedFrom l image head (r ∷ reached) (suc (key_in l image r)) (next_word l r) rs d

-- the rows of the chains of the heads before this one
abbrev pub reached_before : (ℕ → List ℕ) → ℕ → List ℕ
reached_before chain head = flat_map chain (range_with_len 0 head)

-- the first damage on the chains: the heads before this one have sound chains
pub record IsChainDamage (l : Layout) (image : List ℕ) (d : Damage) : Type 0 where
  pub head : ℕ
  pub within : head < l.buckets
  pub chain : ℕ → List ℕ
  pub before : (h : ℕ) → h < head → IsSoundFrom l image h (reached_before chain h) 0 h (chain h)
  pub rows : List ℕ
  pub here : IsDamagedFrom l image head (reached_before chain head) 0 head rows d
