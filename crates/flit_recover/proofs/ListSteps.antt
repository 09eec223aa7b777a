-- One step of the walk over a chain: what holds where nothing is wrong at a link word, and the other way round.
use Rattle.std.proofs.Common.{◌≡◌, ◌≢◌, ℕ, ◌≤◌, ◌==◌, ◌&&◌, ◌||◌, not, nat_lt, nat_le, Bool, true, false, List, Option, Some, None, if◌then◌else◌, refl, arith, inl, inr, eqb-true, eq-eqb, ne_eqb}
use Rattle.std.proofs.lemmas.Bool.{eqb-false, ltb-false, leb-true, le-ltb, le-leb, or_parts, or_from, or_left, or_right, or_cases, and_parts, and_from, not-false, not_from_true}
use Rattle.flit_words.specs.declared.layouts.Layout.{Layout}
use Rattle.flit_words.specs.declared.layouts.Kind.TheVariants.{Tree as Tree_kind}
use Rattle.flit_words.specs.declared.links.Link.{Link}
use Rattle.flit_words.specs.Links.{HasRightRemover}
use Rattle.flit_words.specs.Layouts.{last_row_of, head_of_key}
use Rattle.flit_model.specs.Lists.{link_in, key_in, IsListLink}
use Rattle.flit_recover.specs.declared.found.Damage.{Damage}
use Rattle.flit_recover.specs.declared.found.Damage.TheVariants.{Shared}
use Rattle.flit_recover.specs.ListWalks.{names_well, leads_astray, stands_in, is_misplaced, damage_at}

-- ---- five checks in turn

-- what the checks say, one after the other
abbrev pub first_of : Bool → Bool → Bool → Bool → Bool → Damage → Damage → Damage → Damage → Option Damage
first_of astray ends shared misplaced low w x y z =
    if astray then Some w else (if ends then None else (if shared then Some x else (if misplaced then Some y else (if low then Some z else None))))

pub all_passed : (a e s m k : Bool) (w x y z : Damage) → first_of a e s m k w x y z ≡ None → (a ≡ false) × (e ≡ false → (s ≡ false) × (m ≡ false) × (k ≡ false))
all_passed true e s m k w x y z h = absurd (let f : Some w ≡ None = h in cc)
all_passed false true s m k w x y z h = (refl, λ t. absurd (cc))
all_passed false false true m k w x y z h = absurd (let f : Some x ≡ None = h in cc)
all_passed false false false true k w x y z h = absurd (let f : Some y ≡ None = h in cc)
all_passed false false false false true w x y z h = absurd (let f : Some z ≡ None = h in cc)
all_passed false false false false false w x y z h = (refl, λ t. (refl, refl, refl))

pub none_wrong : (a e s m k : Bool) (w x y z : Damage) → a ≡ false → (e ≡ false → (s ≡ false) × (m ≡ false) × (k ≡ false)) → first_of a e s m k w x y z ≡ None
none_wrong a true s m k w x y z na rest = rw na refl
none_wrong a false s m k w x y z na rest = let r = rest refl in rw (na, r.0, r.1, r.2) refl

-- ---- a link word

module _ (l : Layout) where
  pub right_remover : (k : Link) → l.kind ≢ Tree_kind → names_well l k ≡ true → HasRightRemover l k
  right_remover k chained well = elim (or_cases (k.by == 0) (nat_le k.by 64 && l.values && k.mark) well) [
    | inl none ↦ let e = eqb-true k.by 0 none in record { most = omega arith; named = inl e }
    | inr one ↦
        let p = and_parts (nat_le k.by 64 && l.values) k.mark one in
        let q = and_parts (nat_le k.by 64) l.values p.0 in
        record { most = leb-true k.by 64 q.0; named = inr (q.1, chained, p.1) }
  ]

  pub names_well-from : (k : Link) → HasRightRemover l k → names_well l k ≡ true
  names_well-from k h = elim h.named [
    | inl none ↦ or_left (k.by == 0) (nat_le k.by 64 && l.values && k.mark) (eq-eqb k.by 0 none)
    | inr one ↦ or_right (k.by == 0) (nat_le k.by 64 && l.values && k.mark)
        (and_from (nat_le k.by 64 && l.values) k.mark (and_from (nat_le k.by 64) l.values (le-leb k.by 64 h.most) one.0) one.2)
  ]

  -- a head is not marked
  abbrev pub is_marked_head : List ℕ → ℕ → Bool
  is_marked_head image word = nat_lt word l.buckets && (link_in image word).mark

  -- a link word that doesn't lead astray
  pub record LeadsRight (image : List ℕ) (word : ℕ) : Type 0 where
    pub link : IsListLink l (link_in image word)
    pub within : (link_in image word).row ≤ last_row_of l
    pub unmarked : is_marked_head image word ≡ false

  pub leads_right : (image : List ℕ) (word : ℕ) → l.kind ≢ Tree_kind → leads_astray l image word ≡ false → LeadsRight image word
  leads_right image word chained h =
      let k = link_in image word in
      let p = or_parts (not (names_well l k) || nat_lt (last_row_of l) k.row || k.frozen) (is_marked_head image word) h in
      let q = or_parts (not (names_well l k) || nat_lt (last_row_of l) k.row) k.frozen p.0 in
      let r = or_parts (not (names_well l k)) (nat_lt (last_row_of l) k.row) q.0 in
      record {
        link = record { unfrozen = q.1; remover = right_remover k chained (not-false (names_well l k) r.0) };
        within = ltb-false (last_row_of l) k.row r.1;
        unmarked = p.1;
      }

  pub leads_astray-from : (image : List ℕ) (word : ℕ) → LeadsRight image word → leads_astray l image word ≡ false
  leads_astray-from image word h =
      let k = link_in image word in
      or_from (not (names_well l k) || nat_lt (last_row_of l) k.row || k.frozen) (is_marked_head image word)
      (or_from (not (names_well l k) || nat_lt (last_row_of l) k.row) k.frozen
      (or_from (not (names_well l k)) (nat_lt (last_row_of l) k.row) (not_from_true (names_well l k) (names_well-from k h.link.remover))
      (le-ltb (last_row_of l) k.row h.within))
      h.link.unfrozen)
      h.unmarked

  -- a key in its place
  pub record IsPlaced (head key : ℕ) : Type 0 where
    pub most : key ≤ 4294967292
    pub bucket : head_of_key l key ≡ head

  pub placed : (head key : ℕ) → is_misplaced l head key ≡ false → IsPlaced head key
  placed head key h =
      let p = or_parts (nat_lt 4294967292 key) (not (head_of_key l key == head)) h in
      record { most = ltb-false 4294967292 key p.0; bucket = eqb-true (head_of_key l key) head (not-false (head_of_key l key == head) p.1) }

  pub is_misplaced-from : (head key : ℕ) → IsPlaced head key → is_misplaced l head key ≡ false
  is_misplaced-from head key h = or_from (nat_lt 4294967292 key) (not (head_of_key l key == head)) (le-ltb 4294967292 key h.most)
      (not_from_true (head_of_key l key == head) (eq-eqb (head_of_key l key) head h.bucket))

-- ---- nothing wrong at a link word

module _ (l : Layout) (image : List ℕ) (head : ℕ) (reached : List ℕ) (low word : ℕ) where
  -- the row that the link leads to may come next
  pub record MayFollow (row : ℕ) : Type 0 where
    pub new : stands_in reached row ≡ false
    pub place : IsPlaced l head (key_in l image row)
    pub rising : low ≤ key_in l image row

  pub sound_link : l.kind ≢ Tree_kind → damage_at l image head reached low word ≡ None → LeadsRight l image word
  sound_link chained h = leads_right l image word chained (all_passed (leads_astray l image word) ((link_in image word).row == 0)
      (stands_in reached (link_in image word).row) (is_misplaced l head (key_in l image (link_in image word).row))
      (nat_lt (key_in l image (link_in image word).row) low) _ _ _ _ h).0

  pub sound_row : damage_at l image head reached low word ≡ None → (link_in image word).row ≢ 0 → MayFollow (link_in image word).row
  sound_row h some =
      let p = (all_passed (leads_astray l image word) ((link_in image word).row == 0) (stands_in reached (link_in image word).row)
      (is_misplaced l head (key_in l image (link_in image word).row)) (nat_lt (key_in l image (link_in image word).row) low) _ _ _ _ h).1
      (ne_eqb (link_in image word).row 0 some) in
      record {
        new = p.0;
        place = placed l head (key_in l image (link_in image word).row) p.1;
        rising = ltb-false (key_in l image (link_in image word).row) low
            p.2;
      }

  pub damage_at-none : LeadsRight l image word → ((link_in image word).row ≢ 0 → MayFollow (link_in image word).row) →
      damage_at l image head reached low word ≡ None
  damage_at-none right next = none_wrong (leads_astray l image word) ((link_in image word).row == 0) (stands_in reached (link_in image word).row)
      (is_misplaced l head (key_in l image (link_in image word).row)) (nat_lt (key_in l image (link_in image word).row) low) _ _ _ _
      (leads_astray-from l image word right)
      (λ some. let f = next (eqb-false (link_in image word).row 0 some) in
      (f.new, is_misplaced-from l head (key_in l image (link_in image word).row) f.place, le-ltb (key_in l image (link_in image word).row) low f.rising))

  -- a row that was reached is damage
  pub damage_at-shared : leads_astray l image word ≡ false → (link_in image word).row ≢ 0 → stands_in reached (link_in image word).row ≡ true →
      damage_at l image head reached low word ≡ Some (Shared (link_in image word).row)
  damage_at-shared right some old = rw (right, ne_eqb (link_in image word).row 0 some, old) refl

-- the rows that were reached matter only by the test
pub damage_at-alike : (l : Layout) (image : List ℕ) (head : ℕ) (reached others : List ℕ) (low word : ℕ) →
    stands_in reached (link_in image word).row ≡ stands_in others (link_in image word).row →
    damage_at l image head reached low word ≡ damage_at l image head others low word
damage_at-alike l image head reached others low word e = rw e refl
