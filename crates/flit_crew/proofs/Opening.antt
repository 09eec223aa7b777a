-- The first moment of a run over a lawful opening.
use Rattle.std.proofs.Common.{◌≡◌, ⊎_elim, inl, ℕ, zero, suc, ◌+◌, ◌*◌, ◌<◌, ◌≤◌, min, Bool, true, false, List, [], ◌∷◌, ◌++◌, length, map, replicate, slice_index, refl, sym, ◌∙◌, ap, subst, arith}
use Rattle.std.proofs.lemmas.Bool.{cases_lt}
use Rattle.std.proofs.lemmas.List.{get_or_past}
use Rattle.std.proofs.lemmas.Option.{none-some}
use Rattle.std.specs.Prelude.{Contains}
use Rattle.std.specs.List.{AllByRecursion}
use Rattle.std.specs.Ordering.{nat_cmp}
use Rattle.std.specs.FinMap as fin
use Rattle.std.specs.FinMap.{get-empty, len-entries, len-empty}
use Rattle.flit_words.specs.declared.layouts.Layout.{Layout}
use Rattle.flit_words.specs.declared.layouts.Kind.{Kind}
use Rattle.flit_words.specs.declared.layouts.Kind.TheVariants.{List as List_kind, Hash, Tree}
use Rattle.flit_words.specs.Layouts.{words_of, first_row_of, last_row_of}
use Rattle.flit_words.specs.Words.{is_tagged, version_of}
use Rattle.flit_model.specs.Histories.{is_update}
use Rattle.flit_model.specs.Images.{Shape, Chains, Grown, IsLawfulAs}
use Rattle.flit_model.specs.Lists.{IsRisingFrom}
use Rattle.flit_model.specs.States.{state_from}
use Rattle.flit_model.specs.declared.calls.Entry.{Entry}
use Rattle.flit_model.proofs.Elements.{all_weaker}
use Rattle.flit_model.proofs.Membership.{contains_first, contains_later}
use Rattle.flit_model.proofs.Shapes.{free_rows-contains}
use Rattle.flit_place.specs.Tags.{Place, IsSlot}
use Rattle.flit_pv.specs.Hands.{first_hand}
use Rattle.flit_runs.specs.Soundness.{IsSound, IsStored}
use Rattle.flit_runs.proofs.Opening as runs
use Rattle.flit_structure.specs.Moments.{Opening, Moment, first_moment, made, numbers_of}
use Rattle.flit_structure.specs.Lawful.{IsOpening, rows_needed}
use Rattle.flit_crew.specs.Accounts.{IsPool, IsAny, HasNumber, inserts_in}
use Rattle.flit_crew.specs.Crews.{Crew, Holds, Stranger, stranger_of, IsForeignWord}
use Rattle.flit_crew.proofs.Outside.{words_among, foreign_within, outside_first}
use Rattle.flit_crew.specs.Obligations.{OpensSo}

-- ---- the words of a lawful image

whole_of : (l : Layout) (image : List ℕ) (s : Shape) → IsLawfulAs l image s → length image ≡ words_of l
whole_of l image (Chains chain) h = h.1.whole
whole_of l image (Grown t) h = h.1.whole

bare_of_image : (l : Layout) (image : List ℕ) (s : Shape) → IsLawfulAs l image s → (w : ℕ) → is_tagged (slice_index image w) ≡ false
bare_of_image l image s h w = ⊎_elim (λ lt. by_shape s h lt) (λ le. ap is_tagged (get_or_past image w 0 (subst (λ n. n ≤ w) (sym (whole_of l image s h)) le)))
    (cases_lt w (words_of l))
  where
    by_shape : (s : Shape) → IsLawfulAs l image s → w < words_of l → is_tagged (slice_index image w) ≡ false
    by_shape (Chains chain) k lt = k.1.untagged w lt
    by_shape (Grown t) k lt = k.1.untagged w lt

-- ---- the pool

all_of : (P : ℕ → Type 0) (xs : List ℕ) → ((x : ℕ) → Contains xs x → P x) → AllByRecursion P xs
all_of P [] f = tt
all_of P (x ∷ xs) f = (f x (contains_first x xs), all_of P xs (λ y c. f y (contains_later x xs y c)))

rising_least : (xs : List ℕ) → IsRisingFrom 0 xs → AllByRecursion (λ x. 1 ≤ x) xs → IsRisingFrom 1 xs
rising_least [] rising all = tt
rising_least (x ∷ xs) rising all = (all.0, rising.1)

least_row : (k : Kind) → 1 ≤ first_row_of k
least_row List_kind = omega arith
least_row Hash = omega arith
least_row Tree = omega arith

is_pool : (l : Layout) (o : Opening) → IsOpening l o → IsPool l o.free
is_pool l o h = record {
  rising = rising_least o.free h.rising (all_of (λ x. 1 ≤ x) o.free (λ x c. through (first_row_of l.kind) x (least_row l.kind) (row x c).0));
  fit = all_of (λ x. x ≤ last_row_of l) o.free (λ x c. (row x c).1);
}
  where
    row : (x : ℕ) → Contains o.free x → (first_row_of l.kind ≤ x) × (x ≤ last_row_of l)
    row x c = let r = (free_rows-contains l h.recovers.shape x).0 (subst (λ xs. Contains xs x) h.recovers.free_rows (h.among x c)) in (r.0, r.1)

    through : (a x : ℕ) → 1 ≤ a → a ≤ x → 1 ≤ x
    through a x i j = omega (arith, i, j)

-- ---- nothing is counted or made

zeros : (n slot : ℕ) → slice_index (replicate n 0) slot ≡ 0
zeros zero slot = refl
zeros (suc n) zero = refl
zeros (suc n) (suc slot) = zeros n slot

length_zeros : (n : ℕ) → length {A = ℕ} (replicate n 0) ≡ n
length_zeros zero = refl
length_zeros (suc n) = ap suc (length_zeros n)

no_entries : fin.entries {K = ℕ} {X = Entry} {R = nat_cmp} fin.empty ≡ []
no_entries = nothing _ (sym (len-entries fin.empty) ∙ len-empty nat_cmp Entry)
  where
    nothing : (es : List (ℕ × Entry)) → length es ≡ 0 → es ≡ []
    nothing [] e = refl
    nothing (x ∷ es) e = absurd (omega arith)

no_values : fin.values {K = ℕ} {X = Entry} {R = nat_cmp} fin.empty ≡ []
no_values = ap (map (λ p. p.1)) no_entries

module _ {G Op : Type 0} (c : Crew G Op) (l : Layout) (p : Place) (free : List ℕ) (o : Opening) (x : OpensSo c l p free o) where
  abbrev M : Moment Op
  M = first_moment l o

  nothing : made M.progress ≡ []
  nothing = ap (λ xs. [] ++ xs) no_values

  abbrev shape : Shape
  shape = x.opening.recovers.shape

  whole : length o.words ≡ words_of l
  whole = whole_of l o.words shape x.opening.recovers.lawful

  -- whoever writes foreign rows has stored none
  abbrev stranger : Stranger
  stranger = record { hand = first_hand 0; needs = []; private = words_among l free o x.opening.free }

  fresh : IsSound p (λ word. false) (record { state = state_from l o.words; workers = [] })
  fresh = runs.opens p (λ word. false) (record { state = state_from l o.words; workers = [] }) (record {
    suits = record {
      whole = refl;
      slots = λ word lt. subst (λ n. IsSlot p.counted n (p.slot word)) (sym (length_zeros l.slots)) (x.slots word (subst (λ n. word < n) whole lt));
    };
    persistent = refl;
    untagged = bare_of_image l o.words shape x.opening.recovers.lawful;
    lowered = zeros l.slots;
    few = omega arith;
    workers = tt;
  })

  sound_first : IsSound p (λ word. false) (record { state = state_from l o.words; workers = stranger_of stranger ∷ [] })
  sound_first = record {
    suits = fresh.suits;
    words = fresh.words;
    plain = tt;
    covers = fresh.covers;
    settled = λ word plain nobodys. fresh.settled word plain tt;
    apart = (tt, tt);
    few = omega arith;
    workers = (
      record {
        needs = tt;
        pairs = tt;
        knows = tt;
        seen = tt;
        plain = all_weaker (IsForeignWord l free o) (λ w. (w < length o.words) × (false ≡ false))
            (λ w f. (subst (λ n. w < n) (sym whole) (foreign_within l free o w f), refl)) stranger.private (outside_first l free o x.opening).foreign;
        stored = all_weaker (IsForeignWord l free o) (IsStored (state_from l o.words) [] []) (λ w f. inl (same_le (version_of (slice_index o.words w))))
            stranger.private (outside_first l free o x.opening).foreign;
        apart = tt;
      },
      tt,
    );
  }
    where
      same_le : (n : ℕ) → n ≤ n
      same_le n = omega arith

  pub opened : Holds c l p free M
  opened = record {
    given = [];
    ghost = x.ghost;
    actors = [];
    opening = x.opening;
    pool_is = x.pool;
    stranger = stranger;
    outside = outside_first l free o x.opening;
    accepted = x.accepted;
    pool = subst (IsPool l) (sym x.pool) (is_pool l o x.opening);
    words = whole;
    slots = length_zeros l.slots;
    sound = sound_first;
    tagged = λ counted w tag. absurd (clash (is_tagged (slice_index o.words w)) tag (bare_of_image l o.words shape x.opening.recovers.lawful w));
    kept = x.kept;
    acts = tt;
    rows = record {
      dealt = record { rows = λ row. refl; many = drawn (length free) };
      linked = subst (λ es. 0 ≡ rows_needed l.kind * inserts_in es) (sym nothing) (none (rows_needed l.kind));
      within = least (length free + 0);
      past = tt;
      tight = tt;
    };
    history = record {
      updates = subst (AllByRecursion (λ e. is_update e ≡ true)) (sym nothing) tt;
      rises = λ name. subst (λ es. IsRisingFrom 0 (numbers_of name es)) (sym nothing) tt;
      numbered = subst (AllByRecursion (λ e. IsAny (HasNumber c.anatomy e) [])) (sym nothing) tt;
      waits = λ word e q. absurd (none-some e (sym (get-empty nat_cmp word) ∙ q));
    };
    different = tt;
  }
    where
      clash : (b : Bool) → b ≡ true → b ≡ false → ⊥
      clash b q r = cc

      drawn : (n : ℕ) → 0 + 0 ≡ min 0 n
      drawn n = omega arith

      least : (n : ℕ) → 0 ≤ n
      least n = omega arith

      none : (n : ℕ) → 0 ≡ n * 0
      none n = omega arith
