-- The walk over chains as it stands between two steps: what was walked on this chain, and the chains before it.
use Rattle.std.proofs.Common.{◌≡◌, ◌≢◌, ℕ, zero, suc, ◌+◌, ◌<◌, ◌≤◌, ◌==◌, ◌||◌, Bool, true, false, cond, List, [], ◌∷◌, ◌++◌, flat_map, length, slice_index, Some, None, refl, sym, ap, ◌∙◌, subst, arith, inl, inr, append_assoc, ne_eqb, eq-eqb}
use Rattle.std.specs.List.{range_with_len}
use Rattle.std.proofs.lemmas.Bool.{cases_eq}
use Rattle.std.proofs.lemmas.List.{append-nil}
use Rattle.std.proofs.lemmas.List.Folds.{list_any-append}
use Rattle.flit_words.specs.declared.layouts.Layout.{Layout}
use Rattle.flit_words.specs.declared.layouts.Kind.TheVariants.{Tree as Tree_kind}
use Rattle.flit_words.specs.Words.{is_tagged}
use Rattle.flit_words.specs.Layouts.{words_of}
use Rattle.flit_model.specs.Lists.{link_in, key_in, next_word, IsLawfulList, rows_on_chains}
use Rattle.flit_model.proofs.Elements.{flat_map-same}
use Rattle.flit_recover.specs.declared.found.Damage.{Damage}
use Rattle.flit_recover.specs.ListWalks.{stands_in, damage_at, LeadsTo, IsSoundFrom, IsDamagedFrom, IsChainDamage, reached_before}
use Rattle.flit_recover.proofs.ListSteps.{damage_at-alike}
use Rattle.flit_recover.proofs.ListLaws.{AreSound, lawful_from_sound}

-- ---- one chain

module _ (l : Layout) (image : List ℕ) (head : ℕ) where
  -- the walk goes over these rows with nothing wrong, and then stands at a link word with these rows reached
  abbrev pub IsWalkedTo : List ℕ → ℕ → ℕ → List ℕ → List ℕ → ℕ → ℕ → Type 0
  IsWalkedTo reached low word [] behind from at = (reached ≡ behind) × (low ≡ from) × (word ≡ at)
  IsWalkedTo reached low word (row ∷ rows) behind from at =
      LeadsTo l image head reached low word row × IsWalkedTo (row ∷ reached) (suc (key_in l image row)) (next_word l row) rows behind from at

  walked_on : (reached : List ℕ) (low word : ℕ) (rows behind : List ℕ) (from at row : ℕ) → IsWalkedTo reached low word rows behind from at →
      LeadsTo l image head behind from at row → IsWalkedTo reached low word (rows ++ row ∷ []) (row ∷ behind) (suc (key_in l image row)) (next_word l row)
  walked_on reached low word [] behind from at row h lead = (rw (h.0, h.1, h.2) lead, (ap (λ rs. row ∷ rs) h.0, refl, refl))
  walked_on reached low word (r ∷ rows) behind from at row h lead = (
    h.0,
    walked_on (r ∷ reached) (suc (key_in l image r)) (next_word l r) rows behind
        from at row h.1 lead,
  )

  walked_sound : (reached : List ℕ) (low word : ℕ) (rows behind : List ℕ) (from at : ℕ) → IsWalkedTo reached low word rows behind from at →
      damage_at l image head behind from at ≡ None → (link_in image at).row ≡ 0 → IsSoundFrom l image head reached low word rows
  walked_sound reached low word [] behind from at h sound end = (rw (h.0, h.1, h.2) sound, rw h.2 end)
  walked_sound reached low word (r ∷ rows) behind from at h sound end = (
    h.0,
    walked_sound (r ∷ reached) (suc (key_in l image r)) (next_word l r) rows behind
        from at h.1 sound end,
  )

  walked_damaged : (reached : List ℕ) (low word : ℕ) (rows behind : List ℕ) (from at : ℕ) (d : Damage) → IsWalkedTo reached low word rows behind from at →
      damage_at l image head behind from at ≡ Some d → IsDamagedFrom l image head reached low word rows d
  walked_damaged reached low word [] behind from at d h wrong = rw (h.0, h.1, h.2) wrong
  walked_damaged reached low word (r ∷ rows) behind from at d h wrong = (
    h.0,
    walked_damaged (r ∷ reached) (suc (key_in l image r)) (next_word l r) rows behind
        from at d h.1 wrong,
  )

  -- the rows that were reached before the chain, and now with those of its front; the next key is to be at least low
  pub record IsWalked (start rows : List ℕ) (low word : ℕ) : Type 0 where
    pub front : List ℕ
    pub behind : List ℕ
    pub rows_are : rows ≡ start ++ front
    pub walked : IsWalkedTo start 0 head front behind low word
    pub alike : (row : ℕ) → stands_in behind row ≡ stands_in rows row

  pub walked_none : (start : List ℕ) → IsWalked start start 0 head
  walked_none start = record { front = []; behind = start; rows_are = sym (append-nil start); walked = (refl, refl, refl); alike = λ row. refl }

  same_damage : (start rows : List ℕ) (low word : ℕ) (h : IsWalked start rows low word) →
      damage_at l image head h.behind low word ≡ damage_at l image head rows low word
  same_damage start rows low word h = damage_at-alike l image head h.behind rows low word (h.alike (link_in image word).row)

  pub walked_more : (start rows : List ℕ) (low word row low' word' : ℕ) → IsWalked start rows low word → damage_at l image head rows low word ≡ None →
      row ≡ (link_in image word).row → row ≢ 0 → low' ≡ key_in l image row + 1 → word' ≡ next_word l row → IsWalked start (rows ++ row ∷ []) low' word'
  walked_more start rows low word row low' word' h sound named some later next =
      let e : low' ≡ suc (key_in l image row) = omega arith in
      let lead : LeadsTo l image head h.behind low word row = record {
        sound = same_damage start rows low word h
            ∙ sound;
        named = sym named;
        some_row = some;
      } in
      rw (e, next) (record {
        front = h.front ++ row ∷ [];
        behind = row ∷ h.behind;
        rows_are = ap (λ rs. rs ++ row ∷ []) h.rows_are ∙ append_assoc start h.front (row ∷ []);
        walked = walked_on start 0 head h.front h.behind low word row h.walked lead;
        alike = λ r. turned (row == r) (stands_in h.behind r) (stands_in rows r) (h.alike r) ∙ sym (list_any-append (λ s. s == r) rows (row ∷ []));
      })
    where
      turned : (one a b : Bool) → a ≡ b → (one || a) ≡ (b || (one || false))
      turned true true b e = grind arith
      turned true false b e = grind arith
      turned false true b e = grind arith
      turned false false b e = grind arith

  pub walked_to_end : (start rows : List ℕ) (low word : ℕ) → IsWalked start rows low word → damage_at l image head rows low word ≡ None →
      (link_in image word).row ≡ 0 → (front : List ℕ) × (rows ≡ start ++ front) × IsSoundFrom l image head start 0 head front
  walked_to_end start rows low word h sound end = (
    h.front,
    h.rows_are,
    walked_sound start 0 head h.front h.behind low word h.walked
        (same_damage start rows low word h ∙ sound) end,
  )

  pub walked_to_damage : (start rows : List ℕ) (low word : ℕ) (d : Damage) → IsWalked start rows low word → damage_at l image head rows low word ≡ Some d →
      (front : List ℕ) × IsDamagedFrom l image head start 0 head front d
  walked_to_damage start rows low word d h wrong = (
    h.front,
    walked_damaged start 0 head h.front h.behind low word d h.walked (same_damage start rows low word h
        ∙ wrong),
  )

-- ---- all chains

flat_map-range_more : {X : Type 0} (part : ℕ → List X) (first n j : ℕ) → first + n ≡ j →
    flat_map part (range_with_len first (suc n)) ≡ flat_map part (range_with_len first n) ++ part j
flat_map-range_more part first zero j e =
    let same : first ≡ j = omega arith in
    append-nil (part first) ∙ ap part same
flat_map-range_more part first (suc n) j e =
    ap (λ ys. part first ++ ys) (flat_map-range_more part (first + 1) n j (omega arith))
    ∙ sym (append_assoc (part first) (flat_map part (range_with_len (first + 1) n)) (part j))

-- the chain of one more head
abbrev pub with_chain : (ℕ → List ℕ) → ℕ → List ℕ → ℕ → List ℕ
with_chain chain n rows head = cond (head == n) rows (chain head)

module _ (l : Layout) (image : List ℕ) where
  -- the chains of the first n heads are sound, and these are their rows
  pub record IsSwept (n : ℕ) (rows : List ℕ) : Type 0 where
    pub chain : ℕ → List ℕ
    pub sound : AreSound l image chain n
    pub rows_are : rows ≡ reached_before chain n

  pub swept_none : IsSwept 0 []
  swept_none = record { chain = λ head. []; sound = λ h b. absurd (omega (arith, b)); rows_are = refl }

  before_same : (chain : ℕ → List ℕ) (n h : ℕ) (rows : List ℕ) → h ≤ n → reached_before (with_chain chain n rows) h ≡ reached_before chain h
  before_same chain n h rows le = flat_map-same (with_chain chain n rows) chain 0 h (λ g from below.
      rw (ne_eqb g n (λ e. omega arith)) refl)

  pub swept_more : (n n' : ℕ) (rows rows' front : List ℕ) → n' ≡ n + 1 → IsSwept n rows → rows' ≡ rows ++ front → IsSoundFrom l image n rows 0 n front →
      IsSwept n' rows'
  swept_more n n' rows rows' front next h added sound =
      let e : n' ≡ suc n = omega arith in
      let chain = with_chain h.chain n front in
      let here : chain n ≡ front = rw (eq-eqb n n refl) refl in
      rw e (record {
        chain = chain;
        sound = λ g b. elim (cases_eq g n) [
          | inl same ↦
              let at_n : IsSoundFrom l image n (reached_before chain n) 0 n (chain n) = rw (here, before_same h.chain n n front (omega arith))
              (subst (λ rs. IsSoundFrom l image n rs 0 n front) h.rows_are sound) in
              subst (λ k. IsSoundFrom l image k (reached_before chain k) 0 k (chain k)) (sym same) at_n
          | inr apart ↦
              let there : chain g ≡ h.chain g = rw (ne_eqb g n apart) refl in
              rw (there, before_same h.chain n g front (omega arith)) (h.sound g (omega arith))
        ];
        rows_are = added ∙ ap (λ rs. rs ++ front) h.rows_are
            ∙ sym (flat_map-range_more chain 0 n n (omega arith) ∙ ap (λ rs. rs ++ chain n) (before_same h.chain n n front (omega arith))
            ∙ ap (λ rs. reached_before h.chain n ++ rs) here);
      })

  pub swept_all : l.kind ≢ Tree_kind → (rows : List ℕ) → length image ≡ words_of l → ((w : ℕ) → w < words_of l → is_tagged (slice_index image w) ≡ false) →
      IsSwept l.buckets rows → (chain : ℕ → List ℕ) × IsLawfulList l image chain × (rows ≡ rows_on_chains l chain)
  swept_all chained rows whole untagged h = (h.chain, lawful_from_sound l image chained h.chain whole untagged h.sound, h.rows_are)

  pub swept_to_damage : (n : ℕ) (rows front : List ℕ) (d : Damage) → n < l.buckets → IsSwept n rows → IsDamagedFrom l image n rows 0 n front d →
      IsChainDamage l image d
  swept_to_damage n rows front d within h wrong = record {
    head = n;
    within = within;
    chain = h.chain;
    before = h.sound;
    rows = front;
    here = subst (λ rs. IsDamagedFrom l image n rs 0 n front d) h.rows_are wrong;
  }
