-- The walk over chains finds nothing wrong exactly where the image is lawful, and where it finds a damage it finds that
-- one alone.
use Rattle.std.proofs.Common.{◌≡◌, ◌≢◌, ℕ, suc, ◌<◌, ◌≤◌, ◌==◌, nat_lt, false, List, [], ◌∷◌, map, length, slice_index, Some, None, refl, sym, ap, ◌∙◌, subst, arith, inl, inr}
use Rattle.std.specs.List.{AllByRecursion}
use Rattle.std.proofs.lemmas.Bool.{cases_order, ne_eqb, or_from, and_left, and_right, and_cases, le-ltb, ltb-false}
use Rattle.flit_words.specs.declared.layouts.Layout.{Layout}
use Rattle.flit_words.specs.declared.layouts.Kind.TheVariants.{Tree as Tree_kind}
use Rattle.flit_words.specs.Words.{is_tagged}
use Rattle.flit_words.specs.Layouts.{words_of, head_of_key}
use Rattle.flit_model.specs.Lists.{link_in, key_in, next_word, link_words, IsChain, IsListLink, IsRisingFrom, IsLawfulList}
use Rattle.flit_model.proofs.Elements.{all-flat_map, all_weaker, flat_map-same}
use Rattle.flit_model.proofs.Chains.{chain_unique}
use Rattle.flit_recover.specs.declared.found.Damage.{Damage}
use Rattle.flit_recover.specs.ListWalks.{stands_in, IsSoundFrom, IsDamagedFrom, IsChainDamage, reached_before}
use Rattle.flit_recover.proofs.ListSteps.{LeadsRight, MayFollow, is_marked_head, sound_link, sound_row, damage_at-none}

module _ (l : Layout) (image : List ℕ) (head : ℕ) where
  -- the rest of a lawful chain, from a link word on, with keys from low on
  pub record IsLawfulRest (low word : ℕ) (rows : List ℕ) : Type 0 where
    pub chain : IsChain l image word rows
    pub links : AllByRecursion (λ w. IsListLink l (link_in image w)) (link_words l word rows)
    pub rising : IsRisingFrom low (map (key_in l image) rows)
    pub within : AllByRecursion (λ r. key_in l image r ≤ 4294967292) rows
    pub bucket : AllByRecursion (λ r. head_of_key l (key_in l image r) ≡ head) rows

  pub lawful_later : (low word row : ℕ) (rows : List ℕ) → IsLawfulRest low word (row ∷ rows) → IsLawfulRest (suc (key_in l image row)) (next_word l row) rows
  lawful_later low word row rows h = record { chain = h.chain.3; links = h.links.1; rising = h.rising.1; within = h.within.1; bucket = h.bucket.1 }

  -- ---- from sound to lawful

  pub sound_lawful : l.kind ≢ Tree_kind → (reached : List ℕ) (low word : ℕ) (rows : List ℕ) → IsSoundFrom l image head reached low word rows →
      IsLawfulRest low word rows
  sound_lawful chained reached low word [] h =
      record { chain = h.1; links = ((sound_link l image head reached low word chained h.0).link, tt); rising = tt; within = tt; bucket = tt }
  sound_lawful chained reached low word (row ∷ rows) h =
      let right = sound_link l image head reached low word chained h.0.sound in
      let named = h.0.named in
      let some = h.0.some_row in
      let next = rw named at (sound_row l image head reached low word h.0.sound (λ none. some (sym named ∙ none))) in
      let rest = sound_lawful chained (row ∷ reached) (suc (key_in l image row)) (next_word l row) rows h.1 in
      let within = right.within in
      record {
        chain = (named, omega arith, omega arith, rest.chain);
        links = (right.link, rest.links);
        rising = (next.rising, rest.rising);
        within = (next.place.most, rest.within);
        bucket = (next.place.bucket, rest.bucket);
      }

  pub sound_first : l.kind ≢ Tree_kind → (reached : List ℕ) (low word : ℕ) (rows : List ℕ) → IsSoundFrom l image head reached low word rows →
      LeadsRight l image word
  sound_first chained reached low word [] h = sound_link l image head reached low word chained h.0
  sound_first chained reached low word (row ∷ rows) h = sound_link l image head reached low word chained h.0.sound

  -- ---- from lawful to sound

  -- a row that isn't met on the rest of the chain: of another bucket, or with a key below low
  abbrev pub IsBehind : ℕ → ℕ → Type 0
  IsBehind low row = head_of_key l (key_in l image row) ≡ head → key_in l image row < low

  pub behind_apart : (low : ℕ) (reached : List ℕ) (row : ℕ) → AllByRecursion (IsBehind low) reached → head_of_key l (key_in l image row) ≡ head →
      low ≤ key_in l image row → stands_in reached row ≡ false
  behind_apart low [] row h bucket from = refl
  behind_apart low (r ∷ reached) row h bucket from = or_from (r == row) (stands_in reached row)
      (ne_eqb r row (λ e. absurd (omega (arith, from, ap (key_in l image) e, h.0 (ap (λ x. head_of_key l (key_in l image x)) e ∙ bucket)))))
      (behind_apart low reached row h.1 bucket from)

  pub lawful_sound : (reached : List ℕ) (low word : ℕ) (rows : List ℕ) → IsLawfulRest low word rows → is_marked_head l image word ≡ false →
      AllByRecursion (IsBehind low) reached → IsSoundFrom l image head reached low word rows
  lawful_sound reached low word [] h unmarked behind =
      let none : (link_in image word).row ≡ 0 = h.chain in
      (damage_at-none l image head reached low word (record { link = h.links.0; within = omega arith; unmarked = unmarked }) (λ some. absurd (some none)), none)
  lawful_sound reached low word (row ∷ rows) h unmarked behind =
      let named : (link_in image word).row ≡ row = h.chain.0 in
      let least = h.chain.1 in
      let most = h.chain.2 in
      let low_key = h.rising.0 in
      let follows : MayFollow l image head reached low word row = record {
        new = behind_apart low reached row behind h.bucket.0 h.rising.0;
        place = record { most = h.within.0; bucket = h.bucket.0 };
        rising = h.rising.0;
      } in
      let next : MayFollow l image head reached low word (link_in image word).row = rw named follows in (
        record {
          sound = damage_at-none l image head reached low word (record { link = h.links.0; within = omega arith; unmarked = unmarked }) (λ some. next);
          named = named;
          some_row = omega arith;
        },
        lawful_sound (row ∷ reached) (suc (key_in l image row)) (next_word l row) rows (lawful_later low word row rows h)
            (and_left (nat_lt (next_word l row) l.buckets) (link_in image (next_word l row)).mark (le-ltb (next_word l row) l.buckets (omega arith))) (
              (λ bucket. omega arith),
              all_weaker (IsBehind low) (IsBehind (suc (key_in l image row))) (λ r b bucket. omega (arith, b bucket, low_key)) reached
                  behind,
            ),
      )

  -- ---- one damage

  pub sound_undamaged : (reached : List ℕ) (low word : ℕ) (rows others : List ℕ) (d : Damage) → IsSoundFrom l image head reached low word rows →
      IsDamagedFrom l image head reached low word others d → ⊥
  sound_undamaged reached low word [] [] d h w = let e : None ≡ Some d = sym h.0 ∙ w in cc
  sound_undamaged reached low word [] (s ∷ others) d h w = w.0.some_row (sym w.0.named ∙ h.1)
  sound_undamaged reached low word (r ∷ rows) [] d h w = let e : None ≡ Some d = sym h.0.sound ∙ w in cc
  sound_undamaged reached low word (r ∷ rows) (s ∷ others) d h w =
      let same : s ≡ r = sym w.0.named ∙ h.0.named in
      let later : IsDamagedFrom l image head (r ∷ reached) (suc (key_in l image r)) (next_word l r) others
      d = subst (λ t. IsDamagedFrom l image head (t ∷ reached) (suc (key_in l image t)) (next_word l t) others d) same w.1 in
      sound_undamaged (r ∷ reached) (suc (key_in l image r)) (next_word l r) rows others d h.1 later

  pub damaged_once : (reached : List ℕ) (low word : ℕ) (rows others : List ℕ) (d e : Damage) → IsDamagedFrom l image head reached low word rows d →
      IsDamagedFrom l image head reached low word others e → d ≡ e
  damaged_once reached low word [] [] d e h w = let s : Some d ≡ Some e = sym h ∙ w in cc
  damaged_once reached low word [] (s ∷ others) d e h w = absurd (let s : None ≡ Some d = sym w.0.sound ∙ h in cc)
  damaged_once reached low word (r ∷ rows) [] d e h w = absurd (let s : None ≡ Some e = sym h.0.sound ∙ w in cc)
  damaged_once reached low word (r ∷ rows) (s ∷ others) d e h w =
      let same : s ≡ r = sym w.0.named ∙ h.0.named in
      let later : IsDamagedFrom l image head (r ∷ reached) (suc (key_in l image r)) (next_word l r) others
      e = subst (λ t. IsDamagedFrom l image head (t ∷ reached) (suc (key_in l image t)) (next_word l t) others e) same w.1 in
      damaged_once (r ∷ reached) (suc (key_in l image r)) (next_word l r) rows others d e h.1 later

-- ---- whole images

-- the walks of the first n heads find nothing wrong
abbrev pub AreSound : Layout → List ℕ → (ℕ → List ℕ) → ℕ → Type 0
AreSound l image chain n = (h : ℕ) → h < n → IsSoundFrom l image h (reached_before chain h) 0 h (chain h)

module _ (l : Layout) (image : List ℕ) (chained : l.kind ≢ Tree_kind) where
  pub lawful_from_sound : (chain : ℕ → List ℕ) → length image ≡ words_of l → ((w : ℕ) → w < words_of l → is_tagged (slice_index image w) ≡ false) →
      AreSound l image chain l.buckets → IsLawfulList l image chain
  lawful_from_sound chain whole untagged sound = record {
    whole = whole;
    untagged = untagged;
    chains = λ h b.
        let rest = sound_lawful l image h chained (reached_before chain h) 0 h (chain h) (sound h b) in
        record {
          chain = rest.chain;
          links = rest.links;
          unmarked = unmarked h b;
          rising = rest.rising;
          within = rest.within;
          bucket = rest.bucket;
        };
  }
    where
      unmarked : (h : ℕ) → h < l.buckets → (link_in image h).mark ≡ false
      unmarked h b = elim (and_cases (nat_lt h l.buckets) (link_in image h).mark
          (sound_first l image h chained (reached_before chain h) 0 h (chain h) (sound h b)).unmarked) [
            | inl past ↦ absurd (omega (arith, b, ltb-false h l.buckets past))
            | inr e ↦ e
          ]

  pub sound_from_lawful : (chain : ℕ → List ℕ) → IsLawfulList l image chain → AreSound l image chain l.buckets
  sound_from_lawful chain lawful h b =
      let c = lawful.chains h b in
      lawful_sound l image h (reached_before chain h) 0 h (chain h)
      (record { chain = c.chain; links = c.links; rising = c.rising; within = c.within; bucket = c.bucket })
      (and_right (nat_lt h l.buckets) (link_in image h).mark c.unmarked)
      (all-flat_map (IsBehind l image h 0) chain 0 h (λ g from below.
      let less : g < l.buckets = omega arith in
      all_weaker (λ r. head_of_key l (key_in l image r) ≡ g) (IsBehind l image h 0) (λ r at bucket. absurd (omega (
        arith,
        sym at
            ∙ bucket,
        below,
      ))) (chain g) (lawful.chains g less).bucket))

  -- two chain functions that are sound up to a head are the same up to it
  pub sound_same : (chain other : ℕ → List ℕ) (n : ℕ) → AreSound l image chain n → AreSound l image other n → reached_before chain n ≡ reached_before other n
  sound_same chain other n a b = flat_map-same chain other 0 n (λ h from below.
      chain_unique l image h (chain h) (other h)
      (sound_lawful l image h chained (reached_before chain h) 0 h (chain h) (a h (omega arith))).chain
      (sound_lawful l image h chained (reached_before other h) 0 h (other h) (b h (omega arith))).chain)

  sound_at_damage : (chain : ℕ → List ℕ) (d : Damage) (w : IsChainDamage l image d) → AreSound l image chain w.head →
      IsSoundFrom l image w.head (reached_before chain w.head) 0 w.head (chain w.head) → ⊥
  sound_at_damage chain d w before here =
      let same = sound_same chain w.chain w.head before w.before in
      sound_undamaged l image w.head (reached_before w.chain w.head) 0 w.head (chain w.head) w.rows d
      (subst (λ r. IsSoundFrom l image w.head r 0 w.head (chain w.head)) same here) w.here

  -- a lawful image has no damage
  pub lawful_undamaged : (chain : ℕ → List ℕ) (d : Damage) → IsLawfulList l image chain → IsChainDamage l image d → ⊥
  lawful_undamaged chain d lawful w =
      let sound = sound_from_lawful chain lawful in
      let within = w.within in
      sound_at_damage chain d w (λ h b. sound h (omega arith)) (sound w.head within)

  -- an image has one first damage
  pub chain_damage_once : (d e : Damage) → IsChainDamage l image d → IsChainDamage l image e → d ≡ e
  chain_damage_once d e v w = elim (cases_order v.head w.head) [
    | inl same ↦
        let alike : reached_before v.chain v.head ≡ reached_before w.chain v.head = sound_same v.chain w.chain v.head v.before
        (λ h b. w.before h (omega arith)) in
        let there : IsDamagedFrom l image v.head (reached_before w.chain v.head) 0 v.head w.rows
        e = subst (λ h. IsDamagedFrom l image h (reached_before w.chain h) 0 h w.rows e) (sym same) w.here in
        damaged_once l image v.head (reached_before v.chain v.head) 0 v.head v.rows w.rows d e v.here
        (subst (λ r. IsDamagedFrom l image v.head r 0 v.head w.rows e) (sym alike) there)
    | inr apart ↦ elim apart [
      | inl less ↦ absurd (sound_at_damage w.chain d v (λ h b. w.before h (omega arith)) (w.before v.head less))
      | inr more ↦ absurd (sound_at_damage v.chain e w (λ h b. v.before h (omega arith)) (v.before w.head more))
    ]
  ]
