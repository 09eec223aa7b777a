-- Walks along a chain: what is left of a lawful one, after a step and before it.
use Rattle.std.proofs.Common.{◌≡◌, ◌≢◌, ◌↔◌, ℕ, zero, suc, ◌+◌, true, false, List, [], ◌∷◌, ◌++◌, append_assoc, refl, sym, ap, ◌∙◌, arith}
use Rattle.std.specs.List.{flat_map, range_with_len}
use Rattle.std.proofs.lemmas.List.{append-nil}
use Rattle.flit_words.specs.declared.layouts.Layout.{Layout}
use Rattle.flit_words.specs.declared.links.Link.{Link}
use Rattle.flit_model.specs.Lists.{link_in, key_in, next_word, is_removed, pair_in, list_pairs, IsListLink, IsLawfulChain}
use Rattle.flit_model.proofs.Chains.{chain_unique}
use Rattle.flit_model.proofs.Pairs.{list_pairs-append}
use Rattle.flit_plain.specs.declared.reached.Reached.{Reached}
use Rattle.flit_plain.specs.declared.chains.Next.{Next}
use Rattle.flit_plain.specs.declared.chains.Next.TheVariants.{Broken, End, Row}
use Rattle.flit_plain.specs.Walks.{MayStand, IsLawfulFrom}
use Rattle.flit_plain.specs.Steps.{LeadsOn, IsNextAt}
use Rattle.flit_plain.specs.Reaching.{Adds}

module _ (l : Layout) (image : List ℕ) (head : ℕ) where
  pub lawful_end : (low word : ℕ) → (link_in image word).row ≡ 0 → IsListLink l (link_in image word) → IsLawfulFrom l image head low word []
  lawful_end low word none link = record { chain = none; links = (link, tt); rising = tt; within = tt; bucket = tt }

  pub lawful_on : (low word row : ℕ) (rows : List ℕ) → LeadsOn l image head low word row →
      IsLawfulFrom l image head (suc (key_in l image row)) (next_word l row) rows → IsLawfulFrom l image head low word (row ∷ rows)
  lawful_on low word row rows step rest = record {
    chain = (step.named, step.stands.given.least, step.stands.given.most, rest.chain);
    links = (step.link, rest.links);
    rising = (step.stands.above, rest.rising);
    within = (step.stands.within, rest.within);
    bucket = (step.stands.bucket, rest.bucket);
  }

  pub lawful_behind : (low word row : ℕ) (rows : List ℕ) → IsLawfulFrom l image head low word (row ∷ rows) →
      IsLawfulFrom l image head (suc (key_in l image row)) (next_word l row) rows
  lawful_behind low word row rows h = record {
    chain = h.chain.3;
    links = h.links.1;
    rising = h.rising.1;
    within = h.within.1;
    bucket = h.bucket.1;
  }

  pub lawful_leads : (low word row : ℕ) (rows : List ℕ) → IsLawfulFrom l image head low word (row ∷ rows) → LeadsOn l image head low word row
  lawful_leads low word row rows h = record {
    named = h.chain.0;
    link = h.links.0;
    stands = record {
      given = record { least = h.chain.1; most = h.chain.2 };
      above = h.rising.0;
      within = h.within.0;
      bucket = h.bucket.0;
    };
  }

  pub lawful_link : (low word : ℕ) (rows : List ℕ) → IsLawfulFrom l image head low word rows → IsListLink l (link_in image word)
  lawful_link low word [] h = h.links.0
  lawful_link low word (row ∷ rows) h = h.links.0

  -- a lawful chain from a word on is none, or leads on to the row that the word's link names
  pub lawful_stands : (low word : ℕ) (rows : List ℕ) → (link_in image word).row ≢ 0 → IsLawfulFrom l image head low word rows →
      MayStand l image head low (link_in image word).row
  lawful_stands low word [] some h = absurd (some h.chain)
  lawful_stands low word (row ∷ rows) some h = let step = lawful_leads low word row rows h in rw step.named step.stands

  pub lawful_refused : (low word : ℕ) (k : Link) → k ≡ link_in image word → k.row ≢ 0 → ¬ (MayStand l image head low k.row) → (rows : List ℕ) →
      ¬ (IsLawfulFrom l image head low word rows)
  lawful_refused low word k e some not_here rows h =
      let row : k.row ≡ (link_in image word).row = ap (λ (x : Link). x.row) e in
      not_here (rw row (lawful_stands low word rows (λ none. some (row ∙ none)) h))

  -- what is left behind a step
  pub lawful_rest : (low word row : ℕ) (rows : List ℕ) → LeadsOn l image head low word row → IsLawfulFrom l image head low word rows →
      (rest : List ℕ) × (rows ≡ row ∷ rest) × IsLawfulFrom l image head (suc (key_in l image row)) (next_word l row) rest
  lawful_rest low word row [] step h = absurd (let none = h.chain in omega (arith, none, step.named, step.stands.given.least))
  lawful_rest low word row (other ∷ rows) step h =
      let e : other ≡ row = sym h.chain.0 ∙ step.named in
      (rows, ap (λ r. r ∷ rows) e, rw e at (lawful_behind low word other rows h))

  -- a lawful chain goes on with a row exactly where one goes on from the row's link
  pub lawful_step : (low word row above next : ℕ) → LeadsOn l image head low word row → above ≡ key_in l image row + 1 → next ≡ next_word l row →
      ((rows : List ℕ) × IsLawfulFrom l image head low word rows) ↔ ((rows : List ℕ) × IsLawfulFrom l image head above next rows)
  lawful_step low word row above next step key link =
      let same : above ≡ suc (key_in l image row) = omega (arith, key) in
      rw (same, link) (
        (λ w. let rest = lawful_rest low word row w.0 step w.1 in (rest.0, rest.2)),
        (λ w. (row ∷ w.0, lawful_on low word row w.0 step w.1)),
      )

  -- a whole chain
  pub lawful_whole : (rows : List ℕ) → (link_in image head).mark ≡ false → IsLawfulFrom l image head 0 head rows → IsLawfulChain l image head rows
  lawful_whole rows unmarked h = record { chain = h.chain; links = h.links; unmarked = unmarked; rising = h.rising; within = h.within; bucket = h.bucket }

  pub lawful_from_head : (rows : List ℕ) → IsLawfulChain l image head rows → IsLawfulFrom l image head 0 head rows
  lawful_from_head rows h = record { chain = h.chain; links = h.links; rising = h.rising; within = h.within; bucket = h.bucket }

-- a walk along a lawful chain: what it has added, and what is left
pub record IsReaching (l : Layout) (image : List ℕ) (head low word : ℕ) (all_rows : List ℕ) (start now : Reached) : Type 0 where
  pub rest : List ℕ
  pub left : IsLawfulFrom l image head low word rest
  pub rows : start.rows.items ++ all_rows ≡ now.rows.items ++ rest
  pub pairs : start.pairs.items ++ list_pairs l image all_rows ≡ now.pairs.items ++ list_pairs l image rest

module _ (l : Layout) (image : List ℕ) (head : ℕ) where
  pub reaching_start : (rows : List ℕ) (start : Reached) → IsLawfulChain l image head rows → IsReaching l image head 0 head rows start start
  reaching_start rows start h = record { rest = rows; left = lawful_from_head l image head rows h; rows = refl; pairs = refl }

  pub reaching_end : (low word : ℕ) (rows : List ℕ) (start now : Reached) → IsLawfulFrom l image head low word [] →
      IsReaching l image head low word rows start now → Adds start now rows (list_pairs l image rows)
  reaching_end low word rows start now ends h =
      let none : h.rest ≡ [] = chain_unique l image word h.rest [] h.left.chain ends.chain in
      record {
        rows = sym (h.rows ∙ ap (λ rs. now.rows.items ++ rs) none ∙ append-nil now.rows.items);
        pairs = sym (h.pairs ∙ ap (λ rs. now.pairs.items ++ list_pairs l image rs) none ∙ append-nil now.pairs.items);
      }

  -- a walk that doesn't go on has added the whole chain
  pub reaching_stops : (low word : ℕ) (rows : List ℕ) (start now : Reached) (n : Next) → ((row : ℕ) → n ≡ Row row → ⊥) → IsNextAt l image head low word n →
      IsReaching l image head low word rows start now → Adds start now rows (list_pairs l image rows)
  reaching_stops low word rows start now Broken stops none h = absurd (none h.rest h.left)
  reaching_stops low word rows start now End stops ends h = reaching_end low word rows start now ends h
  reaching_stops low word rows start now (Row row) stops step h = absurd (stops row refl)

  pub reaching_step : (low word row above next : ℕ) (rows : List ℕ) (start now later : Reached) → LeadsOn l image head low word row →
      above ≡ key_in l image row + 1 → next ≡ next_word l row → Adds now later (row ∷ []) (list_pairs l image (row ∷ [])) →
      IsReaching l image head low word rows start now → IsReaching l image head above next rows start later
  reaching_step low word row above next rows start now later step key link adds h =
      let same : above ≡ suc (key_in l image row) = omega (arith, key) in
      let rest = lawful_rest l image head low word row h.rest step h.left in
      record {
        rest = rest.0;
        left = rw (same, link) rest.2;
        rows = h.rows ∙ ap (λ rs. now.rows.items ++ rs) rest.1 ∙ sym (append_assoc now.rows.items (row ∷ []) rest.0) ∙ ap (λ rs. rs ++ rest.0) (sym adds.rows);
        pairs = h.pairs ∙ ap (λ rs. now.pairs.items ++ list_pairs l image rs) rest.1
            ∙ ap (λ ps. now.pairs.items ++ ps) (list_pairs-append l image (row ∷ []) rest.0)
            ∙ sym (append_assoc now.pairs.items (list_pairs l image (row ∷ [])) (list_pairs l image rest.0))
            ∙ ap (λ ps. ps ++ list_pairs l image rest.0) (sym adds.pairs);
      }

module _ (l : Layout) (image : List ℕ) where
  -- whether a row is removed is what its own link says
  pub removed_by : (row next : ℕ) (k : Link) → k ≡ link_in image next → next ≡ next_word l row → is_removed l image row ≡ k.mark
  removed_by row next k e link = rw (← link) (ap (λ (x : Link). x.mark) (sym e))

  -- a row of a chain adds itself, and its pair where its own link isn't marked
  pub adds_kept : (row : ℕ) (now later : Reached) → is_removed l image row ≡ false → later.rows.items ≡ now.rows.items ++ row ∷ [] →
      later.pairs.items ≡ now.pairs.items ++ pair_in l image row ∷ [] → Adds now later (row ∷ []) (list_pairs l image (row ∷ []))
  adds_kept row now later kept rows pairs = record { rows = rows; pairs = rw kept pairs }

  pub adds_removed : (row : ℕ) (now later : Reached) → is_removed l image row ≡ true → later.rows.items ≡ now.rows.items ++ row ∷ [] →
      later.pairs.items ≡ now.pairs.items → Adds now later (row ∷ []) (list_pairs l image (row ∷ []))
  adds_removed row now later removed rows pairs = record { rows = rows; pairs = rw removed (pairs ∙ sym (append-nil now.pairs.items)) }

-- ---- all chains

pub flat_map-range_more : {X : Type 0} (part : ℕ → List X) (first n next : ℕ) → first + n ≡ next →
    flat_map part (range_with_len first (suc n)) ≡ flat_map part (range_with_len first n) ++ part next
flat_map-range_more part first zero next e =
    let same : first ≡ next = omega (arith, e) in
    append-nil (part first) ∙ ap part same
flat_map-range_more part first (suc n) next e =
    ap (λ xs. part first ++ xs) (flat_map-range_more part (first + 1) n next (omega (arith, e)))
    ∙ sym (append_assoc (part first) (flat_map part (range_with_len (first + 1) n)) (part next))

-- what a walk along one more chain leaves
pub adds_chain : (l : Layout) (image : List ℕ) (chain : ℕ → List ℕ) (head : ℕ) (now later : Reached) → now.rows.items ≡ flat_map chain (range_with_len 0 head) →
    now.pairs.items ≡ list_pairs l image (flat_map chain (range_with_len 0 head)) → Adds now later (chain head) (list_pairs l image (chain head)) →
    (above : ℕ) → above ≡ head + 1 → (later.rows.items ≡ flat_map chain (range_with_len 0 above))
    × (later.pairs.items ≡ list_pairs l image (flat_map chain (range_with_len 0 above)))
adds_chain l image chain head now later rows pairs adds above e =
    let next : above ≡ suc head = omega (arith, e) in
    let more = ap (λ n. flat_map chain (range_with_len 0 n)) next ∙ flat_map-range_more chain 0 head head (omega arith) in (
      adds.rows ∙ ap (λ rs. rs ++ chain head) rows ∙ sym more,
      adds.pairs ∙ ap (λ ps. ps ++ list_pairs l image (chain head)) pairs
          ∙ sym (list_pairs-append l image (flat_map chain (range_with_len 0 head)) (chain head))
          ∙ ap (list_pairs l image) (sym more),
    )
