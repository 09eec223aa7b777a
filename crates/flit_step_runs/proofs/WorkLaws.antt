-- The works of a trace, one worker after another.
use Rattle.std.proofs.Common.{◌≡◌, ℕ, zero, suc, ◌+◌, ◌≤◌, List, [], ◌∷◌, ◌++◌, map, sym, ◌∙◌, ap, refl, arith}
use Rattle.std.proofs.lemmas.List.{map-append}
use Rattle.std.proofs.lemmas.List.FromFn.{map-range_with_len_more}
use Rattle.std.specs.List.{range_with_len}
use Rattle.flit_model.specs.declared.calls.Item.{Item}
use Rattle.flit_model.specs.declared.calls.Work.{Work}
use Rattle.flit_trace.specs.Contents.{Content}
use Rattle.flit_trace.specs.Drafts.{stop_of}
use Rattle.flit_trace.specs.SeenTraces.{SeenTrace, Shows, script_at}
use Rattle.flit_step_reports.specs.StepReports.{AreWorksOf, items_in}

-- the items of a worker's script
abbrev pub seen_items : SeenTrace → ℕ → List Item
seen_items t worker = map (λ line. line.1) (script_at t worker)

-- these are the works of the first workers
pub record HasWorks (t : SeenTrace) (n : ℕ) (works : List Work) : Type 0 where
  pub items : map (λ w. w.items.items) works ≡ map (seen_items t) (range_with_len 1 n)
  pub stops : map (λ w. w.stop) works ≡ map (stop_of t.stops) (range_with_len 1 n)

pub one_work_more : (t : SeenTrace) (n j : ℕ) (works : List Work) (w : Work) → j ≡ n + 1 → HasWorks t n works → w.items.items ≡ seen_items t j →
    w.stop ≡ stop_of t.stops j → HasWorks t (n + 1) (works ++ w ∷ [])
one_work_more t n j works w is h items stop = record {
  items = map-append (λ x. x.items.items) works (w ∷ []) ∙ ap (λ xs. xs ++ w.items.items ∷ []) h.items
      ∙ ap (λ x. map (seen_items t) (range_with_len 1 n) ++ x ∷ []) items
      ∙ sym (map-range_with_len_more (seen_items t) 1 n j (omega (arith, is)));
  stops = map-append (λ x. x.stop) works (w ∷ []) ∙ ap (λ xs. xs ++ w.stop ∷ []) h.stops
      ∙ ap (λ x. map (stop_of t.stops) (range_with_len 1 n) ++ x ∷ []) stop
      ∙ sym (map-range_with_len_more (stop_of t.stops) 1 n j (omega (arith, is)));
}

-- the scripts that are seen are those of the lines
scripts_same : (t : SeenTrace) (c : Content) → Shows t c → (n a : ℕ) → 1 ≤ a → a + n ≤ t.head.layout.workers + 1 →
    map (seen_items t) (range_with_len a n) ≡ map (items_in c) (range_with_len a n)
scripts_same t c h zero a some le = refl
scripts_same t c h (suc n) a some le =
    let first = h.scripts a (record { least = some; most = omega (arith, le) }) in
    ap (λ s. map (λ line. line.1) s ∷ map (seen_items t) (range_with_len (a + 1) n)) first
    ∙ ap (λ xs. items_in c a ∷ xs) (scripts_same t c h n (a + 1) (omega arith) (omega (arith, le)))

pub are_works : (t : SeenTrace) (c : Content) (n : ℕ) (works : List Work) → n ≡ t.head.layout.workers → HasWorks t n works → Shows t c → AreWorksOf c works
are_works t c n works is h s =
    let workers : n ≡ c.head.layout.workers = is ∙ ap (λ x. x.layout.workers) s.head in
    record {
      items = h.items ∙ scripts_same t c s n 1 (omega arith) (omega (arith, is)) ∙ ap (λ k. map (items_in c) (range_with_len 1 k)) workers;
      stops = h.stops ∙ ap (λ ss. map (stop_of ss) (range_with_len 1 n)) s.stops ∙ ap (λ k. map (stop_of c.stops) (range_with_len 1 k)) workers;
    }
