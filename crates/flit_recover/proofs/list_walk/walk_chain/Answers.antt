-- The walk over a chain goes on behind what was walked, and ends with nothing wrong or with the damage of its last word.
use Rattle.std.proofs.Common.{◌≡◌, ◌≢◌, ℕ, ◌+◌, List, [], ◌∷◌, length, sym, ap, subst, ◌∙◌, arith}
use Rattle.std.proofs.lemmas.Result.{err_from_is_err_and}
use Rattle.flit_model.specs.Lists.{value_in, key_in, link_in, list_pairs}
use Rattle.flit_recover.proofs.ListSteps.{MayFollow, sound_row}
use Rattle.flit_recover.proofs.ListWalking.{IsWalked, walked_more, walked_to_end, walked_to_damage}
use Rattle.flit_recover.proofs.PairCounts.{pairs_more, pairs_at_most}
use Rattle.flit_recover.proofs.list_walk.walk_chain.Goals as goal

pub returns-in_err-row-clause-damage : goal.returns-in_err-row-clause-damage
returns-in_err-row-clause-damage c =
    let p = err_from_is_err_and c.from_residual.result c.from_residual.ensures.1 in
    rw (p.1, p.2) (λ some. walked_to_damage c.args.layout.now c.args.words.now c.args.head c.args.reached.now.rows.items c.chain.reached.rows.items c.chain.low
    c.chain.word _ c.chain.invariant.walked c.in_err-row.ensures.err)

pub returns-then-row-eq0-clause-rows : goal.returns-then-row-eq0-clause-rows
returns-then-row-eq0-clause-rows c =
    walked_to_end c.args.layout.now c.args.words.now c.args.head c.args.reached.now.rows.items c.chain.reached.rows.items c.chain.low c.chain.word
    c.chain.invariant.walked
    c.in_ok-row.ensures.sound (sym c.in_ok-row.ensures.row ∙ c.if-row-eq0.true)

pub chain-preserved : goal.chain-preserved
chain-preserved c =
    let l = c.args.layout.now in
    let image = c.args.words.now in
    let head = c.args.head in
    let start = c.args.reached.now.rows.items in
    let rows = c.chain.reached.rows.items in
    let low = c.chain.low in
    let word = c.chain.word in
    let row = c.in_ok-row.row in
    let sound = c.in_ok-row.ensures.sound in
    let named : row ≡ (link_in image word).row = c.in_ok-row.ensures.row in
    let some : row ≢ 0 = c.if-row-eq0.false in
    let key : c.value_at-key.result ≡ key_in l image row = c.value_at-key.ensures ∙ ap (value_in image) c.row_word.ensures.is in
    let follows : MayFollow l image head rows low word row = subst (MayFollow l image head rows low word) (sym named)
    (sound_row l image head rows low word sound (λ none. some (named ∙ none))) in
    let most = follows.place.most in
    record {
      walked = subst (λ (rs : List ℕ). IsWalked l image head start rs (c.value_at-key.result + 1) c.row_word-word.result) (sym c.in_ok-push.ensures.rows)
          (walked_more l image head start rows low word row (c.value_at-key.result + 1) c.row_word-word.result c.chain.invariant.walked sound named some
          (ap (λ k. k + 1) key) c.row_word-word.ensures.is);
      marks = c.in_ok-push.ensures.marks;
      within = c.row_word-word.ensures.below;
      low = omega (arith, key, most);
      counted = ap (λ n. n + c.count_row-count.result) c.chain.invariant.counted ∙ ap (λ n. length (list_pairs l image rows) + n) c.count_row-count.ensures
          ∙ sym (pairs_more l image rows row) ∙ ap (λ (rs : List ℕ). length (list_pairs l image rs)) (sym c.in_ok-push.ensures.rows);
    }

pub overflow_add-count : goal.overflow_add-count
overflow_add-count c =
    let l = c.args.layout.now in
    let image = c.args.words.now in
    let rows = c.chain.reached.rows in
    let row = c.in_ok-row.row in
    let one = c.count_row-count.ensures in
    let counted = c.chain.invariant.counted in
    omega (arith, one, counted, pairs_at_most l image rows.items, pairs_at_most l image (row ∷ []), rows.ok.0)
