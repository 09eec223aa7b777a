-- A mark that is set says that the row was reached.
use Rattle.std.proofs.Common.{◌≡◌, ℕ, ◌<◌, ◌≤◌, true, false, length, Some, sym, ap, subst, ◌∙◌, arith}
use Rattle.std.proofs.lemmas.List.{get_or_read}
use Rattle.flit_words.specs.declared.links.Link.{Link}
use Rattle.flit_words.specs.Layouts.{last_row_of}
use Rattle.flit_model.specs.Lists.{link_in}
use Rattle.flit_recover.specs.declared.found.Damage.TheVariants.{Shared}
use Rattle.flit_recover.specs.ListWalks.{stands_in, leads_astray}
use Rattle.flit_recover.proofs.ListSteps.{damage_at-shared, leads_right}
use Rattle.flit_recover.proofs.list_walk.row_behind.Goals as goal

pub returns-then-index-clause-err : goal.returns-then-index-clause-err
returns-then-index-clause-err c =
    let l = c.args.layout.now in
    let image = c.args.words.now in
    let word = c.args.word in
    let rows = c.args.reached.now.rows.items in
    let marks = c.args.reached.now.marks.items in
    let row = c.link_at-row.result.row in
    let same : row ≡ (link_in image word).row = ap (λ (k : Link). k.row) c.link_at-row.ensures in
    let right : leads_astray l image word ≡ false = sym c.if-is_astray.ensures in
    let within : (link_in image word).row ≤ last_row_of l = (leads_right l image word c.requires.chained right).within in
    let long = c.requires.marks.long in
    let below : row < length marks = omega arith in
    let read = get_or_read marks row c.index.result.now below c.index.ensures false in
    let old : stands_in rows row ≡ true = sym (c.requires.marks.each row (omega arith)) ∙ sym read ∙ c.if-index.true in
    damage_at-shared l image c.args.head rows c.args.low word right (λ none. c.if-row-eq0.false (same ∙ none)) (subst (λ r. stands_in rows r ≡ true) same old)
    ∙ ap (λ (r : ℕ). Some (Shared r)) (sym same)
