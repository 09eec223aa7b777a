use Rattle.std.proofs.Common.{◌≡◌, ◌≢◌, ◌<◌, length, codes, [], ap, arith}
use Rattle.std.proofs.lemmas.List.{nil_from_length}
use Rattle.std.proofs.lemmas.Slice.Eq.{slice_eq-Decides}
use Rattle.std.proofs.lemmas.Bool.Decides.{Decides-eqb}
use Rattle.flit_image.proofs.BodyFaults.{end_alone, end_and_more}
use Rattle.flit_image.proofs.found_words.next_word.Goals as goal

pub returns-then-is_empty-clause-ok : goal.returns-then-is_empty-clause-ok
returns-then-is_empty-clause-ok c =
    let end : c.in-Some.here.now ≡ codes "end" = (slice_eq-Decides Decides-eqb _ _ _ c.eq.ensures).0 c.if-eq.true in
    let none : length c.in-Some.rest.now ≡ 0 = grind arith in
    end_alone c.args.text.now c.in-Some.here.now c.in-Some.rest.now c.in-Some.ensures.lines end (nil_from_length _ none)

pub returns-then-eq-clause-err : goal.returns-then-eq-clause-err
returns-then-eq-clause-err c =
    let end : c.in-Some.here.now ≡ codes "end" = (slice_eq-Decides Decides-eqb _ _ _ c.eq.ensures).0 c.if-eq.true in
    let some : 0 < length c.in-Some.rest.now = grind arith in
    let more : c.in-Some.rest.now ≢ [] = λ none. omega (arith, ap length none) in
    end_and_more c.args.layout.now c.args.line c.args.low c.args.text.now c.in-Some.here.now c.in-Some.rest.now c.in-Some.ensures.lines end more
