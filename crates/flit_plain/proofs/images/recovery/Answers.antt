use Rattle.std.proofs.Common.{ap, ◌∙◌, refl, sym, filter, nat_cmp}
use Rattle.std.specs.List.{range_with_len}
use Rattle.std.specs.FinMap.{entries, from_entries}
use Rattle.flit_words.specs.Layouts.{first_row_of}
use Rattle.flit_model.specs.Images.{map_in}
use Rattle.flit_plain.specs.Finding.{is_absent}
use Rattle.flit_plain.proofs.images.recovery.Goals as goal

pub returns-clause-found : goal.returns-clause-found
returns-clause-found c =
    let lawful = c.is_lawful.ensures.0 c.if-not-is_lawful.false in
    record {
      map = map_in c.args.layout.now c.args.words.now lawful.0;
      recovers = record {
        shape = lawful.0;
        lawful = lawful.1;
        map = refl;
        free_rows = c.in_ok-free.ensures
            ∙ ap (λ rows. filter (is_absent rows) (range_with_len (first_row_of c.args.layout.now.kind) c.args.layout.now.rows))
            (c.deref-2.ensures.value ∙ c.in_ok-reached.ensures.rows lawful.0 lawful.1);
      };
      pairs = sym (c.in_ok-pairs.ensures ∙ ap (λ ps. entries (from_entries {R = nat_cmp} ps)) c.deref.ensures.value
          ∙ ap entries (c.in_ok-reached.ensures.pairs lawful.0 lawful.1));
    }
