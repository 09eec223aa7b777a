use Rattle.std.proofs.Common.{◌≡◌, sym, subst}
use Rattle.flit_model.specs.Recovery.{layout_of}
use Rattle.flit_model.specs.declared.found.Image.{Image}
use Rattle.flit_image.specs.ImageTexts.{image_text}
use Rattle.flit_run_structures.proofs.runs.image_text_on.Goals as goal

pub returns : goal.returns
returns g c = λ t shows can. record {
  run = c.in_ok-ran.ensures.run t shows can;
  text_is = subst (λ (i : Image). c.in_ok-text.text.items ≡ image_text (layout_of i) i.words.items) (sym c.in_ok-ran.ensures.image) c.in_ok-text.ensures;
}
