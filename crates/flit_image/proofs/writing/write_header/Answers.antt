use Rattle.std.proofs.Common.{codes, ◌++◌, decimal}
use Rattle.flit_image.specs.ImageTexts.{version_number, structure_line}
use Rattle.flit_image.proofs.Writings.{with_ends-three}
use Rattle.flit_image.proofs.writing.write_header.Goals as goal

pub returns : goal.returns
returns c =
    let l = c.args.layout.now in
    with_ends-three _ _ _ _ (codes "image " ++ decimal (version_number l.values)) (structure_line l.kind l.buckets) (codes "rows " ++ decimal l.rows)
    c.in_ok-write_version.ensures c.in_ok-write_structure.ensures c.in_ok-write_rows.ensures
