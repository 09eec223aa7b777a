-- A draft counts the call and evict lines that were told.
use Rattle.std.specs.Prelude.{◌≡◌, List, length}
use Rattle.flit_trace.specs.declared.drafts.Draft.{Draft}
use Rattle.flit_trace.specs.Contents.{ItemLine, calls_of}

pub record IsCounted (d : Draft) (items : List ItemLine) : Type 0 where
  pub lines : d.lines ≡ length items
  pub calls : d.calls ≡ length (calls_of items)
