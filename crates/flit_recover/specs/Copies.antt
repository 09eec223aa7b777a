-- Images that have the numbers of a layout.
pub use Rattle.flit_model.specs.Recovery.{IsImageOf}
