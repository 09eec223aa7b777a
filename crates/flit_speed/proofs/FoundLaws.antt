-- What recovery finds in the fresh words of a layout is found in its image.
use Rattle.std.proofs.Common.{◌≡◌, sym, subst}
use Rattle.flit_words.specs.declared.layouts.Layout.{Layout}
use Rattle.flit_model.specs.States.{fresh_words}
use Rattle.flit_model.specs.Recovery.{IsRecovery}
use Rattle.flit_model.specs.declared.found.Recovered.{Recovered}

pub found_so : (m l : Layout) (start : Recovered) → l ≡ m → start.image.words.items ≡ fresh_words l →
    IsRecovery l (fresh_words l) start.keys.items start.values.items start.free.items →
    IsRecovery m start.image.words.items start.keys.items start.values.items start.free.items
found_so m l start layout words recovery =
    subst (λ x. IsRecovery x start.image.words.items start.keys.items start.values.items start.free.items) layout
    (subst (λ ws. IsRecovery l ws start.keys.items start.values.items start.free.items) (sym words) recovery)
