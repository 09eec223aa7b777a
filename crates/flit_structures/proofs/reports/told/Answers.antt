use Rattle.std.proofs.Common.{◌∙◌, ap, sym}
use Rattle.flit_structures.proofs.PlacedReports.{some_slots, found_here, plays_over, told_over}
use Rattle.flit_structures.specs.Structures.{placing_of}
use Rattle.flit_structures.proofs.reports.told.Goals as goal

pub told_over-requires-clause-found : goal.told_over-requires-clause-found
told_over-requires-clause-found c =
    found_here c.args.trace c.args.start c.requires.playable c.requires.starts c.requires.read.0 c.requires.read.1

pub told_over-requires-clause-playable : goal.told_over-requires-clause-playable
told_over-requires-clause-playable c =
    plays_over c.args.trace c.args.start c.requires.playable c.requires.starts c.traces_play.ensures _
    (ap placing_of (sym (ap (λ h. h.place) c.head.ensures.is) ∙ c.in-Adjacent.is)) c.requires.read.0 c.requires.read.1

pub returns-in-Adjacent : goal.returns-in-Adjacent
returns-in-Adjacent c =
    told_over c.args.trace c.args.start c.requires.playable c.requires.starts c.traces_play.ensures _ (λ v. v.items) c.told_over.result c.args.wanted
    (ap placing_of (sym (ap (λ h. h.place) c.head.ensures.is) ∙ c.in-Adjacent.is)) c.told_over.ensures

pub told_over-requires-in-Hashed-clause-found : goal.told_over-requires-in-Hashed-clause-found
told_over-requires-in-Hashed-clause-found c =
    found_here c.args.trace c.args.start c.requires.playable c.requires.starts c.requires.read.0 c.requires.read.1

pub told_over-requires-in-Hashed-clause-playable : goal.told_over-requires-in-Hashed-clause-playable
told_over-requires-in-Hashed-clause-playable c =
    plays_over c.args.trace c.args.start c.requires.playable c.requires.starts c.traces_play.ensures _
    (ap placing_of (sym (ap (λ h. h.place) c.head.ensures.is) ∙ c.in-Hashed.is)) c.requires.read.0 c.requires.read.1

pub returns-in-Hashed : goal.returns-in-Hashed
returns-in-Hashed c =
    told_over c.args.trace c.args.start c.requires.playable c.requires.starts c.traces_play.ensures _ (λ v. v.items) c.told_over-in-Hashed.result c.args.wanted
    (ap placing_of (sym (ap (λ h. h.place) c.head.ensures.is) ∙ c.in-Hashed.is)) c.told_over-in-Hashed.ensures

pub told_over-requires-in-Packed-clause-found : goal.told_over-requires-in-Packed-clause-found
told_over-requires-in-Packed-clause-found c =
    found_here c.args.trace c.args.start c.requires.playable c.requires.starts c.requires.read.0 c.requires.read.1

pub told_over-requires-in-Packed-clause-playable : goal.told_over-requires-in-Packed-clause-playable
told_over-requires-in-Packed-clause-playable c =
    plays_over c.args.trace c.args.start c.requires.playable c.requires.starts c.traces_play.ensures _
    (ap placing_of (sym (ap (λ h. h.place) c.head.ensures.is) ∙ c.in-Packed.is)) c.requires.read.0 c.requires.read.1

pub returns-in-Packed : goal.returns-in-Packed
returns-in-Packed c =
    told_over c.args.trace c.args.start c.requires.playable c.requires.starts c.traces_play.ensures _ (λ v. v.items) c.told_over-in-Packed.result c.args.wanted
    (ap placing_of (sym (ap (λ h. h.place) c.head.ensures.is) ∙ c.in-Packed.is)) c.told_over-in-Packed.ensures

pub invariant_of-told_over : goal.invariant_of-told_over
invariant_of-told_over c = record {
  some = some_slots c.requires.read.0 c.args.trace c.in-Hashed.slots c.requires.read.1 c.within_limits.ensures.place
      (sym (ap (λ h. h.place) c.head.ensures.is) ∙ c.in-Hashed.is);
}
