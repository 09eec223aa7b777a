-- All laws of a structure, for a crew that keeps what it promises.
use Rattle.std.proofs.Common.{ℕ, List, ap}
use Rattle.flit_words.specs.declared.layouts.Layout.{Layout}
use Rattle.flit_place.specs.Tags.{Place}
use Rattle.flit_structure.specs.Meanings.{Meaning}
use Rattle.flit_structure.specs.Lawful.{Lawful}
use Rattle.flit_crew.specs.Crews.{Crew}
use Rattle.flit_crew.specs.CrewMeanings.{Bounds, crew_meaning}
use Rattle.flit_crew.specs.Obligations.{Keeps}
pub use Rattle.flit_crew.specs.Remaining.{Begins, KeepsBounds}
use Rattle.flit_crew.proofs.Asking.{effects}
use Rattle.flit_crew.proofs.Crashing.{crash}
use Rattle.flit_crew.proofs.Happening.{happens, is_sized, is_near, are_named, covers, shows, entries, waits}
use Rattle.flit_crew.proofs.Opening.{opened}
use Rattle.flit_crew.proofs.Queueing.{unqueued}
use Rattle.flit_crew.proofs.Replying.{replies}
use Rattle.flit_crew.proofs.Telling.{allowed_by, replaces_by, writes, spare_first}

module _ {G Op : Type 0} (c : Crew G Op) (l : Layout) (p : Place) (free : List ℕ) (bounds : Bounds Op) where
  abbrev pub meaning : Meaning Op
  meaning = crew_meaning c l p free bounds

  pub crew_lawful : Keeps c l p free → Begins c l p free bounds → KeepsBounds meaning → Lawful meaning
  crew_lawful keeps begins limits = record {
    opens = λ o may. let x = begins.opens o may in (x.opening, ap Rattle.std.specs.Prelude.length x.pool, (opened c l p free o x, begins.first o may));
    keeps = λ who M N happening h. (happens c l p free bounds keeps who M N happening h.0, begins.lasts who M N happening h.0 h.1);
    sized = λ M h. is_sized c l p free bounds M h.0;
    near = λ M word h below. is_near c l p free bounds M word h.0;
    covers = λ M h. covers c l p free bounds M h.0;
    shows = λ M word e h is. shows c l p free bounds M word e h.0 is;
    named = λ M h. are_named c l p free bounds M h.0;
    allowed = λ M a u b e q h. allowed_by c l p free bounds keeps M a u b e q h.0;
    replaces = λ M a u b e word q h below. replaces_by c l p free bounds keeps M a u b e word q h.0;
    writes = λ M a name number op call begun b word from to q next h. writes c l p free keeps M a name number op call begun b h.0 word from to next q;
    effects = λ M a name number op call begun b e h.
        let x = effects c l p free keeps M a name number b op call begun h.0 e in (x.word, x.from, x.to, x.asks, x.higher);
    awake = λ hand call may. keeps.awake hand call may.served;
    falls = limits.falls;
    crash = λ M picks h. crash c l p free keeps M picks h.0;
    replies = λ M a name number op call begun reply b is h. replies c l p free keeps M a name number op call begun reply b is h.0;
    entries = λ M h. entries c l p free bounds M h.0;
    waits = λ M word e h is. waits c l p free bounds keeps M word e h.0 is;
    spare_first = λ hand call may. spare_first c l p free bounds keeps hand call;
    spare = limits.spare;
    tally_first = limits.tally_first;
    tallies = limits.tallies;
    unqueued = λ M a name number op call begun b e one q h. unqueued c l p free keeps M a name number op call begun b e one q h.0;
    licensed_first = limits.licensed_first;
    licensed_own = limits.licensed_own;
    licensed_kept = limits.licensed_kept;
    licensed_means = limits.licensed_means;
  }
