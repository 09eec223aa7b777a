use Rattle.std.proofs.Common.{subst}
use Rattle.flit_structures.proofs.WantedTexts.{wanted_text}
use Rattle.flit_structures.specs.Structures.{IsPlayable}
use Rattle.flit_structures.proofs.texts.text_of_trace.Goals as goal

pub returns-clause-text : goal.returns-clause-text
returns-clause-text c =
    let found = c.in_ok-found.found in
    let r = c.in_ok-found.ensures.read in
    let text = c.in-Ok.text in
    record {
      content = r.content;
      trace = r.is;
      playable = subst (λ h. IsPlayable h) r.shows.head c.in_ok-found.ensures.playable;
      is = wanted_text r.content c.args.wanted found.1 text.items (c.in_ok-found.ensures.starts c.args.bytes.items r.content r.is r.shows)
          (c.in-Ok.ensures c.args.bytes.items r.content r.is r.shows)
          (λ shows told is. c.traces_say_headline.ensures c.args.bytes.items r.content found.1 shows told r.is
          (subst (λ h. IsPlayable h) r.shows.head c.in_ok-found.ensures.playable)
          (c.in_ok-found.ensures.starts c.args.bytes.items r.content r.is r.shows) is);
    }
