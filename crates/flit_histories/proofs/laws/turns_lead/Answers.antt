use Rattle.flit_histories.specs.Reached.{here}
use Rattle.flit_histories.proofs.LedParts.{part_led, follows_joined, follows_led, alone_follows, led_follows, follows_parted, follows_long, follows_content, idle_out, out_follows}
use Rattle.flit_histories.proofs.ReachedRuns.{sound}
use Rattle.flit_histories.proofs.SinceRuns.{settled_led}
use Rattle.flit_histories.proofs.ToldRuns.{told_all}
use Rattle.flit_histories.proofs.StopCounts.{left_led}
use Rattle.flit_histories.proofs.laws.turns_lead.Goals as goal

pub returns : goal.returns
returns g c = λ s.
    let meaning = g.S.Structure.meaning s in
    let laws = g.met.S.Structure.lawful s in
    record {
      joined = follows_joined meaning;
      parted = follows_parted meaning;
      leads = λ r next ts h. follows_led meaning r r next ts h here;
      led = led_follows meaning;
      alone = λ r next worker h. alone_follows meaning worker r next h;
      reached = λ r next ts h f. record { start = h.start; works = h.works; starts = h.starts; leads = follows_led meaning _ r next ts f h.leads };
      content = follows_content meaning;
      settled = λ r next ts h f.
          settled_led meaning laws r (sound meaning laws r h) (told_all meaning laws r h) next (follows_led meaning r r next ts f here);
      long = follows_long meaning;
      workers = λ r next ts worker a p b f is. part_led meaning r next (follows_led meaning r r next ts f here) worker a p b is;
      stops = left_led meaning;
      out = out_follows meaning;
      idle = idle_out meaning;
    }
