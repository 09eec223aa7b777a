-- What a report tells.
use Rattle.flit_report.specs.declared.content.Report.{Report}
use Rattle.flit_report.specs.Content.{Content}

abbrev pub content_of : Report → Content
content_of r = record {
  summary = r.summary;
  version = r.version;
  events = r.events.items;
  lines = r.lines.items;
  history = r.history.items;
  tallies = r.tallies.items;
  keys = r.keys.items;
  values = r.values.items;
  free = r.free;
}
