-- What is taken from a source: a trace that its bytes are read as, which is ready to run where a structure was opened for it.
use Rattle.std.proofs.Common.{◌≡◌, ℕ, List, sym, ◌∙◌, ap, subst, Vec}
use Rattle.std.specs.Global.{Global}
use Rattle.flit_model.specs.Recovery.{IsRecovery}
use Rattle.flit_model.specs.declared.found.Recovered.{Recovered}
use Rattle.flit_structure.specs.Meanings.{Meaning}
use Rattle.flit_table.specs.Passes.{BelongsTo, IsFirst}
use Rattle.flit_table.specs.Steps.{Home, meaning_of}
use Rattle.flit_table.specs.declared.passes.Pass.{Pass}
use Rattle.flit_table.specs.declared.told.Known.{Known}
use Rattle.flit_trace.specs.Grammar.{IsTrace}
use Rattle.flit_trace.specs.Heads.{IsRightHead, IsHeadOf}
use Rattle.flit_trace.specs.SeenTraces.{SeenTrace, IsReadAs}
use Rattle.flit_trace.specs.declared.heads.Head.{Head}
use Rattle.flit_structures.specs.Starts.{StartsSeen, StartsFresh}
use Rattle.flit_structures.specs.Structures.{IsPlayable}
use Rattle.flit_run_structures.specs.Runs.{RunsSeen}
use Rattle.flit_run_structures.specs.Sources.{HasItsWorks, IsSourceOf, IsTakenFrom, IsOutset, RunsSource, IsReadyRun, IsTextFrom}
use Rattle.flit_run_structures.specs.Texts.{IsTextOfRun}
use Rattle.flit_run_structures.specs.declared.runs.Wanted.{Wanted}
use Rattle.flit_run_structures.specs.declared.sources.Outset.{Outset}
use Rattle.flit_run_structures.specs.declared.sources.ReadTrace.{ReadTrace}
use Rattle.flit_run_structures.specs.declared.sources.Source.{Source}
use Rattle.flit_run_structures.specs.declared.sources.Source.TheVariants.{Read, Unread}

-- what is taken from a source is what its bytes are read as
pub read_as : (source : Source) (bytes : List ℕ) (trace : SeenTrace) → IsSourceOf bytes source → IsTakenFrom source trace → IsReadAs bytes trace
read_as (Read read) bytes trace of taken = subst (λ x. IsReadAs bytes x) (sym taken) of.0
read_as (Unread text) bytes trace of taken = subst (λ (bs : List ℕ). IsReadAs bs trace) of taken

-- the bytes have the text that was told of a trace which was taken from their source
pub text_told : (o : Outset) (bytes : List ℕ) (wanted : Wanted) (k : Known) (text : List ℕ) → IsOutset o → IsSourceOf bytes o.source →
    IsTextFrom o.source wanted k text → IsTextOfRun bytes wanted k text
text_told o bytes wanted k text out of from =
    let read = read_as o.source bytes from.trace of from.taken in
    record {
      content = read.content;
      trace = read.is;
      playable = subst IsPlayable (sym (out.heads from.trace from.taken) ∙ read.shows.head) out.playable;
      is = from.is bytes read.content read.is read.shows;
    }

-- a structure that was opened for a source is ready for the trace that is taken from it
pub ready_run : {S Op : Type 0} (meanings : S → Meaning Op) (home : Home S) (s : S) (start : Recovered) (pass : Pass S Op) (source : Source) (r : ReadTrace) →
    RunsSource (meanings s) start source → home.origin.structure.value ≡ s → home.origin.start.value ≡ start → BelongsTo meanings home pass →
    IsFirst (meanings s) home.origin pass → IsTakenFrom source r.trace → HasItsWorks r → IsReadyRun meanings home pass r
ready_run meanings home s start pass source r can is from belongs first taken are =
    let read = read_as source can.bytes r.trace can.of taken in
    let runs : RunsSeen (meaning_of meanings home) home.origin.start.value r.trace =
    subst (λ x. RunsSeen (meanings x) home.origin.start.value r.trace) (sym is)
    (subst (λ (x : Recovered). RunsSeen (meanings s) x r.trace) (sym from) (can.runs r.trace taken)) in
    record {
      starts = subst (λ (x : Recovered). StartsSeen r.trace x) (sym from) (can.starts r.trace taken);
      runs = runs;
      ready = record {
        belongs = belongs;
        first = subst (λ x. IsFirst (meanings x) home.origin pass) (sym is) first;
        can = (read.content, read.shows, runs can.bytes read.content read.is read.shows);
        are_works = are;
      };
    }

-- ---- the outset

module _ (bytes : List ℕ) (start : Recovered) where
  -- of a trace that was read
  pub read_outset : (r : ReadTrace) (head : Head) → head ≡ r.trace.head → IsReadAs bytes r.trace → HasItsWorks r → IsRightHead r.trace.head →
      IsPlayable r.trace.head → StartsSeen r.trace start → IsOutset (record { head = head; start = start; source = Read r })
  read_outset r head same read are right playable starts =
      let content : r.trace.head ≡ read.content.head = read.shows.head in
      record {
        bytes = bytes;
        of = (read, are);
        right = subst IsRightHead (sym same) right;
        playable = subst IsPlayable (sym same) playable;
        recovery = subst (λ (h : Head). IsRecovery h.layout start.image.words.items start.keys.items start.values.items start.free.items)
            (sym content ∙ sym same) (starts bytes read.content read.is read.shows).recovery;
        heads = λ taken is. ap (λ t. t.head) is ∙ sym same;
        starts = λ taken is. subst (λ t. StartsSeen t start) (sym is) starts;
      }

  -- of a text that is still to be read
  pub unread_outset : (text : Vec ℕ Global) (head : Head) → text.items ≡ bytes → IsRightHead head → IsPlayable head →
      IsRecovery head.layout start.image.words.items start.keys.items start.values.items start.free.items → IsHeadOf bytes head → StartsFresh head start →
      IsOutset (record { head = head; start = start; source = Unread text })
  unread_outset text head is right playable recovery heads starts =
      let seen = λ (trace : SeenTrace) (read : IsReadAs text.items trace).
      heads read.content (subst (λ (bs : List ℕ). IsTrace bs read.content) is read.is) in
      record {
        bytes = bytes;
        of = is;
        right = right;
        playable = playable;
        recovery = recovery;
        heads = λ trace read. read.shows.head ∙ (seen trace read).0;
        starts = λ trace read. starts trace (read.shows.head ∙ (seen trace read).0) (read.shows.start ∙ (seen trace read).1);
      }
