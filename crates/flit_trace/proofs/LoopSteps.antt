-- The lines are read one after the other.
use Rattle.std.proofs.Common.{◌≡◌, ℕ, suc, false, true, List, [], ◌∷◌, inl, inr, refl}
use Rattle.flit_trace.specs.declared.faults.TraceError.{TraceError}
use Rattle.flit_trace.specs.declared.faults.TraceError.TheVariants.{BadLine, Limit, NoEnd, NoMemory}
use Rattle.flit_trace.specs.declared.drafts.Draft.{Draft}
use Rattle.flit_trace.specs.declared.index.Index.{Index}
use Rattle.flit_trace.specs.Contents.{Contents, nothing}
use Rattle.flit_trace.specs.Drafts.{blank, is_ended}
use Rattle.flit_trace.specs.Grammar.{Reading, beginning, IsReadFrom, IsFaultFrom}
use Rattle.flit_trace.specs.Index.{IsIndexOf}
use Rattle.flit_trace.specs.Readings.{LeadsTo, IsLineError, AreRead, AreFaulty}

-- the lines before line n were read; what the others are read to, and their first fault, are those of all lines
pub record IsReadSoFar (lines : List (List ℕ)) (d : Draft) (x : Index) (n : ℕ) (rest : List (List ℕ)) : Type 0 where
  pub told : Contents
  pub keeps : IsIndexOf x told
  pub reads : (q : Reading) → IsReadFrom n (record { draft = d; told = told }) rest q → IsReadFrom 1 beginning lines q
  pub faults : (e : TraceError) → IsFaultFrom n (record { draft = d; told = told }) rest e → IsFaultFrom 1 beginning lines e

pub at_first : (lines : List (List ℕ)) (d : Draft) (x : Index) → d ≡ blank → IsIndexOf x nothing → IsReadSoFar lines d x 1 lines
at_first lines d x is keeps = record {
  told = nothing;
  keeps = keeps;
  reads = λ q read. rw is at read;
  faults = λ e fault. rw is at fault;
}

pub one_more : (lines rest more : List (List ℕ)) (d e : Draft) (x y : Index) (n m : ℕ) (line : List ℕ) → m ≡ suc n → rest ≡ line ∷ more →
    ((t : Contents) → LeadsTo n d x t line e y) → IsReadSoFar lines d x n rest → IsReadSoFar lines e y m more
one_more lines rest more d e x y n m line next begins leads so_far =
    let step = leads so_far.told so_far.keeps in
    let here : Reading = record { draft = e; told = step.0 } in
    record {
      told = step.0;
      keeps = step.1;
      reads = λ q read. so_far.reads q (rw begins (here, step.2, rw next at read));
      faults = λ f fault. so_far.faults f (rw begins (inr (here, step.2, rw next at fault)));
    }

pub line_fault : (lines rest more : List (List ℕ)) (d : Draft) (x : Index) (n : ℕ) (line : List ℕ) (e : TraceError) → rest ≡ line ∷ more →
    IsReadSoFar lines d x n rest → IsLineError n d line e → AreFaulty lines e
line_fault lines rest more d x n line (BadLine m) begins so_far error = so_far.faults (BadLine m) (rw begins (inl error))
line_fault lines rest more d x n line (Limit m bound) begins so_far error = so_far.faults (Limit m bound) (rw begins (inl error))
line_fault lines rest more d x n line (NoEnd m) begins so_far error = absurd error
line_fault lines rest more d x n line NoMemory begins so_far error = tt

pub no_end : (lines rest : List (List ℕ)) (d : Draft) (x : Index) (n : ℕ) → rest ≡ [] → is_ended d.stage ≡ false → IsReadSoFar lines d x n rest →
    IsFaultFrom 1 beginning lines (NoEnd n)
no_end lines rest d x n none open_yet so_far = so_far.faults (NoEnd n) (rw none (open_yet, refl))

pub all_read : (lines rest : List (List ℕ)) (d : Draft) (x : Index) (n : ℕ) → rest ≡ [] → is_ended d.stage ≡ true → IsReadSoFar lines d x n rest →
    AreRead lines d x
all_read lines rest d x n none ended so_far = record {
  told = so_far.told;
  keeps = so_far.keeps;
  read = so_far.reads (record { draft = d; told = so_far.told }) (rw none refl);
  ended = ended;
}

pub trimmed : (lines : List (List ℕ)) (d : Draft) (x y : Index) → ((t : Contents) → IsIndexOf x t → IsIndexOf y t) → AreRead lines d x → AreRead lines d y
trimmed lines d x y same r = record { told = r.told; keeps = same r.told r.keeps; read = r.read; ended = r.ended }
