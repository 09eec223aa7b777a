-- The error of a line.
use Rattle.std.proofs.Common.{◌≡◌, ℕ, false, List, inr, subst}
use Rattle.flit_trace.specs.declared.faults.TraceError.{TraceError}
use Rattle.flit_trace.specs.declared.faults.TraceError.TheVariants.{BadLine, Limit, NoEnd, NoMemory}
use Rattle.flit_trace.specs.declared.sentences.Sentence.{Sentence}
use Rattle.flit_trace.specs.declared.drafts.Draft.{Draft}
use Rattle.flit_trace.specs.Sentences.{Says}
use Rattle.flit_trace.specs.Drafts.{IsBad, verdict, IsErrorFor}
use Rattle.flit_trace.specs.Grammar.{is_silent, IsOpen}
use Rattle.flit_trace.specs.Readings.{IsLineError}
use Rattle.flit_trace.proofs.SentenceTexts.{one_sentence}

pub verdict_error : (n : ℕ) (d : Draft) (line : List ℕ) (s : Sentence) (e : TraceError) → IsOpen d line → is_silent line ≡ false → Says line s →
    IsErrorFor n (verdict d s) e → IsLineError n d line e
verdict_error n d line s (BadLine m) may_stand speaks says error =
    (error.0, inr (inr (speaks, λ other also. subst (λ (t : Sentence). verdict d t ≡ IsBad) (one_sentence line s other says also) error.1)))
verdict_error n d line s (Limit m bound) may_stand speaks says error =
    (error.0, record { may_stand = may_stand; speaks = speaks; sentence = s; says = says; past = error.1 })
verdict_error n d line s (NoEnd m) may_stand speaks says error = error
verdict_error n d line s NoMemory may_stand speaks says error = tt
