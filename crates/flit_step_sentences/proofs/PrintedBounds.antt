-- The inserts among the settled updates are among those of the history.
use Rattle.std.proofs.Common.{◌≡◌, ℕ, ◌+◌, ◌≤◌, ◌<◌, ◌*◌, ◌&&◌, true, List, ◌++◌, count_by, arith}
use Rattle.std.specs.List.{AllByRecursion}
use Rattle.flit_words.specs.declared.layouts.Kind.{Kind}
use Rattle.flit_words.specs.declared.layouts.Kind.TheVariants.{List as List_kind, Hash, Tree}
use Rattle.flit_model.specs.Histories.{is_yes, is_update, is_read, history_of}
use Rattle.flit_model.specs.declared.calls.Entry.{Entry}
use Rattle.flit_model.specs.declared.calls.Placed.{Placed}
use Rattle.flit_model.proofs.Counting.{count_by-append}
use Rattle.flit_structure.specs.Lawful.{is_insert, rows_needed}
use Rattle.flit_histories.specs.Calls.{inserts_in}
use Rattle.flit_histories.proofs.InsertCounts.{inserts_counted}

pub inserts_told : (settled taken : List Entry) (reads : List Placed) → AllByRecursion (λ e. is_update e ≡ true) settled →
    AllByRecursion (λ r. is_read r.entry ≡ true) reads → count_by (λ e. is_insert e.call) settled ≤ inserts_in (history_of settled reads ++ taken)
inserts_told settled taken reads updates read = at_most (inserts_in (history_of settled reads ++ taken)) (inserts_in (history_of settled reads)) (inserts_in taken) _
    (count_by-append (λ e. is_insert e.call && is_yes e.reply) (history_of settled reads) taken) (inserts_counted settled reads updates read)
  where
    at_most : (whole front back few : ℕ) → whole ≡ front + back → front ≡ few → few ≤ whole
    at_most whole front back few a b = omega (arith, a, b)

pub more_rows : (k : Kind) (room few many workers : ℕ) → few ≤ many → room < rows_needed k * (few + workers) → room < rows_needed k * (many + workers)
more_rows List_kind room few many workers le h = omega (arith, le, h)
more_rows Hash room few many workers le h = omega (arith, le, h)
more_rows Tree room few many workers le h = omega (arith, le, h)
