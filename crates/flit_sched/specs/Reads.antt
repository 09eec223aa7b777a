-- The position of a completed read: the least number of updates, not below the number settled at its first event,
-- behind which its reply is right.
use Rattle.std.specs.Prelude.{◌≡◌, ℕ, ◌<◌, ◌≤◌, Bool, true, false, List, [], ◌∷◌, take}
use Rattle.flit_model.specs.Maps.{Map, reply_of, map_after_all}
use Rattle.flit_model.specs.Histories.{is_read_by, IsRightAt}
use Rattle.flit_model.specs.declared.calls.Call.{Call}
use Rattle.flit_model.specs.declared.calls.Reply.{Reply}
use Rattle.flit_model.specs.declared.calls.Entry.{Entry}
use Rattle.flit_model.specs.declared.calls.Placed.{Placed}

-- the reply is right behind so many updates
abbrev pub IsReplyBehind : Map → List Entry → Call → Reply → ℕ → Type 0
IsReplyBehind before updates call reply n = reply ≡ reply_of (map_after_all before (take n updates)) call

-- a read stands at the least position, from `first` on, at which its reply is right
pub record IsLeastPlace (before : Map) (updates : List Entry) (first : ℕ) (r : Placed) : Type 0 where
  pub from : first ≤ r.position
  pub right : IsRightAt before updates r
  pub least : (n : ℕ) → first ≤ n → n < r.position → ¬ (IsReplyBehind before updates r.entry.call r.entry.reply n)

-- the reads that a call with its reply adds: itself at its place where it is a completed read, else none
abbrev pub AreReadsIf : Bool → Map → List Entry → ℕ → Entry → List Placed → Type 0
AreReadsIf true before updates first e reads = (position : ℕ)
    × (let r : Placed = record { position = position; entry = e } in (reads ≡ r ∷ []) × IsLeastPlace before updates first r)
AreReadsIf false before updates first e reads = reads ≡ []

abbrev pub AreReadsOf : Map → List Entry → ℕ → Entry → List Placed → Type 0
AreReadsOf before updates first e reads = AreReadsIf (is_read_by e.call e.reply) before updates first e reads
