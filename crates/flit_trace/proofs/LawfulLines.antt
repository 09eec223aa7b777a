-- The laws of the call, evict and turn lines.
use Rattle.std.proofs.Common.{◌≡◌, ℕ, suc, ◌≤◌, ◌==◌, Bool, true, false, cond, List, [], ◌∷◌, map, filter, length, Contains, inl, inr, refl, sym, ap, ◌∙◌, subst, lit≤, arith}
use Rattle.std.specs.List.{AllByRecursion}
use Rattle.std.proofs.lemmas.Bool.{eqb-true, eq-eqb}
use Rattle.flit_words.specs.Texts.{lines_of}
use Rattle.flit_words.specs.Layouts.{Accepted}
use Rattle.flit_model.specs.Lists.{IsRisingFrom}
use Rattle.flit_model.specs.declared.calls.Item.{Item}
use Rattle.flit_model.proofs.Membership.{contains-filter, contains_filtered, contains-map, contains_mapped}
use Rattle.flit_model.proofs.Rising.{rising-lower}
use Rattle.flit_trace.specs.Contents.{ItemLine, Content, script_of}
use Rattle.flit_trace.specs.Drafts.{IsPlace}
use Rattle.flit_trace.specs.Grammar.{Reading, beginning, IsLine, IsReadFrom, IsTrace}
use Rattle.flit_trace.specs.Rights.{IsRightLine, IsRightTurn, lines_of_items, lines_of_script}
use Rattle.flit_trace.proofs.GoodReadings.{IsGood, line_good, beginning_good, read_good}
use Rattle.flit_trace.proofs.RightLines.{AreRightSoFar, AreTurnsSoFar, goes-right, goes-turns, AreBefore, none_more, told-before}
use Rattle.flit_trace.proofs.Places.{head_accepted}

line_right : (n : ℕ) (r : Reading) (line : List ℕ) (q : Reading) → IsLine n r line q → IsGood r → AreRightSoFar r.draft r.told.items →
    AreRightSoFar q.draft q.told.items
line_right n r line q step g a =
    elim step.1 [
      | inl silent ↦ subst (λ (x : Reading). AreRightSoFar x.draft x.told.items) (sym silent.1) a
      | inr says ↦ rw says.told (goes-right n r.draft q.draft says.sentence r.told g.sound a says.goes)
    ]

read_right : (n : ℕ) (r : Reading) (lines : List (List ℕ)) (q : Reading) → IsReadFrom n r lines q → IsGood r → AreRightSoFar r.draft r.told.items →
    AreRightSoFar q.draft q.told.items
read_right n r [] q read g a = subst (λ (x : Reading). AreRightSoFar x.draft x.told.items) (sym read) a
read_right n r (line ∷ lines) q read g a =
    read_right (suc n) read.0 lines q read.2 (line_good n r line read.0 read.1 g) (line_right n r line read.0 read.1 g a)

line_turns : (n : ℕ) (r : Reading) (line : List ℕ) (q : Reading) → IsLine n r line q → IsGood r → AreTurnsSoFar r.draft r.told.turns →
    AreTurnsSoFar q.draft q.told.turns
line_turns n r line q step g a =
    elim step.1 [
      | inl silent ↦ subst (λ (x : Reading). AreTurnsSoFar x.draft x.told.turns) (sym silent.1) a
      | inr says ↦ rw says.told (goes-turns n r.draft q.draft says.sentence r.told g.sound a says.goes)
    ]

read_turns : (n : ℕ) (r : Reading) (lines : List (List ℕ)) (q : Reading) → IsReadFrom n r lines q → IsGood r → AreTurnsSoFar r.draft r.told.turns →
    AreTurnsSoFar q.draft q.told.turns
read_turns n r [] q read g a = subst (λ (x : Reading). AreTurnsSoFar x.draft x.told.turns) (sym read) a
read_turns n r (line ∷ lines) q read g a =
    read_turns (suc n) read.0 lines q read.2 (line_good n r line read.0 read.1 g) (line_turns n r line read.0 read.1 g a)

line_before : (n : ℕ) (r : Reading) (line : List ℕ) (q : Reading) → IsLine n r line q → AreBefore n r.told.items → AreBefore (suc n) q.told.items
line_before n r line q step b =
    elim step.1 [
      | inl silent ↦ subst (λ (x : Reading). AreBefore (suc n) x.told.items) (sym silent.1) (none_more n r.told.items b)
      | inr says ↦ rw says.told (told-before r.draft.layout n says.sentence r.told b)
    ]

read_rising : (n : ℕ) (r : Reading) (lines : List (List ℕ)) (q : Reading) → IsReadFrom n r lines q → AreBefore n r.told.items →
    IsRisingFrom 1 (lines_of_items q.told.items)
read_rising n r [] q read b = subst (λ (x : Reading). IsRisingFrom 1 (lines_of_items x.told.items)) (sym read) b.rise
read_rising n r (line ∷ lines) q read b = read_rising (suc n) read.0 lines q read.2 (line_before n r line read.0 read.1 b)

good : (bytes : List ℕ) (c : Content) → (t : IsTrace bytes c) → IsGood t.last
good bytes c t = read_good 1 beginning (lines_of bytes) t.last t.read beginning_good

pub accepted : (bytes : List ℕ) (c : Content) → IsTrace bytes c → Accepted c.head.layout
accepted bytes c t = let g = good bytes c t in rw t.is (head_accepted t.last.draft g.sound)

pub placed : (bytes : List ℕ) (c : Content) → IsTrace bytes c → IsPlace c.head.place
placed bytes c t = let g = good bytes c t in rw t.is g.sound.place

pub few : (bytes : List ℕ) (c : Content) → IsTrace bytes c → length c.items ≤ 1048576
few bytes c t = let g = good bytes c t in rw t.is (omega (arith, g.counted.lines, g.sound.lines))

pub right : (bytes : List ℕ) (c : Content) → IsTrace bytes c → AllByRecursion (IsRightLine c.head.layout) c.items
right bytes c t =
    let a = read_right 1 beginning (lines_of bytes) t.last t.read beginning_good (record { none = λ _. refl; right = tt }) in
    rw t.is a.right

pub turns : (bytes : List ℕ) (c : Content) → IsTrace bytes c → AllByRecursion (IsRightTurn c.head.layout) c.turns
turns bytes c t =
    let a = read_turns 1 beginning (lines_of bytes) t.last t.read beginning_good (record { none = λ _. refl; right = tt }) in
    rw t.is a.right

pub rising : (bytes : List ℕ) (c : Content) → IsTrace bytes c → IsRisingFrom 1 (lines_of_items c.items)
rising bytes c t = rw t.is (read_rising 1 beginning (lines_of bytes) t.last t.read (record { some = lit≤ tt; rise = tt; below = tt }))

rising-filtered : (worker low : ℕ) (items : List ItemLine) → IsRisingFrom low (lines_of_items items) →
    IsRisingFrom low (lines_of_script (script_of items worker))
rising-filtered worker low [] rise = tt
rising-filtered worker low (i ∷ items) rise = kept (i.worker == worker) i low items worker rise (rising-filtered worker (suc i.line) items rise.1)
  where
    kept : (b : Bool) (i : ItemLine) (low : ℕ) (items : List ItemLine) (worker : ℕ) → IsRisingFrom low (lines_of_items (i ∷ items)) →
        IsRisingFrom (suc i.line) (lines_of_script (script_of items worker)) →
        IsRisingFrom low (lines_of_script (map (λ i. (i.line, i.item)) (cond b (i ∷ filter (λ i. i.worker == worker) items)
        (filter (λ i. i.worker == worker) items))))
    kept true i low items worker rise more = (rise.0, more)
    kept false i low items worker rise more = rising-lower (suc i.line) low _ (let few = rise.0 in omega arith) more

pub scripts_rising : (bytes : List ℕ) (c : Content) (worker : ℕ) → IsTrace bytes c → IsRisingFrom 1 (lines_of_script (script_of c.items worker))
scripts_rising bytes c worker t = rising-filtered worker 1 c.items (rising bytes c t)

-- a line stands in the script of its worker, and in no other
same_line : (x : ItemLine) (worker line : ℕ) (i : Item) → x.worker ≡ worker → x.line ≡ line → x.item ≡ i → x ≡ record { line = line; worker = worker; item = i }
same_line x worker line i workers lines items =
    let make : ℕ → ℕ → Item → ItemLine = λ l w j. record { line = l; worker = w; item = j } in
    ap (λ (l : ℕ). make l x.worker x.item) lines ∙ ap (λ (w : ℕ). make line w x.item) workers ∙ ap (make line worker) items

pub in_script : (items : List ItemLine) (worker line : ℕ) (i : Item) → Contains items (record { line = line; worker = worker; item = i }) →
    Contains (script_of items worker) (line, i)
in_script items worker line i has =
    let it : ItemLine = record { line = line; worker = worker; item = i } in
    contains-map (λ (x : ItemLine). (x.line, x.item)) (filter (λ x. x.worker == worker) items) it
    (contains-filter (λ (x : ItemLine). x.worker == worker) items it has (eq-eqb worker worker refl))

pub from_script : (items : List ItemLine) (worker line : ℕ) (i : Item) → Contains (script_of items worker) (line, i) →
    Contains items (record { line = line; worker = worker; item = i })
from_script items worker line i has =
    let m = contains_mapped (λ (x : ItemLine). (x.line, x.item)) (filter (λ x. x.worker == worker) items) (line, i) has in
    let f = contains_filtered (λ (x : ItemLine). x.worker == worker) items m.0 m.1 in
    subst (Contains items) (same_line m.0 worker line i (eqb-true m.0.worker worker f.1) (ap (λ (p : ℕ × Item). p.0) m.2) (ap (λ (p : ℕ × Item). p.1) m.2)) f.0
