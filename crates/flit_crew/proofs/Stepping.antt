-- What one event of a machine leaves: the hand's name, number, rows and ticket; the words that it goes for; and how far
-- the machine is, as a structure looks at it.
use Rattle.std.proofs.Common.{◌≡◌, ℕ, ◌==◌, ◌&&◌, Bool, true, false, List, [], ◌∷◌, Option, Some, None, refl, ◌∙◌, ap, subst, if◌then◌else◌}
use Rattle.flit_words.specs.Words.{is_tagged, bare_of}
use Rattle.flit_place.specs.Tags.{Place, shown}
use Rattle.flit_pv.specs.declared.hands.Hand.{Hand}
use Rattle.flit_pv.specs.declared.queues.Noted.{Noted}
use Rattle.flit_pv.specs.Loads.{HeldLoad}
use Rattle.flit_pv.specs.declared.loads.Loading.{Loading}
use Rattle.flit_pv.specs.declared.loads.Loading.TheVariants.{Reads as Load_reads, Asks, MakesRoom as Load_makes_room, Has}
use Rattle.flit_pv.specs.Confirms.{HeldConfirm}
use Rattle.flit_pv.specs.declared.confirms.Confirming.{Confirming}
use Rattle.flit_pv.specs.declared.confirms.Confirming.TheVariants.{Begins, MakesRoom as Confirm_makes_room, Done}
use Rattle.flit_pv.specs.Exchanges.{HeldExchange}
use Rattle.flit_pv.specs.declared.exchanges.Exchanging.{Exchanging}
use Rattle.flit_pv.specs.declared.exchanges.Exchanging.TheVariants.{Ready, Tries, TriesBare, WritesBack, Withdraws, Lowers, Ended}
use Rattle.flit_pv.specs.declared.exchanges.Exchanged.TheVariants.{Won as Exchange_won}
use Rattle.flit_pv.specs.Queues.{is_full}
use Rattle.flit_pv.specs.Hands.{with_persist, fenced_one}
use Rattle.flit_pv.specs.Loads.{load_room, load_notes, load_judges, load_reads, load_takes, load_queues, load_omits}
use Rattle.flit_pv.specs.Confirms.{confirm_room, confirm_notes, confirm_begun, confirm_takes, confirm_queues, confirm_omits}
use Rattle.flit_pv.specs.Exchanges.{exchange_takes, ready_takes, tries_again, exchange_loses, exchange_at}
use Rattle.flit_runs.specs.Workings.{load_goes_for}
use Rattle.flit_crew.specs.Machines.{HasRead, load_part}

pub record IsOn (was now : Hand) : Type 0 where
  pub name : now.name ≡ was.name
  pub number : now.number ≡ was.number
  pub spare : now.spare ≡ was.spare
  pub ticket : now.ticket ≡ was.ticket

abbrev on : (h : Hand) → IsOn h h
on h = record { name = refl; number = refl; spare = refl; ticket = refl }

pub fenced_on : (h : Hand) (queue : List Noted) → IsOn h (fenced_one h queue)
fenced_on h [] = on h
fenced_on h (n ∷ ns) = record { name = refl; number = refl; spare = refl; ticket = refl }

-- ---- a PLoad

pub record LoadOn (was now : HeldLoad) : Type 0 where
  pub hand : IsOn was.hand now.hand
  pub word : now.word ≡ was.word
  pub goes : load_goes_for now.at now.word ≡ []

pub record LoadHas (was now : HeldLoad) (raw : ℕ) : Type 0 where
  pub further : LoadOn was now
  pub part : load_part now.at now.word ≡ HasRead was.word raw

load_roomed : (m : HeldLoad) (raw : ℕ) (queue : List Noted) → LoadHas m (load_room m raw queue) raw
load_roomed m raw [] = record {
  further = record { hand = record { name = refl; number = refl; spare = refl; ticket = refl }; word = refl; goes = refl };
  part =
      refl;
}
load_roomed m raw (n ∷ ns) = record {
  further = record { hand = record { name = refl; number = refl; spare = refl; ticket = refl }; word = refl; goes = refl };
  part = refl;
}

load_noted : (m : HeldLoad) (raw : ℕ) (t : Bool) → LoadHas m (if t then load_room m raw m.hand.queue else load_queues m raw) raw
load_noted m raw true = load_roomed m raw m.hand.queue
load_noted m raw false = record {
  further = record { hand = record { name = refl; number = refl; spare = refl; ticket = refl }; word = refl; goes = refl };
  part = refl;
}

load_judged : (m : HeldLoad) (raw : ℕ) (t : Bool) → LoadHas m (if t then load_notes m raw else load_omits m raw) raw
load_judged m raw true = load_noted m raw (is_full m.hand.queue)
load_judged m raw false = record {
  further = record { hand = record { name = refl; number = refl; spare = refl; ticket = refl }; word = refl; goes = refl };
  part = refl;
}

load_read : (p : Place) (m : HeldLoad) (told : ℕ) (slot : Option ℕ) → LoadHas m (load_reads p m told slot) told
load_read p m told None = load_judged m told (shown p.counted told None)
load_read p m told (Some slot) = record { further = record { hand = on m.hand; word = refl; goes = refl }; part = refl }

-- by its Load it has read the answer; behind that, what it has read stays
pub load_first : (p : Place) (m : HeldLoad) (told : ℕ) → LoadHas m (load_takes p Load_reads m told) told
load_first p m told = load_read p m told (p.slot m.word)

pub load_behind : (p : Place) (m : HeldLoad) (at : Loading) (raw told : ℕ) → load_part at m.word ≡ HasRead m.word raw → m.at ≡ at →
    LoadHas m (load_takes p at m told) raw
load_behind p m Load_reads raw told e is = absurd (cc)
load_behind p m (Asks x slot) raw told e is = subst (λ y. LoadHas m (load_judges p m x (Some told)) y) (same_raw x raw m.word e)
    (load_judged m x (shown p.counted x (Some told)))
  where
    same_raw : (x y w : ℕ) → HasRead w x ≡ HasRead w y → x ≡ y
    same_raw x y w e = cc
load_behind p m (Load_makes_room x first) raw told e is =
    let h = load_roomed (record m { hand = with_persist m.hand }) x m.hand.queue in
    subst (λ y. LoadHas m (load_takes p (Load_makes_room x first) m told) y) (same_raw x raw m.word e)
    (record {
      further = record {
        hand = record {
          name = h.further.hand.name;
          number = h.further.hand.number;
          spare = h.further.hand.spare;
          ticket =
              h.further.hand.ticket;
        };
        word = h.further.word;
        goes = h.further.goes;
      };
      part = h.part;
    })
  where
    same_raw : (x y w : ℕ) → HasRead w x ≡ HasRead w y → x ≡ y
    same_raw x y w e = cc
load_behind p m (Has x) raw told e is = record {
  further = record { hand = on m.hand; word = refl; goes = ap (λ a. load_goes_for a m.word) is };
  part =
      ap (λ a. load_part a m.word) is ∙ e;
}

-- ---- a Confirm

confirm_roomed : (m : HeldConfirm) (queue : List Noted) → IsOn m.hand (confirm_room m queue).hand
confirm_roomed m [] = record { name = refl; number = refl; spare = refl; ticket = refl }
confirm_roomed m (n ∷ ns) = record { name = refl; number = refl; spare = refl; ticket = refl }

confirm_noted : (m : HeldConfirm) (t : Bool) → IsOn m.hand (if t then confirm_room m m.hand.queue else confirm_queues m).hand
confirm_noted m true = confirm_roomed m m.hand.queue
confirm_noted m false = record { name = refl; number = refl; spare = refl; ticket = refl }

confirm_judged : (m : HeldConfirm) (t : Bool) → IsOn m.hand (if t then confirm_notes m else confirm_omits m).hand
confirm_judged m true = confirm_noted m (is_full m.hand.queue)
confirm_judged m false = record { name = refl; number = refl; spare = refl; ticket = refl }

on_on : (x y z : Hand) → IsOn x y → IsOn y z → IsOn x z
on_on x y z f g = record { name = g.name ∙ f.name; number = g.number ∙ f.number; spare = g.spare ∙ f.spare; ticket = g.ticket ∙ f.ticket }

confirm_first : (p : Place) (m : HeldConfirm) (told : ℕ) (slot : Option ℕ) → IsOn m.hand (confirm_begun p m told slot).hand
confirm_first p m told None =
    let h : Hand = fenced_one m.hand m.hand.queue in
    on_on m.hand h (confirm_room (record m { hand = h }) h.queue).hand (fenced_on m.hand m.hand.queue) (confirm_roomed (record m { hand = h }) h.queue)
confirm_first p m told (Some slot) = confirm_judged m (shown p.counted m.raw (Some told))

pub confirm_on : (p : Place) (m : HeldConfirm) (at : Confirming) (told : ℕ) → IsOn m.hand (confirm_takes p at m told).hand
confirm_on p m Begins told = confirm_first p m told (p.slot m.word)
confirm_on p m (Confirm_makes_room first) told = let h = confirm_roomed (record m { hand = with_persist m.hand }) m.hand.queue in
    record { name = h.name; number = h.number; spare = h.spare; ticket = h.ticket }
confirm_on p m Done told = on m.hand

-- ---- a PExchange

pub record ExchangeOn (was now : HeldExchange) : Type 0 where
  pub hand : IsOn was.hand now.hand
  pub word : now.word ≡ was.word
  pub from : now.from ≡ was.from
  pub to : now.to ≡ was.to

pub at_on : (m : HeldExchange) (at : Exchanging) → ExchangeOn m (exchange_at m at)
at_on m at = record { hand = on m.hand; word = refl; from = refl; to = refl }

loses_on : (m : HeldExchange) (found : ℕ) → ExchangeOn m (exchange_loses m found)
loses_on m found = record { hand = record { name = refl; number = refl; spare = refl; ticket = refl }; word = refl; from = refl; to = refl }

again_on : (m : HeldExchange) (found : ℕ) (t : Bool) → ExchangeOn m (if t then exchange_at m TriesBare else exchange_loses m found)
again_on m found true = at_on m TriesBare
again_on m found false = loses_on m found

tried_on : (m : HeldExchange) (found : ℕ) (t : Bool) → ExchangeOn m (if t then exchange_at m WritesBack else tries_again m found)
tried_on m found true = at_on m WritesBack
tried_on m found false = again_on m found (is_tagged m.from && found == bare_of m.from)

bare_on : (m : HeldExchange) (found : ℕ) (t : Bool) → ExchangeOn m (if t then exchange_at m WritesBack else exchange_loses m found)
bare_on m found true = at_on m WritesBack
bare_on m found false = loses_on m found

ready_on : (m : HeldExchange) (told : ℕ) (queue : List Noted) (slot : Option ℕ) → ExchangeOn m (ready_takes m told queue slot)
ready_on m told (n ∷ ns) slot = record { hand = record { name = refl; number = refl; spare = refl; ticket = refl }; word = refl; from = refl; to = refl }
ready_on m told [] (Some slot) = at_on m (Tries slot)
ready_on m told [] None = tried_on m told (told == m.from)

pub exchange_on : (p : Place) (m : HeldExchange) (at : Exchanging) (told : ℕ) → ExchangeOn m (exchange_takes p at m told)
exchange_on p m Ready told = ready_on m told m.hand.queue (p.slot m.word)
exchange_on p m (Tries slot) told = at_on m (if told == m.from then WritesBack else Lowers slot told)
exchange_on p m TriesBare told = bare_on m told (told == bare_of m.from)
exchange_on p m WritesBack told = record { hand = record { name = refl; number = refl; spare = refl; ticket = refl }; word = refl; from = refl; to = refl }
exchange_on p m Withdraws told = at_on m (Ended Exchange_won)
exchange_on p m (Lowers slot found) told = loses_on m found
exchange_on p m (Ended how) told = record { hand = on m.hand; word = refl; from = refl; to = refl }
