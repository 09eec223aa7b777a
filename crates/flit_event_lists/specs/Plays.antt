-- A machine that is played from its start to its end, by the events and answers of a list.
use Rattle.std.specs.Prelude.{◌≡◌, ℕ, List, None}
use Rattle.flit_place.specs.Tags.{Place}
use Rattle.flit_pv.specs.declared.hands.Hand.{Hand}
use Rattle.flit_pv.specs.Loads.{HeldLoad}
use Rattle.flit_pv.specs.VLoads.{HeldVLoad}
use Rattle.flit_pv.specs.Confirms.{HeldConfirm}
use Rattle.flit_pv.specs.Exchanges.{HeldExchange}
use Rattle.flit_pv.specs.declared.exchanges.Exchanged.{Exchanged}
use Rattle.flit_pv.specs.VExchanges.{HeldVExchange}
use Rattle.flit_pv.specs.Stores.{HeldStore}
use Rattle.flit_pv.specs.declared.stores.Stored.{Stored}
use Rattle.flit_pv.specs.Fences.{HeldFence}
use Rattle.flit_pv.specs.Fences.{HeldComplete}
use Rattle.flit_pv.specs.declared.evicts.Evict.{Evict}
use Rattle.flit_pv.specs.Loads.{load_started, load_asked, load_taken, HasLoaded}
use Rattle.flit_pv.specs.VLoads.{v_load_started, v_load_asked, v_load_taken, HasVLoaded}
use Rattle.flit_pv.specs.Confirms.{confirm_started, confirm_asked, confirm_taken, confirm_left}
use Rattle.flit_pv.specs.Exchanges.{exchange_started, exchange_asked, exchange_taken, HasEnded}
use Rattle.flit_pv.specs.VExchanges.{v_exchange_started, v_exchange_asked, v_exchange_taken, HasVEnded}
use Rattle.flit_pv.specs.Stores.{store_started, store_asked, store_taken, HasStored}
use Rattle.flit_pv.specs.Fences.{fence_started, fence_asked, fence_taken, complete_started, complete_asked, complete_taken}
use Rattle.flit_pv.specs.Evicts.{evict_started, evict_asked, evict_taken}
use Rattle.flit_pv.specs.Played.{AnsweredEvent, Played}

-- from its start with this hand the machine has come, by the events of the list, to be m
abbrev pub LoadComes : Place → Hand → ℕ → List AnsweredEvent → HeldLoad → Type 0
LoadComes p hand word list m = Played load_asked (load_taken p) (load_started hand word) list m

abbrev pub VLoadComes : Hand → ℕ → List AnsweredEvent → HeldVLoad → Type 0
VLoadComes hand word list m = Played v_load_asked v_load_taken (v_load_started hand word) list m

abbrev pub ConfirmComes : Place → Hand → ℕ → ℕ → List AnsweredEvent → HeldConfirm → Type 0
ConfirmComes p hand word raw list m = Played (confirm_asked p) (confirm_taken p) (confirm_started hand word raw) list m

abbrev pub ExchangeComes : Place → Hand → ℕ → ℕ → ℕ → ℕ → List AnsweredEvent → HeldExchange → Type 0
ExchangeComes p hand word old value limit list m = Played (exchange_asked p) (exchange_taken p) (exchange_started hand word old value limit) list m

abbrev pub VExchangeComes : Hand → ℕ → ℕ → ℕ → ℕ → List AnsweredEvent → HeldVExchange → Type 0
VExchangeComes hand word old value limit list m = Played v_exchange_asked v_exchange_taken (v_exchange_started hand word old value limit) list m

abbrev pub StoreComes : Hand → ℕ → List ℕ → ℕ → List AnsweredEvent → HeldStore → Type 0
StoreComes hand first values limit list m = Played store_asked store_taken (store_started hand first values limit) list m

abbrev pub FenceComes : Hand → List AnsweredEvent → HeldFence → Type 0
FenceComes hand list m = Played fence_asked fence_taken (fence_started hand) list m

abbrev pub CompleteComes : Hand → List AnsweredEvent → HeldComplete → Type 0
CompleteComes hand list m = Played complete_asked complete_taken (complete_started hand) list m

abbrev pub EvictComes : Hand → ℕ → List AnsweredEvent → Evict → Type 0
EvictComes hand word list m = Played evict_asked evict_taken (evict_started hand word) list m

-- it asks for no event more, and leaves this hand
abbrev pub HasConfirmedOver : Place → HeldConfirm → Hand → Type 0
HasConfirmedOver p m after = (confirm_asked p m ≡ None) × (confirm_left m ≡ after)

abbrev pub HasFenced : HeldFence → Hand → Type 0
HasFenced m after = (fence_asked m ≡ None) × (m.hand ≡ after)

abbrev pub HasCompleted : HeldComplete → Hand → Type 0
HasCompleted m after = (complete_asked m ≡ None) × (m.fence.hand ≡ after)

abbrev pub HasEvicted : Evict → Hand → Type 0
HasEvicted m after = (evict_asked m ≡ None) × (m.hand ≡ after)

-- by the events of the list it comes to its end, with this hand and result
abbrev pub LoadEnds : Place → Hand → ℕ → List AnsweredEvent → Hand → ℕ → Type 0
LoadEnds p hand word list after raw = (m : HeldLoad) × LoadComes p hand word list m × HasLoaded m after raw

abbrev pub VLoadEnds : Hand → ℕ → List AnsweredEvent → Hand → ℕ → Type 0
VLoadEnds hand word list after raw = (m : HeldVLoad) × VLoadComes hand word list m × HasVLoaded m after raw

abbrev pub ConfirmEnds : Place → Hand → ℕ → ℕ → List AnsweredEvent → Hand → Type 0
ConfirmEnds p hand word raw list after = (m : HeldConfirm) × ConfirmComes p hand word raw list m × HasConfirmedOver p m after

abbrev pub ExchangeEnds : Place → Hand → ℕ → ℕ → ℕ → ℕ → List AnsweredEvent → Hand → Exchanged → Type 0
ExchangeEnds p hand word old value limit list after how = (m : HeldExchange) × ExchangeComes p hand word old value limit list m × HasEnded m after how

abbrev pub VExchangeEnds : Hand → ℕ → ℕ → ℕ → ℕ → List AnsweredEvent → Hand → Exchanged → Type 0
VExchangeEnds hand word old value limit list after how = (m : HeldVExchange) × VExchangeComes hand word old value limit list m × HasVEnded m after how

abbrev pub StoreEnds : Hand → ℕ → List ℕ → ℕ → List AnsweredEvent → Hand → Stored → Type 0
StoreEnds hand first values limit list after how = (m : HeldStore) × StoreComes hand first values limit list m × HasStored m after how

abbrev pub FenceEnds : Hand → List AnsweredEvent → Hand → Type 0
FenceEnds hand list after = (m : HeldFence) × FenceComes hand list m × HasFenced m after

abbrev pub CompleteEnds : Hand → List AnsweredEvent → Hand → Type 0
CompleteEnds hand list after = (m : HeldComplete) × CompleteComes hand list m × HasCompleted m after

abbrev pub EvictEnds : Hand → ℕ → List AnsweredEvent → Hand → Type 0
EvictEnds hand word list after = (m : Evict) × EvictComes hand word list m × HasEvicted m after
