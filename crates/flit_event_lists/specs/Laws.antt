-- What holds of the events of each machine, from its start to its end.
use Rattle.std.specs.Prelude.{◌≡◌, ◌↔◌, ℕ, ◌+◌, ◌*◌, ◌<◌, ◌≤◌, List, [], length, IsSome}
use Rattle.flit_words.specs.declared.limits.TheConstants.{MOST_QUEUED}
use Rattle.flit_words.specs.Words.{version_of, bare_of}
use Rattle.flit_place.specs.Tags.{Place, IsPlacement, shown}
use Rattle.flit_pv.specs.declared.hands.Hand.{Hand}
use Rattle.flit_pv.specs.declared.exchanges.Exchanged.{Exchanged}
use Rattle.flit_pv.specs.declared.exchanges.Exchanged.TheVariants.{Lost, Worn}
use Rattle.flit_pv.specs.declared.stores.Stored.{Stored}
use Rattle.flit_pv.specs.declared.stores.Stored.TheVariants.{Stored as All_stored, Worn as Worn_store}
use Rattle.flit_pv.specs.declared.evicts.Evict.{Evict}
use Rattle.flit_pv.specs.Queues.{noted}
use Rattle.flit_pv.specs.Loads.{HeldLoad, load_asked}
use Rattle.flit_pv.specs.VLoads.{HeldVLoad, v_load_asked}
use Rattle.flit_pv.specs.Confirms.{HeldConfirm, confirm_asked}
use Rattle.flit_pv.specs.Exchanges.{HeldExchange, exchange_asked}
use Rattle.flit_pv.specs.VExchanges.{HeldVExchange, v_exchange_asked}
use Rattle.flit_pv.specs.Stores.{HeldStore, store_asked}
use Rattle.flit_pv.specs.Fences.{HeldFence, HeldComplete, fence_asked, complete_asked}
use Rattle.flit_pv.specs.Evicts.{evict_asked}
use Rattle.flit_pv.specs.Played.{AnsweredEvent}
use Rattle.flit_event_lists.specs.EventLists.{counted, IsFenceList, IsCompleteList, IsEvictList}
use Rattle.flit_event_lists.specs.LoadLists.{IsLoadList, IsVLoadList, IsConfirmList}
use Rattle.flit_event_lists.specs.ExchangeLists.{IsExchangeList, IsVExchangeList}
use Rattle.flit_event_lists.specs.StoreLists.{IsStoreList}
use Rattle.flit_event_lists.specs.Plays.{LoadComes, VLoadComes, ConfirmComes, ExchangeComes, VExchangeComes, StoreComes, FenceComes, CompleteComes, EvictComes}
use Rattle.flit_event_lists.specs.Plays.{LoadEnds, VLoadEnds, ConfirmEnds, ExchangeEnds, VExchangeEnds, StoreEnds, FenceEnds, CompleteEnds, EvictEnds}
use Rattle.flit_event_lists.specs.ListFacts.{AllLeaveWords, NoneWrites, QueuesJustWhere, count_told, AllLoadsBelow, AddsUp}

-- The events of a PLoad from its start to its end are those of its list: the Load, the ReadTag of the word's slot
-- where it has one, and where a tag shows what queuing takes. Before its end its tally counts the write-backs so far.
pub record LoadEvents : Type 0 where
  pub whole : (p : Place) (hand : Hand) (word : ℕ) (list : List AnsweredEvent) (after : Hand) (raw : ℕ) →
      LoadEnds p hand word list after raw ↔ IsLoadList p hand word list after raw
  pub so_far : (p : Place) (hand : Hand) (word : ℕ) (list : List AnsweredEvent) (m : HeldLoad) → LoadComes p hand word list m →
      IsSome (load_asked m) → m.hand.tally ≡ counted hand.tally list

-- The one event of a VLoad is the Load.
pub record VLoadEvents : Type 0 where
  pub whole : (hand : Hand) (word : ℕ) (list : List AnsweredEvent) (after : Hand) (raw : ℕ) →
      VLoadEnds hand word list after raw ↔ IsVLoadList hand word list after raw
  pub so_far : (hand : Hand) (word : ℕ) (list : List AnsweredEvent) (m : HeldVLoad) → VLoadComes hand word list m → IsSome (v_load_asked m) →
      m.hand.tally ≡ counted hand.tally list

-- The events of a Confirm are the ReadTag of the word's slot where it has one, and where a tag shows what queuing
-- takes.
pub record ConfirmEvents : Type 0 where
  pub whole : (p : Place) (hand : Hand) (word raw : ℕ) (list : List AnsweredEvent) (after : Hand) → (slots_for : ℕ → ℕ) → IsPlacement p slots_for →
      ConfirmEnds p hand word raw list after ↔ IsConfirmList p hand word raw list after
  pub so_far : (p : Place) (hand : Hand) (word raw : ℕ) (list : List AnsweredEvent) (m : HeldConfirm) → ConfirmComes p hand word raw list m →
      IsSome (confirm_asked p m) → m.hand.tally ≡ counted hand.tally list

-- The events of a PExchange from its start to its end, and how it ends.
pub record ExchangeEvents : Type 0 where
  pub whole : (p : Place) (hand : Hand) (word old value limit : ℕ) (list : List AnsweredEvent) (after : Hand) (how : Exchanged) →
      ExchangeEnds p hand word old value limit list after how ↔ IsExchangeList p hand word old value limit list after how
  pub so_far : (p : Place) (hand : Hand) (word old value limit : ℕ) (list : List AnsweredEvent) (m : HeldExchange) →
      ExchangeComes p hand word old value limit list m → IsSome (exchange_asked p m) → m.hand.tally ≡ counted hand.tally list

-- The one event of a VExchange is the Exchange; where it is worn there is none.
pub record VExchangeEvents : Type 0 where
  pub whole : (hand : Hand) (word old value limit : ℕ) (list : List AnsweredEvent) (after : Hand) (how : Exchanged) →
      VExchangeEnds hand word old value limit list after how ↔ IsVExchangeList hand word old value limit list after how
  pub so_far : (hand : Hand) (word old value limit : ℕ) (list : List AnsweredEvent) (m : HeldVExchange) →
      VExchangeComes hand word old value limit list m → IsSome (v_exchange_asked m) → m.hand.tally ≡ counted hand.tally list

-- The events of a PrivateStore are all its Loads, and where none of the words is worn its Stores, each with the fence
-- that it takes to queue it.
pub record StoreEvents : Type 0 where
  pub whole : (hand : Hand) (first : ℕ) (values : List ℕ) (limit : ℕ) (list : List AnsweredEvent) (after : Hand) (how : Stored) →
      StoreEnds hand first values limit list after how ↔ IsStoreList hand first values limit list after how
  pub so_far : (hand : Hand) (first : ℕ) (values : List ℕ) (limit : ℕ) (list : List AnsweredEvent) (m : HeldStore) →
      StoreComes hand first values limit list m → IsSome (store_asked m) → m.hand.tally ≡ counted hand.tally list

-- The events of a Fence are the write-backs of its queue's pairs, in their order.
pub record FenceEvents : Type 0 where
  pub whole : (hand : Hand) (list : List AnsweredEvent) (after : Hand) → FenceEnds hand list after ↔ IsFenceList hand list after
  pub so_far : (hand : Hand) (list : List AnsweredEvent) (m : HeldFence) → FenceComes hand list m → IsSome (fence_asked m) →
      m.hand.tally ≡ counted hand.tally list

-- The events of a Complete are those of a Fence.
pub record CompleteEvents : Type 0 where
  pub whole : (hand : Hand) (list : List AnsweredEvent) (after : Hand) → CompleteEnds hand list after ↔ IsCompleteList hand list after
  pub so_far : (hand : Hand) (list : List AnsweredEvent) (m : HeldComplete) → CompleteComes hand list m → IsSome (complete_asked m) →
      m.fence.hand.tally ≡ counted hand.tally list

-- The events of an Evict are the Load and the write-back of the bare word.
pub record EvictEvents : Type 0 where
  pub whole : (hand : Hand) (word : ℕ) (list : List AnsweredEvent) (after : Hand) → EvictEnds hand word list after ↔ IsEvictList hand word list after
  pub so_far : (hand : Hand) (word : ℕ) (list : List AnsweredEvent) (m : Evict) → EvictComes hand word list m → IsSome (evict_asked m) →
      m.hand.tally ≡ counted hand.tally list

-- A lost exchange changes no value: each of its events, made in any state in which it answers so, leaves every word
-- as it was.
pub record LostLeavesWords : Type 0 where
  pub exchange : (p : Place) (hand : Hand) (word old value limit found : ℕ) (list : List AnsweredEvent) (after : Hand) →
      IsExchangeList p hand word old value limit list after (Lost found) → AllLeaveWords list
  pub v_exchange : (hand : Hand) (word old value limit found : ℕ) (list : List AnsweredEvent) (after : Hand) →
      IsVExchangeList hand word old value limit list after (Lost found) → AllLeaveWords list

-- Where an exchange or a private store ends worn no word was written.
pub record WornWritesNothing : Type 0 where
  pub exchange : (p : Place) (hand : Hand) (word old value limit at version : ℕ) (list : List AnsweredEvent) (after : Hand) →
      IsExchangeList p hand word old value limit list after (Worn at version) →
      (list ≡ []) × (at ≡ word) × (version ≡ version_of old) × (limit ≤ version)
  pub v_exchange : (hand : Hand) (word old value limit at version : ℕ) (list : List AnsweredEvent) (after : Hand) →
      IsVExchangeList hand word old value limit list after (Worn at version) →
      (list ≡ []) × (at ≡ word) × (version ≡ version_of old) × (limit ≤ version)
  pub store : (hand : Hand) (first : ℕ) (values : List ℕ) (limit at version : ℕ) (list : List AnsweredEvent) (after : Hand) →
      IsStoreList hand first values limit list after (Worn_store at version) → NoneWrites list × (limit ≤ version)

-- A PLoad queues its word just where the placement shows a tag on what it loaded, and a Confirm just where it shows
-- one on its word.
pub record QueuesWhereShown : Type 0 where
  pub load : (p : Place) (hand : Hand) (word : ℕ) (list : List AnsweredEvent) (after : Hand) (raw : ℕ) → IsLoadList p hand word list after raw →
      QueuesJustWhere (shown p.counted raw (count_told list)) hand.queue (noted word (bare_of raw)) after.queue
  pub confirm : (p : Place) (hand : Hand) (word raw : ℕ) (list : List AnsweredEvent) (after : Hand) → IsConfirmList p hand word raw list after →
      QueuesJustWhere (shown p.counted raw (count_told list)) hand.queue (noted word (bare_of raw)) after.queue

-- An exchange ends worn just where the version of its old word is at or past the limit, and a private store ends
-- stored just where each of its Loads answered a version below the limit.
pub record WornWhere : Type 0 where
  pub exchange : (p : Place) (hand : Hand) (word old value limit : ℕ) (list : List AnsweredEvent) (after : Hand) (how : Exchanged) →
      IsExchangeList p hand word old value limit list after how → (limit ≤ version_of old) ↔ (how ≡ Worn word (version_of old))
  pub v_exchange : (hand : Hand) (word old value limit : ℕ) (list : List AnsweredEvent) (after : Hand) (how : Exchanged) →
      IsVExchangeList hand word old value limit list after how → (limit ≤ version_of old) ↔ (how ≡ Worn word (version_of old))
  pub store : (hand : Hand) (first : ℕ) (values : List ℕ) (limit : ℕ) (list : List AnsweredEvent) (after : Hand) (how : Stored) →
      IsStoreList hand first values limit list after how → (how ≡ All_stored) ↔ AllLoadsBelow limit list

-- A queue of at most `MOST_QUEUED` pairs has as few again at the end; a fence, and an exchange that isn't worn, leaves
-- none.
pub record QueueWithin : Type 0 where
  pub load : (p : Place) (hand : Hand) (word : ℕ) (list : List AnsweredEvent) (after : Hand) (raw : ℕ) → IsLoadList p hand word list after raw →
      length hand.queue ≤ MOST_QUEUED → length after.queue ≤ MOST_QUEUED
  pub confirm : (p : Place) (hand : Hand) (word raw : ℕ) (list : List AnsweredEvent) (after : Hand) → IsConfirmList p hand word raw list after →
      length hand.queue ≤ MOST_QUEUED → length after.queue ≤ MOST_QUEUED
  pub store : (hand : Hand) (first : ℕ) (values : List ℕ) (limit : ℕ) (list : List AnsweredEvent) (after : Hand) (how : Stored) →
      IsStoreList hand first values limit list after how → length hand.queue ≤ MOST_QUEUED → length after.queue ≤ MOST_QUEUED
  pub exchange : (p : Place) (hand : Hand) (word old value limit : ℕ) (list : List AnsweredEvent) (after : Hand) (how : Exchanged) →
      IsExchangeList p hand word old value limit list after how → version_of old < limit → after.queue ≡ []
  pub fence : (hand : Hand) (list : List AnsweredEvent) (after : Hand) → IsFenceList hand list after → after.queue ≡ []

-- Below 2^64 - 1 the loads of a tally are those that omitted their word and those that queued it, and stay so by every
-- machine.
pub record TallyAddsUp : Type 0 where
  pub load : (p : Place) (hand : Hand) (word : ℕ) (list : List AnsweredEvent) (after : Hand) (raw : ℕ) → IsLoadList p hand word list after raw →
      AddsUp hand.tally → AddsUp after.tally
  pub confirm : (p : Place) (hand : Hand) (word raw : ℕ) (list : List AnsweredEvent) (after : Hand) → IsConfirmList p hand word raw list after →
      AddsUp hand.tally → AddsUp after.tally
  pub exchange : (p : Place) (hand : Hand) (word old value limit : ℕ) (list : List AnsweredEvent) (after : Hand) (how : Exchanged) →
      IsExchangeList p hand word old value limit list after how → AddsUp hand.tally → AddsUp after.tally
  pub store : (hand : Hand) (first : ℕ) (values : List ℕ) (limit : ℕ) (list : List AnsweredEvent) (after : Hand) (how : Stored) →
      IsStoreList hand first values limit list after how → AddsUp hand.tally → AddsUp after.tally
  pub fence : (hand : Hand) (list : List AnsweredEvent) (after : Hand) → IsFenceList hand list after → AddsUp hand.tally → AddsUp after.tally
  pub evict : (hand : Hand) (word : ℕ) (list : List AnsweredEvent) (after : Hand) → IsEvictList hand word list after → AddsUp hand.tally →
      AddsUp after.tally

-- How many events a machine makes at most from its start to its end, over a queue of at most `MOST_QUEUED` pairs.
pub record EventsWithin : Type 0 where
  pub load : (p : Place) (hand : Hand) (word : ℕ) (list : List AnsweredEvent) (after : Hand) (raw : ℕ) → IsLoadList p hand word list after raw →
      length hand.queue ≤ MOST_QUEUED → length list ≤ MOST_QUEUED + 2
  pub confirm : (p : Place) (hand : Hand) (word raw : ℕ) (list : List AnsweredEvent) (after : Hand) → IsConfirmList p hand word raw list after →
      length hand.queue ≤ MOST_QUEUED → length list ≤ MOST_QUEUED + 1
  pub exchange : (p : Place) (hand : Hand) (word old value limit : ℕ) (list : List AnsweredEvent) (after : Hand) (how : Exchanged) →
      IsExchangeList p hand word old value limit list after how → length list ≤ length hand.queue + 4
  pub store : (hand : Hand) (first : ℕ) (values : List ℕ) (limit : ℕ) (list : List AnsweredEvent) (after : Hand) (how : Stored) →
      IsStoreList hand first values limit list after how → length values ≤ MOST_QUEUED → length hand.queue ≤ MOST_QUEUED → length list ≤ 2 * length values + 16
  pub fence : (hand : Hand) (list : List AnsweredEvent) (after : Hand) → IsFenceList hand list after → length list ≡ length hand.queue
