-- A PExchange of a sound world that asks for an Exchange to the next version is told as its writing.
use Rattle.std.proofs.Common.{◌≡◌, ℕ, ◌+◌, Bool, Some, refl, ◌∙◌, ap}
use Rattle.flit_words.specs.Words.{version_of}
use Rattle.flit_model.specs.States.{State}
use Rattle.flit_model.specs.declared.events.Event.TheVariants.{Lower, Exchange}
use Rattle.flit_place.specs.Tags.{Place}
use Rattle.flit_pv.specs.Exchanges.{HeldExchange, exchange_asks, exchange_asked}
use Rattle.flit_pv.specs.declared.exchanges.Exchanging.{Exchanging}
use Rattle.flit_pv.specs.declared.exchanges.Exchanging.TheVariants.{Ready, Tries, TriesBare, WritesBack, Withdraws, Lowers, Ended}
use Rattle.flit_pv.proofs.Asking.{IsWriter, exchange_writes, no_exchange, no_event}
use Rattle.flit_runs.specs.Soundness.{ExchangeKnows}

module _ (p : Place) (vs : ℕ → Bool) (s : State) (m : HeldExchange) (word from to : ℕ) (next : version_of to ≡ version_of from + 1) where
  by_stage : (at : Exchanging) → m.at ≡ at → ExchangeKnows p vs s at m → exchange_asks p at m ≡ Some (Exchange word from to) → IsWriter p m word from to
  by_stage Ready is k q = exchange_writes p m k.1.bare word from to (ap (λ at. exchange_asks p at m) is ∙ q) next
  by_stage (Tries slot) is k q = exchange_writes p m k.1.new.bare word from to (ap (λ at. exchange_asks p at m) is ∙ q) next
  by_stage TriesBare is k q = exchange_writes p m k.1.new.bare word from to (ap (λ at. exchange_asks p at m) is ∙ q) next
  by_stage WritesBack is k q = exchange_writes p m k.2 word from to (ap (λ at. exchange_asks p at m) is ∙ q) next
  by_stage Withdraws is k q = exchange_writes p m k.2 word from to (ap (λ at. exchange_asks p at m) is ∙ q) next
  by_stage (Lowers slot found) is k q = absurd (no_exchange (Lower slot) refl word from to q)
  by_stage (Ended how) is k q = absurd (no_event word from to q)

  pub next_is_told : ExchangeKnows p vs s m.at m → exchange_asked p m ≡ Some (Exchange word from to) → IsWriter p m word from to
  next_is_told k q = by_stage m.at refl k q
