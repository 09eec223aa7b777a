use Rattle.std.proofs.lemmas.List.Filters.{dedup_is}
use Rattle.std.proofs.lemmas.List.Kept.{Contains-dedup_nat}
use Rattle.std.proofs.lemmas.List.Sorted.{Contains-permutation}
use Rattle.std.proofs.lemmas.Map.Keys.{IsStrictlyIncreasing-dedup}
use Rattle.flit_sched.proofs.OpenLaws.{keyed_works}
use Rattle.flit_sched.proofs.opening.keys_of.Goals as goal

pub returns-clause-rising : goal.returns-clause-rising
returns-clause-rising c =
    let is = dedup_is _ _ _ c.dedup.ensures.filtered in
    rw is (IsStrictlyIncreasing-dedup _ c.in_ok-sort.ensures.sorted)

pub returns-clause-has : goal.returns-clause-has
returns-clause-has c =
    let is = dedup_is _ _ _ c.dedup.ensures.filtered in
    keyed_works c.in_ok-keys.keys.items c.dedup.new.self.items
    (λ x h. rw is (Contains-dedup_nat _ x (Contains-permutation _ _ x c.in_ok-sort.ensures.permutation h))) c.args.works.now c.in_ok-keys.ensures
