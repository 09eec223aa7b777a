use Rattle.std.proofs.Common.{◌≡◌, List, ap, sym, ◌∙◌, subst, length, map, arith}
use Rattle.std.proofs.lemmas.List.Elements.{All-from_recursion}
use Rattle.flit_model.specs.declared.calls.Work.{Work}
use Rattle.flit_workers.specs.declared.rooms.Room.{Room}
use Rattle.flit_workers.specs.Ends.{AreReady, HaveEnded, IsReady, MayRun}
use Rattle.flit_workers.proofs.Sharing.{same_length}
use Rattle.flit_workers.proofs.Finishing.{may_all_run, have_ended, written_back}
use Rattle.flit_workers.proofs.running.run_workers.Goals as goal

pub run_all-requires-clause-some : goal.run_all-requires-clause-some
run_all-requires-clause-some g c κs within =
    let M = g.S.Structure.meaning in
    let v = c.args.pass.held.seat.me.0 in
    let works : List Work = map (λ (r : Room). r.work) c.in-Ok.rooms.items in
    let made : works ≡ c.args.work.items = c.in-Ok.ensures.works in
    let value : c.as_mut_slice.result.now ≡ c.hand_out.new.ends.items = c.as_mut_slice.ensures.value in
    let long : length c.hand_out.new.ends.items ≡ length works = same_length (λ n w e. IsReady M c.args.running.now n v w e) 0 works c.hand_out.new.ends.items
    c.hand_out.ensures in
    let some = c.requires.pass.belongs.belongs.names in
    let named = c.requires.pass.belongs.names in
    let each = c.requires.works.one_each in
    omega (arith, some, named, each, long, ap length made, ap length value)

pub run_all-requires-clause-may : goal.run_all-requires-clause-may
run_all-requires-clause-may g c κs within =
    let M = g.S.Structure.meaning in
    let v = c.args.pass.held.seat.me.0 in
    let made : map (λ (r : Room). r.work) c.in-Ok.rooms.items ≡ c.args.work.items = c.in-Ok.ensures.works in
    let value : c.as_mut_slice.result.now ≡ c.hand_out.new.ends.items = c.as_mut_slice.ensures.value in
    let ready : AreReady M c.args.running.now v c.args.work.items c.as_mut_slice.result.now =
    subst (AreReady M c.args.running.now v c.args.work.items) (sym value) (subst (λ ws. AreReady M c.args.running.now v ws c.hand_out.new.ends.items) made
    c.hand_out.ensures) in
    All-from_recursion (MayRun M c.args.running.now) c.as_mut_slice.result.now
    (may_all_run M c.args.running.now v 0 c.args.work.items c.as_mut_slice.result.now c.requires.works.items c.requires.works.most ready)

pub returns-clause-ended : goal.returns-clause-ended
returns-clause-ended g c =
    let M = g.S.Structure.meaning in
    let v = c.args.pass.held.seat.me.0 in
    let made : map (λ (r : Room). r.work) c.in-Ok.rooms.items ≡ c.args.work.items = c.in-Ok.ensures.works in
    let value : c.as_mut_slice.result.now ≡ c.hand_out.new.ends.items = c.as_mut_slice.ensures.value in
    let ready : AreReady M c.args.running.now v c.args.work.items c.as_mut_slice.result.now =
    subst (AreReady M c.args.running.now v c.args.work.items) (sym value) (subst (λ ws. AreReady M c.args.running.now v ws c.hand_out.new.ends.items) made
    c.hand_out.ensures) in
    let all : HaveEnded M c.args.running.now v c.args.work.items c.run_all.new.ends =
    have_ended M c.args.running.now v 0 c.args.work.items c.as_mut_slice.result.now c.run_all.new.ends ready c.run_all.ensures.count c.run_all.ensures.run
    in
    subst (HaveEnded M c.args.running.now v c.args.work.items)
    (sym (written_back c.hand_out.new.ends.len c.hand_out.new.ends.items c.run_all.new.ends (sym (ap length value) ∙ c.as_mut_slice.ensures.len)
    (c.run_all.ensures.count ∙ ap length value))) all
