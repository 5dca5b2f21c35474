use Rattle.std.proofs.Common.{◌∷◌, ◌+◌, refl, subst, arith}
use Rattle.kmx_decompiler.specs.RecordPlaces.{HaveNearRecords}
use Rattle.kmx_decompiler.proofs.LeastPlaces.{groups_step}
use Rattle.kmx_decompiler.proofs.places.in_groups.Goals as goal

pub in_group-least-requires-clause-own : goal.in_group-least-requires-clause-own
in_group-least-requires-clause-own c =
    let near : HaveNearRecords c.args.bytes.now c.loop-group.place (c.in-Some.group ∷ c.next.new.self) =
    subst (HaveNearRecords c.args.bytes.now c.loop-group.place) c.in-Some.ensures.steps c.loop-group.invariant.near in
    near.0

pub in_group-least-requires-clause-rules : goal.in_group-least-requires-clause-rules
in_group-least-requires-clause-rules c =
    let near : HaveNearRecords c.args.bytes.now c.loop-group.place (c.in-Some.group ∷ c.next.new.self) =
    subst (HaveNearRecords c.args.bytes.now c.loop-group.place) c.in-Some.ensures.steps c.loop-group.invariant.near in
    near.1

pub overflow_add-place : goal.overflow_add-place
overflow_add-place c =
    let near : HaveNearRecords c.args.bytes.now c.loop-group.place (c.in-Some.group ∷ c.next.new.self) =
    subst (HaveNearRecords c.args.bytes.now c.loop-group.place) c.in-Some.ensures.steps c.loop-group.invariant.near in
    omega (arith, near.0)

pub loop-group-preserved : goal.loop-group-preserved
loop-group-preserved c =
    let near : HaveNearRecords c.args.bytes.now c.loop-group.place (c.in-Some.group ∷ c.next.new.self) =
    subst (HaveNearRecords c.args.bytes.now c.loop-group.place) c.in-Some.ensures.steps c.loop-group.invariant.near in
    record {
      least = groups_step c.args.bytes.now c.args.names.now c.loop-group.place _ c.in-Some.group c.next.new.self c.loop-group.group-iterator
          c.in_group-least.result c.loop-group.least _ c.in-Some.ensures.steps c.in_group-least.ensures refl c.loop-group.invariant.least;
      near = near.2;
    }
