use Rattle.std.proofs.Common.{◌≡◌}
use Rattle.kmx_decompiler.specs.Places.{group_causes}
use Rattle.kmx_decompiler.specs.Least.{lesser}
use Rattle.kmx_decompiler.specs.RecordPlaces.{HaveNearRecords}
use Rattle.kmx_decompiler.proofs.places.in_groups.Given as goal

abbrev pub invariant-loop-group : goal.invariant-loop-group
invariant-loop-group l = record {
  least : lesser (group_causes l.bytes l.names l.place l.group-iterator) l.least
      ≡ lesser (group_causes l.bytes l.names l.fn.place l.file.groups) l.fn.least;
  near : HaveNearRecords l.bytes l.place l.group-iterator;
}
