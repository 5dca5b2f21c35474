-- What a handle owns: nothing if it is null, otherwise what a `Box<OpenField>` owns.
use Rattle.std.specs.Prelude.{Option, Some, None}
use base.Fml.{Fml, feq}
use denote.RawPtr.{Ptr, null_ptr}
use Rattle.std.specs.Box.Ownership.{box_owns}
use Rattle.std.specs.Global.{Global}
use Rattle.std.specs.contracts.impls.GlobalAllocator.TheImpl.{ghosts}
use Rattle.curlew_calls.specs.contracts.field.OpenField.{the_row}

abbrev pub held_owns : Global → Ptr → Option the_row.Denot → Fml
held_owns alloc at None = feq Ptr at null_ptr
held_owns alloc at (Some held) = box_owns (ghosts.dealloc_token alloc) the_row at held
