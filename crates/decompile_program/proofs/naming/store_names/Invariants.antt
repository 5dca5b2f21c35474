use Rattle.std.proofs.Common.{◌≡◌, ◌++◌, [], drop}
use Rattle.decompile_program.specs.Names.{store_names, named_stores}
use Rattle.decompile_program.proofs.naming.store_names.Given as goal

abbrev pub invariant-loop-number : goal.invariant-loop-number
invariant-loop-number l =
    l.names.items ++ store_names (named_stores l.file) l.naming.free.now l.naming.earlier l.number (drop l.number l.stores)
    ≡ store_names (named_stores l.file) l.fn.free [] 0 l.stores
