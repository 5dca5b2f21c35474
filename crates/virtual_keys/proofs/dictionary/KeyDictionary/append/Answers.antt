use Rattle.std.proofs.Common.{◌∙◌, ap, sym, length, Some, arith}
use Rattle.virtual_keys.specs.Dictionary.{place_in}
use Rattle.virtual_keys.specs.Entries.{written}
use Rattle.virtual_keys.proofs.EntryLemmas.{appended-names, appended-are, appended-place, length-written}
use Rattle.virtual_keys.proofs.dictionary.KeyDictionary.append.Goals as goal

pub invariant_of-self-2 : goal.invariant_of-self-2
invariant_of-self-2 c =
    rw c.in_ok-insert.ensures.entries (appended-are c.self.inside.names.entries c.args.self.now c.args.name.now c.in_ok-folded.folded c.in_ok-written.written
    c.self.invariant c.self.view_is c.requires.new c.in_ok-folded.ensures c.in_ok-written.ensures.items c.requires.room)

pub returns-clause-names : goal.returns-clause-names
returns-clause-names c =
    ap written c.in_ok-insert.ensures.entries ∙ appended-names c.self.inside.names.entries c.args.self.now c.args.name.now c.in_ok-folded.folded c.in_ok-written.written
    c.self.invariant c.self.view_is c.requires.new c.in_ok-folded.ensures c.in_ok-written.ensures.items

pub returns-clause-place : goal.returns-clause-place
returns-clause-place c =
    ap (λ entries. place_in (written entries) c.args.name.now) c.in_ok-insert.ensures.entries
    ∙ appended-place c.self.inside.names.entries c.args.self.now c.args.name.now c.in_ok-folded.folded c.in_ok-written.written
    c.self.invariant c.self.view_is c.requires.new c.in_ok-folded.ensures c.in_ok-written.ensures.items
    ∙ ap Some (sym c.len-place.ensures.len)

pub returns-clause-few : goal.returns-clause-few
returns-clause-few c = omega (arith, c.len-place.ensures.len, ap length c.self.view_is, length-written c.self.inside.names.entries)

pub returns-clause-distinct : goal.returns-clause-distinct
returns-clause-distinct c = (invariant_of-self-2 c).distinct
