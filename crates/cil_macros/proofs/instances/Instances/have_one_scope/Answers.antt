use Rattle.std.proofs.Common.{◌+◌, ◌<◌, List, length, subst, sym}
use Rattle.cil_blocks.specs.Places.{Standings, entries_in}
use Rattle.cil_macros.specs.declared.entry.Called.{Called}
use Rattle.cil_macros.proofs.PlacedLemmas.{is_place, one_scope_by}
use Rattle.cil_macros.proofs.instances.Instances.have_one_scope.Goals as goal

pub have_one_scope-requires-clause-one : goal.have_one_scope-requires-clause-one
have_one_scope-requires-clause-one c =
    subst (λ (v : Standings × List Called). c.args.at < length (entries_in v.0) + length v.1) (sym c.self.view_is) (is_place c.args.self.now c.args.at c.requires.one)

pub have_one_scope-requires-clause-other : goal.have_one_scope-requires-clause-other
have_one_scope-requires-clause-other c =
    subst (λ (v : Standings × List Called). c.args.other < length (entries_in v.0) + length v.1) (sym c.self.view_is) (is_place c.args.self.now c.args.other c.requires.other)

pub returns : goal.returns
returns c = λ told.
    one_scope_by c.args.self.now c.args.at c.args.other c.requires.one c.requires.other (rw (← c.self.view_is) (c.have_one_scope.ensures told))
