use Rattle.std.proofs.Common.{◌∙◌, List, ap}
use Rattle.std.specs.Prelude.{slice_get}
use Rattle.cil_syntax.specs.declared.program.Statement.{Statement}
use Rattle.cil_syntax.specs.Program.{program_of}
use Rattle.cil_blocks.specs.declared.entry.Entry.{Entry}
use Rattle.cil_blocks.specs.Entries.{standings_of}
use Rattle.cil_macros.specs.Walks.{written_in}
use Rattle.cil_macros.proofs.calls.standing_at.Goals as goal

pub returns : goal.returns
returns c = λ m here.
    c.stated.ensures m
    (ap (λ (xs : List Statement). slice_get (standings_of (program_of xs) c.entries.result.now) c.args.rank) c.statements.ensures
    ∙ ap (λ (es : List Entry). slice_get (standings_of (written_in c.args.spaces.now) es) c.args.rank) c.entries.ensures.same
    ∙ here)
