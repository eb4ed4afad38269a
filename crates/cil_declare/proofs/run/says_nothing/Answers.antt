use Rattle.std.proofs.Common.{ap, refl}
use Rattle.cil_declare.specs.Rows.{content_at}
use Rattle.cil_declare.proofs.ContentLemmas.{tells_of}
use Rattle.cil_declare.proofs.DoneLemmas.{row_at}
use Rattle.cil_declare.proofs.StatementLemmas.{nothing_there, row_written}
use Rattle.cil_declare.proofs.run.says_nothing.Goals as goal

pub statement_there-requires : goal.statement_there-requires
statement_there-requires c = (row_at c.args.instances.now c.args.row.now c.requires _ c.in-Some.is).within

pub returns-in-Some : goal.returns-in-Some
returns-in-Some c =
    let i = c.args.instances.now in
    let row = row_at i c.args.row.now c.requires c.in-Some.at c.in-Some.is in
    tells_of _ _ _ _ _ refl (ap (content_at i) c.in-Some.is)
    (nothing_there i c.in-Some.at c.statement_there.result.now c.statement_there.ensures.is (row_written i c.in-Some.at c.args.row.now row) _ _ c.as_slice.ensures.value c.is_name_alone.ensures)
