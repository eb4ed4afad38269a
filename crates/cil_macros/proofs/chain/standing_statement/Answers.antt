use Rattle.std.proofs.Common.{◌∙◌, [], ap, sym}
use Rattle.cil_base.specs.Places.{some_same}
use Rattle.cil_blocks.specs.Contents.{Standing}
use Rattle.cil_blocks.specs.Entries.{standings_of}
use Rattle.cil_blocks.proofs.EntryLemmas.{mapped_at, statements_from}
use Rattle.cil_macros.proofs.chain.standing_statement.Goals as goal

pub returns : goal.returns
returns c = λ ws s e.
    let x = mapped_at ws (standings_of ws c.args.entries.now) c.args.entries.now c.args.at _ (statements_from ws [] c.args.entries.now) c.requires in
    ap (λ (m : Standing). m.statement) (some_same s x.0 (sym e ∙ x.1)) ∙ x.2
