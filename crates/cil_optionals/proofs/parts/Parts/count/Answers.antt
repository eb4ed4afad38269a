use Rattle.std.specs.Prelude.{length}
use Rattle.std.proofs.Common.{ap, arith, sym, ◌∙◌, ◌<◌, ◌≤◌, length}
use Rattle.cil_macros.specs.Items.{items_in}
use Rattle.cil_optionals.specs.Parts.{Part, asked_of, inside_of}
use Rattle.cil_optionals.proofs.RowParts.{absent_at, no_part, part_at}
use Rattle.cil_words.specs.Table.{could_in}
use Rattle.cil_optionals.proofs.parts.Parts.count.Goals as goal

pub returns-then-not-is_there : goal.returns-then-not-is_there
returns-then-not-is_there c =
    let p = c.args.self.now in
    sym (ap (λ o. length (asked_of o)) (no_part (items_in p.instances.now) (could_in p.asks.now) c.args.at (absent_at _ _ _ c.is_there.ensures.1 c.if-not-is_there.true)))

pub returns : goal.returns
returns c =
    let p = c.args.self.now in
    c.count.ensures ∙ sym (ap (λ o. length (asked_of o)) (part_at p.instances.now (could_in p.asks.now) c.args.at (c.is_there.ensures.0 c.if-not-is_there.false)))
