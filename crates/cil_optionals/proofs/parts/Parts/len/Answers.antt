use Rattle.std.proofs.Common.{sym, ◌∙◌}
use Rattle.cil_macros.specs.Items.{items_in}
use Rattle.cil_optionals.proofs.RowParts.{length_with}
use Rattle.cil_words.specs.Table.{could_in}
use Rattle.cil_optionals.proofs.parts.Parts.len.Goals as goal

pub returns : goal.returns
returns c = c.len.ensures.items ∙ sym (length_with (items_in c.args.self.now.instances.now) (could_in c.args.self.now.asks.now))
