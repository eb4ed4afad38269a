use Rattle.std.proofs.Common.{false, sym, ◌∙◌, ap, get_or}
use Rattle.cil_syntax.specs.Written.{Written}
use Rattle.cil_macros.specs.blocks.Places.{statements_in}
use Rattle.cil_macros.specs.Items.{placed_at}
use Rattle.cil_macros.proofs.ItemLemmas.{placed_there}
use Rattle.cil_macros.proofs.PlacedLemmas.{is_place}
use Rattle.cil_names.specs.Worded.{is_worded}
use Rattle.cil_names.proofs.WordedLemmas.{flag_at}
use Rattle.cil_names.proofs.worded.is_worded_at.Goals as goal

pub statement-requires : goal.statement-requires
statement-requires c = is_place c.args.instances.now c.args.at c.requires.within

pub returns : goal.returns
returns c =
    let i = c.args.instances.now in
    c.is_set.ensures
    ∙ ap (λ flags. get_or flags c.statement.result false) c.requires.flags
    ∙ flag_at (statements_in i.0) c.statement.result
    ∙ ap (λ (w : Written). is_worded w.statement) (sym (c.statement.ensures (placed_at i c.args.at) (placed_there i c.args.at c.requires.within)))
