use Rattle.std.proofs.Common.{[], ◌∙◌, ap, sym}
use Rattle.cil_macros.specs.ListPlaces.{is_wrong_part}
use Rattle.cil_macros.specs.Listed.{part_there}
use Rattle.cil_macros.specs.Placed.{meaning}
use Rattle.cil_macros.specs.Walks.{written_in}
use Rattle.cil_macros.proofs.list_values.Caller.is_wrong_part.Goals as goal

pub returns-in-Word : goal.returns-in-Word
returns-in-Word c = λ p here.
    c.is_wrong_word.ensures p here ∙ ap (λ x. is_wrong_part (meaning (written_in c.args.self.now.scene.now.spaces.now) p) (part_there [] x)) (sym c.in-Word.is)
