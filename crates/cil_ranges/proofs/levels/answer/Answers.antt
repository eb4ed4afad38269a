use Rattle.cil_ranges.proofs.MadeLemmas.{nothing_wrong_found, wrong_found}
use Rattle.cil_ranges.proofs.levels.answer.Goals as goal

pub returns-in-Ok : goal.returns-in-Ok
returns-in-Ok c = λ k g is permitted tables found. nothing_wrong_found k g is c.args.measured c.args.tables c.args.found permitted tables found c.in-Ok.ensures.told.1

pub returns-in-Err : goal.returns-in-Err
returns-in-Err c = λ k g is permitted tables found. wrong_found k g is c.args.measured c.args.tables c.args.found permitted tables found c.in-Err.failure c.in-Err.ensures.told
