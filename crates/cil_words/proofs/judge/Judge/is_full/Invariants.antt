use Rattle.std.specs.Prelude.{◌≡◌, take, true}
use Rattle.std.specs.List.{list_all}
use Rattle.cil_words.specs.Judged.{has_one, row_by}
use Rattle.cil_words.proofs.judge.Judge.is_full.Given as goal

abbrev pub invariant-loop-number : goal.invariant-loop-number
invariant-loop-number l = list_all (has_one l.self.declared.now) (take l.number (row_by l.self l.at)) ≡ true
