use Rattle.cil_locate.specs.Windows.{is_in_word}
use Rattle.cil_locate.proofs.RunLemmas.{IsRun}
use Rattle.cil_locate.proofs.window.word_run.Given as goal

abbrev pub invariant-loop-count : goal.invariant-loop-count
invariant-loop-count l = IsRun is_in_word l.text l.at l.most l.count
