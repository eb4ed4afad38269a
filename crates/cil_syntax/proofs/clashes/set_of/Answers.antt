use Rattle.std.proofs.Common.{ap}
use Rattle.std.proofs.lemmas.List.{take_all}
use Rattle.std.proofs.Common.{◌∙◌}
use Rattle.cil_syntax.specs.Around.{bytes_of_names}
use Rattle.cil_syntax.specs.Spelling.{is_one_of}
use Rattle.cil_syntax.proofs.ClashLemmas.{more_seen}
use Rattle.cil_syntax.proofs.clashes.set_of.Goals as goal

pub loop-name-init : goal.loop-name-init
loop-name-init c word = ap (λ ns. is_one_of ns word) c.new-set.ensures

pub loop-name-preserved : goal.loop-name-preserved
loop-name-preserved c = more_seen c.args.names.now c.loop-name.name-index _ c.loop-name-test.true c.loop-name.set _ c.loop-name.invariant c.in_ok-add.ensures.names

pub returns : goal.returns
returns c word = c.loop-name.invariant word ∙ ap (λ ns. is_one_of (bytes_of_names ns) word) (take_all c.loop-name.name-index c.args.names.now c.loop-name-test.false)
