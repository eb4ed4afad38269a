use Rattle.std.proofs.Common.{◌∙◌}
use Rattle.cil_declare.proofs.gather.entry_of.Goals as goal

pub returns : goal.returns
returns c = λ i. record {
  space = c.args.run.now.first.now.space;
  name = (c.of.ensures ∙ c.as_slice.ensures) i;
  kind = c.args.run.now.first.now.kind;
  always = c.any_always.ensures i;
  rounds = c.in_ok-rounds.ensures i;
}
