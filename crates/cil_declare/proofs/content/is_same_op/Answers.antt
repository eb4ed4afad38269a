use Rattle.std.proofs.Common.{sym, ◌∙◌}
use denote.Enum.Bare.{same_true, true_same}
use Rattle.cil_syntax.specs.contracts.term.Op.{the_type}
use Rattle.cil_declare.proofs.content.is_same_op.Goals as goal

pub returns : goal.returns
returns c = ((λ t. same_true the_type _ c.args.a c.args.b (sym c.eq.ensures ∙ t)), (λ e. c.eq.ensures ∙ true_same the_type c.args.a c.args.b e))
