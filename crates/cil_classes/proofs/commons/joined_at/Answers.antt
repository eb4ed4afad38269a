use Rattle.std.proofs.lemmas.Result.{IfOk-weaker}
use Rattle.cil_classes.proofs.commons.joined_at.Goals as goal

pub shared_at-requires-clause-entries : goal.shared_at-requires-clause-entries
shared_at-requires-clause-entries c = c.requires.entries

pub shared_at-requires-clause-within : goal.shared_at-requires-clause-within
shared_at-requires-clause-within c = c.requires.within

pub returns : goal.returns
returns c = IfOk-weaker c.shared_at.result _ _ (λ one is. record { is = is }) c.shared_at.ensures
