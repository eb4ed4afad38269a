use Rattle.cil_names.proofs.PermissionLemmas.{names_all, names_begun, names_more}
use Rattle.cil_names.proofs.permissions.push_names.Goals as goal

pub loop-term-init : goal.loop-term-init
loop-term-init c = λ m. names_begun m c.args.terms.now c.args.names.now.items

pub loop-term-preserved : goal.loop-term-preserved
loop-term-preserved c = λ m. names_more m _ _ _ _ _ _ c.loop-term-test.true c.term-item.is (c.loop-term.invariant m) (c.in_ok-push_name.ensures m)

pub returns : goal.returns
returns c = λ m. names_all m _ _ _ _ (c.loop-term.invariant m) c.loop-term-test.false
