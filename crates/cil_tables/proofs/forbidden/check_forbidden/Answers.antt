use Rattle.std.proofs.Common.{subst, sym}
use Rattle.cil_syntax.specs.declared.kind.Kind.TheVariants as kinds
use Rattle.cil_macros.specs.Items.{items_in}
use Rattle.cil_known.specs.Known.{AreStanding}
use Rattle.cil_tables.proofs.forbidden.check_forbidden.Goals as goal

pub returns : goal.returns
returns c = λ names types known apart stand classes given.
    c.violations.ensures names known apart
    (subst (AreStanding c.args.known.now (items_in c.args.instances.now) names kinds.Type_) (sym c.as_slice.ensures.value) stand.types) classes given types
