use Rattle.std.proofs.Common.{sym, subst}
use Rattle.cil_syntax.specs.declared.kind.Keyword.TheVariants as keywords
use Rattle.cil_syntax.specs.declared.kind.Kind.TheVariants as kinds
use Rattle.cil_macros.specs.Items.{items_in}
use Rattle.cil_known.specs.Known.{enabled_in}
use Rattle.cil_neverallow.proofs.rules_lemmas.BehindLemmas.{are_records}
use Rattle.cil_tables.specs.Sections.{AreNamedRulesOf}
use Rattle.cil_tables.proofs.sections.named_rules.Goals as goal

pub returns : goal.returns
returns c = λ names known apart stand classes given branches.
    let i = c.args.instances.now in
    let of = AreNamedRulesOf (items_in i) (enabled_in c.args.known.now) (names kinds.Type_) c.args.classes.now (names kinds.Boolean) c.args.branches.now.rows c.args.types.now in
    record {
      allow = subst (of keywords.Allow) (sym c.into_list.ensures) (are_records _ _ _ i _ (c.in_ok-allow.ensures names known apart stand classes given branches));
      auditallow = subst (of keywords.AuditAllow) (sym c.into_list-2.ensures) (are_records _ _ _ i _ (c.in_ok-auditallow.ensures names known apart stand classes given branches));
      dontaudit = subst (of keywords.DontAudit) (sym c.into_list-3.ensures) (are_records _ _ _ i _ (c.in_ok-dontaudit.ensures names known apart stand classes given branches));
    }
