use Rattle.std.specs.Prelude.{OnOk}
use Rattle.std.proofs.Common.{◌≡◌, ◌++◌, sym, ◌∙◌, ap, subst}
use Rattle.std.proofs.lemmas.List.{append-nil}
use Rattle.cil_declare.specs.Runs.{faults_at, row_faults}
use Rattle.cil_declare.proofs.DoneLemmas.{row_at}
use Rattle.cil_declare.proofs.clash.push_row.Goals as goal

pub push_clash-requires : goal.push_clash-requires
push_clash-requires c = row_at c.args.instances.now c.args.row.now c.requires _ c.in-Some.is

pub returns-in_default : goal.returns-in_default
unfolding row_faults
returns-in_default c = sym (ap (λ o. c.args.faults.now.items ++ faults_at c.args.instances.now o) c.in_default.is ∙ append-nil _)

pub returns : goal.returns
unfolding row_faults
returns c =
    subst (λ o. OnOk c.push_clash.result (c.push_clash.new.faults.items ≡ c.args.faults.now.items ++ faults_at c.args.instances.now o)) (sym c.in-Some.is) c.push_clash.ensures
