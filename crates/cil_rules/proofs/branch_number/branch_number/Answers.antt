use Rattle.std.proofs.Common.{◌<◌, ◌∙◌, length, sym, arith}
use Rattle.cil_macros.specs.Items.{items_in}
use Rattle.cil_rules.proofs.BranchLemmas.{branch_there, not_said}
use Rattle.cil_rules.proofs.branch_number.branch_number.Goals as goal

pub returns-in_default-branch : goal.returns-in_default-branch
returns-in_default-branch c = λ s booleans are. rw c.in_default-branch.ensures.value tt

pub returns-in_default : goal.returns-in_default
returns-in_default c = λ s booleans are.
    let b = c.in_Some-branch.branch in
    let within : b.at < length (items_in c.args.instances.now) = let lower = c.in_Some-branch.ensures.lower in let inside = c.requires in omega (arith, lower, inside) in
    not_said c.args.instances.now s booleans c.args.branches.now are b.at b.value c.in_Some-branch.ensures.booleanif within (sym c.number.ensures ∙ c.in_default.is) _ c.in_Some-branch.ensures.value

pub returns : goal.returns
returns c = λ s booleans are.
    let b = c.in_Some-branch.branch in
    let within : b.at < length (items_in c.args.instances.now) = let lower = c.in_Some-branch.ensures.lower in let inside = c.requires in omega (arith, lower, inside) in
    branch_there c.args.instances.now s booleans c.args.branches.now are b.at b.value c.in_Some-branch.ensures.booleanif within c.in-Some.number (sym c.number.ensures ∙ c.in-Some.is)
    c.in_ok-counted.field-0 c.in_ok-counted.ensures _ c.in_Some-branch.ensures.value
