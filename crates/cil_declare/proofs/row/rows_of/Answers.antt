use Rattle.std.proofs.Common.{◌≡◌, ◌∷◌, ◌++◌, [], ◌∙◌, ap, arith, length, subst}
use Rattle.cil_macros.specs.Items.{items_in}
use Rattle.cil_declare.specs.Rows.{AreRowsUpTo}
use Rattle.cil_declare.proofs.RowLemmas.{first_rows}
use Rattle.cil_declare.proofs.row.rows_of.Goals as goal

pub loop-at-init : goal.loop-at-init
loop-at-init c =
    first_rows c.args.instances.now _
    (c.in_ok-push_row.ensures ∙ ap (λ old. old ++ c.object_row.result ∷ []) c.new-rows.ensures.items ∙ ap (λ row. row ∷ []) c.object_row.ensures)

pub push_rows-requires : goal.push_rows-requires
push_rows-requires c = let t = c.loop-at-test.true in let n = c.len-at-end.ensures.items in omega (arith, t, n)

pub loop-at-preserved : goal.loop-at-preserved
loop-at-preserved c = c.in_ok-push_rows.ensures c.loop-at.invariant

pub returns : goal.returns
returns c =
    let i = c.args.instances.now in
    let test = c.loop-at-test.false in
    let end = c.loop-at.auto.at-end in
    let n = c.len-at-end.ensures.items in
    let all : c.loop-at.at ≡ length (items_in i) = omega (arith, test, end, n) in
    subst (λ k. AreRowsUpTo i k c.loop-at.rows.items) all c.loop-at.invariant
