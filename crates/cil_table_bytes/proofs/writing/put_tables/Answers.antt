use Rattle.std.proofs.Common.{length, ◌∙◌}
use Rattle.cil_table_bytes.specs.Layout.{constraint_limits, rule_limits}
use Rattle.cil_table_bytes.specs.Told.{names_in}
use Rattle.cil_table_bytes.proofs.WriteLemmas.{laid_out}
use Rattle.cil_table_bytes.proofs.writing.put_tables.Goals as goal

pub returns : goal.returns
returns g c = λ before h.
    let t = c.args.tables.now in
    laid_out g.O.Out.holds t c.rules.result.now c.constraints.result.now c.put_constraints.result c.put_constraints.new.out before c.deref.result.now
    (c.deref.ensures.value ∙ c.in_ok-front_of.ensures) c.rules.ensures.rules c.constraints.ensures.constraints
    (c.put_constraints.ensures (constraint_limits t.levels.are_on (length t.users) (names_in t)) _
    (c.in_ok-put_sections.ensures (rule_limits (names_in t)) _ (c.in_ok-put_linked.ensures _ (c.in_ok-put.ensures before h))))
