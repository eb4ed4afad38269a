use Rattle.std.proofs.Common.{◌∙◌, ◌+◌, ap, subst, sym}
use Rattle.cil_syntax.specs.Said.{args_of}
use Rattle.cil_macros.specs.declared.parameters.Parameters as code
use Rattle.cil_macros.specs.NamedParameters.{AreAdded}
use Rattle.cil_macros.specs.Parameters.{parameters_in}
use Rattle.cil_macros.proofs.ArgumentLemmas.{parameters_listed}
use Rattle.cil_macros.proofs.ServingLemmas.{AreLeft, all_added, begun, one_added, passed_over}
use Rattle.cil_macros.proofs.parameters.Parameters.add_all.Goals as goal
use Rattle.cil_macros.proofs.parameters.Parameters.add_all.Goals.{in-Some+in_ok-add_one, in_default}

pub loop-term-init : goal.loop-term-init
loop-term-init c = begun c.args.called.now.at.«module» c.args.number c.listed-term-items.result.now c.args.self.now

pub loop-term-preserved : goal.loop-term-preserved
loop-term-preserved c =
    let m = c.args.called.now.at.«module» in
    let terms = c.listed-term-items.result.now in
    elim c.match-parameter.branch [
      | in-Some+in_ok-add_one w ↦
          let more = one_added m c.args.number terms c.args.self.now c.loop-term.term-index c.loop-term.before c.term-item.result c.loop-term-test.true c.term-item.is c.loop-term.self
          c.loop-term.invariant w.in-Some.parameter.kind _ w.add_one.new.self w.in-Some.ensures w.in_ok-add_one.ensures in
          subst (λ n. AreLeft m c.args.number terms c.args.self.now (c.loop-term.term-index + 1) n c.match-parameter.self) (sym w.before-is)
          (subst (λ (ps : code.Parameters). AreLeft m c.args.number terms c.args.self.now (c.loop-term.term-index + 1) (c.loop-term.before + 1) ps) (sym w.self-is) more)
      | in_default w ↦
          let over = passed_over m c.args.number terms c.args.self.now c.loop-term.term-index c.loop-term.before c.term-item.result c.loop-term-test.true c.term-item.is c.loop-term.self
          c.loop-term.invariant w.in_default.ensures in
          subst (λ n. AreLeft m c.args.number terms c.args.self.now (c.loop-term.term-index + 1) n c.match-parameter.self) (sym w.before-is)
          (subst (λ (ps : code.Parameters). AreLeft m c.args.number terms c.args.self.now (c.loop-term.term-index + 1) c.loop-term.before ps) (sym w.self-is) over)
    ]

pub returns : goal.returns
returns c =
    subst (λ xs. AreAdded c.args.number xs c.args.self.now c.loop-term.self) (sym (parameters_listed (args_of c.args.called.now) ∙ ap parameters_in (sym c.listed-term-items.ensures)))
    (all_added c.args.called.now.at.«module» c.args.number c.listed-term-items.result.now c.args.self.now c.loop-term.term-index c.loop-term.before c.loop-term.self c.loop-term-test.false
    c.loop-term.invariant)
