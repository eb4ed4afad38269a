use Rattle.std.proofs.Common.{refl}
use Rattle.cil_names.specs.Unresolved.{term_with}
use Rattle.std.proofs.lemmas.Result.{IfOk-from_err}
use Rattle.cil_classes.proofs.PartLemmas.{no_part, some_part}
use Rattle.cil_classes.proofs.parts.part_of.Goals as goal

pub returns-in-Some : goal.returns-in-Some
returns-in-Some c = λ xs names f known apart classes nodes begin.
    some_part c.args.known.now xs names known c.args.classes.now classes apart c.args.nodes.now (term_with f c.args.«module» c.args.term.now) c.in-Some.given.class c.in-Some.given.mask _
    (c.in-Some.ensures xs names f known classes begin) refl refl c.new.ensures.items

pub returns : goal.returns
returns c = λ xs names f known apart classes nodes begin.
    no_part c.args.known.now xs names known c.args.classes.now classes apart c.args.nodes.now (term_with f c.args.«module» c.args.term.now) _
    (c.in_default.ensures xs names f known classes begin) (c.in_ok-from.ensures xs names f known nodes begin) refl

pub returns-in_err-from : goal.returns-in_err-from
returns-in_err-from c = IfOk-from_err c.from_residual.result _ c.from_residual.ensures.0
