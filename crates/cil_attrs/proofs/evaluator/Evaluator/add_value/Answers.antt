use Rattle.std.proofs.Common.{◌∙◌, ◌||◌, ap}
use Rattle.cil_base.specs.Among.{among}
use Rattle.cil_syntax.specs.Said.{said_of}
use Rattle.cil_known.specs.Known.{meant_in}
use Rattle.cil_attrs.proofs.HoldingLemmas.{value_as_family}
use Rattle.cil_attrs.proofs.evaluator.Evaluator.add_value.Goals as goal

pub returns : goal.returns
returns c = λ k xs names space m f more known begin every held.
    let r = c.in_ok-rest.ensures c.args.«module» (λ w. meant_in k (f w)) more begin in (
      r.0,
      λ t n is_item. r.1 n ∙ ap (λ b. among c.args.set.now n || b)
          (value_as_family k xs names known c.means_what_it_names.ensures space m c.args.self.now.held.now c.args.self.now.all.now every f (said_of c.args.«module» c.args.term.now) held t n is_item),
    )
