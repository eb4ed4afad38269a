use Rattle.std.proofs.Common.{◌∙◌, ap}
use Rattle.std.specs.List.{list_any}
use Rattle.cil_macros.specs.Meant.{is_list}
use Rattle.cil_macros.proofs.CallOpening.{macro_at, macro_known, next_known}
use Rattle.cil_macros.proofs.openings.opening_of.Goals as goal

pub arguments-requires-clause-call : goal.arguments-requires-clause-call
arguments-requires-clause-call c = next_known c.args.scene.now c.requires.scene c.args.openings.now c.requires.opened c.args.body.now c.requires.next

pub arguments-requires-clause-standing : goal.arguments-requires-clause-standing
arguments-requires-clause-standing c = macro_known c.args.scene.now c.requires.scene c.args.openings.now c.requires.opened c.args.body.now c.requires.next

pub home_at-home-requires : goal.home_at-home-requires
home_at-home-requires c = next_known c.args.scene.now c.requires.scene c.args.openings.now c.requires.opened c.args.body.now c.requires.next

pub returns : goal.returns
returns c =
    let s = c.args.scene.now in
    record {
      home = λ call e. c.home_at-home.ensures call e;
      arguments = λ call u e f. c.in_ok-arguments.ensures call u e f (macro_at s c.requires.scene c.args.openings.now c.requires.opened c.args.body.now c.requires.next call u e f);
      lists = c.has_list-lists.ensures ∙ ap (list_any is_list) c.as_slice.ensures.value;
    }
