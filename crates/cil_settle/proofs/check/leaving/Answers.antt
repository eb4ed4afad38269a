use Rattle.std.proofs.Common.{arith, length, ◌<◌, false}
use Rattle.cil_settle.specs.declared.edge.Edge.{Edge}
use Rattle.std.proofs.lemmas.List.Elements.{All-get_or}
use Rattle.cil_settle.specs.Cycles.{IsWithin}
use Rattle.cil_settle.proofs.CheckLemmas.{leaving_all, leaving_more, leaving_none}
use Rattle.cil_settle.proofs.check.leaving.Goals as goal

abbrev empty : Edge
empty = record { from = 0; to = 0; counted = false }

pub loop-edge-init : goal.loop-edge-init
loop-edge-init c = leaving_none c.args.nodes _ c.in_ok-flags.ensures.len c.in_ok-flags.ensures.none

pub loop-edge-preserved : goal.loop-edge-preserved
loop-edge-preserved c =
    let within : c.loop-edge.edge-index < length c.args.edges.now = omega arith in
    leaving_more c.args.edges.now c.loop-edge.edge-index empty c.args.nodes _ within (All-get_or (IsWithin c.args.nodes) c.args.edges.now c.loop-edge.edge-index empty within c.requires).from_node c.loop-edge.invariant

pub returns : goal.returns
returns c = leaving_all c.args.edges.now c.loop-edge.edge-index c.args.nodes _ (omega arith) c.loop-edge.invariant
