use Rattle.std.proofs.Common.{arith, false, length, ◌<◌}
use Rattle.std.proofs.lemmas.List.Elements.{All-get_or}
use Rattle.cil_settle.specs.declared.edge.Edge.{Edge}
use Rattle.cil_settle.specs.Cycles.{IsWithin}
use Rattle.cil_settle.proofs.PlainLemmas.{no_starts, one_start, other_start, start_taken, starts_all}
use Rattle.cil_settle.proofs.plain.starts.Goals as goal
use Rattle.cil_settle.proofs.plain.starts.Goals.{then-edge-node, else-edge-node}

pub loop-edge-init : goal.loop-edge-init
loop-edge-init c = no_starts c.args.nodes c.args.node _ c.in_ok-need.ensures.len c.in_ok-need.ensures.ones

abbrev empty : Edge
empty = record { from = 0; to = 0; counted = false }

pub loop-edge-preserved : goal.loop-edge-preserved
loop-edge-preserved c =
    let within : c.loop-edge.edge-index < length c.args.edges.now = omega arith in
    start_taken c.args.edges.now c.loop-edge.edge-index empty c.args.nodes c.args.node c.if-edge-node.need.items within (elim c.if-edge-node.branch [
      | then-edge-node w ↦
          rw w.need-is (one_start _ _ c.args.nodes c.args.node _ w.if-edge-node.true (All-get_or (IsWithin c.args.nodes) c.args.edges.now c.loop-edge.edge-index empty within c.requires).to_node c.loop-edge.invariant)
      | else-edge-node w ↦ rw w.need-is (other_start _ _ c.args.nodes c.args.node _ w.if-edge-node.false c.loop-edge.invariant)
    ])

pub returns : goal.returns
returns c = starts_all c.args.edges.now c.loop-edge.edge-index c.args.nodes c.args.node _ (omega arith) c.loop-edge.invariant
