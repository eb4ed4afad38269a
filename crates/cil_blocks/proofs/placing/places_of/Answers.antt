use Rattle.cil_syntax.specs.Program.{program_of}
use Rattle.cil_blocks.proofs.PlacingLemmas.{none_reached}
use Rattle.cil_blocks.proofs.placing.places_of.Goals as goal

pub loop-rank-init : goal.loop-rank-init
loop-rank-init c = record {
  first = none_reached (program_of c.args.statements.now) _ c.new-places.result c.args.entries.now c.new-places.ensures;
  written = c.requires.written;
}
