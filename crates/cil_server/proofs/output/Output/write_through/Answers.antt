use Rattle.std.specs.Prelude.{not}
use Rattle.std.proofs.Common.{refl, sym, ◌∙◌, ap}
use Rattle.cil_server.proofs.StreamLemmas.{through_when}
use Rattle.cil_server.proofs.output.Output.write_through.Goals as goal

pub returns-then-not-write_all : goal.returns-then-not-write_all
returns-then-not-write_all g c =
    through_when _ _ _ _ _ c.args.self.now c.flush.new.self _ c.args.bytes.now c.write_all.result c.self.view_is c.flush.ensures.told c.flush.ensures.none c.if-self.false
    (sym (ap not c.if-not-write_all.true)) refl c.write_all.ensures.gives c.write_all.ensures.counts refl

pub returns-else-not-write_all : goal.returns-else-not-write_all
returns-else-not-write_all g c =
    through_when _ _ _ _ _ c.args.self.now c.flush.new.self _ c.args.bytes.now c.write_all.result c.self.view_is c.flush.ensures.told c.flush.ensures.none c.if-self.false
    (c.if-self.false ∙ sym (ap not c.if-not-write_all.false)) refl c.write_all.ensures.gives c.write_all.ensures.counts refl
