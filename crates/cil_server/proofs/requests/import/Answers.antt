use Rattle.cil_server.specs.Step.{Step}
use Rattle.cil_server.proofs.requests.import.Goals as goal

pub returns : goal.returns
returns g c = record {
  reply = _;
  step = Step.import_ c.import-imported.result c.import-imported.ensures.modules c.import-imported.ensures.loaded;
  told = c.put_imported.ensures;
}
