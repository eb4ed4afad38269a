use Rattle.cil_server.specs.Step.{Step}
use Rattle.cil_server.proofs.requests.install.Goals as goal

pub returns : goal.returns
returns g c = record {
  reply = _;
  step = Step.install c.install-installed.result c.install-installed.ensures.modules c.install-installed.ensures.loaded;
  told = c.put_installed.ensures;
}
