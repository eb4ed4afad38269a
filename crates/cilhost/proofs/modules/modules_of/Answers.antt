use Rattle.cilhost.proofs.modules.modules_of.Goals as goal

pub returns-clause-installed : goal.returns-clause-installed
returns-clause-installed g c = c.in_ok-add_all.ensures.installed
