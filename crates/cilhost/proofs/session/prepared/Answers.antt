use Rattle.cilhost.proofs.session.prepared.Goals as goal

pub returns-clause-installed : goal.returns-clause-installed
returns-clause-installed g c = rw c.hasher.ensures.stays at c.in_ok-install_all.ensures.installed
