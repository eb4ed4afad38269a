use Rattle.cil_attrs.proofs.StandingLemmas.{are_standing, have_members}
use Rattle.cil_attrs.proofs.standing.standing_of.Goals as goal

pub returns : goal.returns
returns c = λ k xs names kind known section are counted. (
  are_standing k xs names kind known section c.means_what_it_names.ensures c.args.held.now are c.args.items counted _ c.in_ok-sets.ensures,
  have_members k xs names kind known section c.means_what_it_names.ensures c.args.held.now are c.args.items counted _ c.in_ok-sets.ensures,
)
