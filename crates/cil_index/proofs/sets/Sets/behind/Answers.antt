use Rattle.std.proofs.Common.{arith}
use Rattle.cil_index.proofs.SetLemmas.{count_all}
use Rattle.cil_index.proofs.sets.Sets.behind.Goals as goal

pub returns : goal.returns
returns c =
    let size = c.len.ensures in
    let all = count_all c.self.inside.ones c.self.inside.several.items c.args.self.now c.self.view_is in omega (arith, size, all)
