use Rattle.std.proofs.Common.{arith}
use Rattle.std.proofs.lemmas.Result.{on_ok_weaker}
use Rattle.cil_names.proofs.RowLemmas.{pushed_list}
use Rattle.cil_words.proofs.CellLemmas.{no_fewer}
use Rattle.cil_words.proofs.number_lists.Lists.push.Goals as goal

pub returns-clause-pushed : goal.returns-clause-pushed
returns-clause-pushed c =
    let i = c.self.inside in
    on_ok_weaker c.push_small.result
    (λ put. pushed_list i.numbers.items c.args.list.now i.starts.items _ _ c.len-start.result c.args.self.now c.self.invariant c.self.view_is
    (let n = c.len-start.ensures in let same = i.numbers.ok.0 in omega (arith, n, same)) c.in_ok-push_number.ensures.pushed put)
    c.push_small.ensures.pushed

pub returns-clause-none_lost : goal.returns-clause-none_lost
returns-clause-none_lost c =
    no_fewer c.self.inside.starts.items _ c.push_number.new.numbers.items c.self.inside.numbers.items c.push_small.new.numbers.items c.args.self.now c.self.view_is c.in_ok-push_number.ensures.pushed
