use Rattle.std.specs.Prelude.{◌≡◌, true}
use Rattle.std.proofs.lemmas.Cmp.{nat_list_cmp_total}
use Rattle.cil_base.specs.Lists.{text_cmp, one_list}
use Rattle.cil_base.proofs.laws.one_list.Goals as goal

pub returns : goal.returns
returns c = λ set xs ys a b. one_list text_cmp nat_list_cmp_total (λ t. set t ≡ true) xs ys a b
