use Rattle.std.proofs.Common.{rules, ◌≡◌, ◌++◌, ◌∷◌, [], ◌∙◌, append_assoc}
use Rattle.cil_known.proofs.spelled.joined.Goals as goal

pub returns : goal.returns
returns c =
    let whole : c.from_vec.result ≡ (c.args.around.now ++ 46 ∷ []) ++ c.args.name.now = search rules in
    whole ∙ append_assoc c.args.around.now (46 ∷ []) c.args.name.now
