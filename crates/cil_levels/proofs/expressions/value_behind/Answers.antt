use Rattle.std.proofs.Common.{◌≡◌, ◌∷◌, ◌∙◌, [], ap, arith, get_or, sym}
use Rattle.cil_syntax.specs.declared.term.Term as rust
use Rattle.cil_mls.proofs.ValueLemmas.{two_of}
use Rattle.cil_levels.proofs.SecondLemmas.{few_second, many_second, two_second}
use Rattle.cil_levels.proofs.expressions.value_behind.Goals as goal

pub returns-in-len1 : goal.returns-in-len1
returns-in-len1 c = few_second c.args.by.now.held.now c.args.by.now.count c.args.words.now c.args.terms.now c.in-len1.len_below c.none-in-len1.result.words c.none-in-len1.ensures

pub returns-in-len2 : goal.returns-in-len2
returns-in-len2 c =
    let a = c.first-item.result in
    let b = c.second-item.result in
    let above = c.in-len2.len_at_least in
    let below = c.in-len2.len_below in
    let two : c.args.terms.now ≡ a ∷ b ∷ [] =
    two_of c.args.terms.now a b (omega (arith, above, below)) ∙ ap (λ (z : rust.Term). z ∷ get_or c.args.terms.now 1 b ∷ []) (sym c.first-item.is) ∙ ap (λ (z : rust.Term). a ∷ z ∷ []) (sym c.second-item.is) in
    two_second c.args.by.now.held.now c.args.by.now.count c.args.words.now c.args.terms.now a b two c.value.result c.value-in-len2.result c.value.ensures c.value-in-len2.ensures

pub returns-in-len3-up : goal.returns-in-len3-up
returns-in-len3-up c = many_second c.args.by.now.held.now c.args.by.now.count c.args.words.now c.args.terms.now c.in-len3-up.len_at_least c.none-in-len3-up.result.words c.none-in-len3-up.ensures
