use Rattle.std.specs.Prelude.{MatchOption, None, Some}
use Rattle.std.proofs.Common.{◌≡◌, ◌∙◌, ◌-◌, List, [], ◌∷◌, ap, arith, drop, length, refl, subst, sym, take}
use Rattle.std.proofs.lemmas.List.{take_all}
use Rattle.cil_syntax.specs.declared.term.Term as rust
use Rattle.cil_faults.specs.Spots.{spot_at}
use Rattle.cil_syntax.specs.Said.{all_said, said_of}
use Rattle.cil_syntax.specs.Terms.{Name, Terms, cons}
use Rattle.cil_syntax.specs.declared.term.Word.{Word}
use Rattle.cil_syntax.proofs.SaidLemmas.{first_said, name_said}
use Rattle.cil_tables.specs.Booleans.{named_on}
use Rattle.cil_tables.proofs.booleans.named_on.Goals as goal

rest_is : (ts : List rust.Term) → take (length ts - 1) (drop 1 ts) ≡ drop 1 ts
rest_is [] = refl
rest_is (t ∷ ts) = take_all (length (t ∷ ts) - 1) ts (omega arith)

pub returns-in-Name : goal.returns-in-Name
returns-in-Name c =
    let m = c.args.«module» in
    let ts = c.args.terms.now in
    let name = ap (said_of m) c.in-Name.is ∙ name_said m c.in-Name.field-0 c.in-Name.name ∙ ap (Name (spot_at m c.in-Name.field-0)) (sym c.as_slice.ensures) in
    let rest = sym (rest_is ts) in
    let said = first_said m ts c.first-item.result c.in-len1-up.len_at_least c.first-item.is ∙ (λ i. cons (name i) (all_said m (rest i))) in
    subst (λ (us : Terms Word). MatchOption c.if_yes.result (named_on us ≡ None) (λ n. named_on us ≡ Some n.now)) (sym said) (c.if_yes.ensures (spot_at m c.in-Name.field-0))
