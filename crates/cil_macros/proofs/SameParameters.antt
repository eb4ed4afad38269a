-- Parameters with their kinds have the names that are compared where a macro is read.
use Rattle.std.proofs.Common.{◌≡◌, ◌++◌, map, refl, ◌∙◌}
use Rattle.std.proofs.lemmas.List.{map-append}
use Rattle.cil_syntax.specs.declared.term.Word.{Word}
use Rattle.cil_syntax.specs.Terms.{Leaf, Name, Form, Terms, nil, cons}
use Rattle.cil_syntax.specs.Written.{Named, parameter_in as named_in, parameters_in as names_in}
use Rattle.cil_macros.specs.Laws.{HaveTheirNames}
use Rattle.cil_macros.specs.Parameters.{Parameter, parameter_in, parameters_in}

abbrev named : Parameter → Named
named p = p.name

same_name : (ts : Terms Word) → map named (parameter_in ts) ≡ named_in ts
same_name nil = refl
same_name (cons (Leaf w) ts) = refl
same_name (cons (Name at name) ts) = refl
same_name (cons (Form at kind parts) nil) = refl
same_name (cons (Form at kind parts) (cons (Leaf w) ts)) = refl
same_name (cons (Form at kind parts) (cons (Name bt name) ts)) = refl
same_name (cons (Form at kind parts) (cons (Form bt other more) ts)) = refl

same_names : (ts : Terms Word) → map named (parameters_in ts) ≡ names_in ts
same_names nil = refl
same_names (cons (Leaf w) ts) = same_names ts
same_names (cons (Name at name) ts) = same_names ts
same_names (cons (Form at op parts) ts) = map-append named (parameter_in parts) (parameters_in ts) ∙ (λ i. same_name parts i ++ same_names ts i)

pub have_their_names : HaveTheirNames
have_their_names nil = refl
have_their_names (cons t nil) = refl
have_their_names (cons t (cons (Leaf w) ts)) = refl
have_their_names (cons t (cons (Name at name) ts)) = refl
have_their_names (cons t (cons (Form at op parts) ts)) = same_names parts
