use Rattle.std.proofs.Common.{◌≡◌, refl, subst, ◌∙◌}
use Rattle.std.specs.Prelude.{None}
use Rattle.cil_syntax.specs.Forms.{word_and_term}
use Rattle.cil_syntax.specs.Said.{all_said, args_of, said_of}
use Rattle.cil_classes.specs.Givings.{IsSet}
use Rattle.cil_classes.proofs.GivingLemmas.{no_permission_named, no_set, set_given, set_meant}
use Rattle.cil_classes.proofs.givens.set_giving.Goals as goal

pub returns-in_default : goal.returns-in_default
returns-in_default c = λ xs names x f known enabled is says are.
    let m = c.args.statement.now.at.«module» in
    no_set c.args.known.now xs names known x f (args_of c.args.statement.now) says is (subst (λ ts. word_and_term (all_said m ts) ≡ None) c.as_slice.ensures.value (c.in_default.ensures m))

pub returns-in_default-entry_of : goal.returns-in_default-entry_of
returns-in_default-entry_of c = λ xs names x f known enabled is says are.
    let k = c.args.known.now in
    let m = c.args.statement.now.at.«module» in
    let args = args_of c.args.statement.now in
    let t = said_of m c.in-Some.term.now in
    let form : IsSet args t = subst (λ ts. IsSet (all_said m ts) t) c.as_slice.ensures.value (c.in-Some.ensures m) in
    no_permission_named k xs names known x f args says is form.0 t form.1
    (c.in_default-entry_of.ensures xs names (f form.0) known (c.meaning_at.ensures ∙ set_meant k xs names known x f args says is form.0 t form.1 c.args.words.now are))

pub returns : goal.returns
returns c = λ xs names x f known enabled is says are.
    let k = c.args.known.now in
    let m = c.args.statement.now.at.«module» in
    let args = args_of c.args.statement.now in
    let t = said_of m c.in-Some.term.now in
    let form : IsSet args t = subst (λ ts. IsSet (all_said m ts) t) c.as_slice.ensures.value (c.in-Some.ensures m) in
    set_given k xs names known x f args says is form.0 t form.1 enabled c.in-Some-entry_of.entry
    (c.in-Some-entry_of.ensures xs names (f form.0) known (c.meaning_at.ensures ∙ set_meant k xs names known x f args says is form.0 t form.1 c.args.words.now are))
    c.args.words.now are _ refl refl refl c.behind_first.ensures
