use Rattle.std.proofs.Common.{◌∙◌, ap, get_or, refl}
use Rattle.std.specs.List.{list_any}
use Rattle.cil_syntax.specs.declared.kind.Kind.TheVariants as kinds
use Rattle.cil_syntax.specs.Kinds.{kind_number}
use Rattle.cil_macros.specs.DeclaredInBodies.{has_kind}
use Rattle.cil_macros.proofs.DeclaredLemmas.{asked_in_kinds, kind_here, kind_later, no_kind_left}
use Rattle.cil_macros.proofs.declared_names.Declared.has.Goals as goal

pub returns-then-contains : goal.returns-then-contains
returns-then-contains c = λ ws are within.
    let has = has_kind c.args.self.now c.args.number c.args.name.now in
    let ks = c.kinds-kind-items.result.now in
    kind_here (λ kind. has (kind_number kind)) ks c.loop-kind.kind-index (get_or ks c.loop-kind.kind-index kinds.Type_) kinds.Type_ c.loop-kind-test.true refl c.loop-kind.invariant (c.if-contains.ensures ∙ ap has c.number.ensures)
    ∙ ap (list_any (λ kind. has (kind_number kind))) c.kinds-kind-items.ensures
    ∙ asked_in_kinds ws c.args.self.now are.in_bodies c.args.number within c.args.name c.args.sign

pub loop-kind-preserved : goal.loop-kind-preserved
loop-kind-preserved c =
    let has = has_kind c.args.self.now c.args.number c.args.name.now in
    let ks = c.kinds-kind-items.result.now in
    kind_later (λ kind. has (kind_number kind)) ks c.loop-kind.kind-index (get_or ks c.loop-kind.kind-index kinds.Type_) kinds.Type_ c.loop-kind-test.true refl c.loop-kind.invariant (c.if-contains.ensures ∙ ap has c.number.ensures)

pub returns : goal.returns
returns c = λ ws are within.
    let has = has_kind c.args.self.now c.args.number c.args.name.now in
    no_kind_left (λ kind. has (kind_number kind)) c.kinds-kind-items.result.now c.loop-kind.kind-index c.loop-kind-test.false c.loop-kind.invariant
    ∙ ap (list_any (λ kind. has (kind_number kind))) c.kinds-kind-items.ensures
    ∙ asked_in_kinds ws c.args.self.now are.in_bodies c.args.number within c.args.name c.args.sign
