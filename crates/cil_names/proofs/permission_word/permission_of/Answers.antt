use Rattle.std.proofs.Common.{◌∙◌, ap, subst, sym}
use Rattle.std.specs.Prelude.{None, Some}
use Rattle.cil_names.specs.Classes.{IsClassFor}
use Rattle.cil_names.specs.Meanings.{meant}
use Rattle.cil_names.specs.PermissionWords.{has_permission_at, number_among}
use Rattle.cil_macros.specs.Item.{nobody}
use Rattle.cil_names.proofs.NamePlaceLemmas.{is_listed_by}
use Rattle.cil_names.proofs.PermissionNumberLemmas.{no_number_with, number_there_with}
use Rattle.cil_names.proofs.PermissionWordLemmas.{class_has, class_lacks}
use Rattle.cil_names.proofs.permission_word.permission_of.Goals as goal

pub returns-in_default-clause-entry : goal.returns-in_default-clause-entry
returns-in_default-clause-entry c = λ ss es lists w p xs is same entries permissions.
    let k = subst (IsClassFor ss es lists w) c.in_ok-found.was is in
    let lacks = k.listed xs entries permissions p.bytes in
    class_lacks (has_permission_at ss es xs p.bytes) (meant ss es nobody w) c.in_ok-found.found.entry k.named
    (sym lacks ∙ sym (is_listed_by c.in_ok-found.found.permissions.now p.bytes None (c.in_default.ensures ∙ ap (number_among c.in_ok-found.found.permissions.now) (sym same))))

pub returns-in_default-clause-number : goal.returns-in_default-clause-number
returns-in_default-clause-number c = λ ss es lists w p xs is same entries permissions.
    let k = subst (IsClassFor ss es lists w) c.in_ok-found.was is in
    let lacks = k.listed xs entries permissions p.bytes in
    no_number_with ss es xs lists w p
    (class_lacks (has_permission_at ss es xs p.bytes) (meant ss es nobody w) c.in_ok-found.found.entry k.named
    (sym lacks ∙ sym (is_listed_by c.in_ok-found.found.permissions.now p.bytes None (c.in_default.ensures ∙ ap (number_among c.in_ok-found.found.permissions.now) (sym same)))))

pub returns-clause-entry : goal.returns-clause-entry
returns-clause-entry c = λ ss es lists w p xs is same entries permissions.
    let k = subst (IsClassFor ss es lists w) c.in_ok-found.was is in
    let has = k.listed xs entries permissions p.bytes in
    class_has (has_permission_at ss es xs p.bytes) (meant ss es nobody w) c.in_ok-found.found.entry k.named
    (sym has ∙ sym (is_listed_by c.in_ok-found.found.permissions.now p.bytes (Some c.in-Some.place) (c.in-Some.ensures ∙ ap (number_among c.in_ok-found.found.permissions.now) (sym same))))

pub returns-clause-number : goal.returns-clause-number
returns-clause-number c = λ ss es lists w p xs is same entries permissions.
    let k = subst (IsClassFor ss es lists w) c.in_ok-found.was is in
    let has = k.listed xs entries permissions p.bytes in
    let at = c.in-Some.ensures ∙ ap (number_among c.in_ok-found.found.permissions.now) (sym same) in
    number_there_with ss es xs lists w p c.in_ok-found.found.entry k.named
    (class_has (has_permission_at ss es xs p.bytes) (meant ss es nobody w) c.in_ok-found.found.entry k.named
    (sym has ∙ sym (is_listed_by c.in_ok-found.found.permissions.now p.bytes (Some c.in-Some.place) at)))
    c.in_ok-found.found.permissions.now c.in-Some.place at c.in_ok-found.found.has_numbers k.numbered k.unnumbered c.number_if.result c.number_if.ensures.has c.number_if.ensures.has_none
