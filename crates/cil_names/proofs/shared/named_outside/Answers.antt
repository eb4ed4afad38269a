use Rattle.std.proofs.Common.{◌≡◌, ◌∙◌, ap, subst, sym}
use Rattle.std.specs.Prelude.{Some, slice_get}
use Rattle.std.proofs.lemmas.Option.{slice_get-get_or, slice_get_within}
use Rattle.cil_macros.specs.Item.{nobody}
use Rattle.cil_names.specs.Entries.{IsAnswer, scoped}
use Rattle.cil_names.specs.Shared.{IsOutside}
use Rattle.cil_names.proofs.AnswerLemmas.{answer_is}
use Rattle.cil_names.proofs.SharedLemmas.{named_none, no_symbol, where_live}
use Rattle.cil_names.proofs.shared.named_outside.Goals as goal

-- the word names nothing
pub returns-in_err-named : goal.returns-in_err-named
returns-in_err-named c = λ xs entries.
    let ss = c.args.namespaces.now in
    let es = c.args.entries.now in
    let w = scoped ss c.args.scope.now c.args.word.now in
    subst (IsOutside ss es xs c.args.sign w) (sym c.from_residual.ensures)
    (named_none xs c.args.sign w (subst (IsAnswer ss xs es nobody w) (sym c.in_err-named.ensures.value) (answer_is ss c.are_namespaces.ensures xs es entries nobody w)))

-- nothing of a wanted kind has the name
pub returns-in_err-found : goal.returns-in_err-found
returns-in_err-found c = λ xs entries.
    let ss = c.args.namespaces.now in
    let es = c.args.entries.now in
    let w = scoped ss c.args.scope.now c.args.word.now in
    let d = c.in_ok-named.named in
    let e = c.index-entries-named.result in
    let at : slice_get es d ≡ Some e = slice_get-get_or es d e c.in_ok-named.ensures.within ∙ ap Some (sym c.index-entries-named.is) in
    subst (IsOutside ss es xs c.args.sign w) (sym c.from_residual-in_err-found.ensures)
    (no_symbol ss c.are_namespaces.ensures xs es entries c.args.sign w d
    (subst (IsAnswer ss xs es nobody w) (sym c.in_ok-named.ensures.value) (answer_is ss c.are_namespaces.ensures xs es entries nobody w)) e at
    (rw c.as_slice.ensures at c.in_err-found.ensures))

pub where_always-requires : goal.where_always-requires
where_always-requires c = let h = c.in_ok-found.ensures in slice_get_within c.args.entries.now c.in_ok-found.found h.entry h.at

pub returns : goal.returns
returns c = λ xs entries.
    let ss = c.args.namespaces.now in
    let es = c.args.entries.now in
    let w = scoped ss c.args.scope.now c.args.word.now in
    let d = c.in_ok-named.named in
    let e = c.index-entries-named.result in
    let at : slice_get es d ≡ Some e = slice_get-get_or es d e c.in_ok-named.ensures.within ∙ ap Some (sym c.index-entries-named.is) in
    where_live ss c.are_namespaces.ensures xs es entries c.args.sign w d
    (subst (IsAnswer ss xs es nobody w) (sym c.in_ok-named.ensures.value) (answer_is ss c.are_namespaces.ensures xs es entries nobody w)) e at
    c.in_ok-found.found (rw c.as_slice.ensures at c.in_ok-found.ensures) c.where_always.result c.where_always.ensures
