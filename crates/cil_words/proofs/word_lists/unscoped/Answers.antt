use Rattle.std.proofs.Common.{◌<◌, length, ◌∙◌, ap, arith}
use Rattle.std.specs.Prelude.{Some}
use Rattle.std.proofs.lemmas.Option.{IfSome_then}
use Rattle.cil_macros.specs.Items.{all_placed, items_in, namespaces_in, scope_by}
use Rattle.cil_names.specs.Entries.{candidates_of}
use Rattle.cil_names.specs.Soles.{in_scope}
use Rattle.cil_words.proofs.word_lists.unscoped.Goals as goal

pub returns-clause-candidate : goal.returns-clause-candidate
returns-clause-candidate c =
    let i = c.args.instances.now in
    let ps = all_placed i in
    let w = c.args.word.now in
    let place = c.in-Some.place in
    let within : place < length (items_in i) = let h = c.if-place-len.false in let e = c.len.ensures.items in omega (arith, h, e) in
    IfSome_then c.unscoped.result c.unscoped.ensures.candidate (λ d more.
    ap (λ o. candidates_of (namespaces_in i) c.args.names.now (in_scope (scope_by ps o) w.word)) c.in-Some.is
    ∙ more (namespaces_in i) (scope_by ps (Some place)) (c.are_closed.ensures place within))
