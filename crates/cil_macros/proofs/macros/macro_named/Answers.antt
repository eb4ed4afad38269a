use Rattle.std.proofs.Common.{rules, ◌∙◌, ℕ, get_or, refl, sym, ap, subst, arith}
use Rattle.cil_syntax.specs.Scopes.{IsTaken, asked}
use Rattle.cil_blocks.specs.Numbers.{AreWithin}
use Rattle.cil_blocks.specs.Places.{spaces_in}
use Rattle.cil_macros.specs.Macros.{SaysOf, all_standing}
use Rattle.cil_syntax.proofs.AskedLemmas.{is_global, is_parted}
use Rattle.cil_macros.proofs.MacroLemmas.{asked_here, asked_later, first_in, never_asked, next_asked, one_within, whole, within_asked}
use Rattle.cil_macros.proofs.macros.macro_named.Goals as goal

pub macro_asked-named-requires-clause-within : goal.macro_asked-named-requires-clause-within
macro_asked-named-requires-clause-within c =
    let all = within_asked (spaces_in c.args.spaces.now) c.args.scope.now c.path_of-path.result.global c.requires.within in
    one_within c.asked_scope-from-items.result.now c.loop-from.from-index (get_or c.asked_scope-from-items.result.now c.loop-from.from-index 0) 0 (search (rules, arith)) refl (spaces_in c.args.spaces.now)
    (subst (AreWithin (spaces_in c.args.spaces.now)) (sym c.asked_scope-from-items.ensures) all)

pub returns-then-is_some : goal.returns-then-is_some
returns-then-is_some c =
    let s = c.args.spaces.now in
    let w = c.args.word.now in
    let ks = c.asked_scope-from-items.result.now in
    let k : ℕ = get_or ks c.loop-from.from-index 0 in
    let taken : IsTaken w.bytes c.path_of-path.result.global c.path_of-path.result.names.now = search rules in
    let so = c.macro_asked-named.ensures (asked w.bytes).name (asked w.bytes).inner (is_parted w.bytes _ _ taken) in
    let all = whole s w c.args.scope.now c.path_of-path.result.global c.requires.macros.namespaces (is_global w.bytes _ _ taken) in
    subst (λ o. SaysOf (all_standing s) o c.macro_asked-named.result)
    (sym (all ∙ ap (first_in s (asked w.bytes).name (asked w.bytes).inner) (sym c.asked_scope-from-items.ensures) ∙ c.loop-from.invariant
    ∙ ap (first_in s (asked w.bytes).name (asked w.bytes).inner) (next_asked ks c.loop-from.from-index k 0 (search (rules, arith)) refl)
    ∙ asked_here s (asked w.bytes).name (asked w.bytes).inner k _ c.macro_asked-named.result (sym c.if-is_some.ensures) so)) so

pub loop-from-preserved : goal.loop-from-preserved
loop-from-preserved c =
    let s = c.args.spaces.now in
    let w = c.args.word.now in
    let ks = c.asked_scope-from-items.result.now in
    let k : ℕ = get_or ks c.loop-from.from-index 0 in
    let taken : IsTaken w.bytes c.path_of-path.result.global c.path_of-path.result.names.now = search rules in
    let so = c.macro_asked-named.ensures (asked w.bytes).name (asked w.bytes).inner (is_parted w.bytes _ _ taken) in
    c.loop-from.invariant
    ∙ ap (first_in s (asked w.bytes).name (asked w.bytes).inner) (next_asked ks c.loop-from.from-index k 0 (search (rules, arith)) refl)
    ∙ asked_later s (asked w.bytes).name (asked w.bytes).inner k _ c.macro_asked-named.result (sym c.if-is_some.ensures) so

pub returns : goal.returns
returns c =
    let s = c.args.spaces.now in
    let w = c.args.word.now in
    let taken : IsTaken w.bytes c.path_of-path.result.global c.path_of-path.result.names.now = search rules in
    let all = whole s w c.args.scope.now c.path_of-path.result.global c.requires.macros.namespaces (is_global w.bytes _ _ taken) in
    all ∙ ap (first_in s (asked w.bytes).name (asked w.bytes).inner) (sym c.asked_scope-from-items.ensures) ∙ c.loop-from.invariant
    ∙ never_asked s (asked w.bytes).name (asked w.bytes).inner c.asked_scope-from-items.result.now c.loop-from.from-index (search (rules, arith))
