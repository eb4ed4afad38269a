use Rattle.std.proofs.Common.{◌∙◌, ap, sym, subst}
use Rattle.cil_syntax.specs.Written.{Written, is_macro}
use Rattle.cil_blocks.specs.Contents.{name_of}
use Rattle.cil_blocks.specs.Namespaces.{Key}
use Rattle.cil_macros.specs.Macros.{SaysNearer, all_standing}
use Rattle.cil_macros.proofs.MacroLemmas.{kept_within, macro_added, no_macro, number_in, placed_here, stands_here}
use Rattle.cil_macros.proofs.macros.Macros.add.Goals as goal

pub returns-then-not-is_macro_at : goal.returns-then-not-is_macro_at
returns-then-not-is_macro_at c =
    let s = c.args.spaces.now in
    let here = stands_here s c.requires.behind.standings c.args.rank _ c.requires.within in
    no_macro s c.args.rank here.0 here.1 c.args.self.now c.requires.behind
    (ap (λ (w : Written). is_macro w.statement.keyword) here.2 ∙ sym (rw c.statements.ensures at (rw c.entries.ensures.same at c.if-not-is_macro_at.ensures)))

pub returns-in_default : goal.returns-in_default
returns-in_default c =
    let s = c.args.spaces.now in
    let here = stands_here s c.requires.behind.standings c.args.rank _ c.requires.within in
    let kind = ap (λ (w : Written). is_macro w.statement.keyword) here.2 ∙ sym (rw c.statements.ensures at (rw c.entries.ensures.same at c.if-not-is_macro_at.ensures)) in
    absurd (placed_here s c.requires.behind.standings c.args.rank here.0 here.1 c.in_default.ensures)

pub nearer-meant-requires-clause-behind : goal.nearer-meant-requires-clause-behind
nearer-meant-requires-clause-behind c =
    let s = c.args.spaces.now in
    let v : Key = (c.in-Some.space, c.name_at.result) in
    let here = stands_here s c.requires.behind.standings c.args.rank _ c.requires.within in
    let kind = ap (λ (w : Written). is_macro w.statement.keyword) here.2 ∙ sym (rw c.statements.ensures at (rw c.entries.ensures.same at c.if-not-is_macro_at.ensures)) in
    let number = number_in s c.requires.behind.standings c.args.rank here.0 here.1 c.in-Some.space c.in-Some.ensures in
    kept_within s c.args.rank here.0 here.1 c.args.self.now c.requires.behind v number.within c.copied.result (c.copied.ensures ∙ c.get.ensures.value)

pub returns : goal.returns
returns c =
    let s = c.args.spaces.now in
    let v : Key = (c.in-Some.space, c.name_at.result) in
    let here = stands_here s c.requires.behind.standings c.args.rank _ c.requires.within in
    let kind = ap (λ (w : Written). is_macro w.statement.keyword) here.2 ∙ sym (rw c.statements.ensures at (rw c.entries.ensures.same at c.if-not-is_macro_at.ensures)) in
    let number = number_in s c.requires.behind.standings c.args.rank here.0 here.1 c.in-Some.space c.in-Some.ensures in
    let name = (rw c.statements-2.ensures at (rw c.entries.ensures.same at c.name_at.ensures)) c.requires.behind.standings.contents.nested ∙ sym (ap name_of here.2) in
    macro_added s c.args.rank here.0 here.1 c.args.self.now c.requires.behind v number name kind c.nearer-meant.result
    (subst (λ o. SaysNearer (all_standing s) c.args.rank o c.nearer-meant.result) (c.copied.ensures ∙ c.get.ensures.value) c.nearer-meant.ensures)
    (record { table = c.insert.new.self })
    c.in_ok-insert.ensures.updates.0
