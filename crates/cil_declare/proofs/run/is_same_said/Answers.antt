use Rattle.std.specs.Prelude.{◌≡◌, ℕ, IfSome, Some}
use Rattle.std.proofs.Common.{ap, refl, subst, sym, ◌∙◌}
use Rattle.cil_declare.specs.Rows.{content_at}
use Rattle.cil_declare.specs.Wordless.{IsWordless}
use Rattle.cil_declare.proofs.DoneLemmas.{row_at}
use Rattle.cil_declare.proofs.StatementLemmas.{row_named, row_written}
use Rattle.cil_declare.proofs.WordlessLemmas.{one_content}
use Rattle.cil_declare.proofs.run.is_same_said.Goals as goal

pub is_same_there-requires-clause-a : goal.is_same_there-requires-clause-a
is_same_there-requires-clause-a c = row_named _ _ c.args.a.now (row_at c.args.instances.now c.args.a.now c.requires.a _ c.in-Some.is)

pub is_same_there-requires-clause-b : goal.is_same_there-requires-clause-b
is_same_there-requires-clause-b c = row_named _ _ c.args.b.now (row_at c.args.instances.now c.args.b.now c.requires.b _ c.in-Some-at.is)

pub is_of-requires : goal.is_of-requires
is_of-requires c = (row_at c.args.instances.now c.args.b.now c.requires.b _ c.in-Some-at.is).within

pub returns-then-is_of : goal.returns-then-is_of
returns-then-is_of c =
    let i = c.args.instances.now in
    let (k, e, of) = c.is_of.ensures c.if-is_of.true in
    let same : content_at i c.args.a.now.at ≡ content_at i c.args.b.now.at =
    ap (content_at i) c.in-Some.is
    ∙ one_content i c.in-Some.place c.in-Some-at.other k (row_written _ _ c.args.a.now (row_at i c.args.a.now c.requires.a _ c.in-Some.is)) (row_written _ _ c.args.b.now (row_at i c.args.b.now c.requires.b _ c.in-Some-at.is))
    ((subst (λ o. IfSome o (λ statement. (at : ℕ) → c.args.a.now.at ≡ Some at → IsWordless i at statement)) e c.requires.wordless) c.in-Some.place c.in-Some.is) of
    ∙ sym (ap (content_at i) c.in-Some-at.is) in (
      λ yes_. same,
      λ alike. refl,
    )
