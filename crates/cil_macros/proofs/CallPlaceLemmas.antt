-- What is written in a branch: what is directly in a booleanif.
use Rattle.std.proofs.Common.{◌≡◌, ℕ, Bool, true, false, List, refl, sym, ◌∙◌, ap, arith}
use Rattle.std.specs.Prelude.{None, Some, not, slice_get}
use Rattle.cil_base.specs.Places.{get_contains, in_range, some_at}
use Rattle.cil_syntax.specs.declared.kind.Keyword.{Keyword}
use Rattle.cil_syntax.specs.declared.kind.Keyword.TheVariants as keywords
use Rattle.cil_syntax.specs.declared.kind.Nesting.{Nesting}
use Rattle.cil_syntax.specs.declared.program.Statement.{Statement}
use Rattle.cil_syntax.specs.Program.{IsNested, context_in, has_body, opener_in, program_of, written_under}
use Rattle.cil_syntax.specs.Table.{entry_of}
use Rattle.cil_syntax.specs.Written.{Written, nesting_within}
use Rattle.cil_blocks.specs.Contents.{is_conditional}
use Rattle.cil_blocks.specs.Entries.{statement_at}
use Rattle.cil_blocks.proofs.NameLemmas.{at_none, at_some, keyword_some}
use Rattle.cil_blocks.proofs.ProgramLemmas.{written_at}
use Rattle.cil_macros.specs.Brings.{is_other, is_rule_or_call}
use Rattle.cil_macros.specs.CallPlaces.{is_branch, is_for_branches, is_in_branch}

branch_within : (k : Keyword) (here : Nesting) → has_body (entry_of k).body ≡ true → is_branch (nesting_within (entry_of k).body here) ≡ is_conditional k
unfolding entry_of
branch_within keywords.Block here e = refl
branch_within keywords.Macro here e = refl
branch_within keywords.Optional here e = refl
branch_within keywords.BooleanIf here e = refl
branch_within k here e = absurd (let f : false ≡ true = e in cc)

module _ (ss : List Statement) (nested : IsNested ss) (n : ℕ) where
  abbrev ws : List Written
  ws = program_of ss

  pub none_in_branch : slice_get ss n ≡ None → false ≡ is_in_branch (statement_at ws n)
  none_in_branch e = sym (ap is_in_branch (at_none ss nested n e))

  pub top_in_branch : (s : Statement) → slice_get ss n ≡ Some s → s.under ≡ None → false ≡ is_in_branch (statement_at ws n)
  top_in_branch s e u = sym (ap is_in_branch (at_some ss nested n s e) ∙ ap (λ o. is_branch (context_in (opener_in ws o)).nesting) u)

  pub under_in_branch : (s : Statement) (k : ℕ) (b : Bool) → slice_get ss n ≡ Some s → s.under ≡ Some k → b ≡ is_conditional (statement_at ws k).statement.keyword
      → b ≡ is_in_branch (statement_at ws n)
  under_in_branch s k b e u is =
      let less = nested.earlier n k s e u in
      let h = in_range ss n s e in
      let p = some_at ss k (omega (arith, less, h)) in
      let body = nested.opened s p.0 k (get_contains ss n s e) u p.1 in
      is
      ∙ ap is_conditional (keyword_some ss nested k p.0 p.1)
      ∙ sym (ap is_in_branch (at_some ss nested n s e)
      ∙ ap (λ o. is_branch (context_in (opener_in ws o)).nesting) u
      ∙ ap (λ o. is_branch (context_in o).nesting) (written_at ss nested k p.0 p.1)
      ∙ branch_within p.0.keyword (written_under (opener_in ws p.0.under) p.0).context.nesting body)

-- the statements that may be in a branch are rules of types and calls
pub rules_and_calls : (k : Keyword) → is_rule_or_call k ≡ is_for_branches k
unfolding entry_of
rules_and_calls keywords.Allow = refl
rules_and_calls keywords.AuditAllow = refl
rules_and_calls keywords.DontAudit = refl
rules_and_calls keywords.TypeTransition = refl
rules_and_calls keywords.TypeChange = refl
rules_and_calls keywords.TypeMember = refl
rules_and_calls keywords.Call = refl
rules_and_calls k = refl

-- what no program has may not be in a branch
pub nothing_other : (ss : List Statement) (nested : IsNested ss) (n : ℕ) → slice_get ss n ≡ None → true ≡ is_other (program_of ss) n
unfolding entry_of
nothing_other ss nested n e = sym (ap (λ (w : Written). not (is_for_branches w.statement.keyword)) (at_none ss nested n e))
