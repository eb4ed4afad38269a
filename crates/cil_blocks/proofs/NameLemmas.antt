-- The full names of statements, by their numbers.
use Rattle.std.proofs.Common.{◌≡◌, ℕ, zero, suc, ◌≤◌, true, false, List, [], ◌∷◌, length, get_or, refl, sym, ◌∙◌, ap, arith}
use Rattle.std.specs.Prelude.{Option, Some, None, slice_get}
use Rattle.cil_syntax.specs.declared.kind.Keyword.{Keyword}
use Rattle.cil_syntax.specs.declared.kind.Keyword.TheVariants as keywords
use Rattle.cil_syntax.specs.declared.program.Statement.{Statement}
use Rattle.cil_faults.specs.declared.spot.Spot.{Spot}
use Rattle.cil_syntax.specs.declared.term.Word.{Word}
use Rattle.cil_syntax.specs.Forms.{BeginsWithName, name_in_front}
use Rattle.cil_syntax.specs.Program.{IsNested, opener_in, program_of, written_under}
use Rattle.cil_syntax.specs.Said.{args_of}
use Rattle.cil_syntax.specs.Terms.{Leaf, Name, Form, Terms, nil, cons}
use Rattle.cil_syntax.specs.Written.{Context, Written, bytes_of, named_in_front, space_within}
use Rattle.cil_blocks.specs.Contents.{is_block, name_of}
use Rattle.cil_blocks.specs.Entries.{nothing, statement_at}
use Rattle.cil_blocks.specs.Named.{full_at, rank, space_in}
use Rattle.cil_blocks.specs.WrittenSpaces.{under_at, under_of}
use Rattle.cil_base.specs.Places.{get_so, in_range, is_there, none_some}
use Rattle.cil_blocks.proofs.ProgramLemmas.{program_length, stands_on_top, stands_under, written_at}

-- ---- what is at a number

pub get_none : {X : Type 0} (xs : List X) (k : ℕ) (d : X) → slice_get xs k ≡ None → get_or xs k d ≡ d
get_none [] k d e = refl
get_none (x ∷ xs) zero d e = absurd (none_some x (sym e))
get_none (x ∷ xs) (suc k) d e = get_none xs k d e

length_none : {X Y : Type 0} (xs : List X) (ys : List Y) (k : ℕ) → length xs ≡ length ys → slice_get xs k ≡ None → slice_get ys k ≡ None
length_none [] [] k l e = refl
length_none [] (y ∷ ys) k l e = absurd (omega (arith, l))
length_none (x ∷ xs) [] k l e = refl
length_none (x ∷ xs) (y ∷ ys) zero l e = absurd (none_some x (sym e))
length_none (x ∷ xs) (y ∷ ys) (suc k) l e = length_none xs ys k (omega (arith, l)) e

name_of_none : (args : Terms Word) → name_in_front args ≡ None → bytes_of (named_in_front args) ≡ []
name_of_none nil e = refl
name_of_none (cons (Leaf w) ts) e = refl
name_of_none (cons (Name at name) ts) e = absurd (none_some name (sym e))
name_of_none (cons (Form at op parts) ts) e = refl

module _ (ss : List Statement) (nested : IsNested ss) where
  abbrev ws : List Written
  ws = program_of ss

  pub at_none : (k : ℕ) → slice_get ss k ≡ None → statement_at ws k ≡ nothing
  at_none k e = get_none ws k nothing (length_none ss ws k (sym (program_length ss)) e)

  pub at_some : (k : ℕ) (s : Statement) → slice_get ss k ≡ Some s → statement_at ws k ≡ written_under (opener_in ws s.under) s
  at_some k s e = get_so ws k _ nothing (written_at ss nested k s e)

  pub keyword_some : (k : ℕ) (s : Statement) → slice_get ss k ≡ Some s → (statement_at ws k).statement.keyword ≡ s.keyword
  keyword_some k s e = ap (λ (w : Written). w.statement.keyword) (at_some k s e)

  pub args_some : (k : ℕ) (s : Statement) → slice_get ss k ≡ Some s → (statement_at ws k).statement.args ≡ args_of s
  args_some k s e = ap (λ (w : Written). w.statement.args) (at_some k s e)

  pub name_none : (k : ℕ) → slice_get ss k ≡ None → name_of (statement_at ws k) ≡ []
  name_none k e = ap name_of (at_none k e)

  pub no_name : (k : ℕ) (s : Statement) → slice_get ss k ≡ Some s → name_in_front (args_of s) ≡ None → name_of (statement_at ws k) ≡ []
  no_name k s e n = ap (λ (ts : Terms Word). bytes_of (named_in_front ts)) (args_some k s e) ∙ name_of_none (args_of s) n

  pub some_name : (k : ℕ) (s : Statement) (at : Spot) (name : List ℕ) → slice_get ss k ≡ Some s → BeginsWithName (args_of s) at name
      → name_of (statement_at ws k) ≡ name
  some_name k s at name e b = ap (λ (ts : Terms Word). bytes_of (named_in_front ts)) (args_some k s e ∙ b.1)

  -- ---- the namespace of a statement is that in the one round it

  space_by : (under : Option ℕ) (k : ℕ) (s : Statement) → slice_get ss k ≡ Some s → s.under ≡ under → space_in ws under ≡ (statement_at ws k).context.space
  space_by None k s e u =
      let at = is_there ws k nothing (in_range ws k _ (written_at ss nested k s e)) in
      sym (ap (λ (c : Context). c.space) (stands_on_top ss nested k s (statement_at ws k) e at u))
  space_by (Some q) k s e u =
      let at = is_there ws k nothing (in_range ws k _ (written_at ss nested k s e)) in
      let p = stands_under ss nested k q s (statement_at ws k) e at u in
      let same : statement_at ws q ≡ p.0 = get_so ws q p.0 nothing p.1 in
      ap Rattle.cil_blocks.specs.Named.inner_space same ∙ sym (ap (λ (c : Context). c.space) p.2)

  lower_by : (under : Option ℕ) (k : ℕ) (s : Statement) → slice_get ss k ≡ Some s → s.under ≡ under → rank under ≤ k
  lower_by None k s e u = omega arith
  lower_by (Some q) k s e u = let h = nested.earlier k q s e u in omega (arith, h)

  space_none : (k : ℕ) → slice_get ss k ≡ None → [] ≡ (statement_at ws k).context.space
  space_none k e = sym (ap (λ (w : Written). w.context.space) (at_none k e))

  under_by : (o : Option Statement) (k : ℕ) → slice_get ss k ≡ o → space_in ws (under_of o) ≡ (statement_at ws k).context.space
  under_by None k e = space_none k e
  under_by (Some s) k e = space_by s.under k s e refl

  pub space_under : (k : ℕ) → space_in ws (under_at ss k) ≡ (statement_at ws k).context.space
  space_under k = under_by (slice_get ss k) k refl

  before_by : (o : Option Statement) (k : ℕ) → slice_get ss k ≡ o → rank (under_of o) ≤ k
  before_by None k e = omega arith
  before_by (Some s) k e = lower_by s.under k s e refl

  pub under_before : (k : ℕ) → rank (under_at ss k) ≤ k
  under_before k = before_by (slice_get ss k) k refl

-- ---- blocks

within_block : (k : Keyword) (args : Terms Word) (space : List (List ℕ)) → is_block k ≡ true → space_within k args space ≡ bytes_of (named_in_front args) ∷ space
within_block keywords.Block args space e = refl
within_block k args space e = absurd (let f : false ≡ true = e in cc)

within_other : (k : Keyword) (args : Terms Word) (space : List (List ℕ)) → is_block k ≡ false → space_within k args space ≡ space
within_other keywords.Block args space e = absurd (let f : true ≡ false = e in cc)
within_other k args space e = refl

module _ (ws : List Written) where
  pub block_space_in : (k : ℕ) → is_block (statement_at ws k).statement.keyword ≡ true → space_in ws (Some k) ≡ full_at ws k
  block_space_in k e = within_block (statement_at ws k).statement.keyword (statement_at ws k).statement.args (statement_at ws k).context.space e

  pub other_space_in : (k : ℕ) → is_block (statement_at ws k).statement.keyword ≡ false → space_in ws (Some k) ≡ (statement_at ws k).context.space
  other_space_in k e = within_other (statement_at ws k).statement.keyword (statement_at ws k).statement.args (statement_at ws k).context.space e
