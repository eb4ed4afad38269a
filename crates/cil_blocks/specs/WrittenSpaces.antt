-- Where statements are written, by the numbers of namespaces: only blocks that are round one another in the texts make
-- these. What stands in a namespace by inheritance is another thing: `Places` has it.
use Rattle.std.specs.Prelude.{◌≡◌, ℕ, ◌≤◌, List, length, Option, Some, None, slice_get}
use Rattle.std.specs.declared.cmp.Ordering.{Ordering}
use Rattle.std.specs.Ordering.{nat_cmp, on, then_cmp}
use Rattle.cil_base.specs.Lists.{text_cmp}
use Rattle.cil_syntax.specs.declared.program.Statement.{Statement}
use Rattle.cil_syntax.specs.Program.{program_of}
use Rattle.cil_syntax.specs.Written.{Written}
use Rattle.cil_blocks.specs.declared.namespaces.Space.{Space}
use Rattle.cil_blocks.specs.declared.written.WrittenSpaces.{WrittenSpaces}
use Rattle.cil_blocks.specs.Contents.{name_of}
use Rattle.cil_blocks.specs.Entries.{statement_at}
use Rattle.cil_blocks.specs.Named.{rank, space_in}
use Rattle.cil_blocks.specs.Namespaces.{AreNamespaces, IsNumber}
use Rattle.cil_blocks.specs.Numbers.{number_in}

-- the numbers are those of the namespaces in the statements, by the numbers of these
abbrev pub AreNumbered : List Written → List Space → List ℕ → Type 0
AreNumbered ws spaces numbers = (o : Option ℕ) → IsNumber spaces (space_in ws o) (number_in numbers o)

-- each namespace is there once, and each statement has the number of that in it
pub record AreWritten (ws : List Written) (spaces : WrittenSpaces) : Type 0 where
  pub once : AreNamespaces spaces.namespaces
  pub numbered : AreNumbered ws spaces.namespaces spaces.numbers

-- the same of the first so many statements
pub record AreWrittenUpTo (ws : List Written) (n : ℕ) (spaces : WrittenSpaces) : Type 0 where
  pub counted : length spaces.numbers ≡ n
  pub numbered : (o : Option ℕ) → rank o ≤ n → IsNumber spaces.namespaces (space_in ws o) (number_in spaces.numbers o)

-- ---- where a statement is written

-- the number of the statement in which it directly stands
abbrev pub under_of : Option Statement → Option ℕ
under_of None = None
under_of (Some s) = s.under

abbrev pub under_at : List Statement → ℕ → Option ℕ
under_at ss k = under_of (slice_get ss k)

-- the number of its namespace
abbrev pub number_round : List Statement → List ℕ → ℕ → ℕ
number_round ss numbers k = number_in numbers (under_at ss k)

-- ---- its full name

-- a name in the namespace of a number
abbrev pub NumberedName : Type 0
NumberedName = ℕ × List ℕ

abbrev pub numbered_name : List Statement → List ℕ → ℕ → NumberedName
numbered_name ss numbers k = (number_round ss numbers k, name_of (statement_at (program_of ss) k))

-- the number first
abbrev pub numbered_cmp : NumberedName → NumberedName → Ordering
numbered_cmp = then_cmp (on (λ n. n.0) nat_cmp) (on (λ n. n.1) text_cmp)
