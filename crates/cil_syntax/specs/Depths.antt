-- How deep the terms of a statement nest. Texts nest 128 deep, and a statement is itself a list; this project's profile.
use Rattle.std.specs.Prelude.{ℕ, zero, suc, List, Contains, Option, Some, None}
use Rattle.cil_syntax.specs.declared.program.Statement as rust
use Rattle.cil_syntax.specs.declared.term.Op.{Op}
use Rattle.cil_syntax.specs.declared.term.Op.TheVariants as ops
use Rattle.cil_syntax.specs.Program.{IsNested, program_of}
use Rattle.cil_syntax.specs.Terms.{Term, Leaf, Name, Form, Terms, nil, cons}
use Rattle.cil_syntax.specs.Written.{Written}

-- how deep the parts of a form may nest that may nest so deep itself: one less, but for a string that is kept. None: a form
-- that may not nest has no parts
abbrev pub below : Op → ℕ → Option ℕ
below ops.UnreadText k = Some k
below op zero = None
below op (suc k) = Some k

-- the terms nest at most so deep. A word and a name do not nest
abbrev mutual
  pub Nests : {L : Type 0} → ℕ → Term L → Type 0
  Nests k (Leaf w) = Unit {0}
  Nests k (Name at name) = Unit {0}
  Nests k (Form at op parts) = AllNest (below op k) parts

  pub AllNest : {L : Type 0} → Option ℕ → Terms L → Type 0
  AllNest most nil = Unit {0}
  AllNest None (cons t ts) = ⊥
  AllNest (Some k) (cons t ts) = Nests k t × AllNest (Some k) ts

-- how deep the terms of a statement may nest
abbrev pub most_nested : ℕ
most_nested = 127

-- the terms of each statement nest no deeper
abbrev pub AreShallow : List rust.Statement → Type 0
AreShallow ss = (w : Written) → Contains (program_of ss) w → AllNest (Some most_nested) w.statement.args

-- what holds of every program
pub record IsProgram (ss : List rust.Statement) : Type 0 where
  pub nested : IsNested ss
  pub shallow : AreShallow ss
