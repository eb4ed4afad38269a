-- Rules that a policy forbids itself. CIL Reference Guide, "neverallow"; what is told of them is this project's profile.
use Rattle.std.specs.Prelude.{◌≡◌, ℕ, List, [], ◌∷◌, ◌++◌, decimal}
use Rattle.std.specs.Cmp.Lexicographic.{slice_cmp}
use Rattle.std.specs.declared.cmp.Ordering.TheVariants.{Less}
use Rattle.cil_base.specs.Lists.{text_cmp}
use Rattle.cil_faults.specs.declared.code.FaultCode.TheVariants as causes
use Rattle.cil_faults.specs.declared.fault.Fault.{Fault}
use Rattle.cil_faults.specs.declared.spot.Spot.{Spot}
use Rattle.cil_faults.specs.Reported.{fault_at}
use Rattle.cil_syntax.specs.declared.kind.Keyword.TheVariants as keywords
use Rattle.cil_macros.specs.Item.{Item, OptSet}
use Rattle.cil_index.specs.names.Declarations.{Symbol, name_of}
use Rattle.cil_index.specs.rules.CoveredBy.{IsCoveredBy}

-- a source, a target, a class and a permission
pub record Quadruple : Type 0 where
  pub source : Symbol
  pub target : Symbol
  pub class_ : Symbol
  pub permission : List ℕ

-- quadruples are in the byte order of the name of the source, then of the target, then of the class, and then of the permission
abbrev pub names_of : Quadruple → List (List ℕ)
names_of q = name_of q.source ∷ name_of q.target ∷ name_of q.class_ ∷ q.permission ∷ []

-- a neverallow statement and an allow statement cover it, whatever branches they are in
pub record AreBoth (xs : List Item) (s : OptSet) (n a : Item) (q : Quadruple) : Type 0 where
  pub forbidden : IsCoveredBy xs s keywords.NeverAllow n q.source q.target q.class_ q.permission
  pub allowed : IsCoveredBy xs s keywords.Allow a q.source q.target q.class_ q.permission

-- they cover it, and none before it
pub record IsLeast (xs : List Item) (s : OptSet) (n a : Item) (q : Quadruple) : Type 0 where
  pub both : AreBoth xs s n a q
  pub least : (r : Quadruple) → AreBoth xs s n a r → slice_cmp text_cmp (names_of r) (names_of q) ≡ Less → ⊥

-- the word of the fault, `M:AT:S:T:C:P`: module and place of the allow statement, and then the quadruple
abbrev pub told : Spot → Quadruple → List ℕ
told at q =
    decimal at.«module» ++ (58 ∷ decimal at.at) ++ (58 ∷ name_of q.source) ++ (58 ∷ name_of q.target) ++ (58 ∷ name_of q.class_) ++ (58 ∷ q.permission)

-- a neverallow statement and an allow statement cover one quadruple: one fault for each two that do, told at the neverallow statement
pub data NeverFault (xs : List Item) (s : OptSet) : Fault → Type 0 where
  violated : (n a : Item) (q : Quadruple) → IsLeast xs s n a q → NeverFault xs s (fault_at causes.NeverAllow n.at n.space (told a.at q))
