-- What the walk gives, over a program in which nothing is wrong.
use Rattle.std.proofs.Common.{ℕ, List}
use Rattle.std.specs.Prelude.{Option, Some, None, Result, Ok, Err, IfNone, IfOk, IfSome}
use Rattle.cil_syntax.specs.declared.program.Statement.{Statement}
use Rattle.cil_syntax.specs.Program.{IsNested, program_of}
use Rattle.cil_blocks.specs.declared.parts.Parts.{Parts}
use Rattle.cil_blocks.specs.Entries.{AreOpened, AreParts, IsWalkable}
use Rattle.cil_blocks.specs.Laws.{HasNoFault, HasOneTarget, HaveOneTarget}

pub if_some : {X E : Type 0} (P Q : X → Type 0) (r : Result (Option X) E) → ((x : X) → P x → Q x) → IfOk r (λ o. IfSome o P) → IfOk r (λ o. IfSome o Q)
if_some P Q (Ok (Some x)) f h = f x h
if_some P Q (Ok None) f h = h
if_some P Q (Err e) f h = h

pub if_none : {X E : Type 0} (P Q : Type 0) (r : Result (Option X) E) → (P → Q) → IfOk r (λ o. IfNone o P) → IfOk r (λ o. IfNone o Q)
if_none P Q (Ok (Some x)) f h = h
if_none P Q (Ok None) f h = f h
if_none P Q (Err e) f h = h

pub walkable : (ss : List Statement) (ps : Parts) (os : List (Option ℕ)) → IsNested ss → HaveOneTarget → AreParts (program_of ss) ps
    → (HasOneTarget (program_of ss) → AreOpened (program_of ss) os) → HasNoFault (program_of ss) → IsWalkable (program_of ss) ps os
walkable ss ps os nested law p o none = record {
  rising = nested.rising;
  one_target = law ss nested none;
  are_parts = p;
  are_opened = o (law ss nested none);
}
