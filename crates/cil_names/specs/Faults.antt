-- What is wrong with the names of a policy: declarations that differ, and words that name nothing. This project's
-- profile.
use Rattle.std.specs.Prelude.{◌≡◌, ℕ, true, false, List, [], Contains}
use Rattle.cil_faults.specs.declared.code.FaultCode.TheVariants as causes
use Rattle.cil_faults.specs.declared.fault.Fault.{Fault}
use Rattle.cil_faults.specs.declared.spot.Spot.{Spot}
use Rattle.cil_syntax.specs.Terms.{Name, Terms, cons}
use Rattle.cil_faults.specs.Reported.{fault_at}
use Rattle.cil_names.specs.Declarations.{Declaration, declared_by, IsDeclaration, Clash}
use Rattle.cil_macros.specs.Item.{Item, OptSet, everybody}
use Rattle.cil_syntax.specs.Scopes.{ScopedWord}
use Rattle.cil_names.specs.Resolves.{Wanted, words_of, told_word, resolves, is_judged}

-- two different declarations of one name: each is at fault, whether it is enabled or not
pub data ClashFault (xs : List Item) : Fault → Type 0 where
  clash : (x : Item) (at : Spot) (name : List ℕ) (rest : Terms ScopedWord) (d e : Declaration) → Contains xs x → x.args ≡ cons (Name at name) rest
      → Contains (declared_by x) d → IsDeclaration xs everybody e → Clash d e → ClashFault xs (fault_at causes.Clash at x.space name)

-- a word of a statement outside all optionals names nothing
pub data ResolveFault (s : OptSet) (xs : List Item) : Fault → Type 0 where
  unresolved : (x : Item) (w : Wanted) → Contains xs x → x.round ≡ [] → Contains (words_of x) w → is_judged xs s w ≡ true → resolves xs s w ≡ false
      → ResolveFault s xs (fault_at causes.Unresolved (told_word w).at x.space (told_word w).bytes)
