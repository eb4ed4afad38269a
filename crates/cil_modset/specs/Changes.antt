-- What an installation and an import do to a set of modules: its texts before and after, and the answer.
use Rattle.std.specs.Prelude.{◌≡◌, ◌↔◌, ℕ, ◌+◌, List, [], ◌∷◌, length, Contains, Result, Ok, IfErr, IfOk, OnErr, OnOk}
use Rattle.cil_sexpr.specs.declared.fault.ReadError.{ReadError}
use Rattle.cil_sexpr.specs.Refusal.{Refuses}
use Rattle.cil_sexpr.specs.Text.{IsReadable}
use Rattle.cil_modset.specs.declared.error.BundleError.{BundleError}
use Rattle.cil_modset.specs.declared.set.Installed.{Installed}
use Rattle.cil_modset.specs.declared.set.Installed.TheVariants.{New, Known}
use Rattle.cil_modset.specs.Bundle.{IsBundle}
use Rattle.cil_modset.specs.Modules.{IsUnion}
use Rattle.cil_modset.specs.Refusal.{RefusesBundle}

-- a readable text that was not in the set is in it now, and one that was changes nothing; of another text the error is reported
pub record IsInstalled (old : List (List ℕ)) (text : List ℕ) (result : Result Installed ReadError) (new : List (List ℕ)) : Type 0 where
  pub known : (result ≡ Ok Known) ↔ Contains old text
  pub stays : result ≡ Ok Known → new ≡ old
  pub joined : result ≡ Ok New → IsUnion old (text ∷ []) new
  pub readable : result ≡ Ok New → IsReadable text
  pub refusal : IfErr result (Refuses text)
  -- an error leaves the set as it was
  pub err : OnErr result (new ≡ old)

-- bytes that are accepted are the bundle of some set; of whichever set they are, its modules are in the set now, and the number is of those
-- that were not; of other bytes the error is reported
pub record IsImported (old : List (List ℕ)) (bytes : List ℕ) (result : Result ℕ BundleError) (new : List (List ℕ)) : Type 0 where
  pub a_bundle : OnOk result ((modules : List (List ℕ)) × IsBundle bytes modules)
  pub union : (modules : List (List ℕ)) → IsBundle bytes modules → OnOk result (IsUnion old modules new)
  pub added : IfOk result (λ added. length new ≡ length old + added)
  pub refusal : IfErr result (RefusesBundle bytes)
  -- an error leaves the set as it was
  pub err : OnErr result (new ≡ old)
