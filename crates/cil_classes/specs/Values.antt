-- Which permissions an expression has, of those of a class. CIL Reference Guide, "Class and Permission Statements" and
-- "Expressions".
use Rattle.std.specs.Prelude.{ℕ, Bool, true, false, ◌&&◌, List}
use Rattle.cil_syntax.specs.Expressions.{is_in, is_in_each, is_in_odd, is_in_some}
use Rattle.cil_syntax.specs.Scopes.{ScopedWord}
use Rattle.cil_syntax.specs.Spelling.{same_bytes}
use Rattle.cil_syntax.specs.Terms.{Term, Terms}

-- the permission is in the value of an expression, where these are the permissions that there are. A word has the permission of
-- its name, if it is there; no expression over permissions has a range
abbrev pub in_value : (List ℕ → Bool) → Term ScopedWord → List ℕ → Bool
in_value has e p = is_in (λ w. has p && same_bytes w.bytes p) (has p) (λ parts. false) e

-- the same of a permission that is there
abbrev pub in_value_there : Term ScopedWord → List ℕ → Bool
in_value_there e p = is_in (λ w. same_bytes w.bytes p) true (λ parts. false) e

-- it is in the value of some of these expressions, of each, of an odd number of them
abbrev pub in_some_there : Terms ScopedWord → List ℕ → Bool
in_some_there es p = is_in_some (λ w. same_bytes w.bytes p) true (λ parts. false) es

abbrev pub in_each_there : Terms ScopedWord → List ℕ → Bool
in_each_there es p = is_in_each (λ w. same_bytes w.bytes p) true (λ parts. false) es

abbrev pub in_odd_there : Terms ScopedWord → List ℕ → Bool
in_odd_there es p = is_in_odd (λ w. same_bytes w.bytes p) true (λ parts. false) es
