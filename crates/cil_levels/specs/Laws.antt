-- What is true of the values of categories.
use Rattle.std.specs.Prelude.{◌≡◌, ◌<◌, ℕ, List, length}
use Rattle.cil_syntax.specs.Scopes.{ScopedWord}
use Rattle.cil_syntax.specs.Terms.{Term}
use Rattle.cil_macros.specs.Item.{Item, OptSet}
use Rattle.cil_names.specs.Declarations.{Symbol}
use Rattle.cil_known.specs.declared.known.Known.{Known}
use Rattle.cil_known.specs.Known.{enabled_in, meant_in}
use Rattle.cil_mls.specs.declared.expression.Held.{Held}
use Rattle.cil_mls.specs.Values.{in_term}
use Rattle.cil_levels.specs.Held.{AreHeld, HoldCategories}
use Rattle.cil_levels.specs.Places.{IsCategoryAt}
use Rattle.cil_levels.specs.Values.{AreValues, IsRanked, Values, in_value}

-- where ranks fall, expressions have one value: the equations fix it
abbrev pub HasOneValue : Type 0
HasOneValue = (xs : List Item) (s : OptSet) (row : List Symbol) (rank : Symbol → ℕ) → IsRanked xs s rank → (v u : Values) → AreValues xs s row v → AreValues xs s row u
    → (e : Term ScopedWord) (c : ℕ) → in_value row v e c ≡ in_value row u e c

-- where ranks fall, the equations have one solution
abbrev pub HasOneSolution : Type 0
HasOneSolution = (xs : List Item) (s : OptSet) (row : List Symbol) (rank : Symbol → ℕ) → IsRanked xs s rank → (v u : Values) → AreValues xs s row v → AreValues xs s row u → v ≡ u

-- where names hold categories as such just where words stand for them, a word stands for one category at most
abbrev pub HasOnePlace : Type 0
HasOnePlace = (k : Known) (xs : List Item) (row : List Symbol) (helds : List Held) → HoldCategories k xs row helds → (w : ScopedWord) (c d : ℕ) → IsCategoryAt xs (enabled_in k) row w c → IsCategoryAt xs (enabled_in k) row w d → c ≡ d

-- by what names hold, expressions are evaluated to what they have in the values
abbrev pub AreEvaluated : Type 0
AreEvaluated = (k : Known) (xs : List Item) (row : List Symbol) (helds : List Held) (v : Values) → AreHeld k xs row helds v → (e : Term ScopedWord) (c : ℕ) → c < 1024
    → in_term helds (length row) (meant_in k) c e ≡ in_value row v e c
