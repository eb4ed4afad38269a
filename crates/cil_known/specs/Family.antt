-- What the members of aliases and attributes are: a family of sets that solves one equation for each of them. CIL Reference
-- Guide, "Type Statements", "Role Statements", "User Statements"; the equations are this project's form.
use Rattle.std.specs.Prelude.{◌≡◌, ℕ, ◌<◌, Bool, true, false, ◌&&◌, ◌||◌, List, Contains, Some}
use Rattle.std.specs.List.{list_any}
use Rattle.std.specs.Option.{option_map_or}
use Rattle.cil_syntax.specs.Forms.{word_and_term}
use Rattle.cil_syntax.specs.Scopes.{ScopedWord}
use Rattle.cil_syntax.specs.Terms.{Term, Terms}
use Rattle.cil_names.specs.macros.Item.{Item, OptSet, is_enabled, words_in}
use Rattle.cil_names.specs.Declarations.{Symbol}
use Rattle.cil_names.specs.Resolves.{found_in}
use Rattle.cil_syntax.specs.Expressions.{is_in}
use Rattle.cil_known.specs.Spaces.{SpaceOf, Sets, is_declared, is_set, names, names_set, symbol_in}

-- which members each set has
abbrev pub Family : Type 0
Family = Symbol → Symbol → Bool

-- what the operands of a range hold: something for categories alone
abbrev pub Range : Type 0
Range = Terms ScopedWord → Symbol → Bool

abbrev pub no_range : Range
no_range parts t = false

module _ (xs : List Item) (s : OptSet) (space : SpaceOf) (range : Range) where
  -- the word names the item, or a set that has it. A word names one symbol at most, that of the namespace in which it is found
  unfoldable pub holds : Family → ScopedWord → Symbol → Bool
  holds m w t = names xs s space.item w t || option_map_or (λ n. names_set xs s space w (symbol_in w n) && m (symbol_in w n) t) (found_in xs s w) false

  -- the item is in the value of an expression
  abbrev pub in_value : Family → Term ScopedWord → Symbol → Bool
  in_value m e t = is_in (λ w. holds m w t) (is_declared xs s space.item t) (λ ts. range ts t) e

  -- the statement gives members to sets of this kind, and its first word names the set
  abbrev pub gives_to : Symbol → Item → ScopedWord → Sets → Bool
  gives_to a x w k = k.giving x.keyword && names xs s k.kind w a

  abbrev pub is_giving : Symbol → Item → ScopedWord → Bool
  is_giving a x w = option_map_or (gives_to a x w) space.aliases false || option_map_or (gives_to a x w) space.attributes false

  -- an enabled statement gives the set this member
  abbrev pub gives : Family → Symbol → Symbol → Item → Bool
  gives m a t x = is_enabled s x && option_map_or (λ p. is_giving a x p.0 && in_value m p.1 t) (word_and_term x.args) false

  -- some enabled statement gives the set this member
  unfoldable pub is_given : Family → Symbol → Symbol → Bool
  is_given m a t = list_any (gives m a t) xs

  -- the equations: each set has just what its statements give it
  abbrev pub Solves : Family → Type 0
  Solves m = (a t : Symbol) → is_set xs s space a ≡ true → m a t ≡ is_given m a t

  -- a statement of one set names another
  pub record Uses (a b : Symbol) : Type 0 where
    pub item : Item
    pub word : ScopedWord
    pub expression : Term ScopedWord
    pub inner : ScopedWord
    pub is_item : Contains xs item
    pub enabled : is_enabled s item ≡ true
    pub says : word_and_term item.args ≡ Some (word, expression)
    pub giving : is_giving a item word ≡ true
    pub within : Contains (words_in expression) inner
    pub names_b : names_set xs s space inner b ≡ true

  -- one set depends on another, in one step or more
  pub data DependsOn : Symbol → Symbol → Type 0 where
    at_once : (a b : Symbol) → Uses a b → DependsOn a b
    further : (a b c : Symbol) → Uses a b → DependsOn b c → DependsOn a c

  -- ranks that fall from a set to those that its statements name: so none depends on itself
  abbrev pub IsRanked : (Symbol → ℕ) → Type 0
  IsRanked rank = (a b : Symbol) → Uses a b → rank b < rank a

  -- the equations of the sets below a rank: what a loop in the order of ranks keeps
  abbrev pub SolvesBelow : (Symbol → ℕ) → ℕ → Family → Type 0
  SolvesBelow rank k m = (a t : Symbol) → is_set xs s space a ≡ true → rank a < k → m a t ≡ is_given m a t
