-- What class permissions give is least.
use Rattle.std.specs.Prelude.{◌≡◌, ℕ, true, List}
use Rattle.cil_syntax.specs.Scopes.{ScopedWord}
use Rattle.cil_syntax.specs.Terms.{Term}
use Rattle.cil_macros.specs.Item.{Item, OptSet}
use Rattle.cil_names.specs.Declarations.{Symbol}
use Rattle.cil_classes.specs.Given.{HasPair, Holder, mapped, named, of_class, of_map, of_name}
use Rattle.cil_classes.specs.Least.{Assignment, Gives, HasWhatIsGiven, Holds, IsLeast, Satisfies, by_name, on_class, on_map}

module _ (xs : List Item) (s : OptSet) (has : Assignment) where
  -- it is given under each assignment that satisfies the statements
  under : Satisfies xs s has → (cp : Term ScopedWord) (c : Symbol) (p : List ℕ) → HasPair xs s cp c p → Gives xs s has cp c p
  under all cp c p (of_class at word e d q stands value) = on_class at word e d q stands value
  under all cp c p (of_map at word e inner m d r q stands value given pair) =
      on_map at word e m d r q stands value (all (mapped m r) inner d q given (under all inner d q pair))
  under all cp c p (of_name word inner n d q stands given pair) = by_name word n d q stands (all (named n) inner d q given (under all inner d q pair))

  -- nothing more is given where holders have just what is given
  back : ((h : Holder) (c : Symbol) (p : List ℕ) → has h c p ≡ true → Holds xs s h c p) → (cp : Term ScopedWord) (c : Symbol) (p : List ℕ) → Gives xs s has cp c p → HasPair xs s cp c p
  back from cp c p (on_class at word e d q stands value) = of_class at word e d q stands value
  back from cp c p (on_map at word e m d r q stands value has_it) =
      let held = from (mapped m r) d q has_it in of_map at word e held.given m d r q stands value held.is_given held.gives
  back from cp c p (by_name word n d q stands has_it) = let held = from (named n) d q has_it in of_name word held.given n d q stands held.is_given held.gives

  just_that : HasWhatIsGiven xs s has → Satisfies xs s has × ((cp : Term ScopedWord) (c : Symbol) (p : List ℕ) → Gives xs s has cp c p → HasPair xs s cp c p)
  just_that just = (
    λ h cp c p given gives. (just h c p).1 (record { given = cp; is_given = given; gives = nothing_more cp c p gives }),
    nothing_more,
  )
    where
      nothing_more : (cp : Term ScopedWord) (c : Symbol) (p : List ℕ) → Gives xs s has cp c p → HasPair xs s cp c p
      nothing_more = back (λ h c p. (just h c p).0)

pub is_least : (xs : List Item) (s : OptSet) → IsLeast xs s
is_least xs s = (λ has. under xs s has, λ has. just_that xs s has)
