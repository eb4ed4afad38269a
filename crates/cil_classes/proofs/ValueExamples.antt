-- Values of expressions over the permissions of a class that has open, read and ioctl, computed.
use Rattle.std.specs.Prelude.{◌≡◌, ℕ, Bool, true, false, ◌||◌, List, [], ◌∷◌, codes, map, refl}
use Rattle.cil_names.specs.Declarations.{nowhere}
use Rattle.cil_syntax.specs.Expressions.{is_in, is_in_each, is_in_odd, is_in_some}
use Rattle.cil_syntax.specs.Scopes.{ScopedWord}
use Rattle.cil_syntax.specs.Spelling.{same_bytes}
use Rattle.cil_syntax.specs.Terms.{Term, Leaf, Form, Terms, nil, cons}
use Rattle.cil_syntax.specs.declared.kind.Sign.TheVariants as signs
use Rattle.cil_syntax.specs.declared.term.Op.TheVariants as ops
use Rattle.cil_classes.specs.Values.{in_value}

abbrev has : List ℕ → Bool
has p = same_bytes p (codes "open") || same_bytes p (codes "read") || same_bytes p (codes "ioctl")

abbrev word : List ℕ → Term ScopedWord
word bytes = Leaf (record { at = nowhere; bytes = bytes; sign = signs.Permission; scope = [] ∷ [] })

abbrev union : Terms ScopedWord → Term ScopedWord
union es = Form nowhere ops.Union es

abbrev all : Term ScopedWord
all = Form nowhere ops.All nil

abbrev read : Term ScopedWord
read = union (cons (word (codes "read")) nil)

-- which of open, read, ioctl and write are in the value
abbrev which : Term ScopedWord → List Bool
which e = map (in_value has e) (codes "open" ∷ codes "read" ∷ codes "ioctl" ∷ codes "write" ∷ [])

-- (open read) has both; a name that the class lacks is in no value, so that (read write) has read alone
words : (which (union (cons (word (codes "open")) (cons (word (codes "read")) nil))) ≡ (true ∷ true ∷ false ∷ false ∷ []))
    × (which (union (cons (word (codes "read")) (cons (word (codes "write")) nil))) ≡ (false ∷ true ∷ false ∷ false ∷ []))
unfolding is_in is_in_some is_in_each is_in_odd
words = (refl, refl)

-- (not (read)) has what else the class has; (not (write)) has all of it, and not write
nots : (which (Form nowhere ops.Not (cons read nil)) ≡ (true ∷ false ∷ true ∷ false ∷ []))
    × (which (Form nowhere ops.Not (cons (union (cons (word (codes "write")) nil)) nil)) ≡ (true ∷ true ∷ true ∷ false ∷ []))
    × (which (Form nowhere ops.Not (cons all nil)) ≡ (false ∷ false ∷ false ∷ false ∷ []))
unfolding is_in is_in_some is_in_each is_in_odd
nots = (refl, refl, refl)

-- (xor all (read)), (and all (read)), (or (open) (read)), (xor (read) (read))
operators : (which (Form nowhere ops.Xor (cons all (cons read nil))) ≡ (true ∷ false ∷ true ∷ false ∷ [])) × (which (Form nowhere ops.And (cons all (cons read nil))) ≡ (false ∷ true ∷ false ∷ false ∷ []))
    × (which (Form nowhere ops.Or (cons (union (cons (word (codes "open")) nil)) (cons read nil))) ≡ (true ∷ true ∷ false ∷ false ∷ []))
    × (which (Form nowhere ops.Xor (cons read (cons read nil))) ≡ (false ∷ false ∷ false ∷ false ∷ []))
unfolding is_in is_in_some is_in_each is_in_odd
operators = (refl, refl, refl, refl)

-- all, (all), (all read) have all that the class has; () has nothing
alls : (which all ≡ (true ∷ true ∷ true ∷ false ∷ [])) × (which (union (cons all nil)) ≡ (true ∷ true ∷ true ∷ false ∷ []))
    × (which (union (cons all (cons (word (codes "read")) nil))) ≡ (true ∷ true ∷ true ∷ false ∷ [])) × (which (union nil) ≡ (false ∷ false ∷ false ∷ false ∷ []))
unfolding is_in is_in_some is_in_each is_in_odd
alls = (refl, refl, refl, refl)

-- (and (not (read)) (open read)) has open; (open (not (not (ioctl)))) has open and ioctl
nested : (which (Form nowhere ops.And (cons (Form nowhere ops.Not (cons read nil)) (cons (union (cons (word (codes "open")) (cons (word (codes "read")) nil))) nil))) ≡ (true ∷ false ∷ false ∷ false ∷ []))
    × (which (union (cons (word (codes "open")) (cons (Form nowhere ops.Not (cons (Form nowhere ops.Not (cons (union (cons (word (codes "ioctl")) nil)) nil)) nil)) nil)))
    ≡ (true ∷ false ∷ true ∷ false ∷ []))
unfolding is_in is_in_some is_in_each is_in_odd
nested = (refl, refl)
