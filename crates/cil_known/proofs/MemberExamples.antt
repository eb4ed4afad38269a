-- Worked rows of sets, computed. As long as no statement declares an attribute, a type stands for one here, and `roletype` for
-- `typeattributeset`.
use Rattle.std.specs.Prelude.{◌≡◌, ℕ, Bool, true, false, ◌&&◌, ◌||◌, List, [], ◌∷◌, codes, Some, None, refl}
use Rattle.cil_syntax.specs.declared.kind.Keyword.{Keyword}
use Rattle.cil_syntax.specs.declared.kind.Keyword.TheVariants as keywords
use Rattle.cil_syntax.specs.declared.kind.Kind.TheVariants as kinds
use Rattle.cil_syntax.specs.declared.kind.Sign.TheVariants as signs
use Rattle.cil_syntax.specs.declared.term.Op.TheVariants as ops
use Rattle.cil_syntax.specs.Scopes.{ScopedWord}
use Rattle.cil_syntax.specs.Spelling.{same_bytes}
use Rattle.cil_syntax.specs.Table.{entry_of}
use Rattle.cil_syntax.specs.Terms.{Term, Leaf, Name, Form, Terms, nil, cons}
use Rattle.cil_names.specs.macros.Item.{Item, all_words_in, nobody, words_in}
use Rattle.cil_names.specs.Declarations.{Symbol, nowhere}
use Rattle.std.proofs.Common.{arith}
use Rattle.cil_names.specs.Resolves.{found_in, has}
use Rattle.cil_syntax.specs.Expressions.{is_in, is_in_each, is_in_odd, is_in_some}
use Rattle.cil_known.specs.Family.{Family, holds, in_value, is_given, no_range, DependsOn, at_once}
use Rattle.cil_known.specs.Spaces.{SpaceOf, is_declared, names}

abbrev word : List ℕ → ScopedWord
word bytes = record { at = nowhere; bytes = bytes; sign = signs.Types; scope = [] ∷ [] }

abbrev leaf : List ℕ → Term ScopedWord
leaf bytes = Leaf (word bytes)

abbrev item : Keyword → Terms ScopedWord → Item
item keyword args = record { keyword = keyword; at = nowhere; space = []; args = args; round = []; branch = None }

abbrev declares : Keyword → List ℕ → Item
declares keyword name = item keyword (cons (Name nowhere name) nil)

abbrev symbol : List ℕ → Symbol
symbol name = record { space = []; name = name }

-- whether the statement is one that gives attributes their members
abbrev is_role_type : Keyword → Bool
is_role_type keywords.RoleType = true
is_role_type keyword = false

abbrev types : SpaceOf
types = record { item = kinds.Type_; aliases = None; attributes = None }

abbrev policy : List Item
policy = declares keywords.Type_ (codes "a") ∷ declares keywords.Type_ (codes "b") ∷ []

-- (not (a)) has b, and not a; (xor all (a)) has b alone; (and all (a)) has a alone
abbrev none : Family
none a t = false

abbrev union : Terms ScopedWord → Term ScopedWord
union ts = Form nowhere ops.Union ts

not_a : (in_value policy nobody types no_range none (Form nowhere ops.Not (cons (union (cons (leaf (codes "a")) nil)) nil)) (symbol (codes "b")) ≡ true)
    × (in_value policy nobody types no_range none (Form nowhere ops.Not (cons (union (cons (leaf (codes "a")) nil)) nil)) (symbol (codes "a")) ≡ false)
    × (in_value policy nobody types no_range none (Form nowhere ops.Not (cons (union (cons (leaf (codes "a")) nil)) nil)) (symbol (codes "c")) ≡ false)
unfolding is_in is_in_some is_in_each is_in_odd holds names is_declared found_in has entry_of
not_a = (refl, refl, refl)

xor_a : (in_value policy nobody types no_range none (Form nowhere ops.Xor (cons (Form nowhere ops.All nil) (cons (leaf (codes "a")) nil))) (symbol (codes "b")) ≡ true)
    × (in_value policy nobody types no_range none (Form nowhere ops.Xor (cons (Form nowhere ops.All nil) (cons (leaf (codes "a")) nil))) (symbol (codes "a")) ≡ false)
unfolding is_in is_in_some is_in_each is_in_odd holds names is_declared found_in has entry_of
xor_a = (refl, refl)

and_a : (in_value policy nobody types no_range none (Form nowhere ops.And (cons (Form nowhere ops.All nil) (cons (leaf (codes "a")) nil))) (symbol (codes "a")) ≡ true)
    × (in_value policy nobody types no_range none (Form nowhere ops.And (cons (Form nowhere ops.All nil) (cons (leaf (codes "a")) nil))) (symbol (codes "b")) ≡ false)
unfolding is_in is_in_some is_in_each is_in_odd holds names is_declared found_in has entry_of
and_a = (refl, refl)

-- all has b, and not c, which is not declared; an empty list has nothing
all_has : (in_value policy nobody types no_range none (Form nowhere ops.All nil) (symbol (codes "b")) ≡ true)
    × (in_value policy nobody types no_range none (Form nowhere ops.All nil) (symbol (codes "c")) ≡ false)
    × (in_value policy nobody types no_range none (union nil) (symbol (codes "a")) ≡ false)
unfolding is_in is_in_some is_in_each is_in_odd is_declared entry_of
all_has = (refl, refl, refl)

-- the row of `self` and an attribute: z has a and b, and not c; with (typeattributeset z (z)) the set depends on itself
abbrev sets : SpaceOf
sets = record { item = kinds.Type_; aliases = None; attributes = Some (record { kind = kinds.Type_; giving = is_role_type }) }

abbrev gives_z : Term ScopedWord → Item
gives_z expression = item keywords.RoleType (cons (leaf (codes "z")) (cons expression nil))

abbrev with_z : List Item
with_z = declares keywords.Type_ (codes "a") ∷ declares keywords.Type_ (codes "b") ∷ declares keywords.Type_ (codes "c") ∷ declares keywords.Type_ (codes "z")
    ∷ gives_z (union (cons (leaf (codes "a")) (cons (leaf (codes "b")) nil))) ∷ []

z_has : (is_given with_z nobody sets no_range none (symbol (codes "z")) (symbol (codes "a")) ≡ true) × (is_given with_z nobody sets no_range none (symbol (codes "z")) (symbol (codes "b")) ≡ true)
    × (is_given with_z nobody sets no_range none (symbol (codes "z")) (symbol (codes "c")) ≡ false) × (is_given with_z nobody sets no_range none (symbol (codes "a")) (symbol (codes "a")) ≡ false)
unfolding is_given is_in is_in_some is_in_each is_in_odd holds names is_declared found_in has entry_of
z_has = (refl, refl, refl, refl)

-- what z holds by its members, and a word of another namespace that is not found
abbrev of_z : Family
of_z a t = same_bytes a.name (codes "z") && (same_bytes t.name (codes "a") || same_bytes t.name (codes "b"))

held : (holds with_z nobody sets no_range of_z (word (codes "z")) (symbol (codes "b")) ≡ true) × (holds with_z nobody sets no_range of_z (word (codes "z")) (symbol (codes "c")) ≡ false)
    × (holds with_z nobody sets no_range of_z (word (codes "k.z")) (symbol (codes "b")) ≡ false)
unfolding holds names is_declared found_in has entry_of
held = (refl, refl, refl)

-- with (typeattributeset z (z)) the set depends on itself: the fault of the row
abbrev with_zz : List Item
with_zz = gives_z (union (cons (leaf (codes "z")) nil)) ∷ with_z

z_on_itself : DependsOn with_zz nobody sets no_range (symbol (codes "z")) (symbol (codes "z"))
unfolding names is_declared found_in has entry_of words_in all_words_in
z_on_itself = at_once (symbol (codes "z")) (symbol (codes "z")) (record {
  item = gives_z (union (cons (leaf (codes "z")) nil));
  word = word (codes "z");
  expression = union (cons (leaf (codes "z")) nil);
  inner = word (codes "z");
  is_item = (0, omega arith, refl);
  enabled = refl;
  says = refl;
  giving = refl;
  within = (0, omega arith, refl);
  names_b = refl;
})

-- an alias y of a, and an alias x of y: each is a set of one member. `userrole` stands for `typealiasactual`
abbrev is_user_role : Keyword → Bool
is_user_role keywords.UserRole = true
is_user_role keyword = false

abbrev both : SpaceOf
both = record { item = kinds.Type_; aliases = Some (record { kind = kinds.Type_; giving = is_user_role }); attributes = Some (record { kind = kinds.Type_; giving = is_role_type }) }

abbrev with_aliases : List Item
with_aliases = declares keywords.Type_ (codes "a") ∷ declares keywords.Type_ (codes "b") ∷ declares keywords.Type_ (codes "x") ∷ declares keywords.Type_ (codes "y")
    ∷ item keywords.UserRole (cons (leaf (codes "x")) (cons (leaf (codes "y")) nil)) ∷ item keywords.UserRole (cons (leaf (codes "y")) (cons (leaf (codes "a")) nil)) ∷ []

abbrev of_y : Family
of_y a t = same_bytes a.name (codes "y") && same_bytes t.name (codes "a")

aliases_hold : (is_given with_aliases nobody both no_range none (symbol (codes "y")) (symbol (codes "a")) ≡ true)
    × (is_given with_aliases nobody both no_range of_y (symbol (codes "x")) (symbol (codes "a")) ≡ true)
    × (is_given with_aliases nobody both no_range of_y (symbol (codes "x")) (symbol (codes "b")) ≡ false)
unfolding is_given is_in is_in_some is_in_each is_in_odd holds names is_declared found_in has entry_of
aliases_hold = (refl, refl, refl)
