-- What a class has by commons, computed from the definitions in small policies.
use Rattle.std.specs.Prelude.{◌≡◌, ℕ, true, false, List, [], ◌∷◌, codes, refl, None}
use Rattle.cil_syntax.specs.declared.kind.Keyword.{Keyword}
use Rattle.cil_syntax.specs.declared.kind.Keyword.TheVariants as keywords
use Rattle.cil_syntax.specs.declared.kind.Sign.{Sign}
use Rattle.cil_syntax.specs.declared.kind.Sign.TheVariants as signs
use Rattle.cil_syntax.specs.declared.term.Op.TheVariants as ops
use Rattle.cil_syntax.specs.Scopes.{ScopedWord}
use Rattle.cil_syntax.specs.Table.{entry_of}
use Rattle.cil_syntax.specs.Terms.{Term, Leaf, Name, Form, Terms, nil, cons}
use Rattle.cil_macros.specs.Item.{Item, names_in}
use Rattle.cil_names.specs.Declarations.{Symbol, nowhere}
use Rattle.cil_names.specs.Resolves.{found_in, has, has_permission, lists_permission}

abbrev leaf : Sign → List ℕ → Term ScopedWord
leaf sign bytes = Leaf (record { at = nowhere; bytes = bytes; sign = sign; scope = [] ∷ [] })

abbrev says : Keyword → Terms ScopedWord → Item
says k args = record { keyword = k; at = nowhere; space = []; args = args; round = []; branch = None }

abbrev lists : Keyword → List ℕ → Terms ScopedWord → Item
lists k name names = says k (cons (Name nowhere name) (cons (Form nowhere ops.Listed names) nil))

abbrev one : List ℕ → Terms ScopedWord
one a = cons (Name nowhere a) nil

abbrev two : (a b : List ℕ) → Terms ScopedWord
two a b = cons (Name nowhere a) (one b)

abbrev joins : (c k : List ℕ) → Item
joins c k = says keywords.ClassCommon (cons (leaf signs.PlainClass c) (cons (leaf signs.Commons k) nil))

abbrev file : Symbol
file = record { space = []; name = codes "file" }

abbrev class_ : Item
class_ = lists keywords.Class (codes "file") (two (codes "open") (codes "read"))

abbrev common : Item
common = lists keywords.Common (codes "file") (one (codes "ioctl"))

-- `(class file (open read))(common file (ioctl))(classcommon file file)`: the class has three permissions, and no other
abbrev joined : List Item
joined = class_ ∷ common ∷ joins (codes "file") (codes "file") ∷ []

three : (has_permission joined file (codes "open") ≡ true) × (has_permission joined file (codes "read") ≡ true) × (has_permission joined file (codes "ioctl") ≡ true)
    × (has_permission joined file (codes "write") ≡ false)
unfolding has_permission lists_permission found_in has entry_of names_in
three = (refl, refl, refl, refl)

-- without the classcommon it has two
apart : (has_permission (class_ ∷ common ∷ []) file (codes "open") ≡ true) × (has_permission (class_ ∷ common ∷ []) file (codes "read") ≡ true)
    × (has_permission (class_ ∷ common ∷ []) file (codes "ioctl") ≡ false)
unfolding has_permission lists_permission found_in has entry_of names_in
apart = (refl, refl, refl)

-- `(class file (open read))(common k (x))(common j (y))`, joined as `k` and as `.k`: it is one common, and `j` is none of the class
abbrev dotted : (k : List ℕ) → List Item
dotted k = class_ ∷ lists keywords.Common (codes "k") (one (codes "x")) ∷ lists keywords.Common (codes "j") (one (codes "y")) ∷ joins (codes "file") k ∷ []

one_common : (has_permission (dotted (codes "k")) file (codes "x") ≡ true) × (has_permission (dotted (codes ".k")) file (codes "x") ≡ true)
    × (has_permission (dotted (codes ".k")) file (codes "y") ≡ false) × (has_permission (dotted (codes ".k")) file (codes "open") ≡ true)
unfolding has_permission lists_permission found_in has entry_of names_in
one_common = (refl, refl, refl, refl)

-- `(class file (open read))(common k (x))(common j (y))(classcommon file k)(classcommon .file j)`: it has what both commons list
abbrev both : List Item
both = joins (codes ".file") (codes "j") ∷ dotted (codes "k")

all_commons : (has_permission both file (codes "x") ≡ true) × (has_permission both file (codes "y") ≡ true) × (has_permission both file (codes "z") ≡ false)
unfolding has_permission lists_permission found_in has entry_of names_in
all_commons = (refl, refl, refl)
