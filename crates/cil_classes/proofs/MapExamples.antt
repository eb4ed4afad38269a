-- A small policy in which a class permission and a permission of a class map name one another in a circle, by the definitions.
use Rattle.std.specs.Prelude.{◌≡◌, ℕ, true, false, List, [], ◌∷◌, None, codes, refl}
use Rattle.std.proofs.Common.{arith}
use Rattle.cil_syntax.specs.declared.kind.Keyword.{Keyword}
use Rattle.cil_syntax.specs.declared.kind.Keyword.TheVariants as keywords
use Rattle.cil_syntax.specs.declared.kind.Kind.TheVariants as kinds
use Rattle.cil_syntax.specs.declared.kind.Sign.{Sign}
use Rattle.cil_syntax.specs.declared.kind.Sign.TheVariants as signs
use Rattle.cil_syntax.specs.declared.term.Op.TheVariants as ops
use Rattle.cil_syntax.specs.Expressions.{is_in, is_in_each, is_in_odd, is_in_some}
use Rattle.cil_syntax.specs.Scopes.{ScopedWord}
use Rattle.cil_syntax.specs.Table.{entry_of}
use Rattle.cil_syntax.specs.Terms.{Term, Leaf, Name, Form, Terms, nil, cons}
use Rattle.cil_macros.specs.Item.{Item, all_words_in, names_in, nobody, words_in}
use Rattle.cil_names.specs.Declarations.{Symbol, by, content_of, nowhere}
use Rattle.cil_known.specs.Members.{StandsFor}
use Rattle.cil_names.specs.Resolves.{Permission, Word, all_wanted_in, found_in, has, has_permission, lists_permission, resolves, wanted_in, words_of}
use Rattle.cil_known.specs.Says.{Says}
use Rattle.cil_known.proofs.MemberLemmas.{stands_by}
use Rattle.cil_classes.specs.Given.{HasPair, by_mapping, by_set, of_class, of_map, of_name}

-- ---- statements

abbrev word : Sign → List ℕ → ScopedWord
word sign bytes = record { at = nowhere; bytes = bytes; sign = sign; scope = [] ∷ [] }

abbrev leaf : Sign → List ℕ → Term ScopedWord
leaf sign bytes = Leaf (word sign bytes)

abbrev says : Keyword → Terms ScopedWord → Item
says k args = record { keyword = k; at = nowhere; space = []; args = args; round = []; branch = None }

abbrev one_name : List ℕ → Term ScopedWord
one_name n = Form nowhere ops.Listed (cons (Name nowhere n) nil)

abbrev one_word : List ℕ → Term ScopedWord
one_word n = Form nowhere ops.Union (cons (leaf signs.Permission n) nil)

abbrev on : Sign → List ℕ → List ℕ → Term ScopedWord
on sign c p = Form nowhere ops.ClassPermissions (cons (leaf sign c) (cons (one_word p) nil))

-- `(class file (read))`, `(classmap m (rw))`, `(classpermission p)`
abbrev class_ : Item
class_ = says keywords.Class (cons (Name nowhere (codes "file")) (cons (one_name (codes "read")) nil))

abbrev class_map : Item
class_map = says keywords.ClassMap (cons (Name nowhere (codes "m")) (cons (one_name (codes "rw")) nil))

abbrev class_permission : Item
class_permission = says keywords.ClassPermission (cons (Name nowhere (codes "p")) nil)

-- `(classpermissionset p (m (rw)))`, `(classmapping m rw p)`, `(classmapping m rw (file (read)))`
abbrev set : Item
set = says keywords.ClassPermissionSet (cons (leaf signs.NamedPermissions (codes "p")) (cons (on signs.Classes (codes "m") (codes "rw")) nil))

abbrev maps : Term ScopedWord → Item
maps cp = says keywords.ClassMapping (cons (leaf signs.ClassMaps (codes "m")) (cons (leaf signs.Permission (codes "rw")) (cons cp nil)))

abbrev circle : List Item
circle =
    class_ ∷ class_map ∷ class_permission ∷ set ∷ maps (leaf signs.MappedPermissions (codes "p")) ∷ maps (on signs.PlainClass (codes "file") (codes "read")) ∷ []

abbrev the : List ℕ → Symbol
the name = record { space = []; name = name }

-- ---- the words of a classmapping: `rw` is a permission of `m`, `read` one of `file`

mapping_words : words_of (maps (on signs.PlainClass (codes "file") (codes "read")))
    ≡ (Word (word signs.ClassMaps (codes "m")) ∷ Permission (word signs.ClassMaps (codes "m")) (word signs.Permission (codes "rw"))
    ∷ Word (word signs.PlainClass (codes "file")) ∷ Permission (word signs.PlainClass (codes "file")) (word signs.Permission (codes "read")) ∷ [])
unfolding wanted_in all_wanted_in words_in all_words_in
mapping_words = refl

-- `rw` resolves, and `read` is no permission of `m`
mapping_resolves : (resolves circle nobody (Permission (word signs.ClassMaps (codes "m")) (word signs.Permission (codes "rw"))) ≡ true)
    × (resolves circle nobody (Permission (word signs.ClassMaps (codes "m")) (word signs.Permission (codes "read"))) ≡ false)
unfolding has_permission lists_permission found_in has names_in entry_of
mapping_resolves = (refl, refl)

-- ---- what words stand for

file_stands : StandsFor circle nobody kinds.Class (word signs.PlainClass (codes "file")) (the (codes "file"))
unfolding found_in has entry_of
file_stands =
    stands_by circle nobody kinds.Class refl (word signs.PlainClass (codes "file")) (the (codes "file")) refl refl refl (record {
      declaration = record { kind = kinds.Class; space = []; name = codes "file"; content = content_of (cons (one_name (codes "read")) nil) };
      declares = by class_ _ (0, omega arith, refl) refl (0, omega arith, refl);
      of_kind = refl;
      in_space = refl;
      of_name = refl;
    })

map_stands : StandsFor circle nobody kinds.ClassMap (word signs.Classes (codes "m")) (the (codes "m"))
unfolding found_in has entry_of
map_stands =
    stands_by circle nobody kinds.ClassMap refl (word signs.Classes (codes "m")) (the (codes "m")) refl refl refl (record {
      declaration = record { kind = kinds.ClassMap; space = []; name = codes "m"; content = content_of (cons (one_name (codes "rw")) nil) };
      declares = by class_map _ (1, omega arith, refl) refl (0, omega arith, refl);
      of_kind = refl;
      in_space = refl;
      of_name = refl;
    })

mapped_stands : StandsFor circle nobody kinds.ClassMap (word signs.ClassMaps (codes "m")) (the (codes "m"))
unfolding found_in has entry_of
mapped_stands =
    stands_by circle nobody kinds.ClassMap refl (word signs.ClassMaps (codes "m")) (the (codes "m")) refl refl refl (record {
      declaration = record { kind = kinds.ClassMap; space = []; name = codes "m"; content = content_of (cons (one_name (codes "rw")) nil) };
      declares = by class_map _ (1, omega arith, refl) refl (0, omega arith, refl);
      of_kind = refl;
      in_space = refl;
      of_name = refl;
    })

name_stands : StandsFor circle nobody kinds.ClassPermission (word signs.NamedPermissions (codes "p")) (the (codes "p"))
unfolding found_in has entry_of
name_stands =
    stands_by circle nobody kinds.ClassPermission refl (word signs.NamedPermissions (codes "p")) (the (codes "p")) refl refl refl (record {
      declaration = record { kind = kinds.ClassPermission; space = []; name = codes "p"; content = content_of nil };
      declares = by class_permission _ (2, omega arith, refl) refl (0, omega arith, refl);
      of_kind = refl;
      in_space = refl;
      of_name = refl;
    })

asked_stands : StandsFor circle nobody kinds.ClassPermission (word signs.ClassPermissions (codes "p")) (the (codes "p"))
unfolding found_in has entry_of
asked_stands =
    stands_by circle nobody kinds.ClassPermission refl (word signs.ClassPermissions (codes "p")) (the (codes "p")) refl refl refl (record {
      declaration = record { kind = kinds.ClassPermission; space = []; name = codes "p"; content = content_of nil };
      declares = by class_permission _ (2, omega arith, refl) refl (0, omega arith, refl);
      of_kind = refl;
      in_space = refl;
      of_name = refl;
    })

-- ---- p has read of file, all round the circle and out of it

says_set : Says circle nobody keywords.ClassPermissionSet (cons (leaf signs.NamedPermissions (codes "p")) (cons (on signs.Classes (codes "m") (codes "rw")) nil))
says_set = record { item = set; is_item = (3, omega arith, refl); enabled = refl; is_keyword = refl; says = refl }

says_last : Says circle nobody keywords.ClassMapping
    (cons (leaf signs.ClassMaps (codes "m")) (cons (leaf signs.Permission (codes "rw")) (cons (on signs.PlainClass (codes "file") (codes "read")) nil)))
says_last = record { item = maps (on signs.PlainClass (codes "file") (codes "read")); is_item = (5, omega arith, refl); enabled = refl; is_keyword = refl; says = refl }

pub has_read : HasPair circle nobody (leaf signs.ClassPermissions (codes "p")) (the (codes "file")) (codes "read")
unfolding has_permission lists_permission found_in has names_in entry_of is_in is_in_some is_in_each is_in_odd
has_read =
    of_name (word signs.ClassPermissions (codes "p")) (on signs.Classes (codes "m") (codes "rw")) (the (codes "p")) (the (codes "file")) (codes "read") asked_stands
    (by_set (word signs.NamedPermissions (codes "p")) (on signs.Classes (codes "m") (codes "rw")) (the (codes "p")) says_set name_stands)
    (of_map nowhere (word signs.Classes (codes "m")) (one_word (codes "rw")) (on signs.PlainClass (codes "file") (codes "read")) (the (codes "m")) (the (codes "file")) (codes "rw") (codes "read")
    map_stands refl
    (by_mapping (word signs.ClassMaps (codes "m")) (word signs.Permission (codes "rw")) (on signs.PlainClass (codes "file") (codes "read")) (the (codes "m")) says_last mapped_stands)
    (of_class nowhere (word signs.PlainClass (codes "file")) (one_word (codes "read")) (the (codes "file")) (codes "read") file_stands refl))
