-- Worked tables and their bytes, computed.
use Rattle.std.proofs.Common.{◌≡◌, ℕ, Bool, true, false, List, [], ◌∷◌, ◌++◌, length, Some, None, Ok, Err, refl}
use Rattle.std.specs.Prelude.{codes}
use Rattle.cil_rule_bytes.specs.rules.Rule.{Types}
use Rattle.cil_tables.specs.Table.{Table}
use Rattle.cil_format.specs.declared.fault.TableFault.TheVariants.{BadMagic, BadVersion, Short, NotCanonical, OutOfRange, Trailing}
use Rattle.cil_format.specs.Format.{many_at, rising_at, each_at}
use Rattle.cil_label_bytes.specs.Layout.{labels}
use Rattle.cil_rule_bytes.specs.Layout.{rule_sections}
use Rattle.cil_table_bytes.specs.Names.{roles, classes, flag, aliases}
use Rattle.cil_table_bytes.specs.Layout.{layout, table_in, magic, names, linked, links, sections}

-- ---- the bytes of texts and counts below 256

abbrev count : ℕ → List ℕ
count n = 0 ∷ 0 ∷ 0 ∷ n ∷ []

abbrev text : List ℕ → List ℕ
text t = count (length t) ++ t

abbrev none : List ℕ
none = count 0

abbrev file : List ℕ
file = codes "file"

abbrev head : List ℕ
head = codes "CILT" ++ 1 ∷ 0 ∷ []

-- ---- the table of no modules: 86 bytes

abbrev empty : Table
empty = record {
  levels = record { are_on = false; categories = []; category_aliases = []; sensitivities = []; permitted = []; sensitivity_aliases = []; users = [] };
  users = [];
  roles = codes "object_r" ∷ [];
  types = [];
  type_aliases = [];
  classes = [];
  booleans = [];
  user_roles = [];
  role_types = [];
  role_allows = [];
  rules = record { allow = []; auditallow = []; dontaudit = [] };
  constraints = [];
}

abbrev empty_bytes : List ℕ
empty_bytes =
    head ++ none ++ none ++ none ++ none ++ none ++ count 1 ++ text (codes "object_r") ++ none ++ none ++ none ++ none ++ none ++ none ++ none ++ none ++ none ++ none ++ none

empty_length : length empty_bytes ≡ 86
empty_length = refl

empty_laid : layout empty ≡ empty_bytes
unfolding layout sections labels names linked rule_sections magic
empty_laid = refl

empty_read : table_in empty_bytes ≡ Ok empty
unfolding table_in sections labels names linked rule_sections magic many_at rising_at each_at
empty_read = refl

-- ---- the table of the first answer: 159 bytes

-- up to the types, then the types, then what is behind them
abbrev front : List ℕ
front = head ++ none ++ none ++ none ++ none ++ count 1 ++ text (codes "u") ++ count 2 ++ text (codes "object_r") ++ text (codes "r") ++ count 2

abbrev class_bytes : List ℕ
class_bytes = count 1 ++ text file ++ 2 ∷ [] ++ text (codes "open") ++ text (codes "read")

-- the user has the role, the role has both types, the one type may read files of the other
abbrev link_bytes : List ℕ
link_bytes = count 1 ++ (0 ∷ 0 ∷ 0 ∷ 1 ∷ []) ++ count 2 ++ (0 ∷ 1 ∷ 0 ∷ 0 ∷ []) ++ (0 ∷ 1 ∷ 0 ∷ 1 ∷ []) ++ none

abbrev rule_bytes : List ℕ
rule_bytes = count 1 ++ (0 ∷ []) ++ (0 ∷ 1 ∷ 0 ∷ 0 ∷ []) ++ (0 ∷ 0 ∷ 1 ∷ 0 ∷ 1 ∷ []) ++ (0 ∷ 0 ∷ []) ++ (0 ∷ 0 ∷ 0 ∷ 2 ∷ [])

abbrev back : List ℕ
back = none ++ class_bytes ++ none ++ link_bytes ++ rule_bytes ++ none ++ none ++ none

abbrev first_bytes : List ℕ
first_bytes = front ++ text (codes "a") ++ text (codes "b") ++ back

abbrev first : Table
first = record {
  levels = record { are_on = false; categories = []; category_aliases = []; sensitivities = []; permitted = []; sensitivity_aliases = []; users = [] };
  users = codes "u" ∷ [];
  roles = codes "object_r" ∷ codes "r" ∷ [];
  types = codes "a" ∷ codes "b" ∷ [];
  type_aliases = [];
  classes = record { name = file; permissions = codes "open" ∷ codes "read" ∷ [] } ∷ [];
  booleans = [];
  user_roles = record { holder = 0; held = 1 } ∷ [];
  role_types = record { holder = 1; held = 0 } ∷ record { holder = 1; held = 1 } ∷ [];
  role_allows = [];
  rules = record { allow = record { branch = None; source = 0 ∷ []; target = Types (1 ∷ []); class = 0; mask = 2 } ∷ []; auditallow = []; dontaudit = [] };
  constraints = [];
}

first_length : length first_bytes ≡ 159
first_length = refl

first_laid : layout first ≡ first_bytes
unfolding layout sections labels names linked rule_sections magic
first_laid = refl

first_read : table_in first_bytes ≡ Ok first
unfolding table_in sections labels names linked rule_sections magic many_at rising_at each_at
first_read = refl

-- ---- the same with one thing wrong

-- its last byte is cut
cut : table_in (front ++ text (codes "a") ++ text (codes "b") ++ none ++ class_bytes ++ none ++ link_bytes ++ rule_bytes ++ none ++ none ++ 0 ∷ 0 ∷ 0 ∷ []) ≡ Err Short
unfolding table_in sections labels names linked rule_sections magic many_at rising_at each_at
cut = refl

-- a zero byte stands behind it
added : table_in (first_bytes ++ 0 ∷ []) ≡ Err Trailing
unfolding table_in sections labels names linked rule_sections magic many_at rising_at each_at
added = refl

-- the records of both types are exchanged
exchanged : table_in (front ++ text (codes "b") ++ text (codes "a") ++ back) ≡ Err NotCanonical
unfolding table_in sections labels names linked rule_sections magic many_at rising_at each_at
exchanged = refl

-- byte 4 is 9
other_layout : table_in (codes "CILT" ++ 9 ∷ 0 ∷ []) ≡ Err BadVersion
unfolding table_in sections magic
other_layout = refl

-- byte 0 is `X`
other_magic : table_in (codes "XILT" ++ 1 ∷ 0 ∷ []) ≡ Err BadMagic
unfolding table_in sections magic
other_magic = refl

-- right so far, and shorter than its header
short_header : table_in (codes "CI") ≡ Err Short
unfolding table_in sections magic
short_header = refl

-- a wrong byte comes before the end
short_and_wrong : table_in (codes "CX") ≡ Err BadMagic
unfolding table_in sections magic
short_and_wrong = refl

-- byte 5 is 2
other_flag : table_in (codes "CILT" ++ 1 ∷ 2 ∷ []) ≡ Err OutOfRange
unfolding table_in sections magic
other_flag = refl

-- ---- sections of names

-- the role of objects is missing at the end of the section, and a name that is none comes before that
no_object_role : roles.read (count 1 ++ text (codes "r")) ≡ Err OutOfRange
unfolding many_at rising_at
no_object_role = refl

no_object_role_yet : roles.read (count 2 ++ text (codes "r")) ≡ Err Short
unfolding many_at rising_at
no_object_role_yet = refl

-- roles that do not rise, of which one is that of objects
roles_fall : roles.read (count 2 ++ text (codes "r") ++ text (codes "object_r")) ≡ Err NotCanonical
unfolding many_at rising_at
roles_fall = refl

-- a count over the limit is told before the records
many_roles : roles.read (0 ∷ 0 ∷ 16 ∷ 1 ∷ []) ≡ Err OutOfRange
many_roles = refl

-- an alias that is named as a type; one of a type that is not there
alias_is_a_type : (aliases (codes "a" ∷ codes "b" ∷ [])).read (count 1 ++ text (codes "b") ++ 0 ∷ 0 ∷ []) ≡ Err OutOfRange
unfolding rising_at
alias_is_a_type = refl

alias_of_none : (aliases (codes "a" ∷ codes "b" ∷ [])).read (count 1 ++ text (codes "c") ++ 0 ∷ 2 ∷ []) ≡ Err OutOfRange
unfolding rising_at
alias_of_none = refl

-- permissions that do not rise are told at the end of their list, before the next class; one that is no such text before that
permissions_fall : classes.read (count 1 ++ text file ++ 2 ∷ [] ++ text (codes "read") ++ text (codes "open")) ≡ Err NotCanonical
unfolding many_at rising_at
permissions_fall = refl

permission_with_a_dot : classes.read (count 1 ++ text file ++ 2 ∷ [] ++ text (codes "read") ++ text (codes "b.c")) ≡ Err OutOfRange
unfolding many_at rising_at
permission_with_a_dot = refl

-- 33 permissions are refused before the first
many_permissions : classes.read (count 1 ++ text file ++ 33 ∷ []) ≡ Err OutOfRange
unfolding many_at rising_at
many_permissions = refl

-- ---- links

-- a link of a holder that is not there, one of something that is not there, and two that do not rise
no_holder : (links 1 2).read (count 1 ++ 0 ∷ 1 ∷ 0 ∷ 0 ∷ []) ≡ Err OutOfRange
unfolding rising_at
no_holder = refl

none_held : (links 1 2).read (count 1 ++ 0 ∷ 0 ∷ 0 ∷ 2 ∷ []) ≡ Err OutOfRange
unfolding rising_at
none_held = refl

links_fall : (links 1 2).read (count 2 ++ (0 ∷ 0 ∷ 0 ∷ 1 ∷ []) ++ (0 ∷ 0 ∷ 0 ∷ 0 ∷ [])) ≡ Err NotCanonical
unfolding rising_at
links_fall = refl

one_link_twice : (links 1 2).read (count 2 ++ (0 ∷ 0 ∷ 0 ∷ 1 ∷ []) ++ (0 ∷ 0 ∷ 0 ∷ 1 ∷ [])) ≡ Err NotCanonical
unfolding rising_at
one_link_twice = refl
