-- The sections of names and of links have the laws of formats.
use Rattle.std.proofs.Common.{◌≡◌, ℕ, ◌^◌, ◌<◌, ◌≤◌, Bool, true, false, List, [], ◌∷◌, length, refl, sym, ap, arith}
use Rattle.std.specs.Int.{w8}
use Rattle.std.proofs.lemmas.Bool.{ltb-true}
use Rattle.cil_tables.specs.declared.tables.Alias.{Alias}
use Rattle.cil_tables.specs.declared.tables.Link.{Link}
use Rattle.cil_format.specs.declared.fault.TableFault.TheVariants.{NotCanonical, OutOfRange}
use Rattle.cil_format.specs.Fields.{by_text, below, byte_below, small, text, texts_rise}
use Rattle.cil_format.specs.Format.{both, checked, many, section}
use Rattle.cil_format.proofs.Bytes.{wide8}
use Rattle.cil_format.proofs.FieldLaws.{byte_exact, section_exact, sized_exact, small_exact, text_exact}
use Rattle.cil_format.proofs.FormatLaws.{IsExact, as_exact, both_exact, checked_exact, many_exact}
use Rattle.cil_label_bytes.specs.Layout.{new_name}
use Rattle.cil_label_bytes.specs.Names.{name, permission, is_part, is_qualified}
use Rattle.cil_table_bytes.specs.Names.{has_object_role, roles, types, alias_of, alias, aliases, permissions, class_of, class_row, classes, is_one, byte_of, flag, boolean_of, boolean, booleans}
use Rattle.cil_table_bytes.specs.Layout.{link_of, link, links, linked, linked_of, link_parts, names, named_of, name_parts}

pub name_exact : IsExact name
name_exact = checked_exact is_qualified OutOfRange text text_exact

new_name_exact : (taken : List (List ℕ)) → IsExact (new_name taken)
new_name_exact taken = checked_exact (λ t. _) OutOfRange name name_exact

pub roles_exact : IsExact roles
roles_exact = checked_exact has_object_role OutOfRange (section by_text (λ n. _) name) (section_exact by_text (λ n. _) name name_exact)

pub types_exact : IsExact types
types_exact = section_exact by_text (λ n. _) name name_exact

alias_exact : (taken : List (List ℕ)) → IsExact (alias taken)
alias_exact taken =
    as_exact alias_of (λ a. (a.name, a.target)) (both (new_name taken) (λ n. small (length taken))) (λ p fits. refl)
    (both_exact (new_name taken) (λ n. small (length taken)) (new_name_exact taken) (λ n fits. small_exact (length taken)))

pub aliases_exact : (taken : List (List ℕ)) → IsExact (aliases taken)
aliases_exact taken = section_exact by_text (λ n. _) (alias taken) (alias_exact taken)

permission_exact : IsExact permission
permission_exact = checked_exact is_part OutOfRange text text_exact

permissions_exact : IsExact permissions
permissions_exact =
    sized_exact w8 (2 ^ 8) wide8 (λ n. _) (λ n. checked texts_rise NotCanonical (many permission n)) (λ n xs fits. fits.0.0)
    (λ n. checked_exact texts_rise NotCanonical (many permission n) (many_exact permission permission_exact n))

class_exact : IsExact class_row
class_exact =
    as_exact class_of (λ c. (c.name, c.permissions)) (both name (λ n. permissions)) (λ p fits. refl)
    (both_exact name (λ n. permissions) name_exact (λ n fits. permissions_exact))

pub classes_exact : IsExact classes
classes_exact = section_exact by_text (λ n. _) class_row class_exact

-- a byte that is 0 or 1 is given back
given_back : (n : ℕ) → n < 2 → byte_of (is_one n) ≡ n
given_back n lt = grind (arith, lt)

pub flag_exact : IsExact flag
flag_exact = as_exact is_one byte_of (byte_below 2) (λ n fits. given_back n (ltb-true n 2 fits.1)) (byte_exact 2)

boolean_exact : IsExact boolean
boolean_exact =
    as_exact boolean_of (λ b. (b.name, b.default)) (both name (λ n. flag)) (λ p fits. refl) (both_exact name (λ n. flag) name_exact (λ n fits. flag_exact))

pub booleans_exact : IsExact booleans
booleans_exact = section_exact by_text (λ n. _) boolean boolean_exact

pub names_exact : IsExact names
unfolding names
names_exact =
    as_exact named_of name_parts (both roles (λ r. both types (λ t. both (aliases t) (λ a. both classes (λ c. booleans))))) (λ p fits. refl)
    (both_exact roles (λ r. both types (λ t. both (aliases t) (λ a. both classes (λ c. booleans)))) roles_exact
    (λ r fr. both_exact types (λ t. both (aliases t) (λ a. both classes (λ c. booleans))) types_exact
    (λ t ft. both_exact (aliases t) (λ a. both classes (λ c. booleans)) (aliases_exact t)
    (λ a fa. both_exact classes (λ c. booleans) classes_exact (λ c fc. booleans_exact)))))

-- ---- links

link_exact : (holders helds : ℕ) → IsExact (link holders helds)
link_exact holders helds =
    as_exact link_of (λ l. (l.holder, l.held)) (both (small holders) (λ h. small helds)) (λ p fits. refl)
    (both_exact (small holders) (λ h. small helds) (small_exact holders) (λ h fits. small_exact helds))

pub links_exact : (holders helds : ℕ) → IsExact (links holders helds)
links_exact holders helds = section_exact below (λ n. _) (link holders helds) (link_exact holders helds)

pub linked_exact : (user_count role_count type_count : ℕ) → IsExact (linked user_count role_count type_count)
unfolding linked
linked_exact u r t =
    as_exact linked_of link_parts (both (links u r) (λ a. both (links r t) (λ b. links r r))) (λ p fits. refl)
    (both_exact (links u r) (λ a. both (links r t) (λ b. links r r)) (links_exact u r)
    (λ a fa. both_exact (links r t) (λ b. links r r) (links_exact r t) (λ b fb. links_exact r r)))
