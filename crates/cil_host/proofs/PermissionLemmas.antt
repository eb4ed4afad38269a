-- The permissions of compiled tables are those of the modules.
use Rattle.std.specs.Prelude.{Contains, Some, slice_get}
use Rattle.std.specs.Option.{unwrap_or}
use Rattle.std.specs.List.Sorted.{IsStrictlySortedBy}
use Rattle.std.specs.declared.cmp.Ordering.{Ordering}
use Rattle.std.specs.declared.cmp.Ordering.TheVariants.{Less}
use Rattle.std.specs.Ordering.{ordering_reverse}
use Rattle.std.proofs.Common.{◌≡◌, ℕ, zero, suc, ◌<◌, true, List, [], ◌∷◌, length, get_or, sym, ◌∙◌, ap, subst, inl, inr, arith}
use Rattle.std.proofs.lemmas.Bool.{cases_order}
use Rattle.std.proofs.lemmas.Cmp.{nat_list_cmp_total}
use Rattle.std.proofs.lemmas.List.Elements.{Contains-get_or}
use Rattle.std.proofs.lemmas.Option.{slice_get-get_or, slice_get_within, get_or_from_slice_get}
use Rattle.cil_base.specs.Lists.{Lists, text_cmp, one_list, all_at}
use Rattle.cil_syntax.specs.declared.kind.Kind.TheVariants as kinds
use Rattle.cil_table_bytes.specs.classes.Class.{Class}
use Rattle.cil_table_bytes.specs.tables.Agrees.{Compiles}
use Rattle.cil_table_bytes.specs.names_crate.Declarations.{Declared}
use Rattle.cil_table_bytes.proofs.tables_lemmas.CompileLemmas.{policy_moved}
use Rattle.cil_table_bytes.specs.tables.Meaning.{IsClassAt, IsPermissionAt}
use Rattle.cil_table_bytes.specs.names_crate.Resolves.{has_permission}
use Rattle.cil_table_bytes.specs.tables.Table.{Table}
use Rattle.cil_table_bytes.specs.classes.Row.{class_cmp}
use Rattle.cil_host.specs.Machine.{OfLoaded, State}
use Rattle.cil_host.specs.Permissions.{AreNamesOf, IsPermissionOf}

some_is : {X : Type 0} {a b : X} → Some a ≡ Some b → a ≡ b
some_is {X} {a} {b} e = ap (λ o. unwrap_or o a) e

member : {X : Type 0} (xs : List X) (n : ℕ) (x : X) → slice_get xs n ≡ Some x → Contains xs x
member xs n x e = (n, slice_get_within xs n x e, get_or_from_slice_get xs n x x e)

number_of : {X : Type 0} (xs : List X) (x : X) → Contains xs x → (n : ℕ) × (slice_get xs n ≡ Some x)
number_of xs x c = (c.0, slice_get-get_or xs c.0 x c.1 ∙ ap Some c.2)

module _ {X : Type 0} (order : X → X → Ordering) where
  -- an element comes before each of those with greater numbers
  rising_from : (xs : List X) (i j : ℕ) (d : X) → IsStrictlySortedBy order xs → i < j → j < length xs → order (get_or xs i d) (get_or xs j d) ≡ Less
  unfolding IsStrictlySortedBy
  rising_from [] i j d up less within = absurd (omega (arith, within))
  rising_from (x ∷ xs) i zero d up less within = absurd (omega arith)
  rising_from (x ∷ xs) zero (suc j) d up less within = all_at (λ y. order x y ≡ Less) xs (get_or xs j d) up.0 (Contains-get_or xs j d (omega arith))
  rising_from (x ∷ xs) (suc i) (suc j) d up less within = rising_from xs i j d up.1 (omega arith) (omega arith)

  rising_at : (xs : List X) (i j : ℕ) (x y : X) → IsStrictlySortedBy order xs → slice_get xs i ≡ Some x → slice_get xs j ≡ Some y → i < j → order x y ≡ Less
  rising_at xs i j x y up e f less =
      subst (λ z. order z y ≡ Less) (get_or_from_slice_get xs i x x e)
      (subst (λ z. order (get_or xs i x) z ≡ Less) (get_or_from_slice_get xs j y x f) (rising_from xs i j x up less (slice_get_within xs j y f)))

never_less : (t : List ℕ) → text_cmp t t ≡ Less → ⊥
never_less t e = let turned : Less ≡ ordering_reverse Less = sym e ∙ nat_list_cmp_total.antisymm t t ∙ ap ordering_reverse e in cc

-- rows of one name are one
one_row : (rows : List Class) (i j : ℕ) (r q : Class) → IsStrictlySortedBy class_cmp rows → slice_get rows i ≡ Some r → slice_get rows j ≡ Some q → r.name ≡ q.name → r ≡ q
one_row rows i j r q rising at bt same =
    elim (cases_order i j) [
      | inl e ↦ some_is (sym at ∙ ap (slice_get rows) e ∙ bt)
      | inr other ↦ elim other [
        | inl less ↦ absurd (never_less r.name (subst (λ n. text_cmp r.name n ≡ Less) (sym same) (rising_at class_cmp rows i j r q rising at bt less)))
        | inr more ↦ absurd (never_less q.name (subst (λ n. text_cmp q.name n ≡ Less) same (rising_at class_cmp rows j i q r rising bt at more)))
      ]
    ]

module _ (modules : List (List ℕ)) (t : Table) (compiles : Compiles modules t) (class_name : List ℕ) (n bit : ℕ) (is_class : IsClassAt t n class_name) where
  pub permission_there : (p : List ℕ) → IsPermissionAt t n bit p → IsPermissionOf class_name bit p modules
  permission_there p at =
      let k = compiles.table.classes.only is_class.row (member t.classes n is_class.row is_class.is_row) in
      let row : at.row ≡ is_class.row = some_is (sym at.is_row ∙ is_class.is_row) in
      record {
        items = compiles.items;
        enabled = compiles.enabled;
        class_ = k.0;
        permissions = is_class.row.permissions;
        policy = compiles.policy;
        a_class = k.1;
        named = sym k.2.named ∙ is_class.named;
        of_class = k.2.permissions;
        is_permission = ap (λ r. slice_get r.permissions bit) (sym row) ∙ at.permission;
      }

  pub permission_back : (p : List ℕ) → IsPermissionOf class_name bit p modules → IsPermissionAt t n bit p
  permission_back p of =
      let declared = policy_moved modules of.items compiles.items of.enabled compiles.enabled of.policy compiles.policy (λ xs s. Declared xs s kinds.Class of.class_) of.a_class in
      let row = compiles.table.classes.each of.class_ declared in
      let m = number_of t.classes row.0 row.2 in
      let one : row.0 ≡ is_class.row = one_row t.classes m.0 n row.0 is_class.row compiles.table.classes.rising m.1 is_class.is_row (row.1.named ∙ of.named ∙ sym is_class.named) in
      let lists : of.permissions ≡ row.0.permissions =
      one_list text_cmp nat_list_cmp_total (λ q. has_permission compiles.items of.class_ q ≡ true) of.permissions row.0.permissions
      (policy_moved modules of.items compiles.items of.enabled compiles.enabled of.policy compiles.policy
      (λ xs s. Lists text_cmp (λ q. has_permission xs of.class_ q ≡ true) of.permissions) of.of_class) row.1.permissions in
      record {
        row = is_class.row;
        is_row = is_class.is_row;
        permission = ap (λ r. slice_get r.permissions bit) (sym one) ∙ ap (λ ps. slice_get ps bit) (sym lists) ∙ of.is_permission;
      }

-- the names of a class rise with their bits, and each bit has one
module _ (modules : List (List ℕ)) (t : Table) (compiles : Compiles modules t) (class_name : List ℕ) (n bit : ℕ) (is_class : IsClassAt t n class_name) (p : List ℕ) (at : IsPermissionAt t n bit p) where
  -- the permission of a bit in the row of this one
  in_row : (k : ℕ) (q : List ℕ) → IsPermissionOf class_name k q modules → slice_get at.row.permissions k ≡ Some q
  in_row k q of =
      let there = permission_back modules t compiles class_name n k is_class q of in
      ap (λ r. slice_get r.permissions k) (some_is (sym at.is_row ∙ there.is_row)) ∙ there.permission

  pub permission_only : (q : List ℕ) → IsPermissionOf class_name bit q modules → q ≡ p
  permission_only q of = some_is (sym (in_row bit q of) ∙ at.permission)

  pub permission_before : (k : ℕ) (q : List ℕ) → bit < k → IsPermissionOf class_name k q modules → text_cmp p q ≡ Less
  permission_before k q less of =
      let row = compiles.table.classes.only at.row (member t.classes n at.row at.is_row) in
      rising_at text_cmp at.row.permissions bit k p q row.2.permissions.rising at.permission (in_row k q of) less

-- a class with a permission is in the tables
pub class_there : (modules : List (List ℕ)) (t : Table) (class_name : List ℕ) (bit : ℕ) (p : List ℕ) → Compiles modules t → IsPermissionOf class_name bit p modules → (n : ℕ) × IsClassAt t n class_name
class_there modules t class_name bit p compiles of =
    let declared = policy_moved modules of.items compiles.items of.enabled compiles.enabled of.policy compiles.policy (λ xs s. Declared xs s kinds.Class of.class_) of.a_class in
    let row = compiles.table.classes.each of.class_ declared in
    let m = number_of t.classes row.0 row.2 in
    (m.0, record { row = row.0; is_row = m.1; named = row.1.named ∙ of.named })

-- where the class has no permission, or is none, there are no names
pub no_names : (h : State) (class_name : List ℕ) (names : List (List ℕ)) → length names ≡ 0 → ((bit : ℕ) (name : List ℕ) → OfLoaded h (IsPermissionOf class_name bit name) → ⊥) → AreNamesOf h class_name names
no_names h class_name names size none = record {
  all = λ bit name. (
    λ of. absurd (none bit name of),
    λ at. let within = slice_get_within names bit name at in absurd (omega (arith, within, size)),
  );
  order = λ bit name at. let within = slice_get_within names bit name at in absurd (omega (arith, within, size));
}
