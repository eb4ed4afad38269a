-- Tables that keep all rules of the layout stand in their orders.
use Rattle.std.proofs.Common.{◌≡◌, ℕ, ◌<◌, ◌≤◌, ◌^◌, Bool, true, false, ltb, List, [], ◌∷◌, ◌++◌, length, map, None, refl, sym, ap, subst, ◌∙◌, arith}
use Rattle.std.specs.Prelude.{Contains, nat_le}
use Rattle.std.specs.Cmp.{IsTotalOrder}
use Rattle.std.specs.List.{AllByRecursion}
use Rattle.std.specs.List.Sorted.{IsStrictlySortedBy}
use Rattle.std.specs.Ordering.{on, nat_cmp, ordering_then}
use Rattle.std.specs.declared.cmp.Ordering.{Ordering}
use Rattle.std.specs.declared.cmp.Ordering.TheVariants.{Less}
use Rattle.std.proofs.lemmas.Bool.{and_parts, leb-true}
use Rattle.std.proofs.lemmas.Cmp.{nat_list_cmp_total, on_total}
use Rattle.std.proofs.lemmas.List.{append-nil}
use Rattle.cil_base.specs.Lists.{all_at, text_cmp}
use Rattle.cil_tables.specs.classes.Class.{Class}
use Rattle.cil_tables.specs.classes.Row.{IsOrderlyClass, class_cmp}
use Rattle.cil_label_bytes.specs.mls.Categories.{Categories}
use Rattle.cil_label_bytes.specs.mls.Range.{Range}
use Rattle.cil_tables.specs.declared.tables.Alias.{Alias}
use Rattle.cil_tables.specs.declared.tables.Boolean.{Boolean}
use Rattle.cil_tables.specs.declared.tables.Link.{Link}
use Rattle.cil_tables.specs.Table.{Table, IsOrderly, alias_cmp, alias_total, boolean_names, link_cmp, link_total}
use Rattle.cil_format.specs.Fields.{below, by_text, text, texts_rise}
use Rattle.cil_format.specs.Format.{Format, both, section}
use Rattle.cil_format.proofs.SortedRecords.{is_less, sorted_records, text_below}
use Rattle.cil_label_bytes.specs.Names.{name}
use Rattle.cil_label_bytes.specs.Layout.{LabelNames, labels, lists_of, pairs_of, range, users, user_count}
use Rattle.cil_constraint_bytes.proofs.FitLemmas.{section_rises}
use Rattle.cil_table_bytes.specs.Names.{roles, types, alias, aliases, permissions, class_row, classes, boolean, booleans, flag}
use Rattle.cil_table_bytes.specs.Layout.{Named, named_of, names, link, links, linked, linked_of, table, IsProper, sections, constraint_limits}
use Rattle.cil_table_bytes.proofs.Orderly.{links_rise, names_rise}

-- ---- records with a name in front

-- a name in front, and something behind it
named_below : {B : Type 0} (second : List ℕ → Format B) (p q : List ℕ × B) → (both name second).Fits p → (both name second).Fits q
    → by_text ((both name second).spell p) ((both name second).spell q) ≡ true → text_cmp p.0 q.0 ≡ Less
named_below second p q fp fq up = text_below p.0 q.0 ((second p.0).spell p.1) ((second q.0).spell q.1) fp.0.0 fq.0.0 up

-- what is sorted by what a function gives has these in their order
all_mapped : {A B : Type 0} (f : A → B) (order : B → B → Ordering) (a : A) (xs : List A) → AllByRecursion (λ y. order (f a) (f y) ≡ Less) xs → AllByRecursion (λ y. order (f a) y ≡ Less) (map f xs)
all_mapped f order a [] all = tt
all_mapped f order a (x ∷ xs) all = (all.0, all_mapped f order a xs all.1)

mapped : {A B : Type 0} (f : A → B) (order : B → B → Ordering) (xs : List A) → IsStrictlySortedBy (on f order) xs → IsStrictlySortedBy order (map f xs)
unfolding IsStrictlySortedBy
mapped f order [] up = tt
mapped f order (x ∷ xs) up = (all_mapped f order x xs up.0, mapped f order xs up.1)

-- ---- aliases

then_less : (o p : Ordering) → o ≡ Less → ordering_then o p ≡ Less
then_less o p e = ap (λ (q : Ordering). ordering_then q p) e

aliases_rise : (taken : List (List ℕ)) (xs : List Alias) → (aliases taken).Fits xs → IsStrictlySortedBy alias_cmp xs
aliases_rise taken xs fits =
    sorted_records by_text (alias taken).spell (alias taken).Fits alias_cmp alias_total
    (λ a b fa fb up. then_less (text_cmp a.name b.name) (nat_cmp a.target b.target) (text_below a.name b.name _ _ fa.0.0.0.0 fb.0.0.0.0 up)) xs fits.1.1 fits.1.2

-- ---- classes

texts_sorted : (xs : List (List ℕ)) → texts_rise xs ≡ true → IsStrictlySortedBy text_cmp xs
unfolding IsStrictlySortedBy
texts_sorted [] up = tt
texts_sorted (a ∷ []) up = (tt, tt)
texts_sorted (a ∷ b ∷ more) up =
    let parts = and_parts (below a b) (texts_rise (b ∷ more)) up in
    let lt = is_less (text_cmp a b) parts.0 in
    let on_ = texts_sorted (b ∷ more) parts.1 in
    ((lt, above a b more lt on_.0), on_)
  where
    above : (x y : List ℕ) (zs : List (List ℕ)) → text_cmp x y ≡ Less → AllByRecursion (λ z. text_cmp y z ≡ Less) zs → AllByRecursion (λ z. text_cmp x z ≡ Less) zs
    above x y [] lt all = tt
    above x y (z ∷ zs) lt all = (nat_list_cmp_total.trans x y z lt all.0, above x y zs lt all.1)

orderly_class : (c : Class) → class_row.Fits c → IsOrderlyClass c
orderly_class c fits = record { permissions = texts_sorted c.permissions fits.0.1.1.1; few = leb-true (length c.permissions) 32 fits.0.1.0.1 }

classes_rise : (xs : List Class) → classes.Fits xs → IsStrictlySortedBy class_cmp xs
classes_rise xs fits =
    sorted_records by_text class_row.spell class_row.Fits class_cmp (on_total (λ c. c.name) nat_list_cmp_total)
    (λ a b fa fb up. text_below a.name b.name _ _ fa.0.0.0 fb.0.0.0 up) xs fits.1.1 fits.1.2

-- ---- booleans

booleans_rise : (xs : List Boolean) → booleans.Fits xs → IsStrictlySortedBy text_cmp (boolean_names xs)
booleans_rise xs fits =
    mapped (λ (b : Boolean). b.name) text_cmp xs
    (sorted_records by_text boolean.spell boolean.Fits (on (λ b. b.name) text_cmp) (on_total (λ b. b.name) nat_list_cmp_total)
    (λ a b fa fb up. text_below a.name b.name _ _ fa.0.0.0 fb.0.0.0 up) xs fits.1.1 fits.1.2)

-- ---- users

users_rise : (are_on : Bool) (count : ℕ) (permitted : List Categories) (p : List (List ℕ) × List Range) → (users are_on count permitted).Fits p → IsStrictlySortedBy text_cmp p.0
users_rise true count permitted p fits =
    let pairs = pairs_of p in
    let sorted = sorted_records by_text (both name (λ n. range count permitted)).spell (both name (λ n. range count permitted)).Fits (on (λ (q : List ℕ × Range). q.0) text_cmp)
    (on_total (λ (q : List ℕ × Range). q.0) nat_list_cmp_total) (named_below (λ n. range count permitted)) pairs fits.0.1.1 fits.0.1.2 in
    subst (IsStrictlySortedBy text_cmp) (ap (λ (q : List (List ℕ) × List Range). q.0) fits.1) (mapped (λ (q : List ℕ × Range). q.0) text_cmp pairs sorted)
users_rise false count permitted p fits = names_rise user_count p.0 fits.0

labels_rise : (are_on : Bool) (l : LabelNames) → (labels are_on).Fits l → IsStrictlySortedBy text_cmp l.users
unfolding labels
labels_rise are_on l fits = users_rise are_on (length l.levels.categories) l.levels.permitted (l.users, l.levels.users) fits.0.1.1

-- ---- all

record AreOrderlyNames (n : Named) : Type 0 where
  roles_up : IsStrictlySortedBy text_cmp n.roles
  types_up : IsStrictlySortedBy text_cmp n.types
  aliases_up : IsStrictlySortedBy alias_cmp n.type_aliases
  classes_up : IsStrictlySortedBy class_cmp n.classes
  booleans_up : IsStrictlySortedBy text_cmp (boolean_names n.booleans)
  few_booleans : length n.booleans ≤ 4096
  each_class : (c : Class) → Contains n.classes c → IsOrderlyClass c

orderly_names : (n : Named) → names.Fits n → AreOrderlyNames n
unfolding names
orderly_names n fits = record {
  roles_up = names_rise (λ k. nat_le k 4096) n.roles fits.0.0.0;
  types_up = names_rise (λ k. nat_le k 65535) n.types fits.0.1.0;
  aliases_up = aliases_rise n.types n.type_aliases fits.0.1.1.0;
  classes_up = classes_rise n.classes fits.0.1.1.1.0;
  booleans_up = booleans_rise n.booleans fits.0.1.1.1.1;
  few_booleans = leb-true (length n.booleans) 4096 fits.0.1.1.1.1.0.1;
  each_class = λ c in_. orderly_class c (all_at class_row.Fits n.classes c fits.0.1.1.1.0.1.1 in_);
}

pub orderly : (t : Table) → IsProper t → IsOrderly t
unfolding sections linked
orderly t proper =
    let parts = proper.fits.1.0 in
    let own = orderly_names record { roles = t.roles; types = t.types; type_aliases = t.type_aliases; classes = t.classes; booleans = t.booleans } parts.1.0 in
    let linked_ = parts.1.1.0.0 in
    record {
      users = labels_rise t.levels.are_on record { levels = t.levels; users = t.users } parts.0;
      roles = own.roles_up;
      types = own.types_up;
      type_aliases = own.aliases_up;
      classes = own.classes_up;
      booleans = own.booleans_up;
      few_booleans = own.few_booleans;
      each_class = own.each_class;
      user_roles = links_rise (length t.users) (length t.roles) t.user_roles linked_.0;
      role_types = links_rise (length t.roles) (length t.types) t.role_types linked_.1.0;
      role_allows = links_rise (length t.roles) (length t.roles) t.role_allows linked_.1.1;
      constraints =
          section_rises (constraint_limits t.levels.are_on (length t.users) record { roles = t.roles; types = t.types; type_aliases = t.type_aliases; classes = t.classes; booleans = t.booleans })
          t.constraints parts.1.1.1.1;
    }
