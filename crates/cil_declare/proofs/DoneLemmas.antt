-- The rows of all instances are their declarations, and runs of them are runs of declarations.
use Rattle.std.specs.Prelude.{codes, Contains, None, Some}
use Rattle.std.specs.List.{list_all}
use Rattle.std.specs.List.Sorted.{IsPermutation}
use Rattle.std.proofs.Common.{◌≡◌, ℕ, ◌<◌, ◌≤◌, true, List, length, refl, sym, ◌∙◌, ap, subst, inl, inr, arith}
use Rattle.std.proofs.lemmas.List.Elements.{Contains-get_or}
use Rattle.std.proofs.lemmas.List.Sorted.{Contains-permutation, IsPermutation-sym}
use Rattle.std.proofs.lemmas.Option.{same_Some}
use Rattle.cil_base.specs.MadeLists.{contains_flat, from_flat}
use Rattle.cil_syntax.specs.declared.kind.Kind.TheVariants as kinds
use Rattle.cil_syntax.specs.Terms.{nil}
use Rattle.cil_blocks.proofs.NamespaceLemmas.{global_at}
use Rattle.cil_macros.specs.Item.{Item, OptSet, is_enabled}
use Rattle.cil_macros.specs.Items.{Kept, item_at, items_in, namespaces_in}
use Rattle.cil_macros.proofs.ItemLemmas.{item_got}
use Rattle.cil_declare.specs.declared.row.Row.{Row}
use Rattle.cil_declare.specs.declared.run.Run.{Run}
use Rattle.cil_names.specs.Declarations.{Declaration, IsDeclaration, by, declared_by, object, object_role}
use Rattle.cil_declare.specs.Rows.{AreAllRows, IsRow, IsRowAt, declaration_of, is_row_enabled, object_row, round_at}
use Rattle.cil_declare.specs.Runs.{AreRunsOf, rows_in}
use Rattle.cil_declare.proofs.RowLemmas.{row_declares}

-- ---- items by their places

-- an item is that of a place
pub place_of : (i : Kept) (x : Item) → Contains (items_in i) x → (k : ℕ) × (k < length (items_in i)) × (item_at i k ≡ x)
place_of i x (k, below, at) = (k, below, item_got i k below x ∙ at)

pub item_within : (i : Kept) (k : ℕ) → k < length (items_in i) → Contains (items_in i) (item_at i k)
item_within i k below =
    subst (Contains (items_in i)) (sym (item_got i k below (item_at i k))) (Contains-get_or (items_in i) k (item_at i k) below)

-- ---- rows and declarations

pub row_enabled : (i : Kept) (s : OptSet) (k : ℕ) (r : Row) → IsRowAt i k r → is_row_enabled i s r ≡ is_enabled s (item_at i k)
row_enabled i s k r of = ap (λ o. list_all s (round_at i o)) of.at

pub object_declares : (i : Kept) → declaration_of i object_row ≡ object_role
object_declares i = λ j. record { kind = kinds.Role; space = global_at (namespaces_in i) j; name = codes "object_r"; content = nil }

pub row_declared : (i : Kept) (s : OptSet) (r : Row) → IsRow i r → is_row_enabled i s r ≡ true → IsDeclaration (items_in i) s (declaration_of i r)
row_declared i s r is on = elim is [
  | inl e ↦ subst (IsDeclaration (items_in i) s) (sym (ap (declaration_of i) e ∙ object_declares i)) object
  | inr from ↦
      let (k, of) = from in
      by (item_at i k) (declaration_of i r) (item_within i k of.within) (sym (row_enabled i s k r of) ∙ on) (row_declares i k r of)
]

module _ (i : Kept) (rows : List Row) (all : AreAllRows i rows) where
  pub declared_row : (s : OptSet) (d : Declaration) → IsDeclaration (items_in i) s d
      → (r : Row) × Contains rows r × (declaration_of i r ≡ d) × (is_row_enabled i s r ≡ true)
  declared_row s d object = (object_row, all.object, object_declares i, refl)
  declared_row s d (by x e c on f) =
      let (k, below, same) = place_of i x c in
      let (r, in_rows, of, is) = all.all k below d (subst (λ y. Contains (declared_by y) d) (sym same) f) in
      (r, in_rows, is, row_enabled i s k r of ∙ ap (is_enabled s) same ∙ on)

-- ---- the rows of runs

module _ (i : Kept) (rows : List Row) (runs : List Run) (of : AreRunsOf i rows runs) where
  pub in_rows : (run : Run) (r : Row) → Contains runs run → Contains run.rows.now r → Contains rows r
  in_rows run r c d = subst (λ z. Contains z r) of.are.whole (contains_flat rows_in runs run r c d)

  pub is_row : (run : Run) (r : Row) → Contains runs run → Contains run.rows.now r → IsRow i r
  is_row run r c d = of.all.each r (in_rows run r c d)

  pub run_of : (r : Row) → Contains rows r → (run : Run) × Contains runs run × Contains run.rows.now r
  run_of r c = from_flat rows_in runs r (subst (λ z. Contains z r) (sym of.are.whole) c)

pub space_within : (i : Kept) (r : Row) → IsRow i r → r.space ≤ length (namespaces_in i)
space_within i r is = elim is [
  | inl e ↦ subst (λ (x : Row). x.space ≤ length (namespaces_in i)) (sym e) (let none : 0 ≤ length (namespaces_in i) = omega arith in none)
  | inr from ↦ from.1.space.within
]

-- sorted rows are those of all instances as well
pub sorted_all : (i : Kept) (given sorted : List Row) → IsPermutation given sorted → AreAllRows i given → AreAllRows i sorted
sorted_all i given sorted moved all = record {
  object = Contains-permutation given sorted object_row moved all.object;
  each = λ r c. all.each r (Contains-permutation sorted given r (IsPermutation-sym given sorted moved) c);
  all = λ k below d c. let (r, in_given, at, is) = all.all k below d c in (r, Contains-permutation given sorted r moved in_given, at, is);
}

-- ---- rows by their places

-- a row with a place is that of the instance there
pub row_at : (i : Kept) (r : Row) → IsRow i r → (k : ℕ) → r.at ≡ Some k → IsRowAt i k r
row_at i r is k e = elim is [
  | inl first ↦ absurd (let f : None ≡ Some k = sym (ap (λ (x : Row). x.at) first) ∙ e in cc)
  | inr from ↦ let (m, of) = from in let same : m ≡ k = same_Some m k (sym of.at ∙ e) in subst (λ n. IsRowAt i n r) same of
]
