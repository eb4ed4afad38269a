-- What is read stands in the orders of tables.
use Rattle.std.proofs.Common.{◌≡◌, ℕ, ◌<◌, ◌≤◌, ◌^◌, Bool, true, List, [], ◌∷◌, ◌++◌, length, None, Ok, refl, sym, ap, subst, ◌∙◌}
use Rattle.std.specs.Cmp.{IsTotalOrder}
use Rattle.std.specs.List.{AllByRecursion}
use Rattle.std.specs.List.Sorted.{IsStrictlySortedBy}
use Rattle.std.specs.declared.cmp.Ordering.TheVariants.{Less}
use Rattle.std.specs.Int.{w16, to_be_bytes}
use Rattle.std.specs.Ordering.{nat_cmp, ordering_then}
use Rattle.std.specs.declared.cmp.Ordering.{Ordering}
use Rattle.std.specs.declared.cmp.Ordering.TheVariants.{Equal, Greater}
use Rattle.std.proofs.lemmas.Bool.{ltb-true}
use Rattle.std.proofs.lemmas.Cmp.{nat_list_cmp_total}
use Rattle.std.proofs.lemmas.List.{append-nil}
use Rattle.cil_base.specs.Lists.{text_cmp}
use Rattle.cil_tables.specs.declared.tables.Link.{Link}
use Rattle.cil_tables.specs.Table.{link_cmp, link_total}
use Rattle.cil_format.specs.Fields.{below, by_text, text}
use Rattle.cil_format.specs.Format.{section}
use Rattle.cil_format.proofs.Bytes.{IsBytes}
use Rattle.cil_format.proofs.FieldLaws.{section_exact}
use Rattle.cil_format.proofs.FormatLaws.{IsTaken}
use Rattle.cil_format.proofs.Orders.{order16}
use Rattle.cil_format.proofs.SortedRecords.{is_less, sorted_records, text_below}
use Rattle.cil_label_bytes.specs.Names.{name}
use Rattle.cil_label_bytes.proofs.Exact.{name_exact}
use Rattle.cil_table_bytes.specs.Layout.{link, links}
use Rattle.cil_table_bytes.proofs.NameExact.{links_exact}

-- ---- names

name_below : (a b : List ℕ) → name.Fits a → name.Fits b → by_text (name.spell a) (name.spell b) ≡ true → text_cmp a b ≡ Less
name_below a b fa fb up =
    text_below a b [] [] fa.0 fb.0
    (ap (λ (w : List ℕ). by_text w (text.spell b ++ [])) (append-nil (text.spell a)) ∙ ap (by_text (text.spell a)) (append-nil (text.spell b)) ∙ up)

module _ (test : ℕ → Bool) where
  pub names_rise : (xs : List (List ℕ)) → (section by_text test name).Fits xs → IsStrictlySortedBy text_cmp xs
  names_rise xs fits = sorted_records by_text name.spell name.Fits text_cmp nat_list_cmp_total name_below xs fits.1.1 fits.1.2

  pub names_read : (bytes : List ℕ) (xs : List (List ℕ)) (rest : List ℕ) → IsBytes bytes → (section by_text test name).read bytes ≡ Ok (xs, rest) → IsStrictlySortedBy text_cmp xs
  names_read bytes xs rest is e = names_rise xs ((section_exact by_text test name name_exact).takes bytes xs rest is e).fits

-- ---- links

-- the order of two numbers is that of their bytes
pairs_order : (a b c d : ℕ) → a < 2 ^ 16 → b < 2 ^ 16 → c < 2 ^ 16 → d < 2 ^ 16
    → text_cmp (to_be_bytes w16 a ++ to_be_bytes w16 b) (to_be_bytes w16 c ++ to_be_bytes w16 d) ≡ ordering_then (nat_cmp a c) (nat_cmp b d)
pairs_order a b c d fa fb fc fd =
    order16 a c (to_be_bytes w16 b) (to_be_bytes w16 d) fa fc
    ∙ ap (ordering_then (nat_cmp a c)) (order16 b d [] [] fb fd ∙ then_equal (nat_cmp b d))
  where
    then_equal : (o : Ordering) → ordering_then o (text_cmp [] []) ≡ o
    then_equal Less = refl
    then_equal Equal = refl
    then_equal Greater = refl

module _ (holders helds : ℕ) where
  link_below : (a b : Link) → (link holders helds).Fits a → (link holders helds).Fits b → below ((link holders helds).spell a) ((link holders helds).spell b) ≡ true → link_cmp a b ≡ Less
  link_below a b fa fb up =
      sym (pairs_order a.holder a.held b.holder b.held fa.0.0.0 fa.0.1.0 fb.0.0.0 fb.0.1.0) ∙ is_less (text_cmp ((link holders helds).spell a) ((link holders helds).spell b)) up

  pub links_rise : (xs : List Link) → (links holders helds).Fits xs → IsStrictlySortedBy link_cmp xs
  links_rise xs fits = sorted_records below (link holders helds).spell (link holders helds).Fits link_cmp link_total link_below xs fits.1.1 fits.1.2

  pub links_read : (bytes : List ℕ) (xs : List Link) (rest : List ℕ) → IsBytes bytes → (links holders helds).read bytes ≡ Ok (xs, rest) → IsStrictlySortedBy link_cmp xs
  links_read bytes xs rest is e = links_rise xs ((links_exact holders helds).takes bytes xs rest is e).fits
