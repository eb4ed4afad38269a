-- The laws of the layout of tables.
use Rattle.std.proofs.Common.{◌≡◌, ℕ, ◌+◌, ◌<◌, ◌^◌, ◌⊎◌, Bool, true, false, cond, eqb, List, [], ◌∷◌, ◌++◌, length, get_or, Result, Ok, Err, refl, sym, ap, subst, ◌∙◌, append_assoc, arith, inl, inr}
use Rattle.std.proofs.lemmas.Bool.{eqb-true}
use Rattle.std.proofs.lemmas.List.{append-nil, nil_from_length, length-append}
use Rattle.cil_tables.specs.Table.{Table}
use Rattle.cil_format.specs.declared.fault.TableFault.{TableFault}
use Rattle.cil_format.specs.declared.fault.TableFault.TheVariants.{Short, Trailing, BadMagic, BadVersion}
use Rattle.cil_format.specs.declared.fault.TableError.{TableError}
use Rattle.cil_format.specs.Fields.{this_byte}
use Rattle.cil_format.specs.Format.{Format, ◌>>=◌, both, as_type}
use Rattle.cil_format.specs.Takes.{Fails}
use Rattle.cil_format.proofs.FieldLaws.{this_exact}
use Rattle.cil_format.proofs.FormatLaws.{IsExact, IsTaken, both_exact, as_exact, keyed_exact, bind_ok, chosen, ok_is, not_both, goes_on}
use Rattle.cil_label_bytes.specs.Layout.{LabelNames, labels}
use Rattle.cil_label_bytes.proofs.Exact.{labels_exact}
use Rattle.cil_rule_bytes.specs.Layout.{rule_sections}
use Rattle.cil_rule_bytes.proofs.Exact.{sections_exact}
use Rattle.cil_constraint_bytes.specs.Layout.{constraints}
use Rattle.cil_constraint_bytes.proofs.Exact.{constraints_exact}
use Rattle.cil_table_bytes.specs.Names.{flag}
use Rattle.cil_table_bytes.specs.Laws.{AreBytes, HasOneValue, ShortOnly}
use Rattle.cil_table_bytes.specs.Layout.{Magic, magic, magic_bytes, header, Named, names, linked, rule_limits, constraint_limits, Parts, table_of, parts_of, behind_names, sections, table, IsProper, layout, table_in}
use Rattle.cil_table_bytes.proofs.NameExact.{flag_exact, names_exact, linked_exact}

magic_exact : IsExact magic
unfolding magic
magic_exact =
    both_exact (this_byte BadMagic 67) (λ a. both (this_byte BadMagic 73) (λ b. both (this_byte BadMagic 76) (λ c. both (this_byte BadMagic 84) (λ d. this_byte BadVersion 1)))) (this_exact BadMagic 67)
    (λ a p. both_exact (this_byte BadMagic 73) (λ b. both (this_byte BadMagic 76) (λ c. both (this_byte BadMagic 84) (λ d. this_byte BadVersion 1))) (this_exact BadMagic 73)
    (λ b q. both_exact (this_byte BadMagic 76) (λ c. both (this_byte BadMagic 84) (λ d. this_byte BadVersion 1)) (this_exact BadMagic 76)
    (λ c r. both_exact (this_byte BadMagic 84) (λ d. this_byte BadVersion 1) (this_exact BadMagic 84) (λ d s. this_exact BadVersion 1))))

only_magic : (m : Magic) → magic.Fits m → magic_bytes ≡ m
unfolding magic
only_magic m fits =
    let a = eqb-true _ _ fits.0.1 in
    let b = eqb-true _ _ fits.1.0.1 in
    let c = eqb-true _ _ fits.1.1.0.1 in
    let d = eqb-true _ _ fits.1.1.1.0.1 in
    let e = eqb-true _ _ fits.1.1.1.1.1 in
    λ i. (sym a i, (sym b i, (sym c i, (sym d i, sym e i))))

pub header_exact : IsExact header
header_exact =
    as_exact (λ p. p.1) (λ on. (magic_bytes, on)) (both magic (λ m. flag)) (λ p fits. ap (λ (m : Magic). (m, p.1)) (only_magic p.0 fits.0))
    (both_exact magic (λ m. flag) magic_exact (λ m fits. flag_exact))

behind_exact : (are_on : Bool) (user_count : ℕ) (n : Named) → IsExact (behind_names are_on user_count n)
behind_exact are_on user_count n =
    both_exact (linked user_count (length n.roles) (length n.types)) (λ k. both (rule_sections (rule_limits n)) (λ r. constraints (constraint_limits are_on user_count n)))
    (linked_exact user_count (length n.roles) (length n.types))
    (λ k fk. both_exact (rule_sections (rule_limits n)) (λ r. constraints (constraint_limits are_on user_count n)) (sections_exact (rule_limits n))
    (λ r fr. constraints_exact (constraint_limits are_on user_count n)))

sections_are_exact : (are_on : Bool) → IsExact (sections are_on)
unfolding sections
sections_are_exact are_on =
    as_exact table_of parts_of (both (labels are_on) (λ l. both names (behind_names are_on (length l.users)))) (λ p fits. refl)
    (both_exact (labels are_on) (λ l. both names (behind_names are_on (length l.users))) (labels_exact are_on)
    (λ l fl. both_exact names (behind_names are_on (length l.users)) names_exact (λ n fn. behind_exact are_on (length l.users) n)))

-- the labels of a table have levels where it is said so
labels_tell : (are_on : Bool) (l : LabelNames) → (labels are_on).Fits l → l.levels.are_on ≡ are_on
unfolding labels
labels_tell are_on l fits = sym (ap (λ (k : LabelNames). k.levels.are_on) fits.1)

sections_tell : (are_on : Bool) (t : Table) → (sections are_on).Fits t → t.levels.are_on ≡ are_on
unfolding sections
sections_tell are_on t fits = labels_tell are_on (record { levels = t.levels; users = t.users }) fits.0.0

pub table_exact : IsExact table
table_exact = keyed_exact (λ t. t.levels.are_on) header sections sections_tell header_exact (λ on fits. sections_are_exact on)

-- ---- all of the bytes

pub one_value : HasOneValue
unfolding layout
one_value t u p q e =
    let a = table_exact.again t [] p.fits in
    let b = table_exact.again u [] q.fits in
    let same = sym a ∙ ap (λ (w : List ℕ). table.read (w ++ [])) e ∙ b in
    ap (λ (x : Table × List ℕ). x.0) (ok_is (t, []) (u, []) same)

-- what is read of all the bytes is laid out so
pub found : (bytes : List ℕ) (t : Table) → AreBytes bytes → table_in bytes ≡ Ok t → IsProper t × (bytes ≡ layout t)
unfolding layout table_in
found bytes t is e =
    let (x, rx, ex) = bind_ok (table.read bytes) (λ t. cond (eqb (length t.1) 0) (Ok t.0) (Err Trailing)) t e in
    elim (chosen (eqb (length x.1) 0) (Ok x.0) (Err Trailing) (Ok t) ex) [
      | inl (empty, same) ↦
          let taken = table_exact.takes bytes x.0 x.1 is rx in
          let nothing : x.1 ≡ [] = nil_from_length x.1 (eqb-true _ _ empty) in
          let whole : bytes ≡ layout x.0 = taken.parts ∙ ap (λ (w : List ℕ). layout x.0 ++ w) nothing ∙ append-nil (layout x.0) in
          subst (λ (y : Table). IsProper y × (bytes ≡ layout y)) (ok_is x.0 t same) (record { fits = taken.fits }, whole)
      | inr (more, other) ↦ absurd (not_both t Trailing (sym other))
    ]

-- what is laid out is read
pub read_again : (bytes : List ℕ) (t : Table) → IsProper t → bytes ≡ layout t → table_in bytes ≡ Ok t
unfolding layout table_in
read_again bytes t fits e =
    let again : table.read bytes ≡ Ok (t, []) = ap table.read (e ∙ sym (append-nil (layout t))) ∙ table_exact.again t [] fits.fits in
    rw again refl

layout_read : (t : Table) (bytes : List ℕ) → IsProper t → layout t ≡ bytes → table.read bytes ≡ Ok (t, [])
unfolding layout
layout_read t bytes fits e = ap table.read (sym e ∙ sym (append-nil (layout t))) ∙ table_exact.again t [] fits.fits

short_is : (front : List ℕ) (d : TableFault) → table.read front ≡ Err d → d ≡ Short → table_in front ≡ Err Short
unfolding table_in
short_is front d r short = rw r (ap Err short)

pub short_only : ShortOnly
short_only t front more fits is e some = go (table.read front) refl
  where
    again : table.read (front ++ more) ≡ Ok (t, [])
    again = layout_read t (front ++ more) fits e

    go : (r : Result (Table × List ℕ) TableFault) → table.read front ≡ r → table_in front ≡ Err Short
    go (Ok x) r =
        let longer = goes_on table table_exact front x.0 x.1 more is r in
        let same : (x.0, x.1 ++ more) ≡ (t, []) = ok_is (x.0, x.1 ++ more) (t, []) (sym longer ∙ again) in
        let none : length (x.1 ++ more) ≡ 0 = ap (λ (y : Table × List ℕ). length y.1) same in
        absurd (omega (arith, none, length-append x.1 more, some))
    go (Err d) r =
        elim (table_exact.stays front more d is r) [
          | inl short ↦ short_is front d r short
          | inr still ↦ absurd (not_both (t, []) d (sym again ∙ still))
        ]

-- bytes of tables are refused only for want of memory
pub no_fault : (bytes : List ℕ) (t : Table) (e : TableError) → IsProper t → bytes ≡ layout t → Fails e (table_in bytes) → Fails e (Ok t)
no_fault bytes t e fits is failed = subst (λ (r : Result Table TableFault). Fails e r) (read_again bytes t fits is) failed
