-- The laws of the layout of constraints.
use Rattle.std.proofs.Common.{◌≡◌, ℕ, zero, suc, ◌^◌, ◌≤◌, List, length, Ok, refl, sym, ap, ◌∙◌, arith}
use Rattle.std.specs.Prelude.{◌==◌}
use Rattle.std.specs.Int.{w8}
use Rattle.cil_format.specs.declared.fault.TableFault.TheVariants.{NotCanonical, OutOfRange}
use Rattle.cil_format.specs.Fields.{below, byte_below, mask, set, small}
use Rattle.cil_format.specs.Format.{Format, as_type, both, checked, choose, number, refused}
use Rattle.cil_format.proofs.Bytes.{IsBytes, wide8}
use Rattle.cil_format.proofs.FormatLaws.{IsExact, as_exact, both_exact, checked_exact, keyed_exact, number_exact, refused_exact}
use Rattle.cil_format.proofs.FieldLaws.{byte_exact, choose_exact, chosen_tells, mask_exact, section_exact, set_exact, small_exact}
use Rattle.cil_constraints.specs.declared.step.Step.{Step}
use Rattle.cil_constraints.specs.Expressions.{Expression, Negated, Both, Either, Compared, Ranked, Inside, IsExpression, levels_of, steps_of}
use Rattle.cil_constraints.proofs.OneTree.{one_tree}
use Rattle.cil_constraint_bytes.specs.Layout.{Limits, any_constraint, constraint, constraint_fields, constraint_of, constraints, expression, fields_of, first_tree, member, member_fields, member_of, member_parts, members}
use Rattle.cil_constraint_bytes.specs.Layout.{node, only_part, operations, pair, pair_fields, pair_of, pair_parts, pairs_with, tag_of, tree, tree_in, two_parts, variables}
use Rattle.cil_constraint_bytes.proofs.FieldBack.{equality_back, pair_back, pair_tag, variable_back}

abbrev Tree : Type 0
Tree = Expression (List ℕ)

-- ---- tests

second_exact : (u : ℕ) → IsExact (checked (pairs_with u) OutOfRange (number w8 (2 ^ 8)))
second_exact u = checked_exact (pairs_with u) OutOfRange (number w8 (2 ^ 8)) (number_exact w8 (2 ^ 8) wide8)

abbrev second_of : ℕ → Format ℕ
second_of u = checked (pairs_with u) OutOfRange (number w8 (2 ^ 8))

pair_exact : (limits : Limits) → IsExact (pair limits)
pair_exact limits =
    as_exact pair_of pair_parts (pair_fields limits) (λ p fits. pair_back p.0 p.1.0 p.1.1 fits.1.0.1 fits.1.1.1)
    (both_exact (byte_below (variables limits)) (λ u. both (second_of u) (λ v. byte_below (operations u))) (byte_exact (variables limits))
    (λ u fits. both_exact (second_of u) (λ v. byte_below (operations u)) (second_exact u) (λ v fit. byte_exact (operations u))))

member_exact : (limits : Limits) → IsExact (member limits)
member_exact limits =
    as_exact member_of member_parts (member_fields limits)
    (λ p fits. rw (variable_back p.0 fits.0.1, equality_back p.1.0 fits.1.0.1) refl)
    (both_exact (byte_below 6) (λ v. both (byte_below 2) (λ op. set (members limits v))) (byte_exact 6)
    (λ v fits. both_exact (byte_below 2) (λ op. set (members limits v)) (byte_exact 2) (λ op fit. set_exact (members limits v))))

-- ---- expressions

module _ (limits : Limits) (operand : Format Tree) (exact : IsExact operand) (tag : ℕ) where
  abbrev two : Format (Tree × Tree)
  two = both operand (λ a. operand)

  two_exact : IsExact two
  two_exact = both_exact operand (λ a. operand) exact (λ a fits. exact)

  abbrev not_format : Format Tree
  not_format = as_type Negated only_part operand

  abbrev and_format : Format Tree
  and_format = as_type (λ p. Both p.0 p.1) two_parts two

  abbrev or_format : Format Tree
  or_format = as_type (λ p. Either p.0 p.1) two_parts two

  abbrev last_format : Format Tree
  last_format = choose (tag == 17) (member limits) (refused OutOfRange)

  abbrev leaf_format : Format Tree
  leaf_format = choose (tag == 16) (pair limits) last_format

  abbrev or_on : Format Tree
  or_on = choose (tag == 4) or_format leaf_format

  abbrev and_on : Format Tree
  and_on = choose (tag == 3) and_format or_on

  node_exact : IsExact (node limits operand tag)
  node_exact =
      choose_exact (tag == 2) not_format and_on (as_exact Negated only_part operand (λ a fits. refl) exact)
      (choose_exact (tag == 3) and_format or_on (as_exact (λ p. Both p.0 p.1) two_parts two (λ p fits. refl) two_exact)
      (choose_exact (tag == 4) or_format leaf_format (as_exact (λ p. Either p.0 p.1) two_parts two (λ p fits. refl) two_exact)
      (choose_exact (tag == 16) (pair limits) last_format (pair_exact limits)
      (choose_exact (tag == 17) (member limits) (refused OutOfRange) (member_exact limits) (refused_exact OutOfRange)))))

  node_tells : (t : Tree) → (node limits operand tag).Fits t → tag_of t ≡ tag
  node_tells t =
      chosen_tells tag_of tag 2 not_format and_on t (λ fits. ap tag_of (sym fits.1))
      (chosen_tells tag_of tag 3 and_format or_on t (λ fits. ap tag_of (sym fits.1))
      (chosen_tells tag_of tag 4 or_format leaf_format t (λ fits. ap tag_of (sym fits.1))
      (chosen_tells tag_of tag 16 (pair limits) last_format t (λ fits. ap tag_of (sym fits.1) ∙ pair_tag (pair_parts t))
      (chosen_tells tag_of tag 17 (member limits) (refused OutOfRange) t (λ fits. ap tag_of (sym fits.1)) (λ fits. absurd fits)))))

pub tree_exact : (limits : Limits) (levels : ℕ) → IsExact (tree limits levels)
unfolding tree
tree_exact limits zero = refused_exact OutOfRange
tree_exact limits (suc levels) =
    let inner = tree_exact limits levels in
    keyed_exact tag_of (number w8 (2 ^ 8)) (node limits (tree limits levels)) (node_tells limits (tree limits levels) inner) (number_exact w8 (2 ^ 8) wide8)
    (λ tag fits. node_exact limits (tree limits levels) inner tag)

-- the steps of an expression give it back
pub tree_back : (e : Tree) → tree_in (steps_of e) ≡ e
tree_back e = ap first_tree (one_tree e)

pub expression_exact : (limits : Limits) → IsExact (expression limits)
expression_exact limits = as_exact steps_of tree_in (tree limits 128) (λ e fits. tree_back e) (tree_exact limits 128)

-- ---- constraints

pub constraint_exact : (limits : Limits) → IsExact (constraint limits)
constraint_exact limits =
    checked_exact (λ c. _) NotCanonical (any_constraint limits)
    (as_exact constraint_of fields_of (constraint_fields limits) (λ p fits. refl)
    (both_exact (small (length limits.widths)) (λ class. both (mask limits.widths class) (λ m. expression limits)) (small_exact (length limits.widths))
    (λ class fits. both_exact (mask limits.widths class) (λ m. expression limits) (mask_exact limits.widths class) (λ m fit. expression_exact limits))))

pub constraints_exact : (limits : Limits) → IsExact (constraints limits)
constraints_exact limits = section_exact below (λ n. _) (constraint limits) (constraint_exact limits)

-- ---- what fits is an expression

levels_fit : (limits : Limits) (levels : ℕ) (e : Tree) → (tree limits levels).Fits e → levels_of e ≤ levels
unfolding tree
levels_fit limits zero e fits = absurd fits
levels_fit limits (suc levels) (Negated a) fits = let inner = levels_fit limits levels a fits.1.0 in omega (arith, inner)
levels_fit limits (suc levels) (Both a b) fits =
    let first = levels_fit limits levels a fits.1.0.0 in
    let second = levels_fit limits levels b fits.1.0.1 in
    omega (arith, first, second)
levels_fit limits (suc levels) (Either a b) fits =
    let first = levels_fit limits levels a fits.1.0.0 in
    let second = levels_fit limits levels b fits.1.0.1 in
    omega (arith, first, second)
levels_fit limits (suc levels) (Compared part equality) fits = omega arith
levels_fit limits (suc levels) (Ranked pair relation) fits = omega arith
levels_fit limits (suc levels) (Inside part side equality numbers) fits = omega arith

-- steps that have a layout are those of one expression, of at most 128 levels
pub expression_is : (limits : Limits) (ss : List Step) → (expression limits).Fits ss → IsExpression ss
expression_is limits ss fits = record { tree = tree_in ss; steps = sym fits.1; shallow = levels_fit limits 128 (tree_in ss) fits.0 }

-- the steps of an expression that was read are those of one of at most 128 levels
pub read_is : (limits : Limits) (bytes : List ℕ) (e : Tree) (rest : List ℕ) (ss : List Step) → IsBytes bytes
    → (tree limits 128).read bytes ≡ Ok (e, rest) → ss ≡ steps_of e → IsExpression ss
read_is limits bytes e rest ss are read is =
    record { tree = e; steps = is; shallow = levels_fit limits 128 e ((tree_exact limits 128).takes bytes e rest are read).fits }
