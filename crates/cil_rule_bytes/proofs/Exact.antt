-- Rules: what is read is laid out so, what is laid out so is read, and no fault but the end is mended by more bytes.
use Rattle.std.proofs.Common.{◌≡◌, ℕ, zero, suc, ◌^◌, Bool, true, false, List, length, Option, None, Some, refl, sym, ap}
use Rattle.std.specs.Prelude.{◌==◌}
use Rattle.std.specs.Int.{w8}
use Rattle.cil_conditions.specs.declared.branch.Branch.{Branch}
use Rattle.cil_format.specs.declared.fault.TableFault.TheVariants.{NotCanonical, OutOfRange}
use Rattle.cil_format.specs.Fields.{below, mask, set, small}
use Rattle.cil_format.specs.Format.{Format, as_type, both, choose, number, only, refused}
use Rattle.cil_format.proofs.Bytes.{wide8}
use Rattle.cil_format.proofs.FieldLaws.{choose_exact, chosen_tells, mask_exact, section_exact, set_exact, small_exact}
use Rattle.cil_format.proofs.FormatLaws.{IsExact, as_exact, both_exact, checked_exact, keyed_exact, number_exact, only_exact, refused_exact, spelled_exact}
use Rattle.cil_index.specs.rules.Rule.{Target, Types, Itself}
use Rattle.cil_rule_bytes.specs.Conditions.{Condition, boolean, opposite, joined, Junction, conjoined, disjoined, parted, matched, unmatched, tokens_of, tree_in}
use Rattle.cil_rule_bytes.specs.Layout.{Limits, condition_tag, boolean_of, only_part, two_parts, joined_parts, node, tokens_bytes, tree, tree_tokens, condition, condition_of, branch_rank, in_branch, branch_by, branch, types_of, target_tag, target_by, target, on_class, parts, rule_of, parts_of, says_some, any_rule, rule, rules, sections_of, three_of, rule_sections}
use Rattle.cil_rule_bytes.proofs.SpellLemmas.{tokens_spelled}
use Rattle.cil_rule_bytes.proofs.Trees.{one_tree}

-- ---- conditions

module _ (booleans : ℕ) (part : Format Condition) (exact : IsExact part) (tag : ℕ) where
  joined_exact : (j : Junction) → IsExact (joined_parts j part)
  joined_exact j = as_exact (λ p. joined j p.0 p.1) two_parts (both part (λ c. part)) (λ p fits. refl) (both_exact part (λ c. part) exact (λ c fits. exact))

  abbrev boolean_part : Format Condition
  boolean_part = as_type boolean boolean_of (small booleans)

  abbrev opposite_part : Format Condition
  opposite_part = as_type opposite only_part part

  abbrev from_7 : Format Condition
  from_7 = choose (tag == 7) (joined_parts unmatched part) (refused OutOfRange)

  abbrev from_6 : Format Condition
  from_6 = choose (tag == 6) (joined_parts matched part) from_7

  abbrev from_5 : Format Condition
  from_5 = choose (tag == 5) (joined_parts parted part) from_6

  abbrev from_4 : Format Condition
  from_4 = choose (tag == 4) (joined_parts disjoined part) from_5

  abbrev from_3 : Format Condition
  from_3 = choose (tag == 3) (joined_parts conjoined part) from_4

  abbrev from_2 : Format Condition
  from_2 = choose (tag == 2) opposite_part from_3

  node_exact : IsExact (node booleans part tag)
  node_exact =
      choose_exact (tag == 1) boolean_part from_2 (as_exact boolean boolean_of (small booleans) (λ n fits. refl) (small_exact booleans))
      (choose_exact (tag == 2) opposite_part from_3 (as_exact opposite only_part part (λ c fits. refl) exact)
      (choose_exact (tag == 3) (joined_parts conjoined part) from_4 (joined_exact conjoined)
      (choose_exact (tag == 4) (joined_parts disjoined part) from_5 (joined_exact disjoined)
      (choose_exact (tag == 5) (joined_parts parted part) from_6 (joined_exact parted)
      (choose_exact (tag == 6) (joined_parts matched part) from_7 (joined_exact matched)
      (choose_exact (tag == 7) (joined_parts unmatched part) (refused OutOfRange) (joined_exact unmatched) (refused_exact OutOfRange)))))))

  node_tells : (c : Condition) → (node booleans part tag).Fits c → condition_tag c ≡ tag
  node_tells c =
      chosen_tells condition_tag tag 1 boolean_part from_2 c (λ fits. ap condition_tag (sym fits.1))
      (chosen_tells condition_tag tag 2 opposite_part from_3 c (λ fits. ap condition_tag (sym fits.1))
      (chosen_tells condition_tag tag 3 (joined_parts conjoined part) from_4 c (λ fits. ap condition_tag (sym fits.1))
      (chosen_tells condition_tag tag 4 (joined_parts disjoined part) from_5 c (λ fits. ap condition_tag (sym fits.1))
      (chosen_tells condition_tag tag 5 (joined_parts parted part) from_6 c (λ fits. ap condition_tag (sym fits.1))
      (chosen_tells condition_tag tag 6 (joined_parts matched part) from_7 c (λ fits. ap condition_tag (sym fits.1))
      (chosen_tells condition_tag tag 7 (joined_parts unmatched part) (refused OutOfRange) c (λ fits. ap condition_tag (sym fits.1)) (λ fits. absurd fits)))))))

pub tree_exact : (booleans depth : ℕ) → IsExact (tree booleans depth)
unfolding tree
tree_exact booleans zero = refused_exact OutOfRange
tree_exact booleans (suc depth) =
    let inner = tree_exact booleans depth in
    keyed_exact condition_tag (number w8 (2 ^ 8)) (node booleans (tree booleans depth)) (node_tells booleans (tree booleans depth) inner) (number_exact w8 (2 ^ 8) wide8)
    (λ tag fits. node_exact booleans (tree booleans depth) inner tag)

pub condition_exact : (booleans : ℕ) → IsExact (condition booleans)
unfolding condition
condition_exact booleans =
    spelled_exact tokens_bytes (tree_tokens booleans) (λ ts fits. sym (tokens_spelled booleans ts fits).bytes_are)
    (as_exact tokens_of tree_in (tree booleans 128) (λ c fits. one_tree c) (tree_exact booleans 128))

-- ---- branches

in_branch_exact : (booleans : ℕ) (value : Bool) → IsExact (in_branch booleans value)
in_branch_exact booleans value =
    as_exact (λ ts. Some (record { condition = ts; value = value })) condition_of (condition booleans) (λ ts fits. refl) (condition_exact booleans)

module _ (booleans tag : ℕ) where
  abbrev false_branch : Format (Option Branch)
  false_branch = choose (tag == 2) (in_branch booleans false) (refused OutOfRange)

  abbrev some_branch : Format (Option Branch)
  some_branch = choose (tag == 1) (in_branch booleans true) false_branch

  branch_by_exact : IsExact (branch_by booleans tag)
  branch_by_exact =
      choose_exact (tag == 0) (only None) some_branch (only_exact None)
      (choose_exact (tag == 1) (in_branch booleans true) false_branch (in_branch_exact booleans true)
      (choose_exact (tag == 2) (in_branch booleans false) (refused OutOfRange) (in_branch_exact booleans false) (refused_exact OutOfRange)))

  branch_tells : (b : Option Branch) → (branch_by booleans tag).Fits b → branch_rank b ≡ tag
  branch_tells b =
      chosen_tells branch_rank tag 0 (only None) some_branch b (λ fits. ap branch_rank fits)
      (chosen_tells branch_rank tag 1 (in_branch booleans true) false_branch b (λ fits. ap branch_rank (sym fits.1))
      (chosen_tells branch_rank tag 2 (in_branch booleans false) (refused OutOfRange) b (λ fits. ap branch_rank (sym fits.1)) (λ fits. absurd fits)))

pub branch_exact : (booleans : ℕ) → IsExact (branch booleans)
branch_exact booleans =
    keyed_exact branch_rank (number w8 (2 ^ 8)) (branch_by booleans) (branch_tells booleans) (number_exact w8 (2 ^ 8) wide8) (λ tag fits. branch_by_exact booleans tag)

-- ---- targets

target_by_exact : (types tag : ℕ) → IsExact (target_by types tag)
target_by_exact types tag =
    choose_exact (tag == 0) (as_type Types types_of (set types)) (choose (tag == 1) (only Itself) (refused OutOfRange)) (as_exact Types types_of (set types) (λ a fits. refl) (set_exact types))
    (choose_exact (tag == 1) (only Itself) (refused OutOfRange) (only_exact Itself) (refused_exact OutOfRange))

target_tells : (types tag : ℕ) (t : Target) → (target_by types tag).Fits t → target_tag t ≡ tag
target_tells types tag t =
    chosen_tells target_tag tag 0 (as_type Types types_of (set types)) (choose (tag == 1) (only Itself) (refused OutOfRange)) t (λ fits. ap target_tag (sym fits.1))
    (chosen_tells target_tag tag 1 (only Itself) (refused OutOfRange) t (λ fits. ap target_tag fits) (λ fits. absurd fits))

pub target_exact : (types : ℕ) → IsExact (target types)
target_exact types = keyed_exact target_tag (number w8 (2 ^ 8)) (target_by types) (target_tells types) (number_exact w8 (2 ^ 8) wide8) (λ tag fits. target_by_exact types tag)

-- ---- rules

pub on_class_exact : (widths : List ℕ) → IsExact (on_class widths)
on_class_exact widths = both_exact (small (length widths)) (mask widths) (small_exact (length widths)) (λ c fits. mask_exact widths c)

pub parts_exact : (limits : Limits) → IsExact (parts limits)
parts_exact limits =
    both_exact (branch limits.booleans) (λ b. both (set limits.types) (λ s. both (target limits.types) (λ t. on_class limits.widths))) (branch_exact limits.booleans)
    (λ b fits. both_exact (set limits.types) (λ s. both (target limits.types) (λ t. on_class limits.widths)) (set_exact limits.types)
    (λ s fit. both_exact (target limits.types) (λ t. on_class limits.widths) (target_exact limits.types) (λ t fit_3. on_class_exact limits.widths)))

pub rule_exact : (limits : Limits) → IsExact (rule limits)
rule_exact limits = checked_exact says_some NotCanonical (any_rule limits) (as_exact rule_of parts_of (parts limits) (λ p fits. refl) (parts_exact limits))

pub rules_exact : (limits : Limits) → IsExact (rules limits)
rules_exact limits = section_exact below (λ n. _) (rule limits) (rule_exact limits)

pub sections_exact : (limits : Limits) → IsExact (rule_sections limits)
unfolding rule_sections
sections_exact limits =
    as_exact sections_of three_of (both (rules limits) (λ a. both (rules limits) (λ b. rules limits))) (λ p fits. refl)
    (both_exact (rules limits) (λ a. both (rules limits) (λ b. rules limits)) (rules_exact limits)
    (λ a fits. both_exact (rules limits) (λ b. rules limits) (rules_exact limits) (λ b fit. rules_exact limits)))
