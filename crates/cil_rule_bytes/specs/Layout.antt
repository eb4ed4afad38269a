-- How rules are laid out: sections 14, 15 and 16 of tables. This project's profile.
use Rattle.std.specs.Prelude.{ℕ, zero, suc, ◌^◌, Bool, true, false, List, [], ◌∷◌, length, Option, Some, None, nat_le, nat_lt, ◌==◌, ◌&&◌}
use Rattle.std.specs.Int.{w8, w16, w32, to_be_bytes}
use Rattle.std.specs.List.{flat_map}
use Rattle.cil_conditions.specs.declared.branch.Branch.{Branch}
use Rattle.cil_conditions.specs.declared.token.Token.{Token}
use Rattle.cil_conditions.specs.declared.token.Token.TheVariants as tokens
use Rattle.cil_conditions.specs.Order.{branch_tag, tag_of}
use Rattle.cil_format.specs.declared.fault.TableFault.TheVariants.{NotCanonical, OutOfRange}
use Rattle.cil_format.specs.Fields.{below, mask, set, small}
use Rattle.cil_format.specs.Format.{Format, as_type, both, checked, choose, keyed, number, only, refused, section, spelled_by}
use Rattle.cil_index.specs.Sections.{RuleSections}
use Rattle.cil_index.specs.rules.Rule.{Rule, Target, Types, Itself}
use Rattle.cil_rule_bytes.specs.Conditions.{Condition, boolean, opposite, joined, Junction, conjoined, disjoined, parted, matched, unmatched, junction_token, tokens_of, tree_in}

-- what the sections before say of the numbers in rules: how many types and booleans there are, and how many permissions each class has
pub record Limits : Type 0 where
  pub types : ℕ
  pub booleans : ℕ
  pub widths : List ℕ

-- ---- conditions

-- the tags are those by which tokens are ordered
abbrev pub condition_tag : Condition → ℕ
condition_tag (boolean n) = 1
condition_tag (opposite c) = 2
condition_tag (joined j c d) = tag_of (junction_token j)

-- the parts of a condition, where it has this tag
abbrev pub boolean_of : Condition → ℕ
boolean_of (boolean n) = n
boolean_of other = 0

abbrev pub only_part : Condition → Condition
only_part (opposite c) = c
only_part other = other

abbrev pub two_parts : Condition → Condition × Condition
two_parts (joined j c d) = (c, d)
two_parts other = (other, other)

abbrev pub joined_parts : Junction → Format Condition → Format Condition
joined_parts j part = as_type (λ p. joined j p.0 p.1) two_parts (both part (λ c. part))

abbrev pub node : ℕ → Format Condition → ℕ → Format Condition
node booleans part tag =
    choose (tag == 1) (as_type boolean boolean_of (small booleans))
    (choose (tag == 2) (as_type opposite only_part part)
    (choose (tag == 3) (joined_parts conjoined part)
    (choose (tag == 4) (joined_parts disjoined part)
    (choose (tag == 5) (joined_parts parted part)
    (choose (tag == 6) (joined_parts matched part)
    (choose (tag == 7) (joined_parts unmatched part)
    (refused OutOfRange)))))))

-- conditions that nest so deep at most, their booleans counted
unfoldable pub tree : ℕ → ℕ → Format Condition
tree booleans zero = refused OutOfRange
tree booleans (suc depth) = keyed condition_tag (number w8 (2 ^ 8)) (node booleans (tree booleans depth))

-- the number of a boolean; nothing for an operator
abbrev pub number_bytes : Token → List ℕ
number_bytes (tokens.Boolean n) = to_be_bytes w16 n
number_bytes t = []

-- its tag, and the number of a boolean
abbrev pub token_bytes : Token → List ℕ
token_bytes t = tag_of t ∷ number_bytes t

-- the bytes of tokens, one after another
abbrev pub tokens_bytes : List Token → List ℕ
tokens_bytes = flat_map token_bytes

-- the tokens of a tree
abbrev pub tree_tokens : ℕ → Format (List Token)
tree_tokens booleans = as_type tokens_of tree_in (tree booleans 128)

-- a condition as it is kept: its tokens, the first of which are those of the outermost operator, so their bytes are those of the tree
unfoldable pub condition : ℕ → Format (List Token)
condition booleans = spelled_by tokens_bytes (tree_tokens booleans)

-- ---- the branch in which a rule counts

abbrev pub condition_of : Option Branch → List Token
condition_of None = []
condition_of (Some b) = b.condition

abbrev pub branch_rank : Option Branch → ℕ
branch_rank None = 0
branch_rank (Some b) = branch_tag b.value

abbrev pub in_branch : ℕ → Bool → Format (Option Branch)
in_branch booleans value = as_type (λ ts. Some (record { condition = ts; value = value })) condition_of (condition booleans)

abbrev pub branch_by : ℕ → ℕ → Format (Option Branch)
branch_by booleans tag =
    choose (tag == 0) (only None) (choose (tag == 1) (in_branch booleans true) (choose (tag == 2) (in_branch booleans false) (refused OutOfRange)))

abbrev pub branch : ℕ → Format (Option Branch)
branch booleans = keyed branch_rank (number w8 (2 ^ 8)) (branch_by booleans)

-- ---- what a rule reaches

abbrev pub types_of : Target → List ℕ
types_of (Types numbers) = numbers
types_of Itself = []

abbrev pub target_tag : Target → ℕ
target_tag (Types numbers) = 0
target_tag Itself = 1

abbrev pub target_by : ℕ → ℕ → Format Target
target_by types tag = choose (tag == 0) (as_type Types types_of (set types)) (choose (tag == 1) (only Itself) (refused OutOfRange))

abbrev pub target : ℕ → Format Target
target types = keyed target_tag (number w8 (2 ^ 8)) (target_by types)

-- ---- rules

-- a class, and permissions of it
abbrev pub on_class : List ℕ → Format (ℕ × ℕ)
on_class widths = both (small (length widths)) (mask widths)

abbrev pub Parts : Type 0
Parts = Option Branch × (List ℕ × (Target × (ℕ × ℕ)))

abbrev pub parts : Limits → Format Parts
parts limits = both (branch limits.booleans) (λ b. both (set limits.types) (λ s. both (target limits.types) (λ t. on_class limits.widths)))

abbrev pub rule_of : Parts → Rule
rule_of p = record { branch = p.0; source = p.1.0; target = p.1.1.0; class = p.1.1.1.0; mask = p.1.1.1.1 }

abbrev pub parts_of : Rule → Parts
parts_of r = (r.branch, (r.source, (r.target, (r.class, r.mask))))

-- a set has members
abbrev pub is_full : List ℕ → Bool
is_full [] = false
is_full (n ∷ more) = true

-- the source type itself, or some types
abbrev pub reaches_some : Target → Bool
reaches_some (Types numbers) = is_full numbers
reaches_some Itself = true

-- a rule is of some types, on some, and has some permissions
abbrev pub says_some : Rule → Bool
says_some r = is_full r.source && reaches_some r.target && nat_lt 0 r.mask

-- a rule, whatever it says
abbrev pub any_rule : Limits → Format Rule
any_rule limits = as_type rule_of parts_of (parts limits)

-- a rule that says something, which is judged at its end
abbrev pub rule : Limits → Format Rule
rule limits = checked says_some NotCanonical (any_rule limits)

-- a section of rules
abbrev pub rules : Limits → Format (List Rule)
rules limits = section below (λ n. nat_le n 4294967295) (rule limits)

-- ---- the three sections

abbrev pub Three : Type 0
Three = List Rule × (List Rule × List Rule)

abbrev pub sections_of : Three → RuleSections
sections_of p = record { allow = p.0; auditallow = p.1.0; dontaudit = p.1.1 }

abbrev pub three_of : RuleSections → Three
three_of s = (s.allow, (s.auditallow, s.dontaudit))

-- the rules that allow, then those by which uses are recorded, then those by which denials are not
unfoldable pub rule_sections : Limits → Format RuleSections
rule_sections limits = as_type sections_of three_of (both (rules limits) (λ a. both (rules limits) (λ b. rules limits)))
