-- Worked bytes of rules, computed from the sentences of the layout.
use Rattle.std.proofs.Common.{◌≡◌, ℕ, zero, suc, true, false, List, [], ◌∷◌, ◌++◌, None, Some, Ok, Err, refl}
use Rattle.cil_conditions.specs.declared.token.Token.{Token}
use Rattle.cil_conditions.specs.declared.token.Token.TheVariants as tokens
use Rattle.cil_format.specs.declared.fault.TableFault.TheVariants.{Short, NotCanonical, OutOfRange}
use Rattle.cil_format.specs.Format.{many_at, rising_at}
use Rattle.cil_index.specs.rules.Rule.{Rule, Types, Itself}
use Rattle.cil_rule_bytes.specs.Conditions.{boolean, opposite, trees_in}
use Rattle.cil_rule_bytes.specs.Layout.{Limits, condition, rule, rules, rule_sections, tree}

-- three types, two booleans, and two classes: of two permissions, and of one
abbrev limits : Limits
limits = record { types = 3; booleans = 2; widths = 2 ∷ 1 ∷ [] }

abbrev always : List ℕ
always = 0 ∷ []

abbrev of_0 : List ℕ
of_0 = 0 ∷ 1 ∷ 0 ∷ 0 ∷ []

abbrev on_1 : List ℕ
on_1 = 0 ∷ 0 ∷ 1 ∷ 0 ∷ 1 ∷ []

abbrev on_itself : List ℕ
on_itself = 1 ∷ []

abbrev both_of_0 : List ℕ
both_of_0 = 0 ∷ 0 ∷ 0 ∷ 0 ∷ 0 ∷ 3 ∷ []

abbrev one_of_1 : List ℕ
one_of_1 = 0 ∷ 1 ∷ 0 ∷ 0 ∷ 0 ∷ 1 ∷ []

-- ---- a rule on types, and one on the source itself

abbrev plain : List ℕ
plain = always ++ of_0 ++ on_1 ++ both_of_0

abbrev the_plain : Rule
the_plain = record { branch = None; source = 0 ∷ []; target = Types (1 ∷ []); class = 0; mask = 3 }

plain_is : (rule limits).spell the_plain ≡ plain
plain_is = refl

plain_read : (rule limits).read (plain ++ 9 ∷ []) ≡ Ok (the_plain, 9 ∷ [])
unfolding many_at
plain_read = refl

itself_read : (rule limits).read (always ++ of_0 ++ on_itself ++ one_of_1) ≡ Ok (record { branch = None; source = 0 ∷ []; target = Itself; class = 1; mask = 1 }, [])
unfolding many_at
itself_read = refl

-- for self no set follows: what looks like one is the class
itself_has_no_set : (rule limits).read (always ++ of_0 ++ on_itself ++ (0 ∷ 0 ∷ []) ++ one_of_1) ≡ Err OutOfRange
unfolding many_at
itself_has_no_set = refl

-- ---- branches of both values

when_true : (rule limits).read (1 ∷ 1 ∷ 0 ∷ 1 ∷ of_0 ++ on_1 ++ both_of_0)
    ≡ Ok (record { branch = Some (record { condition = tokens.Boolean 1 ∷ []; value = true }); source = 0 ∷ []; target = Types (1 ∷ []); class = 0; mask = 3 }, [])
unfolding condition tree many_at
when_true = refl

when_false : (rule limits).read (2 ∷ 5 ∷ 1 ∷ 0 ∷ 0 ∷ 2 ∷ 1 ∷ 0 ∷ 1 ∷ of_0 ++ on_1 ++ both_of_0)
    ≡ Ok (record { branch = Some (record { condition = tokens.Xor ∷ tokens.Boolean 0 ∷ tokens.Not ∷ tokens.Boolean 1 ∷ []; value = false }); source = 0 ∷ []; target = Types (1 ∷ []); class = 0; mask = 3 }, [])
unfolding condition tree many_at
when_false = refl

when_spelled : (rule limits).spell (record { branch = Some (record { condition = tokens.Xor ∷ tokens.Boolean 0 ∷ tokens.Not ∷ tokens.Boolean 1 ∷ []; value = false }); source = 0 ∷ []; target = Types (1 ∷ []); class = 0; mask = 3 })
    ≡ 2 ∷ 5 ∷ 1 ∷ 0 ∷ 0 ∷ 2 ∷ 1 ∷ 0 ∷ 1 ∷ of_0 ++ on_1 ++ both_of_0
unfolding condition tree trees_in
when_spelled = refl

-- ---- what is out of range: the byte of a condition, a boolean, tags, types, a count of types, the byte of a target, a class, a mask

other_condition : (rule limits).read (3 ∷ []) ≡ Err OutOfRange
other_condition = refl

other_boolean : (rule limits).read (1 ∷ 1 ∷ 0 ∷ 2 ∷ []) ≡ Err OutOfRange
unfolding condition tree
other_boolean = refl

low_tag : (rule limits).read (1 ∷ 0 ∷ []) ≡ Err OutOfRange
unfolding condition tree
low_tag = refl

high_tag : (rule limits).read (1 ∷ 8 ∷ []) ≡ Err OutOfRange
unfolding condition tree
high_tag = refl

other_type : (rule limits).read (always ++ 0 ∷ 1 ∷ 0 ∷ 3 ∷ []) ≡ Err OutOfRange
unfolding many_at
other_type = refl

many_types : (rule limits).read (always ++ 0 ∷ 4 ∷ []) ≡ Err OutOfRange
many_types = refl

other_target : (rule limits).read (always ++ of_0 ++ 2 ∷ []) ≡ Err OutOfRange
unfolding many_at
other_target = refl

other_class : (rule limits).read (always ++ of_0 ++ on_1 ++ 0 ∷ 2 ∷ []) ≡ Err OutOfRange
unfolding many_at
other_class = refl

other_mask : (rule limits).read (always ++ of_0 ++ on_1 ++ 0 ∷ 0 ∷ 0 ∷ 0 ∷ 0 ∷ 4 ∷ []) ≡ Err OutOfRange
unfolding many_at
other_mask = refl

-- ---- what says nothing is refused at the end of the record: an end or a value out of range comes first

empty_source : (rule limits).read (always ++ 0 ∷ 0 ∷ on_1 ++ both_of_0) ≡ Err NotCanonical
unfolding many_at
empty_source = refl

empty_source_and_range : (rule limits).read (always ++ 0 ∷ 0 ∷ on_1 ++ 0 ∷ 0 ∷ 0 ∷ 0 ∷ 0 ∷ 4 ∷ []) ≡ Err OutOfRange
unfolding many_at
empty_source_and_range = refl

empty_source_and_end : (rule limits).read (always ++ 0 ∷ 0 ∷ on_1 ++ 0 ∷ 0 ∷ 0 ∷ 0 ∷ 0 ∷ []) ≡ Err Short
unfolding many_at
empty_source_and_end = refl

empty_target : (rule limits).read (always ++ of_0 ++ 0 ∷ 0 ∷ 0 ∷ both_of_0) ≡ Err NotCanonical
unfolding many_at
empty_target = refl

no_permission : (rule limits).read (always ++ of_0 ++ on_1 ++ 0 ∷ 0 ∷ 0 ∷ 0 ∷ 0 ∷ 0 ∷ []) ≡ Err NotCanonical
unfolding many_at
no_permission = refl

-- ---- sections

two_rise : (rules limits).read (0 ∷ 0 ∷ 0 ∷ 2 ∷ plain ++ (1 ∷ 1 ∷ 0 ∷ 1 ∷ of_0 ++ on_1 ++ both_of_0))
    ≡ Ok (the_plain ∷ record { branch = Some (record { condition = tokens.Boolean 1 ∷ []; value = true }); source = 0 ∷ []; target = Types (1 ∷ []); class = 0; mask = 3 } ∷ [], [])
unfolding condition tree many_at rising_at
two_rise = refl

two_fall : (rules limits).read (0 ∷ 0 ∷ 0 ∷ 2 ∷ (1 ∷ 1 ∷ 0 ∷ 1 ∷ of_0 ++ on_1 ++ both_of_0) ++ plain) ≡ Err NotCanonical
unfolding condition tree many_at rising_at
two_fall = refl

twice : (rules limits).read (0 ∷ 0 ∷ 0 ∷ 2 ∷ plain ++ plain) ≡ Err NotCanonical
unfolding many_at rising_at
twice = refl

-- the order is judged at the end of the record
twice_and_range : (rules limits).read (0 ∷ 0 ∷ 0 ∷ 2 ∷ plain ++ (always ++ of_0 ++ on_1 ++ 0 ∷ 0 ∷ 0 ∷ 0 ∷ 0 ∷ 4 ∷ [])) ≡ Err OutOfRange
unfolding many_at rising_at
twice_and_range = refl

-- allow, auditallow, dontaudit
three : (rule_sections limits).read (0 ∷ 0 ∷ 0 ∷ 0 ∷ 0 ∷ 0 ∷ 0 ∷ 1 ∷ plain ++ 0 ∷ 0 ∷ 0 ∷ 0 ∷ 7 ∷ []) ≡ Ok (record { allow = []; auditallow = the_plain ∷ []; dontaudit = [] }, 7 ∷ [])
unfolding rule_sections many_at rising_at
three = refl

-- ---- conditions that nest: 128 levels pass, and a tag one deeper is not read

abbrev nots : ℕ → List ℕ → List ℕ
nots zero more = more
nots (suc n) more = 2 ∷ nots n more

nested : (tree 2 2).read (2 ∷ 1 ∷ 0 ∷ 1 ∷ []) ≡ Ok (opposite (boolean 1), [])
unfolding tree
nested = refl

too_deep : (tree 2 1).read (2 ∷ []) ≡ Err OutOfRange
unfolding tree
too_deep = refl

abbrev not_tokens : ℕ → List Token → List Token
not_tokens zero ts = ts
not_tokens (suc n) ts = tokens.Not ∷ not_tokens n ts

-- 127 operators and a boolean; 127 operators and the end; 128 operators
deepest : (condition 2).read (nots 127 (1 ∷ 0 ∷ 1 ∷ [])) ≡ Ok (not_tokens 127 (tokens.Boolean 1 ∷ []), [])
unfolding condition tree
deepest = refl

deepest_and_end : (condition 2).read (nots 127 []) ≡ Err Short
unfolding condition tree
deepest_and_end = refl

one_too_deep : (condition 2).read (nots 128 []) ≡ Err OutOfRange
unfolding condition tree
one_too_deep = refl
