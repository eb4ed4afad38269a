-- The value of a set expression, as a test of one element, for words of any kind: types, roles, users, categories or
-- permissions. CIL Reference Guide, "Expressions".
use Rattle.std.specs.Prelude.{Bool, true, false, ◌&&◌, ◌||◌, not}
use Rattle.cil_syntax.specs.declared.term.Op.{Op}
use Rattle.cil_syntax.specs.declared.term.Op.TheVariants as ops
use Rattle.cil_syntax.specs.Terms.{Term, Leaf, Name, Form, Terms, nil, cons}

-- how the parts of a form are joined: to all that there is, what none of them has, what some have, what each has, what an odd
-- number of them has, or what is between two ends
pub data Way : Type 0 where
  Everything : Way
  Complement : Way
  SomeOf : Way
  EachOf : Way
  OddOf : Way
  RangeOf : Way

-- how the parts of a form are joined, by its operator. `or` has the way of a list, and so have those that stand in no expression
abbrev pub way_of : Op → Way
way_of ops.All = Everything
way_of ops.Not = Complement
way_of ops.And = EachOf
way_of ops.Xor = OddOf
way_of ops.Range = RangeOf
way_of op = SomeOf

-- just one of two holds
abbrev pub differ : Bool → Bool → Bool
differ true b = not b
differ false b = b

-- the value of a form, by whether the element is among all that there is, in some part, in each, in an odd number of them, and in
-- the range
abbrev pub by_way : Way → (among some each odd range : Bool) → Bool
by_way Everything among some each odd range = among
by_way Complement among some each odd range = among && not some
by_way SomeOf among some each odd range = some
by_way EachOf among some each odd range = each
by_way OddOf among some each odd range = odd
by_way RangeOf among some each odd range = range

-- whether the element is in an expression, by whether each word has it, whether it is among all that there is, and whether a
-- range has it
module _ {L : Type 0} (has : L → Bool) (among : Bool) (range : Terms L → Bool) where
  unfoldable mutual
    pub is_in : Term L → Bool
    is_in (Leaf w) = has w
    is_in (Name at x) = false
    is_in (Form at op ts) = by_way (way_of op) among (is_in_some ts) (is_in_each ts) (is_in_odd ts) (range ts)

    -- in one of some expressions, in each, in an odd number of them
    pub is_in_some : Terms L → Bool
    is_in_some nil = false
    is_in_some (cons a ts) = is_in a || is_in_some ts

    pub is_in_each : Terms L → Bool
    is_in_each nil = among
    is_in_each (cons a ts) = is_in a && is_in_each ts

    pub is_in_odd : Terms L → Bool
    is_in_odd nil = false
    is_in_odd (cons a ts) = differ (is_in a) (is_in_odd ts)
