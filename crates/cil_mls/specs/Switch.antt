-- What mls statements say, as tests. No other crate needs these words.
use Rattle.std.specs.Prelude.{Bool, true, false, ◌&&◌, not}
use Rattle.cil_syntax.specs.declared.kind.Keyword.{Keyword}
use Rattle.cil_syntax.specs.declared.kind.Keyword.TheVariants as keywords
use Rattle.cil_syntax.specs.declared.term.Op.{Op}
use Rattle.cil_syntax.specs.declared.term.Op.TheVariants as ops
use Rattle.cil_syntax.specs.Terms.{Term, Leaf, Name, Form, Terms, nil, cons}
use Rattle.cil_attrs.specs.macros.Item.{Item, OptSet, is_enabled}

-- the statement is an mls statement
abbrev pub is_mls : Keyword → Bool
is_mls keywords.Mls = true
is_mls keyword = false

-- the word turns levels on, or off
abbrev pub is_switch_word : Bool → Op → Bool
is_switch_word on ops.Yes = on
is_switch_word on ops.No = not on
is_switch_word on op = false

-- the term is such a word, and has no parts
abbrev pub is_bare : {L : Type 0} → Terms L → Bool
is_bare nil = true
is_bare (cons t ts) = false

abbrev pub is_switch_term : {L : Type 0} → Bool → Term L → Bool
is_switch_term on (Leaf w) = false
is_switch_term on (Name at bytes) = false
is_switch_term on (Form at op parts) = is_bare parts && is_switch_word on op

-- what is said is such a term alone
abbrev pub is_switch : {L : Type 0} → Bool → Terms L → Bool
is_switch on nil = false
is_switch on (cons t nil) = is_switch_term on t
is_switch on (cons t (cons u ts)) = false

-- the statement turns levels on, or off, and is enabled
abbrev pub switches : OptSet → Bool → Item → Bool
switches s on x = is_mls x.keyword && (is_enabled s x && is_switch on x.args)
