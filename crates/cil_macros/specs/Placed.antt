-- Statements as they are placed by inheritances and calls, and what their words mean there. CIL Reference Guide, "Call /
-- Macro Statements"; how words of a body are looked up is this project's profile.
use Rattle.std.specs.Prelude.{ℕ, Bool, true, false, ◌&&◌, not, if◌then◌else◌, List, [], Option, Some, None, find}
use Rattle.std.specs.List.{list_any}
use Rattle.cil_syntax.specs.declared.kind.Sign.{Sign}
use Rattle.cil_syntax.specs.declared.kind.Sign.TheVariants as signs
use Rattle.cil_syntax.specs.declared.term.Op.{Op}
use Rattle.cil_faults.specs.declared.spot.Spot.{Spot}
use Rattle.cil_syntax.specs.declared.term.Word.{Word}
use Rattle.cil_syntax.specs.Kinds.{is_wanted}
use Rattle.cil_syntax.specs.Scopes.{Scope, ScopedWord}
use Rattle.cil_syntax.specs.Spelling.{same_bytes}
use Rattle.cil_syntax.specs.Table.{entry_of}
use Rattle.cil_syntax.specs.Terms.{Term, Leaf, Name, Form, Terms, nil, cons}
use Rattle.cil_syntax.specs.Written.{Enclosing, Written}
use Rattle.cil_blocks.specs.Branches.{condition_in, replaced}
use Rattle.cil_blocks.specs.Contents.{Standing, name_of, same_spot}
use Rattle.cil_macros.specs.Parameters.{Parameter, argument_kind, is_text, serves_sign}

-- a parameter with its argument
pub record Bound : Type 0 where
  pub parameter : Parameter
  pub value : Term ScopedWord

-- the body in which a statement is placed: that of which macro, and the scope of the place of the outermost call
pub record Body : Type 0 where
  pub macro : Written
  pub home : Scope

-- a statement that stands somewhere, or that a call brings there: then with the arguments, and the macros through which it
-- came, the last one first
pub record Placed : Type 0 where
  pub standing : Standing
  pub bounds : List Bound
  pub body : Option Body
  pub macros : List Spot
  pub steps : ℕ  -- how many calls, and optionals and booleanifs of bodies, lie round it

-- what stands without calls
abbrev pub placed_standing : Standing → Placed
placed_standing s = record { standing = s; bounds = []; body = None; macros = []; steps = 0 }

-- ---- scopes

-- a statement of the body of the macro, in its optionals and booleanifs too
abbrev pub is_in_body : Written → Option Enclosing → Bool
is_in_body m None = false
is_in_body m (Some e) = same_spot m.statement.at e.at

-- the statement declares the name in a kind that the sign wants
abbrev pub declares_name : List ℕ → Sign → Written → Bool
declares_name bytes sign v = list_any (is_wanted sign) (entry_of v.statement.keyword).declares && same_bytes (name_of v) bytes

-- the body of the macro declares the name in a wanted kind
unfoldable pub declares : List Written → Written → List ℕ → Sign → Bool
declares ws m bytes sign = list_any (λ v. is_in_body m v.context.macro && declares_name bytes sign v) ws

-- the scope of a word: in a body the home scope for what the body declares
abbrev pub scope_in : List Written → Scope → Option Body → Word → Scope
scope_in ws scope None w = scope
scope_in ws scope (Some b) w = if declares ws b.macro w.bytes w.sign then b.home else scope

abbrev pub scope_of : List Written → Placed → Word → Scope
scope_of ws p w = scope_in ws p.standing.scope p.body w

abbrev pub scoped : List Written → Placed → Word → ScopedWord
scoped ws p w = record { at = w.at; bytes = w.bytes; sign = w.sign; scope = scope_of ws p w }

-- ---- what words mean

-- the parameter is the one for which the word stands
abbrev pub is_served : Word → Bound → Bool
is_served w b = same_bytes b.parameter.name.name w.bytes && serves_sign (argument_kind b.parameter.kind) w.sign

abbrev pub wanting : Sign → ScopedWord → ScopedWord
wanting sign w = record { at = w.at; bytes = w.bytes; sign = sign; scope = w.scope }

-- a list, or `all`, may stand at this place too; at every other one only a name may
abbrev pub takes_lists : Sign → Bool
takes_lists signs.ClassPermissions = true
takes_lists signs.MappedPermissions = true
takes_lists signs.CategorySets = true
takes_lists signs.Levels = true
takes_lists signs.LevelRanges = true
takes_lists sign = false

-- an argument is a list, or `all`, where only a name may stand. A text is put where texts stand alone
abbrev pub is_misplaced : Sign → Term ScopedWord → Bool
is_misplaced sign (Leaf w) = false
is_misplaced sign (Name at name) = false
is_misplaced sign (Form at op parts) = not (is_text op) && not (takes_lists sign)

-- where it serves a permission of a class map, a list is of a class alone
abbrev pub of_plain_class : Terms ScopedWord → Terms ScopedWord
of_plain_class nil = nil
of_plain_class (cons (Leaf w) ts) = cons (Leaf (wanting signs.PlainClass w)) ts
of_plain_class (cons t ts) = cons t ts

abbrev pub put_list : Sign → Spot → Op → Terms ScopedWord → Term ScopedWord
put_list signs.MappedPermissions at op parts = Form at op (of_plain_class parts)
put_list sign at op parts = Form at op parts

-- an argument at a place: a word wants what the place wants, and keeps the scope that it got at the call
abbrev pub put : Sign → Term ScopedWord → Term ScopedWord
put sign (Leaf w) = Leaf (wanting sign w)
put sign (Name at name) = Name at name
put sign (Form at op parts) = put_list sign at op parts

abbrev pub meant_by : List Written → Placed → Word → Option Bound → Term ScopedWord
meant_by ws p w None = Leaf (scoped ws p w)
meant_by ws p w (Some b) = put w.sign b.value

-- what a word means: its argument, or itself in its scope
unfoldable pub meaning : List Written → Placed → Word → Term ScopedWord
meaning ws p w = meant_by ws p w (find (is_served w) p.bounds)

-- a word that no namespace is asked for
abbrev pub unasked : Word → ScopedWord
unasked w = record { at = w.at; bytes = w.bytes; sign = w.sign; scope = [] }

-- what is meant, as a word. A string serves no place of a word that is looked up
abbrev pub as_word : Word → Term ScopedWord → ScopedWord
as_word w (Leaf v) = v
as_word w (Name at name) = unasked w
as_word w (Form at op parts) = unasked w

-- what a word of a placed statement says there: the argument for which it stands, or itself in its scope
unfoldable pub word_of : List Written → Placed → Word → ScopedWord
word_of ws p w = as_word w (meaning ws p w)

-- the condition of a booleanif where it is placed. No place of a condition has a list, so each word of it says a word
abbrev pub condition_there : List Written → Placed → Term ScopedWord
condition_there ws p = replaced (λ at. at) (word_of ws p) (condition_in p.standing.statement.statement.args)

-- each word replaced by what it means
unfoldable mutual
  pub filled : {L M : Type 0} → (L → Term M) → Term L → Term M
  filled f (Leaf w) = f w
  filled f (Name at name) = Name at name
  filled f (Form at op parts) = Form at op (all_filled f parts)

  pub all_filled : {L M : Type 0} → (L → Term M) → Terms L → Terms M
  all_filled f nil = nil
  all_filled f (cons t ts) = cons (filled f t) (all_filled f ts)
