-- Statements with statements inside, calls and set-aside statements, read by the definition of their rows.
use Rattle.std.specs.Prelude.{◌≡◌, ℕ, ◌+◌, List, [], ◌∷◌, length, codes, Option, Some, None, refl}
use Rattle.cil_sexpr.specs.Tree.{Node, Word as TextWord, Quoted, Branch, Nodes, none, next}
use Rattle.cil_faults.specs.declared.code.FaultCode.{FaultCode}
use Rattle.cil_faults.specs.declared.code.FaultCode.TheVariants as causes
use Rattle.cil_syntax.specs.declared.kind.Keyword.{Keyword}
use Rattle.cil_syntax.specs.declared.kind.Keyword.TheVariants as keywords
use Rattle.cil_syntax.specs.declared.kind.Sign.{Sign}
use Rattle.cil_syntax.specs.declared.kind.Sign.TheVariants as signs
use Rattle.cil_syntax.specs.declared.term.Op.TheVariants as ops
use Rattle.cil_faults.specs.declared.spot.Spot.{Spot}
use Rattle.cil_faults.specs.declared.fault.Fault.{Fault}
use Rattle.cil_syntax.specs.declared.term.Word.{Word}
use Rattle.cil_syntax.specs.Shapes.{Inner, Reading}
use Rattle.cil_syntax.specs.Words.{reads, read_word, read_string}
use Rattle.cil_syntax.specs.Heads.{begins_with, first_words, heads}
use Rattle.cil_syntax.specs.Readings.{read_row, read_list, cell_of, cells_of}
use Rattle.cil_syntax.specs.declared.kind.Nesting.TheVariants as nestings
use Rattle.cil_syntax.specs.Table.{entry_of, rules, containers, types, classes, levels, set_aside_words, later_words, left_out_words}
use Rattle.cil_syntax.specs.Terms.{Term, Leaf, Name, Form, Terms, nil, cons}
use Rattle.cil_syntax.specs.Standpoints.{all_faults, forked, found_behind, found_from, found_inside}
use Rattle.cil_syntax.specs.Written.{Context, at_top, Verdict, Refused, Shaped, by_entry, inside_of, verdict_of}

-- a word at a place, a list that begins at one, and the string "a"
abbrev word : ℕ → List ℕ → Node
word at bytes = TextWord (record { start = at; end = at + length bytes }) bytes

abbrev list : ℕ → Nodes → Node
list at items = Branch (record { start = at; end = at + 2 }) items

abbrev string : ℕ → Node
string at = Quoted (record { start = at; end = at + 3 }) (34 ∷ 97 ∷ 34 ∷ [])

abbrev fault : FaultCode → ℕ → List ℕ → Inner
fault code at bytes = record { code = code; at = at; word = bytes }

abbrev spot : ℕ → Spot
spot at = record { «module» = 7; at = at }

abbrev leaf : ℕ → Sign → List ℕ → Term Word
leaf at sign bytes = Leaf record { at = spot at; bytes = bytes; sign = sign }

-- what stands behind the word of a statement, by its row
abbrev read : Keyword → Nodes → Option (Reading (Terms Word))
read keyword items = read_row (entry_of keyword).row (cells_of 7 items)

abbrev faults_of : Option (Reading (Terms Word)) → List Inner
faults_of None = []
faults_of (Some r) = r.faults

-- `(block b)`, `(block b ((x)) ())`, `(block b (x) y)`, `(block)`, `(block "a")`, `(block all)`
blocks : (read keywords.Block (next (word 7 (codes "b")) none) ≡ reads (cons (Name (spot 7) (codes "b")) nil) [])
    × (read keywords.Block (next (word 7 (codes "b")) (next (list 9 (next (list 10 (next (word 11 (codes "x")) none)) none)) (next (list 15 none) none)))
    ≡ reads (cons (Name (spot 7) (codes "b")) nil) [])
    × (read keywords.Block (next (word 7 (codes "b")) (next (list 9 (next (word 10 (codes "x")) none)) (next (word 13 (codes "y")) none))) ≡ None)
    × (read keywords.Block none ≡ None)
    × (read keywords.Block (next (string 7) none) ≡ None)
    × (faults_of (read keywords.Block (next (word 7 (codes "all")) none)) ≡ fault causes.ReservedName 7 (codes "all") ∷ [])
unfolding cells_of cell_of read_row read_word read_string read_list heads first_words begins_with entry_of
blocks = (refl, refl, refl, refl, refl, refl)

-- `(blockabstract b)`, `(blockinherit .a.b)`, `(blockinherit (a))`, `(blockinherit a b)`
block_words : (read keywords.BlockAbstract (next (word 15 (codes "b")) none) ≡ reads (cons (leaf 15 signs.Blocks (codes "b")) nil) [])
    × (read keywords.BlockInherit (next (word 14 (codes ".a.b")) none) ≡ reads (cons (leaf 14 signs.Blocks (codes ".a.b")) nil) [])
    × (read keywords.BlockInherit (next (list 14 (next (word 15 (codes "a")) none)) none) ≡ None)
    × (read keywords.BlockInherit (next (word 14 (codes "a")) (next (word 16 (codes "b")) none)) ≡ None)
unfolding cells_of cell_of read_row read_word read_string read_list heads first_words begins_with entry_of
block_words = (refl, refl, refl, refl)

-- `(macro m PARAMETERS (x))`
abbrev macro : Nodes → Nodes
macro parameters = next (word 7 (codes "m")) (next (list 9 parameters) (next (list 40 (next (word 41 (codes "x")) none)) none))

abbrev parameter : ℕ → List ℕ → List ℕ → Node
parameter at kind name = list at (next (word (at + 1) kind) (next (word (at + 8) name) none))

-- `()`, `((type x))`, `((category x))`, `((type x.y))`, `((type))`, `(type x)`; and a macro without parameters at all
macros : (read keywords.Macro (macro none) ≡ reads (cons (Name (spot 7) (codes "m")) (cons (Form (spot 9) ops.Parameters nil) nil)) [])
    × (read keywords.Macro (macro (next (parameter 10 (codes "type") (codes "x")) none))
    ≡ reads (cons (Name (spot 7) (codes "m")) (cons (Form (spot 9) ops.Parameters
    (cons (Form (spot 10) ops.Parameter (cons (Form (spot 11) ops.TypeKind nil) (cons (Name (spot 18) (codes "x")) nil))) nil)) nil)) [])
    × (faults_of (read keywords.Macro (macro (next (parameter 10 (codes "category") (codes "x")) none))) ≡ [])
    × (faults_of (read keywords.Macro (macro (next (parameter 10 (codes "type") (codes "x.y")) none))) ≡ fault causes.BadName 18 (codes "x.y") ∷ [])
    × (read keywords.Macro (macro (next (list 10 (next (word 11 (codes "type")) none)) none)) ≡ None)
    × (read keywords.Macro (macro (next (word 10 (codes "type")) (next (word 15 (codes "x")) none))) ≡ None)
    × (read keywords.Macro (next (word 7 (codes "m")) (next (word 9 (codes "x")) none)) ≡ None)
unfolding cells_of cell_of read_row read_word read_string read_list heads first_words begins_with entry_of
macros = (refl, refl, refl, refl, refl, refl, refl)

-- `(call m)`, `(call m (p))`, `(call m (all (b) "a"))`, `(call m a)`, `(call m (a) (b))`, `(call (m))`
calls : (read keywords.Call (next (word 6 (codes "m")) none) ≡ reads (cons (leaf 6 signs.Macros (codes "m")) nil) [])
    × (read keywords.Call (next (word 6 (codes "lib.m")) (next (list 12 (next (word 13 (codes "p")) none)) none))
    ≡ reads (cons (leaf 6 signs.Macros (codes "lib.m")) (cons (Form (spot 12) ops.Arguments (cons (leaf 13 signs.Unread (codes "p")) nil)) nil)) [])
    × (read keywords.Call (next (word 6 (codes "m"))
    (next (list 8 (next (word 9 (codes "all")) (next (list 13 (next (word 14 (codes "b")) none)) (next (string 17) none)))) none))
    ≡ reads (cons (leaf 6 signs.Macros (codes "m")) (cons (Form (spot 8) ops.Arguments (cons (leaf 9 signs.Unread (codes "all"))
    (cons (Form (spot 13) ops.UnreadList (cons (leaf 14 signs.Unread (codes "b")) nil))
    (cons (Form (spot 17) ops.UnreadText (cons (Name (spot 17) (34 ∷ 97 ∷ 34 ∷ [])) nil)) nil)))) nil)) [])
    × (read keywords.Call (next (word 6 (codes "m")) (next (word 8 (codes "a")) none)) ≡ None)
    × (read keywords.Call (next (word 6 (codes "m")) (next (list 8 none) (next (list 11 none) none))) ≡ None)
    × (read keywords.Call (next (list 6 (next (word 7 (codes "m")) none)) none) ≡ None)
unfolding cells_of cell_of read_row read_word read_string read_list heads first_words begins_with entry_of
calls = (refl, refl, refl, refl, refl, refl)

-- a set-aside statement has any contents, and says nothing
set_aside_statements : (read keywords.SetAside none ≡ reads nil [])
    × (read keywords.SetAside (next (string 9) (next (word 13 (codes "all")) (next (list 17 (next (list 18 none) none)) none))) ≡ reads nil [])
unfolding cells_of cell_of read_row read_word read_string read_list heads first_words begins_with entry_of
set_aside_statements = (refl, refl)

-- ---- places, and names of parameters

abbrev faults_by : Verdict → List Inner
faults_by (Refused i) = i ∷ []
faults_by (Shaped s faults) = faults

-- what is said of a statement that begins with a word, in a context
abbrev told : Context → Keyword → Nodes → List Inner
told context keyword items = faults_by (by_entry context (spot 0) (entry_of keyword).word (cells_of 7 items) (Some (entry_of keyword)))

-- in the body of a macro with the parameter x, and directly in the block b in the block a
abbrev in_macro : Context
in_macro = record {
  nesting = nestings.InOptional;
  space = [];
  under = Some (spot 3);
  macro = Some record { at = spot 3; parameters = codes "x" ∷ [] };
}

abbrev in_block : Context
in_block = record { nesting = nestings.InBlock; space = codes "b" ∷ codes "a" ∷ []; under = Some (spot 3); macro = None }

-- in a macro: a block, a macro, a class and a set-aside statement are 24, whatever their shape is; a call is not
macro_places : (told in_macro keywords.Block (next (word 7 (codes "b")) none) ≡ fault causes.BadPlace 0 (codes "block") ∷ [])
    × (told in_macro keywords.Block none ≡ fault causes.BadPlace 0 (codes "block") ∷ [])
    × (told in_macro keywords.Macro (macro none) ≡ fault causes.BadPlace 0 (codes "macro") ∷ [])
    × (told in_macro keywords.Class none ≡ fault causes.BadPlace 0 (codes "class") ∷ [])
    × (told in_macro keywords.SetAside none ≡ fault causes.BadPlace 0 [] ∷ [])
    × (told in_macro keywords.Call (next (word 6 (codes "m")) none) ≡ [])
unfolding cells_of cell_of read_row read_word read_string read_list heads first_words begins_with entry_of
macro_places = (refl, refl, refl, refl, refl, refl)

-- `(blockabstract b)` on top, in the block a.b and with other words: of another block it is 24 and no 25 or 26, and 23
-- where its shape is wrong
abstractions : (told at_top keywords.BlockAbstract (next (word 15 (codes "b")) none) ≡ fault causes.BadPlace 0 (codes "blockabstract") ∷ [])
    × (told in_block keywords.BlockAbstract (next (word 15 (codes "b")) none) ≡ [])
    × (told in_block keywords.BlockAbstract (next (word 15 (codes "a")) none) ≡ fault causes.BadPlace 0 (codes "blockabstract") ∷ [])
    × (told in_block keywords.BlockAbstract (next (word 15 (codes "a.b")) none) ≡ fault causes.BadPlace 0 (codes "blockabstract") ∷ [])
    × (told in_block keywords.BlockAbstract (next (word 15 (codes "all")) none) ≡ fault causes.BadPlace 0 (codes "blockabstract") ∷ [])
    × (told in_block keywords.BlockAbstract none ≡ fault causes.BadShape 0 (codes "blockabstract") ∷ [])
    × (told in_block keywords.BlockInherit (next (word 14 (codes "c")) none) ≡ [])
unfolding cells_of cell_of read_row read_word read_string read_list heads first_words begins_with entry_of
abstractions = (refl, refl, refl, refl, refl, refl, refl)

-- a parameter that is named twice, and three times: 27 at each later one
parameters : (told at_top keywords.Macro (macro (next (parameter 10 (codes "type") (codes "x")) (next (parameter 20 (codes "role") (codes "y")) none))) ≡ [])
    × (told at_top keywords.Macro (macro (next (parameter 10 (codes "type") (codes "x")) (next (parameter 20 (codes "role") (codes "x")) none)))
    ≡ fault causes.ParameterClash 28 (codes "x") ∷ [])
    × (told at_top keywords.Macro (macro (next (parameter 10 (codes "type") (codes "x"))
    (next (parameter 20 (codes "type") (codes "x")) (next (parameter 30 (codes "type") (codes "x")) none))))
    ≡ fault causes.ParameterClash 28 (codes "x") ∷ fault causes.ParameterClash 38 (codes "x") ∷ [])
unfolding cells_of cell_of read_row read_word read_string read_list heads first_words begins_with entry_of
parameters = (refl, refl, refl)

-- `(type x)` and `(type y)` in the body of a macro with the parameter x, and `(type x)` on top
abbrev a_type : List ℕ → Node
a_type name = list 0 (next (word 1 (codes "type")) (next (word 6 name) none))

declared_in_macro : (faults_by (verdict_of 7 in_macro (a_type (codes "x"))) ≡ fault causes.ParameterClash 6 (codes "x") ∷ [])
    × (faults_by (verdict_of 7 in_macro (a_type (codes "y"))) ≡ [])
    × (faults_by (verdict_of 7 at_top (a_type (codes "x"))) ≡ [])
unfolding verdict_of cells_of cell_of read_row read_word read_string read_list heads first_words begins_with rules containers types classes levels entry_of
declared_in_macro = (refl, refl, refl)

-- ---- the first word

-- a statement that has only a string behind its word
abbrev of_word : List ℕ → Node
of_word first = list 0 (next (word 1 first) (next (string 30) none))

-- `(filecon "a")` on top and in a macro, `(block "a")` on top, `(macro "a")` in a macro, `(optional "a")` in a macro, `(booleanif "a")`, and
-- `(constrain "a")`
by_first_word : (verdict_of 7 at_top (of_word (codes "filecon")) ≡ Shaped (record { keyword = keywords.SetAside; at = spot 0; args = nil }) [])
    × (verdict_of 7 in_macro (of_word (codes "filecon")) ≡ Refused (fault causes.BadPlace 0 (codes "filecon")))
    × (verdict_of 7 at_top (of_word (codes "block")) ≡ Refused (fault causes.BadShape 0 (codes "block")))
    × (verdict_of 7 in_macro (of_word (codes "macro")) ≡ Refused (fault causes.BadPlace 0 (codes "macro")))
    × (verdict_of 7 in_macro (of_word (codes "optional")) ≡ Refused (fault causes.BadShape 0 (codes "optional")))
    × (verdict_of 7 at_top (of_word (codes "booleanif")) ≡ Refused (fault causes.BadShape 0 (codes "booleanif")))
    × (verdict_of 7 at_top (of_word (codes "constrain")) ≡ Refused (fault causes.BadShape 0 (codes "constrain")))
unfolding verdict_of cells_of cell_of read_row read_word read_string read_list heads first_words begins_with rules containers types classes levels entry_of set_aside_words later_words left_out_words
by_first_word = (refl, refl, refl, refl, refl, refl, refl)

-- ---- branches

-- a statement at a place that has only a string behind its word
abbrev of_word_at : ℕ → List ℕ → Node
of_word_at at first = list at (next (word (at + 1) first) (next (string (at + 20)) none))

-- what is in a booleanif in the block k
abbrev in_branch : Context
in_branch = inside_of
    (record { nesting = nestings.InBlock; space = codes "k" ∷ []; under = Some (spot 3); macro = None })
    (record { keyword = keywords.BooleanIf; at = spot 10; args = nil })

abbrev fault_in_k : FaultCode → ℕ → List ℕ → Fault
fault_in_k code at bytes = record { code = code; «module» = 7; at = at; space = codes "k"; word = bytes }

-- `(booleanif b (true (typepermissive "a") (type "a")) (false (allow "a") (optional "a")))`: 22, 24, 23 and 24, each in the namespace k
in_branches : all_faults 7 (found_behind 7 (forked in_branch 2) (next (word 11 (codes "booleanif")) (next (word 21 (codes "b"))
    (next (list 23 (next (word 24 (codes "true")) (next (of_word_at 30 (codes "typepermissive")) (next (of_word_at 60 (codes "type")) none))))
    (next (list 90 (next (word 91 (codes "false")) (next (of_word_at 97 (codes "allow")) (next (of_word_at 130 (codes "optional")) none)))) none)))))
    ≡ fault_in_k causes.Unsupported 30 (codes "typepermissive") ∷ fault_in_k causes.BadPlace 60 (codes "type")
    ∷ fault_in_k causes.BadShape 97 (codes "allow") ∷ fault_in_k causes.BadPlace 130 (codes "optional") ∷ []
unfolding found_behind found_inside found_from verdict_of cells_of cell_of read_row read_word read_string read_list heads first_words begins_with rules containers types classes levels entry_of set_aside_words later_words left_out_words
in_branches = refl
