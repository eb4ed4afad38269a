-- What an argument is where it is read as its parameter asks: a word of the kind's sign, or a string.
use Rattle.std.proofs.Common.{◌≡◌, ℕ, Bool, true, false, if◌then◌else◌, List, [], ◌∷◌, refl, sym, ◌∙◌, ap}
use Rattle.std.specs.Prelude.{Some}
use Rattle.cil_base.specs.Places.{some_same}
use Rattle.cil_syntax.specs.declared.kind.Sign.TheVariants as signs
use Rattle.cil_syntax.specs.declared.term.Op.{Op}
use Rattle.cil_syntax.specs.declared.term.Op.TheVariants as ops
use Rattle.cil_faults.specs.declared.spot.Spot.{Spot}
use Rattle.cil_syntax.specs.declared.term.Word.{Word}
use Rattle.cil_syntax.specs.Scopes.{ScopedWord}
use Rattle.cil_syntax.specs.Shapes.{Cell, Inner, a_list, a_string}
use Rattle.cil_syntax.specs.Readings.{head_word, read_list}
use Rattle.cil_syntax.specs.Words.{is_spelled, read_string, read_word, word_faults}
use Rattle.cil_syntax.specs.Terms.{Term, Leaf, Name, Form, Terms, nil, cons}
use Rattle.cil_macros.specs.declared.meant.Argument.{Argument}
use Rattle.cil_macros.specs.declared.meant.Argument.TheVariants as arguments
use Rattle.cil_macros.specs.Meant.{kind_sign, put_there, value_there}
use Rattle.cil_macros.specs.Parameters.{argument_kind, cell_in, cells_in, faultless, is_text, may_be_list, read_argument, string_in, text_cell}
use Rattle.cil_macros.specs.Placed.{Placed, filled, put_list}

-- ---- words

pub one_faultless : (t : Term Word) (faults : List Inner) (value : Term Word) → faultless t faults ≡ Some value → value ≡ t
one_faultless t [] value e = sym (some_same t value e)
one_faultless t (f ∷ fs) value e = cc

no_list : true ≡ false → ⊥
no_list e = cc

pub leaf_value : (kind : Op) → may_be_list kind ≡ false → (w : Word) (value : Term Word) → read_argument (argument_kind kind) (cell_in (Leaf w)) ≡ Some value
    → value ≡ Leaf record { at = w.at; bytes = w.bytes; sign = kind_sign kind }
unfolding cell_in read_word
leaf_value ops.TypeKind plain w value e = one_faultless (Leaf record { at = w.at; bytes = w.bytes; sign = signs.Types }) (word_faults w.at (is_spelled signs.Types w.bytes) w.bytes) value e
leaf_value ops.RoleKind plain w value e = one_faultless (Leaf record { at = w.at; bytes = w.bytes; sign = signs.Roles }) (word_faults w.at (is_spelled signs.Roles w.bytes) w.bytes) value e
leaf_value ops.UserKind plain w value e = one_faultless (Leaf record { at = w.at; bytes = w.bytes; sign = signs.Users }) (word_faults w.at (is_spelled signs.Users w.bytes) w.bytes) value e
leaf_value ops.ClassKind plain w value e = one_faultless (Leaf record { at = w.at; bytes = w.bytes; sign = signs.PlainClass }) (word_faults w.at (is_spelled signs.PlainClass w.bytes) w.bytes) value e
leaf_value ops.BooleanKind plain w value e = one_faultless (Leaf record { at = w.at; bytes = w.bytes; sign = signs.Booleans }) (word_faults w.at (is_spelled signs.Booleans w.bytes) w.bytes) value e
leaf_value ops.ClassMapKind plain w value e = one_faultless (Leaf record { at = w.at; bytes = w.bytes; sign = signs.ClassMaps }) (word_faults w.at (is_spelled signs.ClassMaps w.bytes) w.bytes) value e
leaf_value ops.SensitivityKind plain w value e = one_faultless (Leaf record { at = w.at; bytes = w.bytes; sign = signs.Sensitivities }) (word_faults w.at (is_spelled signs.Sensitivities w.bytes) w.bytes) value e
leaf_value ops.CategoryKind plain w value e = one_faultless (Leaf record { at = w.at; bytes = w.bytes; sign = signs.Categories }) (word_faults w.at (is_spelled signs.Categories w.bytes) w.bytes) value e
leaf_value ops.NameKind plain w value e = sym (some_same (Leaf record { at = w.at; bytes = w.bytes; sign = signs.Text }) value e)
leaf_value ops.TextKind plain w value e = sym (some_same (Leaf record { at = w.at; bytes = w.bytes; sign = signs.Text }) value e)
leaf_value ops.ClassPermissionKind plain w value e = absurd (no_list plain)
leaf_value ops.CategorySetKind plain w value e = absurd (no_list plain)
leaf_value ops.LevelKind plain w value e = absurd (no_list plain)
leaf_value ops.LevelRangeKind plain w value e = absurd (no_list plain)
leaf_value kind plain w value e = cc

-- ---- strings

abbrev pub kept_text : {L : Type 0} → Spot → List ℕ → Term L
kept_text at bytes = Form at ops.UnreadText (cons (Name at bytes) nil)

abbrev pub string_cell : Spot → List ℕ → Cell
string_cell at bytes = record { at = at; face = a_string; read = read_string at bytes }

string_value : (kind : Op) → may_be_list kind ≡ false → (at : Spot) (bytes : List ℕ) (value : Term Word) → read_argument (argument_kind kind) (string_cell at bytes) ≡ Some value → value ≡ kept_text at bytes
unfolding read_string
string_value ops.NameKind plain at bytes value e = sym (some_same (kept_text at bytes) value e)
string_value ops.TextKind plain at bytes value e = sym (some_same (kept_text at bytes) value e)
string_value ops.ClassPermissionKind plain at bytes value e = absurd (no_list plain)
string_value ops.CategorySetKind plain at bytes value e = absurd (no_list plain)
string_value ops.LevelKind plain at bytes value e = absurd (no_list plain)
string_value ops.LevelRangeKind plain at bytes value e = absurd (no_list plain)
string_value kind plain at bytes value e = cc

list_value : (kind : Op) → may_be_list kind ≡ false → (at : Spot) (cells : List Cell) (value : Term Word)
    → read_argument (argument_kind kind) (record { at = at; face = a_list (head_word cells); read = read_list at cells }) ≡ Some value → ⊥
unfolding read_list
list_value ops.ClassPermissionKind plain at cells value e = no_list plain
list_value ops.CategorySetKind plain at cells value e = no_list plain
list_value ops.LevelKind plain at cells value e = no_list plain
list_value ops.LevelRangeKind plain at cells value e = no_list plain
list_value kind plain at cells value e = cc

pub text_is_string : (at : Spot) (parts : Terms Word) → text_cell at parts ≡ string_cell at (string_in parts)
text_is_string at nil = refl
text_is_string at (cons (Leaf w) ts) = refl
text_is_string at (cons (Name bt bytes) ts) = refl
text_is_string at (cons (Form bt op more) ts) = refl

pub name_value : (kind : Op) → may_be_list kind ≡ false → (at : Spot) (bytes : List ℕ) (value : Term Word) → read_argument (argument_kind kind) (cell_in (Name at bytes)) ≡ Some value → value ≡ kept_text at bytes
unfolding cell_in
name_value kind plain at bytes value e = string_value kind plain at bytes value e

pub form_value : (kind : Op) → may_be_list kind ≡ false → (at : Spot) (op : Op) (parts : Terms Word) (value : Term Word) → read_argument (argument_kind kind) (cell_in (Form at op parts)) ≡ Some value
    → value ≡ kept_text at (string_in parts)
unfolding cell_in
form_value kind plain at op parts value e = by (is_text op) e
  where
    by : (b : Bool) → read_argument (argument_kind kind) (if b then text_cell at parts else record { at = at; face = a_list (head_word (cells_in parts)); read = read_list at (cells_in parts) }) ≡ Some value
        → value ≡ kept_text at (string_in parts)
    by true f = string_value kind plain at (string_in parts) value (ap (read_argument (argument_kind kind)) (sym (text_is_string at parts)) ∙ f)
    by false f = absurd (list_value kind plain at (cells_in parts) value f)

-- ---- what they mean

-- no kind is one for class maps, where a list would be of a class alone
kind_keeps : (kind : Op) (at : Spot) (op : Op) (parts : Terms ScopedWord) → put_list (kind_sign kind) at op parts ≡ Form at op parts
kind_keeps ops.TypeKind at op parts = refl
kind_keeps kind at op parts = refl

pub put_by_kind : (ps : List Placed) (kind : Op) (m : Argument) → put_there ps (kind_sign kind) m ≡ value_there ps kind m
put_by_kind ps kind (arguments.Plain m) = refl
put_by_kind ps kind (arguments.List l) = kind_keeps kind l.at l.op _

pub string_filled : (f : Word → Term ScopedWord) (at : Spot) (bytes : List ℕ) → filled f (kept_text at bytes) ≡ kept_text at bytes
unfolding filled
string_filled f at bytes = refl
