-- How a word or a string is read by a shape. CIL Reference Guide, "Keywords" and "Global Namespace", on names; which
-- words are refused is this project's profile.
use Rattle.std.specs.Prelude.{ℕ, Bool, true, false, ◌&&◌, if◌then◌else◌, List, [], ◌∷◌, codes, Option, Some, None}
use Rattle.cil_faults.specs.declared.code.FaultCode.{FaultCode}
use Rattle.cil_faults.specs.declared.code.FaultCode.TheVariants as causes
use Rattle.cil_syntax.specs.declared.kind.Language.{Language}
use Rattle.cil_syntax.specs.declared.kind.Sign.{Sign}
use Rattle.cil_syntax.specs.declared.kind.Sign.TheVariants as signs
use Rattle.cil_syntax.specs.declared.term.Op.{Op}
use Rattle.cil_syntax.specs.declared.term.Op.TheVariants as ops
use Rattle.cil_faults.specs.declared.spot.Spot.{Spot}
use Rattle.cil_syntax.specs.declared.term.Word.{Word}
use Rattle.cil_syntax.specs.Spelling.{same_bytes, is_name, is_path, is_reserved}
use Rattle.cil_syntax.specs.Terms.{Term, Leaf, Name, Form, nil, cons}
use Rattle.cil_syntax.specs.Shapes.{Shape, declared_name, looked_up, expression, fixed, left_out, any_left_out, either, list_of, tagged, unread, any_text, object_name, Inner, Reading, a_word, a_string, word_sign, is_of_sets, is_meant, sets_are_taken}

-- how the word that a sign stands for is spelled
abbrev pub is_spelled : Sign → List ℕ → Bool
is_spelled signs.Permission bytes = is_name bytes
is_spelled signs.Text bytes = true
is_spelled signs.Unread bytes = true
is_spelled sign bytes = is_path bytes

abbrev pub inner_at : Spot → FaultCode → List ℕ → Inner
inner_at at code word = record { code = code; at = at.at; word = word }

-- the faults of a word: reserved, or not spelled as it should be
abbrev pub word_faults : Spot → Bool → List ℕ → List Inner
word_faults at spelled bytes =
    if is_reserved bytes then inner_at at causes.ReservedName bytes ∷ []
    else (if spelled then [] else inner_at at causes.BadName bytes ∷ [])

abbrev pub reads : {T : Type 0} → T → List Inner → Option (Reading T)
reads value faults = Some record { value = value; faults = faults }

abbrev pub read_name : Spot → List ℕ → Option (Reading (Term Word))
read_name at bytes = reads (Name at bytes) (word_faults at (is_name bytes) bytes)

abbrev pub read_looked_up : Spot → Sign → List ℕ → Option (Reading (Term Word))
read_looked_up at sign bytes =
    reads (Leaf record { at = at; bytes = bytes; sign = sign }) (word_faults at (is_spelled sign bytes) bytes)

-- a word that is not taken: it is fault 22, and no other fault
abbrev pub read_left_out : Spot → Op → List ℕ → Option (Reading (Term Word))
read_left_out at op bytes = reads (Form at op nil) (inner_at at causes.Unsupported bytes ∷ [])

-- a word that is not looked up, or not yet
abbrev pub kept_word : Spot → Sign → List ℕ → Option (Reading (Term Word))
kept_word at sign bytes = reads (Leaf record { at = at; bytes = bytes; sign = sign }) []

-- a string that is kept, with its bytes as they are written
abbrev pub kept_string : Spot → List ℕ → Option (Reading (Term Word))
kept_string at bytes = reads (Form at ops.UnreadText (cons (Name at bytes) nil)) []

-- `all`, which is taken or not
abbrev pub read_all : Spot → Bool → List ℕ → Option (Reading (Term Word))
read_all at true bytes = reads (Form at ops.All nil) []
read_all at false bytes = read_left_out at ops.All bytes

-- a word that is an expression by itself
abbrev pub read_sole : Spot → Option Sign → Bool → List ℕ → Option (Reading (Term Word))
read_sole at None every bytes = None
read_sole at (Some sign) every bytes = if every then read_all at sets_are_taken bytes else read_looked_up at sign bytes

abbrev pub read_alone : Spot → Language → List ℕ → Option (Reading (Term Word))
read_alone at language bytes = read_sole at (word_sign language) (is_of_sets language && same_bytes bytes (codes "all")) bytes

-- a word by a shape
unfoldable pub read_word : Spot → List ℕ → Shape → Option (Reading (Term Word))
read_word at bytes declared_name = read_name at bytes
read_word at bytes (looked_up sign) = read_looked_up at sign bytes
read_word at bytes (expression language) = read_alone at language bytes
read_word at bytes (fixed word op) = if same_bytes bytes word then reads (Form at op nil) [] else None
read_word at bytes (left_out word) = if same_bytes bytes word then read_left_out at ops.LeftOut bytes else None
read_word at bytes any_left_out = read_left_out at ops.LeftOut bytes
read_word at bytes (either first second) =
    if is_meant first (a_word bytes) then read_word at bytes first else read_word at bytes second
read_word at bytes (list_of op row) = None
read_word at bytes (tagged word op row) = None
read_word at bytes unread = kept_word at signs.Unread bytes
read_word at bytes any_text = kept_word at signs.Text bytes
read_word at bytes object_name = kept_string at bytes

-- a string by a shape
unfoldable pub read_string : Spot → List ℕ → Shape → Option (Reading (Term Word))
read_string at bytes declared_name = None
read_string at bytes (looked_up sign) = None
read_string at bytes (expression language) = None
read_string at bytes (fixed word op) = None
read_string at bytes (left_out word) = None
read_string at bytes any_left_out = None
read_string at bytes (either first second) =
    if is_meant first a_string then read_string at bytes first else read_string at bytes second
read_string at bytes (list_of op row) = None
read_string at bytes (tagged word op row) = None
read_string at bytes unread = kept_string at bytes
read_string at bytes any_text = kept_string at bytes
read_string at bytes object_name = kept_string at bytes
