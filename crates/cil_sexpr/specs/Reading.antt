-- What the reader's own functions say of their places. No other crate needs these words.
use Rattle.std.specs.Prelude.{◌≡◌, ℕ, ◌+◌, ◌<◌, ◌≤◌, List, length}
use Rattle.cil_sexpr.specs.declared.bytes.ByteKind.{ByteKind}
use Rattle.cil_sexpr.specs.declared.bytes.ByteKind.TheVariants as kinds
use Rattle.cil_sexpr.specs.declared.fault.ReadCode.{ReadCode}
use Rattle.cil_sexpr.specs.declared.node.Node as rust
use Rattle.cil_sexpr.specs.Bytes.{left_bracket, right_bracket, double_quote, semicolon, IsBlank, IsWordByte, IsBadByte, HasByte}
use Rattle.cil_sexpr.specs.Faults.{Where, Plain, where_at, plain_count, HasFault}
use Rattle.cil_sexpr.specs.Text.{AreNodes, longest_text}
use Rattle.cil_sexpr.specs.View.{nodes_of}

-- the byte is of this kind
abbrev pub IsOfKind : ℕ → ByteKind → Type 0
IsOfKind b kinds.Blank = IsBlank b
IsOfKind b kinds.Semicolon = b ≡ semicolon
IsOfKind b kinds.Quote = b ≡ double_quote
IsOfKind b kinds.Open = b ≡ left_bracket
IsOfKind b kinds.Close = b ≡ right_bracket
IsOfKind b kinds.Word = IsWordByte b
IsOfKind b kinds.Bad = IsBadByte b

-- a place before which there is no fault, with what it lies in and how many lists are open
pub record IsClean (text : List ℕ) (lies_in : Where) (depth at : ℕ) : Type 0 where
  pub short : length text ≤ longest_text
  pub within : at ≤ length text
  pub lies : at < length text → where_at text at ≡ lies_in
  pub open_lists : plain_count left_bracket text at ≡ plain_count right_bracket text at + depth
  pub first : (code : ReadCode) (k : ℕ) → HasFault text code k → at ≤ k

-- where a level ends: at the bracket that closes its list, or the top at the end of the text
pub record EndsLevel (text : List ℕ) (depth at : ℕ) : Type 0 where
  pub top : depth ≡ 0 → at ≡ length text
  pub list : 0 < depth → HasByte text at right_bracket

-- the nodes of a level were read, up to its end
pub record IsLevel (text : List ℕ) (depth from : ℕ) (nodes : List rust.Node) (end : ℕ) : Type 0 where
  pub onward : from ≤ end
  pub clean : IsClean text Plain depth end
  pub ends : EndsLevel text depth end
  pub stand : AreNodes text depth from end (nodes_of text nodes)
