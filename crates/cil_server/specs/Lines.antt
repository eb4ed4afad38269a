-- The lines of a session as they are spelled: words parted by one space, and numbers in decimal. This project's profile.
use Rattle.std.specs.Prelude.{ℕ, ◌+◌, ◌*◌, ◌<◌, ◌≤◌, true, false, List, [], ◌∷◌, ◌++◌, length, Contains, codes}
use Rattle.cil_server.specs.Asked.{Line, longest_body}
use Rattle.cil_server.specs.Asked.Line.{Export, List_, Load, Optionals, Quit, Why, Ask, Check, Set, Install, Import, TooBig}

-- the digits are the decimal of the number, without needless zeros: one digit, or the decimal of a number that is not 0
-- and one digit more. The byte of the digit 0 is 48
pub data IsDecimal : List ℕ → ℕ → Type 0 where
  digit : (d : ℕ) → d ≤ 9 → IsDecimal ((48 + d) ∷ []) d
  more : (digits : List ℕ) (n d : ℕ) → IsDecimal digits n → 0 < n → d ≤ 9 → IsDecimal (digits ++ (48 + d) ∷ []) (n * 10 + d)

-- a word of a query or the name of a boolean: one byte or more, none of which is a space. That none is a newline is known of every line
pub record IsWord (bytes : List ℕ) : Type 0 where
  pub some : 0 < length bytes
  pub whole : Contains bytes 32 → ⊥

-- the line is spelled so, and asks for this. Nothing is spelled `Unknown`: that is what every other line asks for
pub data IsSpelled : List ℕ → Line → Type 0 where
  export : IsSpelled (codes "EXPORT") Export
  list : IsSpelled (codes "LIST") List_
  load : IsSpelled (codes "LOAD") Load
  optionals : IsSpelled (codes "OPTIONALS") Optionals
  quit : IsSpelled (codes "QUIT") Quit
  why : IsSpelled (codes "WHY") Why
  -- a number of bytes that follow the line
  install : (digits : List ℕ) (n : ℕ) → IsDecimal digits n → n ≤ longest_body → IsSpelled (codes "INSTALL " ++ digits) (Install n)
  import_ : (digits : List ℕ) (n : ℕ) → IsDecimal digits n → n ≤ longest_body → IsSpelled (codes "IMPORT " ++ digits) (Import n)
  -- 84: more bytes than a body may have
  install_too_big : (digits : List ℕ) (n : ℕ) → IsDecimal digits n → longest_body < n → IsSpelled (codes "INSTALL " ++ digits) TooBig
  import_too_big : (digits : List ℕ) (n : ℕ) → IsDecimal digits n → longest_body < n → IsSpelled (codes "IMPORT " ++ digits) TooBig
  -- a query: a source, a target and a class
  ask : (source target class_name : List ℕ) → IsWord source → IsWord target → IsWord class_name
      → IsSpelled (codes "AV " ++ source ++ 32 ∷ target ++ 32 ∷ class_name) (Ask source target class_name)
  -- a check: these, and a permission
  check : (source target class_name permission : List ℕ) → IsWord source → IsWord target → IsWord class_name → IsWord permission
      → IsSpelled (codes "CHECK " ++ (source ++ 32 ∷ (target ++ 32 ∷ (class_name ++ 32 ∷ permission)))) (Check source target class_name permission)
  -- a boolean, and what it is from now on
  set_on : (name : List ℕ) → IsWord name → IsSpelled (codes "SET " ++ (name ++ 32 ∷ codes "true")) (Set name true)
  set_off : (name : List ℕ) → IsWord name → IsSpelled (codes "SET " ++ (name ++ 32 ∷ codes "false")) (Set name false)
