-- Laws of the lines of a session: what a line asks for is what it is spelled as. This project's profile.
use Rattle.std.specs.Prelude.{◌≡◌, ◌↔◌, ℕ, ◌<◌, ◌^◌, List, decimal}
use Rattle.cil_server.specs.Asked.{Line, asked}
use Rattle.cil_server.specs.Asked.Line.{Unknown}
use Rattle.cil_server.specs.Lines.{IsDecimal, IsSpelled}

-- a line asks for something exactly where it is spelled so
abbrev pub AskedAsSpelled : Type 0
AskedAsSpelled = (line : List ℕ) (said : Line) → (said ≡ Unknown → ⊥) → (asked line ≡ said) ↔ IsSpelled line said

-- a number is read in a line as it is written in a reply. The words of a line have a definition of their own, since
-- `decimal` writes 64 digits at most, and the number of a line that is refused may have more
abbrev pub ReadAsWritten : Type 0
ReadAsWritten = (digits : List ℕ) (n : ℕ) → n < 2 ^ 64 → IsDecimal digits n ↔ (digits ≡ decimal n)
