-- What the code reads in a line, as the definitions say it.
use Rattle.std.specs.Prelude.{◌≡◌, ℕ, suc, ◌<◌, ◌≤◌, List, [], ◌∷◌, length}
use Rattle.cil_server.specs.Asked.{Line, Request, by_words, longest_body, longest_line}
use Rattle.cil_server.specs.Streams.{buffer_size}
use Rattle.cil_server.specs.declared.session.Buffers.{Buffers}
use Rattle.cil_server.specs.Asked.Line.{Export, List_, Load, Optionals, Quit, Why, Ask, Check, Set, Install, Import, TooBig, Unknown}
use Rattle.cil_server.specs.declared.line.Line.{Line as Read}
use Rattle.cil_server.specs.Asked.Request.{Exports, Lists, Loads, AsksOptionals, AsksWhy, Asks, Checks, Sets, Unasked}
use Rattle.cil_server.specs.declared.line.Line.TheVariants as read
use Rattle.cil_server.specs.declared.line.Plain.{Plain}
use Rattle.cil_server.specs.declared.line.Plain.TheVariants as plain
use Rattle.cil_server.specs.declared.line.Words.{Words}
use Rattle.cil_server.specs.declared.line.Words.TheVariants as words

abbrev pub plain_line : Plain → Line
plain_line plain.Export = Export
plain_line plain.List = List_
plain_line plain.Load = Load
plain_line plain.Optionals = Optionals
plain_line plain.Why = Why
plain_line (plain.Ask q) = Ask q.source.now q.target.now q.class.now
plain_line (plain.Check q p) = Check q.source.now q.target.now q.class.now p.now
plain_line (plain.Set b v) = Set b.now v
plain_line plain.Unknown = Unknown

abbrev pub line_of : Read → Line
line_of (read.Plain p) = plain_line p
line_of (read.Install n) = Install n
line_of (read.Import n) = Import n
line_of read.TooBig = TooBig
line_of read.Quit = Quit

-- the request of a line that has no body
abbrev pub plain_request : Plain → Request
plain_request plain.Export = Exports
plain_request plain.List = Lists
plain_request plain.Load = Loads
plain_request plain.Optionals = AsksOptionals
plain_request plain.Why = AsksWhy
plain_request (plain.Ask q) = Asks q.source.now q.target.now q.class.now
plain_request (plain.Check q p) = Checks q.source.now q.target.now q.class.now p.now
plain_request (plain.Set b v) = Sets b.now v
plain_request plain.Unknown = Unasked

-- the words of a line; other numbers of words ask for nothing
abbrev pub IsWords : List (List ℕ) → Words → Type 0
IsWords ws (words.One w) = ws ≡ w.now ∷ []
IsWords ws (words.Two w d) = ws ≡ w.now ∷ d.now ∷ []
IsWords ws (words.Three w b v) = ws ≡ w.now ∷ b.now ∷ v.now ∷ []
IsWords ws (words.Four w q) = ws ≡ w.now ∷ q.source.now ∷ q.target.now ∷ q.class.now ∷ []
IsWords ws (words.Five w q p) = ws ≡ w.now ∷ q.source.now ∷ q.target.now ∷ q.class.now ∷ p.now ∷ []
IsWords ws words.Other = by_words ws ≡ Unknown

-- a number, or one more than a body may have where it is greater
pub record IsCapped (value capped : ℕ) : Type 0 where
  pub small : value ≤ longest_body → capped ≡ value
  pub great : longest_body < value → longest_body < capped

-- the memory of a session
pub record HasSizes (b : Buffers) : Type 0 where
  pub input : length b.input.items ≡ buffer_size
  pub line : length b.line.items ≡ suc longest_line
  pub output : b.output.items ≡ []
