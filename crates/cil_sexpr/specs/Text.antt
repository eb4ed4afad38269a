-- Which tree a text stands for: a relation by cases on the first node, with all places counted from the
-- start of the whole text. Blanks, comments, strings: CIL Reference Guide, "CIL Information"; the exact
-- sets of bytes and the limits are this project's profile.
use Rattle.std.specs.Prelude.{◌≡◌, ◌≢◌, ℕ, ◌+◌, ◌<◌, ◌≤◌, List, length, slice_index, slice_range}
use Rattle.cil_sexpr.specs.Bytes.{left_bracket, right_bracket, double_quote, semicolon, newline, IsBlank, IsWordByte, HasByte}
use Rattle.cil_sexpr.specs.Tree.{Node, Word, Quoted, Branch, Nodes, none, next, span_of}

-- a word stands from one place up to another: a longest run of word bytes
pub record IsWord (text : List ℕ) (start end : ℕ) : Type 0 where
  pub some : start < end
  pub within : end ≤ length text
  pub inside : (k : ℕ) → start ≤ k → k < end → IsWordByte (slice_index text k)
  pub longest : end < length text → IsWordByte (slice_index text end) → ⊥

-- a string: between two quotes neither a quote nor a newline
pub record IsString (text : List ℕ) (start end : ℕ) : Type 0 where
  pub opens : HasByte text start double_quote
  pub last : ℕ
  pub ends : end ≡ last + 1
  pub closes : HasByte text last double_quote
  pub after : start < last
  pub inside : (k : ℕ) → start < k → k < last → (slice_index text k ≢ double_quote) × (slice_index text k ≢ newline)

-- a comment: from a semicolon through the first newline behind it, or to the end of the text
pub record IsComment (text : List ℕ) (start end : ℕ) : Type 0 where
  pub opens : HasByte text start semicolon
  pub some : start < end
  pub within : end ≤ length text
  pub inside : (k : ℕ) → start < k → k + 1 < end → slice_index text k ≢ newline
  pub ends : (k : ℕ) → k + 1 ≡ end → end < length text → slice_index text k ≡ newline

-- blanks and comments, or nothing
pub data IsSkipped (text : List ℕ) : ℕ → ℕ → Type 0 where
  nothing : {k : ℕ} → IsSkipped text k k
  blank : {k end : ℕ} → k < length text → IsBlank (slice_index text k) → IsSkipped text (k + 1) end → IsSkipped text k end
  comment : {k stop end : ℕ} → IsComment text k stop → IsSkipped text stop end → IsSkipped text k end

-- how many lists may lie in one another
abbrev pub deepest : ℕ
deepest = 128

-- how many bytes a text may have
abbrev pub longest_text : ℕ
longest_text = 4194304

abbrev mutual
  -- a node stands in the text, with `depth` lists round it: words and strings in a list, lists anywhere
  pub IsNode : List ℕ → ℕ → Node → Type 0
  IsNode text depth (Word place bytes) =
      (0 < depth) × IsWord text place.start place.end × (bytes ≡ slice_range text place.start place.end)
  IsNode text depth (Quoted place bytes) =
      (0 < depth) × IsString text place.start place.end × (bytes ≡ slice_range text place.start place.end)
  IsNode text depth (Branch place inner) =
      (depth < deepest) × HasByte text place.start left_bracket × (last : ℕ) × (place.end ≡ last + 1)
      × HasByte text last right_bracket × AreNodes text (depth + 1) (place.start + 1) last inner

  -- from one place up to another stand these nodes, with blanks and comments round them
  pub AreNodes : List ℕ → ℕ → ℕ → ℕ → Nodes → Type 0
  AreNodes text depth from to none = IsSkipped text from to
  AreNodes text depth from to (next n ns) =
      IsSkipped text from (span_of n).start × IsNode text depth n × AreNodes text depth (span_of n).end to ns

-- the text is not too long, and the nodes are all that stands in it
pub record IsText (text : List ℕ) (nodes : Nodes) : Type 0 where
  pub short : length text ≤ longest_text
  pub whole : AreNodes text 0 0 (length text) nodes

-- some tree is that of the text
pub record IsReadable (text : List ℕ) : Type 0 where
  pub nodes : Nodes
  pub tree : IsText text nodes
