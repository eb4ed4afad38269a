-- What an operator is told of optionals: a line for each, and a line for each reason why one is left out. This project's
-- profile; CIL Reference Guide, "Container Statements", "optional".
use Rattle.std.specs.Prelude.{◌≡◌, ℕ, suc, Bool, not, if◌then◌else◌, List, [], ◌∷◌, ◌++◌, Option, Some, None, slice_get}
use Rattle.std.specs.declared.cmp.Ordering.{Ordering}
use Rattle.std.specs.Cmp.{IsTotalOrder, bool_cmp_total}
use Rattle.std.specs.List.Sorted.{IsPermutation, IsSorted}
use Rattle.std.specs.Option.{option_and_then, option_map}
use Rattle.std.specs.Ordering.{bool_cmp, nat_cmp, on, then_cmp}
use Rattle.std.proofs.lemmas.Cmp.{then_total, on_total, nat_cmp_total, nat_list_cmp_total}
use Rattle.cil_base.specs.Lists.{text_cmp}
use Rattle.cil_syntax.specs.Written.{bytes_of, named_in_front}
use Rattle.cil_faults.specs.Namespaces.{qualified}
use Rattle.cil_blocks.specs.Contents.{is_optional}
use Rattle.cil_macros.specs.Item.{Item, OptSet}
use Rattle.cil_names.specs.Resolves.{told_at}
use Rattle.cil_optionals.specs.declared.reason.Reason.{Reason}
use Rattle.cil_optionals.specs.declared.reason.Reason.TheVariants.{Missing, ParentOut}
use Rattle.cil_optionals.specs.Certificate.{left_out}
use Rattle.cil_optionals.specs.declared.lines.OptionalLine.{OptionalLine}
use Rattle.cil_optionals.specs.declared.lines.WhyLine.{WhyLine}

-- the label of an optional: the name in front of what it says
abbrev pub label_of : Item → List ℕ
label_of x = bytes_of (named_in_front x.args)

-- ---- the lines of optionals

-- what is told of an optional that is in force, or not
abbrev pub optional_line : Item → Bool → OptionalLine
optional_line x inside = record { «module» = x.at.«module»; at = x.at.at; space = qualified x.space; label = label_of x; enabled = inside }

-- the lines of an item: one if it is an optional
abbrev pub lines_of : Bool → Item → List OptionalLine
lines_of inside x = if is_optional x.keyword then optional_line x inside ∷ [] else []

-- the lines of the optionals among some items, the first of which has this number
unfoldable pub lines_from : OptSet → ℕ → List Item → List OptionalLine
lines_from s n [] = []
lines_from s n (x ∷ xs) = lines_of (s n) x ++ lines_from s (suc n) xs

-- by module, place, namespace and label; of two alike the enabled one first
abbrev pub optional_line_cmp : OptionalLine → OptionalLine → Ordering
optional_line_cmp =
    then_cmp (then_cmp (then_cmp (then_cmp (on (λ l. l.«module») nat_cmp) (on (λ l. l.at) nat_cmp)) (on (λ l. l.space) text_cmp))
    (on (λ l. l.label) text_cmp))
    (on (λ l. not l.enabled) bool_cmp)

-- any two lines have an order
pub optional_line_total : IsTotalOrder optional_line_cmp
optional_line_total =
    then_total (then_total (then_total (then_total (on_total (λ l. l.«module») nat_cmp_total) (on_total (λ l. l.at) nat_cmp_total)) (on_total (λ l. l.space) nat_list_cmp_total))
    (on_total (λ l. l.label) nat_list_cmp_total))
    (on_total (λ l. not l.enabled) bool_cmp_total)

-- the lines are those of the optionals among some items, where these are in force: each instance has its own
pub record AreOptionalsOf (xs : List Item) (s : OptSet) (lines : List OptionalLine) : Type 0 where
  pub same : IsPermutation (lines_from s 0 xs) lines
  pub sorted : IsSorted optional_line_cmp lines

-- ---- the lines of reasons

-- what is told of an optional that is left out for a word, or because of the optional round it
abbrev pub why_line : Item → Option (List ℕ) → WhyLine
why_line x word = record { «module» = x.at.«module»; at = x.at.at; space = qualified x.space; label = label_of x; missing = word }

-- the word of a reason that names nothing: the one that is told of what its statement asks for
abbrev pub missing_of : List Item → Reason → Option (List ℕ)
missing_of xs (ParentOut o) = None
missing_of xs (Missing o i j) = option_and_then (λ x. option_map (λ w. w.bytes) (told_at x j)) (slice_get xs i)

-- the line tells the optional that a reason leaves out, and the word
pub record IsReasonLine (xs : List Item) (r : Reason) (line : WhyLine) : Type 0 where
  pub optional : Item
  pub is_there : slice_get xs (left_out r) ≡ Some optional
  pub told : line ≡ why_line optional (missing_of xs r)

-- a line for each reason, in their order
pub data AreReasonsOf (xs : List Item) : List Reason → List WhyLine → Type 0 where
  no_reason : AreReasonsOf xs [] []
  one_reason : (r : Reason) (rs : List Reason) (line : WhyLine) (lines : List WhyLine) → IsReasonLine xs r line → AreReasonsOf xs rs lines
      → AreReasonsOf xs (r ∷ rs) (line ∷ lines)
