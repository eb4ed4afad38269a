use Rattle.std.specs.Prelude.{◌≡◌, ◌||◌, ℕ, Option, length, take}
use Rattle.std.specs.List.{list_any}
use Rattle.cil_syntax.specs.declared.term.Word.{Word}
use Rattle.cil_attrs.specs.declared.making.Given.{Given}
use Rattle.cil_attrs.specs.Made.{AreSetsAt, HaveMeanings, held_at, is_made_by}
use Rattle.cil_attrs.proofs.making.made.Given as goal

abbrev pub invariant-loop-given : goal.invariant-loop-given
invariant-loop-given l =
    (length l.held.items ≡ length l.initial.held.items) × AreSetsAt l.held.items l.givens
    × ((g : Given → Word → Option ℕ) → HaveMeanings g l.givens
    → (d v : ℕ) → held_at l.held.items d v ≡ (held_at l.initial.held.items d v || list_any (is_made_by g l.held.items l.all d v) (take l.given-index l.givens)))
