-- Expressions that name no permissions, so that what they ask for is their words.
use Rattle.std.specs.Prelude.{◌≡◌, Bool, true, ◌&&◌, not, List, Contains}
use Rattle.cil_syntax.specs.Forms.{is_class_list}
use Rattle.cil_syntax.specs.Terms.{Term, Leaf, Name, Form, Terms, nil, cons}
use Rattle.cil_attrs.specs.declared.making.Given.{Given}
use Rattle.cil_attrs.specs.Made.{said}

-- no part of the term is a class with its permissions
unfoldable mutual
  pub is_plain : {L : Type 0} → Term L → Bool
  is_plain (Leaf w) = true
  is_plain (Name at bytes) = true
  is_plain (Form at op parts) = not (is_class_list op) && are_plain parts

  pub are_plain : {L : Type 0} → Terms L → Bool
  are_plain nil = true
  are_plain (cons t ts) = is_plain t && are_plain ts

-- so is each expression that a set is given
abbrev pub ArePlain : List Given → Type 0
ArePlain givens = (g : Given) → Contains givens g → is_plain (said g) ≡ true
