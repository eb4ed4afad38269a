-- What one step of the compiler hands to the next. This project's profile.
use Rattle.std.specs.Prelude.{List, []}
use Rattle.std.specs.Global.{Vec}
use Rattle.cil_base.specs.declared.bytes.Bytes.{Bytes}
use Rattle.cil_faults.specs.declared.fault.Fault.{Fault}
use Rattle.cil_blocks.specs.declared.namespaces.Space.{Space}
use Rattle.cil_macros.specs.Item.{Item}
use Rattle.cil_names.specs.declared.entry.Entry.{Entry}
use Rattle.cil_names.specs.declared.shared.Shared.{Shared}
use Rattle.cil_names.specs.Entries.{AreEntries, is_in}
use Rattle.cil_names.specs.Faults.{ClashFault, ResolveFault}
use Rattle.cil_known.specs.Numbers.{ArePlainNames}
use Rattle.cil_names.specs.Shared.{AreShared}
use Rattle.cil_names.specs.Unresolved.{ArePermissions}
use Rattle.cil_optionals.specs.Certificate.{IsRight}
use Rattle.cil_optionals.specs.First.{AreFirst}
use Rattle.cil_optionals.specs.Greatest.{IsGreatest}
use Rattle.cil_optionals.specs.declared.chosen.Chosen.{Chosen}

-- the declared names of items over which no declarations clash, the permissions of their classes, and the commons that these have
pub record HaveNames (ss : List Space) (es : List Entry) (xs : List Item) (lists : List (Vec Bytes)) (commons : List Shared) : Type 0 where
  pub entries : AreEntries ss xs es
  pub apart : (f : Fault) → ClashFault xs f → ⊥
  pub plain : ArePlainNames ss es
  pub permissions : ArePermissions ss es xs lists
  pub shared : AreShared ss es xs commons

-- the greatest set of the optionals of items, under which each word outside optionals names something, and why the others are left out
pub record IsChosen (xs : List Item) (c : Chosen) : Type 0 where
  pub greatest : IsGreatest xs (is_in c.enabled)
  pub words : (f : Fault) → ResolveFault (is_in c.enabled) xs f → ⊥
  pub right : IsRight xs (is_in c.enabled) c.reasons.items
  pub first : AreFirst xs [] c.reasons.items
