use Rattle.std.specs.Prelude.{◌≡◌, ◌↔◌, List, Option, true}
use Rattle.std.proofs.Common.{subst, sym}
use Rattle.cil_macros.specs.Item.{Item}
use Rattle.cil_macros.specs.Items.{items_in}
use Rattle.cil_faults.specs.declared.fault.Fault.{Fault}
use Rattle.cil_names.specs.Faults.{ClashFault}
use Rattle.cil_known.specs.Known.{IsKnown, enabled_in}
use Rattle.cil_mls.specs.declared.categories.Categories.{Categories}
use Rattle.cil_mls.specs.declared.level.Level.{Level}
use Rattle.cil_mls.specs.declared.level.Range.{Range}
use Rattle.cil_mls.specs.OrderFaults.{Switches}
use Rattle.cil_levels.specs.Permitted.{ArePermitted}
use Rattle.cil_ranges.specs.Given.{ReadsRanges}
use Rattle.cil_ranges.specs.Reading.{HasLevels, HasRanges, Judges}
use Rattle.cil_ranges.specs.Steps.{two_ranges}
use Rattle.cil_ranges.proofs.MadeLemmas.{measures_by, users_are}
use Rattle.cil_ranges.proofs.SameRangeLemmas.{one_range}
use Rattle.cil_ranges.proofs.levels.judge.Goals as goal

pub returns : goal.returns
returns c = λ g items right tables permitted.
    let k = c.args.known.now in
    let law = c.means_what_it_names.ensures in
    let measures = measures_by k c.args.measured.now c.args.count g c.scale_of.result c.scale_of.ensures right in
    let levels = subst (λ (l : List (Option Level)). HasLevels k l g) (sym c.as_slice.ensures.value) tables.levels in
    let ranges = subst (λ (l : List (Option Range)). HasRanges k l g) (sym c.as_slice-2.ensures.value) tables.ranges in
    let sections = c.requires.known.0 in
    let known = subst (λ (l : List Item). IsKnown k l sections) (sym items) c.requires.known.1 in
    let apart = subst (λ (l : List Item). (f : Fault) → ClashFault l f → ⊥) (sym items) c.requires.apart in
    let reads : ReadsRanges k (record { named = record { scale = c.scale_of.result; levels = c.as_slice.result }; ranges = c.as_slice-2.result }) g = record { measures = measures; levels = levels; ranges = ranges; one = one_range k c.scale_of.result g measures c.as_slice.result.now levels sections known law apart } in
    let judges : Judges k (record { named = record { scale = c.scale_of.result; levels = c.as_slice.result }; permitted = c.as_slice-3.result }) g = record {
      measures = measures;
      levels = levels;
      permitted = subst (λ (l : List Categories). ArePermitted g.items (enabled_in k) g.sensitivities g.categories g.values l) (sym c.as_slice-3.ensures.value) permitted;
    } in
    let given = c.in_ok-users.ensures.given g items reads in
    let on = subst (λ (l : List Item). (c.args.are_on ≡ true) ↔ Switches l (enabled_in k) true) (sym items) c.requires.on in
    record {
      users = λ none. users_are k (items_in c.args.instances.now) sections c.requires.known.1 law g items c.in_ok-users.users given (λ f h. none f (two_ranges h));
      faults = c.in_ok-faults.ensures g items reads judges given on;
    }
