use Rattle.std.proofs.Common.{rules, ◌≡◌, ◌∙◌, ap, sym}
use Rattle.std.specs.Prelude.{Some, slice_get}
use Rattle.std.proofs.lemmas.Option.{slice_get-get_or}
use Rattle.cil_base.specs.Rising.{rising_nothing}
use Rattle.cil_base.specs.Lists.{text_cmp}
use Rattle.cil_names.proofs.ListedLemmas.{listed_numbered, listed_of_class, listed_of_itself, listed_of_none, no_class_there}
use Rattle.cil_names.proofs.permission_word.permissions_at.Goals as goal

pub returns-in_default-clause-sorted : goal.returns-in_default-clause-sorted
returns-in_default-clause-sorted c = rising_nothing text_cmp

pub returns-in_default-clause-listed : goal.returns-in_default-clause-listed
returns-in_default-clause-listed c =
    λ ss xs are entries permissions p.
    let at : slice_get c.args.entries.now c.args.d ≡ Some c.index-entries-d.result =
    slice_get-get_or c.args.entries.now c.args.d c.index-entries-d.result c.requires.within ∙ ap Some (sym c.index-entries-d.is) in
    listed_of_none ss are xs c.args.entries.now entries c.args.d c.index-entries-d.result at p (search rules)

pub returns-clause-listed : goal.returns-clause-listed
returns-clause-listed c =
    λ ss xs are entries permissions p.
    let at : slice_get c.args.entries.now c.args.d ≡ Some c.index-entries-d.result =
    slice_get-get_or c.args.entries.now c.args.d c.index-entries-d.result c.requires.within ∙ ap Some (sym c.index-entries-d.is) in
    listed_of_class ss are xs c.args.entries.now entries c.args.d c.index-entries-d.result at p c.args.permissions.now permissions c.in-Some.class (search rules)
    c.listed_at-2.result.now c.listed_at-2.ensures.value

pub returns-then-wants-clause-listed : goal.returns-then-wants-clause-listed
returns-then-wants-clause-listed c =
    λ ss xs are entries permissions p.
    let at : slice_get c.args.entries.now c.args.d ≡ Some c.index-entries-d.result =
    slice_get-get_or c.args.entries.now c.args.d c.index-entries-d.result c.requires.within ∙ ap Some (sym c.index-entries-d.is) in
    listed_of_itself ss are xs c.args.entries.now entries c.args.d c.index-entries-d.result at p c.args.permissions.now permissions (search rules)
    c.listed_at.result.now c.listed_at.ensures.value

pub returns-clause-numbered : goal.returns-clause-numbered
returns-clause-numbered c = λ of_class.
    absurd (no_class_there c.args.entries.now c.args.d c.index-entries-d.result c.requires.within c.index-entries-d.is c.wants.result c.wants.ensures c.if-wants.false of_class)

pub returns-then-wants-clause-numbered : goal.returns-then-wants-clause-numbered
returns-then-wants-clause-numbered c = λ of_class.
    listed_numbered c.args.entries.now c.args.d c.index-entries-d.result c.requires.within c.index-entries-d.is c.wants.result c.wants.ensures c.if-wants.true c.args.permissions.now
    c.listed_at.result.now c.listed_at.ensures.value

pub returns-in_default-clause-numbered : goal.returns-in_default-clause-numbered
returns-in_default-clause-numbered c = λ of_class.
    absurd (no_class_there c.args.entries.now c.args.d c.index-entries-d.result c.requires.within c.index-entries-d.is c.wants.result c.wants.ensures c.if-wants.false of_class)

pub returns-clause-sorted : goal.returns-clause-sorted
returns-clause-sorted c = c.listed_at-2.ensures.sorted

pub returns-then-wants-clause-sorted : goal.returns-then-wants-clause-sorted
returns-then-wants-clause-sorted c = c.listed_at.ensures.sorted
