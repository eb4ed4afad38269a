use Rattle.std.proofs.Common.{◌≤◌, ℕ, List, length, refl, subst, sym}
use Rattle.cil_faults.specs.Refusal.{Answers}
use Rattle.cil_tables.specs.Booleans.{HasManyBooleans}
use Rattle.cil_tables.specs.Table.{most_booleans}
use Rattle.cil_base.specs.Lists.{Lists, text_cmp}
use Rattle.cil_syntax.specs.declared.kind.Kind.TheVariants as kinds
use Rattle.cil_macros.specs.Items.{items_in}
use Rattle.cil_known.specs.Known.{enabled_in}
use Rattle.cil_known.specs.Numbers.{AreApart}
use Rattle.cil_tables.specs.Named.{IsNameOf}
use Rattle.cil_faults.proofs.BothLemmas.{answers_both}
use Rattle.cil_tables.proofs.NamedLemmas.{names_are}
use Rattle.cil_tables.proofs.compiler.judged_sets.Goals as goal

pub classes-rows-requires-clause-apart : goal.classes-rows-requires-clause-apart
classes-rows-requires-clause-apart c = subst (AreApart c.args.known.now.lookup.names.now (enabled_in c.args.known.now)) c.requires.numbers c.requires.apart

pub returns : goal.returns
returns c =
    let names = names_are c.args.known.now.lookup.namespaces.now (items_in c.args.instances.now) c.args.known.now.lookup.names.now c.requires.known.entries (enabled_in c.args.known.now)
    kinds.Boolean c.args.numbering.now.sections.booleans.items (c.requires.known.numbered.lists kinds.Boolean refl) in
    let few = c.check_booleans-few.ensures (items_in c.args.instances.now) (enabled_in c.args.known.now) (subst (Lists text_cmp (IsNameOf (items_in c.args.instances.now) (enabled_in c.args.known.now) kinds.Boolean)) (sym c.as_slice.ensures.value) names) in
    let counted = subst (λ (l : List (List ℕ)). Answers (λ done. length l ≤ most_booleans) (HasManyBooleans (enabled_in c.args.known.now) (items_in c.args.instances.now)) c.check_booleans-few.result)
    c.as_slice.ensures.value few in
    answers_both _ _ _ _ _ _ _ c.together.ensures c.classes-rows.ensures
    (answers_both _ _ _ _ _ _ _ c.together-others.ensures c.standings_of-standings.ensures
    (answers_both _ _ _ _ _ _ _ c.together-counted.ensures counted c.orders-ordered.ensures))
