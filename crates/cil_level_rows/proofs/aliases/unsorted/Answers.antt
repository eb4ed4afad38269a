use Rattle.std.specs.Prelude.{List}
use Rattle.std.proofs.Common.{◌≡◌, ap, length, subst, arith}
use Rattle.cil_names.specs.declared.entry.Entry.{Entry}
use Rattle.cil_level_rows.specs.AliasEntries.{AreAliasesBelow}
use Rattle.cil_level_rows.proofs.AliasLemmas.{more_at}
use Rattle.cil_level_rows.proofs.aliases.unsorted.Goals as goal

pub loop-d-preserved : goal.loop-d-preserved
loop-d-preserved c =
    more_at c.args.known.now c.args.kind c.args.standing.now c.args.places.now c.loop-d.d c.loop-d.aliases.items c.push_at.new.aliases.items c.loop-d.invariant c.in_ok-push_at.ensures

pub returns : goal.returns
returns c =
    let within = c.loop-d.auto.d-end in
    let over = c.loop-d-test.false in
    let size = ap (λ (es : List Entry). length es) c.entries-d-end.ensures.value in
    let all : c.loop-d.d ≡ length c.args.known.now.lookup.names.now = omega (arith, within, over, size) in
    subst (λ n. AreAliasesBelow c.args.known.now c.args.kind c.args.standing.now c.args.places.now n c.loop-d.aliases.items) all c.loop-d.invariant
