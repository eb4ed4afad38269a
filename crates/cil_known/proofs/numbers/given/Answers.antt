use Rattle.std.proofs.Common.{◌∙◌, sym, ap}
use Rattle.cil_names.specs.Entries.{is_in}
use Rattle.cil_known.specs.Numbers.{name_given}
use Rattle.cil_known.proofs.NumberLemmas.{entry_within, none_given, one_given}
use Rattle.cil_names.proofs.ScopeLemmas.{all_passed}
use Rattle.cil_known.proofs.numbers.given.Goals as goal
use Rattle.cil_known.proofs.numbers.given.Goals.{then-is_declared_as+in_ok-push_name, else-is_declared_as}
use Rattle.std.specs.Global.{Vec}
use Rattle.cil_base.specs.declared.bytes.Bytes.{Bytes}

pub push_name-requires : goal.push_name-requires
push_name-requires c =
    entry_within c.args.namespaces.now c.args.entries.now c.requires c.loop-entry.entry-index c.entry-item.result c.loop-entry-test.true c.entry-item.is

pub loop-entry-preserved : goal.loop-entry-preserved
loop-entry-preserved c =
    elim c.if-is_declared_as.branch [
      | then-is_declared_as+in_ok-push_name w ↦
          one_given c.args.namespaces.now (is_in c.args.enabled.now) c.args.kind c.args.entries.now c.loop-entry.entry-index c.entry-item.result c.loop-entry-test.true c.entry-item.is
          c.loop-entry.names.items _ _ c.loop-entry.invariant (sym c.is_declared_as.ensures ∙ w.if-is_declared_as.true) (ap (λ (v : Vec Bytes). v.items) w.names-is ∙ w.in_ok-push_name.ensures)
      | else-is_declared_as w ↦
          none_given c.args.namespaces.now (is_in c.args.enabled.now) c.args.kind c.args.entries.now c.loop-entry.entry-index c.entry-item.result c.loop-entry-test.true c.entry-item.is
          c.loop-entry.names.items _ _ c.loop-entry.invariant (sym c.is_declared_as.ensures ∙ w.if-is_declared_as.false) (ap (λ (v : Vec Bytes). v.items) w.names-is)
    ]

pub returns : goal.returns
returns c =
    all_passed (name_given c.args.namespaces.now (is_in c.args.enabled.now) c.args.kind) c.args.entries.now c.loop-entry.entry-index c.loop-entry-test.false c.loop-entry.names.items _ c.loop-entry.invariant
