use Rattle.std.specs.Prelude.{Contains}
use Rattle.std.specs.List.{flat_map}
use Rattle.std.proofs.Common.{sym, subst}
use Rattle.cil_faults.specs.declared.fault.Fault.{Fault}
use Rattle.cil_faults.proofs.RefusalLemmas.{fails_alike, refused}
use Rattle.cil_macros.specs.Items.{items_in, namespaces_in}
use Rattle.cil_declare.specs.Runs.{run_faults}
use Rattle.cil_names.specs.Entries.{AreEntries}
use Rattle.cil_names.specs.Faults.{ClashFault}
use Rattle.cil_declare.proofs.DoneLemmas.{is_row}
use Rattle.cil_declare.proofs.FaultLemmas.{clash_back, clash_there, none_differ}
use Rattle.cil_declare.proofs.NamedLemmas.{are_named, entries_rise}
use Rattle.cil_declare.proofs.gather.named_by.Goals as goal

pub clashes-requires : goal.clashes-requires
clashes-requires c = λ run in_runs r in_run. is_row c.args.instances.now c.requires.0 c.args.runs.now c.requires.1 run r in_runs in_run

pub returns-in_err-refuse : goal.returns-in_err-refuse
returns-in_err-refuse c =
    let kept = c.args.instances.now in
    let rows = c.requires.0 in
    let runs = c.args.runs.now in
    let of = c.requires.1 in
    let told = c.in_ok-faults.ensures in
    refused (AreEntries (namespaces_in kept) (items_in kept)) (ClashFault (items_in kept)) _ _ c.from_residual-in_err-refuse.ensures.1
    (fails_alike (Contains c.in_ok-faults.faults.items) (ClashFault (items_in kept))
    (λ f d. clash_there kept rows runs of f (subst (λ fs. Contains fs f) told d))
    (λ f d. subst (λ fs. Contains fs f) (sym told) (clash_back kept rows runs of f d)) _ c.in_err-refuse.ensures.told)

pub of-requires : goal.of-requires
of-requires c = entries_rise c.args.instances.now c.in_ok-entries.entries.items c.args.runs.now c.in_ok-entries.ensures c.requires.1.are.rising

pub returns : goal.returns
returns c =
    let kept = c.args.instances.now in
    let rows = c.requires.0 in
    let runs = c.args.runs.now in
    let of = c.requires.1 in
    let told = c.in_ok-faults.ensures in
    let none : (f : Fault) → Contains (flat_map (run_faults kept) runs) f → ⊥ = λ f d. c.in_ok-refuse.ensures.told.1 f (subst (λ fs. Contains fs f) (sym told) d) in (
      subst (AreEntries (namespaces_in kept) (items_in kept)) (sym c.in_ok-of.ensures)
          (are_named kept rows runs of (none_differ kept rows runs of none) c.in_ok-entries.entries.items c.in_ok-entries.ensures),
      (λ f d. none f (clash_back kept rows runs of f d)),
    )
