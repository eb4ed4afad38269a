use Rattle.std.proofs.Common.{◌++◌, ◌∙◌, ap, map}
use Rattle.std.specs.List.{flat_map}
use Rattle.cil_macros.specs.Items.{all_placed}
use Rattle.cil_names.specs.Asked.{wanted_by}
use Rattle.cil_names.specs.declared.asked.Asked.{Asked}
use Rattle.cil_names.proofs.AskedLemmas.{each_mapped, no_more, one_more}
use Rattle.cil_words.specs.Table.{ask_of}
use Rattle.cil_words.specs.Walks.{spaces_by}
use Rattle.cil_words.proofs.walk.Walk.listed.Goals as goal

pub loop-one-preserved : goal.loop-one-preserved
loop-one-preserved c = (
  λ xs entries permissions.
      let l = c.args.self.now in
      one_more (λ (one : Asked). map (ask_of (spaces_by l) l.names.now xs l.permissions.now) (wanted_by (all_placed l.reading.instances.now) one)) c.as_slice-one-items.result.now c.loop-one.one-index _ _ _ _ _
      c.loop-one-test.true c.one-item.is (c.loop-one.invariant.0 xs entries permissions) (c.in_ok-one.ensures.asks xs entries permissions),
  c.in_ok-one.ensures.scopes,
)

pub returns-clause-asks : goal.returns-clause-asks
returns-clause-asks c = λ xs entries permissions.
    let l = c.args.self.now in
    let could = ask_of (spaces_by l) l.names.now xs l.permissions.now in
    let g = wanted_by (all_placed l.reading.instances.now) in
    let them = c.as_slice-one-items.result.now in
    no_more (λ (one : Asked). map could (g one)) them c.loop-one.one-index _ _ c.loop-one-test.false (c.loop-one.invariant.0 xs entries permissions)
    ∙ ap (λ ds. c.args.cells.now ++ ds) (each_mapped could g them)
    ∙ ap (λ ws. c.args.cells.now ++ map could ws) (ap (flat_map g) c.as_slice-one-items.ensures.value ∙ c.in_ok-asked.ensures)
