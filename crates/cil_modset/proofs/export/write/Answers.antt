use Rattle.std.proofs.Common.{ℕ, List, [], ◌++◌, take, arith, ap, sym, ◌∙◌}
use Rattle.std.specs.List.{flat_map}
use Rattle.std.proofs.lemmas.List.{flat_map_more, take_more}
use Rattle.cil_modset.specs.Bundle.{entry, number}
use Rattle.cil_modset.specs.Modules.{module_of}
use Rattle.cil_modset.proofs.BundleLemmas.{written_all}
use Rattle.cil_modset.proofs.export.write.Goals as goal

pub loop-i-preserved : goal.loop-i-preserved
loop-i-preserved c =
    let texts = c.args.texts.now in
    let i = c.loop-i.i in
    let text = module_of texts i in
    let start = c.extend_from_slice.new.self.items in
    rw c.get.ensures at c.in_ok-write_entry.ensures
    ∙ ap (λ (w : List ℕ). w ++ entry text) c.loop-i.invariant
    ∙ flat_map_more entry start (take i texts) text
    ∙ ap (λ (w : List (List ℕ)). start ++ flat_map entry w) (sym (take_more texts i [] (omega arith)))

pub returns : goal.returns
returns c = written_all c.args.texts.now c.loop-i.bytes.items c.extend_from_slice.new.self.items c.in_ok-bytes.bytes.items c.to_be_bytes.result
    c.loop-i.i c.loop-i.invariant c.in_ok-extend_from_slice.ensures.items c.in_ok-bytes.ensures.items (c.to_be_bytes.ensures ∙ ap number c.len.ensures.len) (omega arith)
