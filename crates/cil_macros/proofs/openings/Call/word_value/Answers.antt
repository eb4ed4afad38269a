use Rattle.std.proofs.Common.{◌∙◌, ap, refl, sym}
use Rattle.std.specs.Prelude.{◌&&◌, codes}
use Rattle.cil_syntax.specs.declared.term.Op.TheVariants as ops
use Rattle.cil_syntax.specs.declared.term.Word.{Word}
use Rattle.cil_syntax.specs.Spelling.{same_bytes}
use Rattle.cil_macros.specs.declared.listed.Listed.{Listed}
use Rattle.cil_macros.specs.Puts.{is_of_sets}
use Rattle.cil_macros.specs.Scene.{placed_of_scene}
use Rattle.cil_macros.proofs.AnyLemmas.{both_ok}
use Rattle.cil_macros.proofs.ArgumentValues.{every_says, word_says}
use Rattle.cil_macros.proofs.openings.Call.word_value.Goals as goal

pub returns-then-is_every : goal.returns-then-is_every
returns-then-is_every c =
    let call = c.args.self.now in
    let l : Listed = record { at = c.args.word.now.at; op = ops.All; parts = c.new.result } in
    every_says call.scene.now call.at c.args.kind c.args.word.now
    (sym c.if-is_every.true ∙ c.is_every.ensures ∙ ap (λ b. is_of_sets c.args.kind && same_bytes b (codes "all")) c.as_slice.ensures) l refl refl c.new.ensures.items

pub returns : goal.returns
returns c =
    let call = c.args.self.now in
    let own : Word = record { at = c.args.word.now.at; bytes = c.of.result; sign = c.sign_of.result } in
    both_ok _ _ _ c.as_argument.result
    (λ value says whole.
    word_says call.scene.now call.at c.args.kind c.args.word.now own
    (sym c.if-is_every.false ∙ c.is_every.ensures ∙ ap (λ b. is_of_sets c.args.kind && same_bytes b (codes "all")) c.as_slice.ensures)
    refl (c.of.ensures ∙ c.as_slice-2.ensures) c.sign_of.ensures value
    (λ p here. says (placed_of_scene call.scene.now) _ ∙ c.meaning_at-meaning.ensures.says p here)
    (whole (placed_of_scene call.scene.now) c.meaning_at-meaning.ensures.whole))
    c.as_argument.ensures.says c.as_argument.ensures.whole
