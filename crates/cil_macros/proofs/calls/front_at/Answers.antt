use Rattle.std.proofs.Common.{◌∙◌, ap, refl, sym}
use Rattle.cil_syntax.specs.Said.{all_said}
use Rattle.cil_syntax.specs.Written as written
use Rattle.cil_syntax.specs.Written.{Written}
use Rattle.cil_blocks.specs.Contents.{first_word}
use Rattle.cil_blocks.proofs.TargetsSo.{no_word, some_word}
use Rattle.cil_macros.proofs.calls.front_at.Goals as goal

pub returns-in_default : goal.returns-in_default
returns-in_default c = λ p here. ap (λ (w : Written). first_word w.statement.args) (c.in_default.ensures p here)

pub returns-in_default-word_and_terms : goal.returns-in_default-word_and_terms
returns-in_default-word_and_terms c = λ p here.
    let x = c.in-Some.statement.now in
    ap (λ (y : written.Statement). first_word y.args) (c.in-Some.ensures p here)
    ∙ ap (λ ts. first_word (all_said x.at.«module» ts)) (sym c.as_slice.ensures.value)
    ∙ no_word (all_said x.at.«module» c.as_slice.result.now) c.in_default-word_and_terms.ensures

pub returns : goal.returns
returns c = λ p here.
    let x = c.in-Some.statement.now in
    record {
      word = c.in-Some-word_and_terms.front.word;
      first = ap (λ (y : written.Statement). first_word y.args) (c.in-Some.ensures p here)
          ∙ ap (λ ts. first_word (all_said x.at.«module» ts)) (sym c.as_slice.ensures.value)
          ∙ some_word (all_said x.at.«module» c.as_slice.result.now) _ c.in-Some-word_and_terms.front.word c.in-Some-word_and_terms.ensures;
      is = refl;
    }
