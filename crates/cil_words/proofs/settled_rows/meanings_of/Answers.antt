-- cil_words/proofs/settled_rows/meanings_of/Answers.antt
use Rattle.std.proofs.Common.{◌<◌, ◌≤◌, ◌∙◌, ◌++◌, ◌∷◌, [], ap, arith, get_or, length, refl}
use Rattle.cil_base.specs.MadeLists.{all_mapped, one_mapped}
use Rattle.cil_names.specs.Entries.{is_in}
use Rattle.cil_words.specs.Table.{ask_value, word_ask}
use Rattle.cil_words.proofs.settled_rows.meanings_of.Goals as goal

pub loop-place-preserved : goal.loop-place-preserved
loop-place-preserved c =
    let cells = c.args.cells.now in
    let place = c.loop-place.place in
    let within : place < length cells = let h = c.loop-place-test.true in let n = c.len-place-end.ensures in omega (arith, h, n) in
    one_mapped (ask_value (is_in c.args.declared.now)) cells place (get_or cells place (word_ask [])) (word_ask []) [] _ _ within refl c.loop-place.invariant
    (c.in_ok-push.ensures.items ∙ ap (λ m. c.loop-place.words.items ++ m ∷ []) (c.in_ok-of.ensures ∙ c.value_at.ensures))

pub returns : goal.returns
returns c =
    let cells = c.args.cells.now in
    let over : length cells ≤ c.loop-place.place = let h = c.loop-place-test.false in let n = c.len-place-end.ensures in omega (arith, h, n) in
    all_mapped (ask_value (is_in c.args.declared.now)) cells c.loop-place.place [] _ over c.loop-place.invariant
