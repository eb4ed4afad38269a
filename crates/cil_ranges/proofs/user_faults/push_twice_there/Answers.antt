use Rattle.std.proofs.Common.{◌++◌, ◌∷◌, [], ◌∙◌, ap}
use Rattle.cil_faults.specs.Reported.{fault_at}
use Rattle.cil_faults.specs.declared.code.FaultCode.TheVariants as causes
use Rattle.cil_syntax.specs.Scopes.{ScopedWord}
use Rattle.cil_macros.specs.Items.{all_placed, item_at, says_lists}
use Rattle.cil_macros.specs.Listed.{all_parts_of, parts_there}
use Rattle.cil_ranges.proofs.WalkLemmas.{word_parts}
use Rattle.cil_ranges.proofs.user_faults.push_twice_there.Goals as goal

pub parts-requires-clause-lists : goal.parts-requires-clause-lists
parts-requires-clause-lists c = ap says_lists c.requires.gives

pub returns : goal.returns
returns c = λ w rest says.
    let i = c.args.instances.now in
    let x = item_at i c.args.at in
    let items = c.args.faults.now.items in
    let front = c.in-Some.ensures (all_placed i) w (all_parts_of rest) (ap (parts_there (all_placed i)) c.as_slice.ensures.value ∙ c.in_ok-parts.ensures.parts ∙ ap all_parts_of says ∙ word_parts w rest) in
    c.in_ok-push_told.ensures ∙ ap (λ z. items ++ fault_at causes.UserRangeTwice c.in-Some.there.now.word.at x.space z ∷ []) c.as_slice-2.ensures
    ∙ ap (λ (z : ScopedWord). items ++ fault_at causes.UserRangeTwice z.at x.space z.bytes ∷ []) front
