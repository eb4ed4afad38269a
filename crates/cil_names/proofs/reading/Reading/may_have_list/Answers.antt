use Rattle.std.proofs.Common.{◌≡◌, true, false, ◌∙◌, ap, sym}
use Rattle.std.specs.Prelude.{◌||◌}
use Rattle.cil_macros.specs.Calls.{is_call}
use Rattle.cil_macros.specs.Items.{may_say_lists}
use Rattle.cil_names.specs.Readings.{item_read}
use Rattle.cil_names.proofs.ReadingLemmas.{keyword_read}
use Rattle.cil_names.proofs.reading.Reading.may_have_list.Goals as goal

pub returns-then-is_call : goal.returns-then-is_call
returns-then-is_call c = record {
  lists = λ yes_. ap (λ b. b || may_say_lists (item_read c.args.self.now).keyword) (ap is_call (keyword_read c.args.self.now c.requires) ∙ sym c.is_call.ensures ∙ c.if-is_call.true);
  words = λ e. absurd (let g : true ≡ false = e in cc);
}

pub returns : goal.returns
returns c = record {
  lists = c.may_have_list.ensures.lists;
  words = λ e. record { here = sym c.is_call.ensures ∙ c.if-is_call.false; words = c.may_have_list.ensures.words e };
}
