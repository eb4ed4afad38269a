use Rattle.std.proofs.Common.{◌≡◌, ◌∙◌, ◌∷◌, true, ap, sym}
use Rattle.cil_faults.specs.Namespaces.{qualified}
use Rattle.cil_blocks.specs.Namespaces.{space_at}
use Rattle.cil_macros.specs.Items.{item_at, word_at}
use Rattle.cil_macros.proofs.ItemsThere.{keyword_there, named_there}
use Rattle.cil_known.specs.Known.{enabled_in}
use Rattle.cil_syntax.specs.Said.{all_said}
use Rattle.cil_tables.specs.Booleans.{is_boolean, named_on}
use Rattle.cil_tables.proofs.BooleanLemmas.{boolean_as_written, boolean_named, named_across, not_enabled, other_statement, says_no, says_yes}
use Rattle.cil_tables.proofs.booleans.push_on.Goals as goal

pub returns-then-not-is_boolean : goal.returns-then-not-is_boolean
returns-then-not-is_boolean c =
    let i = c.args.instances.now in
    other_statement (enabled_in c.args.known.now) (item_at i c.args.at) c.args.on.now.items
    (ap is_boolean (keyword_there i c.args.at c.statement_there-statement.result.now c.statement_there-statement.ensures.is) ∙ sym c.is_boolean.ensures ∙ c.if-not-is_boolean.true)

pub returns-then-not-is_enabled : goal.returns-then-not-is_enabled
returns-then-not-is_enabled c = not_enabled (enabled_in c.args.known.now) (item_at c.args.instances.now c.args.at) c.args.on.now.items (sym c.is_enabled.ensures ∙ c.if-not-is_enabled.true)

pub returns-in_default : goal.returns-in_default
returns-in_default c =
    let i = c.args.instances.now in
    let s = c.statement_there-statement.result.now in
    let boolean : is_boolean s.keyword ≡ true = sym c.is_boolean.ensures ∙ c.if-not-is_boolean.false in
    let says = named_there i c.args.at s c.statement_there-statement.ensures.is (boolean_named s.keyword boolean) (boolean_as_written s.keyword boolean) in
    says_no (enabled_in c.args.known.now) (item_at i c.args.at) c.args.on.now.items
    (ap named_on says ∙ named_across (word_at i c.args.at) _ ∙ ap (λ ts. named_on (all_said s.at.«module» ts)) (sym c.as_slice.ensures.value) ∙ c.in_default.ensures)

pub returns : goal.returns
returns c =
    let i = c.args.instances.now in
    let s = c.statement_there-statement.result.now in
    let k = c.args.known.now in
    let boolean : is_boolean s.keyword ≡ true = sym c.is_boolean.ensures ∙ c.if-not-is_boolean.false in
    let says = named_there i c.args.at s c.statement_there-statement.ensures.is (boolean_named s.keyword boolean) (boolean_as_written s.keyword boolean) in
    says_yes (enabled_in k) (item_at i c.args.at) c.args.on.now.items (sym c.is_enabled.ensures ∙ c.if-not-is_enabled.false)
    (ap is_boolean (keyword_there i c.args.at s c.statement_there-statement.ensures.is) ∙ boolean) c.in-Some.name.now
    (ap named_on says ∙ named_across (word_at i c.args.at) _ ∙ ap (λ ts. named_on (all_said s.at.«module» ts)) (sym c.as_slice.ensures.value) ∙ c.in-Some.ensures)
    c.in_ok-spelled.field-0
    (c.in_ok-spelled.ensures ∙ ap (λ ss. qualified (c.in-Some.name.now ∷ space_at ss c.space-space.result)) c.requires.namespaces ∙ ap (λ n. qualified (c.in-Some.name.now ∷ n)) c.space-space.ensures.is)
    c.push.new.self.items c.in_ok-push.ensures.items
